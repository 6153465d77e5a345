-- What a Prepare that was sent to a node writes there is noted, and each Prepared of the node wrote this.
use Rattle.std.proofs.Common.{◌≡◌, ℕ, ◌-◌, ◌==◌, inl, inr, Bool, true, false, List, [], ◌∷◌, ◌++◌, length, Option, Some, None, refl, sym, ap, subst, ◌∙◌, zero, suc, arith, if◌then◌else◌}
use Rattle.std.specs.Prelude.{slice_get}
use Rattle.std.proofs.lemmas.Bool.{cases_eq}
use Rattle.std.proofs.lemmas.Bool.Decides.{nat_tests}
use Rattle.score_base.specs.declared.ids.TxId.{TxId}
use Rattle.score_base.specs.declared.ids.NodeId.{NodeId}
use Rattle.score_base.specs.declared.ids.Ident.{Ident}
use Rattle.score_base.specs.declared.ids.Value.{Value}
use Rattle.score_base.specs.declared.keys.Key.{Key}
use Rattle.score_base.specs.declared.causes.Outcome.TheVariants as outcome
use Rattle.score_base.specs.declared.records.Record.{Record}
use Rattle.score_base.specs.declared.records.Record.TheVariants as record'
use Rattle.script_lang.specs.Scripts.{ScriptData}
use Rattle.journal_words.specs.Journals.{Prepared, prepared_of, older}
use Rattle.grid_model.specs.declared.acts.Act.{Act}
use Rattle.grid_model.specs.declared.acts.Act.TheVariants as act
use Rattle.grid_model.specs.declared.acts.Flag.{Flag}
use Rattle.grid_model.specs.declared.acts.Flag.TheVariants as flag
use Rattle.grid_model.specs.declared.acts.Head.{Head}
use Rattle.grid_model.specs.declared.acts.Head.TheVariants as head
use Rattle.grid_model.specs.declared.messages.Envelope.{Envelope}
use Rattle.grid_model.specs.declared.messages.Message.{Message}
use Rattle.grid_model.specs.declared.messages.Message.TheVariants as message
use Rattle.grid_model.specs.declared.messages.Prepare.{Prepare}
use Rattle.grid_model.specs.Documents.{DocumentData}
use Rattle.grid_model.specs.Facts.{IsPrepareSent}
use Rattle.grid_model.specs.Histories.{sent, sent_at}
use Rattle.grid_model.specs.Keyed.{at_key, put_key}
use Rattle.grid_model.specs.Nodes.{got, node, script_of, record_of}
use Rattle.run_tally.specs.declared.noted.Noted.{Noted}
use Rattle.run_tally.specs.Tallies.{NodeData, node_in, with_node, noted, with_record, with_stop, with_start, found, as_noted, home_by, nodes_at, nodes_behind}
use Rattle.run_tally.proofs.ForCode.{AllDue, RecordDue, NodeHolds, AllHold, HoldsIn, records-hold, sent-last, sent-none, prepared-is, prepares-agree}
use Rattle.run_tally.proofs.Entries.{at-put_cases, node-put, tally}

-- ---- messages stay sent

slice-more : (xs ys : List Envelope) (i : ℕ) (e : Envelope) → slice_get xs i ≡ Some e → slice_get (xs ++ ys) i ≡ Some e
slice-more [] ys i e is = cc
slice-more (x ∷ xs) ys zero e is = is
slice-more (x ∷ xs) ys (suc i) e is = slice-more xs ys i e is

at-more : (b : Bool) (xs ys : List Envelope) (i : ℕ) (e : Envelope) → (if b then None else slice_get xs i) ≡ Some e →
    (if b then None else slice_get (xs ++ ys) i) ≡ Some e
at-more true xs ys i e is = cc
at-more false xs ys i e is = slice-more xs ys i e is

sent-stays : (past : List Act) (a : Act) (m : ℕ) (e : Envelope) → sent_at m (sent past) ≡ Some e →
    sent_at m (sent (a ∷ past)) ≡ Some e
sent-stays past (act.Sent k x y said) m e is =
    at-more (m == 0) (sent past) (record { from = x; to = y; message = said } ∷ []) (m - 1) e is
sent-stays past a m e is = is

slice-end : (xs : List Envelope) (e : Envelope) → slice_get (xs ++ e ∷ []) (length xs) ≡ Some e
slice-end [] e = refl
slice-end (x ∷ xs) e = slice-end xs e

sent-end : (xs : List Envelope) (e : Envelope) → sent_at (suc (length xs)) (xs ++ e ∷ []) ≡ Some e
sent-end xs e =
    let no : (suc (length xs) == 0) ≡ false = grind (arith, nat_tests) in
    let less : suc (length xs) - 1 ≡ length xs = omega arith in
    rw (no, less) (slice-end xs e)

-- the message that was got last was sent
got-sent : (past : List Act) (e : Envelope) → got past ≡ Some e → (m : ℕ) × (sent_at m (sent past) ≡ Some e)
got-sent [] e is = cc
got-sent (act.Got m ∷ past) e is = (m, is)
got-sent (act.Sent k x y said ∷ past) e is = let s = got-sent past e is in
    (s.0, sent-stays past (act.Sent k x y said) s.0 e s.1)
got-sent (a ∷ past) e is = got-sent past e is

-- ---- what changes no note

writes-found : (f : Flag) (h : Option Head) (x : NodeData) → (found f h x).writes ≡ x.writes
writes-found flag.Kept None x = refl
writes-found flag.Kept (Some (head.Ended t (outcome.Commit f))) x = refl
writes-found flag.Kept (Some (head.Ended t outcome.Abort)) x = refl
writes-found flag.Kept (Some h) x = refl
writes-found f h x = refl

writes-record : (h : Head) (x : NodeData) → (with_record h x).writes ≡ x.writes
writes-record h x = writes-found flag.Kept (Some h) x

-- a change of one node that leaves the notes
writes-at : (m n : NodeId) (f : NodeData → NodeData) (xs : List (NodeId × NodeData)) →
    (f (node_in n xs)).writes ≡ (node_in n xs).writes → (node_in n (with_node m f xs)).writes ≡ (node_in n xs).writes
writes-at m n f xs same = rw (node-put m n f xs) (go (m == n))
  where
    go : (b : Bool) → (if b then f (node_in n xs) else node_in n xs).writes ≡ (node_in n xs).writes
    go true = same
    go false = refl

writes-decided : (o : Option ScriptData) (n : NodeId) (t : TxId) (f : Ident) (xs : List (NodeId × NodeData)) →
    (node_in n (nodes_at (home_by o) (act.Decided t f) xs)).writes ≡ (node_in n xs).writes
writes-decided None n t f xs = refl
writes-decided (Some s) n t f xs = writes-at s.home n (with_record (head.Decided t f)) xs refl

-- an act that sends nothing
abbrev is_silent : Act → Bool
is_silent (act.Sent m x y said) = false
is_silent a = true

writes-stay : (d : DocumentData) (a : Act) (n : NodeId) (xs : List (NodeId × NodeData)) → is_silent a ≡ true →
    (node_in n (nodes_behind d a xs)).writes ≡ (node_in n xs).writes
writes-stay d (act.Sent m x y said) n xs silent = cc
writes-stay d (act.Prepared m t p) n xs silent = writes-at m n (with_record (head.Prepared t p)) xs refl
writes-stay d (act.Ended m t o) n xs silent =
    writes-at m n (with_record (head.Ended t o)) xs (writes-record (head.Ended t o) (node_in n xs))
writes-stay d (act.Decided t f) n xs silent = writes-decided (script_of t d.scripts) n t f xs
writes-stay d (act.Down m h) n xs silent = writes-at m n (with_stop h) xs refl
writes-stay d (act.Up m f) n xs silent =
    writes-at m n (with_start f) xs (writes-found f (node_in n xs).stopped (node_in n xs))
writes-stay d a n xs silent = refl

-- ---- each Prepare that was sent is noted

-- what the Prepare of t to n wrote is noted
abbrev pub IsNoted : DocumentData → List Act → NodeId → TxId → List (Key × Value) → Type 0
IsNoted d past n t ws = at_key t (node_in n (tally d past).nodes).writes ≡ Some (as_noted ws)

-- a message comes on its way to y
noted-behind : (d : DocumentData) (past : List Act) (k : ℕ) (x y n : NodeId) (said : Message) (t : TxId)
    (ws : List (Key × Value)) → ((q : Prepare) → said ≡ message.Prepare q → y ≡ n → q.t ≡ t → q.writes ≡ ws) →
    IsNoted d past n t ws → IsNoted d (act.Sent k x y said ∷ past) n t ws
noted-behind d past k x y n said t ws agrees before =
    let xs : List (NodeId × NodeData) = (tally d past).nodes in
    rw (node-put y n (noted said) xs) (go said refl (y == n) refl)
  where
    put : (q : Prepare) → said ≡ message.Prepare q → (y == n) ≡ true →
        (if q.t == t then Some (as_noted q.writes) else at_key t (node_in n (tally d past).nodes).writes)
        ≡ Some (as_noted ws)
    put q is at = elim (cases_eq q.t t) [
      | inl same ↦ let here : (q.t == t) ≡ true = grind (arith, nat_tests) in
          let there : y ≡ n = grind (arith, nat_tests, at) in rw here (ap (λ vs. Some (as_noted vs)) (agrees q is there same))
      | inr other ↦ let apart : (q.t == t) ≡ false = grind (arith, nat_tests) in rw apart before
    ]

    go : (w : Message) → said ≡ w → (b : Bool) → (y == n) ≡ b →
        at_key t (if b then noted w (node_in n (tally d past).nodes) else node_in n (tally d past).nodes).writes ≡
        Some (as_noted ws)
    go w is false at = before
    go (message.Prepare q) is true at = at-put_cases q.t t (as_noted q.writes) (node_in n (tally d past).nodes).writes
        ∙ put q is at
    go w is true at = before

-- the message that is sent last
noted-last : (d : DocumentData) (past : List Act) (k : ℕ) (x n : NodeId) (q : Prepare) →
    IsNoted d (act.Sent k x n (message.Prepare q) ∷ past) n q.t q.writes
noted-last d past k x n q =
    let xs : List (NodeId × NodeData) = (tally d past).nodes in
    let here : (n == n) ≡ true = grind (arith, nat_tests) in
    let put : at_key q.t (put_key q.t (as_noted q.writes) (node_in n xs).writes) ≡ Some (as_noted q.writes) =
    at-put_cases q.t q.t (as_noted q.writes) (node_in n xs).writes ∙ grind (arith, nat_tests) in
    rw (node-put n n (noted (message.Prepare q)) xs, here) put

pub sends-noted : (d : DocumentData) (past : List Act) → AllDue d past → (m : ℕ) (x n : NodeId) (q : Prepare) →
    IsPrepareSent past m x n q → IsNoted d past n q.t q.writes
sends-noted d [] due m x n q is = absurd (sent-none m (m == 0) _ is)
sends-noted d (act.Sent k u y said ∷ past) due m x n q is =
    elim (sent-last m (m == 0) (sent past) (record { from = u; to = y; message = said }) (record { from = x; to = n; message = message.Prepare q }) is) [
      | inl before ↦ noted-behind d past k u y n said q.t q.writes (agree before) (sends-noted d past due.1 m x n q before)
      | inr same ↦ let P : Envelope → Type 0 = λ z. IsNoted d (act.Sent k z.from z.to z.message ∷ past) n q.t q.writes in
          subst P (sym same) (noted-last d past k x n q)
    ]
  where
    agree : sent_at m (sent past) ≡ Some (record { from = x; to = n; message = message.Prepare q }) → (p : Prepare) →
        said ≡ message.Prepare p → y ≡ n → p.t ≡ q.t → p.writes ≡ q.writes
    agree before p says there same =
        let a : List Act = act.Sent k u y said ∷ past in
        let last : sent_at (suc (length (sent past)))
        (sent past ++ record { from = u; to = y; message = said } ∷ []) ≡ Some
        (record { from = u; to = y; message = said }) =
        sent-end (sent past) (record { from = u; to = y; message = said }) in
        let P : Message → Type 0 = λ w. sent_at (suc (length (sent past))) (sent a) ≡ Some
        (record { from = u; to = y; message = w }) in
        let now : IsPrepareSent a (suc (length (sent past))) u y p = subst P says last in
        let Q : NodeId → Type 0 = λ w. IsPrepareSent a (suc (length (sent past))) u w p in
        let old : IsPrepareSent a m x n q = sent-stays past (act.Sent k u y said) m _ before in
        ap (λ (w : Prepare). w.writes) (prepares-agree d a due (suc (length (sent past))) m u x n p q (subst Q there now) old same).1
sends-noted d (a ∷ past) due m x n q is =
    let P : List (TxId × Noted) → Type 0 = λ ws. at_key q.t ws ≡ Some (as_noted q.writes) in
    subst P (sym (writes-stay d a n (tally d past).nodes refl)) (sends-noted d past due.1 m x n q is)

-- ---- each Prepared wrote what is noted

-- a Prepared of n stands behind a Prepare that was sent to it
abbrev IsBehind : DocumentData → List Act → NodeId → Record → Type 0
IsBehind d past n (record'.Prepared t home parts sid p reads writes) =
    (m : ℕ) × (q : Prepare) × IsPrepareSent past m home n q × (q.t ≡ t) × (q.writes ≡ writes)
IsBehind d past n y = Unit {0}

behind-more : (d : DocumentData) (past : List Act) (a : Act) (n : NodeId) (y : Record) → IsBehind d past n y →
    IsBehind d (a ∷ past) n y
behind-more d past a n (record'.Prepared t home parts sid p reads writes) (m, q, is, same, wrote) =
    (m, q, sent-stays past a m _ is, same, wrote)
behind-more d past a n y is = tt

behind-due : (d : DocumentData) (past : List Act) (n : NodeId) (h : Head) → RecordDue d past n h →
    HoldsIn (IsBehind d past n) (record_of d (got past) h)
behind-due d past n (head.Prepared t p) due =
    let q : Prepare = due.1.asked.prepare in
    let s = got-sent past (record { from = due.1.from; to = n; message = message.Prepare q }) due.1.asked.got in
    rw (prepared-is d past n t p due.1) (s.0, q, s.1, sym due.1.asked.is, refl)
behind-due d past n h due = tt

prepared-behind : (d : DocumentData) (past : List Act) → AllDue d past → (n : NodeId) →
    NodeHolds (IsBehind d past n) (node d past n)
prepared-behind d past due n = records-hold (IsBehind d) d past (λ now a k y all h. behind-more d now a k y h)
    (λ now k h all r. behind-due d now k h r) due n

-- the older of two Prepared of t
older-noted : (d : DocumentData) (past : List Act) → AllDue d past →
    (n : NodeId) (t : TxId) (x y : Prepared) (o : Option Prepared) (m : ℕ) (home : NodeId) (q : Prepare) →
    IsPrepareSent past m home n q → q.t ≡ t → q.writes ≡ y.writes → older o y ≡ Some x →
    (o ≡ Some x → IsNoted d past n t x.writes) → IsNoted d past n t x.writes
older-noted d past due n t x y (Some z) m home q is same wrote e go = go e
older-noted d past due n t x y None m home q is same wrote e go =
    let z : y ≡ x = cc in
    let W : q.writes ≡ x.writes = wrote ∙ ap (λ (w : Prepared). w.writes) z in
    let at : IsNoted d past n q.t q.writes = sends-noted d past due m home n q is in
    let P : TxId → Type 0 = λ k. IsNoted d past n k q.writes in
    let Q : List (Key × Value) → Type 0 = λ ws. IsNoted d past n t ws in
    subst Q W (subst P same at)

-- the first Prepared of t among records behind Prepares that were sent
first-noted : (d : DocumentData) (past : List Act) → AllDue d past →
    (n : NodeId) (t : TxId) (x : Prepared) (r : List Record) → AllHold (IsBehind d past n) r →
    prepared_of t r ≡ Some x → IsNoted d past n t x.writes
first-noted d past due n t x [] all e = cc
first-noted d past due n t x (record'.Prepared u home parts sid p reads writes ∷ r) all e = elim (cases_eq u t) [
  | inl same ↦ older-noted d past due n t x
      (record { home = home; sid = sid; proposal = p; reads = reads; writes = writes })
      (prepared_of t r) all.0.0 home all.0.1 all.0.2 (all.0.3 ∙ same) all.0.4 (grind (arith, nat_tests, e))
      (λ f. first-noted d past due n t x r all.1 f)
  | inr other ↦ first-noted d past due n t x r all.1 (grind (arith, nat_tests, e))
]
first-noted d past due n t x (record'.Ended u o ∷ r) all e = first-noted d past due n t x r all.1 e
first-noted d past due n t x (record'.Ceiling c ∷ r) all e = first-noted d past due n t x r all.1 e
first-noted d past due n t x (record'.Decided u f parts ∷ r) all e = first-noted d past due n t x r all.1 e
first-noted d past due n t x (record'.Closed u ∷ r) all e = first-noted d past due n t x r all.1 e

-- what the first Prepared of t at n wrote is noted
pub prepared-noted : (d : DocumentData) (past : List Act) → AllDue d past → (n : NodeId) (t : TxId) (x : Prepared) →
    prepared_of t (node d past n).journal ≡ Some x → IsNoted d past n t x.writes
prepared-noted d past due n t x is = first-noted d past due n t x (node d past n).journal
    (prepared-behind d past due n).journal is
