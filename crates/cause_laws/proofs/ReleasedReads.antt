-- A release serves each held read that is clear, and the others stay held and wait.
use Rattle.grid_laws.proofs.EachActs.{tests-append}
use Rattle.cause_laws.proofs.HeldNodes.{IsKeptRead, has_read, is_serving, is_waiting_read}
use Rattle.grid_laws.proofs.Frames.{same-number}
use Rattle.script_lang.proofs.KeyLists.{same_key-self}
use Rattle.grid_model.specs.Documents.{DocumentData}
use Rattle.grid_model.specs.Histories.{after}
use Rattle.journal_words.specs.Journals.{is_clear, later}
use Rattle.grid_model.specs.Nodes.{Frees, Node, changed, got, is_read, is_request, journal, node, said_by, without_read}
use Rattle.grid_model.specs.Rows.{release, served, version_for}
use Rattle.grid_model.specs.Schedules.{numbered}
use Rattle.grid_model.specs.declared.acts.Act.TheVariants as act
use Rattle.grid_model.specs.declared.acts.Act.{Act}
use Rattle.grid_model.specs.declared.messages.Message.TheVariants as message
use Rattle.grid_model.specs.declared.stories.HeldRead.{HeldRead}
use Rattle.journal_words.specs.declared.versions.Version.{Version}
use Rattle.score_base.specs.Keys.{same_key}
use Rattle.score_base.specs.declared.ids.Ident.{Ident}
use Rattle.score_base.specs.declared.ids.NodeId.{NodeId}
use Rattle.score_base.specs.declared.ids.TxId.{TxId}
use Rattle.score_base.specs.declared.ids.Value.{Value}
use Rattle.score_base.specs.declared.records.Record.{Record}
use Rattle.std.proofs.Common.{Bool, List, [], ap, arith, false, inl, inr, refl, subst, sym, true, ℕ, ◌++◌, ◌+◌, ◌||◌, ◌∙◌, ◌∷◌, ◌≡◌, ◌⊎◌}
use Rattle.std.proofs.lemmas.Bool.Decides.{nat_tests}
use Rattle.std.proofs.lemmas.Bool.{and_from, and_parts, or_cases, or_left, or_right}
use Rattle.std.specs.List.{list_all, list_any}
use Rattle.std.specs.Prelude.{if◌then◌else◌, not, ◌&&◌, ◌==◌}

-- ---- Release

same-self : (h : HeldRead) → is_read h.t h.op h.key h.sid h ≡ true
same-self h = and_from (h.t == h.t) ((h.op == h.op) && (same_key h.key h.key && (h.sid == h.sid))) (same-number h.t) (and_from (h.op == h.op) (same_key h.key h.key && (h.sid == h.sid)) (same-number h.op) (and_from (same_key h.key h.key) (h.sid == h.sid) (same_key-self h.key) (same-number h.sid)))

read-sid : (h y : HeldRead) → is_read h.t h.op h.key h.sid y ≡ true → y.sid ≡ h.sid
read-sid h y e =
    let a = and_parts (y.t == h.t) ((y.op == h.op) && (same_key y.key h.key && (y.sid == h.sid))) e in
    let b = and_parts (y.op == h.op) (same_key y.key h.key && (y.sid == h.sid)) a.1 in
    let c = and_parts (same_key y.key h.key) (y.sid == h.sid) b.1 in
    let same : (y.sid == h.sid) ≡ true = c.1 in
    grind (arith, nat_tests, same)

-- the read that is served is the first of its kind
served-away : (r : List Record) (h : HeldRead) (before hs : List HeldRead) → is_clear h.sid r ≡ true
    → list_all (is_waiting_read r) before ≡ true → without_read h.t h.op h.key h.sid (before ++ h ∷ hs) ≡ before ++ hs
served-away r h [] hs clear waits =
    let P : Bool → Type 0 = λ b. (if b then hs else h ∷ without_read h.t h.op h.key h.sid hs) ≡ hs in
    subst P (sym (same-self h)) refl
served-away r h (y ∷ before) hs clear waits = go (is_read h.t h.op h.key h.sid y) refl (served-away r h before hs clear both.1)
  where
    both : (is_waiting_read r y ≡ true) × (list_all (is_waiting_read r) before ≡ true)
    both = and_parts (is_waiting_read r y) (list_all (is_waiting_read r) before) waits

    go : (b : Bool) → is_read h.t h.op h.key h.sid y ≡ b
        → without_read h.t h.op h.key h.sid (before ++ h ∷ hs) ≡ before ++ hs
        → (if b then before ++ h ∷ hs else y ∷ without_read h.t h.op h.key h.sid (before ++ h ∷ hs))
        ≡ y ∷ (before ++ hs)
    go true e more =
        let P : Ident → Type 0 = λ i. is_clear i r ≡ true in
        let is : is_clear y.sid r ≡ true = subst P (sym (read-sid h y e)) clear in
        let Q : Bool → Type 0 = λ b. not b ≡ true in
        (let f : false ≡ true = subst Q is both.0 in cc)
    go false e more = ap (λ z. y ∷ z) more

-- ---- what Release leaves

-- node k behind these acts: up as before, with held reads that wait
pub record Released (d : DocumentData) (now acts : List Act) (k : NodeId) (hs : List HeldRead) : Type 0 where
  pub waits : list_all (is_waiting_read (journal d (after now acts) k)) (node d (after now acts) k).held ≡ true
  pub up : (node d (after now acts) k).up ≡ (node d now k).up
  pub kept : (t : TxId) (j : ℕ) → has_read t j hs ≡ true → IsKeptRead d now acts k t j

moved-append : (xs ys : List HeldRead) (h : HeldRead) → (xs ++ h ∷ []) ++ ys ≡ xs ++ h ∷ ys
moved-append [] ys h = refl
moved-append (x ∷ xs) ys h = ap (λ z. x ∷ z) (moved-append xs ys h)

any-drop : (p : HeldRead → Bool) (xs ys : List HeldRead) (h : HeldRead) → list_any p (xs ++ h ∷ ys) ≡ true
    → (p h ≡ true) ⊎ (list_any p (xs ++ ys) ≡ true)
any-drop p [] ys h e = or_cases (p h) (list_any p ys) e
any-drop p (x ∷ xs) ys h e = elim (or_cases (p x) (list_any p (xs ++ h ∷ ys)) e) [
  | inl here ↦ inr (or_left (p x) (list_any p (xs ++ ys)) here)
  | inr later ↦ elim (any-drop p xs ys h later) [ inl first ↦ inl first | inr rest ↦ inr (or_right (p x) (list_any p (xs ++ ys)) rest) ]
]

served-node : (d : DocumentData) (now : List Act) (k : NodeId) (h : HeldRead) (vn : Ident) (v : Value)
    → is_request (said_by (got now)) ≡ false
    → node d (act.Served k h.t h.op h.key h.sid vn v ∷ now) k ≡ changed (Frees h.t h.op h.key h.sid) (node d now k)
served-node d now k h vn v quiet = rw (same-number k, quiet) refl

-- the reads that were passed over stand before those that are left
pub release-kept : (d : DocumentData) (now : List Act) (m : ℕ) (k : NodeId) (r : List Record)
    (before hs : List HeldRead) → is_request (said_by (got now)) ≡ false → journal d now k ≡ r
    → (node d now k).held ≡ before ++ hs → list_all (is_waiting_read r) before ≡ true
    → Released d now (numbered m k (release d.cluster r k hs)) k (before ++ hs)
release-kept d now m k r before [] quiet at has waits =
    let none : (xs : List HeldRead) → xs ++ [] ≡ xs = append-none in
    let P : List HeldRead → Type 0 = λ z. list_all (is_waiting_read (journal d now k)) z ≡ true in
    let Q : List Record → Type 0 = λ z. list_all (is_waiting_read z) before ≡ true in
    record {
      waits = subst P (sym (has ∙ none before)) (subst Q (sym at) waits);
      up = refl;
      kept = λ t j h. let R : List HeldRead → Type 0 = λ z. has_read t j z ≡ true in subst R (sym has) h;
    }
  where
    append-none : (xs : List HeldRead) → xs ++ [] ≡ xs
    append-none [] = refl
    append-none (x ∷ xs) = ap (λ z. x ∷ z) (append-none xs)
release-kept d now m k r before (h ∷ hs) quiet at has waits = go (is_clear h.sid r) refl (λ n' m' b' q a e w. release-kept d n' m' k r b' hs q a e w)
  where
    w : Version
    w = version_for d.cluster r h.key h.sid

    serve : Act
    serve = act.Served k h.t h.op h.key h.sid w.ident w.value

    send : Act
    send = act.Sent m k h.from (message.ReadRep (record { t = h.t; op = h.op; sid = h.sid; value = w.value }))

    More : Type 0
    More = (now : List Act) (m : ℕ) (before : List HeldRead) → is_request (said_by (got now)) ≡ false → journal d now k ≡ r → (node d now k).held ≡ before ++ hs → list_all (is_waiting_read r) before ≡ true → Released d now (numbered m k (release d.cluster r k hs)) k (before ++ hs)

    go : (b : Bool) → is_clear h.sid r ≡ b → More → Released d now
        (numbered m k ((if b then served k h.t h.op h.key h.sid h.from w else []) ++ release d.cluster r k hs)) k
        (before ++ h ∷ hs)
    go true e more =
        let after' : List Act = send ∷ (serve ∷ now) in
        let rest : List Act = numbered (m + 1) k (release d.cluster r k hs) in
        let is = served-node d now k h w.ident w.value quiet in
        let held' : (node d after' k).held ≡ before ++ hs = ap (λ (z : Node). z.held) is ∙ ap (λ z. without_read h.t h.op h.key h.sid z) has ∙ served-away r h before hs e waits in
        let x = more after' (m + 1) before quiet (ap (λ (z : Node). z.journal) is ∙ at) held' waits in
        record {
          waits = x.waits;
          up = x.up ∙ ap (λ (z : Node). z.up) is;
          kept = λ t j i. elim (any-drop (λ y. y.t == t && y.op == j) before hs h i) [
            | inl here ↦ or_left (list_any (is_serving k t j) (serve ∷ (send ∷ rest))) (has_read t j (node d (after now (serve ∷ (send ∷ rest))) k).held) (or_left (k == k && (h.t == t && h.op == j)) (list_any (is_serving k t j) rest) (and_from (k == k) (h.t == t && h.op == j) (same-number k) here))
            | inr there ↦ moved (k == k && (h.t == t && h.op == j)) (list_any (is_serving k t j) rest) (has_read t j (node d (after now (serve ∷ (send ∷ rest))) k).held) (x.kept t j there)
          ];
        }
      where
        moved : (x y z : Bool) → (y || z) ≡ true → ((x || y) || z) ≡ true
        moved true y z e = refl
        moved false y z e = e
    go false e more =
        let one : (before ++ h ∷ []) ++ hs ≡ before ++ h ∷ hs = moved-append before hs h in
        let waiting' : is_waiting_read r h ≡ true = rw e refl in
        let P : List HeldRead → Type 0 = λ z. Released d now (numbered m k (release d.cluster r k hs)) k z in
        subst P one (more now m (before ++ h ∷ []) quiet at (has ∙ sym one) (tests-append (is_waiting_read r) before (h ∷ []) waits (and_from (is_waiting_read r h) true waiting' refl)))
