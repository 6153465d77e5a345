-- What a request and an outcome that are got leave of the held reads of their node.
use Rattle.grid_laws.proofs.EachActs.{tests-append}
use Rattle.cause_laws.proofs.HeldNodes.{HoldsWaiting, IsKeptRead, has_read, is_serving, is_waiting_read, kept-behind, unheld-kept, unheld-read, unheld-waiting, waiting-later}
use Rattle.cause_laws.proofs.ReleasedReads.{Released, release-kept}
use Rattle.cause_laws.proofs.UnheldOuts.{is_unheld, unheld-acts}
use Rattle.grid_laws.proofs.RowOuts.{Pass, pass-append, pass-to_node}
use Rattle.grid_laws.proofs.Frames.{same-number, up-stays}
use Rattle.grid_model.specs.Advances.{to_node}
use Rattle.grid_model.specs.Documents.{DocumentData}
use Rattle.grid_model.specs.Histories.{after, sent, sent_at}
use Rattle.journal_words.specs.Journals.{ended, home_of, is_clear, is_commit, pending}
use Rattle.grid_model.specs.Nodes.{Holds, Node, Raises, Writes, changed, got, is_request, journal, node, said_by, where_at}
use Rattle.grid_model.specs.Rows.{abort_outs, answered, commit_outs, release, served, tell_outs, if_pending}
use Rattle.grid_model.specs.Schedules.{broken, kept, numbered, row}
use Rattle.grid_model.specs.Stories.{asked}
use Rattle.grid_model.specs.Views.{view, participant}
use Rattle.grid_model.specs.declared.acts.Act.TheVariants as act
use Rattle.grid_model.specs.declared.acts.Act.{Act}
use Rattle.grid_model.specs.declared.acts.Head.TheVariants as head
use Rattle.grid_model.specs.declared.events.Out.TheVariants as out
use Rattle.grid_model.specs.declared.events.Out.{Out}
use Rattle.grid_model.specs.declared.messages.Message.TheVariants as message
use Rattle.grid_model.specs.declared.messages.ReadReq.{ReadReq}
use Rattle.grid_model.specs.declared.stories.HeldRead.{HeldRead}
use Rattle.journal_words.specs.declared.versions.Version.{Version}
use Rattle.score_base.specs.declared.causes.Outcome.TheVariants as outcome
use Rattle.score_base.specs.declared.causes.Outcome.{Outcome}
use Rattle.score_base.specs.declared.ids.Ident.{Ident}
use Rattle.score_base.specs.declared.ids.NodeId.{NodeId}
use Rattle.score_base.specs.declared.ids.TxId.{TxId}
use Rattle.score_base.specs.declared.ids.Value.{Value}
use Rattle.score_base.specs.declared.keys.Key.{Key}
use Rattle.score_base.specs.declared.records.Record.TheVariants as record'
use Rattle.score_base.specs.declared.records.Record.{Record}
use Rattle.std.proofs.Common.{Bool, List, None, Option, Some, [], ap, false, inl, inr, refl, subst, sym, true, ℕ, ◌++◌, ◌+◌, ◌||◌, ◌∙◌, ◌∷◌, ◌≡◌}
use Rattle.std.proofs.lemmas.Bool.{and_from, or_cases, or_left, or_right, both_ways}
use Rattle.std.proofs.lemmas.List.Folds.{list_any-append}
use Rattle.std.specs.List.{list_all, list_any}
use Rattle.std.specs.Prelude.{if◌then◌else◌, not, ◌&&◌, ◌==◌}

or-behind : (x y z : Bool) → (y || z) ≡ true → ((x || y) || z) ≡ true
or-behind true y z e = refl
or-behind false y z e = e

-- what these acts of k leave: held reads that wait, and each read that was held, or that passes, held or answered
pub record RowKept (d : DocumentData) (now acts : List Act) (k : NodeId) (mine : TxId → ℕ → Bool) : Type 0 where
  pub holds : HoldsWaiting (node d (after now acts) k)
  pub kept : (t : TxId) (j : ℕ) → (mine t j || has_read t j (node d now k).held) ≡ true → IsKeptRead d now acts k t j

-- no read passes
abbrev pub nothing : TxId → ℕ → Bool
nothing t j = false

row-unheld : (d : DocumentData) (now acts : List Act) (k : NodeId) → list_all is_unheld acts ≡ true
    → HoldsWaiting (node d now k) → RowKept d now acts k nothing
row-unheld d now acts k u h = record { holds = waiting-later d now acts k u h; kept = λ t j r. unheld-kept d now acts k t j u r }

row-more : (d : DocumentData) (now : List Act) (a : Act) (acts : List Act) (k : NodeId) (mine : TxId → ℕ → Bool)
    → ((t : TxId) (j : ℕ) → has_read t j (node d now k).held ≡ true
    → (is_serving k t j a || has_read t j (node d (a ∷ now) k).held) ≡ true) → RowKept d (a ∷ now) acts k mine
    → RowKept d now (a ∷ acts) k mine
row-more d now a acts k mine keeps row =
    record {
      holds = row.holds;
      kept = λ t j h. elim (or_cases (mine t j) (has_read t j (node d now k).held) h) [
        | inl here ↦ or-behind (is_serving k t j a) (list_any (is_serving k t j) acts) (has_read t j (node d (after now (a ∷ acts)) k).held) (row.kept t j (or_left (mine t j) (has_read t j (node d (a ∷ now) k).held) here))
        | inr there ↦ kept-behind d now a acts k t j (keeps t j there) (λ i. row.kept t j (or_right (mine t j) (has_read t j (node d (a ∷ now) k).held) i))
      ];
    }

-- ---- a request

-- the read that a request names
abbrev pub this_read : ReadReq → TxId → ℕ → Bool
this_read q t j = q.t == t && q.op == j

served-still : (d : DocumentData) (now : List Act) (k : NodeId) (t : TxId) (op : ℕ) (key : Key) (sid vn : Ident)
    (v : Value) → is_request (said_by (got now)) ≡ true → node d (act.Served k t op key sid vn v ∷ now) k ≡ node d now k
served-still d now k t op key sid vn v asked = rw (same-number k, asked) refl

held-node : (d : DocumentData) (now : List Act) (k x : NodeId) (q : ReadReq) (sid : Ident)
    → got now ≡ Some (record { from = x; to = k; message = message.ReadReq q })
    → node d (act.Held k q.t q.op sid ∷ now) k
    ≡ changed (Holds (Some (record { t = q.t; op = q.op; sid = sid; key = q.key; from = x }))) (node d now k)
held-node d now k x q sid at = rw (same-number k, at) refl

answered-row : (d : DocumentData) (now : List Act) (m : ℕ) (k x : NodeId) (q : ReadReq) (sid : Ident) (w : Version)
    (cl : Bool) → got now ≡ Some (record { from = x; to = k; message = message.ReadReq q })
    → cl ≡ is_clear sid (journal d now k) → (node d now k).up ≡ true → HoldsWaiting (node d now k)
    → RowKept d now (numbered m k (answered cl k x q sid w)) k (this_read q)
answered-row d now m k x q sid w true at clear up h =
    let asked : is_request (said_by (got now)) ≡ true = rw at refl in
    let same = served-still d now k q.t q.op q.key sid w.ident w.value asked in
    let P : Node → Type 0 = λ z. HoldsWaiting z in
    record {
      holds = subst P (sym same) h;
      kept = λ t j r. elim (or_cases (this_read q t j) (has_read t j (node d now k).held) r) [
        | inl here ↦ or_left (k == k && this_read q t j || false) (has_read t j (node d (after now (numbered m k (served k q.t q.op q.key sid x w))) k).held) (or_left (k == k && this_read q t j) false (and_from (k == k) (this_read q t j) (same-number k) here))
        | inr there ↦ or_right (k == k && this_read q t j || false) (has_read t j (node d (after now (numbered m k (served k q.t q.op q.key sid x w))) k).held) (let Q : Node → Type 0 = λ z. has_read t j z.held ≡ true in subst Q (sym same) there)
      ];
    }
answered-row d now m k x q sid w false at clear up h =
    let y : HeldRead = record { t = q.t; op = q.op; sid = sid; key = q.key; from = x } in
    let same = held-node d now k x q sid at in
    let P : Node → Type 0 = λ z. HoldsWaiting z in
    let waits : is_waiting_read (journal d now k) y ≡ true = (let B : Bool → Type 0 = λ b. not b ≡ true in subst B clear refl) in
    record {
      holds = subst P (sym same) (record { waits = tests-append (is_waiting_read (journal d now k)) (node d now k).held (y ∷ []) h.waits (and_from (is_waiting_read (journal d now k) y) true waits refl); down = λ e. absurd (both_ways (node d now k).up e up) });
      kept = λ t j r.
          let Q : Node → Type 0 = λ z. has_read t j z.held ≡ true in
          subst Q (sym same) (list_any-append (λ z. z.t == t && z.op == j) (node d now k).held (y ∷ []) ∙ elim (or_cases (this_read q t j) (has_read t j (node d now k).held) r) [
            | inl here ↦ or_right (has_read t j (node d now k).held) (this_read q t j || false) (or_left (this_read q t j) false here)
            | inr there ↦ or_left (has_read t j (node d now k).held) (this_read q t j || false) there
          ]);
    }

clear-raised : (d : DocumentData) (now : List Act) (k : NodeId) (i sid : Ident)
    → is_clear sid (journal d (act.Raised k i ∷ now) k) ≡ is_clear sid (journal d now k)
clear-raised d now k i sid = let P : Bool → Type 0 = λ b. is_clear sid (changed (where_at b (Raises i)) (node d now k)).journal ≡ is_clear sid (journal d now k) in subst P (sym (same-number k)) refl

clear-ceiling : (d : DocumentData) (now : List Act) (k : NodeId) (c sid : Ident)
    → is_clear sid (journal d (act.Ceiling k c ∷ now) k) ≡ is_clear sid (journal d now k)
clear-ceiling d now k c sid = let P : Bool → Type 0 = λ b. is_clear sid (changed (where_at b (Writes (Some (record'.Ceiling c)))) (node d now k)).journal ≡ is_clear sid (journal d now k) in subst P (sym (same-number k)) refl

raised-row : (d : DocumentData) (now : List Act) (m : ℕ) (k x : NodeId) (q : ReadReq) (sid : Ident) (w : Version)
    (raise cl : Bool) → got now ≡ Some (record { from = x; to = k; message = message.ReadReq q })
    → cl ≡ is_clear sid (journal d now k) → (node d now k).up ≡ true → HoldsWaiting (node d now k) → RowKept d now
    (numbered m k ((if raise then out.Act (act.Raised k sid) ∷ [] else []) ++ answered cl k x q sid w)) k (this_read q)
raised-row d now m k x q sid w false cl at clear up h = answered-row d now m k x q sid w cl at clear up h
raised-row d now m k x q sid w true cl at clear up h = row-more d now (act.Raised k sid) (numbered m k (answered cl k x q sid w)) k (this_read q) (λ t j r. unheld-read d now (act.Raised k sid) k t j refl r) (answered-row d (act.Raised k sid ∷ now) m k x q sid w cl at (clear ∙ sym (clear-raised d now k sid sid)) (up-stays d now (act.Raised k sid) k refl ∙ up) (unheld-waiting d now (act.Raised k sid) k refl h))

broken-raised : (k x : NodeId) (q : ReadReq) (sid : Ident) (w : Version) (raise cl : Bool)
    → broken k ((if raise then out.Act (act.Raised k sid) ∷ [] else []) ++ answered cl k x q sid w)
    ≡ (if raise then out.Act (act.Raised k sid) ∷ [] else []) ++ answered cl k x q sid w
broken-raised k x q sid w true true = refl
broken-raised k x q sid w true false = refl
broken-raised k x q sid w false true = refl
broken-raised k x q sid w false false = refl

-- a row of a request, behind its Got
pub request-row : (d : DocumentData) (now : List Act) (m : ℕ) (k x : NodeId) (q : ReadReq) (sid c : Ident) (w : Version)
    (b ceil raise cl : Bool) → got now ≡ Some (record { from = x; to = k; message = message.ReadReq q })
    → cl ≡ is_clear sid (journal d now k) → (node d now k).up ≡ true → HoldsWaiting (node d now k) → RowKept d now
    (numbered m k (kept b k ((if ceil then out.Act (act.Ceiling k c) ∷ [] else [])
    ++ ((if raise then out.Act (act.Raised k sid) ∷ [] else []) ++ answered cl k x q sid w)))) k (this_read q)
request-row d now m k x q sid c w true false raise cl at clear up h = raised-row d now m k x q sid w raise cl at clear up h
request-row d now m k x q sid c w false false raise cl at clear up h =
    let P : List Out → Type 0 = λ os. RowKept d now (numbered m k os) k (this_read q) in
    subst P (sym (broken-raised k x q sid w raise cl)) (raised-row d now m k x q sid w raise cl at clear up h)
request-row d now m k x q sid c w true true raise cl at clear up h = row-more d now (act.Ceiling k c) (numbered m k ((if raise then out.Act (act.Raised k sid) ∷ [] else []) ++ answered cl k x q sid w)) k (this_read q) (λ t j r. unheld-read d now (act.Ceiling k c) k t j refl r) (raised-row d (act.Ceiling k c ∷ now) m k x q sid w raise cl at (clear ∙ sym (clear-ceiling d now k c sid)) (up-stays d now (act.Ceiling k c) k refl ∙ up) (unheld-waiting d now (act.Ceiling k c) k refl h))
request-row d now m k x q sid c w false true raise cl at clear up h =
    record {
      holds = unheld-waiting d now (act.Down k (Some (head.Ceiling c))) k refl h;
      kept = λ t j r. or_left (k == k || false) (has_read t j (node d (act.Down k (Some (head.Ceiling c)) ∷ now) k).held) (or_left (k == k) false (same-number k));
    }

-- ---- an outcome

ended-node : (d : DocumentData) (now : List Act) (k : NodeId) (t : TxId) (o : Outcome)
    → node d (act.Ended k t o ∷ now) k ≡ changed (Writes (Some (record'.Ended t o))) (node d now k)
ended-node d now k t o = rw (same-number k) refl

released-row : (d : DocumentData) (now acts : List Act) (k : NodeId) → (node d now k).up ≡ true
    → Released d now acts k (node d now k).held → RowKept d now acts k nothing
released-row d now acts k up r = record { holds = record { waits = r.waits; down = λ e. absurd (both_ways (node d (after now acts) k).up e (r.up ∙ up)) }; kept = λ t j h. r.kept t j h }

acked-row : (d : DocumentData) (now : List Act) (m : ℕ) (k : NodeId) (t : TxId) (ack : Option NodeId) (r : List Record)
    → is_request (said_by (got now)) ≡ false → journal d now k ≡ r → (node d now k).up ≡ true
    → RowKept d now (numbered m k (to_node ack (message.Ack t) ++ release d.cluster r k (node d now k).held)) k nothing
acked-row d now m k t None r quiet at up = released-row d now (numbered m k (release d.cluster r k (node d now k).held)) k up (release-kept d now m k r [] (node d now k).held quiet at refl refl)
acked-row d now m k t (Some y) r quiet at up =
    let a : Act = act.Sent m k y (message.Ack t) in
    row-more d now a (numbered (m + 1) k (release d.cluster r k (node d now k).held)) k nothing (λ t j h. unheld-read d now a k t j refl h) (released-row d (a ∷ now) (numbered (m + 1) k (release d.cluster r k (node d now k).held)) k up (release-kept d (a ∷ now) (m + 1) k r [] (node d now k).held quiet at refl refl))

ended-row : (d : DocumentData) (now : List Act) (m : ℕ) (k : NodeId) (t : TxId) (o : Outcome) (ack : Option NodeId)
    → is_request (said_by (got now)) ≡ false → (node d now k).up ≡ true → RowKept d now (act.Ended k t o ∷ numbered m k
    (to_node ack (message.Ack t) ++ release d.cluster (record'.Ended t o ∷ journal d now k) k (node d now k).held)) k
    nothing
ended-row d now m k t o ack quiet up =
    let a : Act = act.Ended k t o in
    let is = ended-node d now k t o in
    let same : (node d (a ∷ now) k).held ≡ (node d now k).held = ap (λ (z : Node). z.held) is in
    let P : List HeldRead → Type 0 = λ hs. RowKept d (a ∷ now) (numbered m k (to_node ack (message.Ack t) ++ release d.cluster (record'.Ended t o ∷ journal d now k) k hs)) k nothing in
    row-more d now a (numbered m k (to_node ack (message.Ack t) ++ release d.cluster (record'.Ended t o ∷ journal d now k) k (node d now k).held)) k nothing
    (λ t' j h. let Q : List HeldRead → Type 0 = λ hs. has_read t' j hs ≡ true in subst Q (sym same) h)
    (subst P same (acked-row d (a ∷ now) m k t ack (record'.Ended t o ∷ journal d now k) quiet (ap (λ (z : Node). z.journal) is) (ap (λ (z : Node). z.up) is ∙ up)))

kept-ended : (d : DocumentData) (now : List Act) (m : ℕ) (k : NodeId) (t : TxId) (o : Outcome) (ack : Option NodeId)
    (b : Bool) → is_request (said_by (got now)) ≡ false → (node d now k).up ≡ true → HoldsWaiting (node d now k)
    → RowKept d now (numbered m k (kept b k (out.Act (act.Ended k t o) ∷ (to_node ack (message.Ack t)
    ++ release d.cluster (record'.Ended t o ∷ journal d now k) k (node d now k).held)))) k nothing
kept-ended d now m k t o ack true quiet up h = ended-row d now m k t o ack quiet up
kept-ended d now m k t o ack false quiet up h = row-unheld d now (act.Down k (Some (head.Ended t o)) ∷ []) k refl h

-- a row that neither holds nor serves
pub unheld-row : (d : DocumentData) (now : List Act) (m : ℕ) (k : NodeId) (b : Bool) (os : List Out) → Pass is_unheld os
    → HoldsWaiting (node d now k) → RowKept d now (numbered m k (kept b k os)) k nothing
unheld-row d now m k b os u h = row-unheld d now (numbered m k (kept b k os)) k (unheld-acts m k b os u) h

commit-kept : (d : DocumentData) (now : List Act) (m : ℕ) (k : NodeId) (t : TxId) (f : Ident) (p : Option Ident)
    (done : Bool) (ack : Option NodeId) (b : Bool) → is_request (said_by (got now)) ≡ false → (node d now k).up ≡ true
    → HoldsWaiting (node d now k) → RowKept d now (numbered m k (kept b k
    (commit_outs k t f p done (to_node ack (message.Ack t)) ++ if_pending p
    (release d.cluster (record'.Ended t (outcome.Commit f) ∷ journal d now k) k (node d now k).held)))) k nothing
commit-kept d now m k t f (Some p) done ack b quiet up h = kept-ended d now m k t (outcome.Commit f) ack b quiet up h
commit-kept d now m k t f None true ack b quiet up h =
    unheld-row d now m k b (to_node ack (message.Ack t) ++ [])
    (pass-append is_unheld (to_node ack (message.Ack t)) [] (pass-to_node is_unheld ack (message.Ack t)) refl) h
commit-kept d now m k t f None false ack b quiet up h = unheld-row d now m k b [] refl h

abort-kept : (d : DocumentData) (now : List Act) (m : ℕ) (k : NodeId) (t : TxId) (p : Option Ident) (b : Bool)
    → is_request (said_by (got now)) ≡ false → (node d now k).up ≡ true → HoldsWaiting (node d now k) → RowKept d now
    (numbered m k (kept b k (abort_outs k t p
    ++ if_pending p (release d.cluster (record'.Ended t outcome.Abort ∷ journal d now k) k (node d now k).held)))) k
    nothing
abort-kept d now m k t (Some p) b quiet up h = kept-ended d now m k t outcome.Abort None b quiet up h
abort-kept d now m k t None b quiet up h = unheld-row d now m k b [] refl h

-- a row of an outcome, behind its Got
pub outcome-row : (d : DocumentData) (past : List Act) (g m : ℕ) (k x : NodeId) (t : TxId) (o : Outcome) (b : Bool)
    → sent_at g (sent past) ≡ Some (record { from = x; to = k; message = message.Tell t o }) → (node d past k).up ≡ true
    → HoldsWaiting (node d past k) → RowKept d (act.Got g ∷ past)
    (numbered m k (kept b k (tell_outs k (participant (view d past k)) (view d past k).held t o))) k nothing
outcome-row d past g m k x t (outcome.Commit f) b at up h = commit-kept d (act.Got g ∷ past) m k t f (pending t (journal d past k)) (is_commit (ended t (journal d past k))) (home_of t (journal d past k)) b (rw at refl) up h
outcome-row d past g m k x t outcome.Abort b at up h = abort-kept d (act.Got g ∷ past) m k t (pending t (journal d past k)) b (rw at refl) up h
