-- What the calls of an arriving read give is the row of its request, and what they leave is the next view.
use Rattle.std.proofs.Common.{◌≡◌, ℕ, Bool, true, false, List, [], ◌∷◌, ◌++◌, Option, Some, None, refl, max, arith}
use Rattle.std.proofs.lemmas.Bool.Decides.{nat_tests}
use Rattle.std.specs.Prelude.{nat_lt, if◌then◌else◌}
use Rattle.score_base.specs.declared.ids.TxId.{TxId}
use Rattle.score_base.specs.declared.ids.NodeId.{NodeId}
use Rattle.score_base.specs.declared.ids.Ident.{Ident}
use Rattle.journal_words.specs.Journals.{floor, is_clear}
use Rattle.grid_model.specs.declared.acts.Act.TheVariants as act
use Rattle.grid_model.specs.declared.events.Event.TheVariants as event
use Rattle.grid_model.specs.declared.events.Out.{Out}
use Rattle.grid_model.specs.declared.events.Out.TheVariants as out
use Rattle.grid_model.specs.declared.messages.Message.TheVariants as message
use Rattle.grid_model.specs.declared.messages.ReadReq.{ReadReq}
use Rattle.grid_model.specs.declared.stories.HeldRead.{HeldRead}
use Rattle.journal_words.specs.declared.versions.Version.{Version}
use Rattle.grid_model.specs.Nodes.{written}
use Rattle.grid_model.specs.NextViews.{next_view}
use Rattle.grid_model.specs.Rows.{answered, ceiling_of, read_outs, version_for}
use Rattle.grid_model.specs.Views.{Open}
use Rattle.grid_store.specs.Given.{Given}
use Rattle.snapshot_read.specs.declared.answers.Arrived.TheVariants as arrived
use Rattle.snapshot_read.specs.declared.answers.Promised.{Promised}
use Rattle.snapshot_read.specs.declared.answers.Promised.TheVariants as promised
use Rattle.snapshot_read.specs.Calls.{held_with}
use Rattle.snapshot_read.specs.Outs.{arrived_outs}
use Rattle.snapshot_read.specs.Reads.{read_at, answer_to, at_once, ceiling_for, served_or_held, arrival}
use Rattle.grid_store.specs.Given.{participant_in}
use Rattle.snapshot_read.specs.Views.{view_with, due_for}

-- the row by its three tests: the read is above the floor, above the clock, free
abbrev row_by : Bool → Bool → Bool → NodeId → NodeId → ReadReq → Ident → Version → List Out
row_by due rises free n x q sid w =
    (if due then out.Act (act.Ceiling n (ceiling_of sid)) ∷ [] else [])
    ++ ((if rises then out.Act (act.Raised n sid) ∷ [] else []) ++ answered free n x q sid w)

-- the answer by two of them
abbrev promised_by : Bool → Bool → Given → HeldRead → Promised
promised_by rises free s h =
    if free then promised.Serve (answer_to s h rises) else promised.Hold (record { sid = h.sid; raised = rises })

row-by : (due rises free : Bool) (s : Given) (x : NodeId) (q : ReadReq) → let h = read_at s x q in
    arrived_outs s.node q.t q.op
    (if due
    then arrived.NeedCeiling (record { read = h }) (ceiling_for h)
    else at_once (promised_by rises free s h))
    (promised_by rises free s h)
    ≡ row_by due rises free s.node x q h.sid (version_for s.cluster s.journal q.key h.sid)
row-by true true true s x q = refl
row-by true true false s x q = refl
row-by true false true s x q = refl
row-by true false false s x q = refl
row-by false true true s x q = refl
row-by false true false s x q = refl
row-by false false true s x q = refl
row-by false false false s x q = refl

pub read-row : (s : Given) (x : NodeId) (q : ReadReq) → let h = read_at s x q in
    arrived_outs s.node q.t q.op (arrival s h) (served_or_held s h) ≡ read_outs s.node (participant_in s) x q h.sid
read-row s x q =
    let h = read_at s x q in
    row-by (nat_lt (floor s.journal) h.sid) (nat_lt s.next h.sid) (is_clear h.sid s.journal) s x q

-- ---- the view behind it

above-max : (a b : ℕ) → max b a ≡ max a b
above-max a b = omega arith

below-max : (a b : ℕ) → nat_lt a b ≡ false → a ≡ max a b
below-max a b e = grind (arith, nat_tests, e)

-- what the view has behind the row
pub record IsBehind (due rises free : Bool) (s : Given) (x : NodeId) (q : ReadReq) (hs : List HeldRead)
    (desk : TxId → Option Open) (acks : TxId → List NodeId) : Type 0 where
  pub journal : let h = read_at s x q in
      (next_view s.node (view_with s hs desk acks) (event.Deliver x (message.ReadReq q))
      (row_by due rises free s.node x q h.sid (version_for s.cluster s.journal q.key h.sid))).journal
      ≡ written (if due then Some (ceiling_for h) else None) s.journal
  pub next : let h = read_at s x q in
      (next_view s.node (view_with s hs desk acks) (event.Deliver x (message.ReadReq q))
      (row_by due rises free s.node x q h.sid (version_for s.cluster s.journal q.key h.sid))).next
      ≡ max s.next h.sid
  pub held : let h = read_at s x q in
      (next_view s.node (view_with s hs desk acks) (event.Deliver x (message.ReadReq q))
      (row_by due rises free s.node x q h.sid (version_for s.cluster s.journal q.key h.sid))).held
      ≡ held_with (promised_by rises free s h) h hs

behind-by : (due rises free : Bool) (s : Given) (x : NodeId) (q : ReadReq) (hs : List HeldRead)
    (desk : TxId → Option Open) (acks : TxId → List NodeId)
    → nat_lt s.next (read_at s x q).sid ≡ rises → IsBehind due rises free s x q hs desk acks
behind-by true true true s x q hs desk acks e = record { journal = refl; next = above-max _ _; held = refl }
behind-by true true false s x q hs desk acks e = record { journal = refl; next = above-max _ _; held = refl }
behind-by true false true s x q hs desk acks e = record { journal = refl; next = below-max _ _ e; held = refl }
behind-by true false false s x q hs desk acks e = record { journal = refl; next = below-max _ _ e; held = refl }
behind-by false true true s x q hs desk acks e = record { journal = refl; next = above-max _ _; held = refl }
behind-by false true false s x q hs desk acks e = record { journal = refl; next = above-max _ _; held = refl }
behind-by false false true s x q hs desk acks e = record { journal = refl; next = below-max _ _ e; held = refl }
behind-by false false false s x q hs desk acks e = record { journal = refl; next = below-max _ _ e; held = refl }

pub read-behind : (s : Given) (x : NodeId) (q : ReadReq) (hs : List HeldRead)
    (desk : TxId → Option Open) (acks : TxId → List NodeId) → let h = read_at s x q in
    IsBehind (nat_lt (floor s.journal) h.sid) (nat_lt s.next h.sid) (is_clear h.sid s.journal) s x q hs desk acks
read-behind s x q hs desk acks =
    let h = read_at s x q in
    behind-by (nat_lt (floor s.journal) h.sid) (nat_lt s.next h.sid) (is_clear h.sid s.journal) s x q hs desk acks refl
