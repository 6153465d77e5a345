-- The view behind a begin and behind a read reply: its transaction alone stands otherwise, as the turn says.
use Rattle.std.proofs.Common.{◌≡◌, ℕ, Bool, true, false, List, [], ◌∷◌, Option, Some, None, refl, sym, ap, subst, filter, arith, if◌then◌else◌}
use Rattle.std.proofs.lemmas.Bool.Decides.{nat_tests}
use Rattle.std.specs.Prelude.{◌==◌, nat_lt}
use Rattle.score_base.specs.declared.ids.TxId.{TxId}
use Rattle.score_base.specs.declared.ids.NodeId.{NodeId}
use Rattle.score_base.specs.declared.ids.Ident.{Ident}
use Rattle.script_lang.specs.Scripts.{ScriptData}
use Rattle.script_runs.specs.Waits.{waiting}
use Rattle.script_runs.specs.Walks.{own_reads, unread}
use Rattle.placement.specs.Clusters.{ClusterData}
use Rattle.journal_words.specs.Journals.{undone}
use Rattle.grid_model.specs.declared.acts.Act.TheVariants as act
use Rattle.grid_model.specs.declared.events.Event.{Event}
use Rattle.grid_model.specs.declared.events.Event.TheVariants as event
use Rattle.grid_model.specs.declared.events.Out.{Out}
use Rattle.grid_model.specs.declared.events.Out.TheVariants as out
use Rattle.grid_model.specs.declared.messages.Envelope.{Envelope}
use Rattle.grid_model.specs.declared.messages.Message.TheVariants as message
use Rattle.grid_model.specs.declared.messages.ReadRep.{ReadRep}
use Rattle.grid_model.specs.Views.{View, Open, Stage, Apart, Reads, Collects, Commits, stage}
use Rattle.grid_model.specs.Advances.{advance, advance_end}
use Rattle.grid_model.specs.Rows.{reply_outs, begun_at}
use Rattle.grid_model.specs.NextViews.{behind_all, next_view, opened_by}
use Rattle.presumed_abort.specs.Turns.{Turn, quiet}
use Rattle.presumed_abort.specs.Replies.{with_reply, gone_on, begin_turn, taken_turn, reply_turn}
use Rattle.presumed_abort.specs.Views.{kept, OwnNumbers}
use Rattle.presumed_abort.proofs.DeskSteps.{Steps}
use Rattle.presumed_abort.proofs.Stages.{AtReads, at-reads}
use Rattle.presumed_abort.proofs.AdvanceSteps.{CameTo, turning, owns-behind, end-steps}

self : (t : TxId) → (t == t) ≡ true
self t = grind (arith, nat_tests)

-- an advance from a view where its transaction came so far
went-steps :
    (e : Option Envelope) (s : Option ScriptData) (v w : View) (t : TxId) (o : Open) (i : ℕ) (os : List Out)
    → CameTo v w t o
    → Steps v (behind_all e s w (advance w.cluster o i)) t (turning os (gone_on w.cluster t o))
went-steps e s v w t o i os came =
    rw
    (owns-behind e s w o.script.number
    (filter (λ y. nat_lt i y.0) (own_reads 1 [] unread o.progress.values o.script.ops))
    (advance_end w.cluster o (waiting o.script.ops o.progress.values)))
    (end-steps e s v w t o os (waiting o.script.ops o.progress.values) came refl)

-- ---- the reply

abbrev replied : ReadRep → NodeId → Event
replied q x = event.Deliver x (message.ReadRep q)

quiet-steps :
    (n : NodeId) (v : View) (x : NodeId) (q : ReadRep) → Steps v (next_view n v (replied q x) []) q.t quiet
quiet-steps n v x q =
    record {
      cluster = refl;
      journal = refl;
      next = refl;
      held = refl;
      others = λ u apart. refl;
      same = refl;
    }

-- the view in which the reply's value is taken
abbrev taken_view : NodeId → View → NodeId → ReadRep → View
taken_view n v x q = next_view n v (replied q x) (out.Act (act.Taken q.t q.op q.sid q.value) ∷ [])

taken-came :
    (n : NodeId) (v : View) (x : NodeId) (q : ReadRep) (o : Open) (j : ℕ)
    → AtReads (undone q.t v.journal) (v.desk q.t) o j → o.script.number ≡ q.t
    → CameTo v (taken_view n v x q) q.t (with_reply q.op q.sid q.value o)
taken-came n v x q o j at number =
    record {
      cluster = refl;
      journal = refl;
      next = refl;
      held = refl;
      desk = λ u apart. rw apart refl;
      acks = λ u apart. refl;
      undecided = at.undecided;
      here = rw (self q.t, at.open') refl;
      number = number;
      first = refl;
    }

-- the turn of a reply that the transaction q.t waits for
abbrev taken_at : ClusterData → ReadRep → Open → Turn
taken_at c q o =
    record {
      outs =
          out.Act (act.Taken q.t q.op q.sid q.value)
          ∷ advance c (with_reply q.op q.sid q.value o) q.op;
      change = gone_on c q.t (with_reply q.op q.sid q.value o);
      rec = None;
    }

taken-same :
    (c : ClusterData) (q : ReadRep) (o : Open) (j : ℕ)
    → o.script.number ≡ q.t → j ≡ q.op
    → taken_turn c q.value q.sid (record { tx = o; op = j }) ≡ taken_at c q o
taken-same c q o j number op =
    λ i. record {
      outs =
          out.Act (act.Taken (number i) (op i) q.sid q.value)
          ∷ advance c (with_reply (op i) q.sid q.value o) (op i);
      change = gone_on c (number i) (with_reply (op i) q.sid q.value o);
      rec = None;
    }

same-op : (i j : ℕ) → (i == j) ≡ true → i ≡ j
same-op i j met = grind (arith, nat_tests, met)

pub reply-steps :
    (n : NodeId) (v : View) (x : NodeId) (q : ReadRep)
    → OwnNumbers v
    → Steps v (next_view n v (replied q x) (reply_outs v.cluster q (stage v q.t))) q.t
    (reply_turn v.cluster q (kept v.cluster q.t (stage v q.t)))
reply-steps n v x q own = go (stage v q.t) refl
  where
    go :
        (s : Stage) → stage v q.t ≡ s
        → Steps v (next_view n v (replied q x) (reply_outs v.cluster q s)) q.t
        (reply_turn v.cluster q (kept v.cluster q.t s))
    go (Collects o) is = quiet-steps n v x q
    go (Commits y acks) is = quiet-steps n v x q
    go Apart is = quiet-steps n v x q
    go (Reads o j) is = by (j == q.op) refl
      where
        at : AtReads (undone q.t v.journal) (v.desk q.t) o j
        at = at-reads (undone q.t v.journal) (v.desk q.t) (v.acks q.t) o j is

        outs : List Out
        outs = (taken_at v.cluster q o).outs

        by :
            (b : Bool) → (j == q.op) ≡ b
            → Steps v (next_view n v (replied q x) (if b then outs else [])) q.t
            (if b then taken_turn v.cluster q.value q.sid (record { tx = o; op = j }) else quiet)
        by false met = quiet-steps n v x q
        by true met =
            subst (λ y. Steps v (next_view n v (replied q x) outs) q.t y)
            (sym (taken-same v.cluster q o j (own q.t o at.open') (same-op j q.op met)))
            (went-steps (Some (record { from = x; to = n; message = message.ReadRep q })) None v (taken_view n v x q)
            q.t (with_reply q.op q.sid q.value o) q.op outs (taken-came n v x q o j at (own q.t o at.open')))

pub reply-row :
    (v : View) (q : ReadRep)
    → OwnNumbers v
    → (reply_turn v.cluster q (kept v.cluster q.t (stage v q.t))).outs ≡ reply_outs v.cluster q (stage v q.t)
reply-row v q own = go (stage v q.t) refl
  where
    go :
        (s : Stage) → stage v q.t ≡ s
        → (reply_turn v.cluster q (kept v.cluster q.t s)).outs ≡ reply_outs v.cluster q s
    go (Collects o) is = refl
    go (Commits y acks) is = refl
    go Apart is = refl
    go (Reads o j) is = by (j == q.op) refl
      where
        at : AtReads (undone q.t v.journal) (v.desk q.t) o j
        at = at-reads (undone q.t v.journal) (v.desk q.t) (v.acks q.t) o j is

        by :
            (b : Bool) → (j == q.op) ≡ b
            → (if b then taken_turn v.cluster q.value q.sid (record { tx = o; op = j }) else quiet).outs
            ≡ (if b then (taken_at v.cluster q o).outs else [])
        by true met =
            ap (λ y. y.outs) (taken-same v.cluster q o j (own q.t o at.open') (same-op j q.op met))
        by false met = refl

-- ---- the begin

-- the view in which the transaction has begun
abbrev begun_view : NodeId → View → ScriptData → Ident → Ident → View
begun_view n v s floor sid0 =
    next_view n v (event.Begin s floor) (out.Act (act.Began s.number s.home sid0) ∷ [])

begun-came :
    (n : NodeId) (v : View) (s : ScriptData) (floor sid0 : Ident)
    → undone s.number v.journal ≡ None
    → CameTo v (begun_view n v s floor sid0) s.number (begun_at s sid0)
begun-came n v s floor sid0 undecided =
    record {
      cluster = refl;
      journal = refl;
      next = refl;
      held = refl;
      desk = λ u apart. rw apart refl;
      acks = λ u apart. rw apart refl;
      undecided = undecided;
      here = rw (self s.number) (ap (λ y. opened_by y (Some s) sid0) undecided);
      number = refl;
      first = refl;
    }

pub begin-steps :
    (n : NodeId) (v : View) (s : ScriptData) (floor sid0 : Ident)
    → undone s.number v.journal ≡ None
    → Steps v (next_view n v (event.Begin s floor) (begin_turn v.cluster s sid0).outs) s.number
    (begin_turn v.cluster s sid0)
begin-steps n v s floor sid0 undecided =
    went-steps None (Some s) v (begun_view n v s floor sid0) s.number (begun_at s sid0) 0
    (begin_turn v.cluster s sid0).outs (begun-came n v s floor sid0 undecided)
