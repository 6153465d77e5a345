-- Where a transaction stands, by the parts of the view.
use Rattle.std.proofs.Common.{◌≡◌, ℕ, List, [], ◌∷◌, Option, Some, None, refl, arith}
use Rattle.score_base.specs.declared.ids.TxId.{TxId}
use Rattle.score_base.specs.declared.ids.NodeId.{NodeId}
use Rattle.score_base.specs.declared.causes.Outcome.{Outcome}
use Rattle.script_lang.specs.Scripts.{ScriptData}
use Rattle.grid_model.specs.declared.events.Out.TheVariants as out
use Rattle.grid_model.specs.declared.messages.Envelope.{Envelope}
use Rattle.grid_model.specs.declared.messages.Message.TheVariants as message
use Rattle.journal_words.specs.Journals.{Decision, undone}
use Rattle.script_runs.specs.Waits.{waiting}
use Rattle.grid_model.specs.Views.{View, Open, Apart, Reads, Collects, Commits, open_stage, stage_by, stage}
use Rattle.grid_model.specs.Rows.{tells}
use Rattle.grid_model.specs.NextViews.{behind, behind_all}

pub stage-is :
    (w : View) (u : TxId) (y : Option Decision) (d : Option Open) (acks : List NodeId)
    → undone u w.journal ≡ y → w.desk u ≡ d → w.acks u ≡ acks → stage w u ≡ stage_by y d acks
stage-is w u y d acks a b c = λ i. stage_by (a i) (b i) (c i)

-- a transaction that collects
pub record AtVotes (y : Option Decision) (d : Option Open) (o : Open) : Type 0 where
  pub undecided : y ≡ None
  pub open' : d ≡ Some o
  pub ends : waiting o.script.ops o.progress.values ≡ None

pub at-votes :
    (y : Option Decision) (d : Option Open) (acks : List NodeId) (o : Open)
    → stage_by y d acks ≡ Collects o → AtVotes y d o
at-votes (Some y) d acks o is = absurd (grind (arith, is))
at-votes None None acks o is = absurd (grind (arith, is))
at-votes None (Some x) acks o is = go (waiting x.script.ops x.progress.values) refl is
  where
    go :
        (w : Option ℕ) → waiting x.script.ops x.progress.values ≡ w → open_stage x w ≡ Collects o
        → AtVotes None (Some x) o
    go (Some j) ends is = absurd (grind (arith, is))
    go None ends is =
        let same : x ≡ o = grind (arith, is) in
        record { undecided = refl; open' = rw same refl; ends = rw same at ends }

-- a transaction that is decided
pub record AtAcks (d : Option Decision) (taken : List NodeId) (y : Decision) (acks' : List NodeId) : Type 0 where
  pub decided : d ≡ Some y
  pub acks : taken ≡ acks'

pub at-acks :
    (d : Option Decision) (o : Option Open) (acks : List NodeId) (y : Decision) (acks' : List NodeId)
    → stage_by d o acks ≡ Commits y acks' → AtAcks d acks y acks'
at-acks (Some z) o acks y acks' is = record { decided = grind (arith, is); acks = grind (arith, is) }
at-acks None None acks y acks' is = absurd (grind (arith, is))
at-acks None (Some x) acks y acks' is = go (waiting x.script.ops x.progress.values) is
  where
    go : (w : Option ℕ) → open_stage x w ≡ Commits y acks' → AtAcks None acks y acks'
    go (Some j) is = absurd (grind (arith, is))
    go None is = absurd (grind (arith, is))

-- what is told changes nothing at the teller
pub tells-behind :
    (e : Option Envelope) (s : Option ScriptData) (v : View) (t : TxId) (o : Outcome) (ns : List NodeId)
    → behind_all e s v (tells t o ns) ≡ v
tells-behind e s v t o [] = refl
tells-behind e s v t o (n ∷ ns) = tells-behind e s (behind e s v (out.Send n (message.Tell t o))) t o ns

-- a transaction that reads
pub record AtReads (y : Option Decision) (d : Option Open) (o : Open) (j : ℕ) : Type 0 where
  pub undecided : y ≡ None
  pub open' : d ≡ Some o
  pub waits : waiting o.script.ops o.progress.values ≡ Some j

pub at-reads :
    (y : Option Decision) (d : Option Open) (acks : List NodeId) (o : Open) (j : ℕ)
    → stage_by y d acks ≡ Reads o j → AtReads y d o j
at-reads (Some y) d acks o j is = absurd (grind (arith, is))
at-reads None None acks o j is = absurd (grind (arith, is))
at-reads None (Some x) acks o j is = go (waiting x.script.ops x.progress.values) refl is
  where
    go :
        (w : Option ℕ) → waiting x.script.ops x.progress.values ≡ w → open_stage x w ≡ Reads o j
        → AtReads None (Some x) o j
    go None waits is = absurd (grind (arith, is))
    go (Some i) waits is =
        let same : x ≡ o = grind (arith, is) in
        let op : i ≡ j = grind (arith, is) in
        record { undecided = refl; open' = rw same refl; waits = rw (same, op) at waits }

-- a transaction that is neither open nor decided
pub record AtApart (y : Option Decision) (d : Option Open) : Type 0 where
  pub undecided : y ≡ None
  pub none : d ≡ None

pub at-apart :
    (y : Option Decision) (d : Option Open) (acks : List NodeId) → stage_by y d acks ≡ Apart → AtApart y d
at-apart (Some y) d acks is = absurd (grind (arith, is))
at-apart None None acks is = record { undecided = refl; none = refl }
at-apart None (Some x) acks is = absurd (go (waiting x.script.ops x.progress.values) is)
  where
    go : (w : Option ℕ) → open_stage x w ≡ Apart → ⊥
    go None is = grind (arith, is)
    go (Some i) is = grind (arith, is)
