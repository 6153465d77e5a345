-- Is each begin of a run fit?
use Rattle.grid_laws.proofs.Causes.{AllDue, BeganDue, IsDue}
use Rattle.grid_laws.proofs.FloorsLow.{floor_at-low}
use Rattle.grid_laws.proofs.SmallIdents.{IsLow, small}
use Rattle.grid_model.specs.Sessions.{floor_at}
use Rattle.grid_model.specs.Stories.{is_small}
use Rattle.grid_laws.proofs.Frames.{same-number}
use Rattle.grid_model.proofs.Undecided.{script-number}
use Rattle.grid_model.specs.Documents.{DocumentData}
use Rattle.grid_model.specs.Facts.{BeganIsFit, BeginsFit, IsFitBegin}
use Rattle.grid_model.specs.Fitness.{is_fit_begin}
use Rattle.grid_model.specs.Nodes.{journal}
use Rattle.journal_words.specs.Journals.{decision, undone, is_closed}
use Rattle.grid_model.specs.Views.{view}
use Rattle.grid_model.specs.declared.acts.Act.TheVariants as act
use Rattle.grid_model.specs.declared.acts.Act.{Act}
use Rattle.score_base.specs.declared.ids.Ident.{Ident}
use Rattle.score_base.specs.declared.ids.NodeId.{NodeId}
use Rattle.score_base.specs.declared.ids.TxId.{TxId}
use Rattle.score_base.specs.declared.records.Record.{Record}
use Rattle.script_lang.specs.Scripts.{ScriptData}
use Rattle.std.proofs.Common.{Bool, List, None, Option, [], false, if◌then◌else◌, refl, subst, sym, true, ◌∷◌, ◌≡◌}

-- where no decision stands, none is undone
none-undone : (t : TxId) (r : List Record) → decision t r ≡ None → undone t r ≡ None
none-undone t r is = go (is_closed t r)
  where
    go : (b : Bool) → (if b then None else decision t r) ≡ None
    go true = refl
    go false = is

-- a transaction that is due to begin stands at no desk, and the floor of its session is small
due-fit : (d : DocumentData) (past : List Act) (t : TxId) (n : NodeId) (sid0 : Ident) → IsLow past
    → (due : BeganDue d past t n sid0) → is_fit_begin n (view d past n) due.script (floor_at d past due.script) ≡ true
due-fit d past t n sid0 low due =
    let number : due.script.number ≡ t = script-number t d.scripts due.script due.is in
    let floor : is_small (floor_at d past due.script) ≡ true = small (floor_at d past due.script) (floor_at-low 3200000 d past due.script low) in
    let none : undone due.script.number (journal d past n) ≡ None = none-undone due.script.number (journal d past n) due.undecided in
    rw (floor, none, number, due.is, due.home, same-number n, due.new) refl

begin-fit : (d : DocumentData) (past : List Act) (a : Act) → IsLow past → IsDue d past a → BeganIsFit d a past
begin-fit d past (act.Began t n sid0) low due =
    let P : Option ScriptData → Type 0 = λ o. IsFitBegin d past n o in
    subst P (sym due.is) (due-fit d past t n sid0 low due)
begin-fit d past a low due = tt

pub begins-fit : (d : DocumentData) (past : List Act) → AllDue d past → IsLow past → BeginsFit d past
begins-fit d [] due low = tt
begins-fit d (a ∷ past) due low = (begin-fit d past a low.1 due.0, begins-fit d past due.1 low.1)
