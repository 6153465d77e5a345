-- What holds of a past, and stays behind each act, holds of each later past.
use Rattle.std.proofs.Common.{◌≡◌, ℕ, true, List, [], ◌∷◌, ◌++◌, sym, subst}
use Rattle.score_base.specs.declared.ids.TxId.{TxId}
use Rattle.score_base.specs.declared.ids.NodeId.{NodeId}
use Rattle.score_base.specs.declared.ids.Ident.{Ident}
use Rattle.score_base.specs.declared.ids.Value.{Value}
use Rattle.script_lang.specs.Scripts.{ScriptData}
use Rattle.grid_model.specs.declared.acts.Act.{Act}
use Rattle.grid_model.specs.Documents.{DocumentData}
use Rattle.grid_model.specs.Facts.{IsDecided}
use Rattle.grid_model.specs.Stories.{story}
use Rattle.grid_laws.proofs.MessagesBacked.{is_decided-more}
use Rattle.grid_laws.proofs.Begins.{BeginsAt, begin-more}
use Rattle.grid_laws.proofs.Causes.{AllDue}
use Rattle.grid_laws.proofs.FullStories.{Full, full-more}
use Rattle.grid_laws.proofs.OpenNotGivenUp.{IsFlagged, flagged-more}
use Rattle.grid_laws.proofs.Promises.{due-behind}
use Rattle.cause_laws.proofs.Settled.{is_shut, shut-more}

-- a past whose acts were due, and which began with those of `front`
pub record Follows (d : DocumentData) (front past : List Act) : Type 0 where
  pub later : List Act
  pub is : past ≡ later ++ front
  pub due : AllDue d past

pub follows-due : (d : DocumentData) (front past : List Act) → Follows d front past → AllDue d front
follows-due d front past f =
    let P : List Act → Type 0 = λ p. AllDue d p in
    due-behind d f.later front (subst P f.is f.due)

-- what stays behind an act stays behind more
more-holds : (d : DocumentData) (P : List Act → Type 0)
    → ((now : List Act) (a : Act) → AllDue d (a ∷ now) → P now → P (a ∷ now)) → (later front : List Act)
    → AllDue d (later ++ front) → P front → P (later ++ front)
more-holds d P more [] front due h = h
more-holds d P more (a ∷ later) front due h = more (later ++ front) a due (more-holds d P more later front due.1 h)

pub later-holds : (d : DocumentData) (P : List Act → Type 0)
    → ((now : List Act) (a : Act) → AllDue d (a ∷ now) → P now → P (a ∷ now)) → (front past : List Act)
    → Follows d front past → P front → P past
later-holds d P more front past f h =
    let Q : List Act → Type 0 = λ p. AllDue d p in
    subst P (sym f.is) (more-holds d P more f.later front (subst Q f.is f.due) h)

-- ---- what stays

pub begin-later : (d : DocumentData) (front past : List Act) (t : TxId) (i : Ident) → Follows d front past
    → BeginsAt i (story d front t) → BeginsAt i (story d past t)
begin-later d front past t i f h =
    later-holds d (λ p. BeginsAt i (story d p t)) (λ now a due k. begin-more d now a t i due k) front past f h

pub decided-later : (d : DocumentData) (front past : List Act) (t : TxId) (i : Ident) → Follows d front past
    → IsDecided d front t i → IsDecided d past t i
decided-later d front past t i f h =
    later-holds d (λ p. IsDecided d p t i) (λ now a due k. is_decided-more d now a t i k) front past f h

pub flagged-later : (d : DocumentData) (front past : List Act) (t : TxId) → Follows d front past
    → IsFlagged (story d front t) → IsFlagged (story d past t)
flagged-later d front past t f h =
    later-holds d (λ p. IsFlagged (story d p t)) (λ now a due k. flagged-more d now a t due k) front past f h

pub shut-later : (d : DocumentData) (front past : List Act) (s : ScriptData) → Follows d front past
    → is_shut s (story d front s.number) ≡ true → is_shut s (story d past s.number) ≡ true
shut-later d front past s f h =
    later-holds d (λ p. is_shut s (story d p s.number) ≡ true) (λ now a due k. shut-more s d now a s.number due.0 k)
    front past f h

pub full-later : (d : DocumentData) (front past : List Act) (n : NodeId) (t : TxId) (s : ScriptData) (sid : Ident)
    (values : List (ℕ × Value))
    → Follows d front past → Full d front n t s sid values → Full d past n t s sid values
full-later d front past n t s sid values f h =
    later-holds d (λ p. Full d p n t s sid values) (λ now a due k. full-more d now a n t s sid values due k)
    front past f h
