-- Between events each read-only transaction whose reads all have their values was answered.
use Rattle.grid_laws.proofs.StoryClaims.{Stays, is_untaking, untaking-claim}
use Rattle.std.proofs.Common.{◌≡◌, ◌≢◌, ℕ, inl, inr, Bool, true, false, List, [], ◌∷◌, Option, Some, None, refl, subst, arith}
use Rattle.std.proofs.lemmas.Bool.Decides.{nat_tests}
use Rattle.std.proofs.lemmas.Bool.{cases_eq}
use Rattle.std.specs.Prelude.{is_some, ◌==◌, ◌||◌}
use Rattle.std.specs.List.{list_all}
use Rattle.score_base.specs.declared.ids.TxId.{TxId}
use Rattle.score_base.specs.declared.ids.NodeId.{NodeId}
use Rattle.score_base.specs.declared.ids.Ident.{Ident}
use Rattle.score_base.specs.declared.ids.Value.{Value}
use Rattle.script_lang.specs.Scripts.{ScriptData}
use Rattle.script_lang.specs.Reads.{is_update}
use Rattle.grid_model.specs.declared.acts.Act.{Act}
use Rattle.grid_model.specs.declared.acts.Act.TheVariants as act
use Rattle.grid_model.specs.declared.stories.Story.{Story}
use Rattle.grid_model.specs.Documents.{DocumentData}
use Rattle.grid_model.specs.Histories.{after}
use Rattle.grid_model.specs.Nodes.{script_of}
use Rattle.grid_model.specs.Stories.{story, told, if_told}
use Rattle.script_runs.specs.Waits.{waiting}

-- reads are left, it writes, or it was answered
abbrev pub is_told : ScriptData → Option Story → Bool
is_told s None = true
is_told s (Some x) = is_some (waiting s.ops x.progress.values) || (is_update s.ops || x.finished)

-- ---- one act

pub or-true : (a b : Bool) → (a || (b || true)) ≡ true
or-true true b = refl
or-true false true = refl
or-true false false = refl

told-stays : (s : ScriptData) → Stays (λ o. is_told s o ≡ true)
told-stays s = record {
  votes = λ vs x i. i;
  acks = λ ns x i. i;
  turn = λ k x i. i;
  finished = λ x i. or-true (is_some (waiting s.ops x.progress.values)) (is_update s.ops);
  aborted = λ x i. i;
  lost = λ x i. i;
}

pub untaking-told : (s : ScriptData) (d : DocumentData) (past : List Act) (a : Act) (t : TxId)
    → is_untaking a ≡ true → is_told s (story d past t) ≡ true → is_told s (story d (a ∷ past) t) ≡ true
untaking-told s d past a t free h = untaking-claim (λ o. is_told s o ≡ true) (told-stays s) d past a t free h

-- an act of another transaction
pub other-told : (s : ScriptData) (d : DocumentData) (past : List Act) (a : Act) (u t : TxId) (n : NodeId)
    (sid0 : Ident) → u ≢ t → is_told s (story d past t) ≡ true
    → is_told s (story d (act.Began u n sid0 ∷ past) t) ≡ true
other-told s d past a u t n sid0 other h = grind (arith, nat_tests, h)

pub other-taken : (s : ScriptData) (d : DocumentData) (past : List Act) (u t : TxId) (op : ℕ) (sid : Ident) (v : Value)
    → u ≢ t → is_told s (story d past t) ≡ true → is_told s (story d (act.Taken u op sid v ∷ past) t) ≡ true
other-taken s d past u t op sid v other h = if-told-none s (u == t) _ (story d past t) (grind (arith, nat_tests)) h
  where
    if-told-none : (s : ScriptData) (b : Bool) (f : Story → Story) (o : Option Story) → b ≡ false → is_told s o ≡ true
        → is_told s (if_told b f o) ≡ true
    if-told-none s b f None e h = h
    if-told-none s true f (Some x) e h = cc
    if-told-none s false f (Some x) e h = h

-- ---- all transactions

-- each transaction of the document
abbrev pub AllTold : DocumentData → List Act → Type 0
AllTold d past = (t : TxId) (s : ScriptData) → script_of t d.scripts ≡ Some s → is_told s (story d past t) ≡ true

-- each but u
abbrev pub OthersTold : DocumentData → List Act → TxId → Type 0
OthersTold d past u =
    (t : TxId) (s : ScriptData) → u ≢ t → script_of t d.scripts ≡ Some s → is_told s (story d past t) ≡ true

pub untaking-all : (d : DocumentData) (past acts : List Act) → list_all is_untaking acts ≡ true → AllTold d past
    → AllTold d (after past acts)
untaking-all d past [] free all = all
untaking-all d past (a ∷ acts) free all =
    untaking-all d (a ∷ past) acts (grind (arith, free))
    (λ t s e. untaking-told s d past a t (grind (arith, free)) (all t s e))

pub untaking-others : (d : DocumentData) (past : List Act) (a : Act) (u : TxId) → is_untaking a ≡ true
    → OthersTold d past u → OthersTold d (a ∷ past) u
untaking-others d past a u free others t s other e = untaking-told s d past a t free (others t s other e)

pub all-from : (d : DocumentData) (past : List Act) (u : TxId) (s : ScriptData) → script_of u d.scripts ≡ Some s
    → is_told s (story d past u) ≡ true → OthersTold d past u → AllTold d past
all-from d past u s e told others t w f = elim (cases_eq u t) [
  | inl same ↦ (let P : TxId → Type 0 = λ v. script_of v d.scripts ≡ Some w → is_told w (story d past v) ≡ true in subst P same (λ g. mine g) f)
  | inr other ↦ others t w other f
]
  where
    mine : script_of u d.scripts ≡ Some w → is_told w (story d past u) ≡ true
    mine g = let is : s ≡ w = cc in let P : ScriptData → Type 0 = λ z. is_told z (story d past u) ≡ true in subst P is told
