-- A transaction that was given up shows it in its story: it is aborted or lost, and not open.
use Rattle.grid_laws.proofs.StoryClaims.{Stays, if-claim, untaking-claim}
use Rattle.std.proofs.Common.{◌≡◌, Bool, true, false, List, [], ◌∷◌, Option, Some, None, inl, inr, refl, subst, arith}
use Rattle.std.proofs.lemmas.Bool.Decides.{nat_tests}
use Rattle.std.proofs.lemmas.Bool.{cases_eq, or_right, both_ways}
use Rattle.std.specs.Prelude.{◌==◌, ◌||◌, if◌then◌else◌}
use Rattle.score_base.specs.declared.ids.TxId.{TxId}
use Rattle.score_base.specs.declared.ids.NodeId.{NodeId}
use Rattle.score_base.specs.declared.ids.Ident.{Ident}
use Rattle.script_lang.specs.Scripts.{ScriptData}
use Rattle.grid_model.specs.declared.acts.Act.{Act}
use Rattle.grid_model.specs.declared.acts.Act.TheVariants as act
use Rattle.grid_model.specs.declared.stories.Story.{Story}
use Rattle.grid_model.specs.Documents.{DocumentData}
use Rattle.grid_model.specs.Nodes.{node, script_of}
use Rattle.grid_model.specs.Stories.{story, phase, phase_at, begun_in, if_told, is_open}
use Rattle.grid_model.specs.Facts.{is_given_up}
use Rattle.grid_model.proofs.Undecided.{script-number}
use Rattle.grid_laws.proofs.Frames.{same-number}
use Rattle.grid_laws.proofs.Causes.{AllDue, AbortedDue, BeganDue, LostDue}
use Rattle.grid_laws.proofs.OpenPhases.{open-story, open-is}

-- the story of a transaction that is aborted or lost
abbrev pub IsFlagged : Option Story → Type 0
IsFlagged None = ⊥
IsFlagged (Some x) = (x.aborted || x.lost) ≡ true

flagged-stays : Stays IsFlagged
flagged-stays = record {
  votes = λ vs x i. i;
  acks = λ ns x i. i;
  turn = λ k x i. i;
  finished = λ x i. i;
  aborted = λ x i. refl;
  lost = λ x i. or_right x.aborted true refl;
}

flagged-began : (d : DocumentData) (past : List Act) (u t : TxId) (n : NodeId) (sid0 : Ident) (b : Bool) → (u == t) ≡ b
    → BeganDue d past u n sid0 → IsFlagged (story d past t)
    → IsFlagged (if b then Some (begun_in d (node d past) t sid0) else story d past t)
flagged-began d past u t n sid0 true e due k =
    let same : u ≡ t = grind (arith, nat_tests) in
    let Q : TxId → Type 0 = λ w. story d past w ≡ None in
    let none : story d past t ≡ None = subst Q same due.new in
    absurd (subst IsFlagged none k)
flagged-began d past u t n sid0 false e due k = k

-- aborted or lost it stays
pub flagged-more : (d : DocumentData) (past : List Act) (a : Act) (t : TxId) → AllDue d (a ∷ past)
    → IsFlagged (story d past t) → IsFlagged (story d (a ∷ past) t)
flagged-more d past (act.Began u n sid0) t due k = flagged-began d past u t n sid0 (u == t) refl due.0 k
flagged-more d past (act.Taken u j sid v) t due k = if-claim IsFlagged (u == t) _ (story d past t) (λ e x i. i) k
flagged-more d past a t due k = untaking-claim IsFlagged flagged-stays d past a t refl k

-- ---- a transaction that was given up

told-flagged : (f : Story → Story) (o : Option Story) (x : Story) (b : Bool) → o ≡ Some x → b ≡ true
    → IsFlagged (Some (f x)) → IsFlagged (if_told b f o)
told-flagged f o x b is e k = rw (is, e) k

aborted-flagged : (d : DocumentData) (past : List Act) (t : TxId) (n : NodeId) (why : _) → AbortedDue d past t n why
    → IsFlagged (story d (act.Aborted t n why ∷ past) t)
aborted-flagged d past t n why due = told-flagged (λ x. record x { aborted = true }) (story d past t) due.story (t == t) due.at.story (same-number t) refl

lost-flagged : (d : DocumentData) (past : List Act) (t : TxId) → LostDue d past t
    → IsFlagged (story d (act.Lost t ∷ past) t)
lost-flagged d past t due =
    let w = open-story due.script (story d past due.script.number) (node d past due.script.home) due.unended in
    let P : TxId → Type 0 = λ u. story d past u ≡ Some w.0 in
    told-flagged (λ x. record x { lost = true }) (story d past t) w.0 (t == t) (subst P due.number w.1) (same-number t) (or_right w.0.aborted true refl)

pub given-either : (u t : TxId) (b : Bool) → ((u == t) || b) ≡ true → (u ≡ t → ⊥) → b ≡ true
given-either u t b e other = go (u == t) refl e
  where
    go : (c : Bool) → (u == t) ≡ c → (c || b) ≡ true → b ≡ true
    go true is e = absurd (other (grind (arith, nat_tests, is)))
    go false is e = e

pub given-flagged : (d : DocumentData) (past : List Act) → AllDue d past → (t : TxId) → is_given_up t past ≡ true
    → IsFlagged (story d past t)
given-flagged d [] due t e = cc
given-flagged d (act.Aborted u n why ∷ past) due t e = elim (cases_eq u t) [
  | inl same ↦ (let P : TxId → Type 0 = λ w. IsFlagged (story d (act.Aborted u n why ∷ past) w) in subst P same (aborted-flagged d past u n why due.0))
  | inr other ↦ flagged-more d past (act.Aborted u n why) t due (given-flagged d past due.1 t (given-either u t (is_given_up t past) e other))
]
given-flagged d (act.Lost u ∷ past) due t e = elim (cases_eq u t) [
  | inl same ↦ (let P : TxId → Type 0 = λ w. IsFlagged (story d (act.Lost u ∷ past) w) in subst P same (lost-flagged d past u due.0))
  | inr other ↦ flagged-more d past (act.Lost u) t due (given-flagged d past due.1 t (given-either u t (is_given_up t past) e other))
]
given-flagged d (a ∷ past) due t e = flagged-more d past a t due (given-flagged d past due.1 t e)

-- its story says so
pub given-up-told : (d : DocumentData) (past : List Act) → AllDue d past → (t : TxId) (x : Story)
    → story d past t ≡ Some x → is_given_up t past ≡ true → (x.aborted || x.lost) ≡ true
given-up-told d past due t x told e = subst IsFlagged told (given-flagged d past due t e)

-- what is open was not given up
pub open-not-given-up : (d : DocumentData) (past : List Act) → AllDue d past → (s : ScriptData) (t : TxId)
    → script_of t d.scripts ≡ Some s → is_open (phase d past s) ≡ true → is_given_up t past ≡ true → ⊥
open-not-given-up d past due s t is e given =
    let w = open-story s (story d past s.number) (node d past s.home) e in
    let told : story d past s.number ≡ Some w.0 = w.1 in
    let P : TxId → Type 0 = λ u. story d past u ≡ Some w.0 in
    let Q : Option Story → Type 0 = λ o. is_open (phase_at s o (node d past s.home)) ≡ true in
    let open' = open-is s w.0 (node d past s.home) (subst Q told e) in
    let a = open'.aborted in
    let l = open'.lost in
    let none : (w.0.aborted || w.0.lost) ≡ false = rw (a, l) refl in
    both_ways (w.0.aborted || w.0.lost) none
    (given-up-told d past due t w.0 (subst P (script-number t d.scripts s is) told) given)
