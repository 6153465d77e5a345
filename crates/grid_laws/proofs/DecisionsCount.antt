-- In a run each Decided counts: nothing of a transaction that begins was decided before.
use Rattle.std.proofs.Common.{◌≡◌, ℕ, true, List, [], ◌∷◌, None, refl, sym, subst, ◌∙◌, arith}
use Rattle.std.proofs.lemmas.Bool.Decides.{nat_tests}
use Rattle.score_base.specs.declared.ids.TxId.{TxId}
use Rattle.score_base.specs.declared.ids.NodeId.{NodeId}
use Rattle.script_lang.specs.Scripts.{ScriptData}
use Rattle.journal_words.specs.Journals.{decision, later_decision}
use Rattle.journal_words.proofs.Later.{fresh-times, later-all}
use Rattle.grid_model.specs.declared.acts.Act.{Act}
use Rattle.grid_model.specs.declared.acts.Act.TheVariants as act
use Rattle.grid_model.specs.Documents.{DocumentData}
use Rattle.grid_model.specs.Nodes.{node, journal, script_of}
use Rattle.grid_model.specs.Stories.{phase, is_open, story, skipped_in, over_at}
use Rattle.grid_model.proofs.Undecided.{begins, skipped-told}
use Rattle.grid_laws.proofs.Causes.{IsDue, AllDue}
use Rattle.grid_laws.proofs.OpenPhases.{open-undecided}

begun-counts : (d : DocumentData) (past : List Act) (a : Act) (t : TxId) → IsDue d past a → begins t a ≡ true
    → over_at (node d past) (script_of t d.scripts) ≡ 0
begun-counts d past (act.Began u n sid0) t due is =
    let same : u ≡ t = grind (arith, nat_tests) in
    let P : NodeId → Type 0 = λ k. decision due.script.number (journal d past k) ≡ None in
    let none : decision due.script.number (journal d past due.script.home) ≡ None = subst P (sym due.home) due.undecided in
    subst (λ w. over_at (node d past) (script_of w d.scripts) ≡ 0) same (rw due.is (fresh-times due.script.number (journal d past due.script.home) none))
begun-counts d past a t due is = grind arith

-- no Decided is left behind
pub all-count : (d : DocumentData) (past : List Act) → AllDue d past → (t : TxId) → skipped_in (story d past t) ≡ 0
all-count d [] due t = refl
all-count d (a ∷ past) due t = skipped-told (λ k. k ≡ 0) d past a t (begun-counts d past a t due.0) (all-count d past due.1 t)

-- what is open was decided nowhere
pub open-decided-never : (d : DocumentData) (past : List Act) → AllDue d past → (s : ScriptData)
    → is_open (phase d past s) ≡ true → decision s.number (journal d past s.home) ≡ None
open-decided-never d past due s e =
    let P : ℕ → Type 0 = λ k. later_decision k s.number (journal d past s.home) ≡ None in
    sym (later-all s.number (journal d past s.home)) ∙ subst P (all-count d past due s.number) (open-undecided s (story d past s.number) (node d past s.home) e)
