-- Advance shows the own reads behind the operation that it goes on from, one by one.
use Rattle.std.proofs.Common.{◌≡◌, ℕ, Bool, List, [], ◌∷◌, ◌++◌, Option, Some, inl, inr, refl, sym, ap, subst, ◌∙◌}
use Rattle.std.proofs.lemmas.Bool.{cases_eq}
use Rattle.std.proofs.lemmas.List.{append_assoc, append-nil}
use Rattle.std.specs.Prelude.{filter, map, nat_lt}
use Rattle.score_base.specs.declared.ids.TxId.{TxId}
use Rattle.score_base.specs.declared.ids.NodeId.{NodeId}
use Rattle.score_base.specs.declared.ids.Value.{Value}
use Rattle.script_lang.specs.Scripts.{ScriptData}
use Rattle.grid_model.specs.declared.acts.Act.{Act}
use Rattle.grid_model.specs.declared.acts.Act.TheVariants as act
use Rattle.grid_model.specs.declared.events.Out.{Out}
use Rattle.grid_model.specs.declared.events.Out.TheVariants as out
use Rattle.grid_model.specs.declared.stories.Story.{Story}
use Rattle.grid_model.specs.Documents.{DocumentData}
use Rattle.grid_model.specs.Histories.{after}
use Rattle.grid_model.specs.Nodes.{script_of}
use Rattle.grid_model.specs.Stories.{story}
use Rattle.script_runs.specs.Waits.{waiting}
use Rattle.grid_model.specs.Views.{open_of}
use Rattle.grid_model.specs.Advances.{advance, advance_end}
use Rattle.script_runs.specs.Walks.{own_reads, unread}
use Rattle.grid_model.specs.Schedules.{numbered, kept}
use Rattle.grid_model.specs.Copies.{shown}
use Rattle.script_runs.proofs.AllReads.{reads_by}
use Rattle.grid_laws.proofs.Frames.{same-number}
use Rattle.grid_laws.proofs.RowOuts.{pass-acts, pass-end, kept-first}
use Rattle.copy_laws.proofs.ShownSteps.{Says, ShownBy, AllShown, OthersShown, other-own, is_unshowing, unshowing-all}

all-from : (d : DocumentData) (past : List Act) (u : TxId) (s : ScriptData) → script_of u d.scripts ≡ Some s
    → ShownBy d past u s → OthersShown d past u → AllShown d past
all-from d past u s e mine others t w f = elim (cases_eq u t) [
  | inl same ↦ (let P : TxId → Type 0 = λ v. script_of v d.scripts ≡ Some w → ShownBy d past v w in subst P same (λ g. its g) f)
  | inr other ↦ others t w other f
]
  where
    its : script_of u d.scripts ≡ Some w → ShownBy d past u w
    its g = let is : s ≡ w = cc in let P : ScriptData → Type 0 = λ z. ShownBy d past u z in subst P is mine

own-shown : (past : List Act) (t : TxId) (j : ℕ) (v : Value)
    → shown (act.Own t j v ∷ past) t ≡ shown past t ++ (j, v) ∷ []
own-shown past t j v = rw (same-number t) refl

-- what was shown so far, and the own reads that are left
shown-owns : (d : DocumentData) (now : List Act) (m : ℕ) (n : NodeId) (b : Bool) (s : ScriptData) (x : Story)
    (ys : List (ℕ × Value)) (rest : List Out) → script_of s.number d.scripts ≡ Some s → story d now s.number ≡ Some x
    → shown now s.number ++ ys ≡ reads_by x.progress.values s.ops → OthersShown d now s.number
    → ((past : List Act) → AllShown d past → AllShown d (after past (numbered m n (kept b n rest))))
    → AllShown d (after now (numbered m n (kept b n (map (λ y. out.Act (act.Own s.number y.0 y.1)) ys ++ rest))))
shown-owns d now m n b s x [] rest is at so others go =
    let P : Option Story → Type 0 = λ o. Says s (shown now s.number) o in
    go now (all-from d now s.number s is (subst P (sym at) (sym (append-nil (shown now s.number)) ∙ so)) others)
shown-owns d now m n b s x (y ∷ ys) rest is at so others go =
    let own : Act = act.Own s.number y.0 y.1 in
    let so' : shown (own ∷ now) s.number ++ ys ≡ reads_by x.progress.values s.ops = ap (λ zs. zs ++ ys) (own-shown now s.number y.0 y.1) ∙ append_assoc (shown now s.number) (y ∷ []) ys ∙ so in
    let P : List Act → Type 0 = λ acts. AllShown d (after now acts) in
    subst P
    (sym (kept-first m n b (act.Own s.number y.0 y.1) (map (λ y. out.Act (act.Own s.number y.0 y.1)) ys ++ rest) refl))
    (shown-owns d (own ∷ now) m n b s x ys rest is at so' (λ t w other e. other-own d now s.number t y.0 y.1 w other (others t w other e)) go)

-- Advance behind operation i
pub shown-advance : (d : DocumentData) (now : List Act) (m : ℕ) (n : NodeId) (b : Bool) (s : ScriptData) (x : Story)
    (i : ℕ) → script_of s.number d.scripts ≡ Some s → story d now s.number ≡ Some x
    → shown now s.number ++ filter (λ y. nat_lt i y.0) (own_reads 1 [] unread x.progress.values s.ops)
    ≡ reads_by x.progress.values s.ops → OthersShown d now s.number
    → AllShown d (after now (numbered m n (kept b n (advance d.cluster (open_of s x) i))))
shown-advance d now m n b s x i is at so others =
    shown-owns d now m n b s x (filter (λ y. nat_lt i y.0) (own_reads 1 [] unread x.progress.values s.ops)) (advance_end d.cluster (open_of s x) (waiting s.ops x.progress.values)) is at so others
    (λ past all. unshowing-all d past (numbered m n (kept b n (advance_end d.cluster (open_of s x) (waiting s.ops x.progress.values)))) (pass-acts is_unshowing n (λ k y said. refl) (λ h. refl) m b (advance_end d.cluster (open_of s x) (waiting s.ops x.progress.values)) (pass-end is_unshowing (λ t. refl) d.cluster (open_of s x) (waiting s.ops x.progress.values))) all)
