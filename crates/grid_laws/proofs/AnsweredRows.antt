-- Advance ends with the answer of a read-only transaction whose reads all have their values.
use Rattle.grid_laws.proofs.StoryClaims.{is_untaking}
use Rattle.std.proofs.Common.{◌≡◌, ℕ, Bool, true, false, List, [], ◌∷◌, ◌++◌, Option, Some, None, refl, sym, ap, subst, arith}
use Rattle.std.specs.Prelude.{is_some, is_none, filter, map, nat_lt}
use Rattle.std.specs.List.{list_all}
use Rattle.std.proofs.lemmas.Bool.{and_parts}
use Rattle.score_base.specs.declared.ids.TxId.{TxId}
use Rattle.score_base.specs.declared.ids.NodeId.{NodeId}
use Rattle.score_base.specs.declared.ids.Value.{Value}
use Rattle.script_lang.specs.Scripts.{ScriptData}
use Rattle.script_lang.specs.Reads.{is_update}
use Rattle.grid_model.specs.declared.acts.Act.{Act}
use Rattle.grid_model.specs.declared.acts.Act.TheVariants as act
use Rattle.grid_model.specs.declared.events.Out.{Out}
use Rattle.grid_model.specs.declared.events.Out.TheVariants as out
use Rattle.grid_model.specs.declared.stories.Story.{Story}
use Rattle.grid_model.specs.Documents.{DocumentData}
use Rattle.grid_model.specs.Histories.{after}
use Rattle.grid_model.specs.Nodes.{script_of, parts_of}
use Rattle.grid_model.specs.Stories.{story}
use Rattle.script_runs.specs.Waits.{waiting}
use Rattle.grid_model.specs.Views.{open_of, Open}
use Rattle.grid_model.specs.Advances.{advance, advance_end, prepares, request_of}
use Rattle.script_runs.specs.Walks.{op_at, own_reads, unread}
use Rattle.placement.specs.Clusters.{ClusterData}
use Rattle.grid_model.specs.Schedules.{numbered, kept, broken, head_of}
use Rattle.grid_laws.proofs.Frames.{same-number}
use Rattle.grid_laws.proofs.RowOuts.{Pass, on_act, pass-advance, pass-end, pass-numbered, pass-prepares}
use Rattle.grid_laws.proofs.Answered.{is_told, untaking-all, or-true, AllTold, OthersTold, untaking-others, all-from}

-- ---- outs that write no record

-- an act that stands for no record
abbrev is_unrecorded : Act → Bool
is_unrecorded a = is_none (head_of a)

kept-step : (n : NodeId) (o : Out) (os : List Out) → on_act is_unrecorded o ≡ true → broken n os ≡ os
    → broken n (o ∷ os) ≡ o ∷ os
kept-step n (out.Send to said) os none same = ap (λ z. out.Send to said ∷ z) same
kept-step n (out.Act a) os none same = grind (arith, none, same)

broken-unrecorded : (n : NodeId) (os : List Out) → Pass is_unrecorded os → broken n os ≡ os
broken-unrecorded n [] none = refl
broken-unrecorded n (o ∷ os) none =
    let both = and_parts (on_act is_unrecorded o) (list_all (on_act is_unrecorded) os) none in
    kept-step n o os both.0 (broken-unrecorded n os both.1)

-- Advance stops in no record
pub advance-kept : (c : ClusterData) (x : Open) (i : ℕ) (b : Bool) (n : NodeId)
    → kept b n (advance c x i) ≡ advance c x i
advance-kept c x i true n = refl
advance-kept c x i false n =
    broken-unrecorded n (advance c x i) (pass-advance is_unrecorded (λ t j v. refl) (λ t. refl) c x i)

-- ---- what stands at the end

told-reading : (s : ScriptData) (x : Story) (j : ℕ) → waiting s.ops x.progress.values ≡ Some j
    → is_told s (Some x) ≡ true
told-reading s x j e = rw e refl

told-update : (s : ScriptData) (x : Story) → is_update s.ops ≡ true → is_told s (Some x) ≡ true
told-update s x e = grind (arith, e)

story-finished : (d : DocumentData) (now : List Act) (u : TxId) (x : Story) → story d now u ≡ Some x
    → story d (act.Finished u ∷ now) u ≡ Some (record x { finished = true })
story-finished d now u x e = rw (e, same-number u) refl

told-finished : (s : ScriptData) (x : Story) → is_told s (Some (record x { finished = true })) ≡ true
told-finished s x = or-true (is_some (waiting s.ops x.progress.values)) (is_update s.ops)

told-end : (d : DocumentData) (now : List Act) (m : ℕ) (n : NodeId) (s : ScriptData) (x : Story) (w : Option ℕ)
    (b : Bool) → script_of s.number d.scripts ≡ Some s → story d now s.number ≡ Some x → OthersTold d now s.number
    → waiting s.ops x.progress.values ≡ w → is_update s.ops ≡ b
    → AllTold d (after now (numbered m n (advance_end d.cluster (open_of s x) w)))
told-end d now m n s x (Some j) b is at others e u = untaking-all d now (numbered m n (request_of d.cluster (open_of s x) j 0 (op_at s.ops j))) (pass-numbered is_untaking n (λ k y said. refl) m (request_of d.cluster (open_of s x) j 0 (op_at s.ops j)) (pass-end is_untaking (λ t. refl) d.cluster (open_of s x) (Some j))) (all-from d now s.number s is (rw at (told-reading s x j e)) others)
told-end d now m n s x None true is at others e u = rw u (untaking-all d now (numbered m n (prepares d.cluster (open_of s x) (parts_of d s))) (pass-numbered is_untaking n (λ k y said. refl) m (prepares d.cluster (open_of s x) (parts_of d s)) (pass-prepares is_untaking d.cluster (open_of s x) (parts_of d s))) (all-from d now s.number s is (rw at (told-update s x u)) others))
told-end d now m n s x None false is at others e u =
    rw u (all-from d (act.Finished s.number ∷ now) s.number s is (let P : Option Story → Type 0 = λ o. is_told s o ≡ true in subst P (sym (story-finished d now s.number x at)) (told-finished s x)) (untaking-others d now (act.Finished s.number) s.number refl others))

told-owns : (d : DocumentData) (now : List Act) (m : ℕ) (n : NodeId) (s : ScriptData) (x : Story)
    (ys : List (ℕ × Value)) (rest : List Out) → story d now s.number ≡ Some x → OthersTold d now s.number
    → ((now : List Act) → story d now s.number ≡ Some x → OthersTold d now s.number
    → AllTold d (after now (numbered m n rest)))
    → AllTold d (after now (numbered m n (map (λ y. out.Act (act.Own s.number y.0 y.1)) ys ++ rest)))
told-owns d now m n s x [] rest at others go = go now at others
told-owns d now m n s x (y ∷ ys) rest at others go =
    told-owns d (act.Own s.number y.0 y.1 ∷ now) m n s x ys rest at
    (untaking-others d now (act.Own s.number y.0 y.1) s.number refl others) go

pub told-advance : (d : DocumentData) (now : List Act) (m : ℕ) (n : NodeId) (b : Bool) (s : ScriptData) (x : Story)
    (i : ℕ) → script_of s.number d.scripts ≡ Some s → story d now s.number ≡ Some x → OthersTold d now s.number
    → AllTold d (after now (numbered m n (kept b n (advance d.cluster (open_of s x) i))))
told-advance d now m n b s x i is at others =
    rw (advance-kept d.cluster (open_of s x) i b n)
    (told-owns d now m n s x (filter (λ y. nat_lt i y.0) (own_reads 1 [] unread x.progress.values s.ops)) (advance_end d.cluster (open_of s x) (waiting s.ops x.progress.values)) at others
    (λ now' at' others'. told-end d now' m n s x (waiting s.ops x.progress.values) (is_update s.ops) is at' others' refl refl))
