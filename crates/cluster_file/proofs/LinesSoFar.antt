-- The lines of what was read so far, and what one more adds to them.
use Rattle.std.proofs.Common.{◌≡◌, ℕ, ◌+◌, ◌≤◌, true, nat_le, List, [], ◌∷◌, ◌++◌, length, Option, Some, None, refl, sym, ap, ◌∙◌, map, append_assoc, arith, codes}
use Rattle.std.specs.List.{list_all, flat_map}
use Rattle.std.proofs.lemmas.List.{append-nil}
use Rattle.score_base.specs.declared.ids.NodeId.{NodeId}
use Rattle.script_lang.specs.Scripts.{ScriptData, IsFront}
use Rattle.script_lang.specs.Spelling.{op_words, tx_words, script_words, is_plain_op}
use Rattle.grid_model.specs.declared.items.Item.{Item}
use Rattle.cluster_file.specs.declared.drafts.Draft.{Draft}
use Rattle.cluster_file.specs.declared.drafts.Part.{Part}
use Rattle.cluster_file.specs.declared.drafts.Part.TheVariants as part
use Rattle.cluster_file.specs.Spelling.{is_node, is_tx, is_init_in_range, is_script_in_range, is_item_in_range, nodes_words, partition_words, init_words, item_words, partition_lines}
use Rattle.script_lang.specs.declared.limits.TheConstants.{MAX_NODES, MAX_SESSION}

-- The lines of what was read.

abbrev pub open_lines : Option ScriptData → List (List (List ℕ))
open_lines None = []
open_lines (Some s) = tx_words s ∷ map op_words s.ops

abbrev pub schedule_lines : Part → List Item → List (List (List ℕ))
schedule_lines part.Start items = []
schedule_lines part.Nodes items = []
schedule_lines part.Partitions items = []
schedule_lines part.Inits items = []
schedule_lines part.Scripts items = []
schedule_lines part.Items items = (codes "schedule" ∷ []) ∷ map item_words items

-- the lines that were read, the first at least
abbrev pub lines_so_far : Draft → List (List (List ℕ))
lines_so_far d =
    nodes_words d.nodes ∷ (partition_lines 0 d.places ++ (map init_words d.inits
    ++ (flat_map script_words d.scripts ++ (open_lines d.script ++ schedule_lines d.part d.items))))

-- the script that is being read, so far
pub record IsOpened (s : ScriptData) : Type 0 where
  pub number : is_tx s.number ≡ true
  pub home : is_node s.home ≡ true
  pub session : nat_le s.session MAX_SESSION ≡ true
  pub front : IsFront s.ops
  pub keys : list_all is_plain_op s.ops ≡ true

abbrev pub MayBeOpened : Option ScriptData → Type 0
MayBeOpened None = Unit {0}
MayBeOpened (Some s) = IsOpened s

-- what was read is in its ranges
pub record IsInRangeSoFar (d : Draft) : Type 0 where
  pub places : list_all (list_all is_node) d.places ≡ true
  pub inits : list_all is_init_in_range d.inits ≡ true
  pub scripts : list_all is_script_in_range d.scripts ≡ true
  pub opened : MayBeOpened d.script
  pub items : list_all is_item_in_range d.items ≡ true

-- one line more
pub record Adds (d : Draft) (ws : List (List ℕ)) (e : Draft) : Type 0 where
  pub lines : lines_so_far e ≡ lines_so_far d ++ ws ∷ []
  pub ranges : d.nodes ≤ MAX_NODES → IsInRangeSoFar d → IsInRangeSoFar e

-- the first line
pub record Begins (ws : List (List ℕ)) (d : Draft) : Type 0 where
  pub lines : lines_so_far d ≡ ws ∷ []
  pub ranges : IsInRangeSoFar d

module _ {X : Type 0} (n x : X) where
  pub more_schedule : (p i s o c c' : List X) → c' ≡ c ++ x ∷ []
      → n ∷ (p ++ (i ++ (s ++ (o ++ c')))) ≡ (n ∷ (p ++ (i ++ (s ++ (o ++ c))))) ++ x ∷ []
  more_schedule p i s o c c' e = rw e (simp append_assoc refl)

  in_front : (p i s o : List X) → p ++ (i ++ (s ++ (o ++ x ∷ []))) ≡ (p ++ (i ++ (s ++ o))) ++ x ∷ []
  in_front p i s o = sym (append_assoc p (i ++ (s ++ o)) (x ∷ []) ∙ ap (λ l. p ++ l) (append_assoc i (s ++ o) (x ∷ []) ∙ ap (λ l. i ++ l) (append_assoc s o (x ∷ []))))

  pub more_script : (p i s o o' c : List X) → o' ≡ o ++ x ∷ [] → c ≡ []
      → n ∷ (p ++ (i ++ (s ++ (o' ++ [])))) ≡ (n ∷ (p ++ (i ++ (s ++ (o ++ c))))) ++ x ∷ []
  more_script p i s o o' c e f = rw (e, f) (
      ap (λ l. n ∷ (p ++ (i ++ (s ++ l)))) (append-nil (o ++ x ∷ []))
      ∙ ap (λ l. n ∷ l) (in_front p i s o)
      ∙ ap (λ l. n ∷ ((p ++ (i ++ (s ++ l))) ++ x ∷ [])) (sym (append-nil o)))

  pub more_scripts : (p i s s' o : List X) → s' ≡ s ++ (o ++ x ∷ [])
      → n ∷ (p ++ (i ++ (s' ++ []))) ≡ (n ∷ (p ++ (i ++ (s ++ (o ++ []))))) ++ x ∷ []
  more_scripts p i s s' o e = rw e (simp append-nil (simp append_assoc refl))

  pub more_inits : (p i i' s o c : List X) → i' ≡ i ++ x ∷ [] → s ≡ [] → o ≡ [] → c ≡ []
      → n ∷ (p ++ (i' ++ (s ++ (o ++ [])))) ≡ (n ∷ (p ++ (i ++ (s ++ (o ++ c))))) ++ x ∷ []
  more_inits p i i' s o c e f g h = rw (e, f, g, h) (
      ap (λ l. n ∷ (p ++ l)) (append-nil (i ++ x ∷ []))
      ∙ ap (λ l. n ∷ l) (sym (append_assoc p i (x ∷ [])))
      ∙ ap (λ l. n ∷ ((p ++ l) ++ x ∷ [])) (sym (append-nil i)))

  pub more_partitions : (p p' i s o c : List X) → p' ≡ p ++ x ∷ [] → i ≡ [] → s ≡ [] → o ≡ [] → c ≡ []
      → n ∷ (p' ++ (i ++ (s ++ (o ++ [])))) ≡ (n ∷ (p ++ (i ++ (s ++ (o ++ c))))) ++ x ∷ []
  more_partitions p p' i s o c e d f g h = rw (e, d, f, g, h) (ap (λ l. n ∷ l) (append-nil (p ++ x ∷ [])) ∙ ap (λ l. n ∷ (l ++ x ∷ [])) (sym (append-nil p)))

partition_last : (i : ℕ) (ps : List (List NodeId)) (ns : List NodeId)
    → partition_lines i (ps ++ ns ∷ []) ≡ partition_lines i ps ++ partition_words (i + length ps) ns ∷ []
partition_last i [] ns = let same : i ≡ i + 0 = omega arith in ap (λ j. partition_words j ns ∷ []) same
partition_last i (p ∷ ps) ns =
    let same : i + 1 + length ps ≡ i + length (p ∷ ps) = omega arith in
    ap (λ l. partition_words i p ∷ l) (partition_last (i + 1) ps ns ∙ ap (λ j. partition_lines (i + 1) ps ++ partition_words j ns ∷ []) same)

pub partition_next : (ps : List (List NodeId)) (ns : List NodeId)
    → partition_lines 0 (ps ++ ns ∷ []) ≡ partition_lines 0 ps ++ partition_words (length ps) ns ∷ []
partition_next ps ns =
    let same : 0 + length ps ≡ length ps = omega arith in
    partition_last 0 ps ns ∙ ap (λ j. partition_lines 0 ps ++ partition_words j ns ∷ []) same
