-- Whatever line is read adds its words: those of the schedule, and each line where it may stand.
use Rattle.std.proofs.Common.{◌≡◌, ℕ, ◌≤◌, true, List, [], ◌∷◌, ◌++◌, nat_le, cond, Option, Some, None, Result, IfOk, refl, sym, ap, ◌∙◌, subst, map, arith, codes}
use Rattle.std.specs.Cmp.Lexicographic.{bytes_decides}
use Rattle.std.specs.List.{flat_map}
use Rattle.std.proofs.lemmas.Bool.Decides.{nat_tests}
use Rattle.std.proofs.lemmas.List.{map-append}
use Rattle.script_lang.specs.Scripts.{ScriptData}
use Rattle.grid_model.specs.declared.items.Item.{Item}
use Rattle.grid_model.specs.declared.items.Item.TheVariants as item
use Rattle.cluster_file.specs.declared.drafts.Draft.{Draft}
use Rattle.cluster_file.specs.declared.drafts.Part.{Part}
use Rattle.cluster_file.specs.declared.drafts.Part.TheVariants as part
use Rattle.cluster_file.specs.declared.items.Kind.{Kind}
use Rattle.script_lang.specs.Reading.{is_word, end_at, number_at, in_range}
use Rattle.cluster_file.specs.Items.{kind_of, item_at, with_item, event_line, more_events, next_line, item_line}
use Rattle.cluster_file.specs.Lines.{nodes_line, schedule_line, later_line, init_or_later, part_line, line_in, words_line}
use Rattle.cluster_file.specs.Doc.{blank}
use Rattle.cluster_file.specs.Spelling.{is_item_in_range, init_words, item_words, partition_lines}
use Rattle.cluster_file.proofs.Named.{all_last}
use Rattle.script_lang.proofs.Readings.{behind, then, either}
use Rattle.script_lang.proofs.WordsRead.{end_read, number_read, in_range_read}
use Rattle.cluster_file.proofs.SoFar.{IsStage, IsBegun, planned}
use Rattle.cluster_file.proofs.LinesSoFar.{open_lines, schedule_lines, Adds, Begins, more_schedule}
use Rattle.cluster_file.proofs.ItemsRead.{kind_word, item_read, kind_read}
use Rattle.cluster_file.proofs.LinesTold.{one_number, first_told, partition_told, init_told, tx_lines_told, script_told}
use Rattle.script_lang.specs.Spelling.{script_words}
use Rattle.script_lang.specs.declared.whys.Why.{Why}
use Rattle.script_lang.specs.declared.limits.TheConstants.{MAX_NODES}
use Rattle.cluster_file.specs.declared.limits.TheConstants.{MAX_COUNT, MAX_EVENTS}

schedule_told : (d : Draft) (ws : List (List ℕ)) → d.items ≡ [] → schedule_lines d.part d.items ≡ []
    → IfOk (schedule_line d ws) (Adds d (codes "schedule" ∷ ws))
unfolding schedule_line
schedule_told d ws none quiet = behind (end_at ws) _ _ _ (end_read ws) (λ z none_left.
    record {
      lines = more_schedule _ _ (partition_lines 0 d.places) (map init_words d.inits) (flat_map script_words d.scripts) (open_lines d.script) (schedule_lines d.part d.items) ((codes "schedule" ∷ []) ∷ map item_words d.items)
          (ap (λ l. (codes "schedule" ∷ []) ∷ map item_words l) none ∙ ap (λ l. (codes "schedule" ∷ l) ∷ []) (sym none_left) ∙ ap (λ l. l ++ (codes "schedule" ∷ ws) ∷ []) (sym quiet));
      ranges = λ few r. record { places = r.places; inits = r.inits; scripts = r.scripts; opened = r.opened; items = r.items };
    })

item_told : (d : Draft) (i : Item) (c : ℕ) (ws : List (List ℕ)) → item_words i ≡ ws
    → (d.nodes ≤ MAX_NODES → is_item_in_range i ≡ true) → Adds (planned d) ws (with_item (planned d) i c)
item_told d i c ws e is = record {
  lines = more_schedule _ _ (partition_lines 0 d.places) (map init_words d.inits) (flat_map script_words d.scripts) [] ((codes "schedule" ∷ []) ∷ map item_words d.items) ((codes "schedule" ∷ []) ∷ map item_words (d.items ++ i ∷ []))
      (ap (λ l. (codes "schedule" ∷ []) ∷ l) (map-append item_words d.items (i ∷ []) ∙ ap (λ l. map item_words d.items ++ l ∷ []) e));
  ranges = λ few r. record { places = r.places; inits = r.inits; scripts = r.scripts; opened = r.opened; items = all_last is_item_in_range d.items i r.items (is few) };
}

event_told : (d : Draft) (k : Kind) (ws : List (List ℕ))
    → IfOk (event_line (planned d) k ws) (Adds (planned d) (kind_word k ∷ ws))
unfolding event_line
event_told d k ws = either (nat_le MAX_EVENTS d.events) _ _ _ (λ _. tt) (λ _. behind (item_at k d.nodes d.numbers ws) _ _ _ (item_read k d.nodes d.numbers ws) (λ i read. item_told d i 1 _ read.spelled read.short))

next_item_told : (d : Draft) (ws : List (List ℕ))
    → IfOk (next_line (planned d) ws) (Adds (planned d) (codes "next" ∷ ws))
unfolding next_line
next_item_told d ws = behind (number_at ws) _ _ _ (number_read ws) (λ n words. behind (in_range 1 MAX_EVENTS n.0) _ _ _ (in_range_read 1 MAX_EVENTS n.0) (λ c same. then (more_events d.events c) _ _ (λ _. behind (end_at n.1) _ _ _ (end_read n.1) (λ z none_left.
    let low : nat_le c MAX_COUNT ≡ true = grind (arith, nat_tests, same.2) in
    item_told d (item.Next c) c _ (ap (λ l. codes "next" ∷ l) (one_number ws n c words.0 same.0 none_left)) (λ few. low)))))

-- Which lines may stand where.

-- a line whose first word is c, or another
word_or : (w c : List ℕ) (ws : List (List ℕ)) (d : Draft) (x y : Result Draft Why) → IfOk x (Adds d (c ∷ ws))
    → IfOk y (Adds d (w ∷ ws)) → IfOk (cond (is_word w c) x y) (Adds d (w ∷ ws))
word_or w c ws d x y h k = either (is_word w c) x y _ (λ e. subst (λ v. IfOk x (Adds d (v ∷ ws))) (sym ((bytes_decides w c).0 e)) h) (λ _. k)

later_told : (d : Draft) (w : List ℕ) (ws : List (List ℕ)) → d.script ≡ None → d.items ≡ []
    → schedule_lines d.part d.items ≡ [] → IfOk (later_line d w ws) (Adds d (w ∷ ws))
later_told d w ws none items quiet = word_or w (codes "tx") ws d _ _ (tx_lines_told d ws none quiet) (word_or w (codes "schedule") ws d _ _ (schedule_told d ws items quiet) tt)

init_or_later_told : (d : Draft) (w : List ℕ) (ws : List (List ℕ)) → d.scripts ≡ [] → d.script ≡ None → d.items ≡ []
    → schedule_lines d.part d.items ≡ [] → IfOk (init_or_later d w ws) (Adds d (w ∷ ws))
init_or_later_told d w ws ss none items quiet = word_or w (codes "init") ws d _ _ (init_told d ws ss none quiet) (later_told d w ws none items quiet)

item_line_told : (d : Draft) (w : List ℕ) (ws : List (List ℕ))
    → IfOk (item_line (planned d) w ws) (Adds (planned d) (w ∷ ws))
unfolding item_line
item_line_told d w ws = word_or w (codes "next") ws (planned d) _ _ (next_item_told d ws) (behind (kind_of w) _ _ _ (kind_read w) (λ k e. subst (λ v. IfOk (event_line (planned d) k ws) (Adds (planned d) (v ∷ ws))) (sym e) (event_told d k ws)))

part_told : (p : Part) (d : Draft) (w : List ℕ) (ws : List (List ℕ)) → IsStage p d.places d.inits d.scripts None d.items
    → IfOk (part_line p (record d { script = None; part = p }) w ws)
    (Adds (record d { script = None; part = p }) (w ∷ ws))
part_told part.Start d w ws h = absurd h
part_told part.Nodes d w ws h = word_or w (codes "partition") ws (record d { script = None; part = part.Nodes }) _ _ (partition_told (record d { script = None; part = part.Nodes }) ws h.3 h.0 refl refl) tt
part_told part.Partitions d w ws h = word_or w (codes "partition") ws (record d { script = None; part = part.Partitions }) _ _ (partition_told (record d { script = None; part = part.Partitions }) ws h.3 h.0 refl refl) (init_or_later_told (record d { script = None; part = part.Partitions }) w ws h.0 refl h.2 refl)
part_told part.Inits d w ws h = init_or_later_told (record d { script = None; part = part.Inits }) w ws h.0 refl h.2 refl
part_told part.Scripts d w ws h = later_told (record d { script = None; part = part.Scripts }) w ws refl h.0 refl
part_told part.Items d w ws h = item_line_told d w ws

line_in_told : (o : Option ScriptData) (p : Part) (d : Draft) (w : List ℕ) (ws : List (List ℕ))
    → IsStage p d.places d.inits d.scripts o d.items
    → IfOk (line_in o (record d { script = None; part = p }) w ws) (Adds (record d { script = o; part = p }) (w ∷ ws))
line_in_told None p d w ws h = part_told p d w ws h
line_in_told (Some s) part.Start d w ws h = absurd h
line_in_told (Some s) part.Nodes d w ws h = let bad : Some s ≡ None = h.1 in cc
line_in_told (Some s) part.Partitions d w ws h = let bad : Some s ≡ None = h.1 in cc
line_in_told (Some s) part.Inits d w ws h = let bad : Some s ≡ None = h.1 in cc
line_in_told (Some s) part.Scripts d w ws h = script_told d s w ws
line_in_told (Some s) part.Items d w ws h = let bad : Some s ≡ None = h.0 in cc

-- a line adds itself
pub words_told : (d : Draft) (ws : List (List ℕ)) → IsBegun d → IfOk (words_line d ws) (Adds d ws)
words_told d [] h = tt
words_told d (w ∷ ws) h = line_in_told d.script d.part d w ws h.stage

-- so does the first
pub blank_words_told : (ws : List (List ℕ)) → IfOk (words_line blank ws) (Begins ws)
blank_words_told [] = tt
blank_words_told (w ∷ ws) = either (is_word w (codes "nodes")) _ _ _ (λ e. subst (λ v. IfOk (nodes_line blank ws) (Begins (v ∷ ws))) (sym ((bytes_decides w (codes "nodes")).0 e)) (first_told ws)) (λ _. tt)
