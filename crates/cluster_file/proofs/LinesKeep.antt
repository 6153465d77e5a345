-- A line of the cluster or of a script leaves what was read well formed.
use Rattle.std.proofs.Common.{◌≡◌, ℕ, ◌+◌, ◌<◌, ◌≤◌, true, List, [], ◌∷◌, ◌++◌, length, length-append, nat_le, None, IfOk, refl, sym, ap, ◌∙◌, subst, arith, codes}
use Rattle.std.specs.List.{list_all}
use Rattle.std.proofs.lemmas.Bool.{and_parts}
use Rattle.std.proofs.lemmas.Bool.Decides.{nat_tests}
use Rattle.std.proofs.lemmas.List.{append-nil}
use Rattle.script_lang.specs.Scripts.{ScriptData}
use Rattle.placement.specs.Places.{is_partition}
use Rattle.grid_model.specs.Documents.{script_numbers}
use Rattle.cluster_file.specs.declared.drafts.Draft.{Draft}
use Rattle.script_lang.specs.Reading.{is_word, word_at, end_at, number_at, in_range, steps}
use Rattle.cluster_file.specs.Lines.{name_new_key, nodes_line, node_step, is_next, partition_line, init_line, tx_line, with_stage, schedule_line, script_line, later_line, init_or_later}
use Rattle.script_lang.specs.Words.{key_of}
use Rattle.cluster_file.specs.Doc.{blank}
use Rattle.script_lang.proofs.Readings.{behind, then, either}
use Rattle.script_lang.proofs.WordsRead.{in_range_read}
use Rattle.cluster_file.proofs.Named.{all_last}
use Rattle.cluster_file.proofs.SoFar.{IsNamed, IsPlan, IsBegun, all_scripts, inside, outside}
use Rattle.script_lang.specs.ScriptLines.{first_line, body_line}
use Rattle.script_lang.specs.declared.script_lines.Stage.{Stage}
use Rattle.script_lang.specs.declared.script_lines.Stage.TheVariants as stage
use Rattle.script_lang.proofs.BodyRead.{Follows, first_line_read, body_read}
use Rattle.std.specs.BTreeSet.{BTreeSet}
use Rattle.score_base.specs.declared.keys.Key.{Key}
use Rattle.cluster_file.proofs.PartsKeep.{steps_keep, is_next_keeps, name_new_key_keeps, named_init, named_tx, named_op, plan_none, no_script}
use Rattle.script_lang.specs.declared.limits.TheConstants.{MAX_NODES}
use Rattle.cluster_file.specs.declared.limits.TheConstants.{MAX_KEYS, MAX_PARTITIONS, MAX_SCRIPTS}

-- The lines.

pub nodes_keeps : (ws : List (List ℕ)) → IfOk (nodes_line blank ws) IsBegun
unfolding nodes_line
nodes_keeps ws = then (number_at ws) _ _ (λ n. behind (in_range 1 MAX_NODES n.0) _ _ _ (in_range_read 1 MAX_NODES n.0) (λ m h. then (end_at n.1) _ _ (λ _. record {
  head = record { least = grind (arith, nat_tests, h.1); most = grind (arith, nat_tests, h.2); few = omega arith; each = refl; within = refl };
  named = record { fresh = refl; few = omega arith; distinct = refl; homes = refl; ordered = refl; few_keys = omega arith; taken = refl };
  plan = record { each = refl; counted = refl; few = omega arith };
  stage = (refl, refl, refl, refl);
})))

pub partition_keeps : (d : Draft) (ws : List (List ℕ)) → IsBegun d → d.scripts ≡ [] → d.script ≡ None → d.items ≡ []
    → d.inits ≡ [] → IfOk (partition_line d ws) IsBegun
unfolding partition_line
partition_keeps d ws h ss none items bare = either (nat_le MAX_PARTITIONS (length d.places)) _ _ _ (λ e. tt) (λ room. then (number_at ws) _ _ (λ i. behind (is_next (length d.places) i.0 i.1) _ _ _ (is_next_keeps (length d.places) i.0 i.1) (λ z some. behind (steps (node_step d.nodes) [] i.1) _ _ _ (steps_keep d.nodes [] i.1 (record { distinct = refl; within = refl }) (omega (arith, some))) (λ ns k.
    let long : length (d.places ++ ns ∷ []) ≡ length d.places + 1 = length-append d.places (ns ∷ []) in
    let less : length d.places < MAX_PARTITIONS = grind (arith, nat_tests, room) in
    let least : nat_le 1 (length ns) ≡ true = grind (arith, nat_tests, k.1) in
    let one : is_partition ns ≡ true = rw (least, k.0.distinct) refl in
    record {
      head = record { least = h.head.least; most = h.head.most; few = omega (arith, long, less); each = all_last is_partition d.places ns h.head.each one; within = all_last (list_all (λ n. nat_le n d.nodes)) d.places ns h.head.within k.0.within };
      named = h.named;
      plan = h.plan;
      stage = (ss, none, items, bare, omega (arith, long));
    }))))

init_keeps : (d : Draft) (ws : List (List ℕ)) → IsBegun d → d.scripts ≡ [] → d.script ≡ None → d.items ≡ []
    → 1 ≤ length d.places → IfOk (init_line d ws) IsBegun
unfolding init_line
init_keeps d ws h ss none items some =
    let bare : all_scripts d ≡ [] = no_script d.scripts d.script none ∙ ss in
    let named : IsNamed d.nodes d.inits [] d.known.keys d.numbers.keys = subst (λ l. IsNamed d.nodes d.inits l d.known.keys d.numbers.keys) bare h.named in
    then (word_at ws) _ _ (λ w. then (key_of w.0) _ _ (λ k. behind (name_new_key d.known k) _ _ _ (name_new_key_keeps d.known k) (λ known new. then (number_at w.1) _ _ (λ v. then (end_at v.1) _ _ (λ _. record {
      head = h.head;
      named = subst (λ l. IsNamed d.nodes (d.inits ++ (k, v.0) ∷ []) l known.keys d.numbers.keys) (sym bare) (named_init d.nodes d.inits d.known.keys known.keys d.numbers.keys k v.0 named new.2 new.0 new.1);
      plan = h.plan;
      stage = (ss, none, items, some);
    })))))

tx_keeps : (d : Draft) (ws : List (List ℕ)) → IsBegun d → d.script ≡ None → d.items ≡ [] → 1 ≤ length d.places
    → IfOk (tx_line d ws) IsBegun
unfolding tx_line
tx_keeps d ws h none items some =
    let named : IsNamed d.nodes d.inits d.scripts d.known.keys d.numbers.keys = subst (λ l. IsNamed d.nodes d.inits l d.known.keys d.numbers.keys) (no_script d.scripts d.script none) h.named in
    either (nat_le MAX_SCRIPTS (length d.scripts)) _ _ _ (λ e. tt) (λ room. behind (first_line d.nodes d.numbers ws) _ _ _ (first_line_read d.nodes d.numbers ws) (λ s first. record {
      head = h.head;
      named = named_tx d.nodes d.inits d.scripts d.known.keys d.numbers.keys s named (grind (arith, nat_tests, room)) (and_parts (nat_le 1 s.home) (nat_le s.home d.nodes) first.node).1 first.new first.bare;
      plan = plan_none d.nodes (script_numbers (all_scripts d)) _ d.items d.events items h.plan;
      stage = (items, some);
    }))

schedule_keeps : (d : Draft) (ws : List (List ℕ)) → IsBegun d → d.script ≡ None → 1 ≤ length d.places
    → IfOk (schedule_line d ws) IsBegun
unfolding schedule_line
schedule_keeps d ws h none some = then (end_at ws) _ _ (λ _. record { head = h.head; named = h.named; plan = h.plan; stage = (none, some) })

-- what a line inside a script makes of it
follows_keeps : (d : Draft) (s : ScriptData) (line : List (List ℕ)) (x : Stage) (more : BTreeSet Key)
    → IsBegun (inside d s) → Follows MAX_KEYS d.known s line x more
    → IsBegun (with_stage (record (outside d) { known = more }) x)
follows_keeps d s line (stage.Open t) more h f = subst (λ (u : ScriptData). IsBegun (inside (record d { known = more }) u)) (sym f.added) (record {
  head = h.head;
  named = named_op d.nodes d.inits d.scripts d.known.keys more.keys d.numbers.keys s f.last h.named (ap (λ (b : BTreeSet Key). b.keys) f.names) f.few;
  plan = plan_none d.nodes (script_numbers (d.scripts ++ s ∷ [])) _ d.items d.events h.stage.0 h.plan;
  stage = h.stage;
})
follows_keeps d s line (stage.Done t) more h f = rw (f.same, f.names) (record {
  head = h.head;
  named = subst (λ l. IsNamed d.nodes d.inits l d.known.keys d.numbers.keys) (sym (append-nil (d.scripts ++ s ∷ []))) h.named;
  plan = subst (λ l. IsPlan d.nodes (script_numbers l) d.items d.events) (sym (append-nil (d.scripts ++ s ∷ []))) h.plan;
  stage = h.stage;
})

pub script_keeps : (d : Draft) (s : ScriptData) (w : List ℕ) (ws : List (List ℕ)) → IsBegun (inside d s)
    → IfOk (script_line (outside d) s w ws) IsBegun
unfolding script_line
script_keeps d s w ws h = behind (body_line MAX_KEYS d.known s w ws) _ _ _ (body_read MAX_KEYS d.known s w ws) (λ x f. follows_keeps d s (w ∷ ws) x.0 x.1 h f)

pub later_keeps : (d : Draft) (w : List ℕ) (ws : List (List ℕ)) → IsBegun d → d.script ≡ None → d.items ≡ []
    → 1 ≤ length d.places → IfOk (later_line d w ws) IsBegun
later_keeps d w ws h none items some = either (is_word w (codes "tx")) _ _ _ (λ e. tx_keeps d ws h none items some) (λ e. either (is_word w (codes "schedule")) _ _ _ (λ e. schedule_keeps d ws h none some) (λ e. tt))

pub init_or_later_keeps : (d : Draft) (w : List ℕ) (ws : List (List ℕ)) → IsBegun d → d.scripts ≡ [] → d.script ≡ None
    → d.items ≡ [] → 1 ≤ length d.places → IfOk (init_or_later d w ws) IsBegun
init_or_later_keeps d w ws h ss none items some = either (is_word w (codes "init")) _ _ _ (λ e. init_keeps d ws h ss none items some) (λ e. later_keeps d w ws h none items some)
