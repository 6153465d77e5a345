-- A line of the cluster or of a script that is read adds its words to those read before.
use Rattle.std.proofs.Common.{◌≡◌, ℕ, ◌^◌, ◌≤◌, ◌<◌, nat_lt, true, ◌&&◌, ◌==◌, List, [], ◌∷◌, ◌++◌, length, nat_le, None, Some, Result, Ok, Err, IfOk, refl, sym, ap, subst, ◌∙◌, map, append_assoc, arith, codes}
use Rattle.std.specs.Fmt.{decimal}
use Rattle.std.specs.List.{list_all, flat_map}
use Rattle.std.proofs.lemmas.Bool.Decides.{nat_tests}
use Rattle.std.proofs.lemmas.Grind.{flat_map-append}
use Rattle.std.proofs.lemmas.List.{append-nil, map-append}
use Rattle.score_base.specs.declared.keys.Key.{Key}
use Rattle.score_base.specs.declared.ids.NodeId.{NodeId}
use Rattle.script_lang.specs.Scripts.{ScriptData, are_sound, IsFront}
use Rattle.script_lang.specs.declared.scripts.Op.{Op}
use Rattle.script_lang.specs.declared.scripts.Op.TheVariants as op
use Rattle.script_lang.specs.Reads.{known_keys}
use Rattle.script_lang.specs.Spelling.{op_words, tx_words, script_words, is_plain_op}
use Rattle.script_lang.proofs.Sound.{IsFront-read, IsFront-write}
use Rattle.script_lang.proofs.BodyRead.{is_op_among, Follows, first_line_read, body_read}
use Rattle.script_lang.specs.ScriptLines.{first_line, body_line}
use Rattle.script_lang.specs.declared.script_lines.Stage.{Stage}
use Rattle.script_lang.specs.declared.script_lines.Stage.TheVariants as stage
use Rattle.std.specs.BTreeSet.{BTreeSet}
use Rattle.cluster_file.specs.declared.drafts.Draft.{Draft}
use Rattle.script_lang.specs.Reading.{word_at, end_at, number_at, in_range, steps}
use Rattle.cluster_file.specs.Lines.{name_new_key, nodes_line, new_node, node_step, is_next, partition_line, init_line, tx_line, with_stage, script_line}
use Rattle.script_lang.specs.Words.{node_of, key_of}
use Rattle.cluster_file.specs.Doc.{blank}
use Rattle.cluster_file.specs.Spelling.{is_node, is_init_in_range, is_script_in_range, node_word, partition_words, init_words, partition_lines}
use Rattle.std.proofs.lemmas.Bool.{and_parts}
use Rattle.cluster_file.proofs.Named.{all_last}
use Rattle.script_lang.proofs.Readings.{behind, then, either, weaken}
use Rattle.script_lang.proofs.WordsRead.{word_read, end_read, number_read, in_range_read, key_read, node_read}
use Rattle.cluster_file.proofs.SoFar.{inside, outside}
use Rattle.cluster_file.proofs.LinesSoFar.{open_lines, schedule_lines, lines_so_far, IsOpened, Adds, Begins, more_script, more_scripts, more_inits, more_partitions, partition_next}
use Rattle.script_lang.specs.declared.whys.Why.{Why}
use Rattle.script_lang.specs.declared.limits.TheConstants.{MAX_NODES, MAX_OPS}
use Rattle.cluster_file.specs.declared.limits.TheConstants.{MAX_KEYS, MAX_PARTITIONS, MAX_SCRIPTS}

-- The words.

pub in_cluster : (nodes n : ℕ) → (nat_le 1 n && nat_le n nodes) ≡ true → nodes ≤ MAX_NODES → is_node n ≡ true
in_cluster nodes n h few =
    let both = and_parts (nat_le 1 n) (nat_le n nodes) h in
    let most : nat_le n MAX_NODES ≡ true = grind (arith, nat_tests, both.1, few) in
    rw (both.0, most) refl

node_told : (nodes : ℕ) (w : List ℕ)
    → IfOk (node_of nodes w) (λ n. (w ≡ node_word n) × (nodes ≤ MAX_NODES → is_node n ≡ true))
node_told nodes w = weaken (node_of nodes w) _ _ (node_read nodes w) (λ n h. (h.0, λ few. in_cluster nodes n h.1 few))

node_step_told : (nodes : ℕ) (ns : List NodeId) (w : List ℕ) → IfOk (node_step nodes ns w)
    (λ ms. (map node_word ms ≡ map node_word ns ++ w ∷ [])
    × (nodes ≤ MAX_NODES → list_all is_node ns ≡ true → list_all is_node ms ≡ true))
unfolding node_step
node_step_told nodes ns w = behind (node_of nodes w) _ _ _ (node_told nodes w) (λ n e. then (new_node ns n) _ _ (λ _. (map-append node_word ns (n ∷ []) ∙ ap (λ v. map node_word ns ++ v ∷ []) (sym e.0), λ few are. all_last is_node ns n are (e.1 few))))

nodes_told : (nodes : ℕ) (ns : List NodeId) (ws : List (List ℕ)) → IfOk (steps (node_step nodes) ns ws)
    (λ ms. (map node_word ms ≡ map node_word ns ++ ws)
    × (nodes ≤ MAX_NODES → list_all is_node ns ≡ true → list_all is_node ms ≡ true))
unfolding steps
nodes_told nodes ns [] = (sym (append-nil (map node_word ns)), λ few are. are)
nodes_told nodes ns (w ∷ ws) = behind (node_step nodes ns w) _ _ _ (node_step_told nodes ns w) (λ ms e. by (steps (node_step nodes) ms ws) ms (nodes_told nodes ms ws) (ap (λ l. l ++ ws) e.0 ∙ append_assoc (map node_word ns) (w ∷ []) ws) e.1)
  where
    by : (m : Result (List NodeId) Why) (ms : List NodeId) → IfOk m (λ ks. (map node_word ks ≡ map node_word ms ++ ws)
        × (nodes ≤ MAX_NODES → list_all is_node ms ≡ true → list_all is_node ks ≡ true))
        → map node_word ms ++ ws ≡ map node_word ns ++ w ∷ ws
        → (nodes ≤ MAX_NODES → list_all is_node ns ≡ true → list_all is_node ms ≡ true)
        → IfOk m (λ ks. (map node_word ks ≡ map node_word ns ++ w ∷ ws)
        × (nodes ≤ MAX_NODES → list_all is_node ns ≡ true → list_all is_node ks ≡ true))
    by (Ok ks) ms h e are = (h.0 ∙ e, λ few is. h.1 few (are few is))
    by (Err v) ms h e are = tt

-- The lines.

-- a number as the only word
pub one_number : (ws : List (List ℕ)) (n : ℕ × List (List ℕ)) (m : ℕ) → ws ≡ decimal n.0 ∷ n.1 → m ≡ n.0 → n.1 ≡ []
    → decimal m ∷ [] ≡ ws
one_number ws n m words same none = ap (λ k. decimal k ∷ []) same ∙ ap (λ l. decimal n.0 ∷ l) (sym none) ∙ sym words

-- the first line
pub first_told : (ws : List (List ℕ)) → IfOk (nodes_line blank ws) (Begins (codes "nodes" ∷ ws))
unfolding nodes_line
first_told ws = behind (number_at ws) _ _ _ (number_read ws) (λ n words. behind (in_range 1 MAX_NODES n.0) _ _ _ (in_range_read 1 MAX_NODES n.0) (λ c same. behind (end_at n.1) _ _ _ (end_read n.1) (λ z none.
    record {
      lines = ap (λ l. (codes "nodes" ∷ l) ∷ []) (one_number ws n c words.0 same.0 none);
      ranges = record { places = refl; inits = refl; scripts = refl; opened = tt; items = refl };
    })))

pub partition_told : (d : Draft) (ws : List (List ℕ)) → d.inits ≡ [] → d.scripts ≡ [] → d.script ≡ None
    → schedule_lines d.part d.items ≡ [] → IfOk (partition_line d ws) (Adds d (codes "partition" ∷ ws))
unfolding partition_line
partition_told d ws bare ss none quiet = either (nat_le MAX_PARTITIONS (length d.places)) _ _ _ (λ _. tt) (λ _. behind (number_at ws) _ _ _ (number_read ws) (λ i words. behind (is_next (length d.places) i.0 i.1) _ _ _ (next_told (length d.places) i.0 i.1) (λ z same. behind (steps (node_step d.nodes) [] i.1) _ _ _ (nodes_told d.nodes [] i.1) (λ ns nodes.
    let all : partition_words (length d.places) ns ≡ codes "partition" ∷ ws = ap (λ l. codes "partition" ∷ decimal (length d.places) ∷ l) nodes.0 ∙ ap (λ j. codes "partition" ∷ decimal j ∷ i.1) (sym same) ∙ ap (λ l. codes "partition" ∷ l) (sym words.0) in
    record {
      lines = more_partitions _ _ (partition_lines 0 d.places) (partition_lines 0 (d.places ++ ns ∷ [])) (map init_words d.inits) (flat_map script_words d.scripts) (open_lines d.script) (schedule_lines d.part d.items)
          (partition_next d.places ns ∙ ap (λ l. partition_lines 0 d.places ++ l ∷ []) all)
          (ap (map init_words) bare) (ap (flat_map script_words) ss) (ap open_lines none) quiet;
      ranges = λ few r. record { places = all_last (list_all is_node) d.places ns r.places (nodes.1 few refl); inits = r.inits; scripts = r.scripts; opened = r.opened; items = r.items };
    }))))
  where
    next_told : (next i : ℕ) (us : List (List ℕ)) → IfOk (is_next next i us) (λ _. i ≡ next)
    next_told next i us = either (i == next) _ _ _ (λ e. either (length us == 0) _ _ _ (λ f. tt) (λ f. grind (arith, nat_tests, e))) (λ e. tt)

pub init_told : (d : Draft) (ws : List (List ℕ)) → d.scripts ≡ [] → d.script ≡ None → schedule_lines d.part d.items ≡ []
    → IfOk (init_line d ws) (Adds d (codes "init" ∷ ws))
unfolding init_line
init_told d ws ss none quiet = behind (word_at ws) _ _ _ (word_read ws) (λ w words. behind (key_of w.0) _ _ _ (key_read w.0) (λ k key. then (name_new_key d.known k) _ _ (λ known. behind (number_at w.1) _ _ _ (number_read w.1) (λ v value. behind (end_at v.1) _ _ _ (end_read v.1) (λ z none_left.
    let all : ws ≡ k ∷ decimal v.0 ∷ [] = words ∙ ap (λ l. l ∷ w.1) key.0 ∙ ap (λ l. k ∷ l) (value.0 ∙ ap (λ l. decimal v.0 ∷ l) none_left) in
    let low : nat_lt v.0 (2 ^ 64) ≡ true = grind (arith, nat_tests, value.1) in
    let one : is_init_in_range (k, v.0) ≡ true = rw (key.1, low) refl in
    record {
      lines = more_inits _ _ (partition_lines 0 d.places) (map init_words d.inits) (map init_words (d.inits ++ (k, v.0) ∷ [])) (flat_map script_words d.scripts) (open_lines d.script) (schedule_lines d.part d.items)
          (map-append init_words d.inits ((k, v.0) ∷ []) ∙ ap (λ l. map init_words d.inits ++ (codes "init" ∷ l) ∷ []) (sym all))
          (ap (flat_map script_words) ss) (ap open_lines none) quiet;
      ranges = λ few r. record { places = r.places; inits = all_last is_init_in_range d.inits (k, v.0) r.inits one; scripts = r.scripts; opened = r.opened; items = r.items };
    })))))

pub tx_lines_told : (d : Draft) (ws : List (List ℕ)) → d.script ≡ None → schedule_lines d.part d.items ≡ []
    → IfOk (tx_line d ws) (Adds d (codes "tx" ∷ ws))
unfolding tx_line
tx_lines_told d ws none quiet = either (nat_le MAX_SCRIPTS (length d.scripts)) _ _ _ (λ _. tt) (λ _. behind (first_line d.nodes d.numbers ws) _ _ _ (first_line_read d.nodes d.numbers ws) (λ s first. record {
  lines = more_script _ _ (partition_lines 0 d.places) (map init_words d.inits) (flat_map script_words d.scripts) (open_lines d.script) (open_lines (Some s)) (schedule_lines d.part d.items)
      (ap (λ ops. tx_words s ∷ map op_words ops) first.bare ∙ ap (λ l. l ∷ []) (sym first.spelled) ∙ ap (λ l. l ++ (codes "tx" ∷ ws) ∷ []) (sym (ap open_lines none)))
      quiet;
  ranges = λ few r. record {
    places = r.places;
    inits = r.inits;
    scripts = r.scripts;
    opened = record {
      number = first.tx;
      home = in_cluster d.nodes s.home first.node few;
      session = first.session;
      front = rw first.bare (record { most = omega arith; sound = refl });
      keys = rw first.bare refl;
    };
    items = r.items;
  };
}))

-- with room for one more operation, they stay a front
front_more : (ops : List Op) (o : Op) → length ops < MAX_OPS → is_op_among (known_keys ops) o ≡ true → IsFront ops
    → IsFront (ops ++ o ∷ [])
front_more ops (op.Read k) room among front = IsFront-read {E = ℕ} (Ok k) ops (ops ++ op.Read k ∷ []) k front room refl tt
front_more ops (op.Write k e) room among front = IsFront-write {E = ℕ} (Ok k) ops (ops ++ op.Write k e ∷ []) k e front room among refl tt

-- a line of an operation adds its words
op_lines : (d : Draft) (s : ScriptData) (o : Op) (ws : List (List ℕ)) → ws ≡ op_words o
    → lines_so_far (inside d (record s { ops = s.ops ++ o ∷ [] })) ≡ lines_so_far (inside d s) ++ ws ∷ []
op_lines d s o ws e =
    more_script _ _ (partition_lines 0 d.places) (map init_words d.inits) (flat_map script_words d.scripts) (tx_words s ∷ map op_words s.ops) (tx_words s ∷ map op_words (s.ops ++ o ∷ [])) []
    (ap (λ l. tx_words s ∷ l) (map-append op_words s.ops (o ∷ []) ∙ ap (λ l. map op_words s.ops ++ l ∷ []) (sym e)))
    refl

-- a script that was read to its end
script_ranges : (s : ScriptData) → IsOpened s → nat_le 1 (length s.ops) ≡ true → is_script_in_range s ≡ true
script_ranges s h least =
    let most : nat_le (length s.ops) MAX_OPS ≡ true = grind (arith, nat_tests, h.front.most) in
    let sound : are_sound [] s.ops ≡ true = h.front.sound in
    rw (h.number, h.home, h.session, least, most, h.keys, sound) refl

-- what a line inside a script makes of it
follows_told : (d : Draft) (s : ScriptData) (line : List (List ℕ)) (x : Stage) (more : BTreeSet Key)
    → Follows MAX_KEYS d.known s line x more
    → Adds (inside d s) line (with_stage (record (outside d) { known = more }) x)
follows_told d s line (stage.Open t) more f = subst (λ (u : ScriptData). Adds (inside d s) line (inside (record d { known = more }) u)) (sym f.added) (record {
  lines = op_lines d s f.last line f.spelled;
  ranges = λ few r. record {
    places = r.places;
    inits = r.inits;
    scripts = r.scripts;
    opened = record {
      number = r.opened.number;
      home = r.opened.home;
      session = r.opened.session;
      front = front_more s.ops f.last f.room f.among r.opened.front;
      keys = all_last is_plain_op s.ops f.last r.opened.keys f.plain;
    };
    items = r.items;
  };
})
follows_told d s line (stage.Done t) more f = rw f.same (
    let least : nat_le 1 (length s.ops) ≡ true = grind (arith, nat_tests, f.some) in
    record {
      lines = more_scripts _ _ (partition_lines 0 d.places) (map init_words d.inits) (flat_map script_words d.scripts) (flat_map script_words (d.scripts ++ s ∷ [])) (tx_words s ∷ map op_words s.ops)
          (flat_map-append script_words d.scripts (s ∷ []) ∙ ap (λ l. flat_map script_words d.scripts ++ l) (append-nil (script_words s) ∙ ap (λ l. tx_words s ∷ (map op_words s.ops ++ l ∷ [])) (sym f.spelled)));
      ranges = λ few r. record { places = r.places; inits = r.inits; scripts = all_last is_script_in_range d.scripts s r.scripts (script_ranges s r.opened least); opened = tt; items = r.items };
    })

pub script_told : (d : Draft) (s : ScriptData) (w : List ℕ) (ws : List (List ℕ))
    → IfOk (script_line (outside d) s w ws) (Adds (inside d s) (w ∷ ws))
unfolding script_line
script_told d s w ws = behind (body_line MAX_KEYS d.known s w ws) _ _ _ (body_read MAX_KEYS d.known s w ws) (λ x f. follows_told d s (w ∷ ws) x.0 x.1 f)
