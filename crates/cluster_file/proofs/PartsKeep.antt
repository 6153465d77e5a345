-- Words that were read are well formed, and so are the parts of a document with one more member.
use Rattle.std.proofs.Common.{◌≡◌, ℕ, ◌+◌, ◌<◌, ◌≤◌, true, false, ◌==◌, List, [], ◌∷◌, ◌++◌, length, length-append, nat_le, Option, None, IfOk, refl, sym, ap, ◌∙◌, subst, arith}
use Rattle.std.specs.Ordering.{nat_cmp}
use Rattle.std.specs.Cmp.Lexicographic.{slice_cmp}
use Rattle.std.specs.List.{list_any, list_all}
use Rattle.std.specs.BTreeSet.{BTreeSet, insert_key}
use Rattle.std.proofs.lemmas.Bool.Decides.{nat_tests}
use Rattle.std.proofs.lemmas.Cmp.{nat_eq_equiv, nat_list_eq_equiv}
use Rattle.std.proofs.lemmas.List.{append-nil}
use Rattle.std.proofs.lemmas.List.Sums.{sum_by_push}
use Rattle.score_base.specs.declared.keys.Key.{Key}
use Rattle.score_base.specs.declared.ids.NodeId.{NodeId}
use Rattle.score_base.specs.declared.ids.TxId.{TxId}
use Rattle.score_base.specs.declared.ids.Value.{Value}
use Rattle.score_base.specs.Keys.{same_key}
use Rattle.script_lang.specs.Scripts.{ScriptData}
use Rattle.script_lang.specs.declared.scripts.Op.{Op}
use Rattle.script_lang.specs.Reads as reads
use Rattle.placement.specs.Places.{are_distinct}
use Rattle.placement.specs.Clusters.{are_keys_distinct}
use Rattle.grid_model.specs.Documents.{script_numbers, are_numbers_distinct, events_of, keys_of_document, is_item, key_order, number_order}
use Rattle.grid_model.specs.declared.items.Item.{Item}
use Rattle.script_lang.specs.Reading.{steps}
use Rattle.cluster_file.specs.Lines.{name_new_key, new_node, node_step, is_next}
use Rattle.script_lang.specs.Words.{node_of}
use Rattle.std.proofs.lemmas.Bool.{and_parts}
use Rattle.cluster_file.proofs.Members.{among_numbers, among_keys, distinct_more}
use Rattle.script_lang.proofs.Readings.{behind, either, weaken}
use Rattle.script_lang.proofs.WordsRead.{node_read}
use Rattle.script_lang.specs.Names.{has_name, name_key}
use Rattle.script_lang.proofs.NamesRead.{name_read}
use Rattle.cluster_file.proofs.Named.{numbers_last, key_order_last, number_order_last, keys_op, keys_begun, keys_init, all_last, all_but_last, known_in_inits}
use Rattle.cluster_file.proofs.SoFar.{IsNamed, IsPlan, opened}
use Rattle.cluster_file.specs.declared.limits.TheConstants.{MAX_EVENTS, MAX_KEYS, MAX_SCRIPTS}

-- The words.

pub node_of_keeps : (nodes : ℕ) (w : List ℕ) → IfOk (node_of nodes w) (λ n. nat_le n nodes ≡ true)
node_of_keeps nodes w = weaken (node_of nodes w) _ _ (node_read nodes w) (λ n h. (and_parts (nat_le 1 n) (nat_le n nodes) h.1).1)

-- nodes of the cluster, none twice
pub record IsNodes (nodes : ℕ) (ns : List NodeId) : Type 0 where
  pub distinct : are_distinct ns ≡ true
  pub within : list_all (λ n. nat_le n nodes) ns ≡ true

node_step_keeps : (nodes : ℕ) (ns : List NodeId) (w : List ℕ) → IsNodes nodes ns
    → IfOk (node_step nodes ns w) (λ ms. IsNodes nodes ms × (length ms ≡ length ns + 1))
unfolding node_step
node_step_keeps nodes ns w h = behind (node_of nodes w) _ _ _ (node_of_keeps nodes w) (λ n low. behind (new_node ns n) _ (λ _. list_any (λ m. m == n) ns ≡ false) _ (either (list_any (λ m. m == n) ns) _ _ _ (λ e. tt) (λ e. e)) (λ z new. (
  record {
    distinct = distinct_more (λ (a b : ℕ). a == b) nat_eq_equiv.symm are_distinct refl (λ x xs. refl) ns n h.distinct new;
    within = all_last (λ m. nat_le m nodes) ns n h.within low;
  },
  length-append ns (n ∷ []),
)))

pub steps_keep : (nodes : ℕ) (ns : List NodeId) (ws : List (List ℕ)) → IsNodes nodes ns → 1 ≤ length ns + length ws
    → IfOk (steps (node_step nodes) ns ws) (λ ms. IsNodes nodes ms × (1 ≤ length ms))
unfolding steps
steps_keep nodes ns [] h some = (h, omega arith)
steps_keep nodes ns (w ∷ ws) h some = behind (node_step nodes ns w) _ _ _ (node_step_keeps nodes ns w h) (λ ms k. steps_keep nodes ms ws k.0 (omega (arith, k.1, some)))

pub is_next_keeps : (next i : ℕ) (ws : List (List ℕ)) → IfOk (is_next next i ws) (λ _. 1 ≤ length ws)
is_next_keeps next i ws = either (i == next) _ _ _ (λ e. either (length ws == 0) _ _ _ (λ f. tt) (λ f. grind (arith, nat_tests, f))) (λ e. tt)

pub name_new_key_keeps : (known : BTreeSet Key) (k : Key) → IfOk (name_new_key known k)
    (λ new. (new.keys ≡ insert_key (slice_cmp nat_cmp) known.keys k) × (length new.keys ≤ MAX_KEYS)
    × (list_any (same_key k) known.keys ≡ false))
name_new_key_keeps known k = either (has_name known k) _ _ _ (λ e. tt) (λ e. weaken (name_key MAX_KEYS known k) _ _ (name_read MAX_KEYS known k) (λ new h. (ap (λ (b : BTreeSet Key). b.keys) h.0, h.1, e)))

-- The parts with one more member.

pub named_init : (nodes : ℕ) (inits : List (Key × Value)) (known ks : List Key) (numbers : List TxId) (k : Key)
    (v : Value) → IsNamed nodes inits [] known numbers → list_any (same_key k) known ≡ false
    → ks ≡ insert_key (slice_cmp nat_cmp) known k → length ks ≤ MAX_KEYS
    → IsNamed nodes (inits ++ (k, v) ∷ []) [] ks numbers
named_init nodes inits known ks numbers k v h new same few = record {
  fresh = distinct_more (λ (a b : Key × Value). same_key a.0 b.0) (λ a b. nat_list_eq_equiv.symm a.0 b.0) are_keys_distinct refl (λ x xs. refl) inits (k, v) h.fresh (known_in_inits inits k ∙ sym (among_keys k (keys_of_document inits [])) ∙ ap (list_any (same_key k)) (sym h.ordered) ∙ new);
  few = h.few;
  distinct = h.distinct;
  homes = h.homes;
  ordered = same ∙ ap (λ l. insert_key (slice_cmp nat_cmp) l k) h.ordered ∙ sym (key_order_last (keys_of_document inits []) k) ∙ ap key_order (sym (keys_init inits (k, v)));
  few_keys = few;
  taken = h.taken;
}

pub named_tx : (nodes : ℕ) (inits : List (Key × Value)) (ss : List ScriptData) (known : List Key) (numbers : List TxId)
    (s : ScriptData) → IsNamed nodes inits ss known numbers → length ss < MAX_SCRIPTS → nat_le s.home nodes ≡ true
    → list_any (λ u. u == s.number) numbers ≡ false → s.ops ≡ []
    → IsNamed nodes inits (ss ++ s ∷ []) known (insert_key nat_cmp numbers s.number)
named_tx nodes inits ss known numbers s h room home new none = record {
  fresh = h.fresh;
  few = omega (arith, length-append ss (s ∷ []), room);
  distinct = rw (numbers_last ss s) (distinct_more (λ (a b : ℕ). a == b) nat_eq_equiv.symm are_numbers_distinct refl (λ x xs. refl) (script_numbers ss) s.number h.distinct (sym (among_numbers s.number (script_numbers ss)) ∙ ap (list_any (λ u. u == s.number)) (sym h.taken) ∙ new));
  homes = all_last (λ t. nat_le t.home nodes) ss s h.homes home;
  ordered = h.ordered ∙ ap key_order (sym (keys_begun inits ss s none));
  few_keys = h.few_keys;
  taken = ap (λ l. insert_key nat_cmp l s.number) h.taken ∙ sym (number_order_last (script_numbers ss) s.number) ∙ ap number_order (sym (numbers_last ss s));
}

pub named_op : (nodes : ℕ) (inits : List (Key × Value)) (ss : List ScriptData) (known ks : List Key)
    (numbers : List TxId) (s : ScriptData) (o : Op) → IsNamed nodes inits (ss ++ s ∷ []) known numbers
    → ks ≡ insert_key (slice_cmp nat_cmp) known (reads.key_of o) → length ks ≤ MAX_KEYS
    → IsNamed nodes inits (ss ++ record s { ops = s.ops ++ o ∷ [] } ∷ []) ks numbers
named_op nodes inits ss known ks numbers s o h same few =
    let t : ScriptData = record s { ops = s.ops ++ o ∷ [] } in
    let ts : script_numbers (ss ++ t ∷ []) ≡ script_numbers (ss ++ s ∷ []) = numbers_last ss t ∙ sym (numbers_last ss s) in
    let homes = all_but_last (λ (u : ScriptData). nat_le u.home nodes) ss s h.homes in
    record {
      fresh = h.fresh;
      few = omega (arith, length-append ss (t ∷ []), length-append ss (s ∷ []), h.few);
      distinct = ap are_numbers_distinct ts ∙ h.distinct;
      homes = all_last (λ u. nat_le u.home nodes) ss t homes.0 homes.1;
      ordered = same ∙ ap (λ l. insert_key (slice_cmp nat_cmp) l (reads.key_of o)) h.ordered ∙ sym (key_order_last (keys_of_document inits (ss ++ s ∷ [])) (reads.key_of o)) ∙ ap key_order (sym (keys_op inits ss s o));
      few_keys = few;
      taken = h.taken ∙ ap number_order (sym ts);
    }

pub plan_none : (nodes : ℕ) (ts us : List TxId) (items : List Item) (events : ℕ) → items ≡ []
    → IsPlan nodes ts items events → IsPlan nodes us items events
plan_none nodes ts us items events none h = record {
  each = subst (λ is. list_all (is_item nodes us) is ≡ true) (sym none) refl;
  counted = h.counted;
  few = h.few;
}

pub plan_item : (nodes : ℕ) (ts : List TxId) (items : List Item) (events : ℕ) (i : Item) → IsPlan nodes ts items events
    → is_item nodes ts i ≡ true → events + events_of i ≤ MAX_EVENTS
    → IsPlan nodes ts (items ++ i ∷ []) (events + events_of i)
plan_item nodes ts items events i h ok room = record {
  each = all_last (is_item nodes ts) items i h.each ok;
  counted = omega (arith, h.counted, sum_by_push events_of items i);
  few = room;
}

pub no_script : (ss : List ScriptData) (o : Option ScriptData) → o ≡ None → ss ++ opened o ≡ ss
no_script ss o e = ap (λ p. ss ++ opened p) e ∙ append-nil ss
