-- The lines of a cluster are read as that cluster.
use Rattle.std.proofs.Common.{◌≡◌, ℕ, ◌+◌, ◌<◌, ◌≤◌, ◌^◌, true, false, List, [], ◌∷◌, ◌++◌, length, length-append, nat_le, nat_lt, None, Result, Ok, refl, sym, ap, ◌∙◌, subst, map, append_assoc, arith, inl, inr, ◌⊎◌}
use Rattle.std.specs.Cmp.Lexicographic.{slice_cmp}
use Rattle.std.specs.Ordering.{nat_cmp}
use Rattle.std.specs.BTreeSet.{insert_key}
use Rattle.std.specs.Fmt.{decimal}
use Rattle.std.specs.List.{list_any, list_all}
use Rattle.std.proofs.lemmas.Bool.Decides.{nat_tests}
use Rattle.std.proofs.lemmas.Cmp.{nat_list_eq_equiv}
use Rattle.std.proofs.lemmas.List.{append-nil}
use Rattle.score_base.specs.declared.keys.Key.{Key}
use Rattle.score_base.specs.declared.ids.NodeId.{NodeId}
use Rattle.score_base.specs.declared.ids.Value.{Value}
use Rattle.score_base.specs.Keys.{is_key, same_key}
use Rattle.script_lang.specs.Scripts.{ScriptData}
use Rattle.placement.specs.Places.{is_partition, are_distinct}
use Rattle.placement.specs.Clusters.{are_keys_distinct}
use Rattle.grid_model.specs.Documents.{script_numbers, keys_of_document, key_order, number_order}
use Rattle.cluster_file.specs.declared.drafts.Draft.{Draft}
use Rattle.cluster_file.specs.declared.drafts.Part.{Part}
use Rattle.cluster_file.specs.declared.drafts.Part.TheVariants as part
use Rattle.script_lang.specs.Reading.{◌>>=◌}
use Rattle.cluster_file.specs.Lines.{words_line, init_line}
use Rattle.cluster_file.specs.Spelling.{is_node, is_init_in_range, partition_words, init_words, partition_lines}
use Rattle.std.proofs.lemmas.Bool.{and_parts}
use Rattle.cluster_file.proofs.Members.{among_keys, distinct_before, fewer_keys}
use Rattle.cluster_file.proofs.Named.{key_order_last, keys_init, known_in_inits, keys_more_inits}
use Rattle.cluster_file.proofs.Again.{partition_line_again, init_line_again}
use Rattle.script_lang.specs.declared.whys.Why.{Why}
use Rattle.cluster_file.specs.declared.limits.TheConstants.{MAX_KEYS, MAX_PARTITIONS}

-- what some lines add to a draft
unfoldable pub lines_from : Draft → List (List (List ℕ)) → Result Draft Why
lines_from d [] = Ok d
lines_from d (ws ∷ rest) = words_line d ws >>= λ e. lines_from e rest

-- a line that is read
pub then_lines : (d e : Draft) (ws : List (List ℕ)) (rest : List (List (List ℕ))) (r : Result Draft Why)
    → words_line d ws ≡ Ok e → lines_from e rest ≡ r → lines_from d (ws ∷ rest) ≡ r
unfolding lines_from
then_lines d e ws rest r h k = ap (λ m. m >>= λ f. lines_from f rest) h ∙ k

-- the first of some keys are few where all are
pub first_few : (ks more all : List Key) → all ≡ ks ++ more → length (key_order all) ≤ MAX_KEYS
    → length (key_order ks) ≤ MAX_KEYS
first_few ks more all e few = omega (arith, few, fewer_keys ks more, ap (λ l. length (key_order l)) e)

-- The cluster.

-- a draft of these partitions, and nothing behind them
abbrev pub placed : Part → ℕ → List (List NodeId) → Draft
placed p n ps = record { part = p; nodes = n; places = ps; inits = []; scripts = []; script = None; items = []; events = 0; known = record { keys = [] }; numbers = record { keys = [] } }

partition_words_again : (p : Part) (n : ℕ) (ps : List (List NodeId)) (ns : List NodeId)
    → (p ≡ part.Nodes) ⊎ (p ≡ part.Partitions) → length ps < MAX_PARTITIONS → is_partition ns ≡ true
    → list_all (λ m. nat_le m n) ns ≡ true → list_all is_node ns ≡ true
    → words_line (placed p n ps) (partition_words (length ps) ns) ≡ Ok (placed part.Partitions n (ps ++ ns ∷ []))
partition_words_again p n ps ns early room one low are =
    let parts = and_parts (nat_le 1 (length ns)) (are_distinct ns) one in
    let some : 1 ≤ length ns = grind (arith, nat_tests, parts.0) in
    elim early [
      | inl e ↦ rw e (partition_line_again (placed part.Nodes n ps) ns room some parts.1 low are)
      | inr e ↦ rw e (partition_line_again (placed part.Partitions n ps) ns room some parts.1 low are)
    ]

partitions_again : (n : ℕ) (ps qs : List (List NodeId)) (tail : List (List (List ℕ)))
    → length (ps ++ qs) ≤ MAX_PARTITIONS → list_all is_partition qs ≡ true
    → list_all (list_all (λ m. nat_le m n)) qs ≡ true → list_all (list_all is_node) qs ≡ true
    → lines_from (placed part.Partitions n ps) (partition_lines (length ps) qs ++ tail)
    ≡ lines_from (placed part.Partitions n (ps ++ qs)) tail
partitions_again n ps [] tail few each low are = ap (λ l. lines_from (placed part.Partitions n l) tail) (sym (append-nil ps))
partitions_again n ps (q ∷ qs) tail few each low are =
    let e = and_parts (is_partition q) (list_all is_partition qs) each in
    let l = and_parts (list_all (λ m. nat_le m n) q) (list_all (list_all (λ m. nat_le m n)) qs) low in
    let a = and_parts (list_all is_node q) (list_all (list_all is_node) qs) are in
    let assoc : (ps ++ q ∷ []) ++ qs ≡ ps ++ q ∷ qs = append_assoc ps (q ∷ []) qs in
    let room : length ps < MAX_PARTITIONS = omega (arith, few, length-append ps (q ∷ qs)) in
    then_lines (placed part.Partitions n ps) (placed part.Partitions n (ps ++ q ∷ [])) (partition_words (length ps) q) (partition_lines (length ps + 1) qs ++ tail) _
    (partition_words_again part.Partitions n ps q (inr refl) room e.0 l.0 a.0)
    (ap (λ i. lines_from (placed part.Partitions n (ps ++ q ∷ [])) (partition_lines i qs ++ tail)) (sym (length-append ps (q ∷ [])))
    ∙ partitions_again n (ps ++ q ∷ []) qs tail (subst (λ m. length m ≤ MAX_PARTITIONS) (sym assoc) few) e.1 l.1 a.1
    ∙ ap (λ m. lines_from (placed part.Partitions n m) tail) assoc)

-- the partitions from the first on
pub places_again : (n : ℕ) (qs : List (List NodeId)) (tail : List (List (List ℕ))) → 1 ≤ length qs
    → length qs ≤ MAX_PARTITIONS → list_all is_partition qs ≡ true → list_all (list_all (λ m. nat_le m n)) qs ≡ true
    → list_all (list_all is_node) qs ≡ true
    → lines_from (placed part.Nodes n []) (partition_lines 0 qs ++ tail) ≡ lines_from (placed part.Partitions n qs) tail
places_again n [] tail some few each low are = absurd (omega (arith, some))
places_again n (q ∷ qs) tail some few each low are =
    let e = and_parts (is_partition q) (list_all is_partition qs) each in
    let l = and_parts (list_all (λ m. nat_le m n) q) (list_all (list_all (λ m. nat_le m n)) qs) low in
    let a = and_parts (list_all is_node q) (list_all (list_all is_node) qs) are in
    then_lines (placed part.Nodes n []) (placed part.Partitions n (q ∷ [])) (partition_words 0 q) (partition_lines 1 qs ++ tail) _
    (partition_words_again part.Nodes n [] q (inl refl) (omega arith) e.0 l.0 a.0)
    (partitions_again n (q ∷ []) qs tail few e.1 l.1 a.1)

-- Behind the partitions.

-- a line 'tx' or 'schedule' may stand there
abbrev pub IsOpen : Part → Type 0
IsOpen part.Start = ⊥
IsOpen part.Nodes = ⊥
IsOpen part.Partitions = Unit {0}
IsOpen part.Inits = Unit {0}
IsOpen part.Scripts = Unit {0}
IsOpen part.Items = ⊥

-- a line 'init' too
abbrev pub IsEarly : Part → Type 0
IsEarly part.Start = ⊥
IsEarly part.Nodes = ⊥
IsEarly part.Partitions = Unit {0}
IsEarly part.Inits = Unit {0}
IsEarly part.Scripts = ⊥
IsEarly part.Items = ⊥

pub is_open : (p : Part) → IsEarly p → IsOpen p
is_open part.Start h = absurd h
is_open part.Nodes h = absurd h
is_open part.Partitions h = tt
is_open part.Inits h = tt
is_open part.Scripts h = absurd h
is_open part.Items h = absurd h

-- a draft of these scripts, and no item
abbrev pub scripted : Part → ℕ → List (List NodeId) → List (Key × Value) → List ScriptData → Draft
scripted p n ps xs ss = record { part = p; nodes = n; places = ps; inits = xs; scripts = ss; script = None; items = []; events = 0; known = record { keys = key_order (keys_of_document xs ss) }; numbers = record { keys = number_order (script_numbers ss) } }

module _ (n : ℕ) (ps : List (List NodeId)) where
  init_words_again : (p : Part) (xs : List (Key × Value)) (k : Key) (v : Value) (more : List (Key × Value)) → IsEarly p
      → are_keys_distinct (xs ++ (k, v) ∷ more) ≡ true
      → length (key_order (keys_of_document (xs ++ (k, v) ∷ []) [])) ≤ MAX_KEYS → is_key k ≡ true → v < 2 ^ 64
      → words_line (scripted p n ps xs []) (init_words (k, v)) ≡ Ok (scripted part.Inits n ps (xs ++ (k, v) ∷ []) [])
  init_words_again p xs k v more early distinct few is low =
      let fresh : list_any (λ y. same_key y.0 k) xs ≡ false = distinct_before (λ (a b : Key × Value). same_key a.0 b.0) (λ a b. nat_list_eq_equiv.symm a.0 b.0) are_keys_distinct (λ x l. refl) xs (k, v) more distinct in
      let new : list_any (same_key k) (key_order (keys_of_document xs [])) ≡ false = among_keys k (keys_of_document xs []) ∙ sym (known_in_inits xs k) ∙ fresh in
      let named : insert_key (slice_cmp nat_cmp) (key_order (keys_of_document xs [])) k ≡ key_order (keys_of_document (xs ++ (k, v) ∷ []) []) = sym (key_order_last (keys_of_document xs []) k) ∙ ap key_order (sym (keys_init xs (k, v))) in
      let room : length (insert_key (slice_cmp nat_cmp) (key_order (keys_of_document xs [])) k) ≤ MAX_KEYS = omega (arith, few, ap length named) in
      by p early
      ∙ init_line_again (record (scripted p n ps xs []) { script = None }) k v new room is low
      ∙ ap (λ ks. Ok (record (scripted part.Inits n ps (xs ++ (k, v) ∷ []) []) { known = record { keys = ks } })) named
    where
      by : (q : Part) → IsEarly q → words_line (scripted q n ps xs []) (init_words (k, v))
          ≡ init_line (scripted q n ps xs []) (k ∷ decimal v ∷ [])
      by part.Start h = absurd h
      by part.Nodes h = absurd h
      by part.Partitions h = refl
      by part.Inits h = refl
      by part.Scripts h = absurd h
      by part.Items h = absurd h

  pub inits_again : (p : Part) (xs ys : List (Key × Value)) (tail : List (List (List ℕ))) (r : Result Draft Why)
      → IsEarly p → are_keys_distinct (xs ++ ys) ≡ true → length (key_order (keys_of_document (xs ++ ys) [])) ≤ MAX_KEYS
      → list_all is_init_in_range ys ≡ true
      → ((q : Part) → IsEarly q → lines_from (scripted q n ps (xs ++ ys) []) tail ≡ r)
      → lines_from (scripted p n ps xs []) (map init_words ys ++ tail) ≡ r
  inits_again p xs [] tail r early distinct few are next = ap (λ l. lines_from (scripted p n ps l []) tail) (sym (append-nil xs)) ∙ next p early
  inits_again p xs (y ∷ ys) tail r early distinct few are next =
      let a = and_parts (is_init_in_range y) (list_all is_init_in_range ys) are in
      let b = and_parts (is_key y.0) (nat_lt y.1 (2 ^ 64)) a.0 in
      let low : y.1 < 2 ^ 64 = grind (arith, nat_tests, b.1) in
      let assoc : (xs ++ y ∷ []) ++ ys ≡ xs ++ y ∷ ys = append_assoc xs (y ∷ []) ys in
      let fewer : length (key_order (keys_of_document (xs ++ y ∷ []) [])) ≤ MAX_KEYS = first_few (keys_of_document (xs ++ y ∷ []) []) (map (λ x. x.0) ys) (keys_of_document (xs ++ y ∷ ys) []) (ap (λ l. keys_of_document l []) (sym assoc) ∙ keys_more_inits (xs ++ y ∷ []) ys) few in
      then_lines (scripted p n ps xs []) (scripted part.Inits n ps (xs ++ y ∷ []) []) (init_words y) (map init_words ys ++ tail) r
      (init_words_again p xs y.0 y.1 ys early distinct fewer b.0 low)
      (inits_again part.Inits (xs ++ y ∷ []) ys tail r tt (ap are_keys_distinct assoc ∙ distinct) (subst (λ l. length (key_order (keys_of_document l [])) ≤ MAX_KEYS) (sym assoc) few) a.1
      (λ q h. ap (λ l. lines_from (scripted q n ps l []) tail) assoc ∙ next q h))
