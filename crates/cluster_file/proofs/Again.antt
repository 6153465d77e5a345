-- Each line of a spelling is read as what it spells.
use Rattle.std.proofs.Common.{codes, ◌≡◌, ℕ, ◌+◌, ◌<◌, ◌≤◌, ◌^◌, true, false, ◌==◌, List, [], ◌∷◌, ◌++◌, length, nat_le, Some, None, Ok, refl, sym, ap, ◌∙◌, map, append_assoc, arith}
use Rattle.std.specs.Cmp.Lexicographic.{slice_cmp}
use Rattle.std.specs.Ordering.{nat_cmp}
use Rattle.std.specs.BTreeSet.{insert_key}
use Rattle.std.specs.Fmt.{decimal}
use Rattle.std.specs.List.{list_any, list_all}
use Rattle.std.proofs.lemmas.Bool.{eq-eqb, ne_eqb, and_parts}
use Rattle.std.proofs.lemmas.Bool.Decides.{nat_tests}
use Rattle.std.proofs.lemmas.Cmp.{nat_eq_equiv}
use Rattle.std.proofs.lemmas.List.{append-nil}
use Rattle.score_base.specs.declared.keys.Key.{Key}
use Rattle.score_base.specs.declared.ids.NodeId.{NodeId}
use Rattle.score_base.specs.declared.ids.TxId.{TxId}
use Rattle.score_base.specs.declared.ids.Value.{Value}
use Rattle.score_base.specs.Keys.{is_key}
use Rattle.script_lang.specs.Scripts.{ScriptData}
use Rattle.script_lang.specs.declared.exprs.Expr.{Expr}
use Rattle.script_lang.specs.declared.scripts.Op.TheVariants as op
use Rattle.script_lang.specs.Exprs.{is_expr_among}
use Rattle.script_lang.specs.Reads.{known_keys}
use Rattle.script_lang.specs.Spelling.{expr_words, session_words, is_plain_expr}
use Rattle.placement.specs.Places.{are_distinct}
use Rattle.cluster_file.specs.declared.drafts.Draft.{Draft}
use Rattle.cluster_file.specs.declared.drafts.Part.TheVariants as part
use Rattle.script_lang.specs.Reading.{number_at, in_range, steps}
use Rattle.cluster_file.specs.Lines.{name_new_key, nodes_line, new_node, node_step, is_next, partition_line, init_line, tx_line, script_line}
use Rattle.script_lang.specs.Words.{node_of, key_of}
use Rattle.cluster_file.specs.Doc.{blank}
use Rattle.cluster_file.specs.Spelling.{is_node, is_tx, node_word}
use Rattle.cluster_file.proofs.Members.{distinct_before}
use Rattle.script_lang.specs.Names.{has_name, is_taken, with_key, with_number}
use Rattle.script_lang.specs.ScriptLines.{first_line, body_line}
use Rattle.script_lang.specs.declared.script_lines.Stage.TheVariants as stage
use Rattle.script_lang.proofs.WordsAgain.{goes, passes, number_again, within_again, small, node_of_again, key_again}
use Rattle.script_lang.proofs.NamesRead.{name_again}
use Rattle.script_lang.proofs.BodyAgain.{first_line_again, read_again, write_again, end_again}
use Rattle.script_lang.specs.declared.limits.TheConstants.{MAX_NODES, MAX_OPS, MAX_SESSION}
use Rattle.cluster_file.specs.declared.limits.TheConstants.{MAX_KEYS, MAX_PARTITIONS, MAX_SCRIPTS}

-- The words.

pub node_again : (nodes n : ℕ) → nat_le n nodes ≡ true → is_node n ≡ true → node_of nodes (node_word n) ≡ Ok n
node_again nodes n h k =
    let both = and_parts (nat_le 1 n) (nat_le n MAX_NODES) k in
    node_of_again nodes n both.0 h (small n MAX_NODES both.1 (omega arith))

node_step_again : (nodes : ℕ) (ns : List NodeId) (n : NodeId) → list_any (λ m. m == n) ns ≡ false
    → nat_le n nodes ≡ true → is_node n ≡ true → node_step nodes ns (node_word n) ≡ Ok (ns ++ n ∷ [])
unfolding node_step
node_step_again nodes ns n new low is = goes (node_of nodes (node_word n)) _ n _ (node_again nodes n low is) (goes (new_node ns n) _ tt _ (rw new refl) refl)

pub nodes_again : (nodes : ℕ) (acc ns : List NodeId) → are_distinct (acc ++ ns) ≡ true
    → list_all (λ n. nat_le n nodes) ns ≡ true → list_all is_node ns ≡ true
    → steps (node_step nodes) acc (map node_word ns) ≡ Ok (acc ++ ns)
unfolding steps
nodes_again nodes acc [] d low is = ap Ok (sym (append-nil acc))
nodes_again nodes acc (n ∷ ns) d low is =
    let lows = and_parts (nat_le n nodes) (list_all (λ m. nat_le m nodes) ns) low in
    let are = and_parts (is_node n) (list_all is_node ns) is in
    let new : list_any (λ m. m == n) acc ≡ false = distinct_before (λ (a b : ℕ). a == b) nat_eq_equiv.symm are_distinct (λ x xs. refl) acc n ns d in
    goes (node_step nodes acc (node_word n)) _ (acc ++ n ∷ []) _ (node_step_again nodes acc n new lows.0 are.0)
    (nodes_again nodes (acc ++ n ∷ []) ns (ap are_distinct (append_assoc acc (n ∷ []) ns) ∙ d) lows.1 are.1 ∙ ap Ok (append_assoc acc (n ∷ []) ns))

-- The lines.

pub nodes_line_again : (n : ℕ) → nat_le 1 n ≡ true → nat_le n MAX_NODES ≡ true
    → nodes_line blank (decimal n ∷ []) ≡ Ok (record blank { nodes = n; part = part.Nodes })
unfolding nodes_line
nodes_line_again n h k = goes (number_at (decimal n ∷ [])) _ (n, []) _ (number_again n [] (small n 16 k (omega arith))) (goes (in_range 1 MAX_NODES n) _ n _ (within_again 1 MAX_NODES n h k) refl)

next_again : (n : ℕ) (ns : List NodeId) → 1 ≤ length ns → is_next n n (map node_word ns) ≡ Ok tt
next_again n [] h = absurd (omega (arith, h))
next_again n (m ∷ ns) h =
    let some : (length (node_word m ∷ map node_word ns) == 0) ≡ false = ne_eqb (length (node_word m ∷ map node_word ns)) 0 (λ e. omega (arith, e)) in
    rw (eq-eqb n n refl, some) refl

pub partition_line_again : (d : Draft) (ns : List NodeId) → length d.places < MAX_PARTITIONS → 1 ≤ length ns
    → are_distinct ns ≡ true → list_all (λ n. nat_le n d.nodes) ns ≡ true → list_all is_node ns ≡ true
    → partition_line d (decimal (length d.places) ∷ map node_word ns)
    ≡ Ok (record d { places = d.places ++ ns ∷ []; part = part.Partitions })
unfolding partition_line
partition_line_again d ns room some distinct low are =
    let less : nat_le MAX_PARTITIONS (length d.places) ≡ false = grind (arith, nat_tests, room) in
    passes (nat_le MAX_PARTITIONS (length d.places)) _ _ _ less
    (goes (number_at (decimal (length d.places) ∷ map node_word ns)) _ (length d.places, map node_word ns) _ (number_again (length d.places) (map node_word ns) (omega (arith, room)))
    (goes (is_next (length d.places) (length d.places) (map node_word ns)) _ tt _ (next_again (length d.places) ns some)
    (goes (steps (node_step d.nodes) [] (map node_word ns)) _ ns _ (nodes_again d.nodes [] ns distinct low are) refl)))

pub init_line_again : (d : Draft) (k : Key) (v : Value) → has_name d.known k ≡ false
    → length (insert_key (slice_cmp nat_cmp) d.known.keys k) ≤ MAX_KEYS → is_key k ≡ true → v < 2 ^ 64
    → init_line d (k ∷ decimal v ∷ [])
    ≡ Ok (record d { inits = d.inits ++ (k, v) ∷ []; known = with_key d.known k; part = part.Inits })
unfolding init_line
init_line_again d k v new room is low =
    goes (key_of k) _ k _ (key_again k is)
    (goes (name_new_key d.known k) _ (with_key d.known k) _ (passes (has_name d.known k) _ _ _ new (name_again MAX_KEYS d.known k room))
    (goes (number_at (decimal v ∷ [])) _ (v, []) _ (number_again v [] low) refl))

pub tx_line_again : (d : Draft) (s : ScriptData) → length d.scripts < MAX_SCRIPTS → is_taken d.numbers s.number ≡ false
    → is_tx s.number ≡ true → nat_le s.home d.nodes ≡ true → is_node s.home ≡ true → nat_le s.session MAX_SESSION ≡ true
    → tx_line d (decimal s.number ∷ node_word s.home ∷ session_words s.session)
    ≡ Ok (record d {
      script = Some (record s { ops = [] });
      numbers = with_number d.numbers s.number;
      part = part.Scripts;
    })
unfolding tx_line
tx_line_again d s room new is low node few =
    let less : nat_le MAX_SCRIPTS (length d.scripts) ≡ false = grind (arith, nat_tests, room) in
    let both = and_parts (nat_le 1 s.home) (nat_le s.home MAX_NODES) node in
    let short : s.home < 2 ^ 64 = small s.home MAX_NODES both.1 (omega arith) in
    let bare : ScriptData = record s { ops = [] } in
    passes (nat_le MAX_SCRIPTS (length d.scripts)) _ _ _ less
    (goes (first_line d.nodes d.numbers (decimal s.number ∷ node_word s.home ∷ session_words s.session)) _ bare _
    (first_line_again d.nodes d.numbers s.number s.home s.session new is both.0 low short few) refl)

pub read_line_again : (d : Draft) (s : ScriptData) (k : Key) → length s.ops < MAX_OPS
    → length (insert_key (slice_cmp nat_cmp) d.known.keys k) ≤ MAX_KEYS → is_key k ≡ true
    → script_line d s (codes "read") (k ∷ [])
    ≡ Ok (record d { script = Some (record s { ops = s.ops ++ op.Read k ∷ [] }); known = with_key d.known k })
unfolding script_line
read_line_again d s k room few is = goes (body_line MAX_KEYS d.known s (codes "read") (k ∷ [])) _ (stage.Open (record s { ops = s.ops ++ op.Read k ∷ [] }), with_key d.known k) _ (read_again MAX_KEYS d.known s k room few is) refl

pub write_line_again : (d : Draft) (s : ScriptData) (k : Key) (e : Expr) → length s.ops < MAX_OPS
    → length (insert_key (slice_cmp nat_cmp) d.known.keys k) ≤ MAX_KEYS → is_key k ≡ true → is_plain_expr e ≡ true
    → is_expr_among (known_keys s.ops) e ≡ true → script_line d s (codes "write") (k ∷ expr_words e)
    ≡ Ok (record d { script = Some (record s { ops = s.ops ++ op.Write k e ∷ [] }); known = with_key d.known k })
unfolding script_line
write_line_again d s k e room few is plain among = goes (body_line MAX_KEYS d.known s (codes "write") (k ∷ expr_words e)) _ (stage.Open (record s { ops = s.ops ++ op.Write k e ∷ [] }), with_key d.known k) _ (write_again MAX_KEYS d.known s k e room few is plain among) refl

pub end_line_again : (d : Draft) (s : ScriptData) → 1 ≤ length s.ops
    → script_line d s (codes "end") [] ≡ Ok (record d { scripts = d.scripts ++ s ∷ []; script = None })
unfolding script_line
end_line_again d s some = goes (body_line MAX_KEYS d.known s (codes "end") []) _ (stage.Done s, d.known) _ (end_again MAX_KEYS d.known s some) refl
