-- The bytes of a document's spelling are read as that document.
use Rattle.std.proofs.Common.{◌≡◌, ℕ, ◌+◌, ◌<◌, ◌≤◌, ◌^◌, true, false, ◌&&◌, ◌==◌, List, [], ◌∷◌, ◌++◌, length, length-append, nat_le, nat_lt, Bool, cond, Result, Ok, Err, refl, ap, ◌∙◌, map, arith, codes}
use Rattle.std.specs.Prelude.{sum_by}
use Rattle.std.specs.Fmt.{decimal}
use Rattle.std.specs.List.{list_all, flat_map, join_with_byte, slice_split}
use Rattle.std.proofs.lemmas.Bool.{ne_eqb, and_parts}
use Rattle.std.proofs.lemmas.Bool.Decides.{nat_tests}
use Rattle.std.proofs.lemmas.List.Folds.{list_all-append}
use Rattle.score_base.specs.declared.ids.NodeId.{NodeId}
use Rattle.score_base.specs.declared.ids.Value.{Value}
use Rattle.score_base.specs.declared.keys.Key.{Key}
use Rattle.score_base.specs.Keys.{is_key}
use Rattle.script_lang.specs.Scripts.{ScriptData}
use Rattle.script_lang.specs.declared.exprs.Atom.{Atom}
use Rattle.script_lang.specs.declared.exprs.Atom.TheVariants as atom
use Rattle.script_lang.specs.declared.exprs.Step.{Step}
use Rattle.script_lang.specs.declared.exprs.Step.TheVariants as step
use Rattle.script_lang.specs.Spelling.{atom_word, step_words, expr_words, op_words, is_plain_atom, is_plain_step, are_plain_steps, is_plain_expr, is_plain_op, session_words, tx_words, script_words}
use Rattle.script_lang.specs.declared.scripts.Op.{Op}
use Rattle.script_lang.specs.declared.scripts.Op.TheVariants as op
use Rattle.grid_model.specs.Documents.{DocumentData, IsDocument, events_of}
use Rattle.grid_model.specs.declared.items.Item.{Item}
use Rattle.grid_model.specs.declared.items.Item.TheVariants as item
use Rattle.cluster_file.specs.declared.drafts.Draft.{Draft}
use Rattle.cluster_file.specs.declared.drafts.Part.TheVariants as part
use Rattle.script_lang.specs.Reading.{◌>>=◌}
use Rattle.cluster_file.specs.Lines.{words_line, line_of}
use Rattle.cluster_file.specs.Doc.{◌>>>◌, at_line, is_whole, close, pieces_from, blank, document_of, doc}
use Rattle.cluster_file.specs.Spelling.{IsInRange, is_node, is_tx, is_init_in_range, is_script_in_range, is_item_in_range, node_word, nodes_words, partition_words, init_words, item_words, partition_lines, document_lines, spelling}
use Rattle.cluster_file.proofs.Bytes.{is_plain, are_plain, is_line, plain_decimal, plain_key, words_again, printed_words, lines_again}
use Rattle.script_lang.proofs.WordsAgain.{small}
use Rattle.cluster_file.proofs.ScriptRanges.{ranges_of}
use Rattle.cluster_file.proofs.ClusterAgain.{lines_from}
use Rattle.cluster_file.proofs.LinesAgain.{running, document_again}
use Rattle.script_lang.specs.declared.whys.Why.{Why}
use Rattle.script_lang.specs.declared.whys.Why.TheVariants as why
use Rattle.script_lang.specs.declared.limits.TheConstants.{MAX_NODES, MAX_SESSION, MAX_TX}
use Rattle.cluster_file.specs.declared.limits.TheConstants.{MAX_COUNT, MAX_PARTITIONS}

-- The lines of a spelling are lines of words.

all_both : {X : Type 0} (p : X → Bool) (xs ys : List X) → list_all p xs ≡ true → list_all p ys ≡ true
    → list_all p (xs ++ ys) ≡ true
all_both p xs ys h k = rw (list_all-append, h, k) refl

all_map : {X Y : Type 0} (q : X → Bool) (p : Y → Bool) (f : X → Y) → ((x : X) → q x ≡ true → p (f x) ≡ true)
    → (xs : List X) → list_all q xs ≡ true → list_all p (map f xs) ≡ true
all_map q p f each [] h = refl
all_map q p f each (x ∷ xs) h =
    let both = and_parts (q x) (list_all q xs) h in
    rw (each x both.0, all_map q p f each xs both.1) refl

all_flat_map : {X Y : Type 0} (q : X → Bool) (p : Y → Bool) (f : X → List Y)
    → ((x : X) → q x ≡ true → list_all p (f x) ≡ true) → (xs : List X) → list_all q xs ≡ true
    → list_all p (flat_map f xs) ≡ true
all_flat_map q p f each [] h = refl
all_flat_map q p f each (x ∷ xs) h =
    let both = and_parts (q x) (list_all q xs) h in
    all_both p (f x) (flat_map f xs) (each x both.0) (all_flat_map q p f each xs both.1)

plain_node : (n : NodeId) → is_node n ≡ true → list_all is_plain (node_word n) ≡ true
plain_node n h = rw (plain_decimal n (small n 16 (and_parts (nat_le 1 n) (nat_le n MAX_NODES) h).1 (omega arith))) refl

plain_tx : (t : ℕ) → is_tx t ≡ true → list_all is_plain (decimal t) ≡ true
plain_tx t h = plain_decimal t (small t 65535 (and_parts (nat_le 1 t) (nat_le t MAX_TX) h).1 (omega arith))

plain_session : (s : ℕ) → nat_le s MAX_SESSION ≡ true → are_plain (session_words s) ≡ true
plain_session s h = by (s == 0)
  where
    by : (none : Bool) → are_plain (cond none [] (codes "session" ∷ decimal s ∷ [])) ≡ true
    by true = refl
    by false = rw (plain_decimal s (small s MAX_SESSION h (omega arith))) refl

nodes_line : (n : ℕ) → n ≤ MAX_NODES → is_line (nodes_words n) ≡ true
nodes_line n h = rw (plain_decimal n (omega (arith, h))) refl

partition_line : (i : ℕ) (ns : List NodeId) → i < 2 ^ 64 → list_all is_node ns ≡ true
    → is_line (partition_words i ns) ≡ true
partition_line i ns h k =
    let long : nat_le 1 (length (codes "partition" ∷ decimal i ∷ map node_word ns)) ≡ true = grind (arith, nat_tests) in
    rw (long, plain_decimal i h, all_map is_node (list_all is_plain) node_word plain_node ns k) refl

partition_lines_are : (i : ℕ) (ps : List (List NodeId)) → i + length ps ≤ MAX_PARTITIONS
    → list_all (list_all is_node) ps ≡ true → list_all is_line (partition_lines i ps) ≡ true
partition_lines_are i [] h k = refl
partition_lines_are i (ns ∷ ps) h k =
    let both = and_parts (list_all is_node ns) (list_all (list_all is_node) ps) k in
    rw (partition_line i ns (omega (arith, h)) both.0, partition_lines_are (i + 1) ps (omega (arith, h)) both.1) refl

init_line : (x : Key × Value) → is_init_in_range x ≡ true → is_line (init_words x) ≡ true
init_line x h =
    let both = and_parts (is_key x.0) (nat_lt x.1 (2 ^ 64)) h in
    rw (plain_key x.0 both.0, plain_decimal x.1 (grind (arith, nat_tests, both.1))) refl

plain_atom : (a : Atom) → is_plain_atom a ≡ true → list_all is_plain (atom_word a) ≡ true
plain_atom (atom.Number v) h = plain_decimal v (grind (arith, nat_tests, h))
plain_atom (atom.Key k) h = plain_key k h

plain_step : (s : Step) → is_plain_step s ≡ true → are_plain (step_words s) ≡ true
plain_step (step.Add a) h = rw (plain_atom a h) refl
plain_step (step.Sub a) h = rw (plain_atom a h) refl
plain_step (step.Mul a) h = rw (plain_atom a h) refl
plain_step (step.Min a) h = rw (plain_atom a h) refl
plain_step (step.Max a) h = rw (plain_atom a h) refl
plain_step (step.Pick a b) h =
    let both = and_parts (is_plain_atom a) (is_plain_atom b) h in
    rw (plain_atom a both.0, plain_atom b both.1) refl

plain_steps : (ss : List Step) → are_plain_steps ss ≡ true → are_plain (flat_map step_words ss) ≡ true
plain_steps [] h = refl
plain_steps (s ∷ ss) h =
    let both = and_parts (is_plain_step s) (are_plain_steps ss) h in
    all_both (list_all is_plain) (step_words s) (flat_map step_words ss) (plain_step s both.0) (plain_steps ss both.1)

op_line : (o : Op) → is_plain_op o ≡ true → is_line (op_words o) ≡ true
op_line (op.Read k) h = rw (plain_key k h) refl
op_line (op.Write k e) h =
    let both = and_parts (is_key k) (is_plain_expr e) h in
    let parts = and_parts (is_plain_atom e.first) (are_plain_steps e.steps) both.1 in
    let long : nat_le 1 (length (codes "write" ∷ k ∷ expr_words e)) ≡ true = grind (arith, nat_tests) in
    rw (long, plain_key k both.0, plain_atom e.first parts.0, plain_steps e.steps parts.1) refl

script_lines_are : (s : ScriptData) → is_script_in_range s ≡ true → list_all is_line (script_words s) ≡ true
script_lines_are s h =
    let r = ranges_of s h in
    let long : nat_le 1 (length (tx_words s)) ≡ true = grind (arith, nat_tests) in
    let first : is_line (tx_words s) ≡ true =
    rw (long, plain_tx s.number r.number, plain_node s.home r.home, plain_session s.session r.session) refl in
    let rest : list_all is_line (map op_words s.ops ++ (codes "end" ∷ []) ∷ []) ≡ true = all_both is_line (map op_words s.ops) ((codes "end" ∷ []) ∷ []) (all_map is_plain_op is_line op_words op_line s.ops r.plain) refl in
    rw (first, rest) refl

plain_small : (m : ℕ) → nat_le m MAX_COUNT ≡ true → list_all is_plain (decimal m) ≡ true
plain_small m h = plain_decimal m (small m 4294967295 h (omega arith))

plain_long : (m : ℕ) → nat_lt m (2 ^ 64) ≡ true → list_all is_plain (decimal m) ≡ true
plain_long m h = plain_decimal m (grind (arith, nat_tests, h))

item_line : (i : Item) → is_item_in_range i ≡ true → is_line (item_words i) ≡ true
item_line (item.Begin t) h = rw (plain_tx t h) refl
item_line (item.Deliver m) h = rw (plain_small m h) refl
item_line (item.Drop m) h = rw (plain_small m h) refl
item_line (item.Next c) h = rw (plain_small c h) refl
item_line (item.Retry t) h = rw (plain_tx t h) refl
item_line (item.Ask n t) h =
    let both = and_parts (is_node n) (is_tx t) h in
    rw (plain_node n both.0, plain_tx t both.1) refl
item_line (item.AskPeer n t m) h =
    let both = and_parts (is_node n && is_tx t) (is_node m) h in
    let first = and_parts (is_node n) (is_tx t) both.0 in
    rw (plain_node n first.0, plain_tx t first.1, plain_node m both.1) refl
item_line (item.Crash n how) h =
    let both = and_parts (is_node n) (nat_lt how (2 ^ 64)) h in
    rw (plain_node n both.0, plain_long how both.1) refl
item_line (item.Fuse n k how) h =
    let both = and_parts (is_node n && nat_lt k (2 ^ 64)) (nat_lt how (2 ^ 64)) h in
    let front = and_parts (is_node n) (nat_lt k (2 ^ 64)) both.0 in
    rw (plain_node n front.0, plain_long k front.1, plain_long how both.1) refl
item_line (item.Restart n) h = rw (plain_node n h) refl
item_line (item.Compact n) h = rw (plain_node n h) refl

document_lines_are : (d : DocumentData) → IsDocument d → IsInRange d → list_all is_line (document_lines d) ≡ true
document_lines_are d h r =
    let schedule : list_all is_line ((codes "schedule" ∷ []) ∷ map item_words d.items) ≡ true = rw (all_map is_item_in_range is_line item_words item_line d.items r.items) refl in
    let scripts : list_all is_line (flat_map script_words d.scripts ++ ((codes "schedule" ∷ []) ∷ map item_words d.items)) ≡ true = all_both is_line (flat_map script_words d.scripts) ((codes "schedule" ∷ []) ∷ map item_words d.items) (all_flat_map is_script_in_range is_line script_words script_lines_are d.scripts r.scripts) schedule in
    let inits : list_all is_line (map init_words d.cluster.inits ++ (flat_map script_words d.scripts ++ ((codes "schedule" ∷ []) ∷ map item_words d.items))) ≡ true = all_both is_line (map init_words d.cluster.inits) (flat_map script_words d.scripts ++ ((codes "schedule" ∷ []) ∷ map item_words d.items)) (all_map is_init_in_range is_line init_words init_line d.cluster.inits r.inits) scripts in
    let places : list_all is_line (partition_lines 0 d.cluster.places ++ (map init_words d.cluster.inits ++ (flat_map script_words d.scripts ++ ((codes "schedule" ∷ []) ∷ map item_words d.items)))) ≡ true = all_both is_line (partition_lines 0 d.cluster.places) (map init_words d.cluster.inits ++ (flat_map script_words d.scripts ++ ((codes "schedule" ∷ []) ∷ map item_words d.items))) (partition_lines_are 0 d.cluster.places (omega (arith, h.cluster.places.most)) r.places) inits in
    rw (nodes_line d.cluster.nodes h.cluster.most, places) refl

-- The bytes of such lines.

line_again : (d : Draft) (ws : List (List ℕ)) → is_line ws ≡ true → line_of d (join_with_byte 32 ws) ≡ words_line d ws
unfolding line_of
line_again d [] h = cc
line_again d (w ∷ ws) h =
    let plain = (and_parts (nat_le 1 (length (w ∷ ws))) (are_plain (w ∷ ws)) h).1 in
    ap (λ b. cond b (words_line d (slice_split (λ b. b == 32) (join_with_byte 32 (w ∷ ws)))) (Err why.Byte)) (printed_words (w ∷ ws) plain) ∙ ap (words_line d) (words_again w ws plain)

more_behind : (xs : List (List ℕ)) → (length (xs ++ [] ∷ []) == 0) ≡ false
more_behind xs = ne_eqb (length (xs ++ [] ∷ [])) 0 (λ e. omega (arith, e, length-append xs ([] ∷ [])))

pieces_again : (d e : Draft) (n : ℕ) (ls : List (List (List ℕ))) → list_all is_line ls ≡ true → lines_from d ls ≡ Ok e
    → e.part ≡ part.Items → pieces_from d n (map (join_with_byte 32) ls ++ [] ∷ []) ≡ Ok e
unfolding pieces_from lines_from
pieces_again d e n [] h k ended =
    let same : d ≡ e = cc in
    let whole : is_whole d.part ≡ true = ap (λ f. is_whole f.part) same ∙ ap is_whole ended in
    rw whole (ap Ok same)
pieces_again d e n (ws ∷ ls) h k ended =
    let both = and_parts (is_line ws) (list_all is_line ls) h in
    by (words_line d ws) refl k both.0 (λ f rest. pieces_again f e (n + 1) ls both.1 rest ended)
  where
    by : (m : Result Draft Why) → words_line d ws ≡ m → (m >>= λ f. lines_from f ls) ≡ Ok e → is_line ws ≡ true
        → ((f : Draft) → lines_from f ls ≡ Ok e → pieces_from f (n + 1) (map (join_with_byte 32) ls ++ [] ∷ []) ≡ Ok e)
        → pieces_from d n (join_with_byte 32 ws ∷ (map (join_with_byte 32) ls ++ [] ∷ [])) ≡ Ok e
    by (Ok f) read rest is again =
        ap (λ b. cond b (at_line n (close d (join_with_byte 32 ws))) (at_line n (line_of d (join_with_byte 32 ws)) >>> λ g. pieces_from g (n + 1) (map (join_with_byte 32) ls ++ [] ∷ []))) (more_behind (map (join_with_byte 32) ls))
        ∙ ap (λ m. at_line n m >>> λ g. pieces_from g (n + 1) (map (join_with_byte 32) ls ++ [] ∷ [])) (line_again d ws is ∙ read)
        ∙ again f rest
    by (Err w) read rest is again = cc

-- a document is read in its spelling
pub read_again : (d : DocumentData) → IsDocument d → IsInRange d → doc (spelling d) ≡ Ok d
unfolding doc
read_again d h r =
    let lines : list_all is_line (document_lines d) ≡ true = document_lines_are d h r in
    let end : Draft = running d.cluster.nodes d.cluster.places d.cluster.inits d.scripts d.items (0 + sum_by events_of d.items) in
    ap (λ xs. pieces_from blank 1 xs >>> λ e. Ok (document_of e)) (lines_again (document_lines d) lines)
    ∙ ap (λ m. m >>> λ e. Ok (document_of e)) (pieces_again blank end 1 (document_lines d) lines (document_again d h r) refl)
