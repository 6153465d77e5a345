-- The bytes in which a document is read are its spelling.
use Rattle.std.proofs.Common.{◌≡◌, ℕ, ◌+◌, ◌≤◌, ◌^◌, ◌==◌, ◌&&◌, nat_le, nat_lt, Bool, true, false, List, [], ◌∷◌, ◌++◌, length, None, Result, Ok, Err, IfOk, refl, sym, ap, ◌∙◌, subst, map, append_assoc, arith}
use Rattle.std.specs.List.{list_all, flat_map, join_with_byte, slice_split}
use Rattle.std.proofs.lemmas.Bool.Decides.{nat_tests}
use Rattle.std.proofs.lemmas.Grind.{flat_map-append}
use Rattle.std.proofs.lemmas.List.{append-nil}
use Rattle.std.proofs.lemmas.List.Splits.{join_with_byte-slice_split}
use Rattle.score_base.specs.declared.ids.NodeId.{NodeId}
use Rattle.script_lang.specs.Scripts.{ScriptData}
use Rattle.grid_model.specs.Documents.{DocumentData, IsDocument, IsOne, is_body}
use Rattle.grid_model.specs.declared.items.Item.{Item}
use Rattle.grid_model.specs.declared.items.Item.TheVariants as item
use Rattle.cluster_file.specs.declared.drafts.Draft.{Draft}
use Rattle.cluster_file.specs.declared.whys.Refusal.{Refusal}
use Rattle.cluster_file.specs.Lines.{line_of}
use Rattle.script_lang.specs.Words.{is_printed}
use Rattle.cluster_file.specs.Doc.{◌>>>◌, at_line, is_whole, close, pieces_from, blank, document_of, doc}
use Rattle.cluster_file.specs.Spelling.{IsInRange, is_node, is_tx, is_script_in_range, is_item_in_range, nodes_of_item, are_items_numbered, line, spelling, nodes_words, partition_lines, init_words, document_lines}
use Rattle.std.proofs.lemmas.Bool.{and_parts}
use Rattle.script_lang.proofs.Readings.{at_ok, either, weaken}
use Rattle.script_lang.proofs.ScriptRead.{empty_list}
use Rattle.cluster_file.proofs.Steps.{numbered, below}
use Rattle.cluster_file.proofs.SoFar.{IsStage, IsBegun}
use Rattle.cluster_file.proofs.Keeps.{IsWhole, line_keeps, blank_line_keeps, blank_pieces_keep, IsDocument-from_pieces}
use Rattle.cluster_file.proofs.LinesSoFar.{open_lines, schedule_lines, lines_so_far, IsInRangeSoFar, Adds, Begins}
use Rattle.cluster_file.proofs.Told.{words_told, blank_words_told}
use Rattle.script_lang.specs.Spelling.{script_words}

-- the words of a line
abbrev cut : List ℕ → List (List ℕ)
cut x = slice_split (λ b. b == 32) x

-- the bytes of the lines that were read
abbrev bytes_so_far : Draft → List ℕ
bytes_so_far d = flat_map line (lines_so_far d)

both : {A E : Type 0} (m : Result A E) (P Q : A → Type 0) → IfOk m P → IfOk m Q → IfOk m (λ x. P x × Q x)
both (Ok x) P Q h k = (h, k)
both (Err e) P Q h k = tt

line_told : (d : Draft) (x : List ℕ) → IsBegun d → IfOk (line_of d x) (Adds d (cut x))
unfolding line_of
line_told d x h = either (list_all is_printed x) _ _ _ (λ _. words_told d (cut x) h) (λ _. tt)

blank_line_told : (x : List ℕ) → IfOk (line_of blank x) (Begins (cut x))
unfolding line_of
blank_line_told x = either (list_all is_printed x) _ _ _ (λ _. blank_words_told (cut x)) (λ _. tt)

line_bytes : (x : List ℕ) → line (cut x) ≡ x ++ 10 ∷ []
line_bytes x = ap (λ l. l ++ 10 ∷ []) (join_with_byte-slice_split 32 x)

-- the bytes behind one more line
more_bytes : (d e : Draft) (x more : List ℕ) → Adds d (cut x) e
    → bytes_so_far e ++ more ≡ bytes_so_far d ++ (x ++ 10 ∷ more)
more_bytes d e x more h =
    ap (λ ls. flat_map line ls ++ more) h.lines
    ∙ ap (λ l. l ++ more) (flat_map-append line (lines_so_far d) (cut x ∷ []) ∙ ap (λ l. bytes_so_far d ++ l) (append-nil (line (cut x)) ∙ line_bytes x))
    ∙ append_assoc (bytes_so_far d) (x ++ 10 ∷ []) more
    ∙ ap (λ l. bytes_so_far d ++ l) (append_assoc x (10 ∷ []) more)

first_bytes : (e : Draft) (x more : List ℕ) → Begins (cut x) e → bytes_so_far e ++ more ≡ x ++ 10 ∷ more
first_bytes e x more h =
    ap (λ ls. flat_map line ls ++ more) h.lines
    ∙ ap (λ l. l ++ more) (append-nil (line (cut x)) ∙ line_bytes x)
    ∙ append_assoc x (10 ∷ []) more

close_told : (d : Draft) (x : List ℕ)
    → IfOk (close d x) (λ e. (bytes_so_far e ≡ bytes_so_far d ++ x) × (IsInRangeSoFar d → IsInRangeSoFar e))
close_told d x = either ((length x == 0) && is_whole d.part) _ _ _ (λ e. (sym (ap (λ l. bytes_so_far d ++ l) (empty_list x (and_parts (length x == 0) (is_whole d.part) e).0) ∙ append-nil (bytes_so_far d)), λ r. r)) (λ _. tt)

more_left : (y : List ℕ) (rest : List (List ℕ)) → (length (y ∷ rest) == 0) ≡ true → ⊥
more_left y rest e = grind (arith, nat_tests, e)

pieces_told : (d : Draft) (n : ℕ) (xs : List (List ℕ)) → IsBegun d → IfOk (pieces_from d n xs)
    (λ e. (bytes_so_far e ≡ bytes_so_far d ++ join_with_byte 10 xs) × (IsInRangeSoFar d → IsInRangeSoFar e))
unfolding pieces_from
pieces_told d n [] h = tt
pieces_told d n (x ∷ []) h = numbered n (close d x) _ (close_told d x)
pieces_told d n (x ∷ y ∷ rest) h = either (length (y ∷ rest) == 0) _ _ _ (λ e. absurd (more_left y rest e)) (λ _.
    below (at_line n (line_of d x)) _ (λ f. IsBegun f × Adds d (cut x) f) _ (numbered n (line_of d x) _ (both (line_of d x) IsBegun (Adds d (cut x)) (line_keeps d x h) (line_told d x h))) (λ f k.
    weaken (pieces_from f (n + 1) (y ∷ rest)) _ _ (pieces_told f (n + 1) (y ∷ rest) k.0) (λ e same. (same.0 ∙ more_bytes d f x (join_with_byte 10 (y ∷ rest)) k.1, λ r. same.1 (k.1.ranges h.head.most r)))))

blank_pieces_told : (n : ℕ) (xs : List (List ℕ))
    → IfOk (pieces_from blank n xs) (λ e. (bytes_so_far e ≡ join_with_byte 10 xs) × IsInRangeSoFar e)
unfolding pieces_from
blank_pieces_told n [] = tt
blank_pieces_told n (x ∷ []) = numbered n (close blank x) _ (either ((length x == 0) && false) _ _ _ (λ e. let bad : false ≡ true = (and_parts (length x == 0) false e).1 in cc) (λ _. tt))
blank_pieces_told n (x ∷ y ∷ rest) = either (length (y ∷ rest) == 0) _ _ _ (λ e. absurd (more_left y rest e)) (λ _.
    below (at_line n (line_of blank x)) _ (λ f. IsBegun f × Begins (cut x) f) _ (numbered n (line_of blank x) _ (both (line_of blank x) IsBegun (Begins (cut x)) (blank_line_keeps x) (blank_line_told x))) (λ f k.
    weaken (pieces_from f (n + 1) (y ∷ rest)) _ _ (pieces_told f (n + 1) (y ∷ rest) k.0) (λ e same. (same.0 ∙ first_bytes f x (join_with_byte 10 (y ∷ rest)) k.1, same.1 k.1.ranges))))

-- what was read to the end has the lines of its document
whole_lines : (d : Draft) → IsWhole d → lines_so_far d ≡ document_lines (document_of d)
whole_lines d w =
    let stage : (d.script ≡ None) × (1 ≤ length d.places) = subst (λ p. IsStage p d.places d.inits d.scripts d.script d.items) w.ended w.begun.stage in
    let front = λ (l : List (List (List ℕ))). nodes_words d.nodes ∷ (partition_lines 0 d.places ++ (map init_words d.inits ++ (flat_map script_words d.scripts ++ l))) in
    ap (λ o. front (open_lines o ++ schedule_lines d.part d.items)) stage.0 ∙ ap (λ p. front (schedule_lines p d.items)) w.ended

-- Each part of what was read is in the range of its type, so the document is all that the laws ask.

all_pass : {A : Type 0} (p q : A → Bool) (xs : List A) → ((x : A) → p x ≡ true → q x ≡ true)
    → list_all p xs ≡ true → list_all q xs ≡ true
all_pass p q [] go h = refl
all_pass p q (x ∷ xs) go h =
    let parts = and_parts (p x) (list_all p xs) h in
    rw (go x parts.0) (all_pass p q xs go parts.1)

node_in : (n : NodeId) → is_node n ≡ true → nat_le 1 n ≡ true
node_in n h = grind (arith, h)

home_in : (s : ScriptData) → is_script_in_range s ≡ true → nat_le 1 s.home ≡ true
home_in s h = grind (arith, h)

body_in : (s : ScriptData) → is_script_in_range s ≡ true → is_body s.ops ≡ true
body_in s h = grind (arith, h)

two_nodes : (n m : NodeId) → is_node n ≡ true → is_node m ≡ true → list_all (λ k. nat_le 1 k) (n ∷ m ∷ []) ≡ true
two_nodes n m h k = rw (node_in n h, node_in m k) refl

one_node : (n : NodeId) → is_node n ≡ true → list_all (λ k. nat_le 1 k) (n ∷ []) ≡ true
one_node n h = rw (node_in n h) refl

item_in : (i : Item) → is_item_in_range i ≡ true → list_all (λ n. nat_le 1 n) (nodes_of_item i) ≡ true
item_in (item.Begin t) h = refl
item_in (item.Deliver m) h = refl
item_in (item.Drop m) h = refl
item_in (item.Next c) h = refl
item_in (item.Retry t) h = refl
item_in (item.Ask n t) h = one_node n (and_parts (is_node n) (is_tx t) h).0
item_in (item.AskPeer n t m) h =
    let both = and_parts (is_node n && is_tx t) (is_node m) h in
    two_nodes n m (and_parts (is_node n) (is_tx t) both.0).0 both.1
item_in (item.Crash n how) h = one_node n (and_parts (is_node n) (nat_lt how (2 ^ 64)) h).0
item_in (item.Fuse n k how) h = one_node n (and_parts (is_node n) (nat_lt k (2 ^ 64)) (and_parts (is_node n && nat_lt k (2 ^ 64)) (nat_lt how (2 ^ 64)) h).0).0
item_in (item.Restart n) h = one_node n h
item_in (item.Compact n) h = one_node n h

-- the nodes that items in range name are numbered from 1
pub numbered_items : (d : DocumentData) → IsInRange d → are_items_numbered d.items ≡ true
numbered_items d ranges = all_pass is_item_in_range (λ i. list_all (λ n. nat_le 1 n) (nodes_of_item i)) d.items item_in ranges.items

one_of : (d : DocumentData) → IsDocument d → IsInRange d → IsOne d
one_of d is ranges =
    let places : list_all (list_all (λ n. nat_le 1 n)) d.cluster.places ≡ true =
    all_pass (list_all is_node) (list_all (λ n. nat_le 1 n)) d.cluster.places
    (λ ns h. all_pass is_node (λ n. nat_le 1 n) ns node_in h) ranges.places in
    let homes : list_all (λ s. nat_le 1 s.home) d.scripts ≡ true =
    all_pass is_script_in_range (λ s. nat_le 1 s.home) d.scripts home_in ranges.scripts in
    record {
      document = is;
      bodies = all_pass is_script_in_range (λ s. is_body s.ops) d.scripts body_in ranges.scripts;
      nodes = rw (places, homes) refl;
    }

ranges_of : (d : Draft) → IsInRangeSoFar d → IsInRange (document_of d)
ranges_of d r = record { places = r.places; inits = r.inits; scripts = r.scripts; items = r.items }

-- what is read of a text to its end is all that the laws ask of a document
pub one-from_pieces : (xs : List (List ℕ)) (d : Draft) → pieces_from blank 1 xs ≡ Ok d → IsOne (document_of d)
one-from_pieces xs d e =
    let told = at_ok (pieces_from blank 1 xs) (λ e. (bytes_so_far e ≡ join_with_byte 10 xs) × IsInRangeSoFar e) d
    (blank_pieces_told 1 xs) e in
    one_of (document_of d) (IsDocument-from_pieces xs d e) (ranges_of d told.1)

-- the bytes spell the document
pub record IsSpelled (bytes : List ℕ) (d : DocumentData) : Type 0 where
  pub bytes_are : bytes ≡ spelling d
  pub one : IsOne d
  pub ranges : IsInRange d

-- a document is read in its spelling alone
pub spelled : (bytes : List ℕ) (d : DocumentData) → doc bytes ≡ Ok d → IsSpelled bytes d
unfolding doc
spelled bytes d h = by (pieces_from blank 1 (slice_split (λ b. b == 10) bytes)) refl (blank_pieces_told 1 (slice_split (λ b. b == 10) bytes)) (blank_pieces_keep 1 (slice_split (λ b. b == 10) bytes)) h
  where
    by : (r : Result Draft Refusal) → pieces_from blank 1 (slice_split (λ b. b == 10) bytes) ≡ r
        → IfOk r (λ e. (bytes_so_far e ≡ join_with_byte 10 (slice_split (λ b. b == 10) bytes)) × IsInRangeSoFar e)
        → IfOk r IsWhole → (r >>> λ e. Ok (document_of e)) ≡ Ok d → IsSpelled bytes d
    by (Ok e) read told whole same =
        let found : document_of e ≡ d = cc in
        subst (IsSpelled bytes) found (record {
          bytes_are = sym (join_with_byte-slice_split 10 bytes) ∙ sym told.0 ∙ ap (flat_map line) (whole_lines e whole);
          one = one-from_pieces (slice_split (λ b. b == 10) bytes) e read;
          ranges = ranges_of e told.1;
        })
    by (Err w) read told whole same = cc
