-- An item that is read has the words of its line, is in its ranges, and is one that the document allows.
use Rattle.std.proofs.Common.{◌≡◌, ℕ, ◌^◌, ◌≤◌, ◌==◌, ◌&&◌, nat_le, nat_lt, true, cond, List, [], ◌∷◌, Result, Ok, IfOk, refl, sym, ap, subst, ◌∙◌, arith, codes}
use Rattle.std.specs.BTreeSet.{BTreeSet}
use Rattle.std.specs.Cmp.Lexicographic.{bytes_decides}
use Rattle.std.specs.Fmt.{decimal}
use Rattle.std.specs.List.{list_any}
use Rattle.std.proofs.lemmas.Bool.{and_parts}
use Rattle.std.proofs.lemmas.Bool.Decides.{nat_tests}
use Rattle.score_base.specs.declared.ids.NodeId.{NodeId}
use Rattle.score_base.specs.declared.ids.TxId.{TxId}
use Rattle.script_lang.specs.Names.{is_taken}
use Rattle.script_lang.specs.Reading.{is_word, word_at, end_at, number_at, in_range}
use Rattle.script_lang.specs.Words.{node_of, tx_of}
use Rattle.script_lang.specs.declared.whys.Why.{Why}
use Rattle.script_lang.specs.declared.limits.TheConstants.{MAX_NODES}
use Rattle.script_lang.proofs.Readings.{behind, either}
use Rattle.script_lang.proofs.WordsAgain.{small}
use Rattle.script_lang.proofs.WordsRead.{word_read, end_read, number_read, in_range_read, tx_read, node_read}
use Rattle.grid_model.specs.Documents.{events_of, is_item}
use Rattle.grid_model.specs.declared.items.Item.{Item}
use Rattle.grid_model.specs.declared.items.Item.TheVariants as item
use Rattle.cluster_file.specs.Items.{known_number, script_of, last_script, last_node, last_number, asked, ask_item, crash_item, fuse_item, kind_of, item_at}
use Rattle.cluster_file.specs.Spelling.{is_node, is_tx, is_item_in_range, node_word, item_words}
use Rattle.cluster_file.specs.declared.items.Kind.{Kind}
use Rattle.cluster_file.specs.declared.items.Kind.TheVariants as kind
use Rattle.cluster_file.specs.declared.limits.TheConstants.{MAX_CALL, MAX_COUNT}
use Rattle.cluster_file.proofs.LinesTold.{one_number, in_cluster}

-- the word that an item of a kind begins with
abbrev pub kind_word : Kind → List ℕ
kind_word kind.Begin = codes "begin"
kind_word kind.Deliver = codes "deliver"
kind_word kind.Drop = codes "drop"
kind_word kind.Retry = codes "retry"
kind_word kind.Ask = codes "ask"
kind_word kind.Crash = codes "crash"
kind_word kind.Fuse = codes "fuse"
kind_word kind.Restart = codes "restart"
kind_word kind.Compact = codes "compact"

-- the item of one event that a line spells, where the scripts have these numbers
pub record IsItemRead (nodes : ℕ) (ts : List TxId) (line : List (List ℕ)) (i : Item) : Type 0 where
  pub spelled : item_words i ≡ line
  pub short : nodes ≤ MAX_NODES → is_item_in_range i ≡ true
  pub allowed : is_item nodes ts i ≡ true
  pub one : events_of i ≡ 1

-- What the words behind the first one name.

script_read : (numbers : BTreeSet TxId) (w : List ℕ) → IfOk (script_of numbers w)
    (λ t. (w ≡ decimal t) × (is_tx t ≡ true) × (list_any (λ u. u == t) numbers.keys ≡ true))
unfolding script_of
script_read numbers w = behind (tx_of w) _ _ _ (tx_read w) (λ t number. behind (known_number numbers t) _ (λ _. is_taken numbers t ≡ true) _ (either (is_taken numbers t) _ _ _ (λ e. e) (λ _. tt)) (λ z known. (number.0, number.1, known)))

last_script_read : (numbers : BTreeSet TxId) (ws : List (List ℕ)) → IfOk (last_script numbers ws)
    (λ t. (decimal t ∷ [] ≡ ws) × (is_tx t ≡ true) × (list_any (λ u. u == t) numbers.keys ≡ true))
unfolding last_script
last_script_read numbers ws = behind (word_at ws) _ _ _ (word_read ws) (λ w words. behind (script_of numbers w.0) _ _ _ (script_read numbers w.0) (λ t s. behind (end_at w.1) _ _ _ (end_read w.1) (λ z none_left.
    let all : decimal t ∷ [] ≡ ws = ap (λ l. l ∷ []) (sym s.0) ∙ ap (λ l. w.0 ∷ l) (sym none_left) ∙ sym words in
    (all, s.1, s.2))))

last_node_read : (nodes : ℕ) (ws : List (List ℕ)) → IfOk (last_node nodes ws)
    (λ n. (node_word n ∷ [] ≡ ws) × ((nat_le 1 n && nat_le n nodes) ≡ true))
unfolding last_node
last_node_read nodes ws = behind (word_at ws) _ _ _ (word_read ws) (λ w words. behind (node_of nodes w.0) _ _ _ (node_read nodes w.0) (λ n node. behind (end_at w.1) _ _ _ (end_read w.1) (λ z none_left.
    let all : node_word n ∷ [] ≡ ws = ap (λ l. l ∷ []) (sym node.0) ∙ ap (λ l. w.0 ∷ l) (sym none_left) ∙ sym words in
    (all, node.1))))

last_number_read : (low high : ℕ) (ws : List (List ℕ)) → IfOk (last_number low high ws)
    (λ m. (decimal m ∷ [] ≡ ws) × (nat_le low m ≡ true) × (nat_le m high ≡ true))
unfolding last_number
last_number_read low high ws = behind (number_at ws) _ _ _ (number_read ws) (λ n words. behind (in_range low high n.0) _ _ _ (in_range_read low high n.0) (λ m same. behind (end_at n.1) _ _ _ (end_read n.1) (λ z none_left. (one_number ws n m words.0 same.0 none_left, same.1, same.2))))

-- The items that more than one word is behind.

low_node : (nodes n : ℕ) → (nat_le 1 n && nat_le n nodes) ≡ true → nat_le n nodes ≡ true
low_node nodes n h = (and_parts (nat_le 1 n) (nat_le n nodes) h).1

low_image : (how : ℕ) → nat_le how MAX_COUNT ≡ true → nat_lt how (2 ^ 64) ≡ true
low_image how h = grind (arith, nat_tests, small how MAX_COUNT h (omega arith))

low_call : (k : ℕ) → nat_le k MAX_CALL ≡ true → nat_lt k (2 ^ 64) ≡ true
low_call k h = grind (arith, nat_tests, small k MAX_CALL h (omega arith))

asked_read : (nodes : ℕ) (ts : List TxId) (n : NodeId) (t : TxId) (ws : List (List ℕ))
    → (nat_le 1 n && nat_le n nodes) ≡ true → is_tx t ≡ true → list_any (λ u. u == t) ts ≡ true
    → IfOk (asked nodes n t ws) (IsItemRead nodes ts (codes "ask" ∷ node_word n ∷ decimal t ∷ ws))
unfolding asked
asked_read nodes ts n t [] node is known = record {
  spelled = refl;
  short = λ few. rw (in_cluster nodes n node few, is) refl;
  allowed = rw (low_node nodes n node, known) refl;
  one = refl;
}
asked_read nodes ts n t (w ∷ ws) node is known = behind (last_node nodes (w ∷ ws)) _ _ _ (last_node_read nodes (w ∷ ws)) (λ m last. record {
  spelled = ap (λ l. codes "ask" ∷ node_word n ∷ decimal t ∷ l) last.0;
  short = λ few. rw (in_cluster nodes n node few, is, in_cluster nodes m last.1 few) refl;
  allowed = rw (low_node nodes n node, low_node nodes m last.1, known) refl;
  one = refl;
})

ask_read : (nodes : ℕ) (numbers : BTreeSet TxId) (ws : List (List ℕ))
    → IfOk (ask_item nodes numbers ws) (IsItemRead nodes numbers.keys (codes "ask" ∷ ws))
unfolding ask_item
ask_read nodes numbers ws = behind (word_at ws) _ _ _ (word_read ws) (λ w words. behind (node_of nodes w.0) _ _ _ (node_read nodes w.0) (λ n node. behind (word_at w.1) _ _ _ (word_read w.1) (λ v more. behind (script_of numbers v.0) _ _ _ (script_read numbers v.0) (λ t s.
    let all : ws ≡ node_word n ∷ decimal t ∷ v.1 = words ∙ ap (λ l. l ∷ w.1) node.0 ∙ ap (λ l. node_word n ∷ l) (more ∙ ap (λ l. l ∷ v.1) s.0) in
    subst (λ l. IfOk (asked nodes n t v.1) (IsItemRead nodes numbers.keys (codes "ask" ∷ l))) (sym all) (asked_read nodes numbers.keys n t v.1 node.1 s.1 s.2)))))

crash_read : (nodes : ℕ) (ts : List TxId) (ws : List (List ℕ))
    → IfOk (crash_item nodes ws) (IsItemRead nodes ts (codes "crash" ∷ ws))
unfolding crash_item
crash_read nodes ts ws = behind (word_at ws) _ _ _ (word_read ws) (λ w words. behind (node_of nodes w.0) _ _ _ (node_read nodes w.0) (λ n node. behind (last_number 0 MAX_COUNT w.1) _ _ _ (last_number_read 0 MAX_COUNT w.1) (λ how last.
    let all : ws ≡ node_word n ∷ decimal how ∷ [] = words ∙ ap (λ l. l ∷ w.1) node.0 ∙ ap (λ l. node_word n ∷ l) (sym last.0) in
    record {
      spelled = ap (λ l. codes "crash" ∷ l) (sym all);
      short = λ few. rw (in_cluster nodes n node.1 few, low_image how last.2) refl;
      allowed = rw (low_node nodes n node.1, last.2) refl;
      one = refl;
    })))

fuse_read : (nodes : ℕ) (ts : List TxId) (ws : List (List ℕ))
    → IfOk (fuse_item nodes ws) (IsItemRead nodes ts (codes "fuse" ∷ ws))
unfolding fuse_item
fuse_read nodes ts ws = behind (word_at ws) _ _ _ (word_read ws) (λ w words. behind (node_of nodes w.0) _ _ _ (node_read nodes w.0) (λ n node. behind (number_at w.1) _ _ _ (number_read w.1) (λ c call. behind (in_range 1 MAX_CALL c.0) _ _ _ (in_range_read 1 MAX_CALL c.0) (λ k same. behind (last_number 0 MAX_COUNT c.1) _ _ _ (last_number_read 0 MAX_COUNT c.1) (λ how last.
    let behind_node : w.1 ≡ decimal k ∷ decimal how ∷ [] = call.0 ∙ ap (λ l. decimal l ∷ c.1) (sym same.0) ∙ ap (λ l. decimal k ∷ l) (sym last.0) in
    let all : ws ≡ node_word n ∷ decimal k ∷ decimal how ∷ [] = words ∙ ap (λ l. l ∷ w.1) node.0 ∙ ap (λ l. node_word n ∷ l) behind_node in
    record {
      spelled = ap (λ l. codes "fuse" ∷ l) (sym all);
      short = λ few. rw (in_cluster nodes n node.1 few, low_call k same.2, low_image how last.2) refl;
      allowed = rw (low_node nodes n node.1, same.1, same.2, last.2) refl;
      one = refl;
    })))))

-- The items of each kind.

pub item_read : (k : Kind) (nodes : ℕ) (numbers : BTreeSet TxId) (ws : List (List ℕ))
    → IfOk (item_at k nodes numbers ws) (IsItemRead nodes numbers.keys (kind_word k ∷ ws))
unfolding item_at
item_read kind.Begin nodes numbers ws = behind (last_script numbers ws) _ _ _ (last_script_read numbers ws) (λ t s. record { spelled = ap (λ l. codes "begin" ∷ l) s.0; short = λ few. s.1; allowed = s.2; one = refl })
item_read kind.Deliver nodes numbers ws = behind (last_number 1 MAX_COUNT ws) _ _ _ (last_number_read 1 MAX_COUNT ws) (λ m s. record { spelled = ap (λ l. codes "deliver" ∷ l) s.0; short = λ few. s.2; allowed = s.1; one = refl })
item_read kind.Drop nodes numbers ws = behind (last_number 1 MAX_COUNT ws) _ _ _ (last_number_read 1 MAX_COUNT ws) (λ m s. record { spelled = ap (λ l. codes "drop" ∷ l) s.0; short = λ few. s.2; allowed = s.1; one = refl })
item_read kind.Retry nodes numbers ws = behind (last_script numbers ws) _ _ _ (last_script_read numbers ws) (λ t s. record { spelled = ap (λ l. codes "retry" ∷ l) s.0; short = λ few. s.1; allowed = s.2; one = refl })
item_read kind.Ask nodes numbers ws = ask_read nodes numbers ws
item_read kind.Crash nodes numbers ws = crash_read nodes numbers.keys ws
item_read kind.Fuse nodes numbers ws = fuse_read nodes numbers.keys ws
item_read kind.Restart nodes numbers ws = behind (last_node nodes ws) _ _ _ (last_node_read nodes ws) (λ n s. record { spelled = ap (λ l. codes "restart" ∷ l) s.0; short = λ few. in_cluster nodes n s.1 few; allowed = low_node nodes n s.1; one = refl })
item_read kind.Compact nodes numbers ws = behind (last_node nodes ws) _ _ _ (last_node_read nodes ws) (λ n s. record { spelled = ap (λ l. codes "compact" ∷ l) s.0; short = λ few. in_cluster nodes n s.1 few; allowed = low_node nodes n s.1; one = refl })

-- the word of this kind, or another
kind_or : (w : List ℕ) (k : Kind) (y : Result Kind Why) → IfOk y (λ j. w ≡ kind_word j)
    → IfOk (cond (is_word w (kind_word k)) (Ok k) y) (λ j. w ≡ kind_word j)
kind_or w k y h = either (is_word w (kind_word k)) _ _ _ (λ e. (bytes_decides w (kind_word k)).0 e) (λ _. h)

pub kind_read : (w : List ℕ) → IfOk (kind_of w) (λ k. w ≡ kind_word k)
kind_read w = kind_or w kind.Begin _ (kind_or w kind.Deliver _ (kind_or w kind.Drop _ (kind_or w kind.Retry _ (kind_or w kind.Ask _ (kind_or w kind.Crash _ (kind_or w kind.Fuse _ (kind_or w kind.Restart _ (kind_or w kind.Compact _ tt))))))))
