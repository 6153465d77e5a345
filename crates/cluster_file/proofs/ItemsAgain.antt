-- The words of an item are read as that item.
use Rattle.std.proofs.Common.{◌≡◌, ℕ, ◌+◌, ◌<◌, ◌≤◌, ◌^◌, nat_le, true, List, [], ◌∷◌, Ok, refl, arith}
use Rattle.std.specs.BTreeSet.{BTreeSet}
use Rattle.std.specs.Fmt.{decimal}
use Rattle.std.proofs.lemmas.Bool.Decides.{nat_tests}
use Rattle.score_base.specs.declared.ids.NodeId.{NodeId}
use Rattle.score_base.specs.declared.ids.TxId.{TxId}
use Rattle.script_lang.specs.Names.{is_taken}
use Rattle.script_lang.specs.Reading.{number_at, in_range}
use Rattle.script_lang.specs.Words.{node_of, tx_of}
use Rattle.script_lang.proofs.WordsAgain.{goes, passes, number_again, within_again, small, tx_again}
use Rattle.grid_model.specs.declared.items.Item.{Item}
use Rattle.grid_model.specs.declared.items.Item.TheVariants as item
use Rattle.cluster_file.specs.Items.{known_number, script_of, last_script, last_node, last_number, asked, ask_item, crash_item, fuse_item, item_at, with_item, event_line, more_events, next_line}
use Rattle.cluster_file.specs.Spelling.{is_node, is_tx, node_word}
use Rattle.cluster_file.specs.declared.drafts.Draft.{Draft}
use Rattle.cluster_file.specs.declared.items.Kind.{Kind}
use Rattle.cluster_file.specs.declared.items.Kind.TheVariants as kind
use Rattle.cluster_file.specs.declared.limits.TheConstants.{MAX_CALL, MAX_COUNT, MAX_EVENTS}
use Rattle.cluster_file.proofs.Again.{node_again}

-- What the words behind the first one name.

script_again : (numbers : BTreeSet TxId) (t : TxId) → is_tx t ≡ true → is_taken numbers t ≡ true
    → script_of numbers (decimal t) ≡ Ok t
unfolding script_of
script_again numbers t is known =
    goes (tx_of (decimal t)) _ t _ (tx_again t is)
    (goes (known_number numbers t) _ tt _ (rw known refl) refl)

last_script_again : (numbers : BTreeSet TxId) (t : TxId) → is_tx t ≡ true → is_taken numbers t ≡ true
    → last_script numbers (decimal t ∷ []) ≡ Ok t
unfolding last_script
last_script_again numbers t is known = goes (script_of numbers (decimal t)) _ t _ (script_again numbers t is known) refl

last_node_again : (nodes : ℕ) (n : NodeId) → nat_le n nodes ≡ true → is_node n ≡ true
    → last_node nodes (node_word n ∷ []) ≡ Ok n
unfolding last_node
last_node_again nodes n low is = goes (node_of nodes (node_word n)) _ n _ (node_again nodes n low is) refl

last_number_again : (low high m : ℕ) → nat_le low m ≡ true → nat_le m high ≡ true → high ≤ 4294967295
    → last_number low high (decimal m ∷ []) ≡ Ok m
unfolding last_number
last_number_again low high m least most limit =
    goes (number_at (decimal m ∷ [])) _ (m, []) _ (number_again m [] (small m high most limit))
    (goes (in_range low high m) _ m _ (within_again low high m least most) refl)

-- The items of each kind.

module _ (nodes : ℕ) (numbers : BTreeSet TxId) where
  pub begin_again : (t : TxId) → is_tx t ≡ true → is_taken numbers t ≡ true
      → item_at kind.Begin nodes numbers (decimal t ∷ []) ≡ Ok (item.Begin t)
  unfolding item_at
  begin_again t is known = goes (last_script numbers (decimal t ∷ [])) _ t _ (last_script_again numbers t is known) refl

  pub retry_again : (t : TxId) → is_tx t ≡ true → is_taken numbers t ≡ true
      → item_at kind.Retry nodes numbers (decimal t ∷ []) ≡ Ok (item.Retry t)
  unfolding item_at
  retry_again t is known = goes (last_script numbers (decimal t ∷ [])) _ t _ (last_script_again numbers t is known) refl

  pub deliver_again : (m : ℕ) → nat_le 1 m ≡ true → nat_le m MAX_COUNT ≡ true
      → item_at kind.Deliver nodes numbers (decimal m ∷ []) ≡ Ok (item.Deliver m)
  unfolding item_at
  deliver_again m least most = goes (last_number 1 MAX_COUNT (decimal m ∷ [])) _ m _ (last_number_again 1 MAX_COUNT m least most (omega arith)) refl

  pub drop_again : (m : ℕ) → nat_le 1 m ≡ true → nat_le m MAX_COUNT ≡ true
      → item_at kind.Drop nodes numbers (decimal m ∷ []) ≡ Ok (item.Drop m)
  unfolding item_at
  drop_again m least most = goes (last_number 1 MAX_COUNT (decimal m ∷ [])) _ m _ (last_number_again 1 MAX_COUNT m least most (omega arith)) refl

  pub ask_again : (n : NodeId) (t : TxId) → nat_le n nodes ≡ true → is_node n ≡ true → is_tx t ≡ true
      → is_taken numbers t ≡ true
      → item_at kind.Ask nodes numbers (node_word n ∷ decimal t ∷ []) ≡ Ok (item.Ask n t)
  unfolding item_at ask_item asked
  ask_again n t low node is known =
      goes (node_of nodes (node_word n)) _ n _ (node_again nodes n low node)
      (goes (script_of numbers (decimal t)) _ t _ (script_again numbers t is known) refl)

  pub ask_peer_again : (n : NodeId) (t : TxId) (m : NodeId) → nat_le n nodes ≡ true → is_node n ≡ true
      → is_tx t ≡ true → is_taken numbers t ≡ true → nat_le m nodes ≡ true → is_node m ≡ true
      → item_at kind.Ask nodes numbers (node_word n ∷ decimal t ∷ node_word m ∷ []) ≡ Ok (item.AskPeer n t m)
  unfolding item_at ask_item asked
  ask_peer_again n t m low node is known low_m node_m =
      goes (node_of nodes (node_word n)) _ n _ (node_again nodes n low node)
      (goes (script_of numbers (decimal t)) _ t _ (script_again numbers t is known)
      (goes (last_node nodes (node_word m ∷ [])) _ m _ (last_node_again nodes m low_m node_m) refl))

  pub crash_again : (n : NodeId) (how : ℕ) → nat_le n nodes ≡ true → is_node n ≡ true → nat_le how MAX_COUNT ≡ true
      → item_at kind.Crash nodes numbers (node_word n ∷ decimal how ∷ []) ≡ Ok (item.Crash n how)
  unfolding item_at crash_item
  crash_again n how low node most =
      let least : nat_le 0 how ≡ true = grind (arith, nat_tests) in
      goes (node_of nodes (node_word n)) _ n _ (node_again nodes n low node)
      (goes (last_number 0 MAX_COUNT (decimal how ∷ [])) _ how _ (last_number_again 0 MAX_COUNT how least most (omega arith)) refl)

  pub fuse_again : (n : NodeId) (k how : ℕ) → nat_le n nodes ≡ true → is_node n ≡ true → nat_le 1 k ≡ true
      → nat_le k MAX_CALL ≡ true → nat_le how MAX_COUNT ≡ true
      → item_at kind.Fuse nodes numbers (node_word n ∷ decimal k ∷ decimal how ∷ []) ≡ Ok (item.Fuse n k how)
  unfolding item_at fuse_item
  fuse_again n k how low node first last most =
      let least : nat_le 0 how ≡ true = grind (arith, nat_tests) in
      goes (node_of nodes (node_word n)) _ n _ (node_again nodes n low node)
      (goes (number_at (decimal k ∷ decimal how ∷ [])) _ (k, decimal how ∷ []) _ (number_again k (decimal how ∷ []) (small k MAX_CALL last (omega arith)))
      (goes (in_range 1 MAX_CALL k) _ k _ (within_again 1 MAX_CALL k first last)
      (goes (last_number 0 MAX_COUNT (decimal how ∷ [])) _ how _ (last_number_again 0 MAX_COUNT how least most (omega arith)) refl)))

  pub restart_again : (n : NodeId) → nat_le n nodes ≡ true → is_node n ≡ true
      → item_at kind.Restart nodes numbers (node_word n ∷ []) ≡ Ok (item.Restart n)
  unfolding item_at
  restart_again n low node = goes (last_node nodes (node_word n ∷ [])) _ n _ (last_node_again nodes n low node) refl

  pub compact_again : (n : NodeId) → nat_le n nodes ≡ true → is_node n ≡ true
      → item_at kind.Compact nodes numbers (node_word n ∷ []) ≡ Ok (item.Compact n)
  unfolding item_at
  compact_again n low node = goes (last_node nodes (node_word n ∷ [])) _ n _ (last_node_again nodes n low node) refl

-- The lines.

pub event_again : (d : Draft) (k : Kind) (i : Item) (ws : List (List ℕ)) → d.events + 1 ≤ MAX_EVENTS
    → item_at k d.nodes d.numbers ws ≡ Ok i → event_line d k ws ≡ Ok (with_item d i 1)
unfolding event_line
event_again d k i ws room h = passes (nat_le MAX_EVENTS d.events) _ _ _ (grind (arith, nat_tests, room)) (goes (item_at k d.nodes d.numbers ws) _ i _ h refl)

pub next_line_again : (d : Draft) (c : ℕ) → d.events + c ≤ MAX_EVENTS → nat_le 1 c ≡ true → nat_le c MAX_EVENTS ≡ true
    → next_line d (decimal c ∷ []) ≡ Ok (with_item d (item.Next c) c)
unfolding next_line
next_line_again d c room low high =
    let few : nat_le (d.events + c) MAX_EVENTS ≡ true = grind (arith, nat_tests, room) in
    goes (number_at (decimal c ∷ [])) _ (c, []) _ (number_again c [] (small c MAX_EVENTS high (omega arith)))
    (goes (in_range 1 MAX_EVENTS c) _ c _ (within_again 1 MAX_EVENTS c low high)
    (goes (more_events d.events c) _ tt _ (rw few refl) refl))
