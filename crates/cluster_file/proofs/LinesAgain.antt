-- The lines of a document are read as that document.
use Rattle.std.proofs.Common.{◌≡◌, ℕ, ◌+◌, ◌≤◌, ◌^◌, ◌==◌, ◌&&◌, nat_lt, true, List, [], ◌∷◌, ◌++◌, length, nat_le, None, Result, Ok, refl, sym, ap, ◌∙◌, map, append_assoc, arith, codes}
use Rattle.std.specs.Prelude.{sum_by}
use Rattle.std.specs.Fmt.{decimal}
use Rattle.std.specs.List.{list_any, list_all, flat_map}
use Rattle.std.proofs.lemmas.Bool.Decides.{nat_tests}
use Rattle.std.proofs.lemmas.List.{append-nil}
use Rattle.std.proofs.lemmas.List.Sums.{sum_by-cons}
use Rattle.score_base.specs.declared.keys.Key.{Key}
use Rattle.score_base.specs.declared.ids.NodeId.{NodeId}
use Rattle.score_base.specs.declared.ids.Value.{Value}
use Rattle.script_lang.specs.Scripts.{ScriptData}
use Rattle.script_lang.specs.Reads.{keys_named}
use Rattle.grid_model.specs.Documents.{DocumentData, IsDocument, script_numbers, events_of, keys_of_document, key_order, number_order, is_item}
use Rattle.grid_model.specs.declared.items.Item.{Item}
use Rattle.grid_model.specs.declared.items.Item.TheVariants as item
use Rattle.cluster_file.specs.declared.drafts.Draft.{Draft}
use Rattle.cluster_file.specs.declared.drafts.Part.{Part}
use Rattle.cluster_file.specs.declared.drafts.Part.TheVariants as part
use Rattle.cluster_file.specs.declared.items.Kind.TheVariants as kind
use Rattle.cluster_file.specs.Items.{item_line}
use Rattle.cluster_file.specs.Lines.{words_line, schedule_line}
use Rattle.cluster_file.specs.Doc.{blank}
use Rattle.cluster_file.specs.Spelling.{IsInRange, is_node, is_tx, is_item_in_range, node_word, nodes_words, init_words, item_words, partition_lines, document_lines}
use Rattle.std.proofs.lemmas.Bool.{and_parts}
use Rattle.cluster_file.proofs.Members.{among_numbers}
use Rattle.cluster_file.proofs.Named.{keys_more_scripts}
use Rattle.cluster_file.proofs.Again.{nodes_line_again}
use Rattle.cluster_file.proofs.ItemsAgain.{begin_again, deliver_again, drop_again, retry_again, ask_again, ask_peer_again, crash_again, fuse_again, restart_again, compact_again, event_again, next_line_again}
use Rattle.cluster_file.proofs.ClusterAgain.{lines_from, then_lines, first_few, placed, places_again, IsOpen, is_open, scripted, inits_again}
use Rattle.cluster_file.proofs.ScriptsAgain.{scripts_again}
use Rattle.script_lang.specs.Spelling.{script_words}
use Rattle.script_lang.specs.declared.whys.Why.{Why}
use Rattle.script_lang.specs.declared.limits.TheConstants.{MAX_NODES}
use Rattle.cluster_file.specs.declared.limits.TheConstants.{MAX_CALL, MAX_COUNT, MAX_EVENTS, MAX_KEYS}

-- a draft of these items so far
abbrev pub running : ℕ → List (List NodeId) → List (Key × Value) → List ScriptData → List Item → ℕ → Draft
running n ps xs ss items events = record { part = part.Items; nodes = n; places = ps; inits = xs; scripts = ss; script = None; items = items; events = events; known = record { keys = key_order (keys_of_document xs ss) }; numbers = record { keys = number_order (script_numbers ss) } }

module _ (n : ℕ) (ps : List (List NodeId)) (xs : List (Key × Value)) where
  schedule_again : (p : Part) (ss : List ScriptData) → IsOpen p
      → words_line (scripted p n ps xs ss) (codes "schedule" ∷ []) ≡ Ok (running n ps xs ss [] 0)
  unfolding schedule_line
  schedule_again part.Start ss h = absurd h
  schedule_again part.Nodes ss h = absurd h
  schedule_again part.Partitions ss h = refl
  schedule_again part.Inits ss h = refl
  schedule_again part.Scripts ss h = refl
  schedule_again part.Items ss h = absurd h

  item_words_again : (ss : List ScriptData) (items : List Item) (events : ℕ) (i : Item)
      → events + events_of i ≤ MAX_EVENTS → is_item n (script_numbers ss) i ≡ true → is_item_in_range i ≡ true
      → words_line (running n ps xs ss items events) (item_words i)
      ≡ Ok (running n ps xs ss (items ++ i ∷ []) (events + events_of i))
  unfolding item_line
  item_words_again ss items events (item.Begin t) room is short =
      let d = running n ps xs ss items events in
      event_again d kind.Begin (item.Begin t) (decimal t ∷ []) room (begin_again n d.numbers t short (among_numbers t (script_numbers ss) ∙ is))
  item_words_again ss items events (item.Deliver m) room is short =
      let d = running n ps xs ss items events in
      event_again d kind.Deliver (item.Deliver m) (decimal m ∷ []) room (deliver_again n d.numbers m is short)
  item_words_again ss items events (item.Drop m) room is short =
      let d = running n ps xs ss items events in
      event_again d kind.Drop (item.Drop m) (decimal m ∷ []) room (drop_again n d.numbers m is short)
  item_words_again ss items events (item.Next c) room is short =
      let both = and_parts (nat_le 1 c) (nat_le c MAX_EVENTS) is in
      next_line_again (running n ps xs ss items events) c room both.0 both.1
  item_words_again ss items events (item.Retry t) room is short =
      let d = running n ps xs ss items events in
      event_again d kind.Retry (item.Retry t) (decimal t ∷ []) room (retry_again n d.numbers t short (among_numbers t (script_numbers ss) ∙ is))
  item_words_again ss items events (item.Ask m t) room is short =
      let d = running n ps xs ss items events in
      let a = and_parts (nat_le m n) (list_any (λ u. u == t) (script_numbers ss)) is in
      let b = and_parts (is_node m) (is_tx t) short in
      event_again d kind.Ask (item.Ask m t) (node_word m ∷ decimal t ∷ []) room (ask_again n d.numbers m t a.0 b.0 b.1 (among_numbers t (script_numbers ss) ∙ a.1))
  item_words_again ss items events (item.AskPeer m t y) room is short =
      let d = running n ps xs ss items events in
      let a = and_parts (nat_le m n) (nat_le y n && list_any (λ u. u == t) (script_numbers ss)) is in
      let c = and_parts (nat_le y n) (list_any (λ u. u == t) (script_numbers ss)) a.1 in
      let b = and_parts (is_node m && is_tx t) (is_node y) short in
      let e = and_parts (is_node m) (is_tx t) b.0 in
      event_again d kind.Ask (item.AskPeer m t y) (node_word m ∷ decimal t ∷ node_word y ∷ []) room (ask_peer_again n d.numbers m t y a.0 e.0 e.1 (among_numbers t (script_numbers ss) ∙ c.1) c.0 b.1)
  item_words_again ss items events (item.Crash m how) room is short =
      let d = running n ps xs ss items events in
      let a = and_parts (nat_le m n) (nat_le how MAX_COUNT) is in
      let b = and_parts (is_node m) (nat_lt how (2 ^ 64)) short in
      event_again d kind.Crash (item.Crash m how) (node_word m ∷ decimal how ∷ []) room (crash_again n d.numbers m how a.0 b.0 a.1)
  item_words_again ss items events (item.Fuse m k how) room is short =
      let d = running n ps xs ss items events in
      let a = and_parts (nat_le m n && nat_le 1 k && nat_le k MAX_CALL) (nat_le how MAX_COUNT) is in
      let c = and_parts (nat_le m n && nat_le 1 k) (nat_le k MAX_CALL) a.0 in
      let e = and_parts (nat_le m n) (nat_le 1 k) c.0 in
      let b = and_parts (is_node m && nat_lt k (2 ^ 64)) (nat_lt how (2 ^ 64)) short in
      let f = and_parts (is_node m) (nat_lt k (2 ^ 64)) b.0 in
      event_again d kind.Fuse (item.Fuse m k how) (node_word m ∷ decimal k ∷ decimal how ∷ []) room (fuse_again n d.numbers m k how e.0 f.0 e.1 c.1 a.1)
  item_words_again ss items events (item.Restart m) room is short =
      let d = running n ps xs ss items events in
      event_again d kind.Restart (item.Restart m) (node_word m ∷ []) room (restart_again n d.numbers m is short)
  item_words_again ss items events (item.Compact m) room is short =
      let d = running n ps xs ss items events in
      event_again d kind.Compact (item.Compact m) (node_word m ∷ []) room (compact_again n d.numbers m is short)

  items_again : (ss : List ScriptData) (done todo : List Item) (events : ℕ)
      → events + sum_by events_of todo ≤ MAX_EVENTS → list_all (is_item n (script_numbers ss)) todo ≡ true
      → list_all is_item_in_range todo ≡ true → lines_from (running n ps xs ss done events) (map item_words todo)
      ≡ Ok (running n ps xs ss (done ++ todo) (events + sum_by events_of todo))
  unfolding lines_from
  items_again ss done [] events room is short =
      let none : events ≡ events + sum_by events_of [] = omega arith in
      ap (λ l. Ok (running n ps xs ss l events)) (sym (append-nil done)) ∙ ap (λ c. Ok (running n ps xs ss (done ++ []) c)) none
  items_again ss done (i ∷ todo) events room is short =
      let a = and_parts (is_item n (script_numbers ss) i) (list_all (is_item n (script_numbers ss)) todo) is in
      let b = and_parts (is_item_in_range i) (list_all is_item_in_range todo) short in
      let sums : sum_by events_of (i ∷ todo) ≡ events_of i + sum_by events_of todo = sum_by-cons events_of i todo in
      let count : events + events_of i + sum_by events_of todo ≡ events + sum_by events_of (i ∷ todo) = omega (arith, sums) in
      then_lines (running n ps xs ss done events) (running n ps xs ss (done ++ i ∷ []) (events + events_of i)) (item_words i) (map item_words todo) _
      (item_words_again ss done events i (omega (arith, room, sums)) a.0 b.0)
      (items_again ss (done ++ i ∷ []) todo (events + events_of i) (omega (arith, room, count)) a.1 b.1
      ∙ ap (λ l. Ok (running n ps xs ss l (events + events_of i + sum_by events_of todo))) (append_assoc done (i ∷ []) todo)
      ∙ ap (λ e. Ok (running n ps xs ss (done ++ i ∷ todo) e)) count)

-- all lines of a document
pub document_again : (d : DocumentData) → IsDocument d → IsInRange d → lines_from blank (document_lines d)
    ≡ Ok (running d.cluster.nodes d.cluster.places d.cluster.inits d.scripts d.items (0 + sum_by events_of d.items))
document_again d h r =
    let n = d.cluster.nodes in
    let ps = d.cluster.places in
    let xs = d.cluster.inits in
    let items_left : List (List (List ℕ)) = map item_words d.items in
    let scripts_left : List (List (List ℕ)) = flat_map script_words d.scripts ++ ((codes "schedule" ∷ []) ∷ items_left) in
    let inits_left : List (List (List ℕ)) = map init_words xs ++ scripts_left in
    let least : nat_le 1 n ≡ true = grind (arith, nat_tests, h.cluster.least) in
    let most : nat_le n MAX_NODES ≡ true = grind (arith, nat_tests, h.cluster.most) in
    let end : Result Draft Why = Ok (running n ps xs d.scripts d.items (0 + sum_by events_of d.items)) in
    let last : (p : Part) → IsOpen p → lines_from (scripted p n ps xs d.scripts) ((codes "schedule" ∷ []) ∷ items_left) ≡ end =
    λ p may. then_lines (scripted p n ps xs d.scripts) (running n ps xs d.scripts [] 0) (codes "schedule" ∷ []) items_left end (schedule_again n ps xs p d.scripts may) (items_again n ps xs d.scripts [] d.items 0 (omega (arith, h.events)) h.items r.items) in
    let init_keys : length (key_order (keys_of_document xs [])) ≤ MAX_KEYS = first_few (keys_of_document xs []) (flat_map (λ s. keys_named s.ops) d.scripts) (keys_of_document xs d.scripts) (keys_more_scripts xs [] d.scripts) h.keys in
    then_lines blank (placed part.Nodes n []) (nodes_words n) (partition_lines 0 ps ++ inits_left) end (nodes_line_again n least most)
    (places_again n ps inits_left h.cluster.places.least h.cluster.places.most h.cluster.places.each h.cluster.within r.places
    ∙ inits_again n ps part.Partitions [] xs scripts_left end tt h.cluster.inits init_keys r.inits (λ p early.
    scripts_again n ps xs p [] d.scripts ((codes "schedule" ∷ []) ∷ items_left) end (is_open p early) h.numbers h.keys h.count h.homes r.scripts last))
