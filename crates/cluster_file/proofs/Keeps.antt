-- Each line leaves what was read well formed, so what is read to its end is a document.
use Rattle.std.proofs.Common.{◌≡◌, ℕ, ◌+◌, ◌≤◌, true, false, ◌&&◌, ◌==◌, List, [], ◌∷◌, ◌++◌, length, nat_le, Option, Some, None, Ok, IfOk, refl, sym, ap, ◌∙◌, subst, arith, codes}
use Rattle.std.specs.List.{list_all, slice_split}
use Rattle.std.proofs.lemmas.Bool.Decides.{nat_tests}
use Rattle.score_base.specs.declared.ids.TxId.{TxId}
use Rattle.script_lang.specs.Scripts.{ScriptData}
use Rattle.grid_model.specs.Documents.{IsDocument, script_numbers, number_order, events_of, is_item}
use Rattle.grid_model.specs.declared.items.Item.{Item}
use Rattle.grid_model.specs.declared.items.Item.TheVariants as item
use Rattle.cluster_file.specs.declared.drafts.Draft.{Draft}
use Rattle.cluster_file.specs.declared.drafts.Part.{Part}
use Rattle.cluster_file.specs.declared.drafts.Part.TheVariants as part
use Rattle.cluster_file.specs.declared.items.Kind.{Kind}
use Rattle.script_lang.specs.Reading.{is_word, end_at, number_at, in_range}
use Rattle.cluster_file.specs.Items.{kind_of, item_at, with_item, event_line, more_events, next_line, item_line}
use Rattle.cluster_file.specs.Lines.{part_line, line_in, words_line, line_of}
use Rattle.script_lang.specs.Words.{is_printed}
use Rattle.cluster_file.specs.Doc.{close, is_whole, pieces_from, at_line, blank, document_of}
use Rattle.std.proofs.lemmas.Bool.{and_parts}
use Rattle.cluster_file.proofs.ItemsRead.{item_read}
use Rattle.cluster_file.proofs.Members.{among_numbers}
use Rattle.script_lang.proofs.Readings.{behind, then, either, at_ok}
use Rattle.script_lang.proofs.WordsRead.{in_range_read}
use Rattle.cluster_file.proofs.Steps.{numbered, below}
use Rattle.cluster_file.proofs.SoFar.{IsNamed, IsPlan, IsStage, IsBegun, all_scripts, planned}
use Rattle.cluster_file.proofs.PartsKeep.{plan_item, no_script}
use Rattle.cluster_file.proofs.LinesKeep.{nodes_keeps, partition_keeps, script_keeps, later_keeps, init_or_later_keeps}
use Rattle.cluster_file.specs.declared.limits.TheConstants.{MAX_EVENTS}

item_keeps : (d : Draft) (i : Item) → IsBegun (planned d) → is_item d.nodes (script_numbers (d.scripts ++ [])) i ≡ true
    → d.events + events_of i ≤ MAX_EVENTS → IsBegun (with_item (planned d) i (events_of i))
item_keeps d i h ok room = record {
  head = h.head;
  named = h.named;
  plan = plan_item d.nodes (script_numbers (d.scripts ++ [])) d.items d.events i h.plan ok room;
  stage = h.stage;
}

one_more : (events : ℕ) → nat_le MAX_EVENTS events ≡ false → events + 1 ≤ MAX_EVENTS
one_more events room = grind (arith, nat_tests, room)

-- what is asked of an item's transaction, by the numbers in their order
is_item_same : (nodes : ℕ) (ts : List TxId) (i : Item) → is_item nodes ts i ≡ is_item nodes (number_order ts) i
is_item_same nodes ts (item.Begin t) = sym (among_numbers t ts)
is_item_same nodes ts (item.Deliver m) = refl
is_item_same nodes ts (item.Drop m) = refl
is_item_same nodes ts (item.Next c) = refl
is_item_same nodes ts (item.Retry t) = sym (among_numbers t ts)
is_item_same nodes ts (item.Ask n t) = ap (λ b. nat_le n nodes && b) (sym (among_numbers t ts))
is_item_same nodes ts (item.AskPeer n t m) = ap (λ b. nat_le n nodes && (nat_le m nodes && b)) (sym (among_numbers t ts))
is_item_same nodes ts (item.Crash n how) = refl
is_item_same nodes ts (item.Fuse n k how) = refl
is_item_same nodes ts (item.Restart n) = refl
is_item_same nodes ts (item.Compact n) = refl

event_keeps : (d : Draft) (k : Kind) (ws : List (List ℕ)) → IsBegun (planned d)
    → IfOk (event_line (planned d) k ws) IsBegun
unfolding event_line
event_keeps d k ws h = either (nat_le MAX_EVENTS d.events) _ _ _ (λ e. tt) (λ room. behind (item_at k d.nodes d.numbers ws) _ _ _ (item_read k d.nodes d.numbers ws) (λ i read.
    let allowed : is_item d.nodes (script_numbers (d.scripts ++ [])) i ≡ true = is_item_same d.nodes (script_numbers (d.scripts ++ [])) i ∙ ap (λ ts. is_item d.nodes ts i) (sym h.named.taken) ∙ read.allowed in
    let fits : d.events + events_of i ≤ MAX_EVENTS = subst (λ c. d.events + c ≤ MAX_EVENTS) (sym read.one) (one_more d.events room) in
    subst (λ c. IsBegun (with_item (planned d) i c)) read.one (item_keeps d i h allowed fits)))

more_events_keeps : (events c : ℕ) → IfOk (more_events events c) (λ _. events + c ≤ MAX_EVENTS)
more_events_keeps events c = either (nat_le (events + c) MAX_EVENTS) _ _ _ (λ e. grind (arith, nat_tests, e)) (λ e. tt)

next_keeps : (d : Draft) (ws : List (List ℕ)) → IsBegun (planned d) → IfOk (next_line (planned d) ws) IsBegun
unfolding next_line
next_keeps d ws h = then (number_at ws) _ _ (λ n. behind (in_range 1 MAX_EVENTS n.0) _ _ _ (in_range_read 1 MAX_EVENTS n.0) (λ c low. behind (more_events d.events c) _ _ _ (more_events_keeps d.events c) (λ z room. then (end_at n.1) _ _ (λ _. item_keeps d (item.Next c) h (rw (low.1, low.2) refl) room))))

item_line_keeps : (d : Draft) (w : List ℕ) (ws : List (List ℕ)) → IsBegun (planned d)
    → IfOk (item_line (planned d) w ws) IsBegun
unfolding item_line
item_line_keeps d w ws h = either (is_word w (codes "next")) _ _ _ (λ e. next_keeps d ws h) (λ e. then (kind_of w) _ _ (λ k. event_keeps d k ws h))

part_keeps : (p : Part) (d : Draft) (w : List ℕ) (ws : List (List ℕ)) → IsBegun (record d { script = None; part = p })
    → IfOk (part_line p (record d { script = None; part = p }) w ws) IsBegun
part_keeps part.Start d w ws h = absurd h.stage
part_keeps part.Nodes d w ws h = either (is_word w (codes "partition")) _ _ _ (λ e. partition_keeps (record d { script = None; part = part.Nodes }) ws h h.stage.0 h.stage.1 h.stage.2 h.stage.3) (λ e. tt)
part_keeps part.Partitions d w ws h = either (is_word w (codes "partition")) _ _ _ (λ e. partition_keeps (record d { script = None; part = part.Partitions }) ws h h.stage.0 h.stage.1 h.stage.2 h.stage.3) (λ e. init_or_later_keeps (record d { script = None; part = part.Partitions }) w ws h h.stage.0 h.stage.1 h.stage.2 h.stage.4)
part_keeps part.Inits d w ws h = init_or_later_keeps (record d { script = None; part = part.Inits }) w ws h h.stage.0 h.stage.1 h.stage.2 h.stage.3
part_keeps part.Scripts d w ws h = later_keeps (record d { script = None; part = part.Scripts }) w ws h refl h.stage.0 h.stage.1
part_keeps part.Items d w ws h = item_line_keeps d w ws h

line_in_keeps : (o : Option ScriptData) (p : Part) (d : Draft) (w : List ℕ) (ws : List (List ℕ))
    → IsBegun (record d { script = o; part = p }) → IfOk (line_in o (record d { script = None; part = p }) w ws) IsBegun
line_in_keeps None p d w ws h = part_keeps p d w ws h
line_in_keeps (Some s) part.Start d w ws h = absurd h.stage
line_in_keeps (Some s) part.Nodes d w ws h = let bad : Some s ≡ None = h.stage.1 in cc
line_in_keeps (Some s) part.Partitions d w ws h = let bad : Some s ≡ None = h.stage.1 in cc
line_in_keeps (Some s) part.Inits d w ws h = let bad : Some s ≡ None = h.stage.1 in cc
line_in_keeps (Some s) part.Scripts d w ws h = script_keeps d s w ws h
line_in_keeps (Some s) part.Items d w ws h = let bad : Some s ≡ None = h.stage.0 in cc

words_keep : (d : Draft) (ws : List (List ℕ)) → IsBegun d → IfOk (words_line d ws) IsBegun
words_keep d [] h = tt
words_keep d (w ∷ ws) h = line_in_keeps d.script d.part d w ws h

blank_words_keep : (ws : List (List ℕ)) → IfOk (words_line blank ws) IsBegun
blank_words_keep [] = tt
blank_words_keep (w ∷ ws) = either (is_word w (codes "nodes")) _ _ _ (λ e. nodes_keeps ws) (λ e. tt)

pub line_keeps : (d : Draft) (line : List ℕ) → IsBegun d → IfOk (line_of d line) IsBegun
unfolding line_of
line_keeps d line h = either (list_all is_printed line) _ _ _ (λ e. words_keep d (slice_split (λ b. b == 32) line) h) (λ e. tt)

pub blank_line_keeps : (line : List ℕ) → IfOk (line_of blank line) IsBegun
unfolding line_of
blank_line_keeps line = either (list_all is_printed line) _ _ _ (λ e. blank_words_keep (slice_split (λ b. b == 32) line)) (λ e. tt)

-- The whole text.

-- what was read to the end
pub record IsWhole (d : Draft) : Type 0 where
  pub begun : IsBegun d
  pub ended : d.part ≡ part.Items

whole : (p : Part) → is_whole p ≡ true → p ≡ part.Items
whole part.Start e = cc
whole part.Nodes e = cc
whole part.Partitions e = cc
whole part.Inits e = cc
whole part.Scripts e = cc
whole part.Items e = refl

close_keeps : (d : Draft) (tail : List ℕ) → IsBegun d → IfOk (close d tail) IsWhole
close_keeps d tail h = either ((length tail == 0) && is_whole d.part) _ _ _ (λ e. record { begun = h; ended = whole d.part (and_parts (length tail == 0) (is_whole d.part) e).1 }) (λ e. tt)

blank_close_keeps : (tail : List ℕ) → IfOk (close blank tail) IsWhole
blank_close_keeps tail = either ((length tail == 0) && false) _ _ _ (λ e. let bad : false ≡ true = (and_parts (length tail == 0) false e).1 in cc) (λ e. tt)

pieces_keep : (d : Draft) (n : ℕ) (xs : List (List ℕ)) → IsBegun d → IfOk (pieces_from d n xs) IsWhole
unfolding pieces_from
pieces_keep d n [] h = tt
pieces_keep d n (x ∷ xs) h = either (length xs == 0) _ _ _ (λ e. numbered n (close d x) IsWhole (close_keeps d x h)) (λ e. below (at_line n (line_of d x)) _ IsBegun _ (numbered n (line_of d x) IsBegun (line_keeps d x h)) (λ f k. pieces_keep f (n + 1) xs k))

pub blank_pieces_keep : (n : ℕ) (xs : List (List ℕ)) → IfOk (pieces_from blank n xs) IsWhole
unfolding pieces_from
blank_pieces_keep n [] = tt
blank_pieces_keep n (x ∷ xs) = either (length xs == 0) _ _ _ (λ e. numbered n (close blank x) IsWhole (blank_close_keeps x)) (λ e. below (at_line n (line_of blank x)) _ IsBegun _ (numbered n (line_of blank x) IsBegun (blank_line_keeps x)) (λ f k. pieces_keep f (n + 1) xs k))

IsDocument-from_whole : (d : Draft) → IsWhole d → IsDocument (document_of d)
IsDocument-from_whole d w =
    let h = w.begun in
    let stage : (d.script ≡ None) × (1 ≤ length d.places) = subst (λ p. IsStage p d.places d.inits d.scripts d.script d.items) w.ended h.stage in
    let all : all_scripts d ≡ d.scripts = no_script d.scripts d.script stage.0 in
    let named : IsNamed d.nodes d.inits d.scripts d.known.keys d.numbers.keys = subst (λ l. IsNamed d.nodes d.inits l d.known.keys d.numbers.keys) all h.named in
    let plan : IsPlan d.nodes (script_numbers d.scripts) d.items d.events = subst (λ l. IsPlan d.nodes (script_numbers l) d.items d.events) all h.plan in
    record {
      cluster = record { least = h.head.least; most = h.head.most; places = record { least = stage.1; most = h.head.few; each = h.head.each }; within = h.head.within; inits = named.fresh };
      count = named.few;
      numbers = named.distinct;
      homes = named.homes;
      keys = omega (arith, named.few_keys, ap length named.ordered);
      items = plan.each;
      events = omega (arith, plan.counted, plan.few);
    }

-- what is read of a text to its end is a document
pub IsDocument-from_pieces : (xs : List (List ℕ)) (d : Draft) → pieces_from blank 1 xs ≡ Ok d
    → IsDocument (document_of d)
IsDocument-from_pieces xs d e = IsDocument-from_whole d (at_ok (pieces_from blank 1 xs) IsWhole d (blank_pieces_keep 1 xs) e)
