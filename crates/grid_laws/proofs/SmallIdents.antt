-- What the count of identifiers gives a document of at most 50,000 events: each identifier is small.
use Rattle.std.proofs.Common.{◌≡◌, ℕ, ◌*◌, ◌≤◌, true, List, [], Some, arith}
use Rattle.std.proofs.lemmas.Bool.Decides.{nat_tests}
use Rattle.std.specs.Prelude.{sum_by}
use Rattle.score_base.specs.declared.ids.NodeId.{NodeId}
use Rattle.score_base.specs.declared.ids.Ident.{Ident}
use Rattle.grid_model.specs.declared.acts.Act.{Act}
use Rattle.grid_model.specs.declared.items.Item.{Item}
use Rattle.grid_model.specs.declared.messages.Envelope.{Envelope}
use Rattle.grid_model.specs.Documents.{DocumentData, events_of}
use Rattle.grid_model.specs.Histories.{after, sent, sent_at}
use Rattle.journal_words.specs.Journals.{floor}
use Rattle.grid_model.specs.Nodes.{node, journal}
use Rattle.grid_model.specs.Stories.{is_small, is_small_node}
use Rattle.grid_model.specs.Runs.{IsRun}
use Rattle.grid_model.specs.Acts.{EachAct}
use Rattle.grid_model.specs.Facts.{IsAtMost, IdentifiersBelow, message_ident}
use Rattle.grid_laws.proofs.LowWords.{nodes-low, floor-low, messages-low}
use Rattle.grid_laws.proofs.ActsLow.{proposals, acts-low, each-higher}
use Rattle.grid_laws.proofs.EventProposals.{few-proposals}
use Rattle.grid_laws.proofs.RunsDue.{due-run}

-- behind e events no identifier is above 64 e
pub identifiers-below : (d : DocumentData) (items : List Item) (h : List Act) → IsRun d items h
    → IdentifiersBelow (sum_by events_of items) (after [] h)
identifiers-below d items h run =
    let few : proposals (after [] h) ≤ sum_by events_of items = few-proposals d items h run in
    each-higher (64 * proposals (after [] h)) (64 * sum_by events_of items) (after [] h) (omega (arith, few)) (acts-low d (after [] h) (due-run d items h run))

-- no identifier of a past is above 64 times 50,000
abbrev pub IsLow : List Act → Type 0
IsLow past = EachAct (IsAtMost 3200000) past

pub small : (i : Ident) → i ≤ 3200000 → is_small i ≡ true
small i h = grind (arith, nat_tests, h)

-- no identifier of a run of at most 50,000 events
pub low-run : (d : DocumentData) (items : List Item) (h : List Act) → IsRun d items h → sum_by events_of items ≤ 50000
    → IsLow (after [] h)
low-run d items h run few = each-higher (64 * sum_by events_of items) 3200000 (after [] h) (omega (arith, few)) (identifiers-below d items h run)

-- ---- what is small there

-- the floor and the clock of each node
pub small-node : (d : DocumentData) (past : List Act) (n : NodeId) → IsLow past
    → is_small_node (journal d past n) (node d past n).next ≡ true
small-node d past n low =
    let x = nodes-low 3200000 d past low n in
    let f : is_small (floor (journal d past n)) ≡ true = small (floor (journal d past n)) (floor-low 3200000 (journal d past n) x.journal) in
    let c : is_small (node d past n).next ≡ true = small (node d past n).next x.next in
    rw f c

-- each message that was sent
pub small-sent : (past : List Act) (m : ℕ) (e : Envelope) → IsLow past → sent_at m (sent past) ≡ Some e
    → is_small (message_ident e.message) ≡ true
small-sent past m e low is = small (message_ident e.message) (messages-low 3200000 past low m e is)
