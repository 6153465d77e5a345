-- The rows of items as the rows of events, and why each event may come.
use Rattle.std.proofs.Common.{◌≡◌, ℕ, Bool, true, false, List, [], Some, None, is_some, not, refl, sym, ap, subst, ◌∙◌, if◌then◌else◌}
use Rattle.score_base.specs.declared.ids.TxId.{TxId}
use Rattle.score_base.specs.declared.ids.NodeId.{NodeId}
use Rattle.score_base.specs.declared.records.Record.{Record}
use Rattle.script_lang.specs.Scripts.{ScriptData}
use Rattle.journal_words.specs.Journals.{decision, is_closed, pending, undone}
use Rattle.grid_model.specs.declared.acts.Act.{Act}
use Rattle.grid_model.specs.declared.events.Event.TheVariants as event
use Rattle.grid_model.specs.declared.items.Item.{Item}
use Rattle.grid_model.specs.declared.items.Item.TheVariants as item
use Rattle.grid_model.specs.declared.messages.Envelope.{Envelope}
use Rattle.grid_model.specs.declared.voids.Void.TheVariants as void
use Rattle.grid_model.specs.Documents.{DocumentData, IsOne}
use Rattle.grid_model.specs.Fitness.{is_fit_begin}
use Rattle.grid_model.specs.Histories.{after, sent, sent_at}
use Rattle.grid_model.specs.NextViews.{Comes}
use Rattle.grid_model.specs.Nodes.{journal, node, script_of}
use Rattle.grid_model.specs.Rows.{outs_of}
use Rattle.grid_model.specs.Runs.{IsRun}
use Rattle.grid_model.specs.Schedules.{Choice, acts_of, next_left, or_void, retry_on, row}
use Rattle.grid_model.specs.States.{state_of}
use Rattle.grid_model.specs.Sessions.{floor_at, is_busy_at}
use Rattle.grid_model.specs.Stories.{is_small, story}
use Rattle.grid_model.specs.Views.{view}
use Rattle.grid_model.specs.Voids.{void_code, voided}
use Rattle.grid_model.proofs.Undecided.{script-number}
use Rattle.grid_model.proofs.ViewSteps.{here}
use Rattle.grid_laws.proofs.Causes.{AllDue}
use Rattle.grid_laws.proofs.FloorsLow.{floor_at-low}
use Rattle.grid_laws.proofs.OwnDecisions.{own-decisions}
use Rattle.grid_laws.proofs.RunsDue.{due-run, unbegun-undecided}
use Rattle.grid_laws.proofs.SmallIdents.{low-run, small}
use Rattle.view_laws.specs.RowActs.{event_row}

-- ---- a begin

none-undone : (t : TxId) (r : List Record) → decision t r ≡ None → undone t r ≡ None
none-undone t r is = go (is_closed t r)
  where
    go : (b : Bool) → (if b then None else decision t r) ≡ None
    go true = refl
    go false = is

-- a transaction that did not begin is fit to begin behind a run
begin-fit : (d : DocumentData) (h : List Act) (t : TxId) (s : ScriptData) → IsOne d → IsRun d d.items h →
    script_of t d.scripts ≡ Some s → story d (after [] h) t ≡ None →
    is_fit_begin s.home (view d (after [] h) s.home) s (floor_at d (after [] h) s) ≡ true
begin-fit d h t s one run is new =
    let past : List Act = after [] h in
    let due : AllDue d past = due-run d d.items h run in
    let low = low-run d d.items h run one.document.events in
    let number : s.number ≡ t = script-number t d.scripts s is in
    let floor : is_small (floor_at d past s) ≡ true = small (floor_at d past s) (floor_at-low 3200000 d past s low) in
    let free : decision t (journal d past s.home) ≡ None = unbegun-undecided d past due t s is new in
    let none : undone t (journal d past s.home) ≡ None = none-undone t (journal d past s.home) free in
    rw (number, floor, none, is, here s.home, new) refl

pub begin-row : (d : DocumentData) (h : List Act) (t m : ℕ) (s : ScriptData) (c : Choice) → IsOne d →
    IsRun d d.items h → script_of t d.scripts ≡ Some s → story d (after [] h) t ≡ None →
    (node d (after [] h) s.home).up ≡ true → is_busy_at d (after [] h) s ≡ false →
    row d (after [] h) (item.Begin t) c
    ≡ event_row d (after [] h) c s.home m (event.Begin s (floor_at d (after [] h) s))
begin-row d h t m s c one run is new up quiet = rw (new, is, up, quiet, begin-fit d h t s one run is new) refl

-- ---- the other rows

pub deliver-row : (d : DocumentData) (past : List Act) (m : ℕ) (e : Envelope) (c : Choice) →
    sent_at m (sent past) ≡ Some e → (node d past e.to).up ≡ true →
    row d past (item.Deliver m) c ≡ event_row d past c e.to m (event.Deliver e.from e.message)
deliver-row d past m e c is up = rw (is, up) refl

pub next-row : (d : DocumentData) (past : List Act) (m k : ℕ) (c : Choice) → next_left past ≡ Some m →
    row d past (item.Next k) c ≡ row d past (item.Deliver m) c
next-row d past m k c is = rw is refl

pub retry-row : (d : DocumentData) (past : List Act) (t m : ℕ) (s : ScriptData) (c : Choice) →
    script_of t d.scripts ≡ Some s → (node d past s.home).up ≡ true →
    row d past (item.Retry t) c
    ≡ or_void (void_code void.NothingOwed) (outs_of s.home (view d past s.home) (event.Retry t))
    (event_row d past c s.home m (event.Retry t))
retry-row d past t m s c is up = ap (retry_on d (state_of d past) c t) is ∙ rw up refl

pub ask-row : (d : DocumentData) (past : List Act) (n : NodeId) (t m : ℕ) (c : Choice) → (node d past n).up ≡ true →
    row d past (item.Ask n t) c
    ≡ or_void (void_code void.NotPending) (outs_of n (view d past n) (event.Ask t))
    (event_row d past c n m (event.Ask t))
ask-row d past n t m c up = rw up refl

pub peer-row : (d : DocumentData) (past : List Act) (n : NodeId) (t : ℕ) (y : NodeId) (m : ℕ) (c : Choice) →
    (node d past n).up ≡ true → is_some (pending t (journal d past n)) ≡ true →
    row d past (item.AskPeer n t y) c
    ≡ or_void (void_code void.NotPart) (outs_of n (view d past n) (event.AskPeer t y))
    (event_row d past c n m (event.AskPeer t y))
peer-row d past n t y m c up is = rw (up, is) refl

pub peer-none : (d : DocumentData) (past : List Act) (n : NodeId) (t : ℕ) (y : NodeId) (c : Choice) →
    is_some (pending t (journal d past n)) ≡ false →
    (row d past (item.AskPeer n t y) c ≡ voided void.NotPending)
    × (outs_of n (view d past n) (event.AskPeer t y) ≡ [])
peer-none d past n t y c is = (go (node d past n).up, rw is refl)
  where
    go : (up : Bool) → (if not up then voided void.NotPending else
        (if not (is_some (pending t (journal d past n))) then voided void.NotPending
        else or_void (void_code void.NotPart) (outs_of n (view d past n) (event.AskPeer t y))
        (acts_of past c n (outs_of n (view d past n) (event.AskPeer t y))))) ≡ voided void.NotPending
    go true = rw is refl
    go false = refl

pub compact-row : (d : DocumentData) (past : List Act) (n : NodeId) (m : ℕ) (c : Choice) →
    (node d past n).up ≡ true → row d past (item.Compact n) c ≡ event_row d past c n m event.Compact
compact-row d past n m c up = rw up refl

-- ---- each event may come

pub begin-comes : (d : DocumentData) (past : List Act) (t m : ℕ) (s : ScriptData) (floor : ℕ) →
    script_of t d.scripts ≡ Some s → Comes d past s.home m (event.Begin s floor)
begin-comes d past t m s floor is =
    subst (λ u. script_of u d.scripts ≡ Some s) (sym (script-number t d.scripts s is)) is

pub deliver-comes : (d : DocumentData) (items : List Item) (h : List Act) (m : ℕ) (e : Envelope) → IsRun d items h →
    sent_at m (sent (after [] h)) ≡ Some e → Comes d (after [] h) e.to m (event.Deliver e.from e.message)
deliver-comes d items h m e run is = (is, own-decisions d (after [] h) (due-run d items h run) e.to)
