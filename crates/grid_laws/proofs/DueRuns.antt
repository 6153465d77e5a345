-- Each act of a run was due where it came.
use Rattle.std.proofs.Common.{◌≡◌, ℕ, Bool, true, false, List, [], ◌∷◌, Some, None, refl}
use Rattle.std.specs.Prelude.{if◌then◌else◌, map}
use Rattle.std.specs.List.{list_all, range_with_len}
use Rattle.score_base.specs.declared.ids.TxId.{TxId}
use Rattle.score_base.specs.declared.ids.NodeId.{NodeId}
use Rattle.script_lang.specs.Scripts.{ScriptData}
use Rattle.grid_model.specs.declared.acts.Act.{Act}
use Rattle.grid_model.specs.declared.acts.Act.TheVariants as act
use Rattle.grid_model.specs.declared.acts.Flag.{Flag}
use Rattle.grid_model.specs.declared.acts.Flag.TheVariants as flag
use Rattle.grid_model.specs.declared.events.Out.{Out}
use Rattle.grid_model.specs.declared.items.Item.{Item}
use Rattle.grid_model.specs.Sessions.{floor_at}
use Rattle.grid_model.specs.Documents.{DocumentData}
use Rattle.grid_model.specs.Nodes.{node, script_of, journal}
use Rattle.grid_model.specs.Stories.{story}
use Rattle.grid_model.specs.Views.{view, stage, participant}
use Rattle.grid_model.specs.Rows.{answer, begin_outs}
use Rattle.grid_model.specs.Disks.{is_compacting}
use Rattle.grid_model.specs.Schedules.{Choice, acts_of, flag_at, next_number, opened_row, row, start_act, start_row}
use Rattle.grid_model.proofs.EventShapes.{Shape, idle, arms, crashes, restarts, begins, delivers, again, IsAgain, retries, asks, asks_peer, compacts, acts_by, by-shape, is_idle}
use Rattle.grid_laws.proofs.Causes.{IsDue, AreDue}
use Rattle.grid_laws.proofs.DueActs.{OutsDue, acts-due}
use Rattle.grid_laws.proofs.DueParts.{due-ask_peer, due-ask}
use Rattle.grid_laws.proofs.DueHomes.{ReadersAnswered, due-begin, due-retry}
use Rattle.grid_laws.proofs.DueAnswers.{due-answer}
use Rattle.grid_laws.proofs.DueLosses.{due-losses}
use Rattle.journal_words.specs.Journals.{decision}

-- ---- rows

due-outs : (d : DocumentData) (past : List Act) (c : Choice) (n : NodeId) (os : List Out)
    → OutsDue d past n (next_number past) os → AreDue d past (acts_of past c n os)
due-outs d past c n os due = acts-due d past n (next_number past) c.keeps os due

-- nothing is decided of a transaction that was not begun
abbrev pub UnbegunUndecided : DocumentData → List Act → Type 0
UnbegunUndecided d past =
    (t : TxId) (s : ScriptData) → script_of t d.scripts ≡ Some s → story d past t ≡ None
    → decision t (journal d past s.home) ≡ None

due-again : (d : DocumentData) (past : List Act) (n : NodeId) (os : List Out) → ReadersAnswered d past
    → (node d past n).up ≡ true
    → IsAgain d past n os
    → OutsDue d past n (next_number past) os
due-again d past n os answered up (retries t is) =
    rw is (due-retry d past n (next_number past) t (stage (view d past n) t) answered refl)
due-again d past n os answered up (asks t is) = rw is (due-ask d past n (next_number past) (view d past n) t refl)
due-again d past n os answered up (asks_peer t y is) = rw is (due-ask_peer d past n (next_number past) t y)
due-again d past n os answered up (compacts is) = rw is ((refl, (up, tt)), tt)

due-idle : (d : DocumentData) (past acts : List Act) → list_all is_idle acts ≡ true → AreDue d past acts
due-idle d past [] is = tt
due-idle d past (act.Void code ∷ acts) is = (tt, due-idle d (act.Void code ∷ past) acts is)
due-idle d past (act.Missed m ∷ acts) is = (tt, due-idle d (act.Missed m ∷ past) acts is)
due-idle d past (act.Dropped m ∷ acts) is = (tt, due-idle d (act.Dropped m ∷ past) acts is)
due-idle d past (a ∷ acts) is = cc

due-restart : (d : DocumentData) (past : List Act) (n : NodeId) (f : Flag) (opens : Bool)
    → AreDue d past (if opens then opened_row d past n f else act.StillDown n ∷ [])
due-restart d past n f true = (tt, due-losses d past n f)
due-restart d past n f false = (tt, tt)

due-shape : (d : DocumentData) (past : List Act) (i : Item) (c : Choice) → ReadersAnswered d past
    → UnbegunUndecided d past
    → (s : Shape d past i) → AreDue d past (acts_by d past i c s)
due-shape d past i c answered none (idle acts is) = due-idle d past acts is
due-shape d past i c answered none (arms n k how is) = (tt, tt)
due-shape d past i c answered none (crashes n up) = (up, tt)
due-shape d past i c answered none (restarts n up) =
    due-restart d past n (flag_at (is_compacting past n) (node d past n).doubt c.finds) c.opens
due-shape d past i c answered none (begins s is new up quiet) = due-outs d past c s.home (begin_outs s.home (participant (view d past s.home)) s (floor_at d past s)) (due-begin d past (next_number past) s is up new quiet (none s.number s is new))
due-shape d past i c answered none (delivers m e is up) = ((e, is, up), acts-due d (act.Got m ∷ past) e.to (next_number past) c.keeps (answer e.to (view d past e.to) e.from e.message) (due-answer d past e.to m (next_number past) e.from e.message answered up is))
due-shape d past i c answered none (again n os up is) = due-outs d past c n os (due-again d past n os answered up is)

-- the acts of an event are due
pub due-row : (d : DocumentData) (past : List Act) (e : Item) (c : Choice) → ReadersAnswered d past
    → UnbegunUndecided d past
    → AreDue d past (row d past e c)
due-row d past e c answered none = by-shape d past e c (AreDue d past) (due-shape d past e c answered none)

due-starts : (d : DocumentData) (past : List Act) (opens : NodeId → Bool) (ns : List NodeId)
    → AreDue d past (map (start_act opens) ns)
due-starts d past opens [] = tt
due-starts d past opens (n ∷ ns) = (first (opens n), due-starts d (start_act opens n ∷ past) opens ns)
  where
    first : (b : Bool) → IsDue d past (if b then act.Up n flag.Untouched else act.StillDown n)
    first true = tt
    first false = tt

-- the acts of the start are due
pub due-start : (d : DocumentData) (nodes : ℕ) (opens : NodeId → Bool) → AreDue d [] (start_row nodes opens)
due-start d nodes opens = due-starts d [] opens (range_with_len 1 nodes)
