-- Only the home of a transaction and the holders of its keys send and get its messages.
use Rattle.cause_laws.proofs.Ends.{HasEnds, HomeAndPart, ends-due}
use Rattle.cause_laws.proofs.Outcomes.{run-well}
use Rattle.cause_laws.proofs.OutsToEnds.{is_told_well, is_well_act}
use Rattle.grid_laws.proofs.EachActs.{each-timed}
use Rattle.grid_laws.proofs.Causes.{AllDue, IsDue}
use Rattle.grid_laws.proofs.RunsDue.{due-run}
use Rattle.journal_words.proofs.TwoNodes.{a, b}
use Rattle.grid_model.specs.Acts.{EachAct}
use Rattle.grid_model.specs.Claims.{Genuine, IsGenuineAct, is_end}
use Rattle.grid_model.specs.Documents.{DocumentData, IsOne}
use Rattle.grid_model.specs.Facts.{parts_at}
use Rattle.grid_model.specs.Histories.{after}
use Rattle.grid_model.specs.Nodes.{is_home}
use Rattle.grid_model.specs.Runs.{IsRun}
use Rattle.grid_model.specs.declared.acts.Act.TheVariants as act
use Rattle.grid_model.specs.declared.acts.Act.{Act}
use Rattle.grid_model.specs.declared.messages.Message.TheVariants as message
use Rattle.grid_model.specs.declared.messages.Message.{Message}
use Rattle.placement.specs.Places.{is_among}
use Rattle.score_base.specs.declared.ids.NodeId.{NodeId}
use Rattle.score_base.specs.declared.ids.TxId.{TxId}
use Rattle.std.proofs.Common.{List, [], true, ℕ, ◌∷◌, ◌≡◌}
use Rattle.std.proofs.lemmas.Bool.{and_from, and_parts, or_left, or_right}
use Rattle.std.specs.List.{list_all}
use Rattle.std.specs.Prelude.{IsTrue, ◌&&◌}

home-end : (d : DocumentData) (t : TxId) (x y : NodeId) → HomeAndPart d t x y → IsTrue (is_end d t x && is_end d t y)
home-end d t x y h = and_from (is_end d t x) (is_end d t y) (or_left (is_home d t x) (is_among x (parts_at d t)) h.home) (or_right (is_home d t y) (is_among y (parts_at d t)) h.part)

part-end : (d : DocumentData) (t : TxId) (x y : NodeId) → HomeAndPart d t y x → IsTrue (is_end d t x && is_end d t y)
part-end d t x y h = and_from (is_end d t x) (is_end d t y) (or_right (is_home d t x) (is_among x (parts_at d t)) h.part) (or_left (is_home d t y) (is_among y (parts_at d t)) h.home)

genuine-sent : (d : DocumentData) (m : ℕ) (x y : NodeId) (said : Message) → HasEnds d x y said
    → is_told_well d x y said ≡ true → IsGenuineAct d (act.Sent m x y said)
genuine-sent d m x y (message.ReadReq q) h well = home-end d q.t x y h
genuine-sent d m x y (message.ReadRep q) h well = part-end d q.t x y h
genuine-sent d m x y (message.Prepare q) h well = home-end d q.t x y h
genuine-sent d m x y (message.Vote t b) h well = part-end d t x y h
genuine-sent d m x y (message.Tell t o) h well = well
genuine-sent d m x y (message.Ack t) h well = part-end d t x y h
genuine-sent d m x y (message.Ask t) h well = part-end d t x y h
genuine-sent d m x y (message.AskPeer t) h well = and_from (is_end d t x) (is_end d t y) (or_right (is_home d t x) (is_among x (parts_at d t)) h.asker) (or_right (is_home d t y) (is_among y (parts_at d t)) h.asked)

genuine-act : (d : DocumentData) (past : List Act) (a : Act) → IsOne d → AllDue d past → IsDue d past a
    → is_well_act d a ≡ true → IsGenuineAct d a
genuine-act d past (act.Sent m x y said) one all due well = genuine-sent d m x y said (ends-due d past x y said one all due) well
genuine-act d past a one all due well = tt

-- each act of a past whose outcomes have both ends
genuine-past : (d : DocumentData) (past : List Act) → IsOne d → AllDue d past → list_all (is_well_act d) past ≡ true
    → EachAct (IsGenuineAct d) past
genuine-past d [] one due well = tt
genuine-past d (a ∷ past) one due well = let both = and_parts (is_well_act d a) (list_all (is_well_act d) past) well in (genuine-act d past a one due.1 due.0 both.0, genuine-past d past one due.1 both.1)

-- each message of a run
pub genuine : (d : DocumentData) (h : List Act) → IsOne d → IsRun d d.items h → Genuine d h
genuine d h one run = each-timed (IsGenuineAct d) [] h (genuine-past d (after [] h) one (due-run d d.items h run) (run-well d h one run))
