-- Each message that a run delivers is fit where it is got.
use Rattle.std.proofs.Common.{◌≡◌, ℕ, true, List, [], ◌∷◌, Option, Some, refl, sym, subst}
use Rattle.std.proofs.lemmas.Bool.{and_from}
use Rattle.score_base.specs.declared.ids.NodeId.{NodeId}
use Rattle.score_base.specs.declared.causes.Ballot.TheVariants as ballot
use Rattle.score_base.specs.declared.causes.Cause.{Cause}
use Rattle.score_base.specs.declared.causes.Cause.TheVariants as cause
use Rattle.score_base.specs.declared.causes.Outcome.TheVariants as outcome
use Rattle.grid_model.specs.declared.acts.Act.{Act}
use Rattle.grid_model.specs.declared.acts.Act.TheVariants as act
use Rattle.grid_model.specs.declared.messages.Envelope.{Envelope}
use Rattle.grid_model.specs.declared.messages.Message.{Message}
use Rattle.grid_model.specs.declared.messages.Message.TheVariants as message
use Rattle.grid_model.specs.Documents.{DocumentData, IsOne}
use Rattle.grid_model.specs.Histories.{after, sent, sent_at}
use Rattle.grid_model.specs.Nodes.{journal, node}
use Rattle.grid_model.specs.Stories.{is_small, is_small_cause, is_small_node, is_fit_ballot}
use Rattle.grid_model.specs.Views.{view, stage, participant}
use Rattle.grid_model.specs.Fitness.{is_fit, is_fit_content, tx_in}
use Rattle.grid_model.specs.Runs.{IsRun}
use Rattle.grid_model.specs.Facts.{DeliveredFit, AllFit, GotIsFit, IsFitAt, cause_ident, message_ident}
use Rattle.grid_laws.proofs.Causes.{AllDue, IsDue}
use Rattle.grid_laws.proofs.RunsDue.{due-run}
use Rattle.grid_laws.proofs.SmallIdents.{IsLow, low-run, small-node, small-sent}
use Rattle.grid_laws.proofs.RequestsFit.{request-fit}
use Rattle.grid_laws.proofs.RepliesFit.{reply-fit}
use Rattle.grid_laws.proofs.PreparesFit.{prepare-fit}
use Rattle.grid_laws.proofs.AnswersFit.{vote-fit, vote-least, ack-fit, commit-fit}

-- the message m of this past goes from x to y and says this
abbrev IsSaid : List Act → ℕ → NodeId → NodeId → Message → Type 0
IsSaid past m x y said = sent_at m (sent past) ≡ Some (record { from = x; to = y; message = said })

small-cause : (why : Cause) → is_small (cause_ident why) ≡ true → is_small_cause why ≡ true
small-cause (cause.Holder u) h = refl
small-cause (cause.Newer k f) h = h

-- what it says is fit at its receiver, where its identifier is small
content-fit : (d : DocumentData) (past : List Act) → IsOne d → AllDue d past → (m : ℕ) (x y : NodeId) (said : Message)
    → IsSaid past m x y said → is_small (message_ident said) ≡ true
    → is_fit_content y (participant (view d past y)) (stage (view d past y) (tx_in said)) x said ≡ true
content-fit d past one due m x y (message.ReadReq q) is small = request-fit d past m x y q one due is small
content-fit d past one due m x y (message.ReadRep q) is small = and_from (is_small q.sid) _ small (reply-fit d past m x y y q due is)
content-fit d past one due m x y (message.Prepare q) is small = prepare-fit d past one due m x y q is small
content-fit d past one due m x y (message.Vote t (ballot.Yes p)) is small = and_from (is_fit_ballot (ballot.Yes p)) _ (and_from (is_small p) _ small (vote-least d past due m x y t p is)) (vote-fit d past due m x y t (ballot.Yes p) is)
content-fit d past one due m x y (message.Vote t (ballot.No why)) is small = and_from (is_small_cause why) _ (small-cause why small) (vote-fit d past due m x y t (ballot.No why) is)
content-fit d past one due m x y (message.Tell t (outcome.Commit f)) is small = and_from (is_small f) _ small (commit-fit d past due m x y t f is)
content-fit d past one due m x y (message.Tell t outcome.Abort) is small = refl
content-fit d past one due m x y (message.Ack t) is small = ack-fit d past due m x y t is
content-fit d past one due m x y (message.Ask t) is small = refl
content-fit d past one due m x y (message.AskPeer t) is small = refl

sent-fit : (d : DocumentData) (past : List Act) → IsOne d → AllDue d past → IsLow past → (m : ℕ) (e : Envelope)
    → sent_at m (sent past) ≡ Some e → is_fit e.to (view d past e.to) e.from e.message ≡ true
sent-fit d past one due low m e is =
    and_from (is_small_node (journal d past e.to) (node d past e.to).next) _
    (small-node d past e.to low)
    (content-fit d past one due m e.from e.to e.message is (small-sent past m e low is))

got-fit : (d : DocumentData) (past : List Act) (a : Act) → IsOne d → AllDue d past → IsLow past → IsDue d past a
    → GotIsFit d a past
got-fit d past (act.Got m) one due low now =
    let P : Option Envelope → Type 0 = λ o. IsFitAt d past o in
    subst P (sym now.1) (sent-fit d past one due low m now.0 now.1)
got-fit d past a one due low now = tt

-- each message that was got in a past whose identifiers are low
past-fit : (d : DocumentData) (past : List Act) → IsOne d → AllDue d past → IsLow past → AllFit d past
past-fit d [] one due low = tt
past-fit d (a ∷ past) one due low = (got-fit d past a one due.1 low.1 due.0, past-fit d past one due.1 low.1)

-- each message that a run delivers is fit where it is got
pub delivered-fit : (d : DocumentData) (h : List Act) → IsOne d → IsRun d d.items h → DeliveredFit d h
delivered-fit d h one run = past-fit d (after [] h) one (due-run d d.items h run) (low-run d d.items h run one.document.events)
