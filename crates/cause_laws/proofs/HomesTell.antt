-- A home tells outcomes to the parts of its transaction alone, so each row tells them to the two ends.
use Rattle.cause_laws.proofs.Ends.{BothParts, HasEnds, HomeAndPart}
use Rattle.grid_model.proofs.EventShapes.{IsAgain, asks, asks_peer, compacts, retries}
use Rattle.cause_laws.proofs.OutsToEnds.{AreWell, is_well_out, well-acks, well-if, well-prepare, well-prepares, well-read, well-reply, well-request, well-tell, well-to_node}
use Rattle.grid_laws.proofs.Causes.{AllDue}
use Rattle.grid_laws.proofs.DueAnswers.{home-is}
use Rattle.grid_laws.proofs.Frames.{same-number}
use Rattle.grid_laws.proofs.NodesFitActs.{decision-home, nodes-fit, undone-decision}
use Rattle.grid_laws.proofs.Stages.{among-filter, opens-collects, stage-commits}
use Rattle.script_runs.specs.Walks.{op_at}
use Rattle.grid_model.specs.Advances.{parts_now, to_node}
use Rattle.grid_model.specs.Claims.{is_end}
use Rattle.grid_model.specs.Documents.{DocumentData}
use Rattle.grid_model.specs.Facts.{parts_at}
use Rattle.grid_model.specs.Fitness.{is_fit_at, tx_in}
use Rattle.journal_words.specs.Journals.{Decision, ended, home_of, names_part, pending}
use Rattle.grid_model.specs.Nodes.{is_home, journal, node, parts_in, parts_of}
use Rattle.grid_model.specs.Rows.{answer, asked_outs, ballot_outs, decides, full_outs, greatest_vote, have_voted, not_among, not_voted, retry_outs, message_outs, peer_outs, tells, vote_outs}
use Rattle.grid_model.specs.Stories.{has_voted}
use Rattle.grid_model.specs.Views.{Apart, Collects, Commits, Open, Reads, Stage, stage, view, participant}
use Rattle.grid_model.specs.declared.acts.Act.{Act}
use Rattle.grid_model.specs.declared.events.Out.TheVariants as out
use Rattle.grid_model.specs.declared.events.Out.{Out}
use Rattle.grid_model.specs.declared.messages.Message.TheVariants as message
use Rattle.grid_model.specs.declared.messages.Message.{Message}
use Rattle.grid_model.specs.declared.stories.Voted.{Voted}
use Rattle.placement.specs.Places.{is_among, others}
use Rattle.score_base.specs.declared.causes.Ballot.TheVariants as ballot
use Rattle.score_base.specs.declared.causes.Ballot.{Ballot}
use Rattle.score_base.specs.declared.causes.Outcome.TheVariants as outcome
use Rattle.score_base.specs.declared.causes.Outcome.{Outcome}
use Rattle.score_base.specs.declared.ids.NodeId.{NodeId}
use Rattle.score_base.specs.declared.ids.TxId.{TxId}
use Rattle.std.proofs.Common.{Bool, List, None, Option, Some, [], ap, refl, subst, sym, true, ◌++◌, ◌∙◌, ◌∷◌, ◌≡◌}
use Rattle.std.proofs.lemmas.Bool.{and_from, or_left, or_right}
use Rattle.std.specs.List.{list_all}
use Rattle.std.specs.Prelude.{filter, is_some, not, ◌&&◌, ◌==◌}

-- n is the home of t, and each of these nodes is a part
record TellsParts (d : DocumentData) (n : NodeId) (t : TxId) (ns : List NodeId) : Type 0 where
  home : is_home d t n ≡ true
  parts : (y : NodeId) → is_among y ns ≡ true → is_among y (parts_at d t) ≡ true

well-tells : (d : DocumentData) (n : NodeId) (t : TxId) (o : Outcome) (ns : List NodeId) → TellsParts d n t ns
    → AreWell d n (tells t o ns)
well-tells d n t o [] h = refl
well-tells d n t o (y ∷ ns) h =
    and_from (is_end d t n && is_end d t y) (list_all (is_well_out d n) (tells t o ns))
    (and_from (is_end d t n) (is_end d t y) (or_left (is_home d t n) (is_among n (parts_at d t)) h.home) (or_right (is_home d t y) (is_among y (parts_at d t)) (h.parts y (or_left (y == y) (is_among y ns) (same-number y)))))
    (well-tells d n t o ns (record { home = h.home; parts = λ z e. h.parts z (or_right (y == z) (is_among z ns) e) }))

fewer : (d : DocumentData) (n : NodeId) (t : TxId) (p : NodeId → Bool) (ns : List NodeId) → TellsParts d n t ns
    → TellsParts d n t (filter p ns)
fewer d n t p ns h = record { home = h.home; parts = λ y e. h.parts y (among-filter p ns y e) }

open-parts : (d : DocumentData) (past : List Act) (n : NodeId) (t : TxId) (x : Open)
    → stage (view d past n) t ≡ Collects x → TellsParts d n t (parts_now d.cluster x)
open-parts d past n t x e =
    let h = opens-collects d past n t x e in
    let is : parts_now d.cluster x ≡ parts_of d h.script = ap (parts_now d.cluster) h.is in
    let at : parts_at d t ≡ parts_of d h.script = ap (parts_in d) h.at.script in
    record { home = home-is d t n h.script h.at.script h.at.home; parts = λ y i. let P : List NodeId → Type 0 = λ ns. is_among y ns ≡ true in subst P (is ∙ sym at) i }

decided-parts : (d : DocumentData) (past : List Act) (n : NodeId) (t : TxId) (y : Decision) (acks : List NodeId)
    → AllDue d past → stage (view d past n) t ≡ Commits y acks → TellsParts d n t y.parts
decided-parts d past n t y acks all e =
    let here = decision-home d n t y (node d past n).journal (nodes-fit d past all n).homes (undone-decision t y (node d past n).journal (stage-commits d past n t y acks e)) in
    record { home = here.home; parts = λ z i. let P : List NodeId → Type 0 = λ ns. is_among z ns ≡ true in subst P here.parts i }

well-full : (d : DocumentData) (n : NodeId) (t : TxId) (ns : List NodeId) (votes : List Voted) → TellsParts d n t ns
    → AreWell d n (full_outs t ns votes)
well-full d n t ns votes h = well-if d n (have_voted ns votes) (decides t (greatest_vote votes) ns) [] (well-tells d n t (outcome.Commit (greatest_vote votes)) ns h) refl

well-ballot : (d : DocumentData) (n : NodeId) (t : TxId) (ns : List NodeId) (vs : List Voted) (x : NodeId) (b : Ballot)
    → TellsParts d n t ns → AreWell d n (ballot_outs t ns vs x b)
well-ballot d n t ns vs x (ballot.Yes p) h = well-full d n t ns (vs ++ record { from = x; p = p } ∷ []) h
well-ballot d n t ns vs x (ballot.No why) h = well-tells d n t outcome.Abort (others x ns) (fewer d n t (λ m. not (m == x)) ns h)

well-vote : (d : DocumentData) (past : List Act) (n : NodeId) (t : TxId) (x : NodeId) (b : Ballot) (g : Stage)
    → stage (view d past n) t ≡ g → AreWell d n (vote_outs d.cluster t x b g)
well-vote d past n t x b (Collects o) e = well-if d n (has_voted x o.progress.votes) [] (ballot_outs t (parts_now d.cluster o) o.progress.votes x b) refl (well-ballot d n t (parts_now d.cluster o) o.progress.votes x b (open-parts d past n t o e))
well-vote d past n t x b w e = refl

well-asked : (d : DocumentData) (n : NodeId) (t : TxId) (x : NodeId) (g : Stage) → HomeAndPart d t n x
    → AreWell d n (asked_outs t x g)
well-asked d n t x g h = go g
  where
    both : (is_end d t n && is_end d t x) ≡ true
    both = and_from (is_end d t n) (is_end d t x) (or_left (is_home d t n) (is_among n (parts_at d t)) h.home) (or_right (is_home d t x) (is_among x (parts_at d t)) h.part)

    go : (g : Stage) → AreWell d n (asked_outs t x g)
    go (Reads o j) = refl
    go (Collects o) = refl
    go (Commits y acks) = and_from (is_end d t n && is_end d t x) true both refl
    go Apart = and_from (is_end d t n && is_end d t x) true both refl

well-peer : (d : DocumentData) (n : NodeId) (t : TxId) (x : NodeId) (o : Option Outcome) → BothParts d t x n
    → AreWell d n (peer_outs t x o)
well-peer d n t x None h = refl
well-peer d n t x (Some o) h =
    and_from (is_end d t n && is_end d t x) true
    (and_from (is_end d t n) (is_end d t x) (or_right (is_home d t n) (is_among n (parts_at d t)) h.asked) (or_right (is_home d t x) (is_among x (parts_at d t)) h.asker)) refl

-- ---- each row

well-row_of : (d : DocumentData) (past : List Act) (n x : NodeId) (said : Message) → HasEnds d x n said → AreWell d n
    (message_outs n (participant (view d past n)) (view d past n).held (stage (view d past n) (tx_in said)) x said)
well-row_of d past n x (message.ReadReq q) h = well-read d n (view d past n) x q _
well-row_of d past n x (message.ReadRep q) h = well-reply d n q _
well-row_of d past n x (message.Prepare q) h = well-prepare d n x q.t _ _ _ _ _
well-row_of d past n x (message.Vote t b) h = well-vote d past n t x b _ refl
well-row_of d past n x (message.Tell t o) h = well-tell d n (view d past n) t o
well-row_of d past n x (message.Ack t) h = well-acks d n t x _
well-row_of d past n x (message.Ask t) h = well-asked d n t x _ h
well-row_of d past n x (message.AskPeer t) h = well-peer d n t x (ended t (journal d past n)) h

pub well-answer : (d : DocumentData) (past : List Act) (n x : NodeId) (said : Message) → HasEnds d x n said
    → AreWell d n (answer n (view d past n) x said)
well-answer d past n x said h = well-if d n (is_fit_at n (participant (view d past n)) (stage (view d past n) (tx_in said)) x said) _ [] (well-row_of d past n x said h) refl

well-retry : (d : DocumentData) (past : List Act) (n : NodeId) (t : TxId) (g : Stage) → AllDue d past
    → stage (view d past n) t ≡ g → AreWell d n (retry_outs d.cluster t g)
well-retry d past n t (Reads x j) all e = well-request d n x j x.progress.turn (op_at x.script.ops j)
well-retry d past n t (Collects x) all e = well-prepares d n x (not_voted (parts_now d.cluster x) x.progress.votes)
well-retry d past n t (Commits y acks) all e = well-tells d n t (outcome.Commit y.final) (not_among y.parts acks) (fewer d n t (λ n. not (is_among n acks)) y.parts (decided-parts d past n t y acks all e))
well-retry d past n t Apart all e = refl

pub well-again : (d : DocumentData) (past : List Act) (n : NodeId) (os : List Out) → AllDue d past → IsAgain d past n os
    → AreWell d n os
well-again d past n os all (retries t e) = rw e (well-retry d past n t (stage (view d past n) t) all refl)
well-again d past n os all (asks t e) = rw e (well-if d n (is_some (pending t (journal d past n))) (to_node (home_of t (journal d past n)) (message.Ask t)) [] (well-to_node d n (home_of t (journal d past n)) (message.Ask t) (λ y. refl)) refl)
well-again d past n os all (asks_peer t m e) = rw e (well-if d n (is_some (pending t (journal d past n)) && names_part t m (journal d past n)) (out.Send m (message.AskPeer t) ∷ []) [] refl refl)
well-again d past n os all (compacts e) = rw e refl
