-- Each turn of a desk is the row of its event.
use Rattle.std.proofs.Common.{◌≡◌, ◌==◌, ◌&&◌, nat_eq, Bool, true, false, List, ◌∷◌, Option, ap, sym, subst, refl, arith}
use Rattle.std.proofs.lemmas.Bool.Decides.{nat_tests}
use Rattle.std.specs.List.{IsDistinct}
use Rattle.std.specs.Map.{keys_of}
use Rattle.score_base.specs.declared.ids.TxId.{TxId}
use Rattle.score_base.specs.declared.ids.NodeId.{NodeId}
use Rattle.score_base.specs.declared.ids.Ident.{Ident}
use Rattle.score_base.specs.declared.causes.Ballot.{Ballot}
use Rattle.script_lang.specs.Scripts.{ScriptData}
use Rattle.journal_words.specs.Journals.{undone}
use Rattle.grid_model.specs.declared.events.Event.{Event}
use Rattle.grid_model.specs.declared.events.Event.TheVariants as event
use Rattle.grid_model.specs.declared.messages.Message.{Message}
use Rattle.grid_model.specs.declared.messages.Message.TheVariants as message
use Rattle.grid_model.specs.declared.messages.ReadRep.{ReadRep}
use Rattle.grid_model.specs.Fitness.{is_fit, is_fit_begin, tx_in}
use Rattle.grid_model.specs.declared.acts.Act.TheVariants as act
use Rattle.grid_model.specs.declared.events.Out.TheVariants as out
use Rattle.grid_model.specs.Stories.{is_small}
use Rattle.grid_model.specs.Advances.{advance}
use Rattle.grid_model.specs.Views.{View, Stage, Apart, Reads, Collects, Commits, participant, stage, is_apart}
use Rattle.grid_model.specs.Rows.{answer, message_outs, reply_outs, vote_outs, ack_outs, asked_outs, retry_outs, first_ident, begun_at}
use Rattle.presumed_abort.specs.declared.stands.Stand.{Stand}
use Rattle.presumed_abort.specs.Stands.{standing}
use Rattle.presumed_abort.specs.Turns.{Turn, vote_turn, ack_turn}
use Rattle.presumed_abort.specs.Replies.{begin_turn, reply_turn}
use Rattle.presumed_abort.specs.Retries.{retry_turn, sent_again, told_of}
use Rattle.presumed_abort.specs.Views.{kept, IsDeskOf, IsRow, AreApart, OwnNumbers}
use Rattle.presumed_abort.proofs.DeskSteps.{row-is}
use Rattle.presumed_abort.proofs.Stages.{at-apart}
use Rattle.presumed_abort.proofs.VoteRows.{vote-row, ack-row}
use Rattle.presumed_abort.proofs.VoteSteps.{vote-steps}
use Rattle.presumed_abort.proofs.AckSteps.{ack-steps}
use Rattle.presumed_abort.proofs.ReplySteps.{reply-row, reply-steps, begin-steps}
use Rattle.presumed_abort.proofs.RetrySteps.{retry-row, retry-steps, ask-row, ask-steps}

-- a fit message is answered by its row
fit-answer :
    (n : NodeId) (v : View) (x : NodeId) (said : Message)
    → is_fit n v x said ≡ true
    → message_outs n (participant v) v.held (stage v (tx_in said)) x said ≡ answer n v x said
fit-answer n v x said fit = rw fit refl

-- the turn of what stands at the desk is that of the stage
at-desk :
    (n : NodeId) (v : View) (desk : List (TxId × Stand)) (e : Event) (t : TxId) (turn : Option Stand → Turn)
    → IsDeskOf v desk → IsRow n v desk e t (turn (kept v.cluster t (stage v t)))
    → IsRow n v desk e t (turn (standing desk t))
at-desk n v desk e t turn is row =
    subst (λ (o : Option Stand). IsRow n v desk e t (turn o)) (sym (ap (λ f. f t) is)) row

pub vote-is-row :
    (n : NodeId) (v : View) (desk : List (TxId × Stand)) (x : NodeId) (t : TxId) (b : Ballot)
    → IsDistinct nat_eq (keys_of desk) → IsDeskOf v desk → is_fit n v x (message.Vote t b) ≡ true
    → IsRow n v desk (event.Deliver x (message.Vote t b)) t (vote_turn x b (standing desk t))
vote-is-row n v desk x t b unique is fit =
    at-desk n v desk (event.Deliver x (message.Vote t b)) t (vote_turn x b) is
    (row-is n v desk (event.Deliver x (message.Vote t b)) t _ (vote_outs v.cluster t x b (stage v t)) unique is
    (fit-answer n v x (message.Vote t b) fit) (vote-row v.cluster t x b (stage v t)) (vote-steps n v x t b fit))

pub ack-is-row :
    (n : NodeId) (v : View) (desk : List (TxId × Stand)) (x : NodeId) (t : TxId)
    → IsDistinct nat_eq (keys_of desk) → IsDeskOf v desk → AreApart v → is_fit n v x (message.Ack t) ≡ true
    → IsRow n v desk (event.Deliver x (message.Ack t)) t (ack_turn x (standing desk t))
ack-is-row n v desk x t unique is apart fit =
    at-desk n v desk (event.Deliver x (message.Ack t)) t (ack_turn x) is
    (row-is n v desk (event.Deliver x (message.Ack t)) t _ (ack_outs t x (stage v t)) unique is
    (fit-answer n v x (message.Ack t) fit) (ack-row v.cluster t x (stage v t)) (ack-steps n v x t apart fit))

pub reply-is-row :
    (n : NodeId) (v : View) (desk : List (TxId × Stand)) (x : NodeId) (q : ReadRep)
    → IsDistinct nat_eq (keys_of desk) → IsDeskOf v desk → OwnNumbers v → is_fit n v x (message.ReadRep q) ≡ true
    → IsRow n v desk (event.Deliver x (message.ReadRep q)) q.t (reply_turn v.cluster q (standing desk q.t))
reply-is-row n v desk x q unique is own fit =
    at-desk n v desk (event.Deliver x (message.ReadRep q)) q.t (reply_turn v.cluster q) is
    (row-is n v desk (event.Deliver x (message.ReadRep q)) q.t _ (reply_outs v.cluster q (stage v q.t)) unique is
    (fit-answer n v x (message.ReadRep q) fit) (reply-row v q own) (reply-steps n v x q own))

pub ask-is-row :
    (n : NodeId) (v : View) (desk : List (TxId × Stand)) (x : NodeId) (t : TxId)
    → IsDistinct nat_eq (keys_of desk) → IsDeskOf v desk → is_fit n v x (message.Ask t) ≡ true
    → IsRow n v desk (event.Deliver x (message.Ask t)) t (sent_again (told_of t x (standing desk t)))
ask-is-row n v desk x t unique is fit =
    at-desk n v desk (event.Deliver x (message.Ask t)) t (λ o. sent_again (told_of t x o)) is
    (row-is n v desk (event.Deliver x (message.Ask t)) t _ (asked_outs t x (stage v t)) unique is
    (fit-answer n v x (message.Ask t) fit) (ask-row v.cluster t x (stage v t)) (ask-steps n v x t))

pub retry-is-row :
    (n : NodeId) (v : View) (desk : List (TxId × Stand)) (t : TxId)
    → IsDistinct nat_eq (keys_of desk) → IsDeskOf v desk → OwnNumbers v
    → IsRow n v desk (event.Retry t) t (retry_turn v.cluster (standing desk t))
retry-is-row n v desk t unique is own =
    at-desk n v desk (event.Retry t) t (retry_turn v.cluster) is
    (row-is n v desk (event.Retry t) t _ (retry_outs v.cluster t (stage v t)) unique is
    refl (retry-row v.cluster t (stage v t)) (retry-steps n v t own))

-- what a fit begin says of its transaction: it is neither open nor decided
apart-is : (a b : Bool) (s : Stage) → (a && (b && is_apart s)) ≡ true → s ≡ Apart
apart-is a b (Reads x j) is = absurd (grind (arith, is))
apart-is a b (Collects x) is = absurd (grind (arith, is))
apart-is a b (Commits y acks) is = absurd (grind (arith, is))
apart-is a b Apart is = refl

home-is : (n : NodeId) (v : View) (s : ScriptData) (floor : Ident) → is_fit_begin n v s floor ≡ true → s.home ≡ n
home-is n v s floor fit = go (s.home == n) refl fit
  where
    go : (b : Bool) → (s.home == n) ≡ b → (b && (is_small floor && is_apart (stage v s.number))) ≡ true → s.home ≡ n
    go true at is = grind (arith, nat_tests, at)
    go false at is = absurd (grind (arith, is))

pub begin-is-row :
    (n : NodeId) (v : View) (desk : List (TxId × Stand)) (s : ScriptData) (floor : Ident)
    → IsDistinct nat_eq (keys_of desk) → IsDeskOf v desk → is_fit_begin n v s floor ≡ true
    → IsRow n v desk (event.Begin s floor) s.number (begin_turn v.cluster s (first_ident (participant v) floor))
begin-is-row n v desk s floor unique is fit =
    let sid0 = first_ident (participant v) floor in
    let apart = apart-is (s.home == n) (is_small floor) (stage v s.number) fit in
    let undecided = (at-apart (undone s.number v.journal) (v.desk s.number) (v.acks s.number) apart).undecided in
    row-is n v desk (event.Begin s floor) s.number (begin_turn v.cluster s sid0) (begin_turn v.cluster s sid0).outs
    unique is
    (rw fit
    (ap (λ m. out.Act (act.Began s.number m sid0) ∷ advance v.cluster (begun_at s sid0) 0) (home-is n v s floor fit)))
    refl (begin-steps n v s floor sid0 undecided)
