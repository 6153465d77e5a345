-- What a node asks of its store and of its desk is what fitness asks of each view that it shows.
use Rattle.std.proofs.Common.{◌≡◌, ◌==◌, ◌&&◌, Bool, not, List, sym, ap, ◌∙◌}
use Rattle.score_base.specs.declared.ids.TxId.{TxId}
use Rattle.score_base.specs.declared.ids.NodeId.{NodeId}
use Rattle.score_base.specs.declared.ids.Ident.{Ident}
use Rattle.score_base.specs.declared.causes.Ballot.{Ballot}
use Rattle.score_base.specs.declared.causes.Outcome.{Outcome}
use Rattle.script_lang.specs.Scripts.{ScriptData}
use Rattle.journal_words.specs.Journals.{pending}
use Rattle.journal_words.specs.Participants.{Participant}
use Rattle.grid_model.specs.declared.messages.Message.{Message}
use Rattle.grid_model.specs.declared.messages.Message.TheVariants as message
use Rattle.grid_model.specs.declared.messages.Prepare.{Prepare}
use Rattle.grid_model.specs.declared.messages.ReadReq.{ReadReq}
use Rattle.grid_model.specs.declared.messages.ReadRep.{ReadRep}
use Rattle.grid_model.specs.declared.stories.HeldRead.{HeldRead}
use Rattle.grid_model.specs.Stories.{is_small, is_small_node, is_fit_ballot}
use Rattle.grid_model.specs.Fitness.{is_fit_request, is_fit_prepare, is_fit_outcome, is_same_ident, is_fit_content, is_fit, is_fit_begin, tx_in}
use Rattle.grid_model.specs.Views.{View, participant, stage}
use Rattle.grid_store.specs.Given.{Given, participant_in}
use Rattle.presumed_abort.specs.declared.stands.Stand.{Stand}
use Rattle.presumed_abort.specs.Stands.{standing, is_here}
use Rattle.presumed_abort.specs.Replays.{snapshot_of, is_stranger}
use Rattle.presumed_abort.proofs.FitReaders.{part-at, fit-reply, begin-at}
use Rattle.node_core.specs.Shows.{Shows}

-- the content of a message is fit on each view that is shown
abbrev pub IsContentOf : Given → List HeldRead → List (TxId × Stand) → NodeId → Message → Bool → Type 0
IsContentOf s hs desk from said fit =
    (v : View) → Shows s hs desk v → fit ≡ is_fit_content s.node (participant v) (stage v (tx_in said)) from said

module _ (s : Given) (hs : List HeldRead) (desk : List (TxId × Stand)) (from : NodeId) where
  -- what is asked of a participant alone
  of-participant : (v : View) → Shows s hs desk v → participant_in s ≡ participant v
  of-participant v shows = ap participant (sym shows.is)

  cluster-is : (v : View) → Shows s hs desk v → v.cluster ≡ s.cluster
  cluster-is v shows = ap (λ (w : View). w.cluster) shows.is

  pub request-fit : (q : ReadReq) → IsContentOf s hs desk from (message.ReadReq q) (is_fit_request s.cluster s.node q)
  request-fit q v shows = ap (λ c. is_fit_request c s.node q) (sym (cluster-is v shows))

  pub prepare-fit : (q : Prepare) → IsContentOf s hs desk from (message.Prepare q) (is_fit_prepare s.cluster s.node q)
  prepare-fit q v shows = ap (λ c. is_fit_prepare c s.node q) (sym (cluster-is v shows))

  pub tell-fit : (t : TxId) (o : Outcome)
      → IsContentOf s hs desk from (message.Tell t o) (is_fit_outcome (pending t s.journal) o)
  tell-fit t o v shows =
      ap (λ j. is_fit_outcome (pending t j) o) (sym (ap (λ (w : View). w.journal) shows.is))

  pub reply-fit : (q : ReadRep)
      → IsContentOf s hs desk from (message.ReadRep q)
      (is_small q.sid && is_same_ident q.sid (snapshot_of q.op (standing desk q.t)))
  reply-fit q v shows =
      ap (λ z. is_small q.sid && z)
      (ap (λ f. is_same_ident q.sid (snapshot_of q.op (f q.t))) shows.desk_is
      ∙ sym (fit-reply v.cluster q (stage v q.t)))

  part-fit : (t : TxId) (v : View) → Shows s hs desk v
      → not (is_stranger from (standing desk t)) ≡ is_fit_content s.node (participant v) (stage v t) from (message.Ack t)
  part-fit t v shows =
      ap (λ f. not (is_stranger from (f t))) shows.desk_is ∙ sym (part-at v.cluster t from (stage v t))

  pub ack-fit : (t : TxId) → IsContentOf s hs desk from (message.Ack t) (not (is_stranger from (standing desk t)))
  ack-fit t v shows = part-fit t v shows

  pub vote-fit : (t : TxId) (b : Ballot)
      → IsContentOf s hs desk from (message.Vote t b) (is_fit_ballot b && not (is_stranger from (standing desk t)))
  vote-fit t b v shows = ap (λ z. is_fit_ballot b && z) (part-fit t v shows)

  -- the whole message
  pub message-fit : (said : Message) (small fit : Bool) → small ≡ is_small_node s.journal s.next
      → IsContentOf s hs desk from said fit
      → (v : View) → Shows s hs desk v → (small && fit) ≡ is_fit s.node v from said
  message-fit said small fit is content v shows =
      ap (λ z. z && fit) (is ∙ ap (λ (w : Participant). is_small_node w.journal w.next) (of-participant v shows))
      ∙ ap (λ z. is_small_node v.journal v.next && z) (content v shows)

-- a begin
pub begin-fit : (s : Given) (hs : List HeldRead) (desk : List (TxId × Stand)) (script : ScriptData) (floor : Ident)
    → (v : View) → Shows s hs desk v
    → ((script.home == s.node) && (is_small floor && not (is_here (standing desk script.number))))
    ≡ is_fit_begin s.node v script floor
begin-fit s hs desk script floor v shows =
    ap (λ z. (script.home == s.node) && (is_small floor && z))
    (ap (λ f. not (is_here (f script.number))) shows.desk_is
    ∙ sym (begin-at v.cluster script.number (stage v script.number)))
