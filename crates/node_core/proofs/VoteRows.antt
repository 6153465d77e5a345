-- A Prepare that is played on the parts of a node is its row.
use Rattle.std.proofs.Common.{◌≡◌, true, List, ◌∷◌, Option, Some, refl, sym, ap, subst, ◌∙◌, arith}
use Rattle.std.proofs.lemmas.Bool.{and_from}
use Rattle.std.proofs.lemmas.Bool.Decides.{nat_tests}
use Rattle.score_base.specs.declared.ids.TxId.{TxId}
use Rattle.score_base.specs.declared.ids.NodeId.{NodeId}
use Rattle.score_base.specs.declared.records.Record.{Record}
use Rattle.score_disk.specs.declared.disk.Disk.{Ghosts}
use Rattle.journal_words.specs.Journals.{learnt}
use Rattle.journal_words.specs.Participants.{written}
use Rattle.node_journal.specs.declared.pair.Pair.{Pair}
use Rattle.grid_model.specs.declared.events.Event.{Event}
use Rattle.grid_model.specs.declared.events.Event.TheVariants as event
use Rattle.grid_model.specs.declared.events.Out.{Out}
use Rattle.grid_model.specs.declared.messages.Message.TheVariants as message
use Rattle.grid_model.specs.declared.messages.Prepare.{Prepare}
use Rattle.grid_model.specs.declared.stories.HeldRead.{HeldRead}
use Rattle.grid_model.specs.Fitness.{is_fit_at, is_fit_prepare}
use Rattle.grid_model.specs.Stories.{is_small_node}
use Rattle.grid_model.specs.NextViews.{next_view}
use Rattle.grid_model.specs.Rows.{outs_of, prepare_outs}
use Rattle.grid_model.specs.Views.{View, Open, Stage}
use Rattle.grid_store.specs.Given.{Given, participant_in}
use Rattle.prepare_vote.specs.declared.dues.Due.{Due}
use Rattle.prepare_vote.specs.declared.judges.Judged.{Judged}
use Rattle.prepare_vote.specs.declared.judges.Judged.TheVariants.{Done, Again, No, Yes}
use Rattle.prepare_vote.specs.Votes.{judge_outs, record_in, vote_record, CanJudge, IfYes, IsDue}
use Rattle.snapshot_read.specs.Views.{view_with}
use Rattle.node_core.specs.Steps.{IsWritten}
use Rattle.node_core.specs.Plays.{IsViewOf, IsRowAt, IsRecordAt, HasPlayed}
use Rattle.node_core.proofs.Rows.{view-of, fit-row, row-at, record-at}

-- the event of a Prepare
abbrev prepare_at : NodeId → Prepare → Event
prepare_at x q = event.Deliver x (message.Prepare q)

-- the record of a yes that is due is that of the vote
abbrev IsVoteOf : NodeId → Prepare → Due → Record → Type 0
IsVoteOf x q due y = (due.home ≡ x) × (y ≡ vote_record x q due.p)

pub vote-of : (s : Given) (x : NodeId) (q : Prepare) (j : Judged) → IfYes j (IsDue s x q) → IfYes j (IsVoteOf x q)
vote-of s x q Done is = is
vote-of s x q (Again p) is = is
vote-of s x q (No why) is = is
vote-of s x q (Yes due y) is = (is.home, is.is)

-- a fit Prepare can be judged
pub can-judge : (s : Given) (q : Prepare) → is_small_node s.journal s.next ≡ true
    → is_fit_prepare s.cluster s.node q ≡ true → CanJudge s q
can-judge s q small fit =
    record {
      sid = grind (arith, nat_tests, fit);
      next = grind (arith, nat_tests, small);
      part = grind (arith, nat_tests, fit);
      lists = grind (arith, nat_tests, fit);
    }

prepare-fits : (s : Given) (x : NodeId) (q : Prepare) → is_small_node s.journal s.next ≡ true
    → is_fit_prepare s.cluster s.node q ≡ true → (stand : Stage)
    → is_fit_at s.node (participant_in s) stand x (message.Prepare q) ≡ true
prepare-fits s x q small fit stand =
    and_from (is_small_node s.journal s.next) (is_fit_prepare s.cluster s.node q) small fit

pub prepare-row : (s : Given) (hs : List HeldRead) (x : NodeId) (q : Prepare) → is_small_node s.journal s.next ≡ true
    → is_fit_prepare s.cluster s.node q ≡ true → (v : View) → IsViewOf s hs v
    → prepare_outs s.node (participant_in s) x q ≡ outs_of s.node v (prepare_at x q)
prepare-row s hs x q small fit v is = sym (fit-row s hs x (message.Prepare q) v is (prepare-fits s x q small fit))

-- what the next view has behind an answer
record HasVoted (s : Given) (hs : List HeldRead) (y : Option Record) (w : View) : Type 0 where
  pub cluster : w.cluster ≡ s.cluster
  pub journal : w.journal ≡ written y s.journal
  pub next : w.next ≡ learnt y s.next
  pub held : w.held ≡ hs

judged-view : (s : Given) (hs : List HeldRead) (x : NodeId) (q : Prepare) (j : Judged)
    (desk : TxId → Option Open) (acks : TxId → List NodeId) → IfYes j (IsVoteOf x q)
    → HasVoted s hs (record_in j) (next_view s.node (view_with s hs desk acks) (prepare_at x q) (judge_outs s.node x q.t j))
judged-view s hs x q Done desk acks is = record { cluster = refl; journal = refl; next = refl; held = refl }
judged-view s hs x q (Again p) desk acks is = record { cluster = refl; journal = refl; next = refl; held = refl }
judged-view s hs x q (No why) desk acks is = record { cluster = refl; journal = refl; next = refl; held = refl }
judged-view s hs x q (Yes due y) desk acks is =
    record {
      cluster = refl;
      journal = ap (λ z. z ∷ s.journal) (sym is.1);
      next = ap (λ z. learnt (Some z) s.next) (sym is.1);
      held = refl;
    }

pub judged-at : (s : Given) (hs : List HeldRead) (x : NodeId) (q : Prepare) (j : Judged) (outs : List Out) (s' : Given)
    → is_small_node s.journal s.next ≡ true → is_fit_prepare s.cluster s.node q ≡ true
    → judge_outs s.node x q.t j ≡ prepare_outs s.node (participant_in s) x q → IfYes j (IsVoteOf x q)
    → outs ≡ judge_outs s.node x q.t j
    → s'.node ≡ s.node → s'.cluster ≡ s.cluster → s'.journal ≡ written (record_in j) s.journal
    → s'.next ≡ learnt (record_in j) s.next → IsRowAt s hs (prepare_at x q) outs s' hs
judged-at s hs x q j outs s' small fit row votes is node cluster journal next =
    row-at s hs (prepare_at x q) outs s' hs node cluster
    (λ v at. is ∙ row ∙ prepare-row s hs x q small fit v at)
    (λ desk acks.
    let has = judged-view s hs x q j desk acks votes in
    subst (λ os. IsViewOf s' hs (next_view s.node (view_with s hs desk acks) (prepare_at x q) os)) (sym is)
    (view-of s' hs _ (has.cluster ∙ sym cluster) (has.journal ∙ sym journal) (has.next ∙ sym next) has.held))

pub vote-record : (s : Given) (hs : List HeldRead) (x : NodeId) (q : Prepare) (due : Due) (y : Record)
    → is_small_node s.journal s.next ≡ true → is_fit_prepare s.cluster s.node q ≡ true
    → judge_outs s.node x q.t (Yes due y) ≡ prepare_outs s.node (participant_in s) x q → IsVoteOf x q due y
    → IsRecordAt s hs (prepare_at x q) y
vote-record s hs x q due y small fit row votes =
    record-at s hs (prepare_at x q) y (judge_outs s.node x q.t (Yes due y))
    (λ v at. row ∙ prepare-row s hs x q small fit v at)
    (λ desk acks. (judged-view s hs x q (Yes due y) desk acks votes).journal)

module _ {D : Type 0} {g : Ghosts D} where
  pub judged-played : (s : Given) (hs : List HeldRead) (p m : Pair D g) (x : NodeId) (q : Prepare) (s' : Given)
      (outs : List Out) (j : Judged)
      → is_small_node s.journal s.next ≡ true → is_fit_prepare s.cluster s.node q ≡ true
      → judge_outs s.node x q.t j ≡ prepare_outs s.node (participant_in s) x q → IfYes j (IsVoteOf x q)
      → outs ≡ judge_outs s.node x q.t j
      → s'.node ≡ s.node → s'.cluster ≡ s.cluster → s'.journal ≡ written (record_in j) s.journal
      → s'.next ≡ learnt (record_in j) s.next → IsWritten (record_in j) p m
      → HasPlayed s hs p (prepare_at x q) s' hs m outs
  judged-played s hs p m x q s' outs j small fit row votes is node cluster journal next disks =
      record {
        row = judged-at s hs x q j outs s' small fit row votes is node cluster journal next;
        rec = record_in j;
        journal = journal;
        disks = disks;
      }
