use Rattle.std.proofs.Common.{◌≡◌, ◌∷◌, Some, refl, sym, ap, subst, ◌∙◌}
use Rattle.journal_records.specs.Records.{CanEncode}
use Rattle.journal_words.specs.Journals.{learnt}
use Rattle.grid_model.specs.Rows.{prepare_outs}
use Rattle.grid_store.specs.Given.{participant_in}
use Rattle.prepare_vote.specs.declared.judges.Judged.TheVariants.{Yes}
use Rattle.prepare_vote.specs.Votes.{judge_outs, vote_outs, IfYes, IsDue}
use Rattle.prepare_vote.proofs.Fit.{vote-encodes}
use Rattle.node_core.specs.Steps.{IsAppended}
use Rattle.node_core.proofs.Afterwards.{appended, then-cut}
use Rattle.node_core.proofs.Rows.{put-none}
use Rattle.node_core.proofs.VoteRows.{can-judge, judged-played, vote-record}
use Rattle.node_core.proofs.prepares.play_prepare.Goals as goal

pub judge-requires : goal.judge-requires
judge-requires g c = can-judge c.args.store.now c.args.q.now c.requires.small c.requires.fit

pub append-requires-clause-fit : goal.append-requires-clause-fit
append-requires-clause-fit g c =
    let s = c.args.store.now in
    let q = c.args.q.now in
    let due : IsDue c.judge.new.store c.args.from q c.in-Yes.due c.in-Yes.rec =
    subst (λ j. IfYes j (IsDue c.judge.new.store c.args.from q)) c.in-Yes.is c.in-Ok-judge.ensures.yes in
    subst CanEncode (sym due.is) (vote-encodes s.cluster s.node c.args.from q c.in-Yes.due.p c.requires.fit)

pub returns-in-Ok-append : goal.returns-in-Ok-append
returns-in-Ok-append g c = λ hs.
    let s = c.args.store.now in
    let q = c.args.q.now in
    let x = c.args.from in
    let due : IsDue c.judge.new.store x q c.in-Yes.due c.in-Yes.rec =
    subst (λ j. IfYes j (IsDue c.judge.new.store x q)) c.in-Yes.is c.in-Ok-judge.ensures.yes in
    let row : judge_outs s.node x q.t (Yes c.in-Yes.due c.in-Yes.rec) ≡ prepare_outs s.node (participant_in s) x q =
    subst (λ j. judge_outs s.node x q.t j ≡ prepare_outs s.node (participant_in s) x q) c.in-Yes.is c.in-Ok-judge.ensures.row in
    let room = c.room_for.ensures.pair in
    let written : IsAppended c.in-Yes.rec c.args.pair c.in-Ok-append.pair =
    appended c.in-Yes.rec c.args.pair c.room_for.new.pair c.in-Ok-append.pair room c.in-Ok-append.ensures.list
    c.in-Ok-append.ensures.appended c.in-Ok-append.ensures.spent c.in-Ok-append.ensures.other c.in-Ok-append.ensures.live
    c.in-Ok-append.ensures.number in
    let same = c.in-Ok-judge.ensures.same in
    let kept = c.in-Ok-append.ensures.kept in
    judged-played s hs c.args.pair c.in-Ok-append.pair x q c.vote-vote.new.store c.put_vote.new.outs.items
    (Yes c.in-Yes.due c.in-Yes.rec) c.requires.small c.requires.fit row (due.home, due.is)
    (put-none c.put_vote.new.outs.items c.in-Ok.outs.items _ _ c.put_vote.ensures.outs
    c.in-Ok.ensures.none
    (ap (λ n. vote_outs n q.t c.vote-vote.result) c.node-n.ensures
    ∙ ap (λ v. vote_outs s.node q.t v) c.vote-vote.ensures.vote))
    (c.vote-vote.ensures.node ∙ same.node) (c.vote-vote.ensures.cluster ∙ same.cluster)
    (c.vote-vote.ensures.journal ∙ ap (λ y. y ∷ c.judge.new.store.journal) kept
    ∙ ap (λ r. c.in-Yes.rec ∷ r) same.journal)
    (c.vote-vote.ensures.next ∙ ap (λ y. learnt (Some y) c.judge.new.store.next) kept
    ∙ ap (λ n. learnt (Some c.in-Yes.rec) n) same.next)
    written

pub returns-in-Err-append : goal.returns-in-Err-append
returns-in-Err-append g c = λ hs.
    let s = c.args.store.now in
    let q = c.args.q.now in
    let x = c.args.from in
    let due : IsDue c.judge.new.store x q c.in-Yes.due c.in-Yes.rec =
    subst (λ j. IfYes j (IsDue c.judge.new.store x q)) c.in-Yes.is c.in-Ok-judge.ensures.yes in
    let row : judge_outs s.node x q.t (Yes c.in-Yes.due c.in-Yes.rec) ≡ prepare_outs s.node (participant_in s) x q =
    subst (λ j. judge_outs s.node x q.t j ≡ prepare_outs s.node (participant_in s) x q) c.in-Yes.is c.in-Ok-judge.ensures.row in
    let room = c.room_for.ensures.pair in
    let first = c.in-Err-append.stopped.first in
    let second = c.in-Err-append.stopped.second in
    record {
      rec = c.in-Yes.rec;
      head = c.head_of-head.ensures;
      row = vote-record s hs x q c.in-Yes.due c.in-Yes.rec c.requires.small c.requires.fit row (due.home, due.is);
      disks = then-cut c.in-Yes.rec c.args.pair c.room_for.new.pair first second room (record {
        images = c.in-Err-append.ensures.stopped;
        early = c.in-Err-append.ensures.early;
        version = c.in-Err-append.ensures.version;
        other = c.in-Err-append.ensures.other_kept;
        halted = c.in-Err-append.ensures.halted;
      });
      store = c.in-Ok-judge.ensures.same;
      held = refl;
    }
