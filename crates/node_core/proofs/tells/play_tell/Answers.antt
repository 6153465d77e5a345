use Rattle.std.proofs.Common.{◌≡◌, ◌∷◌, true, Some, refl, sym, ap, subst, ◌∙◌}
use Rattle.std.specs.Prelude.{is_some}
use Rattle.score_base.specs.declared.records.Record.TheVariants as record'
use Rattle.journal_words.specs.Journals.{pending, learnt}
use Rattle.grid_model.specs.declared.events.Event.TheVariants as event
use Rattle.grid_model.specs.declared.messages.Message.TheVariants as message
use Rattle.grid_model.specs.Rows.{end_outs}
use Rattle.grid_store.specs.Given.{participant_in}
use Rattle.ordered_commit.specs.Ends.{acked, is_due, learn_outs, settle_outs, IfDue, IsDue}
use Rattle.node_core.specs.Steps.{IsAppended}
use Rattle.node_core.specs.Plays.{IsRecordAt, IsReleased}
use Rattle.node_core.proofs.Afterwards.{appended, then-cut}
use Rattle.node_core.proofs.Rows.{put-none}
use Rattle.node_core.proofs.EndRows.{due-played, due-record}
use Rattle.node_core.proofs.tells.play_tell.Goals as goal

pub returns-in-Ok-append : goal.returns-in-Ok-append
returns-in-Ok-append g c =
    let s = c.args.store.now in
    let hs = c.args.waiting.now.reads in
    let x = c.args.from in
    let t = c.args.t in
    let o = c.args.outcome.now in
    let home = acked c.in-Due.due in
    let due : IsDue c.learn.new.store t o c.in-Due.due c.in-Due.rec =
    subst (λ l. IfDue l (IsDue c.learn.new.store t o)) c.in-Due.is c.in-Ok-learn.ensures.end in
    let row : settle_outs s.node t o home ≡ end_outs s.node (participant_in s) t o =
    subst (λ l. learn_outs s.node t o l ≡ end_outs s.node (participant_in s) t o) c.in-Due.is c.in-Ok-learn.ensures.row in
    let is : is_some (pending t s.journal) ≡ true =
    sym (subst (λ l. is_due l ≡ is_some (pending t s.journal)) c.in-Due.is c.in-Ok-learn.ensures.due) in
    let room = c.room_for.ensures.pair in
    let written : IsAppended c.in-Due.rec c.args.pair c.in-Ok-append.pair =
    appended c.in-Due.rec c.args.pair c.room_for.new.pair c.in-Ok-append.pair room c.in-Ok-append.ensures.list
    c.in-Ok-append.ensures.appended c.in-Ok-append.ensures.spent c.in-Ok-append.ensures.other c.in-Ok-append.ensures.live
    c.in-Ok-append.ensures.number in
    let same = c.in-Ok-learn.ensures.same in
    let kept : c.in-Ok-append.kept.rec ≡ record'.Ended t o = c.in-Ok-append.ensures.kept ∙ due.is in
    let now = c.settle-home.new.store in
    let left = c.release_all.new.waiting.reads in
    let outs = c.release_all.new.outs.items in
    let end : c.put_end.new.outs.items ≡ settle_outs s.node t o home =
    put-none c.put_end.new.outs.items c.in-Ok.outs.items _ _ c.put_end.ensures.outs
    c.in-Ok.ensures.none
    (ap (λ n. settle_outs n t o c.settle-home.result) c.node-n.ensures
    ∙ ap (λ m. settle_outs s.node t o m) c.settle-home.ensures.home) in
    let released : IsReleased now s.node hs (settle_outs s.node t o home) left outs =
    subst (λ n. IsReleased now n hs (settle_outs s.node t o home) left outs) c.node-n.ensures
    (subst (λ os. IsReleased now c.node-n.result hs os left outs) end c.release_all.ensures) in
    due-played s hs c.args.pair c.in-Ok-append.pair x t o home outs now left c.requires.small c.requires.fit row is
    (c.settle-home.ensures.node ∙ same.node) (c.settle-home.ensures.cluster ∙ same.cluster)
    (c.settle-home.ensures.journal ∙ ap (λ y. y ∷ c.learn.new.store.journal) kept
    ∙ ap (λ r. record'.Ended t o ∷ r) same.journal)
    (c.settle-home.ensures.next ∙ ap (λ y. learnt (Some y) c.learn.new.store.next) kept
    ∙ ap (λ n. learnt (Some (record'.Ended t o)) n) same.next)
    released
    (subst (λ y. IsAppended y c.args.pair c.in-Ok-append.pair) due.is written)

pub returns-in-Err-append : goal.returns-in-Err-append
returns-in-Err-append g c =
    let s = c.args.store.now in
    let hs = c.args.waiting.now.reads in
    let x = c.args.from in
    let t = c.args.t in
    let o = c.args.outcome.now in
    let home = acked c.in-Due.due in
    let due : IsDue c.learn.new.store t o c.in-Due.due c.in-Due.rec =
    subst (λ l. IfDue l (IsDue c.learn.new.store t o)) c.in-Due.is c.in-Ok-learn.ensures.end in
    let row : settle_outs s.node t o home ≡ end_outs s.node (participant_in s) t o =
    subst (λ l. learn_outs s.node t o l ≡ end_outs s.node (participant_in s) t o) c.in-Due.is c.in-Ok-learn.ensures.row in
    let is : is_some (pending t s.journal) ≡ true =
    sym (subst (λ l. is_due l ≡ is_some (pending t s.journal)) c.in-Due.is c.in-Ok-learn.ensures.due) in
    let room = c.room_for.ensures.pair in
    let first = c.in-Err-append.stopped.first in
    let second = c.in-Err-append.stopped.second in
    record {
      rec = c.in-Due.rec;
      head = c.head_of-head.ensures;
      row = subst (λ y. IsRecordAt s hs (event.Deliver x (message.Tell t o)) y) (sym due.is)
          (due-record s hs x t o home c.requires.small c.requires.fit row is);
      disks = then-cut c.in-Due.rec c.args.pair c.room_for.new.pair first second room (record {
        images = c.in-Err-append.ensures.stopped;
        early = c.in-Err-append.ensures.early;
        version = c.in-Err-append.ensures.version;
        other = c.in-Err-append.ensures.other_kept;
        halted = c.in-Err-append.ensures.halted;
      });
      store = c.in-Ok-learn.ensures.same;
      held = refl;
    }
