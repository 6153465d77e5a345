use Rattle.std.proofs.Common.{refl, sym, subst, ◌∙◌}
use Rattle.grid_model.specs.declared.items.Item.TheVariants as item
use Rattle.grid_model.specs.declared.voids.Void.TheVariants as void
use Rattle.grid_model.specs.Voids.{voided}
use Rattle.grid_world.specs.Follows.{Plays}
use Rattle.grid_world.proofs.Results.{ok-map, told-ok}
use Rattle.grid_world.proofs.NextRows.{next-plays, none-left-plays}
use Rattle.grid_world.proofs.rows.World+Fused+D.play.Goals as goal

pub returns-in-Begin : goal.returns-in-Begin
returns-in-Begin g c =
    ok-map c.begin.result
    (λ acts p. subst (λ i. Plays c.args.doc.now i c.args.self.now c.begin.new.self acts.items) (sym c.in-Begin.is) p) c.begin.ensures

pub returns-in-Drop : goal.returns-in-Drop
returns-in-Drop g c =
    ok-map c.drop_message.result
    (λ acts p. subst (λ i. Plays c.args.doc.now i c.args.self.now c.drop_message.new.self acts.items) (sym c.in-Drop.is) p) c.drop_message.ensures

pub returns-in-Retry : goal.returns-in-Retry
returns-in-Retry g c =
    ok-map c.retry.result
    (λ acts p. subst (λ i. Plays c.args.doc.now i c.args.self.now c.retry.new.self acts.items) (sym c.in-Retry.is) p) c.retry.ensures

pub returns-in-Ask : goal.returns-in-Ask
returns-in-Ask g c =
    ok-map c.ask.result
    (λ acts p. subst (λ i. Plays c.args.doc.now i c.args.self.now c.ask.new.self acts.items) (sym c.in-Ask.is) p) c.ask.ensures

pub returns-in-AskPeer : goal.returns-in-AskPeer
returns-in-AskPeer g c =
    ok-map c.ask_part.result
    (λ acts p. subst (λ i. Plays c.args.doc.now i c.args.self.now c.ask_part.new.self acts.items) (sym c.in-AskPeer.is) p) c.ask_part.ensures

pub returns-in-Crash : goal.returns-in-Crash
returns-in-Crash g c =
    ok-map c.crash.result
    (λ acts p. subst (λ i. Plays c.args.doc.now i c.args.self.now c.crash.new.self acts.items) (sym c.in-Crash.is) p) c.crash.ensures

pub returns-in-Fuse : goal.returns-in-Fuse
returns-in-Fuse g c =
    ok-map c.fuse.result
    (λ acts p. subst (λ i. Plays c.args.doc.now i c.args.self.now c.fuse.new.self acts.items) (sym c.in-Fuse.is) p) c.fuse.ensures

pub returns-in-Restart : goal.returns-in-Restart
returns-in-Restart g c =
    ok-map c.restart.result
    (λ acts p. subst (λ i. Plays c.args.doc.now i c.args.self.now c.restart.new.self acts.items) (sym c.in-Restart.is) p) c.restart.ensures

pub returns-in-Compact : goal.returns-in-Compact
returns-in-Compact g c =
    ok-map c.make_small.result
    (λ acts p. subst (λ i. Plays c.args.doc.now i c.args.self.now c.make_small.new.self acts.items) (sym c.in-Compact.is) p) c.make_small.ensures

pub returns-in-Deliver : goal.returns-in-Deliver
returns-in-Deliver g c =
    ok-map c.deliver.result
    (λ acts p. subst (λ i. Plays c.args.doc.now i c.args.self.now c.deliver.new.self acts.items) (sym c.in-Deliver.is)
    (p (item.Deliver c.in-Deliver.m) (λ past k shows. refl)))
    c.deliver.ensures

pub returns-in-None : goal.returns-in-None
returns-in-None g c =
    told-ok c.voided.result (λ v. v.items) (Plays c.args.doc.now c.args.item c.args.self.now c.voided.new.self) (voided void.NoneLeft)
    c.voided.ensures.told c.voided.ensures.acts
    (λ told. subst (λ i. Plays c.args.doc.now i c.args.self.now c.voided.new.self (voided void.NoneLeft)) (sym c.in-Next.is)
    (none-left-plays c.args.doc.now c.in-Next.field-0 c.args.self.now c.voided.new.self (sym c.next_left.ensures ∙ c.in-None.is) told))

pub returns-in-Some : goal.returns-in-Some
returns-in-Some g c =
    ok-map c.deliver-in-Some.result
    (λ acts p. subst (λ i. Plays c.args.doc.now i c.args.self.now c.deliver-in-Some.new.self acts.items) (sym c.in-Next.is)
    (next-plays c.args.doc.now c.in-Next.field-0 c.in-Some.m c.args.self.now c.deliver-in-Some.new.self acts.items
    (sym c.next_left.ensures ∙ c.in-Some.is) p))
    c.deliver-in-Some.ensures
