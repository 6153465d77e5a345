use Rattle.std.proofs.Common.{◌≡◌, ◌<◌, max, refl, sym, ap, subst, ◌∙◌, length, take, arith}
use Rattle.std.proofs.lemmas.Grind.{common_steps}
use Rattle.grid_store.proofs.Fronts.{front-more, front-strange, front-length, front-whole}
use Rattle.grid_store.specs.Replay.{IsStrange}
use Rattle.grid_store.proofs.store.Store.replay.Goals as goal

pub loop-rec-init : goal.loop-rec-init
loop-rec-init c =
    let e = c.new-store.ensures in
    record {
      node = e.node;
      cluster = e.cluster ∙ c.in-Ok.ensures;
      journal = e.journal;
      low = (let next = e.next in omega (arith, next));
      fit = refl;
    }

pub loop-rec-preserved : goal.loop-rec-preserved
loop-rec-preserved c =
    let e = c.in-Ok-true.ensures in
    let within : c.loop-rec.rec-index < length c.args.records.now = grind (arith, common_steps, c.loop-rec-test.true) in
    front-more c.args.cluster.now c.args.me c.args.records.now c.loop-rec.rec-index c.loop-rec.store c.take_next.new.self c.rec-item.result c.loop-rec.invariant within
    c.rec-item.is (sym e.fits ∙ c.in-Ok-true.field-0-test) (e.journal c.in-Ok-true.field-0-test) (e.next c.in-Ok-true.field-0-test) e.node e.cluster

pub returns-in-Ok-false-clause-end : goal.returns-in-Ok-false-clause-end
returns-in-Ok-false-clause-end c =
    let e = c.in-Ok-false.ensures in
    let rs = c.args.records.now in
    let i = c.loop-rec.rec-index in
    let within : i < length rs = grind (arith, common_steps, c.loop-rec-test.true) in
    let long : c.len.result ≡ i = c.len.ensures ∙ ap length (e.before c.in-Ok-false.field-0-test) ∙ front-length c.args.cluster.now c.args.me rs i c.loop-rec.store c.loop-rec.invariant (omega (arith, within)) in
    subst (IsStrange c.args.cluster.now c.args.me rs) (sym long)
    (front-strange c.args.cluster.now c.args.me rs i c.loop-rec.store c.rec-item.result c.loop-rec.invariant within c.rec-item.is (sym e.fits ∙ c.in-Ok-false.field-0-test))

pub returns-clause-store : goal.returns-clause-store
returns-clause-store c =
    let whole : take c.loop-rec.rec-index c.args.records.now ≡ c.args.records.now = grind (arith, common_steps, c.loop-rec-test.false) in
    front-whole c.args.cluster.now c.args.me c.args.records.now c.loop-rec.rec-index c.loop-rec.store c.raise.new.self c.loop-rec.invariant whole
    (c.raise.ensures.new ∙ ap (λ x. record c.loop-rec.store { next = max c.loop-rec.store.next x }) c.floor.ensures)
