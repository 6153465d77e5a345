use Rattle.std.proofs.Common.{◌≡◌, ◌<◌, ◌+◌, ◌∷◌, [], List, length, drop, inr, refl, sym, ap, subst, ◌∙◌, arith}
use Rattle.std.proofs.lemmas.Grind.{common_steps}
use Rattle.std.proofs.lemmas.List.{drop_more}
use Rattle.score_base.specs.declared.ids.Value.{Value}
use Rattle.score_base.specs.declared.keys.Key.{Key}
use Rattle.grid_store.proofs.ChainRooms.{IsMade, made-more, made-all, wider-same, wider-more}
use Rattle.grid_store.proofs.chained.lengthen_all.Goals as goal

pub loop-write-init : goal.loop-write-init
loop-write-init c = record {
  made = λ k v w. inr (v, w);
  wider = wider-same c.args.chains.now;
  places = refl;
  initial = λ init starts. starts;
}

pub loop-write-preserved : goal.loop-write-preserved
loop-write-preserved c =
    let ws = c.args.writes.now in
    let i = c.loop-write.write-index in
    let within : i < length ws = grind (arith, common_steps, c.loop-write-test.true) in
    let x = c.write-item.result in
    let is : drop i ws ≡ x ∷ drop (i + 1) ws = drop_more ws i x within ∙ ap (λ (y : Key × Value). y ∷ drop (i + 1) ws) (sym c.write-item.is) in
    let made = subst (λ (l : List (Key × Value)). IsMade ws l c.loop-write.chains) is c.loop-write.invariant.made in
    let e = c.reserve.ensures in
    record {
      made = made-more ws (drop (i + 1) ws) x c.loop-write.chains c.reserve.new.self made c.in_ok-reserve.ensures.room e.places e.kept;
      wider = wider-more c.args.chains.now c.loop-write.chains c.reserve.new.self c.loop-write.invariant.wider e.versions e.kept;
      places = e.places ∙ c.loop-write.invariant.places;
      initial = λ init starts. e.initial init (c.loop-write.invariant.initial init starts);
    }

pub returns-clause-room : goal.returns-clause-room
returns-clause-room c =
    let ws = c.args.writes.now in
    let none : drop c.loop-write.write-index ws ≡ [] = grind (arith, common_steps, c.loop-write-test.false) in
    made-all ws c.loop-write.chains (subst (λ (l : List (Key × Value)). IsMade ws l c.loop-write.chains) none c.loop-write.invariant.made)
