use Rattle.std.proofs.Common.{◌≡◌, ◌<◌, ◌+◌, ◌∷◌, [], List, length, drop, sym, ap, subst, ◌∙◌, arith}
use Rattle.std.proofs.lemmas.Grind.{common_steps}
use Rattle.std.proofs.lemmas.List.{drop_more}
use Rattle.score_base.specs.declared.ids.Value.{Value}
use Rattle.score_base.specs.declared.keys.Key.{Key}
use Rattle.grid_store.specs.Chained.{CanPutAll, IsPut}
use Rattle.grid_store.proofs.ChainPuts.{IsOnePut, can-first, can-rest, put-rest, put-none}
use Rattle.grid_store.proofs.chained.put_all.Goals as goal

pub put-requires-clause-room : goal.put-requires-clause-room
put-requires-clause-room c =
    let ws = c.args.writes.now in
    let i = c.loop-write.write-index in
    let within : i < length ws = grind (arith, common_steps, c.loop-write-test.true) in
    let x = c.write-item.result in
    let is : drop i ws ≡ x ∷ drop (i + 1) ws = drop_more ws i x within ∙ ap (λ (y : Key × Value). y ∷ drop (i + 1) ws) (sym c.write-item.is) in
    (can-first x (drop (i + 1) ws) c.args.f c.loop-write.chains (subst (λ (l : List (Key × Value)). CanPutAll l c.args.f c.loop-write.chains) is c.loop-write.invariant.can)).room

pub put-requires-clause-above : goal.put-requires-clause-above
put-requires-clause-above c =
    let ws = c.args.writes.now in
    let i = c.loop-write.write-index in
    let within : i < length ws = grind (arith, common_steps, c.loop-write-test.true) in
    let x = c.write-item.result in
    let is : drop i ws ≡ x ∷ drop (i + 1) ws = drop_more ws i x within ∙ ap (λ (y : Key × Value). y ∷ drop (i + 1) ws) (sym c.write-item.is) in
    (can-first x (drop (i + 1) ws) c.args.f c.loop-write.chains (subst (λ (l : List (Key × Value)). CanPutAll l c.args.f c.loop-write.chains) is c.loop-write.invariant.can)).above

pub loop-write-preserved : goal.loop-write-preserved
loop-write-preserved c =
    let ws = c.args.writes.now in
    let i = c.loop-write.write-index in
    let within : i < length ws = grind (arith, common_steps, c.loop-write-test.true) in
    let x = c.write-item.result in
    let is : drop i ws ≡ x ∷ drop (i + 1) ws = drop_more ws i x within ∙ ap (λ (y : Key × Value). y ∷ drop (i + 1) ws) (sym c.write-item.is) in
    let can = subst (λ (l : List (Key × Value)). CanPutAll l c.args.f c.loop-write.chains) is c.loop-write.invariant.can in
    let e = c.put.ensures in
    let one : IsOnePut x.0 c.args.f x.1 c.loop-write.chains c.put.new.self = record { versions = e.versions; room = e.room; places = e.places; initial = e.initial } in
    record {
      can = can-rest x (drop (i + 1) ws) c.args.f c.loop-write.chains c.put.new.self can one;
      put = λ last rest. c.loop-write.invariant.put last (subst (λ (l : List (Key × Value)). IsPut l c.args.f c.loop-write.chains last) (sym is) (put-rest x (drop (i + 1) ws) c.args.f c.loop-write.chains c.put.new.self can one last rest));
    }

pub returns : goal.returns
returns c =
    let ws = c.args.writes.now in
    let none : drop c.loop-write.write-index ws ≡ [] = grind (arith, common_steps, c.loop-write-test.false) in
    c.loop-write.invariant.put c.loop-write.chains (subst (λ (l : List (Key × Value)). IsPut l c.args.f c.loop-write.chains c.loop-write.chains) (sym none) (put-none c.args.f c.loop-write.chains))
