use Rattle.std.proofs.Common.{◌≡◌, ◌<◌, ◌+◌, ◌∷◌, [], List, length, drop, sym, ap, subst, ◌∙◌, arith}
use Rattle.std.proofs.lemmas.Grind.{common_steps}
use Rattle.std.proofs.lemmas.List.{drop_more}
use Rattle.score_base.specs.declared.ids.Value.{Value}
use Rattle.score_base.specs.declared.keys.Key.{Key}
use Rattle.placement.specs.Clusters.{init}
use Rattle.grid_store.proofs.ChainRooms.{IsOneBegun, IsBegun, begun-none, begun-can, begun-more, begun-room}
use Rattle.grid_store.proofs.chained.begin_all.Goals as goal

pub loop-write-init : goal.loop-write-init
loop-write-init c = record {
  begun = begun-none c.args.writes.now c.args.chains.now c.requires.fresh c.requires.room;
  initial = λ starts. starts;
}

pub begin-requires : goal.begin-requires
begin-requires c =
    let ws = c.args.writes.now in
    let i = c.loop-write.write-index in
    let within : i < length ws = grind (arith, common_steps, c.loop-write-test.true) in
    let x = c.write-item.result in
    let is : drop i ws ≡ x ∷ drop (i + 1) ws = drop_more ws i x within ∙ ap (λ (y : Key × Value). y ∷ drop (i + 1) ws) (sym c.write-item.is) in
    begun-can ws (drop (i + 1) ws) x c.args.chains.now c.loop-write.chains (subst (λ (l : List (Key × Value)). IsBegun ws l c.args.chains.now c.loop-write.chains) is c.loop-write.invariant.begun)

pub loop-write-preserved : goal.loop-write-preserved
loop-write-preserved c =
    let ws = c.args.writes.now in
    let i = c.loop-write.write-index in
    let within : i < length ws = grind (arith, common_steps, c.loop-write-test.true) in
    let x = c.write-item.result in
    let is : drop i ws ≡ x ∷ drop (i + 1) ws = drop_more ws i x within ∙ ap (λ (y : Key × Value). y ∷ drop (i + 1) ws) (sym c.write-item.is) in
    let begun = subst (λ (l : List (Key × Value)). IsBegun ws l c.args.chains.now c.loop-write.chains) is c.loop-write.invariant.begun in
    let e = c.begin.ensures in
    let one : IsOneBegun x.0 c.loop-write.chains c.begin.new.self = record { room = e.room; kept = e.kept; versions = e.versions; keys = e.keys; fresh = e.fresh; used = e.used } in
    record {
      begun = begun-more ws (drop (i + 1) ws) x c.args.chains.now c.loop-write.chains c.begin.new.self begun one;
      initial = λ starts. e.initial (init c.args.cluster.now) (sym c.init.ensures) (c.loop-write.invariant.initial starts);
    }

pub returns-clause-room : goal.returns-clause-room
returns-clause-room c =
    let ws = c.args.writes.now in
    let none : drop c.loop-write.write-index ws ≡ [] = grind (arith, common_steps, c.loop-write-test.false) in
    begun-room ws c.args.chains.now c.loop-write.chains (subst (λ (l : List (Key × Value)). IsBegun ws l c.args.chains.now c.loop-write.chains) none c.loop-write.invariant.begun)

pub returns-clause-keys : goal.returns-clause-keys
returns-clause-keys c =
    let ws = c.args.writes.now in
    let none : drop c.loop-write.write-index ws ≡ [] = grind (arith, common_steps, c.loop-write-test.false) in
    (subst (λ (l : List (Key × Value)). IsBegun ws l c.args.chains.now c.loop-write.chains) none c.loop-write.invariant.begun).keys
