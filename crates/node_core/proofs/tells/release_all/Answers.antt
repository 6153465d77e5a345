use Rattle.std.proofs.Common.{◌≡◌, ◌≤◌, ◌+◌, ◌*◌, Some, length, sym, ap, subst, arith, length-append}
use Rattle.std.specs.Prelude.{vec_len, vec_capacity}
use Rattle.snapshot_read.specs.Outs.{serve_outs, without_answered, first_answer}
use Rattle.node_core.specs.Plays.{IsReleased}
use Rattle.node_core.proofs.Released.{serving-none, serving-more, serving-done, none-left, served-less, serves-three}
use Rattle.node_core.proofs.tells.release_all.Goals as goal

pub loop-turn-init : goal.loop-turn-init
loop-turn-init c = record {
  serving = serving-none c.args.store.now c.args.n c.args.waiting.now.reads c.args.outs.now.items;
  room = c.requires;
  fewer = omega arith;
}

pub loop-turn-preserved : goal.loop-turn-preserved
loop-turn-preserved c =
    let s = c.args.store.now in
    let left = c.loop-turn.waiting.reads in
    let a = c.in-Some.answer in
    let outs = c.loop-turn.outs in
    let now = c.put_served.new.outs in
    let first : first_answer s left ≡ Some a = sym c.in-Some.ensures.answer in
    let less : length (without_answered a left) + 1 ≡ length left = served-less s left a first in
    let fewer : length c.release.new.self.reads ≡ length (without_answered a left) = ap length c.in-Some.ensures.held in
    let room : vec_len outs + 3 * length left ≤ vec_capacity outs = c.loop-turn.invariant.room in
    let few = c.loop-turn.invariant.fewer in
    record {
      serving = serving-more s c.args.n c.args.waiting.now.reads c.args.outs.now.items left outs.items a
          c.release.new.self.reads now.items c.loop-turn.invariant.serving first c.in-Some.ensures.held
          c.put_served.ensures.outs;
      room = omega (
        arith,
        less,
        fewer,
        room,
        outs.ok.0,
        now.ok.0,
        ap length c.put_served.ensures.outs,
        length-append outs.items (serve_outs c.args.n a),
        serves-three c.args.n a,
        c.put_served.ensures.room,
      );
      fewer = omega (arith, less, fewer, few);
    }

pub returns-in-None : goal.returns-in-None
returns-in-None c =
    let s = c.args.store.now in
    let left = c.loop-turn.waiting.reads in
    let outs = c.loop-turn.outs.items in
    subst (λ hs. IsReleased s c.args.n c.args.waiting.now.reads c.args.outs.now.items hs outs)
    (sym c.in-None.ensures.held)
    (serving-done s c.args.n c.args.waiting.now.reads c.args.outs.now.items left outs c.loop-turn.invariant.serving
    (sym c.in-None.ensures.answer))

pub returns : goal.returns
returns c =
    let s = c.args.store.now in
    let left = c.loop-turn.waiting.reads in
    let few = c.loop-turn.invariant.fewer in
    let end = c.loop-turn-test.false in
    serving-done s c.args.n c.args.waiting.now.reads c.args.outs.now.items left c.loop-turn.outs.items
    c.loop-turn.invariant.serving (none-left s left (omega (arith, few, end)))
