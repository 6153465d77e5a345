use Rattle.std.proofs.Common.{◌≡◌, ℕ, List, ◌+◌, ◌&&◌, ◌||◌, ◌∷◌, nat_eq, drop, sym, ap, ◌∙◌, arith}
use Rattle.std.proofs.lemmas.Grind.{common_steps}
use Rattle.std.specs.Cmp.Lexicographic.{pointwise}
use Rattle.lock_table.specs.Keys.{is_written}
use Rattle.lock_table.specs.Table.{locks_of, holds_in, writes_in}
use Rattle.lock_table.proofs.Taking.{written_too, one_then_rest}
use Rattle.lock_table.proofs.take_writes.Goals as goal

pub loop-write-preserved : goal.loop-write-preserved
loop-write-preserved c =
    let ls = locks_of c.loop-write.locks.pairs in
    let new = locks_of c.take_key.new.locks.pairs in
    let ws = c.args.writes.now in
    let i = c.loop-write.write-index in
    let key = c.write-item.result.0 in
    let more : drop i ws ≡ c.write-item.result ∷ drop (i + 1) ws = grind (arith, common_steps) in
    let written : (u : ℕ) (k : List ℕ) → writes_in new u k ≡ (writes_in ls u k || (nat_eq u c.args.t && pointwise nat_eq key k)) =
    λ u k. c.take_key.ensures.written u k ∙ written_too ls c.args.t key u k c.loop-write.invariant.idle in
    record {
      idle = λ k. c.take_key.ensures.keys c.args.t k
          ∙ ap (λ b. b || (nat_eq c.args.t c.args.t && pointwise nat_eq key k)) (c.loop-write.invariant.idle k)
          ∙ sym (written c.args.t k);
      keys = λ u k.
          ap (λ b. b || (nat_eq u c.args.t && is_written (drop (i + 1) ws) k)) (c.take_key.ensures.keys u k)
          ∙ one_then_rest (holds_in ls u k) (nat_eq u c.args.t) (pointwise nat_eq key k) (is_written (drop (i + 1) ws) k)
          ∙ ap (λ xs. holds_in ls u k || (nat_eq u c.args.t && is_written xs k)) (sym more)
          ∙ c.loop-write.invariant.keys u k;
      written = λ u k.
          ap (λ b. b || (nat_eq u c.args.t && is_written (drop (i + 1) ws) k)) (written u k)
          ∙ one_then_rest (writes_in ls u k) (nat_eq u c.args.t) (pointwise nat_eq key k) (is_written (drop (i + 1) ws) k)
          ∙ ap (λ xs. writes_in ls u k || (nat_eq u c.args.t && is_written xs k)) (sym more)
          ∙ c.loop-write.invariant.written u k;
      spare = omega (arith, c.take_key.ensures.spare, c.loop-write.invariant.spare);
      count = omega (arith, c.take_key.ensures.count, c.loop-write.invariant.count);
      numbered = λ old. c.take_key.ensures.numbered (c.loop-write.invariant.numbered old);
    }
