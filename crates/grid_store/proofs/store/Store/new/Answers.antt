use Rattle.std.proofs.Common.{◌≡◌, true, false, Some, None, refl}
use Rattle.score_base.specs.declared.ids.TxId.{TxId}
use Rattle.score_base.specs.declared.ids.Ident.{Ident}
use Rattle.score_base.specs.declared.ids.Value.{Value}
use Rattle.score_base.specs.declared.keys.Key.{Key}
use Rattle.score_base.specs.declared.causes.Outcome.TheVariants as outcome
use Rattle.journal_words.specs.Journals.{Prepared}
use Rattle.std.specs.FinMap as map
use Rattle.std.specs.FinSet as set
use Rattle.stable_queue.specs.Commits.{by_final}
use Rattle.lock_table.specs.Keys.{by_transaction}
use Rattle.std.specs.Ordering.{nat_cmp}
use Rattle.grid_store.proofs.store.Store.new.Goals as goal

pub invariant_of-result : goal.invariant_of-result
invariant_of-result c = rw c.new.ensures.items (record {
  fit = refl;
  placed = rw c.new-2.ensures.pairs (record { inside = λ t i h. cc; known = λ t. refl; said = λ t. refl; part = λ t m. refl });
  over = rw c.new-3.ensures.pairs (λ t. refl);
  undone = rw c.new-4.ensures.pairs (λ t. refl);
  queue = λ t. rw c.new-5.ensures (map.get-empty nat_cmp t);
  numbers = record { floor = c.new-6.ensures.floor; above = refl };
  high = refl;
  stable = λ f t. rw c.new-7.ensures (set.contains-empty by_final (f, t));
  applied = refl;
  locks = record { keys = λ u k. rw c.new-8.ensures.keys (set.contains-empty by_transaction (u, k)); written = λ u k. rw c.new-8.ensures.written (set.contains-empty by_transaction (u, k)) };
  versions = record { known = λ k f v h. absurd (no-version k f v (rw c.new-9.ensures at h)); has = λ k t f v w. absurd (no-commit f t w.committed) };
  open' = λ u x h e. absurd (no-prepared x e);
  keys = λ k. rw c.new-9.ensures refl;
  start = λ k. rw c.new-9.ensures refl;
})
  where
    no-version : (k : Key) (f : Ident) (v : Value) → ¬ (false ≡ true)
    no-version k f v h = cc

    no-commit : (f : Ident) (t : TxId) → ¬ (None ≡ Some (outcome.Commit f))
    no-commit f t h = cc

    no-prepared : (x : Prepared) → ¬ (None ≡ Some x)
    no-prepared x h = cc
