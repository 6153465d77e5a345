-- How the numbers of a disk go on over several calls.
use Rattle.std.proofs.Common.{◌≡◌, ◌⊎◌, ℕ, ◌+◌, ◌-◌, ◌<◌, ◌≤◌, Some, Result, Ok, Err, sym, ap, subst, ◌∙◌, inl, inr, arith}
use Rattle.score_base.specs.Faults.{Rose}
use Rattle.score_disk.specs.declared.disk.Disk.{Ghosts}
use Rattle.node_journal.specs.Calls.{lowered}
use Rattle.node_journal.specs.Spending.{Spent, Halted, Spends}
use Rattle.node_journal.proofs.Calls.{lowered_more, lowered-lowered}

module _ {D : Type 0} (d : Ghosts D) (old mid now : D) where
  pub spent_more : (m n : ℕ) → Spent d m old mid → Spent d n mid now → Spent d (m + n) old now
  spent_more m n s t = record {
    tells = t.tells ∙ s.tells;
    left = t.left ∙ ap (lowered n) s.left ∙ lowered-lowered n m (d.left old);
    unstopped = t.unstopped;
    own = t.own ∙ s.own;
    faults = t.faults ∙ s.faults;
  }

  pub halted_more : (m n : ℕ) → Spent d m old mid → Halted d n mid now → Halted d (m + n) old now
  halted_more m n s h = record {
    tells = h.tells ∙ s.tells;
    left = lowered_more m n (d.left old) (d.left mid) (d.left now) s.left h.left;
    own = subst (λ k. k ≤ d.own now) s.own h.own;
    faults = subst (λ k. k ≤ d.faults now) s.faults h.faults;
    rose = subst (λ k. Rose k (d.faults now)) s.faults h.rose;
    cause = subst (λ k. Rose k (d.own now) ⊎ (d.left now ≡ Some 0)) s.own h.cause;
    rises =
        λ less. subst (λ k. (k < d.own now) ⊎ (d.left now
        ≡ Some 0)) s.own (h.rises (subst (λ k. k < d.faults now) (sym s.faults) less));
  }

-- so many calls went through, and then so many more of which one may have failed
pub spends_more : {D T E : Type 0} (d : Ghosts D) (old mid now : D) (m n : ℕ) (result : Result T E) →
    Spent d m old mid → Spends d n mid now result → Spends d (m + n) old now result
spends_more d old mid now m n (Ok x) s t = record { ok = spent_more d old mid now m n s t.ok; err = tt }
spends_more d old mid now m n (Err e) s t = record { ok = tt; err = halted_more d old mid now m n s t.err }

-- a stop among fewer calls is a stop among more
pub halted_weaker : {D : Type 0} (d : Ghosts D) (m n : ℕ) (old now : D) → m ≤ n → Halted d m old now →
    Halted d n old now
halted_weaker d m n old now le h = record {
  tells = h.tells;
  left = record { calls = h.left.calls; within = omega (arith, h.left.within, le); falls = h.left.falls };
  own = h.own;
  faults = h.faults;
  rose = h.rose;
  cause = h.cause;
  rises = h.rises;
}

-- the same where the first calls are one of two numbers
pub either_more : {D T E : Type 0} (d : Ghosts D) (old mid now : D) (m n k : ℕ) (result : Result T E) →
    Spent d m old mid ⊎ Spent d n old mid → Spends d k mid now result →
    Spends d (m + k) old now result ⊎ Spends d (n + k) old now result
either_more d old mid now m n k result (inl s) t = inl (spends_more d old mid now m k result s t)
either_more d old mid now m n k result (inr s) t = inr (spends_more d old mid now n k result s t)

-- what is left of a fuse after so many calls
pub left_after : {D : Type 0} (d : Ghosts D) (n k : ℕ) (old mid : D) → Spent d n old mid → d.left old ≡ Some k →
    d.left mid ≡ Some (k - n)
left_after d n k old mid s e = s.left ∙ ap (lowered n) e
