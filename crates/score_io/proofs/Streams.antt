-- How the turns of a whole read or write make up the whole.
use Rattle.std.proofs.Common.{◌≡◌, ℕ, ◌+◌, ◌≤◌, List, [], ◌++◌, length, take, drop, Option, None, Some, sym, ap, subst, ◌∙◌, append-nil, length-append, arith}
use Rattle.std.specs.Io.KnownBytes.{Appends, Consumes}
use Rattle.std.proofs.KnownBytes.{Appends-trans, Consumes-trans}
use Rattle.std.proofs.Math.Seq.{take-add}
use Rattle.score_io.specs.Streams.{ReadWhole, Lost, LostAtMost, Gained}

-- what came from the first turn on is all that was lost
pub gained_all : (a b : Option (List ℕ)) (xs : List ℕ) → Gained a b [] xs → Consumes a b xs
gained_all a b xs p = subst (λ (l : List ℕ). Consumes a b l) (sym p.more) p.lost

-- a turn that fails loses a few bytes more
pub lost_more : (a b c : Option (List ℕ)) (xs : List ℕ) (n m : ℕ) → Gained a b [] xs → LostAtMost b c n
    → length xs + n ≤ m → LostAtMost a c m
lost_more a b c xs n m p q h = record {
  came = xs ++ q.came;
  counted = rw length-append (omega (arith, q.counted));
  lost = Consumes-trans a b c _ _ (gained_all a b xs p) q.lost;
}

-- a piece goes behind what was sent before
pub appends_piece : (a b c : Option (List ℕ)) (xs : List ℕ) (i n : ℕ) → Appends a b (take i xs)
    → Appends b c (take n (drop i xs)) → Appends a c (take (i + n) xs)
appends_piece a b c xs i n p q = rw (take-add i n xs) (Appends-trans a b c _ _ p q)

-- a source that tells its bytes and was read to its end gave them all
pub whole_told : (xs bytes : List ℕ) (now : Option (List ℕ)) → ReadWhole (Some xs) now bytes
    → (bytes ≡ xs) × (now ≡ Some [])
whole_told xs bytes None r = absurd r.lost
whole_told xs bytes (Some ys) r = (sym (r.lost ∙ ap (λ l. bytes ++ l) r.end ∙ append-nil bytes), ap Some r.end)

-- a source that tells its bytes had as many as it lost
pub lost_told : (xs : List ℕ) (n : ℕ) (now : Option (List ℕ)) → Lost (Some xs) now n → n ≤ length xs
lost_told xs n None l = absurd l.lost
lost_told xs n (Some ys) l = rw (l.lost, length-append) (omega (arith, l.counted))
