-- A call that changed nothing, or all, has failed within its bounds.
use Rattle.std.proofs.Common.{◌≡◌, ℕ, ◌+◌, ◌≤◌, max, List, length, sym, arith, le_refl, subst, Result, Ok, Err, OnOk, OnErr}
use Rattle.score_disk.specs.Files.{File, Missed, IsSound, written, covers, put_at}
use Rattle.score_disk.proofs.Places.{neither, outside, length-put_at, get_or-put_at}

pub missed_written : (f : File) (at : ℕ) (bytes : List ℕ) → IsSound f → at ≤ length f.seen
    → Missed f (written at bytes f) (written at bytes f)
missed_written f at bytes s h =
    let here : length (put_at f.seen at bytes) ≡ max (length f.seen) (at + length bytes) = length-put_at f.seen at bytes h in
    record {
      touched = λ i e. e;
      least = le_refl _;
      greatest = le_refl _;
      no_shorter = omega (arith, here, s.no_shorter);
      no_longer = omega (arith, here, s.no_longer);
      same = λ i e. get_or-put_at f.seen at bytes i h (outside at (length bytes) i (neither (f.touched i) (covers at (length bytes) i) e).1);
    }

pub missed_either : {T E P : Type 0} (r : Result T E) (f g : File) (at : ℕ) (bytes : List ℕ) → P
    → OnOk r (P → g ≡ written at bytes f) → OnErr r (P → Missed f (written at bytes f) g) → IsSound f
    → at ≤ length f.seen → Missed f (written at bytes f) g
missed_either (Ok x) f g at bytes p made missed sound h = subst (λ k. Missed f (written at bytes f) k) (sym (made p)) (missed_written f at bytes sound h)
missed_either (Err e) f g at bytes p made missed sound h = missed p
