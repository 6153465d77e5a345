-- What stands when one more piece was appended.
use Rattle.std.proofs.Common.{◌≡◌, ℕ, List, ◌++◌, Result, Ok, Err, OnOk, ap, ◌∙◌, append_assoc}

-- a piece behind another, where the last of the calls answers Ok
pub put_behind : {T E : Type 0} (r : Result T E) (old mid new a b : List ℕ)
    → mid ≡ old ++ a → OnOk r (new ≡ mid ++ b) → OnOk r (new ≡ old ++ (a ++ b))
put_behind (Ok x) old mid new a b one two = two ∙ ap (λ l. l ++ b) one ∙ append_assoc old a b
put_behind (Err e) old mid new a b one two = two
