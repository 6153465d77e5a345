-- What holds of whatever a reading of lines gives.
use Rattle.std.proofs.Common.{ℕ, Result, Ok, Err, IfOk}
use Rattle.cluster_file.specs.Doc.{◌>>>◌, at_line}
use Rattle.cluster_file.specs.declared.whys.Refusal.{Refusal}
use Rattle.script_lang.specs.declared.whys.Why.{Why}

-- a reading with a line number
pub numbered : {A : Type 0} (n : ℕ) (m : Result A Why) (P : A → Type 0) → IfOk m P → IfOk (at_line n m) P
numbered n (Ok x) P h = h
numbered n (Err w) P h = tt

-- one line behind another
pub below : {A B : Type 0} (m : Result A Refusal) (f : A → Result B Refusal) (Q : A → Type 0) (P : B → Type 0)
    → IfOk m Q → ((x : A) → Q x → IfOk (f x) P) → IfOk (m >>> f) P
below (Ok x) f Q P h k = k x h
below (Err e) f Q P h k = tt
