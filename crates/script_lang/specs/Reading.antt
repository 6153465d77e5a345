-- Reading the words of a line from left to right: what was read, or the why of the first word at fault.
use Rattle.std.specs.Prelude.{◌≡◌, ℕ, ◌&&◌, nat_le, List, [], ◌∷◌, Bool, Option, Some, None, Result, Ok, Err, if◌then◌else◌, nat_eq}
use Rattle.std.specs.Cmp.Lexicographic.{pointwise}
use Rattle.score_base.specs.Numbers.{number}
use Rattle.script_lang.specs.declared.whys.LineEnd.{LineEnd}
use Rattle.script_lang.specs.declared.whys.LineEnd.TheVariants as ends
use Rattle.script_lang.specs.declared.whys.Why.{Why}
use Rattle.script_lang.specs.declared.whys.Why.TheVariants as why

-- one reader behind another: the first why decides
infixl 10 ◌>>=◌
abbrev pub ◌>>=◌ : {A B : Type 0} → Result A Why → (A → Result B Why) → Result B Why
(Ok x) >>= f = f x
(Err e) >>= f = Err e

abbrev pub Fails : {Y : Type 0} → LineEnd → Result Y Why → Type 0
Fails ends.Memory read = Unit {0}
Fails (ends.Why w) read = read ≡ Err w

-- what a function returned, seen by view, is what a reading gives, unless memory ran out
abbrev pub Gives : {X Y : Type 0} → (X → Y) → Result X LineEnd → Result Y Why → Type 0
Gives view (Ok x) read = read ≡ Ok (view x)
Gives view (Err e) read = Fails e read

-- a word has these bytes
abbrev pub is_word : List ℕ → List ℕ → Bool
is_word w bytes = pointwise nat_eq w bytes

-- the first word, and those behind it; none is a word too few
abbrev pub word_at : List (List ℕ) → Result (List ℕ × List (List ℕ)) Why
word_at [] = Err why.Missing
word_at (w ∷ ws) = Ok (w, ws)

-- no word is left; else there is a word too many
abbrev pub end_at : List (List ℕ) → Result (Unit {0}) Why
end_at [] = Ok tt
end_at (w ∷ ws) = Err why.Word

abbrev pub or_why : {A : Type 0} → Why → Option A → Result A Why
or_why w None = Err w
or_why w (Some x) = Ok x

-- a number as the first word, and the words behind it
unfoldable pub number_at : List (List ℕ) → Result (ℕ × List (List ℕ)) Why
number_at ws = do
  w ← word_at ws
  n ← or_why why.Number (number w.0)
  Ok (n, w.1)

-- a number in its range
abbrev pub in_range : ℕ → ℕ → ℕ → Result ℕ Why
in_range low high n = if nat_le low n && nat_le n high then Ok n else Err why.Limit

-- one step after the other, over the words to the end of the line
unfoldable pub steps : {S : Type 0} → (S → List ℕ → Result S Why) → S → List (List ℕ) → Result S Why
steps step s [] = Ok s
steps step s (w ∷ ws) = step s w >>= λ t. steps step t ws
