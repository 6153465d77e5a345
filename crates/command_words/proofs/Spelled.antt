-- Words that spell a drill ask for it, and what words ask for is in range.
use Rattle.std.proofs.Common.{◌≡◌, ◌∙◌, ◌||◌, ◌&&◌, ◌≤◌, ◌<◌, ◌^◌, ℕ, Bool, cond, codes, true, false, refl, sym, subst, ap, ap₂, arith, List, [], ◌∷◌, ◌++◌, Option, Some, None, inl, inr}
use Rattle.std.specs.Fmt.{decimal}
use Rattle.std.specs.Option.{option_and_then}
use Rattle.std.specs.Str.{bytes_eq}
use Rattle.std.proofs.lemmas.Bool.{le-leb}
use Rattle.std.proofs.lemmas.Bool.Decides.{leb_tells}
use Rattle.std.proofs.lemmas.Slice.Eq.{bytes_eq-Decides}
use Rattle.score_base.specs.Numbers.{number}
use Rattle.score_base.proofs.Spelling.{number-decimal}
use Rattle.command_words.specs.declared.commands.Command.{Command}
use Rattle.command_words.specs.declared.commands.Command.TheVariants.{Run, Drill}
use Rattle.command_words.specs.declared.limits.TheConstants.{MAX_SIZE}
use Rattle.command_words.specs.Commands.{IsSized, Pairs, Text, command_in, command_of, drill_by, drill_of, has_dashes, in_range, pairs_of, run_of, size_of}

-- ---- numbers

size_again : (z : ℕ) → 1 ≤ z → z ≤ MAX_SIZE → size_of (decimal z) ≡ Some z
size_again z least most =
    ap (option_and_then in_range) (number-decimal z (omega (arith, most)))
    ∙ rw (le-leb 1 z least, le-leb z MAX_SIZE most) refl

-- a spelled number is no `--`
not_dashes : (n : ℕ) → n < 2 ^ 64 → bytes_eq (decimal n) (codes "--") ≡ false
not_dashes n small = go (bytes_eq (decimal n) (codes "--")) refl
  where
    go : (b : Bool) → bytes_eq (decimal n) (codes "--") ≡ b → b ≡ false
    go false e = refl
    go true e =
        let spelled : number (codes "--") ≡ Some n =
        ap number (sym ((bytes_eq-Decides (decimal n) (codes "--")).0 e)) ∙ number-decimal n small in
        let never : ⊥ = cc in absurd never

-- ---- spelled words

pub two_words : (seed size : ℕ) → seed < 2 ^ 64 → 1 ≤ size → size ≤ MAX_SIZE
    → command_of (codes "drill" ∷ codes "--seed" ∷ decimal seed ∷ codes "--size" ∷ decimal size ∷ [])
    ≡ Some (Drill seed size)
two_words seed size small least most =
    ap₂ (λ (a b : Bool). cond (a || (b || false)) None
    (command_in (codes "drill" ∷ codes "--seed" ∷ decimal seed ∷ codes "--size" ∷ decimal size ∷ [])))
    (not_dashes seed small) (not_dashes size (omega (arith, most)))
    ∙ ap₂ drill_by (number-decimal seed small) (size_again size least most)

pub one_word : (seed size : ℕ) → seed < 2 ^ 64 → 1 ≤ size → size ≤ MAX_SIZE
    → command_of (codes "drill" ∷ (codes "--size=" ++ decimal size) ∷ (codes "--seed=" ++ decimal seed) ∷ [])
    ≡ Some (Drill seed size)
one_word seed size small least most = ap₂ drill_by (number-decimal seed small) (size_again size least most)

-- ---- ranges

in_range_tells : (n z : ℕ) → in_range n ≡ Some z → (1 ≤ z) × (z ≤ MAX_SIZE)
in_range_tells n z e = elim (leb_tells 1 n) [
  | inl a ↦ elim (leb_tells n MAX_SIZE) [
    | inl b ↦ let met : Some n ≡ Some z = rw (a.0, b.0) at e in let is : n ≡ z = cc in
        subst (λ x. (1 ≤ x) × (x ≤ MAX_SIZE)) is (a.1, b.1)
    | inr b ↦ let met : None ≡ Some z = rw (a.0, b.0) at e in let never : ⊥ = cc in absurd never
  ]
  | inr a ↦ let met : None ≡ Some z = rw a.0 at e in let never : ⊥ = cc in absurd never
]

drill_by_range : (s z : Option ℕ) (c : Command) → drill_by s (option_and_then in_range z) ≡ Some c → IsSized c
drill_by_range None None c e = cc
drill_by_range None (Some n) c e = cc
drill_by_range (Some s) None c e = cc
drill_by_range (Some s) (Some n) c e = go (in_range n) refl e
  where
    go : (o : Option ℕ) → in_range n ≡ o → drill_by (Some s) o ≡ Some c → IsSized c
    go None i h = cc
    go (Some z) i h = let is : Drill s z ≡ c = cc in subst IsSized is (in_range_tells n z i)

drill_range : (ps : Pairs) (c : Command) → drill_of ps ≡ Some c → IsSized c
drill_range [] c e = cc
drill_range (a ∷ []) c e = cc
drill_range (a ∷ b ∷ []) c e =
    go (bytes_eq (codes "--seed") a.0) (bytes_eq (codes "--size") b.0)
    (bytes_eq (codes "--size") a.0) (bytes_eq (codes "--seed") b.0) e
  where
    go : (p q r s : Bool) → cond (p && q) (drill_by (number a.1) (size_of b.1))
        (cond (r && s) (drill_by (number b.1) (size_of a.1)) None) ≡ Some c → IsSized c
    go true true r s h = drill_by_range (number a.1) (number b.1) c h
    go true false true true h = drill_by_range (number b.1) (number a.1) c h
    go true false true false h = cc
    go true false false s h = cc
    go false q true true h = drill_by_range (number b.1) (number a.1) c h
    go false q true false h = cc
    go false q false s h = cc
drill_range (a ∷ b ∷ x ∷ ps) c e = cc

run_range : (rest : List Text) (c : Command) → run_of rest ≡ Some c → IsSized c
run_range [] c e = let is : Run ≡ c = cc in subst IsSized is tt
run_range (w ∷ ws) c e = cc

word_range : (words : List Text) (c : Command) → command_in words ≡ Some c → IsSized c
word_range [] c e = cc
word_range (w ∷ rest) c e = go (bytes_eq (codes "run") w) (bytes_eq (codes "drill") w) e
  where
    of : (o : Option Pairs) → option_and_then drill_of o ≡ Some c → IsSized c
    of None h = cc
    of (Some ps) h = drill_range ps c h

    go : (r d : Bool) → cond r (run_of rest) (cond d (option_and_then drill_of (pairs_of rest)) None) ≡ Some c
        → IsSized c
    go true d h = run_range rest c h
    go false true h = of (pairs_of rest) h
    go false false h = cc

pub command_range : (words : List Text) (c : Command) → command_of words ≡ Some c → IsSized c
command_range words c e = go (has_dashes words) e
  where
    go : (b : Bool) → cond b None (command_in words) ≡ Some c → IsSized c
    go true h = cc
    go false h = word_range words c h
