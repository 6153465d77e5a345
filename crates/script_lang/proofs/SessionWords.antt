-- The words that name a session: what was read, and what is read again.
use Rattle.std.proofs.Common.{◌≡◌, ℕ, zero, suc, ◌==◌, nat_le, true, false, List, [], ◌∷◌, Ok, IfOk, refl, sym, ap, ◌∙◌, arith, codes}
use Rattle.std.specs.Cmp.Lexicographic.{same_text}
use Rattle.std.specs.Fmt.{decimal}
use Rattle.std.proofs.lemmas.Bool.Decides.{nat_tests}
use Rattle.script_lang.specs.declared.limits.TheConstants.{MAX_SESSION}
use Rattle.script_lang.specs.Reading.{is_word, end_at, number_at, in_range}
use Rattle.script_lang.specs.ScriptLines.{session_number, session_of}
use Rattle.script_lang.specs.Spelling.{session_words}
use Rattle.script_lang.proofs.Readings.{behind, either, weaken}
use Rattle.script_lang.proofs.WordsRead.{number_read, in_range_read, end_read}
use Rattle.script_lang.proofs.WordsAgain.{goes, number_again, within_again, small}

-- a session has a number, so its words are there
some_words : (s : ℕ) → nat_le 1 s ≡ true → session_words s ≡ codes "session" ∷ decimal s ∷ []
some_words s h =
    let some : (s == 0) ≡ false = grind (arith, nat_tests, h) in
    rw some refl

-- What was read.

-- a session's number as the last word
record IsNumber (ws : List (List ℕ)) (s : ℕ) : Type 0 where
  pub spelled : ws ≡ decimal s ∷ []
  pub least : nat_le 1 s ≡ true
  pub most : nat_le s MAX_SESSION ≡ true

number_is : (ws : List (List ℕ)) → IfOk (session_number ws) (IsNumber ws)
unfolding session_number
number_is ws =
    behind (number_at ws) _ _ _ (number_read ws) (λ n a.
    behind (in_range 1 MAX_SESSION n.0) _ _ _ (in_range_read 1 MAX_SESSION n.0) (λ s b.
    behind (end_at n.1) _ (λ _. n.1 ≡ []) _ (end_read n.1) (λ _ e. record {
      spelled = a.0 ∙ ap (λ l. decimal n.0 ∷ l) e ∙ ap (λ m. decimal m ∷ []) (sym b.0);
      least = b.1;
      most = b.2;
    })))

pub session_read : (ws : List (List ℕ))
    → IfOk (session_of ws) (λ s. (ws ≡ session_words s) × (nat_le s MAX_SESSION ≡ true))
session_read [] = (refl, refl)
session_read (w ∷ ws) = either (is_word w (codes "session")) _ _ _ (λ e.
    let word : w ≡ codes "session" = same_text w (codes "session") (sym e) in
    weaken (session_number ws) _ _ (number_is ws) (λ s h.
    let spelled : codes "session" ∷ ws ≡ session_words s =
    ap (λ l. codes "session" ∷ l) h.spelled ∙ sym (some_words s h.least) in
    (ap (λ v. v ∷ ws) word ∙ spelled, h.most))) (λ _. tt)

-- What is read again.

number_again_is : (s : ℕ) → nat_le 1 s ≡ true → nat_le s MAX_SESSION ≡ true → session_number (decimal s ∷ []) ≡ Ok s
unfolding session_number
number_again_is s least most =
    goes (number_at (decimal s ∷ [])) _ (s, []) _ (number_again s [] (small s MAX_SESSION most (omega arith)))
    (goes (in_range 1 MAX_SESSION s) _ s _ (within_again 1 MAX_SESSION s least most) refl)

pub session_again : (s : ℕ) → nat_le s MAX_SESSION ≡ true → session_of (session_words s) ≡ Ok s
session_again zero most = refl
session_again (suc s) most =
    let least : nat_le 1 (suc s) ≡ true = grind (arith, nat_tests) in
    ap session_of (some_words (suc s) least) ∙ number_again_is (suc s) least most
