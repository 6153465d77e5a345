-- How a script that was read from a text is spelled.
use Rattle.std.proofs.Common.{◌≡◌, ℕ, ◌+◌, ◌==◌, true, List, [], ◌∷◌, ◌++◌, length, map, Option, Some, None, Result, Ok, Err, IfOk, refl, sym, ap, ◌∙◌, arith, codes}
use Rattle.std.specs.BTreeSet.{BTreeSet}
use Rattle.std.specs.List.{flat_map, join_with_byte, slice_split, list_all}
use Rattle.std.specs.Cmp.Lexicographic.{same_text}
use Rattle.std.proofs.lemmas.Bool.Decides.{nat_tests}
use Rattle.std.proofs.lemmas.List.{append_assoc, append-nil, map-append}
use Rattle.std.proofs.lemmas.List.Splits.{join_with_byte-slice_split}
use Rattle.score_base.specs.declared.keys.Key.{Key}
use Rattle.script_lang.specs.Scripts.{ScriptData}
use Rattle.script_lang.specs.declared.script_lines.Stage.{Stage}
use Rattle.script_lang.specs.declared.script_lines.Stage.TheVariants as stage
use Rattle.script_lang.specs.declared.script_texts.TextDraft.{TextDraft}
use Rattle.script_lang.specs.declared.whys.At.{At}
use Rattle.script_lang.specs.declared.whys.Why.{Why}
use Rattle.script_lang.specs.Reading.{is_word}
use Rattle.script_lang.specs.Words.{is_printed}
use Rattle.script_lang.specs.Spelling.{op_words, tx_words, script_lines, script_text}
use Rattle.script_lang.specs.ScriptLines.{◌>>>◌, first_line, begin_line, body_line, text_line, words_line, line_of, at_line, close, unread, lines_from, script_within, script_of_text}
use Rattle.script_lang.specs.declared.limits.TheConstants.{MAX_OPS}
use Rattle.script_lang.proofs.Readings.{behind, either, weaken, at_ok}
use Rattle.script_lang.proofs.BodyRead.{first_line_read, body_read, stage_words, follows_words}

-- the words of the lines that were read
abbrev words_so_far : Option Stage → List (List (List ℕ))
words_so_far None = []
words_so_far (Some x) = stage_words x

begin_read : (nodes : ℕ) (named : BTreeSet Key) (w : List ℕ) (ws : List (List ℕ))
    → IfOk (begin_line nodes named w ws) (λ x. stage_words x.0 ≡ (w ∷ ws) ∷ [])
unfolding begin_line
begin_read nodes named w ws = either (is_word w (codes "tx")) _ _ _ (λ e. behind (first_line nodes (record { keys = [] }) ws) _ _ _ (first_line_read nodes (record { keys = [] }) ws) (λ s h.
    ap (λ ops. tx_words s ∷ map op_words ops) h.bare ∙ ap (λ l. l ∷ []) (sym h.spelled) ∙ ap (λ v. (v ∷ ws) ∷ []) (sym (same_text w (codes "tx") (sym e))))) (λ _. tt)

text_line_read : (most nodes : ℕ) (so_far : Option Stage) (named : BTreeSet Key) (w : List ℕ) (ws : List (List ℕ))
    → IfOk (text_line most nodes so_far named w ws) (λ x. stage_words x.0 ≡ words_so_far so_far ++ (w ∷ ws) ∷ [])
text_line_read most nodes None named w ws = begin_read nodes named w ws
text_line_read most nodes (Some (stage.Open s)) named w ws = weaken (body_line most named s w ws) _ _ (body_read most named s w ws) (λ x h. follows_words most named s (w ∷ ws) x.0 x.1 h)
text_line_read most nodes (Some (stage.Done s)) named w ws = tt

words_line_read : (most nodes : ℕ) (d : TextDraft) (ws : List (List ℕ))
    → IfOk (words_line most nodes d ws) (λ e. words_so_far e.stage ≡ words_so_far d.stage ++ ws ∷ [])
unfolding words_line
words_line_read most nodes d [] = tt
words_line_read most nodes d (w ∷ ws) = behind (text_line most nodes d.stage d.named w ws) _ (λ x. stage_words x.0 ≡ words_so_far d.stage ++ (w ∷ ws) ∷ []) _ (text_line_read most nodes d.stage d.named w ws) (λ x h. h)

-- the lines that were read
abbrev read_so_far : TextDraft → List (List ℕ)
read_so_far d = map (join_with_byte 32) (words_so_far d.stage)

-- the text of the lines that were read, with one more
line_read : (most nodes : ℕ) (d : TextDraft) (line : List ℕ)
    → IfOk (line_of most nodes d line) (λ e. read_so_far e ≡ read_so_far d ++ line ∷ [])
unfolding line_of
line_read most nodes d line = either (list_all is_printed line) _ _ _ (λ e. weaken (words_line most nodes d ws) _ _ (words_line_read most nodes d ws) (λ next h.
    ap (map (join_with_byte 32)) h ∙ map-append (join_with_byte 32) (words_so_far d.stage) (ws ∷ []) ∙ ap (λ l. read_so_far d ++ l ∷ []) (join_with_byte-slice_split 32 line))) (λ e. tt)
  where
    ws : List (List ℕ)
    ws = slice_split (λ b. b == 32) line

pub empty_list : {A : Type 0} (xs : List A) → (length xs == 0) ≡ true → xs ≡ []
empty_list [] e = refl
empty_list (x ∷ xs) e = absurd (grind (arith, nat_tests, e))

close_read : (so_far : Option Stage) (named : BTreeSet Key) (tail : List ℕ) → IfOk
    (close (record { stage = so_far; named = named }) tail)
    (λ s. map (join_with_byte 32) (words_so_far so_far) ++ tail ∷ [] ≡ script_lines s ++ [] ∷ [])
close_read None named tail = either (length tail == 0) _ _ _ (λ e. tt) (λ e. tt)
close_read (Some (stage.Open s)) named tail = either (length tail == 0) _ _ _ (λ e. tt) (λ e. tt)
close_read (Some (stage.Done s)) named tail = either (length tail == 0) _ _ _ (λ e. ap (λ l. script_lines s ++ l ∷ []) (empty_list tail e)) (λ e. tt)

lines_read : (most nodes : ℕ) (d : TextDraft) (n : ℕ) (pieces : List (List ℕ))
    → IfOk (lines_from most nodes d n pieces) (λ s. read_so_far d ++ pieces ≡ script_lines s ++ [] ∷ [])
unfolding lines_from
lines_read most nodes d n [] = tt
lines_read most nodes d n (x ∷ rest) = either (length rest == 0) _ _ _ (λ e. last (close d x) (empty_list rest e) (close_read d.stage d.named x)) (λ e. more (line_of most nodes d x) (line_read most nodes d x) (λ next. lines_read most nodes next (n + 1) rest))
  where
    last : (m : Result ScriptData Why) → rest ≡ [] → IfOk m (λ s. read_so_far d ++ x ∷ [] ≡ script_lines s ++ [] ∷ [])
        → IfOk (at_line n m) (λ s. read_so_far d ++ x ∷ rest ≡ script_lines s ++ [] ∷ [])
    last (Ok s) none h = ap (λ l. read_so_far d ++ x ∷ l) none ∙ h
    last (Err w) none h = tt

    again : (next : TextDraft) (r : Result ScriptData At) → read_so_far next ≡ read_so_far d ++ x ∷ []
        → IfOk r (λ s. read_so_far next ++ rest ≡ script_lines s ++ [] ∷ [])
        → IfOk r (λ s. read_so_far d ++ x ∷ rest ≡ script_lines s ++ [] ∷ [])
    again next (Ok s) h k = sym (ap (λ l. l ++ rest) h ∙ append_assoc (read_so_far d) (x ∷ []) rest) ∙ k
    again next (Err at) h k = tt

    more : (m : Result TextDraft Why) → IfOk m (λ next. read_so_far next ≡ read_so_far d ++ x ∷ [])
        → ((next : TextDraft)
        → IfOk (lines_from most nodes next (n + 1) rest) (λ s. read_so_far next ++ rest ≡ script_lines s ++ [] ∷ []))
        → IfOk (at_line n m >>> λ next. lines_from most nodes next (n + 1) rest)
        (λ s. read_so_far d ++ x ∷ rest ≡ script_lines s ++ [] ∷ [])
    more (Ok next) h k = again next (lines_from most nodes next (n + 1) rest) h (k next)
    more (Err w) h k = tt

-- pieces between line feeds, the last of them empty, are ended lines
join_ended : (ls : List (List ℕ)) → join_with_byte 10 (ls ++ [] ∷ []) ≡ flat_map (λ line. line ++ 10 ∷ []) ls
join_ended [] = refl
join_ended (l ∷ []) = sym (append-nil (l ++ 10 ∷ []))
join_ended (l ∷ m ∷ ls) = ap (λ t. l ++ 10 ∷ t) (join_ended (m ∷ ls)) ∙ sym (append_assoc l (10 ∷ []) (flat_map (λ line. line ++ 10 ∷ []) (m ∷ ls)))

-- whatever reads as a script is the text of the script
pub script_read : (nodes : ℕ) (text : List ℕ) (s : ScriptData) → script_of_text nodes text ≡ Ok s → text ≡ script_text s
unfolding script_within
script_read nodes text s is =
    let pieces : slice_split (λ b. b == 10) text ≡ script_lines s ++ [] ∷ [] = at_ok (lines_from MAX_OPS nodes unread 1 (slice_split (λ b. b == 10) text)) (λ s. slice_split (λ b. b == 10) text ≡ script_lines s ++ [] ∷ []) s (lines_read MAX_OPS nodes unread 1 (slice_split (λ b. b == 10) text)) is in
    sym (join_with_byte-slice_split 10 text) ∙ ap (join_with_byte 10) pieces ∙ join_ended (script_lines s)
