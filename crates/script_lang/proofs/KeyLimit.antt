-- A script alone names no more keys than it has operations, so a limit of that many is never met.
use Rattle.std.proofs.Common.{◌≡◌, ℕ, ◌+◌, ◌<◌, ◌≤◌, ◌==◌, nat_le, Bool, true, false, cond, List, [], ◌∷◌, length, length-append, Option, Some, None, Result, Ok, Err, IfOk, refl, ap, ◌∙◌, arith, codes}
use Rattle.std.specs.BTreeSet.{BTreeSet}
use Rattle.std.specs.Cmp.Lexicographic.{slice_cmp}
use Rattle.std.specs.Ordering.{nat_cmp}
use Rattle.std.specs.List.{slice_split, list_all}
use Rattle.std.proofs.lemmas.Bool.Decides.{nat_tests}
use Rattle.score_base.specs.declared.keys.Key.{Key}
use Rattle.script_lang.specs.declared.limits.TheConstants.{MAX_OPS}
use Rattle.script_lang.specs.declared.script_lines.Stage.{Stage}
use Rattle.script_lang.specs.declared.script_lines.Stage.TheVariants as stage
use Rattle.script_lang.specs.declared.script_texts.TextDraft.{TextDraft}
use Rattle.script_lang.specs.declared.whys.Why.{Why}
use Rattle.script_lang.specs.Scripts.{ScriptData}
use Rattle.script_lang.specs.Reads as reads
use Rattle.script_lang.specs.Reading.{◌>>=◌, is_word, word_at}
use Rattle.script_lang.specs.Words.{key_of, is_printed}
use Rattle.script_lang.specs.Names.{with_key, name_key}
use Rattle.script_lang.specs.ScriptLines.{◌>>>◌, first_line, read_line, write_line, body_line, begin_line, text_line, words_line, line_of, at_line, unread, lines_from, script_within, script_of_text}
use Rattle.script_lang.proofs.Readings.{behind, then, either, weaken}
use Rattle.script_lang.proofs.NamesRead.{insert_longer}
use Rattle.script_lang.proofs.BodyRead.{Follows, body_read}

-- a script so far has named no more keys than it has operations
abbrev HasFew : Option Stage → BTreeSet Key → Type 0
HasFew None named = length named.keys ≤ 0
HasFew (Some (stage.Open s)) named = length named.keys ≤ length s.ops
HasFew (Some (stage.Done s)) named = Unit {0}

-- Two readings that go on in the same way.

from_same : {A B : Type 0} (m n : Result A Why) (f : A → Result B Why) → m ≡ n → (m >>= f) ≡ (n >>= f)
from_same m n f e = ap (λ r. r >>= f) e

go_on_same : {A B : Type 0} (m : Result A Why) (f g : A → Result B Why) → ((x : A) → f x ≡ g x) → (m >>= f) ≡ (m >>= g)
go_on_same (Ok x) f g h = h x
go_on_same (Err w) f g h = refl

tests_same : {A : Type 0} (b : Bool) (x y x' y' : A) → (b ≡ true → x ≡ x') → (b ≡ false → y ≡ y')
    → cond b x y ≡ cond b x' y'
tests_same true x y x' y' h k = h refl
tests_same false x y x' y' h k = k refl

module _ (most : ℕ) (many : MAX_OPS ≤ most) where
  name_same : (named : BTreeSet Key) (s : ScriptData) (k : Key) → length named.keys ≤ length s.ops
      → nat_le MAX_OPS (length s.ops) ≡ false → name_key most named k ≡ name_key MAX_OPS named k
  name_same named s k few room =
      let short : length s.ops < MAX_OPS = grind (arith, nat_tests, room) in
      let fits : length (with_key named k).keys ≤ MAX_OPS = omega (arith, few, short, insert_longer (slice_cmp nat_cmp) k named.keys) in
      let fits_too : length (with_key named k).keys ≤ most = omega (arith, fits, many) in
      let small : nat_le (length (with_key named k).keys) MAX_OPS ≡ true = grind (arith, nat_tests, fits) in
      let small_too : nat_le (length (with_key named k).keys) most ≡ true = grind (arith, nat_tests, fits_too) in
      rw (small, small_too) refl

  read_same : (named : BTreeSet Key) (s : ScriptData) (ws : List (List ℕ)) → length named.keys ≤ length s.ops
      → read_line most named s ws ≡ read_line MAX_OPS named s ws
  unfolding read_line
  read_same named s ws few = tests_same (nat_le MAX_OPS (length s.ops)) _ _ _ _ (λ e. refl) (λ room.
      go_on_same (word_at ws) _ _ (λ w. go_on_same (key_of w.0) _ _ (λ k. from_same _ _ _ (name_same named s k few room))))

  write_same : (named : BTreeSet Key) (s : ScriptData) (ws : List (List ℕ)) → length named.keys ≤ length s.ops
      → write_line most named s ws ≡ write_line MAX_OPS named s ws
  unfolding write_line
  write_same named s ws few = tests_same (nat_le MAX_OPS (length s.ops)) _ _ _ _ (λ e. refl) (λ room.
      go_on_same (word_at ws) _ _ (λ w. go_on_same (key_of w.0) _ _ (λ k. from_same _ _ _ (name_same named s k few room))))

  body_same : (named : BTreeSet Key) (s : ScriptData) (w : List ℕ) (ws : List (List ℕ))
      → length named.keys ≤ length s.ops → body_line most named s w ws ≡ body_line MAX_OPS named s w ws
  body_same named s w ws few =
      tests_same (is_word w (codes "read")) _ _ _ _ (λ e. read_same named s ws few) (λ e.
      tests_same (is_word w (codes "write")) _ _ _ _ (λ f. write_same named s ws few) (λ f. refl))

  text_same : (nodes : ℕ) (o : Option Stage) (named : BTreeSet Key) (w : List ℕ) (ws : List (List ℕ)) → HasFew o named
      → text_line most nodes o named w ws ≡ text_line MAX_OPS nodes o named w ws
  text_same nodes None named w ws few = refl
  text_same nodes (Some (stage.Open s)) named w ws few = body_same named s w ws few
  text_same nodes (Some (stage.Done s)) named w ws few = refl

  words_same : (nodes : ℕ) (d : TextDraft) (ws : List (List ℕ)) → HasFew d.stage d.named
      → words_line most nodes d ws ≡ words_line MAX_OPS nodes d ws
  unfolding words_line
  words_same nodes d [] few = refl
  words_same nodes d (w ∷ ws) few = from_same _ _ _ (text_same nodes d.stage d.named w ws few)

  line_same : (nodes : ℕ) (d : TextDraft) (line : List ℕ) → HasFew d.stage d.named
      → line_of most nodes d line ≡ line_of MAX_OPS nodes d line
  unfolding line_of
  line_same nodes d line few = tests_same (list_all is_printed line) _ _ _ _ (λ e. words_same nodes d (slice_split (λ b. b == 32) line) few) (λ e. refl)

-- Each line keeps that.

follows_few : (named : BTreeSet Key) (s : ScriptData) (line : List (List ℕ)) (x : Stage) (more : BTreeSet Key)
    → Follows MAX_OPS named s line x more → length named.keys ≤ length s.ops → HasFew (Some x) more
follows_few named s line (stage.Open t) more h few =
    omega (arith, few, ap (λ (b : BTreeSet Key). length b.keys) h.names, insert_longer (slice_cmp nat_cmp) (reads.key_of h.last) named.keys, ap (λ (u : ScriptData). length u.ops) h.added, length-append s.ops (h.last ∷ []))
follows_few named s line (stage.Done t) more h few = tt

begin_few : (nodes : ℕ) (named : BTreeSet Key) (w : List ℕ) (ws : List (List ℕ)) → length named.keys ≤ 0
    → IfOk (begin_line nodes named w ws) (λ x. HasFew (Some x.0) x.1)
unfolding begin_line
begin_few nodes named w ws few = either (is_word w (codes "tx")) _ _ _ (λ e. then (first_line nodes (record { keys = [] }) ws) _ _ (λ s. omega (arith, few))) (λ e. tt)

text_few : (nodes : ℕ) (o : Option Stage) (named : BTreeSet Key) (w : List ℕ) (ws : List (List ℕ)) → HasFew o named
    → IfOk (text_line MAX_OPS nodes o named w ws) (λ x. HasFew (Some x.0) x.1)
text_few nodes None named w ws few = begin_few nodes named w ws few
text_few nodes (Some (stage.Open s)) named w ws few = weaken (body_line MAX_OPS named s w ws) _ _ (body_read MAX_OPS named s w ws) (λ x h. follows_few named s (w ∷ ws) x.0 x.1 h few)
text_few nodes (Some (stage.Done s)) named w ws few = tt

words_few : (nodes : ℕ) (d : TextDraft) (ws : List (List ℕ)) → HasFew d.stage d.named
    → IfOk (words_line MAX_OPS nodes d ws) (λ e. HasFew e.stage e.named)
unfolding words_line
words_few nodes d [] few = tt
words_few nodes d (w ∷ ws) few = behind (text_line MAX_OPS nodes d.stage d.named w ws) _ (λ x. HasFew (Some x.0) x.1) _ (text_few nodes d.stage d.named w ws few) (λ x h. h)

line_few : (nodes : ℕ) (d : TextDraft) (line : List ℕ) → HasFew d.stage d.named
    → IfOk (line_of MAX_OPS nodes d line) (λ e. HasFew e.stage e.named)
unfolding line_of
line_few nodes d line few = either (list_all is_printed line) _ _ _ (λ e. words_few nodes d (slice_split (λ b. b == 32) line) few) (λ e. tt)

lines_same : (most nodes : ℕ) → MAX_OPS ≤ most → (d : TextDraft) (n : ℕ) (pieces : List (List ℕ))
    → HasFew d.stage d.named → lines_from most nodes d n pieces ≡ lines_from MAX_OPS nodes d n pieces
unfolding lines_from
lines_same most nodes many d n [] few = refl
lines_same most nodes many d n (x ∷ rest) few = tests_same (length rest == 0) _ _ _ _ (λ e. refl) (λ e.
    ap (λ m. at_line n m >>> λ next. lines_from most nodes next (n + 1) rest) (line_same most many nodes d x few)
    ∙ on (line_of MAX_OPS nodes d x) (line_few nodes d x few) (λ next h. lines_same most nodes many next (n + 1) rest h))
  where
    on : (m : Result TextDraft Why) → IfOk m (λ next. HasFew next.stage next.named) → ((next : TextDraft)
        → HasFew next.stage next.named
        → lines_from most nodes next (n + 1) rest ≡ lines_from MAX_OPS nodes next (n + 1) rest)
        → (at_line n m >>> λ next. lines_from most nodes next (n + 1) rest)
        ≡ (at_line n m >>> λ next. lines_from MAX_OPS nodes next (n + 1) rest)
    on (Ok next) h k = k next h
    on (Err w) h k = refl

-- whatever may be named at most, that is no less than a script's operations can be, the reading is the same
pub same_script : (most nodes : ℕ) (text : List ℕ) → MAX_OPS ≤ most
    → script_within most nodes text ≡ script_of_text nodes text
unfolding script_within
same_script most nodes text many = lines_same most nodes many unread 1 (slice_split (λ b. b == 10) text) (omega arith)
