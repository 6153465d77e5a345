-- A script as lines: 'tx t n' or 'tx t n session s', then 1 to 32 lines 'read k' or 'write k E', then
-- 'end'. The same lines stand in a text of one script and in a document; a reader passes the keys that
-- were named before them, and how many may be named at most.
use Rattle.std.specs.Prelude.{◌≡◌, ℕ, ◌+◌, ◌==◌, nat_le, List, [], ◌∷◌, ◌++◌, length, Option, Some, None, Result, Ok, Err, if◌then◌else◌, codes}
use Rattle.std.specs.List.{slice_split, list_all}
use Rattle.std.specs.BTreeSet.{BTreeSet}
use Rattle.score_base.specs.declared.keys.Key.{Key}
use Rattle.score_base.specs.declared.ids.TxId.{TxId}
use Rattle.script_lang.specs.Scripts.{ScriptData}
use Rattle.script_lang.specs.Whys.{number_of}
use Rattle.script_lang.specs.declared.limits.TheConstants.{MAX_OPS, MAX_SESSION}
use Rattle.script_lang.specs.declared.scripts.Op.TheVariants as op
use Rattle.script_lang.specs.declared.script_lines.Stage.{Stage}
use Rattle.script_lang.specs.declared.script_lines.Stage.TheVariants as stage
use Rattle.script_lang.specs.declared.script_texts.TextDraft.{TextDraft}
use Rattle.script_lang.specs.declared.whys.At.{At}
use Rattle.script_lang.specs.declared.whys.ScriptEnd.{ScriptEnd}
use Rattle.script_lang.specs.declared.whys.ScriptEnd.TheVariants as ends
use Rattle.script_lang.specs.declared.whys.Why.{Why}
use Rattle.script_lang.specs.declared.whys.Why.TheVariants as why
use Rattle.script_lang.specs.Reads.{known_keys}
use Rattle.script_lang.specs.Reading.{◌>>=◌, is_word, word_at, end_at, number_at, in_range}
use Rattle.script_lang.specs.Words.{node_of, key_of, tx_of, is_printed}
use Rattle.script_lang.specs.Names.{name_key, new_number}
use Rattle.script_lang.specs.ExprWords.{expr_of}

-- The words of each line behind the first one.

-- the number of a session, and no word behind it
unfoldable pub session_number : List (List ℕ) → Result ℕ Why
session_number ws = do
  n ← number_at ws
  s ← in_range 1 MAX_SESSION n.0
  end ← end_at n.1
  Ok s

-- 'session s', or no word for no session
abbrev pub session_of : List (List ℕ) → Result ℕ Why
session_of [] = Ok 0
session_of (w ∷ ws) = if is_word w (codes "session") then session_number ws else Err why.Word

-- 'tx t n' or 'tx t n session s': a number that no other script has, the home, the session
unfoldable pub first_line : ℕ → BTreeSet TxId → List (List ℕ) → Result ScriptData Why
first_line nodes numbers ws = do
  w ← word_at ws
  t ← tx_of w.0
  new ← new_number numbers t
  v ← word_at w.1
  n ← node_of nodes v.0
  s ← session_of v.1
  Ok (record { number = t; home = n; session = s; ops = [] })

-- 'read k'
unfoldable pub read_line : ℕ → BTreeSet Key → ScriptData → List (List ℕ) → Result (Stage × BTreeSet Key) Why
read_line most named s ws = if nat_le MAX_OPS (length s.ops) then Err why.Limit else (do
  w ← word_at ws
  k ← key_of w.0
  more ← name_key most named k
  end ← end_at w.1
  Ok (stage.Open (record s { ops = s.ops ++ op.Read k ∷ [] }), more))

-- 'write k E', over the keys that were read before
unfoldable pub write_line : ℕ → BTreeSet Key → ScriptData → List (List ℕ) → Result (Stage × BTreeSet Key) Why
write_line most named s ws = if nat_le MAX_OPS (length s.ops) then Err why.Limit else (do
  w ← word_at ws
  k ← key_of w.0
  more ← name_key most named k
  e ← expr_of (known_keys s.ops) w.1
  Ok (stage.Open (record s { ops = s.ops ++ op.Write k e ∷ [] }), more))

-- 'end', behind at least one operation
unfoldable pub end_line : BTreeSet Key → ScriptData → List (List ℕ) → Result (Stage × BTreeSet Key) Why
end_line named s ws = if length s.ops == 0 then Err why.Missing else (do
  end ← end_at ws
  Ok (stage.Done s, named))

-- a line behind the first: what it makes of the script, and the keys named so far
abbrev pub body_line : ℕ → BTreeSet Key → ScriptData → List ℕ → List (List ℕ) → Result (Stage × BTreeSet Key) Why
body_line most named s w ws =
    if is_word w (codes "read") then read_line most named s ws else
    (if is_word w (codes "write") then write_line most named s ws else
    (if is_word w (codes "end") then end_line named s ws else Err why.Word))

-- A text of one script.

-- the first line
unfoldable pub begin_line : ℕ → BTreeSet Key → List ℕ → List (List ℕ) → Result (Stage × BTreeSet Key) Why
begin_line nodes named w ws = if is_word w (codes "tx") then (do
  s ← first_line nodes (record { keys = [] }) ws
  Ok (stage.Open s, named)) else Err why.Word

-- a line behind the first
abbrev pub stage_line : ℕ → Stage → BTreeSet Key → List ℕ → List (List ℕ) → Result (Stage × BTreeSet Key) Why
stage_line most (stage.Open s) named w ws = body_line most named s w ws
stage_line most (stage.Done s) named w ws = Err why.Word

-- a line, by what was read before it
abbrev pub text_line : ℕ → ℕ → Option Stage → BTreeSet Key → List ℕ → List (List ℕ) → Result (Stage × BTreeSet Key) Why
text_line most nodes None named w ws = begin_line nodes named w ws
text_line most nodes (Some x) named w ws = stage_line most x named w ws

unfoldable pub words_line : ℕ → ℕ → TextDraft → List (List ℕ) → Result TextDraft Why
words_line most nodes d [] = Err why.Word
words_line most nodes d (w ∷ ws) = do
  x ← text_line most nodes d.stage d.named w ws
  Ok (record { stage = Some x.0; named = x.1 })

-- a line of printed bytes, as words between single spaces
unfoldable pub line_of : ℕ → ℕ → TextDraft → List ℕ → Result TextDraft Why
line_of most nodes d line =
    if list_all is_printed line then words_line most nodes d (slice_split (λ b. b == 32) line) else Err why.Byte

-- what was read, or the fault of the line of this number
abbrev pub at_line : {A : Type 0} → ℕ → Result A Why → Result A At
at_line n (Ok x) = Ok x
at_line n (Err w) = Err (record { line = n; why = number_of w })

-- one line behind another: the first at fault decides
infixl 10 ◌>>>◌
abbrev pub ◌>>>◌ : {A B : Type 0} → Result A At → (A → Result B At) → Result B At
(Ok x) >>> f = f x
(Err e) >>> f = Err e

-- the script, once its 'end' was read
abbrev pub ended : Stage → Result ScriptData Why
ended (stage.Open s) = Err why.Missing
ended (stage.Done s) = Ok s

abbrev pub whole : Option Stage → Result ScriptData Why
whole None = Err why.Missing
whole (Some x) = ended x

-- the end of the text: nothing stands behind the last line feed, and 'end' was read
abbrev pub close : TextDraft → List ℕ → Result ScriptData Why
close d tail = if length tail == 0 then whole d.stage else Err why.Missing

-- The pieces between line feeds, the first of them with this number. The last has no line feed.
unfoldable pub lines_from : ℕ → ℕ → TextDraft → ℕ → List (List ℕ) → Result ScriptData At
lines_from most nodes d n [] = at_line n (Err why.Missing)
lines_from most nodes d n (x ∷ rest) =
    if length rest == 0 then at_line n (close d x)
    else (at_line n (line_of most nodes d x) >>> λ e. lines_from most nodes e (n + 1) rest)

-- nothing is read yet
abbrev pub unread : TextDraft
unread = record { stage = None; named = record { keys = [] } }

-- the script that a text spells in a cluster of so many nodes, where it may name at most so many keys,
-- or the first line at fault and why
unfoldable pub script_within : ℕ → ℕ → List ℕ → Result ScriptData At
script_within most nodes text = lines_from most nodes unread 1 (slice_split (λ b. b == 10) text)

-- The script that a text spells in a cluster of so many nodes, or the first line at fault and why. Each
-- operation names one key, so no limit of as many keys as there can be operations is ever met.
abbrev pub script_of_text : ℕ → List ℕ → Result ScriptData At
script_of_text nodes text = script_within MAX_OPS nodes text

abbrev pub FailsAt : {Y : Type 0} → ScriptEnd → Result Y At → Type 0
FailsAt ends.Memory read = Unit {0}
FailsAt (ends.Bad at) read = read ≡ Err at

-- what a function returned is what a reading gives, unless memory ran out
abbrev pub GivesScript : {Y : Type 0} → Result Y ScriptEnd → Result Y At → Type 0
GivesScript (Ok x) read = read ≡ Ok x
GivesScript (Err e) read = FailsAt e read
