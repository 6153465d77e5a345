-- Texts in pieces: lines and words, and where they lie.
use Rattle.std.specs.Prelude.{ℕ, ◌+◌, ◌≤◌, ◌==◌, List, [], ◌∷◌, length, if◌then◌else◌}
use Rattle.std.specs.List.{slice_split}
use Rattle.score_base.specs.declared.spans.Span.{Span}

-- the pieces between the separators, empty pieces included
abbrev pub pieces : ℕ → List ℕ → List (List ℕ)
pieces separator text = slice_split (λ b. b == separator) text

-- pieces without the last where that is empty
abbrev pub but_empty_last : List (List ℕ) → List (List ℕ)
but_empty_last [] = []
but_empty_last (piece ∷ []) = if length piece == 0 then [] else (piece ∷ [])
but_empty_last (piece ∷ next ∷ rest) = piece ∷ but_empty_last (next ∷ rest)

-- the pieces between line feeds, and a last piece without one where it isn't empty
abbrev pub lines : List ℕ → List (List ℕ)
lines text = but_empty_last (pieces 10 text)

-- the pieces between single spaces, empty pieces included
abbrev pub words : List ℕ → List (List ℕ)
words line = pieces 32 line

-- the spans of pieces that lie one behind the other from a place on, with one byte between two
abbrev pub places : ℕ → List (List ℕ) → List Span
places at [] = []
places at (piece ∷ rest) = record { start = at; end = at + length piece } ∷ places (at + length piece + 1) rest

-- each span begins behind the end of the one before, and none ends behind the end of the text
abbrev pub LieInOrder : ℕ → ℕ → List Span → Type 0
LieInOrder from end [] = Unit {0}
LieInOrder from end (s ∷ rest) = (from ≤ s.start) × (s.start ≤ s.end) × (s.end ≤ end) × LieInOrder (s.end + 1) end rest
