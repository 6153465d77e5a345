-- What a gate tells of the file.
use Rattle.std.proofs.Common.{◌≡◌, ℕ, ◌+◌, ◌-◌, ◌<◌, ◌≤◌, min, List, [], ◌∷◌, ◌++◌, length, take, drop, refl, sym, ap, subst, ◌∙◌, arith, get_or, length-drop, None, Result, Ok, Err}
use Rattle.std.specs.Prelude.{IfOk, IfErr, slice_range}
use Rattle.std.proofs.lemmas.List.{drop-take, take_min}
use Rattle.score_base.specs.declared.records.Record.{Record}
use Rattle.node_journal.specs.declared.reading.Gate.{Gate}
use Rattle.node_journal.specs.declared.reading.Gate.TheVariants.{Closed, Open}
use Rattle.node_journal.specs.declared.reading.ReadEnd.{ReadEnd}
use Rattle.node_journal.specs.declared.reading.ReadEnd.TheVariants.{Failed, Bad, Memory}
use Rattle.node_journal.specs.Gates.{IsGate, IsFault, IfBad}
use Rattle.node_journal.specs.Log.{block_at, first_gate, log, Spells, HasGateAt}
use Rattle.node_journal.proofs.Blocks.{block_front}
use Rattle.node_journal.proofs.Logs.{at_gate, log_bad, spells_next}

first_taken : (xs : List ℕ) → get_or (take 4100 xs) 0 0 ≡ get_or xs 0 0
first_taken [] = refl
first_taken (x ∷ xs) = refl

rest_taken : (xs : List ℕ) → block_at (drop 1 (take 4100 xs)) ≡ block_at (drop 1 xs)
rest_taken xs = ap block_at (drop-take 1 4099 xs) ∙ block_front 4099 (drop 1 xs) (omega arith)

-- the longest block behind a gate tells the gate
pub gate_taken : (xs : List ℕ) (gate : Gate) → IsGate (take 4100 xs) gate → IsGate xs gate
gate_taken xs Closed h = λ e. h (first_taken xs ∙ e)
gate_taken xs (Open r n) h = (sym (first_taken xs) ∙ h.0, sym (rest_taken xs) ∙ h.1)

pub fault_taken : (xs : List ℕ) → IsFault (take 4100 xs) → IsFault xs
fault_taken xs f = record { gate = sym (first_taken xs) ∙ f.gate; block = sym (rest_taken xs) ∙ f.block }

pub gates_taken : {P : Type 0} (result : Result Gate ReadEnd) (piece xs : List ℕ) → (P → piece ≡ take 4100 xs)
    → IfOk result (IsGate piece) → IfOk result (λ gate. P → IsGate xs gate)
gates_taken (Err e) piece xs same h = h
gates_taken (Ok gate) piece xs same h = λ p. gate_taken xs gate (subst (λ l. IsGate l gate) (same p) h)

pub faults_taken : {P : Type 0} (result : Result Gate ReadEnd) (piece xs : List ℕ) (place : ℕ)
    → (P → piece ≡ take 4100 xs) → IfErr result (λ end. IfBad end (λ at. (at ≡ place) × IsFault piece))
    → IfErr result (λ end. IfBad end (λ at. (at ≡ place) × (P → IsFault xs)))
faults_taken (Ok gate) piece xs place same h = h
faults_taken (Err Failed) piece xs place same h = h
faults_taken (Err Memory) piece xs place same h = h
faults_taken (Err (Bad at)) piece xs place same h = (h.0, λ p. fault_taken xs (subst IsFault (same p) h.1))

-- the piece of a file that is read at a gate
pub piece_taken : (bytes piece : List ℕ) (at len n : ℕ) → piece ≡ slice_range bytes at (at + n) → len ≡ length bytes
    → at ≤ len → n ≡ min (len - at) 4100 → piece ≡ take 4100 (drop at bytes)
piece_taken bytes piece at len n p l h e =
    let same : n ≡ min 4100 (length (drop at bytes)) = omega (arith, e, l, length-drop at bytes) in
    let count : (at + n) - at ≡ n = omega arith in
    p ∙ (ap (λ k. take k (drop at bytes)) (count ∙ same) ∙ take_min 4100 (drop at bytes))

from_first : (bytes : List ℕ) (rs : List Record) (first at : ℕ) → HasGateAt bytes first
    → Spells (drop first (take at bytes)) rs → Spells (drop (first_gate bytes) (take at bytes)) rs
from_first bytes rs first at v s = subst (λ n. Spells (drop n (take at bytes)) rs) (sym v.gate) s

-- a fault at this place, where the file was read up to there
pub bad_at : {P : Type 0} (end : ReadEnd) (bytes : List ℕ) (rs : List Record) (first at : ℕ) → (P → 2 < length bytes)
    → (P → HasGateAt bytes first) → first ≤ at → (P → at < length bytes) → (P → Spells (drop first (take at bytes)) rs)
    → IfBad end (λ place. (place ≡ at) × (P → IsFault (drop at bytes))) → IfBad end (λ place. P → log bytes ≡ Err place)
bad_at Failed bytes rs first at long v low high s h = h
bad_at Memory bytes rs first at long v low high s h = h
bad_at (Bad place) bytes rs first at long v low high s h = λ p.
    let here : drop at bytes ≡ get_or bytes at 0 ∷ drop (at + 1) bytes = at_gate bytes at (high p) in
    let one : get_or bytes at 0 ≡ 1 = sym (ap (λ l. get_or l 0 0) here) ∙ (h.1 p).gate in
    let none : block_at (drop (at + 1) bytes) ≡ None = sym (ap (λ l. block_at (drop 1 l)) here) ∙ (h.1 p).block in
    log_bad bytes rs at (long p) (v p).version (omega (arith, (v p).gate, low)) (high p) (from_first bytes rs first at (v p) (s p)) one none ∙ ap Err (sym h.0)

-- a record at this place
pub next_at : (bytes : List ℕ) (rs : List Record) (r : Record) (first at n : ℕ) → first ≤ at → at < length bytes
    → Spells (drop first (take at bytes)) rs → IsGate (drop at bytes) (Open r n)
    → Spells (drop first (take (at + (1 + n)) bytes)) (rs ++ r ∷ [])
next_at bytes rs r first at n low high s h =
    let here : drop at bytes ≡ get_or bytes at 0 ∷ drop (at + 1) bytes = at_gate bytes at high in
    spells_next bytes rs r first at n low high s (sym (ap (λ l. get_or l 0 0) here) ∙ h.0) (sym (ap (λ l. block_at (drop 1 l)) here) ∙ h.1)
