-- What a file reads as, from the place up to which it was read.
use Rattle.std.proofs.Common.{◌≡◌, ℕ, ◌+◌, ◌<◌, ◌≤◌, nat_le, true, false, List, [], ◌∷◌, ◌++◌, length, take, drop, refl, sym, ap, ◌∙◌, inl, inr, arith, get_or, subst, append_assoc, append-nil, length-append, length-take-le, length-drop, add-one, drop-cons, take_at, drop_at, Some, None, Ok, Err}
use Rattle.std.proofs.lemmas.Grind.{common_steps}
use Rattle.std.proofs.lemmas.Bool.{cases_lt}
use Rattle.std.proofs.lemmas.List.{take-append-drop, drop-append-le}
use Rattle.std.proofs.Math.Seq.{take-add}
use Rattle.score_base.specs.declared.records.Record.{Record}
use Rattle.score_disk.specs.Files.{put_at}
use Rattle.score_disk.proofs.Places.{take-put_at}
use Rattle.node_journal.specs.Log.{log_from, generation, has_version, first_gate, log, block_at, with_front, Spells, IsLog}
use Rattle.node_journal.specs.Torn.{KeepsClosed, opened_at}
use Rattle.node_journal.proofs.Versions.{gate_least, SameVersion, same_version}
use Rattle.node_journal.proofs.Blocks.{log_closed, log_fault, IsBlock, taken_block, spells_more}

read_to : (bytes : List ℕ) (rs : List Record) (first at : ℕ) → first ≤ at → at < length bytes
    → Spells (drop first (take at bytes)) rs
    → log_from first 0 (drop first bytes) ≡ with_front rs (log_from at 0 (drop at bytes))
read_to bytes rs first at low high s =
    let here : length (take at bytes) ≡ at = length-take-le at bytes (omega arith) in
    let split : drop first bytes ≡ drop first (take at bytes) ++ drop at bytes = sym (ap (drop first) (take-append-drop at bytes)) ∙ drop-append-le first (take at bytes) (drop at bytes) (omega (arith, here)) in
    let left : 0 < length (drop at bytes) = omega (arith, length-drop at bytes) in
    let place : first + length (drop first (take at bytes)) ≡ at = omega (arith, length-drop first (take at bytes), here) in
    ap (log_from first 0) split ∙ (s.read first (drop at bytes) left ∙ ap (λ p. with_front rs (log_from p 0 (drop at bytes))) place)

pub at_gate : (bytes : List ℕ) (at : ℕ) → at < length bytes → drop at bytes ≡ get_or bytes at 0 ∷ drop (at + 1) bytes
at_gate bytes at h = rw add-one (drop-cons bytes at 0 h)

pub log_short : (bytes : List ℕ) → length bytes ≤ 2 → log bytes ≡ Ok []
unfolding log
log_short bytes h =
    let short : nat_le (length bytes) 2 ≡ true = grind (arith, common_steps) in
    rw short refl

pub log_unversioned : (bytes : List ℕ) → 2 < length bytes → has_version bytes ≡ false → log bytes ≡ Err 0
unfolding log
log_unversioned bytes h v =
    let long : nat_le (length bytes) 2 ≡ false = grind (arith, common_steps) in
    rw (long, v) refl

log_versioned : (bytes : List ℕ) → 2 < length bytes → has_version bytes ≡ true
    → log bytes ≡ log_from (first_gate bytes) 0 (drop (first_gate bytes) bytes)
unfolding log
log_versioned bytes h v =
    let long : nat_le (length bytes) 2 ≡ false = grind (arith, common_steps) in
    rw (long, v) refl

none_before : (front : List ℕ) (rs : List Record) → length front ≡ 0 → Spells front rs → rs ≡ []
none_before (x ∷ xs) rs h s = absurd (omega (arith, h))
none_before [] rs h s =
    let ends : log_from 0 0 (0 ∷ []) ≡ Ok [] = log_closed 0 0 [] (λ e. omega (arith, e)) in
    let read : log_from 0 0 (0 ∷ []) ≡ with_front rs (log_from 0 0 (0 ∷ [])) = s.read 0 (0 ∷ []) (omega arith) in
    let both : Ok [] ≡ with_front rs (Ok []) = sym ends ∙ read ∙ ap (with_front rs) ends in
    let nil : [] ≡ rs ++ [] = cc in
    sym (append-nil rs) ∙ sym nil

-- the two forms of a log agree
pub log_is : (bytes : List ℕ) (rs : List Record) (gate : ℕ) → IsLog bytes rs gate → log bytes ≡ Ok rs
log_is bytes rs gate l =
    let ends : log_from gate 0 (drop gate bytes) ≡ Ok [] = ap (log_from gate 0) (at_gate bytes gate l.within) ∙ log_closed gate _ _ l.closed in
    elim (cases_lt 2 (length bytes)) [
      | inl long ↦ log_versioned bytes long l.version ∙ read_to bytes rs (first_gate bytes) gate l.place l.within l.spelled ∙ ap (with_front rs) ends ∙ ap Ok (append-nil rs)
      | inr short ↦
          let front : length (drop (first_gate bytes) (take gate bytes)) ≡ 0 = omega (arith, length-drop (first_gate bytes) (take gate bytes), length-take-le gate bytes (omega (arith, l.within)), gate_least bytes, l.within, short) in
          log_short bytes short ∙ ap Ok (sym (none_before (drop (first_gate bytes) (take gate bytes)) rs front l.spelled))
    ]

-- an open gate that no block follows
pub log_bad : (bytes : List ℕ) (rs : List Record) (at : ℕ) → 2 < length bytes → has_version bytes ≡ true
    → first_gate bytes ≤ at → at < length bytes → Spells (drop (first_gate bytes) (take at bytes)) rs
    → get_or bytes at 0 ≡ 1 → block_at (drop (at + 1) bytes) ≡ None → log bytes ≡ Err at
log_bad bytes rs at long v low high s one none =
    let here : drop at bytes ≡ 1 ∷ drop (at + 1) bytes = at_gate bytes at high ∙ ap (λ g. g ∷ drop (at + 1) bytes) one in
    let fault : log_from at 0 (drop at bytes) ≡ Err at = ap (log_from at 0) here ∙ log_fault at (drop (at + 1) bytes) none in
    log_versioned bytes long v ∙ read_to bytes rs (first_gate bytes) at low high s ∙ ap (with_front rs) fault

-- one block more
pub spells_next : (bytes : List ℕ) (rs : List Record) (r : Record) (first at n : ℕ) → first ≤ at → at < length bytes
    → Spells (drop first (take at bytes)) rs → get_or bytes at 0 ≡ 1 → block_at (drop (at + 1) bytes) ≡ Some (r, n)
    → Spells (drop first (take (at + (1 + n)) bytes)) (rs ++ r ∷ [])
spells_next bytes rs r first at n low high s one found =
    let here : drop at bytes ≡ 1 ∷ drop (at + 1) bytes = at_gate bytes at high ∙ ap (λ g. g ∷ drop (at + 1) bytes) one in
    let block = taken_block (drop (at + 1) bytes) r n found in
    let next : take (1 + n) (drop at bytes) ≡ 1 ∷ take n (drop (at + 1) bytes) = ap (take (1 + n)) here ∙ grind (arith, common_steps) in
    let long : first ≤ length (take at bytes) = omega (arith, length-take-le at bytes (omega arith), low) in
    let front : drop first (take (at + (1 + n)) bytes) ≡ drop first (take at bytes) ++ (1 ∷ take n (drop (at + 1) bytes)) =
    ap (drop first) (take-add at (1 + n) bytes) ∙ drop-append-le first (take at bytes) _ long ∙ ap (λ l. drop first (take at bytes) ++ l) next in
    subst (λ l. Spells l (rs ++ r ∷ [])) (sym front) (spells_more (drop first (take at bytes)) (take n (drop (at + 1) bytes)) rs r s block.1)

-- bytes that are a log's up to its gate have its version
pub version_kept : (old c : List ℕ) (rs : List Record) (gate : ℕ) → IsLog old rs gate → gate < length c
    → take gate c ≡ take gate old → SameVersion old c
version_kept old c rs gate l high front = same_version old c gate l.version l.place high front

-- an image that keeps the gate closed
pub log_kept : (old c : List ℕ) (rs : List Record) (gate : ℕ) → IsLog old rs gate → KeepsClosed old gate c
    → IsLog c rs gate
log_kept old c rs gate l k =
    let same : SameVersion old c = version_kept old c rs gate l k.place k.front in
    record {
      version = same.version;
      place = omega (arith, same.gate, l.place);
      within = k.place;
      closed = k.closed;
      spelled = subst (λ n. Spells (drop n (take gate c)) rs) (sym same.gate) (subst (λ xs. Spells (drop (first_gate old) xs) rs) (sym k.front) l.spelled);
    }

behind_put : (xs : List ℕ) (at : ℕ) (bytes : List ℕ) → at ≤ length xs
    → drop at (put_at xs at bytes) ≡ bytes ++ drop (at + length bytes) xs
behind_put xs at bytes h = ap (drop at) (append_assoc (take at xs) bytes (drop (at + length bytes) xs)) ∙ drop_at (take at xs) (bytes ++ drop (at + length bytes) xs) at (length-take-le at xs h)

pub opened_is : (old frame : List ℕ) (gate : ℕ) → gate < length old
    → opened_at old gate frame ≡ take gate old ++ (1 ∷ (frame ++ drop (gate + 1 + length frame) old))
opened_is old frame gate h =
    let inner : take gate (put_at old (gate + 1) frame) ≡ take gate old = take-put_at old (gate + 1) gate frame (omega arith) (omega arith) in
    let outer : drop (gate + 1) (put_at old (gate + 1) frame) ≡ frame ++ drop (gate + 1 + length frame) old = behind_put old (gate + 1) frame (omega arith) in
    append_assoc (take gate (put_at old (gate + 1) frame)) (1 ∷ []) (drop (gate + 1) (put_at old (gate + 1) frame)) ∙ ap (λ l. l ++ (1 ∷ drop (gate + 1) (put_at old (gate + 1) frame))) inner ∙ ap (λ l. take gate old ++ (1 ∷ l)) outer

pub opened_version : (old frame : List ℕ) (rs : List Record) (gate : ℕ) → IsLog old rs gate
    → generation (opened_at old gate frame) ≡ generation old
opened_version old frame rs gate l =
    let c = opened_at old gate frame in
    let rest = 1 ∷ (frame ++ drop (gate + 1 + length frame) old) in
    let whole : c ≡ take gate old ++ rest = opened_is old frame gate l.within in
    let here : length (take gate old) ≡ gate = length-take-le gate old (omega (arith, l.within)) in
    let high : gate < length c = omega (arith, ap length whole, length-append (take gate old) rest, here) in
    (version_kept old c rs gate l high (ap (take gate) whole ∙ take_at (take gate old) rest gate here)).number

-- the gate is open, and a block with a closed gate stands behind it
pub log_opened : (old block : List ℕ) (rs : List Record) (r : Record) (gate : ℕ) → IsLog old rs gate → IsBlock block r
    → IsLog (opened_at old gate (block ++ 0 ∷ [])) (rs ++ r ∷ []) (gate + (1 + length block))
log_opened old block rs r gate l b =
    let rest = drop (gate + 1 + length (block ++ 0 ∷ [])) old in
    let c = opened_at old gate (block ++ 0 ∷ []) in
    let here : length (take gate old) ≡ gate = length-take-le gate old (omega (arith, l.within)) in
    let whole : c ≡ (take gate old ++ (1 ∷ block)) ++ (0 ∷ rest) =
    opened_is old (block ++ 0 ∷ []) gate l.within ∙ ap (λ l. take gate old ++ (1 ∷ l)) (append_assoc block (0 ∷ []) rest) ∙ sym (append_assoc (take gate old) (1 ∷ block) (0 ∷ rest)) in
    let long : length (take gate old ++ (1 ∷ block)) ≡ gate + (1 + length block) = omega (arith, length-append (take gate old) (1 ∷ block), here) in
    let front : take (gate + (1 + length block)) c ≡ take gate old ++ (1 ∷ block) = ap (take (gate + (1 + length block))) whole ∙ take_at (take gate old ++ (1 ∷ block)) (0 ∷ rest) (gate + (1 + length block)) long in
    let behind_front : drop (gate + (1 + length block)) c ≡ 0 ∷ rest = ap (drop (gate + (1 + length block))) whole ∙ drop_at (take gate old ++ (1 ∷ block)) (0 ∷ rest) (gate + (1 + length block)) long in
    let size : length c ≡ gate + (1 + length block) + length (0 ∷ rest) = ap length whole ∙ length-append (take gate old ++ (1 ∷ block)) (0 ∷ rest) ∙ ap (λ n. n + length (0 ∷ rest)) long in
    let within : gate + (1 + length block) < length c = omega (arith, size) in
    let byte : get_or c (gate + (1 + length block)) 0 ≡ 0 = let both : get_or c (gate + (1 + length block)) 0 ∷ drop (gate + (1 + length block) + 1) c ≡ 0 ∷ rest = sym (at_gate c (gate + (1 + length block)) within) ∙ behind_front in cc in
    let here_too : take gate c ≡ take gate old = ap (take gate) (whole ∙ append_assoc (take gate old) (1 ∷ block) (0 ∷ rest)) ∙ take_at (take gate old) _ gate here in
    let same : SameVersion old c = version_kept old c rs gate l (omega (arith, within)) here_too in
    let low : first_gate old ≤ length (take gate old) = omega (arith, here, l.place) in
    record {
      version = same.version;
      place = omega (arith, same.gate, l.place);
      within = within;
      closed = λ e. omega (arith, byte, e);
      spelled = subst (λ n. Spells (drop n (take (gate + (1 + length block)) c)) (rs ++ r ∷ [])) (sym same.gate) (subst (λ xs. Spells (drop (first_gate old) xs) (rs ++ r ∷ [])) (sym front) (subst (λ xs. Spells xs (rs ++ r ∷ [])) (sym (drop-append-le (first_gate old) (take gate old) (1 ∷ block) low)) (spells_more (drop (first_gate old) (take gate old)) block rs r l.spelled b)));
    }
