-- A file of version 2 as a compaction writes it: its generation, and its log.
use Rattle.std.proofs.Common.{get_or, take_at, subst, ◌≡◌, ℕ, suc, ◌+◌, ◌<◌, ◌≤◌, ◌^◌, nat_le, true, List, [], ◌∷◌, ◌++◌, length, take, drop, refl, sym, ap, ◌∙◌, arith, append_assoc, length-append, Some, Ok}
use Rattle.std.specs.List.{flat_map}
use Rattle.std.specs.List.{All}
use Rattle.std.specs.Int.{w64, to_be_bytes}
use Rattle.std.proofs.lemmas.List.{get_or_at}
use Rattle.std.proofs.lemmas.Nat.{from_be_bytes-to_be_bytes_8}
use Rattle.std.proofs.lemmas.Grind.{common_steps}
use Rattle.score_base.specs.declared.records.Record.{Record}
use Rattle.journal_records.specs.Records.{record_bytes, IsRecord}
use Rattle.node_journal.specs.Log.{generation, log_from, log, with_front, framed, Spells, IsLog, HasGateAt}
use Rattle.node_journal.specs.Pairs.{filling, open_block}
use Rattle.node_journal.proofs.Logs.{log_is}
use Rattle.node_journal.proofs.Versions.{version_second}
use Rattle.node_journal.proofs.Blocks.{behind-behind, spells_nil, spells_more}
use Rattle.node_journal.proofs.Frames.{record_block}

pub spells_append : (a b : List ℕ) (xs ys : List Record) → Spells a xs → Spells b ys → Spells (a ++ b) (xs ++ ys)
spells_append a b xs ys s t = record {
  read = λ place rest h.
      let some : 0 < length (b ++ rest) = omega (arith, length-append b rest) in
      ap (log_from place 0) (append_assoc a b rest)
      ∙ s.read place (b ++ rest) some
      ∙ ap (with_front xs) (t.read (place + length a) rest h)
      ∙ behind-behind xs ys _
      ∙ ap (λ p. with_front (xs ++ ys) (log_from p 0 rest)) (omega (arith, length-append a b));
}

spells_block : (r : Record) → IsRecord r → Spells (open_block r) (r ∷ [])
unfolding open_block
spells_block r is = spells_more [] (framed (record_bytes r)) [] r spells_nil (record_block r is)

pub spells_blocks : (records : List Record) → All IsRecord records → Spells (flat_map open_block records) records
spells_blocks [] all = spells_nil
spells_blocks (r ∷ rest) all =
    spells_append (open_block r) (flat_map open_block rest) (r
    ∷ []) rest (spells_block r (all 0 r (omega arith))) (spells_blocks rest (λ k d h. all (suc k) d (omega (arith, h))))

tested : (m n : ℕ) → m ≤ n → nat_le m n ≡ true
tested m n h = grind (arith, common_steps)

pub filling_generation : (g : ℕ) (records : List Record) → g < 2 ^ 64 → generation (2 ∷ filling g records) ≡ Some g
unfolding generation filling
filling_generation g records h =
    let bytes = to_be_bytes w64 g ++ flat_map open_block records ++ 0 ∷ [] in
    let long : 10 ≤ length (2 ∷ bytes) = omega (arith, length-append (flat_map open_block records) (0 ∷ [])) in
    rw (tested 10 _ long) (ap Some (from_be_bytes-to_be_bytes_8 g h))

pub filling_is : (g : ℕ) (records : List Record) → All IsRecord records →
    IsLog (2 ∷ filling g records) records (9 + length (flat_map open_block records))
unfolding filling
filling_is g records all =
    let blocks = flat_map open_block records in
    let bytes = 2 ∷ (to_be_bytes w64 g ++ blocks ++ 0 ∷ []) in
    let long : length bytes ≡ 10 + length blocks = omega (arith, length-append blocks (0 ∷ [])) in
    let v : HasGateAt bytes 9 = version_second bytes (omega (arith, long)) refl in
    let split : bytes ≡ (2 ∷ (to_be_bytes w64 g ++ blocks)) ++ 0 ∷ [] = refl in
    let here : length (2 ∷ (to_be_bytes w64 g ++ blocks)) ≡ 9 + length blocks = omega arith in
    let front : take (9 + length blocks) bytes ≡ 2 ∷ (to_be_bytes w64 g ++ blocks) =
    take_at (2 ∷ (to_be_bytes w64 g ++ blocks)) (0 ∷ []) (9 + length blocks) here in
    let gate : get_or bytes (9 + length blocks) 0 ≡ 0 =
    get_or_at (2 ∷ (to_be_bytes w64 g ++ blocks)) 0 [] 0 (9 + length blocks) here in
    record {
      version = v.version;
      place = omega (arith, v.gate);
      within = omega (arith, long);
      closed = λ e. omega (arith, gate, e);
      spelled =
          subst (λ n. Spells (drop n (take (9 + length blocks) bytes)) records) (sym v.gate)
          (subst (λ xs. Spells (drop 9 xs) records) (sym front) (spells_blocks records all));
    }

pub filling_log : (g : ℕ) (records : List Record) → All IsRecord records → log (2 ∷ filling g records) ≡ Ok records
filling_log g records all =
    log_is (2 ∷ filling g records) records (9 + length (flat_map open_block records)) (filling_is g records all)
