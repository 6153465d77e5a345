-- What a compaction makes of a pair.
use Rattle.std.proofs.Common.{◌≡◌, ℕ, ◌+◌, ◌<◌, ◌≤◌, ◌^◌, not, Bool, true, false, List, [], ◌∷◌, length, sym, ap, subst, ◌∙◌, arith, length-append, Option, Some, None, Ok}
use Rattle.std.specs.List.{All, flat_map}
use Rattle.std.proofs.lemmas.Grind.{common_steps}
use Rattle.score_base.specs.declared.records.Record.{Record}
use Rattle.score_disk.specs.Files.{File}
use Rattle.journal_records.specs.Records.{record_bytes, IsRecord}
use Rattle.node_journal.specs.Log.{generation, log, framed, IsLog}
use Rattle.node_journal.specs.Pairs.{age, number_of, in_order, pair_log, IsLive, filling, open_block}
use Rattle.node_journal.proofs.Fillings.{filling_generation, filling_is}
use Rattle.node_journal.proofs.Logs.{log_is}
use Rattle.node_journal.proofs.Pairs.{pair_is}

filling_length : (g : ℕ) (records : List Record) → length (filling g records) ≡ 9 + length (flat_map open_block records)
unfolding filling
filling_length g records = omega (arith, length-append (flat_map open_block records) (0 ∷ []))

-- the file that was spelled
pub spelled_is : (spelled : List ℕ) (g : ℕ) (records : List Record) → spelled ≡ filling g records →
    All IsRecord records → IsLog (2 ∷ spelled) records (length spelled)
spelled_is spelled g records e all =
    subst (λ xs. IsLog (2
    ∷ xs) records (length xs)) (sym e) (subst (IsLog (2
    ∷ filling g records) records) (sym (filling_length g records)) (filling_is g records all))

pub spelled_generation : (spelled : List ℕ) (g : ℕ) (records : List Record) → spelled ≡ filling g records → g < 2 ^ 64 →
    generation (2 ∷ spelled) ≡ Some g
spelled_generation spelled g records e h = ap (λ xs. generation (2 ∷ xs)) e ∙ filling_generation g records h

some_bytes : (records : List Record) → length records ≤ length (flat_map open_block records)
unfolding open_block
some_bytes [] = omega arith
some_bytes (r ∷ rest) =
    omega (arith, some_bytes rest, length-append (1 ∷ framed (record_bytes r)) (flat_map open_block rest))

-- no more records than bytes
pub spelled_long : (spelled : List ℕ) (g : ℕ) (records : List Record) → spelled ≡ filling g records →
    length records ≤ length spelled
spelled_long spelled g records e = omega (arith, ap length e, filling_length g records, some_bytes records)

-- the next generation is younger
pub next_age : (live new : List ℕ) (n : ℕ) → number_of (generation live) ≡ n → generation new ≡ Some (n + 1) →
    age (generation live) < age (generation new)
next_age live new n e f = omega (arith, ap age f, at_most (generation live), e)
  where
    at_most : (gen : Option ℕ) → age gen ≤ number_of gen + 1
    at_most None = omega arith
    at_most (Some g) = omega arith

-- the younger file is the live one, in the other place
pub turned : (second : Bool) (live now : List ℕ) → age (generation live) < age (generation now) →
    IsLive (not second) now live
turned true live now h = grind (arith, common_steps)
turned false live now h = grind (arith, common_steps)

-- what holds of two disks' files in their order holds of the disks as they are placed
pub seated : {D : Type 0} (file : D → File) (second : Bool) (live other first last : D) (R : File → File → Type 0) →
    first ≡ in_order second (λ a b. a) live other → last ≡ in_order second (λ a b. b) live other →
    in_order second R (file live) (file other) → R (file first) (file last)
seated file true live other first last R e f h =
    subst (λ d. R (file d) (file last)) (sym e) (subst (λ d. R (file other) (file d)) (sym f) h)
seated file false live other first last R e f h =
    subst (λ d. R (file d) (file last)) (sym e) (subst (λ d. R (file live) (file d)) (sym f) h)

-- and each is found again in its place
pub seated_live : {D : Type 0} (second : Bool) (live other first last : D) →
    first ≡ in_order second (λ a b. a) live other → last ≡ in_order second (λ a b. b) live other →
    in_order second (λ a b. a) first last ≡ live
seated_live true live other first last e f = f
seated_live false live other first last e f = e

pub seated_other : {D : Type 0} (second : Bool) (live other first last : D) →
    first ≡ in_order second (λ a b. a) live other → last ≡ in_order second (λ a b. b) live other →
    in_order second (λ a b. b) first last ≡ other
seated_other true live other first last e f = e
seated_other false live other first last e f = f

-- and so does the log of the two
pub placed_log : (second : Bool) (live other : File) (records : List Record) → IsLive second live.seen other.seen →
    log live.seen ≡ Ok records → in_order second (λ a b. pair_log a.seen b.seen ≡ Ok records) live other
placed_log true live other records l e = pair_is true live.seen other.seen l ∙ e
placed_log false live other records l e = pair_is false live.seen other.seen l ∙ e

-- the new file: its generation, its log, and its closed gate
pub record IsNew (file spelled : List ℕ) (g : ℕ) (records : List Record) : Type 0 where
  pub number : generation file ≡ Some g
  pub is : IsLog file records (length spelled)
  pub read : log file ≡ Ok records

pub new_file : (file bytes spelled : List ℕ) (g : ℕ) (records : List Record) → file ≡ 2 ∷ bytes → bytes ≡ spelled →
    spelled ≡ filling g records → All IsRecord records → g < 2 ^ 64 → IsNew file spelled g records
new_file file bytes spelled g records e f s all h =
    let whole : file ≡ 2 ∷ spelled = e ∙ ap (λ xs. 2 ∷ xs) f in
    let is : IsLog file records (length spelled) =
    subst (λ xs. IsLog xs records (length spelled)) (sym whole) (spelled_is spelled g records s all) in
    record {
      number = ap generation whole ∙ spelled_generation spelled g records s h;
      is = is;
      read = log_is file records (length spelled) is;
    }
