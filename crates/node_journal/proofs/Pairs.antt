-- Which of two files is the live one, while the other is overwritten.
use Rattle.std.proofs.Common.{◌≡◌, ◌⊎◌, ℕ, ◌<◌, ◌≤◌, nat_lt, Bool, true, false, List, [], ◌∷◌, ◌++◌, length, le_refl, refl, ap, ◌∙◌, inl, inr, arith, Option, None, Some, Ok}
use Rattle.std.proofs.lemmas.Grind.{common_steps, same_number_lists}
use Rattle.score_base.specs.declared.records.Record.{Record}
use Rattle.score_disk.specs.Files.{File, IsImage, IsSettled}
use Rattle.node_journal.specs.Log.{generation, log}
use Rattle.node_journal.specs.Torn.{LeavesOld, LeavesOldOrNew, LeavesVersion}
use Rattle.node_journal.specs.Pairs.{age, number_of, second_lives, pair_log, pair_number, HasLog, LeavesLog, LeavesLogOr, in_order, IsLive, LeavesStale, LeavesStaleOr, LeavesPair, LeavesPairOneOf}

-- a settled file has one image
pub settled_image : (f : File) (c : List ℕ) → IsSettled f → IsImage f c → c ≡ f.seen
settled_image f c s m =
    let long : length c ≡ length f.seen = omega (arith, m.no_shorter, m.no_longer, s.least, s.greatest) in
    same_number_lists c f.seen long (λ i h. m.same i h (s.touched i))

first_live : (a b : List ℕ) → second_lives a b ≡ false → pair_log a b ≡ log a
unfolding pair_log
first_live a b e = rw e refl

second_live : (a b : List ℕ) → second_lives a b ≡ true → pair_log a b ≡ log b
unfolding pair_log
second_live a b e = rw e refl

-- an older file beside the live one doesn't count
pub older : (second : Bool) (live other c : List ℕ) → IsLive second live other →
    age (generation c) ≤ age (generation other) → in_order second pair_log live c ≡ log live
older true live other c l h =
    let less : age (generation other) < age (generation live) = grind (arith, common_steps) in
    second_live c live (let still : age (generation c) < age (generation live) = omega (arith, less, h) in
    grind (arith, common_steps))
older false live other c l h =
    let most : age (generation other) ≤ age (generation live) = grind (arith, common_steps) in
    first_live live c (let still : age (generation c) ≤ age (generation live) = omega (arith, most, h) in
    grind (arith, common_steps))

-- a younger file beside the live one is the live one
pub younger : (second : Bool) (live c : List ℕ) → age (generation live) < age (generation c) →
    in_order second pair_log live c ≡ log c
younger true live c h = first_live c live (grind (arith, common_steps))
younger false live c h = second_live live c (grind (arith, common_steps))

stale_age : (c : List ℕ) (gen : Option ℕ) → (generation c ≡ None) ⊎ (generation c ≡ gen) → age (generation c) ≤ age gen
stale_age c gen (inl e) = omega (arith, ap age e)
stale_age c gen (inr e) = omega (arith, ap age e)

stale_pair : (second : Bool) (live other c : List ℕ) (old : List Record) → IsLive second live other →
    log live ≡ Ok old → (generation c ≡ None) ⊎ (generation c ≡ generation other) →
    in_order second pair_log live c ≡ Ok old
stale_pair second live other c old l e h = older second live other c l (stale_age c (generation other) h) ∙ e

-- the two files in their order, of which the live one is settled
ordered_one_of : (second : Bool) (live now : File) (old new : List Record) →
    ((c d : List ℕ) → IsImage live c → IsImage now d →
    (in_order second pair_log c d ≡ Ok old) ⊎ (in_order second pair_log c d ≡ Ok new)) →
    in_order second (LeavesPairOneOf old new) live now
ordered_one_of true live now old new h = λ c d m n. h d c n m
ordered_one_of false live now old new h = h

ordered : (second : Bool) (live now : File) (old : List Record) →
    ((c d : List ℕ) → IsImage live c → IsImage now d → in_order second pair_log c d ≡ Ok old) →
    in_order second (LeavesPair old) live now
ordered true live now old h = λ c d m n. h d c n m
ordered false live now old h = h

-- no image of the other disk has a generation but its old one
pub early_pair : (second : Bool) (live other now : File) (old : List Record) → IsSettled live → log live.seen ≡ Ok old →
    IsLive second live.seen other.seen → LeavesStale (generation other.seen) now →
    in_order second (LeavesPair old) live now
early_pair second live other now old s e l leaves = ordered second live now old (λ c d m n.
    ap (λ x. in_order second pair_log x d) (settled_image live c s m)
    ∙ stale_pair second live.seen other.seen d old l e (leaves d n))

-- or it is the new file, which is younger than the live one
pub torn_pair : (second : Bool) (live other now : File) (bytes : List ℕ) (old new : List Record) → IsSettled live →
    log live.seen ≡ Ok old → IsLive second live.seen other.seen → age (generation live.seen) < age (generation bytes) →
    log bytes ≡ Ok new → LeavesStaleOr (generation other.seen) bytes now →
    in_order second (LeavesPairOneOf old new) live now
torn_pair second live other now bytes old new s e l young read leaves =
    ordered_one_of second live now old new (λ c d m n.
    let same : in_order second pair_log c d ≡ in_order second pair_log live.seen d =
    ap (λ x. in_order second pair_log x d) (settled_image live c s m) in
    elim (leaves d n) [
      | inl stale ↦ inl (same ∙ stale_pair second live.seen other.seen d old l e stale)
      | inr is ↦ inr (same ∙ ap (in_order second pair_log live.seen) is ∙ younger second live.seen bytes young ∙ read)
    ])

-- the log of a pair is that of its live file
pub pair_is : (second : Bool) (live other : List ℕ) → IsLive second live other →
    in_order second pair_log live other ≡ log live
pair_is second live other l = older second live other other l (le_refl _)

-- a file of the same generation is as live
pub live_kept : (second : Bool) (live c other : List ℕ) → generation c ≡ generation live → IsLive second live other →
    IsLive second c other
live_kept true live c other e l = ap (λ g. nat_lt (age (generation other)) (age g)) e ∙ l
live_kept false live c other e l = ap (λ g. nat_lt (age g) (age (generation other))) e ∙ l

-- a pair of an image of the live file, which keeps its generation, and of the settled other
pair_kept : (second : Bool) (live now other : File) (c d : List ℕ) → IsSettled other →
    IsLive second live.seen other.seen → LeavesVersion (generation live.seen) now → IsImage now c → IsImage other d →
    in_order second pair_log c d ≡ log c
pair_kept second live now other c d s l same m n =
    ap (in_order second pair_log c) (settled_image other d s n)
    ∙ pair_is second c other.seen (live_kept second live.seen c other.seen (same c m) l)

pub appended_one_of : (second : Bool) (live now other : File) (old : List Record) (r : Record) → IsSettled other →
    IsLive second live.seen other.seen → LeavesVersion (generation live.seen) now → LeavesOldOrNew old r now →
    in_order second (LeavesPairOneOf old (old ++ r ∷ [])) now other
appended_one_of second live now other old r s l same leaves =
    ordered_one_of second now other old (old ++ r ∷ []) (λ c d m n.
    let is : in_order second pair_log c d ≡ log c = pair_kept second live now other c d s l same m n in
    elim (leaves c m) [ inl e ↦ inl (is ∙ e) | inr e ↦ inr (is ∙ e) ])

pub appended_old : (second : Bool) (live now other : File) (old : List Record) → IsSettled other →
    IsLive second live.seen other.seen → LeavesVersion (generation live.seen) now → LeavesOld old now →
    in_order second (LeavesPair old) now other
appended_old second live now other old s l same leaves =
    ordered second now other old (λ c d m n. pair_kept second live now other c d s l same m n ∙ leaves c m)

-- ---- the log with its generation

older_number : (second : Bool) (live other c : List ℕ) → IsLive second live other →
    age (generation c) ≤ age (generation other) → in_order second pair_number live c ≡ number_of (generation live)
older_number true live other c l h =
    let less : age (generation other) < age (generation live) = grind (arith, common_steps) in
    let still : age (generation c) < age (generation live) = omega (arith, less, h) in
    let lives : second_lives c live ≡ true = grind (arith, common_steps) in
    rw lives refl
older_number false live other c l h =
    let most : age (generation other) ≤ age (generation live) = grind (arith, common_steps) in
    let still : age (generation c) ≤ age (generation live) = omega (arith, most, h) in
    let lives : second_lives live c ≡ false = grind (arith, common_steps) in
    rw lives refl

younger_number : (second : Bool) (live c : List ℕ) → age (generation live) < age (generation c) →
    in_order second pair_number live c ≡ number_of (generation c)
younger_number true live c h =
    let lives : second_lives c live ≡ false = grind (arith, common_steps) in
    rw lives refl
younger_number false live c h =
    let lives : second_lives live c ≡ true = grind (arith, common_steps) in
    rw lives refl

-- what two files in their order have as their log
abbrev pub HasOrdered : Bool → List Record → ℕ → List ℕ → List ℕ → Type 0
HasOrdered second records number live other =
    (in_order second pair_log live other ≡ Ok records) × (in_order second pair_number live other ≡ number)

has_ordered : (second : Bool) (records : List Record) (number : ℕ) (live other : List ℕ) →
    HasOrdered second records number live other → in_order second (HasLog records number) live other
has_ordered true records number live other h = record { log = h.0; number_is = h.1 }
has_ordered false records number live other h = record { log = h.0; number_is = h.1 }

stale_ordered : (second : Bool) (live other c : List ℕ) (old : List Record) (number : ℕ) → IsLive second live other →
    log live ≡ Ok old → number_of (generation live) ≡ number → (generation c ≡ None) ⊎ (generation c ≡ generation other) →
    HasOrdered second old number live c
stale_ordered second live other c old number l e n h =
    (stale_pair second live other c old l e h, older_number second live other c l (stale_age c (generation other) h) ∙ n)

-- the images of the two in their order, of which the live one is settled
ordered_log : (second : Bool) (live now : File) (old : List Record) (number : ℕ) → IsSettled live →
    ((d : List ℕ) → IsImage now d → HasOrdered second old number live.seen d) →
    in_order second (LeavesLog old number) live now
ordered_log true live now old number s h = λ c d m n.
    rw (settled_image live d s n) (has_ordered true old number live.seen c (h c m))
ordered_log false live now old number s h = λ c d m n.
    rw (settled_image live c s m) (has_ordered false old number live.seen d (h d n))

ordered_log_or : (second : Bool) (live now : File) (old new : List Record) (number next : ℕ) → IsSettled live →
    ((d : List ℕ) → IsImage now d → HasOrdered second old number live.seen d
    ⊎ HasOrdered second new next live.seen d) → in_order second (LeavesLogOr old number new next) live now
ordered_log_or true live now old new number next s h = λ c d m n.
    rw (settled_image live d s n)
    (elim (h c m) [ inl e ↦ inl (has_ordered true old number live.seen c e) | inr e ↦ inr (has_ordered true new next live.seen c e) ])
ordered_log_or false live now old new number next s h = λ c d m n.
    rw (settled_image live c s m)
    (elim (h d n) [ inl e ↦ inl (has_ordered false old number live.seen d e) | inr e ↦ inr (has_ordered false new next live.seen d e) ])

pub early_log : (second : Bool) (live other now : File) (old : List Record) (number : ℕ) → IsSettled live →
    log live.seen ≡ Ok old → number_of (generation live.seen) ≡ number → IsLive second live.seen other.seen →
    LeavesStale (generation other.seen) now → in_order second (LeavesLog old number) live now
early_log second live other now old number s e n l leaves =
    ordered_log second live now old number s (λ d m. stale_ordered second live.seen other.seen d old number l e n (leaves d m))

pub torn_log : (second : Bool) (live other now : File) (bytes : List ℕ) (old new : List Record) (number next : ℕ) →
    IsSettled live → log live.seen ≡ Ok old → number_of (generation live.seen) ≡ number →
    IsLive second live.seen other.seen → age (generation live.seen) < age (generation bytes) →
    log bytes ≡ Ok new → generation bytes ≡ Some next → LeavesStaleOr (generation other.seen) bytes now →
    in_order second (LeavesLogOr old number new next) live now
torn_log second live other now bytes old new number next s e n l young read gen leaves =
    ordered_log_or second live now old new number next s (λ d m.
    elim (leaves d m) [
      | inl stale ↦ inl (stale_ordered second live.seen other.seen d old number l e n stale)
      | inr is ↦ inr (
        ap (in_order second pair_log live.seen) is ∙ younger second live.seen bytes young ∙ read,
        ap (in_order second pair_number live.seen) is ∙ younger_number second live.seen bytes young ∙ ap number_of gen,
      )
    ])
