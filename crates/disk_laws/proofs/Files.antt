-- The files of two disks: what a crash leaves of them, and what an opening reads.
use Rattle.std.proofs.Common.{◌≡◌, ◌≤◌, ℕ, nat_lt, Bool, true, false, List, [], length, None, Result, Ok, refl, sym, ap, ◌∙◌, arith}
use Rattle.std.proofs.lemmas.Bool.Decides.{nat_tests}
use Rattle.score_base.specs.declared.records.Record.{Record}
use Rattle.score_disk.specs.Files.{IsSettled}
use Rattle.node_journal.specs.Log.{generation}
use Rattle.node_journal.specs.Pairs.{age, second_lives}
use Rattle.node_journal.proofs.Generations.{gen_short}
use Rattle.node_journal.proofs.Logs.{log_short}
use Rattle.node_journal.proofs.Pairs.{settled_image, pair_is}
use Rattle.disk_laws.specs.Shown.{Shown, Seats, first_seat, second_seat, HasLog, AreAtRest}
use Rattle.disk_laws.specs.Calls.{HasCrashed}

-- a settled disk reads behind a crash as before
pub crashed-seen : (s t : Shown) → IsSettled s.file → HasCrashed s t → t.file.seen ≡ s.file.seen
crashed-seen s t settled c = settled_image s.file t.file.seen settled c.crash.image

pub log-same : (records : List Record) (number : ℕ) (a b c d : List ℕ) → c ≡ a → d ≡ b → HasLog records number a b →
    HasLog records number c d
log-same records number a b c d e f h = rw (e, f) h

log-by : (records : List Record) (number : ℕ) (b : Bool) (live other : Shown) →
    AreAtRest records number (record { second = b; live = live; other = other }) →
    HasLog records number (first_seat (record { second = b; live = live; other = other })).file.seen
    (second_seat (record { second = b; live = live; other = other })).file.seen
log-by records number true live other r = let lives : second_lives other.file.seen live.file.seen ≡ true =
    r.is_live in record { log = r.log; number_is = rw lives r.number_is }
log-by records number false live other r = let lives : second_lives live.file.seen other.file.seen ≡ false =
    r.is_live in record { log = r.log; number_is = rw lives r.number_is }

-- the log of the two disks in their order
pub rest-log : (records : List Record) (number : ℕ) (s : Seats) → AreAtRest records number s →
    HasLog records number (first_seat s).file.seen (second_seat s).file.seen
rest-log records number s r = log-by records number s.second s.live s.other r

first-by : (b : Bool) (live other : Shown) → IsSettled live.file → IsSettled other.file →
    IsSettled (first_seat (record { second = b; live = live; other = other })).file
first-by true live other l o = o
first-by false live other l o = l

second-by : (b : Bool) (live other : Shown) → IsSettled live.file → IsSettled other.file →
    IsSettled (second_seat (record { second = b; live = live; other = other })).file
second-by true live other l o = l
second-by false live other l o = o

pub rest-first : (records : List Record) (number : ℕ) (s : Seats) → AreAtRest records number s →
    IsSettled (first_seat s).file
rest-first records number s r = first-by s.second s.live s.other r.live r.other

pub rest-second : (records : List Record) (number : ℕ) (s : Seats) → AreAtRest records number s →
    IsSettled (second_seat s).file
rest-second records number s r = second-by s.second s.live s.other r.live r.other

-- ---- two files of which neither has a generation and the first has at most two bytes

short-gen : (a : List ℕ) → length a ≤ 2 → generation a ≡ None
short-gen a short = gen_short a (omega (arith, short))

-- they have no record and no generation
pub empty-log : (first second : List ℕ) → second_lives first second ≡ false → length first ≤ 2 →
    HasLog [] 0 first second
empty-log first second lives short = record {
  log = pair_is false first second lives ∙ log_short first short;
  number_is = rw (lives, short-gen first short) refl;
}

-- another short first file beside the second does not count either
pub empty-kept : (first a second : List ℕ) → second_lives first second ≡ false → length first ≤ 2 → length a ≤ 2 →
    second_lives a second ≡ false
empty-kept first a second lives short few =
    let old : nat_lt (age (generation first)) (age (generation second)) ≡ false = lives in
    let same : generation a ≡ generation first = short-gen a few ∙ sym (short-gen first short) in
    ap (λ g. nat_lt (age g) (age (generation second))) same ∙ old

-- nor does the second beside any other first
pub empty-other : (first second a : List ℕ) → second_lives first second ≡ false → length first ≤ 2 →
    second_lives a second ≡ false
empty-other first second a lives short =
    let old : nat_lt (age (generation first)) (age (generation second)) ≡ false = lives in
    let none : nat_lt 0 (age (generation second)) ≡ false = sym
    (ap (λ g. nat_lt (age g) (age (generation second))) (short-gen first short)) ∙ old in
    unlived (age (generation a)) (age (generation second)) none
  where
    unlived : (x y : ℕ) → nat_lt 0 y ≡ false → nat_lt x y ≡ false
    unlived x y e = grind (arith, nat_tests)

-- two lists that were read
pub same-ok : (a b : List Record) → ◌≡◌ {A = Result (List Record) ℕ} (Ok a) (Ok b) → a ≡ b
same-ok a b e = cc

-- two logs of the same files
pub log-one : (r q : List Record) (m k : ℕ) (a b : List ℕ) → HasLog r m a b → HasLog q k a b → (r ≡ q) × (m ≡ k)
log-one r q m k a b x y = (same-ok r q (sym x.log ∙ y.log), sym x.number_is ∙ y.number_is)
