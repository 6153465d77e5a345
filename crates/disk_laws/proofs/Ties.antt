-- The numbers of a fuse, as the two disks count them and as the acts do.
use Rattle.std.proofs.Common.{◌≡◌, ◌≢◌, ◌≤◌, ◌<◌, ◌⊎◌, inl, inr, ℕ, ◌+◌, ◌-◌, ◌*◌, ◌==◌, Bool, true, false, IsTrue, Option, Some, None, [], refl, sym, ap, ◌∙◌, arith}
use Rattle.std.specs.Prelude.{nat_lt, nat_le}
use Rattle.std.proofs.lemmas.Bool.{and_parts, and_from}
use Rattle.std.proofs.lemmas.Bool.Decides.{nat_tests}
use Rattle.grid_model.specs.Fuses.{Fuse, with_record, with_opening, lets_record, lets_compaction, stops_record, stops_compaction, stops_opening, lets_gate, lets_version}
use Rattle.node_journal.specs.Calls.{lowered, LoweredAtMost}
use Rattle.disk_laws.specs.Ties.{IsTied, is_fresh}

some-of : (a b : ℕ) → Some a ≡ Some b → a ≡ b
some-of a b e = cc

pub never : ◌≡◌ {A = Option ℕ} None (Some 0) → ⊥
never e = cc

-- armed
pub tied-armed : (k : ℕ) → 1 ≤ k → IsTied (Some (record { k = k; records = 0; opened = 0 })) (Some k) (Some k)
tied-armed k live = record { unstopped = live; least = omega arith; most = omega arith; whole = refl }

-- a fuse that has counted nothing is tied in either order
pub tied-swap : (x : Option Fuse) (a b : Option ℕ) → IsTrue (is_fresh x) → IsTied x a b → IsTied x b a
tied-swap None None None fresh tied = tied
tied-swap None None (Some b) fresh tied = absurd tied
tied-swap None (Some a) b fresh tied = absurd tied
tied-swap (Some x) None b fresh tied = absurd tied
tied-swap (Some x) (Some a) None fresh tied = absurd tied
tied-swap (Some x) (Some a) (Some b) fresh tied =
    let both = and_parts (x.records == 0) (x.opened == 0) fresh in
    let records : x.records ≡ 0 = let e = both.0 in grind (arith, nat_tests) in
    let opened : x.opened ≡ 0 = let e = both.1 in grind (arith, nat_tests) in
    let unstopped = tied.unstopped in
    let least = tied.least in
    let most = tied.most in
    let whole = tied.whole in
    record {
      unstopped = omega (arith, unstopped, least, whole);
      least = omega (arith, whole, records);
      most = omega (arith, whole);
      whole = omega (arith, least, most, records, opened);
    }

-- where no call is left, one was counted
pub tied-live : (x : Option Fuse) (a b : Option ℕ) → IsTied x a b → a ≢ Some 0
tied-live None None b tied out = cc
tied-live None (Some a) b tied out = absurd tied
tied-live (Some x) None b tied out = absurd tied
tied-live (Some x) (Some a) None tied out = absurd tied
tied-live (Some x) (Some a) (Some b) tied out = let none : a ≡ 0 = some-of a 0 out in let live = tied.unstopped in
    omega (arith, none, live)

pub tied-other : (x : Option Fuse) (a b : Option ℕ) → IsTied x a b → b ≢ Some 0
tied-other None None None tied out = cc
tied-other None None (Some b) tied out = absurd tied
tied-other None (Some a) b tied out = absurd tied
tied-other (Some x) None b tied out = absurd tied
tied-other (Some x) (Some a) None tied out = cc
tied-other (Some x) (Some a) (Some b) tied out =
    let none : b ≡ 0 = some-of b 0 out in
    let live = tied.unstopped in
    let least = tied.least in
    let whole = tied.whole in
    omega (arith, none, live, least, whole)

-- ---- a record

-- that was kept
pub kept-lets : (x : Option Fuse) (left left' other : Option ℕ) → IsTied x left other → left' ≡ lowered 4 left →
    left' ≢ Some 0 → IsTrue (lets_record x)
kept-lets None left left' other tied is live = refl
kept-lets (Some x) None left' other tied is live = absurd tied
kept-lets (Some x) (Some k) left' None tied is live = absurd tied
kept-lets (Some x) (Some k) left' (Some o) tied is live =
    let more : k - 4 ≢ 0 = λ e. live (is ∙ ap Some e) in
    let least = tied.least in
    let enough : 4 * x.records + 4 < x.k = omega (arith, more, least) in
    grind (arith, nat_tests)

pub kept-tied : (x : Option Fuse) (left left' other : Option ℕ) → IsTied x left other → left' ≡ lowered 4 left →
    left' ≢ Some 0 → IsTied (with_record true x) left' other
kept-tied None None left' None tied is live = rw is tied
kept-tied None None left' (Some o) tied is live = absurd tied
kept-tied None (Some k) left' other tied is live = absurd tied
kept-tied (Some x) None left' other tied is live = absurd tied
kept-tied (Some x) (Some k) left' None tied is live = absurd tied
kept-tied (Some x) (Some k) left' (Some o) tied is live =
    let more : k - 4 ≢ 0 = λ e. live (is ∙ ap Some e) in
    let least = tied.least in
    let most = tied.most in
    rw is (record {
      unstopped = omega (arith, more);
      least = omega (arith, more, least);
      most =
          omega (arith, more, most);
      whole = tied.whole;
    })

-- that was stopped, by the fuse
pub stopped-by : (x : Option Fuse) (left left' other : Option ℕ) → IsTied x left other → LoweredAtMost 4 left left' →
    left' ≡ Some 0 → IsTrue (stops_record x)
stopped-by None None left' other tied calls out = absurd (never (sym calls.falls ∙ out))
stopped-by None (Some k) left' other tied calls out = absurd tied
stopped-by (Some x) None left' other tied calls out = absurd tied
stopped-by (Some x) (Some k) left' None tied calls out = absurd tied
stopped-by (Some x) (Some k) left' (Some o) tied calls out =
    let none : k - calls.calls ≡ 0 = some-of (k - calls.calls) 0 (sym calls.falls ∙ out) in
    let within = calls.within in
    let live = tied.unstopped in
    let least = tied.least in
    let most = tied.most in
    let above : 4 * x.records < x.k = omega (arith, live, least) in
    let below : x.k ≤ 4 * x.records + 4 + 2 * x.opened = omega (arith, none, within, most) in
    and_from (nat_lt (4 * x.records) x.k) (nat_le x.k (4 * x.records + 4 + 2 * x.opened)) (grind (arith, nat_tests))
    (grind (arith, nat_tests))

-- its gate may be open, or at most two calls were left
pub gate-or : (x : Option Fuse) (left other : Option ℕ) → IsTied x left other →
    IsTrue (lets_gate x) ⊎ ((k : ℕ) × (left ≡ Some k) × (k ≤ 2))
gate-or None left other tied = inl refl
gate-or (Some x) None other tied = absurd tied
gate-or (Some x) (Some k) None tied = absurd tied
gate-or (Some x) (Some k) (Some o) tied = go (nat_le (4 * x.records + 3) x.k) refl
  where
    go : (b : Bool) → nat_le (4 * x.records + 3) x.k ≡ b → IsTrue b ⊎ ((j : ℕ) × (Some k ≡ Some j) × (j ≤ 2))
    go true e = inl refl
    go false e =
        let least = tied.least in
        let small : x.k < 4 * x.records + 3 = grind (arith, nat_tests) in
        inr (k, refl, omega (arith, least, small))

-- ---- a compaction

-- that went on, with six calls or more
pub compacted-lets : (x : Option Fuse) (calls : ℕ) (left other other' : Option ℕ) → 6 ≤ calls → IsTied x left other →
    other' ≡ lowered calls other → other' ≢ Some 0 → IsTrue (lets_compaction x)
compacted-lets None calls left other other' six tied is live = refl
compacted-lets (Some x) calls None other other' six tied is live = absurd tied
compacted-lets (Some x) calls (Some k) None other' six tied is live = absurd tied
compacted-lets (Some x) calls (Some k) (Some o) other' six tied is live =
    let more : o - calls ≢ 0 = λ e. live (is ∙ ap Some e) in
    let whole = tied.whole in
    let enough : 6 < x.k = omega (arith, more, whole, six) in
    grind (arith, nat_tests)

-- that was stopped, by the fuse
pub compaction-by : (x : Option Fuse) (left other other' : Option ℕ) → IsTied x left other →
    LoweredAtMost 8 other other' → other' ≡ Some 0 → IsTrue (stops_compaction x)
compaction-by None None None other' tied calls out = absurd (never (sym calls.falls ∙ out))
compaction-by None None (Some o) other' tied calls out = absurd tied
compaction-by None (Some k) other other' tied calls out = absurd tied
compaction-by (Some x) None other other' tied calls out = absurd tied
compaction-by (Some x) (Some k) None other' tied calls out = absurd tied
compaction-by (Some x) (Some k) (Some o) other' tied calls out =
    let none : o - calls.calls ≡ 0 = some-of (o - calls.calls) 0 (sym calls.falls ∙ out) in
    let within = calls.within in
    let whole = tied.whole in
    let below : x.k ≤ 8 = omega (arith, none, within, whole) in
    grind (arith, nat_tests)

-- its version may stand, or at most four calls were left
pub version-or : (x : Option Fuse) (left other : Option ℕ) → IsTied x left other →
    IsTrue (lets_version x) ⊎ ((k : ℕ) × (other ≡ Some k) × (k ≤ 4))
version-or None left other tied = inl refl
version-or (Some x) None other tied = absurd tied
version-or (Some x) (Some k) None tied = absurd tied
version-or (Some x) (Some k) (Some o) tied = go (nat_le 5 x.k) refl
  where
    go : (b : Bool) → nat_le 5 x.k ≡ b → IsTrue b ⊎ ((j : ℕ) × (Some o ≡ Some j) × (j ≤ 4))
    go true e = inl refl
    go false e =
        let whole = tied.whole in
        let small : x.k < 5 = grind (arith, nat_tests) in
        inr (o, refl, omega (arith, whole, small))

-- ---- an opening

-- in which no call was counted
pub opened-tied : (b : Bool) (x : Option Fuse) (left other : Option ℕ) → IsTied x left other →
    IsTied (with_opening b x) left other
opened-tied b None left other tied = tied
opened-tied false (Some x) left other tied = tied
opened-tied true (Some x) None other tied = absurd tied
opened-tied true (Some x) (Some k) None tied = absurd tied
opened-tied true (Some x) (Some k) (Some o) tied =
    let most = tied.most in
    record { unstopped = tied.unstopped; least = tied.least; most = omega (arith, most); whole = tied.whole }

-- in which the file was made anew
pub anew-tied : (x : Option Fuse) (left left' other : Option ℕ) → IsTied x left other → left' ≡ lowered 2 left →
    left' ≢ Some 0 → IsTied (with_opening true x) left' other
anew-tied None None left' None tied is live = rw is tied
anew-tied None None left' (Some o) tied is live = absurd tied
anew-tied None (Some k) left' other tied is live = absurd tied
anew-tied (Some x) None left' other tied is live = absurd tied
anew-tied (Some x) (Some k) left' None tied is live = absurd tied
anew-tied (Some x) (Some k) left' (Some o) tied is live =
    let more : k - 2 ≢ 0 = λ e. live (is ∙ ap Some e) in
    let least = tied.least in
    let most = tied.most in
    rw is (record {
      unstopped = omega (arith, more);
      least = omega (arith, more, least);
      most =
          omega (arith, more, most);
      whole = tied.whole;
    })

-- that failed, by the fuse
pub failed-by : (x : Option Fuse) (left left' other : Option ℕ) → IsTrue (is_fresh x) → IsTied x left other →
    LoweredAtMost 2 left left' → left' ≡ Some 0 → IsTrue (stops_opening x [])
failed-by None None left' other fresh tied calls out = absurd (never (sym calls.falls ∙ out))
failed-by None (Some k) left' other fresh tied calls out = absurd tied
failed-by (Some x) None left' other fresh tied calls out = absurd tied
failed-by (Some x) (Some k) left' None fresh tied calls out = absurd tied
failed-by (Some x) (Some k) left' (Some o) fresh tied calls out =
    let none : k - calls.calls ≡ 0 = some-of (k - calls.calls) 0 (sym calls.falls ∙ out) in
    let within = calls.within in
    let most = tied.most in
    let both = and_parts (x.records == 0) (x.opened == 0) fresh in
    let records : x.records ≡ 0 = let e = both.0 in grind (arith, nat_tests) in
    let opened : x.opened ≡ 0 = let e = both.1 in grind (arith, nat_tests) in
    let below : x.k ≤ 2 = omega (arith, none, within, most, records, opened) in
    and_from (nat_le x.k 2) true (grind (arith, nat_tests)) refl

-- no call was counted, so none was stopped
pub uncounted : (left left' : Option ℕ) → LoweredAtMost 0 left left' → left' ≡ left
uncounted None left' calls = calls.falls
uncounted (Some k) left' calls = let within = calls.within in calls.falls ∙ ap Some (omega (arith, within))
