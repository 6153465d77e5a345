-- What a node owes that no fuse stops: each of its acts is allowed, and each of its stops is counted.
use Rattle.std.proofs.Common.{ℕ, ◌+◌, ◌≤◌, Bool, true, false, ◌&&◌, ◌||◌, not, ◌==◌, IsTrue, List, [], ◌∷◌, None, ◌≡◌, refl, arith}
use Rattle.std.proofs.lemmas.Bool.Decides.{nat_tests}
use Rattle.score_base.specs.declared.ids.NodeId.{NodeId}
use Rattle.grid_model.specs.declared.acts.Act.{Act}
use Rattle.grid_model.specs.declared.acts.Act.TheVariants as act
use Rattle.grid_model.specs.declared.acts.Flag.TheVariants as flag
use Rattle.grid_model.specs.Documents.{DocumentData}
use Rattle.grid_model.specs.Histories.{after}
use Rattle.grid_model.specs.Runs.{IsRun, Lawful, Explains, is_let, are_let, is_stop, is_by_fuse, stops, faults, as_number}
use Rattle.grid_model.specs.Disks.{is_compacting}
use Rattle.grid_model.specs.Fuses.{fuse, fuse_at_stop, lets_found}

-- no fuse of n is armed in these acts
abbrev pub is_unarmed : NodeId → List Act → Bool
is_unarmed n [] = true
is_unarmed n (act.Armed m k how ∷ past) = not (m == n) && is_unarmed n past
is_unarmed n (a ∷ past) = is_unarmed n past

pub unarmed-fuse : (d : DocumentData) (past : List Act) (n : NodeId) → IsTrue (is_unarmed n past) → fuse d past n ≡ None
unarmed-fuse d [] n u = refl
unarmed-fuse d (act.Armed m k how ∷ past) n u = grind (arith, nat_tests, unarmed-fuse d past n)
unarmed-fuse d (act.Down m h ∷ past) n u = grind (arith, nat_tests, unarmed-fuse d past n)
unarmed-fuse d (act.StillDown m ∷ past) n u = grind (arith, nat_tests, unarmed-fuse d past n)
unarmed-fuse d (act.Compacted m ∷ past) n u = grind (arith, nat_tests, unarmed-fuse d past n)
unarmed-fuse d (act.Up m f ∷ past) n u = rw (unarmed-fuse d past n u) refl
unarmed-fuse d (a ∷ past) n u = rw (unarmed-fuse d past n u) refl

pub unarmed-stop : (d : DocumentData) (past : List Act) (n : NodeId) → IsTrue (is_unarmed n past)
    → fuse_at_stop d past n ≡ None
unarmed-stop d [] n u = refl
unarmed-stop d (act.Armed m k how ∷ past) n u = grind (arith, nat_tests, unarmed-stop d past n)
unarmed-stop d (act.Down m h ∷ past) n u = grind (arith, nat_tests, unarmed-fuse d past n, unarmed-stop d past n)
unarmed-stop d (a ∷ past) n u = unarmed-stop d past n u

pub unarmed-let : (d : DocumentData) (past : List Act) (a : Act) (n : NodeId) → IsTrue (is_unarmed n past)
    → IsTrue (is_let d past a n)
unarmed-let d past (act.Up m flag.Kept) n u = rw (unarmed-stop d past n u) (go (m == n) (is_compacting past n))
  where
    go : (here compacting : Bool) → IsTrue (not here || lets_found compacting None)
    go true true = refl
    go true false = refl
    go false compacting = refl
unarmed-let d past a n u = grind (arith, nat_tests, unarmed-fuse d past n u)

pub unarmed-more : (n : NodeId) (a : Act) (past : List Act) → IsTrue (is_unarmed n (a ∷ past))
    → IsTrue (is_unarmed n past)
unarmed-more n (act.Armed m k how) past u = grind (arith, nat_tests)
unarmed-more n a past u = u

pub unarmed-are_let : (d : DocumentData) (past : List Act) (n : NodeId) → IsTrue (is_unarmed n past)
    → IsTrue (are_let d past n)
unarmed-are_let d [] n u = refl
unarmed-are_let d (a ∷ past) n u = grind (arith, nat_tests, unarmed-let d past a n (unarmed-more n a past u), unarmed-are_let d past n (unarmed-more n a past u))

-- not each stop is a fault
pub faults-stops : (d : DocumentData) (past : List Act) (n : NodeId) → faults d past n ≤ stops past n
faults-stops d [] n = omega arith
faults-stops d (a ∷ past) n = go (is_stop a n) (is_by_fuse d past a n) (faults-stops d past n)
  where
    go : (stop : Bool) (by_fuse : Bool) → faults d past n ≤ stops past n
        → as_number (stop && not by_fuse) + faults d past n ≤ as_number stop + stops past n
    go false by_fuse less = omega arith
    go true false less = omega arith
    go true true less = omega arith

-- the count of no disk rose
abbrev pub no_rise : NodeId → ℕ
no_rise n = 0

-- a node that did not stop needs no rise
pub unstopped-explains : (d : DocumentData) (past : List Act) (n : NodeId) → stops past n ≡ 0 → Explains d past n 0
unstopped-explains d past n same = record {
  most = let less : faults d past n ≤ stops past n = faults-stops d past n in omega arith;
  some = λ rose. absurd (rose refl);
}

-- a run in which no fuse is armed and no node stops in a record or at an opening is lawful with no rise
pub calm-lawful : (d : DocumentData) (h : List Act) → IsRun d d.items h
    → ((n : NodeId) → IsTrue (is_unarmed n (after [] h))) → ((n : NodeId) → stops (after [] h) n ≡ 0)
    → Lawful d h no_rise
calm-lawful d h run unarmed unstopped = record {
  run = run;
  fuses = λ n. unarmed-are_let d (after [] h) n (unarmed n);
  stops = λ n. unstopped-explains d (after [] h) n (unstopped n);
}
