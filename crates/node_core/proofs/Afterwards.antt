-- Room was made, and then a record was written: what the two leave of the disks.
use Rattle.std.proofs.Common.{◌≡◌, ℕ, false, [], ◌∷◌, ◌++◌, Ok, Err, OnOk, IsTrue, sym, ap, subst, ◌∙◌, arith}
use Rattle.std.specs.Result.{is_err}
use Rattle.std.specs.declared.result.Result.{Result}
use Rattle.score_base.specs.declared.records.Record.{Record}
use Rattle.score_disk.specs.declared.disk.Disk.{Ghosts}
use Rattle.node_journal.specs.declared.pair.Pair.{Pair}
use Rattle.node_journal.specs.Calls.{lowered}
use Rattle.node_journal.specs.Log.{generation}
use Rattle.node_journal.specs.Torn.{LeavesVersion}
use Rattle.node_journal.specs.Pairs.{in_order, LeavesPair, LeavesPairOneOf}
use Rattle.node_journal.specs.PairDisks.{TellsBoth, IsPairAtRest, list_of}
use Rattle.node_journal.specs.Spending.{Spent, Halted, Untouched}
use Rattle.node_core.specs.Steps.{IsUnwritten, IsKept, IsAppended, IsCut}

-- what holds where a call went well
pub went-well : {A E : Type 0} (P : Type 0) (r : Result A E) → false ≡ is_err r → OnOk r P → P
went-well P (Ok x) well holds = holds
went-well P (Err e) well holds = absurd (grind (arith, well))

module _ {D : Type 0} {g : Ghosts D} where
  pub then-spent : (calls : ℕ) (old mid now : D) → Untouched g old mid → Spent g calls mid now → Spent g calls old now
  then-spent calls old mid now u s =
      record {
        tells = s.tells ∙ u.tells;
        left = s.left ∙ ap (lowered calls) u.left;
        unstopped = s.unstopped;
        own = s.own ∙ u.own;
        faults = s.faults ∙ u.faults;
      }

  pub then-halted : (most : ℕ) (old mid now : D) → Untouched g old mid → Halted g most mid now → Halted g most old now
  then-halted most old mid now u h =
      record {
        tells = h.tells ∙ u.tells;
        left = rw u.left at h.left;
        own = rw u.own at h.own;
        faults = rw u.faults at h.faults;
        rose = rw u.faults at h.rose;
        cause = rw u.own at h.cause;
        rises = rw (u.faults, u.own) at h.rises;
      }

  tells-then : (p q : Pair D g) → IsUnwritten p q → TellsBoth p → TellsBoth q
  tells-then p q u t = (subst IsTrue (sym u.live.tells) t.0, subst (λ d. IsTrue (g.tells d)) (sym u.other) t.1)

  pub then-appended : (x : Record) (p m q : Pair D g) → IsUnwritten p m → IsAppended x m q → IsAppended x p q
  then-appended x p m q u a =
      record {
        list = a.list ∙ ap (λ rs. rs ++ x ∷ []) u.list;
        rest = λ t. a.rest (tells-then p m u t);
        live = then-spent 4 p.live.disk m.live.disk q.live.disk u.live a.live;
        other = a.other ∙ u.other;
        second = a.second ∙ u.second;
        number = a.number ∙ u.number;
      }

  pub then-cut : (x : Record) (p m : Pair D g) (first second : D) → IsUnwritten p m → IsCut m x first second
      → IsCut p x first second
  then-cut x p m first second u c =
      record {
        images = λ t. subst (λ rs. LeavesPairOneOf rs (rs ++ x ∷ []) (g.file first) (g.file second)) u.list
            (c.images (tells-then p m u t));
        early = λ t k is le. subst (λ rs. LeavesPair rs (g.file first) (g.file second)) u.list
            (c.early (tells-then p m u t) k (u.live.left ∙ is) le);
        version = λ t. subst (λ b. LeavesVersion (generation (g.file p.live.disk).seen)
            (g.file (in_order b (λ live _. live) first second))) u.second
            (subst (λ f. LeavesVersion (generation f.seen) (g.file (in_order m.second (λ live _. live) first second)))
            u.live.file (c.version (tells-then p m u t)));
        other = subst (λ b. in_order b (λ _ other. other) first second ≡ p.other) u.second (c.other ∙ u.other);
        halted = then-halted 4 p.live.disk m.live.disk (in_order p.second (λ live _. live) first second) u.live
            (subst (λ b. Halted g 4 m.live.disk (in_order b (λ live _. live) first second)) u.second c.halted);
      }

  -- what a call says of a record that was written behind the room
  pub appended : (x : Record) (p m q : Pair D g) → IsUnwritten p m → list_of q ≡ list_of m ++ x ∷ []
      → (TellsBoth m → IsPairAtRest q (list_of m ++ x ∷ [])) → Spent g 4 m.live.disk q.live.disk
      → q.other ≡ m.other → q.second ≡ m.second → q.number ≡ m.number → IsAppended x p q
  appended x p m q u list rest live other second number =
      then-appended x p m q u (record {
        list = list;
        rest = λ t. subst (IsPairAtRest q) (sym list) (rest t);
        live = live;
        other = other;
        second = second;
        number = number;
      })

  pub untouched-same : (old now : D) → now ≡ old → Untouched g old now
  untouched-same old now same =
      record {
        tells = ap g.tells same;
        file = ap g.file same;
        left = ap g.left same;
        own = ap g.own same;
        faults = ap g.faults same;
      }

  -- where no disk was written, both are kept
  pub kept-of : (p q : Pair D g) → IsUnwritten p q → IsKept p q
  kept-of p q u =
      record {
        list = u.list;
        live = u.live;
        other = untouched-same p.other q.other u.other;
        second = u.second;
        number = u.number;
      }

  -- the same pair
  pub unwritten-same : (p q : Pair D g) → q ≡ p → IsUnwritten p q
  unwritten-same p q same =
      record {
        list = ap list_of same;
        live = untouched-same p.live.disk q.live.disk (ap (λ (x : Pair D g). x.live.disk) same);
        other = ap (λ (x : Pair D g). x.other) same;
        second = ap (λ (x : Pair D g). x.second) same;
        number = ap (λ (x : Pair D g). x.number) same;
      }
