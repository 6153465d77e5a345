-- A compaction is a step of the node: it changes the disks alone.
use Rattle.std.proofs.lemmas.Bool.Decides.{nat_tests}
use Rattle.std.proofs.Common.{◌≡◌, ◌==◌, ◌⊎◌, arith, ℕ, ◌+◌, ◌≤◌, Bool, true, false, not, List, [], Some, IsTrue, refl, sym, ap, subst, ◌∙◌, inl, inr, if◌then◌else◌}
use Rattle.score_base.specs.declared.records.Record.{Record}
use Rattle.score_disk.specs.declared.disk.Disk.{Ghosts}
use Rattle.journal_words.specs.Small.{small_in_time}
use Rattle.node_journal.specs.declared.journal.Journal.{Journal}
use Rattle.node_journal.specs.declared.pair.Pair.{Pair}
use Rattle.node_journal.specs.Pairs.{in_order, LeavesPair, LeavesPairOneOf, LeavesLog, LeavesLogOr}
use Rattle.node_journal.specs.PairDisks.{TellsBoth, IsPairAtRest, list_of}
use Rattle.node_journal.specs.Spending.{Spent, Halted, Untouched}
use Rattle.grid_model.specs.declared.acts.Head.TheVariants as head
use Rattle.grid_model.specs.declared.events.Event.TheVariants as event
use Rattle.grid_model.specs.declared.events.Out.{Out}
use Rattle.grid_model.specs.Views.{View}
use Rattle.grid_model.specs.Rows.{compact_outs}
use Rattle.grid_store.specs.Given.{Given}
use Rattle.node_core.specs.declared.nodes.Node.{Node}
use Rattle.node_core.specs.Shows.{Shows}
use Rattle.node_core.specs.Steps.{ShowsView, last_generation, IsKept, IsUnwritten, IsCompacted, IsTurned, IsSameNode, IsDone, IsDown, IsUndone}
use Rattle.node_core.proofs.Afterwards.{then-spent, then-halted}

unequal : (a b : ℕ) → (a ≡ b → ⊥) → (a == b) ≡ false
unequal a b apart = grind (arith, nat_tests, apart)

-- another generation is not the last one
pub before-last : (n : ℕ) → (n ≡ last_generation → ⊥) → (n == last_generation) ≡ false
before-last n other = unequal n last_generation other

module _ {D : Type 0} {g : Ghosts D} where
  -- the store, the held reads and the desk are as before
  pub record HasSame (old new : Node D g) : Type 0 where
    pub store : new.store ≡ old.store
    pub waiting : new.waiting ≡ old.waiting
    pub desk : new.desk ≡ old.desk

  pub same-node : (old new : Node D g) → HasSame old new → IsSameNode old new
  same-node old new same =
      record {
        store = record {
          node = ap (λ (s : Given). s.node) same.store;
          cluster = ap (λ (s : Given). s.cluster) same.store;
          journal = ap (λ (s : Given). s.journal) same.store;
          next = ap (λ (s : Given). s.next) same.store;
        };
        held = ap (λ w. w.reads) same.waiting;
        desk = same.desk;
      }

  pub same-shows : (old new : Node D g) (v : View) → HasSame old new → ShowsView old v → ShowsView new v
  same-shows old new v same shows =
      subst (λ s. Shows s new.waiting.reads new.desk v) (sym same.store)
      (subst (λ hs. Shows old.store hs new.desk v) (sym (ap (λ w. w.reads) same.waiting))
      (subst (λ d. Shows old.store old.waiting.reads d v) (sym same.desk) shows))

  -- at the last generation nothing is done
  pub last-done : (old new : Node D g) (outs : List Out) → HasSame old new
      → (old.pair.number == last_generation) ≡ true → IsUnwritten old.pair new.pair → outs ≡ []
      → IsDone old event.Compact new outs
  last-done old new outs same last disks none =
      subst (λ os. IsDone old event.Compact new os) (sym none) (record {
        node = ap (λ (s : Given). s.node) same.store;
        cluster = ap (λ (s : Given). s.cluster) same.store;
        row = λ v shows. sym (ap (λ (b : Bool). if b then [] else compact_outs old.store.node) last);
        view = λ v shows. same-shows old new v same shows;
        moves = record {
          same = same-node old new same;
          disks = subst (λ b. IsTurned b old.pair new.pair) (sym last) disks;
        };
      })

  -- before it the pair is compacted
  pub compact-done : (old new : Node D g) (outs : List Out) → HasSame old new
      → (old.pair.number == last_generation) ≡ false → IsCompacted old.pair new.pair
      → outs ≡ compact_outs old.store.node → IsDone old event.Compact new outs
  compact-done old new outs same last disks is =
      subst (λ os. IsDone old event.Compact new os) (sym is) (record {
        node = ap (λ (s : Given). s.node) same.store;
        cluster = ap (λ (s : Given). s.cluster) same.store;
        row = λ v shows. sym (ap (λ (b : Bool). if b then [] else compact_outs old.store.node) last);
        view = λ v shows. same-shows old new v same shows;
        moves = record {
          same = same-node old new same;
          disks = subst (λ b. IsTurned b old.pair new.pair) (sym last) disks;
        };
      })

  -- nothing was done for want of memory
  pub compact-undone : (old new : Node D g) → HasSame old new → IsKept old.pair new.pair → IsUndone old new
  compact-undone old new same pair = record { same = same-node old new same; pair = pair }

  -- room was made on the other disk, and then the list was made small into it
  tells-other : (p m : Pair D g) → m.live ≡ p.live → Untouched g p.other m.other → TellsBoth p → TellsBoth m
  tells-other p m live other t = (
    subst (λ (j : Journal D g). IsTrue (g.tells j.disk)) (sym live) t.0,
    subst IsTrue (sym other.tells) t.1,
  )

  pub then-compacted : (p m q : Pair D g) (records : List Record) → m.live ≡ p.live → Untouched g p.other m.other
      → m.second ≡ p.second → m.number ≡ p.number → records ≡ small_in_time (list_of p) → list_of q ≡ records
      → (TellsBoth m → IsPairAtRest q records) → q.number ≡ m.number + 1 → q.second ≡ not m.second
      → q.other ≡ m.live.disk → Spent g 6 m.other q.live.disk ⊎ Spent g 8 m.other q.live.disk → IsCompacted p q
  then-compacted p m q records live room second number small list rest next turned left spent =
      record {
        list = list ∙ small;
        rest = λ t. subst (IsPairAtRest q) (sym list) (rest (tells-other p m live room t));
        live = elim spent [
          | inl six ↦ inl (then-spent 6 p.other m.other q.live.disk room six)
          | inr eight ↦ inr (then-spent 8 p.other m.other q.live.disk room eight)
        ];
        other = left ∙ ap (λ (j : Journal D g). j.disk) live;
        second = turned ∙ ap not second;
        number = next ∙ ap (λ n. n + 1) number;
      }

  -- room was made on the other disk, and then a call failed
  pub then-small : (old : Node D g) (m : Pair D g) (first second : D) → m.live ≡ old.pair.live
      → Untouched g old.pair.other m.other → m.second ≡ old.pair.second → list_of m ≡ list_of old.pair
      → m.number ≡ old.pair.number
      → (TellsBoth m → LeavesPairOneOf (list_of m) (small_in_time (list_of m)) (g.file first) (g.file second))
      → (TellsBoth m → (k : ℕ) → g.left m.other ≡ Some k → k ≤ 4
      → LeavesPair (list_of m) (g.file first) (g.file second))
      → (TellsBoth m → LeavesLogOr (list_of m) m.number (small_in_time (list_of m)) (m.number + 1) (g.file first)
      (g.file second)) → (TellsBoth m → (k : ℕ) → g.left m.other ≡ Some k → k ≤ 4
      → LeavesLog (list_of m) m.number (g.file first) (g.file second))
      → in_order m.second (λ live _. live) first second ≡ m.live.disk
      → Halted g 8 m.other (in_order m.second (λ _ other. other) first second)
      → IsDown old event.Compact first second head.Compact
  then-small old m first second live room turned list number images early logs early_logs kept halted =
      let p = old.pair in
      inr (
        refl,
        refl,
        record {
          images = λ t.
              subst (λ rs. LeavesPairOneOf rs (small_in_time rs) (g.file first) (g.file second)) list
              (images (tells-other p m live room t));
          early = λ t k is le.
              subst (λ rs. LeavesPair rs (g.file first) (g.file second)) list
              (early (tells-other p m live room t) k (room.left ∙ is) le);
          stopped_log = λ t.
              subst (λ k. LeavesLogOr (list_of p) k (small_in_time (list_of p)) (k + 1) (g.file first) (g.file second))
              number (subst (λ rs. LeavesLogOr rs m.number (small_in_time rs) (m.number + 1) (g.file first)
              (g.file second)) list (logs (tells-other p m live room t)));
          early_log = λ t k is le.
              subst (λ j. LeavesLog (list_of p) j (g.file first) (g.file second)) number
              (subst (λ rs. LeavesLog rs m.number (g.file first) (g.file second)) list
              (early_logs (tells-other p m live room t) k (room.left ∙ is) le));
          live =
              subst (λ b. in_order b (λ live _. live) first second ≡ p.live.disk) turned
              (kept ∙ ap (λ (j : Journal D g). j.disk) live);
          halted =
              then-halted 8 p.other m.other (in_order p.second (λ _ other. other) first second) room
              (subst (λ b. Halted g 8 m.other (in_order b (λ _ other. other) first second)) turned halted);
        },
      )
