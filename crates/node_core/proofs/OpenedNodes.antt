-- A node that was just opened shows the view of its records; the ends of an opening.
use Rattle.std.proofs.Common.{◌≡◌, ◌⊎◌, ◌<◌, ◌≤◌, nat_eq, List, [], ◌∷◌, None, true, false, length, reverse, Ok, refl, sym, ap, subst, ◌∙◌, arith, inl}
use Rattle.std.specs.List.{IsDistinct}
use Rattle.std.specs.Map.{keys_of}
use Rattle.score_base.specs.declared.ids.TxId.{TxId}
use Rattle.score_base.specs.declared.ids.NodeId.{NodeId}
use Rattle.score_base.specs.declared.records.Record.{Record}
use Rattle.score_disk.specs.Files.{synced, written}
use Rattle.score_disk.specs.declared.disk.Disk.{Ghosts}
use Rattle.node_journal.specs.declared.pair.Pair.{Pair}
use Rattle.node_journal.specs.Pairs.{pair_log, second_lives}
use Rattle.node_journal.specs.PairDisks.{PairFailed, IsPairAtRest, first_of, last_of, list_of}
use Rattle.node_journal.specs.Spending.{Halted, Untouched, Opened as OpenedDisk}
use Rattle.node_journal.specs.Torn.{LeavesAsBefore}
use Rattle.placement.specs.Clusters.{ClusterData}
use Rattle.journal_words.specs.Journals.{floor}
use Rattle.grid_model.specs.declared.stories.HeldRead.{HeldRead}
use Rattle.grid_store.specs.Given.{Given}
use Rattle.grid_store.specs.Replay.{IsReplayed}
use Rattle.presumed_abort.specs.declared.stands.Stand.{Stand}
use Rattle.presumed_abort.specs.Replays.{decided_desk}
use Rattle.presumed_abort.specs.Views.{IsDeskOf, opened_view}
use Rattle.presumed_abort.proofs.Replayed.{opened-desk, decided-distinct}
use Rattle.node_core.specs.declared.nodes.Node.{Node}
use Rattle.node_core.specs.declared.ends.Opened.{Opened}
use Rattle.node_core.specs.declared.ends.Opened.TheVariants as opened
use Rattle.node_core.specs.Openings.{TellBoth, AreOpened, IsUp, HasFailed, IsOpened, IsReplayedAs}
use Rattle.node_core.specs.Shows.{Shows}
use Rattle.node_core.specs.Owning.{IsOwn}
use Rattle.node_core.proofs.OwnViews.{own-shown}

pub opened-shown : (c : ClusterData) (n : NodeId) (rs : List Record) (s : Given) (hs : List HeldRead)
    (desk : List (TxId × Stand)) → IsReplayed c n rs s → hs ≡ [] → desk ≡ decided_desk (reverse rs)
    → Shows s hs desk (opened_view c s.journal)
opened-shown c n rs s hs desk store none is =
    let v = opened_view c s.journal in
    record {
      is = λ i. record {
        cluster = (sym store.cluster) i;
        journal = s.journal;
        next = (ap floor store.journal ∙ sym store.next) i;
        held = (sym none) i;
        desk = λ t. None;
        acks = λ t. [];
      };
      desk_is = subst (IsDeskOf v) (sym (is ∙ ap decided_desk (sym store.journal))) (opened-desk v (λ t. refl) (λ t. refl));
      apart = λ t y und. refl;
      numbers = λ t o at. absurd (grind (arith, at));
      votes = λ t o at. absurd (grind (arith, at));
    }

pub opened-own : (c : ClusterData) (n : NodeId) (rs : List Record) (s : Given) (hs : List HeldRead)
    (desk : List (TxId × Stand)) → IsReplayed c n rs s → hs ≡ [] → desk ≡ decided_desk (reverse rs) → IsOwn s hs desk
opened-own c n rs s hs desk store none is =
    own-shown s hs desk (opened_view c s.journal) (opened-shown c n rs s hs desk store none is)
    (subst (λ d. IsDistinct nat_eq (keys_of d)) (sym is) (decided-distinct (reverse rs)))

module _ {D : Type 0} (g : Ghosts D) where
  -- what the opening of the two disks says of the pair
  pub record IsPairOf (first second : D) (p : Pair D g) (rs : List Record) : Type 0 where
    pub list : list_of p ≡ rs
    pub log : TellBoth g first second → pair_log (g.file first).seen (g.file second).seen ≡ Ok rs
    pub rest : TellBoth g first second → IsPairAtRest p rs
    pub disks : AreOpened g first second (first_of p) (last_of p)
    pub first_only : TellBoth g first second → OpenedDisk g first (first_of p) × Untouched g second (last_of p)
    pub kept : TellBoth g first second
        → (second_lives (g.file first).seen (g.file second).seen ≡ true) ⊎ (2 < length (g.file first).seen)
        → Untouched g first (first_of p) × Untouched g second (last_of p)
    pub anew : TellBoth g first second → second_lives (g.file first).seen (g.file second).seen ≡ false
        → length (g.file first).seen ≤ 2 → g.file (first_of p) ≡ synced (written 0 (1 ∷ 0 ∷ []) (g.file first))

  up : (n : NodeId) (c : ClusterData) (first second : D) (p : Pair D g) (rs : List Record) (node : Node D g)
      → IsPairOf first second p rs → IsReplayed c n rs node.store
      → Shows node.store node.waiting.reads node.desk (opened_view c node.store.journal)
      → node.pair ≡ p → IsUp g n c first second node
  up n c first second p rs node of store view same =
      let is : list_of node.pair ≡ rs = ap list_of same ∙ of.list in
      record {
        store = subst (λ r. IsReplayed c n r node.store) (sym is) store;
        view = view;
        log = λ t. of.log t ∙ ap Ok (sym is);
        rest = λ t. subst (IsPairAtRest node.pair) (sym is) (subst (λ q. IsPairAtRest q rs) (sym same) (of.rest t));
        disks = subst (λ q. AreOpened g first second (first_of q) (last_of q)) (sym same) of.disks;
        first_only = λ t.
            subst (λ q. OpenedDisk g first (first_of q) × Untouched g second (last_of q)) (sym same) (of.first_only t);
        kept = λ t how.
            subst (λ q. Untouched g first (first_of q) × Untouched g second (last_of q)) (sym same) (of.kept t how);
        anew = λ t live short.
            subst (λ q. g.file (first_of q) ≡ synced (written 0 (1 ∷ 0 ∷ []) (g.file first))) (sym same)
            (of.anew t live short);
      }

  -- how the replay ends is how the opening ends
  pub opened-of : (n : NodeId) (c : ClusterData) (first second : D) (p : Pair D g) (rs : List Record) (r : Opened D g)
      → IsPairOf first second p rs → IsReplayedAs g n c rs p r → IsOpened g n c first second r
  opened-of n c first second p rs (opened.Up node) of is = up n c first second p rs node of is.0 is.1 is.2
  opened-of n c first second p rs (opened.Failed a b) of is = absurd is
  opened-of n c first second p rs (opened.NotJournal a b at) of is = absurd is
  opened-of n c first second p rs (opened.Strange a b i) of is =
      record {
        records = rs;
        log = of.log;
        strange = is.0;
        disks = subst (λ x. AreOpened g first second x b) (sym is.1)
            (subst (λ y. AreOpened g first second (first_of p) y) (sym is.2) of.disks);
      }
  opened-of n c first second p rs (opened.Memory a b) of is =
      subst (λ x. AreOpened g first second x b) (sym is.0)
      (subst (λ y. AreOpened g first second (first_of p) y) (sym is.1) of.disks)

  -- the ends before there is a pair
  pub failed-of : (first second a b : D)
      → (Halted g 2 first a × Untouched g second b) ⊎ (Untouched g first a × Halted g 2 second b)
      → (TellBoth g first second → LeavesAsBefore (g.file first) (g.file a) × (g.file b ≡ g.file second))
      → (TellBoth g first second → PairFailed g first second a b) → HasFailed g first second a b
  failed-of first second a b halted images failed = record { halted = halted; images = images; failed = failed }

  pub no-memory : (first second a b : D) → Untouched g first a → Untouched g second b → AreOpened g first second a b
  no-memory first second a b one two = inl (inl one, two)
