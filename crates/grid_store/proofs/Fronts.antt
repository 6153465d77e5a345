-- What does a store show that was given the first of a list of records?
use Rattle.std.proofs.Common.{ℕ, ◌≡◌, ◌≤◌, ◌<◌, ◌+◌, ◌∷◌, max, true, false, List, Some, length, take, reverse, refl, sym, ap, subst, ◌∙◌, length-take-le, arith}
use Rattle.std.proofs.lemmas.List.{length-reverse, get_or_default}
use Rattle.std.specs.Prelude.{slice_index_or}
use Rattle.score_base.specs.declared.ids.NodeId.{NodeId}
use Rattle.score_base.specs.declared.ids.Ident.{Ident}
use Rattle.score_base.specs.declared.causes.Outcome.TheVariants as outcome
use Rattle.score_base.specs.declared.records.Record.{Record}
use Rattle.score_base.specs.declared.records.Record.TheVariants as record'
use Rattle.placement.specs.Clusters.{ClusterData}
use Rattle.journal_words.specs.Journals.{floor, learnt, fits, all_fit}
use Rattle.journal_words.proofs.Newest.{newest_more}
use Rattle.journal_words.proofs.Fits.{more-fits}
use Rattle.grid_store.specs.Given.{Given}
use Rattle.grid_store.specs.Replay.{IsReplayed, IsStrange}

-- a store of the first i of these records
pub record IsFront (c : ClusterData) (n : NodeId) (rs : List Record) (i : ℕ) (s : Given) : Type 0 where
  pub node : s.node ≡ n
  pub cluster : s.cluster ≡ c
  pub journal : s.journal ≡ reverse (take i rs)
  pub low : s.next ≤ floor (reverse (take i rs))
  pub fit : all_fit c n (reverse (take i rs)) ≡ true

-- what the clock learns is at most the floor
learnt-low : (x : Record) (r : List Record) (next : Ident) → next ≤ floor r → learnt (Some x) next ≤ floor (x ∷ r)
learnt-low (record'.Prepared t home parts sid p reads writes) r next le = omega arith
learnt-low (record'.Ended t (outcome.Commit f)) r next le = omega arith
learnt-low (record'.Ended t outcome.Abort) r next le = le
learnt-low (record'.Ceiling d) r next le = omega arith
learnt-low (record'.Decided t f parts) r next le = le
learnt-low (record'.Closed t) r next le = le

fits-here : (c : ClusterData) (n : NodeId) (rs : List Record) (i : ℕ) (s : Given) (x : Record) → IsFront c n rs i s → fits s.cluster s.node s.journal x ≡ fits c n (reverse (take i rs)) x
fits-here c n rs i s x f = rw (f.cluster, f.node, f.journal) refl

pub front-more : (c : ClusterData) (n : NodeId) (rs : List Record) (i : ℕ) (s s' : Given) (x : Record) → IsFront c n rs i s → i < length rs → x ≡ slice_index_or rs i x → fits s.cluster s.node s.journal x ≡ true → s'.journal ≡ x ∷ s.journal → s'.next ≡ learnt (Some x) s.next → s'.node ≡ s.node → s'.cluster ≡ s.cluster → IsFront c n rs (i + 1) s'
front-more c n rs i s s' x f within here fit journal next node cluster =
    let longer : reverse (take (i + 1) rs) ≡ x ∷ reverse (take i rs) = newest_more rs i x within ∙ ap (λ y. y ∷ reverse (take i rs)) (sym here) in
    record {
      node = node ∙ f.node;
      cluster = cluster ∙ f.cluster;
      journal = journal ∙ ap (λ r. x ∷ r) f.journal ∙ sym longer;
      low = rw (next, longer) (learnt-low x (reverse (take i rs)) s.next f.low);
      fit = rw longer (more-fits c n x (reverse (take i rs)) (sym (fits-here c n rs i s x f) ∙ fit) f.fit);
    }

pub front-strange : (c : ClusterData) (n : NodeId) (rs : List Record) (i : ℕ) (s : Given) (x : Record) → IsFront c n rs i s → i < length rs → x ≡ slice_index_or rs i x → fits s.cluster s.node s.journal x ≡ false → IsStrange c n rs i
front-strange c n rs i s x f within here strange = record {
  inside = within;
  before = f.fit;
  strange = λ d. ap (fits c n (reverse (take i rs))) (get_or_default rs i d x within ∙ sym here) ∙ sym (fits-here c n rs i s x f) ∙ strange;
}

pub front-length : (c : ClusterData) (n : NodeId) (rs : List Record) (i : ℕ) (s : Given) → IsFront c n rs i s → i ≤ length rs → length s.journal ≡ i
front-length c n rs i s f le = ap length f.journal ∙ length-reverse (take i rs) ∙ length-take-le i rs le

pub front-whole : (c : ClusterData) (n : NodeId) (rs : List Record) (i : ℕ) (s s' : Given) → IsFront c n rs i s → take i rs ≡ rs → s' ≡ record s { next = max s.next (floor s.journal) } → IsReplayed c n rs s'
front-whole c n rs i s s' f whole is =
    let journal : s.journal ≡ reverse rs = f.journal ∙ ap reverse whole in
    let low : s.next ≤ floor (reverse rs) = subst (λ l. s.next ≤ floor (reverse l)) whole f.low in
    record {
      node = ap (λ (g : Given). g.node) is ∙ f.node;
      cluster = ap (λ (g : Given). g.cluster) is ∙ f.cluster;
      journal = ap (λ (g : Given). g.journal) is ∙ journal;
      next = ap (λ (g : Given). g.next) is ∙ rw journal (omega (arith, low));
      fit = subst (λ l. all_fit c n (reverse l) ≡ true) whole f.fit;
    }
