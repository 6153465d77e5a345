use Rattle.std.proofs.Common.{◌≡◌, true, [], ◌∷◌, reverse, arith}
use Rattle.std.proofs.lemmas.List.{reverse-append}
use Rattle.std.proofs.lemmas.Grind.{common_steps}
use Rattle.journal_words.specs.Journals.{all_fit}
use Rattle.journal_words.proofs.Fits.{more-fits}
use Rattle.grid_store.proofs.PlaceSteps.{can-place, can-end}
use Rattle.grid_store.proofs.OpenSteps.{can-open}
use Rattle.grid_store.proofs.QueueSteps.{can-pend}
use Rattle.grid_store.proofs.LockSteps.{can-take}
use Rattle.grid_store.proofs.StableSteps.{can-wait, top-applied}
use Rattle.grid_store.proofs.ChainSteps.{chains-same, places-same, chains-behind, places-behind, apart-behind}
use Rattle.grid_store.proofs.ChainCounts.{keys-behind}
use Rattle.placement.specs.Clusters.{init}
use Rattle.grid_store.proofs.store.Store.admit.Goals as goal

pub place-requires : goal.place-requires
place-requires c =
    let s = c.self.inside in
    let fit = rw (← c.self.view_is) at c.requires.fits in
    let room = rw (← c.self.view_is) at c.requires.room in
    let one = room.one in
    can-place s.cluster s.node s.records.items s.places c.args.rec c.self.invariant.placed fit (omega (arith, one))

pub end-requires : goal.end-requires
end-requires c =
    let s = c.self.inside in
    let fit = rw (← c.self.view_is) at c.requires.fits in
    let room = rw (← c.self.view_is) at c.requires.room in
    let one = room.one in
    can-end s.cluster s.node (reverse s.records.items) s.outcomes c.args.rec c.self.invariant.over (more-fits s.cluster s.node c.args.rec (reverse s.records.items) fit c.self.invariant.fit) (omega (arith, one))

pub mark-requires : goal.mark-requires
mark-requires c =
    let s = c.self.inside in
    let fit = rw (← c.self.view_is) at c.requires.fits in
    let room = rw (← c.self.view_is) at c.requires.room in
    let one = room.one in
    can-open s.cluster s.node (reverse s.records.items) s.opened c.args.rec c.self.invariant.undone fit (omega (arith, one))

pub pend-requires : goal.pend-requires
pend-requires c =
    let s = c.self.inside in
    let fit = rw (← c.self.view_is) at c.requires.fits in
    let room = rw (← c.self.view_is) at c.requires.room in
    let one = room.one in
    can-pend s.cluster s.node (reverse s.records.items) s.pending c.args.rec c.self.invariant.queue fit (omega (arith, one))

pub take-requires-clause-free : goal.take-requires-clause-free
take-requires-clause-free c =
    let s = c.self.inside in
    let fit = rw (← c.self.view_is) at c.requires.fits in
    let room = rw (← c.self.view_is) at c.requires.room in
    can-take s.cluster s.node s.locks (reverse s.records.items) c.args.rec c.self.invariant.locks fit room.locks

pub take-requires-clause-new : goal.take-requires-clause-new
take-requires-clause-new c =
    let s = c.self.inside in
    let fit = rw (← c.self.view_is) at c.requires.fits in
    let room = rw (← c.self.view_is) at c.requires.room in
    let one = room.one in
    can-wait s.cluster s.node (reverse s.records.items) s.stable c.args.rec c.self.invariant.stable (more-fits s.cluster s.node c.args.rec (reverse s.records.items) fit c.self.invariant.fit) (omega (arith, one))

pub begin-requires-clause-fresh : goal.begin-requires-clause-fresh
begin-requires-clause-fresh c = (let room = rw (← c.self.view_is) at c.requires.room in room.chains)

pub begin-requires-clause-room : goal.begin-requires-clause-room
begin-requires-clause-room c = (let room = rw (← c.self.view_is) at c.requires.room in room.writes)

pub settle-requires : goal.settle-requires
settle-requires c =
    let s = c.self.inside in
    let i = c.self.invariant in
    let r = reverse s.records.items in
    let fit = rw (← c.self.view_is) at c.requires.fits in
    let more : all_fit s.cluster s.node (c.args.rec ∷ r) ≡ true = more-fits s.cluster s.node c.args.rec r fit i.fit in
    let longer = reverse-append s.records.items (c.args.rec ∷ []) in
    let queue = c.pend.ensures r i.queue in
    let settles = c.take.ensures.settles s.cluster s.node r s.applied more (top-applied s.cluster s.node s.stable.commits s.applied r i.fit i.stable i.applied) i.stable i.locks in
    let waits = c.take.ensures.commits in
    let wider = c.begin.ensures.wider in
    let now = c.begin.new.chains in
    let versions = chains-same s.stable.commits s.chains now r wider.versions i.versions in
    let places = places-same s.stable.commits s.chains now r wider.versions wider.room i.open' in (
      s.cluster,
      s.node,
      rw (c.as_slice.ensures.value, c.push_reserved.ensures.items) (record {
        fit = rw longer more;
        placed = c.place.ensures s.records.items (grind (arith, common_steps, c.len.ensures)) i.placed;
        queue = rw longer queue;
        settles = rw longer settles;
        versions = rw (longer, waits) (chains-behind s.cluster s.node s.stable.commits now c.args.rec r more versions);
        open' = rw (longer, waits) (places-behind s.cluster s.node s.stable.commits now c.args.rec r more versions c.begin.ensures.room places);
        apart = rw (longer, waits) (apart-behind s.cluster s.node s.stable.commits c.args.rec r more i.fit i.stable);
      }),
    )

pub invariant_of-self : goal.invariant_of-self
invariant_of-self c =
    let s = c.self.inside in
    let i = c.self.invariant in
    let r = reverse s.records.items in
    let fit = rw (← c.self.view_is) at c.requires.fits in
    let more : all_fit s.cluster s.node (c.args.rec ∷ r) ≡ true = more-fits s.cluster s.node c.args.rec r fit i.fit in
    let longer = reverse-append s.records.items (c.args.rec ∷ []) in
    let all = c.push_reserved.ensures.items in
    record {
      fit = rw (all, longer) more;
      placed = rw all (c.place.ensures s.records.items (grind (arith, common_steps, c.len.ensures)) i.placed);
      over = rw (all, longer) (c.end.ensures r i.over);
      undone = rw (all, longer) (c.mark.ensures r i.undone);
      queue = rw (all, longer) (c.pend.ensures r i.queue);
      numbers = rw (all, longer) (c.learn.ensures.keeps r i.numbers);
      high = rw (all, longer) (c.rise.ensures r i.high);
      stable = rw c.as_slice.ensures.value at c.settle.ensures.stable;
      applied = rw c.as_slice.ensures.value at c.settle.ensures.applied;
      locks = rw c.as_slice.ensures.value at c.settle.ensures.locks;
      versions = rw c.as_slice.ensures.value at c.settle.ensures.chains;
      open' = rw c.as_slice.ensures.value at c.settle.ensures.writable;
      keys = rw (c.settle.ensures.places, all, longer) (keys-behind s.chains.places c.begin.new.chains.places c.args.rec r c.begin.ensures.keys i.keys);
      start = c.settle.ensures.initial (init s.cluster) (c.begin.ensures.initial i.start);
    }
