-- The messages of an event have numbers.
use Rattle.std.proofs.Common.{◌≡◌, ℕ, ◌+◌, ◌-◌, ◌*◌, ◌≤◌, ◌<◌, true, List, [], ◌∷◌, length, zero, suc, Some, refl, sym, ap, subst, ◌∙◌, arith, get_or}
use Rattle.std.specs.Prelude.{slice_get}
use Rattle.std.proofs.lemmas.Option.{slice_get_read}
use Rattle.score_base.specs.declared.ids.NodeId.{NodeId}
use Rattle.score_disk.specs.declared.disk.Disk.{Ghosts}
use Rattle.grid_model.specs.declared.acts.Act.{Act}
use Rattle.grid_model.specs.declared.events.Event.{Event}
use Rattle.grid_model.specs.declared.events.Event.TheVariants as event
use Rattle.grid_model.specs.Documents.{DocumentData}
use Rattle.grid_model.specs.Histories.{sent}
use Rattle.grid_model.specs.Rows.{outs_of}
use Rattle.grid_model.specs.Views.{view}
use Rattle.count_laws.specs.Few.{IsFew, sends}
use Rattle.grid_world.proofs.ForCode.{outs-few, unsome}
use Rattle.node_core.specs.Links.{posts}
use Rattle.grid_hosts.specs.declared.hosts.Host.{Host}
use Rattle.grid_hosts.specs.declared.hosts.Place.{Place}
use Rattle.grid_hosts.specs.declared.steps.Ran.{Ran}
use Rattle.grid_hosts.specs.declared.steps.Ran.TheVariants.{Outs, Stopped, Memory}
use Rattle.grid_hosts.specs.Hosts.{CanStep, HasCompacted, HasRun, is_standing}
use Rattle.host_laws.specs.Standing.{HostStands, Stands, generation_in}
use Rattle.host_laws.specs.Turns.{RanBehind}
use Rattle.grid_hosts.specs.declared.hosts.Place.TheVariants.{Up, Down}
use Rattle.grid_world.specs.declared.worlds.World.{World}
use Rattle.grid_world.specs.Worlds.{CanRun, HasNumbers, host_at}
use Rattle.grid_world.proofs.Known.{posts-sends}
use Rattle.grid_world.proofs.RanRows.{ran-behind, small-behind}

-- ---- places

pub get-inside : {A : Type 0} (xs : List A) (i : ℕ) (x : A) → slice_get xs i ≡ Some x → i < length xs
get-inside [] i x at = cc
get-inside (y ∷ xs) zero x at = omega arith
get-inside (y ∷ xs) (suc i) x at = let under = get-inside xs i x at in omega (arith, under)

-- what was read in a place that has something stands there
pub got : {A : Type 0} (xs : List A) (n place : ℕ) (x y : A) → place ≡ n - 1 → slice_get xs (n - 1) ≡ Some x
    → y ≡ get_or xs place y → slice_get xs (n - 1) ≡ Some y
got xs n place x y is at read =
    let inside : n - 1 < length xs = get-inside xs (n - 1) x at in
    slice_get_read xs (length xs) (n - 1) y refl inside (subst (λ k. y ≡ get_or xs k y) is read)

module _ {D : Type 0} {g : Ghosts D} where
  -- a node can play where it stands
  stands_step : (d : DocumentData) (past : List Act) (n : NodeId) (p : Place D g) → Stands d past n p
      → CanStep d.cluster p
  stands_step d past n (Up x) s = sym s.cluster
  stands_step d past n (Down first second fall) s = tt

  pub runs-step : (d : DocumentData) (n : NodeId) (ev : Event) (w : World D g) (x : Host D g) → CanRun d n ev w
      → host_at w n ≡ Some x → CanStep d.cluster x.place
  runs-step d n ev w x r at =
      let same : r.host ≡ x = unsome r.host x (sym r.at ∙ at) in
      subst (λ y. CanStep d.cluster y.place) same (stands_step d r.past n r.host.place r.stands.place)

  behind_few : (d : DocumentData) (n m e : ℕ) (past : List Act) (ev : Event) (w : World D g) (p q : Place D g)
      (ran : Ran) → IsFew d past e → e < 50000 → w.network.sent ≡ sent past → RanBehind d past n m ev p q ran
      → HasNumbers w.network n ran
  behind_few d n m e past ev w p q (Outs outs) few short same b =
      let given : sends (outs_of n (view d past n) ev) ≤ 16 + e = outs-few d past n e ev few in
      let count : length (posts n outs.items) ≡ sends (outs_of n (view d past n) ev) =
      posts-sends n outs.items ∙ ap sends b.row in
      let before : length w.network.sent ≤ 50016 * e = rw same few.sent_few in
      omega (arith, given, count, before, short)
  behind_few d n m e past ev w p q (Stopped h) few short same b = tt
  behind_few d n m e past ev w p q Memory few short same b = tt

  pub run-numbers : (d : DocumentData) (n : NodeId) (ev : Event) (w : World D g) (x y : Host D g) (ran : Ran)
      → CanRun d n ev w → (ev ≡ event.Compact → ⊥) → host_at w n ≡ Some x → HasRun x ev y ran → HasNumbers w.network n ran
  run-numbers d n ev w x y ran r plain at is =
      let same : r.host ≡ x = unsome r.host x (sym r.at ∙ at) in
      behind_few d n r.m r.e r.past ev w x.place y.place ran r.few r.short r.sent
      (ran-behind d r.past n r.m ev x y ran (subst (HostStands d r.past n) same r.stands)
      (subst (λ z. is_standing z.place ≡ true) same r.up) r.comes plain is)

  -- ---- a compaction sends no message

  pub compact-numbers : (d : DocumentData) (n : NodeId) (w : World D g) (x y : Host D g) (ran : Ran)
      → CanRun d n event.Compact w → host_at w n ≡ Some x → HasCompacted x y ran
      → HasNumbers w.network n ran
  compact-numbers d n w x y ran r at is =
      let same : r.host ≡ x = unsome r.host x (sym r.at ∙ at) in
      behind_few d n 0 r.e r.past event.Compact w x.place y.place ran r.few r.short r.sent
      (small-behind d r.past n r.e x y ran (subst (HostStands d r.past n) same r.stands)
      (subst (λ z. is_standing z.place ≡ true) same r.up) r.short
      (subst (λ z. generation_in z.place ≤ r.e) same r.generation) is)
