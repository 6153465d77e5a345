use Rattle.std.proofs.Common.{◌≡◌, ◌≤◌, ◌<◌, true, false, is_some, [], None, sym, ap, refl, ◌∙◌, arith, length, slice_set}
use Rattle.std.proofs.lemmas.Grind.{common_steps}
use Rattle.std.specs.Cmp.Lexicographic.{nat_list_cmp_total}
use Rattle.score_base.proofs.TableMaps.{find_at, find_absent, gap_absent}
use Rattle.version_chain.specs.Versions.{Versions}
use Rattle.version_chain.specs.Kept.{Kept, place_of, versions_in, versions_of, spare_in, spare_of, initial_in}
use Rattle.version_chain.proofs.Keyed.{IsWith, each-with, keys-more, keys-same, with-begun, places-begun, is-blank, absent}
use Rattle.version_chain.proofs.chains.Chains.begin.Goals as goal

pub index_mut-chain-requires : goal.index_mut-chain-requires
index_mut-chain-requires c =
    let s = c.self.inside in
    let none : place_of c.args.key.now s.places.pairs ≡ None = find_absent nat_list_cmp_total s.places.pairs c.args.key.now (gap_absent nat_list_cmp_total s.places.pairs c.args.key.now c.in-Err.i c.in-Err.ensures.absent) in
    let one = (rw (← c.self.view_is) at c.requires) none in
    grind (arith, common_steps, c.len-n.ensures.value, one)

pub insert-requires-clause-room : goal.insert-requires-clause-room
insert-requires-clause-room c =
    let s = c.self.inside in
    let none : place_of c.args.key.now s.places.pairs ≡ None = find_absent nat_list_cmp_total s.places.pairs c.args.key.now (gap_absent nat_list_cmp_total s.places.pairs c.args.key.now c.in-Err.i c.in-Err.ensures.absent) in
    let one = (rw (← c.self.view_is) at c.requires) none in
    omega (arith, one)

pub invariant_of-self : goal.invariant_of-self
invariant_of-self c =
    let s = c.self.inside in
    let none : place_of c.args.key.now s.places.pairs ≡ None = find_absent nat_list_cmp_total s.places.pairs c.args.key.now (gap_absent nat_list_cmp_total s.places.pairs c.args.key.now c.in-Err.i c.in-Err.ensures.absent) in
    let one = (rw (← c.self.view_is) at c.requires) none in
    let last = c.len-n.ensures.value in
    let within : c.len-n.result < length s.chains.items = omega (arith, last, one) in
    rw c.insert.ensures.pairs (places-begun s.places.pairs s.chains.items c.args.key.now c.in-Err.i c.len-n.result c.start.new.self c.self.invariant c.in-Err.ensures.absent last within)

pub returns-in-Err-clause-keys : goal.returns-in-Err-clause-keys
returns-in-Err-clause-keys c k =
    rw (← c.self.view_is) (ap (λ ps. is_some (place_of k ps)) c.insert.ensures.pairs ∙ keys-more c.self.inside.places.pairs c.args.key.now c.in-Err.i c.len-n.result c.in-Err.ensures.absent k)

pub returns-in-Err-clause-fresh : goal.returns-in-Err-clause-fresh
returns-in-Err-clause-fresh c some =
    let s = c.self.inside in
    let none : place_of c.args.key.now s.places.pairs ≡ None = find_absent nat_list_cmp_total s.places.pairs c.args.key.now (gap_absent nat_list_cmp_total s.places.pairs c.args.key.now c.in-Err.i c.in-Err.ensures.absent) in
    let some' = rw (← c.self.view_is) at some in
    absurd (let bad : false ≡ true = sym (ap is_some none) ∙ some' in cc)

pub returns-in-Err-clause-room : goal.returns-in-Err-clause-room
returns-in-Err-clause-room c h =
    let s = c.self.inside in
    let none : place_of c.args.key.now s.places.pairs ≡ None = find_absent nat_list_cmp_total s.places.pairs c.args.key.now (gap_absent nat_list_cmp_total s.places.pairs c.args.key.now c.in-Err.i c.in-Err.ensures.absent) in
    let one = (rw (← c.self.view_is) at c.requires) none in
    let last = c.len-n.ensures.value in
    let within : c.len-n.result < length s.chains.items = omega (arith, last, one) in
    let old : Kept = record { places = s.places.pairs; chains = s.chains.items; fresh = 0 } in
    let new : Kept = record { places = c.insert.new.self.pairs; chains = slice_set s.chains.items c.len-n.result c.start.new.self; fresh = 0 } in
    let w : IsWith old new c.args.key.now c.start.new.self =
    with-begun old new c.args.key.now c.in-Err.i c.len-n.result c.start.new.self c.self.invariant c.in-Err.ensures.absent last within c.insert.ensures.pairs refl in
    let blank = is-blank s.places.pairs s.chains.items c.len-n.result c.index_mut-chain.result.now c.self.invariant last within c.index_mut-chain.ensures.value in
    rw (w.own, c.start.ensures) blank.room

pub returns-in-Err-clause-kept : goal.returns-in-Err-clause-kept
returns-in-Err-clause-kept c =
    let s = c.self.inside in
    let none : place_of c.args.key.now s.places.pairs ≡ None = find_absent nat_list_cmp_total s.places.pairs c.args.key.now (gap_absent nat_list_cmp_total s.places.pairs c.args.key.now c.in-Err.i c.in-Err.ensures.absent) in
    let one = (rw (← c.self.view_is) at c.requires) none in
    let last = c.len-n.ensures.value in
    let within : c.len-n.result < length s.chains.items = omega (arith, last, one) in
    let old : Kept = record { places = s.places.pairs; chains = s.chains.items; fresh = 0 } in
    let new : Kept = record { places = c.insert.new.self.pairs; chains = slice_set s.chains.items c.len-n.result c.start.new.self; fresh = 0 } in
    let w : IsWith old new c.args.key.now c.start.new.self =
    with-begun old new c.args.key.now c.in-Err.i c.len-n.result c.start.new.self c.self.invariant c.in-Err.ensures.absent last within c.insert.ensures.pairs refl in
    let blank = is-blank s.places.pairs s.chains.items c.len-n.result c.index_mut-chain.result.now c.self.invariant last within c.index_mut-chain.ensures.value in
    let nothing = (absent c.args.key.now old none).1 in
    rw (← c.self.view_is) (each-with old new c.args.key.now c.start.new.self (λ k o. spare_of k old ≤ spare_in o) w
    (omega (arith, nothing)) (λ k other. omega arith))

pub returns-in-Err-clause-versions : goal.returns-in-Err-clause-versions
returns-in-Err-clause-versions c =
    let s = c.self.inside in
    let none : place_of c.args.key.now s.places.pairs ≡ None = find_absent nat_list_cmp_total s.places.pairs c.args.key.now (gap_absent nat_list_cmp_total s.places.pairs c.args.key.now c.in-Err.i c.in-Err.ensures.absent) in
    let one = (rw (← c.self.view_is) at c.requires) none in
    let last = c.len-n.ensures.value in
    let within : c.len-n.result < length s.chains.items = omega (arith, last, one) in
    let old : Kept = record { places = s.places.pairs; chains = s.chains.items; fresh = 0 } in
    let new : Kept = record { places = c.insert.new.self.pairs; chains = slice_set s.chains.items c.len-n.result c.start.new.self; fresh = 0 } in
    let w : IsWith old new c.args.key.now c.start.new.self =
    with-begun old new c.args.key.now c.in-Err.i c.len-n.result c.start.new.self c.self.invariant c.in-Err.ensures.absent last within c.insert.ensures.pairs refl in
    let blank = is-blank s.places.pairs s.chains.items c.len-n.result c.index_mut-chain.result.now c.self.invariant last within c.index_mut-chain.ensures.value in
    let nothing = (absent c.args.key.now old none).0 in
    rw (← c.self.view_is) (each-with old new c.args.key.now c.start.new.self (λ k o. versions_in o ≡ versions_of k old) w
    (ap (λ (v : Versions). v.versions) c.start.ensures ∙ blank.none ∙ sym nothing) (λ k other. refl))

pub returns-in-Err-clause-initial : goal.returns-in-Err-clause-initial
returns-in-Err-clause-initial c init is starts =
    let s = c.self.inside in
    let none : place_of c.args.key.now s.places.pairs ≡ None = find_absent nat_list_cmp_total s.places.pairs c.args.key.now (gap_absent nat_list_cmp_total s.places.pairs c.args.key.now c.in-Err.i c.in-Err.ensures.absent) in
    let one = (rw (← c.self.view_is) at c.requires) none in
    let last = c.len-n.ensures.value in
    let within : c.len-n.result < length s.chains.items = omega (arith, last, one) in
    let old : Kept = record { places = s.places.pairs; chains = s.chains.items; fresh = 0 } in
    let new : Kept = record { places = c.insert.new.self.pairs; chains = slice_set s.chains.items c.len-n.result c.start.new.self; fresh = 0 } in
    let w : IsWith old new c.args.key.now c.start.new.self =
    with-begun old new c.args.key.now c.in-Err.i c.len-n.result c.start.new.self c.self.invariant c.in-Err.ensures.absent last within c.insert.ensures.pairs refl in
    let blank = is-blank s.places.pairs s.chains.items c.len-n.result c.index_mut-chain.result.now c.self.invariant last within c.index_mut-chain.ensures.value in
    let starts' = rw (← c.self.view_is) at starts in
    each-with old new c.args.key.now c.start.new.self (λ k o. initial_in (init k) o ≡ init k) w
    (ap (λ (v : Versions). v.initial) c.start.ensures ∙ sym is) (λ k other. starts' k)

pub returns-in_default-clause-room : goal.returns-in_default-clause-room
returns-in_default-clause-room c none = absurd (
    let places = c.self.inside.places.pairs in
    let found = c.in_default.ensures.found in
    let is = find_at nat_list_cmp_total places c.in_default.field-0 ([], 0) c.args.key.now c.in_default.ensures.rising found.0 (found.1 ([], 0)) in
    let none' = rw (← c.self.view_is) at none in
    let bad = sym none' ∙ is in
    cc)

pub returns-in_default-clause-keys : goal.returns-in_default-clause-keys
returns-in_default-clause-keys c k =
    let places = c.self.inside.places.pairs in
    let found = c.in_default.ensures.found in
    rw (← c.self.view_is) (keys-same places c.args.key.now _ (find_at nat_list_cmp_total places c.in_default.field-0 ([], 0) c.args.key.now c.in_default.ensures.rising found.0 (found.1 ([], 0))) k)
