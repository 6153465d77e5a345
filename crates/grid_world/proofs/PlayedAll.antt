-- Events played one behind the other.
use Rattle.std.proofs.Common.{◌≡◌, ℕ, ◌+◌, ◌<◌, zero, suc, List, [], ◌∷◌, ◌++◌, drop, length, replicate, take, Some, refl, sym, ap, subst, ◌∙◌, arith, append_assoc}
use Rattle.std.specs.Prelude.{slice_get, sum_by}
use Rattle.std.specs.List.{flat_map}
use Rattle.std.proofs.lemmas.List.{append-nil, length-append}
use Rattle.score_disk.specs.declared.disk.Disk.{Ghosts}
use Rattle.grid_model.specs.declared.acts.Act.{Act}
use Rattle.grid_model.specs.declared.items.Item.{Item}
use Rattle.grid_model.specs.declared.items.Item.TheVariants as item
use Rattle.grid_model.specs.Cuts.{events}
use Rattle.grid_model.specs.Documents.{DocumentData, IsOne, events_of}
use Rattle.grid_model.specs.Schedules.{events_in}
use Rattle.grid_world.proofs.ForCode.{count-events, unsome}
use Rattle.grid_world.specs.declared.worlds.World.{World}
use Rattle.grid_world.specs.Follows.{CanPlay, Follows, Plays}
use Rattle.grid_world.specs.Replays.{Adds, AreNext, CanPlayAll, PlaysAll}
use Rattle.grid_world.specs.Starts.{IsFresh, Opens}

drop_front : {A : Type 0} (ys zs : List A) → drop (length ys) (ys ++ zs) ≡ zs
drop_front [] zs = refl
drop_front (y ∷ ys) zs = drop_front ys zs

drop_none : {A : Type 0} (k : ℕ) → drop {A = A} k [] ≡ []
drop_none zero = refl
drop_none (suc k) = refl

drop_twice : {A : Type 0} (e k : ℕ) (xs : List A) → drop (e + k) xs ≡ drop k (drop e xs)
drop_twice zero k xs = let none : 0 + k ≡ k = omega arith in ap (λ n. drop n xs) none
drop_twice {A} (suc e) k [] =
    let one : suc e + k ≡ suc (e + k) = omega arith in ap (λ n. drop {A = A} n []) one ∙ sym (drop_none k)
drop_twice (suc e) k (x ∷ xs) =
    let one : suc e + k ≡ suc (e + k) = omega arith in ap (λ n. drop n (x ∷ xs)) one ∙ drop_twice e k xs

drop-further : {A : Type 0} (e : ℕ) (xs ys zs : List A) → drop e xs ≡ ys ++ zs → drop (e + length ys) xs ≡ zs
drop-further e xs ys zs at = drop_twice e (length ys) xs ∙ ap (drop (length ys)) at ∙ drop_front ys zs

pub next-behind : (d : DocumentData) (e : ℕ) (xs ys later : List Item) → drop e (events d) ≡ (xs ++ ys) ++ later
    → AreNext d (e + length xs) ys
next-behind d e xs ys later at =
    (later, drop-further e (events d) xs (ys ++ later) (at ∙ append_assoc xs ys later))

-- ---- events of items

pub replicate-split : {A : Type 0} (i count : ℕ) (x : A) → i < count
    → (k : ℕ) × (replicate count x ≡ replicate i x ++ x ∷ replicate k x)
replicate-split i zero x most = let never : ⊥ = omega (arith, most) in absurd never
replicate-split zero (suc count) x most = (count, refl)
replicate-split (suc i) (suc count) x most =
    let u = replicate-split i count x (omega (arith, most)) in (u.0, ap (λ xs. x ∷ xs) u.1)

replicate-behind : {A : Type 0} (i : ℕ) (x : A) → replicate (suc i) x ≡ replicate i x ++ x ∷ []
replicate-behind zero x = refl
replicate-behind (suc i) x = ap (λ xs. x ∷ xs) (replicate-behind i x)

pub replicate-more : {A : Type 0} (i : ℕ) (x : A) → replicate (i + 1) x ≡ replicate i x ++ x ∷ []
replicate-more i x = let one : i + 1 ≡ suc i = omega arith in ap (λ k. replicate k x) one ∙ replicate-behind i x

-- the events of these items: those of the first ones, of the next one, and of the rest
pub events-split : (is : List Item) (k : ℕ) (i : Item) → slice_get is k ≡ Some i
    → (rest : List Item) × (flat_map events_in is ≡ flat_map events_in (take k is) ++ (events_in i ++ rest))
events-split [] k i at = cc
events-split (x ∷ is) zero i at =
    (flat_map events_in is, ap (λ j. events_in j ++ flat_map events_in is) (unsome x i at))
events-split (x ∷ is) (suc k) i at =
    let u = events-split is k i at in (
      u.0,
      ap (λ ys. events_in x ++ ys) u.1 ∙ sym (append_assoc (events_in x) (flat_map events_in (take k is)) (events_in i ++ u.0)),
    )

events_behind : (is : List Item) (k : ℕ) (i : Item) → slice_get is k ≡ Some i
    → flat_map events_in (take (suc k) is) ≡ flat_map events_in (take k is) ++ events_in i
events_behind [] k i at = cc
events_behind (x ∷ is) zero i at = append-nil (events_in x) ∙ ap events_in (unsome x i at)
events_behind (x ∷ is) (suc k) i at =
    ap (λ ys. events_in x ++ ys) (events_behind is k i at)
    ∙ sym (append_assoc (events_in x) (flat_map events_in (take k is)) (events_in i))

pub events-more : (is : List Item) (k : ℕ) (i : Item) → slice_get is k ≡ Some i
    → flat_map events_in (take (k + 1) is) ≡ flat_map events_in (take k is) ++ events_in i
events-more is k i at =
    let one : k + 1 ≡ suc k = omega arith in
    ap (λ n. flat_map events_in (take n is)) one ∙ events_behind is k i at

-- an item that is no `next` is one event
pub one-event : (i : Item) → ((c : ℕ) → i ≡ item.Next c → ⊥) → events_in i ≡ i ∷ []
one-event (item.Next c) other = absurd (other c refl)
one-event i other = refl

module _ {D : Type 0} {g : Ghosts D} where
  -- ---- what can be played

  pub can-one : (d : DocumentData) (i : Item) (w : World D g) → CanPlayAll d (i ∷ []) w → CanPlay d i w
  can-one d i w c = record {
    one = c.one;
    e = c.e;
    h = c.h;
    given = c.given;
    follows = c.follows;
    next = c.next;
    few = let most = c.few in omega (arith, most);
  }

  pub can-front : (d : DocumentData) (xs ys : List Item) (w : World D g) → CanPlayAll d (xs ++ ys) w → CanPlayAll d xs w
  can-front d xs ys w c = record {
    one = c.one;
    e = c.e;
    h = c.h;
    given = c.given;
    follows = c.follows;
    next = (ys ++ c.next.0, c.next.1 ∙ append_assoc xs ys c.next.0);
    few = let most = c.few in omega (arith, most, length-append xs ys);
  }

  pub can-behind : (d : DocumentData) (xs ys : List Item) (w w' : World D g) (acts : List Act) → CanPlayAll d (xs ++ ys) w
      → PlaysAll d xs w w' acts → CanPlayAll d ys w'
  can-behind d xs ys w w' acts c p = record {
    one = c.one;
    e = c.e + length xs;
    h = c.h ++ acts;
    given = c.given;
    follows =
        let most = c.few in
        p c.e c.h c.given c.one c.follows (ys ++ c.next.0, c.next.1 ∙ append_assoc xs ys c.next.0)
        (omega (arith, most, length-append xs ys));
    next = next-behind d c.e xs ys c.next.0 c.next.1;
    few = let most = c.few in omega (arith, most, length-append xs ys);
  }

  -- ---- what was played

  pub all-one : (d : DocumentData) (i : Item) (w w' : World D g) (acts : List Act) → Plays d i w w' acts
      → PlaysAll d (i ∷ []) w w' acts
  all-one d i w w' acts p = λ e h given one f next few. (p e h given one f next (omega (arith, few))).2

  pub all-none : (d : DocumentData) (w : World D g) → PlaysAll d [] w w []
  all-none d w = λ e h given one f next few.
      let count : e ≡ e + length {A = Item} [] = omega arith in
      subst (λ k. Follows d k (h ++ []) given w) count (subst (λ xs. Follows d e xs given w) (sym (append-nil h)) f)

  pub all-both : (d : DocumentData) (xs ys : List Item) (w mid w' : World D g) (first behind : List Act)
      → PlaysAll d xs w mid first → PlaysAll d ys mid w' behind → PlaysAll d (xs ++ ys) w w' (first ++ behind)
  all-both d xs ys w mid w' first behind p q = λ e h given one f next few.
      let count : e + length xs + length ys ≡ e + length (xs ++ ys) = omega (arith, length-append xs ys) in
      let there : Follows d (e + length xs) (h ++ first) given mid =
      p e h given one f (ys ++ next.0, next.1 ∙ append_assoc xs ys next.0) (omega (arith, few, length-append xs ys)) in
      let now : Follows d (e + length xs + length ys) ((h ++ first) ++ behind) given w' =
      q (e + length xs) (h ++ first) given one there (next-behind d e xs ys next.0 next.1) (omega (arith, count, few)) in
      subst (λ k. Follows d k (h ++ (first ++ behind)) given w') count
      (subst (λ hs. Follows d (e + length xs + length ys) hs given w') (append_assoc h first behind) now)

  -- ---- their acts behind those before

  pub adds-none : (d : DocumentData) (w : World D g) (acts : List Act) → Adds d [] w w acts acts
  adds-none d w acts = record { acts = []; plays = all-none d w; behind = sym (append-nil acts) }

  pub adds-one : (d : DocumentData) (i : Item) (w w' : World D g) (old new more : List Act) → Plays d i w w' more
      → new ≡ old ++ more → Adds d (i ∷ []) w w' old new
  adds-one d i w w' old new more p is = record { acts = more; plays = all-one d i w w' more p; behind = is }

  pub adds-both : (d : DocumentData) (xs ys : List Item) (w mid w' : World D g) (old middle new : List Act)
      → Adds d xs w mid old middle → Adds d ys mid w' middle new → Adds d (xs ++ ys) w w' old new
  adds-both d xs ys w mid w' old middle new p q = record {
    acts = p.acts ++ q.acts;
    plays = all-both d xs ys w mid w' p.acts q.acts p.plays q.plays;
    behind = q.behind ∙ ap (λ xs. xs ++ q.acts) p.behind ∙ append_assoc old p.acts q.acts;
  }

  -- ---- all events of a document

  -- behind the start row all events can be played
  pub can-all : (d : DocumentData) (given : List D) (w w' : World D g) (acts : List Act) → IsFresh d given w
      → Opens d w w' acts → CanPlayAll d (events d) w'
  can-all d given w w' acts fresh opens = record {
    one = fresh.one;
    e = 0;
    h = acts;
    given = given;
    follows = (opens given fresh).2;
    next = ([], sym (append-nil (events d)));
    few = let most = fresh.one.document.events in omega (arith, most, count-events d.items);
  }

  -- all events were played behind the start row
  pub all-played : (d : DocumentData) (given : List D) (w mid w' : World D g) (old new : List Act)
      → IsFresh d given w → Opens d w mid old → Adds d (events d) mid w' old new
      → Follows d (sum_by events_of d.items) new given w'
  all-played d given w mid w' old new fresh opens a =
      let most = fresh.one.document.events in
      let count : 0 + length (events d) ≡ sum_by events_of d.items = let is = count-events d.items in omega (arith, is) in
      let f : Follows d (0 + length (events d)) (old ++ a.acts) given w' =
      a.plays 0 old given fresh.one (opens given fresh).2 ([], sym (append-nil (events d)))
      (omega (arith, most, count-events d.items)) in
      subst (λ k. Follows d k new given w') count (subst (λ xs. Follows d (0 + length (events d)) xs given w') (sym a.behind) f)
