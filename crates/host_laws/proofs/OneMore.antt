-- The nodes of a run follow it one event further.
use Rattle.std.proofs.Common.{◌≡◌, ◌≢◌, ℕ, ◌+◌, ◌-◌, ◌≤◌, ◌<◌, ◌==◌, Bool, true, false, List, [], ◌∷◌, ◌++◌, length, drop, zero, suc, Some, IsTrue, refl, sym, ap, subst, ◌∙◌, arith}
use Rattle.std.specs.Prelude.{slice_get, slice_set}
use Rattle.std.specs.List.{list_all}
use Rattle.std.specs.Option.{unwrap_or}
use Rattle.std.proofs.lemmas.Bool.Decides.{nat_tests}
use Rattle.score_disk.specs.declared.disk.Disk.{Ghosts}
use Rattle.grid_model.specs.declared.acts.Act.{Act}
use Rattle.grid_model.specs.declared.items.Item.{Item}
use Rattle.grid_model.specs.Documents.{DocumentData}
use Rattle.grid_model.specs.Histories.{after}
use Rattle.grid_model.specs.Schedules.{Choice, row}
use Rattle.grid_model.proofs.EventShapes.{after-append}
use Rattle.disk_laws.specs.DiskActs.{is_quiet, IsDiskEvent}
use Rattle.disk_laws.specs.SoFar.{LawfulSoFar, risen}
use Rattle.disk_laws.proofs.Steps.{equal, differs, so_far-disk, so_far-quiet}
use Rattle.disk_laws.proofs.CountRises.{joint-both}
use Rattle.grid_model.specs.Cuts.{events}
use Rattle.view_laws.specs.Unmoved.{IsUnmoved}
use Rattle.grid_hosts.specs.declared.hosts.Host.{Host}
use Rattle.host_laws.specs.Turns.{MovesDisks, quiet, turned, Turns}
use Rattle.host_laws.proofs.OtherNodes.{stands-unmoved}
use Rattle.host_laws.specs.Follows.{IsNext, HostFollows, HostsFollow}

-- ---- one place of a list changes

get-set : {A : Type 0} (xs : List A) (i : ℕ) (x : A) → i < length xs → slice_get (slice_set xs i x) i ≡ Some x
get-set [] i x h = let never : ⊥ = omega (arith, h) in absurd never
get-set (y ∷ xs) zero x h = refl
get-set (y ∷ xs) (suc i) x h = get-set xs i x (omega (arith, h))

get-other : {A : Type 0} (xs : List A) (i j : ℕ) (x : A) → i ≢ j → slice_get (slice_set xs i x) j ≡ slice_get xs j
get-other [] i j x h = refl
get-other (y ∷ xs) zero zero x h = absurd (h refl)
get-other (y ∷ xs) zero (suc j) x h = refl
get-other (y ∷ xs) (suc i) zero x h = refl
get-other (y ∷ xs) (suc i) (suc j) x h = get-other xs i j x (λ e. h (ap suc e))

length-set : {A : Type 0} (xs : List A) (i : ℕ) (x : A) → length (slice_set xs i x) ≡ length xs
length-set [] i x = refl
length-set (y ∷ xs) zero x = refl
length-set (y ∷ xs) (suc i) x = ap suc (length-set xs i x)

-- ---- the rise of each node

-- a rise of each node by which these acts are lawful so far: that of n is more by so much, the others are as they were
record Rises (d : DocumentData) (e : ℕ) (h : List Act) (rise : ℕ → ℕ) (n more : ℕ) : Type 0 where
  pub now : ℕ → ℕ
  pub lawful : LawfulSoFar d e h now
  pub here : now n ≡ rise n + more
  pub there : (m : ℕ) → n ≢ m → now m ≡ rise m

risen-here : (rise : ℕ → ℕ) (n more : ℕ) → risen rise n more n ≡ rise n + more
risen-here rise n more = let same : (n == n) ≡ true = grind (arith, nat_tests) in rw same refl

risen-there : (rise : ℕ → ℕ) (n more m : ℕ) → n ≢ m → risen rise n more m ≡ rise m
risen-there rise n more m apart = go (n == m) refl
  where
    go : (b : Bool) → (n == m) ≡ b → risen rise n more m ≡ rise m
    go true is = absurd (apart (equal n m is))
    go false is = rw is refl

rises : (d : DocumentData) (e : ℕ) (h acts : List Act) (rise : ℕ → ℕ) (i : Item) (later : List Item) (c : Choice)
    (n more : ℕ) → LawfulSoFar d e h rise → drop e (events d) ≡ i ∷ later → acts ≡ row d (after [] h) i c
    → MovesDisks d (after [] h) acts n more → Rises d (e + 1) (h ++ acts) rise n more
rises d e h acts rise i later c n more lawful next is (quiet still none) = record {
  now = rise;
  lawful = rw is (so_far-quiet d e h rise i later c lawful next (subst (λ xs. IsTrue (list_all is_quiet xs)) is still));
  here = rw none (omega arith);
  there = λ m apart. refl;
}
rises d e h acts rise i later c n more lawful next is (turned event) = record {
  now = risen rise n more;
  lawful = rw is (so_far-disk d e h rise i later c n more lawful next (subst (λ xs. IsDiskEvent d (after [] h) xs n more) is event));
  here = risen-here rise n more;
  there = risen-there rise n more;
}

-- ---- one event more

pub unsome : {A : Type 0} (x y : A) → Some x ≡ Some y → x ≡ y
unsome x y e = ap (λ o. unwrap_or o x) e

module _ {D : Type 0} {g : Ghosts D} where
  -- one node has a part in the event, and each other node is left as it was
  pub turn-more : (d : DocumentData) (e : ℕ) (h : List Act) (given : ℕ → ℕ) (hosts now : List (Host D g)) (i : Item)
      (c : Choice) (acts : List Act) (n : ℕ) (x y : Host D g) → HostsFollow d e h given hosts → IsNext d e i
      → acts ≡ row d (after [] h) i c → 1 ≤ n → n ≤ d.cluster.nodes → slice_get hosts (n - 1) ≡ Some x → y.id ≡ x.id
      → Turns d (after [] h) acts n x.place y.place → now ≡ slice_set hosts (n - 1) y
      → ((m : ℕ) → n ≢ m → IsUnmoved d (after [] h) (after (after [] h) acts) m)
      → HostsFollow d (e + 1) (h ++ acts) given now
  turn-more d e h given hosts now i c acts n x y f (later, next) is least most at id t set others =
      record {
        rise = r.now;
        lawful = r.lawful;
        nodes = rw set (length-set hosts (n - 1) y ∙ f.nodes);
        host = λ m low high. go m low high (n == m) refl;
      }
    where
      r : Rises d (e + 1) (h ++ acts) f.rise n t.more
      r = rises d e h acts f.rise i later c n t.more f.lawful next is t.moves

      here : (x' : Host D g) × (slice_get hosts (n - 1) ≡ Some x') × HostFollows d e h given (f.rise n) n x'
      here = f.host n least most

      same : here.0 ≡ x
      same = unsome here.0 x (sym here.1 ∙ at)

      was : HostFollows d e h given (f.rise n) n x
      was = subst (HostFollows d e h given (f.rise n) n) same here.2

      turned-here : HostFollows d (e + 1) (h ++ acts) given (r.now n) n y
      turned-here = record {
        stands = record { id = id ∙ was.stands.id; place = rw (after-append [] h acts) t.stands };
        rises = rw r.here (joint-both _ _ _ _ _ _ (f.rise n) t.more was.rises t.rise);
        generation = omega (arith, t.grown, was.generation);
      }

      left-there : (m : ℕ) → 1 ≤ m → n ≢ m → (x' : Host D g)
          → slice_get hosts (m - 1) ≡ Some x' → HostFollows d e h given (f.rise m) m x'
          → HostFollows d (e + 1) (h ++ acts) given (r.now m) m x'
      left-there m low apart x' at' was' = record {
        stands = record {
          id = was'.stands.id;
          place = rw (after-append [] h acts) (stands-unmoved d (after [] h) (after (after [] h) acts) m x'.place (others m apart) was'.stands.place);
        };
        rises = rw (r.there m apart) was'.rises;
        generation = omega (arith, was'.generation);
      }

      go : (m : ℕ) → 1 ≤ m → m ≤ d.cluster.nodes → (b : Bool) → (n == m) ≡ b
          → (x' : Host D g) × (slice_get now (m - 1) ≡ Some x') × HostFollows d (e + 1) (h ++ acts) given (r.now m) m x'
      go m low high true eq =
          subst (λ k. (x' : Host D g) × (slice_get now (k - 1) ≡ Some x')
          × HostFollows d (e + 1) (h ++ acts) given (r.now k) k x') (equal n m eq)
          (y, rw set (get-set hosts (n - 1) y (omega (arith, f.nodes, least, most))), turned-here)
      go m low high false eq =
          let apart : n ≢ m = differs n m eq in
          let was' : (x' : Host D g) × (slice_get hosts (m - 1) ≡ Some x') × HostFollows d e h given (f.rise m) m x' =
          f.host m low high in (
            was'.0,
            rw set (get-other hosts (n - 1) (m - 1) y (λ k. apart (omega (arith, k, low, least))) ∙ was'.1),
            left-there m low apart was'.0 was'.1 was'.2,
          )

  -- no node has a part in the event
  pub quiet-more : (d : DocumentData) (e : ℕ) (h : List Act) (given : ℕ → ℕ) (hosts : List (Host D g)) (i : Item)
      (c : Choice) (acts : List Act) → HostsFollow d e h given hosts → IsNext d e i → acts ≡ row d (after [] h) i c
      → IsTrue (list_all is_quiet acts) → ((m : ℕ) → IsUnmoved d (after [] h) (after (after [] h) acts) m)
      → HostsFollow d (e + 1) (h ++ acts) given hosts
  quiet-more d e h given hosts i c acts f (later, next) is still others = record {
    rise = f.rise;
    lawful = rw is (so_far-quiet d e h f.rise i later c f.lawful next (subst (λ xs. IsTrue (list_all is_quiet xs)) is still));
    nodes = f.nodes;
    host = λ m low high.
        let was : (x : Host D g) × (slice_get hosts (m - 1) ≡ Some x) × HostFollows d e h given (f.rise m) m x =
        f.host m low high in (
          was.0,
          was.1,
          record {
            stands = record {
              id = was.2.stands.id;
              place = rw (after-append [] h acts) (stands-unmoved d (after [] h) (after (after [] h) acts) m was.0.place (others m) was.2.stands.place);
            };
            rises = was.2.rises;
            generation = omega (arith, was.2.generation);
          },
        );
  }
