-- What the images of the other disk are at each stage of a compaction.
use Rattle.std.proofs.Common.{◌≡◌, ◌≢◌, ℕ, zero, suc, ◌-◌, ◌<◌, ◌≤◌, ◌&&◌, nat_le, Bool, true, false, List, [], ◌∷◌, length, refl, sym, ap, ◌∙◌, inl, inr, arith, get_or, get_or-take, Option, Some, None}
use Rattle.std.specs.Prelude.{slice_get}
use Rattle.std.proofs.lemmas.Bool.Decides.{eqb_tells}
use Rattle.std.proofs.lemmas.Grind.{common_steps, same_number_lists}
use Rattle.score_disk.specs.Files.{File, IsImage, IsSettled, Missed, Unsynced, cut_to}
use Rattle.score_disk.proofs.Places.{both, uncovered}
use Rattle.node_journal.specs.Torn.{Near}
use Rattle.node_journal.specs.Log.{generation}
use Rattle.node_journal.specs.Pairs.{LeavesStale, LeavesStaleOr, IsUnversioned, Shortened}

not_both : (a b : Bool) → b ≡ false → (a && b) ≡ false
not_both true b e = e
not_both false b e = refl

pub head_is : (xs : List ℕ) (b : ℕ) → slice_get xs 0 ≡ Some b → get_or xs 0 0 ≡ b
head_is [] b e = cc
head_is (x ∷ xs) b e = cc

pub head_none : (xs : List ℕ) → slice_get xs 0 ≡ None → length xs ≤ 1
head_none [] e = omega arith
head_none (x ∷ xs) e = cc

-- a file whose byte 0 isn't 2 has no generation
pub gen_other : (bytes : List ℕ) → get_or bytes 0 0 ≢ 2 → generation bytes ≡ None
unfolding generation
gen_other bytes h = elim (eqb_tells (get_or bytes 0 0) 2) [
  | inl e ↦ absurd (h e.1)
  | inr e ↦ rw (not_both (nat_le 10 (length bytes)) _ e.0) refl
]

pub gen_short : (bytes : List ℕ) → length bytes ≤ 9 → generation bytes ≡ None
unfolding generation
gen_short bytes h =
    let short : nat_le 10 (length bytes) ≡ false = grind (arith, common_steps) in
    rw short refl

-- only byte 0 was touched, and it is that of these bytes, which are as the file at each other place
only_first : (f g : File) (bytes c : List ℕ) → 0 < length f.seen → Near f 0 1 g → IsImage g c →
    length bytes ≡ length f.seen → ((i : ℕ) → 1 ≤ i → get_or f.seen i 0 ≡ get_or bytes i 0) →
    get_or c 0 0 ≡ get_or bytes 0 0 → c ≡ bytes
only_first f g bytes c h a m long same first =
    let least : length f.seen ≤ length c = omega (arith, a.least, m.no_shorter) in
    let most : length c ≤ length f.seen = omega (arith, a.greatest, m.no_longer) in
    same_number_lists c bytes (omega (arith, long)) (λ i e. elim (eqb_tells i 0) [
      | inl z ↦ ap (λ n. get_or c n 0) z.1 ∙ first ∙ ap (λ n. get_or bytes n 0) (sym z.1)
      | inr z ↦
          let high : 1 ≤ i = omega (arith, z.1) in
          m.same i e (a.touched i (inr high)) ∙ a.same i (inr high) ∙ same i high
    ])

-- byte 0 is overwritten where it was 2
pub version_torn : (f g : File) → get_or f.seen 0 0 ≡ 2 → Near f 0 1 g → LeavesStale (generation f.seen) g
version_torn f g two a c m = elim (eqb_tells (get_or c 0 0) 2) [
  | inl e ↦ inr (ap generation (only_first f g f.seen c (some_bytes f.seen two) a m refl (λ i h. refl) (e.1 ∙ sym two)))
  | inr e ↦ inl (gen_other c e.1)
]
  where
    some_bytes : (xs : List ℕ) → get_or xs 0 0 ≡ 2 → 0 < length xs
    some_bytes [] e = cc
    some_bytes (x ∷ xs) e = omega arith

-- the file has at most one byte, and only byte 0 was touched
pub first_torn : (f g : File) → length f.seen ≤ 1 → Near f 0 1 g → (gen : Option ℕ) → LeavesStale gen g
first_torn f g h a gen c m = inl (gen_short c (omega (arith, a.greatest, m.no_longer)))

-- the version is opened
pub opening_torn : (f g : File) (rest : List ℕ) → IsUnversioned f rest → Near f 0 1 g → LeavesStaleOr None (2 ∷ rest) g
opening_torn f g rest u a c m =
    let long : length f.seen ≡ length (u.version ∷ rest) = ap length u.seen in
    elim (eqb_tells (get_or c 0 0) 2) [
      | inl e ↦ inr (only_first f g (2 ∷ rest) c (omega (
        arith,
        long,
      )) a m (sym long) (λ i h. ap (λ xs. get_or xs i 0) u.seen ∙ behind_first u.version rest i h) e.1)
      | inr e ↦ inl (inl (gen_other c e.1))
    ]
  where
    behind_first : (v : ℕ) (rest : List ℕ) (i : ℕ) → 1 ≤ i → get_or (v ∷ rest) i 0 ≡ get_or (2 ∷ rest) i 0
    behind_first v rest zero h = absurd (omega (arith, h))
    behind_first v rest (suc i) h = refl

-- the filling is written behind byte 0
pub filling_torn : (f g : File) (n : ℕ) → IsUnversioned f [] → Near f 1 n g → LeavesStale None g
filling_torn f g n u a c m =
    let long : length f.seen ≡ length (u.version ∷ []) = ap length u.seen in
    let first : get_or c 0 0 ≡ u.version =
    m.same 0 (omega (arith, a.least, m.no_shorter, long)) (a.touched 0 (inl (omega arith)))
    ∙ a.same 0 (inl (omega arith)) ∙ ap (λ xs. get_or xs 0 0) u.seen in
    inl (gen_other c (λ e. u.other (sym first ∙ e)))

pub short_missed : (f now : File) (at : ℕ) → IsSettled f → at ≤ length f.seen → Missed f (cut_to at f) now →
    Shortened f at now
short_missed f now at s h m = record {
  touched = λ i e. m.touched i (both (f.touched i) _ (s.touched i) (uncovered at (f.greatest - at) i (inl e)));
  least = omega (arith, m.least, s.least, h);
  greatest = omega (arith, m.greatest, s.greatest);
  same = λ i e. m.same i (m.touched i (both (f.touched i) _ (s.touched i) (uncovered at (f.greatest - at) i (inl e))));
}

pub short_unsynced : (f now : File) (at : ℕ) → IsSettled f → at ≤ length f.seen → Unsynced (cut_to at f) now →
    Shortened f at now
short_unsynced f now at s h u = record {
  touched = λ i e. u.touched i ∙ both (f.touched i) _ (s.touched i) (uncovered at (f.greatest - at) i (inl e));
  least = omega (arith, u.least, s.least, h);
  greatest = omega (arith, u.greatest, s.greatest);
  same =
      λ i e. u.same i (both (f.touched i) _ (s.touched i) (uncovered at (f.greatest - at) i (inl e)))
      ∙ get_or-take at f.seen i 0 e;
}

-- a file whose byte 0 isn't 2 is cut behind it
pub cut_torn : (f g : File) → get_or f.seen 0 0 ≢ 2 → Shortened f 1 g → (gen : Option ℕ) → LeavesStale gen g
cut_torn f g other a gen c m =
    let first : get_or c 0 0 ≡ get_or f.seen 0 0 =
    m.same 0 (omega (arith, a.least, m.no_shorter)) (a.touched 0 (omega arith)) ∙ a.same 0 (omega arith) in
    inl (gen_other c (λ e. other (sym first ∙ e)))

-- what has no generation at all doesn't have a new one
pub stale_weaker : (f : File) (gen : Option ℕ) → LeavesStale None f → LeavesStale gen f
stale_weaker f gen h c m = elim (h c m) [ inl e ↦ inl e | inr e ↦ inl e ]
