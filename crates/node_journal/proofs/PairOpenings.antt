-- What an opening of two disks leaves of each, and what its ends say.
use Rattle.std.proofs.Common.{◌≡◌, refl, ◌⊎◌, ℕ, ◌<◌, ◌≤◌, nat_lt, Bool, true, false, List, length, sym, ap, subst, ◌∙◌, inl, inr, arith, Result, Ok, Err, Option, Some, None, IsTrue}
use Rattle.std.specs.Prelude.{IfOk, IfErr}
use Rattle.std.proofs.lemmas.Bool.{cases_lt}
use Rattle.std.proofs.lemmas.Grind.{common_steps}
use Rattle.score_base.specs.Faults.{Rose}
use Rattle.score_disk.specs.Files.{File, IsImage, IsSettled}
use Rattle.score_disk.specs.declared.disk.Disk.{Ghosts}
use Rattle.node_journal.specs.declared.ends.PairEnd.{PairEnd}
use Rattle.node_journal.specs.declared.ends.PairEnd.TheVariants.{Failed, NotJournal, Memory}
use Rattle.node_journal.specs.Calls.{lowered}
use Rattle.node_journal.specs.Ends.{MatchPairEnd}
use Rattle.node_journal.specs.Log.{generation}
use Rattle.node_journal.specs.Pairs.{age, second_lives, in_order}
use Rattle.node_journal.specs.Torn.{LeavesAsBefore}
use Rattle.node_journal.specs.Spending.{Halted, Untouched}
use Rattle.node_journal.specs.PairDisks.{PairFailed}
use Rattle.node_journal.proofs.Pairs.{settled_image}
use Rattle.node_journal.proofs.Versions.{generation_short}

-- which of two files is the live one, by their generations
pub chosen : (first second : List ℕ) (one two : Option ℕ) (test is : Bool) → one ≡ generation first
    → two ≡ generation second →
    test ≡ nat_lt (age one) (age two) → test ≡ is → second_lives first second ≡ is
chosen first second one two test is e f t b =
    ap (λ n. nat_lt (age n) (age (generation second))) (sym e) ∙ ap (λ n. nat_lt (age one) (age n)) (sym f) ∙ sym t ∙ b

-- the younger of two files is no short one
pub younger_long : (first second : List ℕ) → second_lives first second ≡ true → 2 < length second
younger_long first second e = elim (cases_lt 9 (length second)) [
  | inl long ↦ omega (arith, long)
  | inr short ↦
      let none : age (generation second) ≡ 0 = ap age (generation_short second (omega (arith, short))) in
      let less : age (generation first) < age (generation second) = grind (arith, common_steps, e) in
      absurd (omega (arith, none, less))
]

-- and so is as before, whatever its opening leaves
pub kept_long : (first : List ℕ) (second mid now : File) → second_lives first second.seen ≡ true → mid ≡ second →
    LeavesAsBefore mid now → now ≡ second
kept_long first second mid now is same leaves = elim leaves [
  | inl e ↦ e ∙ same
  | inr short ↦
      let long : 2 < length second.seen = younger_long first second.seen is in
      let less : length second.seen ≤ 2 = subst (λ (f : File). length f.seen ≤ 2) same short.0 in
      absurd (omega (arith, long, less))
]

pub both_ok : {T E : Type 0} (r : Result T E) (P Q : T → Type 0) → IfOk r P → IfOk r Q → IfOk r (λ x. P x × Q x)
both_ok (Ok x) P Q p q = (p, q)
both_ok (Err e) P Q p q = tt

pub both_err : {T E : Type 0} (r : Result T E) (P Q : E → Type 0) → IfErr r P → IfErr r Q → IfErr r (λ x. P x × Q x)
both_err (Ok x) P Q p q = tt
both_err (Err e) P Q p q = (p, q)

module _ {D : Type 0} (d : Ghosts D) where
  pub untouched_on : (old mid now : D) → Untouched d old mid → Untouched d mid now → Untouched d old now
  untouched_on old mid now s t = record {
    tells = t.tells ∙ s.tells;
    file = t.file ∙ s.file;
    left = t.left ∙ s.left;
    own = t.own ∙ s.own;
    faults = t.faults ∙ s.faults;
  }

  halted_on : (n : ℕ) (old mid now : D) → Untouched d old mid → Halted d n mid now → Halted d n old now
  halted_on n old mid now s h = record {
    tells = h.tells ∙ s.tells;
    left = record {
      calls = h.left.calls;
      within = h.left.within;
      falls = h.left.falls ∙ ap
          (lowered h.left.calls) s.left;
    };
    own = subst (λ k. k ≤ d.own now) s.own h.own;
    faults = subst (λ k. k ≤ d.faults now) s.faults h.faults;
    rose = subst (λ k. Rose k (d.faults now)) s.faults h.rose;
    cause = subst (λ k. Rose k (d.own now) ⊎ (d.left now ≡ Some 0)) s.own h.cause;
    rises = λ less. subst (λ k. (k < d.own now) ⊎ (d.left now ≡ Some 0)) s.own
        (h.rises (subst (λ k. k < d.faults now) (sym s.faults) less));
  }

  -- neither was written, and the second is the live one
  pub both_kept : (second : Bool) (live other f g s t : D) → second ≡ true → other ≡ g → Untouched d f g
      → Untouched d s t →
      Untouched d t live → Untouched d f (in_order second (λ a _. a) live other) × Untouched d s
      (in_order second (λ _ b. b) live other)
  both_kept true live other f g s t e o first last kept =
      (subst (Untouched d f) (sym o) first, untouched_on s t live last kept)
  both_kept false live other f g s t e o first last kept = cc

  -- what an opening of the live disk says at its end is said of the two
  module _ (f g s t : D) (first : Untouched d f g) (last : Untouched d s t) (Files : D → D → Type 0)
      (Bad : ℕ → Type 0) where
    abbrev pub Ends : PairEnd D → Type 0
    Ends e =
        MatchPairEnd e
        (λ a b. ((Halted d 2 f a × Untouched d s b) ⊎ (Untouched d f a × Halted d 2 s b)) × Files a b)
        (λ a b at. Untouched d f a × Untouched d s b × Bad at)
        (λ a b. Untouched d f a × Untouched d s b)

    pub second_ends : (e : PairEnd D) (K : D → D → Type 0) (L : ℕ → Type 0) →
        ((a b : D) → a ≡ g → K a b → Files a b) → ((at : ℕ) → L at → Bad at) →
        MatchPairEnd e (λ a b. Halted d 2 t b × (a ≡ g) × K a b) (λ a b at. Untouched d t b × (a ≡ g) × L at)
        (λ a b. Untouched d t b × (a ≡ g)) → Ends e
    second_ends (Failed a b) K L files bad h =
        (inr (subst (Untouched d f) (sym h.1) first, halted_on 2 s t b last h.0), files a b h.1 h.2)
    second_ends (NotJournal a b at) K L files bad h =
        (subst (Untouched d f) (sym h.1) first, untouched_on s t b last h.0, bad at h.2)
    second_ends (Memory a b) K L files bad h = (subst (Untouched d f) (sym h.1) first, untouched_on s t b last h.0)

    pub first_ends : (e : PairEnd D) (K : D → D → Type 0) (L : ℕ → Type 0) →
        ((a b : D) → b ≡ t → K a b → Files a b) → ((at : ℕ) → L at → Bad at) →
        MatchPairEnd e (λ a b. Halted d 2 g a × (b ≡ t) × K a b) (λ a b at. Untouched d g a × (b ≡ t) × L at)
        (λ a b. Untouched d g a × (b ≡ t)) → Ends e
    first_ends (Failed a b) K L files bad h =
        (inl (halted_on 2 f g a first h.0, subst (Untouched d s) (sym h.1) last), files a b h.1 h.2)
    first_ends (NotJournal a b at) K L files bad h =
        (untouched_on f g a first h.0, subst (Untouched d s) (sym h.1) last, bad at h.2)
    first_ends (Memory a b) K L files bad h = (untouched_on f g a first h.0, subst (Untouched d s) (sym h.1) last)

-- ---- an opening that failed

lowered_none : (o : Option ℕ) → lowered 0 o ≡ o
lowered_none None = refl
lowered_none (Some k) = ap Some (omega arith)

lowered_zero : (calls : ℕ) (o : Option ℕ) → calls ≤ 0 → lowered calls o ≡ o
lowered_zero calls None few = refl
lowered_zero calls (Some k) few = ap Some (omega (arith, few))

module _ {D : Type 0} (d : Ghosts D) where
  -- no call was counted
  halted_still : (n : ℕ) (old now : D) → Halted d n old now → d.left now ≡ d.left old → Halted d 0 old now
  halted_still n old now h same = record {
    tells = h.tells;
    left = record { calls = 0; within = omega arith; falls = same ∙ sym (lowered_none (d.left old)) };
    own = h.own;
    faults = h.faults;
    rose = h.rose;
    cause = h.cause;
    rises = h.rises;
  }

  pub halted_left : (old now : D) → Halted d 0 old now → d.left now ≡ d.left old
  halted_left old now h = h.left.falls ∙ lowered_zero h.left.calls (d.left old) h.left.within

  pub as_before : (old : D) → Untouched d old old
  as_before old = record { tells = refl; file = refl; left = refl; own = refl; faults = refl }

  abbrev pub EndsFailed : D → D → PairEnd D → Type 0
  EndsFailed f s e = MatchPairEnd e (λ a b. PairFailed d f s a b) (λ a b at. Unit {0}) (λ a b. Unit {0})

  pub second_failed : (f g s t : D) → Untouched d f g → Untouched d s t → second_lives (d.file f).seen (d.file s).seen ≡ true
      → IsTrue (d.tells t) → (e : PairEnd D) (L : ℕ → Type 0)
      → MatchPairEnd e (λ a b. Halted d 2 t b × (a ≡ g) × (IsTrue (d.tells t) → LeavesAsBefore (d.file t) (d.file b)))
      (λ a b at. Untouched d t b × (a ≡ g) × L at) (λ a b. Untouched d t b × (a ≡ g))
      → MatchPairEnd e (λ a b. IsTrue (d.tells t) → 2 < length (d.file t).seen → d.left b ≡ d.left t)
      (λ a b at. Unit {0}) (λ a b. Unit {0}) → EndsFailed f s e
  second_failed f g s t first last lives told (Failed a b) L h k =
      let long : 2 < length (d.file t).seen = subst (λ (n : File). 2 < length n.seen) (sym last.file) (younger_long (d.file f).seen (d.file s).seen lives) in
      record {
        halted = inr (subst (Untouched d f) (sym h.1) first, halted_still 2 s b (halted_on d 2 s t b last h.0) (k told long ∙ last.left));
        first_file = inl (ap d.file h.1 ∙ first.file, ap d.left h.1 ∙ first.left);
        second_file = kept_long (d.file f).seen (d.file s) (d.file t) (d.file b) lives last.file (h.2 told);
      }
  second_failed f g s t first last lives told (NotJournal a b at) L h k = tt
  second_failed f g s t first last lives told (Memory a b) L h k = tt

  pub first_failed : (f g s t : D) → Untouched d f g → Untouched d s t → second_lives (d.file f).seen (d.file s).seen ≡ false
      → IsSettled (d.file f) → IsTrue (d.tells g) → (e : PairEnd D) (L : ℕ → Type 0)
      → MatchPairEnd e (λ a b. Halted d 2 g a × (b ≡ t) × (IsTrue (d.tells g) → LeavesAsBefore (d.file g) (d.file a)))
      (λ a b at. Untouched d g a × (b ≡ t) × L at) (λ a b. Untouched d g a × (b ≡ t))
      → MatchPairEnd e (λ a b. IsTrue (d.tells g) → 2 < length (d.file g).seen → d.left a ≡ d.left g)
      (λ a b at. Unit {0}) (λ a b. Unit {0}) → EndsFailed f s e
  first_failed f g s t first last lives settled told (Failed a b) L h k =
      let leaves : LeavesAsBefore (d.file f) (d.file a) = subst (λ n. LeavesAsBefore n (d.file a)) first.file (h.2 told) in
      record {
        halted = inl (halted_on d 2 f g a first h.0, subst (Untouched d s) (sym h.1) last);
        first_file = elim (cases_lt 2 (length (d.file f).seen)) [
          | inl long ↦ inl (
            elim leaves [ inl e ↦ e | inr short ↦ (let few = short.0 in absurd (omega (arith, few, long))) ],
            k told (subst (λ (n : File). 2 < length n.seen) (sym first.file) long) ∙ first.left,
          )
          | inr short ↦ inr (
            lives,
            short,
            elim leaves [
              | inl e ↦ (λ c m. subst (λ (x : List ℕ). length x ≤ 2) (sym (settled_image (d.file f) c settled (subst (λ n. IsImage n c) e m))) short)
              | inr few ↦ few.1
            ],
          )
        ];
        second_file = ap d.file h.1 ∙ last.file;
      }
  first_failed f g s t first last lives settled told (NotJournal a b at) L h k = tt
  first_failed f g s t first last lives settled told (Memory a b) L h k = tt
