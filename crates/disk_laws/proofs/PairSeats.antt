-- From the words of a pair of disks to those of what they show.
use Rattle.std.proofs.Common.{◌≡◌, ◌<◌, ◌≤◌, ◌⊎◌, inl, inr, ℕ, ◌+◌, not, Bool, true, false, Some, None, List, [], ◌∷◌, ◌++◌, length, Ok, refl, sym, ap, subst, ◌∙◌, arith}
use Rattle.std.proofs.lemmas.Bool.{cases_lt}
use Rattle.score_base.specs.declared.records.Record.{Record}
use Rattle.score_disk.specs.Files.{File, IsImage, IsSettled, IsCrash, put_at, synced, written}
use Rattle.score_disk.specs.declared.disk.Disk.{Ghosts}
use Rattle.journal_words.specs.Small.{small_in_time}
use Rattle.node_journal.specs.declared.pair.Pair.{Pair}
use Rattle.node_journal.specs.Log.{generation, log}
use Rattle.node_journal.specs.Pairs.{number_of, second_lives, pair_log, in_order, IsLive, LeavesPair, LeavesPairOneOf}
use Rattle.node_journal.specs.PairDisks.{PairFailed, TellsBoth, IsPairAtRest, list_of, first_of, last_of}
use Rattle.node_journal.specs.Spending.{Opened, Spent, Halted, Untouched}
use Rattle.node_journal.specs.Torn.{LeavesVersion}
use Rattle.node_journal.proofs.Generations.{gen_short}
use Rattle.node_journal.proofs.Pairs.{settled_image, live_kept, pair_is}
use Rattle.disk_laws.specs.Shown.{Shown, shown, seats, first_seat, second_seat, pair_number, HasLog, AreAtRest}
use Rattle.disk_laws.specs.Calls.{HasSpent, HasHalted, HasCrashed, HasAppended, HasCompacted, LeavesLog, LeavesLogOr, WasCut, WasCutSmall, CameUp, FailedToOpen, IsEmptyPair}
use Rattle.disk_laws.proofs.Files.{rest-log, log-same, empty-log, same-ok}
use Rattle.disk_laws.proofs.Openings.{first-by}

-- ---- the generation of a pair of images, of which the live one keeps its generation

number-by : (second : Bool) (live now other : File) (a b : List ℕ) (number : ℕ) → IsSettled other →
    IsLive second live.seen other.seen → number_of (generation live.seen) ≡ number →
    LeavesVersion (generation live.seen) now → IsImage (in_order second (λ f _. f) now other) a →
    IsImage (in_order second (λ _ s. s) now other) b → pair_number a b ≡ number
number-by true live now other a b number settled lives is same ia ib =
    let old : a ≡ other.seen = settled_image other a settled ia in
    let two : second_lives other.seen b ≡ true = live_kept true live.seen b other.seen (same b ib) lives in
    let both : second_lives a b ≡ true = ap (λ x. second_lives x b) old ∙ two in
    rw both (ap number_of (same b ib) ∙ is)
number-by false live now other a b number settled lives is same ia ib =
    let old : b ≡ other.seen = settled_image other b settled ib in
    let two : second_lives a other.seen ≡ false = live_kept false live.seen a other.seen (same a ia) lives in
    let both : second_lives a b ≡ false = ap (second_lives a) old ∙ two in
    rw both (ap number_of (same a ia) ∙ is)

-- a first file that was made anew has no generation
anew-short : (xs : List ℕ) → length xs ≤ 2 → length (put_at xs 0 (1 ∷ 0 ∷ [])) ≤ 2
anew-short [] short = omega arith
anew-short (x ∷ []) short = omega arith
anew-short (x ∷ y ∷ []) short = omega arith
anew-short (x ∷ y ∷ z ∷ xs) short = let never : ⊥ = omega (arith, short) in absurd never

anew-number : (b : Bool) (l o : Shown) (number : ℕ) → b ≡ false → number_of (generation l.file.seen) ≡ number →
    length (first_seat (record { second = b; live = l; other = o })).file.seen ≤ 2 → number ≡ 0
anew-number true l o number first is short = grind arith
anew-number false l o number first is short = sym is ∙ ap number_of (gen_short l.file.seen (omega (arith, short)))

module _ {D : Type 0} (g : Ghosts D) where
  -- ---- one disk

  pub has-spent : (calls : ℕ) (a b : D) → Spent g calls a b → HasSpent calls (shown g a) (shown g b)
  has-spent calls a b s = record { left = s.left; unstopped = s.unstopped; own = s.own }

  pub has-halted : (most : ℕ) (a b : D) → Halted g most a b → HasHalted most (shown g a) (shown g b)
  has-halted most a b h = record { left = h.left; later = h.own; cause = h.cause }

  pub has-crashed : (a b : D) → IsCrash (g.file a) (g.file b) → g.left b ≡ None → g.own b ≡ g.own a →
      HasCrashed (shown g a) (shown g b)
  has-crashed a b crash left own = record { crash = crash; left = left; own = own }

  pub same-shown : (a b : D) → Untouched g a b → shown g b ≡ shown g a
  same-shown a b u = rw (u.file, u.left, u.own) refl

  -- ---- a pair

  pub at-rest : (q : Pair D g) (records : List Record) → TellsBoth q → IsPairAtRest q records →
      AreAtRest records q.number (seats q)
  at-rest q records t r = record {
    live = r.live;
    other = r.other;
    is_live = q.is_live t.0 t.1;
    log = r.is;
    number_is = q.numbered t.0;
  }

  -- neither disk was written
  pub same-seats : (p q : Pair D g) → q.second ≡ p.second → Untouched g p.live.disk q.live.disk →
      Untouched g p.other q.other → seats q ≡ seats p
  same-seats p q second live other = rw (
    second,
    same-shown p.live.disk q.live.disk live,
    same-shown p.other q.other
        other,
  ) refl

  pub has-appended : (x : Record) (p q : Pair D g) → TellsBoth q → IsPairAtRest q (list_of p ++ x ∷ []) →
      Spent g 4 p.live.disk q.live.disk → q.other ≡ p.other → q.second ≡ p.second → q.number ≡ p.number →
      HasAppended (list_of p) x p.number (seats p) (seats q)
  has-appended x p q t r spent other second number = record {
    rest = subst (λ k. AreAtRest (list_of p ++ x ∷ []) k (seats q)) number (at-rest q (list_of p ++ x ∷ []) t r);
    live = has-spent 4 p.live.disk q.live.disk spent;
    other = ap (shown g) other;
    second = second;
  }

  pub has-compacted : (p q : Pair D g) → TellsBoth q → IsPairAtRest q (small_in_time (list_of p)) →
      Spent g 6 p.other q.live.disk ⊎ Spent g 8 p.other q.live.disk → q.other ≡ p.live.disk →
      q.second ≡ not p.second → q.number ≡ p.number + 1 → HasCompacted (list_of p) p.number (seats p) (seats q)
  has-compacted p q t r spent other second number = record {
    rest = subst (λ k. AreAtRest (small_in_time (list_of p)) k (seats q)) number
        (at-rest q (small_in_time (list_of p)) t r);
    live = elim spent [
      | inl six ↦ inl (has-spent 6 p.other q.live.disk six)
      | inr eight ↦
          inr (has-spent 8 p.other q.live.disk eight)
    ];
    other = ap (shown g) other;
    second = second;
  }

  -- ---- a stop in a record, where each image of the live disk keeps its generation

  shown-by : (b : Bool) (f : D → Shown) (x y : D) → in_order b (λ live _. live) (f x) (f y) ≡ f
      (in_order b (λ live _. live) x y)
  shown-by true f x y = refl
  shown-by false f x y = refl

  shown-other : (b : Bool) (f : D → Shown) (x y : D) → in_order b (λ _ other. other) (f x) (f y) ≡ f
      (in_order b (λ _ other. other) x y)
  shown-other true f x y = refl
  shown-other false f x y = refl

  cut-number : (second : Bool) (live other first last : D) (number : ℕ) → IsSettled (g.file other) →
      IsLive second (g.file live).seen (g.file other).seen → number_of (generation (g.file live).seen) ≡ number →
      in_order second (λ _ other. other) first last ≡ other → LeavesVersion (generation (g.file live).seen)
      (g.file (in_order second (λ live _. live) first last)) → (a b : List ℕ) → IsImage (g.file first) a →
      IsImage (g.file last) b → pair_number a b ≡ number
  cut-number true live other first last number settled lives is kept same a b ia ib =
      number-by true (g.file live) (g.file last) (g.file other) a b number settled lives is same
      (subst (λ x. IsImage (g.file x) a) kept ia) ib
  cut-number false live other first last number settled lives is kept same a b ia ib =
      number-by false (g.file live) (g.file first) (g.file other) a b number settled lives is same ia
      (subst (λ x. IsImage (g.file x) b) kept ib)

  pub was-cut : (x : Record) (p : Pair D g) (first last : D) → TellsBoth p →
      LeavesPairOneOf (list_of p) (list_of p ++ x ∷ []) (g.file first) (g.file last) →
      ((k : ℕ) → g.left p.live.disk ≡ Some k → k ≤ 2 → LeavesPair (list_of p) (g.file first) (g.file last)) →
      in_order p.second (λ _ other. other) first last ≡ p.other →
      Halted g 4 p.live.disk (in_order p.second (λ live _. live) first last) →
      LeavesVersion (generation (g.file p.live.disk).seen) (g.file (in_order p.second (λ live _. live) first last)) →
      WasCut (list_of p) x p.number (seats p) (shown g first) (shown g last)
  was-cut x p first last t images early other halted same = record {
    images = λ a b ia ib. elim (images a b ia ib) [
      | inl old ↦ inl (record { log = old; number_is = number a b ia ib })
      | inr longer ↦ inr (record { log = longer; number_is = number a b ia ib })
    ];
    early = λ k left few a b ia ib. record { log = early k left few a b ia ib; number_is = number a b ia ib };
    other = shown-other p.second (shown g) first last ∙ ap (shown g) other;
    halted = subst (HasHalted 4 (shown g p.live.disk)) (sym (shown-by p.second (shown g) first last))
        (has-halted 4 p.live.disk (in_order p.second (λ live _. live) first last) halted);
  }
    where
      number : (a b : List ℕ) → IsImage (g.file first) a → IsImage (g.file last) b → pair_number a b ≡ p.number
      number = cut-number p.second p.live.disk p.other first last p.number (p.settled t.1) (p.is_live t.0 t.1)
          (p.numbered t.0) other same

  pub was-cut-small : (p : Pair D g) (first last : D) → LeavesLogOr (list_of p) p.number (small_in_time (list_of p))
      (p.number + 1) (g.file first) (g.file last) → ((k : ℕ) → g.left p.other ≡ Some k → k ≤ 4 →
      LeavesLog (list_of p) p.number (g.file first) (g.file last)) →
      in_order p.second (λ live _. live) first last ≡ p.live.disk →
      Halted g 8 p.other (in_order p.second (λ _ other. other) first last) →
      WasCutSmall (list_of p) p.number (seats p) (shown g first) (shown g last)
  was-cut-small p first last images early live halted = record {
    images = images;
    early = early;
    live = shown-by p.second (shown g) first last ∙ ap (shown g) live;
    halted = subst (HasHalted 8 (shown g p.other)) (sym (shown-other p.second (shown g) first last))
        (has-halted 8 p.other (in_order p.second (λ _ other. other) first last) halted);
  }

  -- ---- an opening, in which only the first disk may be written

  first-shown : (q : Pair D g) → first_seat (seats q) ≡ shown g (first_of q)
  first-shown q = go q.second
    where
      go : (b : Bool) → in_order b (λ f _. f) (shown g q.live.disk) (shown g q.other) ≡ shown g
          (in_order b (λ f _. f) q.live.disk q.other)
      go true = refl
      go false = refl

  last-shown : (q : Pair D g) → second_seat (seats q) ≡ shown g (last_of q)
  last-shown q = go q.second
    where
      go : (b : Bool) → in_order b (λ _ s. s) (shown g q.live.disk) (shown g q.other) ≡ shown g
          (in_order b (λ _ s. s) q.live.disk q.other)
      go true = refl
      go false = refl

  pub came-up : (first second : D) (q : Pair D g) → TellsBoth q →
      pair_log (g.file first).seen (g.file second).seen ≡ Ok (list_of q) → IsPairAtRest q (list_of q) →
      Untouched g second (last_of q) → Untouched g first (first_of q) ⊎
      (IsEmptyPair (shown g first) (shown g second) × Spent g 2 first (first_of q)) →
      (IsEmptyPair (shown g first) (shown g second) → g.file (first_of q) ≡ synced
      (written 0 (1 ∷ 0 ∷ []) (g.file first))) → CameUp (list_of q) q.number (shown g first) (shown g second) (seats q)
  came-up first second q t is r kept wrote anew = record {
    log = record { log = is; number_is = elim wrote [ inl same ↦ untouched same | inr (e, spent) ↦ empty e ] };
    rest = rest;
    first_is = elim wrote [
      | inl same ↦ inl (first-shown q ∙ same-shown first (first_of q) same)
      | inr (e, spent) ↦ inr (
        e,
        subst (HasSpent 2 (shown g first)) (sym (first-shown q))
            (has-spent 2 first (first_of q) spent),
      )
    ];
    second_is = two;
  }
    where
      rest : AreAtRest (list_of q) q.number (seats q)
      rest = at-rest q (list_of q) t r

      two : second_seat (seats q) ≡ shown g second
      two = last-shown q ∙ same-shown second (last_of q) kept

      untouched : Untouched g first (first_of q) → pair_number (g.file first).seen (g.file second).seen ≡ q.number
      untouched same =
          let h : HasLog (list_of q) q.number (first_seat (seats q)).file.seen (second_seat (seats q)).file.seen =
          rest-log (list_of q) q.number (seats q) rest in
          let k : HasLog (list_of q) q.number (g.file first).seen (g.file second).seen =
          log-same (list_of q) q.number (first_seat (seats q)).file.seen (second_seat (seats q)).file.seen
          (g.file first).seen (g.file second).seen
          (sym (ap (λ z. z.file.seen) (first-shown q ∙ same-shown first (first_of q) same)))
          (sym (ap (λ z. z.file.seen) two)) h in
          k.number_is

      empty : IsEmptyPair (shown g first) (shown g second) → pair_number (g.file first).seen
          (g.file second).seen ≡ q.number
      empty e =
          let file : (first_seat (seats q)).file ≡ synced (written 0 (1 ∷ 0 ∷ []) (g.file first)) =
          ap (λ z. z.file) (first-shown q) ∙ anew e in
          let short : length (first_seat (seats q)).file.seen ≤ 2 = rw file (anew-short (g.file first).seen e.1) in
          let zero : q.number ≡ 0 = anew-number q.second (shown g q.live.disk) (shown g q.other) q.number
          (first-by q.second (shown g q.live.disk) (shown g q.other) (shown g first) (shown g second) e
          rest.is_live two) rest.number_is short in
          (empty-log (g.file first).seen (g.file second).seen e.0 e.1).number_is ∙ sym zero

  pub failed-to-open : (first second a b : D) → PairFailed g first second a b →
      FailedToOpen (shown g first) (shown g second) (shown g a) (shown g b)
  failed-to-open first second a b f = record {
    halted = elim f.halted [
      | inl (h, kept) ↦ inl (has-halted 2 first a h, same-shown second b kept)
      | inr (kept, h) ↦ inr (same-shown first a kept, has-halted 0 second b h)
    ];
    first_file = elim f.first_file [
      | inl same ↦ inl same
      | inr (lives, few, short) ↦ inr ((lives, few), short)
    ];
    second_file = f.second_file;
  }

  -- the records of a pair that is at rest are its list
  pub list-at : (q : Pair D g) (records : List Record) (number : ℕ) → TellsBoth q →
      AreAtRest records number (seats q) → list_of q ≡ records
  list-at q records number t r =
      let read : log (g.file q.live.disk).seen ≡ Ok (list_of q) = q.same t.0 in
      let is : log (g.file q.live.disk).seen ≡ Ok records = sym
      (pair_is q.second (g.file q.live.disk).seen (g.file q.other).seen r.is_live) ∙ r.log in
      same-ok (list_of q) records (sym read ∙ is)

  -- an opening that came up, by the clauses of a pair
  pub opened-pair : (first second : D) (q : Pair D g) → TellsBoth q →
      pair_log (g.file first).seen (g.file second).seen ≡ Ok (list_of q) → IsPairAtRest q (list_of q) →
      Opened g first (first_of q) × Untouched g second (last_of q) →
      ((second_lives (g.file first).seen (g.file second).seen ≡ true) ⊎ (2 < length (g.file first).seen) →
      Untouched g first (first_of q) × Untouched g second (last_of q)) →
      (second_lives (g.file first).seen (g.file second).seen ≡ false → length (g.file first).seen ≤ 2 →
      g.file (first_of q) ≡ synced (written 0 (1 ∷ 0 ∷ []) (g.file first))) →
      CameUp (list_of q) q.number (shown g first) (shown g second) (seats q)
  opened-pair first second q t is rest opened kept anew =
      came-up first second q t is rest opened.1 (wrote (second_lives (g.file first).seen (g.file second).seen) refl)
      (λ e. anew e.0 e.1)
    where
      wrote : (b : Bool) → second_lives (g.file first).seen (g.file second).seen ≡ b →
          Untouched g first (first_of q) ⊎ (IsEmptyPair (shown g first) (shown g second) × Spent g 2 first (first_of q))
      wrote true lives = inl (kept (inl lives)).0
      wrote false lives = elim (cases_lt 2 (length (g.file first).seen)) [
        | inl long ↦ inl (kept (inr long)).0
        | inr short ↦ elim opened.0 [ inl same ↦ inl same | inr spent ↦ inr ((lives, short), spent) ]
      ]
