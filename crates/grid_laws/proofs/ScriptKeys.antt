-- Each key of a script is read remotely or written, and both lists are short and have distinct keys.
use Rattle.std.proofs.Common.{◌≡◌, ◌+◌, ◌≤◌, inl, inr, Bool, true, false, List, [], ◌∷◌, length, refl, subst, ◌∙◌, arith}
use Rattle.std.proofs.lemmas.Bool.{or_cases, or_left, or_right, and_parts}
use Rattle.std.specs.Prelude.{◌||◌, not, filter, if◌then◌else◌}
use Rattle.std.specs.List.{list_any, list_all}
use Rattle.score_base.specs.declared.keys.Key.{Key}
use Rattle.score_base.specs.Keys.{same_key}
use Rattle.script_lang.specs.declared.scripts.Op.{Op}
use Rattle.script_lang.specs.declared.scripts.Op.TheVariants as op
use Rattle.script_lang.specs.Reads.{is_key_among, keys_named, keys_of, distinct_keys, remote_keys, written_keys}
use Rattle.journal_words.specs.Journals.{are_distinct_keys}
use Rattle.script_lang.proofs.KeyLists.{same_key-is, among-here, among-later}
use Rattle.grid_model.proofs.Written.{among-filter}

-- ---- how long the lists are

pub filter-length : (p : Key → Bool) (ks : List Key) → length (filter p ks) ≤ length ks
filter-length p [] = omega arith
filter-length p (k ∷ ks) = go (p k) (filter-length p ks)
  where
    go : (b : Bool) → length (filter p ks) ≤ length ks
        → length (if b then k ∷ filter p ks else filter p ks) ≤ length (k ∷ ks)
    go true h = omega (arith, h)
    go false h = omega (arith, h)

pub remote-length : (seen : List Key) (ops : List Op) → length (remote_keys seen ops) ≤ length ops
remote-length seen [] = omega arith
remote-length seen (op.Read k ∷ ops) = go (is_key_among k seen) (remote-length seen ops) (remote-length (k ∷ seen) ops)
  where
    go : (b : Bool) → length (remote_keys seen ops) ≤ length ops → length (remote_keys (k ∷ seen) ops) ≤ length ops
        → length (if b then remote_keys seen ops else k ∷ remote_keys (k ∷ seen) ops) ≤ length (op.Read k ∷ ops)
    go true old new = omega (arith, old)
    go false old new = omega (arith, new)
remote-length seen (op.Write k e ∷ ops) = let le = remote-length (k ∷ seen) ops in omega (arith, le)

pub written-length : (seen : List Key) (ops : List Op) → length (written_keys seen ops) ≤ length ops
written-length seen [] = omega arith
written-length seen (op.Read k ∷ ops) = let le = written-length seen ops in omega (arith, le)
written-length seen (op.Write k e ∷ ops) = go (is_key_among k seen) (written-length seen ops) (written-length (k ∷ seen) ops)
  where
    go : (b : Bool) → length (written_keys seen ops) ≤ length ops → length (written_keys (k ∷ seen) ops) ≤ length ops
        → length (if b then written_keys seen ops else k ∷ written_keys (k ∷ seen) ops) ≤ length (op.Write k e ∷ ops)
    go true old new = omega (arith, old)
    go false old new = omega (arith, new)

-- ---- no key stands twice

-- no key that was seen before is one that was not
not-same : (x k : Key) (seen : List Key) (b : Bool) → same_key x k ≡ b → is_key_among x seen ≡ true
    → is_key_among k seen ≡ false → b ≡ false
not-same x k seen true e h new = (let is : x ≡ k = same_key-is x k e in let there : is_key_among k seen ≡ true = subst (λ (y : Key). is_key_among y seen ≡ true) is h in cc)
not-same x k seen false e h new = refl

-- a key that was seen before is not read remotely
remote-new : (x : Key) (seen : List Key) (ops : List Op) → is_key_among x seen ≡ true
    → is_key_among x (remote_keys seen ops) ≡ false
remote-new x seen [] h = refl
remote-new x seen (op.Read k ∷ ops) h = go (is_key_among k seen) refl (remote-new x seen ops h) (remote-new x (k ∷ seen) ops (among-later x k seen h))
  where
    go : (b : Bool) → is_key_among k seen ≡ b → is_key_among x (remote_keys seen ops) ≡ false
        → is_key_among x (remote_keys (k ∷ seen) ops) ≡ false
        → is_key_among x (if b then remote_keys seen ops else k ∷ remote_keys (k ∷ seen) ops) ≡ false
    go true e old new = old
    go false e old new = rw (not-same x k seen (same_key x k) refl h e) new
remote-new x seen (op.Write k e ∷ ops) h = remote-new x (k ∷ seen) ops (among-later x k seen h)

-- nor is one that was written before written again
written-new : (x : Key) (seen : List Key) (ops : List Op) → is_key_among x seen ≡ true
    → is_key_among x (written_keys seen ops) ≡ false
written-new x seen [] h = refl
written-new x seen (op.Read k ∷ ops) h = written-new x seen ops h
written-new x seen (op.Write k e ∷ ops) h = go (is_key_among k seen) refl (written-new x seen ops h) (written-new x (k ∷ seen) ops (among-later x k seen h))
  where
    go : (b : Bool) → is_key_among k seen ≡ b → is_key_among x (written_keys seen ops) ≡ false
        → is_key_among x (written_keys (k ∷ seen) ops) ≡ false
        → is_key_among x (if b then written_keys seen ops else k ∷ written_keys (k ∷ seen) ops) ≡ false
    go true e old new = old
    go false e old new = rw (not-same x k seen (same_key x k) refl h e) new

pub remote-distinct : (seen : List Key) (ops : List Op) → are_distinct_keys (remote_keys seen ops) ≡ true
remote-distinct seen [] = refl
remote-distinct seen (op.Read k ∷ ops) = go (is_key_among k seen) (remote-distinct seen ops) (remote-distinct (k ∷ seen) ops) (remote-new k (k ∷ seen) ops (among-here k seen))
  where
    go : (b : Bool) → are_distinct_keys (remote_keys seen ops) ≡ true
        → are_distinct_keys (remote_keys (k ∷ seen) ops) ≡ true → is_key_among k (remote_keys (k ∷ seen) ops) ≡ false
        → are_distinct_keys (if b then remote_keys seen ops else k ∷ remote_keys (k ∷ seen) ops) ≡ true
    go true old new none = old
    go false old new none = rw none new
remote-distinct seen (op.Write k e ∷ ops) = remote-distinct (k ∷ seen) ops

pub written-distinct : (seen : List Key) (ops : List Op) → are_distinct_keys (written_keys seen ops) ≡ true
written-distinct seen [] = refl
written-distinct seen (op.Read k ∷ ops) = written-distinct seen ops
written-distinct seen (op.Write k e ∷ ops) = go (is_key_among k seen) (written-distinct seen ops) (written-distinct (k ∷ seen) ops) (written-new k (k ∷ seen) ops (among-here k seen))
  where
    go : (b : Bool) → are_distinct_keys (written_keys seen ops) ≡ true
        → are_distinct_keys (written_keys (k ∷ seen) ops) ≡ true → is_key_among k (written_keys (k ∷ seen) ops) ≡ false
        → are_distinct_keys (if b then written_keys seen ops else k ∷ written_keys (k ∷ seen) ops) ≡ true
    go true old new none = old
    go false old new none = rw none new

pub filter-distinct : (p : Key → Bool) (ks : List Key) → are_distinct_keys ks ≡ true
    → are_distinct_keys (filter p ks) ≡ true
filter-distinct p [] h = refl
filter-distinct p (k ∷ ks) h = go (p k) (filter-distinct p ks rest) gone
  where
    rest : are_distinct_keys ks ≡ true
    rest = (and_parts (not (is_key_among k ks)) (are_distinct_keys ks) h).1

    none : (b : Bool) → is_key_among k ks ≡ b → not b ≡ true → b ≡ false
    none true e n = cc
    none false e n = refl

    gone : is_key_among k (filter p ks) ≡ false
    gone = among-filter p k ks ∙ rw (none (is_key_among k ks) refl (and_parts (not (is_key_among k ks)) (are_distinct_keys ks) h).0) refl

    go : (b : Bool) → are_distinct_keys (filter p ks) ≡ true → is_key_among k (filter p ks) ≡ false
        → are_distinct_keys (if b then k ∷ filter p ks else filter p ks) ≡ true
    go true i n = rw n i
    go false i n = i

pub filter-passes : (p : Key → Bool) (ks : List Key) → list_all p (filter p ks) ≡ true
filter-passes p [] = refl
filter-passes p (k ∷ ks) = go (p k) refl (filter-passes p ks)
  where
    go : (b : Bool) → p k ≡ b → list_all p (filter p ks) ≡ true
        → list_all p (if b then k ∷ filter p ks else filter p ks) ≡ true
    go true e h = rw e h
    go false e h = h

-- ---- each key of a script is in one of the lists

any-distinct : (p : Key → Bool) (seen ks : List Key) → list_any p (distinct_keys seen ks) ≡ true → list_any p ks ≡ true
any-distinct p seen [] h = h
any-distinct p seen (k ∷ ks) h = go (is_key_among k seen) h (λ s e. any-distinct p s ks e)
  where
    go : (b : Bool) → list_any p (if b then distinct_keys seen ks else k ∷ distinct_keys (k ∷ seen) ks) ≡ true
        → ((s : List Key) → list_any p (distinct_keys s ks) ≡ true → list_any p ks ≡ true)
        → (p k || list_any p ks) ≡ true
    go true h more = or_right (p k) (list_any p ks) (more seen h)
    go false h more = elim (or_cases (p k) (list_any p (distinct_keys (k ∷ seen) ks)) h) [
      | inl here ↦ or_left (p k) (list_any p ks) here
      | inr later ↦ or_right (p k) (list_any p ks) (more (k ∷ seen) later)
    ]

pub any-among : (p : Key → Bool) (k : Key) (ks : List Key) → p k ≡ true → is_key_among k ks ≡ true
    → list_any p ks ≡ true
any-among p k [] h e = cc
any-among p k (x ∷ ks) h e = elim (or_cases (same_key k x) (is_key_among k ks) e) [
  | inl same ↦ or_left (p x) (list_any p ks) (subst (λ (y : Key). p y ≡ true) (same_key-is k x same) h)
  | inr later ↦ or_right (p x) (list_any p ks) (any-among p k ks h later)
]

-- a key that passes where none of these does is none of these
not-among : (p : Key → Bool) (k : Key) (ks : List Key) (b : Bool) → is_key_among k ks ≡ b → p k ≡ true
    → list_any p ks ≡ false → b ≡ false
not-among p k ks true e h none = (let some = any-among p k ks h e in cc)
not-among p k ks false e h none = refl

none-more : (p : Key → Bool) (k : Key) (ks : List Key) → p k ≡ false → list_any p ks ≡ false
    → list_any p (k ∷ ks) ≡ false
none-more p k ks h none = rw h none

abbrev Lists : (Key → Bool) → List Key → List Key → Type 0
Lists p reads writes = (list_any p reads || list_any p writes) ≡ true

named-listed : (p : Key → Bool) (seen before : List Key) (ops : List Op) → list_any p seen ≡ false
    → list_any p before ≡ false → list_any p (keys_named ops) ≡ true
    → Lists p (remote_keys seen ops) (written_keys before ops)
named-listed p seen before [] none nothing h = cc
named-listed p seen before (op.Read k ∷ ops) none nothing h = go (p k) refl h (λ s n e. named-listed p s before ops n nothing e)
  where
    here : (b : Bool) → b ≡ false → p k ≡ true
        → Lists p (if b then remote_keys seen ops else k ∷ remote_keys (k ∷ seen) ops) (written_keys before ops)
    here true new e = cc
    here false new e = rw e refl

    More : Type 0
    More = (s : List Key) → list_any p s ≡ false → list_any p (keys_named ops) ≡ true → Lists p (remote_keys s ops) (written_keys before ops)

    later : (b : Bool) → p k ≡ false → list_any p (keys_named ops) ≡ true → More
        → Lists p (if b then remote_keys seen ops else k ∷ remote_keys (k ∷ seen) ops) (written_keys before ops)
    later true e h more = more seen none h
    later false e h more = rw e (more (k ∷ seen) (none-more p k seen e none) h)

    go : (b : Bool) → p k ≡ b → (b || list_any p (keys_named ops)) ≡ true → More
        → Lists p (remote_keys seen (op.Read k ∷ ops)) (written_keys before (op.Read k ∷ ops))
    go true e h more = here (is_key_among k seen) (not-among p k seen (is_key_among k seen) refl e none) e
    go false e h more = later (is_key_among k seen) e h more
named-listed p seen before (op.Write k x ∷ ops) none nothing h = go (p k) refl h (λ s t n m e. named-listed p s t ops n m e)
  where
    here : (b : Bool) → b ≡ false → p k ≡ true → Lists p (remote_keys (k ∷ seen) ops)
        (if b then written_keys before ops else k ∷ written_keys (k ∷ before) ops)
    here true new e = cc
    here false new e = or_right (list_any p (remote_keys (k ∷ seen) ops)) (list_any p (k ∷ written_keys (k ∷ before) ops)) (rw e refl)

    More : Type 0
    More = (s t : List Key) → list_any p s ≡ false → list_any p t ≡ false → list_any p (keys_named ops) ≡ true → Lists p (remote_keys s ops) (written_keys t ops)

    later : (b : Bool) → p k ≡ false → list_any p (keys_named ops) ≡ true → More → Lists p (remote_keys (k ∷ seen) ops)
        (if b then written_keys before ops else k ∷ written_keys (k ∷ before) ops)
    later true e h more = more (k ∷ seen) before (none-more p k seen e none) nothing h
    later false e h more = rw e (more (k ∷ seen) (k ∷ before) (none-more p k seen e none) (none-more p k before e nothing) h)

    go : (b : Bool) → p k ≡ b → (b || list_any p (keys_named ops)) ≡ true → More
        → Lists p (remote_keys seen (op.Write k x ∷ ops)) (written_keys before (op.Write k x ∷ ops))
    go true e h more = here (is_key_among k before) (not-among p k before (is_key_among k before) refl e nothing) e
    go false e h more = later (is_key_among k before) e h more

filter-some : (p : Key → Bool) (ks : List Key) → list_any p ks ≡ true → 1 ≤ length (filter p ks)
filter-some p [] h = cc
filter-some p (k ∷ ks) h = go (p k) h (λ e. filter-some p ks e)
  where
    go : (b : Bool) → (b || list_any p ks) ≡ true → (list_any p ks ≡ true → 1 ≤ length (filter p ks))
        → 1 ≤ length (if b then k ∷ filter p ks else filter p ks)
    go true h more = omega arith
    go false h more = more h

-- where a key of the script passes, one that is read remotely or written does
pub lists-some : (p : Key → Bool) (ops : List Op) → list_any p (keys_of ops) ≡ true
    → 1 ≤ length (filter p (remote_keys [] ops)) + length (filter p (written_keys [] ops))
lists-some p ops h = elim (or_cases (list_any p (remote_keys [] ops)) (list_any p (written_keys [] ops)) (named-listed p [] [] ops refl refl (any-distinct p [] (keys_named ops) h))) [
  | inl reads ↦ (let le = filter-some p (remote_keys [] ops) reads in omega (arith, le))
  | inr writes ↦ (let le = filter-some p (written_keys [] ops) writes in omega (arith, le))
]
