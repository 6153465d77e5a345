-- The first held read that no pending proposal holds: its place, and the list without it.
use Rattle.std.proofs.Common.{◌≡◌, ℕ, zero, suc, ◌+◌, ◌<◌, ◌≤◌, Bool, true, false, List, [], ◌∷◌, ◌++◌, length, take, drop, get_or, Option, Some, None, refl, sym, ap, subst, ◌∙◌, cond, nat_lt, eq-eqb, arith}
use Rattle.std.proofs.lemmas.Bool.{and_parts, and_from}
use Rattle.std.proofs.lemmas.Bool.Decides.{nat_tests}
use Rattle.std.proofs.lemmas.List.Quantifiers.{position-Some}
use Rattle.std.proofs.lemmas.List.Folds.{find_at}
use Rattle.std.specs.Prelude.{◌==◌, ◌&&◌, option_map, if◌then◌else◌}
use Rattle.std.specs.List.{find, remove, position, position_or_len, slice_get, All}
use Rattle.score_base.specs.declared.ids.Ident.{Ident}
use Rattle.score_base.specs.declared.records.Record.{Record}
use Rattle.score_base.specs.Keys.{same_key}
use Rattle.script_lang.proofs.KeyLists.{same_key-self}
use Rattle.stable_queue.specs.Commits.{is_below}
use Rattle.journal_words.specs.Journals.{is_clear}
use Rattle.grid_model.specs.declared.stories.HeldRead.{HeldRead}
use Rattle.grid_model.specs.Nodes.{is_read, without_read}
use Rattle.grid_store.specs.Given.{Given}
use Rattle.snapshot_read.specs.Outs.{first_answer, without_answered}
use Rattle.snapshot_read.specs.Reads.{is_free, answer_to}

same-number : (n : ℕ) → (n == n) ≡ true
same-number n = eq-eqb n n refl

pub same-read : (h : HeldRead) → is_read h.t h.op h.key h.sid h ≡ true
same-read h =
    and_from (h.t == h.t) ((h.op == h.op) && (same_key h.key h.key && (h.sid == h.sid))) (same-number h.t)
    (and_from (h.op == h.op) (same_key h.key h.key && (h.sid == h.sid)) (same-number h.op)
    (and_from (same_key h.key h.key) (h.sid == h.sid) (same_key-self h.key) (same-number h.sid)))

read-sid : (h y : HeldRead) → is_read h.t h.op h.key h.sid y ≡ true → y.sid ≡ h.sid
read-sid h y e =
    let a = and_parts (y.t == h.t) ((y.op == h.op) && (same_key y.key h.key && (y.sid == h.sid))) e in
    let b = and_parts (y.op == h.op) (same_key y.key h.key && (y.sid == h.sid)) a.1 in
    let c = and_parts (same_key y.key h.key) (y.sid == h.sid) b.1 in
    let same : (y.sid == h.sid) ≡ true = c.1 in
    grind (arith, nat_tests, same)

-- a read that is held is no read that is free
pub other-read : (r : List Record) (h y : HeldRead) → is_free r h ≡ true → is_free r y ≡ false
    → is_read h.t h.op h.key h.sid y ≡ false
other-read r h y free held = go (is_read h.t h.op h.key h.sid y) refl
  where
    go : (b : Bool) → is_read h.t h.op h.key h.sid y ≡ b → b ≡ false
    go true e =
        let P : Ident → Type 0 = λ i. is_clear i r ≡ false in
        let f : is_clear h.sid r ≡ false = subst P (read-sid h y e) held in
        (let q : true ≡ false = sym free ∙ f in cc)
    go false e = refl

-- the read at a place is the first that is free, and the list without this place is without this read
pub record IsFirst (r : List Record) (hs : List HeldRead) (i : ℕ) (h : HeldRead) : Type 0 where
  pub found : find (is_free r) hs ≡ Some h
  pub rest : remove hs i ≡ without_read h.t h.op h.key h.sid hs

first-at : (r : List Record) (hs : List HeldRead) (i : ℕ) (d : HeldRead) → i < length hs
    → is_free r (get_or hs i d) ≡ true → ((k : ℕ) → k < i → is_free r (get_or hs k d) ≡ false)
    → IsFirst r hs i (get_or hs i d)
first-at r [] i d lt free held = absurd (omega (arith, lt))
first-at r (h ∷ hs) zero d lt free held =
    let here : is_free r h ≡ true = free in
    record {
      found = let P : Bool → Type 0 = λ b. cond b (Some h) (find (is_free r) hs) ≡ Some h in subst P (sym here) refl;
      rest = let P : Bool → Type 0 = λ b. hs ≡ (if b then hs else h ∷ without_read h.t h.op h.key h.sid hs) in
          subst P (sym (same-read h)) refl;
    }
first-at r (h ∷ hs) (suc i) d lt free held =
    let y = get_or hs i d in
    let more = first-at r hs i d (omega arith) free (λ k l. held (suc k) (omega arith)) in
    let here : is_free r h ≡ false = held zero (omega arith) in
    let other : is_read y.t y.op y.key y.sid h ≡ false = other-read r y h free here in
    record {
      found = let P : Bool → Type 0 = λ b. cond b (Some h) (find (is_free r) hs) ≡ Some y in
          subst P (sym here) more.found;
      rest = let P : Bool → Type 0 = λ b.
          h ∷ remove hs i ≡ (if b then hs else h ∷ without_read y.t y.op y.key y.sid hs) in
          subst P (sym other) (ap (λ z. h ∷ z) more.rest);
    }

-- where the place was found by the least proposal
pub first-below : (r : List Record) (least : Option Ident) (hs : List HeldRead) (i : ℕ) (h : HeldRead)
    → ((f : Ident) → is_below least f ≡ is_clear f r)
    → position (λ x. is_below least x.sid) hs ≡ Some i → h ≡ get_or hs i h → IsFirst r hs i h
first-below r least hs i h same at is =
    let p = position-Some (λ (x : HeldRead). is_below least x.sid) hs i h at in
    let first = first-at r hs i h p.0 (sym (same (get_or hs i h).sid) ∙ p.1)
    (λ k l. sym (same (get_or hs k h).sid) ∙ p.2 k l) in
    let P : HeldRead → Type 0 = λ x. IsFirst r hs i x in
    subst P (sym is) first

pub place-inside : (least : Option Ident) (hs : List HeldRead) (i : ℕ)
    → position (λ x. is_below least x.sid) hs ≡ Some i → (h : HeldRead) → i < length hs
place-inside least hs i at h = (position-Some (λ (x : HeldRead). is_below least x.sid) hs i h at).0

-- no place was found
pub none-below : (r : List Record) (least : Option Ident) (hs : List HeldRead)
    → ((f : Ident) → is_below least f ≡ is_clear f r)
    → position (λ x. is_below least x.sid) hs ≡ None → find (is_free r) hs ≡ None
none-below r least hs same at = none-past hs (past at)
  where
    past : position (λ x. is_below least x.sid) hs ≡ None → length hs ≤ position_or_len (λ x. is_below least x.sid) hs
    past e = grind (arith, nat_tests, e)

    none-past : (xs : List HeldRead) → length xs ≤ position_or_len (λ x. is_below least x.sid) xs
        → find (is_free r) xs ≡ None
    none-past [] le = refl
    none-past (x ∷ xs) le = go (is_below least x.sid) refl (none-past xs)
      where
        go : (b : Bool) → is_below least x.sid ≡ b
            → (length xs ≤ position_or_len (λ x. is_below least x.sid) xs → find (is_free r) xs ≡ None)
            → find (is_free r) (x ∷ xs) ≡ None
        go true e more = absurd (grind (arith, e, le))
        go false e more =
            let held : is_free r x ≡ false = sym (same x.sid) ∙ e in
            let P : Bool → Type 0 = λ b. cond b (Some x) (find (is_free r) xs) ≡ None in
            subst P (sym held) (more (grind (arith, e, le)))

-- none is found exactly where each is held
none-first : (r : List Record) (h : HeldRead) (hs : List HeldRead) → find (is_free r) (h ∷ hs) ≡ None
    → (is_free r h ≡ false) × (find (is_free r) hs ≡ None)
none-first r h hs e = go (is_free r h) refl e
  where
    go : (b : Bool) → is_free r h ≡ b → cond b (Some h) (find (is_free r) hs) ≡ None
        → (is_free r h ≡ false) × (find (is_free r) hs ≡ None)
    go true is e = absurd (cc)
    go false is e = (is, e)

pub none-held : (r : List Record) (hs : List HeldRead) → find (is_free r) hs ≡ None
    → All (λ h. is_clear h.sid r ≡ false) hs
none-held r [] e k d lt = absurd (omega (arith, lt))
none-held r (h ∷ hs) e zero d lt = (none-first r h hs e).0
none-held r (h ∷ hs) e (suc k) d lt = none-held r hs (none-first r h hs e).1 k d (omega (arith, lt))

pub held-none : (r : List Record) (hs : List HeldRead) → All (λ h. is_clear h.sid r ≡ false) hs
    → find (is_free r) hs ≡ None
held-none r [] held = refl
held-none r (h ∷ hs) held =
    let here : is_free r h ≡ false = held zero h (omega arith) in
    let more = held-none r hs (λ k d lt. held (suc k) d (omega (arith, lt))) in
    let P : Bool → Type 0 = λ b. cond b (Some h) (find (is_free r) hs) ≡ None in
    subst P (sym here) more

-- what is found is free
pub found-free : (r : List Record) (hs : List HeldRead) (h : HeldRead) → find (is_free r) hs ≡ Some h
    → is_free r h ≡ true
found-free r [] h e = absurd (cc)
found-free r (x ∷ hs) h e = go (is_free r x) refl e (found-free r hs h)
  where
    go : (b : Bool) → is_free r x ≡ b → cond b (Some x) (find (is_free r) hs) ≡ Some h
        → (find (is_free r) hs ≡ Some h → is_free r h ≡ true) → is_free r h ≡ true
    go true is e more =
        let same : x ≡ h = cc in
        let P : HeldRead → Type 0 = λ z. is_free r z ≡ true in
        subst P same is
    go false is e more = more e

-- what the place of the first read says of the answer
pub answer-none : (s : Given) (hs : List HeldRead) → find (is_free s.journal) hs ≡ None → None ≡ first_answer s hs
answer-none s hs e = ap (λ o. option_map (λ h. answer_to s h false) o) (sym e)

pub answer-some : (s : Given) (hs : List HeldRead) (h : HeldRead) → find (is_free s.journal) hs ≡ Some h
    → Some (answer_to s h false) ≡ first_answer s hs
answer-some s hs h e = ap (λ o. option_map (λ h. answer_to s h false) o) (sym e)

-- the same for a list that was lent
pub none-place : (s : Given) (least : Option Ident) (lent reads : List HeldRead) (o : Option ℕ)
    → ((f : Ident) → is_below least f ≡ is_clear f s.journal)
    → o ≡ position (λ x. is_below least x.sid) lent → lent ≡ reads → o ≡ None
    → find (is_free s.journal) reads ≡ None
none-place s least lent reads o clear at same none =
    let P : List HeldRead → Type 0 = λ xs. find (is_free s.journal) xs ≡ None in
    subst P same (none-below s.journal least lent clear (sym at ∙ none))

pub some-place : (s : Given) (least : Option Ident) (lent reads : List HeldRead) (o : Option ℕ) (i : ℕ) (h : HeldRead)
    → ((f : Ident) → is_below least f ≡ is_clear f s.journal)
    → o ≡ position (λ x. is_below least x.sid) lent → lent ≡ reads → o ≡ Some i → h ≡ get_or reads i h
    → IsFirst s.journal reads i h
some-place s least lent reads o i h clear at same some is =
    let P : List HeldRead → Type 0 = λ xs. position (λ x. is_below least x.sid) xs ≡ Some i in
    first-below s.journal least reads i h clear (subst P same (sym at ∙ some)) is
