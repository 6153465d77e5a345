-- Where a message that an event leaves got was got: before the event, or by it.
use Rattle.cause_laws.proofs.OpenStages.{is_ungot}
use Rattle.grid_model.specs.Excuses.{GotAt, has_got, passes}
use Rattle.grid_model.specs.Histories.{after, sent, sent_at}
use Rattle.grid_model.specs.declared.acts.Act.TheVariants as act
use Rattle.grid_model.specs.declared.acts.Act.{Act}
use Rattle.grid_model.specs.declared.messages.Envelope.{Envelope}
use Rattle.grid_model.specs.declared.messages.Message.{Message}
use Rattle.score_base.specs.declared.ids.NodeId.{NodeId}
use Rattle.std.proofs.Common.{Bool, List, None, Option, Some, [], arith, false, inl, inr, refl, subst, sym, true, ℕ, ◌++◌, ◌∷◌, ◌≡◌, ◌⊎◌}
use Rattle.std.proofs.lemmas.Bool.Decides.{nat_tests}
use Rattle.std.proofs.lemmas.Bool.{and_parts, or_left, or_right}
use Rattle.std.specs.List.{list_all}
use Rattle.std.specs.Prelude.{◌&&◌, ◌==◌}

same-got : (a : Act) (m : ℕ) → is_ungot a ≡ true → a ≡ act.Got m → ⊥
same-got a m h e = let P : Act → Type 0 = λ z. is_ungot z ≡ true in not-both (subst P e h)
  where
    not-both : false ≡ true → ⊥
    not-both k = cc

same-first : (a c : Act) (xs ys : List Act) → a ∷ xs ≡ c ∷ ys → (a ≡ c) × (xs ≡ ys)
same-first a c xs ys e = (cc, cc)

-- acts that get nothing come behind
split-got : (past acts later before : List Act) (m : ℕ) → list_all is_ungot acts ≡ true
    → after past acts ≡ later ++ act.Got m ∷ before
    → (more : List Act) × (later ≡ after more acts) × (past ≡ more ++ act.Got m ∷ before)
split-got past [] later before m h e = (later, refl, e)
split-got past (a ∷ acts) later before m h e =
    let both = and_parts (is_ungot a) (list_all is_ungot acts) h in
    let w = split-got (a ∷ past) acts later before m both.1 e in
    go w.0 both.0 w.1 w.2
  where
    go : (more : List Act) → is_ungot a ≡ true → later ≡ after more acts → a ∷ past ≡ more ++ act.Got m ∷ before
        → (more : List Act) × (later ≡ after more (a ∷ acts)) × (past ≡ more ++ act.Got m ∷ before)
    go [] u l e = absurd (same-got a m u (same-first a (act.Got m) past before e).0)
    go (c ∷ more) u l e =
        let w = same-first a c past (more ++ act.Got m ∷ before) e in
        let P : Act → Type 0 = λ z. later ≡ after (z ∷ more) acts in
        (more, subst P (sym w.0) l, w.1)

-- a message that passes was got before these acts
abbrev pub GotBefore : (NodeId → NodeId → Message → Bool) → List Act → List Act → NodeId → List Act → Type 0
GotBefore p past acts n later = (more : List Act) × GotAt p past n more × (later ≡ after more acts)

passes-some : (p : NodeId → NodeId → Message → Bool) (n : NodeId) (o : Option Envelope) (e : Envelope) → o ≡ Some e
    → passes (λ x y said. y == n && p x y said) o ≡ true → (e.to ≡ n) × (p e.from e.to e.message ≡ true)
passes-some p n None e i h = cc
passes-some p n (Some z) e i h =
    let same : z ≡ e = cc in
    let P : Envelope → Type 0 = λ w. (w.to ≡ n) × (p w.from w.to w.message ≡ true) in
    let both = and_parts (z.to == n) (p z.from z.to z.message) h in
    let at : (z.to == n) ≡ true = both.0 in
    subst P same (grind (arith, nat_tests, at), both.1)

-- where an event gets nothing
pub got-none-by : (p : NodeId → NodeId → Message → Bool) (past acts : List Act) (n : NodeId) (later : List Act)
    → list_all is_ungot acts ≡ true → GotAt p (after past acts) n later → GotBefore p past acts n later
got-none-by p past acts n later h g = let w = split-got past acts later g.before g.m h g.there in (w.0, record { m = g.m; before = g.before; there = w.2; said = g.said }, w.1)

-- where an event gets one message
pub got-one-by : (p : NodeId → NodeId → Message → Bool) (past acts rest : List Act) (m : ℕ) (e : Envelope) (n : NodeId)
    (later : List Act) → sent_at m (sent past) ≡ Some e → acts ≡ act.Got m ∷ rest → list_all is_ungot rest ≡ true
    → GotAt p (after past acts) n later
    → GotBefore p past acts n later ⊎ ((later ≡ after [] rest) × (e.to ≡ n) × (p e.from e.to e.message ≡ true))
got-one-by p past acts rest m e n later is k h g =
    let P : List Act → Type 0 = λ z. after past z ≡ later ++ act.Got g.m ∷ g.before in
    let w = split-got (act.Got m ∷ past) rest later g.before g.m h (subst P k g.there) in
    go w.0 w.1 w.2
  where
    same-number' : (a b : ℕ) → act.Got a ≡ act.Got b → a ≡ b
    same-number' a b e = cc

    go : (more : List Act) → later ≡ after more rest → act.Got m ∷ past ≡ more ++ act.Got g.m ∷ g.before
        → GotBefore p past acts n later ⊎ ((later ≡ after [] rest) × (e.to ≡ n) × (p e.from e.to e.message ≡ true))
    go [] l e' =
        let w = same-first (act.Got m) (act.Got g.m) past g.before e' in
        let number : g.m ≡ m = sym (same-number' m g.m w.0) in
        let S : ℕ → Type 0 = λ i. sent_at i (sent g.before) ≡ Some e in
        let T : List Act → Type 0 = λ b. sent_at m (sent b) ≡ Some e in
        let there : sent_at g.m (sent g.before) ≡ Some e = subst S (sym number) (subst T w.1 is) in
        let both = passes-some p n (sent_at g.m (sent g.before)) e there g.said in
        inr (l, both.0, both.1)
    go (c ∷ more) l e' =
        let w = same-first (act.Got m) c past (more ++ act.Got g.m ∷ g.before) e' in
        let Q : Act → Type 0 = λ z. later ≡ after (z ∷ more) rest in
        let R : List Act → Type 0 = λ z. later ≡ after more z in
        inl (more, record { m = g.m; before = g.before; there = w.1; said = g.said }, subst R (sym k) (subst Q (sym w.0) l))

-- nothing was got where no test finds it
pub got-in : (p : NodeId → NodeId → Message → Bool) (past : List Act) (n : NodeId) (later : List Act)
    → GotAt p past n later → has_got p past ≡ true
got-in p past n later g =
    let P : List Act → Type 0 = λ z. has_got p z ≡ true in
    subst P (sym g.there) (from later)
  where
    passing : (o : Option Envelope) → passes (λ x y said. y == n && p x y said) o ≡ true → passes p o ≡ true
    passing None h = h
    passing (Some e) h = (and_parts (e.to == n) (p e.from e.to e.message) h).1

    behind : (a : Act) (xs : List Act) → has_got p xs ≡ true → has_got p (a ∷ xs) ≡ true
    behind (act.Got m) xs h = or_right (passes p (sent_at m (sent xs))) (has_got p xs) h
    behind a xs h = h

    from : (l : List Act) → has_got p (l ++ act.Got g.m ∷ g.before) ≡ true
    from [] = or_left (passes p (sent_at g.m (sent g.before))) (has_got p g.before) (passing (sent_at g.m (sent g.before)) g.said)
    from (a ∷ l) = behind a (l ++ act.Got g.m ∷ g.before) (from l)
