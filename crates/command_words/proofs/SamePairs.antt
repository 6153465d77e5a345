-- The steps over the words answer what the definition of the words answers.
use Rattle.std.proofs.Common.{◌≡◌, ◌∙◌, ◌+◌, ℕ, Bool, cond, codes, true, false, suc, refl, sym, subst, ap, ap₂, arith, List, [], ◌∷◌, ◌++◌, take, drop, Option, Some, None, ◌⊎◌, ⊎_elim, inl, inr, true≢false, is_some}
use Rattle.std.specs.List.{fold}
use Rattle.std.specs.Option.{option_and_then, option_map, option_map_or}
use Rattle.std.specs.Str.{bytes_eq}
use Rattle.std.proofs.lemmas.Bool.Decides.{eqb_tells}
use Rattle.std.proofs.lemmas.Slice.Eq.{bytes_eq-Decides}
use Rattle.clap.specs.Lexer.{has_byte, long_of, name_and_value}
use Rattle.command_words.specs.declared.commands.Command.{Command}
use Rattle.score_base.specs.Numbers.{number}
use Rattle.command_words.specs.Commands.{Pairs, Text, joined, drill_by, drill_of, in_range, pairs_of, size_of, with_pair}
use Rattle.command_words.proofs.OptionSteps.{Setting, SoFar, seed, size, none, one, seed_size, size_seed, add, by_word, is_flag, setting_named, put, put_setting, reads}

abbrev pub meant : Option SoFar → Option Command
meant (Some (seed_size s z)) = drill_by (number s) (size_of z)
meant (Some (size_seed z s)) = drill_by (number s) (size_of z)
meant _ = None

abbrev setting_spelled : Text → Option Setting
setting_spelled n = cond (bytes_eq (codes "--seed") n) (Some seed) (cond (bytes_eq (codes "--size") n) (Some size) None)

abbrev put_pair : Option SoFar → Text × Text → Option SoFar
put_pair None p = None
put_pair (Some st) p = put_setting st p.1 (setting_spelled p.0)

abbrev taken : Option SoFar → Option Pairs → Option SoFar
taken o None = None
taken o (Some ps) = fold put_pair o ps

fold_none : (ps : Pairs) → fold put_pair None ps ≡ None
fold_none [] = refl
fold_none (p ∷ ps) = fold_none ps

taken_none : (x : Option Pairs) → taken None x ≡ None
taken_none None = refl
taken_none (Some ps) = fold_none ps

taken_pair : (o : Option SoFar) (p : Text × Text) (x : Option Pairs) → taken o (with_pair p x) ≡ taken (put_pair o p) x
taken_pair o p None = refl
taken_pair o p (Some ps) = refl

-- ---- a word with its `=`

front_more : (n c : ℕ) (cs : Text) → take (1 + n) (c ∷ cs) ≡ c ∷ take n cs
front_more n c cs = let e : 1 + n ≡ suc n = omega arith in ap (λ k. take k (c ∷ cs)) e

back_more : (n c : ℕ) (cs : Text) → drop (1 + n + 1) (c ∷ cs) ≡ drop (n + 1) cs
back_more n c cs = let e : 1 + n + 1 ≡ suc (n + 1) = omega arith in ap (λ k. drop k (c ∷ cs)) e

abbrev as_joined : Text → Option (Text × Text) → Text × Option Text
as_joined t None = (t, None)
as_joined t (Some p) = (p.0, Some p.1)

joined_more : (c : ℕ) (cs : Text) (o : Option (Text × Text))
    → as_joined (c ∷ cs) (option_map (λ p. (c ∷ p.0, p.1)) o) ≡ (c ∷ (as_joined cs o).0, (as_joined cs o).1)
joined_more c cs None = refl
joined_more c cs (Some p) = refl

joined_is : (t : Text) → name_and_value t ≡ as_joined t (joined t)
joined_is [] = refl
joined_is (c ∷ cs) = elim (eqb_tells c 61) [
  | inl h ↦ rw h.0 refl
  | inr h ↦ rw h.0 (ap₂ (λ a b. (a, cond (has_byte 61 cs) (Some b) None)) (front_more _ c cs) (back_more _ c cs)
      ∙ ap (λ q. (c ∷ q.0, q.1)) (joined_is cs) ∙ sym (joined_more c cs (joined cs)))
]

joined_again : (w : Text) (q : Text × Text) → joined w ≡ Some q → w ≡ q.0 ++ 61 ∷ q.1
joined_again [] q e = cc
joined_again (c ∷ cs) q e = elim (eqb_tells c 61) [
  | inl h ↦ let met : Some ([], cs) ≡ Some q = rw h.0 at e in let is : ([], cs) ≡ q = cc in subst (λ p. c ∷ cs ≡ p.0 ++ 61 ∷ p.1) is (ap (λ x. x ∷ cs) h.1)
  | inr h ↦ go (joined cs) refl (λ p i. joined_again cs p i) (rw h.0 at e)
]
  where
    go : (o : Option (Text × Text)) → joined cs ≡ o → ((p : Text × Text) → joined cs ≡ Some p → cs ≡ p.0 ++ 61 ∷ p.1)
        → option_map (λ p. (c ∷ p.0, p.1)) o ≡ Some q → c ∷ cs ≡ q.0 ++ 61 ∷ q.1
    go None i ih e = cc
    go (Some p) i ih e = let is : (c ∷ p.0, p.1) ≡ q = cc in subst (λ r. c ∷ cs ≡ r.0 ++ 61 ∷ r.1) is (ap (λ x. c ∷ x) (ih p i))

-- ---- names

abbrev Which : Text → Type 0
Which n =
    (n ≡ codes "--seed") ⊎ ((n ≡ codes "--size") ⊎ ((bytes_eq (codes "--seed") n ≡ false) × (bytes_eq (codes "--size") n ≡ false)))

which : (n : Text) → Which n
which n = go (bytes_eq (codes "--seed") n) (bytes_eq (codes "--size") n) refl refl
  where
    go : (a b : Bool) → bytes_eq (codes "--seed") n ≡ a → bytes_eq (codes "--size") n ≡ b → Which n
    go true b ea eb = inl (sym ((bytes_eq-Decides (codes "--seed") n).0 ea))
    go false true ea eb = inr (inl (sym ((bytes_eq-Decides (codes "--size") n).0 eb)))
    go false false ea eb = inr (inr (ea, eb))

setting_none : (n : Text) → bytes_eq (codes "--seed") n ≡ false → bytes_eq (codes "--size") n ≡ false
    → setting_spelled n ≡ None
setting_none n a b = ap₂ (λ x y. cond x (Some seed) (cond y (Some size) None)) a b

-- a word that `clap` does not take for a long one has neither name
not_long : (w : Text) → long_of w ≡ None → setting_spelled w ≡ None
not_long w e = ⊎_elim (λ h. absurd (some_none _ (rw h at e))) (λ r. ⊎_elim (λ h. absurd (some_none _ (rw h at e))) (λ h. setting_none w h.0 h.1) r) (which w)
  where
    some_none : {X : Type 0} (x : X) → Some x ≡ None → ⊥
    some_none x e = cc

not_long_joined : (w : Text) (q : Text × Text) → long_of w ≡ None → joined w ≡ Some q → setting_spelled q.0 ≡ None
not_long_joined w q e c = ⊎_elim (λ h. absurd (long_with (codes "--seed") refl h)) (λ r. ⊎_elim (λ h. absurd (long_with (codes "--size") refl h)) (λ h. setting_none q.0 h.0 h.1) r) (which q.0)
  where
    some_none : {X : Type 0} (x : X) → Some x ≡ None → ⊥
    some_none x e = cc

    long_with : (name : Text) → is_some (long_of (name ++ 61 ∷ q.1)) ≡ true → q.0 ≡ name → ⊥
    long_with name long h = true≢false (sym long ∙ ap (λ o. is_some o) (ap (λ x. long_of (x ++ 61 ∷ q.1)) (sym h) ∙ ap long_of (sym (joined_again w q c)) ∙ e))

-- ---- what `clap` refuses as a value is no number

flag_no_number : (v : Text) → is_flag v ≡ true → number v ≡ None
flag_no_number [] e = refl
flag_no_number (c ∷ cs) e = elim (eqb_tells c 45) [
  | inl h ↦ ap (λ x. number (x ∷ cs)) h.1
  | inr h ↦ absurd (true≢false (sym e ∙ rw h.0 refl))
]

abbrev Bad : SoFar → Type 0
Bad none = ⊥
Bad (one k v) = number v ≡ None
Bad (seed_size s z) = drill_by (number s) (size_of z) ≡ None
Bad (size_seed z s) = drill_by (number s) (size_of z) ≡ None

abbrev IsBad : Option SoFar → Type 0
IsBad None = Unit {0}
IsBad (Some st) = Bad st

by_none : (o : Option ℕ) → drill_by o None ≡ None
by_none None = refl
by_none (Some n) = refl

no_seed : (s z : Text) → number s ≡ None → drill_by (number s) (size_of z) ≡ None
no_seed s z e = ap (λ o. drill_by o (size_of z)) e

no_size : (s z : Text) → number z ≡ None → drill_by (number s) (size_of z) ≡ None
no_size s z e = ap (λ o. drill_by (number s) (option_and_then in_range o)) e ∙ by_none (number s)

bad_add : (st : SoFar) (k : Setting) (v : Text) → Bad st → IsBad (add st k v)
bad_add none k v b = absurd b
bad_add (one seed s) seed v b = tt
bad_add (one seed s) size v b = no_seed s v b
bad_add (one size z) seed v b = no_size v z b
bad_add (one size z) size v b = tt
bad_add (seed_size s z) k v b = tt
bad_add (size_seed z s) k v b = tt

bad_new : (st : SoFar) (k : Setting) (v : Text) → number v ≡ None → IsBad (add st k v)
bad_new none k v b = b
bad_new (one seed s) seed v b = tt
bad_new (one seed s) size v b = no_size s v b
bad_new (one size z) seed v b = no_seed v z b
bad_new (one size z) size v b = tt
bad_new (seed_size s z) k v b = tt
bad_new (size_seed z s) k v b = tt

bad_put : (o : Option SoFar) (p : Text × Text) → IsBad o → IsBad (put_pair o p)
bad_put None p b = tt
bad_put (Some st) p b = go (setting_spelled p.0)
  where
    go : (ko : Option Setting) → IsBad (put_setting st p.1 ko)
    go None = tt
    go (Some k) = bad_add st k p.1 b

new_put : (o : Option SoFar) (n v : Text) → number v ≡ None → IsBad (put o n v)
new_put None n v b = tt
new_put (Some st) n v b = go (setting_named n)
  where
    go : (ko : Option Setting) → IsBad (put_setting st v ko)
    go None = tt
    go (Some k) = bad_new st k v b

bad_end : (o : Option SoFar) → IsBad o → meant o ≡ None
bad_end None b = refl
bad_end (Some none) b = refl
bad_end (Some (one k v)) b = refl
bad_end (Some (seed_size s z)) b = b
bad_end (Some (size_seed z s)) b = b

bad_fold : (ps : Pairs) (o : Option SoFar) → IsBad o → meant (fold put_pair o ps) ≡ None
bad_fold [] o b = bad_end o b
bad_fold (p ∷ ps) o b = bad_fold ps (put_pair o p) (bad_put o p b)

bad_taken : (x : Option Pairs) (o : Option SoFar) → IsBad o → meant (taken o x) ≡ None
bad_taken None o b = refl
bad_taken (Some ps) o b = bad_fold ps o b

-- ---- the same command

put_same : (o : Option SoFar) (n v : Text) → put_pair o (45 ∷ 45 ∷ n, v) ≡ put o n v
put_same None n v = refl
put_same (Some st) n v = refl

abbrev Look : Text → Type 0
Look w = (long_of w ≡ None) ⊎ ((t : Text) × (w ≡ 45 ∷ 45 ∷ t) × (long_of w ≡ Some (name_and_value t)))

look : (w : Text) → Look w
look [] = inl refl
look (x ∷ []) = elim (eqb_tells x 45) [
  | inl h ↦ inl (rw h.0 refl)
  | inr h ↦ inl (rw h.0 refl)
]
look (x ∷ y ∷ t) = elim (eqb_tells x 45) [
  | inl h ↦ elim (eqb_tells y 45) [
    | inl g ↦ subst (λ a. Look (a ∷ y ∷ t)) (sym h.1) (subst (λ b. Look (45 ∷ b ∷ t)) (sym g.1) (dashed t))
    | inr g ↦ inl (rw (h.0, g.0) refl)
  ]
  | inr h ↦ inl (rw h.0 refl)
]
  where
    dashed : (t : Text) → Look (45 ∷ 45 ∷ t)
    dashed [] = inl refl
    dashed (z ∷ zs) = inr (z ∷ zs, refl, refl)

lost : (o : Option SoFar) (p : Text × Text) (x : Option Pairs) → setting_spelled p.0 ≡ None
    → taken o (with_pair p x) ≡ None
lost o p x e = taken_pair o p x ∙ ap (λ r. taken r x) (gone o) ∙ taken_none x
  where
    gone : (o : Option SoFar) → put_pair o p ≡ None
    gone None = refl
    gone (Some st) = ap (put_setting st p.1) e

-- one word and the value behind it, where `x` are the pairs behind the word and `y` those behind the value
abbrev pairs_by : Option (Text × Text) → Text → Text → Option Pairs → Option Pairs → Option Pairs
pairs_by c w v x y = option_map_or (λ p. with_pair p x) c (with_pair (w, v) y)

abbrev Same : Option SoFar → Option SoFar → Type 0
Same a b = meant a ≡ meant b

flag_or : (b : Bool) (o : Option SoFar) (n v : Text) (y : Option Pairs) (r : Option SoFar) → is_flag v ≡ b
    → meant r ≡ meant (taken (put o n v) y) → meant (cond b None r) ≡ meant (taken (put o n v) y)
flag_or true o n v y r e h = sym (bad_taken y (put o n v) (new_put o n v (flag_no_number v e)))
flag_or false o n v y r e h = h

abbrev twice : Option (Text × Text) → Option (Text × Text)
twice c = option_map (λ (p : Text × Text). (45 ∷ p.0, p.1)) (option_map (λ (p : Text × Text). (45 ∷ p.0, p.1)) c)

last : (o : Option SoFar) (w : Text) → meant (reads o None (w ∷ [])) ≡ meant (taken o (pairs_of (w ∷ [])))
last o w = ⊎_elim plain long (look w)
  where
    plain : long_of w ≡ None → meant (reads o None (w ∷ [])) ≡ meant (taken o (pairs_of (w ∷ [])))
    plain e = ap (λ lo. meant (by_word o lo (λ u. u) (λ n. None))) e ∙ sym (none_by (joined w) refl)
      where
        none_by : (c : Option (Text × Text)) → joined w ≡ c → meant (taken o (option_map (λ p. p ∷ []) c)) ≡ None
        none_by None i = refl
        none_by (Some p) i = ap meant (lost o p (Some []) (not_long_joined w p e i))

    long : ((t : Text) × (w ≡ 45 ∷ 45 ∷ t) × (long_of w ≡ Some (name_and_value t)))
        → meant (reads o None (w ∷ [])) ≡ meant (taken o (pairs_of (w ∷ [])))
    long h = ap (λ lo. meant (by_word o lo (λ u. u) (λ n. None))) (h.2 ∙ ap Some (joined_is h.0))
        ∙ is_long h.0 (joined h.0) ∙ ap (λ x. meant (taken o (pairs_of (x ∷ [])))) (sym h.1)
      where
        is_long : (t : Text) (c : Option (Text × Text))
            → meant (by_word o (Some (as_joined t c)) (λ u. u) (λ n. None))
            ≡ meant (taken o (option_map (λ p. p ∷ []) (twice c)))
        is_long t None = refl
        is_long t (Some p) = ap meant (sym (put_same o p.0 p.1))

two : (o : Option SoFar) (w v : Text) (rest : List Text)
    → ((u : Option SoFar) → meant (reads u None (v ∷ rest)) ≡ meant (taken u (pairs_of (v ∷ rest))))
    → ((u : Option SoFar) → meant (reads u None rest) ≡ meant (taken u (pairs_of rest)))
    → meant (reads o None (w ∷ v ∷ rest)) ≡ meant (taken o (pairs_of (w ∷ v ∷ rest)))
two o w v rest ih ih2 = ⊎_elim plain long (look w)
  where
    plain : long_of w ≡ None → meant (reads o None (w ∷ v ∷ rest)) ≡ meant (taken o (pairs_of (w ∷ v ∷ rest)))
    plain e = ap (λ lo. meant (by_word o lo (λ u. reads u None (v ∷ rest)) (λ n. cond (is_flag v) None (reads (put o n v) None rest)))) e ∙ sym (none_by (joined w) refl)
      where
        none_by : (c : Option (Text × Text)) → joined w ≡ c
            → meant (taken o (pairs_by c w v (pairs_of (v ∷ rest)) (pairs_of rest))) ≡ None
        none_by None i = ap meant (lost o (w, v) (pairs_of rest) (not_long w e))
        none_by (Some p) i = ap meant (lost o p (pairs_of (v ∷ rest)) (not_long_joined w p e i))

    long : ((t : Text) × (w ≡ 45 ∷ 45 ∷ t) × (long_of w ≡ Some (name_and_value t)))
        → meant (reads o None (w ∷ v ∷ rest)) ≡ meant (taken o (pairs_of (w ∷ v ∷ rest)))
    long h = ap (λ lo. meant (by_word o lo (λ u. reads u None (v ∷ rest)) (λ n. cond (is_flag v) None (reads (put o n v) None rest)))) (h.2 ∙ ap Some (joined_is h.0))
        ∙ is_long h.0 (joined h.0) ∙ ap (λ x. meant (taken o (pairs_by (joined x) x v (pairs_of (v ∷ rest)) (pairs_of rest)))) (sym h.1)
      where
        is_long : (t : Text) (c : Option (Text × Text))
            → meant (by_word o (Some (as_joined t c)) (λ u. reads u None (v ∷ rest)) (λ n. cond (is_flag v) None (reads (put o n v) None rest)))
            ≡ meant (taken o (pairs_by (twice c) (45 ∷ 45 ∷ t) v (pairs_of (v ∷ rest)) (pairs_of rest)))
        is_long t None = flag_or (is_flag v) o t v (pairs_of rest) (reads (put o t v) None rest) refl (ih2 (put o t v))
            ∙ ap meant (ap (λ u. taken u (pairs_of rest)) (sym (put_same o t v)) ∙ sym (taken_pair o (45 ∷ 45 ∷ t, v) (pairs_of rest)))
        is_long t (Some p) = ih (put o p.0 p.1)
            ∙ ap meant (ap (λ u. taken u (pairs_of (v ∷ rest))) (sym (put_same o p.0 p.1)) ∙ sym (taken_pair o (45 ∷ 45 ∷ p.0, p.1) (pairs_of (v ∷ rest))))

same : (ws : List Text) (o : Option SoFar) → meant (reads o None ws) ≡ meant (taken o (pairs_of ws))
same [] o = refl
same (w ∷ []) o = last o w
same (w ∷ v ∷ rest) o = two o w v rest (λ u. same (v ∷ rest) u) (λ u. same rest u)

-- ---- the two options

put_by : Option SoFar → Text → Option Setting → Option SoFar
put_by None v ko = None
put_by (Some st) v ko = put_setting st v ko

three : (ka kb kc : Option Setting) (x y z : Text) → put_by (put_by (put_by (Some none) x ka) y kb) z kc ≡ None
unfolding put_by
three None kb kc x y z = refl
three (Some k) None kc x y z = refl
three (Some seed) (Some seed) kc x y z = refl
three (Some size) (Some size) kc x y z = refl
three (Some seed) (Some size) None x y z = refl
three (Some seed) (Some size) (Some k) x y z = refl
three (Some size) (Some seed) None x y z = refl
three (Some size) (Some seed) (Some k) x y z = refl

put_is : (o : Option SoFar) (p : Text × Text) → put_pair o p ≡ put_by o p.1 (setting_spelled p.0)
unfolding put_by
put_is None p = refl
put_is (Some st) p = refl

three_pairs : (a b c : Text × Text) → put_pair (put_pair (put_pair (Some none) a) b) c ≡ None
three_pairs a b c = put_is _ c ∙ ap (λ o. put_by o c.1 (setting_spelled c.0)) (put_is _ b ∙ ap (λ o. put_by o b.1 (setting_spelled b.0)) (put_is (Some none) a))
    ∙ three (setting_spelled a.0) (setting_spelled b.0) (setting_spelled c.0) a.1 b.1 c.1

one_pair : (v : Text) (ko : Option Setting) → meant (put_setting none v ko) ≡ None
one_pair v None = refl
one_pair v (Some k) = refl

abbrev Two : Text → Text → Text → Text → Type 0
Two n x m y = meant (put_pair (put_pair (Some none) (n, x)) (m, y)) ≡ drill_of ((n, x) ∷ (m, y) ∷ [])

two_after : (n x m y : Text) → Which n → Which m → Two n x m y
two_after n x m y (inl h) (inl g) = subst (λ a. Two a x m y) (sym h) (subst (λ b. Two (codes "--seed") x b y) (sym g) refl)
two_after n x m y (inl h) (inr (inl g)) = subst (λ a. Two a x m y) (sym h) (subst (λ b. Two (codes "--seed") x b y) (sym g) refl)
two_after n x m y (inr (inl h)) (inl g) = subst (λ a. Two a x m y) (sym h) (subst (λ b. Two (codes "--size") x b y) (sym g) refl)
two_after n x m y (inr (inl h)) (inr (inl g)) = subst (λ a. Two a x m y) (sym h) (subst (λ b. Two (codes "--size") x b y) (sym g) refl)
two_after n x m y (inl h) (inr (inr g)) = subst (λ a. Two a x m y) (sym h) (rw (g.0, g.1) refl)
two_after n x m y (inr (inl h)) (inr (inr g)) = subst (λ a. Two a x m y) (sym h) (rw (g.0, g.1) refl)
two_after n x m y (inr (inr h)) w = rw (h.0, h.1) refl

drill_is : (ps : Pairs) → meant (fold put_pair (Some none) ps) ≡ drill_of ps
drill_is [] = refl
drill_is (a ∷ []) = one_pair a.1 (setting_spelled a.0)
drill_is (a ∷ b ∷ []) = two_after a.0 a.1 b.0 b.1 (which a.0) (which b.0)
drill_is (a ∷ b ∷ c ∷ ps) = ap (λ o. meant (fold put_pair o ps)) (three_pairs a b c) ∙ ap meant (fold_none ps)

-- the steps over the words behind `drill` answer what they ask for
pub drill_same : (ws : List Text) → meant (reads (Some none) None ws) ≡ option_and_then drill_of (pairs_of ws)
drill_same ws = same ws (Some none) ∙ go (pairs_of ws)
  where
    go : (o : Option Pairs) → meant (taken (Some none) o) ≡ option_and_then drill_of o
    go None = refl
    go (Some ps) = drill_is ps
