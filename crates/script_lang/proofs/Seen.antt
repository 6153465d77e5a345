-- What one operation adds to the keys of a script.
use Rattle.std.proofs.Common.{◌≡◌, Bool, true, false, ◌||◌, cond, List, [], ◌∷◌, ◌++◌, refl, sym, ap, subst, ◌∙◌}
use Rattle.std.proofs.lemmas.List.{append_assoc, append-nil}
use Rattle.score_base.specs.declared.keys.Key.{Key}
use Rattle.score_base.specs.Keys.{same_key}
use Rattle.std.specs.Cmp.Lexicographic.{same_text}
use Rattle.script_lang.specs.declared.scripts.Op.{Op}
use Rattle.script_lang.specs.declared.scripts.Op.TheVariants as op
use Rattle.script_lang.specs.Reads.{is_key_among, key_of, keys_named, unless_among, distinct_keys, remote_key, remote_keys, written_key, written_keys}

-- two lists have the same members
abbrev pub SameKeys : List Key → List Key → Type 0
SameKeys s t = (q : Key) → is_key_among q s ≡ is_key_among q t

same_more : (s t : List Key) (k : Key) → SameKeys s t → SameKeys (k ∷ s) (k ∷ t)
same_more s t k h q = ap (λ b. same_key q k || b) (h q)

distinct_same : (s t ks : List Key) → SameKeys s t → distinct_keys s ks ≡ distinct_keys t ks
distinct_same s t [] h = refl
distinct_same s t (k ∷ ks) h = rw (h k, distinct_same s t ks h, distinct_same (k ∷ s) (k ∷ t) ks (same_more s t k h)) refl

remote_same : (s t : List Key) (ops : List Op) → SameKeys s t → remote_keys s ops ≡ remote_keys t ops
remote_same s t [] h = refl
remote_same s t (op.Read k ∷ ops) h = rw (h k, remote_same s t ops h, remote_same (k ∷ s) (k ∷ t) ops (same_more s t k h)) refl
remote_same s t (op.Write k e ∷ ops) h = remote_same (k ∷ s) (k ∷ t) ops (same_more s t k h)

written_same : (s t : List Key) (ops : List Op) → SameKeys s t → written_keys s ops ≡ written_keys t ops
written_same s t [] h = refl
written_same s t (op.Read k ∷ ops) h = written_same s t ops h
written_same s t (op.Write k e ∷ ops) h = rw (h k, written_same s t ops h, written_same (k ∷ s) (k ∷ t) ops (same_more s t k h)) refl

pub or_swap : (a b c : Bool) → (a || (b || c)) ≡ (b || (a || c))
or_swap true true c = refl
or_swap true false c = refl
or_swap false b c = refl

-- a key at the end of a list, or at its head
at_end : (s : List Key) (k : Key) → SameKeys (k ∷ s) (s ++ k ∷ [])
at_end [] k q = refl
at_end (x ∷ s) k q = or_swap (same_key q k) (same_key q x) (is_key_among q s) ∙ ap (λ b. same_key q x || b) (at_end s k q)

-- a key in the middle of a list, or at its head
pub in_middle : (s t : List Key) (k : Key) → SameKeys (s ++ k ∷ t) (k ∷ s ++ t)
in_middle [] t k q = refl
in_middle (x ∷ s) t k q = ap (λ b. same_key q x || b) (in_middle s t k q) ∙ or_swap (same_key q x) (same_key q k) (is_key_among q (s ++ t))

-- what one more key adds to the keys so far
pub distinct_more : (seen ks : List Key) (k : Key) → seen ++ distinct_keys seen (k ∷ ks)
    ≡ (seen ++ unless_among seen k) ++ distinct_keys (seen ++ unless_among seen k) ks
distinct_more seen ks k = by (is_key_among k seen)
  where
    by : (b : Bool) → seen ++ cond b (distinct_keys seen ks) (k ∷ distinct_keys (k ∷ seen) ks)
        ≡ (seen ++ cond b [] (k ∷ [])) ++ distinct_keys (seen ++ cond b [] (k ∷ [])) ks
    by true = ap (λ s. s ++ distinct_keys s ks) (sym (append-nil seen))
    by false = ap (λ l. seen ++ k ∷ l) (distinct_same (k ∷ seen) (seen ++ k ∷ []) ks (at_end seen k)) ∙ sym (append_assoc seen (k ∷ []) (distinct_keys (seen ++ k ∷ []) ks))

pub written_more : (seen : List Key) (ops : List Op) (o : Op) → seen ++ written_keys seen (o ∷ ops)
    ≡ (seen ++ written_key seen o) ++ written_keys (seen ++ written_key seen o) ops
written_more seen ops (op.Read k) = ap (λ s. s ++ written_keys s ops) (sym (append-nil seen))
written_more seen ops (op.Write k e) = by (is_key_among k seen)
  where
    by : (b : Bool) → seen ++ cond b (written_keys seen ops) (k ∷ written_keys (k ∷ seen) ops)
        ≡ (seen ++ cond b [] (k ∷ [])) ++ written_keys (seen ++ cond b [] (k ∷ [])) ops
    by true = ap (λ s. s ++ written_keys s ops) (sym (append-nil seen))
    by false = ap (λ l. seen ++ k ∷ l) (written_same (k ∷ seen) (seen ++ k ∷ []) ops (at_end seen k)) ∙ sym (append_assoc seen (k ∷ []) (written_keys (seen ++ k ∷ []) ops))

-- a key that is there already changes nothing at the end
again : (s : List Key) (k : Key) → is_key_among k s ≡ true → SameKeys s (s ++ k ∷ [])
again s k there q = is_there (is_key_among q s) (same_key q k) (λ same. subst (λ (x : Key). is_key_among x s ≡ true) (sym (same_text q k (sym same))) there) ∙ at_end s k q
  where
    is_there : (a b : Bool) → (b ≡ true → a ≡ true) → a ≡ (b || a)
    is_there a true h = h refl
    is_there a false h = refl

-- one more key of a script, in its distinct keys
pub distinct_told : (ops rest : List Op) (o : Op) (seen new whole : List Key) → ops ≡ o ∷ rest
    → seen ++ distinct_keys seen (keys_named ops) ≡ whole → new ≡ seen ++ unless_among seen (key_of o)
    → new ++ distinct_keys new (keys_named rest) ≡ whole
distinct_told ops rest o seen new whole first told more =
    ap (λ s. s ++ distinct_keys s (keys_named rest)) more
    ∙ sym (distinct_more seen (keys_named rest) (key_of o))
    ∙ ap (λ l. seen ++ distinct_keys seen (keys_named l)) (sym first)
    ∙ told

-- one more operation, in the keys that are written
pub written_told : (ops rest : List Op) (o : Op) (seen new whole : List Key) → ops ≡ o ∷ rest
    → seen ++ written_keys seen ops ≡ whole → new ≡ seen ++ written_key seen o → new ++ written_keys new rest ≡ whole
written_told ops rest o seen new whole first told more =
    ap (λ s. s ++ written_keys s rest) more
    ∙ sym (written_more seen rest o)
    ∙ ap (λ l. seen ++ written_keys seen l) (sym first)
    ∙ told

-- the keys of operations, and of others behind them
pub keys_named_more : (ops rest : List Op) → keys_named (ops ++ rest) ≡ keys_named ops ++ keys_named rest
keys_named_more [] rest = refl
keys_named_more (o ∷ ops) rest = ap (λ ks. key_of o ∷ ks) (keys_named_more ops rest)

remote_more : (named : List Key) (rest : List Op) (o : Op)
    → remote_keys named (o ∷ rest) ≡ remote_key named o ++ remote_keys (named ++ key_of o ∷ []) rest
remote_more named rest (op.Write k e) = remote_same (k ∷ named) (named ++ k ∷ []) rest (at_end named k)
remote_more named rest (op.Read k) = by (is_key_among k named) refl
  where
    by : (b : Bool) → is_key_among k named ≡ b → cond b (remote_keys named rest) (k ∷ remote_keys (k ∷ named) rest)
        ≡ cond b [] (k ∷ []) ++ remote_keys (named ++ k ∷ []) rest
    by true there = remote_same named (named ++ k ∷ []) rest (again named k there)
    by false none = ap (λ l. k ∷ l) (remote_same (k ∷ named) (named ++ k ∷ []) rest (at_end named k))

-- one more operation, in the keys that are read remotely
pub remote_told : (before longer ops rest : List Op) (o : Op) (keys new whole : List Key) → longer ≡ before ++ o ∷ []
    → ops ≡ o ∷ rest → keys ++ remote_keys (keys_named before) ops ≡ whole
    → new ≡ keys ++ remote_key (keys_named before) o → new ++ remote_keys (keys_named longer) rest ≡ whole
remote_told before longer ops rest o keys new whole more first told added =
    ap (λ ns. new ++ remote_keys ns rest) (ap keys_named more ∙ keys_named_more before (o ∷ []))
    ∙ ap (λ l. l ++ remote_keys (keys_named before ++ key_of o ∷ []) rest) added
    ∙ append_assoc keys (remote_key (keys_named before) o) (remote_keys (keys_named before ++ key_of o ∷ []) rest)
    ∙ ap (λ l. keys ++ l) (sym (remote_more (keys_named before) rest o))
    ∙ ap (λ l. keys ++ remote_keys (keys_named before) l) (sym first)
    ∙ told
