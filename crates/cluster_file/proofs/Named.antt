-- What one more word, key, script or item does to the parts of a document.
use Rattle.std.proofs.Common.{◌≡◌, Bool, true, List, [], ◌∷◌, ◌++◌, refl, sym, ap, ◌∙◌, map}
use Rattle.std.specs.Ordering.{nat_cmp}
use Rattle.std.specs.Cmp.Lexicographic.{slice_cmp}
use Rattle.std.specs.List.{list_any, list_all, flat_map}
use Rattle.std.specs.BTreeSet.{insert_key}
use Rattle.std.proofs.lemmas.Bool.{and_parts}
use Rattle.std.proofs.lemmas.List.{append_assoc, append-nil, map-append}
use Rattle.std.proofs.lemmas.List.Folds.{list_all-append}
use Rattle.std.proofs.lemmas.List.Sums.{fold-append}
use Rattle.std.proofs.lemmas.Grind.{flat_map-append}
use Rattle.std.proofs.lemmas.Cmp.{nat_list_eq_equiv}
use Rattle.score_base.specs.declared.keys.Key.{Key}
use Rattle.score_base.specs.declared.ids.TxId.{TxId}
use Rattle.score_base.specs.declared.ids.Value.{Value}
use Rattle.score_base.specs.Keys.{same_key}
use Rattle.script_lang.specs.Scripts.{ScriptData}
use Rattle.script_lang.specs.Reads.{keys_named, key_of}
use Rattle.script_lang.specs.declared.scripts.Op.{Op}
use Rattle.script_lang.proofs.Seen.{keys_named_more}
use Rattle.grid_model.specs.Documents.{script_numbers, keys_of_document, key_order, number_order}

pub numbers_more : (ss ts : List ScriptData) → script_numbers (ss ++ ts) ≡ script_numbers ss ++ script_numbers ts
numbers_more [] ts = refl
numbers_more (s ∷ ss) ts = ap (λ l. s.number ∷ l) (numbers_more ss ts)

pub numbers_last : (ss : List ScriptData) (s : ScriptData)
    → script_numbers (ss ++ s ∷ []) ≡ script_numbers ss ++ s.number ∷ []
numbers_last ss s = numbers_more ss (s ∷ [])

pub key_order_last : (ks : List Key) (k : Key)
    → key_order (ks ++ k ∷ []) ≡ insert_key (slice_cmp nat_cmp) (key_order ks) k
key_order_last ks k = fold-append (insert_key (slice_cmp nat_cmp)) [] ks (k ∷ [])

pub number_order_last : (ts : List TxId) (t : TxId)
    → number_order (ts ++ t ∷ []) ≡ insert_key nat_cmp (number_order ts) t
number_order_last ts t = fold-append (insert_key nat_cmp) [] ts (t ∷ [])

pub last_keys : (inits : List (Key × Value)) (ss : List ScriptData) (s : ScriptData)
    → keys_of_document inits (ss ++ s ∷ []) ≡ keys_of_document inits ss ++ keys_named s.ops
last_keys inits ss s =
    ap (λ ks. map (λ x. x.0) inits ++ ks) (flat_map-append (λ t. keys_named t.ops) ss (s ∷ []) ∙ ap (λ ks. flat_map (λ t. keys_named t.ops) ss ++ ks) (append-nil (keys_named s.ops)))
    ∙ sym (append_assoc (map (λ x. x.0) inits) (flat_map (λ t. keys_named t.ops) ss) (keys_named s.ops))

-- one more operation of the last script
pub keys_op : (inits : List (Key × Value)) (ss : List ScriptData) (s : ScriptData) (o : Op)
    → keys_of_document inits (ss ++ record s { ops = s.ops ++ o ∷ [] } ∷ [])
    ≡ keys_of_document inits (ss ++ s ∷ []) ++ key_of o ∷ []
keys_op inits ss s o =
    last_keys inits ss (record s { ops = s.ops ++ o ∷ [] })
    ∙ ap (λ ks. keys_of_document inits ss ++ ks) (keys_named_more s.ops (o ∷ []))
    ∙ sym (append_assoc (keys_of_document inits ss) (keys_named s.ops) (key_of o ∷ []))
    ∙ ap (λ ks. ks ++ key_of o ∷ []) (sym (last_keys inits ss s))

-- one more script without operations
pub keys_begun : (inits : List (Key × Value)) (ss : List ScriptData) (s : ScriptData) → s.ops ≡ []
    → keys_of_document inits (ss ++ s ∷ []) ≡ keys_of_document inits ss
keys_begun inits ss s e = last_keys inits ss s ∙ ap (λ ops. keys_of_document inits ss ++ keys_named ops) e ∙ append-nil (keys_of_document inits ss)

-- one more initial value, before any script
pub keys_init : (inits : List (Key × Value)) (x : Key × Value)
    → keys_of_document (inits ++ x ∷ []) [] ≡ keys_of_document inits [] ++ x.0 ∷ []
keys_init inits x = append-nil (map (λ y. y.0) (inits ++ x ∷ [])) ∙ map-append (λ y. y.0) inits (x ∷ []) ∙ ap (λ ks. ks ++ x.0 ∷ []) (sym (append-nil (map (λ y. y.0) inits)))

pub all_last : {X : Type 0} (p : X → Bool) (xs : List X) (x : X) → list_all p xs ≡ true → p x ≡ true
    → list_all p (xs ++ x ∷ []) ≡ true
all_last p xs x h k = rw (list_all-append, h, k) refl

pub all_but_last : {X : Type 0} (p : X → Bool) (xs : List X) (x : X) → list_all p (xs ++ x ∷ []) ≡ true
    → (list_all p xs ≡ true) × (p x ≡ true)
all_but_last p [] x h = (refl, (and_parts (p x) true h).0)
all_but_last p (y ∷ xs) x h =
    let both = and_parts (p y) (list_all p (xs ++ x ∷ [])) h in
    let rest = all_but_last p xs x both.1 in
    (rw (both.0, rest.0) refl, rest.1)

-- before any script, the keys named are those of the initial values
pub known_in_inits : (inits : List (Key × Value)) (k : Key)
    → list_any (λ x. same_key x.0 k) inits ≡ list_any (same_key k) (keys_of_document inits [])
known_in_inits [] k = refl
known_in_inits (x ∷ inits) k = rw (nat_list_eq_equiv.symm x.0 k, known_in_inits inits k) refl

-- Some more behind others.

pub keys_more_inits : (xs ys : List (Key × Value))
    → keys_of_document (xs ++ ys) [] ≡ keys_of_document xs [] ++ map (λ x. x.0) ys
keys_more_inits xs ys = append-nil (map (λ x. x.0) (xs ++ ys)) ∙ map-append (λ x. x.0) xs ys ∙ ap (λ l. l ++ map (λ x. x.0) ys) (sym (append-nil (map (λ x. x.0) xs)))

pub keys_more_scripts : (inits : List (Key × Value)) (ss ts : List ScriptData)
    → keys_of_document inits (ss ++ ts) ≡ keys_of_document inits ss ++ flat_map (λ s. keys_named s.ops) ts
keys_more_scripts inits ss ts = ap (λ l. map (λ x. x.0) inits ++ l) (flat_map-append (λ s. keys_named s.ops) ss ts) ∙ sym (append_assoc (map (λ x. x.0) inits) (flat_map (λ s. keys_named s.ops) ss) (flat_map (λ s. keys_named s.ops) ts))

pub keys_more_ops : (inits : List (Key × Value)) (ss : List ScriptData) (s : ScriptData) (os rest : List Op)
    → keys_of_document inits (ss ++ record s { ops = os ++ rest } ∷ [])
    ≡ keys_of_document inits (ss ++ record s { ops = os } ∷ []) ++ keys_named rest
keys_more_ops inits ss s os rest =
    last_keys inits ss (record s { ops = os ++ rest })
    ∙ ap (λ l. keys_of_document inits ss ++ l) (keys_named_more os rest)
    ∙ sym (append_assoc (keys_of_document inits ss) (keys_named os) (keys_named rest))
    ∙ ap (λ l. l ++ keys_named rest) (sym (last_keys inits ss (record s { ops = os })))
