-- Which version does a node read at an identifier, and when does the next record leave it as it is?
use Rattle.std.proofs.Common.{◌≤◌, ◌≡◌, Bool, true, false, ◌&&◌, ◌||◌, List, [], ◌∷◌, Some, refl, sym, ap, ◌∙◌, arith, if◌then◌else◌}
use Rattle.std.proofs.lemmas.Bool.{and_parts, and_from}
use Rattle.std.proofs.lemmas.Bool.Decides.{nat_tests}
use Rattle.std.specs.Prelude.{◌==◌, nat_le}
use Rattle.score_base.specs.declared.ids.TxId.{TxId}
use Rattle.score_base.specs.declared.ids.NodeId.{NodeId}
use Rattle.score_base.specs.declared.ids.Ident.{Ident}
use Rattle.score_base.specs.declared.ids.Value.{Value}
use Rattle.score_base.specs.declared.keys.Key.{Key}
use Rattle.score_base.specs.declared.causes.Outcome.TheVariants as outcome
use Rattle.score_base.specs.declared.records.Record.{Record}
use Rattle.placement.specs.Clusters.{ClusterData}
use Rattle.journal_words.specs.declared.versions.Version.{Version}
use Rattle.journal_words.specs.Journals.{prepared_of, is_clear, ended, applied, wrote_in, up_to, version_at, newest, all_fit}
use Rattle.journal_words.proofs.Fits.{newest-fits, rest-fits}
use Rattle.journal_words.proofs.Pairs.{has_pair}
use Rattle.journal_words.proofs.Once.{prepared-stays, ended-prepared}
use Rattle.journal_words.proofs.Applied.{applied-says, applied-grows, applied-below}
use Rattle.journal_words.proofs.Bests.{best_of, writer, best-is, best-bound, IsWithin, best-same}
use Rattle.journal_words.proofs.Stands.{final-positive}

-- ---- who wrote

-- what a commit wrote stays
pub writer-stays : (c : ClusterData) (n : NodeId) (k : Key) (t : TxId) (f : Ident) (y : Record) (r : List Record)
    → all_fit c n r ≡ true → ended t r ≡ Some (outcome.Commit f) → writer (y ∷ r) k t ≡ writer r k t
writer-stays c n k t f y r fit h =
    let x = ended-prepared c n t (outcome.Commit f) r fit h in
    ap (λ o. wrote_in o k) (prepared-stays t y r x.0 x.1 ∙ sym x.1)

-- ---- up to an identifier

pub up_to-pair : (s : Ident) (t : TxId) (f : Ident) (xs : List (TxId × Ident))
    → has_pair t f (up_to s xs) ≡ (has_pair t f xs && nat_le f s)
up_to-pair s t f [] = refl
up_to-pair s t f (x ∷ xs) = go (nat_le x.1 s) same (up_to-pair s t f xs)
  where
    same : (x.0 == t && x.1 == f) ≡ true → nat_le f s ≡ nat_le x.1 s
    same h = let e : f ≡ x.1 = grind (arith, nat_tests, h) in ap (λ g. nat_le g s) e

    go : (b : Bool) → ((x.0 == t && x.1 == f) ≡ true → nat_le f s ≡ b)
        → has_pair t f (up_to s xs) ≡ (has_pair t f xs && nat_le f s)
        → has_pair t f (if b then x ∷ up_to s xs else up_to s xs)
        ≡ (((x.0 == t && x.1 == f) || has_pair t f xs) && nat_le f s)
    go true e more = grind (arith, e, more)
    go false e more = grind (arith, e, more)

-- a commit that is applied, up to s
pub record IsReadable (s : Ident) (t : TxId) (f : Ident) (r : List Record) : Type 0 where
  pub applied : has_pair t f (applied r) ≡ true
  pub most : f ≤ s

pub up_to-says : (s : Ident) (t : TxId) (f : Ident) (r : List Record) → has_pair t f (up_to s (applied r)) ≡ true
    → IsReadable s t f r
up_to-says s t f r h =
    let a = and_parts (has_pair t f (applied r)) (nat_le f s) (sym (up_to-pair s t f (applied r)) ∙ h) in
    record { applied = a.0; most = grind (arith, nat_tests, a.1) }

pub says-up_to : (s : Ident) (t : TxId) (f : Ident) (r : List Record) → IsReadable s t f r
    → has_pair t f (up_to s (applied r)) ≡ true
says-up_to s t f r h =
    let le = h.most in
    let test : nat_le f s ≡ true = grind (arith, nat_tests) in
    up_to-pair s t f (applied r) ∙ and_from (has_pair t f (applied r)) (nat_le f s) h.applied test

pub version-is : (r : List Record) (k : Key) (start : Value) (s : Ident)
    → version_at r k start s ≡ best_of (writer r k) start (up_to s (applied r))
version-is r k start s = best-is r k start (up_to s (applied r))

-- ---- the next record leaves a version as it is, at an identifier below every pending proposal

readable-before : (c : ClusterData) (n : NodeId) (s : Ident) (k : Key) (y : Record) (r : List Record)
    → all_fit c n (y ∷ r) ≡ true → is_clear s r ≡ true
    → IsWithin (writer (y ∷ r) k) (writer r k) (up_to s (applied (y ∷ r))) (up_to s (applied r))
readable-before c n s k y r fit clear u f v h w =
    let a = up_to-says s u f (y ∷ r) h in
    let rest = rest-fits c n y r fit in
    let there : has_pair u f (applied r) ≡ true = applied-below c n s u f y r fit clear a.most a.applied in
    let says = applied-says c n u f r rest there in
    (says-up_to s u f r (record { applied = there; most = a.most }), sym (writer-stays c n k u f y r rest says.committed) ∙ w, final-positive c n u f r rest says.committed)

readable-after : (c : ClusterData) (n : NodeId) (s : Ident) (k : Key) (y : Record) (r : List Record)
    → all_fit c n (y ∷ r) ≡ true
    → IsWithin (writer r k) (writer (y ∷ r) k) (up_to s (applied r)) (up_to s (applied (y ∷ r)))
readable-after c n s k y r fit u f v h w =
    let a = up_to-says s u f r h in
    let rest = rest-fits c n y r fit in
    let says = applied-says c n u f r rest a.applied in
    (says-up_to s u f (y ∷ r) (record { applied = applied-grows c n u f y r (newest-fits c n y r fit) a.applied; most = a.most }), writer-stays c n k u f y r rest says.committed ∙ w, final-positive c n u f r rest says.committed)

pub version-stays : (c : ClusterData) (n : NodeId) (k : Key) (start : Value) (s : Ident) (y : Record) (r : List Record)
    → all_fit c n (y ∷ r) ≡ true → is_clear s r ≡ true → version_at (y ∷ r) k start s ≡ version_at r k start s
version-stays c n k start s y r fit clear =
    version-is (y ∷ r) k start s
    ∙ best-same (writer (y ∷ r) k) (writer r k) start (up_to s (applied (y ∷ r))) (up_to s (applied r)) (readable-before c n s k y r fit clear) (readable-after c n s k y r fit)
    ∙ sym (version-is r k start s)

-- ---- the newest version

-- who is applied and wrote the key has a final identifier of at most the newest version's
pub newest-bound : (t : TxId) (f : Ident) (k : Key) (v : Value) (r : List Record) → has_pair t f (applied r) ≡ true
    → wrote_in (prepared_of t r) k ≡ Some v → f ≤ newest r k
newest-bound t f k v r h w =
    let b = best-bound (writer r k) 0 t f v (applied r) h w in
    let e : newest r k ≡ (best_of (writer r k) 0 (applied r)).ident = ap (λ (x : Version). x.ident) (best-is r k 0 (applied r)) in
    rw e (grind (arith, b))

-- ---- the versions of a key

-- t wrote this value to the key, and its commit is applied
pub record IsVersion (r : List Record) (k : Key) (t : TxId) (f : Ident) (v : Value) : Type 0 where
  pub applied : has_pair t f (applied r) ≡ true
  pub wrote : wrote_in (prepared_of t r) k ≡ Some v

-- what a read gives: the initial value, or a version up to the identifier
pub data IsRead (r : List Record) (k : Key) (start : Value) (s : Ident) (b : Version) : Type 0 where
  first : b ≡ record { ident = 0; of = 0; value = start } → IsRead r k start s b
  wrote : (t : TxId) (f : Ident) (v : Value) → IsVersion r k t f v → f ≤ s → b ≡ record { ident = f; of = t; value = v }
      → IsRead r k start s b
