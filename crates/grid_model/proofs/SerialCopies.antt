-- Is the serial copy what the transactions wrote last, each by what it took?
use Rattle.std.proofs.Common.{ℕ, ◌≤◌, ◌<◌, ◌≡◌, Bool, true, false, ◌&&◌, List, [], ◌∷◌, ◌++◌, Option, Some, None, refl, sym, ap, subst, ◌∙◌, arith, if◌then◌else◌}
use Rattle.std.proofs.lemmas.Bool.{or_right}
use Rattle.std.proofs.lemmas.Bool.Decides.{nat_tests}
use Rattle.std.specs.Prelude.{◌==◌, nat_le}
use Rattle.score_base.specs.declared.ids.TxId.{TxId}
use Rattle.score_base.specs.declared.ids.Ident.{Ident}
use Rattle.score_base.specs.declared.ids.Value.{Value}
use Rattle.score_base.specs.declared.keys.Key.{Key}
use Rattle.script_lang.specs.Scripts.{ScriptData}
use Rattle.script_lang.specs.Reads.{is_key_among, written_keys}
use Rattle.placement.specs.Clusters.{init}
use Rattle.grid_model.specs.Documents.{DocumentData}
use Rattle.script_runs.specs.Serials.{Map, reads_on}
use Rattle.script_runs.specs.Waits.{waiting}
use Rattle.grid_model.specs.Nodes.{script_of}
use Rattle.script_runs.specs.Walks.{own_map}
use Rattle.journal_words.specs.Orders.{members_to}
use Rattle.grid_model.specs.Copies.{script_map, copy_of}
use Rattle.script_runs.proofs.SerialWalks.{AreOf, reads-serial, map-serial}
use Rattle.script_runs.proofs.AllReads.{reads_by}
use Rattle.journal_words.proofs.Orders.{AllUpTo, AreFalling, has_member}
use Rattle.journal_words.proofs.LastWrites.{value_or, last_written}

-- ---- what each transaction wrote, by what it took

-- what a script with these values taken wrote last to the key
abbrev pub script_write : Option ScriptData → List (ℕ × Value) → Key → Option Value
script_write None values k = None
script_write (Some s) values k = if is_key_among k (written_keys [] s.ops) then Some (own_map s.ops values k) else None

abbrev pub write_by : DocumentData → (TxId → List (ℕ × Value)) → Key → TxId → Option Value
write_by d values k t = script_write (script_of t d.scripts) (values t) k

-- the map of what these wrote last
abbrev pub last_map : DocumentData → (TxId → List (ℕ × Value)) → List (Ident × TxId) → Map
last_map d values xs = λ k. last_written (write_by d values k) (init d.cluster k) xs

-- ---- each took what those before it wrote last

-- a script's reads are taken, with the values of the map
abbrev pub Takes : Option ScriptData → List (ℕ × Value) → Map → Type 0
Takes None values m = Unit {0}
Takes (Some s) values m = (waiting s.ops values ≡ None) × AreOf m 1 values s.ops

-- each of these took its values from what those before it wrote last
abbrev pub AllTake : DocumentData → (TxId → List (ℕ × Value)) → List (Ident × TxId) → Type 0
AllTake d values [] = Unit {0}
AllTake d values (x ∷ xs) = Takes (script_of x.1 d.scripts) (values x.1) (last_map d values xs) × AllTake d values xs

takes-same : (o : Option ScriptData) (values : List (ℕ × Value)) (m m' : Map) → ((k : Key) → m k ≡ m' k)
    → Takes o values m → Takes o values m'
takes-same None values m m' same h = tt
takes-same (Some s) values m m' same h = (h.0, λ i k v is e. h.1 i k v is e ∙ same k)

script-copy : (o : Option ScriptData) (values : List (ℕ × Value)) (m : Map) (k : Key) → Takes o values m
    → script_map o m k ≡ value_or (script_write o values k) (m k)
script-copy None values m k h = refl
script-copy (Some s) values m k h = map-serial m values s.ops k h.0 h.1 ∙ go (is_key_among k (written_keys [] s.ops))
  where
    go : (b : Bool) → (if b then own_map s.ops values k else m k)
        ≡ value_or (if b then Some (own_map s.ops values k) else None) (m k)
    go true = refl
    go false = refl

-- so the serial copy is what they wrote last
pub copy-last : (d : DocumentData) (values : TxId → List (ℕ × Value)) (xs : List (Ident × TxId)) → AllTake d values xs
    → (k : Key) → copy_of d xs k ≡ last_map d values xs k
copy-last d values [] h k = refl
copy-last d values (x ∷ xs) h k =
    let rest : (z : Key) → copy_of d xs z ≡ last_map d values xs z = copy-last d values xs h.1 in
    script-copy (script_of x.1 d.scripts) (values x.1) (copy_of d xs) k (takes-same (script_of x.1 d.scripts) (values x.1) (last_map d values xs) (copy_of d xs) (λ z. sym (rest z)) h.0)
    ∙ ap (value_or (write_by d values k x.1)) (rest k)

-- and each was shown what its script reads on the copy of those before it
pub copy-reads : (d : DocumentData) (values : TxId → List (ℕ × Value)) (x : Ident × TxId) (xs : List (Ident × TxId))
    (s : ScriptData) → AllTake d values (x ∷ xs) → script_of x.1 d.scripts ≡ Some s
    → reads_on (copy_of d xs) s.ops ≡ reads_by (values x.1) s.ops
copy-reads d values x xs s h e =
    let P : Option ScriptData → Type 0 = λ o. Takes o (values x.1) (last_map d values xs) in
    let t = subst P e h.0 in
    reads-serial (copy_of d xs) (values x.1) s.ops t.0 (λ i k v is f. t.1 i k v is f ∙ sym (copy-last d values xs h.1 k))

-- ---- parts of a falling list

pub take-rest : (d : DocumentData) (values : TxId → List (ℕ × Value)) (ys xs : List (Ident × TxId))
    → AllTake d values (ys ++ xs) → AllTake d values xs
take-rest d values [] xs h = h
take-rest d values (y ∷ ys) xs h = take-rest d values ys xs h.1

pub falling-rest : (ys xs : List (Ident × TxId)) → AreFalling (ys ++ xs) → AreFalling xs
falling-rest [] xs h = h
falling-rest (y ∷ ys) xs h = falling-rest ys xs h.1

up_to-all : (s : Ident) (x : Ident × TxId) (xs : List (Ident × TxId)) → x.0 ≤ s → AllUpTo x xs → members_to s xs ≡ xs
up_to-all s x [] le all = refl
up_to-all s x (y ∷ ys) le all =
    let first = all.0 in
    let test : nat_le y.0 s ≡ true = grind (arith, nat_tests, first) in
    rw test (ap (λ zs. y ∷ zs) (up_to-all s x ys le all.1))

-- those up to an identifier are the end of a falling list
pub members-rest : (s : Ident) (xs : List (Ident × TxId)) → AreFalling xs
    → (ys : List (Ident × TxId)) × (xs ≡ ys ++ members_to s xs)
members-rest s [] h = ([], refl)
members-rest s (x ∷ xs) h = go (nat_le x.0 s) refl (members-rest s xs h.1)
  where
    go : (b : Bool) → nat_le x.0 s ≡ b → ((ys : List (Ident × TxId)) × (xs ≡ ys ++ members_to s xs))
        → (ys : List (Ident × TxId)) × (x ∷ xs ≡ ys ++ (if b then x ∷ members_to s xs else members_to s xs))
    go true e rest = ([], ap (λ zs. x ∷ zs) (sym (up_to-all s x xs (grind (arith, nat_tests, e)) h.0)))
    go false e rest = (x ∷ rest.0, ap (λ zs. x ∷ zs) rest.1)

-- members above an identifier that did not write the key do not count
pub last-skips : (w : TxId → Option Value) (start : Value) (s : Ident) (xs : List (Ident × TxId))
    → ((f : Ident) (t : TxId) → has_member f t xs ≡ true → s < f → w t ≡ None)
    → last_written w start xs ≡ last_written w start (members_to s xs)
last-skips w start s [] none = refl
last-skips w start s (x ∷ xs) none = go (nat_le x.0 s) refl (last-skips w start s xs (λ f t h lt. none f t (or_right (x.0 == f && x.1 == t) (has_member f t xs) h) lt))
  where
    go : (b : Bool) → nat_le x.0 s ≡ b → last_written w start xs ≡ last_written w start (members_to s xs)
        → value_or (w x.1) (last_written w start xs)
        ≡ last_written w start (if b then x ∷ members_to s xs else members_to s xs)
    go true e rest = ap (value_or (w x.1)) rest
    go false e rest =
        let silent : w x.1 ≡ None = none x.0 x.1 (grind (arith, nat_tests)) (grind (arith, nat_tests, e)) in
        rw silent rest
