-- Where all records fit, none is strange.
use Rattle.std.proofs.Common.{◌≡◌, ℕ, ◌+◌, ◌<◌, true, false, List, [], ◌∷◌, ◌++◌, take, drop, length, reverse, sym, ap, subst, ◌∙◌, true≢false, Result, Ok, Err}
use Rattle.std.specs.Prelude.{slice_index_or}
use Rattle.std.proofs.lemmas.List.{reverse-append, take-append-drop}
use Rattle.score_base.specs.declared.ids.NodeId.{NodeId}
use Rattle.score_base.specs.declared.records.Record.{Record}
use Rattle.score_base.specs.declared.records.Record.TheVariants as record'
use Rattle.placement.specs.Clusters.{ClusterData}
use Rattle.journal_words.specs.Journals.{fits, all_fit}
use Rattle.journal_words.proofs.Fits.{newest-fits, rest-fits}
use Rattle.journal_words.proofs.Newest.{newest_more}
use Rattle.grid_store.specs.Replay.{IsStrange}

-- the records behind others
behind-fit : (c : ClusterData) (n : NodeId) (xs ys : List Record) → all_fit c n (xs ++ ys) ≡ true → all_fit c n ys ≡ true
behind-fit c n [] ys p = p
behind-fit c n (x ∷ xs) ys p = behind-fit c n xs ys (rest-fits c n x (xs ++ ys) p)

-- the first records in time
front-fit : (c : ClusterData) (n : NodeId) (rs : List Record) (i : ℕ) → all_fit c n (reverse rs) ≡ true
    → all_fit c n (reverse (take i rs)) ≡ true
front-fit c n rs i p =
    let parts : reverse rs ≡ reverse (drop i rs) ++ reverse (take i rs) =
    ap reverse (sym (take-append-drop i rs)) ∙ reverse-append (take i rs) (drop i rs) in
    behind-fit c n (reverse (drop i rs)) (reverse (take i rs)) (subst (λ r. all_fit c n r ≡ true) parts p)

pub never-strange : (c : ClusterData) (n : NodeId) (rs : List Record) (i : ℕ) → all_fit c n (reverse rs) ≡ true
    → IsStrange c n rs i → ⊥
never-strange c n rs i p s =
    let d : Record = record'.Closed 1 in
    let front : all_fit c n (slice_index_or rs i d ∷ reverse (take i rs)) ≡ true =
    subst (λ r. all_fit c n r ≡ true) (newest_more rs i d s.inside) (front-fit c n rs (i + 1) p) in
    true≢false (sym (newest-fits c n (slice_index_or rs i d) (reverse (take i rs)) front) ∙ s.strange d)

abbrev records-of : List Record → Result (List Record) ℕ → List Record
records-of rs (Ok xs) = xs
records-of rs (Err at) = rs

-- the records of a log, of which all fit
pub strange-never : (c : ClusterData) (n : NodeId) (log : Result (List Record) ℕ) (rs xs : List Record) (i : ℕ)
    → log ≡ Ok rs → all_fit c n (reverse rs) ≡ true → log ≡ Ok xs → IsStrange c n xs i → ⊥
strange-never c n log rs xs i e fit f s =
    let same : rs ≡ xs = ap (records-of rs) (sym e ∙ f) in
    never-strange c n xs i (subst (λ r. all_fit c n (reverse r) ≡ true) same fit) s
