-- Behind the opening of its home each transaction that began is settled.
use Rattle.grid_laws.proofs.DueActs.{due-before}
use Rattle.cause_laws.proofs.Settled.{is_settled, is_shut, settled-later, shut-more, unsettled-open}
use Rattle.grid_laws.proofs.Causes.{AllDue}
use Rattle.grid_laws.proofs.Frames.{same-number}
use Rattle.grid_laws.proofs.Snapshots.{OfStory, of-more}
use Rattle.grid_model.specs.Documents.{DocumentData, number_order, script_numbers}
use Rattle.grid_model.specs.Histories.{after}
use Rattle.journal_words.specs.Journals.{decision, later}
use Rattle.grid_model.specs.Nodes.{journal, script_of}
use Rattle.grid_model.specs.Schedules.{losses, lost_at, opened_row}
use Rattle.grid_model.specs.Stories.{begun, if_told, is_open, phase, story, told}
use Rattle.grid_model.specs.declared.acts.Act.TheVariants as act
use Rattle.grid_model.specs.declared.acts.Act.{Act}
use Rattle.grid_model.specs.declared.acts.Flag.{Flag}
use Rattle.grid_model.specs.declared.stories.Story.{Story}
use Rattle.score_base.specs.declared.ids.NodeId.{NodeId}
use Rattle.score_base.specs.declared.ids.TxId.{TxId}
use Rattle.script_lang.specs.Scripts.{ScriptData}
use Rattle.std.proofs.Common.{Bool, List, None, Option, Some, [], arith, false, inl, inr, refl, subst, sym, true, ◌||◌, ◌∙◌, ◌∷◌, ◌≡◌, ◌⊎◌}
use Rattle.std.proofs.lemmas.Bool.Decides.{nat_tests}
use Rattle.std.proofs.lemmas.Bool.{and_from, or_cases, or_left, or_right}
use Rattle.std.proofs.lemmas.List.Folds.{list_any-append}
use Rattle.std.proofs.lemmas.Map.Lookups.{exact_unsigned}
use Rattle.std.specs.BTreeSet.{insert_key}
use Rattle.std.specs.List.{flat_map, list_any}
use Rattle.std.specs.Ordering.{match_ordering, nat_cmp}
use Rattle.std.specs.Prelude.{fold, if◌then◌else◌, is_some, ◌==◌}
use Rattle.std.specs.declared.cmp.Ordering.TheVariants.{Equal, Greater, Less}
use Rattle.std.specs.declared.cmp.Ordering.{Ordering}

-- ---- the numbers of the scripts

insert-among : (t k : TxId) (ks : List TxId) → ((k == t) || list_any (λ u. u == t) ks) ≡ true
    → list_any (λ u. u == t) (insert_key nat_cmp ks k) ≡ true
insert-among t k [] h = h
insert-among t k (x ∷ xs) h = by (nat_cmp k x) refl (insert-among t k xs)
  where
    rest : Bool
    rest = list_any (λ u. u == t) xs

    turned : (a b c : Bool) → (a || (b || c)) ≡ true → (b ≡ true) ⊎ ((a || c) ≡ true)
    turned a true c i = inl refl
    turned true false c i = inr refl
    turned false false c i = inr i

    by : (r : Ordering) → nat_cmp k x ≡ r
        → (((k == t) || rest) ≡ true → list_any (λ u. u == t) (insert_key nat_cmp xs k) ≡ true)
        → list_any (λ u. u == t) (match_ordering r (k ∷ x ∷ xs) (x ∷ xs) (x ∷ insert_key nat_cmp xs k)) ≡ true
    by Less e go = h
    by Equal e go =
        let same : k ≡ x = exact_unsigned k x e in
        elim (or_cases (k == t) ((x == t) || rest) h) [
          | inl here ↦ or_left (x == t) rest (subst (λ z. (z == t) ≡ true) same here)
          | inr there ↦ there
        ]
    by Greater e go = elim (turned (k == t) (x == t) rest h) [
      | inl here ↦ or_left (x == t) (list_any (λ u. u == t) (insert_key nat_cmp xs k)) here
      | inr there ↦ or_right (x == t) (list_any (λ u. u == t) (insert_key nat_cmp xs k)) (go there)
    ]

fold-among : (t : TxId) (acc ks : List TxId) → (list_any (λ u. u == t) acc || list_any (λ u. u == t) ks) ≡ true
    → list_any (λ u. u == t) (fold (insert_key nat_cmp) acc ks) ≡ true
fold-among t acc [] h = or-none (list_any (λ u. u == t) acc) h
  where
    or-none : (b : Bool) → (b || false) ≡ true → b ≡ true
    or-none true e = refl
    or-none false e = e
fold-among t acc (k ∷ ks) h = fold-among t (insert_key nat_cmp acc k) ks (elim (or_cases (list_any (λ u. u == t) acc) ((k == t) || list_any (λ u. u == t) ks) h) [
  | inl before ↦ or_left (list_any (λ u. u == t) (insert_key nat_cmp acc k)) (list_any (λ u. u == t) ks) (insert-among t k acc (or_right (k == t) (list_any (λ u. u == t) acc) before))
  | inr more ↦ elim (or_cases (k == t) (list_any (λ u. u == t) ks) more) [
    | inl here ↦ or_left (list_any (λ u. u == t) (insert_key nat_cmp acc k)) (list_any (λ u. u == t) ks) (insert-among t k acc (or_left (k == t) (list_any (λ u. u == t) acc) here))
    | inr later ↦ or_right (list_any (λ u. u == t) (insert_key nat_cmp acc k)) (list_any (λ u. u == t) ks) later
  ]
])

script-among : (t : TxId) (ss : List ScriptData) (s : ScriptData) → script_of t ss ≡ Some s
    → list_any (λ u. u == t) (script_numbers ss) ≡ true
script-among t [] s e = cc
script-among t (x ∷ ss) s e = go (x.number == t) refl e (λ i. script-among t ss s i)
  where
    go : (b : Bool) → (x.number == t) ≡ b → (if b then Some x else script_of t ss) ≡ Some s
        → (script_of t ss ≡ Some s → list_any (λ u. u == t) (script_numbers ss) ≡ true)
        → ((x.number == t) || list_any (λ u. u == t) (script_numbers ss)) ≡ true
    go true i e more = or_left (x.number == t) (list_any (λ u. u == t) (script_numbers ss)) i
    go false i e more = or_right (x.number == t) (list_any (λ u. u == t) (script_numbers ss)) (more e)

-- ---- losses

abbrev is_loss : TxId → Act → Bool
is_loss t (act.Lost u) = u == t
is_loss t a = false

any-flat : (p : Act → Bool) (f : TxId → List Act) (t : TxId) (ts : List TxId) → list_any (λ u. u == t) ts ≡ true
    → list_any p (f t) ≡ true → list_any p (flat_map f ts) ≡ true
any-flat p f t [] h k = cc
any-flat p f t (u ∷ ts) h k = list_any-append p (f u) (flat_map f ts) ∙ elim (or_cases (u == t) (list_any (λ v. v == t) ts) h) [
  | inl here ↦ (let same : u ≡ t = grind (arith, nat_tests, here) in or_left (list_any p (f u)) (list_any p (flat_map f ts)) (subst (λ z. list_any p (f z) ≡ true) (sym same) k))
  | inr later ↦ or_right (list_any p (f u)) (list_any p (flat_map f ts)) (any-flat p f t ts later k)
]

-- t began
abbrev pub HasBegun : DocumentData → List Act → TxId → Type 0
HasBegun d past t = OfStory ⊥ (λ o values. Unit {0}) (story d past t)

-- who began, began
pub begun-more : (d : DocumentData) (past : List Act) (a : Act) (t : TxId) → AllDue d (a ∷ past) → HasBegun d past t
    → HasBegun d (a ∷ past) t
begun-more d past a t due k = of-more ⊥ (λ o values. Unit {0}) d past a t (λ n. absurd n) (λ op sid v w h. tt) due k

shut-later : (s : ScriptData) (d : DocumentData) (past acts : List Act) (t : TxId) → AllDue d (after past acts)
    → is_shut s (story d past t) ≡ true → is_shut s (story d (after past acts) t) ≡ true
shut-later s d past [] t due h = h
shut-later s d past (a ∷ acts) t due h = shut-later s d (a ∷ past) acts t due (shut-more s d past a t (due-before d (a ∷ past) acts due).0 h)

loss-shuts : (s : ScriptData) (d : DocumentData) (past : List Act) (a : Act) (t : TxId) → is_loss t a ≡ true
    → HasBegun d past t → is_shut s (story d (a ∷ past) t) ≡ true
loss-shuts s d past (act.Lost u) t h k = go (story d past t) k
  where
    go : (o : Option Story) → OfStory ⊥ (λ i values. Unit {0}) o
        → is_shut s (if_told (u == t) (λ x. record x { lost = true }) o) ≡ true
    go None k = absurd k
    go (Some x) k = rw h refl
loss-shuts s d past a t h k = cc

losses-shut : (s : ScriptData) (d : DocumentData) (past acts : List Act) (t : TxId) → AllDue d (after past acts)
    → HasBegun d past t → list_any (is_loss t) acts ≡ true → is_shut s (story d (after past acts) t) ≡ true
losses-shut s d past [] t due k h = cc
losses-shut s d past (a ∷ acts) t due k h =
    let now : AllDue d (a ∷ past) = due-before d (a ∷ past) acts due in
    elim (or_cases (is_loss t a) (list_any (is_loss t) acts) h) [
      | inl here ↦ shut-later s d (a ∷ past) acts t due (loss-shuts s d past a t here k)
      | inr later ↦ losses-shut s d (a ∷ past) acts t due (begun-more d past a t now k) later
    ]

-- each transaction of a home that is opened, which began
pub opened-settles : (d : DocumentData) (past : List Act) (n : NodeId) (f : Flag) (s : ScriptData)
    → AllDue d (after past (opened_row d past n f)) → script_of s.number d.scripts ≡ Some s → s.home ≡ n
    → HasBegun d past s.number → is_settled d (after past (opened_row d past n f)) s ≡ true
opened-settles d past n f s due is home begun = go (is_settled d now s) refl (story d now s.number) refl here
  where
    now : List Act
    now = act.Up n f ∷ past

    acts : List Act
    acts = losses d now n

    here : HasBegun d now s.number
    here = begun-more d past (act.Up n f) s.number (due-before d now acts due) begun

    go : (b : Bool) → is_settled d now s ≡ b → (o : Option Story) → story d now s.number ≡ o
        → OfStory ⊥ (λ i values. Unit {0}) o → is_settled d (after now acts) s ≡ true
    go true e o told k = settled-later d now acts s due e
    go false e None told k = absurd k
    go false e (Some x) told k =
        let unended : is_open (phase d now s) ≡ true = unsettled-open d now s x told e in
        let same : (s.home == n) ≡ true = grind (arith, nat_tests, home) in
        let P : Option ScriptData → Type 0 = λ o. list_any (is_loss s.number) (lost_at d now n o) ≡ true in
        let Q : Bool → Type 0 = λ b. list_any (is_loss s.number) (if b then act.Lost s.number ∷ [] else []) ≡ true in
        let loses : list_any (is_loss s.number) (lost_at d now n (script_of s.number d.scripts)) ≡ true = subst P (sym is) (subst Q (sym (and_from (s.home == n) (is_open (phase d now s)) same unended)) (or_left (s.number == s.number) false (same-number s.number))) in
        let among : list_any (λ u. u == s.number) (number_order (script_numbers d.scripts)) ≡ true = fold-among s.number [] (script_numbers d.scripts) (script-among s.number d.scripts s is) in
        or_left (is_shut s (story d (after now acts) s.number)) (is_some (decision s.number (journal d (after now acts) s.home))) (losses-shut s d now acts s.number due here (any-flat (is_loss s.number) (λ t. lost_at d now n (script_of t d.scripts)) s.number (number_order (script_numbers d.scripts)) among loses))
