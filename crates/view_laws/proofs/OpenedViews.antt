-- The view of a node that was opened: its records, and nothing that a stop forgets.
use Rattle.std.proofs.Common.{◌≡◌, Bool, true, false, ◌&&◌, ◌||◌, ◌==◌, List, [], ◌∷◌, Option, Some, None, is_some, refl, sym, ap, subst, ◌∙◌, inl, inr, arith, if◌then◌else◌}
use Rattle.std.proofs.lemmas.Bool.{or_cases, or_left, or_right}
use Rattle.std.proofs.lemmas.Bool.Decides.{nat_tests}
use Rattle.std.proofs.lemmas.List.Folds.{list_any-append}
use Rattle.std.specs.List.{flat_map, list_all, list_any}
use Rattle.score_base.specs.declared.ids.TxId.{TxId}
use Rattle.score_base.specs.declared.ids.NodeId.{NodeId}
use Rattle.score_base.specs.declared.records.Record.{Record}
use Rattle.script_lang.specs.Scripts.{ScriptData}
use Rattle.placement.specs.Clusters.{ClusterData}
use Rattle.journal_words.specs.Journals.{floor, undone}
use Rattle.journal_words.specs.Small.{AreAlike}
use Rattle.grid_model.specs.declared.acts.Act.{Act}
use Rattle.grid_model.specs.declared.acts.Act.TheVariants as act
use Rattle.grid_model.specs.declared.acts.Flag.{Flag}
use Rattle.grid_model.specs.declared.items.Item.{Item}
use Rattle.grid_model.specs.declared.stories.Story.{Story}
use Rattle.grid_model.specs.Documents.{DocumentData, number_order, script_numbers}
use Rattle.grid_model.specs.Histories.{after}
use Rattle.grid_model.specs.Nodes.{Node, Starts, changed, is_home, is_kept, journal, node, script_of, where_at}
use Rattle.grid_model.specs.Runs.{IsRun}
use Rattle.grid_model.specs.Schedules.{losses, lost_at, opened_row, start_row}
use Rattle.grid_model.specs.Stories.{if_told, is_open, phase, phase_at, story}
use Rattle.grid_model.specs.Views.{acks_at, acks_by, open_at, open_by, view}
use Rattle.grid_model.proofs.Undecided.{script-number}
use Rattle.grid_model.proofs.ViewSteps.{here, same-view}
use Rattle.grid_laws.proofs.RowOuts.{pass-losses}
use Rattle.presumed_abort.specs.Views.{opened_view}
use Rattle.view_laws.proofs.Asleep.{IsAsleep, asleep-run, fresh-start}
use Rattle.view_laws.proofs.ScriptNumbers.{in-order, is_in}

-- ---- alike records

pub alike-opened : (c : ClusterData) (r j : List Record) → AreAlike r j →
    opened_view c r ≡ record (opened_view c j) { journal = r }
alike-opened c r j a = ap (λ f. record (opened_view c r) { next = f }) a.clock

-- ---- the losses

abbrev is_loss : Act → Bool
is_loss (act.Lost t) = true
is_loss a = false

abbrev is_loss_of : TxId → Act → Bool
is_loss_of t (act.Lost u) = u == t
is_loss_of t a = false

abbrev lose : Story → Story
lose x = record x { lost = true }

losses-node : (d : DocumentData) (past acts : List Act) (n : NodeId) → list_all is_loss acts ≡ true →
    node d (after past acts) n ≡ node d past n
losses-node d past [] n h = refl
losses-node d past (act.Lost t ∷ acts) n h = losses-node d (act.Lost t ∷ past) acts n h
losses-node d past (a ∷ acts) n h = cc

twice : (a b : Bool) (o : Option Story) → if_told b lose (if_told a lose o) ≡ if_told (a || b) lose o
twice a b None = refl
twice true true (Some x) = refl
twice true false (Some x) = refl
twice false b (Some x) = refl

untold : (o : Option Story) → o ≡ if_told false lose o
untold None = refl
untold (Some x) = refl

losses-story : (d : DocumentData) (past acts : List Act) (t : TxId) → list_all is_loss acts ≡ true →
    story d (after past acts) t ≡ if_told (list_any (is_loss_of t) acts) lose (story d past t)
losses-story d past [] t h = untold (story d past t)
losses-story d past (act.Lost u ∷ acts) t h =
    losses-story d (act.Lost u ∷ past) acts t h ∙ twice (u == t) (list_any (is_loss_of t) acts) (story d past t)
losses-story d past (a ∷ acts) t h = cc

any-flat : (p : Act → Bool) (f : TxId → List Act) (t : TxId) (ts : List TxId) → is_in t ts ≡ true →
    list_any p (f t) ≡ true → list_any p (flat_map f ts) ≡ true
any-flat p f t [] h k = cc
any-flat p f t (u ∷ ts) h k =
    list_any-append p (f u) (flat_map f ts) ∙ elim (or_cases (u == t) (is_in t ts) h) [
      | inl same ↦
          (let eq : u ≡ t = grind (arith, nat_tests, same) in
          or_left (list_any p (f u)) (list_any p (flat_map f ts)) (subst (λ z. list_any p (f z) ≡ true) (sym eq) k))
      | inr later ↦ or_right (list_any p (f u)) (list_any p (flat_map f ts)) (any-flat p f t ts later k)
    ]

-- an open transaction of a node that is opened is among the losses
lost-open : (d : DocumentData) (up : List Act) (n : NodeId) (t : TxId) (s : ScriptData) →
    script_of t d.scripts ≡ Some s → (s.home == n) ≡ true → is_open (phase d up s) ≡ true →
    list_any (is_loss_of t) (losses d up n) ≡ true
lost-open d up n t s is home opened =
    any-flat (is_loss_of t) (λ u. lost_at d up n (script_of u d.scripts)) t
    (number_order (script_numbers d.scripts)) (in-order d t s is)
    (rw (is, home, opened, script-number t d.scripts s is, here t) refl)

-- ---- the desk and the acknowledgements

-- a transaction that was lost, or was not open, does not stand at the desk
shut : (s : ScriptData) (b : Bool) (h : Node) (o : Option Story) →
    (is_open (phase_at s o h) ≡ true → b ≡ true) →
    open_by s (phase_at s (if_told b lose o) h) (if_told b lose o) ≡ None
shut s b h None lost = refl
shut s true h (Some x) lost = refl
shut s false h (Some x) lost = go (is_open (phase_at s (Some x) h)) refl
  where
    go : (c : Bool) → is_open (phase_at s (Some x) h) ≡ c →
        open_by s (phase_at s (Some x) h) (Some x) ≡ None
    go true e = absurd (grind (arith, lost e))
    go false e = rw e refl

opened-desk : (d : DocumentData) (up now : List Act) (n : NodeId) (t : TxId) (so : Option ScriptData) →
    script_of t d.scripts ≡ so → node d now n ≡ node d up n →
    story d now t ≡ if_told (list_any (is_loss_of t) (losses d up n)) lose (story d up t) →
    open_at n (node d now n) so (story d now t) ≡ None
opened-desk d up now n t None is same told = refl
opened-desk d up now n t (Some s) is same told = go (s.home == n) refl
  where
    b : Bool
    b = list_any (is_loss_of t) (losses d up n)

    lost : (s.home == n) ≡ true → is_open (phase_at s (story d up t) (node d up n)) ≡ true → b ≡ true
    lost home opened =
        let at : s.home ≡ n = grind (arith, nat_tests, home) in
        let number : s.number ≡ t = script-number t d.scripts s is in
        let told : is_open (phase_at s (story d up s.number) (node d up n)) ≡ true =
        subst (λ u. is_open (phase_at s (story d up u) (node d up n)) ≡ true) (sym number) opened in
        lost-open d up n t s is home
        (subst (λ k. is_open (phase_at s (story d up s.number) (node d up k)) ≡ true) (sym at) told)

    go : (c : Bool) → (s.home == n) ≡ c →
        (if c then open_by s (phase_at s (story d now t) (node d now n)) (story d now t) else None) ≡ None
    go true home = rw (told, same) (shut s b (node d up n) (story d up t) (lost home))
    go false home = refl

lost-acks : (b : Bool) (o : Option Story) → acks_by (if_told b lose o) ≡ acks_by o
lost-acks b None = refl
lost-acks true (Some x) = refl
lost-acks false (Some x) = refl

no-acks : (d : DocumentData) (past : List Act) (n : NodeId) (h : Node) (t : TxId) (so : Option ScriptData)
    (o : Option Story) → script_of t d.scripts ≡ so → (is_home d t n ≡ true → acks_by o ≡ []) →
    acks_at n h t so o ≡ []
no-acks d past n h t None o is none = refl
no-acks d past n h t (Some s) o is none = go (s.home == n) refl (is_some (undone t h.journal))
  where
    go : (c : Bool) → (s.home == n) ≡ c → (u : Bool) → (if c && u then acks_by o else []) ≡ []
    go true home true = none (rw is home)
    go true home false = refl
    go false home u = refl

-- ---- the views

starts-next : (b kept : Bool) (x : Node) → b ≡ true →
    (changed (where_at b (Starts kept)) x).next ≡ floor (changed (where_at b (Starts kept)) x).journal
starts-next true kept x e = refl
starts-next false kept x e = cc

opened-next : (d : DocumentData) (past : List Act) (n : NodeId) (f : Flag) →
    (node d (act.Up n f ∷ past) n).next ≡ floor (journal d (act.Up n f ∷ past) n)
opened-next d past n f = starts-next (n == n) (is_kept f) (node d past n) (here n)

opened-held : (d : DocumentData) (past : List Act) (n : NodeId) (f : Flag) → (node d past n).held ≡ [] →
    (node d (act.Up n f ∷ past) n).held ≡ []
opened-held d past n f none = rw (here n) none

pub opened-is : (d : DocumentData) (past : List Act) (n : NodeId) (f : Flag) → IsAsleep d past n →
    (node d past n).up ≡ false →
    view d (after past (opened_row d past n f)) n ≡ opened_view d.cluster (journal d (act.Up n f ∷ past) n)
opened-is d past n f asleep down =
    let up : List Act = act.Up n f ∷ past in
    let now : List Act = after up (losses d up n) in
    let all : list_all is_loss (losses d up n) ≡ true =
    pass-losses is_loss d up n (number_order (script_numbers d.scripts)) (λ t. refl) in
    let same : node d now n ≡ node d up n = losses-node d up (losses d up n) n all in
    let told : (t : TxId) → story d now t ≡ if_told (list_any (is_loss_of t) (losses d up n)) lose (story d up t) =
    λ t. losses-story d up (losses d up n) t all in
    same-view _ _ refl (ap (λ (h : Node). h.journal) same) (ap (λ (h : Node). h.next) same ∙ opened-next d past n f)
    (ap (λ (h : Node). h.held) same ∙ opened-held d past n f (asleep.held down))
    (λ t. opened-desk d up now n t (script_of t d.scripts) refl same (told t))
    (λ t. no-acks d past n (node d now n) t (script_of t d.scripts) (story d now t) refl
    (λ home.
    ap acks_by (told t)
    ∙ lost-acks (list_any (is_loss_of t) (losses d up n)) (story d up t)
    ∙ asleep.acks down t home))

pub opened-run : (d : DocumentData) (items : List Item) (h : List Act) (n : NodeId) (f : Flag) → IsRun d items h →
    (node d (after [] h) n).up ≡ false →
    view d (after (after [] h) (opened_row d (after [] h) n f)) n
    ≡ opened_view d.cluster (journal d (act.Up n f ∷ after [] h) n)
opened-run d items h n f run down = opened-is d (after [] h) n f (asleep-run d items h n run) down

fresh-desk : (n : NodeId) (h : Node) (so : Option ScriptData) → open_at n h so None ≡ None
fresh-desk n h None = refl
fresh-desk n h (Some s) = go (s.home == n)
  where
    go : (c : Bool) → (if c then open_by s (phase_at s None h) None else None) ≡ None
    go true = refl
    go false = refl

pub opened-start : (d : DocumentData) (opens : NodeId → Bool) (n : NodeId) →
    view d (after [] (start_row d.cluster.nodes opens)) n ≡ opened_view d.cluster []
opened-start d opens n =
    let past : List Act = after [] (start_row d.cluster.nodes opens) in
    let fresh = fresh-start d opens n in
    same-view _ _ refl fresh.journal fresh.next fresh.held
    (λ t. ap (open_at n (node d past n) (script_of t d.scripts)) (fresh.stories t)
    ∙ fresh-desk n (node d past n) (script_of t d.scripts))
    (λ t. no-acks d past n (node d past n) t (script_of t d.scripts) (story d past t) refl
    (λ home. ap acks_by (fresh.stories t)))
