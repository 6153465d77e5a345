-- A node that is opened loses its open transactions: each loss is due, in the order of their numbers.
use Rattle.std.proofs.lemmas.Bool.{and_parts}
use Rattle.std.proofs.Common.{ℕ, ◌≡◌, ◌<◌, Bool, true, false, List, [], ◌∷◌, ◌++◌, Option, Some, None, refl, sym, subst, ◌∙◌, arith}
use Rattle.std.proofs.lemmas.Bool.Decides.{nat_tests}
use Rattle.std.specs.Prelude.{◌==◌, ◌&&◌, fold, if◌then◌else◌}
use Rattle.std.specs.List.{flat_map}
use Rattle.std.specs.Ordering.{match_ordering, nat_cmp}
use Rattle.std.specs.declared.cmp.Ordering.{Ordering}
use Rattle.std.specs.declared.cmp.Ordering.TheVariants.{Less, Equal, Greater}
use Rattle.std.specs.BTreeSet.{insert_key}
use Rattle.score_base.specs.declared.ids.TxId.{TxId}
use Rattle.score_base.specs.declared.ids.NodeId.{NodeId}
use Rattle.script_lang.specs.Scripts.{ScriptData}
use Rattle.grid_model.specs.declared.acts.Act.{Act}
use Rattle.grid_model.specs.declared.acts.Act.TheVariants as act
use Rattle.grid_model.specs.declared.acts.Flag.{Flag}
use Rattle.grid_model.specs.declared.stories.Story.{Story}
use Rattle.grid_model.specs.Documents.{DocumentData, number_order, script_numbers}
use Rattle.journal_words.specs.Journals.{later_decision}
use Rattle.journal_words.proofs.Later.{later-more}
use Rattle.grid_model.proofs.Growing.{journal-before}
use Rattle.grid_model.specs.Nodes.{Node, node, script_of}
use Rattle.grid_model.specs.Stories.{story, phase, is_open, if_told, skipped_in}
use Rattle.grid_model.specs.Schedules.{lost_at, losses}
use Rattle.grid_model.specs.Claims.{was_open}
use Rattle.grid_model.proofs.Undecided.{script-number}
use Rattle.grid_laws.proofs.Causes.{AreDue, LostDue}
use Rattle.grid_laws.proofs.Frames.{same-number}
use Rattle.grid_laws.proofs.OpenPhases.{open-there, open-undecided}

-- ---- rising numbers

abbrev AllOver : TxId → List TxId → Type 0
AllOver t [] = Unit {0}
AllOver t (u ∷ us) = (t < u) × AllOver t us

abbrev pub AreRising : List TxId → Type 0
AreRising [] = Unit {0}
AreRising (t ∷ ts) = AllOver t ts × AreRising ts

over-more : (t u : TxId) (us : List TxId) → t < u → AllOver u us → AllOver t us
over-more t u [] le h = tt
over-more t u (v ∷ us) le h = (omega (arith, h.0), over-more t u us le h.1)

over-insert : (t k : TxId) (ks : List TxId) → t < k → AllOver t ks → AllOver t (insert_key nat_cmp ks k)
over-insert t k [] le h = (le, tt)
over-insert t k (x ∷ xs) le h = by (nat_cmp k x) (over-insert t k xs le h.1)
  where
    by : (r : Ordering) → AllOver t (insert_key nat_cmp xs k)
        → AllOver t (match_ordering r (k ∷ x ∷ xs) (x ∷ xs) (x ∷ insert_key nat_cmp xs k))
    by Less i = (le, h)
    by Equal i = h
    by Greater i = (h.0, i)

rising-insert : (k : TxId) (ks : List TxId) → AreRising ks → AreRising (insert_key nat_cmp ks k)
rising-insert k [] h = (tt, tt)
rising-insert k (x ∷ xs) h = by (nat_cmp k x) refl (rising-insert k xs h.1)
  where
    by : (r : Ordering) → nat_cmp k x ≡ r → AreRising (insert_key nat_cmp xs k)
        → AreRising (match_ordering r (k ∷ x ∷ xs) (x ∷ xs) (x ∷ insert_key nat_cmp xs k))
    by Less e i = let below : k < x = grind (arith, nat_tests, e) in ((below, over-more k x xs below h.0), h)
    by Equal e i = h
    by Greater e i = let above : x < k = grind (arith, nat_tests, e) in (over-insert x k xs above h.0, i)

rising-fold : (ks ts : List TxId) → AreRising ks → AreRising (fold (insert_key nat_cmp) ks ts)
rising-fold ks [] h = h
rising-fold ks (t ∷ ts) h = rising-fold (insert_key nat_cmp ks t) ts (rising-insert t ks h)

-- ---- one loss

-- open behind an Up, it was open before
open-before : (d : DocumentData) (past : List Act) (n : NodeId) (f : Flag) (s : ScriptData)
    → is_open (phase d (act.Up n f ∷ past) s) ≡ true → is_open (phase d past s) ≡ true
open-before d past n f s e =
    let h : Node = node d past s.home in
    let k : ℕ = skipped_in (story d past s.number) in
    let none : later_decision k s.number (node d (act.Up n f ∷ past) s.home).journal ≡ None = open-undecided s (story d past s.number) (node d (act.Up n f ∷ past) s.home) e in
    open-there s (story d past s.number) (node d (act.Up n f ∷ past) s.home) h e (journal-before (λ r. later_decision k s.number r ≡ None) (λ x r i. later-more k s.number x r i) d past (act.Up n f) s.home none)

was-open : (d : DocumentData) (past : List Act) (n : NodeId) (f : Flag) (t : TxId) (s : ScriptData)
    → script_of t d.scripts ≡ Some s → s.home ≡ n → is_open (phase d (act.Up n f ∷ past) s) ≡ true
    → was_open d t (act.Up n f ∷ past) ≡ true
was-open d past n f t s is home e =
    let here : (s.home == n) ≡ true = grind (arith, nat_tests) in
    let before : is_open (phase d past s) ≡ true = open-before d past n f s e in
    rw (is, here, before) refl

abbrev AllSame : DocumentData → List Act → List Act → List TxId → Type 0
AllSame d up now [] = Unit {0}
AllSame d up now (t ∷ ts) = (story d now t ≡ story d up t) × AllSame d up now ts

-- what the losses since an Up left: the nodes, and the stories of these transactions
record Behind (d : DocumentData) (up now : List Act) (ts : List TxId) : Type 0 where
  nodes : (k : NodeId) → node d now k ≡ node d up k
  stories : AllSame d up now ts
  opened : (t : TxId) → was_open d t now ≡ was_open d t up

untold : (b : Bool) (f : Story → Story) (o : Option Story) → b ≡ false → if_told b f o ≡ o
untold b f None e = refl
untold b f (Some x) e = rw e refl

same-later : (d : DocumentData) (up now : List Act) (t : TxId) (ts : List TxId) → AllOver t ts → AllSame d up now ts
    → AllSame d up (act.Lost t ∷ now) ts
same-later d up now t [] over same = tt
same-later d up now t (u ∷ us) over same =
    let below : t < u = over.0 in
    let other : (t == u) ≡ false = grind (arith, nat_tests) in
    (untold (t == u) (λ x. record x { lost = true }) (story d now u) other ∙ same.0, same-later d up now t us over.1 same.1)

behind-lost : (d : DocumentData) (up now : List Act) (t : TxId) (ts : List TxId) → AllOver t ts
    → Behind d up now (t ∷ ts) → Behind d up (act.Lost t ∷ now) ts
behind-lost d up now t ts over b = record { nodes = b.nodes; stories = same-later d up now t ts over b.stories.1; opened = b.opened }

same-all : (d : DocumentData) (up : List Act) (ts : List TxId) → AllSame d up up ts
same-all d up [] = tt
same-all d up (t ∷ ts) = (refl, same-all d up ts)

up-here : (d : DocumentData) (past : List Act) (n : NodeId) (f : Flag) → (node d (act.Up n f ∷ past) n).up ≡ true
up-here d past n f = rw (same-number n) refl

lost-due : (d : DocumentData) (past now : List Act) (n : NodeId) (f : Flag) (t : TxId) (s : ScriptData) (ts : List TxId)
    → Behind d (act.Up n f ∷ past) now (t ∷ ts) → script_of t d.scripts ≡ Some s → s.number ≡ t → s.home ≡ n
    → is_open (phase d (act.Up n f ∷ past) s) ≡ true → LostDue d now t
lost-due d past now n f t s ts b is number home e =
    let up : List Act = act.Up n f ∷ past in
    let here : node d now s.home ≡ node d up s.home = b.nodes s.home in
    let P : TxId → Type 0 = λ u. story d now u ≡ story d up u in
    let told : story d now s.number ≡ story d up s.number = subst P (sym number) b.stories.0 in
    let Q : NodeId → Type 0 = λ k. (node d up k).up ≡ true in
    let running : (node d up s.home).up ≡ true = subst Q (sym home) (up-here d past n f) in
    record {
      script = s;
      is = is;
      number = number;
      up = rw here running;
      unended = rw (told, here) e;
      opened = b.opened t ∙ was-open d past n f t s is home e;
    }

due-lose : (d : DocumentData) (past now : List Act) (n : NodeId) (f : Flag) (ts : List TxId) → AreRising ts
    → Behind d (act.Up n f ∷ past) now ts
    → AreDue d now (flat_map (λ t. lost_at d (act.Up n f ∷ past) n (script_of t d.scripts)) ts)
due-lose d past now n f [] rises b = tt
due-lose d past now n f (t ∷ ts) rises b = one (script_of t d.scripts) refl (λ now' b'. due-lose d past now' n f ts rises.1 b')
  where
    up : List Act
    up = act.Up n f ∷ past

    rest : List Act
    rest = flat_map (λ t. lost_at d up n (script_of t d.scripts)) ts

    kept : Behind d up now ts
    kept = record { nodes = b.nodes; stories = b.stories.1; opened = b.opened }

    test : (s : ScriptData) (c : Bool) → script_of t d.scripts ≡ Some s → s.number ≡ t
        → ((s.home == n) && is_open (phase d up s)) ≡ c → ((now' : List Act) → Behind d up now' ts → AreDue d now' rest)
        → AreDue d now ((if c then act.Lost s.number ∷ [] else []) ++ rest)
    test s true is number e more =
        let parts = and_parts (s.home == n) (is_open (phase d up s)) e in
        let here : (s.home == n) ≡ true = parts.0 in
        let home : s.home ≡ n = grind (arith, nat_tests) in
        let P : TxId → Type 0 = λ u. AreDue d now (act.Lost u ∷ rest) in
        subst P (sym number) (lost-due d past now n f t s ts b is number home parts.1, more (act.Lost t ∷ now) (behind-lost d up now t ts rises.0 b))
    test s false is number e more = more now kept

    one : (o : Option ScriptData) → script_of t d.scripts ≡ o
        → ((now' : List Act) → Behind d up now' ts → AreDue d now' rest) → AreDue d now (lost_at d up n o ++ rest)
    one None is more = more now kept
    one (Some s) is more = test s ((s.home == n) && is_open (phase d up s)) is (script-number t d.scripts s is) refl more

-- the losses behind an Up are due
pub due-losses : (d : DocumentData) (past : List Act) (n : NodeId) (f : Flag)
    → AreDue d (act.Up n f ∷ past) (losses d (act.Up n f ∷ past) n)
due-losses d past n f = due-lose d past (act.Up n f ∷ past) n f (number_order (script_numbers d.scripts)) (rising-fold [] (script_numbers d.scripts) tt) (record { nodes = λ k. refl; stories = same-all d (act.Up n f ∷ past) (number_order (script_numbers d.scripts)); opened = λ t. refl })
