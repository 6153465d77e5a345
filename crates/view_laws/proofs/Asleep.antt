-- A node that is down holds no read, and no acknowledgement of its transactions is taken.
use Rattle.std.proofs.Common.{◌≡◌, ℕ, Bool, true, false, ◌==◌, List, [], ◌∷◌, Option, Some, None, refl, sym, ap, subst, ◌∙◌, inl, inr, arith, if◌then◌else◌}
use Rattle.std.proofs.lemmas.Bool.{and_parts, cases_eq}
use Rattle.std.proofs.lemmas.Bool.Decides.{nat_tests}
use Rattle.std.specs.Prelude.{map}
use Rattle.std.specs.List.{flat_map, list_all, range_with_len}
use Rattle.score_base.specs.declared.ids.TxId.{TxId}
use Rattle.score_base.specs.declared.ids.NodeId.{NodeId}
use Rattle.score_base.specs.declared.ids.Ident.{Ident}
use Rattle.score_base.specs.declared.keys.Key.{Key}
use Rattle.score_base.specs.declared.records.Record.{Record}
use Rattle.script_lang.specs.Scripts.{ScriptData}
use Rattle.grid_model.specs.declared.acts.Act.{Act}
use Rattle.grid_model.specs.declared.acts.Act.TheVariants as act
use Rattle.grid_model.specs.declared.acts.Flag.{Flag}
use Rattle.grid_model.specs.declared.acts.Flag.TheVariants as flag
use Rattle.grid_model.specs.declared.acts.Head.{Head}
use Rattle.grid_model.specs.declared.events.Out.{Out}
use Rattle.grid_model.specs.declared.items.Item.{Item}
use Rattle.grid_model.specs.declared.messages.Envelope.{Envelope}
use Rattle.grid_model.specs.declared.messages.Message.{Message}
use Rattle.grid_model.specs.declared.messages.Message.TheVariants as message
use Rattle.grid_model.specs.declared.stories.Story.{Story}
use Rattle.grid_model.specs.Documents.{DocumentData, number_order, script_numbers}
use Rattle.grid_model.specs.Disks.{is_compacting}
use Rattle.grid_model.specs.Histories.{after}
use Rattle.grid_model.specs.Nodes.{Change, Nothing, Writes, Raises, Holds, Frees, Stops, Starts, Stays, Node, changed, freed, got, held_by, is_home, is_home_in, is_request, node, said_by, script_of, where_at, without_read}
use Rattle.grid_model.specs.Rows.{answer, begin_outs}
use Rattle.grid_model.specs.Runs.{IsRun, Rows}
use Rattle.grid_model.specs.Schedules.{Choice, acts_of, events_in, flag_at, next_number, opened_row, row, start_act, start_row}
use Rattle.grid_model.specs.Sessions.{floor_at}
use Rattle.grid_model.specs.Stories.{heard_at, if_told, progressed, story, with_request, with_value, without_answers}
use Rattle.grid_model.specs.Views.{acks_by, participant, view}
use Rattle.grid_model.proofs.EventShapes.{Shape, idle, arms, crashes, restarts, begins, delivers, again, acts_by, after-append, by-shape, idle-pass}
use Rattle.grid_laws.proofs.Causes.{AllDue, IsDue}
use Rattle.grid_laws.proofs.Frames.{up-stays}
use Rattle.grid_laws.proofs.DueActs.{due-before}
use Rattle.grid_laws.proofs.RowOuts.{Pass, is_of_row, pass-acts, pass-again, pass-answer, pass-begin, pass-losses}
use Rattle.grid_laws.proofs.RunsDue.{due-run}

-- ---- the node

-- a node that is down holds none of these reads
abbrev pub HoldsNone : Node → Type 0
HoldsNone x = x.up ≡ false → x.held ≡ []

-- a read is held where the node is up, and an opening fails where it is down
abbrev Fits : Change → Node → Type 0
Fits (Holds o) x = x.up ≡ true
Fits Stays x = x.up ≡ false
Fits c x = Unit {0}

never-both : {A : Type 0} (b : Bool) → b ≡ true → b ≡ false → A
never-both true is not = cc
never-both false is not = cc

none-changed : (c : Change) (x : Node) → Fits c x → HoldsNone x → HoldsNone (changed c x)
none-changed Nothing x f h = h
none-changed (Writes o) x f h = h
none-changed (Raises sid) x f h = h
none-changed (Holds o) x f h = λ down. never-both x.up f down
none-changed (Frees t op k sid) x f h = λ down. ap (without_read t op k sid) (h down)
none-changed (Stops o) x f h = λ down. refl
none-changed (Starts kept) x f h = λ down. cc
none-changed Stays x f h = λ down. h f

none-where : (b : Bool) (c : Change) (x : Node) → (b ≡ true → Fits c x) → HoldsNone x →
    HoldsNone (changed (where_at b c) x)
none-where true c x f h = none-changed c x (f refl) h
none-where false c x f h = h

-- a node that fails to open was down
abbrev pub IsStill : DocumentData → List Act → Act → Type 0
IsStill d past (act.StillDown m) = (node d past m).up ≡ false
IsStill d past a = Unit {0}

freed-fits : (b : Bool) (t : TxId) (op : ℕ) (k : Key) (sid : Ident) (x : Node) → Fits (freed b t op k sid) x
freed-fits true t op k sid x = tt
freed-fits false t op k sid x = tt

pub at-node : (m n : NodeId) → (m == n) ≡ true → m ≡ n
at-node m n is = grind (arith, nat_tests, is)

none-more : (d : DocumentData) (past : List Act) (a : Act) (n : NodeId) → IsDue d past a → IsStill d past a →
    HoldsNone (node d past n) → HoldsNone (node d (a ∷ past) n)
none-more d past (act.Held m t op sid) n due still h =
    none-where (m == n) (Holds (held_by (got past) t op sid)) (node d past n)
    (λ is. subst (λ k. (node d past k).up ≡ true) (at-node m n is) due.2.up) h
none-more d past (act.StillDown m) n due still h =
    none-where (m == n) Stays (node d past n) (λ is. subst (λ k. (node d past k).up ≡ false) (at-node m n is) still) h
none-more d past (act.Served m t op k sid vn v) n due still h =
    none-where (m == n) (freed (is_request (said_by (got past))) t op k sid) (node d past n)
    (λ is. freed-fits (is_request (said_by (got past))) t op k sid (node d past n)) h
none-more d past (act.Prepared m t p) n due still h = none-where (m == n) _ (node d past n) (λ is. tt) h
none-more d past (act.Ended m t o) n due still h = none-where (m == n) _ (node d past n) (λ is. tt) h
none-more d past (act.Ceiling m c) n due still h = none-where (m == n) _ (node d past n) (λ is. tt) h
none-more d past (act.Decided t f) n due still h = none-where (is_home d t n) _ (node d past n) (λ is. tt) h
none-more d past (act.Closed t) n due still h = none-where (is_home d t n) _ (node d past n) (λ is. tt) h
none-more d past (act.Raised m sid) n due still h = none-where (m == n) (Raises sid) (node d past n) (λ is. tt) h
none-more d past (act.Down m o) n due still h = none-where (m == n) _ (node d past n) (λ is. tt) h
none-more d past (act.Up m f) n due still h = none-where (m == n) _ (node d past n) (λ is. tt) h
none-more d past a n due still h = h

-- ---- the stories

-- no acknowledgement of a transaction of node n is taken
abbrev pub TakesNone : DocumentData → List Act → NodeId → Type 0
TakesNone d past n = (t : TxId) → is_home d t n ≡ true → acks_by (story d past t) ≡ []

kept-acks : (b : Bool) (f : Story → Story) (o : Option Story) → ((x : Story) → (f x).acks ≡ x.acks) →
    acks_by (if_told b f o) ≡ acks_by o
kept-acks b f None same = refl
kept-acks true f (Some x) same = same x
kept-acks false f (Some x) same = refl

forgotten-acks : (b : Bool) (o : Option Story) → acks_by o ≡ [] → acks_by (if_told b without_answers o) ≡ []
forgotten-acks b None e = e
forgotten-acks true (Some x) e = refl
forgotten-acks false (Some x) e = e

began-acks : (b : Bool) (x : Story) (o : Option Story) → x.acks ≡ [] → acks_by o ≡ [] →
    acks_by (if b then Some x else o) ≡ []
began-acks true x o e h = e
began-acks false x o e h = h

-- the home of a transaction is one node
pub one-home : (d : DocumentData) (t : TxId) (s : ScriptData) (n : NodeId) → script_of t d.scripts ≡ Some s →
    is_home d t n ≡ true → s.home ≡ n
one-home d t s n is home =
    let here : is_home_in (Some s) n ≡ true = subst (λ o. is_home_in o n ≡ true) is home in at-node s.home n here

-- a message that comes to another node tells nothing of it
pub heard-other : (d : DocumentData) (past : List Act) (t : TxId) (n : NodeId) (e : Envelope) (o : Option Story) →
    is_home d t n ≡ true → (e.to == n) ≡ false → heard_at d past (script_of t d.scripts) (Some e) o ≡ o
heard-other d past t n e o home other = go (script_of t d.scripts) refl
  where
    go : (so : Option ScriptData) → script_of t d.scripts ≡ so → heard_at d past so (Some e) o ≡ o
    go None is = refl
    go (Some s) is =
        let at : s.home ≡ n = one-home d t s n is home in
        let apart : (e.to == s.home) ≡ false = subst (λ k. (e.to == k) ≡ false) (sym at) other in
        rw apart refl

got-acks : (d : DocumentData) (past : List Act) (m : ℕ) (n : NodeId) → (node d past n).up ≡ false →
    IsDue d past (act.Got m) → TakesNone d past n → TakesNone d (act.Got m ∷ past) n
got-acks d past m n down due h t home =
    let e : Envelope = due.0 in
    let other : (e.to == n) ≡ false = elim (cases_eq e.to n) [
      | inl same ↦ never-both (node d past n).up (subst (λ k. (node d past k).up ≡ true) same due.2) down
      | inr apart ↦ (grind (arith, nat_tests, apart))
    ] in
    ap acks_by (ap (λ o. heard_at d past (script_of t d.scripts) o (story d past t)) due.1
    ∙ heard-other d past t n e (story d past t) home other)
    ∙ h t home

sent-acks : (d : DocumentData) (past : List Act) (k : ℕ) (x y : NodeId) (said : Message) (t : TxId) →
    acks_by (story d (act.Sent k x y said ∷ past) t) ≡ acks_by (story d past t)
sent-acks d past k x y (message.ReadReq q) t =
    kept-acks (q.t == t) (progressed (with_request _)) (story d past t) (λ z. refl)
sent-acks d past k x y said t = refl

-- an act that is no stop, opening or message that comes, behind which the node is as up as before
takes-more : (d : DocumentData) (past : List Act) (a : Act) (n : NodeId) → (node d past n).up ≡ false →
    IsDue d past a → TakesNone d past n → TakesNone d (a ∷ past) n
takes-more d past (act.Began u m sid0) n down due h = λ t home. began-acks (u == t) _ (story d past t) refl (h t home)
takes-more d past (act.Sent k x y said) n down due h = λ t home. sent-acks d past k x y said t ∙ h t home
takes-more d past (act.Got m) n down due h = got-acks d past m n down due h
takes-more d past (act.Taken u j sid v) n down due h =
    λ t home. kept-acks (u == t) (progressed (with_value j sid v)) (story d past t) (λ z. refl) ∙ h t home
takes-more d past (act.Finished u) n down due h =
    λ t home. kept-acks (u == t) (λ x. record x { finished = true }) (story d past t) (λ z. refl) ∙ h t home
takes-more d past (act.Aborted u m c) n down due h =
    λ t home. kept-acks (u == t) (λ x. record x { aborted = true }) (story d past t) (λ z. refl) ∙ h t home
takes-more d past (act.Lost u) n down due h =
    λ t home. kept-acks (u == t) (λ x. record x { lost = true }) (story d past t) (λ z. refl) ∙ h t home
takes-more d past (act.Down m o) n down due h =
    λ t home. forgotten-acks (is_home d t m) (story d past t) (h t home)
takes-more d past a n down due h = h

-- a stop of n itself
stops-none : (d : DocumentData) (past : List Act) (n : NodeId) (o : Option Head) → TakesNone d (act.Down n o ∷ past) n
stops-none d past n o t home = go (story d past t)
  where
    go : (x : Option Story) → acks_by (if_told (is_home d t n) without_answers x) ≡ []
    go None = refl
    go (Some x) = rw home refl

-- ---- asleep

-- where node n is down it holds no read, and no acknowledgement of its transactions is taken
pub record IsAsleep (d : DocumentData) (past : List Act) (n : NodeId) : Type 0 where
  pub held : HoldsNone (node d past n)
  pub acks : (node d past n).up ≡ false → TakesNone d past n

-- down behind an act that does not stop it, a node was down before
up-where : (b : Bool) (o : Option Record) (x : Node) → (b ≡ true → ⊥) → (changed (where_at b (Stops o)) x).up ≡ x.up
up-where true o x not = absurd (not refl)
up-where false o x not = refl

acks-more : (d : DocumentData) (past : List Act) (a : Act) (n : NodeId) → IsDue d past a → IsStill d past a →
    ((node d past n).up ≡ false → TakesNone d past n) → (node d (a ∷ past) n).up ≡ false → TakesNone d (a ∷ past) n
acks-more d past (act.Down m o) n due still h down = elim (cases_eq m n) [
  | inl same ↦ subst (λ k. TakesNone d (act.Down k o ∷ past) n) (sym same) (stops-none d past n o)
  | inr apart ↦
      let other : (m == n) ≡ false = grind (arith, nat_tests, apart) in
      let was : (node d past n).up ≡ false = rw other at down in
      takes-more d past (act.Down m o) n was due (h was)
]
acks-more d past (act.Up m f) n due still h down = elim (cases_eq m n) [
  | inl same ↦
      let at : (m == n) ≡ true = grind (arith, nat_tests, same) in
      let up : (node d (act.Up m f ∷ past) n).up ≡ true = rw at refl in
      never-both (node d (act.Up m f ∷ past) n).up up down
  | inr apart ↦
      let other : (m == n) ≡ false = grind (arith, nat_tests, apart) in
      let was : (node d past n).up ≡ false = rw other at down in
      takes-more d past (act.Up m f) n was due (h was)
]
acks-more d past (act.StillDown m) n due still h down = elim (cases_eq m n) [
  | inl same ↦
      let was : (node d past n).up ≡ false = subst (λ k. (node d past k).up ≡ false) same still in
      takes-more d past (act.StillDown m) n was due (h was)
  | inr apart ↦
      let other : (m == n) ≡ false = grind (arith, nat_tests, apart) in
      let was : (node d past n).up ≡ false = rw other at down in
      takes-more d past (act.StillDown m) n was due (h was)
]
acks-more d past a n due still h down =
    let was : (node d past n).up ≡ false = sym (up-stays d past a n refl) ∙ down in
    takes-more d past a n was due (h was)

asleep-more : (d : DocumentData) (past : List Act) (a : Act) (n : NodeId) → IsDue d past a → IsStill d past a →
    IsAsleep d past n → IsAsleep d (a ∷ past) n
asleep-more d past a n due still h = record {
  held = none-more d past a n due still h.held;
  acks = acks-more d past a n due still h.acks;
}

-- ---- lists of acts

abbrev AreStill : DocumentData → List Act → List Act → Type 0
AreStill d past [] = Unit {0}
AreStill d past (a ∷ acts) = IsStill d past a × AreStill d (a ∷ past) acts

asleep-acts : (d : DocumentData) (past acts : List Act) (n : NodeId) → AllDue d (after past acts) →
    AreStill d past acts → IsAsleep d past n → IsAsleep d (after past acts) n
asleep-acts d past [] n due still h = h
asleep-acts d past (a ∷ acts) n due still h =
    asleep-acts d (a ∷ past) acts n due still.1
    (asleep-more d past a n (due-before d (a ∷ past) acts due).0 still.0 h)

-- no opening that fails
abbrev is_no_failure : Act → Bool
is_no_failure (act.StillDown m) = false
is_no_failure a = true

no-failure : (d : DocumentData) (past : List Act) (a : Act) → is_no_failure a ≡ true → IsStill d past a
no-failure d past (act.StillDown m) h = cc
no-failure d past a h = tt

still-pass : (d : DocumentData) (past acts : List Act) → list_all is_no_failure acts ≡ true → AreStill d past acts
still-pass d past [] h = tt
still-pass d past (a ∷ acts) h =
    let parts = and_parts (is_no_failure a) (list_all is_no_failure acts) h in
    (no-failure d past a parts.0, still-pass d (a ∷ past) acts parts.1)

outs-still : (d : DocumentData) (past before : List Act) (c : Choice) (n : NodeId) (os : List Out) →
    Pass is_no_failure os → AreStill d before (acts_of past c n os)
outs-still d past before c n os h =
    still-pass d before (acts_of past c n os)
    (pass-acts is_no_failure n (λ k y said. refl) (λ x. refl) (next_number past) c.keeps os h)

of-row : (n : NodeId) (said : Message) (a : Act) → is_of_row n said a ≡ true → is_no_failure a ≡ true
of-row n said (act.StillDown m) h = h
of-row n said a h = refl

restart-still : (d : DocumentData) (past : List Act) (n : NodeId) (f : Flag) (opens : Bool) →
    (node d past n).up ≡ false →
    AreStill d past (if opens then opened_row d past n f else act.StillDown n ∷ [])
restart-still d past n f true down =
    still-pass d past (opened_row d past n f)
    (pass-losses is_no_failure d (act.Up n f ∷ past) n (number_order (script_numbers d.scripts)) (λ t. refl))
restart-still d past n f false down = (down, tt)

shape-still : (d : DocumentData) (past : List Act) (i : Item) (c : Choice) (s : Shape d past i) →
    AreStill d past (acts_by d past i c s)
shape-still d past i c (idle acts is) =
    still-pass d past acts (idle-pass is_no_failure (λ k. refl) (λ m. refl) (λ m. refl) acts is)
shape-still d past i c (arms n k how is) = (tt, tt)
shape-still d past i c (crashes n up) = (tt, tt)
shape-still d past i c (restarts n down) =
    restart-still d past n (flag_at (is_compacting past n) (node d past n).doubt c.finds) c.opens down
shape-still d past i c (begins s is new up quiet) =
    outs-still d past past c s.home (begin_outs s.home (participant (view d past s.home)) s (floor_at d past s))
    (pass-begin is_no_failure (λ t m sid0. refl) (λ t j v. refl) (λ t. refl) s.home
    (participant (view d past s.home)) s (floor_at d past s))
shape-still d past i c (delivers m e is up) = (
  tt,
  outs-still d past (act.Got m ∷ past) c e.to (answer e.to (view d past e.to) e.from e.message)
      (pass-answer is_no_failure e.to (view d past e.to) e.from e.message (of-row e.to e.message)),
)
shape-still d past i c (again n os up is) =
    outs-still d past past c n os (pass-again is_no_failure (λ m. refl) d past n os is)

-- ---- runs

asleep-rows : (d : DocumentData) (past : List Act) (es : List Item) (h : List Act) (n : NodeId) →
    AllDue d (after past h) → Rows d past es h → IsAsleep d past n → IsAsleep d (after past h) n
unfolding Rows
asleep-rows d past [] h n due rows is = rw rows is
asleep-rows d past (e ∷ es) h n due rows is =
    let acts : List Act = row d past e rows.0 in
    let split : after past h ≡ after (after past acts) rows.1 =
    ap (after past) rows.2 ∙ after-append past acts rows.1 in
    let all : AllDue d (after (after past acts) rows.1) = subst (AllDue d) split due in
    let still : AreStill d past acts = by-shape d past e rows.0 (AreStill d past) (shape-still d past e rows.0) in
    let now : IsAsleep d (after past acts) n =
    asleep-acts d past acts n (due-before d (after past acts) rows.1 all) still is in
    subst (λ p. IsAsleep d p n) (sym split) (asleep-rows d (after past acts) es rows.1 n all rows.3 now)

-- nothing happened to node n, and no transaction began
pub record IsFresh (d : DocumentData) (past : List Act) (n : NodeId) : Type 0 where
  pub journal : (node d past n).journal ≡ []
  pub next : (node d past n).next ≡ 0
  pub held : (node d past n).held ≡ []
  pub stories : (t : TxId) → story d past t ≡ None

fresh-up : (d : DocumentData) (past : List Act) (m n : NodeId) → IsFresh d past n →
    IsFresh d (act.Up m flag.Untouched ∷ past) n
fresh-up d past m n h = go (m == n) refl
  where
    go : (b : Bool) → (m == n) ≡ b → IsFresh d (act.Up m flag.Untouched ∷ past) n
    go true is = record {
      journal = rw is h.journal;
      next = rw (is, h.journal) refl;
      held = rw is h.held;
      stories = h.stories;
    }
    go false is = record {
      journal = rw is h.journal;
      next = rw is h.next;
      held = rw is h.held;
      stories = h.stories;
    }

fresh-fails : (d : DocumentData) (past : List Act) (m n : NodeId) → IsFresh d past n →
    IsFresh d (act.StillDown m ∷ past) n
fresh-fails d past m n h = go (m == n) refl
  where
    go : (b : Bool) → (m == n) ≡ b → IsFresh d (act.StillDown m ∷ past) n
    go true is = record {
      journal = rw is h.journal;
      next = rw is h.next;
      held = rw is h.held;
      stories = h.stories;
    }
    go false is = record {
      journal = rw is h.journal;
      next = rw is h.next;
      held = rw is h.held;
      stories = h.stories;
    }

fresh-starts : (d : DocumentData) (opens : NodeId → Bool) (past : List Act) (ms : List NodeId) (n : NodeId) →
    IsFresh d past n → IsFresh d (after past (map (start_act opens) ms)) n
fresh-starts d opens past [] n h = h
fresh-starts d opens past (m ∷ ms) n h = fresh-starts d opens (start_act opens m ∷ past) ms n (first (opens m))
  where
    first : (b : Bool) → IsFresh d ((if b then act.Up m flag.Untouched else act.StillDown m) ∷ past) n
    first true = fresh-up d past m n h
    first false = fresh-fails d past m n h

-- behind the start
pub fresh-start : (d : DocumentData) (opens : NodeId → Bool) (n : NodeId) →
    IsFresh d (after [] (start_row d.cluster.nodes opens)) n
fresh-start d opens n =
    fresh-starts d opens [] (range_with_len 1 d.cluster.nodes) n
    (record { journal = refl; next = refl; held = refl; stories = λ t. refl })

-- at the end of a run
pub asleep-run : (d : DocumentData) (items : List Item) (h : List Act) (n : NodeId) → IsRun d items h →
    IsAsleep d (after [] h) n
asleep-run d items h n run =
    let start : List Act = start_row d.cluster.nodes run.opens in
    let fresh = fresh-start d run.opens n in
    let split : after [] h ≡ after (after [] start) run.rest =
    ap (after []) run.start ∙ after-append [] start run.rest in
    let due : AllDue d (after (after [] start) run.rest) = subst (AllDue d) split (due-run d items h run) in
    subst (λ p. IsAsleep d p n) (sym split)
    (asleep-rows d (after [] start) (flat_map events_in items) run.rest n due run.rows (record {
      held = λ down. fresh.held;
      acks = λ down t home. ap acks_by (fresh.stories t);
    }))
