-- The seven shapes of an event: what the row of each item is behind a past, by what the disks choose.
-- What holds of each shape holds of each row, so that an item more opens this file alone.
use Rattle.std.proofs.Common.{is_some, not, ◌≡◌, ℕ, Bool, true, false, List, [], ◌∷◌, ◌++◌, Option, Some, None, refl, sym, subst, if◌then◌else◌}
use Rattle.std.specs.List.{list_all}
use Rattle.score_base.specs.declared.ids.TxId.{TxId}
use Rattle.score_base.specs.declared.ids.NodeId.{NodeId}
use Rattle.script_lang.specs.Scripts.{ScriptData}
use Rattle.grid_model.specs.declared.acts.Act.{Act}
use Rattle.grid_model.specs.declared.acts.Act.TheVariants as act
use Rattle.grid_model.specs.declared.events.Out.{Out}
use Rattle.grid_model.specs.declared.items.Item.{Item}
use Rattle.grid_model.specs.declared.items.Item.TheVariants as item
use Rattle.grid_model.specs.declared.messages.Envelope.{Envelope}
use Rattle.grid_model.specs.declared.stories.Story.{Story}
use Rattle.grid_model.specs.Documents.{DocumentData}
use Rattle.grid_model.specs.Histories.{after, sent, sent_at}
use Rattle.grid_model.specs.Nodes.{node, script_of}
use Rattle.grid_model.specs.Stories.{story}
use Rattle.grid_model.specs.Views.{participant, view, stage}
use Rattle.grid_model.specs.Disks.{is_compacting}
use Rattle.grid_model.specs.Rows.{compact_outs, ask_peer_outs, answer, begin_outs, retry_outs, ask_outs}
use Rattle.journal_words.specs.Journals.{pending}
use Rattle.grid_model.specs.Sessions.{floor_at, is_busy_at}
use Rattle.grid_model.specs.Schedules.{Choice, acts_of, begin_row, deliver_row, drop_row, flag_at, next_left, next_row, opened_row, or_void, retry_row, row}
use Rattle.grid_model.proofs.Undecided.{script-number}

-- an act that changes nothing
abbrev pub is_idle : Act → Bool
is_idle (act.Void code) = true
is_idle (act.Missed m) = true
is_idle (act.Dropped m) = true
is_idle a = false

-- what holds of each idle act holds of idle acts
pub idle-pass : (f : Act → Bool) → ((code : ℕ) → f (act.Void code) ≡ true) → ((m : ℕ) → f (act.Missed m) ≡ true)
    → ((m : ℕ) → f (act.Dropped m) ≡ true) → (acts : List Act) → list_all is_idle acts ≡ true → list_all f acts ≡ true
idle-pass f void missed dropped [] is = refl
idle-pass f void missed dropped (act.Void code ∷ acts) is = rw (void code) (idle-pass f void missed dropped acts is)
idle-pass f void missed dropped (act.Missed m ∷ acts) is = rw (missed m) (idle-pass f void missed dropped acts is)
idle-pass f void missed dropped (act.Dropped m ∷ acts) is = rw (dropped m) (idle-pass f void missed dropped acts is)
idle-pass f void missed dropped (a ∷ acts) is = cc

-- what a home sends again, what a node asks, or a compaction
pub data IsAgain (d : DocumentData) (past : List Act) (n : NodeId) (os : List Out) : Type 0 where
  retries : (t : TxId) → os ≡ retry_outs d.cluster t (stage (view d past n) t) → IsAgain d past n os
  asks : (t : TxId) → os ≡ ask_outs (participant (view d past n)) t → IsAgain d past n os
  asks_peer : (t : TxId) (m : NodeId) → os ≡ ask_peer_outs (participant (view d past n)) t m → IsAgain d past n os
  compacts : os ≡ compact_outs n → IsAgain d past n os

-- an item is an event of one of these shapes behind a past
pub data Shape (d : DocumentData) (past : List Act) (i : Item) : Type 0 where
  idle : (acts : List Act) → list_all is_idle acts ≡ true → Shape d past i
  arms : (n : NodeId) (k how : ℕ) → i ≡ item.Fuse n k how → Shape d past i
  crashes : (n : NodeId) → (node d past n).up ≡ true → Shape d past i
  restarts : (n : NodeId) → (node d past n).up ≡ false → Shape d past i
  begins : (s : ScriptData) → script_of s.number d.scripts ≡ Some s → story d past s.number ≡ None
      → (node d past s.home).up ≡ true → is_busy_at d past s ≡ false → Shape d past i
  delivers : (m : ℕ) (e : Envelope) → sent_at m (sent past) ≡ Some e → (node d past e.to).up ≡ true → Shape d past i
  again : (n : NodeId) (os : List Out) → (node d past n).up ≡ true → IsAgain d past n os → Shape d past i

-- the acts of an event of this shape, by what the disks choose
abbrev pub acts_by : (d : DocumentData) (past : List Act) (i : Item) → Choice → Shape d past i → List Act
acts_by d past i c (idle acts is) = acts
acts_by d past i c (arms n k how is) = act.Armed n k how ∷ []
acts_by d past i c (crashes n up) = act.Down n None ∷ []
acts_by d past i c (restarts n up) =
    if c.opens then opened_row d past n (flag_at (is_compacting past n) (node d past n).doubt c.finds)
    else act.StillDown n ∷ []
acts_by d past i c (begins s is new up quiet) =
    acts_of past c s.home (begin_outs s.home (participant (view d past s.home)) s (floor_at d past s))
acts_by d past i c (delivers m e is up) =
    act.Got m ∷ acts_of past c e.to (answer e.to (view d past e.to) e.from e.message)
acts_by d past i c (again n os up is) = acts_of past c n os

-- these acts, by what the disks choose, are those of an event of one shape
pub record IsShaped (d : DocumentData) (past : List Act) (i : Item) (acts : Choice → List Act) : Type 0 where
  pub shape : Shape d past i
  pub same : (c : Choice) → acts c ≡ acts_by d past i c shape

-- ---- each row has a shape

alone : (d : DocumentData) (past : List Act) (i : Item) (a : Act) → is_idle a ≡ true → IsShaped d past i (λ c. a ∷ [])
alone d past i a is = record { shape = idle (a ∷ []) (rw is refl); same = λ c. refl }

none : (d : DocumentData) (past : List Act) (i : Item) → IsShaped d past i (λ c. [])
none d past i = record { shape = idle [] refl; same = λ c. refl }

begin-shaped : (d : DocumentData) (past : List Act) (i : Item) (s : ScriptData) (b busy : Bool)
    → script_of s.number d.scripts ≡ Some s → story d past s.number ≡ None → (node d past s.home).up ≡ b
    → is_busy_at d past s ≡ busy
    → IsShaped d past i (λ c. if not b then act.Void 2 ∷ [] else (if busy then act.Void 9 ∷ []
    else acts_of past c s.home (begin_outs s.home (participant (view d past s.home)) s (floor_at d past s))))
begin-shaped d past i s true false is new up quiet = record { shape = begins s is new up quiet; same = λ c. refl }
begin-shaped d past i s true true is new up quiet = alone d past i (act.Void 9) refl
begin-shaped d past i s false busy is new up quiet = alone d past i (act.Void 2) refl

begin_row-shaped : (d : DocumentData) (past : List Act) (i : Item) (t : TxId) (x : Option Story) (s : Option ScriptData)
    → story d past t ≡ x → script_of t d.scripts ≡ s → IsShaped d past i (λ c. begin_row d past c x s)
begin_row-shaped d past i t (Some x) s new is = alone d past i (act.Void 1) refl
begin_row-shaped d past i t None None new is = none d past i
begin_row-shaped d past i t None (Some s) new is =
    let number : t ≡ s.number = sym (script-number t d.scripts s is) in
    let P : TxId → Type 0 = λ u. script_of u d.scripts ≡ Some s in
    let Q : TxId → Type 0 = λ u. story d past u ≡ None in
    begin-shaped d past i s (node d past s.home).up (is_busy_at d past s) (subst P number is) (subst Q number new) refl refl

deliver-shaped : (d : DocumentData) (past : List Act) (i : Item) (m : ℕ) (e : Envelope) (b : Bool)
    → sent_at m (sent past) ≡ Some e → (node d past e.to).up ≡ b
    → IsShaped d past i (λ c. if b
    then act.Got m ∷ acts_of past c e.to (answer e.to (view d past e.to) e.from e.message) else act.Missed m ∷ [])
deliver-shaped d past i m e true is up = record { shape = delivers m e is up; same = λ c. refl }
deliver-shaped d past i m e false is up = alone d past i (act.Missed m) refl

deliver_row-shaped : (d : DocumentData) (past : List Act) (i : Item) (m : ℕ) (o : Option Envelope)
    → sent_at m (sent past) ≡ o → IsShaped d past i (λ c. deliver_row d past c m o)
deliver_row-shaped d past i m None is = alone d past i (act.Void 3) refl
deliver_row-shaped d past i m (Some e) is = deliver-shaped d past i m e (node d past e.to).up is refl

drop_row-shaped : (d : DocumentData) (past : List Act) (i : Item) (m : ℕ) (o : Option Envelope)
    → IsShaped d past i (λ c. drop_row m o)
drop_row-shaped d past i m None = alone d past i (act.Void 3) refl
drop_row-shaped d past i m (Some e) = alone d past i (act.Dropped m) refl

next_row-shaped : (d : DocumentData) (past : List Act) (i : Item) (o : Option ℕ)
    → IsShaped d past i (λ c. next_row d past c o)
next_row-shaped d past i None = alone d past i (act.Void 4) refl
next_row-shaped d past i (Some m) = deliver_row-shaped d past i m (sent_at m (sent past)) refl

-- outs that a node gives where it is up: nothing is void with this code, and so is a node that is down with that one
again-shaped : (d : DocumentData) (past : List Act) (i : Item) (n : NodeId) (os : List Out) (code down : ℕ) (b : Bool)
    → (node d past n).up ≡ b → IsAgain d past n os
    → IsShaped d past i (λ c. if b then or_void code os (acts_of past c n os) else act.Void down ∷ [])
again-shaped d past i n [] code down true up is = alone d past i (act.Void code) refl
again-shaped d past i n (o ∷ os) code down true up is = record { shape = again n (o ∷ os) up is; same = λ c. refl }
again-shaped d past i n os code down false up is = alone d past i (act.Void down) refl

peer-shaped : (d : DocumentData) (past : List Act) (i : Item) (n : NodeId) (t : TxId) (m : NodeId)
    (b pending_there : Bool)
    → (node d past n).up ≡ b
    → IsShaped d past i (λ c. if not b then act.Void 6 ∷ [] else (if not pending_there then act.Void 6 ∷ [] else or_void
    10 (ask_peer_outs (participant (view d past n)) t m)
    (acts_of past c n (ask_peer_outs (participant (view d past n)) t m))))
peer-shaped d past i n t m false pending_there up = alone d past i (act.Void 6) refl
peer-shaped d past i n t m true false up = alone d past i (act.Void 6) refl
peer-shaped d past i n t m true true up = go (ask_peer_outs (participant (view d past n)) t m) refl
  where
    go : (os : List Out) → os ≡ ask_peer_outs (participant (view d past n)) t m
        → IsShaped d past i (λ c. or_void 10 os (acts_of past c n os))
    go [] is = alone d past i (act.Void 10) refl
    go (o ∷ os) is = record { shape = again n (o ∷ os) up (asks_peer t m is); same = λ c. refl }

retry_at-shaped : (d : DocumentData) (past : List Act) (i : Item) (t : TxId) (o : Option ScriptData)
    → IsShaped d past i (λ c. retry_row d past c t o)
retry_at-shaped d past i t None = none d past i
retry_at-shaped d past i t (Some s) =
    again-shaped d past i s.home (retry_outs d.cluster t (stage (view d past s.home) t)) 5 2 (node d past s.home).up refl (retries t refl)

crash_row-shaped : (d : DocumentData) (past : List Act) (i : Item) (n : NodeId) (b : Bool)
    → (node d past n).up ≡ b → IsShaped d past i (λ c. if b then act.Down n None ∷ [] else act.Void 7 ∷ [])
crash_row-shaped d past i n true up = record { shape = crashes n up; same = λ c. refl }
crash_row-shaped d past i n false up = alone d past i (act.Void 7) refl

restart_row-shaped : (d : DocumentData) (past : List Act) (i : Item) (n : NodeId) (b : Bool) → (node d past n).up ≡ b
    → IsShaped d past i (λ c. if b then act.Void 8 ∷ [] else
    (if c.opens then opened_row d past n (flag_at (is_compacting past n) (node d past n).doubt c.finds)
    else act.StillDown n ∷ []))
restart_row-shaped d past i n true up = alone d past i (act.Void 8) refl
restart_row-shaped d past i n false up = record { shape = restarts n up; same = λ c. refl }

-- the row of an item has a shape
pub row-shaped : (d : DocumentData) (past : List Act) (i : Item) → IsShaped d past i (row d past i)
row-shaped d past (item.Begin t) = begin_row-shaped d past (item.Begin t) t (story d past t) (script_of t d.scripts) refl refl
row-shaped d past (item.Deliver m) = deliver_row-shaped d past (item.Deliver m) m (sent_at m (sent past)) refl
row-shaped d past (item.Drop m) = drop_row-shaped d past (item.Drop m) m (sent_at m (sent past))
row-shaped d past (item.Next k) = next_row-shaped d past (item.Next k) (next_left past)
row-shaped d past (item.Retry t) = retry_at-shaped d past (item.Retry t) t (script_of t d.scripts)
row-shaped d past (item.Ask n t) =
    again-shaped d past (item.Ask n t) n (ask_outs (participant (view d past n)) t) 6 6 (node d past n).up refl (asks t refl)
row-shaped d past (item.AskPeer n t m) =
    peer-shaped d past (item.AskPeer n t m) n t m (node d past n).up (is_some (pending t (node d past n).journal)) refl
row-shaped d past (item.Crash n how) = crash_row-shaped d past (item.Crash n how) n (node d past n).up refl
row-shaped d past (item.Fuse n k how) = record { shape = arms n k how refl; same = λ c. refl }
row-shaped d past (item.Restart n) = restart_row-shaped d past (item.Restart n) n (node d past n).up refl
row-shaped d past (item.Compact n) =
    again-shaped d past (item.Compact n) n (compact_outs n) 11 11 (node d past n).up refl (compacts refl)

-- what holds of the acts of each shape holds of each row
pub by-shape : (d : DocumentData) (past : List Act) (i : Item) (c : Choice) (P : List Act → Type 0)
    → ((s : Shape d past i) → P (acts_by d past i c s)) → P (row d past i c)
by-shape d past i c P each = let is = row-shaped d past i in subst P (sym (is.same c)) (each is.shape)

-- the acts of an event, and those of the events behind it
pub after-append : (past xs ys : List Act) → after past (xs ++ ys) ≡ after (after past xs) ys
after-append past [] ys = refl
after-append past (a ∷ xs) ys = after-append (a ∷ past) xs ys
