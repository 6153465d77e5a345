-- Each event leaves the held reads waiting, and each read that was held is held still, or answered, or its node
-- stopped.
use Rattle.cause_laws.proofs.Events.{Event, of-event}
use Rattle.grid_model.proofs.EventShapes.{Shape, acts_by, again, arms, begins, crashes, delivers, idle, restarts}
use Rattle.grid_model.specs.declared.items.Item.{Item}
use Rattle.cause_laws.proofs.HeldAnswers.{RowKept, nothing, outcome-row, request-row, this_read, unheld-row}
use Rattle.cause_laws.proofs.HeldNodes.{HoldsWaiting, IsKeptRead, has_read, is_serving, is_waiting_read, unheld-kept, waiting-later}
use Rattle.cause_laws.proofs.LocalActs.{local-acts, local-answer, local-later}
use Rattle.cause_laws.proofs.OpenStages.{fit-first}
use Rattle.cause_laws.proofs.UnheldOuts.{is_unheld, unheld-acts, unheld-advance, unheld-answer, unheld-idle}
use Rattle.grid_laws.proofs.RowOuts.{is_touching, pass-again, pass-losses}
use Rattle.cause_laws.proofs.VotesSent.{fit-row}
use Rattle.grid_laws.proofs.Frames.{held-stays}
use Rattle.grid_model.specs.Sessions.{floor_at, first_at}
use Rattle.grid_model.specs.Documents.{DocumentData, number_order, script_numbers}
use Rattle.grid_model.specs.Facts.{AllFit}
use Rattle.grid_model.specs.Fitness.{is_fit}
use Rattle.grid_model.specs.Histories.{after, sent, sent_at}
use Rattle.journal_words.specs.Journals.{commit_id, floor, is_clear}
use Rattle.grid_model.specs.Nodes.{Node, Starts, Stays, changed, found, got, is_kept, journal, node, where_at}
use Rattle.grid_model.specs.Rows.{answer, begin_outs, begun_at, ceiling_of, dated, version_for}
use Rattle.grid_model.specs.Disks.{is_compacting}
use Rattle.grid_model.specs.Schedules.{Choice, acts_of, flag_at, kept, losses, next_number, numbered, opened_row}
use Rattle.grid_model.specs.Views.{View, view, participant}
use Rattle.grid_model.specs.declared.acts.Act.TheVariants as act
use Rattle.grid_model.specs.declared.acts.Act.{Act}
use Rattle.grid_model.specs.declared.acts.Flag.{Flag}
use Rattle.grid_model.specs.declared.events.Out.{Out}
use Rattle.grid_model.specs.declared.messages.Envelope.{Envelope}
use Rattle.grid_model.specs.declared.messages.Message.TheVariants as message
use Rattle.grid_model.specs.declared.messages.Message.{Message}
use Rattle.grid_model.specs.declared.stories.HeldRead.{HeldRead}
use Rattle.score_base.specs.declared.ids.Ident.{Ident}
use Rattle.score_base.specs.declared.ids.NodeId.{NodeId}
use Rattle.score_base.specs.declared.ids.TxId.{TxId}
use Rattle.std.proofs.Common.{Bool, List, None, Some, [], arith, false, inl, inr, refl, subst, sym, true, ℕ, ◌∷◌, ◌≡◌, ◌≢◌}
use Rattle.std.proofs.lemmas.Bool.Decides.{nat_tests}
use Rattle.std.proofs.lemmas.Bool.{cases_eq, or_right}
use Rattle.std.specs.List.{list_all, list_any}
use Rattle.std.specs.Prelude.{nat_lt, ◌==◌, if◌then◌else◌}

-- the read that a message requests
abbrev pub mine_of : Message → TxId → ℕ → Bool
mine_of (message.ReadReq q) t j = this_read q t j
mine_of said t j = false

-- a message that is got leaves its node with reads that wait, and keeps, answers or takes up each
pub got-row : (d : DocumentData) (past : List Act) (g m : ℕ) (k x : NodeId) (said : Message) (b : Bool)
    → sent_at g (sent past) ≡ Some (record { from = x; to = k; message = said })
    → is_fit k (view d past k) x said ≡ true → (node d past k).up ≡ true → HoldsWaiting (node d past k)
    → RowKept d (act.Got g ∷ past) (numbered m k (kept b k (answer k (view d past k) x said))) k (mine_of said)
got-row d past g m k x (message.ReadReq q) b at fit up h =
    let v : View = view d past k in
    let sid : Ident = dated q.date (commit_id (journal d past k)) in
    let P : List Out → Type 0 = λ os. RowKept d (act.Got g ∷ past) (numbered m k (kept b k os)) k (this_read q) in
    subst P (sym (fit-row k x v (message.ReadReq q) fit)) (request-row d (act.Got g ∷ past) m k x q sid (ceiling_of sid) (version_for d.cluster (journal d past k) q.key sid) b (nat_lt (floor (journal d past k)) sid) (nat_lt (node d past k).next sid) (is_clear sid (journal d past k)) at refl up h)
got-row d past g m k x (message.Tell t o) b at fit up h =
    let P : List Out → Type 0 = λ os. RowKept d (act.Got g ∷ past) (numbered m k (kept b k os)) k nothing in
    subst P (sym (fit-row k x (view d past k) (message.Tell t o) fit)) (outcome-row d past g m k x t o b at up h)
got-row d past g m k x (message.ReadRep q) b at fit up h = unheld-row d (act.Got g ∷ past) m k b (answer k (view d past k) x (message.ReadRep q)) (unheld-answer k (view d past k) x (message.ReadRep q) refl) h
got-row d past g m k x (message.Prepare q) b at fit up h = unheld-row d (act.Got g ∷ past) m k b (answer k (view d past k) x (message.Prepare q)) (unheld-answer k (view d past k) x (message.Prepare q) refl) h
got-row d past g m k x (message.Vote t a) b at fit up h = unheld-row d (act.Got g ∷ past) m k b (answer k (view d past k) x (message.Vote t a)) (unheld-answer k (view d past k) x (message.Vote t a) refl) h
got-row d past g m k x (message.Ack t) b at fit up h = unheld-row d (act.Got g ∷ past) m k b (answer k (view d past k) x (message.Ack t)) (unheld-answer k (view d past k) x (message.Ack t) refl) h
got-row d past g m k x (message.Ask t) b at fit up h = unheld-row d (act.Got g ∷ past) m k b (answer k (view d past k) x (message.Ask t)) (unheld-answer k (view d past k) x (message.Ask t) refl) h
got-row d past g m k x (message.AskPeer t) b at fit up h = unheld-row d (act.Got g ∷ past) m k b (answer k (view d past k) x (message.AskPeer t)) (unheld-answer k (view d past k) x (message.AskPeer t) refl) h

-- ---- what an event leaves

-- held reads wait behind the event, and each read that was held before is held, or was answered, or its node stopped
pub record EventKept (d : DocumentData) (past acts : List Act) : Type 0 where
  pub holds : (n : NodeId) → HoldsWaiting (node d (after past acts) n)
  pub kept : (n : NodeId) (t : TxId) (j : ℕ) → has_read t j (node d past n).held ≡ true → IsKeptRead d past acts n t j

unheld-event : (d : DocumentData) (past acts : List Act) → list_all is_unheld acts ≡ true
    → ((n : NodeId) → HoldsWaiting (node d past n)) → EventKept d past acts
unheld-event d past acts u h = record { holds = λ n. waiting-later d past acts n u (h n); kept = λ n t j r. unheld-kept d past acts n t j u r }

stays-waiting : (b : Bool) (x : Node) → (b ≡ true → x.up ≡ false) → HoldsWaiting x
    → HoldsWaiting (changed (where_at b Stays) x)
stays-waiting true x down h = record { waits = h.waits; down = λ e. h.down (down refl) }
stays-waiting false x down h = h

starts-waiting : (b k : Bool) (x : Node) → (b ≡ true → x.up ≡ false) → HoldsWaiting x
    → HoldsWaiting (changed (where_at b (Starts k)) x)
starts-waiting true k x down h =
    let none : x.held ≡ [] = h.down (down refl) in
    let P : List HeldRead → Type 0 = λ hs. list_all (is_waiting_read (found k x.doubt x.journal)) hs ≡ true in
    record { waits = subst P (sym none) refl; down = λ e. none }
starts-waiting false k x down h = h

at-down : (d : DocumentData) (past : List Act) (m n : NodeId) → (node d past m).up ≡ false → (m == n) ≡ true
    → (node d past n).up ≡ false
at-down d past m n down e = let same : m ≡ n = grind (arith, nat_tests, e) in let P : NodeId → Type 0 = λ k. (node d past k).up ≡ false in subst P same down

failed-event : (d : DocumentData) (past : List Act) (m : NodeId) → (node d past m).up ≡ false
    → ((n : NodeId) → HoldsWaiting (node d past n)) → EventKept d past (act.StillDown m ∷ [])
failed-event d past m down h =
    record {
      holds = λ n. stays-waiting (m == n) (node d past n) (at-down d past m n down) (h n);
      kept = λ n t j r. let P : List HeldRead → Type 0 = λ hs. has_read t j hs ≡ true in subst P (sym (held-stays d (got past) (act.StillDown m) n (node d past n) refl)) r;
    }

opened-event : (d : DocumentData) (past : List Act) (m : NodeId) (f : Flag) → (node d past m).up ≡ false
    → ((n : NodeId) → HoldsWaiting (node d past n)) → EventKept d past (opened_row d past m f)
opened-event d past m f down h =
    let now : List Act = act.Up m f ∷ past in
    let u = pass-losses is_unheld d now m (number_order (script_numbers d.scripts)) (λ t. refl) in
    record {
      holds = λ n. waiting-later d now (losses d now m) n u (starts-waiting (m == n) (is_kept f) (node d past n) (at-down d past m n down) (h n));
      kept = λ n t j r. let P : List HeldRead → Type 0 = λ hs. has_read t j hs ≡ true in unheld-kept d now (losses d now m) n t j u (subst P (sym (held-stays d (got past) (act.Up m f) n (node d past n) refl)) r);
    }

got-event : (d : DocumentData) (past : List Act) (m : ℕ) (e : Envelope) (b : Bool) → sent_at m (sent past) ≡ Some e
    → is_fit e.to (view d past e.to) e.from e.message ≡ true → (node d past e.to).up ≡ true
    → ((n : NodeId) → HoldsWaiting (node d past n)) → EventKept d past
    (act.Got m ∷ numbered (next_number past) e.to (kept b e.to (answer e.to (view d past e.to) e.from e.message)))
got-event d past m e b at fit up h = go (is_touching e.message) refl
  where
    k : NodeId
    k = e.to

    os : List Out
    os = answer k (view d past k) e.from e.message

    rest : List Act
    rest = numbered (next_number past) k (kept b k os)

    row : RowKept d (act.Got m ∷ past) rest k (mine_of e.message)
    row = got-row d past m (next_number past) k e.from e.message b at fit up (h k)

    go : (c : Bool) → is_touching e.message ≡ c → EventKept d past (act.Got m ∷ rest)
    go false q = unheld-event d past (act.Got m ∷ rest) (unheld-acts (next_number past) k b os (unheld-answer k (view d past k) e.from e.message q)) h
    go true q =
        record {
          holds = λ n. elim (cases_eq k n) [
            | inl here ↦ (let P : NodeId → Type 0 = λ i. HoldsWaiting (node d (after (act.Got m ∷ past) rest) i) in subst P here row.holds)
            | inr other ↦ (let P : Node → Type 0 = λ z. HoldsWaiting z in subst P (sym (same n other)) (h n))
          ];
          kept = λ n t j r. elim (cases_eq k n) [
            | inl here ↦
                let P : NodeId → Type 0 = λ i. has_read t j (node d past i).held ≡ true in
                let Q : NodeId → Type 0 = λ i. IsKeptRead d (act.Got m ∷ past) rest i t j in
                subst Q here (row.kept t j (or_right (mine_of e.message t j) (has_read t j (node d past k).held) (subst P (sym here) r)))
            | inr other ↦
                let P : Node → Type 0 = λ z. has_read t j z.held ≡ true in
                or_right (list_any (is_serving n t j) rest) (has_read t j (node d (after (act.Got m ∷ past) rest) n).held) (subst P (sym (same n other)) r)
          ];
        }
      where
        same : (n : NodeId) → k ≢ n → node d (after (act.Got m ∷ past) rest) n ≡ node d past n
        same n other = local-later d (act.Got m ∷ past) rest k n (local-acts k (next_number past) b os (local-answer k (view d past k) e.from e.message q)) other

restart-event : (d : DocumentData) (past : List Act) (n : NodeId) (f : Flag) (opens : Bool) → (node d past n).up ≡ false
    → ((m : NodeId) → HoldsWaiting (node d past m))
    → EventKept d past (if opens then opened_row d past n f else act.StillDown n ∷ [])
restart-event d past n f true up h = opened-event d past n f up h
restart-event d past n f false up h = failed-event d past n up h

shape-kept : (d : DocumentData) (past : List Act) → ((n : NodeId) → HoldsWaiting (node d past n))
    → (i : Item) (c : Choice)
    (s : Shape d past i) → AllFit d (after past (acts_by d past i c s)) → EventKept d past (acts_by d past i c s)
shape-kept d past h i c (idle acts is) fit = unheld-event d past acts (unheld-idle acts is) h
shape-kept d past h i c (arms n k how is) fit = unheld-event d past (act.Armed n k how ∷ []) refl h
shape-kept d past h i c (crashes n up) fit = unheld-event d past (act.Down n None ∷ []) refl h
shape-kept d past h i c (restarts n up) fit =
    restart-event d past n (flag_at (is_compacting past n) (node d past n).doubt c.finds) c.opens up h
shape-kept d past h i c (begins s is new up quiet) fit = unheld-event d past (acts_of past c s.home (begin_outs s.home (participant (view d past s.home)) s (floor_at d past s))) (unheld-acts (next_number past) s.home c.keeps (begin_outs s.home (participant (view d past s.home)) s (floor_at d past s)) (unheld-advance d.cluster (begun_at s (first_at d past s)) 0)) h
shape-kept d past h i c (delivers m e is up) fit = got-event d past m e c.keeps is (fit-first d past m e (acts_of past c e.to (answer e.to (view d past e.to) e.from e.message)) is fit) up h
shape-kept d past h i c (again n os up is) fit =
    unheld-event d past (acts_of past c n os)
    (unheld-acts (next_number past) n c.keeps os (pass-again is_unheld (λ m. refl) d past n os is)) h

pub event-kept : (d : DocumentData) (past acts : List Act) → Event d past acts
    → ((n : NodeId) → HoldsWaiting (node d past n)) → EventKept d past acts
event-kept d past acts event h =
    of-event d past acts (λ z. AllFit d (after past z) → EventKept d past z) (shape-kept d past h) event.is event.fit
