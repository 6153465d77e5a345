-- The rows of a home: what it gives for its transactions is due.
use Rattle.std.proofs.Common.{◌≡◌, ℕ, ◌+◌, Bool, true, false, List, [], ◌∷◌, ◌++◌, Option, Some, None, refl, sym, subst, arith}
use Rattle.std.proofs.lemmas.Bool.Decides.{nat_tests}
use Rattle.std.specs.Prelude.{filter, map, slice_get, nat_lt}
use Rattle.score_base.specs.declared.ids.TxId.{TxId}
use Rattle.score_base.specs.declared.ids.NodeId.{NodeId}
use Rattle.score_base.specs.declared.ids.Ident.{Ident}
use Rattle.score_base.specs.declared.ids.Value.{Value}
use Rattle.score_base.specs.declared.causes.Outcome.TheVariants as outcome
use Rattle.script_lang.specs.declared.scripts.Op.{Op}
use Rattle.script_lang.specs.Scripts.{ScriptData}
use Rattle.script_lang.specs.Reads.{key_of, is_update}
use Rattle.placement.specs.Places.{is_among, preferred}
use Rattle.grid_model.specs.declared.acts.Act.{Act}
use Rattle.grid_model.specs.declared.acts.Act.TheVariants as act
use Rattle.grid_model.specs.declared.events.Out.{Out}
use Rattle.grid_model.specs.declared.events.Out.TheVariants as out
use Rattle.grid_model.specs.declared.messages.Message.{Message}
use Rattle.grid_model.specs.declared.messages.Message.TheVariants as message
use Rattle.grid_model.specs.declared.stories.Story.{Story}
use Rattle.grid_model.specs.Sessions.{floor_at, first_at, is_busy_at}
use Rattle.grid_model.specs.Documents.{DocumentData}
use Rattle.journal_words.specs.Journals.{Decision, decision, undone}
use Rattle.grid_model.specs.Nodes.{node, journal, script_of, parts_of}
use Rattle.grid_model.specs.Stories.{phase_at, is_open, story, begun_in, over_at}
use Rattle.script_runs.specs.Waits.{waiting}
use Rattle.grid_model.specs.Views.{Stage, Apart, Reads, Collects, Commits, open_of, stage, view, participant}
use Rattle.grid_model.specs.Advances.{advance, advance_end, prepare_for, prepares, request, request_of, to_node}
use Rattle.script_runs.specs.Walks.{op_at, own_reads, unread}
use Rattle.grid_model.specs.Rows.{begin_outs, not_voted, not_among, retry_outs, tells}
use Rattle.grid_model.proofs.Undecided.{script-number}
use Rattle.grid_laws.proofs.Causes.{by_home, IsUp, AtHome, SendDue, by_reads}
use Rattle.grid_laws.proofs.Frames.{same-number}
use Rattle.grid_laws.proofs.OpenPhases.{open-begun}
use Rattle.grid_laws.proofs.Stages.{Opens, among-get, among-filter, holds-preferred, opens-reads, opens-collects, stage-commits}
use Rattle.grid_laws.proofs.DueActs.{OutsDue}

-- ---- requests and Prepares

due-to_node : (d : DocumentData) (past : List Act) (n : NodeId) (m : ℕ) (w : Option NodeId) (said : Message)
    → ((y : NodeId) → w ≡ Some y → SendDue d past n y said) → OutsDue d past n m (to_node w said)
due-to_node d past n m None said go = tt
due-to_node d past n m (Some y) said go = (go y refl, tt)

due-request_of : (d : DocumentData) (past : List Act) (n : NodeId) (m : ℕ) (s : ScriptData) (x : Story) (j q : ℕ)
    (o : Option Op) → AtHome d past n s.number s x → waiting s.ops x.progress.values ≡ Some j → op_at s.ops j ≡ o
    → OutsDue d past n m (request_of d.cluster (open_of s x) j q o)
due-request_of d past n m s x j q None at reads named = tt
due-request_of d past n m s x j q (Some o) at reads named =
    due-to_node d past n m (slice_get (preferred d.cluster.places s.home (key_of o)) q) _
    (λ y e. record {
      script = s;
      story = x;
      at = at;
      reads = reads;
      op = o;
      named = named;
      key = refl;
      holds = holds-preferred d.cluster.places s.home (key_of o) y (among-get (preferred d.cluster.places s.home (key_of o)) q y e);
      date = refl;
    })

pub due-request : (d : DocumentData) (past : List Act) (n : NodeId) (m : ℕ) (s : ScriptData) (x : Story) (j q : ℕ)
    → AtHome d past n s.number s x → waiting s.ops x.progress.values ≡ Some j
    → OutsDue d past n m (request d.cluster (open_of s x) j q)
due-request d past n m s x j q at reads = due-request_of d past n m s x j q (op_at s.ops j) at reads refl

pub due-prepares : (d : DocumentData) (past : List Act) (n : NodeId) (m : ℕ) (s : ScriptData) (x : Story)
    (ns : List NodeId) → AtHome d past n s.number s x → waiting s.ops x.progress.values ≡ None → is_update s.ops ≡ true
    → ((y : NodeId) → is_among y ns ≡ true → is_among y (parts_of d s) ≡ true)
    → OutsDue d past n m (prepares d.cluster (open_of s x) ns)
due-prepares d past n m s x [] at full update parts = tt
due-prepares d past n m s x (y ∷ ns) at full update parts = (
  record { script = s; story = x; at = at; full = full; update = update; part = parts y (grind (arith, nat_tests)); is = refl },
  due-prepares d (act.Sent m n y (message.Prepare (prepare_for d.cluster (open_of s x) y)) ∷ past) n (m + 1) s x ns (record { script = at.script; home = at.home; story = at.story }) full update (λ z i. parts z (grind (arith, i))),
)

-- ---- Advance

due-owns : (d : DocumentData) (past : List Act) (n : NodeId) (m : ℕ) (t u : TxId) (s : ScriptData) (x : Story)
    (ys : List (ℕ × Value)) (rest : List Out) → AtHome d past n u s x
    → is_open (phase_at s (Some x) (node d past n)) ≡ true → ((now : List Act) → AtHome d now n u s x
    → is_open (phase_at s (Some x) (node d now n)) ≡ true → OutsDue d now n m rest)
    → OutsDue d past n m (map (λ y. out.Act (act.Own t y.0 y.1)) ys ++ rest)
due-owns d past n m t u s x [] rest at unended go = go past at unended
due-owns d past n m t u s x (y ∷ ys) rest at unended go = (tt, due-owns d (act.Own t y.0 y.1 ∷ past) n m t u s x ys rest (record { script = at.script; home = at.home; story = at.story }) unended go)

due-end : (d : DocumentData) (past : List Act) (n : NodeId) (m : ℕ) (s : ScriptData) (x : Story) (w : Option ℕ)
    (b : Bool) → AtHome d past n s.number s x → is_open (phase_at s (Some x) (node d past n)) ≡ true
    → waiting s.ops x.progress.values ≡ w → is_update s.ops ≡ b
    → OutsDue d past n m (advance_end d.cluster (open_of s x) w)
due-end d past n m s x (Some j) b at unended reads update = due-request d past n m s x j 0 at reads
due-end d past n m s x None true at unended reads update = rw update (due-prepares d past n m s x (parts_of d s) at reads update (λ y i. i))
due-end d past n m s x None false at unended reads update = rw update (by_reads (record { n = n; script = s; story = x; at = at; unended = rw (at.home, at.story) unended; full = reads; reader = update }), tt)

pub due-advance : (d : DocumentData) (past : List Act) (n : NodeId) (m : ℕ) (s : ScriptData) (x : Story) (i : ℕ)
    → AtHome d past n s.number s x → is_open (phase_at s (Some x) (node d past n)) ≡ true
    → OutsDue d past n m (advance d.cluster (open_of s x) i)
due-advance d past n m s x i at unended =
    due-owns d past n m s.number s.number s x (filter (λ y. nat_lt i y.0) (own_reads 1 [] unread x.progress.values s.ops)) (advance_end d.cluster (open_of s x) (waiting s.ops x.progress.values)) at unended
    (λ now at' open'. due-end d now n m s x (waiting s.ops x.progress.values) (is_update s.ops) at' open' refl refl)

-- ---- a begin

pub story-began : (d : DocumentData) (past : List Act) (t : TxId) (n : NodeId) (sid0 : Ident)
    → story d (act.Began t n sid0 ∷ past) t ≡ Some (begun_in d (node d past) t sid0)
story-began d past t n sid0 = rw (same-number t) refl

pub due-begin : (d : DocumentData) (past : List Act) (m : ℕ) (s : ScriptData) → script_of s.number d.scripts ≡ Some s
    → IsUp d past s.home → story d past s.number ≡ None → is_busy_at d past s ≡ false
    → decision s.number (journal d past s.home) ≡ None
    → OutsDue d past s.home m (begin_outs s.home (participant (view d past s.home)) s (floor_at d past s))
due-begin d past m s is up new quiet none =
    let sid0 : Ident = first_at d past s in (
      record { script = s; is = is; home = refl; up = up; new = new; undecided = none; quiet = quiet; ident = refl },
      due-advance d (act.Began s.number s.home sid0 ∷ past) s.home m s (begun_in d (node d past) s.number sid0) 0 (record { script = is; home = refl; story = story-began d past s.number s.home sid0 }) (open-begun s (over_at (node d past) (script_of s.number d.scripts)) sid0 (node d past s.home) none),
    )

-- ---- retries

-- a read-only transaction whose reads all have their values was answered
abbrev pub ReadersAnswered : DocumentData → List Act → Type 0
ReadersAnswered d past =
    (t : TxId) (s : ScriptData) (x : Story) → script_of t d.scripts ≡ Some s → story d past t ≡ Some x
    → waiting s.ops x.progress.values ≡ None → is_update s.ops ≡ false → x.finished ≡ true

-- an open transaction that was not answered is an update
pub open-update : (d : DocumentData) (past : List Act) (n : NodeId) (s : ScriptData) (x : Story) (b : Bool)
    → is_update s.ops ≡ b → is_open (phase_at s (Some x) (node d past n)) ≡ true
    → (is_update s.ops ≡ false → x.finished ≡ true) → is_update s.ops ≡ true
open-update d past n s x true e unended told = e
open-update d past n s x false e unended told = absurd (closes (told e))
  where
    closes : x.finished ≡ true → ⊥
    closes done = grind (arith, unended, e, done)

pub at-number : (d : DocumentData) (past : List Act) (n : NodeId) (t : TxId) (s : ScriptData) (x : Story)
    → AtHome d past n t s x → AtHome d past n s.number s x
at-number d past n t s x at = let P : TxId → Type 0 = λ u. AtHome d past n u s x in subst P (sym (script-number t d.scripts s at.script)) at

pub due-tells : (d : DocumentData) (past : List Act) (n : NodeId) (m : ℕ) (t : TxId) (y : Decision) (ns : List NodeId)
    → undone t (journal d past n) ≡ Some y → OutsDue d past n m (tells t (outcome.Commit y.final) ns)
due-tells d past n m t y [] is = tt
due-tells d past n m t y (x ∷ ns) is = (by_home y is refl, due-tells d (act.Sent m n x (message.Tell t (outcome.Commit y.final)) ∷ past) n (m + 1) t y ns is)

pub due-retry : (d : DocumentData) (past : List Act) (n : NodeId) (m : ℕ) (t : TxId) (g : Stage)
    → ReadersAnswered d past → stage (view d past n) t ≡ g → OutsDue d past n m (retry_outs d.cluster t g)
due-retry d past n m t (Reads x j) answered e =
    let o : Opens d past n t x (Some j) = opens-reads d past n t x j e in
    rw o.is (due-request d past n m o.script o.story j o.story.progress.turn (at-number d past n t o.script o.story o.at) o.reads)
due-retry d past n m t (Collects x) answered e =
    let o : Opens d past n t x None = opens-collects d past n t x e in
    let update : is_update o.script.ops ≡ true = open-update d past n o.script o.story (is_update o.script.ops) refl o.unended (answered t o.script o.story o.at.script o.at.story o.reads) in
    rw o.is (due-prepares d past n m o.script o.story (not_voted (parts_of d o.script) o.story.progress.votes) (at-number d past n t o.script o.story o.at) o.reads update (λ y i. among-filter _ (parts_of d o.script) y i))
due-retry d past n m t (Commits y acks) answered e = due-tells d past n m t y (not_among y.parts acks) (stage-commits d past n t y acks e)
due-retry d past n m t Apart answered e = tt
