-- A Decided that stands has at most 16 parts: they are those of a script.
use Rattle.std.proofs.Common.{◌≡◌, ℕ, ◌≤◌, ◌==◌, Bool, true, false, List, [], ◌∷◌, length, refl, Option, Some, None, arith, if◌then◌else◌}
use Rattle.score_base.specs.declared.records.Record.{Record}
use Rattle.score_base.specs.declared.records.Record.TheVariants as record'
use Rattle.script_lang.specs.Scripts.{ScriptData}
use Rattle.script_lang.specs.Reads.{keys_of}
use Rattle.grid_model.specs.declared.acts.Act.{Act}
use Rattle.grid_model.specs.declared.acts.Act.TheVariants as act
use Rattle.grid_model.specs.declared.acts.Head.{Head}
use Rattle.grid_model.specs.declared.acts.Head.TheVariants as head
use Rattle.grid_model.specs.declared.messages.Envelope.{Envelope}
use Rattle.grid_model.specs.declared.messages.Message.{Message}
use Rattle.grid_model.specs.declared.messages.Message.TheVariants as message
use Rattle.grid_model.specs.Documents.{DocumentData}
use Rattle.journal_words.specs.Journals.{Decision, decision, is_closed, undone}
use Rattle.grid_model.specs.Nodes.{Node, node, got, Change, Writes, Stops, Starts, where_at, change, changed, freed, written, found, prepared_by, prepared_from, record_of, doubt_of, parts_in, script_of, is_home, is_kept, is_request, said_by}
use Rattle.grid_model.specs.Views.{Open, stage_by, open_stage}
use Rattle.script_runs.specs.Waits.{waiting}
use Rattle.count_laws.proofs.Counts.{IsShort, parts-short}

-- a Decided has at most 16 parts
abbrev IsShortRecord : Record → Type 0
IsShortRecord (record'.Decided t f parts) = length parts ≤ 16
IsShortRecord r = 0 ≤ 16

abbrev IsShortOption : Option Record → Type 0
IsShortOption None = 0 ≤ 16
IsShortOption (Some r) = IsShortRecord r

unfoldable AreShort : List Record → Type 0
AreShort [] = 0 ≤ 16
AreShort (x ∷ r) = IsShortRecord x × AreShort r

record IsShortNode (x : Node) : Type 0 where
  pub journal : AreShort x.journal
  pub doubt : IsShortOption x.doubt

short-parts : (d : DocumentData) (s : Option ScriptData) → length (parts_in d s) ≤ 16
short-parts d None = omega arith
short-parts d (Some s) = parts-short d.cluster.places (keys_of s.ops)

short-prepared : (x : ℕ) (said : Message) (t p : ℕ) → IsShortOption (prepared_from x said t p)
short-prepared x (message.Prepare q) t p = omega arith
short-prepared x said t p = omega arith

short-prepared_by : (e : Option Envelope) (t p : ℕ) → IsShortOption (prepared_by e t p)
short-prepared_by None t p = omega arith
short-prepared_by (Some e) t p = short-prepared e.from e.message t p

short-head : (d : DocumentData) (e : Option Envelope) (h : Head) → IsShortOption (record_of d e h)
short-head d e (head.Prepared t p) = short-prepared_by e t p
short-head d e (head.Ended t o) = omega arith
short-head d e (head.Ceiling c) = omega arith
short-head d e (head.Decided t f) = short-parts d (script_of t d.scripts)
short-head d e (head.Closed t) = omega arith
short-head d e head.Compact = omega arith

short-doubt : (d : DocumentData) (e : Option Envelope) (o : Option Head) → IsShortOption (doubt_of d e o)
short-doubt d e None = omega arith
short-doubt d e (Some h) = short-head d e h

short-written : (o : Option Record) (r : List Record) → IsShortOption o → AreShort r → AreShort (written o r)
unfolding AreShort
short-written None r p q = q
short-written (Some x) r p q = (p, q)

short-found : (b : Bool) (o : Option Record) (r : List Record) → IsShortOption o → AreShort r → AreShort (found b o r)
short-found true o r p q = short-written o r p q
short-found false o r p q = q

short-writes : (b : Bool) (o : Option Record) (x : Node) → IsShortOption o → IsShortNode x
    → IsShortNode (changed (where_at b (Writes o)) x)
short-writes true o x p s = record { journal = short-written o x.journal p s.journal; doubt = s.doubt }
short-writes false o x p s = s

short-stops : (b : Bool) (o : Option Record) (x : Node) → IsShortOption o → IsShortNode x
    → IsShortNode (changed (where_at b (Stops o)) x)
short-stops true o x p s = record { journal = s.journal; doubt = p }
short-stops false o x p s = s

short-starts : (b kept : Bool) (x : Node) → IsShortNode x → IsShortNode (changed (where_at b (Starts kept)) x)
short-starts true kept x s = record { journal = short-found kept x.doubt x.journal s.doubt s.journal; doubt = omega arith }
short-starts false kept x s = s

-- a change of neither the journal nor the record in doubt
short-same : (b : Bool) (c : Change) (x : Node) → (changed c x).journal ≡ x.journal → (changed c x).doubt ≡ x.doubt
    → IsShortNode x → IsShortNode (changed (where_at b c) x)
short-same true c x e f s = record { journal = rw e s.journal; doubt = rw f s.doubt }
short-same false c x e f s = s

freed-journal : (b : Bool) (t op : ℕ) (k : List ℕ) (sid : ℕ) (x : Node)
    → (changed (freed b t op k sid) x).journal ≡ x.journal
freed-journal true t op k sid x = refl
freed-journal false t op k sid x = refl

pub freed-doubt : (b : Bool) (t op : ℕ) (k : List ℕ) (sid : ℕ) (x : Node)
    → (changed (freed b t op k sid) x).doubt ≡ x.doubt
freed-doubt true t op k sid x = refl
freed-doubt false t op k sid x = refl

short-change : (d : DocumentData) (e : Option Envelope) (a : Act) (n : ℕ) (x : Node) → IsShortNode x
    → IsShortNode (changed (change d e a n) x)
short-change d e (act.Prepared m t p) n x s = short-writes (m == n) (prepared_by e t p) x (short-prepared_by e t p) s
short-change d e (act.Ended m t o) n x s = short-writes (m == n) (Some (record'.Ended t o)) x (omega arith) s
short-change d e (act.Ceiling m c) n x s = short-writes (m == n) (Some (record'.Ceiling c)) x (omega arith) s
short-change d e (act.Decided t f) n x s = short-writes (is_home d t n) (Some (record'.Decided t f (parts_in d (script_of t d.scripts)))) x (short-parts d (script_of t d.scripts)) s
short-change d e (act.Closed t) n x s = short-writes (is_home d t n) (Some (record'.Closed t)) x (omega arith) s
short-change d e (act.Raised m sid) n x s = short-same (m == n) _ x refl refl s
short-change d e (act.Held m t op sid) n x s = short-same (m == n) _ x refl refl s
short-change d e (act.Served m t op k sid vn v) n x s = short-same (m == n) (freed (is_request (said_by e)) t op k sid) x (freed-journal (is_request (said_by e)) t op k sid x) (freed-doubt (is_request (said_by e)) t op k sid x) s
short-change d e (act.Down m h) n x s = short-stops (m == n) (doubt_of d e h) x (short-doubt d e h) s
short-change d e (act.Up m f) n x s = short-starts (m == n) (is_kept f) x s
short-change d e (act.StillDown m) n x s = short-same (m == n) _ x refl refl s
short-change d e a n x s = s

short-node : (d : DocumentData) (past : List Act) (n : ℕ) → IsShortNode (node d past n)
unfolding AreShort
short-node d [] n = record { journal = omega arith; doubt = omega arith }
short-node d (a ∷ past) n = short-change d (got past) a n (node d past n) (short-node d past n)

-- ---- the parts of a decided transaction

abbrev IsShortDecision : Option Decision → Type 0
IsShortDecision None = 0 ≤ 16
IsShortDecision (Some y) = length y.parts ≤ 16

short-if : (b : Bool) (o o' : Option Decision) → IsShortDecision o → IsShortDecision o'
    → IsShortDecision (if b then o else o')
short-if true o o' p q = p
short-if false o o' p q = q

short-decision : (t : ℕ) (r : List Record) → AreShort r → IsShortDecision (decision t r)
unfolding AreShort
short-decision t [] s = omega arith
short-decision t (record'.Decided u f parts ∷ r) s = short-if (u == t) (Some (record { final = f; parts = parts })) (decision t r) s.0 (short-decision t r s.1)
short-decision t (record'.Prepared u home parts sid p reads writes ∷ r) s = short-decision t r s.1
short-decision t (record'.Ended u o ∷ r) s = short-decision t r s.1
short-decision t (record'.Ceiling c ∷ r) s = short-decision t r s.1
short-decision t (record'.Closed u ∷ r) s = short-decision t r s.1

short-stage : (o : Option Decision) (x : Option Open) (acks : List ℕ) → IsShortDecision o → IsShort (stage_by o x acks)
short-stage (Some y) x acks p = p
short-stage None None acks p = omega arith
short-stage None (Some x) acks p = go (waiting x.script.ops x.progress.values)
  where
    go : (j : Option ℕ) → IsShort (open_stage x j)
    go None = omega arith
    go (Some j) = omega arith

-- where a transaction stands behind a past, its parts are at most 16
pub short-at : (d : DocumentData) (past : List Act) (n t : ℕ) (x : Option Open) (acks : List ℕ)
    → IsShort (stage_by (undone t (node d past n).journal) x acks)
short-at d past n t x acks =
    let r : List Record = (node d past n).journal in
    short-stage (undone t r) x acks (short-if (is_closed t r) None (decision t r) (omega arith) (short-decision t r (short-node d past n).journal))
