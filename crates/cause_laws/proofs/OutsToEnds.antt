-- Outs tell outcomes to the ends of their transaction alone: those that tell no outcome do.
use Rattle.grid_laws.proofs.DueAnswers.{with_reply}
use Rattle.grid_model.specs.Advances.{advance, advance_end, owns, parts_now, prepares, request_of, to_node}
use Rattle.script_runs.specs.Walks.{op_at, own_reads, unread}
use Rattle.grid_model.specs.Claims.{is_end}
use Rattle.grid_model.specs.Documents.{DocumentData}
use Rattle.grid_model.specs.Histories.{after}
use Rattle.journal_words.specs.Journals.{ended, floor, home_of, is_clear, is_commit, pending}
use Rattle.grid_model.specs.Rows.{abort_outs, ack_outs, answered, are_all_among, ceiling_of, ceilings, commit_outs, freed_by, judged, prepared_outs, raises, read_outs, release, reply_outs, served, tell_outs, version_for, if_pending}
use Rattle.grid_model.specs.Schedules.{broken, head_at, kept, numbered, stopped}
use Rattle.script_runs.specs.Waits.{waiting}
use Rattle.grid_model.specs.Views.{Commits, Open, Reads, Stage, View, participant}
use Rattle.grid_model.specs.declared.acts.Act.TheVariants as act
use Rattle.grid_model.specs.declared.acts.Act.{Act}
use Rattle.grid_model.specs.declared.acts.Head.{Head}
use Rattle.grid_model.specs.declared.events.Out.TheVariants as out
use Rattle.grid_model.specs.declared.events.Out.{Out}
use Rattle.grid_model.specs.declared.messages.Message.TheVariants as message
use Rattle.grid_model.specs.declared.messages.Message.{Message}
use Rattle.grid_model.specs.declared.messages.ReadRep.{ReadRep}
use Rattle.grid_model.specs.declared.messages.ReadReq.{ReadReq}
use Rattle.grid_model.specs.declared.stories.HeldRead.{HeldRead}
use Rattle.journal_words.specs.declared.versions.Version.{Version}
use Rattle.placement.specs.Clusters.{ClusterData}
use Rattle.placement.specs.Places.{is_among, preferred}
use Rattle.score_base.specs.declared.causes.Outcome.TheVariants as outcome
use Rattle.score_base.specs.declared.causes.Outcome.{Outcome}
use Rattle.score_base.specs.declared.ids.Ident.{Ident}
use Rattle.score_base.specs.declared.ids.NodeId.{NodeId}
use Rattle.score_base.specs.declared.ids.TxId.{TxId}
use Rattle.score_base.specs.declared.ids.Value.{Value}
use Rattle.score_base.specs.declared.keys.Key.{Key}
use Rattle.score_base.specs.declared.records.Record.TheVariants as record'
use Rattle.score_base.specs.declared.records.Record.{Record}
use Rattle.script_lang.specs.Reads.{is_update, key_of}
use Rattle.script_lang.specs.declared.scripts.Op.{Op}
use Rattle.std.proofs.Common.{Bool, List, None, Option, Some, [], false, refl, true, ℕ, ◌++◌, ◌+◌, ◌∷◌, ◌≡◌}
use Rattle.std.proofs.lemmas.Bool.{and_from, and_parts}
use Rattle.std.specs.List.{list_all}
use Rattle.std.specs.Prelude.{filter, if◌then◌else◌, map, nat_lt, slice_get, ◌&&◌, ◌==◌}

-- an outcome has both ends; of other messages nothing is asked
abbrev pub is_told_well : DocumentData → NodeId → NodeId → Message → Bool
is_told_well d n y (message.Tell t o) = is_end d t n && is_end d t y
is_told_well d n y said = true

abbrev pub is_well_act : DocumentData → Act → Bool
is_well_act d (act.Sent m x y said) = is_told_well d x y said
is_well_act d a = true

-- an act that gets no message, and neither opens a node nor loses a transaction
abbrev pub is_middle : Act → Bool
is_middle (act.Got m) = false
is_middle (act.Up n f) = false
is_middle (act.StillDown n) = false
is_middle (act.Lost t) = false
is_middle a = true

abbrev pub is_well_out : DocumentData → NodeId → Out → Bool
is_well_out d n (out.Send y said) = is_told_well d n y said
is_well_out d n (out.Act a) = is_middle a && is_well_act d a

-- each of these outs tells an outcome from end to end, or is an act of the middle
abbrev pub AreWell : DocumentData → NodeId → List Out → Type 0
AreWell d n os = list_all (is_well_out d n) os ≡ true

well-stopped : (d : DocumentData) (n : NodeId) (h : Option Head) (o : Out) (os : List Out) → is_well_out d n o ≡ true
    → AreWell d n os → AreWell d n (stopped n h o os)
well-stopped d n None o os here rest = and_from (is_well_out d n o) (list_all (is_well_out d n) os) here rest
well-stopped d n (Some h) o os here rest = refl

well-broken : (d : DocumentData) (n : NodeId) (os : List Out) → AreWell d n os → AreWell d n (broken n os)
well-broken d n [] h = refl
well-broken d n (o ∷ os) h = let both = and_parts (is_well_out d n o) (list_all (is_well_out d n) os) h in well-stopped d n (head_at o) o (broken n os) both.0 (well-broken d n os both.1)

-- a stop in a record tells nothing more
pub well-kept : (d : DocumentData) (n : NodeId) (b : Bool) (os : List Out) → AreWell d n os → AreWell d n (kept b n os)
well-kept d n true os h = h
well-kept d n false os h = well-broken d n os h

pub well-numbered : (d : DocumentData) (m : ℕ) (n : NodeId) (os : List Out) → AreWell d n os
    → list_all (is_well_act d) (numbered m n os) ≡ true
well-numbered d m n [] h = refl
well-numbered d m n (out.Act a ∷ os) h = let both = and_parts (is_middle a && is_well_act d a) (list_all (is_well_out d n) os) h in and_from (is_well_act d a) (list_all (is_well_act d) (numbered m n os)) (and_parts (is_middle a) (is_well_act d a) both.0).1 (well-numbered d m n os both.1)
well-numbered d m n (out.Send y said ∷ os) h = let both = and_parts (is_told_well d n y said) (list_all (is_well_out d n) os) h in and_from (is_told_well d n y said) (list_all (is_well_act d) (numbered (m + 1) n os)) both.0 (well-numbered d (m + 1) n os both.1)

pub middle-numbered : (d : DocumentData) (m : ℕ) (n : NodeId) (os : List Out) → AreWell d n os
    → list_all is_middle (numbered m n os) ≡ true
middle-numbered d m n [] h = refl
middle-numbered d m n (out.Act a ∷ os) h = let both = and_parts (is_middle a && is_well_act d a) (list_all (is_well_out d n) os) h in and_from (is_middle a) (list_all is_middle (numbered m n os)) (and_parts (is_middle a) (is_well_act d a) both.0).0 (middle-numbered d m n os both.1)
middle-numbered d m n (out.Send y said ∷ os) h = let both = and_parts (is_told_well d n y said) (list_all (is_well_out d n) os) h in middle-numbered d (m + 1) n os both.1

pub well-after : (d : DocumentData) (past acts : List Act) → list_all (is_well_act d) past ≡ true
    → list_all (is_well_act d) acts ≡ true → list_all (is_well_act d) (after past acts) ≡ true
well-after d past [] h k = h
well-after d past (a ∷ acts) h k = let both = and_parts (is_well_act d a) (list_all (is_well_act d) acts) k in well-after d (a ∷ past) acts (and_from (is_well_act d a) (list_all (is_well_act d) past) both.0 h) both.1

well-append : (d : DocumentData) (n : NodeId) (xs ys : List Out) → AreWell d n xs → AreWell d n ys
    → AreWell d n (xs ++ ys)
well-append d n [] ys h k = k
well-append d n (x ∷ xs) ys h k = let both = and_parts (is_well_out d n x) (list_all (is_well_out d n) xs) h in and_from (is_well_out d n x) (list_all (is_well_out d n) (xs ++ ys)) both.0 (well-append d n xs ys both.1 k)

pub well-if : (d : DocumentData) (n : NodeId) (b : Bool) (xs ys : List Out) → AreWell d n xs → AreWell d n ys
    → AreWell d n (if b then xs else ys)
well-if d n true xs ys h k = h
well-if d n false xs ys h k = k

-- ---- outs that tell nothing

well-owns : (d : DocumentData) (n : NodeId) (t : TxId) (ys : List (ℕ × Value))
    → AreWell d n (map (λ y. out.Act (act.Own t y.0 y.1)) ys)
well-owns d n t [] = refl
well-owns d n t (y ∷ ys) = well-owns d n t ys

pub well-to_node : (d : DocumentData) (n : NodeId) (w : Option NodeId) (said : Message)
    → ((y : NodeId) → is_told_well d n y said ≡ true) → AreWell d n (to_node w said)
well-to_node d n None said h = refl
well-to_node d n (Some y) said h = and_from (is_told_well d n y said) true (h y) refl

pub well-request : (d : DocumentData) (n : NodeId) (x : Open) (j q : ℕ) (o : Option Op)
    → AreWell d n (request_of d.cluster x j q o)
well-request d n x j q None = refl
well-request d n x j q (Some o) = well-to_node d n (slice_get (preferred d.cluster.places x.script.home (key_of o)) q) _ (λ y. refl)

pub well-prepares : (d : DocumentData) (n : NodeId) (x : Open) (ns : List NodeId)
    → AreWell d n (prepares d.cluster x ns)
well-prepares d n x [] = refl
well-prepares d n x (y ∷ ns) = well-prepares d n x ns

well-end : (d : DocumentData) (n : NodeId) (x : Open) (w : Option ℕ) → AreWell d n (advance_end d.cluster x w)
well-end d n x (Some j) = well-request d n x j 0 (op_at x.script.ops j)
well-end d n x None = well-if d n (is_update x.script.ops) (prepares d.cluster x (parts_now d.cluster x)) (out.Act (act.Finished x.script.number) ∷ []) (well-prepares d n x (parts_now d.cluster x)) refl

pub well-advance : (d : DocumentData) (n : NodeId) (x : Open) (i : ℕ) → AreWell d n (advance d.cluster x i)
well-advance d n x i = well-append d n (owns x.script.number i (own_reads 1 [] unread x.progress.values x.script.ops)) (advance_end d.cluster x (waiting x.script.ops x.progress.values)) (well-owns d n x.script.number (filter (λ y. nat_lt i y.0) (own_reads 1 [] unread x.progress.values x.script.ops))) (well-end d n x (waiting x.script.ops x.progress.values))

well-release : (d : DocumentData) (n : NodeId) (c : ClusterData) (r : List Record) (hs : List HeldRead)
    → AreWell d n (release c r n hs)
well-release d n c r [] = refl
well-release d n c r (h ∷ hs) = well-append d n (if is_clear h.sid r then served n h.t h.op h.key h.sid h.from (version_for c r h.key h.sid) else []) (release c r n hs) (well-if d n (is_clear h.sid r) (served n h.t h.op h.key h.sid h.from (version_for c r h.key h.sid)) [] refl refl) (well-release d n c r hs)

well-answered : (d : DocumentData) (n : NodeId) (b : Bool) (x : NodeId) (q : ReadReq) (sid : Ident) (w : Version)
    → AreWell d n (answered b n x q sid w)
well-answered d n true x q sid w = refl
well-answered d n false x q sid w = refl

pub well-read : (d : DocumentData) (n : NodeId) (v : View) (x : NodeId) (q : ReadReq) (sid : Ident)
    → AreWell d n (read_outs n (participant v) x q sid)
well-read d n v x q sid =
    well-append d n (ceilings n (floor v.journal) sid) _ (well-if d n (nat_lt (floor v.journal) sid) (out.Act (act.Ceiling n (ceiling_of sid)) ∷ []) [] refl refl)
    (well-append d n (raises n v.next sid) _ (well-if d n (nat_lt v.next sid) (out.Act (act.Raised n sid) ∷ []) [] refl refl)
    (well-answered d n (is_clear sid v.journal) x q sid (version_for v.cluster v.journal q.key sid)))

pub well-reply : (d : DocumentData) (n : NodeId) (q : ReadRep) (g : Stage) → AreWell d n (reply_outs d.cluster q g)
well-reply d n q (Reads x j) = well-if d n (j == q.op) (out.Act (act.Taken q.t q.op q.sid q.value) ∷ advance d.cluster (with_reply q x) q.op) [] (well-advance d n (with_reply q x) q.op) refl
well-reply d n q w = refl

well-judged : (d : DocumentData) (n x : NodeId) (t : TxId) (u : Option TxId) (y : Option (Key × Ident)) (p : Ident)
    → AreWell d n (judged n x t u y p)
well-judged d n x t (Some u) y p = refl
well-judged d n x t None (Some y) p = refl
well-judged d n x t None None p = refl

pub well-prepare : (d : DocumentData) (n x : NodeId) (t : TxId) (o : Option Outcome) (mine : Option Ident)
    (u : Option TxId) (y : Option (Key × Ident)) (p : Ident) → AreWell d n (prepared_outs n x t o mine u y p)
well-prepare d n x t (Some o) mine u y p = refl
well-prepare d n x t None (Some q) u y p = refl
well-prepare d n x t None None u y p = well-judged d n x t u y p

well-commit : (d : DocumentData) (n : NodeId) (t : TxId) (f : Ident) (p : Option Ident) (b : Bool)
    (ack freed : List Out) → AreWell d n ack → AreWell d n freed
    → AreWell d n (commit_outs n t f p b ack ++ if_pending p freed)
well-commit d n t f (Some p) b ack freed h k = well-append d n ack freed h k
well-commit d n t f None true ack freed h k = well-append d n ack [] h refl
well-commit d n t f None false ack freed h k = refl

well-abort : (d : DocumentData) (n : NodeId) (t : TxId) (p : Option Ident) (freed : List Out) → AreWell d n freed
    → AreWell d n (abort_outs n t p ++ if_pending p freed)
well-abort d n t (Some p) freed k = k
well-abort d n t None freed k = refl

pub well-tell : (d : DocumentData) (n : NodeId) (v : View) (t : TxId) (o : Outcome)
    → AreWell d n (tell_outs n (participant v) v.held t o)
well-tell d n v t (outcome.Commit f) = well-commit d n t f (pending t v.journal) (is_commit (ended t v.journal)) _ (freed_by n (participant v) v.held t (outcome.Commit f)) (well-to_node d n (home_of t v.journal) (message.Ack t) (λ y. refl)) (well-release d n v.cluster (record'.Ended t (outcome.Commit f) ∷ v.journal) v.held)
well-tell d n v t outcome.Abort = well-abort d n t (pending t v.journal) (freed_by n (participant v) v.held t outcome.Abort) (well-release d n v.cluster (record'.Ended t outcome.Abort ∷ v.journal) v.held)

pub well-acks : (d : DocumentData) (n : NodeId) (t : TxId) (x : NodeId) (g : Stage) → AreWell d n (ack_outs t x g)
well-acks d n t x (Commits y acks) = well-if d n (is_among x acks) [] _ refl (well-if d n (are_all_among y.parts (acks ++ x ∷ [])) (out.Act (act.Closed t) ∷ []) [] refl refl)
well-acks d n t x w = refl
