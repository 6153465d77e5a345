-- How many messages the outs of a row are, how many reads they hold, and that no act among them is a message.
use Rattle.std.proofs.Common.{◌≡◌, ℕ, ◌+◌, ◌≤◌, ◌&&◌, ◌==◌, Bool, true, false, List, [], ◌∷◌, ◌++◌, length, refl, Option, Some, None, arith, nat_lt, not, map, filter, if◌then◌else◌, is_some}
use Rattle.std.specs.List.{list_any, range_with_len}
use Rattle.std.proofs.lemmas.List.Filters.{length-filter_both}
use Rattle.std.proofs.lemmas.List.FromFn.{length-range_with_len}
use Rattle.score_base.specs.declared.keys.Key.{Key}
use Rattle.score_base.specs.declared.causes.Ballot.{Ballot}
use Rattle.score_base.specs.declared.causes.Ballot.TheVariants as ballot
use Rattle.score_base.specs.declared.causes.Outcome.{Outcome}
use Rattle.score_base.specs.declared.causes.Outcome.TheVariants as outcome
use Rattle.score_base.specs.declared.records.Record.{Record}
use Rattle.score_base.specs.declared.records.Record.TheVariants as record'
use Rattle.script_lang.specs.declared.scripts.Op.{Op}
use Rattle.script_lang.specs.Scripts.{ScriptData}
use Rattle.script_lang.specs.Reads.{is_update, keys_of}
use Rattle.placement.specs.Places.{is_among, holds, others, rising_nodes, parts}
use Rattle.placement.specs.Clusters.{ClusterData}
use Rattle.grid_model.specs.declared.acts.Act.{Act}
use Rattle.grid_model.specs.declared.acts.Act.TheVariants as act
use Rattle.grid_model.specs.declared.events.Out.{Out}
use Rattle.grid_model.specs.declared.events.Out.TheVariants as out
use Rattle.grid_model.specs.declared.messages.Message.{Message}
use Rattle.grid_model.specs.declared.messages.Message.TheVariants as message
use Rattle.grid_model.specs.declared.messages.ReadReq.{ReadReq}
use Rattle.grid_model.specs.declared.messages.ReadRep.{ReadRep}
use Rattle.grid_model.specs.declared.stories.HeldRead.{HeldRead}
use Rattle.grid_model.specs.declared.stories.Voted.{Voted}
use Rattle.journal_words.specs.declared.versions.Version.{Version}
use Rattle.journal_words.specs.Journals.{names_part, floor, is_clear, ended, is_commit, pending, home_of}
use Rattle.grid_model.specs.Stories.{has_voted, with_value}
use Rattle.script_runs.specs.Waits.{waiting}
use Rattle.grid_model.specs.Views.{Open, Stage, Apart, Reads, Collects, Commits}
use Rattle.journal_words.specs.Participants.{Participant}
use Rattle.grid_model.specs.Advances.{advance, advance_end, owns, request, request_of, prepares, prepare_for, parts_now, to_node}
use Rattle.script_runs.specs.Walks.{unread, own_reads}
use Rattle.grid_model.specs.Fitness.{is_fit_at}
use Rattle.grid_model.specs.Rows.{compact_outs, peer_outs, ask_peer_outs, first_ident, served, version_for, release, ceilings, raises, answered, read_outs, reply_outs, judged, prepared_outs, tells, decides, ballot_outs, vote_outs, are_all_among, closed_outs, ack_outs, asked_outs, commit_outs, abort_outs, freed_by, tell_outs, message_outs, answer_at, begun_at, begin_outs, not_voted, not_among, retry_outs, ask_outs, if_pending}
use Rattle.grid_model.specs.declared.acts.Head.{Head}
use Rattle.grid_model.specs.Schedules.{head_of, kept, stopped, broken}
use Rattle.count_laws.specs.Few.{sends}

-- the reads that some outs hold
abbrev pub helds : List Out → ℕ
helds [] = 0
helds (out.Act (act.Held n t op sid) ∷ os) = 1 + helds os
helds (o ∷ os) = helds os

-- an act that neither sends a message nor takes one away: a node's row has its messages as sends
abbrev pub is_own : Act → Bool
is_own (act.Sent m x y said) = false
is_own (act.Got m) = false
is_own (act.Missed m) = false
is_own (act.Dropped m) = false
is_own a = true

abbrev pub are_own : List Out → Bool
are_own [] = true
are_own (out.Act a ∷ os) = is_own a && are_own os
are_own (out.Send to said ∷ os) = are_own os

-- at most k messages, at most j reads held, and no act sends a message or takes one away
pub record Counts (k j : ℕ) (outs : List Out) : Type 0 where
  pub sent : sends outs ≤ k
  pub held : helds outs ≤ j
  pub own : are_own outs ≡ true

pub counts-none : (k j : ℕ) → Counts k j []
counts-none k j = record { sent = omega arith; held = omega arith; own = refl }

pub counts-more : (k j k' j' : ℕ) (os : List Out) → k ≤ k' → j ≤ j' → Counts k j os → Counts k' j' os
counts-more k j k' j' os p q c = record { sent = omega (arith, p, c.sent); held = omega (arith, q, c.held); own = c.own }

pub counts-if : (b : Bool) (k j : ℕ) (xs ys : List Out) → Counts k j xs → Counts k j ys → Counts k j (if b then xs else ys)
counts-if true k j xs ys p q = p
counts-if false k j xs ys p q = q

sends-append : (xs ys : List Out) → sends (xs ++ ys) ≡ sends xs + sends ys
sends-append [] ys = omega arith
sends-append (out.Act a ∷ xs) ys = sends-append xs ys
sends-append (out.Send to said ∷ xs) ys = omega (arith, sends-append xs ys)

helds-append : (xs ys : List Out) → helds (xs ++ ys) ≡ helds xs + helds ys
helds-append [] ys = omega arith
helds-append (out.Act (act.Held n t op sid) ∷ xs) ys = omega (arith, helds-append xs ys)
helds-append (o ∷ xs) ys = helds-append xs ys

own-append : (xs ys : List Out) → are_own xs ≡ true → are_own ys ≡ true → are_own (xs ++ ys) ≡ true
own-append [] ys p q = q
own-append (out.Act a ∷ xs) ys p q = grind (arith, own-append xs ys)
own-append (out.Send to said ∷ xs) ys p q = own-append xs ys p q

counts-append : (k j k' j' : ℕ) (xs ys : List Out) → Counts k j xs → Counts k' j' ys
    → Counts (k + k') (j + j') (xs ++ ys)
counts-append k j k' j' xs ys p q = record {
  sent = omega (arith, sends-append xs ys, p.sent, q.sent);
  held = omega (arith, helds-append xs ys, p.held, q.held);
  own = own-append xs ys p.own q.own;
}

-- a message to each of these nodes
pub counts-sends : (f : ℕ → Message) (ns : List ℕ) → Counts (length ns) 0 (map (λ n. out.Send n (f n)) ns)
counts-sends f [] = counts-none 0 0
counts-sends f (n ∷ ns) = let p : Counts (length ns) 0 (map (λ m. out.Send m (f m)) ns) = counts-sends f ns in record { sent = omega (arith, p.sent); held = p.held; own = p.own }

pub filter-short : {A : Type 0} (p : A → Bool) (xs : List A) → length (filter p xs) ≤ length xs
filter-short p xs = omega (arith, length-filter_both p (λ x. not (p x)) (λ x. refl) xs)

rising-short : (p : ℕ → Bool) → length (rising_nodes p) ≤ 16
rising-short p = omega (arith, filter-short p (range_with_len 1 16), length-range_with_len 1 16)

pub parts-short : (places : List (List ℕ)) (ks : List Key) → length (parts places ks) ≤ 16
parts-short places ks = rising-short (λ n. list_any (holds places n) ks)

-- ---- Advance

counts-to_node : (o : Option ℕ) (said : Message) → Counts 1 0 (to_node o said)
counts-to_node None said = counts-none 1 0
counts-to_node (Some n) said = record { sent = omega arith; held = omega arith; own = refl }

counts-request_of : (c : ClusterData) (x : Open) (j q : ℕ) (o : Option Op) → Counts 1 0 (request_of c x j q o)
counts-request_of c x j q None = counts-none 1 0
counts-request_of c x j q (Some o) = counts-to_node _ _

counts-request : (c : ClusterData) (x : Open) (j q : ℕ) → Counts 1 0 (request c x j q)
counts-request c x j q = counts-request_of c x j q _

counts-prepares : (c : ClusterData) (x : Open) (ns : List ℕ) → length ns ≤ 16 → Counts 16 0 (prepares c x ns)
counts-prepares c x ns h = counts-more (length ns) 0 16 0 (prepares c x ns) h (omega arith) (counts-sends (λ n. message.Prepare (prepare_for c x n)) ns)

counts-end : (c : ClusterData) (x : Open) (o : Option ℕ) → Counts 16 0 (advance_end c x o)
counts-end c x (Some j) = counts-more 1 0 16 0 (request c x j 0) (omega arith) (omega arith) (counts-request c x j 0)
counts-end c x None = counts-if (is_update x.script.ops) 16 0 (prepares c x (parts_now c x)) (out.Act (act.Finished x.script.number) ∷ []) (counts-prepares c x (parts_now c x) (parts-short c.places (keys_of x.script.ops))) (record { sent = omega arith; held = omega arith; own = refl })

counts-owns : (t : ℕ) (values : List (ℕ × ℕ)) → Counts 0 0 (map (λ y. out.Act (act.Own t y.0 y.1)) values)
counts-owns t [] = counts-none 0 0
counts-owns t (y ∷ values) = let p : Counts 0 0 (map (λ z. out.Act (act.Own t z.0 z.1)) values) = counts-owns t values in record { sent = p.sent; held = p.held; own = p.own }

pub counts-advance : (c : ClusterData) (x : Open) (i : ℕ) → Counts 16 0 (advance c x i)
counts-advance c x i = counts-append 0 0 16 0 (owns x.script.number i (own_reads 1 [] unread x.progress.values x.script.ops)) (advance_end c x (waiting x.script.ops x.progress.values)) (counts-owns x.script.number _) (counts-end c x (waiting x.script.ops x.progress.values))

-- ---- reads

counts-served : (n t op : ℕ) (k : Key) (sid x : ℕ) (w : Version) → Counts 1 0 (served n t op k sid x w)
counts-served n t op k sid x w = record { sent = omega arith; held = omega arith; own = refl }

counts-release : (c : ClusterData) (r : List Record) (n : ℕ) (hs : List HeldRead)
    → Counts (length hs) 0 (release c r n hs)
counts-release c r n [] = counts-none 0 0
counts-release c r n (h ∷ hs) = counts-more (1 + length hs) 0 (length (h ∷ hs)) 0 (release c r n (h ∷ hs)) (omega arith) (omega arith) (counts-append 1 0 (length hs) 0 (if is_clear h.sid r then served n h.t h.op h.key h.sid h.from (version_for c r h.key h.sid) else []) (release c r n hs) (counts-if (is_clear h.sid r) 1 0 _ [] (counts-served n h.t h.op h.key h.sid h.from (version_for c r h.key h.sid)) (counts-none 1 0)) (counts-release c r n hs))

counts-ceilings : (n floor sid : ℕ) → Counts 0 0 (ceilings n floor sid)
counts-ceilings n floor sid = counts-if (nat_lt floor sid) 0 0 _ [] (record { sent = omega arith; held = omega arith; own = refl }) (counts-none 0 0)

counts-raises : (n next sid : ℕ) → Counts 0 0 (raises n next sid)
counts-raises n next sid = counts-if (nat_lt next sid) 0 0 _ [] (record { sent = omega arith; held = omega arith; own = refl }) (counts-none 0 0)

counts-answered : (b : Bool) (n x : ℕ) (q : ReadReq) (sid : ℕ) (w : Version) → Counts 1 1 (answered b n x q sid w)
counts-answered true n x q sid w = record { sent = omega arith; held = omega arith; own = refl }
counts-answered false n x q sid w = record { sent = omega arith; held = omega arith; own = refl }

counts-read : (n : ℕ) (p : Participant) (x : ℕ) (q : ReadReq) (sid : ℕ) → Counts 1 1 (read_outs n p x q sid)
counts-read n p x q sid = counts-append 0 0 1 1 (ceilings n (floor p.journal) sid) _ (counts-ceilings n (floor p.journal) sid) (counts-append 0 0 1 1 (raises n p.next sid) _ (counts-raises n p.next sid) (counts-answered (is_clear sid p.journal) n x q sid (version_for p.cluster p.journal q.key sid)))

counts-taken : (t op sid value : ℕ) (os : List Out) → Counts 16 0 os
    → Counts 16 0 (out.Act (act.Taken t op sid value) ∷ os)
counts-taken t op sid value os p = record { sent = p.sent; held = p.held; own = p.own }

counts-reply : (c : ClusterData) (q : ReadRep) (s : Stage) → Counts 16 0 (reply_outs c q s)
counts-reply c q (Reads x j) =
    let y : Open = record x { progress = with_value q.op q.sid q.value x.progress } in
    counts-if (j == q.op) 16 0 (out.Act (act.Taken q.t q.op q.sid q.value) ∷ advance c y q.op) [] (counts-taken q.t q.op q.sid q.value (advance c y q.op) (counts-advance c y q.op)) (counts-none 16 0)
counts-reply c q Apart = counts-none 16 0
counts-reply c q (Collects x) = counts-none 16 0
counts-reply c q (Commits y acks) = counts-none 16 0

-- ---- votes

counts-judged : (n x t : ℕ) (o : Option ℕ) (y : Option (Key × ℕ)) (p : ℕ) → Counts 1 0 (judged n x t o y p)
counts-judged n x t (Some u) y p = record { sent = omega arith; held = omega arith; own = refl }
counts-judged n x t None (Some y) p = record { sent = omega arith; held = omega arith; own = refl }
counts-judged n x t None None p = record { sent = omega arith; held = omega arith; own = refl }

counts-prepare : (n x t : ℕ) (o : Option Outcome) (mine u : Option ℕ) (y : Option (Key × ℕ)) (p : ℕ)
    → Counts 1 0 (prepared_outs n x t o mine u y p)
counts-prepare n x t (Some o) mine u y p = counts-none 1 0
counts-prepare n x t None (Some q) u y p = record { sent = omega arith; held = omega arith; own = refl }
counts-prepare n x t None None u y p = counts-judged n x t u y p

counts-tells : (t : ℕ) (o : Outcome) (ns : List ℕ) → length ns ≤ 16 → Counts 16 0 (tells t o ns)
counts-tells t o ns h = counts-more (length ns) 0 16 0 (tells t o ns) h (omega arith) (counts-sends (λ n. message.Tell t o) ns)

counts-decides : (t f : ℕ) (ns : List ℕ) → length ns ≤ 16 → Counts 16 0 (decides t f ns)
counts-decides t f ns h = let p : Counts 16 0 (tells t (outcome.Commit f) ns) = counts-tells t (outcome.Commit f) ns h in record { sent = p.sent; held = p.held; own = p.own }

counts-ballot : (t : ℕ) (ns : List ℕ) (votes : List Voted) (x : ℕ) (b : Ballot) → length ns ≤ 16
    → Counts 16 0 (ballot_outs t ns votes x b)
counts-ballot t ns votes x (ballot.Yes p) h = counts-if _ 16 0 _ [] (counts-decides t _ ns h) (counts-none 16 0)
counts-ballot t ns votes x (ballot.No why) h =
    let short : length (others x ns) ≤ 16 = omega (arith, filter-short (λ m. not (m == x)) ns, h) in
    let p : Counts 16 0 (tells t outcome.Abort (others x ns)) = counts-tells t outcome.Abort (others x ns) short in
    record { sent = p.sent; held = p.held; own = p.own }

counts-vote : (c : ClusterData) (t x : ℕ) (b : Ballot) (s : Stage) → Counts 16 0 (vote_outs c t x b s)
counts-vote c t x b (Collects o) = counts-if (has_voted x o.progress.votes) 16 0 [] _ (counts-none 16 0) (counts-ballot t (parts_now c o) o.progress.votes x b (parts-short c.places (keys_of o.script.ops)))
counts-vote c t x b Apart = counts-none 16 0
counts-vote c t x b (Reads o j) = counts-none 16 0
counts-vote c t x b (Commits y acks) = counts-none 16 0

counts-closed : (t : ℕ) (ns acks : List ℕ) → Counts 0 0 (closed_outs t ns acks)
counts-closed t ns acks = counts-if (are_all_among ns acks) 0 0 _ [] (record { sent = omega arith; held = omega arith; own = refl }) (counts-none 0 0)

counts-ack : (t x : ℕ) (s : Stage) → Counts 0 0 (ack_outs t x s)
counts-ack t x (Commits y acks) = counts-if (is_among x acks) 0 0 [] _ (counts-none 0 0) (counts-closed t y.parts (acks ++ x ∷ []))
counts-ack t x Apart = counts-none 0 0
counts-ack t x (Reads o j) = counts-none 0 0
counts-ack t x (Collects o) = counts-none 0 0

counts-ask_row : (t x : ℕ) (s : Stage) → Counts 1 0 (asked_outs t x s)
counts-ask_row t x (Commits y acks) = record { sent = omega arith; held = omega arith; own = refl }
counts-ask_row t x Apart = record { sent = omega arith; held = omega arith; own = refl }
counts-ask_row t x (Reads o j) = counts-none 1 0
counts-ask_row t x (Collects o) = counts-none 1 0

counts-peer : (t x : ℕ) (o : Option Outcome) → Counts 1 0 (peer_outs t x o)
counts-peer t x None = counts-none 1 0
counts-peer t x (Some o) = record { sent = omega arith; held = omega arith; own = refl }

-- ---- ends

counts-commit : (n t f h : ℕ) (o : Option ℕ) (done : Bool) (ack freed : List Out) → Counts 1 0 ack → Counts h 0 freed
    → Counts (1 + h) 0 (commit_outs n t f o done ack ++ if_pending o freed)
counts-commit n t f h (Some p) done ack freed a r = let all : Counts (1 + h) 0 (ack ++ freed) = counts-append 1 0 h 0 ack freed a r in record { sent = all.sent; held = all.held; own = all.own }
counts-commit n t f h None true ack freed a r = counts-append 1 0 h 0 ack [] a (counts-none h 0)
counts-commit n t f h None false ack freed a r = counts-none (1 + h) 0

counts-abort : (n t h : ℕ) (o : Option ℕ) (freed : List Out) → Counts h 0 freed
    → Counts (1 + h) 0 (abort_outs n t o ++ if_pending o freed)
counts-abort n t h (Some p) freed r = let all : Counts (1 + h) 0 freed = counts-more h 0 (1 + h) 0 freed (omega arith) (omega arith) r in record { sent = all.sent; held = all.held; own = all.own }
counts-abort n t h None freed r = counts-none (1 + h) 0

counts-tell : (n : ℕ) (p : Participant) (held : List HeldRead) (t : ℕ) (o : Outcome)
    → Counts (1 + length held) 0 (tell_outs n p held t o)
counts-tell n p held t (outcome.Commit f) = counts-commit n t f (length held) (pending t p.journal) (is_commit (ended t p.journal)) (to_node (home_of t p.journal) (message.Ack t)) (freed_by n p held t (outcome.Commit f)) (counts-to_node (home_of t p.journal) (message.Ack t)) (counts-release p.cluster (record'.Ended t (outcome.Commit f) ∷ p.journal) n held)
counts-tell n p held t outcome.Abort = counts-abort n t (length held) (pending t p.journal) (freed_by n p held t outcome.Abort) (counts-release p.cluster (record'.Ended t outcome.Abort ∷ p.journal) n held)

-- ---- the table

pub counts-row : (n : ℕ) (p : Participant) (held : List HeldRead) (s : Stage) (x : ℕ) (said : Message)
    → Counts (16 + length held) 1 (message_outs n p held s x said)
counts-row n p held s x (message.ReadReq q) = counts-more 1 1 _ 1 _ (omega arith) (omega arith) (counts-read n p x q _)
counts-row n p held s x (message.ReadRep q) = counts-more 16 0 _ 1 _ (omega arith) (omega arith) (counts-reply p.cluster q s)
counts-row n p held s x (message.Prepare q) = counts-more 1 0 _ 1 _ (omega arith) (omega arith) (counts-prepare n x q.t _ _ _ _ _)
counts-row n p held s x (message.Vote t b) = counts-more 16 0 _ 1 _ (omega arith) (omega arith) (counts-vote p.cluster t x b s)
counts-row n p held s x (message.Tell t o) = counts-more (1 + length held) 0 _ 1 _ (omega arith) (omega arith) (counts-tell n p held t o)
counts-row n p held s x (message.Ack t) = counts-more 0 0 _ 1 _ (omega arith) (omega arith) (counts-ack t x s)
counts-row n p held s x (message.Ask t) = counts-more 1 0 _ 1 _ (omega arith) (omega arith) (counts-ask_row t x s)
counts-row n p held s x (message.AskPeer t) = counts-more 1 0 _ 1 _ (omega arith) (omega arith) (counts-peer t x (ended t p.journal))

pub counts-answer : (n : ℕ) (p : Participant) (held : List HeldRead) (s : Stage) (x : ℕ) (said : Message)
    → Counts (16 + length held) 1 (answer_at n p held s x said)
counts-answer n p held s x said = counts-if (is_fit_at n p s x said) (16 + length held) 1 (message_outs n p held s x said) [] (counts-row n p held s x said) (counts-none (16 + length held) 1)

pub counts-begin : (n : ℕ) (p : Participant) (s : ScriptData) (floor : ℕ) → Counts 16 0 (begin_outs n p s floor)
counts-begin n p s floor = let a : Counts 16 0 (advance p.cluster (begun_at s (first_ident p floor)) 0) = counts-advance p.cluster (begun_at s (first_ident p floor)) 0 in record { sent = a.sent; held = a.held; own = a.own }

-- the parts of a decided transaction are at most 16
abbrev pub IsShort : Stage → Type 0
IsShort (Commits y acks) = length y.parts ≤ 16
IsShort Apart = 0 ≤ 16
IsShort (Reads x j) = 0 ≤ 16
IsShort (Collects x) = 0 ≤ 16

pub counts-retry : (c : ClusterData) (t : ℕ) (s : Stage) → IsShort s → Counts 16 0 (retry_outs c t s)
counts-retry c t Apart h = counts-none 16 0
counts-retry c t (Reads x j) h = counts-more 1 0 16 0 (request c x j x.progress.turn) (omega arith) (omega arith) (counts-request c x j x.progress.turn)
counts-retry c t (Collects x) h = counts-prepares c x (not_voted (parts_now c x) x.progress.votes) (omega (arith, filter-short (λ n. not (has_voted n x.progress.votes)) (parts_now c x), parts-short c.places (keys_of x.script.ops)))
counts-retry c t (Commits y acks) h = counts-tells t (outcome.Commit y.final) (not_among y.parts acks) (omega (arith, h, filter-short (λ n. not (is_among n acks)) y.parts))

pub counts-ask : (p : Participant) (t : ℕ) → Counts 1 0 (ask_outs p t)
counts-ask p t = counts-if (is_some (pending t p.journal)) 1 0 (to_node (home_of t p.journal) (message.Ask t)) [] (counts-to_node (home_of t p.journal) (message.Ask t)) (counts-none 1 0)

pub counts-ask_peer : (p : Participant) (t m : ℕ) → Counts 1 0 (ask_peer_outs p t m)
counts-ask_peer p t m = counts-if (is_some (pending t p.journal) && names_part t m p.journal) 1 0 (out.Send m (message.AskPeer t) ∷ []) [] (record { sent = omega arith; held = omega arith; own = refl }) (counts-none 1 0)

pub counts-compact : (n : ℕ) → Counts 0 0 (compact_outs n)
counts-compact n = record { sent = omega arith; held = omega arith; own = refl }

-- ---- outs that end where a record is not kept

sends-broken : (n : ℕ) (os : List Out) → sends (broken n os) ≤ sends os
sends-broken n [] = omega arith
sends-broken n (out.Act a ∷ os) = go (head_of a) (sends-broken n os)
  where
    go : (h : Option Head) → sends (broken n os) ≤ sends os → sends (stopped n h (out.Act a) (broken n os)) ≤ sends os
    go None p = p
    go (Some h) p = omega arith
sends-broken n (out.Send to said ∷ os) = omega (arith, sends-broken n os)

-- an act that holds no read
helds-stopped : (n : ℕ) (h : Option Head) (a : Act) (rest os : List Out)
    → helds (out.Act a ∷ rest) ≡ helds rest → helds rest ≤ helds os → helds (stopped n h (out.Act a) rest) ≤ helds os
helds-stopped n None a rest os same p = omega (arith, same, p)
helds-stopped n (Some h) a rest os same p = omega arith

helds-broken : (n : ℕ) (os : List Out) → helds (broken n os) ≤ helds os
helds-broken n [] = omega arith
helds-broken n (out.Act (act.Held m t op sid) ∷ os) = omega (arith, helds-broken n os)
helds-broken n (out.Act a ∷ os) = helds-stopped n (head_of a) a (broken n os) os refl (helds-broken n os)
helds-broken n (out.Send to said ∷ os) = helds-broken n os

own-stopped : (n : ℕ) (h : Option Head) (a : Act) (rest : List Out) → is_own a ≡ true → are_own rest ≡ true
    → are_own (stopped n h (out.Act a) rest) ≡ true
own-stopped n None a rest p q = grind (arith, p, q)
own-stopped n (Some h) a rest p q = refl

own-broken : (n : ℕ) (os : List Out) → are_own os ≡ true → are_own (broken n os) ≡ true
own-broken n [] e = refl
own-broken n (out.Act a ∷ os) e = own-stopped n (head_of a) a (broken n os) (grind (arith, e)) (own-broken n os (grind (arith, e)))
own-broken n (out.Send to said ∷ os) e = own-broken n os e

pub counts-kept : (b : Bool) (k j n : ℕ) (os : List Out) → Counts k j os → Counts k j (kept b n os)
counts-kept true k j n os c = c
counts-kept false k j n os c = record {
  sent = omega (arith, sends-broken n os, c.sent);
  held = omega (arith, helds-broken n os, c.held);
  own = own-broken n os c.own;
}
