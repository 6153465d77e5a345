-- Which messages are fit at a node. A message that is not fit has no act but its Got.
use Rattle.std.specs.Prelude.{◌+◌, Bool, true, ◌&&◌, ◌||◌, ◌==◌, not, nat_lt, nat_le, List, [], ◌∷◌, length, Option, Some, None}
use Rattle.score_base.specs.declared.ids.NodeId.{NodeId}
use Rattle.score_base.specs.declared.ids.TxId.{TxId}
use Rattle.score_base.specs.declared.ids.Ident.{Ident}
use Rattle.score_base.specs.declared.causes.Date.{Date}
use Rattle.score_base.specs.declared.causes.Date.TheVariants as date
use Rattle.score_base.specs.declared.causes.Outcome.{Outcome}
use Rattle.score_base.specs.declared.causes.Outcome.TheVariants as outcome
use Rattle.script_lang.specs.Scripts.{ScriptData}
use Rattle.placement.specs.Places.{is_among, holds}
use Rattle.placement.specs.Clusters.{ClusterData}
use Rattle.grid_model.specs.declared.messages.Message.{Message}
use Rattle.grid_model.specs.declared.messages.Message.TheVariants as message
use Rattle.grid_model.specs.declared.messages.Prepare.{Prepare}
use Rattle.grid_model.specs.declared.messages.ReadReq.{ReadReq}
use Rattle.grid_model.specs.declared.messages.ReadRep.{ReadRep}
use Rattle.journal_words.specs.Journals.{are_own_keys, keys_of_writes, pending}
use Rattle.grid_model.specs.Stories.{is_small, is_small_node, is_fit_ballot, is_part, is_counted_vote, is_counted_ack}
use Rattle.journal_words.specs.Participants.{Participant}
use Rattle.grid_model.specs.Views.{View, participant, Stage, Reads, Collects, stage, is_apart, phase_in}
use Rattle.grid_model.specs.Advances.{parts_now}

-- the number of a date
abbrev pub date_ident : Date → Ident
date_ident (date.First sid0) = sid0
date_ident (date.At sid) = sid

-- a read request names an operation, and n holds its key
abbrev pub is_fit_request : ClusterData → NodeId → ReadReq → Bool
is_fit_request c n q = is_small (date_ident q.date) && (nat_le 1 q.op && (nat_le q.op 32 && holds c.places n q.key))

-- the identifier is this one, where there is one
abbrev pub is_same_ident : Ident → Option Ident → Bool
is_same_ident sid None = true
is_same_ident sid (Some s) = s == sid

-- where the transaction reads that operation and has a snapshot, it is that of the reply
abbrev pub is_fit_reply : ReadRep → Stage → Bool
is_fit_reply q (Reads x j) = not (j == q.op) || is_same_ident q.sid x.progress.sid
is_fit_reply q s = true

-- rising nodes
abbrev pub is_rising : List NodeId → Bool
is_rising [] = true
is_rising (n ∷ []) = true
is_rising (n ∷ (m ∷ ns)) = nat_lt n m && is_rising (m ∷ ns)

-- 1 to 16 parts, rising, with n among them; at least one key, at most 32 a list, distinct in their list
-- and held by n
abbrev pub is_fit_prepare : ClusterData → NodeId → Prepare → Bool
is_fit_prepare c n q =
    is_small q.sid
    && (nat_le 1 (length q.parts) && (nat_le (length q.parts) 16 && (is_rising q.parts && (is_among n q.parts
    && (nat_le 1 (length q.reads + length q.writes) && (nat_le (length q.reads) 32 && (nat_le (length q.writes) 32
    && (are_own_keys c n q.reads && are_own_keys c n (keys_of_writes q.writes)))))))))

-- the parts of a transaction that is collecting
abbrev pub parts_asked : ClusterData → Stage → List NodeId
parts_asked c (Collects x) = parts_now c x
parts_asked c s = []

-- a sender of votes and acknowledgements is a part, where the transaction is collecting or decided
abbrev pub is_part_at : ClusterData → Stage → NodeId → Bool
is_part_at c s y = is_part (parts_asked c s) (phase_in s) y

-- a yes of x with this proposal counts where its transaction stands so
abbrev pub counts_vote : Participant → Stage → NodeId → Ident → Bool
counts_vote p s x proposal = is_counted_vote (parts_asked p.cluster s) (phase_in s) p.journal p.next x proposal

-- an acknowledgement of x counts where its transaction stands so
abbrev pub counts_ack : Participant → Stage → NodeId → Bool
counts_ack p s x = is_counted_ack (parts_asked p.cluster s) (phase_in s) p.journal p.next x

-- the identifier is at least this one, where there is one
abbrev pub is_at_least : Option Ident → Ident → Bool
is_at_least None f = true
is_at_least (Some p) f = nat_le p f

-- a final identifier is small, and at least the proposal where the transaction is pending
abbrev pub is_fit_outcome : Option Ident → Outcome → Bool
is_fit_outcome p (outcome.Commit f) = is_small f && is_at_least p f
is_fit_outcome p outcome.Abort = true

-- what the message says is fit at n, which got it from x and where its transaction stands so
abbrev pub is_fit_content : NodeId → Participant → Stage → NodeId → Message → Bool
is_fit_content n p s x (message.ReadReq q) = is_fit_request p.cluster n q
is_fit_content n p s x (message.ReadRep q) = is_small q.sid && is_fit_reply q s
is_fit_content n p s x (message.Prepare q) = is_fit_prepare p.cluster n q
is_fit_content n p s x (message.Vote t b) = is_fit_ballot b && is_part_at p.cluster s x
is_fit_content n p s x (message.Tell t o) = is_fit_outcome (pending t p.journal) o
is_fit_content n p s x (message.Ack t) = is_part_at p.cluster s x
is_fit_content n p s x (message.Ask t) = true
is_fit_content n p s x (message.AskPeer t) = true

-- the transaction of a message
abbrev pub tx_in : Message → TxId
tx_in (message.ReadReq q) = q.t
tx_in (message.ReadRep q) = q.t
tx_in (message.Prepare q) = q.t
tx_in (message.Vote t b) = t
tx_in (message.Tell t o) = t
tx_in (message.Ack t) = t
tx_in (message.Ask t) = t
tx_in (message.AskPeer t) = t

-- the message is fit where its transaction stands so
abbrev pub is_fit_at : NodeId → Participant → Stage → NodeId → Message → Bool
is_fit_at n p s x said = is_small_node p.journal p.next && is_fit_content n p s x said

-- the message is fit at n, which got it from x
abbrev pub is_fit : NodeId → View → NodeId → Message → Bool
is_fit n v x said = is_fit_at n (participant v) (stage v (tx_in said)) x said

-- a begin is fit at n: n is its home, the floor of its session is small, and its number is not at the desk
abbrev pub is_fit_begin : NodeId → View → ScriptData → Ident → Bool
is_fit_begin n v s floor = (s.home == n) && (is_small floor && is_apart (stage v s.number))
