-- The line of an act: its words behind single spaces, and a line feed.
use Rattle.std.specs.Prelude.{ℕ, List, [], ◌∷◌, ◌++◌, length, map, codes, Option, Some, None}
use Rattle.std.specs.Fmt.{decimal}
use Rattle.std.specs.List.{flat_map}
use Rattle.score_base.specs.declared.ids.NodeId.{NodeId}
use Rattle.score_base.specs.declared.ids.Value.{Value}
use Rattle.score_base.specs.declared.keys.Key.{Key}
use Rattle.score_base.specs.declared.causes.Outcome.{Outcome}
use Rattle.score_base.specs.declared.causes.Outcome.TheVariants as outcome
use Rattle.score_base.specs.declared.causes.Cause.{Cause}
use Rattle.score_base.specs.declared.causes.Cause.TheVariants as cause
use Rattle.score_base.specs.declared.causes.Ballot.{Ballot}
use Rattle.score_base.specs.declared.causes.Ballot.TheVariants as ballot
use Rattle.score_base.specs.declared.causes.Date.{Date}
use Rattle.score_base.specs.declared.causes.Date.TheVariants as date
use Rattle.grid_model.specs.declared.acts.Act.{Act}
use Rattle.grid_model.specs.declared.acts.Act.TheVariants as act
use Rattle.grid_model.specs.declared.acts.Head.{Head}
use Rattle.grid_model.specs.declared.acts.Head.TheVariants as head
use Rattle.grid_model.specs.declared.acts.Flag.{Flag}
use Rattle.grid_model.specs.declared.acts.Flag.TheVariants as flag
use Rattle.grid_model.specs.declared.messages.Message.{Message}
use Rattle.grid_model.specs.declared.messages.Message.TheVariants as message
use Rattle.grid_model.specs.declared.messages.ReadReq.{ReadReq}
use Rattle.grid_model.specs.declared.messages.ReadRep.{ReadRep}
use Rattle.grid_model.specs.declared.messages.Prepare.{Prepare}

-- ---- words and lines

-- a word behind a space
abbrev pub behind_space : List ℕ → List ℕ
behind_space word = codes " " ++ word

-- words, each behind a space
abbrev pub spaced : List (List ℕ) → List ℕ
spaced words = flat_map behind_space words

-- words with single spaces between them
abbrev pub joined : List (List ℕ) → List ℕ
joined [] = []
joined (word ∷ words) = word ++ spaced words

-- the line of these words
abbrev pub line : List (List ℕ) → List ℕ
line words = joined words ++ codes "\n"

-- a node
abbrev pub node_word : NodeId → List ℕ
node_word n = codes "n" ++ decimal n

-- ---- what messages and acts are made of

-- how a transaction ends
unfoldable pub outcome_words : Outcome → List (List ℕ)
outcome_words (outcome.Commit f) = codes "commit" ∷ decimal f ∷ []
outcome_words outcome.Abort = codes "abort" ∷ []

-- why a participant votes no
unfoldable pub cause_words : Cause → List (List ℕ)
cause_words (cause.Holder u) = codes "holder" ∷ decimal u ∷ []
cause_words (cause.Newer k f) = codes "newer" ∷ k ∷ decimal f ∷ []

-- a vote
unfoldable pub ballot_words : Ballot → List (List ℕ)
ballot_words (ballot.Yes p) = codes "yes" ∷ decimal p ∷ []
ballot_words (ballot.No c) = codes "no" ∷ cause_words c

-- how a read request is dated
unfoldable pub date_words : Date → List (List ℕ)
date_words (date.First sid0) = codes "first" ∷ decimal sid0 ∷ []
date_words (date.At sid) = codes "at" ∷ decimal sid ∷ []

-- what an opening found of the record that was being written
unfoldable pub flag_words : Flag → List (List ℕ)
flag_words flag.Untouched = codes "none" ∷ []
flag_words flag.Kept = codes "kept" ∷ []
flag_words flag.Gone = codes "gone" ∷ []

-- the head of a record
unfoldable pub record_words : Head → List (List ℕ)
record_words (head.Prepared t p) = codes "prepared" ∷ decimal t ∷ decimal p ∷ []
record_words (head.Ended t o) = codes "ended" ∷ decimal t ∷ outcome_words o
record_words (head.Ceiling c) = codes "ceiling" ∷ decimal c ∷ []
record_words (head.Decided t f) = codes "decided" ∷ decimal t ∷ decimal f ∷ []
record_words (head.Closed t) = codes "closed" ∷ decimal t ∷ []
record_words head.Compact = codes "compact" ∷ []

-- the head of the record that was being written where there was one
unfoldable pub head_words : Option Head → List (List ℕ)
head_words None = codes "none" ∷ []
head_words (Some h) = record_words h

-- ---- messages

-- nodes, their number first
unfoldable pub nodes_words : List NodeId → List (List ℕ)
nodes_words ns = decimal (length ns) ∷ map node_word ns

-- keys, their number first
unfoldable pub keys_words : List Key → List (List ℕ)
keys_words ks = decimal (length ks) ∷ ks

-- a written key and its value
abbrev pub write_words : Key × Value → List (List ℕ)
write_words w = w.0 ∷ decimal w.1 ∷ []

-- keys with their values, the number of the keys first
unfoldable pub writes_words : List (Key × Value) → List (List ℕ)
writes_words ws = decimal (length ws) ∷ flat_map write_words ws

-- a request to read
unfoldable pub readreq_words : ReadReq → List (List ℕ)
readreq_words q = codes "readreq" ∷ decimal q.t ∷ decimal q.op ∷ q.key ∷ date_words q.date

-- a reply to it
unfoldable pub readrep_words : ReadRep → List (List ℕ)
readrep_words q = codes "readrep" ∷ decimal q.t ∷ decimal q.op ∷ decimal q.sid ∷ decimal q.value ∷ []

-- a request to vote
unfoldable pub prepare_words : Prepare → List (List ℕ)
prepare_words q =
    codes "prepare" ∷ decimal q.t ∷ decimal q.sid ∷ codes "parts" ∷ nodes_words q.parts
    ++ codes "reads" ∷ keys_words q.reads
    ++ codes "writes" ∷ writes_words q.writes

-- the words of a message, its kind first
unfoldable pub message_words : Message → List (List ℕ)
message_words (message.ReadReq q) = readreq_words q
message_words (message.ReadRep q) = readrep_words q
message_words (message.Prepare q) = prepare_words q
message_words (message.Vote t b) = codes "vote" ∷ decimal t ∷ ballot_words b
message_words (message.Tell t o) = codes "tell" ∷ decimal t ∷ outcome_words o
message_words (message.Ack t) = codes "ack" ∷ decimal t ∷ []
message_words (message.Ask t) = codes "ask" ∷ decimal t ∷ []
message_words (message.AskPeer t) = codes "askpeer" ∷ decimal t ∷ []

-- ---- acts

-- the words of an act, its kind first
unfoldable pub act_words : Act → List (List ℕ)
act_words (act.Began t n sid0) = codes "began" ∷ decimal t ∷ node_word n ∷ decimal sid0 ∷ []
act_words (act.Sent m from to said) = codes "sent" ∷ decimal m ∷ node_word from ∷ node_word to ∷ message_words said
act_words (act.Got m) = codes "got" ∷ decimal m ∷ []
act_words (act.Missed m) = codes "missed" ∷ decimal m ∷ []
act_words (act.Dropped m) = codes "dropped" ∷ decimal m ∷ []
act_words (act.Void code) = codes "void" ∷ decimal code ∷ []
act_words (act.Armed n k how) = codes "armed" ∷ node_word n ∷ decimal k ∷ decimal how ∷ []
act_words (act.Raised n sid) = codes "raised" ∷ node_word n ∷ decimal sid ∷ []
act_words (act.Served n t op k sid vn value) =
    codes "served" ∷ node_word n ∷ decimal t ∷ decimal op ∷ k ∷ decimal sid ∷ decimal vn ∷ decimal value ∷ []
act_words (act.Held n t op sid) = codes "held" ∷ node_word n ∷ decimal t ∷ decimal op ∷ decimal sid ∷ []
act_words (act.Taken t op sid value) = codes "taken" ∷ decimal t ∷ decimal op ∷ decimal sid ∷ decimal value ∷ []
act_words (act.Own t op value) = codes "own" ∷ decimal t ∷ decimal op ∷ decimal value ∷ []
act_words (act.Prepared n t p) = codes "prepared" ∷ node_word n ∷ decimal t ∷ decimal p ∷ []
act_words (act.Refused n t c) = codes "refused" ∷ node_word n ∷ decimal t ∷ cause_words c
act_words (act.Ended n t o) = codes "ended" ∷ node_word n ∷ decimal t ∷ outcome_words o
act_words (act.Ceiling n c) = codes "ceiling" ∷ node_word n ∷ decimal c ∷ []
act_words (act.Decided t f) = codes "decided" ∷ decimal t ∷ decimal f ∷ []
act_words (act.Aborted t n c) = codes "aborted" ∷ decimal t ∷ node_word n ∷ cause_words c
act_words (act.Finished t) = codes "finished" ∷ decimal t ∷ []
act_words (act.Closed t) = codes "closed" ∷ decimal t ∷ []
act_words (act.Compacted n) = codes "compacted" ∷ node_word n ∷ []
act_words (act.Down n h) = codes "down" ∷ node_word n ∷ head_words h
act_words (act.Up n f) = codes "up" ∷ node_word n ∷ flag_words f
act_words (act.StillDown n) = codes "stilldown" ∷ node_word n ∷ []
act_words (act.Lost t) = codes "lost" ∷ decimal t ∷ []

-- the line of an act
unfoldable pub act_line : Act → List ℕ
act_line a = line (act_words a)
