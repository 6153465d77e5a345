-- Each request and Prepare that was sent comes from the home of its transaction, and each reply and vote goes to it.
use Rattle.cause_laws.proofs.Ends.{HasEnds, ends-due}
use Rattle.grid_laws.proofs.Causes.{AllDue}
use Rattle.grid_model.specs.Documents.{DocumentData, IsOne}
use Rattle.grid_model.specs.Excuses.{GotAt, has_sent, is_prepare_of, is_reply_of, is_request_of, is_vote_of}
use Rattle.grid_model.specs.Nodes.{is_home}
use Rattle.grid_model.specs.declared.acts.Act.TheVariants as act
use Rattle.grid_model.specs.declared.acts.Act.{Act}
use Rattle.grid_model.specs.declared.messages.Message.TheVariants as message
use Rattle.grid_model.specs.declared.messages.Message.{Message}
use Rattle.score_base.specs.declared.ids.NodeId.{NodeId}
use Rattle.score_base.specs.declared.ids.TxId.{TxId}
use Rattle.std.proofs.Common.{Bool, List, [], arith, inl, inr, subst, sym, true, ℕ, ◌++◌, ◌∷◌, ◌≡◌}
use Rattle.std.proofs.lemmas.Bool.Decides.{nat_tests}
use Rattle.std.proofs.lemmas.Bool.{and_from, and_parts, or_cases, or_left, or_right}
use Rattle.std.proofs.lemmas.List.{append-nil}
use Rattle.std.specs.Prelude.{◌&&◌, ◌==◌}

-- ---- a message that was sent has its ends

-- what follows of a message from its ends
abbrev Tells : DocumentData → (NodeId → NodeId → Message → Bool) → (NodeId → NodeId → Message → Bool) → Type 0
Tells d p q = (x y : NodeId) (said : Message) → HasEnds d x y said → p x y said ≡ true → q x y said ≡ true

sent-tells : (d : DocumentData) (p q : NodeId → NodeId → Message → Bool) (later before : List Act) → IsOne d
    → AllDue d (later ++ before) → Tells d p q → has_sent p later ≡ true → has_sent q later ≡ true
sent-tells d p q [] before one due tells h = cc
sent-tells d p q (act.Sent m x y said ∷ later) before one due tells h = elim (or_cases (p x y said) (has_sent p later) h) [
  | inl here ↦ or_left (q x y said) (has_sent q later) (tells x y said (ends-due d (later ++ before) x y said one due.1 due.0) here)
  | inr there ↦ or_right (q x y said) (has_sent q later) (sent-tells d p q later before one due.1 tells there)
]
sent-tells d p q (a ∷ later) before one due tells h = sent-tells d p q later before one due.1 tells h

-- behind a Got
later-tells : (d : DocumentData) (p q r : NodeId → NodeId → Message → Bool) (past : List Act) (n : NodeId)
    (later : List Act) → IsOne d → AllDue d past → GotAt r past n later → Tells d p q → has_sent p later ≡ true
    → has_sent q later ≡ true
later-tells d p q r past n later one due g tells h =
    let P : List Act → Type 0 = λ acts. AllDue d acts in
    sent-tells d p q later (act.Got g.m ∷ g.before) one (subst P g.there due) tells h

all-tells : (d : DocumentData) (p q : NodeId → NodeId → Message → Bool) (past : List Act) → IsOne d → AllDue d past
    → Tells d p q → has_sent p past ≡ true → has_sent q past ≡ true
all-tells d p q past one due tells h =
    let P : List Act → Type 0 = λ acts. AllDue d acts in
    sent-tells d p q past [] one (subst P (sym (append-nil past)) due) tells h

-- ---- the home of each of them

same-home : (d : DocumentData) (t u : TxId) (x : NodeId) → (u == t) ≡ true → is_home d u x ≡ true → is_home d t x ≡ true
same-home d t u x e h =
    let same : u ≡ t = grind (arith, nat_tests, e) in
    let P : TxId → Type 0 = λ z. is_home d z x ≡ true in
    subst P same h

request-home : (d : DocumentData) (t : TxId) (j : ℕ) (x y : NodeId) (said : Message) → HasEnds d x y said
    → is_request_of t j said ≡ true → is_home d t x ≡ true
request-home d t j x y (message.ReadReq q) ends h = same-home d t q.t x (and_parts (q.t == t) (q.op == j) h).0 ends.home
request-home d t j x y said ends h = cc

reply-home : (d : DocumentData) (t : TxId) (j : ℕ) (x y : NodeId) (said : Message) → HasEnds d x y said
    → is_reply_of t j said ≡ true → is_home d t y ≡ true
reply-home d t j x y (message.ReadRep q) ends h = same-home d t q.t y (and_parts (q.t == t) (q.op == j) h).0 ends.home
reply-home d t j x y said ends h = cc

prepare-home : (d : DocumentData) (t : TxId) (x y : NodeId) (said : Message) → HasEnds d x y said
    → is_prepare_of t said ≡ true → is_home d t x ≡ true
prepare-home d t x y (message.Prepare q) ends h = same-home d t q.t x h ends.home
prepare-home d t x y said ends h = cc

vote-home : (d : DocumentData) (t : TxId) (x y : NodeId) (said : Message) → HasEnds d x y said
    → is_vote_of t said ≡ true → is_home d t y ≡ true
vote-home d t x y (message.Vote u b) ends h = same-home d t u y h ends.home
vote-home d t x y said ends h = cc

-- ---- what was sent

-- a request that was sent was sent by the home
pub requests-sent : (d : DocumentData) (past : List Act) (t : TxId) (j : ℕ) → IsOne d → AllDue d past
    → has_sent (λ x y said. is_request_of t j said) past ≡ true
    → has_sent (λ x y said. is_home d t x && is_request_of t j said) past ≡ true
requests-sent d past t j one due h = all-tells d (λ x y said. is_request_of t j said) (λ x y said. is_home d t x && is_request_of t j said) past one due (λ x y said ends is. and_from (is_home d t x) (is_request_of t j said) (request-home d t j x y said ends is) is) h

-- a Prepare that was sent to a part was sent by the home
pub prepares-sent : (d : DocumentData) (past : List Act) (t : TxId) (n : NodeId) → IsOne d → AllDue d past
    → has_sent (λ x y said. y == n && is_prepare_of t said) past ≡ true
    → has_sent (λ x y said. is_home d t x && (y == n && is_prepare_of t said)) past ≡ true
prepares-sent d past t n one due h = all-tells d (λ x y said. y == n && is_prepare_of t said) (λ x y said. is_home d t x && (y == n && is_prepare_of t said)) past one due (λ x y said ends is. and_from (is_home d t x) (y == n && is_prepare_of t said) (prepare-home d t x y said ends (and_parts (y == n) (is_prepare_of t said) is).1) is) h

-- a reply of n that was sent behind a Got was sent to the home
pub replies-sent : (d : DocumentData) (p : NodeId → NodeId → Message → Bool) (past : List Act) (t : TxId) (j : ℕ)
    (n k : NodeId) (later : List Act) → IsOne d → AllDue d past → GotAt p past k later
    → has_sent (λ x y said. x == n && is_reply_of t j said) later ≡ true
    → has_sent (λ x y said. x == n && (is_home d t y && is_reply_of t j said)) later ≡ true
replies-sent d p past t j n k later one due g h =
    later-tells d (λ x y said. x == n && is_reply_of t j said) (λ x y said. x == n && (is_home d t y && is_reply_of t j said)) p past k later one due g
    (λ x y said ends is.
    let both = and_parts (x == n) (is_reply_of t j said) is in
    and_from (x == n) (is_home d t y && is_reply_of t j said) both.0 (and_from (is_home d t y) (is_reply_of t j said) (reply-home d t j x y said ends both.1) both.1))
    h

-- a vote of n that was sent behind a Got was sent to the home
pub votes-sent : (d : DocumentData) (p : NodeId → NodeId → Message → Bool) (past : List Act) (t : TxId) (n k : NodeId)
    (later : List Act) → IsOne d → AllDue d past → GotAt p past k later
    → has_sent (λ x y said. x == n && is_vote_of t said) later ≡ true
    → has_sent (λ x y said. x == n && (is_home d t y && is_vote_of t said)) later ≡ true
votes-sent d p past t n k later one due g h =
    later-tells d (λ x y said. x == n && is_vote_of t said) (λ x y said. x == n && (is_home d t y && is_vote_of t said)) p past k later one due g
    (λ x y said ends is.
    let both = and_parts (x == n) (is_vote_of t said) is in
    and_from (x == n) (is_home d t y && is_vote_of t said) both.0 (and_from (is_home d t y) (is_vote_of t said) (vote-home d t x y said ends both.1) both.1))
    h
