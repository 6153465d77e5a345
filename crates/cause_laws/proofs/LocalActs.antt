-- A request or an outcome that is got changes no other node than that which gets it.
use Rattle.grid_laws.proofs.Frames.{same-number}
use Rattle.grid_laws.proofs.RowOuts.{Pass, is_of_row, is_touching, pass-acts, pass-answer}
use Rattle.grid_model.specs.Documents.{DocumentData}
use Rattle.grid_model.specs.Histories.{after}
use Rattle.grid_model.specs.Nodes.{Change, Holds, Node, Raises, Stops, Writes, changed, doubt_of, freed, got, held_by, is_request, node, said_by, where_at}
use Rattle.grid_model.specs.Rows.{answer}
use Rattle.grid_model.specs.Schedules.{kept, numbered}
use Rattle.grid_model.specs.Views.{View}
use Rattle.grid_model.specs.declared.acts.Act.TheVariants as act
use Rattle.grid_model.specs.declared.acts.Act.{Act}
use Rattle.grid_model.specs.declared.events.Out.{Out}
use Rattle.grid_model.specs.declared.messages.Message.TheVariants as message
use Rattle.grid_model.specs.declared.messages.Message.{Message}
use Rattle.grid_model.specs.declared.messages.ReadReq.{ReadReq}
use Rattle.score_base.specs.declared.causes.Outcome.{Outcome}
use Rattle.score_base.specs.declared.ids.NodeId.{NodeId}
use Rattle.score_base.specs.declared.ids.TxId.{TxId}
use Rattle.score_base.specs.declared.records.Record.TheVariants as record'
use Rattle.std.proofs.Common.{Bool, List, Some, [], arith, false, refl, subst, true, ℕ, ◌∙◌, ◌∷◌, ◌≡◌, ◌≢◌}
use Rattle.std.proofs.lemmas.Bool.Decides.{nat_tests}
use Rattle.std.proofs.lemmas.Bool.{and_parts}
use Rattle.std.specs.List.{list_all}
use Rattle.std.specs.Prelude.{◌==◌}

-- ---- acts at one node

-- an act that changes no other node than k
abbrev pub is_local : NodeId → Act → Bool
is_local k (act.Held m t op sid) = m == k
is_local k (act.Served m t op key sid vn v) = m == k
is_local k (act.Ended m t o) = m == k
is_local k (act.Ceiling m c) = m == k
is_local k (act.Raised m sid) = m == k
is_local k (act.Down m h) = m == k
is_local k (act.Sent m x y said) = true
is_local k a = false

local-where : (k m n : NodeId) (c : Change) (x : Node) → (m == k) ≡ true → k ≢ n → changed (where_at (m == n) c) x ≡ x
local-where k m n c x at other =
    let P : Bool → Type 0 = λ b. changed (where_at b c) x ≡ x in
    let e : false ≡ (m == n) = grind (arith, nat_tests, at, other) in
    subst P e refl

local-node : (d : DocumentData) (past : List Act) (a : Act) (k n : NodeId) → is_local k a ≡ true → k ≢ n
    → node d (a ∷ past) n ≡ node d past n
local-node d past (act.Held m t op sid) k n h other =
    local-where k m n (Holds (held_by (got past) t op sid)) (node d past n) h other
local-node d past (act.Served m t op key sid vn v) k n h other =
    local-where k m n (freed (is_request (said_by (got past))) t op key sid) (node d past n) h other
local-node d past (act.Ended m t o) k n h other =
    local-where k m n (Writes (Some (record'.Ended t o))) (node d past n) h other
local-node d past (act.Ceiling m c) k n h other =
    local-where k m n (Writes (Some (record'.Ceiling c))) (node d past n) h other
local-node d past (act.Raised m sid) k n h other = local-where k m n (Raises sid) (node d past n) h other
local-node d past (act.Down m o) k n h other =
    local-where k m n (Stops (doubt_of d (got past) o)) (node d past n) h other
local-node d past (act.Sent m x y said) k n h other = refl
local-node d past a k n h other = cc

pub local-later : (d : DocumentData) (past acts : List Act) (k n : NodeId) → list_all (is_local k) acts ≡ true → k ≢ n
    → node d (after past acts) n ≡ node d past n
local-later d past [] k n h other = refl
local-later d past (a ∷ acts) k n h other = let both = and_parts (is_local k a) (list_all (is_local k) acts) h in local-later d (a ∷ past) acts k n both.1 other ∙ local-node d past a k n both.0 other

-- with a stop in a record or without
pub local-acts : (k : NodeId) (m : ℕ) (b : Bool) (os : List Out) → Pass (is_local k) os
    → list_all (is_local k) (numbered m k (kept b k os)) ≡ true
local-acts k m b os h = pass-acts (is_local k) k (λ j y said. refl) (λ x. same-number k) m b os h

request-local : (k : NodeId) (q : ReadReq) (a : Act) → is_of_row k (message.ReadReq q) a ≡ true → is_local k a ≡ true
request-local k q (act.Held m t op sid) is = is
request-local k q (act.Served m t op key sid vn v) is = is
request-local k q (act.Ceiling m c) is = is
request-local k q (act.Raised m sid) is = is
request-local k q a is = cc

outcome-local : (k : NodeId) (t : TxId) (o : Outcome) (a : Act) → is_of_row k (message.Tell t o) a ≡ true
    → is_local k a ≡ true
outcome-local k t o (act.Served m u op key sid vn v) is = is
outcome-local k t o (act.Ended m u p) is = is
outcome-local k t o a is = cc

-- a request or an outcome changes its node alone
pub local-answer : (k : NodeId) (v : View) (x : NodeId) (said : Message) → is_touching said ≡ true
    → Pass (is_local k) (answer k v x said)
local-answer k v x (message.ReadReq q) h = pass-answer (is_local k) k v x (message.ReadReq q) (request-local k q)
local-answer k v x (message.Tell t o) h = pass-answer (is_local k) k v x (message.Tell t o) (outcome-local k t o)
local-answer k v x said h = cc
