-- What acts leave of the held reads of a node: each is held by a pending proposal, and a node that is down holds none.
use Rattle.cause_laws.proofs.UnheldOuts.{is_unheld}
use Rattle.grid_laws.proofs.Frames.{held-stays, is_still}
use Rattle.grid_model.specs.Excuses.{is_reply_of}
use Rattle.grid_model.specs.Documents.{DocumentData}
use Rattle.grid_model.specs.Histories.{after}
use Rattle.journal_words.specs.Journals.{is_clear, later}
use Rattle.grid_model.specs.Nodes.{Change, Node, Nothing, Raises, Stops, Writes, change, changed, doubt_of, got, is_home, node, parts_in, prepared_by, prepared_from, script_of, where_at}
use Rattle.grid_model.specs.declared.acts.Act.TheVariants as act
use Rattle.grid_model.specs.declared.acts.Act.{Act}
use Rattle.grid_model.specs.declared.messages.Envelope.{Envelope}
use Rattle.grid_model.specs.declared.messages.Message.TheVariants as message
use Rattle.grid_model.specs.declared.messages.Message.{Message}
use Rattle.grid_model.specs.declared.stories.HeldRead.{HeldRead}
use Rattle.score_base.specs.declared.ids.Ident.{Ident}
use Rattle.score_base.specs.declared.ids.NodeId.{NodeId}
use Rattle.score_base.specs.declared.ids.TxId.{TxId}
use Rattle.score_base.specs.declared.records.Record.TheVariants as record'
use Rattle.score_base.specs.declared.records.Record.{Record}
use Rattle.std.proofs.Common.{Bool, List, None, Option, Some, [], false, inl, inr, refl, subst, sym, true, ℕ, ◌||◌, ◌∷◌, ◌≡◌}
use Rattle.std.proofs.lemmas.Bool.{and_from, and_parts, or_cases, or_left, or_right}
use Rattle.std.specs.List.{list_all, list_any}
use Rattle.std.specs.Prelude.{nat_lt, not, ◌&&◌, ◌==◌}

-- a read of t for operation j is among these
abbrev pub has_read : TxId → ℕ → List HeldRead → Bool
has_read t j hs = list_any (λ h. h.t == t && h.op == j) hs

-- a pending proposal is at most its identifier
abbrev pub is_waiting_read : List Record → HeldRead → Bool
is_waiting_read r h = not (is_clear h.sid r)

-- each held read waits, and a node that is down holds none
pub record HoldsWaiting (x : Node) : Type 0 where
  pub waits : list_all (is_waiting_read x.journal) x.held ≡ true
  pub down : x.up ≡ false → x.held ≡ []

-- ---- records

abbrev is_no_end : Option Record → Bool
is_no_end (Some (record'.Ended t o)) = false
is_no_end o = true

clear-before : (sid : Ident) (y : Record) (r : List Record) → is_no_end (Some y) ≡ true → not (is_clear sid r) ≡ true
    → not (is_clear sid (y ∷ r)) ≡ true
clear-before sid (record'.Prepared u home ns i p rs ws) r e h = go (nat_lt sid p) (is_clear sid r) h
  where
    go : (a b : Bool) → not b ≡ true → not (a && b) ≡ true
    go true b h = h
    go false b h = refl
clear-before sid (record'.Ended u o) r e h = cc
clear-before sid y r e h = h

waits-before : (y : Record) (r : List Record) (hs : List HeldRead) → is_no_end (Some y) ≡ true
    → list_all (is_waiting_read r) hs ≡ true → list_all (is_waiting_read (y ∷ r)) hs ≡ true
waits-before y r [] e h = refl
waits-before y r (x ∷ hs) e h = let both = and_parts (is_waiting_read r x) (list_all (is_waiting_read r) hs) h in and_from (is_waiting_read (y ∷ r) x) (list_all (is_waiting_read (y ∷ r)) hs) (clear-before x.sid y r e both.0) (waits-before y r hs e both.1)

-- ---- changes

abbrev is_mild : Change → Bool
is_mild Nothing = true
is_mild (Writes o) = is_no_end o
is_mild (Raises sid) = true
is_mild (Stops o) = true
is_mild c = false

mild-changed : (c : Change) (x : Node) → is_mild c ≡ true → HoldsWaiting x → HoldsWaiting (changed c x)
mild-changed Nothing x m h = h
mild-changed (Writes None) x m h = record { waits = h.waits; down = h.down }
mild-changed (Writes (Some y)) x m h = record { waits = waits-before y x.journal x.held m h.waits; down = h.down }
mild-changed (Raises sid) x m h = record { waits = h.waits; down = h.down }
mild-changed (Stops o) x m h = record { waits = refl; down = λ e. refl }
mild-changed w x m h = cc

mild-where : (b : Bool) (c : Change) → is_mild c ≡ true → is_mild (where_at b c) ≡ true
mild-where true c h = h
mild-where false c h = refl

mild-prepared : (e : Option Envelope) (t : TxId) (p : Ident) → is_no_end (prepared_by e t p) ≡ true
mild-prepared None t p = refl
mild-prepared (Some e) t p = from e.from e.message
  where
    from : (x : NodeId) (said : Message) → is_no_end (prepared_from x said t p) ≡ true
    from x (message.Prepare q) = refl
    from x (message.ReadReq q) = refl
    from x (message.ReadRep q) = refl
    from x (message.Vote u b) = refl
    from x (message.Tell u o) = refl
    from x (message.Ack u) = refl
    from x (message.Ask u) = refl
    from x (message.AskPeer u) = refl

mild-change : (d : DocumentData) (e : Option Envelope) (a : Act) (n : NodeId) → is_unheld a ≡ true
    → is_mild (change d e a n) ≡ true
mild-change d e (act.Prepared m t p) n h = mild-where (m == n) (Writes (prepared_by e t p)) (mild-prepared e t p)
mild-change d e (act.Ended m t o) n h = cc
mild-change d e (act.Ceiling m c) n h = mild-where (m == n) (Writes (Some (record'.Ceiling c))) refl
mild-change d e (act.Decided t f) n h = mild-where (is_home d t n) (Writes (Some (record'.Decided t f (parts_in d (script_of t d.scripts))))) refl
mild-change d e (act.Closed t) n h = mild-where (is_home d t n) (Writes (Some (record'.Closed t))) refl
mild-change d e (act.Raised m sid) n h = mild-where (m == n) (Raises sid) refl
mild-change d e (act.Held m t op sid) n h = cc
mild-change d e (act.Served m t op k sid vn v) n h = cc
mild-change d e (act.Down m o) n h = mild-where (m == n) (Stops (doubt_of d e o)) refl
mild-change d e (act.Up m f) n h = cc
mild-change d e (act.StillDown m) n h = cc
mild-change d e a n h = refl

pub unheld-waiting : (d : DocumentData) (past : List Act) (a : Act) (n : NodeId) → is_unheld a ≡ true
    → HoldsWaiting (node d past n) → HoldsWaiting (node d (a ∷ past) n)
unheld-waiting d past a n u h = mild-changed (change d (got past) a n) (node d past n) (mild-change d (got past) a n u) h

pub waiting-later : (d : DocumentData) (past acts : List Act) (n : NodeId) → list_all is_unheld acts ≡ true
    → HoldsWaiting (node d past n) → HoldsWaiting (node d (after past acts) n)
waiting-later d past [] n u h = h
waiting-later d past (a ∷ acts) n u h = let both = and_parts (is_unheld a) (list_all is_unheld acts) u in waiting-later d (a ∷ past) acts n both.1 (unheld-waiting d past a n both.0 h)

-- ---- a read is held until it is answered or the node stops

-- n answers operation j of t, or stops
abbrev pub is_serving : NodeId → TxId → ℕ → Act → Bool
is_serving n t j (act.Sent m x y said) = x == n && is_reply_of t j said
is_serving n t j (act.Down m h) = m == n
is_serving n t j a = false

stop-read : (t : TxId) (j : ℕ) (b : Bool) (o : Option Record) (x : Node) → has_read t j x.held ≡ true
    → (b || has_read t j (changed (where_at b (Stops o)) x).held) ≡ true
stop-read t j true o x h = refl
stop-read t j false o x h = h

still-read : (d : DocumentData) (past : List Act) (a : Act) (n : NodeId) (t : TxId) (j : ℕ) → is_still a ≡ true
    → has_read t j (node d past n).held ≡ true → (is_serving n t j a || has_read t j (node d (a ∷ past) n).held) ≡ true
still-read d past a n t j s h =
    let P : List HeldRead → Type 0 = λ hs. has_read t j hs ≡ true in
    or_right (is_serving n t j a) (has_read t j (node d (a ∷ past) n).held) (subst P (sym (held-stays d (got past) a n (node d past n) s)) h)

pub unheld-read : (d : DocumentData) (past : List Act) (a : Act) (n : NodeId) (t : TxId) (j : ℕ) → is_unheld a ≡ true
    → has_read t j (node d past n).held ≡ true → (is_serving n t j a || has_read t j (node d (a ∷ past) n).held) ≡ true
unheld-read d past (act.Down m o) n t j u h = stop-read t j (m == n) (doubt_of d (got past) o) (node d past n) h
unheld-read d past (act.Held m v op sid) n t j u h = cc
unheld-read d past (act.Served m v op k sid vn w) n t j u h = cc
unheld-read d past a n t j u h = still-read d past a n t j refl h

-- these acts serve it, or it is held behind them
abbrev pub IsKeptRead : DocumentData → List Act → List Act → NodeId → TxId → ℕ → Type 0
IsKeptRead d past acts n t j =
    (list_any (is_serving n t j) acts || has_read t j (node d (after past acts) n).held) ≡ true

-- a read that is served by an act, or that later acts keep, is kept by all of them
pub kept-behind : (d : DocumentData) (past : List Act) (a : Act) (acts : List Act) (n : NodeId) (t : TxId) (j : ℕ)
    → (is_serving n t j a || has_read t j (node d (a ∷ past) n).held) ≡ true
    → (has_read t j (node d (a ∷ past) n).held ≡ true → IsKeptRead d (a ∷ past) acts n t j)
    → IsKeptRead d past (a ∷ acts) n t j
kept-behind d past a acts n t j h go = elim (or_cases (is_serving n t j a) (has_read t j (node d (a ∷ past) n).held) h) [
  | inl here ↦ or_left (is_serving n t j a || list_any (is_serving n t j) acts) (has_read t j (node d (after past (a ∷ acts)) n).held) (or_left (is_serving n t j a) (list_any (is_serving n t j) acts) here)
  | inr later ↦ moved (is_serving n t j a) (list_any (is_serving n t j) acts) (has_read t j (node d (after past (a ∷ acts)) n).held) (go later)
]
  where
    moved : (x y z : Bool) → (y || z) ≡ true → ((x || y) || z) ≡ true
    moved true y z e = refl
    moved false y z e = e

pub unheld-kept : (d : DocumentData) (past acts : List Act) (n : NodeId) (t : TxId) (j : ℕ)
    → list_all is_unheld acts ≡ true → has_read t j (node d past n).held ≡ true → IsKeptRead d past acts n t j
unheld-kept d past [] n t j u h = h
unheld-kept d past (a ∷ acts) n t j u h = let both = and_parts (is_unheld a) (list_all is_unheld acts) u in kept-behind d past a acts n t j (unheld-read d past a n t j both.0 h) (λ k. unheld-kept d (a ∷ past) acts n t j both.1 k)
