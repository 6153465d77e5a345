-- What acts add: the messages that they send and the reads that they hold, act by act.
use Rattle.std.proofs.Common.{◌≡◌, ℕ, ◌+◌, ◌≤◌, ◌==◌, Bool, true, false, List, [], ◌∷◌, length, length-append, refl, ap, ◌∙◌, Option, Some, None, arith, if◌then◌else◌}
use Rattle.score_base.specs.declared.keys.Key.{Key}
use Rattle.score_base.specs.declared.records.Record.TheVariants as record'
use Rattle.grid_model.specs.declared.acts.Act.{Act}
use Rattle.grid_model.specs.declared.acts.Act.TheVariants as act
use Rattle.grid_model.specs.declared.events.Out.{Out}
use Rattle.grid_model.specs.declared.events.Out.TheVariants as out
use Rattle.grid_model.specs.declared.messages.Envelope.{Envelope}
use Rattle.grid_model.specs.declared.stories.HeldRead.{HeldRead}
use Rattle.grid_model.specs.Documents.{DocumentData}
use Rattle.grid_model.specs.Histories.{after, sent}
use Rattle.grid_model.specs.Nodes.{Node, node, got, Change, Writes, Raises, Holds, Stops, Starts, Stays, where_at, change, changed, with_held, without_read, is_read, freed, held_by, is_request, said_by, is_home, prepared_by, parts_in, script_of, doubt_of, is_kept}
use Rattle.grid_model.specs.Schedules.{numbered}
use Rattle.count_laws.specs.Few.{sends}
use Rattle.count_laws.proofs.Counts.{helds, is_own, are_own, Counts}

-- how many messages these acts send, and how many reads they hold
abbrev pub posts : List Act → ℕ
posts [] = 0
posts (act.Sent m x y said ∷ acts) = 1 + posts acts
posts (a ∷ acts) = posts acts

abbrev pub holdings : List Act → ℕ
holdings [] = 0
holdings (act.Held n t op sid ∷ acts) = 1 + holdings acts
holdings (a ∷ acts) = holdings acts

posts-own : (a : Act) (acts : List Act) → is_own a ≡ true → posts (a ∷ acts) ≡ posts acts
posts-own a acts e = grind arith

posts-numbered : (m n : ℕ) (os : List Out) → are_own os ≡ true → posts (numbered m n os) ≡ sends os
posts-numbered m n [] e = refl
posts-numbered m n (out.Act a ∷ os) e = grind (arith, posts-own a (numbered m n os), posts-numbered m n os)
posts-numbered m n (out.Send to said ∷ os) e = ap (λ k. 1 + k) (posts-numbered (m + 1) n os e)

pub holdings-numbered : (m n : ℕ) (os : List Out) → holdings (numbered m n os) ≡ helds os
holdings-numbered m n [] = refl
holdings-numbered m n (out.Act (act.Held k t op sid) ∷ os) = ap (λ j. 1 + j) (holdings-numbered m n os)
holdings-numbered m n (out.Act a ∷ os) = holdings-numbered m n os
holdings-numbered m n (out.Send to said ∷ os) = holdings-numbered (m + 1) n os

-- ---- messages

sent-one : (a : Act) (acts : List Act) (past : List Act)
    → length (sent (a ∷ past)) + posts acts ≡ length (sent past) + posts (a ∷ acts)
sent-one (act.Sent m x y said) acts past = omega (arith, length-append (sent past) (record { from = x; to = y; message = said } ∷ []))
sent-one a acts past = refl

pub sent-after : (past acts : List Act) → length (sent (after past acts)) ≡ length (sent past) + posts acts
sent-after past [] = omega arith
sent-after past (a ∷ acts) = sent-after (a ∷ past) acts ∙ sent-one a acts past

-- ---- held reads

without-short : (t op : ℕ) (k : Key) (sid : ℕ) (hs : List HeldRead) → length (without_read t op k sid hs) ≤ length hs
without-short t op k sid [] = omega arith
without-short t op k sid (h ∷ hs) = go (is_read t op k sid h) (without-short t op k sid hs)
  where
    go : (b : Bool) → length (without_read t op k sid hs) ≤ length hs
        → length (if b then hs else h ∷ without_read t op k sid hs) ≤ length (h ∷ hs)
    go true p = omega arith
    go false p = omega (arith, p)

held-longer : (o : Option HeldRead) (hs : List HeldRead) → length (with_held o hs) ≤ length hs + 1
held-longer None hs = omega arith
held-longer (Some h) hs = omega (arith, length-append hs (h ∷ []))

-- a change that holds no read
held-at : (b : Bool) (c : Change) (x : Node) → length (changed c x).held ≤ length x.held
    → length (changed (where_at b c) x).held ≤ length x.held
held-at true c x p = p
held-at false c x p = omega arith

held-one-at : (b : Bool) (o : Option HeldRead) (x : Node)
    → length (changed (where_at b (Holds o)) x).held ≤ length x.held + 1
held-one-at true o x = held-longer o x.held
held-one-at false o x = omega arith

held-freed : (b : Bool) (t op : ℕ) (k : Key) (sid : ℕ) (x : Node)
    → length (changed (freed b t op k sid) x).held ≤ length x.held
held-freed true t op k sid x = omega arith
held-freed false t op k sid x = without-short t op k sid x.held

held-one : (d : DocumentData) (e : Option Envelope) (a : Act) (acts : List Act) (n : ℕ) (x : Node)
    → length (changed (change d e a n) x).held + holdings acts ≤ length x.held + holdings (a ∷ acts)
held-one d e (act.Held m t op sid) acts n x = omega (arith, held-one-at (m == n) (held_by e t op sid) x)
held-one d e (act.Served m t op k sid vn v) acts n x = omega (arith, held-at (m == n) (freed (is_request (said_by e)) t op k sid) x (held-freed (is_request (said_by e)) t op k sid x))
held-one d e (act.Prepared m t p) acts n x = omega (arith, held-at (m == n) (Writes (prepared_by e t p)) x (omega arith))
held-one d e (act.Ended m t o) acts n x = omega (arith, held-at (m == n) (Writes (Some (record'.Ended t o))) x (omega arith))
held-one d e (act.Ceiling m c) acts n x = omega (arith, held-at (m == n) (Writes (Some (record'.Ceiling c))) x (omega arith))
held-one d e (act.Decided t f) acts n x = omega (arith, held-at (is_home d t n) (Writes (Some (record'.Decided t f (parts_in d (script_of t d.scripts))))) x (omega arith))
held-one d e (act.Closed t) acts n x = omega (arith, held-at (is_home d t n) (Writes (Some (record'.Closed t))) x (omega arith))
held-one d e (act.Raised m sid) acts n x = omega (arith, held-at (m == n) (Raises sid) x (omega arith))
held-one d e (act.Down m h) acts n x = omega (arith, held-at (m == n) (Stops (doubt_of d e h)) x (omega arith))
held-one d e (act.Up m f) acts n x = omega (arith, held-at (m == n) (Starts (is_kept f)) x (omega arith))
held-one d e (act.StillDown m) acts n x = omega (arith, held-at (m == n) Stays x (omega arith))
held-one d e a acts n x = omega arith

pub held-after : (d : DocumentData) (past acts : List Act) (n : ℕ)
    → length (node d (after past acts) n).held ≤ length (node d past n).held + holdings acts
held-after d past [] n = omega arith
held-after d past (a ∷ acts) n = omega (arith, held-after d (a ∷ past) acts n, held-one d (got past) a acts n (node d past n))

-- ---- the acts of a node's outs

pub record Adds (k : ℕ) (acts : List Act) : Type 0 where
  pub sent : posts acts ≤ k
  pub held : holdings acts ≤ 1

pub adds-numbered : (k j m n : ℕ) (os : List Out) → j ≤ 1 → Counts k j os → Adds k (numbered m n os)
adds-numbered k j m n os h c = record {
  sent = omega (arith, posts-numbered m n os c.own, c.sent);
  held = omega (arith, holdings-numbered m n os, c.held, h);
}
