-- How many proposals the outs of a row have: none but in the row of a Prepare, which has at most one.
use Rattle.std.proofs.Common.{◌≡◌, ℕ, ◌+◌, ◌≤◌, Bool, true, false, List, [], ◌∷◌, Option, Some, None, refl, sym, ◌∙◌, arith}
use Rattle.std.specs.Prelude.{◌==◌, if◌then◌else◌, map}
use Rattle.std.proofs.lemmas.Bool.{and_parts}
use Rattle.score_base.specs.declared.ids.TxId.{TxId}
use Rattle.score_base.specs.declared.ids.NodeId.{NodeId}
use Rattle.score_base.specs.declared.ids.Ident.{Ident}
use Rattle.score_base.specs.declared.causes.Outcome.{Outcome}
use Rattle.score_base.specs.declared.keys.Key.{Key}
use Rattle.script_lang.specs.Scripts.{ScriptData}
use Rattle.grid_model.specs.declared.acts.Act.{Act}
use Rattle.grid_model.specs.declared.acts.Act.TheVariants as act
use Rattle.grid_model.specs.declared.events.Out.{Out}
use Rattle.grid_model.specs.declared.events.Out.TheVariants as out
use Rattle.grid_model.specs.declared.messages.Message.{Message}
use Rattle.grid_model.specs.declared.messages.Message.TheVariants as message
use Rattle.grid_model.specs.Views.{stage, View, participant}
use Rattle.journal_words.specs.Participants.{Participant}
use Rattle.grid_model.specs.Fitness.{is_fit_at}
use Rattle.grid_model.specs.Rows.{answer, begin_outs, judged, prepare_outs, prepared_outs}
use Rattle.grid_model.specs.Schedules.{broken, kept, lost_at, numbered, start_act}
use Rattle.grid_laws.proofs.ActsLow.{weight, proposals}
use Rattle.grid_model.specs.Documents.{DocumentData}
use Rattle.grid_model.specs.Nodes.{script_of}
use Rattle.std.specs.List.{flat_map, list_all}
use Rattle.grid_model.proofs.EventShapes.{IsAgain, idle-pass, is_idle}
use Rattle.grid_laws.proofs.RowOuts.{Pass, is_of_row, is_prepare, on_act, pass-again, pass-answer, pass-begin, pass-losses, pass-starts}

-- ---- outs

-- the proposals among these outs
abbrev pub out_weight : Out → ℕ
out_weight (out.Act a) = weight a
out_weight (out.Send to said) = 0

abbrev pub outs_weight : List Out → ℕ
outs_weight [] = 0
outs_weight (o ∷ os) = out_weight o + outs_weight os

weight-numbered : (m : ℕ) (n : NodeId) (os : List Out) → proposals (numbered m n os) ≡ outs_weight os
weight-numbered m n [] = refl
weight-numbered m n (out.Act a ∷ os) = omega (arith, weight-numbered m n os)
weight-numbered m n (out.Send to said ∷ os) = omega (arith, weight-numbered (m + 1) n os)

weight-broken : (n : NodeId) (os : List Out) → outs_weight (broken n os) ≤ outs_weight os
weight-broken n [] = omega arith
weight-broken n (out.Send to said ∷ os) = omega (arith, weight-broken n os)
weight-broken n (out.Act (act.Prepared k t p) ∷ os) = omega arith
weight-broken n (out.Act (act.Ended k t o) ∷ os) = omega arith
weight-broken n (out.Act (act.Ceiling k c) ∷ os) = omega arith
weight-broken n (out.Act (act.Decided t f) ∷ os) = omega arith
weight-broken n (out.Act (act.Closed t) ∷ os) = omega arith
weight-broken n (out.Act (act.Compacted m) ∷ os) = omega arith
weight-broken n (out.Act a ∷ os) = omega (arith, weight-broken n os)

weight-kept : (b : Bool) (n : NodeId) (os : List Out) → outs_weight (kept b n os) ≤ outs_weight os
weight-kept true n os = omega arith
weight-kept false n os = weight-broken n os

-- an event proposes at most as often as its outs
pub weight-acts : (m : ℕ) (n : NodeId) (b : Bool) (os : List Out)
    → proposals (numbered m n (kept b n os)) ≤ outs_weight os
weight-acts m n b os = omega (arith, weight-numbered m n (kept b n os), weight-kept b n os)

-- ---- what proposes nothing

-- an act that proposes nothing, also as a stop
abbrev is_unproposing : Act → Bool
is_unproposing (act.Prepared n t p) = false
is_unproposing (act.Down n h) = false
is_unproposing a = true

none-act : (a : Act) → is_unproposing a ≡ true → weight a ≡ 0
none-act (act.Prepared n t p) h = cc
none-act (act.Down n o) h = cc
none-act a h = refl

none-outs : (os : List Out) → Pass is_unproposing os → outs_weight os ≡ 0
none-outs [] h = refl
none-outs (out.Send to said ∷ os) h = omega (arith, none-outs os h)
none-outs (out.Act a ∷ os) h =
    let both = and_parts (is_unproposing a) (list_all (on_act is_unproposing) os) h in
    omega (arith, none-act a both.0, none-outs os both.1)

none-all : (acts : List Act) → list_all is_unproposing acts ≡ true → proposals acts ≡ 0
none-all [] h = refl
none-all (a ∷ acts) h =
    let both = and_parts (is_unproposing a) (list_all is_unproposing acts) h in
    omega (arith, none-act a both.0, none-all acts both.1)

pub none-idle : (acts : List Act) → list_all is_idle acts ≡ true → proposals acts ≡ 0
none-idle acts is = none-all acts (idle-pass is_unproposing (λ code. refl) (λ m. refl) (λ m. refl) acts is)

pub none-losses : (d : DocumentData) (past : List Act) (n : NodeId) (ts : List TxId)
    → proposals (flat_map (λ t. lost_at d past n (script_of t d.scripts)) ts) ≡ 0
none-losses d past n ts =
    none-all (flat_map (λ t. lost_at d past n (script_of t d.scripts)) ts)
    (pass-losses is_unproposing d past n ts (λ t. refl))

pub none-starts : (opens : NodeId → Bool) (ns : List NodeId) → proposals (map (start_act opens) ns) ≡ 0
none-starts opens ns = none-all (map (start_act opens) ns) (pass-starts is_unproposing opens ns (λ n. refl) (λ n. refl))

pub none-again : (d : DocumentData) (past : List Act) (n : NodeId) (os : List Out) → IsAgain d past n os
    → outs_weight os ≡ 0
none-again d past n os is = none-outs os (pass-again is_unproposing (λ m. refl) d past n os is)

pub none-begin : (n : NodeId) (v : View) (s : ScriptData) (floor : Ident)
    → outs_weight (begin_outs n (participant v) s floor) ≡ 0
none-begin n v s floor =
    none-outs (begin_outs n (participant v) s floor)
    (pass-begin is_unproposing (λ t m sid0. refl) (λ t j w. refl) (λ t. refl) n (participant v) s floor)

row-unproposing : (n : NodeId) (said : Message) → is_prepare said ≡ false → (a : Act) → is_of_row n said a ≡ true
    → is_unproposing a ≡ true
row-unproposing n said none (act.Prepared m t p) h = sym none ∙ (and_parts (is_prepare said) (m == n) h).0
row-unproposing n said none (act.Down m x) h = h
row-unproposing n said none a h = refl

-- ---- the row of a Prepare proposes at most once

one-judged : (n x : NodeId) (t : TxId) (u : Option TxId) (y : Option (Key × Ident)) (p : Ident)
    → outs_weight (judged n x t u y p) ≤ 1
one-judged n x t (Some u) y p = omega arith
one-judged n x t None (Some y) p = omega arith
one-judged n x t None None p = omega arith

one-prepare : (n x : NodeId) (t : TxId) (o : Option Outcome) (mine : Option Ident) (u : Option TxId)
    (y : Option (Key × Ident)) (p : Ident)
    → outs_weight (prepared_outs n x t o mine u y p) ≤ 1
one-prepare n x t (Some o) mine u y p = omega arith
one-prepare n x t None (Some q) u y p = omega arith
one-prepare n x t None None u y p = one-judged n x t u y p

pub from-none : (os : List Out) → outs_weight os ≡ 0 → outs_weight os ≤ 1
from-none os h = omega (arith, h)

one-if : (b : Bool) (os : List Out) → outs_weight os ≤ 1 → outs_weight (if b then os else []) ≤ 1
one-if true os h = h
one-if false os h = omega arith

-- the answer to a message proposes at most once
pub one-answer : (n : NodeId) (v : View) (x : NodeId) (said : Message) → outs_weight (answer n v x said) ≤ 1
one-answer n v x said = go said (is_prepare said) refl
  where
    go : (said : Message) (b : Bool) → is_prepare said ≡ b → outs_weight (answer n v x said) ≤ 1
    go (message.Prepare q) b e =
        let p : Participant = participant v in
        one-if (is_fit_at n p (stage v q.t) x (message.Prepare q)) (prepare_outs n p x q) (one-prepare n x q.t _ _ _ _ _)
    go said true e = cc
    go said false e = from-none (answer n v x said) (none-outs (answer n v x said) (pass-answer is_unproposing n v x said (row-unproposing n said e)))
