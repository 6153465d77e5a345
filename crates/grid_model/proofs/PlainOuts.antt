-- The outs of the rows that stand anywhere among the outs of an event, and what they leave of the view.
use Rattle.std.proofs.Common.{ℕ, ◌+◌, Bool, true, false, ◌&&◌, ◌==◌, IsTrue, map, List, [], ◌∷◌, ◌++◌, Option, ◌≡◌, refl, ap, ◌∙◌, arith}
use Rattle.std.specs.List.{list_all}
use Rattle.std.proofs.lemmas.Bool.Decides.{nat_tests}
use Rattle.score_base.specs.declared.ids.TxId.{TxId}
use Rattle.score_base.specs.declared.ids.NodeId.{NodeId}
use Rattle.score_base.specs.declared.ids.Value.{Value}
use Rattle.script_lang.specs.Scripts.{ScriptData}
use Rattle.grid_model.specs.declared.acts.Act.{Act}
use Rattle.grid_model.specs.declared.acts.Act.TheVariants as act
use Rattle.grid_model.specs.declared.events.Out.{Out}
use Rattle.grid_model.specs.declared.events.Out.TheVariants as out
use Rattle.grid_model.specs.declared.messages.Envelope.{Envelope}
use Rattle.grid_model.specs.declared.messages.Message.{Message}
use Rattle.grid_model.specs.Documents.{DocumentData}
use Rattle.grid_model.specs.Histories.{after}
use Rattle.grid_model.specs.Nodes.{got, is_home}
use Rattle.grid_model.specs.Views.{view}
use Rattle.grid_model.specs.Schedules.{numbered}
use Rattle.grid_model.specs.NextViews.{behind, behind_all}
use Rattle.grid_model.proofs.ViewSteps.{step-prepared, step-ended, step-ceiling, step-raised, step-held, step-served, step-quiet, step-refused, step-taken, step-finished, step-aborted, step-sent, step-closed, step-compacted}

-- an out of n that may stand anywhere; where no message is delivered, one that takes nothing from it
abbrev pub is_plain : DocumentData → NodeId → Bool → Out → Bool
is_plain d n b (out.Send to said) = true
is_plain d n b (out.Act (act.Prepared m t p)) = b && (m == n)
is_plain d n b (out.Act (act.Held m t j sid)) = b && (m == n)
is_plain d n b (out.Act (act.Served m t j k sid vn v)) = b && (m == n)
is_plain d n b (out.Act (act.Ended m t o)) = m == n
is_plain d n b (out.Act (act.Ceiling m c)) = m == n
is_plain d n b (out.Act (act.Raised m sid)) = m == n
is_plain d n b (out.Act (act.Closed u)) = is_home d u n
is_plain d n b (out.Act (act.Own t j v)) = true
is_plain d n b (out.Act (act.Refused m t why)) = true
is_plain d n b (out.Act (act.Compacted m)) = true
is_plain d n b (out.Act (act.Taken t j sid v)) = true
is_plain d n b (out.Act (act.Finished t)) = true
is_plain d n b (out.Act (act.Aborted t m why)) = true
is_plain d n b o = false

abbrev pub are_plain : DocumentData → NodeId → Bool → List Out → Bool
are_plain d n b os = list_all (is_plain d n b) os

-- ---- the view behind them

pub both : (b c : Bool) → IsTrue (b && c) → IsTrue b × IsTrue c
both true true is = (refl, refl)
both true false is = grind arith
both false c is = grind arith

at-node : (m n : NodeId) → IsTrue (m == n) → m ≡ n
at-node m n is = grind (arith, nat_tests)

step-plain : (d : DocumentData) (past : List Act) (n : NodeId) (b : Bool) (e : Option Envelope) (s : Option ScriptData)
    (a : Act) → IsTrue (is_plain d n b (out.Act a)) → (IsTrue b → got past ≡ e)
    → view d (a ∷ past) n ≡ behind e s (view d past n) (out.Act a)
step-plain d past n b e s (act.Prepared m t p) is got = let known = both b (m == n) is in rw (at-node m n known.1, ← got known.0) (step-prepared d past n t p s)
step-plain d past n b e s (act.Held m t j sid) is got = let known = both b (m == n) is in rw (at-node m n known.1, ← got known.0) (step-held d past n t j sid s)
step-plain d past n b e s (act.Served m t j k sid vn v) is got = let known = both b (m == n) is in rw (at-node m n known.1, ← got known.0) (step-served d past n t j k sid vn v s)
step-plain d past n b e s (act.Ended m t o) is got = rw (at-node m n is) (step-ended d past n t o e s)
step-plain d past n b e s (act.Ceiling m c) is got = rw (at-node m n is) (step-ceiling d past n c e s)
step-plain d past n b e s (act.Raised m sid) is got = rw (at-node m n is) (step-raised d past n sid e s)
step-plain d past n b e s (act.Closed u) is got = step-closed d past n u e s is
step-plain d past n b e s (act.Own t j v) is got = step-quiet d past t j v n e s
step-plain d past n b e s (act.Refused m t why) is got = step-refused d past m t why n e s
step-plain d past n b e s (act.Compacted m) is got = step-compacted d past m n e s
step-plain d past n b e s (act.Taken t j sid v) is got = step-taken d past t j sid v n e s
step-plain d past n b e s (act.Finished t) is got = step-finished d past t n e s
step-plain d past n b e s (act.Aborted t m why) is got = step-aborted d past t m why n e s
step-plain d past n b e s a is got = grind arith

-- they deliver nothing
plain-got : (d : DocumentData) (past : List Act) (n : NodeId) (b : Bool) (a : Act) → IsTrue (is_plain d n b (out.Act a))
    → got (a ∷ past) ≡ got past
plain-got d past n b (act.Got m) is = grind arith
plain-got d past n b a is = refl

-- the view behind plain outs
pub plain-view : (d : DocumentData) (past : List Act) (n : NodeId) (b : Bool) (e : Option Envelope)
    (s : Option ScriptData) (k : ℕ) (os : List Out) → IsTrue (are_plain d n b os) → (IsTrue b → got past ≡ e)
    → view d (after past (numbered k n os)) n ≡ behind_all e s (view d past n) os
plain-view d past n b e s k [] is got_e = refl
plain-view d past n b e s k (out.Send to said ∷ os) is got_e = plain-view d (act.Sent k n to said ∷ past) n b e s (k + 1) os is got_e ∙ ap (λ v. behind_all e s v os) (step-sent d past k n to said n e s)
plain-view d past n b e s k (out.Act a ∷ os) is got_e =
    let known = both (is_plain d n b (out.Act a)) (are_plain d n b os) is in
    plain-view d (a ∷ past) n b e s k os known.1 (λ given. plain-got d past n b a known.0 ∙ got_e given) ∙ ap (λ v. behind_all e s v os) (step-plain d past n b e s a known.0 got_e)

-- ---- lists of plain outs

pub plain-append : (d : DocumentData) (n : NodeId) (b : Bool) (os ps : List Out) → IsTrue (are_plain d n b os)
    → IsTrue (are_plain d n b ps) → IsTrue (are_plain d n b (os ++ ps))
plain-append d n b [] ps is are = are
plain-append d n b (o ∷ os) ps is are = let known = both (is_plain d n b o) (are_plain d n b os) is in rw (known.0) (plain-append d n b os ps known.1 are)

pub plain-sends : (d : DocumentData) (n : NodeId) (b : Bool) (f : NodeId → Message) (ns : List NodeId)
    → IsTrue (are_plain d n b (map (λ m. out.Send m (f m)) ns))
plain-sends d n b f [] = refl
plain-sends d n b f (m ∷ ns) = plain-sends d n b f ns

pub plain-owns : (d : DocumentData) (n : NodeId) (b : Bool) (t : TxId) (ys : List (ℕ × Value))
    → IsTrue (are_plain d n b (map (λ y. out.Act (act.Own t y.0 y.1)) ys))
plain-owns d n b t [] = refl
plain-owns d n b t (y ∷ ys) = plain-owns d n b t ys
