-- Every event keeps it: each yes that an open transaction has taken has a proposal of at least 1.
use Rattle.std.proofs.Common.{◌≡◌, ◌==◌, ◌&&◌, ◌++◌, nat_le, Bool, true, false, List, [], ◌∷◌, Option, Some, None, refl, sym, ap, ◌∙◌, arith, if◌then◌else◌}
use Rattle.std.specs.List.{list_all}
use Rattle.std.proofs.lemmas.List.Folds.{list_all-append}
use Rattle.score_base.specs.declared.ids.NodeId.{NodeId}
use Rattle.score_base.specs.declared.ids.Ident.{Ident}
use Rattle.score_base.specs.declared.causes.Ballot.TheVariants as ballot
use Rattle.script_lang.specs.Scripts.{ScriptData}
use Rattle.script_lang.specs.Reads.{is_update}
use Rattle.journal_words.specs.Journals.{Decision, undone}
use Rattle.grid_model.specs.declared.acts.Act.TheVariants as act
use Rattle.grid_model.specs.declared.events.Event.{Event}
use Rattle.grid_model.specs.declared.events.Event.TheVariants as event
use Rattle.grid_model.specs.declared.events.Out.{Out}
use Rattle.grid_model.specs.declared.events.Out.TheVariants as out
use Rattle.grid_model.specs.declared.messages.Envelope.{Envelope}
use Rattle.grid_model.specs.declared.messages.Message.{Message}
use Rattle.grid_model.specs.declared.messages.Message.TheVariants as message
use Rattle.grid_model.specs.declared.stories.Progress.{Progress}
use Rattle.grid_model.specs.declared.stories.Voted.{Voted}
use Rattle.grid_model.specs.Stories.{with_vote, with_value, has_voted, is_small, is_small_node, is_collecting, is_part}
use Rattle.grid_model.specs.Fitness.{counts_vote, parts_asked}
use Rattle.grid_model.specs.Views.{View, Open, participant, stage, phase_in}
use Rattle.grid_model.specs.Rows.{begun_at}
use Rattle.grid_model.specs.NextViews.{changed_open, if_update, opened_by, heard_view, view_heard, script_begun, envelope_of, behind, behind_all, next_view}
use Rattle.presumed_abort.proofs.Asides.{Aside, out-aside, both}
use Rattle.node_core.specs.Shows.{AreYes}

-- ---- what is open at one number

-- each of these votes has a proposal of at least 1
abbrev are_yes : List Voted → Bool
are_yes votes = list_all (λ y. nat_le 1 y.p) votes

-- so has each vote of what is open
abbrev IsYes : Option Open → Type 0
IsYes x = (o : Open) → x ≡ Some o → are_yes o.progress.votes ≡ true

yes-none : IsYes None
yes-none = λ o is. absurd (grind (arith, is))

yes-some : (p : Open) → are_yes p.progress.votes ≡ true → IsYes (Some p)
yes-some p are = λ o is.
    let same : p ≡ o = grind (arith, is) in ap (λ y. are_yes y.progress.votes) (sym same) ∙ are

yes-if : (b : Bool) (x z : Option Open) → (b ≡ true → IsYes x) → IsYes z → IsYes (if b then x else z)
yes-if true x z a c = a refl
yes-if false x z a c = c

yes-changed : (f : Progress → Progress) (x : Option Open)
    → ((p : Progress) → are_yes p.votes ≡ true → are_yes (f p).votes ≡ true)
    → IsYes x → IsYes (changed_open f x)
yes-changed f None keeps a = yes-none
yes-changed f (Some p) keeps a = yes-some (record p { progress = f p.progress }) (keeps p.progress (a p refl))

yes-update : (x : Option Open) → IsYes x → IsYes (if_update x)
yes-update None a = yes-none
yes-update (Some p) a = go (is_update p.script.ops)
  where
    go : (b : Bool) → IsYes (if b then Some p else None)
    go true = a
    go false = yes-none

yes-opened : (d : Option Decision) (s : Option ScriptData) (sid0 : Ident) → IsYes (opened_by d s sid0)
yes-opened d None sid0 = yes-none
yes-opened None (Some s) sid0 = yes-some (begun_at s sid0) refl
yes-opened (Some z) (Some s) sid0 = yes-none

-- a yes with such a proposal is taken
yes-voted : (x : NodeId) (p : Ident) → nat_le 1 p ≡ true
    → (y : Progress) → are_yes y.votes ≡ true → are_yes (with_vote x p y).votes ≡ true
yes-voted x p one y are = go (has_voted x y.votes)
  where
    go : (b : Bool) → are_yes (if b then y.votes else y.votes ++ record { from = x; p = p } ∷ []) ≡ true
    go true = are
    go false = list_all-append (λ z. nat_le 1 z.p) y.votes (record { from = x; p = p } ∷ []) ∙ rw (are, one) refl

-- ---- one out

aside-yes : (v w : View) → Aside v w → AreYes v → AreYes w
aside-yes v w aside are_one = λ t o is. are_one t o (sym (aside.desk t) ∙ is)

out-yes : (e : Option Envelope) (s : Option ScriptData) (v : View) (o : Out) → AreYes v → AreYes (behind e s v o)
out-yes e s v (out.Send to (message.ReadReq q)) are_one = λ t.
    yes-if (q.t == t) _ (v.desk t) (λ met. yes-changed _ (v.desk t) (λ p are. are) (are_one t)) (are_one t)
out-yes e s v (out.Act (act.Began u n sid0)) are_one = λ t.
    yes-if (u == t) _ (v.desk t) (λ met. yes-opened (undone t v.journal) s sid0) (are_one t)
out-yes e s v (out.Act (act.Taken u j sid w)) are_one = λ t.
    yes-if (u == t) _ (v.desk t) (λ met. yes-changed (with_value j sid w) (v.desk t) (λ p are. are) (are_one t)) (are_one t)
out-yes e s v (out.Act (act.Finished u)) are_one = λ t.
    yes-if (u == t) _ (v.desk t) (λ met. yes-update (v.desk t) (are_one t)) (are_one t)
out-yes e s v (out.Act (act.Aborted u n why)) are_one = λ t.
    yes-if (u == t) None (v.desk t) (λ met. yes-none) (are_one t)
out-yes e s v (out.Act (act.Decided u f)) are_one = λ t. yes-if (u == t) None (v.desk t) (λ met. yes-none) (are_one t)
out-yes e s v (out.Act (act.Closed u)) are_one = are_one
out-yes e s v o are_one = aside-yes v (behind e s v o) (out-aside e s v o refl) are_one

outs-yes : (e : Option Envelope) (s : Option ScriptData) (v : View) (os : List Out)
    → AreYes v → AreYes (behind_all e s v os)
outs-yes e s v [] are_one = are_one
outs-yes e s v (o ∷ os) are_one = outs-yes e s (behind e s v o) os (out-yes e s v o are_one)

-- ---- an event

-- a yes that counts has a proposal of at least 1
counted-one : (a b c d e : Bool) → (a && (b && ((c && d) && e))) ≡ true → d ≡ true
counted-one a b c d e is =
    (both c d (both (c && d) e (both b ((c && d) && e) (both a (b && ((c && d) && e)) is).1).1).0).1

heard-yes : (v : View) (x : NodeId) (said : Message) → AreYes v → AreYes (heard_view v x said)
heard-yes v x (message.Vote u (ballot.Yes p)) are_one = λ t.
    yes-if ((u == t) && counts_vote (participant v) (stage v t) x p) _ (v.desk t)
    (λ met. yes-changed (with_vote x p) (v.desk t)
    (yes-voted x p
    (counted-one (is_collecting (phase_in (stage v t))) (is_small_node v.journal v.next) (is_small p) (nat_le 1 p)
    (is_part (parts_asked v.cluster (stage v t)) (phase_in (stage v t)) x)
    (both (u == t) (counts_vote (participant v) (stage v t) x p) met).1))
    (are_one t))
    (are_one t)
heard-yes v x (message.Vote u (ballot.No why)) are_one = are_one
heard-yes v x said are_one = are_one

event-yes : (v : View) (e : Event) → AreYes v → AreYes (view_heard v e)
event-yes v (event.Deliver x said) are_one = heard-yes v x said are_one
event-yes v e are_one = are_one

pub kept-yes : (n : NodeId) (v : View) (e : Event) (os : List Out) → AreYes v → AreYes (next_view n v e os)
kept-yes n v e os are_one = outs-yes (envelope_of n e) (script_begun e) (view_heard v e) os (event-yes v e are_one)
