-- Every event keeps the desk of a view in order: no decided transaction is open besides, and each open one has
-- its own number.
use Rattle.std.proofs.Common.{◌≡◌, ◌==◌, ◌&&◌, ◌++◌, ℕ, nat_lt, map, filter, Bool, true, false, List, [], ◌∷◌, Option, Some, None, inl, inr, refl, sym, ap, subst, ◌∙◌, arith, if◌then◌else◌, slice_get}
use Rattle.std.specs.List.{list_all}
use Rattle.std.proofs.lemmas.Bool.{cases_eq}
use Rattle.std.proofs.lemmas.Bool.Decides.{nat_tests}
use Rattle.score_base.specs.declared.ids.TxId.{TxId}
use Rattle.score_base.specs.declared.ids.NodeId.{NodeId}
use Rattle.score_base.specs.declared.ids.Ident.{Ident}
use Rattle.score_base.specs.declared.ids.Value.{Value}
use Rattle.score_base.specs.declared.causes.Ballot.TheVariants as ballot
use Rattle.score_base.specs.declared.records.Record.{Record}
use Rattle.score_base.specs.declared.records.Record.TheVariants as record'
use Rattle.script_lang.specs.declared.scripts.Op.{Op}
use Rattle.script_lang.specs.Scripts.{ScriptData}
use Rattle.script_lang.specs.Reads.{is_update, key_of}
use Rattle.script_runs.specs.Waits.{waiting}
use Rattle.script_runs.specs.Walks.{own_reads, unread, op_at}
use Rattle.placement.specs.Places.{preferred}
use Rattle.placement.specs.Clusters.{ClusterData}
use Rattle.journal_words.specs.Journals.{Decision, undone}
use Rattle.grid_model.specs.declared.acts.Act.TheVariants as act
use Rattle.grid_model.specs.declared.events.Event.{Event}
use Rattle.grid_model.specs.declared.events.Event.TheVariants as event
use Rattle.grid_model.specs.declared.events.Out.{Out}
use Rattle.grid_model.specs.declared.events.Out.TheVariants as out
use Rattle.grid_model.specs.declared.messages.Envelope.{Envelope}
use Rattle.grid_model.specs.declared.messages.Message.{Message}
use Rattle.grid_model.specs.declared.messages.Message.TheVariants as message
use Rattle.grid_model.specs.declared.stories.Progress.{Progress}
use Rattle.grid_model.specs.Nodes.{written}
use Rattle.grid_model.specs.Stories.{with_vote}
use Rattle.grid_model.specs.Fitness.{counts_vote, is_fit_begin}
use Rattle.grid_model.specs.Views.{View, Open, participant, stage}
use Rattle.grid_model.specs.Advances.{advance, advance_end, request_of, prepares, parts_now, to_node}
use Rattle.grid_model.specs.Rows.{outs_of, begin_outs, begun_at, first_ident}
use Rattle.grid_model.specs.NextViews.{changed_open, if_update, opened_by, decided_by, heard_view, view_heard, script_begun, envelope_of, behind, behind_all, next_view}
use Rattle.presumed_abort.specs.Views.{AreApart, OwnNumbers}
use Rattle.presumed_abort.proofs.Asides.{Aside, out-aside, both}
use Rattle.presumed_abort.proofs.Undone.{decided-other, closed-done, closed-other}

-- ---- what is open at one number

-- it is not open where it is decided
abbrev IsApart : Option Decision → Option Open → Type 0
IsApart d x = (y : Decision) → d ≡ Some y → x ≡ None

-- what is open has this number
abbrev IsOwn : TxId → Option Open → Type 0
IsOwn t x = (o : Open) → x ≡ Some o → o.script.number ≡ t

apart-if : (d : Option Decision) (b : Bool) (x z : Option Open) → IsApart d x → IsApart d z
    → IsApart d (if b then x else z)
apart-if d true x z a c = a
apart-if d false x z a c = c

apart-changed : (d : Option Decision) (f : Progress → Progress) (x : Option Open)
    → IsApart d x → IsApart d (changed_open f x)
apart-changed d f x a = λ y is. ap (changed_open f) (a y is)

apart-update : (d : Option Decision) (x : Option Open) → IsApart d x → IsApart d (if_update x)
apart-update d x a = λ y is. ap if_update (a y is)

apart-opened : (d : Option Decision) (s : Option ScriptData) (sid0 : Ident) → IsApart d (opened_by d s sid0)
apart-opened d None sid0 = λ y is. refl
apart-opened None (Some s) sid0 = λ y is. absurd (grind (arith, is))
apart-opened (Some z) (Some s) sid0 = λ y is. refl

own-none : (t : TxId) → IsOwn t None
own-none t = λ o is. absurd (grind (arith, is))

own-if : (t : TxId) (b : Bool) (x z : Option Open) → (b ≡ true → IsOwn t x) → IsOwn t z
    → IsOwn t (if b then x else z)
own-if t true x z a c = a refl
own-if t false x z a c = c

own-changed : (t : TxId) (f : Progress → Progress) (x : Option Open) → IsOwn t x → IsOwn t (changed_open f x)
own-changed t f None a = own-none t
own-changed t f (Some p) a = λ o is.
    let same : record p { progress = f p.progress } ≡ o = grind (arith, is) in
    ap (λ y. y.script.number) (sym same) ∙ a p refl

own-update : (t : TxId) (x : Option Open) → IsOwn t x → IsOwn t (if_update x)
own-update t None a = own-none t
own-update t (Some p) a = go (is_update p.script.ops)
  where
    go : (b : Bool) → IsOwn t (if b then Some p else None)
    go true = a
    go false = own-none t

own-opened : (t : TxId) (d : Option Decision) (s : ScriptData) (sid0 : Ident)
    → s.number ≡ t → IsOwn t (opened_by d (Some s) sid0)
own-opened t None s sid0 number = λ o is.
    let same : begun_at s sid0 ≡ o = grind (arith, is) in
    ap (λ y. y.script.number) (sym same) ∙ number
own-opened t (Some z) s sid0 number = own-none t

-- ---- one out

aside-apart : (v w : View) → Aside v w → AreApart v → AreApart w
aside-apart v w aside apart = λ t y is. aside.desk t ∙ apart t y (sym (aside.undone' t) ∙ is)

aside-own : (v w : View) → Aside v w → OwnNumbers v → OwnNumbers w
aside-own v w aside own = λ t o is. own t o (sym (aside.desk t) ∙ is)

decided-apart : (c : ClusterData) (x z : Option Open) (u t : TxId) (f : Ident) (r : List Record)
    → IsApart (undone t r) z
    → IsApart (undone t (written (decided_by x c u f) r)) (if u == t then None else z)
decided-apart c x z u t f r apart = elim (cases_eq u t) [
  | inl same ↦ (let met : (u == t) ≡ true = grind (arith, nat_tests, same) in λ y is. rw met refl)
  | inr other ↦
      (let missed : (u == t) ≡ false = grind (arith, nat_tests) in
      λ y is. rw missed (apart y (sym (rest x missed) ∙ is)))
]
  where
    rest : (x : Option Open) → (u == t) ≡ false → undone t (written (decided_by x c u f) r) ≡ undone t r
    rest None missed = refl
    rest (Some o) missed = decided-other u t f (parts_now c o) r missed

closed-apart : (z : Option Open) (u t : TxId) (r : List Record)
    → IsApart (undone t r) z → IsApart (undone t (record'.Closed u ∷ r)) z
closed-apart z u t r apart = elim (cases_eq u t) [
  | inl same ↦
      subst (λ (w : TxId). IsApart (undone w (record'.Closed u ∷ r)) z) same
      (λ y is. absurd (grind (arith, sym (closed-done u r) ∙ is)))
  | inr other ↦
      (let missed : (u == t) ≡ false = grind (arith, nat_tests) in
      λ y is. apart y (sym (closed-other u t r missed) ∙ is))
]

out-apart : (e : Option Envelope) (s : Option ScriptData) (v : View) (o : Out)
    → AreApart v → AreApart (behind e s v o)
out-apart e s v (out.Send to (message.ReadReq q)) apart = λ t.
    apart-if (undone t v.journal) (q.t == t) _ (v.desk t)
    (apart-changed (undone t v.journal) _ (v.desk t) (apart t)) (apart t)
out-apart e s v (out.Act (act.Began u n sid0)) apart = λ t.
    apart-if (undone t v.journal) (u == t) _ (v.desk t) (apart-opened (undone t v.journal) s sid0) (apart t)
out-apart e s v (out.Act (act.Taken u j sid w)) apart = λ t.
    apart-if (undone t v.journal) (u == t) _ (v.desk t)
    (apart-changed (undone t v.journal) _ (v.desk t) (apart t)) (apart t)
out-apart e s v (out.Act (act.Finished u)) apart = λ t.
    apart-if (undone t v.journal) (u == t) _ (v.desk t) (apart-update (undone t v.journal) (v.desk t) (apart t))
    (apart t)
out-apart e s v (out.Act (act.Aborted u n why)) apart = λ t.
    apart-if (undone t v.journal) (u == t) None (v.desk t) (λ y is. refl) (apart t)
out-apart e s v (out.Act (act.Decided u f)) apart = λ t.
    decided-apart v.cluster (v.desk u) (v.desk t) u t f v.journal (apart t)
out-apart e s v (out.Act (act.Closed u)) apart = λ t. closed-apart (v.desk t) u t v.journal (apart t)
out-apart e s v o apart = aside-apart v (behind e s v o) (out-aside e s v o refl) apart

-- a script that begins gives its own number
abbrev begins_own : Option ScriptData → Out → Bool
begins_own None o = true
begins_own (Some s) (out.Act (act.Began u n sid0)) = s.number == u
begins_own (Some s) o = true

own-began : (s : Option ScriptData) (d : Option Decision) (u t : TxId) (n : NodeId) (sid0 : Ident)
    → begins_own s (out.Act (act.Began u n sid0)) ≡ true → (u == t) ≡ true → IsOwn t (opened_by d s sid0)
own-began None d u t n sid0 own met = own-none t
own-began (Some z) d u t n sid0 own met =
    let number : z.number ≡ t = grind (arith, nat_tests, own, met) in own-opened t d z sid0 number

out-own : (e : Option Envelope) (s : Option ScriptData) (v : View) (o : Out)
    → begins_own s o ≡ true → OwnNumbers v → OwnNumbers (behind e s v o)
out-own e s v (out.Send to (message.ReadReq q)) is own = λ t.
    own-if t (q.t == t) _ (v.desk t) (λ met. own-changed t _ (v.desk t) (own t)) (own t)
out-own e s v (out.Act (act.Began u n sid0)) is own = λ t.
    own-if t (u == t) _ (v.desk t) (λ met. own-began s (undone t v.journal) u t n sid0 is met) (own t)
out-own e s v (out.Act (act.Taken u j sid w)) is own = λ t.
    own-if t (u == t) _ (v.desk t) (λ met. own-changed t _ (v.desk t) (own t)) (own t)
out-own e s v (out.Act (act.Finished u)) is own = λ t.
    own-if t (u == t) _ (v.desk t) (λ met. own-update t (v.desk t) (own t)) (own t)
out-own e s v (out.Act (act.Aborted u n why)) is own = λ t.
    own-if t (u == t) None (v.desk t) (λ met. own-none t) (own t)
out-own e s v (out.Act (act.Decided u f)) is own = λ t.
    own-if t (u == t) None (v.desk t) (λ met. own-none t) (own t)
out-own e s v (out.Act (act.Closed u)) is own = own
out-own e s v o is own = aside-own v (behind e s v o) (out-aside e s v o refl) own

-- ---- the outs of an event

outs-apart : (e : Option Envelope) (s : Option ScriptData) (v : View) (os : List Out)
    → AreApart v → AreApart (behind_all e s v os)
outs-apart e s v [] apart = apart
outs-apart e s v (o ∷ os) apart = outs-apart e s (behind e s v o) os (out-apart e s v o apart)

outs-own : (e : Option Envelope) (s : Option ScriptData) (v : View) (os : List Out)
    → list_all (begins_own s) os ≡ true → OwnNumbers v → OwnNumbers (behind_all e s v os)
outs-own e s v [] are own = own
outs-own e s v (o ∷ os) are own =
    let known = both (begins_own s o) (list_all (begins_own s) os) are in
    outs-own e s (behind e s v o) os known.1 (out-own e s v o known.0 own)

none-begins : (os : List Out) → list_all (begins_own None) os ≡ true
none-begins [] = refl
none-begins (o ∷ os) = none-begins os

-- ---- an advance begins nothing

owns-begin : (s : ScriptData) (t : TxId) (ys : List (ℕ × Value)) (os : List Out)
    → list_all (begins_own (Some s)) os ≡ true
    → list_all (begins_own (Some s)) (map (λ y. out.Act (act.Own t y.0 y.1)) ys ++ os) ≡ true
owns-begin s t [] os are = are
owns-begin s t (y ∷ ys) os are = owns-begin s t ys os are

prepares-begin : (s : ScriptData) (c : ClusterData) (x : Open) (ns : List NodeId)
    → list_all (begins_own (Some s)) (prepares c x ns) ≡ true
prepares-begin s c x [] = refl
prepares-begin s c x (n ∷ ns) = prepares-begin s c x ns

to-begin : (s : ScriptData) (to : Option NodeId) (said : Message)
    → list_all (begins_own (Some s)) (to_node to said) ≡ true
to-begin s None said = refl
to-begin s (Some m) said = refl

request-begin : (s : ScriptData) (c : ClusterData) (x : Open) (j q : ℕ) (op : Option Op)
    → list_all (begins_own (Some s)) (request_of c x j q op) ≡ true
request-begin s c x j q None = refl
request-begin s c x j q (Some o) = to-begin s (slice_get (preferred c.places x.script.home (key_of o)) q) _

end-begin : (s : ScriptData) (c : ClusterData) (x : Open) (j : Option ℕ)
    → list_all (begins_own (Some s)) (advance_end c x j) ≡ true
end-begin s c x (Some j) = request-begin s c x j 0 (op_at x.script.ops j)
end-begin s c x None = go (is_update x.script.ops)
  where
    go : (b : Bool)
        → list_all (begins_own (Some s))
        (if b then prepares c x (parts_now c x) else out.Act (act.Finished x.script.number) ∷ []) ≡ true
    go true = prepares-begin s c x (parts_now c x)
    go false = refl

advance-begin : (s : ScriptData) (c : ClusterData) (x : Open) (i : ℕ)
    → list_all (begins_own (Some s)) (advance c x i) ≡ true
advance-begin s c x i =
    owns-begin s x.script.number (filter (λ y. nat_lt i y.0) (own_reads 1 [] unread x.progress.values x.script.ops))
    (advance_end c x (waiting x.script.ops x.progress.values))
    (end-begin s c x (waiting x.script.ops x.progress.values))

begin-begin : (n : NodeId) (v : View) (s : ScriptData) (floor : Ident)
    → list_all (begins_own (Some s)) (outs_of n v (event.Begin s floor)) ≡ true
begin-begin n v s floor = go (is_fit_begin n v s floor)
  where
    self : (s.number == s.number) ≡ true
    self = grind (arith, nat_tests)

    go : (b : Bool)
        → list_all (begins_own (Some s)) (if b then begin_outs n (participant v) s floor else []) ≡ true
    go true = rw self (advance-begin s v.cluster (begun_at s (first_ident (participant v) floor)) 0)
    go false = refl

-- ---- an event

heard-apart : (v : View) (x : NodeId) (said : Message) → AreApart v → AreApart (heard_view v x said)
heard-apart v x (message.Vote u (ballot.Yes p)) apart = λ t.
    apart-if (undone t v.journal) ((u == t) && counts_vote (participant v) (stage v t) x p) _ (v.desk t)
    (apart-changed (undone t v.journal) (with_vote x p) (v.desk t) (apart t)) (apart t)
heard-apart v x (message.Vote u (ballot.No why)) apart = apart
heard-apart v x said apart = apart

heard-own : (v : View) (x : NodeId) (said : Message) → OwnNumbers v → OwnNumbers (heard_view v x said)
heard-own v x (message.Vote u (ballot.Yes p)) own = λ t.
    own-if t ((u == t) && counts_vote (participant v) (stage v t) x p) _ (v.desk t)
    (λ met. own-changed t (with_vote x p) (v.desk t) (own t)) (own t)
heard-own v x (message.Vote u (ballot.No why)) own = own
heard-own v x said own = own

event-apart : (v : View) (e : Event) → AreApart v → AreApart (view_heard v e)
event-apart v (event.Deliver x said) apart = heard-apart v x said apart
event-apart v e apart = apart

pub kept-apart : (n : NodeId) (v : View) (e : Event) (os : List Out) → AreApart v → AreApart (next_view n v e os)
kept-apart n v e os apart = outs-apart (envelope_of n e) (script_begun e) (view_heard v e) os (event-apart v e apart)

pub kept-own : (n : NodeId) (v : View) (e : Event) → OwnNumbers v → OwnNumbers (next_view n v e (outs_of n v e))
kept-own n v (event.Begin s floor) own =
    outs-own None (Some s) v (outs_of n v (event.Begin s floor)) (begin-begin n v s floor) own
kept-own n v (event.Deliver x said) own =
    outs-own (envelope_of n (event.Deliver x said)) None (heard_view v x said) (outs_of n v (event.Deliver x said))
    (none-begins (outs_of n v (event.Deliver x said))) (heard-own v x said own)
kept-own n v (event.Retry t) own =
    outs-own None None v (outs_of n v (event.Retry t)) (none-begins (outs_of n v (event.Retry t))) own
kept-own n v (event.Ask t) own =
    outs-own None None v (outs_of n v (event.Ask t)) (none-begins (outs_of n v (event.Ask t))) own
kept-own n v (event.AskPeer t m) own =
    outs-own None None v (outs_of n v (event.AskPeer t m)) (none-begins (outs_of n v (event.AskPeer t m))) own
kept-own n v event.Compact own =
    outs-own None None v (outs_of n v event.Compact) (none-begins (outs_of n v event.Compact)) own
