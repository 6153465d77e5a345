-- A release, read by read, gives the row of the model and the held reads of the next view.
use Rattle.std.proofs.Common.{◌≡◌, ℕ, Bool, true, false, List, [], ◌∷◌, ◌++◌, append_assoc, Option, Some, None, refl, sym, ap, subst, ◌∙◌, cond}
use Rattle.std.specs.Prelude.{option_map, if◌then◌else◌}
use Rattle.std.specs.List.{find, flat_map}
use Rattle.score_base.specs.declared.ids.NodeId.{NodeId}
use Rattle.score_base.specs.declared.records.Record.{Record}
use Rattle.placement.specs.Clusters.{ClusterData}
use Rattle.journal_words.specs.Journals.{is_clear}
use Rattle.script_lang.specs.Scripts.{ScriptData}
use Rattle.grid_model.specs.declared.acts.Act.TheVariants as act
use Rattle.grid_model.specs.declared.events.Out.{Out}
use Rattle.grid_model.specs.declared.events.Out.TheVariants as out
use Rattle.grid_model.specs.declared.messages.Envelope.{Envelope}
use Rattle.grid_model.specs.declared.stories.HeldRead.{HeldRead}
use Rattle.grid_model.specs.Nodes.{is_read, without_read, is_request, said_by}
use Rattle.grid_model.specs.NextViews.{behind, behind_all}
use Rattle.grid_model.specs.Rows.{release, served, version_for}
use Rattle.grid_model.specs.Views.{View}
use Rattle.grid_store.specs.Given.{Given}
use Rattle.snapshot_read.specs.declared.answers.Answer.{Answer}
use Rattle.snapshot_read.specs.Reads.{is_free, answer_to}
use Rattle.snapshot_read.specs.Outs.{raised_outs, reply_of, serve_outs, without_answered, first_answer, Releases}
use Rattle.snapshot_read.proofs.FirstFree.{same-read, other-read, found-free}

-- what a store's node releases
abbrev rest_of : Given → NodeId → List HeldRead → List Out
rest_of s n hs = release s.cluster s.journal n hs

-- the outs of a read that is served
abbrev outs_of : Given → NodeId → HeldRead → List Out
outs_of s n y = served n y.t y.op y.key y.sid y.from (version_for s.cluster s.journal y.key y.sid)

-- nothing is released where none is free
pub release-none : (c : ClusterData) (r : List Record) (n : NodeId) (hs : List HeldRead)
    → find (is_free r) hs ≡ None → release c r n hs ≡ []
release-none c r n [] e = refl
release-none c r n (h ∷ hs) e = go (is_free r h) e (release-none c r n hs)
  where
    go : (b : Bool) → cond b (Some h) (find (is_free r) hs) ≡ None
        → (find (is_free r) hs ≡ None → release c r n hs ≡ [])
        → (if b then served n h.t h.op h.key h.sid h.from (version_for c r h.key h.sid) else [])
        ++ release c r n hs ≡ []
    go true e more = absurd (cc)
    go false e more = more e

-- the first free read is served, and then the others are released
pub release-first : (s : Given) (n : NodeId) (hs : List HeldRead) (h : HeldRead)
    → find (is_free s.journal) hs ≡ Some h
    → rest_of s n hs
    ≡ serve_outs n (answer_to s h false) ++ rest_of s n (without_answered (answer_to s h false) hs)
release-first s n [] h e = absurd (cc)
release-first s n (y ∷ hs) h e = go (is_free s.journal y) refl e (release-first s n hs h)
  where
    go : (b : Bool) → is_free s.journal y ≡ b → cond b (Some y) (find (is_free s.journal) hs) ≡ Some h
        → (find (is_free s.journal) hs ≡ Some h → rest_of s n hs
        ≡ serve_outs n (answer_to s h false) ++ rest_of s n (without_read h.t h.op h.key h.sid hs))
        → (if b then outs_of s n y else [])
        ++ rest_of s n hs
        ≡ serve_outs n (answer_to s h false) ++ rest_of s n (without_read h.t h.op h.key h.sid (y ∷ hs))
    go true is e more =
        let same : y ≡ h = cc in
        let own = same-read y in
        let P : Bool → Type 0 = λ b. serve_outs n (answer_to s y false) ++ rest_of s n hs
        ≡ serve_outs n (answer_to s y false)
        ++ rest_of s n (if b then hs else y ∷ without_read y.t y.op y.key y.sid hs) in
        let Q : HeldRead → Type 0 = λ x. serve_outs n (answer_to s y false) ++ rest_of s n hs
        ≡ serve_outs n (answer_to s x false) ++ rest_of s n (without_read x.t x.op x.key x.sid (y ∷ hs)) in
        subst Q same (subst P (sym own) refl)
    go false is e more =
        let other = other-read s.journal h y (found-free s.journal hs h e) is in
        let P : Bool → Type 0 = λ b. rest_of s n hs ≡ serve_outs n (answer_to s h false)
        ++ rest_of s n (if b then hs else y ∷ without_read h.t h.op h.key h.sid hs) in
        let Q : Bool → Type 0 = λ b. rest_of s n (y ∷ without_read h.t h.op h.key h.sid hs)
        ≡ (if b then outs_of s n y else [])
        ++ rest_of s n (without_read h.t h.op h.key h.sid hs) in
        let rest : rest_of s n (y ∷ without_read h.t h.op h.key h.sid hs)
        ≡ rest_of s n (without_read h.t h.op h.key h.sid hs) = subst Q is refl in
        subst P (sym other) (more e ∙ ap (λ z. serve_outs n (answer_to s h false) ++ z) (sym rest))

-- what `release` answers is the answer to the first free read, where there is one
pub record IsAnswerTo (s : Given) (hs : List HeldRead) (a : Answer) : Type 0 where
  pub read : HeldRead
  pub found : find (is_free s.journal) hs ≡ Some read
  pub is : a ≡ answer_to s read false

pub answered-first : (s : Given) (hs : List HeldRead) (a : Answer) → first_answer s hs ≡ Some a → IsAnswerTo s hs a
answered-first s hs a e = go (find (is_free s.journal) hs) refl e
  where
    go : (o : Option HeldRead) → find (is_free s.journal) hs ≡ o
        → option_map (λ h. answer_to s h false) o ≡ Some a → IsAnswerTo s hs a
    go None is e = absurd (cc)
    go (Some h) is e = record { read = h; found = is; is = (let same : answer_to s h false ≡ a = cc in sym same) }

pub answered-none : (s : Given) (hs : List HeldRead) → first_answer s hs ≡ None → find (is_free s.journal) hs ≡ None
answered-none s hs e = go (find (is_free s.journal) hs) refl e
  where
    go : (o : Option HeldRead) → find (is_free s.journal) hs ≡ o
        → option_map (λ h. answer_to s h false) o ≡ None → o ≡ None
    go None is e = refl
    go (Some h) is e = absurd (cc)

-- the step of a release in the words of its answer
answered-step : (s : Given) (n : NodeId) (hs : List HeldRead) (a : Answer) → IsAnswerTo s hs a
    → rest_of s n hs ≡ serve_outs n a ++ rest_of s n (without_answered a hs)
answered-step s n hs a first =
    let P : Answer → Type 0 = λ x. rest_of s n hs ≡ serve_outs n x ++ rest_of s n (without_answered x hs) in
    subst P (sym first.is) (release-first s n hs first.read first.found)

-- all of them
pub release-all : (s : Given) (n : NodeId) (hs left : List HeldRead) (answers : List Answer)
    → Releases s hs answers left → flat_map (serve_outs n) answers ≡ release s.cluster s.journal n hs
release-all s n hs left [] all = sym (release-none s.cluster s.journal n hs (answered-none s hs all.0))
release-all s n hs left (a ∷ answers) all =
    ap (λ z. serve_outs n a ++ z) (release-all s n (without_answered a hs) left answers all.1)
    ∙ sym (answered-step s n hs a (answered-first s hs a all.0))

-- the view behind a read that was served
abbrev view_served : Option Envelope → Option ScriptData → View → NodeId → Answer → View
view_served e o v n a =
    behind e o (behind e o v (out.Act (act.Served n a.t a.op a.key a.sid a.vn a.value))) (reply_of a)

held-served : (e : Option Envelope) (o : Option ScriptData) (v : View) (n : NodeId) (a : Answer) (hs : List HeldRead)
    → is_request (said_by e) ≡ false → v.held ≡ hs → (view_served e o v n a).held ≡ without_answered a hs
held-served e o v n a hs quiet is =
    let P : Bool → Type 0 = λ b.
    (if b then v.held else without_read a.t a.op a.key a.sid v.held) ≡ without_answered a hs in
    subst P (sym quiet) (ap (λ z. without_answered a z) is)

outs-served : (e : Option Envelope) (o : Option ScriptData) (v : View) (n : NodeId) (a : Answer) (rest : List Out)
    → a.raised ≡ false → behind_all e o v (serve_outs n a ++ rest) ≡ behind_all e o (view_served e o v n a) rest
outs-served e o v n a rest quiet =
    let P : Bool → Type 0 = λ b.
    behind_all e o v ((raised_outs n b a.sid
    ++ (out.Act (act.Served n a.t a.op a.key a.sid a.vn a.value) ∷ (reply_of a ∷ []))) ++ rest)
    ≡ behind_all e o (view_served e o v n a) rest in
    subst P (sym quiet) refl

-- behind a message that is no read request
pub release-held : (s : Given) (n : NodeId) (e : Option Envelope) (o : Option ScriptData) (v : View)
    (hs left : List HeldRead) (answers : List Answer)
    → is_request (said_by e) ≡ false → Releases s hs answers left → v.held ≡ hs
    → (behind_all e o v (flat_map (serve_outs n) answers)).held ≡ left
release-held s n e o v hs left [] quiet all is = is ∙ sym all.1
release-held s n e o v hs left (a ∷ answers) quiet all is =
    let first = answered-first s hs a all.0 in
    let unraised : a.raised ≡ false = ap (λ (x : Answer). x.raised) first.is in
    let more = release-held s n e o (view_served e o v n a) (without_answered a hs) left answers quiet all.1
    (held-served e o v n a hs quiet is) in
    ap (λ (x : View). x.held) (outs-served e o v n a (flat_map (serve_outs n) answers) unraised) ∙ more
