-- Each abort, refusal and loss has its shown cause, and no read-only transaction is aborted.
use Rattle.std.proofs.Common.{◌≡◌, true, List, [], ◌∷◌, Some, refl, subst, arith}
use Rattle.std.proofs.lemmas.Bool.Decides.{nat_tests}
use Rattle.std.specs.Prelude.{◌==◌, ◌&&◌}
use Rattle.score_base.specs.declared.ids.TxId.{TxId}
use Rattle.score_base.specs.declared.ids.NodeId.{NodeId}
use Rattle.score_base.specs.declared.causes.Ballot.TheVariants as ballot
use Rattle.score_base.specs.declared.causes.Cause.{Cause}
use Rattle.score_base.specs.declared.causes.Cause.TheVariants as cause
use Rattle.score_base.specs.declared.records.Record.{Record}
use Rattle.grid_model.specs.declared.acts.Act.{Act}
use Rattle.grid_model.specs.declared.acts.Act.TheVariants as act
use Rattle.grid_model.specs.declared.messages.Message.TheVariants as message
use Rattle.grid_model.specs.declared.messages.Prepare.{Prepare}
use Rattle.grid_model.specs.declared.items.Item.{Item}
use Rattle.grid_model.specs.Documents.{DocumentData}
use Rattle.grid_model.specs.Histories.{after}
use Rattle.grid_model.specs.Runs.{IsRun}
use Rattle.journal_words.specs.Journals.{holder, newer}
use Rattle.grid_model.specs.Nodes.{got, journal, said_by, script_of}
use Rattle.grid_model.specs.Acts.{EachBehind, has_refused}
use Rattle.grid_model.specs.Claims.{Caused, IsCausedAct, cause_by, is_update_in, refusal_of}
use Rattle.grid_laws.proofs.Causes.{AbortedDue, AllDue, Asked, IsDue, RefusedFor}
use Rattle.grid_laws.proofs.RunsDue.{due-run}
use Rattle.grid_laws.proofs.EndsMeant.{says-got}

-- an abort has its refusal, and is of an update
aborted-caused : (d : DocumentData) (past : List Act) (t : TxId) (x : NodeId) (why : Cause) → AllDue d past
    → AbortedDue d past t x why → (is_update_in (script_of t d.scripts) && has_refused x t why past) ≡ true
aborted-caused d past t x why all due =
    let is = due.at.script in
    let update = due.update in
    let says : has_refused x t why past ≡ true = says-got d past all (record { from = x; to = due.n; message = message.Vote t (ballot.No why) }) due.got in
    rw (is, update) says

refused-by : (r : List Record) (t : TxId) (q : Prepare) (why : Cause) → RefusedFor r t q why
    → cause_by (holder r t q.reads q.writes) (newer r q.reads q.sid) ≡ Some why
refused-by r t q (cause.Holder u) is = rw is refl
refused-by r t q (cause.Newer k f) is = (let none = is.0 in let some = is.1 in rw (none, some) refl)

-- a refusal has its holder or its newer version
refused-caused : (d : DocumentData) (past : List Act) (n x : NodeId) (t : TxId) (why : Cause) (a : Asked d past n x t)
    → RefusedFor (journal d past n) t a.prepare why → refusal_of (journal d past n) t (said_by (got past)) ≡ Some why
refused-caused d past n x t why a is =
    let q : Prepare = a.prepare in
    let r : List Record = journal d past n in
    let got' = a.got in
    let same : (q.t == t) ≡ true = (let e : t ≡ q.t = a.is in grind (arith, nat_tests)) in
    let P : TxId → Type 0 = λ u. RefusedFor r u q why in
    rw (got', same) (refused-by r q.t q why (subst P a.is is))

act-caused : (d : DocumentData) (past : List Act) (a : Act) → AllDue d past → IsDue d past a → IsCausedAct d a past
act-caused d past (act.Aborted t x why) all due = aborted-caused d past t x why all due
act-caused d past (act.Refused n t why) all due = refused-caused d past n due.0 t why due.1 due.2
act-caused d past (act.Lost t) all due = due.opened
act-caused d past a all due = tt

-- each act has its cause
pub caused : (d : DocumentData) (past : List Act) → AllDue d past → EachBehind (IsCausedAct d) past
caused d [] due = tt
caused d (a ∷ past) due = (act-caused d past a due.1 due.0, caused d past due.1)

-- of every run
pub caused-run : (d : DocumentData) (items : List Item) (h : List Act) → IsRun d items h → Caused d h
caused-run d items h run = caused d (after [] h) (due-run d items h run)
