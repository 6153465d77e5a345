-- Does each read request name an operation of a script, and go to a holder of its key?
use Rattle.std.proofs.Common.{◌≡◌, ℕ, ◌≤◌, Bool, true, List, [], length, Some, arith}
use Rattle.std.proofs.lemmas.Bool.Decides.{nat_tests}
use Rattle.std.proofs.lemmas.Option.{slice_get_within}
use Rattle.std.specs.Prelude.{◌&&◌, nat_le}
use Rattle.score_base.specs.declared.ids.NodeId.{NodeId}
use Rattle.script_lang.specs.Scripts.{ScriptData}
use Rattle.placement.specs.Places.{holds}
use Rattle.grid_model.specs.declared.acts.Act.{Act}
use Rattle.grid_model.specs.declared.messages.Message.{Message}
use Rattle.grid_model.specs.declared.messages.Message.TheVariants as message
use Rattle.grid_model.specs.declared.messages.ReadReq.{ReadReq}
use Rattle.grid_model.specs.Documents.{DocumentData, IsOne}
use Rattle.grid_model.specs.Histories.{sent, sent_at}
use Rattle.grid_model.specs.Stories.{is_small}
use Rattle.grid_model.specs.Views.{view}
use Rattle.grid_model.specs.Fitness.{is_fit_request, date_ident}
use Rattle.script_runs.proofs.Walks.{waiting-open}
use Rattle.grid_laws.proofs.Causes.{AllDue, SendDue, RequestDue}
use Rattle.grid_laws.proofs.Holds.{sent-hold}
use Rattle.grid_laws.proofs.PreparesFit.{body-most}

-- the operation is from 1 to 32, and y holds the key
abbrev pub is_placed : DocumentData → NodeId → ReadReq → Bool
is_placed d y q = nat_le 1 q.op && (nat_le q.op 32 && holds d.cluster.places y q.key)

request-due : (d : DocumentData) (past : List Act) (n y : NodeId) (q : ReadReq) → IsOne d → RequestDue d past n y q
    → is_placed d y q ≡ true
request-due d past n y q one due =
    let s : ScriptData = due.script in
    let short : length s.ops ≤ 32 = body-most d q.t s one due.at.script in
    let w = waiting-open 1 q.op [] due.story.progress.values s.ops due.reads in
    let within = slice_get_within s.ops _ _ w.read in
    let least = w.least in
    let held : holds d.cluster.places y q.key ≡ true = due.holds in
    both (omega (arith, least, within, short)) least held
  where
    both : q.op ≤ 32 → 1 ≤ q.op → holds d.cluster.places y q.key ≡ true → is_placed d y q ≡ true
    both most least held = grind (arith, nat_tests, most, least, held)

abbrev RequestPlaced : DocumentData → NodeId → Message → Type 0
RequestPlaced d y (message.ReadReq q) = is_placed d y q ≡ true
RequestPlaced d y said = Unit {0}

placed-due : (d : DocumentData) (past : List Act) (n y : NodeId) (said : Message) → IsOne d → SendDue d past n y said
    → RequestPlaced d y said
placed-due d past n y (message.ReadReq q) one due = request-due d past n y q one due
placed-due d past n y said one due = tt

-- each request that was sent
pub request-placed : (d : DocumentData) (past : List Act) (m : ℕ) (x y : NodeId) (q : ReadReq) → IsOne d → AllDue d past
    → sent_at m (sent past) ≡ Some (record { from = x; to = y; message = message.ReadReq q }) → is_placed d y q ≡ true
request-placed d past m x y q one due is = sent-hold (λ now n y said. RequestPlaced d y said) d past (λ now a n y said all h. h) (λ now n y said all h. placed-due d now n y said one h) due m (record { from = x; to = y; message = message.ReadReq q }) is

-- it is fit, where its identifier is small
pub request-fit : (d : DocumentData) (past : List Act) (m : ℕ) (x y : NodeId) (q : ReadReq) → IsOne d → AllDue d past
    → sent_at m (sent past) ≡ Some (record { from = x; to = y; message = message.ReadReq q })
    → is_small (date_ident q.date) ≡ true → is_fit_request (view d past y).cluster y q ≡ true
request-fit d past m x y q one due is small = rw small (request-placed d past m x y q one due is)
