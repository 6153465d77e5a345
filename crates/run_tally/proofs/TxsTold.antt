-- The entry of a transaction tells what its story tells.
use Rattle.std.proofs.Common.{◌≡◌, ℕ, ◌==◌, Bool, true, false, List, [], ◌∷◌, length, Option, Some, None, refl, sym, ap, ◌∙◌, if◌then◌else◌}
use Rattle.score_base.specs.declared.ids.TxId.{TxId}
use Rattle.placement.specs.Places.{holders}
use Rattle.grid_model.specs.declared.acts.Act.{Act}
use Rattle.grid_model.specs.declared.acts.Act.TheVariants as act
use Rattle.grid_model.specs.declared.messages.Message.{Message}
use Rattle.grid_model.specs.declared.messages.Message.TheVariants as message
use Rattle.grid_model.specs.declared.stories.Story.{Story}
use Rattle.grid_model.specs.Documents.{DocumentData}
use Rattle.grid_model.specs.Histories.{sent, sent_at}
use Rattle.grid_model.specs.Keyed.{at_key}
use Rattle.grid_model.specs.Nodes.{script_of, is_home, node}
use Rattle.grid_model.specs.Stories.{story, asked, heard_at, if_told, begun_in, progressed, with_request, with_value, without_answers}
use Rattle.run_tally.specs.declared.txs.TxTally.{TxTally}
use Rattle.run_tally.specs.Tallies.{begun, txs_behind, as_finished, as_aborted, as_lost}
use Rattle.run_tally.specs.Tallies as tallies
use Rattle.run_tally.proofs.ForCode.{Hears, hears-any, got-claim}
use Rattle.run_tally.proofs.Entries.{at-put_cases, at-retold, if_there, tally}

-- what an entry says of a story
abbrev pub told_of : Story → TxTally
told_of x = record { sid0 = x.progress.sid0; sid = x.progress.sid; values = x.progress.values; finished = x.finished; aborted = x.aborted; lost = x.lost }

abbrev pub tx_of : Option Story → Option TxTally
tx_of None = None
tx_of (Some x) = Some (told_of x)

-- a change that an entry does not see
unseen : (b : Bool) (f : Story → Story) (o : Option Story) → ((x : Story) → told_of (f x) ≡ told_of x) →
    tx_of o ≡ tx_of (if_told b f o)
unseen b f None same = refl
unseen true f (Some x) same = ap Some (sym (same x))
unseen false f (Some x) same = refl

-- a change that it sees
seen : (b : Bool) (f : Story → Story) (g : TxTally → TxTally) (o : Option Story) →
    ((x : Story) → told_of (f x) ≡ g (told_of x)) →
    (if b then if_there g (tx_of o) else tx_of o) ≡ tx_of (if_told b f o)
seen true f g None same = refl
seen false f g None same = refl
seen true f g (Some x) same = ap Some (sym (same x))
seen false f g (Some x) same = refl

-- a begin
opened : (b : Bool) (x : Story) (o : Option Story) →
    (if b then Some (told_of x) else tx_of o) ≡ tx_of (if b then Some x else o)
opened true x o = refl
opened false x o = refl

-- a message that is sent
asked-same : (d : DocumentData) (t : TxId) (said : Message) (o : Option Story) → tx_of o ≡ tx_of (asked d t said o)
asked-same d t (message.ReadReq q) o = unseen (q.t == t)
    (progressed (with_request (length (holders d.cluster.places q.key)))) o (λ x. refl)
asked-same d t said o = refl

-- a message that is got
heard-same : (d : DocumentData) (past : List Act) (t : TxId) (m : ℕ) (o : Option Story) →
    tx_of o ≡ tx_of (heard_at d past (script_of t d.scripts) (sent_at m (sent past)) o)
heard-same d past t m o =
    let P : Option Story → Type 0 = λ p. tx_of o ≡ tx_of p in
    let keeps : Hears P = hears-any P (λ vs x same. same) (λ ns x same. same) in
    got-claim P keeps d past (script_of t d.scripts) (sent_at m (sent past)) o refl

-- the entry of each transaction
pub txs-told : (d : DocumentData) (past : List Act) (t : TxId) → at_key t (tally d past).txs ≡ tx_of (story d past t)
txs-told d [] t = refl
txs-told d (act.Began u n sid0 ∷ past) t =
    at-put_cases u t (begun sid0) (tally d past).txs
    ∙ rw (txs-told d past t) (opened (u == t) (begun_in d (node d past) t sid0) (story d past t))
txs-told d (act.Sent m x y said ∷ past) t = txs-told d past t ∙ asked-same d t said (story d past t)
txs-told d (act.Got m ∷ past) t = txs-told d past t ∙ heard-same d past t m (story d past t)
txs-told d (act.Taken u j sid v ∷ past) t =
    at-retold u t (tallies.with_value j sid v) (tally d past).txs
    ∙ rw (txs-told d past t) (seen (u == t) (progressed (with_value j sid v)) (tallies.with_value j sid v) (story d past t) (λ x. refl))
txs-told d (act.Finished u ∷ past) t =
    at-retold u t as_finished (tally d past).txs
    ∙ rw (txs-told d past t) (seen (u == t) (λ x. record x { finished = true }) as_finished (story d past t) (λ x. refl))
txs-told d (act.Aborted u n why ∷ past) t =
    at-retold u t as_aborted (tally d past).txs
    ∙ rw (txs-told d past t) (seen (u == t) (λ x. record x { aborted = true }) as_aborted (story d past t) (λ x. refl))
txs-told d (act.Lost u ∷ past) t =
    at-retold u t as_lost (tally d past).txs
    ∙ rw (txs-told d past t) (seen (u == t) (λ x. record x { lost = true }) as_lost (story d past t) (λ x. refl))
txs-told d (act.Down n h ∷ past) t = txs-told d past t
    ∙ unseen (is_home d t n) without_answers (story d past t) (λ x. refl)
txs-told d (a ∷ past) t = txs-told d past t
