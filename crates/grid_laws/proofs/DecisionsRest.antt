-- Each decision rests on every part of its transaction.
use Rattle.std.proofs.Common.{◌≡◌, ℕ, ◌≤◌, ◌<◌, Bool, true, false, List, [], ◌∷◌, Option, refl, sym, ap, subst, ◌∙◌, arith}
use Rattle.std.proofs.lemmas.Bool.Decides.{nat_tests}
use Rattle.std.specs.Prelude.{◌==◌, ◌&&◌}
use Rattle.score_base.specs.declared.ids.TxId.{TxId}
use Rattle.score_base.specs.declared.ids.NodeId.{NodeId}
use Rattle.score_base.specs.declared.ids.Ident.{Ident}
use Rattle.score_base.specs.declared.ids.Value.{Value}
use Rattle.score_base.specs.declared.records.Record.{Record}
use Rattle.score_base.specs.declared.records.Record.TheVariants as record'
use Rattle.script_lang.specs.Scripts.{ScriptData}
use Rattle.placement.specs.Places.{is_among}
use Rattle.grid_model.specs.declared.acts.Act.{Act}
use Rattle.grid_model.specs.declared.acts.Head.{Head}
use Rattle.grid_model.specs.declared.acts.Head.TheVariants as head
use Rattle.grid_model.specs.declared.stories.Story.{Story}
use Rattle.grid_model.specs.Documents.{DocumentData}
use Rattle.grid_model.specs.Nodes.{got, journal, node, parts_in, parts_of, record_of, is_home}
use Rattle.grid_model.specs.Stories.{first_sid}
use Rattle.grid_model.specs.Copies.{snapshot}
use Rattle.journal_words.specs.Journals.{has_prepared, has_decided}
use Rattle.grid_model.specs.Facts.{parts_at, DecisionsRest, records_at}
use Rattle.grid_model.specs.Rows.{greatest_vote}
use Rattle.grid_laws.proofs.Causes.{AllDue, RecordDue, DecidedDue}
use Rattle.journal_words.proofs.Stands.{has_prepared-says, prepared-sound}
use Rattle.grid_laws.proofs.NodesFitActs.{nodes-fit, prepared-is}
use Rattle.grid_laws.proofs.MessagesBacked.{prepared-more}
use Rattle.grid_laws.proofs.Holds.{NodeHolds, records-hold}
use Rattle.grid_laws.proofs.FullStories.{Full, full-more, full-snapshot}
use Rattle.grid_laws.proofs.PreparesSay.{prepared-say, first-prepared}
use Rattle.grid_laws.proofs.VotesBacked.{StoryBacked, AllVotes, FoundVote, FoundPart, stories-backed, vote-found, vote-greatest, voted-each}
use Rattle.grid_laws.proofs.NodesFit.{AtItsHome, AllHold, HoldsIn, hold-found}

-- what a Decided says: the votes of all parts, and a snapshot below the final identifier
pub record DecisionSays (d : DocumentData) (past : List Act) (t : TxId) (f : Ident) : Type 0 where
  pub home : NodeId
  pub script : ScriptData
  pub sid : Ident
  pub values : List (ℕ × Value)
  pub full : Full d past home t script sid values
  pub each : (n : NodeId) → is_among n (parts_at d t) ≡ true → FoundVote d past t n f
  pub reached : FoundPart d past t f
  pub fresh : sid < f

abbrev pub DecidedSays : DocumentData → List Act → NodeId → Record → Type 0
DecidedSays d past n (record'.Decided t f parts) = DecisionSays d past t f
DecidedSays d past n y = Unit {0}

decision-more : (d : DocumentData) (past : List Act) (a : Act) (t : TxId) (f : Ident) → AllDue d (a ∷ past)
    → DecisionSays d past t f → DecisionSays d (a ∷ past) t f
decision-more d past a t f due s =
    record {
      home = s.home;
      script = s.script;
      sid = s.sid;
      values = s.values;
      full = full-more d past a s.home t s.script s.sid s.values due s.full;
      each = λ n e. (let w = s.each n e in (w.0, prepared-more d past a n t w.0 w.1, w.2));
      reached = (let w = s.reached in (w.0, w.1, prepared-more d past a w.0 t f w.2));
      fresh = s.fresh;
    }

decided-more : (d : DocumentData) (past : List Act) (a : Act) (n : NodeId) (y : Record) → AllDue d (a ∷ past)
    → DecidedSays d past n y → DecidedSays d (a ∷ past) n y
decided-more d past a n (record'.Decided t f parts) due s = decision-more d past a t f due s
decided-more d past a n y due s = tt

-- a final identifier that is a proposal is above the snapshot
fresh-final : (d : DocumentData) (past : List Act) (home n : NodeId) (t : TxId) (f : Ident) (s : ScriptData)
    (sid : Ident) (values : List (ℕ × Value)) → AllDue d past → Full d past home t s sid values
    → has_prepared t f (journal d past n) ≡ true → sid < f
fresh-final d past home n t f s sid values all full is =
    let fit = (nodes-fit d past all n).fits in
    let w = has_prepared-says d.cluster n t f (journal d past n) fit is in
    let sound = prepared-sound d.cluster n t w.0 (journal d past n) fit w.1 in
    let first = first-prepared d past n t w.0 (journal d past n) (prepared-say d past all n).journal w.1 in
    let theirs : snapshot d past first.prepare.t ≡ first.prepare.sid = full-snapshot d past w.0.home first.prepare.t first.says.script first.prepare.sid first.says.values first.says.full in
    let mine : snapshot d past t ≡ sid = full-snapshot d past home t s sid values full in
    let same : sid ≡ w.0.sid = sym mine ∙ ap (snapshot d past) first.t ∙ theirs ∙ sym first.sid in
    let below : w.0.sid < w.0.proposal = sound.fresh in
    let is : w.0.proposal ≡ f = w.2 in
    omega arith

decision-due : (d : DocumentData) (past : List Act) (n : NodeId) (t : TxId) (f : Ident) → AllDue d past
    → DecidedDue d past n t f → DecisionSays d past t f
decision-due d past n t f all due =
    let x : Story = due.story in
    let P : Option Story → Type 0 = λ o. StoryBacked d past t o in
    let backed : AllVotes d past t x.progress.votes = (subst P due.at.story (stories-backed d past all t)).0 in
    let sid : Ident = first_sid x.progress.sid x.progress.sid0 in
    let full : Full d past n t due.script sid x.progress.values = record { story = x; at = due.at; ident = refl; told = refl; full = due.full } in
    let parts : parts_at d t ≡ parts_of d due.script = ap (parts_in d) due.at.script in
    let is : f ≡ greatest_vote x.progress.votes = due.some.0 in
    let least : 1 ≤ greatest_vote x.progress.votes = (let l : 1 ≤ f = due.some.1 in omega arith) in
    let Q : Ident → Type 0 = λ g. FoundPart d past t g in
    let reached : FoundPart d past t f = subst Q (sym is) (vote-greatest d past t x.progress.votes backed least) in
    record {
      home = n;
      script = due.script;
      sid = sid;
      values = x.progress.values;
      full = full;
      each = λ k e. (let R : Ident → Type 0 = λ g. FoundVote d past t k g in subst R (sym is) (vote-found d past t k x.progress.votes backed (voted-each k (parts_of d due.script) x.progress.votes due.voted (rw parts at e))));
      reached = reached;
      fresh = fresh-final d past n reached.0 t f due.script sid x.progress.values all full reached.2;
    }

decided-due : (d : DocumentData) (past : List Act) (n : NodeId) (h : Head) → AllDue d past → RecordDue d past n h
    → HoldsIn (DecidedSays d past n) (record_of d (got past) h)
decided-due d past n (head.Decided t f) all due = decision-due d past n t f all due.1
decided-due d past n (head.Prepared t p) all due = let P : Option Record → Type 0 = λ o. HoldsIn (DecidedSays d past n) o in subst P (sym (prepared-is d past n t p due.1)) tt
decided-due d past n h all due = tt

-- each Decided that stands, or is in doubt
pub decided-say : (d : DocumentData) (past : List Act) → AllDue d past → (n : NodeId)
    → NodeHolds (DecidedSays d past n) (node d past n)
decided-say d past due n = records-hold (DecidedSays d) d past (λ now a k y all h. decided-more d now a k y all h) (λ now k h all r. decided-due d now k h all r) due n

-- ---- the decisions that stand

decision-at : (d : DocumentData) (past : List Act) (n : NodeId) (t u : TxId) (f g : Ident) (b : Bool)
    → (u == t && g == f) ≡ b → is_home d u n ≡ true → DecisionSays d past u g
    → (b ≡ false → (is_home d t n ≡ true) × DecisionSays d past t f) → (is_home d t n ≡ true) × DecisionSays d past t f
decision-at d past n t u f g true same home says go =
    let a : u ≡ t = grind (arith, nat_tests, same) in
    let b : g ≡ f = grind (arith, nat_tests, same) in
    let P : TxId → Type 0 = λ w. is_home d w n ≡ true in
    let Q : TxId → Type 0 = λ w. DecisionSays d past w g in
    let R : Ident → Type 0 = λ h. DecisionSays d past t h in
    (subst P a home, subst R b (subst Q a says))
decision-at d past n t u f g false same home says go = go refl

-- a decision that stands is at its home, and says so
pub decision-stands : (d : DocumentData) (past : List Act) (n : NodeId) (t : TxId) (f : Ident) (r : List Record)
    → AllHold (AtItsHome d n) r → AllHold (DecidedSays d past n) r → has_decided t f r ≡ true
    → (is_home d t n ≡ true) × DecisionSays d past t f
decision-stands d past n t f [] homes says e = cc
decision-stands d past n t f (record'.Decided u g parts ∷ r) homes says e = decision-at d past n t u f g (u == t && g == f) refl homes.0.0 says.0 (λ i. decision-stands d past n t f r homes.1 says.1 (grind (arith, e, i)))
decision-stands d past n t f (record'.Prepared u home parts sid p reads writes ∷ r) homes says e = decision-stands d past n t f r homes.1 says.1 e
decision-stands d past n t f (record'.Ended u o ∷ r) homes says e = decision-stands d past n t f r homes.1 says.1 e
decision-stands d past n t f (record'.Ceiling c ∷ r) homes says e = decision-stands d past n t f r homes.1 says.1 e
decision-stands d past n t f (record'.Closed u ∷ r) homes says e = decision-stands d past n t f r homes.1 says.1 e

pub decisions-rest : (d : DocumentData) (past : List Act) → AllDue d past → DecisionsRest d past
decisions-rest d past all kept n t f is =
    let x = node d past n in
    let homes = hold-found (AtItsHome d n) kept x.doubt x.journal (nodes-fit d past all n).homes (nodes-fit d past all n).home_doubt in
    let says = hold-found (DecidedSays d past n) kept x.doubt x.journal (decided-say d past all n).journal (decided-say d past all n).doubt in
    let w = decision-stands d past n t f (records_at d past kept n) homes says is in
    let s : DecisionSays d past t f = w.1 in
    let fixed : snapshot d past t ≡ s.sid = full-snapshot d past s.home t s.script s.sid s.values s.full in
    let below : s.sid < f = s.fresh in
    (w.0, record { each = s.each; reached = s.reached; fresh = omega arith })
