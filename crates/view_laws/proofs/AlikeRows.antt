-- Each row reads a journal by words that do not tell alike journals apart.
use Rattle.std.proofs.Common.{◌≡◌, List, [], ◌∷◌, refl, ap, ◌∙◌}
use Rattle.score_base.specs.declared.ids.TxId.{TxId}
use Rattle.score_base.specs.declared.ids.NodeId.{NodeId}
use Rattle.score_base.specs.declared.ids.Ident.{Ident}
use Rattle.score_base.specs.declared.causes.Outcome.{Outcome}
use Rattle.score_base.specs.declared.causes.Outcome.TheVariants as outcome
use Rattle.score_base.specs.declared.keys.Key.{Key}
use Rattle.score_base.specs.declared.records.Record.{Record}
use Rattle.score_base.specs.declared.records.Record.TheVariants as record'
use Rattle.placement.specs.Clusters.{ClusterData, init}
use Rattle.journal_words.specs.Journals.{commit_id, ended, floor, holder, home_of, is_clear, names_part, newer, pending, version_at}
use Rattle.journal_words.specs.Participants.{Participant}
use Rattle.journal_words.specs.Small.{AreAlike, of_participant}
use Rattle.journal_words.proofs.AlikeFits.{alike-more}
use Rattle.journal_words.proofs.ParticipantWords.{same_word, clear-reads, commit-id-reads, ended-reads, holder-reads, home-reads, newer-reads, pending-reads, version-at-reads}
use Rattle.grid_model.specs.declared.events.Event.{Event}
use Rattle.grid_model.specs.declared.events.Event.TheVariants as event
use Rattle.grid_model.specs.declared.messages.Message.{Message}
use Rattle.grid_model.specs.declared.messages.Message.TheVariants as message
use Rattle.grid_model.specs.declared.messages.Prepare.{Prepare}
use Rattle.grid_model.specs.declared.messages.ReadReq.{ReadReq}
use Rattle.grid_model.specs.declared.stories.HeldRead.{HeldRead}
use Rattle.grid_model.specs.Fitness.{is_fit_at, is_fit_content, tx_in}
use Rattle.grid_model.specs.Rows.{dated, end_outs, freed_by, message_outs, outs_of, prepare_outs, read_outs, release, tell_outs, version_for}
use Rattle.grid_model.specs.Views.{Stage, View, participant, stage, stage_by}

-- ---- the words

alike-pending : (t : TxId) (r s : List Record) → AreAlike r s → pending t r ≡ pending t s
alike-pending t r s a = same_word (pending t) (pending-reads t) r s a.ballots

alike-ended : (t : TxId) (r s : List Record) → AreAlike r s → ended t r ≡ ended t s
alike-ended t r s a = same_word (ended t) (ended-reads t) r s a.ballots

alike-home : (t : TxId) (r s : List Record) → AreAlike r s → home_of t r ≡ home_of t s
alike-home t r s a = same_word (home_of t) (home-reads t) r s a.ballots

alike-clear : (sid : Ident) (r s : List Record) → AreAlike r s → is_clear sid r ≡ is_clear sid s
alike-clear sid r s a = same_word (is_clear sid) (clear-reads sid) r s a.ballots

alike-commit : (r s : List Record) → AreAlike r s → commit_id r ≡ commit_id s
alike-commit r s a = same_word commit_id commit-id-reads r s a.ballots

alike-version : (c : ClusterData) (k : Key) (sid : Ident) (r s : List Record) → AreAlike r s →
    version_for c r k sid ≡ version_for c s k sid
alike-version c k sid r s a =
    same_word (λ q. version_at q k (init c k) sid) (version-at-reads k (init c k) sid) r s a.ballots

-- the parts of t are those of its newest Prepared
names-reads : (t : TxId) (m : NodeId) (r : List Record) → names_part t m (of_participant r) ≡ names_part t m r
names-reads t m [] = refl
names-reads t m (record'.Prepared u home parts sid p reads writes ∷ r) = rw (names-reads t m r) refl
names-reads t m (record'.Ended u o ∷ r) = names-reads t m r
names-reads t m (y ∷ r) = names-reads t m r

alike-names : (t : TxId) (m : NodeId) (r s : List Record) → AreAlike r s → names_part t m r ≡ names_part t m s
alike-names t m r s a = same_word (names_part t m) (names-reads t m) r s a.ballots

-- where a transaction stands
pub alike-stage : (v : View) (r : List Record) (t : TxId) → AreAlike r v.journal →
    stage (record v { journal = r }) t ≡ stage v t
alike-stage v r t a = ap (λ o. stage_by o (v.desk t) (v.acks t)) (a.decisions t)

-- ---- a participant

-- a participant with another list in the place of its journal
abbrev with : Participant → List Record → Participant
with p r = record { cluster = p.cluster; journal = r; next = p.next }

alike-read : (n : NodeId) (p : Participant) (r : List Record) (x : NodeId) (q : ReadReq) (sid : Ident) →
    AreAlike r p.journal → read_outs n (with p r) x q sid ≡ read_outs n p x q sid
alike-read n p r x q sid a =
    rw (a.clock, alike-clear sid r p.journal a, alike-version p.cluster q.key sid r p.journal a) refl

alike-prepare : (n : NodeId) (p : Participant) (r : List Record) (x : NodeId) (q : Prepare) →
    AreAlike r p.journal → prepare_outs n (with p r) x q ≡ prepare_outs n p x q
alike-prepare n p r x q a =
    rw (
      alike-ended q.t r p.journal a,
      alike-pending q.t r p.journal a,
      same_word (λ s. holder s q.t q.reads q.writes) (holder-reads q.t q.reads q.writes) r p.journal a.ballots,
      same_word (λ s. newer s q.reads q.sid) (newer-reads q.reads q.sid) r p.journal a.ballots,
    ) refl

alike-release : (c : ClusterData) (r s : List Record) (n : NodeId) (hs : List HeldRead) → AreAlike r s →
    release c r n hs ≡ release c s n hs
alike-release c r s n [] a = refl
alike-release c r s n (h ∷ hs) a =
    rw (alike-clear h.sid r s a, alike-version c h.key h.sid r s a, alike-release c r s n hs a) refl

alike-end : (n : NodeId) (p : Participant) (r : List Record) (t : TxId) (o : Outcome) → AreAlike r p.journal →
    end_outs n (with p r) t o ≡ end_outs n p t o
alike-end n p r t (outcome.Commit f) a =
    rw (alike-pending t r p.journal a, alike-ended t r p.journal a, alike-home t r p.journal a) refl
alike-end n p r t outcome.Abort a = rw (alike-pending t r p.journal a) refl

alike-freed : (n : NodeId) (p : Participant) (r : List Record) (hs : List HeldRead) (t : TxId) (o : Outcome) →
    AreAlike r p.journal → freed_by n (with p r) hs t o ≡ freed_by n p hs t o
alike-freed n p r hs t o a =
    alike-release p.cluster (record'.Ended t o ∷ r) (record'.Ended t o ∷ p.journal) n hs
    (alike-more (record'.Ended t o) r p.journal a)

alike-tell : (n : NodeId) (p : Participant) (r : List Record) (hs : List HeldRead) (t : TxId) (o : Outcome) →
    AreAlike r p.journal → tell_outs n (with p r) hs t o ≡ tell_outs n p hs t o
alike-tell n p r hs t o a =
    rw (alike-end n p r t o a, alike-pending t r p.journal a, alike-freed n p r hs t o a) refl

alike-content : (n : NodeId) (p : Participant) (r : List Record) (g : Stage) (x : NodeId) (said : Message) →
    AreAlike r p.journal → is_fit_content n (with p r) g x said ≡ is_fit_content n p g x said
alike-content n p r g x (message.Tell t o) a = rw (alike-pending t r p.journal a) refl
alike-content n p r g x said a = refl

alike-fit : (n : NodeId) (p : Participant) (r : List Record) (g : Stage) (x : NodeId) (said : Message) →
    AreAlike r p.journal → is_fit_at n (with p r) g x said ≡ is_fit_at n p g x said
alike-fit n p r g x said a = rw (a.clock, alike-content n p r g x said a) refl

alike-message : (n : NodeId) (p : Participant) (r : List Record) (hs : List HeldRead) (g : Stage) (x : NodeId)
    (said : Message) → AreAlike r p.journal → message_outs n (with p r) hs g x said ≡ message_outs n p hs g x said
alike-message n p r hs g x (message.ReadReq q) a =
    ap (λ f. read_outs n (with p r) x q (dated q.date f)) (alike-commit r p.journal a)
    ∙ alike-read n p r x q (dated q.date (commit_id p.journal)) a
alike-message n p r hs g x (message.Prepare q) a = alike-prepare n p r x q a
alike-message n p r hs g x (message.Tell t o) a = alike-tell n p r hs t o a
alike-message n p r hs g x (message.AskPeer t) a = rw (alike-ended t r p.journal a) refl
alike-message n p r hs g x said a = refl

-- ---- an event

pub alike-outs : (n : NodeId) (v : View) (r : List Record) (e : Event) → AreAlike r v.journal →
    outs_of n (record v { journal = r }) e ≡ outs_of n v e
alike-outs n v r (event.Begin s floor) a =
    rw (alike-stage v r s.number a, alike-commit r v.journal a) refl
alike-outs n v r (event.Deliver x said) a =
    rw (
      alike-stage v r (tx_in said) a,
      alike-fit n (participant v) r (stage v (tx_in said)) x said a,
      alike-message n (participant v) r v.held (stage v (tx_in said)) x said a,
    ) refl
alike-outs n v r (event.Retry t) a = rw (alike-stage v r t a) refl
alike-outs n v r (event.Ask t) a = rw (alike-pending t r v.journal a, alike-home t r v.journal a) refl
alike-outs n v r (event.AskPeer t m) a = rw (alike-pending t r v.journal a, alike-names t m r v.journal a) refl
alike-outs n v r event.Compact a = refl
