-- The rows of a part, where a Prepare or an end is told: what they give is due.
use Rattle.std.proofs.Common.{◌≡◌, ℕ, ◌+◌, Bool, true, false, List, [], ◌∷◌, ◌++◌, Option, Some, None, refl, sym, ap, ◌∙◌, arith}
use Rattle.std.specs.Prelude.{max, ◌&&◌, is_some, if◌then◌else◌}
use Rattle.score_base.specs.declared.ids.TxId.{TxId}
use Rattle.score_base.specs.declared.ids.NodeId.{NodeId}
use Rattle.score_base.specs.declared.ids.Ident.{Ident}
use Rattle.score_base.specs.declared.keys.Key.{Key}
use Rattle.score_base.specs.declared.causes.Outcome.{Outcome}
use Rattle.score_base.specs.declared.causes.Outcome.TheVariants as outcome
use Rattle.score_base.specs.declared.records.Record.TheVariants as record'
use Rattle.grid_model.specs.declared.acts.Act.{Act}
use Rattle.grid_model.specs.declared.acts.Act.TheVariants as act
use Rattle.grid_model.specs.declared.messages.Message.TheVariants as message
use Rattle.grid_model.specs.declared.messages.Prepare.{Prepare}
use Rattle.grid_model.specs.Documents.{DocumentData}
use Rattle.journal_words.specs.Journals.{ended, holder, home_of, is_commit, names_part, newer, pending}
use Rattle.grid_model.specs.Nodes.{node, journal}
use Rattle.grid_model.specs.declared.events.Out.TheVariants as out
use Rattle.grid_model.specs.Views.{View, participant, view}
use Rattle.grid_model.specs.Advances.{to_node}
use Rattle.grid_model.specs.Fitness.{is_fit_outcome, is_at_least, is_fit_prepare}
use Rattle.grid_model.specs.Rows.{prepared_outs, prepare_outs, judged, commit_outs, abort_outs, tell_outs, ask_outs, ask_peer_outs, freed_by, if_pending}
use Rattle.grid_laws.proofs.Causes.{IsUp, IsGot, Asked}
use Rattle.grid_laws.proofs.Frames.{up-stays, same-number, in-held}
use Rattle.grid_laws.proofs.DueActs.{OutsDue}
use Rattle.grid_laws.proofs.DueReads.{due-release}

-- ---- a Prepare

journal-prepared : (d : DocumentData) (past : List Act) (n x : NodeId) (q : Prepare) (p : Ident)
    → IsGot past n x (message.Prepare q) → journal d (act.Prepared n q.t p ∷ past) n
    ≡ record'.Prepared q.t x q.parts q.sid p q.reads q.writes ∷ journal d past n
journal-prepared d past n x q p got = rw (same-number n, got, journal) refl

due-judged : (d : DocumentData) (past : List Act) (n : NodeId) (m : ℕ) (x : NodeId) (t : TxId) (a : Asked d past n x t)
    (u : Option TxId) (y : Option (Key × Ident)) → IsUp d past n → ended t (journal d past n) ≡ None
    → pending t (journal d past n) ≡ None → holder (journal d past n) t a.prepare.reads a.prepare.writes ≡ u
    → newer (journal d past n) a.prepare.reads a.prepare.sid ≡ y
    → OutsDue d past n m (judged n x t u y (1 + max (node d past n).next a.prepare.sid))
due-judged d past n m x t a (Some u) y up new free held late = ((x, a, held), ((record { prepare = a.prepare; is = a.is; got = a.got; fit = a.fit }, past, refl), tt))
due-judged d past n m x t a None (Some y) up new free held late = ((x, a, (held, late)), ((record { prepare = a.prepare; is = a.is; got = a.got; fit = a.fit }, past, refl), tt))
due-judged d past n m x t a None None up new free held late =
    let p : Ident = 1 + max (node d past n).next a.prepare.sid in
    let writes : journal d (act.Prepared n t p ∷ past) n ≡ record'.Prepared t x a.prepare.parts a.prepare.sid p a.prepare.reads a.prepare.writes ∷ journal d past n = rw a.is (journal-prepared d past n x a.prepare p a.got) in (
      (refl, (up, record { from = x; asked = a; new = new; free = free; holder = held; newer = late; proposal = refl })),
      ((record { prepare = a.prepare; is = a.is; got = a.got; fit = a.fit }, rw writes (rw (same-number t) refl)), tt),
    )

due-prepare_row : (d : DocumentData) (past : List Act) (n : NodeId) (m : ℕ) (x : NodeId) (t : TxId)
    (a : Asked d past n x t) (o : Option Outcome) (mine : Option Ident) → IsUp d past n → ended t (journal d past n) ≡ o
    → pending t (journal d past n) ≡ mine → OutsDue d past n m (prepared_outs n x t o mine
    (holder (journal d past n) t a.prepare.reads a.prepare.writes)
    (newer (journal d past n) a.prepare.reads a.prepare.sid) (1 + max (node d past n).next a.prepare.sid))
due-prepare_row d past n m x t a (Some o) mine up new free = tt
due-prepare_row d past n m x t a None (Some q) up new free = ((a, free), tt)
due-prepare_row d past n m x t a None None up new free = due-judged d past n m x t a (holder (journal d past n) t a.prepare.reads a.prepare.writes) (newer (journal d past n) a.prepare.reads a.prepare.sid) up new free refl refl

pub due-prepare : (d : DocumentData) (past : List Act) (n : NodeId) (m : ℕ) (v : View) (x : NodeId) (q : Prepare)
    → v.journal ≡ journal d past n → v.next ≡ (node d past n).next → IsUp d past n → IsGot past n x (message.Prepare q)
    → is_fit_prepare d.cluster n q ≡ true → OutsDue d past n m (prepare_outs n (participant v) x q)
due-prepare d past n m v x q is clock up got fit = rw (is, clock) (due-prepare_row d past n m x q.t (record { prepare = q; is = refl; got = got; fit = fit }) (ended q.t (journal d past n)) (pending q.t (journal d past n)) up refl refl)

-- ---- an end

journal-ended : (d : DocumentData) (past : List Act) (n : NodeId) (t : TxId) (o : Outcome)
    → journal d (act.Ended n t o ∷ past) n ≡ record'.Ended t o ∷ journal d past n
journal-ended d past n t o = rw (same-number n, journal) refl

due-freed : (d : DocumentData) (past : List Act) (n : NodeId) (m : ℕ) (v : View) (t : TxId) (o : Outcome)
    → v.cluster ≡ d.cluster → v.journal ≡ journal d past n → v.held ≡ (node d past n).held → IsUp d past n
    → OutsDue d (act.Ended n t o ∷ past) n m (freed_by n (participant v) v.held t o)
due-freed d past n m v t o cluster is holds up =
    rw (cluster, is, holds)
    (due-release d (act.Ended n t o ∷ past) n m (record'.Ended t o ∷ journal d past n) (node d past n).held (up-stays d past (act.Ended n t o) n refl ∙ up) (journal-ended d past n t o) (λ h i. in-held d past n h i))

due-freed_acked : (d : DocumentData) (past : List Act) (n : NodeId) (m : ℕ) (v : View) (t : TxId) (o : Outcome)
    (y : NodeId) → v.cluster ≡ d.cluster → v.journal ≡ journal d past n → v.held ≡ (node d past n).held → IsUp d past n
    → (k : ℕ)
    → OutsDue d (act.Sent k n y (message.Ack t) ∷ (act.Ended n t o ∷ past)) n m (freed_by n (participant v) v.held t o)
due-freed_acked d past n m v t o y cluster is holds up k =
    rw (cluster, is, holds)
    (due-release d (act.Sent k n y (message.Ack t) ∷ (act.Ended n t o ∷ past)) n m (record'.Ended t o ∷ journal d past n) (node d past n).held (up-stays d past (act.Ended n t o) n refl ∙ up) (journal-ended d past n t o) (λ h i. in-held d past n h i))

due-ack : (d : DocumentData) (past : List Act) (n : NodeId) (m : ℕ) (v : View) (t : TxId) (f : Ident)
    (w : Option NodeId) → v.cluster ≡ d.cluster → v.journal ≡ journal d past n → v.held ≡ (node d past n).held
    → IsUp d past n → home_of t (journal d past n) ≡ w → OutsDue d (act.Ended n t (outcome.Commit f) ∷ past) n m
    (to_node w (message.Ack t) ++ freed_by n (participant v) v.held t (outcome.Commit f))
due-ack d past n m v t f None cluster is holds up home = due-freed d past n m v t (outcome.Commit f) cluster is holds up
due-ack d past n m v t f (Some y) cluster is holds up home = (
  (rw (journal-ended d past n t (outcome.Commit f)) (rw (same-number t) refl), rw (journal-ended d past n t (outcome.Commit f)) home),
  due-freed_acked d past n (m + 1) v t (outcome.Commit f) y cluster is holds up m,
)

due-acked_again : (d : DocumentData) (past : List Act) (n : NodeId) (m : ℕ) (t : TxId) (w : Option NodeId)
    → is_commit (ended t (journal d past n)) ≡ true → home_of t (journal d past n) ≡ w
    → OutsDue d past n m (to_node w (message.Ack t) ++ [])
due-acked_again d past n m t None done home = tt
due-acked_again d past n m t (Some y) done home = ((done, home), tt)

due-commit : (d : DocumentData) (past : List Act) (n : NodeId) (m : ℕ) (v : View) (x : NodeId) (t : TxId) (f : Ident)
    (p : Option Ident) (b : Bool) (w : Option NodeId) → v.cluster ≡ d.cluster → v.journal ≡ journal d past n
    → v.held ≡ (node d past n).held → IsUp d past n → IsGot past n x (message.Tell t (outcome.Commit f))
    → pending t (journal d past n) ≡ p → is_commit (ended t (journal d past n)) ≡ b → home_of t (journal d past n) ≡ w
    → is_at_least p f ≡ true → OutsDue d past n m (commit_outs n t f p b (to_node w (message.Ack t))
    ++ if_pending p (freed_by n (participant v) v.held t (outcome.Commit f)))
due-commit d past n m v x t f (Some p) b w cluster is holds up got pends done home fit = ((refl, (up, record { from = x; got = got; fit = rw pends fit })), due-ack d past n m v t f w cluster is holds up home)
due-commit d past n m v x t f None true w cluster is holds up got pends done home fit = due-acked_again d past n m t w done home
due-commit d past n m v x t f None false w cluster is holds up got pends done home fit = tt

due-abort : (d : DocumentData) (past : List Act) (n : NodeId) (m : ℕ) (v : View) (x : NodeId) (t : TxId)
    (p : Option Ident) → v.cluster ≡ d.cluster → v.journal ≡ journal d past n → v.held ≡ (node d past n).held
    → IsUp d past n → IsGot past n x (message.Tell t outcome.Abort) → pending t (journal d past n) ≡ p
    → OutsDue d past n m (abort_outs n t p ++ if_pending p (freed_by n (participant v) v.held t outcome.Abort))
due-abort d past n m v x t (Some p) cluster is holds up got pends = ((refl, (up, record { from = x; got = got; fit = rw pends refl })), due-freed d past n m v t outcome.Abort cluster is holds up)
due-abort d past n m v x t None cluster is holds up got pends = tt

pub due-tell : (d : DocumentData) (past : List Act) (n : NodeId) (m : ℕ) (v : View) (x : NodeId) (t : TxId)
    (o : Outcome) → v.cluster ≡ d.cluster → v.journal ≡ journal d past n → v.held ≡ (node d past n).held → IsUp d past n
    → IsGot past n x (message.Tell t o) → is_fit_outcome (pending t (journal d past n)) o ≡ true
    → OutsDue d past n m (tell_outs n (participant v) v.held t o)
due-tell d past n m v x t (outcome.Commit f) cluster is holds up got fit =
    let same : journal d past n ≡ v.journal = sym is in
    due-commit d past n m v x t f (pending t v.journal) (is_commit (ended t v.journal)) (home_of t v.journal) cluster is holds up got (ap (pending t) same) (ap (λ r. is_commit (ended t r)) same) (ap (home_of t) same) (rw is (grind (arith, fit)))
due-tell d past n m v x t outcome.Abort cluster is holds up got fit = due-abort d past n m v x t (pending t v.journal) cluster is holds up got (ap (pending t) (sym is))

-- ---- a question

due-asks : (d : DocumentData) (past : List Act) (n : NodeId) (m : ℕ) (t : TxId) (b : Bool) (w : Option NodeId)
    → is_some (pending t (journal d past n)) ≡ b → home_of t (journal d past n) ≡ w
    → OutsDue d past n m (if b then to_node w (message.Ask t) else [])
due-asks d past n m t true (Some y) pends home = ((pends, home), tt)
due-asks d past n m t true None pends home = tt
due-asks d past n m t false w pends home = tt

pub due-ask : (d : DocumentData) (past : List Act) (n : NodeId) (m : ℕ) (v : View) (t : TxId)
    → v.journal ≡ journal d past n → OutsDue d past n m (ask_outs (participant v) t)
due-ask d past n m v t is = rw is (due-asks d past n m t (is_some (pending t (journal d past n))) (home_of t (journal d past n)) refl refl)

due-ask_peers : (d : DocumentData) (past : List Act) (n : NodeId) (m : ℕ) (t : TxId) (y : NodeId) (b c : Bool)
    → is_some (pending t (journal d past n)) ≡ b → names_part t y (journal d past n) ≡ c
    → OutsDue d past n m (if b && c then out.Send y (message.AskPeer t) ∷ [] else [])
due-ask_peers d past n m t y true true pends part = ((pends, part), tt)
due-ask_peers d past n m t y true false pends part = tt
due-ask_peers d past n m t y false c pends part = tt

pub due-ask_peer : (d : DocumentData) (past : List Act) (n : NodeId) (m : ℕ) (t : TxId) (y : NodeId)
    → OutsDue d past n m (ask_peer_outs (participant (view d past n)) t y)
due-ask_peer d past n m t y = due-ask_peers d past n m t y (is_some (pending t (journal d past n))) (names_part t y (journal d past n)) refl refl
