-- The rows of a participant leave the desk as it is.
use Rattle.std.proofs.Common.{◌≡◌, Bool, true, false, ◌&&◌, List, [], ◌∷◌, ◌++◌, Option, Some, None, refl, arith, nat_lt, if◌then◌else◌}
use Rattle.std.specs.Prelude.{◌+◌, max, is_some}
use Rattle.score_base.specs.declared.ids.TxId.{TxId}
use Rattle.score_base.specs.declared.ids.NodeId.{NodeId}
use Rattle.score_base.specs.declared.ids.Ident.{Ident}
use Rattle.score_base.specs.declared.keys.Key.{Key}
use Rattle.score_base.specs.declared.causes.Outcome.{Outcome}
use Rattle.score_base.specs.declared.causes.Outcome.TheVariants as outcome
use Rattle.score_base.specs.declared.records.Record.{Record}
use Rattle.score_base.specs.declared.records.Record.TheVariants as record'
use Rattle.placement.specs.Clusters.{ClusterData}
use Rattle.journal_words.specs.declared.versions.Version.{Version}
use Rattle.journal_words.specs.Journals.{commit_id, floor, is_clear, ended, is_commit, pending, holder, newer, home_of, names_part}
use Rattle.journal_words.specs.Participants.{Participant}
use Rattle.grid_model.specs.declared.acts.Act.TheVariants as act
use Rattle.grid_model.specs.declared.events.Event.{Event}
use Rattle.grid_model.specs.declared.events.Event.TheVariants as event
use Rattle.grid_model.specs.declared.events.Out.{Out}
use Rattle.grid_model.specs.declared.events.Out.TheVariants as out
use Rattle.grid_model.specs.declared.messages.Message.{Message}
use Rattle.grid_model.specs.declared.messages.Message.TheVariants as message
use Rattle.grid_model.specs.declared.messages.ReadReq.{ReadReq}
use Rattle.grid_model.specs.declared.stories.HeldRead.{HeldRead}
use Rattle.grid_model.specs.Fitness.{is_fit}
use Rattle.grid_model.specs.Views.{View, participant}
use Rattle.grid_model.specs.Advances.{to_node}
use Rattle.grid_model.specs.Rows.{served, version_for, release, ceilings, raises, ceiling_of, answered, read_outs, dated, freed_by, judged, prepared_outs, prepare_outs, peer_outs, commit_outs, abort_outs, end_outs, if_pending, tell_outs, ask_outs, ask_peer_outs, outs_of}
use Rattle.grid_model.specs.NextViews.{envelope_of, heard_view, next_view}
use Rattle.presumed_abort.specs.declared.stands.Stand.{Stand}
use Rattle.presumed_abort.specs.Views.{is_for_home, is_at_desk, IsDeskOf}
use Rattle.presumed_abort.proofs.Asides.{is_no_request, are_aside, Aside, aside-more, outs-aside, are-append, aside-desk}

-- ---- reads

ceilings-aside : (n : NodeId) (floor sid : Ident) → are_aside (ceilings n floor sid) ≡ true
ceilings-aside n floor sid = go (nat_lt floor sid)
  where
    go : (b : Bool) → are_aside (if b then out.Act (act.Ceiling n (ceiling_of sid)) ∷ [] else []) ≡ true
    go true = refl
    go false = refl

raises-aside : (n : NodeId) (next sid : Ident) → are_aside (raises n next sid) ≡ true
raises-aside n next sid = go (nat_lt next sid)
  where
    go : (b : Bool) → are_aside (if b then out.Act (act.Raised n sid) ∷ [] else []) ≡ true
    go true = refl
    go false = refl

answered-aside :
    (b : Bool) (n x : NodeId) (q : ReadReq) (sid : Ident) (w : Version) → are_aside (answered b n x q sid w) ≡ true
answered-aside true n x q sid w = refl
answered-aside false n x q sid w = refl

read-aside :
    (n : NodeId) (p : Participant) (x : NodeId) (q : ReadReq) (sid : Ident) → are_aside (read_outs n p x q sid) ≡ true
read-aside n p x q sid =
    let w = version_for p.cluster p.journal q.key sid in
    are-append (ceilings n (floor p.journal) sid)
    (raises n p.next sid ++ answered (is_clear sid p.journal) n x q sid w)
    (ceilings-aside n (floor p.journal) sid)
    (are-append (raises n p.next sid) (answered (is_clear sid p.journal) n x q sid w) (raises-aside n p.next sid)
    (answered-aside (is_clear sid p.journal) n x q sid w))

release-aside :
    (c : ClusterData) (r : List Record) (n : NodeId) (hs : List HeldRead) → are_aside (release c r n hs) ≡ true
release-aside c r n [] = refl
release-aside c r n (h ∷ hs) = go (is_clear h.sid r) (release-aside c r n hs)
  where
    go :
        (b : Bool) → are_aside (release c r n hs) ≡ true
        → are_aside
        ((if b then served n h.t h.op h.key h.sid h.from (version_for c r h.key h.sid) else []) ++ release c r n hs)
        ≡ true
    go true rest = rest
    go false rest = rest

-- ---- votes

judged-aside :
    (n x : NodeId) (t : TxId) (u : Option TxId) (y : Option (Key × Ident)) (p : Ident)
    → are_aside (judged n x t u y p) ≡ true
judged-aside n x t (Some u) y p = refl
judged-aside n x t None (Some y) p = refl
judged-aside n x t None None p = refl

prepared-aside :
    (n x : NodeId) (t : TxId) (o : Option Outcome) (mine : Option Ident) (u : Option TxId) (y : Option (Key × Ident))
    (p : Ident)
    → are_aside (prepared_outs n x t o mine u y p) ≡ true
prepared-aside n x t (Some o) mine u y p = refl
prepared-aside n x t None (Some q) u y p = refl
prepared-aside n x t None None u y p = judged-aside n x t u y p

-- ---- ends

node-aside : (o : Option NodeId) (said : Message) → is_no_request said ≡ true → are_aside (to_node o said) ≡ true
node-aside None said is = refl
node-aside (Some m) said is = rw is refl

commit-aside :
    (n : NodeId) (t : TxId) (f : Ident) (p : Option Ident) (done : Bool) (ack : List Out)
    → are_aside ack ≡ true → are_aside (commit_outs n t f p done ack) ≡ true
commit-aside n t f (Some p) done ack is = is
commit-aside n t f None true ack is = is
commit-aside n t f None false ack is = refl

abort-aside : (n : NodeId) (t : TxId) (p : Option Ident) → are_aside (abort_outs n t p) ≡ true
abort-aside n t (Some p) = refl
abort-aside n t None = refl

end-aside : (n : NodeId) (p : Participant) (t : TxId) (o : Outcome) → are_aside (end_outs n p t o) ≡ true
end-aside n p t (outcome.Commit f) =
    commit-aside n t f (pending t p.journal) (is_commit (ended t p.journal))
    (to_node (home_of t p.journal) (message.Ack t))
    (node-aside (home_of t p.journal) (message.Ack t) refl)
end-aside n p t outcome.Abort = abort-aside n t (pending t p.journal)

pending-aside : (p : Option Ident) (os : List Out) → are_aside os ≡ true → are_aside (if_pending p os) ≡ true
pending-aside (Some p) os is = is
pending-aside None os is = refl

tell-aside :
    (n : NodeId) (p : Participant) (held : List HeldRead) (t : TxId) (o : Outcome)
    → are_aside (tell_outs n p held t o) ≡ true
tell-aside n p held t o =
    are-append (end_outs n p t o) (if_pending (pending t p.journal) (freed_by n p held t o)) (end-aside n p t o)
    (pending-aside (pending t p.journal) (freed_by n p held t o)
    (release-aside p.cluster (record'.Ended t o ∷ p.journal) n held))

-- ---- questions

peer-aside : (t : TxId) (x : NodeId) (o : Option Outcome) → are_aside (peer_outs t x o) ≡ true
peer-aside t x None = refl
peer-aside t x (Some o) = refl

ask-aside : (p : Participant) (t : TxId) → are_aside (ask_outs p t) ≡ true
ask-aside p t = go (is_some (pending t p.journal))
  where
    go : (b : Bool) → are_aside (if b then to_node (home_of t p.journal) (message.Ask t) else []) ≡ true
    go true = node-aside (home_of t p.journal) (message.Ask t) refl
    go false = refl

ask-peer-aside : (p : Participant) (t : TxId) (m : NodeId) → are_aside (ask_peer_outs p t m) ≡ true
ask-peer-aside p t m = go (is_some (pending t p.journal) && names_part t m p.journal)
  where
    go : (b : Bool) → are_aside (if b then out.Send m (message.AskPeer t) ∷ [] else []) ≡ true
    go true = refl
    go false = refl

-- ---- a message, an event

heard-aside :
    (v : View) (x : NodeId) (said : Message) → is_for_home said ≡ false → Aside v (heard_view v x said)
heard-aside v x (message.ReadReq q) is =
    record { cluster = refl; undone' = λ t. refl; desk = λ t. refl; acks = λ t. refl }
heard-aside v x (message.Prepare q) is =
    record { cluster = refl; undone' = λ t. refl; desk = λ t. refl; acks = λ t. refl }
heard-aside v x (message.Tell t o) is =
    record { cluster = refl; undone' = λ t. refl; desk = λ t. refl; acks = λ t. refl }
heard-aside v x (message.AskPeer t) is =
    record { cluster = refl; undone' = λ t. refl; desk = λ t. refl; acks = λ t. refl }
heard-aside v x (message.ReadRep q) is = absurd (grind (arith, is))
heard-aside v x (message.Vote t b) is = absurd (grind (arith, is))
heard-aside v x (message.Ack t) is = absurd (grind (arith, is))
heard-aside v x (message.Ask t) is = absurd (grind (arith, is))

if-fit : (b : Bool) (os : List Out) → are_aside os ≡ true → are_aside (if b then os else []) ≡ true
if-fit true os is = is
if-fit false os is = refl

answer-aside :
    (n : NodeId) (v : View) (x : NodeId) (said : Message)
    → is_for_home said ≡ false → are_aside (outs_of n v (event.Deliver x said)) ≡ true
answer-aside n v x (message.ReadReq q) is =
    if-fit (is_fit n v x (message.ReadReq q)) (read_outs n (participant v) x q (dated q.date (commit_id v.journal)))
    (read-aside n (participant v) x q (dated q.date (commit_id v.journal)))
answer-aside n v x (message.Prepare q) is =
    if-fit (is_fit n v x (message.Prepare q)) (prepare_outs n (participant v) x q)
    (prepared-aside n x q.t (ended q.t v.journal) (pending q.t v.journal)
    (holder v.journal q.t q.reads q.writes) (newer v.journal q.reads q.sid) (1 + max v.next q.sid))
answer-aside n v x (message.Tell t o) is =
    if-fit (is_fit n v x (message.Tell t o)) (tell_outs n (participant v) v.held t o)
    (tell-aside n (participant v) v.held t o)
answer-aside n v x (message.AskPeer t) is =
    if-fit (is_fit n v x (message.AskPeer t)) (peer_outs t x (ended t v.journal))
    (peer-aside t x (ended t v.journal))
answer-aside n v x (message.ReadRep q) is = absurd (grind (arith, is))
answer-aside n v x (message.Vote t b) is = absurd (grind (arith, is))
answer-aside n v x (message.Ack t) is = absurd (grind (arith, is))
answer-aside n v x (message.Ask t) is = absurd (grind (arith, is))

event-aside :
    (n : NodeId) (v : View) (e : Event) → is_at_desk e ≡ false → Aside v (next_view n v e (outs_of n v e))
event-aside n v (event.Deliver x said) is =
    aside-more v (heard_view v x said) (next_view n v (event.Deliver x said) (outs_of n v (event.Deliver x said)))
    (heard-aside v x said is)
    (outs-aside (envelope_of n (event.Deliver x said)) None (heard_view v x said)
    (outs_of n v (event.Deliver x said)) (answer-aside n v x said is))
event-aside n v (event.Ask t) is = outs-aside None None v (ask_outs (participant v) t) (ask-aside (participant v) t)
event-aside n v (event.AskPeer t m) is =
    outs-aside None None v (ask_peer_outs (participant v) t m) (ask-peer-aside (participant v) t m)
event-aside n v event.Compact is = outs-aside None None v (outs_of n v event.Compact) refl
event-aside n v (event.Begin s floor) is = absurd (grind (arith, is))
event-aside n v (event.Retry t) is = absurd (grind (arith, is))

pub other-row :
    (n : NodeId) (v : View) (desk : List (TxId × Stand)) (e : Event)
    → is_at_desk e ≡ false → IsDeskOf v desk → IsDeskOf (next_view n v e (outs_of n v e)) desk
other-row n v desk e is at = aside-desk v (next_view n v e (outs_of n v e)) desk (event-aside n v e is) at
