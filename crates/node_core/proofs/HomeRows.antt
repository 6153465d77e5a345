-- The turns of a desk are the rows of their events in each view that is shown, and their records fit.
use Rattle.std.proofs.lemmas.Bool.Decides.{nat_tests}
use Rattle.std.proofs.Common.{◌≡◌, ◌==◌, ◌&&◌, nat_le, max, ℕ, Bool, true, false, List, [], ◌∷◌, ◌++◌, Option, Some, None, refl, sym, ap, subst, ◌∙◌, arith, if◌then◌else◌}
use Rattle.std.specs.Prelude.{is_some, is_none}
use Rattle.score_base.specs.declared.ids.TxId.{TxId}
use Rattle.score_base.specs.declared.ids.NodeId.{NodeId}
use Rattle.score_base.specs.declared.ids.Ident.{Ident}
use Rattle.score_base.specs.declared.causes.Ballot.{Ballot}
use Rattle.score_base.specs.declared.causes.Ballot.TheVariants as ballot
use Rattle.score_base.specs.declared.records.Record.{Record}
use Rattle.score_base.specs.declared.records.Record.TheVariants as record'
use Rattle.script_lang.specs.Scripts.{ScriptData}
use Rattle.script_runs.specs.Waits.{waiting}
use Rattle.placement.specs.Clusters.{ClusterData}
use Rattle.placement.specs.Places.{is_among}
use Rattle.journal_words.specs.Journals.{Decision, undone, fits, commit_id}
use Rattle.grid_model.specs.declared.events.Event.TheVariants as event
use Rattle.grid_model.specs.declared.messages.Message.TheVariants as message
use Rattle.grid_model.specs.declared.messages.ReadRep.{ReadRep}
use Rattle.grid_model.specs.declared.stories.HeldRead.{HeldRead}
use Rattle.grid_model.specs.declared.stories.Voted.{Voted}
use Rattle.grid_model.specs.Stories.{is_small, is_small_node, is_fit_ballot, has_voted}
use Rattle.grid_model.specs.Fitness.{is_fit, is_fit_begin, is_part_at}
use Rattle.grid_model.specs.Rows.{greatest_vote, have_voted, are_all_among}
use Rattle.grid_model.specs.Views.{View, Open, Stage, Apart, Reads, Collects, Commits, open_stage, stage_by, stage, is_apart}
use Rattle.grid_model.specs.Advances.{parts_now}
use Rattle.grid_store.specs.Given.{Given}
use Rattle.snapshot_read.specs.Views.{view_with}
use Rattle.presumed_abort.specs.declared.states.Collecting.{Collecting}
use Rattle.presumed_abort.specs.declared.states.Committed.{Committed}
use Rattle.presumed_abort.specs.declared.stands.Stand.{Stand}
use Rattle.presumed_abort.specs.declared.stands.Stand.TheVariants as stand
use Rattle.presumed_abort.specs.Stands.{standing}
use Rattle.presumed_abort.specs.States.{with_votes}
use Rattle.presumed_abort.specs.Turns.{quiet, vote_turn, ballot_turn, yes_turn, full_turn, waits_as, ack_turn, acked_turn, last_turn}
use Rattle.presumed_abort.specs.Replies.{begin_turn, reply_turn}
use Rattle.presumed_abort.specs.Retries.{retry_turn, sent_again, told_of}
use Rattle.presumed_abort.specs.Views.{kept, IsRow}
use Rattle.presumed_abort.proofs.Asides.{both}
use Rattle.presumed_abort.proofs.DeskRows.{vote-is-row, ack-is-row, reply-is-row, ask-is-row, retry-is-row, begin-is-row}
use Rattle.node_core.specs.Shows.{Shows, own_view}
use Rattle.node_core.specs.Owning.{IsOwn}
use Rattle.node_core.proofs.HomeTurns.{IsRowIn}
use Rattle.node_core.proofs.OwnViews.{shown-own}

-- a fact of a view that is shown, by its parts
at-parts : (P : View → Type 0) (s : Given) (hs : List HeldRead) (desk : List (TxId × Stand)) (v : View)
    → Shows s hs desk v
    → ((d : TxId → Option Open) (acks : TxId → List NodeId) → Shows s hs desk (view_with s hs d acks)
    → P (view_with s hs d acks))
    → P v
at-parts P s hs desk v shows f = subst P (sym shows.is) (f v.desk v.acks (subst (Shows s hs desk) shows.is shows))

pub begin-in : (c : ClusterData) (s : Given) (hs : List HeldRead) (desk : List (TxId × Stand)) (script : ScriptData)
    (floor sid0 : Ident) → c ≡ s.cluster → sid0 ≡ max (commit_id s.journal) floor → IsOwn s hs desk
    → ((v : View) → Shows s hs desk v → is_fit_begin s.node v script floor ≡ true)
    → IsRowIn s hs desk (event.Begin script floor) script.number (begin_turn c script sid0)
begin-in c s hs desk script floor sid0 same first own fit =
    let e = event.Begin script floor in
    let turn = begin_turn s.cluster script (max (commit_id s.journal) floor) in
    subst (λ k. IsRowIn s hs desk e script.number (begin_turn k script sid0)) (sym same)
    (subst (λ i. IsRowIn s hs desk e script.number (begin_turn s.cluster script i)) (sym first)
    (λ v shows. at-parts (λ w. IsRow s.node w desk e script.number turn) s hs desk v shows
    (λ d acks given. begin-is-row s.node (view_with s hs d acks) desk script floor own.unique given.desk_is
    (fit (view_with s hs d acks) given))))

pub reply-in : (c : ClusterData) (s : Given) (hs : List HeldRead) (desk : List (TxId × Stand)) (x : NodeId)
    (q : ReadRep) → c ≡ s.cluster → IsOwn s hs desk
    → ((v : View) → Shows s hs desk v → is_fit s.node v x (message.ReadRep q) ≡ true)
    → IsRowIn s hs desk (event.Deliver x (message.ReadRep q)) q.t (reply_turn c q (standing desk q.t))
reply-in c s hs desk x q same own fit =
    let e = event.Deliver x (message.ReadRep q) in
    let turn = λ (k : ClusterData). reply_turn k q (standing desk q.t) in
    subst (λ k. IsRowIn s hs desk e q.t (turn k)) (sym same)
    (λ v shows. at-parts (λ w. IsRow s.node w desk e q.t (turn s.cluster)) s hs desk v shows
    (λ d acks given. reply-is-row s.node (view_with s hs d acks) desk x q own.unique given.desk_is given.numbers
    (fit (view_with s hs d acks) given)))

pub retry-in : (c : ClusterData) (s : Given) (hs : List HeldRead) (desk : List (TxId × Stand)) (t : TxId)
    → c ≡ s.cluster → IsOwn s hs desk → IsRowIn s hs desk (event.Retry t) t (retry_turn c (standing desk t))
retry-in c s hs desk t same own =
    let turn = λ (k : ClusterData). retry_turn k (standing desk t) in
    subst (λ k. IsRowIn s hs desk (event.Retry t) t (turn k)) (sym same)
    (λ v shows. at-parts (λ w. IsRow s.node w desk (event.Retry t) t (turn s.cluster)) s hs desk v shows
    (λ d acks given. retry-is-row s.node (view_with s hs d acks) desk t own.unique given.desk_is given.numbers))

pub ask-in : (s : Given) (hs : List HeldRead) (desk : List (TxId × Stand)) (x : NodeId) (t : TxId)
    → IsOwn s hs desk → ((v : View) → Shows s hs desk v → is_fit s.node v x (message.Ask t) ≡ true)
    → IsRowIn s hs desk (event.Deliver x (message.Ask t)) t (sent_again (told_of t x (standing desk t)))
ask-in s hs desk x t own fit = λ v shows.
    ask-is-row s.node v desk x t own.unique shows.desk_is (fit v shows)

pub vote-in : (s : Given) (hs : List HeldRead) (desk : List (TxId × Stand)) (x : NodeId) (t : TxId) (b : Ballot)
    → IsOwn s hs desk → ((v : View) → Shows s hs desk v → is_fit s.node v x (message.Vote t b) ≡ true)
    → IsRowIn s hs desk (event.Deliver x (message.Vote t b)) t (vote_turn x b (standing desk t))
vote-in s hs desk x t b own fit = λ v shows.
    vote-is-row s.node v desk x t b own.unique shows.desk_is (fit v shows)

pub ack-in : (s : Given) (hs : List HeldRead) (desk : List (TxId × Stand)) (x : NodeId) (t : TxId)
    → IsOwn s hs desk → ((v : View) → Shows s hs desk v → is_fit s.node v x (message.Ack t) ≡ true)
    → IsRowIn s hs desk (event.Deliver x (message.Ack t)) t (ack_turn x (standing desk t))
ack-in s hs desk x t own fit = λ v shows.
    ack-is-row s.node v desk x t own.unique shows.desk_is shows.apart (fit v shows)

-- ---- a begin finds no place at the desk

apart-none : (c : ClusterData) (t : TxId) (s : Stage) → is_apart s ≡ true → kept c t s ≡ None
apart-none c t Apart is = refl
apart-none c t (Reads x j) is = absurd (grind (arith, is))
apart-none c t (Collects x) is = absurd (grind (arith, is))
apart-none c t (Commits y acks) is = absurd (grind (arith, is))

pub begin-free : (s : Given) (hs : List HeldRead) (desk : List (TxId × Stand)) (script : ScriptData) (floor : Ident)
    → IsOwn s hs desk → ((v : View) → Shows s hs desk v → is_fit_begin s.node v script floor ≡ true)
    → standing desk script.number ≡ None
begin-free s hs desk script floor own fit =
    let v = own_view s hs desk in
    let fits' = fit v (shown-own s hs desk own) in
    ap (λ f. f script.number) own.desk_is
    ∙ apart-none s.cluster script.number (stage v script.number)
    (both (is_small floor) (is_apart (stage v script.number))
    (both (script.home == s.node) (is_small floor && is_apart (stage v script.number)) fits').1).1

-- ---- the record of a vote fits

greatest-last : (x : NodeId) (p : Ident) (vs : List Voted) → nat_le 1 p ≡ true
    → nat_le 1 (greatest_vote (vs ++ record { from = x; p = p } ∷ [])) ≡ true
greatest-last x p [] one = at-least p 0 one
  where
    at-least : (p q : ℕ) → nat_le 1 p ≡ true → nat_le 1 (max p q) ≡ true
    at-least p q one = grind (arith, nat_tests, one)
greatest-last x p (v ∷ vs) one = at-most v.p _ (greatest-last x p vs one)
  where
    at-most : (p q : ℕ) → nat_le 1 q ≡ true → nat_le 1 (max p q) ≡ true
    at-most p q one = grind (arith, nat_tests, one)

yes-fits : (c : ClusterData) (n : NodeId) (j : List Record) (k : Collecting) (votes : List Voted) (r : Record)
    → undone k.t j ≡ None → nat_le 1 (greatest_vote votes) ≡ true
    → (yes_turn k votes).rec ≡ Some r → fits c n j r ≡ true
yes-fits c n j k votes r undecided one = go (have_voted k.parts votes)
  where
    go : (b : Bool) → (if b then full_turn k votes else waits_as (stand.Collecting (with_votes votes k))).rec ≡ Some r → fits c n j r ≡ true
    go true is =
        let same : record'.Decided k.t (greatest_vote votes) k.parts ≡ r = grind (arith, is) in
        subst (λ y. fits c n j y ≡ true) same
        (ap (λ d. is_none d && nat_le 1 (greatest_vote votes)) undecided ∙ one)
    go false is = absurd (grind (arith, is))

ballot-fits : (c : ClusterData) (n : NodeId) (j : List Record) (k : Collecting) (x : NodeId) (b : Ballot) (r : Record)
    → undone k.t j ≡ None → is_fit_ballot b ≡ true
    → (vote_turn x b (Some (stand.Collecting k))).rec ≡ Some r → fits c n j r ≡ true
ballot-fits c n j k x b r undecided fit = go (has_voted x k.tx.progress.votes) b fit
  where
    go : (has : Bool) (b : Ballot) → is_fit_ballot b ≡ true
        → (if has then quiet else ballot_turn k x b).rec ≡ Some r → fits c n j r ≡ true
    go true b fit is = absurd (grind (arith, is))
    go false (ballot.No why) fit is = absurd (grind (arith, is))
    go false (ballot.Yes p) fit is =
        yes-fits c n j k (k.tx.progress.votes ++ record { from = x; p = p } ∷ []) r undecided
        (greatest-last x p k.tx.progress.votes (both (is_small p) (nat_le 1 p) fit).1) is

vote-fits-at : (c : ClusterData) (n : NodeId) (j : List Record) (t : TxId) (x : NodeId) (b : Ballot) (r : Record)
    (y : Option Decision) (o : Option Open) (acks : List NodeId)
    → undone t j ≡ y → is_fit_ballot b ≡ true
    → (vote_turn x b (kept c t (stage_by y o acks))).rec ≡ Some r → fits c n j r ≡ true
vote-fits-at c n j t x b r (Some z) o acks und fit is = absurd (grind (arith, is))
vote-fits-at c n j t x b r None None acks und fit is = absurd (grind (arith, is))
vote-fits-at c n j t x b r None (Some op) acks und fit is = go (waiting op.script.ops op.progress.values) is
  where
    go : (w : Option ℕ) → (vote_turn x b (kept c t (open_stage op w))).rec ≡ Some r → fits c n j r ≡ true
    go (Some i) is = absurd (grind (arith, is))
    go None is = ballot-fits c n j (record { t = t; tx = op; parts = parts_now c op }) x b r und fit is

pub vote-fits : (s : Given) (hs : List HeldRead) (desk : List (TxId × Stand)) (x : NodeId) (t : TxId) (b : Ballot)
    (r : Record) → IsOwn s hs desk
    → ((v : View) → Shows s hs desk v → is_fit s.node v x (message.Vote t b) ≡ true)
    → (vote_turn x b (standing desk t)).rec ≡ Some r → fits s.cluster s.node s.journal r ≡ true
vote-fits s hs desk x t b r own fit is =
    let v = own_view s hs desk in
    let fits' = fit v (shown-own s hs desk own) in
    vote-fits-at s.cluster s.node s.journal t x b r (undone t s.journal) (v.desk t) (v.acks t) refl
    (both (is_fit_ballot b) (is_part_at s.cluster (stage v t) x)
    (both (is_small_node s.journal s.next) (is_fit_ballot b && is_part_at s.cluster (stage v t) x) fits').1).0
    (ap (λ (f : TxId → Option Stand). (vote_turn x b (f t)).rec) (sym own.desk_is) ∙ is)

pub vote-there : (x : NodeId) (b : Ballot) (o : Option Stand) (r : Record) → (vote_turn x b o).rec ≡ Some r
    → is_some o ≡ true
vote-there x b None r is = absurd (grind (arith, is))
vote-there x b (Some y) r is = refl

-- ---- the record of an acknowledgement fits

last-fits : (c : ClusterData) (n : NodeId) (j : List Record) (k : Committed) (acks : List NodeId) (r : Record)
    → is_some (undone k.t j) ≡ true → (acked_turn k acks).rec ≡ Some r → fits c n j r ≡ true
last-fits c n j k acks r there = go (are_all_among k.parts acks)
  where
    go : (b : Bool)
        → (if b then last_turn k else waits_as (stand.Committed (record k { acks = acks }))).rec ≡ Some r
        → fits c n j r ≡ true
    go true is =
        let same : record'.Closed k.t ≡ r = grind (arith, is) in subst (λ y. fits c n j y ≡ true) same there
    go false is = absurd (grind (arith, is))

acked-fits : (c : ClusterData) (n : NodeId) (j : List Record) (k : Committed) (x : NodeId) (r : Record)
    → is_some (undone k.t j) ≡ true
    → (ack_turn x (Some (stand.Committed k))).rec ≡ Some r → fits c n j r ≡ true
acked-fits c n j k x r there = go (is_among x k.acks)
  where
    go : (b : Bool) → (if b then quiet else acked_turn k (k.acks ++ x ∷ [])).rec ≡ Some r → fits c n j r ≡ true
    go true is = absurd (grind (arith, is))
    go false is = last-fits c n j k (k.acks ++ x ∷ []) r there is

ack-fits-at : (c : ClusterData) (n : NodeId) (j : List Record) (t : TxId) (x : NodeId) (r : Record)
    (y : Option Decision) (o : Option Open) (acks : List NodeId)
    → undone t j ≡ y → (ack_turn x (kept c t (stage_by y o acks))).rec ≡ Some r → fits c n j r ≡ true
ack-fits-at c n j t x r (Some z) o acks und is =
    acked-fits c n j (record { t = t; f = z.final; parts = z.parts; acks = acks }) x r (ap is_some und) is
ack-fits-at c n j t x r None None acks und is = absurd (grind (arith, is))
ack-fits-at c n j t x r None (Some op) acks und is = go (waiting op.script.ops op.progress.values) is
  where
    go : (w : Option ℕ) → (ack_turn x (kept c t (open_stage op w))).rec ≡ Some r → fits c n j r ≡ true
    go (Some i) is = absurd (grind (arith, is))
    go None is = absurd (grind (arith, is))

pub ack-fits : (s : Given) (hs : List HeldRead) (desk : List (TxId × Stand)) (x : NodeId) (t : TxId)
    (r : Record) → IsOwn s hs desk
    → (ack_turn x (standing desk t)).rec ≡ Some r → fits s.cluster s.node s.journal r ≡ true
ack-fits s hs desk x t r own is =
    let v = own_view s hs desk in
    ack-fits-at s.cluster s.node s.journal t x r (undone t s.journal) (v.desk t) (v.acks t) refl
    (ap (λ (f : TxId → Option Stand). (ack_turn x (f t)).rec) (sym own.desk_is) ∙ is)

pub ack-there : (x : NodeId) (o : Option Stand) (r : Record) → (ack_turn x o).rec ≡ Some r → is_some o ≡ true
ack-there x None r is = absurd (grind (arith, is))
ack-there x (Some y) r is = refl
