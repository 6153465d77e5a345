-- What the home of a collecting transaction does where a vote comes.
use Rattle.grid_laws.proofs.RowOuts.{kept-first, kept-none}
use Rattle.grid_laws.proofs.DueAnswers.{phase-collecting}
use Rattle.cause_laws.proofs.OpenStages.{stage-open}
use Rattle.cause_laws.proofs.Settled.{is_settled, unsettled-open}
use Rattle.cause_laws.proofs.VoteStories.{is_voted_in}
use Rattle.cause_laws.proofs.VotesSent.{fit-row}
use Rattle.grid_laws.proofs.Causes.{AllDue, Asked, SendDue}
use Rattle.grid_laws.proofs.Frames.{same-number}
use Rattle.grid_laws.proofs.FullStories.{Full, full-more}
use Rattle.grid_laws.proofs.Holds.{sent-hold}
use Rattle.grid_laws.proofs.PreparesSay.{prepare-got}
use Rattle.grid_model.specs.Documents.{DocumentData}
use Rattle.grid_model.specs.Fitness.{is_fit, is_fit_at}
use Rattle.grid_model.specs.Histories.{sent, sent_at}
use Rattle.grid_model.specs.Nodes.{got, journal, node, parts_of, script_of}
use Rattle.grid_model.specs.Rows.{answer, ballot_outs, decides, full_outs, greatest_vote, have_voted, tells, vote_outs}
use Rattle.grid_model.specs.Schedules.{kept, next_number, numbered}
use Rattle.grid_model.specs.Stories.{Collecting, has_voted, heard_at, if_told, is_counted_vote, is_fit_ballot, is_open, is_small_node, phase_at, story, told, with_vote, progressed}
use Rattle.script_runs.specs.Waits.{waiting}
use Rattle.grid_model.specs.Views.{Collects, Stage, View, open_of, open_stage, stage, view, participant}
use Rattle.grid_model.specs.declared.acts.Act.TheVariants as act
use Rattle.grid_model.specs.declared.acts.Act.{Act}
use Rattle.grid_model.specs.declared.acts.Head.TheVariants as head
use Rattle.grid_model.specs.declared.events.Out.TheVariants as out
use Rattle.grid_model.specs.declared.events.Out.{Out}
use Rattle.grid_model.specs.declared.messages.Message.TheVariants as message
use Rattle.grid_model.specs.declared.messages.Message.{Message}
use Rattle.grid_model.specs.declared.stories.Story.{Story}
use Rattle.grid_model.specs.declared.stories.Voted.{Voted}
use Rattle.placement.specs.Places.{is_among, others}
use Rattle.score_base.specs.declared.causes.Ballot.TheVariants as ballot
use Rattle.score_base.specs.declared.causes.Ballot.{Ballot}
use Rattle.score_base.specs.declared.causes.Cause.{Cause}
use Rattle.score_base.specs.declared.causes.Outcome.TheVariants as outcome
use Rattle.score_base.specs.declared.ids.Ident.{Ident}
use Rattle.score_base.specs.declared.ids.NodeId.{NodeId}
use Rattle.score_base.specs.declared.ids.TxId.{TxId}
use Rattle.score_base.specs.declared.ids.Value.{Value}
use Rattle.script_lang.specs.Scripts.{ScriptData}
use Rattle.std.proofs.Common.{Bool, List, None, Option, Some, [], ap, false, refl, subst, sym, true, ℕ, ◌++◌, ◌∙◌, ◌∷◌, ◌≡◌}
use Rattle.std.proofs.lemmas.Bool.{and_parts, or_left, or_right}
use Rattle.std.proofs.lemmas.List.Folds.{list_any-append}
use Rattle.std.specs.Prelude.{if◌then◌else◌, ◌&&◌, ◌==◌}

-- ---- who votes was asked by a home that has all values

-- the home y of t, which has all values of its reads
pub record VoteFull (d : DocumentData) (past : List Act) (y : NodeId) (t : TxId) : Type 0 where
  pub script : ScriptData
  pub sid : Ident
  pub values : List (ℕ × Value)
  pub full : Full d past y t script sid values

full-vote : (d : DocumentData) (past : List Act) (n y : NodeId) (t : TxId) → AllDue d past → Asked d past n y t
    → VoteFull d past y t
full-vote d past n y t all a =
    let s = prepare-got d past n y a.prepare all a.got in
    let P : TxId → Type 0 = λ u. Full d past y u s.script a.prepare.sid s.values in
    record { script = s.script; sid = a.prepare.sid; values = s.values; full = subst P (sym a.is) s.full }

abbrev VotesFull : DocumentData → List Act → NodeId → NodeId → Message → Type 0
VotesFull d past n y (message.Vote t b) = VoteFull d past y t
VotesFull d past n y said = Unit {0}

votes-more : (d : DocumentData) (past : List Act) (a : Act) (n y : NodeId) (said : Message) → AllDue d (a ∷ past)
    → VotesFull d past n y said → VotesFull d (a ∷ past) n y said
votes-more d past a n y (message.Vote t b) due h = record { script = h.script; sid = h.sid; values = h.values; full = full-more d past a y t h.script h.sid h.values due h.full }
votes-more d past a n y said due h = tt

votes-due : (d : DocumentData) (past : List Act) (n y : NodeId) (said : Message) → AllDue d past
    → SendDue d past n y said → VotesFull d past n y said
votes-due d past n y (message.Vote t (ballot.Yes p)) all due = full-vote d past n y t all due.0
votes-due d past n y (message.Vote t (ballot.No why)) all due = full-vote d past n y t all due.0
votes-due d past n y said all due = tt

-- each vote that was sent
pub vote-full : (d : DocumentData) (past : List Act) (m : ℕ) (x y : NodeId) (t : TxId) (b : Ballot) → AllDue d past
    → sent_at m (sent past) ≡ Some (record { from = x; to = y; message = message.Vote t b }) → VoteFull d past y t
vote-full d past m x y t b due is = sent-hold (VotesFull d) d past (λ now a n k said all h. votes-more d now a n k said all h) (λ now n k said all h. votes-due d now n k said all h) due m (record { from = x; to = y; message = message.Vote t b }) is

-- ---- what the home does

-- the acts behind a vote of x that home n got: nothing, where it was known or some part has not voted; an abort; a
-- decision; a stop
pub data VoteResult (d : DocumentData) (past : List Act) (m : ℕ) (n x : NodeId) (s : ScriptData) (rest : List Act) :
    Type 0 where
  known_vote : rest ≡ [] → is_voted_in x (story d past s.number) ≡ true
      → story d (act.Got m ∷ past) s.number ≡ story d past s.number → VoteResult d past m n x s rest
  refused_by : (why : Cause) (more : List Act) → rest ≡ act.Aborted s.number x why ∷ more
      → VoteResult d past m n x s rest
  counted_vote : (y : Story) → rest ≡ [] → story d (act.Got m ∷ past) s.number ≡ Some y
      → has_voted x y.progress.votes ≡ true → have_voted (parts_of d s) y.progress.votes ≡ false
      → waiting s.ops y.progress.values ≡ None → VoteResult d past m n x s rest
  decides_now : (f : Ident) (more : List Act) → rest ≡ act.Decided s.number f ∷ more → VoteResult d past m n x s rest
  stops_now : (f : Ident) → rest ≡ act.Down n (Some (head.Decided s.number f)) ∷ [] → VoteResult d past m n x s rest

heard-known : (d : DocumentData) (past : List Act) (s : ScriptData) (x n : NodeId) (t : TxId) (b : Ballot) (y : Story)
    → has_voted x y.progress.votes ≡ true
    → heard_at d past (Some s) (Some (record { from = x; to = n; message = message.Vote t b })) (Some y) ≡ Some y
heard-known d past s x n t (ballot.No why) y h = go (n == s.home)
  where
    go : (b : Bool) → (if b then Some y else Some y) ≡ Some y
    go true = refl
    go false = refl
heard-known d past s x n t (ballot.Yes p) y h = go (n == s.home) ((t == s.number) && is_counted_vote (parts_of d s) (phase_at s (Some y) (node d past s.home)) (journal d past s.home) (node d past s.home).next x p)
  where
    go : (b c : Bool) → (if b then if_told c (progressed (with_vote x p)) (Some y) else Some y) ≡ Some y
    go true true = rw h refl
    go true false = refl
    go false c = refl

-- a yes of x more
abbrev with_yes : NodeId → Ident → Story → Story
with_yes x p = progressed (λ z. record z { votes = z.votes ++ record { from = x; p = p } ∷ [] })

heard-new : (d : DocumentData) (past : List Act) (n : NodeId) (s : ScriptData) (st : Story) (x : NodeId) (p : Ident)
    → s.home ≡ n → phase_at s (Some st) (node d past n) ≡ Collecting
    → is_small_node (node d past n).journal (node d past n).next ≡ true → is_fit_ballot (ballot.Yes p) ≡ true
    → is_among x (parts_of d s) ≡ true → has_voted x st.progress.votes ≡ false → heard_at d past (Some s)
    (Some (record { from = x; to = n; message = message.Vote s.number (ballot.Yes p) })) (Some st)
    ≡ Some (with_yes x p st)
heard-new d past n s st x p home gathers small fit part new =
    rw (home, same-number n, gathers, small, fit, part, same-number s.number, new) refl

voted-last : (x : NodeId) (p : Ident) (vs : List Voted) → has_voted x (vs ++ record { from = x; p = p } ∷ []) ≡ true
voted-last x p vs = list_any-append (λ (v : Voted). v.from == x) vs (record { from = x; p = p } ∷ []) ∙ or_right (has_voted x vs) (has_voted x (record { from = x; p = p } ∷ [])) (or_left (x == x) false (same-number x))

vote-counts : (d : DocumentData) (past : List Act) (m : ℕ) (n x : NodeId) (b : Bool) (s : ScriptData) (p : Ident)
    (y : Story) (rest : List Act) → script_of s.number d.scripts ≡ Some s → s.home ≡ n
    → sent_at m (sent past) ≡ Some (record { from = x; to = n; message = message.Vote s.number (ballot.Yes p) })
    → story d past s.number ≡ Some y → is_settled d past s ≡ false → waiting s.ops y.progress.values ≡ None
    → is_small_node (journal d past n) (node d past n).next ≡ true → is_fit_ballot (ballot.Yes p) ≡ true
    → is_among x (parts_of d s) ≡ true → has_voted x y.progress.votes ≡ false → rest ≡ numbered (next_number past) n
    (kept b n (full_outs s.number (parts_of d s) (y.progress.votes ++ record { from = x; p = p } ∷ [])))
    → VoteResult d past m n x s rest
vote-counts d past m n x b s p y rest is home got told unsettled full small fit part new r = go (have_voted (parts_of d s) (y.progress.votes ++ record { from = x; p = p } ∷ [])) refl b r
  where
    P : NodeId → Type 0
    P = λ k. is_open (phase_at s (Some y) (node d past k)) ≡ true

    Q : Option Story → Type 0
    Q = λ o. is_open (phase_at s o (node d past s.home)) ≡ true

    unended : is_open (phase_at s (Some y) (node d past n)) ≡ true
    unended = subst P home (subst Q told (unsettled-open d past s y told unsettled))

    counted : story d (act.Got m ∷ past) s.number ≡ Some (with_yes x p y)
    counted = rw (got, is, told) (heard-new d past n s y x p home (phase-collecting d past n s y unended full) small fit part new)

    f : Ident
    f = greatest_vote (y.progress.votes ++ record { from = x; p = p } ∷ [])

    os : List Out
    os = decides s.number f (parts_of d s)

    go : (c : Bool) → have_voted (parts_of d s) (y.progress.votes ++ record { from = x; p = p } ∷ []) ≡ c → (b : Bool)
        → rest ≡ numbered (next_number past) n (kept b n (if c then os else [])) → VoteResult d past m n x s rest
    go false e b r = counted_vote (with_yes x p y) (r ∙ kept-none (next_number past) n b) counted (voted-last x p y.progress.votes) e full
    go true e true r = decides_now f (numbered (next_number past) n (out.Act (act.Finished s.number) ∷ tells s.number (outcome.Commit f) (parts_of d s))) r
    go true e false r = stops_now f r

-- what the home of an open transaction that has all values does
pub vote-result : (d : DocumentData) (past : List Act) (m : ℕ) (n x : NodeId) (b : Bool) (s : ScriptData) (a : Ballot)
    (y : Story) (rest : List Act) → script_of s.number d.scripts ≡ Some s → s.home ≡ n
    → sent_at m (sent past) ≡ Some (record { from = x; to = n; message = message.Vote s.number a })
    → is_fit n (view d past n) x (message.Vote s.number a) ≡ true
    → rest ≡ numbered (next_number past) n (kept b n (answer n (view d past n) x (message.Vote s.number a)))
    → story d past s.number ≡ Some y → is_settled d past s ≡ false → waiting s.ops y.progress.values ≡ None
    → VoteResult d past m n x s rest
vote-result d past m n x b s a y rest is home got fit r told unsettled full = go (has_voted x y.progress.votes) refl
  where
    v : View
    v = view d past n

    gathers : stage v s.number ≡ Collects (open_of s y)
    gathers = stage-open d past n s.number s y is home told unsettled ∙ ap (λ w. open_stage (open_of s y) w) full

    row : answer n v x (message.Vote s.number a) ≡ vote_outs d.cluster s.number x a (Collects (open_of s y))
    row = fit-row n x v (message.Vote s.number a) fit ∙ ap (vote_outs d.cluster s.number x a) gathers

    Acts : List Out → Type 0
    Acts = λ os. rest ≡ numbered (next_number past) n (kept b n os)

    here : Acts (if has_voted x y.progress.votes then [] else ballot_outs s.number (parts_of d s) y.progress.votes x a)
    here = subst Acts row r

    same : story d (act.Got m ∷ past) s.number ≡ heard_at d past (Some s)
        (Some (record { from = x; to = n; message = message.Vote s.number a })) (Some y)
    same = ap (λ w. heard_at d past w (sent_at m (sent past)) (story d past s.number)) is ∙ ap (λ o. heard_at d past (Some s) o (story d past s.number)) got ∙ ap (λ o. heard_at d past (Some s) (Some (record { from = x; to = n; message = message.Vote s.number a })) o) told

    fits : is_fit_at n (participant v) (Collects (open_of s y)) x (message.Vote s.number a) ≡ true
    fits = (let P : Stage → Type 0 = λ g. is_fit_at n (participant v) g x (message.Vote s.number a) ≡ true in subst P gathers fit)

    small : is_small_node (journal d past n) (node d past n).next ≡ true
    small = (and_parts (is_small_node (journal d past n) (node d past n).next) (is_fit_ballot a && is_among x (parts_of d s)) fits).0

    both : (is_fit_ballot a ≡ true) × (is_among x (parts_of d s) ≡ true)
    both = and_parts (is_fit_ballot a) (is_among x (parts_of d s)) (and_parts (is_small_node (journal d past n) (node d past n).next) (is_fit_ballot a && is_among x (parts_of d s)) fits).1

    by : (a : Ballot) → sent_at m (sent past) ≡ Some (record { from = x; to = n; message = message.Vote s.number a })
        → is_fit_ballot a ≡ true → has_voted x y.progress.votes ≡ false
        → rest ≡ numbered (next_number past) n (kept b n (ballot_outs s.number (parts_of d s) y.progress.votes x a))
        → VoteResult d past m n x s rest
    by (ballot.No why) got fb new k = refused_by why (numbered (next_number past) n (kept b n (tells s.number outcome.Abort (others x (parts_of d s))))) (k ∙ kept-first (next_number past) n b (act.Aborted s.number x why) (tells s.number outcome.Abort (others x (parts_of d s))) refl)
    by (ballot.Yes p) got fb new k = vote-counts d past m n x b s p y rest is home got told unsettled full small fb both.1 new k

    go : (c : Bool) → has_voted x y.progress.votes ≡ c → VoteResult d past m n x s rest
    go true e =
        let P : Bool → Type 0 = λ c. Acts (if c then [] else ballot_outs s.number (parts_of d s) y.progress.votes x a) in
        let Q : Option Story → Type 0 = λ o. is_voted_in x o ≡ true in
        known_vote (subst P e here ∙ kept-none (next_number past) n b) (subst Q (sym told) e) (same ∙ heard-known d past s x n s.number a y e ∙ sym told)
    go false e =
        let P : Bool → Type 0 = λ c. Acts (if c then [] else ballot_outs s.number (parts_of d s) y.progress.votes x a) in
        by a got both.0 e (subst P e here)
