-- What a node gives where a message comes is due.
use Rattle.std.proofs.Common.{Option, ◌≡◌, ℕ, ◌+◌, ◌≤◌, Bool, true, false, List, [], ◌∷◌, ◌++◌, Some, None, refl, sym, ap, subst, ◌∙◌, arith}
use Rattle.std.proofs.lemmas.Bool.{and_parts}
use Rattle.std.proofs.lemmas.Bool.Decides.{nat_tests}
use Rattle.std.specs.Prelude.{IsTrue, ◌==◌, ◌&&◌, if◌then◌else◌}
use Rattle.score_base.specs.declared.ids.TxId.{TxId}
use Rattle.score_base.specs.declared.ids.NodeId.{NodeId}
use Rattle.score_base.specs.declared.ids.Ident.{Ident}
use Rattle.score_base.specs.declared.causes.Ballot.{Ballot}
use Rattle.score_base.specs.declared.causes.Ballot.TheVariants as ballot
use Rattle.score_base.specs.declared.causes.Outcome.{Outcome}
use Rattle.score_base.specs.declared.causes.Outcome.TheVariants as outcome
use Rattle.score_base.specs.declared.records.Record.{Record}
use Rattle.score_base.specs.declared.records.Record.TheVariants as record'
use Rattle.script_lang.specs.Scripts.{ScriptData}
use Rattle.script_lang.specs.Reads.{is_update}
use Rattle.placement.specs.Places.{is_among, others}
use Rattle.grid_model.specs.declared.acts.Act.{Act}
use Rattle.grid_model.specs.declared.acts.Act.TheVariants as act
use Rattle.grid_model.specs.declared.events.Out.{Out}
use Rattle.grid_model.specs.declared.events.Out.TheVariants as out
use Rattle.grid_model.specs.declared.messages.Message.{Message}
use Rattle.grid_model.specs.declared.messages.Message.TheVariants as message
use Rattle.grid_model.specs.declared.messages.ReadRep.{ReadRep}
use Rattle.grid_model.specs.declared.stories.Story.{Story}
use Rattle.grid_model.specs.declared.stories.Voted.{Voted}
use Rattle.grid_model.specs.Documents.{DocumentData}
use Rattle.grid_model.specs.Histories.{sent, sent_at}
use Rattle.journal_words.specs.Journals.{ended, Decision, commit_id, undone}
use Rattle.grid_model.specs.Nodes.{node, journal, script_of, parts_of, parts_in, is_home}
use Rattle.grid_model.specs.Stories.{Collecting, phase_at, is_open, is_fit_ballot, is_small_node, story, has_voted, heard_at, with_value, progressed}
use Rattle.script_runs.specs.Waits.{waiting}
use Rattle.grid_model.specs.Views.{Open, Stage, Apart, Reads, Collects, Commits, stage, stage_at, view, View, participant}
use Rattle.grid_model.specs.Advances.{advance, parts_now}
use Rattle.grid_model.specs.Fitness.{is_fit_at, is_same_ident, tx_in}
use Rattle.grid_model.specs.Rows.{peer_outs, answer, message_outs, reply_outs, vote_outs, ballot_outs, decides, tells, ack_outs, asked_outs, greatest_vote, have_voted, are_all_among, dated}
use Rattle.grid_model.proofs.Undecided.{script-number}
use Rattle.grid_model.specs.Facts.{is_given_up}
use Rattle.grid_laws.proofs.Causes.{by_home, by_part, ended_so, IsUp, IsGot, AtHome, DecidedDue, given_up, apart, by_decision}
use Rattle.grid_laws.proofs.Frames.{same-number}
use Rattle.grid_laws.proofs.OpenPhases.{open-valued}
use Rattle.grid_laws.proofs.Stages.{Opens, opens-reads, opens-collects, stage-commits, is_counted, story-quiet}
use Rattle.grid_laws.proofs.DueActs.{OutsDue}
use Rattle.grid_laws.proofs.DueReads.{due-read}
use Rattle.grid_laws.proofs.DueParts.{due-prepare, due-tell}
use Rattle.grid_laws.proofs.DueHomes.{ReadersAnswered, at-number, due-advance, due-tells, open-update}

-- ---- a reply

pub story-taken : (d : DocumentData) (past : List Act) (q : ReadRep) (x : Story) → story d past q.t ≡ Some x
    → story d (act.Taken q.t q.op q.sid q.value ∷ past) q.t ≡ Some (progressed (with_value q.op q.sid q.value) x)
story-taken d past q x e = rw (e, same-number q.t) refl

abbrev pub with_reply : ReadRep → Open → Open
with_reply q x = record x { progress = with_value q.op q.sid q.value x.progress }

due-taken : (d : DocumentData) (past : List Act) (n : NodeId) (m : ℕ) (y : NodeId) (q : ReadRep) (x : Open) (j : ℕ)
    (b : Bool) → Opens d past n q.t x (Some j) → IsGot past n y (message.ReadRep q) → (j == q.op) ≡ b
    → ((j == q.op) ≡ true → is_same_ident q.sid x.progress.sid ≡ true) → OutsDue d past n m
    (if b then out.Act (act.Taken q.t q.op q.sid q.value) ∷ advance d.cluster (with_reply q x) q.op else [])
due-taken d past n m y q x j true o got here fit =
    let same : j ≡ q.op = grind (arith, nat_tests) in
    let now : List Act = act.Taken q.t q.op q.sid q.value ∷ past in
    let at : AtHome d now n q.t o.script (progressed (with_value q.op q.sid q.value) o.story) = record { script = o.at.script; home = o.at.home; story = story-taken d past q o.story o.at.story } in
    let fits : is_same_ident q.sid o.story.progress.sid ≡ true = rw o.is at (fit here) in (
      record { n = n; from = y; script = o.script; story = o.story; at = o.at; got = got; reads = o.reads ∙ ap (λ z. Some z) same; same = fits },
      (let P : Open → Type 0 = λ z. OutsDue d now n m (advance d.cluster (with_reply q z) q.op) in subst P (sym o.is) (due-advance d now n m o.script (progressed (with_value q.op q.sid q.value) o.story) q.op (at-number d now n q.t o.script (progressed (with_value q.op q.sid q.value) o.story) at) (open-valued o.script o.story (node d past n) q.op q.sid q.value o.unended))),
    )
due-taken d past n m y q x j false o got here fit = tt

due-reply : (d : DocumentData) (past : List Act) (n : NodeId) (m : ℕ) (y : NodeId) (q : ReadRep) (g : Stage)
    → stage (view d past n) q.t ≡ g → IsGot past n y (message.ReadRep q)
    → ((x : Open) (j : ℕ) → g ≡ Reads x j → (j == q.op) ≡ true → is_same_ident q.sid x.progress.sid ≡ true)
    → OutsDue d past n m (reply_outs d.cluster q g)
due-reply d past n m y q (Reads x j) e got fit = due-taken d past n m y q x j (j == q.op) (opens-reads d past n q.t x j e) got refl (fit x j refl)
due-reply d past n m y q w e got fit = tt

-- ---- a vote

pub phase-collecting : (d : DocumentData) (past : List Act) (n : NodeId) (s : ScriptData) (x : Story)
    → is_open (phase_at s (Some x) (node d past n)) ≡ true → waiting s.ops x.progress.values ≡ None
    → phase_at s (Some x) (node d past n) ≡ Collecting
phase-collecting d past n s x unended full = grind (arith, unended, full)

abbrev with_yes : NodeId → Ident → Story → Story
with_yes x p = progressed (λ z. record z { votes = z.votes ++ record { from = x; p = p } ∷ [] })

heard-voted : (d : DocumentData) (past : List Act) (n : NodeId) (s : ScriptData) (st : Story) (x : NodeId) (t : TxId)
    (p : Ident) → s.home ≡ n → s.number ≡ t → phase_at s (Some st) (node d past n) ≡ Collecting
    → is_small_node (node d past n).journal (node d past n).next ≡ true → is_fit_ballot (ballot.Yes p) ≡ true
    → is_among x (parts_of d s) ≡ true → has_voted x st.progress.votes ≡ false
    → heard_at d past (Some s) (Some (record { from = x; to = n; message = message.Vote t (ballot.Yes p) })) (Some st)
    ≡ Some (with_yes x p st)
heard-voted d past n s st x t p home number collects small fit part new =
    rw (home, same-number n, collects, small, fit, part, number, same-number t, new) refl

greatest-last : (vs : List Voted) (v : Voted) → v.p ≤ greatest_vote (vs ++ v ∷ [])
greatest-last [] v = omega arith
greatest-last (w ∷ vs) v = omega (arith, greatest-last vs v)

pub journal-decided : (d : DocumentData) (past : List Act) (n : NodeId) (t : TxId) (f : Ident) → is_home d t n ≡ true
    → journal d (act.Decided t f ∷ past) n ≡ record'.Decided t f (parts_in d (script_of t d.scripts)) ∷ journal d past n
journal-decided d past n t f home = rw (home, journal) refl

undone-decided : (t : TxId) (f : Ident) (ns : List NodeId) (r : List Record)
    → undone t (record'.Decided t f ns ∷ r) ≡ Some (record { final = f; parts = ns })
undone-decided t f ns r = rw (same-number t) refl

pub home-is : (d : DocumentData) (t : TxId) (n : NodeId) (s : ScriptData) → script_of t d.scripts ≡ Some s → s.home ≡ n
    → is_home d t n ≡ true
home-is d t n s e home = rw e (grind (arith, nat_tests))

due-decides : (d : DocumentData) (past : List Act) (n : NodeId) (m : ℕ) (t : TxId) (f : Ident) (ns : List NodeId)
    → IsUp d past n → DecidedDue d past n t f → OutsDue d past n m (decides t f ns)
due-decides d past n m t f ns up due =
    let home : is_home d t n ≡ true = home-is d t n due.script due.at.script due.at.home in
    let parts : List NodeId = parts_in d (script_of t d.scripts) in
    let is : undone t (journal d (act.Finished t ∷ (act.Decided t f ∷ past)) n) ≡ Some (record { final = f; parts = parts }) = ap (undone t) (journal-decided d past n t f home) ∙ undone-decided t f parts (journal d past n) in
    ((up, due), (by_decision f past refl, due-tells d (act.Finished t ∷ (act.Decided t f ∷ past)) n m t (record { final = f; parts = parts }) ns is))

due-full : (d : DocumentData) (past : List Act) (n : NodeId) (m : ℕ) (t : TxId) (ns : List NodeId) (votes : List Voted)
    (b : Bool) → IsUp d past n → have_voted ns votes ≡ b
    → (have_voted ns votes ≡ true → DecidedDue d past n t (greatest_vote votes))
    → OutsDue d past n m (if b then decides t (greatest_vote votes) ns else [])
due-full d past n m t ns votes true up e go = due-decides d past n m t (greatest_vote votes) ns up (go e)
due-full d past n m t ns votes false up e go = tt

due-aborts : (d : DocumentData) (past : List Act) (n : NodeId) (m : ℕ) (t : TxId) (ns : List NodeId)
    → IsTrue (is_given_up t past) → OutsDue d past n m (tells t outcome.Abort ns)
due-aborts d past n m t [] e = tt
due-aborts d past n m t (y ∷ ns) e = (given_up e, due-aborts d (act.Sent m n y (message.Tell t outcome.Abort) ∷ past) n (m + 1) t ns e)

opens-update : (d : DocumentData) (past : List Act) (n : NodeId) (t : TxId) (o : Open) (c : Opens d past n t o None)
    → ReadersAnswered d past → is_update c.script.ops ≡ true
opens-update d past n t o c told = open-update d past n c.script c.story (is_update c.script.ops) refl c.unended (told t c.script c.story c.at.script c.at.story c.reads)

due-ballot : (d : DocumentData) (before : List Act) (n : NodeId) (k m : ℕ) (t : TxId) (x : NodeId) (b : Ballot)
    (o : Open) (c : Opens d before n t o None) → ReadersAnswered d before → IsUp d before n
    → sent_at k (sent before) ≡ Some (record { from = x; to = n; message = message.Vote t b })
    → has_voted x c.story.progress.votes ≡ false → is_small_node (node d before n).journal (node d before n).next ≡ true
    → is_fit_ballot b ≡ true → is_among x (parts_of d c.script) ≡ true
    → OutsDue d (act.Got k ∷ before) n m (ballot_outs t (parts_of d c.script) c.story.progress.votes x b)
due-ballot d before n k m t x (ballot.No why) o c told up got new small fit part =
    let past : List Act = act.Got k ∷ before in
    let number : c.script.number ≡ t = script-number t d.scripts c.script c.at.script in
    let same : story d past t ≡ story d before t = story-quiet d before k x n (message.Vote t (ballot.No why)) t got refl in (
      record {
        n = n;
        script = c.script;
        story = c.story;
        at = record { script = c.at.script; home = c.at.home; story = same ∙ c.at.story };
        got = got;
        up = up;
        unended = rw (c.at.home, number, same ∙ c.at.story) (rw number at c.unended);
        update = opens-update d before n t o c told;
        full = c.reads;
      },
      due-aborts d (act.Aborted t x why ∷ (act.Got k ∷ before)) n m t (others x (parts_of d c.script)) (rw (same-number t) refl),
    )
due-ballot d before n k m t x (ballot.Yes p) o c told up got new small fit part =
    let past : List Act = act.Got k ∷ before in
    let number : c.script.number ≡ t = script-number t d.scripts c.script c.at.script in
    let collects = phase-collecting d before n c.script c.story c.unended c.reads in
    let voted : story d past t ≡ Some (with_yes x p c.story) = rw (got, c.at.script, c.at.story) (heard-voted d before n c.script c.story x t p c.at.home number collects small fit part new) in
    let votes : List Voted = c.story.progress.votes ++ record { from = x; p = p } ∷ [] in
    let last : p ≤ greatest_vote votes = greatest-last c.story.progress.votes (record { from = x; p = p }) in
    let least : 1 ≤ p = grind (arith, nat_tests, fit) in
    due-full d past n m t (parts_of d c.script) votes (have_voted (parts_of d c.script) votes) up refl
    (λ all. record {
      script = c.script;
      story = with_yes x p c.story;
      at = record { script = c.at.script; home = c.at.home; story = voted };
      unended = rw (c.at.home, number, voted) (rw number at c.unended);
      full = c.reads;
      update = opens-update d before n t o c told;
      voted = all;
      some = (refl, omega arith);
      new = c.new;
    })

due-vote : (d : DocumentData) (before : List Act) (n : NodeId) (k m : ℕ) (t : TxId) (x : NodeId) (b : Ballot)
    (g : Stage) → stage (view d before n) t ≡ g → ReadersAnswered d before → IsUp d before n
    → sent_at k (sent before) ≡ Some (record { from = x; to = n; message = message.Vote t b })
    → is_fit_at n (participant (view d before n)) g x (message.Vote t b) ≡ true
    → OutsDue d (act.Got k ∷ before) n m (vote_outs d.cluster t x b g)
due-vote d before n k m t x b (Collects o) e told up got fit = rw c.is (go (has_voted x c.story.progress.votes) refl)
  where
    c : Opens d before n t o None
    c = opens-collects d before n t o e

    small : is_small_node (node d before n).journal (node d before n).next ≡ true
    small = (and_parts (is_small_node (node d before n).journal (node d before n).next) (is_fit_ballot b && is_among x (parts_now d.cluster o)) fit).0

    rest : (is_fit_ballot b && is_among x (parts_now d.cluster o)) ≡ true
    rest = (and_parts (is_small_node (node d before n).journal (node d before n).next) (is_fit_ballot b && is_among x (parts_now d.cluster o)) fit).1

    part : is_among x (parts_of d c.script) ≡ true
    part = rw c.is at (and_parts (is_fit_ballot b) (is_among x (parts_now d.cluster o)) rest).1

    go : (v : Bool) → has_voted x c.story.progress.votes ≡ v → OutsDue d (act.Got k ∷ before) n m
        (if v then [] else ballot_outs t (parts_of d c.script) c.story.progress.votes x b)
    go true new = tt
    go false new = due-ballot d before n k m t x b o c told up got new small (and_parts (is_fit_ballot b) (is_among x (parts_now d.cluster o)) rest).0 part
due-vote d before n k m t x b (Reads o j) e told up got fit = tt
due-vote d before n k m t x b (Commits y acks) e told up got fit = tt
due-vote d before n k m t x b Apart e told up got fit = tt

-- ---- an acknowledgement

due-closes : (d : DocumentData) (before : List Act) (n : NodeId) (k m : ℕ) (t : TxId) (x : NodeId) (y : Decision)
    (acks : List NodeId) (b c : Bool) → stage (view d before n) t ≡ Commits y acks → IsUp d before n
    → sent_at k (sent before) ≡ Some (record { from = x; to = n; message = message.Ack t })
    → are_all_among y.parts (acks ++ x ∷ []) ≡ c
    → OutsDue d (act.Got k ∷ before) n m (if b then [] else (if c then out.Act (act.Closed t) ∷ [] else []))
due-closes d before n k m t x y acks true c e up got all = tt
due-closes d before n k m t x y acks false false e up got all = tt
due-closes d before n k m t x y acks false true e up got all = ((up, record { m = k; before = before; from = x; is = refl; got = got; decision = y; acks = acks; stage = e; all = all }), tt)

due-acked : (d : DocumentData) (before : List Act) (n : NodeId) (k m : ℕ) (t : TxId) (x : NodeId) (g : Stage)
    → stage (view d before n) t ≡ g → IsUp d before n
    → sent_at k (sent before) ≡ Some (record { from = x; to = n; message = message.Ack t })
    → OutsDue d (act.Got k ∷ before) n m (ack_outs t x g)
due-acked d before n k m t x (Commits y acks) e up got = due-closes d before n k m t x y acks (is_among x acks) (are_all_among y.parts (acks ++ x ∷ [])) e up got refl
due-acked d before n k m t x w e up got = tt

-- ---- a question

due-asked : (d : DocumentData) (past : List Act) (n : NodeId) (m : ℕ) (t : TxId) (x : NodeId) (g : Stage)
    → stage (view d past n) t ≡ g → IsGot past n x (message.Ask t) → OutsDue d past n m (asked_outs t x g)
due-asked d past n m t x (Reads o j) e got = tt
due-asked d past n m t x (Collects o) e got = tt
due-asked d past n m t x (Commits y acks) e got = (by_home y (stage-commits d past n t y acks e) refl, tt)
due-asked d past n m t x Apart e got = (apart got e, tt)

due-told : (d : DocumentData) (past : List Act) (n : NodeId) (m : ℕ) (t : TxId) (x : NodeId) (o : Option Outcome)
    → ended t (journal d past n) ≡ o → IsGot past n x (message.AskPeer t) → OutsDue d past n m (peer_outs t x o)
due-told d past n m t x None e got = tt
due-told d past n m t x (Some (outcome.Commit f)) e got = (by_part got e, tt)
due-told d past n m t x (Some outcome.Abort) e got = (ended_so got e, tt)

-- ---- any message

pub stage-quiet : (d : DocumentData) (before : List Act) (k : ℕ) (x n : NodeId) (said : Message) (t : TxId)
    → sent_at k (sent before) ≡ Some (record { from = x; to = n; message = said }) → is_counted said ≡ false
    → stage (view d (act.Got k ∷ before) n) t ≡ stage (view d before n) t
stage-quiet d before k x n said t got quiet = ap (λ o. stage_at n (node d before n) t (script_of t d.scripts) o) (story-quiet d before k x n said t got quiet)

due-row_of : (d : DocumentData) (before : List Act) (n : NodeId) (k m : ℕ) (x : NodeId) (said : Message)
    → ReadersAnswered d before → IsUp d before n
    → sent_at k (sent before) ≡ Some (record { from = x; to = n; message = said })
    → is_fit_at n (participant (view d before n)) (stage (view d before n) (tx_in said)) x said ≡ true → OutsDue d
    (act.Got k ∷ before) n m (message_outs n (participant (view d before n)) (view d before n).held
    (stage (view d before n) (tx_in said)) x said)
due-row_of d before n k m x (message.ReadReq q) told up got fit = due-read d (act.Got k ∷ before) n m (view d before n) x q (dated q.date (commit_id (journal d before n))) refl refl refl up (record { request = q; got = got; fit = (and_parts _ _ fit).1; t = refl; op = refl; key = refl; sid = refl })
due-row_of d before n k m x (message.ReadRep q) told up got fit =
    let same : stage (view d (act.Got k ∷ before) n) q.t ≡ stage (view d before n) q.t = stage-quiet d before k x n (message.ReadRep q) q.t got refl in
    due-reply d (act.Got k ∷ before) n m x q (stage (view d before n) q.t) same got (λ y j e here. reply-fit n (view d before n) y j x q (rw e at fit) here)
  where
    reply-fit : (n : NodeId) (v : View) (y : Open) (j : ℕ) (x : NodeId) (q : ReadRep)
        → is_fit_at n (participant v) (Reads y j) x (message.ReadRep q) ≡ true → (j == q.op) ≡ true
        → is_same_ident q.sid y.progress.sid ≡ true
    reply-fit n v y j x q fit here = grind (arith, fit, here)
due-row_of d before n k m x (message.Prepare q) told up got fit = due-prepare d (act.Got k ∷ before) n m (view d before n) x q refl refl up got (and_parts _ _ fit).1
due-row_of d before n k m x (message.Vote t b) told up got fit = due-vote d before n k m t x b (stage (view d before n) t) refl told up got fit
due-row_of d before n k m x (message.Tell t o) told up got fit = due-tell d (act.Got k ∷ before) n m (view d before n) x t o refl refl refl up got (and_parts _ _ fit).1
due-row_of d before n k m x (message.Ack t) told up got fit = due-acked d before n k m t x (stage (view d before n) t) refl up got
due-row_of d before n k m x (message.Ask t) told up got fit =
    let same : stage (view d (act.Got k ∷ before) n) t ≡ stage (view d before n) t = stage-quiet d before k x n (message.Ask t) t got refl in
    due-asked d (act.Got k ∷ before) n m t x (stage (view d before n) t) same got
due-row_of d before n k m x (message.AskPeer t) told up got fit = due-told d (act.Got k ∷ before) n m t x (ended t (journal d before n)) refl got

due-if_fit : (d : DocumentData) (past : List Act) (n : NodeId) (m : ℕ) (os : List Out) (b : Bool)
    → (b ≡ true → OutsDue d past n m os) → OutsDue d past n m (if b then os else [])
due-if_fit d past n m os true go = go refl
due-if_fit d past n m os false go = tt

pub due-answer : (d : DocumentData) (before : List Act) (n : NodeId) (k m : ℕ) (x : NodeId) (said : Message)
    → ReadersAnswered d before → IsUp d before n
    → sent_at k (sent before) ≡ Some (record { from = x; to = n; message = said })
    → OutsDue d (act.Got k ∷ before) n m (answer n (view d before n) x said)
due-answer d before n k m x said told up got = due-if_fit d (act.Got k ∷ before) n m _ (is_fit_at n (participant (view d before n)) (stage (view d before n) (tx_in said)) x said) (λ fit. due-row_of d before n k m x said told up got fit)
