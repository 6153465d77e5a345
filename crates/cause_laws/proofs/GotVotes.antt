-- A vote that is got is counted, or its transaction is settled, or its home is down; and while one collects, some part
-- has not voted.
use Rattle.grid_laws.proofs.DueActs.{due-before}
use Rattle.cause_laws.proofs.KeyHolders.{holders-some}
use Rattle.cause_laws.proofs.LossesSettle.{HasBegun, begun-more}
use Rattle.cause_laws.proofs.Settled.{is_settled, is_shut, settled-later, settled-more}
use Rattle.cause_laws.proofs.VoteRows.{VoteFull, VoteResult, counted_vote, decides_now, known_vote, refused_by, stops_now, vote-full, vote-result}
use Rattle.cause_laws.proofs.VoteStories.{Counted, is_counted_in, is_done, is_down, is_none_voted, is_unvoted, is_voted_in, none-unvoted, stop-down}
use Rattle.grid_laws.proofs.PartsOfKeys.{op-part}
use Rattle.grid_laws.proofs.Causes.{AllDue}
use Rattle.grid_laws.proofs.DueAnswers.{home-is}
use Rattle.grid_laws.proofs.NodesNumbered.{script-all}
use Rattle.grid_laws.proofs.Frames.{same-number}
use Rattle.grid_laws.proofs.Snapshots.{OfStory}
use Rattle.grid_laws.proofs.Stages.{among-get}
use Rattle.journal_words.proofs.Decisions.{decided-here}
use Rattle.script_runs.specs.Walks.{op_at}
use Rattle.grid_model.specs.Excuses.{is_vote_of}
use Rattle.grid_model.specs.Documents.{DocumentData, IsOne, is_body}
use Rattle.grid_model.specs.Fitness.{is_fit}
use Rattle.grid_model.specs.Histories.{after, sent, sent_at}
use Rattle.journal_words.specs.Journals.{Decision, decision}
use Rattle.grid_model.specs.Nodes.{Writes, changed, got, is_home, journal, node, parts_in, parts_of, script_of, where_at}
use Rattle.grid_model.specs.Rows.{answer, have_voted}
use Rattle.grid_model.specs.Schedules.{kept, next_number, numbered}
use Rattle.grid_model.specs.Stories.{begun, if_told, story, told, without_answers}
use Rattle.script_runs.specs.Waits.{waiting}
use Rattle.grid_model.specs.Views.{view}
use Rattle.grid_model.specs.declared.acts.Act.TheVariants as act
use Rattle.grid_model.specs.declared.acts.Act.{Act}
use Rattle.grid_model.specs.declared.acts.Head.TheVariants as head
use Rattle.grid_model.specs.declared.messages.Envelope.{Envelope}
use Rattle.grid_model.specs.declared.messages.Message.TheVariants as message
use Rattle.grid_model.specs.declared.messages.Message.{Message}
use Rattle.grid_model.specs.declared.stories.Story.{Story}
use Rattle.placement.specs.Places.{holders, is_among}
use Rattle.score_base.specs.declared.causes.Ballot.{Ballot}
use Rattle.score_base.specs.declared.causes.Cause.{Cause}
use Rattle.score_base.specs.declared.ids.Ident.{Ident}
use Rattle.score_base.specs.declared.ids.NodeId.{NodeId}
use Rattle.score_base.specs.declared.ids.TxId.{TxId}
use Rattle.score_base.specs.declared.records.Record.TheVariants as record'
use Rattle.score_base.specs.declared.records.Record.{Record}
use Rattle.script_lang.specs.Reads.{key_of}
use Rattle.script_lang.specs.Scripts.{ScriptData}
use Rattle.script_lang.specs.declared.scripts.Op.{Op}
use Rattle.std.proofs.Common.{Bool, List, None, Option, Some, [], ap, arith, false, inl, inr, refl, subst, sym, true, ℕ, ◌||◌, ◌∙◌, ◌∷◌, ◌≡◌, ◌⊎◌}
use Rattle.std.proofs.lemmas.Bool.Decides.{nat_tests}
use Rattle.std.proofs.lemmas.Bool.{or_left, or_right}
use Rattle.std.specs.Prelude.{if◌then◌else◌, is_some, not, ◌==◌}

have-none : (y : NodeId) (ns : List NodeId) → is_among y ns ≡ true → have_voted ns [] ≡ false
have-none y [] h = cc
have-none y (n ∷ ns) h = refl

-- no votes are not those of all parts
pub some-part : (d : DocumentData) (s : ScriptData) → IsOne d → script_of s.number d.scripts ≡ Some s
    → have_voted (parts_of d s) [] ≡ false
some-part d s one is = go s.ops refl (script-all (λ z. is_body z.ops) s.number d.scripts s one.bodies is)
  where
    go : (ops : List Op) → s.ops ≡ ops → is_body s.ops ≡ true → have_voted (parts_of d s) [] ≡ false
    go [] e h = (let P : List Op → Type 0 = λ z. is_body z ≡ true in let f : false ≡ true = subst P e h in cc)
    go (o ∷ ops) e h =
        let y = holders-some d (key_of o) one in
        let at : op_at s.ops 1 ≡ Some o = rw e refl in
        have-none y.0 (parts_of d s) (op-part d s 1 o y.0 one at (among-get (holders d.cluster.places (key_of o)) 0 y.0 y.1))

-- ---- a vote

-- not all parts have voted, or it is settled
abbrev pub NotFull : DocumentData → List Act → ScriptData → Type 0
NotFull d past s = (is_settled d past s ≡ true) ⊎ (is_unvoted d s (story d past s.number) ≡ true)

-- what a vote leaves
pub record VoteLeaves (d : DocumentData) (past : List Act) (m : ℕ) (s : ScriptData) (x : NodeId) (rest : List Act) :
    Type 0 where
  pub counted : Counted d (after (act.Got m ∷ past) rest) s x
  pub waits : NotFull d past s → NotFull d (after (act.Got m ∷ past) rest) s

settled-leaves : (d : DocumentData) (past : List Act) (m : ℕ) (s : ScriptData) (x : NodeId) (rest : List Act)
    → is_settled d (after (act.Got m ∷ past) rest) s ≡ true → VoteLeaves d past m s x rest
settled-leaves d past m s x rest h = record { counted = is_done h; waits = λ w. inl h }

shut-settled : (d : DocumentData) (past : List Act) (s : ScriptData) → is_shut s (story d past s.number) ≡ true
    → is_settled d past s ≡ true
shut-settled d past s h = or_left (is_shut s (story d past s.number)) (is_some (decision s.number (journal d past s.home))) h

aborted-settled : (d : DocumentData) (past : List Act) (s : ScriptData) (x : NodeId) (why : Cause)
    → HasBegun d past s.number → is_settled d (act.Aborted s.number x why ∷ past) s ≡ true
aborted-settled d past s x why k = shut-settled d (act.Aborted s.number x why ∷ past) s (go (story d past s.number) k)
  where
    aborts : (l : Bool) → (l || true) ≡ true
    aborts true = refl
    aborts false = refl

    go : (o : Option Story) → OfStory ⊥ (λ i values. Unit {0}) o
        → is_shut s (if_told (s.number == s.number) (λ y. record y { aborted = true }) o) ≡ true
    go None k = absurd k
    go (Some y) k = rw (same-number s.number) (aborts y.lost)

decided-settled : (d : DocumentData) (past : List Act) (s : ScriptData) (f : Ident)
    → script_of s.number d.scripts ≡ Some s → is_settled d (act.Decided s.number f ∷ past) s ≡ true
decided-settled d past s f is =
    let home : is_home d s.number s.home ≡ true = home-is d s.number s.home s is refl in
    let y : Record = record'.Decided s.number f (parts_in d (script_of s.number d.scripts)) in
    let P : Bool → Type 0 = λ b. is_some (decision s.number (changed (where_at b (Writes (Some y))) (node d past s.home)).journal) ≡ true in
    let Q : Option Decision → Type 0 = λ o. is_some o ≡ true in
    or_right (is_shut s (story d (act.Decided s.number f ∷ past) s.number)) (is_some (decision s.number (journal d (act.Decided s.number f ∷ past) s.home))) (subst P (sym home) (subst Q (sym (decided-here s.number f (parts_in d (script_of s.number d.scripts)) (journal d past s.home))) refl))

without-unvoted : (d : DocumentData) (s : ScriptData) (b : Bool) (o : Option Story) → b ≡ true
    → have_voted (parts_of d s) [] ≡ false → is_unvoted d s (if_told b without_answers o) ≡ true
without-unvoted d s b None e some = refl
without-unvoted d s true (Some x) e some = none-unvoted d s (without_answers x) some refl
without-unvoted d s false (Some x) e some = cc

result-leaves : (d : DocumentData) (past : List Act) (m : ℕ) (n x : NodeId) (s : ScriptData) (rest : List Act)
    → script_of s.number d.scripts ≡ Some s → s.home ≡ n → have_voted (parts_of d s) [] ≡ false
    → HasBegun d (act.Got m ∷ past) s.number → AllDue d (after (act.Got m ∷ past) rest) → VoteResult d past m n x s rest
    → VoteLeaves d past m s x rest
result-leaves d past m n x s rest is home some begun due (known_vote k voted same) =
    let now : List Act = act.Got m ∷ past in
    let P : List Act → Type 0 = λ z. VoteLeaves d past m s x z in
    let V : Option Story → Type 0 = λ o. is_voted_in x o ≡ true in
    let U : Option Story → Type 0 = λ o. is_unvoted d s o ≡ true in
    let L : List Act → Type 0 = λ z. AllDue d (after now z) in
    let here : AllDue d now = subst L k due in
    subst P (sym k) (record {
      counted = is_counted_in (subst V (sym same) voted);
      waits = λ w. elim w [ inl settled ↦ inl (settled-more d past (act.Got m) s here.0 settled) | inr unvoted ↦ inr (subst U (sym same) unvoted) ];
    })
result-leaves d past m n x s rest is home some begun due (refused_by why more k) =
    let now : List Act = act.Got m ∷ past in
    let P : List Act → Type 0 = λ z. VoteLeaves d past m s x z in
    let L : List Act → Type 0 = λ z. AllDue d (after now z) in
    subst P (sym k) (settled-leaves d past m s x (act.Aborted s.number x why ∷ more) (settled-later d (act.Aborted s.number x why ∷ now) more s (subst L k due) (aborted-settled d now s x why begun)))
result-leaves d past m n x s rest is home some begun due (counted_vote y k told voted not_all full) =
    let now : List Act = act.Got m ∷ past in
    let P : List Act → Type 0 = λ z. VoteLeaves d past m s x z in
    let V : Option Story → Type 0 = λ o. is_voted_in x o ≡ true in
    let U : Option Story → Type 0 = λ o. is_unvoted d s o ≡ true in
    let W : Option ℕ → Type 0 = λ w. (if is_some w then is_none_voted y.progress.votes else not (have_voted (parts_of d s) y.progress.votes)) ≡ true in
    subst P (sym k) (record {
      counted = is_counted_in (subst V (sym told) voted);
      waits = λ w. inr (subst U (sym told) (subst W (sym full) (rw not_all refl)));
    })
result-leaves d past m n x s rest is home some begun due (decides_now f more k) =
    let now : List Act = act.Got m ∷ past in
    let P : List Act → Type 0 = λ z. VoteLeaves d past m s x z in
    let L : List Act → Type 0 = λ z. AllDue d (after now z) in
    subst P (sym k) (settled-leaves d past m s x (act.Decided s.number f ∷ more) (settled-later d (act.Decided s.number f ∷ now) more s (subst L k due) (decided-settled d now s f is)))
result-leaves d past m n x s rest is home some begun due (stops_now f k) =
    let now : List Act = act.Got m ∷ past in
    let P : List Act → Type 0 = λ z. VoteLeaves d past m s x z in
    let at : is_home d s.number n ≡ true = home-is d s.number n s is home in
    subst P (sym k) (record {
      counted = is_down (stop-down d now (act.Down n (Some (head.Decided s.number f))) s is at);
      waits = λ w. inr (without-unvoted d s (is_home d s.number n) (story d now s.number) at some);
    })

-- a vote on s that is got
vote-leaves : (d : DocumentData) (past : List Act) (m : ℕ) (n x : NodeId) (b : Bool) (s : ScriptData) (a : Ballot)
    (rest : List Act) → IsOne d → script_of s.number d.scripts ≡ Some s
    → sent_at m (sent past) ≡ Some (record { from = x; to = n; message = message.Vote s.number a })
    → is_fit n (view d past n) x (message.Vote s.number a) ≡ true
    → rest ≡ numbered (next_number past) n (kept b n (answer n (view d past n) x (message.Vote s.number a)))
    → AllDue d (after (act.Got m ∷ past) rest) → VoteLeaves d past m s x rest
vote-leaves d past m n x b s a rest one is got fit r due = go (is_settled d past s) refl
  where
    now : AllDue d (act.Got m ∷ past)
    now = due-before d (act.Got m ∷ past) rest due

    v : VoteFull d past n s.number
    v = vote-full d past m x n s.number a now.1 got

    same : v.script ≡ s
    same = (let e : Some v.script ≡ Some s = sym v.full.at.script ∙ is in cc)

    home : s.home ≡ n
    home = ap (λ (z : ScriptData). z.home) (sym same) ∙ v.full.at.home

    full : waiting s.ops v.full.story.progress.values ≡ None
    full = ap (λ (z : ScriptData). waiting z.ops v.full.story.progress.values) (sym same) ∙ ap (waiting v.script.ops) v.full.told ∙ v.full.full

    begun : HasBegun d past s.number
    begun = (let P : Option Story → Type 0 = λ o. OfStory ⊥ (λ i values. Unit {0}) o in subst P (sym v.full.at.story) tt)

    go : (c : Bool) → is_settled d past s ≡ c → VoteLeaves d past m s x rest
    go true e = settled-leaves d past m s x rest (settled-later d past (act.Got m ∷ rest) s due e)
    go false e = result-leaves d past m n x s rest is home (some-part d s one is) (begun-more d past (act.Got m) s.number now begun) due (vote-result d past m n x b s a v.full.story rest is home got fit r v.full.at.story e full)

-- a vote on t is one, and says yes or no
pub vote-of : (t : TxId) (said : Message) → is_vote_of t said ≡ true → (a : Ballot) × (said ≡ message.Vote t a)
vote-of t (message.Vote u a) h = let same : u ≡ t = grind (arith, nat_tests, h) in (a, ap (λ z. message.Vote z a) same)
vote-of t said h = cc

-- the same of an envelope
pub env-leaves : (d : DocumentData) (past : List Act) (m : ℕ) (e : Envelope) (b : Bool) (s : ScriptData)
    (rest : List Act) → IsOne d → script_of s.number d.scripts ≡ Some s → sent_at m (sent past) ≡ Some e
    → is_fit e.to (view d past e.to) e.from e.message ≡ true
    → rest ≡ numbered (next_number past) e.to (kept b e.to (answer e.to (view d past e.to) e.from e.message))
    → AllDue d (after (act.Got m ∷ past) rest) → is_vote_of s.number e.message ≡ true
    → VoteLeaves d past m s e.from rest
env-leaves d past m e b s rest one is got fit r due h =
    let w = vote-of s.number e.message h in
    let n : NodeId = e.to in
    let x : NodeId = e.from in
    let S : Message → Type 0 = λ z. sent_at m (sent past) ≡ Some (record { from = x; to = n; message = z }) in
    let F : Message → Type 0 = λ z. is_fit n (view d past n) x z ≡ true in
    let R : Message → Type 0 = λ z. rest ≡ numbered (next_number past) n (kept b n (answer n (view d past n) x z)) in
    vote-leaves d past m n x b s w.0 rest one is (subst S w.1 got) (subst F w.1 fit) (subst R w.1 r) due
