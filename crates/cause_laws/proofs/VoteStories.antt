-- How the votes in a story change, act by act.
use Rattle.grid_laws.proofs.DueActs.{due-before}
use Rattle.cause_laws.proofs.OpenStages.{is_ungot}
use Rattle.cause_laws.proofs.Settled.{is_settled, settled-more}
use Rattle.cause_laws.proofs.StoryTests.{KeepsHeard, began-kept, else-kept, got-kept, if-kept}
use Rattle.grid_laws.proofs.Causes.{AllDue, IsDue, TakenDue}
use Rattle.grid_laws.proofs.Frames.{up-stays}
use Rattle.grid_model.specs.Documents.{DocumentData}
use Rattle.grid_model.specs.Histories.{after, sent, sent_at}
use Rattle.grid_model.specs.Nodes.{Node, Starts, Stays, Stops, changed, doubt_of, got, is_home, is_home_in, is_kept, node, parts_of, script_of, where_at}
use Rattle.grid_model.specs.Rows.{have_voted}
use Rattle.grid_model.specs.Stories.{over_at, asked, begun, begun_in, has_voted, if_told, story, told, with_request, with_value, without_answers, progressed}
use Rattle.script_runs.specs.Waits.{waiting}
use Rattle.grid_model.specs.declared.acts.Act.TheVariants as act
use Rattle.grid_model.specs.declared.acts.Act.{Act}
use Rattle.grid_model.specs.declared.acts.Flag.{Flag}
use Rattle.grid_model.specs.declared.messages.Message.TheVariants as message
use Rattle.grid_model.specs.declared.messages.Message.{Message}
use Rattle.grid_model.specs.declared.stories.Story.{Story}
use Rattle.grid_model.specs.declared.stories.Voted.{Voted}
use Rattle.placement.specs.Places.{holders}
use Rattle.score_base.specs.declared.ids.Ident.{Ident}
use Rattle.score_base.specs.declared.ids.NodeId.{NodeId}
use Rattle.score_base.specs.declared.ids.TxId.{TxId}
use Rattle.score_base.specs.declared.ids.Value.{Value}
use Rattle.score_base.specs.declared.records.Record.{Record}
use Rattle.script_lang.specs.Scripts.{ScriptData}
use Rattle.std.proofs.Common.{Bool, List, None, Option, Some, [], ap, arith, false, length, refl, subst, sym, true, ℕ, ◌++◌, ◌∙◌, ◌∷◌, ◌≡◌, ◌≢◌}
use Rattle.std.proofs.lemmas.Bool.Decides.{nat_tests}
use Rattle.std.proofs.lemmas.Bool.{and_parts, or_left}
use Rattle.std.proofs.lemmas.List.Folds.{list_any-append}
use Rattle.std.specs.List.{list_all}
use Rattle.std.specs.Prelude.{if◌then◌else◌, is_some, not, ◌==◌}

-- ---- a vote that was counted

-- the votes of this story have one of n
abbrev pub is_voted_in : NodeId → Option Story → Bool
is_voted_in n None = false
is_voted_in n (Some x) = has_voted n x.progress.votes

vote-voted : (n k : NodeId) (q : Ident) (vs : List Voted) (b : Bool) → has_voted n vs ≡ true
    → has_voted n (if b then vs else vs ++ record { from = k; p = q } ∷ []) ≡ true
vote-voted n k q vs true h = h
vote-voted n k q vs false h = list_any-append (λ (v : Voted). v.from == n) vs (record { from = k; p = q } ∷ []) ∙ or_left (has_voted n vs) (has_voted n (record { from = k; p = q } ∷ [])) h

heard-voted : (n : NodeId) → KeepsHeard (is_voted_in n)
heard-voted n = record { vote = λ k q y i. vote-voted n k q y.progress.votes (has_voted k y.progress.votes) i; ack = λ k y i. i }

asked-voted : (n : NodeId) (d : DocumentData) (t : TxId) (said : Message) (o : Option Story) → is_voted_in n o ≡ true
    → is_voted_in n (asked d t said o) ≡ true
asked-voted n d t (message.ReadReq q) o k = if-kept (is_voted_in n) (q.t == t) _ o (λ y i. i) k
asked-voted n d t said o k = k

-- an act at a home that is not a stop there
abbrev pub is_stop_of : DocumentData → TxId → Act → Bool
is_stop_of d t (act.Down m h) = is_home d t m
is_stop_of d t a = false

pub voted-more : (n : NodeId) (d : DocumentData) (past : List Act) (a : Act) (t : TxId) → IsDue d past a
    → is_stop_of d t a ≡ false → is_voted_in n (story d past t) ≡ true → is_voted_in n (story d (a ∷ past) t) ≡ true
voted-more n d past (act.Began u m sid0) t due stop k = else-kept (is_voted_in n) (u == t) (Some (begun_in d (node d past) t sid0)) (story d past t) (λ e. began-kept (is_voted_in n) d past u t m sid0 refl due k e) k
voted-more n d past (act.Sent m x y said) t due stop k = asked-voted n d t said (story d past t) k
voted-more n d past (act.Got m) t due stop k = got-kept (is_voted_in n) d past (script_of t d.scripts) (sent_at m (sent past)) (story d past t) (heard-voted n) k
voted-more n d past (act.Taken u op sid v) t due stop k = if-kept (is_voted_in n) (u == t) _ (story d past t) (λ y i. i) k
voted-more n d past (act.Finished u) t due stop k = if-kept (is_voted_in n) (u == t) _ (story d past t) (λ y i. i) k
voted-more n d past (act.Aborted u m why) t due stop k = if-kept (is_voted_in n) (u == t) _ (story d past t) (λ y i. i) k
voted-more n d past (act.Lost u) t due stop k = if-kept (is_voted_in n) (u == t) _ (story d past t) (λ y i. i) k
voted-more n d past (act.Down m h) t due stop k = let P : Bool → Type 0 = λ b. is_voted_in n (if_told b without_answers (story d past t)) ≡ true in subst P (sym stop) (stays (story d past t) k)
  where
    stays : (o : Option Story) → is_voted_in n o ≡ true → is_voted_in n (if_told false without_answers o) ≡ true
    stays None h = h
    stays (Some x) h = h
voted-more n d past a t due stop k = k

-- ---- a home that is down

-- an act that opens no node
abbrev pub is_unopened : Act → Bool
is_unopened (act.Up n f) = false
is_unopened a = true

down-where : (b : Bool) (o : Option Record) (x : Node) → x.up ≡ false → (changed (where_at b (Stops o)) x).up ≡ false
down-where true o x h = refl
down-where false o x h = h

stays-where : (b : Bool) (x : Node) → x.up ≡ false → (changed (where_at b Stays) x).up ≡ false
stays-where true x h = refl
stays-where false x h = h

up-where : (b : Bool) (k : Bool) (x : Node) → b ≡ false → x.up ≡ false → (changed (where_at b (Starts k)) x).up ≡ false
up-where true k x e h = cc
up-where false k x e h = h

pub down-more : (d : DocumentData) (past : List Act) (a : Act) (n : NodeId) → is_unopened a ≡ true
    → (node d past n).up ≡ false → (node d (a ∷ past) n).up ≡ false
down-more d past (act.Down m h) n u k = down-where (m == n) (doubt_of d (got past) h) (node d past n) k
down-more d past (act.StillDown m) n u k = stays-where (m == n) (node d past n) k
down-more d past (act.Up m f) n u k = cc
down-more d past a n u k = up-stays d past a n refl ∙ k

-- a home that stops is down
pub stop-down : (d : DocumentData) (past : List Act) (a : Act) (s : ScriptData) → script_of s.number d.scripts ≡ Some s
    → is_stop_of d s.number a ≡ true → (node d (a ∷ past) s.home).up ≡ false
stop-down d past (act.Down m h) s is stop =
    let P : Option ScriptData → Type 0 = λ o. is_home_in o m ≡ true in
    let at : (s.home == m) ≡ true = subst P is stop in
    let here : (m == s.home) ≡ true = grind (arith, nat_tests, at) in
    let Q : Bool → Type 0 = λ b. (changed (where_at b (Stops (doubt_of d (got past) h))) (node d past s.home)).up ≡ false in
    subst Q (sym here) refl
stop-down d past a s is stop = cc

-- ---- votes that are counted

-- the home of s is down, or s is settled, or the vote of n was counted
pub data Counted (d : DocumentData) (past : List Act) (s : ScriptData) (n : NodeId) : Type 0 where
  is_down : (node d past s.home).up ≡ false → Counted d past s n
  is_done : is_settled d past s ≡ true → Counted d past s n
  is_counted_in : is_voted_in n (story d past s.number) ≡ true → Counted d past s n

counted-more : (d : DocumentData) (past : List Act) (a : Act) (s : ScriptData) (n : NodeId)
    → script_of s.number d.scripts ≡ Some s → IsDue d past a → is_unopened a ≡ true → Counted d past s n
    → Counted d (a ∷ past) s n
counted-more d past a s n is due u (is_down h) = is_down (down-more d past a s.home u h)
counted-more d past a s n is due u (is_done h) = is_done (settled-more d past a s due h)
counted-more d past a s n is due u (is_counted_in h) = go (is_stop_of d s.number a) refl
  where
    go : (b : Bool) → is_stop_of d s.number a ≡ b → Counted d (a ∷ past) s n
    go true e = is_down (stop-down d past a s is e)
    go false e = is_counted_in (voted-more n d past a s.number due e h)

pub counted-later : (d : DocumentData) (past acts : List Act) (s : ScriptData) (n : NodeId)
    → script_of s.number d.scripts ≡ Some s → AllDue d (after past acts) → list_all is_unopened acts ≡ true
    → Counted d past s n → Counted d (after past acts) s n
counted-later d past [] s n is due u h = h
counted-later d past (a ∷ acts) s n is due u h = let both = and_parts (is_unopened a) (list_all is_unopened acts) u in counted-later d (a ∷ past) acts s n is due both.1 (counted-more d past a s n is (due-before d (a ∷ past) acts due).0 both.0 h)

-- the opening of another node leaves a home down
pub opened-other : (d : DocumentData) (past : List Act) (m n : NodeId) (f : Flag) → m ≢ n → (node d past n).up ≡ false
    → (node d (act.Up m f ∷ past) n).up ≡ false
opened-other d past m n f other h = up-where (m == n) (is_kept f) (node d past n) (grind (arith, nat_tests, other)) h

-- ---- not all parts have voted

abbrev pub is_none_voted : List Voted → Bool
is_none_voted [] = true
is_none_voted (v ∷ vs) = false

-- no vote is counted while reads are left, and then not those of all parts
abbrev pub is_unvoted : DocumentData → ScriptData → Option Story → Bool
is_unvoted d s None = true
is_unvoted d s (Some x) =
    if is_some (waiting s.ops x.progress.values) then is_none_voted x.progress.votes
    else not (have_voted (parts_of d s) x.progress.votes)

pub none-unvoted : (d : DocumentData) (s : ScriptData) (x : Story) → have_voted (parts_of d s) [] ≡ false
    → x.progress.votes ≡ [] → is_unvoted d s (Some x) ≡ true
none-unvoted d s x some e = go (is_some (waiting s.ops x.progress.values))
  where
    P : List Voted → Type 0
    P = λ vs. not (have_voted (parts_of d s) vs) ≡ true

    Q : List Voted → Type 0
    Q = λ vs. is_none_voted vs ≡ true

    go : (b : Bool)
        → (if b then is_none_voted x.progress.votes else not (have_voted (parts_of d s) x.progress.votes)) ≡ true
    go true = subst Q (sym e) refl
    go false = subst P (sym e) (rw some refl)

pub if-unvoted : (d : DocumentData) (s : ScriptData) (b : Bool) (f : Story → Story) (o : Option Story)
    → (b ≡ true → (x : Story) → o ≡ Some x → is_unvoted d s (Some x) ≡ true → is_unvoted d s (Some (f x)) ≡ true)
    → is_unvoted d s o ≡ true → is_unvoted d s (if_told b f o) ≡ true
if-unvoted d s b f None go h = h
if-unvoted d s true f (Some x) go h = go refl x refl h
if-unvoted d s false f (Some x) go h = h

asked-unvoted : (d : DocumentData) (s : ScriptData) (t : TxId) (said : Message) (o : Option Story)
    → is_unvoted d s o ≡ true → is_unvoted d s (asked d t said o) ≡ true
asked-unvoted d s t (message.ReadReq q) o k = if-unvoted d s (q.t == t) (progressed (with_request (length (holders d.cluster.places q.key)))) o (λ e x i h. h) k
asked-unvoted d s t said o k = k

began-unvoted : (d : DocumentData) (s : ScriptData) (b : Bool) (k : ℕ) (sid0 : Ident) (o : Option Story)
    → have_voted (parts_of d s) [] ≡ false → is_unvoted d s o ≡ true
    → is_unvoted d s (if b then Some (begun k sid0) else o) ≡ true
began-unvoted d s true k sid0 o some h = none-unvoted d s (begun k sid0) some refl
began-unvoted d s false k sid0 o some h = h

none-voted : (vs : List Voted) → is_none_voted vs ≡ true → vs ≡ []
none-voted [] h = refl
none-voted (v ∷ vs) h = cc

taken-unvoted : (d : DocumentData) (past : List Act) (s : ScriptData) (u : TxId) (op : ℕ) (sid : Ident) (v : Value)
    (x : Story) → script_of s.number d.scripts ≡ Some s → have_voted (parts_of d s) [] ≡ false
    → TakenDue d past u op sid v → (u == s.number) ≡ true → story d past s.number ≡ Some x
    → is_unvoted d s (Some x) ≡ true → is_unvoted d s (Some (progressed (with_value op sid v) x)) ≡ true
taken-unvoted d past s u op sid v x is some due e told h =
    let same : u ≡ s.number = grind (arith, nat_tests, e) in
    let P : TxId → Type 0 = λ w. script_of w d.scripts ≡ Some due.script in
    let Q : TxId → Type 0 = λ w. story d past w ≡ Some due.story in
    let script : due.script ≡ s = (let f : Some due.script ≡ Some s = sym (subst P same due.at.script) ∙ is in cc) in
    let tale : due.story ≡ x = (let f : Some due.story ≡ Some x = sym (subst Q same due.at.story) ∙ told in cc) in
    let reads : waiting s.ops x.progress.values ≡ Some op = ap (λ (z : ScriptData). waiting z.ops x.progress.values) (sym script) ∙ ap (λ (z : Story). waiting due.script.ops z.progress.values) (sym tale) ∙ due.reads in
    let R : Option ℕ → Type 0 = λ w. (if is_some w then is_none_voted x.progress.votes else not (have_voted (parts_of d s) x.progress.votes)) ≡ true in
    none-unvoted d s (progressed (with_value op sid v) x) some (none-voted x.progress.votes (subst R reads h))

-- an act that gets no message
unvoted-more : (d : DocumentData) (past : List Act) (a : Act) (s : ScriptData) → script_of s.number d.scripts ≡ Some s
    → have_voted (parts_of d s) [] ≡ false → is_ungot a ≡ true → IsDue d past a
    → is_unvoted d s (story d past s.number) ≡ true → is_unvoted d s (story d (a ∷ past) s.number) ≡ true
unvoted-more d past (act.Got m) s is some u due k = cc
unvoted-more d past (act.Began v m sid0) s is some u due k = began-unvoted d s (v == s.number) (over_at (node d past) (script_of s.number d.scripts)) sid0 (story d past s.number) some k
unvoted-more d past (act.Sent m x y said) s is some u due k = asked-unvoted d s s.number said (story d past s.number) k
unvoted-more d past (act.Taken v op sid w) s is some u due k = if-unvoted d s (v == s.number) (progressed (with_value op sid w)) (story d past s.number) (λ e x told h. taken-unvoted d past s v op sid w x is some due e told h) k
unvoted-more d past (act.Finished v) s is some u due k = if-unvoted d s (v == s.number) (λ x. record x { finished = true }) (story d past s.number) (λ e x i h. h) k
unvoted-more d past (act.Aborted v m why) s is some u due k = if-unvoted d s (v == s.number) (λ x. record x { aborted = true }) (story d past s.number) (λ e x i h. h) k
unvoted-more d past (act.Lost v) s is some u due k = if-unvoted d s (v == s.number) (λ x. record x { lost = true }) (story d past s.number) (λ e x i h. h) k
unvoted-more d past (act.Down m h) s is some u due k = if-unvoted d s (is_home d s.number m) without_answers (story d past s.number) (λ e x i h. none-unvoted d s (without_answers x) some refl) k
unvoted-more d past a s is some u due k = k

pub unvoted-later : (d : DocumentData) (past acts : List Act) (s : ScriptData) → script_of s.number d.scripts ≡ Some s
    → have_voted (parts_of d s) [] ≡ false → list_all is_ungot acts ≡ true → AllDue d (after past acts)
    → is_unvoted d s (story d past s.number) ≡ true → is_unvoted d s (story d (after past acts) s.number) ≡ true
unvoted-later d past [] s is some u due k = k
unvoted-later d past (a ∷ acts) s is some u due k = let both = and_parts (is_ungot a) (list_all is_ungot acts) u in unvoted-later d (a ∷ past) acts s is some both.1 due (unvoted-more d past a s is some both.0 (due-before d (a ∷ past) acts due).0 k)
