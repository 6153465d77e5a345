-- What one act leaves of the agreement of what a transaction was shown and what its script reads by the values taken.
use Rattle.grid_laws.proofs.StoryClaims.{Stays, is_untaking, untaking-claim}
use Rattle.std.proofs.Common.{◌≡◌, ◌≢◌, ℕ, Bool, true, false, List, [], ◌∷◌, ◌++◌, Option, Some, None, refl, sym, ap, subst, ◌∙◌, arith}
use Rattle.std.proofs.lemmas.Bool.Decides.{nat_tests}
use Rattle.std.specs.Prelude.{◌==◌, if◌then◌else◌}
use Rattle.std.specs.List.{list_all}
use Rattle.score_base.specs.declared.ids.TxId.{TxId}
use Rattle.score_base.specs.declared.ids.NodeId.{NodeId}
use Rattle.score_base.specs.declared.ids.Ident.{Ident}
use Rattle.score_base.specs.declared.ids.Value.{Value}
use Rattle.script_lang.specs.declared.scripts.Op.{Op}
use Rattle.script_lang.specs.Scripts.{ScriptData}
use Rattle.grid_model.specs.declared.acts.Act.{Act}
use Rattle.grid_model.specs.declared.acts.Act.TheVariants as act
use Rattle.grid_model.specs.declared.messages.Message.{Message}
use Rattle.grid_model.specs.declared.stories.Story.{Story}
use Rattle.grid_model.specs.Documents.{DocumentData}
use Rattle.grid_model.specs.Histories.{after}
use Rattle.grid_model.specs.Nodes.{script_of}
use Rattle.grid_model.specs.Stories.{story, if_told, with_value, progressed}
use Rattle.script_runs.specs.Waits.{waiting}
use Rattle.grid_model.specs.Copies.{shown}
use Rattle.script_runs.proofs.RemoteReads.{InOrder, remote_numbers, order-first, order-left, order-more}
use Rattle.script_runs.proofs.AllReads.{reads_by}
use Rattle.grid_laws.proofs.Causes.{AllDue}
use Rattle.grid_laws.proofs.Snapshots.{OfStory, of-more}
use Rattle.grid_laws.proofs.RowOuts.{is_of_row, is_reply}

-- the reads of a script, own and remote, by the values that a story took
abbrev pub story_reads : ScriptData → Option Story → List (ℕ × Value)
story_reads s None = []
story_reads s (Some x) = reads_by x.progress.values s.ops

-- these reads are those of the script by this story
abbrev pub Says : ScriptData → List (ℕ × Value) → Option Story → Type 0
Says s ys o = ys ≡ story_reads s o

-- ---- an act that begins nothing, takes no reply and shows no own read

-- an act that begins nothing, takes no reply and shows no own read
abbrev pub is_unshowing : Act → Bool
is_unshowing (act.Began t n sid0) = false
is_unshowing (act.Taken t op sid v) = false
is_unshowing (act.Own t op v) = false
is_unshowing a = true

-- those of each row but two
pub row-unshowing : (n : NodeId) (said : Message) → is_reply said ≡ false → (a : Act) → is_of_row n said a ≡ true
    → is_unshowing a ≡ true
row-unshowing n said none (act.Began t m sid0) h = h
row-unshowing n said none (act.Taken t op sid v) h = cc
row-unshowing n said none (act.Own t op v) h = cc
row-unshowing n said none a h = refl

says-stays : (s : ScriptData) (ys : List (ℕ × Value)) → Stays (Says s ys)
says-stays s ys = record { votes = λ vs x i. i; acks = λ ns x i. i; turn = λ k x i. i; finished = λ x i. i; aborted = λ x i. i; lost = λ x i. i }

unshowing-untaking : (a : Act) → is_unshowing a ≡ true → is_untaking a ≡ true
unshowing-untaking (act.Began t n sid0) quiet = quiet
unshowing-untaking (act.Taken t op sid v) quiet = quiet
unshowing-untaking a quiet = refl

unshowing-says : (s : ScriptData) (ys : List (ℕ × Value)) (d : DocumentData) (past : List Act) (a : Act) (t : TxId)
    → is_unshowing a ≡ true → Says s ys (story d past t) → Says s ys (story d (a ∷ past) t)
unshowing-says s ys d past a t quiet h =
    untaking-claim (Says s ys) (says-stays s ys) d past a t (unshowing-untaking a quiet) h

unshowing-shown : (past : List Act) (a : Act) (t : TxId) → is_unshowing a ≡ true → shown (a ∷ past) t ≡ shown past t
unshowing-shown past (act.Taken u op sid v) t quiet = cc
unshowing-shown past (act.Own u op v) t quiet = cc
unshowing-shown past a t quiet = refl

-- ---- transactions

-- t was shown the reads of its script by the values that it took
abbrev pub ShownBy : DocumentData → List Act → TxId → ScriptData → Type 0
ShownBy d past t s = Says s (shown past t) (story d past t)

-- such an act leaves what was shown
pub unshowing-by : (d : DocumentData) (past : List Act) (a : Act) (t : TxId) (s : ScriptData) → is_unshowing a ≡ true
    → ShownBy d past t s → ShownBy d (a ∷ past) t s
unshowing-by d past a t s quiet h = unshowing-shown past a t quiet ∙ unshowing-says s (shown past t) d past a t quiet h

-- an act of another transaction
pub other-began : (d : DocumentData) (past : List Act) (u t : TxId) (n : NodeId) (sid0 : Ident) (s : ScriptData) → u ≢ t
    → ShownBy d past t s → ShownBy d (act.Began u n sid0 ∷ past) t s
other-began d past u t n sid0 s other h = (let e : (u == t) ≡ false = grind (arith, nat_tests) in rw e h)

pub other-own : (d : DocumentData) (past : List Act) (u t : TxId) (op : ℕ) (v : Value) (s : ScriptData) → u ≢ t
    → ShownBy d past t s → ShownBy d (act.Own u op v ∷ past) t s
other-own d past u t op v s other h = (let e : (u == t) ≡ false = grind (arith, nat_tests) in rw e h)

pub other-took : (d : DocumentData) (past : List Act) (u t : TxId) (op : ℕ) (sid : Ident) (v : Value) (s : ScriptData)
    → u ≢ t → ShownBy d past t s → ShownBy d (act.Taken u op sid v ∷ past) t s
other-took d past u t op sid v s other h =
    let e : (u == t) ≡ false = grind (arith, nat_tests) in
    let same : shown (act.Taken u op sid v ∷ past) t ≡ shown past t = if-other (u == t) (shown past t ++ (op, v) ∷ []) (shown past t) e in
    same ∙ if-none (u == t) (progressed (with_value op sid v)) (story d past t) e h
  where
    if-none : (b : Bool) (f : Story → Story) (o : Option Story) → b ≡ false → Says s (shown past t) o
        → Says s (shown past t) (if_told b f o)
    if-none b f None e h = h
    if-none true f (Some x) e h = cc
    if-none false f (Some x) e h = h

    if-other : (b : Bool) (xs ys : List (ℕ × Value)) → b ≡ false → (if b then xs else ys) ≡ ys
    if-other true xs ys e = cc
    if-other false xs ys e = refl

-- each transaction of the document
abbrev pub AllShown : DocumentData → List Act → Type 0
AllShown d past = (t : TxId) (s : ScriptData) → script_of t d.scripts ≡ Some s → ShownBy d past t s

-- each but u
abbrev pub OthersShown : DocumentData → List Act → TxId → Type 0
OthersShown d past u = (t : TxId) (s : ScriptData) → u ≢ t → script_of t d.scripts ≡ Some s → ShownBy d past t s

-- so do such acts
pub unshowing-all : (d : DocumentData) (past acts : List Act) → list_all is_unshowing acts ≡ true → AllShown d past
    → AllShown d (after past acts)
unshowing-all d past [] quiet all = all
unshowing-all d past (a ∷ acts) quiet all =
    unshowing-all d (a ∷ past) acts (grind (arith, quiet))
    (λ t s e. unshowing-by d past a t s (grind (arith, quiet)) (all t s e))

-- ---- the values of each transaction are taken in the order of its script

-- some remote reads are left
abbrev IsInOrder : List Op → Option Ident → List (ℕ × Value) → Type 0
IsInOrder ops o values = (rest : List ℕ) × InOrder ops values rest

order-took : (ops : List Op) (values : List (ℕ × Value)) (rest : List ℕ) (op : ℕ) (v : Value)
    → waiting ops values ≡ Some op → InOrder ops values rest
    → (more : List ℕ) × InOrder ops (values ++ (op, v) ∷ []) more
order-took ops values rest op v reads h =
    let left = order-left ops values rest op h reads in
    let P : List ℕ → Type 0 = λ ns. InOrder ops values ns in
    (left.0, order-more ops values op v left.0 (subst P left.1 h))

stories-order : (d : DocumentData) (past : List Act) (t : TxId) (s : ScriptData) → AllDue d past
    → script_of t d.scripts ≡ Some s → OfStory (Unit {0}) (IsInOrder s.ops) (story d past t)
stories-order d [] t s due is = tt
stories-order d (a ∷ past) t s due is =
    of-more (Unit {0}) (IsInOrder s.ops) d past a t (λ n. (remote_numbers 1 [] s.ops, order-first s.ops))
    (λ op sid v w h.
    let same : w.script ≡ s = equal-script w.script s (sym w.at.script ∙ is) in
    let reads : waiting s.ops w.story.progress.values ≡ Some op = ap (λ (z : ScriptData). waiting z.ops w.story.progress.values) (sym same) ∙ w.reads in
    order-took s.ops w.story.progress.values h.0 op v reads h.1)
    due (stories-order d past t s due.1 is)
  where
    equal-script : (y z : ScriptData) → Some y ≡ Some z → y ≡ z
    equal-script y z e = cc

-- the values of a story are those of the first remote reads
pub story-order : (d : DocumentData) (past : List Act) (t : TxId) (s : ScriptData) (x : Story) → AllDue d past
    → script_of t d.scripts ≡ Some s → story d past t ≡ Some x → (rest : List ℕ) × InOrder s.ops x.progress.values rest
story-order d past t s x due is told = let P : Option Story → Type 0 = λ o. OfStory (Unit {0}) (IsInOrder s.ops) o in subst P told (stories-order d past t s due is)
