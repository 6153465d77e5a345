-- A story that is finished is one whose client was told; of a read-only transaction it has all values.
use Rattle.std.proofs.Common.{◌≡◌, true, false, List, [], ◌∷◌, Option, Some, None, refl, sym, subst, ◌∙◌}
use Rattle.std.proofs.lemmas.Bool.{or_left, or_right}
use Rattle.std.specs.Prelude.{◌==◌}
use Rattle.score_base.specs.declared.ids.TxId.{TxId}
use Rattle.script_lang.specs.Reads.{is_update}
use Rattle.script_lang.specs.Scripts.{ScriptData}
use Rattle.script_runs.specs.Waits.{waiting}
use Rattle.grid_model.specs.declared.acts.Act.{Act}
use Rattle.grid_model.specs.declared.acts.Act.TheVariants as act
use Rattle.grid_model.specs.declared.stories.Story.{Story}
use Rattle.grid_model.specs.Copies.{is_finished, snapshot_in}
use Rattle.grid_model.specs.Documents.{DocumentData}
use Rattle.grid_model.specs.Histories.{sent, sent_at}
use Rattle.grid_model.specs.Nodes.{is_home, node, script_of}
use Rattle.grid_model.specs.Stories.{begun_in, story}
use Rattle.grid_laws.proofs.Causes.{AllDue}
use Rattle.grid_laws.proofs.FinishedSay.{finished-reader}
use Rattle.grid_laws.proofs.FullStories.{Full}
use Rattle.grid_laws.proofs.StoryClaims.{asked-claim, else-claim, got-claim, hears-any, if-claim}

abbrev IsTold : List Act → TxId → Option Story → Type 0
IsTold past t None = Unit {0}
IsTold past t (Some x) = x.finished ≡ true → is_finished past t ≡ true

finished-more : (a : Act) (past : List Act) (t : TxId) → is_finished past t ≡ true → is_finished (a ∷ past) t ≡ true
finished-more (act.Finished u) past t h = or_right (u == t) (is_finished past t) h
finished-more a past t h = h

told-more : (a : Act) (past : List Act) (t : TxId) (o : Option Story) → IsTold past t o → IsTold (a ∷ past) t o
told-more a past t None h = tt
told-more a past t (Some x) h = λ e. finished-more a past t (h e)

told-now : (d : DocumentData) (past now : List Act) (a : Act) (t : TxId) → now ≡ a ∷ past
    → IsTold now t (story d past t) → IsTold now t (story d (a ∷ past) t)
told-now d past now (act.Began u n sid0) t at k =
    else-claim (IsTold now t) (u == t) (Some (begun_in d (node d past) t sid0)) (story d past t) (λ same. λ e. cc) k
told-now d past now (act.Sent m x y said) t at k = asked-claim (IsTold now t) (λ j x i. i) d t said (story d past t) k
told-now d past now (act.Got m) t at k =
    got-claim (IsTold now t) (hears-any (IsTold now t) (λ vs x i. i) (λ ns x i. i)) d past (script_of t d.scripts)
    (sent_at m (sent past)) (story d past t) k
told-now d past now (act.Taken u j sid v) t at k = if-claim (IsTold now t) (u == t) _ (story d past t) (λ e x i. i) k
told-now d past now (act.Finished u) t at k =
    if-claim (IsTold now t) (u == t) _ (story d past t)
    (λ e x i. λ f. rw at (or_left (u == t) (is_finished past t) e)) k
told-now d past now (act.Aborted u n why) t at k = if-claim (IsTold now t) (u == t) _ (story d past t) (λ e x i. i) k
told-now d past now (act.Lost u) t at k = if-claim (IsTold now t) (u == t) _ (story d past t) (λ e x i. i) k
told-now d past now (act.Down n h) t at k = if-claim (IsTold now t) (is_home d t n) _ (story d past t) (λ e x i. i) k
told-now d past now a t at k = k

stories-told : (d : DocumentData) (past : List Act) (t : TxId) → IsTold past t (story d past t)
stories-told d [] t = tt
stories-told d (a ∷ past) t =
    told-now d past (a ∷ past) a t refl (told-more a past t (story d past t) (stories-told d past t))

-- a finished read-only transaction has all its values
pub reader-full : (d : DocumentData) (past : List Act) (s : ScriptData) (x : Story) → AllDue d past
    → script_of s.number d.scripts ≡ Some s → story d past s.number ≡ Some x → x.finished ≡ true
    → is_update s.ops ≡ false → Full d past s.home s.number s (snapshot_in (Some x)) x.progress.values
reader-full d past s x all is told finished reader =
    let P : Option Story → Type 0 = λ o. IsTold past s.number o in
    let says : is_finished past s.number ≡ true = subst P told (stories-told d past s.number) finished in
    let w = finished-reader d past all s s.number is reader says in
    let Q : Story → Type 0 = λ z. waiting s.ops z.progress.values ≡ None in
    record {
      story = x;
      at = record { script = is; home = refl; story = told };
      ident = refl;
      told = refl;
      full = subst Q (same w.0 x (sym w.1 ∙ told)) w.2;
    }
  where
    same : (y z : Story) → Some y ≡ Some z → y ≡ z
    same y z e = cc
