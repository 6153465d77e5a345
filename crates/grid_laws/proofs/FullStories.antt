-- Once the remote reads of a transaction all have their values, its snapshot and its values are fixed.
use Rattle.grid_laws.proofs.StoryClaims.{is_untaking, Stays, untaking-claim}
use Rattle.std.proofs.Common.{◌≡◌, ◌≢◌, ℕ, Bool, true, false, List, ◌∷◌, Option, Some, None, refl, sym, ap, subst, ◌∙◌, arith}
use Rattle.std.proofs.lemmas.Bool.Decides.{nat_tests}
use Rattle.std.specs.Prelude.{◌==◌, if◌then◌else◌}
use Rattle.score_base.specs.declared.ids.TxId.{TxId}
use Rattle.score_base.specs.declared.ids.NodeId.{NodeId}
use Rattle.score_base.specs.declared.ids.Ident.{Ident}
use Rattle.score_base.specs.declared.ids.Value.{Value}
use Rattle.script_lang.specs.Scripts.{ScriptData}
use Rattle.grid_model.specs.declared.acts.Act.{Act}
use Rattle.grid_model.specs.declared.acts.Act.TheVariants as act
use Rattle.grid_model.specs.declared.stories.Story.{Story}
use Rattle.grid_model.specs.Documents.{DocumentData}
use Rattle.grid_model.specs.Nodes.{script_of, node}
use Rattle.grid_model.specs.Stories.{story, told, if_told, first_sid, with_value, begun_in, progressed}
use Rattle.script_runs.specs.Waits.{waiting}
use Rattle.grid_model.specs.Copies.{snapshot, snapshot_in}
use Rattle.grid_laws.proofs.Causes.{AtHome, AllDue, TakenDue, BeganDue}

-- a story with the begin, the snapshot and the values of x
abbrev pub Keeps : Story → Option Story → Type 0
Keeps x None = ⊥
Keeps x (Some y) =
    (y.progress.sid0 ≡ x.progress.sid0) × (y.progress.sid ≡ x.progress.sid) × (y.progress.values ≡ x.progress.values)

keeps-stays : (x : Story) → Stays (Keeps x)
keeps-stays x = record { votes = λ vs y i. i; acks = λ ns y i. i; turn = λ k y i. i; finished = λ y i. i; aborted = λ y i. i; lost = λ y i. i }

untaking-keeps : (x : Story) (d : DocumentData) (past : List Act) (a : Act) (t : TxId)
    → is_untaking a ≡ true → Keeps x (story d past t) → Keeps x (story d (a ∷ past) t)
untaking-keeps x d past a t free k = untaking-claim (Keeps x) (keeps-stays x) d past a t free k

-- t, of home n, has the snapshot sid and all its values
pub record Full (d : DocumentData) (past : List Act) (n : NodeId) (t : TxId) (s : ScriptData) (sid : Ident)
    (values : List (ℕ × Value)) : Type 0 where
  pub story : Story
  pub at : AtHome d past n t s story
  pub ident : first_sid story.progress.sid story.progress.sid0 ≡ sid
  pub told : story.progress.values ≡ values
  pub full : waiting s.ops values ≡ None

keeps-full : (d : DocumentData) (past now : List Act) (n : NodeId) (t : TxId) (s : ScriptData) (sid : Ident)
    (values : List (ℕ × Value)) (f : Full d past n t s sid values) (o : Option Story) → story d now t ≡ o
    → Keeps f.story o → Full d now n t s sid values
keeps-full d past now n t s sid values f None e k = absurd k
keeps-full d past now n t s sid values f (Some y) e k =
    record {
      story = y;
      at = record { script = f.at.script; home = f.at.home; story = e };
      ident = rw (k.0, k.1) f.ident;
      told = k.2 ∙ f.told;
      full = f.full;
    }

keeps-self : (d : DocumentData) (past : List Act) (t : TxId) (x : Story) → story d past t ≡ Some x
    → Keeps x (story d past t)
keeps-self d past t x e = let P : Option Story → Type 0 = λ o. Keeps x o in subst P (sym e) (refl, refl, refl)

untaking-full : (d : DocumentData) (past : List Act) (a : Act) (n : NodeId) (t : TxId) (s : ScriptData) (sid : Ident)
    (values : List (ℕ × Value))
    → is_untaking a ≡ true → Full d past n t s sid values → Full d (a ∷ past) n t s sid values
untaking-full d past a n t s sid values calm f =
    keeps-full d past (a ∷ past) n t s sid values f (story d (a ∷ past) t) refl
    (untaking-keeps f.story d past a t calm (keeps-self d past t f.story f.at.story))

if-other : (x : Story) (b : Bool) (f : Story → Story) (o : Option Story) → b ≡ false → Keeps x o
    → Keeps x (if_told b f o)
if-other x b f None e k = k
if-other x true f (Some y) e k = cc
if-other x false f (Some y) e k = k

else-keeps : (x : Story) (b : Bool) (o p : Option Story) → b ≡ false → Keeps x p → Keeps x (if b then o else p)
else-keeps x true o p e k = cc
else-keeps x false o p e k = k

taken-other : (d : DocumentData) (past : List Act) (u t : TxId) (op : ℕ) (sid : Ident) (v : Value) (s : ScriptData)
    (x : Story) → TakenDue d past u op sid v → script_of t d.scripts ≡ Some s → story d past t ≡ Some x
    → waiting s.ops x.progress.values ≡ None → u ≢ t
taken-other d past u t op sid v s x due is told full same =
    let P : TxId → Type 0 = λ w. script_of w d.scripts ≡ Some due.script in
    let Q : TxId → Type 0 = λ w. story d past w ≡ Some due.story in
    let a : script_of t d.scripts ≡ Some due.script = subst P same due.at.script in
    let b : story d past t ≡ Some due.story = subst Q same due.at.story in
    let e : s ≡ due.script = cc in
    let f : x ≡ due.story = cc in
    let r : waiting due.script.ops due.story.progress.values ≡ Some op = due.reads in
    let g : waiting due.script.ops due.story.progress.values ≡ None = rw (e, f) at full in
    none-some op (sym g ∙ r)
  where
    none-some : (j : ℕ) → None ≡ Some j → ⊥
    none-some j h = cc

began-other : (d : DocumentData) (past : List Act) (u t : TxId) (n : NodeId) (sid0 : Ident) (x : Story)
    → BeganDue d past u n sid0 → story d past t ≡ Some x → u ≢ t
began-other d past u t n sid0 x due told same =
    let Q : TxId → Type 0 = λ w. story d past w ≡ None in
    let b : story d past t ≡ None = subst Q same due.new in
    none-told (sym b ∙ told)
  where
    none-told : None ≡ Some x → ⊥
    none-told h = cc

-- what is fixed stays
pub full-more : (d : DocumentData) (past : List Act) (a : Act) (n : NodeId) (t : TxId) (s : ScriptData) (sid : Ident)
    (values : List (ℕ × Value)) → AllDue d (a ∷ past) → Full d past n t s sid values
    → Full d (a ∷ past) n t s sid values
full-more d past (act.Began u k sid0) n t s sid values due f =
    let other : u ≢ t = began-other d past u t k sid0 f.story due.0 f.at.story in
    keeps-full d past (act.Began u k sid0 ∷ past) n t s sid values f (story d (act.Began u k sid0 ∷ past) t) refl (else-keeps f.story (u == t) (Some (begun_in d (node d past) t sid0)) (story d past t) (grind (arith, nat_tests)) (keeps-self d past t f.story f.at.story))
full-more d past (act.Taken u op i v) n t s sid values due f =
    let reads : waiting s.ops f.story.progress.values ≡ None = ap (waiting s.ops) f.told ∙ f.full in
    let other : u ≢ t = taken-other d past u t op i v s f.story due.0 f.at.script f.at.story reads in
    keeps-full d past (act.Taken u op i v ∷ past) n t s sid values f (story d (act.Taken u op i v ∷ past) t) refl (if-other f.story (u == t) (progressed (with_value op i v)) (story d past t) (grind (arith, nat_tests)) (keeps-self d past t f.story f.at.story))
full-more d past a n t s sid values due f = untaking-full d past a n t s sid values refl f

pub full-snapshot : (d : DocumentData) (past : List Act) (n : NodeId) (t : TxId) (s : ScriptData) (sid : Ident)
    (values : List (ℕ × Value)) → Full d past n t s sid values → snapshot d past t ≡ sid
full-snapshot d past n t s sid values f = ap snapshot_in f.at.story ∙ f.ident
