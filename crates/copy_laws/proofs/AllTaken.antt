-- Each decided transaction took what those before it wrote last.
use Rattle.std.proofs.Common.{◌≡◌, ◌≢◌, ◌<◌, ℕ, inl, inr, Bool, true, false, ◌&&◌, List, [], ◌∷◌, ◌++◌, Option, Some, None, refl, sym, ap, subst, ◌∙◌, arith, if◌then◌else◌}
use Rattle.std.proofs.lemmas.Bool.Decides.{nat_tests}
use Rattle.std.proofs.lemmas.Bool.{or_right}
use Rattle.std.specs.Prelude.{◌==◌}
use Rattle.score_base.specs.declared.ids.TxId.{TxId}
use Rattle.score_base.specs.declared.ids.Ident.{Ident}
use Rattle.score_base.specs.declared.ids.Value.{Value}
use Rattle.score_base.specs.declared.keys.Key.{Key}
use Rattle.script_lang.specs.Scripts.{ScriptData}
use Rattle.script_lang.specs.Reads.{is_key_among, remote_keys, written_keys}
use Rattle.placement.specs.Clusters.{init}
use Rattle.grid_model.specs.declared.acts.Act.{Act}
use Rattle.grid_model.specs.declared.stories.Story.{Story}
use Rattle.grid_model.specs.Documents.{DocumentData}
use Rattle.grid_model.specs.Nodes.{journal, script_of}
use Rattle.grid_model.specs.Stories.{story, first_sid}
use Rattle.script_runs.specs.Waits.{waiting}
use Rattle.script_runs.specs.Walks.{own_map, op_key}
use Rattle.journal_words.specs.Orders.{is_before, members_to}
use Rattle.grid_model.specs.Copies.{key_at, order, snapshot, snapshot_in}
use Rattle.grid_model.specs.Facts.{IsDecided}
use Rattle.journal_words.proofs.Orders.{AreFalling, has_member, member-append}
use Rattle.journal_words.proofs.LastWrites.{all-up_to}
use Rattle.script_runs.proofs.RemoteReads.{IsRemote, order-remote}
use Rattle.script_runs.proofs.SerialWalks.{AreOf, AreOfKeys, keys-of}
use Rattle.script_runs.proofs.Walks.{op-place}
use Rattle.grid_model.proofs.SerialCopies.{AllTake, Takes, falling-rest, last_map, last-skips, script_write, write_by}
use Rattle.grid_laws.proofs.DecisionsRest.{DecisionSays, decided-say, decision-stands, decisions-rest}
use Rattle.grid_laws.proofs.NodesFitActs.{nodes-fit}
use Rattle.copy_laws.proofs.Footing.{IsServed, Rests, story_values, values_in}
use Rattle.copy_laws.proofs.Members.{members-before}
use Rattle.copy_laws.proofs.OrderMembers.{order-decided, order-falling}
use Rattle.copy_laws.proofs.ShownSteps.{story-order}
use Rattle.copy_laws.proofs.OrderOnce.{once-before}
use Rattle.copy_laws.proofs.ServedTaken.{taken-served}
use Rattle.copy_laws.proofs.LastReads.{served-last}
use Rattle.copy_laws.proofs.Undisturbed.{undisturbed}

-- ---- the reads of one of them

-- t read k remotely
record Reads (d : DocumentData) (past : List Act) (t : TxId) (s : ScriptData) (k : Key) : Type 0 where
  script : script_of t d.scripts ≡ Some s
  remote : is_key_among k (remote_keys [] s.ops) ≡ true

-- no member behind the snapshot wrote it
silent : (d : DocumentData) (past : List Act) (f : Ident) (t : TxId) (ys xs : List (Ident × TxId)) (s : ScriptData)
    (k : Key) (sid : Ident) → Rests d past → order d past ≡ ys ++ (f, t) ∷ xs → IsDecided d past t f
    → Reads d past t s k → snapshot d past t ≡ sid → (g : Ident) (u : TxId) → has_member g u xs ≡ true → sid < g
    → write_by d (values_in d past) k u ≡ None
silent d past f t ys xs s k sid r at dec reads snap g u member lt = go (script_of u d.scripts) refl
  where
    falling : AreFalling ((f, t) ∷ xs)
    falling = falling-rest ys ((f, t) ∷ xs) (subst AreFalling at (order-falling d past))

    up : is_before (f, t) (g, u) ≡ false
    up = all-up_to (f, t) g u xs falling.0 member

    there : has_member g u (order d past) ≡ true
    there = ap (has_member g u) at ∙ member-append g u ys ((f, t) ∷ xs) ∙ or_right (has_member g u ys) (has_member g u ((f, t) ∷ xs)) (or_right (f == g && t == u) (has_member g u xs) member)

    decided : IsDecided d past u g
    decided = order-decided d past u g (decisions-rest d past r.due) there

    other : t ≢ u
    other same = once-before d past ys xs f g t r.due at (let P : TxId → Type 0 = λ w. has_member g w xs ≡ true in subst P (sym same) member)

    wrote : (v : ScriptData) → script_of u d.scripts ≡ Some v → is_key_among k (written_keys [] v.ops) ≡ true → ⊥
    wrote v is h = elim (undisturbed d past t u f g s v k r other dec decided reads.script is reads.remote h) [
      | inl seen ↦ (let same : snapshot d past t ≡ sid = snap in omega arith)
      | inr behind ↦ (grind (arith, nat_tests, up, behind))
    ]

    none : (v : ScriptData) (b : Bool) → script_of u d.scripts ≡ Some v → is_key_among k (written_keys [] v.ops) ≡ b
        → (if b then Some (own_map v.ops (values_in d past u) k) else None) ≡ None
    none v true is h = absurd (wrote v is h)
    none v false is h = refl

    go : (o : Option ScriptData) → script_of u d.scripts ≡ o → script_write o (values_in d past u) k ≡ None
    go None is = refl
    go (Some v) is = none v (is_key_among k (written_keys [] v.ops)) is refl

-- each of its values is that which those before it wrote last
takes-of : (d : DocumentData) (past : List Act) (f : Ident) (t : TxId) (ys xs : List (Ident × TxId)) (s : ScriptData)
    → Rests d past → order d past ≡ ys ++ (f, t) ∷ xs → IsDecided d past t f → script_of t d.scripts ≡ Some s
    → (x : Story) → story d past t ≡ Some x → AreOfKeys (last_map d (values_in d past) xs) x.progress.values s.ops
takes-of d past f t ys xs s r at dec is x told j k v named e =
    let w = taken-served d past t x j v r.due told e in
    let sid : Ident = w.0 in
    let y : IsServed d past t j sid v = w.2 in
    let snap : snapshot d past t ≡ sid = ap snapshot_in told ∙ ap (λ o. first_sid o x.progress.sid0) w.1 in
    let in-order = story-order d past t s x r.due is told in
    let remote : IsRemote 1 [] s.ops j = order-remote s.ops x.progress.values in-order.0 j v in-order.1 e in
    let key : remote.key ≡ k = some-same remote.key k (sym (ap op_key (op-place s.ops j remote.least ∙ remote.read)) ∙ named) in
    let same : y.key ≡ k = some-same y.key k (sym y.named ∙ ap (λ o. key_at o j) is ∙ named) in
    let fresh : snapshot d past t < f = (decisions-rest d past r.due false dec.0 t f dec.2).1.fresh in
    let low : sid < f = omega arith in
    let cut : members_to sid (order d past) ≡ members_to sid xs = ap (members_to sid) at ∙ members-before sid ys (f, t) xs (subst AreFalling at (order-falling d past)) low in
    let P : Key → Type 0 = λ z. is_key_among z (remote_keys [] s.ops) ≡ true in
    let reads : Reads d past t s k = record { script = is; remote = subst P key remote.listed } in
    let skips : last_map d (values_in d past) xs k ≡ last_map d (values_in d past) (members_to sid xs) k = last-skips (write_by d (values_in d past) k) (init d.cluster k) sid xs (λ g u h lt. silent d past f t ys xs s k sid r at dec reads snap g u h lt) in
    served-last d past t j sid v r y ∙ ap (λ ms. last_map d (values_in d past) ms y.key) cut ∙ ap (last_map d (values_in d past) (members_to sid xs)) same ∙ sym skips
  where
    some-same : (a b : Key) → Some a ≡ Some b → a ≡ b
    some-same a b h = cc

-- a decided transaction: its script and its story, with all its values
pub record Decided (d : DocumentData) (past : List Act) (f : Ident) (t : TxId) : Type 0 where
  pub script : ScriptData
  pub is : script_of t d.scripts ≡ Some script
  pub begun : Story
  pub told : story d past t ≡ Some begun
  pub full : waiting script.ops begun.progress.values ≡ None
  pub decided : IsDecided d past t f

decided-by : (d : DocumentData) (past : List Act) (f : Ident) (t : TxId) → IsDecided d past t f
    → DecisionSays d past t f → Decided d past f t
decided-by d past f t dec says =
    record { script = says.script; is = says.full.at.script; begun = says.full.story; told = says.full.at.story; full = ap (waiting says.script.ops) says.full.told ∙ says.full.full; decided = dec }

-- each member of the order is one
pub decided-member : (d : DocumentData) (past : List Act) (f : Ident) (t : TxId) (ys xs : List (Ident × TxId))
    → Rests d past → order d past ≡ ys ++ (f, t) ∷ xs → Decided d past f t
decided-member d past f t ys xs r at =
    let there : has_member f t (order d past) ≡ true = ap (has_member f t) at ∙ member-append f t ys ((f, t) ∷ xs) ∙ or_right (has_member f t ys) (has_member f t ((f, t) ∷ xs)) (grind (arith, nat_tests)) in
    let dec : IsDecided d past t f = order-decided d past t f (decisions-rest d past r.due) there in
    decided-by d past f t dec (decision-stands d past dec.0 t f (journal d past dec.0) (nodes-fit d past r.due dec.0).homes (decided-say d past r.due dec.0).journal dec.2).1

takes : (d : DocumentData) (past : List Act) (f : Ident) (t : TxId) (ys xs : List (Ident × TxId)) → Rests d past
    → order d past ≡ ys ++ (f, t) ∷ xs
    → Takes (script_of t d.scripts) (values_in d past t) (last_map d (values_in d past) xs)
takes d past f t ys xs r at =
    let w : Decided d past f t = decided-member d past f t ys xs r at in
    let s : ScriptData = w.script in
    let x : Story = w.begun in
    let mine : values_in d past t ≡ x.progress.values = ap story_values w.told in
    let each : AreOfKeys (last_map d (values_in d past) xs) x.progress.values s.ops = takes-of d past f t ys xs s r at w.decided w.is x w.told in
    let P : List (ℕ × Value) → Type 0 = λ vs. AreOf (last_map d (values_in d past) xs) 1 vs s.ops in
    let Q : Option ScriptData → Type 0 = λ o. Takes o (values_in d past t) (last_map d (values_in d past) xs) in
    subst Q (sym w.is) (ap (waiting s.ops) mine ∙ w.full, subst P (sym mine) (keys-of (last_map d (values_in d past) xs) x.progress.values s.ops each))

-- ---- each of them

append-one : (ys : List (Ident × TxId)) (x : Ident × TxId) (xs : List (Ident × TxId))
    → ys ++ x ∷ xs ≡ (ys ++ x ∷ []) ++ xs
append-one [] x xs = refl
append-one (y ∷ ys) x xs = ap (λ zs. y ∷ zs) (append-one ys x xs)

each-takes : (d : DocumentData) (past : List Act) (ys xs : List (Ident × TxId)) → Rests d past → order d past ≡ ys ++ xs
    → AllTake d (values_in d past) xs
each-takes d past ys [] r at = tt
each-takes d past ys (x ∷ xs) r at = (takes d past x.0 x.1 ys xs r at, each-takes d past (ys ++ x ∷ []) xs r (at ∙ append-one ys x xs))

-- each member of the order took the values that stood before it
pub all-taken : (d : DocumentData) (past : List Act) → Rests d past → AllTake d (values_in d past) (order d past)
all-taken d past r = each-takes d past [] (order d past) r refl
