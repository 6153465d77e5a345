-- The stories that are kept act by act tell what the acts tell.
use Rattle.std.proofs.Common.{◌≡◌, ◌≢◌, ℕ, ◌==◌, ◌&&◌, Bool, true, false, List, [], ◌∷◌, length, Option, Some, None, is_some, refl, sym, ap, subst, ◌∙◌, inl, inr, arith, if◌then◌else◌}
use Rattle.std.proofs.lemmas.Bool.{cases_eq}
use Rattle.std.proofs.lemmas.Bool.Decides.{nat_tests}
use Rattle.score_base.specs.declared.causes.Ballot.TheVariants as ballot
use Rattle.script_lang.specs.Scripts.{ScriptData}
use Rattle.grid_model.specs.declared.acts.Act.{Act}
use Rattle.grid_model.specs.declared.acts.Act.TheVariants as act
use Rattle.grid_model.specs.declared.messages.Envelope.{Envelope}
use Rattle.grid_model.specs.declared.messages.Message.{Message}
use Rattle.grid_model.specs.declared.messages.ReadReq.{ReadReq}
use Rattle.placement.specs.Places.{holders}
use Rattle.grid_model.specs.declared.messages.Message.TheVariants as message
use Rattle.grid_model.specs.declared.stories.Story.{Story}
use Rattle.grid_model.specs.Documents.{DocumentData}
use Rattle.grid_model.specs.Histories.{sent, sent_at}
use Rattle.grid_model.specs.Keyed.{at_key, put_key}
use Rattle.grid_model.specs.Nodes.{Node, node, script_of, parts_of, is_home}
use Rattle.grid_model.specs.Stories.{story, begun_in, told, if_told, heard, heard_at, asked, phase_at, Phase, with_request, with_value, with_vote, with_ack, without_answers, is_counted_vote, is_counted_ack, progressed}
use Rattle.run_state.proofs.ForCode.{at-put, put-other, script-number}
use Rattle.run_state.specs.Kept.{retold, paired, voter, hearing_at, hearing_of, hearing, asking, telling, put_telling, forgotten, retold_by}

-- what a list that has one story more says of t, by what it said of t
abbrev behind : Option (ℕ × Story) → ℕ → Option Story → Option Story
behind None t o = o
behind (Some x) t o = if x.0 == t then Some x.1 else o

at-put_cases : (u t : ℕ) (a : Story) (xs : List (ℕ × Story))
    → at_key t (put_key u a xs) ≡ (if u == t then Some a else at_key t xs)
at-put_cases u t a xs = elim (cases_eq u t) [
  | inl same ↦ subst (λ v. at_key v (put_key u a xs) ≡ (if u == v then Some a else at_key v xs)) same (at-put u a xs ∙ grind (arith, nat_tests))
  | inr other ↦ let flipped : t ≢ u = λ e. other (sym e) in put-other t u a xs flipped ∙ grind (arith, nat_tests)
]

at-telling : (o : Option (ℕ × Story)) (xs : List (ℕ × Story)) (t : ℕ)
    → at_key t (put_telling o xs) ≡ behind o t (at_key t xs)
at-telling None xs t = refl
at-telling (Some x) xs t = at-put_cases x.0 t x.1 xs

if-not : (f : Story → Story) (o : Option Story) → o ≡ if_told false f o
if-not f None = refl
if-not f (Some x) = refl

-- a change of the story of u, said of t
told-if : (P : ℕ → Option Story) (f : Story → Story) (u t : ℕ) (o : Option Story) → o ≡ P u
    → behind (retold u f o) t (P t) ≡ if_told (u == t) f (P t)
told-if P f u t None e = elim (cases_eq u t) [
  | inl same ↦ let at : P t ≡ None = ap P (sym same) ∙ sym e in rw at refl
  | inr other ↦ let apart : (u == t) ≡ false = grind (arith, nat_tests) in rw apart (if-not f (P t))
]
told-if P f u t (Some x) e = elim (cases_eq u t) [
  | inl same ↦ let at : P t ≡ Some x = ap P (sym same) ∙ sym e in let here : (u == t) ≡ true = grind (arith, nat_tests) in rw (at, here) refl
  | inr other ↦ let apart : (u == t) ≡ false = grind (arith, nat_tests) in rw apart (if-not f (P t))
]

-- ---- what is got

-- a message of no vote and no acknowledgement changes nothing
unheard : (ns : List ℕ) (p : Phase) (h : Node) (t x : ℕ) (said : Message) (o : Option Story) → voter said ≡ None
    → heard ns p h t x said o ≡ o
unheard ns p h t x (message.Vote u b) o e = cc
unheard ns p h t x (message.Ack u) o e = cc
unheard ns p h t x said o e = refl

-- one of another transaction changes nothing
heard-other : (ns : List ℕ) (p : Phase) (h : Node) (t x u : ℕ) (said : Message) (o : Option Story) → voter said ≡ Some u
    → (u == t) ≡ false → heard ns p h t x said o ≡ o
heard-other ns p h t x u (message.Vote v (ballot.Yes y)) o e apart = let same : v ≡ u = cc in rw (same, apart) (sym (if-not (progressed (with_vote x y)) o))
heard-other ns p h t x u (message.Vote v (ballot.No y)) o e apart = refl
heard-other ns p h t x u (message.Ack v) o e apart = let same : v ≡ u = cc in rw (same, apart) (sym (if-not (with_ack x) o))
heard-other ns p h t x u said o e apart = cc

if-kept : (b : Bool) (f : Story → Story) (o : Option Story) → is_some (if_told b f o) ≡ is_some o
if-kept b f None = refl
if-kept true f (Some x) = refl
if-kept false f (Some x) = refl

-- what is heard takes no story away and makes none
heard-kept : (ns : List ℕ) (p : Phase) (h : Node) (t x : ℕ) (said : Message) (o : Option Story)
    → is_some (heard ns p h t x said o) ≡ is_some o
heard-kept ns p h t x (message.Vote v (ballot.Yes y)) o = if-kept ((v == t) && is_counted_vote ns p h.journal h.next x y) (progressed (with_vote x y)) o
heard-kept ns p h t x (message.Ack v) o = if-kept ((v == t) && is_counted_ack ns p h.journal h.next x) (with_ack x) o
heard-kept ns p h t x said o = refl

pair-here : (t : ℕ) (o o' : Option Story) → is_some o' ≡ is_some o → behind (paired t o') t o ≡ o'
pair-here t None None e = refl
pair-here t None (Some y) e = cc
pair-here t (Some x) None e = cc
pair-here t (Some x) (Some y) e = grind (arith, nat_tests)

behind-other : (u t : ℕ) (x o : Option Story) → (u == t) ≡ false → behind (paired u x) t o ≡ o
behind-other u t None o e = refl
behind-other u t (Some y) o e = rw e refl

behind-if : (b : Bool) (u t : ℕ) (x o : Option Story) → (u == t) ≡ false
    → behind (if b then paired u x else None) t o ≡ o
behind-if true u t x o e = behind-other u t x o e
behind-if false u t x o e = refl

hearing-other : (d : DocumentData) (past : List Act) (e : Envelope) (u : ℕ) (s : Option ScriptData) (t : ℕ)
    (o : Option Story) → (u == t) ≡ false → behind (hearing_at d past e u s) t o ≡ o
hearing-other d past e u None t o h = refl
hearing-other d past e u (Some s) t o h = behind-if (e.to == s.home) u t (heard (parts_of d s) (phase_at s (story d past u) (node d past s.home)) (node d past s.home) s.number e.from e.message (story d past u)) o h

if-to : (b : Bool) (x o : Option Story) → x ≡ o → (if b then x else o) ≡ o
if-to true x o e = e
if-to false x o e = refl

heard-apart : (d : DocumentData) (past : List Act) (s : Option ScriptData) (e : Envelope) (u t : ℕ) (o : Option Story)
    → voter e.message ≡ Some u → (u == t) ≡ false → script_of t d.scripts ≡ s → heard_at d past s (Some e) o ≡ o
heard-apart d past None e u t o v h at = refl
heard-apart d past (Some s) e u t o v h at =
    let number : s.number ≡ t = script-number t d.scripts s at in
    if-to (e.to == s.home) _ o (heard-other (parts_of d s) (phase_at s o (node d past s.home)) (node d past s.home) s.number e.from u e.message o v (rw number h))

heard-silent : (d : DocumentData) (past : List Act) (s : Option ScriptData) (e : Envelope) (o : Option Story)
    → voter e.message ≡ None → heard_at d past s (Some e) o ≡ o
heard-silent d past None e o v = refl
heard-silent d past (Some s) e o v = if-to (e.to == s.home) _ o (unheard (parts_of d s) (phase_at s o (node d past s.home)) (node d past s.home) s.number e.from e.message o v)

pair-if : (b : Bool) (t : ℕ) (o o' : Option Story) → is_some o' ≡ is_some o
    → behind (if b then paired t o' else None) t o ≡ (if b then o' else o)
pair-if true t o o' e = pair-here t o o' e
pair-if false t o o' e = refl

hearing-same : (d : DocumentData) (past : List Act) (e : Envelope) (t : ℕ) (s : Option ScriptData)
    → behind (hearing_at d past e t s) t (story d past t) ≡ heard_at d past s (Some e) (story d past t)
hearing-same d past e t None = refl
hearing-same d past e t (Some s) =
    let h : Node = node d past s.home in
    pair-if (e.to == s.home) t (story d past t) (heard (parts_of d s) (phase_at s (story d past t) h) h s.number e.from e.message (story d past t)) (heard-kept (parts_of d s) (phase_at s (story d past t) h) h s.number e.from e.message (story d past t))

hearing-by : (d : DocumentData) (past : List Act) (e : Envelope) (o : Option ℕ) (t : ℕ) → voter e.message ≡ o
    → behind (hearing_of d past e o) t (story d past t)
    ≡ heard_at d past (script_of t d.scripts) (Some e) (story d past t)
hearing-by d past e None t v = sym (heard-silent d past (script_of t d.scripts) e (story d past t) v)
hearing-by d past e (Some u) t v = elim (cases_eq u t) [
  | inl same ↦ subst (λ k. behind (hearing_at d past e u (script_of u d.scripts)) k (story d past k) ≡ heard_at d past (script_of k d.scripts) (Some e) (story d past k)) same (hearing-same d past e u (script_of u d.scripts))
  | inr other ↦
      let apart : (u == t) ≡ false = grind (arith, nat_tests) in
      hearing-other d past e u (script_of u d.scripts) t (story d past t) apart ∙ sym (heard-apart d past (script_of t d.scripts) e u t (story d past t) v apart refl)
]

unsent : (d : DocumentData) (past : List Act) (s : Option ScriptData) (o : Option Story) → o ≡ heard_at d past s None o
unsent d past None o = refl
unsent d past (Some s) o = refl

hearing-told : (d : DocumentData) (past : List Act) (e : Option Envelope) (t : ℕ)
    → behind (hearing d past e) t (story d past t) ≡ heard_at d past (script_of t d.scripts) e (story d past t)
hearing-told d past None t = unsent d past (script_of t d.scripts) (story d past t)
hearing-told d past (Some e) t = hearing-by d past e (voter e.message) t refl

-- ---- the other acts

asking-told : (d : DocumentData) (past : List Act) (said : Message) (t : ℕ)
    → behind (asking d past said) t (story d past t) ≡ asked d t said (story d past t)
asking-told d past (message.ReadReq q) t = told-if (story d past) (progressed (with_request _)) q.t t (story d past q.t) refl
asking-told d past said t = refl

some-if : (b : Bool) (f : Story → Story) (x : Story) → Some (if b then f x else x) ≡ if_told b f (Some x)
some-if true f x = refl
some-if false f x = refl

at-forgotten : (d : DocumentData) (n : ℕ) (xs : List (ℕ × Story)) (t : ℕ)
    → at_key t (forgotten d n xs) ≡ if_told (is_home d t n) without_answers (at_key t xs)
at-forgotten d n [] t = refl
at-forgotten d n (x ∷ xs) t = elim (cases_eq x.0 t) [
  | inl same ↦
      let here : (x.0 == t) ≡ true = grind (arith, nat_tests) in
      rw (here, ← same) (some-if (is_home d x.0 n) without_answers x.1)
  | inr other ↦ let apart : (x.0 == t) ≡ false = grind (arith, nat_tests) in rw apart (at-forgotten d n xs t)
]

told-one : (d : DocumentData) (past : List Act) (f : Story → Story) (u : ℕ) (xs : List (ℕ × Story))
    → ((t : ℕ) → at_key t xs ≡ story d past t) → (t : ℕ)
    → at_key t (put_telling (retold u f (story d past u)) xs) ≡ if_told (u == t) f (story d past t)
told-one d past f u xs same t = at-telling (retold u f (story d past u)) xs t ∙ ap (behind (retold u f (story d past u)) t) (same t) ∙ told-if (story d past) f u t (story d past u) refl

-- one act more
pub stories-more : (d : DocumentData) (past : List Act) (a : Act) (xs : List (ℕ × Story))
    → ((t : ℕ) → at_key t xs ≡ story d past t) → (t : ℕ)
    → at_key t (retold_by d a (telling d past a) xs) ≡ story d (a ∷ past) t
stories-more d past (act.Down n h) xs same t = at-forgotten d n xs t ∙ ap (if_told (is_home d t n) without_answers) (same t)
stories-more d past (act.Began u n s) xs same t =
    at-put_cases u t (begun_in d (node d past) u s) xs
    ∙ ap (λ o. if u == t then Some (begun_in d (node d past) u s) else o) (same t)
    ∙ begun-same (u == t) refl
  where
    begun-same : (b : Bool) → (u == t) ≡ b → (if b then Some (begun_in d (node d past) u s) else story d past t)
        ≡ (if b then Some (begun_in d (node d past) t s) else story d past t)
    begun-same true at = let same : u ≡ t = grind (arith, nat_tests) in subst (λ w. Some (begun_in d (node d past) u s) ≡ Some (begun_in d (node d past) w s)) same refl
    begun-same false at = refl
stories-more d past (act.Sent m x y said) xs same t = at-telling (asking d past said) xs t ∙ ap (behind (asking d past said) t) (same t) ∙ asking-told d past said t
stories-more d past (act.Got m) xs same t = at-telling (hearing d past (sent_at m (sent past))) xs t ∙ ap (behind (hearing d past (sent_at m (sent past))) t) (same t) ∙ hearing-told d past (sent_at m (sent past)) t
stories-more d past (act.Taken u j sid v) xs same t = told-one d past (progressed (with_value j sid v)) u xs same t
stories-more d past (act.Finished u) xs same t = told-one d past (λ x. record x { finished = true }) u xs same t
stories-more d past (act.Aborted u n c) xs same t = told-one d past (λ x. record x { aborted = true }) u xs same t
stories-more d past (act.Lost u) xs same t = told-one d past (λ x. record x { lost = true }) u xs same t
stories-more d past a xs same t = same t

-- what is heard of a story that is there
pub hearing-here : (d d' : DocumentData) (past : List Act) (e : Envelope) (t : ℕ) (s : ScriptData) (x y : Story)
    (h : Node) → d' ≡ d → h ≡ node d past s.home → script_of t d.scripts ≡ Some s → (e.to == s.home) ≡ true
    → story d past t ≡ Some x
    → Some y ≡ heard (parts_of d' s) (phase_at s (Some x) h) h s.number e.from e.message (Some x)
    → Some (t, y) ≡ hearing_at d past e t (script_of t d.scripts)
hearing-here d d' past e t s x y h same home script here told is =
    let at : Some y ≡ heard (parts_of d s) (phase_at s (Some x) (node d past s.home)) (node d past s.home) s.number e.from e.message (Some x) = subst (λ n. Some y ≡ heard (parts_of d s) (phase_at s (Some x) n) n s.number e.from e.message (Some x)) home (subst (λ k. Some y ≡ heard (parts_of k s) (phase_at s (Some x) h) h s.number e.from e.message (Some x)) same is) in
    rw (script, here, told) (ap (paired t) at)

-- a request of a story that is there
pub asking-here : (d d' : DocumentData) (past : List Act) (said : Message) (q : ReadReq) (x y : Story) (r : ℕ) → d' ≡ d
    → said ≡ message.ReadReq q → story d past q.t ≡ Some x → r ≡ length (holders d'.cluster.places q.key)
    → y ≡ progressed (with_request r) x → Some (q.t, y) ≡ asking d past said
asking-here d d' past said q x y r same is told count made =
    let holds : r ≡ length (holders d.cluster.places q.key) = count ∙ ap (λ (z : DocumentData). length (holders z.cluster.places q.key)) same in
    rw (is, told, ← holds, made) refl
