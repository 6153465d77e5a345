-- `clap` on the words behind `drill`, as steps over what was given so far.
use Rattle.std.proofs.Common.{◌≡◌, ◌∙◌, ◌||◌, ℕ, Bool, cond, codes, true, false, refl, sym, subst, ap, ap₂, List, [], ◌∷◌, length, Option, Some, None, ◌⊎◌, ⊎_elim, inl, inr, true≢false}
use Rattle.std.specs.Prelude.{slice_get, if◌then◌else◌, encode_utf8, is_some, drop}
use Rattle.std.specs.List.{fold, list_any}
use Rattle.std.specs.Option.{option_map, option_map_or}
use Rattle.std.specs.Str.{bytes_eq, chars}
use Rattle.clap.specs.Lexer.{long_of, short_of}
use Rattle.clap.specs.Walk.{Held, Outcome, Row, Rule, Step, Text, Walk, Waiting, after_step, after_flag, arg_by_long, arg_by_short, bundle, bundle_step, long_met, short_met, short_or_plain, bundle_met, done, idle, long_or_other, option, plain, next, refused, settled, trailing, used, walk_from, walked}
use Rattle.clap.specs.Simple.{Shape, built}
use Rattle.clap.specs.Kinds.{Kinds, or_else}
use Rattle.clap.specs.Faults.{bundle_fault, bundle_step_fault, short_fault, long_fault, flag_word_fault, flags_fault, settle_fault, step_fault, turn_fault, use_fault, walk_fault}
use Rattle.clap.specs.declared.parser.matches.ValueSource.TheVariants.{CommandLine}
use Rattle.clap.specs.declared.builder.value_parser.Reading.TheVariants.{AsWritten}
use Rattle.clap.specs.declared.error.kind.ErrorKind.TheVariants.{InvalidValue, UnknownArgument}
use Rattle.command_words.specs.Commands.{has_dashes}
use Rattle.command_words.specs.Grammar.{command_line, drill_app, option_rule}
use Rattle.clap.specs.Simple.{filled}

-- ---- the command as built

abbrev pub drill_rules : List Rule
drill_rules = filled (option_rule (codes "seed")) ∷ filled (option_rule (codes "size")) ∷ []

abbrev pub drill_shape : Shape
drill_shape = record drill_app.top {
  rules = drill_rules;
  disable_help_flag = true;
  disable_help_subcommand = true;
  no_binary_name = true;
  is_built = true;
}

abbrev pub run_shape : Shape
run_shape = record drill_shape { name = codes "run"; rules = [] }

pub subs_are : (built command_line).subs ≡ run_shape ∷ drill_shape ∷ []
subs_are = refl

-- ---- what was given so far

pub data Setting : Type 0 where
  seed : Setting
  size : Setting

abbrev pub id_of : Setting → Text
id_of seed = codes "seed"
id_of size = codes "size"

abbrev pub rule : Setting → Rule
rule k = filled (option_rule (id_of k))

pub data SoFar : Type 0 where
  none : SoFar
  one : Setting → Text → SoFar
  seed_size : Text → Text → SoFar
  size_seed : Text → Text → SoFar

abbrev pub add : SoFar → Setting → Text → Option SoFar
add none k v = Some (one k v)
add (one seed s) size v = Some (seed_size s v)
add (one size z) seed v = Some (size_seed z v)
add _ k v = None

abbrev pub row : Setting → Text → Row
row k v = record { id = id_of k; values = v ∷ []; count = None; source = Some CommandLine; reading = AsWritten }

abbrev pub rows : SoFar → List Row
rows none = []
rows (one k v) = row k v ∷ []
rows (seed_size s z) = row seed s ∷ row size z ∷ []
rows (size_seed z s) = row size z ∷ row seed s ∷ []

-- the option whose separate value was met last is used only at the next word
abbrev pub now : SoFar → Option (Setting × Text) → Option SoFar
now st None = Some st
now st (Some p) = add st p.0 p.1

abbrev pub pending : Option (Setting × Text) → Option (Text × List Text)
pending None = None
pending (Some p) = Some (id_of p.0, p.1 ∷ [])

abbrev pub state : SoFar → Option (Setting × Text) → Held
state st p = record { rows = rows st; pending = pending p; skip = 0 }

-- ---- one use

abbrev Adds : SoFar → Setting → Text → Option SoFar → Type 0
Adds st k v (Some st') =
    (use_fault false (rule k) (v ∷ []) (rows st) ≡ []) × (used (rule k) (v ∷ []) (rows st) ≡ rows st')
Adds st k v None = use_fault false (rule k) (v ∷ []) (rows st) ≡ [] → ⊥

pub full : {X : Type 0} (x : X) (xs : List X) → x ∷ xs ≡ [] → ⊥
full x xs e = cc

adds : (st : SoFar) (k : Setting) (v : Text) → Adds st k v (add st k v)
adds none seed v = (refl, refl)
adds none size v = (refl, refl)
adds (one seed s) seed v = full _ _
adds (one seed s) size v = (refl, refl)
adds (one size s) seed v = (refl, refl)
adds (one size s) size v = full _ _
adds (seed_size s z) seed v = full _ _
adds (seed_size s z) size v = full _ _
adds (size_seed z s) seed v = full _ _
adds (size_seed z s) size v = full _ _

abbrev Settles : Held → Option SoFar → Type 0
Settles h (Some st) = (settle_fault drill_rules false h ≡ []) × (settled drill_rules h ≡ state st None)
Settles h None = settle_fault drill_rules false h ≡ [] → ⊥

settles_by : (st : SoFar) (k : Setting) (v : Text) (o : Option SoFar) → Adds st k v o
    → Settles (state st (Some (k, v))) o
settles_by st seed v (Some st') a = (a.0, ap (λ rs. record { rows = rs; pending = None; skip = 0 }) a.1)
settles_by st size v (Some st') a = (a.0, ap (λ rs. record { rows = rs; pending = None; skip = 0 }) a.1)
settles_by st seed v None a = a
settles_by st size v None a = a

settles : (st : SoFar) (p : Option (Setting × Text)) → Settles (state st p) (now st p)
settles st None = (refl, refl)
settles st (Some p) = settles_by st p.0 p.1 _ (adds st p.0 p.1)

-- ---- a word, by what it looks like

abbrev pub dashes : Text
dashes = codes "--"

abbrev pub met_by : List Rule → Waiting → Text → Held → Bool → Option (Text × Option Text) → Held × Step
met_by rs wt w h dd lo = if dd then (h, trailing 1) else long_or_other rs wt w lo h

abbrev pub fault_by : Shape → Waiting → Text → Held → Bool → Option (Text × Option Text) → Kinds
fault_by s wt w h dd lo = or_else (if dd then [] else flag_word_fault s.rules s.args_override_self lo w h)
    (step_fault s 1 (met_by s.rules wt w h dd lo).0 (met_by s.rules wt w h dd lo).1)

abbrev pub step_by : List Rule → Waiting → Text → Held → Bool → Option (Text × Option Text) → Walk
step_by rs wt w h dd lo =
    after_step rs w (record (walk_from h) { waiting = wt }) (met_by rs wt w h dd lo).0 (met_by rs wt w h dd lo).1

abbrev pub from : Waiting → Held → Walk
from wt h = record (walk_from h) { waiting = wt }

turn_idle : (w : Text) (h : Held)
    → turn_fault drill_shape [] (from idle h) w ≡ fault_by drill_shape idle w h (bytes_eq w dashes) (long_of w)
turn_idle w h = refl

step_idle : (w : Text) (h : Held)
    → walked drill_rules [] (from idle h) w ≡ step_by drill_rules idle w h (bytes_eq w dashes) (long_of w)
unfolding walked
step_idle w h = refl

turn_option : (w id : Text) (h : Held) → turn_fault drill_shape [] (from (option id) h) w
    ≡ fault_by drill_shape (option id) w h (bytes_eq w dashes) (long_of w)
turn_option w id h = refl

step_option : (w id : Text) (h : Held)
    → walked drill_rules [] (from (option id) h) w ≡ step_by drill_rules (option id) w h (bytes_eq w dashes) (long_of w)
unfolding walked
step_option w id h = refl

-- ---- bundles: there is no short name

abbrev pub held : List Row → Option (Text × List Text) → Held
held rs p = record { rows = rs; pending = p; skip = 0 }

abbrev pub HasNoShort : List Rule → Type 0
HasNoShort rs = (x : ℕ) → arg_by_short rs x ≡ None

abbrev Unmet : Held → Held × Outcome → Type 0
Unmet h m = (m ≡ (h, plain)) ⊎ (m ≡ (h, refused))

pub unmet : (rs : List Rule) → HasNoShort rs → (r : List Row) (p : Option (Text × List Text)) (flags : Text)
    → Unmet (held r p) (bundle rs flags (held r p))
unfolding bundle_met
unmet rs lack r p [] = inl refl
unmet rs lack r p (x ∷ xs) = go (slice_get (chars (x ∷ xs)) 0)
  where
    go : (o : Option ℕ) → Unmet (held r p) (bundle_step rs o (x ∷ xs) 0 plain (held r p) (bundle_met rs (length xs)))
    go None = inl refl
    go (Some y) = inr (ap (λ a. short_met rs a (drop (length (encode_utf8 y)) (x ∷ xs)) (held r p) (bundle_met rs (length xs) (drop (length (encode_utf8 y)) (x ∷ xs)) 0 done)) (lack y))

abbrev pub unknown : Kinds
unknown = UnknownArgument ∷ []

abbrev bundle_kinds : Bool → Kinds
bundle_kinds b = if b then unknown else []

bundle_refused : (rs : List Rule) → HasNoShort rs → (r : List Row) (p : Option (Text × List Text)) (flags : Text)
    → bundle_fault rs false flags (held r p) ≡ bundle_kinds (is_some (slice_get (chars flags) 0))
unfolding flags_fault chars
bundle_refused rs lack r p [] = refl
bundle_refused rs lack r p (x ∷ xs) = go (slice_get (chars (x ∷ xs)) 0)
  where
    go : (o : Option ℕ) → bundle_step_fault rs false o (x ∷ xs) 0 (held r p) (flags_fault rs false (length xs))
        ≡ bundle_kinds (is_some o)
    go None = refl
    go (Some y) = ap (λ a. short_fault rs false a (drop (length (encode_utf8 y)) (x ∷ xs)) (held r p) (flags_fault rs false (length xs) (drop (length (encode_utf8 y)) (x ∷ xs)) 0)) (lack y)

drill_has_no_short : HasNoShort drill_rules
drill_has_no_short x = refl

-- ---- the words behind `drill`, as steps over what was given

abbrev pub setting_named : Text → Option Setting
setting_named n =
    if bytes_eq (codes "seed") n then Some seed else (if bytes_eq (codes "size") n then Some size else None)

arg_named : (n : Text) → arg_by_long drill_rules n ≡ option_map rule (setting_named n)
arg_named n = go (bytes_eq (codes "seed") n) (bytes_eq (codes "size") n)
  where
    go : (a b : Bool) → cond (a || false) (Some (rule seed)) (cond (b || false) (Some (rule size)) None)
        ≡ option_map rule (cond a (Some seed) (cond b (Some size) None))
    go true b = refl
    go false true = refl
    go false false = refl

-- the word is no value: it begins with `--` and more, or is `-` and more
abbrev pub short_refused : Option Text → Bool
short_refused None = false
short_refused (Some flags) = is_some (slice_get (chars flags) 0)

abbrev pub is_flag : Text → Bool
is_flag v = is_some (long_of v) || short_refused (short_of v)

abbrev pub put_setting : SoFar → Text → Option Setting → Option SoFar
put_setting st v None = None
put_setting st v (Some k) = add st k v

abbrev pub put : Option SoFar → Text → Text → Option SoFar
put None n v = None
put (Some st) n v = put_setting st v (setting_named n)

abbrev pub by_word : Option SoFar → Option (Text × Option Text) → (Option SoFar → Option SoFar) → (Text → Option SoFar)
    → Option SoFar
by_word o None f g = None
by_word o (Some (n, Some x)) f g = f (put o n x)
by_word o (Some (n, None)) f g = g n

abbrev pub reads : Option SoFar → Option Text → List Text → Option SoFar
reads o None [] = o
reads o (Some n) [] = None
reads o None (w ∷ rest) = by_word o (long_of w) (λ x. reads x None rest) (λ n. reads o (Some n) rest)
reads o (Some n) (v ∷ rest) = if is_flag v then None else reads (put o n v) None rest

none_by_word : (lo : Option (Text × Option Text)) (f : Option SoFar → Option SoFar) (g : Text → Option SoFar)
    → f None ≡ None → ((n : Text) → g n ≡ None) → by_word None lo f g ≡ None
none_by_word None f g ef eg = refl
none_by_word (Some (n, Some x)) f g ef eg = ef
none_by_word (Some (n, None)) f g ef eg = eg n

none_if : (b : Bool) (o : Option SoFar) → o ≡ None → cond b None o ≡ None
none_if true o e = refl
none_if false o e = e

reads_none : (ws : List Text) (n : Option Text) → reads None n ws ≡ None
reads_none [] None = refl
reads_none [] (Some n) = refl
reads_none (w ∷ rest) None = none_by_word (long_of w) _ _ (reads_none rest None) (λ n. reads_none rest (Some n))
reads_none (v ∷ rest) (Some n) = none_if (is_flag v) _ (reads_none rest None)

reads_unknown : (st : SoFar) (n : Text) (ws : List Text) → setting_named n ≡ None → reads (Some st) (Some n) ws ≡ None
reads_unknown st n [] e = refl
reads_unknown st n (v ∷ rest) e = none_if (is_flag v) _ (ap (λ k. reads (put_setting st v k) None rest) e ∙ reads_none rest None)

-- ---- the walk follows the steps

abbrev pub end_of : Walk → List Text → Held
end_of w ws = (fold (walked drill_rules []) w ws).held

abbrev pub kinds_from : Walk → List Text → Kinds
kinds_from w ws = or_else (walk_fault drill_shape [] w ws) (settle_fault drill_rules false (end_of w ws))

abbrev pub Comes : Walk → List Text → Option SoFar → Type 0
Comes w ws (Some st) = (kinds_from w ws ≡ []) × (settled drill_rules (end_of w ws) ≡ state st None)
Comes w ws None = kinds_from w ws ≡ [] → ⊥

pub or_else_assoc : (a b c : Kinds) → or_else (or_else a b) c ≡ or_else a (or_else b c)
or_else_assoc [] b c = refl
or_else_assoc (k ∷ ks) b c = refl

pub or_else_left : (a b : Kinds) → or_else a b ≡ [] → a ≡ []
or_else_left [] b e = refl
or_else_left (k ∷ ks) b e = e

pub or_else_right : (a b : Kinds) → or_else a b ≡ [] → b ≡ []
or_else_right [] b e = e
or_else_right (k ∷ ks) b e = absurd (full k ks e)

kinds_cons : (w : Walk) (x : Text) (ws : List Text)
    → kinds_from w (x ∷ ws) ≡ or_else (turn_fault drill_shape [] w x) (kinds_from (walked drill_rules [] w x) ws)
unfolding walk_fault
kinds_cons w x ws = or_else_assoc (turn_fault drill_shape [] w x) (walk_fault drill_shape [] (walked drill_rules [] w x) ws) _

comes_on : (w : Walk) (x : Text) (ws : List Text) (v : Walk) (o : Option SoFar) → turn_fault drill_shape [] w x ≡ []
    → walked drill_rules [] w x ≡ v → Comes v ws o → Comes w (x ∷ ws) o
comes_on w x ws v (Some st) clear is c = (
  kinds_cons w x ws ∙ ap (λ k. or_else k (kinds_from (walked drill_rules [] w x) ws)) clear ∙ ap (λ u. kinds_from u ws) is ∙ c.0,
  ap (λ u. settled drill_rules (end_of u ws)) is ∙ c.1,
)
comes_on w x ws v None clear is c = λ e. c (ap (λ u. kinds_from u ws) (sym is) ∙ or_else_right _ _ (sym (kinds_cons w x ws) ∙ e))

comes_not : (w : Walk) (x : Text) (ws : List Text) (o : Option SoFar) → (turn_fault drill_shape [] w x ≡ [] → ⊥)
    → None ≡ o → Comes w (x ∷ ws) o
comes_not w x ws o bad e = subst (Comes w (x ∷ ws)) e (λ k. bad (or_else_left _ _ (sym (kinds_cons w x ws) ∙ k)))

-- ---- one step

-- where nothing waits for a value
abbrev pub kinds_of : Shape → Held × Step → Kinds → Kinds
kinds_of s m k = or_else k (step_fault s 1 m.0 m.1)

stray_word : (w : Text) (r : List Row) (p : Option (Text × List Text)) (sh : Option Text)
    → step_fault drill_shape 1 (short_or_plain drill_rules idle w sh (held r p)).0
    (short_or_plain drill_rules idle w sh (held r p)).1
    ≡ unknown
stray_word w r p None = refl
stray_word w r p (Some flags) = ⊎_elim (λ e. ap met e) (λ e. ap met e) (unmet drill_rules drill_has_no_short r p flags)
  where
    met : Held × Outcome → Kinds
    met b = step_fault drill_shape 1 (after_flag drill_rules idle w b.0 b.1).0 (after_flag drill_rules idle w b.0 b.1).1

idle_none : (w : Text) (r : List Row) (p : Option (Text × List Text)) → bytes_eq w dashes ≡ false → long_of w ≡ None
    → turn_fault drill_shape [] (from idle (held r p)) w ≡ [] → ⊥
idle_none w r p ew el e =
    let stray = or_else_right _ _ (sym (ap₂ (fault_by drill_shape idle w (held r p)) ew el) ∙ e) in
    full _ _ (sym (stray_word w r p (short_of w)) ∙ stray)

abbrev met_long : Text → Held → Option Text → Option Rule → Held × Step
met_long w h ov a = after_flag drill_rules idle w (long_met drill_rules a ov h).0 (long_met drill_rules a ov h).1

idle_kinds : (w n : Text) (ov : Option Text) (h : Held) (ko : Option Setting) → bytes_eq w dashes ≡ false
    → long_of w ≡ Some (n, ov) → setting_named n ≡ ko → turn_fault drill_shape [] (from idle h) w
    ≡ kinds_of drill_shape (met_long w h ov (option_map rule ko)) (long_fault drill_rules false (option_map rule ko) ov h)
idle_kinds w n ov h ko ew el ek = ap₂ (fault_by drill_shape idle w h) ew el
    ∙ ap (λ a. kinds_of drill_shape (met_long w h ov a) (long_fault drill_rules false a ov h)) (arg_named n ∙ ap (option_map rule) ek)

idle_step : (w n : Text) (ov : Option Text) (h : Held) (ko : Option Setting) → bytes_eq w dashes ≡ false
    → long_of w ≡ Some (n, ov) → setting_named n ≡ ko → walked drill_rules [] (from idle h) w
    ≡ after_step drill_rules w (from idle h) (met_long w h ov (option_map rule ko)).0 (met_long w h ov (option_map rule ko)).1
unfolding walked
idle_step w n ov h ko ew el ek = ap₂ (step_by drill_rules idle w h) ew el
    ∙ ap (λ a. after_step drill_rules w (from idle h) (met_long w h ov a).0 (met_long w h ov a).1) (arg_named n ∙ ap (option_map rule) ek)

abbrev after : SoFar → Setting → Walk
after st k = from (option (id_of k)) (held (rows st) (Some (id_of k, [])))

-- what the rest comes to, from between two options, and behind the name of one
abbrev pub Between : List Text → Type 0
Between rest =
    (st : SoFar) (p : Option (Setting × Text)) → Comes (from idle (state st p)) rest (reads (now st p) None rest)

abbrev pub Behind : List Text → Type 0
Behind rest =
    (st : SoFar) (k : Setting) (n : Text) → setting_named n ≡ Some k → Comes (after st k) rest (reads (Some st) (Some n) rest)

put_unknown : (o : Option SoFar) (n v : Text) → setting_named n ≡ None → put o n v ≡ None
put_unknown None n v e = refl
put_unknown (Some st) n v e = ap (put_setting st v) e

unknown_rest : (o : Option SoFar) (n : Text) (rest : List Text) → setting_named n ≡ None → reads o (Some n) rest ≡ None
unknown_rest None n rest e = reads_none rest (Some n)
unknown_rest (Some st) n rest e = reads_unknown st n rest e

module _ (w n : Text) (rest : List Text) (st : SoFar) (p : Option (Setting × Text)) (ew : bytes_eq w dashes ≡ false) where
  abbrev Word : Option SoFar → Option Text → Type 0
  Word o ov = Comes (from idle (state st p)) (w ∷ rest)
      (by_word o (Some (n, ov)) (λ x. reads x None rest) (λ m. reads o (Some m) rest))

  is_unknown : (ov : Option Text) (o : Option SoFar) → long_of w ≡ Some (n, ov) → setting_named n ≡ None → Word o ov
  is_unknown (Some x) o el ek = comes_not _ _ _ _ (λ e. full _ _ (sym (idle_kinds w n (Some x) (state st p) None ew el ek) ∙ e))
      (sym (ap (λ z. reads z None rest) (put_unknown o n x ek) ∙ reads_none rest None))
  is_unknown None o el ek = comes_not _ _ _ _ (λ e. full _ _ (sym (idle_kinds w n None (state st p) None ew el ek) ∙ e))
      (sym (unknown_rest o n rest ek))

  with_value : (x : Text) (k : Setting) (st' : SoFar) (o : Option SoFar) → long_of w ≡ Some (n, Some x)
      → setting_named n ≡ Some k → Settles (state st p) (Some st') → Adds st' k x o → Between rest
      → Comes (from idle (state st p)) (w ∷ rest) (reads o None rest)
  with_value x k st' (Some st'') el ek s a ih = comes_on _ w rest (from idle (state st'' None)) _
      (idle_kinds w n (Some x) (state st p) (Some k) ew el ek ∙ ap₂ (λ f g. or_else (or_else f (use_fault false (rule k) (x ∷ []) g.rows)) []) s.0 s.1 ∙ ap (λ f. or_else f []) a.0)
      (idle_step w n (Some x) (state st p) (Some k) ew el ek ∙ ap (λ g. from idle (held (used (rule k) (x ∷ []) g.rows) None)) s.1 ∙ ap (λ rs. from idle (held rs None)) a.1)
      (ih st'' None)
  with_value x k st' None el ek s a ih = comes_not _ _ _ _
      (λ e. a (or_else_left _ [] (sym (idle_kinds w n (Some x) (state st p) (Some k) ew el ek ∙ ap₂ (λ f g. or_else (or_else f (use_fault false (rule k) (x ∷ []) g.rows)) []) s.0 s.1) ∙ e)))
      (sym (reads_none rest None))

  is_known : (ov : Option Text) (k : Setting) (o : Option SoFar) → long_of w ≡ Some (n, ov) → setting_named n ≡ Some k
      → Settles (state st p) o → Between rest → Behind rest → Word o ov
  is_known (Some x) k None el ek s ih ih2 = comes_not _ _ _ _
      (λ e. s (or_else_left _ _ (or_else_left _ _ (sym (idle_kinds w n (Some x) (state st p) (Some k) ew el ek) ∙ e)))) (sym (reads_none rest None))
  is_known None k None el ek s ih ih2 = comes_not _ _ _ _
      (λ e. s (or_else_left _ _ (sym (idle_kinds w n None (state st p) (Some k) ew el ek) ∙ e))) (sym (reads_none rest (Some n)))
  is_known (Some x) k (Some st') el ek s ih ih2 = subst (λ ko. Comes (from idle (state st p)) (w ∷ rest) (reads (put_setting st' x ko) None rest)) (sym ek)
      (with_value x k st' (add st' k x) el ek s (adds st' k x) ih)
  is_known None k (Some st') el ek s ih ih2 = comes_on _ w rest (after st' k) _
      (idle_kinds w n None (state st p) (Some k) ew el ek ∙ ap (λ f. or_else f []) s.0)
      (idle_step w n None (state st p) (Some k) ew el ek ∙ ap (λ g. from (option (id_of k)) (record g { pending = Some (id_of k, []) })) s.1)
      (ih2 st' k n ek)

  by_setting : (ov : Option Text) (ko : Option Setting) → long_of w ≡ Some (n, ov) → setting_named n ≡ ko → Between rest
      → Behind rest → Word (now st p) ov
  by_setting ov None el ek ih ih2 = is_unknown ov (now st p) el ek
  by_setting ov (Some k) el ek ih ih2 = is_known ov k (now st p) el ek (settles st p) ih ih2

idle_word : (w : Text) (rest : List Text) (st : SoFar) (p : Option (Setting × Text)) → bytes_eq w dashes ≡ false
    → (lo : Option (Text × Option Text)) → long_of w ≡ lo → Between rest → Behind rest
    → Comes (from idle (state st p)) (w ∷ rest) (by_word (now st p) lo (λ x. reads x None rest) (λ n. reads (now st p) (Some n) rest))
idle_word w rest st p ew None el ih ih2 = comes_not _ _ _ _ (idle_none w (rows st) (pending p) ew el) refl
idle_word w rest st p ew (Some (n, ov)) el ih ih2 = by_setting w n rest st p ew ov (setting_named n) el refl ih ih2

-- where an option waits for its value
waits_for_value : (st : SoFar) (k : Setting)
    → settle_fault drill_rules false (held (rows st) (Some (id_of k, []))) ≡ InvalidValue ∷ []
waits_for_value st seed = refl
waits_for_value st size = refl

-- a long word in its place is refused
long_refused : (st : SoFar) (k : Setting) (ov : Option Text) (a : Option Setting)
    → long_fault drill_rules false (option_map rule a) ov (held (rows st) (Some (id_of k, []))) ≡ [] → ⊥
long_refused st k ov None e = full _ _ e
long_refused st k (Some x) (Some b) e = full _ _ (sym (waits_for_value st k) ∙ or_else_left _ _ e)
long_refused st k None (Some b) e = full _ _ (sym (waits_for_value st k) ∙ e)

after_long : (v n : Text) (ov : Option Text) (st : SoFar) (k : Setting) → bytes_eq v dashes ≡ false
    → long_of v ≡ Some (n, ov) → turn_fault drill_shape [] (after st k) v ≡ [] → ⊥
after_long v n ov st k ev el e =
    let h = held (rows st) (Some (id_of k, [])) in
    let met = or_else_left (long_fault drill_rules false (arg_by_long drill_rules n) ov h) _ (sym (ap₂ (fault_by drill_shape (option (id_of k)) v h) ev el) ∙ e) in
    long_refused st k ov (setting_named n) (ap (λ a. long_fault drill_rules false a ov h) (sym (arg_named n)) ∙ met)

abbrev met_short : Text → Text → Held → Option Text → Held × Step
met_short id v h sh = short_or_plain drill_rules (option id) v sh h

abbrev short_kinds : Held → Option Text → Kinds
short_kinds h sh = option_map_or (λ flags. bundle_fault drill_rules false flags h) sh []

-- no flag of a bundle is known
short_is : (r : List Row) (p : Option (Text × List Text)) (sh : Option Text)
    → short_kinds (held r p) sh ≡ bundle_kinds (short_refused sh)
short_is r p None = refl
short_is r p (Some flags) = bundle_refused drill_rules drill_has_no_short r p flags

-- the word is the value
plain_met : (v : Text) (st : SoFar) (k : Setting)
    → met_short (id_of k) v (held (rows st) (Some (id_of k, []))) None ≡ (state st (Some (k, v)), next idle)
plain_met v st seed = refl
plain_met v st size = refl

value_met : (v : Text) (st : SoFar) (k : Setting) (sh : Option Text)
    → met_short (id_of k) v (held (rows st) (Some (id_of k, []))) sh ≡ (state st (Some (k, v)), next idle)
value_met v st k None = plain_met v st k
value_met v st k (Some flags) = ⊎_elim (λ e. ap met e ∙ plain_met v st k) (λ e. ap met e ∙ plain_met v st k) (unmet drill_rules drill_has_no_short (rows st) (Some (id_of k, [])) flags)
  where
    met : Held × Outcome → Held × Step
    met b = after_flag drill_rules (option (id_of k)) v b.0 b.1

after_short : (v : Text) (rest : List Text) (st : SoFar) (k : Setting) (o : Option SoFar) (b : Bool)
    → bytes_eq v dashes ≡ false → long_of v ≡ None → short_refused (short_of v) ≡ b
    → Comes (from idle (state st (Some (k, v)))) rest o → Comes (after st k) (v ∷ rest) (cond b None o)
after_short v rest st k o b ev el es c =
    let h = held (rows st) (Some (id_of k, [])) in
    let turn : turn_fault drill_shape [] (after st k) v ≡ or_else (bundle_kinds b) [] = ap₂ (fault_by drill_shape (option (id_of k)) v h) ev el
    ∙ ap (λ m. or_else (short_kinds h (short_of v)) (step_fault drill_shape 1 m.0 m.1)) (value_met v st k (short_of v))
    ∙ ap (λ f. or_else f []) (short_is (rows st) (Some (id_of k, [])) (short_of v) ∙ ap bundle_kinds es) in
    let stepped : walked drill_rules [] (after st k) v ≡ from idle (state st (Some (k, v))) = step_option v (id_of k) h ∙ ap₂ (step_by drill_rules (option (id_of k)) v h) ev el
    ∙ ap (λ m. after_step drill_rules v (after st k) m.0 m.1) (value_met v st k (short_of v)) in
    go b turn stepped
  where
    go : (b : Bool) → turn_fault drill_shape [] (after st k) v ≡ or_else (bundle_kinds b) []
        → walked drill_rules [] (after st k) v ≡ from idle (state st (Some (k, v)))
        → Comes (after st k) (v ∷ rest) (cond b None o)
    go true t w = comes_not _ _ _ _ (λ e. full _ _ (sym t ∙ e)) refl
    go false t w = comes_on _ v rest _ o t w c

after_word : (v : Text) (rest : List Text) (st : SoFar) (k : Setting) (o : Option SoFar) (lo : Option (Text × Option Text))
    → bytes_eq v dashes ≡ false → long_of v ≡ lo → Comes (from idle (state st (Some (k, v)))) rest o
    → Comes (after st k) (v ∷ rest) (cond (is_some lo || short_refused (short_of v)) None o)
after_word v rest st k o None ev el c = after_short v rest st k o (short_refused (short_of v)) ev el refl c
after_word v rest st k o (Some p) ev el c = comes_not _ _ _ _ (after_long v p.0 p.1 st k ev el) refl

-- ---- all the words

pub neither : (a b : Bool) → (a || b) ≡ false → (a ≡ false) × (b ≡ false)
neither true b e = absurd (true≢false e)
neither false b e = (refl, e)

pub comes : (ws : List Text) → has_dashes ws ≡ false → Between ws × Behind ws
unfolding walk_fault
comes [] e = (λ st p. ended (now st p) (state st p) (settles st p), λ st k n ek h. full _ _ (sym (waits_for_value st k) ∙ h))
  where
    ended : (o : Option SoFar) (h : Held) → Settles h o → Comes (from idle h) [] o
    ended (Some st) h s = s
    ended None h s = s
comes (w ∷ rest) e =
    let split = neither (bytes_eq w dashes) _ e in
    let ih = comes rest split.1 in (
      λ st p. idle_word w rest st p split.0 (long_of w) refl ih.0 ih.1,
      λ st k n ek. after_word w rest st k _ (long_of w) split.0 refl (subst (λ ko. Comes (from idle (state st (Some (k, w)))) rest (reads (put_setting st w ko) None rest)) (sym ek) (ih.0 st (Some (k, w)))),
    )
