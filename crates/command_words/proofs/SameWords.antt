-- `clap` takes exactly the words that the definition takes, and gives the values that it gives.
use Rattle.std.proofs.Common.{◌≡◌, ◌∙◌, ◌||◌, Bool, cond, codes, true, false, refl, sym, subst, ap, ap₂, List, [], ◌∷◌, ◌++◌, Option, Some, None, ⊎_elim, is_some, append-nil, append_assoc}
use Rattle.std.specs.List.{fold}
use Rattle.std.specs.Option.{option_and_then, option_map}
use Rattle.std.specs.Str.{bytes_eq}
use Rattle.clap.specs.Lexer.{long_of, short_of}
use Rattle.clap.specs.Walk.{Held, Names, Outcome, Row, Text, Walk, after_flag, after_step, finished, idle, nothing_held, settled, short_or_plain, subcommand_met, subcommand_or_other, walk, walk_from, walked, with_default}
use Rattle.clap.specs.Simple.{Shape, built, entered, rows_at, subcommand_of}
use Rattle.clap.specs.Kinds.{IsAmong, Kinds, or_else}
use Rattle.clap.specs.Faults.{check_fault, defaults_fault, entered_fault, fault_of, level_fault, other_fault, settle_fault, step_fault, stray_fault, turn_fault, walk_fault}
use Rattle.clap.specs.declared.error.kind.ErrorKind.{ErrorKind}
use Rattle.clap.specs.declared.error.kind.ErrorKind.TheVariants.{InvalidSubcommand, MissingRequiredArgument, UnknownArgument}
use Rattle.command_words.specs.Grammar.{command_at, command_line}
use Rattle.command_words.specs.Commands.{command_in, drill_of, pairs_of, run_of}
use Rattle.command_words.proofs.OptionSteps.{Comes, SoFar, comes, dashes, drill_rules, drill_shape, end_of, fault_by, from, full, kinds_from, neither, none, one, or_else_assoc, or_else_left, or_else_right, reads, rows, run_shape, seed, seed_size, size, size_seed, state, unmet}
use Rattle.command_words.specs.Commands.{has_dashes}
use Rattle.command_words.proofs.SamePairs.{drill_same, meant}

-- ---- behind `drill`

abbrev last_kinds : List Row → Kinds
last_kinds rs =
    or_else (defaults_fault rs drill_rules) (check_fault drill_shape (fold with_default rs drill_rules) false)

abbrev start : Walk
start = from idle (state none None)

level_is : (rest : List Text) → level_fault drill_shape [] nothing_held rest false []
    ≡ or_else (kinds_from start rest) (last_kinds (settled drill_rules (end_of start rest)).rows)
level_is rest = sym (or_else_assoc (walk_fault drill_shape [] start rest) (settle_fault drill_rules false (end_of start rest)) _)

abbrev drill_answer : Option SoFar → Option (Text × List Row)
drill_answer (Some (seed_size s z)) = Some (codes "drill", rows (seed_size s z))
drill_answer (Some (size_seed z s)) = Some (codes "drill", rows (size_seed z s))
drill_answer _ = None

abbrev Leaf : Shape → List Text → Option (Text × List Row) → Type 0
Leaf s rest (Some p) = (level_fault s [] nothing_held rest false [] ≡ []) × (rows_at s rest ≡ p)
Leaf s rest None = level_fault s [] nothing_held rest false [] ≡ [] → ⊥

-- without both options it is refused
lacking : (rest : List Text) (st : SoFar) → Comes start rest (Some st)
    → last_kinds (rows st) ≡ MissingRequiredArgument ∷ [] → Leaf drill_shape rest None
lacking rest st c l e = full _ _ (sym (ap₂ (λ k (h : Held). or_else k (last_kinds h.rows)) c.0 c.1 ∙ l) ∙ (sym (level_is rest) ∙ e))

having : (rest : List Text) (st : SoFar) → Comes start rest (Some st) → last_kinds (rows st) ≡ []
    → fold with_default (rows st) drill_rules ≡ rows st → Leaf drill_shape rest (Some (codes "drill", rows st))
having rest st c l d = (
  level_is rest ∙ ap₂ (λ k (h : Held). or_else k (last_kinds h.rows)) c.0 c.1 ∙ l,
  ap (λ (h : Held). (codes "drill", fold with_default h.rows drill_rules)) c.1 ∙ ap (λ rs. (codes "drill", rs)) d,
)

drill_ends : (rest : List Text) (o : Option SoFar) → Comes start rest o → Leaf drill_shape rest (drill_answer o)
unfolding defaults_fault
drill_ends rest None c = λ e. c (or_else_left _ _ (sym (level_is rest) ∙ e))
drill_ends rest (Some none) c = lacking rest none c refl
drill_ends rest (Some (one seed s)) c = lacking rest (one seed s) c refl
drill_ends rest (Some (one size z)) c = lacking rest (one size z) c refl
drill_ends rest (Some (seed_size s z)) c = having rest (seed_size s z) c refl refl
drill_ends rest (Some (size_seed z s)) c = having rest (size_seed z s) c refl refl

drill_leaf : (rest : List Text) → has_dashes rest ≡ false
    → Leaf drill_shape rest (drill_answer (reads (Some none) None rest))
drill_leaf rest e = drill_ends rest (reads (Some none) None rest) ((comes rest e).0 none None)

-- ---- where a command has no arguments

abbrev bare : Shape → Shape
bare s = record s { rules = [] }

stray_full : (s : Shape) (w : Text) (sh : Option Text)
    → step_fault (bare s) 1 (short_or_plain [] idle w sh nothing_held).0 (short_or_plain [] idle w sh nothing_held).1
    ≡ [] → ⊥
stray_full s w sh e = two s.is_leaf (sym (is sh) ∙ e)
  where
    two : (b : Bool) → cond b (UnknownArgument ∷ []) (UnknownArgument ∷ InvalidSubcommand ∷ []) ≡ [] → ⊥
    two true e = full _ _ e
    two false e = full _ _ e

    met : Held × Outcome → Kinds
    met b = step_fault (bare s) 1 (after_flag [] idle w b.0 b.1).0 (after_flag [] idle w b.0 b.1).1

    is : (sh : Option Text)
        → step_fault (bare s) 1 (short_or_plain [] idle w sh nothing_held).0 (short_or_plain [] idle w sh nothing_held).1
        ≡ stray_fault s
    is None = refl
    is (Some flags) = ⊎_elim (λ h. ap met h) (λ h. ap met h) (unmet [] (λ x. refl) [] None flags)

bare_word : (s : Shape) (w : Text) (lo : Option (Text × Option Text))
    → fault_by (bare s) idle w nothing_held false lo ≡ [] → ⊥
bare_word s w None e = stray_full s w (short_of w) (or_else_right _ _ e)
bare_word s w (Some p) e = full _ _ e

abbrev named_by : Shape → Text → Option Text → Kinds
named_by s w name = or_else (other_fault s name w nothing_held)
    (step_fault s 1 (subcommand_or_other s.rules name idle 1 w nothing_held).0 (subcommand_or_other s.rules name idle 1 w nothing_held).1)

bare_turn : (s : Shape) (names : Names) (w : Text) → bytes_eq w dashes ≡ false → subcommand_met names idle w ≡ None
    → turn_fault (bare s) names (walk_from nothing_held) w ≡ [] → ⊥
bare_turn s names w ew en e = bare_word s w (long_of w)
    (ap (λ b. fault_by (bare s) idle w nothing_held b (long_of w)) (sym ew) ∙ ap (named_by (bare s) w) (sym en) ∙ e)

abbrev run_answer : List Text → Option (Text × List Row)
run_answer [] = Some (codes "run", [])
run_answer (w ∷ rest) = None

run_leaf : (rest : List Text) → has_dashes rest ≡ false → Leaf run_shape rest (run_answer rest)
unfolding walk_fault defaults_fault
run_leaf [] e = (refl, refl)
run_leaf (w ∷ rest) e = λ h. bare_turn run_shape [] w (neither _ _ e).0 refl (or_else_left _ _ (or_else_left _ _ h))

-- ---- the first word

abbrev top : Shape
top = (built command_line).top

abbrev names : Names
names = (codes "run", []) ∷ (codes "drill", []) ∷ []

abbrev stopped_at : Text → List Text → Walk
stopped_at n xs = record (walk_from nothing_held) { stopped = Some (n, xs) }

stopped_walk : (ws : List Text) (n : Text) (xs : List Text)
    → fold (walked [] names) (stopped_at n xs) ws ≡ stopped_at n (xs ++ ws)
unfolding walked
stopped_walk [] n xs = ap (stopped_at n) (sym (append-nil xs))
stopped_walk (w ∷ ws) n xs = stopped_walk ws n (xs ++ w ∷ []) ∙ ap (stopped_at n) (append_assoc xs (w ∷ []) ws)

stopped_kinds : (ws : List Text) (n : Text) (xs : List Text) → walk_fault top names (stopped_at n xs) ws ≡ []
unfolding walked walk_fault
stopped_kinds [] n xs = refl
stopped_kinds (w ∷ ws) n xs = stopped_kinds ws n (xs ++ w ∷ [])

first_step : (w n : Text) → subcommand_met names idle w ≡ Some n
    → walked [] names (walk_from nothing_held) w ≡ stopped_at n []
unfolding walked
first_step w n e = ap (λ name. after_step [] w (walk_from nothing_held) (subcommand_or_other [] name idle 1 w nothing_held).0 (subcommand_or_other [] name idle 1 w nothing_held).1) e

whole_walk : (w n : Text) (rest : List Text) → subcommand_met names idle w ≡ Some n
    → walk [] names nothing_held (w ∷ rest) ≡ stopped_at n rest
whole_walk w n rest e = ap (λ v. fold (walked [] names) v rest) (first_step w n e) ∙ stopped_walk rest n []

abbrev top_kinds : Kinds → Walk → Kinds
top_kinds k v = or_else k (or_else (entered_fault (built command_line) v.stopped) (or_else (settle_fault [] false v.held)
    (or_else (defaults_fault (settled [] v.held).rows []) (check_fault top (finished [] v.held) (is_some (entered (built command_line) v.stopped))))))

whole_kinds : (w n : Text) (rest : List Text) → subcommand_met names idle w ≡ Some n
    → turn_fault top names (walk_from nothing_held) w ≡ []
    → fault_of command_line (w ∷ rest) ≡ top_kinds [] (stopped_at n rest)
unfolding walk_fault
whole_kinds w n rest e t = ap₂ top_kinds (ap₂ or_else t (ap (λ v. walk_fault top names v rest) (first_step w n e) ∙ stopped_kinds rest n [])) (whole_walk w n rest e)

or_else_nil : (a : Kinds) → or_else a [] ≡ a
or_else_nil [] = refl
or_else_nil (k ∷ ks) = refl

-- ---- all the words

abbrev Says : List Text → Option (Text × List Row) → Type 0
Says ws (Some p) = (fault_of command_line ws ≡ []) × (subcommand_of command_line ws ≡ Some p)
Says ws None = fault_of command_line ws ≡ [] → ⊥

run_turn : (w : Text) → subcommand_met names idle w ≡ Some (codes "run")
    → turn_fault top names (walk_from nothing_held) w ≡ []
run_turn w e = ap (named_by top w) e

drill_turn : (w : Text) → subcommand_met names idle w ≡ Some (codes "drill")
    → turn_fault top names (walk_from nothing_held) w ≡ []
drill_turn w e = ap (named_by top w) e

says_run : (w : Text) (rest : List Text) (o : Option (Text × List Row))
    → subcommand_met names idle w ≡ Some (codes "run") → Leaf run_shape rest o → Says (w ∷ rest) o
unfolding defaults_fault
says_run w rest (Some p) e l = (
  whole_kinds w (codes "run") rest e (run_turn w e) ∙ or_else_nil _ ∙ l.0,
  ap (λ (v : Walk). entered (built command_line) v.stopped) (whole_walk w (codes "run") rest e) ∙ ap Some l.1,
)
says_run w rest None e l = λ h. l (sym (whole_kinds w (codes "run") rest e (run_turn w e) ∙ or_else_nil _) ∙ h)

says_drill : (w : Text) (rest : List Text) (o : Option (Text × List Row))
    → subcommand_met names idle w ≡ Some (codes "drill") → Leaf drill_shape rest o → Says (w ∷ rest) o
unfolding defaults_fault
says_drill w rest (Some p) e l = (
  whole_kinds w (codes "drill") rest e (drill_turn w e) ∙ or_else_nil _ ∙ l.0,
  ap (λ (v : Walk). entered (built command_line) v.stopped) (whole_walk w (codes "drill") rest e) ∙ ap Some l.1,
)
says_drill w rest None e l = λ h. l (sym (whole_kinds w (codes "drill") rest e (drill_turn w e) ∙ or_else_nil _) ∙ h)

abbrev answer_by : Bool → Bool → List Text → Option (Text × List Row)
answer_by r d rest = cond r (run_answer rest) (cond d (drill_answer (reads (Some none) None rest)) None)

abbrev answer : List Text → Option (Text × List Row)
answer [] = None
answer (w ∷ rest) = answer_by (bytes_eq (codes "run") w) (bytes_eq (codes "drill") w) rest

abbrev name_by : Bool → Bool → Option Text
name_by r d = option_map (λ (s : Text × List Text). s.0)
    (cond (r || false) (Some (codes "run", [])) (cond (d || false) (Some (codes "drill", [])) None))

clap_says : (ws : List Text) → has_dashes ws ≡ false → Says ws (answer ws)
unfolding walk_fault defaults_fault
clap_says [] e = full _ _
clap_says (w ∷ rest) e = go (bytes_eq (codes "run") w) (bytes_eq (codes "drill") w) refl
  where
    go : (r d : Bool) → subcommand_met names idle w ≡ name_by r d → Says (w ∷ rest) (answer_by r d rest)
    go true d m = says_run w rest _ m (run_leaf rest (neither _ _ e).1)
    go false true m = says_drill w rest _ m (drill_leaf rest (neither _ _ e).1)
    go false false m = λ h. bare_turn top names w (neither _ _ e).0 m (or_else_left _ _ (or_else_left _ _ h))

-- ---- the same command

drill_command : (o : Option SoFar) → option_and_then command_at (drill_answer o) ≡ meant o
drill_command None = refl
drill_command (Some none) = refl
drill_command (Some (one k v)) = refl
drill_command (Some (seed_size s z)) = refl
drill_command (Some (size_seed z s)) = refl

same_command : (ws : List Text) → option_and_then command_at (answer ws) ≡ command_in ws
same_command [] = refl
same_command (w ∷ rest) = go (bytes_eq (codes "run") w) (bytes_eq (codes "drill") w) rest
  where
    go : (r d : Bool) (rest : List Text) → option_and_then command_at (answer_by r d rest)
        ≡ cond r (run_of rest) (cond d (option_and_then drill_of (pairs_of rest)) None)
    go true d [] = refl
    go true d (x ∷ xs) = refl
    go false true rest = drill_command (reads (Some none) None rest) ∙ drill_same rest
    go false false rest = refl

-- where `clap` refuses nothing, what it gives is what the words ask for
pub taken_command : (ws : List Text) → has_dashes ws ≡ false → fault_of command_line ws ≡ []
    → option_and_then command_at (subcommand_of command_line ws) ≡ command_in ws
taken_command ws e none_fails = go (answer ws) (clap_says ws e) (same_command ws)
  where
    go : (o : Option (Text × List Row)) → Says ws o → option_and_then command_at o ≡ command_in ws
        → option_and_then command_at (subcommand_of command_line ws) ≡ command_in ws
    go None s c = absurd (s none_fails)
    go (Some p) s c = ap (option_and_then command_at) s.1 ∙ c

-- what it refuses asks for nothing
pub refused_command : (ws : List Text) (k : ErrorKind) → has_dashes ws ≡ false → IsAmong k (fault_of command_line ws)
    → command_in ws ≡ None
refused_command ws k e fails = go (answer ws) (clap_says ws e) (same_command ws)
  where
    go : (o : Option (Text × List Row)) → Says ws o → option_and_then command_at o ≡ command_in ws
        → command_in ws ≡ None
    go None s c = sym c
    go (Some p) s c = absurd (subst (IsAmong k) s.0 fails)
