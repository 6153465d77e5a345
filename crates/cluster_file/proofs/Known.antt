-- In a well-formed script, what an expression names was read by the operations before it.
use Rattle.std.proofs.Common.{◌≡◌, true, List, [], ◌∷◌, ◌++◌, sym, ap, ◌∙◌}
use Rattle.std.proofs.lemmas.List.{append-nil}
use Rattle.score_base.specs.declared.keys.Key.{Key}
use Rattle.script_lang.specs.declared.exprs.Expr.{Expr}
use Rattle.script_lang.specs.declared.scripts.Op.{Op}
use Rattle.script_lang.specs.declared.scripts.Op.TheVariants as op
use Rattle.script_lang.specs.Exprs.{is_expr_among}
use Rattle.script_lang.specs.Reads.{known_keys}
use Rattle.script_lang.specs.Scripts.{are_sound}
use Rattle.script_lang.proofs.Seen.{in_middle}
use Rattle.script_lang.proofs.Sound.{expr_same}
use Rattle.std.proofs.lemmas.Bool.{and_parts}

read_or_known : (known : List Key) (done : List Op) (k : Key) (e : Expr) (todo : List Op)
    → are_sound known (done ++ op.Write k e ∷ todo) ≡ true → is_expr_among (known_keys done ++ known) e ≡ true
read_or_known known [] k e todo sound = (and_parts (is_expr_among known e) (are_sound known todo) sound).0
read_or_known known (op.Read x ∷ done) k e todo sound =
    sym (expr_same (known_keys done ++ x ∷ known) (x ∷ known_keys done ++ known) e (in_middle (known_keys done) known x))
    ∙ read_or_known (x ∷ known) done k e todo sound
read_or_known known (op.Write x f ∷ done) k e todo sound = read_or_known known done k e todo (and_parts (is_expr_among known f) (are_sound known (done ++ op.Write k e ∷ todo)) sound).1

-- the expression of a write between other operations names only keys that those before it read
pub read_before : (done : List Op) (k : Key) (e : Expr) (todo : List Op)
    → are_sound [] (done ++ op.Write k e ∷ todo) ≡ true → is_expr_among (known_keys done) e ≡ true
read_before done k e todo sound = ap (λ ks. is_expr_among ks e) (sym (append-nil (known_keys done))) ∙ read_or_known [] done k e todo sound
