-- The lines of a script are read as what they spell.
use Rattle.std.proofs.Common.{◌≡◌, ℕ, ◌<◌, ◌≤◌, ◌^◌, ◌==◌, ◌&&◌, nat_le, true, false, [], ◌∷◌, ◌++◌, length, Ok, refl, arith, codes}
use Rattle.std.specs.BTreeSet.{BTreeSet, insert_key}
use Rattle.std.specs.Cmp.Lexicographic.{slice_cmp}
use Rattle.std.specs.Ordering.{nat_cmp}
use Rattle.std.specs.Fmt.{decimal}
use Rattle.std.proofs.lemmas.Bool.{ne_eqb}
use Rattle.std.proofs.lemmas.Bool.Decides.{nat_tests}
use Rattle.score_base.specs.declared.keys.Key.{Key}
use Rattle.score_base.specs.declared.ids.NodeId.{NodeId}
use Rattle.score_base.specs.declared.ids.TxId.{TxId}
use Rattle.score_base.specs.Keys.{is_key}
use Rattle.script_lang.specs.declared.limits.TheConstants.{MAX_OPS, MAX_SESSION, MAX_TX}
use Rattle.script_lang.specs.declared.script_lines.Stage.TheVariants as stage
use Rattle.script_lang.specs.declared.scripts.Op.TheVariants as op
use Rattle.script_lang.specs.Scripts.{ScriptData}
use Rattle.script_lang.specs.Reads.{known_keys}
use Rattle.script_lang.specs.Exprs.{is_expr_among}
use Rattle.script_lang.specs.declared.exprs.Expr.{Expr}
use Rattle.script_lang.specs.Words.{node_of, key_of, tx_of}
use Rattle.script_lang.specs.Names.{is_taken, with_key, name_key, new_number}
use Rattle.script_lang.specs.ExprWords.{expr_of}
use Rattle.script_lang.specs.Spelling.{expr_words, session_words, is_plain_expr}
use Rattle.script_lang.specs.ScriptLines.{session_of, first_line, read_line, write_line, end_line, body_line}
use Rattle.script_lang.proofs.WordsAgain.{goes, passes, node_of_again, key_again, tx_again}
use Rattle.script_lang.proofs.SessionWords.{session_again}
use Rattle.script_lang.proofs.NamesRead.{name_again}
use Rattle.script_lang.proofs.StepsRead.{expr_again}

pub first_line_again : (nodes : ℕ) (numbers : BTreeSet TxId) (t : TxId) (n : NodeId) (s : ℕ)
    → is_taken numbers t ≡ false → (nat_le 1 t && nat_le t MAX_TX) ≡ true
    → nat_le 1 n ≡ true → nat_le n nodes ≡ true → n < 2 ^ 64 → nat_le s MAX_SESSION ≡ true
    → first_line nodes numbers (decimal t ∷ (110 ∷ decimal n) ∷ session_words s)
    ≡ Ok (record { number = t; home = n; session = s; ops = [] })
unfolding first_line
first_line_again nodes numbers t n s new is least most low few =
    goes (tx_of (decimal t)) _ t _ (tx_again t is)
    (goes (new_number numbers t) _ tt _ (rw new refl)
    (goes (node_of nodes (110 ∷ decimal n)) _ n _ (node_of_again nodes n least most low)
    (goes (session_of (session_words s)) _ s _ (session_again s few) refl)))

-- a line of an operation, with room for it and its key
pub read_again : (most : ℕ) (named : BTreeSet Key) (s : ScriptData) (k : Key) → length s.ops < MAX_OPS
    → length (insert_key (slice_cmp nat_cmp) named.keys k) ≤ most → is_key k ≡ true
    → body_line most named s (codes "read") (k ∷ [])
    ≡ Ok (stage.Open (record s { ops = s.ops ++ op.Read k ∷ [] }), with_key named k)
unfolding read_line
read_again most named s k room few is =
    let less : nat_le MAX_OPS (length s.ops) ≡ false = grind (arith, nat_tests, room) in
    passes (nat_le MAX_OPS (length s.ops)) _ _ _ less
    (goes (key_of k) _ k _ (key_again k is)
    (goes (name_key most named k) _ (with_key named k) _ (name_again most named k few) refl))

pub write_again : (most : ℕ) (named : BTreeSet Key) (s : ScriptData) (k : Key) (x : Expr) → length s.ops < MAX_OPS
    → length (insert_key (slice_cmp nat_cmp) named.keys k) ≤ most → is_key k ≡ true → is_plain_expr x ≡ true
    → is_expr_among (known_keys s.ops) x ≡ true
    → body_line most named s (codes "write") (k ∷ expr_words x)
    ≡ Ok (stage.Open (record s { ops = s.ops ++ op.Write k x ∷ [] }), with_key named k)
unfolding write_line
write_again most named s k x room few is plain among =
    let less : nat_le MAX_OPS (length s.ops) ≡ false = grind (arith, nat_tests, room) in
    passes (nat_le MAX_OPS (length s.ops)) _ _ _ less
    (goes (key_of k) _ k _ (key_again k is)
    (goes (name_key most named k) _ (with_key named k) _ (name_again most named k few)
    (goes (expr_of (known_keys s.ops) (expr_words x)) _ x _ (expr_again (known_keys s.ops) x among plain) refl)))

pub end_again : (most : ℕ) (named : BTreeSet Key) (s : ScriptData) → 1 ≤ length s.ops
    → body_line most named s (codes "end") [] ≡ Ok (stage.Done s, named)
unfolding end_line
end_again most named s some = passes (length s.ops == 0) _ _ _ (ne_eqb (length s.ops) 0 (λ e. omega (arith, e, some))) refl
