-- What a line of a script that was read says, and what it makes of the script.
use Rattle.std.proofs.Common.{◌≡◌, ℕ, ◌<◌, ◌≤◌, ◌==◌, ◌&&◌, nat_le, Bool, true, false, List, [], ◌∷◌, ◌++◌, length, map, Result, IfOk, refl, sym, ap, subst, ◌∙◌, arith, codes}
use Rattle.std.specs.BTreeSet.{BTreeSet}
use Rattle.std.specs.Fmt.{decimal}
use Rattle.std.specs.Cmp.Lexicographic.{same_text}
use Rattle.std.proofs.lemmas.Bool.Decides.{nat_tests}
use Rattle.std.proofs.lemmas.List.{map-append}
use Rattle.score_base.specs.declared.keys.Key.{Key}
use Rattle.score_base.specs.declared.ids.TxId.{TxId}
use Rattle.script_lang.specs.declared.limits.TheConstants.{MAX_OPS, MAX_SESSION, MAX_TX}
use Rattle.script_lang.specs.declared.script_lines.Stage.{Stage}
use Rattle.script_lang.specs.declared.script_lines.Stage.TheVariants as stage
use Rattle.script_lang.specs.declared.scripts.Op.{Op}
use Rattle.script_lang.specs.declared.scripts.Op.TheVariants as op
use Rattle.script_lang.specs.declared.whys.Why.{Why}
use Rattle.script_lang.specs.Exprs.{is_expr_among}
use Rattle.script_lang.specs.Scripts.{ScriptData}
use Rattle.script_lang.specs.Reads as reads
use Rattle.script_lang.specs.Reading.{is_word, word_at, end_at}
use Rattle.script_lang.specs.Words.{node_of, key_of, tx_of}
use Rattle.script_lang.specs.Names.{is_taken, with_key, name_key, new_number}
use Rattle.script_lang.specs.ExprWords.{expr_of}
use Rattle.script_lang.specs.Spelling.{op_words, tx_words, script_words, is_plain_op}
use Rattle.script_lang.specs.ScriptLines.{session_of, first_line, read_line, write_line, end_line, body_line}
use Rattle.script_lang.proofs.Readings.{behind, either}
use Rattle.script_lang.proofs.WordsRead.{word_read, end_read, key_read, tx_read, node_read}
use Rattle.script_lang.proofs.SessionWords.{session_read}
use Rattle.script_lang.proofs.NamesRead.{name_read}
use Rattle.script_lang.proofs.StepsRead.{IsExprOf, expr_read}

-- the first line of a script without operations
pub record IsFirst (nodes : ℕ) (numbers : BTreeSet TxId) (line : List (List ℕ)) (s : ScriptData) : Type 0 where
  pub bare : s.ops ≡ []
  pub spelled : line ≡ tx_words s
  pub new : is_taken numbers s.number ≡ false
  pub tx : (nat_le 1 s.number && nat_le s.number MAX_TX) ≡ true
  pub node : (nat_le 1 s.home && nat_le s.home nodes) ≡ true
  pub session : nat_le s.session MAX_SESSION ≡ true

pub first_line_read : (nodes : ℕ) (numbers : BTreeSet TxId) (ws : List (List ℕ))
    → IfOk (first_line nodes numbers ws) (IsFirst nodes numbers (codes "tx" ∷ ws))
unfolding first_line
first_line_read nodes numbers ws =
    behind (word_at ws) _ (λ x. ws ≡ x.0 ∷ x.1) _ (word_read ws) (λ w a. behind (tx_of w.0) _ _ _ (tx_read w.0) (λ t b.
    behind (new_number numbers t) _ (λ _. is_taken numbers t ≡ false) _ (either (is_taken numbers t) _ _ _ (λ e. tt) (λ e. e)) (λ _ new.
    behind (word_at w.1) _ (λ x. w.1 ≡ x.0 ∷ x.1) _ (word_read w.1) (λ v c. behind (node_of nodes v.0) _ _ _ (node_read nodes v.0) (λ n d.
    behind (session_of v.1) _ _ _ (session_read v.1) (λ s e. record {
      bare = refl;
      spelled = ap (λ l. codes "tx" ∷ l) (a ∙ ap (λ x. x ∷ w.1) b.0
          ∙ ap (λ l. decimal t ∷ l) (c ∙ ap (λ x. x ∷ v.1) d.0 ∙ ap (λ l. (110 ∷ decimal n) ∷ l) e.0));
      new = new;
      tx = b.1;
      node = d.1;
      session = e.1;
    }))))))

-- the expression of a write is over the known keys
abbrev pub is_op_among : List Key → Op → Bool
is_op_among known (op.Read k) = true
is_op_among known (op.Write k e) = is_expr_among known e

-- one operation more
pub record IsMore (most : ℕ) (named : BTreeSet Key) (s : ScriptData) (line : List (List ℕ)) (t : ScriptData)
    (more : BTreeSet Key) : Type 0 where
  pub last : Op
  pub added : t ≡ record s { ops = s.ops ++ last ∷ [] }
  pub spelled : line ≡ op_words last
  pub room : length s.ops < MAX_OPS
  pub plain : is_plain_op last ≡ true
  pub among : is_op_among (reads.known_keys s.ops) last ≡ true
  pub names : more ≡ with_key named (reads.key_of last)
  pub few : length more.keys ≤ most

-- the end of a script
pub record IsEnd (named : BTreeSet Key) (s : ScriptData) (line : List (List ℕ)) (t : ScriptData) (more : BTreeSet Key) :
    Type 0 where
  pub same : t ≡ s
  pub spelled : line ≡ codes "end" ∷ []
  pub some : 1 ≤ length s.ops
  pub names : more ≡ named

-- what a line behind the first makes of a script
abbrev pub Follows : ℕ → BTreeSet Key → ScriptData → List (List ℕ) → Stage → BTreeSet Key → Type 0
Follows most named s line (stage.Open t) more = IsMore most named s line t more
Follows most named s line (stage.Done t) more = IsEnd named s line t more

read_line_read : (most : ℕ) (named : BTreeSet Key) (s : ScriptData) (ws : List (List ℕ))
    → IfOk (read_line most named s ws) (λ x. Follows most named s (codes "read" ∷ ws) x.0 x.1)
unfolding read_line
read_line_read most named s ws = either (nat_le MAX_OPS (length s.ops)) _ _ _ (λ e. tt) (λ room.
    behind (word_at ws) _ (λ x. ws ≡ x.0 ∷ x.1) _ (word_read ws) (λ w a. behind (key_of w.0) _ _ _ (key_read w.0) (λ k b.
    behind (name_key most named k) _ _ _ (name_read most named k) (λ more c. behind (end_at w.1) _ (λ _. w.1 ≡ []) _ (end_read w.1) (λ _ e. record {
      last = op.Read k;
      added = refl;
      spelled = ap (λ l. codes "read" ∷ l) (a ∙ ap (λ x. x ∷ w.1) b.0 ∙ ap (λ l. k ∷ l) e);
      room = grind (arith, nat_tests, room);
      plain = b.1;
      among = refl;
      names = c.0;
      few = c.1;
    })))))

write_line_read : (most : ℕ) (named : BTreeSet Key) (s : ScriptData) (ws : List (List ℕ))
    → IfOk (write_line most named s ws) (λ x. Follows most named s (codes "write" ∷ ws) x.0 x.1)
unfolding write_line
write_line_read most named s ws = either (nat_le MAX_OPS (length s.ops)) _ _ _ (λ e. tt) (λ room.
    behind (word_at ws) _ (λ x. ws ≡ x.0 ∷ x.1) _ (word_read ws) (λ w a. behind (key_of w.0) _ _ _ (key_read w.0) (λ k b.
    behind (name_key most named k) _ _ _ (name_read most named k) (λ more c.
    behind (expr_of (reads.known_keys s.ops) w.1) _ (IsExprOf (reads.known_keys s.ops) w.1) _ (expr_read (reads.known_keys s.ops) w.1) (λ x h. record {
      last = op.Write k x;
      added = refl;
      spelled = ap (λ l. codes "write" ∷ l) (a ∙ ap (λ y. y ∷ w.1) b.0 ∙ ap (λ l. k ∷ l) h.spelled);
      room = grind (arith, nat_tests, room);
      plain = rw (b.1, h.plain) refl;
      among = h.among;
      names = c.0;
      few = c.1;
    })))))

end_line_read : (most : ℕ) (named : BTreeSet Key) (s : ScriptData) (ws : List (List ℕ))
    → IfOk (end_line named s ws) (λ x. Follows most named s (codes "end" ∷ ws) x.0 x.1)
unfolding end_line
end_line_read most named s ws = either (length s.ops == 0) _ _ _ (λ e. tt) (λ some. behind (end_at ws) _ (λ _. ws ≡ []) _ (end_read ws) (λ _ e. record {
  same = refl;
  spelled = ap (λ l. codes "end" ∷ l) e;
  some = grind (arith, nat_tests, some);
  names = refl;
}))

pub body_read : (most : ℕ) (named : BTreeSet Key) (s : ScriptData) (w : List ℕ) (ws : List (List ℕ))
    → IfOk (body_line most named s w ws) (λ x. Follows most named s (w ∷ ws) x.0 x.1)
body_read most named s w ws =
    either (is_word w (codes "read")) _ _ _ (λ e. by (codes "read") e _ (read_line_read most named s ws)) (λ _.
    either (is_word w (codes "write")) _ _ _ (λ e. by (codes "write") e _ (write_line_read most named s ws)) (λ _.
    either (is_word w (codes "end")) _ _ _ (λ e. by (codes "end") e _ (end_line_read most named s ws)) (λ _. tt)))
  where
    by : (bytes : List ℕ) → is_word w bytes ≡ true → (m : Result (Stage × BTreeSet Key) Why)
        → IfOk m (λ x. Follows most named s (bytes ∷ ws) x.0 x.1) → IfOk m (λ x. Follows most named s (w ∷ ws) x.0 x.1)
    by bytes e m h = subst (λ (v : List ℕ). IfOk m (λ x. Follows most named s (v ∷ ws) x.0 x.1)) (sym (same_text w bytes (sym e))) h

-- The words of the lines that were read.

-- those of a script up to its last operation
abbrev pub body_words : ScriptData → List (List (List ℕ))
body_words s = tx_words s ∷ map op_words s.ops

abbrev pub stage_words : Stage → List (List (List ℕ))
stage_words (stage.Open s) = body_words s
stage_words (stage.Done s) = script_words s

-- a line adds its words
pub follows_words : (most : ℕ) (named : BTreeSet Key) (s : ScriptData) (line : List (List ℕ)) (x : Stage)
    (more : BTreeSet Key) → Follows most named s line x more → stage_words x ≡ body_words s ++ line ∷ []
follows_words most named s line (stage.Open t) more h =
    ap body_words h.added
    ∙ ap (λ l. tx_words s ∷ l) (map-append op_words s.ops (h.last ∷ []))
    ∙ ap (λ l. body_words s ++ l ∷ []) (sym h.spelled)
follows_words most named s line (stage.Done t) more h = ap script_words h.same ∙ ap (λ l. body_words s ++ l ∷ []) (sym h.spelled)
