-- The text of a script, piece by piece: its first line, the lines of its operations, its last line.
use Rattle.std.proofs.Common.{◌≡◌, [], ◌∷◌, ◌++◌, ap, sym, ◌∙◌, map, codes}
use Rattle.std.specs.List.{flat_map}
use Rattle.std.proofs.lemmas.List.Folds.{flat_map-map}
use Rattle.std.proofs.lemmas.Grind.{flat_map-append}
use Rattle.script_lang.specs.Scripts.{ScriptData}
use Rattle.script_lang.specs.Spelling.{op_words, tx_words, script_words, script_text}
use Rattle.history_print.specs.Acts.{line}
use Rattle.document_print.proofs.SameLines.{same_text}

-- the lines of its words
lines_of : (s : ScriptData)
    → line (tx_words s) ++ (flat_map (λ o. line (op_words o)) s.ops ++ codes "end\n") ≡ flat_map line (script_words s)
lines_of s =
    ap (λ l. line (tx_words s) ++ l) (ap (λ l. l ++ codes "end\n") (sym (flat_map-map line op_words s.ops))
    ∙ sym (flat_map-append line (map op_words s.ops) ((codes "end" ∷ []) ∷ [])))

pub text_of : (s : ScriptData)
    → line (tx_words s) ++ (flat_map (λ o. line (op_words o)) s.ops ++ codes "end\n") ≡ script_text s
text_of s = lines_of s ∙ same_text (script_words s)
