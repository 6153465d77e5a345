-- A line of a document and a line of a history are made of words in the same way.
use Rattle.std.proofs.Common.{◌≡◌, ℕ, List, [], ◌∷◌, ◌++◌, refl, ap, ap₂, append-nil, map}
use Rattle.std.specs.List.{flat_map, join_with_byte}
use Rattle.history_print.specs.Acts.{joined, line}
use Rattle.cluster_file.specs.Spelling as file

-- words with single spaces between them
same_joined : (w : List ℕ) (ws : List (List ℕ)) → joined (w ∷ ws) ≡ join_with_byte 32 (w ∷ ws)
same_joined w [] = append-nil w
same_joined w (v ∷ ws) = ap (λ l. w ++ 32 ∷ l) (same_joined v ws)

-- a line
pub same_line : (ws : List (List ℕ)) → line ws ≡ file.line ws
same_line [] = refl
same_line (w ∷ ws) = ap (λ l. l ++ 10 ∷ []) (same_joined w ws)

-- lines, as a document's spelling has them
pub same_lines : (ls : List (List (List ℕ))) → flat_map line ls ≡ flat_map file.line ls
same_lines [] = refl
same_lines (ws ∷ ls) = ap₂ (λ l r. l ++ r) (same_line ws) (same_lines ls)

-- lines, as the text of a script has them
pub same_text : (ls : List (List (List ℕ)))
    → flat_map line ls ≡ flat_map (λ l. l ++ 10 ∷ []) (map (join_with_byte 32) ls)
same_text [] = refl
same_text (ws ∷ ls) = ap₂ (λ l r. l ++ r) (same_line ws) (same_text ls)
