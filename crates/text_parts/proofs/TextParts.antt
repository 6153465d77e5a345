-- The text of a run is its parts, one behind the other.
use Rattle.std.proofs.Common.{◌≡◌, ℕ, List, [], ◌∷◌, ◌++◌, map, sym, ap, ◌∙◌, append_assoc}
use Rattle.std.specs.List.{flat_map}
use Rattle.std.proofs.lemmas.List.{append-nil}
use Rattle.std.proofs.lemmas.List.Concat.{flat_map-append}
use Rattle.grid_model.specs.declared.acts.Act.{Act}
use Rattle.grid_model.specs.Documents.{DocumentData}
use Rattle.grid_model.specs.Runs.{IsRun}
use Rattle.grid_model.specs.Cuts.{AreRowsOf}
use Rattle.text_parts.proofs.ForCode.{run-rows}
use Rattle.history_print.specs.Acts.{act_line}
use Rattle.history_print.specs.Text.{summary_text, text}
use Rattle.text_parts.specs.Parts.{act_lines, text_parts}

pub lines-append : (old new : List Act) → act_lines (old ++ new) ≡ act_lines old ++ act_lines new
lines-append old new = flat_map-append act_line old new

-- the lines of some rows, and what stands behind
rows-lines : (rows : List (List Act)) (last : List ℕ) →
    act_lines (flat_map (λ r. r) rows) ++ last ≡ flat_map (λ p. p) (map act_lines rows ++ last ∷ [])
rows-lines [] last = sym (append-nil last)
rows-lines (r ∷ rows) last =
    ap (λ z. z ++ last) (lines-append r (flat_map (λ x. x) rows))
    ∙ append_assoc (act_lines r) (act_lines (flat_map (λ x. x) rows)) last
    ∙ ap (λ z. act_lines r ++ z) (rows-lines rows last)

pub text-parts : (d : DocumentData) (rows : List (List Act)) →
    text (flat_map (λ r. r) rows) d ≡ flat_map (λ p. p) (text_parts d rows)
text-parts d rows = rows-lines rows (summary_text d (flat_map (λ r. r) rows))

pub run-parts : (d : DocumentData) (h : List Act) → IsRun d d.items h →
    (rows : List (List Act)) × AreRowsOf d h rows × (text h d ≡ flat_map (λ p. p) (text_parts d rows))
run-parts d h run =
    let rows = run-rows d h run in
    (rows.0, rows.1, ap (λ z. text z d) rows.1.joined ∙ text-parts d rows.0)
