-- A part stands among the parts of the text of a run, and what stands before it are the parts before.
use Rattle.std.proofs.Common.{◌≡◌, ◌≤◌, ℕ, ◌+◌, suc, Bool, true, false, List, [], ◌∷◌, ◌++◌, length, map, take, drop, nat_le, refl, sym, ap, subst, ◌∙◌, arith, append_assoc}
use Rattle.std.specs.List.{flat_map}
use Rattle.std.proofs.lemmas.Bool.Decides.{nat_tests}
use Rattle.std.proofs.lemmas.List.{append-nil, map-append, length-append, length-drop, length-take-le, take_all, take-take, take-append-le}
use Rattle.std.proofs.lemmas.List.Concat.{flat_map-append}
use Rattle.grid_model.specs.declared.acts.Act.{Act}
use Rattle.grid_model.specs.declared.items.Item.{Item}
use Rattle.grid_model.specs.Documents.{DocumentData}
use Rattle.grid_model.specs.Runs.{IsRun}
use Rattle.grid_model.specs.Cuts.{events, cut, IsCutRun, AreRowsOf}
use Rattle.history_print.specs.Text.{summary_text, summary_by, keys_lines}
use Rattle.text_parts.specs.Parts.{act_lines, IsNextRow, IsPart, IsPlaced, start, event, summary}
use Rattle.text_parts.proofs.ForCode.{cut-events, run-rows}
use Rattle.text_parts.proofs.TextParts.{lines-append}
use Rattle.text_parts.proofs.RunParts.{run-next}

-- the lines of some rows, joined
rows-joined : (rows : List (List Act)) → act_lines (flat_map (λ r. r) rows) ≡ flat_map (λ p. p) (map act_lines rows)
rows-joined [] = refl
rows-joined (r ∷ rows) =
    lines-append r (flat_map (λ x. x) rows) ∙ ap (λ z. act_lines r ++ z) (rows-joined rows)

-- the summary of the cut document is that of the document
summary-cut : (d : DocumentData) (e : ℕ) (h : List Act) → summary_text (cut e d) h ≡ summary_text d h
unfolding summary_by keys_lines
summary-cut d e h = refl

-- ---- the start row

first-row : (d : DocumentData) (h : List Act) (rows : List (List Act)) → AreRowsOf (cut 0 d) h rows →
    (part : List ℕ) → part ≡ act_lines h → IsPlaced d 0 h [] part
first-row d h [] are part p = absurd (let bad : 0 ≡ 1 = are.count in cc)
first-row d h (r ∷ []) are part p =
    let last : List ℕ = summary_text (cut 0 d) (r ++ []) in
    let same : act_lines r ≡ part = sym (p ∙ ap act_lines (are.joined ∙ append-nil r)) in
    record {
      rows = r ∷ [];
      are = are;
      earlier = [];
      later = last ∷ [];
      parts = ap (λ z. z ∷ last ∷ []) same;
      joined = refl;
    }
first-row d h (r ∷ q ∷ rows) are part p = absurd (let bad : suc (suc (length rows)) ≡ 1 = are.count in cc)

placed-start : (d : DocumentData) (h : List Act) (part : List ℕ) → IsCutRun d 0 h → part ≡ act_lines h →
    IsPlaced d 0 h [] part
placed-start d h part run p =
    let r = run-rows (cut 0 d) h run in
    first-row d h r.0 r.1 part p

-- ---- the row of an event

-- an event that comes next is one of the events
room : (k : ℕ) (xs : List Item) (x : Item) (more : List Item) → drop k xs ≡ x ∷ more → k + 1 ≤ length xs
room k xs x more at =
    let n : length (drop k xs) ≡ suc (length more) = ap length at in
    omega (arith, length-drop k xs, n)

-- the first events of the document cut behind event k
first-events : (d : DocumentData) (k e : ℕ) → e ≤ k → take e (events (cut k d)) ≡ take e (events d)
first-events d k e h = ap (take e) (cut-events d k) ∙ take-take e k (events d) h

-- how many events the cut document has
count-cut : (d : DocumentData) (k : ℕ) → k ≤ length (events d) → length (events (cut k d)) ≡ k
count-cut d k h = ap length (cut-events d k) ∙ length-take-le k (events d) h

module _ (d : DocumentData) (k : ℕ) (old new : List Act) (rows : List (List Act))
    (are : AreRowsOf (cut k d) old rows) (run : IsCutRun d (k + 1) (old ++ new)) (fits : k + 1 ≤ length (events d)) where
  count-rows : length rows ≡ k + 1
  count-rows = are.count ∙ ap (λ n. n + 1) (count-cut d k (omega (arith, fits)))

  count-more : length (rows ++ new ∷ []) ≡ k + 1 + 1
  count-more = length-append rows (new ∷ []) ∙ ap (λ n. n + 1) count-rows

  joined-more : old ++ new ≡ flat_map (λ r. r) (rows ++ new ∷ [])
  joined-more =
      ap (λ z. z ++ new) are.joined ∙ ap (λ z. flat_map (λ r. r) rows ++ z) (sym (append-nil new))
      ∙ sym (flat_map-append (λ r. r) rows (new ∷ []))

  -- up to event k the rows are those before
  front-before : (e : ℕ) → e ≤ k → IsCutRun (cut (k + 1) d) e (flat_map (λ r. r) (take (e + 1) (rows ++ new ∷ [])))
  front-before e h =
      let same : take e (events (cut k d)) ≡ take e (events (cut (k + 1) d)) =
      first-events d k e h ∙ sym (first-events d (k + 1) e (omega (arith, h))) in
      let acts : List Act = flat_map (λ r. r) (take (e + 1) rows) in
      let front : IsCutRun (cut (k + 1) d) e acts =
      subst (λ is. IsRun (record d { items = is }) is acts) same (are.fronts e) in
      rw (take-append-le (e + 1) rows (new ∷ []) (omega (arith, h, count-rows))) front

  -- from the next event on they are all
  front-behind : (e : ℕ) → k + 1 ≤ e → IsCutRun (cut (k + 1) d) e (flat_map (λ r. r) (take (e + 1) (rows ++ new ∷ [])))
  front-behind e h =
      let all : take (k + 1) (events d) ≡ take e (events (cut (k + 1) d)) =
      sym (take_all e (events (cut (k + 1) d)) (omega (arith, h, count-cut d (k + 1) fits)) ∙ cut-events d (k + 1)) in
      let whole : IsCutRun (cut (k + 1) d) e (old ++ new) =
      subst (λ is. IsRun (record d { items = is }) is (old ++ new)) all run in
      rw (take_all (e + 1) (rows ++ new ∷ []) (omega (arith, h, count-more)), ← joined-more) whole

  front : (b : Bool) (e : ℕ) → nat_le e k ≡ b →
      IsCutRun (cut (k + 1) d) e (flat_map (λ r. r) (take (e + 1) (rows ++ new ∷ [])))
  front true e h = front-before e (grind (arith, nat_tests, h))
  front false e h = front-behind e (grind (arith, nat_tests, h))

  rows-more : AreRowsOf (cut (k + 1) d) (old ++ new) (rows ++ new ∷ [])
  rows-more = record {
    joined = joined-more;
    count = count-more ∙ ap (λ n. n + 1) (sym (count-cut d (k + 1) fits));
    fronts = λ e. front (nat_le e k) e refl;
  }

  placed-more : IsPlaced d (k + 1) (old ++ new) (act_lines old) (act_lines new)
  placed-more =
      let last : List ℕ = summary_text (cut (k + 1) d) (flat_map (λ r. r) (rows ++ new ∷ [])) in record {
        rows = rows ++ new ∷ [];
        are = rows-more;
        earlier = map act_lines rows;
        later = last ∷ [];
        parts = ap (λ z. z ++ last ∷ []) (map-append act_lines rows (new ∷ []))
            ∙ append_assoc (map act_lines rows) (act_lines new ∷ []) (last ∷ []);
        joined = ap act_lines are.joined ∙ rows-joined rows;
      }

placed-event : (d : DocumentData) (k : ℕ) (old new : List Act) → IsCutRun d k old → IsNextRow d k old new →
    IsPlaced d (k + 1) (old ++ new) (act_lines old) (act_lines new)
placed-event d k old new run next =
    let r = run-rows (cut k d) old run in
    placed-more d k old new r.0 r.1 (run-next d k old new run next) (room k (events d) next.event next.later next.next)

-- ---- the summary

placed-summary : (d : DocumentData) (e : ℕ) (h : List Act) → IsCutRun d e h →
    IsPlaced d e h (act_lines h) (summary_text d h)
placed-summary d e h run =
    let r = run-rows (cut e d) h run in
    let same : summary_text (cut e d) (flat_map (λ x. x) r.0) ≡ summary_text d h =
    ap (summary_text (cut e d)) (sym r.1.joined) ∙ summary-cut d e h in record {
      rows = r.0;
      are = r.1;
      earlier = map act_lines r.0;
      later = [];
      parts = ap (λ z. map act_lines r.0 ++ z ∷ []) same;
      joined = ap act_lines r.1.joined ∙ rows-joined r.0;
    }

-- ---- each part

pub part-placed : (d : DocumentData) (e : ℕ) (h : List Act) (before part : List ℕ) → IsPart d e h before part →
    IsPlaced d e h before part
part-placed d e h before part (start none run b p) =
    let first : IsPlaced d 0 h [] part = placed-start d h part (subst (λ n. IsCutRun d n h) none run) p in
    subst (λ n. IsPlaced d n h before part) (sym none) (subst (λ z. IsPlaced d 0 h z part) (sym b) first)
part-placed d e h before part (event k old new count joined run next b p) =
    rw (count, joined, b, p) (placed-event d k old new run next)
part-placed d e h before part (summary all run b p) = rw (b, p) (placed-summary d e h run)
