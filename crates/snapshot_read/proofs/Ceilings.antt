-- The ceiling that a clock asks for is the model's, and its record fits where the read is above the floor.
use Rattle.std.proofs.Common.{◌≡◌, ℕ, ◌+◌, ◌*◌, ◌/◌, ◌%◌, ◌<◌, ◌≤◌, ◌^◌, true, List, ◌∷◌, refl, arith}
use Rattle.std.proofs.lemmas.Bool.Decides.{nat_tests}
use Rattle.std.proofs.lemmas.Bool.{and_from}
use Rattle.std.specs.Prelude.{◌==◌, nat_lt, max}
use Rattle.score_base.specs.declared.ids.NodeId.{NodeId}
use Rattle.score_base.specs.declared.ids.Ident.{Ident}
use Rattle.score_base.specs.declared.records.Record.{Record}
use Rattle.score_base.specs.declared.records.Record.TheVariants as record'
use Rattle.placement.specs.Clusters.{ClusterData}
use Rattle.node_clock.specs.Clock.{IsCeiling}
use Rattle.journal_words.specs.Journals.{floor, fits}
use Rattle.grid_model.specs.Rows.{ceiling_of}

pub above-ceiling : (sid : Ident) → sid ≤ ceiling_of sid
above-ceiling sid = omega arith

within-multiple : (sid k : ℕ) → sid ≤ 64 * k → 64 * ((sid + 63) / 64) ≤ 64 * k
within-multiple sid k h = omega arith

same-bounds : (a b : ℕ) → a ≤ b → b ≤ a → a ≡ b
same-bounds a b h g = omega arith

-- what `needs` of a clock answers
pub ceiling-is : (sid c : Ident) → IsCeiling 64 sid c → c ≡ ceiling_of sid
ceiling-is sid c h =
    let low : c ≤ ceiling_of sid = h.least (ceiling_of sid) ((sid + 63) / 64, refl) (above-ceiling sid) in
    let k = h.multiple.0 in
    let is : c ≡ 64 * k = h.multiple.1 in
    let up : sid ≤ 64 * k = omega (arith, is, h.above) in
    let high : ceiling_of sid ≤ 64 * k = within-multiple sid k up in
    same-bounds c (ceiling_of sid) low (omega (arith, is, high))

multiple : (k : ℕ) → (64 * k) % 64 ≡ 0
multiple k = omega arith

pub ceiling-fits : (c : ClusterData) (n : NodeId) (r : List Record) (sid : Ident) → floor r < sid
    → fits c n r (record'.Ceiling (ceiling_of sid)) ≡ true
ceiling-fits c n r sid h =
    let e : (64 * ((sid + 63) / 64)) % 64 ≡ 0 = multiple ((sid + 63) / 64) in
    let lt : floor r < 64 * ((sid + 63) / 64) = omega (arith, h, above-ceiling sid) in
    grind (arith, nat_tests, e, lt)

-- a ceiling that is kept promises its read
pub promised-read : (r : List Record) (sid : Ident) → sid ≤ floor (record'.Ceiling (ceiling_of sid) ∷ r)
promised-read r sid = omega (arith, above-ceiling sid)
