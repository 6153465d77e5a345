use Rattle.std.proofs.Common.{◌≡◌, get_or, arith}
use Rattle.score_fields.proofs.Places.{behind_tag, is_taken, not_taken, taken_is, if_none}
use Rattle.score_fields.proofs.fields.Layout.take.Goals as goal

pub returns-in_err-values-clause-again : goal.returns-in_err-values-clause-again
returns-in_err-values-clause-again g c = λ ms rest fit e. absurd (not_taken c.args.self.now.tag c.args.self.now.fields c.args.bytes.now (λ i. omega (arith, c.type_inv.bytes i)) c.in_err-values.ensures ms rest fit e)

pub returns-in_err-values-clause-none : goal.returns-in_err-values-clause-none
returns-in_err-values-clause-none g c = if_none _ _ (not_taken c.args.self.now.tag c.args.self.now.fields c.args.bytes.now (λ i. omega (arith, c.type_inv.bytes i)) c.in_err-values.ensures)

pub returns-clause-taken : goal.returns-clause-taken
returns-clause-taken g c =
    let tag : get_or c.args.bytes.now 0 0 ≡ c.args.self.now.tag = omega arith in
    is_taken c.args.self.now.tag c.args.self.now.fields c.args.bytes.now c.in_ok-values.values c.in_ok-values.used (λ i. omega (arith, c.type_inv.bytes i)) (behind_tag c.args.bytes.now c.args.self.now.tag (omega arith) tag) c.in_ok-values.ensures

pub returns-clause-again : goal.returns-clause-again
returns-clause-again g c = λ ms rest fit e. taken_is c.args.self.now.tag c.args.self.now.fields c.args.bytes.now c.in_ok-values.values c.in_ok-values.used (λ i. omega (arith, c.type_inv.bytes i)) c.in_ok-values.ensures ms rest fit e
