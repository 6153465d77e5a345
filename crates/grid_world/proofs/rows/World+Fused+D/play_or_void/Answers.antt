use Rattle.std.proofs.Common.{length, nat_lt, refl, sym, ap, subst, ◌∙◌}
use Rattle.grid_model.specs.Voids.{voided}
use Rattle.grid_hosts.specs.Hosts.{HasRun}
use Rattle.grid_world.specs.Worlds.{HasPlayed, HasTold, OrVoid}
use Rattle.grid_world.proofs.Results.{told-ok}
use Rattle.grid_world.specs.Worlds.{gave, void as voids}
use Rattle.grid_world.proofs.Results.{any-none, any-some}
use Rattle.grid_world.proofs.rows.World+Fused+D.play_or_void.Goals as goal

pub returns-then-not-has_any : goal.returns-then-not-has_any
returns-then-not-has_any g c =
    let none = any-none c.in_ok-acts.acts.items (ap (λ xs. nat_lt 0 (length xs)) (sym c.as_slice.ensures.value) ∙ sym c.has_any.ensures ∙ c.if-not-has_any.true) in
    told-ok c.voided.result (λ v. v.items) (OrVoid c.args.doc.now c.args.why c.args.n c.args.event c.args.self.now c.voided.new.self) (voided c.args.why)
    c.voided.ensures.told c.voided.ensures.acts
    (λ told. voids c.run.new.self
    (subst (HasPlayed c.args.n (λ x y r. HasRun x c.args.event y r) c.args.self.now c.run.new.self) none c.in_ok-acts.ensures)
    told refl)

pub returns : goal.returns
returns g c =
    gave c.run.new.self c.in_ok-acts.ensures
    (any-some c.in_ok-acts.acts.items (ap (λ xs. nat_lt 0 (length xs)) (sym c.as_slice.ensures.value) ∙ sym c.has_any.ensures ∙ c.if-not-has_any.false))
    (subst (λ xs. HasTold c.args.doc.now xs c.run.new.self c.tell.new.self) c.as_slice-2.ensures.value c.in_ok-tell.ensures)
