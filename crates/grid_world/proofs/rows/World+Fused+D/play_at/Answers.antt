use Rattle.std.proofs.Common.{subst, ◌∙◌}
use Rattle.grid_world.specs.Worlds.{HasTold}
use Rattle.grid_world.proofs.rows.World+Fused+D.play_at.Goals as goal

pub returns : goal.returns
returns g c =
    record {
      mid = c.run.new.self;
      more = c.in_ok-more.more.items;
      played = c.in_ok-more.ensures;
      told = subst (λ xs. HasTold c.args.doc.now xs c.run.new.self c.tell.new.self) (c.as_slice.ensures.value ∙ c.in_ok-append.ensures.ok)
          c.in_ok-tell.ensures;
      are = c.in_ok-append.ensures.ok;
    }
