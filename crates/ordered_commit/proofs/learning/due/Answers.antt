use Rattle.std.proofs.Common.{◌∙◌, refl}
use Rattle.ordered_commit.proofs.Homes.{pending-home}
use Rattle.ordered_commit.proofs.learning.due.Goals as goal

pub unwrap-home-requires : goal.unwrap-home-requires
unwrap-home-requires c =
    rw (c.home.ensures ∙ (pending-home c.args.t c.args.store.now.journal c.requires.pending).1) refl
