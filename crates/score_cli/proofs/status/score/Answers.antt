use Rattle.score_cli.proofs.Complete.{complete}
use Rattle.score_cli.proofs.status.score.Goals as goal

pub returns-clause-complete : goal.returns-clause-complete
returns-clause-complete g c = complete _ _ _ _ _ _ _ _ _ _ _ _ _ c.respond.ensures.code (c.respond.ensures.usage).0 c.respond.ensures.done c.respond.ensures.refused c.respond.ensures.read_fault c.respond.ensures.write_fault
