use Rattle.score_fields.proofs.ChoiceCodecs.{codec_outcome, is_read, read_is}
use Rattle.score_fields.proofs.choices.read_outcome.Goals as goal

pub unreachable-requires : goal.unreachable-requires
unreachable-requires c = is_read codec_outcome c.args.bytes.now c.outcome.result c.requires c.outcome.ensures c.in-None.is

pub returns-clause-value : goal.returns-clause-value
returns-clause-value c = read_is codec_outcome c.args.bytes.now c.outcome.result c.in-Some.outcome c.requires c.outcome.ensures c.in-Some.is
