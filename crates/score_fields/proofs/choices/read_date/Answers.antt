use Rattle.score_fields.proofs.ChoiceCodecs.{codec_date, is_read, read_is}
use Rattle.score_fields.proofs.choices.read_date.Goals as goal

pub unreachable-requires : goal.unreachable-requires
unreachable-requires c = is_read codec_date c.args.bytes.now c.date.result c.requires c.date.ensures c.in-None.is

pub returns-clause-value : goal.returns-clause-value
returns-clause-value c = read_is codec_date c.args.bytes.now c.date.result c.in-Some.date c.requires c.date.ensures c.in-Some.is
