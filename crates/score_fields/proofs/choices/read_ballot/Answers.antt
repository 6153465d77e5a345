use Rattle.score_fields.proofs.ChoiceCodecs.{codec_ballot, is_read, read_is}
use Rattle.score_fields.proofs.choices.read_ballot.Goals as goal

pub unreachable-requires : goal.unreachable-requires
unreachable-requires c = is_read codec_ballot c.args.bytes.now c.ballot.result c.requires c.ballot.ensures c.in-None.is

pub returns-clause-value : goal.returns-clause-value
returns-clause-value c = read_is codec_ballot c.args.bytes.now c.ballot.result c.in-Some.ballot c.requires c.ballot.ensures c.in-Some.is
