use Rattle.score_fields.proofs.OneSpelling.{same_value, same_data}
use Rattle.score_fields.proofs.NodeCodec.{codec_nodes}
use Rattle.score_fields.proofs.ListCodecs.{codec_keys, codec_writes}
use Rattle.score_fields.proofs.ChoiceCodecs.{codec_outcome, codec_ballot, codec_date}
use Rattle.score_fields.proofs.laws.law_field_spelling.Goals as goal

pub returns-clause-layouts : goal.returns-clause-layouts
returns-clause-layouts c = same_data

pub returns-clause-nodes : goal.returns-clause-nodes
returns-clause-nodes c = same_value codec_nodes

pub returns-clause-keys : goal.returns-clause-keys
returns-clause-keys c = same_value codec_keys

pub returns-clause-writes : goal.returns-clause-writes
returns-clause-writes c = same_value codec_writes

pub returns-clause-outcomes : goal.returns-clause-outcomes
returns-clause-outcomes c = same_value codec_outcome

pub returns-clause-ballots : goal.returns-clause-ballots
returns-clause-ballots c = same_value codec_ballot

pub returns-clause-dates : goal.returns-clause-dates
returns-clause-dates c = same_value codec_date
