use Rattle.cluster_file.proofs.OneSpelling.{one-from_pieces}
use Rattle.cluster_file.proofs.documents.read_document.Goals as goal

pub document_of-requires : goal.document_of-requires
document_of-requires c = one-from_pieces _ _ c.in_ok-draft.ensures
