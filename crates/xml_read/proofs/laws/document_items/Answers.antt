use Rattle.xml_read.proofs.Known.{laws}
use Rattle.xml_read.proofs.Going as going
use Rattle.xml_read.proofs.laws.document_items.Goals as goal

pub returns : goal.returns
returns c = going.document_items laws
