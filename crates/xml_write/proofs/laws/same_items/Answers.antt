use Rattle.xml_write.proofs.Document as document
use Rattle.xml_write.proofs.laws.same_items.Goals as goal

pub returns : goal.returns
returns c = document.read_back
