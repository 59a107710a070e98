use Rattle.xml_read.proofs.Utf8.{local_utf8}
use Rattle.xml_read.proofs.tags.element_name.Goals as goal

pub from_utf8-requires : goal.from_utf8-requires
from_utf8-requires c = rw c.local_of.ensures (local_utf8 c.args.written.now c.requires)
