use Rattle.std.proofs.Common.{◌-◌, arith, rules}
use Rattle.xml_read.proofs.Utf8.{named_at}
use Rattle.xml_read.proofs.tags.declare.Goals as goal

pub from_utf8-requires : goal.from_utf8-requires
from_utf8-requires c = rw c.value_of.ensures (named_at c.args.attributes.now (c.last_first.at - 1) c.index-attributes-at.result c.requires (omega arith) (search rules)).1
