use Rattle.std.proofs.Common.{arith}
use Rattle.xml_read.proofs.Utf8.{bound_utf8, named_at}
use Rattle.xml_read.proofs.tags.read_bindings.Goals as goal

pub from_utf8-requires : goal.from_utf8-requires
from_utf8-requires c = rw c.bound_prefix.ensures (bound_utf8 c.attribute-item.result.name.now (named_at c.each.rest.now 0 c.attribute-item.result c.each.invariant.named (omega (arith, c.in-len1-up.len_at_least)) c.attribute-item.is).0)

pub from_utf8-requires-in-len1-up : goal.from_utf8-requires-in-len1-up
from_utf8-requires-in-len1-up c = rw c.value_of.ensures (named_at c.each.rest.now 0 c.attribute-item.result c.each.invariant.named (omega (arith, c.in-len1-up.len_at_least)) c.attribute-item.is).1
