use Rattle.std.proofs.Common.{length}
use Rattle.module_grammar.specs.NameReading.{octet_at, octet_text, begun}
use Rattle.module_parse.proofs.Looping.{written_none, written_next, written_again, stays_again}
use Rattle.module_parse.proofs.names.behind_octets.Goals as goal

pub octets-init : goal.octets-init
octets-init c = written_none octet_at octet_text c.args.bytes.now c.args.from c.requires

pub octets-preserved : goal.octets-preserved
octets-preserved c = written_next c.octets.invariant c.in-Ok.ensures.value c.in-Ok.ensures.within

pub returns-in-Err-clause-value : goal.returns-in-Err-clause-value
returns-in-Err-clause-value c = written_again c.again.result c.octets.invariant c.in-Err.ensures.value c.again.ensures

pub returns-in-Err-clause-within : goal.returns-in-Err-clause-within
returns-in-Err-clause-within c = stays_again (length c.args.bytes.now) c.args.from c.octets.next c.in-Err.stop c.again.result c.again.ensures c.octets.invariant.going.begun c.octets.invariant.going.left
