use Rattle.std.proofs.Common.{length, ◌-◌}
use Rattle.module_grammar.specs.NameReading.{octet_at, octet_text}
use Rattle.module_parse.proofs.Looping.{Written}
use Rattle.module_parse.proofs.names.behind_octets.Given as goal

abbrev pub invariant-octets : goal.invariant-octets
invariant-octets l = Written octet_at octet_text l.bytes l.fn.from l.next

abbrev pub decreases-octets : goal.decreases-octets
decreases-octets l = length l.bytes - l.next.at
