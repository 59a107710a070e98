use Rattle.std.proofs.Common.{length, ◌-◌}
use Rattle.module_grammar.specs.NameReading.{quoted_byte_at, byte_of}
use Rattle.module_parse.proofs.Looping.{Formed}
use Rattle.module_parse.proofs.names.quoted_bytes.Given as goal

abbrev pub invariant-text : goal.invariant-text
invariant-text l = Formed quoted_byte_at byte_of l.bytes l.fn.from l.text.items l.next

abbrev pub decreases-text : goal.decreases-text
decreases-text l = length l.bytes - l.next.at
