use Rattle.std.proofs.Common.{take, All}
use Rattle.asn_types.specs.declared.types.Component.{Component}
use Rattle.module_print.specs.Names.{HasOctets}
use Rattle.map_printable.proofs.fixed_octets.see_parts.Given as goal

abbrev pub invariant-parts : goal.invariant-parts
invariant-parts l = All (λ (part : Component). HasOctets part.standard) (take l.part-index l.parts)
