use Rattle.std.proofs.Common.{take, map}
use Rattle.schema_components.specs.SetParts.{parts_of}
use Rattle.validity_rules.specs.Asked.{attribute_in}
use Rattle.validity_rules.specs.Attributes.{left}
use Rattle.xer_read.specs.Private.Contents.{AttributesMade}
use Rattle.xer_read.specs.Private.Putting.{PartsPut}
use Rattle.xer_read.proofs.attributes.put_few.Given as goal

abbrev pub invariant-loop-declared : goal.invariant-loop-declared
invariant-loop-declared l = PartsPut (AttributesMade (map (attribute_in (parts_of l.set)) (take l.declared-index l.uses)) (left l.attributes)) l.initial.values l.values
