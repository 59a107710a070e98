use Rattle.std.proofs.Common.{◌≡◌, drop}
use Rattle.xml_write.specs.Spaces.{attribute_spaces}
use Rattle.xml_write.specs.Private.Binding.{with_spaces}
use Rattle.xml_write.proofs.prefixes.Prefixes.bind_attributes.Given as goal

-- what is bound, with what is still to be bound
abbrev pub invariant-attributes : goal.invariant-attributes
invariant-attributes l =
    with_spaces l.self (attribute_spaces (drop l.name-index l.attributes)) ≡ with_spaces l.fn.self (attribute_spaces l.attributes)
