use Rattle.std.proofs.Common.{◌≡◌, ◌++◌, drop}
use Rattle.std.specs.List.{flat_map}
use Rattle.xml_write.specs.Written.{written_attribute}
use Rattle.xml_write.proofs.writing.write_attributes.Given as goal

-- what is written, with what is still to be written
abbrev pub invariant-attributes : goal.invariant-attributes
invariant-attributes l =
    l.out.items ++ flat_map (written_attribute l.prefixes) (drop l.entry-index l.attributes)
    ≡ l.fn.out.items ++ flat_map (written_attribute l.prefixes) l.attributes
