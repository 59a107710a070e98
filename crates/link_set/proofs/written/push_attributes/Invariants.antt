use Rattle.std.proofs.Common.{◌≡◌, ◌++◌, map, take}
use Rattle.schema_components.specs.Seen.{attribute_of}
use Rattle.link_set.specs.Written.{written_attribute}
use Rattle.link_set.specs.Private.Seen.{attributes_of}
use Rattle.link_set.proofs.written.push_attributes.Given as goal

-- those before this one were put behind
abbrev pub invariant-attributes : goal.invariant-attributes
invariant-attributes l =
    attributes_of l.out.items ≡ attributes_of l.fn.out.items ++ map (written_attribute l.file) (map attribute_of (take l.attribute-index l.attribute-items))
