-- Attribute uses in the order of their names.
use Rattle.std.specs.Prelude.{List, map}
use Rattle.std.specs.List.Sorted.{IsStrictlySortedBy}
use Rattle.base_texts.specs.Names.{name_cmp}
use Rattle.schema_components.specs.declared.components.AttributeUse.{AttributeUse}

abbrev pub Ascend : List AttributeUse → Type 0
Ascend us = IsStrictlySortedBy name_cmp (map (λ (u : AttributeUse). u.name) us)
