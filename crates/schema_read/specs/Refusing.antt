-- What an error states of a schema document.
use Rattle.base_trees.specs.Rose.{Rose}
use Rattle.xml_items.specs.declared.label.ItemLabel.{ItemLabel}
use Rattle.schema_faults.specs.Shown as rules
use Rattle.schema_read.specs.declared.error.SchemaError.{SchemaError}
use Rattle.schema_read.specs.declared.error.SchemaError.TheVariants.{Shown, Memory}

-- It gives the place and the reason of the first fault.
abbrev pub Refuses : Rose ItemLabel → SchemaError → Type 0
Refuses root (Shown at why) = rules.Shown root at why
Refuses root Memory = Unit {0}
