use Rattle.std.proofs.Common.{◌≡◌, ℕ, ◌<◌, false, get_or}
use Rattle.schema_components.specs.declared.components.AttributeUse.{AttributeUse}
use Rattle.base_texts.specs.Names.{name_eq}
use Rattle.validity_check.proofs.places.place_among_few.Given as goal

abbrev pub invariant-uses : goal.invariant-uses
invariant-uses l = (k : ℕ) (d : AttributeUse) → k < l.i → name_eq (get_or l.uses k d).name l.name ≡ false
