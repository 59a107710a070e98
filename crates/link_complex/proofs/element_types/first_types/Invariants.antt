use Rattle.std.proofs.Common.{◌≡◌, ◌≤◌, length, drop}
use Rattle.base_texts.specs.declared.texts.Name.{Name}
use Rattle.link_complex.specs.ElementTypes.{type_named}
use Rattle.link_complex.specs.Private.Identities.{elements_of, type_in}
use Rattle.link_complex.proofs.element_types.first_types.Given as goal

-- the table has those from this place on
abbrev pub invariant-last_first : goal.invariant-last_first
invariant-last_first l = (l.i ≤ length l.elements) × ((a : Name) → type_in l.types a ≡ type_named (elements_of (drop l.i l.elements)) a)

abbrev pub decreases-last_first : goal.decreases-last_first
decreases-last_first l = l.i
