use Rattle.std.proofs.Common.{◌≡◌, ◌≤◌, length, drop}
use Rattle.base_texts.specs.declared.texts.Name.{Name}
use Rattle.link_set.specs.Private.Told.{attribute_in}
use Rattle.link_set.specs.Sets.{named_attribute}
use Rattle.link_set.proofs.elements.AttributeNames.of.Given as goal

-- the table has those from this number on
abbrev pub invariant-last_first : goal.invariant-last_first
invariant-last_first l = (l.i ≤ length l.attributes) × ((a : Name) → attribute_in l.named a ≡ named_attribute (drop l.i l.attributes) a)

abbrev pub decreases-last_first : goal.decreases-last_first
decreases-last_first l = l.i
