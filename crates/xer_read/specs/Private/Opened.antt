-- An element after its start tag was checked and before its content is read.
use Rattle.std.specs.Prelude.{◌≡◌, ◌<◌, ◌^◌, true, All}
use Rattle.base_trees.specs.Rose.{roses_of, count_all}
use Rattle.xml_read.specs.Sound.{are_sound}
use Rattle.schema_components.specs.Linked.{IsUse, IsLinked}
use Rattle.validity_check.specs.Told.{IsFittingInside}
use Rattle.xer_read.specs.declared.walk.Element.{Element}
use Rattle.xer_read.specs.Private.Contents.{AreTaken}

-- The set is linked. The content model and the attribute uses are its own, the attributes have the texts that the uses accept,
-- and the children are sound and few.
pub record IsOpened (e : Element) : Type 0 where
  pub linked : IsLinked e.set.now
  pub inside : IsFittingInside e.set.now e.declared.inside
  pub uses : All (IsUse e.set.now) e.declared.uses.list.now
  pub taken : AreTaken e.set.now e.attributes.now e.declared.uses.list.now
  pub sound : are_sound (roses_of e.parent.kids) ≡ true
  pub few : count_all (roses_of e.parent.kids) < 2 ^ 31
