-- What is added to a receiver.
use Rattle.std.specs.Prelude.{◌≡◌, ◌<◌, ℕ, List, [], ◌++◌, Option, None, length}
use Rattle.std.specs.Global.{Vec}
use Rattle.base_texts.specs.declared.texts.Name.{Name}
use Rattle.base_trees.specs.Rose.{Rose}
use Rattle.base_flat_trees.specs.Zips.{added_all, opened, closed}
use Rattle.base_flat_trees.specs.Zips.{nothing as outside}
use Rattle.xml_items.specs.declared.label.ItemLabel.{ItemLabel}
use Rattle.xml_items.specs.declared.label.ItemLabel.TheVariants.{Element}
use Rattle.xml_items.specs.Building.{listed}
use Rattle.xml_write.specs.Telling as told
use Rattle.xer_write.specs.declared.receiver.NameRef.{NameRef}
use Rattle.xer_write.specs.declared.receiver.Built.{Built}
use Rattle.xer_write.specs.declared.receiver.Receiver.{Receiver}
use Rattle.xer_write.specs.declared.receiver.Receiver.TheVariants as receiver
use Rattle.xer_write.specs.declared.receiver.Open.{Open}
use Rattle.xer_write.specs.declared.receiver.Open.TheVariants as open_element

abbrev pub name_seen : NameRef → Name
name_seen name = record { space = told.space_of name.space; local = name.local.now }

-- Nothing was added.
abbrev pub IsBegun : Receiver → Type 0
IsBegun (receiver.Items built) = (built.builder.zip ≡ outside) × (built.attributes.items ≡ [])
IsBegun (receiver.Text text) = told.IsBegun text

-- The items are built.
abbrev pub IsBuilder : Receiver → Type 0
IsBuilder (receiver.Items built) = Unit {0}
IsBuilder (receiver.Text text) = ⊥

-- The items are written.
abbrev pub IsWritten : Receiver → Type 0
IsWritten (receiver.Items built) = ⊥
IsWritten (receiver.Text text) = Unit {0}

-- One item was built, and no element is open.
abbrev pub IsTree : Receiver → Type 0
IsTree (receiver.Items built) = (built.builder.zip.above ≡ []) × (length built.builder.zip.kids ≡ 1)
IsTree (receiver.Text text) = ⊥

abbrev pub items_built : Receiver → List (Rose ItemLabel)
items_built (receiver.Items built) = built.builder.zip.kids
items_built (receiver.Text text) = []

abbrev pub IsWholeOf : Receiver → Name → Option (Vec ℕ) → Type 0
IsWholeOf (receiver.Items built) name whole = whole ≡ None
IsWholeOf (receiver.Text text) name whole = told.IsWhole text name whole

-- These attributes were added to the innermost open element, and these items to its content.
abbrev pub Tells : Receiver → Receiver → List (Name × List ℕ) → List (Rose ItemLabel) → Type 0
Tells (receiver.Items old) (receiver.Items new) attributes items =
    (new.attributes.items ≡ old.attributes.items ++ attributes) × (new.builder.zip ≡ added_all items old.builder.zip)
Tells (receiver.Text old) (receiver.Text new) attributes items = told.Tells old new attributes items
Tells (receiver.Items old) (receiver.Text new) attributes items = ⊥
Tells (receiver.Text old) (receiver.Items new) attributes items = ⊥

pub record BuiltOpens (old new : Built) (name : Name) (outer : Vec (Name × List ℕ)) : Type 0 where
  pub builder : new.builder.zip ≡ opened (Element name [] [] 0) old.builder.zip
  pub attributes : new.attributes.items ≡ []
  pub outer_attributes : outer.items ≡ old.attributes.items

-- An element of this name is open and empty.
abbrev pub Opens : Receiver → Receiver → Name → Open → Type 0
Opens (receiver.Items old) (receiver.Items new) name (open_element.Items outer) = BuiltOpens old new name outer
Opens (receiver.Items old) (receiver.Items new) name (open_element.Text tag) = ⊥
Opens (receiver.Items old) (receiver.Text new) name tag = ⊥
Opens (receiver.Text old) (receiver.Items new) name tag = ⊥
Opens (receiver.Text old) (receiver.Text new) name (open_element.Items outer) = ⊥
Opens (receiver.Text old) (receiver.Text new) name (open_element.Text tag) = told.Begins old new name tag

abbrev pub IsOpen : Receiver → Open → Type 0
IsOpen (receiver.Items built) (open_element.Items outer) = 0 < length built.builder.zip.above
IsOpen (receiver.Items built) (open_element.Text tag) = ⊥
IsOpen (receiver.Text text) (open_element.Items outer) = ⊥
IsOpen (receiver.Text text) (open_element.Text tag) = Unit {0}

-- The element is closed, with the attributes that were added to it.
abbrev pub Closes : Open → Receiver → Receiver → Type 0
Closes (open_element.Items outer) (receiver.Items old) (receiver.Items new) =
    (new.attributes.items ≡ outer.items) × (new.builder.zip ≡ closed (listed old.attributes.items [] old.builder.zip))
Closes (open_element.Items outer) (receiver.Items old) (receiver.Text new) = ⊥
Closes (open_element.Items outer) (receiver.Text old) new = ⊥
Closes (open_element.Text tag) (receiver.Items old) new = ⊥
Closes (open_element.Text tag) (receiver.Text old) (receiver.Items new) = ⊥
Closes (open_element.Text tag) (receiver.Text old) (receiver.Text new) = told.Closes tag old new
