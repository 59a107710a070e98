-- The text of items that are added one after another. `late` records an attribute that is added too late; then nothing is stated
-- about the text.
use Rattle.std.specs.Prelude.{◌≡◌, ◌⊎◌, ℕ, List, [], ◌∷◌, ◌++◌, Bool, true, false, Option, Some, None, if◌then◌else◌}
use Rattle.std.specs.Borrow.{Bor}
use Rattle.std.specs.List.{flat_map}
use Rattle.std.specs.Global.{Vec}
use Rattle.base_texts.specs.declared.texts.Name.{Name}
use Rattle.base_trees.specs.Rose.{Rose, node, Roses, none, more, roses_of}
use Rattle.xml_items.specs.declared.label.ItemLabel.{ItemLabel}
use Rattle.xml_items.specs.declared.label.ItemLabel.TheVariants.{Element, Text}
use Rattle.xml_write.specs.Spaces.{attribute_spaces, all_spaces}
use Rattle.xml_write.specs.Written.{written_name, written_attribute, all_spelled, xml_declaration, written}
use Rattle.xml_write.specs.declared.builder.TextBuilder.{TextBuilder}
use Rattle.xml_write.specs.declared.builder.OpenTag.{OpenTag}
use Rattle.xml_write.specs.Private.Binding.{qualifier_text, with_space, with_spaces}

-- the namespace of a name, which may be absent
abbrev pub space_of : Option (Bor (List ℕ)) → List ℕ
space_of None = []
space_of (Some space) = space.now

-- The table may have more entries after those of the first one.
abbrev pub Extends : List (List ℕ × List ℕ) → List (List ℕ × List ℕ) → Type 0
Extends table whole = (entries : List (List ℕ × List ℕ)) × (whole ≡ table ++ entries)

-- The end of a start tag, unless it is written already.
abbrev pub end_of_tag : Bool → List ℕ
end_of_tag in_tag = if in_tag then 62 ∷ [] else []

-- The end of the start tag, which is written before the first item of the element.
abbrev pub before_items : Bool → List (Rose ItemLabel) → List ℕ
before_items in_tag [] = []
before_items in_tag (item ∷ items) = end_of_tag in_tag

abbrev pub is_still_in_tag : Bool → List (Rose ItemLabel) → Bool
is_still_in_tag in_tag [] = in_tag
is_still_in_tag in_tag (item ∷ items) = false

-- The content of an element that has only a text, which may be empty.
abbrev pub words_in : List ℕ → Roses ItemLabel
words_in [] = none
words_in (byte ∷ bytes) = more (node (Text (byte ∷ bytes) 0) none) none

-- Nothing was added.
pub record IsBegun (b : TextBuilder) : Type 0 where
  pub on_time : b.late ≡ false
  pub prefixes : b.prefixes ≡ []
  pub in_tag : b.in_tag ≡ false
  pub text : b.text.items ≡ xml_declaration

-- The start tag is ended, if it was not.
pub record EndsTag (old new : TextBuilder) : Type 0 where
  pub late : new.late ≡ old.late
  pub prefixes : new.prefixes ≡ old.prefixes
  pub in_tag : new.in_tag ≡ false
  pub text : new.text.items ≡ old.text.items ++ end_of_tag old.in_tag

-- The attributes of the innermost open element, and items in it. A namespace keeps the prefix that it has.
pub record Told (old new : TextBuilder) (attributes : List (Name × List ℕ)) (items : List (Rose ItemLabel)) : Type 0 where
  pub on_time : old.late ≡ false
  pub prefixes : new.prefixes ≡ with_spaces old.prefixes (attribute_spaces attributes ++ all_spaces (roses_of items))
  pub in_tag : new.in_tag ≡ is_still_in_tag old.in_tag items
  pub order : (attributes ≡ []) ⊎ (old.in_tag ≡ true)
  pub text : (table : List (List ℕ × List ℕ)) → Extends new.prefixes table
      → new.text.items ≡ old.text.items ++ (flat_map (written_attribute table) attributes ++ (before_items old.in_tag items ++ all_spelled table (roses_of items)))

abbrev pub Tells : TextBuilder → TextBuilder → List (Name × List ℕ) → List (Rose ItemLabel) → Type 0
Tells old new attributes items = new.late ≡ false → Told old new attributes items

-- An element of this name is open, and has no content yet.
pub record Begun (old new : TextBuilder) (name : Name) (tag : OpenTag) : Type 0 where
  pub on_time : old.late ≡ false
  pub prefixes : new.prefixes ≡ with_space old.prefixes name.space
  pub in_tag : new.in_tag ≡ true
  pub text : (table : List (List ℕ × List ℕ)) → Extends new.prefixes table → new.text.items ≡ old.text.items ++ (end_of_tag old.in_tag ++ 60 ∷ written_name table name)
  pub name_is : (table : List (List ℕ × List ℕ)) → Extends new.prefixes table → qualifier_text tag.qualifier ++ tag.local.now ≡ written_name table name

abbrev pub Begins : TextBuilder → TextBuilder → Name → OpenTag → Type 0
Begins old new name tag = new.late ≡ false → Begun old new name tag

-- the element is closed
pub record Closes (tag : OpenTag) (old new : TextBuilder) : Type 0 where
  pub late : new.late ≡ old.late
  pub prefixes : new.prefixes ≡ old.prefixes
  pub in_tag : new.in_tag ≡ false
  pub text : new.text.items ≡ old.text.items ++ (if old.in_tag then 47 ∷ 62 ∷ [] else 60 ∷ 47 ∷ (qualifier_text tag.qualifier ++ tag.local.now) ++ 62 ∷ [])

-- The text of the document after all of its root was added, unless an attribute came too late.
abbrev pub IsWhole : TextBuilder → Name → Option (Vec ℕ) → Type 0
IsWhole b name None = b.late ≡ true
IsWhole b name (Some out) = (begun : TextBuilder) (attributes : List (Name × List ℕ)) (items : Roses ItemLabel)
    → IsBegun begun → Tells begun b [] (node (Element name attributes [] 0) items ∷ []) → out.items ≡ written (node (Element name attributes [] 0) items)
