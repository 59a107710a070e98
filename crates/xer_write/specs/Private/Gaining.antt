-- The content of an element, as the code keeps it.
use Rattle.std.specs.Prelude.{◌≡◌, ℕ, List, [], ◌∷◌, ◌++◌, Option, Some, None, drop, length, map, slice_get}
use Rattle.base_trees.specs.Rose.{Rose, node, Roses, none, roses_of, list_of, label_of}
use Rattle.base_texts.specs.declared.texts.Name.{Name}
use Rattle.simple_types.specs.declared.labels.ValueLabel.{ValueLabel}
use Rattle.simple_types.specs.Reading.{spelled_text}
use Rattle.xml_items.specs.declared.label.ItemLabel.{ItemLabel}
use Rattle.xml_items.specs.declared.label.ItemLabel.TheVariants.{Element}
use Rattle.xml_items.specs.Plain.{Plain}
use Rattle.xml_items.specs.Mixing.{text_before}
use Rattle.xer_items.specs.Items.{Given}
use Rattle.xer_write.specs.declared.receiver.Receiver.{Receiver}
use Rattle.xer_write.specs.Private.Receiving.{Tells, Opens, IsWritten}
use Rattle.xer_write.specs.declared.receiver.Open.TheVariants as open_element
use Rattle.xml_write.specs.declared.builder.OpenTag.{OpenTag}
use Rattle.xer_write.specs.declared.contents.Contents.{Contents}
use Rattle.xer_write.specs.declared.contents.Outer.{Outer}
use Rattle.xml_items.specs.Unplaced.{all_unplaced}
use Rattle.xer_write.specs.Private.Utf8.{AreUtf8, ItemIsUtf8, ItemsAreUtf8}

abbrev pub items_in : Roses Plain → List (Rose ItemLabel)
items_in items = list_of (all_unplaced items)

abbrev pub value_text : Rose ValueLabel → List ℕ
value_text v = spelled_text (label_of v)

-- The item of a text, unless it is empty.
abbrev pub text_item : List ℕ → List (Rose ItemLabel)
text_item words = items_in (text_before words none)

abbrev pub text_item_of : Option (List ℕ) → List (Rose ItemLabel)
text_item_of None = []
text_item_of (Some words) = text_item words

-- The item of the text with this number.
abbrev pub text_at : List (List ℕ) → ℕ → List (Rose ItemLabel)
text_at texts i = text_item_of (slice_get texts i)

-- The next text, which is empty if there is none.
abbrev pub first_text : List (List ℕ) → List ℕ
first_text [] = []
first_text (words ∷ texts) = words

-- Items, each after the text with its number.
abbrev pub with_texts_before : List (List ℕ) → List (Rose ItemLabel) → List (Rose ItemLabel)
with_texts_before texts [] = []
with_texts_before [] (item ∷ items) = item ∷ items
with_texts_before (words ∷ texts) (item ∷ items) = text_item words ++ item ∷ with_texts_before texts items

-- The items that result from items in nested mixed types. Each type writes one of its texts before each item, the innermost type
-- first. It is the last here.
abbrev pub through : List (List (List ℕ)) → List (Rose ItemLabel) → List (Rose ItemLabel)
through [] items = items
through (texts ∷ inner) items = with_texts_before texts (through inner items)

-- The texts that remain after these items.
abbrev pub left_behind : List (List (List ℕ)) → List (Rose ItemLabel) → List (List (List ℕ))
left_behind [] items = []
left_behind (texts ∷ inner) items = drop (length (through inner items)) texts ∷ left_behind inner items

-- ---- what the code has

abbrev pub levels : Contents → List (List (List ℕ))
levels c = map (λ texts. map value_text texts) c.texts.items

-- These attributes were added, and these items were appended with the texts that precede them.
pub record Puts (before after : List (List (List ℕ))) (old new : Receiver) (attributes : List (Name × List ℕ)) (items : List (Rose ItemLabel)) : Type 0 where
  pub texts : after ≡ left_behind before items
  pub told : Tells old new attributes (through before items)
  pub utf8 : ItemsAreUtf8 (roses_of (through before items))

-- What a value gives was appended, if these texts precede items.
pub record GainsIn (before : List (List (List ℕ))) (old new : Contents) (g : Given) : Type 0 where
  pub puts : Puts before (levels new) old.receiver new.receiver g.attributes (items_in g.kids)
  pub utf8 : AreUtf8 g.attributes

abbrev pub Gains : Contents → Contents → Given → Type 0
Gains old new g = GainsIn (levels old) old new g

-- Whatever item is added now, the texts that precede it are there.
abbrev pub MakesRoom : Contents → Contents → Type 0
MakesRoom old new = (after : Receiver) (item : Rose ItemLabel) → ItemIsUtf8 item → Tells new.receiver after [] (item ∷ []) → Puts (levels old) (levels new) old.receiver after [] (item ∷ [])

-- An element with this name, these attributes and these items was added.
abbrev pub TakesElement : Receiver → Receiver → Name → List (Name × List ℕ) → List (Rose ItemLabel) → Type 0
TakesElement old new name attributes items = Tells old new [] (node (Element name attributes [] 0) (roses_of items) ∷ [])

-- An element of this name is open and empty. When it is closed, it is an item after those that were there.
pub record Begins (old new : Contents) (name : Name) (outer : Outer) : Type 0 where
  pub texts : new.texts.items ≡ []
  pub outside : Receiver
  pub opens : Opens outside new.receiver name outer.tag
  pub puts : (after : Receiver) (item : Rose ItemLabel) → ItemIsUtf8 item → Tells outside after [] (item ∷ [])
      → Puts (levels old) (map (λ texts. map value_text texts) outer.texts.items) old.receiver after [] (item ∷ [])

-- Items are written, and no text precedes the next of them.
abbrev pub IsPlain : Contents → Type 0
IsPlain c = IsWritten c.receiver × (c.texts.items ≡ [])

-- An element that is written, while an element in it is open.
abbrev pub outer_of : Contents → OpenTag → Outer
outer_of c tag = record { tag = open_element.Text tag; texts = c.texts }
