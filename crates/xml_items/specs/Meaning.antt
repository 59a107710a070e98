-- The trees that trees of entries represent: each entry is replaced by the item that it represents in a store.
use Rattle.std.specs.Prelude.{ℕ, ◌≡◌, ◌+◌, ◌<◌, ◌≤◌, List, [], ◌∷◌, length, map, slice_get, take, drop, Option, Some, None, IsUtf8, IfSome}
use Rattle.base_texts.specs.declared.texts.Name.{Name}
use Rattle.base_trees.specs.Rose.{Rose, node, Roses, none, more, roses_of, Allowed, AllowedAll}
use Rattle.base_flat_trees.specs.Zips.{Above, Zip}
use Rattle.xml_items.specs.declared.label.ItemLabel.{ItemLabel}
use Rattle.xml_items.specs.declared.label.ItemLabel.TheVariants as label
use Rattle.xml_items.specs.declared.entries.ItemEntry.{ItemEntry}
use Rattle.xml_items.specs.declared.entries.ItemEntry.TheVariants.{Element, Listed, Span, Text}
use Rattle.xml_items.specs.declared.store.Store.{Store}
use Rattle.xml_items.specs.declared.store.Lists.{Lists}
use Rattle.xml_items.specs.Growing.{Grows}
use Rattle.xml_items.specs.Building.{name_at}

-- ---- trees of other labels

abbrev mutual
  pub map_rose : {K L : Type 0} → (K → L) → Rose K → Rose L
  map_rose f (node l ts) = node (f l) (map_roses f ts)

  pub map_roses : {K L : Type 0} → (K → L) → Roses K → Roses L
  map_roses f none = none
  map_roses f (more t ts) = more (map_rose f t) (map_roses f ts)

abbrev pub map_above : {K L : Type 0} → (K → L) → Above K → Above L
map_above f a = record { label = f a.label; before = map (map_rose f) a.before }

abbrev pub map_zip : {K L : Type 0} → (K → L) → Zip K → Zip L
map_zip f z = record { above = map (map_above f) z.above; kids = map (map_rose f) z.kids }

-- ---- the store

abbrev pub text_in : Option (List ℕ) → List ℕ
text_in None = []
text_in (Some text) = text

-- The `len` bytes of the document at this place.
abbrev pub span_in : Option (List ℕ) → ℕ → ℕ → List ℕ
span_in None at len = []
span_in (Some document) at len = take len (drop at document)

-- an element that has these lists
abbrev pub listed_in : List Name → Option Lists → ℕ → ItemLabel
listed_in names None at = label.Element (name_at names 0) [] [] at
listed_in names (Some lists) at = label.Element (name_at names lists.name) lists.attributes.items lists.declares.items at

-- The item that an entry represents in a store.
abbrev pub meaning : Store → ItemEntry → ItemLabel
meaning s (Element name at) = label.Element (name_at s.names.items name) [] [] at
meaning s (Listed lists at) = listed_in s.names.items (slice_get s.lists.items lists) at
meaning s (Span len at) = label.Text (span_in s.document at len) at
meaning s (Text text at) = label.Text (text_in (slice_get s.texts.items text)) at

-- the lists have a name that is in the store
abbrev pub AreListed : List Name → List Lists → ℕ → Type 0
AreListed names all lists = (lists < length all) × IfSome (slice_get all lists) (λ those. those.name < length names)

-- The document has `len` bytes at this place, and they are UTF-8.
abbrev pub LiesIn : Option (List ℕ) → ℕ → ℕ → Type 0
LiesIn None at len = ⊥
LiesIn (Some document) at len = (at + len ≤ length document) × ∥ IsUtf8 (take len (drop at document)) ∥₁

-- The numbers of the entry are those of parts in the store.
abbrev pub Fits : Store → ItemEntry → Type 0
Fits s (Element name at) = name < length s.names.items
Fits s (Listed lists at) = AreListed s.names.items s.lists.items lists
Fits s (Span len at) = LiesIn s.document at len
Fits s (Text text at) = text < length s.texts.items

-- All entries of the tree fit the store.
abbrev pub FitTree : Store → Rose ItemEntry → Type 0
FitTree s t = Allowed (λ kept _. Fits s kept) t

abbrev pub FitAll : Store → List (Rose ItemEntry) → Type 0
FitAll s ts = AllowedAll (λ kept _. Fits s kept) (roses_of ts)

abbrev pub FitAbove : Store → List (Above ItemEntry) → Type 0
FitAbove s [] = Unit {0}
FitAbove s (a ∷ up) = Fits s a.label × (FitAll s a.before × FitAbove s up)

pub record FitZip (s : Store) (z : Zip ItemEntry) : Type 0 where
  pub above : FitAbove s z.above
  pub kids : FitAll s z.kids

-- The store may have more parts. Each part keeps its number.
pub record StoreGrows (old new : Store) : Type 0 where
  pub document : new.document ≡ old.document
  pub names : Grows old.names.items new.names.items
  pub lists : Grows old.lists.items new.lists.items
  pub texts : Grows old.texts.items new.texts.items
