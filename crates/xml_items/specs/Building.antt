-- Items under construction, as one value.
use Rattle.std.specs.Prelude.{ℕ, ◌≡◌, ◌<◌, List, [], ◌∷◌, length, slice_get, Option, Some, None, refl}
use Rattle.std.specs.Coded.{Coded, code_by, coded×, coded_list}
use Rattle.base_texts.specs.declared.texts.Name.{Name}
use Rattle.base_texts.specs.contracts.texts.Name as a_name
use Rattle.base_flat_trees.specs.Zips.{Above, Zip, coded_zip}
use Rattle.xml_items.specs.declared.label.ItemLabel.{ItemLabel}
use Rattle.xml_items.specs.declared.label.ItemLabel.TheVariants.{Element, Text}
use Rattle.xml_items.specs.contracts.label.ItemLabel as item_label

-- The open elements and the items so far, and all names of elements added so far.
pub record Building : Type 0 where
  pub zip : Zip ItemLabel
  pub names : List Name

abbrev pub coded_building : Coded Building
coded_building =
    code_by (Zip ItemLabel × List Name) (coded× (coded_zip item_label.the_row.coded) (coded_list a_name.the_row.coded)) (λ b. (b.zip, b.names)) (λ p. record { zip = p.0; names = p.1 }) (λ _. refl)

-- the name with this number
abbrev pub name_in : Option Name → Name
name_in None = record { space = []; local = [] }
name_in (Some name) = name

abbrev pub name_at : List Name → ℕ → Name
name_at names number = name_in (slice_get names number)

-- the name of an element has this number
abbrev pub IsNamed : List Name → ℕ → ItemLabel → Type 0
IsNamed names number (Element name attributes declares at) = (number < length names) × (name ≡ name_at names number)
IsNamed names number (Text text at) = Unit {0}

-- The number of namespaces that a label binds.
abbrev pub binding_count : Option ItemLabel → ℕ
binding_count None = 0
binding_count (Some (Element name attributes declares at)) = length declares
binding_count (Some (Text text at)) = 0

-- The innermost open element has these attributes and bindings instead of its previous ones.
abbrev pub with_lists : List (Name × List ℕ) → List (List ℕ × List ℕ) → ItemLabel → ItemLabel
with_lists attributes declares (Element name before bound at) = Element name attributes declares at
with_lists attributes declares (Text text at) = Text text at

abbrev pub listed_in : List (Name × List ℕ) → List (List ℕ × List ℕ) → List (Above ItemLabel) → List (Above ItemLabel)
listed_in attributes declares [] = []
listed_in attributes declares (a ∷ up) = record { label = with_lists attributes declares a.label; before = a.before } ∷ up

abbrev pub listed : List (Name × List ℕ) → List (List ℕ × List ℕ) → Zip ItemLabel → Zip ItemLabel
listed attributes declares z = record { above = listed_in attributes declares z.above; kids = z.kids }
