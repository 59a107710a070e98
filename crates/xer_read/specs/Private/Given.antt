-- What a value gives to the element that it stands for: in each map of the set, and wherever it stands.
use Rattle.std.specs.Prelude.{◌≡◌, ℕ, ◌+◌, ◌≤◌, List, Some, slice_get, IsSomeAnd}
use Rattle.base_trees.specs.Rose.{Rose, Roses, label_of}
use Rattle.simple_types.specs.declared.labels.ValueLabel.{ValueLabel}
use Rattle.simple_types.specs.Space.{Space}
use Rattle.simple_types.specs.Reading.{Accepts}
use Rattle.xml_items.specs.declared.label.ItemLabel.{ItemLabel}
use Rattle.xml_items.specs.declared.label.ItemLabel.TheVariants.{Element, Text}
use Rattle.xml_read.specs.Sound.{levels}
use Rattle.xml_items.specs.Plain.{Plain}
use Rattle.schema_components.specs.declared.components.ElementDecl.{ElementDecl}
use Rattle.schema_components.specs.Components.{Set}
use Rattle.schema_components.specs.SetParts.{parts_of}
use Rattle.asn_types.specs.declared.modules.Assignment.{Assignment}
use Rattle.asn_types.specs.declared.types.TypeLabel.{TypeLabel}
use Rattle.asn_types.specs.Refs.{resolve}
use Rattle.asn_values.specs.Values.{FitsAt}
use Rattle.map_subjects.specs.Subjects.{place_in}
use Rattle.map_assignments.specs.Mapped.{IsMapOf}
use Rattle.map_laws.specs.Standing.{HasContent}
use Rattle.map_laws.specs.Statements.{IsTypeAt}
use Rattle.xer_items.specs.Items.{Given, element_of, inside}
use Rattle.validity_rules.specs.Asked.{asked_at, name_at}
use Rattle.validity_rules.specs.Valid.{only_text, HasName, ValidBy}

-- the kids are a text alone, which has this value
abbrev pub IsReadAs : Space → Roses ItemLabel → Rose ValueLabel → Type 0
IsReadAs space ts value = (words : List ℕ) × (only_text ts ≡ Some words) × Accepts space words value

abbrev pub IsElementOf : ItemLabel → Given → Rose Plain → Type 0
IsElementOf (Element name attributes declares at) inner b = b ≡ element_of name inner
IsElementOf (Text words at) inner b = ⊥

module _ (s : Set) where
  -- the type leads to the content of this declaration
  abbrev pub IsTypeFor : (M : List Assignment) → IsMapOf s M → ℕ → Rose TypeLabel → Type 0
  IsTypeFor M is_map d u = IsSomeAnd (slice_get s.elements d) (λ (e : ElementDecl). HasContent (IsTypeAt s (place_in is_map.entries)) s M e (resolve M u))

  -- where it stands for an element of this declaration with so many levels, the value fits and gives this
  abbrev pub Gives : ℕ → ℕ → Rose ValueLabel → Given → Type 0
  Gives d high v inner =
      (M : List Assignment) (is_map : IsMapOf s M) (depth : ℕ) (u : Rose TypeLabel) → depth + high ≤ 65 → IsTypeFor M is_map d u
      → FitsAt M depth u v × (inside M u v ≡ inner)

  -- the element is valid for the declaration, and the value gives its treated items
  pub record IsRead (d : ℕ) (t : Rose ItemLabel) (v : Rose ValueLabel) : Type 0 where
    pub treated : Rose Plain
    pub valid : ValidBy (asked_at (parts_of s)) d t treated
    pub inner : Given
    pub is : IsElementOf (label_of t) inner treated
    pub gives : Gives d (levels t) v inner

  -- the root has the name that is declared, and is read
  pub record IsRootRead (d : ℕ) (t : Rose ItemLabel) (v : Rose ValueLabel) : Type 0 where
    pub named : HasName (name_at (parts_of s) d) (label_of t)
    pub shallow : levels t ≤ 64
    pub read : IsRead d t v
