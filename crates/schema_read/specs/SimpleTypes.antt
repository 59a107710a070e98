-- The simple type definitions of a schema document (XML Schema Part 1, section 3.14.2).
use Rattle.std.specs.Prelude.{ℕ, List, [], ◌∷◌, ◌++◌, bytes_eq, codes, Option, Some, None, if◌then◌else◌}
use Rattle.std.specs.Option.{option_or}
use Rattle.base_texts.specs.WhiteSpace.{words_of}
use Rattle.base_trees.specs.Rose.{Rose, node, Roses, label_of, list_of}
use Rattle.base_trees.specs.Rose as rose
use Rattle.xml_items.specs.declared.label.ItemLabel.{ItemLabel}
use Rattle.xml_items.specs.declared.label.ItemLabel.TheVariants.{Element, Text}
use Rattle.simple_types.specs.declared.facets.Facet.{Facet}
use Rattle.simple_types.specs.declared.facets.Facet.TheVariants as facet
use Rattle.schema_components.specs.Raw.{Base, Named, Inner, Bases, none, more, How, Restrict, ListOf, UnionOf, Simple}
use Rattle.schema_components.specs.declared.simple_definitions.RawRef.TheVariants.{Other}
use Rattle.schema_components.specs.declared.simple_definitions.RawHow.{RawHow}
use Rattle.schema_components.specs.Seen.{how_of}
use Rattle.base_texts.specs.Entries.{beside}
use Rattle.schema_syntax.specs.Attributes.{own_attributes}
use Rattle.schema_syntax.specs.Children.{is_in}
use Rattle.schema_syntax.specs.declared.children.ChildSet.TheVariants.{Varieties, SimpleTypes}
use Rattle.schema_read.specs.Names.{no_name, type_ref}

-- ---- facets (Part 2, section 4.3)

abbrev pub facet_makers : List (List ℕ × (List ℕ → Facet))
facet_makers =
    (codes "length", λ v. facet.Length v) ∷ (codes "minLength", λ v. facet.MinLength v) ∷ (codes "maxLength", λ v. facet.MaxLength v)
    ∷ (codes "minInclusive", λ v. facet.MinInclusive v) ∷ (codes "maxInclusive", λ v. facet.MaxInclusive v) ∷ (codes "minExclusive", λ v. facet.MinExclusive v)
    ∷ (codes "maxExclusive", λ v. facet.MaxExclusive v) ∷ (codes "enumeration", λ v. facet.Enumeration v) ∷ (codes "whiteSpace", λ v. facet.WhiteSpace v) ∷ []

abbrev pub with_value : Option (List ℕ → Facet) → List ℕ → Option Facet
with_value None value = None
with_value (Some make) value = Some (make value)

abbrev pub facet_of : List ℕ → List ℕ → Option Facet
facet_of name value = with_value (beside name facet_makers) value

abbrev pub facet_by : List ℕ → List (List ℕ × List ℕ) → Option Facet
facet_by name own = elim (beside (codes "value") own) [ None ↦ None | Some value ↦ facet_of name value ]

abbrev pub facet_at : ItemLabel → Option Facet
facet_at (Element name attributes declares at) = facet_by name.local (own_attributes attributes)
facet_at (Text text at) = None

abbrev pub and_facet : Option Facet → List Facet → List Facet
and_facet None facets = facets
and_facet (Some first) facets = first ∷ facets

-- The facets among the children of a restriction, in their order.
abbrev pub facets_among : List (Rose ItemLabel) → List Facet
facets_among [] = []
facets_among (t ∷ ts) = and_facet (facet_at (label_of t)) (facets_among ts)

-- ---- the parts of a type

abbrev pub joined : Bases → Bases → Bases
joined none others = others
joined (more first bases) others = more first (joined bases others)

abbrev pub named_in : List (List ℕ × List ℕ) → List (List ℕ) → Bases
named_in scope [] = none
named_in scope (word ∷ words) = more (Named (type_ref scope word)) (named_in scope words)

abbrev pub named_members : List (List ℕ × List ℕ) → List (List ℕ × List ℕ) → Bases
named_members scope own = elim (beside (codes "memberTypes") own) [ None ↦ none | Some value ↦ named_in scope (words_of value) ]

abbrev pub first_or_none : Bases → Base
first_or_none none = Named (Other no_name)
first_or_none (more first bases) = first

-- The type that the attribute names, or else the first of those in place.
abbrev pub base_by : List ℕ → List (List ℕ × List ℕ) → List (List ℕ × List ℕ) → Bases → Base
base_by attribute scope own inner = elim (beside attribute own) [ None ↦ first_or_none inner | Some value ↦ Named (type_ref scope value) ]

abbrev pub restriction_of : List (List ℕ × List ℕ) → List (List ℕ × List ℕ) → Bases → List (Rose ItemLabel) → How
restriction_of scope own inner kids = Restrict (base_by (codes "base") scope own inner) (facets_among kids)

abbrev pub list_of_items : List (List ℕ × List ℕ) → List (List ℕ × List ℕ) → Bases → How
list_of_items scope own inner = ListOf (base_by (codes "itemType") scope own inner)

-- The members that the union names, and then those in it.
abbrev pub union_of : List (List ℕ × List ℕ) → List (List ℕ × List ℕ) → Bases → How
union_of scope own inner = UnionOf (joined (named_members scope own) inner)

abbrev pub made_by : List ℕ → List (List ℕ × List ℕ) → List (List ℕ × List ℕ) → Bases → List (Rose ItemLabel) → Option How
made_by name scope own inner kids =
    if bytes_eq name (codes "restriction") then Some (restriction_of scope own inner kids)
    else if bytes_eq name (codes "list") then Some (list_of_items scope own inner)
    else if bytes_eq name (codes "union") then Some (union_of scope own inner)
    else None

abbrev pub placed : ℕ → Option How → Option (ℕ × How)
placed at None = None
placed at (Some how) = Some (at, how)

abbrev pub defined : ℕ → Option (ℕ × How) → Option Simple
defined at None = None
defined at (Some made) = Some (record { at = at; body_at = made.0; how = made.1 })

abbrev pub and_inner : Option Simple → Bases → Bases
and_inner None bases = bases
and_inner (Some s) bases = more (Inner s.at s.body_at s.how) bases

abbrev mutual
  -- The restriction, list or union that the element makes, with its place.
  pub variety_at : List (List ℕ × List ℕ) → Rose ItemLabel → Option (ℕ × How)
  variety_at outer (node (Text text at) kids) = None
  variety_at outer (node (Element name attributes declares at) kids) =
      if is_in Varieties (Element name attributes declares at)
      then placed at (made_by name.local (declares ++ outer) (own_attributes attributes) (inner_types (declares ++ outer) kids) (list_of kids))
      else None

  -- The first restriction, list or union among these.
  pub variety_among : List (List ℕ × List ℕ) → Roses ItemLabel → Option (ℕ × How)
  variety_among scope rose.none = None
  variety_among scope (rose.more t ts) = option_or (variety_at scope t) (variety_among scope ts)

  -- The simple type that the element defines.
  pub simple_type : List (List ℕ × List ℕ) → Rose ItemLabel → Option Simple
  simple_type outer (node (Text text at) kids) = None
  simple_type outer (node (Element name attributes declares at) kids) =
      if is_in SimpleTypes (Element name attributes declares at) then defined at (variety_among (declares ++ outer) kids) else None

  -- The simple types among these, in their order.
  pub inner_types : List (List ℕ × List ℕ) → Roses ItemLabel → Bases
  inner_types scope rose.none = none
  inner_types scope (rose.more t ts) = and_inner (simple_type scope t) (inner_types scope ts)

-- The simple type of a declaration: the one that it names, or the one in it.
abbrev pub declared_type : List (List ℕ × List ℕ) → List (List ℕ × List ℕ) → Roses ItemLabel → Base
declared_type scope own kids = base_by (codes "type") scope own (inner_types scope kids)

-- ---- values of the code

abbrev pub made_seen : ℕ × RawHow → ℕ × How
made_seen made = (made.0, how_of made.1)
