-- Simple types that are made of themselves (XML Schema Part 1, sections 3.14.3 and 3.14.6): by a base, an item or a
-- member, that of a base, an item or a member, and so on.
use Rattle.std.specs.Prelude.{◌≡◌, ◌<◌, ℕ, Bool, false, ◌&&◌, nat_eq, List, [], ◌∷◌, ◌++◌, map, Option, Some, None, slice_get}
use Rattle.std.specs.List.{position_from}
use Rattle.base_texts.specs.declared.texts.Name.{Name}
use Rattle.base_texts.specs.Names.{name_eq}
use Rattle.schema_components.specs.declared.simple_definitions.RawRef.{RawRef}
use Rattle.schema_components.specs.declared.simple_definitions.RawRef.TheVariants as reference
use Rattle.schema_components.specs.Raw.{Base, Named, Inner, Bases, none, more, How, Restrict, ListOf, UnionOf, Document}
use Rattle.link_names.specs.declared.places.Place.{Place}
use Rattle.link_names.specs.declared.faults.LinkingFault.{LinkingFault}
use Rattle.link_names.specs.declared.faults.LinkWhy.TheVariants.{CircularType}
use Rattle.link_names.specs.Order.{place, fault}
use Rattle.link_names.specs.Graphs.{IsOnCycle}
use Rattle.link_names.specs.SimpleTypes.{SimpleDefinition, simple_types}

abbrev pub is_named : Name → SimpleDefinition → Bool
is_named a d = elim d.name [ None ↦ false | Some b ↦ name_eq b a ]

abbrev pub stands_at : Place → SimpleDefinition → Bool
stands_at p d = nat_eq d.place.file p.file && nat_eq d.place.at p.at

-- The numbers of simple types, by their names and by the places where they were written.
pub record SimpleNumbers : Type 0 where
  pub named : Name → Option ℕ
  pub placed : Place → Option ℕ

abbrev pub numbers_in : List SimpleDefinition → SimpleNumbers
numbers_in ds = record { named = λ a. position_from (is_named a) 0 ds; placed = λ p. position_from (stands_at p) 0 ds }

abbrev pub one_of : Option ℕ → List ℕ
one_of None = []
one_of (Some n) = n ∷ []

-- The simple types that one is made from, by their numbers; a built-in one has none.
abbrev pub named_part : SimpleNumbers → RawRef → List ℕ
named_part ns (reference.Builtin which) = []
named_part ns (reference.Other name) = one_of (ns.named name)

abbrev pub part_of : SimpleNumbers → ℕ → Base → List ℕ
part_of ns file (Named r) = named_part ns r
part_of ns file (Inner at body_at how) = one_of (ns.placed (place file at))

abbrev pub parts_of_bases : SimpleNumbers → ℕ → Bases → List ℕ
parts_of_bases ns file none = []
parts_of_bases ns file (more b bs) = part_of ns file b ++ parts_of_bases ns file bs

abbrev pub parts_of : SimpleNumbers → ℕ → How → List ℕ
parts_of ns file (Restrict base facets) = part_of ns file base
parts_of ns file (ListOf item) = part_of ns file item
parts_of ns file (UnionOf members) = parts_of_bases ns file members

abbrev pub parts_in : SimpleNumbers → SimpleDefinition → List ℕ
parts_in ns d = parts_of ns d.place.file d.how

-- The edges from each simple type to those that it is made from.
abbrev pub edges : List SimpleDefinition → List (List ℕ)
edges ds = map (parts_in (numbers_in ds)) ds

abbrev pub IsCircularAt : List SimpleDefinition → ℕ → LinkingFault → Type 0
IsCircularAt ds n f = (d : SimpleDefinition) × (slice_get ds n ≡ Some d) × (f ≡ fault CircularType d.place) × IsOnCycle (edges ds) n

-- The fault is that of one of the first n types.
abbrev pub IsCircularBelow : List SimpleDefinition → ℕ → LinkingFault → Type 0
IsCircularBelow ds n f = (m : ℕ) × (m < n) × IsCircularAt ds m f

abbrev pub IsCircularOf : List SimpleDefinition → LinkingFault → Type 0
IsCircularOf ds f = (n : ℕ) × IsCircularAt ds n f

abbrev pub IsCircular : List Document → LinkingFault → Type 0
IsCircular docs f = IsCircularOf (simple_types docs) f
