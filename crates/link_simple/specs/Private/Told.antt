-- For private contracts only: types each part of which has a number.
use Rattle.std.specs.Prelude.{◌≡◌, ℕ, List, Some, IsSome, slice_get}
use Rattle.schema_components.specs.declared.simple_definitions.RawRef.TheVariants as reference
use Rattle.schema_components.specs.Raw.{Base, Named, Inner, Bases, none, more, How, Restrict, ListOf, UnionOf}
use Rattle.link_names.specs.Order.{place}
use Rattle.link_names.specs.Cycles.{SimpleNumbers, numbers_in}
use Rattle.link_names.specs.SimpleTypes.{SimpleDefinition}

-- The part has a number. A built-in type needs none.
abbrev pub IsPartTold : SimpleNumbers → ℕ → Base → Type 0
IsPartTold ns file (Named (reference.Builtin which)) = Unit {0}
IsPartTold ns file (Named (reference.Other name)) = IsSome (ns.named name)
IsPartTold ns file (Inner at body_at how) = IsSome (ns.placed (place file at))

abbrev pub ArePartsTold : SimpleNumbers → ℕ → Bases → Type 0
ArePartsTold ns file none = Unit {0}
ArePartsTold ns file (more b bs) = IsPartTold ns file b × ArePartsTold ns file bs

abbrev pub IsHowTold : SimpleNumbers → ℕ → How → Type 0
IsHowTold ns file (Restrict base facets) = IsPartTold ns file base
IsHowTold ns file (ListOf item) = IsPartTold ns file item
IsHowTold ns file (UnionOf members) = ArePartsTold ns file members

abbrev pub AreTold : List SimpleDefinition → Type 0
AreTold ds = (n : ℕ) (d : SimpleDefinition) → slice_get ds n ≡ Some d → IsHowTold (numbers_in ds) d.place.file d.how
