-- How the simple types of several documents are made (XML Schema Part 2, section 4.1.2): a restriction from its base, a list from
-- its item, a union from its members. The spaces are one list, by the numbers of the definitions, with None for a type that can't
-- be made. The rule relates each entry of the complete list to the entries of its parts. If no type is made of itself, exactly
-- one list fits.
use Rattle.std.specs.Prelude.{◌≡◌, ◌⊎◌, ℕ, zero, suc, List, [], ◌∷◌, length, Option, Some, None, Result, Ok, Err, IsErr, if◌then◌else◌, slice_get}
use Rattle.simple_types.specs.Builtins.{builtin_space}
use Rattle.simple_types.specs.Joining.{flattened}
use Rattle.simple_types.specs.Sound.{has_list}
use Rattle.simple_types.specs.Space as space
use Rattle.simple_types.specs.Space.{Space, Spaces}
use Rattle.simple_facets.specs.declared.refusals.FacetWhy.{FacetWhy}
use Rattle.simple_facets.specs.Making.{AreWithinLimits}
use Rattle.simple_facets.specs.Restricting.{Restricted}
use Rattle.simple_types.specs.declared.facets.Facet.{Facet}
use Rattle.schema_components.specs.declared.simple_definitions.RawRef.TheVariants as reference
use Rattle.schema_components.specs.Raw.{Base, Named, Inner, Bases, none, more, How, Restrict, ListOf, UnionOf, Document}
use Rattle.link_names.specs.declared.faults.LinkingFault.{LinkingFault}
use Rattle.link_names.specs.declared.faults.LinkWhy.{LinkWhy}
use Rattle.link_names.specs.declared.faults.LinkWhy.TheVariants as why
use Rattle.link_names.specs.Order.{place}
use Rattle.link_names.specs.Cycles.{SimpleNumbers, numbers_in}
use Rattle.link_names.specs.SimpleTypes.{SimpleDefinition, simple_types}

-- The space with the number, if that type is made.
abbrev pub entry_at : List (Option Space) → ℕ → Option Space
entry_at [] n = None
entry_at (o ∷ os) zero = o
entry_at (o ∷ os) (suc n) = entry_at os n

abbrev pub space_at : List (Option Space) → Option ℕ → Option Space
space_at made None = None
space_at made (Some n) = entry_at made n

-- The space of a base, an item or a member, if it is made.
abbrev pub part_space : SimpleNumbers → List (Option Space) → ℕ → Base → Option Space
part_space ns made file (Named (reference.Builtin which)) = Some (builtin_space which)
part_space ns made file (Named (reference.Other name)) = space_at made (ns.named name)
part_space ns made file (Inner at body_at how) = space_at made (ns.placed (place file at))

abbrev pub with_space : Option Space → Option Spaces → Option Spaces
with_space None others = None
with_space (Some s) None = None
with_space (Some s) (Some ss) = Some (space.more s ss)

-- The spaces of all members, if each is made.
abbrev pub part_spaces : SimpleNumbers → List (Option Space) → ℕ → Bases → Option Spaces
part_spaces ns made file none = Some space.none
part_spaces ns made file (more b bs) = with_space (part_space ns made file b) (part_spaces ns made file bs)

-- The result of restricting a base, if it is made: a space, or the reason against it.
abbrev pub IsRestriction : Option Space → List Facet → Result Space LinkWhy → Type 0
IsRestriction None facets r = ⊥
IsRestriction (Some base) facets (Ok s) = Restricted base facets (Ok s)
IsRestriction (Some base) facets (Err w) = (reason : FacetWhy) × (w ≡ why.Facet reason) × Restricted base facets (Err reason)

-- The result of making a list, if its item is made. There are no lists of lists (section 2.5.1.2).
abbrev pub IsList : Option Space → Result Space LinkWhy → Type 0
IsList None r = ⊥
IsList (Some item) r = r ≡ (if has_list item then Err why.BadItem else Ok (space.ListOf item 0 None))

-- The result of making a union, if its members are made. The members of inner unions replace those unions (section 2.5.1.3).
abbrev pub IsUnion : Option Spaces → Result Space LinkWhy → Type 0
IsUnion None r = ⊥
IsUnion (Some members) r =
    (AreWithinLimits (flattened members) × (r ≡ Ok (space.UnionOf (flattened members))))
    ⊎ ((¬ AreWithinLimits (flattened members)) × (r ≡ Err why.Limit))

-- The result of making a type from its parts, if each is made.
abbrev pub IsLeft : SimpleNumbers → List (Option Space) → ℕ → How → Result Space LinkWhy → Type 0
IsLeft ns made file (Restrict base facets) r = IsRestriction (part_space ns made file base) facets r
IsLeft ns made file (ListOf item) r = IsList (part_space ns made file item) r
IsLeft ns made file (UnionOf members) r = IsUnion (part_spaces ns made file members) r

abbrev pub IsEntry : SimpleNumbers → List (Option Space) → SimpleDefinition → Option Space → Type 0
IsEntry ns made d (Some s) = IsLeft ns made d.place.file d.how (Ok s)
IsEntry ns made d None = (r : Result Space LinkWhy) → IsLeft ns made d.place.file d.how r → IsErr r

-- The list has one entry for each definition: its space, or None if it can't be made.
abbrev pub IsMaking : List SimpleDefinition → List (Option Space) → Type 0
IsMaking ds made = (length made ≡ length ds)
    × ((n : ℕ) (d : SimpleDefinition) → slice_get ds n ≡ Some d → IsEntry (numbers_in ds) made d (entry_at made n))

-- The fault is at the `restriction`, `list` or `union` of a type that can't be made, although each of its parts is made.
abbrev pub IsNotMadeOf : List SimpleDefinition → LinkingFault → Type 0
IsNotMadeOf ds f =
    (made : List (Option Space)) × IsMaking ds made
    × (n : ℕ) × (d : SimpleDefinition) × (slice_get ds n ≡ Some d) × (f.place ≡ d.body)
    × IsLeft (numbers_in ds) made d.place.file d.how (Err f.why)

abbrev pub IsNotMade : List Document → LinkingFault → Type 0
IsNotMade docs f = IsNotMadeOf (simple_types docs) f
