-- What a traversal of types without a value needs, as in a decoder: the numbers of nested elements, of references and of children
-- are bounded.
use Rattle.std.specs.Prelude.{◌≡◌, ℕ, suc, false, Some, None, List, length, slice_get}
use Rattle.base_trees.specs.Rose.{Rose, node, Roses, list_of, label_of, kids_of}
use Rattle.asn_types.specs.declared.types.Component.{Component}
use Rattle.asn_types.specs.declared.types.TypeLabel.{TypeLabel}
use Rattle.asn_types.specs.declared.modules.Assignment.{Assignment}
use Rattle.asn_types.specs.Modules.{IsModule, AreWellFormed}
use Rattle.asn_types.specs.Parts.{parts_of, IsPart}
use Rattle.asn_types.specs.Refs.{target, next, resolve, is_element, ChainsWithin, IsOf}
use Rattle.asn_types.specs.Roles.{role_of}

-- A part that is not an element inherits the number of references of its type.
abbrev pub PartKeepsReferences : Type 0
PartKeepsReferences = (M : List Assignment) (n : ℕ) (l : TypeLabel) (ts : Roses TypeLabel) (i : ℕ) (part : Component) (t : Rose TypeLabel)
    → ChainsWithin M n (node l ts) → IsPart l ts i part t → is_element (role_of l i part) ≡ false → ChainsWithin M n t

-- A reference uses one of them.
abbrev pub ReferenceTakesOne : Type 0
ReferenceTakesOne = (M : List Assignment) (n : ℕ) (t u : Rose TypeLabel) → ChainsWithin M (suc n) t → next M t ≡ Some u → ChainsWithin M n u

-- Each type of a module has four references, and so has the type of an element.
abbrev pub TypeHasFour : Type 0
TypeHasFour = (M : List Assignment) (t : Rose TypeLabel) → AreWellFormed M t → ChainsWithin M 4 t

-- In a module the type that `resolve` reaches is not a reference.
abbrev pub ResolvedIsNoReference : Type 0
ResolvedIsNoReference = (M : List Assignment) (t : Rose TypeLabel) → IsModule M → AreWellFormed M t → target (label_of (resolve M t)).form ≡ None

-- The types of a module are well formed, and the types of their parts are types of the module.
abbrev pub TypesAreWellFormed : Type 0
TypesAreWellFormed = (M : List Assignment) (t : Rose TypeLabel) → IsModule M → IsOf M t → AreWellFormed M t

abbrev pub PartsAreOfTheModule : Type 0
PartsAreOfTheModule = (M : List Assignment) (l : TypeLabel) (ts : Roses TypeLabel) (i : ℕ) (t : Rose TypeLabel)
    → IsOf M (node l ts) → slice_get (list_of ts) i ≡ Some t → IsOf M t

-- There is a type for each component, alternative and item.
abbrev pub TypesHaveTheirParts : Type 0
TypesHaveTheirParts = (M : List Assignment) (t : Rose TypeLabel) → IsModule M → IsOf M t → length (kids_of t) ≡ length (parts_of (label_of t).form)

-- The types that references reach are types of the module.
abbrev pub ResolvedIsOfTheModule : Type 0
ResolvedIsOfTheModule = (M : List Assignment) (t : Rose TypeLabel) → IsOf M t → IsOf M (resolve M t)
