-- The attribute uses of a document, by what each use of the code keeps.
use Rattle.std.proofs.Common.{◌≡◌, List, [], ◌∷◌, map, refl, ◌∙◌, Option, Some, None}
use Rattle.std.specs.Option.{option_map, is_none}
use Rattle.schema_components.specs.Seen.{base_of, use_of, uses_of, kind_of, element_of, local_of, type_of}
use Rattle.schema_components.specs.declared.simple_definitions.RawBase.{RawBase}
use Rattle.schema_components.specs.declared.attribute_uses.RawUse.{RawUse}
use Rattle.schema_components.specs.declared.declarations.RawKind.{RawKind}
use Rattle.schema_components.specs.declared.declarations.RawKind.TheVariants as kind
use Rattle.schema_components.specs.declared.declarations.RawElement.{RawElement}
use Rattle.schema_components.specs.declared.declarations.RawLocal.{RawLocal}
use Rattle.schema_components.specs.declared.declarations.RawLocal.TheVariants as local
use Rattle.schema_components.specs.declared.declarations.RawType.{RawType}
use Rattle.schema_components.specs.declared.declarations.RawType.TheVariants as defined
use Rattle.schema_components.specs.declared.documents.RawDoc.{RawDoc}
use Rattle.schema_components.specs.Documents.{doc_of}
use Rattle.schema_components.specs.TypedUses.{AreTypedUses, InKind, InLocal, InType, InElements, InTypes, InLocals, AreTyped}

same_none : (o : Option RawBase) → is_none o ≡ is_none (option_map base_of o)
same_none None = refl
same_none (Some b) = refl

uses_typed : (us : List RawUse) → AreTypedUses (map use_of us)
uses_typed [] = tt
uses_typed (u ∷ us) = (u.typed ∙ same_none u.kind, uses_typed us)

in_kind : (k : RawKind) → InKind (kind_of k)
in_kind (kind.Named reference) = tt
in_kind (kind.Simple body) = tt
in_kind (kind.Complex body) = uses_typed body.uses.entries.items

in_local : (l : RawLocal) → InLocal (local_of l)
in_local (local.Reference name at) = tt
in_local (local.Own element) = in_kind element.kind

in_type : (t : RawType) → InType (type_of t)
in_type (defined.Simple name body) = tt
in_type (defined.Complex name body) = uses_typed body.uses.entries.items

in_elements : (es : List RawElement) → InElements (map element_of es)
in_elements [] = tt
in_elements (e ∷ es) = (in_kind e.kind, in_elements es)

in_types : (ts : List RawType) → InTypes (map type_of ts)
in_types [] = tt
in_types (t ∷ ts) = (in_type t, in_types ts)

in_locals : (ls : List RawLocal) → InLocals (map local_of ls)
in_locals [] = tt
in_locals (l ∷ ls) = (in_local l, in_locals ls)

pub typed : (d : RawDoc) → AreTyped (doc_of d)
typed d = (in_elements d.elements.items, in_types d.types.items, in_locals d.locals.items)
