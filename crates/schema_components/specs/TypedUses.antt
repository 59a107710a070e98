-- An attribute use refers to a global declaration if and only if it has no type of its own (XML Schema Part 1, section 3.2.2).
use Rattle.std.specs.Prelude.{◌≡◌, List, [], ◌∷◌}
use Rattle.std.specs.Option.{is_none}
use Rattle.schema_components.specs.Raw.{Use, Kind, NamedKind, SimpleKind, ComplexKind, Element, Local, Reference, Own, TypeDefinition, SimpleType, ComplexType, Document}

abbrev pub IsTypedUse : Use → Type 0
IsTypedUse u = u.reference ≡ is_none u.kind

abbrev pub AreTypedUses : List Use → Type 0
AreTypedUses [] = Unit {0}
AreTypedUses (u ∷ us) = IsTypedUse u × AreTypedUses us

abbrev pub InKind : Kind → Type 0
InKind (NamedKind reference) = Unit {0}
InKind (SimpleKind body) = Unit {0}
InKind (ComplexKind body) = AreTypedUses body.uses

abbrev pub InLocal : Local → Type 0
InLocal (Reference name at) = Unit {0}
InLocal (Own e) = InKind e.kind

abbrev pub InType : TypeDefinition → Type 0
InType (SimpleType name body) = Unit {0}
InType (ComplexType name body) = AreTypedUses body.uses

abbrev pub InElements : List Element → Type 0
InElements [] = Unit {0}
InElements (e ∷ es) = InKind e.kind × InElements es

abbrev pub InTypes : List TypeDefinition → Type 0
InTypes [] = Unit {0}
InTypes (t ∷ ts) = InType t × InTypes ts

abbrev pub InLocals : List Local → Type 0
InLocals [] = Unit {0}
InLocals (l ∷ ls) = InLocal l × InLocals ls

-- It holds of each attribute use of the document.
abbrev pub AreTyped : Document → Type 0
AreTyped d = InElements d.elements × InTypes d.types × InLocals d.locals
