-- References to components by their names, and the datatypes among them (XML Schema Part 1, section 3.15.3).
use Rattle.std.specs.Prelude.{◌==◌, ℕ, Bool, ◌&&◌, nat_lt, List, [], ◌∷◌, bytes_eq, codes, length, Option, Some, None, if◌then◌else◌}
use Rattle.std.specs.List.{position_or_len, before_first, after_first}
use Rattle.std.specs.Str.{chars}
use Rattle.base_texts.specs.Characters.{is_ncname}
use Rattle.base_texts.specs.declared.texts.Name.{Name}
use Rattle.base_texts.specs.Entries.{beside}
use Rattle.base_texts.specs.Namespaces.{schema_space}
use Rattle.simple_types.specs.declared.simples.Builtin.{Builtin}
use Rattle.simple_types.specs.declared.simples.Builtin.TheVariants as builtin
use Rattle.xml_pieces.specs.Namespaces.{or_absent}
use Rattle.schema_syntax.specs.declared.why.SchemaWhy.{SchemaWhy}
use Rattle.schema_syntax.specs.declared.why.SchemaWhy.TheVariants as why

-- ---- names

abbrev pub is_colon : ℕ → Bool
is_colon b = b == 0x3A

abbrev pub has_colon : List ℕ → Bool
has_colon text = nat_lt (position_or_len is_colon text) (length text)

abbrev pub in_space : Option (List ℕ) → List ℕ → Option Name
in_space None local = None
in_space (Some space) local = Some (record { space = space; local = local })

-- The expanded name of an NCName: it has the default namespace.
abbrev pub unprefixed : List (List ℕ × List ℕ) → List ℕ → Option Name
unprefixed scope text = if is_ncname (chars text) then Some (record { space = or_absent (beside [] scope); local = text }) else None

abbrev pub prefixed : List (List ℕ × List ℕ) → List ℕ → List ℕ → Option Name
prefixed scope prefix local = if is_ncname (chars prefix) && is_ncname (chars local) then in_space (beside prefix scope) local else None

-- The expanded name of a QName whose prefix is bound.
unfoldable pub resolved : List (List ℕ × List ℕ) → List ℕ → Option Name
resolved scope text =
    if has_colon text then prefixed scope (before_first is_colon text) (after_first is_colon text) else unprefixed scope text

-- ---- datatypes (Part 2, section 3)

-- The datatypes of this profile.
abbrev pub builtins : List (List ℕ × Builtin)
builtins =
    (codes "boolean", builtin.Boolean) ∷ (codes "byte", builtin.Byte) ∷ (codes "short", builtin.Short) ∷ (codes "int", builtin.Int)
    ∷ (codes "long", builtin.Long) ∷ (codes "unsignedByte", builtin.UnsignedByte) ∷ (codes "unsignedShort", builtin.UnsignedShort)
    ∷ (codes "unsignedInt", builtin.UnsignedInt) ∷ (codes "unsignedLong", builtin.UnsignedLong) ∷ (codes "integer", builtin.Integer)
    ∷ (codes "nonNegativeInteger", builtin.NonNegativeInteger) ∷ (codes "positiveInteger", builtin.PositiveInteger)
    ∷ (codes "nonPositiveInteger", builtin.NonPositiveInteger) ∷ (codes "negativeInteger", builtin.NegativeInteger)
    ∷ (codes "string", builtin.String) ∷ (codes "normalizedString", builtin.NormalizedString) ∷ (codes "token", builtin.Token)
    ∷ (codes "anyURI", builtin.AnyUri) ∷ (codes "language", builtin.Language) ∷ (codes "NMTOKEN", builtin.NmToken) ∷ (codes "Name", builtin.Name)
    ∷ (codes "NCName", builtin.NcName) ∷ (codes "NMTOKENS", builtin.NmTokens) ∷ []

-- The datatypes that it does not support, each with its reason, in the order of the reasons.
abbrev pub left_out_datatypes : List (List ℕ × SchemaWhy)
left_out_datatypes =
    (codes "decimal", why.Decimal) ∷ (codes "float", why.Float) ∷ (codes "double", why.Double) ∷ (codes "duration", why.Duration)
    ∷ (codes "dateTime", why.DateTime) ∷ (codes "time", why.Time) ∷ (codes "date", why.Date) ∷ (codes "gYearMonth", why.GYearMonth)
    ∷ (codes "gYear", why.GYear) ∷ (codes "gMonthDay", why.GMonthDay) ∷ (codes "gDay", why.GDay) ∷ (codes "gMonth", why.GMonth)
    ∷ (codes "hexBinary", why.HexBinary) ∷ (codes "base64Binary", why.Base64Binary) ∷ (codes "QName", why.QName) ∷ (codes "NOTATION", why.NOTATION)
    ∷ (codes "ID", why.ID) ∷ (codes "IDREF", why.IDREF) ∷ (codes "IDREFS", why.IDREFS) ∷ (codes "ENTITY", why.ENTITY)
    ∷ (codes "ENTITIES", why.ENTITIES) ∷ (codes "anySimpleType", why.AnySimpleType) ∷ (codes "anyType", why.AnyType) ∷ []

-- The type that a name denotes.
pub data TypeName : Type 0 where
  Known : Builtin → TypeName
  LeftOut : SchemaWhy → TypeName
  Elsewhere : Name → TypeName

abbrev pub known_or : Option Builtin → Option TypeName → Option TypeName
known_or (Some datatype) otherwise = Some (Known datatype)
known_or None otherwise = otherwise

abbrev pub left_out_type : Option SchemaWhy → Option TypeName
left_out_type (Some reason) = Some (LeftOut reason)
left_out_type None = None

-- The datatype that a name of the schema namespace denotes.
unfoldable pub datatype : List ℕ → Option TypeName
datatype local = known_or (beside local builtins) (left_out_type (beside local left_out_datatypes))

abbrev pub type_named : Option Name → Option TypeName
type_named None = None
type_named (Some name) = if bytes_eq name.space schema_space then datatype name.local else Some (Elsewhere name)

unfoldable pub type_name : List (List ℕ × List ℕ) → List ℕ → Option TypeName
type_name scope text = type_named (resolved scope text)
