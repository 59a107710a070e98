-- The built-in types of a set, in the order of their numbers.
use Rattle.std.specs.Prelude.{ℕ, Bool, nat_eq, List, [], ◌∷◌}
use Rattle.std.specs.List.{filter, list_any}
use Rattle.simple_types.specs.declared.simples.Builtin.{Builtin}
use Rattle.simple_types.specs.declared.simples.Builtin.TheVariants.{Boolean, Byte, Short, Int, Long, UnsignedByte, UnsignedShort, UnsignedInt, UnsignedLong, Integer, NonNegativeInteger, PositiveInteger, NonPositiveInteger, NegativeInteger, String, NormalizedString, Token, AnyUri, Language, NmToken, Name, NcName, NmTokens}
use Rattle.link_set.specs.Written.{Lists}

-- All built-in types, in their order.
abbrev pub all_builtins : List Builtin
all_builtins =
    Boolean ∷ Byte ∷ Short ∷ Int ∷ Long ∷ UnsignedByte ∷ UnsignedShort ∷ UnsignedInt ∷ UnsignedLong ∷ Integer ∷ NonNegativeInteger ∷ PositiveInteger
    ∷ NonPositiveInteger ∷ NegativeInteger ∷ String ∷ NormalizedString ∷ Token ∷ AnyUri ∷ Language ∷ NmToken ∷ Name ∷ NcName ∷ NmTokens ∷ []

-- The place of a built-in type in that order.
abbrev pub rank : Builtin → ℕ
rank Boolean = 0
rank Byte = 1
rank Short = 2
rank Int = 3
rank Long = 4
rank UnsignedByte = 5
rank UnsignedShort = 6
rank UnsignedInt = 7
rank UnsignedLong = 8
rank Integer = 9
rank NonNegativeInteger = 10
rank PositiveInteger = 11
rank NonPositiveInteger = 12
rank NegativeInteger = 13
rank String = 14
rank NormalizedString = 15
rank Token = 16
rank AnyUri = 17
rank Language = 18
rank NmToken = 19
rank Name = 20
rank NcName = 21
rank NmTokens = 22

abbrev pub is_builtin : Builtin → Builtin → Bool
is_builtin which other = nat_eq (rank other) (rank which)

-- One of the types named is this one.
abbrev pub is_among : List Builtin → Builtin → Bool
is_among named which = list_any (is_builtin which) named

-- Each built-in type that is named, once, in the order of all.
abbrev pub used_builtins : Lists → List Builtin
used_builtins ls = filter (is_among ls.named) all_builtins
