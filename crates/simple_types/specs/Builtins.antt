-- The built-in datatypes of XML Schema Part 2, section 3, that this profile supports.
use Rattle.std.specs.Prelude.{ℕ, ◌^◌, ◌-◌, pos, negsuc, Some, None}
use Rattle.base_texts.specs.declared.white_space.WhiteSpace.TheVariants as space
use Rattle.simple_types.specs.declared.simples.Builtin.{Builtin}
use Rattle.simple_types.specs.declared.simples.Builtin.TheVariants.{Boolean, Byte, Short, Int, Long, UnsignedByte, UnsignedShort, UnsignedInt, UnsignedLong, Integer, NonNegativeInteger, PositiveInteger, NonPositiveInteger, NegativeInteger, String, NormalizedString, Token, AnyUri, Language, NmToken, Name, NcName, NmTokens}
use Rattle.simple_types.specs.declared.simples.Class.TheVariants as class
use Rattle.simple_types.specs.Space.{Space, Booleans, Wholes, Characters, ListOf}

-- The numbers of this number of bits, with and without a sign.
abbrev pub signed : ℕ → Space
signed bits = Wholes (Some (negsuc (2 ^ (bits - 1) - 1))) (Some (pos (2 ^ (bits - 1) - 1)))

abbrev pub unsigned : ℕ → Space
unsigned bits = Wholes (Some (pos 0)) (Some (pos (2 ^ bits - 1)))

abbrev pub builtin_space : Builtin → Space
-- section 3.2.2
builtin_space Boolean = Booleans
-- sections 3.3.13 to 3.3.25
builtin_space Byte = signed 8
builtin_space Short = signed 16
builtin_space Int = signed 32
builtin_space Long = signed 64
builtin_space UnsignedByte = unsigned 8
builtin_space UnsignedShort = unsigned 16
builtin_space UnsignedInt = unsigned 32
builtin_space UnsignedLong = unsigned 64
builtin_space Integer = Wholes None None
builtin_space NonNegativeInteger = Wholes (Some (pos 0)) None
builtin_space PositiveInteger = Wholes (Some (pos 1)) None
builtin_space NonPositiveInteger = Wholes None (Some (pos 0))
builtin_space NegativeInteger = Wholes None (Some (negsuc 0))
-- Sections 3.2.1, 3.3.1, 3.3.2 and, for the profile's anyURI, 3.2.17.
builtin_space String = Characters space.Preserve 0 None class.Any
builtin_space NormalizedString = Characters space.Replace 0 None class.Any
builtin_space Token = Characters space.Collapse 0 None class.Any
builtin_space AnyUri = Characters space.Collapse 0 None class.Any
-- sections 3.3.3 to 3.3.7
builtin_space Language = Characters space.Collapse 0 None class.Language
builtin_space NmToken = Characters space.Collapse 0 None class.NmToken
builtin_space NmTokens = ListOf (Characters space.Collapse 0 None class.NmToken) 1 None
builtin_space Name = Characters space.Collapse 0 None class.Name
builtin_space NcName = Characters space.Collapse 0 None class.NcName
