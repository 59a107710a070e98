-- Exactly the names, numbers, quoted texts, octets, bounds and constraints are read, and the number of bytes that begin one is
-- given.
use Rattle.std.specs.Prelude.{◌≡◌, true, codes}
use Rattle.module_print.specs.Notation.{quoted, class_range}
use Rattle.module_grammar.specs.Reading.{byte_at, word_at}
use Rattle.module_grammar.specs.Shapes.{Anything, AnyRest, never, Stops, IsUnread}
use Rattle.module_grammar.specs.Laws.{Law}
use Rattle.base_texts.specs.Digits.{is_digit}
use Rattle.module_text.specs.Names.{is_reference, is_identifier, is_number, are_octets}
use Rattle.module_text.specs.Plain.{IsRange, IsSize, IsFixed}
use Rattle.module_text.specs.Texts.{number_range_text, size_text, fixed_text}
use Rattle.module_text.specs.Places.{placed_number_range, placed_size, placed_fixed}
use Rattle.module_grammar.specs.NameReading.{piece_at, identifier_at, reference_at, signed_at, quoted_at, octet_at, octets_at}
use Rattle.module_grammar.specs.BoundReading.{some_range_at, number_range_at, some_size_at, size_at, named_class_at, class_at, some_fixed_at, fixed_at}

pub record NamesRead : Type 0 where
  pub identifiers : Law (λ place name. is_identifier name ≡ true) never (λ name. name) (Stops AnyRest piece_at) identifier_at
  pub references : Law (λ place name. is_reference name ≡ true) never (λ name. name) (Stops AnyRest piece_at) reference_at
  pub numbers : Law (λ place written. is_number written ≡ true) never (λ written. written) (Stops AnyRest (byte_at is_digit)) signed_at
  pub quoted : Law Anything never quoted (IsUnread (word_at (codes "\""))) quoted_at
  pub octets : Law (λ place digits. are_octets digits ≡ true) never (λ digits. digits) (Stops AnyRest octet_at) octets_at

pub record BoundsRead : Type 0 where
  pub ranges : Law (λ place r. IsRange r × (placed_number_range place r ≡ r)) never number_range_text (IsUnread some_range_at) number_range_at
  pub sizes : Law (λ place size. IsSize size × (placed_size place size ≡ size)) never size_text (IsUnread some_size_at) size_at
  pub classes : Law Anything never class_range (IsUnread named_class_at) class_at
  pub fixed : Law (λ place fixed. IsFixed fixed × (placed_fixed place fixed ≡ fixed)) never fixed_text (IsUnread some_fixed_at) fixed_at
