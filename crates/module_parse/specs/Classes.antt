-- Classes of bytes.
use Rattle.std.specs.Prelude.{ℕ, Bool}
use Rattle.module_text.specs.Names.{is_small, is_capital, is_letter_or_digit, is_hexadecimal_digit}
use Rattle.module_grammar.specs.NameReading.{is_plain_byte}
use Rattle.module_grammar.specs.ValueReading.{is_value_first}
use Rattle.module_parse.specs.declared.steps.ByteClass.{ByteClass}
use Rattle.module_parse.specs.declared.steps.ByteClass.TheVariants as class

abbrev pub class_test : ByteClass → ℕ → Bool
class_test class.Small = is_small
class_test class.Capital = is_capital
class_test class.LetterOrDigit = is_letter_or_digit
class_test class.Hexadecimal = is_hexadecimal_digit
class_test class.Plain = is_plain_byte
class_test class.ValueFirst = is_value_first
