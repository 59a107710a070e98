-- The print of a printable module whose texts are UTF-8 is a text without a fault. The module that it states is that module.
use Rattle.std.specs.Prelude.{◌≡◌, ◌<◌, ◌^◌, List, [], length}
use Rattle.asn_types.specs.declared.modules.Assignment.{Assignment}
use Rattle.module_print.specs.Printed.{printed}
use Rattle.module_text.specs.declared.modules.PlainAssignment.{PlainAssignment}
use Rattle.module_text.specs.Grammar.{IsTextOf}
use Rattle.module_text.specs.Faults.{faults}
use Rattle.module_text.specs.Meaning.{module_meant}
use Rattle.module_text.specs.Printable.{IsPrintable}
use Rattle.module_unique.specs.Utf8Texts.{HasTexts}

-- The print has no fault. It states the module, if it has fewer than 2^32 bytes.
pub record IsFaultless (M : List Assignment) : Type 0 where
  pub assignments : List PlainAssignment
  pub text : IsTextOf (printed M) assignments
  pub none : faults assignments ≡ []
  pub meant : length (printed M) < 2 ^ 32 → module_meant assignments ≡ M

abbrev pub PrintableHasNoFault : Type 0
PrintableHasNoFault = (M : List Assignment) → IsPrintable M → HasTexts M → IsFaultless M
