-- The result of reading bytes back: the module whose print they are, or the first fault.
use Rattle.std.specs.Prelude.{◌≡◌, ℕ, Result, List, IsUtf8, MatchResult}
use Rattle.std.specs.Str.{IsValidUpTo}
use Rattle.asn_types.specs.declared.modules.Assignment.{Assignment}
use Rattle.module_print.specs.Printed.{printed}
use Rattle.module_text.specs.declared.modules.PlainAssignment.{PlainAssignment}
use Rattle.module_text.specs.Grammar.{IsTextOf, IsBroken, Sinks}
use Rattle.module_text.specs.declared.reasons.ModuleWhy.{ModuleWhy}
use Rattle.module_text.specs.declared.reasons.ModuleWhy.TheVariants as why
use Rattle.module_text.specs.declared.reasons.ModuleError.{ModuleError}
use Rattle.module_text.specs.declared.reasons.ModuleError.TheVariants as error
use Rattle.module_text.specs.Listed.{fault, IsLeast}
use Rattle.module_text.specs.Faults.{faults}
use Rattle.module_text.specs.Printable.{IsPrintable}

-- The bytes are the print of this module, which is printable.
pub record IsReadBack (bytes : List ℕ) (M : List Assignment) : Type 0 where
  pub printable : IsPrintable M
  pub text : printed M ≡ bytes

-- The bytes are a text of the plain grammar, and this is its first fault.
pub record HasFault (bytes : List ℕ) (at : ℕ) (reason : ModuleWhy) : Type 0 where
  pub assignments : List PlainAssignment
  pub is : IsTextOf bytes assignments
  pub first : IsLeast (faults assignments) (fault at reason)

-- If the bytes are not a text of the plain grammar, the reason is one of the first three.
abbrev pub IsBadAt : List ℕ → ℕ → ModuleWhy → Type 0
IsBadAt bytes at why.NotUtf8 = (IsUtf8 bytes → ⊥) × IsValidUpTo bytes at
IsBadAt bytes at why.Syntax = IsUtf8 bytes × IsBroken bytes at
IsBadAt bytes at why.TooDeep = IsUtf8 bytes × Sinks bytes at
IsBadAt bytes at reason = IsUtf8 bytes × HasFault bytes at reason

abbrev pub IsErrorOf : List ℕ → ModuleError → Type 0
IsErrorOf bytes (error.Bad at reason) = IsBadAt bytes at reason
IsErrorOf bytes error.Memory = Unit {0}

-- The result is the module or the fault that these bytes require, or a failed allocation.
abbrev pub Answers : List ℕ → Result (List Assignment) ModuleError → Type 0
Answers bytes result = MatchResult result (IsReadBack bytes) (IsErrorOf bytes)
