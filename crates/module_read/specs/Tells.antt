-- The module that bytes state, and what holds of all bytes.
use Rattle.std.specs.Prelude.{◌≡◌, ◌⊎◌, ◌≤◌, ℕ, List, [], length, IsUtf8}
use Rattle.asn_types.specs.declared.modules.Assignment.{Assignment}
use Rattle.module_text.specs.declared.modules.PlainAssignment.{PlainAssignment}
use Rattle.module_text.specs.Grammar.{IsTextOf}
use Rattle.module_text.specs.declared.reasons.ModuleWhy.{ModuleWhy}
use Rattle.module_text.specs.Faults.{faults}
use Rattle.module_text.specs.Meaning.{module_meant}
use Rattle.module_text.specs.ReadBack.{IsReadBack, IsBadAt}

-- The bytes are a text without a fault, and this module is its meaning. They are the print of the module, which is printable.
pub record Tells (bytes : List ℕ) (M : List Assignment) : Type 0 where
  pub utf8 : IsUtf8 bytes
  pub assignments : List PlainAssignment
  pub text : IsTextOf bytes assignments
  pub faultless : faults assignments ≡ []
  pub meant : M ≡ module_meant assignments
  pub back : IsReadBack bytes M

-- Bytes state at most one module, or have at most one first fault, and never both.
pub record OneAnswer : Type 0 where
  pub module_is : (bytes : List ℕ) (M N : List Assignment) → Tells bytes M → Tells bytes N → M ≡ N
  pub either : (bytes : List ℕ) (M : List Assignment) (at : ℕ) (why : ModuleWhy) → Tells bytes M → IsBadAt bytes at why → ⊥
  pub fault_is : (bytes : List ℕ) (m n : ℕ) (v w : ModuleWhy) → IsBadAt bytes m v → IsBadAt bytes n w → (m ≡ n) × (v ≡ w)

-- Bytes in UTF-8 state a module or have a first fault. Other bytes have the first reason.
abbrev pub SomeAnswer : Type 0
SomeAnswer = (bytes : List ℕ) → length bytes ≤ 16777216 → IsUtf8 bytes
    → ((M : List Assignment) × Tells bytes M) ⊎ ((at : ℕ) × (why : ModuleWhy) × IsBadAt bytes at why)
