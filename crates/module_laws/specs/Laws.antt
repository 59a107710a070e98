-- What holds of all texts.
use Rattle.std.specs.Prelude.{◌≡◌, ℕ, ◌<◌, ◌^◌, ◌↔◌, Some, List, [], length}
use Rattle.module_text.specs.declared.modules.PlainAssignment.{PlainAssignment}
use Rattle.module_text.specs.Grammar.{IsTextOf}
use Rattle.module_text.specs.declared.reasons.TextFault.{TextFault}
use Rattle.module_text.specs.Listed.{first, IsLeast}
use Rattle.module_text.specs.Faults.{faults}
use Rattle.module_text.specs.Meaning.{module_meant}
use Rattle.module_text.specs.ReadBack.{IsReadBack}

-- The first fault of a text is its least.
abbrev pub LeastIsFirst : Type 0
LeastIsFirst =
    (bytes : List ℕ) (assignments : List PlainAssignment) → IsTextOf bytes assignments
    → (f : TextFault) → (first (faults assignments) ≡ Some f) ↔ IsLeast (faults assignments) f

-- A text without a fault is the print of its module, which is printable. This is stated for fewer than 2^32 bytes, because no
-- module has more assignments, and no type more parts.
abbrev pub NoFaultIsPrintable : Type 0
NoFaultIsPrintable =
    (bytes : List ℕ) (assignments : List PlainAssignment) → length bytes < 2 ^ 32 → IsTextOf bytes assignments
    → faults assignments ≡ [] → IsReadBack bytes (module_meant assignments)
