-- What remains of a text without its encoding instructions. Each instruction is in brackets with a space after it (X.680, clause
-- 31.3). A bracket in a text in quotation marks neither begins nor ends an instruction.
use Rattle.std.specs.Prelude.{◌==◌, ℕ, Bool, true, false, not, List, [], ◌∷◌, ◌++◌, if◌then◌else◌}
use Rattle.module_print.specs.declared.stripping.Within.{Within}
use Rattle.module_print.specs.declared.stripping.Within.TheVariants.{Module, Text, Instruction, Quotes, Behind}

-- The position of the byte after this one.
abbrev pub next : Within → ℕ → Within
next Module b = if b == 91 then Instruction else if b == 34 then Text else Module
next Text b = if b == 34 then Module else Text
next Instruction b = if b == 93 then Behind else if b == 34 then Quotes else Instruction
next Quotes b = if b == 34 then Instruction else Quotes
next Behind b = Module

-- The byte belongs to no instruction.
abbrev pub is_kept : Within → ℕ → Bool
is_kept Module b = not (b == 91)
is_kept Text b = true
is_kept _ b = false

abbrev pub kept : Within → ℕ → List ℕ
kept within b = if is_kept within b then b ∷ [] else []

abbrev pub stripped : Within → List ℕ → List ℕ
stripped within [] = []
stripped within (b ∷ bs) = kept within b ++ stripped (next within b) bs
