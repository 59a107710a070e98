-- The names of reasons.
use Rattle.std.specs.Prelude.{ℕ, List, codes}
use Rattle.module_text.specs.declared.reasons.ModuleWhy.{ModuleWhy}
use Rattle.module_text.specs.declared.reasons.ModuleWhy.TheVariants as module_why

-- The name of a reason for rejecting a printed module.
abbrev pub module_reason : ModuleWhy → List ℕ
module_reason module_why.NotUtf8 = codes "NotUtf8"
module_reason module_why.Syntax = codes "Syntax"
module_reason module_why.TooDeep = codes "TooDeep"
module_reason module_why.Duplicate = codes "Duplicate"
module_reason module_why.Unresolved = codes "Unresolved"
module_reason module_why.LongChain = codes "LongChain"
module_reason module_why.Spelling = codes "Spelling"
