use Rattle.std.proofs.Common.{◌≡◌, ◌++◌, length}
use Rattle.module_print.specs.declared.stripping.Within.TheVariants.{Module}
use Rattle.module_print.specs.Stripped.{stripped}
use Rattle.module_print.proofs.stripping.without_instructions.Given as goal

-- what is left of the bytes so far, and of those that come
abbrev pub invariant-bytes : goal.invariant-bytes
invariant-bytes l = l.left.items ++ stripped l.within l.rest ≡ stripped Module l.fn.text

abbrev pub decreases-bytes : goal.decreases-bytes
decreases-bytes l = length l.rest
