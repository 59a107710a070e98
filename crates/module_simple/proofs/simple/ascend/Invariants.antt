use Rattle.std.proofs.Common.{◌≡◌, drop}
use Rattle.module_text.specs.Simple.{ascend, ascend_behind}
use Rattle.module_simple.proofs.simple.ascend.Given as goal

abbrev pub invariant-numbers : goal.invariant-numbers
invariant-numbers l = ascend_behind l.last (drop l.number-index l.numbers) ≡ ascend l.numbers
