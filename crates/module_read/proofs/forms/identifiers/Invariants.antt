use Rattle.std.proofs.Common.{◌≡◌, ◌++◌, drop}
use Rattle.module_text.specs.Meaning.{names_of}
use Rattle.module_read.proofs.forms.identifiers.Given as goal

abbrev pub invariant-items : goal.invariant-items
invariant-items l = l.names.items ++ names_of (drop l.item-index l.items) ≡ names_of l.items
