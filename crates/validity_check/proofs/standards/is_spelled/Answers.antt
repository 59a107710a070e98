use Rattle.simple_types.specs.Seen.{space_of}
use Rattle.simple_types.proofs.OwnSpellings.{holds_again}
use Rattle.validity_check.proofs.standards.is_spelled.Goals as goal

pub spell-requires-clause-holds : goal.spell-requires-clause-holds
spell-requires-clause-holds c = rw c.root.ensures (holds_again (space_of c.args.simple.now) c.requires.sound _ c.in-Ok.value c.in-Ok.ensures)
