use Rattle.std.proofs.Common.{◌≡◌, drop}
use Rattle.simple_types.specs.Seen.{spaces_in}
use Rattle.simple_types.specs.Reading.{taken_by}
use Rattle.simple_types.proofs.Readings.{shifted}
use Rattle.value_builder.proofs.unions.take.Given as goal

abbrev pub invariant-members : goal.invariant-members
invariant-members l = taken_by (spaces_in l.members) l.text ≡ shifted l.i (taken_by (spaces_in (drop l.i l.members)) l.text)
