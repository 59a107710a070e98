use Rattle.std.proofs.Common.{◌≡◌, drop}
use Rattle.base_trees.specs.Rose.{label_of, kids_of}
use Rattle.der_decode.specs.Private.Bodies.{first_start}
use Rattle.der_decode.proofs.Choices.{first_from}
use Rattle.der_decode.proofs.nodes.first_start.Given as goal

-- the first of those that are left is the first of all
abbrev pub invariant-parts : goal.invariant-parts
invariant-parts l = first_from l.place.module.now l.input.octets.now l.input.spot (label_of l.place.found.now) l.parts (kids_of l.place.found.now) l.i ≡ first_start l.place.module.now (label_of l.place.found.now) l.parts (kids_of l.place.found.now) (drop l.input.spot.at l.input.octets.now)
