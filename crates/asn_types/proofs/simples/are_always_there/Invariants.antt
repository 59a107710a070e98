use Rattle.std.proofs.Common.{◌↔◌, drop}
use Rattle.asn_types.specs.Simples.{ArePlain}
use Rattle.asn_types.proofs.simples.are_always_there.Given as goal

abbrev pub invariant-parts : goal.invariant-parts
invariant-parts l = ArePlain l.parts ↔ ArePlain (drop l.part-index l.parts)
