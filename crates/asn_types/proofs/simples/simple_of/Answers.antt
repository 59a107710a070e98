use Rattle.std.proofs.Common.{subst, sym}
use Rattle.asn_types.specs.Modules.{AreWellFormed}
use Rattle.asn_types.proofs.Inside.{of-well_formed, follow-well_formed}
use Rattle.asn_types.proofs.simples.simple_of.Goals as goal

pub find_simple-requires : goal.find_simple-requires
find_simple-requires c =
    let m = c.args.module.now in
    let is = c.count.ensures.module in
    subst (AreWellFormed m) (sym c.resolve.ensures) (follow-well_formed m is 4 c.args.node.now (of-well_formed m is c.args.node.now c.requires))
