use Rattle.std.proofs.Common.{sym, subst}
use Rattle.asn_types.specs.Modules.{AreWellFormed}
use Rattle.asn_types.proofs.Inside.{of-well_formed, follow-well_formed}
use Rattle.per_decode.proofs.nodes.owned.Goals as goal

pub is_plain-requires : goal.is_plain-requires
is_plain-requires c =
    let m = c.args.module.now in
    let t = c.args.node.now in
    let is = c.requires.known.0 in
    subst (AreWellFormed m) (sym c.requires.found) (follow-well_formed m is 4 t (of-well_formed m is t c.requires.of))
