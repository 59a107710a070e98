use Rattle.std.proofs.Common.{subst, sym}
use Rattle.std.specs.Prelude.{◌↔◌, IsTrue, IfOk}
use Rattle.base_trees.specs.Rose.{label_of}
use Rattle.asn_types.specs.Modules.{AreWellFormed}
use Rattle.asn_values.specs.Values.{OwnAt}
use Rattle.asn_types.proofs.Inside.{of-well_formed, follow-well_formed}
use Rattle.asn_values.proofs.rules.own.Goals as goal

pub own_at-requires : goal.own_at-requires
own_at-requires c =
    let m = c.args.module.now in
    let is = c.count.ensures.module in
    subst (AreWellFormed m) (sym c.resolve.ensures) (follow-well_formed m is 4 c.args.node.now (of-well_formed m is c.args.node.now c.requires))

pub returns : goal.returns
returns c =
    let m = c.args.module.now in
    subst (λ t. IfOk c.own_at.result (λ b. IsTrue b ↔ OwnAt m (label_of t) t c.args.value.now)) c.resolve.ensures c.own_at.ensures
