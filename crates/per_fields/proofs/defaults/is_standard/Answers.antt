use Rattle.std.proofs.Common.{sym, subst}
use Rattle.base_trees.specs.Rose.{Allowed}
use Rattle.asn_types.specs.Parts.{MayHave}
use Rattle.asn_types.specs.Refs.{resolve}
use Rattle.asn_types.proofs.Chaining.{of-allowed, resolved-of-module}
use Rattle.per_fields.proofs.defaults.is_standard.Goals as goal

pub spelling-requires : goal.spelling-requires
spelling-requires c =
    let m = c.args.module.now in
    let t = c.args.kid.now in
    subst (Allowed MayHave) (sym c.resolve.ensures) (of-allowed m c.requires.known (resolve m t) (resolved-of-module m t c.requires.of))
