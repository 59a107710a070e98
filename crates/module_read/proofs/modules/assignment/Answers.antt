use Rattle.std.proofs.Common.{sym, subst}
use Rattle.base_trees.specs.Rose.{Allowed}
use Rattle.asn_types.specs.Parts.{MayHave}
use Rattle.module_text.specs.declared.spots.Spot.TheVariants.{Elsewhere}
use Rattle.module_read.proofs.Making.{allowed}
use Rattle.module_read.proofs.modules.assignment.Goals as goal

pub of-requires : goal.of-requires
of-requires c =
    subst (Allowed MayHave) (sym c.in_ok-body.ensures)
    (allowed c.args.assignments.now Elsewhere c.args.plain.now.body c.requires.ready.1)

pub type_of-requires-clause-table : goal.type_of-requires-clause-table
type_of-requires-clause-table c = (c.requires.references, c.requires.count)
