use Rattle.std.proofs.Common.{ap, ◌∙◌}
use Rattle.asn_types.specs.Spaces.{space_at}
use Rattle.simple_types.specs.Seen.{space_of}
use Rattle.module_print.proofs.Standards.{spelling-sound}
use Rattle.module_print.proofs.values.write_default.Goals as goal

pub accept-requires : goal.accept-requires
accept-requires c =
    spelling-sound c.args.module.now c.args.tree.now c.args.text.now (space_of c.in_ok-simple.simple) c.requires (c.in_ok-simple.ensures ∙ ap space_at c.resolve-meant.ensures)
