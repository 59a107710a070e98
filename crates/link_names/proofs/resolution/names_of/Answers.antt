use Rattle.link_names.proofs.Resolving.{one_name}
use Rattle.link_names.proofs.resolution.names_of.Goals as goal

pub globals-preserved : goal.globals-preserved
globals-preserved c =
    one_name c.args.globals.now c.globals.global-index c.global-item.result c.globals.names c.insert.new.self c.globals-test.true c.global-item.is
    c.globals.invariant c.in_ok-insert.ensures.updates
