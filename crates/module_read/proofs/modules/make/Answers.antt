use Rattle.module_read.proofs.Readiness.{ready}
use Rattle.module_read.proofs.Room.{few}
use Rattle.module_read.proofs.modules.make.Goals as goal

pub make_ready-requires : goal.make_ready-requires
make_ready-requires c = record {
  count = few c.args.assignments.now c.requires.short;
  ready = ready c.args.assignments.now c.requires.plain c.requires.faultless c.requires.short;
}
