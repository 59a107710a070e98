use Rattle.schema_read.proofs.Words.{bindings_in, said, parts_among}
use Rattle.schema_read.proofs.Adding.{more_parts}
use Rattle.schema_read.proofs.Rooms.{parts_of_kid}
use Rattle.schema_read.proofs.reader.Reader.globals_among.Goals as goal

pub add-requires : goal.add-requires
add-requires c =
    let s = said c.args.self.setting in
    let scope = bindings_in c.args.self.scope.now in
    parts_of_kid s scope c.args.kids.now c.loop-kid.kid-index (parts_among s scope 0 c.args.kids.now) c.loop-kid.globals c.loop-kid.invariant
    c.kid-item.result c.loop-kid-test.true c.kid-item.is c.requires

pub loop-kid-preserved : goal.loop-kid-preserved
loop-kid-preserved c =
    let s = said c.args.self.setting in
    let scope = bindings_in c.args.self.scope.now in
    more_parts s scope c.args.kids.now c.loop-kid.kid-index (parts_among s scope 0 c.args.kids.now) c.loop-kid.globals c.loop-kid.invariant
    c.kid-item.result c.loop-kid-test.true c.kid-item.is c.add.new.globals c.in_ok-add.ensures
