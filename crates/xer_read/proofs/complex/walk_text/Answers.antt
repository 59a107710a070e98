use Rattle.base_trees.specs.Rose.{roses_of}
use Rattle.simple_types.specs.Seen.{space_of}
use Rattle.validity_check.specs.Answers.{Tells, TextFault}
use Rattle.xer_read.specs.Private.Given.{IsReadAs}
use Rattle.xer_read.proofs.Putting.{part-put}
use Rattle.xer_read.proofs.complex.walk_text.Goals as goal

pub returns : goal.returns
returns c =
    part-put c.put_text.result (IsReadAs (space_of c.args.simple.now) (roses_of c.args.kids.now)) (Tells (TextFault (space_of c.args.simple.now) (roses_of c.args.kids.now) c.args.at)) c.args.values.now c.part.new.self
    c.put_text.new.values c.in_ok-part.ensures c.put_text.ensures
