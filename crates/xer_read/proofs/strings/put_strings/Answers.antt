use Rattle.std.proofs.Common.{map, false}
use Rattle.base_trees.specs.Rose.{roses_of}
use Rattle.simple_types.specs.declared.labels.ValueLabel.TheVariants as label
use Rattle.xer_read.specs.Private.Keeping.{text_value, strings_from}
use Rattle.xer_read.proofs.Putting.{items-put}
use Rattle.xer_read.proofs.strings.put_strings.Goals as goal

pub returns : goal.returns
returns c =
    rw c.if-nil.false
    (items-put label.SequenceOf (map text_value (strings_from false (roses_of c.args.kids.now))) c.args.values.now c.open.new.self c.put_each_string.new.values c.close.new.self
    c.in_ok-open.ensures c.in_ok-put_each_string.ensures c.close.ensures)
