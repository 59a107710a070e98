use Rattle.std.proofs.Common.{◌-◌, arith}
use Rattle.link_set.proofs.FirstNamed.{same_name, one_more}
use Rattle.link_set.proofs.elements.AttributeNames.of.Goals as goal

pub last_first-preserved : goal.last_first-preserved
last_first-preserved c =
    let within = c.last_first.invariant.0 in
    let above = c.last_first-test.true in
    let written = c.args.written.now in
    let attributes = c.args.attributes.now in
    let one = c.index-written-i.result in
    let attribute = c.index-attributes-i.result in
    let same = same_name written attributes (c.last_first.i - 1) one attribute c.requires (omega (arith, within, above)) c.index-written-i.is c.index-attributes-i.is in (
      omega (arith, within, above),
      one_more attributes c.last_first.i attribute above within c.index-attributes-i.is c.last_first.named c.put_attribute.new.table one.attribute.now.name same
          c.last_first.invariant.1 c.in_ok-put_attribute.ensures,
    )
