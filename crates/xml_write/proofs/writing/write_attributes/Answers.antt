use Rattle.xml_write.specs.Written.{written_attribute}
use Rattle.xml_write.proofs.Written.{write-item}
use Rattle.xml_write.proofs.writing.write_attributes.Goals as goal

pub attributes-preserved : goal.attributes-preserved
attributes-preserved c =
    write-item (written_attribute c.args.prefixes.now) _ _ _ _ _ _ c.attributes-test.true c.entry-item.is c.in_ok-write_attribute.ensures c.attributes.invariant
