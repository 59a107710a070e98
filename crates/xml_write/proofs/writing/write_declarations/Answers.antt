use Rattle.xml_write.proofs.Written.{write-entry}
use Rattle.xml_write.proofs.writing.write_declarations.Goals as goal

pub entries-preserved : goal.entries-preserved
entries-preserved c = write-entry _ _ _ c.args.declared.now c.entries.space-index _ c.entries-test.true c.in_ok-write_declaration.ensures c.entries.invariant
