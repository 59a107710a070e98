use Rattle.schema_components.specs.SetParts.{parts_of}
use Rattle.validity_rules.specs.Faults.{FirstFault}
use Rattle.validity_check.specs.Answers.{Tells}
use Rattle.value_builder.specs.Built.{nothing_of}
use Rattle.xer_read.proofs.Finishing.{root-valid, starts}
use Rattle.xer_read.proofs.reading.check_items.Goals as goal

pub walk_root-judged-requires-clause-stands : goal.walk_root-judged-requires-clause-stands
walk_root-judged-requires-clause-stands g c = ((nothing_of 0).kept, starts 0 c.new-values.result c.new-values.ensures)

pub returns-clause-judged : goal.returns-clause-judged
returns-clause-judged g c =
    let z = (nothing_of 0).kept in
    root-valid c.args.set.now c.args.root c.args.items.now z c.walk_root-judged.new.values c.walk_root-judged.result (Tells (FirstFault (parts_of c.args.set.now) c.args.root c.args.items.now))
    (c.walk_root-judged.ensures.judged z (starts 0 c.new-values.result c.new-values.ensures))
