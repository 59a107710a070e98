use Rattle.std.proofs.Common.{◌∙◌, sym, rules, refl}
use Rattle.xml_read.proofs.Built.{end_stops, end_takes, flushed_scoped, flushed_inside}
use Rattle.xml_read.proofs.builder.Builder.end.Goals as goal

pub returns-in-Some-clause-err : goal.returns-in-Some-clause-err
returns-in-Some-clause-err c = (refl, sym (end_stops c.args.self.now c.args.written.now c.requires) ∙ (search rules))

pub close-requires-clause-scoped : goal.close-requires-clause-scoped
close-requires-clause-scoped c = flushed_scoped c.args.self.now c.flush.new.self c.requires c.in_ok-flush.ensures

pub close-requires-clause-inside : goal.close-requires-clause-inside
close-requires-clause-inside c = flushed_inside c.args.self.now c.flush.new.self c.args.written.now (sym (end_stops c.args.self.now c.args.written.now c.requires) ∙ (search rules)) c.in_ok-flush.ensures

pub returns-clause-ok : goal.returns-clause-ok
returns-clause-ok c = end_takes c.args.self.now c.flush.new.self c.close.new.self c.args.written.now c.args.at (sym (end_stops c.args.self.now c.args.written.now c.requires) ∙ (search rules)) c.in_ok-flush.ensures c.close.ensures
