use Rattle.xml_read.proofs.Built.{flushed_scoped, flushed_inside}
use Rattle.xml_read.proofs.KnownTags.{none_against, end_taken}
use Rattle.xml_read.proofs.builder.Builder.take_end.Goals as goal

pub close-requires-clause-scoped : goal.close-requires-clause-scoped
close-requires-clause-scoped c = flushed_scoped c.args.self.now c.flush.new.self c.requires c.in_ok-flush.ensures

pub close-requires-clause-inside : goal.close-requires-clause-inside
close-requires-clause-inside c = flushed_inside c.args.self.now c.flush.new.self c.in-Some.ensures.name (none_against c.args.self.now c.in-Some.ensures.name c.requires c.in-Some.ensures.innermost) c.in_ok-flush.ensures

pub returns : goal.returns
returns c = λ at. end_taken c.args.written.now c.in-Some.behind.now c.args.self.now c.flush.new.self c.close.new.self at c.requires c.in-Some.ensures c.in_ok-flush.ensures c.close.ensures
