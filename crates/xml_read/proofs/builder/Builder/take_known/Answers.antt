use Rattle.std.proofs.Common.{subst}
use Rattle.std.specs.Prelude.{IsUtf8}
use Rattle.xml_read.proofs.KnownTags.{end_or_none, tag_within, start_or_none, start_or_stops}
use Rattle.xml_read.proofs.builder.Builder.take_known.Goals as goal

pub returns-in-Some-clause-ok : goal.returns-in-Some-clause-ok
returns-in-Some-clause-ok c = end_or_none c.args.rest.now c.in-Some.written.now c.args.at c.args.self.now c.take_end.new.self c.in_ok-behind.behind c.in-Some.ensures c.in_ok-behind.ensures

pub take_start-requires-clause-utf8 : goal.take_start-requires-clause-utf8
take_start-requires-clause-utf8 c = subst IsUtf8 c.in-Some-past_less.ensures c.requires.utf8

pub take_start-requires-clause-place : goal.take_start-requires-clause-place
take_start-requires-clause-place c = tag_within c.args.rest.now c.in-Some-past_less.tag.now c.args.at c.in-Some-past_less.ensures c.requires.place

pub returns-in-Some-past_less-clause-ok : goal.returns-in-Some-past_less-clause-ok
returns-in-Some-past_less-clause-ok c = start_or_none c.args.rest.now c.in-Some-past_less.tag.now c.args.at c.args.self.now c.take_start.new.self c.take_start.result c.in-Some-past_less.ensures c.take_start.ensures.ok

pub returns-in-Some-past_less-clause-err : goal.returns-in-Some-past_less-clause-err
returns-in-Some-past_less-clause-err c = start_or_stops c.args.rest.now c.in-Some-past_less.tag.now c.args.at c.args.self.now c.take_start.result c.in-Some-past_less.ensures c.take_start.ensures.err
