use Rattle.std.proofs.Common.{rules}
use Rattle.xml_read.proofs.Noted.{none_noted}
use Rattle.xml_read.proofs.builder.Builder.new.Goals as goal

pub returns : goal.returns
returns c = record {
  steps = search rules;
  scoped = record { scope_is = search rules; named = search rules; nodes = search rules; noted = none_noted _ _ _ _ c.new-notes.ensures.written c.new-notes.ensures.names };
}
