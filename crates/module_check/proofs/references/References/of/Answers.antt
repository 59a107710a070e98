use Rattle.std.proofs.Common.{ap, ◌∙◌}
use Rattle.std.specs.Prelude.{bytes_eq}
use Rattle.std.proofs.lemmas.List.{take_all}
use Rattle.indexmap.specs.IndexMap.{get}
use Rattle.module_text.specs.Resolving.{number_of}
use Rattle.module_check.proofs.Tables.{table-more}
use Rattle.module_check.proofs.references.References.of.Goals as goal

pub assignments-preserved : goal.assignments-preserved
assignments-preserved c =
    table-more c.args.assignments.now c.assignments.i c.index-assignments-i.result c.assignments-test.true c.index-assignments-i.is
    (get bytes_eq c.assignments.numbers) (get bytes_eq c.note.new.numbers) c.assignments.invariant c.in_ok-note.ensures

pub returns : goal.returns
returns c = record {
  numbers = λ r. c.assignments.invariant r ∙ ap (λ Q. number_of Q r) (take_all c.assignments.i c.args.assignments.now c.assignments-test.false);
  indexes = c.in_ok-indexes.ensures;
}
