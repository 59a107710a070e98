use Rattle.std.proofs.Common.{ap, ◌∙◌}
use Rattle.std.specs.Prelude.{bytes_eq, position}
use Rattle.std.proofs.lemmas.List.{take_all}
use Rattle.indexmap.specs.IndexMap.{get}
use Rattle.module_text.specs.declared.types.PlainName.{PlainName}
use Rattle.module_pieces.proofs.Tables.{table-more}
use Rattle.module_pieces.proofs.places.word_places.Goals as goal

pub names-preserved : goal.names-preserved
names-preserved c =
    table-more (λ (i : PlainName). i.name) c.args.names.now c.names.i c.index-names-i.result c.names-test.true c.index-names-i.is
    (get bytes_eq c.names.places) (get bytes_eq c.note.new.places) c.names.invariant c.in_ok-note.ensures

pub returns : goal.returns
returns c = λ r.
    c.names.invariant r ∙ ap (position (λ (i : PlainName). bytes_eq i.name r)) (take_all c.names.i c.args.names.now c.names-test.false)
