use Rattle.std.proofs.Common.{ap, ◌∙◌}
use Rattle.std.specs.Prelude.{bytes_eq, position}
use Rattle.std.proofs.lemmas.List.{take_all}
use Rattle.indexmap.specs.IndexMap.{get}
use Rattle.module_text.specs.declared.types.NumberedItem.{NumberedItem}
use Rattle.module_pieces.proofs.Tables.{table-more}
use Rattle.module_pieces.proofs.places.number_places.Goals as goal

pub items-preserved : goal.items-preserved
items-preserved c =
    table-more (λ (i : NumberedItem). i.identifier.name) c.args.items.now c.items.i c.index-items-i.result c.items-test.true c.index-items-i.is
    (get bytes_eq c.items.places) (get bytes_eq c.note.new.places) c.items.invariant c.in_ok-note.ensures

pub returns : goal.returns
returns c = λ r.
    c.items.invariant r ∙ ap (position (λ (i : NumberedItem). bytes_eq i.identifier.name r)) (take_all c.items.i c.args.items.now c.items-test.false)
