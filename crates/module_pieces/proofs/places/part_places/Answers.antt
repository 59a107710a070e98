use Rattle.std.proofs.Common.{ap, ◌∙◌}
use Rattle.std.specs.Prelude.{bytes_eq, position}
use Rattle.std.proofs.lemmas.List.{take_all}
use Rattle.indexmap.specs.IndexMap.{get}
use Rattle.module_text.specs.declared.types.PlainPart.{PlainPart}
use Rattle.module_pieces.proofs.Tables.{table-more}
use Rattle.module_pieces.proofs.places.part_places.Goals as goal

pub parts-preserved : goal.parts-preserved
parts-preserved c =
    table-more (λ (p : PlainPart). p.identifier) c.args.parts.now c.parts.i c.index-parts-i.result c.parts-test.true c.index-parts-i.is
    (get bytes_eq c.parts.places) (get bytes_eq c.note.new.places) c.parts.invariant c.in_ok-note.ensures

pub returns : goal.returns
returns c = λ r.
    c.parts.invariant r ∙ ap (position (λ (p : PlainPart). bytes_eq p.identifier r)) (take_all c.parts.i c.args.parts.now c.parts-test.false)
