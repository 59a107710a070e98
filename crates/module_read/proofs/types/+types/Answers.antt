use Rattle.std.proofs.Common.{refl, sym, ap, subst, ◌∙◌, ◌≡◌, ◌∷◌, [], ◌++◌, ◌<◌, ◌+◌, length, drop, arith}
use Rattle.base_trees.specs.Rose.{node, roses_of, count_all, node_count}
use Rattle.base_trees.proofs.Roses.{node_count-kids}
use Rattle.base_trees.proofs.Kids.{kid-count-le}
use Rattle.asn_types.specs.declared.types.TypeLabel.{TypeLabel}
use Rattle.module_text.specs.Texts.{parts_of}
use Rattle.module_text.specs.Faults.{part_spot}
use Rattle.module_text.specs.Meaning.{type_meant, types_meant, type_marks_meant}
use Rattle.module_read.specs.Ready.{IsTypeReady, ArePartsReady}
use Rattle.module_read.proofs.Making.{with_trees, trees_end, readied, types_more, types_end, ready_at, type_is}
use Rattle.module_read.proofs.types.+types.Goals as goal

pub type_of-form-requires-clause-references : goal.type_of-form-requires-clause-references
type_of-form-requires-clause-references t c = c.requires.table.0

pub type_of-form-requires-clause-count : goal.type_of-form-requires-clause-count
type_of-form-requires-clause-count t c = c.requires.table.1

pub type_of-form-requires-clause-label : goal.type_of-form-requires-clause-label
type_of-form-requires-clause-label t c =
    let is = ready_at c.args.assignments.now c.args.spot c.args.node.now c.label-label.result.now c.kids-kids.result.now c.label-label.ensures c.kids-kids.ensures c.requires.ready in
    is.0

pub type_of-form-requires-clause-parts : goal.type_of-form-requires-clause-parts
type_of-form-requires-clause-parts t c =
    let is = ready_at c.args.assignments.now c.args.spot c.args.node.now c.label-label.result.now c.kids-kids.result.now c.label-label.ensures c.kids-kids.ensures c.requires.ready in
    is.1

pub type_of-part_types-requires : goal.type_of-part_types-requires
type_of-part_types-requires t c =
    let label = c.label-label.result.now in
    let kids = c.kids-kids.result.now in
    let P = c.args.assignments.now in
    let is = ready_at P c.args.spot c.args.node.now label kids c.label-label.ensures c.kids-kids.ensures c.requires.ready in
    let d = c.decreases in
    let k = node_count-kids c.args.node.now in
    let same = ap (λ ks. count_all (roses_of ks)) c.kids-kids.ensures in (
      omega (arith, d, k, same),
      (
        c.requires.table,
        (c.parts_of-parts.ensures, subst (λ ps. ArePartsReady P c.args.spot label 0 ps (roses_of kids)) (sym c.parts_of-parts.ensures) is.1),
      ),
    )

pub part_types-type_of-requires : goal.part_types-type_of-requires
part_types-type_of-requires t c =
    let P = c.args.assignments.now in
    let label = c.args.label.now in
    let parts = c.args.parts.now in
    let kids = c.args.kids.now in
    let i = c.parts.i in
    let within : i < length parts = omega (arith, c.parts-test.true, c.min-count.ensures) in
    let inside : i < length kids = omega (arith, c.parts-test.true, c.min-count.ensures) in
    let part = c.index-parts-i.result in
    let kid = c.index-kids-i.result in
    let is = readied parts kids i part kid within c.index-parts-i.is inside c.index-kids-i.is P c.args.spot label c.parts.invariant.rest in
    let d = c.decreases in
    let k = kid-count-le kids i kid inside c.index-kids-i.is in
    (omega (arith, d, k), (c.requires.table, subst (λ s. IsTypeReady P s kid) (sym c.part_spot-inner.ensures) is.1))

pub part_types-parts-preserved : goal.part_types-parts-preserved
part_types-parts-preserved t c =
    let P = c.args.assignments.now in
    let label = c.args.label.now in
    let parts = c.args.parts.now in
    let kids = c.args.kids.now in
    let i = c.parts.i in
    let within : i < length parts = omega (arith, c.parts-test.true, c.min-count.ensures) in
    let inside : i < length kids = omega (arith, c.parts-test.true, c.min-count.ensures) in
    let part = c.index-parts-i.result in
    let kid = c.index-kids-i.result in
    let is = readied parts kids i part kid within c.index-parts-i.is inside c.index-kids-i.is P c.args.spot label c.parts.invariant.rest in
    record {
      types = ap (λ us. with_trees us (types_meant P c.args.spot label (i + 1) (drop (i + 1) parts) (roses_of (drop (i + 1) kids)))) c.in_ok-push.ensures.items
          ∙ types_more parts kids i part kid within c.index-parts-i.is inside c.index-kids-i.is P c.args.spot label c.parts.made.items c.in_ok-kid.kid
          (c.in_ok-kid.ensures ∙ ap (λ s. type_meant P s kid) c.part_spot-inner.ensures) c.parts.invariant.types;
      rest = is.2;
    }

pub part_types-returns : goal.part_types-returns
part_types-returns t c =
    sym (trees_end c.parts.made.items)
    ∙ ap (with_trees c.parts.made.items) (sym (types_end c.args.assignments.now c.args.spot c.args.label.now c.args.parts.now c.args.kids.now c.parts.i (omega (arith, c.parts-test.false, c.min-count.ensures))))
    ∙ c.parts.invariant.types

pub type_of-returns : goal.type_of-returns
type_of-returns t c =
    let label = c.label-label.result.now in
    let kids = c.kids-kids.result.now in
    let P = c.args.assignments.now in
    c.join.ensures
    ∙ type_is P c.args.spot c.args.node.now label kids c.in_ok-form.form c.in_ok-marks.marks (roses_of c.in_ok-types.types.items) c.label-label.ensures c.kids-kids.ensures
    c.in_ok-form.ensures (c.in_ok-marks.ensures ∙ ap (type_marks_meant c.args.spot label.form) c.items.ensures)
    (c.in_ok-types.ensures ∙ ap (λ ps. types_meant P c.args.spot label 0 ps (roses_of kids)) c.parts_of-parts.ensures)
