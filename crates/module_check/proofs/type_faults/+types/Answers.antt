use Rattle.std.proofs.Common.{length, ap, sym, ◌∙◌, ◌<◌, arith}
use Rattle.base_trees.specs.Rose.{roses_of, count_all}
use Rattle.base_trees.proofs.Roses.{node_count-kids}
use Rattle.base_trees.proofs.Kids.{kid-count-le}
use Rattle.std.proofs.lemmas.Result.{IfOk-weaker}
use Rattle.module_text.specs.Listed.{first}
use Rattle.module_text.specs.Told.{has_attribute}
use Rattle.module_check.specs.Judging.{faults_there}
use Rattle.module_check.proofs.Firsts.{first-front, first-behind}
use Rattle.module_check.proofs.Listing.{made-there, made-own, none-when, there-front, there-behind, type-own, type-parts, parts-begun, parts-again, parts-faulty, parts-passed, parts-past}
use Rattle.module_check.proofs.type_faults.+types.Goals as goal

pub type_fault-parts_fault-requires : goal.type_fault-parts_fault-requires
type_fault-parts_fault-requires t c =
    let d = c.decreases in
    let below = node_count-kids c.args.node.now in
    let same = ap (λ ts. count_all (roses_of ts)) c.kids.ensures in
    (omega (arith, d, below, same), c.requires)

pub parts_fault-part_fault-requires : goal.parts_fault-part_fault-requires
parts_fault-part_fault-requires t c =
    let d = c.decreases in
    let lt = c.parts-test.true in
    let few = c.min-count.ensures in
    let long = ap length c.parts_of-parts.ensures in
    let in_kids : c.parts.i < length c.args.kids.now = omega (arith, lt, few) in
    let k = kid-count-le c.args.kids.now c.parts.i c.index-kids-i.result in_kids c.index-kids-i.is in
    (omega (arith, d, k), (c.requires, omega (arith, lt, few, long)))

pub behind_fault-type_fault-requires : goal.behind_fault-type_fault-requires
behind_fault-type_fault-requires t c = let d = c.decreases in (omega (arith, d), c.requires.known)

pub judged_fault-behind_fault-requires : goal.judged_fault-behind_fault-requires
judged_fault-behind_fault-requires t c = let d = c.decreases in (omega (arith, d), (c.requires.known, c.requires.simple.1))

pub behind_fault-returns-in-Some : goal.behind_fault-returns-in-Some
behind_fault-returns-in-Some t c = first-front _ _ c.in-Some.fault (sym c.in-Some.is ∙ c.in_ok-fault.ensures)

pub behind_fault-returns : goal.behind_fault-returns
behind_fault-returns t c =
    IfOk-weaker c.value_fault.result _ _
    (λ found is. first-behind _ _ found (none-when c.in_ok-fault.field-0 c.in_default.not-Some ∙ c.in_ok-fault.ensures) is)
    c.value_fault.ensures

pub judged_fault-returns-in-Some : goal.judged_fault-returns-in-Some
judged_fault-returns-in-Some t c =
    there-front c.args.context.now.assignments.now c.args.spot c.args.nameless c.args.form.now c.args.front c.args.part.now c.args.kid.now
    c.args.simple.now c.requires.simple c.label.result.now c.is_some-is_simple.result c.label.ensures c.is_some-is_simple.ensures
    c.in-Some.fault c.in-Some.ensures

pub judged_fault-returns : goal.judged_fault-returns
judged_fault-returns t c =
    IfOk-weaker c.behind_fault.result _ _
    (λ found is. there-behind c.args.context.now.assignments.now c.args.spot c.args.nameless c.args.form.now c.args.front c.args.part.now c.args.kid.now
    c.args.simple.now c.requires.simple c.label.result.now c.is_some-is_simple.result c.label.ensures c.is_some-is_simple.ensures
    found c.in_default.ensures is)
    c.behind_fault.ensures

pub part_fault-judged_fault-requires : goal.part_fault-judged_fault-requires
part_fault-judged_fault-requires t c =
    let d = c.decreases in (
      omega (arith, d),
      (
        c.requires.known,
        made-there c.args.context.now.assignments.now c.part_spot-inner.result c.args.part.now c.args.kid.now c.has_attribute-attribute.result c.in-Some.simple.now
            (c.has_attribute-attribute.ensures ∙ ap has_attribute c.items.ensures) c.in-Some.ensures,
      ),
    )

pub part_fault-judged_fault-requires-in-None : goal.part_fault-judged_fault-requires-in-None
part_fault-judged_fault-requires-in-None t c =
    let d = c.decreases in (
      omega (arith, d),
      (
        c.requires.known,
        made-own c.args.context.now.assignments.now c.part_spot-inner.result c.args.part.now c.args.kid.now c.has_attribute-attribute.result c.in_ok-own-in-None.own
            (c.has_attribute-attribute.ensures ∙ ap has_attribute c.items.ensures) c.in-None.ensures c.in_ok-own-in-None.ensures,
      ),
    )

pub part_fault-returns-in-Some : goal.part_fault-returns-in-Some
part_fault-returns-in-Some t c =
    IfOk-weaker c.judged_fault.result _ _
    (λ found is. is ∙ ap (λ s. first (faults_there c.args.context.now.assignments.now s c.args.nameless c.args.label.now.form c.args.front c.args.part.now c.args.kid.now)) c.part_spot-inner.ensures)
    c.judged_fault.ensures

pub part_fault-returns-in_ok-own-in-None : goal.part_fault-returns-in_ok-own-in-None
part_fault-returns-in_ok-own-in-None t c =
    IfOk-weaker c.judged_fault-in-None.result _ _
    (λ found is. is ∙ ap (λ s. first (faults_there c.args.context.now.assignments.now s c.args.nameless c.args.label.now.form c.args.front c.args.part.now c.args.kid.now)) c.part_spot-inner.ensures)
    c.judged_fault-in-None.ensures

pub type_fault-returns-in-Some : goal.type_fault-returns-in-Some
type_fault-returns-in-Some t c =
    type-own c.args.context.now.assignments.now c.args.spot c.args.nameless c.args.node.now c.in-Some.fault (sym c.in-Some.is ∙ c.in_ok-fault.ensures)

pub type_fault-returns : goal.type_fault-returns
type_fault-returns t c =
    IfOk-weaker c.parts_fault.result _ _
    (type-parts c.args.context.now.assignments.now c.args.spot c.args.nameless c.args.node.now c.label-label.result.now c.is_nameless-inner.result c.kids.result.now
    c.label-label.ensures c.is_nameless-inner.ensures c.kids.ensures
    (none-when c.in_ok-fault.field-0 c.in_default.not-Some ∙ c.in_ok-fault.ensures))
    c.parts_fault.ensures

pub parts_fault-parts-init : goal.parts_fault-parts-init
parts_fault-parts-init t c =
    parts-begun c.args.context.now.assignments.now c.args.spot c.args.nameless c.args.label.now _ c.parts_of-parts.result.now (roses_of c.args.kids.now)
    c.new-seen.ensures c.parts_of-parts.ensures

pub parts_fault-returns-then-is_listed : goal.parts_fault-returns-then-is_listed
parts_fault-returns-then-is_listed t c =
    parts-again c.args.context.now.assignments.now c.args.spot c.args.nameless c.args.label.now c.parts.seen c.parts.i _ c.parts_of-parts.result.now c.args.kids.now _ c.parts.invariant
    c.index-parts-i.result c.index-kids-i.result (omega (arith, c.parts-test.true, c.min-count.ensures)) (omega (arith, c.parts-test.true, c.min-count.ensures))
    c.index-parts-i.is c.index-kids-i.is (sym c.is_listed.ensures ∙ c.if-is_listed.true)

pub parts_fault-returns-in-Some : goal.parts_fault-returns-in-Some
parts_fault-returns-in-Some t c =
    parts-faulty c.args.context.now.assignments.now c.args.spot c.args.nameless c.args.label.now c.parts.seen c.parts.i _ c.parts_of-parts.result.now c.args.kids.now _ c.parts.invariant
    c.index-parts-i.result c.index-kids-i.result (omega (arith, c.parts-test.true, c.min-count.ensures)) (omega (arith, c.parts-test.true, c.min-count.ensures))
    c.index-parts-i.is c.index-kids-i.is c.is_front-front.result c.in-Some.fault (sym c.is_listed.ensures ∙ c.if-is_listed.false)
    c.is_front-front.ensures (sym c.in-Some.is ∙ c.in_ok-fault.ensures)

pub parts_fault-note-requires : goal.parts_fault-note-requires
parts_fault-note-requires t c = sym c.is_listed.ensures ∙ c.if-is_listed.false

pub parts_fault-parts-preserved : goal.parts_fault-parts-preserved
parts_fault-parts-preserved t c =
    parts-passed c.args.context.now.assignments.now c.args.spot c.args.nameless c.args.label.now c.parts.seen c.parts.i _ c.parts_of-parts.result.now c.args.kids.now _ c.parts.invariant
    c.index-parts-i.result c.index-kids-i.result (omega (arith, c.parts-test.true, c.min-count.ensures)) (omega (arith, c.parts-test.true, c.min-count.ensures))
    c.index-parts-i.is c.index-kids-i.is c.is_front-front.result _ (sym c.is_listed.ensures ∙ c.if-is_listed.false)
    c.is_front-front.ensures (none-when c.in_ok-fault.field-0 c.in_default.not-Some ∙ c.in_ok-fault.ensures) c.in_ok-note.ensures

pub parts_fault-returns : goal.parts_fault-returns
parts_fault-returns t c =
    parts-past c.args.context.now.assignments.now c.args.spot c.args.nameless c.args.label.now c.parts.seen c.parts.i _ c.parts_of-parts.result.now c.args.kids.now _ c.parts.invariant
    (omega (arith, c.parts-test.false, c.min-count.ensures))
