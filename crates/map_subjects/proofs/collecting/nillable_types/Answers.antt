use Rattle.std.proofs.Common.{◌≤◌, subst, ◌∙◌}
use Rattle.map_subjects.proofs.Marks.{marked-none, marked-next, marked-all, has-mark}
use Rattle.map_subjects.proofs.collecting.nillable_types.Goals as goal

pub elements-init : goal.elements-init
elements-init c =
    (c.in_ok-marks.ensures.length ∙ c.complex_count.ensures, marked-none c.args.set.now c.in_ok-marks.marks.items c.in_ok-marks.ensures.marks)

pub mark_type-requires : goal.mark_type-requires
mark_type-requires c =
    has-mark c.args.set.now c.elements.decl c.element.result.now c.elements.marks.items c.requires c.element.ensures c.elements.invariant.0

pub elements-preserved : goal.elements-preserved
elements-preserved c = (
  c.mark_type.ensures.length ∙ c.elements.invariant.0,
  marked-next c.args.set.now c.elements.decl c.element.result.now c.elements.marks.items c.mark_type.new.marks.items c.element.ensures c.mark_type.ensures.marks c.elements.invariant.1,
)

pub returns : goal.returns
returns c =
    let past = subst (λ m. m ≤ c.elements.decl) c.element_count-decl-end.ensures.count c.elements-test.false in
    marked-all c.args.set.now c.elements.decl c.elements.marks.items past c.elements.invariant.1
