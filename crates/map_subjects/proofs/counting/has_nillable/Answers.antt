use Rattle.map_subjects.proofs.Earlier.{any-found, any-not}
use Rattle.map_subjects.proofs.counting.has_nillable.Goals as goal

pub returns-then-is_nillable_of : goal.returns-then-is_nillable_of
returns-then-is_nillable_of c =
    any-found c.args.set.now c.elements.decl c.args.n c.element.result.now c.is_nillable_of.result c.element.ensures c.is_nillable_of.ensures c.if-is_nillable_of.true c.elements.invariant

pub elements-preserved : goal.elements-preserved
elements-preserved c =
    any-not c.args.set.now c.elements.decl c.args.n c.element.result.now c.is_nillable_of.result c.element.ensures c.is_nillable_of.ensures c.if-is_nillable_of.false c.elements.invariant
