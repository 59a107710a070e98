use Rattle.std.proofs.Common.{sym, subst, arith}
use Rattle.module_text.specs.declared.modules.PlainAssignment.{PlainAssignment}
use Rattle.module_pieces.specs.Indexed.{IsKept, Indexes, AreIndexes}
use Rattle.module_pieces.proofs.Kept.{each-count, each-at}
use Rattle.module_check.proofs.references.References.index_meant.Goals as goal

pub bounds-indexes-number : goal.bounds-indexes-number
bounds-indexes-number c =
    let known = subst (λ is. AreIndexes is c.args.assignments.now) (sym c.as_slice-indexes.ensures.value) c.requires.indexes in
    let long = each-count (λ kept (a : PlainAssignment). IsKept kept a.body) c.as_slice-indexes.result.now c.args.assignments.now known in
    let below = c.in_ok-number.ensures.0 in
    omega (arith, long, below)

pub returns-in-Some : goal.returns-in-Some
returns-in-Some c =
    let known = subst (λ is. AreIndexes is c.args.assignments.now) (sym c.as_slice-indexes.ensures.value) c.requires.indexes in
    let there = each-at (λ kept (a : PlainAssignment). IsKept kept a.body) c.as_slice-indexes.result.now c.args.assignments.now known
    c.in_ok-number.number c.index-indexes-number.result _ c.in_ok-number.ensures.0 c.index-indexes-number.is c.in_ok-number.ensures.1 in
    let kept = subst (λ o. IsKept o there.0.body) c.in-Some.is there.2 in
    subst (Indexes c.in-Some.index) there.1 kept.1
