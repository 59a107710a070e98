use Rattle.std.proofs.Common.{sym, ◌∙◌, arith}
use Rattle.base_trees.proofs.Kids.{kid-count-le}
use Rattle.base_trees.proofs.Roses.{node_count-kids}
use Rattle.schema_syntax.specs.Scopes.{bindings_in}
use Rattle.schema_faults.proofs.Walked.{kid_passed, kid_found, skipped_at, refused_at, part_at, own_found, own_passed}
use Rattle.schema_faults.proofs.checker.Checker.+faults.Goals as goal

pub fault_among-fault_at-requires : goal.fault_among-fault_at-requires
fault_among-fault_at-requires t c =
    let d = c.decreases in
    let k = kid-count-le c.args.kids.now c.loop-kid.kid-index c.kid-item.result c.loop-kid-test.true c.kid-item.is in
    (omega (arith, d, k), tt)

pub fault_among-returns-then-is_some : goal.fault_among-returns-then-is_some
fault_among-returns-then-is_some t c =
    kid_found c.args.parent c.loop-kid.before (bindings_in c.args.self.scope.now) c.args.self.level c.args.kids.now c.loop-kid.kid-index c.kid-item.result c.loop-kid-test.true c.kid-item.is
    c.in_ok-found.found c.in_ok-found.ensures (sym c.is_some.ensures ∙ c.if-is_some.true) ∙ c.loop-kid.invariant

pub fault_among-loop-kid-preserved : goal.fault_among-loop-kid-preserved
fault_among-loop-kid-preserved t c =
    rw (c.position_behind-before.ensures, c.label.ensures)
    (kid_passed c.args.parent c.loop-kid.before (bindings_in c.args.self.scope.now) c.args.self.level c.args.kids.now c.loop-kid.kid-index c.kid-item.result c.loop-kid-test.true c.kid-item.is
    c.in_ok-found.found c.in_ok-found.ensures (sym c.is_some.ensures ∙ c.if-is_some.false) ∙ c.loop-kid.invariant)

pub fault_at-returns-in-Skipped : goal.fault_at-returns-in-Skipped
fault_at-returns-in-Skipped t c =
    skipped_at c.args.parent c.args.before (bindings_in c.args.self.scope.now) c.args.self.level c.args.tree.now c.in-Element.name c.in-Element.attributes c.in-Element.declares c.in-Element.at
    (sym c.label.ensures ∙ c.in-Element.is) c.in-Skipped.ensures

pub fault_at-returns-in-Refused : goal.fault_at-returns-in-Refused
fault_at-returns-in-Refused t c =
    refused_at c.args.parent c.args.before (bindings_in c.args.self.scope.now) c.args.self.level c.args.tree.now c.in-Element.name c.in-Element.attributes c.in-Element.declares c.in-Element.at
    (sym c.label.ensures ∙ c.in-Element.is) c.in-Refused.why c.fault_if-in-Refused.result c.in-Refused.ensures c.fault_if-in-Refused.ensures

pub fault_at-returns-in-Placed : goal.fault_at-returns-in-Placed
fault_at-returns-in-Placed t c =
    let same = part_at c.args.parent c.args.before (bindings_in c.args.self.scope.now) c.args.self.level c.args.tree.now c.in-Element.name c.in-Element.attributes c.in-Element.declares c.in-Element.at
    (sym c.label.ensures ∙ c.in-Element.is) c.in-Placed.part c.in-Placed.ensures in
    rw (← same) c.fault_of.ensures

pub fault_of-returns-then-is_some : goal.fault_of-returns-then-is_some
fault_of-returns-then-is_some t c =
    own_found c.args.role (bindings_in c.args.self.scope.now) c.args.self.level c.args.tree.now c.in-Element.name c.in-Element.attributes c.in-Element.declares c.in-Element.at
    (sym c.label.ensures ∙ c.in-Element.is) c.in_ok-found.found (rw (c.in_ok-inside.ensures, c.items.ensures, c.kids.ensures) at c.in_ok-found.ensures)
    c.fault_if.result (sym c.is_some.ensures ∙ c.if-is_some.true) c.fault_if.ensures

pub fault_of-fault_among-requires : goal.fault_of-fault_among-requires
fault_of-fault_among-requires t c =
    let d = c.decreases in
    let k = node_count-kids c.args.tree.now in
    (rw c.kids-2.ensures (omega (arith, d, k)), tt)

pub fault_of-returns : goal.fault_of-returns
fault_of-returns t c =
    let found = rw (c.in_ok-inside.ensures, c.items.ensures, c.kids.ensures) at c.in_ok-found.ensures in
    let same = own_passed c.args.role (bindings_in c.args.self.scope.now) c.args.self.level c.args.tree.now c.in-Element.name c.in-Element.attributes c.in-Element.declares c.in-Element.at
    (sym c.label.ensures ∙ c.in-Element.is) c.in_ok-found.found found (sym c.is_some.ensures ∙ c.if-is_some.false) (sym c.is_composition.ensures ∙ c.if-is_composition.false) in
    rw (← same) (rw (c.in_ok-inside.ensures, c.level_inside.ensures, c.kids-2.ensures) at c.fault_among.ensures)
