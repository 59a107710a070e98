use Rattle.std.proofs.Common.{◌≡◌, ap, sym, ◌∙◌, arith}
use Rattle.base_trees.specs.Rose.{roses_of, label_of}
use Rattle.module_text.specs.declared.modules.PlainAssignment.{PlainAssignment}
use Rattle.module_pieces.proofs.Kept.{each-count, each-at}
use Rattle.module_check.specs.Elements.{elements_told, content_of, content_order}
use Rattle.module_check.proofs.orders.has_content_order.Goals as goal

pub bounds-contents-number : goal.bounds-contents-number
bounds-contents-number c =
    let long = each-count (λ t (a : PlainAssignment). elements_told t ≡ content_of (label_of a.body)) c.args.context.now.contents.now c.args.context.now.assignments.now c.requires.contents in
    let below = c.in-Some.ensures.0 in
    omega (arith, long, below)

pub returns-in-Some : goal.returns-in-Some
returns-in-Some c =
    let there = each-at (λ t (a : PlainAssignment). elements_told t ≡ content_of (label_of a.body)) c.args.context.now.contents.now c.args.context.now.assignments.now c.requires.contents
    c.in-Some.number c.index-contents-number.result _ c.in-Some.ensures.0 c.index-contents-number.is c.in-Some.ensures.1 in
    c.has_order_of.ensures
    ∙ ap (content_order c.args.label.now (roses_of c.args.kids.now)) (there.2 ∙ ap (λ t. content_of (label_of t)) there.1)

pub returns-in_ok-content-in-None : goal.returns-in_ok-content-in-None
returns-in_ok-content-in-None c =
    c.has_order_of-in-None.ensures
    ∙ ap (content_order c.args.label.now (roses_of c.args.kids.now))
    (c.in_ok-content-in-None.ensures ∙ ap content_of c.label.ensures ∙ ap (λ t. content_of (label_of t)) (sym c.in-None.ensures))
