use Rattle.std.proofs.Common.{◌≡◌, ap, ◌∙◌, subst}
use Rattle.std.proofs.lemmas.List.{take_all}
use Rattle.base_trees.specs.Rose.{label_of}
use Rattle.module_text.specs.declared.modules.PlainAssignment.{PlainAssignment}
use Rattle.module_pieces.proofs.Kept.{each-more}
use Rattle.module_check.specs.Elements.{elements_told, content_of}
use Rattle.module_check.specs.Known.{AreContents}
use Rattle.module_check.proofs.orders.contents_of.Goals as goal

pub assignments-preserved : goal.assignments-preserved
assignments-preserved c =
    each-more (λ t (a : PlainAssignment). elements_told t ≡ content_of (label_of a.body)) c.assignments.contents.items _ c.args.assignments.now
    c.assignments.assignment-index _ c.assignment-item.result c.assignments-test.true c.assignment-item.is c.assignments.invariant
    (c.in_ok-of.ensures ∙ ap content_of c.label.ensures) c.in_ok-push.ensures.items

pub returns : goal.returns
returns c =
    subst (AreContents c.assignments.contents.items) (take_all c.assignments.assignment-index c.args.assignments.now c.assignments-test.false)
    c.assignments.invariant
