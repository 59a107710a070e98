use Rattle.std.proofs.Common.{ap, sym, ◌∙◌}
use Rattle.module_text.specs.declared.types.PlainLabel.{PlainLabel}
use Rattle.module_check.proofs.Listing.{shared-other, shared-none, shared-reference}
use Rattle.module_check.proofs.attributes.shared_simple.Goals as goal

pub returns-then-not-attribute : goal.returns-then-not-attribute
returns-then-not-attribute c =
    shared-none c.args.context.now.assignments.now c.args.spot c.args.node.now c.args.attribute c.if-not-attribute.true

pub returns-in-Ref : goal.returns-in-Ref
returns-in-Ref c =
    shared-reference c.args.context.now.assignments.now c.args.spot c.args.node.now c.in-Ref.reference
    (ap (λ (l : PlainLabel). l.form) (sym c.label.ensures) ∙ c.in-Ref.is)
    (λ found. found.now) c.meant_simple.result c.args.attribute c.if-not-attribute.false c.meant_simple.ensures

pub returns-in_default : goal.returns-in_default
returns-in_default c =
    shared-other c.args.context.now.assignments.now c.args.spot c.args.node.now c.args.attribute
    (λ name e. c.in_default.not-Ref name (ap (λ (l : PlainLabel). l.form) c.label.ensures ∙ e))
