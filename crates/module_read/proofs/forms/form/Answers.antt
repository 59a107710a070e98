use Rattle.std.proofs.Common.{sym, ap, subst, ◌∙◌}
use Rattle.base_trees.specs.Rose.{roses_of}
use Rattle.module_text.specs.Texts.{parts_of}
use Rattle.module_read.specs.Ready.{components_told, ArePartsSpelled, ArePartsReady}
use Rattle.module_read.proofs.Making.{parts_spelled, sequence_meant, choice_meant}
use Rattle.module_read.proofs.forms.form.Goals as goal

pub components-requires-clause-parts : goal.components-requires-clause-parts
components-requires-clause-parts c =
    let P = c.args.assignments.now in
    let ts = roses_of c.args.kids.now in
    let ready = subst (λ f. ArePartsReady P c.args.spot c.args.label.now 0 (parts_of f) ts) c.in-Sequence.is c.requires.parts in
    subst (λ ps. ArePartsSpelled P ps ts) (sym c.items-in-Sequence.ensures) (parts_spelled P c.args.spot c.args.label.now 0 c.in-Sequence.parts ts ready)

pub returns-in_ok-parts-in-Sequence : goal.returns-in_ok-parts-in-Sequence
returns-in_ok-parts-in-Sequence c =
    let P = c.args.assignments.now in
    let ts = roses_of c.args.kids.now in
    sequence_meant P c.args.spot c.args.label.now ts c.in-Sequence.parts c.in_ok-parts-in-Sequence.parts c.in-Sequence.is c.requires.parts
    (c.in_ok-parts-in-Sequence.ensures ∙ ap (λ ps. components_told P ps ts) c.items-in-Sequence.ensures)

pub components-requires-in-Choice-clause-parts : goal.components-requires-in-Choice-clause-parts
components-requires-in-Choice-clause-parts c =
    let P = c.args.assignments.now in
    let ts = roses_of c.args.kids.now in
    let ready = subst (λ f. ArePartsReady P c.args.spot c.args.label.now 0 (parts_of f) ts) c.in-Choice.is c.requires.parts in
    subst (λ ps. ArePartsSpelled P ps ts) (sym c.items-in-Choice.ensures) (parts_spelled P c.args.spot c.args.label.now 0 c.in-Choice.parts ts ready)

pub returns-in_ok-parts-in-Choice : goal.returns-in_ok-parts-in-Choice
returns-in_ok-parts-in-Choice c =
    let P = c.args.assignments.now in
    let ts = roses_of c.args.kids.now in
    choice_meant P c.args.spot c.args.label.now ts c.in-Choice.parts c.in_ok-parts-in-Choice.parts c.in-Choice.is c.requires.parts
    (c.in_ok-parts-in-Choice.ensures ∙ ap (λ ps. components_told P ps ts) c.items-in-Choice.ensures)
