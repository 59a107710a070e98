use Rattle.std.proofs.Common.{ap, sym, ◌∙◌}
use Rattle.module_text.specs.declared.types.PlainForm.TheVariants as form
use Rattle.module_text.specs.Marks.{item_number}
use Rattle.module_check.proofs.type_marks.item_number.Goals as goal

pub returns-in-Words-clause-number : goal.returns-in-Words-clause-number
returns-in-Words-clause-number c =
    c.word_number.ensures.number
    ∙ ap (λ ns. item_number c.args.spot (form.Words ns) c.args.least c.args.identifier.now) c.items.ensures
    ∙ ap (λ f. item_number c.args.spot f c.args.least c.args.identifier.now) (sym c.in-Words.is)
