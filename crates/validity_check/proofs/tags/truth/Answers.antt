use Rattle.std.proofs.Common.{sym, ◌∙◌, ap}
use Rattle.base_trees.specs.Rose.{label_of}
use Rattle.simple_types.specs.Seen.{space_of}
use Rattle.base_texts.specs.WhiteSpace.{treated}
use Rattle.base_texts.specs.declared.white_space.WhiteSpace.TheVariants.{Collapse}
use Rattle.simple_types.specs.Lexical.{boolean_of}
use Rattle.simple_types.specs.Reading.{reads}
use Rattle.validity_check.proofs.Truths.{is_true_or_false, is_no_other, is_bad, is_not_wide}
use Rattle.validity_check.proofs.tags.truth.Goals as goal

pub accept-requires : goal.accept-requires
unfolding space_of reads treated
accept-requires c = tt

pub returns-in-Bool : goal.returns-in-Bool
unfolding space_of reads treated
returns-in-Bool c = is_true_or_false (boolean_of (treated Collapse c.args.text.now)) c.in-Ok.value c.in-Bool.b c.in-Ok.ensures (ap label_of (sym c.root.ensures) ∙ sym c.label.ensures ∙ c.in-Bool.is)

pub returns-in-Ok : goal.returns-in-Ok
unfolding space_of reads treated
returns-in-Ok c = absurd (is_no_other (boolean_of (treated Collapse c.args.text.now)) c.in-Ok.value c.in-Ok.ensures (λ b e. c.in_default.not-Bool b (c.label.ensures ∙ ap label_of c.root.ensures ∙ e)))

pub returns-in-Err-BadText : goal.returns-in-Err-BadText
unfolding space_of reads treated
returns-in-Err-BadText c = is_bad (boolean_of (treated Collapse c.args.text.now)) (rw c.in-Err-BadText.field-0-is at c.in-Err-BadText.ensures)

pub returns-in-Err-TooWide : goal.returns-in-Err-TooWide
unfolding space_of reads treated
returns-in-Err-TooWide c = absurd (is_not_wide (boolean_of (treated Collapse c.args.text.now)) (rw c.in-Err-TooWide.field-0-is at c.in-Err-TooWide.ensures))
