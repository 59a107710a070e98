use Rattle.std.proofs.Common.{◌∙◌, sym, subst}
use Rattle.base_trees.specs.Rose.{Allowed}
use Rattle.simple_types.specs.Labels.{MayHave}
use Rattle.xer_read.proofs.Finishing.{few-nodes, many-nodes}
use Rattle.xer_read.proofs.reading.finished.Goals as goal

pub of-requires : goal.of-requires
of-requires c =
    let (v, stands, allowed) = c.requires.made in
    subst (λ x. Allowed MayHave x) (sym (c.finish.ensures v stands)) allowed

pub returns-then-is_kept : goal.returns-then-is_kept
returns-then-is_kept c = λ v stands. (c.of.ensures ∙ c.finish.ensures v stands, few-nodes v c.args.values stands c.requires.limit (c.is_kept.ensures.0 c.if-is_kept.true))

pub returns-else-is_kept : goal.returns-else-is_kept
returns-else-is_kept c = λ v stands.
    let many = many-nodes v c.args.values stands c.requires.limit (λ few. let kept = c.is_kept.ensures.1 few in cc) in
    (many.0, c.count-count.ensures ∙ many.1)
