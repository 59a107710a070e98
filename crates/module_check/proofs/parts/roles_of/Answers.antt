use Rattle.std.proofs.Common.{ap, ◌∙◌}
use Rattle.module_text.specs.Told.{has_use_nil, has_embed_values, has_use_order, has_use_union}
use Rattle.module_check.proofs.parts.roles_of.Goals as goal

pub returns : goal.returns
returns c = record {
  count = c.part_count.ensures;
  use_nil = c.has_use_nil.ensures ∙ ap has_use_nil c.items-marks.ensures;
  embed_values = c.has_embed_values.ensures ∙ ap has_embed_values c.items-marks.ensures;
  use_order = c.has_use_order.ensures ∙ ap has_use_order c.items-marks.ensures;
  use_union = c.has_use_union.ensures ∙ ap has_use_union c.items-marks.ensures;
}
