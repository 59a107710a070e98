use Rattle.std.proofs.Common.{ap, sym, ◌∙◌}
use Rattle.std.proofs.lemmas.Result.{IfOk-weaker}
use Rattle.module_text.specs.Simple.{is_simple}
use Rattle.module_check.proofs.Listing.{whole}
use Rattle.module_check.proofs.type_marks.stands_for_simple.Goals as goal

pub returns : goal.returns
returns c = IfOk-weaker c.is_simple.result _ _ (λ is so. so ∙ ap (is_simple c.args.spot) (sym (whole c.args.node.now))) c.is_simple.ensures
