use Rattle.std.proofs.Common.{sym, ◌∙◌, map}
use Rattle.schema_components.specs.SetParts.{parts_of}
use Rattle.validity_rules.specs.Asked.{attribute_in}
use Rattle.validity_check.proofs.Firsts.{passed, all_judged}
use Rattle.validity_check.proofs.judging.wrong_at.Goals as goal

pub returns-then-is_special : goal.returns-then-is_special
returns-then-is_special c = passed (map (attribute_in (parts_of c.args.set.now)) c.args.uses.now) c.args.found.now (sym c.is_special.ensures ∙ c.if-is_special.true)

pub returns : goal.returns
returns c =
    all_judged (map (attribute_in (parts_of c.args.set.now)) c.args.uses.now) c.args.found.now (sym c.is_special.ensures ∙ c.if-is_special.false) c.fault_at.result c.fault_at.ensures
