use Rattle.std.proofs.Common.{◌≡◌, drop}
use Rattle.validity_rules.specs.Attributes as rule
use Rattle.validity_check.proofs.tags.special.Given as goal

abbrev pub invariant-loop-found : goal.invariant-loop-found
invariant-loop-found l = rule.text_of (drop l.found-index l.attributes) (rule.xsi l.local) ≡ rule.text_of l.attributes (rule.xsi l.local)
