use Rattle.std.proofs.Common.{◌≡◌, drop}
use Rattle.validity_rules.specs.Attributes as rule
use Rattle.validity_check.proofs.attributes.text_of.Given as goal

abbrev pub invariant-loop-found : goal.invariant-loop-found
invariant-loop-found l = rule.text_of (drop l.found-index l.attributes) l.name ≡ rule.text_of l.attributes l.name
