use Rattle.std.proofs.Common.{rules}
use Rattle.std.specs.Prelude.{reverse}
use Rattle.xml_read.proofs.TagTests.{unbound_is}
use Rattle.xml_read.proofs.tags.has_unbound.Goals as goal

pub returns : goal.returns
returns c = unbound_is c.args.tag.now (reverse c.args.scope.now) c.is_unbound-is_own.result c.is_any_unbound-is_any.result c.either.result (search rules) (search rules) (search rules)
