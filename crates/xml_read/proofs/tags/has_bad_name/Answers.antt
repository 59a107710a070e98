use Rattle.std.proofs.Common.{rules}
use Rattle.std.specs.Prelude.{not}
use Rattle.xml_read.proofs.TagTests.{bad_is}
use Rattle.xml_read.proofs.tags.has_bad_name.Goals as goal

pub returns : goal.returns
returns c = bad_is c.args.tag.now (not c.is_qname-is_own.result) c.is_any_bad-is_any.result c.either.result (search rules) (search rules) (search rules)
