use Rattle.std.proofs.Common.{rules}
use Rattle.xml_read.proofs.TagTests.{reserved_is}
use Rattle.xml_read.proofs.tags.has_reserved.Goals as goal

pub returns : goal.returns
returns c = reserved_is c.args.tag.now _ (search rules)
