use Rattle.std.proofs.Common.{rules}
use Rattle.xml_read.proofs.TagTests.{long_is}
use Rattle.xml_read.proofs.tags.has_long_name.Goals as goal

pub returns : goal.returns
returns c = long_is c.args.tag.now c.is_long-is_own.result c.is_any_long-is_any.result c.is_any_space_long-is_space.result _ (search rules) (search rules) (search rules) (search rules)
