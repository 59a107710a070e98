use Rattle.std.proofs.Common.{rules}
use Rattle.schema_syntax.specs.Elements.{left_out_elements}
use Rattle.schema_syntax.proofs.Tables.{none_beside}
use Rattle.schema_syntax.proofs.elements.left_out_element.Goals as goal

pub returns-in_default : goal.returns-in_default
returns-in_default c = none_beside c.args.name.now left_out_elements (search rules)
