use Rattle.std.proofs.Common.{◌||◌, map, ◌∙◌}
use Rattle.xml_pieces.specs.Found.{attribute_of}
use Rattle.xml_pieces.proofs.Repeated.{by_bound}
use Rattle.xml_pieces.proofs.duplicates.has_duplicate.Goals as goal

pub returns : goal.returns
returns c = λ scope are. (λ i. c.in_ok-is_bound.ensures i || c.in_ok-is_expanded.ensures i) ∙ by_bound scope (map attribute_of c.args.written.now) c.args.attributes.now are
