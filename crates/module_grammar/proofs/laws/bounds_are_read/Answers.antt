use Rattle.module_grammar.proofs.BoundLaws.{number_range_law, size_law, class_law, fixed_law}
use Rattle.module_grammar.proofs.laws.bounds_are_read.Goals as goal

pub returns : goal.returns
returns c = record { ranges = number_range_law; sizes = size_law; classes = class_law; fixed = fixed_law }
