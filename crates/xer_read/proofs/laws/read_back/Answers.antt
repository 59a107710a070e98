use Rattle.xer_read.proofs.Again.{read-back}
use Rattle.xer_read.proofs.laws.read_back.Goals as goal

pub returns : goal.returns
returns c = read-back c.at_most_one.ensures c.items_of_values.ensures c.one_value.ensures
