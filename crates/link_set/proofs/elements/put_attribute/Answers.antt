use Rattle.link_set.proofs.FirstNamed as named
use Rattle.link_set.proofs.elements.put_attribute.Goals as goal

pub returns : goal.returns
returns c = named.put_attribute c.args.table.now c.insert.new.self c.args.name c.args.attribute c.in_ok-insert.ensures.updates
