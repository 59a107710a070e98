use Rattle.link_names.proofs.Numbering.{put_named}
use Rattle.link_simple.proofs.declared.put_name.Goals as goal

pub returns : goal.returns
returns c = λ a. put_named c.args.table.now c.insert.new.self c.args.name c.args.n c.in_ok-insert.ensures.updates a
