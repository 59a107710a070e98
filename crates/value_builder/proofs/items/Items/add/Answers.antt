use Rattle.std.proofs.Common.{arith}
use Rattle.value_builder.proofs.Summing.{length-one_more, count_all-one_more}
use Rattle.value_builder.proofs.items.Items.add.Goals as goal

pub returns : goal.returns
returns c values counted =
    let more = length-one_more values c.args.value.now in
    let nodes = count_all-one_more values c.args.value.now in
    let own = c.count.ensures in
    let first = c.saturating_add-self.ensures in
    let second = c.saturating_add-self-2.ensures in
    let length_is = counted.0 in
    let nodes_are = counted.1 in
    (omega (arith, more, length_is, first), omega (arith, nodes, nodes_are, own, second))
