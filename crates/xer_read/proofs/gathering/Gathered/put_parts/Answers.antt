use Rattle.std.proofs.Common.{◌≤◌, ◌∙◌, sym, subst}
use Rattle.base_trees.specs.Rose.{roses_of, count_all}
use Rattle.value_builder.specs.Built.{with_parts}
use Rattle.value_builder.proofs.Counts.{count-with_parts}
use Rattle.xer_read.specs.Private.Slots.{flags_of, values_of}
use Rattle.xer_read.proofs.Slots.{nodes-counted}
use Rattle.xer_read.proofs.Unkept.{kept-some}
use Rattle.xer_read.proofs.gathering.Gathered.put_parts.Goals as goal

pub returns-else-has_room : goal.returns-else-has_room
returns-else-has_room c = λ numbers children keeps.
    let any : 1 ≤ c.args.self.most = subst (λ n. 1 ≤ n) (sym c.requires.most) (kept-some c.keeps_nothing.result c.args.values.now.most c.keeps_nothing.ensures c.if-keeps_nothing.false) in
    c.count_alone.ensures (with_parts (flags_of children) (values_of children)) (count_all (roses_of (values_of children)))
    (keeps.nodes_are any ∙ nodes-counted c.args.self.slots.items children (keeps.slots_are any)) (count-with_parts (flags_of children) (values_of children))
