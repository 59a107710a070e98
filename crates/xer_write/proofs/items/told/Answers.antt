use Rattle.std.proofs.Common.{sym, subst}
use Rattle.xer_write.specs.Private.Receiving.{name_seen}
use Rattle.xer_write.specs.Private.Giving.{IsTypeIn, HasTold}
use Rattle.xer_write.proofs.Limits.{root-told}
use Rattle.xer_write.proofs.items.told.Goals as goal

pub gather_element-requires : goal.gather_element-requires
gather_element-requires c = subst (IsTypeIn c.args.module.now) (sym c.root.ensures.root) c.requires

pub returns : goal.returns
returns c =
    let m = c.args.module.now in
    let a = c.args.assignment.now in
    let v = c.args.value.now in
    subst (λ r. HasTold m a v r c.gather_element.new.out) c.new-out.ensures.receiver
    (root-told m a v c.new-out.result c.gather_element.new.out c.root.result.now c.root-2.result (name_seen c.of_assignment-name.result)
    c.root.ensures.root c.root-2.ensures.root c.new-out.ensures.texts c.of_assignment-name.ensures c.in_ok-gather_element.ensures)
