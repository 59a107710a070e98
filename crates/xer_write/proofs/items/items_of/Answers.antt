use Rattle.std.proofs.Common.{sym, ap, subst, ◌∙◌}
use Rattle.std.specs.Option.{option_map}
use Rattle.xml_read.specs.Sound.{AreItems}
use Rattle.xml_items.specs.Unplaced.{unplaced}
use Rattle.asn_types.specs.declared.modules.Assignment.{Assignment}
use Rattle.xer_items.specs.Items.{root_of}
use Rattle.xer_write.proofs.Giving.{body-in}
use Rattle.xer_write.proofs.Limits.{root-items, tree-told, only-item}
use Rattle.xer_write.proofs.items.items_of.Goals as goal

pub told-requires : goal.told-requires
told-requires c =
    let a = c.assignment-assignment in
    body-in c.args.module.now c.args.t a.result.now a.ensures.module a.ensures.assignment

pub into_tree-requires : goal.into_tree-requires
into_tree-requires c =
    let top = unplaced (root_of c.args.module.now c.assignment-assignment.result.now c.args.value.now) in
    (tree-told c.of_items.result c.in_ok-out.out.receiver top c.of_items.ensures.items c.of_items.ensures.begun c.in_ok-out.ensures.0).0

pub of-requires : goal.of-requires
of-requires c =
    let m = c.args.module.now in
    let v = c.args.value.now in
    let a = c.assignment-assignment in
    let top = unplaced (root_of m a.result.now v) in
    let made = tree-told c.of_items.result c.in_ok-out.out.receiver top c.of_items.ensures.items c.of_items.ensures.begun c.in_ok-out.ensures.0 in
    let items = root-items m c.args.t a.result.now v a.ensures.assignment c.requires.value c.requires.sound c.in_ok-out.ensures.1 in
    subst AreItems (sym (only-item c.into_tree.result top (sym c.into_tree.ensures ∙ made.1))) items

pub returns : goal.returns
returns c =
    let m = c.args.module.now in
    let v = c.args.value.now in
    let a = c.assignment-assignment in
    let top = unplaced (root_of m a.result.now v) in
    let made = tree-told c.of_items.result c.in_ok-out.out.receiver top c.of_items.ensures.items c.of_items.ensures.begun c.in_ok-out.ensures.0 in (
      root_of m a.result.now v,
      ap (option_map (λ (x : Assignment). root_of m x v)) a.ensures.assignment,
      c.of.ensures ∙ only-item c.into_tree.result top (sym c.into_tree.ensures ∙ made.1),
    )
