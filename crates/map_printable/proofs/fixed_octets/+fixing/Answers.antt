use Rattle.std.proofs.Common.{take, All, sym, subst, arith}
use Rattle.base_trees.specs.Rose.{roses_of}
use Rattle.base_trees.proofs.Roses.{node_count-kids}
use Rattle.base_trees.proofs.Kids.{kid-count-le, take-more_kid}
use Rattle.asn_types.specs.declared.types.Component.{Component}
use Rattle.asn_types.specs.declared.types.TypeLabel.{TypeLabel}
use Rattle.asn_types.specs.Parts.{parts_of}
use Rattle.module_print.specs.Names.{HasOctets}
use Rattle.map_printable.specs.Maps.{HaveFixedOctets}
use Rattle.map_printable.proofs.FixedOctets.{seen-push, seen-node}
use Rattle.map_printable.proofs.fixed_octets.+fixing.Goals as goal

pub see_kids-see_type-requires : goal.see_kids-see_type-requires
see_kids-see_type-requires t c =
    let d = c.decreases in
    let k = kid-count-le c.args.kids.now c.kids.kid-index c.kid-item.result c.kids-test.true c.kid-item.is in
    (omega (arith, d, k), tt)

pub see_kids-kids-preserved : goal.see_kids-kids-preserved
see_kids-kids-preserved t c =
    let kids = c.args.kids.now in
    let i = c.kids.kid-index in
    let kid = c.kid-item.result in
    subst (λ ts. HaveFixedOctets (roses_of ts)) (sym (take-more_kid kids i kid c.kids-test.true c.kid-item.is)) (seen-push (take i kids) kid c.kids.invariant c.see_type.ensures)

pub see_type-see_kids-requires : goal.see_type-see_kids-requires
see_type-see_kids-requires t c =
    let d = c.decreases in
    let k = node_count-kids c.args.node.now in
    (rw c.kids.ensures (omega (arith, d, k)), tt)

pub see_type-returns : goal.see_type-returns
see_type-returns t c =
    seen-node c.args.node.now (subst (λ (l : TypeLabel). All (λ (part : Component). HasOctets part.standard) (parts_of l.form)) c.label.ensures c.see_form.ensures)
    (subst (λ ts. HaveFixedOctets (roses_of ts)) c.kids.ensures c.see_kids.ensures)
