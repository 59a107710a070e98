use Rattle.std.proofs.Common.{◌<◌, length, rules, ap, sym, subst, ◌∙◌, arith}
use Rattle.base_trees.specs.Rose.{count_all, roses_of, AllowedAll}
use Rattle.base_trees.proofs.Kids.{kid-count-le, kid-allowed}
use Rattle.base_trees.proofs.Roses.{node_count-kids, allowed-label, allowed-kids}
use Rattle.asn_types.specs.Parts.{parts_of, MayHave}
use Rattle.module_print.proofs.Standards.{well_formed-kids, standards-kids, kid-well_formed, standard-at}
use Rattle.module_print.proofs.Typing.{still_indented, indented, on_ok, written-type, block-parts, parts-end}
use Rattle.module_print.proofs.types.+types.Goals as goal

pub write_type-write_form-requires : goal.write_type-write_form-requires
write_type-write_form-requires t c =
    let tree = c.args.tree.now in
    let is = c.label-label.ensures in
    let below = c.kids.ensures in
    let now = c.decreases in
    let fewer = ap (λ ts. count_all (roses_of ts)) below in
    let all = node_count-kids tree in (
      omega (arith, now, fewer, all),
      (
        ap length below ∙ allowed-label MayHave tree c.requires.allowed ∙ sym (ap (λ l. length (parts_of l.form)) is),
        (
          subst (λ ts. AllowedAll MayHave (roses_of ts)) (sym below) (allowed-kids MayHave tree c.requires.allowed),
          (
            well_formed-kids c.args.module.now tree c.kids.result.now below c.requires.sound,
            (
              standards-kids c.args.module.now tree c.label-label.result.now c.kids.result.now is below c.requires.sound,
              still_indented c.args.levels c.args.out.now.items _ _ c.in_ok-write_prefixes.ensures c.requires.indented,
            ),
          ),
        ),
      ),
    )

pub write_type-returns : goal.write_type-returns
write_type-returns t c =
    on_ok c.write_form.result _ _
    (λ e. written-type c.args.module.now c.args.levels c.args.generated.now c.args.marks.now c.args.tree.now c.label-label.result.now c.kids.result.now
    _ _ _ c.label-label.ensures c.kids.ensures c.in_ok-write_prefixes.ensures e)
    c.write_form.ensures

pub write_block-returns : goal.write_block-returns
write_block-returns t c =
    let kids = c.args.kids.now in
    let some : 0 < length kids = search rules in
    c.in_ok-write_closing_brace.ensures
    ∙ block-parts c.args.module.now c.args.levels c.args.parts.now kids c.args.out.now.items c.push.new.self.items c.write_parts.new.out.items
    some c.requires.count c.in_ok-push.ensures.items c.in_ok-write_parts.ensures

pub write_parts-write_part-requires : goal.write_parts-write_part-requires
write_parts-write_part-requires t c =
    let kids = c.args.kids.now in
    let kid = c.index-kids-i.result in
    let at = c.parts-test.true in
    let fewer = kid-count-le kids c.parts.i kid at c.index-kids-i.is in
    let now = c.decreases in
    let same = c.requires.count in
    let part = c.index-parts-i.result in (
      omega (arith, now, fewer),
      (
        kid-allowed kids c.parts.i kid at c.index-kids-i.is MayHave c.requires.allowed,
        (
          kid-well_formed c.args.module.now kids c.parts.i kid at c.index-kids-i.is c.requires.sound,
          (
            standard-at c.args.module.now c.args.parts.now kids c.parts.i part kid (omega (arith, at, same)) c.index-parts-i.is at c.index-kids-i.is c.requires.standards,
            indented c.args.levels _ _ c.in_ok-write_new_line.ensures,
          ),
        ),
      ),
    )

pub write_parts-returns : goal.write_parts-returns
write_parts-returns t c =
    parts-end c.args.module.now c.args.levels c.args.parts.now c.args.kids.now c.args.out.now.items c.parts.out.items c.parts.i c.parts-test.false c.parts.invariant
