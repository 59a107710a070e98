use Rattle.std.proofs.Common.{◌≡◌, ◌++◌, Some, None, sym, ap, ◌∙◌, arith}
use Rattle.schema_components.specs.Raw.{UnionOf}
use Rattle.schema_components.specs.Seen.{base_of, how_of, simple_of}
use Rattle.schema_components.proofs.Seen.{named_base, inner_base, restriction, list_of_items, union}
use Rattle.schema_components.proofs.Sizes.{base_size, how_size, part_base}
use Rattle.link_names.specs.Parts.{in_base, in_how, in_simple}
use Rattle.link_names.proofs.walk.+bases.Goals as goal

pub push_base-returns-in-Named : goal.push_base-returns-in-Named
push_base-returns-in-Named t c =
    let told = ap (in_base c.args.file c.args.at c.args.role) (ap base_of c.in-Named.is ∙ named_base c.in-Named.name) in
    rw told c.push_part.ensures

pub push_base-push_simple-requires : goal.push_base-push_simple-requires
push_base-push_simple-requires t c =
    let is = ap base_size (ap base_of c.in-Inner.is ∙ inner_base c.in-Inner.body) in
    let same = ap (λ b. how_size (how_of b.how)) c.deref.ensures in
    let d = c.decreases in
    (omega (arith, d, is, same), tt)

pub push_base-returns-in-Inner : goal.push_base-returns-in-Inner
push_base-returns-in-Inner t c =
    let file = c.args.file in
    let told = ap (in_base file c.args.at c.args.role) (ap base_of c.in-Inner.is ∙ inner_base c.in-Inner.body)
    ∙ ap (λ b. in_simple file (Some c.args.at) None (simple_of b)) (sym c.deref.ensures) in
    rw told c.push_simple.ensures

pub push_how-push_base-requires : goal.push_how-push_base-requires
push_how-push_base-requires t c =
    let is = ap how_size (ap how_of c.in-Restrict.is ∙ restriction c.in-Restrict.base c.in-Restrict.facets) in
    let d = c.decreases in
    (omega (arith, d, is), tt)

pub push_how-push_base-requires-in-List : goal.push_how-push_base-requires-in-List
push_how-push_base-requires-in-List t c =
    let is = ap how_size (ap how_of c.in-List.is ∙ list_of_items c.in-List.item) in
    let d = c.decreases in
    (omega (arith, d, is), tt)

pub push_bases-push_base-requires : goal.push_bases-push_base-requires
push_bases-push_base-requires t c =
    let part = part_base c.args.bases.now c.bases.base-index c.base-item.result c.bases-test.true in
    let same = ap (λ b. base_size (base_of b)) c.base-item.is in
    let d = c.decreases in
    (omega (arith, d, part, same), tt)

pub push_how-push_bases-requires : goal.push_how-push_bases-requires
push_how-push_bases-requires t c =
    let is = ap how_size (ap how_of c.in-Union.is ∙ union c.in-Union.members ∙ ap UnionOf (sym c.items.ensures)) in
    let d = c.decreases in
    (omega (arith, d, is), tt)

pub push_how-returns-in-Restrict : goal.push_how-returns-in-Restrict
push_how-returns-in-Restrict t c =
    let told = ap (in_how c.args.file c.args.at) (ap how_of c.in-Restrict.is ∙ restriction c.in-Restrict.base c.in-Restrict.facets) in
    rw told c.push_base.ensures

pub push_how-returns-in-List : goal.push_how-returns-in-List
push_how-returns-in-List t c =
    let told = ap (in_how c.args.file c.args.at) (ap how_of c.in-List.is ∙ list_of_items c.in-List.item) in
    rw told c.push_base-in-List.ensures

pub push_how-returns-in-Union : goal.push_how-returns-in-Union
push_how-returns-in-Union t c =
    let told = ap (in_how c.args.file c.args.at) (ap how_of c.in-Union.is ∙ union c.in-Union.members ∙ ap UnionOf (sym c.items.ensures)) in
    rw told c.push_bases.ensures
