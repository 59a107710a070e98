use Rattle.std.proofs.Common.{sym, ap, ◌∙◌}
use Rattle.schema_components.specs.Raw.{UnionOf}
use Rattle.schema_components.specs.Seen.{how_of}
use Rattle.schema_components.proofs.Seen.{restriction, list_of_items, union}
use Rattle.link_names.specs.Cycles.{parts_of}
use Rattle.link_names.specs.Tables.{told_by}
use Rattle.link_names.proofs.numbers.SimpleNumbers.push_parts.Goals as goal

pub returns-in-Restrict : goal.returns-in-Restrict
returns-in-Restrict c =
    let told = ap (parts_of (told_by c.args.self.now) c.args.file) (ap how_of c.in-Restrict.is ∙ restriction c.in-Restrict.base c.in-Restrict.facets) in
    rw told c.push_part.ensures

pub returns-in-List : goal.returns-in-List
returns-in-List c =
    let told = ap (parts_of (told_by c.args.self.now) c.args.file) (ap how_of c.in-List.is ∙ list_of_items c.in-List.item) in
    rw told c.push_part-in-List.ensures

pub returns-in-Union : goal.returns-in-Union
returns-in-Union c =
    let told = ap (parts_of (told_by c.args.self.now) c.args.file) (ap how_of c.in-Union.is ∙ union c.in-Union.members ∙ ap UnionOf (sym c.items.ensures)) in
    rw told c.push_bases.ensures
