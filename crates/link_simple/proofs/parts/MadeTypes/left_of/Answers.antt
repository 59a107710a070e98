use Rattle.std.proofs.Common.{◌≡◌, true, sym, ap, ◌∙◌, subst}
use Rattle.std.specs.Prelude.{IfOk}
use Rattle.schema_components.specs.Raw.{Restrict, UnionOf}
use Rattle.std.proofs.lemmas.Bool.{and_parts}
use Rattle.schema_components.specs.Seen.{base_of, bases_in, how_of}
use Rattle.schema_components.specs.Varieties.{has_few_enumerations, base_varied, has_member, bases_varied, how_varied}
use Rattle.schema_components.proofs.Seen.{restriction, list_of_items, union}
use Rattle.link_names.specs.Tables.{told_by}
use Rattle.link_simple.specs.Making.{IsLeft}
use Rattle.link_simple.specs.Private.Parts.{entries_of}
use Rattle.link_simple.specs.Private.Leaving.{LeftBy}
use Rattle.link_simple.proofs.parts.MadeTypes.left_of.Goals as goal

pub returns-in-Restrict : goal.returns-in-Restrict
returns-in-Restrict c =
    let told = ap how_of c.in-Restrict.is ∙ restriction c.in-Restrict.base c.in-Restrict.facets ∙ ap (Restrict (base_of c.in-Restrict.base)) (sym c.items.ensures) in
    subst (λ h. IfOk c.restriction.result (LeftBy (IsLeft (told_by c.args.self.numbers.now) (entries_of c.args.self.entries.now) c.args.definition.place.file h))) (sym told) c.restriction.ensures

pub returns-in-List : goal.returns-in-List
returns-in-List c =
    let told = ap how_of c.in-List.is ∙ list_of_items c.in-List.item in
    subst (λ h. IfOk c.list.result (LeftBy (IsLeft (told_by c.args.self.numbers.now) (entries_of c.args.self.entries.now) c.args.definition.place.file h))) (sym told) c.list.ensures

pub returns-in-Union : goal.returns-in-Union
returns-in-Union c =
    let told = ap how_of c.in-Union.is ∙ union c.in-Union.members ∙ ap UnionOf (sym c.items-in-Union.ensures) in
    subst (λ h. IfOk c.union_of_members.result (LeftBy (IsLeft (told_by c.args.self.numbers.now) (entries_of c.args.self.entries.now) c.args.definition.place.file h))) (sym told)
    c.union_of_members.ensures

pub restriction-requires-clause-few : goal.restriction-requires-clause-few
restriction-requires-clause-few c =
    let told = ap how_of c.in-Restrict.is ∙ restriction c.in-Restrict.base c.in-Restrict.facets ∙ ap (Restrict (base_of c.in-Restrict.base)) (sym c.items.ensures) in
    (and_parts (has_few_enumerations c.items.result.now) (base_varied (base_of c.in-Restrict.base)) (subst (λ h. how_varied h ≡ true) told c.requires.varied)).0

pub union_of_members-requires-clause-some : goal.union_of_members-requires-clause-some
union_of_members-requires-clause-some c =
    let told = ap how_of c.in-Union.is ∙ union c.in-Union.members ∙ ap UnionOf (sym c.items-in-Union.ensures) in
    let bases = bases_in c.items-in-Union.result.now in
    (and_parts (has_member bases) (bases_varied bases) (subst (λ h. how_varied h ≡ true) told c.requires.varied)).0
