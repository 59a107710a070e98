use Rattle.std.proofs.Common.{◌≡◌, map, List, ap, ◌∙◌, subst}
use Rattle.std.specs.List.{filter_map, flat_map}
use Rattle.schema_components.specs.Documents.{doc_of}
use Rattle.link_names.specs.WalkSeen.{parts_of}
use Rattle.link_names.specs.declared.faults.LinkingFault.{LinkingFault}
use Rattle.link_names.specs.Private.Mentioned.{mentions_of}
use Rattle.link_names.specs.Private.NameTables.{told_by}
use Rattle.link_names.specs.Order.{IsFirstOf}
use Rattle.link_names.specs.References.{of_part}
use Rattle.link_names.specs.Resolution.{names_among, fault_of, unresolved}
use Rattle.link_names.proofs.Resolving.{same_faults}
use Rattle.link_names.proofs.resolution.first_unresolved.Goals as goal

pub returns : goal.returns
returns c =
    let docs = map doc_of c.args.docs.now in
    let told = told_by c.in_ok-table.table in
    let ps = parts_of c.as_slice-parts.result.now in
    let same = ap parts_of c.as_slice-parts.ensures.value ∙ c.in_ok-parts.ensures in
    let all : filter_map (fault_of told) (mentions_of c.deref.result.now) ≡ unresolved docs =
    ap (filter_map (fault_of told)) (ap mentions_of c.deref.ensures.value ∙ c.in_ok-mentions.ensures)
    ∙ same_faults told (names_among ps) c.in_ok-table.ensures (flat_map of_part ps)
    ∙ ap (λ qs. filter_map (fault_of (names_among qs)) (flat_map of_part qs)) same in
    let P : List LinkingFault → Type 0 = λ fs. IsFirstOf fs c.first_wrong.result in
    subst P all c.first_wrong.ensures
