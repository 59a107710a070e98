use Rattle.std.proofs.Common.{IfOk, [], ◌++◌, List, refl, ap, ◌∙◌, subst}
use Rattle.link_names.specs.Parts.{Part}
use Rattle.link_names.specs.WalkSeen.{parts_of}
use Rattle.link_names.specs.declared.faults.LinkingFault.{LinkingFault}
use Rattle.link_names.specs.declared.faults.LinkWhy.TheVariants.{Duplicate}
use Rattle.link_names.specs.declared.global_names.NameKind.TheVariants as kind
use Rattle.link_names.specs.Globals.{repeated, globals_among}
use Rattle.link_names.specs.Order.{IsFirstOf}
use Rattle.link_names.proofs.duplicates.first_duplicate.Goals as goal

abbrev among : List Part → List LinkingFault
among ps =
    repeated Duplicate (globals_among kind.Element ps) ++ repeated Duplicate (globals_among kind.Attribute ps) ++ repeated Duplicate (globals_among kind.Type ps)

pub returns : goal.returns
returns c =
    let ps = parts_of c.as_slice-parts.result.now in
    let one = c.in_ok-found.ensures [] refl in
    let two = c.in_ok-found-2.ensures (repeated Duplicate (globals_among kind.Element ps)) one in
    let three = c.first_of_kind-3.ensures (repeated Duplicate (globals_among kind.Element ps) ++ repeated Duplicate (globals_among kind.Attribute ps)) two in
    let same = ap parts_of c.as_slice-parts.ensures.value ∙ c.in_ok-parts.ensures in
    subst (λ qs. IfOk c.first_of_kind-3.result (λ first. IsFirstOf (among qs) first)) same three
