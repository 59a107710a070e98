use Rattle.std.proofs.Common.{◌≡◌, false, length, replicate, None, ap, ◌∙◌, sym, subst}
use Rattle.std.proofs.lemmas.List.{length-map}
use Rattle.link_names.specs.CyclesSeen.{definition_of, definitions_of}
use Rattle.link_simple.specs.Private.Parts.{entries_of}
use Rattle.link_simple.specs.Private.Working.{Stands}
use Rattle.link_simple.proofs.Standing.{stands_first}
use Rattle.link_simple.proofs.working.Work.of.Goals as goal

pub returns : goal.returns
returns c =
    let xs = c.args.definitions.now in
    let ds = definitions_of xs in
    let long : length ds ≡ length xs = length-map xs definition_of in
    let entries = ap (λ k. replicate k None) long ∙ sym c.in_ok-entries.ensures in
    subst (λ es. Stands ds (entries_of es) (replicate (length xs) false) None) entries
    (subst (λ k. Stands ds (entries_of (replicate (length ds) None)) (replicate k false) None) long (stands_first ds))
