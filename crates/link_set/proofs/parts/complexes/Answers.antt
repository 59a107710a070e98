use Rattle.std.proofs.Common.{◌≡◌, List, map, sym, ap, ap₂, ◌∙◌, subst}
use Rattle.std.specs.Prelude.{IfOk}
use Rattle.schema_components.specs.Documents.{doc_of}
use Rattle.schema_components.specs.declared.components.ComplexDef.{ComplexDef}
use Rattle.schema_components.specs.declared.components.GlobalAttribute.{GlobalAttribute}
use Rattle.link_complex.specs.Seen.{definitions_of}
use Rattle.link_set.specs.Private.Seen.{attributes_of}
use Rattle.link_set.specs.Private.Told.{found_in, told_by}
use Rattle.link_set.specs.Sets.{attributes, written_name, named_attribute, complex}
use Rattle.link_set.proofs.FirstNamed.{same_names}
use Rattle.link_set.proofs.parts.complexes.Goals as goal

pub of-requires : goal.of-requires
of-requires c =
    let ns = told_by c.args.numbers.now in
    ap (map (λ (g : GlobalAttribute). g.name)) c.requires ∙ same_names ns (attributes_of c.args.listed.now.attributes.items)
    ∙ ap (λ ws. map written_name (attributes_of ws)) (sym c.deref.ensures.value)

pub returns-clause-numbered : goal.returns-clause-numbered
returns-clause-numbered c =
    let ns = told_by c.args.numbers.now in
    let docs = map doc_of c.args.docs.now in
    let globals : found_in c.in_ok-names.names ≡ named_attribute (attributes ns (attributes_of c.args.listed.now.attributes.items))
    = c.in_ok-names.ensures ∙ ap named_attribute c.requires in
    let Is : List ComplexDef → Type 0 = λ cs. IfOk c.complexes.result (λ made. made.items ≡ cs) in
    subst Is (ap₂ (λ gs cs. map (complex ns gs docs) (definitions_of cs)) globals c.deref-2.ensures.value) c.complexes.ensures.numbered
