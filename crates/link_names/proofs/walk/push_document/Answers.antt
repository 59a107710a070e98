use Rattle.std.proofs.Common.{◌++◌, append_assoc, ap, ◌∙◌}
use Rattle.std.specs.List.{flat_map}
use Rattle.schema_components.specs.Documents.{doc_of}
use Rattle.schema_components.specs.Seen.{element_of, attribute_of, type_of}
use Rattle.std.specs.Prelude.{map}
use Rattle.link_names.specs.Parts.{in_globals, in_local}
use Rattle.link_names.specs.WalkSeen.{parts_of}
use Rattle.link_names.proofs.walk.push_document.Goals as goal

pub returns : goal.returns
returns c =
    let d = doc_of c.args.doc.now in
    let before = parts_of c.args.out.now.items in
    let locals = flat_map (in_local d.file) d.locals in
    let globals = c.in_ok-push_globals.ensures
    ∙ ap (λ file. before ++ in_globals file (map element_of c.elements.result.now) (map attribute_of c.attributes.result.now) (map type_of c.types.result.now)) c.file.ensures
    ∙ ap (λ es. before ++ in_globals d.file es (map attribute_of c.attributes.result.now) (map type_of c.types.result.now)) c.elements.ensures
    ∙ ap (λ as_. before ++ in_globals d.file d.elements as_ (map type_of c.types.result.now)) c.attributes.ensures
    ∙ ap (λ ts. before ++ in_globals d.file d.elements d.attributes ts) c.types.ensures in
    c.in_ok-push_locals.ensures ∙ ap (λ ps. ps ++ locals) globals ∙ append_assoc before (in_globals d.file d.elements d.attributes d.types) locals
