use Rattle.std.proofs.Common.{◌++◌, take, append_assoc, sym, ap, ◌∙◌}
use Rattle.std.specs.List.{flat_map}
use Rattle.schema_components.specs.Documents.{doc_of}
use Rattle.schema_components.specs.Seen.{local_of}
use Rattle.link_names.specs.Parts.{in_local}
use Rattle.link_names.specs.WalkSeen.{parts_of}
use Rattle.link_names.proofs.Flat.{flat_more}
use Rattle.link_names.proofs.walk.push_locals.Goals as goal

pub locals-preserved : goal.locals-preserved
locals-preserved c =
    let file = c.file-file.result in
    let locals = (doc_of c.args.doc.now).locals in
    let local = local_of c.local.result.now in
    c.in_ok-push_local.ensures ∙ ap (λ ms. ms ++ in_local file local) c.locals.invariant
    ∙ append_assoc (parts_of c.args.out.now.items) (flat_map (in_local file) (take c.locals.n locals)) (in_local file local)
    ∙ ap (λ ms. parts_of c.args.out.now.items ++ ms) (sym (flat_more (in_local file) locals c.locals.n local c.local.ensures))
