use Rattle.std.proofs.Common.{◌++◌, take, append_assoc, sym, ap, ◌∙◌}
use Rattle.std.specs.List.{flat_map}
use Rattle.schema_components.specs.Documents.{doc_of}
use Rattle.schema_components.specs.Seen.{local_of}
use Rattle.link_names.proofs.Flat.{flat_more}
use Rattle.link_set.specs.Written.{declared_by}
use Rattle.link_set.specs.Private.Seen.{elements_of}
use Rattle.link_set.proofs.written.push_locals.Goals as goal

pub locals-preserved : goal.locals-preserved
locals-preserved c =
    let file = c.file-file.result in
    let locals = (doc_of c.args.doc.now).locals in
    let local = local_of c.local.result.now in
    c.in_ok-push_local.ensures ∙ ap (λ ms. ms ++ declared_by file local) c.locals.invariant
    ∙ append_assoc (elements_of c.args.out.now.items) (flat_map (declared_by file) (take c.locals.n locals)) (declared_by file local)
    ∙ ap (λ ms. elements_of c.args.out.now.items ++ ms) (sym (flat_more (declared_by file) locals c.locals.n local c.local.ensures))
