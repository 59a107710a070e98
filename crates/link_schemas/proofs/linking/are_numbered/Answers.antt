use Rattle.std.proofs.Common.{◌∙◌, sym, map}
use Rattle.schema_components.specs.Documents.{doc_of}
use Rattle.link_schemas.proofs.Numbered.{at_index, one_more, all_of}
use Rattle.link_schemas.proofs.linking.are_numbered.Goals as goal

pub returns-then-file-n-clause-all : goal.returns-then-file-n-clause-all
returns-then-file-n-clause-all c all =
    let doc = c.index-docs-n.result in
    absurd (c.if-file-n.true (c.file.ensures ∙ all c.docs.n (doc_of doc) (at_index c.args.docs.now c.docs.n doc c.docs-test.true c.index-docs-n.is)))

pub docs-preserved : goal.docs-preserved
docs-preserved c k d lt found =
    let doc = c.index-docs-n.result in
    one_more (map doc_of c.args.docs.now) c.docs.n (doc_of doc) (at_index c.args.docs.now c.docs.n doc c.docs-test.true c.index-docs-n.is)
    (sym c.file.ensures ∙ c.if-file-n.false) c.docs.invariant k d lt found

pub returns-clause-only : goal.returns-clause-only
returns-clause-only c truth k d found = all_of c.args.docs.now c.docs.n c.docs-test.false c.docs.invariant k d found
