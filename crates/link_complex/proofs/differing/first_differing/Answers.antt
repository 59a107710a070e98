use Rattle.std.proofs.Common.{◌≡◌, map, refl, subst}
use Rattle.link_names.specs.Order.{IsFirstSuch, OneHas}
use Rattle.schema_components.specs.Documents.{doc_of}
use Rattle.link_complex.specs.ElementTypes.{DiffersIn, type_named, typed_elements}
use Rattle.link_complex.specs.Private.Identities.{type_in}
use Rattle.link_complex.proofs.Stepping.{one_mapped, at_end}
use Rattle.link_complex.proofs.differing.first_differing.Goals as goal

pub docs-preserved : goal.docs-preserved
docs-preserved c =
    rw c.first_of-found.ensures
    (one_mapped (DiffersIn (type_in c.in_ok-types.types)) doc_of c.args.docs.now c.docs.doc-index c.doc-item.result c.docs-test.true c.doc-item.is
    c.docs.found c.in_ok-here.here c.docs.invariant c.in_ok-here.ensures)

pub returns : goal.returns
returns c =
    let docs = map doc_of c.args.docs.now in
    let same : type_in c.in_ok-types.types ≡ type_named (typed_elements docs) = λ i a. c.in_ok-types.ensures a i in
    subst (λ ts. IsFirstSuch (OneHas (DiffersIn ts) docs) c.docs.found) same
    (at_end (λ ds. IsFirstSuch (OneHas (DiffersIn (type_in c.in_ok-types.types)) ds) c.docs.found) doc_of c.args.docs.now c.args.docs.now c.docs.doc-index docs
    c.docs-test.false refl refl c.docs.invariant)
