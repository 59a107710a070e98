use Rattle.std.proofs.Common.{map}
use Rattle.schema_components.specs.Documents.{doc_of}
use Rattle.link_names.specs.Resolution.{unresolved}
use Rattle.link_names.proofs.Firsts.{first_such}
use Rattle.link_schemas.specs.Passes.{Resolving}
use Rattle.link_schemas.proofs.Passing.{alone}
use Rattle.link_schemas.proofs.passes.resolved.Goals as goal

pub returns : goal.returns
returns c =
    let docs = map doc_of c.args.docs.now in
    alone docs Resolving c.in_ok-found.found c.unless.result (first_such (unresolved docs) c.in_ok-found.found c.in_ok-found.ensures) c.unless.ensures
