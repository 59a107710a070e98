use Rattle.std.proofs.Common.{map}
use Rattle.schema_components.specs.Documents.{doc_of}
use Rattle.link_schemas.specs.Passes.{Comparing}
use Rattle.link_schemas.proofs.Passing.{alone}
use Rattle.link_schemas.proofs.passes.compared.Goals as goal

pub returns-in-Ok : goal.returns-in-Ok
returns-in-Ok c =
    let docs = map doc_of c.args.docs.now in
    alone docs Comparing c.in-Ok.found c.unless.result c.in-Ok.ensures c.unless.ensures
