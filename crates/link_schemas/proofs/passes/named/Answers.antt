use Rattle.std.proofs.Common.{map}
use Rattle.schema_components.specs.Documents.{doc_of}
use Rattle.link_names.specs.Globals.{duplicates}
use Rattle.link_names.proofs.Firsts.{first_such}
use Rattle.link_schemas.specs.Passes.{Naming}
use Rattle.link_schemas.proofs.Passing.{alone}
use Rattle.link_schemas.proofs.passes.named.Goals as goal

pub returns : goal.returns
returns c =
    let docs = map doc_of c.args.docs.now in
    alone docs Naming c.in_ok-found.found c.unless.result (first_such (duplicates docs) c.in_ok-found.found c.in_ok-found.ensures) c.unless.ensures
