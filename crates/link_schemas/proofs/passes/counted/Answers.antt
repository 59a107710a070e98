use Rattle.std.proofs.Common.{map}
use Rattle.schema_components.specs.Documents.{doc_of}
use Rattle.link_names.specs.Limits.{beyond_limit}
use Rattle.link_names.proofs.Firsts.{first_such}
use Rattle.link_schemas.specs.Passes.{Counting}
use Rattle.link_schemas.proofs.Passing.{alone}
use Rattle.link_schemas.proofs.passes.counted.Goals as goal

pub returns : goal.returns
returns c =
    let docs = map doc_of c.args.docs.now in
    let found = c.first_beyond_limit.result in
    alone docs Counting found c.unless.result (first_such (beyond_limit docs) found c.first_beyond_limit.ensures) c.unless.ensures
