use Rattle.std.proofs.Common.{ap, sym, ◌∙◌}
use Rattle.schema_read.proofs.Words.{option_map, bases_in, simple_of, joined, and_inner}
use Rattle.schema_read.proofs.Bases.{inner_push}
use Rattle.schema_read.proofs.simple_definitions.push_inner.Goals as goal

pub returns-in_ok-push : goal.returns-in_ok-push
returns-in_ok-push c = λ rest.
    ap (λ l. joined (bases_in l) rest) c.in_ok-push.ensures.items
    ∙ (inner_push c.args.inner.now.items c.in_ok-held.held c.in-Some.body rest c.in_ok-held.ensures.ok
    ∙ ap (λ f. joined (bases_in c.args.inner.now.items) (and_inner (option_map simple_of f) rest)) (sym c.in-Some.is))
