use Rattle.std.proofs.Common.{◌≡◌, ap, ◌∙◌, subst}
use Rattle.std.specs.Prelude.{position, is_some}
use Rattle.std.specs.Ordering.{int_eq}
use Rattle.std.proofs.lemmas.Int.{to_z-of_z}
use mir.Syntax.{w128}
use Rattle.simple_facets.proofs.Enumerations.{number-among}
use Rattle.simple_facets.proofs.enumerating.has_number.Goals as goal

pub returns-in-Numbers : goal.returns-in-Numbers
returns-in-Numbers c =
    let place : c.place_of.result ≡ position (λ x. int_eq x c.args.n) c.items.result.now =
    subst (λ m. c.place_of.result ≡ position (λ x. int_eq x m) c.items.result.now) (to_z-of_z w128 c.args.n c.ranges.n) c.place_of.ensures in
    c.is_some.ensures ∙ ap is_some place ∙ number-among c.args.now.now c.in-Numbers.numbers c.items.result.now c.args.n c.in-Numbers.is c.items.ensures
