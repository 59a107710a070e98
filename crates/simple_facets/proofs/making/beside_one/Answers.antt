use Rattle.std.proofs.Common.{◌≡◌, ◌+◌, ◌<◌, sym, subst}
use Rattle.std.specs.Prelude.{MatchOption}
use Rattle.simple_types.specs.Seen.{space_of}
use Rattle.simple_facets.proofs.Counting.{items_inner}
use Rattle.simple_facets.proofs.making.beside_one.Goals as goal

pub returns-in-Some : goal.returns-in-Some
returns-in-Some c =
    let left = c.args.left in
    subst (λ n. MatchOption c.beside_items.result (left < n) (λ rest. n + rest ≡ left)) (sym (items_inner (space_of c.args.simple.now) c.in-Some.inner.now c.in-Some.ensures))
    c.beside_items.ensures
