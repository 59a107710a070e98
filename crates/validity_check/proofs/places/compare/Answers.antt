use Rattle.std.proofs.Common.{◌≡◌, sym, ◌∙◌, ap}
use Rattle.std.specs.Cmp.Lexicographic.{slice_cmp}
use Rattle.std.specs.Ordering.{nat_cmp}
use Rattle.std.specs.declared.cmp.Ordering.TheVariants.{Equal}
use Rattle.base_texts.specs.Names.{name_cmp}
use Rattle.validity_check.proofs.Ordered.{same_at, by_local, one_space}
use Rattle.validity_check.proofs.places.compare.Goals as goal

pub returns-then-place-run-clause-order : goal.returns-then-place-run-clause-order
returns-then-place-run-clause-order c = λ u.
    let us = c.args.uses.now in
    let found = c.index-uses-place.result in
    let here = c.index-uses-place.is in
    let name = c.args.name.now in
    let space : found.name.space ≡ name.space = ap (λ x. x.name.space) here ∙ c.requires.run.same c.args.place found c.if-run-place.true c.if-place-run.true in
    let answer : c.cmp.result ≡ slice_cmp nat_cmp found.name.local name.local = cc (c.cmp.ensures) in
    answer ∙ sym (by_local found.name name space) ∙ ap (λ x. name_cmp x.name name) (here ∙ same_at us c.args.place found u c.requires.place)

pub returns-in-Equal-clause-run : goal.returns-in-Equal-clause-run
returns-in-Equal-clause-run c =
    let us = c.args.uses.now in
    let found = c.index-uses-place.result in
    let here = c.index-uses-place.is in
    let name = c.args.name.now in
    let tied : slice_cmp nat_cmp found.name.space name.space ≡ Equal = cc (c.cmp-2.ensures, c.in-Equal.is) in
    c.with.ensures us name.space c.requires.ascending c.requires.place
    (λ u. sym (ap (λ x. x.name.space) (here ∙ same_at us c.args.place found u c.requires.place)) ∙ one_space found.name name tied) c.requires.run
