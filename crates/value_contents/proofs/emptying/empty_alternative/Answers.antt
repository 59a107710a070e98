use Rattle.std.proofs.Common.{◌≡◌, true, sym, ◌∙◌, subst}
use Rattle.content_models.specs.Clear.{empties}
use Rattle.content_models.specs.Seen.{seen}
use Rattle.value_contents.specs.Private.Empty.{empty_chosen, empty_value}
use Rattle.value_contents.proofs.Kids.{kids_seen, kid-got, same-kid, chosen-here}
use Rattle.value_contents.proofs.emptying.empty_alternative.Goals as goal

pub returns-then-may_be_empty-clause-chosen : goal.returns-then-may_be_empty-clause-chosen
returns-then-may_be_empty-clause-chosen c = λ kid got.
    let ts = c.args.particles.now in
    let i = c.particles.place in
    let here = c.index-particles-place.result in
    let at = c.particles-test.true in
    let same = same-kid ts i here kid at c.index-particles-place.is (kid-got ts i kid got) in
    let empty = sym c.if-may_be_empty.ensures in
    subst (λ k. (empties (seen k) ≡ true) × (empty_chosen (kids_seen ts) ≡ empty_value (seen k))) same
    (empty, c.particles.invariant.chosen ∙ chosen-here ts i here at c.index-particles-place.is empty)
