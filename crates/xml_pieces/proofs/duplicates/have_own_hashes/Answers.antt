use Rattle.std.proofs.Common.{◌≡◌, ◌∙◌, List, ℕ, ap, arith, subst}
use Rattle.std.specs.List.Sorted.{IsPermutation}
use Rattle.std.proofs.lemmas.List.{take_all}
use Rattle.xml_pieces.proofs.Hashed.{hashes, told_apart}
use Rattle.xml_pieces.proofs.duplicates.have_own_hashes.Goals as goal

pub returns : goal.returns
returns c = λ is.
    let all : c.loop-attribute.hashes.items ≡ hashes c.args.attributes.now = c.loop-attribute.invariant ∙ ap hashes (take_all c.loop-attribute.attribute-index c.args.attributes.now (omega (arith, c.loop-attribute-test.false))) in
    told_apart c.args.attributes.now c.sort_unstable.new.self.items
    (subst (λ (xs : List ℕ). IsPermutation xs c.sort_unstable.new.self.items) all c.sort_unstable.ensures.permutation)
    (rw c.deref.ensures.value at (c.are_ascending.ensures is))
