use Rattle.std.proofs.Common.{◌≡◌, true, false, take, inl, inr, subst}
use Rattle.std.specs.Prelude.{slice_index}
use Rattle.std.proofs.lemmas.List.{take_more}
use Rattle.base_texts.specs.Lists.{HasItem}
use Rattle.base_texts.proofs.Lists.{in_parts}
use Rattle.link_names.specs.Private.Searching.{mark}
use Rattle.link_simple.proofs.Following.{has_at}
use Rattle.link_simple.proofs.Standing.{mark_read}
use Rattle.link_simple.proofs.orders.first_open.Goals as goal

pub bounds-done-nodes : goal.bounds-done-nodes
bounds-done-nodes c = c.requires.within (slice_index c.args.nodes.now c.nodes.k) (has_at c.args.nodes.now c.nodes.k c.nodes-test.true)

pub returns-then-not-done-nodes : goal.returns-then-not-done-nodes
returns-then-not-done-nodes c =
    let n = slice_index c.args.nodes.now c.nodes.k in
    let within = c.requires.within n (has_at c.args.nodes.now c.nodes.k c.nodes-test.true) in
    (c.nodes-test.true, mark_read c.args.done.now n false false within c.if-not-done-nodes.true, c.nodes.invariant)

pub nodes-preserved : goal.nodes-preserved
nodes-preserved c = λ m h.
    let ns = c.args.nodes.now in
    let k = c.nodes.k in
    let n = slice_index ns k in
    let within = c.requires.within n (has_at ns k c.nodes-test.true) in
    elim (in_parts (take k ns) n m (subst (λ ms. HasItem ms m) (take_more ns k 0 c.nodes-test.true) h)) [
      | inl old ↦ c.nodes.invariant m old
      | inr same ↦ subst (λ x. mark c.args.done.now x ≡ true) same (mark_read c.args.done.now n false true within c.if-not-done-nodes.false)
    ]
