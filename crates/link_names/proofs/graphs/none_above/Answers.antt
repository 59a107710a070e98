use Rattle.std.proofs.Common.{◌≤◌, arith, take, get_or, inl, inr, subst}
use Rattle.std.proofs.lemmas.List.{take_more}
use Rattle.base_texts.specs.Lists.{HasItem}
use Rattle.base_texts.proofs.Lists.{in_parts}
use Rattle.link_names.proofs.graphs.none_above.Goals as goal

pub nodes-preserved : goal.nodes-preserved
nodes-preserved c = λ b h.
    let ns = c.args.nodes.now in
    let i = c.nodes.node-index in
    let n = get_or ns i 0 in
    elim (in_parts (take i ns) n b (subst (λ ms. HasItem ms b) (take_more ns i 0 c.nodes-test.true) h)) [
      | inl k ↦ c.nodes.invariant b k
      | inr same ↦
          let told = c.rank_of.ensures in
          let low = c.if-rank-rank_of.false in
          subst (λ x. get_or c.args.ranks.now x 0 ≤ c.args.rank) same (omega (arith, told, low))
    ]
