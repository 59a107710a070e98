use Rattle.std.proofs.Common.{◌≡◌, ◌≤◌, get_or, arith, inl, inr, sym, ap, ◌∙◌, subst}
use Rattle.std.proofs.lemmas.Bool.{cases_lt, cases_order}
use Rattle.link_names.specs.Graphs.{rows_of, row}
use Rattle.base_texts.specs.Lists.{HasItem}
use Rattle.link_names.proofs.Walks.{row_is, no_row}
use Rattle.link_names.proofs.graphs.is_falling.Goals as goal

pub rows-preserved : goal.rows-preserved
rows-preserved c = λ a b lt edge.
    let g = c.args.graph.now in
    let n = c.rows.node in
    let rank = c.rank_of.ensures in
    elim (cases_order a n) [
      | inl same ↦
          let here : row (rows_of g) a ≡ c.deref.result.now = ap (row (rows_of g)) same ∙ row_is g n c.index-graph-node.result c.rows-test.true c.index-graph-node.is ∙ sym c.deref.ensures.value in
          let told = c.none_above.ensures c.if-not-none_above.false b (subst (λ ns. HasItem ns b) here edge) in
          subst (λ x. get_or c.args.ranks.now b 0 ≤ get_or c.args.ranks.now x 0) (sym same) (omega (arith, told, rank))
      | inr apart ↦ elim apart [ inl below ↦ c.rows.invariant a b below edge | inr above ↦ absurd (omega (arith, lt, above)) ]
    ]

pub returns : goal.returns
returns c = λ e a b edge.
    let g = c.args.graph.now in
    elim (cases_lt a c.rows.node) [
      | inl below ↦ c.rows.invariant a b below edge
      | inr beyond ↦
          let end = c.rows-test.false in
          absurd (subst (λ ns. HasItem ns b) (no_row g a (omega (arith, beyond, end))) edge)
    ]
