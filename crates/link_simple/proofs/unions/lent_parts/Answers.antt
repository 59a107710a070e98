use Rattle.std.proofs.Common.{sym, ap, ◌∙◌}
use Rattle.simple_types.specs.Joining.{joined}
use Rattle.simple_types.proofs.Copies.{joined-none}
use Rattle.simple_facets.specs.Making.{lent_spaces}
use Rattle.simple_facets.proofs.Counting.{past_end}
use Rattle.link_simple.specs.Private.Parts.{seen_all}
use Rattle.link_simple.proofs.Lending.{part_lent}
use Rattle.link_simple.proofs.unions.lent_parts.Goals as goal

pub parts-preserved : goal.parts-preserved
parts-preserved c =
    part_lent c.parts.lent.items c.push.new.self.items c.simple.result c.args.parts.now c.parts.part-index c.part-item.result c.parts-test.true c.part-item.is c.simple.ensures
    c.in_ok-push.ensures.items c.parts.invariant

pub returns : goal.returns
returns c =
    let lent = lent_spaces c.parts.lent.items in
    joined-none lent ∙ ap (λ ps. joined lent (seen_all ps)) (sym (past_end c.args.parts.now c.parts.part-index c.parts-test.false)) ∙ c.parts.invariant
