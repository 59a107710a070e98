use Rattle.std.proofs.Common.{rules, ap, get_or, ◌-◌}
use Rattle.xml_pieces.proofs.Repeated.{one_expanded, few_expanded}
use Rattle.xml_pieces.proofs.duplicates.expanded_twice.Goals as goal

pub last_first-preserved : goal.last_first-preserved
last_first-preserved c =
    let h = one_expanded c.args.attributes.now c.last_first.at (get_or c.args.attributes.now (c.last_first.at - 1) c.index-attributes-at.result) (c.bytes.result, c.bytes-in-last_first.result) c.last_first.later c.insert.new.self c.last_first.twice c.in_ok-is_new.is_new c.last_first-test.true c.last_first.invariant.within (ap (λ d. get_or c.args.attributes.now (c.last_first.at - 1) d) (search rules)) (search rules)
    c.last_first.invariant.has c.last_first.invariant.twice c.in_ok-is_new.ensures.added c.in_ok-is_new.ensures.updates in
    record { within = (search rules); has = h.0; twice = h.1 }

pub returns-then-attributes-lt2 : goal.returns-then-attributes-lt2
returns-then-attributes-lt2 c = few_expanded c.args.attributes.now c.if-attributes-lt2.true
