use Rattle.std.proofs.Common.{◌≡◌, ◌≤◌, ◌∷◌, ap, arith, rules}
use Rattle.base_trees.specs.Rose.{label_of}
use Rattle.xml_items.specs.Labels.{item_place}
use Rattle.people_complaints.proofs.Ways.{reached_more}
use Rattle.people_complaints.proofs.text_paths.last_by.Goals as goal

pub kids-preserved : goal.kids-preserved
kids-preserved c =
    let by : item_place (label_of c.in-Some.kid) ≤ c.args.at = omega (arith, c.place.ensures, ap item_place c.label.ensures, c.if-place-at.false) in
    let rest : c.again.result ≡ c.next.new.self = c.again.ensures in
    let e : c.kids.kids ≡ c.in-Some.kid ∷ c.again.result = search (rules, c.in-Some.ensures.steps, rest) in
    let here = reached_more c.args.at c.args.kids c.kids.kids c.again.result c.in-Some.kid c.kids.found c.kids.invariant e by in
    (here.0, here.1, here.2, here.3, rest)
