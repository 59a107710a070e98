use Rattle.std.proofs.Common.{◌≡◌, ◌≤◌, ◌∙◌, ℕ, List, take, sym, ap, rules}
use Rattle.std.proofs.lemmas.List.{take-take}
use Rattle.xml_items.proofs.characters.are_fronts_same.Goals as goal

-- fronts of the same bytes
same_fronts : (len : ℕ) (one other front other_front : List ℕ) → front ≡ take 16 one → other_front ≡ take 16 other → len ≤ 16 → front ≡ other_front → take len one ≡ take len other
same_fronts len one other front other_front e f h same =
    sym (take-take len 16 one h) ∙ ap (take len) (sym e ∙ same ∙ f) ∙ take-take len 16 other h

pub returns-in-Some-Some-clause-same : goal.returns-in-Some-Some-clause-same
returns-in-Some-Some-clause-same c = λ same.
    let few : c.args.len ≤ 16 = search rules in
    same_fronts c.args.len c.args.one.now c.args.other.now c.in-Some-Some.one.now c.in-Some-Some.other.now c.in-Some-Some.ensures.cases.same c.in-Some-Some.ensures'.cases.same few (c.are_bytes_same.ensures same)
