use Rattle.std.proofs.Common.{◌≡◌, ◌∷◌, [], ◌++◌, string_bytes, rules}
use Rattle.people_complaints.proofs.Gathered.{gathered}
use Rattle.people_complaints.proofs.composing.put_reason.Goals as goal

pub returns : goal.returns
returns c =
    let last : string_bytes c.push_str.new.self ≡ string_bytes c.put_three-3.new.text ++ 10 ∷ [] = search rules in
    gathered _ _ _ _ _ _ _ _ _ _ _ _ _ _ _ c.in_ok-put_three.ensures c.in_ok-put_three-2.ensures c.in_ok-put_three-3.ensures last
