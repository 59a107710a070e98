use Rattle.std.proofs.Common.{◌≡◌, ◌≤◌, ◌∙◌, ℕ, List, take, sym, subst, ap, IsUtf8}
use Rattle.std.proofs.lemmas.List.{take-take}
use Rattle.base_texts.proofs.texts.Text.of_front.Goals as goal

-- the first of the bytes that stand first
front_of : (len most : ℕ) (bytes front : List ℕ) → front ≡ take most bytes → len ≤ most → take len front ≡ take len bytes
front_of len most bytes front e h = ap (take len) e ∙ take-take len most bytes h

pub invariant_of-result : goal.invariant_of-result
invariant_of-result c =
    let same = front_of c.args.len 22 c.args.bytes.now c.in-Some.front.now c.in-Some.ensures.cases.same c.if-len-le-ROOM.true in
    (c.if-len-le-ROOM.true, ∣ subst IsUtf8 (sym same) c.requires.utf8 ∣₁)

pub returns-in-Some : goal.returns-in-Some
returns-in-Some c = front_of c.args.len 22 c.args.bytes.now c.in-Some.front.now c.in-Some.ensures.cases.same c.if-len-le-ROOM.true
