use Rattle.std.proofs.Common.{◌≡◌, suc, ◌+◌, refl, subst, arith}
use Rattle.base_trees.specs.Rose.{kids_of}
use Rattle.content_match.specs.Private.Nearby.{IsNamedKid}
use Rattle.content_match.proofs.beside.leaf_behind.Goals as goal

pub returns-in-Some : goal.returns-in-Some
returns-in-Some c =
    let last : c.args.kid + 1 ≡ suc c.args.kid = omega arith in
    record {
      ordered = c.is_ordered.ensures c.if-not-is_ordered.false;
      kid_is = last;
      turn_is = refl;
      named = subst (λ k. IsNamedKid (kids_of c.args.plan.now) k c.args.name.now c.in-Some.leaf) last c.in-Some.ensures;
    }
