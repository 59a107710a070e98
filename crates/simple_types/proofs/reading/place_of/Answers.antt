use Rattle.std.proofs.Common.{◌≡◌, subst, Some, None}
use Rattle.std.specs.Prelude.{position}
use Rattle.std.specs.Ordering.{int_eq}
use Rattle.std.proofs.lemmas.Cmp.{int_cmp_total}
use Rattle.std.proofs.lemmas.Int.{to_z-of_z}
use mir.Syntax.{w128}
use Rattle.simple_types.proofs.Places.{found, missed}
use Rattle.simple_types.proofs.reading.place_of.Goals as goal

pub returns-in-Ok : goal.returns-in-Ok
returns-in-Ok c =
    subst (λ n. Some c.in-Ok.i ≡ position (λ x. int_eq x n) c.args.numbers.now) (to_z-of_z w128 c.args.n c.ranges.n)
    (found int_cmp_total _ c.args.numbers.now c.in-Ok.i c.requires.sorted c.in-Ok.ensures.bound c.in-Ok.ensures.ok)

pub returns-in-Err : goal.returns-in-Err
returns-in-Err c =
    subst (λ n. None ≡ position (λ x. int_eq x n) c.args.numbers.now) (to_z-of_z w128 c.args.n c.ranges.n)
    (missed int_cmp_total _ c.args.numbers.now c.in-Err.field-0 c.requires.sorted c.in-Err.ensures.position)
