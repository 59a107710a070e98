use Rattle.std.proofs.Common.{rules, ap, ◌∙◌, FitsSigned, to_z, of_z}
use Rattle.std.specs.Prelude.{int_le, unsigned_abs, ◌-ℤ◌}
use Rattle.std.specs.Int.{w128}
use Rattle.std.proofs.lemmas.Int.{to_z-of_z}
use Rattle.per_decode.proofs.Signs.{distance-abs, is_true}
use Rattle.per_decode.proofs.wholes.distance.Goals as goal

pub returns : goal.returns
returns c =
    let a = c.args.lo in
    let b = c.args.hi in
    let f : FitsSigned w128 a = search rules in
    let g : FitsSigned w128 b = search rules in
    c.abs_diff.ensures ∙ ap (λ m. unsigned_abs (m -ℤ to_z w128 (of_z w128 a))) (to_z-of_z w128 b g) ∙ ap (λ m. unsigned_abs (b -ℤ m)) (to_z-of_z w128 a f)
    ∙ distance-abs a b (is_true (int_le a b) c.requires.le)
