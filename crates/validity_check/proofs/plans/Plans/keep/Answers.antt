use Rattle.std.proofs.Common.{ap, ◌∙◌, arith}
use Rattle.validity_check.specs.Told.{model_at}
use Rattle.validity_check.proofs.Keeping.{model_below, more_kept}
use Rattle.validity_check.proofs.plans.Plans.keep.Goals as goal

pub index_mut-requires : goal.index_mut-requires
index_mut-requires c =
    let r = c.requires in
    let count = c.self.invariant.count in
    let same = ap (λ s. model_at s c.args.complex) c.self.view_is in
    let here = model_below c.self.inside.set.now c.args.complex r.0 (same ∙ r.1) in
    let long = c.self.inside.kept.ok.0 in
    omega (arith, here, count, long)

pub invariant_of-self : goal.invariant_of-self
invariant_of-self c =
    let r = c.requires in
    more_kept c.self.inside.set.now c.self.inside.kept.items c.self.invariant c.args.complex c.args.plan r.0 (ap (λ s. model_at s c.args.complex) c.self.view_is ∙ r.1) r.2
