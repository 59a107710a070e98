use Rattle.std.proofs.Common.{◌≤◌, ◌+◌, ◌-◌, ◌^◌, min, refl, ap, ◌∙◌, arith}
use Rattle.xer_read.proofs.Slots.{keeps-more}
use Rattle.xer_read.proofs.gathering.Gathered.keep.Goals as goal

pub returns-clause-keeps : goal.returns-clause-keeps
returns-clause-keeps c = λ numbers children child keeps stands.
    let none = c.if-self-eq0.false in
    let some : 1 ≤ c.args.self.now.most = omega (arith, none) in
    keeps-more c.args.self.now _ numbers children c.args.number c.args.value child keeps stands (c.requires.empty some) (c.requires.some some) c.requires.room refl refl
    (c.saturating_add-self.ensures ∙ ap (λ n. min (c.args.self.now.nodes + n) (2 ^ 64 - 1)) c.count.ensures) refl c.in_ok-push.ensures.items some
