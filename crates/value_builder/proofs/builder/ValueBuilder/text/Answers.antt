use Rattle.std.proofs.Common.{◌+◌, ◌-◌, ◌^◌, ◌≤◌, min, refl, subst}
use Rattle.value_builder.proofs.Putting.{puts-counted}
use Rattle.value_builder.proofs.builder.ValueBuilder.text.Goals as goal

pub returns-then-not-has_room-2 : goal.returns-then-not-has_room-2
returns-then-not-has_room-2 c =
    let w = c.in_ok-nodes.ensures in (
      w.0,
      w.1,
      rw (← c.self.view_is)
          (puts-counted _ _ w.0 c.in_ok-nodes.nodes w.2 refl c.saturating_add-self-inside.ensures
          (λ within.
          let few = subst (λ n. n ≤ c.self.inside.most) c.saturating_add-self-inside.ensures within in
          cc (c.has_room-then-not-is_kept.ensures.1 (subst (λ b. min (b.nodes + c.in_ok-nodes.nodes) (2 ^ 64 - 1) ≤ b.most) c.self.view_is few), c.if-not-has_room-2.true))),
    )
