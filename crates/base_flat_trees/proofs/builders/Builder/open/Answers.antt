use Rattle.std.proofs.Common.{◌≡◌, ◌+◌, ◌∷◌, [], length, length-append, ap, refl, arith}
use Rattle.base_flat_trees.specs.Zips.{opened}
use Rattle.base_flat_trees.proofs.Zipped.{stands, levels_le, stands_opened, stands_for, is_zip}
use Rattle.base_flat_trees.proofs.builders.Builder.open.Goals as goal

pub invariant_of-self-2 : goal.invariant_of-self-2
invariant_of-self-2 g c =
    let old = stands c.self.inside.entries.items c.self.inside.inner c.self.inside.level c.args.self.now c.self.invariant c.self.view_is in
    let place : c.len.result ≡ length c.push_entry.new.entries.items = omega (arith, c.len.ensures) in
    is_zip c.push_entry.new.entries.items c.len.result (c.self.inside.level + 1) (opened c.args.label c.args.self.now)
    (stands_opened c.self.inside.entries.items c.push_entry.new.entries.items c.self.inside.inner c.len.result c.self.inside.level (c.self.inside.level + 1) c.args.self.now c.args.label old c.in_ok-push_entry.ensures.ok place refl c.in_ok-push_entry.ensures.few)

pub returns-clause-ok : goal.returns-clause-ok
returns-clause-ok g c =
    let old = stands c.self.inside.entries.items c.self.inside.inner c.self.inside.level c.args.self.now c.self.invariant c.self.view_is in
    let place : c.len.result ≡ length c.push_entry.new.entries.items = omega (arith, c.len.ensures) in
    stands_for c.push_entry.new.entries.items c.len.result (c.self.inside.level + 1) (opened c.args.label c.args.self.now)
    (stands_opened c.self.inside.entries.items c.push_entry.new.entries.items c.self.inside.inner c.len.result c.self.inside.level (c.self.inside.level + 1) c.args.self.now c.args.label old c.in_ok-push_entry.ensures.ok place refl c.in_ok-push_entry.ensures.few)

pub overflow_add-self : goal.overflow_add-self
overflow_add-self g c =
    let old = stands c.self.inside.entries.items c.self.inside.inner c.self.inside.level c.args.self.now c.self.invariant c.self.view_is in
    let more = c.in_ok-push_entry.ensures.ok in
    omega (arith, levels_le c.self.inside.entries.items c.self.inside.inner c.self.inside.level c.args.self.now old, ap length more, length-append c.self.inside.entries.items (record { label = c.args.label; below = c.self.inside.inner } ∷ []), c.in_ok-push_entry.ensures.few)
