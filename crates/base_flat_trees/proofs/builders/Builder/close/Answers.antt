use Rattle.std.proofs.Common.{◌≡◌, ◌-◌, length, refl, arith}
use Rattle.base_flat_trees.specs.Zips.{closed}
use Rattle.base_flat_trees.proofs.Zipped.{stands, place, stands_closed, stands_for, is_zip}
use Rattle.base_flat_trees.proofs.builders.Builder.close.Goals as goal

pub overflow_sub-at : goal.overflow_sub-at
overflow_sub-at g c = (place c.self.inside.entries.items c.self.inside.inner c.self.inside.level c.args.self.now (stands c.self.inside.entries.items c.self.inside.inner c.self.inside.level c.args.self.now c.self.invariant c.self.view_is) c.requires).some

pub set_below-self-inside-requires : goal.set_below-self-inside-requires
set_below-self-inside-requires g c =
    let p = place c.self.inside.entries.items c.self.inside.inner c.self.inside.level c.args.self.now (stands c.self.inside.entries.items c.self.inside.inner c.self.inside.level c.args.self.now c.self.invariant c.self.view_is) c.requires in
    omega (arith, p.some, p.within)

pub invariant_of-self : goal.invariant_of-self
invariant_of-self g c =
    let old = stands c.self.inside.entries.items c.self.inside.inner c.self.inside.level c.args.self.now c.self.invariant c.self.view_is in
    let count : c.len.result - c.self.inside.inner ≡ length c.self.inside.entries.items - c.self.inside.inner = omega (arith, c.len.ensures) in
    is_zip c.set_below-self-inside.new.entries.items c.set_below-self-inside.result (c.self.inside.level - 1) (closed c.args.self.now)
    (stands_closed c.self.inside.entries.items c.set_below-self-inside.new.entries.items c.self.inside.inner (c.self.inside.inner - 1) (c.len.result - c.self.inside.inner) c.set_below-self-inside.result c.self.inside.level (c.self.inside.level - 1) c.args.self.now old c.requires refl count refl c.set_below-self-inside.ensures)

pub returns : goal.returns
returns g c =
    let old = stands c.self.inside.entries.items c.self.inside.inner c.self.inside.level c.args.self.now c.self.invariant c.self.view_is in
    let count : c.len.result - c.self.inside.inner ≡ length c.self.inside.entries.items - c.self.inside.inner = omega (arith, c.len.ensures) in
    stands_for c.set_below-self-inside.new.entries.items c.set_below-self-inside.result (c.self.inside.level - 1) (closed c.args.self.now)
    (stands_closed c.self.inside.entries.items c.set_below-self-inside.new.entries.items c.self.inside.inner (c.self.inside.inner - 1) (c.len.result - c.self.inside.inner) c.set_below-self-inside.result c.self.inside.level (c.self.inside.level - 1) c.args.self.now old c.requires refl count refl c.set_below-self-inside.ensures)
