use Rattle.std.proofs.Common.{◌-◌, refl, arith}
use Rattle.base_flat_trees.specs.Zips.{canceled}
use Rattle.base_flat_trees.proofs.Zipped.{stands, place, cancels, stands_for, is_zip}
use Rattle.base_flat_trees.proofs.builders.Builder.cancel.Goals as goal

pub overflow_sub-at : goal.overflow_sub-at
overflow_sub-at g c = (place c.self.inside.entries.items c.self.inside.inner c.self.inside.level c.args.self.now (stands c.self.inside.entries.items c.self.inside.inner c.self.inside.level c.args.self.now c.self.invariant c.self.view_is) c.requires).some

pub index-requires : goal.index-requires
index-requires g c =
    let p = place c.self.inside.entries.items c.self.inside.inner c.self.inside.level c.args.self.now (stands c.self.inside.entries.items c.self.inside.inner c.self.inside.level c.args.self.now c.self.invariant c.self.view_is) c.requires in
    omega (arith, p.some, p.within)

pub invariant_of-self : goal.invariant_of-self
invariant_of-self g c =
    let old = stands c.self.inside.entries.items c.self.inside.inner c.self.inside.level c.args.self.now c.self.invariant c.self.view_is in
    is_zip c.truncate.new.self.items c.index.result.now.below (c.self.inside.level - 1) (canceled c.args.self.now)
    (cancels c.self.inside.entries.items c.truncate.new.self.items c.self.inside.inner (c.self.inside.inner - 1) c.self.inside.level (c.self.inside.level - 1) c.args.self.now c.index.result.now old c.requires refl refl c.index.ensures c.truncate.ensures.items)

pub returns : goal.returns
returns g c =
    let old = stands c.self.inside.entries.items c.self.inside.inner c.self.inside.level c.args.self.now c.self.invariant c.self.view_is in
    stands_for c.truncate.new.self.items c.index.result.now.below (c.self.inside.level - 1) (canceled c.args.self.now)
    (cancels c.self.inside.entries.items c.truncate.new.self.items c.self.inside.inner (c.self.inside.inner - 1) c.self.inside.level (c.self.inside.level - 1) c.args.self.now c.index.result.now old c.requires refl refl c.index.ensures c.truncate.ensures.items)
