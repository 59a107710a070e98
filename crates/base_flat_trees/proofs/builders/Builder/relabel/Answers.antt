use Rattle.std.proofs.Common.{◌-◌, refl, arith}
use Rattle.base_flat_trees.specs.Zips.{relabeled}
use Rattle.base_flat_trees.proofs.Zipped.{stands, place, relabels, stands_for, is_zip}
use Rattle.base_flat_trees.proofs.builders.Builder.relabel.Goals as goal

pub overflow_sub-at : goal.overflow_sub-at
overflow_sub-at g c = (place c.self.inside.entries.items c.self.inside.inner c.self.inside.level c.args.self.now (stands c.self.inside.entries.items c.self.inside.inner c.self.inside.level c.args.self.now c.self.invariant c.self.view_is) c.requires).some

pub set_label-requires : goal.set_label-requires
set_label-requires g c =
    let p = place c.self.inside.entries.items c.self.inside.inner c.self.inside.level c.args.self.now (stands c.self.inside.entries.items c.self.inside.inner c.self.inside.level c.args.self.now c.self.invariant c.self.view_is) c.requires in
    omega (arith, p.some, p.within)

pub invariant_of-self : goal.invariant_of-self
invariant_of-self g c =
    let old = stands c.self.inside.entries.items c.self.inside.inner c.self.inside.level c.args.self.now c.self.invariant c.self.view_is in
    let r = relabels c.self.inside.entries.items c.set_label.new.entries.items c.self.inside.inner (c.self.inside.inner - 1) c.self.inside.level c.args.self.now c.args.label c.set_label.result old c.requires refl c.set_label.ensures in
    is_zip c.set_label.new.entries.items c.self.inside.inner c.self.inside.level (relabeled c.args.label c.args.self.now) r.stands

pub returns-clause-before : goal.returns-clause-before
returns-clause-before g c =
    let old = stands c.self.inside.entries.items c.self.inside.inner c.self.inside.level c.args.self.now c.self.invariant c.self.view_is in
    (relabels c.self.inside.entries.items c.set_label.new.entries.items c.self.inside.inner (c.self.inside.inner - 1) c.self.inside.level c.args.self.now c.args.label c.set_label.result old c.requires refl c.set_label.ensures).was

pub returns-clause-relabeled : goal.returns-clause-relabeled
returns-clause-relabeled g c =
    let old = stands c.self.inside.entries.items c.self.inside.inner c.self.inside.level c.args.self.now c.self.invariant c.self.view_is in
    let r = relabels c.self.inside.entries.items c.set_label.new.entries.items c.self.inside.inner (c.self.inside.inner - 1) c.self.inside.level c.args.self.now c.args.label c.set_label.result old c.requires refl c.set_label.ensures in
    stands_for c.set_label.new.entries.items c.self.inside.inner c.self.inside.level (relabeled c.args.label c.args.self.now) r.stands
