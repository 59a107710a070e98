use Rattle.std.proofs.Common.{◌-◌, refl, ap, ◌∙◌, Some, arith, set}
use Rattle.base_flat_trees.specs.Zips.{relabeled}
use Rattle.base_flat_trees.proofs.Below.{gets_label}
use Rattle.base_flat_trees.proofs.Zipped.{stands, place, relabels, stands_for, is_zip}
use Rattle.base_flat_trees.proofs.builders.Builder.innermost_mut.Goals as goal

pub overflow_sub-at : goal.overflow_sub-at
overflow_sub-at g c = (place c.self.inside.entries.items c.self.inside.inner c.self.inside.level c.args.self.now (stands c.self.inside.entries.items c.self.inside.inner c.self.inside.level c.args.self.now c.self.invariant c.self.view_is) c.requires).some

pub index_mut-requires : goal.index_mut-requires
index_mut-requires g c =
    let p = place c.self.inside.entries.items c.self.inside.inner c.self.inside.level c.args.self.now (stands c.self.inside.entries.items c.self.inside.inner c.self.inside.level c.args.self.now c.self.invariant c.self.view_is) c.requires in
    omega (arith, p.some, p.within)

pub invariant_of-self-lent : goal.invariant_of-self-lent
invariant_of-self-lent g c w =
    let x = c.index_mut.result.now in
    let old = stands c.self.inside.entries.items c.self.inside.inner c.self.inside.level c.args.self.now c.self.invariant c.self.view_is in
    let got = gets_label c.self.inside.entries.items (c.self.inside.inner - 1) w x c.index_mut.ensures.value in
    let new = set c.self.inside.entries.items (c.self.inside.inner - 1) (record { label = w; below = x.below }) in
    let r = relabels c.self.inside.entries.items new c.self.inside.inner (c.self.inside.inner - 1) c.self.inside.level c.args.self.now w x.label old c.requires refl got in
    is_zip new c.self.inside.inner c.self.inside.level (relabeled w c.args.self.now) r.stands

pub returns : goal.returns
returns g c =
    let x = c.index_mut.result.now in
    let old = stands c.self.inside.entries.items c.self.inside.inner c.self.inside.level c.args.self.now c.self.invariant c.self.view_is in
    let got = λ (w : g.row.L.Denot). gets_label c.self.inside.entries.items (c.self.inside.inner - 1) w x c.index_mut.ensures.value in
    let new = λ (w : g.row.L.Denot). set c.self.inside.entries.items (c.self.inside.inner - 1) (record { label = w; below = x.below }) in
    let r = λ (w : g.row.L.Denot). relabels c.self.inside.entries.items (new w) c.self.inside.inner (c.self.inside.inner - 1) c.self.inside.level c.args.self.now w x.label old c.requires refl (got w) in (
      (refl, λ w. stands_for (new w) c.self.inside.inner c.self.inside.level (relabeled w c.args.self.now) (r w).stands),
      record { writes_back = tt; value = ap Some c.label_mut.ensures.value ∙ (r x.label).was },
    )
