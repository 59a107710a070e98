use Rattle.std.proofs.Common.{[], ◌∷◌, refl}
use Rattle.base_trees.specs.Rose.{node, none}
use Rattle.base_flat_trees.specs.Zips.{added}
use Rattle.base_flat_trees.proofs.Zipped.{stands, stands_added, stands_for, is_zip}
use Rattle.base_flat_trees.proofs.builders.Builder.leaf.Goals as goal

pub invariant_of-self-2 : goal.invariant_of-self-2
invariant_of-self-2 g c =
    let old = stands c.self.inside.entries.items c.self.inside.inner c.self.inside.level c.args.self.now c.self.invariant c.self.view_is in
    is_zip c.push_entry.new.entries.items c.self.inside.inner c.self.inside.level (added (node c.args.label none) c.args.self.now)
    (stands_added c.self.inside.entries.items c.push_entry.new.entries.items (record { label = c.args.label; below = 0 } ∷ []) c.self.inside.inner c.self.inside.level c.args.self.now (node c.args.label none) old refl c.in_ok-push_entry.ensures.ok c.in_ok-push_entry.ensures.few)

pub returns-clause-ok : goal.returns-clause-ok
returns-clause-ok g c =
    let old = stands c.self.inside.entries.items c.self.inside.inner c.self.inside.level c.args.self.now c.self.invariant c.self.view_is in
    stands_for c.push_entry.new.entries.items c.self.inside.inner c.self.inside.level (added (node c.args.label none) c.args.self.now)
    (stands_added c.self.inside.entries.items c.push_entry.new.entries.items (record { label = c.args.label; below = 0 } ∷ []) c.self.inside.inner c.self.inside.level c.args.self.now (node c.args.label none) old refl c.in_ok-push_entry.ensures.ok c.in_ok-push_entry.ensures.few)
