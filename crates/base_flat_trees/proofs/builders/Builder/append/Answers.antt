use Rattle.base_flat_trees.specs.Zips.{added_all}
use Rattle.base_flat_trees.proofs.Zipped.{stands, stands_added_all, stands_for, is_zip, entries_forest}
use Rattle.base_flat_trees.proofs.builders.Builder.append.Goals as goal

pub invariant_of-self-2 : goal.invariant_of-self-2
invariant_of-self-2 g c =
    let old = stands c.self.inside.entries.items c.self.inside.inner c.self.inside.level c.args.self.now c.self.invariant c.self.view_is in
    is_zip c.append_entries.new.entries.items c.self.inside.inner c.self.inside.level (added_all c.args.trees c.args.self.now)
    (stands_added_all c.self.inside.entries.items c.append_entries.new.entries.items c.trees.inside.entries.items c.self.inside.inner c.self.inside.level c.args.self.now c.args.trees old
    (entries_forest c.trees.inside.entries.items c.args.trees c.trees.invariant c.trees.view_is) c.in_ok-append_entries.ensures.ok c.in_ok-append_entries.ensures.few)

pub returns-clause-ok : goal.returns-clause-ok
returns-clause-ok g c =
    let old = stands c.self.inside.entries.items c.self.inside.inner c.self.inside.level c.args.self.now c.self.invariant c.self.view_is in
    stands_for c.append_entries.new.entries.items c.self.inside.inner c.self.inside.level (added_all c.args.trees c.args.self.now)
    (stands_added_all c.self.inside.entries.items c.append_entries.new.entries.items c.trees.inside.entries.items c.self.inside.inner c.self.inside.level c.args.self.now c.args.trees old
    (entries_forest c.trees.inside.entries.items c.args.trees c.trees.invariant c.trees.view_is) c.in_ok-append_entries.ensures.ok c.in_ok-append_entries.ensures.few)
