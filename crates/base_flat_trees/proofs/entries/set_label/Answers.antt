use Rattle.std.proofs.Common.{set, ◌∙◌, ap}
use Rattle.base_flat_trees.proofs.Below.{gets_label}
use Rattle.base_flat_trees.proofs.entries.set_label.Goals as goal

pub returns : goal.returns
returns g c front e later is place =
    let got = gets_label c.args.entries.now.items c.args.at c.args.label c.index_mut-entry.result.now c.index_mut-entry.ensures.value front e later is place in (
      c.replace.ensures.value ∙ got.0,
      ap (λ l. set c.args.entries.now.items c.args.at (record { label = l; below = c.index_mut-entry.result.now.below })) c.replace.ensures.after ∙ got.1,
    )
