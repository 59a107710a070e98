use Rattle.transcode_core.proofs.linking.chosen_root.Goals as goal

pub returns-in-Named : goal.returns-in-Named
returns-in-Named c = rw c.in-Named.is c.root_number.ensures

pub returns-in-Only : goal.returns-in-Only
returns-in-Only c = rw c.in-Only.is c.only_root.ensures
