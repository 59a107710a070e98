use Rattle.module_parse.proofs.forms.part_ending.Goals as goal

pub returns-in-Component-clause-value : goal.returns-in-Component-clause-value
returns-in-Component-clause-value c = rw c.in-Component.is c.ending.ensures.value
