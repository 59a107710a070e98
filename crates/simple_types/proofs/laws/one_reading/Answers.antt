use Rattle.simple_types.proofs.OwnSpellings.{some_reading, one_value, not_wide_too, not_bad_too, not_wide_and_bad}
use Rattle.simple_types.proofs.laws.one_reading.Goals as goal

pub returns-clause-some : goal.returns-clause-some
returns-clause-some c = some_reading

pub returns-clause-value : goal.returns-clause-value
returns-clause-value c = one_value

pub returns-clause-not_wide : goal.returns-clause-not_wide
returns-clause-not_wide c = not_wide_too

pub returns-clause-not_bad : goal.returns-clause-not_bad
returns-clause-not_bad c = not_bad_too

pub returns-clause-not_both : goal.returns-clause-not_both
returns-clause-not_both c = not_wide_and_bad
