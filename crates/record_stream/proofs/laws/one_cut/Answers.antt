use Rattle.record_stream.proofs.Cutting.{some_cut_of, one_cut_of}
use Rattle.record_stream.proofs.laws.one_cut.Goals as goal

pub returns-clause-some : goal.returns-clause-some
returns-clause-some c = λ M t known bounded assigned. some_cut_of M t known bounded assigned

pub returns-clause-one : goal.returns-clause-one
returns-clause-one c = λ M t known bounded assigned. one_cut_of M t known bounded assigned
