use Rattle.record_stream.proofs.Cutting.{one_list_of}
use Rattle.record_stream.proofs.laws.one_list.Goals as goal

pub returns : goal.returns
returns c = λ M t known bounded assigned. one_list_of M t known bounded assigned
