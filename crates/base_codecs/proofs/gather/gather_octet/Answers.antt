use Rattle.std.proofs.Common.{arith}
use Rattle.base_codecs.proofs.BitLemmas.{gather_below}
use Rattle.base_codecs.proofs.FewBits.{octet_same}
use Rattle.base_codecs.proofs.gather.gather_octet.Goals as goal

pub returns-clause-below : goal.returns-clause-below
returns-clause-below c = gather_below c.args.unread c.args.held c.args.octet c.requires.fits (omega arith)

pub returns-clause-same : goal.returns-clause-same
returns-clause-same c = octet_same c.args.unread c.args.held c.args.octet (omega arith)
