use Rattle.std.proofs.Common.{◌<◌, length, arith}
use Rattle.record_stream.proofs.Reading.{octet_read}
use Rattle.record_stream.proofs.ahead.AheadSource.read.Goals as goal

pub returns-in-Some-clause-bytes : goal.returns-in-Some-clause-bytes
returns-in-Some-clause-bytes g c =
    let some : 0 < length c.args.buf.now = grind (arith, c.if-is_empty.ensures) in
    (octet_read c.args.self.now.octet c.take.new.self c.in-Some.octet c.args.buf.now (g.S.Source.left c.args.self.now.source.now) c.in-Some.ensures.value c.in-Some.ensures.after some, λ one. absurd (omega (arith, one)))
