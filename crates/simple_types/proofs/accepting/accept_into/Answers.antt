use Rattle.simple_types.proofs.Readings.{reads-Chars}
use Rattle.simple_types.proofs.accepting.accept_into.Goals as goal

pub returns-in-Chars-clause-read : goal.returns-in-Chars-clause-read
returns-in-Chars-clause-read c =
    let reads = reads-Chars c.args.simple.now c.args.text.now c.in-Chars.space c.in-Chars.min c.in-Chars.max c.in-Chars.class c.in-Chars.is in
    rw (reads, c.is_treated.ensures.0 c.if-is_treated.true) c.put_text.ensures.read
