use Rattle.std.proofs.Common.{inl}
use Rattle.transcode_core.specs.Private.Seen.{type_seen}
use Rattle.transcode_core.proofs.Taken.{first_fault}
use Rattle.transcode_core.proofs.receiving.decode_octets.Goals as goal

pub returns-in-Err-Bad-clause-due : goal.returns-in-Err-Bad-clause-due
returns-in-Err-Bad-clause-due c =
    inl (
      first_fault (type_seen c.args.typed.now) c.args.octets.now c.in-Err-Bad.at c.in-Err-Bad.why (rw c.in-Err-Bad.field-0-is at c.in-Err-Bad.ensures.answer) c.see_octets.ensures,
      tt,
    )
