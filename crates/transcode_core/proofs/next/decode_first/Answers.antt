use Rattle.std.proofs.Common.{true, inl}
use Rattle.per_decode.specs.declared.errors.DecodeError.TheVariants.{Bad, TooLong}
use Rattle.transcode_words.specs.declared.outcome.Outcome.TheVariants as outcome
use Rattle.transcode_core.specs.Private.Seen.{type_seen}
use Rattle.transcode_core.proofs.Received.{renamed, stops_at, too_long}
use Rattle.transcode_core.proofs.FirstRecords.{first_value, first_stop}
use Rattle.transcode_core.proofs.next.decode_first.Goals as goal

pub returns-in-Ok-clause-due : goal.returns-in-Ok-clause-due
returns-in-Ok-clause-due g c =
    first_value (type_seen c.args.typed.now) (g.S.Source.left c.args.input.now) (g.S.Source.left c.decode.new.source) c.in-Ok.first c.in-Ok.ensures.value c.in-Ok.ensures.answer

pub returns-in-Err-Bad-clause-due : goal.returns-in-Err-Bad-clause-due
returns-in-Err-Bad-clause-due g c =
    let type = type_seen c.args.typed.now in
    let old = g.S.Source.left c.args.input.now in
    let new = g.S.Source.left c.decode.new.source in
    inl (
      first_stop type old (outcome.PerFault c.in-Err-Bad.bit c.in-Err-Bad.why)
          (stops_at true type c.requires.2 old new c.in-Err-Bad.bit c.in-Err-Bad.why (renamed true type c.requires.2 old new c.in-Err-Bad.field-0 (Bad c.in-Err-Bad.bit c.in-Err-Bad.why) c.in-Err-Bad.field-0-is c.in-Err-Bad.ensures.answer))
          (λ at is. cc),
      tt,
    )

pub returns-in-Err-TooLong-clause-due : goal.returns-in-Err-TooLong-clause-due
returns-in-Err-TooLong-clause-due g c =
    let type = type_seen c.args.typed.now in
    let old = g.S.Source.left c.args.input.now in
    let new = g.S.Source.left c.decode.new.source in
    inl (
      first_stop type old (outcome.TooLong 0) (too_long true type c.requires.2 old new (renamed true type c.requires.2 old new c.in-Err-TooLong.field-0 TooLong c.in-Err-TooLong.field-0-is c.in-Err-TooLong.ensures.answer)) (λ at is. cc),
      tt,
    )
