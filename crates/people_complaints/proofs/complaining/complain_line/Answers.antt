use Rattle.std.proofs.Common.{refl}
use Rattle.transcode_words.specs.Lines.{line}
use Rattle.people_complaints.proofs.Told.{line_written, written}
use Rattle.people_complaints.proofs.complaining.complain_line.Goals as goal

pub returns : goal.returns
returns g c = λ texts.
    line_written texts c.args.outcome _ _ (line c.args.outcome) _ _
    (written c.write_line.result _ _ (line c.args.outcome) _ _ c.write_line.ensures.ok c.write_line.ensures.prefix c.write_line.ensures.cause) refl
