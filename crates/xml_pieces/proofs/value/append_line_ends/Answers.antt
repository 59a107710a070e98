use Rattle.std.proofs.Common.{sym}
use Rattle.xml_pieces.proofs.Ends.{lines_ended, lines_skipped, lines_joined}
use Rattle.xml_pieces.proofs.value.append_line_ends.Goals as goal

pub returns-in_default : goal.returns-in_default
returns-in_default c = lines_ended _ _ _ _ c.lines.rest.now _ _ c.line_len.ensures.value c.split_at.ensures.front c.split_at.ensures.back c.in_ok-append.ensures c.in_default.ensures.cases c.lines.invariant

pub lines-preserved : goal.lines-preserved
lines-preserved c = lines_skipped _ _ _ _ c.lines.rest.now _ _ _ _ c.line_len.ensures.value c.split_at.ensures.front c.split_at.ensures.back c.in_ok-append.ensures c.in-Some.ensures.cases.0 (sym c.if-not-starts_line.ensures) c.lines.invariant

pub lines-preserved-in_ok-append-2 : goal.lines-preserved-in_ok-append-2
lines-preserved-in_ok-append-2 c = lines_joined _ _ _ _ _ c.lines.rest.now _ _ _ _ c.line_len.ensures.value c.split_at.ensures.front c.split_at.ensures.back c.in_ok-append.ensures c.in-Some.ensures.cases.0 c.in_ok-append-2.ensures (sym c.if-not-starts_line.ensures) c.lines.invariant
