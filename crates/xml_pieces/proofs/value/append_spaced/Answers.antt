use Rattle.std.proofs.Common.{sym}
use Rattle.xml_pieces.proofs.Ends.{spaced_ended, spaced_skipped, spaced_joined}
use Rattle.xml_pieces.proofs.value.append_spaced.Goals as goal

pub returns-in_default : goal.returns-in_default
returns-in_default c = spaced_ended _ _ _ _ c.lines.rest.now _ _ c.kept_len.ensures.value c.split_at.ensures.front c.split_at.ensures.back c.in_ok-append.ensures c.in_default.ensures.cases c.lines.invariant

pub lines-preserved : goal.lines-preserved
lines-preserved c = spaced_skipped _ _ _ _ c.lines.rest.now _ _ _ _ c.kept_len.ensures.value c.split_at.ensures.front c.split_at.ensures.back c.in_ok-append.ensures c.in-Some.ensures.cases.0 (sym c.if-not-is_line_start.ensures) c.lines.invariant

pub lines-preserved-in_ok-append-2 : goal.lines-preserved-in_ok-append-2
lines-preserved-in_ok-append-2 c = spaced_joined _ _ _ _ _ c.lines.rest.now _ _ _ _ c.kept_len.ensures.value c.split_at.ensures.front c.split_at.ensures.back c.in_ok-append.ensures c.in-Some.ensures.cases.0 c.in_ok-append-2.ensures (sym c.if-not-is_line_start.ensures) c.lines.invariant
