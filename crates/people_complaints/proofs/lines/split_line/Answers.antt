use Rattle.std.proofs.Common.{arith}
use Rattle.people_complaints.proofs.Feeds.{whole_line, cut_line}
use Rattle.people_complaints.proofs.lines.split_line.Goals as goal

pub returns-in-empty : goal.returns-in-empty
returns-in-empty c =
    whole_line c.args.bytes.now c.split_at.result.0.now c.split_at.result.1.now (rw c.line_len.ensures.value at c.split_at.ensures.front)
    (rw c.line_len.ensures.value at c.split_at.ensures.back) (omega arith)

pub returns-in-len1-up : goal.returns-in-len1-up
returns-in-len1-up c =
    cut_line c.args.bytes.now c.split_at.result.0.now c.split_at.result.1.now (rw c.line_len.ensures.value at c.split_at.ensures.front)
    (rw c.line_len.ensures.value at c.split_at.ensures.back) (omega arith)
