use Rattle.std.proofs.Common.{rules}
use Rattle.people_complaints.proofs.excerpts.excerpt.Goals as goal

pub returns : goal.returns
returns c =
    let end = c.last_part-before in
    let head = c.first_part-after in
    record {
      left = end.result.now;
      right = head.result.now;
      from = end.ensures.part.0;
      to = head.ensures.part.0;
      ends = end.ensures.part.1;
      begins = head.ensures.part.1;
      short = end.ensures.short;
      short_too = head.ensures.short;
      whole = end.ensures.whole;
      whole_too = head.ensures.whole;
      text = search rules;
    }
