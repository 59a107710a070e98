use Rattle.std.proofs.Common.{◌≡◌, ◌+◌, ◌∷◌, length, arith, ap}
use Rattle.std.proofs.lemmas.List.{length-append}
use Rattle.people_complaints.proofs.Ends.{alone, one_more}
use Rattle.people_complaints.proofs.lines.last_line.Goals as goal

pub lines-preserved : goal.lines-preserved
lines-preserved c =
    let line = c.in-Some.field-0-0.now in
    let behind = c.in-Some.behind.now in
    record {
      few = omega (arith, ap length c.in-Some.ensures.1, length-append line (10 ∷ behind));
      ends = λ n h at.
          let e : n + (c.lines.ended + 1) ≡ n + 1 + c.lines.ended = omega arith in
          rw e (c.lines.invariant.ends (n + 1) h (one_more line behind c.lines.here.now h n c.in-Some.ensures.0 c.in-Some.ensures.1 at));
    }

pub returns : goal.returns
returns c =
    let e : c.lines.ended + 1 ≡ 1 + c.lines.ended = omega arith in
    rw e (c.lines.invariant.ends 1 c.lines.here.now (alone c.lines.here.now c.in_default.ensures))
