use Rattle.std.proofs.Common.{ℕ, ◌≤◌, ◌-◌, length, arith}
use Rattle.std.proofs.lemmas.List.{length-take, length-drop}
use Rattle.base_codecs.proofs.Taking.{read_more}
use Rattle.base_codecs.proofs.fetch.fetch.Goals as goal

pub reads-preserved : goal.reads-preserved
reads-preserved g c =
    let count = c.in-Ok.count in
    let fits : count ≤ c.min-want.result - c.reads.have = omega (arith, length-take {A = ℕ}, length-drop {A = ℕ}, c.in-Ok.ensures.bound) in
    let short : count ≤ length c.read.new.buf = omega (arith, length-take {A = ℕ}, c.in-Ok.ensures.bound) in
    let inside : c.reads.have ≤ length c.reads.buf = omega arith in
    record {
      inside = omega arith;
      bytes = read_more _ _ _ c.reads.have (c.min-want.result - c.reads.have) count c.reads.buf c.read.new.buf short inside c.reads.invariant.bytes c.in-Ok.ensures.bytes.0;
      later = omega (arith, c.in-Ok.ensures.cause.later);
    }
