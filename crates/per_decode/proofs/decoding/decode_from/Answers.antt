use Rattle.std.proofs.Common.{rules, arith, sym, ◌∙◌, ◌≡◌}
use Rattle.per_decode.proofs.Octets.{at_octet}
use Rattle.per_decode.specs.Private.Giving.{spot, halt_of}
use Rattle.per_decode.proofs.decoding.decode_from.Goals as goal

pub invariant_of-run : goal.invariant_of-run
invariant_of-run g c =
    let b = c.new.result in
    let s = c.new.ensures.start in
    record {
      limited = s.2 ∙ c.requires.limit;
      few = omega arith;
      later = rw c.new.ensures.source (omega (arith, c.requires.faults));
      here = λ told. rw (s.0, s.1, c.new.ensures.source) (at_octet g.K.Origin.whole g.K.Origin.limit 0 b.held _ (omega arith) (omega arith) (c.requires.left told));
    }

pub returns-in-Ok-clause-told : goal.returns-in-Ok-clause-told
returns-in-Ok-clause-told g c = λ told.
    let run = c.complete.new.run in
    let e : c.in-Ok.source-1-own.given.0 ≡ run.bits.source.now = search rules in
    rw e (record {
      taken = run.bits.taken;
      inside = (run.here told).inside;
      limited = omega (arith, run.bits.within, run.limited);
      rest = (run.here told).rest;
      end = spot run.bits.position run.nodes;
      octets = c.in-Ok.ensures.octets;
      gives = rw (c.new.ensures.start.0) at (c.in-Ok.ensures.gives told);
    })

pub returns-in-Err-clause-told : goal.returns-in-Err-clause-told
returns-in-Err-clause-told g c = λ told.
    let run = c.complete.new.run in
    let e : c.source-in-Err-1.given.0 ≡ run.bits.source.now = search rules in
    rw e (record {
      taken = run.bits.taken;
      inside = (run.here told).inside;
      limited = omega (arith, run.bits.within, run.limited);
      rest = (run.here told).rest;
      end = spot run.bits.position run.nodes;
      octets = tt;
      gives = (halt_of c.in-Err.fault run.stop, sym c.told.ensures, rw (c.new.ensures.start.0) at (c.in-Err.ensures.gives told));
    })
