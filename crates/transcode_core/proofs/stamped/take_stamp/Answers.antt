use Rattle.std.proofs.Common.{◌+◌, arith}
use Rattle.transcode_core.proofs.Requests.Stamps.{after_next, taken_more}
use Rattle.transcode_core.proofs.stamped.take_stamp.Goals as goal

pub returns-in_err-take_octet-clause-few : goal.returns-in_err-take_octet-clause-few
returns-in_err-take_octet-clause-few g c =
    let f = c.octets.invariant.few in
    let t = c.take_octet.ensures.few in
    (f.0 + t.0, omega (arith, f.1, t.1, c.in-len1-up.len_at_least), taken_more _ _ _ f.0 t.0 f.2 t.2)

pub octets-preserved : goal.octets-preserved
octets-preserved g c =
    let f = c.octets.invariant.few in
    let t = c.take_octet.ensures.few in
    record {
      follows = λ v after. c.octets.invariant.follows v (after_next c.octets.rest.now c.in-len1-up.len_at_least _ _ v c.in_ok-take_octet.ensures.taken after);
      few = (f.0 + t.0, omega (arith, f.1, t.1, c.in-len1-up.len_at_least), taken_more _ _ _ f.0 t.0 f.2 t.2);
      later = omega (arith, c.octets.invariant.later, c.take_octet.ensures.later);
    }
