use Rattle.std.proofs.Common.{◌++◌, ◌+◌, ◌-◌, ◌*◌, length, map, take, drop, sym, ap, ◌∙◌, arith}
use Rattle.per_fields.specs.Fields.{counted_bits}
use Rattle.per_fields.specs.Encoding.{octet_writer}
use Rattle.per_fields.proofs.Fragments.{run_octets}
use Rattle.per_encode.proofs.Puts.{on_ok, fragment_put, last_put}
use Rattle.per_encode.proofs.texts.put_fragments.Goals as goal

pub fragments-preserved : goal.fragments-preserved
fragments-preserved g c =
    let text = c.args.text.now in
    let at = c.fragments.at in
    let k = c.min-units.result in
    let mid = c.put_units.new.sink in
    let xs = take (at + k * 16384 - at) (drop at text) in
    let old = c.args.sink.now ++ counted_bits g.V.Variant.ALIGNED (map octet_writer text) (length c.args.sink.now) in
    record {
      inside = omega (arith, c.min-units.ensures, c.fragments-test.true);
      whole = fragment_put g.V.Variant.ALIGNED octet_writer text at k old c.fragments.sink mid c.put_octets.new.self c.fragments-test.true (omega (arith, c.min-units.ensures)) c.in_ok-put_units.ensures
          (c.in_ok-put_octets.ensures.ok ∙ ap (λ bs. mid ++ bs) (sym (run_octets xs (length mid)))) c.fragments.invariant.whole;
    }

pub returns : goal.returns
returns g c =
    let text = c.args.text.now in
    let at = c.fragments.at in
    let mid = c.put_last_length.new.sink in
    let old = c.args.sink.now ++ counted_bits g.V.Variant.ALIGNED (map octet_writer text) (length c.args.sink.now) in
    on_ok c.put_octets-2.result
    (λ e. last_put g.V.Variant.ALIGNED octet_writer text at old c.fragments.sink mid c.put_octets-2.new.self (omega (arith, c.fragments-test.false)) c.fragments.invariant.whole c.in_ok-put_last_length.ensures
    (e ∙ ap (λ bs. mid ++ bs) (sym (run_octets (take (length text - at) (drop at text)) (length mid)))))
    c.put_octets-2.ensures.ok
