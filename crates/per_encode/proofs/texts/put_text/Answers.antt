use Rattle.std.proofs.Common.{◌++◌, length, refl, sym, ap, ◌∙◌, arith}
use Rattle.per_fields.specs.Encoding.{octet_writer}
use Rattle.per_fields.proofs.Fragments.{run_octets}
use Rattle.per_encode.proofs.Puts.{on_ok, last_taken}
use Rattle.per_encode.proofs.texts.put_text.Goals as goal

pub returns : goal.returns
returns g c =
    let text = c.args.text.now in
    let mid = c.put_last_length.new.sink in
    on_ok c.put_octets.result
    (λ e. last_taken g.V.Variant.ALIGNED octet_writer text _ c.args.sink.now mid c.put_octets.new.self (omega arith) refl c.in_ok-put_last_length.ensures
    (e ∙ ap (λ bs. mid ++ bs) (sym (run_octets text (length mid)))))
    c.put_octets.ensures.ok
