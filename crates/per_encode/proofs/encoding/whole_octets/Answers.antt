use Rattle.std.proofs.Common.{sym, ap, ◌∙◌, arith, Vec, Global, ℕ}
use Rattle.std.proofs.lemmas.Bool.{eqb-true, eqb-false}
use Rattle.base_codecs.specs.Bits.{octet_bits}
use Rattle.per_encode.proofs.Bits.{finished, finished_empty, some_left}
use Rattle.per_encode.proofs.encoding.whole_octets.Goals as goal
use Rattle.per_encode.proofs.encoding.whole_octets.Goals.{then-is_empty+in_ok-push, else-is_empty}

pub returns : goal.returns
returns c =
    let octets = c.finish-octets.result in
    let sink = c.args.sink in
    elim c.if-is_empty.branch [
      | then-is_empty+in_ok-push w ↦ (
          let none = eqb-true octets.len 0 (sym c.is_empty.ensures ∙ w.if-is_empty.true) in
          ap (λ (o : Vec ℕ Global). octet_bits o.items) w.octets-is ∙ ap octet_bits w.in_ok-push.ensures.items
          ∙ finished_empty sink octets.items c.finish-octets.ensures (omega (arith, octets.ok.0, none)))
      | else-is_empty w ↦ (
          let some = eqb-false octets.len 0 (sym c.is_empty.ensures ∙ w.if-is_empty.false) in
          ap (λ (o : Vec ℕ Global). octet_bits o.items) w.octets-is ∙ finished sink octets.items c.finish-octets.ensures (some_left octets.len octets.items octets.ok.0 some))
    ]
