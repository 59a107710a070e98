use Rattle.std.proofs.Common.{◌∙◌, sym, subst}
use Rattle.std.specs.Prelude.{◌↔◌, IsTrue}
use Rattle.simple_types.specs.Seen.{space_of}
use Rattle.simple_types.specs.Sound.{Sound}
use Rattle.simple_types.specs.Reading.{Holds}
use Rattle.asn_values.specs.Values.{IsSpelled}
use Rattle.asn_values.proofs.Counting.{if_ok}
use Rattle.asn_types.proofs.SimpleLaws.{maps-seen}
use Rattle.asn_values.proofs.rules.is_spelled.Goals as goal

pub holds-requires : goal.holds-requires
holds-requires c =
    let known = c.requires in
    subst Sound (maps-seen known.0 c.args.node.now known.2 ∙ sym c.in_ok-simple.ensures) known.1

pub returns : goal.returns
returns c =
    let t = c.args.node.now in
    let v = c.args.value.now in
    let s = space_of c.in_ok-simple.simple in
    let known = c.requires in
    let one = maps-seen known.0 t known.2 ∙ sym c.in_ok-simple.ensures in
    if_ok (λ b. IsTrue b ↔ Holds s v) (λ b. IsTrue b ↔ IsSpelled t v) c.holds.result
    (λ b both. (
      (λ yes. (known.0, known.1, known.2, subst (λ u. Holds u v) (sym one) (both.0 yes))),
      (λ spelled. both.1 (subst (λ u. Holds u v) (maps-seen spelled.0 t spelled.2 ∙ sym c.in_ok-simple.ensures) spelled.3)),
    ))
    c.holds.ensures
