use Rattle.std.proofs.Common.{◌≡◌, ◌++◌, ◌+◌, ◌*◌, ◌<◌, ◌^◌, ◌∷◌, length, drop, get_or, false, [], sym, ap, ◌∙◌, subst, arith}
use Rattle.std.proofs.lemmas.List.{append-nil, drop_all}
use Rattle.asn_types.specs.declared.types.Component.{Component}
use Rattle.base_codecs.specs.Bits.{bits, bit}
use Rattle.per_fields.specs.Encoding.{flag_bits}
use Rattle.per_encode.proofs.Bits.{none_held, flag_there, no_flag, flag_held, byte_bit, fits_more}
use Rattle.per_encode.proofs.flags.put_flags.Goals as goal
use Rattle.per_encode.proofs.flags.put_flags.Goals.{then-parts-i, then-count-eq64+in_ok-put_bits, else-count-eq64, else-parts-i}

pub parts-init : goal.parts-init
parts-init c = record {
  few = omega arith;
  fits = omega arith;
  whole = ap (λ bs. bs ++ flag_bits c.args.parts.now c.args.present.now) (none_held c.args.sink.now);
}

pub parts-preserved : goal.parts-preserved
parts-preserved c =
    let parts = c.args.parts.now in
    let present = c.args.present.now in
    let i = c.parts.i in
    let part = c.index-parts-i.result in
    let sink = c.parts.sink in
    let inside : i < length present = omega (arith, c.requires, c.parts-test.true) in
    let same = ap (λ (p : Component). p.optional) c.index-parts-i.is in
    let rest = flag_bits (drop (i + 1) parts) (drop (i + 1) present) in
    let flag = get_or present i false in
    let old = c.args.sink.now ++ flag_bits parts present in
    elim c.if-parts-i.branch [
      | then-parts-i w ↦ (
          let left = flag_there parts present i part c.parts-test.true c.index-parts-i.is inside (same ∙ w.if-parts-i.true) in
          let now : (sink ++ bits c.parts.count c.parts.held) ++ (flag ∷ rest) ≡ old = sym (ap (λ fs. (sink ++ bits c.parts.count c.parts.held) ++ fs) left) ∙ c.parts.invariant.whole in
          let added : w.from.result ≡ bit flag = w.from.ensures ∙ byte_bit flag in
          elim w.if-count-eq64.branch [
            | then-count-eq64+in_ok-put_bits u ↦ (
                let put : u.put_bits.new.self ≡ sink ++ bits c.parts.count c.parts.held = u.in_ok-put_bits.ensures.ok ∙ ap (λ n. sink ++ bits n c.parts.held) (sym u.if-count-eq64.true) in
                let empty : (u.put_bits.new.self ++ bits 0 0) ++ (flag ∷ rest) ≡ old = ap (λ bs. bs ++ (flag ∷ rest)) (none_held u.put_bits.new.self ∙ put) ∙ now in
                let held = flag_held u.put_bits.new.self old rest 0 0 flag empty in
                let count_is : c.if-parts-i.count ≡ 1 = omega (arith, w.count-is, u.count-is) in
                let held_is : c.if-parts-i.held ≡ 2 * 0 + bit flag = omega (arith, w.held-is, u.held-is, added) in
                record {
                  few = omega (arith, count_is);
                  fits = subst (λ n. c.if-parts-i.held < 2 ^ n) (sym count_is) (subst (λ h. h < 2 ^ 1) (sym held_is) (fits_more 0 0 flag (omega arith)));
                  whole = ap (λ s. (s ++ bits c.if-parts-i.count c.if-parts-i.held) ++ rest) (w.sink-is ∙ u.sink-is)
                      ∙ ap (λ n. (u.put_bits.new.self ++ bits n c.if-parts-i.held) ++ rest) count_is ∙ ap (λ h. (u.put_bits.new.self ++ bits 1 h) ++ rest) held_is ∙ held;
                })
            | else-count-eq64 u ↦ (
                let held = flag_held sink old rest c.parts.count c.parts.held flag now in
                let count_is : c.if-parts-i.count ≡ c.parts.count + 1 = omega (arith, w.count-is, u.count-is) in
                let held_is : c.if-parts-i.held ≡ 2 * c.parts.held + bit flag = omega (arith, w.held-is, u.held-is, added) in
                record {
                  few = omega (arith, count_is, u.if-count-eq64.false, c.parts.invariant.few);
                  fits = subst (λ n. c.if-parts-i.held < 2 ^ n) (sym count_is) (subst (λ h. h < 2 ^ (c.parts.count + 1)) (sym held_is) (fits_more c.parts.held c.parts.count flag c.parts.invariant.fits));
                  whole = ap (λ s. (s ++ bits c.if-parts-i.count c.if-parts-i.held) ++ rest) (w.sink-is ∙ u.sink-is)
                      ∙ ap (λ n. (sink ++ bits n c.if-parts-i.held) ++ rest) count_is ∙ ap (λ h. (sink ++ bits (c.parts.count + 1) h) ++ rest) held_is ∙ held;
                })
          ])
      | else-parts-i w ↦ (
          let left = no_flag parts present i part c.parts-test.true c.index-parts-i.is inside (same ∙ w.if-parts-i.false) in
          record {
            few = omega (arith, w.count-is, c.parts.invariant.few);
            fits = subst (λ n. c.if-parts-i.held < 2 ^ n) (sym w.count-is) (subst (λ h. h < 2 ^ c.parts.count) (sym w.held-is) c.parts.invariant.fits);
            whole = ap (λ s. (s ++ bits c.if-parts-i.count c.if-parts-i.held) ++ rest) w.sink-is ∙ ap (λ n. (sink ++ bits n c.if-parts-i.held) ++ rest) w.count-is
                ∙ ap (λ h. (sink ++ bits c.parts.count h) ++ rest) w.held-is ∙ sym (ap (λ fs. (sink ++ bits c.parts.count c.parts.held) ++ fs) left) ∙ c.parts.invariant.whole;
          })
    ]

pub returns-then-count-eq0 : goal.returns-then-count-eq0
returns-then-count-eq0 c =
    let sink = c.parts.sink in
    let count = c.parts.count in
    let held = c.parts.held in
    let i = c.parts.i in
    let p : drop i c.args.parts.now ≡ [] = drop_all i c.args.parts.now (omega (arith, c.parts-test.false)) in
    let q : drop i c.args.present.now ≡ [] = drop_all i c.args.present.now (omega (arith, c.parts-test.false, c.requires)) in
    let none : flag_bits (drop i c.args.parts.now) (drop i c.args.present.now) ≡ [] = ap (λ cs. flag_bits cs (drop i c.args.present.now)) p ∙ ap (λ fs. flag_bits [] fs) q in
    let fits : held < 2 ^ 0 = subst (λ n. held < 2 ^ n) c.if-count-eq0.true c.parts.invariant.fits in
    let nothing : held ≡ 0 = omega (arith, fits) in
    let same : sink ++ bits count held ≡ sink = ap (λ n. sink ++ bits n held) c.if-count-eq0.true ∙ ap (λ h. sink ++ bits 0 h) nothing ∙ none_held sink in
    sym (append-nil sink) ∙ ap (λ bs. bs ++ []) (sym same) ∙ ap (λ fs. (sink ++ bits count held) ++ fs) (sym none) ∙ c.parts.invariant.whole
