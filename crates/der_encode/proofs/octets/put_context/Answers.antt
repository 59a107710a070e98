use Rattle.std.proofs.Common.{◌≡◌, ◌+◌, ◌++◌, ◌/◌, ◌%◌, ◌∷◌, [], sym, ap, ◌∙◌, append_assoc, arith}
use Rattle.std.proofs.lemmas.List.{append-nil}
use Rattle.der_fields.specs.Octets.{form_bit}
use Rattle.der_encode.proofs.Sevens.{sevens_back, no_sevens, next_seven, large_back}
use Rattle.der_encode.proofs.octets.put_context.Goals as goal
use Rattle.der_encode.proofs.octets.put_context.Goals.{then-constructed, else-constructed}

pub sevens-preserved : goal.sevens-preserved
sevens-preserved c =
    let xs = c.sevens.back.items in
    let n = c.sevens.left in
    let rest = sevens_back (n / 128) in
    record {
      whole = ap (λ ys. ys ++ rest) c.in_ok-push-3.ensures.items ∙ append_assoc xs ((128 + n % 128) ∷ []) rest
          ∙ ap (λ ys. xs ++ ys) (sym (next_seven n c.sevens-test.true)) ∙ c.sevens.invariant.whole;
    }

pub returns : goal.returns
returns c =
    let xs = c.sevens.back.items in
    let old = c.args.back.now.items in
    let n = c.args.number in
    let form : c.if-constructed.form ≡ form_bit c.args.constructed =
    elim c.if-constructed.branch [
      | then-constructed w ↦ w.form-is ∙ sym (ap form_bit w.if-constructed.true)
      | else-constructed w ↦ w.form-is ∙ sym (ap form_bit w.if-constructed.false)
    ] in
    let none : c.sevens.left ≡ 0 = omega (arith, c.sevens-test.false) in
    let digits = n % 128 ∷ sevens_back (n / 128) in
    let done : xs ≡ old ++ digits = sym (append-nil xs) ∙ ap (λ ys. xs ++ ys) (sym (ap sevens_back none ∙ no_sevens)) ∙ c.sevens.invariant.whole in
    let last = (159 + form_bit c.args.constructed) ∷ [] in
    c.in_ok-push-4.ensures.items ∙ ap (λ f. xs ++ ((159 + f) ∷ [])) form ∙ ap (λ ys. ys ++ last) done ∙ append_assoc old digits last
    ∙ ap (λ ys. old ++ ys) (sym (large_back c.args.constructed n c.if-number-lt31.false))
