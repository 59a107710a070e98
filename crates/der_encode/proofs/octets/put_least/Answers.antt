use Rattle.std.proofs.Common.{◌++◌, ◌/◌, ◌∷◌, [], sym, ap, ◌∙◌, append_assoc}
use Rattle.der_encode.proofs.Least.{backwards, first_back, next_back}
use Rattle.der_encode.proofs.octets.put_least.Goals as goal

pub octets-preserved : goal.octets-preserved
octets-preserved c =
    let xs = c.octets.back.items in
    let n = c.octets.left in
    let rest = backwards c.args.top c.args.negative (n / 256) in
    record {
      whole = ap (λ ys. ys ++ rest) c.in_ok-push.ensures.items ∙ append_assoc xs (c.turn.result ∷ []) rest
          ∙ ap (λ ys. xs ++ ys) (ap (λ y. y ∷ rest) c.turn.ensures ∙ sym (next_back c.args.top c.requires.some c.args.negative n c.octets-test.true))
          ∙ c.octets.invariant.whole;
    }

pub returns : goal.returns
returns c =
    let xs = c.octets.back.items in
    c.in_ok-push-2.ensures.items
    ∙ ap (λ ys. xs ++ ys) (ap (λ y. y ∷ []) c.turn-2.ensures ∙ sym (first_back c.args.top c.requires.some c.args.negative c.octets.left c.octets-test.false))
    ∙ c.octets.invariant.whole
