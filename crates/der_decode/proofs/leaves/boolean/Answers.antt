use Rattle.std.proofs.Common.{ℕ, List, length, refl, ap, arith, drop, get_or}
use Rattle.der_decode.proofs.Octets.{all_left}
use Rattle.der_decode.proofs.Contents.{bool_many, bool_false, bool_true, bool_other}
use Rattle.der_decode.proofs.leaves.boolean.Goals as goal

pub returns-then-contents-ne1-clause-reads : goal.returns-then-contents-ne1-clause-reads
returns-then-contents-ne1-clause-reads c =
    let X = c.args.octets.now in
    let s = c.args.spot in
    let many = ap (λ (ys : List ℕ). length ys) (all_left s.at X) in
    bool_many X s c.requires (λ e. omega (arith, e, many))

pub returns-in-0-clause-reads : goal.returns-in-0-clause-reads
returns-in-0-clause-reads c =
    let X = c.args.octets.now in
    let s = c.args.spot in
    let xs = drop s.at X in
    let many = ap (λ (ys : List ℕ). length ys) (all_left s.at X) in
    let first = ap (λ ys. get_or ys 0 0) (all_left s.at X) in
    bool_false X s c.requires (get_or xs 0 0) (omega (arith, many)) refl (omega (arith, first))

pub returns-in-255-clause-reads : goal.returns-in-255-clause-reads
returns-in-255-clause-reads c =
    let X = c.args.octets.now in
    let s = c.args.spot in
    let xs = drop s.at X in
    let many = ap (λ (ys : List ℕ). length ys) (all_left s.at X) in
    let first = ap (λ ys. get_or ys 0 0) (all_left s.at X) in
    bool_true X s c.requires (get_or xs 0 0) (omega (arith, many)) refl (omega (arith, first))

pub returns-in_default-clause-reads : goal.returns-in_default-clause-reads
returns-in_default-clause-reads c =
    let X = c.args.octets.now in
    let s = c.args.spot in
    let xs = drop s.at X in
    let many = ap (λ (ys : List ℕ). length ys) (all_left s.at X) in
    let first = ap (λ ys. get_or ys 0 0) (all_left s.at X) in
    bool_other X s c.requires (get_or xs 0 0) (omega (arith, many)) refl (λ e. omega (arith, e, first)) (λ e. omega (arith, e, first))
