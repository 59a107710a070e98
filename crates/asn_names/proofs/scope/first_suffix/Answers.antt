use Rattle.std.proofs.Common.{arith, ◌≡◌, ◌+◌, sym, ◌∙◌, subst, true, false}
use Rattle.std.specs.Prelude.{bytes_eq}
use Rattle.std.specs.List.{list_any, Contains}
use Rattle.asn_names.proofs.Apart.{has-Contains, lacks-Contains, one_more_taken}
use Rattle.asn_names.proofs.Numbers.{taken-le}
use Rattle.asn_names.proofs.scope.first_suffix.Goals as goal

pub suffixes-init : goal.suffixes-init
suffixes-init c = (c.requires.positive, c.requires.taken)

pub returns-then-not-contains : goal.returns-then-not-contains
returns-then-not-contains c =
    let lacks : list_any (bytes_eq c.in_ok-text.text) c.args.names.now.keys ≡ false = sym c.contains.ensures ∙ c.if-not-contains.true in
    (c.in_ok-text.ensures, c.suffixes.invariant.0, omega (arith, c.suffixes.auto.n-fits), lacks-Contains _ _ lacks, c.suffixes.invariant.1)

-- one more suffix is taken
pub overflow_add-n : goal.overflow_add-n
overflow_add-n c =
    let has : list_any (bytes_eq c.in_ok-text.text) c.args.names.now.keys ≡ true = sym c.contains.ensures ∙ c.if-not-contains.false in
    let here = subst (Contains c.args.names.now.keys) c.in_ok-text.ensures (has-Contains _ _ has) in
    let taken = one_more_taken c.args.names.now.keys c.args.name.now c.suffixes.n c.suffixes.invariant.1 here in
    let few = taken-le c.args.names.now.keys c.args.name.now (c.suffixes.n + 1) (omega (arith, c.suffixes.auto.n-fits)) taken in
    omega (arith, few, c.len.ensures.len, c.len.ensures.small)

pub suffixes-smaller-else-not-contains : goal.suffixes-smaller-else-not-contains
suffixes-smaller-else-not-contains c = omega (arith, c.suffixes.auto.n-fits)

pub suffixes-preserved-else-not-contains : goal.suffixes-preserved-else-not-contains
suffixes-preserved-else-not-contains c =
    let has : list_any (bytes_eq c.in_ok-text.text) c.args.names.now.keys ≡ true = sym c.contains.ensures ∙ c.if-not-contains.false in
    let here = subst (Contains c.args.names.now.keys) c.in_ok-text.ensures (has-Contains _ _ has) in
    (omega arith, one_more_taken c.args.names.now.keys c.args.name.now c.suffixes.n c.suffixes.invariant.1 here)

pub suffixes-smaller : goal.suffixes-smaller
suffixes-smaller c = omega (arith, c.suffixes.auto.n-fits)

pub suffixes-preserved : goal.suffixes-preserved
suffixes-preserved c =
    let has : list_any (bytes_eq c.in_ok-text.text) c.args.names.now.keys ≡ true = sym c.contains.ensures ∙ c.if-not-contains.false in
    let here = subst (Contains c.args.names.now.keys) c.in_ok-text.ensures (has-Contains _ _ has) in
    (omega arith, one_more_taken c.args.names.now.keys c.args.name.now c.suffixes.n c.suffixes.invariant.1 here)
