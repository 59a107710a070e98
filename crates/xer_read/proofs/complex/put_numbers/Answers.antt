use Rattle.std.proofs.Common.{◌∷◌, [], map, take, get_or, arith, sym, ◌∙◌, ap, subst}
use Rattle.std.proofs.lemmas.List.{take_all, take_more, map-append}
use Rattle.base_flat_trees.specs.Zips.{added_all}
use Rattle.simple_types.specs.declared.labels.ValueLabel.TheVariants as value
use Rattle.value_builder.specs.Built.{Puts}
use Rattle.xer_read.specs.Private.Slots.{number_value}
use Rattle.xer_read.proofs.Putting.{all-none, all-more, items-put}
use Rattle.xer_read.proofs.complex.put_numbers.Goals as goal

pub numbers-init : goal.numbers-init
numbers-init c = all-none c.open.new.self

pub numbers-preserved : goal.numbers-preserved
numbers-preserved c =
    let xs = c.args.numbers.now in
    let i = c.numbers.number-index in
    let n = get_or xs i 0 in
    let more = ap (map number_value) (take_more xs i 0 c.numbers-test.true) ∙ map-append number_value (take i xs) (n ∷ []) in
    subst (λ vs. Puts (added_all vs) c.open.new.self c.leaf.new.self) (sym more)
    (all-more (map number_value (take i xs)) (number_value n) c.open.new.self c.numbers.values c.leaf.new.self c.numbers.invariant c.in_ok-leaf.ensures)

pub returns : goal.returns
returns c =
    let xs = c.args.numbers.now in
    let all = ap (map number_value) (take_all c.numbers.number-index xs (omega (arith, c.numbers-test.false))) in
    items-put value.SequenceOf (map number_value xs) c.args.values.now c.open.new.self c.numbers.values c.close.new.self c.in_ok-open.ensures
    (subst (λ vs. Puts (added_all vs) c.open.new.self c.numbers.values) all c.numbers.invariant) c.close.ensures
