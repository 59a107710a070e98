use Rattle.std.proofs.Common.{◌≡◌, subst, sym, rules, Some}
use Rattle.std.specs.Prelude.{position, FitsSigned}
use Rattle.std.specs.Ordering.{int_eq}
use Rattle.std.proofs.lemmas.Int.{to_z-of_z}
use mir.Syntax.{w128}
use Rattle.base_texts.specs.declared.white_space.WhiteSpace.TheVariants.{Collapse}
use Rattle.base_texts.specs.WhiteSpace.{treated}
use Rattle.simple_types.specs.Lexical.{whole_number}
use Rattle.simple_types.specs.Written.{Writes}
use Rattle.simple_types.proofs.WholeNumbers.{within_found}
use Rattle.simple_types.proofs.reading.read_number.Goals as goal

pub returns-in-Some-Within : goal.returns-in-Some-Within
returns-in-Some-Within c =
    let n = c.in-Some-Within.n in
    let numbers = c.args.numbers.now in
    let o = whole_number (treated Collapse c.args.text.now) in
    let written = subst (λ w. Writes (Some w) o) c.in-Some-Within.field-0-is c.in-Some-Within.ensures in
    let fits : FitsSigned w128 n = search rules in
    let place : c.place_of.result ≡ position (λ x. int_eq x n) numbers =
    subst (λ m. c.place_of.result ≡ position (λ x. int_eq x m) numbers) (to_z-of_z w128 n fits) c.place_of.ensures in
    rw (within_found numbers n o written, sym place) c.item.ensures
