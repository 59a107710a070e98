use Rattle.std.proofs.Common.{◌≡◌, sym, ap, ◌∙◌, subst, rules, Some, Ok}
use Rattle.std.specs.Prelude.{FitsSigned, true, false}
use Rattle.std.proofs.lemmas.Int.{to_z-of_z}
use mir.Syntax.{w128}
use Rattle.base_texts.specs.declared.white_space.WhiteSpace.TheVariants.{Collapse}
use Rattle.base_texts.specs.WhiteSpace.{treated}
use Rattle.simple_types.specs.Seen.{space_of}
use Rattle.simple_types.specs.declared.numbers.Whole.TheVariants.{Within}
use Rattle.simple_types.specs.Lexical.{whole_number}
use Rattle.simple_types.specs.Written.{Writes}
use Rattle.simple_facets.specs.Private.Deciding.{has_number}
use Rattle.simple_facets.proofs.Enumerations.{item_within}
use Rattle.simple_facets.proofs.enumerating.number_item.Goals as goal

pub returns-then-has_number : goal.returns-then-has_number
returns-then-has_number c =
    let n = c.in-Some-Within.n in
    let fits : FitsSigned w128 n = search rules in
    let o = whole_number (treated Collapse c.as_str.result.now) in
    let written : Writes (Some (Within n)) o = subst (λ w. Writes (Some w) o) c.in-Some-Within.field-0-is c.in-Some-Within.ensures in
    let here : Writes (Some (Within n)) (whole_number (treated Collapse c.args.text.now)) = subst (λ t. Writes (Some (Within n)) (whole_number (treated Collapse t))) c.as_str.ensures written in
    let has : c.has_number.result ≡ has_number (space_of c.args.now.now) n =
    subst (λ m. c.has_number.result ≡ has_number (space_of c.args.now.now) m) (to_z-of_z w128 n fits) c.has_number.ensures in
    ap Ok (to_z-of_z w128 n fits) ∙ sym (item_within (space_of c.args.now.now) c.args.text.now n c.requires.numbers here true (sym c.if-has_number.true ∙ has))

pub returns-else-has_number : goal.returns-else-has_number
returns-else-has_number c =
    let n = c.in-Some-Within.n in
    let fits : FitsSigned w128 n = search rules in
    let o = whole_number (treated Collapse c.as_str.result.now) in
    let written : Writes (Some (Within n)) o = subst (λ w. Writes (Some w) o) c.in-Some-Within.field-0-is c.in-Some-Within.ensures in
    let here : Writes (Some (Within n)) (whole_number (treated Collapse c.args.text.now)) = subst (λ t. Writes (Some (Within n)) (whole_number (treated Collapse t))) c.as_str.ensures written in
    let has : c.has_number.result ≡ has_number (space_of c.args.now.now) n =
    subst (λ m. c.has_number.result ≡ has_number (space_of c.args.now.now) m) (to_z-of_z w128 n fits) c.has_number.ensures in
    sym (item_within (space_of c.args.now.now) c.args.text.now n c.requires.numbers here false (sym c.if-has_number.false ∙ has))
