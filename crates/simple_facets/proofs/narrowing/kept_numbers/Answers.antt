use Rattle.std.proofs.Common.{◌≡◌, [], ◌∷◌, ◌++◌, cond, sym, ap, ◌∙◌, subst, get_or, take, rules}
use Rattle.std.specs.Prelude.{FitsSigned, pos, filter}
use Rattle.std.proofs.lemmas.Int.{to_z-of_z}
use Rattle.std.proofs.lemmas.List.{append-nil}
use Rattle.std.proofs.lemmas.List.Elements.{filter_more}
use mir.Syntax.{w128}
use Rattle.simple_facets.specs.Restricting.{keeps_number}
use Rattle.simple_facets.proofs.narrowing.kept_numbers.Goals as goal
use Rattle.simple_facets.proofs.narrowing.kept_numbers.Goals.{then-keeps_number+in_ok-push, else-keeps_number}

pub numbers-preserved : goal.numbers-preserved
numbers-preserved c =
    let numbers = c.args.numbers.now in
    let x = get_or numbers c.numbers.n-index (pos 0) in
    let fits : FitsSigned w128 x = search rules in
    let keeps : c.keeps_number.result ≡ keeps_number c.args.asked x =
    subst (λ m. c.keeps_number.result ≡ keeps_number c.args.asked m) (to_z-of_z w128 x fits) c.keeps_number.ensures in
    let kept = filter (keeps_number c.args.asked) (take c.numbers.n-index numbers) in
    let more = filter_more (keeps_number c.args.asked) numbers c.numbers.n-index (pos 0) c.numbers-test.true in
    elim c.if-keeps_number.branch [
      | then-keeps_number+in_ok-push w ↦ (
          let yes = sym keeps ∙ w.if-keeps_number.true in
          ap (λ v. v.items) w.kept-is
          ∙ subst (λ m. w.push.new.self.items ≡ c.numbers.kept.items ++ m ∷ []) (to_z-of_z w128 x fits) w.in_ok-push.ensures.items
          ∙ ap (λ l. l ++ x ∷ []) c.numbers.invariant ∙ sym (more ∙ ap (λ b. kept ++ cond b (x ∷ []) []) yes)
          )
      | else-keeps_number w ↦ (
          let no = sym keeps ∙ w.if-keeps_number.false in
          ap (λ v. v.items) w.kept-is ∙ c.numbers.invariant ∙ sym (more ∙ ap (λ b. kept ++ cond b (x ∷ []) []) no ∙ append-nil kept)
          )
    ]
