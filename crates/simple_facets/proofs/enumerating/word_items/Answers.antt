use Rattle.std.proofs.Common.{◌≡◌, [], ◌∷◌, ◌++◌, ◌+◌, drop, sym, ap, ◌∙◌, subst}
use Rattle.std.proofs.lemmas.Result.{err_from_is_err_and}
use Rattle.simple_types.specs.Seen.{space_of}
use Rattle.simple_facets.specs.Restricting.{each_item, word_item, items_of}
use Rattle.simple_facets.proofs.Enumerations.{behind_items, each_more, each_past, each_stops_if, each_all, none_behind}
use Rattle.simple_facets.proofs.enumerating.word_items.Goals as goal
use Rattle.simple_facets.proofs.enumerating.word_items.Goals.{in-Some+in_ok-word+in_ok-push, in_default}

pub facets-init : goal.facets-init
facets-init c =
    let rest = each_item (word_item c.args.space (space_of c.args.now.now)) (items_of c.args.facets.now) in
    none_behind rest ∙ ap (λ xs. behind_items xs rest) (sym c.new-items.ensures.items)

pub facets-preserved : goal.facets-preserved
facets-preserved c =
    let facets = c.args.facets.now in
    let i = c.facets.facet-index in
    let rest = each_item (word_item c.args.space (space_of c.args.now.now)) (items_of (drop (i + 1) facets)) in
    elim c.match-enumeration_of.branch [
      | in-Some+in_ok-word+in_ok-push w ↦ (
          let one = subst (λ f. items_of (f ∷ []) ≡ w.in-Some.text.now ∷ []) c.facet-item.is w.in-Some.ensures in
          let x = w.in_ok-word.word in
          let pushed : w.push.new.self.items ≡ c.facets.items.items ++ x ∷ [] = w.in_ok-push.ensures.items in
          each_more (word_item c.args.space (space_of c.args.now.now)) facets i c.facet-item.result c.facets-test.true c.facets.items.items c.facets.invariant w.in-Some.text.now x one (sym w.in_ok-word.ensures)
          ∙ ap (λ l. behind_items l rest) (sym (ap (λ v. v.items) w.items-is ∙ pushed))
          )
      | in_default w ↦ (
          let none = subst (λ f. items_of (f ∷ []) ≡ []) c.facet-item.is w.in_default.ensures in
          each_past (word_item c.args.space (space_of c.args.now.now)) facets i c.facet-item.result c.facets-test.true c.facets.items.items c.facets.invariant none
          ∙ ap (λ v. behind_items v.items rest) (sym w.items-is)
          )
    ]

pub returns : goal.returns
returns c = each_all (word_item c.args.space (space_of c.args.now.now)) c.args.facets.now c.facets.facet-index c.facets.items.items c.facets-test.false c.facets.invariant

pub returns-in_err-word : goal.returns-in_err-word
returns-in_err-word c =
    let facets = c.args.facets.now in
    let one = subst (λ f. items_of (f ∷ []) ≡ c.in-Some.text.now ∷ []) c.facet-item.is c.in-Some.ensures in
    let p = err_from_is_err_and c.from_residual.result c.from_residual.ensures.1 in
    rw (p.1, p.2) (each_stops_if (word_item c.args.space (space_of c.args.now.now)) facets c.facets.facet-index c.facet-item.result c.facets-test.true c.facets.items.items c.facets.invariant c.in-Some.text.now _ one c.in_err-word.ensures)
