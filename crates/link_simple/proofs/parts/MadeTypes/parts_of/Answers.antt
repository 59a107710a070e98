use Rattle.std.proofs.Common.{◌≡◌, ◌+◌, drop, Some, sym, ap, ◌∙◌, subst}
use Rattle.std.specs.Prelude.{IfSome}
use Rattle.std.specs.Option.{option_map}
use Rattle.schema_components.specs.Seen.{base_of, bases_in}
use Rattle.simple_types.specs.Sound.{Sound}
use Rattle.simple_facets.specs.Making.{AreEachSound}
use Rattle.link_names.specs.Tables.{told_by}
use Rattle.link_simple.specs.Making.{part_space, part_spaces, with_space}
use Rattle.link_simple.specs.Private.Parts.{entries_of, seen, seen_all, with_front}
use Rattle.simple_facets.proofs.Counting.{cut, past_end}
use Rattle.link_simple.proofs.Lending.{part_behind, part_missing, all_behind, part_sound}
use Rattle.link_simple.proofs.parts.MadeTypes.parts_of.Goals as goal

pub bases-preserved : goal.bases-preserved
bases-preserved c =
    let ns = told_by c.args.self.numbers.now in
    let made = entries_of c.args.self.entries.now in
    let file = c.args.file in
    let bs = c.args.bases.now in
    let i = c.bases.base-index in
    let ps = c.bases.found.items in
    let p = c.in-Some.part in
    let rest = part_spaces ns made file (bases_in (drop (i + 1) bs)) in
    let one : Some (seen p) ≡ part_space ns made file (base_of c.base-item.result) = sym (ap (option_map seen) c.in-Some.is) ∙ c.in_ok-part.ensures.space in
    let pushed = c.in_ok-push-in-Some.ensures.items in (
      c.bases.invariant.0 ∙ ap (λ xs. with_front (seen_all ps) (part_spaces ns made file (bases_in xs))) (cut bs i c.base-item.result c.bases-test.true c.base-item.is)
          ∙ ap (λ o. with_front (seen_all ps) (with_space o rest)) (sym one) ∙ part_behind ps p rest
          ∙ ap (λ qs. with_front (seen_all qs) rest) (sym pushed),
      subst (λ qs. AreEachSound (seen_all qs)) (sym pushed)
          (part_sound ps p c.bases.invariant.1 (subst (λ o. IfSome o (λ q. Sound (seen q))) c.in-Some.is c.in_ok-part.ensures.sound)),
    )

pub returns-in-None-clause-spaces : goal.returns-in-None-clause-spaces
returns-in-None-clause-spaces c =
    let ns = told_by c.args.self.numbers.now in
    let made = entries_of c.args.self.entries.now in
    let file = c.args.file in
    let bs = c.args.bases.now in
    let i = c.bases.base-index in
    let ps = c.bases.found.items in
    let rest = part_spaces ns made file (bases_in (drop (i + 1) bs)) in
    let none = sym (ap (option_map seen) c.in-None.is) ∙ c.in_ok-part.ensures.space in
    sym
    (c.bases.invariant.0 ∙ ap (λ xs. with_front (seen_all ps) (part_spaces ns made file (bases_in xs))) (cut bs i c.base-item.result c.bases-test.true c.base-item.is)
    ∙ ap (λ o. with_front (seen_all ps) (with_space o rest)) (sym none) ∙ part_missing (seen_all ps) rest)

pub returns-clause-spaces : goal.returns-clause-spaces
returns-clause-spaces c =
    let ns = told_by c.args.self.numbers.now in
    let made = entries_of c.args.self.entries.now in
    let ps = c.bases.found.items in
    sym
    (c.bases.invariant.0
    ∙ ap (λ xs. with_front (seen_all ps) (part_spaces ns made c.args.file (bases_in xs))) (past_end c.args.bases.now c.bases.base-index c.bases-test.false)
    ∙ all_behind ps)
