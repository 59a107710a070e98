use Rattle.std.proofs.Common.{◌+◌, [], ◌∷◌, map, length, drop, sym, ap, subst, ◌∙◌, arith, length-append}
use Rattle.std.proofs.lemmas.List.{drop_all}
use Rattle.map_subjects.proofs.Finding.{drop-next}
use Rattle.map_assignments.specs.Naming.{identifier_of}
use Rattle.map_assignments.specs.Private.Building.{LeadsToNames}
use Rattle.map_assignments.proofs.Taking.{names-next}
use Rattle.map_assignments.proofs.words.take_words.Goals as goal

pub words-preserved : goal.words-preserved
words-preserved c =
    let inv = c.words.invariant in
    let g = c.in_ok-identifier.identifier in
    let more = c.in_ok-push.ensures.items in (
      omega (arith, ap length more, length-append c.words.made.items (g ∷ []), inv.0),
      λ first names lead.
          names-next first c.words.scope c.words.made.items c.take.new.self c.push.new.self.items c.in_ok-converted.converted g _ names
          c.in_ok-identifier.ensures.taken c.in_ok-identifier.ensures.noted more
          (subst (λ ns. LeadsToNames first c.words.scope c.words.made.items ns names)
          (ap (map identifier_of) (drop-next c.args.words.now c.words.word-index c.word-item.result c.words-test.true c.word-item.is)
          ∙ ap (λ n. n ∷ map identifier_of (drop (c.words.word-index + 1) c.args.words.now)) (sym c.in_ok-converted.ensures)) (inv.1 first names lead)),
    )

pub returns-clause-taken : goal.returns-clause-taken
returns-clause-taken c =
    λ first names lead.
    subst (λ ws. LeadsToNames first c.words.scope c.words.made.items (map identifier_of ws) names)
    (drop_all c.words.word-index c.args.words.now c.words-test.false) (c.words.invariant.1 first names lead)
