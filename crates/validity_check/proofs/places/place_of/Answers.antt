use Rattle.std.proofs.Common.{◌<◌, sym, length, get_or, arith}
use Rattle.base_texts.proofs.NameLaws.{exact_names}
use Rattle.validity_check.proofs.Ordered.{upper_half, lower_half, none_left}
use Rattle.validity_check.proofs.places.place_of.Goals as goal

pub halves-preserved-in-Less : goal.halves-preserved-in-Less
halves-preserved-in-Less c =
    let us = c.args.uses.now in
    let n = c.halves.invariant.searched.narrowed in
    let within = n.within in
    let looks = c.halves.invariant.looks c.halves-test.true in
    let inside : c.halves.place < length us = omega (arith, within, looks) in
    record {
      searched = record { narrowed = upper_half us c.args.name.now c.requires.ascending c.halves.low c.halves.high c.halves.place inside n c.in-Less.ensures.order; run = c.in-Less.ensures.run };
      looks = c.middle-place.ensures;
    }

pub halves-preserved : goal.halves-preserved
halves-preserved c =
    let us = c.args.uses.now in
    let n = c.halves.invariant.searched.narrowed in
    let within = n.within in
    let looks = c.halves.invariant.looks c.halves-test.true in
    let inside : c.halves.place < length us = omega (arith, within, looks) in
    record {
      searched = record { narrowed = lower_half us c.args.name.now c.requires.ascending c.halves.low c.halves.high c.halves.place inside n c.in-Greater.ensures.order; run = c.in-Greater.ensures.run };
      looks = c.middle-place-in-Greater.ensures;
    }

pub returns-in-Equal-clause-place : goal.returns-in-Equal-clause-place
returns-in-Equal-clause-place c =
    let us = c.args.uses.now in
    let within = c.halves.invariant.searched.narrowed.within in
    let looks = c.halves.invariant.looks c.halves-test.true in
    let inside : c.halves.place < length us = omega (arith, within, looks) in
    (inside, λ d. exact_names (get_or us c.halves.place d).name c.args.name.now (sym (c.in-Equal.ensures.order d)))

pub returns-in-Equal-clause-run : goal.returns-in-Equal-clause-run
returns-in-Equal-clause-run c = (c.args.name.now.space, c.found.ensures c.args.uses.now c.args.name.now.space c.in-Equal.ensures.run)

pub returns-clause-place : goal.returns-clause-place
returns-clause-place c = none_left c.args.uses.now c.args.name.now c.halves.low c.halves.high c.halves-test.false c.halves.invariant.searched.narrowed
