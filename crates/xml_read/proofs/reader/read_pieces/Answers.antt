use Rattle.std.proofs.Common.{◌≡◌, take, rules, arith, refl, sym, subst}
use Rattle.std.proofs.lemmas.Result.{err_from_is_err_and}
use Rattle.xml_pieces.specs.Reasons.{IsPlainRun}
use Rattle.xml_read.proofs.Known.{laws}
use Rattle.xml_read.proofs.Utf8.{gives_utf8}
use Rattle.xml_pieces.specs.Found.{seen}
use Rattle.xml_pieces.specs.Pieces.{Begins, NoPieceAt}
use Rattle.xml_read.specs.Private.States.{State}
use Rattle.xml_read.specs.Private.Building.{state, TakesKnown}
use Rattle.xml_read.proofs.Reaching.{place_of}
use Rattle.xml_read.proofs.Going.{Stands, stands_first}
use Rattle.xml_read.proofs.Built.{add_scoped}
use Rattle.xml_read.proofs.Read.{at_none, at_fault, first_fault, steps_on, gets_shorter, stands_still, scoped_still, known_on, known_scoped, known_shorter, takes_plain, whole_read, unfinished}
use Rattle.xml_read.proofs.reader.read_pieces.Goals as goal

pub pieces-init : goal.pieces-init
pieces-init c = record {
  stands = subst (λ (s : State). Stands c.args.bytes.now c.skip_mark-rest.result.now s) (sym c.requires.begins.steps) (stands_first c.args.bytes.now c.skip_mark-rest.result.now c.requires.utf8 c.skip_mark-rest.ensures);
  scoped = c.requires.begins.scoped;
}

pub returns-in_default-2-clause-err : goal.returns-in_default-2-clause-err
returns-in_default-2-clause-err c =
    let stands = stands_still c.args.bytes.now c.pieces.rest.now c.pieces.builder c.take_known.new.self c.pieces.invariant.stands (search rules) in
    let e : NoPieceAt c.pieces.rest.now = search rules in
    at_none c.args.bytes.now c.pieces.rest.now c.take_known.new.self _ _ _ stands (search rules) e c.why_none-cause.ensures refl c.why.ensures

pub returns-in_err-behind-clause-err : goal.returns-in_err-behind-clause-err
returns-in_err-behind-clause-err c =
    let p = err_from_is_err_and c.from_residual.result c.from_residual.ensures.1 in
    rw (p.1, p.2) (first_fault c.args.bytes.now c.pieces.rest.now c.pieces.builder _ c.in_err-behind.field-0.0 c.pieces.invariant.stands (search rules) refl c.in_err-behind.ensures.err)

pub returns-in_err-take-clause-err : goal.returns-in_err-take-clause-err
returns-in_err-take-clause-err c =
    let p = err_from_is_err_and c.from_residual-in_err-take.result c.from_residual-in_err-take.ensures.1 in
    let stands = stands_still c.args.bytes.now c.pieces.rest.now c.pieces.builder c.take_known.new.self c.pieces.invariant.stands (search rules) in
    let e : Begins (seen c.in-Some-2.found) c.pieces.rest.now c.in-Some-2.behind.now = search rules in
    rw (p.1, p.2) (at_fault c.args.bytes.now c.pieces.rest.now c.in-Some-2.behind.now c.take_known.new.self (seen c.in-Some-2.found) _ c.in_err-take.field-0.0 stands (search rules) refl e c.in_err-take.ensures.err)

pub pieces-smaller : goal.pieces-smaller
pieces-smaller c =
    let e : Begins (seen c.in-Some-2.found) c.pieces.rest.now c.in-Some-2.behind.now = search rules in
    gets_shorter c.args.bytes.now c.pieces.rest.now c.in-Some-2.behind.now (state c.pieces.builder) (seen c.in-Some-2.found) c.pieces.invariant.stands e

pub pieces-preserved : goal.pieces-preserved
pieces-preserved c =
    let stands = stands_still c.args.bytes.now c.pieces.rest.now c.pieces.builder c.take_known.new.self c.pieces.invariant.stands (search rules) in
    let e : Begins (seen c.in-Some-2.found) c.pieces.rest.now c.in-Some-2.behind.now = search rules in
    record {
      stands = steps_on c.args.bytes.now c.pieces.rest.now c.in-Some-2.behind.now c.take_known.new.self c.take.new.self (seen c.in-Some-2.found) _ stands refl e c.in_ok-take.ensures.ok;
      scoped = c.in_ok-take.ensures.ok.scoped;
    }

pub utf8_text-requires : goal.utf8_text-requires
utf8_text-requires c =
    let run : IsPlainRun (take c.plain_len-plain.result c.pieces.rest.now) = search rules in
    let same : c.split_at.result.0.now ≡ take c.plain_len-plain.result c.pieces.rest.now = search rules in
    rw same run.utf8

pub take-requires-clause-utf8 : goal.take-requires-clause-utf8
take-requires-clause-utf8 c =
    let e : Begins (seen c.in-Some-2.found) c.pieces.rest.now c.in-Some-2.behind.now = search rules in
    gives_utf8 (seen c.in-Some-2.found) (laws.fine (seen c.in-Some-2.found) c.pieces.rest.now c.in-Some-2.behind.now c.pieces.invariant.stands.rest_utf8 e)

pub pieces-preserved-then-plain-gt0 : goal.pieces-preserved-then-plain-gt0
pieces-preserved-then-plain-gt0 c =
    let stands = stands_still c.args.bytes.now c.pieces.rest.now c.pieces.builder c.take_known.new.self c.pieces.invariant.stands (search rules) in
    record {
      stands = takes_plain c.args.bytes.now c.pieces.rest.now c.utf8_text.result.now c.split_at.result.1.now c.take_known.new.self c.add.new.self c.plain_len-plain.result _ stands refl (search rules) (search rules) (search rules) (search rules) (search rules) (search rules) (search rules);
      scoped = add_scoped c.take_known.new.self c.add.new.self c.utf8_text.result.now _ 0 (scoped_still c.pieces.builder c.take_known.new.self c.pieces.invariant.scoped (search rules)) c.in_ok-add.ensures.state c.in_ok-add.ensures.kept;
    }

pub returns-clause-ok : goal.returns-clause-ok
returns-clause-ok c = whole_read c.args.bytes.now c.pieces.rest.now c.pieces.builder c.requires.short c.pieces.invariant.stands c.pieces.invariant.scoped (search rules) (search rules)

pub returns-then-not-builder-clause-err : goal.returns-then-not-builder-clause-err
returns-then-not-builder-clause-err c = unfinished c.args.bytes.now c.pieces.rest.now c.pieces.builder _ c.pieces.invariant.stands (search rules) refl (search rules)

pub pieces-preserved-in-Some : goal.pieces-preserved-in-Some
pieces-preserved-in-Some c =
    let at = place_of c.args.bytes.now c.pieces.rest.now in
    let taken : TakesKnown c.pieces.rest.now c.in-Some.behind.now at c.pieces.builder c.take_known.new.self = search rules in
    record {
      stands = known_on c.args.bytes.now c.pieces.rest.now c.in-Some.behind.now c.pieces.builder c.take_known.new.self at c.pieces.invariant.scoped c.pieces.invariant.stands refl taken;
      scoped = known_scoped c.pieces.rest.now c.in-Some.behind.now c.pieces.builder c.take_known.new.self at taken;
    }

pub pieces-smaller-in-Some : goal.pieces-smaller-in-Some
pieces-smaller-in-Some c =
    let at = place_of c.args.bytes.now c.pieces.rest.now in
    let taken : TakesKnown c.pieces.rest.now c.in-Some.behind.now at c.pieces.builder c.take_known.new.self = search rules in
    known_shorter c.args.bytes.now c.pieces.rest.now c.in-Some.behind.now c.pieces.builder c.take_known.new.self at c.pieces.invariant.stands taken

pub take_known-requires-clause-place : goal.take_known-requires-clause-place
take_known-requires-clause-place c = omega (arith, c.pieces.invariant.stands.reaches.within, c.requires.short)

pub take_known-requires-clause-utf8 : goal.take_known-requires-clause-utf8
take_known-requires-clause-utf8 c = c.pieces.invariant.stands.rest_utf8
