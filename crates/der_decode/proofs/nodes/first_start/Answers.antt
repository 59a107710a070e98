use Rattle.std.proofs.Common.{arith, refl, sym, ap, ◌∙◌, length}
use Rattle.base_trees.specs.Rose.{label_of, kids_of}
use Rattle.asn_types.specs.Parts.{parts_of}
use Rattle.der_decode.proofs.Choices.{first_here, first_later, first_nowhere}
use Rattle.der_decode.proofs.Parts.{got, kids-parts, alternatives_counted}
use Rattle.der_decode.proofs.Types.{found_of}
use Rattle.der_decode.proofs.nodes.first_start.Goals as goal

pub parts-init : goal.parts-init
parts-init c = refl

pub kid-requires : goal.kid-requires
kid-requires c =
    let as_many = kids-parts c.args.place.now.module.now c.requires.place.known c.args.place.now.found.now (found_of c.args.place.now c.requires.place) ∙ ap (λ f. length (parts_of f)) c.requires.form in
    omega (arith, as_many, c.parts-test.true)

pub returns-then-begins_so : goal.returns-then-begins_so
returns-then-begins_so c =
    let M = c.args.place.now.module.now in
    let u = c.args.place.now.found.now in
    let part = got c.args.parts.now c.parts.i c.parts-test.true in
    let same = c.label.ensures ∙ ap label_of c.resolve-to.ensures in
    sym (first_here M c.args.input.octets.now c.args.input.spot (label_of u) c.args.parts.now (kids_of u) c.parts.i part.0 c.kid.result.now part.1 c.kid.ensures (rw same at (sym c.begins_so.ensures ∙ c.if-begins_so.true))) ∙ c.parts.invariant

pub parts-preserved : goal.parts-preserved
parts-preserved c =
    let M = c.args.place.now.module.now in
    let u = c.args.place.now.found.now in
    let part = got c.args.parts.now c.parts.i c.parts-test.true in
    let same = c.label.ensures ∙ ap label_of c.resolve-to.ensures in
    sym (first_later M c.args.input.octets.now c.args.input.spot (label_of u) c.args.parts.now (kids_of u) c.parts.i part.0 c.kid.result.now part.1 c.kid.ensures (rw same at (sym c.begins_so.ensures ∙ c.if-begins_so.false))) ∙ c.parts.invariant

pub returns : goal.returns
returns c =
    let M = c.args.place.now.module.now in
    let u = c.args.place.now.found.now in
    sym (first_nowhere M c.args.input.octets.now c.args.input.spot (label_of u) c.args.parts.now (kids_of u) c.parts.i c.parts-test.false) ∙ c.parts.invariant

pub overflow_cast-i : goal.overflow_cast-i
overflow_cast-i c =
    omega (arith, (alternatives_counted c.args.place.now.module.now c.requires.place.known c.args.place.now.found.now (found_of c.args.place.now c.requires.place) c.args.parts.now c.requires.form).1, c.parts-test.true)

pub overflow_cast-result : goal.overflow_cast-result
overflow_cast-result c =
    omega (arith, (alternatives_counted c.args.place.now.module.now c.requires.place.known c.args.place.now.found.now (found_of c.args.place.now c.requires.place) c.args.parts.now c.requires.form).1, c.parts-test.true)
