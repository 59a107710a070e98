use Rattle.std.proofs.Common.{arith, sym, ap, ◌∙◌, ◌≡◌, subst, IsTrue}
use Rattle.std.proofs.lemmas.List.{length-take-le}
use Rattle.std.proofs.lemmas.Result.{err_from_is_err_and}
use Rattle.base_trees.specs.Rose.{Rose, label_of}
use Rattle.asn_types.specs.declared.types.TypeLabel.{TypeLabel}
use Rattle.asn_types.specs.Modules.{AreWellFormed}
use Rattle.asn_types.specs.Refs.{resolve}
use Rattle.asn_types.proofs.Chaining.{resolved-of-module, well-formed}
use Rattle.asn_types.proofs.Inside.{form-well_formed}
use Rattle.asn_values.specs.Values.{OwnAt}
use Rattle.der_fields.specs.Reading.{leaf_of}
use Rattle.der_decode.specs.Private.Bodies.{HasNoKids}
use Rattle.der_decode.specs.Private.Leaves.{IsLeaf}
use Rattle.der_decode.proofs.Newest.{newest-pushed, pushed-newest}
use Rattle.der_decode.proofs.Owning.{leaf_headless, leaf_stops, leaf_keeps, leaf_breaks}
use Rattle.der_decode.proofs.Shows.{never_both}
use Rattle.der_decode.proofs.Types.{leaf-form}
use Rattle.der_decode.proofs.nodes.leaf_node.Goals as goal

pub leaf-requires-clause-leaf : goal.leaf-requires-clause-leaf
leaf-requires-clause-leaf c =
    let M = c.args.place.now.module.now in
    let u = c.args.place.now.node.now in
    let same : c.label.result.now ≡ label_of (resolve M u) = c.label.ensures ∙ ap label_of c.requires.place.resolved in
    let has = subst (λ (w : Rose TypeLabel). HasNoKids (label_of w).form) c.requires.place.resolved c.requires.form in
    subst (λ (l : TypeLabel). IsLeaf l.form) (sym same)
    (leaf-form M (label_of (resolve M u)).form has (form-well_formed M (resolve M u) (well-formed M (resolve M u) c.requires.place.known (resolved-of-module M u c.requires.place.of))))

pub leaf_keeps-requires-clause-well_formed : goal.leaf_keeps-requires-clause-well_formed
leaf_keeps-requires-clause-well_formed c =
    let M = c.args.place.now.module.now in
    let u = c.args.place.now.node.now in
    subst (AreWellFormed M) (sym c.requires.place.resolved) (well-formed M (resolve M u) c.requires.place.known (resolved-of-module M u c.requires.place.of))

pub returns-in_err-window-clause-gives : goal.returns-in_err-window-clause-gives
returns-in_err-window-clause-gives c =
    let M = c.args.place.now.module.now in
    let u = c.args.place.now.node.now in
    let p = err_from_is_err_and c.from_residual.result c.from_residual.ensures.1 in
    let same : c.label.result.now ≡ label_of (resolve M u) = c.label.ensures ∙ ap label_of c.requires.place.resolved in
    let has = subst (λ (w : Rose TypeLabel). HasNoKids (label_of w).form) c.requires.place.resolved c.requires.form in
    rw (p.1, p.2) (leaf_headless M c.requires.place.known c.args.place.now.depth c.args.place.now.tag u c.requires.place.of c.args.input.octets.now c.args.input.spot has c.in_err-window.field-0.0 (rw same at c.in_err-window.ensures.gives))

pub returns-in_err-value-clause-gives : goal.returns-in_err-value-clause-gives
returns-in_err-value-clause-gives c =
    let M = c.args.place.now.module.now in
    let u = c.args.place.now.node.now in
    let p = err_from_is_err_and c.from_residual-in_err-value.result c.from_residual-in_err-value.ensures.1 in
    let same : c.label.result.now ≡ label_of (resolve M u) = c.label.ensures ∙ ap label_of c.requires.place.resolved in
    let has = subst (λ (w : Rose TypeLabel). HasNoKids (label_of w).form) c.requires.place.resolved c.requires.form in
    rw (p.1, p.2) (leaf_stops M c.requires.place.known c.args.place.now.depth c.args.place.now.tag u c.requires.place.of c.args.input.octets.now c.args.input.spot has _ _ _ (rw same at c.in_ok-window.ensures.gives) c.in_err-value.field-0.0 (rw same at c.in_err-value.ensures.stopped))

pub returns-then-not-leaf_keeps-clause-gives : goal.returns-then-not-leaf_keeps-clause-gives
returns-then-not-leaf_keeps-clause-gives c =
    let M = c.args.place.now.module.now in
    let u = c.args.place.now.node.now in
    let same : c.label.result.now ≡ label_of (resolve M u) = c.label.ensures ∙ ap label_of c.requires.place.resolved in
    let has = subst (λ (w : Rose TypeLabel). HasNoKids (label_of w).form) c.requires.place.resolved c.requires.form in
    let long = length-take-le c.in_ok-window.window.end c.args.input.octets.now (omega (arith, c.in_ok-window.ensures.inside)) in
    let keeps = subst (λ (w : Rose TypeLabel). OwnAt M (label_of w) w (leaf_of c.in_ok-value.value) → IsTrue c.leaf_keeps.result) c.requires.place.resolved c.leaf_keeps.ensures.1 in
    leaf_breaks M c.requires.place.known c.args.place.now.depth c.args.place.now.tag u c.requires.place.of c.args.input.octets.now c.args.input.spot has _ _ _ (rw same at c.in_ok-window.ensures.gives) c.in_ok-value.value (rw same at c.in_ok-value.ensures.ok) long c.in_ok-value.ensures.text
    (λ own. never_both c.leaf_keeps.result (keeps own) c.if-not-leaf_keeps.true)

pub returns-clause-pushed : goal.returns-clause-pushed
returns-clause-pushed c = pushed-newest _ _ _ c.in_ok-leaf.ensures.ok

pub returns-clause-gives : goal.returns-clause-gives
returns-clause-gives c =
    let M = c.args.place.now.module.now in
    let u = c.args.place.now.node.now in
    let same : c.label.result.now ≡ label_of (resolve M u) = c.label.ensures ∙ ap label_of c.requires.place.resolved in
    let has = subst (λ (w : Rose TypeLabel). HasNoKids (label_of w).form) c.requires.place.resolved c.requires.form in
    let long = length-take-le c.in_ok-window.window.end c.args.input.octets.now (omega (arith, c.in_ok-window.ensures.inside)) in
    let own = subst (λ (w : Rose TypeLabel). OwnAt M (label_of w) w (leaf_of c.in_ok-value.value)) c.requires.place.resolved (c.leaf_keeps.ensures.0 c.if-not-leaf_keeps.false) in
    rw (newest-pushed _ _ _ c.in_ok-leaf.ensures.ok)
    (leaf_keeps M c.requires.place.known c.args.place.now.depth c.args.place.now.tag u c.requires.place.of c.args.input.octets.now c.args.input.spot has _ _ _ (rw same at c.in_ok-window.ensures.gives) c.in_ok-value.value (rw same at c.in_ok-value.ensures.ok) long c.in_ok-value.ensures.text own)
