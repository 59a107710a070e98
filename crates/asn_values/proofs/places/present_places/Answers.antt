use Rattle.std.proofs.Common.{◌<◌, ◌+◌, sym, ap, ◌∙◌, length, arith, ◌∷◌, [], ◌++◌}
use Rattle.std.specs.Prelude.{map}
use Rattle.std.proofs.lemmas.List.{map-append}
use Rattle.base_trees.specs.Rose.{node, none}
use Rattle.asn_values.specs.Private.Placing.{place_seen}
use Rattle.asn_values.specs.Values.{place_of, present_from}
use Rattle.asn_values.proofs.Placed.{prepended, left, present-differ, left-unset, push-left}
use Rattle.asn_values.proofs.places.present_places.Goals.{then-present-i+in_ok-push, else-present-i+else-not-parts-i}
use Rattle.asn_values.proofs.places.present_places.Goals as goal

pub returns-then-parts-present : goal.returns-then-parts-present
returns-then-parts-present c =
    present-differ c.args.label.now 0 c.args.parts.now c.args.kids.now c.args.present.now
    (λ e le. let h = c.then-parts-present.either in omega (arith, h))

pub parts-preserved : goal.parts-preserved
parts-preserved c =
    let label = c.args.label.now in
    let parts = c.args.parts.now in
    let kids = c.args.kids.now in
    let flags = c.args.present.now in
    let i = c.parts.i in
    let whole = present_from label 0 parts kids flags in
    let in_parts = c.parts-test.true in
    let in_flags : i < length flags = omega (arith, c.if-parts-present.false) in
    let in_kids : i < length kids = omega (arith, c.if-kids-parts.false) in
    elim c.if-present-i.branch [
      | then-present-i+in_ok-push w ↦
          let part = w.index-parts-i.result in
          let kid = w.index-kids-i.result in
          let more = push-left label parts kids flags i part kid in_parts in_kids in_flags w.index-parts-i.is (map place_seen c.parts.places.items) whole c.parts.invariant w.if-present-i.true in
          let here = w.place_of.ensures ∙ ap (place_of label i part) w.index-kids-i.is in
          let pushed = ap (map place_seen) (ap (λ v. v.items) w.places-is ∙ w.in_ok-push.ensures.items) ∙ map-append place_seen c.parts.places.items (w.place_of.result ∷ []) ∙ ap (λ p. map place_seen c.parts.places.items ++ p ∷ []) here in
          more ∙ ap (λ ps. prepended ps (left label parts kids flags (i + 1))) (sym pushed)
      | else-present-i+else-not-parts-i w ↦
          let part = w.index-parts-i-else-present-i.result in
          let may = ap (λ p. p.optional) w.index-parts-i-else-present-i.is ∙ w.if-not-parts-i.false in
          let same = left-unset label parts kids flags i part (node label none) in_parts in_kids in_flags w.index-parts-i-else-present-i.is w.if-present-i.false may in
          c.parts.invariant ∙ ap (prepended (map place_seen c.parts.places.items)) same ∙ ap (λ v. prepended (map place_seen v.items) (left label parts kids flags (i + 1))) (sym w.places-is)
    ]
