use Rattle.std.proofs.Common.{refl, sym, ap, subst, ◌∙◌, ◌≡◌, ◌∷◌, [], ◌++◌, ◌<◌, ◌+◌, length, drop, append-nil, arith}
use Rattle.base_trees.specs.Rose.{roses_of}
use Rattle.module_read.specs.Ready.{components_told}
use Rattle.module_read.proofs.Making.{spelled, components_more, components_end}
use Rattle.module_read.proofs.forms.components.Goals as goal

pub component-requires : goal.component-requires
component-requires c =
    let parts = c.args.parts.now in
    let kids = c.args.kids.now in
    let i = c.parts.i in
    let within : i < length parts = omega (arith, c.parts-test.true, c.min-count.ensures) in
    let inside : i < length kids = omega (arith, c.parts-test.true, c.min-count.ensures) in
    let is = spelled parts kids i c.index-parts-i.result c.index-kids-i.result within c.index-parts-i.is inside c.index-kids-i.is c.args.assignments.now c.parts.invariant.rest in
    record { references = c.requires.references; marks = is.0.0; standard = is.0.1 }

pub parts-preserved : goal.parts-preserved
parts-preserved c =
    let parts = c.args.parts.now in
    let kids = c.args.kids.now in
    let i = c.parts.i in
    let P = c.args.assignments.now in
    let within : i < length parts = omega (arith, c.parts-test.true, c.min-count.ensures) in
    let inside : i < length kids = omega (arith, c.parts-test.true, c.min-count.ensures) in
    let is = spelled parts kids i c.index-parts-i.result c.index-kids-i.result within c.index-parts-i.is inside c.index-kids-i.is P c.parts.invariant.rest in
    record {
      items = ap (λ cs. cs ++ components_told P (drop (i + 1) parts) (roses_of (drop (i + 1) kids))) c.in_ok-push.ensures.items
          ∙ components_more parts kids i c.index-parts-i.result c.index-kids-i.result within c.index-parts-i.is inside c.index-kids-i.is P c.parts.made.items c.in_ok-part.part c.in_ok-part.ensures c.parts.invariant.items;
      rest = is.1;
    }

pub returns : goal.returns
returns c =
    let P = c.args.assignments.now in
    let items = c.parts.made.items in
    c.of.ensures
    ∙ sym (append-nil items)
    ∙ ap (λ cs. items ++ cs) (sym (components_end P c.args.parts.now c.args.kids.now c.parts.i (omega (arith, c.parts-test.false, c.min-count.ensures))))
    ∙ c.parts.invariant.items
