use Rattle.std.proofs.Common.{◌+◌, ◌-◌, drop, Option, Some, get_or, slice_get, map, length, ap, sym, ◌∙◌, subst, ◌<◌, ◌≤◌}
use Rattle.schema_components.specs.Documents.{doc_of}
use Rattle.link_names.specs.declared.places.Place.{Place}
use Rattle.link_names.specs.declared.faults.LinkWhy.TheVariants.{Limit}
use Rattle.link_names.specs.Order.{fault, place, IsFirst}
use Rattle.link_names.specs.Limits.{limit_at, counted_places}
use Rattle.link_names.proofs.Counting.{found_here, passes}
use Rattle.link_names.proofs.Firsts.{the_one}
use Rattle.link_names.proofs.limits.first_beyond_limit.Goals as goal

pub returns-then-left-counted : goal.returns-then-left-counted
returns-then-left-counted c =
    let d = c.doc-item.result in
    let at = get_or c.counted-counted.result.now c.docs.left 0 in
    let few : c.docs.left < length (doc_of d).counted = rw (sym c.counted-counted.ensures) c.if-left-counted.true in
    let here = found_here c.args.docs.now c.docs.doc-index d c.docs.left c.docs-test.true c.doc-item.is at few (ap (λ ns. get_or ns c.docs.left 0) c.counted-counted.ensures) in
    let P : Option Place → Type 0 = λ o. IsFirst (limit_at o) (fault Limit (place c.file.result at)) in
    subst P (sym (c.docs.invariant ∙ here ∙ ap (λ f. Some (place f at)) (sym c.file.ensures))) (the_one (fault Limit (place c.file.result at)))

pub docs-preserved : goal.docs-preserved
docs-preserved c =
    let d = c.doc-item.result in
    let many : length (doc_of d).counted ≤ c.docs.left = rw (sym c.counted-counted.ensures) c.if-left-counted.false in
    c.docs.invariant ∙ passes c.args.docs.now c.docs.doc-index d c.docs.left c.docs-test.true c.doc-item.is many
    ∙ ap (λ ns. slice_get (counted_places (map doc_of (drop (c.docs.doc-index + 1) c.args.docs.now))) (c.docs.left - length ns)) (sym c.counted-counted.ensures)
