use Rattle.std.proofs.Common.{◌∙◌, subst, rules, refl}
use Rattle.xml_pieces.specs.Found.{tag_seen}
use Rattle.xml_items.specs.Growing.{Grows}
use Rattle.std.proofs.lemmas.Result.{err_from_is_err_and}
use Rattle.xml_read.proofs.Built.{empty_stops, stops_here, enters_here, mid_of, empty_takes}
use Rattle.xml_read.proofs.builder.Builder.empty_read.Goals as goal

pub returns-in_err-head-clause-err : goal.returns-in_err-head-clause-err
returns-in_err-head-clause-err c =
    let old = c.args.self.now in
    let tag = tag_seen c.args.tag.now in
    let place = c.tag_place-place.result in
    let p = err_from_is_err_and c.from_residual.result c.from_residual.ensures.1 in
    rw (p.1, p.2) (stops_here old tag place.ended place.depth place.at c.args.at _ _ (empty_stops old tag place.depth c.requires.scoped c.tag_place-place.ensures.depth) c.tag_place-place.ensures.ended c.tag_place-place.ensures.at c.in_err-head.ensures.err)

pub returns-clause-ok : goal.returns-clause-ok
returns-clause-ok c =
    let old = c.args.self.now in
    let head = c.in_ok-head.head in
    let place = c.tag_place-place.result in
    let names = c.element.new.self.names in
    let grows : Grows old.items.names names = subst (λ ns. Grows ns names) c.in_ok-flush.ensures.same_names c.element.ensures.names in
    empty_takes old c.flush.new.self _ head.name head.attributes.items head.declares.items (tag_seen c.args.tag.now) c.args.at c.enter.new.scope _ c.requires.scoped
    (enters_here old (tag_seen c.args.tag.now) place.ended place.depth head.name head.attributes.items head.declares.items c.tag_place-place.ensures.ended c.tag_place-place.ensures.depth c.in_ok-head.ensures.ok.opens)
    (mid_of old _ c.flush.new.self c.in_ok-flush.ensures refl refl refl refl refl)
    c.in_ok-head.ensures.scope (c.in_ok-flush.ensures.same_scope ∙ c.leave.ensures) (search rules) refl (search rules) refl refl (search rules) refl refl grows c.in_ok-flush.ensures.same_notes
