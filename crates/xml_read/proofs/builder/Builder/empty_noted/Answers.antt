use Rattle.std.proofs.Common.{◌≡◌, ◌<◌, ◌-◌, [], ◌++◌, take, length, None, subst, sym, ◌∙◌, rules, refl}
use Rattle.std.specs.Prelude.{reverse}
use Rattle.std.proofs.lemmas.List.{append-nil}
use Rattle.std.proofs.lemmas.Option.{slice_get_within}
use Rattle.base_texts.specs.Entries.{first_true}
use Rattle.base_flat_trees.specs.Zips as zips
use Rattle.base_trees.specs.Rose.{node, roses_of}
use Rattle.xml_items.specs.declared.label.ItemLabel.TheVariants.{Element}
use Rattle.xml_items.specs.Building.{name_at}
use Rattle.xml_items.proofs.Growth.{grows-same}
use Rattle.xml_read.specs.Private.Entering.{place_tests}
use Rattle.xml_read.specs.Private.Noting.{bare}
use Rattle.std.proofs.lemmas.Result.{err_from_is_err_and}
use Rattle.xml_read.proofs.Noted.{noted_stops, noted_enters, left_none}
use Rattle.xml_read.proofs.Built.{empty_stops, stops_here, none_here, mid_of, empty_takes}
use Rattle.xml_read.proofs.builder.Builder.empty_noted.Goals as goal

pub returns-in_err-check_place-clause-err : goal.returns-in_err-check_place-clause-err
returns-in_err-check_place-clause-err c =
    let old = c.args.self.now in
    let written = c.args.written.now in
    let place = c.tag_place.result in
    let p = err_from_is_err_and c.from_residual.result c.from_residual.ensures.1 in
    rw (p.1, p.2) (stops_here old (bare written) place.ended place.depth place.at c.args.at _ _ (empty_stops old (bare written) place.depth c.requires.scoped c.tag_place.ensures.depth) c.tag_place.ensures.ended c.tag_place.ensures.at
    (noted_stops written (reverse old.scope) place.ended place.depth place.at _ c.requires.known.named c.in_err-check_place.ensures.err))

pub known_element-requires : goal.known_element-requires
known_element-requires c = subst (λ ns. c.args.name < length ns) (sym c.in_ok-flush.ensures.same_names) (slice_get_within c.args.self.now.items.names c.args.name _ c.requires.known.name)

pub returns-clause-ok : goal.returns-clause-ok
returns-clause-ok c =
    let old = c.args.self.now in
    let depth = length old.open.items in
    let place : first_true (place_tests old.ended depth) ≡ None = none_here old c.tag_place.result.ended c.tag_place.result.depth c.tag_place.ensures.ended c.tag_place.ensures.depth c.in_ok-check_place.ensures.ok in
    let name = name_at old.items.names c.args.name in
    let names : c.known_element.new.self.names ≡ old.items.names = search rules in
    let enters = noted_enters (bare c.args.written.now) (reverse old.scope) old.ended depth old.items.names c.args.name refl c.requires.known place in
    let items : c.known_element.new.self.zip ≡ zips.added (node (Element name [] [] c.args.at) (roses_of [])) c.flush.new.self.items.zip = search rules in
    let kept : take (length old.scope - 0) old.scope ≡ old.scope = left_none old.scope in
    let scope_is : old.scope ≡ old.scope ++ reverse [] = sym (append-nil old.scope) in
    empty_takes old c.flush.new.self _ name [] [] (bare c.args.written.now) c.args.at old.scope 0 c.requires.scoped enters
    (mid_of old old c.flush.new.self c.in_ok-flush.ensures refl refl refl refl refl)
    scope_is (c.in_ok-flush.ensures.same_scope ∙ sym kept) refl refl items refl refl (search rules) refl refl (grows-same old.items.names _ names) c.in_ok-flush.ensures.same_notes
