use Rattle.std.proofs.Common.{◌≡◌, ◌+◌, ◌<◌, ℕ, List, [], false, length, take, None, subst, sym, ap, ◌∙◌, rules, refl}
use Rattle.std.specs.Prelude.{reverse, not, nat_eq, slice_get, Some}
use Rattle.std.proofs.lemmas.List.{append-nil}
use Rattle.std.proofs.lemmas.Option.{slice_get_within}
use Rattle.std.proofs.lemmas.Result.{err_from_is_err_and}
use Rattle.base_texts.specs.Entries.{first_true}
use Rattle.base_texts.specs.Limits.{is_empty}
use Rattle.base_trees.specs.Rose.{node, none}
use Rattle.base_flat_trees.specs.Zips as zips
use Rattle.xml_pieces.specs.Pieces.{Start}
use Rattle.xml_pieces.specs.Found.{tag_seen}
use Rattle.xml_items.specs.declared.label.ItemLabel.TheVariants.{Element, Text}
use Rattle.xml_items.specs.Building.{name_at}
use Rattle.xml_items.specs.Growing.{Grows}
use Rattle.xml_read.specs.declared.builder.Opening.{Opening}
use Rattle.xml_read.specs.declared.notes.Notes.{Notes}
use Rattle.xml_read.specs.Contexts.{reason}
use Rattle.xml_read.specs.Private.Entering.{place_tests}
use Rattle.xml_read.specs.Private.Noting.{AllKnown, bare}
use Rattle.xml_read.specs.Private.States.{context}
use Rattle.xml_read.specs.Private.Building.{state, CanOpen}
use Rattle.xml_read.proofs.Noted.{known_as, entered_same, none_bound, noted-grown, noted_reason, noted_stops, noted_enters, noted_same}
use Rattle.xml_read.proofs.KnownTags.{some_front}
use Rattle.xml_read.proofs.Built.{start_stops, stops_here, none_here, enters_here, mid_of, start_takes, leaf_puts, flushed_noted}
use Rattle.xml_read.proofs.builder.Builder.open_by.Goals as goal

-- ---- a tag as it was read

pub returns-in_err-head-in-Read-clause-err : goal.returns-in_err-head-in-Read-clause-err
returns-in_err-head-in-Read-clause-err c =
    let old = c.args.self.now in
    let tag = tag_seen c.in-Read.tag.now in
    let place = c.tag_place-place.result in
    let p = err_from_is_err_and c.from_residual.result c.from_residual.ensures.1 in
    rw (c.in-Read.is, p.1, p.2) (stops_here old tag place.ended place.depth place.at c.args.at _ _ (start_stops old tag place.depth c.requires.scoped c.tag_place-place.ensures.depth) c.tag_place-place.ensures.ended c.tag_place-place.ensures.at c.in_err-head-in-Read.ensures.err)

pub returns-in_ok-note_entered-in-Read-clause-ok : goal.returns-in_ok-note_entered-in-Read-clause-ok
returns-in_ok-note_entered-in-Read-clause-ok c =
    let old = c.args.self.now in
    let mid = c.flush.new.self in
    let tag = tag_seen c.in-Read.tag.now in
    let place = c.tag_place-place.result in
    let head = c.in_ok-head-in-Read.head in
    let enters = c.in_ok-head-in-Read.ensures.ok.opens in
    let scope_is = c.in_ok-head-in-Read.ensures.scope in
    let flushed = c.in_ok-flush-in-Read.ensures in
    let names = c.open_element.new.self.names in
    let has : slice_get names c.in_ok-name-in-Read.name ≡ Some head.name = search rules in
    let grows : Grows old.items.names names = subst (λ ns. Grows ns names) flushed.same_names c.in_ok-name-in-Read.ensures.names in
    let bound : c.is_empty-binds.result ≡ nat_eq (length head.declares.items) 0 = search rules in
    let noted = c.in_ok-note_entered-in-Read.ensures (reverse old.scope) (reverse c.enter.new.scope) names
    (λ e. entered_same old.scope c.enter.new.scope _ scope_is (none_bound head.declares.items _ _ (ap not bound) enters.declares_are e))
    (subst (λ (n : Notes). AllKnown (reverse old.scope) names n.written.items n.names.items) (sym flushed.same_notes) (noted-grown (reverse old.scope) old.items.names names old.notes.written.items old.notes.names.items grows c.requires.scoped.noted))
    (known_as tag old.scope c.enter.new.scope place.ended place.depth names c.in_ok-name-in-Read.name head.name enters.none scope_is enters.name_is has) in
    rw c.in-Read.is (start_takes old mid _ c.in-Read.tag.now.name head.name head.attributes.items head.declares.items tag c.args.at c.requires.scoped
    (enters_here old tag place.ended place.depth head.name head.attributes.items head.declares.items c.tag_place-place.ensures.ended c.tag_place-place.ensures.depth enters)
    (mid_of old _ mid flushed refl refl refl refl refl)
    (flushed.same_scope ∙ scope_is) (search rules) refl (search rules) refl refl refl flushed.same_first flushed.same_brackets
    (subst (λ (o : List (List ℕ × List ℕ)). AllKnown (reverse o) names c.note_entered.new.self.written.items c.note_entered.new.self.names.items) (sym flushed.same_scope) noted))

-- ---- a tag whose name is noted

pub returns-in_err-check_place-in-Noted-clause-err : goal.returns-in_err-check_place-in-Noted-clause-err
returns-in_err-check_place-in-Noted-clause-err c =
    let old = c.args.self.now in
    let written = c.in-Noted.note.now.written.now in
    let place = c.tag_place-place.result in
    let known = subst (λ (o : Opening). CanOpen o c.args.at old) c.in-Noted.is c.requires.known in
    let p = err_from_is_err_and c.from_residual-in_err-check_place-in-Noted.result c.from_residual-in_err-check_place-in-Noted.ensures.1 in
    rw (c.in-Noted.is, p.1, p.2) (stops_here old (bare written) place.ended place.depth place.at c.args.at _ _ (start_stops old (bare written) place.depth c.requires.scoped c.tag_place-place.ensures.depth) c.tag_place-place.ensures.ended c.tag_place-place.ensures.at
    (noted_stops written (reverse old.scope) place.ended place.depth place.at _ known.named c.in_err-check_place-in-Noted.ensures.err))

pub open_known-requires : goal.open_known-requires
open_known-requires c =
    let old = c.args.self.now in
    let known = subst (λ (o : Opening). CanOpen o c.args.at old) c.in-Noted.is c.requires.known in
    subst (λ ns. c.in-Noted.note.now.name < length ns) (sym c.in_ok-flush-in-Noted.ensures.same_names) (slice_get_within old.items.names c.in-Noted.note.now.name _ known.name)

pub returns-in_ok-push-in-Noted-clause-ok : goal.returns-in_ok-push-in-Noted-clause-ok
returns-in_ok-push-in-Noted-clause-ok c =
    let old = c.args.self.now in
    let mid = c.flush-in-Noted.new.self in
    let note = c.in-Noted.note.now in
    let written = note.written.now in
    let place = c.tag_place-place.result in
    let depth = length old.open.items in
    let flushed = c.in_ok-flush-in-Noted.ensures in
    let known = subst (λ (o : Opening). CanOpen o c.args.at old) c.in-Noted.is c.requires.known in
    let none : first_true (place_tests old.ended depth) ≡ None = none_here old place.ended place.depth c.tag_place-place.ensures.ended c.tag_place-place.ensures.depth c.in_ok-check_place-in-Noted.ensures.ok in
    let name = name_at old.items.names note.name in
    let names : c.open_known.new.self.names ≡ old.items.names = search rules in
    let items : c.open_known.new.self.zip ≡ zips.opened (Element name [] [] c.args.at) mid.items.zip = search rules in
    let noted = subst (λ ns. AllKnown (reverse mid.scope) ns mid.notes.written.items mid.notes.names.items) (flushed.same_names ∙ sym names) (flushed_noted old _ mid c.requires.scoped flushed refl refl refl) in
    rw c.in-Noted.is (start_takes old mid _ note.written name [] [] (bare written) c.args.at c.requires.scoped (noted_enters (bare written) (reverse old.scope) old.ended depth old.items.names note.name refl known none)
    (mid_of old _ mid flushed refl refl refl refl refl)
    (flushed.same_scope ∙ sym (append-nil old.scope)) (search rules) refl items refl refl refl flushed.same_first flushed.same_brackets
    (noted_same (reverse mid.scope) c.open_known.new.self.names mid.notes.written.items c.came.new.self.written.items mid.notes.names.items c.came.new.self.names.items c.came.ensures.written c.came.ensures.names noted))

-- ---- a complete element

pub returns-in_err-check_place-in-Leaf-clause-err : goal.returns-in_err-check_place-in-Leaf-clause-err
returns-in_err-check_place-in-Leaf-clause-err c =
    let old = c.args.self.now in
    let written = c.in-Leaf.note.now.written.now in
    let place = c.tag_place-place.result in
    let known = subst (λ (o : Opening). CanOpen o c.args.at old) c.in-Leaf.is c.requires.known in
    let p = err_from_is_err_and c.from_residual-in_err-check_place-in-Leaf.result c.from_residual-in_err-check_place-in-Leaf.ensures.1 in
    rw (c.in-Leaf.is, p.1, p.2) (stops_here old (bare written) place.ended place.depth place.at c.args.at _ _ (start_stops old (bare written) place.depth c.requires.scoped c.tag_place-place.ensures.depth) c.tag_place-place.ensures.ended c.tag_place-place.ensures.at
    (noted_stops written (reverse old.scope) place.ended place.depth place.at _ known.0.named c.in_err-check_place-in-Leaf.ensures.err))

pub open_known-requires-in-Leaf : goal.open_known-requires-in-Leaf
open_known-requires-in-Leaf c =
    let old = c.args.self.now in
    let known = subst (λ (o : Opening). CanOpen o c.args.at old) c.in-Leaf.is c.requires.known in
    subst (λ ns. c.in-Leaf.note.now.name < length ns) (sym c.in_ok-flush-in-Leaf.ensures.same_names) (slice_get_within old.items.names c.in-Leaf.note.now.name _ known.0.name)

pub returns-in_ok-front-in-Leaf-clause-ok : goal.returns-in_ok-front-in-Leaf-clause-ok
returns-in_ok-front-in-Leaf-clause-ok c =
    let old = c.args.self.now in
    let mid = c.flush-in-Leaf.new.self in
    let note = c.in-Leaf.note.now in
    let written = note.written.now in
    let text = take c.in-Leaf.len c.in-Leaf.inner.now in
    let place = c.tag_place-place.result in
    let depth = length old.open.items in
    let flushed = c.in_ok-flush-in-Leaf.ensures in
    let known = subst (λ (o : Opening). CanOpen o c.args.at old) c.in-Leaf.is c.requires.known in
    let none_is : first_true (place_tests old.ended depth) ≡ None = none_here old place.ended place.depth c.tag_place-place.ensures.ended c.tag_place-place.ensures.depth c.in_ok-check_place-in-Leaf.ensures.ok in
    let against : reason (Start (bare written)) (context (state old)) ≡ None = sym (start_stops old (bare written) depth c.requires.scoped refl) ∙ noted_reason (bare written) (reverse old.scope) old.ended depth refl known.0.named ∙ none_is in
    let name = name_at old.items.names note.name in
    let some : is_empty text ≡ false = some_front c.in-Leaf.len c.in-Leaf.inner.now known.1.some known.1.within in
    let names : c.close.new.self.names ≡ old.items.names = search rules in
    let place_is = c.args.at + length written + 2 in
    let items : c.close.new.self.zip ≡ zips.closed (zips.added (node (Text text place_is) none) (zips.opened (Element name [] [] c.args.at) mid.items.zip)) = search rules in
    let noted = subst (λ ns. AllKnown (reverse mid.scope) ns mid.notes.written.items mid.notes.names.items) (flushed.same_names ∙ sym names) (flushed_noted old _ mid c.requires.scoped flushed refl refl refl) in
    rw c.in-Leaf.is (
      against,
      leaf_puts old mid _ name (bare written) c.args.at text _ c.requires.scoped (noted_enters (bare written) (reverse old.scope) old.ended depth old.items.names note.name refl known.0 none_is)
          (mid_of old _ mid flushed refl refl refl refl refl)
          some flushed.same_scope refl items refl refl (search rules) flushed.same_first flushed.same_brackets
          (noted_same (reverse mid.scope) c.close.new.self.names mid.notes.written.items c.came-in-Leaf.new.self.written.items mid.notes.names.items c.came-in-Leaf.new.self.names.items c.came-in-Leaf.ensures.written c.came-in-Leaf.ensures.names noted),
    )
