use Rattle.std.proofs.Common.{◌≡◌, sym, ap, ◌∙◌}
use Rattle.base_trees.specs.Rose.{label_of}
use Rattle.simple_types.specs.declared.labels.ValueLabel.TheVariants as label
use Rattle.simple_types.specs.Reading.{spelled, spelled_whole, spelled_text}
use Rattle.asn_types.specs.Spaces.{space_at}
use Rattle.xer_write.specs.Private.Receiving.{name_seen}
use Rattle.xer_write.proofs.Spelled.{spelled-Int, spelled-Utf8, gains-text-as}
use Rattle.xer_write.proofs.gathering.add_leaf_element.Goals as goal

pub returns-in-Utf8-label : goal.returns-in-Utf8-label
returns-in-Utf8-label c =
    let t = c.args.found.now in
    let v = c.args.value.now in
    let text = c.in-Utf8-label.text in
    let is : spelled (space_at t) v ≡ spelled_text (label_of v) = spelled-Utf8 t v c.in-Utf8.min c.in-Utf8.max c.in-Utf8.class (ap (λ l. l.form) (sym c.label.ensures) ∙ c.in-Utf8.is) in
    let same : text ≡ spelled (space_at t) v = ap spelled_text (sym c.in-Utf8-label.is ∙ c.label-in-Utf8.ensures) ∙ sym is in
    gains-text-as c.add_text_element.result c.args.out.now c.add_text_element.new.self (name_seen c.args.name.now) text (spelled (space_at t) v) same c.add_text_element.ensures

pub returns-in-Int-label : goal.returns-in-Int-label
returns-in-Int-label c =
    let t = c.args.found.now in
    let v = c.args.value.now in
    let text = spelled_whole (label.Int c.in-Int-label.number) in
    let is : spelled (space_at t) v ≡ spelled_whole (label_of v) = spelled-Int t v c.in-Int.lo c.in-Int.hi (ap (λ l. l.form) (sym c.label.ensures) ∙ c.in-Int.is) in
    let same : text ≡ spelled (space_at t) v = ap spelled_whole (sym c.in-Int-label.is ∙ c.label-in-Int.ensures) ∙ sym is in
    gains-text-as c.add_number_element.result c.args.out.now c.add_number_element.new.out (name_seen c.args.name.now) text (spelled (space_at t) v) same c.add_number_element.ensures
