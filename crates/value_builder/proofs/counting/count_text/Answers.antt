use Rattle.std.proofs.Common.{◌≡◌, true, refl, sym, ap, ◌∙◌}
use Rattle.simple_types.specs.declared.labels.ValueLabel.TheVariants as label
use Rattle.simple_types.specs.Reading.{has_characters, leaf}
use Rattle.value_builder.proofs.counting.count_text.Goals as goal

pub returns-then-has_characters : goal.returns-then-has_characters
returns-then-has_characters c =
    let text = c.args.text.now in
    let has : has_characters c.args.min c.args.max c.args.class text ≡ true =
    sym (c.has_characters.ensures ∙ ap (has_characters c.args.min c.args.max c.args.class) c.as_str.ensures) ∙ c.if-has_characters.true in
    (leaf (label.Utf8 text), rw has refl, refl)
