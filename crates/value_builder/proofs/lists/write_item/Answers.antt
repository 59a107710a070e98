use Rattle.std.proofs.Common.{◌++◌, ap, ◌∙◌}
use Rattle.std.specs.Prelude.{string_bytes}
use Rattle.simple_types.specs.Seen.{space_of}
use Rattle.simple_types.specs.Reading.{spelled}
use Rattle.value_builder.proofs.Summing.{next_spelled}
use Rattle.value_builder.proofs.lists.write_item.Goals as goal

pub returns : goal.returns
returns c values counted before =
    let spell = spelled (space_of c.args.item.now) in
    c.in_ok-push_str.ensures.bytes
    ∙ ap (λ l. string_bytes c.write_space.new.spelling ++ l) (c.as_str.ensures ∙ c.in_ok-spelled.ensures)
    ∙ ap (λ l. l ++ spell c.args.value.now) (c.in_ok-write_space.ensures values counted)
    ∙ next_spelled spell values c.args.value.now (string_bytes c.args.spelling.now) before
