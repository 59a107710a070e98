use Rattle.std.proofs.Common.{◌≡◌, ℕ, true, drop, sym, ap, ◌∙◌}
use Rattle.std.specs.List.{prefix_len}
use Rattle.xml_pieces.specs.Reading.{starts_low, is_ascii_part}
use Rattle.xml_pieces.proofs.AsciiNames.{plain}
use Rattle.xml_pieces.proofs.text.plain_name.Goals as goal

pub returns-then-starts_low : goal.returns-then-starts_low
returns-then-starts_low c =
    let low : starts_low (drop (prefix_len is_ascii_part c.args.bytes.now) c.args.bytes.now) ≡ true =
    ap starts_low (sym (c.split_at.ensures.back ∙ ap (λ (n : ℕ). drop n c.args.bytes.now) c.part_len.ensures.value)) ∙ sym c.starts_low.ensures ∙ c.if-starts_low.true in
    rw (c.split_at.ensures.front, c.split_at.ensures.back, c.part_len.ensures.value) (plain c.args.bytes.now (sym c.starts_ascii.ensures ∙ c.if-starts_ascii.true) low)
