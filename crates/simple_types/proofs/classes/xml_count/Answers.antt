use Rattle.std.proofs.Common.{refl, subst}
use Rattle.std.specs.List.{All}
use Rattle.simple_types.proofs.PlainTexts.{IsPlain, plain_counted}
use Rattle.simple_types.proofs.classes.xml_count.Goals as goal

pub returns-then-are_plain : goal.returns-then-are_plain
returns-then-are_plain c =
    plain_counted c.args.text.now _ (subst (All IsPlain) c.as_bytes.ensures.value (c.are_plain.ensures.0 c.if-are_plain.true)) refl
