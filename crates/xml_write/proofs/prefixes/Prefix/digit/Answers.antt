use Rattle.std.proofs.Common.{◌≡◌, ◌∷◌, [], ◌++◌, refl, sym, ◌∙◌}
use Rattle.std.specs.Prelude.{codes, decimal}
use Rattle.xml_write.specs.Private.Binding.{prefix_text}
use Rattle.xml_write.proofs.Qualified.{one-digit}
use Rattle.xml_write.proofs.prefixes.Prefix.digit.Goals as goal

pub returns-in-Numbered : goal.returns-in-Numbered
returns-in-Numbered c =
    let number = c.in-Numbered.number in
    let text : (codes "n" ++ decimal number) ++ 58 ∷ [] ≡ prefix_text c.args.self ++ 58 ∷ [] = rw c.in-Numbered.is refl in
    sym (one-digit number c.if-number-lt10.true ∙ text)
