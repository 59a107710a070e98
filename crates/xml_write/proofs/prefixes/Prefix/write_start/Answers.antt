use Rattle.std.proofs.Common.{◌≡◌, ◌∷◌, [], ◌++◌, refl, ap, ◌∙◌}
use Rattle.std.specs.Prelude.{codes, decimal}
use Rattle.xml_write.specs.Private.Binding.{prefix_text}
use Rattle.xml_write.proofs.Qualified.{one-digit, extended}
use Rattle.xml_write.proofs.prefixes.Prefix.write_start.Goals as goal

pub returns-in-Numbered : goal.returns-in-Numbered
returns-in-Numbered c =
    let number = c.in-Numbered.number in
    let text : 60 ∷ ((codes "n" ++ decimal number) ++ 58 ∷ []) ≡ 60 ∷ (prefix_text c.args.self ++ 58 ∷ []) = rw c.in-Numbered.is refl in
    extended c.extend_from_slice.result _ _ _ _ c.extend_from_slice.ensures.items (ap (λ s. 60 ∷ s) (one-digit number c.if-number-lt10.true) ∙ text)
