-- Texts that a simple type refuses.
use Rattle.std.proofs.Common.{◌≡◌, ℕ, inr, List, Some, refl, sym, subst}
use Rattle.std.specs.Prelude.{Err}
use Rattle.base_trees.specs.Rose.{Roses}
use Rattle.simple_types.specs.Space.{Space}
use Rattle.simple_types.specs.Reading.{Wide, Bad, reads}
use Rattle.xml_items.specs.declared.label.ItemLabel.{ItemLabel}
use Rattle.validity_rules.specs.Valid.{only_text}
use Rattle.validity_rules.specs.Attributes.{Refuses}
use Rattle.validity_rules.specs.declared.why.InvalidWhy.TheVariants.{BadText, TooWide}
use Rattle.validity_check.specs.Answers.{TextFault}

pub bad-text : (space : Space) (ts : Roses ItemLabel) (words : List ℕ) (place : ℕ) → only_text ts ≡ Some words → reads space words ≡ Err Bad → TextFault space ts place place BadText
bad-text space ts words place e h = inr (words, e, refl, subst (λ r. Refuses r BadText BadText) (sym h) refl)

pub wide-text : (space : Space) (ts : Roses ItemLabel) (words : List ℕ) (place : ℕ) → only_text ts ≡ Some words → reads space words ≡ Err Wide → TextFault space ts place place TooWide
wide-text space ts words place e h = inr (words, e, refl, subst (λ r. Refuses r BadText TooWide) (sym h) refl)
