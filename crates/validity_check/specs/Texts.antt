-- The texts of the attributes of an element, in the order of the uses of its type.
use Rattle.std.specs.Prelude.{◌≡◌, ℕ, ◌<◌, List, length, Option, Some, None, slice_index_or}
use denote.Ref.{Bor}
use Rattle.base_texts.specs.declared.texts.Name.{Name}
use Rattle.schema_components.specs.declared.components.AttributeUse.{AttributeUse}
use Rattle.validity_rules.specs.Attributes as rule

-- the text, if there is one
abbrev pub told : Option (Bor (List ℕ)) → Option (List ℕ)
told None = None
told (Some text) = Some text.now

-- for each use the text of its attribute, if it stands
pub record AreTexts (xs : List (Name × List ℕ)) (us : List AttributeUse) (texts : List (Option (Bor (List ℕ)))) : Type 0 where
  pub counted : length texts ≡ length us
  pub each : (k : ℕ) (t : Option (Bor (List ℕ))) (u : AttributeUse) → k < length us → told (slice_index_or texts k t) ≡ rule.text_of xs (slice_index_or us k u).name
