-- Items that are valid, wherever they are placed, with themselves as their treated form.
use Rattle.std.specs.Prelude.{◌≡◌, ℕ, List, [], ◌∷◌}
use Rattle.base_texts.specs.declared.texts.Name.{Name}
use Rattle.base_trees.specs.Rose.{Rose, Roses, none, more, label_of}
use Rattle.content_models.specs.Language.{Leaf}
use Rattle.xml_items.specs.declared.label.ItemLabel.{ItemLabel}
use Rattle.xml_items.specs.Plain.{Plain, element, text, plain_of}
use Rattle.validity_rules.specs.Asked.{Asked}
use Rattle.validity_rules.specs.Valid.{ValidBy}

abbrev pub IsNamed : Name → Plain → Type 0
IsNamed name (element other attributes) = other ≡ name
IsNamed name (text words) = ⊥

module _ (asks : ℕ → Asked) where
  abbrev pub IsOwnForm : ℕ → Rose Plain → Type 0
  IsOwnForm d b = (u : Rose ItemLabel) → plain_of u ≡ b → ValidBy asks d u b

  -- Elements with the names of these leaves, each valid for the declaration of its leaf, with itself as treated form.
  abbrev pub AreOwnForms : List Leaf → Roses Plain → Type 0
  AreOwnForms [] none = Unit {0}
  AreOwnForms (l ∷ ls) (more b bs) = IsNamed l.name (label_of b) × IsOwnForm l.decl b × AreOwnForms ls bs
  AreOwnForms _ _ = ⊥
