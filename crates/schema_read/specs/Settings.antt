-- The settings that a schema document makes for all its declarations (XML Schema Part 1, section 3.15.2).
use Rattle.std.specs.Prelude.{ℕ, Bool, false, List, codes}
use Rattle.schema_read.specs.declared.declarations.Setting.{Setting}
use Rattle.schema_read.specs.Names.{value_or_empty}
use Rattle.schema_read.specs.Attributes.{is_qualified}

pub record Settings : Type 0 where
  pub file : ℕ
  pub target : List ℕ
  pub elements_qualified : Bool
  pub attributes_qualified : Bool

-- The settings by the attributes of `schema`.
abbrev pub settings_of : ℕ → List (List ℕ × List ℕ) → Settings
settings_of file own =
    record {
      file = file;
      target = value_or_empty (codes "targetNamespace") own;
      elements_qualified = is_qualified (codes "elementFormDefault") own false;
      attributes_qualified = is_qualified (codes "attributeFormDefault") own false;
    }

-- The settings that a value of the code represents.
abbrev pub said : Setting → Settings
said s = record { file = s.file; target = s.target.now; elements_qualified = s.elements_qualified; attributes_qualified = s.attributes_qualified }
