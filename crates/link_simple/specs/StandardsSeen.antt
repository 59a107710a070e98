-- The global attributes that the tables of the code contain.
use Rattle.std.specs.Prelude.{◌≡◌, ℕ, List, map}
use Rattle.std.specs.Borrow.{Bor}
use Rattle.std.specs.BTreeMap.{BTreeMap}
use Rattle.std.specs.List.{position_from}
use Rattle.base_texts.specs.declared.texts.Name.{Name}
use Rattle.schema_components.specs.Seen.{attribute_of}
use Rattle.link_names.specs.Tables.{named_in}
use Rattle.link_simple.specs.Standards as rule
use Rattle.link_simple.specs.declared.tables.Declared.{Declared}

abbrev pub declared_as : Declared → rule.Declared
declared_as d = rule.declared d.file (attribute_of d.attribute.now)

abbrev pub declared_of : List Declared → List rule.Declared
declared_of ds = map declared_as ds

-- The table has for each name the number of the first attribute of that name.
abbrev pub HasNames : BTreeMap (Bor Name) ℕ → List rule.Declared → Type 0
HasNames table ds = (a : Name) → named_in table a ≡ position_from (rule.has_name a) 0 ds
