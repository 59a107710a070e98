-- The names that the tables contain.
use Rattle.std.specs.Prelude.{◌≡◌}
use Rattle.base_texts.specs.declared.texts.Name.{Name}
use Rattle.link_names.specs.declared.name_tables.NameTable.{NameTable}
use Rattle.link_names.specs.Private.Tables.{holds}
use Rattle.link_names.specs.Resolution.{Names}

abbrev pub told_by : NameTable → Names
told_by t = record { elements = holds t.elements; attributes = holds t.attributes; types = holds t.types.all; complexes = holds t.types.complexes }

-- Both contain the same names of each kind.
abbrev pub Agree : Names → Names → Type 0
Agree n m = (a : Name) → (n.elements a ≡ m.elements a) × (n.attributes a ≡ m.attributes a) × (n.types a ≡ m.types a) × (n.complexes a ≡ m.complexes a)
