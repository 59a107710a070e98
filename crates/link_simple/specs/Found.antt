-- The global attributes that the names of the code lead to.
use Rattle.std.specs.Prelude.{ℕ, List, Option, Some, None, slice_get}
use Rattle.base_texts.specs.declared.texts.Name.{Name}
use Rattle.link_names.specs.Tables.{named_in}
use Rattle.link_simple.specs.StandardsSeen.{declared_of}
use Rattle.link_simple.specs.Standards as rule
use Rattle.link_simple.specs.declared.tables.Declared.{Declared}
use Rattle.link_simple.specs.declared.tables.DeclaredNames.{DeclaredNames}

abbrev pub one_at : List Declared → Option ℕ → Option rule.Declared
one_at ds None = None
one_at ds (Some n) = slice_get (declared_of ds) n

-- The attribute that the names have for a name.
abbrev pub found_in : DeclaredNames → Name → Option rule.Declared
found_in names a = one_at names.declared.items (named_in names.named a)
