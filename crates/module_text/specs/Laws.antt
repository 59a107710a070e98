-- What holds of all trees.
use Rattle.std.specs.Prelude.{◌≡◌, List}
use Rattle.module_text.specs.declared.modules.PlainAssignment.{PlainAssignment}
use Rattle.module_text.specs.Texts.{text_of}
use Rattle.module_text.specs.Places.{placed}

-- Places make no difference to a text.
abbrev pub PlacesAreNoText : Type 0
PlacesAreNoText = (assignments : List PlainAssignment) → text_of (placed assignments) ≡ text_of assignments
