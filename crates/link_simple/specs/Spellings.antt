-- The value constraint of an attribute with its type (XML Schema Part 1, sections 3.2.1 and 3.2.6): the text as written, and the
-- canonical spelling of the value that it gives.
use Rattle.std.specs.Prelude.{ℕ, List, Option, Some, None, Ok, Err}
use Rattle.simple_types.specs.Space.{Space}
use Rattle.simple_types.specs.declared.standards.Standard.{Standard}
use Rattle.simple_types.specs.declared.standards.Standard.TheVariants.{Free, Default, Fixed}
use Rattle.simple_types.specs.Reading.{Reading, reads, spelled}

abbrev pub spelled_as : Space → Reading → Option (List ℕ)
spelled_as s (Ok value) = Some (spelled s value)
spelled_as s (Err why) = None

-- The canonical spelling of the value that the type reads; none if it doesn't accept the text, or if there is no type.
abbrev pub spelling : Option Space → List ℕ → Option (List ℕ)
spelling None text = None
spelling (Some s) text = spelled_as s (reads s text)

abbrev pub as_default : Option (List ℕ) → Option Standard
as_default None = None
as_default (Some text) = Some (Default text)

abbrev pub as_fixed : Option (List ℕ) → Option Standard
as_fixed None = None
as_fixed (Some text) = Some (Fixed text)

-- The value constraint in canonical spelling, if the type accepts its text.
abbrev pub in_spelling : Option Space → Standard → Option Standard
in_spelling o Free = Some Free
in_spelling o (Default text) = as_default (spelling o text)
in_spelling o (Fixed text) = as_fixed (spelling o text)
