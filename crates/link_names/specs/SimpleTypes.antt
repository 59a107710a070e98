-- The simple type definitions of several documents (XML Schema Part 1, section 3.14), each with its place and that of
-- its `restriction`, `list` or `union`, in the order of the parts of the documents.
use Rattle.std.specs.Prelude.{ℕ, List, [], ◌∷◌, Option}
use Rattle.std.specs.List.{flat_map}
use Rattle.base_texts.specs.declared.texts.Name.{Name}
use Rattle.schema_components.specs.Raw.{How, Document}
use Rattle.link_names.specs.Parts as part
use Rattle.link_names.specs.Parts.{What, Part, parts}
use Rattle.link_names.specs.declared.places.Place.{Place}
use Rattle.link_names.specs.Order.{place}

-- A definition, without a name if it is in place.
pub record SimpleDefinition : Type 0 where
  pub name : Option Name
  pub place : Place
  pub body : Place
  pub how : How

abbrev pub defined : Option Name → Place → Place → How → SimpleDefinition
defined name p b how = record { name = name; place = p; body = b; how = how }

abbrev pub of_what : ℕ → ℕ → What → List SimpleDefinition
of_what file at (part.SimpleDefinition name s) = defined name (place file at) (place file s.body_at) s.how ∷ []
of_what file at other = []

abbrev pub of_part : Part → List SimpleDefinition
of_part p = of_what p.file p.at p.what

abbrev pub simple_types : List Document → List SimpleDefinition
simple_types docs = flat_map of_part (parts docs)
