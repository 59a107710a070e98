-- The complex type definitions of several documents (XML Schema Part 1, section 3.4), each with its place, in
-- the order of the parts of the documents.
use Rattle.std.specs.Prelude.{ℕ, List, [], ◌∷◌, Option, Some, None}
use Rattle.std.specs.List.{flat_map}
use Rattle.base_texts.specs.declared.texts.Name.{Name}
use Rattle.base_trees.specs.Rose.{Rose}
use Rattle.content_models.specs.declared.particles.ParticleLabel.{ParticleLabel}
use Rattle.schema_components.specs.declared.declarations.RawContent.{RawContent}
use Rattle.schema_components.specs.declared.declarations.RawContent.TheVariants as content
use Rattle.schema_components.specs.Raw.{Complex, Document}
use Rattle.link_names.specs.Parts as part
use Rattle.link_names.specs.Parts.{What, Part, in_document}
use Rattle.link_names.specs.declared.places.Place.{Place}
use Rattle.link_names.specs.Order.{place}

-- A definition, without a name if it is in place.
pub record ComplexDefinition : Type 0 where
  pub name : Option Name
  pub place : Place
  pub body : Complex

abbrev pub defined : ℕ → Option Name → Complex → ComplexDefinition
defined file name c = record { name = name; place = place file c.at; body = c }

abbrev pub of_what : ℕ → What → List ComplexDefinition
of_what file (part.ComplexDefinition name c) = defined file name c ∷ []
of_what file other = []

abbrev pub of_part : Part → List ComplexDefinition
of_part p = of_what p.file p.what

abbrev pub of_document : Document → List ComplexDefinition
of_document d = flat_map of_part (in_document d)

abbrev pub complex_types : List Document → List ComplexDefinition
complex_types docs = flat_map of_document docs

-- The content model, if there is one.
abbrev pub model_of : RawContent → Option (Rose ParticleLabel)
model_of content.Empty = None
model_of (content.Simple base at) = None
model_of (content.ElementOnly particle) = Some particle
model_of (content.Mixed particle) = Some particle
