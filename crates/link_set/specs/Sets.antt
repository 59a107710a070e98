-- The linked set of several documents in which no fault was found (XML Schema Part 1, sections 2.2 and 3.15.3): each component
-- once, with a number instead of each name and of each type in place. If a name names nothing, which is a fault, its number is 0.
use Rattle.std.specs.Prelude.{ℕ, Bool, ◌-◌, List, [], ◌∷◌, ◌++◌, length, map, Option, Some, None, if◌then◌else◌, slice_get}
use Rattle.base_texts.specs.declared.texts.Name.{Name}
use Rattle.base_texts.specs.Names.{name_eq, name_cmp}
use Rattle.std.specs.Option.{option_map}
use Rattle.std.specs.Ordering.{is_lt}
use Rattle.base_trees.specs.Rose.{Rose, node, Roses}
use Rattle.base_trees.specs.Rose as rose
use Rattle.simple_types.specs.declared.simples.Builtin.{Builtin}
use Rattle.simple_types.specs.Builtins.{builtin_space}
use Rattle.simple_types.specs.Space.{Space}
use Rattle.simple_types.specs.declared.standards.Standard.{Standard}
use Rattle.simple_types.specs.declared.standards.Standard.TheVariants.{Free, Default, Fixed}
use Rattle.content_models.specs.declared.particles.ParticleLabel.{ParticleLabel}
use Rattle.content_models.specs.declared.particles.ParticleKind.{ParticleKind}
use Rattle.content_models.specs.declared.particles.ParticleKind.TheVariants as particle
use Rattle.schema_components.specs.declared.simple_definitions.RawRef.{RawRef}
use Rattle.schema_components.specs.declared.simple_definitions.RawRef.TheVariants as reference
use Rattle.schema_components.specs.declared.declarations.RawContent.{RawContent}
use Rattle.schema_components.specs.declared.declarations.RawContent.TheVariants as raw
use Rattle.schema_components.specs.Raw.{Base, Named, Inner, Use, Kind, NamedKind, SimpleKind, ComplexKind, Local, Reference, Own, Document}
use Rattle.schema_components.specs.declared.components.ElementDecl.{ElementDecl}
use Rattle.schema_components.specs.declared.components.TypeOf.{TypeOf}
use Rattle.schema_components.specs.declared.components.TypeOf.TheVariants as kind
use Rattle.schema_components.specs.declared.components.AttributeUse.{AttributeUse}
use Rattle.schema_components.specs.declared.components.ComplexDef.{ComplexDef}
use Rattle.schema_components.specs.declared.components.Content.{Content}
use Rattle.schema_components.specs.declared.components.Content.TheVariants as content
use Rattle.schema_components.specs.declared.components.GlobalAttribute.{GlobalAttribute}
pub use Rattle.schema_components.specs.SetParts.{NamedSpace, SetParts, named_space, named_spaces, parts_of}
use Rattle.link_names.specs.Order.{place, is_before}
use Rattle.link_names.specs.SimpleTypes.{SimpleDefinition, simple_types}
use Rattle.link_simple.specs.Spellings.{in_spelling}
use Rattle.link_complex.specs.ComplexTypes.{ComplexDefinition}
use Rattle.link_set.specs.Builtins.{used_builtins}
use Rattle.link_set.specs.Numbering.{ComponentNumbers, numbers_in}
use Rattle.link_set.specs.Ordered.{in_order}
use Rattle.link_set.specs.Written.{WrittenElement, WrittenAttribute, Lists, lists_of}

abbrev pub or_zero : Option ℕ → ℕ
or_zero None = 0
or_zero (Some n) = n

-- ---- types by their numbers

abbrev pub simple_or_complex : Option ℕ → ℕ → TypeOf
simple_or_complex (Some n) m = kind.Simple n
simple_or_complex None m = kind.Complex m

abbrev pub type_of_reference : ComponentNumbers → RawRef → TypeOf
type_of_reference ns (reference.Builtin which) = kind.Simple (or_zero (ns.builtins which))
type_of_reference ns (reference.Other name) = simple_or_complex (ns.simples.named name) (or_zero (ns.complexes.named name))

abbrev pub type_of_kind : ComponentNumbers → ℕ → Kind → TypeOf
type_of_kind ns file (NamedKind r) = type_of_reference ns r
type_of_kind ns file (SimpleKind s) = kind.Simple (or_zero (ns.simples.placed (place file s.at)))
type_of_kind ns file (ComplexKind c) = kind.Complex (or_zero (ns.complexes.placed (place file c.at)))

abbrev pub simple_of_reference : ComponentNumbers → RawRef → ℕ
simple_of_reference ns (reference.Builtin which) = or_zero (ns.builtins which)
simple_of_reference ns (reference.Other name) = or_zero (ns.simples.named name)

abbrev pub simple_of_base : ComponentNumbers → ℕ → Base → ℕ
simple_of_base ns file (Named r) = simple_of_reference ns r
simple_of_base ns file (Inner at body_at how) = or_zero (ns.simples.placed (place file at))

-- ---- elements and attributes

abbrev pub element : ComponentNumbers → WrittenElement → ElementDecl
element ns e = record { name = e.element.name; nillable = e.element.nillable; kind = type_of_kind ns e.file e.element.kind }

abbrev pub elements : ComponentNumbers → Lists → List ElementDecl
elements ns ls = map (element ns) ls.globals ++ map (element ns) ls.locals

-- The attribute, with the text of its value constraint as written.
abbrev pub attribute : ComponentNumbers → WrittenAttribute → GlobalAttribute
attribute ns a = record { name = a.attribute.name; simple = simple_of_base ns a.file a.attribute.kind; standard = a.attribute.standard }

abbrev pub written_name : WrittenAttribute → Name
written_name a = a.attribute.name

abbrev pub attributes : ComponentNumbers → List WrittenAttribute → List GlobalAttribute
attributes ns as_ = map (attribute ns) as_

-- The first global attribute of this name.
abbrev pub named_attribute : List GlobalAttribute → Name → Option GlobalAttribute
named_attribute [] a = None
named_attribute (g ∷ gs) a = if name_eq g.name a then Some g else named_attribute gs a

-- ---- complex types

abbrev pub type_of_use : ComponentNumbers → ℕ → Option Base → ℕ
type_of_use ns file None = 0
type_of_use ns file (Some base) = simple_of_base ns file base

abbrev pub simple_of_found : Option GlobalAttribute → ℕ
simple_of_found None = 0
simple_of_found (Some g) = g.simple

-- The type of an attribute use. A reference has the type of the global attribute.
abbrev pub simple_of_use : ComponentNumbers → (Name → Option GlobalAttribute) → ℕ → Use → ℕ
simple_of_use ns globals file u = if u.reference then simple_of_found (globals u.name) else type_of_use ns file u.kind

abbrev pub standard_of_found : Option GlobalAttribute → Standard
standard_of_found None = Free
standard_of_found (Some g) = g.standard

-- The value constraint of its own, or else the other one.
abbrev pub own_or : Standard → Standard → Standard
own_or Free other = other
own_or (Default text) other = Default text
own_or (Fixed text) other = Fixed text

-- A required use is never absent, so its default value is dropped.
abbrev pub unless_required : Bool → Standard → Standard
unless_required required Free = Free
unless_required required (Default text) = if required then Free else Default text
unless_required required (Fixed text) = Fixed text

-- The value constraint of a use. A reference without one has that of the global attribute (sections 3.2.2 and 3.5.1).
abbrev pub standard_of_use : (Name → Option GlobalAttribute) → Use → Standard
standard_of_use globals u =
    unless_required u.required (own_or u.standard (if u.reference then standard_of_found (globals u.name) else Free))

-- The attribute use, with the text of its value constraint as written.
abbrev pub attribute_use : ComponentNumbers → (Name → Option GlobalAttribute) → ℕ → Use → AttributeUse
attribute_use ns globals file u =
    record { name = u.name; simple = simple_of_use ns globals file u; required = u.required; standard = standard_of_use globals u }

abbrev pub use_before : AttributeUse → AttributeUse → Bool
use_before a b = is_lt (name_cmp a.name b.name)

-- The uses of a complex type, in the order of their names.
abbrev pub uses : ComponentNumbers → (Name → Option GlobalAttribute) → ComplexDefinition → List AttributeUse
uses ns globals c = in_order use_before (map (attribute_use ns globals c.place.file) c.body.uses)

-- The element that a local declaration is: a global one by its name, or this one by its place.
abbrev pub number_of_local : ComponentNumbers → ℕ → Local → ℕ
number_of_local ns file (Reference name at) = or_zero (ns.elements name)
number_of_local ns file (Own e) = or_zero (ns.locals (place file e.at))

abbrev pub number_of_found : ComponentNumbers → ℕ → Option Local → ℕ
number_of_found ns file None = 0
number_of_found ns file (Some l) = number_of_local ns file l

abbrev pub number_in : ComponentNumbers → ℕ → Document → ℕ → ℕ
number_in ns file d n = number_of_found ns file (slice_get d.locals n)

abbrev pub number_in_found : ComponentNumbers → ℕ → Option Document → ℕ → ℕ
number_in_found ns file None n = 0
number_in_found ns file (Some d) n = number_in ns file d n

-- The number in the set of the local declaration with a number in its file. The number of the first file is 1.
abbrev pub number_of_declaration : ComponentNumbers → List Document → ℕ → ℕ → ℕ
number_of_declaration ns docs file n = number_in_found ns file (slice_get docs (file - 1)) n

abbrev pub numbered_kind : (ℕ → ℕ) → ParticleKind → ParticleKind
numbered_kind number (particle.Element decl name) = particle.Element (number decl) name
numbered_kind number particle.Sequence = particle.Sequence
numbered_kind number particle.Choice = particle.Choice
numbered_kind number particle.All = particle.All

abbrev pub numbered_label : (ℕ → ℕ) → ParticleLabel → ParticleLabel
numbered_label number l = record { kind = numbered_kind number l.kind; min = l.min; max = l.max; file = l.file; at = l.at }

abbrev mutual
  pub numbered : (ℕ → ℕ) → Rose ParticleLabel → Rose ParticleLabel
  numbered number (node label kids) = node (numbered_label number label) (all_numbered number kids)

  pub all_numbered : (ℕ → ℕ) → Roses ParticleLabel → Roses ParticleLabel
  all_numbered number rose.none = rose.none
  all_numbered number (rose.more t ts) = rose.more (numbered number t) (all_numbered number ts)

abbrev pub content_of : ComponentNumbers → (ℕ → ℕ) → RawContent → Content
content_of ns number raw.Empty = content.Empty
content_of ns number (raw.Simple base at) = content.Simple (simple_of_reference ns base)
content_of ns number (raw.ElementOnly model) = content.ElementOnly (numbered number model)
content_of ns number (raw.Mixed model) = content.Mixed (numbered number model)

abbrev pub complex : ComponentNumbers → (Name → Option GlobalAttribute) → List Document → ComplexDefinition → ComplexDef
complex ns globals docs c =
    record {
      name = c.name;
      uses = uses ns globals c;
      content = content_of ns (number_of_declaration ns docs c.place.file) c.body.content;
    }

abbrev pub complexes : ComponentNumbers → List Document → Lists → List ComplexDef
complexes ns docs ls = map (complex ns (named_attribute (attributes ns ls.attributes)) docs) ls.complexes

-- ---- simple types

-- A definition with its space.
pub record MadeType : Type 0 where
  pub definition : SimpleDefinition
  pub space : Space

abbrev pub made_type : SimpleDefinition → Space → MadeType
made_type d s = record { definition = d; space = s }

abbrev pub made_types : List SimpleDefinition → List Space → List MadeType
made_types [] ss = []
made_types (d ∷ ds) [] = []
made_types (d ∷ ds) (s ∷ ss) = made_type d s ∷ made_types ds ss

abbrev pub made_before : MadeType → MadeType → Bool
made_before a b = is_before a.definition.place b.definition.place

abbrev pub space_of_made : MadeType → NamedSpace
space_of_made t = record { name = t.definition.name; space = t.space }

-- A built-in type, which has no name.
abbrev pub space_of_builtin : Builtin → NamedSpace
space_of_builtin which = record { name = None; space = builtin_space which }

-- The simple types of the documents by files and places, and then the built-in ones.
abbrev pub simples : List SimpleDefinition → List Space → List Builtin → List NamedSpace
simples ds spaces used = map space_of_made (in_order made_before (made_types ds spaces)) ++ map space_of_builtin used

-- ---- value constraints in canonical spelling (section 3.2.6)

abbrev pub space_at : List NamedSpace → ℕ → Option Space
space_at ts n = option_map (λ (t : NamedSpace). t.space) (slice_get ts n)

-- The value constraint, or none if the type doesn't accept the text, which is a fault.
abbrev pub or_free : Option Standard → Standard
or_free None = Free
or_free (Some standard) = standard

abbrev pub spelled_standard : List NamedSpace → ℕ → Standard → Standard
spelled_standard ts n standard = or_free (in_spelling (space_at ts n) standard)

abbrev pub spelled_attribute : List NamedSpace → GlobalAttribute → GlobalAttribute
spelled_attribute ts g = record { name = g.name; simple = g.simple; standard = spelled_standard ts g.simple g.standard }

abbrev pub spelled_use : List NamedSpace → AttributeUse → AttributeUse
spelled_use ts u = record { name = u.name; simple = u.simple; required = u.required; standard = spelled_standard ts u.simple u.standard }

abbrev pub spelled_complex : List NamedSpace → ComplexDef → ComplexDef
spelled_complex ts c = record { name = c.name; uses = map (spelled_use ts) c.uses; content = c.content }

-- ---- the whole set

abbrev pub set_with : List Document → Lists → ComponentNumbers → List Space → SetParts
set_with docs ls ns spaces =
    record {
      elements = elements ns ls;
      globals = length ls.globals;
      simples = simples (simple_types docs) spaces (used_builtins ls);
      complexes = map (spelled_complex (simples (simple_types docs) spaces (used_builtins ls))) (complexes ns docs ls);
      attributes = map (spelled_attribute (simples (simple_types docs) spaces (used_builtins ls))) (attributes ns ls.attributes);
    }

-- The set of documents whose simple types, by their numbers in `simple_types`, have these spaces.
abbrev pub set_of : List Document → List Space → SetParts
set_of docs spaces = set_with docs (lists_of docs) (numbers_in (lists_of docs)) spaces
