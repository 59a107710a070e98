-- The default and fixed values of attributes that don't fit their types or each other (XML Schema Part 1, sections 3.2.6 and
-- 3.5.6).
use Rattle.std.specs.Prelude.{ℕ, Bool, true, false, not, List, [], ◌∷◌, map, bytes_eq, Option, Some, None, if◌then◌else◌}
use Rattle.std.specs.List.{flat_map, filter_map}
use Rattle.std.specs.Option.{is_none, option_map}
use Rattle.base_texts.specs.declared.texts.Name.{Name}
use Rattle.base_texts.specs.Lists.{HasItem}
use Rattle.base_texts.specs.Names.{name_eq}
use Rattle.simple_types.specs.Space.{Space}
use Rattle.simple_types.specs.declared.standards.Standard.{Standard}
use Rattle.simple_types.specs.declared.standards.Standard.TheVariants.{Free, Default, Fixed}
use Rattle.schema_components.specs.Raw.{Base, Use, Attribute, Document}
use Rattle.link_names.specs.Parts as part
use Rattle.link_names.specs.Parts.{What, Part, parts}
use Rattle.link_names.specs.declared.faults.LinkingFault.{LinkingFault}
use Rattle.link_names.specs.declared.faults.LinkWhy.{LinkWhy}
use Rattle.link_names.specs.declared.faults.LinkWhy.TheVariants.{BadDefault, FixedDiffers}
use Rattle.link_names.specs.Order.{place, fault}
use Rattle.link_names.specs.Cycles.{SimpleNumbers, numbers_in}
use Rattle.link_names.specs.SimpleTypes.{simple_types}
use Rattle.link_simple.specs.Making.{IsMaking, part_space}
use Rattle.link_simple.specs.Spellings.{in_spelling}

-- ---- global attributes

-- A global attribute, and the number of the file in which it was written.
pub record Declared : Type 0 where
  pub file : ℕ
  pub attribute : Attribute

abbrev pub declared : ℕ → Attribute → Declared
declared file a = record { file = file; attribute = a }

abbrev pub declared_in : ℕ → What → Option Declared
declared_in file (part.GlobalAttribute a) = Some (declared file a)
declared_in file other = None

abbrev pub if_any : Option Declared → List Declared
if_any None = []
if_any (Some d) = d ∷ []

abbrev pub declared_at : Part → List Declared
declared_at p = if_any (declared_in p.file p.what)

abbrev pub declared_among : List Part → List Declared
declared_among ps = flat_map declared_at ps

abbrev pub has_name : Name → Declared → Bool
has_name a d = name_eq d.attribute.name a

-- The first attribute of this name.
abbrev pub named : List Declared → Name → Option Declared
named [] a = None
named (d ∷ ds) a = if has_name a d then Some d else named ds a

-- ---- value constraints that don't fit

-- The type doesn't accept the text (section 3.2.6, clause 2).
abbrev pub is_bad : Option Standard → Bool
is_bad spelled = is_none spelled

-- A reference differs if it has a value constraint, and the attribute that it names is fixed to another value or the constraint
-- is a default (section 3.5.6, clause 2).
abbrev pub differs : Standard → Standard → Bool
differs own Free = false
differs own (Default other) = false
differs Free (Fixed other) = false
differs (Default text) (Fixed other) = true
differs (Fixed text) (Fixed other) = not (bytes_eq text other)

-- Values are compared by their canonical spellings. A text that the type doesn't accept has none, and is a fault at its own
-- place.
abbrev pub do_differ : Option Standard → Option Standard → Bool
do_differ (Some own) (Some other) = differs own other
do_differ _ _ = false

-- The reason against an attribute, by its value constraint and that of the attribute that it names.
abbrev pub why_of : Option Standard → Option Standard → Option LinkWhy
why_of own other = if is_bad own then Some BadDefault else if do_differ own other then Some FixedDiffers else None

-- ---- attribute by attribute, where the simple types have these spaces and the global attributes these names

module _ (ns : SimpleNumbers) (made : List (Option Space)) (names : Name → Option Declared) where
  -- The value constraint in the canonical spelling of the type.
  abbrev pub by_base : ℕ → Base → Standard → Option Standard
  by_base file base standard = in_spelling (part_space ns made file base) standard

  -- The reason against an attribute with a type of its own, which names no other.
  abbrev pub why_own : ℕ → Base → Standard → Option LinkWhy
  why_own file base standard = why_of (by_base file base standard) (Some Free)

  -- The reason against a reference, which has the type of the attribute that it names. A reference that names nothing is another
  -- pass's fault.
  abbrev pub why_reference : Option Declared → Standard → Option LinkWhy
  why_reference None standard = None
  why_reference (Some d) standard =
      why_of (by_base d.file d.attribute.kind standard) (by_base d.file d.attribute.kind d.attribute.standard)

  abbrev pub why_use : ℕ → Use → Option Base → Option LinkWhy
  why_use file u None = why_reference (names u.name) u.standard
  why_use file u (Some base) = why_own file base u.standard

  abbrev pub why_what : ℕ → What → Option LinkWhy
  why_what file (part.GlobalAttribute a) = why_own file a.kind a.standard
  why_what file (part.AttributeUse u) = why_use file u u.kind
  why_what file other = None

  abbrev pub fault_of : Part → Option LinkingFault
  fault_of p = option_map (λ w. fault w (place p.file p.at)) (why_what p.file p.what)

  abbrev pub faults_among : List Part → List LinkingFault
  faults_among ps = filter_map fault_of ps

-- ---- the documents

abbrev pub faults_by : List Document → List (Option Space) → List LinkingFault
faults_by docs made = faults_among (numbers_in (simple_types docs)) made (named (declared_among (parts docs))) (parts docs)

-- The fault is that of an attribute whose value constraint doesn't fit, if all simple types are made.
abbrev pub IsMisfit : List Document → LinkingFault → Type 0
IsMisfit docs f = (spaces : List Space) × IsMaking (simple_types docs) (map Some spaces) × HasItem (faults_by docs (map Some spaces)) f
