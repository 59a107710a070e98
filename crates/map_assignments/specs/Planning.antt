-- The type of each component of a set (X.694): its parts in their order, before they have names.
use Rattle.std.specs.Prelude.{ℕ, zero, suc, ◌==◌, ◌&&◌, nat_lt, not, Bool, true, false, List, [], ◌∷◌, ◌++◌, map, Option, Some, None, slice_get, if◌then◌else◌}
use Rattle.base_texts.specs.declared.white_space.WhiteSpace.TheVariants.{Preserve}
use Rattle.simple_types.specs.declared.simples.Class.TheVariants.{Any}
use Rattle.simple_types.specs.Space.{Booleans, Characters}
use Rattle.simple_types.specs.Seen.{space_of}
use Rattle.content_models.specs.Particle as model
use Rattle.content_models.specs.Particle.{Particle, occurs, Term, Particles}
use Rattle.content_models.specs.Seen.{seen}
use Rattle.schema_components.specs.declared.components.ElementDecl.{ElementDecl}
use Rattle.schema_components.specs.declared.components.TypeOf.TheVariants as kind
use Rattle.schema_components.specs.declared.components.AttributeUse.{AttributeUse}
use Rattle.schema_components.specs.declared.components.SimpleDef.{SimpleDef}
use Rattle.schema_components.specs.declared.components.ComplexDef.{ComplexDef}
use Rattle.schema_components.specs.declared.components.Content.{Content}
use Rattle.schema_components.specs.declared.components.Content.TheVariants as content_
use Rattle.schema_components.specs.Components.{Set}
use Rattle.map_subjects.specs.declared.subjects.Subject.{Subject}
use Rattle.map_subjects.specs.declared.subjects.Subject.TheVariants as subject
use Rattle.map_assignments.specs.Plans.{a_sequence, a_choice, Label, attribute, element, group, elements, groups, texts, order, item, base, content, TypePlan, simple, sequence, choice, repeated, order_items, reference, Parts, finish, part}

-- ---- simple types (clauses 11 to 13)

-- The type of a component that has a simple type: that of its assignment if it has a name, else the type in place.
abbrev pub simple_plan : SimpleDef → ℕ → TypePlan
simple_plan t n = elim t.name [ None ↦ simple (space_of t.space) | Some name ↦ reference (subject.Simple n) ]

abbrev pub simple_type : Set → ℕ → TypePlan
simple_type s n = elim (slice_get s.simples n) [ None ↦ simple Booleans | Some t ↦ simple_plan t n ]

-- ---- attribute uses (clause 22), in the order of their names, which is that of the linked set

abbrev pub attributes : Set → List AttributeUse → Parts → Parts
attributes s [] rest = rest
attributes s (u ∷ us) rest = part (attribute u.name u.standard) (not u.required) (simple_type s u.simple) (attributes s us rest)

-- ---- particles (clauses 18 and 19)

-- The label of a term that occurs once, and of one that may occur several times.
abbrev pub label_of : Term → Label
label_of (model.element d name) = element name
label_of (model.sequence ps) = group a_sequence
label_of (model.choice ps) = group a_choice
label_of (model.all ps) = group a_sequence

abbrev pub list_label_of : Term → Label
list_label_of (model.element d name) = elements name
list_label_of (model.sequence ps) = groups a_sequence
list_label_of (model.choice ps) = groups a_choice
list_label_of (model.all ps) = groups a_sequence

-- The bounds are 1 and 1.
abbrev pub is_once : ℕ → Option ℕ → Bool
is_once least None = false
is_once least (Some most) = (least == 1) && (most == 1)

-- The bounds are 0 and 1.
abbrev pub is_optional : ℕ → Option ℕ → Bool
is_optional least None = false
is_optional least (Some most) = (least == 0) && (most == 1)

-- The part for a particle. Bounds of 0 and 1 make it OPTIONAL, except in a CHOICE, whose alternatives never are.
abbrev pub particle_part : Bool → Term → TypePlan → ℕ → Option ℕ → Parts → Parts
particle_part in_choice t type least most rest =
    if is_once least most then part (label_of t) false type rest
    else if is_optional least most && not in_choice then part (label_of t) true type rest
    else part (list_label_of t) false (repeated (label_of t) type least most) rest

abbrev pub is_mixed : Content → Bool
is_mixed (content_.Mixed particle) = true
is_mixed _ = false

-- The texts between child elements of mixed content (clause 20): SEQUENCE OF UTF8String.
abbrev pub texts_type : TypePlan
texts_type = repeated item (simple (Characters Preserve 0 None Any)) 0 None

abbrev pub with_texts : Bool → Parts → Parts
with_texts mixed rest = if mixed then part texts false texts_type rest else rest

-- ---- elements in any order (X.694 on groups with the compositor all, X.693 on USE-ORDER)

-- It is an all with particles. An all without particles, which no linked set has, would have no elements to order.
abbrev pub is_all : Particle → Bool
is_all (occurs (model.all (model.more p ps)) least most) = true
is_all _ = false

abbrev pub is_ordered : Content → Bool
is_ordered (content_.ElementOnly particle) = is_all (seen particle)
is_ordered (content_.Mixed particle) = is_all (seen particle)
is_ordered _ = false

-- The labels of the parts before those of the elements.
abbrev pub labels_before : Bool → List AttributeUse → List Label
labels_before mixed uses = (if mixed then texts ∷ [] else []) ++ order ∷ map (λ (u : AttributeUse). attribute u.name u.standard) uses

-- The labels of these parts.
abbrev pub labels : Parts → List Label
labels finish = []
labels (part l optional p ps) = l ∷ labels ps

-- The order of child elements: SEQUENCE OF the ENUMERATED of the identifiers of their parts.
abbrev pub order_type : List Label → List Label → TypePlan
order_type before ls = repeated item (order_items before ls) 0 None

-- The order is after the texts and before the attributes.
abbrev pub with_order : Bool → TypePlan → Parts → Parts
with_order ordered type rest = if ordered then part order false type rest else rest

-- Each declaration has this type at a particle.
module _ (T : ℕ → TypePlan) where
  abbrev mutual
    pub term_type : Term → TypePlan
    term_type (model.element d name) = T d
    term_type (model.sequence ps) = sequence false false false (particle_parts false ps)
    term_type (model.choice ps) = choice (particle_parts true ps)
    term_type (model.all ps) = sequence false false false (particle_parts false ps)

    pub particle_parts : Bool → Particles → Parts
    particle_parts in_choice model.none = finish
    particle_parts in_choice (model.more (occurs t least most) ps) = particle_part in_choice t (term_type t) least most (particle_parts in_choice ps)

  abbrev pub top_part : Term → ℕ → Option ℕ → Parts
  top_part t least most = particle_part false t (term_type t) least most finish

  -- The particles of a top sequence that occurs once are parts of the type itself. So are those of an all, which in a linked set
  -- is always at the top and occurs once. Any other top particle is one part.
  abbrev pub top : Particle → Parts
  top (occurs (model.sequence ps) least most) = if is_once least most then particle_parts false ps else top_part (model.sequence ps) least most
  top (occurs (model.all ps) least most) = particle_parts false ps
  top (occurs t least most) = top_part t least most

  -- ---- complex types (clauses 20 and 26)

  -- The parts of a content.
  abbrev pub content_parts : Set → Content → Parts
  content_parts s content_.Empty = finish
  content_parts s (content_.Simple n) = part base false (simple_type s n) finish
  content_parts s (content_.ElementOnly particle) = top (seen particle)
  content_parts s (content_.Mixed particle) = top (seen particle)

  -- The type of the content that a nillable element has if it isn't nil.
  abbrev pub content_type : Set → Content → TypePlan
  content_type s content_.Empty = sequence false false false finish
  content_type s (content_.Simple n) = simple_type s n
  content_type s (content_.ElementOnly particle) = sequence false false false (top (seen particle))
  content_type s (content_.Mixed particle) = sequence false false false (top (seen particle))

  -- After the attributes are the parts of the content, or for a nillable element one OPTIONAL part with the entire content.
  abbrev pub rest_parts : Set → Bool → Content → Parts
  rest_parts s nillable c = if nillable then part content true (content_type s c) finish else content_parts s c

  -- The type of the part `order`. The parts of the elements follow those of the type, or are alone in its content.
  abbrev pub order_plan : Set → Bool → ComplexDef → TypePlan
  order_plan s nillable c =
      order_type (if nillable then [] else labels_before (is_mixed c.content) c.uses) (labels (content_parts s c.content))

  abbrev pub complex_plan : Set → Bool → ComplexDef → TypePlan
  complex_plan s nillable c =
      sequence nillable (is_mixed c.content) (is_ordered c.content)
      (with_texts (is_mixed c.content) (with_order (is_ordered c.content) (order_plan s nillable c) (attributes s c.uses (rest_parts s nillable c.content))))

abbrev pub nillable_simple_type : Set → ℕ → TypePlan
nillable_simple_type s n = sequence true false false (part content true (simple_type s n) finish)

-- ---- declarations (clauses 14 and 15)

module _ (s : Set) where
  -- The type of a declaration, if complex types in place are these, for nillable elements and for others.
  abbrev pub own_type : (Bool → ℕ → TypePlan) → ElementDecl → TypePlan
  own_type inner e = elim e.kind [
    | kind.Simple n ↦ if e.nillable then nillable_simple_type s n else simple_type s n
    | kind.Complex n ↦ elim (slice_get s.complexes n) [
      | None ↦ sequence false false false finish
      | Some c ↦ elim c.name [ None ↦ inner e.nillable n | Some name ↦ reference (if e.nillable then subject.Nillable n else subject.Complex n) ]
    ]
  ]

  -- The type at an element particle (clause 19). For a global element it is a reference.
  abbrev pub particle_type : (Bool → ℕ → TypePlan) → ℕ → TypePlan
  particle_type inner d =
      if nat_lt d s.globals then reference (subject.Element d)
      else elim (slice_get s.elements d) [ None ↦ simple Booleans | Some e ↦ own_type inner e ]

  -- The type of the complex type n, in which at most `levels` types without a name are nested, including itself.
  abbrev pub in_place : ℕ → Bool → ℕ → TypePlan
  in_place zero nillable n = sequence false false false finish
  in_place (suc levels) nillable n =
      elim (slice_get s.complexes n) [ None ↦ sequence false false false finish | Some c ↦ complex_plan (particle_type (in_place levels)) s nillable c ]

  -- The type of a component's assignment. In a linked set at most 21 types without a name are nested.
  abbrev pub body : Subject → TypePlan
  body (subject.Element d) = elim (slice_get s.elements d) [ None ↦ simple Booleans | Some e ↦ own_type (in_place 21) e ]
  body (subject.Attribute n) = elim (slice_get s.attributes n) [ None ↦ simple Booleans | Some a ↦ simple_type s a.simple ]
  body (subject.Simple n) = elim (slice_get s.simples n) [ None ↦ simple Booleans | Some t ↦ simple (space_of t.space) ]
  body (subject.Complex n) = in_place 21 false n
  body (subject.Nillable n) = in_place 21 true n
