-- The places of the parts of a document are those that it has a place of its own for.
use Rattle.std.proofs.Common.{◌≡◌, ℕ, ◌+◌, ◌≤◌, arith, Bool, List, [], ◌∷◌, ◌++◌, Option, Some, None, append_assoc, refl, ap, ap₂, ◌∙◌}
use Rattle.std.specs.List.{flat_map, count_by, sum_by}
use Rattle.std.proofs.lemmas.Grind.{flat_map-append}
use Rattle.std.proofs.lemmas.List.Sums.{sum_by-cons}
use Rattle.base_trees.specs.Rose.{Rose, node, Roses}
use Rattle.base_trees.specs.Rose as rose
use Rattle.content_models.specs.declared.particles.ParticleLabel.{ParticleLabel}
use Rattle.schema_components.specs.declared.declarations.RawContent.{RawContent}
use Rattle.schema_components.specs.declared.declarations.RawContent.TheVariants as content
use Rattle.schema_components.specs.Places.{places_in_base, places_in_how, places_in_bases, places_in_type, places_in_use, group_place, places_in_model, places_among, places_in_mixed, places_in_content, places_in_complex, places_in_kind, places_in_element, places_in_local, places_in_attribute, places_in_definition, places_in}
use Rattle.schema_components.specs.Raw as raw
use Rattle.schema_components.specs.Raw.{Base, Named, Inner, Bases, How, Restrict, ListOf, UnionOf, Use, Complex, Kind, NamedKind, SimpleKind, ComplexKind, Element, Local, Reference, Own, Attribute, TypeDefinition, SimpleType, ComplexType, Document}
use Rattle.link_names.specs.Parts as what
use Rattle.link_names.specs.Parts.{What, Part, in_base, in_how, in_bases, in_model, in_models, in_mixed, in_content, in_use_type, in_use, in_complex, in_kind, in_element, in_attribute, in_definition, in_local, in_document}
use Rattle.link_names.specs.declared.parts.TypeRole.{TypeRole}
use Rattle.link_names.specs.declared.parts.TypeRole.TheVariants as role
use Rattle.link_names.specs.SimpleTypes as simple
use Rattle.link_names.specs.SimpleTypes.{SimpleDefinition}
use Rattle.link_complex.specs.ComplexTypes as complex
use Rattle.link_complex.specs.ComplexTypes.{ComplexDefinition}
use Rattle.link_schemas.proofs.Items.{flat_flat, count_joined, count_flat, sums_joined}

-- the place that is counted for a part, if one is
abbrev places_of_what : ℕ → What → List ℕ
places_of_what at (what.GlobalElement e) = at ∷ []
places_of_what at (what.LocalElement e) = at ∷ []
places_of_what at (what.ElementReference name) = at ∷ []
places_of_what at (what.GlobalAttribute a) = at ∷ []
places_of_what at (what.AttributeUse u) = at ∷ []
places_of_what at (what.SimpleDefinition name s) = at ∷ []
places_of_what at (what.ComplexDefinition name c) = c.at ∷ []
places_of_what at (what.Particle l) = group_place l
places_of_what at (what.MixedGroup l) = []
places_of_what at (what.TypeReference r name) = []

abbrev pub places_of : Part → List ℕ
places_of p = places_of_what p.at p.what

places_joined : (ps qs : List Part) (as_ bs : List ℕ) → flat_map places_of ps ≡ as_ → flat_map places_of qs ≡ bs → flat_map places_of (ps ++ qs) ≡ as_ ++ bs
places_joined ps qs as_ bs e f = flat_map-append places_of ps qs ∙ ap₂ (λ xs ys. xs ++ ys) e f

mutual
  base_places : (file at : ℕ) (r : TypeRole) (b : Base) → flat_map places_of (in_base file at r b) ≡ places_in_base b
  base_places file at r (Named reference) = refl
  base_places file at r (Inner own body_at how) = ap (λ xs. own ∷ xs) (how_places file body_at how)

  how_places : (file at : ℕ) (how : How) → flat_map places_of (in_how file at how) ≡ places_in_how how
  how_places file at (Restrict base facets) = base_places file at role.SimpleType base
  how_places file at (ListOf item) = base_places file at role.SimpleType item
  how_places file at (UnionOf members) = bases_places file at members

  bases_places : (file at : ℕ) (bs : Bases) → flat_map places_of (in_bases file at bs) ≡ places_in_bases bs
  bases_places file at raw.none = refl
  bases_places file at (raw.more b bs) =
      places_joined (in_base file at role.SimpleType b) (in_bases file at bs) (places_in_base b) (places_in_bases bs) (base_places file at role.SimpleType b) (bases_places file at bs)

mutual
  model_places : (file within : ℕ) (t : Rose ParticleLabel) → flat_map places_of (in_model file within t) ≡ places_in_model t
  model_places file within (node label kids) = ap (λ xs. group_place label ++ xs) (models_places file label.at kids)

  models_places : (file within : ℕ) (ts : Roses ParticleLabel) → flat_map places_of (in_models file within ts) ≡ places_among ts
  models_places file within rose.none = refl
  models_places file within (rose.more t ts) =
      places_joined (in_model file within t) (in_models file within ts) (places_in_model t) (places_among ts) (model_places file within t) (models_places file within ts)

mixed_places : (file within : ℕ) (t : Rose ParticleLabel) → flat_map places_of (in_mixed file within t) ≡ places_in_mixed t
mixed_places file within (node label rose.none) = refl
mixed_places file within (node label (rose.more t ts)) = model_places file within (node label (rose.more t ts))

content_places : (file within : ℕ) (c : RawContent) → flat_map places_of (in_content file within c) ≡ places_in_content c
content_places file within content.Empty = refl
content_places file within (content.Simple base at) = refl
content_places file within (content.ElementOnly model) = model_places file within model
content_places file within (content.Mixed model) = mixed_places file within model

type_places : (file at : ℕ) (kind : Option Base) → flat_map places_of (in_use_type file at kind) ≡ places_in_type kind
type_places file at None = refl
type_places file at (Some base) = base_places file at role.Attribute base

use_places : (file within : ℕ) (u : Use) → flat_map places_of (in_use file within u) ≡ places_in_use u
use_places file within u = ap (λ xs. u.at ∷ xs) (type_places file u.at u.kind)

complex_places : (file : ℕ) (w : Option ℕ) (name : Option _) (c : Complex) → flat_map places_of (in_complex file w name c) ≡ places_in_complex c
complex_places file w name c =
    ap (λ xs. c.at ∷ xs)
    (places_joined (in_content file c.at c.content) (flat_map (in_use file c.at) c.uses) (places_in_content c.content) (flat_map places_in_use c.uses)
    (content_places file c.at c.content) (flat_flat places_of (in_use file c.at) places_in_use (use_places file c.at) c.uses))

kind_places : (file at : ℕ) (k : Kind) → flat_map places_of (in_kind file at k) ≡ places_in_kind k
kind_places file at (NamedKind r) = refl
kind_places file at (SimpleKind s) = ap (λ xs. s.at ∷ xs) (how_places file s.body_at s.how)
kind_places file at (ComplexKind c) = complex_places file (Some at) None c

element_places : (file : ℕ) (e : Element) → flat_map places_of (in_element file e) ≡ places_in_element e
element_places file e = ap (λ xs. e.at ∷ xs) (kind_places file e.at e.kind)

attribute_places : (file : ℕ) (a : Attribute) → flat_map places_of (in_attribute file a) ≡ places_in_attribute a
attribute_places file a = ap (λ xs. a.at ∷ xs) (base_places file a.at role.Attribute a.kind)

definition_places : (file : ℕ) (t : TypeDefinition) → flat_map places_of (in_definition file t) ≡ places_in_definition t
definition_places file (SimpleType name body) = ap (λ xs. body.at ∷ xs) (how_places file body.body_at body.how)
definition_places file (ComplexType name body) = complex_places file None (Some name) body

local_places : (file : ℕ) (l : Local) → flat_map places_of (in_local file l) ≡ places_in_local l
local_places file (Reference name at) = refl
local_places file (Own e) = ap (λ xs. e.at ∷ xs) (kind_places file e.at e.kind)

abbrev pub all_places : Document → List ℕ
all_places d = places_in d.elements d.attributes d.types d.locals

pub document_places : (d : Document) → flat_map places_of (in_document d) ≡ all_places d
document_places d =
    let elements = flat_map (in_element d.file) d.elements in
    let attributes = flat_map (in_attribute d.file) d.attributes in
    let types = flat_map (in_definition d.file) d.types in
    let locals = flat_map (in_local d.file) d.locals in
    let es = flat_map places_in_element d.elements in
    let as_ = flat_map places_in_attribute d.attributes in
    let ts = flat_map places_in_definition d.types in
    let ls = flat_map places_in_local d.locals in
    places_joined (elements ++ (attributes ++ types)) locals (es ++ (as_ ++ ts)) ls
    (places_joined elements (attributes ++ types) es (as_ ++ ts) (flat_flat places_of (in_element d.file) places_in_element (element_places d.file) d.elements)
    (places_joined attributes types as_ ts (flat_flat places_of (in_attribute d.file) places_in_attribute (attribute_places d.file) d.attributes)
    (flat_flat places_of (in_definition d.file) places_in_definition (definition_places d.file) d.types)))
    (flat_flat places_of (in_local d.file) places_in_local (local_places d.file) d.locals)
    ∙ append_assoc es (as_ ++ ts) ls ∙ ap (λ xs. es ++ xs) (append_assoc as_ ts ls)

-- ---- what parts give, by places

module _ (test : ℕ → Bool) where
  sum_of_parts : (g : Part → ℕ) → ((p : Part) → g p ≤ count_by test (places_of p)) → (ps : List Part) → sum_by g ps ≤ count_by test (flat_map places_of ps)
  sum_of_parts g less [] = omega arith
  sum_of_parts g less (p ∷ ps) =
      let a = sum_by-cons g p ps in
      let b = count_joined test (places_of p) (flat_map places_of ps) in
      let here = less p in
      let rest = sum_of_parts g less ps in
      omega (arith, a, b, here, rest)

  abbrev is_simple_at : SimpleDefinition → Bool
  is_simple_at s = test s.place.at

  abbrev is_complex_at : ComplexDefinition → Bool
  is_complex_at c = test c.place.at

  abbrev types_at : Part → ℕ
  types_at p = count_by is_simple_at (simple.of_part p) + count_by is_complex_at (complex.of_part p)

  types_less : (file at : ℕ) (w : What)
      → count_by is_simple_at (simple.of_what file at w) + count_by is_complex_at (complex.of_what file w) ≤ count_by test (places_of_what at w)
  types_less file at (what.GlobalElement e) = omega arith
  types_less file at (what.LocalElement e) = omega arith
  types_less file at (what.ElementReference name) = omega arith
  types_less file at (what.GlobalAttribute a) = omega arith
  types_less file at (what.AttributeUse u) = omega arith
  types_less file at (what.SimpleDefinition name s) = omega arith
  types_less file at (what.ComplexDefinition name c) = omega arith
  types_less file at (what.Particle l) = omega arith
  types_less file at (what.MixedGroup l) = omega arith
  types_less file at (what.TypeReference r name) = omega arith

  -- simple and complex types have places of their own
  pub types_by_places : (d : Document)
      → count_by (λ (s : SimpleDefinition). test s.place.at) (flat_map simple.of_part (in_document d)) + count_by (λ (c : ComplexDefinition). test c.place.at) (complex.of_document d)
      ≤ count_by test (all_places d)
  types_by_places d =
      let ps = in_document d in
      let a = count_flat is_simple_at simple.of_part ps in
      let b = count_flat is_complex_at complex.of_part ps in
      let c = sums_joined (λ p. count_by is_simple_at (simple.of_part p)) (λ p. count_by is_complex_at (complex.of_part p)) ps in
      let e = sum_of_parts types_at (λ p. types_less p.file p.at p.what) ps in
      let same : count_by test (flat_map places_of ps) ≡ count_by test (all_places d) = ap (count_by test) (document_places d) in
      omega (arith, a, b, c, e, same)
