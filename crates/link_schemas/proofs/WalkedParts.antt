-- What the parts of a document give, where only its declarations and its types with a name, and the complex types in
-- place, give anything.
use Rattle.std.proofs.Common.{◌≡◌, ℕ, List, [], ◌∷◌, ◌++◌, Option, Some, None, append-nil, refl, ap, ap₂, ◌∙◌}
use Rattle.std.specs.List.{flat_map}
use Rattle.std.proofs.lemmas.Grind.{flat_map-append}
use Rattle.base_trees.specs.Rose.{Rose, node, Roses}
use Rattle.base_trees.specs.Rose as rose
use Rattle.content_models.specs.declared.particles.ParticleLabel.{ParticleLabel}
use Rattle.schema_components.specs.declared.simple_definitions.RawRef.{RawRef}
use Rattle.schema_components.specs.declared.declarations.RawContent.{RawContent}
use Rattle.schema_components.specs.declared.declarations.RawContent.TheVariants as content
use Rattle.schema_components.specs.Raw as raw
use Rattle.schema_components.specs.Raw.{Base, Named, Inner, Bases, How, Restrict, ListOf, UnionOf, Simple, Use, Complex, Kind, NamedKind, SimpleKind, ComplexKind, Element, Local, Reference, Own, Attribute, TypeDefinition, SimpleType, ComplexType, Document}
use Rattle.link_names.specs.Parts as what
use Rattle.link_names.specs.Parts.{Part, part, simple, in_base, in_how, in_bases, in_model, in_models, in_mixed, in_content, in_use_type, in_use, in_simple, in_complex, in_kind, in_element, in_attribute, in_definition, in_local, in_document}
use Rattle.link_names.specs.declared.parts.TypeRole.{TypeRole}
use Rattle.link_names.specs.declared.parts.TypeRole.TheVariants as role
use Rattle.link_schemas.proofs.Items.{flat_flat}

-- the part gives nothing where it stands in another and is no complex type
pub record GivesAtTop {A : Type 0} (f : Part → List A) : Type 0 where
  pub reference : (file : ℕ) (w : Option ℕ) (at : ℕ) (r : TypeRole) (ref : RawRef) → f (part file w at (what.TypeReference r ref)) ≡ []
  pub inner : (file : ℕ) (w : Option ℕ) (at : ℕ) (s : Simple) → f (part file w at (what.SimpleDefinition None s)) ≡ []
  pub particle : (file : ℕ) (w : Option ℕ) (at : ℕ) (l : ParticleLabel) → f (part file w at (what.Particle l)) ≡ []
  pub group : (file : ℕ) (w : Option ℕ) (at : ℕ) (l : ParticleLabel) → f (part file w at (what.MixedGroup l)) ≡ []
  pub use_of : (file : ℕ) (w : Option ℕ) (at : ℕ) (u : Use) → f (part file w at (what.AttributeUse u)) ≡ []

-- what the declarations and the types of a document give
module _ {A : Type 0} (f : Part → List A) where
  abbrev pub by_kind : ℕ → ℕ → Kind → List A
  by_kind file at (NamedKind r) = []
  by_kind file at (SimpleKind s) = []
  by_kind file at (ComplexKind c) = f (part file (Some at) c.at (what.ComplexDefinition None c))

  abbrev pub by_element : ℕ → Element → List A
  by_element file e = f (part file None e.at (what.GlobalElement e)) ++ by_kind file e.at e.kind

  abbrev pub by_attribute : ℕ → Attribute → List A
  by_attribute file a = f (part file None a.at (what.GlobalAttribute a))

  abbrev pub by_definition : ℕ → TypeDefinition → List A
  by_definition file (SimpleType name body) = f (part file None body.at (what.SimpleDefinition (Some name) body))
  by_definition file (ComplexType name body) = f (part file None body.at (what.ComplexDefinition (Some name) body))

  abbrev pub by_local : ℕ → Local → List A
  by_local file (Reference name at) = f (part file None at (what.ElementReference name))
  by_local file (Own e) = f (part file None e.at (what.LocalElement e)) ++ by_kind file e.at e.kind

  abbrev pub by_document : Document → List A
  by_document d =
      (flat_map (by_element d.file) d.elements ++ (flat_map (by_attribute d.file) d.attributes ++ flat_map (by_definition d.file) d.types))
      ++ flat_map (by_local d.file) d.locals

module _ {A : Type 0} (f : Part → List A) (top : GivesAtTop f) where
  nothing_more : (p : Part) (ps : List Part) → f p ≡ [] → flat_map f ps ≡ [] → flat_map f (p ∷ ps) ≡ []
  nothing_more p ps a b = ap (λ xs. xs ++ flat_map f ps) a ∙ b

  nothing_joined : (ps qs : List Part) → flat_map f ps ≡ [] → flat_map f qs ≡ [] → flat_map f (ps ++ qs) ≡ []
  nothing_joined ps qs a b = flat_map-append f ps qs ∙ ap (λ xs. xs ++ flat_map f qs) a ∙ b

  mutual
    base_nothing : (file at : ℕ) (r : TypeRole) (b : Base) → flat_map f (in_base file at r b) ≡ []
    base_nothing file at r (Named reference) = nothing_more (part file (Some at) at (what.TypeReference r reference)) [] (top.reference file (Some at) at r reference) refl
    base_nothing file at r (Inner own body_at how) =
        nothing_more (part file (Some at) own (what.SimpleDefinition None (simple own body_at how))) (in_how file body_at how)
        (top.inner file (Some at) own (simple own body_at how)) (how_nothing file body_at how)

    how_nothing : (file at : ℕ) (how : How) → flat_map f (in_how file at how) ≡ []
    how_nothing file at (Restrict base facets) = base_nothing file at role.SimpleType base
    how_nothing file at (ListOf item) = base_nothing file at role.SimpleType item
    how_nothing file at (UnionOf members) = bases_nothing file at members

    bases_nothing : (file at : ℕ) (bs : Bases) → flat_map f (in_bases file at bs) ≡ []
    bases_nothing file at raw.none = refl
    bases_nothing file at (raw.more b bs) =
        nothing_joined (in_base file at role.SimpleType b) (in_bases file at bs) (base_nothing file at role.SimpleType b) (bases_nothing file at bs)

  mutual
    model_nothing : (file within : ℕ) (t : Rose ParticleLabel) → flat_map f (in_model file within t) ≡ []
    model_nothing file within (node label kids) =
        nothing_more (part file (Some within) label.at (what.Particle label)) (in_models file label.at kids) (top.particle file (Some within) label.at label)
        (models_nothing file label.at kids)

    models_nothing : (file within : ℕ) (ts : Roses ParticleLabel) → flat_map f (in_models file within ts) ≡ []
    models_nothing file within rose.none = refl
    models_nothing file within (rose.more t ts) = nothing_joined (in_model file within t) (in_models file within ts) (model_nothing file within t) (models_nothing file within ts)

  mixed_nothing : (file within : ℕ) (t : Rose ParticleLabel) → flat_map f (in_mixed file within t) ≡ []
  mixed_nothing file within (node label rose.none) = nothing_more (part file (Some within) label.at (what.MixedGroup label)) [] (top.group file (Some within) label.at label) refl
  mixed_nothing file within (node label (rose.more t ts)) = model_nothing file within (node label (rose.more t ts))

  content_nothing : (file within : ℕ) (c : RawContent) → flat_map f (in_content file within c) ≡ []
  content_nothing file within content.Empty = refl
  content_nothing file within (content.Simple base at) =
      nothing_more (part file (Some within) at (what.TypeReference role.Content base)) [] (top.reference file (Some within) at role.Content base) refl
  content_nothing file within (content.ElementOnly model) = model_nothing file within model
  content_nothing file within (content.Mixed model) = mixed_nothing file within model

  use_type_nothing : (file at : ℕ) (kind : Option Base) → flat_map f (in_use_type file at kind) ≡ []
  use_type_nothing file at None = refl
  use_type_nothing file at (Some base) = base_nothing file at role.Attribute base

  uses_nothing : (file within : ℕ) (us : List Use) → flat_map f (flat_map (in_use file within) us) ≡ []
  uses_nothing file within [] = refl
  uses_nothing file within (u ∷ us) =
      nothing_joined (in_use file within u) (flat_map (in_use file within) us)
      (nothing_more (part file (Some within) u.at (what.AttributeUse u)) (in_use_type file u.at u.kind) (top.use_of file (Some within) u.at u) (use_type_nothing file u.at u.kind))
      (uses_nothing file within us)

  one_left : (p : Part) (ps : List Part) → flat_map f ps ≡ [] → flat_map f (p ∷ ps) ≡ f p
  one_left p ps e = ap (λ xs. f p ++ xs) e ∙ append-nil (f p)

  simple_one : (file : ℕ) (w : Option ℕ) (name : Option _) (s : Simple) → flat_map f (in_simple file w name s) ≡ f (part file w s.at (what.SimpleDefinition name s))
  simple_one file w name s = one_left (part file w s.at (what.SimpleDefinition name s)) (in_how file s.body_at s.how) (how_nothing file s.body_at s.how)

  complex_one : (file : ℕ) (w : Option ℕ) (name : Option _) (c : Complex) → flat_map f (in_complex file w name c) ≡ f (part file w c.at (what.ComplexDefinition name c))
  complex_one file w name c =
      one_left (part file w c.at (what.ComplexDefinition name c)) (in_content file c.at c.content ++ flat_map (in_use file c.at) c.uses)
      (nothing_joined (in_content file c.at c.content) (flat_map (in_use file c.at) c.uses) (content_nothing file c.at c.content) (uses_nothing file c.at c.uses))

  kind_gives : (file at : ℕ) (k : Kind) → flat_map f (in_kind file at k) ≡ by_kind f file at k
  kind_gives file at (NamedKind r) = nothing_more (part file (Some at) at (what.TypeReference role.Element r)) [] (top.reference file (Some at) at role.Element r) refl
  kind_gives file at (SimpleKind s) = simple_one file (Some at) None s ∙ top.inner file (Some at) s.at s
  kind_gives file at (ComplexKind c) = complex_one file (Some at) None c

  element_gives : (file : ℕ) (e : Element) → flat_map f (in_element file e) ≡ by_element f file e
  element_gives file e = ap (λ xs. f (part file None e.at (what.GlobalElement e)) ++ xs) (kind_gives file e.at e.kind)

  attribute_gives : (file : ℕ) (a : Attribute) → flat_map f (in_attribute file a) ≡ by_attribute f file a
  attribute_gives file a = one_left (part file None a.at (what.GlobalAttribute a)) (in_base file a.at role.Attribute a.kind) (base_nothing file a.at role.Attribute a.kind)

  definition_gives : (file : ℕ) (t : TypeDefinition) → flat_map f (in_definition file t) ≡ by_definition f file t
  definition_gives file (SimpleType name body) = simple_one file None (Some name) body
  definition_gives file (ComplexType name body) = complex_one file None (Some name) body

  local_gives : (file : ℕ) (l : Local) → flat_map f (in_local file l) ≡ by_local f file l
  local_gives file (Reference name at) = append-nil (f (part file None at (what.ElementReference name)))
  local_gives file (Own e) = ap (λ xs. f (part file None e.at (what.LocalElement e)) ++ xs) (kind_gives file e.at e.kind)

  pub document_gives : (d : Document) → flat_map f (in_document d) ≡ by_document f d
  document_gives d =
      let elements = flat_map (in_element d.file) d.elements in
      let attributes = flat_map (in_attribute d.file) d.attributes in
      let types = flat_map (in_definition d.file) d.types in
      let locals = flat_map (in_local d.file) d.locals in
      flat_map-append f (elements ++ (attributes ++ types)) locals
      ∙ ap₂ (λ xs ys. xs ++ ys)
      (flat_map-append f elements (attributes ++ types)
      ∙ ap₂ (λ xs ys. xs ++ ys) (flat_flat f (in_element d.file) (by_element f d.file) (element_gives d.file) d.elements)
      (flat_map-append f attributes types
      ∙ ap₂ (λ xs ys. xs ++ ys) (flat_flat f (in_attribute d.file) (by_attribute f d.file) (attribute_gives d.file) d.attributes)
      (flat_flat f (in_definition d.file) (by_definition f d.file) (definition_gives d.file) d.types)))
      (flat_flat f (in_local d.file) (by_local f d.file) (local_gives d.file) d.locals)
