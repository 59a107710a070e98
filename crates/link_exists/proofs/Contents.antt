-- The content models of documents that are read, each with the numbers of its set: a choice has an alternative, nothing
-- stands in an element, and bounds are of 32 bits.
use Rattle.std.proofs.Common.{◌≡◌, ℕ, suc, inl, inr, List, [], ◌∷◌, map, All, Option, refl, sym, ap, subst}
use Rattle.std.specs.Option.{IfSome}
use Rattle.std.proofs.lemmas.List.Elements.{All-map}
use Rattle.base_texts.specs.declared.texts.Name.{Name}
use Rattle.base_texts.specs.Lists.{HasItem}
use Rattle.base_trees.specs.Rose.{Rose, Roses, node, length_all, Allowed, AllowedAll}
use Rattle.base_trees.specs.Rose as rose
use Rattle.content_models.specs.Kids.{MayHave, KindMayHave}
use Rattle.content_models.specs.declared.particles.ParticleKind.{ParticleKind}
use Rattle.content_models.specs.declared.particles.ParticleKind.TheVariants as particle
use Rattle.content_models.specs.declared.particles.ParticleLabel.{ParticleLabel}
use Rattle.schema_components.specs.declared.components.ComplexDef.{ComplexDef}
use Rattle.schema_components.specs.declared.components.GlobalAttribute.{GlobalAttribute}
use Rattle.schema_components.specs.declared.declarations.RawContent.{RawContent}
use Rattle.schema_components.specs.declared.declarations.RawContent.TheVariants as raw
use Rattle.schema_components.specs.Raw.{Kind, NamedKind, SimpleKind, ComplexKind, Element, Local, Reference, Own, TypeDefinition, SimpleType, ComplexType, Document}
use Rattle.schema_components.specs.Components.{model_of}
use Rattle.schema_read.specs.Private.Held.{ContentHeld, KindHeld, LocalHeld, TypeHeld, ElementsHeld, TypesHeld, LocalsHeld}
use Rattle.link_complex.specs.ComplexTypes.{ComplexDefinition, of_document, complex_types}
use Rattle.link_set.specs.Numbering.{ComponentNumbers}
use Rattle.link_set.specs.Parts.{HasWholeModel}
use Rattle.link_set.specs.Sets.{NamedSpace, numbered_kind, numbered, all_numbered, content_of, number_of_declaration, complex, complexes, attributes, named_attribute, spelled_complex}
use Rattle.link_set.specs.Written.{lists_of, complex_before}
use Rattle.map_laws.specs.Widths.{IsWideModel, AreWideModels, IfWideModel}
use Rattle.link_schemas.proofs.FewComponents.{each_complex}
use Rattle.link_schemas.proofs.GlobalLists.{by_kind_of, of_definition, of_local, complexes_listed}
use Rattle.link_schemas.proofs.InOrder.{item_of_order}
use Rattle.link_schemas.proofs.Items.{of_flat, of_mapped, each_item}
use Rattle.link_exists.proofs.Reading.{ContentWide, KindGood, LocalGood, TypeGood, ElementsGood, TypesGood, LocalsGood, IsGoodDocument}

-- ---- other numbers change nothing of it

kind_allowed : (number : ℕ → ℕ) (k : ParticleKind) (n : ℕ) → KindMayHave k n → KindMayHave (numbered_kind number k) n
kind_allowed number (particle.Element decl name) n h = h
kind_allowed number particle.Sequence n h = h
kind_allowed number particle.Choice n h = h
kind_allowed number particle.All n h = h

same_length : (number : ℕ → ℕ) (ts : Roses ParticleLabel) → length_all (all_numbered number ts) ≡ length_all ts
same_length number rose.none = refl
same_length number (rose.more t ts) = ap suc (same_length number ts)

mutual
  allowed_numbered : (number : ℕ → ℕ) (t : Rose ParticleLabel) → Allowed MayHave t → Allowed MayHave (numbered number t)
  allowed_numbered number (node l ts) h =
      (subst (KindMayHave (numbered_kind number l.kind)) (sym (same_length number ts)) (kind_allowed number l.kind (length_all ts) h.0), all_allowed_numbered number ts h.1)

  all_allowed_numbered : (number : ℕ → ℕ) (ts : Roses ParticleLabel) → AllowedAll MayHave ts → AllowedAll MayHave (all_numbered number ts)
  all_allowed_numbered number rose.none h = h
  all_allowed_numbered number (rose.more t ts) h = (allowed_numbered number t h.0, all_allowed_numbered number ts h.1)

mutual
  wide_numbered : (number : ℕ → ℕ) (t : Rose ParticleLabel) → IsWideModel t → IsWideModel (numbered number t)
  wide_numbered number (node l ts) h = (h.0, all_wide_numbered number ts h.1)

  all_wide_numbered : (number : ℕ → ℕ) (ts : Roses ParticleLabel) → AreWideModels ts → AreWideModels (all_numbered number ts)
  all_wide_numbered number rose.none h = h
  all_wide_numbered number (rose.more t ts) h = (wide_numbered number t h.0, all_wide_numbered number ts h.1)

-- ---- each complex type of the documents

-- the content of a definition
abbrev IsKeptIn : ComplexDefinition → Type 0
IsKeptIn c = ContentHeld c.body.content × ContentWide c.body.content

-- what a document keeps of its complex types
pub record KeepsContents (d : Document) : Type 0 where
  pub elements_held : ElementsHeld d.elements
  pub types_held : TypesHeld d.types
  pub locals_held : LocalsHeld d.locals
  pub good : IsGoodDocument d

kind_kept : (file : ℕ) (k : Kind) → KindHeld k → KindGood k → (c : ComplexDefinition) → HasItem (by_kind_of file k) c → IsKeptIn c
kind_kept file (NamedKind r) held good c i = absurd i
kind_kept file (SimpleKind s) held good c i = absurd i
kind_kept file (ComplexKind b) held good c (inl same) = subst IsKeptIn same (held.content, good.1)
kind_kept file (ComplexKind b) held good c (inr none) = absurd none

type_kept : (file : ℕ) (t : TypeDefinition) → TypeHeld t → TypeGood t → (c : ComplexDefinition) → HasItem (of_definition file t) c → IsKeptIn c
type_kept file (SimpleType name s) held good c i = absurd i
type_kept file (ComplexType name b) held good c (inl same) = subst IsKeptIn same (held.content, good.1)
type_kept file (ComplexType name b) held good c (inr none) = absurd none

local_kept : (file : ℕ) (l : Local) → LocalHeld l → LocalGood l → (c : ComplexDefinition) → HasItem (of_local file l) c → IsKeptIn c
local_kept file (Reference name at) held good c i = absurd i
local_kept file (Own e) held good c i = kind_kept file e.kind held good c i

element_at : (es : List Element) → ElementsHeld es → ElementsGood es → (e : Element) → HasItem es e → KindHeld e.kind × KindGood e.kind
element_at [] h g e i = absurd i
element_at (x ∷ xs) h g e (inl same) = subst (λ (y : Element). KindHeld y.kind × KindGood y.kind) same (h.0, g.0)
element_at (x ∷ xs) h g e (inr i) = element_at xs h.1 g.1 e i

type_at : (ts : List TypeDefinition) → TypesHeld ts → TypesGood ts → (t : TypeDefinition) → HasItem ts t → TypeHeld t × TypeGood t
type_at [] h g t i = absurd i
type_at (x ∷ xs) h g t (inl same) = subst (λ (y : TypeDefinition). TypeHeld y × TypeGood y) same (h.0, g.0)
type_at (x ∷ xs) h g t (inr i) = type_at xs h.1 g.1 t i

local_at : (ls : List Local) → LocalsHeld ls → LocalsGood ls → (l : Local) → HasItem ls l → LocalHeld l × LocalGood l
local_at [] h g l i = absurd i
local_at (x ∷ xs) h g l (inl same) = subst (λ (y : Local). LocalHeld y × LocalGood y) same (h.0, g.0)
local_at (x ∷ xs) h g l (inr i) = local_at xs h.1 g.1 l i

complex_kept : (d : Document) → KeepsContents d → (c : ComplexDefinition) → HasItem (of_document d) c → IsKeptIn c
complex_kept d k c i =
    each_complex d IsKeptIn (
      (λ e j x at. let both = element_at d.elements k.elements_held k.good.elements e j in kind_kept d.file e.kind both.0 both.1 x at),
      (λ t j x at. let both = type_at d.types k.types_held k.good.types t j in type_kept d.file t both.0 both.1 x at),
      (λ l j x at. let both = local_at d.locals k.locals_held k.good.locals l j in local_kept d.file l both.0 both.1 x at),
    )
    c (subst (λ cs. HasItem cs c) (complexes_listed d) i)

-- ---- in the set

module _ (ns : ComponentNumbers) (globals : Name → Option GlobalAttribute) (docs : List Document) where
  content_whole : (number : ℕ → ℕ) (c : RawContent) → ContentHeld c → IfSome (model_of (content_of ns number c)) (Allowed MayHave)
  content_whole number raw.Empty h = tt
  content_whole number (raw.Simple base at) h = tt
  content_whole number (raw.ElementOnly model) h = allowed_numbered number model h
  content_whole number (raw.Mixed model) h = allowed_numbered number model h

  content_wide : (number : ℕ → ℕ) (c : RawContent) → ContentWide c → IfWideModel (model_of (content_of ns number c))
  content_wide number raw.Empty h = tt
  content_wide number (raw.Simple base at) h = tt
  content_wide number (raw.ElementOnly model) h = wide_numbered number model h
  content_wide number (raw.Mixed model) h = wide_numbered number model h

  abbrev IsWhole : ComplexDef → Type 0
  IsWhole c = HasWholeModel c × IfWideModel (model_of c.content)

  complex_whole : (c : ComplexDefinition) → IsKeptIn c → IsWhole (complex ns globals docs c)
  complex_whole c k =
      let number = number_of_declaration ns docs c.place.file in
      (content_whole number c.body.content k.0, content_wide number c.body.content k.1)

module _ (docs : List Document) (kept : (d : Document) → HasItem docs d → KeepsContents d) (ns : ComponentNumbers) where
  each_whole : (x : ComplexDef) → HasItem (complexes ns docs (lists_of docs)) x → HasWholeModel x × IfWideModel (model_of x.content)
  each_whole x i =
      let globals = named_attribute (attributes ns (lists_of docs).attributes) in
      let r = of_mapped (complex ns globals docs) (lists_of docs).complexes x i in
      let known = of_flat of_document docs r.0 (item_of_order complex_before (complex_types docs) r.0 r.1) in
      subst (λ (c : ComplexDef). HasWholeModel c × IfWideModel (model_of c.content)) r.2
      (complex_whole ns globals docs r.0 (complex_kept known.0 (kept known.0 known.1) r.0 known.2))

  module _ (ts : List NamedSpace) where
    pub all_whole : All HasWholeModel (map (spelled_complex ts) (complexes ns docs (lists_of docs)))
    all_whole =
        All-map HasWholeModel (spelled_complex ts) (complexes ns docs (lists_of docs))
        (each_item HasWholeModel (complexes ns docs (lists_of docs)) (λ x i. (each_whole x i).0))

    pub all_wide : All (λ (c : ComplexDef). IfWideModel (model_of c.content)) (map (spelled_complex ts) (complexes ns docs (lists_of docs)))
    all_wide =
        All-map (λ (c : ComplexDef). IfWideModel (model_of c.content)) (spelled_complex ts) (complexes ns docs (lists_of docs))
        (each_item (λ (c : ComplexDef). IfWideModel (model_of c.content)) (complexes ns docs (lists_of docs)) (λ x i. (each_whole x i).1))
