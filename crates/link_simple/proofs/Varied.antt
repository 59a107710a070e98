-- Each restriction of the documents has few enumerations, and each union has a member.
use Rattle.std.proofs.Common.{◌≡◌, ℕ, zero, suc, ◌+◌, ◌<◌, arith, true, cond, inl, inr, List, [], ◌∷◌, ◌++◌, length, map, refl, sym, subst, Option, Some, None}
use Rattle.std.specs.Prelude.{◌&&◌, ◌^◌, count_by, slice_get}
use Rattle.std.specs.List.{flat_map}
use Rattle.std.specs.Borrow.{Bor}
use Rattle.std.proofs.lemmas.Bool.{and_parts, leb-true, true≢false}
use Rattle.std.proofs.lemmas.Grind.{flat_map-append}
use Rattle.std.proofs.lemmas.List.Sums.{sum_by-cons}
use Rattle.base_texts.specs.Lists.{HasItem}
use Rattle.base_trees.specs.Rose.{Rose, node, Roses}
use Rattle.base_trees.specs.Rose as rose
use Rattle.content_models.specs.declared.particles.ParticleLabel.{ParticleLabel}
use Rattle.simple_types.specs.declared.facets.Facet.{Facet}
use Rattle.simple_types.specs.declared.facets.Facet.TheVariants as facet
use Rattle.simple_types.specs.declared.simples.Simple.{Simple}
use Rattle.simple_types.specs.Space.{Space, Spaces, none}
use Rattle.simple_facets.specs.Restricting.{items_of}
use Rattle.simple_facets.specs.Making.{lent_spaces}
use Rattle.schema_components.specs.declared.declarations.RawContent.{RawContent}
use Rattle.schema_components.specs.declared.declarations.RawContent.TheVariants as content
use Rattle.schema_components.specs.declared.documents.RawDoc.{RawDoc}
use Rattle.schema_components.specs.Documents.{doc_of}
use Rattle.schema_components.specs.Raw as raw
use Rattle.schema_components.specs.Raw.{Base, Named, Inner, Bases, How, Restrict, ListOf, UnionOf, Use, Complex, Kind, NamedKind, SimpleKind, ComplexKind, Element, Local, Reference, Own, Attribute, TypeDefinition, SimpleType, ComplexType, Document}
use Rattle.schema_components.specs.Varieties.{is_enumeration, has_few_enumerations, has_member, base_varied, how_varied, bases_varied, use_varied, uses_varied, kind_varied, local_varied, type_varied, elements_varied, attributes_varied, types_varied, locals_varied, all_varied}
use Rattle.link_names.specs.Parts.{Part, in_base, in_how, in_bases, in_model, in_models, in_mixed, in_content, in_use_type, in_use, in_kind, in_element, in_attribute, in_definition, in_local, in_document, parts}
use Rattle.link_names.specs.declared.parts.TypeRole.{TypeRole}
use Rattle.link_names.specs.declared.parts.TypeRole.TheVariants as role
use Rattle.link_names.specs.Cycles as cycles
use Rattle.link_names.specs.SimpleTypes.{SimpleDefinition, of_part, simple_types}
use Rattle.link_simple.specs.declared.parts.Part as lending
use Rattle.link_simple.specs.Making.{with_space, part_space, part_spaces}
use Rattle.link_simple.specs.Private.Parts.{seen_all}
use Rattle.link_simple.specs.Private.Varied.{AreVaried}

varied_append : (xs ys : List SimpleDefinition) → AreVaried xs → AreVaried ys → AreVaried (xs ++ ys)
varied_append [] ys h g = g
varied_append (x ∷ xs) ys h g = (h.0, varied_append xs ys h.1 g)

abbrev PartsVaried : List Part → Type 0
PartsVaried ps = AreVaried (flat_map of_part ps)

parts_append : (ps qs : List Part) → PartsVaried ps → PartsVaried qs → PartsVaried (ps ++ qs)
parts_append ps qs h g = subst AreVaried (sym (flat_map-append of_part ps qs)) (varied_append (flat_map of_part ps) (flat_map of_part qs) h g)

-- ---- simple types

mutual
  in_base_varied : (file at : ℕ) (r : TypeRole) (b : Base) → base_varied b ≡ true → PartsVaried (in_base file at r b)
  in_base_varied file at r (Named reference) h = tt
  in_base_varied file at r (Inner own body_at how) h = (h, in_how_varied file body_at how h)

  in_how_varied : (file at : ℕ) (how : How) → how_varied how ≡ true → PartsVaried (in_how file at how)
  in_how_varied file at (Restrict base facets) h = in_base_varied file at role.SimpleType base (and_parts (has_few_enumerations facets) (base_varied base) h).1
  in_how_varied file at (ListOf item) h = in_base_varied file at role.SimpleType item h
  in_how_varied file at (UnionOf members) h = in_bases_varied file at members (and_parts (has_member members) (bases_varied members) h).1

  in_bases_varied : (file at : ℕ) (bs : Bases) → bases_varied bs ≡ true → PartsVaried (in_bases file at bs)
  in_bases_varied file at raw.none h = tt
  in_bases_varied file at (raw.more b bs) h =
      let two = and_parts (base_varied b) (bases_varied bs) h in
      parts_append (in_base file at role.SimpleType b) (in_bases file at bs) (in_base_varied file at role.SimpleType b two.0) (in_bases_varied file at bs two.1)

-- ---- complex types

mutual
  model_varied : (file within : ℕ) (t : Rose ParticleLabel) → PartsVaried (in_model file within t)
  model_varied file within (node label kids) = models_varied file label.at kids

  models_varied : (file within : ℕ) (ts : Roses ParticleLabel) → PartsVaried (in_models file within ts)
  models_varied file within rose.none = tt
  models_varied file within (rose.more t ts) = parts_append (in_model file within t) (in_models file within ts) (model_varied file within t) (models_varied file within ts)

mixed_varied : (file within : ℕ) (t : Rose ParticleLabel) → PartsVaried (in_mixed file within t)
mixed_varied file within (node label rose.none) = tt
mixed_varied file within (node label (rose.more t ts)) = model_varied file within (node label (rose.more t ts))

content_varied : (file within : ℕ) (c : RawContent) → PartsVaried (in_content file within c)
content_varied file within content.Empty = tt
content_varied file within (content.Simple base at) = tt
content_varied file within (content.ElementOnly model) = model_varied file within model
content_varied file within (content.Mixed model) = mixed_varied file within model

use_type_varied : (file at : ℕ) (u : Use) (kind : Option Base) → use_varied (record u { kind = kind }) ≡ true → PartsVaried (in_use_type file at kind)
use_type_varied file at u None h = tt
use_type_varied file at u (Some base) h = in_base_varied file at role.Attribute base h

in_uses_varied : (file within : ℕ) (us : List Use) → uses_varied us ≡ true → PartsVaried (flat_map (in_use file within) us)
in_uses_varied file within [] h = tt
in_uses_varied file within (u ∷ us) h =
    let two = and_parts (use_varied u) (uses_varied us) h in
    parts_append (in_use file within u) (flat_map (in_use file within) us) (use_type_varied file u.at u u.kind two.0) (in_uses_varied file within us two.1)

in_complex_varied : (file at : ℕ) (c : Complex) → uses_varied c.uses ≡ true → PartsVaried (in_content file at c.content ++ flat_map (in_use file at) c.uses)
in_complex_varied file at c h = parts_append (in_content file at c.content) (flat_map (in_use file at) c.uses) (content_varied file at c.content) (in_uses_varied file at c.uses h)

-- ---- declarations

in_kind_varied : (file at : ℕ) (k : Kind) → kind_varied k ≡ true → PartsVaried (in_kind file at k)
in_kind_varied file at (NamedKind reference) h = tt
in_kind_varied file at (SimpleKind s) h = (h, in_how_varied file s.body_at s.how h)
in_kind_varied file at (ComplexKind c) h = in_complex_varied file c.at c h

in_definition_varied : (file : ℕ) (t : TypeDefinition) → type_varied t ≡ true → PartsVaried (in_definition file t)
in_definition_varied file (SimpleType name s) h = (h, in_how_varied file s.body_at s.how h)
in_definition_varied file (ComplexType name c) h = in_complex_varied file c.at c h

in_local_varied : (file : ℕ) (l : Local) → local_varied l ≡ true → PartsVaried (in_local file l)
in_local_varied file (Reference name at) h = tt
in_local_varied file (Own e) h = in_kind_varied file e.at e.kind h

in_elements_varied : (file : ℕ) (es : List Element) → elements_varied es ≡ true → PartsVaried (flat_map (in_element file) es)
in_elements_varied file [] h = tt
in_elements_varied file (e ∷ es) h =
    let two = and_parts (kind_varied e.kind) (elements_varied es) h in
    parts_append (in_element file e) (flat_map (in_element file) es) (in_kind_varied file e.at e.kind two.0) (in_elements_varied file es two.1)

in_attributes_varied : (file : ℕ) (others : List Attribute) → attributes_varied others ≡ true → PartsVaried (flat_map (in_attribute file) others)
in_attributes_varied file [] h = tt
in_attributes_varied file (a ∷ others) h =
    let two = and_parts (base_varied a.kind) (attributes_varied others) h in
    parts_append (in_attribute file a) (flat_map (in_attribute file) others) (in_base_varied file a.at role.Attribute a.kind two.0) (in_attributes_varied file others two.1)

in_types_varied : (file : ℕ) (ts : List TypeDefinition) → types_varied ts ≡ true → PartsVaried (flat_map (in_definition file) ts)
in_types_varied file [] h = tt
in_types_varied file (t ∷ ts) h =
    let two = and_parts (type_varied t) (types_varied ts) h in
    parts_append (in_definition file t) (flat_map (in_definition file) ts) (in_definition_varied file t two.0) (in_types_varied file ts two.1)

in_locals_varied : (file : ℕ) (ls : List Local) → locals_varied ls ≡ true → PartsVaried (flat_map (in_local file) ls)
in_locals_varied file [] h = tt
in_locals_varied file (l ∷ ls) h =
    let two = and_parts (local_varied l) (locals_varied ls) h in
    parts_append (in_local file l) (flat_map (in_local file) ls) (in_local_varied file l two.0) (in_locals_varied file ls two.1)

-- ---- documents

in_document_varied : (d : Document) → all_varied d.elements d.attributes d.types d.locals ≡ true → PartsVaried (in_document d)
in_document_varied d h =
    let elements = flat_map (in_element d.file) d.elements in
    let attributes = flat_map (in_attribute d.file) d.attributes in
    let types = flat_map (in_definition d.file) d.types in
    let locals = flat_map (in_local d.file) d.locals in
    let one = and_parts (elements_varied d.elements) (attributes_varied d.attributes && (types_varied d.types && locals_varied d.locals)) h in
    let two = and_parts (attributes_varied d.attributes) (types_varied d.types && locals_varied d.locals) one.1 in
    let three = and_parts (types_varied d.types) (locals_varied d.locals) two.1 in
    parts_append (elements ++ (attributes ++ types)) locals
    (parts_append elements (attributes ++ types) (in_elements_varied d.file d.elements one.0)
    (parts_append attributes types (in_attributes_varied d.file d.attributes two.0) (in_types_varied d.file d.types three.0)))
    (in_locals_varied d.file d.locals three.1)

-- of documents that keep so much
pub documents_varied : (docs : List Document) → ((d : Document) → HasItem docs d → all_varied d.elements d.attributes d.types d.locals ≡ true) → AreVaried (simple_types docs)
documents_varied [] h = tt
documents_varied (d ∷ docs) h = parts_append (in_document d) (parts docs) (in_document_varied d (h d (inl refl))) (documents_varied docs (λ e i. h e (inr i)))

pub are_varied : (docs : List RawDoc) → AreVaried (simple_types (map doc_of docs))
are_varied [] = tt
are_varied (d ∷ docs) = parts_append (in_document (doc_of d)) (parts (map doc_of docs)) (in_document_varied (doc_of d) d.varied) (are_varied docs)

same_definition : (d e : SimpleDefinition) → Some d ≡ Some e → d ≡ e
same_definition d e p = cc

pub varied_at : (ds : List SimpleDefinition) (n : ℕ) (d : SimpleDefinition) → AreVaried ds → slice_get ds n ≡ Some d → how_varied d.how ≡ true
varied_at [] n d all is = absurd cc
varied_at (x ∷ ds) zero d all is = subst (λ e. how_varied e.how ≡ true) (same_definition x d is) all.0
varied_at (x ∷ ds) (suc n) d all is = varied_at ds n d all.1 is

-- ---- facets and members

items_counted : (fs : List Facet) → length (items_of fs) ≡ count_by is_enumeration fs
items_counted [] = refl
items_counted (facet.Length text ∷ fs) = items_counted fs
items_counted (facet.MinLength text ∷ fs) = items_counted fs
items_counted (facet.MaxLength text ∷ fs) = items_counted fs
items_counted (facet.MinInclusive text ∷ fs) = items_counted fs
items_counted (facet.MaxInclusive text ∷ fs) = items_counted fs
items_counted (facet.MinExclusive text ∷ fs) = items_counted fs
items_counted (facet.MaxExclusive text ∷ fs) = items_counted fs
items_counted (facet.Enumeration text ∷ fs) =
    let rest = items_counted fs in
    let more : count_by is_enumeration (facet.Enumeration text ∷ fs) ≡ 1 + count_by is_enumeration fs = sum_by-cons (λ f. cond (is_enumeration f) 1 0) (facet.Enumeration text) fs in
    omega (arith, rest, more)
items_counted (facet.WhiteSpace text ∷ fs) = items_counted fs

pub few_items : (fs : List Facet) → has_few_enumerations fs ≡ true → length (items_of fs) < 2 ^ 32
few_items fs few =
    let counted = items_counted fs in
    let most = leb-true (count_by is_enumeration fs) 10000 few in
    omega (arith, counted, most)

no_space : (o : Option Space) (os : Option Spaces) → Some none ≡ with_space o os → ⊥
no_space None os is = cc
no_space (Some s) None is = cc
no_space (Some s) (Some ss) is = cc

pub some_part : (ns : cycles.SimpleNumbers) (made : List (Option Space)) (file : ℕ) (bs : Bases) → has_member bs ≡ true
    → (ps : List lending.Part) → Some (seen_all ps) ≡ part_spaces ns made file bs → 0 < length ps
some_part ns made file raw.none h ps is = absurd (true≢false (sym h))
some_part ns made file (raw.more b bs) h [] is = absurd (no_space (part_space ns made file b) (part_spaces ns made file bs) is)
some_part ns made file (raw.more b bs) h (p ∷ ps) is = omega arith

pub some_lent : (lent : List (Bor Simple)) (ps : List lending.Part) → lent_spaces lent ≡ seen_all ps → 0 < length ps → 0 < length lent
some_lent lent [] is some = absurd (omega (arith, some))
some_lent [] (p ∷ ps) is some = absurd cc
some_lent (b ∷ lent) (p ∷ ps) is some = omega arith
