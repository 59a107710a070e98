-- What documents that are read keep without being told: attribute uses with just one type, and bounds of 32 bits.
use Rattle.std.proofs.Common.{◌≡◌, ℕ, ◌+◌, ◌<◌, ◌^◌, Bool, true, false, cond, List, [], ◌∷◌, ◌++◌, length, Option, Some, None, refl, arith}
use Rattle.std.specs.Prelude.{◌&&◌, not, nat_lt, bytes_eq, codes, if◌then◌else◌}
use Rattle.std.specs.Option.{unwrap_or, option_or}
use Rattle.std.proofs.lemmas.Bool.{ltb-true}
use Rattle.base_texts.specs.Digits.{is_numeral, number_of}
use Rattle.base_texts.specs.Entries.{beside}
use Rattle.base_texts.specs.declared.texts.Name.{Name}
use Rattle.base_trees.specs.Rose.{Rose, node, Roses, roses_of, list_of, label_of, kids_of}
use Rattle.base_trees.specs.Rose as rose
use Rattle.xml_items.specs.declared.label.ItemLabel.{ItemLabel}
use Rattle.xml_items.specs.declared.label.ItemLabel.TheVariants.{Element, Text}
use Rattle.content_models.specs.declared.particles.ParticleLabel.{ParticleLabel}
use Rattle.asn_types.specs.Bounds.{IsSize}
use Rattle.schema_components.specs.declared.declarations.RawContent.{RawContent}
use Rattle.schema_components.specs.declared.declarations.RawContent.TheVariants as content
use Rattle.schema_components.specs.Raw as raw
use Rattle.schema_components.specs.Raw.{Use, Simple, Complex, Kind, NamedKind, SimpleKind, ComplexKind, Local, Reference, Own, Attribute, TypeDefinition, SimpleType, ComplexType, Document}
use Rattle.schema_components.specs.TypedUses.{IsTypedUse, AreTypedUses}
use Rattle.schema_syntax.specs.Attributes.{own_attributes}
use Rattle.schema_syntax.specs.Children.{is_in}
use Rattle.schema_syntax.specs.Digits.{small}
use Rattle.schema_syntax.specs.Elements.{is_schema_name}
use Rattle.schema_syntax.specs.Values.{digits_of, occurrences, least_of, most_of}
use Rattle.schema_syntax.specs.declared.children.ChildSet.TheVariants.{Attributes}
use Rattle.schema_faults.specs.Reasons.{is_true, occurs}
use Rattle.schema_read.specs.Names.{type_ref, referred, declared_name}
use Rattle.schema_read.specs.Attributes.{has_use, local_name, use_to, own_use, use_by, use_at, and_use, uses_among, global_attribute}
use Rattle.schema_read.specs.SimpleTypes.{simple_type, declared_type}
use Rattle.schema_read.specs.Settings.{Settings, settings_of}
use Rattle.schema_read.specs.Contents.{is_named, extended, extended_among, simple_content_at, simple_content, is_nothing, content_of_nothing, content_of, model_of, complex_by, complex_with, empty_place, extension_base}
use Rattle.schema_read.specs.Particles.{Made, made, made_some, element_name, kind_by, element_by, declared, declared_with, reference_to, leaf_of, group_of, particle_by, and_some, first_kind, first_group, complex_of, particle_at, particles_among, group_among, inner_kind, complex_type}
use Rattle.schema_read.specs.Raw.{Parts, no_parts, and_parts, element_parts, attribute_parts, simple_type_parts, complex_type_parts, global_element, parts_named, parts_by, parts_among, raw_of}
use Rattle.map_laws.specs.Widths.{IsWideModel, AreWideModels}

-- ---- bounds

small_wide : (n : ℕ) → IsSize (small n)
small_wide n = by (nat_lt n 4294967296) refl
  where
    by : (b : Bool) → nat_lt n 4294967296 ≡ b → IsSize (if b then Some n else None)
    by true less = let lt = ltb-true n 4294967296 less in omega (arith, lt)
    by false less = tt

occurrences_wide : (text : List ℕ) → IsSize (occurrences text)
occurrences_wide text = by (is_numeral text)
  where
    by : (b : Bool) → IsSize (if b then small (number_of text) else None)
    by true = small_wide (number_of text)
    by false = tt

or_one_wide : (o : Option ℕ) → IsSize o → unwrap_or o 1 < 2 ^ 32
or_one_wide None h = omega arith
or_one_wide (Some n) h = h

least_wide : (own : List (List ℕ × List ℕ)) → least_of own < 2 ^ 32
least_wide own = or_one_wide (occurrences (digits_of (codes "minOccurs") own)) (occurrences_wide (digits_of (codes "minOccurs") own))

most_wide : (own : List (List ℕ × List ℕ)) → IsSize (most_of own)
most_wide own = occurrences_wide (digits_of (codes "maxOccurs") own)

-- ---- what is said of each part

abbrev pub ContentWide : RawContent → Type 0
ContentWide content.Empty = Unit {0}
ContentWide (content.Simple base at) = Unit {0}
ContentWide (content.ElementOnly model) = IsWideModel model
ContentWide (content.Mixed model) = IsWideModel model

abbrev pub BodyGood : Complex → Type 0
BodyGood body = AreTypedUses body.uses × ContentWide body.content

abbrev pub KindGood : Kind → Type 0
KindGood (NamedKind reference) = Unit {0}
KindGood (SimpleKind body) = Unit {0}
KindGood (ComplexKind body) = BodyGood body

abbrev pub LocalGood : Local → Type 0
LocalGood (Reference name at) = Unit {0}
LocalGood (Own element) = KindGood element.kind

abbrev pub TypeGood : TypeDefinition → Type 0
TypeGood (SimpleType name body) = Unit {0}
TypeGood (ComplexType name body) = BodyGood body

abbrev pub ElementsGood : List raw.Element → Type 0
ElementsGood [] = Unit {0}
ElementsGood (e ∷ es) = KindGood e.kind × ElementsGood es

abbrev pub TypesGood : List TypeDefinition → Type 0
TypesGood [] = Unit {0}
TypesGood (t ∷ ts) = TypeGood t × TypesGood ts

abbrev pub LocalsGood : List Local → Type 0
LocalsGood [] = Unit {0}
LocalsGood (l ∷ ls) = LocalGood l × LocalsGood ls

-- each complex type of the document
pub record IsGoodDocument (d : Document) : Type 0 where
  pub elements : ElementsGood d.elements
  pub types : TypesGood d.types
  pub locals : LocalsGood d.locals

locals_append : (ls ms : List Local) → LocalsGood ls → LocalsGood ms → LocalsGood (ls ++ ms)
locals_append [] ms h g = g
locals_append (l ∷ ls) ms h g = (h.0, locals_append ls ms h.1 g)

abbrev FoundGood : Option Complex → Type 0
FoundGood None = Unit {0}
FoundGood (Some body) = BodyGood body

abbrev IfWide : Option (Rose ParticleLabel) → Type 0
IfWide None = Unit {0}
IfWide (Some t) = IsWideModel t

abbrev KindsGood : Made Kind → Type 0
KindsGood m = KindGood m.value × LocalsGood m.locals

abbrev ParticleGood : Made (Rose ParticleLabel) → Type 0
ParticleGood m = IsWideModel m.value × LocalsGood m.locals

abbrev GroupGood : Made (Option (Rose ParticleLabel)) → Type 0
GroupGood m = IfWide m.value × LocalsGood m.locals

abbrev ParticlesGood : Made (List (Rose ParticleLabel)) → Type 0
ParticlesGood m = AreWideModels (roses_of m.value) × LocalsGood m.locals

abbrev BodiesGood : Made Complex → Type 0
BodiesGood m = BodyGood m.value × LocalsGood m.locals

abbrev ComplexGood : Made (Option Complex) → Type 0
ComplexGood m = FoundGood m.value × LocalsGood m.locals

-- whichever of two
either_way : {A : Type 0} (P : A → Type 0) (b : Bool) (x y : A) → P x → P y → P (cond b x y)
either_way P true x y h g = h
either_way P false x y h g = g

-- ---- attribute uses and simple content

abbrev IfTyped : Option Use → Type 0
IfTyped None = Unit {0}
IfTyped (Some u) = IsTypedUse u

and_typed : (o : Option Use) (us : List Use) → IfTyped o → AreTypedUses us → AreTypedUses (and_use o us)
and_typed None us h g = g
and_typed (Some u) us h g = (h, g)

module _ (target : List ℕ) (default : Bool) where
  use_typed : (at : ℕ) (scope own : List (List ℕ × List ℕ)) (kids : List (Rose ItemLabel)) → IsTypedUse (use_by target default at scope own kids)
  use_typed at scope own kids = by (beside (codes "ref") own)
    where
      by : (o : Option (List ℕ)) → IsTypedUse (elim o [ None ↦ own_use (local_name target default own) (declared_type scope own (roses_of kids)) own at | Some text ↦ use_to (referred scope text) own at ])
      by None = refl
      by (Some text) = refl

  at_typed : (outer : List (List ℕ × List ℕ)) (l : ItemLabel) (kids : List (Rose ItemLabel)) → IfTyped (use_at target default outer l kids)
  at_typed outer (Text text at) kids = tt
  at_typed outer (Element name attributes declares at) kids =
      either_way (λ o. IfTyped o) (is_in Attributes (Element name attributes declares at) && not (has_use (codes "prohibited") (own_attributes attributes)))
      (Some (use_by target default at (declares ++ outer) (own_attributes attributes) kids)) None (use_typed at (declares ++ outer) (own_attributes attributes) kids) tt

  among_typed : (scope : List (List ℕ × List ℕ)) (kids : List (Rose ItemLabel)) → AreTypedUses (uses_among target default scope kids)
  among_typed scope [] = tt
  among_typed scope (t ∷ ts) = and_typed (use_at target default scope (label_of t) (kids_of t)) (uses_among target default scope ts) (at_typed scope (label_of t) (kids_of t)) (among_typed scope ts)

abbrev FoundTyped : Option (RawContent × List Use) → Type 0
FoundTyped None = Unit {0}
FoundTyped (Some found) = ContentWide found.0 × AreTypedUses found.1

or_typed : (a b : Option (RawContent × List Use)) → FoundTyped a → FoundTyped b → FoundTyped (option_or a b)
or_typed None b h g = g
or_typed (Some found) b h g = h

module _ (said : Settings) where
  extended_typed : (outer : List (List ℕ × List ℕ)) (l : ItemLabel) (kids : List (Rose ItemLabel)) → FoundTyped (extended said outer l kids)
  extended_typed outer (Text text at) kids = tt
  extended_typed outer (Element name attributes declares at) kids =
      either_way (λ o. FoundTyped o) (is_named (codes "extension") (Element name attributes declares at))
      (Some (content.Simple (extension_base (declares ++ outer) (own_attributes attributes)) at, uses_among said.target said.attributes_qualified (declares ++ outer) kids)) None
      (tt, among_typed said.target said.attributes_qualified (declares ++ outer) kids) tt

  extended_among_typed : (scope : List (List ℕ × List ℕ)) (kids : List (Rose ItemLabel)) → FoundTyped (extended_among said scope kids)
  extended_among_typed scope [] = tt
  extended_among_typed scope (t ∷ ts) =
      or_typed (extended said scope (label_of t) (kids_of t)) (extended_among said scope ts) (extended_typed scope (label_of t) (kids_of t)) (extended_among_typed scope ts)

  simple_at_typed : (outer : List (List ℕ × List ℕ)) (l : ItemLabel) (kids : List (Rose ItemLabel)) → FoundTyped (simple_content_at said outer l kids)
  simple_at_typed outer (Text text at) kids = tt
  simple_at_typed outer (Element name attributes declares at) kids =
      either_way (λ o. FoundTyped o) (is_named (codes "simpleContent") (Element name attributes declares at))
      (extended_among said (declares ++ outer) kids) None (extended_among_typed (declares ++ outer) kids) tt

  simple_typed : (scope : List (List ℕ × List ℕ)) (kids : List (Rose ItemLabel)) → FoundTyped (simple_content said scope kids)
  simple_typed scope [] = tt
  simple_typed scope (t ∷ ts) =
      or_typed (simple_content_at said scope (label_of t) (kids_of t)) (simple_content said scope ts) (simple_at_typed scope (label_of t) (kids_of t)) (simple_typed scope ts)

  -- ---- one part by the parts in it

  type_good : (scope : List (List ℕ × List ℕ)) (inner : Made Kind) (o : Option (List ℕ)) → KindsGood inner
      → KindsGood (elim o [ None ↦ inner | Some value ↦ made (NamedKind (type_ref scope value)) [] ])
  type_good scope inner None h = h
  type_good scope inner (Some value) h = (tt, tt)

  kind_by_good : (scope own : List (List ℕ × List ℕ)) (inner : Made Kind) → KindsGood inner → KindsGood (kind_by scope own inner)
  kind_by_good scope own inner h = type_good scope inner (beside (codes "type") own) h

  leaf_good : (at : ℕ) (scope own : List (List ℕ × List ℕ)) (inner : Made Kind) (o : Option (List ℕ)) → KindsGood inner
      → LocalsGood (elim o [ None ↦ declared_with (element_by (local_name said.target said.elements_qualified own) own at (kind_by scope own inner)) | Some text ↦ reference_to (referred scope text) at ])
  leaf_good at scope own inner None h = kind_by_good scope own inner h
  leaf_good at scope own inner (Some text) h = (tt, tt)

  particle_by_good : (n : ℕ) (name : List ℕ) (at : ℕ) (scope own : List (List ℕ × List ℕ)) (inner : Made Kind) (particles : Made (List (Rose ParticleLabel)))
      → KindsGood inner → ParticlesGood particles → ParticleGood (particle_by said n name at scope own inner particles)
  particle_by_good n name at scope own inner particles h g =
      either_way (λ m. ParticleGood m) (bytes_eq name (codes "element"))
      (made (leaf_of said.file at n (element_name said scope own) own) (declared said at scope own inner))
      (made (group_of said.file at name own particles.value) particles.locals)
      (((least_wide own, most_wide own), tt), leaf_good at scope own inner (beside (codes "ref") own) h)
      (((least_wide own, most_wide own), g.0), g.1)

  and_some_good : (v : Option (Rose ParticleLabel)) (ls : List Local) (rest : Made (List (Rose ParticleLabel)))
      → GroupGood (made v ls) → ParticlesGood rest → ParticlesGood (made (and_some v rest.value) (ls ++ rest.locals))
  and_some_good None ls rest h g = (g.0, locals_append ls rest.locals h.1 g.1)
  and_some_good (Some t) ls rest h g = ((h.0, g.0), locals_append ls rest.locals h.1 g.1)

  first_group_good : (v : Option (Rose ParticleLabel)) (ls : List Local) (rest : Made (Option (Rose ParticleLabel)))
      → GroupGood (made v ls) → GroupGood rest → GroupGood (first_group (made v ls) rest)
  first_group_good None ls rest h g = (g.0, locals_append ls rest.locals h.1 g.1)
  first_group_good (Some t) ls rest h g = h

  first_kind_good : (s : Option Simple) (v : Option Complex) (ls : List Local) (rest : Made Kind) → ComplexGood (made v ls) → KindsGood rest → KindsGood (first_kind s (made v ls) rest)
  first_kind_good (Some body) v ls rest h g = (tt, tt)
  first_kind_good None None ls rest h g = (g.0, locals_append ls rest.locals h.1 g.1)
  first_kind_good None (Some body) ls rest h g = h

  nothing_good : (mixed : Bool) (at : ℕ) → ContentWide (content_of_nothing said.file mixed at)
  nothing_good true at = ((omega arith, omega arith), tt)
  nothing_good false at = tt

  model_good : (mixed : Bool) (group : Rose ParticleLabel) → IsWideModel group → ContentWide (model_of mixed group)
  model_good true group h = h
  model_good false group h = h

  content_of_good : (mixed : Bool) (at : ℕ) (group : Option (Rose ParticleLabel)) → IfWide group → ContentWide (content_of said.file mixed at group)
  content_of_good mixed at None h = nothing_good mixed at
  content_of_good mixed at (Some group) h =
      either_way (λ c. ContentWide c) (is_nothing group) (content_of_nothing said.file mixed at) (model_of mixed group) (nothing_good mixed at) (model_good mixed group h)

  body_good : (at : ℕ) (mixed : Bool) (scope : List (List ℕ × List ℕ)) (kids : List (Rose ItemLabel)) (group : Made (Option (Rose ParticleLabel))) (o : Option (RawContent × List Use))
      → FoundTyped o → GroupGood group → BodiesGood (elim o [ None ↦ made (complex_by said at mixed scope kids group.value) group.locals | Some found ↦ made (complex_with at found) [] ])
  body_good at mixed scope kids group None f h = ((among_typed said.target said.attributes_qualified scope kids, content_of_good mixed (empty_place at kids) group.value h.0), h.1)
  body_good at mixed scope kids group (Some found) f h = ((f.1, f.0), tt)

  -- ---- all parts

  mutual
    at_good : (outer : List (List ℕ × List ℕ)) (n : ℕ) (t : Rose ItemLabel) → GroupGood (particle_at said outer n t)
    at_good outer n (node (Text text at) kids) = (tt, tt)
    at_good outer n (node (Element name attributes declares at) kids) =
        let scope = declares ++ outer in
        let own = own_attributes attributes in
        let inner : Made Kind = inner_kind said scope (n + 1) kids in
        let particles : Made (List (Rose ParticleLabel)) = particles_among said scope n kids in
        either_way (λ m. GroupGood m) (occurs (Element name attributes declares at)) (made_some (particle_by said n name.local at scope own inner particles)) (made None [])
        (particle_by_good n name.local at scope own inner particles (kind_good scope (n + 1) kids) (among_good scope n kids)) (tt, tt)

    among_good : (scope : List (List ℕ × List ℕ)) (n : ℕ) (ts : Roses ItemLabel) → ParticlesGood (particles_among said scope n ts)
    among_good scope n rose.none = (tt, tt)
    among_good scope n (rose.more t ts) =
        let first : Made (Option (Rose ParticleLabel)) = particle_at said scope n t in
        and_some_good first.value first.locals (particles_among said scope (n + length first.locals) ts) (at_good scope n t) (among_good scope (n + length first.locals) ts)

    group_good : (scope : List (List ℕ × List ℕ)) (n : ℕ) (ts : Roses ItemLabel) → GroupGood (group_among said scope n ts)
    group_good scope n rose.none = (tt, tt)
    group_good scope n (rose.more t ts) =
        let first : Made (Option (Rose ParticleLabel)) = particle_at said scope n t in
        first_group_good first.value first.locals (group_among said scope (n + length first.locals) ts) (at_good scope n t) (group_good scope (n + length first.locals) ts)

    kind_good : (scope : List (List ℕ × List ℕ)) (n : ℕ) (ts : Roses ItemLabel) → KindsGood (inner_kind said scope n ts)
    kind_good scope n rose.none = (tt, tt)
    kind_good scope n (rose.more t ts) =
        let first : Made (Option Complex) = complex_type said scope n t in
        first_kind_good (simple_type scope t) first.value first.locals (inner_kind said scope (n + length first.locals) ts) (complex_good scope n t) (kind_good scope (n + length first.locals) ts)

    complex_good : (outer : List (List ℕ × List ℕ)) (n : ℕ) (t : Rose ItemLabel) → ComplexGood (complex_type said outer n t)
    complex_good outer n (node (Text text at) kids) = (tt, tt)
    complex_good outer n (node (Element name attributes declares at) kids) =
        let scope = declares ++ outer in
        let mixed = is_true (codes "mixed") (own_attributes attributes) in
        let group : Made (Option (Rose ParticleLabel)) = group_among said scope n kids in
        either_way (λ m. ComplexGood m) (is_named (codes "complexType") (Element name attributes declares at)) (made_some (complex_of said at mixed scope (list_of kids) group)) (made None [])
        (body_good at mixed scope (list_of kids) group (simple_content said scope (list_of kids)) (simple_typed scope (list_of kids)) (group_good scope n kids)) (tt, tt)

-- ---- a whole document

elements_append : (xs ys : List raw.Element) → ElementsGood xs → ElementsGood ys → ElementsGood (xs ++ ys)
elements_append [] ys h g = g
elements_append (x ∷ xs) ys h g = (h.0, elements_append xs ys h.1 g)

types_append : (xs ys : List TypeDefinition) → TypesGood xs → TypesGood ys → TypesGood (xs ++ ys)
types_append [] ys h g = g
types_append (x ∷ xs) ys h g = (h.0, types_append xs ys h.1 g)

record AllGood (p : Parts) : Type 0 where
  elements : ElementsGood p.elements
  types : TypesGood p.types
  locals : LocalsGood p.locals

nothing_parts : AllGood no_parts
nothing_parts = record { elements = tt; types = tt; locals = tt }

both_good : (p q : Parts) → AllGood p → AllGood q → AllGood (and_parts p q)
both_good p q h g = record {
  elements = elements_append p.elements q.elements h.elements g.elements;
  types = types_append p.types q.types h.types g.types;
  locals = locals_append p.locals q.locals h.locals g.locals;
}

attribute_good : (found : Option Attribute) → AllGood (attribute_parts found)
attribute_good None = nothing_parts
attribute_good (Some a) = record { elements = tt; types = tt; locals = tt }

simple_good : (name : Name) (found : Option Simple) → AllGood (simple_type_parts name found)
simple_good name None = nothing_parts
simple_good name (Some body) = record { elements = tt; types = (tt, tt); locals = tt }

complex_parts_good : (name : Name) (v : Option Complex) (ls : List Local) → ComplexGood (made v ls) → AllGood (complex_type_parts name (record { value = v; locals = ls }))
complex_parts_good name None ls h = record { elements = tt; types = tt; locals = h.1 }
complex_parts_good name (Some body) ls h = record { elements = tt; types = (h.0, tt); locals = h.1 }

module _ (said : Settings) (outer : List (List ℕ × List ℕ)) where
  named_good : (n : ℕ) (name : List ℕ) (own scope : List (List ℕ × List ℕ)) (at : ℕ) (t : Rose ItemLabel) → AllGood (parts_named said outer n name own scope at t)
  named_good n name own scope at t =
      let e : Parts = element_parts (global_element said n at scope own (kids_of t)) in
      let a : Parts = attribute_parts (global_attribute said.target outer (label_of t) (kids_of t)) in
      let s : Parts = simple_type_parts (declared_name said.target own) (simple_type outer t) in
      let c : Parts = complex_type_parts (declared_name said.target own) (complex_type said outer n t) in
      let d : Parts = cond (bytes_eq name (codes "complexType")) c no_parts in
      let b : Parts = cond (bytes_eq name (codes "simpleType")) s d in
      let k = kind_by_good said scope own (inner_kind said scope n (roses_of (kids_of t))) (kind_good said scope n (roses_of (kids_of t))) in
      either_way (λ p. AllGood p) (bytes_eq name (codes "element")) e (cond (bytes_eq name (codes "attribute")) a b)
      (record { elements = (k.0, tt); types = tt; locals = k.1 })
      (either_way (λ p. AllGood p) (bytes_eq name (codes "attribute")) a b (attribute_good (global_attribute said.target outer (label_of t) (kids_of t)))
      (either_way (λ p. AllGood p) (bytes_eq name (codes "simpleType")) s d (simple_good (declared_name said.target own) (simple_type outer t))
      (either_way (λ p. AllGood p) (bytes_eq name (codes "complexType")) c no_parts
      (complex_parts_good (declared_name said.target own) (complex_type said outer n t).value (complex_type said outer n t).locals (complex_good said outer n t)) nothing_parts)))

  by_good : (n : ℕ) (l : ItemLabel) (t : Rose ItemLabel) → AllGood (parts_by said outer n l t)
  by_good n (Text text at) t = nothing_parts
  by_good n (Element name attributes declares at) t =
      either_way (λ p. AllGood p) (is_schema_name name) (parts_named said outer n name.local (own_attributes attributes) (declares ++ outer) at t) no_parts
      (named_good n name.local (own_attributes attributes) (declares ++ outer) at t) nothing_parts

  parts_good : (n : ℕ) (ts : List (Rose ItemLabel)) → AllGood (parts_among said outer n ts)
  parts_good n [] = nothing_parts
  parts_good n (t ∷ ts) =
      let p : Parts = parts_by said outer n (label_of t) t in
      both_good p (parts_among said outer (n + length p.locals) ts) (by_good n (label_of t) t) (parts_good (n + length p.locals) ts)

pub document_good : (file : ℕ) (root : Rose ItemLabel) → IsGoodDocument (raw_of file root)
document_good file (node (Text text at) kids) = record { elements = tt; types = tt; locals = tt }
document_good file (node (Element name attributes declares at) kids) =
    let own = own_attributes attributes in
    let h = parts_good (settings_of file own) _ 0 (list_of kids) in
    record { elements = h.elements; types = h.types; locals = h.locals }
