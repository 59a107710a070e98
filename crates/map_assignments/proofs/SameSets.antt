-- The map of a set depends on the spaces of its simple types, and not on how these are kept.
use Rattle.std.proofs.Common.{◌≡◌, ℕ, zero, suc, Bool, true, false, not, cond, Option, Some, None, List, [], ◌∷◌, ◌++◌, map, refl, sym, ap, subst, ◌∙◌}
use Rattle.std.specs.Prelude.{if◌then◌else◌, slice_get, nat_lt, take, option_and_then}
use Rattle.std.specs.Option.{option_map}
use Rattle.std.specs.List.{list_any}
use Rattle.base_texts.specs.declared.texts.Name.{Name}
use Rattle.simple_types.specs.Space.{Space, Booleans}
use Rattle.simple_types.specs.Seen.{space_of}
use Rattle.content_models.specs.Particle as model
use Rattle.content_models.specs.Particle.{Particle, occurs, Term, Particles}
use Rattle.content_models.specs.Seen.{seen}
use Rattle.asn_types.specs.declared.modules.Assignment.{Assignment}
use Rattle.schema_components.specs.declared.components.ElementDecl.{ElementDecl}
use Rattle.schema_components.specs.declared.components.TypeOf.{TypeOf}
use Rattle.schema_components.specs.declared.components.TypeOf.TheVariants as kind
use Rattle.schema_components.specs.declared.components.AttributeUse.{AttributeUse}
use Rattle.schema_components.specs.declared.components.SimpleDef.{SimpleDef}
use Rattle.schema_components.specs.declared.components.ComplexDef.{ComplexDef}
use Rattle.schema_components.specs.declared.components.GlobalAttribute.{GlobalAttribute}
use Rattle.schema_components.specs.declared.components.Content.{Content}
use Rattle.schema_components.specs.declared.components.Content.TheVariants as content_
use Rattle.schema_components.specs.Components.{Set}
use Rattle.map_subjects.specs.declared.subjects.Subject.{Subject}
use Rattle.map_subjects.specs.declared.subjects.Subject.TheVariants as subject
use Rattle.map_subjects.specs.declared.subjects.NamedSubject.{NamedSubject}
use Rattle.map_subjects.specs.Subjects.{is_nillable_of, has_nillable, simple_name, complex_name, name_of, AreEntries, place_in}
use Rattle.map_assignments.specs.Plans.{attribute, base, content, TypePlan, simple, sequence, choice, reference, Parts, finish, part}
use Rattle.map_assignments.specs.Planning.{simple_plan, simple_type, attributes, particle_part, is_once, is_mixed, is_ordered, with_texts, with_order, order_type, labels_before, labels, term_type, particle_parts, top_part, top, content_parts, content_type, rest_parts, complex_plan, nillable_simple_type, own_type, particle_type, in_place, body}
use Rattle.map_assignments.specs.Naming.{IsNamed}
use Rattle.map_assignments.specs.Mapped.{AreMapped, IsMapOf}

-- ---- content models, where declarations have the same plans

module _ (T U : ℕ → TypePlan) (same : (d : ℕ) → T d ≡ U d) where
  mutual
    term-same : (t : Term) → term_type T t ≡ term_type U t
    term-same (model.element d name) = same d
    term-same (model.sequence ps) = ap (sequence false false false) (parts-same false ps)
    term-same (model.choice ps) = ap choice (parts-same true ps)
    term-same (model.all ps) = ap (sequence false false false) (parts-same false ps)

    parts-same : (b : Bool) (ps : Particles) → particle_parts T b ps ≡ particle_parts U b ps
    parts-same b model.none = refl
    parts-same b (model.more (occurs t least most) ps) =
        ap (λ p. particle_part b t p least most (particle_parts T b ps)) (term-same t)
        ∙ ap (λ rest. particle_part b t (term_type U t) least most rest) (parts-same b ps)

  top-part-same : (t : Term) (least : ℕ) (most : Option ℕ) → top_part T t least most ≡ top_part U t least most
  top-part-same t least most = ap (λ p. particle_part false t p least most finish) (term-same t)

  top-same : (p : Particle) → top T p ≡ top U p
  top-same (occurs (model.element d name) least most) = top-part-same (model.element d name) least most
  top-same (occurs (model.choice ps) least most) = top-part-same (model.choice ps) least most
  top-same (occurs (model.all ps) least most) = parts-same false ps
  top-same (occurs (model.sequence ps) least most) =
      ap (λ x. if is_once least most then x else top_part T (model.sequence ps) least most) (parts-same false ps)
      ∙ ap (λ x. if is_once least most then particle_parts U false ps else x) (top-part-same (model.sequence ps) least most)

-- two sets that differ at most in how their simple types are stored
pub record AreSame (s t : Set) : Type 0 where
  pub elements : s.elements ≡ t.elements
  pub globals : s.globals ≡ t.globals
  pub complexes : s.complexes ≡ t.complexes
  pub attributes : s.attributes ≡ t.attributes
  pub names : map (λ (d : SimpleDef). d.name) s.simples ≡ map (λ (d : SimpleDef). d.name) t.simples
  pub spaces : map (λ (d : SimpleDef). space_of d.space) s.simples ≡ map (λ (d : SimpleDef). space_of d.space) t.simples

mapped-get : {A B : Type 0} (f : A → B) (xs : List A) (n : ℕ) → slice_get (map f xs) n ≡ option_map f (slice_get xs n)
mapped-get f [] n = refl
mapped-get f (x ∷ xs) zero = refl
mapped-get f (x ∷ xs) (suc n) = mapped-get f xs n

-- what is asked of a simple type
abbrev joined_name : Option (Option Name) → Option Name
joined_name None = None
joined_name (Some o) = o

abbrev planned : ℕ → Option (Option Name) → Option Space → TypePlan
planned n None space = simple Booleans
planned n (Some o) None = simple Booleans
planned n (Some o) (Some space) = elim o [ None ↦ simple space | Some name ↦ reference (subject.Simple n) ]

abbrev spaced : Option Space → TypePlan
spaced None = simple Booleans
spaced (Some space) = simple space

name-is : (o : Option SimpleDef) → option_and_then (λ (d : SimpleDef). d.name) o ≡ joined_name (option_map (λ (d : SimpleDef). d.name) o)
name-is None = refl
name-is (Some d) = refl

plan-is : (n : ℕ) (o : Option SimpleDef) → (elim o [ None ↦ simple Booleans | Some t ↦ simple_plan t n ])
    ≡ planned n (option_map (λ (d : SimpleDef). d.name) o) (option_map (λ (d : SimpleDef). space_of d.space) o)
plan-is n None = refl
plan-is n (Some d) = refl

body-is : (o : Option SimpleDef) → (elim o [ None ↦ simple Booleans | Some t ↦ simple (space_of t.space) ]) ≡ spaced (option_map (λ (d : SimpleDef). space_of d.space) o)
body-is None = refl
body-is (Some d) = refl

-- the plan of a declaration, of a complex type in place, and of a global attribute, by what is found
abbrev to_named : TypePlan → Bool → ℕ → Option Name → TypePlan
to_named inner nillable n o = elim o [ None ↦ inner | Some name ↦ reference (if nillable then subject.Nillable n else subject.Complex n) ]

abbrev of_declaration : Set → (Bool → ℕ → TypePlan) → Option ElementDecl → TypePlan
of_declaration s inner o = elim o [ None ↦ simple Booleans | Some e ↦ own_type s inner e ]

abbrev of_particle : Set → (Bool → ℕ → TypePlan) → ℕ → Bool → Option ElementDecl → TypePlan
of_particle s inner d b o = if b then reference (subject.Element d) else of_declaration s inner o

abbrev of_type : Set → ℕ → Bool → Option ComplexDef → TypePlan
of_type s levels nillable o = elim o [ None ↦ sequence false false false finish | Some c ↦ complex_plan (particle_type s (in_place s levels)) s nillable c ]

abbrev of_attribute : Set → Option GlobalAttribute → TypePlan
of_attribute s o = elim o [ None ↦ simple Booleans | Some a ↦ simple_type s a.simple ]

abbrev of_simple : Set → Bool → ℕ → TypePlan
of_simple s b n = if b then nillable_simple_type s n else simple_type s n

abbrev of_complex : (Bool → ℕ → TypePlan) → Bool → ℕ → Option ComplexDef → TypePlan
of_complex i nillable n o = elim o [ None ↦ sequence false false false finish | Some c ↦ to_named (i nillable n) nillable n c.name ]

abbrev of_kind : Set → (Bool → ℕ → TypePlan) → Bool → TypeOf → TypePlan
of_kind s i nillable k = elim k [ kind.Simple n ↦ of_simple s nillable n | kind.Complex n ↦ of_complex i nillable n (slice_get s.complexes n) ]

module _ (s t : Set) (h : AreSame s t) where
  get-name : (n : ℕ) → option_map (λ (d : SimpleDef). d.name) (slice_get s.simples n) ≡ option_map (λ (d : SimpleDef). d.name) (slice_get t.simples n)
  get-name n =
      sym (mapped-get (λ (d : SimpleDef). d.name) s.simples n) ∙ ap (λ xs. slice_get xs n) h.names ∙ mapped-get (λ (d : SimpleDef). d.name) t.simples n

  get-space : (n : ℕ) → option_map (λ (d : SimpleDef). space_of d.space) (slice_get s.simples n) ≡ option_map (λ (d : SimpleDef). space_of d.space) (slice_get t.simples n)
  get-space n =
      sym (mapped-get (λ (d : SimpleDef). space_of d.space) s.simples n) ∙ ap (λ xs. slice_get xs n) h.spaces
      ∙ mapped-get (λ (d : SimpleDef). space_of d.space) t.simples n

  simple-name-same : (n : ℕ) → simple_name s n ≡ simple_name t n
  simple-name-same n = name-is (slice_get s.simples n) ∙ ap joined_name (get-name n) ∙ sym (name-is (slice_get t.simples n))

  simple-same : (n : ℕ) → simple_type s n ≡ simple_type t n
  simple-same n =
      plan-is n (slice_get s.simples n)
      ∙ ap (λ o. planned n o (option_map (λ (d : SimpleDef). space_of d.space) (slice_get s.simples n))) (get-name n)
      ∙ ap (λ o. planned n (option_map (λ (d : SimpleDef). d.name) (slice_get t.simples n)) o) (get-space n)
      ∙ sym (plan-is n (slice_get t.simples n))

  attributes-same : (us : List AttributeUse) (rest others : Parts) → rest ≡ others → attributes s us rest ≡ attributes t us others
  attributes-same [] rest others e = e
  attributes-same (u ∷ us) rest others e =
      ap (λ p. part (attribute u.name u.standard) (not u.required) p (attributes s us rest)) (simple-same u.simple)
      ∙ ap (λ ps. part (attribute u.name u.standard) (not u.required) (simple_type t u.simple) ps) (attributes-same us rest others e)

  module _ (T U : ℕ → TypePlan) (same : (d : ℕ) → T d ≡ U d) where
    content-parts-same : (c : Content) → content_parts T s c ≡ content_parts U t c
    content-parts-same content_.Empty = refl
    content-parts-same (content_.Simple n) = ap (λ p. part base false p finish) (simple-same n)
    content-parts-same (content_.ElementOnly particle) = top-same T U same (seen particle)
    content-parts-same (content_.Mixed particle) = top-same T U same (seen particle)

    content-type-same : (c : Content) → content_type T s c ≡ content_type U t c
    content-type-same content_.Empty = refl
    content-type-same (content_.Simple n) = simple-same n
    content-type-same (content_.ElementOnly particle) = ap (sequence false false false) (top-same T U same (seen particle))
    content-type-same (content_.Mixed particle) = ap (sequence false false false) (top-same T U same (seen particle))

    rest-same : (nillable : Bool) (c : Content) → rest_parts T s nillable c ≡ rest_parts U t nillable c
    rest-same true c = ap (λ p. part content true p finish) (content-type-same c)
    rest-same false c = content-parts-same c

    complex-same : (nillable : Bool) (c : ComplexDef) → complex_plan T s nillable c ≡ complex_plan U t nillable c
    complex-same nillable c =
        let firsts = if nillable then [] else labels_before (is_mixed c.content) c.uses in
        ap (λ ps. sequence nillable (is_mixed c.content) (is_ordered c.content) (with_texts (is_mixed c.content) (with_order (is_ordered c.content) (order_type firsts (labels (content_parts T s c.content))) ps)))
        (attributes-same c.uses (rest_parts T s nillable c.content) (rest_parts U t nillable c.content) (rest-same nillable c.content))
        ∙ ap (λ qs. sequence nillable (is_mixed c.content) (is_ordered c.content) (with_texts (is_mixed c.content) (with_order (is_ordered c.content) (order_type firsts (labels qs)) (attributes t c.uses (rest_parts U t nillable c.content)))))
        (content-parts-same c.content)

  nillable-simple-same : (n : ℕ) → nillable_simple_type s n ≡ nillable_simple_type t n
  nillable-simple-same n = ap (λ p. sequence true false false (part content true p finish)) (simple-same n)

  module _ (inner other : Bool → ℕ → TypePlan) (same : (b : Bool) (n : ℕ) → inner b n ≡ other b n) where
    name-same : (b : Bool) (n : ℕ) (o : Option Name) → to_named (inner b n) b n o ≡ to_named (other b n) b n o
    name-same b n None = same b n
    name-same b n (Some a) = refl

    of-complex-same : (b : Bool) (n : ℕ) (o : Option ComplexDef) → of_complex inner b n o ≡ of_complex other b n o
    of-complex-same b n None = refl
    of-complex-same b n (Some c) = name-same b n c.name

    of-simple-same : (b : Bool) (n : ℕ) → of_simple s b n ≡ of_simple t b n
    of-simple-same true n = nillable-simple-same n
    of-simple-same false n = simple-same n

    of-kind-same : (b : Bool) (k : TypeOf) → of_kind s inner b k ≡ of_kind t other b k
    of-kind-same b (kind.Simple n) = of-simple-same b n
    of-kind-same b (kind.Complex n) = of-complex-same b n (slice_get s.complexes n) ∙ ap (λ cs. of_complex other b n (slice_get cs n)) h.complexes

    own-same : (e : ElementDecl) → own_type s inner e ≡ own_type t other e
    own-same e = of-kind-same e.nillable e.kind

    declared-same : (o : Option ElementDecl) → of_declaration s inner o ≡ of_declaration t other o
    declared-same None = refl
    declared-same (Some e) = own-same e

    either-same : (b : Bool) (d : ℕ) (o : Option ElementDecl) → of_particle s inner d b o ≡ of_particle t other d b o
    either-same true d o = refl
    either-same false d o = declared-same o

    particle-same : (d : ℕ) → particle_type s inner d ≡ particle_type t other d
    particle-same d =
        either-same (nat_lt d s.globals) d (slice_get s.elements d)
        ∙ ap (λ g. of_particle t other d (nat_lt d g) (slice_get s.elements d)) h.globals
        ∙ ap (λ es. of_particle t other d (nat_lt d t.globals) (slice_get es d)) h.elements

  of-type-same : (levels : ℕ) → ((b : Bool) (m : ℕ) → in_place s levels b m ≡ in_place t levels b m) → (nillable : Bool) (o : Option ComplexDef) → of_type s levels nillable o ≡ of_type t levels nillable o
  of-type-same levels inner nillable None = refl
  of-type-same levels inner nillable (Some c) =
      complex-same (particle_type s (in_place s levels)) (particle_type t (in_place t levels)) (λ d. particle-same (in_place s levels) (in_place t levels) inner d) nillable c

  in-place-same : (levels : ℕ) (nillable : Bool) (n : ℕ) → in_place s levels nillable n ≡ in_place t levels nillable n
  in-place-same zero nillable n = refl
  in-place-same (suc levels) nillable n =
      of-type-same levels (λ b m. in-place-same levels b m) nillable (slice_get s.complexes n) ∙ ap (λ cs. of_type t levels nillable (slice_get cs n)) h.complexes

  attribute-body-same : (o : Option GlobalAttribute) → of_attribute s o ≡ of_attribute t o
  attribute-body-same None = refl
  attribute-body-same (Some a) = simple-same a.simple

  pub body-same : (w : Subject) → body s w ≡ body t w
  body-same (subject.Element d) =
      declared-same (in_place s 21) (in_place t 21) (λ b n. in-place-same 21 b n) (slice_get s.elements d)
      ∙ ap (λ es. of_declaration t (in_place t 21) (slice_get es d)) h.elements
  body-same (subject.Attribute n) = attribute-body-same (slice_get s.attributes n) ∙ ap (λ gs. of_attribute t (slice_get gs n)) h.attributes
  body-same (subject.Simple n) = body-is (slice_get s.simples n) ∙ ap spaced (get-space n) ∙ sym (body-is (slice_get t.simples n))
  body-same (subject.Complex n) = in-place-same 21 false n
  body-same (subject.Nillable n) = in-place-same 21 true n

  pub name-of-same : (w : Subject) → name_of s w ≡ name_of t w
  name-of-same (subject.Element d) =
      ap (λ g. option_map (λ (e : ElementDecl). e.name) (slice_get (take g s.elements) d)) h.globals
      ∙ ap (λ es. option_map (λ (e : ElementDecl). e.name) (slice_get (take t.globals es) d)) h.elements
  name-of-same (subject.Attribute n) = ap (λ gs. option_map (λ (a : GlobalAttribute). a.name) (slice_get gs n)) h.attributes
  name-of-same (subject.Simple n) = simple-name-same n
  name-of-same (subject.Complex n) = ap (λ cs. option_and_then (λ (c : ComplexDef). c.name) (slice_get cs n)) h.complexes
  name-of-same (subject.Nillable n) =
      ap (λ es. cond (list_any (is_nillable_of n) es) (complex_name s n) None) h.elements
      ∙ ap (λ cs. cond (has_nillable t n) (option_and_then (λ (c : ComplexDef). c.name) (slice_get cs n)) None) h.complexes

  entries-same : (es : List NamedSubject) → AreEntries s es → AreEntries t es
  entries-same es k = record {
    ascending = k.ascending;
    whole = λ w name. (
      λ has. sym (name-of-same w) ∙ (k.whole w name).0 has,
      λ named. (k.whole w name).1 (name-of-same w ∙ named),
    );
  }

  mapped-same : (place : Subject → ℕ) (before : List (List ℕ)) (es : List NamedSubject) (M : List Assignment) → AreMapped place s before es M → AreMapped place t before es M
  mapped-same place before [] [] k = k
  mapped-same place before [] (a ∷ M) k = k
  mapped-same place before (e ∷ es) [] k = k
  mapped-same place before (e ∷ es) (a ∷ M) k = (
    record { reference = k.0.reference; marks = k.0.marks; body = subst (λ p. IsNamed place p a.body) (body-same e.subject) k.0.body },
    mapped-same place (before ++ a.reference ∷ []) es M k.1,
  )

  -- what is the map of the one is the map of the other
  pub map-same : (M : List Assignment) → IsMapOf s M → IsMapOf t M
  map-same M k = record {
    entries = k.entries;
    are_entries = entries-same k.entries k.are_entries;
    assignments = mapped-same (place_in k.entries) [] k.entries M k.assignments;
  }
