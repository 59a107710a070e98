-- In a map just the items of lists and the texts between child elements have no identifier.
use Rattle.std.proofs.Common.{◌≡◌, ℕ, zero, suc, ◌+◌, ◌-◌, Bool, true, false, ◌&&◌, not, Option, Some, None, List, [], ◌∷◌, ◌++◌, refl, sym, subst, ◌∙◌}
use Rattle.std.specs.Prelude.{slice_get, nat_lt, codes, if◌then◌else◌}
use Rattle.std.specs.Str.{chars}
use Rattle.std.specs.Char.{is_ascii_digit}
use Rattle.base_texts.specs.declared.texts.Name.{Name}
use Rattle.base_trees.specs.Rose.{Rose, Roses}
use Rattle.simple_types.specs.Space.{Space, Spaces, none, more, Booleans, Wholes, Numbers, Words, Characters, ListOf, UnionOf}
use Rattle.simple_types.specs.Seen.{space_of}
use Rattle.content_models.specs.Particle as model
use Rattle.content_models.specs.Particle.{Particle, occurs, Term, Particles}
use Rattle.content_models.specs.Seen.{seen}
use Rattle.base_texts.specs.Limits.{is_empty}
use Rattle.asn_types.specs.declared.types.Component.{Component}
use Rattle.asn_types.specs.declared.types.TypeLabel.{TypeLabel}
use Rattle.asn_types.specs.Modules.{AreItemsNamed, AllItemsNamed, one_if}
use Rattle.schema_components.specs.declared.components.ElementDecl.{ElementDecl}
use Rattle.schema_components.specs.declared.components.TypeOf.{TypeOf}
use Rattle.schema_components.specs.declared.components.TypeOf.TheVariants as kind
use Rattle.schema_components.specs.declared.components.AttributeUse.{AttributeUse}
use Rattle.schema_components.specs.declared.components.SimpleDef.{SimpleDef}
use Rattle.schema_components.specs.declared.components.ComplexDef.{ComplexDef}
use Rattle.schema_components.specs.declared.components.GlobalAttribute.{GlobalAttribute}
use Rattle.schema_components.specs.declared.components.Content.{Content}
use Rattle.schema_components.specs.declared.components.Content.TheVariants as content_
use Rattle.schema_components.specs.Components.{Set}
use Rattle.asn_names.specs.declared.conversion.NameKind.{NameKind}
use Rattle.asn_names.specs.declared.conversion.NameKind.TheVariants.{Identifier}
use Rattle.asn_names.specs.Conversion.{letter_x, cased, begun, joined, converted}
use Rattle.map_subjects.specs.declared.subjects.Subject.{Subject}
use Rattle.map_subjects.specs.declared.subjects.Subject.TheVariants as subject
use Rattle.map_assignments.specs.Plans.{a_sequence, a_choice, Label, attribute, element, group, elements, groups, texts, order, item, base, content, TypePlan, simple, sequence, choice, repeated, order_items, reference, Parts, finish, part}
use Rattle.map_assignments.specs.Planning.{label_of, list_label_of, is_once, is_optional, simple_plan, simple_type, attributes, is_mixed, is_ordered, labels, labels_before, order_type, with_order, with_texts, term_type, particle_parts, top_part, top, content_parts, content_type, rest_parts, complex_plan, nillable_simple_type, own_type, particle_type, in_place, body}
use Rattle.map_assignments.specs.Naming.{identifier_of, wanted, IsSimpleType, AreMembers, IsNamed, AreNamed}
use Rattle.map_assignments.proofs.Marked.{sequence-nameless}

-- ---- labels

abbrev is_item_label : Label → Bool
is_item_label item = true
is_item_label _ = false

begun-some : (k : NameKind) (cs : List ℕ) → is_empty (begun k cs) ≡ false
begun-some k [] = refl
begun-some k (c ∷ cs) = by (is_ascii_digit c)
  where
    by : (b : Bool) → is_empty (if b then letter_x k ∷ c ∷ cs else cased k c ∷ cs) ≡ false
    by true = refl
    by false = refl

identifier-some : (text : List ℕ) → is_empty (identifier_of text) ≡ false
unfolding converted
identifier-some text = begun-some Identifier (joined (chars text))

longer-some : (a b : List ℕ) → is_empty a ≡ false → is_empty (a ++ b) ≡ false
longer-some [] b e = absurd cc
longer-some (x ∷ xs) b e = refl

label-nameless : (l : Label) → is_empty (wanted l) ≡ is_item_label l
label-nameless (attribute name standard) = identifier-some name.local
label-nameless (element name) = identifier-some name.local
label-nameless (group a_sequence) = refl
label-nameless (group a_choice) = refl
label-nameless (elements name) = longer-some (identifier_of name.local) (codes "-list") (identifier-some name.local)
label-nameless (groups a_sequence) = refl
label-nameless (groups a_choice) = refl
label-nameless texts = refl
label-nameless order = refl
label-nameless item = refl
label-nameless base = refl
label-nameless content = refl

-- ---- plans in which just the texts and the order of the first parts are items

abbrev mutual
  -- of a plan, which is that of such texts or not
  ItemsIn : Bool → TypePlan → Type 0
  ItemsIn embedded (simple sp) = embedded ≡ false
  ItemsIn embedded (sequence nillable mixed ordered ps) = ItemsInAll (one_if mixed + one_if ordered) ps
  ItemsIn embedded (choice ps) = ItemsInAll 0 ps
  ItemsIn embedded (repeated l p least most) = (is_item_label l ≡ embedded) × ItemsIn false p
  ItemsIn embedded (order_items firsts ls) = Unit {0}
  ItemsIn embedded (reference w) = Unit {0}

  -- so many of the first parts are such
  ItemsInAll : ℕ → Parts → Type 0
  ItemsInAll front finish = Unit {0}
  ItemsInAll front (part l optional p ps) = ItemsIn (nat_lt 0 front) p × ItemsInAll (front - 1) ps

-- ---- the types of such plans

mutual
  simple-items : (s : Space) (t : Rose TypeLabel) → IsSimpleType s t → AreItemsNamed false t
  simple-items Booleans t h = subst (AreItemsNamed false) (sym h) (tt, tt)
  simple-items (Wholes least greatest) t h = subst (AreItemsNamed false) (sym h) (tt, tt)
  simple-items (Numbers numbers) t h = subst (AreItemsNamed false) (sym h) (tt, tt)
  simple-items (Words how words) t h = subst (AreItemsNamed false) (sym h.type) (tt, tt)
  simple-items (Characters how least most class) t h = subst (AreItemsNamed false) (sym h) (tt, tt)
  simple-items (ListOf s least most) t h = subst (AreItemsNamed false) (sym h.1) (refl, (simple-items s h.0 h.2, tt))
  simple-items (UnionOf members) t h = subst (AreItemsNamed false) (sym h.2) (tt, members-items [] members h.0 h.1 h.3)

  members-items : (before : List (List ℕ)) (ss : Spaces) (parts : List Component) (ts : Roses TypeLabel) → AreMembers before ss parts ts → AllItemsNamed 0 ts
  members-items before none parts ts h = subst (AllItemsNamed 0) (sym h.1) tt
  members-items before (more s ss) parts ts h =
      subst (AllItemsNamed 0) (sym h.6) (simple-items s h.2 h.7, members-items (before ++ h.0 ∷ []) ss h.1 h.3 h.8)

module _ (place : Subject → ℕ) where
  mutual
    named-items : (embedded : Bool) (p : TypePlan) (t : Rose TypeLabel) → ItemsIn embedded p → IsNamed place p t → AreItemsNamed embedded t
    named-items embedded (simple sp) t g h = subst (λ b. AreItemsNamed b t) (sym g) (simple-items sp t h)
    named-items embedded (sequence nillable mixed ordered ps) t g h =
        subst (AreItemsNamed embedded) (sym h.2)
        (tt, subst (λ n. AllItemsNamed n h.1) (sym (sequence-nameless nillable mixed ordered)) (parts-items (one_if mixed + one_if ordered) [] ps h.0 h.1 g h.3))
    named-items embedded (choice ps) t g h = subst (AreItemsNamed embedded) (sym h.2) (tt, parts-items 0 [] ps h.0 h.1 g h.3)
    named-items embedded (repeated l p least most) t g h =
        subst (AreItemsNamed embedded) (sym h.1) (label-nameless l ∙ g.0, (named-items false p h.0 g.1 h.2, tt))
    named-items embedded (order_items firsts ls) t g h = subst (AreItemsNamed embedded) (sym h.type) (tt, tt)
    named-items embedded (reference w) t g h = subst (AreItemsNamed embedded) (sym h) (tt, tt)

    parts-items : (front : ℕ) (before : List (List ℕ)) (ps : Parts) (parts : List Component) (ts : Roses TypeLabel) → ItemsInAll front ps → AreNamed place before ps parts ts → AllItemsNamed front ts
    parts-items front before finish parts ts g h = subst (AllItemsNamed front) (sym h.1) tt
    parts-items front before (part l optional p ps) parts ts g h =
        subst (AllItemsNamed front) (sym h.6) (named-items (nat_lt 0 front) p h.2 g.0 h.7, parts-items (front - 1) (before ++ h.0 ∷ []) ps h.1 h.3 g.1 h.8)

-- ---- the plans of a set

label-no_item : (t : Term) → is_item_label (label_of t) ≡ false
label-no_item (model.element d name) = refl
label-no_item (model.sequence ps) = refl
label-no_item (model.choice ps) = refl
label-no_item (model.all ps) = refl

abbrev chosen : Bool → Bool → Term → TypePlan → ℕ → Option ℕ → Parts → Parts
chosen o q t p least most rest =
    if o then part (label_of t) false p rest else if q then part (label_of t) true p rest else part (list_label_of t) false (repeated (label_of t) p least most) rest

chosen-items : (o q : Bool) (t : Term) (p : TypePlan) (least : ℕ) (most : Option ℕ) (rest : Parts) → ItemsIn false p → ItemsInAll 0 rest → ItemsInAll 0 (chosen o q t p least most rest)
chosen-items true q t p least most rest g k = (g, k)
chosen-items false true t p least most rest g k = (g, k)
chosen-items false false t p least most rest g k = ((label-no_item t, g), k)

module _ (T : ℕ → TypePlan) (items : (d : ℕ) → ItemsIn false (T d)) where
  mutual
    term-items : (t : Term) → ItemsIn false (term_type T t)
    term-items (model.element d name) = items d
    term-items (model.sequence ps) = particles-items false ps
    term-items (model.choice ps) = particles-items true ps
    term-items (model.all ps) = particles-items false ps

    particles-items : (b : Bool) (ps : Particles) → ItemsInAll 0 (particle_parts T b ps)
    particles-items b model.none = tt
    particles-items b (model.more (occurs t least most) ps) =
        chosen-items (is_once least most) (is_optional least most && not b) t (term_type T t) least most (particle_parts T b ps) (term-items t) (particles-items b ps)

  one-items : (t : Term) (least : ℕ) (most : Option ℕ) → ItemsInAll 0 (top_part T t least most)
  one-items t least most = chosen-items (is_once least most) (is_optional least most && not false) t (term_type T t) least most finish (term-items t) tt

  top-items : (p : Particle) → ItemsInAll 0 (top T p)
  top-items (occurs (model.element d name) least most) = one-items (model.element d name) least most
  top-items (occurs (model.sequence ps) least most) = by (is_once least most)
    where
      by : (b : Bool) → ItemsInAll 0 (if b then particle_parts T false ps else top_part T (model.sequence ps) least most)
      by true = particles-items false ps
      by false = one-items (model.sequence ps) least most
  top-items (occurs (model.choice ps) least most) = one-items (model.choice ps) least most
  top-items (occurs (model.all ps) least most) = particles-items false ps

module _ (s : Set) where
  simple-plan-items : (n : ℕ) → ItemsIn false (simple_type s n)
  simple-plan-items n = by (slice_get s.simples n)
    where
      named : (t : SimpleDef) (o : Option Name) → ItemsIn false (elim o [ None ↦ simple (space_of t.space) | Some name ↦ reference (subject.Simple n) ])
      named t None = refl
      named t (Some a) = tt

      by : (o : Option SimpleDef) → ItemsIn false (elim o [ None ↦ simple Booleans | Some t ↦ simple_plan t n ])
      by None = refl
      by (Some t) = named t t.name

  attributes-items : (us : List AttributeUse) (rest : Parts) → ItemsInAll 0 rest → ItemsInAll 0 (attributes s us rest)
  attributes-items [] rest h = h
  attributes-items (u ∷ us) rest h = (simple-plan-items u.simple, attributes-items us rest h)

  module _ (T : ℕ → TypePlan) (items : (d : ℕ) → ItemsIn false (T d)) where
    content-parts-items : (c : Content) → ItemsInAll 0 (content_parts T s c)
    content-parts-items content_.Empty = tt
    content-parts-items (content_.Simple n) = (simple-plan-items n, tt)
    content-parts-items (content_.ElementOnly particle) = top-items T items (seen particle)
    content-parts-items (content_.Mixed particle) = top-items T items (seen particle)

    content-type-items : (c : Content) → ItemsIn false (content_type T s c)
    content-type-items content_.Empty = tt
    content-type-items (content_.Simple n) = simple-plan-items n
    content-type-items (content_.ElementOnly particle) = top-items T items (seen particle)
    content-type-items (content_.Mixed particle) = top-items T items (seen particle)

    rest-items : (nillable : Bool) (c : Content) → ItemsInAll 0 (rest_parts T s nillable c)
    rest-items true c = (content-type-items c, tt)
    rest-items false c = content-parts-items c

    with-texts-items : (mixed ordered : Bool) (firsts ls : List Label) (rest : Parts) → ItemsInAll 0 rest
        → ItemsInAll (one_if mixed + one_if ordered) (with_texts mixed (with_order ordered (order_type firsts ls) rest))
    with-texts-items true true firsts ls rest h = ((refl, refl), ((refl, tt), h))
    with-texts-items true false firsts ls rest h = ((refl, refl), h)
    with-texts-items false true firsts ls rest h = ((refl, tt), h)
    with-texts-items false false firsts ls rest h = h

    complex-items : (nillable : Bool) (c : ComplexDef) → ItemsIn false (complex_plan T s nillable c)
    complex-items nillable c =
        with-texts-items (is_mixed c.content) (is_ordered c.content) (if nillable then [] else labels_before (is_mixed c.content) c.uses) (labels (content_parts T s c.content)) (attributes s c.uses (rest_parts T s nillable c.content))
        (attributes-items c.uses (rest_parts T s nillable c.content) (rest-items nillable c.content))

  own-items : (inner : Bool → ℕ → TypePlan) → ((b : Bool) (n : ℕ) → ItemsIn false (inner b n)) → (e : ElementDecl) → ItemsIn false (own_type s inner e)
  own-items inner within e = by e.kind
    where
      of-simple : (b : Bool) (n : ℕ) → ItemsIn false (if b then nillable_simple_type s n else simple_type s n)
      of-simple true n = (simple-plan-items n, tt)
      of-simple false n = simple-plan-items n

      named : (n : ℕ) (o : Option Name) → ItemsIn false (elim o [ None ↦ inner e.nillable n | Some name ↦ reference (if e.nillable then subject.Nillable n else subject.Complex n) ])
      named n None = within e.nillable n
      named n (Some a) = tt

      of-complex : (n : ℕ) (o : Option ComplexDef) → ItemsIn false (elim o [
        | None ↦ sequence false false false finish
        | Some c ↦ elim c.name [ None ↦ inner e.nillable n | Some name ↦ reference (if e.nillable then subject.Nillable n else subject.Complex n) ]
      ])
      of-complex n None = tt
      of-complex n (Some c) = named n c.name

      by : (k : TypeOf) → ItemsIn false (elim k [
        | kind.Simple n ↦ if e.nillable then nillable_simple_type s n else simple_type s n
        | kind.Complex n ↦ elim (slice_get s.complexes n) [
          | None ↦ sequence false false false finish
          | Some c ↦ elim c.name [ None ↦ inner e.nillable n | Some name ↦ reference (if e.nillable then subject.Nillable n else subject.Complex n) ]
        ]
      ])
      by (kind.Simple n) = of-simple e.nillable n
      by (kind.Complex n) = of-complex n (slice_get s.complexes n)

  particle-items : (inner : Bool → ℕ → TypePlan) → ((b : Bool) (n : ℕ) → ItemsIn false (inner b n)) → (d : ℕ) → ItemsIn false (particle_type s inner d)
  particle-items inner within d = by (nat_lt d s.globals)
    where
      local : (o : Option ElementDecl) → ItemsIn false (elim o [ None ↦ simple Booleans | Some e ↦ own_type s inner e ])
      local None = refl
      local (Some e) = own-items inner within e

      by : (b : Bool) → ItemsIn false (if b then reference (subject.Element d) else elim (slice_get s.elements d) [ None ↦ simple Booleans | Some e ↦ own_type s inner e ])
      by true = tt
      by false = local (slice_get s.elements d)

  in-place-items : (levels : ℕ) (nillable : Bool) (n : ℕ) → ItemsIn false (in_place s levels nillable n)
  in-place-items zero nillable n = tt
  in-place-items (suc levels) nillable n =
      let within : (b : Bool) (m : ℕ) → ItemsIn false (in_place s levels b m) = λ b m. in-place-items levels b m in by within (slice_get s.complexes n)
    where
      by : ((b : Bool) (m : ℕ) → ItemsIn false (in_place s levels b m)) → (o : Option ComplexDef)
          → ItemsIn false (elim o [ None ↦ sequence false false false finish | Some c ↦ complex_plan (particle_type s (in_place s levels)) s nillable c ])
      by within None = tt
      by within (Some c) = complex-items (particle_type s (in_place s levels)) (λ d. particle-items (in_place s levels) within d) nillable c

  body-items : (w : Subject) → ItemsIn false (body s w)
  body-items (subject.Element d) = by (slice_get s.elements d)
    where
      by : (o : Option ElementDecl) → ItemsIn false (elim o [ None ↦ simple Booleans | Some e ↦ own_type s (in_place s 21) e ])
      by None = refl
      by (Some e) = own-items (in_place s 21) (λ b n. in-place-items 21 b n) e
  body-items (subject.Attribute n) = by (slice_get s.attributes n)
    where
      by : (o : Option GlobalAttribute) → ItemsIn false (elim o [ None ↦ simple Booleans | Some a ↦ simple_type s a.simple ])
      by None = refl
      by (Some a) = simple-plan-items a.simple
  body-items (subject.Simple n) = by (slice_get s.simples n)
    where
      by : (o : Option SimpleDef) → ItemsIn false (elim o [ None ↦ simple Booleans | Some t ↦ simple (space_of t.space) ])
      by None = refl
      by (Some t) = refl
  body-items (subject.Complex n) = in-place-items 21 false n
  body-items (subject.Nillable n) = in-place-items 21 true n

  -- the type of an assignment of a map
  pub body-unnamed : (place : Subject → ℕ) (w : Subject) (t : Rose TypeLabel) → IsNamed place (body s w) t → AreItemsNamed false t
  body-unnamed place w t h = named-items place false (body s w) t (body-items w) h
