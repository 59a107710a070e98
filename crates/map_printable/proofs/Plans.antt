-- The plans of the components of a linked set are plans that print.
use Rattle.std.proofs.Common.{◌≡◌, ℕ, zero, suc, ◌+◌, ◌<◌, ◌≤◌, Bool, true, false, cond, ◌&&◌, not, List, [], ◌∷◌, ◌++◌, All, Option, Some, None, refl, sym, ap, ◌∙◌, subst, arith, true≢false}
use Rattle.std.specs.Prelude.{slice_get, nat_lt, ◌==◌, IsSomeAnd, if◌then◌else◌}
use Rattle.std.proofs.lemmas.Bool.Decides.{nat_tests}
use Rattle.std.proofs.lemmas.List.Elements.{All-nil, All-cons, All-head, All-tail}
use Rattle.base_trees.specs.Rose.{Rose}
use Rattle.base_texts.specs.declared.texts.Name.{Name}
use Rattle.simple_types.specs.Seen.{space_of}
use Rattle.simple_types.specs.Sound.{Sound}
use Rattle.simple_types.specs.Space.{Booleans}
use Rattle.content_models.specs.declared.particles.ParticleLabel.{ParticleLabel}
use Rattle.content_models.specs.Particle as model
use Rattle.content_models.specs.Particle.{Particle, occurs, Term, Particles}
use Rattle.content_models.specs.Seen.{seen}
use Rattle.schema_components.specs.declared.components.ElementDecl.{ElementDecl}
use Rattle.schema_components.specs.declared.components.TypeOf.{TypeOf}
use Rattle.schema_components.specs.declared.components.TypeOf.TheVariants as kind
use Rattle.schema_components.specs.declared.components.AttributeUse.{AttributeUse}
use Rattle.schema_components.specs.declared.components.SimpleDef.{SimpleDef}
use Rattle.schema_components.specs.declared.components.ComplexDef.{ComplexDef}
use Rattle.schema_components.specs.declared.components.GlobalAttribute.{GlobalAttribute}
use Rattle.schema_components.specs.declared.components.Content.{Content}
use Rattle.schema_components.specs.declared.components.Content.TheVariants as content_
use Rattle.schema_components.specs.Components.{Set}
use Rattle.schema_components.specs.Linked as linked_
use Rattle.schema_components.specs.Linked.{leaves, all_leaves, IsElement, IsUse, IsSimpleType, IsComplexType, IsContent, IsModel, IsLinked}
use Rattle.map_subjects.specs.declared.subjects.Subject.{Subject}
use Rattle.map_subjects.specs.declared.subjects.Subject.TheVariants as subject
use Rattle.map_assignments.specs.Plans.{Label, attribute, texts, order, base, content, TypePlan, simple, sequence, repeated, reference, Parts, finish, part}
use Rattle.map_assignments.specs.Planning.{simple_plan, simple_type, attributes, label_of, list_label_of, is_once, is_optional, particle_part, is_mixed, is_ordered, texts_type, with_texts, with_order, order_type, order_plan, labels, labels_before, term_type, particle_parts, top_part, top, content_parts, content_type, rest_parts, complex_plan, nillable_simple_type, own_type, particle_type, in_place, body}
use Rattle.map_assignments.proofs.Shapes.{count_parts}
use Rattle.map_assignments.proofs.Chains.{and-false, not-first}
use Rattle.module_text.specs.declared.spots.Spot.TheVariants.{Elsewhere, Order}
use Rattle.map_printable.proofs.Characters.{IsXmlName, declared-xml, attribute-xml}
use Rattle.map_printable.proofs.PartMarks.{HasXmlName}
use Rattle.map_printable.proofs.Scopes.{is_item_label}
use Rattle.map_printable.proofs.Spots.{is_order_label, is_order_place}
use Rattle.map_printable.proofs.Printing.{AlwaysPresent, Prints, AllPrint, no-items}

-- ---- lists

pub all_at : {A : Type 0} (P : A → Type 0) (xs : List A) (n : ℕ) (x : A) → slice_get xs n ≡ Some x → All P xs → P x
all_at P [] n x is h = absurd (cc)
all_at P (y ∷ ys) zero x is h = subst P (let same : y ≡ x = cc in same) (All-head P y ys h)
all_at P (y ∷ ys) (suc n) x is h = all_at P ys n x is (All-tail P y ys h)

all-both : {A : Type 0} (P : A → Type 0) (xs ys : List A) → All P (xs ++ ys) → All P xs × All P ys
all-both P [] ys h = (All-nil P, h)
all-both P (x ∷ xs) ys h =
    let rest = all-both P xs ys (All-tail P x (xs ++ ys) h) in (All-cons P x xs (All-head P x (xs ++ ys) h) rest.0, rest.1)

pub either_way : {A : Type 0} (P : A → Type 0) (b : Bool) (x y : A) → P x → P y → P (cond b x y)
either_way P true x y h g = h
either_way P false x y h g = g

-- ---- names in content models

abbrev mutual
  XmlNames : Particle → Type 0
  XmlNames (occurs t least most) = XmlTerm t

  XmlTerm : Term → Type 0
  XmlTerm (model.element d name) = IsXmlName name
  XmlTerm (model.sequence ps) = AllXmlNames ps
  XmlTerm (model.choice ps) = AllXmlNames ps
  XmlTerm (model.all ps) = AllXmlNames ps

  AllXmlNames : Particles → Type 0
  AllXmlNames model.none = Unit {0}
  AllXmlNames (model.more p ps) = XmlNames p × AllXmlNames ps

abbrev IsXmlLeaf : ℕ × Name → Type 0
IsXmlLeaf leaf = IsXmlName leaf.1

mutual
  xml-names : (p : Particle) → All IsXmlLeaf (leaves p) → XmlNames p
  xml-names (occurs (model.element d name) least most) h = All-head IsXmlLeaf (d, name) [] h
  xml-names (occurs (model.sequence ps) least most) h = all-xml_names ps h
  xml-names (occurs (model.choice ps) least most) h = all-xml_names ps h
  xml-names (occurs (model.all ps) least most) h = all-xml_names ps h

  all-xml_names : (ps : Particles) → All IsXmlLeaf (all_leaves ps) → AllXmlNames ps
  all-xml_names model.none h = tt
  all-xml_names (model.more p ps) h = let both = all-both IsXmlLeaf (leaves p) (all_leaves ps) h in (xml-names p both.0, all-xml_names ps both.1)

-- ---- labels

label-xml : (t : Term) → XmlTerm t → HasXmlName (label_of t)
label-xml (model.element d name) h = h
label-xml (model.sequence ps) h = tt
label-xml (model.choice ps) h = tt
label-xml (model.all ps) h = tt

label-no_item : (t : Term) → is_item_label (label_of t) ≡ false
label-no_item (model.element d name) = refl
label-no_item (model.sequence ps) = refl
label-no_item (model.choice ps) = refl
label-no_item (model.all ps) = refl

label-no_order : (t : Term) → is_order_label (label_of t) ≡ false
label-no_order (model.element d name) = refl
label-no_order (model.sequence ps) = refl
label-no_order (model.choice ps) = refl
label-no_order (model.all ps) = refl

list-xml : (t : Term) → HasXmlName (list_label_of t)
list-xml (model.element d name) = tt
list-xml (model.sequence ps) = tt
list-xml (model.choice ps) = tt
list-xml (model.all ps) = tt

list-no_item : (t : Term) → is_item_label (list_label_of t) ≡ false
list-no_item (model.element d name) = refl
list-no_item (model.sequence ps) = refl
list-no_item (model.choice ps) = refl
list-no_item (model.all ps) = refl

list-no_order : (t : Term) → is_order_label (list_label_of t) ≡ false
list-no_order (model.element d name) = refl
list-no_order (model.sequence ps) = refl
list-no_order (model.choice ps) = refl
list-no_order (model.all ps) = refl

-- ---- parts

-- no part from this number on has the order
abbrev IsClear : Bool → Bool → ℕ → Type 0
IsClear mixed ordered i = (j : ℕ) → i ≤ j → is_order_place mixed ordered j ≡ false

later : (mixed ordered : Bool) (i : ℕ) → IsClear mixed ordered i → IsClear mixed ordered (i + 1)
later mixed ordered i clear j below = clear j (omega (arith, below))

never : (mixed : Bool) (i : ℕ) → IsClear mixed false i
never mixed i j below = and-false (j == (if mixed then 1 else 0))

behind-order : (mixed : Bool) (i : ℕ) → (if mixed then 1 else 0) < i → IsClear mixed true i
behind-order true i above j below = ap (λ b. b && true) (other j (omega (arith, above, below)))
  where
    other : (k : ℕ) → 1 < k → (k == 1) ≡ false
    other k more = grind (arith, nat_tests, more)
behind-order false i above j below = ap (λ b. b && true) (not-first j (omega (arith, above, below)))

module _ (nillable mixed ordered : Bool) where
  -- a part that hasn't the order
  plain-part : (i : ℕ) (l : Label) (optional : Bool) (p : TypePlan) (ps : Parts) → HasXmlName l → is_item_label l ≡ false → is_order_label l ≡ false → is_order_place mixed ordered i ≡ false
      → Prints Elsewhere p → AllPrint nillable mixed ordered (i + 1) ps → AllPrint nillable mixed ordered i (part l optional p ps)
  plain-part i l optional p ps xml named other at prints rest = (
    record {
      xml = xml;
      named = named;
      placed = at ∙ sym other;
      follows = λ e. absurd (true≢false (sym e ∙ other));
    },
    subst (λ spot. Prints spot p) (sym (ap (λ b. if b then Order else Elsewhere) other)) prints,
    rest,
  )

  particle-prints : (i : ℕ) (in_choice : Bool) (t : Term) (type : TypePlan) (least : ℕ) (most : Option ℕ) (rest : Parts) → is_order_place mixed ordered i ≡ false → XmlTerm t → Prints Elsewhere type
      → AllPrint nillable mixed ordered (i + 1) rest → AllPrint nillable mixed ordered i (particle_part in_choice t type least most rest)
  particle-prints i in_choice t type least most rest at xml prints all =
      let once : Parts = part (label_of t) false type rest in
      let perhaps : Parts = part (label_of t) true type rest in
      let several : Parts = part (list_label_of t) false (repeated (label_of t) type least most) rest in
      either_way (λ ps. AllPrint nillable mixed ordered i ps) (is_once least most) once (cond (is_optional least most && not in_choice) perhaps several)
      (plain-part i (label_of t) false type rest (label-xml t xml) (label-no_item t) (label-no_order t) at prints all)
      (either_way (λ ps. AllPrint nillable mixed ordered i ps) (is_optional least most && not in_choice) perhaps several
      (plain-part i (label_of t) true type rest (label-xml t xml) (label-no_item t) (label-no_order t) at prints all)
      (plain-part i (list_label_of t) false (repeated (label_of t) type least most) rest (list-xml t) (list-no_item t) (list-no_order t) at (label-xml t xml, prints) all))

-- no alternative is optional
particle-present : (t : Term) (type : TypePlan) (least : ℕ) (most : Option ℕ) (rest : Parts) → AlwaysPresent rest → AlwaysPresent (particle_part true t type least most rest)
particle-present t type least most rest all = by (is_once least most) (is_optional least most && false) (and-false (is_optional least most))
  where
    by : (o q : Bool) → q ≡ false
        → AlwaysPresent (if o then part (label_of t) false type rest else if q then part (label_of t) true type rest else part (list_label_of t) false (repeated (label_of t) type least most) rest)
    by true q e = (refl, all)
    by false true e = absurd (true≢false e)
    by false false e = (refl, all)

-- ---- content models, where each declaration has a plan that prints

module _ (T : ℕ → TypePlan) (types : (d : ℕ) → Prints Elsewhere (T d)) where
  present : (ps : Particles) → AlwaysPresent (particle_parts T true ps)
  present model.none = tt
  present (model.more (occurs t least most) ps) = particle-present t (term_type T t) least most (particle_parts T true ps) (present ps)

  mutual
    term-prints : (t : Term) → XmlTerm t → Prints Elsewhere (term_type T t)
    term-prints (model.element d name) h = types d
    term-prints (model.sequence ps) h = particles-print false false false 0 (never false 0) false ps h
    term-prints (model.choice ps) h = (particles-print false false false 0 (never false 0) true ps h, present ps)
    term-prints (model.all ps) h = particles-print false false false 0 (never false 0) false ps h

    particles-print : (nillable mixed ordered : Bool) (i : ℕ) → IsClear mixed ordered i → (in_choice : Bool) (ps : Particles) → AllXmlNames ps
        → AllPrint nillable mixed ordered i (particle_parts T in_choice ps)
    particles-print nillable mixed ordered i clear in_choice model.none h = tt
    particles-print nillable mixed ordered i clear in_choice (model.more (occurs t least most) ps) h =
        particle-prints nillable mixed ordered i in_choice t (term_type T t) least most (particle_parts T in_choice ps) (clear i (omega arith)) h.0 (term-prints t h.0)
        (particles-print nillable mixed ordered (i + 1) (later mixed ordered i clear) in_choice ps h.1)

  module _ (nillable mixed ordered : Bool) (i : ℕ) (clear : IsClear mixed ordered i) where
    top_part-prints : (t : Term) (least : ℕ) (most : Option ℕ) → XmlTerm t → AllPrint nillable mixed ordered i (top_part T t least most)
    top_part-prints t least most h = particle-prints nillable mixed ordered i false t (term_type T t) least most finish (clear i (omega arith)) h (term-prints t h) tt

    top-prints : (p : Particle) → XmlNames p → AllPrint nillable mixed ordered i (top T p)
    top-prints (occurs (model.element d name) least most) h = top_part-prints (model.element d name) least most h
    top-prints (occurs (model.sequence ps) least most) h =
        either_way (λ qs. AllPrint nillable mixed ordered i qs) (is_once least most) (particle_parts T false ps) (top_part T (model.sequence ps) least most)
        (particles-print nillable mixed ordered i clear false ps h) (top_part-prints (model.sequence ps) least most h)
    top-prints (occurs (model.choice ps) least most) h = top_part-prints (model.choice ps) least most h
    top-prints (occurs (model.all ps) least most) h = particles-print nillable mixed ordered i clear false ps h

-- ---- the components of a linked set

attributes-more : (s : Set) (us : List AttributeUse) (rest : Parts) → 0 < count_parts rest → 0 < count_parts (attributes s us rest)
attributes-more s [] rest some = some
attributes-more s (u ∷ us) rest some = let more : 0 < suc (count_parts (attributes s us rest)) = omega arith in more

module _ (s : Set) (linked : IsLinked s) where
  simple-prints : (n : ℕ) → Prints Elsewhere (simple_type s n)
  simple-prints n = by (slice_get s.simples n) refl
    where
      named : (t : SimpleDef) → Sound (space_of t.space) → (o : Option Name) → Prints Elsewhere (elim o [ None ↦ simple (space_of t.space) | Some name ↦ reference (subject.Simple n) ])
      named t h None = (h, refl)
      named t h (Some name) = tt

      by : (o : Option SimpleDef) → slice_get s.simples n ≡ o → Prints Elsewhere (elim o [ None ↦ simple Booleans | Some t ↦ simple_plan t n ])
      by None is = (tt, refl)
      by (Some t) is = named t (all_at IsSimpleType s.simples n t is linked.simples).1 t.name

  nillable_simple-prints : (n : ℕ) → Prints Elsewhere (nillable_simple_type s n)
  nillable_simple-prints n = plain-part true false false 0 content true (simple_type s n) finish tt refl refl refl (simple-prints n) tt

  attributes-print : (nillable mixed ordered : Bool) (i : ℕ) (us : List AttributeUse) (rest : Parts) → All (IsUse s) us → IsClear mixed ordered i
      → ((j : ℕ) → IsClear mixed ordered j → AllPrint nillable mixed ordered j rest) → AllPrint nillable mixed ordered i (attributes s us rest)
  attributes-print nillable mixed ordered i [] rest are clear all = all i clear
  attributes-print nillable mixed ordered i (u ∷ us) rest are clear all =
      plain-part nillable mixed ordered i (attribute u.name u.standard) (not u.required) (simple_type s u.simple) (attributes s us rest)
      (attribute-xml u.name (All-head (IsUse s) u us are).0) refl refl (clear i (omega arith)) (simple-prints u.simple)
      (attributes-print nillable mixed ordered (i + 1) us rest (All-tail (IsUse s) u us are) (later mixed ordered i clear) all)

  leaf-xml : (leaf : ℕ × Name) → linked_.IsNamed s leaf → IsXmlLeaf leaf
  leaf-xml leaf h = by (slice_get s.elements leaf.0) refl h
    where
      by : (o : Option ElementDecl) → slice_get s.elements leaf.0 ≡ o → IsSomeAnd o (λ e. e.name ≡ leaf.1) → IsXmlLeaf leaf
      by None is g = absurd g
      by (Some e) is g = subst IsXmlName g (declared-xml e.name (all_at (IsElement s) s.elements leaf.0 e is linked.elements).0)

  model-xml : (m : Rose ParticleLabel) → IsModel s m → XmlNames (seen m)
  model-xml m h = xml-names (seen m) (all-xml (leaves (seen m)) h.named)
    where
      all-xml : (ls : List (ℕ × Name)) → All (linked_.IsNamed s) ls → All IsXmlLeaf ls
      all-xml [] g = All-nil IsXmlLeaf
      all-xml (l ∷ ls) g = All-cons IsXmlLeaf l ls (leaf-xml l (All-head (linked_.IsNamed s) l ls g)) (all-xml ls (All-tail (linked_.IsNamed s) l ls g))

  module _ (T : ℕ → TypePlan) (types : (d : ℕ) → Prints Elsewhere (T d)) where
    content_parts-print : (nillable mixed ordered : Bool) (i : ℕ) (c : Content) → IsContent s c → IsClear mixed ordered i → AllPrint nillable mixed ordered i (content_parts T s c)
    content_parts-print nillable mixed ordered i content_.Empty h clear = tt
    content_parts-print nillable mixed ordered i (content_.Simple n) h clear =
        plain-part nillable mixed ordered i base false (simple_type s n) finish tt refl refl (clear i (omega arith)) (simple-prints n) tt
    content_parts-print nillable mixed ordered i (content_.ElementOnly m) h clear = top-prints T types nillable mixed ordered i clear (seen m) (model-xml m h)
    content_parts-print nillable mixed ordered i (content_.Mixed m) h clear = top-prints T types nillable mixed ordered i clear (seen m) (model-xml m h)

    content_type-prints : (c : Content) → IsContent s c → Prints Elsewhere (content_type T s c)
    content_type-prints content_.Empty h = tt
    content_type-prints (content_.Simple n) h = simple-prints n
    content_type-prints (content_.ElementOnly m) h = top-prints T types false false false 0 (never false 0) (seen m) (model-xml m h)
    content_type-prints (content_.Mixed m) h = top-prints T types false false false 0 (never false 0) (seen m) (model-xml m h)

    rest-prints : (nillable mixed ordered : Bool) (i : ℕ) (c : Content) → IsContent s c → IsClear mixed ordered i → AllPrint nillable mixed ordered i (rest_parts T s nillable c)
    rest-prints true mixed ordered i c h clear = plain-part true mixed ordered i content true (content_type T s c) finish tt refl refl (clear i (omega arith)) (content_type-prints c h) tt
    rest-prints false mixed ordered i c h clear = content_parts-print false mixed ordered i c h clear

    rest-some : (nillable : Bool) (c : Content) → nillable ≡ true → 0 < count_parts (rest_parts T s nillable c)
    rest-some true c e = let one : 0 < suc 0 = omega arith in one
    rest-some false c e = absurd (true≢false (sym e))

    -- behind texts and the order
    composed : (nillable mixed ordered : Bool) (plan : TypePlan) (rest : Parts) → Prints Order plan → (nillable ≡ true → 0 < count_parts rest)
        → ((i : ℕ) → IsClear mixed ordered i → AllPrint nillable mixed ordered i rest) → AllPrint nillable mixed ordered 0 (with_texts mixed (with_order ordered plan rest))
    composed nillable true true plan rest prints some all =
        plain-part nillable true true 0 texts false texts_type (part order false plan rest) tt refl refl refl (tt, (tt, refl))
        (record { xml = tt; named = refl; placed = refl; follows = λ e. some }, prints, all (0 + 1 + 1) (behind-order true (0 + 1 + 1) (omega arith)))
    composed nillable true false plan rest prints some all =
        plain-part nillable true false 0 texts false texts_type rest tt refl refl refl (tt, (tt, refl)) (all (0 + 1) (never true (0 + 1)))
    composed nillable false true plan rest prints some all =
        (record { xml = tt; named = refl; placed = refl; follows = λ e. some }, prints, all (0 + 1) (behind-order false (0 + 1) (omega arith)))
    composed nillable false false plan rest prints some all = all 0 (never false 0)

    order-prints : (firsts : List Label) (c : Content) → IsContent s c → Prints Order (order_type firsts (labels (content_parts T s c)))
    order-prints firsts c h = (tt, (refl, no-items false false false 0 (content_parts T s c) (content_parts-print false false false 0 c h (never false 0))))

    complex-prints : (nillable : Bool) (c : ComplexDef) → IsComplexType s c → Prints Elsewhere (complex_plan T s nillable c)
    complex-prints nillable c h =
        let behind = attributes s c.uses (rest_parts T s nillable c.content) in
        let mixed = is_mixed c.content in
        let ordered = is_ordered c.content in
        composed nillable mixed ordered (order_plan T s nillable c) behind (order-prints (if nillable then [] else labels_before mixed c.uses) c.content h.content)
        (λ e. attributes-more s c.uses (rest_parts T s nillable c.content) (rest-some nillable c.content e))
        (λ i clear. attributes-print nillable mixed ordered i c.uses (rest_parts T s nillable c.content) h.uses clear (λ j free. rest-prints nillable mixed ordered j c.content h.content free))

  module _ (inner : Bool → ℕ → TypePlan) (inners : (b : Bool) (n : ℕ) → Prints Elsewhere (inner b n)) where
    own-prints : (e : ElementDecl) → Prints Elsewhere (own_type s inner e)
    own-prints e = by e.kind
      where
        named : (n : ℕ) (o : Option Name) → Prints Elsewhere (elim o [ None ↦ inner e.nillable n | Some name ↦ reference (if e.nillable then subject.Nillable n else subject.Complex n) ])
        named n None = inners e.nillable n
        named n (Some name) = tt

        complex : (n : ℕ) (o : Option ComplexDef) → Prints Elsewhere (elim o [
          | None ↦ sequence false false false finish
          | Some c ↦ elim c.name [ None ↦ inner e.nillable n | Some name ↦ reference (if e.nillable then subject.Nillable n else subject.Complex n) ]
        ])
        complex n None = tt
        complex n (Some c) = named n c.name

        by : (k : TypeOf) → Prints Elsewhere (elim k [
          | kind.Simple n ↦ if e.nillable then nillable_simple_type s n else simple_type s n
          | kind.Complex n ↦ elim (slice_get s.complexes n) [
            | None ↦ sequence false false false finish
            | Some c ↦ elim c.name [ None ↦ inner e.nillable n | Some name ↦ reference (if e.nillable then subject.Nillable n else subject.Complex n) ]
          ]
        ])
        by (kind.Simple n) = either_way (λ p. Prints Elsewhere p) e.nillable (nillable_simple_type s n) (simple_type s n) (nillable_simple-prints n) (simple-prints n)
        by (kind.Complex n) = complex n (slice_get s.complexes n)

    particle_type-prints : (d : ℕ) → Prints Elsewhere (particle_type s inner d)
    particle_type-prints d =
        let other : TypePlan = elim (slice_get s.elements d) [ None ↦ simple Booleans | Some e ↦ own_type s inner e ] in
        either_way (λ p. Prints Elsewhere p) (nat_lt d s.globals) (reference (subject.Element d)) other tt (by (slice_get s.elements d))
      where
        by : (o : Option ElementDecl) → Prints Elsewhere (elim o [ None ↦ simple Booleans | Some e ↦ own_type s inner e ])
        by None = (tt, refl)
        by (Some e) = own-prints e

  in_place-prints : (levels : ℕ) (nillable : Bool) (n : ℕ) → Prints Elsewhere (in_place s levels nillable n)
  in_place-prints zero nillable n = tt
  in_place-prints (suc levels) nillable n = by (λ b m. in_place-prints levels b m) (slice_get s.complexes n) refl
    where
      by : ((b : Bool) (m : ℕ) → Prints Elsewhere (in_place s levels b m)) → (o : Option ComplexDef) → slice_get s.complexes n ≡ o
          → Prints Elsewhere (elim o [ None ↦ sequence false false false finish | Some c ↦ complex_plan (particle_type s (in_place s levels)) s nillable c ])
      by below None is = tt
      by below (Some c) is =
          complex-prints (particle_type s (in_place s levels)) (particle_type-prints (in_place s levels) below) nillable c (all_at (IsComplexType s) s.complexes n c is linked.complexes)

  pub body-prints : (w : Subject) → Prints Elsewhere (body s w)
  body-prints (subject.Element d) = by (slice_get s.elements d)
    where
      by : (o : Option ElementDecl) → Prints Elsewhere (elim o [ None ↦ simple Booleans | Some e ↦ own_type s (in_place s 21) e ])
      by None = (tt, refl)
      by (Some e) = own-prints (in_place s 21) (λ b n. in_place-prints 21 b n) e
  body-prints (subject.Attribute n) = by (slice_get s.attributes n)
    where
      by : (o : Option GlobalAttribute) → Prints Elsewhere (elim o [ None ↦ simple Booleans | Some a ↦ simple_type s a.simple ])
      by None = (tt, refl)
      by (Some a) = simple-prints a.simple
  body-prints (subject.Simple n) = by (slice_get s.simples n) refl
    where
      by : (o : Option SimpleDef) → slice_get s.simples n ≡ o → Prints Elsewhere (elim o [ None ↦ simple Booleans | Some t ↦ simple (space_of t.space) ])
      by None is = (tt, refl)
      by (Some t) is = ((all_at IsSimpleType s.simples n t is linked.simples).1, refl)
  body-prints (subject.Complex n) = in_place-prints 21 false n
  body-prints (subject.Nillable n) = in_place-prints 21 true n
