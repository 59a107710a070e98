-- The plans of complex types and declarations, and so of all that has an assignment.
use Rattle.std.proofs.Common.{◌≡◌, ℕ, zero, suc, ◌+◌, ◌<◌, ◌≤◌, ◌^◌, Bool, true, false, ◌&&◌, not, cond, Option, Some, None, List, [], ◌∷◌, length, All, inl, inr, refl, ap, subst, ◌∙◌, arith}
use Rattle.std.specs.Prelude.{if◌then◌else◌, slice_get, nat_lt, nat_eq, option_and_then, IsSomeAnd}
use Rattle.std.proofs.lemmas.Bool.Decides.{Decides-ltb, eqb_tells}
use Rattle.std.proofs.lemmas.List.{length-map}
use Rattle.std.proofs.lemmas.List.Elements.{All-head, All-tail}
use Rattle.std.proofs.lemmas.Map.Keys.{any_passes_from_place}
use Rattle.base_texts.specs.declared.texts.Name.{Name}
use Rattle.base_trees.specs.Rose.{Rose}
use Rattle.asn_types.specs.declared.types.TypeLabel.{TypeLabel}
use Rattle.simple_types.specs.declared.standards.Standard.{Standard}
use Rattle.simple_types.specs.declared.standards.Standard.TheVariants.{Free, Default, Fixed}
use Rattle.simple_types.specs.Space.{Space, Booleans}
use Rattle.simple_types.specs.Seen.{space_of}
use Rattle.simple_types.specs.Sound.{Sound, IsCounted}
use Rattle.content_models.specs.Seen.{seen}
use Rattle.schema_components.specs.declared.components.ElementDecl.{ElementDecl}
use Rattle.schema_components.specs.declared.components.TypeOf.{TypeOf}
use Rattle.schema_components.specs.declared.components.TypeOf.TheVariants as kind
use Rattle.schema_components.specs.declared.components.AttributeUse.{AttributeUse}
use Rattle.schema_components.specs.declared.components.SimpleDef.{SimpleDef}
use Rattle.schema_components.specs.declared.components.ComplexDef.{ComplexDef}
use Rattle.schema_components.specs.declared.components.GlobalAttribute.{GlobalAttribute}
use Rattle.schema_components.specs.declared.components.Content.{Content}
use Rattle.schema_components.specs.declared.components.Content.TheVariants as content_
use Rattle.schema_components.specs.Components.{Set}
use Rattle.schema_components.specs.Linked.{IsLinked, IsSimpleType, IsSpellingAt, IsStandardAt, MayBeFor, HasStandard, IsComplexType, IsContent}
use Rattle.map_subjects.specs.declared.subjects.Subject.{Subject}
use Rattle.map_subjects.specs.declared.subjects.Subject.TheVariants as subject
use Rattle.map_subjects.specs.Subjects.{is_nillable_of, has_nillable, complex_name}
use Rattle.map_subjects.proofs.Finding.{all-at}
use Rattle.map_subjects.proofs.InOrder.{named-element}
use Rattle.map_assignments.specs.Plans.{Label, attribute, texts, order, content, TypePlan, simple, sequence, choice, repeated, order_items, reference, Parts, finish, part}
use Rattle.map_assignments.specs.Planning.{simple_plan, simple_type, attributes, is_mixed, is_ordered, order_plan, order_type, labels_before, labels, with_order, texts_type, with_texts, top, content_parts, content_type, rest_parts, complex_plan, nillable_simple_type, own_type, particle_type, in_place, body}
use Rattle.map_assignments.specs.Naming.{IsSimpleType as IsTypeOf, IsNamed}
use Rattle.map_assignments.proofs.Shapes.{count_parts, EndsOptional, NoElements, InOrder, HasName, IsSpelling, IsSimplePlan, IsSpelled, MayHaveStandard, IsPlan, ArePlans, Refers, ReferInAll, depth_of}
use Rattle.map_assignments.proofs.Planned.{never, plain-sequence, seen-nodes, top-refers, top-plans, top-count, all-elements}

simple-is-plan : (s : Set) (p : TypePlan) → IsSimplePlan s p → IsPlan s p
simple-is-plan s (simple sp) g = g
simple-is-plan s (sequence nillable mixed ordered ps) g = absurd g
simple-is-plan s (choice ps) g = absurd g
simple-is-plan s (repeated l p least most) g = absurd g
simple-is-plan s (order_items firsts ls) g = absurd g
simple-is-plan s (reference (subject.Element n)) g = absurd g
simple-is-plan s (reference (subject.Attribute n)) g = absurd g
simple-is-plan s (reference (subject.Simple n)) g = g
simple-is-plan s (reference (subject.Complex n)) g = absurd g
simple-is-plan s (reference (subject.Nillable n)) g = absurd g

-- ---- what is referred to

module _ (s : Set) (P : Subject → Type 0) (simples : (n : ℕ) → P (subject.Simple n)) where
  simple-refers : (n : ℕ) → Refers P (simple_type s n)
  simple-refers n = by (slice_get s.simples n)
    where
      named : (t : SimpleDef) (o : Option Name) → Refers P (elim o [ None ↦ simple (space_of t.space) | Some name ↦ reference (subject.Simple n) ])
      named t None = tt
      named t (Some a) = simples n

      by : (o : Option SimpleDef) → Refers P (elim o [ None ↦ simple Booleans | Some t ↦ simple_plan t n ])
      by None = tt
      by (Some t) = named t t.name

  attributes-refer : (us : List AttributeUse) (rest : Parts) → ReferInAll P rest → ReferInAll P (attributes s us rest)
  attributes-refer [] rest h = h
  attributes-refer (u ∷ us) rest h = (simple-refers u.simple, attributes-refer us rest h)

  module _ (T : ℕ → TypePlan) where
    content-parts-refer : (c : Content) → ReferInAll P (content_parts T s c)
    content-parts-refer content_.Empty = tt
    content-parts-refer (content_.Simple n) = (simple-refers n, tt)
    content-parts-refer (content_.ElementOnly particle) = top-refers s T P (seen particle)
    content-parts-refer (content_.Mixed particle) = top-refers s T P (seen particle)

    content-type-refers : (c : Content) → Refers P (content_type T s c)
    content-type-refers content_.Empty = tt
    content-type-refers (content_.Simple n) = simple-refers n
    content-type-refers (content_.ElementOnly particle) = top-refers s T P (seen particle)
    content-type-refers (content_.Mixed particle) = top-refers s T P (seen particle)

    rest-refer : (nillable : Bool) (c : Content) → ReferInAll P (rest_parts T s nillable c)
    rest-refer true c = (content-type-refers c, tt)
    rest-refer false c = content-parts-refer c

    with-order-refer : (ordered : Bool) (firsts ls : List Label) (rest : Parts) → ReferInAll P rest → ReferInAll P (with_order ordered (order_type firsts ls) rest)
    with-order-refer true firsts ls rest h = (tt, h)
    with-order-refer false firsts ls rest h = h

    with-texts-refer : (mixed : Bool) (rest : Parts) → ReferInAll P rest → ReferInAll P (with_texts mixed rest)
    with-texts-refer true rest h = (tt, h)
    with-texts-refer false rest h = h

    complex-refers : (nillable : Bool) (c : ComplexDef) → Refers P (complex_plan T s nillable c)
    complex-refers nillable c =
        with-texts-refer (is_mixed c.content) (with_order (is_ordered c.content) (order_plan T s nillable c) (attributes s c.uses (rest_parts T s nillable c.content)))
        (with-order-refer (is_ordered c.content) (if nillable then [] else labels_before (is_mixed c.content) c.uses) (labels (content_parts T s c.content))
        (attributes s c.uses (rest_parts T s nillable c.content))
        (attributes-refer c.uses (rest_parts T s nillable c.content) (rest-refer nillable c.content)))

  in-place-refers : (levels : ℕ) (nillable : Bool) (n : ℕ) → Refers P (in_place s levels nillable n)
  in-place-refers zero nillable n = tt
  in-place-refers (suc levels) nillable n = by (slice_get s.complexes n)
    where
      by : (o : Option ComplexDef) → Refers P (elim o [ None ↦ sequence false false false finish | Some c ↦ complex_plan (particle_type s (in_place s levels)) s nillable c ])
      by None = tt
      by (Some c) = complex-refers (particle_type s (in_place s levels)) nillable c

  own-refers : (inner : Bool → ℕ → TypePlan) → ((b : Bool) (n : ℕ) → Refers P (inner b n)) → ((n : ℕ) → P (subject.Complex n)) → ((n : ℕ) → P (subject.Nillable n))
      → (e : ElementDecl) → Refers P (own_type s inner e)
  own-refers inner within complexes nillables e = by e.kind
    where
      of-simple : (b : Bool) (n : ℕ) → Refers P (if b then nillable_simple_type s n else simple_type s n)
      of-simple true n = (simple-refers n, tt)
      of-simple false n = simple-refers n

      to-type : (b : Bool) (n : ℕ) → Refers P (reference (if b then subject.Nillable n else subject.Complex n))
      to-type true n = nillables n
      to-type false n = complexes n

      named : (n : ℕ) (o : Option Name) → Refers P (elim o [ None ↦ inner e.nillable n | Some name ↦ reference (if e.nillable then subject.Nillable n else subject.Complex n) ])
      named n None = within e.nillable n
      named n (Some a) = to-type e.nillable n

      of-complex : (n : ℕ) (o : Option ComplexDef) → Refers P (elim o [
        | None ↦ sequence false false false finish
        | Some c ↦ elim c.name [ None ↦ inner e.nillable n | Some name ↦ reference (if e.nillable then subject.Nillable n else subject.Complex n) ]
      ])
      of-complex n None = tt
      of-complex n (Some c) = named n c.name

      by : (k : TypeOf) → Refers P (elim k [
        | kind.Simple n ↦ if e.nillable then nillable_simple_type s n else simple_type s n
        | kind.Complex n ↦ elim (slice_get s.complexes n) [
          | None ↦ sequence false false false finish
          | Some c ↦ elim c.name [ None ↦ inner e.nillable n | Some name ↦ reference (if e.nillable then subject.Nillable n else subject.Complex n) ]
        ]
      ])
      by (kind.Simple n) = of-simple e.nillable n
      by (kind.Complex n) = of-complex n (slice_get s.complexes n)

-- each assignment refers to those of lesser depth
pub body-refers : (s : Set) (w : Subject) → Refers (λ v. depth_of v < depth_of w) (body s w)
body-refers s (subject.Element d) = by (slice_get s.elements d)
  where
    by : (o : Option ElementDecl) → Refers (λ v. depth_of v < 2) (elim o [ None ↦ simple Booleans | Some e ↦ own_type s (in_place s 21) e ])
    by None = tt
    by (Some e) =
        own-refers s (λ v. depth_of v < 2) (λ n. omega arith) (in_place s 21) (λ b n. in-place-refers s (λ v. depth_of v < 2) (λ m. omega arith) 21 b n) (λ n. omega arith) (λ n. omega arith) e
body-refers s (subject.Attribute n) = by (slice_get s.attributes n)
  where
    by : (o : Option GlobalAttribute) → Refers (λ v. depth_of v < 1) (elim o [ None ↦ simple Booleans | Some a ↦ simple_type s a.simple ])
    by None = tt
    by (Some a) = simple-refers s (λ v. depth_of v < 1) (λ m. omega arith) a.simple
body-refers s (subject.Simple n) = by (slice_get s.simples n)
  where
    by : (o : Option SimpleDef) → Refers (λ v. depth_of v < 0) (elim o [ None ↦ simple Booleans | Some t ↦ simple (space_of t.space) ])
    by None = tt
    by (Some t) = tt
body-refers s (subject.Complex n) = in-place-refers s (λ v. depth_of v < 1) (λ m. omega arith) 21 false n
body-refers s (subject.Nillable n) = in-place-refers s (λ v. depth_of v < 1) (λ m. omega arith) 21 true n

-- ---- plans

pub found : {X : Type 0} (xs : List X) (i : ℕ) → i < length xs → (x : X) × (slice_get xs i ≡ Some x)
found [] i below = absurd (omega (arith, below))
found (x ∷ xs) zero below = (x, refl)
found (x ∷ xs) (suc i) below = found xs i (omega (arith, below))

-- a global element has an assignment
pub global-named : (s : Set) (d : ℕ) → IsLinked s → d < s.globals → HasName s (subject.Element d)
global-named s d linked below =
    let within = linked.globals in
    let e = found s.elements d (omega (arith, below, within)) in
    (e.0.name, named-element s d e.0 below e.1)

ends-part : (l : Label) (optional : Bool) (p : TypePlan) (ps : Parts) → EndsOptional ps → EndsOptional (part l optional p ps)
ends-part l optional p finish e = absurd e
ends-part l optional p (part k other q ps) e = e

ends-attributes : (s : Set) (us : List AttributeUse) (rest : Parts) → EndsOptional rest → EndsOptional (attributes s us rest)
ends-attributes s [] rest e = e
ends-attributes s (u ∷ us) rest e =
    ends-part (attribute u.name u.standard) (not u.required) (simple_type s u.simple) (attributes s us rest) (ends-attributes s us rest e)

attributes-no_elements : (s : Set) (us : List AttributeUse) (rest : Parts) → NoElements rest → NoElements (attributes s us rest)
attributes-no_elements s [] rest e = e
attributes-no_elements s (u ∷ us) rest e = (refl, attributes-no_elements s us rest e)

pub attributes-count : (s : Set) (us : List AttributeUse) (rest : Parts) → count_parts (attributes s us rest) ≡ length us + count_parts rest
attributes-count s [] rest = omega arith
attributes-count s (u ∷ us) rest = let h = attributes-count s us rest in omega (arith, h)

-- few parts stand before those of the elements
firsts-few : (nillable mixed : Bool) (us : List AttributeUse) → length us ≤ 65536 → length (if nillable then [] else labels_before mixed us) < 2 ^ 32
firsts-few true mixed us few = omega arith
firsts-few false true us few = omega (arith, few, length-map us (λ (u : AttributeUse). attribute u.name u.standard))
firsts-few false false us few = omega (arith, few, length-map us (λ (u : AttributeUse). attribute u.name u.standard))

-- a type whose elements may stand in any order
all-content : (T : ℕ → TypePlan) (s : Set) (nillable : Bool) (c : ComplexDef) → is_ordered c.content ≡ true → IsContent s c.content
    → InOrder nillable (is_mixed c.content) (with_texts (is_mixed c.content) (part order false (order_plan T s nillable c) (attributes s c.uses (rest_parts T s nillable c.content))))
    × IsCounted (length (labels (content_parts T s c.content)))
all-content T s nillable c e h = by c.content e h
  where
    parts-of : (k : Content) → Parts
    parts-of k =
        with_texts (is_mixed k)
        (part order false (order_type (if nillable then [] else labels_before (is_mixed k) c.uses) (labels (content_parts T s k))) (attributes s c.uses (rest_parts T s nillable k)))

    same : (n mixed : Bool) (k : Content) (parts : Parts) → content_parts T s k ≡ parts → content_type T s k ≡ sequence false false false parts
        → rest_parts T s n k ≡ (if n then part content true (sequence false false false parts) finish else parts)
    same true mixed k parts e f = ap (λ p. part content true p finish) f
    same false mixed k parts e f = e

    by : (k : Content) → is_ordered k ≡ true → IsContent s k → InOrder nillable (is_mixed k) (parts-of k) × IsCounted (length (labels (content_parts T s k)))
    by content_.Empty e h = absurd cc
    by (content_.Simple n) e h = absurd cc
    by (content_.ElementOnly particle) e h =
        let all = all-elements s T (seen particle) e (omega (arith, seen-nodes particle, h.few)) h.occurring h.clear in (
          record {
            set = s;
            uses = c.uses;
            elements = top T (seen particle);
            are_elements = all.0;
            is = ap (λ r. part order false (order_type (if nillable then [] else labels_before false c.uses) (labels (top T (seen particle)))) (attributes s c.uses r))
                (same nillable false (content_.ElementOnly particle) (top T (seen particle)) refl refl);
          },
          all.1,
        )
    by (content_.Mixed particle) e h =
        let all = all-elements s T (seen particle) e (omega (arith, seen-nodes particle, h.few)) h.occurring h.clear in (
          record {
            set = s;
            uses = c.uses;
            elements = top T (seen particle);
            are_elements = all.0;
            is = ap (λ r. with_texts true (part order false (order_type (if nillable then [] else labels_before true c.uses) (labels (top T (seen particle)))) (attributes s c.uses r)))
                (same nillable true (content_.Mixed particle) (top T (seen particle)) refl refl);
          },
          all.1,
        )

module _ (s : Set) (linked : IsLinked s) where
  pub simple-plan-is : (n : ℕ) → IsSimplePlan s (simple_type s n)
  simple-plan-is n = by (slice_get s.simples n) refl
    where
      named : (t : SimpleDef) (o : Option Name) → slice_get s.simples n ≡ Some t → t.name ≡ o
          → IsSimplePlan s (elim o [ None ↦ simple (space_of t.space) | Some name ↦ reference (subject.Simple n) ])
      named t None e f = (all-at IsSimpleType s.simples n t e linked.simples).1
      named t (Some a) e f = (a, ap (option_and_then (λ (d : SimpleDef). d.name)) e ∙ f)

      by : (o : Option SimpleDef) → slice_get s.simples n ≡ o → IsSimplePlan s (elim o [ None ↦ simple Booleans | Some t ↦ simple_plan t n ])
      by None e = tt
      by (Some t) e = named t t.name e refl

  simple-plan : (n : ℕ) → IsPlan s (simple_type s n)
  simple-plan n = simple-is-plan s (simple_type s n) (simple-plan-is n)

  spelled-plan : (n : ℕ) (text : List ℕ) → IsSpellingAt s n text → IsSpelled s (simple_type s n) text
  spelled-plan n text h = by (slice_get s.simples n) h
    where
      named : (t : SimpleDef) (o : Option Name) → IsSpelling (space_of t.space) text → IsSpelled s (elim o [ None ↦ simple (space_of t.space) | Some name ↦ reference (subject.Simple n) ]) text
      named t None k = k
      named t (Some a) k = h

      by : (o : Option SimpleDef) → IsSomeAnd o (λ (t : SimpleDef). IsSpelling (space_of t.space) text) → IsSpelled s (elim o [ None ↦ simple Booleans | Some t ↦ simple_plan t n ]) text
      by None k = absurd k
      by (Some t) k = named t t.name k

  standard-may : (x : Standard) (required : Bool) (n : ℕ) → IsStandardAt s n x → MayBeFor required x → MayHaveStandard s x (not required) (simple_type s n)
  standard-may Free required n h m = tt
  standard-may (Default text) required n h m = (ap not m, spelled-plan n text h)
  standard-may (Fixed text) required n h m = spelled-plan n text h

  attributes-plans : (us : List AttributeUse) (rest : Parts) → All (HasStandard s) us → ArePlans s rest → ArePlans s (attributes s us rest)
  attributes-plans [] rest has g = g
  attributes-plans (u ∷ us) rest has g =
      let here = All-head (HasStandard s) u us has in (
        simple-plan u.simple,
        (λ e. (simple-plan-is u.simple, standard-may u.standard u.required u.simple here.0 here.1)),
        attributes-plans us rest (All-tail (HasStandard s) u us has) g,
      )

  module _ (T : ℕ → TypePlan) (plans : (d : ℕ) → IsPlan s (T d)) where
    content-parts-plans : (c : Content) → IsContent s c → ArePlans s (content_parts T s c)
    content-parts-plans content_.Empty h = tt
    content-parts-plans (content_.Simple n) h = (simple-plan n, (λ e. never _ e), tt)
    content-parts-plans (content_.ElementOnly particle) h = top-plans s T plans (seen particle) (omega (arith, seen-nodes particle, h.few)) h.occurring
    content-parts-plans (content_.Mixed particle) h = top-plans s T plans (seen particle) (omega (arith, seen-nodes particle, h.few)) h.occurring

    content-parts-count : (c : Content) → IsContent s c → count_parts (content_parts T s c) ≤ 65536
    content-parts-count content_.Empty h = omega arith
    content-parts-count (content_.Simple n) h = omega arith
    content-parts-count (content_.ElementOnly particle) h = top-count s T (seen particle) (omega (arith, seen-nodes particle, h.few))
    content-parts-count (content_.Mixed particle) h = top-count s T (seen particle) (omega (arith, seen-nodes particle, h.few))

    content-type-plan : (c : Content) → IsContent s c → IsPlan s (content_type T s c)
    content-type-plan content_.Empty h = (plain-sequence finish, omega arith, tt, (λ e. never _ e))
    content-type-plan (content_.Simple n) h = simple-plan n
    content-type-plan (content_.ElementOnly particle) h =
        let few : count_parts (top T (seen particle)) ≤ 65536 = content-parts-count (content_.ElementOnly particle) h in
        (plain-sequence (top T (seen particle)), omega (arith, few), content-parts-plans (content_.ElementOnly particle) h, (λ e. never _ e))
    content-type-plan (content_.Mixed particle) h =
        let few : count_parts (top T (seen particle)) ≤ 65536 = content-parts-count (content_.Mixed particle) h in
        (plain-sequence (top T (seen particle)), omega (arith, few), content-parts-plans (content_.Mixed particle) h, (λ e. never _ e))

    rest-plans : (nillable : Bool) (c : Content) → IsContent s c → ArePlans s (rest_parts T s nillable c)
    rest-plans true c h = (content-type-plan c h, (λ e. never _ e), tt)
    rest-plans false c h = content-parts-plans c h

    rest-count : (nillable : Bool) (c : Content) → IsContent s c → count_parts (rest_parts T s nillable c) ≤ 65536
    rest-count true c h = omega arith
    rest-count false c h = content-parts-count c h

    texts-plan : IsPlan s texts_type
    texts-plan = (tt, refl, tt)

    -- behind the texts of mixed content
    whole-plan : (nillable mixed ordered : Bool) (rest : Parts) → (nillable ≡ true → EndsOptional rest × NoElements rest) → count_parts rest ≤ 131073 → ArePlans s rest
        → (ordered ≡ true → InOrder nillable mixed (with_texts mixed rest)) → IsPlan s (sequence nillable mixed ordered (with_texts mixed rest))
    whole-plan nillable true ordered rest ends few g o = (
      ((λ e. let h = ends e in (ends-part texts false texts_type rest h.0, (refl, h.1))), (λ e. (refl, refl))),
      omega (arith, few),
      (texts-plan, (λ e. never _ e), g),
      o,
    )
    whole-plan nillable false ordered rest ends few g o = ((ends, (λ e. never _ e)), omega (arith, few), g, o)

    nillable-ends : (nillable : Bool) (c : ComplexDef) → nillable ≡ true
        → EndsOptional (attributes s c.uses (rest_parts T s nillable c.content)) × NoElements (attributes s c.uses (rest_parts T s nillable c.content))
    nillable-ends true c e = (
      ends-attributes s c.uses (rest_parts T s true c.content) refl,
      attributes-no_elements s c.uses (rest_parts T s true c.content) (refl, tt),
    )
    nillable-ends false c e = never _ e

    complex-is-plan : (nillable : Bool) (c : ComplexDef) → IsComplexType s c → IsPlan s (complex_plan T s nillable c)
    complex-is-plan nillable c h =
        by (is_ordered c.content) refl
      where
        rest : Parts
        rest = attributes s c.uses (rest_parts T s nillable c.content)

        few : count_parts rest ≤ 131072
        few = omega (arith, attributes-count s c.uses (rest_parts T s nillable c.content), h.few, rest-count nillable c.content h.content)

        plans_of : ArePlans s rest
        plans_of = attributes-plans c.uses (rest_parts T s nillable c.content) h.standards (rest-plans nillable c.content h.content)

        by : (b : Bool) → is_ordered c.content ≡ b
            → IsPlan s (sequence nillable (is_mixed c.content) b (with_texts (is_mixed c.content) (with_order b (order_plan T s nillable c) rest)))
        by false e = whole-plan nillable (is_mixed c.content) false rest (nillable-ends nillable c) (let f = few in omega (arith, f)) plans_of (λ e. never _ e)
        by true e =
            let all = all-content T s nillable c e h.content in
            whole-plan nillable (is_mixed c.content) true (part order false (order_plan T s nillable c) rest)
            (λ n. let ends = nillable-ends nillable c n in (ends-part order false (order_plan T s nillable c) rest ends.0, (refl, ends.1)))
            (let f = few in omega (arith, f)) ((tt, refl, (all.1, firsts-few nillable (is_mixed c.content) c.uses h.few)), (λ e. never _ e), plans_of) (λ t. all.0)

  nothing-plan : IsPlan s (sequence false false false finish)
  nothing-plan = (plain-sequence finish, omega arith, tt, (λ e. never _ e))

  nillable-simple-plan : (n : ℕ) → IsPlan s (nillable_simple_type s n)
  nillable-simple-plan n = (((λ e. (refl, (refl, tt))), (λ e. never _ e)), omega arith, (simple-plan n, (λ e. never _ e), tt), (λ e. never _ e))

  pub nillable-has : (n i : ℕ) (e : ElementDecl) → slice_get s.elements i ≡ Some e → e.nillable ≡ true → e.kind ≡ kind.Complex n → has_nillable s n ≡ true
  nillable-has n i e got b k =
      let same : nat_eq n n ≡ true = elim (eqb_tells n n) [ inl h ↦ h.0 | inr h ↦ absurd (h.1 refl) ] in
      any_passes_from_place (is_nillable_of n) s.elements i e got
      (ap (λ c. c && elim e.kind [ kind.Simple m ↦ false | kind.Complex m ↦ nat_eq m n ]) b
      ∙ ap (λ t. true && elim t [ kind.Simple m ↦ false | kind.Complex m ↦ nat_eq m n ]) k ∙ same)

  -- a declaration, where complex types in place have such plans
  own-plan : (inner : Bool → ℕ → TypePlan) → ((b : Bool) (n : ℕ) → IsPlan s (inner b n)) → (i : ℕ) (e : ElementDecl) → slice_get s.elements i ≡ Some e → IsPlan s (own_type s inner e)
  own-plan inner within i e got = by e.kind refl
    where
      of-simple : (b : Bool) (n : ℕ) → IsPlan s (if b then nillable_simple_type s n else simple_type s n)
      of-simple true n = nillable-simple-plan n
      of-simple false n = simple-plan n

      to-type : (b : Bool) (n : ℕ) (c : ComplexDef) (a : Name) → e.nillable ≡ b → e.kind ≡ kind.Complex n → slice_get s.complexes n ≡ Some c → c.name ≡ Some a
          → IsPlan s (reference (if b then subject.Nillable n else subject.Complex n))
      to-type true n c a nil k f g =
          let name : complex_name s n ≡ Some a = ap (option_and_then (λ (d : ComplexDef). d.name)) f ∙ g in
          (a, ap (λ b. cond b (complex_name s n) None) (nillable-has n i e got nil k) ∙ name)
      to-type false n c a nil k f g = (a, ap (option_and_then (λ (d : ComplexDef). d.name)) f ∙ g)

      named : (n : ℕ) (c : ComplexDef) (o : Option Name) → e.kind ≡ kind.Complex n → slice_get s.complexes n ≡ Some c → c.name ≡ o
          → IsPlan s (elim o [ None ↦ inner e.nillable n | Some name ↦ reference (if e.nillable then subject.Nillable n else subject.Complex n) ])
      named n c None k f g = within e.nillable n
      named n c (Some a) k f g = to-type e.nillable n c a refl k f g

      of-complex : (n : ℕ) (o : Option ComplexDef) → e.kind ≡ kind.Complex n → slice_get s.complexes n ≡ o → IsPlan s (elim o [
        | None ↦ sequence false false false finish
        | Some c ↦ elim c.name [ None ↦ inner e.nillable n | Some name ↦ reference (if e.nillable then subject.Nillable n else subject.Complex n) ]
      ])
      of-complex n None k f = nothing-plan
      of-complex n (Some c) k f = named n c c.name k f refl

      by : (k : TypeOf) → e.kind ≡ k → IsPlan s (elim k [
        | kind.Simple n ↦ if e.nillable then nillable_simple_type s n else simple_type s n
        | kind.Complex n ↦ elim (slice_get s.complexes n) [
          | None ↦ sequence false false false finish
          | Some c ↦ elim c.name [ None ↦ inner e.nillable n | Some name ↦ reference (if e.nillable then subject.Nillable n else subject.Complex n) ]
        ]
      ])
      by (kind.Simple n) f = of-simple e.nillable n
      by (kind.Complex n) f = of-complex n (slice_get s.complexes n) f refl

  particle-plan : (inner : Bool → ℕ → TypePlan) → ((b : Bool) (n : ℕ) → IsPlan s (inner b n)) → (d : ℕ) → IsPlan s (particle_type s inner d)
  particle-plan inner within d = by (nat_lt d s.globals) refl
    where
      declared : (o : Option ElementDecl) → slice_get s.elements d ≡ o → IsPlan s (elim o [ None ↦ simple Booleans | Some e ↦ own_type s inner e ])
      declared None f = tt
      declared (Some e) f = own-plan inner within d e f

      by : (b : Bool) → nat_lt d s.globals ≡ b
          → IsPlan s (if b then reference (subject.Element d) else elim (slice_get s.elements d) [ None ↦ simple Booleans | Some e ↦ own_type s inner e ])
      by true f = global-named s d linked ((Decides-ltb d s.globals).0 f)
      by false f = declared (slice_get s.elements d) refl

  in-place-plan : (levels : ℕ) (nillable : Bool) (n : ℕ) → IsPlan s (in_place s levels nillable n)
  in-place-plan zero nillable n = nothing-plan
  in-place-plan (suc levels) nillable n = by (λ b m. in-place-plan levels b m) (slice_get s.complexes n) refl
    where
      by : ((b : Bool) (m : ℕ) → IsPlan s (in_place s levels b m)) → (o : Option ComplexDef) → slice_get s.complexes n ≡ o
          → IsPlan s (elim o [ None ↦ sequence false false false finish | Some c ↦ complex_plan (particle_type s (in_place s levels)) s nillable c ])
      by within None f = nothing-plan
      by within (Some c) f =
          complex-is-plan (particle_type s (in_place s levels)) (λ d. particle-plan (in_place s levels) within d) nillable c
          (all-at (IsComplexType s) s.complexes n c f linked.complexes)

  pub body-plan : (w : Subject) → IsPlan s (body s w)
  body-plan (subject.Element d) = by (slice_get s.elements d) refl
    where
      by : (o : Option ElementDecl) → slice_get s.elements d ≡ o → IsPlan s (elim o [ None ↦ simple Booleans | Some e ↦ own_type s (in_place s 21) e ])
      by None f = tt
      by (Some e) f = own-plan (in_place s 21) (λ b n. in-place-plan 21 b n) d e f
  body-plan (subject.Attribute n) = by (slice_get s.attributes n)
    where
      by : (o : Option GlobalAttribute) → IsPlan s (elim o [ None ↦ simple Booleans | Some a ↦ simple_type s a.simple ])
      by None = tt
      by (Some a) = simple-plan a.simple
  body-plan (subject.Simple n) = by (slice_get s.simples n) refl
    where
      by : (o : Option SimpleDef) → slice_get s.simples n ≡ o → IsPlan s (elim o [ None ↦ simple Booleans | Some t ↦ simple (space_of t.space) ])
      by None f = tt
      by (Some t) f = (all-at IsSimpleType s.simples n t f linked.simples).1
  body-plan (subject.Complex n) = in-place-plan 21 false n
  body-plan (subject.Nillable n) = in-place-plan 21 true n

  pub attribute-plan : (n : ℕ) → IsSimplePlan s (body s (subject.Attribute n))
  attribute-plan n = by (slice_get s.attributes n)
    where
      by : (o : Option GlobalAttribute) → IsSimplePlan s (elim o [ None ↦ simple Booleans | Some a ↦ simple_type s a.simple ])
      by None = tt
      by (Some a) = simple-plan-is a.simple

  pub body-simple : (place : Subject → ℕ) (n : ℕ) (u : Rose TypeLabel) → IsNamed place (body s (subject.Simple n)) u
      → (sp : Space) × Sound sp × IsTypeOf sp u × ((text : List ℕ) → IsSpellingAt s n text → IsSpelling sp text)
  body-simple place n u h = by (slice_get s.simples n) refl h
    where
      by : (o : Option SimpleDef) → slice_get s.simples n ≡ o → IsNamed place (elim o [ None ↦ simple Booleans | Some t ↦ simple (space_of t.space) ]) u
          → (sp : Space) × Sound sp × IsTypeOf sp u × ((text : List ℕ) → IsSpellingAt s n text → IsSpelling sp text)
      by None f k = (Booleans, tt, k, (λ text g. absurd (subst (λ o. IsSomeAnd o (λ (t : SimpleDef). IsSpelling (space_of t.space) text)) f g)))
      by (Some t) f k = (
        space_of t.space,
        (all-at IsSimpleType s.simples n t f linked.simples).1,
        k,
        (λ text g. subst (λ o. IsSomeAnd o (λ (d : SimpleDef). IsSpelling (space_of d.space) text)) f g),
      )
