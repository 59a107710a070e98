-- No type of a map stands in more others than a printed type may.
use Rattle.std.proofs.Common.{◌≡◌, ℕ, zero, suc, ◌+◌, ◌*◌, ◌-◌, ◌≤◌, max, Bool, true, false, cond, ◌&&◌, ◌||◌, not, List, [], ◌∷◌, ◌++◌, Option, Some, None, refl, ap, arith, true≢false}
use Rattle.std.specs.Prelude.{slice_get, nat_lt, if◌then◌else◌}
use Rattle.base_trees.specs.Rose.{Rose, node, Roses, height, depth_all}
use Rattle.base_trees.specs.Rose as rose
use Rattle.base_texts.specs.declared.texts.Name.{Name}
use Rattle.simple_types.specs.Seen.{space_of}
use Rattle.simple_types.specs.Sound.{is_union, has_list, have_list, Sound, AreSound}
use Rattle.simple_types.specs.Space.{Space, Spaces, none, more, Booleans, Wholes, Numbers, Words, Characters, ListOf, UnionOf}
use Rattle.content_models.specs.declared.particles.ParticleKind.{ParticleKind}
use Rattle.content_models.specs.declared.particles.ParticleKind.TheVariants as particle
use Rattle.content_models.specs.declared.particles.ParticleLabel.{ParticleLabel}
use Rattle.content_models.specs.Particle as model
use Rattle.content_models.specs.Particle.{Particle, occurs, Term, Particles}
use Rattle.content_models.specs.Seen.{term_seen, seen, all_seen}
use Rattle.asn_types.specs.declared.types.Component.{Component}
use Rattle.asn_types.specs.declared.types.TypeLabel.{TypeLabel}
use Rattle.schema_components.specs.declared.components.ElementDecl.{ElementDecl}
use Rattle.schema_components.specs.declared.components.TypeOf.{TypeOf}
use Rattle.schema_components.specs.declared.components.TypeOf.TheVariants as kind
use Rattle.schema_components.specs.declared.components.AttributeUse.{AttributeUse}
use Rattle.schema_components.specs.declared.components.SimpleDef.{SimpleDef}
use Rattle.schema_components.specs.declared.components.ComplexDef.{ComplexDef}
use Rattle.schema_components.specs.declared.components.GlobalAttribute.{GlobalAttribute}
use Rattle.schema_components.specs.declared.components.Content.{Content}
use Rattle.schema_components.specs.declared.components.Content.TheVariants as content_
use Rattle.schema_components.specs.Components.{Set}
use Rattle.schema_components.specs.Linked.{IsContent, IsComplexType, IsLinked}
use Rattle.map_subjects.specs.declared.subjects.Subject.{Subject}
use Rattle.map_subjects.specs.declared.subjects.Subject.TheVariants as subject
use Rattle.map_assignments.specs.Plans.{Label, TypePlan, simple, sequence, choice, repeated, order_items, reference, Parts, finish, part}
use Rattle.map_assignments.specs.Planning.{simple_plan, simple_type, attributes, label_of, list_label_of, is_once, is_optional, particle_part, is_mixed, is_ordered, with_texts, with_order, order_type, order_plan, labels, labels_before, term_type, particle_parts, top_part, top, content_parts, content_type, rest_parts, complex_plan, nillable_simple_type, own_type, particle_type, in_place, body}
use Rattle.map_assignments.specs.Naming.{IsSimpleType, AreMembers, IsNamed, AreNamed}
use Rattle.module_text.specs.declared.spots.Spot.{Spot}
use Rattle.module_text.specs.Plain.{limit}
use Rattle.map_printable.proofs.Printing.{Prints, AllPrint}
use Rattle.map_printable.proofs.Spots.{label_spot}
use Rattle.module_text.specs.Printable.{item_spot}
use Rattle.map_printable.proofs.Plans.{all_at, either_way}

-- ---- simple types

leaf-height : (l : TypeLabel) (t : Rose TypeLabel) (n : ℕ) → 1 ≤ n → t ≡ node l rose.none → height t ≤ n
leaf-height l t n some is = let h = ap height is in omega (arith, some, h)

or-first : (a b : Bool) → (a || b) ≡ false → a ≡ false
or-first true b e = absurd (true≢false e)
or-first false b e = refl

or-second : (a b : Bool) → (a || b) ≡ false → b ≡ false
or-second true b e = absurd (true≢false e)
or-second false b e = e

-- neither a list nor a union
single-height : (s : Space) (t : Rose TypeLabel) → has_list s ≡ false → is_union s ≡ false → IsSimpleType s t → height t ≤ 1
single-height Booleans t lists union h = leaf-height _ t 1 (omega arith) h
single-height (Wholes least greatest) t lists union h = leaf-height _ t 1 (omega arith) h
single-height (Numbers numbers) t lists union h = leaf-height _ t 1 (omega arith) h
single-height (Words how words) t lists union h = leaf-height _ t 1 (omega arith) h.type
single-height (Characters how least most class) t lists union h = leaf-height _ t 1 (omega arith) h
single-height (ListOf s least most) t lists union h = absurd (true≢false lists)
single-height (UnionOf members) t lists union h = absurd (true≢false union)

singles-height : (before : List (List ℕ)) (ss : Spaces) (parts : List Component) (ts : Roses TypeLabel) → have_list ss ≡ false → AreSound ss → AreMembers before ss parts ts → depth_all ts ≤ 1
singles-height before none parts ts lists sound h = let e = ap depth_all h.1 in omega (arith, e)
singles-height before (more s ss) parts ts lists sound h =
    let e = ap depth_all h.6 in
    let first = single-height s h.2 (or-first (has_list s) (have_list ss) lists) sound.1 h.7 in
    let others = singles-height (before ++ h.0 ∷ []) ss h.1 h.3 (or-second (has_list s) (have_list ss) lists) sound.2 h.8 in
    omega (arith, e, first, others)

-- no list
item-height : (s : Space) (t : Rose TypeLabel) → has_list s ≡ false → Sound s → IsSimpleType s t → height t ≤ 2
item-height Booleans t lists sound h = leaf-height _ t 2 (omega arith) h
item-height (Wholes least greatest) t lists sound h = leaf-height _ t 2 (omega arith) h
item-height (Numbers numbers) t lists sound h = leaf-height _ t 2 (omega arith) h
item-height (Words how words) t lists sound h = leaf-height _ t 2 (omega arith) h.type
item-height (Characters how least most class) t lists sound h = leaf-height _ t 2 (omega arith) h
item-height (ListOf s least most) t lists sound h = absurd (true≢false lists)
item-height (UnionOf members) t lists sound h =
    let e = ap height h.2 in
    let all = singles-height [] members h.0 h.1 lists sound.1 h.3 in
    omega (arith, e, all)

-- no union
member-height : (s : Space) (t : Rose TypeLabel) → is_union s ≡ false → Sound s → IsSimpleType s t → height t ≤ 3
member-height Booleans t union sound h = leaf-height _ t 3 (omega arith) h
member-height (Wholes least greatest) t union sound h = leaf-height _ t 3 (omega arith) h
member-height (Numbers numbers) t union sound h = leaf-height _ t 3 (omega arith) h
member-height (Words how words) t union sound h = leaf-height _ t 3 (omega arith) h.type
member-height (Characters how least most class) t union sound h = leaf-height _ t 3 (omega arith) h
member-height (ListOf s least most) t union sound h =
    let e = ap height h.1 in
    let item = item-height s h.0 sound.1 sound.0 h.2 in
    omega (arith, e, item)
member-height (UnionOf members) t union sound h = absurd (true≢false union)

members-height : (before : List (List ℕ)) (ss : Spaces) (parts : List Component) (ts : Roses TypeLabel) → AreSound ss → AreMembers before ss parts ts → depth_all ts ≤ 3
members-height before none parts ts sound h = let e = ap depth_all h.1 in omega (arith, e)
members-height before (more s ss) parts ts sound h =
    let e = ap depth_all h.6 in
    let first = member-height s h.2 sound.1 sound.0 h.7 in
    let others = members-height (before ++ h.0 ∷ []) ss h.1 h.3 sound.2 h.8 in
    omega (arith, e, first, others)

simple-height : (s : Space) (t : Rose TypeLabel) → Sound s → IsSimpleType s t → height t ≤ 4
simple-height Booleans t sound h = leaf-height _ t 4 (omega arith) h
simple-height (Wholes least greatest) t sound h = leaf-height _ t 4 (omega arith) h
simple-height (Numbers numbers) t sound h = leaf-height _ t 4 (omega arith) h
simple-height (Words how words) t sound h = leaf-height _ t 4 (omega arith) h.type
simple-height (Characters how least most class) t sound h = leaf-height _ t 4 (omega arith) h
simple-height (ListOf s least most) t sound h = let low = member-height (ListOf s least most) t refl sound h in omega (arith, low)
simple-height (UnionOf members) t sound h =
    let e = ap height h.2 in
    let all = members-height [] members h.0 h.1 sound.1 h.3 in
    omega (arith, e, all)

-- ---- plans

-- how many levels a type of the plan has at most
abbrev mutual
  levels_of : TypePlan → ℕ
  levels_of (simple s) = 4
  levels_of (sequence nillable mixed ordered ps) = suc (levels_in ps)
  levels_of (choice ps) = suc (levels_in ps)
  levels_of (repeated l p least most) = suc (levels_of p)
  levels_of (order_items firsts ls) = 1
  levels_of (reference w) = 1

  levels_in : Parts → ℕ
  levels_in finish = 0
  levels_in (part l optional p ps) = max (levels_of p) (levels_in ps)

module _ (place : Subject → ℕ) where
  mutual
    named-height : (spot : Spot) (p : TypePlan) (t : Rose TypeLabel) → Prints spot p → IsNamed place p t → height t ≤ levels_of p
    named-height spot (simple s) t g h = simple-height s t g.0 h
    named-height spot (sequence nillable mixed ordered ps) t g h =
        let e = ap height h.2 in
        let all = parts-height nillable mixed ordered 0 [] ps h.0 h.1 g h.3 in
        omega (arith, e, all)
    named-height spot (choice ps) t g h =
        let e = ap height h.2 in
        let all = parts-height false false false 0 [] ps h.0 h.1 g.0 h.3 in
        omega (arith, e, all)
    named-height spot (repeated l p least most) t g h =
        let e = ap height h.1 in
        let inner = named-height (item_spot spot) p h.0 g.1 h.2 in
        omega (arith, e, inner)
    named-height spot (order_items firsts ls) t g h = leaf-height _ t 1 (omega arith) h.type
    named-height spot (reference w) t g h = leaf-height _ t 1 (omega arith) h

    parts-height : (nillable mixed ordered : Bool) (i : ℕ) (before : List (List ℕ)) (ps : Parts) (parts : List Component) (ts : Roses TypeLabel)
        → AllPrint nillable mixed ordered i ps → AreNamed place before ps parts ts → depth_all ts ≤ levels_in ps
    parts-height nillable mixed ordered i before finish parts ts g h = let e = ap depth_all h.1 in omega (arith, e)
    parts-height nillable mixed ordered i before (part l optional p ps) parts ts g h =
        let e = ap depth_all h.6 in
        let first = named-height (label_spot l) p h.2 g.1 h.7 in
        let others = parts-height nillable mixed ordered (i + 1) (before ++ h.0 ∷ []) ps h.1 h.3 g.2 h.8 in
        omega (arith, e, first, others)

-- ---- content models

abbrev mutual
  tall : Particle → ℕ
  tall (occurs t least most) = suc (tall_in t)

  tall_in : Term → ℕ
  tall_in (model.element d name) = 0
  tall_in (model.sequence ps) = tall_all ps
  tall_in (model.choice ps) = tall_all ps
  tall_in (model.all ps) = tall_all ps

  tall_all : Particles → ℕ
  tall_all model.none = 0
  tall_all (model.more p ps) = max (tall p) (tall_all ps)

kind-tall : (k : ParticleKind) (ps : Particles) (n : ℕ) → tall_all ps ≤ n → tall_in (term_seen k ps) ≤ n
kind-tall (particle.Element decl name) ps n h = omega arith
kind-tall particle.Sequence ps n h = h
kind-tall particle.Choice ps n h = h
kind-tall particle.All ps n h = h

mutual
  seen-tall : (m : Rose ParticleLabel) → tall (seen m) ≤ height m
  seen-tall (node l ts) = let low = kind-tall l.kind (all_seen ts) (depth_all ts) (all-seen_tall ts) in omega (arith, low)

  all-seen_tall : (ts : Roses ParticleLabel) → tall_all (all_seen ts) ≤ depth_all ts
  all-seen_tall rose.none = omega arith
  all-seen_tall (rose.more t ts) = omega (arith, seen-tall t, all-seen_tall ts)

-- the part of a particle has two levels more than its type at most
particle-levels : (in_choice : Bool) (t : Term) (type : TypePlan) (least : ℕ) (most : Option ℕ) (rest : Parts) (n : ℕ) → suc (levels_of type) ≤ n → levels_in rest ≤ n
    → levels_in (particle_part in_choice t type least most rest) ≤ n
particle-levels in_choice t type least most rest n low others =
    let once : Parts = part (label_of t) false type rest in
    let perhaps : Parts = part (label_of t) true type rest in
    let several : Parts = part (list_label_of t) false (repeated (label_of t) type least most) rest in
    either_way (λ ps. levels_in ps ≤ n) (is_once least most) once (cond (is_optional least most && not in_choice) perhaps several) (omega (arith, low, others))
    (either_way (λ ps. levels_in ps ≤ n) (is_optional least most && not in_choice) perhaps several (omega (arith, low, others)) (omega (arith, low, others)))

-- where the types of declarations have so many levels
module _ (T : ℕ → TypePlan) (n : ℕ) (some : 1 ≤ n) (low : (d : ℕ) → levels_of (T d) ≤ n) where
  mutual
    term-levels : (t : Term) (k : ℕ) → tall_in t ≤ k → levels_of (term_type T t) ≤ n + 2 * k
    term-levels (model.element d name) k h = let l = low d in omega (arith, l)
    term-levels (model.sequence ps) k h = particles-levels false ps k h
    term-levels (model.choice ps) k h = particles-levels true ps k h
    term-levels (model.all ps) k h = particles-levels false ps k h

    particles-levels : (in_choice : Bool) (ps : Particles) (k : ℕ) → tall_all ps ≤ k → suc (levels_in (particle_parts T in_choice ps)) ≤ n + 2 * k
    particles-levels in_choice model.none k h = omega (arith, some)
    particles-levels in_choice (model.more (occurs t least most) ps) k h =
        let one = term-levels t (k - 1) (omega (arith, h)) in
        let others = particles-levels in_choice ps k (omega (arith, h)) in
        let above : suc (tall_in t) ≤ k = omega (arith, h) in
        let all = particle-levels in_choice t (term_type T t) least most (particle_parts T in_choice ps) (n + 2 * k - 1) (omega (arith, one, above)) (omega (arith, others)) in
        omega (arith, all, above, some)

  top_part-levels : (t : Term) (least : ℕ) (most : Option ℕ) → tall_in t ≤ 16 → levels_in (top_part T t least most) ≤ n + 33
  top_part-levels t least most h =
      let one = term-levels t 16 h in particle-levels false t (term_type T t) least most finish (n + 33) (omega (arith, one)) (omega arith)

  top-levels : (p : Particle) → tall p ≤ 17 → levels_in (top T p) ≤ n + 33
  top-levels (occurs (model.element d name) least most) h = top_part-levels (model.element d name) least most (omega arith)
  top-levels (occurs (model.sequence ps) least most) h =
      let all = particles-levels false ps 16 (omega (arith, h)) in
      either_way (λ qs. levels_in qs ≤ n + 33) (is_once least most) (particle_parts T false ps) (top_part T (model.sequence ps) least most)
      (omega (arith, all)) (top_part-levels (model.sequence ps) least most (omega (arith, h)))
  top-levels (occurs (model.choice ps) least most) h = top_part-levels (model.choice ps) least most (omega (arith, h))
  top-levels (occurs (model.all ps) least most) h = let all = particles-levels false ps 16 (omega (arith, h)) in omega (arith, all)

-- ---- numbers

one-more : (a n : ℕ) → a ≤ n + 34 → suc a ≤ n + 35
one-more a n h = omega (arith, h)

next-level : (a levels : ℕ) → a ≤ 5 + 35 * levels + 35 → a ≤ 5 + 35 * suc levels
next-level a levels h = omega (arith, h)

all-levels : (a : ℕ) → a ≤ 5 + 35 * 21 → a ≤ 740
all-levels a h = omega (arith, h)

more-levels : (a : ℕ) → a ≤ 4 → a ≤ 740
more-levels a h = omega (arith, h)

-- ---- the components of a linked set

module _ (s : Set) (linked : IsLinked s) where
  simple-levels : (n : ℕ) → levels_of (simple_type s n) ≤ 4
  simple-levels n = by (slice_get s.simples n)
    where
      named : (t : SimpleDef) (o : Option Name) → levels_of (elim o [ None ↦ simple (space_of t.space) | Some name ↦ reference (subject.Simple n) ]) ≤ 4
      named t None = omega arith
      named t (Some name) = omega arith

      by : (o : Option SimpleDef) → levels_of (elim o [ None ↦ simple Booleans | Some t ↦ simple_plan t n ]) ≤ 4
      by None = omega arith
      by (Some t) = named t t.name

  attributes-levels : (us : List AttributeUse) (rest : Parts) (n : ℕ) → 4 ≤ n → levels_in rest ≤ n → levels_in (attributes s us rest) ≤ n
  attributes-levels [] rest n some h = h
  attributes-levels (u ∷ us) rest n some h =
      let one = simple-levels u.simple in
      let others = attributes-levels us rest n some h in
      omega (arith, one, others, some)

  module _ (T : ℕ → TypePlan) (n : ℕ) (some : 5 ≤ n) (low : (d : ℕ) → levels_of (T d) ≤ n) where
    content_parts-levels : (c : Content) → IsContent s c → levels_in (content_parts T s c) ≤ n + 33
    content_parts-levels content_.Empty h = omega arith
    content_parts-levels (content_.Simple k) h = let one = simple-levels k in omega (arith, one, some)
    content_parts-levels (content_.ElementOnly m) h =
        let high = h.shallow in let seen_high = seen-tall m in top-levels T n (omega (arith, some)) low (seen m) (omega (arith, high, seen_high))
    content_parts-levels (content_.Mixed m) h =
        let high = h.shallow in let seen_high = seen-tall m in top-levels T n (omega (arith, some)) low (seen m) (omega (arith, high, seen_high))

    content_type-levels : (c : Content) → IsContent s c → levels_of (content_type T s c) ≤ n + 34
    content_type-levels content_.Empty h = omega arith
    content_type-levels (content_.Simple k) h = let one = simple-levels k in omega (arith, one, some)
    content_type-levels (content_.ElementOnly m) h = let all = content_parts-levels (content_.ElementOnly m) h in omega (arith, all)
    content_type-levels (content_.Mixed m) h = let all = content_parts-levels (content_.Mixed m) h in omega (arith, all)

    rest-levels : (nillable : Bool) (c : Content) → IsContent s c → levels_in (rest_parts T s nillable c) ≤ n + 34
    rest-levels true c h = let one = content_type-levels c h in omega (arith, one)
    rest-levels false c h = let all = content_parts-levels c h in omega (arith, all)

    composed-levels : (mixed ordered : Bool) (firsts ls : List Label) (rest : Parts) → levels_in rest ≤ n + 34
        → levels_in (with_texts mixed (with_order ordered (order_type firsts ls) rest)) ≤ n + 34
    composed-levels true true firsts ls rest h = omega (arith, some, h)
    composed-levels true false firsts ls rest h = omega (arith, some, h)
    composed-levels false true firsts ls rest h = omega (arith, some, h)
    composed-levels false false firsts ls rest h = h

    complex-levels : (nillable : Bool) (c : ComplexDef) → IsComplexType s c → levels_of (complex_plan T s nillable c) ≤ n + 35
    complex-levels nillable c h =
        let rest = rest_parts T s nillable c.content in
        let mixed = is_mixed c.content in
        let ordered = is_ordered c.content in
        let behind = attributes s c.uses rest in
        one-more (levels_in (with_texts mixed (with_order ordered (order_plan T s nillable c) behind))) n
        (composed-levels mixed ordered (if nillable then [] else labels_before mixed c.uses) (labels (content_parts T s c.content)) behind
        (attributes-levels c.uses rest (n + 34) (omega (arith, some)) (rest-levels nillable c.content h.content)))

  module _ (inner : Bool → ℕ → TypePlan) (n : ℕ) (some : 5 ≤ n) (low : (b : Bool) (k : ℕ) → levels_of (inner b k) ≤ n) where
    own-levels : (e : ElementDecl) → levels_of (own_type s inner e) ≤ n
    own-levels e = by e.kind
      where
        named : (k : ℕ) (o : Option Name) → levels_of (elim o [ None ↦ inner e.nillable k | Some name ↦ reference (if e.nillable then subject.Nillable k else subject.Complex k) ]) ≤ n
        named k None = low e.nillable k
        named k (Some name) = omega (arith, some)

        complex : (k : ℕ) (o : Option ComplexDef) → levels_of (elim o [
          | None ↦ sequence false false false finish
          | Some c ↦ elim c.name [ None ↦ inner e.nillable k | Some name ↦ reference (if e.nillable then subject.Nillable k else subject.Complex k) ]
        ]) ≤ n
        complex k None = omega (arith, some)
        complex k (Some c) = named k c.name

        simples : (k : ℕ) → levels_of (if e.nillable then nillable_simple_type s k else simple_type s k) ≤ n
        simples k =
            let one = simple-levels k in
            either_way (λ p. levels_of p ≤ n) e.nillable (nillable_simple_type s k) (simple_type s k) (omega (arith, one, some)) (omega (arith, one, some))

        by : (t : TypeOf) → levels_of (elim t [
          | kind.Simple k ↦ if e.nillable then nillable_simple_type s k else simple_type s k
          | kind.Complex k ↦ elim (slice_get s.complexes k) [
            | None ↦ sequence false false false finish
            | Some c ↦ elim c.name [ None ↦ inner e.nillable k | Some name ↦ reference (if e.nillable then subject.Nillable k else subject.Complex k) ]
          ]
        ]) ≤ n
        by (kind.Simple k) = simples k
        by (kind.Complex k) = complex k (slice_get s.complexes k)

    particle_type-levels : (d : ℕ) → levels_of (particle_type s inner d) ≤ n
    particle_type-levels d =
        let other : TypePlan = elim (slice_get s.elements d) [ None ↦ simple Booleans | Some e ↦ own_type s inner e ] in
        either_way (λ p. levels_of p ≤ n) (nat_lt d s.globals) (reference (subject.Element d)) other (omega (arith, some)) (by (slice_get s.elements d))
      where
        by : (o : Option ElementDecl) → levels_of (elim o [ None ↦ simple Booleans | Some e ↦ own_type s inner e ]) ≤ n
        by None = omega (arith, some)
        by (Some e) = own-levels e

  in_place-levels : (levels : ℕ) (nillable : Bool) (k : ℕ) → levels_of (in_place s levels nillable k) ≤ 5 + 35 * levels
  in_place-levels zero nillable k = omega arith
  in_place-levels (suc levels) nillable k = by (λ b m. in_place-levels levels b m) (slice_get s.complexes k) refl
    where
      by : ((b : Bool) (m : ℕ) → levels_of (in_place s levels b m) ≤ 5 + 35 * levels) → (o : Option ComplexDef) → slice_get s.complexes k ≡ o
          → levels_of (elim o [ None ↦ sequence false false false finish | Some c ↦ complex_plan (particle_type s (in_place s levels)) s nillable c ]) ≤ 5 + 35 * suc levels
      by below None is = omega arith
      by below (Some c) is =
          let T = particle_type s (in_place s levels) in
          let n = 5 + 35 * levels in
          let some : 5 ≤ n = omega arith in
          next-level (levels_of (complex_plan T s nillable c)) levels
          (complex-levels T n some (particle_type-levels (in_place s levels) n some below) nillable c (all_at (IsComplexType s) s.complexes k c is linked.complexes))

  body-levels : (w : Subject) → levels_of (body s w) ≤ 740
  body-levels (subject.Element d) = by (slice_get s.elements d)
    where
      low : (b : Bool) (k : ℕ) → levels_of (in_place s 21 b k) ≤ 740
      low b k = all-levels (levels_of (in_place s 21 b k)) (in_place-levels 21 b k)

      by : (o : Option ElementDecl) → levels_of (elim o [ None ↦ simple Booleans | Some e ↦ own_type s (in_place s 21) e ]) ≤ 740
      by None = omega arith
      by (Some e) = own-levels (in_place s 21) 740 (omega arith) low e
  body-levels (subject.Attribute n) = by (slice_get s.attributes n)
    where
      by : (o : Option GlobalAttribute) → levels_of (elim o [ None ↦ simple Booleans | Some a ↦ simple_type s a.simple ]) ≤ 740
      by None = omega arith
      by (Some a) = more-levels (levels_of (simple_type s a.simple)) (simple-levels a.simple)
  body-levels (subject.Simple n) = by (slice_get s.simples n)
    where
      by : (o : Option SimpleDef) → levels_of (elim o [ None ↦ simple Booleans | Some t ↦ simple (space_of t.space) ]) ≤ 740
      by None = omega arith
      by (Some t) = omega arith
  body-levels (subject.Complex n) = all-levels (levels_of (in_place s 21 false n)) (in_place-levels 21 false n)
  body-levels (subject.Nillable n) = all-levels (levels_of (in_place s 21 true n)) (in_place-levels 21 true n)

  pub body-height : (place : Subject → ℕ) (spot : Spot) (w : Subject) (t : Rose TypeLabel) → Prints spot (body s w) → IsNamed place (body s w) t → height t ≤ limit
  body-height place spot w t g h =
      within (height t) (levels_of (body s w)) (named-height place spot (body s w) t g h) (body-levels w)
    where
      within : (a b : ℕ) → a ≤ b → b ≤ 740 → a ≤ 1024
      within a b h k = omega (arith, h, k)
