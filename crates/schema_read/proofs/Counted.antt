-- The limit of components counts each part of a document without a fault.
use Rattle.std.proofs.Common.{◌≡◌, ℕ, ◌+◌, ◌≤◌, Bool, cond, List, [], ◌∷◌, ◌++◌, inl, inr, refl, ap, ◌∙◌, count_by, arith}
use Rattle.schema_read.proofs.Words.{flat_map, append-nil, sum_by-append, Rose, node, roses_of, list_of, label_of, ParticleLabel, RawContent, Bases, none, more, How, ComplexKind, Own, places_in_base, places_in_how, places_in_bases, places_in_use, places_in_model, places_among, places_in_mixed, places_in_content, places_in_kind, places_in_local, places_in_element, places_in_attribute, places_in_definition, places_in, StandAmong, counted_among, local_name, own_use, attribute_by, declared_name, joined, Settings, element_with, group_of, Parts}
use Rattle.std.proofs.lemmas.List.Concat.{flat_map-append}
use Rattle.base_trees.specs.Rose as rose
use Rattle.schema_components.specs.declared.declarations.RawContent.TheVariants as content
use Rattle.schema_components.specs.Raw as raw
use Rattle.schema_components.specs.Places.{group_place}
use Rattle.schema_read.proofs.Reading.{Reading, and_reading, of_parts, Around, Extent, Site, own_of, scope_of, IsModel, ContentBy, by_compositor, members, Rules}

module _ (test : ℕ → Bool) where
  abbrev count : List ℕ → ℕ
  count ps = count_by test ps

  count-append : (xs ys : List ℕ) → count (xs ++ ys) ≡ count xs + count ys
  count-append xs ys = sum_by-append (λ x. cond (test x) 1 0) xs ys

  count-more : (x : ℕ) (xs : List ℕ) → count (x ∷ xs) ≡ count (x ∷ []) + count xs
  count-more x xs = count-append (x ∷ []) xs

  abbrev in_each : {X : Type 0} → (X → List ℕ) → List X → ℕ
  in_each places xs = count (flat_map places xs)

  each_append : {X : Type 0} (places : X → List ℕ) (xs ys : List X) → in_each places (xs ++ ys) ≡ in_each places xs + in_each places ys
  each_append places xs ys = ap (count_by test) (flat_map-append places xs ys) ∙ count-append (flat_map places xs) (flat_map places ys)

  one_each : {X : Type 0} (places : X → List ℕ) (x : X) → in_each places (x ∷ []) ≡ count (places x)
  one_each places x = ap (count_by test) (append-nil (places x))

  one_more : {X : Type 0} (places : X → List ℕ) (x : X) (xs : List X) → in_each places (x ∷ xs) ≡ count (places x) + in_each places xs
  one_more places x xs = count-append (places x) (flat_map places xs)

  abbrev how_places : ℕ × How → List ℕ
  how_places made = places_in_how made.1

  -- ---- lists of trees and of simple types

  joined_counted : (first others : Bases) → count (places_in_bases (joined first others)) ≡ count (places_in_bases first) + count (places_in_bases others)
  joined_counted none others = omega arith
  joined_counted (more b bases) others =
      let a = count-append (places_in_base b) (places_in_bases (joined bases others)) in
      let c = count-append (places_in_base b) (places_in_bases bases) in
      omega (arith, a, c, joined_counted bases others)

  among_append : (xs ys : List (Rose ParticleLabel)) → count (places_among (roses_of (xs ++ ys))) ≡ count (places_among (roses_of xs)) + count (places_among (roses_of ys))
  among_append [] ys = omega arith
  among_append (x ∷ xs) ys =
      let a = count-append (places_in_model x) (places_among (roses_of (xs ++ ys))) in
      let c = count-append (places_in_model x) (places_among (roses_of xs)) in
      omega (arith, a, c, among_append xs ys)

  -- ---- all that is read

  abbrev pub total : Reading → ℕ
  total r =
      count (places_in_bases r.bases) + (in_each how_places r.hows + (in_each places_in_use r.uses + (count (places_among (roses_of r.particles)) + (in_each places_in_kind r.kinds
      + (in_each places_in_element r.elements + (in_each places_in_attribute r.attributes + (in_each places_in_definition r.types + in_each places_in_local r.locals)))))))

  total_both : (a b : Reading) → total (and_reading a b) ≡ total a + total b
  total_both a b =
      let j = joined_counted a.bases b.bases in
      let h = each_append how_places a.hows b.hows in
      let u = each_append places_in_use a.uses b.uses in
      let p = among_append a.particles b.particles in
      let k = each_append places_in_kind a.kinds b.kinds in
      let e = each_append places_in_element a.elements b.elements in
      let t = each_append places_in_attribute a.attributes b.attributes in
      let d = each_append places_in_definition a.types b.types in
      let l = each_append places_in_local a.locals b.locals in
      omega (arith, j, h, u, p, k, e, t, d, l)

  abbrev pub AllCounted : Around → Extent → ℕ → Reading → Type 0
  AllCounted around e n r = total r ≤ count e.counted

  -- ---- contents

  mixed_most : (model : Rose ParticleLabel) → count (places_in_mixed model) ≤ count (places_in_model model)
  mixed_most (node label rose.none) = omega arith
  mixed_most (node label (rose.more t ts)) = omega arith

  model_most : (model : Rose ParticleLabel) (ts : List (Rose ParticleLabel)) → IsModel model ts → count (places_in_model model) ≤ count (places_among (roses_of ts))
  model_most model ts is =
      let e = ap (λ l. count (places_among (roses_of l))) is.0 in
      let a = count-append (places_in_model model) [] in
      omega (arith, e, a)

  content_most : (file at : ℕ) (ts : List (Rose ParticleLabel)) (written : RawContent) → ContentBy file at ts written → count (places_in_content written) ≤ count (places_among (roses_of ts))
  content_most file at ts content.Empty by = omega arith
  content_most file at ts (content.Simple base place) by = omega arith
  content_most file at ts (content.ElementOnly model) by = model_most model ts by
  content_most file at ts (content.Mixed model) by = elim by [
    | inl empty ↦ let e : count (places_in_mixed model) ≡ 0 = ap (λ m. count (places_in_mixed m)) empty.2 in omega (arith, e)
    | inr is ↦ let one = mixed_most model in let k = model_most model ts is in omega (arith, one, k)
  ]

  counted_here : (s : Site) → count (s.at ∷ counted_among s.kids) ≡ count (s.at ∷ []) + count (counted_among s.kids)
  counted_here s = count-more s.at (counted_among s.kids)

  pub counted_rules : (said : Settings) → Rules said AllCounted
  counted_rules said =
      record {
        nothing_read = λ around least end n counted le. omega arith;
        both = λ around least middle end n xs ys a b h g. let t = total_both a b in let c = count-append xs ys in omega (arith, t, c, h, g);
        lower = λ around less least end n counted a le h. h;
        more_named = λ around e n reference bases h. h;
        first_base = λ around e n base bases h. let a = count-append (places_in_base base) (places_in_bases bases) in let c = count-append (places_in_base base) [] in omega (arith, a, c, h);
        restriction = λ s base fact h. omega (arith, h);
        list = λ s base fact h. omega (arith, h);
        union = λ s fact h. let o = one_each how_places (s.at, raw.UnionOf (members s)) in omega (arith, o, h);
        simple = λ role s body_at how fact h.
            let o = one_each how_places (body_at, how) in
            let i = ap (count_by test) (append-nil (s.at ∷ places_in_how how)) in
            let m = count-more s.at (places_in_how how) in
            omega (arith, o, i, m, counted_here s, h);
        reference_use = λ role s name fact. omega (arith, counted_here s);
        declared_use = λ role s base is fact unnamed h.
            let u = own_use (local_name said.target said.attributes_qualified (own_of s)) base (own_of s) s.at in
            let o = one_each places_in_use u in
            let m = count-more s.at (places_in_base base) in
            let b = count-append (places_in_base base) [] in
            omega (arith, o, m, b, counted_here s, h);
        named_kind = λ around least end n counted reference le. omega arith;
        simple_kind = λ around e n body h. omega (arith, h);
        complex_kind = λ role s uses ts ls written is fact deep by h.
            let o = one_each places_in_kind (ComplexKind (record { at = s.at; uses = uses; content = written })) in
            let m = count-more s.at (places_in_content written ++ flat_map places_in_use uses) in
            let a = count-append (places_in_content written) (flat_map places_in_use uses) in
            let k = content_most said.file s.at ts written by in
            omega (arith, o, m, a, k, counted_here s, h);
        reference = λ role s name fact. omega (arith, counted_here s);
        own_element = λ role s kind ls fact unnamed h.
            let e : raw.Element = element_with (local_name said.target said.elements_qualified (own_of s)) (own_of s) s.at kind in
            let o = one_more places_in_local (Own e) ls in
            let k = one_each places_in_kind kind in
            let m = count-more s.at (places_in_kind kind) in
            omega (arith, o, k, m, counted_here s, h);
        group = λ role s ts ls fact some h.
            let label : ParticleLabel = label_of (group_of said.file s.at s.name.local (own_of s) ts) in
            let a = count-append (group_place label) (places_among (roses_of ts)) in
            let e : count (group_place label) ≡ count (s.at ∷ []) = by_compositor (λ kind. count (group_place (record { kind = kind; min = label.min; max = label.max; file = said.file; at = s.at })) ≡ count (s.at ∷ [])) refl refl refl s.name.local in
            let i = count-append (group_place label ++ places_among (roses_of ts)) [] in
            omega (arith, a, e, i, counted_here s, h);
        element = λ s kind ls fact deep h.
            let o = one_each places_in_element (element_with (declared_name said.target (own_of s)) (own_of s) s.at kind) in
            let k = one_each places_in_kind kind in
            let m = count-more s.at (places_in_kind kind) in
            omega (arith, o, k, m, counted_here s, h);
        attribute = λ s fact h.
            let a : raw.Attribute = attribute_by said.target s.at (scope_of s) (own_of s) (list_of s.kids) in
            let o = one_each places_in_attribute a in
            let m = count-more s.at (places_in_base a.kind) in
            let b = count-append (places_in_base a.kind) [] in
            omega (arith, o, m, b, counted_here s, h);
        simple_type = λ s body fact same h. omega (arith, h);
        complex_type = λ s body ls fact same h. omega (arith, h);
      }

pub parts_stand : (p : Parts) (counted : List ℕ) → ((test : ℕ → Bool) → total test (of_parts p.elements p.attributes p.types p.locals) ≤ count_by test counted)
    → StandAmong (places_in p.elements p.attributes p.types p.locals) counted
parts_stand p counted h test =
    let e = flat_map places_in_element p.elements in
    let a = flat_map places_in_attribute p.attributes in
    let t = flat_map places_in_definition p.types in
    let l = flat_map places_in_local p.locals in
    let one = count-append test e (a ++ (t ++ l)) in
    let two = count-append test a (t ++ l) in
    let three = count-append test t l in
    let all = h test in
    omega (arith, one, two, three, all)
