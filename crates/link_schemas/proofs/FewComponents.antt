-- Documents without a fault have at most 10,000 components of each kind, and each complex type has no more parts.
use Rattle.std.proofs.Common.{◌≡◌, ℕ, zero, suc, ◌+◌, ◌≤◌, arith, true, inl, inr, List, [], ◌∷◌, ◌++◌, length, map, None, ap, length-append}
use Rattle.std.specs.Prelude.{slice_get}
use Rattle.std.specs.List.{flat_map, sum_by}
use Rattle.std.proofs.lemmas.List.{length-map}
use Rattle.std.proofs.lemmas.List.Concat.{length-flat_map}
use Rattle.base_texts.specs.Lists.{HasItem}
use Rattle.schema_components.specs.Places.{places_in_element, places_in_local, places_in_attribute, places_in_definition}
use Rattle.schema_components.specs.Raw.{Element, Local, Reference, Own, TypeDefinition, Document}
use Rattle.schema_components.proofs.Placed.{no_more_places}
use Rattle.link_names.specs.Parts.{in_document}
use Rattle.link_names.specs.Order.{place}
use Rattle.link_names.specs.SimpleTypes as simple
use Rattle.link_names.specs.SimpleTypes.{SimpleDefinition, simple_types}
use Rattle.link_complex.specs.ComplexTypes.{ComplexDefinition, of_document, complex_types}
use Rattle.link_set.specs.Written.{written_element, written_attribute, declared_by, global_elements, local_elements, global_attributes}
use Rattle.link_schemas.proofs.GlobalLists.{by_documents, by_kind_of, of_element, of_definition, of_local, listed}
use Rattle.link_schemas.proofs.Items.{count_all, sum_less, sums_joined, in_either, of_flat}
use Rattle.link_schemas.proofs.Kept.{AreFaultless}
use Rattle.link_schemas.proofs.PlacesOfParts.{all_places, types_by_places}

pub short_list : {A : Type 0} (xs : List A) (n : ℕ) → slice_get xs n ≡ None → length xs ≤ n
short_list [] n e = omega arith
short_list (x ∷ xs) zero e = absurd cc
short_list (x ∷ xs) (suc n) e = let rest = short_list xs n e in omega (arith, rest)

module _ (docs : List Document) (h : AreFaultless docs) where
  pub places_few : sum_by (λ (d : Document). length (all_places d)) docs ≤ 10000
  places_few =
      let long = length-flat_map (λ (d : Document). map (place d.file) d.counted) docs in
      let less = sum_less (λ (d : Document). length (all_places d)) (λ (d : Document). length (map (place d.file) d.counted)) docs
      (λ d i. let k = h.kept d i in let most = no_more_places (all_places d) d.counted k.all_counted in let same = length-map d.counted (place d.file) in omega (arith, most, same)) in
      let few = h.few in
      omega (arith, long, less, few)

  -- a list that has no more items in each document than that has places
  pub few_of : {A : Type 0} (g : Document → List A) → ((d : Document) → length (g d) ≤ length (all_places d)) → length (flat_map g docs) ≤ 10000
  few_of g less =
      let long = length-flat_map g docs in
      let sums = sum_less (λ (d : Document). length (g d)) (λ (d : Document). length (all_places d)) docs (λ d i. less d) in
      let few = places_few in
      omega (arith, long, sums, few)

each_one : {A B : Type 0} (f : A → List B) → ((x : A) → 1 ≤ length (f x)) → (xs : List A) → length xs ≤ length (flat_map f xs)
each_one f some [] = omega arith
each_one f some (x ∷ xs) =
    let a = length-append (f x) (flat_map f xs) in
    let here = some x in
    let rest = each_one f some xs in
    omega (arith, a, here, rest)

each_less : {A B C : Type 0} (f : A → List B) (g : A → List C) → ((x : A) → length (f x) ≤ length (g x)) → (xs : List A) → length (flat_map f xs) ≤ length (flat_map g xs)
each_less f g less [] = omega arith
each_less f g less (x ∷ xs) =
    let a = length-append (f x) (flat_map f xs) in
    let b = length-append (g x) (flat_map g xs) in
    let here = less x in
    let rest = each_less f g less xs in
    omega (arith, a, b, here, rest)

declares_one : (file : ℕ) (l : Local) → length (declared_by file l) ≤ length (places_in_local l)
declares_one file (Reference name at) = omega arith
declares_one file (Own e) = omega arith

-- the places of a document, kind by kind
module _ (d : Document) where
  sizes : length (all_places d)
      ≡ length (flat_map places_in_element d.elements) + (length (flat_map places_in_attribute d.attributes) + (length (flat_map places_in_definition d.types) + length (flat_map places_in_local d.locals)))
  sizes =
      let es = flat_map places_in_element d.elements in
      let as_ = flat_map places_in_attribute d.attributes in
      let ts = flat_map places_in_definition d.types in
      let ls = flat_map places_in_local d.locals in
      let a = length-append es (as_ ++ (ts ++ ls)) in
      let b = length-append as_ (ts ++ ls) in
      let c = length-append ts ls in
      omega (arith, a, b, c)

  elements_less : length (map (written_element d.file) d.elements) + length (flat_map (declared_by d.file) d.locals) ≤ length (all_places d)
  elements_less =
      let a = sizes in
      let b = length-map d.elements (written_element d.file) in
      let c = each_one places_in_element (λ e. omega arith) d.elements in
      let e = each_less (declared_by d.file) places_in_local (declares_one d.file) d.locals in
      omega (arith, a, b, c, e)

  pub attributes_less : length (map (written_attribute d.file) d.attributes) ≤ length (all_places d)
  attributes_less =
      let a = sizes in
      let b = length-map d.attributes (written_attribute d.file) in
      let c = each_one places_in_attribute (λ e. omega arith) d.attributes in
      omega (arith, a, b, c)

  types_less : length (flat_map simple.of_part (in_document d)) + length (of_document d) ≤ length (all_places d)
  types_less =
      let a = types_by_places (λ n. true) d in
      let b = count_all (flat_map simple.of_part (in_document d)) in
      let c = count_all (of_document d) in
      let e = count_all (all_places d) in
      omega (arith, a, b, c, e)

module _ (docs : List Document) (h : AreFaultless docs) where
  pub few_elements : length (global_elements docs) + length (local_elements docs) ≤ 10000
  few_elements =
      let g = λ (d : Document). map (written_element d.file) d.elements in
      let l = λ (d : Document). flat_map (declared_by d.file) d.locals in
      let a = length-flat_map g docs in
      let b = length-flat_map l docs in
      let c = sums_joined (λ d. length (g d)) (λ d. length (l d)) docs in
      let sums = sum_less (λ (d : Document). length (g d) + length (l d)) (λ (d : Document). length (all_places d)) docs (λ d i. elements_less d) in
      let few = places_few docs h in
      omega (arith, a, b, c, sums, few)

  pub few_attributes : length (global_attributes docs) ≤ 10000
  few_attributes = few_of docs h (λ d. map (written_attribute d.file) d.attributes) attributes_less

  pub few_simples : length (simple_types docs) ≤ 10000
  few_simples =
      let few = few_of docs h (λ d. flat_map simple.of_part (in_document d)) (λ d. let less = types_less d in omega (arith, less)) in
      let same : length (simple_types docs) ≡ length (flat_map (λ d. flat_map simple.of_part (in_document d)) docs) = ap length (by_documents simple.of_part docs) in
      omega (arith, few, same)

  pub few_complexes : length (complex_types docs) ≤ 10000
  few_complexes = few_of docs h of_document (λ d. let less = types_less d in omega (arith, less))

-- ---- the complex types of a document

abbrev pub EachComplex : Document → (ComplexDefinition → Type 0) → Type 0
EachComplex d P =
    ((e : Element) → HasItem d.elements e → (c : ComplexDefinition) → HasItem (by_kind_of d.file e.kind) c → P c)
    × ((t : TypeDefinition) → HasItem d.types t → (c : ComplexDefinition) → HasItem (of_definition d.file t) c → P c)
    × ((l : Local) → HasItem d.locals l → (c : ComplexDefinition) → HasItem (of_local d.file l) c → P c)

pub each_complex : (d : Document) (P : ComplexDefinition → Type 0) → EachComplex d P → (c : ComplexDefinition) → HasItem (listed d) c → P c
each_complex d P by c h =
    let es = flat_map (of_element d.file) d.elements in
    let ts = flat_map (of_definition d.file) d.types in
    let ls = flat_map (of_local d.file) d.locals in
    elim (in_either es (ts ++ ls) c h) [
      | inl i ↦ let r = of_flat (of_element d.file) d.elements c i in by.0 r.0 r.1 c r.2
      | inr i ↦ elim (in_either ts ls c i) [
        | inl j ↦ let r = of_flat (of_definition d.file) d.types c j in by.1 r.0 r.1 c r.2
        | inr j ↦ let r = of_flat (of_local d.file) d.locals c j in by.2 r.0 r.1 c r.2
      ]
    ]
