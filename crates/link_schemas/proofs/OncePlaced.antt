-- Components of several documents by their places: no two of a kind have one.
use Rattle.std.proofs.Common.{◌≡◌, ℕ, ◌≤◌, arith, Bool, true, ◌⊎◌, inl, inr, List, [], ◌∷◌, map, Some, refl, sym, ap, ◌∙◌}
use Rattle.std.specs.Prelude.{◌&&◌, nat_eq, slice_get}
use Rattle.std.specs.List.{flat_map, count_by}
use Rattle.std.proofs.lemmas.Bool.{and_parts, and_from, eqb-true, eq-eqb, cases_Bool, cases_order}
use Rattle.base_texts.specs.Lists.{HasItem}
use Rattle.schema_components.specs.Bounds.{ascend}
use Rattle.schema_components.specs.Raw.{Document}
use Rattle.schema_components.proofs.Placed.{one_place_once}
use Rattle.link_names.specs.declared.places.Place.{Place}
use Rattle.link_names.specs.Order.{is_before}
use Rattle.link_names.proofs.Firsts.{true_before}
use Rattle.link_set.specs.Ordered.{in_order}
use Rattle.link_schemas.proofs.InOrder.{sum_in_order}
use Rattle.link_schemas.proofs.Items.{as_number, count_more, count_mapped, count_flat, no_count, one_number}
use Rattle.link_schemas.proofs.Kept.{NumberedFrom, sum_once}

abbrev pub is_at : Place → Place → Bool
is_at p q = nat_eq q.file p.file && nat_eq q.at p.at

pub at_itself : (p : Place) → is_at p p ≡ true
at_itself p = and_from (nat_eq p.file p.file) (nat_eq p.at p.at) (eq-eqb p.file p.file refl) (eq-eqb p.at p.at refl)

pub same_place : (p q : Place) → is_at p q ≡ true → q ≡ p
same_place p q is =
    let two = and_parts (nat_eq q.file p.file) (nat_eq q.at p.at) is in
    let file = eqb-true q.file p.file two.0 in
    let at = eqb-true q.at p.at two.1 in
    λ i. record { file = file i; at = at i }

-- of two places one is before the other, or they are one
pub compared : (a b : Place) → (is_before a b ≡ true) ⊎ ((is_before b a ≡ true) ⊎ (a ≡ b))
compared a b = elim (cases_order a.file b.file) [
  | inr apart ↦ elim apart [ inl lt ↦ inl (true_before a b (inl lt)) | inr gt ↦ inr (inl (true_before b a (inl gt))) ]
  | inl file ↦ elim (cases_order a.at b.at) [
    | inr apart ↦ elim apart [ inl lt ↦ inl (true_before a b (inr (file, lt))) | inr gt ↦ inr (inl (true_before b a (inr (sym file, gt)))) ]
    | inl at ↦ inr (inr (λ i. record { file = file i; at = at i }))
  ]
]

pub count_less : {A : Type 0} (p q : A → Bool) (xs : List A) → ((x : A) → p x ≡ true → q x ≡ true) → count_by p xs ≤ count_by q xs
count_less p q [] less = omega arith
count_less p q (x ∷ xs) less =
    let a = count_more p x xs in
    let b = count_more q x xs in
    let rest = count_less p q xs less in
    elim (cases_Bool (p x)) [
      | inl passes ↦
          let one : as_number (p x) ≡ 1 = ap as_number passes in
          let too : as_number (q x) ≡ 1 = ap as_number (less x passes) in
          omega (arith, a, b, one, too, rest)
      | inr fails ↦ let none : as_number (p x) ≡ 0 = ap as_number fails in omega (arith, a, b, none, rest)
    ]

module _ {A : Type 0} (placed : A → Place) where
  abbrev pub ArePlacedOnce : List A → Type 0
  ArePlacedOnce xs = (p : Place) → count_by (λ x. is_at p (placed x)) xs ≤ 1

  -- one place, one number
  pub one_of_place : (xs : List A) → ArePlacedOnce xs → (i j : ℕ) (x y : A) → slice_get xs i ≡ Some x → slice_get xs j ≡ Some y → placed x ≡ placed y → i ≡ j
  one_of_place xs once i j x y a b same =
      one_number (λ z. is_at (placed y) (placed z)) xs i j x y (once (placed y)) a b (ap (is_at (placed y)) same ∙ at_itself (placed y)) (at_itself (placed y))

  pub in_order_once : (before : A → A → Bool) (xs : List A) → ArePlacedOnce xs → ArePlacedOnce (in_order before xs)
  in_order_once before xs once p =
      let same = sum_in_order before (λ x. as_number (is_at p (placed x))) xs in
      let most = once p in
      omega (arith, same, most)

  -- those of documents, where those of each have its file and places of their own
  module _
      (g : Document → List A) (docs : List Document) (numbered : NumberedFrom 0 docs)
      (file : (d : Document) → HasItem docs d → (x : A) → HasItem (g d) x → (placed x).file ≡ d.file)
      (own : (d : Document) → HasItem docs d → (n : ℕ) → count_by (λ x. nat_eq n (placed x).at) (g d) ≤ 1) where
    pub of_documents_once : ArePlacedOnce (flat_map g docs)
    of_documents_once p =
        let test : A → Bool = λ x. is_at p (placed x) in
        let whole = count_flat test g docs in
        let most = sum_once (λ d. count_by test (g d)) p.file 0 docs numbered
        (λ d i.
        let less = count_less test (λ x. nat_eq p.at (placed x).at) (g d)
        (λ x is. let two = and_parts (nat_eq (placed x).file p.file) (nat_eq (placed x).at p.at) is in eq-eqb p.at (placed x).at (sym (eqb-true (placed x).at p.at two.1))) in
        let few = own d i p.at in
        omega (arith, less, few))
        (λ d i other. no_count test (g d) (λ x h. elim (cases_Bool (test x)) [
          | inl passes ↦
              let two = and_parts (nat_eq (placed x).file p.file) (nat_eq (placed x).at p.at) passes in
              absurd (other (sym (file d i x h) ∙ eqb-true (placed x).file p.file two.0))
          | inr fails ↦ fails
        ])) in
        omega (arith, whole, most)

-- places that ascend
pub ascending_once : {A : Type 0} (place_of : A → ℕ) (xs : List A) → ascend (map place_of xs) ≡ true → (n : ℕ) → count_by (λ x. nat_eq n (place_of x)) xs ≤ 1
ascending_once place_of xs ascending n =
    let once = one_place_once (map place_of xs) (map place_of xs) ascending (λ test. omega arith) n in
    let same = count_mapped (nat_eq n) place_of xs in
    omega (arith, once, same)
