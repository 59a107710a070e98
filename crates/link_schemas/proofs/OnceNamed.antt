-- Where no component of a kind has a name that one before it has, each name stands once.
use Rattle.std.proofs.Common.{◌≡◌, ◌≤◌, arith, Bool, true, false, inl, inr, List, [], ◌∷◌, refl, sym, ap, ◌∙◌}
use Rattle.std.specs.Prelude.{◌&&◌}
use Rattle.std.specs.List.{count_by, filter, IsDistinct, AllByRecursion}
use Rattle.std.proofs.lemmas.Bool.{cases_Bool, and_from, true≢false}
use Rattle.base_texts.specs.declared.texts.Name.{Name}
use Rattle.base_texts.specs.Lists.{HasItem}
use Rattle.base_texts.specs.Names.{name_eq}
use Rattle.base_texts.proofs.NameLaws.{name_eq-Decides}
use Rattle.link_names.specs.Globals.{GlobalComponent, is_repeated, repeated}
use Rattle.link_names.specs.declared.faults.LinkWhy.{LinkWhy}
use Rattle.link_names.specs.declared.faults.LinkingFault.{LinkingFault}
use Rattle.link_names.specs.Order.{is_before, fault}
use Rattle.link_schemas.proofs.Items.{as_number, count_more, some_count, no_count, any_passes, has_kept, in_mapped}
use Rattle.link_schemas.proofs.OncePlaced.{ArePlacedOnce, is_at, at_itself, compared}

module _ (gs : List GlobalComponent) (none : (g : GlobalComponent) → HasItem gs g → is_repeated gs g ≡ false) where
  clash : (g h : GlobalComponent) → HasItem gs g → HasItem gs h → g.name ≡ h.name → is_before g.place h.place ≡ true → ⊥
  clash g h here there same before =
      let passes = and_from (name_eq g.name h.name) (is_before g.place h.place) ((name_eq-Decides g.name h.name).1 same) before in
      true≢false (sym (any_passes (λ k. name_eq k.name h.name && is_before k.place h.place) gs g here passes) ∙ none h there)

  one_place : (x y : GlobalComponent) (xs : List GlobalComponent) → ArePlacedOnce (λ (g : GlobalComponent). g.place) (x ∷ xs) → HasItem xs y → x.place ≡ y.place → ⊥
  one_place x y xs once h same =
      let test : GlobalComponent → Bool = λ g. is_at x.place g.place in
      let more = count_more test x xs in
      let one : as_number (test x) ≡ 1 = ap as_number (at_itself x.place) in
      let other = some_count test xs y h (ap (is_at x.place) (sym same) ∙ at_itself x.place) in
      let most = once x.place in
      omega (arith, more, one, other, most)

  behind_once : (x : GlobalComponent) (xs : List GlobalComponent) → ArePlacedOnce (λ (g : GlobalComponent). g.place) (x ∷ xs) → ArePlacedOnce (λ (g : GlobalComponent). g.place) xs
  behind_once x xs once p = let more = count_more (λ (g : GlobalComponent). is_at p g.place) x xs in let most = once p in omega (arith, more, most)

  differ : (x y : GlobalComponent) (xs : List GlobalComponent) → HasItem gs x → HasItem gs y → ArePlacedOnce (λ (g : GlobalComponent). g.place) (x ∷ xs) → HasItem xs y
      → x.name ≡ y.name → ⊥
  differ x y xs here there once h same = elim (compared x.place y.place) [
    | inl before ↦ clash x y here there same before
    | inr other ↦ elim other [
      | inl behind ↦ clash y x there here (sym same) behind
      | inr at ↦ one_place x y xs once h at
    ]
  ]

  rest_once : (a : Name) (xs : List GlobalComponent) → ((x : GlobalComponent) → HasItem xs x → HasItem gs x) → ArePlacedOnce (λ (g : GlobalComponent). g.place) xs
      → count_by (λ (g : GlobalComponent). name_eq a g.name) xs ≤ 1
  rest_once a [] inside once = omega arith
  rest_once a (x ∷ xs) inside once =
      let test : GlobalComponent → Bool = λ g. name_eq a g.name in
      let more = count_more test x xs in
      let rest = rest_once a xs (λ y h. inside y (inr h)) (behind_once x xs once) in
      elim (cases_Bool (test x)) [
        | inl passes ↦
            let one : as_number (test x) ≡ 1 = ap as_number passes in
            let others : count_by test xs ≡ 0 = no_count test xs (λ y h. elim (cases_Bool (test y)) [
              | inl too ↦
                  absurd (differ x y xs (inside x (inl refl)) (inside y (inr h)) once h (sym ((name_eq-Decides a x.name).0 passes) ∙ (name_eq-Decides a y.name).0 too))
              | inr fails ↦ fails
            ]) in
            omega (arith, more, one, others)
        | inr fails ↦ let zero_here : as_number (test x) ≡ 0 = ap as_number fails in omega (arith, more, zero_here, rest)
      ]

  pub named_once : ArePlacedOnce (λ (g : GlobalComponent). g.place) gs → (a : Name) → count_by (λ (g : GlobalComponent). name_eq a g.name) gs ≤ 1
  named_once once a = rest_once a gs (λ x h. h) once

pub none_repeated : (why : LinkWhy) (gs : List GlobalComponent) → ((f : LinkingFault) → HasItem (repeated why gs) f → ⊥) → (g : GlobalComponent) → HasItem gs g → is_repeated gs g ≡ false
none_repeated why gs none g h = elim (cases_Bool (is_repeated gs g)) [
  | inl passes ↦
      absurd (none (fault why g.place) (in_mapped (λ (k : GlobalComponent). fault why k.place) (filter (is_repeated gs) gs) g (has_kept (is_repeated gs) gs g h passes)))
  | inr fails ↦ fails
]

-- names of which each stands once differ
others_differ : (x : Name) (xs : List Name) → count_by (name_eq x) xs ≡ 0 → AllByRecursion (λ y. name_eq x y ≡ false) xs
others_differ x [] none = tt
others_differ x (y ∷ ys) none =
    let more = count_more (name_eq x) y ys in
    elim (cases_Bool (name_eq x y)) [
      | inl passes ↦ let one : as_number (name_eq x y) ≡ 1 = ap as_number passes in absurd (omega (arith, more, one, none))
      | inr fails ↦ (fails, others_differ x ys (omega (arith, more, none)))
    ]

pub distinct_names : (xs : List Name) → ((a : Name) → count_by (name_eq a) xs ≤ 1) → IsDistinct name_eq xs
unfolding IsDistinct
distinct_names [] once = tt
distinct_names (x ∷ xs) once =
    let more = count_more (name_eq x) x xs in
    let one : as_number (name_eq x x) ≡ 1 = ap as_number ((name_eq-Decides x x).1 refl) in
    let most = once x in
    (others_differ x xs (omega (arith, more, one, most)), distinct_names xs (λ a. let next = count_more (name_eq a) x xs in let few = once a in omega (arith, next, few)))
