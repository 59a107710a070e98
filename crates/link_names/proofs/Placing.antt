-- Tables of the first places of names.
use Rattle.std.proofs.Common.{◌≡◌, ℕ, ◌+◌, ◌-◌, ◌<◌, ◌≤◌, arith, Bool, true, false, inl, inr, List, [], ◌∷◌, ◌++◌, length, drop, take, get_or, map, append_assoc, append-nil, Option, Some, None, refl, sym, ap, ◌∙◌, add-one, Bor}
use Rattle.std.specs.Prelude.{◌&&◌, ◌||◌, cond}
use Rattle.std.specs.List.{list_any, filter}
use Rattle.std.specs.Cmp.{both_ways}
use Rattle.std.specs.Ordering.{is_eq}
use Rattle.std.specs.BTreeMap as tree
use Rattle.std.specs.BTreeMap.{BTreeMap}
use Rattle.std.specs.declared.cmp.Ordering.{Ordering}
use Rattle.std.specs.declared.cmp.Ordering.TheVariants.{Less, Equal, Greater}
use Rattle.std.proofs.Math.Seq.{drop-cons}
use Rattle.std.proofs.lemmas.List.{map_more, map-append}
use Rattle.std.proofs.lemmas.List.Elements.{filter-append}
use Rattle.std.proofs.lemmas.Cmp.{tied_itself}
use Rattle.std.proofs.lemmas.Bool.{cases_Bool, cases_lt, cases_order}
use Rattle.base_texts.specs.declared.texts.Name.{Name}
use Rattle.base_texts.specs.Names.{name_eq, name_cmp}
use Rattle.base_texts.proofs.NameLaws.{name_eq-Decides, name_cmp_total, exact_names}
use Rattle.link_names.specs.declared.places.Place.{Place}
use Rattle.link_names.specs.declared.global_names.NamedPart.{NamedPart}
use Rattle.link_names.specs.Order.{is_before, fault, IsFirstOf, earlier}
use Rattle.link_names.specs.declared.faults.LinkingFault.{LinkingFault}
use Rattle.link_names.specs.declared.faults.LinkWhy.{LinkWhy}
use Rattle.link_names.specs.Globals.{GlobalComponent, is_repeated}
use Rattle.link_names.specs.Seen.{globals_of, global_of}
use Rattle.link_names.specs.Private.Tables.{place_in, lesser, stands_before, first_place}
use Rattle.link_names.proofs.Firsts.{one_more, Before, before_true, before_false, false_before}

equal_of : (r : Ordering) → is_eq r ≡ true → r ≡ Equal
equal_of Less e = absurd (cc)
equal_of Equal e = refl
equal_of Greater e = absurd (cc)

pub name_test : (a b : Name) → is_eq (name_cmp a b) ≡ name_eq a b
name_test a b =
    both_ways (is_eq (name_cmp a b)) (name_eq a b)
    (λ e. (name_eq-Decides a b).1 (exact_names a b (equal_of (name_cmp a b) e)))
    (λ e. ap (λ z. is_eq (name_cmp a z)) (sym ((name_eq-Decides a b).0 e)) ∙ ap is_eq (tied_itself name_cmp_total a))

-- what is left from a place on: that at the place, and what is behind
pub cut : {A : Type 0} (xs : List A) (i : ℕ) (x : A) → 0 < i → i ≤ length xs → x ≡ get_or xs (i - 1) x → drop (i - 1) xs ≡ x ∷ drop i xs
cut xs i x lt le is =
    let small : i - 1 < length xs = omega arith in
    let same : (i - 1) + 1 ≡ i = omega arith in
    rw add-one (drop-cons xs (i - 1) x small) ∙ ap (λ y. y ∷ drop ((i - 1) + 1) xs) (sym is) ∙ ap (λ n. x ∷ drop n xs) same

-- the table with one place more
put : (old new : BTreeMap (Bor Name) Place) (k : Bor Name) (p : Place) → tree.Updates (λ x y. name_cmp x.now y.now) old new k (Some p)
    → (a : Name) → place_in new a ≡ cond (name_eq k.now a) (Some p) (place_in old a)
put old new k p up a =
    let q : Bor Name = record { ref_ptr = (0, 0); now = a } in
    let at : place_in new a ≡ cond (is_eq (name_cmp k.now a)) (Some p) (place_in old a) = up.0 q in
    at ∙ ap (λ b. cond b (Some p) (place_in old a)) (name_test k.now a)

by_name : (b : Bool) (p : Place) (old : Option Place) (q : Place) (rest : Option Place) → (b ≡ true → p ≡ lesser q rest) → old ≡ rest
    → cond b (Some p) old ≡ cond b (Some (lesser q rest)) rest
by_name true p old q rest e s = ap Some (e refl)
by_name false p old q rest e s = s

pub one_place : (gs : List NamedPart) (i : ℕ) (g : NamedPart) (old new : BTreeMap (Bor Name) Place) (p : Place)
    → 0 < i → i ≤ length gs → g ≡ get_or gs (i - 1) g
    → p ≡ lesser g.place (place_in old g.name.now)
    → ((a : Name) → place_in old a ≡ first_place (globals_of (drop i gs)) a)
    → tree.Updates (λ x y. name_cmp x.now y.now) old new g.name (Some p)
    → (a : Name) → place_in new a ≡ first_place (globals_of (drop (i - 1) gs)) a
one_place gs i g old new p lt le is least so_far up a =
    let rest = globals_of (drop i gs) in
    let here : name_eq g.name.now a ≡ true → p ≡ lesser g.place (first_place rest a) =
    λ e. least ∙ ap (lesser g.place) (ap (place_in old) ((name_eq-Decides g.name.now a).0 e) ∙ so_far a) in
    put old new g.name p up a ∙ by_name (name_eq g.name.now a) p (place_in old a) g.place (first_place rest a) here (so_far a)
    ∙ ap (λ xs. first_place (globals_of xs) a) (sym (cut gs i g lt le is))

or_before : (q : Place) (rest : Option Place) (p : Place) → stands_before (Some (lesser q rest)) p ≡ (is_before q p || stands_before rest p)
or_before q None p = elim (cases_Bool (is_before q p)) [ inl e ↦ rw e refl | inr e ↦ rw e refl ]
or_before q (Some r) p = elim (cases_Bool (is_before r q)) [
  | inl e ↦ rw e (elim (cases_Bool (is_before r p)) [
    | inl f ↦ rw f (sym (or_true (is_before q p)))
    | inr f ↦ rw f (sym (ap (λ b. b || false) (false_before q p (λ q_p. before_false r p f (through r q p (before_true r q e) q_p)))))
  ])
  | inr e ↦ rw e (elim (cases_Bool (is_before q p)) [
    | inl f ↦ rw f refl
    | inr f ↦ rw f (sym (false_before r p (λ r_p. before_false q p f (past r q p (before_false r q e) r_p))))
  ])
]
  where
    or_true : (b : Bool) → (b || true) ≡ true
    or_true true = refl
    or_true false = refl

    through : (a b c : Place) → Before a b → Before b c → Before a c
    through a b c (inl x) (inl y) = inl (omega (arith, x, y))
    through a b c (inl x) (inr y) = let s = y.0 in inl (omega (arith, x, s))
    through a b c (inr x) (inl y) = let s = x.0 in inl (omega (arith, y, s))
    through a b c (inr x) (inr y) = let s = x.1 in let t = y.1 in inr (x.0 ∙ y.0, omega (arith, s, t))

    past : (a b c : Place) → (Before a b → ⊥) → Before a c → Before b c
    past a b c n (inl x) = elim (cases_lt a.file b.file) [ inl lt ↦ absurd (n (inl lt)) | inr le ↦ inl (omega (arith, x, le)) ]
    past a b c n (inr x) =
        let s = x.0 in
        let t = x.1 in
        elim (cases_order b.file a.file) [
          | inl same ↦ elim (cases_lt a.at b.at) [ inl lt ↦ absurd (n (inr (sym same, lt))) | inr le ↦ inr (same ∙ s, omega (arith, t, le)) ]
          | inr apart ↦ elim apart [ inl lt ↦ inl (omega (arith, lt, s)) | inr gt ↦ absurd (n (inl gt)) ]
        ]

-- one of the name stands before a component just where the first of the name does
pub repeats_by_first : (gs : List GlobalComponent) (a : Name) (p : Place)
    → list_any (λ h. name_eq h.name a && is_before h.place p) gs ≡ stands_before (first_place gs a) p
repeats_by_first [] a p = refl
repeats_by_first (g ∷ gs) a p =
    elim (cases_Bool (name_eq g.name a)) [
      | inl e ↦ rw e (ap (λ b. is_before g.place p || b) (repeats_by_first gs a p) ∙ sym (or_before g.place (first_place gs a) p))
      | inr e ↦ rw e (repeats_by_first gs a p)
    ]

module _ (why : LinkWhy) (all : List GlobalComponent) (gs : List NamedPart) (i : ℕ) (g : NamedPart) (below : i < length gs) (here : g ≡ get_or gs i g) where
  taken : globals_of (take (i + 1) gs) ≡ globals_of (take i gs) ++ global_of g ∷ []
  taken = map_more global_of gs i g below ∙ ap (λ x. globals_of (take i gs) ++ global_of x ∷ []) (sym here)

  kept : filter (is_repeated all) (globals_of (take (i + 1) gs)) ≡ filter (is_repeated all) (globals_of (take i gs)) ++ filter (is_repeated all) (global_of g ∷ [])
  kept = ap (filter (is_repeated all)) taken ∙ filter-append (is_repeated all) (globals_of (take i gs)) (global_of g ∷ [])

  told : map (λ h. fault why h.place) (filter (is_repeated all) (globals_of (take (i + 1) gs)))
      ≡ map (λ h. fault why h.place) (filter (is_repeated all) (globals_of (take i gs))) ++ map (λ h. fault why h.place) (filter (is_repeated all) (global_of g ∷ []))
  told = ap (map (λ h. fault why h.place)) kept ∙ map-append (λ h. fault why h.place) (filter (is_repeated all) (globals_of (take i gs))) (filter (is_repeated all) (global_of g ∷ []))

  -- a component that an earlier one has the name of
  pub with_fault : (fs : List LinkingFault) (first : Option LinkingFault) → is_repeated all (global_of g) ≡ true
      → IsFirstOf (fs ++ map (λ h. fault why h.place) (filter (is_repeated all) (globals_of (take i gs)))) first
      → IsFirstOf (fs ++ map (λ h. fault why h.place) (filter (is_repeated all) (globals_of (take (i + 1) gs)))) (earlier first (fault why g.place))
  with_fault fs first e so_far =
      let one : filter (is_repeated all) (global_of g ∷ []) ≡ global_of g ∷ [] = rw e refl in
      let longer : fs ++ map (λ h. fault why h.place) (filter (is_repeated all) (globals_of (take (i + 1) gs)))
      ≡ (fs ++ map (λ h. fault why h.place) (filter (is_repeated all) (globals_of (take i gs)))) ++ fault why g.place ∷ [] =
      ap (λ xs. fs ++ xs) (told ∙ ap (λ xs. map (λ h. fault why h.place) (filter (is_repeated all) (globals_of (take i gs))) ++ map (λ h. fault why h.place) xs) one)
      ∙ sym (append_assoc fs (map (λ h. fault why h.place) (filter (is_repeated all) (globals_of (take i gs)))) (fault why g.place ∷ [])) in
      rw longer (one_more (fs ++ map (λ h. fault why h.place) (filter (is_repeated all) (globals_of (take i gs)))) first (fault why g.place) so_far)

  pub without_fault : (fs : List LinkingFault) (first : Option LinkingFault) → is_repeated all (global_of g) ≡ false
      → IsFirstOf (fs ++ map (λ h. fault why h.place) (filter (is_repeated all) (globals_of (take i gs)))) first
      → IsFirstOf (fs ++ map (λ h. fault why h.place) (filter (is_repeated all) (globals_of (take (i + 1) gs)))) first
  without_fault fs first e so_far =
      let none : filter (is_repeated all) (global_of g ∷ []) ≡ [] = rw e refl in
      let same : map (λ h. fault why h.place) (filter (is_repeated all) (globals_of (take (i + 1) gs)))
      ≡ map (λ h. fault why h.place) (filter (is_repeated all) (globals_of (take i gs))) =
      told ∙ ap (λ xs. map (λ h. fault why h.place) (filter (is_repeated all) (globals_of (take i gs))) ++ map (λ h. fault why h.place) xs) none
      ∙ append-nil (map (λ h. fault why h.place) (filter (is_repeated all) (globals_of (take i gs)))) in
      rw same so_far
