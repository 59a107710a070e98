-- Tables of numbers, with one entry more before the others.
use Rattle.std.proofs.Common.{◌≡◌, ℕ, ◌+◌, ◌-◌, ◌<◌, ◌≤◌, arith, Bool, List, ◌∷◌, length, drop, get_or, map, Option, Some, None, refl, sym, ap, ◌∙◌, Bor}
use Rattle.std.specs.Prelude.{cond, nat_eq}
use Rattle.std.specs.Option.{option_map}
use Rattle.std.specs.Ordering.{is_eq, nat_cmp, ordering_then}
use Rattle.std.specs.BTreeMap as tree
use Rattle.std.specs.BTreeMap.{BTreeMap}
use Rattle.std.proofs.lemmas.Bool.Decides.{nat_tests}
use Rattle.std.proofs.lemmas.List.{length-map}
use Rattle.base_texts.specs.declared.texts.Name.{Name}
use Rattle.simple_types.specs.declared.simples.Builtin.{Builtin}
use Rattle.link_names.specs.declared.places.Place.{Place}
use Rattle.link_names.proofs.Placing.{cut}
use Rattle.link_names.specs.Tables.{named_in, placed_in, names}
use Rattle.link_names.proofs.Numbering.{put_placed}
use Rattle.link_set.specs.Builtins.{rank, is_builtin}
use Rattle.std.specs.List.{position_from}
use Rattle.link_set.specs.Numbering as told
use Rattle.link_set.specs.Numbering.{number_named, number_placed, builtin_numbers, is_called, has_name, stands_at}
use Rattle.link_set.specs.Private.Told.{entry_of, entries_of, ranked_in}
use Rattle.link_set.specs.declared.numbers.NamedPlace.{NamedPlace}

-- as many entries as components
pub as_many : {A : Type 0} (es : List NamedPlace) (f : A → told.NamedPlace) (xs : List A) → entries_of es ≡ map f xs → length es ≡ length xs
as_many es f xs e = sym (length-map es entry_of) ∙ ap length e ∙ length-map xs f

number_here : {A : Type 0} (passes : A → Bool) (first i : ℕ) (x : A) (xs : List A) → 0 < i
    → position_from passes (first + (i - 1)) (x ∷ xs) ≡ cond (passes x) (Some (first + (i - 1))) (position_from passes (first + i) xs)
number_here passes first i x xs lt =
    let next : first + (i - 1) + 1 ≡ first + i = omega arith in
    ap (λ n. cond (passes x) (Some (first + (i - 1))) (position_from passes n xs)) next

same_name : (o : Option (Bor Name)) (a : Name) → names o a ≡ is_called (option_map (λ (b : Bor Name). b.now) o) a
same_name None a = refl
same_name (Some b) a = refl

module _ (es : List NamedPlace) (first i : ℕ) (e : NamedPlace) (lt : 0 < i) (le : i ≤ length es) (is : e ≡ get_or es (i - 1) e) where
  pub one_named : (old new : BTreeMap (Bor Name) ℕ) → ((a : Name) → named_in old a ≡ number_named (first + i) (entries_of (drop i es)) a)
      → ((a : Name) → named_in new a ≡ cond (names e.name a) (Some (first + (i - 1))) (named_in old a))
      → (a : Name) → named_in new a ≡ number_named (first + (i - 1)) (entries_of (drop (i - 1) es)) a
  one_named old new so_far up a =
      up a ∙ ap (λ o. cond (names e.name a) (Some (first + (i - 1))) o) (so_far a)
      ∙ ap (λ b. cond b (Some (first + (i - 1))) (number_named (first + i) (entries_of (drop i es)) a)) (same_name e.name a)
      ∙ sym (number_here (has_name a) first i (entry_of e) (entries_of (drop i es)) lt)
      ∙ ap (λ xs. number_named (first + (i - 1)) (entries_of xs) a) (sym (cut es i e lt le is))

  pub one_placed : (old new : BTreeMap (ℕ × ℕ) ℕ) → ((p : Place) → placed_in old p ≡ number_placed (first + i) (entries_of (drop i es)) p)
      → tree.Updates (λ (x y : ℕ × ℕ). ordering_then (nat_cmp x.0 y.0) (nat_cmp x.1 y.1)) old new (e.place.file, e.place.at) (Some (first + (i - 1)))
      → (p : Place) → placed_in new p ≡ number_placed (first + (i - 1)) (entries_of (drop (i - 1) es)) p
  one_placed old new so_far up p =
      put_placed old new (e.place.file, e.place.at) (first + (i - 1)) up p
      ∙ ap (λ o. cond (stands_at p (entry_of e)) (Some (first + (i - 1))) o) (so_far p)
      ∙ sym (number_here (stands_at p) first i (entry_of e) (entries_of (drop i es)) lt)
      ∙ ap (λ xs. number_placed (first + (i - 1)) (entries_of xs) p) (sym (cut es i e lt le is))

rank_test : (a b : ℕ) → is_eq (nat_cmp a b) ≡ nat_eq a b
rank_test a b = grind (arith, nat_tests)

pub one_ranked : (used : List Builtin) (first i : ℕ) (which : Builtin) → 0 < i → i ≤ length used → which ≡ get_or used (i - 1) which
    → (old new : BTreeMap ℕ ℕ) → ((w : Builtin) → ranked_in old w ≡ builtin_numbers (first + i) (drop i used) w)
    → (k : ℕ) → k ≡ rank which → tree.Updates nat_cmp old new k (Some (first + (i - 1)))
    → (w : Builtin) → ranked_in new w ≡ builtin_numbers (first + (i - 1)) (drop (i - 1) used) w
one_ranked used first i which lt le is old new so_far k own up w =
    let n = first + (i - 1) in
    let at : ranked_in new w ≡ cond (is_eq (nat_cmp k (rank w))) (Some n) (ranked_in old w) = up.0 (rank w) in
    at ∙ ap (λ b. cond b (Some n) (ranked_in old w)) (rank_test k (rank w) ∙ ap (λ m. nat_eq m (rank w)) own)
    ∙ ap (λ o. cond (is_builtin w which) (Some n) o) (so_far w) ∙ sym (number_here (is_builtin w) first i which (drop i used) lt)
    ∙ ap (λ xs. builtin_numbers n xs w) (sym (cut used i which lt le is))
