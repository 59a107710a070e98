-- Tables of the numbers of simple types.
use Rattle.std.proofs.Common.{◌≡◌, ℕ, suc, ◌+◌, ◌-◌, ◌<◌, ◌≤◌, arith, Bool, List, [], ◌∷◌, ◌++◌, length, drop, take, get_or, Option, Some, None, refl, sym, ap, ◌∙◌, append_assoc, append-nil, Bor}
use Rattle.std.specs.Prelude.{cond, ◌&&◌, nat_eq}
use Rattle.std.specs.Option.{option_map}
use Rattle.std.specs.Ordering.{is_eq, nat_cmp, ordering_then}
use Rattle.std.specs.BTreeMap as tree
use Rattle.std.specs.BTreeMap.{BTreeMap}
use Rattle.std.proofs.lemmas.List.{take_more}
use Rattle.std.proofs.lemmas.Bool.Decides.{nat_tests}
use Rattle.base_texts.specs.declared.texts.Name.{Name}
use Rattle.base_texts.specs.Names.{name_cmp}
use Rattle.link_names.specs.declared.places.Place.{Place}
use Rattle.link_names.proofs.Placing.{name_test, cut}
use Rattle.schema_components.specs.Seen.{base_of, bases_in}
use Rattle.schema_components.specs.declared.simple_definitions.RawBase.{RawBase}
use Rattle.std.specs.List.{position_from}
use Rattle.link_names.specs.Cycles.{SimpleNumbers, is_named, stands_at, part_of, parts_of_bases}
use Rattle.link_names.specs.CyclesSeen.{definition_of, definitions_of}
use Rattle.link_names.specs.Tables.{named_in, placed_in, names}
use Rattle.link_names.specs.SimpleTypes.{SimpleDefinition}
use Rattle.link_names.specs.declared.definitions.SimpleType.{SimpleType}

pub put_named : (old new : BTreeMap (Bor Name) ℕ) (k : Bor Name) (n : ℕ) → tree.Updates (λ x y. name_cmp x.now y.now) old new k (Some n)
    → (a : Name) → named_in new a ≡ cond (names (Some k) a) (Some n) (named_in old a)
put_named old new k n up a =
    let q : Bor Name = record { ref_ptr = (0, 0); now = a } in
    let at : named_in new a ≡ cond (is_eq (name_cmp k.now a)) (Some n) (named_in old a) = up.0 q in
    at ∙ ap (λ b. cond b (Some n) (named_in old a)) (name_test k.now a)

pair_test : (a b c d : ℕ) → is_eq (ordering_then (nat_cmp a b) (nat_cmp c d)) ≡ (nat_eq a b && nat_eq c d)
pair_test a b c d = grind (arith, nat_tests)

pub put_placed : (old new : BTreeMap (ℕ × ℕ) ℕ) (k : ℕ × ℕ) (n : ℕ)
    → tree.Updates (λ (x y : ℕ × ℕ). ordering_then (nat_cmp x.0 y.0) (nat_cmp x.1 y.1)) old new k (Some n)
    → (p : Place) → placed_in new p ≡ cond (nat_eq k.0 p.file && nat_eq k.1 p.at) (Some n) (placed_in old p)
put_placed old new k n up p =
    let at : placed_in new p ≡ cond (is_eq (ordering_then (nat_cmp k.0 p.file) (nat_cmp k.1 p.at))) (Some n) (placed_in old p) = up.0 (p.file, p.at) in
    at ∙ ap (λ b. cond b (Some n) (placed_in old p)) (pair_test k.0 p.file k.1 p.at)

same_name : (d : SimpleType) (a : Name) → names d.name a ≡ is_named a (definition_of d)
same_name d a = by_name d.name
  where
    by_name : (o : Option (Bor Name)) → names o a ≡ is_named a (record (definition_of d) { name = option_map (λ (b : Bor Name). b.now) o })
    by_name None = refl
    by_name (Some b) = refl

-- one more, before the others
module _ (ds : List SimpleType) (i : ℕ) (d : SimpleType) (lt : 0 < i) (le : i ≤ length ds) (is : d ≡ get_or ds (i - 1) d) where
  from_here : (passes : SimpleDefinition → Bool)
      → position_from passes (i - 1) (definitions_of (drop (i - 1) ds)) ≡ cond (passes (definition_of d)) (Some (i - 1)) (position_from passes i (definitions_of (drop i ds)))
  from_here passes =
      let same : i - 1 + 1 ≡ i = omega arith in
      ap (λ xs. position_from passes (i - 1) (definitions_of xs)) (cut ds i d lt le is)
      ∙ ap (λ n. cond (passes (definition_of d)) (Some (i - 1)) (position_from passes n (definitions_of (drop i ds)))) same

  pub one_named : (old new : BTreeMap (Bor Name) ℕ) → ((a : Name) → named_in old a ≡ position_from (is_named a) i (definitions_of (drop i ds)))
      → ((a : Name) → named_in new a ≡ cond (names d.name a) (Some (i - 1)) (named_in old a))
      → (a : Name) → named_in new a ≡ position_from (is_named a) (i - 1) (definitions_of (drop (i - 1) ds))
  one_named old new so_far up a =
      up a ∙ ap (λ o. cond (names d.name a) (Some (i - 1)) o) (so_far a)
      ∙ ap (λ b. cond b (Some (i - 1)) (position_from (is_named a) i (definitions_of (drop i ds)))) (same_name d a) ∙ sym (from_here (is_named a))

  pub one_placed : (old new : BTreeMap (ℕ × ℕ) ℕ) → ((p : Place) → placed_in old p ≡ position_from (stands_at p) i (definitions_of (drop i ds)))
      → tree.Updates (λ (x y : ℕ × ℕ). ordering_then (nat_cmp x.0 y.0) (nat_cmp x.1 y.1)) old new (d.place.file, d.place.at) (Some (i - 1))
      → (p : Place) → placed_in new p ≡ position_from (stands_at p) (i - 1) (definitions_of (drop (i - 1) ds))
  one_placed old new so_far up p =
      put_placed old new (d.place.file, d.place.at) (i - 1) up p ∙ ap (λ o. cond (stands_at p (definition_of d)) (Some (i - 1)) o) (so_far p) ∙ sym (from_here (stands_at p))

-- the parts of a list of bases, with one base more

joined : (ns : SimpleNumbers) (file : ℕ) (xs ys : List RawBase) → parts_of_bases ns file (bases_in (xs ++ ys)) ≡ parts_of_bases ns file (bases_in xs) ++ parts_of_bases ns file (bases_in ys)
joined ns file [] ys = refl
joined ns file (x ∷ xs) ys =
    ap (λ ms. part_of ns file (base_of x) ++ ms) (joined ns file xs ys)
    ∙ sym (append_assoc (part_of ns file (base_of x)) (parts_of_bases ns file (bases_in xs)) (parts_of_bases ns file (bases_in ys)))

pub one_part : (ns : SimpleNumbers) (file : ℕ) (bs : List RawBase) (i : ℕ) (b : RawBase) → i < length bs → b ≡ get_or bs i b
    → parts_of_bases ns file (bases_in (take (i + 1) bs)) ≡ parts_of_bases ns file (bases_in (take i bs)) ++ part_of ns file (base_of b)
one_part ns file bs i b lt is =
    ap (λ xs. parts_of_bases ns file (bases_in xs)) (take_more bs i b lt ∙ ap (λ x. take i bs ++ x ∷ []) (sym is))
    ∙ joined ns file (take i bs) (b ∷ []) ∙ ap (λ ms. parts_of_bases ns file (bases_in (take i bs)) ++ ms) (append-nil (part_of ns file (base_of b)))
