-- What is given for the leaves of an all, in any order: in the order of the particles, with the numbers of its order.
use Rattle.std.proofs.Common.{◌≡◌, ℕ, zero, suc, ◌+◌, ◌&&◌, Bool, true, false, Option, Some, None, List, [], ◌∷◌, ◌++◌, length, map, refl, sym, ap, subst, ◌∙◌, append_assoc}
use Rattle.std.proofs.lemmas.List.{map-append}
use Rattle.base_texts.specs.declared.texts.Name.{Name}
use Rattle.content_models.specs.Language.{Turn, Leaf, turn_of, leaf_at, joined, Times, Lang, Body, InOrder, AnyOrder}
use Rattle.content_models.specs.Particle as model
use Rattle.content_models.specs.Particle.{Particle, occurs, Particles}
use Rattle.content_models.specs.Clear.{first_of_any, AreSingle, Clear}
use Rattle.asn_values.specs.Ordering.{slot_at, emptied, put_some, taken}
use Rattle.asn_values.specs.Orders.{is_set, cleared, are_just_set}
use Rattle.asn_values.proofs.Slots.{found_in}
use Rattle.map_assignments.specs.Planning.{is_all}
use Rattle.map_laws.proofs.AnyOrder.{IsShort, single_short, once_is, AsParts}
use Rattle.map_laws.proofs.Giving.{divides, no-gift}
use Rattle.map_laws.proofs.NamedSlots.{picked, flags_in, cleared-flags, set-slot}
use Rattle.map_laws.proofs.Regions.{elements_of}

joined-append : (xs ys : List (List Leaf)) → joined (xs ++ ys) ≡ joined xs ++ joined ys
joined-append [] ys = refl
joined-append (x ∷ xs) ys = ap (λ z. x ++ z) (joined-append xs ys) ∙ sym (append_assoc x (joined xs) (joined ys))

single-named : (d : ℕ) (a : Name) (least : ℕ) (most : Option ℕ) (n : ℕ) (path : List Turn) (x : Leaf) → Lang (occurs (model.element d a) least most) n path (x ∷ []) → x.name ≡ a
single-named d a least most n path x (k, bounds, times) = by k times
  where
    by : (k : ℕ) → Times (λ i. Body (model.element d a) n (path ++ turn_of n i ∷ [])) k 0 (x ∷ []) → x.name ≡ a
    by zero h = absurd cc
    by (suc k) (z, y, e, one, rest) =
        let f : x ∷ [] ≡ leaf_at n d a (path ++ turn_of n 0 ∷ []) ∷ y = e ∙ ap (λ u. u ++ y) one in
        let g : x ≡ leaf_at n d a (path ++ turn_of n 0 ∷ []) = cc in
        ap (λ (l : Leaf). l.name) g

both : (a b : Bool) → (a && b) ≡ true → (a ≡ true) × (b ≡ true)
both true b h = (refl, h)
both false b h = absurd cc

joins : (a b : Bool) → a ≡ true → b ≡ true → (a && b) ≡ true
joins true b h k = k
joins false b h k = absurd cc

-- an empty slot before all others
later-just : (flags : List Bool) (numbers : List ℕ) → are_just_set (false ∷ flags) (map suc numbers) ≡ are_just_set flags numbers
later-just flags [] = refl
later-just flags (i ∷ numbers) = ap (λ b. is_set flags i && b) (later-just (cleared flags i) numbers)

later-taken : {A : Type 0} (all : List (Option A)) (numbers : List ℕ) → taken (None ∷ all) (map suc numbers) ≡ taken all numbers
later-taken all [] = refl
later-taken all (i ∷ numbers) = ap (put_some (slot_at all i)) (later-taken (emptied all i) numbers)

-- a slot with something before all others, which stands somewhere among what is told
abbrev Inserted : {A : Type 0} → List (Option A) → List A → List A → A → Type 0
Inserted all xs ys x = (numbers : List ℕ) × (are_just_set (true ∷ flags_in all) numbers ≡ true) × (taken (Some x ∷ all) numbers ≡ xs ++ x ∷ ys)

inserted : {A : Type 0} (all : List (Option A)) (numbers : List ℕ) (xs ys : List A) (x : A) → are_just_set (flags_in all) numbers ≡ true → taken all numbers ≡ xs ++ ys → Inserted all xs ys x
inserted all numbers [] ys x h e = (0 ∷ map suc numbers, later-just (flags_in all) numbers ∙ h, ap (λ z. x ∷ z) (later-taken all numbers ∙ e))
inserted all [] (z ∷ xs) ys x h e = absurd cc
inserted all (i ∷ numbers) (z ∷ xs) ys x h e =
    let parts = both (is_set (flags_in all) i) (are_just_set (cleared (flags_in all) i) numbers) h in
    let y = set-slot all i parts.0 in
    let f : y.0 ∷ taken (emptied all i) numbers ≡ z ∷ (xs ++ ys) = sym (ap (λ o. put_some o (taken (emptied all i) numbers)) y.1) ∙ e in
    let first : y.0 ≡ z = cc in
    let rest : taken (emptied all i) numbers ≡ xs ++ ys = cc in
    let k = inserted (emptied all i) numbers xs ys x (ap (λ g. are_just_set g numbers) (sym (cleared-flags all i)) ∙ parts.1) rest in (
      suc i ∷ k.0,
      joins (is_set (flags_in all) i) (are_just_set (true ∷ cleared (flags_in all) i) k.0) parts.0 (ap (λ g. are_just_set (true ∷ g) k.0) (cleared-flags all i) ∙ k.1),
      ap (λ o. put_some o (taken (Some x ∷ emptied all i) k.0)) y.1 ∙ ap (λ w. w ∷ taken (Some x ∷ emptied all i) k.0) first ∙ ap (λ w. z ∷ w) k.2,
    )

module _ (G : Type 0) (leaf : G → Leaf) where
  abbrev pub leaf_name : G → Name
  leaf_name g = (leaf g).name

  pub record IsArranged (ps : Particles) (n : ℕ) (path : List Turn) (gs : List G) : Type 0 where
    pub all : List (Option G)
    pub numbers : List ℕ
    pub leaves : InOrder ps n path (map leaf (found_in all))
    pub just : are_just_set (flags_in all) numbers ≡ true
    pub told : taken all numbers ≡ gs
    pub long : length (flags_in all) ≡ length (first_of_any ps)
    pub names : map leaf_name (found_in all) ≡ picked (flags_in all) (first_of_any ps)

  -- one particle more, whose leaf, if it has one, stands somewhere among the others
  one-arranged : (d : ℕ) (a : Name) (least : ℕ) (most : Option ℕ) (ps : Particles) (n : ℕ) (path : List Turn) (x : List Leaf) → IsShort x → Lang (occurs (model.element d a) least most) n path x
      → (us vs ws gs : List G) → gs ≡ us ++ (vs ++ ws) → map leaf vs ≡ x → IsArranged ps (n + 1) path (us ++ ws) → IsArranged (model.more (occurs (model.element d a) least most) ps) n path gs
  one-arranged d a least most ps n path x short hp us [] ws gs is e rest = record {
    all = None ∷ rest.all;
    numbers = map suc rest.numbers;
    leaves = ([], map leaf (found_in rest.all), refl, subst (Lang (occurs (model.element d a) least most) n path) (sym e) hp, rest.leaves);
    just = later-just (flags_in rest.all) rest.numbers ∙ rest.just;
    told = later-taken rest.all rest.numbers ∙ rest.told ∙ sym is;
    long = ap suc rest.long;
    names = rest.names;
  }
  one-arranged d a least most ps n path x short hp us (g ∷ []) ws gs is e rest =
      let k = inserted rest.all rest.numbers us ws g rest.just rest.told in
      let here : Lang (occurs (model.element d a) least most) n path (leaf g ∷ []) = subst (Lang (occurs (model.element d a) least most) n path) (sym e) hp in
      record {
        all = Some g ∷ rest.all;
        numbers = k.0;
        leaves = (leaf g ∷ [], map leaf (found_in rest.all), refl, here, rest.leaves);
        just = k.1;
        told = k.2 ∙ sym is;
        long = ap suc rest.long;
        names = ap (λ b. b ∷ map leaf_name (found_in rest.all)) (single-named d a least most n path (leaf g) here) ∙ ap (λ bs. a ∷ bs) rest.names;
      }
  one-arranged d a least most ps n path x short hp us (g ∷ h ∷ vs) ws gs is e rest = let never : ⊥ = subst IsShort (sym e) short in absurd never

  arrange : (ps : Particles) → AreSingle ps → (n : ℕ) (path : List Turn) (xs : List (List Leaf)) → AnyOrder ps n path xs → (gs : List G) → map leaf gs ≡ joined xs → IsArranged ps n path gs
  arrange model.none s n path xs h gs e = record {
    all = [];
    numbers = [];
    leaves = refl;
    just = refl;
    told = sym (no-gift G leaf gs (e ∙ ap joined h));
    long = refl;
    names = refl;
  }
  arrange (model.more (occurs (model.sequence qs) least most) ps) s n path xs h gs e = absurd s.0.0
  arrange (model.more (occurs (model.choice qs) least most) ps) s n path xs h gs e = absurd s.0.0
  arrange (model.more (occurs (model.all qs) least most) ps) s n path xs h gs e = absurd s.0.0
  arrange (model.more (occurs (model.element d a) least most) ps) s n path xs (ys, x, zs, is, hp, hs) gs e =
      let front = divides G leaf gs (joined ys) (x ++ joined zs) (e ∙ ap joined is ∙ joined-append ys (x ∷ zs)) in
      let back = divides G leaf front.1 x (joined zs) front.4 in
      let other_leaves : map leaf (front.0 ++ back.1) ≡ joined (ys ++ zs) =
      map-append leaf front.0 back.1 ∙ ap (λ z. z ++ map leaf back.1) front.3 ∙ ap (λ z. joined ys ++ z) back.4 ∙ sym (joined-append ys zs) in
      one-arranged d a least most ps n path x (single_short (occurs (model.element d a) least most) n path x s.0 hp) hp front.0 back.0 back.1 gs (front.2 ∙ ap (λ z. front.0 ++ z) back.2) back.3
      (arrange ps s.1 (n + 1) path (ys ++ zs) hs (front.0 ++ back.1) other_leaves)

  -- of a list of an all
  pub arranged : (p : Particle) → Clear p [] → is_all p ≡ true → (n : ℕ) (path : List Turn) (gs : List G) → Lang p n path (map leaf gs)
      → IsArranged (elements_of p) (suc n) (path ++ turn_of n 0 ∷ []) gs
  arranged (occurs (model.element d a) least most) clear e n path gs h = absurd cc
  arranged (occurs (model.sequence ps) least most) clear e n path gs h = absurd cc
  arranged (occurs (model.choice ps) least most) clear e n path gs h = absurd cc
  arranged (occurs (model.all ps) least most) clear e n path gs h =
      let rule = clear.3 in
      let one = once_is (λ i. Body (model.all ps) n (path ++ turn_of n i ∷ [])) least most (map leaf gs) rule.1 rule.2 h.0 h.1 h.2 in
      arrange ps rule.4 (suc n) (path ++ turn_of n 0 ∷ []) one.0 one.2 gs one.1

  -- they stand as the parts do
  pub arranged-parts : (p : Particle) → is_all p ≡ true → (n : ℕ) (path : List Turn) (w : List Leaf) → InOrder (elements_of p) (suc n) (path ++ turn_of n 0 ∷ []) w → AsParts p n path w
  arranged-parts (occurs (model.element d a) least most) e n path w h = absurd cc
  arranged-parts (occurs (model.sequence ps) least most) e n path w h = absurd cc
  arranged-parts (occurs (model.choice ps) least most) e n path w h = absurd cc
  arranged-parts (occurs (model.all ps) least most) e n path w h = h

  -- and so do the leaves of any other list
  pub plain-parts : (p : Particle) → Clear p [] → is_all p ≡ false → (n : ℕ) (path : List Turn) (w : List Leaf) → Lang p n path w → AsParts p n path w
  plain-parts (occurs (model.element d a) least most) clear e n path w h = h
  plain-parts (occurs (model.sequence ps) least most) clear e n path w h = h
  plain-parts (occurs (model.choice ps) least most) clear e n path w h = h
  plain-parts (occurs (model.all (model.more q ps)) least most) clear e n path w h = absurd cc
  plain-parts (occurs (model.all model.none) least most) clear e n path w h =
      let rule = clear.3 in
      let one = once_is (λ i. Body (model.all model.none) n (path ++ turn_of n i ∷ [])) least most w rule.1 rule.2 h.0 h.1 h.2 in
      one.1 ∙ ap joined one.2

-- no leaves: a slot for each element, with nothing
abbrev pub empty_slots : {G : Type 0} → List Name → List (Option G)
empty_slots [] = []
empty_slots (a ∷ names) = None ∷ empty_slots names

module _ (G : Type 0) where
  pub empty-found : (names : List Name) → found_in {A = G} (empty_slots names) ≡ []
  empty-found [] = refl
  empty-found (a ∷ names) = empty-found names

  pub empty-long : (names : List Name) → length (flags_in {A = G} (empty_slots names)) ≡ length names
  empty-long [] = refl
  empty-long (a ∷ names) = ap suc (empty-long names)

  pub empty-picked : (names : List Name) → picked (flags_in {A = G} (empty_slots names)) names ≡ []
  empty-picked [] = refl
  empty-picked (a ∷ names) = empty-picked names

  pub empty-just : (names : List Name) → are_just_set (flags_in {A = G} (empty_slots names)) [] ≡ true
  empty-just [] = refl
  empty-just (a ∷ names) = empty-just names
