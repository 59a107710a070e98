-- What is given for the leaves of a list of a content model: as the parts stand, with the numbers of its order where it may stand
-- in any order, and what the child elements that are made of it tell in that order.
use Rattle.std.proofs.Common.{◌≡◌, ℕ, suc, ◌≤◌, Bool, true, false, Option, Some, List, [], ◌∷◌, length, map, inl, inr, ◌⊎◌, true≢false, refl, sym, ap, subst, ◌∙◌, arith}
use Rattle.std.specs.List.Sorted.{IsPermutation}
use Rattle.std.proofs.lemmas.List.Sorted.{IsPermutation-sym, All-permutation, length_permutation}
use Rattle.base_texts.specs.declared.texts.Name.{Name}
use Rattle.base_trees.specs.Rose.{Rose, label_of}
use Rattle.simple_types.specs.declared.labels.ValueLabel.{ValueLabel}
use Rattle.content_models.specs.declared.particles.ParticleLabel.{ParticleLabel}
use Rattle.content_models.specs.Language.{Leaf, Lang}
use Rattle.content_models.specs.Particle.{Particle}
use Rattle.content_models.specs.Clear.{first_of_any, AreSingle, AllApart, Clear}
use Rattle.content_models.specs.Seen.{seen}
use Rattle.asn_types.specs.declared.modules.Assignment.{Assignment}
use Rattle.asn_types.specs.declared.types.TypeLabel.{TypeLabel}
use Rattle.asn_values.specs.Ordering.{emptied, put_some, taken, in_order}
use Rattle.asn_values.specs.Orders.{are_just_set}
use Rattle.asn_values.specs.Values.{AreJustSet, ordered_flags, order_of}
use Rattle.asn_values.proofs.JustSet.{just_set}
use Rattle.asn_values.proofs.Slots.{in_order-map, found_in, in_order-whole}
use Rattle.schema_components.specs.declared.components.Content.{Content}
use Rattle.schema_components.specs.declared.components.Content.TheVariants as content_
use Rattle.schema_components.specs.Components.{Set, model_of}
use Rattle.schema_components.specs.Linked.{IsContent}
use Rattle.map_assignments.specs.Planning.{is_all, is_ordered}
use Rattle.map_laws.specs.Children.{Child}
use Rattle.map_laws.proofs.AnyOrder.{AsParts}
use Rattle.map_laws.proofs.Arranging.{leaf_name, arranged, arranged-parts, plain-parts, empty_slots, empty-found, empty-long, empty-picked, empty-just}
use Rattle.map_laws.proofs.Giving.{IsGiven, AreFit, Are}
use Rattle.map_laws.proofs.NamedSlots.{picked, picked-once, flags_in, found-many, slots-again, slots-permute, first-slot}
use Rattle.map_laws.proofs.Regions.{elements_of, singles-named, Region, IsNone}

-- of a gift and of a child element, its name and this are told
module _ (G Y : Type 0) (leaf : G → Leaf) (item : G → Y) (say : Child → Y) (M : List Assignment) (E : ℕ → Rose TypeLabel → Type 0) (depth : ℕ) (small : depth ≤ 64) (s : Set) where
  abbrev pub Told : Type 0
  Told = Name × Y

  abbrev pub told_of : G → Told
  told_of g = ((leaf g).name, item g)

  abbrev pub tell : Child → Told
  tell x = (x.name, say x)

  abbrev pub AreGiven : List G → Type 0
  AreGiven gs = AreFit G Told leaf told_of tell M E depth small gs

  abbrev pub AreGifts : List Child → List G → Type 0
  AreGifts made gs = Are G Told leaf told_of tell M E depth small made gs

  -- leaves as the parts stand
  abbrev pub InParts : Rose ParticleLabel → List G → Type 0
  InParts particle gs = AsParts (seen particle) 0 [] (map leaf gs)

  -- or nothing, where a nillable element is nil
  abbrev pub AsGiven : Bool → Bool → Rose ParticleLabel → List G → Type 0
  AsGiven nillable false particle gs = InParts particle gs
  AsGiven nillable true particle gs = (nillable ≡ true) × (gs ≡ [])

  -- in an order of the content model
  abbrev pub InList : Bool → Bool → Rose ParticleLabel → List G → Type 0
  InList nillable false particle gs = Lang (seen particle) 0 [] (map leaf gs)
  InList nillable true particle gs = (nillable ≡ true) × (gs ≡ [])

  -- ---- what is given, as the parts stand

  -- as the parts stand, with the order in which it is given
  pub record Sorted (nillable nil all : Bool) (p : Particle) (particle : Rose ParticleLabel) (gs : List G) : Type 0 where
    pub slotted : List (Option G)
    pub numbers : List ℕ
    pub sorted : List G
    pub given : AsGiven nillable nil particle sorted
    pub many : length sorted ≡ length gs
    pub each : AreGiven sorted
    pub plain : all ≡ false → sorted ≡ gs
    pub found : all ≡ true → found_in slotted ≡ sorted
    pub just : all ≡ true → are_just_set (flags_in slotted) numbers ≡ true
    pub told : all ≡ true → taken slotted numbers ≡ gs
    pub long : all ≡ true → length (flags_in slotted) ≡ length (first_of_any (elements_of p))
    pub names : all ≡ true → map (leaf_name G leaf) (found_in slotted) ≡ picked (flags_in slotted) (first_of_any (elements_of p))

  sort-model : (nillable nil all : Bool) (particle : Rose ParticleLabel) → Clear (seen particle) [] → is_all (seen particle) ≡ all → (gs : List G) → AreGiven gs
      → InList nillable nil particle gs → Sorted nillable nil all (seen particle) particle gs
  sort-model nillable true false particle clear kind gs fit h = record {
    slotted = [];
    numbers = [];
    sorted = gs;
    given = h;
    many = refl;
    each = fit;
    plain = λ e. refl;
    found = λ e. absurd (true≢false (sym e));
    just = λ e. absurd (true≢false (sym e));
    told = λ e. absurd (true≢false (sym e));
    long = λ e. absurd (true≢false (sym e));
    names = λ e. absurd (true≢false (sym e));
  }
  sort-model nillable false false particle clear kind gs fit h = record {
    slotted = [];
    numbers = [];
    sorted = gs;
    given = plain-parts G leaf (seen particle) clear kind 0 [] (map leaf gs) h;
    many = refl;
    each = fit;
    plain = λ e. refl;
    found = λ e. absurd (true≢false (sym e));
    just = λ e. absurd (true≢false (sym e));
    told = λ e. absurd (true≢false (sym e));
    long = λ e. absurd (true≢false (sym e));
    names = λ e. absurd (true≢false (sym e));
  }
  sort-model nillable true true particle clear kind gs fit h =
      let names = first_of_any (elements_of (seen particle)) in
      record {
        slotted = empty_slots names;
        numbers = [];
        sorted = gs;
        given = h;
        many = refl;
        each = fit;
        plain = λ e. absurd (true≢false e);
        found = λ e. empty-found G names ∙ sym h.1;
        just = λ e. empty-just G names;
        told = λ e. sym h.1;
        long = λ e. empty-long G names;
        names = λ e. ap (map (leaf_name G leaf)) (empty-found G names) ∙ sym (empty-picked G names);
      }
  sort-model nillable false true particle clear kind gs fit h =
      let a = arranged G leaf (seen particle) clear kind 0 [] gs h in
      let moved = slots-permute a.all a.numbers a.just in
      let sorted = found_in a.all in
      record {
        slotted = a.all;
        numbers = a.numbers;
        sorted = sorted;
        given = arranged-parts G leaf (seen particle) kind 0 [] (map leaf sorted) a.leaves;
        many = sym (length_permutation sorted (taken a.all a.numbers) moved) ∙ ap length a.told;
        each = All-permutation (IsGiven G Told leaf told_of tell M E depth small) gs sorted (IsPermutation-sym sorted gs (subst (IsPermutation sorted) a.told moved)) fit;
        plain = λ e. absurd (true≢false e);
        found = λ e. refl;
        just = λ e. a.just;
        told = λ e. a.told;
        long = λ e. a.long;
        names = λ e. a.names;
      }

  pub sort-gifts : (nillable nil all : Bool) (c : Content) → IsContent s c → (particle : Rose ParticleLabel) → model_of c ≡ Some particle → is_ordered c ≡ all → (gs : List G) → AreGiven gs
      → InList nillable nil particle gs → Sorted nillable nil all (seen particle) particle gs
  sort-gifts nillable nil all content_.Empty ok particle is kind gs fit h = absurd cc
  sort-gifts nillable nil all (content_.Simple n) ok particle is kind gs fit h = absurd cc
  sort-gifts nillable nil all (content_.ElementOnly p) ok particle is kind gs fit h =
      let same : p ≡ particle = cc in
      sort-model nillable nil all particle (subst (λ q. Clear (seen q) []) same ok.clear) (ap (λ q. is_all (seen q)) (sym same) ∙ kind) gs fit h
  sort-gifts nillable nil all (content_.Mixed p) ok particle is kind gs fit h =
      let same : p ≡ particle = cc in
      sort-model nillable nil all particle (subst (λ q. Clear (seen q) []) same ok.clear) (ap (λ q. is_all (seen q)) (sym same) ∙ kind) gs fit h

  -- ---- the order of the child elements

  gift-names : (ms : List Child) (gs : List G) → AreGifts ms gs → map (λ (x : Child). x.name) ms ≡ map (leaf_name G leaf) gs
  gift-names [] [] e = refl
  gift-names [] (g ∷ gs) e = absurd cc
  gift-names (m ∷ ms) [] e = absurd cc
  gift-names (m ∷ ms) (g ∷ gs) e =
      let first : tell m ≡ told_of g = cc in
      let rest : map tell ms ≡ map told_of gs = cc in
      ap (λ (x : Told). x.0 ∷ map (λ (y : Child). y.name) ms) first ∙ ap (λ ns. leaf_name G leaf g ∷ ns) (gift-names ms gs rest)

  none-made : (gs : List G) → AreGifts [] gs → gs ≡ []
  none-made [] e = refl
  none-made (g ∷ gs) e = absurd cc

  none-told : (all : List (Option G)) (numbers : List ℕ) → are_just_set (flags_in all) numbers ≡ true → found_in all ≡ [] → numbers ≡ []
  none-told all [] h e = refl
  none-told all (i ∷ numbers) h e =
      let moved = length_permutation (found_in all) (taken all (i ∷ numbers)) (slots-permute all (i ∷ numbers) h) in
      let x = first-slot all i numbers h in
      let many : length (taken all (i ∷ numbers)) ≡ suc (length (taken (emptied all i) numbers)) = ap (λ o. length (put_some o (taken (emptied all i) numbers))) x.1 in
      let none = ap length e in
      absurd (let f : suc (length (taken (emptied all i) numbers)) ≡ 0 = sym many ∙ moved ∙ none in omega (arith, f))

  -- what is told of the child elements in their order, and that it is one
  pub settled : (p : Particle) → AreSingle (elements_of p) → AllApart (elements_of p) → (found : Rose TypeLabel) (v : Rose ValueLabel) (raw : List Child) (all : List (Option G)) (numbers : List ℕ) (gs : List G)
      → order_of found v ≡ numbers → AreGifts raw (found_in all) → are_just_set (flags_in all) numbers ≡ true → taken all numbers ≡ gs
      → length (flags_in all) ≡ length (first_of_any (elements_of p)) → map (leaf_name G leaf) (found_in all) ≡ picked (flags_in all) (first_of_any (elements_of p))
      → Region M E depth p found v raw ⊎ IsNone M E depth found v raw
      → AreJustSet (order_of found v) (ordered_flags M (label_of found) found v) × AreGifts (in_order (ordered_flags M (label_of found) found v) (order_of found v) raw) gs
  settled p single apart found v raw all numbers gs order are just told long names (inr none) =
      let flags = ordered_flags M (label_of found) found v in
      let nothing = none-made (found_in all) (ap (map tell) (sym none.1) ∙ are) in
      let no_numbers = none-told all numbers just nothing in
      let gs_none : [] ≡ gs = ap (taken all) (sym no_numbers) ∙ told in (
        subst (λ ns. AreJustSet ns flags) (sym (order ∙ no_numbers)) (subst (AreJustSet []) (sym none.0) ((just_set [] []).0 refl)),
        ap (λ ns. map tell (in_order flags ns raw)) (order ∙ no_numbers) ∙ ap (λ f. map tell (in_order f [] raw)) none.0 ∙ ap (λ x. map tell (in_order [] [] x)) none.1
            ∙ ap (map told_of) gs_none,
      )
  settled p single apart found v raw all numbers gs order are just told long names (inl r) =
      let ps = elements_of p in
      let flags = ordered_flags M (label_of found) found v in
      let set = flags_in all in
      let sorted = found_in all in
      let named_so = singles-named M E depth ps single r.label r.place r.parts r.types r.flags r.values r.are r.fit in
      let raw_names : map (λ (x : Child). x.name) raw ≡ picked r.flags (first_of_any ps) = ap (map (λ (x : Child). x.name)) r.gives_same ∙ named_so.2 in
      let same_names : picked r.flags (first_of_any ps) ≡ picked set (first_of_any ps) = sym raw_names ∙ gift-names raw sorted are ∙ names in
      let set_is : flags ≡ set = r.told ∙ picked-once ps single apart r.flags set named_so.0 long same_names in (
        subst (λ ns. AreJustSet ns flags) (sym order) (subst (AreJustSet numbers) (sym set_is) ((just_set set numbers).0 just)),
        ap (λ ns. map tell (in_order flags ns raw)) order ∙ ap (λ f. map tell (in_order f numbers raw)) set_is
            ∙ sym (in_order-map tell set numbers raw) ∙ ap (in_order set numbers) are ∙ in_order-map told_of set numbers sorted
            ∙ ap (map told_of) (in_order-whole set numbers sorted (found-many all) ∙ ap (λ x. taken x numbers) (slots-again all) ∙ told),
      )
