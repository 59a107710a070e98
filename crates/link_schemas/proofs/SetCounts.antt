-- In the set of documents without a fault one particle names each local declaration, and one declaration has each complex
-- type without a name.
use Rattle.std.proofs.Common.{◌≡◌, ℕ, zero, suc, ◌+◌, ◌-◌, ◌<◌, ◌≤◌, arith, Bool, true, false, inl, inr, List, [], ◌∷◌, ◌++◌, length, map, Option, Some, None, refl, sym, ap, ◌∙◌, subst, length-append}
use Rattle.std.specs.Prelude.{◌&&◌, nat_eq, slice_get}
use Rattle.std.specs.List.{flat_map, filter_map, cons_option, count_by, sum_by}
use Rattle.std.specs.Option.{is_none}
use Rattle.std.proofs.lemmas.Bool.{and_parts, and_from, eqb-true, eq-eqb, cases_Bool, true≢false}
use Rattle.std.proofs.lemmas.List.{length-map}
use Rattle.std.proofs.lemmas.List.Sums.{sum_by-cons, sum_by-append}
use Rattle.base_texts.specs.declared.texts.Name.{Name}
use Rattle.base_texts.specs.Lists.{HasItem}
use Rattle.base_trees.specs.Rose.{Rose}
use Rattle.content_models.specs.declared.particles.ParticleLabel.{ParticleLabel}
use Rattle.schema_components.specs.Chains.{leaves_of_content}
use Rattle.schema_components.specs.Coherent.{leaves_in}
use Rattle.schema_components.specs.Coherent as coherent
use Rattle.schema_components.specs.Components as parts_of_set
use Rattle.schema_components.specs.Components.{models_of}
use Rattle.schema_components.specs.Linked as linked
use Rattle.schema_components.specs.Linked.{leaves_of_model, has_complex_type}
use Rattle.schema_components.specs.Raw.{Complex, Kind, NamedKind, SimpleKind, ComplexKind, Element, Local, Reference, Own, TypeDefinition, SimpleType, ComplexType, Document}
use Rattle.schema_components.specs.declared.components.ComplexDef.{ComplexDef}
use Rattle.schema_components.specs.declared.declarations.RawContent.{RawContent}
use Rattle.schema_components.specs.declared.declarations.RawContent.TheVariants as content
use Rattle.schema_components.specs.declared.simple_definitions.RawRef.TheVariants as reference
use Rattle.link_names.specs.Parts as what
use Rattle.link_names.specs.Parts.{part, in_kind, in_document, parts}
use Rattle.link_names.specs.declared.parts.TypeRole.TheVariants as role
use Rattle.link_names.specs.References.{need_of, mention}
use Rattle.link_names.specs.declared.places.Place.{Place}
use Rattle.link_names.specs.Order.{place}
use Rattle.link_names.specs.SimpleTypes.{simple_types}
use Rattle.link_complex.specs.ComplexTypes as complex
use Rattle.link_complex.specs.ComplexTypes.{ComplexDefinition, defined, of_document, complex_types}
use Rattle.link_set.specs.Numbering.{simple_entry, complex_entry, has_name, is_called}
use Rattle.link_set.specs.Sets as sets
use Rattle.link_set.specs.Sets.{or_zero, simple_or_complex, element, named_attribute, type_of_kind, numbered, number_of_local, number_of_found, number_of_declaration, content_of}
use Rattle.link_set.specs.Written.{WrittenElement, written_element, declared_by, global_elements, local_elements, lists_of, simple_before, complex_before}
use Rattle.link_schemas.proofs.DeclaredNumbers.{complex_number, local_number, locals_placed, declared, number_same}
use Rattle.link_schemas.proofs.GlobalLists.{by_documents, by_kind_of, of_element, of_definition, of_local, listed, complexes_listed}
use Rattle.link_schemas.proofs.InOrder.{sum_in_order, item_in_order, item_of_order}
use Rattle.link_schemas.proofs.Items.{as_number, in_flat, item_at, one_at, found_at, position_mapped, count_more, count_joined, count_flat, count_mapped, same_count, some_count, sums_joined}
use Rattle.link_schemas.proofs.Kept.{AreFaultless}
use Rattle.link_schemas.proofs.KeptComplexes.{complex_kept, complexes_placed}
use Rattle.link_schemas.proofs.NumberedModels.{renumbered, leaves_numbered}
use Rattle.link_schemas.proofs.OncePlaced.{is_at, at_itself, same_place, one_of_place, in_order_once, count_less}
use Rattle.link_schemas.proofs.ResolvedNames.{right, type_named}
use Rattle.link_schemas.proofs.SetContents.{StandsIn, element_stands}
use Rattle.link_schemas.proofs.SetModels.{once, type_leaves, document_leaves}
use Rattle.link_schemas.proofs.TypedNumbers.{numbers, named_there}

-- ---- sums

sum_same : {A : Type 0} (f g : A → ℕ) (xs : List A) → ((x : A) → HasItem xs x → f x ≡ g x) → sum_by f xs ≡ sum_by g xs
sum_same f g [] same = refl
sum_same f g (x ∷ xs) same =
    let a = sum_by-cons f x xs in
    let b = sum_by-cons g x xs in
    let here = same x (inl refl) in
    let rest = sum_same f g xs (λ y i. same y (inr i)) in
    omega (arith, a, b, here, rest)

sum_mapped : {A B : Type 0} (f : B → ℕ) (g : A → B) (xs : List A) → sum_by f (map g xs) ≡ sum_by (λ x. f (g x)) xs
sum_mapped f g [] = refl
sum_mapped f g (x ∷ xs) =
    let a = sum_by-cons f (g x) (map g xs) in
    let b = sum_by-cons (λ y. f (g y)) x xs in
    let rest = sum_mapped f g xs in
    omega (arith, a, b, rest)

sum_flat : {A B : Type 0} (f : B → ℕ) (g : A → List B) (xs : List A) → sum_by f (flat_map g xs) ≡ sum_by (λ x. sum_by f (g x)) xs
sum_flat f g [] = refl
sum_flat f g (x ∷ xs) =
    let a = sum_by-append f (g x) (flat_map g xs) in
    let b = sum_by-cons (λ y. sum_by f (g y)) x xs in
    let rest = sum_flat f g xs in
    omega (arith, a, b, rest)

-- ---- lists whose items have numbers of their own

apart : (a b : ℕ) → a < b → nat_eq a b ≡ false
apart a b lt = elim (cases_Bool (nat_eq a b)) [ inl same ↦ absurd (let e = eqb-true a b same in omega (arith, e, lt)) | inr fails ↦ fails ]

none_numbered : {A : Type 0} (num : A → ℕ) (n base : ℕ) (xs : List A) → ((k : ℕ) (x : A) → slice_get xs k ≡ Some x → num x ≡ base + k) → n < base
    → count_by (λ x. nat_eq n (num x)) xs ≡ 0
none_numbered num n base [] is lt = refl
none_numbered num n base (x ∷ xs) is lt =
    let a = count_more (λ y. nat_eq n (num y)) x xs in
    let e = is 0 x refl in
    let fails : as_number (nat_eq n (num x)) ≡ 0 = ap as_number (apart n (num x) (omega (arith, e, lt))) in
    let rest = none_numbered num n (base + 1) xs (λ k y at. let f = is (suc k) y at in omega (arith, f)) (omega (arith, lt)) in
    omega (arith, a, fails, rest)

one_numbered : {A : Type 0} (num : A → ℕ) (n base j : ℕ) (xs : List A) → ((k : ℕ) (x : A) → slice_get xs k ≡ Some x → num x ≡ base + k) → n ≡ base + j → j < length xs
    → count_by (λ x. nat_eq n (num x)) xs ≡ 1
one_numbered num n base j [] is e lt = absurd (omega (arith, lt))
one_numbered num n base zero (x ∷ xs) is e lt =
    let a = count_more (λ y. nat_eq n (num y)) x xs in
    let f = is 0 x refl in
    let passes : as_number (nat_eq n (num x)) ≡ 1 = ap as_number (eq-eqb n (num x) (omega (arith, e, f))) in
    let rest = none_numbered num n (base + 1) xs (λ k y at. let g = is (suc k) y at in omega (arith, g)) (omega (arith, e)) in
    omega (arith, a, passes, rest)
one_numbered num n base (suc j) (x ∷ xs) is e lt =
    let a = count_more (λ y. nat_eq n (num y)) x xs in
    let f = is 0 x refl in
    let differs : nat_eq n (num x) ≡ false =
    elim (cases_Bool (nat_eq n (num x))) [ inl same ↦ absurd (let g = eqb-true n (num x) same in omega (arith, e, f, g)) | inr other ↦ other ] in
    let fails : as_number (nat_eq n (num x)) ≡ 0 = ap as_number differs in
    let rest = one_numbered num n (base + 1) j xs (λ k y at. let g = is (suc k) y at in omega (arith, g)) (omega (arith, e)) (omega (arith, lt)) in
    omega (arith, a, fails, rest)

numbered_count : (g : Option Local → Bool) (all : List Local) (k : ℕ) (ls : List Local) → ((j : ℕ) → slice_get all (k + j) ≡ slice_get ls j)
    → count_by (λ (a : ℕ × Name). g (slice_get all a.0)) (coherent.numbered k ls) ≡ count_by (λ l. g (Some l)) ls
numbered_count g all k [] is = refl
numbered_count g all k (l ∷ ls) is =
    let a = count_more (λ (x : ℕ × Name). g (slice_get all x.0)) (k, coherent.name_of l) (coherent.numbered (k + 1) ls) in
    let b = count_more (λ x. g (Some x)) l ls in
    let at : k ≡ k + 0 = omega arith in
    let here : as_number (g (slice_get all k)) ≡ as_number (g (Some l)) = ap (λ o. as_number (g o)) (ap (slice_get all) at ∙ is 0) in
    let rest = numbered_count g all (k + 1) ls (λ j. ap (slice_get all) (let e : k + 1 + j ≡ k + suc j = omega arith in e) ∙ is (suc j)) in
    omega (arith, a, b, here, rest)

-- ---- particles

count_named : (n : ℕ) (cs : List ComplexDef)
    → count_by (nat_eq n) (flat_map (λ p. map (λ (leaf : ℕ × Name). leaf.0) (leaves_of_model p)) (filter_map (λ (c : ComplexDef). parts_of_set.model_of c.content) cs))
    ≡ sum_by (λ (c : ComplexDef). count_by (λ (leaf : ℕ × Name). nat_eq n leaf.0) (linked.leaves_of c.content)) cs
count_named n [] = refl
count_named n (c ∷ cs) = step (parts_of_set.model_of c.content) refl (count_named n cs)
  where
    step : (o : Option (Rose ParticleLabel)) → parts_of_set.model_of c.content ≡ o
        → count_by (nat_eq n) (flat_map (λ p. map (λ (leaf : ℕ × Name). leaf.0) (leaves_of_model p)) (filter_map (λ (x : ComplexDef). parts_of_set.model_of x.content) cs))
        ≡ sum_by (λ (x : ComplexDef). count_by (λ (leaf : ℕ × Name). nat_eq n leaf.0) (linked.leaves_of x.content)) cs
        → count_by (nat_eq n)
        (flat_map (λ p. map (λ (leaf : ℕ × Name). leaf.0) (leaves_of_model p)) (cons_option o (filter_map (λ (x : ComplexDef). parts_of_set.model_of x.content) cs)))
        ≡ sum_by (λ (x : ComplexDef). count_by (λ (leaf : ℕ × Name). nat_eq n leaf.0) (linked.leaves_of x.content)) (c ∷ cs)
    step None e rest =
        let a = sum_by-cons (λ (x : ComplexDef). count_by (λ (leaf : ℕ × Name). nat_eq n leaf.0) (linked.leaves_of x.content)) c cs in
        let b : count_by (λ (leaf : ℕ × Name). nat_eq n leaf.0) (linked.leaves_of c.content) ≡ 0 = ap (λ o. count_by (λ (leaf : ℕ × Name). nat_eq n leaf.0) (linked.leaves_in o)) e in
        omega (arith, rest, a, b)
    step (Some m) e rest =
        let a = sum_by-cons (λ (x : ComplexDef). count_by (λ (leaf : ℕ × Name). nat_eq n leaf.0) (linked.leaves_of x.content)) c cs in
        let b : count_by (λ (leaf : ℕ × Name). nat_eq n leaf.0) (linked.leaves_of c.content) ≡ count_by (λ (leaf : ℕ × Name). nat_eq n leaf.0) (leaves_of_model m) =
        ap (λ o. count_by (λ (leaf : ℕ × Name). nat_eq n leaf.0) (linked.leaves_in o)) e in
        let f = count_joined (nat_eq n) (map (λ (leaf : ℕ × Name). leaf.0) (leaves_of_model m))
        (flat_map (λ p. map (λ (leaf : ℕ × Name). leaf.0) (leaves_of_model p)) (filter_map (λ (x : ComplexDef). parts_of_set.model_of x.content) cs)) in
        let g = count_mapped (nat_eq n) (λ (leaf : ℕ × Name). leaf.0) (leaves_of_model m) in
        omega (arith, rest, a, b, f, g)

module _ (docs : List Document) where
  abbrev pub made : ComplexDefinition → ComplexDef
  made c = sets.complex (numbers docs) (named_attribute (sets.attributes (numbers docs) (lists_of docs).attributes)) docs c

  pub made_leaves : (f : ℕ → ℕ) (k : RawContent) → linked.leaves_of (content_of (numbers docs) f k) ≡ map (renumbered f) (leaves_of_content k)
  made_leaves f content.Empty = refl
  made_leaves f (content.Simple base at) = refl
  made_leaves f (content.ElementOnly m) = leaves_numbered f m
  made_leaves f (content.Mixed m) = leaves_numbered f m

module _ (docs : List Document) (h : AreFaultless docs) (n : ℕ) (from : length (global_elements docs) ≤ n) where
  locals_count : (d : Document) → HasItem docs d → (ls : List Local) → ((l : Local) → HasItem ls l → HasItem d.locals l)
      → count_by (λ l. nat_eq n (number_of_local (numbers docs) d.file l)) ls
      ≡ count_by (λ (w : WrittenElement). nat_eq n (or_zero ((numbers docs).locals (place w.file w.element.at)))) (flat_map (declared_by d.file) ls)
  locals_count d i [] inside = refl
  locals_count d i (Own e ∷ ls) inside =
      let a = count_more (λ l. nat_eq n (number_of_local (numbers docs) d.file l)) (Own e) ls in
      let b = count_more (λ (w : WrittenElement). nat_eq n (or_zero ((numbers docs).locals (place w.file w.element.at)))) (written_element d.file e) (flat_map (declared_by d.file) ls) in
      let rest = locals_count d i ls (λ l j. inside l (inr j)) in
      omega (arith, a, b, rest)
  locals_count d i (Reference name at ∷ ls) inside =
      let a = count_more (λ l. nat_eq n (number_of_local (numbers docs) d.file l)) (Reference name at) ls in
      let lt : number_of_local (numbers docs) d.file (Reference name at) < length (global_elements docs) =
      elim (declared docs h d i (Reference name at) (inside (Reference name at) (inl refl))).1.which [ inl own ↦ absurd (let e : Reference name at ≡ Own own.0 = own.1 in cc) | inr less ↦ less ] in
      let differs : nat_eq n (number_of_local (numbers docs) d.file (Reference name at)) ≡ false =
      elim (cases_Bool (nat_eq n (number_of_local (numbers docs) d.file (Reference name at)))) [
        | inl same ↦ absurd (let e = eqb-true n (number_of_local (numbers docs) d.file (Reference name at)) same in omega (arith, e, lt, from))
        | inr other ↦ other
      ] in
      let none : as_number (nat_eq n (number_of_local (numbers docs) d.file (Reference name at))) ≡ 0 = ap as_number differs in
      let rest = locals_count d i ls (λ l j. inside l (inr j)) in
      omega (arith, a, none, rest)

  in_document_count : (d : Document) → HasItem docs d
      → sum_by (λ (c : ComplexDefinition). count_by (λ (a : ℕ × Name). nat_eq n (number_of_declaration (numbers docs) docs c.place.file a.0)) (type_leaves c)) (of_document d)
      ≡ count_by (λ (w : WrittenElement). nat_eq n (or_zero ((numbers docs).locals (place w.file w.element.at)))) (flat_map (declared_by d.file) d.locals)
  in_document_count d i =
      let k = h.kept d i in
      let g : Option Local → Bool = λ o. nat_eq n (number_of_found (numbers docs) d.file o) in
      let test : ℕ × Name → Bool = λ a. nat_eq n (number_of_found (numbers docs) d.file (slice_get d.locals a.0)) in
      let one = sum_same (λ (c : ComplexDefinition). count_by (λ (a : ℕ × Name). nat_eq n (number_of_declaration (numbers docs) docs c.place.file a.0)) (type_leaves c))
      (λ (c : ComplexDefinition). count_by test (type_leaves c)) (of_document d)
      (λ c j. same_count (λ (a : ℕ × Name). nat_eq n (number_of_declaration (numbers docs) docs c.place.file a.0)) test (type_leaves c)
      (λ a l. ap (nat_eq n) (ap (λ f. number_of_declaration (numbers docs) docs f a.0) (ap (λ (p : Place). p.file) (complex_kept d k c j).file) ∙ number_same docs h d i a.0))) in
      let two = count_flat test type_leaves (of_document d) in
      let three : count_by test (leaves_in d) ≡ count_by test (flat_map type_leaves (of_document d)) = ap (count_by test) (document_leaves d) in
      let four = once d k test in
      let five = numbered_count g d.locals 0 d.locals (λ j. ap (slice_get d.locals) (let e : 0 + j ≡ j = omega arith in e)) in
      let six = locals_count d i d.locals (λ l j. j) in
      omega (arith, one, two, three, four, five, six)

  pub one_particle : n < length (sets.elements (numbers docs) (lists_of docs))
      → count_by (nat_eq n) (flat_map (λ p. map (λ (leaf : ℕ × Name). leaf.0) (leaves_of_model p)) (filter_map (λ (c : ComplexDef). parts_of_set.model_of c.content) (sets.complexes (numbers docs) docs (lists_of docs))))
      ≡ 1
  one_particle lt =
      let cs = sets.complexes (numbers docs) docs (lists_of docs) in
      let F : ComplexDefinition → ℕ = λ c. count_by (λ (a : ℕ × Name). nat_eq n (number_of_declaration (numbers docs) docs c.place.file a.0)) (type_leaves c) in
      let G : ComplexDef → ℕ = λ c. count_by (λ (leaf : ℕ × Name). nat_eq n leaf.0) (linked.leaves_of c.content) in
      let W : WrittenElement → Bool = λ w. nat_eq n (or_zero ((numbers docs).locals (place w.file w.element.at))) in
      let one = count_named n cs in
      let two = sum_mapped G (made docs) (lists_of docs).complexes in
      let three = sum_same (λ c. G (made docs c)) F (lists_of docs).complexes (λ c i.
      let f = number_of_declaration (numbers docs) docs c.place.file in
      ap (count_by (λ (leaf : ℕ × Name). nat_eq n leaf.0)) (made_leaves docs f c.body.content)
      ∙ count_mapped (λ (leaf : ℕ × Name). nat_eq n leaf.0) (renumbered f) (type_leaves c)) in
      let four = sum_in_order complex_before F (complex_types docs) in
      let five = sum_flat F of_document docs in
      let six = sum_same (λ d. sum_by F (of_document d)) (λ d. count_by W (flat_map (declared_by d.file) d.locals)) docs in_document_count in
      let seven = count_flat W (λ (d : Document). flat_map (declared_by d.file) d.locals) docs in
      let gs = length-map (global_elements docs) (element (numbers docs)) in
      let ls = length-map (local_elements docs) (element (numbers docs)) in
      let both = length-append (map (element (numbers docs)) (global_elements docs)) (map (element (numbers docs)) (local_elements docs)) in
      let eight = one_numbered (λ (w : WrittenElement). or_zero ((numbers docs).locals (place w.file w.element.at))) n (length (global_elements docs)) (n - length (global_elements docs)) (local_elements docs)
      (λ k w at.
      let r = local_number docs h w (item_at (local_elements docs) k w at) in
      let same = one_of_place (λ (x : WrittenElement). place x.file x.element.at) (local_elements docs) (locals_placed docs h) r.0 k w w r.1 at refl in
      let number : or_zero ((numbers docs).locals (place w.file w.element.at)) ≡ length (global_elements docs) + r.0 = ap or_zero r.2 in
      omega (arith, number, same))
      (omega (arith, from)) (omega (arith, lt, gs, ls, both, from)) in
      omega (arith, one, two, three, four, five, six, seven, eight)

-- ---- declarations of complex types without a name

abbrev kind_at : Place → ℕ → Kind → Bool
kind_at p file (NamedKind r) = false
kind_at p file (SimpleKind s) = false
kind_at p file (ComplexKind b) = is_at p (place file b.at)

abbrev unnamed_at : Place → ComplexDefinition → Bool
unnamed_at p c = is_none c.name && is_at p c.place

module _ (p : Place) (file : ℕ) where
  kind_count : (k : Kind) → as_number (kind_at p file k) ≡ count_by (unnamed_at p) (by_kind_of file k)
  kind_count (NamedKind r) = refl
  kind_count (SimpleKind s) = refl
  kind_count (ComplexKind b) = let a = count_more (unnamed_at p) (defined file None b) [] in omega (arith, a)

  elements_count : (es : List Element) → count_by (λ (w : WrittenElement). kind_at p w.file w.element.kind) (map (written_element file) es) ≡ count_by (unnamed_at p) (flat_map (of_element file) es)
  elements_count [] = refl
  elements_count (e ∷ es) =
      let a = count_more (λ (w : WrittenElement). kind_at p w.file w.element.kind) (written_element file e) (map (written_element file) es) in
      let b = count_joined (unnamed_at p) (by_kind_of file e.kind) (flat_map (of_element file) es) in
      let c = kind_count e.kind in
      let rest = elements_count es in
      omega (arith, a, b, c, rest)

  own_count : (ls : List Local) → count_by (λ (w : WrittenElement). kind_at p w.file w.element.kind) (flat_map (declared_by file) ls) ≡ count_by (unnamed_at p) (flat_map (of_local file) ls)
  own_count [] = refl
  own_count (Reference name at ∷ ls) = own_count ls
  own_count (Own e ∷ ls) =
      let a = count_more (λ (w : WrittenElement). kind_at p w.file w.element.kind) (written_element file e) (flat_map (declared_by file) ls) in
      let b = count_joined (unnamed_at p) (by_kind_of file e.kind) (flat_map (of_local file) ls) in
      let c = kind_count e.kind in
      let rest = own_count ls in
      omega (arith, a, b, c, rest)

  types_count : (ts : List TypeDefinition) → count_by (unnamed_at p) (flat_map (of_definition file) ts) ≡ 0
  types_count [] = refl
  types_count (SimpleType name s ∷ ts) = types_count ts
  types_count (ComplexType name b ∷ ts) =
      let a = count_more (unnamed_at p) (defined file (Some name) b) (flat_map (of_definition file) ts) in
      let rest = types_count ts in
      omega (arith, a, rest)

module _ (docs : List Document) (h : AreFaultless docs) (n : ℕ) (c : ComplexDefinition) (at : slice_get (lists_of docs).complexes n ≡ Some c) (unnamed : c.name ≡ None) where
  other_kind : (a : Name) (m : ℕ) → (numbers docs).complexes.named a ≡ Some m → nat_eq m n ≡ false
  other_kind a m e = elim (cases_Bool (nat_eq m n)) [
    | inr fails ↦ fails
    | inl same ↦
        let cs = (lists_of docs).complexes in
        let r = found_at (λ x. has_name a (complex_entry x)) 0 cs m (sym (position_mapped (has_name a) complex_entry 0 cs) ∙ e) in
        let number = r.number in
        let is = eqb-true m n same in
        let index : r.index ≡ n = omega (arith, number, is) in
        let item : r.item ≡ c = one_at cs n r.item c (ap (slice_get cs) (sym index) ∙ r.there) at in
        let called : is_called c.name a ≡ true = ap (λ (x : ComplexDefinition). is_called x.name a) (sym item) ∙ r.passes in
        absurd (true≢false (sym called ∙ ap (λ o. is_called o a) unnamed))
  ]

  pub named_other : (w : WrittenElement) → StandsIn docs w → (a : Name) → w.element.kind ≡ NamedKind (reference.Other a) → (o : Option ℕ) → (numbers docs).simples.named a ≡ o
      → has_complex_type n (record { name = w.element.name; nillable = w.element.nillable; kind = simple_or_complex o (or_zero ((numbers docs).complexes.named a)) }) ≡ false
  named_other w s a e (Some m) is = refl
  named_other w s a e None is =
      let q = part s.0.file (Some w.element.at) w.element.at (what.TypeReference role.Element (reference.Other a)) in
      let there = in_flat in_document docs s.0 q s.1 (s.3 q (subst (λ k. HasItem (in_kind s.0.file w.element.at k) q) (sym e) (inl refl))) in
      let fine = right docs h.resolved q there (mention (need_of role.Element) (place s.0.file w.element.at) a) (inl refl) in
      elim (type_named docs a fine) [
        | inl d ↦
            let r = named_there simple_entry (lists_of docs).simples d.0 a (item_in_order simple_before (simple_types docs) d.0 d.1) d.2 in
            absurd (let no_way : None ≡ Some r.0 = sym is ∙ r.1 in cc)
        | inr x ↦
            let r = named_there complex_entry (lists_of docs).complexes x.0 a (item_in_order complex_before (complex_types docs) x.0 x.1) x.2 in
            ap (λ o. nat_eq (or_zero o) n) r.1 ∙ other_kind a r.0 r.1
      ]

  in_place : (w : WrittenElement) → StandsIn docs w → (b : Complex) → w.element.kind ≡ ComplexKind b → nat_eq (or_zero ((numbers docs).complexes.placed (place w.file b.at))) n ≡ is_at c.place (place w.file b.at)
  in_place w s b e =
      let cs = (lists_of docs).complexes in
      let q = part s.0.file (Some w.element.at) b.at (what.ComplexDefinition None b) in
      let x = defined s.0.file None b in
      let there = in_flat in_document docs s.0 q s.1 (s.3 q (subst (λ k. HasItem (in_kind s.0.file w.element.at k) q) (sym e) (inl refl))) in
      let known = subst (λ xs. HasItem xs x) (by_documents complex.of_part docs) (in_flat complex.of_part (parts docs) q x there (inl refl)) in
      let r = complex_number docs h x known in
      let file = ap (λ f. place f b.at) s.2 in
      let number : or_zero ((numbers docs).complexes.placed (place w.file b.at)) ≡ r.0 = ap (λ p. or_zero ((numbers docs).complexes.placed p)) file ∙ ap or_zero r.2 in
      ap (λ m. nat_eq m n) number ∙ both r.0 x r.1 ∙ ap (is_at c.place) (sym file)
    where
      both : (k : ℕ) (x : ComplexDefinition) → slice_get (lists_of docs).complexes k ≡ Some x → nat_eq k n ≡ is_at c.place x.place
      both k x is = elim (cases_Bool (nat_eq k n)) [
        | inl same ↦
            let number = eqb-true k n same in
            let item : x ≡ c = one_at (lists_of docs).complexes n x c (ap (slice_get (lists_of docs).complexes) (sym number) ∙ is) at in
            same ∙ sym (ap (λ (y : ComplexDefinition). is_at c.place y.place) item ∙ at_itself c.place)
        | inr fails ↦ elim (cases_Bool (is_at c.place x.place)) [
          | inr too ↦ fails ∙ sym too
          | inl passes ↦
              let known = item_of_order complex_before (complex_types docs) x (item_at (lists_of docs).complexes k x is) in
              let mine = item_of_order complex_before (complex_types docs) c (item_at (lists_of docs).complexes n c at) in
              let r = complex_number docs h x known in
              let s = complex_number docs h c mine in
              let places : x.place ≡ c.place = same_place c.place x.place passes in
              let numbers_same : Some r.0 ≡ Some s.0 = sym r.2 ∙ ap (numbers docs).complexes.placed places ∙ s.2 in
              let one : r.0 ≡ s.0 = cc in
              let item : x ≡ c = one_at (lists_of docs).complexes s.0 x c (ap (slice_get (lists_of docs).complexes) (sym one) ∙ r.1) s.1 in
              let k_is = complex_index k x is r.0 r.1 in
              let n_is = complex_index n c at s.0 s.1 in
              absurd (true≢false (sym (eq-eqb k n (omega (arith, k_is, n_is, one))) ∙ fails))
        ]
      ]
        where
          complex_index : (i : ℕ) (y : ComplexDefinition) → slice_get (lists_of docs).complexes i ≡ Some y → (j : ℕ) → slice_get (lists_of docs).complexes j ≡ Some y → i ≡ j
          complex_index i y e j f =
              one_of_place (λ (z : ComplexDefinition). z.place) (lists_of docs).complexes
              (in_order_once (λ (z : ComplexDefinition). z.place) complex_before (complex_types docs) (complexes_placed docs h)) i j y y e f refl

  has_by_kind : (w : WrittenElement) → StandsIn docs w → (k : Kind) → w.element.kind ≡ k
      → has_complex_type n (record { name = w.element.name; nillable = w.element.nillable; kind = type_of_kind (numbers docs) w.file k }) ≡ kind_at c.place w.file k
  has_by_kind w s (NamedKind (reference.Builtin b)) e = refl
  has_by_kind w s (NamedKind (reference.Other a)) e = named_other w s a e ((numbers docs).simples.named a) refl
  has_by_kind w s (SimpleKind b) e = refl
  has_by_kind w s (ComplexKind b) e = in_place w s b e

  pub one_declaration : count_by (has_complex_type n) (sets.elements (numbers docs) (lists_of docs)) ≡ 1
  one_declaration =
      let p = c.place in
      let gs = global_elements docs in
      let ls = local_elements docs in
      let test : WrittenElement → Bool = λ w. kind_at p w.file w.element.kind in
      let one = count_joined (has_complex_type n) (map (element (numbers docs)) gs) (map (element (numbers docs)) ls) in
      let two = count_mapped (has_complex_type n) (element (numbers docs)) gs in
      let three = count_mapped (has_complex_type n) (element (numbers docs)) ls in
      let four = same_count (λ w. has_complex_type n (element (numbers docs) w)) test gs (λ w i. has_by_kind w (element_stands docs w (inl i)) w.element.kind refl) in
      let five = same_count (λ w. has_complex_type n (element (numbers docs) w)) test ls (λ w i. has_by_kind w (element_stands docs w (inr i)) w.element.kind refl) in
      let six = count_flat test (λ (d : Document). map (written_element d.file) d.elements) docs in
      let seven = count_flat test (λ (d : Document). flat_map (declared_by d.file) d.locals) docs in
      let eight = sums_joined (λ d. count_by test (map (written_element d.file) d.elements)) (λ d. count_by test (flat_map (declared_by d.file) d.locals)) docs in
      let nine = sum_same (λ d. count_by test (map (written_element d.file) d.elements) + count_by test (flat_map (declared_by d.file) d.locals)) (λ d. count_by (unnamed_at p) (of_document d)) docs
      (λ d i.
      let a = elements_count p d.file d.elements in
      let b = own_count p d.file d.locals in
      let e = types_count p d.file d.types in
      let f = count_joined (unnamed_at p) (flat_map (of_element d.file) d.elements) (flat_map (of_definition d.file) d.types ++ flat_map (of_local d.file) d.locals) in
      let g = count_joined (unnamed_at p) (flat_map (of_definition d.file) d.types) (flat_map (of_local d.file) d.locals) in
      let same : count_by (unnamed_at p) (of_document d) ≡ count_by (unnamed_at p) (listed d) = ap (count_by (unnamed_at p)) (complexes_listed d) in
      omega (arith, a, b, e, f, g, same)) in
      let ten = count_flat (unnamed_at p) of_document docs in
      let mine = item_of_order complex_before (complex_types docs) c (item_at (lists_of docs).complexes n c at) in
      let some = some_count (unnamed_at p) (complex_types docs) c mine (and_from (is_none c.name) (is_at p c.place) (ap is_none unnamed) (at_itself p)) in
      let less = count_less (unnamed_at p) (λ x. is_at p x.place) (complex_types docs) (λ x is. (and_parts (is_none x.name) (is_at p x.place) is).1) in
      let most = complexes_placed docs h p in
      omega (arith, one, two, three, four, five, six, seven, eight, nine, ten, some, less, most)
