-- The numbers of complex types and of element declarations in the set of documents without a fault: each is that of the one
-- component with the place, or of one with the name.
use Rattle.std.proofs.Common.{◌≡◌, ℕ, zero, suc, ◌+◌, ◌-◌, ◌<◌, ◌≤◌, arith, Bool, true, false, cond, ◌⊎◌, inl, inr, List, [], ◌∷◌, ◌++◌, length, map, Option, Some, None, refl, sym, ap, ap₂, ◌∙◌, subst}
use Rattle.std.specs.Prelude.{nat_eq, slice_get, if◌then◌else◌}
use Rattle.std.specs.List.{flat_map, position_from, count_by}
use Rattle.std.specs.Option.{option_map}
use Rattle.std.proofs.lemmas.List.{length-map, map-append}
use Rattle.std.proofs.lemmas.Option.{slice_get-map, slice_get_within}
use Rattle.base_texts.specs.declared.texts.Name.{Name}
use Rattle.base_texts.specs.Lists.{HasItem}
use Rattle.base_texts.specs.Names.{name_eq}
use Rattle.base_texts.proofs.NameLaws.{name_eq-Decides}
use Rattle.schema_components.specs.Coherent.{name_of}
use Rattle.schema_components.specs.Places.{local_place}
use Rattle.schema_components.specs.Raw.{Element, Local, Reference, Own, Document}
use Rattle.link_names.specs.Parts as what
use Rattle.link_names.specs.Parts.{Part, part, parts}
use Rattle.link_names.specs.Globals.{GlobalComponent, elements}
use Rattle.link_names.specs.declared.places.Place.{Place}
use Rattle.link_names.specs.Order.{place}
use Rattle.link_complex.specs.ComplexTypes.{ComplexDefinition, complex_types}
use Rattle.link_complex.specs.ElementTypes.{identity, typed_element, typed_elements, type_named, type_of_local}
use Rattle.link_set.specs.Numbering.{complex_entry, element_entry, has_name, stands_at}
use Rattle.link_set.specs.Sets as sets
use Rattle.link_set.specs.Sets.{or_zero, element, number_of_local, number_of_found, number_in, number_in_found, number_of_declaration}
use Rattle.link_set.specs.Written.{WrittenElement, written_element, declared_by, global_elements, local_elements, lists_of, complex_before}
use Rattle.link_schemas.proofs.DeclaredParts.{ascending_lists}
use Rattle.link_schemas.proofs.GlobalLists.{elements_listed, global_element}
use Rattle.link_schemas.proofs.InOrder.{item_in_order}
use Rattle.link_schemas.proofs.Items.{in_flat, of_flat, in_mapped, of_mapped, number_of_item, item_at, found_at, some_position, position_mapped, count_more}
use Rattle.link_schemas.proofs.Kept.{NumberedFrom, AreFaultless}
use Rattle.link_schemas.proofs.KeptComplexes.{complexes_placed}
use Rattle.link_schemas.proofs.Members.{local_part}
use Rattle.link_schemas.proofs.OncePlaced.{is_at, at_itself, same_place, ArePlacedOnce, one_of_place, in_order_once, of_documents_once, ascending_once}
use Rattle.link_schemas.proofs.ResolvedNames.{right, element_mention, element_named}
use Rattle.link_schemas.proofs.TypedNumbers.{numbers}

-- ---- lists

pub get_left : {A : Type 0} (xs ys : List A) (k : ℕ) (x : A) → slice_get xs k ≡ Some x → slice_get (xs ++ ys) k ≡ Some x
get_left [] ys k x e = absurd cc
get_left (z ∷ xs) ys zero x e = e
get_left (z ∷ xs) ys (suc k) x e = get_left xs ys k x e

pub get_right : {A : Type 0} (xs ys : List A) (n k : ℕ) (y : A) → n ≡ length xs + k → slice_get ys k ≡ Some y → slice_get (xs ++ ys) n ≡ Some y
get_right [] ys n k y e is = ap (slice_get ys) (let same : n ≡ k = omega (arith, e) in same) ∙ is
get_right (x ∷ xs) ys zero k y e is = absurd (omega (arith, e))
get_right (x ∷ xs) ys (suc n) k y e is = get_right xs ys n k y (omega (arith, e)) is

pub get_mapped : {A B : Type 0} (f : A → B) (xs : List A) (k : ℕ) (x : A) → slice_get xs k ≡ Some x → slice_get (map f xs) k ≡ Some (f x)
get_mapped f xs k x e = slice_get-map f xs k ∙ ap (option_map f) e

pub of_get_mapped : {A B : Type 0} (f : A → B) (xs : List A) (k : ℕ) (y : B) → slice_get (map f xs) k ≡ Some y → (x : A) × (slice_get xs k ≡ Some x) × (f x ≡ y)
of_get_mapped f [] k y e = absurd cc
of_get_mapped f (x ∷ xs) zero y e = (x, refl, (let same : f x ≡ y = cc in same))
of_get_mapped f (x ∷ xs) (suc k) y e = of_get_mapped f xs k y e

-- where places are apart, the first at a place is the one
module _ {A : Type 0} (placed : A → Place) (xs : List A) (once : ArePlacedOnce placed xs) where
  pub exact : (x : A) → HasItem xs x → (n : ℕ) → (k : ℕ) × (slice_get xs k ≡ Some x) × (position_from (λ y. is_at (placed x) (placed y)) n xs ≡ Some (n + k))
  exact x h n =
      let p = some_position (λ y. is_at (placed x) (placed y)) n xs x h (at_itself (placed x)) in
      let at = found_at (λ y. is_at (placed x) (placed y)) n xs p.0 p.1 in
      let j = number_of_item xs x h in
      let same = one_of_place placed xs once at.index j.0 at.item x at.there j.1 (same_place (placed x) (placed at.item) at.passes) in
      let number = at.number in
      let is : p.0 ≡ n + j.0 = omega (arith, number, same) in
      (j.0, j.1, p.1 ∙ ap (λ (m : ℕ). Some m) is)

-- ---- files

pub by_file : (n : ℕ) (docs : List Document) → NumberedFrom n docs → (d : Document) → HasItem docs d → (k : ℕ) × (slice_get docs k ≡ Some d) × (d.file ≡ n + k + 1)
by_file n [] h d i = absurd i
by_file n (x ∷ docs) h d (inl same) =
    (0, ap (λ (y : Document). Some y) same, let e : d.file ≡ n + 1 = ap (λ (y : Document). y.file) (sym same) ∙ h.0 in omega (arith, e))
by_file n (x ∷ docs) h d (inr i) = let r = by_file (n + 1) docs h.1 d i in (suc r.0, r.1, let e = r.2 in omega (arith, e))

module _ (docs : List Document) (h : AreFaultless docs) where
  -- ---- complex types

  pub complex_number : (c : ComplexDefinition) → HasItem (complex_types docs) c
      → (k : ℕ) × (slice_get (lists_of docs).complexes k ≡ Some c) × ((numbers docs).complexes.placed c.place ≡ Some k)
  complex_number c i =
      let cs = (lists_of docs).complexes in
      let placed : ComplexDefinition → Place = λ x. x.place in
      let once = in_order_once placed complex_before (complex_types docs) (complexes_placed docs h) in
      let r = exact placed cs once c (item_in_order complex_before (complex_types docs) c i) 0 in
      let number : 0 + r.0 ≡ r.0 = omega arith in
      (r.0, r.1, position_mapped (stands_at c.place) complex_entry 0 cs ∙ r.2 ∙ ap (λ (m : ℕ). Some m) number)

  -- ---- local elements

  written_place : WrittenElement → Place
  written_place w = place w.file w.element.at

  own_places : (d : Document) (n : ℕ) (ls : List Local) → count_by (λ (w : WrittenElement). nat_eq n w.element.at) (flat_map (declared_by d.file) ls) ≤ count_by (λ l. nat_eq n (local_place l)) ls
  own_places d n [] = omega arith
  own_places d n (Reference name at ∷ ls) =
      let more = count_more (λ l. nat_eq n (local_place l)) (Reference name at) ls in
      let rest = own_places d n ls in
      omega (arith, more, rest)
  own_places d n (Own e ∷ ls) =
      let more = count_more (λ l. nat_eq n (local_place l)) (Own e) ls in
      let other = count_more (λ (w : WrittenElement). nat_eq n w.element.at) (written_element d.file e) (flat_map (declared_by d.file) ls) in
      let rest = own_places d n ls in
      omega (arith, more, other, rest)

  file_of : (d : Document) (ls : List Local) (w : WrittenElement) → HasItem (flat_map (declared_by d.file) ls) w → w.file ≡ d.file
  file_of d [] w i = absurd i
  file_of d (Reference name at ∷ ls) w i = file_of d ls w i
  file_of d (Own e ∷ ls) w (inl same) = ap (λ (x : WrittenElement). x.file) (sym same)
  file_of d (Own e ∷ ls) w (inr i) = file_of d ls w i

  pub locals_placed : ArePlacedOnce (λ (w : WrittenElement). place w.file w.element.at) (local_elements docs)
  locals_placed =
      of_documents_once (λ (w : WrittenElement). place w.file w.element.at) (λ (d : Document). flat_map (declared_by d.file) d.locals) docs h.numbered
      (λ d i w j. file_of d d.locals w j)
      (λ d i n.
      let less = own_places d n d.locals in
      let once = ascending_once local_place d.locals (ascending_lists d (h.kept d i)).3 n in
      omega (arith, less, once))

  pub local_number : (w : WrittenElement) → HasItem (local_elements docs) w
      → (k : ℕ) × (slice_get (local_elements docs) k ≡ Some w) × ((numbers docs).locals (place w.file w.element.at) ≡ Some (length (global_elements docs) + k))
  local_number w i =
      let r = exact (λ (x : WrittenElement). place x.file x.element.at) (local_elements docs) locals_placed w i (length (global_elements docs)) in
      (r.0, r.1, position_mapped (stands_at (place w.file w.element.at)) element_entry (length (global_elements docs)) (local_elements docs) ∙ r.2)

  -- ---- global elements

  typed_listed : (ds : List Document) → typed_elements ds ≡ map (λ (w : WrittenElement). typed_element w.file w.element) (global_elements ds)
  typed_listed [] = refl
  typed_listed (d ∷ ds) =
      ap₂ (λ xs ys. xs ++ ys) (each d.elements) (typed_listed ds)
      ∙ sym (map-append (λ (w : WrittenElement). typed_element w.file w.element) (map (written_element d.file) d.elements) (global_elements ds))
    where
      each : (es : List Element) → map (typed_element d.file) es ≡ map (λ (w : WrittenElement). typed_element w.file w.element) (map (written_element d.file) es)
      each [] = refl
      each (e ∷ es) = ap (λ xs. typed_element d.file e ∷ xs) (each es)

  -- the first of the name, its number and its type
  pub record IsFirstNamed (n : ℕ) (gs : List WrittenElement) (a : Name) (o : Option ℕ) : Type 0 where
    pub index : ℕ
    pub item : WrittenElement
    pub there : slice_get gs index ≡ Some item
    pub name : item.element.name ≡ a
    pub number : o ≡ Some (n + index)
    pub typed : type_named (map (λ (w : WrittenElement). typed_element w.file w.element) gs) a ≡ Some (identity item.file item.element.kind)

  first_step : (n : ℕ) (g : WrittenElement) (gs : List WrittenElement) (a : Name) (b : Bool) → name_eq g.element.name a ≡ b
      → (b ≡ false → IsFirstNamed (n + 1) gs a (position_from (λ (w : WrittenElement). has_name a (element_entry w)) (n + 1) gs))
      → (index : ℕ) × (item : WrittenElement) × (slice_get (g ∷ gs) index ≡ Some item) × (item.element.name ≡ a)
      × (cond b (Some n) (position_from (λ (w : WrittenElement). has_name a (element_entry w)) (n + 1) gs) ≡ Some (n + index))
      × ((if b then Some (identity g.file g.element.kind) else type_named (map (λ (w : WrittenElement). typed_element w.file w.element) gs) a) ≡ Some (identity item.file item.element.kind))
  first_step n g gs a true e rest = (0, g, refl, (name_eq-Decides g.element.name a).0 e, ap (λ (m : ℕ). Some m) (let same : n ≡ n + 0 = omega arith in same), refl)
  first_step n g gs a false e rest =
      let r = rest refl in
      (suc r.index, r.item, r.there, r.name, r.number ∙ ap (λ (m : ℕ). Some m) (let i = r.index in let same : n + 1 + i ≡ n + suc i = omega arith in same), r.typed)

  first_named : (n : ℕ) (gs : List WrittenElement) (a : Name) (w : WrittenElement) → HasItem gs w → w.element.name ≡ a
      → IsFirstNamed n gs a (position_from (λ (x : WrittenElement). has_name a (element_entry x)) n gs)
  first_named n [] a w i e = absurd i
  first_named n (g ∷ gs) a w i e =
      let r = first_step n g gs a (name_eq g.element.name a) refl
      (λ fails. first_named (n + 1) gs a w (elim i [ inl same ↦ absurd (differs same fails) | inr j ↦ j ]) e) in
      record { index = r.0; item = r.1; there = r.2; name = r.3; number = r.4; typed = r.5 }
    where
      differs : g ≡ w → name_eq g.element.name a ≡ false → ⊥
      differs same fails =
          let passes = (name_eq-Decides g.element.name a).1 (ap (λ (x : WrittenElement). x.element.name) same ∙ e) in
          let no_way : true ≡ false = sym passes ∙ fails in absurd cc

  -- ---- the declarations that local ones are

  pub record IsDeclared (file : ℕ) (l : Local) (w : WrittenElement) : Type 0 where
    pub there : slice_get (sets.elements (numbers docs) (lists_of docs)) (number_of_local (numbers docs) file l) ≡ Some (element (numbers docs) w)
    pub name : w.element.name ≡ name_of l
    pub typed : type_of_local (type_named (typed_elements docs)) file l ≡ Some (identity w.file w.element.kind)
    pub known : HasItem (global_elements docs) w ⊎ HasItem (local_elements docs) w
    pub which : ((e : Element) × (l ≡ Own e) × (w ≡ written_element file e) × (k : ℕ) × (number_of_local (numbers docs) file l ≡ length (global_elements docs) + k)
        × (slice_get (local_elements docs) k ≡ Some w))
        ⊎ (number_of_local (numbers docs) file l < length (global_elements docs))

  by_name : (file at : ℕ) (a : Name) → (g : GlobalComponent) × HasItem (elements docs) g × (a ≡ g.name) → (w : WrittenElement) × IsDeclared file (Reference a at) w
  by_name file at a g =
      let gs = global_elements docs in
      let es = of_flat (λ (d : Document). map (global_element d.file) d.elements) docs g.0 (subst (λ xs. HasItem xs g.0) (elements_listed docs) g.1) in
      let d = es.0 in
      let e = of_mapped (global_element d.file) d.elements g.0 es.2 in
      let w = written_element d.file e.0 in
      let known = in_flat (λ (x : Document). map (written_element x.file) x.elements) docs d w es.1 (in_mapped (written_element d.file) d.elements e.0 e.1) in
      let first = first_named 0 gs a w known (ap (λ (x : GlobalComponent). x.name) e.2 ∙ sym g.2) in
      let number : or_zero ((numbers docs).elements a) ≡ first.index =
      ap or_zero (position_mapped (has_name a) element_entry 0 gs ∙ first.number) ∙ (let i = first.index in let same : 0 + i ≡ i = omega arith in same) in
      let lt = slice_get_within gs first.index first.item first.there in (
        first.item,
        record {
          there = ap (slice_get (sets.elements (numbers docs) (lists_of docs))) number
              ∙ get_left (map (element (numbers docs)) gs) (map (element (numbers docs)) (lists_of docs).locals) first.index (element (numbers docs) first.item)
              (get_mapped (element (numbers docs)) gs first.index first.item first.there);
          name = first.name;
          typed = ap (λ ts. type_named ts a) (typed_listed docs) ∙ first.typed;
          known = inl (item_at gs first.index first.item first.there);
          which = inr (omega (arith, number, lt));
        },
      )

  pub declared : (d : Document) → HasItem docs d → (l : Local) → HasItem d.locals l → (w : WrittenElement) × IsDeclared d.file l w
  declared d i (Reference a at) j =
      let p = part d.file None at (what.ElementReference a) in
      let fine = right docs h.resolved p (local_part docs d i (Reference a at) j p (inl refl)) (element_mention (place d.file at) a) (inl refl) in
      by_name d.file at a (element_named docs a fine)
  declared d i (Own e) j =
      let w = written_element d.file e in
      let known = in_flat (λ (x : Document). flat_map (declared_by x.file) x.locals) docs d w i (in_flat (declared_by d.file) d.locals (Own e) w j (inl refl)) in
      let r = local_number w known in
      let number : or_zero ((numbers docs).locals (place d.file e.at)) ≡ length (global_elements docs) + r.0 = ap or_zero r.2 in
      let gs = map (element (numbers docs)) (global_elements docs) in
      let long = length-map (global_elements docs) (element (numbers docs)) in (
        w,
        record {
          there = get_right gs (map (element (numbers docs)) (local_elements docs)) (or_zero ((numbers docs).locals (place d.file e.at))) r.0 (element (numbers docs) w)
              (omega (arith, number, long)) (get_mapped (element (numbers docs)) (local_elements docs) r.0 w r.1);
          name = refl;
          typed = refl;
          known = inr known;
          which = inl (e, refl, refl, r.0, number, r.1);
        },
      )

  -- a declaration of a document, by its number in it
  pub number_same : (d : Document) → HasItem docs d → (n : ℕ) → number_of_declaration (numbers docs) docs d.file n ≡ number_of_found (numbers docs) d.file (slice_get d.locals n)
  number_same d i n =
      let r = by_file 0 docs h.numbered d i in
      let e = r.2 in
      let before : d.file - 1 ≡ r.0 = omega (arith, e) in
      ap (λ o. number_in_found (numbers docs) d.file o n) (ap (slice_get docs) before ∙ r.1)
