-- Where there is room for what is read, there is room for each part of it.
use Rattle.std.proofs.Common.{◌≡◌, ℕ, ◌+◌, ◌<◌, ◌^◌, Bool, true, false, cond, List, [], ◌∷◌, ◌++◌, length, map, drop, get_or, Option, Some, None, ap, sym, ◌∙◌, subst, append_assoc, length-append, arith, codes}
use Rattle.schema_read.proofs.Words.{length-map, drop_more, Name, Rose, Roses, roses_of, label_of, Allowed, roses_of-drop, ItemLabel, MayHave, ParticleLabel, RawContent, RawLocal, Use, Complex, Kind, NamedKind, Local, Reference, Own, TypeDefinition, element_of, type_of, local_of, beside, Globals, type_ref, referred, local_name, simple_type, Settings, content_of_nothing, model_of, complex_by, complex_with, Made, made, element_by, kind_by, declared, declared_with, reference_to, and_particle, first_group, first_kind, particle_at, particles_among, group_among, inner_kind, complex_type, Parts, complex_types, parts_by, parts_among, ContentHeld, BodyHeld, FoundHeld, KindHeld, ElementHeld, LocalHeld, ElementsHeld, TypesHeld, LocalsHeld, Numbered, HasRoom, IsHeld, PartsHeld}
use Rattle.schema_components.specs.Raw as raw
use Rattle.schema_read.specs.Raw.{and_parts}
use Rattle.schema_read.proofs.Adding.{PartsAhead}
use Rattle.schema_read.proofs.Held.{locals_held_append}
use Rattle.schema_read.proofs.Making.{Ahead, RestAhead, length_after}

locals_held_left : (ls ms : List Local) → LocalsHeld (ls ++ ms) → LocalsHeld ls
locals_held_left [] ms h = tt
locals_held_left (l ∷ ls) ms h = (h.0, locals_held_left ls ms h.1)

locals_held_right : (ls ms : List Local) → LocalsHeld (ls ++ ms) → LocalsHeld ms
locals_held_right [] ms h = h
locals_held_right (l ∷ ls) ms h = locals_held_right ls ms h.1

pub numbered_left : (ls ms : List Local) → Numbered (ls ++ ms) → Numbered ls
numbered_left ls ms h =
    let count = length-append ls ms in
    let few = h.few in
    record { few = omega (arith, count, few); held = locals_held_left ls ms h.held }

pub numbered_front : (xs ls ms : List Local) → Numbered (xs ++ (ls ++ ms)) → Numbered (xs ++ ls)
numbered_front xs ls ms h = numbered_left (xs ++ ls) ms (subst (λ ls. Numbered ls) (sym (append_assoc xs ls ms)) h)

-- the next number has 32 bits
pub has_number : (before : List RawLocal) (l : Local) (ls : List Local) → Numbered (map local_of before ++ l ∷ ls) → length before < 2 ^ 32
has_number before l ls h =
    let count = length-append (map local_of before) (l ∷ ls) in
    let same = length-map before local_of in
    let few = h.few in
    omega (arith, count, same, few)

-- ---- one behind the other

first_room : (xs : List Local) (v : Option (Rose ParticleLabel)) (ls : List Local) (r : Made (Option (Rose ParticleLabel))) → Numbered (xs ++ (first_group (made v ls) r).locals) → Numbered (xs ++ ls)
first_room xs None ls r h = numbered_front xs ls r.locals h
first_room xs (Some t) ls r h = h

first_held : (xs : List Local) (v : Option Complex) (ls : List Local) (r : Made Kind) → KindHeld (first_kind None (made v ls) r).value → Numbered (xs ++ (first_kind None (made v ls) r).locals)
    → FoundHeld v × Numbered (xs ++ ls)
first_held xs None ls r h room = (tt, numbered_front xs ls r.locals room)
first_held xs (Some body) ls r h room = (h, room)

module _ (said : Settings) (scope : List (List ℕ × List ℕ)) (kids : List (Rose ItemLabel)) (i : ℕ) (kid : Rose ItemLabel) (at : i < length kids) (here : kid ≡ get_or kids i kid) (before now : List RawLocal) where
  pub particle_room : (items : List (Rose ParticleLabel)) (all : Made (List (Rose ParticleLabel)))
      → Ahead before now items (particles_among said scope (length now) (roses_of (drop i kids))) all → HasRoom before all → HasRoom now (particle_at said scope (length now) kid)
  particle_room items all h room =
      let p : Made (Option (Rose ParticleLabel)) = particle_at said scope (length now) kid in
      let r : Made (List (Rose ParticleLabel)) = particles_among said scope (length now + length p.locals) (roses_of (drop (i + 1) kids)) in
      let cut : particles_among said scope (length now) (roses_of (drop i kids)) ≡ and_particle p r = ap (particles_among said scope (length now)) (roses_of-drop kids i kid at here) in
      numbered_front (map local_of now) p.locals r.locals
      (subst (λ ls. Numbered ls) (sym h.locals_are ∙ ap (λ (m : Made (List (Rose ParticleLabel))). map local_of now ++ m.locals) cut) room)

  pub group_room : (all : Made (Option (Rose ParticleLabel)))
      → RestAhead before now (group_among said scope (length now) (roses_of (drop i kids))) all → HasRoom before all → HasRoom now (particle_at said scope (length now) kid)
  group_room all h room =
      let p : Made (Option (Rose ParticleLabel)) = particle_at said scope (length now) kid in
      let r : Made (Option (Rose ParticleLabel)) = group_among said scope (length now + length p.locals) (roses_of (drop (i + 1) kids)) in
      let cut : group_among said scope (length now) (roses_of (drop i kids)) ≡ first_group p r = ap (group_among said scope (length now)) (roses_of-drop kids i kid at here) in
      first_room (map local_of now) p.value p.locals r
      (subst (λ ls. Numbered ls) (sym h.locals_are ∙ ap (λ (m : Made (Option (Rose ParticleLabel))). map local_of now ++ m.locals) cut) room)

  pub kind_held : (all : Made Kind) → None ≡ simple_type scope kid
      → RestAhead before now (inner_kind said scope (length now) (roses_of (drop i kids))) all → IsHeld KindHeld before all → IsHeld FoundHeld now (complex_type said scope (length now) kid)
  kind_held all isnt h held =
      let c : Made (Option Complex) = complex_type said scope (length now) kid in
      let r : Made Kind = inner_kind said scope (length now + length c.locals) (roses_of (drop (i + 1) kids)) in
      let cut : inner_kind said scope (length now) (roses_of (drop i kids)) ≡ first_kind None c r =
      ap (inner_kind said scope (length now)) (roses_of-drop kids i kid at here) ∙ ap (λ s. first_kind s c r) (sym isnt) in
      let two = first_held (map local_of now) c.value c.locals r
      (subst KindHeld (sym h.value_is ∙ ap (λ (m : Made Kind). m.value) cut) held.value)
      (subst (λ ls. Numbered ls) (sym h.locals_are ∙ ap (λ (m : Made Kind). map local_of now ++ m.locals) cut) held.room) in
      record { value = two.0; room = two.1 }

-- ---- what stands in a declaration

-- in the place that is held for it there is as much room
held_room : (before held : List RawLocal) (x l : Local) (inner : List Local) → LocalHeld x → map local_of held ≡ map local_of before ++ x ∷ []
    → Numbered (map local_of before ++ l ∷ inner) → Numbered (map local_of held ++ inner)
held_room before held x l inner some first h =
    let places : (map local_of before ++ x ∷ []) ++ inner ≡ map local_of before ++ x ∷ inner = append_assoc (map local_of before) (x ∷ []) inner in
    let count = length-append (map local_of before) (l ∷ inner) in
    let other = length-append (map local_of before) (x ∷ inner) in
    let few = h.few in
    let here : Numbered (map local_of before ++ x ∷ inner) =
    record {
      few = omega (arith, count, other, few);
      held = locals_held_append (map local_of before) (x ∷ inner) (locals_held_left (map local_of before) (l ∷ inner) h.held) (some, (locals_held_right (map local_of before) (l ∷ inner) h.held).1);
    } in
    subst (λ all. Numbered all) (sym (ap (λ ls. ls ++ inner) first ∙ places)) here

module _ (said : Settings) (scope own : List (List ℕ × List ℕ)) (at : ℕ) (kids : Roses ItemLabel) where
  abbrev declared_element : Name → ℕ → Made raw.Element
  declared_element name n = element_by name own at (kind_by scope own (inner_kind said scope n kids))

  pub declared_held : (before held : List RawLocal) (x : Local) (written name : Name) → LocalHeld x → map local_of held ≡ map local_of before ++ x ∷ [] → written ≡ name
      → Numbered (map local_of before ++ declared_with (declared_element name (length before + 1))) → IsHeld ElementHeld held (declared_element written (length held))
  declared_held before held x written name some first named h =
      let e : Made raw.Element = declared_element name (length before + 1) in
      let same : e ≡ declared_element written (length held) =
      ap (λ n. declared_element name n) (sym (length_after before held (x ∷ []) first)) ∙ ap (λ m. declared_element m (length held)) (sym named) in
      subst (λ (m : Made raw.Element). IsHeld ElementHeld held m) same
      (record { value = (locals_held_right (map local_of before) (declared_with e) h.held).0; room = held_room before held x (Own e.value) e.locals some first h })

-- ---- by the case

pub room_then : {A : Type 0} (before : List RawLocal) (b : Bool) (x y : Made A) → b ≡ true → HasRoom before (cond b x y) → HasRoom before x
room_then before true x y is h = h
room_then before false x y is h = absurd (let e : false ≡ true = is in cc)

pub room_else : {A : Type 0} (before : List RawLocal) (b : Bool) (x y : Made A) → b ≡ false → HasRoom before (cond b x y) → HasRoom before y
room_else before true x y is h = absurd (let e : true ≡ false = is in cc)
room_else before false x y is h = h

pub kind_in_place : (before : List RawLocal) (scope own : List (List ℕ × List ℕ)) (name : Name) (at : ℕ) (inner : Made Kind) (o : Option (List ℕ)) → None ≡ o
    → IsHeld ElementHeld before (element_by name own at (elim o [ None ↦ inner | Some value ↦ made (NamedKind (type_ref scope value)) [] ])) → IsHeld KindHeld before inner
kind_in_place before scope own name at inner None is h = record { value = h.value; room = h.room }
kind_in_place before scope own name at inner (Some value) is h = absurd (cc)

pub body_by_group : (said : Settings) (before : List RawLocal) (at : ℕ) (mixed : Bool) (scope : List (List ℕ × List ℕ)) (kids : List (Rose ItemLabel)) (group : Made (Option (Rose ParticleLabel))) (o : Option (RawContent × List Use)) → None ≡ o
    → IsHeld BodyHeld before (elim o [ None ↦ made (complex_by said at mixed scope kids group.value) group.locals | Some found ↦ made (complex_with at found) [] ])
    → BodyHeld (complex_by said at mixed scope kids group.value) × HasRoom before group
body_by_group said before at mixed scope kids group None is h = (h.value, h.room)
body_by_group said before at mixed scope kids group (Some found) is h = absurd (cc)

-- a local declaration has a number of its own
module _ (said : Settings) (before : List RawLocal) (scope own : List (List ℕ × List ℕ)) (at : ℕ) (inner : Made Kind) where
  abbrev own_element : Made raw.Element
  own_element = element_by (local_name said.target said.elements_qualified own) own at (kind_by scope own inner)

  abbrev declared_by : Option (List ℕ) → List Local
  declared_by o = elim o [ None ↦ declared_with own_element | Some text ↦ reference_to (referred scope text) at ]

  number_by : (o : Option (List ℕ)) → Numbered (map local_of before ++ declared_by o) → length before < 2 ^ 32
  number_by None h = has_number before (Own own_element.value) own_element.locals h
  number_by (Some text) h = has_number before (Reference (referred scope text) at) [] h

  pub number_of_declared : Numbered (map local_of before ++ declared said at scope own inner) → length before < 2 ^ 32
  number_of_declared h = number_by (beside (codes "ref") own) h

  own_by : (o : Option (List ℕ)) → None ≡ o → Numbered (map local_of before ++ declared_by o) → Numbered (map local_of before ++ declared_with own_element)
  own_by None is h = h
  own_by (Some text) is h = absurd (cc)

  pub room_for_own : None ≡ beside (codes "ref") own → Numbered (map local_of before ++ declared said at scope own inner) → Numbered (map local_of before ++ declared_with own_element)
  room_for_own is h = own_by (beside (codes "ref") own) is h

-- ---- content by a group

pub group_allowed : (b mixed : Bool) (file at : ℕ) (group : Rose ParticleLabel) → b ≡ false → ContentHeld (cond b (content_of_nothing file mixed at) (model_of mixed group)) → Allowed MayHave group
group_allowed true mixed file at group is h = absurd (let e : true ≡ false = is in cc)
group_allowed false true file at group is h = h
group_allowed false false file at group is h = h

-- ---- children of `schema`

elements_held_left : (xs ys : List raw.Element) → ElementsHeld (xs ++ ys) → ElementsHeld xs
elements_held_left [] ys h = tt
elements_held_left (x ∷ xs) ys h = (h.0, elements_held_left xs ys h.1)

elements_held_right : (xs ys : List raw.Element) → ElementsHeld (xs ++ ys) → ElementsHeld ys
elements_held_right [] ys h = h
elements_held_right (x ∷ xs) ys h = elements_held_right xs ys h.1

types_held_left : (xs ys : List TypeDefinition) → TypesHeld (xs ++ ys) → TypesHeld xs
types_held_left [] ys h = tt
types_held_left (x ∷ xs) ys h = (h.0, types_held_left xs ys h.1)

types_held_right : (xs ys : List TypeDefinition) → TypesHeld (xs ++ ys) → TypesHeld ys
types_held_right [] ys h = h
types_held_right (x ∷ xs) ys h = types_held_right xs ys h.1

pub found_held : (name : Name) (v : Option Complex) → TypesHeld (complex_types name v) → FoundHeld v
found_held name None h = tt
found_held name (Some body) h = h.0

pub parts_then : (before : List RawLocal) (b : Bool) (p q : Parts) → b ≡ true → PartsHeld before (cond b p q) → PartsHeld before p
parts_then before true p q is h = h
parts_then before false p q is h = absurd (let e : false ≡ true = is in cc)

pub parts_else : (before : List RawLocal) (b : Bool) (p q : Parts) → b ≡ false → PartsHeld before (cond b p q) → PartsHeld before q
parts_else before true p q is h = absurd (let e : true ≡ false = is in cc)
parts_else before false p q is h = h

module _ (said : Settings) (scope : List (List ℕ × List ℕ)) (kids : List (Rose ItemLabel)) (i : ℕ) (all : Parts) (so_far : Globals)
    (h : PartsAhead so_far (parts_among said scope (length so_far.locals.items) (drop i kids)) all)
    (kid : Rose ItemLabel) (at : i < length kids) (here : kid ≡ get_or kids i kid) where
  pub parts_of_kid : PartsHeld [] all → PartsHeld so_far.locals.items (parts_by said scope (length so_far.locals.items) (label_of kid) kid)
  parts_of_kid held =
      let n = length so_far.locals.items in
      let p : Parts = parts_by said scope n (label_of kid) kid in
      let r : Parts = parts_among said scope (n + length p.locals) (drop (i + 1) kids) in
      let cut : and_parts p r ≡ parts_among said scope n (drop i kids) =
      ap (λ k. parts_among said scope n (k ∷ drop (i + 1) kids)) here ∙ ap (parts_among said scope n) (sym (drop_more kids i kid at)) in
      let elements = map element_of so_far.elements.items in
      let types = map type_of so_far.types.items in
      let declared = map local_of so_far.locals.items in
      record {
        elements = elements_held_left p.elements r.elements (elements_held_right elements (p.elements ++ r.elements)
            (subst (λ es. ElementsHeld es) (sym (ap (λ (q : Parts). elements ++ q.elements) cut ∙ h.elements_are)) held.elements));
        types = types_held_left p.types r.types (types_held_right types (p.types ++ r.types)
            (subst (λ ts. TypesHeld ts) (sym (ap (λ (q : Parts). types ++ q.types) cut ∙ h.types_are)) held.types));
        room = numbered_front declared p.locals r.locals (subst (λ ls. Numbered ls) (sym (ap (λ (q : Parts). declared ++ q.locals) cut ∙ h.locals_are)) held.room);
      }
