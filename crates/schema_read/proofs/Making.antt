-- What particles and types are, by the label and the kids of their elements.
use Rattle.std.proofs.Common.{◌≡◌, ℕ, zero, suc, ◌<◌, ◌≤◌, ◌+◌, Bool, true, false, cond, List, [], ◌∷◌, ◌++◌, length, map, drop, get_or, refl, ap, sym, ◌∙◌, subst, Option, Some, None, append_assoc, length-append, arith, ◌&&◌, not, codes, set}
use Rattle.schema_read.proofs.Words.{append-nil, drop_all, length-map, set-append_seam, and_left, Name, Rose, node, Roses, roses_of, list_of, label_of, kids_of, roses_of-list_of, roses_of-drop, ItemLabel, Element, Text, ParticleLabel, RawLocal, Simple, Complex, Kind, SimpleKind, ComplexKind, Local, Own, local_of, own_attributes, is_in, Particles, never_occurs, is_true, occurs, Settings, is_named, simple_type, Made, made, made_some, Makes, and_some, and_particle, first_kind, particle_by, complex_of, element_by, kind_by, declared_with, first_group, particle_at, particles_among, group_among, inner_kind, complex_type}
use Rattle.schema_components.specs.Raw as raw

-- ---- what is made

module _ {A : Type 0} (before after : List RawLocal) (v : A) where
  pub makes_as : (m n : Made A) → Makes before after v m → m ≡ n → Makes before after v n
  makes_as m n h e = subst (λ k. Makes before after v k) e h

  pub makes_some : (m : Made A) → Makes before after v m → Makes before after (Some v) (made_some m)
  makes_some m h = record { value_is = ap (λ x. Some x) h.value_is; locals_are = h.locals_are }

-- nothing more is declared
pub makes_alone : {A : Type 0} (before : List RawLocal) (v : A) (m : Made A) → made v [] ≡ m → Makes before before v m
makes_alone before v m e = makes_as before before v (made v []) m (record { value_is = refl; locals_are = sym (append-nil (map local_of before)) }) e

-- how many local declarations there are behind more of them
pub length_after : (now after : List RawLocal) (more : List Local) → map local_of after ≡ map local_of now ++ more → length after ≡ length now + length more
length_after now after more e =
    sym (length-map after local_of)
    ∙ (ap length e ∙ (length-append (map local_of now) more ∙ ap (λ n. n + length more) (length-map now local_of)))

-- ---- an element by its label and its kids

and_not_true : (a b : Bool) → b ≡ true → (a && not b) ≡ false
and_not_true true true is = refl
and_not_true false true is = refl
and_not_true a false is = absurd (cc)

both_true : (a b : Bool) → a ≡ true → b ≡ false → (a && not b) ≡ true
both_true true false is isnt = refl
both_true true true is isnt = absurd (cc)
both_true false b is isnt = absurd (cc)

module _ (said : Settings) (outer : List (List ℕ × List ℕ)) (n : ℕ) where
  pub particle_at-text : (t : Rose ItemLabel) (text : List ℕ) (at : ℕ) → label_of t ≡ Text text at → made None [] ≡ particle_at said outer n t
  particle_at-text (node l ts) text at is = sym (ap (λ k. particle_at said outer n (node k ts)) is)

  pub complex_type-text : (t : Rose ItemLabel) (text : List ℕ) (at : ℕ) → label_of t ≡ Text text at → made None [] ≡ complex_type said outer n t
  complex_type-text (node l ts) text at is = sym (ap (λ k. complex_type said outer n (node k ts)) is)

  module _ (at : ℕ) where
    -- a particle, and a complex type, by what the code has in hand
    abbrev pub particle_inside : List ℕ → List (List ℕ × List ℕ) → List (List ℕ × List ℕ) → List (Rose ItemLabel) → Made (Rose ParticleLabel)
    particle_inside name declares own kids =
        particle_by said n name at (declares ++ outer) own (inner_kind said (declares ++ outer) (n + 1) (roses_of kids)) (particles_among said (declares ++ outer) n (roses_of kids))

    abbrev pub complex_inside : List (List ℕ × List ℕ) → List (List ℕ × List ℕ) → List (Rose ItemLabel) → Made Complex
    complex_inside declares own kids =
        complex_of said at (is_true (codes "mixed") own) (declares ++ outer) kids (group_among said (declares ++ outer) n (roses_of kids))

    module _ (name : Name) (attributes : List (Name × List ℕ)) (declares : List (List ℕ × List ℕ)) where
      particle_at-element : (t : Rose ItemLabel) → label_of t ≡ Element name attributes declares at
          → particle_at said outer n t ≡ cond (occurs (Element name attributes declares at)) (made_some (particle_inside name.local declares (own_attributes attributes) (kids_of t))) (made None [])
      particle_at-element (node l ts) is =
          ap (λ k. particle_at said outer n (node k ts)) is
          ∙ ap (λ us. cond (occurs (Element name attributes declares at)) (made_some (particle_by said n name.local at (declares ++ outer) (own_attributes attributes)
          (inner_kind said (declares ++ outer) (n + 1) us) (particles_among said (declares ++ outer) n us))) (made None [])) (sym (roses_of-list_of ts))

      complex_type-element : (t : Rose ItemLabel) → label_of t ≡ Element name attributes declares at
          → complex_type said outer n t ≡ cond (is_named (codes "complexType") (Element name attributes declares at)) (made_some (complex_inside declares (own_attributes attributes) (kids_of t))) (made None [])
      complex_type-element (node l ts) is =
          ap (λ k. complex_type said outer n (node k ts)) is
          ∙ ap (λ us. cond (is_named (codes "complexType") (Element name attributes declares at)) (made_some (complex_of said at (is_true (codes "mixed") (own_attributes attributes)) (declares ++ outer) (list_of ts)
          (group_among said (declares ++ outer) n us))) (made None [])) (sym (roses_of-list_of ts))

      module _ (t : Rose ItemLabel) (label : label_of t ≡ Element name attributes declares at) where
        as_particle : (b : Bool) → occurs (Element name attributes declares at) ≡ b
            → cond b (made_some (particle_inside name.local declares (own_attributes attributes) (kids_of t))) (made None []) ≡ particle_at said outer n t
        as_particle b is =
            ap (λ c. cond c (made_some (particle_inside name.local declares (own_attributes attributes) (kids_of t))) (made None [])) (sym is) ∙ sym (particle_at-element t label)

        pub no_particle : is_in Particles (label_of t) ≡ false → made None [] ≡ particle_at said outer n t
        no_particle is = as_particle false (and_left (is_in Particles (Element name attributes declares at)) (not (never_occurs (own_attributes attributes))) (sym (ap (is_in Particles) label) ∙ is))

        pub dropped_particle : never_occurs (own_attributes attributes) ≡ true → made None [] ≡ particle_at said outer n t
        dropped_particle is = as_particle false (and_not_true (is_in Particles (Element name attributes declares at)) (never_occurs (own_attributes attributes)) is)

        pub its_particle : is_in Particles (label_of t) ≡ true → never_occurs (own_attributes attributes) ≡ false
            → made_some (particle_inside name.local declares (own_attributes attributes) (kids_of t)) ≡ particle_at said outer n t
        its_particle is isnt =
            as_particle true (both_true (is_in Particles (Element name attributes declares at)) (never_occurs (own_attributes attributes)) (sym (ap (is_in Particles) label) ∙ is) isnt)

        as_complex : (b : Bool) → is_named (codes "complexType") (label_of t) ≡ b
            → cond b (made_some (complex_inside declares (own_attributes attributes) (kids_of t))) (made None []) ≡ complex_type said outer n t
        as_complex b is =
            ap (λ c. cond c (made_some (complex_inside declares (own_attributes attributes) (kids_of t))) (made None [])) (sym is ∙ ap (is_named (codes "complexType")) label)
            ∙ sym (complex_type-element t label)

        pub no_complex_type : is_named (codes "complexType") (label_of t) ≡ false → made None [] ≡ complex_type said outer n t
        no_complex_type is = as_complex false is

        pub its_complex_type : is_named (codes "complexType") (label_of t) ≡ true
            → made_some (complex_inside declares (own_attributes attributes) (kids_of t)) ≡ complex_type said outer n t
        its_complex_type is = as_complex true is

        -- by equal parts
        pub same_particle : (m : List ℕ) (d o : List (List ℕ × List ℕ)) (k : List (Rose ItemLabel)) → m ≡ name.local → d ≡ declares → o ≡ own_attributes attributes → k ≡ kids_of t
            → particle_inside m d o k ≡ particle_inside name.local declares (own_attributes attributes) (kids_of t)
        same_particle m d o k names scopes owns kids =
            ap (λ x. particle_inside x d o k) names
            ∙ (ap (λ x. particle_inside name.local x o k) scopes
            ∙ (ap (λ x. particle_inside name.local declares x k) owns
            ∙ ap (λ x. particle_inside name.local declares (own_attributes attributes) x) kids))

        pub same_complex : (d : List (List ℕ × List ℕ)) (mixed : Bool) (k : List (Rose ItemLabel)) → d ≡ declares → mixed ≡ is_true (codes "mixed") (own_attributes attributes) → k ≡ kids_of t
            → complex_of said at mixed (d ++ outer) k (group_among said (d ++ outer) n (roses_of k)) ≡ complex_inside declares (own_attributes attributes) (kids_of t)
        same_complex d mixed k scopes mixes kids =
            ap (λ x. complex_of said at mixed (x ++ outer) k (group_among said (x ++ outer) n (roses_of k))) scopes
            ∙ (ap (λ x. complex_of said at x (declares ++ outer) k (group_among said (declares ++ outer) n (roses_of k))) mixes
            ∙ ap (λ x. complex_inside declares (own_attributes attributes) x) kids)

-- ---- one behind the other

-- what is made so far, and what the rest makes, are all
pub record Ahead (before now : List RawLocal) (items : List (Rose ParticleLabel)) (rest all : Made (List (Rose ParticleLabel))) : Type 0 where
  pub values_are : items ++ rest.value ≡ all.value
  pub locals_are : map local_of now ++ rest.locals ≡ map local_of before ++ all.locals

pub record RestAhead {A : Type 0} (before now : List RawLocal) (rest all : Made A) : Type 0 where
  pub value_is : rest.value ≡ all.value
  pub locals_are : map local_of now ++ rest.locals ≡ map local_of before ++ all.locals

module _ {A : Type 0} (before now after : List RawLocal) (rest all : Made A) (h : RestAhead before now rest all) where
  -- all is found, with these declarations
  makes_found : (v : A) (ls : List Local) → made v ls ≡ rest → map local_of after ≡ map local_of now ++ ls → Makes before after v all
  makes_found v ls found here =
      record { value_is = ap (λ (m : Made A). m.value) found ∙ h.value_is; locals_are = here ∙ (ap (λ (m : Made A). map local_of now ++ m.locals) found ∙ h.locals_are) }

  -- these declarations are made, and more is ahead
  passes_on : (behind more : Made A) (ls : List Local) → made more.value (ls ++ more.locals) ≡ rest → behind ≡ more → map local_of after ≡ map local_of now ++ ls → RestAhead before after behind all
  passes_on behind more ls found on here =
      record {
        value_is = ap (λ (m : Made A). m.value) on ∙ (ap (λ (m : Made A). m.value) found ∙ h.value_is);
        locals_are =
            ap (λ (m : Made A). map local_of after ++ m.locals) on
            ∙ (ap (λ l. l ++ more.locals) here
            ∙ (append_assoc (map local_of now) ls more.locals
            ∙ (ap (λ (m : Made A). map local_of now ++ m.locals) found ∙ h.locals_are)));
      }

module _ (said : Settings) (scope : List (List ℕ × List ℕ)) (kids : List (Rose ItemLabel)) (i : ℕ) where
  module _ (before now : List RawLocal) where
    pub all_particles : (items : List (Rose ParticleLabel)) (all : Made (List (Rose ParticleLabel))) → length kids ≤ i
        → Ahead before now items (particles_among said scope (length now) (roses_of (drop i kids))) all → Makes before now items all
    all_particles items all end h =
        let none : particles_among said scope (length now) (roses_of (drop i kids)) ≡ made [] [] = ap (λ l. particles_among said scope (length now) (roses_of l)) (drop_all i kids end) in
        record {
          value_is = sym (append-nil items) ∙ (ap (λ (m : Made (List (Rose ParticleLabel))). items ++ m.value) (sym none) ∙ h.values_are);
          locals_are = sym (append-nil (map local_of now)) ∙ (ap (λ (m : Made (List (Rose ParticleLabel))). map local_of now ++ m.locals) (sym none) ∙ h.locals_are);
        }

    pub no_group : (all : Made (Option (Rose ParticleLabel))) → length kids ≤ i
        → RestAhead before now (group_among said scope (length now) (roses_of (drop i kids))) all → Makes before now None all
    no_group all end h =
        makes_found before now now (group_among said scope (length now) (roses_of (drop i kids))) all h None [] (ap (λ l. group_among said scope (length now) (roses_of l)) (sym (drop_all i kids end)))
        (sym (append-nil (map local_of now)))

    pub last_kind : (kind : Kind) (all : Made Kind) → length kids ≤ i → made kind [] ≡ inner_kind said scope (length now) (roses_of [])
        → RestAhead before now (inner_kind said scope (length now) (roses_of (drop i kids))) all → Makes before now kind all
    last_kind kind all end is h =
        makes_found before now now (inner_kind said scope (length now) (roses_of (drop i kids))) all h kind [] (is ∙ ap (λ l. inner_kind said scope (length now) (roses_of l)) (sym (drop_all i kids end)))
        (sym (append-nil (map local_of now)))

  -- the kid with this number
  module _ (kid : Rose ItemLabel) (at : i < length kids) (here : kid ≡ get_or kids i kid) (before now after : List RawLocal) where
    pub one_more_particle : (items more : List (Rose ParticleLabel)) (found : Option (Rose ParticleLabel)) (all : Made (List (Rose ParticleLabel)))
        → Ahead before now items (particles_among said scope (length now) (roses_of (drop i kids))) all
        → Makes now after found (particle_at said scope (length now) kid)
        → ((rest : List (Rose ParticleLabel)) → more ++ rest ≡ items ++ and_some found rest)
        → Ahead before after more (particles_among said scope (length after) (roses_of (drop (i + 1) kids))) all
    one_more_particle items more found all h made_here pushed =
        let p : Made (Option (Rose ParticleLabel)) = particle_at said scope (length now) kid in
        let r : Made (List (Rose ParticleLabel)) = particles_among said scope (length now + length p.locals) (roses_of (drop (i + 1) kids)) in
        let cut : particles_among said scope (length now) (roses_of (drop i kids)) ≡ and_particle p r = ap (particles_among said scope (length now)) (roses_of-drop kids i kid at here) in
        let on : particles_among said scope (length after) (roses_of (drop (i + 1) kids)) ≡ r =
        ap (λ n. particles_among said scope n (roses_of (drop (i + 1) kids))) (length_after now after p.locals made_here.locals_are) in
        record {
          values_are =
              ap (λ (m : Made (List (Rose ParticleLabel))). more ++ m.value) on
              ∙ (pushed r.value
              ∙ (ap (λ f. items ++ and_some f r.value) made_here.value_is
              ∙ (ap (λ (m : Made (List (Rose ParticleLabel))). items ++ m.value) (sym cut) ∙ h.values_are)));
          locals_are =
              ap (λ (m : Made (List (Rose ParticleLabel))). map local_of after ++ m.locals) on
              ∙ (ap (λ l. l ++ r.locals) made_here.locals_are
              ∙ (append_assoc (map local_of now) p.locals r.locals
              ∙ (ap (λ (m : Made (List (Rose ParticleLabel))). map local_of now ++ m.locals) (sym cut) ∙ h.locals_are)));
        }

    abbrev rest_group : Made (Option (Rose ParticleLabel)) → Made (Option (Rose ParticleLabel))
    rest_group p = group_among said scope (length now + length p.locals) (roses_of (drop (i + 1) kids))

    group_cut : group_among said scope (length now) (roses_of (drop i kids))
        ≡ first_group (particle_at said scope (length now) kid) (rest_group (particle_at said scope (length now) kid))
    group_cut = ap (group_among said scope (length now)) (roses_of-drop kids i kid at here)

    pub group_found : (group : Rose ParticleLabel) (all : Made (Option (Rose ParticleLabel))) → Makes now after (Some group) (particle_at said scope (length now) kid)
        → RestAhead before now (group_among said scope (length now) (roses_of (drop i kids))) all → Makes before after (Some group) all
    group_found group all made_here h =
        let p : Made (Option (Rose ParticleLabel)) = particle_at said scope (length now) kid in
        makes_found before now after (group_among said scope (length now) (roses_of (drop i kids))) all h (Some group) p.locals
        (ap (λ (v : Option (Rose ParticleLabel)). first_group (made v p.locals) (rest_group p)) made_here.value_is ∙ sym group_cut) made_here.locals_are

    pub group_passed : (all : Made (Option (Rose ParticleLabel))) → Makes now after None (particle_at said scope (length now) kid)
        → RestAhead before now (group_among said scope (length now) (roses_of (drop i kids))) all
        → RestAhead before after (group_among said scope (length after) (roses_of (drop (i + 1) kids))) all
    group_passed all made_here h =
        let p : Made (Option (Rose ParticleLabel)) = particle_at said scope (length now) kid in
        passes_on before now after (group_among said scope (length now) (roses_of (drop i kids))) all h (group_among said scope (length after) (roses_of (drop (i + 1) kids))) (rest_group p) p.locals
        (ap (λ (v : Option (Rose ParticleLabel)). first_group (made v p.locals) (rest_group p)) made_here.value_is ∙ sym group_cut)
        (ap (λ n. group_among said scope n (roses_of (drop (i + 1) kids))) (length_after now after p.locals made_here.locals_are)) made_here.locals_are

    abbrev rest_kind : Made (Option Complex) → Made Kind
    rest_kind c = inner_kind said scope (length now + length c.locals) (roses_of (drop (i + 1) kids))

    kind_cut : inner_kind said scope (length now) (roses_of (drop i kids))
        ≡ first_kind (simple_type scope kid) (complex_type said scope (length now) kid) (rest_kind (complex_type said scope (length now) kid))
    kind_cut = ap (inner_kind said scope (length now)) (roses_of-drop kids i kid at here)

    pub simple_found : (body : Simple) (all : Made Kind) → Some body ≡ simple_type scope kid
        → RestAhead before now (inner_kind said scope (length now) (roses_of (drop i kids))) all → Makes before now (SimpleKind body) all
    simple_found body all is h =
        let c : Made (Option Complex) = complex_type said scope (length now) kid in
        makes_found before now now (inner_kind said scope (length now) (roses_of (drop i kids))) all h (SimpleKind body) [] (ap (λ s. first_kind s c (rest_kind c)) is ∙ sym kind_cut)
        (sym (append-nil (map local_of now)))

    pub complex_found : (body : Complex) (all : Made Kind) → None ≡ simple_type scope kid → Makes now after (Some body) (complex_type said scope (length now) kid)
        → RestAhead before now (inner_kind said scope (length now) (roses_of (drop i kids))) all → Makes before after (ComplexKind body) all
    complex_found body all isnt made_here h =
        let c : Made (Option Complex) = complex_type said scope (length now) kid in
        makes_found before now after (inner_kind said scope (length now) (roses_of (drop i kids))) all h (ComplexKind body) c.locals
        (ap (λ (v : Option Complex). first_kind None (made v c.locals) (rest_kind c)) made_here.value_is ∙ (ap (λ s. first_kind s c (rest_kind c)) isnt ∙ sym kind_cut)) made_here.locals_are

    pub kind_passed : (all : Made Kind) → None ≡ simple_type scope kid → Makes now after None (complex_type said scope (length now) kid)
        → RestAhead before now (inner_kind said scope (length now) (roses_of (drop i kids))) all
        → RestAhead before after (inner_kind said scope (length after) (roses_of (drop (i + 1) kids))) all
    kind_passed all isnt made_here h =
        let c : Made (Option Complex) = complex_type said scope (length now) kid in
        passes_on before now after (inner_kind said scope (length now) (roses_of (drop i kids))) all h (inner_kind said scope (length after) (roses_of (drop (i + 1) kids))) (rest_kind c) c.locals
        (ap (λ (v : Option Complex). first_kind None (made v c.locals) (rest_kind c)) made_here.value_is ∙ (ap (λ s. first_kind s c (rest_kind c)) isnt ∙ sym kind_cut))
        (ap (λ n. inner_kind said scope n (roses_of (drop (i + 1) kids))) (length_after now after c.locals made_here.locals_are)) made_here.locals_are

-- ---- a place held for a declaration before those in it

put_in_place : (before held after all : List RawLocal) (x v : Local) (inner : List Local)
    → map local_of held ≡ map local_of before ++ x ∷ [] → map local_of after ≡ map local_of held ++ inner → map local_of all ≡ set (map local_of after) (length before) v
    → map local_of all ≡ map local_of before ++ v ∷ inner
put_in_place before held after all x v inner first then put =
    put
    ∙ (ap (λ l. set l (length before) v) (then ∙ ap (λ l. l ++ inner) first)
    ∙ (ap (λ n. set ((map local_of before ++ x ∷ []) ++ inner) n v) (sym (length-map before local_of))
    ∙ (ap (λ l. set l (length (map local_of before)) v) (append_assoc (map local_of before) (x ∷ []) inner) ∙ set-append_seam (map local_of before) x inner v)))

module _ (said : Settings) (scope own : List (List ℕ × List ℕ)) (at : ℕ) (kids : Roses ItemLabel) where
  abbrev declared_element : Name → ℕ → Made raw.Element
  declared_element name n = element_by name own at (kind_by scope own (inner_kind said scope n kids))

  pub declared_in_place : (before held after all : List RawLocal) (x : Local) (written name : Name) (element : raw.Element) (number : ℕ)
      → map local_of held ≡ map local_of before ++ x ∷ [] → written ≡ name → Makes held after element (declared_element written (length held))
      → number ≡ length before → map local_of all ≡ set (map local_of after) number (Own element)
      → map local_of all ≡ map local_of before ++ declared_with (declared_element name (length before + 1))
  declared_in_place before held after all x written name element number first named inner counted put =
      let given : Made raw.Element = declared_element written (length held) in
      let same : given ≡ declared_element name (length before + 1) =
      ap (λ m. declared_element m (length held)) named ∙ ap (λ n. declared_element name n) (length_after before held (x ∷ []) first) in
      put_in_place before held after all x (Own element) given.locals first inner.locals_are (put ∙ ap (λ n. set (map local_of after) n (Own element)) counted)
      ∙ (ap (λ e. map local_of before ++ Own e ∷ given.locals) inner.value_is
      ∙ ap (λ m. map local_of before ++ declared_with m) same)

-- the place stays
pub held_within : (before held after : List RawLocal) (x : Local) (element : raw.Element) (number : ℕ) {m : Made raw.Element}
    → map local_of held ≡ map local_of before ++ x ∷ [] → Makes held after element m → number ≡ length before → number < length after
held_within before held after x element number {m} first inner counted =
    let h = length_after before held (x ∷ []) first in
    let a = length_after held after m.locals inner.locals_are in
    omega (arith, h, a, counted)

-- one local declaration in the place of another
pub map_put : (xs : List RawLocal) (n : ℕ) (v : RawLocal) → map local_of (set xs n v) ≡ set (map local_of xs) n (local_of v)
map_put [] n v = refl
map_put (x ∷ xs) zero v = refl
map_put (x ∷ xs) (suc n) v = ap (λ l. local_of x ∷ l) (map_put xs n v)
