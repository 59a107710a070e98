-- The walk over a schema document without a fault: a property by the rules of `Reading` holds of all that is read of it.
use Rattle.std.proofs.Common.{◌≡◌, ℕ, suc, ◌+◌, ◌<◌, ◌≤◌, Bool, true, false, cond, List, [], ◌∷◌, ◌++◌, length, Option, Some, None, inl, inr, refl, ap, sym, subst, arith, ◌||◌, not, bytes_eq, codes, nat_le, nat_lt, unwrap_or}
use Rattle.schema_read.proofs.Words.{list_any, option_or, and_parts, and_left, and_right, or_parts, or_cases, cond_both, cond-true, cases_Bool, not-true, leb-false, lt-ltb, append-nil, bytes_eq-Decides, beside, Rose, node, Roses, roses_of, list_of, label_of, kids_of, length_all, roses_of-list_of, item_place, ItemLabel, Element, Text, levels_all, ParticleLabel, Other, RawContent, Inner, none, more, Use, Simple, Complex, Kind, NamedKind, SimpleKind, ComplexKind, Local, is_schema_name, counted_names, own_attributes, never_occurs, names_in, is_in, child_count, Particles, TakenParticles, Attributes, ElementRole, Schema, GlobalElement, LocalElement, AllElement, GlobalAttribute, GlobalSimpleType, GlobalComplexType, InnerComplexType, Sequence, Choice, All, Position, Anywhere, has_large, level_inside, is_over_limit, is_true, occurs, position_behind, reasons_among, NoneAtAll, counted_at, counted_among, no_name, type_ref, referred, declared_name, has_use, local_name, use_by, use_at, uses_among, global_attribute, simple_type, Settings, is_named, is_nothing, content_of_nothing, model_of, content_of, empty_place, group_place, simple_content, complex_with, complex_by, Made, made, made_some, element_name, kind_by, element_by, declared, declared_with, reference_to, leaf_of, group_of, particle_by, and_some, first_kind, first_group, complex_of, particle_at, particles_among, group_among, inner_kind, complex_type, Parts, no_parts, element_parts, attribute_parts, simple_type_parts, complex_type_parts, global_element, parts_named, parts_by, parts_among}
use Rattle.base_trees.specs.Rose as rose
use Rattle.schema_components.specs.Raw as raw
use Rattle.schema_read.proofs.FaultlessRoles.{one_of, role_there, HasParticles, HasTypes, HasGroup, local_types, IsGroupRole, group_particles, type_particles, word_of_particle, IsParticle, its_element, its_group, particle_cases, complex_cases, word_of, member, by_word}
use Rattle.schema_read.proofs.ItemPlaces.{SpansAll, span_le, span_all_le}
use Rattle.schema_read.proofs.Reading.{Reading, of_bases, of_body, of_kinds, of_parts, Around, Extent, extent, Site, own_of, scope_of, around_in, gap, Kid, Kids, Fact, LeafFact, GroupFact, IsNothing, ContentBy, Inside, Counted, Rules}
use Rattle.schema_read.proofs.WalkTypes.{first_kid, later_kids, element_of, fact_of, kids_in, kids_at, counted_is, looked, listed, as_counted, FoundSimple, simple_walk, declared_walk, use_walk, more_use, uses_walk, FoundContent, content_walk}

-- ---- roles

gap_of_group : (role : ElementRole) → IsGroupRole role → gap role ≡ 1
gap_of_group Sequence h = refl
gap_of_group Choice h = refl
gap_of_group All h = refl
gap_of_group role h = absurd h

gap_of_type : (role : ElementRole) → HasGroup role → gap role ≡ 0
gap_of_type GlobalComplexType h = refl
gap_of_type InnerComplexType h = refl
gap_of_type role h = absurd h

gap_of_types : (role : ElementRole) → HasTypes role → gap role ≡ 2
gap_of_types Schema h = refl
gap_of_types GlobalElement h = refl
gap_of_types LocalElement h = refl
gap_of_types AllElement h = refl
gap_of_types role h = absurd h

level_of_type : (role : ElementRole) → HasGroup role → (level : ℕ) → level_inside role level ≡ 0
level_of_type GlobalComplexType h level = refl
level_of_type InnerComplexType h level = refl
level_of_type role h level = absurd h

counted_group : (role : ElementRole) → IsGroupRole role → (list_any (bytes_eq (word_of_particle role)) counted_names ≡ true) × (looked (word_of_particle role) ≡ true)
counted_group Sequence h = (refl, refl)
counted_group Choice h = (refl, refl)
counted_group All h = (refl, refl)
counted_group role h = absurd h

-- ---- how many groups stand round a particle

level_by : (level : ℕ) (a b : Bool) → (a || (nat_le 16 level || b)) ≡ false → level < 16
level_by level a b few = leb-false 16 level (or_parts (nat_le 16 level) b (or_parts a (nat_le 16 level || b) few).1).0

group_level : (role : ElementRole) → IsGroupRole role → (level : ℕ) (own : List (List ℕ × List ℕ)) (kids : List (Rose ItemLabel)) → is_over_limit role level own kids ≡ false → level < 16
group_level Sequence h level own kids few = level_by level (has_large (codes "minOccurs") own || has_large (codes "maxOccurs") own) (nat_lt 500 (child_count TakenParticles kids)) few
group_level Choice h level own kids few = level_by level (has_large (codes "minOccurs") own || has_large (codes "maxOccurs") own) (nat_lt 500 (child_count TakenParticles kids)) few
group_level All h level own kids few = level_by level (has_large (codes "minOccurs") own || has_large (codes "maxOccurs") own) (nat_lt 500 (child_count TakenParticles kids)) few
group_level role h level own kids few = absurd h

one_more : (level : ℕ) → level < 16 → cond (nat_lt level 17) (level + 1) 17 ≡ level + 1
one_more level lt = cond-true (nat_lt level 17) (level + 1) 17 (lt-ltb level 17 (omega (arith, lt)))

next_level : (role : ElementRole) → IsGroupRole role → (level : ℕ) → level < 16 → level_inside role level ≡ level + 1
next_level Sequence h level lt = one_more level lt
next_level Choice h level lt = one_more level lt
next_level All h level lt = one_more level lt
next_level role h level lt = absurd h

-- ---- where a particle in a group may occur, it has one

first_there : (b : Bool) (m : Made (Rose ParticleLabel)) (ts : List (Rose ParticleLabel)) → b ≡ true → 1 ≤ length_all (roses_of (and_some (cond b (made_some m) (made None [])).value ts))
first_there true m ts is = omega arith
first_there false m ts is = absurd (let e : false ≡ true = is in cc)

some_later : (v : Option (Rose ParticleLabel)) (ts : List (Rose ParticleLabel)) → 1 ≤ length_all (roses_of ts) → 1 ≤ length_all (roses_of (and_some v ts))
some_later None ts h = h
some_later (Some t) ts h = omega arith

some_particle : (said : Settings) (scope : List (List ℕ × List ℕ)) (n : ℕ) (ts : Roses ItemLabel) → list_any (λ (kid : Rose ItemLabel). occurs (label_of kid)) (list_of ts) ≡ true
    → 1 ≤ length_all (roses_of (particles_among said scope n ts).value)
some_particle said scope n rose.none is = absurd (let e : false ≡ true = is in cc)
some_particle said scope n (rose.more (node (Text text at) kids) ts) is = some_particle said scope (n + length {A = Local} []) ts is
some_particle said scope n (rose.more (node (Element name attributes declares at) kids) ts) is =
    let m : Made (Rose ParticleLabel) =
    particle_by said n name.local at (declares ++ scope) (own_attributes attributes) (inner_kind said (declares ++ scope) (n + 1) kids) (particles_among said (declares ++ scope) n kids) in
    let first : Made (Option (Rose ParticleLabel)) = particle_at said scope n (node (Element name attributes declares at) kids) in
    let rest : Made (List (Rose ParticleLabel)) = particles_among said scope (n + length first.locals) ts in
    elim (or_cases (occurs (Element name attributes declares at)) (list_any (λ (kid : Rose ItemLabel). occurs (label_of kid)) (list_of ts)) is) [
      | inl here ↦ first_there (occurs (Element name attributes declares at)) m rest.value here
      | inr there ↦ some_later first.value rest.value (some_particle said scope (n + length first.locals) ts there)
    ]

-- ---- the place of a content of nothing

place_behind : (at least end : ℕ) (ts : Roses ItemLabel) → at < least → SpansAll least end ts → at < unwrap_or (group_place (list_of ts)) (at + 1)
place_behind at least end rose.none lt h = omega arith
place_behind at least end (rose.more (node (Text text place) kids) ts) lt h =
    let k = span_le least h.0 (node (Text text place) kids) h.1 in
    place_behind at h.0 end ts (omega (arith, lt, k)) h.2
place_behind at least end (rose.more (node (Element name attributes declares place) kids) ts) lt h =
    let le = h.1.0 in
    let k = span_le least h.0 (node (Element name attributes declares place) kids) h.1 in
    cond_both (is_in Particles (Element name attributes declares place)) (Some place) None (λ o. at < unwrap_or (option_or o (group_place (list_of ts))) (at + 1)) (λ is. omega (arith, lt, le))
    (λ is. place_behind at h.0 end ts (omega (arith, lt, k)) h.2)

-- ---- content by a group

module _ (file at : ℕ) where
  nothing_by : (mixed : Bool) (place : ℕ) (ts : List (Rose ParticleLabel)) → at < place → IsNothing ts → ContentBy file at ts (content_of_nothing file mixed place)
  nothing_by true place ts lt h = inl (place, lt, refl, h)
  nothing_by false place ts lt h = h

  model_by : (b mixed : Bool) (place : ℕ) (t : Rose ParticleLabel) → is_nothing t ≡ b → at < place → ContentBy file at (t ∷ []) (cond b (content_of_nothing file mixed place) (model_of mixed t))
  model_by true mixed place t is lt = nothing_by mixed place (t ∷ []) lt (is, refl)
  model_by false true place t is lt = inr (refl, is)
  model_by false false place t is lt = (refl, is)

  group_by : (mixed : Bool) (place : ℕ) (found : Option (Rose ParticleLabel)) → at < place → ContentBy file at (listed found) (content_of file mixed place found)
  group_by mixed place None lt = nothing_by mixed place [] lt tt
  group_by mixed place (Some t) lt = model_by (is_nothing t) mixed place t refl lt

no_attribute : (name : List ℕ) → list_any (bytes_eq name) (names_in Particles) ≡ true → list_any (bytes_eq name) (names_in Attributes) ≡ false
no_attribute name is = one_of (λ w. list_any (bytes_eq w) (names_in Attributes) ≡ false) name (names_in Particles) is (refl, (refl, (refl, (refl, (refl, (refl, tt))))))

module _ (said : Settings) (R : Around → Extent → ℕ → Reading → Type 0) (rules : Rules said R) where
  abbrev uses_in : List (List ℕ × List ℕ) → Roses ItemLabel → List Use
  uses_in scope ts = uses_among said.target said.attributes_qualified scope (list_of ts)

  -- one type, with what is behind it left out
  alone : (around : Around) (least middle end n : ℕ) (xs ys : List ℕ) (kind : Kind) (locals : List Local) → middle ≤ end → R around (extent least middle xs) n (of_kinds (kind ∷ []) locals)
      → R around (extent least end (xs ++ ys)) n (of_kinds (kind ∷ []) locals)
  alone around least middle end n xs ys kind locals le h =
      subst (λ ls. R around (extent least end (xs ++ ys)) n (of_kinds (kind ∷ []) ls)) (append-nil locals)
      (rules.both around least middle end n xs ys (of_kinds (kind ∷ []) locals) (of_bases none) h (rules.nothing_read around middle end (n + length locals) ys le))

  -- ---- types of elements

  pub kind_by_walk : (around : Around) (least end n : ℕ) (counted : List ℕ) (scope own : List (List ℕ × List ℕ)) (inner : Made Kind) (o : Option (List ℕ)) → least ≤ end
      → R around (extent least end counted) n (of_kinds (inner.value ∷ []) inner.locals)
      → (λ (m : Made Kind). R around (extent least end counted) n (of_kinds (m.value ∷ []) m.locals)) (elim o [ None ↦ inner | Some value ↦ made (NamedKind (type_ref scope value)) [] ])
  kind_by_walk around least end n counted scope own inner None le h = h
  kind_by_walk around least end n counted scope own inner (Some value) le h = rules.named_kind around least end n counted (type_ref scope value) le

  -- a complex type that may be there
  abbrev FoundComplex : Around → Extent → ℕ → ℕ → Option Complex → List Local → Type 0
  FoundComplex around e n at None locals = R around e n (of_kinds [] locals)
  FoundComplex around e n at (Some body) locals = (body.at ≡ at) × R around e n (of_kinds (ComplexKind body ∷ []) locals)

  first_kind_walk : (around : Around) (least middle end n : ℕ) (xs ys : List ℕ) (at : ℕ) (s : Option Simple) (v : Option Complex) (ls : List Local) (rest : Made Kind) → middle ≤ end
      → FoundSimple said R rules around (extent least middle xs) n at s → FoundComplex around (extent least middle xs) n at v ls
      → R around (extent middle end ys) (n + length ls) (of_kinds (rest.value ∷ []) rest.locals)
      → (λ (m : Made Kind). R around (extent least end (xs ++ ys)) n (of_kinds (m.value ∷ []) m.locals)) (first_kind s (made v ls) rest)
  first_kind_walk around least middle end n xs ys at (Some body) v ls rest le i h g =
      alone around least middle end n xs ys (SimpleKind body) [] le (rules.simple_kind around (extent least middle xs) n body i.1)
  first_kind_walk around least middle end n xs ys at None None ls rest le i h g = rules.both around least middle end n xs ys (of_kinds [] ls) (of_kinds (rest.value ∷ []) rest.locals) h g
  first_kind_walk around least middle end n xs ys at None (Some body) ls rest le i h g = alone around least middle end n xs ys (ComplexKind body) ls le h.1

  -- ---- particles

  leaf_walk : (role : ElementRole) (s : Site) (inner : Made Kind) (o : Option (List ℕ)) → beside (codes "ref") (own_of s) ≡ o → LeafFact role s
      → Inside R role 0 2 (s.n + 1) s (of_kinds (inner.value ∷ []) inner.locals)
      → Counted R s (of_body [] (leaf_of said.file s.at s.n (elim o [ None ↦ local_name said.target said.elements_qualified (own_of s) | Some text ↦ referred (scope_of s) text ]) (own_of s) ∷ [])
      (elim o [ None ↦ declared_with (element_by (local_name said.target said.elements_qualified (own_of s)) (own_of s) s.at (kind_by (scope_of s) (own_of s) inner)) | Some text ↦ reference_to (referred (scope_of s) text) s.at ]))
  leaf_walk role s inner None is fact h =
      let k = kind_by (scope_of s) (own_of s) inner in
      rules.own_element role s k.value k.locals fact is
      (kind_by_walk (around_in role 0 2 s) (s.at + 1) s.end (s.n + 1) (counted_among s.kids) (scope_of s) (own_of s) inner (beside (codes "type") (own_of s)) fact.fact.upto h)
  leaf_walk role s inner (Some text) is fact h = rules.reference role s (referred (scope_of s) text) fact

  more_particle : (around : Around) (least middle end n : ℕ) (xs ys : List ℕ) (v : Option (Rose ParticleLabel)) (ls : List Local) (rest : Made (List (Rose ParticleLabel)))
      → R around (extent least middle xs) n (of_body [] (listed v) ls) → R around (extent middle end ys) (n + length ls) (of_body [] rest.value rest.locals)
      → R around (extent least end (xs ++ ys)) n (of_body [] (and_some v rest.value) (ls ++ rest.locals))
  more_particle around least middle end n xs ys None ls rest h g = rules.both around least middle end n xs ys (of_body [] [] ls) (of_body [] rest.value rest.locals) h g
  more_particle around least middle end n xs ys (Some t) ls rest h g = rules.both around least middle end n xs ys (of_body [] (t ∷ []) ls) (of_body [] rest.value rest.locals) h g

  -- the first group among these, and the attributes of all
  more_content : (around : Around) (least middle end n : ℕ) (xs ys : List ℕ) (us vs : List Use) (v : Option (Rose ParticleLabel)) (ls : List Local) (rest : Made (Option (Rose ParticleLabel)))
      → R around (extent least middle xs) n (of_body us (listed v) ls) → R around (extent middle end ys) (n + length ls) (of_body vs (listed rest.value) rest.locals)
      → R around (extent middle end ys) (n + length ls) (of_body vs [] [])
      → (λ (m : Made (Option (Rose ParticleLabel))). R around (extent least end (xs ++ ys)) n (of_body (us ++ vs) (listed m.value) m.locals)) (first_group (made v ls) rest)
  more_content around least middle end n xs ys us vs None ls rest h g u = rules.both around least middle end n xs ys (of_body us [] ls) (of_body vs (listed rest.value) rest.locals) h g
  more_content around least middle end n xs ys us vs (Some t) ls rest h g u =
      subst (λ l. R around (extent least end (xs ++ ys)) n (of_body (us ++ vs) (t ∷ []) l)) (append-nil ls)
      (rules.both around least middle end n xs ys (of_body us (t ∷ []) ls) (of_body vs [] []) h u)

  body_walk : (role : ElementRole) (s : Site) (mixed : Bool) (group : Made (Option (Rose ParticleLabel))) (o : Option (RawContent × List Use)) → HasGroup role → Fact role s → levels_all s.kids + 3 ≤ s.around.room
      → s.at < empty_place s.at (list_of s.kids) → FoundContent said R rules (around_in role 0 0 s) (extent (s.at + 1) s.end (counted_among s.kids)) s.n o
      → Inside R role 0 0 s.n s (of_body (uses_in (scope_of s) s.kids) (listed group.value) group.locals)
      → (λ (m : Made Complex). (m.value.at ≡ s.at) × Counted R s (of_kinds (ComplexKind m.value ∷ []) m.locals))
      (elim o [ None ↦ made (complex_by said s.at mixed (scope_of s) (list_of s.kids) group.value) group.locals | Some found ↦ made (complex_with s.at found) [] ])
  body_walk role s mixed group None is fact deep over f h =
      let place = empty_place s.at (list_of s.kids) in (
        refl,
        rules.complex_kind role s (uses_in (scope_of s) s.kids) (listed group.value) group.locals (content_of said.file mixed place group.value) is fact deep
            (group_by said.file s.at mixed place group.value over) h,
      )
  body_walk role s mixed group (Some found) is fact deep over f h =
      (refl, rules.complex_kind role s found.1 [] [] found.0 is fact deep (subst (ContentBy said.file s.at []) (sym f.3) (f.2, refl)) f.4)

  -- a child of a complex type is a particle or an attribute, and not both
  either_walk : (around : Around) (before : Option Position) (outer : List (List ℕ × List ℕ)) (least end n : ℕ) (t : Rose ItemLabel)
      → Kid around.role around before outer around.level least end t → R around (extent least end (counted_at t)) n (of_body [] (listed (particle_at said outer n t).value) (particle_at said outer n t).locals)
      → R around (extent least end (counted_at t)) n (of_body (listed (use_at said.target said.attributes_qualified outer (label_of t) (kids_of t))) (listed (particle_at said outer n t).value) (particle_at said outer n t).locals)
  either_walk around before outer least end n (node (Text text at) kids) k all = all
  either_walk around before outer least end n (node (Element name attributes declares at) kids) k all =
      let t : Rose ItemLabel = node (Element name attributes declares at) kids in
      let own = own_attributes attributes in
      let scope = declares ++ outer in
      let here = use_by said.target said.attributes_qualified at scope own (list_of kids) in
      let found = use_at said.target said.attributes_qualified outer (Element name attributes declares at) (list_of kids) in
      let m : Made (Option (Rose ParticleLabel)) = made_some (particle_by said n name.local at scope own (inner_kind said scope (n + 1) kids) (particles_among said scope n kids)) in
      let stays = not (has_use (codes "prohibited") own) in
      elim (cases_Bool (occurs (Element name attributes declares at))) [
        | inl is ↦
            let word = (member Particles name attributes declares at (and_parts (is_in Particles (Element name attributes declares at)) (not (never_occurs own)) is).0).1 in
            let other : is_in Attributes (Element name attributes declares at) ≡ false = and_right (is_schema_name name) (list_any (bytes_eq name.local) (names_in Attributes)) (no_attribute name.local word) in
            let e : found ≡ None = ap (λ b. cond b (Some here) None) (and_left (is_in Attributes (Element name attributes declares at)) stays other) in
            subst (λ u. R around (extent least end (counted_at t)) n (of_body (listed u) (listed (particle_at said outer n t).value) (particle_at said outer n t).locals)) (sym e)
            all
        | inr is ↦
            let e : particle_at said outer n t ≡ made None [] = ap (λ b. cond b m (made None [])) is in
            subst (λ (p : Made (Option (Rose ParticleLabel))). R around (extent least end (counted_at t)) n (of_body (listed found) (listed p.value) p.locals)) (sym e)
            (use_walk said R rules around.role around before outer around.level least end n t k)
      ]

  mutual
    at_walk : (around : Around) → HasParticles around.role → around.level ≤ 16 → (before : Option Position) (outer : List (List ℕ × List ℕ)) (least end n : ℕ) (t : Rose ItemLabel)
        → Kid around.role around before outer around.level least end t
        → R around (extent least end (counted_at t)) n (of_body [] (listed (particle_at said outer n t).value) (particle_at said outer n t).locals)
    at_walk around has high before outer least end n (node (Text text at) kids) k =
        let lt = span_le least end (node (Text text at) kids) k.spans in
        rules.nothing_read around least end n [] (omega (arith, lt))
    at_walk around has high before outer least end n (node (Element name attributes declares at) kids) k =
        let level = around.level in
        let s : Site = record { around = around; least = least; end = end; n = n; outer = outer; level = level; name = name; attributes = attributes; declares = declares; at = at; kids = kids } in
        let scope = declares ++ outer in
        let own = own_attributes attributes in
        let le = k.spans.0 in
        let upto = span_all_le (at + 1) end kids k.spans.1 in
        let deep : suc (levels_all kids) + gap around.role ≤ around.room = k.deep in
        let small = k.small in
        let inner : Made Kind = inner_kind said scope (n + 1) kids in
        let particles : Made (List (Rose ParticleLabel)) = particles_among said scope n kids in
        let is_one = is_in Particles (Element name attributes declares at) in
        cond_both (occurs (Element name attributes declares at)) (made_some (particle_by said n name.local at scope own inner particles)) (made None [])
        (λ (m : Made (Option (Rose ParticleLabel))). R around (extent least end (counted_at (element_of s))) n (of_body [] (listed m.value) m.locals))
        (λ is.
        let parts = and_parts is_one (not (never_occurs own)) is in
        let stays : never_occurs own ≡ false = not-true (never_occurs own) parts.1 in
        let schema = (member Particles name attributes declares at parts.0).0 in
        let one : IsParticle around.role outer level name attributes declares kids = particle_cases around.role before outer level name attributes declares at kids k.clean has parts.0 in
        cond_both (bytes_eq name.local (codes "element"))
        (made (leaf_of said.file at n (element_name said scope own) own) (declared said at scope own inner))
        (made (group_of said.file at name.local own particles.value) particles.locals)
        (λ (m : Made (Rose ParticleLabel)). R around (extent least end (counted_at (element_of s))) n (of_body [] (m.value ∷ []) m.locals))
        (λ word.
        let role = one.role in
        let is = its_element around.role role one.stands (subst (λ w. bytes_eq w (codes "element") ≡ true) one.named word) in
        let same = gap_of_group around.role is.1 in
        let wide = gap_of_types role (local_types role is.0) in
        let room : levels_all kids + 2 ≤ around.room = omega (arith, deep, same) in
        let fact : LeafFact role s =
        record { fact = fact_of around.role before s k role one.passes one.inside; is_local = is.0; stays = stays; high = high; deep = room } in
        as_counted said R rules s (of_body [] (leaf_of said.file at n (element_name said scope own) own ∷ []) (declared said at scope own inner)) (codes "element") schema ((bytes_eq-Decides name.local (codes "element")).0 word) refl refl
        (leaf_walk role s inner (beside (codes "ref") own) refl fact
        (kind_walk role (local_types role is.0) (around_in role 0 2 s) None scope (level_inside role level) (at + 1) end (n + 1) kids
        (kids_in around.role before s k role (around_in role 0 2 s) (level_inside role level) one.inside (omega arith) (omega (arith, wide)) (omega (arith, room, small))))))
        (λ word.
        let role = one.role in
        let is = its_group around.role role one.stands (subst (λ w. bytes_eq w (codes "element") ≡ false) one.named word) in
        let same = gap_of_group role is.0 in
        let two = counted_group role is.0 in
        let lt : level < 16 = group_level role is.0 level own (list_of kids) one.passes.few in
        let room : levels_all kids + 1 ≤ around.room = omega (arith, deep) in
        let fact : GroupFact role s =
        record { fact = fact_of around.role before s k role one.passes one.inside; group = is.0; named = one.named; lone = is.1; stays = stays; high = lt; deep = room } in
        let within = around_in role (level + 1) 1 s in
        as_counted said R rules s (of_body [] (group_of said.file at name.local own particles.value ∷ []) particles.locals) (word_of_particle role) schema one.named two.0 two.1
        (rules.group role s particles.value particles.locals fact (some_particle said scope n kids)
        (among_walk within (group_particles role is.0) (omega (arith, lt)) None scope (at + 1) end n kids
        (kids_in around.role before s k role within (level + 1) (subst (λ l. NoneAtAll (reasons_among role None scope l kids)) (next_level role is.0 level lt) one.inside)
        (omega arith) (omega (arith, same)) (omega (arith, room, small)))))))
        (λ is. rules.nothing_read around least end n (counted_at (element_of s)) (omega (arith, le, upto)))

    among_walk : (around : Around) → HasParticles around.role → around.level ≤ 16 → (before : Option Position) (scope : List (List ℕ × List ℕ)) (least end n : ℕ) (ts : Roses ItemLabel)
        → Kids around.role around before scope around.level least end ts
        → R around (extent least end (counted_among ts)) n (of_body [] (particles_among said scope n ts).value (particles_among said scope n ts).locals)
    among_walk around has high before scope least end n rose.none k = rules.nothing_read around least end n [] k.spans
    among_walk around has high before scope least end n (rose.more t ts) k =
        let first : Made (Option (Rose ParticleLabel)) = particle_at said scope n t in
        more_particle around least k.spans.0 end n (counted_at t) (counted_among ts) first.value first.locals (particles_among said scope (n + length first.locals) ts)
        (at_walk around has high before scope least k.spans.0 n t (first_kid around.role around before scope around.level least end t ts k))
        (among_walk around has high (position_behind around.role before (label_of t)) scope k.spans.0 end (n + length first.locals) ts (later_kids around.role around before scope around.level least end t ts k))

    group_walk : (around : Around) → HasParticles around.role → around.level ≤ 16 → (before : Option Position) (scope : List (List ℕ × List ℕ)) (least end n : ℕ) (ts : Roses ItemLabel)
        → Kids around.role around before scope around.level least end ts
        → R around (extent least end (counted_among ts)) n (of_body (uses_in scope ts) (listed (group_among said scope n ts).value) (group_among said scope n ts).locals)
    group_walk around has high before scope least end n rose.none k = rules.nothing_read around least end n [] k.spans
    group_walk around has high before scope least end n (rose.more t ts) k =
        let first : Made (Option (Rose ParticleLabel)) = particle_at said scope n t in
        let rest : Made (Option (Rose ParticleLabel)) = group_among said scope (n + length first.locals) ts in
        let found = use_at said.target said.attributes_qualified scope (label_of t) (kids_of t) in
        let behind = position_behind around.role before (label_of t) in
        let kid = first_kid around.role around before scope around.level least end t ts k in
        let later = later_kids around.role around before scope around.level least end t ts k in
        subst (λ us. R around (extent least end (counted_at t ++ counted_among ts)) n (of_body us (listed (first_group first rest).value) (first_group first rest).locals)) (more_use said R rules found (uses_in scope ts))
        (more_content around least k.spans.0 end n (counted_at t) (counted_among ts) (listed found) (uses_in scope ts) first.value first.locals rest
        (either_walk around before scope least k.spans.0 n t kid (at_walk around has high before scope least k.spans.0 n t kid))
        (group_walk around has high behind scope k.spans.0 end (n + length first.locals) ts later)
        (uses_walk said R rules around.role around behind scope around.level k.spans.0 end (n + length first.locals) ts later))

    pub kind_walk : (role : ElementRole) → HasTypes role → (around : Around) (before : Option Position) (scope : List (List ℕ × List ℕ)) (level least end n : ℕ) (ts : Roses ItemLabel)
        → Kids role around before scope level least end ts
        → R around (extent least end (counted_among ts)) n (of_kinds ((inner_kind said scope n ts).value ∷ []) (inner_kind said scope n ts).locals)
    kind_walk role has around before scope level least end n rose.none k = rules.named_kind around least end n [] (Other no_name) k.spans
    kind_walk role has around before scope level least end n (rose.more t ts) k =
        let first : Made (Option Complex) = complex_type said scope n t in
        let kid = first_kid role around before scope level least end t ts k in
        first_kind_walk around least k.spans.0 end n (counted_at t) (counted_among ts) (item_place (label_of t)) (simple_type scope t) first.value first.locals (inner_kind said scope (n + length first.locals) ts)
        (span_all_le k.spans.0 end ts k.spans.2) (simple_walk said R rules role around before scope level least k.spans.0 n t kid)
        (complex_walk role has around before scope level least k.spans.0 n t kid)
        (kind_walk role has around (position_behind role before (label_of t)) scope level k.spans.0 end (n + length first.locals) ts (later_kids role around before scope level least end t ts k))

    pub complex_walk : (role : ElementRole) → HasTypes role → (around : Around) (before : Option Position) (outer : List (List ℕ × List ℕ)) (level least end n : ℕ) (t : Rose ItemLabel)
        → Kid role around before outer level least end t
        → FoundComplex around (extent least end (counted_at t)) n (item_place (label_of t)) (complex_type said outer n t).value (complex_type said outer n t).locals
    complex_walk role has around before outer level least end n (node (Text text at) kids) k =
        let lt = span_le least end (node (Text text at) kids) k.spans in
        rules.nothing_read around least end n [] (omega (arith, lt))
    complex_walk role has around before outer level least end n (node (Element name attributes declares at) kids) k =
        let s : Site = record { around = around; least = least; end = end; n = n; outer = outer; level = level; name = name; attributes = attributes; declares = declares; at = at; kids = kids } in
        let scope = declares ++ outer in
        let le = k.spans.0 in
        let upto = span_all_le (at + 1) end kids k.spans.1 in
        let deep : suc (levels_all kids) + gap role ≤ around.room = k.deep in
        let small = k.small in
        let wide = gap_of_types role has in
        let room : levels_all kids + 3 ≤ around.room = omega (arith, deep, wide) in
        let mixed = is_true (codes "mixed") (own_attributes attributes) in
        let group : Made (Option (Rose ParticleLabel)) = group_among said scope n kids in
        let body : Made Complex = complex_of said at mixed scope (list_of kids) group in
        let e : Extent = extent least end (counted_at (element_of s)) in
        cond_both (is_named (codes "complexType") (Element name attributes declares at)) (made_some body) (made None [])
        (λ (m : Made (Option Complex)). FoundComplex around e n at m.value m.locals)
        (λ is.
        let two = and_parts (is_schema_name name) (bytes_eq name.local (codes "complexType")) is in
        let word = word_of (codes "complexType") name attributes declares at is in
        let one = complex_cases role before outer level name attributes declares at kids k.clean has is in
        let within = around_in one.role 0 0 s in
        let flat = gap_of_type one.role one.typed in
        let inside : Kids one.role within None scope 0 (at + 1) end kids =
        kids_in role before s k one.role within 0 (subst (λ l. NoneAtAll (reasons_among one.role None scope l kids)) (level_of_type one.role one.typed level) one.inside) (omega arith) (omega (arith, flat))
        (omega (arith, room, small)) in
        let b = body_walk one.role s mixed group (simple_content said scope (list_of kids)) one.typed (fact_of role before s k one.role one.passes one.inside) room (place_behind at (at + 1) end kids (omega arith) k.spans.1)
        (content_walk said R rules one.role within None scope 0 (at + 1) end n kids inside)
        (group_walk within (type_particles one.role one.typed) (omega arith) None scope (at + 1) end n kids inside) in
        (b.0, as_counted said R rules s (of_kinds (ComplexKind body.value ∷ []) body.locals) (codes "complexType") two.0 word refl refl b.1))
        (λ is. rules.nothing_read around least end n (counted_at (element_of s)) (omega (arith, le, upto)))

  -- ---- global declarations

  abbrev OfParts : Around → Extent → ℕ → Parts → Type 0
  OfParts around e n p = R around e n (of_parts p.elements p.attributes p.types p.locals)

  simple_type_walk : (s : Site) (found : Option Simple) → is_schema_name s.name ≡ true → s.name.local ≡ codes "simpleType" → Fact GlobalSimpleType s
      → FoundSimple said R rules s.around (extent s.least s.end (counted_at (element_of s))) s.n s.at found
      → OfParts s.around (extent s.least s.end (counted_at (element_of s))) s.n (simple_type_parts (declared_name said.target (own_of s)) found)
  simple_type_walk s None schema word fact h =
      let from = fact.from in
      let upto = fact.upto in
      rules.nothing_read s.around s.least s.end s.n (counted_at (element_of s)) (omega (arith, from, upto))
  simple_type_walk s (Some body) schema word fact h =
      as_counted said R rules s (of_parts [] [] (raw.SimpleType (declared_name said.target (own_of s)) body ∷ []) []) (codes "simpleType") schema word refl refl
      (rules.simple_type s body fact h.0
      (subst (λ xs. R s.around (extent s.least s.end xs) s.n (of_bases (more (Inner body.at body.body_at body.how) none))) (counted_is s (codes "simpleType") schema word refl refl) h.1))

  complex_type_walk : (s : Site) (v : Option Complex) (ls : List Local) → is_schema_name s.name ≡ true → s.name.local ≡ codes "complexType" → Fact GlobalComplexType s
      → FoundComplex s.around (extent s.least s.end (counted_at (element_of s))) s.n s.at v ls
      → OfParts s.around (extent s.least s.end (counted_at (element_of s))) s.n (complex_type_parts (declared_name said.target (own_of s)) (made v ls))
  complex_type_walk s None ls schema word fact h = h
  complex_type_walk s (Some body) ls schema word fact h =
      as_counted said R rules s (of_parts [] [] (raw.ComplexType (declared_name said.target (own_of s)) body ∷ []) ls) (codes "complexType") schema word refl refl
      (rules.complex_type s body ls fact h.0
      (subst (λ xs. R s.around (extent s.least s.end xs) s.n (of_kinds (ComplexKind body ∷ []) ls)) (counted_is s (codes "complexType") schema word refl refl) h.1))

  -- a child of `schema`
  global_walk : (around : Around) (before : Option Position) (outer : List (List ℕ × List ℕ)) (level least end n : ℕ) (t : Rose ItemLabel) → Kid Schema around before outer level least end t
      → OfParts around (extent least end (counted_at t)) n (parts_by said outer n (label_of t) t)
  global_walk around before outer level least end n (node (Text text at) kids) k =
      let lt = span_le least end (node (Text text at) kids) k.spans in
      rules.nothing_read around least end n [] (omega (arith, lt))
  global_walk around before outer level least end n (node (Element name attributes declares at) kids) k =
      let s : Site = record { around = around; least = least; end = end; n = n; outer = outer; level = level; name = name; attributes = attributes; declares = declares; at = at; kids = kids } in
      let t = element_of s in
      let own = own_attributes attributes in
      let scope = declares ++ outer in
      let le = k.spans.0 in
      let upto = span_all_le (at + 1) end kids k.spans.1 in
      let deep : suc (levels_all kids) + 2 ≤ around.room = k.deep in
      let small = k.small in
      let empty = rules.nothing_read around least end n (counted_at t) (omega (arith, le, upto)) in
      let e : Parts = element_parts (global_element said n at scope own (list_of kids)) in
      let a : Parts = attribute_parts (global_attribute said.target outer (Element name attributes declares at) (list_of kids)) in
      let b : Parts = simple_type_parts (declared_name said.target own) (simple_type outer t) in
      let c : Parts = complex_type_parts (declared_name said.target own) (complex_type said outer n t) in
      let bc : Parts = cond (bytes_eq name.local (codes "simpleType")) b (cond (bytes_eq name.local (codes "complexType")) c no_parts) in
      cond_both (is_schema_name name) (parts_named said outer n name.local own scope at t) no_parts (λ p. OfParts around (extent least end (counted_at t)) n p)
      (λ schema.
      cond_both (bytes_eq name.local (codes "element")) e (cond (bytes_eq name.local (codes "attribute")) a bc) (λ p. OfParts around (extent least end (counted_at t)) n p)
      (λ is.
      let word = (bytes_eq-Decides name.local (codes "element")).0 is in
      let i = by_word Schema before outer level name attributes declares at kids k.clean (codes "element") GlobalElement word refl (role_there GlobalElement Anywhere) in
      let within = around_in GlobalElement 0 2 s in
      let inner : Made Kind = inner_kind said scope n (roses_of (list_of kids)) in
      let inside = kids_in Schema before s k GlobalElement within (level_inside GlobalElement level) i.inside (omega arith) (omega arith) (omega (arith, deep, small)) in
      let g = subst (λ ks. R within (extent (at + 1) end (counted_among kids)) n (of_kinds ((inner_kind said scope n ks).value ∷ []) (inner_kind said scope n ks).locals)) (sym (roses_of-list_of kids))
      (kind_walk GlobalElement tt within None scope (level_inside GlobalElement level) (at + 1) end n kids inside) in
      as_counted said R rules s (of_parts e.elements [] [] e.locals) (codes "element") schema word refl refl
      (rules.element s (kind_by scope own inner).value (kind_by scope own inner).locals (fact_of Schema before s k GlobalElement i.passes i.inside) (omega (arith, deep))
      (kind_by_walk within (at + 1) end n (counted_among kids) scope own inner (beside (codes "type") own) upto g)))
      (λ other. cond_both (bytes_eq name.local (codes "attribute")) a bc (λ p. OfParts around (extent least end (counted_at t)) n p)
      (λ is.
      let word = (bytes_eq-Decides name.local (codes "attribute")).0 is in
      let i = by_word Schema before outer level name attributes declares at kids k.clean (codes "attribute") GlobalAttribute word refl (role_there GlobalAttribute Anywhere) in
      as_counted said R rules s (of_parts [] a.attributes [] []) (codes "attribute") schema word refl refl
      (rules.attribute s (fact_of Schema before s k GlobalAttribute i.passes i.inside)
      (declared_walk said R rules GlobalAttribute s upto (kids_at Schema before s k GlobalAttribute (level_inside GlobalAttribute level) i.inside refl))))
      (λ another. cond_both (bytes_eq name.local (codes "simpleType")) b (cond (bytes_eq name.local (codes "complexType")) c no_parts) (λ p. OfParts around (extent least end (counted_at t)) n p)
      (λ is.
      let word = (bytes_eq-Decides name.local (codes "simpleType")).0 is in
      let i = by_word Schema before outer level name attributes declares at kids k.clean (codes "simpleType") GlobalSimpleType word refl (role_there GlobalSimpleType Anywhere) in
      simple_type_walk s (simple_type outer t) schema word (fact_of Schema before s k GlobalSimpleType i.passes i.inside) (simple_walk said R rules Schema around before outer level least end n t k))
      (λ last. cond_both (bytes_eq name.local (codes "complexType")) c no_parts (λ p. OfParts around (extent least end (counted_at t)) n p)
      (λ is.
      let word = (bytes_eq-Decides name.local (codes "complexType")).0 is in
      let i = by_word Schema before outer level name attributes declares at kids k.clean (codes "complexType") GlobalComplexType word refl (role_there GlobalComplexType Anywhere) in
      complex_type_walk s (complex_type said outer n t).value (complex_type said outer n t).locals schema word (fact_of Schema before s k GlobalComplexType i.passes i.inside)
      (complex_walk Schema tt around before outer level least end n t k))
      (λ no. empty)))))
      (λ no. empty)

  pub walk : (around : Around) (before : Option Position) (outer : List (List ℕ × List ℕ)) (level least end n : ℕ) (ts : Roses ItemLabel) → Kids Schema around before outer level least end ts
      → OfParts around (extent least end (counted_among ts)) n (parts_among said outer n (list_of ts))
  walk around before outer level least end n rose.none k = rules.nothing_read around least end n [] k.spans
  walk around before outer level least end n (rose.more t ts) k =
      let p : Parts = parts_by said outer n (label_of t) t in
      let q : Parts = parts_among said outer (n + length p.locals) (list_of ts) in
      rules.both around least k.spans.0 end n (counted_at t) (counted_among ts) (of_parts p.elements p.attributes p.types p.locals) (of_parts q.elements q.attributes q.types q.locals)
      (global_walk around before outer level least k.spans.0 n t (first_kid Schema around before outer level least end t ts k))
      (walk around (position_behind Schema before (label_of t)) outer level k.spans.0 end (n + length p.locals) ts (later_kids Schema around before outer level least end t ts k))
