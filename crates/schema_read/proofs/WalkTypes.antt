-- The walk over simple types, attributes and simple content.
use Rattle.std.proofs.Common.{◌≡◌, ℕ, suc, ◌+◌, ◌<◌, ◌≤◌, Bool, true, false, cond, List, [], ◌∷◌, ◌++◌, length, Option, Some, None, inl, inr, refl, ap, sym, ◌∙◌, subst, arith, ◌&&◌, not, bytes_eq, codes}
use Rattle.schema_read.proofs.Words.{list_any, list_all, option_or, and_parts, and_from, and_right, cond_both, append-nil, Name, words_of, beside, Rose, node, Roses, roses_of, list_of, label_of, kids_of, roses_of-list_of, item_place, ItemLabel, Element, Text, is_sound_name, are_sound_attributes, is_sound_binding, is_sound_label, is_text, begins_with_text, is_sound, are_sound, levels_all, Other, RawContent, RawRef, Base, Named, Inner, Bases, none, more, How, Restrict, ListOf, UnionOf, Simple, Use, Local, is_schema_name, counted_names, is_counted, skipped_names, own_attributes, names_in, is_in, Attributes, SimpleTypes, Varieties, ElementRole, GlobalAttribute, LocalAttribute, GlobalSimpleType, InnerSimpleType, Restriction, ListRole, Union, SimpleContent, Extension, Position, level_inside, position_behind, reasons_at, reasons_among, NoneAtAll, counted_inside, counted_at, counted_among, no_name, type_ref, referred, has_use, local_name, use_to, own_use, use_by, use_at, and_use, uses_among, facets_among, joined, named_in, first_or_none, made_by, placed, defined, and_inner, variety_at, variety_among, simple_type, inner_types, declared_type, Settings, is_named, extension_base, extended, extended_among, simple_content_at, simple_content}
use Rattle.base_trees.specs.Rose as rose
use Rattle.schema_components.specs.declared.declarations.RawContent.TheVariants as content
use Rattle.schema_read.proofs.Faultless.{none_parts, Passes}
use Rattle.schema_read.proofs.FaultlessRoles.{one_of, HasVariety, simple_cases, variety_cases, attribute_cases, in_extension, in_content, word_of, attribute_word, member}
use Rattle.schema_read.proofs.OwnNames.{Texts, own_texts, IsAttribute}
use Rattle.schema_read.proofs.ItemPlaces.{span_le, span_all_le}
use Rattle.schema_read.proofs.Reading.{Reading, of_bases, of_how, of_body, Around, Extent, extent, Site, own_of, scope_of, around_in, gap, Kid, Kids, Fact, Inside, Uncounted, Counted, members, Rules}

-- ---- sound items

more_sound : (t : Rose ItemLabel) (ts : Roses ItemLabel) → are_sound (rose.more t ts) ≡ true → (is_sound t ≡ true) × (are_sound ts ≡ true)
more_sound (node label kids) ts h =
    let one = and_parts (is_sound (node label kids) && not (is_text label && begins_with_text ts)) (are_sound ts) h in
    ((and_parts (is_sound (node label kids)) (not (is_text label && begins_with_text ts)) one.0).0, one.1)

pub element_sound : (name : Name) (attributes : List (Name × List ℕ)) (declares : List (List ℕ × List ℕ)) (at : ℕ) (kids : Roses ItemLabel) → is_sound (node (Element name attributes declares at) kids) ≡ true
    → Texts (own_attributes attributes) × (are_sound kids ≡ true)
element_sound name attributes declares at kids h =
    let one = and_parts (is_sound_label (Element name attributes declares at)) (are_sound kids) h in
    let two = and_parts (is_sound_name name && are_sound_attributes attributes) (list_all is_sound_binding declares) one.0 in
    (own_texts attributes (and_parts (is_sound_name name) (are_sound_attributes attributes) two.0).1, one.1)

-- ---- one child, and those behind it

module _ (role : ElementRole) (around : Around) (before : Option Position) (outer : List (List ℕ × List ℕ)) (level least end : ℕ) (t : Rose ItemLabel) (ts : Roses ItemLabel)
    (h : Kids role around before outer level least end (rose.more t ts)) where
  abbrev cut : ℕ
  cut = h.spans.0

  abbrev apart : NoneAtAll (reasons_at role before outer level t) × NoneAtAll (reasons_among role (position_behind role before (label_of t)) outer level ts)
  apart = none_parts (reasons_at role before outer level t) (reasons_among role (position_behind role before (label_of t)) outer level ts) h.clean

  pub first_kid : Kid role around before outer level least cut t
  first_kid =
      let le = span_all_le cut end ts h.spans.2 in
      let low = h.low in
      let deep = h.deep in
      record { clean = apart.0; sound = (more_sound t ts h.sound).0; spans = h.spans.1; behind = h.behind; low = omega (arith, le, low); deep = omega (arith, deep); small = h.small }

  pub later_kids : Kids role around (position_behind role before (label_of t)) outer level cut end ts
  later_kids =
      let lt = span_le least cut t h.spans.1 in
      let behind = h.behind in
      let deep = h.deep in
      record { clean = apart.1; sound = (more_sound t ts h.sound).1; spans = h.spans.2; behind = omega (arith, lt, behind); low = h.low; deep = omega (arith, deep); small = h.small }

-- ---- an element

abbrev pub element_of : Site → Rose ItemLabel
element_of s = node (Element s.name s.attributes s.declares s.at) s.kids

module _ (parent : ElementRole) (before : Option Position) (s : Site) (h : Kid parent s.around before s.outer s.level s.least s.end (element_of s)) where
  abbrev sounds : Texts (own_of s) × (are_sound s.kids ≡ true)
  sounds = element_sound s.name s.attributes s.declares s.at s.kids h.sound

  pub fact_of : (role : ElementRole) → Passes role (scope_of s) s.level (own_of s) (list_of s.kids) → NoneAtAll (reasons_among role None (scope_of s) (level_inside role s.level) s.kids) → Fact role s
  fact_of role passes clean =
      let le = h.spans.0 in
      let upto = span_all_le (s.at + 1) s.end s.kids h.spans.1 in
      let behind = h.behind in
      let low = h.low in
      record { passes = passes; clean = clean; texts = sounds.0; behind = omega (arith, behind, le); from = le; upto = upto; low = omega (arith, upto, low); small = h.small }

  pub kids_in : (role : ElementRole) (around : Around) (level : ℕ) → NoneAtAll (reasons_among role None (scope_of s) level s.kids) → around.place ≤ s.at → levels_all s.kids + gap role ≤ around.room → around.room ≤ 65
      → Kids role around None (scope_of s) level (s.at + 1) s.end s.kids
  kids_in role around level clean le deep small =
      record { clean = clean; sound = sounds.1; spans = h.spans.1; behind = omega (arith, le); low = h.low; deep = deep; small = small }

  -- where no complex type is below
  pub kids_at : (role : ElementRole) (level : ℕ) → NoneAtAll (reasons_among role None (scope_of s) level s.kids) → gap role ≡ 0 → Kids role (around_in role 0 0 s) None (scope_of s) level (s.at + 1) s.end s.kids
  kids_at role level clean flat =
      let deep : suc (levels_all s.kids) + gap parent ≤ s.around.room = h.deep in
      let small = h.small in
      kids_in role (around_in role 0 0 s) level clean (omega arith) (omega (arith, flat)) (omega (arith, deep, small))

gap_of_variety : (role : ElementRole) → HasVariety role → gap role ≡ 0
gap_of_variety GlobalSimpleType h = refl
gap_of_variety InnerSimpleType h = refl
gap_of_variety role h = absurd h

-- ---- what the limit of components counts

abbrev pub looked : List ℕ → Bool
looked name = not (list_any (bytes_eq name) skipped_names)

pub counted_is : (s : Site) (w : List ℕ) → is_schema_name s.name ≡ true → s.name.local ≡ w → list_any (bytes_eq w) counted_names ≡ true → looked w ≡ true
    → counted_at (element_of s) ≡ s.at ∷ counted_among s.kids
counted_is s w schema is counted inside =
    let here : is_counted s.name ≡ true = and_from (is_schema_name s.name) (list_any (bytes_eq s.name.local) counted_names) schema (ap (λ l. list_any (bytes_eq l) counted_names) is ∙ counted) in
    ap (λ b. cond b (s.at ∷ []) [] ++ counted_inside s.name (counted_among s.kids)) here ∙ ap (λ b. s.at ∷ cond b (counted_among s.kids) []) (ap looked is ∙ inside)

uncounted_is : (s : Site) (w : List ℕ) → s.name.local ≡ w → list_any (bytes_eq w) counted_names ≡ false → looked w ≡ true → counted_at (element_of s) ≡ counted_among s.kids
uncounted_is s w is counted inside =
    let other : is_counted s.name ≡ false = and_right (is_schema_name s.name) (list_any (bytes_eq s.name.local) counted_names) (ap (λ l. list_any (bytes_eq l) counted_names) is ∙ counted) in
    ap (λ b. cond b (s.at ∷ []) [] ++ counted_inside s.name (counted_among s.kids)) other ∙ ap (λ b. cond b (counted_among s.kids) []) (ap looked is ∙ inside)

abbrev pub listed : {A : Type 0} → Option A → List A
listed None = []
listed (Some a) = a ∷ []

module _ (said : Settings) (R : Around → Extent → ℕ → Reading → Type 0) (rules : Rules said R) where
  -- of an element, by what it is of its counted places
  abbrev pub Of : Site → Reading → Type 0
  Of s r = R s.around (extent s.least s.end (counted_at (element_of s))) s.n r

  pub as_counted : (s : Site) (r : Reading) (w : List ℕ) → is_schema_name s.name ≡ true → s.name.local ≡ w → list_any (bytes_eq w) counted_names ≡ true → looked w ≡ true → Counted R s r → Of s r
  as_counted s r w schema is counted inside h = subst (λ xs. R s.around (extent s.least s.end xs) s.n r) (sym (counted_is s w schema is counted inside)) h

  as_uncounted : (s : Site) (r : Reading) (w : List ℕ) → s.name.local ≡ w → list_any (bytes_eq w) counted_names ≡ false → looked w ≡ true → Uncounted R s r → Of s r
  as_uncounted s r w is counted inside h = subst (λ xs. R s.around (extent s.least s.end xs) s.n r) (sym (uncounted_is s w is counted inside)) h

  -- ---- simple types

  named_bases : (around : Around) (e : Extent) (n : ℕ) (scope : List (List ℕ × List ℕ)) (words : List (List ℕ)) (bases : Bases) → R around e n (of_bases bases) → R around e n (of_bases (joined (named_in scope words) bases))
  named_bases around e n scope [] bases h = h
  named_bases around e n scope (word ∷ words) bases h = rules.more_named around e n (type_ref scope word) (joined (named_in scope words) bases) (named_bases around e n scope words bases h)

  member_bases : (around : Around) (e : Extent) (n : ℕ) (scope : List (List ℕ × List ℕ)) (o : Option (List ℕ)) (bases : Bases) → R around e n (of_bases bases)
      → R around e n (of_bases (joined (elim o [ None ↦ none | Some value ↦ named_in scope (words_of value) ]) bases))
  member_bases around e n scope None bases h = h
  member_bases around e n scope (Some value) bases h = named_bases around e n scope (words_of value) bases h

  pub base_walk : (around : Around) (least end n : ℕ) (counted : List ℕ) (scope : List (List ℕ × List ℕ)) (bases : Bases) (o : Option (List ℕ)) → least ≤ end → R around (extent least end counted) n (of_bases bases)
      → R around (extent least end counted) n (of_bases (more (elim o [ None ↦ first_or_none bases | Some value ↦ Named (type_ref scope value) ]) none))
  base_walk around least end n counted scope none None le h = rules.more_named around (extent least end counted) n (Other no_name) none h
  base_walk around least end n counted scope (more base bases) None le h = rules.first_base around (extent least end counted) n base bases h
  base_walk around least end n counted scope bases (Some value) le h =
      rules.more_named around (extent least end counted) n (type_ref scope value) none (rules.nothing_read around least end n counted le)

  abbrev FoundHow : Around → Extent → ℕ → Option (ℕ × How) → Type 0
  FoundHow around e n None = Unit {0}
  FoundHow around e n (Some made) = R around e n (of_how made.0 made.1)

  abbrev pub FoundSimple : Around → Extent → ℕ → ℕ → Option Simple → Type 0
  FoundSimple around e n at None = Unit {0}
  FoundSimple around e n at (Some s) = (s.at ≡ at) × R around e n (of_bases (more (Inner s.at s.body_at s.how) none))

  -- the first of two, or the second
  first_how : (around : Around) (least middle end n : ℕ) (xs ys : List ℕ) (a b : Option (ℕ × How)) → least ≤ middle → middle ≤ end → FoundHow around (extent least middle xs) n a
      → FoundHow around (extent middle end ys) (n + length {A = Local} []) b → FoundHow around (extent least end (xs ++ ys)) n (option_or a b)
  first_how around least middle end n xs ys None None le ge h g = tt
  first_how around least middle end n xs ys None (Some made) le ge h g =
      rules.both around least middle end n xs ys (of_bases none) (of_how made.0 made.1) (rules.nothing_read around least middle n xs le) g
  first_how around least middle end n xs ys (Some made) b le ge h g =
      rules.both around least middle end n xs ys (of_how made.0 made.1) (of_bases none) h (rules.nothing_read around middle end (n + length {A = Local} []) ys ge)

  more_simple : (around : Around) (least middle end n : ℕ) (xs ys : List ℕ) (at : ℕ) (found : Option Simple) (bases : Bases) → least ≤ middle → FoundSimple around (extent least middle xs) n at found
      → R around (extent middle end ys) (n + length {A = Local} []) (of_bases bases) → R around (extent least end (xs ++ ys)) n (of_bases (and_inner found bases))
  more_simple around least middle end n xs ys at None bases le h g = rules.both around least middle end n xs ys (of_bases none) (of_bases bases) (rules.nothing_read around least middle n xs le) g
  more_simple around least middle end n xs ys at (Some s) bases le h g = rules.both around least middle end n xs ys (of_bases (more (Inner s.at s.body_at s.how) none)) (of_bases bases) h.1 g

  defined_walk : (role : ElementRole) (s : Site) (found : Option (ℕ × How)) → is_schema_name s.name ≡ true → s.name.local ≡ codes "simpleType" → Fact role s
      → FoundHow (around_in role 0 0 s) (extent (s.at + 1) s.end (counted_among s.kids)) s.n found → FoundSimple s.around (extent s.least s.end (counted_at (element_of s))) s.n s.at (defined s.at found)
  defined_walk role s None schema word fact h = tt
  defined_walk role s (Some made) schema word fact h =
      (refl, as_counted s (of_bases (more (Inner s.at made.0 made.1) none)) (codes "simpleType") schema word refl refl (rules.simple role s made.0 made.1 fact h))

  mutual
    variety_walk : (role : ElementRole) → HasVariety role → (around : Around) (before : Option Position) (outer : List (List ℕ × List ℕ)) (level least end n : ℕ) (t : Rose ItemLabel)
        → Kid role around before outer level least end t → FoundHow around (extent least end (counted_at t)) n (variety_at outer t)
    variety_walk role has around before outer level least end n (node (Text text at) kids) k = tt
    variety_walk role has around before outer level least end n (node (Element name attributes declares at) kids) k =
        let s : Site = record { around = around; least = least; end = end; n = n; outer = outer; level = level; name = name; attributes = attributes; declares = declares; at = at; kids = kids } in
        let scope = declares ++ outer in
        let own = own_attributes attributes in
        let inner = inner_types scope kids in
        let le = span_all_le (at + 1) end kids k.spans.1 in
        let e : Extent = extent least end (counted_at (element_of s)) in
        cond_both (is_in Varieties (Element name attributes declares at)) (placed at (made_by name.local scope own inner (list_of kids))) None (λ o. FoundHow around e n o)
        (λ is. elim (variety_cases role before outer level name attributes declares at kids k.clean has is) [
          | inl one ↦
              let base : Base = elim (beside (codes "base") own) [ None ↦ first_or_none inner | Some value ↦ Named (type_ref scope value) ] in
              let i = inner_walk Restriction (around_in Restriction 0 0 s) None scope (level_inside Restriction level) (at + 1) end n kids (kids_at role before s k Restriction (level_inside Restriction level) one.1.inside refl) in
              subst (λ w. FoundHow around e n (placed at (made_by w scope own inner (list_of kids)))) (sym one.0)
              (as_uncounted s (of_how at (Restrict base (facets_among (list_of kids)))) (codes "restriction") one.0 refl refl
              (rules.restriction s base (fact_of role before s k Restriction one.1.passes one.1.inside) (base_walk (around_in Restriction 0 0 s) (at + 1) end n (counted_among kids) scope inner (beside (codes "base") own) le i)))
          | inr other ↦ elim other [
            | inl one ↦
                let base : Base = elim (beside (codes "itemType") own) [ None ↦ first_or_none inner | Some value ↦ Named (type_ref scope value) ] in
                let i = inner_walk ListRole (around_in ListRole 0 0 s) None scope (level_inside ListRole level) (at + 1) end n kids (kids_at role before s k ListRole (level_inside ListRole level) one.1.inside refl) in
                subst (λ w. FoundHow around e n (placed at (made_by w scope own inner (list_of kids)))) (sym one.0)
                (as_uncounted s (of_how at (ListOf base)) (codes "list") one.0 refl refl
                (rules.list s base (fact_of role before s k ListRole one.1.passes one.1.inside) (base_walk (around_in ListRole 0 0 s) (at + 1) end n (counted_among kids) scope inner (beside (codes "itemType") own) le i)))
            | inr one ↦
                let i = inner_walk Union (around_in Union 0 0 s) None scope (level_inside Union level) (at + 1) end n kids (kids_at role before s k Union (level_inside Union level) one.1.inside refl) in
                subst (λ w. FoundHow around e n (placed at (made_by w scope own inner (list_of kids)))) (sym one.0)
                (as_uncounted s (of_how at (UnionOf (members s))) (codes "union") one.0 refl refl
                (rules.union s (fact_of role before s k Union one.1.passes one.1.inside) (member_bases (around_in Union 0 0 s) (extent (at + 1) end (counted_among kids)) n scope (beside (codes "memberTypes") own) inner i)))
          ]
        ])
        (λ is. tt)

    varieties_walk : (role : ElementRole) → HasVariety role → (around : Around) (before : Option Position) (scope : List (List ℕ × List ℕ)) (level least end n : ℕ) (ts : Roses ItemLabel)
        → Kids role around before scope level least end ts → FoundHow around (extent least end (counted_among ts)) n (variety_among scope ts)
    varieties_walk role has around before scope level least end n rose.none k = tt
    varieties_walk role has around before scope level least end n (rose.more t ts) k =
        let middle = k.spans.0 in
        let lt = span_le least middle t k.spans.1 in
        first_how around least middle end n (counted_at t) (counted_among ts) (variety_at scope t) (variety_among scope ts) (omega (arith, lt)) (span_all_le middle end ts k.spans.2)
        (variety_walk role has around before scope level least middle n t (first_kid role around before scope level least end t ts k))
        (varieties_walk role has around (position_behind role before (label_of t)) scope level middle end (n + length {A = Local} []) ts (later_kids role around before scope level least end t ts k))

    pub simple_walk : (role : ElementRole) (around : Around) (before : Option Position) (outer : List (List ℕ × List ℕ)) (level least end n : ℕ) (t : Rose ItemLabel)
        → Kid role around before outer level least end t → FoundSimple around (extent least end (counted_at t)) n (item_place (label_of t)) (simple_type outer t)
    simple_walk role around before outer level least end n (node (Text text at) kids) k = tt
    simple_walk role around before outer level least end n (node (Element name attributes declares at) kids) k =
        let s : Site = record { around = around; least = least; end = end; n = n; outer = outer; level = level; name = name; attributes = attributes; declares = declares; at = at; kids = kids } in
        let scope = declares ++ outer in
        let found = variety_among scope kids in
        cond_both (is_in SimpleTypes (Element name attributes declares at)) (defined at found) None (λ o. FoundSimple around (extent least end (counted_at (element_of s))) n at o)
        (λ is.
        let two = member SimpleTypes name attributes declares at is in
        let word : name.local ≡ codes "simpleType" = one_of (λ w. w ≡ codes "simpleType") name.local (names_in SimpleTypes) two.1 (refl, tt) in
        let one = simple_cases role before outer level name attributes declares at kids k.clean word in
        defined_walk one.role s found two.0 word (fact_of role before s k one.role one.passes one.inside)
        (varieties_walk one.role one.varied (around_in one.role 0 0 s) None scope (level_inside one.role level) (at + 1) end n kids
        (kids_at role before s k one.role (level_inside one.role level) one.inside (gap_of_variety one.role one.varied))))
        (λ is. tt)

    pub inner_walk : (role : ElementRole) (around : Around) (before : Option Position) (scope : List (List ℕ × List ℕ)) (level least end n : ℕ) (ts : Roses ItemLabel)
        → Kids role around before scope level least end ts → R around (extent least end (counted_among ts)) n (of_bases (inner_types scope ts))
    inner_walk role around before scope level least end n rose.none k = rules.nothing_read around least end n [] k.spans
    inner_walk role around before scope level least end n (rose.more t ts) k =
        let middle = k.spans.0 in
        let lt = span_le least middle t k.spans.1 in
        more_simple around least middle end n (counted_at t) (counted_among ts) (item_place (label_of t)) (simple_type scope t) (inner_types scope ts) (omega (arith, lt))
        (simple_walk role around before scope level least middle n t (first_kid role around before scope level least end t ts k))
        (inner_walk role around (position_behind role before (label_of t)) scope level middle end (n + length {A = Local} []) ts (later_kids role around before scope level least end t ts k))

  -- the type of an attribute
  pub declared_walk : (role : ElementRole) (s : Site) → s.at + 1 ≤ s.end → Kids role (around_in role 0 0 s) None (scope_of s) (level_inside role s.level) (s.at + 1) s.end s.kids
      → Inside R role 0 0 s.n s (of_bases (more (declared_type (scope_of s) (own_of s) (roses_of (list_of s.kids))) none))
  declared_walk role s le k =
      let i = inner_walk role (around_in role 0 0 s) None (scope_of s) (level_inside role s.level) (s.at + 1) s.end s.n s.kids k in
      subst (λ ks. Inside R role 0 0 s.n s (of_bases (more (declared_type (scope_of s) (own_of s) ks) none))) (sym (roses_of-list_of s.kids))
      (base_walk (around_in role 0 0 s) (s.at + 1) s.end s.n (counted_among s.kids) (scope_of s) (inner_types (scope_of s) s.kids) (beside (codes "type") (own_of s)) le i)

  -- ---- attributes

  use_by_walk : (role : ElementRole) (s : Site) (o : Option (List ℕ)) → beside (codes "ref") (own_of s) ≡ o → IsAttribute role → Fact role s
      → Inside R role 0 0 s.n s (of_bases (more (declared_type (scope_of s) (own_of s) (roses_of (list_of s.kids))) none))
      → Counted R s (of_body (elim o [ None ↦ own_use (local_name said.target said.attributes_qualified (own_of s)) (declared_type (scope_of s) (own_of s) (roses_of (list_of s.kids))) (own_of s) s.at | Some text ↦ use_to (referred (scope_of s) text) (own_of s) s.at ] ∷ []) [] [])
  use_by_walk role s None unnamed is fact h = rules.declared_use role s (declared_type (scope_of s) (own_of s) (roses_of (list_of s.kids))) is fact unnamed h
  use_by_walk role s (Some text) some is fact h = rules.reference_use role s (referred (scope_of s) text) fact

  pub use_walk : (role : ElementRole) (around : Around) (before : Option Position) (outer : List (List ℕ × List ℕ)) (level least end n : ℕ) (t : Rose ItemLabel)
      → Kid role around before outer level least end t → R around (extent least end (counted_at t)) n (of_body (listed (use_at said.target said.attributes_qualified outer (label_of t) (kids_of t))) [] [])
  use_walk role around before outer level least end n (node (Text text at) kids) k =
      let lt = span_le least end (node (Text text at) kids) k.spans in
      rules.nothing_read around least end n [] (omega (arith, lt))
  use_walk role around before outer level least end n (node (Element name attributes declares at) kids) k =
      let s : Site = record { around = around; least = least; end = end; n = n; outer = outer; level = level; name = name; attributes = attributes; declares = declares; at = at; kids = kids } in
      let own = own_attributes attributes in
      let le = k.spans.0 in
      let upto = span_all_le (at + 1) end kids k.spans.1 in
      let here = use_by said.target said.attributes_qualified at (declares ++ outer) own (list_of kids) in
      let is_one = is_in Attributes (Element name attributes declares at) in
      let stays = not (has_use (codes "prohibited") own) in
      cond_both (is_one && stays) (Some here) None (λ o. R around (extent least end (counted_at (element_of s))) n (of_body (listed o) [] []))
      (λ is.
      let two = member Attributes name attributes declares at (and_parts is_one stays is).0 in
      let word = attribute_word name.local two.1 in
      as_counted s (of_body (here ∷ []) [] []) (codes "attribute") two.0 word refl refl
      (elim (attribute_cases role before outer level name attributes declares at kids k.clean word) [
        | inl one ↦ use_by_walk GlobalAttribute s (beside (codes "ref") own) refl tt (fact_of role before s k GlobalAttribute one.passes one.inside)
            (declared_walk GlobalAttribute s upto (kids_at role before s k GlobalAttribute (level_inside GlobalAttribute level) one.inside refl))
        | inr one ↦ use_by_walk LocalAttribute s (beside (codes "ref") own) refl tt (fact_of role before s k LocalAttribute one.passes one.inside)
            (declared_walk LocalAttribute s upto (kids_at role before s k LocalAttribute (level_inside LocalAttribute level) one.inside refl))
      ]))
      (λ is. rules.nothing_read around least end n (counted_at (element_of s)) (omega (arith, le, upto)))

  pub more_use : (found : Option Use) (uses : List Use) → listed found ++ uses ≡ and_use found uses
  more_use None uses = refl
  more_use (Some u) uses = refl

  pub uses_walk : (role : ElementRole) (around : Around) (before : Option Position) (scope : List (List ℕ × List ℕ)) (level least end n : ℕ) (ts : Roses ItemLabel)
      → Kids role around before scope level least end ts → R around (extent least end (counted_among ts)) n (of_body (uses_among said.target said.attributes_qualified scope (list_of ts)) [] [])
  uses_walk role around before scope level least end n rose.none k = rules.nothing_read around least end n [] k.spans
  uses_walk role around before scope level least end n (rose.more t ts) k =
      let middle = k.spans.0 in
      let found = use_at said.target said.attributes_qualified scope (label_of t) (kids_of t) in
      let uses = uses_among said.target said.attributes_qualified scope (list_of ts) in
      subst (λ us. R around (extent least end (counted_at t ++ counted_among ts)) n (of_body us [] [])) (more_use found uses)
      (rules.both around least middle end n (counted_at t) (counted_among ts) (of_body (listed found) [] []) (of_body uses [] [])
      (use_walk role around before scope level least middle n t (first_kid role around before scope level least end t ts k))
      (uses_walk role around (position_behind role before (label_of t)) scope level middle end (n + length {A = Local} []) ts (later_kids role around before scope level least end t ts k)))

  -- ---- simple content

  abbrev pub FoundContent : Around → Extent → ℕ → Option (RawContent × List Use) → Type 0
  FoundContent around e n None = Unit {0}
  FoundContent around e n (Some found) = (base : RawRef) × (place : ℕ) × (around.place < place) × (found.0 ≡ content.Simple base place) × R around e n (of_body found.1 [] [])

  first_content : (around : Around) (least middle end n : ℕ) (xs ys : List ℕ) (a b : Option (RawContent × List Use)) → least ≤ middle → middle ≤ end → FoundContent around (extent least middle xs) n a
      → FoundContent around (extent middle end ys) (n + length {A = Local} []) b → FoundContent around (extent least end (xs ++ ys)) n (option_or a b)
  first_content around least middle end n xs ys None None le ge h g = tt
  first_content around least middle end n xs ys None (Some found) le ge h g =
      (g.0, g.1, g.2, g.3, rules.both around least middle end n xs ys (of_bases none) (of_body found.1 [] []) (rules.nothing_read around least middle n xs le) g.4)
  first_content around least middle end n xs ys (Some found) b le ge h g = (
    h.0,
    h.1,
    h.2,
    h.3,
    subst (λ us. R around (extent least end (xs ++ ys)) n (of_body us [] [])) (append-nil found.1)
        (rules.both around least middle end n xs ys (of_body found.1 [] []) (of_bases none) h.4 (rules.nothing_read around middle end (n + length {A = Local} []) ys ge)),
  )

  -- what stands in an element whose own place isn't counted
  inward : (s : Site) (w : List ℕ) (found : Option (RawContent × List Use)) → s.name.local ≡ w → list_any (bytes_eq w) counted_names ≡ false → looked w ≡ true → s.least ≤ s.at
      → FoundContent s.around (extent (s.at + 1) s.end (counted_among s.kids)) s.n found → FoundContent s.around (extent s.least s.end (counted_at (element_of s))) s.n found
  inward s w None is counted inside le h = tt
  inward s w (Some found) is counted inside le h =
      (h.0, h.1, h.2, h.3, as_uncounted s (of_body found.1 [] []) w is counted inside (rules.lower s.around s.least (s.at + 1) s.end s.n (counted_among s.kids) (of_body found.1 [] []) (omega (arith, le)) h.4))

  -- within a complex type
  extended_walk : (role : ElementRole) (around : Around) (before : Option Position) (outer : List (List ℕ × List ℕ)) (level least end n : ℕ) (t : Rose ItemLabel)
      → Kid role around before outer level least end t → FoundContent around (extent least end (counted_at t)) n (extended said outer (label_of t) (kids_of t))
  extended_walk role around before outer level least end n (node (Text text at) kids) k = tt
  extended_walk role around before outer level least end n (node (Element name attributes declares at) kids) k =
      let s : Site = record { around = around; least = least; end = end; n = n; outer = outer; level = level; name = name; attributes = attributes; declares = declares; at = at; kids = kids } in
      let base = extension_base (declares ++ outer) (own_attributes attributes) in
      let uses = uses_among said.target said.attributes_qualified (declares ++ outer) (list_of kids) in
      let le = k.spans.0 in
      let behind = k.behind in
      let deep = k.deep in
      cond_both (is_named (codes "extension") (Element name attributes declares at)) (Some (content.Simple base at, uses)) None (λ o. FoundContent around (extent least end (counted_at (element_of s))) n o)
      (λ is.
      let word = word_of (codes "extension") name attributes declares at is in
      let i = in_extension role before outer level name attributes declares at kids k.clean word in
      inward s (codes "extension") (Some (content.Simple base at, uses)) word refl refl le (
        base,
        at,
        omega (arith, behind, le),
        refl,
        uses_walk Extension around None (declares ++ outer) (level_inside Extension level) (at + 1) end n kids
            (kids_in role before s k Extension around (level_inside Extension level) i.inside (omega (arith, behind, le)) (omega (arith, deep)) k.small),
      ))
      (λ is. tt)

  extensions_walk : (role : ElementRole) (around : Around) (before : Option Position) (scope : List (List ℕ × List ℕ)) (level least end n : ℕ) (ts : Roses ItemLabel)
      → Kids role around before scope level least end ts → FoundContent around (extent least end (counted_among ts)) n (extended_among said scope (list_of ts))
  extensions_walk role around before scope level least end n rose.none k = tt
  extensions_walk role around before scope level least end n (rose.more t ts) k =
      let middle = k.spans.0 in
      let lt = span_le least middle t k.spans.1 in
      first_content around least middle end n (counted_at t) (counted_among ts) (extended said scope (label_of t) (kids_of t)) (extended_among said scope (list_of ts)) (omega (arith, lt)) (span_all_le middle end ts k.spans.2)
      (extended_walk role around before scope level least middle n t (first_kid role around before scope level least end t ts k))
      (extensions_walk role around (position_behind role before (label_of t)) scope level middle end (n + length {A = Local} []) ts (later_kids role around before scope level least end t ts k))

  content_at_walk : (role : ElementRole) (around : Around) (before : Option Position) (outer : List (List ℕ × List ℕ)) (level least end n : ℕ) (t : Rose ItemLabel)
      → Kid role around before outer level least end t → FoundContent around (extent least end (counted_at t)) n (simple_content_at said outer (label_of t) (kids_of t))
  content_at_walk role around before outer level least end n (node (Text text at) kids) k = tt
  content_at_walk role around before outer level least end n (node (Element name attributes declares at) kids) k =
      let s : Site = record { around = around; least = least; end = end; n = n; outer = outer; level = level; name = name; attributes = attributes; declares = declares; at = at; kids = kids } in
      let found = extended_among said (declares ++ outer) (list_of kids) in
      let le = k.spans.0 in
      let behind = k.behind in
      let deep = k.deep in
      cond_both (is_named (codes "simpleContent") (Element name attributes declares at)) found None (λ o. FoundContent around (extent least end (counted_at (element_of s))) n o)
      (λ is.
      let word = word_of (codes "simpleContent") name attributes declares at is in
      let i = in_content role before outer level name attributes declares at kids k.clean word in
      inward s (codes "simpleContent") found word refl refl le
      (extensions_walk SimpleContent around None (declares ++ outer) (level_inside SimpleContent level) (at + 1) end n kids
      (kids_in role before s k SimpleContent around (level_inside SimpleContent level) i.inside (omega (arith, behind, le)) (omega (arith, deep)) k.small)))
      (λ is. tt)

  pub content_walk : (role : ElementRole) (around : Around) (before : Option Position) (scope : List (List ℕ × List ℕ)) (level least end n : ℕ) (ts : Roses ItemLabel)
      → Kids role around before scope level least end ts → FoundContent around (extent least end (counted_among ts)) n (simple_content said scope (list_of ts))
  content_walk role around before scope level least end n rose.none k = tt
  content_walk role around before scope level least end n (rose.more t ts) k =
      let middle = k.spans.0 in
      let lt = span_le least middle t k.spans.1 in
      first_content around least middle end n (counted_at t) (counted_among ts) (simple_content_at said scope (label_of t) (kids_of t)) (simple_content said scope (list_of ts)) (omega (arith, lt)) (span_all_le middle end ts k.spans.2)
      (content_at_walk role around before scope level least middle n t (first_kid role around before scope level least end t ts k))
      (content_walk role around (position_behind role before (label_of t)) scope level middle end (n + length {A = Local} []) ts (later_kids role around before scope level least end t ts k))
