-- The restrictions and the unions of a document without a fault.
use Rattle.std.proofs.Common.{◌&&◌, ◌≡◌, ℕ, ◌+◌, ◌≤◌, Bool, true, false, cond, List, [], ◌∷◌, ◌++◌, Option, Some, None, inl, inr, refl, ap, subst, sym, ◌∙◌, arith, count_by, ◌||◌, not, bytes_eq, codes, nat_lt}
use Rattle.schema_read.proofs.Words.{list_any, join_with_byte, option_or, and_parts, and_from, and_cases, or_parts, or_cases, not-false, not-true, cond_both, le-leb, ltb-false, both_ways, cases_Bool, sum_by-cons, bytes_eq-Decides, Name, Collapse, beside, is_empty, words_of, Rose, node, Roses, list_of, label_of, ItemLabel, Element, Text, Bases, none, more, How, Simple, Local, is_schema_name, has, in_use, kept_as_written, own_attributes, names_in, is_in, has_child, child_count, Varieties, SimpleTypes, Enumerations, ElementRole, GlobalSimpleType, InnerSimpleType, Restriction, Union, Position, names_members, lacks_required, has_large, level_inside, position_behind, reasons_at, reasons_among, NoneAtAll, facet_makers, with_value, facet_of, facet_at, and_facet, facets_among, joined, named_in, named_members, made_by, placed, defined, and_inner, variety_at, variety_among, simple_type, inner_types, Settings, Parts}
use Rattle.base_texts.specs.WhiteSpace.{treated}
use Rattle.base_texts.proofs.Collapsing.{treated-treated}
use Rattle.base_trees.specs.Rose as rose
use Rattle.simple_types.specs.declared.facets.Facet.{Facet}
use Rattle.schema_components.specs.Raw as raw
use Rattle.schema_components.specs.Varieties.{is_enumeration, has_few_enumerations, has_member, base_varied, how_varied, bases_varied, use_varied, uses_varied, kind_varied, local_varied, type_varied, elements_varied, attributes_varied, types_varied, locals_varied, all_varied}
use Rattle.schema_read.proofs.Faultless.{none_parts}
use Rattle.schema_read.proofs.FaultlessRoles.{one_of, HasVariety, simple_cases, standing, member}
use Rattle.schema_read.proofs.OwnNames.{Entries, entry}
use Rattle.schema_read.proofs.Reading.{Around, Site, own_of, scope_of, of_parts, members, Fact}
use Rattle.schema_read.proofs.Points.{EveryBase, every_true, Property, Points, Each}

-- ---- enumerations

abbrev as_number : Bool → ℕ
as_number b = cond b 1 0

abbrev facet_number : Option Facet → ℕ
facet_number None = 0
facet_number (Some f) = as_number (is_enumeration f)

-- only the row of `enumeration` makes one
abbrev Rows : List (List ℕ × (List ℕ → Facet)) → Type 0
Rows [] = Unit {0}
Rows (row ∷ rows) = ((value : List ℕ) → is_enumeration (row.1 value) ≡ bytes_eq row.0 (codes "enumeration")) × Rows rows

row_number : (name value : List ℕ) (rows : List (List ℕ × (List ℕ → Facet))) → Rows rows → facet_number (with_value (beside name rows) value) ≤ as_number (bytes_eq name (codes "enumeration"))
row_number name value [] h = omega arith
row_number name value (row ∷ rows) h =
    cond_both (bytes_eq row.0 name) (Some row.1) (beside name rows) (λ o. facet_number (with_value o value) ≤ as_number (bytes_eq name (codes "enumeration")))
    (λ is.
    let same : row.0 ≡ name = (bytes_eq-Decides row.0 name).0 is in
    let e = ap as_number (h.0 value ∙ ap (λ w. bytes_eq w (codes "enumeration")) same) in
    omega (arith, e))
    (λ is. row_number name value rows h.1)

facet_number_of : (name : List ℕ) (o : Option (List ℕ)) → facet_number (elim o [ None ↦ None | Some value ↦ facet_of name value ]) ≤ as_number (bytes_eq name (codes "enumeration"))
facet_number_of name None = omega arith
facet_number_of name (Some value) =
    row_number name value facet_makers
    ((λ v. refl), ((λ v. refl), ((λ v. refl), ((λ v. refl), ((λ v. refl), ((λ v. refl), ((λ v. refl), ((λ v. refl), ((λ v. refl), tt)))))))))

one_facet : (parent : ElementRole) (before : Option Position) (scope : List (List ℕ × List ℕ)) (level : ℕ) (t : Rose ItemLabel) → NoneAtAll (reasons_at parent before scope level t)
    → facet_number (facet_at (label_of t)) ≤ as_number (is_in Enumerations (label_of t))
one_facet parent before scope level (node (Text text at) kids) h = omega arith
one_facet parent before scope level (node (Element name attributes declares at) kids) h =
    let most = facet_number_of name.local (beside (codes "value") (own_attributes attributes)) in
    elim (cases_Bool (bytes_eq name.local (codes "enumeration"))) [
      | inl is ↦
          let same : name.local ≡ codes "enumeration" = (bytes_eq-Decides name.local (codes "enumeration")).0 is in
          let s = standing parent before scope level name attributes declares at kids h (codes "enumeration") same refl in
          let member : is_in Enumerations (Element name attributes declares at) ≡ true =
          and_from (is_schema_name name) (list_any (bytes_eq name.local) (names_in Enumerations)) s.is_schema (ap (λ w. list_any (bytes_eq w) (names_in Enumerations)) same) in
          let one = ap as_number member in
          let e = ap as_number is in
          omega (arith, most, one, e)
      | inr other ↦ let e = ap as_number other in omega (arith, most, e)
    ]

and_facet_number : (found : Option Facet) (facets : List Facet) → count_by is_enumeration (and_facet found facets) ≡ facet_number found + count_by is_enumeration facets
and_facet_number None facets = omega arith
and_facet_number (Some f) facets = sum_by-cons (λ x. as_number (is_enumeration x)) f facets

few_facets : (parent : ElementRole) (before : Option Position) (scope : List (List ℕ × List ℕ)) (level : ℕ) (ts : Roses ItemLabel) → NoneAtAll (reasons_among parent before scope level ts)
    → count_by is_enumeration (facets_among (list_of ts)) ≤ child_count Enumerations (list_of ts)
few_facets parent before scope level rose.none h = omega arith
few_facets parent before scope level (rose.more t ts) h =
    let two = none_parts (reasons_at parent before scope level t) (reasons_among parent (position_behind parent before (label_of t)) scope level ts) h in
    let one = one_facet parent before scope level t two.0 in
    let more = few_facets parent (position_behind parent before (label_of t)) scope level ts two.1 in
    let a = and_facet_number (facet_at (label_of t)) (facets_among (list_of ts)) in
    let c : child_count Enumerations (t ∷ list_of ts) ≡ as_number (is_in Enumerations (label_of t)) + child_count Enumerations (list_of ts) =
    sum_by-cons (λ (kid : Rose ItemLabel). as_number (is_in Enumerations (label_of kid))) t (list_of ts) in
    omega (arith, one, more, a, c)

-- ---- members

-- a value in use is collapsed, unless it is kept as written
own_collapsed : (attributes : List (Name × List ℕ)) → Entries (λ name value. list_any (bytes_eq name) kept_as_written ≡ false → treated Collapse value ≡ value) (own_attributes attributes)
own_collapsed [] = tt
own_collapsed (a ∷ rest) =
    cond_both (is_empty a.0.space) ((a.0.local, in_use a.0.local a.1) ∷ own_attributes rest) (own_attributes rest)
    (λ own. Entries (λ name value. list_any (bytes_eq name) kept_as_written ≡ false → treated Collapse value ≡ value) own)
    (λ is. ((λ other. subst (λ v. treated Collapse v ≡ v) (sym (ap (λ b. cond b a.1 (treated Collapse a.1)) other)) (treated-treated Collapse a.1)), own_collapsed rest)) (λ is. own_collapsed rest)

named_member : (scope : List (List ℕ × List ℕ)) (v : List ℕ) (words : List (List ℕ)) → words_of v ≡ words → treated Collapse v ≡ v → is_empty v ≡ false → has_member (named_in scope words) ≡ true
unfolding treated
named_member scope v [] is collapsed some =
    let e : v ≡ [] = sym collapsed ∙ ap (join_with_byte 0x20) is in
    absurd (both_ways (is_empty v) some (ap (λ (l : List ℕ). is_empty l) e))
named_member scope v (word ∷ words) is collapsed some = refl

joined_left : (first others : Bases) → has_member first ≡ true → has_member (joined first others) ≡ true
joined_left none others h = absurd (let e : false ≡ true = h in cc)
joined_left (more b bases) others h = refl

joined_right : (first others : Bases) → has_member others ≡ true → has_member (joined first others) ≡ true
joined_right none others h = h
joined_right (more b bases) others h = refl

names_one : (scope : List (List ℕ × List ℕ)) (attributes : List (Name × List ℕ)) (o : Option (List ℕ)) → beside (codes "memberTypes") (own_attributes attributes) ≡ o
    → elim o [ None ↦ false | Some value ↦ not (is_empty value) ] ≡ true → has_member (elim o [ None ↦ none | Some value ↦ named_in scope (words_of value) ]) ≡ true
names_one scope attributes None is h = absurd (let e : false ≡ true = h in cc)
names_one scope attributes (Some v) is h =
    let collapsed = entry (λ name value. list_any (bytes_eq name) kept_as_written ≡ false → treated Collapse value ≡ value) (codes "memberTypes") v (own_attributes attributes) (own_collapsed attributes) is refl in
    named_member scope v (words_of v) refl collapsed (not-true (is_empty v) h)

-- ---- where a type has to stand, there is one

abbrev IsThere : {A : Type 0} → Option A → Type 0
IsThere None = ⊥
IsThere (Some a) = Unit {0}

there_first : {A : Type 0} (a b : Option A) → IsThere a → IsThere (option_or a b)
there_first None b h = absurd h
there_first (Some x) b h = tt

there_second : {A : Type 0} (a b : Option A) → IsThere b → IsThere (option_or a b)
there_second None b h = h
there_second (Some x) b h = tt

placed_there : (at : ℕ) (made : Option How) → IsThere made → IsThere (placed at made)
placed_there at None h = h
placed_there at (Some how) h = tt

defined_there : (at : ℕ) (found : Option (ℕ × How)) → IsThere found → IsThere (defined at found)
defined_there at None h = h
defined_there at (Some made) h = tt

if_there : {A : Type 0} (b : Bool) (a : Option A) → b ≡ true → IsThere a → IsThere (cond b a None)
if_there true a is h = h
if_there false a is h = absurd (let e : false ≡ true = is in cc)

made_there : (name : List ℕ) (scope own : List (List ℕ × List ℕ)) (inner : Bases) (kids : List (Rose ItemLabel)) → list_any (bytes_eq name) (names_in Varieties) ≡ true
    → IsThere (made_by name scope own inner kids)
made_there name scope own inner kids is =
    one_of (λ w. IsThere (made_by w scope own inner kids)) name (names_in Varieties) is (tt, (tt, (tt, tt)))

variety_there : (outer : List (List ℕ × List ℕ)) (t : Rose ItemLabel) → is_in Varieties (label_of t) ≡ true → IsThere (variety_at outer t)
variety_there outer (node (Text text at) kids) is = absurd (let e : false ≡ true = is in cc)
variety_there outer (node (Element name attributes declares at) kids) is =
    let made = made_by name.local (declares ++ outer) (own_attributes attributes) (inner_types (declares ++ outer) kids) (list_of kids) in
    if_there (is_in Varieties (Element name attributes declares at)) (placed at made) is
    (placed_there at made (made_there name.local (declares ++ outer) (own_attributes attributes) (inner_types (declares ++ outer) kids) (list_of kids)
    (and_parts (is_schema_name name) (list_any (bytes_eq name.local) (names_in Varieties)) is).1))

varieties_there : (scope : List (List ℕ × List ℕ)) (ts : Roses ItemLabel) → has_child Varieties (list_of ts) ≡ true → IsThere (variety_among scope ts)
varieties_there scope rose.none is = absurd (let e : false ≡ true = is in cc)
varieties_there scope (rose.more t ts) is =
    elim (or_cases (is_in Varieties (label_of t)) (has_child Varieties (list_of ts)) is) [
      | inl here ↦ there_first (variety_at scope t) (variety_among scope ts) (variety_there scope t here)
      | inr later ↦ there_second (variety_at scope t) (variety_among scope ts) (varieties_there scope ts later)
    ]

variety_required : (role : ElementRole) → HasVariety role → (own : List (List ℕ × List ℕ)) (kids : List (Rose ItemLabel)) → lacks_required role own kids ≡ false → has_child Varieties kids ≡ true
variety_required GlobalSimpleType h own kids lacks = not-false (has_child Varieties kids) (or_parts (not (has (codes "name") own)) (not (has_child Varieties kids)) lacks).1
variety_required InnerSimpleType h own kids lacks = not-false (has_child Varieties kids) lacks
variety_required role h own kids lacks = absurd h

simple_there : (parent : ElementRole) (before : Option Position) (outer : List (List ℕ × List ℕ)) (level : ℕ) (t : Rose ItemLabel) → NoneAtAll (reasons_at parent before outer level t)
    → is_in SimpleTypes (label_of t) ≡ true → IsThere (simple_type outer t)
simple_there parent before outer level (node (Text text at) kids) h is = absurd (let e : false ≡ true = is in cc)
simple_there parent before outer level (node (Element name attributes declares at) kids) h is =
    let word = one_of (λ w. w ≡ codes "simpleType") name.local (names_in SimpleTypes) (member SimpleTypes name attributes declares at is).1 (refl, tt) in
    let one = simple_cases parent before outer level name attributes declares at kids h word in
    if_there (is_in SimpleTypes (Element name attributes declares at)) (defined at (variety_among (declares ++ outer) kids)) is
    (defined_there at (variety_among (declares ++ outer) kids) (varieties_there (declares ++ outer) kids (variety_required one.role one.varied (own_attributes attributes) (list_of kids) one.passes.required)))

inner_first : (found : Option Simple) (bases : Bases) → IsThere found → has_member (and_inner found bases) ≡ true
inner_first None bases h = absurd h
inner_first (Some s) bases h = refl

inner_later : (found : Option Simple) (bases : Bases) → has_member bases ≡ true → has_member (and_inner found bases) ≡ true
inner_later None bases h = h
inner_later (Some s) bases h = refl

inner_member : (parent : ElementRole) (before : Option Position) (scope : List (List ℕ × List ℕ)) (level : ℕ) (ts : Roses ItemLabel) → NoneAtAll (reasons_among parent before scope level ts)
    → has_child SimpleTypes (list_of ts) ≡ true → has_member (inner_types scope ts) ≡ true
inner_member parent before scope level rose.none h is = absurd (let e : false ≡ true = is in cc)
inner_member parent before scope level (rose.more t ts) h is =
    let two = none_parts (reasons_at parent before scope level t) (reasons_among parent (position_behind parent before (label_of t)) scope level ts) h in
    elim (or_cases (is_in SimpleTypes (label_of t)) (has_child SimpleTypes (list_of ts)) is) [
      | inl here ↦ inner_first (simple_type scope t) (inner_types scope ts) (simple_there parent before scope level t two.0 here)
      | inr later ↦ inner_later (simple_type scope t) (inner_types scope ts) (inner_member parent (position_behind parent before (label_of t)) scope level ts two.1 later)
    ]

union_member : (s : Site) → Fact Union s → has_member (members s) ≡ true
union_member s fact =
    let own = own_of s in
    let scope = scope_of s in
    let inner = inner_types scope s.kids in
    elim (and_cases (not (names_members own)) (not (has_child SimpleTypes (list_of s.kids))) fact.passes.required) [
      | inl named ↦ joined_left (named_members scope own) inner (names_one scope s.attributes (beside (codes "memberTypes") own) refl (not-false (names_members own) named))
      | inr there ↦ joined_right (named_members scope own) inner
          (inner_member Union None scope (level_inside Union s.level) s.kids fact.clean (not-false (has_child SimpleTypes (list_of s.kids)) there))
    ]

-- ---- the property

abbrev pub varied : Property
varied =
    record {
      base = λ around b. base_varied b ≡ true;
      how = λ around at how. how_varied how ≡ true;
      declared = λ around u. use_varied u ≡ true;
      particle = λ around t. Unit {0};
      kind = λ around k. kind_varied k ≡ true;
      element = λ e. kind_varied e.kind ≡ true;
      attribute = λ a. base_varied a.kind ≡ true;
      definition = λ d. type_varied d ≡ true;
      local = λ l. local_varied l ≡ true;
    }

all_bases : (bases : Bases) → EveryBase (λ b. base_varied b ≡ true) bases → bases_varied bases ≡ true
all_bases none h = refl
all_bases (more b bs) h = and_from (base_varied b) (bases_varied bs) h.0 (all_bases bs h.1)

few_there : (own : List (List ℕ × List ℕ)) (count : ℕ) → ((has_large (codes "minOccurs") own || has_large (codes "maxOccurs") own) || nat_lt 10000 count) ≡ false → count ≤ 10000
few_there own count few = ltb-false 10000 count (or_parts (has_large (codes "minOccurs") own || has_large (codes "maxOccurs") own) (nat_lt 10000 count) few).1

pub varied_points : (said : Settings) (all : List Local) → Points said all varied
varied_points said all =
    record {
      named = λ around reference. refl;
      restriction = λ s base fact h.
          let facets = facets_among (list_of s.kids) in
          let count = few_facets Restriction None (scope_of s) (level_inside Restriction s.level) s.kids fact.clean in
          let few = few_there (own_of s) (child_count Enumerations (list_of s.kids)) fact.passes.few in
          and_from (has_few_enumerations facets) (base_varied base) (le-leb (count_by is_enumeration facets) 10000 (omega (arith, count, few))) h;
      list = λ s base fact h. h;
      union = λ s fact h. and_from (has_member (members s)) (bases_varied (members s)) (union_member s fact) (all_bases (members s) h);
      simple = λ role s body_at how fact h. h;
      reference_use = λ role s name fact. refl;
      declared_use = λ role s base is fact own h. h;
      named_kind = λ around reference. refl;
      simple_kind = λ around body h. h;
      complex_kind = λ role s uses ts written is fact deep by u t. every_true use_varied uses_varied refl (λ x xs. refl) uses u;
      reference = λ role s name fact x. (refl, tt);
      own_element = λ role s kind fact own x h. (h, tt);
      group = λ role s ts fact some h. tt;
      element = λ s kind fact deep h. h;
      attribute = λ s fact h. h;
      simple_type = λ s body fact h. h;
      complex_type = λ s body fact small h. h;
    }

pub varied_parts : (around : Around) (p : Parts) → Each varied around (of_parts p.elements p.attributes p.types p.locals) → all_varied p.elements p.attributes p.types p.locals ≡ true
varied_parts around p h =
    let a = attributes_varied p.attributes in
    let t = types_varied p.types in
    let l = locals_varied p.locals in
    and_from (elements_varied p.elements) (a && (t && l)) (every_true (λ (e : raw.Element). kind_varied e.kind) elements_varied refl (λ x xs. refl) p.elements h.elements)
    (and_from a (t && l) (every_true (λ (a : raw.Attribute). base_varied a.kind) attributes_varied refl (λ x xs. refl) p.attributes h.attributes)
    (and_from t l (every_true type_varied types_varied refl (λ x xs. refl) p.types h.types) (every_true local_varied locals_varied refl (λ x xs. refl) p.locals h.locals)))
