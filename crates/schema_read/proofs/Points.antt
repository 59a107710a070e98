-- Properties of each part by itself: what has to hold of a part for that it holds of all that is read of a document.
use Rattle.std.proofs.Common.{◌≡◌, ℕ, ◌+◌, ◌≤◌, Bool, true, List, [], ◌∷◌, ◌++◌, length, Some, None, refl, sym, subst, append_assoc, arith, ◌&&◌, codes, slice_get}
use Rattle.schema_read.proofs.Words.{list_any, and_from, length-append, Name, beside, Rose, roses_of, list_of, label_of, length_all, ItemLabel, levels_all, ParticleLabel, RawRef, RawContent, Base, Named, Inner, Bases, none, more, How, Restrict, ListOf, UnionOf, Simple, Use, Complex, Kind, NamedKind, SimpleKind, ComplexKind, Local, Reference, Own, Attribute, TypeDefinition, SimpleType, ComplexType, ElementRole, GlobalElement, GlobalAttribute, GlobalSimpleType, GlobalComplexType, Restriction, ListRole, Union, occurs, declared_name, local_name, use_to, own_use, attribute_by, facets_among, joined, Settings, element_with, leaf_of, group_of}
use Rattle.schema_components.specs.Raw as raw
use Rattle.schema_read.proofs.FaultlessRoles.{HasGroup}
use Rattle.schema_read.proofs.OwnNames.{IsAttribute}
use Rattle.schema_read.proofs.Reading.{Reading, and_reading, of_bases, of_how, of_body, of_kinds, of_parts, Around, Extent, Site, own_of, scope_of, around_in, Fact, LeafFact, GroupFact, ContentBy, members, Rules}

-- ---- each of some

abbrev pub Every : {A : Type 0} → (A → Type 0) → List A → Type 0
Every P [] = Unit {0}
Every P (x ∷ xs) = P x × Every P xs

abbrev pub EveryBase : (Base → Type 0) → Bases → Type 0
EveryBase P none = Unit {0}
EveryBase P (more b bs) = P b × EveryBase P bs

pub every_append : {A : Type 0} (P : A → Type 0) (xs ys : List A) → Every P xs → Every P ys → Every P (xs ++ ys)
every_append P [] ys h g = g
every_append P (x ∷ xs) ys h g = (h.0, every_append P xs ys h.1 g)

every_joined : (P : Base → Type 0) (bs cs : Bases) → EveryBase P bs → EveryBase P cs → EveryBase P (joined bs cs)
every_joined P none cs h g = g
every_joined P (more b bs) cs h g = (h.0, every_joined P bs cs h.1 g)

-- a word of lists that says the same
pub every_as : {A : Type 0} (P : A → Type 0) (Q : List A → Type 0) → Q [] → ((x : A) (xs : List A) → P x → Q xs → Q (x ∷ xs)) → (xs : List A) → Every P xs → Q xs
every_as P Q empty step [] h = empty
every_as P Q empty step (x ∷ xs) h = step x xs h.0 (every_as P Q empty step xs h.1)

pub every_true : {A : Type 0} (one : A → Bool) (each : List A → Bool) → each [] ≡ true → ((x : A) (xs : List A) → each (x ∷ xs) ≡ (one x && each xs)) → (xs : List A) → Every (λ x. one x ≡ true) xs → each xs ≡ true
every_true one each empty step xs h =
    every_as (λ x. one x ≡ true) (λ ys. each ys ≡ true) empty (λ x ys a b. subst (λ v. v ≡ true) (sym (step x ys)) (and_from (one x) (each ys) a b)) xs h

-- ---- local declarations by their numbers

-- from this number on, the declarations of the first list are those of the second one
abbrev pub Stretch : List Local → ℕ → List Local → Type 0
Stretch all n [] = Unit {0}
Stretch all n (l ∷ ls) = (slice_get all n ≡ Some l) × Stretch all (n + 1) ls

stretch_left : (all : List Local) (n : ℕ) (ls ms : List Local) → Stretch all n (ls ++ ms) → Stretch all n ls
stretch_left all n [] ms h = tt
stretch_left all n (l ∷ ls) ms h = (h.0, stretch_left all (n + 1) ls ms h.1)

stretch_right : (all : List Local) (n : ℕ) (ls ms : List Local) → Stretch all n (ls ++ ms) → Stretch all (n + length ls) ms
stretch_right all n [] ms h =
    let e : n ≡ n + length {A = Local} [] = omega arith in
    subst (λ k. Stretch all k ms) e h
stretch_right all n (l ∷ ls) ms h =
    let e : (n + 1) + length ls ≡ n + length (l ∷ ls) = omega arith in
    subst (λ k. Stretch all k ms) e (stretch_right all (n + 1) ls ms h.1)

slice_get_behind : (before : List Local) (l : Local) (ls : List Local) → slice_get (before ++ l ∷ ls) (length before) ≡ Some l
slice_get_behind [] l ls = refl
slice_get_behind (x ∷ before) l ls = slice_get_behind before l ls

stretch_behind : (before ls : List Local) → Stretch (before ++ ls) (length before) ls
stretch_behind before [] = tt
stretch_behind before (l ∷ ls) =
    let whole : (before ++ l ∷ []) ++ ls ≡ before ++ l ∷ ls = append_assoc before (l ∷ []) ls in
    let count : length (before ++ l ∷ []) ≡ length before + 1 = length-append before (l ∷ []) in
    (slice_get_behind before l ls, subst (λ k. Stretch (before ++ l ∷ ls) k ls) count (subst (λ all. Stretch all (length (before ++ l ∷ [])) ls) whole (stretch_behind (before ++ l ∷ []) ls)))

pub stretch_whole : (all : List Local) → Stretch all 0 all
stretch_whole all = stretch_behind [] all

-- ---- a property of each kind of part, with what is known of the element that it stands in

pub record Property : Type 1 where
  pub base : Around → Base → Type 0
  pub how : Around → ℕ → How → Type 0
  pub declared : Around → Use → Type 0
  pub particle : Around → Rose ParticleLabel → Type 0
  pub kind : Around → Kind → Type 0
  pub element : raw.Element → Type 0
  pub attribute : Attribute → Type 0
  pub definition : TypeDefinition → Type 0
  pub local : Local → Type 0

-- it holds of each part, where `all` are the local declarations of the document
pub record Points (said : Settings) (all : List Local) (P : Property) : Type 0 where
  -- ---- simple types
  pub named : (around : Around) (reference : RawRef) → P.base around (Named reference)
  pub restriction : (s : Site) (base : Base) → Fact Restriction s → P.base (around_in Restriction 0 0 s) base → P.how s.around s.at (Restrict base (facets_among (list_of s.kids)))
  pub list : (s : Site) (base : Base) → Fact ListRole s → P.base (around_in ListRole 0 0 s) base → P.how s.around s.at (ListOf base)
  pub union : (s : Site) → Fact Union s → EveryBase (P.base (around_in Union 0 0 s)) (members s) → P.how s.around s.at (UnionOf (members s))
  pub simple : (role : ElementRole) (s : Site) (body_at : ℕ) (how : How) → Fact role s → P.how (around_in role 0 0 s) body_at how → P.base s.around (Inner s.at body_at how)
  -- ---- attributes
  pub reference_use : (role : ElementRole) (s : Site) (name : Name) → Fact role s → P.declared s.around (use_to name (own_of s) s.at)
  pub declared_use : (role : ElementRole) (s : Site) (base : Base) → IsAttribute role → Fact role s → beside (codes "ref") (own_of s) ≡ None → P.base (around_in role 0 0 s) base
      → P.declared s.around (own_use (local_name said.target said.attributes_qualified (own_of s)) base (own_of s) s.at)
  -- ---- types of elements
  pub named_kind : (around : Around) (reference : RawRef) → P.kind around (NamedKind reference)
  pub simple_kind : (around : Around) (body : Simple) → P.base around (Inner body.at body.body_at body.how) → P.kind around (SimpleKind body)
  pub complex_kind : (role : ElementRole) (s : Site) (uses : List Use) (ts : List (Rose ParticleLabel)) (written : RawContent) → HasGroup role → Fact role s → levels_all s.kids + 3 ≤ s.around.room
      → ContentBy said.file s.at ts written → Every (P.declared (around_in role 0 0 s)) uses → Every (P.particle (around_in role 0 0 s)) ts
      → P.kind s.around (ComplexKind (record { at = s.at; uses = uses; content = written }))
  -- ---- particles, and the local declarations that they are
  pub reference : (role : ElementRole) (s : Site) (name : Name) → LeafFact role s → slice_get all s.n ≡ Some (Reference name s.at)
      → P.local (Reference name s.at) × P.particle s.around (leaf_of said.file s.at s.n name (own_of s))
  pub own_element : (role : ElementRole) (s : Site) (kind : Kind) → LeafFact role s → beside (codes "ref") (own_of s) ≡ None
      → slice_get all s.n ≡ Some (Own (element_with (local_name said.target said.elements_qualified (own_of s)) (own_of s) s.at kind)) → P.kind (around_in role 0 2 s) kind
      → P.local (Own (element_with (local_name said.target said.elements_qualified (own_of s)) (own_of s) s.at kind))
      × P.particle s.around (leaf_of said.file s.at s.n (local_name said.target said.elements_qualified (own_of s)) (own_of s))
  pub group : (role : ElementRole) (s : Site) (ts : List (Rose ParticleLabel)) → GroupFact role s
      → (list_any (λ (kid : Rose ItemLabel). occurs (label_of kid)) (list_of s.kids) ≡ true → 1 ≤ length_all (roses_of ts))
      → Every (P.particle (around_in role (s.around.level + 1) 1 s)) ts → P.particle s.around (group_of said.file s.at s.name.local (own_of s) ts)
  -- ---- global declarations
  pub element : (s : Site) (kind : Kind) → Fact GlobalElement s → levels_all s.kids + 2 ≤ s.around.room → P.kind (around_in GlobalElement 0 2 s) kind
      → P.element (element_with (declared_name said.target (own_of s)) (own_of s) s.at kind)
  pub attribute : (s : Site) → Fact GlobalAttribute s → P.base (around_in GlobalAttribute 0 0 s) (attribute_by said.target s.at (scope_of s) (own_of s) (list_of s.kids)).kind
      → P.attribute (attribute_by said.target s.at (scope_of s) (own_of s) (list_of s.kids))
  pub simple_type : (s : Site) (body : Simple) → Fact GlobalSimpleType s → P.base s.around (Inner body.at body.body_at body.how) → P.definition (SimpleType (declared_name said.target (own_of s)) body)
  pub complex_type : (s : Site) (body : Complex) → Fact GlobalComplexType s → s.around.room ≤ 65 → P.kind s.around (ComplexKind body) → P.definition (ComplexType (declared_name said.target (own_of s)) body)

-- ---- of all that is read

pub record Each (P : Property) (around : Around) (r : Reading) : Type 0 where
  pub bases : EveryBase (P.base around) r.bases
  pub hows : Every (λ (made : ℕ × How). P.how around made.0 made.1) r.hows
  pub uses : Every (P.declared around) r.uses
  pub particles : Every (P.particle around) r.particles
  pub kinds : Every (P.kind around) r.kinds
  pub elements : Every P.element r.elements
  pub attributes : Every P.attribute r.attributes
  pub types : Every P.definition r.types
  pub locals : Every P.local r.locals

abbrev pub OfEach : List Local → Property → Around → Extent → ℕ → Reading → Type 0
OfEach all P around e n r = Stretch all n r.locals → Each P around r

module _ (P : Property) (around : Around) where
  in_bases : (bases : Bases) → EveryBase (P.base around) bases → Each P around (of_bases bases)
  in_bases bases h = record { bases = h; hows = tt; uses = tt; particles = tt; kinds = tt; elements = tt; attributes = tt; types = tt; locals = tt }

  in_how : (at : ℕ) (how : How) → P.how around at how → Each P around (of_how at how)
  in_how at how h = record { bases = tt; hows = (h, tt); uses = tt; particles = tt; kinds = tt; elements = tt; attributes = tt; types = tt; locals = tt }

  in_body : (uses : List Use) (ts : List (Rose ParticleLabel)) (ls : List Local) → Every (P.declared around) uses → Every (P.particle around) ts → Every P.local ls → Each P around (of_body uses ts ls)
  in_body uses ts ls u t l = record { bases = tt; hows = tt; uses = u; particles = t; kinds = tt; elements = tt; attributes = tt; types = tt; locals = l }

  in_kinds : (kinds : List Kind) (ls : List Local) → Every (P.kind around) kinds → Every P.local ls → Each P around (of_kinds kinds ls)
  in_kinds kinds ls k l = record { bases = tt; hows = tt; uses = tt; particles = tt; kinds = k; elements = tt; attributes = tt; types = tt; locals = l }

  in_parts : (es : List raw.Element) (ats : List Attribute) (ds : List TypeDefinition) (ls : List Local) → Every P.element es → Every P.attribute ats → Every P.definition ds → Every P.local ls
      → Each P around (of_parts es ats ds ls)
  in_parts es ats ds ls e a d l = record { bases = tt; hows = tt; uses = tt; particles = tt; kinds = tt; elements = e; attributes = a; types = d; locals = l }

  each_both : (a b : Reading) → Each P around a → Each P around b → Each P around (and_reading a b)
  each_both a b h g =
      record {
        bases = every_joined (P.base around) a.bases b.bases h.bases g.bases;
        hows = every_append (λ (made : ℕ × How). P.how around made.0 made.1) a.hows b.hows h.hows g.hows;
        uses = every_append (P.declared around) a.uses b.uses h.uses g.uses;
        particles = every_append (P.particle around) a.particles b.particles h.particles g.particles;
        kinds = every_append (P.kind around) a.kinds b.kinds h.kinds g.kinds;
        elements = every_append P.element a.elements b.elements h.elements g.elements;
        attributes = every_append P.attribute a.attributes b.attributes h.attributes g.attributes;
        types = every_append P.definition a.types b.types h.types g.types;
        locals = every_append P.local a.locals b.locals h.locals g.locals;
      }

pub by_points : (said : Settings) (all : List Local) (P : Property) → Points said all P → Rules said (OfEach all P)
by_points said all P points =
    record {
      nothing_read = λ around least end n counted le x. in_bases P around none tt;
      both = λ around least middle end n xs ys a b h g x. each_both P around a b (h (stretch_left all n a.locals b.locals x)) (g (stretch_right all n a.locals b.locals x));
      lower = λ around less least end n counted a le h x. h x;
      more_named = λ around e n reference bases h x. in_bases P around (more (Named reference) bases) (points.named around reference, (h x).bases);
      first_base = λ around e n base bases h x. in_bases P around (more base none) ((h x).bases.0, tt);
      restriction = λ s base fact h x. in_how P s.around s.at (Restrict base (facets_among (list_of s.kids))) (points.restriction s base fact (h x).bases.0);
      list = λ s base fact h x. in_how P s.around s.at (ListOf base) (points.list s base fact (h x).bases.0);
      union = λ s fact h x. in_how P s.around s.at (UnionOf (members s)) (points.union s fact (h x).bases);
      simple = λ role s body_at how fact h x. in_bases P s.around (more (Inner s.at body_at how) none) (points.simple role s body_at how fact (h x).hows.0, tt);
      reference_use = λ role s name fact x. in_body P s.around (use_to name (own_of s) s.at ∷ []) [] [] (points.reference_use role s name fact, tt) tt tt;
      declared_use = λ role s base is fact own h x.
          in_body P s.around (own_use (local_name said.target said.attributes_qualified (own_of s)) base (own_of s) s.at ∷ []) [] [] (points.declared_use role s base is fact own (h x).bases.0, tt) tt tt;
      named_kind = λ around least end n counted reference le x. in_kinds P around (NamedKind reference ∷ []) [] (points.named_kind around reference, tt) tt;
      simple_kind = λ around e n body h x. in_kinds P around (SimpleKind body ∷ []) [] (points.simple_kind around body (h x).bases.0, tt) tt;
      complex_kind = λ role s uses ts ls written is fact deep by h x.
          in_kinds P s.around (ComplexKind (record { at = s.at; uses = uses; content = written }) ∷ []) ls (points.complex_kind role s uses ts written is fact deep by (h x).uses (h x).particles, tt) (h x).locals;
      reference = λ role s name fact x.
          let p = points.reference role s name fact x.0 in
          in_body P s.around [] (leaf_of said.file s.at s.n name (own_of s) ∷ []) (Reference name s.at ∷ []) tt (p.1, tt) (p.0, tt);
      own_element = λ role s kind ls fact own h x.
          let name = local_name said.target said.elements_qualified (own_of s) in
          let p = points.own_element role s kind fact own x.0 (h x.1).kinds.0 in
          in_body P s.around [] (leaf_of said.file s.at s.n name (own_of s) ∷ []) (Own (element_with name (own_of s) s.at kind) ∷ ls) tt (p.1, tt) (p.0, (h x.1).locals);
      group = λ role s ts ls fact some h x. in_body P s.around [] (group_of said.file s.at s.name.local (own_of s) ts ∷ []) ls tt (points.group role s ts fact some (h x).particles, tt) (h x).locals;
      element = λ s kind ls fact deep h x.
          in_parts P s.around (element_with (declared_name said.target (own_of s)) (own_of s) s.at kind ∷ []) [] [] ls (points.element s kind fact deep (h x).kinds.0, tt) tt tt (h x).locals;
      attribute = λ s fact h x. in_parts P s.around [] (attribute_by said.target s.at (scope_of s) (own_of s) (list_of s.kids) ∷ []) [] [] tt (points.attribute s fact (h x).bases.0, tt) tt tt;
      simple_type = λ s body fact same h x.
          in_parts P s.around [] [] (SimpleType (declared_name said.target (own_of s)) body ∷ []) [] tt tt (points.simple_type s body fact (h x).bases.0, tt) tt;
      complex_type = λ s body ls fact same h x.
          in_parts P s.around [] [] (ComplexType (declared_name said.target (own_of s)) body ∷ []) ls tt tt (points.complex_type s body fact fact.small (h x).kinds.0, tt) (h x).locals;
    }
