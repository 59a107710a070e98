-- Where each reference names what it needs, each part of a simple type has a number.
use Rattle.std.proofs.Common.{◌≡◌, ℕ, zero, suc, ◌+◌, ◌<◌, arith, Bool, true, false, cond, ◌⊎◌, inl, inr, List, [], ◌∷◌, ◌++◌, length, refl, sym, ap, ◌∙◌, subst, append_assoc, append-nil, Option, Some, None}
use Rattle.std.specs.Prelude.{IsSome, slice_get, ◌&&◌, ◌||◌, nat_eq, if◌then◌else◌}
use Rattle.std.specs.List.{flat_map, filter_map, cons_option, position_from}
use Rattle.std.specs.Option.{option_map, is_some}
use Rattle.std.proofs.lemmas.Bool.{cases_Bool, or_parts, true≢false, eq-eqb}
use Rattle.std.proofs.lemmas.List.{length-map}
use Rattle.base_texts.specs.declared.texts.Name.{Name}
use Rattle.base_texts.specs.Lists.{HasItem}
use Rattle.base_texts.specs.Names.{name_eq}
use Rattle.base_texts.proofs.Lists.{has_left, has_right}
use Rattle.base_texts.proofs.NameLaws.{name_eq-Decides}
use Rattle.base_trees.specs.Rose.{Rose, node, Roses}
use Rattle.base_trees.specs.Rose as rose
use Rattle.content_models.specs.declared.particles.ParticleLabel.{ParticleLabel}
use Rattle.schema_components.specs.declared.declarations.RawContent.{RawContent}
use Rattle.schema_components.specs.declared.declarations.RawContent.TheVariants as content
use Rattle.schema_components.specs.declared.simple_definitions.RawRef.TheVariants as reference
use Rattle.schema_components.specs.Raw as raw
use Rattle.schema_components.specs.Raw.{Base, Named, Inner, Bases, How, Restrict, ListOf, UnionOf, Use, Complex, Kind, NamedKind, SimpleKind, ComplexKind, Element, Local, Reference, Own, Attribute, TypeDefinition, SimpleType, ComplexType, Document}
use Rattle.link_names.specs.Parts as part
use Rattle.link_names.specs.Parts.{What, Part, simple, in_base, in_how, in_bases, in_simple, in_model, in_models, in_mixed, in_content, in_use_type, in_use, in_complex, in_kind, in_element, in_attribute, in_definition, in_local, in_document, parts}
use Rattle.link_names.specs.declared.parts.TypeRole.{TypeRole}
use Rattle.link_names.specs.declared.parts.TypeRole.TheVariants as role
use Rattle.link_names.specs.declared.faults.LinkingFault.{LinkingFault}
use Rattle.link_names.specs.declared.faults.LinkWhy.{LinkWhy}
use Rattle.link_names.specs.declared.faults.LinkWhy.TheVariants as why
use Rattle.link_names.specs.declared.places.Place.{Place}
use Rattle.link_names.specs.Globals.{GlobalComponent, type_name, complex_name, named_at, is_there}
use Rattle.link_names.specs.Order.{place, fault, IsFirstSuch}
use Rattle.link_names.specs.References as references
use Rattle.link_names.specs.Resolution.{names_among, wrong, fault_of, unresolved}
use Rattle.link_names.specs.Cycles.{numbers_in, one_of, part_of, parts_of_bases, parts_of, parts_in, edges, is_named, stands_at}
use Rattle.link_names.specs.Cycles as cycles
use Rattle.link_names.specs.SimpleTypes.{SimpleDefinition, of_what, of_part, simple_types}
use Rattle.link_simple.specs.Private.Ordering.{IsInside}
use Rattle.link_simple.specs.Private.Told.{IsPartTold, ArePartsTold, IsHowTold, AreTold}
use Rattle.link_simple.proofs.Uniqueness.{row_of, row_within, some_at}

-- ---- lists

has_flat : {A B : Type 0} (f : A → List B) (xs : List A) (x : A) (y : B) → HasItem xs x → HasItem (f x) y → HasItem (flat_map f xs) y
has_flat f [] x y h k = absurd h
has_flat f (z ∷ xs) x y (inl same) k = has_left (f z) (flat_map f xs) y (subst (λ w. HasItem (f w) y) (sym same) k)
has_flat f (z ∷ xs) x y (inr h) k = has_right (f z) (flat_map f xs) y (has_flat f xs x y h k)

either_part : {A : Type 0} (xs ys : List A) (z : A) → HasItem (xs ++ ys) z → HasItem xs z ⊎ HasItem ys z
either_part [] ys z h = inr h
either_part (x ∷ xs) ys z (inl same) = inl (inl same)
either_part (x ∷ xs) ys z (inr h) = elim (either_part xs ys z h) [ inl k ↦ inl (inr k) | inr k ↦ inr k ]

not_some : {B : Type 0} (o : Option B) (ys : List B) → ((y : B) → HasItem (cons_option o ys) y → ⊥) → o ≡ None
not_some None ys none = refl
not_some (Some y) ys none = absurd (none y (inl refl))

behind_option : {B : Type 0} (o : Option B) (ys : List B) (y : B) → HasItem ys y → HasItem (cons_option o ys) y
behind_option None ys y k = k
behind_option (Some w) ys y k = inr k

none_of : {A B : Type 0} (f : A → Option B) (xs : List A) (x : A) → ((y : B) → HasItem (filter_map f xs) y → ⊥) → HasItem xs x → f x ≡ None
none_of f [] x none h = absurd h
none_of f (z ∷ xs) x none (inl same) = ap f (sym same) ∙ not_some (f z) (filter_map f xs) none
none_of f (z ∷ xs) x none (inr h) = none_of f xs x (λ y k. none y (behind_option (f z) (filter_map f xs) y k)) h

the_same : {A : Type 0} (x y : A) → Some x ≡ Some y → x ≡ y
the_same x y e = cc

-- ---- positions

is_found : {A : Type 0} (passes : A → Bool) (i : ℕ) (xs : List A) (x : A) → HasItem xs x → passes x ≡ true → IsSome (position_from passes i xs)
is_found passes i [] x h does = absurd h
is_found passes i (y ∷ xs) x h does = elim (cases_Bool (passes y)) [
  | inl here ↦ ap (λ b. is_some (cond b (Some i) (position_from passes (i + 1) xs))) here
  | inr other ↦
      ap (λ b. is_some (cond b (Some i) (position_from passes (i + 1) xs))) other
      ∙ elim h [
        | inl same ↦ absurd (true≢false (sym does ∙ ap passes (sym same) ∙ other))
        | inr k ↦ is_found passes (i + 1) xs x k does
      ]
]

position_within : {A : Type 0} (passes : A → Bool) (i : ℕ) (xs : List A) (n : ℕ) → position_from passes i xs ≡ Some n → n < i + length xs
position_within passes i [] n at = absurd cc
position_within passes i (x ∷ xs) n at = elim (cases_Bool (passes x)) [
  | inl here ↦
      let same = the_same i n (sym (ap (λ b. cond b (Some i) (position_from passes (i + 1) xs)) here) ∙ at) in
      omega (arith, same)
  | inr other ↦
      let lt = position_within passes (i + 1) xs n (sym (ap (λ b. cond b (Some i) (position_from passes (i + 1) xs)) other) ∙ at) in
      omega (arith, lt)
]

-- ---- no edge leads out

module _ (ds : List SimpleDefinition) where
  one_within : (o : Option ℕ) (m : ℕ) → ((n : ℕ) → o ≡ Some n → n < length ds) → HasItem (one_of o) m → m < length ds
  one_within None m within h = absurd h
  one_within (Some n) m within (inl same) = subst (λ x. x < length ds) same (within n refl)
  one_within (Some n) m within (inr none) = absurd none

  part_within : (file : ℕ) (b : Base) (m : ℕ) → HasItem (part_of (numbers_in ds) file b) m → m < length ds
  part_within file (Named (reference.Builtin which)) m h = absurd h
  part_within file (Named (reference.Other name)) m h =
      one_within (position_from (is_named name) 0 ds) m (λ n at. let lt = position_within (is_named name) 0 ds n at in omega (arith, lt)) h
  part_within file (Inner at body_at how) m h =
      one_within (position_from (stands_at (place file at)) 0 ds) m (λ n is. let lt = position_within (stands_at (place file at)) 0 ds n is in omega (arith, lt)) h

  parts_within : (file : ℕ) (bs : Bases) (m : ℕ) → HasItem (parts_of_bases (numbers_in ds) file bs) m → m < length ds
  parts_within file raw.none m h = absurd h
  parts_within file (raw.more b bs) m h = elim (either_part (part_of (numbers_in ds) file b) (parts_of_bases (numbers_in ds) file bs) m h) [
    | inl k ↦ part_within file b m k
    | inr k ↦ parts_within file bs m k
  ]

  how_within : (file : ℕ) (how : How) (m : ℕ) → HasItem (parts_of (numbers_in ds) file how) m → m < length ds
  how_within file (Restrict base facets) m h = part_within file base m h
  how_within file (ListOf item) m h = part_within file item m h
  how_within file (UnionOf members) m h = parts_within file members m h

  pub edges_inside : IsInside (edges ds)
  edges_inside a b edge =
      let long = length-map ds (parts_in (numbers_in ds)) in
      let lt = row_within (edges ds) a b edge in
      let at = some_at ds a (omega (arith, long, lt)) in
      let within = how_within at.0.place.file at.0.how b (subst (λ xs. HasItem xs b) (row_of (parts_in (numbers_in ds)) ds a at.0 at.1) edge) in
      omega (arith, long, within)

-- ---- the parts of a simple type stand right behind it

abbrev IsBehind : ℕ → What → List Part → Type 0
IsBehind file (part.SimpleDefinition name s) ps = (rest : List Part) × (ps ≡ in_how file s.body_at s.how ++ rest)
IsBehind file other ps = Unit {0}

abbrev Behind : List Part → Type 0
Behind [] = Unit {0}
Behind (p ∷ ps) = IsBehind p.file p.what ps × Behind ps

is_behind_more : (file : ℕ) (what : What) (ps qs : List Part) → IsBehind file what ps → IsBehind file what (ps ++ qs)
is_behind_more file (part.SimpleDefinition name s) ps qs h = (h.0 ++ qs, ap (λ xs. xs ++ qs) h.1 ∙ append_assoc (in_how file s.body_at s.how) h.0 qs)
is_behind_more file (part.GlobalElement e) ps qs h = tt
is_behind_more file (part.LocalElement e) ps qs h = tt
is_behind_more file (part.ElementReference name) ps qs h = tt
is_behind_more file (part.GlobalAttribute a) ps qs h = tt
is_behind_more file (part.AttributeUse u) ps qs h = tt
is_behind_more file (part.ComplexDefinition name c) ps qs h = tt
is_behind_more file (part.Particle label) ps qs h = tt
is_behind_more file (part.MixedGroup label) ps qs h = tt
is_behind_more file (part.TypeReference r reference) ps qs h = tt

behind_append : (ps qs : List Part) → Behind ps → Behind qs → Behind (ps ++ qs)
behind_append [] qs h k = k
behind_append (p ∷ ps) qs h k = (is_behind_more p.file p.what ps qs h.0, behind_append ps qs h.1 k)

mutual
  base_behind : (file at : ℕ) (r : TypeRole) (b : Base) → Behind (in_base file at r b)
  base_behind file at r (Named reference) = (tt, tt)
  base_behind file at r (Inner own body_at how) = (([], sym (append-nil (in_how file body_at how))), how_behind file body_at how)

  how_behind : (file at : ℕ) (how : How) → Behind (in_how file at how)
  how_behind file at (Restrict base facets) = base_behind file at role.SimpleType base
  how_behind file at (ListOf item) = base_behind file at role.SimpleType item
  how_behind file at (UnionOf members) = bases_behind file at members

  bases_behind : (file at : ℕ) (bs : Bases) → Behind (in_bases file at bs)
  bases_behind file at raw.none = tt
  bases_behind file at (raw.more b bs) = behind_append (in_base file at role.SimpleType b) (in_bases file at bs) (base_behind file at role.SimpleType b) (bases_behind file at bs)

simple_behind : (file : ℕ) (within : Option ℕ) (name : Option Name) (s : raw.Simple) → Behind (in_simple file within name s)
simple_behind file within name s = (([], sym (append-nil (in_how file s.body_at s.how))), how_behind file s.body_at s.how)

mutual
  model_behind : (file within : ℕ) (t : Rose ParticleLabel) → Behind (in_model file within t)
  model_behind file within (node label kids) = (tt, models_behind file label.at kids)

  models_behind : (file within : ℕ) (ts : Roses ParticleLabel) → Behind (in_models file within ts)
  models_behind file within rose.none = tt
  models_behind file within (rose.more t ts) = behind_append (in_model file within t) (in_models file within ts) (model_behind file within t) (models_behind file within ts)

mixed_behind : (file within : ℕ) (t : Rose ParticleLabel) → Behind (in_mixed file within t)
mixed_behind file within (node label rose.none) = (tt, tt)
mixed_behind file within (node label (rose.more t ts)) = model_behind file within (node label (rose.more t ts))

content_behind : (file within : ℕ) (c : RawContent) → Behind (in_content file within c)
content_behind file within content.Empty = tt
content_behind file within (content.Simple base at) = (tt, tt)
content_behind file within (content.ElementOnly model) = model_behind file within model
content_behind file within (content.Mixed model) = mixed_behind file within model

use_type_behind : (file at : ℕ) (kind : Option Base) → Behind (in_use_type file at kind)
use_type_behind file at None = tt
use_type_behind file at (Some base) = base_behind file at role.Attribute base

-- of each of a list
each_behind : {A : Type 0} (f : A → List Part) → ((x : A) → Behind (f x)) → (xs : List A) → Behind (flat_map f xs)
each_behind f each [] = tt
each_behind f each (x ∷ xs) = behind_append (f x) (flat_map f xs) (each x) (each_behind f each xs)

complex_behind : (file : ℕ) (within : Option ℕ) (name : Option Name) (c : Complex) → Behind (in_complex file within name c)
complex_behind file within name c = (
  tt,
  behind_append (in_content file c.at c.content) (flat_map (in_use file c.at) c.uses) (content_behind file c.at c.content)
      (each_behind (in_use file c.at) (λ u. (tt, use_type_behind file u.at u.kind)) c.uses),
)

kind_behind : (file at : ℕ) (k : Kind) → Behind (in_kind file at k)
kind_behind file at (NamedKind reference) = (tt, tt)
kind_behind file at (SimpleKind s) = simple_behind file (Some at) None s
kind_behind file at (ComplexKind c) = complex_behind file (Some at) None c

definition_behind : (file : ℕ) (t : TypeDefinition) → Behind (in_definition file t)
definition_behind file (SimpleType name s) = simple_behind file None (Some name) s
definition_behind file (ComplexType name c) = complex_behind file None (Some name) c

local_behind : (file : ℕ) (l : Local) → Behind (in_local file l)
local_behind file (Reference name at) = (tt, tt)
local_behind file (Own e) = (tt, kind_behind file e.at e.kind)

document_behind : (d : Document) → Behind (in_document d)
document_behind d =
    let elements = flat_map (in_element d.file) d.elements in
    let attributes = flat_map (in_attribute d.file) d.attributes in
    let types = flat_map (in_definition d.file) d.types in
    let locals = flat_map (in_local d.file) d.locals in
    behind_append (elements ++ (attributes ++ types)) locals
    (behind_append elements (attributes ++ types) (each_behind (in_element d.file) (λ e. (tt, kind_behind d.file e.at e.kind)) d.elements)
    (behind_append attributes types (each_behind (in_attribute d.file) (λ a. (tt, base_behind d.file a.at role.Attribute a.kind)) d.attributes)
    (each_behind (in_definition d.file) (definition_behind d.file) d.types)))
    (each_behind (in_local d.file) (local_behind d.file) d.locals)

parts_behind : (docs : List Document) → Behind (parts docs)
parts_behind docs = each_behind in_document document_behind docs

-- ---- names

no_fault : (o : Option LinkWhy) (p : Place) → option_map (λ w. fault w p) o ≡ None → o ≡ None
no_fault None p e = refl
no_fault (Some w) p e = absurd cc

simple_named : (complex there : Bool) → (if complex then Some why.ComplexBase else if there then None else Some why.Unresolved) ≡ None → (complex ≡ false) × (there ≡ true)
simple_named true there e = absurd cc
simple_named false true e = (refl, refl)
simple_named false false e = absurd cc

same_way : (a b : Name) → name_eq a b ≡ true → name_eq b a ≡ true
same_way a b e = (name_eq-Decides b a).1 (sym ((name_eq-Decides a b).0 e))

-- the types among these parts, and the complex types
abbrev type_part : Part → List GlobalComponent
type_part p = named_at (type_name p.what) (place p.file p.at)

abbrev complex_part : Part → List GlobalComponent
complex_part p = named_at (complex_name p.what) (place p.file p.at)

-- a type of this name that isn't complex is simple
module _ (a : Name) where
  abbrev IsNumbered : List Part → ℕ → Type 0
  IsNumbered ps i = IsSome (position_from (is_named a) i (flat_map of_part ps))

  in_rest : (x y : Bool) → (x ≡ true → ⊥) → (x || y) ≡ true → y ≡ true
  in_rest true y never e = absurd (never refl)
  in_rest false y never e = e

  named_here : (file at : ℕ) (what : What) (ps : List Part) (i : ℕ)
      → ((j : ℕ) → is_there (flat_map type_part ps) a ≡ true → is_there (flat_map complex_part ps) a ≡ false → IsNumbered ps j)
      → is_there (named_at (type_name what) (place file at) ++ flat_map type_part ps) a ≡ true
      → is_there (named_at (complex_name what) (place file at) ++ flat_map complex_part ps) a ≡ false
      → IsSome (position_from (is_named a) i (of_what file at what ++ flat_map of_part ps))
  named_here file at (part.SimpleDefinition None s) ps i rest there plain = rest (i + 1) there plain
  named_here file at (part.SimpleDefinition (Some b) s) ps i rest there plain = elim (cases_Bool (name_eq b a)) [
    | inl same ↦ ap (λ t. is_some (cond t (Some i) (position_from (is_named a) (i + 1) (flat_map of_part ps)))) same
    | inr other ↦
        ap (λ t. is_some (cond t (Some i) (position_from (is_named a) (i + 1) (flat_map of_part ps)))) other
        ∙ rest (i + 1) (in_rest (name_eq a b) (is_there (flat_map type_part ps) a) (λ e. true≢false (sym (same_way a b e) ∙ other)) there) plain
  ]
  named_here file at (part.ComplexDefinition None c) ps i rest there plain = rest i there plain
  named_here file at (part.ComplexDefinition (Some b) c) ps i rest there plain =
      let two = or_parts (name_eq a b) (is_there (flat_map complex_part ps) a) plain in
      rest i (sym (ap (λ x. x || is_there (flat_map type_part ps) a) two.0) ∙ there) two.1
  named_here file at (part.GlobalElement e) ps i rest there plain = rest i there plain
  named_here file at (part.LocalElement e) ps i rest there plain = rest i there plain
  named_here file at (part.ElementReference name) ps i rest there plain = rest i there plain
  named_here file at (part.GlobalAttribute b) ps i rest there plain = rest i there plain
  named_here file at (part.AttributeUse u) ps i rest there plain = rest i there plain
  named_here file at (part.Particle label) ps i rest there plain = rest i there plain
  named_here file at (part.MixedGroup label) ps i rest there plain = rest i there plain
  named_here file at (part.TypeReference r reference) ps i rest there plain = rest i there plain

  has_number : (ps : List Part) (i : ℕ) → is_there (flat_map type_part ps) a ≡ true → is_there (flat_map complex_part ps) a ≡ false → IsNumbered ps i
  has_number [] i there plain = absurd (true≢false (sym there))
  has_number (p ∷ ps) i there plain = named_here p.file p.at p.what ps i (has_number ps) there plain

-- ---- all parts of all types

module _ (all : List Part) (resolved : (f : LinkingFault) → HasItem (filter_map (fault_of (names_among all)) (flat_map references.of_part all)) f → ⊥) where
  abbrev ns : cycles.SimpleNumbers
  ns = numbers_in (flat_map of_part all)

  abbrev Within : List Part → Type 0
  Within ps = (p : Part) → HasItem ps p → HasItem all p

  name_told : (file at : ℕ) (a : Name) → HasItem all (part.part file (Some at) at (part.TypeReference role.SimpleType (reference.Other a))) → IsSome (ns.named a)
  name_told file at a h =
      let m = references.mention (references.need_of role.SimpleType) (place file at) a in
      let mentioned = has_flat references.of_part all (part.part file (Some at) at (part.TypeReference role.SimpleType (reference.Other a))) m h (inl refl) in
      let right = no_fault (wrong (names_among all) (references.need_of role.SimpleType) a) (place file at)
      (none_of (fault_of (names_among all)) (flat_map references.of_part all) m resolved mentioned) in
      let two = simple_named (is_there (flat_map complex_part all) a) (is_there (flat_map type_part all) a) right in
      has_number a all 0 two.1 two.0

  place_told : (file at own body_at : ℕ) (how : How) → HasItem all (part.part file (Some at) own (part.SimpleDefinition None (simple own body_at how))) → IsSome (ns.placed (place file own))
  place_told file at own body_at how h =
      let p = part.part file (Some at) own (part.SimpleDefinition None (simple own body_at how)) in
      let d : SimpleDefinition = record { name = None; place = place file own; body = place file body_at; how = how } in
      let here = ap (λ b. b && nat_eq own own) (eq-eqb file file refl) ∙ eq-eqb own own refl in
      is_found (stands_at (place file own)) 0 (flat_map of_part all) d (has_flat of_part all p d h (inl refl)) here

  base_told : (file at : ℕ) (b : Base) → Within (in_base file at role.SimpleType b) → IsPartTold ns file b
  base_told file at (Named (reference.Builtin which)) within = tt
  base_told file at (Named (reference.Other a)) within =
      name_told file at a (within (part.part file (Some at) at (part.TypeReference role.SimpleType (reference.Other a))) (inl refl))
  base_told file at (Inner own body_at how) within =
      place_told file at own body_at how (within (part.part file (Some at) own (part.SimpleDefinition None (simple own body_at how))) (inl refl))

  bases_told : (file at : ℕ) (bs : Bases) → Within (in_bases file at bs) → ArePartsTold ns file bs
  bases_told file at raw.none within = tt
  bases_told file at (raw.more b bs) within = (
    base_told file at b (λ p h. within p (has_left (in_base file at role.SimpleType b) (in_bases file at bs) p h)),
    bases_told file at bs (λ p h. within p (has_right (in_base file at role.SimpleType b) (in_bases file at bs) p h)),
  )

  how_told : (file at : ℕ) (how : How) → Within (in_how file at how) → IsHowTold ns file how
  how_told file at (Restrict base facets) within = base_told file at base within
  how_told file at (ListOf item) within = base_told file at item within
  how_told file at (UnionOf members) within = bases_told file at members within

  abbrev Each : List SimpleDefinition → Type 0
  Each ds = (n : ℕ) (d : SimpleDefinition) → slice_get ds n ≡ Some d → IsHowTold ns d.place.file d.how

  one_told : (file at : ℕ) (what : What) (ps : List Part) (ds : List SimpleDefinition) → IsBehind file what ps → Within ps → Each ds → Each (of_what file at what ++ ds)
  one_told file at (part.SimpleDefinition name s) ps ds behind within each zero d is =
      let same = the_same (record { name = name; place = place file at; body = place file s.body_at; how = s.how }) d is in
      let inner : Within (in_how file s.body_at s.how) = λ p h.
      within p (subst (λ qs. HasItem qs p) (sym behind.1) (has_left (in_how file s.body_at s.how) behind.0 p h)) in
      subst (λ (e : SimpleDefinition). IsHowTold ns e.place.file e.how) same (how_told file s.body_at s.how inner)
  one_told file at (part.SimpleDefinition name s) ps ds behind within each (suc n) d is = each n d is
  one_told file at (part.ComplexDefinition name c) ps ds behind within each n d is = each n d is
  one_told file at (part.GlobalElement e) ps ds behind within each n d is = each n d is
  one_told file at (part.LocalElement e) ps ds behind within each n d is = each n d is
  one_told file at (part.ElementReference name) ps ds behind within each n d is = each n d is
  one_told file at (part.GlobalAttribute a) ps ds behind within each n d is = each n d is
  one_told file at (part.AttributeUse u) ps ds behind within each n d is = each n d is
  one_told file at (part.Particle label) ps ds behind within each n d is = each n d is
  one_told file at (part.MixedGroup label) ps ds behind within each n d is = each n d is
  one_told file at (part.TypeReference r reference) ps ds behind within each n d is = each n d is

  all_told : (ps : List Part) → Behind ps → Within ps → Each (flat_map of_part ps)
  all_told [] behind within = λ n d is. absurd cc
  all_told (p ∷ ps) behind within =
      one_told p.file p.at p.what ps (flat_map of_part ps) behind.0 (λ q h. within q (inr h)) (all_told ps behind.1 (λ q h. within q (inr h)))

pub are_told : (docs : List Document) → IsFirstSuch (HasItem (unresolved docs)) None → AreTold (simple_types docs)
are_told docs resolved = all_told (parts docs) resolved (parts docs) (parts_behind docs) (λ p h. h)
