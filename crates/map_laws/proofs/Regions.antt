-- A value of a type whose elements may stand in any order: its part with their order, and its parts for the elements.
use Rattle.std.proofs.Common.{◌≡◌, ℕ, zero, suc, ◌+◌, ◌-◌, ◌≤◌, Bool, true, false, ◌&&◌, not, Option, Some, None, List, [], ◌∷◌, ◌++◌, length, map, inl, inr, ◌⊎◌, true≢false, refl, sym, ap, subst, ◌∙◌, length-append, arith}
use Rattle.std.specs.Prelude.{slice_get, if◌then◌else◌}
use Rattle.std.specs.Option.{option_map}
use Rattle.std.proofs.lemmas.List.{append-nil}
use Rattle.base_texts.specs.declared.texts.Name.{Name}
use Rattle.base_trees.specs.Rose.{Rose, node, Roses, list_of, roses_of, label_of, kids_of, length_all}
use Rattle.base_trees.specs.Rose as rose
use Rattle.base_trees.proofs.Roses.{list_of-roses_of}
use Rattle.simple_types.specs.declared.labels.ValueLabel.{ValueLabel}
use Rattle.simple_types.specs.declared.labels.ValueLabel.TheVariants as value
use Rattle.content_models.specs.declared.particles.ParticleLabel.{ParticleLabel}
use Rattle.content_models.specs.Language.{Within}
use Rattle.content_models.specs.Particle as model
use Rattle.content_models.specs.Particle.{Particle, occurs, Term, Particles}
use Rattle.content_models.specs.Clear.{first_of_any, AreSingle, AllApart, Clear}
use Rattle.content_models.specs.Seen.{seen}
use Rattle.asn_types.specs.declared.marks.Instruction.{Instruction}
use Rattle.asn_types.specs.declared.modules.Assignment.{Assignment}
use Rattle.asn_types.specs.declared.roles.Role.{Role}
use Rattle.asn_types.specs.declared.roles.Role.TheVariants as role
use Rattle.asn_types.specs.declared.types.Component.{Component}
use Rattle.asn_types.specs.declared.types.Form.TheVariants as form
use Rattle.asn_types.specs.declared.types.TypeLabel.{TypeLabel}
use Rattle.asn_types.specs.Names.{name_of_part}
use Rattle.asn_types.specs.Refs.{resolve, is_element}
use Rattle.asn_types.specs.Roles.{role_of}
use Rattle.asn_values.specs.Ordering.{in_order}
use Rattle.asn_values.specs.Values.{ComponentPlace, place_of, put_first, present_from, below, FitsAt, is_unset, is_last_absent, flags_from, element_flags, is_order_role, item_number, numbers_in, order_of, ordered_flags}
use Rattle.schema_components.specs.declared.components.AttributeUse.{AttributeUse}
use Rattle.schema_components.specs.declared.components.ComplexDef.{ComplexDef}
use Rattle.schema_components.specs.declared.components.Content.{Content}
use Rattle.schema_components.specs.declared.components.Content.TheVariants as content_
use Rattle.schema_components.specs.Components.{Set, model_of}
use Rattle.schema_components.specs.Linked.{IsContent}
use Rattle.map_assignments.specs.Planning.{is_once, is_optional, is_mixed, is_all, is_ordered}
use Rattle.map_assignments.specs.Naming.{type_label, sequence_marks}
use Rattle.map_assignments.proofs.Marked.{sequence-nil}
use Rattle.map_assignments.proofs.Resolving.{follow-none}
use Rattle.map_laws.specs.Children.{Child, child_of, given_by, put_in_order, children}
use Rattle.map_laws.specs.Standing.{Behind, IsPart, once, at_most_once, several, is_parted, HasTerm, ArePartsOf, IsTop, parted, ordered, whole, IsOnly, IsInner, WithTexts, AreOrder, WithOrder, count_particles, count_elements, order_count, WithAttributes, AreContent, HasParts, HasInner, AreRest}
use Rattle.map_laws.proofs.NamedSlots.{picked}
use Rattle.map_laws.proofs.Values.{gives, present_children, FitsPart, PartsFit, sequence-value, list-value}
use Rattle.map_laws.proofs.Following.{within}

-- ---- the elements of an all

abbrev pub elements_of : Particle → Particles
elements_of (occurs (model.element d a) least most) = model.none
elements_of (occurs (model.sequence ps) least most) = model.none
elements_of (occurs (model.choice ps) least most) = model.none
elements_of (occurs (model.all ps) least most) = ps

pub elements-single : (p : Particle) → Clear p [] → is_all p ≡ true → AreSingle (elements_of p) × AllApart (elements_of p)
elements-single (occurs (model.element d a) least most) clear e = absurd cc
elements-single (occurs (model.sequence ps) least most) clear e = absurd cc
elements-single (occurs (model.choice ps) least most) clear e = absurd cc
elements-single (occurs (model.all ps) least most) clear e = (clear.3.4, clear.3.5)

all-parted : (t : Term) (least : ℕ) (most : Option ℕ) → is_all (occurs t least most) ≡ true → is_parted t least most ≡ false → ⊥
all-parted (model.element d a) least most e f = cc
all-parted (model.sequence ps) least most e f = cc
all-parted (model.choice ps) least most e f = cc
all-parted (model.all ps) least most e f = cc

never-sequence : (ps : Particles) (least : ℕ) (most : Option ℕ) → is_all (occurs (model.sequence ps) least most) ≡ true → ⊥
never-sequence ps least most e = cc

-- where an all is the top, its elements are parts
pub top-elements : (E : ℕ → Rose TypeLabel → Type 0) (p : Particle) → is_all p ≡ true → (l : TypeLabel) (i : ℕ) (cs : List Component) (us : List (Rose TypeLabel)) → IsTop E p l i cs us
    → ArePartsOf E l false (elements_of p) i cs us
top-elements E p e l i cs us (parted ps is g) = absurd (never-sequence ps 1 (Some 1) (sym (ap is_all is) ∙ e))
top-elements E p e l i cs us (ordered ps is single g) = subst (λ qs. ArePartsOf E l false qs i cs us) (sym (ap elements_of is)) g
top-elements E p e l i cs us (whole t least most is in_one g) = absurd (all-parted t least most (sym (ap is_all is) ∙ e) in_one)

pub single-elements : (s : Set) (c : Content) → IsContent s c → (particle : Rose ParticleLabel) → model_of c ≡ Some particle → is_ordered c ≡ true
    → (is_all (seen particle) ≡ true) × AreSingle (elements_of (seen particle)) × AllApart (elements_of (seen particle))
single-elements s content_.Empty ok particle is e = absurd cc
single-elements s (content_.Simple n) ok particle is e = absurd cc
single-elements s (content_.ElementOnly p) ok particle is e =
    let same : p ≡ particle = cc in
    let both = elements-single (seen p) ok.clear e in
    subst (λ q. (is_all (seen q) ≡ true) × AreSingle (elements_of (seen q)) × AllApart (elements_of (seen q))) same (e, both.0, both.1)
single-elements s (content_.Mixed p) ok particle is e =
    let same : p ≡ particle = cc in
    let both = elements-single (seen p) ok.clear e in
    subst (λ q. (is_all (seen q) ≡ true) × AreSingle (elements_of (seen q)) × AllApart (elements_of (seen q))) same (e, both.0, both.1)

-- as many as there are names
elements-count : (ps : Particles) → AreSingle ps → length (first_of_any ps) ≡ count_particles ps
elements-count model.none s = refl
elements-count (model.more (occurs (model.element d a) least most) ps) s = ap suc (elements-count ps s.1)
elements-count (model.more (occurs (model.sequence qs) least most) ps) s = absurd s.0.0
elements-count (model.more (occurs (model.choice qs) least most) ps) s = absurd s.0.0
elements-count (model.more (occurs (model.all qs) least most) ps) s = absurd s.0.0

names-count : (p : Particle) → AreSingle (elements_of p) → length (first_of_any (elements_of p)) ≡ count_elements p
names-count (occurs (model.element d a) least most) s = refl
names-count (occurs (model.sequence ps) least most) s = refl
names-count (occurs (model.choice ps) least most) s = refl
names-count (occurs (model.all ps) least most) s = elements-count ps s

pub elements-many : (c : Content) (particle : Rose ParticleLabel) → model_of c ≡ Some particle → AreSingle (elements_of (seen particle)) → length (first_of_any (elements_of (seen particle))) ≡ order_count c
elements-many content_.Empty particle is single = absurd cc
elements-many (content_.Simple n) particle is single = absurd cc
elements-many (content_.ElementOnly p) particle is single = let same : p ≡ particle = cc in names-count (seen particle) single ∙ ap (λ q. count_elements (seen q)) (sym same)
elements-many (content_.Mixed p) particle is single = let same : p ≡ particle = cc in names-count (seen particle) single ∙ ap (λ q. count_elements (seen q)) (sym same)

-- ---- what is told

pub plainly-told : {A : Type 0} (b : Bool) (flags : List Bool) (numbers : List ℕ) (xs : List A) → b ≡ false → put_in_order b flags numbers xs ≡ xs
plainly-told false flags numbers xs e = refl
plainly-told true flags numbers xs e = absurd cc

pub in-order-told : {A : Type 0} (b : Bool) (flags : List Bool) (numbers : List ℕ) (xs : List A) → b ≡ true → put_in_order b flags numbers xs ≡ in_order flags numbers xs
in-order-told true flags numbers xs e = refl
in-order-told false flags numbers xs e = absurd cc

-- ---- lists

module _ {A : Type 0} where
  at-end : (ys : List A) (x : A) → slice_get (ys ++ x ∷ []) (length ys) ≡ Some x
  at-end [] x = refl
  at-end (y ∷ ys) x = at-end ys x

  last-at : (xs : List A) (x : A) → slice_get (xs ++ x ∷ []) (length (xs ++ x ∷ []) - 1) ≡ Some x
  last-at xs x =
      let many = length-append xs (x ∷ []) in
      let place : length (xs ++ x ∷ []) - 1 ≡ length xs = omega (arith, many) in
      ap (slice_get (xs ++ x ∷ [])) place ∙ at-end xs x

-- ---- the numbers of the order, part by part

abbrev pub numbers_of : TypeLabel → ℕ → List Component → List Bool → Roses ValueLabel → List ℕ
numbers_of l i (c ∷ cs) (true ∷ flags) (rose.more v vs) = if is_order_role (role_of l i c) then map item_number (kids_of v) else numbers_of l (i + 1) cs flags vs
numbers_of l i (c ∷ cs) (false ∷ flags) vs = numbers_of l (i + 1) cs flags vs
numbers_of _ _ _ _ _ = []

module _ (M : List Assignment) (depth : ℕ) where
  present-numbers : (l : TypeLabel) (cs : List Component) (i : ℕ) (us : List (Rose TypeLabel)) (flags : List Bool) (vs : Roses ValueLabel) → PartsFit M depth l i cs us flags vs
      → (ps : List ComponentPlace) × (present_from l i cs us flags ≡ Some ps) × (numbers_in ps (list_of vs) ≡ numbers_of l i cs flags vs)
  present-numbers l [] i us [] rose.none h = ([], refl, refl)
  present-numbers l [] i us [] (rose.more v vs) h = absurd h
  present-numbers l [] i us (flag ∷ flags) vs h = absurd h
  present-numbers l (c ∷ cs) i [] flags vs h = absurd h
  present-numbers l (c ∷ cs) i (u ∷ us) [] vs h = absurd h
  present-numbers l (c ∷ cs) i (u ∷ us) (true ∷ flags) rose.none h = absurd h
  present-numbers l (c ∷ cs) i (u ∷ us) (true ∷ flags) (rose.more v vs) h =
      let rest = present-numbers l cs (i + 1) us flags vs h.1 in
      (place_of l i c u ∷ rest.0, ap (put_first (place_of l i c u)) rest.1, ap (λ ns. if is_order_role (role_of l i c) then map item_number (kids_of v) else ns) rest.2)
  present-numbers l (c ∷ cs) i (u ∷ us) (false ∷ flags) vs h =
      let rest = present-numbers l cs (i + 1) us flags vs h.1 in
      (rest.0, ap (λ (b : Bool). if b then present_from l (i + 1) cs us flags else None) h.0 ∙ rest.1, rest.2)

  -- those of a SEQUENCE
  pub order-is : (marks : List Instruction) (cs : List Component) (us : Roses TypeLabel) (flags : List Bool) (vs : Roses ValueLabel)
      → PartsFit M depth (type_label (form.Sequence cs) marks) 0 cs (list_of us) flags vs
      → order_of (node (type_label (form.Sequence cs) marks) us) (node (value.Sequence flags) vs) ≡ numbers_of (type_label (form.Sequence cs) marks) 0 cs flags vs
  order-is marks cs us flags vs h =
      let rest = present-numbers (type_label (form.Sequence cs) marks) cs 0 (list_of us) flags vs h in
      ap (λ o. elim o as (λ _. List ℕ) [ None ↦ [] | Some ps ↦ numbers_in ps (list_of vs) ]) rest.1 ∙ rest.2

module _ (M : List Assignment) (E : ℕ → Rose TypeLabel → Type 0) (depth : ℕ) where
  -- ---- elements that occur once at most

  -- the part for one is an element, where a value fits it or it may be absent
  single-stands : (l : TypeLabel) (i : ℕ) (d : ℕ) (a : Name) (least : ℕ) (most : Option ℕ) (c : Component) (u : Rose TypeLabel) → IsPart l i false (model.element d a) least most (HasTerm E (model.element d a)) c u
      → most ≡ Some 1 → ((v : Rose ValueLabel) × FitsPart M depth l i c u v) ⊎ (c.optional ≡ true) → (role_of l i c ≡ role.Element) × (name_of_part c ≡ a)
  single-stands l i d a least most c u (once e g stands has) m h = (stands.0.role, stands.1)
  single-stands l i d a least most c u (at_most_once no_choice e g stands has) m h = (stands.0.role, stands.1)
  single-stands l i d a least most c u (several more_than_one never_optional is list) m (inr absent) = absurd (true≢false (sym absent ∙ is.absent))
  single-stands l i d a least most c u (several more_than_one never_optional is list) m (inl present) =
      let v = present.0 in
      let fits : FitsAt M depth u v = subst (λ r. FitsAt M (below r depth) u v) is.role present.1 in
      let items = list-value M depth [] list.item list.type least most v (subst (λ x. FitsAt M depth x v) list.is fits) in
      let bounds : (least ≤ length_all items.values) × (length_all items.values ≤ 1) =
      subst (λ o. Within least o (length_all items.values)) m (within least most (length_all items.values) items.least_is items.most_is) in
      absurd (by least (omega (arith, bounds.0, bounds.1)) (ap (is_once least) (sym m) ∙ more_than_one) (ap (λ o. is_optional least o && not false) (sym m) ∙ never_optional))
    where
      by : (k : ℕ) → k ≤ 1 → is_once k (Some 1) ≡ false → (is_optional k (Some 1) && not false) ≡ false → ⊥
      by zero few e f = cc
      by (suc zero) few e f = cc
      by (suc (suc k)) few e f = omega (arith, few)

  abbrev name_of : Child → Name
  name_of c = c.name

  -- Its parts tell which of their names there are.
  pub singles-named : (ps : Particles) → AreSingle ps → (l : TypeLabel) (i : ℕ) (cs : List Component) (us : List (Rose TypeLabel)) (flags : List Bool) (vs : Roses ValueLabel)
      → ArePartsOf E l false ps i cs us → PartsFit M depth l i cs us flags vs
      → (length flags ≡ length (first_of_any ps)) × (flags_from l i cs flags ≡ flags) × (map name_of (present_children M l i cs us flags vs) ≡ picked flags (first_of_any ps))
  singles-named model.none s l i [] [] [] rose.none g h = (refl, refl, refl)
  singles-named model.none s l i [] [] [] (rose.more v vs) g h = absurd h
  singles-named model.none s l i [] [] (flag ∷ flags) vs g h = absurd h
  singles-named model.none s l i [] (u ∷ us) flags vs g h = absurd g
  singles-named model.none s l i (c ∷ cs) us flags vs g h = absurd g
  singles-named (model.more (occurs (model.sequence qs) least most) ps) s l i cs us flags vs g h = absurd s.0.0
  singles-named (model.more (occurs (model.choice qs) least most) ps) s l i cs us flags vs g h = absurd s.0.0
  singles-named (model.more (occurs (model.all qs) least most) ps) s l i cs us flags vs g h = absurd s.0.0
  singles-named (model.more (occurs (model.element d a) least most) ps) s l i [] us flags vs g h = absurd g
  singles-named (model.more (occurs (model.element d a) least most) ps) s l i (c ∷ cs) [] flags vs g h = absurd g
  singles-named (model.more (occurs (model.element d a) least most) ps) s l i (c ∷ cs) (u ∷ us) [] vs g h = absurd h
  singles-named (model.more (occurs (model.element d a) least most) ps) s l i (c ∷ cs) (u ∷ us) (true ∷ flags) rose.none g h = absurd h
  singles-named (model.more (occurs (model.element d a) least most) ps) s l i (c ∷ cs) (u ∷ us) (true ∷ flags) (rose.more v vs) g h =
      let is = single-stands l i d a least most c u g.0 s.0.1 (inl (v, h.0)) in
      let rest = singles-named ps s.1 l (i + 1) cs us flags vs g.1 h.1 in (
        ap suc rest.0,
        ap (λ r. if is_element r then true ∷ flags_from l (i + 1) cs flags else flags_from l (i + 1) cs flags) is.0 ∙ ap (λ f. true ∷ f) rest.1,
        ap (λ r. map name_of (given_by r (child_of c u v) (children M u v) ++ present_children M l (i + 1) cs us flags vs)) is.0
            ∙ ap (λ n. n ∷ map name_of (present_children M l (i + 1) cs us flags vs)) is.1 ∙ ap (λ ns. a ∷ ns) rest.2,
      )
  singles-named (model.more (occurs (model.element d a) least most) ps) s l i (c ∷ cs) (u ∷ us) (false ∷ flags) vs g h =
      let is = single-stands l i d a least most c u g.0 s.0.1 (inr h.0) in
      let rest = singles-named ps s.1 l (i + 1) cs us flags vs g.1 h.1 in (
        ap suc rest.0,
        ap (λ r. if is_element r then false ∷ flags_from l (i + 1) cs flags else flags_from l (i + 1) cs flags) is.0 ∙ ap (λ f. false ∷ f) rest.1,
        rest.2,
      )

  -- ---- what stands behind parts that are no elements

  pub record Passed (l : TypeLabel) (R : Behind) (i : ℕ) (cs : List Component) (us : List (Rose TypeLabel)) (flags : List Bool) (vs : Roses ValueLabel) : Type 0 where
    pub place : ℕ
    pub parts : List Component
    pub types : List (Rose TypeLabel)
    pub left : List Bool
    pub values : Roses ValueLabel
    pub has : R place parts types
    pub fit : PartsFit M depth l place parts types left values
    pub gives_same : present_children M l i cs us flags vs ≡ present_children M l place parts types left values
    pub flags_same : flags_from l i cs flags ≡ flags_from l place parts left
    pub flags_before : List Bool
    pub flags_are : flags ≡ flags_before ++ left
    pub values_before : List (Rose ValueLabel)
    pub values_are : list_of vs ≡ values_before ++ list_of values
    pub types_before : List (Rose TypeLabel)
    pub types_are : us ≡ types_before ++ types
    pub many : length cs ≡ length types_before + length parts

  none-passed : (l : TypeLabel) (R : Behind) (i : ℕ) (cs : List Component) (us : List (Rose TypeLabel)) (flags : List Bool) (vs : Roses ValueLabel) → R i cs us → PartsFit M depth l i cs us flags vs
      → Passed l R i cs us flags vs
  none-passed l R i cs us flags vs g h = record {
    place = i;
    parts = cs;
    types = us;
    left = flags;
    values = vs;
    has = g;
    fit = h;
    gives_same = refl;
    flags_same = refl;
    flags_before = [];
    flags_are = refl;
    values_before = [];
    values_are = refl;
    types_before = [];
    types_are = refl;
    many = omega arith;
  }

  -- a part with such a role is passed
  one-passed : (l : TypeLabel) (R : Behind) (i : ℕ) (c : Component) (u : Rose TypeLabel) (r : Role) → role_of l i c ≡ r → ((own : Child) (inner : List Child) → given_by r own inner ≡ []) → is_element r ≡ false
      → (cs : List Component) (us : List (Rose TypeLabel)) (flags : List Bool) (vs : Roses ValueLabel) → PartsFit M depth l i (c ∷ cs) (u ∷ us) flags vs
      → ((f : List Bool) (ws : Roses ValueLabel) → PartsFit M depth l (i + 1) cs us f ws → Passed l R (i + 1) cs us f ws) → Passed l R i (c ∷ cs) (u ∷ us) flags vs
  one-passed l R i c u r is nothing plain cs us [] vs h k = absurd h
  one-passed l R i c u r is nothing plain cs us (true ∷ flags) rose.none h k = absurd h
  one-passed l R i c u r is nothing plain cs us (true ∷ flags) (rose.more v vs) h k =
      let p = k flags vs h.1 in
      let rest = present_children M l (i + 1) cs us flags vs in
      record {
        place = p.place;
        parts = p.parts;
        types = p.types;
        left = p.left;
        values = p.values;
        has = p.has;
        fit = p.fit;
        gives_same = ap (λ x. given_by x (child_of c u v) (children M u v) ++ rest) is ∙ ap (λ x. x ++ rest) (nothing (child_of c u v) (children M u v)) ∙ p.gives_same;
        flags_same = ap (λ x. if is_element x then true ∷ flags_from l (i + 1) cs flags else flags_from l (i + 1) cs flags) is
            ∙ ap (λ (b : Bool). if b then true ∷ flags_from l (i + 1) cs flags else flags_from l (i + 1) cs flags) plain ∙ p.flags_same;
        flags_before = true ∷ p.flags_before;
        flags_are = ap (λ f. true ∷ f) p.flags_are;
        values_before = v ∷ p.values_before;
        values_are = ap (λ ws. v ∷ ws) p.values_are;
        types_before = u ∷ p.types_before;
        types_are = ap (λ ts. u ∷ ts) p.types_are;
        many = let m = p.many in omega (arith, m);
      }
  one-passed l R i c u r is nothing plain cs us (false ∷ flags) vs h k =
      let p = k flags vs h.1 in
      record {
        place = p.place;
        parts = p.parts;
        types = p.types;
        left = p.left;
        values = p.values;
        has = p.has;
        fit = p.fit;
        gives_same = p.gives_same;
        flags_same = ap (λ x. if is_element x then false ∷ flags_from l (i + 1) cs flags else flags_from l (i + 1) cs flags) is
            ∙ ap (λ (b : Bool). if b then false ∷ flags_from l (i + 1) cs flags else flags_from l (i + 1) cs flags) plain ∙ p.flags_same;
        flags_before = false ∷ p.flags_before;
        flags_are = ap (λ f. false ∷ f) p.flags_are;
        values_before = p.values_before;
        values_are = p.values_are;
        types_before = u ∷ p.types_before;
        types_are = ap (λ ts. u ∷ ts) p.types_are;
        many = let m = p.many in omega (arith, m);
      }

  attributes-passed : (s : Set) (l : TypeLabel) (R : Behind) (ds : List AttributeUse) (i : ℕ) (cs : List Component) (us : List (Rose TypeLabel)) (flags : List Bool) (vs : Roses ValueLabel)
      → WithAttributes s M l R ds i cs us → PartsFit M depth l i cs us flags vs → Passed l R i cs us flags vs
  attributes-passed s l R [] i cs us flags vs g h = none-passed l R i cs us flags vs g h
  attributes-passed s l R (d ∷ ds) i [] us flags vs g h = absurd g
  attributes-passed s l R (d ∷ ds) i (c ∷ cs) [] flags vs g h = absurd g
  attributes-passed s l R (d ∷ ds) i (c ∷ cs) (u ∷ us) flags vs g h =
      one-passed l R i c u role.Attribute g.0.is.role (λ own inner. refl) refl cs us flags vs h (λ f ws k. attributes-passed s l R ds (i + 1) cs us f ws g.1 k)

  -- ---- the order, and what stands behind it

  pub record Told (count : ℕ) (l : TypeLabel) (R : Behind) (i : ℕ) (cs : List Component) (us : List (Rose TypeLabel)) (flags : List Bool) (vs : Roses ValueLabel) : Type 0 where
    pub order : Rose ValueLabel
    pub type : Rose TypeLabel
    pub has_type : AreOrder count type
    pub fits : FitsAt M depth type order
    pub numbers : numbers_of l i cs flags vs ≡ map item_number (kids_of order)
    pub behind : Passed l R i cs us flags vs

  order-told : (count : ℕ) (l : TypeLabel) (Q R : Behind) (i : ℕ) (cs : List Component) (us : List (Rose TypeLabel)) (flags : List Bool) (vs : Roses ValueLabel)
      → WithOrder true count l Q i cs us → PartsFit M depth l i cs us flags vs
      → ((j : ℕ) (ds : List Component) (ts : List (Rose TypeLabel)) (f : List Bool) (ws : Roses ValueLabel) → Q j ds ts → PartsFit M depth l j ds ts f ws → Passed l R j ds ts f ws)
      → Told count l R i cs us flags vs
  order-told count l Q R i [] us flags vs g h k = absurd g
  order-told count l Q R i (c ∷ cs) [] flags vs g h k = absurd g
  order-told count l Q R i (c ∷ cs) (u ∷ us) [] vs g h k = absurd h
  order-told count l Q R i (c ∷ cs) (u ∷ us) (false ∷ flags) vs g h k = absurd (true≢false (sym h.0 ∙ g.0.is.absent))
  order-told count l Q R i (c ∷ cs) (u ∷ us) (true ∷ flags) rose.none g h k = absurd h
  order-told count l Q R i (c ∷ cs) (u ∷ us) (true ∷ flags) (rose.more v vs) g h k = record {
    order = v;
    type = u;
    has_type = g.0.type;
    fits = subst (λ r. FitsAt M (below r depth) u v) g.0.is.role h.0;
    numbers = ap (λ r. if is_order_role r then map item_number (kids_of v) else numbers_of l (i + 1) cs flags vs) g.0.is.role;
    behind = one-passed l R i c u role.Order g.0.is.role (λ own inner. refl) refl cs us (true ∷ flags) (rose.more v vs) h (λ f ws m. k (i + 1) cs us f ws g.1 m);
  }

  texts-told : (mixed : Bool) (count : ℕ) (l : TypeLabel) (Q R : Behind) (i : ℕ) (cs : List Component) (us : List (Rose TypeLabel)) (flags : List Bool) (vs : Roses ValueLabel)
      → WithTexts mixed l Q i cs us → PartsFit M depth l i cs us flags vs
      → ((j : ℕ) (ds : List Component) (ts : List (Rose TypeLabel)) (f : List Bool) (ws : Roses ValueLabel) → Q j ds ts → PartsFit M depth l j ds ts f ws → Told count l R j ds ts f ws)
      → Told count l R i cs us flags vs
  texts-told false count l Q R i cs us flags vs g h k = k i cs us flags vs g h
  texts-told true count l Q R i [] us flags vs g h k = absurd g
  texts-told true count l Q R i (c ∷ cs) [] flags vs g h k = absurd g
  texts-told true count l Q R i (c ∷ cs) (u ∷ us) [] vs g h k = absurd h
  texts-told true count l Q R i (c ∷ cs) (u ∷ us) (false ∷ flags) vs g h k = absurd (true≢false (sym h.0 ∙ g.0.is.absent))
  texts-told true count l Q R i (c ∷ cs) (u ∷ us) (true ∷ flags) rose.none g h k = absurd h
  texts-told true count l Q R i (c ∷ cs) (u ∷ us) (true ∷ flags) (rose.more v vs) g h k =
      let t = k (i + 1) cs us flags vs g.1 h.1 in
      record {
        order = t.order;
        type = t.type;
        has_type = t.has_type;
        fits = t.fits;
        numbers = ap (λ r. if is_order_role r then map item_number (kids_of v) else numbers_of l (i + 1) cs flags vs) g.0.is.role ∙ t.numbers;
        behind = one-passed l R i c u role.Embed g.0.is.role (λ own inner. refl) refl cs us (true ∷ flags) (rose.more v vs) h (λ f ws m. (k (i + 1) cs us f ws g.1 m).behind);
      }

  -- of all parts of a type whose elements may stand in any order
  pub all-told : (s : Set) (nillable : Bool) (c : ComplexDef) (l : TypeLabel) (cs : List Component) (us : List (Rose TypeLabel)) (flags : List Bool) (vs : Roses ValueLabel)
      → WithTexts (is_mixed c.content) l (WithOrder true (order_count c.content) l (WithAttributes s M l (AreRest E s M nillable c.content l) c.uses)) 0 cs us → PartsFit M depth l 0 cs us flags vs
      → Told (order_count c.content) l (AreRest E s M nillable c.content l) 0 cs us flags vs
  all-told s nillable c l cs us flags vs g h =
      let R = AreRest E s M nillable c.content l in
      let count = order_count c.content in
      let Q = WithAttributes s M l R c.uses in
      texts-told (is_mixed c.content) count l (WithOrder true count l Q) R 0 cs us flags vs g h
      (λ j ds ts f ws k m. order-told count l Q R j ds ts f ws k m (λ j2 ds2 ts2 f2 ws2 k2 m2. attributes-passed s l R c.uses j2 ds2 ts2 f2 ws2 k2 m2))

  -- ---- the elements

  -- the parts for the elements of an all: of the type itself, or of its content
  pub record Region (p : Particle) (found : Rose TypeLabel) (v : Rose ValueLabel) (raw : List Child) : Type 0 where
    pub label : TypeLabel
    pub place : ℕ
    pub parts : List Component
    pub types : List (Rose TypeLabel)
    pub flags : List Bool
    pub values : Roses ValueLabel
    pub are : ArePartsOf E label false (elements_of p) place parts types
    pub fit : PartsFit M depth label place parts types flags values
    pub gives_same : raw ≡ present_children M label place parts types flags values
    pub told : ordered_flags M (label_of found) found v ≡ flags

  -- no elements where an element is nil
  abbrev pub IsNone : Rose TypeLabel → Rose ValueLabel → List Child → Type 0
  IsNone found v raw = (ordered_flags M (label_of found) found v ≡ []) × (raw ≡ [])

  abbrev flags_for : Option TypeLabel → Option ValueLabel → List Bool
  flags_for o x = elim o [ None ↦ [] | Some inner ↦ elim x [ None ↦ [] | Some w ↦ element_flags inner w ] ]

  flags-of-none : (o : Option TypeLabel) (x : Option ValueLabel) → x ≡ None → flags_for o x ≡ []
  flags-of-none None x e = refl
  flags-of-none (Some inner) x e = ap (λ y. elim y as (λ _. List Bool) [ None ↦ [] | Some w ↦ element_flags inner w ]) e

  module _ (s : Set) (c : Content) (ok : IsContent s c) (particle : Rose ParticleLabel) (is : model_of c ≡ Some particle) (all : is_all (seen particle) ≡ true) where
    content-elements : (l : TypeLabel) (i : ℕ) (cs : List Component) (us : List (Rose TypeLabel)) → AreContent E s M c l i cs us → ArePartsOf E l false (elements_of (seen particle)) i cs us
    content-elements l i cs us g = by c is g
      where
        by : (k : Content) → model_of k ≡ Some particle → AreContent E s M k l i cs us → ArePartsOf E l false (elements_of (seen particle)) i cs us
        by content_.Empty e h = absurd cc
        by (content_.Simple n) e h = absurd cc
        by (content_.ElementOnly q) e h =
            let same : q ≡ particle = cc in
            top-elements E (seen particle) all l i cs us (subst (λ x. IsTop E (seen x) l i cs us) same h)
        by (content_.Mixed q) e h =
            let same : q ≡ particle = cc in
            top-elements E (seen particle) all l i cs us (subst (λ x. IsTop E (seen x) l i cs us) same h)

    inner-parts : (u : Rose TypeLabel) → HasInner E s M c u → HasParts E s M c u
    inner-parts u h = by c is h
      where
        by : (k : Content) → model_of k ≡ Some particle → HasInner E s M k u → HasParts E s M k u
        by content_.Empty e h = absurd cc
        by (content_.Simple n) e h = absurd cc
        by (content_.ElementOnly q) e h = h
        by (content_.Mixed q) e h = h

    single : AreSingle (elements_of (seen particle))
    single = by c ok is
      where
        by : (k : Content) → IsContent s k → model_of k ≡ Some particle → AreSingle (elements_of (seen particle))
        by content_.Empty o e = absurd cc
        by (content_.Simple n) o e = absurd cc
        by (content_.ElementOnly q) o e =
            let same : q ≡ particle = cc in
            (elements-single (seen particle) (subst (λ x. Clear (seen x) []) same o.clear) all).0
        by (content_.Mixed q) o e =
            let same : q ≡ particle = cc in
            (elements-single (seen particle) (subst (λ x. Clear (seen x) []) same o.clear) all).0

    module _ (mixed : Bool) (cs : List Component) (us : Roses TypeLabel) (flags : List Bool) (vs : Roses ValueLabel) where
      -- of an element that may not be nil
      plain-region : Passed (type_label (form.Sequence cs) (sequence_marks false mixed true)) (AreContent E s M c (type_label (form.Sequence cs) (sequence_marks false mixed true))) 0 cs (list_of us) flags vs
          → Region (seen particle) (node (type_label (form.Sequence cs) (sequence_marks false mixed true)) us) (node (value.Sequence flags) vs)
          (present_children M (type_label (form.Sequence cs) (sequence_marks false mixed true)) 0 cs (list_of us) flags vs)
      plain-region p =
          let l = type_label (form.Sequence cs) (sequence_marks false mixed true) in
          let found = node l us in
          let v = node (value.Sequence flags) vs in
          let are = content-elements l p.place p.parts p.types p.has in
          let named = singles-named (elements_of (seen particle)) single l p.place p.parts p.types p.left p.values are p.fit in
          let no_nil = sequence-nil false mixed true in
          record {
            label = l;
            place = p.place;
            parts = p.parts;
            types = p.types;
            flags = p.left;
            values = p.values;
            are = are;
            fit = p.fit;
            gives_same = p.gives_same;
            told =
                ap (λ (b : Bool). flags_for (if b then option_map (λ t. label_of (resolve M t)) (slice_get (list_of (roses_of (kids_of found))) (length cs - 1)) else Some l)
                (if b then (if is_last_absent (label_of v) then None else option_map label_of (slice_get (kids_of v) (length (kids_of v) - 1))) else Some (label_of v))) no_nil
                ∙ p.flags_same ∙ named.1;
          }

      -- of one that may be nil
      nillable-region : Passed (type_label (form.Sequence cs) (sequence_marks true mixed true)) (AreRest E s M true c (type_label (form.Sequence cs) (sequence_marks true mixed true))) 0 cs (list_of us) flags vs
          → Region (seen particle) (node (type_label (form.Sequence cs) (sequence_marks true mixed true)) us) (node (value.Sequence flags) vs)
          (present_children M (type_label (form.Sequence cs) (sequence_marks true mixed true)) 0 cs (list_of us) flags vs)
          ⊎ IsNone (node (type_label (form.Sequence cs) (sequence_marks true mixed true)) us) (node (value.Sequence flags) vs)
          (present_children M (type_label (form.Sequence cs) (sequence_marks true mixed true)) 0 cs (list_of us) flags vs)
      nillable-region p = by p.parts p.types p.left p.values p.has p.fit p.gives_same p.flags_are p.values_are p.types_are p.many
        where
          -- by the content's type and value
          flags-found : (o : Option TypeLabel) (x : Option ValueLabel)
              → option_map (λ t. label_of (resolve M t)) (slice_get (list_of (roses_of (list_of us))) (length cs - 1)) ≡ o
              → (if is_last_absent (value.Sequence flags) then None else option_map label_of (slice_get (list_of vs) (length (list_of vs) - 1))) ≡ x
              → ordered_flags M (type_label (form.Sequence cs) (sequence_marks true mixed true)) (node (type_label (form.Sequence cs) (sequence_marks true mixed true)) us) (node (value.Sequence flags) vs)
              ≡ flags_for o x
          flags-found o x e f =
              ap (λ (b : Bool). flags_for (if b then option_map (λ t. label_of (resolve M t)) (slice_get (list_of (roses_of (list_of us))) (length cs - 1)) else Some (type_label (form.Sequence cs) (sequence_marks true mixed true)))
              (if b then (if is_last_absent (value.Sequence flags) then None else option_map label_of (slice_get (list_of vs) (length (list_of vs) - 1))) else Some (value.Sequence flags)))
              (sequence-nil true mixed true)
              ∙ ap (λ y. flags_for y (if is_last_absent (value.Sequence flags) then None else option_map label_of (slice_get (list_of vs) (length (list_of vs) - 1)))) e
              ∙ ap (flags_for o) f

          by : (ds : List Component) (ts : List (Rose TypeLabel)) (f : List Bool) (ws : Roses ValueLabel)
              → IsOnly (IsInner (HasInner E s M c) (type_label (form.Sequence cs) (sequence_marks true mixed true)) p.place) ds ts
              → PartsFit M depth (type_label (form.Sequence cs) (sequence_marks true mixed true)) p.place ds ts f ws
              → present_children M (type_label (form.Sequence cs) (sequence_marks true mixed true)) 0 cs (list_of us) flags vs
              ≡ present_children M (type_label (form.Sequence cs) (sequence_marks true mixed true)) p.place ds ts f ws
              → flags ≡ p.flags_before ++ f → list_of vs ≡ p.values_before ++ list_of ws → list_of us ≡ p.types_before ++ ts → length cs ≡ length p.types_before + length ds
              → Region (seen particle) (node (type_label (form.Sequence cs) (sequence_marks true mixed true)) us) (node (value.Sequence flags) vs)
              (present_children M (type_label (form.Sequence cs) (sequence_marks true mixed true)) 0 cs (list_of us) flags vs)
              ⊎ IsNone (node (type_label (form.Sequence cs) (sequence_marks true mixed true)) us) (node (value.Sequence flags) vs)
              (present_children M (type_label (form.Sequence cs) (sequence_marks true mixed true)) 0 cs (list_of us) flags vs)
          by [] ts f ws g h same ff fv fu many = absurd g
          by (d ∷ e ∷ ds) ts f ws g h same ff fv fu many = absurd g
          by (d ∷ []) [] f ws g h same ff fv fu many = absurd g
          by (d ∷ []) (t ∷ e ∷ ts) f ws g h same ff fv fu many = absurd g
          by (d ∷ []) (t ∷ []) [] ws g h same ff fv fu many = absurd h
          by (d ∷ []) (t ∷ []) (true ∷ f) rose.none g h same ff fv fu many = absurd h
          by (d ∷ []) (t ∷ []) (true ∷ b ∷ f) (rose.more w ws) g h same ff fv fu many = absurd h.1
          by (d ∷ []) (t ∷ []) (false ∷ b ∷ f) ws g h same ff fv fu many = absurd h.1
          by (d ∷ []) (t ∷ []) (true ∷ []) (rose.more w (rose.more x ws)) g h same ff fv fu many = absurd h.1
          by (d ∷ []) (t ∷ []) (false ∷ []) (rose.more x ws) g h same ff fv fu many = absurd h.1
          by (d ∷ []) (t ∷ []) (false ∷ []) rose.none g h same ff fv fu many =
              let last : is_last_absent (value.Sequence flags) ≡ true =
              ap (λ z. is_unset (slice_get z (length z - 1))) ff ∙ ap is_unset (last-at p.flags_before false) in
              let o = option_map (λ t. label_of (resolve M t)) (slice_get (list_of (roses_of (list_of us))) (length cs - 1)) in
              let x = if is_last_absent (value.Sequence flags) then None else option_map label_of (slice_get (list_of vs) (length (list_of vs) - 1)) in
              let none : x ≡ None = ap (λ (b : Bool). if b then None else option_map label_of (slice_get (list_of vs) (length (list_of vs) - 1))) last in
              inr (flags-found o x refl refl ∙ flags-of-none o x none, same)
          by (d ∷ []) (t ∷ []) (true ∷ []) (rose.more w rose.none) g h same ff fv fu many =
              let last : is_last_absent (value.Sequence flags) ≡ false =
              ap (λ z. is_unset (slice_get z (length z - 1))) ff ∙ ap is_unset (last-at p.flags_before true) in
              let has = inner-parts t g.type in
              let inner = type_label (form.Sequence has.0) [] in
              let fits : FitsAt M depth t w = subst (λ r. FitsAt M (below r depth) t w) g.is.role h.0 in
              let made = sequence-value M depth [] has.0 has.1 w (subst (λ z. FitsAt M depth z w) has.2 fits) in
              let place : length cs - 1 ≡ length p.types_before = omega (arith, many) in
              let type_at : slice_get (list_of (roses_of (list_of us))) (length cs - 1) ≡ Some t =
              ap (λ z. slice_get z (length cs - 1)) (list_of-roses_of (list_of us) ∙ fu)
              ∙ ap (slice_get (p.types_before ++ t ∷ [])) (place ∙ sym (omega (arith, length-append p.types_before (t ∷ [])))) ∙ last-at p.types_before t in
              let stays : label_of (resolve M t) ≡ inner = ap (λ z. label_of (resolve M z)) has.2 ∙ ap label_of (follow-none M 4 (node inner has.1) refl) in
              let found : option_map (λ z. label_of (resolve M z)) (slice_get (list_of (roses_of (list_of us))) (length cs - 1)) ≡ Some inner =
              ap (option_map (λ z. label_of (resolve M z))) type_at ∙ ap Some stays in
              let value_at : (if is_last_absent (value.Sequence flags) then None else option_map label_of (slice_get (list_of vs) (length (list_of vs) - 1))) ≡ Some (value.Sequence made.flags) =
              ap (λ (b : Bool). if b then None else option_map label_of (slice_get (list_of vs) (length (list_of vs) - 1))) last
              ∙ ap (λ z. option_map label_of (slice_get z (length z - 1))) fv ∙ ap (option_map label_of) (last-at p.values_before w) ∙ ap (λ z. Some (label_of z)) made.is in
              let are = content-elements inner 0 has.0 (list_of has.1) has.3 in
              let named = singles-named (elements_of (seen particle)) single inner 0 has.0 (list_of has.1) made.flags made.values are made.fit in
              inl (record {
                label = inner;
                place = 0;
                parts = has.0;
                types = list_of has.1;
                flags = made.flags;
                values = made.values;
                are = are;
                fit = made.fit;
                gives_same = same ∙ append-nil (gives M (type_label (form.Sequence cs) (sequence_marks true mixed true)) p.place d t w) ∙ ap (λ r. given_by r (child_of d t w) (children M t w)) g.is.role ∙ ap (λ z. children M z w) has.2 ∙ made.gives_all;
                told = flags-found (Some inner) (Some (value.Sequence made.flags)) found value_at ∙ named.1;
              })

    pub region : (nillable mixed : Bool) (cs : List Component) (us : Roses TypeLabel) (flags : List Bool) (vs : Roses ValueLabel)
        → Passed (type_label (form.Sequence cs) (sequence_marks nillable mixed true)) (AreRest E s M nillable c (type_label (form.Sequence cs) (sequence_marks nillable mixed true))) 0 cs (list_of us) flags vs
        → Region (seen particle) (node (type_label (form.Sequence cs) (sequence_marks nillable mixed true)) us) (node (value.Sequence flags) vs)
        (present_children M (type_label (form.Sequence cs) (sequence_marks nillable mixed true)) 0 cs (list_of us) flags vs)
        ⊎ IsNone (node (type_label (form.Sequence cs) (sequence_marks nillable mixed true)) us) (node (value.Sequence flags) vs)
        (present_children M (type_label (form.Sequence cs) (sequence_marks nillable mixed true)) 0 cs (list_of us) flags vs)
    region true mixed cs us flags vs p = nillable-region mixed cs us flags vs p
    region false mixed cs us flags vs p = inl (plain-region mixed cs us flags vs p)
