-- What the groups of a content give: elements alone, which are the child elements of the value.
use Rattle.std.proofs.Common.{◌≡◌, ℕ, zero, suc, ◌+◌, ◌&&◌, nat_le, Bool, true, false, Option, Some, None, List, [], ◌∷◌, ◌++◌, map, replicate, refl, sym, ap, subst, ◌∙◌, arith}
use Rattle.std.specs.Prelude.{if◌then◌else◌, slice_get}
use Rattle.base_trees.specs.Rose.{Rose, node, Roses, list_of, roses_of, label_of, length_all}
use Rattle.base_trees.specs.Rose as rose
use Rattle.simple_types.specs.Lexical.{is_at_most}
use Rattle.simple_types.specs.Reading.{spelled}
use Rattle.simple_types.specs.declared.labels.ValueLabel.{ValueLabel}
use Rattle.simple_types.specs.declared.labels.ValueLabel.TheVariants as value
use Rattle.content_models.specs.Particle as model
use Rattle.content_models.specs.Particle.{Particle, occurs, Term, Particles}
use Rattle.xml_items.specs.Plain.{Plain}
use Rattle.xml_items.specs.Mixing.{text_before, child_elements}
use Rattle.asn_types.specs.declared.marks.Instruction.{Instruction}
use Rattle.asn_types.specs.declared.modules.Assignment.{Assignment}
use Rattle.asn_types.specs.declared.roles.Role.{Role}
use Rattle.asn_types.specs.declared.roles.Role.TheVariants as role
use Rattle.asn_types.specs.declared.types.Component.{Component}
use Rattle.asn_types.specs.declared.types.Form.TheVariants as form
use Rattle.asn_types.specs.declared.types.TypeLabel.{TypeLabel}
use Rattle.asn_types.specs.Marks.{has_use_order}
use Rattle.asn_types.specs.Refs.{resolve}
use Rattle.asn_types.specs.Spaces.{space_at}
use Rattle.asn_values.specs.Ordering.{in_order}
use Rattle.asn_values.specs.Values.{ComponentPlace, place_of, put_first, place_at, alone, repeated, present_from, places, ordered_flags, order_of, FitsAt}
use Rattle.map_assignments.specs.Naming.{type_label}
use Rattle.map_assignments.proofs.Resolving.{follow-none}
use Rattle.asn_values.proofs.Slots.{in_order-map}
use Rattle.map_laws.specs.Children.{Child, child_of, given_by, put_in_order, children}
use Rattle.map_laws.specs.Standing.{IsAs, StandsFor, IsPart, once, at_most_once, several, HasTerm, ArePartsOf, IsTop, parted, ordered, whole}
use Rattle.map_laws.proofs.Values.{gives, present_children, FitsPart, PartsFit, ItemsFit, item_children, sequence-value, choice-value, list-value}
use Rattle.map_laws.proofs.Following.{group-fits, only-part}
use Rattle.xer_items.specs.Spelling.{is_textual}
use Rattle.xer_items.specs.Items.{Given, given, nothing, joined, both, element_of, with_order, completed, placed, inside, gathered}
use Rattle.xer_items.proofs.Ordering.{unordered}

pub by-not : (b : Bool) (one other : Given) → b ≡ false → elim b as (λ _. Given) [ true ↦ one | false ↦ other ] ≡ other
by-not true one other e = absurd (cc)
by-not false one other e = refl

module _ (M : List Assignment) where
  -- a child element as an item
  abbrev pub tell : Child → Rose Plain
  tell x = element_of x.name (inside M x.type x.value)

  abbrev pub told : List Child → Roses Plain
  told [] = rose.none
  told (x ∷ xs) = rose.more (tell x) (told xs)

  -- elements alone
  abbrev pub shown : List Child → Given
  shown xs = given [] (told xs)

  joined-told : (xs ys : List Child) → joined (told xs) (told ys) ≡ told (xs ++ ys)
  joined-told [] ys = refl
  joined-told (x ∷ xs) ys = ap (λ z. rose.more (tell x) z) (joined-told xs ys)

  both-shown : (a b : Given) (xs ys : List Child) → a ≡ shown xs → b ≡ shown ys → both a b ≡ shown (xs ++ ys)
  both-shown a b xs ys e f = ap (λ z. both z b) e ∙ ap (λ z. both (shown xs) z) f ∙ ap (λ z. given [] z) (joined-told xs ys)

  -- ---- the order

  elements-told : (xs : List Child) → child_elements (told xs) ≡ told xs
  elements-told [] = refl
  elements-told (x ∷ xs) = ap (λ z. rose.more (tell x) z) (elements-told xs)

  list-told : (xs : List Child) → list_of (told xs) ≡ map tell xs
  list-told [] = refl
  list-told (x ∷ xs) = ap (λ z. tell x ∷ z) (list-told xs)

  roses-told : (xs : List Child) → roses_of (map tell xs) ≡ told xs
  roses-told [] = refl
  roses-told (x ∷ xs) = ap (λ z. rose.more (tell x) z) (roses-told xs)

  -- elements in an order are the child elements in it
  pub order-shows : (b : Bool) (flags : List Bool) (numbers : List ℕ) (g : Given) (xs : List Child) → g.kids ≡ told xs → (with_order b flags numbers g).kids ≡ told (put_in_order b flags numbers xs)
  order-shows false flags numbers g xs e = e
  order-shows true flags numbers g xs e =
      ap (λ k. roses_of (in_order flags numbers (list_of (child_elements k)))) e ∙ ap (λ k. roses_of (in_order flags numbers (list_of k))) (elements-told xs)
      ∙ ap (λ l. roses_of (in_order flags numbers l)) (list-told xs) ∙ ap roses_of (in_order-map tell flags numbers xs) ∙ roses-told (in_order flags numbers xs)

  pub order-keeps : (b : Bool) (flags : List Bool) (numbers : List ℕ) (g : Given) → (with_order b flags numbers g).attributes ≡ g.attributes
  order-keeps true flags numbers g = refl
  order-keeps false flags numbers g = refl

  -- ---- parts

  abbrev placed_by : Component → Rose TypeLabel → Rose ValueLabel → Role → Given
  placed_by c u v r = placed M (record { role = r; part = c; type = u }) v (inside M u v)

  abbrev pub gives_at : TypeLabel → ℕ → Component → Rose TypeLabel → Rose ValueLabel → Given
  gives_at l i c u v = placed M (place_of l i c u) v (inside M u v)

  abbrev pub present_given : TypeLabel → ℕ → List Component → List (Rose TypeLabel) → List Bool → Roses ValueLabel → Given
  present_given l i (c ∷ cs) (u ∷ us) (true ∷ flags) (rose.more v vs) = both (gives_at l i c u v) (present_given l (i + 1) cs us flags vs)
  present_given l i (c ∷ cs) (u ∷ us) (false ∷ flags) vs = present_given l (i + 1) cs us flags vs
  present_given _ _ _ _ _ _ = nothing

  abbrev GivenOf : Option (List ComponentPlace) → Roses ValueLabel → Given
  GivenOf o vs = elim o as (λ _. Given) [ None ↦ nothing | Some ps ↦ gathered M ps vs ]

  -- in the order that the value tells, where the type has USE-ORDER
  abbrev pub as_ordered : Rose TypeLabel → Rose ValueLabel → Given → Given
  as_ordered x v inner = with_order (has_use_order (label_of x).marks) (ordered_flags M (label_of x) x v) (order_of x v) inner

  abbrev InsideFound : Rose TypeLabel → ValueLabel → Roses ValueLabel → Given
  InsideFound x w vs =
      elim (is_textual (label_of x)) as (λ _. Given) [
        | true ↦ given [] (text_before (spelled (space_at x) (node w vs)) rose.none)
        | false ↦ completed (label_of x) w vs (as_ordered x (node w vs) (GivenOf (places x w (length_all vs)) vs))
      ]

  pub inside-found : (t u : Rose TypeLabel) (v : Rose ValueLabel) → resolve M t ≡ resolve M u → inside M t v ≡ inside M u v
  unfolding inside gathered
  inside-found t u (node w vs) e = ap (λ x. InsideFound x w vs) e

  module _ (depth : ℕ) where
    abbrev PlacesGive : Option (List ComponentPlace) → TypeLabel → ℕ → List Component → List (Rose TypeLabel) → List Bool → Roses ValueLabel → Type 0
    PlacesGive o l i cs us flags vs = (ps : List ComponentPlace) × (o ≡ Some ps) × (gathered M ps vs ≡ present_given l i cs us flags vs)

    if-true : {A : Type 0} (b : Bool) (x y : A) → b ≡ true → (if b then x else y) ≡ x
    if-true true x y e = refl
    if-true false x y e = absurd (cc)

    parts-give : (l : TypeLabel) (cs : List Component) (i : ℕ) (us : List (Rose TypeLabel)) (flags : List Bool) (vs : Roses ValueLabel) → PartsFit M depth l i cs us flags vs
        → PlacesGive (present_from l i cs us flags) l i cs us flags vs
    unfolding inside gathered
    parts-give l [] i us [] rose.none h = ([], refl, refl)
    parts-give l [] i us [] (rose.more v vs) h = absurd h
    parts-give l [] i us (b ∷ flags) vs h = absurd h
    parts-give l (c ∷ cs) i [] flags vs h = absurd h
    parts-give l (c ∷ cs) i (u ∷ us) [] vs h = absurd h
    parts-give l (c ∷ cs) i (u ∷ us) (true ∷ flags) rose.none h = absurd h
    parts-give l (c ∷ cs) i (u ∷ us) (true ∷ flags) (rose.more v vs) h =
        let rest = parts-give l cs (i + 1) us flags vs h.1 in
        (place_of l i c u ∷ rest.0, ap (put_first (place_of l i c u)) rest.1, ap (λ g. both (gives_at l i c u v) g) rest.2)
    parts-give l (c ∷ cs) i (u ∷ us) (false ∷ flags) vs h =
        let rest = parts-give l cs (i + 1) us flags vs h.1 in
        (rest.0, if-true c.optional (present_from l (i + 1) cs us flags) None h.0 ∙ rest.1, rest.2)

    pub ordered-inside : (marks : List Instruction) (cs : List Component) (us : Roses TypeLabel) (flags : List Bool) (vs : Roses ValueLabel)
        → is_textual (type_label (form.Sequence cs) marks) ≡ false → PartsFit M depth (type_label (form.Sequence cs) marks) 0 cs (list_of us) flags vs
        → inside M (node (type_label (form.Sequence cs) marks) us) (node (value.Sequence flags) vs)
        ≡ completed (type_label (form.Sequence cs) marks) (value.Sequence flags) vs
        (as_ordered (node (type_label (form.Sequence cs) marks) us) (node (value.Sequence flags) vs) (present_given (type_label (form.Sequence cs) marks) 0 cs (list_of us) flags vs))
    unfolding inside gathered
    ordered-inside marks cs us flags vs textual h =
        let l = type_label (form.Sequence cs) marks in
        let v = node (value.Sequence flags) vs in
        let found = GivenOf (present_from l 0 cs (list_of us) flags) vs in
        let all = parts-give l cs 0 (list_of us) flags vs h in
        ap (λ x. InsideFound x (value.Sequence flags) vs) (follow-none M 4 (node l us) refl)
        ∙ by-not (is_textual l) (given [] (text_before (spelled (space_at (node l us)) v) rose.none)) (completed l (value.Sequence flags) vs (as_ordered (node l us) v found)) textual
        ∙ ap (λ o. completed l (value.Sequence flags) vs (as_ordered (node l us) v (GivenOf o vs))) all.1
        ∙ ap (λ g. completed l (value.Sequence flags) vs (as_ordered (node l us) v g)) all.2

    pub sequence-inside : (marks : List Instruction) (cs : List Component) (us : Roses TypeLabel) (flags : List Bool) (vs : Roses ValueLabel)
        → is_textual (type_label (form.Sequence cs) marks) ≡ false → has_use_order marks ≡ false → PartsFit M depth (type_label (form.Sequence cs) marks) 0 cs (list_of us) flags vs
        → inside M (node (type_label (form.Sequence cs) marks) us) (node (value.Sequence flags) vs)
        ≡ completed (type_label (form.Sequence cs) marks) (value.Sequence flags) vs (present_given (type_label (form.Sequence cs) marks) 0 cs (list_of us) flags vs)
    sequence-inside marks cs us flags vs textual plain h =
        let l = type_label (form.Sequence cs) marks in
        let v = node (value.Sequence flags) vs in
        let all = present_given l 0 cs (list_of us) flags vs in
        ordered-inside marks cs us flags vs textual h
        ∙ ap (λ g. completed l (value.Sequence flags) vs g) (unordered (has_use_order marks) (ordered_flags M l (node l us) v) (order_of (node l us) v) all plain)

    choice-inside : (cs : List Component) (us : Roses TypeLabel) (number : ℕ) (c : Component) (u : Rose TypeLabel) (v : Rose ValueLabel) → slice_get cs number ≡ Some c → slice_get (list_of us) number ≡ Some u
        → inside M (node (type_label (form.Choice cs) []) us) (node (value.Choice number) (rose.more v rose.none)) ≡ both (gives_at (type_label (form.Choice cs) []) number c u v) nothing
    unfolding inside gathered
    choice-inside cs us number c u v e f =
        let l = type_label (form.Choice cs) [] in
        let vs = rose.more v rose.none in
        ap (λ x. InsideFound x (value.Choice number) vs) (follow-none M 4 (node l us) refl)
        ∙ ap (λ o. GivenOf (alone (place_at l number o (slice_get (list_of us) number))) vs) e
        ∙ ap (λ o. GivenOf (alone (place_at l number (Some c) o)) vs) f

    abbrev items_given : TypeLabel → Component → Rose TypeLabel → Roses ValueLabel → Given
    items_given l c u rose.none = nothing
    items_given l c u (rose.more v vs) = both (gives_at l 0 c u v) (items_given l c u vs)

    items-give : (l : TypeLabel) (c : Component) (u : Rose TypeLabel) (vs : Roses ValueLabel) → gathered M (replicate (length_all vs) (place_of l 0 c u)) vs ≡ items_given l c u vs
    unfolding inside gathered
    items-give l c u rose.none = refl
    items-give l c u (rose.more v vs) = ap (λ g. both (gives_at l 0 c u v) g) (items-give l c u vs)

    and-true : (a b : Bool) → a ≡ true → b ≡ true → (a && b) ≡ true
    and-true true true e f = refl
    and-true true false e f = absurd (cc)
    and-true false b e f = absurd (cc)

    list-inside : (c : Component) (u : Rose TypeLabel) (least : ℕ) (most : Option ℕ) (vs : Roses ValueLabel) → nat_le least (length_all vs) ≡ true → is_at_most (length_all vs) most ≡ true
        → inside M (node (type_label (form.SequenceOf c least most) []) (rose.more u rose.none)) (node value.SequenceOf vs) ≡ items_given (type_label (form.SequenceOf c least most) []) c u vs
    unfolding inside gathered
    list-inside c u least most vs e f =
        let l = type_label (form.SequenceOf c least most) [] in
        let both_true = and-true (nat_le least (length_all vs)) (is_at_most (length_all vs) most) e f in
        ap (λ x. InsideFound x value.SequenceOf vs) (follow-none M 4 (node l (rose.more u rose.none)) refl)
        ∙ ap (λ o. GivenOf o vs) (if-true (nat_le least (length_all vs) && is_at_most (length_all vs) most) (repeated (length_all vs) (Some (place_of l 0 c u))) None both_true)
        ∙ items-give l c u vs

    -- ---- particles

    module _ (E : ℕ → Rose TypeLabel → Type 0) where
      abbrev PartShows : TypeLabel → ℕ → Component → Rose TypeLabel → Rose ValueLabel → Type 0
      PartShows l i c u v = gives_at l i c u v ≡ shown (gives M l i c u v)

      abbrev TermShows : Term → Type 0
      TermShows t =
          (l : TypeLabel) (i : ℕ) (optional : Bool) (c : Component) (u : Rose TypeLabel) (v : Rose ValueLabel)
          → StandsFor l i optional t c → HasTerm E t u → FitsPart M depth l i c u v → PartShows l i c u v

      pub group-shows : (l : TypeLabel) (i : ℕ) (optional : Bool) (c : Component) (u : Rose TypeLabel) (v : Rose ValueLabel) → IsAs l i role.Group optional c → (ms : List Child)
          → children M u v ≡ ms → inside M u v ≡ shown ms → PartShows l i c u v
      group-shows l i optional c u v is ms e f =
          ap (placed_by c u v) is.role ∙ f ∙ ap shown (sym e) ∙ sym (ap (λ r. shown (given_by r (child_of c u v) (children M u v))) is.role)

      module _ (t : Term) (f : TermShows t) where
        items-show : (l : TypeLabel) (c : Component) (u : Rose TypeLabel) → StandsFor l 0 false t c → HasTerm E t u → (vs : Roses ValueLabel) → ItemsFit M depth l c u vs
            → items_given l c u vs ≡ shown (item_children M depth l c u vs)
        items-show l c u stands has rose.none h = refl
        items-show l c u stands has (rose.more v vs) h =
            both-shown (gives_at l 0 c u v) (items_given l c u vs) (gives M l 0 c u v) (item_children M depth l c u vs)
            (f l 0 false c u v stands has h.0) (items-show l c u stands has vs h.1)

        part-shows : (l : TypeLabel) (i : ℕ) (b : Bool) (least : ℕ) (most : Option ℕ) (c : Component) (u : Rose TypeLabel) (v : Rose ValueLabel)
            → IsPart l i b t least most (HasTerm E t) c u → FitsPart M depth l i c u v → PartShows l i c u v
        part-shows l i b least most c u v (once e g stands has) h = f l i false c u v stands has h
        part-shows l i b least most c u v (at_most_once no_choice e g stands has) h = f l i true c u v stands has h
        part-shows l i b least most c u v (several more_than_one never_optional is list) h =
            let k = type_label (form.SequenceOf list.item least most) [] in
            let whole_type = node k (rose.more list.type rose.none) in
            let fits = group-fits M E depth l i false c u v is h in
            let value = list-value M depth [] list.item list.type least most v (subst (λ x. FitsAt M depth x v) list.is fits.0) in
            let made = item_children M depth k list.item list.type value.values in
            let insides : inside M u v ≡ shown made =
            ap (λ x. inside M x v) list.is ∙ ap (λ x. inside M whole_type x) value.is
            ∙ list-inside list.item list.type least most value.values value.least_is value.most_is
            ∙ items-show k list.item list.type list.stands list.has value.values value.fit in
            group-shows l i false c u v is made (ap (λ x. children M x v) list.is ∙ value.gives_all) insides

      mutual
        term-shows : (t : Term) → TermShows t
        term-shows (model.element d name) l i optional c u v stands has h =
            ap (placed_by c u v) stands.0.role
            ∙ sym (ap (λ r. shown (given_by r (child_of c u v) (children M u v))) stands.0.role)
        term-shows (model.sequence ps) l i optional c u v stands has h =
            let group = group-fits M E depth l i optional c u v stands h in
            let k = type_label (form.Sequence has.0) [] in
            let value_ = sequence-value M depth [] has.0 has.1 v (subst (λ x. FitsAt M depth x v) has.2 group.0) in
            let made = present_children M k 0 has.0 (list_of has.1) value_.flags value_.values in
            let insides : inside M u v ≡ shown made =
            ap (λ x. inside M x v) has.2 ∙ ap (λ x. inside M (node k has.1) x) value_.is
            ∙ sequence-inside [] has.0 has.1 value_.flags value_.values refl refl value_.fit
            ∙ parts-show ps k false 0 has.0 (list_of has.1) value_.flags value_.values has.3 value_.fit in
            group-shows l i optional c u v stands made (ap (λ x. children M x v) has.2 ∙ value_.gives_all) insides
        term-shows (model.all ps) l i optional c u v stands has h =
            let group = group-fits M E depth l i optional c u v stands h in
            let k = type_label (form.Sequence has.0) [] in
            let value_ = sequence-value M depth [] has.0 has.1 v (subst (λ x. FitsAt M depth x v) has.2 group.0) in
            let made = present_children M k 0 has.0 (list_of has.1) value_.flags value_.values in
            let insides : inside M u v ≡ shown made =
            ap (λ x. inside M x v) has.2 ∙ ap (λ x. inside M (node k has.1) x) value_.is
            ∙ sequence-inside [] has.0 has.1 value_.flags value_.values refl refl value_.fit
            ∙ parts-show ps k false 0 has.0 (list_of has.1) value_.flags value_.values has.3 value_.fit in
            group-shows l i optional c u v stands made (ap (λ x. children M x v) has.2 ∙ value_.gives_all) insides
        term-shows (model.choice ps) l i optional c u v stands has h =
            let group = group-fits M E depth l i optional c u v stands h in
            let k = type_label (form.Choice has.0) [] in
            let value_ = choice-value M depth [] has.0 has.1 v (subst (λ x. FitsAt M depth x v) has.2 group.0) in
            let made = gives M k value_.number value_.part value_.type value_.own in
            let own_shows = choice-shows ps k 0 has.0 (list_of has.1) has.3 value_.number value_.part value_.type value_.at value_.type_at value_.number (omega arith) value_.own value_.fit in
            let insides : inside M u v ≡ shown (made ++ []) =
            ap (λ x. inside M x v) has.2 ∙ ap (λ x. inside M (node k has.1) x) value_.is
            ∙ choice-inside has.0 has.1 value_.number value_.part value_.type value_.own value_.at value_.type_at
            ∙ both-shown (gives_at k value_.number value_.part value_.type value_.own) nothing made [] own_shows refl in
            group-shows l i optional c u v stands (made ++ []) (ap (λ x. children M x v) has.2 ∙ value_.gives_all) insides

        pub parts-show : (ps : Particles) (l : TypeLabel) (b : Bool) (i : ℕ) (cs : List Component) (us : List (Rose TypeLabel)) (flags : List Bool) (vs : Roses ValueLabel)
            → ArePartsOf E l b ps i cs us → PartsFit M depth l i cs us flags vs → present_given l i cs us flags vs ≡ shown (present_children M l i cs us flags vs)
        parts-show model.none l b i [] [] [] rose.none g h = refl
        parts-show model.none l b i [] [] [] (rose.more v vs) g h = absurd h
        parts-show model.none l b i [] [] (flag ∷ flags) vs g h = absurd h
        parts-show model.none l b i [] (u ∷ us) flags vs g h = absurd g
        parts-show model.none l b i (c ∷ cs) us flags vs g h = absurd g
        parts-show (model.more (occurs t least most) ps) l b i [] us flags vs g h = absurd g
        parts-show (model.more (occurs t least most) ps) l b i (c ∷ cs) [] flags vs g h = absurd g
        parts-show (model.more (occurs t least most) ps) l b i (c ∷ cs) (u ∷ us) [] vs g h = absurd h
        parts-show (model.more (occurs t least most) ps) l b i (c ∷ cs) (u ∷ us) (true ∷ flags) rose.none g h = absurd h
        parts-show (model.more (occurs t least most) ps) l b i (c ∷ cs) (u ∷ us) (true ∷ flags) (rose.more v vs) g h =
            both-shown (gives_at l i c u v) (present_given l (i + 1) cs us flags vs) (gives M l i c u v) (present_children M l (i + 1) cs us flags vs)
            (part-shows t (term-shows t) l i b least most c u v g.0 h.0) (parts-show ps l b (i + 1) cs us flags vs g.1 h.1)
        parts-show (model.more (occurs t least most) ps) l b i (c ∷ cs) (u ∷ us) (false ∷ flags) vs g h = parts-show ps l b (i + 1) cs us flags vs g.1 h.1

        choice-shows : (ps : Particles) (l : TypeLabel) (i : ℕ) (cs : List Component) (us : List (Rose TypeLabel)) → ArePartsOf E l true ps i cs us
            → (j : ℕ) (c : Component) (u : Rose TypeLabel) → slice_get cs j ≡ Some c → slice_get us j ≡ Some u → (number : ℕ) → i + j ≡ number
            → (v : Rose ValueLabel) → FitsPart M depth l number c u v → PartShows l number c u v
        choice-shows model.none l i [] us g j c u e f number is v h = absurd (cc)
        choice-shows model.none l i (x ∷ cs) us g j c u e f number is v h = absurd g
        choice-shows (model.more (occurs t least most) ps) l i [] us g j c u e f number is v h = absurd g
        choice-shows (model.more (occurs t least most) ps) l i (x ∷ cs) [] g j c u e f number is v h = absurd g
        choice-shows (model.more (occurs t least most) ps) l i (x ∷ cs) (y ∷ us) g zero c u e f number is v h =
            let part : x ≡ c = cc in
            let type : y ≡ u = cc in
            let here : i ≡ number = omega (arith, is) in
            let stands : IsPart l number true t least most (HasTerm E t) c u =
            subst (λ k. IsPart l k true t least most (HasTerm E t) c u) here
            (subst (λ z. IsPart l i true t least most (HasTerm E t) z u) part (subst (λ z. IsPart l i true t least most (HasTerm E t) x z) type g.0)) in
            part-shows t (term-shows t) l number true least most c u v stands h
        choice-shows (model.more (occurs t least most) ps) l i (x ∷ cs) (y ∷ us) g (suc j) c u e f number is v h =
            choice-shows ps l (i + 1) cs us g.1 j c u e f number (omega (arith, is)) v h

      -- ---- the top particle

      pub top-shows : (p : Particle) (l : TypeLabel) (i : ℕ) (cs : List Component) (us : List (Rose TypeLabel)) (flags : List Bool) (vs : Roses ValueLabel)
          → IsTop E p l i cs us → PartsFit M depth l i cs us flags vs → present_given l i cs us flags vs ≡ shown (present_children M l i cs us flags vs)
      top-shows p l i cs us flags vs (parted ps is g) h = parts-show ps l false i cs us flags vs g h
      top-shows p l i cs us flags vs (ordered ps is single g) h = parts-show ps l false i cs us flags vs g h
      top-shows p l i cs us flags vs (whole t least most is in_one g) h =
          parts-show (model.more (occurs t least most) model.none) l false i cs us flags vs (only-part M E depth t least most l i cs us g) h
