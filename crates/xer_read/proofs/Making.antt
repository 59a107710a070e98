-- What is made of child elements at their places fits the types of a content model, and has these child elements.
use Rattle.std.proofs.Common.{◌≡◌, ℕ, zero, suc, ◌+◌, ◌≤◌, ◌||◌, ◌&&◌, nat_le, Bool, true, false, not, Option, Some, None, List, [], ◌∷◌, ◌++◌, map, All, refl, sym, ap, subst, ◌∙◌, arith}
use Rattle.std.specs.Prelude.{slice_get}
use Rattle.std.proofs.lemmas.List.{append-nil, map-append}
use Rattle.std.proofs.lemmas.List.Elements.{All-head, All-tail, All-cons}
use Rattle.base_texts.specs.declared.texts.Name.{Name}
use Rattle.base_trees.specs.Rose.{Rose, node, list_of, roses_of, length_all}
use Rattle.base_trees.specs.Rose as rose
use Rattle.base_trees.proofs.Roses.{length_all-roses_of}
use Rattle.simple_types.specs.Lexical.{is_at_most}
use Rattle.simple_types.specs.declared.labels.ValueLabel.{ValueLabel}
use Rattle.simple_types.specs.declared.labels.ValueLabel.TheVariants as value
use Rattle.content_models.specs.Particle as model
use Rattle.content_models.specs.Particle.{Particle, occurs, Term, Particles}
use Rattle.xml_items.specs.Plain.{Plain}
use Rattle.asn_types.specs.declared.modules.Assignment.{Assignment}
use Rattle.asn_types.specs.declared.roles.Role.TheVariants as role
use Rattle.asn_types.specs.declared.types.Component.{Component}
use Rattle.asn_types.specs.declared.types.Form.TheVariants as form
use Rattle.asn_types.specs.declared.types.TypeLabel.{TypeLabel}
use Rattle.asn_values.specs.Values.{below, FitsAt}
use Rattle.schema_components.specs.Linked.{leaves, leaves_of_term, all_leaves}
use Rattle.map_assignments.specs.Naming.{type_label}
use Rattle.map_assignments.specs.Planning as planning
use Rattle.map_laws.specs.Children.{Child, child_of, given_by, children}
use Rattle.map_laws.specs.Standing as standing
use Rattle.map_laws.specs.Standing.{IsAs, StandsFor, IsPart, once, at_most_once, several, HasTerm, ArePartsOf, IsTop, parted, ordered, whole}
use Rattle.map_laws.proofs.Values.{gives, present_children, FitsPart, PartsFit, sequence-value, choice-value, ItemsFit, item_children, list-value}
use Rattle.map_subjects.proofs.Finding.{all-at}
use Rattle.map_assignments.proofs.Free.{IsFree}
use Rattle.map_laws.proofs.Frees.{stands-free, parts-free}
use Rattle.map_laws.proofs.Giving.{sequence-fits, sequence-gives, choice-fits, list-fits}
use Rattle.map_laws.proofs.Following.{only-part}
use Rattle.xer_items.specs.Items.{element_of, inside}
use Rattle.value_laws.proofs.Groups.{tell}
use Rattle.value_contents.specs.Bounds.{is_once, is_optional, is_parted}
use Rattle.value_contents.specs.Made as kept
use Rattle.value_contents.specs.Made.{Each, Several, Standing, TermMade, PartsMade, ChosenMade, PartedMade, TopMade}

-- ---- which value stands, by the bounds

standing-once : (B : Rose ValueLabel → List kept.Child → Type 0) (b : Bool) (least : ℕ) (most : Option ℕ) (v : Rose ValueLabel) (gs : List kept.Child) → least ≡ 1 → most ≡ Some 1
    → Standing B b least most v gs → B v gs
standing-once B b least most v gs e f h = subst (λ o. Standing B b 1 o v gs) f (subst (λ n. Standing B b n most v gs) e h)

standing-optional : (B : Rose ValueLabel → List kept.Child → Type 0) (b : Bool) (least : ℕ) (most : Option ℕ) (v : Rose ValueLabel) (gs : List kept.Child) → b ≡ false → least ≡ 0 → most ≡ Some 1
    → Standing B b least most v gs → B v gs
standing-optional B b least most v gs c e f h = subst (λ o. Standing B false 0 o v gs) f (subst (λ n. Standing B false n most v gs) e (subst (λ x. Standing B x least most v gs) c h))

-- the bounds are read alike by the map and by the walk
once-same : (least : ℕ) (most : Option ℕ) → is_once least most ≡ planning.is_once least most
once-same least None = refl
once-same least (Some m) = refl

optional-same : (least : ℕ) (most : Option ℕ) → is_optional least most ≡ planning.is_optional least most
optional-same least None = refl
optional-same least (Some m) = refl

parted-same : (t : Term) (least : ℕ) (most : Option ℕ) → is_parted t least most ≡ standing.is_parted t least most
parted-same (model.element d a) least most = refl
parted-same (model.sequence ps) least most = once-same least most
parted-same (model.choice ps) least most = refl
parted-same (model.all ps) least most = refl

neither : (x y : Bool) → x ≡ false → y ≡ false → (x || y) ≡ false
neither x y e f = rw (e, f) refl

standing-several : (B : Rose ValueLabel → List kept.Child → Type 0) (b : Bool) (least : ℕ) (most : Option ℕ) (v : Rose ValueLabel) (gs : List kept.Child) → planning.is_once least most ≡ false
    → (planning.is_optional least most && not b) ≡ false → Standing B b least most v gs → Several B least most v gs
standing-several B b least most v gs e f h =
    subst (λ x. elim x as (λ _. Type 0) [ true ↦ B v gs | false ↦ Several B least most v gs ])
    (neither (is_once least most) (is_optional least most && not b) (once-same least most ∙ e) (ap (λ x. x && not b) (optional-same least most) ∙ f)) h

-- ---- the names of the element particles

module _ (N : ℕ → Name → Type 0) where
  abbrev mutual
    pub NamedTerm : Term → Type 0
    NamedTerm (model.element d a) = N d a
    NamedTerm (model.sequence ps) = NamedAll ps
    NamedTerm (model.choice ps) = NamedAll ps
    NamedTerm (model.all ps) = NamedAll ps

    pub NamedAll : Particles → Type 0
    NamedAll model.none = Unit {0}
    NamedAll (model.more (occurs t least most) ps) = NamedTerm t × NamedAll ps

  abbrev pub NamedTop : Particle → Type 0
  NamedTop (occurs t least most) = NamedTerm t

  abbrev HasName : ℕ × Name → Type 0
  HasName leaf = N leaf.0 leaf.1

  front : (xs ys : List (ℕ × Name)) → All HasName (xs ++ ys) → All HasName xs
  front [] ys h = λ k d l. absurd (omega (arith, l))
  front (x ∷ xs) ys h = All-cons HasName x xs (All-head HasName x (xs ++ ys) h) (front xs ys (All-tail HasName x (xs ++ ys) h))

  back : (xs ys : List (ℕ × Name)) → All HasName (xs ++ ys) → All HasName ys
  back [] ys h = h
  back (x ∷ xs) ys h = back xs ys (All-tail HasName x (xs ++ ys) h)

  mutual
    named-term : (t : Term) → All HasName (leaves_of_term t) → NamedTerm t
    named-term (model.element d a) h = All-head HasName (d, a) [] h
    named-term (model.sequence ps) h = named-all ps h
    named-term (model.choice ps) h = named-all ps h
    named-term (model.all ps) h = named-all ps h

    named-all : (ps : Particles) → All HasName (all_leaves ps) → NamedAll ps
    named-all model.none h = tt
    named-all (model.more (occurs t least most) ps) h = (named-term t (front (leaves_of_term t) (all_leaves ps) h), named-all ps (back (leaves_of_term t) (all_leaves ps) h))

  pub named-top : (p : Particle) → All HasName (leaves p) → NamedTop p
  named-top (occurs t least most) h = named-term t h

optional-is : (x : Term) (l : TypeLabel) (i : ℕ) (optional : Bool) (c : Component) → StandsFor l i optional x c → c.optional ≡ optional
optional-is (model.element d name) l i optional c is = is.0.absent
optional-is (model.sequence ps) l i optional c is = is.absent
optional-is (model.choice ps) l i optional c is = is.absent
optional-is (model.all ps) l i optional c is = is.absent

module _ (M : List Assignment) (E : ℕ → Rose TypeLabel → Type 0) (N : ℕ → Name → Type 0) (depth : ℕ) (small : depth ≤ 64) where
  -- of each type at the declaration the value is one, and it gives the item under each name of the declaration
  abbrev pub IsGift : kept.Child → Rose Plain → Type 0
  IsGift g b = (u : Rose TypeLabel) → E g.decl u → (a : Name) → N g.decl a → FitsAt M (suc depth) u g.value × (element_of a (inside M u g.value) ≡ b)

  abbrev pub AreGifts : List kept.Child → List (Rose Plain) → Type 0
  AreGifts [] [] = Unit {0}
  AreGifts (g ∷ gs) (b ∷ bs) = IsGift g b × AreGifts gs bs
  AreGifts _ _ = ⊥

  no-gifts : (gs : List kept.Child) (bs : List (Rose Plain)) → gs ≡ [] → AreGifts gs bs → [] ≡ bs
  no-gifts gs [] e h = refl
  no-gifts gs (b ∷ bs) e h = absurd (subst (λ x. AreGifts x (b ∷ bs)) e h)

  record Split (xs ys : List kept.Child) (bs : List (Rose Plain)) : Type 0 where
    pub first : List (Rose Plain)
    pub rest : List (Rose Plain)
    pub is : bs ≡ first ++ rest
    pub first_gifts : AreGifts xs first
    pub rest_gifts : AreGifts ys rest

  splits : (xs ys : List kept.Child) (bs : List (Rose Plain)) → AreGifts (xs ++ ys) bs → Split xs ys bs
  splits [] ys bs h = record { first = []; rest = bs; is = refl; first_gifts = tt; rest_gifts = h }
  splits (x ∷ xs) ys [] h = absurd h
  splits (x ∷ xs) ys (b ∷ bs) h =
      let r = splits xs ys bs h.1 in
      record { first = b ∷ r.first; rest = r.rest; is = ap (λ z. b ∷ z) r.is; first_gifts = (h.0, r.first_gifts); rest_gifts = r.rest_gifts }

  split-at : (gs xs ys : List kept.Child) (bs : List (Rose Plain)) → gs ≡ xs ++ ys → AreGifts gs bs → Split xs ys bs
  split-at gs xs ys bs e h = splits xs ys bs (subst (λ z. AreGifts z bs) e h)

  abbrev told : List Child → List (Rose Plain)
  told xs = map (tell M) xs

  told-both : (ms ns : List Child) (ones others bs : List (Rose Plain)) → told ms ≡ ones → told ns ≡ others → bs ≡ ones ++ others → told (ms ++ ns) ≡ bs
  told-both ms ns ones others bs e f is = map-append (tell M) ms ns ∙ ap (λ x. x ++ told ns) e ∙ ap (λ y. ones ++ y) f ∙ sym is

  -- the value fits at the part, and gives these items
  abbrev Shows : TypeLabel → ℕ → Component → Rose TypeLabel → Rose ValueLabel → List (Rose Plain) → Type 0
  Shows l i c u v bs = FitsPart M depth l i c u v × (told (gives M l i c u v) ≡ bs)

  abbrev TermShows : Term → Type 0
  TermShows t =
      (l : TypeLabel) (i : ℕ) (optional : Bool) (c : Component) (u : Rose TypeLabel) → StandsFor l i optional t c → HasTerm E t u → NamedTerm N t
      → (v : Rose ValueLabel) (gs : List kept.Child) (bs : List (Rose Plain)) → TermMade t v gs → AreGifts gs bs → Shows l i c u v bs

  group-shows : (l : TypeLabel) (i : ℕ) (optional : Bool) (c : Component) (u : Rose TypeLabel) → IsAs l i role.Group optional c → (v : Rose ValueLabel) (bs : List (Rose Plain)) → FitsAt M depth u v
      → told (children M u v) ≡ bs → Shows l i c u v bs
  group-shows l i optional c u is v bs fit are =
      (subst (λ r. FitsAt M (below r depth) u v) (sym is.role) fit, ap (λ r. told (given_by r (child_of c u v) (children M u v))) is.role ∙ are)

  module _ (t : Term) (f : TermShows t) (named : NamedTerm N t) where
    items-show : (l : TypeLabel) (c : Component) (u : Rose TypeLabel) → StandsFor l 0 false t c → HasTerm E t u → (vs : List (Rose ValueLabel)) (gs : List kept.Child) (bs : List (Rose Plain))
        → Each (TermMade t) vs gs → AreGifts gs bs → ItemsFit M depth l c u (roses_of vs) × (told (item_children M depth l c u (roses_of vs)) ≡ bs)
    items-show l c u stands has [] gs bs h k = (tt, no-gifts gs bs h k)
    items-show l c u stands has (v ∷ vs) gs bs (a, b, e, one, rest) k =
        let s = split-at gs a b bs e k in
        let x = f l 0 false c u stands has named v a s.first one s.first_gifts in
        let y = items-show l c u stands has vs b s.rest rest s.rest_gifts in
        ((x.0, y.0), told-both (gives M l 0 c u v) (item_children M depth l c u (roses_of vs)) s.first s.rest bs x.1 y.1 s.is)

    list-shows : (l : TypeLabel) (i : ℕ) (least : ℕ) (most : Option ℕ) (c : Component) (u : Rose TypeLabel) → IsAs l i role.Group false c
        → (item : Component) (type : Rose TypeLabel) → u ≡ node (type_label (form.SequenceOf item least most) []) (rose.more type rose.none)
        → StandsFor (type_label (form.SequenceOf item least most) []) 0 false t item → HasTerm E t type
        → (vs : List (Rose ValueLabel)) (gs : List kept.Child) (bs : List (Rose Plain)) → nat_le least (length_all (roses_of vs)) ≡ true → is_at_most (length_all (roses_of vs)) most ≡ true
        → Each (TermMade t) vs gs → AreGifts gs bs → Shows l i c u (node value.SequenceOf (roses_of vs)) bs
    list-shows l i least most c u is item type type_is stands has vs gs bs low high each k =
        let j = type_label (form.SequenceOf item least most) [] in
        let items = items-show j item type stands has vs gs bs each k in
        let v = node value.SequenceOf (roses_of vs) in
        let fits : FitsAt M depth (node j (rose.more type rose.none)) v = list-fits M depth small item type least most (roses_of vs) low high (stands-free j 0 false t item stands) items.0 in
        let made = list-value M depth [] item type least most v fits in
        let is_value : v ≡ node value.SequenceOf made.values = made.is in
        let same : roses_of vs ≡ made.values = cc in
        group-shows l i false c u is v bs (subst (λ x. FitsAt M depth x v) (sym type_is) fits)
        (ap (λ x. told (children M x v)) type_is ∙ ap told made.gives_all ∙ ap (λ x. told (item_children M depth j item type x)) (sym same) ∙ items.1)

    part-shows : (l : TypeLabel) (i : ℕ) (b : Bool) (least : ℕ) (most : Option ℕ) (c : Component) (u : Rose TypeLabel) → IsPart l i b t least most (HasTerm E t) c u
        → (v : Rose ValueLabel) (gs : List kept.Child) (bs : List (Rose Plain)) → Standing (TermMade t) b least most v gs → AreGifts gs bs → Shows l i c u v bs
    part-shows l i b least most c u (once e g stands has) v gs bs h k = f l i false c u stands has named v gs bs (standing-once (TermMade t) b least most v gs e g h) k
    part-shows l i b least most c u (at_most_once no_choice e g stands has) v gs bs h k =
        f l i true c u stands has named v gs bs (standing-optional (TermMade t) b least most v gs no_choice e g h) k
    part-shows l i b least most c u (several more_than_one never_optional is list) v gs bs h k =
        let (vs, made, low, high, each) = standing-several (TermMade t) b least most v gs more_than_one never_optional h in
        let count = length_all-roses_of vs in
        subst (λ y. Shows l i c u y bs) (sym made)
        (list-shows l i least most c u is list.item list.type list.is list.stands list.has vs gs bs
        (ap (λ n. nat_le least n) count ∙ low) (ap (λ n. is_at_most n most) count ∙ high) each k)

  -- a part that may be left out is optional
  absent-shows : (t : Term) (l : TypeLabel) (i : ℕ) (least : ℕ) (most : Option ℕ) (c : Component) (u : Rose TypeLabel) → IsPart l i false t least most (HasTerm E t) c u → is_optional least most ≡ true
      → c.optional ≡ true
  absent-shows t l i least most c u (once e g stands has) o =
      absurd (let never : is_optional 1 (Some 1) ≡ true = subst (λ q. is_optional 1 q ≡ true) g (subst (λ n. is_optional n most ≡ true) e o) in cc)
  absent-shows t l i least most c u (at_most_once no_choice e g stands has) o = optional-is t l i true c stands
  absent-shows t l i least most c u (several more_than_one never_optional is list) o =
      absurd (let never : (true && true) ≡ false = subst (λ x. (x && true) ≡ false) (sym (optional-same least most) ∙ o) never_optional in cc)

  record ChoiceShows (l : TypeLabel) (i : ℕ) (cs : List Component) (us : List (Rose TypeLabel)) (place : ℕ) (v : Rose ValueLabel) (bs : List (Rose Plain)) : Type 0 where
    pub number : ℕ
    pub sums : i + place ≡ number
    pub part : Component
    pub type : Rose TypeLabel
    pub at : slice_get cs place ≡ Some part
    pub type_at : slice_get us place ≡ Some type
    pub shows : Shows l number part type v bs

  abbrev PartsShow : TypeLabel → ℕ → List Component → List (Rose TypeLabel) → List Bool → List (Rose ValueLabel) → List (Rose Plain) → Type 0
  PartsShow l i cs us flags vs bs = PartsFit M depth l i cs us flags (roses_of vs) × (told (present_children M l i cs us flags (roses_of vs)) ≡ bs)

  mutual
    term-shows : (t : Term) → TermShows t
    term-shows (model.element d name) l i optional c u stands has named v gs [] (g, e, dd, vv) k = absurd (subst (λ x. AreGifts x []) e k)
    term-shows (model.element d name) l i optional c u stands has named v gs (b ∷ x ∷ bs) (g, e, dd, vv) k = absurd ((subst (λ y. AreGifts y (b ∷ x ∷ bs)) e k).1)
    term-shows (model.element d name) l i optional c u stands has named v gs (b ∷ []) (g, e, dd, vv) k =
        let gift : IsGift g b = (subst (λ y. AreGifts y (b ∷ [])) e k).0 in
        let one = gift u (subst (λ n. E n u) (sym dd) has) name (subst (λ n. N n name) (sym dd) named) in
        let w = g.value in
        subst (λ y. Shows l i c u y (b ∷ [])) vv (
          subst (λ r. FitsAt M (below r depth) u w) (sym stands.0.role) one.0,
          ap (λ r. told (given_by r (child_of c u w) (children M u w))) stands.0.role ∙ ap (λ (a : Name). element_of a (inside M u w) ∷ []) stands.1 ∙ ap (λ y. y ∷ []) one.1,
        )
    term-shows (model.sequence ps) l i optional c u stands has named v gs bs (flags, vs, made, parts) k =
        let j = type_label (form.Sequence has.0) [] in
        let all = parts-show ps j 0 has.0 (list_of has.1) has.3 named flags vs gs bs parts k in
        let w = node (value.Sequence flags) (roses_of vs) in
        let fits : FitsAt M depth (node j has.1) w = sequence-fits M depth small [] has.0 has.1 flags (roses_of vs) (parts-free E ps j false 0 has.0 (list_of has.1) has.3) all.0 (tt, tt, tt, tt) in
        subst (λ y. Shows l i c u y bs) (sym made)
        (group-shows l i optional c u stands w bs (subst (λ x. FitsAt M depth x w) (sym has.2) fits)
        (ap (λ x. told (children M x w)) has.2
        ∙ ap told (sequence-gives M depth j has.0 has.1 flags (roses_of vs) (sequence-value M depth [] has.0 has.1 w fits)) ∙ all.1))
    term-shows (model.all ps) l i optional c u stands has named v gs bs made k = absurd made
    term-shows (model.choice ps) l i optional c u stands has named v gs bs (place, inner, made_is, chosen) k =
        let j = type_label (form.Choice has.0) [] in
        let one = choice-shows ps j 0 has.0 (list_of has.1) has.3 named place inner gs bs chosen k in
        let same : place ≡ one.number = omega (arith, one.sums) in
        let at : slice_get has.0 one.number ≡ Some one.part = subst (λ n. slice_get has.0 n ≡ Some one.part) same one.at in
        let type_at : slice_get (list_of has.1) one.number ≡ Some one.type = subst (λ n. slice_get (list_of has.1) n ≡ Some one.type) same one.type_at in
        let w = node (value.Choice one.number) (rose.more inner rose.none) in
        let fits : FitsAt M depth (node j has.1) w = choice-fits M depth small has.0 has.1 one.number one.part one.type inner at type_at (all-at IsFree has.0 one.number one.part at (parts-free E ps j true 0 has.0 (list_of has.1) has.3)) one.shows.0 in
        let made = choice-value M depth [] has.0 has.1 w fits in
        let is_value : w ≡ node (value.Choice made.number) (rose.more made.own rose.none) = made.is in
        let number : one.number ≡ made.number = cc in
        let own : inner ≡ made.own = cc in
        let part : Some one.part ≡ Some made.part = sym at ∙ ap (slice_get has.0) number ∙ made.at in
        let type : Some one.type ≡ Some made.type = sym type_at ∙ ap (slice_get (list_of has.1)) number ∙ made.type_at in
        let part_is : one.part ≡ made.part = cc in
        let type_is : one.type ≡ made.type = cc in
        let given : gives M j made.number made.part made.type made.own ≡ gives M j one.number one.part one.type inner =
        ap (λ x. gives M j x made.part made.type made.own) (sym number) ∙ ap (λ x. gives M j one.number x made.type made.own) (sym part_is)
        ∙ ap (λ x. gives M j one.number one.part x made.own) (sym type_is) ∙ ap (λ x. gives M j one.number one.part one.type x) (sym own) in
        subst (λ y. Shows l i c u y bs) (sym (made_is ∙ ap (λ n. node (value.Choice n) (rose.more inner rose.none)) same))
        (group-shows l i optional c u stands w bs (subst (λ x. FitsAt M depth x w) (sym has.2) fits)
        (ap (λ x. told (children M x w)) has.2
        ∙ ap told (made.gives_all ∙ append-nil (gives M j made.number made.part made.type made.own) ∙ given) ∙ one.shows.1))

    pub parts-show : (ps : Particles) (l : TypeLabel) (i : ℕ) (cs : List Component) (us : List (Rose TypeLabel)) → ArePartsOf E l false ps i cs us → NamedAll N ps
        → (flags : List Bool) (vs : List (Rose ValueLabel)) (gs : List kept.Child) (bs : List (Rose Plain)) → PartsMade ps flags vs gs → AreGifts gs bs → PartsShow l i cs us flags vs bs
    parts-show model.none l i [] [] g named [] [] gs bs h k = (tt, no-gifts gs bs h k)
    parts-show model.none l i [] [] g named [] (v ∷ vs) gs bs h k = absurd h
    parts-show model.none l i [] [] g named (b ∷ flags) vs gs bs h k = absurd h
    parts-show model.none l i [] (u ∷ us) g named flags vs gs bs h k = absurd g
    parts-show model.none l i (c ∷ cs) us g named flags vs gs bs h k = absurd g
    parts-show (model.more (occurs t least most) ps) l i [] us g named flags vs gs bs h k = absurd g
    parts-show (model.more (occurs t least most) ps) l i (c ∷ cs) [] g named flags vs gs bs h k = absurd g
    parts-show (model.more (occurs t least most) ps) l i (c ∷ cs) (u ∷ us) g named [] vs gs bs h k = absurd h
    parts-show (model.more (occurs t least most) ps) l i (c ∷ cs) (u ∷ us) g named (true ∷ flags) [] gs bs h k = absurd h
    parts-show (model.more (occurs t least most) ps) l i (c ∷ cs) (u ∷ us) g named (true ∷ flags) (v ∷ vs) gs bs (a, b, e, one, rest) k =
        let s = split-at gs a b bs e k in
        let x = part-shows t (term-shows t) named.0 l i false least most c u g.0 v a s.first one s.first_gifts in
        let y = parts-show ps l (i + 1) cs us g.1 named.1 flags vs b s.rest rest s.rest_gifts in
        ((x.0, y.0), told-both (gives M l i c u v) (present_children M l (i + 1) cs us flags (roses_of vs)) s.first s.rest bs x.1 y.1 s.is)
    parts-show (model.more (occurs t least most) ps) l i (c ∷ cs) (u ∷ us) g named (false ∷ flags) vs gs bs h k =
        let y = parts-show ps l (i + 1) cs us g.1 named.1 flags vs gs bs h.1 k in
        ((absent-shows t l i least most c u g.0 h.0, y.0), y.1)

    choice-shows : (ps : Particles) (l : TypeLabel) (i : ℕ) (cs : List Component) (us : List (Rose TypeLabel)) → ArePartsOf E l true ps i cs us → NamedAll N ps
        → (place : ℕ) (v : Rose ValueLabel) (gs : List kept.Child) (bs : List (Rose Plain)) → ChosenMade ps place v gs → AreGifts gs bs → ChoiceShows l i cs us place v bs
    choice-shows model.none l i cs us g named place v gs bs h k = absurd h
    choice-shows (model.more (occurs t least most) ps) l i [] us g named place v gs bs h k = absurd g
    choice-shows (model.more (occurs t least most) ps) l i (c ∷ cs) [] g named place v gs bs h k = absurd g
    choice-shows (model.more (occurs t least most) ps) l i (c ∷ cs) (u ∷ us) g named zero v gs bs h k = record {
      number = i;
      sums = omega arith;
      part = c;
      type = u;
      at = refl;
      type_at = refl;
      shows = part-shows t (term-shows t) named.0 l i true least most c u g.0 v gs bs h k;
    }
    choice-shows (model.more (occurs t least most) ps) l i (c ∷ cs) (u ∷ us) g named (suc place) v gs bs h k =
        let rest = choice-shows ps l (i + 1) cs us g.1 named.1 place v gs bs h k in
        record { number = rest.number; sums = omega (arith, rest.sums); part = rest.part; type = rest.type; at = rest.at; type_at = rest.type_at; shows = rest.shows }

  -- ---- the top particle

  pub top-shows : (p : Particle) (l : TypeLabel) (i : ℕ) (cs : List Component) (us : List (Rose TypeLabel)) → IsTop E p l i cs us → NamedTop N p
      → (flags : List Bool) (vs : List (Rose ValueLabel)) (gs : List kept.Child) (bs : List (Rose Plain)) → TopMade p flags vs gs → AreGifts gs bs → PartsShow l i cs us flags vs bs
  top-shows p l i cs us (parted ps is g) named flags vs gs bs h k =
      parts-show ps l i cs us g (subst (NamedTop N) is named) flags vs gs bs (subst (λ q. TopMade q flags vs gs) is h) k
  top-shows p l i cs us (ordered ps is single g) named flags vs gs bs h k =
      parts-show ps l i cs us g (subst (NamedTop N) is named) flags vs gs bs (subst (λ q. TopMade q flags vs gs) is h) k
  top-shows p l i cs us (whole t least most is in_one g) named flags vs gs bs h k =
      let made : TopMade (occurs t least most) flags vs gs = subst (λ q. TopMade q flags vs gs) is h in
      let parts : PartsMade (model.more (occurs t least most) model.none) flags vs gs =
      subst (λ b. elim b as (λ _. Type 0) [ true ↦ PartedMade t flags vs gs | false ↦ PartsMade (model.more (occurs t least most) model.none) flags vs gs ]) (parted-same t least most ∙ in_one) made in
      parts-show (model.more (occurs t least most) model.none) l i cs us (only-part M E depth t least most l i cs us g) (subst (NamedTop N) is named, tt) flags vs gs bs parts k
