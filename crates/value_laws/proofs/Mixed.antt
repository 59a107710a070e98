-- The texts between child elements, and the child elements behind them, are told by the kids of an element.
use Rattle.std.proofs.Common.{◌≡◌, ℕ, suc, ◌+◌, Bool, true, false, Some, None, List, [], ◌∷◌, ◌++◌, length, map, refl, sym, ap, subst, ◌∙◌, arith}
use Rattle.std.specs.Prelude.{All, if◌then◌else◌}
use Rattle.std.proofs.lemmas.List.{append-nil}
use Rattle.std.proofs.lemmas.List.Elements.{All-nil, All-cons}
use Rattle.base_trees.specs.Rose.{Rose, node, Roses, list_of, label_of, kids_of, length_all}
use Rattle.base_trees.specs.Rose as rose
use Rattle.simple_types.specs.declared.simples.Class.TheVariants.{Any}
use Rattle.simple_types.specs.declared.labels.ValueLabel.{ValueLabel}
use Rattle.simple_types.specs.declared.labels.ValueLabel.TheVariants as value
use Rattle.simple_types.specs.Reading.{spelled_text, has_characters}
use Rattle.content_models.specs.declared.particles.ParticleLabel.{ParticleLabel}
use Rattle.content_models.specs.Seen.{seen}
use Rattle.xml_items.specs.Plain.{Plain}
use Rattle.xml_items.specs.Mixing.{interleaved, child_elements, texts_between, AllElements}
use Rattle.xml_items.proofs.Mixing.{puts_together}
use Rattle.asn_types.specs.declared.modules.Assignment.{Assignment}
use Rattle.asn_types.specs.declared.roles.Role.{Role}
use Rattle.asn_types.specs.declared.roles.Role.TheVariants as role
use Rattle.asn_types.specs.declared.types.Component.{Component}
use Rattle.asn_types.specs.declared.types.Form.TheVariants as form
use Rattle.asn_types.specs.declared.types.TypeLabel.{TypeLabel}
use Rattle.asn_types.specs.Roles.{role_of}
use Rattle.asn_values.specs.Values.{places_in, places, below, OwnAt, FitsAt, FitEach, first_count, text_count, is_order_role, item_number}
use Rattle.schema_components.specs.declared.components.AttributeUse.{AttributeUse}
use Rattle.schema_components.specs.declared.components.Content.TheVariants as content_
use Rattle.schema_components.specs.Components.{Set}
use Rattle.map_assignments.specs.Naming.{type_label}
use Rattle.map_assignments.proofs.Resolving.{follow-none}
use Rattle.map_laws.specs.Children.{Child, child_of, given_by, children}
use Rattle.map_laws.specs.Standing.{Behind, IsOnly, IsInner, HasParts, AreTexts, WithTexts, WithOrder, WithAttributes, AreRest}
use Rattle.map_laws.proofs.OrderValues.{order-decided}
use Rattle.map_laws.proofs.Regions.{numbers_of}
use Rattle.map_laws.proofs.Values.{gives, present_children, PartsFit, ItemsFit, sequence-value, list-value}
use Rattle.xer_items.specs.Items.{Given, nothing, joined, both, placed, inside, texts_of}
use Rattle.value_laws.proofs.Groups.{told, shown, gives_at, present_given, sequence-inside, top-shows}
use Rattle.value_laws.proofs.Walking.{last_from}
use Rattle.value_laws.proofs.Attributes.{attribute-gives}

-- ---- texts

abbrev pub text_in : Rose ValueLabel → List ℕ
text_in u = spelled_text (label_of u)

pub length-texts : (us : List (Rose ValueLabel)) → length (map text_in us) ≡ length us
length-texts [] = refl
length-texts (u ∷ us) = ap suc (length-texts us)

-- of characters of XML alone
abbrev pub IsXmlText : List ℕ → Type 0
IsXmlText words = has_characters 0 None Any words ≡ true

module _ (M : List Assignment) where
  abbrev text_type : Rose TypeLabel
  text_type = node (type_label (form.Utf8 0 None Any) []) rose.none

  abbrev IsText : Rose ValueLabel → Type 0
  IsText x = (words : List ℕ) × (x ≡ node (value.Utf8 words) rose.none)

  leaf-text : (depth : ℕ) (x : Rose ValueLabel) → FitsAt M depth text_type x → IsText x
  unfolding FitsAt FitEach
  leaf-text depth (node w vs) h =
      by w vs (subst (λ t. elim (places t w (length_all vs)) as (λ _. Type 0) [ None ↦ ⊥ | Some ps ↦ FitEach M depth ps vs ]) (follow-none M 4 text_type refl) h.1)
    where
      by : (w : ValueLabel) (vs : Roses ValueLabel) → elim (places_in (type_label (form.Utf8 0 None Any) []) [] (form.Utf8 0 None Any) w (length_all vs)) as (λ _. Type 0) [ None ↦ ⊥ | Some ps ↦ FitEach M depth ps vs ] → IsText (node w vs)
      by (value.Utf8 words) rose.none k = (words, refl)
      by (value.Utf8 words) (rose.more v vs) k = absurd k
      by (value.Bool b) vs k = absurd k
      by (value.Int z) vs k = absurd k
      by (value.Enum i) vs k = absurd k
      by (value.Sequence flags) vs k = absurd k
      by (value.Choice i) vs k = absurd k
      by value.SequenceOf vs k = absurd k

  text-xml : (depth : ℕ) (words : List ℕ) → FitsAt M depth text_type (node (value.Utf8 words) rose.none) → IsXmlText words
  unfolding FitsAt
  text-xml depth words h = (subst (λ t. OwnAt M (label_of t) t (node (value.Utf8 words) rose.none)) (follow-none M 4 text_type refl) h.2).0.1

  item-xml : (depth : ℕ) (x : Rose ValueLabel) → FitsAt M depth text_type x → IsXmlText (text_in x)
  item-xml depth x h =
      let t = leaf-text depth x h in
      subst (λ z. IsXmlText (text_in z)) (sym t.1) (text-xml depth t.0 (subst (FitsAt M depth text_type) t.1 h))

  items-xml : (depth : ℕ) (l : TypeLabel) (c : Component) (vs : Roses ValueLabel) → ItemsFit M depth l c text_type vs → All IsXmlText (map text_in (list_of vs))
  items-xml depth l c rose.none h = All-nil IsXmlText
  items-xml depth l c (rose.more v vs) h =
      All-cons IsXmlText (text_in v) (map text_in (list_of vs)) (item-xml (below (role_of l 0 c) depth) v h.0) (items-xml depth l c vs h.1)

  pub texts-xml : (depth : ℕ) (u : Rose TypeLabel) (v : Rose ValueLabel) → AreTexts u → FitsAt M depth u v → All IsXmlText (map text_in (kids_of v))
  texts-xml depth u v are h =
      let l = type_label (form.SequenceOf are.item 0 None) [] in
      let a = list-value M depth [] are.item text_type 0 None v (subst (λ x. FitsAt M depth x v) are.type h) in
      subst (λ x. All IsXmlText (map text_in (kids_of x))) (sym a.is) (items-xml depth l are.item a.values a.fit)

  abbrev first_words : List (List ℕ) → List ℕ
  first_words [] = []
  first_words (w ∷ ws) = w

  abbrev behind_words : List (List ℕ) → List (List ℕ)
  behind_words [] = []
  behind_words (w ∷ ws) = ws

  same-text : (v w : Rose ValueLabel) → IsText v → IsText w → text_in v ≡ text_in w → v ≡ w
  same-text v w a b e =
      let words : a.0 ≡ b.0 = sym (ap text_in a.1) ∙ e ∙ ap text_in b.1 in
      a.1 ∙ ap (λ x. node (value.Utf8 x) rose.none) words ∙ sym b.1

  same-texts : (depth : ℕ) (l : TypeLabel) (c : Component) (vs ws : Roses ValueLabel) → ItemsFit M depth l c text_type vs → ItemsFit M depth l c text_type ws
      → map text_in (list_of vs) ≡ map text_in (list_of ws) → vs ≡ ws
  same-texts depth l c rose.none rose.none hv hw e = refl
  same-texts depth l c rose.none (rose.more w ws) hv hw e = absurd (cc)
  same-texts depth l c (rose.more v vs) rose.none hv hw e = absurd (cc)
  same-texts depth l c (rose.more v vs) (rose.more w ws) hv hw e =
      let d = below (role_of l 0 c) depth in
      let one = same-text v w (leaf-text d v hv.0) (leaf-text d w hw.0) (ap first_words e) in
      let rest = same-texts depth l c vs ws hv.1 hw.1 (ap behind_words e) in
      ap (λ z. rose.more z vs) one ∙ ap (λ z. rose.more w z) rest

  embed-same : (depth : ℕ) (u : Rose TypeLabel) (v w : Rose ValueLabel) → AreTexts u → FitsAt M depth u v → FitsAt M depth u w → map text_in (kids_of v) ≡ map text_in (kids_of w) → v ≡ w
  embed-same depth u v w are hv hw e =
      let l = type_label (form.SequenceOf are.item 0 None) [] in
      let a = list-value M depth [] are.item text_type 0 None v (subst (λ x. FitsAt M depth x v) are.type hv) in
      let b = list-value M depth [] are.item text_type 0 None w (subst (λ x. FitsAt M depth x w) are.type hw) in
      let texts : map text_in (list_of a.values) ≡ map text_in (list_of b.values) =
      sym (ap (λ x. map text_in (kids_of x)) a.is) ∙ e ∙ ap (λ x. map text_in (kids_of x)) b.is in
      let same = same-texts depth l are.item a.values b.values a.fit b.fit texts in
      a.is ∙ ap (λ z. node value.SequenceOf z) same ∙ sym b.is

  -- ---- texts and elements

  told-elements : (xs : List Child) → AllElements (told M xs)
  told-elements [] = tt
  told-elements (x ∷ xs) = (tt, told-elements xs)

  told-length : (xs : List Child) → length_all (told M xs) ≡ length xs
  told-length [] = refl
  told-length (x ∷ xs) = ap suc (told-length xs)

  pub parted : (nil : Bool) (tv tw : List (List ℕ)) (xs ys : List Child) → length tv ≡ text_count nil (length xs) → length tw ≡ text_count nil (length ys)
      → interleaved tv (told M xs) ≡ interleaved tw (told M ys) → (tv ≡ tw) × (told M xs ≡ told M ys)
  parted true [] [] xs ys a b e = (refl, e)
  parted true (t ∷ ts) tw xs ys a b e = absurd (cc)
  parted true [] (t ∷ ts) xs ys a b e = absurd (cc)
  parted false tv tw xs ys a b e =
      let lv = told-length xs in
      let lw = told-length ys in
      let p = puts_together tv (told M xs) (told-elements xs) (omega (arith, a, lv)) in
      let q = puts_together tw (told M ys) (told-elements ys) (omega (arith, b, lw)) in
      (sym p.1 ∙ ap texts_between e ∙ q.1, sym p.2 ∙ ap child_elements e ∙ q.2)

module _ (M : List Assignment) (depth : ℕ) (s : Set) where
  -- these parts give their child elements, and nothing between them
  abbrev pub TellKids : TypeLabel → Behind → Type 0
  TellKids l R =
      (i : ℕ) (cs : List Component) (us : List (Rose TypeLabel)) (fs : List Bool) (vs : Roses ValueLabel) → R i cs us → PartsFit M depth l i cs us fs vs
      → (present_given M l i cs us fs vs).kids ≡ told M (present_children M l i cs us fs vs)

  pub attributes-tell : (l : TypeLabel) (R : Behind) → TellKids l R → (ds : List AttributeUse) → TellKids l (WithAttributes s M l R ds)
  attributes-tell l R f [] i cs us fs vs g h = f i cs us fs vs g h
  attributes-tell l R f (d ∷ ds) i [] us fs vs g h = absurd g
  attributes-tell l R f (d ∷ ds) i (c ∷ cs) [] fs vs g h = absurd g
  attributes-tell l R f (d ∷ ds) i (c ∷ cs) (u ∷ us) [] vs g h = absurd h
  attributes-tell l R f (d ∷ ds) i (c ∷ cs) (u ∷ us) (true ∷ fs) rose.none g h = absurd h
  attributes-tell l R f (d ∷ ds) i (c ∷ cs) (u ∷ us) (true ∷ fs) (rose.more v vs) g h =
      let rest = present_given M l (i + 1) cs us fs vs in
      let made = present_children M l (i + 1) cs us fs vs in
      ap (λ (z : Given). joined z.kids rest.kids) (attribute-gives M depth s l i c u v d g.0)
      ∙ attributes-tell l R f ds (i + 1) cs us fs vs g.1 h.1
      ∙ sym (ap (λ r. told M (given_by r (child_of c u v) (children M u v) ++ made)) g.0.is.role)
  attributes-tell l R f (d ∷ ds) i (c ∷ cs) (u ∷ us) (false ∷ fs) vs g h = attributes-tell l R f ds (i + 1) cs us fs vs g.1 h.1

  -- so do the parts with the texts and the order before them
  front-tells : (l : TypeLabel) (R : Behind) (i : ℕ) (c : Component) (u : Rose TypeLabel) (cs : List Component) (us : List (Rose TypeLabel)) (r : Role) → role_of l i c ≡ r
      → ((v : Rose ValueLabel) (rest : Given) → (both (placed M (record { role = r; part = c; type = u }) v (inside M u v)) rest).kids ≡ rest.kids)
      → ((own : Child) (inner : List Child) → given_by r own inner ≡ [])
      → (fs : List Bool) (vs : Roses ValueLabel) → PartsFit M depth l i (c ∷ cs) (u ∷ us) fs vs
      → ((ft : List Bool) (ws : Roses ValueLabel) → PartsFit M depth l (i + 1) cs us ft ws → (present_given M l (i + 1) cs us ft ws).kids ≡ told M (present_children M l (i + 1) cs us ft ws))
      → (present_given M l i (c ∷ cs) (u ∷ us) fs vs).kids ≡ told M (present_children M l i (c ∷ cs) (u ∷ us) fs vs)
  front-tells l R i c u cs us r is none nothing_given [] vs h f = absurd h
  front-tells l R i c u cs us r is none nothing_given (true ∷ fs) rose.none h f = absurd h
  front-tells l R i c u cs us r is none nothing_given (true ∷ fs) (rose.more v vs) h f =
      let rest = present_given M l (i + 1) cs us fs vs in
      let made = present_children M l (i + 1) cs us fs vs in
      ap (λ x. (both (placed M (record { role = x; part = c; type = u }) v (inside M u v)) rest).kids) is ∙ none v rest ∙ f fs vs h.1
      ∙ sym (ap (λ x. told M (given_by x (child_of c u v) (children M u v) ++ made)) is ∙ ap (λ x. told M (x ++ made)) (nothing_given (child_of c u v) (children M u v)))
  front-tells l R i c u cs us r is none nothing_given (false ∷ fs) vs h f = f fs vs h.1

  pub order-tells : (l : TypeLabel) (R : Behind) → TellKids l R → (all : Bool) (count : ℕ) → TellKids l (WithOrder all count l R)
  order-tells l R f false count i cs us fs vs g h = f i cs us fs vs g h
  order-tells l R f true count i [] us fs vs g h = absurd g
  order-tells l R f true count i (c ∷ cs) [] fs vs g h = absurd g
  order-tells l R f true count i (c ∷ cs) (u ∷ us) fs vs g h =
      front-tells l R i c u cs us role.Order g.0.is.role (λ v rest. refl) (λ own inner. refl) fs vs h (λ ft ws k. f (i + 1) cs us ft ws g.1 k)

  pub texts-tell : (l : TypeLabel) (R : Behind) → TellKids l R → (m : Bool) → TellKids l (WithTexts m l R)
  texts-tell l R f false i cs us fs vs g h = f i cs us fs vs g h
  texts-tell l R f true i [] us fs vs g h = absurd g
  texts-tell l R f true i (c ∷ cs) [] fs vs g h = absurd g
  texts-tell l R f true i (c ∷ cs) (u ∷ us) fs vs g h =
      front-tells l R i c u cs us role.Embed g.0.is.role (λ v rest. refl) (λ own inner. refl) fs vs h (λ ft ws k. f (i + 1) cs us ft ws g.1 k)

  module _ (E : ℕ → Rose TypeLabel → Type 0) where
    joined-rest : (k : Roses Plain) → joined k rose.none ≡ k
    joined-rest rose.none = refl
    joined-rest (rose.more x k) = ap (λ z. rose.more x z) (joined-rest k)

    only-tells : (p : Rose ParticleLabel) (l : TypeLabel) → TellKids l (λ i cs us. IsOnly (IsInner (HasParts E s M (content_.Mixed p)) l i) cs us)
    only-tells p l i [] us fs vs g h = absurd g
    only-tells p l i (c ∷ []) [] fs vs g h = absurd g
    only-tells p l i (c ∷ []) (u ∷ x ∷ us) fs vs g h = absurd g
    only-tells p l i (c ∷ d ∷ cs) us fs vs g h = absurd g
    only-tells p l i (c ∷ []) (u ∷ []) [] vs g h = absurd h
    only-tells p l i (c ∷ []) (u ∷ []) (true ∷ fs) rose.none g h = absurd h
    only-tells p l i (c ∷ []) (u ∷ []) (true ∷ b ∷ fs) (rose.more v vs) g h = absurd h.1
    only-tells p l i (c ∷ []) (u ∷ []) (false ∷ b ∷ fs) vs g h = absurd h.1
    only-tells p l i (c ∷ []) (u ∷ []) (false ∷ []) vs g h = refl
    only-tells p l i (c ∷ []) (u ∷ []) (true ∷ []) (rose.more v vs) g h =
        let has = g.type in
        let k = type_label (form.Sequence has.0) [] in
        let fits : FitsAt M depth u v = subst (λ r. FitsAt M (below r depth) u v) g.is.role h.0 in
        let a = sequence-value M depth [] has.0 has.1 v (subst (λ x. FitsAt M depth x v) has.2 fits) in
        let made = present_children M k 0 has.0 (list_of has.1) a.flags a.values in
        let insides : inside M u v ≡ shown M made =
        ap (λ x. inside M x v) has.2 ∙ ap (λ x. inside M (node k has.1) x) a.is ∙ sequence-inside M depth [] has.0 has.1 a.flags a.values refl refl a.fit
        ∙ top-shows M depth E (seen p) k 0 has.0 (list_of has.1) a.flags a.values has.3 a.fit in
        let here : gives_at M l i c u v ≡ shown M made = ap (λ r. placed M (record { role = r; part = c; type = u }) v (inside M u v)) g.is.role ∙ insides in
        let kids : gives M l i c u v ≡ made = ap (λ r. given_by r (child_of c u v) (children M u v)) g.is.role ∙ ap (λ x. children M x v) has.2 ∙ a.gives_all in
        ap (λ (z : Given). joined z.kids rose.none) here ∙ joined-rest (told M made) ∙ sym (ap (told M) (append-nil (gives M l i c u v) ∙ kids))

    pub rest-tells : (b : Bool) (p : Rose ParticleLabel) (l : TypeLabel) → TellKids l (AreRest E s M b (content_.Mixed p) l)
    rest-tells false p l i cs us fs vs g h = ap (λ (z : Given). z.kids) (top-shows M depth E (seen p) l i cs us fs vs g h)
    rest-tells true p l i cs us fs vs g h = only-tells p l i cs us fs vs g h

    pub elements-tell : (b : Bool) (p : Rose ParticleLabel) (l : TypeLabel) → TellKids l (AreRest E s M b (content_.ElementOnly p) l)
    elements-tell false p l i cs us fs vs g h = rest-tells false p l i cs us fs vs g h
    elements-tell true p l i cs us fs vs g h = rest-tells true p l i cs us fs vs g h

  module _ (nillable : Bool) where
    -- where the parts behind the texts are told by their items, so are the texts
    pub mixed-same : (l : TypeLabel) (R : Behind)
        → ((i : ℕ) (cs : List Component) (us : List (Rose TypeLabel)) (fv : List Bool) (vs : Roses ValueLabel) (fw : List Bool) (ws : Roses ValueLabel) → R i cs us
        → PartsFit M depth l i cs us fv vs → PartsFit M depth l i cs us fw ws → (x : Bool) → (nillable ≡ true → last_from x fv ≡ last_from x fw)
        → (present_given M l i cs us fv vs).attributes ≡ (present_given M l i cs us fw ws).attributes
        → (present_given M l i cs us fv vs).kids ≡ (present_given M l i cs us fw ws).kids → (fv ≡ fw) × (vs ≡ ws))
        → TellKids l R → (i : ℕ) (cs : List Component) (us : List (Rose TypeLabel)) (fv : List Bool) (vs : Roses ValueLabel) (fw : List Bool) (ws : Roses ValueLabel) → WithTexts true l R i cs us
        → PartsFit M depth l i cs us fv vs → PartsFit M depth l i cs us fw ws → (x : Bool) → (nillable ≡ true → last_from x fv ≡ last_from x fw) → (nil : Bool)
        → first_count (value.Sequence fv) (list_of vs) ≡ text_count nil (length (present_children M l i cs us fv vs))
        → first_count (value.Sequence fw) (list_of ws) ≡ text_count nil (length (present_children M l i cs us fw ws))
        → (present_given M l i cs us fv vs).attributes ≡ (present_given M l i cs us fw ws).attributes
        → interleaved (texts_of (value.Sequence fv) vs) (present_given M l i cs us fv vs).kids ≡ interleaved (texts_of (value.Sequence fw) ws) (present_given M l i cs us fw ws).kids
        → (fv ≡ fw) × (vs ≡ ws)
    mixed-same l R f tells i [] us fv vs fw ws g hv hw x a nil nv nw p k = absurd g
    mixed-same l R f tells i (c ∷ cs) [] fv vs fw ws g hv hw x a nil nv nw p k = absurd g
    mixed-same l R f tells i (c ∷ cs) (u ∷ us) [] vs fw ws g hv hw x a nil nv nw p k = absurd hv
    mixed-same l R f tells i (c ∷ cs) (u ∷ us) (b ∷ fv) vs [] ws g hv hw x a nil nv nw p k = absurd hw
    mixed-same l R f tells i (c ∷ cs) (u ∷ us) (false ∷ fv) vs fw ws g hv hw x a nil nv nw p k = absurd (let e = sym hv.0 ∙ g.0.is.absent in cc)
    mixed-same l R f tells i (c ∷ cs) (u ∷ us) (true ∷ fv) vs (false ∷ fw) ws g hv hw x a nil nv nw p k = absurd (let e = sym hw.0 ∙ g.0.is.absent in cc)
    mixed-same l R f tells i (c ∷ cs) (u ∷ us) (true ∷ fv) rose.none (true ∷ fw) ws g hv hw x a nil nv nw p k = absurd hv
    mixed-same l R f tells i (c ∷ cs) (u ∷ us) (true ∷ fv) (rose.more v vs) (true ∷ fw) rose.none g hv hw x a nil nv nw p k = absurd hw
    mixed-same l R f tells i (c ∷ cs) (u ∷ us) (true ∷ fv) (rose.more v vs) (true ∷ fw) (rose.more w ws) g hv hw x a nil nv nw p k =
        let rv = present_given M l (i + 1) cs us fv vs in
        let rw_ = present_given M l (i + 1) cs us fw ws in
        let mv = present_children M l (i + 1) cs us fv vs in
        let mw = present_children M l (i + 1) cs us fw ws in
        let fits_v : FitsAt M depth u v = subst (λ r. FitsAt M (below r depth) u v) g.0.is.role hv.0 in
        let fits_w : FitsAt M depth u w = subst (λ r. FitsAt M (below r depth) u w) g.0.is.role hw.0 in
        let ev : both (gives_at M l i c u v) rv ≡ both nothing rv = ap (λ r. both (placed M (record { role = r; part = c; type = u }) v (inside M u v)) rv) g.0.is.role in
        let ew : both (gives_at M l i c u w) rw_ ≡ both nothing rw_ = ap (λ r. both (placed M (record { role = r; part = c; type = u }) w (inside M u w)) rw_) g.0.is.role in
        let cv : length (map text_in (kids_of v)) ≡ text_count nil (length mv) =
        length-texts (kids_of v) ∙ nv ∙ ap (λ r. text_count nil (length (given_by r (child_of c u v) (children M u v) ++ mv))) g.0.is.role in
        let cw : length (map text_in (kids_of w)) ≡ text_count nil (length mw) =
        length-texts (kids_of w) ∙ nw ∙ ap (λ r. text_count nil (length (given_by r (child_of c u w) (children M u w) ++ mw))) g.0.is.role in
        let kv : (both (gives_at M l i c u v) rv).kids ≡ told M mv = ap (λ (z : Given). z.kids) ev ∙ tells (i + 1) cs us fv vs g.1 hv.1 in
        let kw : (both (gives_at M l i c u w) rw_).kids ≡ told M mw = ap (λ (z : Given). z.kids) ew ∙ tells (i + 1) cs us fw ws g.1 hw.1 in
        let split = parted M nil (map text_in (kids_of v)) (map text_in (kids_of w)) mv mw cv cw
        (sym (ap (λ z. interleaved (map text_in (kids_of v)) z) kv) ∙ k ∙ ap (λ z. interleaved (map text_in (kids_of w)) z) kw) in
        let texts = embed-same M depth u v w g.0.type fits_v fits_w split.0 in
        let attributes : rv.attributes ≡ rw_.attributes = sym (ap (λ (z : Given). z.attributes) ev) ∙ p ∙ ap (λ (z : Given). z.attributes) ew in
        let kids : rv.kids ≡ rw_.kids = tells (i + 1) cs us fv vs g.1 hv.1 ∙ split.1 ∙ sym (tells (i + 1) cs us fw ws g.1 hw.1) in
        let rest = f (i + 1) cs us fv vs fw ws g.1 hv.1 hw.1 false a attributes kids in
        (ap (λ z. true ∷ z) rest.0, ap (λ z. rose.more z vs) texts ∙ ap (λ z. rose.more w z) rest.1)

    -- ---- where an order tells the elements

    abbrev pub SameBehind : TypeLabel → Behind → Type 0
    SameBehind l R =
        (i : ℕ) (cs : List Component) (us : List (Rose TypeLabel)) (fv : List Bool) (vs : Roses ValueLabel) (fw : List Bool) (ws : Roses ValueLabel) → R i cs us
        → PartsFit M depth l i cs us fv vs → PartsFit M depth l i cs us fw ws → (x : Bool) → (nillable ≡ true → last_from x fv ≡ last_from x fw)
        → (present_given M l i cs us fv vs).attributes ≡ (present_given M l i cs us fw ws).attributes
        → (present_given M l i cs us fv vs).kids ≡ (present_given M l i cs us fw ws).kids → (fv ≡ fw) × (vs ≡ ws)

    -- with the same numbers
    abbrev pub SameTold : TypeLabel → Behind → Type 0
    SameTold l R =
        (i : ℕ) (cs : List Component) (us : List (Rose TypeLabel)) (fv : List Bool) (vs : Roses ValueLabel) (fw : List Bool) (ws : Roses ValueLabel) → R i cs us
        → PartsFit M depth l i cs us fv vs → PartsFit M depth l i cs us fw ws → (x : Bool) → (nillable ≡ true → last_from x fv ≡ last_from x fw)
        → (present_given M l i cs us fv vs).attributes ≡ (present_given M l i cs us fw ws).attributes
        → (present_given M l i cs us fv vs).kids ≡ (present_given M l i cs us fw ws).kids
        → numbers_of l i cs fv vs ≡ numbers_of l i cs fw ws → (fv ≡ fw) × (vs ≡ ws)

    pub order-same : (l : TypeLabel) (R : Behind) (count : ℕ) → SameBehind l R → SameTold l (WithOrder true count l R)
    order-same l R count f i [] us fv vs fw ws g hv hw x a p k n = absurd g
    order-same l R count f i (c ∷ cs) [] fv vs fw ws g hv hw x a p k n = absurd g
    order-same l R count f i (c ∷ cs) (u ∷ us) [] vs fw ws g hv hw x a p k n = absurd hv
    order-same l R count f i (c ∷ cs) (u ∷ us) (b ∷ fv) vs [] ws g hv hw x a p k n = absurd hw
    order-same l R count f i (c ∷ cs) (u ∷ us) (false ∷ fv) vs fw ws g hv hw x a p k n = absurd (let e = sym hv.0 ∙ g.0.is.absent in cc)
    order-same l R count f i (c ∷ cs) (u ∷ us) (true ∷ fv) vs (false ∷ fw) ws g hv hw x a p k n = absurd (let e = sym hw.0 ∙ g.0.is.absent in cc)
    order-same l R count f i (c ∷ cs) (u ∷ us) (true ∷ fv) rose.none (true ∷ fw) ws g hv hw x a p k n = absurd hv
    order-same l R count f i (c ∷ cs) (u ∷ us) (true ∷ fv) (rose.more v vs) (true ∷ fw) rose.none g hv hw x a p k n = absurd hw
    order-same l R count f i (c ∷ cs) (u ∷ us) (true ∷ fv) (rose.more v vs) (true ∷ fw) (rose.more w ws) g hv hw x a p k n =
        let is = g.0.is.role in
        let rv = present_given M l (i + 1) cs us fv vs in
        let rw_ = present_given M l (i + 1) cs us fw ws in
        let fits_v : FitsAt M depth u v = subst (λ r. FitsAt M (below r depth) u v) is hv.0 in
        let fits_w : FitsAt M depth u w = subst (λ r. FitsAt M (below r depth) u w) is hw.0 in
        let ev : both (gives_at M l i c u v) rv ≡ both nothing rv = ap (λ r. both (placed M (record { role = r; part = c; type = u }) v (inside M u v)) rv) is in
        let ew : both (gives_at M l i c u w) rw_ ≡ both nothing rw_ = ap (λ r. both (placed M (record { role = r; part = c; type = u }) w (inside M u w)) rw_) is in
        let here : map item_number (kids_of v) ≡ map item_number (kids_of w) =
        sym (ap (λ r. if is_order_role r then map item_number (kids_of v) else numbers_of l (i + 1) cs fv vs) is) ∙ n
        ∙ ap (λ r. if is_order_role r then map item_number (kids_of w) else numbers_of l (i + 1) cs fw ws) is in
        let one = order-decided M depth count u g.0.type v w fits_v fits_w here in
        let attributes : rv.attributes ≡ rw_.attributes = sym (ap (λ (z : Given). z.attributes) ev) ∙ p ∙ ap (λ (z : Given). z.attributes) ew in
        let kids : rv.kids ≡ rw_.kids = sym (ap (λ (z : Given). z.kids) ev) ∙ k ∙ ap (λ (z : Given). z.kids) ew in
        let rest = f (i + 1) cs us fv vs fw ws g.1 hv.1 hw.1 false a attributes kids in
        (ap (λ z. true ∷ z) rest.0, ap (λ z. rose.more z vs) one ∙ ap (λ z. rose.more w z) rest.1)

    -- and the same texts
    pub texts-same : (l : TypeLabel) (R : Behind) (m : Bool) → SameTold l R
        → (i : ℕ) (cs : List Component) (us : List (Rose TypeLabel)) (fv : List Bool) (vs : Roses ValueLabel) (fw : List Bool) (ws : Roses ValueLabel) → WithTexts m l R i cs us
        → PartsFit M depth l i cs us fv vs → PartsFit M depth l i cs us fw ws → (x : Bool) → (nillable ≡ true → last_from x fv ≡ last_from x fw)
        → (m ≡ true → texts_of (value.Sequence fv) vs ≡ texts_of (value.Sequence fw) ws)
        → (present_given M l i cs us fv vs).attributes ≡ (present_given M l i cs us fw ws).attributes
        → (present_given M l i cs us fv vs).kids ≡ (present_given M l i cs us fw ws).kids
        → numbers_of l i cs fv vs ≡ numbers_of l i cs fw ws → (fv ≡ fw) × (vs ≡ ws)
    texts-same l R false f i cs us fv vs fw ws g hv hw x a t p k n = f i cs us fv vs fw ws g hv hw x a p k n
    texts-same l R true f i [] us fv vs fw ws g hv hw x a t p k n = absurd g
    texts-same l R true f i (c ∷ cs) [] fv vs fw ws g hv hw x a t p k n = absurd g
    texts-same l R true f i (c ∷ cs) (u ∷ us) [] vs fw ws g hv hw x a t p k n = absurd hv
    texts-same l R true f i (c ∷ cs) (u ∷ us) (b ∷ fv) vs [] ws g hv hw x a t p k n = absurd hw
    texts-same l R true f i (c ∷ cs) (u ∷ us) (false ∷ fv) vs fw ws g hv hw x a t p k n = absurd (let e = sym hv.0 ∙ g.0.is.absent in cc)
    texts-same l R true f i (c ∷ cs) (u ∷ us) (true ∷ fv) vs (false ∷ fw) ws g hv hw x a t p k n = absurd (let e = sym hw.0 ∙ g.0.is.absent in cc)
    texts-same l R true f i (c ∷ cs) (u ∷ us) (true ∷ fv) rose.none (true ∷ fw) ws g hv hw x a t p k n = absurd hv
    texts-same l R true f i (c ∷ cs) (u ∷ us) (true ∷ fv) (rose.more v vs) (true ∷ fw) rose.none g hv hw x a t p k n = absurd hw
    texts-same l R true f i (c ∷ cs) (u ∷ us) (true ∷ fv) (rose.more v vs) (true ∷ fw) (rose.more w ws) g hv hw x a t p k n =
        let is = g.0.is.role in
        let rv = present_given M l (i + 1) cs us fv vs in
        let rw_ = present_given M l (i + 1) cs us fw ws in
        let fits_v : FitsAt M depth u v = subst (λ r. FitsAt M (below r depth) u v) is hv.0 in
        let fits_w : FitsAt M depth u w = subst (λ r. FitsAt M (below r depth) u w) is hw.0 in
        let ev : both (gives_at M l i c u v) rv ≡ both nothing rv = ap (λ r. both (placed M (record { role = r; part = c; type = u }) v (inside M u v)) rv) is in
        let ew : both (gives_at M l i c u w) rw_ ≡ both nothing rw_ = ap (λ r. both (placed M (record { role = r; part = c; type = u }) w (inside M u w)) rw_) is in
        let one = embed-same M depth u v w g.0.type fits_v fits_w (t refl) in
        let attributes : rv.attributes ≡ rw_.attributes = sym (ap (λ (z : Given). z.attributes) ev) ∙ p ∙ ap (λ (z : Given). z.attributes) ew in
        let kids : rv.kids ≡ rw_.kids = sym (ap (λ (z : Given). z.kids) ev) ∙ k ∙ ap (λ (z : Given). z.kids) ew in
        let numbers : numbers_of l (i + 1) cs fv vs ≡ numbers_of l (i + 1) cs fw ws =
        sym (ap (λ r. if is_order_role r then map item_number (kids_of v) else numbers_of l (i + 1) cs fv vs) is) ∙ n
        ∙ ap (λ r. if is_order_role r then map item_number (kids_of w) else numbers_of l (i + 1) cs fw ws) is in
        let rest = f (i + 1) cs us fv vs fw ws g.1 hv.1 hw.1 false a attributes kids numbers in
        (ap (λ z. true ∷ z) rest.0, ap (λ z. rose.more z vs) one ∙ ap (λ z. rose.more w z) rest.1)

pub first-texts : (flags : List Bool) (vs : Roses ValueLabel) → length (texts_of (value.Sequence flags) vs) ≡ first_count (value.Sequence flags) (list_of vs)
first-texts [] vs = refl
first-texts (false ∷ flags) vs = refl
first-texts (true ∷ flags) rose.none = refl
first-texts (true ∷ flags) (rose.more v vs) = length-texts (kids_of v)
