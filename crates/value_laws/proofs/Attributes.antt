-- The attributes that two values give decide their parts for attributes.
use Rattle.std.proofs.Common.{◌≡◌, ℕ, ◌+◌, Bool, true, false, List, [], ◌∷◌, ◌++◌, refl, sym, ap, subst, ◌∙◌}
use Rattle.base_texts.specs.declared.texts.Name.{Name}
use Rattle.base_trees.specs.Rose.{Rose, node, Roses, list_of}
use Rattle.base_trees.specs.Rose as rose
use Rattle.simple_types.specs.declared.labels.ValueLabel.{ValueLabel}
use Rattle.content_models.specs.Seen.{seen}
use Rattle.xml_items.specs.Mixing.{text_before}
use Rattle.asn_types.specs.declared.modules.Assignment.{Assignment}
use Rattle.asn_types.specs.declared.types.Component.{Component}
use Rattle.asn_types.specs.declared.types.Form.TheVariants as form
use Rattle.asn_types.specs.declared.types.TypeLabel.{TypeLabel}
use Rattle.asn_types.specs.Refs.{resolve}
use Rattle.asn_values.specs.Values.{below, FitsAt}
use Rattle.schema_components.specs.declared.components.AttributeUse.{AttributeUse}
use Rattle.schema_components.specs.declared.components.Content.{Content}
use Rattle.schema_components.specs.declared.components.Content.TheVariants as content_
use Rattle.schema_components.specs.Components.{Set}
use Rattle.map_assignments.specs.Naming.{type_label}
use Rattle.map_laws.specs.Standing.{Behind, IsOnly, IsInner, HasParts, HasInner, IsAttribute, IsSimpleOf, WithAttributes, AreContent, AreRest}
use Rattle.map_laws.proofs.Values.{PartsFit, sequence-value}
use Rattle.asn_types.specs.Spaces.{spelling}
use Rattle.xer_items.specs.Items.{Given, given, joined, placed, inside}
use Rattle.value_laws.proofs.Groups.{gives_at, present_given, sequence-inside, top-shows}
use Rattle.value_laws.proofs.Walking.{last_from, Outside, Apart, AllApart}

module _ (M : List Assignment) (depth : ℕ) (s : Set) where
  -- these parts give no attributes
  abbrev pub Silent : TypeLabel → Behind → Type 0
  Silent l R =
      (i : ℕ) (cs : List Component) (us : List (Rose TypeLabel)) (fs : List Bool) (vs : Roses ValueLabel) → R i cs us → PartsFit M depth l i cs us fs vs
      → (present_given M l i cs us fs vs).attributes ≡ []

  pub attribute-gives : (l : TypeLabel) (i : ℕ) (c : Component) (u : Rose TypeLabel) (v : Rose ValueLabel) (d : AttributeUse) → IsAttribute s M d l i c u
      → gives_at M l i c u v ≡ given ((d.name, spelling M u v) ∷ []) rose.none
  attribute-gives l i c u v d a =
      ap (λ r. placed M (record { role = r; part = c; type = u }) v (inside M u v)) a.is.role
      ∙ ap (λ n. given ((n, spelling M u v) ∷ []) rose.none) a.name

  pub outside : (l : TypeLabel) (R : Behind) → Silent l R → (n : Name) (ds : List AttributeUse) → Apart n ds → (i : ℕ) (cs : List Component) (us : List (Rose TypeLabel)) (fs : List Bool) (vs : Roses ValueLabel)
      → WithAttributes s M l R ds i cs us → PartsFit M depth l i cs us fs vs → Outside n (present_given M l i cs us fs vs).attributes
  outside l R silent n [] other i cs us fs vs g h = subst (Outside n) (sym (silent i cs us fs vs g h)) tt
  outside l R silent n (d ∷ ds) other i [] us fs vs g h = absurd g
  outside l R silent n (d ∷ ds) other i (c ∷ cs) [] fs vs g h = absurd g
  outside l R silent n (d ∷ ds) other i (c ∷ cs) (u ∷ us) [] vs g h = absurd h
  outside l R silent n (d ∷ ds) other i (c ∷ cs) (u ∷ us) (true ∷ fs) rose.none g h = absurd h
  outside l R silent n (d ∷ ds) other i (c ∷ cs) (u ∷ us) (true ∷ fs) (rose.more v vs) g h =
      let rest = present_given M l (i + 1) cs us fs vs in
      subst (Outside n) (sym (ap (λ (z : Given). z.attributes ++ rest.attributes) (attribute-gives l i c u v d g.0)))
      (other.0, outside l R silent n ds other.1 (i + 1) cs us fs vs g.1 h.1)
  outside l R silent n (d ∷ ds) other i (c ∷ cs) (u ∷ us) (false ∷ fs) vs g h = outside l R silent n ds other.1 (i + 1) cs us fs vs g.1 h.1

  module _ (spell_same : (n : ℕ) (u : Rose TypeLabel) (v w : Rose ValueLabel) → IsSimpleOf s n (resolve M u) → FitsAt M depth u v → FitsAt M depth u w → spelling M u v ≡ spelling M u w → v ≡ w)
      (nillable : Bool) where
    abbrev pub SameParts : TypeLabel → Behind → Type 0
    SameParts l R =
        (i : ℕ) (cs : List Component) (us : List (Rose TypeLabel)) (fv : List Bool) (vs : Roses ValueLabel) (fw : List Bool) (ws : Roses ValueLabel) → R i cs us
        → PartsFit M depth l i cs us fv vs → PartsFit M depth l i cs us fw ws → (x : Bool) → (nillable ≡ true → last_from x fv ≡ last_from x fw)
        → (present_given M l i cs us fv vs).attributes ≡ (present_given M l i cs us fw ws).attributes
        → (present_given M l i cs us fv vs).kids ≡ (present_given M l i cs us fw ws).kids → (fv ≡ fw) × (vs ≡ ws)

    abbrev first_text : List (Name × List ℕ) → List ℕ
    first_text [] = []
    first_text (x ∷ xs) = x.1

    abbrev behind : List (Name × List ℕ) → List (Name × List ℕ)
    behind [] = []
    behind (x ∷ xs) = xs

    clash : (n : Name) (words : List ℕ) (xs ys : List (Name × List ℕ)) → ((n, words) ∷ xs) ≡ ys → Outside n ys → ⊥
    clash n words xs ys e out = (subst (Outside n) (sym e) out).0 refl

    heads : (n : Name) (a b : List ℕ) (xs ys : List (Name × List ℕ)) → ((n, a) ∷ xs) ≡ ((n, b) ∷ ys) → (a ≡ b) × (xs ≡ ys)
    heads n a b xs ys e = (ap first_text e, ap behind e)

    pub attributes-same : (l : TypeLabel) (R : Behind) → Silent l R → SameParts l R → (ds : List AttributeUse) → AllApart ds → SameParts l (WithAttributes s M l R ds)
    attributes-same l R silent f [] apart i cs us fv vs fw ws g hv hw x a p k = f i cs us fv vs fw ws g hv hw x a p k
    attributes-same l R silent f (d ∷ ds) apart i [] us fv vs fw ws g hv hw x a p k = absurd g
    attributes-same l R silent f (d ∷ ds) apart i (c ∷ cs) [] fv vs fw ws g hv hw x a p k = absurd g
    attributes-same l R silent f (d ∷ ds) apart i (c ∷ cs) (u ∷ us) [] vs fw ws g hv hw x a p k = absurd hv
    attributes-same l R silent f (d ∷ ds) apart i (c ∷ cs) (u ∷ us) (b ∷ fv) vs [] ws g hv hw x a p k = absurd hw
    attributes-same l R silent f (d ∷ ds) apart i (c ∷ cs) (u ∷ us) (true ∷ fv) rose.none (b ∷ fw) ws g hv hw x a p k = absurd hv
    attributes-same l R silent f (d ∷ ds) apart i (c ∷ cs) (u ∷ us) (b ∷ fv) vs (true ∷ fw) rose.none g hv hw x a p k = absurd hw
    attributes-same l R silent f (d ∷ ds) apart i (c ∷ cs) (u ∷ us) (false ∷ fv) vs (false ∷ fw) ws g hv hw x a p k =
        let rest = attributes-same l R silent f ds apart.1 (i + 1) cs us fv vs fw ws g.1 hv.1 hw.1 true a p k in
        (ap (λ z. false ∷ z) rest.0, rest.1)
    attributes-same l R silent f (d ∷ ds) apart i (c ∷ cs) (u ∷ us) (true ∷ fv) (rose.more v vs) (false ∷ fw) ws g hv hw x a p k =
        let rv = present_given M l (i + 1) cs us fv vs in
        let rw_ = present_given M l (i + 1) cs us fw ws in
        absurd (clash d.name (spelling M u v) rv.attributes rw_.attributes
        (sym (ap (λ (z : Given). z.attributes ++ rv.attributes) (attribute-gives l i c u v d g.0)) ∙ p)
        (outside l R silent d.name ds apart.0 (i + 1) cs us fw ws g.1 hw.1))
    attributes-same l R silent f (d ∷ ds) apart i (c ∷ cs) (u ∷ us) (false ∷ fv) vs (true ∷ fw) (rose.more w ws) g hv hw x a p k =
        let rv = present_given M l (i + 1) cs us fv vs in
        let rw_ = present_given M l (i + 1) cs us fw ws in
        absurd (clash d.name (spelling M u w) rw_.attributes rv.attributes
        (sym (ap (λ (z : Given). z.attributes ++ rw_.attributes) (attribute-gives l i c u w d g.0)) ∙ sym p)
        (outside l R silent d.name ds apart.0 (i + 1) cs us fv vs g.1 hv.1))
    attributes-same l R silent f (d ∷ ds) apart i (c ∷ cs) (u ∷ us) (true ∷ fv) (rose.more v vs) (true ∷ fw) (rose.more w ws) g hv hw x a p k =
        let rv = present_given M l (i + 1) cs us fv vs in
        let rw_ = present_given M l (i + 1) cs us fw ws in
        let ev = attribute-gives l i c u v d g.0 in
        let ew = attribute-gives l i c u w d g.0 in
        let fits_v : FitsAt M depth u v = subst (λ r. FitsAt M (below r depth) u v) g.0.is.role hv.0 in
        let fits_w : FitsAt M depth u w = subst (λ r. FitsAt M (below r depth) u w) g.0.is.role hw.0 in
        let parts = heads d.name (spelling M u v) (spelling M u w) rv.attributes rw_.attributes
        (sym (ap (λ (z : Given). z.attributes ++ rv.attributes) ev) ∙ p ∙ ap (λ (z : Given). z.attributes ++ rw_.attributes) ew) in
        let kids : rv.kids ≡ rw_.kids = sym (ap (λ (z : Given). joined z.kids rv.kids) ev) ∙ k ∙ ap (λ (z : Given). joined z.kids rw_.kids) ew in
        let same = spell_same d.simple u v w g.0.type fits_v fits_w parts.0 in
        let rest = attributes-same l R silent f ds apart.1 (i + 1) cs us fv vs fw ws g.1 hv.1 hw.1 false a parts.1 kids in
        (ap (λ z. true ∷ z) rest.0, ap (λ z. rose.more z vs) same ∙ ap (λ z. rose.more w z) rest.1)

  -- ---- contents give none

  module _ (E : ℕ → Rose TypeLabel → Type 0)
      (text_inside : (n : ℕ) (u : Rose TypeLabel) (v : Rose ValueLabel) → IsSimpleOf s n (resolve M u) → (words : List ℕ) × (inside M u v ≡ given [] (text_before words rose.none))) where
    no-attributes : (a : Given) → a.attributes ≡ [] → a.attributes ++ [] ≡ []
    no-attributes a e = ap (λ z. z ++ []) e

    nothing-left : (l : TypeLabel) (i : ℕ) (fs : List Bool) (vs : Roses ValueLabel) → (present_given M l i [] [] fs vs).attributes ≡ []
    nothing-left l i [] vs = refl
    nothing-left l i (b ∷ fs) vs = refl

    content-silent : (c : Content) (l : TypeLabel) → Silent l (AreContent E s M c l)
    content-silent content_.Empty l i [] [] fs vs g h = nothing-left l i fs vs
    content-silent content_.Empty l i (c ∷ cs) us fs vs g h = absurd g
    content-silent content_.Empty l i [] (u ∷ us) fs vs g h = absurd g
    content-silent (content_.Simple n) l i [] us fs vs g h = absurd g
    content-silent (content_.Simple n) l i (c ∷ []) [] fs vs g h = absurd g
    content-silent (content_.Simple n) l i (c ∷ []) (u ∷ x ∷ us) fs vs g h = absurd g
    content-silent (content_.Simple n) l i (c ∷ d ∷ cs) us fs vs g h = absurd g
    content-silent (content_.Simple n) l i (c ∷ []) (u ∷ []) [] vs g h = refl
    content-silent (content_.Simple n) l i (c ∷ []) (u ∷ []) (false ∷ fs) vs g h = nothing-left l (i + 1) fs vs
    content-silent (content_.Simple n) l i (c ∷ []) (u ∷ []) (true ∷ fs) rose.none g h = refl
    content-silent (content_.Simple n) l i (c ∷ []) (u ∷ []) (true ∷ fs) (rose.more v vs) g h =
        let e : (gives_at M l i c u v).attributes ≡ [] =
        ap (λ r. (placed M (record { role = r; part = c; type = u }) v (inside M u v)).attributes) g.is.role ∙ ap (λ (z : Given). z.attributes) (text_inside n u v g.type).1 in
        ap (λ z. z ++ (present_given M l (i + 1) [] [] fs vs).attributes) e ∙ nothing-left l (i + 1) fs vs
    content-silent (content_.ElementOnly p) l i cs us fs vs g h = ap (λ (z : Given). z.attributes) (top-shows M depth E (seen p) l i cs us fs vs g h)
    content-silent (content_.Mixed p) l i cs us fs vs g h = ap (λ (z : Given). z.attributes) (top-shows M depth E (seen p) l i cs us fs vs g h)

    parts-silent : (c : Content) (u : Rose TypeLabel) (v : Rose ValueLabel) → HasParts E s M c u → FitsAt M depth u v → (inside M u v).attributes ≡ []
    parts-silent c u v has h =
        let l = type_label (form.Sequence has.0) [] in
        let a = sequence-value M depth [] has.0 has.1 v (subst (λ x. FitsAt M depth x v) has.2 h) in
        let ea : inside M u v ≡ present_given M l 0 has.0 (list_of has.1) a.flags a.values =
        ap (λ x. inside M x v) has.2 ∙ ap (λ x. inside M (node l has.1) x) a.is ∙ sequence-inside M depth [] has.0 has.1 a.flags a.values refl refl a.fit in
        ap (λ (z : Given). z.attributes) ea ∙ content-silent c l 0 has.0 (list_of has.1) a.flags a.values has.3 a.fit

    inner-silent : (c : Content) (u : Rose TypeLabel) (v : Rose ValueLabel) → HasInner E s M c u → FitsAt M depth u v → (inside M u v).attributes ≡ []
    inner-silent content_.Empty u v has h = parts-silent content_.Empty u v has h
    inner-silent (content_.Simple n) u v has h = ap (λ (z : Given). z.attributes) (text_inside n u v has).1
    inner-silent (content_.ElementOnly p) u v has h = parts-silent (content_.ElementOnly p) u v has h
    inner-silent (content_.Mixed p) u v has h = parts-silent (content_.Mixed p) u v has h

    pub only-silent : (P : Rose TypeLabel → Type 0) → ((u : Rose TypeLabel) (v : Rose ValueLabel) → P u → FitsAt M depth u v → (inside M u v).attributes ≡ []) → (l : TypeLabel)
        → Silent l (λ i cs us. IsOnly (IsInner P l i) cs us)
    only-silent P f l i [] us fs vs g h = absurd g
    only-silent P f l i (c ∷ []) [] fs vs g h = absurd g
    only-silent P f l i (c ∷ []) (u ∷ x ∷ us) fs vs g h = absurd g
    only-silent P f l i (c ∷ d ∷ cs) us fs vs g h = absurd g
    only-silent P f l i (c ∷ []) (u ∷ []) [] vs g h = refl
    only-silent P f l i (c ∷ []) (u ∷ []) (false ∷ fs) vs g h = nothing-left l (i + 1) fs vs
    only-silent P f l i (c ∷ []) (u ∷ []) (true ∷ fs) rose.none g h = refl
    only-silent P f l i (c ∷ []) (u ∷ []) (true ∷ fs) (rose.more v vs) g h =
        let fits : FitsAt M depth u v = subst (λ r. FitsAt M (below r depth) u v) g.is.role h.0 in
        let e : (gives_at M l i c u v).attributes ≡ [] =
        ap (λ r. (placed M (record { role = r; part = c; type = u }) v (inside M u v)).attributes) g.is.role ∙ f u v g.type fits in
        ap (λ z. z ++ (present_given M l (i + 1) [] [] fs vs).attributes) e ∙ nothing-left l (i + 1) fs vs

    pub rest-silent : (b : Bool) (c : Content) (l : TypeLabel) → Silent l (AreRest E s M b c l)
    rest-silent false c l i cs us fs vs g h = content-silent c l i cs us fs vs g h
    rest-silent true c l i cs us fs vs g h = only-silent (HasInner E s M c) (λ u v has k. inner-silent c u v has k) l i cs us fs vs g h
