-- Two values of a complex type whose parts give the same items are one, part by part.
use Rattle.std.proofs.Common.{◌≡◌, ℕ, suc, ◌+◌, Bool, true, false, not, List, [], ◌∷◌, ◌++◌, map, refl, sym, ap, subst, ◌∙◌}
use Rattle.std.specs.List.{AllByRecursion}
use Rattle.std.specs.declared.cmp.Ordering.TheVariants.{Less}
use Rattle.std.proofs.lemmas.Cmp.{tied_itself}
use Rattle.base_texts.specs.declared.texts.Name.{Name}
use Rattle.base_texts.specs.Names.{name_cmp}
use Rattle.base_texts.proofs.NameLaws.{name_cmp_total}
use Rattle.std.specs.List.Sorted.{IsStrictlySortedBy}
use Rattle.base_trees.specs.Rose.{Rose, node, Roses, list_of, label_of}
use Rattle.base_trees.specs.Rose as rose
use Rattle.simple_types.specs.declared.labels.ValueLabel.{ValueLabel}
use Rattle.simple_types.specs.declared.labels.ValueLabel.TheVariants as value
use Rattle.content_models.specs.declared.particles.ParticleLabel.{ParticleLabel}
use Rattle.content_models.specs.Seen.{seen}
use Rattle.xml_items.specs.Plain.{Plain, element, text}
use Rattle.xml_items.specs.Mixing.{text_before}
use Rattle.asn_types.specs.declared.modules.Assignment.{Assignment}
use Rattle.asn_types.specs.declared.roles.Role.{Role}
use Rattle.asn_types.specs.declared.roles.Role.TheVariants as role
use Rattle.asn_types.specs.declared.types.Component.{Component}
use Rattle.asn_types.specs.declared.types.Form.TheVariants as form
use Rattle.asn_types.specs.declared.types.TypeLabel.{TypeLabel}
use Rattle.asn_types.specs.Refs.{resolve}
use Rattle.asn_types.specs.Roles.{role_of}
use Rattle.asn_values.specs.Values.{below, FitsAt}
use Rattle.schema_components.specs.declared.components.AttributeUse.{AttributeUse}
use Rattle.schema_components.specs.declared.components.Content.{Content}
use Rattle.schema_components.specs.declared.components.Content.TheVariants as content_
use Rattle.schema_components.specs.Components.{Set}
use Rattle.schema_components.specs.Linked.{IsContent, IsModel}
use Rattle.map_assignments.specs.Naming.{type_label}
use Rattle.map_laws.specs.Children.{Child}
use Rattle.map_laws.specs.Standing.{Behind, IsOnly, IsInner, HasParts, HasInner, IsBase, IsSimpleOf, AreContent, AreRest, IsTop}
use Rattle.map_laws.proofs.Values.{present_children, PartsFit, sequence-value}
use Rattle.map_laws.proofs.Deciding.{top-split}
use Rattle.asn_types.specs.Spaces.{spelling}
use Rattle.xer_items.specs.Items.{Given, given, joined, placed, inside}
use Rattle.value_laws.proofs.Groups.{tell, told, gives_at, present_given, sequence-inside, top-shows}

-- ---- the last flag, or this one where there is none

abbrev pub last_from : Bool → List Bool → Bool
last_from x [] = x
last_from x (b ∷ bs) = last_from (not b) bs

not-same : (a b : Bool) → not a ≡ not b → a ≡ b
not-same true true e = refl
not-same false false e = refl
not-same true false e = absurd (cc)
not-same false true e = absurd (cc)

-- ---- attributes of other names

abbrev pub Outside : Name → List (Name × List ℕ) → Type 0
Outside n [] = Unit {0}
Outside n (x ∷ xs) = (x.0 ≡ n → ⊥) × Outside n xs

abbrev pub Apart : Name → List AttributeUse → Type 0
Apart n [] = Unit {0}
Apart n (d ∷ ds) = (d.name ≡ n → ⊥) × Apart n ds

less-apart : (n : Name) (ds : List AttributeUse) → AllByRecursion (λ y. name_cmp n y ≡ Less) (map (λ (u : AttributeUse). u.name) ds) → Apart n ds
less-apart n [] h = tt
less-apart n (d ∷ ds) h =
    ((λ e. let less : name_cmp n n ≡ Less = subst (λ z. name_cmp n z ≡ Less) e h.0 in let tied = tied_itself name_cmp_total n in cc (less, tied)), less-apart n ds h.1)

abbrev pub AllApart : List AttributeUse → Type 0
AllApart [] = Unit {0}
AllApart (d ∷ ds) = Apart d.name ds × AllApart ds

pub sorted-apart : (ds : List AttributeUse) → IsStrictlySortedBy name_cmp (map (λ (u : AttributeUse). u.name) ds) → AllApart ds
unfolding IsStrictlySortedBy
sorted-apart [] h = tt
sorted-apart (d ∷ ds) h = (less-apart d.name ds h.0, sorted-apart ds h.1)

joined-none : (k : Roses Plain) → joined k rose.none ≡ k
joined-none rose.none = refl
joined-none (rose.more x k) = ap (λ z. rose.more x z) (joined-none k)

append-nothing : (xs : List (Name × List ℕ)) → xs ++ [] ≡ xs
append-nothing [] = refl
append-nothing (x ∷ xs) = ap (λ z. x ∷ z) (append-nothing xs)

abbrev pub name_in : Rose Plain → Name
name_in (node (element name xs) ks) = name
name_in (node (text words) ks) = record { space = []; local = [] }

module _ (M : List Assignment) (E : ℕ → Rose TypeLabel → Type 0) (depth : ℕ) (s : Set)
    (same_values : (d : ℕ) (a : Name) (u : Rose TypeLabel) (v w : Rose ValueLabel) → E d u → FitsAt M (suc depth) u v → FitsAt M (suc depth) u w
    → tell M (record { name = a; type = u; value = v }) ≡ tell M (record { name = a; type = u; value = w }) → v ≡ w)
    (text_inside : (n : ℕ) (u : Rose TypeLabel) (v : Rose ValueLabel) → IsSimpleOf s n (resolve M u) → (words : List ℕ) × (inside M u v ≡ given [] (text_before words rose.none)))
    (text_same : (n : ℕ) (u : Rose TypeLabel) (v w : Rose ValueLabel) → IsSimpleOf s n (resolve M u) → FitsAt M depth u v → FitsAt M depth u w → (inside M u v).kids ≡ (inside M u w).kids → v ≡ w)
    (spell_same : (n : ℕ) (u : Rose TypeLabel) (v w : Rose ValueLabel) → IsSimpleOf s n (resolve M u) → FitsAt M depth u v → FitsAt M depth u w → spelling M u v ≡ spelling M u w → v ≡ w)
    (nillable : Bool) where
  -- ---- contents

  told-list : (xs : List Child) → list_of (told M xs) ≡ map (tell M) xs
  told-list [] = refl
  told-list (x ∷ xs) = ap (λ z. tell M x ∷ z) (told-list xs)

  told-same : (xs ys : List Child) → told M xs ≡ told M ys → map (tell M) xs ≡ map (tell M) ys
  told-same xs ys e = sym (told-list xs) ∙ ap list_of e ∙ told-list ys

  no-more : (l : TypeLabel) (i : ℕ) (fv : List Bool) (vs : Roses ValueLabel) (fw : List Bool) (ws : Roses ValueLabel) → PartsFit M depth l i [] [] fv vs → PartsFit M depth l i [] [] fw ws → (fv ≡ fw) × (vs ≡ ws)
  no-more l i [] rose.none [] rose.none hv hw = (refl, refl)
  no-more l i [] (rose.more v vs) fw ws hv hw = absurd hv
  no-more l i (b ∷ fv) vs fw ws hv hw = absurd hv
  no-more l i [] rose.none [] (rose.more w ws) hv hw = absurd hw
  no-more l i [] rose.none (b ∷ fw) ws hv hw = absurd hw

  abbrev SameKids : TypeLabel → Behind → Type 0
  SameKids l R =
      (i : ℕ) (cs : List Component) (us : List (Rose TypeLabel)) (fv : List Bool) (vs : Roses ValueLabel) (fw : List Bool) (ws : Roses ValueLabel) → R i cs us
      → PartsFit M depth l i cs us fv vs → PartsFit M depth l i cs us fw ws → (present_given M l i cs us fv vs).kids ≡ (present_given M l i cs us fw ws).kids → (fv ≡ fw) × (vs ≡ ws)

  model-same : (p : Rose ParticleLabel) → IsModel s p → (l : TypeLabel) → SameKids l (IsTop E (seen p) l)
  model-same p ok l i cs us fv vs fw ws g hv hw e =
      let mv = present_children M l i cs us fv vs in
      let mw = present_children M l i cs us fw ws in
      let kids : told M mv ≡ told M mw =
      sym (ap (λ (z : Given). z.kids) (top-shows M depth E (seen p) l i cs us fv vs g hv)) ∙ e ∙ ap (λ (z : Given). z.kids) (top-shows M depth E (seen p) l i cs us fw ws g hw) in
      let all = top-split M E depth (Rose Plain) (tell M) name_in (λ x. refl) same_values (seen p) [] ok.clear l i cs us g fv vs fw ws [] [] hv hw refl refl (ap (λ x. x ++ []) (told-same mv mw kids)) in
      (all.0, all.1)

  -- one part that is there, with the items of its value
  one-same : (P : Rose TypeLabel → Type 0) (l : TypeLabel) (i : ℕ) (c : Component) (u : Rose TypeLabel) (v w : Rose ValueLabel) (fv fw : List Bool) (vs ws : Roses ValueLabel)
      → PartsFit M depth l (i + 1) [] [] fv vs → PartsFit M depth l (i + 1) [] [] fw ws → v ≡ w → ((true ∷ fv) ≡ (true ∷ fw)) × (rose.more v vs ≡ rose.more w ws)
  one-same P l i c u v w fv fw vs ws hv hw e =
      let rest = no-more l (i + 1) fv vs fw ws hv hw in
      (ap (λ z. true ∷ z) rest.0, ap (λ z. rose.more z vs) e ∙ ap (λ z. rose.more w z) rest.1)

  -- what one part gives is what its value gives, where nothing follows
  one-gives : (l : TypeLabel) (i : ℕ) (c : Component) (u : Rose TypeLabel) (v : Rose ValueLabel) (fs : List Bool) (vs : Roses ValueLabel) → gives_at M l i c u v ≡ inside M u v
      → (present_given M l i (c ∷ []) (u ∷ []) (true ∷ fs) (rose.more v vs)).kids ≡ (inside M u v).kids
  one-gives l i c u v fs vs e = ap (λ (z : Given). joined z.kids rose.none) e ∙ joined-none (inside M u v).kids

  group-gives : (l : TypeLabel) (i : ℕ) (c : Component) (u : Rose TypeLabel) (v : Rose ValueLabel) (r : Role) → role_of l i c ≡ r
      → (placed M (record { role = r; part = c; type = u }) v (inside M u v) ≡ inside M u v) → gives_at M l i c u v ≡ inside M u v
  group-gives l i c u v r e f = ap (λ x. placed M (record { role = x; part = c; type = u }) v (inside M u v)) e ∙ f

  base-same : (n : ℕ) (l : TypeLabel) → SameKids l (λ i cs us. IsOnly (IsBase s M n l i) cs us)
  base-same n l i [] us fv vs fw ws g hv hw e = absurd g
  base-same n l i (c ∷ []) [] fv vs fw ws g hv hw e = absurd g
  base-same n l i (c ∷ []) (u ∷ x ∷ us) fv vs fw ws g hv hw e = absurd g
  base-same n l i (c ∷ d ∷ cs) us fv vs fw ws g hv hw e = absurd g
  base-same n l i (c ∷ []) (u ∷ []) [] vs fw ws g hv hw e = absurd hv
  base-same n l i (c ∷ []) (u ∷ []) (b ∷ fv) vs [] ws g hv hw e = absurd hw
  base-same n l i (c ∷ []) (u ∷ []) (true ∷ fv) rose.none fw ws g hv hw e = absurd hv
  base-same n l i (c ∷ []) (u ∷ []) fv vs (true ∷ fw) rose.none g hv hw e = absurd hw
  base-same n l i (c ∷ []) (u ∷ []) (false ∷ fv) vs fw ws g hv hw e = absurd (let a = sym hv.0 ∙ g.is.absent in cc)
  base-same n l i (c ∷ []) (u ∷ []) fv vs (false ∷ fw) ws g hv hw e = absurd (let a = sym hw.0 ∙ g.is.absent in cc)
  base-same n l i (c ∷ []) (u ∷ []) (true ∷ fv) (rose.more v vs) (true ∷ fw) (rose.more w ws) g hv hw e =
      let fits_v : FitsAt M depth u v = subst (λ r. FitsAt M (below r depth) u v) g.is.role hv.0 in
      let fits_w : FitsAt M depth u w = subst (λ r. FitsAt M (below r depth) u w) g.is.role hw.0 in
      let kids = sym (one-gives l i c u v fv vs (group-gives l i c u v role.Group g.is.role refl)) ∙ e ∙ one-gives l i c u w fw ws (group-gives l i c u w role.Group g.is.role refl) in
      one-same (λ x. Unit {0}) l i c u v w fv fw vs ws hv.1 hw.1 (text_same n u v w g.type fits_v fits_w kids)

  none-same : (l : TypeLabel) (c : Content) → c ≡ content_.Empty → SameKids l (AreContent E s M c l)
  none-same l content_.Empty is i [] [] fv vs fw ws g hv hw e = no-more l i fv vs fw ws hv hw
  none-same l content_.Empty is i (c ∷ cs) us fv vs fw ws g hv hw e = absurd g
  none-same l content_.Empty is i [] (u ∷ us) fv vs fw ws g hv hw e = absurd g
  none-same l _ is i cs us fv vs fw ws g hv hw e = absurd (cc)

  content-same : (c : Content) → IsContent s c → (l : TypeLabel) → SameKids l (AreContent E s M c l)
  content-same content_.Empty ok l i cs us fv vs fw ws g hv hw e = none-same l content_.Empty refl i cs us fv vs fw ws g hv hw e
  content-same (content_.Simple n) ok l i cs us fv vs fw ws g hv hw e = base-same n l i cs us fv vs fw ws g hv hw e
  content-same (content_.ElementOnly p) ok l i cs us fv vs fw ws g hv hw e = model-same p ok l i cs us fv vs fw ws g hv hw e
  content-same (content_.Mixed p) ok l i cs us fv vs fw ws g hv hw e = model-same p ok l i cs us fv vs fw ws g hv hw e

  -- ---- what a nillable element has where it isn't nil

  has-parts-same : (c : Content) → IsContent s c → (u : Rose TypeLabel) → HasParts E s M c u → (v w : Rose ValueLabel) → FitsAt M depth u v → FitsAt M depth u w
      → (inside M u v).kids ≡ (inside M u w).kids → v ≡ w
  has-parts-same c ok u has v w hv hw e =
      let l = type_label (form.Sequence has.0) [] in
      let a = sequence-value M depth [] has.0 has.1 v (subst (λ x. FitsAt M depth x v) has.2 hv) in
      let b = sequence-value M depth [] has.0 has.1 w (subst (λ x. FitsAt M depth x w) has.2 hw) in
      let ea : inside M u v ≡ present_given M l 0 has.0 (list_of has.1) a.flags a.values =
      ap (λ x. inside M x v) has.2 ∙ ap (λ x. inside M (node l has.1) x) a.is ∙ sequence-inside M depth [] has.0 has.1 a.flags a.values refl refl a.fit in
      let eb : inside M u w ≡ present_given M l 0 has.0 (list_of has.1) b.flags b.values =
      ap (λ x. inside M x w) has.2 ∙ ap (λ x. inside M (node l has.1) x) b.is ∙ sequence-inside M depth [] has.0 has.1 b.flags b.values refl refl b.fit in
      let all = content-same c ok l 0 has.0 (list_of has.1) a.flags a.values b.flags b.values has.3 a.fit b.fit
      (sym (ap (λ (z : Given). z.kids) ea) ∙ e ∙ ap (λ (z : Given). z.kids) eb) in
      a.is ∙ ap (λ z. node (value.Sequence z) a.values) all.0 ∙ ap (λ z. node (value.Sequence b.flags) z) all.1 ∙ sym b.is

  inner-same : (c : Content) → IsContent s c → (u : Rose TypeLabel) → HasInner E s M c u → (v w : Rose ValueLabel) → FitsAt M depth u v → FitsAt M depth u w
      → (inside M u v).kids ≡ (inside M u w).kids → v ≡ w
  inner-same content_.Empty ok u has v w hv hw e = has-parts-same content_.Empty ok u has v w hv hw e
  inner-same (content_.Simple n) ok u has v w hv hw e = text_same n u v w has hv hw e
  inner-same (content_.ElementOnly p) ok u has v w hv hw e = has-parts-same (content_.ElementOnly p) ok u has v w hv hw e
  inner-same (content_.Mixed p) ok u has v w hv hw e = has-parts-same (content_.Mixed p) ok u has v w hv hw e

  -- ---- the rest, behind texts and attributes

  abbrev pub LastAgree : Bool → List Bool → List Bool → Type 0
  LastAgree x fv fw = nillable ≡ true → last_from x fv ≡ last_from x fw

  abbrev pub SameRest : TypeLabel → Behind → Type 0
  SameRest l R =
      (i : ℕ) (cs : List Component) (us : List (Rose TypeLabel)) (fv : List Bool) (vs : Roses ValueLabel) (fw : List Bool) (ws : Roses ValueLabel) → R i cs us
      → PartsFit M depth l i cs us fv vs → PartsFit M depth l i cs us fw ws → (x : Bool) → LastAgree x fv fw
      → (present_given M l i cs us fv vs).kids ≡ (present_given M l i cs us fw ws).kids → (fv ≡ fw) × (vs ≡ ws)

  pub only-same : (P : Rose TypeLabel → Type 0) → ((u : Rose TypeLabel) → P u → (v w : Rose ValueLabel) → FitsAt M depth u v → FitsAt M depth u w → (inside M u v).kids ≡ (inside M u w).kids → v ≡ w)
      → nillable ≡ true → (l : TypeLabel) → SameRest l (λ i cs us. IsOnly (IsInner P l i) cs us)
  only-same P f may l i [] us fv vs fw ws g hv hw x a e = absurd g
  only-same P f may l i (c ∷ []) [] fv vs fw ws g hv hw x a e = absurd g
  only-same P f may l i (c ∷ []) (u ∷ y ∷ us) fv vs fw ws g hv hw x a e = absurd g
  only-same P f may l i (c ∷ d ∷ cs) us fv vs fw ws g hv hw x a e = absurd g
  only-same P f may l i (c ∷ []) (u ∷ []) [] vs fw ws g hv hw x a e = absurd hv
  only-same P f may l i (c ∷ []) (u ∷ []) (b ∷ fv) vs [] ws g hv hw x a e = absurd hw
  only-same P f may l i (c ∷ []) (u ∷ []) (b ∷ b2 ∷ fv) vs fw ws g hv hw x a e = absurd (two-flags b b2 fv vs hv)
    where
      two-flags : (b b2 : Bool) (fv : List Bool) (vs : Roses ValueLabel) → PartsFit M depth l i (c ∷ []) (u ∷ []) (b ∷ b2 ∷ fv) vs → ⊥
      two-flags true b2 fv rose.none h = h
      two-flags true b2 fv (rose.more v vs) h = h.1
      two-flags false b2 fv vs h = h.1
  only-same P f may l i (c ∷ []) (u ∷ []) (b ∷ []) vs (b1 ∷ b2 ∷ fw) ws g hv hw x a e = absurd (two-flags b1 b2 fw ws hw)
    where
      two-flags : (b b2 : Bool) (fv : List Bool) (vs : Roses ValueLabel) → PartsFit M depth l i (c ∷ []) (u ∷ []) (b ∷ b2 ∷ fv) vs → ⊥
      two-flags true b2 fv rose.none h = h
      two-flags true b2 fv (rose.more v vs) h = h.1
      two-flags false b2 fv vs h = h.1
  only-same P f may l i (c ∷ []) (u ∷ []) (true ∷ []) vs (false ∷ []) ws g hv hw x a e = absurd (let same = a may in cc)
  only-same P f may l i (c ∷ []) (u ∷ []) (false ∷ []) vs (true ∷ []) ws g hv hw x a e = absurd (let same = a may in cc)
  only-same P f may l i (c ∷ []) (u ∷ []) (false ∷ []) vs (false ∷ []) ws g hv hw x a e = (refl, (no-more l (i + 1) [] vs [] ws hv.1 hw.1).1)
  only-same P f may l i (c ∷ []) (u ∷ []) (true ∷ []) rose.none (true ∷ []) ws g hv hw x a e = absurd hv
  only-same P f may l i (c ∷ []) (u ∷ []) (true ∷ []) (rose.more v vs) (true ∷ []) rose.none g hv hw x a e = absurd hw
  only-same P f may l i (c ∷ []) (u ∷ []) (true ∷ []) (rose.more v vs) (true ∷ []) (rose.more w ws) g hv hw x a e =
      let fits_v : FitsAt M depth u v = subst (λ r. FitsAt M (below r depth) u v) g.is.role hv.0 in
      let fits_w : FitsAt M depth u w = subst (λ r. FitsAt M (below r depth) u w) g.is.role hw.0 in
      let kids = sym (one-gives l i c u v [] vs (group-gives l i c u v role.Content g.is.role refl)) ∙ e ∙ one-gives l i c u w [] ws (group-gives l i c u w role.Content g.is.role refl) in
      one-same (λ y. Unit {0}) l i c u v w [] [] vs ws hv.1 hw.1 (f u g.type v w fits_v fits_w kids)

  pub rest-same : (b : Bool) → nillable ≡ b → (c : Content) → IsContent s c → (l : TypeLabel) → SameRest l (AreRest E s M b c l)
  rest-same false may c ok l i cs us fv vs fw ws g hv hw x a e = content-same c ok l i cs us fv vs fw ws g hv hw e
  rest-same true may c ok l i cs us fv vs fw ws g hv hw x a e = only-same (HasInner E s M c) (λ u k v w p q r. inner-same c ok u k v w p q r) may l i cs us fv vs fw ws g hv hw x a e
