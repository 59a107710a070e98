-- What a value of a complex type gives to its element: attributes in canonical spelling, and what its content gives.
use Rattle.std.proofs.Common.{◌≡◌, ℕ, ◌+◌, ◌&&◌, ◌⊎◌, inl, inr, Bool, true, false, Option, Some, None, List, [], ◌∷◌, length, map, refl, sym, ap, subst, ◌∙◌}
use Rattle.std.specs.Prelude.{codes, All}
use Rattle.std.proofs.lemmas.List.Elements.{All-nil}
use Rattle.base_texts.specs.declared.texts.Name.{Name}
use Rattle.base_texts.specs.WhiteSpace.{is_white_space, words_of, treated}
use Rattle.base_trees.specs.Rose.{Rose, node, Roses, list_of, label_of, kids_of}
use Rattle.base_trees.specs.Rose as rose
use Rattle.simple_types.specs.declared.labels.ValueLabel.{ValueLabel}
use Rattle.simple_types.specs.declared.labels.ValueLabel.TheVariants as value
use Rattle.content_models.specs.declared.particles.ParticleLabel.{ParticleLabel}
use Rattle.content_models.specs.Language.{Lang}
use Rattle.content_models.specs.Seen.{seen}
use Rattle.xml_items.specs.Plain.{Plain}
use Rattle.xml_items.specs.Mixing.{text_before, interleaved}
use Rattle.asn_types.specs.declared.modules.Assignment.{Assignment}
use Rattle.asn_types.specs.declared.roles.Role.{Role}
use Rattle.asn_types.specs.declared.roles.Role.TheVariants as role
use Rattle.asn_types.specs.declared.types.Component.{Component}
use Rattle.asn_types.specs.declared.types.Form.TheVariants as form
use Rattle.asn_types.specs.declared.types.TypeLabel.{TypeLabel}
use Rattle.asn_types.specs.Marks.{has_use_order}
use Rattle.asn_types.specs.Refs.{resolve}
use Rattle.asn_types.specs.Roles.{role_of}
use Rattle.asn_values.specs.Values.{below, FitsAt, first_count, text_count, is_last_absent, ordered_flags, order_of}
use Rattle.schema_components.specs.declared.components.AttributeUse.{AttributeUse}
use Rattle.schema_components.specs.declared.components.ComplexDef.{ComplexDef}
use Rattle.schema_components.specs.declared.components.Content.{Content}
use Rattle.schema_components.specs.declared.components.Content.TheVariants as content_
use Rattle.schema_components.specs.Components.{Set, model_of}
use Rattle.schema_components.specs.Linked.{IsContent}
use Rattle.schema_components.specs.SetParts.{parts_of}
use Rattle.map_assignments.specs.Planning.{is_mixed, is_ordered}
use Rattle.map_assignments.specs.Naming.{type_label, sequence_marks}
use Rattle.map_assignments.proofs.Marked.{sequence-order}
use Rattle.map_assignments.proofs.Resolving.{follow-none}
use Rattle.map_laws.specs.Children.{Child, as_told, children}
use Rattle.map_laws.specs.Standing.{Behind, IsOnly, IsInner, IsBase, IsSimpleOf, HasParts, HasInner, WithTexts, WithOrder, order_count, WithAttributes, AreContent, AreRest, HasComplex}
use Rattle.map_laws.specs.ValueStatements.{StandAt}
use Rattle.map_laws.proofs.Values.{present_children, PartsKept, PartsFit, sequence-value}
use Rattle.map_laws.proofs.Complexes.{fits-found, children-found, complex-follows}
use Rattle.map_laws.proofs.Nillables.{nillable-follows}
use Rattle.asn_types.specs.Spaces.{spelling}
use Rattle.xer_items.specs.Items.{Given, given, joined, both, placed, inside, texts_of, with_texts}
use Rattle.xer_items.specs.Items as items
use Rattle.validity_rules.specs.Asked.{space_at}
use Rattle.validity_rules.specs.Attributes.{Nil, not_nil, is_nil, nil_by, with_nil}
use Rattle.value_laws.proofs.Groups.{told, order-shows, order-keeps, present_given, as_ordered, sequence-inside, inside-found}
use Rattle.xer_items.proofs.Ordering.{unordered}
use Rattle.value_laws.proofs.Walking.{last_from}
use Rattle.value_laws.proofs.Attributes.{attribute-gives, rest-silent}
use Rattle.value_laws.proofs.Mixed.{text_in, IsXmlText, texts-xml, attributes-tell, order-tells, texts-tell, rest-tells, elements-tell}
use Rattle.value_laws.proofs.Complexes.{last-is, texts-keep, shows-so}
use Rattle.value_laws.proofs.Spelled.{IsSpelling, AreSpelled, attributes-spelled}

-- ---- nil

abbrev pub nil_as : Bool → Nil
nil_as true = is_nil
nil_as false = not_nil

nilled : (nillable last : Bool) → (o : Option (List ℕ)) × (nil_by nillable o ≡ nil_as (nillable && last))
unfolding treated words_of is_white_space
nilled true true = (Some (codes "true"), refl)
nilled true false = (None, refl)
nilled false last = (None, refl)

nil-given : (b : Bool) (g : Given) → items.with_nil b g ≡ given (with_nil (nil_as b) g.attributes) g.kids
nil-given true g = refl
nil-given false g = refl

never-nil : (nillable b : Bool) → b ≡ false → (nillable && b) ≡ false
never-nil true b e = e
never-nil false b e = refl

-- ---- texts

texts-none : (xs : List (Rose ValueLabel)) → length xs ≡ 0 → map text_in xs ≡ []
texts-none [] e = refl
texts-none (x ∷ xs) e = absurd (cc)

joined-rest : (k : Roses Plain) → joined k rose.none ≡ k
joined-rest rose.none = refl
joined-rest (rose.more x k) = ap (λ z. rose.more x z) (joined-rest k)

-- ---- what stands in an element of a complex type

-- no text where the element is nil, or a text in the canonical spelling of the simple type
abbrev pub TextOf : Set → ℕ → Bool → Roses Plain → Type 0
TextOf s n nil k =
    ((nil ≡ true) × (k ≡ rose.none))
    ⊎ ((nil ≡ false) × (words : List ℕ) × IsSpelling (space_at (parts_of s)) (space_at (parts_of s) n) words × (k ≡ text_before words rose.none))

module _ (M : List Assignment) (E : ℕ → Rose TypeLabel → Type 0) (depth : ℕ) where
  -- no child element where nil, or child elements at the leaves of a list
  abbrev pub Stands : Bool → Rose ParticleLabel → List Child → Type 0
  Stands nil p ms = ((nil ≡ true) × (ms ≡ [])) ⊎ ((nil ≡ false) × StandAt M E depth (Lang (seen p) 0 []) ms)

  abbrev pub ContentGives : Set → Content → Bool → Roses Plain → Type 0
  ContentGives s content_.Empty nil k = k ≡ rose.none
  ContentGives s (content_.Simple n) nil k = TextOf s n nil k
  ContentGives s (content_.ElementOnly p) nil k = (ms : List Child) × Stands nil p ms × (k ≡ told M ms)
  ContentGives s (content_.Mixed p) nil k =
      (texts : List (List ℕ)) × (ms : List Child) × Stands nil p ms × (nil ≡ true → texts ≡ []) × All IsXmlText texts × (k ≡ interleaved texts (told M ms))

  -- attributes in canonical spelling, with `xsi:nil` where the element is nil, and its content
  pub record ComplexGives (s : Set) (nillable : Bool) (c : ComplexDef) (g : Given) : Type 0 where
    pub nil : Bool
    pub attributes : List (Name × List ℕ)
    pub kids : Roses Plain
    pub is : g ≡ given (with_nil (nil_as nil) attributes) kids
    pub from : (o : Option (List ℕ)) × (nil_by nillable o ≡ nil_as nil)
    pub spelled : AreSpelled (space_at (parts_of s)) c.uses attributes
    pub content : ContentGives s c.content nil kids

module _ (M : List Assignment) (E : ℕ → Rose TypeLabel → Type 0) (depth : ℕ) (s : Set)
    (text_inside : (n : ℕ) (u : Rose TypeLabel) (v : Rose ValueLabel) → IsSimpleOf s n (resolve M u) → (words : List ℕ) × (inside M u v ≡ given [] (text_before words rose.none)))
    (text_spelled : (n : ℕ) (u : Rose TypeLabel) (v : Rose ValueLabel) → IsSimpleOf s n (resolve M u) → FitsAt M depth u v
    → (inside M u v ≡ given [] (text_before (spelling M u v) rose.none)) × IsSpelling (space_at (parts_of s)) (space_at (parts_of s) n) (spelling M u v))
    (nillable : Bool) where
  -- ---- kids by walking over the parts

  abbrev KidsSo : (Bool → Roses Plain → Type 0) → TypeLabel → Behind → Type 0
  KidsSo Q l R =
      (i : ℕ) (cs : List Component) (us : List (Rose TypeLabel)) (fs : List Bool) (vs : Roses ValueLabel) → R i cs us → PartsFit M depth l i cs us fs vs → (x : Bool)
      → Q (nillable && last_from x fs) (present_given M l i cs us fs vs).kids

  attributes-so : (Q : Bool → Roses Plain → Type 0) (l : TypeLabel) (R : Behind) → KidsSo Q l R → (ds : List AttributeUse) → KidsSo Q l (WithAttributes s M l R ds)
  attributes-so Q l R f [] i cs us fs vs g h x = f i cs us fs vs g h x
  attributes-so Q l R f (d ∷ ds) i [] us fs vs g h x = absurd g
  attributes-so Q l R f (d ∷ ds) i (c ∷ cs) [] fs vs g h x = absurd g
  attributes-so Q l R f (d ∷ ds) i (c ∷ cs) (u ∷ us) [] vs g h x = absurd h
  attributes-so Q l R f (d ∷ ds) i (c ∷ cs) (u ∷ us) (true ∷ fs) rose.none g h x = absurd h
  attributes-so Q l R f (d ∷ ds) i (c ∷ cs) (u ∷ us) (true ∷ fs) (rose.more v vs) g h x =
      let rest = present_given M l (i + 1) cs us fs vs in
      subst (Q (nillable && last_from false fs)) (sym (ap (λ (z : Given). joined z.kids rest.kids) (attribute-gives M depth s l i c u v d g.0)))
      (attributes-so Q l R f ds (i + 1) cs us fs vs g.1 h.1 false)
  attributes-so Q l R f (d ∷ ds) i (c ∷ cs) (u ∷ us) (false ∷ fs) vs g h x = attributes-so Q l R f ds (i + 1) cs us fs vs g.1 h.1 true

  -- one part that is there, of this role
  one-kids : (l : TypeLabel) (i : ℕ) (c : Component) (u : Rose TypeLabel) (v : Rose ValueLabel) (fs : List Bool) (vs : Roses ValueLabel) (r : Role) → role_of l i c ≡ r
      → (placed M (record { role = r; part = c; type = u }) v (inside M u v) ≡ inside M u v)
      → (present_given M l i (c ∷ []) (u ∷ []) (true ∷ fs) (rose.more v vs)).kids ≡ (inside M u v).kids
  one-kids l i c u v fs vs r e f =
      ap (λ (z : Given). joined z.kids rose.none) (ap (λ x. placed M (record { role = x; part = c; type = u }) v (inside M u v)) e ∙ f) ∙ joined-rest (inside M u v).kids

  -- the one part of what a nillable element has
  only-so : (Q : Bool → Roses Plain → Type 0) (P : Rose TypeLabel → Type 0) → Q (nillable && true) rose.none
      → ((u : Rose TypeLabel) (v : Rose ValueLabel) → P u → FitsAt M depth u v → Q (nillable && false) (inside M u v).kids)
      → (l : TypeLabel) → KidsSo Q l (λ i cs us. IsOnly (IsInner P l i) cs us)
  only-so Q P none f l i [] us fs vs g h x = absurd g
  only-so Q P none f l i (c ∷ []) [] fs vs g h x = absurd g
  only-so Q P none f l i (c ∷ []) (u ∷ y ∷ us) fs vs g h x = absurd g
  only-so Q P none f l i (c ∷ d ∷ cs) us fs vs g h x = absurd g
  only-so Q P none f l i (c ∷ []) (u ∷ []) [] vs g h x = absurd h
  only-so Q P none f l i (c ∷ []) (u ∷ []) (true ∷ fs) rose.none g h x = absurd h
  only-so Q P none f l i (c ∷ []) (u ∷ []) (true ∷ b ∷ fs) (rose.more v vs) g h x = absurd h.1
  only-so Q P none f l i (c ∷ []) (u ∷ []) (false ∷ b ∷ fs) vs g h x = absurd h.1
  only-so Q P none f l i (c ∷ []) (u ∷ []) (false ∷ []) vs g h x = none
  only-so Q P none f l i (c ∷ []) (u ∷ []) (true ∷ []) (rose.more v vs) g h x =
      let fits : FitsAt M depth u v = subst (λ r. FitsAt M (below r depth) u v) g.is.role h.0 in
      subst (Q (nillable && false)) (sym (one-kids l i c u v [] vs role.Content g.is.role refl)) (f u v g.type fits)

  -- ---- empty content

  abbrev Bare : Bool → Roses Plain → Type 0
  Bare nil k = k ≡ rose.none

  no-parts : (l : TypeLabel) (i : ℕ) (fs : List Bool) (vs : Roses ValueLabel) → (present_given M l i [] [] fs vs).kids ≡ rose.none
  no-parts l i [] vs = refl
  no-parts l i (b ∷ fs) vs = refl

  empty-content : (l : TypeLabel) → KidsSo Bare l (AreContent E s M content_.Empty l)
  empty-content l i [] [] fs vs g h x = no-parts l i fs vs
  empty-content l i (c ∷ cs) us fs vs g h x = absurd g
  empty-content l i [] (u ∷ us) fs vs g h x = absurd g

  empty-inner : (u : Rose TypeLabel) (v : Rose ValueLabel) → HasParts E s M content_.Empty u → FitsAt M depth u v → (inside M u v).kids ≡ rose.none
  empty-inner u v has h =
      let l = type_label (form.Sequence has.0) [] in
      let a = sequence-value M depth [] has.0 has.1 v (subst (λ x. FitsAt M depth x v) has.2 h) in
      let ea : inside M u v ≡ present_given M l 0 has.0 (list_of has.1) a.flags a.values =
      ap (λ x. inside M x v) has.2 ∙ ap (λ x. inside M (node l has.1) x) a.is ∙ sequence-inside M depth [] has.0 has.1 a.flags a.values refl refl a.fit in
      ap (λ (z : Given). z.kids) ea ∙ empty-content l 0 has.0 (list_of has.1) a.flags a.values has.3 a.fit false

  empty-rest : (b : Bool) (l : TypeLabel) → KidsSo Bare l (AreRest E s M b content_.Empty l)
  empty-rest false l i cs us fs vs g h x = empty-content l i cs us fs vs g h x
  empty-rest true l i cs us fs vs g h x = only-so Bare (HasInner E s M content_.Empty) refl (λ u v has k. empty-inner u v has k) l i cs us fs vs g h x

  -- ---- simple content

  text-of : (n : ℕ) (nil : Bool) → nil ≡ false → (u : Rose TypeLabel) (v : Rose ValueLabel) → IsSimpleOf s n (resolve M u) → FitsAt M depth u v → TextOf s n nil (inside M u v).kids
  text-of n nil e u v is h = let t = text_spelled n u v is h in inr (e, spelling M u v, t.1, ap (λ (z : Given). z.kids) t.0)

  base-so : (n : ℕ) → nillable ≡ false → (l : TypeLabel) → KidsSo (TextOf s n) l (λ i cs us. IsOnly (IsBase s M n l i) cs us)
  base-so n never l i [] us fs vs g h x = absurd g
  base-so n never l i (c ∷ []) [] fs vs g h x = absurd g
  base-so n never l i (c ∷ []) (u ∷ y ∷ us) fs vs g h x = absurd g
  base-so n never l i (c ∷ d ∷ cs) us fs vs g h x = absurd g
  base-so n never l i (c ∷ []) (u ∷ []) [] vs g h x = absurd h
  base-so n never l i (c ∷ []) (u ∷ []) (false ∷ fs) vs g h x = absurd (let a = sym h.0 ∙ g.is.absent in cc)
  base-so n never l i (c ∷ []) (u ∷ []) (true ∷ fs) rose.none g h x = absurd h
  base-so n never l i (c ∷ []) (u ∷ []) (true ∷ fs) (rose.more v vs) g h x =
      let fits : FitsAt M depth u v = subst (λ r. FitsAt M (below r depth) u v) g.is.role h.0 in
      subst (TextOf s n (nillable && last_from false fs)) (sym (one-kids l i c u v fs vs role.Group g.is.role refl))
      (text-of n (nillable && last_from false fs) (ap (λ z. z && last_from false fs) never) u v g.type fits)

  simple-rest : (n : ℕ) (b : Bool) → nillable ≡ b → (l : TypeLabel) → KidsSo (TextOf s n) l (AreRest E s M b (content_.Simple n) l)
  simple-rest n false is l i cs us fs vs g h x = base-so n is l i cs us fs vs g h x
  simple-rest n true is l i cs us fs vs g h x =
      only-so (TextOf s n) (HasInner E s M (content_.Simple n)) (inl (ap (λ z. z && true) is, refl))
      (λ u v k fits. text-of n (nillable && false) (never-nil nillable false refl) u v k fits) l i cs us fs vs g h x

  -- ---- texts in front

  module _ (l : TypeLabel) (R : Behind) where
    texts-spelled : (m : Bool) (ds : List AttributeUse)
        → ((i : ℕ) (cs : List Component) (us : List (Rose TypeLabel)) (fs : List Bool) (vs : Roses ValueLabel) → R i cs us → PartsFit M depth l i cs us fs vs → PartsKept M cs us fs vs
        → AreSpelled (space_at (parts_of s)) ds (present_given M l i cs us fs vs).attributes)
        → (i : ℕ) (cs : List Component) (us : List (Rose TypeLabel)) (fs : List Bool) (vs : Roses ValueLabel) → WithTexts m l R i cs us → PartsFit M depth l i cs us fs vs → PartsKept M cs us fs vs
        → AreSpelled (space_at (parts_of s)) ds (present_given M l i cs us fs vs).attributes
    texts-spelled false ds f i cs us fs vs g h k = f i cs us fs vs g h k
    texts-spelled true ds f i [] us fs vs g h k = absurd g
    texts-spelled true ds f i (c ∷ cs) [] fs vs g h k = absurd g
    texts-spelled true ds f i (c ∷ cs) (u ∷ us) [] vs g h k = absurd h
    texts-spelled true ds f i (c ∷ cs) (u ∷ us) (true ∷ fs) rose.none g h k = absurd h
    texts-spelled true ds f i (c ∷ cs) (u ∷ us) (true ∷ fs) (rose.more v vs) g h k =
        let rest = present_given M l (i + 1) cs us fs vs in
        subst (AreSpelled (space_at (parts_of s)) ds) (sym (ap (λ r. (both (placed M (record { role = r; part = c; type = u }) v (inside M u v)) rest).attributes) g.0.is.role)) (f (i + 1) cs us fs vs g.1 h.1 k.1)
    texts-spelled true ds f i (c ∷ cs) (u ∷ us) (false ∷ fs) vs g h k = f (i + 1) cs us fs vs g.1 h.1 k

    order-spelled : (all : Bool) (count : ℕ) (ds : List AttributeUse)
        → ((i : ℕ) (cs : List Component) (us : List (Rose TypeLabel)) (fs : List Bool) (vs : Roses ValueLabel) → R i cs us → PartsFit M depth l i cs us fs vs → PartsKept M cs us fs vs
        → AreSpelled (space_at (parts_of s)) ds (present_given M l i cs us fs vs).attributes)
        → (i : ℕ) (cs : List Component) (us : List (Rose TypeLabel)) (fs : List Bool) (vs : Roses ValueLabel) → WithOrder all count l R i cs us → PartsFit M depth l i cs us fs vs → PartsKept M cs us fs vs
        → AreSpelled (space_at (parts_of s)) ds (present_given M l i cs us fs vs).attributes
    order-spelled false count ds f i cs us fs vs g h k = f i cs us fs vs g h k
    order-spelled true count ds f i [] us fs vs g h k = absurd g
    order-spelled true count ds f i (c ∷ cs) [] fs vs g h k = absurd g
    order-spelled true count ds f i (c ∷ cs) (u ∷ us) [] vs g h k = absurd h
    order-spelled true count ds f i (c ∷ cs) (u ∷ us) (true ∷ fs) rose.none g h k = absurd h
    order-spelled true count ds f i (c ∷ cs) (u ∷ us) (true ∷ fs) (rose.more v vs) g h k =
        let rest = present_given M l (i + 1) cs us fs vs in
        subst (AreSpelled (space_at (parts_of s)) ds) (sym (ap (λ r. (both (placed M (record { role = r; part = c; type = u }) v (inside M u v)) rest).attributes) g.0.is.role)) (f (i + 1) cs us fs vs g.1 h.1 k.1)
    order-spelled true count ds f i (c ∷ cs) (u ∷ us) (false ∷ fs) vs g h k = f (i + 1) cs us fs vs g.1 h.1 k

    -- where no text is counted there is none
    texts-gone : (i : ℕ) (cs : List Component) (us : List (Rose TypeLabel)) (fs : List Bool) (vs : Roses ValueLabel) → WithTexts true l R i cs us → PartsFit M depth l i cs us fs vs
        → first_count (value.Sequence fs) (list_of vs) ≡ 0 → texts_of (value.Sequence fs) vs ≡ []
    texts-gone i [] us fs vs g h e = absurd g
    texts-gone i (c ∷ cs) [] fs vs g h e = absurd g
    texts-gone i (c ∷ cs) (u ∷ us) [] vs g h e = absurd h
    texts-gone i (c ∷ cs) (u ∷ us) (true ∷ fs) rose.none g h e = absurd h
    texts-gone i (c ∷ cs) (u ∷ us) (true ∷ fs) (rose.more v vs) g h e = texts-none (kids_of v) e
    texts-gone i (c ∷ cs) (u ∷ us) (false ∷ fs) vs g h e = refl

    -- each of them has the characters of XML
    texts-fit : (i : ℕ) (cs : List Component) (us : List (Rose TypeLabel)) (fs : List Bool) (vs : Roses ValueLabel) → WithTexts true l R i cs us → PartsFit M depth l i cs us fs vs
        → All IsXmlText (texts_of (value.Sequence fs) vs)
    texts-fit i [] us fs vs g h = absurd g
    texts-fit i (c ∷ cs) [] fs vs g h = absurd g
    texts-fit i (c ∷ cs) (u ∷ us) [] vs g h = absurd h
    texts-fit i (c ∷ cs) (u ∷ us) (true ∷ fs) rose.none g h = absurd h
    texts-fit i (c ∷ cs) (u ∷ us) (true ∷ fs) (rose.more v vs) g h = texts-xml M depth u v g.0.type (subst (λ r. FitsAt M (below r depth) u v) g.0.is.role h.0)
    texts-fit i (c ∷ cs) (u ∷ us) (false ∷ fs) vs g h = All-nil IsXmlText

  -- ---- what the parts give

  content-gives : (ds : List AttributeUse) (x : Content) (l : TypeLabel) (ms : List Child) (cs : List Component) (us : List (Rose TypeLabel)) (fs : List Bool) (vs : Roses ValueLabel)
      → WithTexts (is_mixed x) l (WithOrder (is_ordered x) (order_count x) l (WithAttributes s M l (AreRest E s M nillable x l) ds)) 0 cs us → PartsFit M depth l 0 cs us fs vs
      → (outer : Given) → (is_ordered x ≡ false → outer ≡ present_given M l 0 cs us fs vs)
      → ((present_given M l 0 cs us fs vs).kids ≡ told M (present_children M l 0 cs us fs vs) → outer.kids ≡ told M ms) → (nil : Bool) → (nillable && last_from false fs) ≡ nil
      → ((p : Rose ParticleLabel) → model_of x ≡ Some p → Stands M E depth nil p ms)
      → (is_mixed x ≡ true → first_count (value.Sequence fs) (list_of vs) ≡ text_count nil (length ms))
      → ContentGives M E depth s x nil (with_texts (is_mixed x) (texts_of (value.Sequence fs) vs) outer).kids
  content-gives ds content_.Empty l ms cs us fs vs g h outer plain shows nil is stands counted =
      ap (λ (z : Given). z.kids) (plain refl) ∙ attributes-so Bare l (AreRest E s M nillable content_.Empty l) (empty-rest nillable l) ds 0 cs us fs vs g h false
  content-gives ds (content_.Simple n) l ms cs us fs vs g h outer plain shows nil is stands counted =
      let k = (present_given M l 0 cs us fs vs).kids in
      let it : TextOf s n (nillable && last_from false fs) k = attributes-so (TextOf s n) l (AreRest E s M nillable (content_.Simple n) l) (simple-rest n nillable refl l) ds 0 cs us fs vs g h false in
      subst (λ (z : Given). TextOf s n nil z.kids) (sym (plain refl)) (subst (λ b. TextOf s n b k) is it)
  content-gives ds (content_.ElementOnly p) l ms cs us fs vs g h outer plain shows nil is stands counted =
      let R = WithAttributes s M l (AreRest E s M nillable (content_.ElementOnly p) l) ds in
      let x = content_.ElementOnly p in (
        ms,
        stands p refl,
        shows
            (order-tells M depth s l R (attributes-tell M depth s l (AreRest E s M nillable (content_.ElementOnly p) l) (elements-tell M depth s E nillable p l) ds) (is_ordered x) (order_count x) 0 cs us fs vs g h),
      )
  content-gives ds (content_.Mixed p) l ms cs us fs vs g h outer plain shows nil is stands counted =
      let A = WithAttributes s M l (AreRest E s M nillable (content_.Mixed p) l) ds in
      let x = content_.Mixed p in
      let R = WithOrder (is_ordered x) (order_count x) l A in
      let texts = texts_of (value.Sequence fs) vs in (
        texts,
        ms,
        stands p refl,
        λ e. texts-gone l R 0 cs us fs vs g h (counted refl ∙ ap (λ b. text_count b (length ms)) e),
        texts-fit l R 0 cs us fs vs g h,
        ap (interleaved texts)
            (shows (texts-tell M depth s l R (order-tells M depth s l A (attributes-tell M depth s l (AreRest E s M nillable (content_.Mixed p) l) (rest-tells M depth s E nillable p l) ds) (is_ordered x) (order_count x)) true
            0 cs us fs vs g h)),
      )

  stands-by : (c : ComplexDef) → IsContent s c.content → (t : Rose TypeLabel) → HasComplex E s M nillable c (resolve M t) → (v : Rose ValueLabel) → FitsAt M depth t v → (b : Bool) → nillable ≡ b
      → (p : Rose ParticleLabel) → model_of c.content ≡ Some p → Stands M E depth (nillable && is_last_absent (label_of v)) p (children M t v)
  stands-by c ok t has v h false is p modelled =
      inr (ap (λ z. z && is_last_absent (label_of v)) is, complex-follows M E depth s c ok p modelled t (resolve M t) refl (subst (λ z. HasComplex E s M z c (resolve M t)) is has) v h)
  stands-by c ok t has v h true is p modelled =
      subst (λ z. Stands M E depth (z && is_last_absent (label_of v)) p (children M t v)) (sym is)
      (nillable-follows M E depth s c ok p modelled t (resolve M t) refl (subst (λ z. HasComplex E s M z c (resolve M t)) is has) v h)

  pub complex-gives : (c : ComplexDef) → IsContent s c.content → (t : Rose TypeLabel) → HasComplex E s M nillable c (resolve M t) → (v : Rose ValueLabel) → FitsAt M depth t v
      → ComplexGives M E depth s nillable c (inside M t v)
  complex-gives c ok t has v h =
      let mixed = is_mixed c.content in
      let all = is_ordered c.content in
      let marks = sequence_marks nillable mixed all in
      let l = type_label (form.Sequence has.0) marks in
      let us = list_of has.1 in
      let whole = node l has.1 in
      let same : resolve M t ≡ resolve M whole = has.2 ∙ sym (follow-none M 4 whole refl) in
      let fits = fits-found M depth t whole v same h in
      let a = sequence-value M depth marks has.0 has.1 v fits in
      let va = node (value.Sequence a.flags) a.values in
      let g = present_given M l 0 has.0 us a.flags a.values in
      let raw = present_children M l 0 has.0 us a.flags a.values in
      let outer = as_ordered M whole va g in
      let last = is_last_absent (value.Sequence a.flags) in
      let nil = nillable && last in
      let rest = AreRest E s M nillable c.content l in
      let texts = texts_of (value.Sequence a.flags) a.values in
      let w = with_texts mixed texts outer in
      let so = shows-so M depth nillable mixed all has.0 has.1 v fits a in
      let ev : inside M t v ≡ items.with_nil nil w = inside-found M t whole v same ∙ so.0 in
      let told_so : children M t v ≡ as_told M whole v raw = children-found M t whole v same ∙ a.gives_all in
      let counted : mixed ≡ true → first_count (value.Sequence a.flags) (list_of a.values) ≡ text_count nil (length (children M t v)) =
      λ m. so.1 m ∙ ap (λ x. text_count nil (length x)) (sym told_so) in
      let stands : (p : Rose ParticleLabel) → model_of c.content ≡ Some p → Stands M E depth nil p (children M t v) =
      λ p e. subst (λ x. Stands M E depth (nillable && is_last_absent (label_of x)) p (children M t v)) a.is (stands-by c ok t has v h nillable refl p e) in
      let plain : all ≡ false → outer ≡ g = λ e. unordered (has_use_order marks) (ordered_flags M l whole va) (order_of whole va) g (sequence-order nillable mixed all ∙ e) in
      let shows : g.kids ≡ told M raw → outer.kids ≡ told M (children M t v) =
      λ e. order-shows M (has_use_order marks) (ordered_flags M l whole va) (order_of whole va) g raw e ∙ ap (λ z. told M (as_told M whole z raw)) (sym a.is) ∙ ap (told M) (sym told_so) in
      let keeps = order-keeps M (has_use_order marks) (ordered_flags M l whole va) (order_of whole va) g in
      record {
        nil = nil;
        attributes = g.attributes;
        kids = w.kids;
        is = ev ∙ nil-given nil w ∙ ap (λ xs. given (with_nil (nil_as nil) xs) w.kids) (texts-keep mixed texts outer ∙ keeps);
        from = nilled nillable last;
        spelled = texts-spelled l (WithOrder all (order_count c.content) l (WithAttributes s M l rest c.uses)) mixed c.uses
            (λ i cs ts fs vs k fit kept. order-spelled l (WithAttributes s M l rest c.uses) all (order_count c.content) c.uses
            (λ j ds xs f ws m fit2 kept2. attributes-spelled (space_at (parts_of s)) M depth s (λ n u x is_one fits_one. (text_spelled n u x is_one fits_one).1) l rest (rest-silent M depth s E text_inside nillable c.content l) c.uses j ds xs f ws m fit2 kept2)
            i cs ts fs vs k fit kept)
            0 has.0 us a.flags a.values has.3 a.fit a.kept;
        content = content-gives c.uses c.content l (children M t v) has.0 us a.flags a.values has.3 a.fit outer plain shows nil
            (ap (λ b. nillable && b) (sym (last-is a.flags))) stands counted;
      }
