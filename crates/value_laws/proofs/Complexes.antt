-- Two values of a complex type, or of a nillable simple type, that give the same items are one.
use Rattle.std.proofs.Common.{◌≡◌, ℕ, suc, ◌+◌, ◌&&◌, Bool, true, false, Some, List, [], ◌∷◌, length, map, refl, sym, ap, subst, ◌∙◌}
use Rattle.std.specs.Prelude.{MatchBool, codes}
use Rattle.base_texts.specs.declared.texts.Name.{Name}
use Rattle.base_trees.specs.Rose.{Rose, node, Roses, list_of, label_of}
use Rattle.base_trees.specs.Rose as rose
use Rattle.simple_types.specs.declared.labels.ValueLabel.{ValueLabel}
use Rattle.simple_types.specs.declared.labels.ValueLabel.TheVariants as value
use Rattle.content_models.specs.declared.particles.ParticleLabel.{ParticleLabel}
use Rattle.xml_items.specs.Plain.{Plain}
use Rattle.xml_items.specs.Mixing.{text_before, interleaved}
use Rattle.asn_types.specs.declared.modules.Assignment.{Assignment}
use Rattle.asn_types.specs.declared.marks.Instruction.{Instruction}
use Rattle.asn_types.specs.declared.types.Component.{Component}
use Rattle.asn_types.specs.declared.types.Form.TheVariants as form
use Rattle.asn_types.specs.declared.types.TypeLabel.{TypeLabel}
use Rattle.asn_types.specs.Marks.{has_use_nil, has_use_order, has_embed_values}
use Rattle.asn_types.specs.Refs.{resolve}
use Rattle.asn_values.specs.Values.{FitsAt, OwnAt, HasTextCount, child_count, first_count, text_count, is_last_absent, ordered_flags, order_of}
use Rattle.schema_components.specs.declared.components.ComplexDef.{ComplexDef}
use Rattle.schema_components.specs.declared.components.Content.{Content}
use Rattle.schema_components.specs.declared.components.Content.TheVariants as content_
use Rattle.schema_components.specs.Components.{Set, model_of}
use Rattle.schema_components.specs.Linked.{IsComplexType}
use Rattle.map_assignments.specs.Planning.{is_mixed, is_ordered}
use Rattle.map_assignments.specs.Naming.{type_label, sequence_marks}
use Rattle.map_assignments.proofs.Marked.{sequence-nil, sequence-embeds, sequence-order}
use Rattle.map_assignments.proofs.Resolving.{follow-none}
use Rattle.map_laws.specs.Children.{Child, as_told}
use Rattle.map_laws.specs.Standing.{Behind, IsSimpleOf, HasNillable, WithTexts, WithOrder, order_count, WithAttributes, AreRest, HasComplex}
use Rattle.map_laws.proofs.Values.{present_children, PartsFit, IsSequenceValue, sequence-value}
use Rattle.map_laws.proofs.Complexes.{fits-found}
use Rattle.map_laws.proofs.Counts.{children-counted}
use Rattle.map_laws.proofs.Decided.{orders-decided}
use Rattle.map_laws.proofs.Nillables.{last_absent, last-at}
use Rattle.map_laws.proofs.Regions.{numbers_of, plainly-told}
use Rattle.asn_types.specs.Spaces.{spelling}
use Rattle.xer_items.specs.Spelling.{is_textual}
use Rattle.xer_items.specs.Items.{Given, given, both, nil_name, texts_of, with_texts, with_nil, placed, inside}
use Rattle.value_laws.proofs.Groups.{tell, told, order-shows, order-keeps, present_given, as_ordered, ordered-inside, sequence-inside, inside-found}
use Rattle.xer_items.proofs.Ordering.{unordered}
use Rattle.value_laws.proofs.Walking.{last_from, Outside, Apart, sorted-apart, name_in, rest-same, only-same}
use Rattle.value_laws.proofs.Attributes.{outside, attributes-same, rest-silent, only-silent, SameParts}
use Rattle.value_laws.proofs.Mixed.{TellKids, attributes-tell, order-tells, texts-tell, rest-tells, elements-tell, parted, mixed-same, order-same, texts-same, first-texts}

-- ---- marks

pub not-textual : (cs : List Component) (n m o : Bool) → is_textual (type_label (form.Sequence cs) (sequence_marks n m o)) ≡ false
not-textual cs true true true = refl
not-textual cs true true false = refl
not-textual cs true false true = refl
not-textual cs true false false = refl
not-textual cs false true true = refl
not-textual cs false true false = refl
not-textual cs false false true = refl
not-textual cs false false false = refl

-- ---- nil

last-same : (b : Bool) (bs : List Bool) → last_absent (b ∷ bs) ≡ last_from false (b ∷ bs)
last-same b [] = refl
last-same b (c ∷ bs) = last-same c bs

pub last-is : (flags : List Bool) → is_last_absent (value.Sequence flags) ≡ last_from false flags
last-is [] = refl
last-is (b ∷ bs) = last-at b bs ∙ last-same b bs

and-agree : (n a b : Bool) → (n ≡ true → a ≡ b) → (n && a) ≡ (n && b)
and-agree true a b f = f refl
and-agree false a b f = refl

abbrev behind : List (Name × List ℕ) → List (Name × List ℕ)
behind [] = []
behind (x ∷ xs) = xs

nil-clash : (xs ys : List (Name × List ℕ)) → ((nil_name, codes "true") ∷ xs) ≡ ys → Outside nil_name ys → ⊥
nil-clash xs ys e out = (subst (Outside nil_name) (sym e) out).0 refl

nil-split : (n lv lw : Bool) (a b : Given) → with_nil (n && lv) a ≡ with_nil (n && lw) b → Outside nil_name a.attributes → Outside nil_name b.attributes
    → (n ≡ true → lv ≡ lw) × (a.attributes ≡ b.attributes) × (a.kids ≡ b.kids)
nil-split false lv lw a b e oa ob = ((λ f. absurd (cc)), ap (λ (z : Given). z.attributes) e, ap (λ (z : Given). z.kids) e)
nil-split true true true a b e oa ob = ((λ f. refl), ap (λ (z : Given). behind z.attributes) e, ap (λ (z : Given). z.kids) e)
nil-split true false false a b e oa ob = ((λ f. refl), ap (λ (z : Given). z.attributes) e, ap (λ (z : Given). z.kids) e)
nil-split true true false a b e oa ob = absurd (nil-clash a.attributes b.attributes (ap (λ (z : Given). z.attributes) e) ob)
nil-split true false true a b e oa ob = absurd (nil-clash b.attributes a.attributes (sym (ap (λ (z : Given). z.attributes) e)) oa)

match-true : (b : Bool) (A : Type 0) → b ≡ true → MatchBool b A (Unit {0}) → A
match-true true A e h = h
match-true false A e h = absurd (cc)

pub texts-keep : (m : Bool) (texts : List (List ℕ)) (g : Given) → (with_texts m texts g).attributes ≡ g.attributes
texts-keep true texts g = refl
texts-keep false texts g = refl

abbrev pub Label : Bool → Bool → Bool → List Component → TypeLabel
Label nillable mixed all cs = type_label (form.Sequence cs) (sequence_marks nillable mixed all)

module _ (M : List Assignment) (depth : ℕ) where
  pub texts-counted : (marks : List Instruction) (cs : List Component) (us : Roses TypeLabel) (flags : List Bool) (vs : Roses ValueLabel)
      → FitsAt M depth (node (type_label (form.Sequence cs) marks) us) (node (value.Sequence flags) vs) → has_embed_values marks ≡ true
      → first_count (value.Sequence flags) (list_of vs)
      ≡ text_count (has_use_nil marks && is_last_absent (value.Sequence flags)) (child_count M (node (type_label (form.Sequence cs) marks) us) (node (value.Sequence flags) vs))
  unfolding FitsAt
  texts-counted marks cs us flags vs h embed =
      let l = type_label (form.Sequence cs) marks in
      let whole = node l us in
      let own : OwnAt M l whole (node (value.Sequence flags) vs) = subst (λ x. OwnAt M (label_of x) x (node (value.Sequence flags) vs)) (follow-none M 4 whole refl) h.2 in
      match-true (has_embed_values marks) (HasTextCount M l whole (node (value.Sequence flags) vs)) embed own.2

  -- what a value gives, and how many texts it has
  pub shows-so : (nillable mixed all : Bool) (cs : List Component) (us : Roses TypeLabel) (v : Rose ValueLabel) → FitsAt M depth (node (Label nillable mixed all cs) us) v
      → (a : IsSequenceValue M depth (Label nillable mixed all cs) cs us v)
      → (inside M (node (Label nillable mixed all cs) us) v ≡ with_nil (nillable && is_last_absent (value.Sequence a.flags)) (with_texts mixed (texts_of (value.Sequence a.flags) a.values)
      (as_ordered M (node (Label nillable mixed all cs) us) (node (value.Sequence a.flags) a.values) (present_given M (Label nillable mixed all cs) 0 cs (list_of us) a.flags a.values))))
      × (mixed ≡ true → first_count (value.Sequence a.flags) (list_of a.values)
      ≡ text_count (nillable && is_last_absent (value.Sequence a.flags)) (length (as_told M (node (Label nillable mixed all cs) us) v (present_children M (Label nillable mixed all cs) 0 cs (list_of us) a.flags a.values))))
  shows-so nillable mixed all cs us v h a =
      let marks = sequence_marks nillable mixed all in
      let l = Label nillable mixed all cs in
      let whole = node l us in
      let w = node (value.Sequence a.flags) a.values in
      let outer = as_ordered M whole w (present_given M l 0 cs (list_of us) a.flags a.values) in
      let last = is_last_absent (value.Sequence a.flags) in
      let ends_as = λ (n m : Bool). with_nil (n && last) (with_texts m (texts_of (value.Sequence a.flags) a.values) outer) in (
        ap (λ x. inside M whole x) a.is ∙ ordered-inside M depth marks cs us a.flags a.values (not-textual cs nillable mixed all) a.fit
            ∙ ap (λ n. ends_as n (has_embed_values marks)) (sequence-nil nillable mixed all) ∙ ap (λ m. ends_as nillable m) (sequence-embeds nillable mixed all),
        λ m. texts-counted marks cs us a.flags a.values (subst (FitsAt M depth whole) a.is h) (sequence-embeds nillable mixed all ∙ m)
            ∙ ap (λ n. text_count (n && last) (child_count M whole (node (value.Sequence a.flags) a.values))) (sequence-nil nillable mixed all)
            ∙ ap (text_count (nillable && last)) (ap (child_count M whole) (sym a.is) ∙ children-counted M depth whole v h ∙ ap length a.gives_all),
      )

  module _ (l : TypeLabel) (R : Behind) (n : Name) where
    texts-outside : (m : Bool) → ((i : ℕ) (cs : List Component) (us : List (Rose TypeLabel)) (fs : List Bool) (vs : Roses ValueLabel) → R i cs us → PartsFit M depth l i cs us fs vs → Outside n (present_given M l i cs us fs vs).attributes)
        → (i : ℕ) (cs : List Component) (us : List (Rose TypeLabel)) (fs : List Bool) (vs : Roses ValueLabel) → WithTexts m l R i cs us → PartsFit M depth l i cs us fs vs → Outside n (present_given M l i cs us fs vs).attributes
    texts-outside false f i cs us fs vs g h = f i cs us fs vs g h
    texts-outside true f i [] us fs vs g h = absurd g
    texts-outside true f i (c ∷ cs) [] fs vs g h = absurd g
    texts-outside true f i (c ∷ cs) (u ∷ us) [] vs g h = absurd h
    texts-outside true f i (c ∷ cs) (u ∷ us) (true ∷ fs) rose.none g h = absurd h
    texts-outside true f i (c ∷ cs) (u ∷ us) (true ∷ fs) (rose.more v vs) g h =
        let rest = present_given M l (i + 1) cs us fs vs in
        subst (Outside n) (sym (ap (λ r. (both (placed M (record { role = r; part = c; type = u }) v (inside M u v)) rest).attributes) g.0.is.role)) (f (i + 1) cs us fs vs g.1 h.1)
    texts-outside true f i (c ∷ cs) (u ∷ us) (false ∷ fs) vs g h = f (i + 1) cs us fs vs g.1 h.1

    order-outside : (all : Bool) (count : ℕ)
        → ((i : ℕ) (cs : List Component) (us : List (Rose TypeLabel)) (fs : List Bool) (vs : Roses ValueLabel) → R i cs us → PartsFit M depth l i cs us fs vs → Outside n (present_given M l i cs us fs vs).attributes)
        → (i : ℕ) (cs : List Component) (us : List (Rose TypeLabel)) (fs : List Bool) (vs : Roses ValueLabel) → WithOrder all count l R i cs us → PartsFit M depth l i cs us fs vs
        → Outside n (present_given M l i cs us fs vs).attributes
    order-outside false count f i cs us fs vs g h = f i cs us fs vs g h
    order-outside true count f i [] us fs vs g h = absurd g
    order-outside true count f i (c ∷ cs) [] fs vs g h = absurd g
    order-outside true count f i (c ∷ cs) (u ∷ us) [] vs g h = absurd h
    order-outside true count f i (c ∷ cs) (u ∷ us) (true ∷ fs) rose.none g h = absurd h
    order-outside true count f i (c ∷ cs) (u ∷ us) (true ∷ fs) (rose.more v vs) g h =
        let rest = present_given M l (i + 1) cs us fs vs in
        subst (Outside n) (sym (ap (λ r. (both (placed M (record { role = r; part = c; type = u }) v (inside M u v)) rest).attributes) g.0.is.role)) (f (i + 1) cs us fs vs g.1 h.1)
    order-outside true count f i (c ∷ cs) (u ∷ us) (false ∷ fs) vs g h = f (i + 1) cs us fs vs g.1 h.1

module _ (M : List Assignment) (E : ℕ → Rose TypeLabel → Type 0) (depth : ℕ) (s : Set)
    (same_values : (d : ℕ) (a : Name) (u : Rose TypeLabel) (v w : Rose ValueLabel) → E d u → FitsAt M (suc depth) u v → FitsAt M (suc depth) u w
    → tell M (record { name = a; type = u; value = v }) ≡ tell M (record { name = a; type = u; value = w }) → v ≡ w)
    (text_inside : (n : ℕ) (u : Rose TypeLabel) (v : Rose ValueLabel) → IsSimpleOf s n (resolve M u) → (words : List ℕ) × (inside M u v ≡ given [] (text_before words rose.none)))
    (text_same : (n : ℕ) (u : Rose TypeLabel) (v w : Rose ValueLabel) → IsSimpleOf s n (resolve M u) → FitsAt M depth u v → FitsAt M depth u w → (inside M u v).kids ≡ (inside M u w).kids → v ≡ w)
    (spell_same : (n : ℕ) (u : Rose TypeLabel) (v w : Rose ValueLabel) → IsSimpleOf s n (resolve M u) → FitsAt M depth u v → FitsAt M depth u w → spelling M u v ≡ spelling M u w → v ≡ w) where
  module _ (nillable mixed : Bool) (c : ComplexDef) (ok : IsComplexType s c) (apart : Apart nil_name c.uses) (is : is_mixed c.content ≡ mixed) (l : TypeLabel) where
    abbrev Rest : Behind
    Rest = AreRest E s M nillable c.content l

    abbrev Own : Behind
    Own = WithAttributes s M l Rest c.uses

    rest : SameParts M depth s spell_same nillable l Rest
    rest i cs us fv vs fw ws g hv hw x a p k = rest-same M E depth s same_values text_inside text_same spell_same nillable nillable refl c.content ok.content l i cs us fv vs fw ws g hv hw x a k

    own-same : SameParts M depth s spell_same nillable l Own
    own-same = attributes-same M depth s spell_same nillable l Rest (rest-silent M depth s E text_inside nillable c.content l) rest c.uses (sorted-apart c.uses ok.ascending)

    own-outside : (all : Bool) (i : ℕ) (cs : List Component) (us : List (Rose TypeLabel)) (fs : List Bool) (vs : Roses ValueLabel) → WithTexts mixed l (WithOrder all (order_count c.content) l Own) i cs us
        → PartsFit M depth l i cs us fs vs → Outside nil_name (present_given M l i cs us fs vs).attributes
    own-outside all =
        texts-outside M depth l (WithOrder all (order_count c.content) l Own) nil_name mixed
        (order-outside M depth l Own nil_name all (order_count c.content) (λ i cs us fs vs g h. outside M depth s l Rest (rest-silent M depth s E text_inside nillable c.content l) nil_name c.uses apart i cs us fs vs g h))

    own-tells : (particle : Rose ParticleLabel) → model_of c.content ≡ Some particle → TellKids M depth s l Own
    own-tells particle m i cs us fs vs g h = by c.content m refl
      where
        by : (x : Content) → model_of x ≡ Some particle → x ≡ c.content → (present_given M l i cs us fs vs).kids ≡ told M (present_children M l i cs us fs vs)
        by content_.Empty y z = absurd cc
        by (content_.Simple n) y z = absurd cc
        by (content_.ElementOnly p) y z =
            attributes-tell M depth s l (AreRest E s M nillable (content_.ElementOnly p) l) (elements-tell M depth s E nillable p l) c.uses i cs us fs vs
            (subst (λ k. WithAttributes s M l (AreRest E s M nillable k l) c.uses i cs us) (sym z) g) h
        by (content_.Mixed p) y z =
            attributes-tell M depth s l (AreRest E s M nillable (content_.Mixed p) l) (rest-tells M depth s E nillable p l) c.uses i cs us fs vs
            (subst (λ k. WithAttributes s M l (AreRest E s M nillable k l) c.uses i cs us) (sym z) g) h

    mixed-model : mixed ≡ true → (particle : Rose ParticleLabel) × (model_of c.content ≡ Some particle)
    mixed-model m = by c.content (is ∙ m)
      where
        by : (x : Content) → is_mixed x ≡ true → (particle : Rose ParticleLabel) × (model_of x ≡ Some particle)
        by content_.Empty y = absurd cc
        by (content_.Simple n) y = absurd cc
        by (content_.ElementOnly p) y = absurd cc
        by (content_.Mixed p) y = (p, refl)

  ordered-model : (c : Content) → is_ordered c ≡ true → (particle : Rose ParticleLabel) × (model_of c ≡ Some particle)
  ordered-model content_.Empty y = absurd cc
  ordered-model (content_.Simple n) y = absurd cc
  ordered-model (content_.ElementOnly p) y = (p, refl)
  ordered-model (content_.Mixed p) y = (p, refl)

  -- without an order
  ends : (nillable mixed : Bool) (c : ComplexDef) (ok : IsComplexType s c) (apart : Apart nil_name c.uses) (is : is_mixed c.content ≡ mixed) (l : TypeLabel)
      (cs : List Component) (us : List (Rose TypeLabel)) (fv : List Bool) (vs : Roses ValueLabel) (fw : List Bool) (ws : Roses ValueLabel)
      → WithTexts mixed l (WithAttributes s M l (AreRest E s M nillable c.content l) c.uses) 0 cs us → PartsFit M depth l 0 cs us fv vs → PartsFit M depth l 0 cs us fw ws
      → (mixed ≡ true → first_count (value.Sequence fv) (list_of vs) ≡ text_count (nillable && is_last_absent (value.Sequence fv)) (length (present_children M l 0 cs us fv vs)))
      → (mixed ≡ true → first_count (value.Sequence fw) (list_of ws) ≡ text_count (nillable && is_last_absent (value.Sequence fw)) (length (present_children M l 0 cs us fw ws)))
      → with_nil (nillable && is_last_absent (value.Sequence fv)) (with_texts mixed (texts_of (value.Sequence fv) vs) (present_given M l 0 cs us fv vs))
      ≡ with_nil (nillable && is_last_absent (value.Sequence fw)) (with_texts mixed (texts_of (value.Sequence fw) ws) (present_given M l 0 cs us fw ws))
      → (fv ≡ fw) × (vs ≡ ws)
  ends nillable false c ok apart is l cs us fv vs fw ws g hv hw nv nw e =
      let split = nil-split nillable (is_last_absent (value.Sequence fv)) (is_last_absent (value.Sequence fw)) (present_given M l 0 cs us fv vs) (present_given M l 0 cs us fw ws) e
      (own-outside nillable false c ok apart is l false 0 cs us fv vs g hv) (own-outside nillable false c ok apart is l false 0 cs us fw ws g hw) in
      own-same nillable false c ok apart is l 0 cs us fv vs fw ws g hv hw false (λ may. sym (last-is fv) ∙ split.0 may ∙ last-is fw) split.1 split.2
  ends nillable true c ok apart is l cs us fv vs fw ws g hv hw nv nw e =
      let tv = texts_of (value.Sequence fv) vs in
      let tw = texts_of (value.Sequence fw) ws in
      let split = nil-split nillable (is_last_absent (value.Sequence fv)) (is_last_absent (value.Sequence fw)) (with_texts true tv (present_given M l 0 cs us fv vs)) (with_texts true tw (present_given M l 0 cs us fw ws)) e
      (own-outside nillable true c ok apart is l false 0 cs us fv vs g hv) (own-outside nillable true c ok apart is l false 0 cs us fw ws g hw) in
      let nils = and-agree nillable (is_last_absent (value.Sequence fv)) (is_last_absent (value.Sequence fw)) split.0 in
      let has_model = mixed-model nillable true c ok apart is l refl in
      mixed-same M depth s nillable l (WithAttributes s M l (AreRest E s M nillable c.content l) c.uses) (own-same nillable true c ok apart is l) (own-tells nillable true c ok apart is l has_model.0 has_model.1)
      0 cs us fv vs fw ws g hv hw false (λ may. sym (last-is fv) ∙ split.0 may ∙ last-is fw) (nillable && is_last_absent (value.Sequence fv)) (nv refl)
      (nw refl ∙ ap (λ z. text_count z (length (present_children M l 0 cs us fw ws))) (sym nils)) split.1 split.2

  -- texts and elements in an order
  told-apart : (mixed nil : Bool) (tv tw : List (List ℕ)) (a b : Given) (xs ys : List Child) → a.kids ≡ told M xs → b.kids ≡ told M ys
      → (mixed ≡ true → length tv ≡ text_count nil (length xs)) → (mixed ≡ true → length tw ≡ text_count nil (length ys))
      → (with_texts mixed tv a).kids ≡ (with_texts mixed tw b).kids → (mixed ≡ true → tv ≡ tw) × (told M xs ≡ told M ys)
  told-apart false nil tv tw a b xs ys ea eb cv cw k = ((λ m. absurd cc), sym ea ∙ k ∙ eb)
  told-apart true nil tv tw a b xs ys ea eb cv cw k =
      let split = parted M nil tv tw xs ys (cv refl) (cw refl) (sym (ap (interleaved tv) ea) ∙ k ∙ ap (interleaved tw) eb) in
      ((λ m. split.0), split.1)

  -- with an order
  ends-ordered : (nillable mixed : Bool) (c : ComplexDef) (ok : IsComplexType s c) (apart : Apart nil_name c.uses) (is : is_mixed c.content ≡ mixed) (l : TypeLabel)
      (particle : Rose ParticleLabel) → model_of c.content ≡ Some particle
      → (cs : List Component) (us : List (Rose TypeLabel)) (fv : List Bool) (vs : Roses ValueLabel) (fw : List Bool) (ws : Roses ValueLabel)
      → WithTexts mixed l (WithOrder true (order_count c.content) l (WithAttributes s M l (AreRest E s M nillable c.content l) c.uses)) 0 cs us
      → PartsFit M depth l 0 cs us fv vs → PartsFit M depth l 0 cs us fw ws
      → (av aw : Given) (mv mw : List Child) → av.attributes ≡ (present_given M l 0 cs us fv vs).attributes → aw.attributes ≡ (present_given M l 0 cs us fw ws).attributes
      → av.kids ≡ told M mv → aw.kids ≡ told M mw
      → (mixed ≡ true → first_count (value.Sequence fv) (list_of vs) ≡ text_count (nillable && is_last_absent (value.Sequence fv)) (length mv))
      → (mixed ≡ true → first_count (value.Sequence fw) (list_of ws) ≡ text_count (nillable && is_last_absent (value.Sequence fw)) (length mw))
      → (told M mv ≡ told M mw → (numbers_of l 0 cs fv vs ≡ numbers_of l 0 cs fw ws) × (told M (present_children M l 0 cs us fv vs) ≡ told M (present_children M l 0 cs us fw ws)))
      → with_nil (nillable && is_last_absent (value.Sequence fv)) (with_texts mixed (texts_of (value.Sequence fv) vs) av)
      ≡ with_nil (nillable && is_last_absent (value.Sequence fw)) (with_texts mixed (texts_of (value.Sequence fw) ws) aw)
      → (fv ≡ fw) × (vs ≡ ws)
  ends-ordered nillable mixed c ok apart is l particle modelled cs us fv vs fw ws g hv hw av aw mv mw pv pw kv kw nv nw orders e =
      let tv = texts_of (value.Sequence fv) vs in
      let tw = texts_of (value.Sequence fw) ws in
      let gv = present_given M l 0 cs us fv vs in
      let gw = present_given M l 0 cs us fw ws in
      let lv = is_last_absent (value.Sequence fv) in
      let lw = is_last_absent (value.Sequence fw) in
      let Own_ = WithAttributes s M l (AreRest E s M nillable c.content l) c.uses in
      let all_tell = texts-tell M depth s l (WithOrder true (order_count c.content) l Own_) (order-tells M depth s l Own_ (own-tells nillable mixed c ok apart is l particle modelled) true (order_count c.content)) mixed in
      let out_v = subst (Outside nil_name) (sym (texts-keep mixed tv av ∙ pv)) (own-outside nillable mixed c ok apart is l true 0 cs us fv vs g hv) in
      let out_w = subst (Outside nil_name) (sym (texts-keep mixed tw aw ∙ pw)) (own-outside nillable mixed c ok apart is l true 0 cs us fw ws g hw) in
      let split = nil-split nillable lv lw (with_texts mixed tv av) (with_texts mixed tw aw) e out_v out_w in
      let nils = and-agree nillable lv lw split.0 in
      let cv : mixed ≡ true → length tv ≡ text_count (nillable && lv) (length mv) = λ m. first-texts fv vs ∙ nv m in
      let cw : mixed ≡ true → length tw ≡ text_count (nillable && lv) (length mw) = λ m. first-texts fw ws ∙ nw m ∙ ap (λ z. text_count z (length mw)) (sym nils) in
      let both_told = told-apart mixed (nillable && lv) tv tw av aw mv mw kv kw cv cw split.2 in
      let same = orders both_told.1 in
      let attributes : gv.attributes ≡ gw.attributes = sym pv ∙ sym (texts-keep mixed tv av) ∙ split.1 ∙ texts-keep mixed tw aw ∙ pw in
      let kids : gv.kids ≡ gw.kids = all_tell 0 cs us fv vs g hv ∙ same.1 ∙ sym (all_tell 0 cs us fw ws g hw) in
      texts-same M depth s nillable l (WithOrder true (order_count c.content) l Own_) mixed (order-same M depth s nillable l Own_ (order_count c.content) (own-same nillable mixed c ok apart is l))
      0 cs us fv vs fw ws g hv hw false (λ may. sym (last-is fv) ∙ split.0 may ∙ last-is fw) both_told.0 attributes kids same.0

  told-list : (xs : List Child) → list_of (told M xs) ≡ map (tell M) xs
  told-list [] = refl
  told-list (x ∷ xs) = ap (λ z. tell M x ∷ z) (told-list xs)

  as-told : (xs ys : List Child) → map (tell M) xs ≡ map (tell M) ys → told M xs ≡ told M ys
  as-told [] [] e = refl
  as-told [] (y ∷ ys) e = absurd cc
  as-told (x ∷ xs) [] e = absurd cc
  as-told (x ∷ xs) (y ∷ ys) e =
      let first : tell M x ≡ tell M y = cc in
      let rest : map (tell M) xs ≡ map (tell M) ys = cc in
      ap (λ z. rose.more z (told M xs)) first ∙ ap (λ z. rose.more (tell M y) z) (as-told xs ys rest)

  abbrev HasAll : Bool → Bool → ComplexDef → List Component → List (Rose TypeLabel) → Type 0
  HasAll nillable all c cs us =
      WithTexts (is_mixed c.content) (Label nillable (is_mixed c.content) all cs)
      (WithOrder all (order_count c.content) (Label nillable (is_mixed c.content) all cs)
      (WithAttributes s M (Label nillable (is_mixed c.content) all cs) (AreRest E s M nillable c.content (Label nillable (is_mixed c.content) all cs)) c.uses)) 0 cs us

  whole-same : (nillable all : Bool) (c : ComplexDef) → IsComplexType s c → Apart nil_name c.uses → is_ordered c.content ≡ all → (cs : List Component) (us : Roses TypeLabel) → HasAll nillable all c cs (list_of us)
      → (v w : Rose ValueLabel) → FitsAt M depth (node (Label nillable (is_mixed c.content) all cs) us) v → FitsAt M depth (node (Label nillable (is_mixed c.content) all cs) us) w
      → inside M (node (Label nillable (is_mixed c.content) all cs) us) v ≡ inside M (node (Label nillable (is_mixed c.content) all cs) us) w → v ≡ w
  whole-same nillable false c ok apart kind cs us g v w hv hw e =
      let mixed = is_mixed c.content in
      let marks = sequence_marks nillable mixed false in
      let l = Label nillable mixed false cs in
      let whole = node l us in
      let a = sequence-value M depth marks cs us v hv in
      let b = sequence-value M depth marks cs us w hw in
      let va = node (value.Sequence a.flags) a.values in
      let wb = node (value.Sequence b.flags) b.values in
      let gv = present_given M l 0 cs (list_of us) a.flags a.values in
      let gw = present_given M l 0 cs (list_of us) b.flags b.values in
      let so_v = shows-so M depth nillable mixed false cs us v hv a in
      let so_w = shows-so M depth nillable mixed false cs us w hw b in
      let plain = sequence-order nillable mixed false in
      let ev : as_ordered M whole va gv ≡ gv = unordered (has_use_order marks) (ordered_flags M l whole va) (order_of whole va) gv plain in
      let ew : as_ordered M whole wb gw ≡ gw = unordered (has_use_order marks) (ordered_flags M l whole wb) (order_of whole wb) gw plain in
      let cv = plainly-told (has_use_order marks) (ordered_flags M l whole v) (order_of whole v) (present_children M l 0 cs (list_of us) a.flags a.values) plain in
      let cw = plainly-told (has_use_order marks) (ordered_flags M l whole w) (order_of whole w) (present_children M l 0 cs (list_of us) b.flags b.values) plain in
      let lv = is_last_absent (value.Sequence a.flags) in
      let lw = is_last_absent (value.Sequence b.flags) in
      let same = ends nillable mixed c ok apart refl l cs (list_of us) a.flags a.values b.flags b.values g a.fit b.fit
      (λ m. so_v.1 m ∙ ap (λ x. text_count (nillable && lv) (length x)) cv) (λ m. so_w.1 m ∙ ap (λ x. text_count (nillable && lw) (length x)) cw)
      (sym (so_v.0 ∙ ap (λ x. with_nil (nillable && lv) (with_texts mixed (texts_of (value.Sequence a.flags) a.values) x)) ev) ∙ e
      ∙ so_w.0 ∙ ap (λ x. with_nil (nillable && lw) (with_texts mixed (texts_of (value.Sequence b.flags) b.values) x)) ew) in
      a.is ∙ ap (λ z. node (value.Sequence z) a.values) same.0 ∙ ap (λ z. node (value.Sequence b.flags) z) same.1 ∙ sym b.is
  whole-same nillable true c ok apart kind cs us g v w hv hw e =
      let mixed = is_mixed c.content in
      let marks = sequence_marks nillable mixed true in
      let l = Label nillable mixed true cs in
      let whole = node l us in
      let a = sequence-value M depth marks cs us v hv in
      let b = sequence-value M depth marks cs us w hw in
      let va = node (value.Sequence a.flags) a.values in
      let wb = node (value.Sequence b.flags) b.values in
      let gv = present_given M l 0 cs (list_of us) a.flags a.values in
      let gw = present_given M l 0 cs (list_of us) b.flags b.values in
      let mv = present_children M l 0 cs (list_of us) a.flags a.values in
      let mw = present_children M l 0 cs (list_of us) b.flags b.values in
      let has_model = ordered-model c.content kind in
      let Own_ = WithAttributes s M l (AreRest E s M nillable c.content l) c.uses in
      let all_tell = texts-tell M depth s l (WithOrder true (order_count c.content) l Own_) (order-tells M depth s l Own_ (own-tells nillable mixed c ok apart refl l has_model.0 has_model.1) true (order_count c.content)) mixed in
      let so_v = shows-so M depth nillable mixed true cs us v hv a in
      let so_w = shows-so M depth nillable mixed true cs us w hw b in
      let kv : (as_ordered M whole va gv).kids ≡ told M (as_told M whole v mv) =
      order-shows M (has_use_order marks) (ordered_flags M l whole va) (order_of whole va) gv mv (all_tell 0 cs (list_of us) a.flags a.values g a.fit) ∙ ap (λ z. told M (as_told M whole z mv)) (sym a.is) in
      let kw : (as_ordered M whole wb gw).kids ≡ told M (as_told M whole w mw) =
      order-shows M (has_use_order marks) (ordered_flags M l whole wb) (order_of whole wb) gw mw (all_tell 0 cs (list_of us) b.flags b.values g b.fit) ∙ ap (λ z. told M (as_told M whole z mw)) (sym b.is) in
      let pv = order-keeps M (has_use_order marks) (ordered_flags M l whole va) (order_of whole va) gv in
      let pw = order-keeps M (has_use_order marks) (ordered_flags M l whole wb) (order_of whole wb) gw in
      let orders : told M (as_told M whole v mv) ≡ told M (as_told M whole w mw)
      → (numbers_of l 0 cs a.flags a.values ≡ numbers_of l 0 cs b.flags b.values) × (told M mv ≡ told M mw) =
      λ t.
      let both_told = orders-decided M E depth (Rose Plain) (tell M) name_in (λ x. refl) same_values nillable s c ok has_model.0 has_model.1 kind cs us g v w a b
      (sym (told-list (as_told M whole v mv)) ∙ ap list_of t ∙ told-list (as_told M whole w mw)) in
      (both_told.0, as-told mv mw both_told.1) in
      let same = ends-ordered nillable mixed c ok apart refl l has_model.0 has_model.1 cs (list_of us) a.flags a.values b.flags b.values g a.fit b.fit
      (as_ordered M whole va gv) (as_ordered M whole wb gw) (as_told M whole v mv) (as_told M whole w mw) pv pw kv kw so_v.1 so_w.1 orders (sym so_v.0 ∙ e ∙ so_w.0) in
      a.is ∙ ap (λ z. node (value.Sequence z) a.values) same.0 ∙ ap (λ z. node (value.Sequence b.flags) z) same.1 ∙ sym b.is

  pub complex-same : (nillable : Bool) (c : ComplexDef) → IsComplexType s c → Apart nil_name c.uses → (t : Rose TypeLabel) → HasComplex E s M nillable c (resolve M t) → (v w : Rose ValueLabel)
      → FitsAt M depth t v → FitsAt M depth t w → inside M t v ≡ inside M t w → v ≡ w
  complex-same nillable c ok apart t has v w hv hw e =
      let whole = node (Label nillable (is_mixed c.content) (is_ordered c.content) has.0) has.1 in
      let same : resolve M t ≡ resolve M whole = has.2 ∙ sym (follow-none M 4 whole refl) in
      whole-same nillable (is_ordered c.content) c ok apart refl has.0 has.1 has.3 v w (fits-found M depth t whole v same hv) (fits-found M depth t whole w same hw)
      (sym (inside-found M t whole v same) ∙ e ∙ inside-found M t whole w same)

  -- a simple type that may be nil
  pub nillable-same : (n : ℕ) (t : Rose TypeLabel) → HasNillable s M n (resolve M t) → (v w : Rose ValueLabel) → FitsAt M depth t v → FitsAt M depth t w → inside M t v ≡ inside M t w → v ≡ w
  nillable-same n t has v w hv hw e =
      let marks = sequence_marks true false false in
      let l = type_label (form.Sequence has.0) marks in
      let us = list_of has.1 in
      let whole = node l has.1 in
      let same : resolve M t ≡ resolve M whole = has.2 ∙ sym (follow-none M 4 whole refl) in
      let a = sequence-value M depth marks has.0 has.1 v (fits-found M depth t whole v same hv) in
      let b = sequence-value M depth marks has.0 has.1 w (fits-found M depth t whole w same hw) in
      let ev : inside M t v ≡ with_nil (true && is_last_absent (value.Sequence a.flags)) (present_given M l 0 has.0 us a.flags a.values) =
      inside-found M t whole v same ∙ ap (λ x. inside M whole x) a.is ∙ sequence-inside M depth marks has.0 has.1 a.flags a.values refl refl a.fit in
      let ew : inside M t w ≡ with_nil (true && is_last_absent (value.Sequence b.flags)) (present_given M l 0 has.0 us b.flags b.values) =
      inside-found M t whole w same ∙ ap (λ x. inside M whole x) b.is ∙ sequence-inside M depth marks has.0 has.1 b.flags b.values refl refl b.fit in
      let P = λ (u : Rose TypeLabel). IsSimpleOf s n (resolve M u) in
      let silent = only-silent M depth s E text_inside P (λ u x k h. ap (λ (z : Given). z.attributes) (text_inside n u x k).1) l in
      let gone_v = subst (Outside nil_name) (sym (silent 0 has.0 us a.flags a.values has.3 a.fit)) tt in
      let gone_w = subst (Outside nil_name) (sym (silent 0 has.0 us b.flags b.values has.3 b.fit)) tt in
      let split = nil-split true (is_last_absent (value.Sequence a.flags)) (is_last_absent (value.Sequence b.flags)) (present_given M l 0 has.0 us a.flags a.values) (present_given M l 0 has.0 us b.flags b.values) (sym ev ∙ e ∙ ew) gone_v gone_w in
      let all = only-same M E depth s same_values text_inside text_same spell_same true P (λ u k x y p q r. text_same n u x y k p q r) refl l 0 has.0 us a.flags a.values b.flags b.values has.3 a.fit b.fit false
      (λ may. sym (last-is a.flags) ∙ split.0 may ∙ last-is b.flags) split.2 in
      a.is ∙ ap (λ z. node (value.Sequence z) a.values) all.0 ∙ ap (λ z. node (value.Sequence b.flags) z) all.1 ∙ sym b.is
