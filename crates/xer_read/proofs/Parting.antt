-- Parts that are given one by one make a value of a complex type, nil or not, that has their items.
use Rattle.std.proofs.Common.{◌≡◌, ℕ, ◌+◌, ◌≤◌, ◌<◌, ◌&&◌, Bool, true, false, not, Some, None, List, [], ◌∷◌, ◌++◌, length, map, append-nil, append_assoc, true≢false, refl, sym, ap, subst, ◌∙◌}
use Rattle.std.specs.Prelude.{if◌then◌else◌}
use Rattle.std.specs.List.{AllByRecursion}
use Rattle.std.proofs.lemmas.List.{length-map}
use Rattle.base_texts.specs.declared.texts.Name.{Name}
use Rattle.base_trees.specs.Rose.{Rose, node, Roses, list_of, roses_of, kids_of, length_all}
use Rattle.base_trees.specs.Rose as rose
use Rattle.simple_types.specs.declared.labels.ValueLabel.{ValueLabel}
use Rattle.simple_types.specs.declared.labels.ValueLabel.TheVariants as value
use Rattle.content_models.specs.declared.particles.ParticleLabel.{ParticleLabel}
use Rattle.content_models.specs.Clear.{Clear}
use Rattle.content_models.specs.Seen.{seen}
use Rattle.xml_items.specs.Plain.{Plain}
use Rattle.xml_items.specs.Mixing.{text_before}
use Rattle.asn_types.specs.declared.modules.Assignment.{Assignment}
use Rattle.asn_types.specs.declared.types.Component.{Component}
use Rattle.asn_types.specs.declared.types.Form.TheVariants as form
use Rattle.asn_types.specs.declared.types.TypeLabel.{TypeLabel}
use Rattle.asn_types.specs.declared.roles.Role.{Role}
use Rattle.asn_types.specs.declared.roles.Role.TheVariants as role
use Rattle.asn_types.specs.Marks.{has_embed_values, has_use_order}
use Rattle.asn_types.specs.Refs.{resolve, is_element}
use Rattle.asn_types.specs.Roles.{role_of}
use Rattle.asn_values.specs.Values.{below, child_count, first_count, text_count, is_last_absent, is_order_role, item_number, flags_from, ordered_flags, order_of, AreJustSet, places, FitEach, FitsAt}
use Rattle.schema_components.specs.declared.components.AttributeUse.{AttributeUse}
use Rattle.schema_components.specs.declared.components.ComplexDef.{ComplexDef}
use Rattle.schema_components.specs.declared.components.Content.{Content}
use Rattle.schema_components.specs.declared.components.Content.TheVariants as content_
use Rattle.schema_components.specs.Components.{Set}
use Rattle.schema_components.specs.Linked.{IsContent, IsLinked}
use Rattle.map_assignments.specs.Planning.{is_mixed, is_all, is_ordered}
use Rattle.map_assignments.specs.Naming.{type_label, sequence_marks}
use Rattle.map_assignments.proofs.Marked.{sequence-nil, sequence-order, sequence-embeds}
use Rattle.map_assignments.proofs.Resolving.{follow-none}
use Rattle.map_laws.specs.Children.{child_of, given_by, children}
use Rattle.map_laws.specs.Standing.{Behind, IsOnly, AreTexts, WithTexts, WithOrder, order_count, WithAttributes, IsInner, IsTop, AreContent, HasParts, HasInner, AreRest, HasComplex}
use Rattle.map_laws.proofs.Values.{present_children, PartsFit, PartsKept, sequence-value, sequence-unordered}
use Rattle.map_laws.proofs.Filling.{owns}
use Rattle.map_laws.proofs.Complexes.{fits-found}
use Rattle.map_laws.proofs.Counts.{count-at}
use Rattle.map_laws.proofs.OrderValues.{order_value, order-numbers, order-fits}
use Rattle.map_laws.proofs.Regions.{elements_of, elements-single, top-elements, numbers_of, order-is, singles-named, all-told}
use Rattle.map_laws.proofs.Frees.{kept-free, free-kept, content-free}
use Rattle.map_laws.proofs.Giving.{parts-fit-each, kept-fits, sequence-gives}
use Rattle.asn_types.specs.Spaces.{spelling}
use Rattle.xer_items.specs.Items.{Given, given, nothing, both, with_order, with_nil, with_texts, texts_of, placed, inside}
use Rattle.value_laws.proofs.Complexes.{not-textual}
use Rattle.value_laws.proofs.Groups.{tell, present_given, ordered-inside, sequence-inside, inside-found, top-shows}
use Rattle.value_laws.proofs.Attributes.{attribute-gives}
use Rattle.value_laws.proofs.Spelled.{IsKept, kept-part}
use Rattle.value_laws.proofs.Mixed.{text_in}
use Rattle.value_laws.proofs.Texts.{IsText}
use Rattle.value_laws.proofs.Filling.{both-nothing, Ends, ends-more, ends-last, told-roses, nil-is, texts-put}
use Rattle.value_contents.specs.Made as kept
use Rattle.value_contents.specs.Made.{TopMade}
use Rattle.xer_read.specs.Private.Contents.{OrderMade}
use Rattle.xer_read.proofs.Telling.{plain-told, nil-told, content-told}
use Rattle.xer_read.proofs.Making.{NamedTop, AreGifts}
use Rattle.xer_read.proofs.Making as making

-- ---- what the order of child elements tells

-- these flags are those of the parts for child elements: of the element's own SEQUENCE, or of its content; none where it is nil
abbrev pub FlagsIn : Bool → Bool → List Bool → List Bool → List (Rose ValueLabel) → Type 0
FlagsIn false nil fs flags vs = flags ≡ fs
FlagsIn true true fs flags vs = fs ≡ []
FlagsIn true false fs flags vs = (ws : List (Rose ValueLabel)) × (vs ≡ node (value.Sequence fs) (roses_of ws) ∷ [])

-- the numbers are those of the child elements that stand, among so many that may
pub record IsTold (nillable nil : Bool) (count : ℕ) (numbers : List ℕ) (fs flags : List Bool) (vs : List (Rose ValueLabel)) : Type 0 where
  pub just : AreJustSet numbers fs
  pub below : AllByRecursion (λ i. i < count) numbers
  pub flags_are : FlagsIn nillable nil fs flags vs

order-same : (b : Bool) (fs gs : List Bool) (ns ms : List ℕ) (g : Given) → (b ≡ true → (fs ≡ gs) × (ns ≡ ms)) → with_order b fs ns g ≡ with_order b gs ms g
order-same false fs gs ns ms g f = refl
order-same true fs gs ns ms g f = ap (λ z. with_order true z ns g) (f refl).0 ∙ ap (λ z. with_order true gs z g) (f refl).1

module _ (M : List Assignment) (E : ℕ → Rose TypeLabel → Type 0) (N : ℕ → Name → Type 0) (depth : ℕ) (small : depth ≤ 64) (s : Set) (linked : IsLinked s) where
  -- these parts, from number i on, fit and give these attributes and kids
  record Parted (nillable nil mixed : Bool) (count : ℕ) (flags : List Bool) (values : Roses ValueLabel) (l : TypeLabel) (i : ℕ) (cs : List Component) (us : List (Rose TypeLabel))
      (xs : List (Name × List ℕ)) (k : Roses Plain) : Type 0 where
    pub fit : PartsFit M depth l i cs us flags values
    pub keeps : PartsKept M cs us flags values
    pub gives : present_given M l i cs us flags values ≡ given xs k
    pub counts : mixed ≡ true → length (present_children M l i cs us flags values) ≡ count
    pub ends : nillable ≡ true → Ends nil flags

  -- what is given for a content gives these kids, so many of them child elements
  abbrev pub ContentAs : Content → List Bool → List (Rose ValueLabel) → Roses Plain → ℕ → Type 0
  ContentAs content_.Empty flags vs k n = (flags ≡ []) × (vs ≡ []) × (k ≡ rose.none)
  ContentAs (content_.Simple m) flags vs k n =
      (words : List ℕ) × (v : Rose ValueLabel) × (flags ≡ true ∷ []) × (vs ≡ v ∷ []) × IsText s linked M depth small m words v × (k ≡ text_before words rose.none)
  ContentAs (content_.ElementOnly p) flags vs k n =
      (gs : List kept.Child) × (bs : List (Rose Plain)) × NamedTop N (seen p) × TopMade (seen p) flags vs gs × AreGifts M E N depth small gs bs × (k ≡ roses_of bs) × (n ≡ length bs)
  ContentAs (content_.Mixed p) flags vs k n =
      (gs : List kept.Child) × (bs : List (Rose Plain)) × NamedTop N (seen p) × TopMade (seen p) flags vs gs × AreGifts M E N depth small gs bs × (k ≡ roses_of bs) × (n ≡ length bs)

  abbrev pub InnerAs : Content → Rose ValueLabel → Roses Plain → ℕ → Type 0
  InnerAs (content_.Simple m) own k n = (words : List ℕ) × IsText s linked M depth small m words own × (k ≡ text_before words rose.none)
  InnerAs c own k n = (flags : List Bool) × (vs : List (Rose ValueLabel)) × (own ≡ node (value.Sequence flags) (roses_of vs)) × ContentAs c flags vs k n

  -- or nothing, where a nillable element is nil
  abbrev pub RestAs : Bool → Bool → Content → List Bool → List (Rose ValueLabel) → Roses Plain → ℕ → Type 0
  RestAs false false c flags vs k n = ContentAs c flags vs k n
  RestAs false true c flags vs k n = ⊥
  RestAs true true c flags vs k n = (flags ≡ false ∷ []) × (vs ≡ []) × (k ≡ rose.none) × (n ≡ 0)
  RestAs true false c flags vs k n = (own : Rose ValueLabel) × (flags ≡ true ∷ []) × (vs ≡ own ∷ []) × InnerAs c own k n

  -- ---- contents

  top-parts : (p : Rose ParticleLabel) (gs : List kept.Child) (bs : List (Rose Plain)) (flags : List Bool) (vs : List (Rose ValueLabel)) (k : Roses Plain) (n : ℕ) → NamedTop N (seen p) → TopMade (seen p) flags vs gs
      → AreGifts M E N depth small gs bs → k ≡ roses_of bs → n ≡ length bs → (nil mixed : Bool) (l : TypeLabel) (i : ℕ) (cs : List Component) (us : List (Rose TypeLabel))
      → AreContent E s M (content_.ElementOnly p) l i cs us → Parted false nil mixed n flags (roses_of vs) l i cs us [] k
  top-parts p gs bs flags vs k n named made gifts ek en nil mixed l i cs us g =
      let all = making.top-shows M E N depth small (seen p) l i cs us g named flags vs gs bs made gifts in
      let found = present_children M l i cs us flags (roses_of vs) in
      record {
        fit = all.0;
        keeps = free-kept M cs us flags (roses_of vs) (content-free E s M (content_.ElementOnly p) l i cs us g);
        gives = top-shows M depth E (seen p) l i cs us flags (roses_of vs) g all.0 ∙ ap (λ z. given [] z) (told-roses M E depth small s linked found ∙ ap roses_of all.1 ∙ sym ek);
        counts = λ e. sym (length-map found (tell M)) ∙ ap length all.1 ∙ sym en;
        ends = λ e. absurd (true≢false (sym e));
      }

  base-parts : (m : ℕ) (words : List ℕ) (v : Rose ValueLabel) (k : Roses Plain) (n : ℕ) → IsText s linked M depth small m words v → k ≡ text_before words rose.none
      → (nil : Bool) (l : TypeLabel) (i : ℕ) (cs : List Component) (us : List (Rose TypeLabel)) → AreContent E s M (content_.Simple m) l i cs us
      → Parted false nil false n (true ∷ []) (rose.more v rose.none) l i cs us [] k
  base-parts m words v k n h ek nil l i [] us g = absurd g
  base-parts m words v k n h ek nil l i (c ∷ []) [] g = absurd g
  base-parts m words v k n h ek nil l i (c ∷ []) (u ∷ x ∷ us) g = absurd g
  base-parts m words v k n h ek nil l i (c ∷ d ∷ cs) us g = absurd g
  base-parts m words v k n h ek nil l i (c ∷ []) (u ∷ []) g =
      let text = h u g.type in
      record {
        fit = (subst (λ r. FitsAt M (below r depth) u v) (sym g.is.role) text.0, tt);
        keeps = (kept-free M c u v (g.is.free refl), tt);
        gives = ap (λ r. both (placed M (record { role = r; part = c; type = u }) v (inside M u v)) nothing) g.is.role ∙ both-nothing (inside M u v) ∙ text.1 ∙ ap (λ z. given [] z) (sym ek);
        counts = λ e. absurd (true≢false (sym e));
        ends = λ e. absurd (true≢false (sym e));
      }

  moved : (nillable nil mixed : Bool) (n : ℕ) (flags new : List Bool) (vs us : List (Rose ValueLabel)) (l : TypeLabel) (i : ℕ) (cs : List Component) (ts : List (Rose TypeLabel)) (xs : List (Name × List ℕ)) (k : Roses Plain)
      → new ≡ flags → us ≡ vs → Parted nillable nil mixed n flags (roses_of vs) l i cs ts xs k → Parted nillable nil mixed n new (roses_of us) l i cs ts xs k
  moved nillable nil mixed n flags new vs us l i cs ts xs k e f h =
      subst (λ x. Parted nillable nil mixed n x (roses_of us) l i cs ts xs k) (sym e) (subst (λ y. Parted nillable nil mixed n flags (roses_of y) l i cs ts xs k) (sym f) h)

  content-parts : (c : Content) (flags : List Bool) (vs : List (Rose ValueLabel)) (k : Roses Plain) (n : ℕ) → ContentAs c flags vs k n → (nil : Bool) (l : TypeLabel) (i : ℕ) (cs : List Component) (us : List (Rose TypeLabel))
      → AreContent E s M c l i cs us → Parted false nil (is_mixed c) n flags (roses_of vs) l i cs us [] k
  content-parts content_.Empty flags vs k n h nil l i [] [] g =
      moved false nil false n [] flags [] vs l i [] [] [] k h.0 h.1
      (record { fit = tt; keeps = tt; gives = ap (λ z. given [] z) (sym h.2); counts = λ e. absurd (true≢false (sym e)); ends = λ e. absurd (true≢false (sym e)) })
  content-parts content_.Empty flags vs k n h nil l i (c ∷ cs) us g = absurd g
  content-parts content_.Empty flags vs k n h nil l i [] (u ∷ us) g = absurd g
  content-parts (content_.Simple m) flags vs k n (words, v, ef, ev, text, ek) nil l i cs us g =
      moved false nil false n (true ∷ []) flags (v ∷ []) vs l i cs us [] k ef ev (base-parts m words v k n text ek nil l i cs us g)
  content-parts (content_.ElementOnly p) flags vs k n (gs, bs, named, made, gifts, ek, en) nil l i cs us g = top-parts p gs bs flags vs k n named made gifts ek en nil false l i cs us g
  content-parts (content_.Mixed p) flags vs k n (gs, bs, named, made, gifts, ek, en) nil l i cs us g = top-parts p gs bs flags vs k n named made gifts ek en nil true l i cs us g

  -- ---- what a nillable element has where it isn't nil

  record HasInnerValue (c : Content) (u : Rose TypeLabel) (own : Rose ValueLabel) (k : Roses Plain) (n : ℕ) : Type 0 where
    pub fit : FitsAt M depth u own
    pub gives : inside M u own ≡ given [] k
    pub counts : is_mixed c ≡ true → length (children M u own) ≡ n

  parts-have : (c : Content) (flags : List Bool) (vs : List (Rose ValueLabel)) (k : Roses Plain) (n : ℕ) → ContentAs c flags vs k n → (u : Rose TypeLabel) → HasParts E s M c u
      → HasInnerValue c u (node (value.Sequence flags) (roses_of vs)) k n
  parts-have c flags vs k n h u has =
      let l = type_label (form.Sequence has.0) [] in
      let all = content-parts c flags vs k n h false l 0 has.0 (list_of has.1) has.3 in
      let v = node (value.Sequence flags) (roses_of vs) in
      let fits : FitsAt M depth (node l has.1) v = kept-fits M depth small [] has.0 has.1 flags (roses_of vs) all.keeps all.fit (tt, tt, tt, tt) in
      let gives : inside M (node l has.1) v ≡ given [] k = sequence-inside M depth [] has.0 has.1 flags (roses_of vs) refl refl all.fit ∙ all.gives in
      let made : children M (node l has.1) v ≡ present_children M l 0 has.0 (list_of has.1) flags (roses_of vs) =
      sequence-gives M depth l has.0 has.1 flags (roses_of vs) (sequence-value M depth [] has.0 has.1 v fits) in
      record {
        fit = subst (λ x. FitsAt M depth x v) (sym has.2) fits;
        gives = ap (λ x. inside M x v) has.2 ∙ gives;
        counts = λ e. ap (λ x. length (children M x v)) has.2 ∙ ap length made ∙ all.counts e;
      }

  as-made : (c : Content) (u : Rose TypeLabel) (own : Rose ValueLabel) (k : Roses Plain) (n : ℕ) → (made : (flags : List Bool) × (vs : List (Rose ValueLabel)) × (own ≡ node (value.Sequence flags) (roses_of vs)) × ContentAs c flags vs k n)
      → HasParts E s M c u → HasInnerValue c u own k n
  as-made c u own k n (flags, vs, e, h) has = subst (λ v. HasInnerValue c u v k n) (sym e) (parts-have c flags vs k n h u has)

  inner-has : (c : Content) (own : Rose ValueLabel) (k : Roses Plain) (n : ℕ) → InnerAs c own k n → (u : Rose TypeLabel) → HasInner E s M c u → HasInnerValue c u own k n
  inner-has content_.Empty own k n h u has = as-made content_.Empty u own k n h has
  inner-has (content_.Simple m) own k n (words, text, ek) u has =
      let one = text u has in
      record { fit = one.0; gives = one.1 ∙ ap (λ z. given [] z) (sym ek); counts = λ e. absurd (true≢false (sym e)) }
  inner-has (content_.ElementOnly p) own k n h u has = as-made (content_.ElementOnly p) u own k n h has
  inner-has (content_.Mixed p) own k n h u has = as-made (content_.Mixed p) u own k n h has

  rest-parts : (nillable nil : Bool) (c : Content) (flags : List Bool) (vs : List (Rose ValueLabel)) (k : Roses Plain) (n : ℕ) → RestAs nillable nil c flags vs k n
      → (l : TypeLabel) (i : ℕ) (cs : List Component) (us : List (Rose TypeLabel)) → AreRest E s M nillable c l i cs us → Parted nillable nil (is_mixed c) n flags (roses_of vs) l i cs us [] k
  rest-parts false false c flags vs k n h l i cs us g = content-parts c flags vs k n h false l i cs us g
  rest-parts false true c flags vs k n h l i cs us g = absurd h
  rest-parts true nil c flags vs k n h l i [] us g = absurd g
  rest-parts true nil c flags vs k n h l i (d ∷ []) [] g = absurd g
  rest-parts true nil c flags vs k n h l i (d ∷ []) (u ∷ x ∷ us) g = absurd g
  rest-parts true nil c flags vs k n h l i (d ∷ x ∷ cs) us g = absurd g
  rest-parts true true c flags vs k n h l i (d ∷ []) (u ∷ []) g =
      moved true true (is_mixed c) n (false ∷ []) flags [] vs l i (d ∷ []) (u ∷ []) [] k h.0 h.1
      (record { fit = (g.is.absent, tt); keeps = tt; gives = ap (λ z. given [] z) (sym h.2); counts = λ e. sym h.3; ends = λ e. refl })
  rest-parts true false c flags vs k n h l i (d ∷ []) (u ∷ []) g =
      let own = h.0 in
      let one = inner-has c own k n h.3 u g.type in
      moved true false (is_mixed c) n (true ∷ []) flags (own ∷ []) vs l i (d ∷ []) (u ∷ []) [] k h.1 h.2
      (record {
        fit = (subst (λ r. FitsAt M (below r depth) u own) (sym g.is.role) one.fit, tt);
        keeps = (kept-free M d u own (g.is.free refl), tt);
        gives = ap (λ r. both (placed M (record { role = r; part = d; type = u }) own (inside M u own)) nothing) g.is.role ∙ both-nothing (inside M u own) ∙ one.gives;
        counts = λ e. ap (λ r. length (given_by r (child_of d u own) (children M u own) ++ [])) g.is.role ∙ ap length (append-nil (children M u own)) ∙ one.counts e;
        ends = λ e. refl;
      })

  -- ---- attributes

  -- the parts for attribute uses, which are kept and give these attributes
  abbrev pub AttributesIn : List AttributeUse → List (Name × List ℕ) → List Bool → List (Rose ValueLabel) → Type 0
  AttributesIn [] xs flags vs = (xs ≡ []) × (flags ≡ []) × (vs ≡ [])
  AttributesIn (d ∷ ds) xs (false ∷ flags) vs = (d.required ≡ false) × AttributesIn ds xs flags vs
  AttributesIn (d ∷ ds) xs (true ∷ flags) (v ∷ vs) =
      (words : List ℕ) × (ys : List (Name × List ℕ)) × (xs ≡ (d.name, words) ∷ ys) × IsText s linked M depth small d.simple words v × IsKept d words × AttributesIn ds ys flags vs
  AttributesIn _ _ _ _ = ⊥

  module _ (nillable nil mixed : Bool) (count : ℕ) (l : TypeLabel) (R : Behind) (behind : List Bool) (last : List (Rose ValueLabel)) (k : Roses Plain)
      (rest : (i : ℕ) (cs : List Component) (us : List (Rose TypeLabel)) → R i cs us → Parted nillable nil mixed count behind (roses_of last) l i cs us [] k) where
    attributes-parts : (ds : List AttributeUse) (xs : List (Name × List ℕ)) (flags : List Bool) (vs : List (Rose ValueLabel)) → AttributesIn ds xs flags vs → (i : ℕ) (cs : List Component) (us : List (Rose TypeLabel))
        → WithAttributes s M l R ds i cs us → Parted nillable nil mixed count (flags ++ behind) (roses_of (vs ++ last)) l i cs us xs k
    attributes-parts [] xs flags vs h i cs us g =
        subst (λ ys. Parted nillable nil mixed count (flags ++ behind) (roses_of (vs ++ last)) l i cs us ys k) (sym h.0)
        (moved nillable nil mixed count behind (flags ++ behind) last (vs ++ last) l i cs us [] k (ap (λ f. f ++ behind) h.1) (ap (λ w. w ++ last) h.2) (rest i cs us g))
    attributes-parts (d ∷ ds) xs flags vs h i [] us g = absurd g
    attributes-parts (d ∷ ds) xs flags vs h i (c ∷ cs) [] g = absurd g
    attributes-parts (d ∷ ds) xs [] vs h i (c ∷ cs) (u ∷ us) g = absurd h
    attributes-parts (d ∷ ds) xs (true ∷ flags) [] h i (c ∷ cs) (u ∷ us) g = absurd h
    attributes-parts (d ∷ ds) xs (false ∷ flags) vs h i (c ∷ cs) (u ∷ us) g =
        let all = attributes-parts ds xs flags vs h.1 (i + 1) cs us g.1 in
        record {
          fit = ((g.0.is.absent ∙ ap not h.0), all.fit);
          keeps = all.keeps;
          gives = all.gives;
          counts = all.counts;
          ends = λ e. ends-more nil false (flags ++ behind) (all.ends e);
        }
    attributes-parts (d ∷ ds) xs (true ∷ flags) (v ∷ vs) h i (c ∷ cs) (u ∷ us) g =
        let ys = h.1 in
        let all = attributes-parts ds ys flags vs h.5 (i + 1) cs us g.1 in
        let text = h.3 u g.0.type in
        let found = present_children M l (i + 1) cs us (flags ++ behind) (roses_of (vs ++ last)) in
        record {
          fit = (subst (λ r. FitsAt M (below r depth) u v) (sym g.0.is.role) text.0, all.fit);
          keeps = (kept-part M s l i c u v d g.0 (subst (IsKept d) (sym text.2) h.4), all.keeps);
          gives = ap (λ z. both z (present_given M l (i + 1) cs us (flags ++ behind) (roses_of (vs ++ last)))) (attribute-gives M depth s l i c u v d g.0)
              ∙ ap (λ z. both (given ((d.name, spelling M u v) ∷ []) rose.none) z) all.gives
              ∙ ap (λ w. given ((d.name, w) ∷ ys) k) text.2 ∙ ap (λ zs. given zs k) (sym h.2);
          counts = λ e. ap (λ r. length (given_by r (child_of c u v) (children M u v) ++ found)) g.0.is.role ∙ all.counts e;
          ends = λ e. ends-more nil true (flags ++ behind) (all.ends e);
        }

  -- ---- the order of child elements that come in any

  -- its part is the first that has numbers
  record PartedOrder (nillable nil mixed ordered : Bool) (count : ℕ) (numbers : List ℕ) (flags : List Bool) (values : List (Rose ValueLabel)) (l : TypeLabel) (i : ℕ) (cs : List Component)
      (us : List (Rose TypeLabel)) (xs : List (Name × List ℕ)) (k : Roses Plain) : Type 0 where
    pub all : Parted nillable nil mixed count flags (roses_of values) l i cs us xs k
    pub told : ordered ≡ true → numbers_of l i cs flags (roses_of values) ≡ numbers

  order-parts : (nillable nil mixed ordered : Bool) (count many : ℕ) (numbers : List ℕ) (front : List Bool) (first : List (Rose ValueLabel)) → OrderMade ordered numbers front first
      → (ordered ≡ true → AllByRecursion (λ i. i < many) numbers) → (behind : List Bool) (last : List (Rose ValueLabel)) (l : TypeLabel) (R : Behind) (xs : List (Name × List ℕ)) (k : Roses Plain)
      → ((i : ℕ) (cs : List Component) (us : List (Rose TypeLabel)) → R i cs us → Parted nillable nil mixed count behind (roses_of last) l i cs us xs k)
      → (i : ℕ) (cs : List Component) (us : List (Rose TypeLabel)) → WithOrder ordered many l R i cs us → PartedOrder nillable nil mixed ordered count numbers (front ++ behind) (first ++ last) l i cs us xs k
  order-parts nillable nil mixed false count many numbers front first h within behind last l R xs k f i cs us g = record {
    all = moved nillable nil mixed count behind (front ++ behind) last (first ++ last) l i cs us xs k (ap (λ z. z ++ behind) h.0) (ap (λ z. z ++ last) h.1) (f i cs us g);
    told = λ e. absurd (true≢false (sym e));
  }
  order-parts nillable nil mixed true count many numbers front first h within behind last l R xs k f i [] us g = absurd g
  order-parts nillable nil mixed true count many numbers front first h within behind last l R xs k f i (c ∷ cs) [] g = absurd g
  order-parts nillable nil mixed true count many numbers front first h within behind last l R xs k f i (c ∷ cs) (u ∷ us) g =
      let v = order_value numbers in
      let rest = f (i + 1) cs us g.1 in
      let found = present_children M l (i + 1) cs us behind (roses_of last) in
      let made : PartedOrder nillable nil mixed true count numbers (true ∷ behind) (v ∷ last) l i (c ∷ cs) (u ∷ us) xs k = record {
        all = record {
          fit = (subst (λ r. FitsAt M (below r depth) u v) (sym g.0.is.role) (order-fits M depth small many u g.0.type numbers (within refl)), rest.fit);
          keeps = (kept-free M c u v (g.0.is.free refl), rest.keeps);
          gives = ap (λ r. both (placed M (record { role = r; part = c; type = u }) v (inside M u v)) (present_given M l (i + 1) cs us behind (roses_of last))) g.0.is.role ∙ rest.gives;
          counts = λ e. ap (λ r. length (given_by r (child_of c u v) (children M u v) ++ found)) g.0.is.role ∙ rest.counts e;
          ends = λ e. ends-more nil true behind (rest.ends e);
        };
        told = λ e. ap (λ r. if is_order_role r then map item_number (kids_of v) else numbers_of l (i + 1) cs behind (roses_of last)) g.0.is.role ∙ order-numbers numbers;
      } in
      subst (λ z. PartedOrder nillable nil mixed true count numbers (z ++ behind) (first ++ last) l i (c ∷ cs) (u ∷ us) xs k) (sym h.0)
      (subst (λ z. PartedOrder nillable nil mixed true count numbers (true ∷ behind) (z ++ last) l i (c ∷ cs) (u ∷ us) xs k) (sym h.1) made)

  -- ---- texts

  -- the part for the texts of mixed content, which are so many; none where the content isn't mixed
  abbrev pub TextsIn : Bool → ℕ → List (List ℕ) → List Bool → List (Rose ValueLabel) → Type 0
  TextsIn false wanted texts flags vs = (flags ≡ []) × (vs ≡ [])
  TextsIn true wanted texts flags vs =
      (v : Rose ValueLabel) × (flags ≡ true ∷ []) × (vs ≡ v ∷ []) × ((u : Rose TypeLabel) → AreTexts u → FitsAt M depth u v) × (map text_in (kids_of v) ≡ texts) × (length texts ≡ wanted)

  record PartedAll (nillable nil mixed ordered : Bool) (count wanted : ℕ) (numbers : List ℕ) (texts : List (List ℕ)) (flags : List Bool) (values : List (Rose ValueLabel)) (l : TypeLabel) (cs : List Component)
      (us : List (Rose TypeLabel)) (xs : List (Name × List ℕ)) (k : Roses Plain) : Type 0 where
    pub all : Parted nillable nil mixed count flags (roses_of values) l 0 cs us xs k
    pub first : mixed ≡ true → first_count (value.Sequence flags) (list_of (roses_of values)) ≡ wanted
    pub texts_are : mixed ≡ true → texts_of (value.Sequence flags) (roses_of values) ≡ texts
    pub told : ordered ≡ true → numbers_of l 0 cs flags (roses_of values) ≡ numbers

  texts-parts : (nillable nil mixed ordered : Bool) (count wanted : ℕ) (numbers : List ℕ) (texts : List (List ℕ)) (front : List Bool) (first : List (Rose ValueLabel)) → TextsIn mixed wanted texts front first
      → (behind : List Bool) (last : List (Rose ValueLabel)) (l : TypeLabel) (R : Behind) (xs : List (Name × List ℕ)) (k : Roses Plain)
      → ((i : ℕ) (cs : List Component) (us : List (Rose TypeLabel)) → R i cs us → PartedOrder nillable nil mixed ordered count numbers behind last l i cs us xs k)
      → (cs : List Component) (us : List (Rose TypeLabel)) → WithTexts mixed l R 0 cs us → PartedAll nillable nil mixed ordered count wanted numbers texts (front ++ behind) (first ++ last) l cs us xs k
  texts-parts nillable nil false ordered count wanted numbers texts front first h behind last l R xs k f cs us g =
      let rest = f 0 cs us g in
      let made : PartedAll nillable nil false ordered count wanted numbers texts behind last l cs us xs k =
      record { all = rest.all; first = λ e. absurd (true≢false (sym e)); texts_are = λ e. absurd (true≢false (sym e)); told = rest.told } in
      subst (λ z. PartedAll nillable nil false ordered count wanted numbers texts (z ++ behind) (first ++ last) l cs us xs k) (sym h.0)
      (subst (λ z. PartedAll nillable nil false ordered count wanted numbers texts behind (z ++ last) l cs us xs k) (sym h.1) made)
  texts-parts nillable nil true ordered count wanted numbers texts front first h behind last l R xs k f [] us g = absurd g
  texts-parts nillable nil true ordered count wanted numbers texts front first h behind last l R xs k f (c ∷ cs) [] g = absurd g
  texts-parts nillable nil true ordered count wanted numbers texts front first h behind last l R xs k f (c ∷ cs) (u ∷ us) g =
      let v = h.0 in
      let fits = h.3 in
      let are = h.4 in
      let next = f 1 cs us g.1 in
      let rest = next.all in
      let found = present_children M l 1 cs us behind (roses_of last) in
      let whole : Parted nillable nil true count (true ∷ behind) (roses_of (v ∷ last)) l 0 (c ∷ cs) (u ∷ us) xs k = record {
        fit = (subst (λ r. FitsAt M (below r depth) u v) (sym g.0.is.role) (fits u g.0.type), rest.fit);
        keeps = (kept-free M c u v (g.0.is.free refl), rest.keeps);
        gives = ap (λ r. both (placed M (record { role = r; part = c; type = u }) v (inside M u v)) (present_given M l 1 cs us behind (roses_of last))) g.0.is.role ∙ rest.gives;
        counts = λ e. ap (λ r. length (given_by r (child_of c u v) (children M u v) ++ found)) g.0.is.role ∙ rest.counts e;
        ends = λ e. ends-more nil true behind (rest.ends e);
      } in
      let made : PartedAll nillable nil true ordered count wanted numbers texts (true ∷ behind) (v ∷ last) l (c ∷ cs) (u ∷ us) xs k =
      record {
        all = whole;
        first = λ e. sym (length-map (kids_of v) text_in) ∙ ap length are ∙ h.5;
        texts_are = λ e. are;
        told = λ e. ap (λ r. if is_order_role r then map item_number (kids_of v) else numbers_of l 1 cs behind (roses_of last)) g.0.is.role ∙ next.told e;
      } in
      subst (λ z. PartedAll nillable nil true ordered count wanted numbers texts (z ++ behind) (first ++ last) l (c ∷ cs) (u ∷ us) xs k) (sym h.1)
      (subst (λ z. PartedAll nillable nil true ordered count wanted numbers texts (true ∷ behind) (z ++ last) l (c ∷ cs) (u ∷ us) xs k) (sym h.2) made)

  plain-rest : (nillable nil : Bool) (c : Content) (flags : List Bool) (vs : List (Rose ValueLabel)) (k : Roses Plain) (n : ℕ) → RestAs nillable nil c flags vs k n → nillable ≡ false → nil ≡ false
  plain-rest nillable false c flags vs k n h e = refl
  plain-rest true true c flags vs k n h e = absurd (true≢false e)
  plain-rest false true c flags vs k n h e = absurd h

  -- ---- which child elements stand in an order

  -- a part with such a role is no element
  no-element : (l : TypeLabel) (i : ℕ) (c : Component) (r : Role) → role_of l i c ≡ r → is_element r ≡ false → (cs : List Component) (b : Bool) (flags : List Bool)
      → flags_from l i (c ∷ cs) (b ∷ flags) ≡ flags_from l (i + 1) cs flags
  no-element l i c r is plain cs b flags =
      ap (λ x. if is_element x then b ∷ flags_from l (i + 1) cs flags else flags_from l (i + 1) cs flags) is
      ∙ ap (λ (x : Bool). if x then b ∷ flags_from l (i + 1) cs flags else flags_from l (i + 1) cs flags) plain

  module _ (l : TypeLabel) (R : Behind) (behind fs : List Bool) (rest : (i : ℕ) (cs : List Component) (us : List (Rose TypeLabel)) → R i cs us → flags_from l i cs behind ≡ fs) where
    attributes-skip : (ds : List AttributeUse) (xs : List (Name × List ℕ)) (flags : List Bool) (vs : List (Rose ValueLabel)) → AttributesIn ds xs flags vs → (i : ℕ) (cs : List Component) (us : List (Rose TypeLabel))
        → WithAttributes s M l R ds i cs us → flags_from l i cs (flags ++ behind) ≡ fs
    attributes-skip [] xs flags vs h i cs us g = ap (λ f. flags_from l i cs (f ++ behind)) h.1 ∙ rest i cs us g
    attributes-skip (d ∷ ds) xs flags vs h i [] us g = absurd g
    attributes-skip (d ∷ ds) xs flags vs h i (c ∷ cs) [] g = absurd g
    attributes-skip (d ∷ ds) xs [] vs h i (c ∷ cs) (u ∷ us) g = absurd h
    attributes-skip (d ∷ ds) xs (true ∷ flags) [] h i (c ∷ cs) (u ∷ us) g = absurd h
    attributes-skip (d ∷ ds) xs (false ∷ flags) vs h i (c ∷ cs) (u ∷ us) g =
        no-element l i c role.Attribute g.0.is.role refl cs false (flags ++ behind) ∙ attributes-skip ds xs flags vs h.1 (i + 1) cs us g.1
    attributes-skip (d ∷ ds) xs (true ∷ flags) (v ∷ vs) h i (c ∷ cs) (u ∷ us) g =
        no-element l i c role.Attribute g.0.is.role refl cs true (flags ++ behind) ∙ attributes-skip ds h.1 flags vs h.5 (i + 1) cs us g.1

    order-skip : (many : ℕ) (numbers : List ℕ) (flags : List Bool) (vs : List (Rose ValueLabel)) → OrderMade true numbers flags vs → (i : ℕ) (cs : List Component) (us : List (Rose TypeLabel))
        → WithOrder true many l R i cs us → flags_from l i cs (flags ++ behind) ≡ fs
    order-skip many numbers flags vs h i [] us g = absurd g
    order-skip many numbers flags vs h i (c ∷ cs) [] g = absurd g
    order-skip many numbers flags vs h i (c ∷ cs) (u ∷ us) g =
        ap (λ f. flags_from l i (c ∷ cs) (f ++ behind)) h.0 ∙ no-element l i c role.Order g.0.is.role refl cs true behind ∙ rest (i + 1) cs us g.1

    texts-skip : (mixed : Bool) (wanted : ℕ) (texts : List (List ℕ)) (flags : List Bool) (vs : List (Rose ValueLabel)) → TextsIn mixed wanted texts flags vs → (i : ℕ) (cs : List Component) (us : List (Rose TypeLabel))
        → WithTexts mixed l R i cs us → flags_from l i cs (flags ++ behind) ≡ fs
    texts-skip false wanted texts flags vs h i cs us g = ap (λ f. flags_from l i cs (f ++ behind)) h.0 ∙ rest i cs us g
    texts-skip true wanted texts flags vs h i [] us g = absurd g
    texts-skip true wanted texts flags vs h i (c ∷ cs) [] g = absurd g
    texts-skip true wanted texts flags vs h i (c ∷ cs) (u ∷ us) g =
        ap (λ f. flags_from l i (c ∷ cs) (f ++ behind)) h.1 ∙ no-element l i c role.Embed g.0.is.role refl cs true behind ∙ rest (i + 1) cs us g.1

  -- each part of an all is an element
  top-flags : (p : Rose ParticleLabel) → Clear (seen p) [] → is_all (seen p) ≡ true → (flags : List Bool) (vs : List (Rose ValueLabel)) (l : TypeLabel) (i : ℕ) (cs : List Component) (us : List (Rose TypeLabel))
      → IsTop E (seen p) l i cs us → PartsFit M depth l i cs us flags (roses_of vs) → flags_from l i cs flags ≡ flags
  top-flags p clear all flags vs l i cs us g fit =
      (singles-named M E depth (elements_of (seen p)) (elements-single (seen p) clear all).0 l i cs us flags (roses_of vs) (top-elements E (seen p) all l i cs us g) fit).1

  content-flags : (c : Content) → IsContent s c → is_ordered c ≡ true → (flags : List Bool) (vs : List (Rose ValueLabel)) (k : Roses Plain) (n : ℕ) → ContentAs c flags vs k n
      → (l : TypeLabel) (i : ℕ) (cs : List Component) (us : List (Rose TypeLabel)) → AreContent E s M c l i cs us → flags_from l i cs flags ≡ flags
  content-flags content_.Empty ok e flags vs k n h l i cs us g = absurd (true≢false (sym e))
  content-flags (content_.Simple m) ok e flags vs k n h l i cs us g = absurd (true≢false (sym e))
  content-flags (content_.ElementOnly p) ok e flags vs k n h l i cs us g =
      top-flags p ok.clear e flags vs l i cs us g (content-parts (content_.ElementOnly p) flags vs k n h false l i cs us g).fit
  content-flags (content_.Mixed p) ok e flags vs k n h l i cs us g =
      top-flags p ok.clear e flags vs l i cs us g (content-parts (content_.Mixed p) flags vs k n h false l i cs us g).fit

  -- the content of an element that may be nil, with its type
  record ContentTold (c : Content) (fs : List Bool) (t : Rose TypeLabel) : Type 0 where
    pub parts : List Component
    pub kids : Roses TypeLabel
    pub is : t ≡ node (type_label (form.Sequence parts) []) kids
    pub told : flags_from (type_label (form.Sequence parts) []) 0 parts fs ≡ fs

  inner-flags : (c : Content) → IsContent s c → is_ordered c ≡ true → (own : Rose ValueLabel) (k : Roses Plain) (n : ℕ) → InnerAs c own k n → (fs : List Bool) (ws : List (Rose ValueLabel))
      → own ≡ node (value.Sequence fs) (roses_of ws) → (t : Rose TypeLabel) → HasInner E s M c t → ContentTold c fs t
  inner-flags content_.Empty ok e own k n h fs ws is t has = absurd (true≢false (sym e))
  inner-flags (content_.Simple m) ok e own k n h fs ws is t has = absurd (true≢false (sym e))
  inner-flags (content_.ElementOnly p) ok e own k n (flags, vs, own_is, h) fs ws is t has =
      let both : node (value.Sequence flags) (roses_of vs) ≡ node (value.Sequence fs) (roses_of ws) = sym own_is ∙ is in
      let same : flags ≡ fs = cc in
      record {
        parts = has.0;
        kids = has.1;
        is = has.2;
        told = subst (λ z. flags_from (type_label (form.Sequence has.0) []) 0 has.0 z ≡ z) same
            (content-flags (content_.ElementOnly p) ok e flags vs k n h (type_label (form.Sequence has.0) []) 0 has.0 (list_of has.1) has.3);
      }
  inner-flags (content_.Mixed p) ok e own k n (flags, vs, own_is, h) fs ws is t has =
      let both : node (value.Sequence flags) (roses_of vs) ≡ node (value.Sequence fs) (roses_of ws) = sym own_is ∙ is in
      let same : flags ≡ fs = cc in
      record {
        parts = has.0;
        kids = has.1;
        is = has.2;
        told = subst (λ z. flags_from (type_label (form.Sequence has.0) []) 0 has.0 z ≡ z) same
            (content-flags (content_.Mixed p) ok e flags vs k n h (type_label (form.Sequence has.0) []) 0 has.0 (list_of has.1) has.3);
      }

  -- ---- the rules of the node

  -- ---- complex types

  module _ (c : ComplexDef) (nil : Bool) (k : Roses Plain) (n : ℕ) (xs : List (Name × List ℕ)) (texts : List (List ℕ)) (numbers : List ℕ) (fs : List Bool) (tf nf af rf : List Bool) (tv nv av rv : List (Rose ValueLabel))
      (texts_in : TextsIn (is_mixed c.content) (text_count nil n) texts tf tv) (attributes : AttributesIn c.uses xs af av) where
    abbrev all_flags : List Bool
    all_flags = tf ++ (nf ++ (af ++ rf))

    abbrev all_values : List (Rose ValueLabel)
    all_values = tv ++ (nv ++ (av ++ rv))

    -- the parts of a type, whose elements may stand in any order or don't
    abbrev PartsBy : Bool → Bool → TypeLabel → List Component → Roses TypeLabel → Type 0
    PartsBy nillable ordered l cs us =
        WithTexts (is_mixed c.content) l (WithOrder ordered (order_count c.content) l (WithAttributes s M l (AreRest E s M nillable c.content l) c.uses)) 0 cs (list_of us)

    abbrev label_by : Bool → Bool → List Component → TypeLabel
    label_by nillable ordered cs = type_label (form.Sequence cs) (sequence_marks nillable (is_mixed c.content) ordered)

    module _ (ok : IsContent s c.content) (all : is_ordered c.content ≡ true) (order : OrderMade true numbers nf nv) where
      plain-flags : RestAs false nil c.content rf rv k n → rf ≡ fs → (cs : List Component) (us : Roses TypeLabel) → PartsBy false true (label_by false true cs) cs us
          → ordered_flags M (label_by false true cs) (node (label_by false true cs) us) (node (value.Sequence all_flags) (roses_of all_values)) ≡ fs
      plain-flags rest same cs us g =
          let l = label_by false true cs in
          let R = AreContent E s M c.content l in
          plain-told M E depth s (is_mixed c.content) cs us all_flags all_values
          ∙ texts-skip l (WithOrder true (order_count c.content) l (WithAttributes s M l R c.uses)) (nf ++ (af ++ rf)) fs
          (λ i ds ts q. order-skip l (WithAttributes s M l R c.uses) (af ++ rf) fs
          (λ j es zs r. attributes-skip l R rf fs (λ m qs hs w. by nil rest l m qs hs w ∙ same) c.uses xs af av attributes j es zs r) (order_count c.content) numbers nf nv order i ds ts q)
          (is_mixed c.content) (text_count nil n) texts tf tv texts_in 0 cs (list_of us) g
        where
          by : (b : Bool) → RestAs false b c.content rf rv k n → (l : TypeLabel) (i : ℕ) (ds : List Component) (ts : List (Rose TypeLabel)) → AreContent E s M c.content l i ds ts → flags_from l i ds rf ≡ rf
          by false h l i ds ts q = content-flags c.content ok all rf rv k n h l i ds ts q
          by true h l i ds ts q = absurd h

      filled-flags : RestAs true false c.content rf rv k n → FlagsIn true false fs rf rv → (cs : List Component) (us : Roses TypeLabel) → PartsBy true true (label_by true true cs) cs us
          → PartsFit M depth (label_by true true cs) 0 cs (list_of us) all_flags (roses_of all_values) → is_last_absent (value.Sequence all_flags) ≡ false
          → ordered_flags M (label_by true true cs) (node (label_by true true cs) us) (node (value.Sequence all_flags) (roses_of all_values)) ≡ fs
      filled-flags (own, ef, ev, inner) (ws, vs_are) cs us g fit last =
          let l = label_by true true cs in
          let p = (all-told M E depth s true c l cs (list_of us) all_flags (roses_of all_values) g fit).behind in
          by p.place p.types_before p.parts p.types p.has p.types_are p.many
        where
          own_is : own ≡ node (value.Sequence fs) (roses_of ws)
          own_is = let e : own ∷ [] ≡ node (value.Sequence fs) (roses_of ws) ∷ [] = sym ev ∙ vs_are in cc

          values_are : all_values ≡ (tv ++ (nv ++ av)) ++ node (value.Sequence fs) (roses_of ws) ∷ []
          values_are =
              ap (λ z. tv ++ (nv ++ (av ++ z))) vs_are ∙ ap (λ z. tv ++ z) (sym (append_assoc nv av (node (value.Sequence fs) (roses_of ws) ∷ [])))
              ∙ sym (append_assoc tv (nv ++ av) (node (value.Sequence fs) (roses_of ws) ∷ []))

          by : (place : ℕ) (types_before : List (Rose TypeLabel)) (ds : List Component) (ts : List (Rose TypeLabel)) → IsOnly (IsInner (HasInner E s M c.content) (label_by true true cs) place) ds ts
              → list_of us ≡ types_before ++ ts → length cs ≡ length types_before + length ds
              → ordered_flags M (label_by true true cs) (node (label_by true true cs) us) (node (value.Sequence all_flags) (roses_of all_values)) ≡ fs
          by place types_before [] ts q fu many = absurd q
          by place types_before (d ∷ e ∷ ds) ts q fu many = absurd q
          by place types_before (d ∷ []) [] q fu many = absurd q
          by place types_before (d ∷ []) (t ∷ e ∷ ts) q fu many = absurd q
          by place types_before (d ∷ []) (t ∷ []) q fu many =
              let told = inner-flags c.content ok all own k n inner fs ws own_is t q.type in
              content-told M E depth s (is_mixed c.content) cs us all_flags all_values (tv ++ (nv ++ av)) fs ws values_are last types_before t fu many told.parts told.kids told.is ∙ told.told

      told-flags : (nillable : Bool) → RestAs nillable nil c.content rf rv k n → FlagsIn nillable nil fs rf rv → (cs : List Component) (us : Roses TypeLabel) → PartsBy nillable true (label_by nillable true cs) cs us
          → PartsFit M depth (label_by nillable true cs) 0 cs (list_of us) all_flags (roses_of all_values) → (nillable ≡ true → is_last_absent (value.Sequence all_flags) ≡ nil)
          → ordered_flags M (label_by nillable true cs) (node (label_by nillable true cs) us) (node (value.Sequence all_flags) (roses_of all_values)) ≡ fs
      told-flags false rest flags cs us g fit last = plain-flags rest flags cs us g
      told-flags true rest flags cs us g fit last = by nil rest flags (last refl)
        where
          by : (b : Bool) → RestAs true b c.content rf rv k n → FlagsIn true b fs rf rv → is_last_absent (value.Sequence all_flags) ≡ b
              → ordered_flags M (label_by true true cs) (node (label_by true true cs) us) (node (value.Sequence all_flags) (roses_of all_values)) ≡ fs
          by true h f e = nil-told M E depth s (is_mixed c.content) cs us all_flags all_values e ∙ sym f
          by false h f e = filled-flags h f cs us g fit e

    -- a value of the type with these attributes and kids
    made-by : (nillable ordered : Bool) → is_ordered c.content ≡ ordered → OrderMade ordered numbers nf nv → (ordered ≡ true → IsContent s c.content) → RestAs nillable nil c.content rf rv k n
        → (ordered ≡ true → IsTold nillable nil (order_count c.content) numbers fs rf rv) → (t : Rose TypeLabel) (cs : List Component) (us : Roses TypeLabel) → resolve M t ≡ node (label_by nillable ordered cs) us
        → PartsBy nillable ordered (label_by nillable ordered cs) cs us
        → FitsAt M depth t (node (value.Sequence all_flags) (roses_of all_values))
        × (inside M t (node (value.Sequence all_flags) (roses_of all_values)) ≡ with_nil nil (with_texts (is_mixed c.content) texts (with_order ordered fs numbers (given xs k))))
    made-by nillable ordered is order ok rest told t cs us found g =
        let mixed = is_mixed c.content in
        let marks = sequence_marks nillable mixed ordered in
        let l = label_by nillable ordered cs in
        let R = AreRest E s M nillable c.content l in
        let filled = texts-parts nillable nil mixed ordered n (text_count nil n) numbers texts tf tv texts_in (nf ++ (af ++ rf)) (nv ++ (av ++ rv)) l
        (WithOrder ordered (order_count c.content) l (WithAttributes s M l R c.uses)) xs k
        (λ h ds ts q. order-parts nillable nil mixed ordered n (order_count c.content) numbers nf nv order (λ e. (told e).below) (af ++ rf) (av ++ rv) l (WithAttributes s M l R c.uses) xs k
        (λ i es zs r. attributes-parts nillable nil mixed n l R rf rv k (λ j qs hs w. rest-parts nillable nil c.content rf rv k n rest l j qs hs w) c.uses xs af av attributes i es zs r) h ds ts q)
        cs (list_of us) g in
        let all = filled.all in
        let values = roses_of all_values in
        let v = node (value.Sequence all_flags) values in
        let whole = node l us in
        let same : resolve M t ≡ resolve M whole = found ∙ sym (follow-none M 4 whole refl) in
        let last = λ (e : nillable ≡ true). ends-last nil all_flags (all.ends e) in
        let plain = plain-rest nillable nil c.content rf rv k n rest in
        let each = parts-fit-each M depth l cs 0 (list_of us) all_flags values all.keeps all.fit in
        let each_fits = subst (λ y. elim (places y (value.Sequence all_flags) (length_all values)) as (λ _. Type 0) [ None ↦ ⊥ | Some ps ↦ FitEach M depth ps values ]) (sym (follow-none M 4 whole refl)) each in
        let counted : mixed ≡ true → child_count M whole v ≡ n =
        λ e. count-at M depth whole (value.Sequence all_flags) values each_fits ∙ ap length (sequence-unordered M depth marks cs us all_flags values each) ∙ all.counts e in
        let numbers_are : ordered ≡ true → order_of whole v ≡ numbers = λ e. order-is M depth marks cs us all_flags values all.fit ∙ filled.told e in
        let flags_are : ordered ≡ true → ordered_flags M l whole v ≡ fs =
        λ e. flags-by ordered e is ok order told rest cs us g all.fit last in
        let own = owns M E depth small s nillable mixed ordered nil cs us all_flags values last plain (λ e. filled.first e ∙ ap (text_count nil) (sym (counted e)))
        (λ e. subst (λ ns. AreJustSet ns (ordered_flags M l whole v)) (sym (numbers_are e)) (subst (AreJustSet numbers) (sym (flags_are e)) (told e).just)) in
        let fits : FitsAt M depth whole v = kept-fits M depth small marks cs us all_flags values all.keeps all.fit own in
        let given_all = present_given M l 0 cs (list_of us) all_flags values in
        let own_texts = texts_of (value.Sequence all_flags) values in
        let in_order_all = with_order (has_use_order marks) (ordered_flags M l whole v) (order_of whole v) given_all in
        let gives : inside M t v ≡ with_nil nil (with_texts mixed texts (with_order ordered fs numbers (given xs k))) =
        inside-found M t whole v same ∙ ordered-inside M depth marks cs us all_flags values (not-textual cs nillable mixed ordered) all.fit
        ∙ ap (λ b. with_nil (b && is_last_absent (value.Sequence all_flags)) (with_texts (has_embed_values marks) own_texts in_order_all)) (sequence-nil nillable mixed ordered)
        ∙ ap (λ b. with_nil b (with_texts (has_embed_values marks) own_texts in_order_all)) (nil-is M E depth small s linked nillable nil (is_last_absent (value.Sequence all_flags)) last plain)
        ∙ ap (λ m. with_nil nil (with_texts m own_texts in_order_all)) (sequence-embeds nillable mixed ordered)
        ∙ ap (λ b. with_nil nil (with_texts mixed own_texts (with_order b (ordered_flags M l whole v) (order_of whole v) given_all))) (sequence-order nillable mixed ordered)
        ∙ ap (λ z. with_nil nil (with_texts mixed own_texts z)) (order-same ordered (ordered_flags M l whole v) fs (order_of whole v) numbers given_all (λ e. (flags_are e, numbers_are e)))
        ∙ ap (λ z. with_nil nil (with_texts mixed own_texts (with_order ordered fs numbers z))) all.gives
        ∙ ap (with_nil nil) (texts-put M E depth small s linked mixed own_texts texts (with_order ordered fs numbers (given xs k)) filled.texts_are) in
        (fits-found M depth whole t v (sym same) fits, gives)
      where
        flags-by : (b : Bool) → b ≡ true → is_ordered c.content ≡ b → (b ≡ true → IsContent s c.content) → OrderMade b numbers nf nv → (b ≡ true → IsTold nillable nil (order_count c.content) numbers fs rf rv)
            → RestAs nillable nil c.content rf rv k n → (ds : List Component) (ts : Roses TypeLabel) → PartsBy nillable b (label_by nillable b ds) ds ts
            → PartsFit M depth (label_by nillable b ds) 0 ds (list_of ts) all_flags (roses_of all_values) → (nillable ≡ true → is_last_absent (value.Sequence all_flags) ≡ nil)
            → ordered_flags M (label_by nillable b ds) (node (label_by nillable b ds) ts) (node (value.Sequence all_flags) (roses_of all_values)) ≡ fs
        flags-by false e = absurd (true≢false (sym e))
        flags-by true e = λ all fine made tells rest ds ts q fit last. told-flags (fine refl) all made nillable rest (tells refl).flags_are ds ts q fit last

  pub complex-made : (nillable : Bool) (c : ComplexDef) → (is_ordered c.content ≡ true → IsContent s c.content) → (t : Rose TypeLabel) → HasComplex E s M nillable c (resolve M t)
      → (nil : Bool) (k : Roses Plain) (n : ℕ) (xs : List (Name × List ℕ)) (texts : List (List ℕ)) (numbers : List ℕ) (fs : List Bool) (tf nf af rf : List Bool) (tv nv av rv : List (Rose ValueLabel))
      → TextsIn (is_mixed c.content) (text_count nil n) texts tf tv → OrderMade (is_ordered c.content) numbers nf nv → AttributesIn c.uses xs af av → RestAs nillable nil c.content rf rv k n
      → (is_ordered c.content ≡ true → IsTold nillable nil (order_count c.content) numbers fs rf rv)
      → FitsAt M depth t (node (value.Sequence (tf ++ (nf ++ (af ++ rf)))) (roses_of (tv ++ (nv ++ (av ++ rv)))))
      × (inside M t (node (value.Sequence (tf ++ (nf ++ (af ++ rf)))) (roses_of (tv ++ (nv ++ (av ++ rv)))))
      ≡ with_nil nil (with_texts (is_mixed c.content) texts (with_order (is_ordered c.content) fs numbers (given xs k))))
  complex-made nillable c ok t has nil k n xs texts numbers fs tf nf af rf tv nv av rv texts_in order attributes rest told =
      made-by c nil k n xs texts numbers fs tf nf af rf tv nv av rv texts_in attributes nillable (is_ordered c.content) refl order ok rest told t has.0 has.1 has.2 has.3
