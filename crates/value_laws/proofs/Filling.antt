-- Values for texts, attributes and contents make a value of a complex type, nil or not, that has their items.
use Rattle.std.proofs.Common.{◌≡◌, ℕ, ◌+◌, ◌<◌, ◌≤◌, ◌&&◌, arith, inl, inr, Bool, true, false, not, Some, None, List, [], ◌∷◌, ◌++◌, length, map, append-nil, true≢false, refl, sym, ap, subst, ◌∙◌}
use Rattle.std.specs.Prelude.{All, slice_index_or, if◌then◌else◌}
use Rattle.std.specs.List.{AllByRecursion}
use Rattle.std.proofs.lemmas.List.{length-map}
use Rattle.base_texts.specs.declared.texts.Name.{Name}
use Rattle.base_trees.specs.Rose.{Rose, node, Roses, list_of, roses_of, kids_of, length_all}
use Rattle.base_trees.specs.Rose as rose
use Rattle.simple_types.specs.declared.labels.ValueLabel.{ValueLabel}
use Rattle.simple_types.specs.declared.labels.ValueLabel.TheVariants as value
use Rattle.content_models.specs.declared.particles.ParticleLabel.{ParticleLabel}
use Rattle.content_models.specs.Clear.{Clear}
use Rattle.content_models.specs.Language.{Leaf, Lang}
use Rattle.content_models.specs.Seen.{seen}
use Rattle.xml_items.specs.Plain.{Plain}
use Rattle.xml_items.specs.Mixing.{text_before}
use Rattle.asn_types.specs.declared.modules.Assignment.{Assignment}
use Rattle.asn_types.specs.declared.types.Component.{Component}
use Rattle.asn_types.specs.declared.types.Form.TheVariants as form
use Rattle.asn_types.specs.declared.types.TypeLabel.{TypeLabel}
use Rattle.asn_types.specs.Marks.{has_embed_values, has_use_order}
use Rattle.asn_types.specs.Refs.{resolve}
use Rattle.asn_types.specs.Roles.{role_of}
use Rattle.asn_values.specs.Ordering.{in_order}
use Rattle.asn_values.specs.Values.{places, below, child_count, first_count, text_count, is_last_absent, FitsAt, FitEach, is_order_role, item_number, ordered_flags, order_of}
use Rattle.schema_components.specs.declared.components.AttributeUse.{AttributeUse}
use Rattle.schema_components.specs.declared.components.ComplexDef.{ComplexDef}
use Rattle.schema_components.specs.declared.components.Content.{Content}
use Rattle.schema_components.specs.declared.components.Content.TheVariants as content_
use Rattle.schema_components.specs.Components.{Set, model_of}
use Rattle.schema_components.specs.Linked.{IsContent, IsLinked}
use Rattle.map_assignments.specs.Planning.{is_mixed, is_ordered}
use Rattle.map_assignments.specs.Naming.{type_label, sequence_marks}
use Rattle.map_assignments.proofs.Marked.{sequence-nil, sequence-embeds, sequence-order}
use Rattle.map_assignments.proofs.Resolving.{follow-none}
use Rattle.map_laws.specs.Children.{Child, child_of, given_by, children}
use Rattle.map_laws.specs.Standing.{Behind, AreTexts, WithTexts, WithOrder, order_count, WithAttributes, AreContent, HasParts, HasInner, AreRest, HasComplex}
use Rattle.map_laws.proofs.Values.{present_children, PartsKept, PartsFit, sequence-value, sequence-unordered}
use Rattle.map_laws.proofs.Arranging.{plain-parts}
use Rattle.map_laws.proofs.Filling.{owns}
use Rattle.map_laws.proofs.NamedSlots.{numbers-below, flags_in}
use Rattle.map_laws.proofs.OrderValues.{order_value, order-numbers, order-fits}
use Rattle.map_laws.proofs.Regions.{single-elements, elements-many, in-order-told, numbers_of, order-is, all-told, region}
use Rattle.map_laws.proofs.Sorting.{told_of, tell as tell_named, AreGiven, AreGifts, InParts, InList, Sorted, sort-gifts, settled}
use Rattle.map_laws.proofs.Complexes.{fits-found}
use Rattle.map_laws.proofs.Counts.{count-at}
use Rattle.map_laws.proofs.Frees.{kept-free, free-kept, content-free}
use Rattle.map_laws.proofs.Giving.{parts-fit-each, kept-fits, sequence-gives, IsGiven, top-made}
use Rattle.map_laws.proofs.Nillables.{last_absent, last-at}
use Rattle.asn_types.specs.Spaces.{spelling}
use Rattle.xer_items.specs.Items.{Given, given, nothing, joined, both, with_nil, with_texts, texts_of, placed, inside}
use Rattle.xer_items.proofs.Ordering.{unordered}
use Rattle.value_laws.proofs.Groups.{tell, told, order-shows, order-keeps, present_given, as_ordered, ordered-inside, sequence-inside, inside-found, top-shows}
use Rattle.value_laws.proofs.Attributes.{attribute-gives}
use Rattle.value_laws.proofs.Spelled.{IsKept, kept-part}
use Rattle.value_laws.proofs.Mixed.{text_in}
use Rattle.value_laws.proofs.Complexes.{not-textual, Label}
use Rattle.value_laws.proofs.Texts.{IsText, AttributesAs}

-- ---- what is given for the leaves of a content model: items

pub record Gift : Type 0 where
  pub leaf : Leaf
  pub item : Rose Plain

abbrev pub leaf_of : Gift → Leaf
leaf_of g = g.leaf

abbrev pub item_of : Gift → Rose Plain
item_of g = g.item

abbrev pub items_of : List Gift → Roses Plain
items_of gs = roses_of (map item_of gs)

-- ---- items put together

pub joined-nothing : (k : Roses Plain) → joined k rose.none ≡ k
joined-nothing rose.none = refl
joined-nothing (rose.more x k) = ap (λ z. rose.more x z) (joined-nothing k)

pub both-nothing : (g : Given) → both g nothing ≡ g
both-nothing g = ap (λ xs. given xs (joined g.kids rose.none)) (append-nil g.attributes) ∙ ap (λ k. given g.attributes k) (joined-nothing g.kids)

-- ---- the last flag says whether the element is nil

abbrev pub Ends : Bool → List Bool → Type 0
Ends nil [] = ⊥
Ends nil (b ∷ []) = not b ≡ nil
Ends nil (b ∷ c ∷ bs) = Ends nil (c ∷ bs)

pub ends-more : (nil b : Bool) (flags : List Bool) → Ends nil flags → Ends nil (b ∷ flags)
ends-more nil b [] h = absurd h
ends-more nil b (c ∷ bs) h = h

pub ends-last : (nil : Bool) (flags : List Bool) → Ends nil flags → is_last_absent (value.Sequence flags) ≡ nil
ends-last nil [] h = absurd h
ends-last nil (b ∷ bs) h = last-at b bs ∙ by b bs h
  where
    by : (b : Bool) (bs : List Bool) → Ends nil (b ∷ bs) → last_absent (b ∷ bs) ≡ nil
    by b [] k = k
    by b (c ∷ cs) k = by c cs k

module _ (M : List Assignment) (E : ℕ → Rose TypeLabel → Type 0) (depth : ℕ) (small : depth ≤ 64) where
  -- for each type at the leaf's declaration there is a value that gives the item
  abbrev pub IsMade : Gift → Type 0
  IsMade g = IsGiven Gift (Rose Plain) leaf_of item_of (tell M) M E depth small g

  abbrev pub AreMade : List Gift → Type 0
  AreMade gs = All IsMade gs

module _ (M : List Assignment) (E : ℕ → Rose TypeLabel → Type 0) (depth : ℕ) (small : depth ≤ 64) (s : Set) (linked : IsLinked s) where
  pub told-roses : (xs : List Child) → told M xs ≡ roses_of (map (tell M) xs)
  told-roses [] = refl
  told-roses (x ∷ xs) = ap (λ z. rose.more (tell M x) z) (told-roses xs)

  -- the kids of child elements, which are so many, at the leaves of a list of the content model
  pub record ChildrenGiven (p : Rose ParticleLabel) (k : Roses Plain) (n : ℕ) : Type 0 where
    pub gifts : List Gift
    pub fit : AreMade M E depth small gifts
    pub leaves : Lang (seen p) 0 [] (map leaf_of gifts)
    pub kids : k ≡ items_of gifts
    pub count : n ≡ length gifts

  -- what is given for a content gives these kids, so many of them child elements
  abbrev pub ContentGiven : Content → Roses Plain → ℕ → Type 0
  ContentGiven content_.Empty k n = k ≡ rose.none
  ContentGiven (content_.Simple m) k n = (words : List ℕ) × (v : Rose ValueLabel) × IsText s linked M depth small m words v × (k ≡ text_before words rose.none)
  ContentGiven (content_.ElementOnly p) k n = ChildrenGiven p k n
  ContentGiven (content_.Mixed p) k n = ChildrenGiven p k n

  -- or nothing, where a nillable element is nil
  abbrev pub RestGiven : Bool → Bool → Content → Roses Plain → ℕ → Type 0
  RestGiven nillable false c k n = ContentGiven c k n
  RestGiven nillable true c k n = (nillable ≡ true) × (k ≡ rose.none) × (n ≡ 0)

  -- ---- as the parts stand

  abbrev ArePaired : List Gift → Type 0
  ArePaired gs = AreGiven Gift (Rose Plain) leaf_of item_of (tell M) M E depth small s gs

  abbrev AreTold : List Child → List Gift → Type 0
  AreTold made gs = AreGifts Gift (Rose Plain) leaf_of item_of (tell M) M E depth small s made gs

  paired : (gs : List Gift) → AreMade M E depth small gs → ArePaired gs
  paired gs h = λ i d below u e. let one = h i d below u e in (one.0, one.1, ap (λ (z : Rose Plain). ((slice_index_or gs i d).leaf.name, z)) one.2)

  items-told : (ms : List Child) (gs : List Gift) → AreTold ms gs → map (tell M) ms ≡ map item_of gs
  items-told [] [] e = refl
  items-told [] (g ∷ gs) e = absurd cc
  items-told (m ∷ ms) [] e = absurd cc
  items-told (m ∷ ms) (g ∷ gs) e =
      let first : ◌≡◌ {A = Name × Rose Plain} (m.name, tell M m) (g.leaf.name, g.item) = cc in
      let rest : AreTold ms gs = cc in
      ap (λ (z : Name × Rose Plain). z.1 ∷ map (tell M) ms) first ∙ ap (λ zs. g.item ∷ zs) (items-told ms gs rest)

  abbrev Placed : Rose ParticleLabel → List Gift → Type 0
  Placed p gs = InParts Gift (Rose Plain) leaf_of item_of (tell M) M E depth small s p gs

  record PartsGiven (p : Rose ParticleLabel) (gs : List Gift) (k : Roses Plain) (n : ℕ) : Type 0 where
    pub fit : ArePaired gs
    pub leaves : Placed p gs
    pub kids : k ≡ items_of gs
    pub count : n ≡ length gs

  abbrev ContentParts : Content → List Gift → Roses Plain → ℕ → Type 0
  ContentParts content_.Empty gs k n = k ≡ rose.none
  ContentParts (content_.Simple m) gs k n = (words : List ℕ) × (v : Rose ValueLabel) × IsText s linked M depth small m words v × (k ≡ text_before words rose.none)
  ContentParts (content_.ElementOnly p) gs k n = PartsGiven p gs k n
  ContentParts (content_.Mixed p) gs k n = PartsGiven p gs k n

  abbrev RestParts : Bool → Bool → Content → List Gift → Roses Plain → ℕ → Type 0
  RestParts nillable false c gs k n = ContentParts c gs k n
  RestParts nillable true c gs k n = (nillable ≡ true) × (k ≡ rose.none) × (n ≡ 0) × (gs ≡ [])

  -- values for the parts from number i on, which give these attributes and kids
  record Fills (nillable nil mixed all : Bool) (count : ℕ) (gs : List Gift) (l : TypeLabel) (i : ℕ) (cs : List Component) (us : List (Rose TypeLabel)) (xs : List (Name × List ℕ)) (k : Roses Plain) : Type 0 where
    pub flags : List Bool
    pub values : Roses ValueLabel
    pub fit : PartsFit M depth l i cs us flags values
    pub kept : PartsKept M cs us flags values
    pub gives : present_given M l i cs us flags values ≡ given xs k
    pub counts : mixed ≡ true → length (present_children M l i cs us flags values) ≡ count
    pub are : all ≡ true → AreTold (present_children M l i cs us flags values) gs
    pub ends : nillable ≡ true → Ends nil flags

  -- ---- contents

  top-fills : (p : Rose ParticleLabel) → Clear (seen p) [] → (gs : List Gift) (k : Roses Plain) (n : ℕ) → PartsGiven p gs k n → (nil mixed all : Bool) (l : TypeLabel) (i : ℕ) (cs : List Component) (us : List (Rose TypeLabel))
      → AreContent E s M (content_.ElementOnly p) l i cs us → Fills false nil mixed all n gs l i cs us [] k
  top-fills p clear gs k n h nil mixed all l i cs us g =
      let parts = top-made Gift (Name × Rose Plain) leaf_of (told_of Gift (Rose Plain) leaf_of item_of (tell M) M E depth small s) (tell_named Gift (Rose Plain) leaf_of item_of (tell M) M E depth small s) M E depth small
      (seen p) clear 0 [] l i cs us g gs h.fit h.leaves in
      let made = present_children M l i cs us parts.flags parts.values in
      let items = items-told made gs parts.are in
      record {
        flags = parts.flags;
        values = parts.values;
        fit = parts.fit;
        kept = free-kept M cs us parts.flags parts.values (content-free E s M (content_.ElementOnly p) l i cs us g);
        gives = top-shows M depth E (seen p) l i cs us parts.flags parts.values g parts.fit ∙ ap (λ z. given [] z) (told-roses made ∙ ap roses_of items ∙ sym h.kids);
        counts = λ e. sym (length-map made (tell M)) ∙ ap length items ∙ length-map gs item_of ∙ sym h.count;
        are = λ e. parts.are;
        ends = λ e. absurd (true≢false (sym e));
      }

  base-fills : (m : ℕ) (gs : List Gift) (k : Roses Plain) (n : ℕ) → ContentParts (content_.Simple m) gs k n → (nil all : Bool) → false ≡ all → (l : TypeLabel) (i : ℕ) (cs : List Component) (us : List (Rose TypeLabel))
      → AreContent E s M (content_.Simple m) l i cs us → Fills false nil false all n gs l i cs us [] k
  base-fills m gs k n h nil all kind l i [] us g = absurd g
  base-fills m gs k n h nil all kind l i (c ∷ []) [] g = absurd g
  base-fills m gs k n h nil all kind l i (c ∷ []) (u ∷ x ∷ us) g = absurd g
  base-fills m gs k n h nil all kind l i (c ∷ d ∷ cs) us g = absurd g
  base-fills m gs k n h nil all kind l i (c ∷ []) (u ∷ []) g =
      let v = h.1 in
      let text = h.2 u g.type in
      record {
        flags = true ∷ [];
        values = rose.more v rose.none;
        fit = (subst (λ r. FitsAt M (below r depth) u v) (sym g.is.role) text.0, tt);
        kept = (kept-free M c u v (g.is.free refl), tt);
        gives = ap (λ r. both (placed M (record { role = r; part = c; type = u }) v (inside M u v)) nothing) g.is.role ∙ both-nothing (inside M u v) ∙ text.1 ∙ ap (λ z. given [] z) (sym h.3);
        counts = λ e. absurd (true≢false (sym e));
        are = λ e. absurd (true≢false (sym (kind ∙ e)));
        ends = λ e. absurd (true≢false (sym e));
      }

  content-fills : (c : Content) → IsContent s c → (all : Bool) → is_ordered c ≡ all → (gs : List Gift) (k : Roses Plain) (n : ℕ) → ContentParts c gs k n → (nil : Bool) (l : TypeLabel) (i : ℕ) (cs : List Component) (us : List (Rose TypeLabel))
      → AreContent E s M c l i cs us → Fills false nil (is_mixed c) all n gs l i cs us [] k
  content-fills content_.Empty ok all kind gs k n h nil l i [] [] g =
      record {
        flags = [];
        values = rose.none;
        fit = tt;
        kept = tt;
        gives = ap (λ z. given [] z) (sym h);
        counts = λ e. absurd (true≢false (sym e));
        are = λ e. absurd (true≢false (sym (kind ∙ e)));
        ends = λ e. absurd (true≢false (sym e));
      }
  content-fills content_.Empty ok all kind gs k n h nil l i (c ∷ cs) us g = absurd g
  content-fills content_.Empty ok all kind gs k n h nil l i [] (u ∷ us) g = absurd g
  content-fills (content_.Simple m) ok all kind gs k n h nil l i cs us g = base-fills m gs k n h nil all kind l i cs us g
  content-fills (content_.ElementOnly p) ok all kind gs k n h nil l i cs us g = top-fills p ok.clear gs k n h nil false all l i cs us g
  content-fills (content_.Mixed p) ok all kind gs k n h nil l i cs us g = top-fills p ok.clear gs k n h nil true all l i cs us g

  -- ---- what a nillable element has where it isn't nil

  record HasValue (c : Content) (all : Bool) (u : Rose TypeLabel) (gs : List Gift) (k : Roses Plain) (n : ℕ) : Type 0 where
    pub own : Rose ValueLabel
    pub fit : FitsAt M depth u own
    pub gives : inside M u own ≡ given [] k
    pub counts : is_mixed c ≡ true → length (children M u own) ≡ n
    pub are : all ≡ true → AreTold (children M u own) gs

  parts-have : (c : Content) → IsContent s c → (all : Bool) → is_ordered c ≡ all → (gs : List Gift) (k : Roses Plain) (n : ℕ) → ContentParts c gs k n → (u : Rose TypeLabel) → HasParts E s M c u → HasValue c all u gs k n
  parts-have c ok all kind gs k n h u has =
      let l = type_label (form.Sequence has.0) [] in
      let parts = content-fills c ok all kind gs k n h false l 0 has.0 (list_of has.1) has.3 in
      let v = node (value.Sequence parts.flags) parts.values in
      let fits : FitsAt M depth (node l has.1) v = kept-fits M depth small [] has.0 has.1 parts.flags parts.values parts.kept parts.fit (tt, tt, tt, tt) in
      let gives : inside M (node l has.1) v ≡ given [] k = sequence-inside M depth [] has.0 has.1 parts.flags parts.values refl refl parts.fit ∙ parts.gives in
      let made : children M (node l has.1) v ≡ present_children M l 0 has.0 (list_of has.1) parts.flags parts.values =
      sequence-gives M depth l has.0 has.1 parts.flags parts.values (sequence-value M depth [] has.0 has.1 v fits) in
      record {
        own = v;
        fit = subst (λ x. FitsAt M depth x v) (sym has.2) fits;
        gives = ap (λ x. inside M x v) has.2 ∙ gives;
        counts = λ e. ap (λ x. length (children M x v)) has.2 ∙ ap length made ∙ parts.counts e;
        are = λ e. subst (λ x. AreTold x gs) (sym (ap (λ x. children M x v) has.2 ∙ made)) (parts.are e);
      }

  inner-has : (c : Content) → IsContent s c → (all : Bool) → is_ordered c ≡ all → (gs : List Gift) (k : Roses Plain) (n : ℕ) → ContentParts c gs k n → (u : Rose TypeLabel) → HasInner E s M c u → HasValue c all u gs k n
  inner-has content_.Empty ok all kind gs k n h u has = parts-have content_.Empty ok all kind gs k n h u has
  inner-has (content_.Simple m) ok all kind gs k n h u has =
      let text = h.2 u has in
      record {
        own = h.1;
        fit = text.0;
        gives = text.1 ∙ ap (λ z. given [] z) (sym h.3);
        counts = λ e. absurd (true≢false (sym e));
        are = λ e. absurd (true≢false (sym (kind ∙ e)));
      }
  inner-has (content_.ElementOnly p) ok all kind gs k n h u has = parts-have (content_.ElementOnly p) ok all kind gs k n h u has
  inner-has (content_.Mixed p) ok all kind gs k n h u has = parts-have (content_.Mixed p) ok all kind gs k n h u has

  rest-fills : (nillable nil : Bool) (c : Content) → IsContent s c → (all : Bool) → is_ordered c ≡ all → (gs : List Gift) (k : Roses Plain) (n : ℕ) → RestParts nillable nil c gs k n
      → (l : TypeLabel) (i : ℕ) (cs : List Component) (us : List (Rose TypeLabel)) → AreRest E s M nillable c l i cs us → Fills nillable nil (is_mixed c) all n gs l i cs us [] k
  rest-fills false false c ok all kind gs k n h l i cs us g = content-fills c ok all kind gs k n h false l i cs us g
  rest-fills false true c ok all kind gs k n h l i cs us g = absurd (true≢false (sym h.0))
  rest-fills true nil c ok all kind gs k n h l i [] us g = absurd g
  rest-fills true nil c ok all kind gs k n h l i (d ∷ []) [] g = absurd g
  rest-fills true nil c ok all kind gs k n h l i (d ∷ []) (u ∷ x ∷ us) g = absurd g
  rest-fills true nil c ok all kind gs k n h l i (d ∷ x ∷ cs) us g = absurd g
  rest-fills true true c ok all kind gs k n h l i (d ∷ []) (u ∷ []) g =
      record {
        flags = false ∷ [];
        values = rose.none;
        fit = (g.is.absent, tt);
        kept = tt;
        gives = ap (λ z. given [] z) (sym h.1);
        counts = λ e. sym h.2;
        are = λ e. subst (AreTold []) (sym h.3) refl;
        ends = λ e. refl;
      }
  rest-fills true false c ok all kind gs k n h l i (d ∷ []) (u ∷ []) g =
      let one = inner-has c ok all kind gs k n h u g.type in
      let same : given_by (role_of l i d) (child_of d u one.own) (children M u one.own) ++ [] ≡ children M u one.own =
      ap (λ r. given_by r (child_of d u one.own) (children M u one.own) ++ []) g.is.role ∙ append-nil (children M u one.own) in
      record {
        flags = true ∷ [];
        values = rose.more one.own rose.none;
        fit = (subst (λ r. FitsAt M (below r depth) u one.own) (sym g.is.role) one.fit, tt);
        kept = (kept-free M d u one.own (g.is.free refl), tt);
        gives = ap (λ r. both (placed M (record { role = r; part = d; type = u }) one.own (inside M u one.own)) nothing) g.is.role ∙ both-nothing (inside M u one.own) ∙ one.gives;
        counts = λ e. ap length same ∙ one.counts e;
        are = λ e. subst (λ x. AreTold x gs) (sym same) (one.are e);
        ends = λ e. refl;
      }

  -- ---- attributes

  module _ (nillable nil mixed all : Bool) (count : ℕ) (gs : List Gift) (l : TypeLabel) (R : Behind) (k : Roses Plain)
      (rest : (i : ℕ) (cs : List Component) (us : List (Rose TypeLabel)) → R i cs us → Fills nillable nil mixed all count gs l i cs us [] k) where
    attributes-fill : (ds : List AttributeUse) (xs : List (Name × List ℕ)) → AttributesAs s linked M depth small ds xs → (i : ℕ) (cs : List Component) (us : List (Rose TypeLabel))
        → WithAttributes s M l R ds i cs us → Fills nillable nil mixed all count gs l i cs us xs k
    attributes-fill [] xs h i cs us g = subst (λ ys. Fills nillable nil mixed all count gs l i cs us ys k) (sym h) (rest i cs us g)
    attributes-fill (d ∷ ds) xs h i [] us g = absurd g
    attributes-fill (d ∷ ds) xs h i (c ∷ cs) [] g = absurd g
    attributes-fill (d ∷ ds) xs (inl h) i (c ∷ cs) (u ∷ us) g =
        let more = attributes-fill ds xs h.1 (i + 1) cs us g.1 in
        record {
          flags = false ∷ more.flags;
          values = more.values;
          fit = ((g.0.is.absent ∙ ap not h.0), more.fit);
          kept = more.kept;
          gives = more.gives;
          counts = more.counts;
          are = more.are;
          ends = λ e. ends-more nil false more.flags (more.ends e);
        }
    attributes-fill (d ∷ ds) xs (inr h) i (c ∷ cs) (u ∷ us) g =
        let more = attributes-fill ds h.2 h.6 (i + 1) cs us g.1 in
        let v = h.1 in
        let text = h.4 u g.0.type in
        let made = present_children M l (i + 1) cs us more.flags more.values in
        record {
          flags = true ∷ more.flags;
          values = rose.more v more.values;
          fit = (subst (λ r. FitsAt M (below r depth) u v) (sym g.0.is.role) text.0, more.fit);
          kept = (kept-part M s l i c u v d g.0 (subst (IsKept d) (sym text.2) h.5), more.kept);
          gives = ap (λ z. both z (present_given M l (i + 1) cs us more.flags more.values)) (attribute-gives M depth s l i c u v d g.0)
              ∙ ap (λ z. both (given ((d.name, spelling M u v) ∷ []) rose.none) z) more.gives
              ∙ ap (λ w. given ((d.name, w) ∷ h.2) k) text.2 ∙ ap (λ ys. given ys k) (sym h.3);
          counts = λ e. ap (λ r. length (given_by r (child_of c u v) (children M u v) ++ made)) g.0.is.role ∙ more.counts e;
          are = λ e. subst (λ x. AreTold x gs) (sym (ap (λ r. given_by r (child_of c u v) (children M u v) ++ made) g.0.is.role)) (more.are e);
          ends = λ e. ends-more nil true more.flags (more.ends e);
        }

  -- ---- texts

  -- a value for the texts of mixed content, which has so many as are counted; none where the content isn't mixed
  abbrev pub TextsGiven : Bool → ℕ → List (List ℕ) → Type 0
  TextsGiven false count texts = Unit {0}
  TextsGiven true count texts =
      (v : Rose ValueLabel) × ((u : Rose TypeLabel) → AreTexts u → FitsAt M depth u v) × (map text_in (kids_of v) ≡ texts) × (length texts ≡ count)

  -- with an order of these numbers
  record FillsTold (nillable nil mixed all : Bool) (count : ℕ) (gs : List Gift) (numbers : List ℕ) (l : TypeLabel) (i : ℕ) (cs : List Component) (us : List (Rose TypeLabel)) (xs : List (Name × List ℕ)) (k : Roses Plain) : Type 0 where
    pub filled : Fills nillable nil mixed all count gs l i cs us xs k
    pub told : all ≡ true → numbers_of l i cs filled.flags filled.values ≡ numbers

  order-fills : (nillable nil mixed all : Bool) (count : ℕ) (gs : List Gift) (elements : ℕ) (numbers : List ℕ) → (all ≡ true → AllByRecursion (λ i. i < elements) numbers) → (l : TypeLabel) (R : Behind)
      (xs : List (Name × List ℕ)) (k : Roses Plain) → ((i : ℕ) (cs : List Component) (us : List (Rose TypeLabel)) → R i cs us → Fills nillable nil mixed all count gs l i cs us xs k)
      → (i : ℕ) (cs : List Component) (us : List (Rose TypeLabel)) → WithOrder all elements l R i cs us → FillsTold nillable nil mixed all count gs numbers l i cs us xs k
  order-fills nillable nil mixed false count gs elements numbers few l R xs k f i cs us g = record { filled = f i cs us g; told = λ e. absurd (true≢false (sym e)) }
  order-fills nillable nil mixed true count gs elements numbers few l R xs k f i [] us g = absurd g
  order-fills nillable nil mixed true count gs elements numbers few l R xs k f i (c ∷ cs) [] g = absurd g
  order-fills nillable nil mixed true count gs elements numbers few l R xs k f i (c ∷ cs) (u ∷ us) g =
      let rest = f (i + 1) cs us g.1 in
      let v = order_value numbers in
      let made = present_children M l (i + 1) cs us rest.flags rest.values in
      let fits : FitsAt M depth u v = order-fits M depth small elements u g.0.type numbers (few refl) in
      record {
        filled = record {
          flags = true ∷ rest.flags;
          values = rose.more v rest.values;
          fit = (subst (λ r. FitsAt M (below r depth) u v) (sym g.0.is.role) fits, rest.fit);
          kept = (kept-free M c u v (g.0.is.free refl), rest.kept);
          gives = ap (λ r. both (placed M (record { role = r; part = c; type = u }) v (inside M u v)) (present_given M l (i + 1) cs us rest.flags rest.values)) g.0.is.role ∙ rest.gives;
          counts = λ e. ap (λ r. length (given_by r (child_of c u v) (children M u v) ++ made)) g.0.is.role ∙ rest.counts e;
          are = λ e. subst (λ x. AreTold x gs) (sym (ap (λ r. given_by r (child_of c u v) (children M u v) ++ made) g.0.is.role)) (rest.are e);
          ends = λ e. ends-more nil true rest.flags (rest.ends e);
        };
        told = λ e. ap (λ r. if is_order_role r then map item_number (kids_of v) else numbers_of l (i + 1) cs rest.flags rest.values) g.0.is.role ∙ order-numbers numbers;
      }

  record FillsAll (nillable nil mixed all : Bool) (count wanted : ℕ) (gs : List Gift) (numbers : List ℕ) (texts : List (List ℕ)) (l : TypeLabel) (cs : List Component) (us : List (Rose TypeLabel))
      (xs : List (Name × List ℕ)) (k : Roses Plain) : Type 0 where
    pub filled : Fills nillable nil mixed all count gs l 0 cs us xs k
    pub told : all ≡ true → numbers_of l 0 cs filled.flags filled.values ≡ numbers
    pub first : mixed ≡ true → first_count (value.Sequence filled.flags) (list_of filled.values) ≡ wanted
    pub texts_are : mixed ≡ true → texts_of (value.Sequence filled.flags) filled.values ≡ texts

  texts-fill : (nillable nil mixed all : Bool) (count wanted : ℕ) (gs : List Gift) (numbers : List ℕ) (texts : List (List ℕ)) → TextsGiven mixed wanted texts → (l : TypeLabel) (R : Behind)
      (xs : List (Name × List ℕ)) (k : Roses Plain)
      → ((i : ℕ) (cs : List Component) (us : List (Rose TypeLabel)) → R i cs us → FillsTold nillable nil mixed all count gs numbers l i cs us xs k)
      → (cs : List Component) (us : List (Rose TypeLabel)) → WithTexts mixed l R 0 cs us → FillsAll nillable nil mixed all count wanted gs numbers texts l cs us xs k
  texts-fill nillable nil false all count wanted gs numbers texts h l R xs k f cs us g =
      let rest = f 0 cs us g in
      record { filled = rest.filled; told = rest.told; first = λ e. absurd (true≢false (sym e)); texts_are = λ e. absurd (true≢false (sym e)) }
  texts-fill nillable nil true all count wanted gs numbers texts h l R xs k f [] us g = absurd g
  texts-fill nillable nil true all count wanted gs numbers texts h l R xs k f (c ∷ cs) [] g = absurd g
  texts-fill nillable nil true all count wanted gs numbers texts h l R xs k f (c ∷ cs) (u ∷ us) g =
      let v = h.0 in
      let more = f 1 cs us g.1 in
      let rest = more.filled in
      let made = present_children M l 1 cs us rest.flags rest.values in
      record {
        filled = record {
          flags = true ∷ rest.flags;
          values = rose.more v rest.values;
          fit = (subst (λ r. FitsAt M (below r depth) u v) (sym g.0.is.role) (h.1 u g.0.type), rest.fit);
          kept = (kept-free M c u v (g.0.is.free refl), rest.kept);
          gives = ap (λ r. both (placed M (record { role = r; part = c; type = u }) v (inside M u v)) (present_given M l 1 cs us rest.flags rest.values)) g.0.is.role ∙ rest.gives;
          counts = λ e. ap (λ r. length (given_by r (child_of c u v) (children M u v) ++ made)) g.0.is.role ∙ rest.counts e;
          are = λ e. subst (λ x. AreTold x gs) (sym (ap (λ r. given_by r (child_of c u v) (children M u v) ++ made) g.0.is.role)) (rest.are e);
          ends = λ e. ends-more nil true rest.flags (rest.ends e);
        };
        told = λ e. ap (λ r. if is_order_role r then map item_number (kids_of v) else numbers_of l 1 cs rest.flags rest.values) g.0.is.role ∙ more.told e;
        first = λ e. sym (length-map (kids_of v) text_in) ∙ ap length h.2 ∙ h.3;
        texts_are = λ e. h.2;
      }

  -- ---- the rule of the node

  pub nil-is : (nillable nil last : Bool) → (nillable ≡ true → last ≡ nil) → (nillable ≡ false → nil ≡ false) → (nillable && last) ≡ nil
  nil-is true nil last f g = f refl
  nil-is false nil last f g = sym (g refl)

  plain-rest : (nillable nil : Bool) (c : Content) (k : Roses Plain) (n : ℕ) → RestGiven nillable nil c k n → nillable ≡ false → nil ≡ false
  plain-rest nillable false c k n h e = refl
  plain-rest nillable true c k n h e = absurd (true≢false (sym h.0 ∙ e))

  pub texts-put : (mixed : Bool) (texts others : List (List ℕ)) (g : Given) → (mixed ≡ true → texts ≡ others) → with_texts mixed texts g ≡ with_texts mixed others g
  texts-put true texts others g f = ap (λ ts. with_texts true ts g) (f refl)
  texts-put false texts others g f = refl

  -- ---- what is given, as the parts stand

  -- where the content has no order of its own
  plain-parts-given : (nillable nil : Bool) (c : Content) → IsContent s c → is_ordered c ≡ false → (k : Roses Plain) (n : ℕ) → RestGiven nillable nil c k n → (gs : List Gift) × RestParts nillable nil c gs k n
  plain-parts-given nillable true c ok kind k n h = ([], (h.0, h.1, h.2, refl))
  plain-parts-given nillable false content_.Empty ok kind k n h = ([], h)
  plain-parts-given nillable false (content_.Simple m) ok kind k n h = ([], h)
  plain-parts-given nillable false (content_.ElementOnly p) ok kind k n h =
      (h.gifts, record { fit = paired h.gifts h.fit; leaves = plain-parts Gift leaf_of (seen p) ok.clear kind 0 [] (map leaf_of h.gifts) h.leaves; kids = h.kids; count = h.count })
  plain-parts-given nillable false (content_.Mixed p) ok kind k n h =
      (h.gifts, record { fit = paired h.gifts h.fit; leaves = plain-parts Gift leaf_of (seen p) ok.clear kind 0 [] (map leaf_of h.gifts) h.leaves; kids = h.kids; count = h.count })

  abbrev Listed : Bool → Bool → Rose ParticleLabel → List Gift → Type 0
  Listed nillable nil p gs = InList Gift (Rose Plain) leaf_of item_of (tell M) M E depth small s nillable nil p gs

  -- where the elements may stand in any order: their items, in the order that is told
  record OrderGiven (nillable nil : Bool) (p : Rose ParticleLabel) (k : Roses Plain) (n : ℕ) : Type 0 where
    gifts : List Gift
    fit : ArePaired gifts
    listed : Listed nillable nil p gifts
    kids : k ≡ items_of gifts
    count : n ≡ length gifts

  order-given : (nillable nil : Bool) (c : Content) (p : Rose ParticleLabel) → model_of c ≡ Some p → (k : Roses Plain) (n : ℕ) → RestGiven nillable nil c k n → OrderGiven nillable nil p k n
  order-given nillable true c p is k n h =
      record { gifts = []; fit = λ i d below. absurd (omega (arith, below)); listed = (h.0, refl); kids = h.1; count = h.2 }
  order-given nillable false content_.Empty p is k n h = absurd cc
  order-given nillable false (content_.Simple m) p is k n h = absurd cc
  order-given nillable false (content_.ElementOnly q) p is k n h =
      let same : q ≡ p = cc in
      subst (λ x. OrderGiven nillable false x k n) same (record { gifts = h.gifts; fit = paired h.gifts h.fit; listed = h.leaves; kids = h.kids; count = h.count })
  order-given nillable false (content_.Mixed q) p is k n h =
      let same : q ≡ p = cc in
      subst (λ x. OrderGiven nillable false x k n) same (record { gifts = h.gifts; fit = paired h.gifts h.fit; listed = h.leaves; kids = h.kids; count = h.count })

  abbrev InOrder : Bool → Bool → Rose ParticleLabel → List Gift → Type 0
  InOrder nillable nil p gs = Sorted Gift (Rose Plain) leaf_of item_of (tell M) M E depth small s nillable nil true (seen p) p gs

  order-parts : (nillable nil : Bool) (c : Content) (p : Rose ParticleLabel) → model_of c ≡ Some p → (gs : List Gift) (n : ℕ) → n ≡ length gs → (nil ≡ true → n ≡ 0) → (x : InOrder nillable nil p gs)
      → RestParts nillable nil c x.sorted (items_of x.sorted) n
  order-parts nillable true c p is gs n many none x = (x.given.0, ap items_of x.given.1, none refl, x.given.1)
  order-parts nillable false content_.Empty p is gs n many none x = absurd cc
  order-parts nillable false (content_.Simple m) p is gs n many none x = absurd cc
  order-parts nillable false (content_.ElementOnly q) p is gs n many none x =
      let same : q ≡ p = cc in
      record { fit = x.each; leaves = subst (λ z. Placed z x.sorted) (sym same) x.given; kids = refl; count = many ∙ sym x.many }
  order-parts nillable false (content_.Mixed q) p is gs n many none x =
      let same : q ≡ p = cc in
      record { fit = x.each; leaves = subst (λ z. Placed z x.sorted) (sym same) x.given; kids = refl; count = many ∙ sym x.many }

  ordered-model : (c : Content) → is_ordered c ≡ true → (p : Rose ParticleLabel) × (model_of c ≡ Some p)
  ordered-model content_.Empty e = absurd cc
  ordered-model (content_.Simple n) e = absurd cc
  ordered-model (content_.ElementOnly p) e = (p, refl)
  ordered-model (content_.Mixed p) e = (p, refl)

  nil-none : (nillable nil : Bool) (c : Content) (k : Roses Plain) (n : ℕ) → RestGiven nillable nil c k n → nil ≡ true → n ≡ 0
  nil-none nillable true c k n h e = h.2
  nil-none nillable false c k n h e = absurd (true≢false (sym e))

  -- ---- a value by its parts

  abbrev HasAll : Bool → Bool → ComplexDef → List Component → List (Rose TypeLabel) → Type 0
  HasAll nillable all c cs us =
      WithTexts (is_mixed c.content) (Label nillable (is_mixed c.content) all cs)
      (WithOrder all (order_count c.content) (Label nillable (is_mixed c.content) all cs)
      (WithAttributes s M (Label nillable (is_mixed c.content) all cs) (AreRest E s M nillable c.content (Label nillable (is_mixed c.content) all cs)) c.uses)) 0 cs us

  parts-fill : (nillable nil all : Bool) (c : ComplexDef) → IsContent s c.content → is_ordered c.content ≡ all → (cs : List Component) (us : Roses TypeLabel) → HasAll nillable all c cs (list_of us)
      → (xs : List (Name × List ℕ)) → AttributesAs s linked M depth small c.uses xs → (gs : List Gift) (k : Roses Plain) (n wanted : ℕ) → RestParts nillable nil c.content gs k n
      → (numbers : List ℕ) → (all ≡ true → AllByRecursion (λ i. i < order_count c.content) numbers) → (texts : List (List ℕ)) → TextsGiven (is_mixed c.content) wanted texts
      → FillsAll nillable nil (is_mixed c.content) all n wanted gs numbers texts (Label nillable (is_mixed c.content) all cs) cs (list_of us) xs k
  parts-fill nillable nil all c ok kind cs us has xs attributes gs k n wanted parts numbers few texts texts_given =
      let mixed = is_mixed c.content in
      let l = Label nillable mixed all cs in
      let R = AreRest E s M nillable c.content l in
      texts-fill nillable nil mixed all n wanted gs numbers texts texts_given l (WithOrder all (order_count c.content) l (WithAttributes s M l R c.uses)) xs k
      (λ i ds ts g. order-fills nillable nil mixed all n gs (order_count c.content) numbers few l (WithAttributes s M l R c.uses) xs k
      (λ j es zs q. attributes-fill nillable nil mixed all n gs l R k (λ m fs ys r. rest-fills nillable nil c.content ok all kind gs k n parts l m fs ys r) c.uses xs attributes j es zs q) i ds ts g) cs (list_of us) has

  abbrev Makes : Bool → Bool → Bool → Bool → List Component → Roses TypeLabel → List (Name × List ℕ) → Roses Plain → List (List ℕ) → Type 0
  Makes nillable nil mixed all cs us xs k texts =
      (v : Rose ValueLabel) × FitsAt M depth (node (Label nillable mixed all cs) us) v × (inside M (node (Label nillable mixed all cs) us) v ≡ with_nil nil (with_texts mixed texts (given xs k)))

  -- what the value gives, by what its parts give
  shows-all : (nillable nil mixed all : Bool) (cs : List Component) (us : Roses TypeLabel) (flags : List Bool) (vs : Roses ValueLabel) → PartsFit M depth (Label nillable mixed all cs) 0 cs (list_of us) flags vs
      → (nillable ≡ true → is_last_absent (value.Sequence flags) ≡ nil) → (nillable ≡ false → nil ≡ false) → (texts : List (List ℕ)) → (mixed ≡ true → texts_of (value.Sequence flags) vs ≡ texts) → (outer : Given)
      → as_ordered M (node (Label nillable mixed all cs) us) (node (value.Sequence flags) vs) (present_given M (Label nillable mixed all cs) 0 cs (list_of us) flags vs) ≡ outer
      → inside M (node (Label nillable mixed all cs) us) (node (value.Sequence flags) vs) ≡ with_nil nil (with_texts mixed texts outer)
  shows-all nillable nil mixed all cs us flags vs fit last plain texts texts_are outer e =
      let marks = sequence_marks nillable mixed all in
      let l = Label nillable mixed all cs in
      let own_texts = texts_of (value.Sequence flags) vs in
      let told_all = as_ordered M (node l us) (node (value.Sequence flags) vs) (present_given M l 0 cs (list_of us) flags vs) in
      ordered-inside M depth marks cs us flags vs (not-textual cs nillable mixed all) fit
      ∙ ap (λ b. with_nil (b && is_last_absent (value.Sequence flags)) (with_texts (has_embed_values marks) own_texts told_all)) (sequence-nil nillable mixed all)
      ∙ ap (λ b. with_nil b (with_texts (has_embed_values marks) own_texts told_all)) (nil-is nillable nil (is_last_absent (value.Sequence flags)) last plain)
      ∙ ap (λ m. with_nil nil (with_texts m own_texts told_all)) (sequence-embeds nillable mixed all)
      ∙ ap (λ z. with_nil nil (with_texts mixed own_texts z)) e
      ∙ ap (with_nil nil) (texts-put mixed own_texts texts outer texts_are)

  -- as many child elements as are counted
  parts-count : (nillable nil mixed all : Bool) (n wanted : ℕ) (gs : List Gift) (numbers : List ℕ) (texts : List (List ℕ)) (cs : List Component) (us : Roses TypeLabel) (xs : List (Name × List ℕ)) (k : Roses Plain)
      → (made : FillsAll nillable nil mixed all n wanted gs numbers texts (Label nillable mixed all cs) cs (list_of us) xs k) → mixed ≡ true
      → child_count M (node (Label nillable mixed all cs) us) (node (value.Sequence made.filled.flags) made.filled.values) ≡ n
  parts-count nillable nil mixed all n wanted gs numbers texts cs us xs k made e =
      let marks = sequence_marks nillable mixed all in
      let l = Label nillable mixed all cs in
      let whole = node l us in
      let filled = made.filled in
      let each = parts-fit-each M depth l cs 0 (list_of us) filled.flags filled.values filled.kept filled.fit in
      count-at M depth whole (value.Sequence filled.flags) filled.values
      (subst (λ y. elim (places y (value.Sequence filled.flags) (length_all filled.values)) as (λ _. Type 0) [ None ↦ ⊥ | Some ps ↦ FitEach M depth ps filled.values ]) (sym (follow-none M 4 whole refl)) each)
      ∙ ap length (sequence-unordered M depth marks cs us filled.flags filled.values each) ∙ filled.counts e

  parts-make : (nillable nil all : Bool) (c : ComplexDef) → IsContent s c.content → is_ordered c.content ≡ all → (cs : List Component) (us : Roses TypeLabel) → HasAll nillable all c cs (list_of us)
      → (xs : List (Name × List ℕ)) → AttributesAs s linked M depth small c.uses xs → (k : Roses Plain) (n : ℕ) → RestGiven nillable nil c.content k n
      → (texts : List (List ℕ)) → TextsGiven (is_mixed c.content) (text_count nil n) texts → Makes nillable nil (is_mixed c.content) all cs us xs k texts
  parts-make nillable nil false c ok kind cs us has xs attributes k n rest texts texts_given =
      let mixed = is_mixed c.content in
      let marks = sequence_marks nillable mixed false in
      let l = Label nillable mixed false cs in
      let whole = node l us in
      let parts = plain-parts-given nillable nil c.content ok kind k n rest in
      let made = parts-fill nillable nil false c ok kind cs us has xs attributes parts.0 k n (text_count nil n) parts.1 [] (λ e. tt) texts texts_given in
      let filled = made.filled in
      let v = node (value.Sequence filled.flags) filled.values in
      let last = λ (e : nillable ≡ true). ends-last nil filled.flags (filled.ends e) in
      let plain = plain-rest nillable nil c.content k n rest in
      let counted = λ (e : mixed ≡ true). parts-count nillable nil mixed false n (text_count nil n) parts.0 [] texts cs us xs k made e in
      let own = owns M E depth small s nillable mixed false nil cs us filled.flags filled.values last plain (λ e. made.first e ∙ ap (text_count nil) (sym (counted e))) (λ e. absurd (true≢false (sym e))) in
      let all_given = present_given M l 0 cs (list_of us) filled.flags filled.values in
      let outer = unordered (has_use_order marks) (ordered_flags M l whole v) (order_of whole v) all_given (sequence-order nillable mixed false) ∙ filled.gives in
      (v, kept-fits M depth small marks cs us filled.flags filled.values filled.kept filled.fit own, shows-all nillable nil mixed false cs us filled.flags filled.values filled.fit last plain texts made.texts_are (given xs k) outer)
  parts-make nillable nil true c ok kind cs us has xs attributes k n rest texts texts_given =
      let mixed = is_mixed c.content in
      let marks = sequence_marks nillable mixed true in
      let l = Label nillable mixed true cs in
      let whole = node l us in
      let has_model = ordered-model c.content kind in
      let p = has_model.0 in
      let in_order_given = order-given nillable nil c.content p has_model.1 k n rest in
      let gs = in_order_given.gifts in
      let elements = single-elements s c.content ok p has_model.1 kind in
      let x = sort-gifts Gift (Rose Plain) leaf_of item_of (tell M) M E depth small s nillable nil true c.content ok p has_model.1 kind gs in_order_given.fit in_order_given.listed in
      let few = λ (e : true ≡ true). subst (λ m. AllByRecursion (λ i. i < m) x.numbers) (x.long refl ∙ elements-many c.content p has_model.1 elements.1) (numbers-below (flags_in x.slotted) x.numbers (x.just refl)) in
      let parts = order-parts nillable nil c.content p has_model.1 gs n in_order_given.count (nil-none nillable nil c.content k n rest) x in
      let made = parts-fill nillable nil true c ok kind cs us has xs attributes x.sorted (items_of x.sorted) n (text_count nil n) parts x.numbers few texts texts_given in
      let filled = made.filled in
      let v = node (value.Sequence filled.flags) filled.values in
      let raw = present_children M l 0 cs (list_of us) filled.flags filled.values in
      let last = λ (e : nillable ≡ true). ends-last nil filled.flags (filled.ends e) in
      let plain = plain-rest nillable nil c.content k n rest in
      let counted = λ (e : mixed ≡ true). parts-count nillable nil mixed true n (text_count nil n) x.sorted x.numbers texts cs us xs (items_of x.sorted) made e in
      let told_so = all-told M E depth s nillable c l cs (list_of us) filled.flags filled.values has filled.fit in
      let settles = settled Gift (Rose Plain) leaf_of item_of (tell M) M E depth small s (seen p) elements.1 elements.2 whole v raw x.slotted x.numbers gs
      (order-is M depth marks cs us filled.flags filled.values filled.fit ∙ made.told refl) (subst (AreTold raw) (sym (x.found refl)) (filled.are refl)) (x.just refl) (x.told refl) (x.long refl) (x.names refl)
      (region M E depth s c.content ok p has_model.1 elements.0 nillable mixed cs us filled.flags filled.values told_so.behind) in
      let own = owns M E depth small s nillable mixed true nil cs us filled.flags filled.values last plain (λ e. made.first e ∙ ap (text_count nil) (sym (counted e))) (λ e. settles.0) in
      let all_given = present_given M l 0 cs (list_of us) filled.flags filled.values in
      let b = has_use_order marks in
      let flags = ordered_flags M l whole v in
      let numbers = order_of whole v in
      let raw_kids : all_given.kids ≡ told M raw = ap (λ (z : Given). z.kids) filled.gives ∙ ap roses_of (sym (items-told raw x.sorted (filled.are refl))) ∙ sym (told-roses raw) in
      let kids : (as_ordered M whole v all_given).kids ≡ k =
      order-shows M b flags numbers all_given raw raw_kids ∙ ap (told M) (in-order-told b flags numbers raw (sequence-order nillable mixed true))
      ∙ told-roses (in_order flags numbers raw) ∙ ap roses_of (items-told (in_order flags numbers raw) gs settles.1) ∙ sym in_order_given.kids in
      let names : (as_ordered M whole v all_given).attributes ≡ xs = order-keeps M b flags numbers all_given ∙ ap (λ (z : Given). z.attributes) filled.gives in
      let outer : as_ordered M whole v all_given ≡ given xs k = ap (λ ys. given ys (as_ordered M whole v all_given).kids) names ∙ ap (λ z. given xs z) kids in
      (v, kept-fits M depth small marks cs us filled.flags filled.values filled.kept filled.fit own, shows-all nillable nil mixed true cs us filled.flags filled.values filled.fit last plain texts made.texts_are (given xs k) outer)

  -- a value of the complex type with these attributes and kids
  pub complex-fills : (nillable : Bool) (c : ComplexDef) → IsContent s c.content → (t : Rose TypeLabel) → HasComplex E s M nillable c (resolve M t) → (xs : List (Name × List ℕ)) → AttributesAs s linked M depth small c.uses xs
      → (nil : Bool) (k : Roses Plain) (n : ℕ) → RestGiven nillable nil c.content k n → (texts : List (List ℕ)) → TextsGiven (is_mixed c.content) (text_count nil n) texts
      → (v : Rose ValueLabel) × FitsAt M depth t v × (inside M t v ≡ with_nil nil (with_texts (is_mixed c.content) texts (given xs k)))
  complex-fills nillable c ok t has xs attributes nil k n rest texts texts_given =
      let whole = node (Label nillable (is_mixed c.content) (is_ordered c.content) has.0) has.1 in
      let same : resolve M t ≡ resolve M whole = has.2 ∙ sym (follow-none M 4 whole refl) in
      let made = parts-make nillable nil (is_ordered c.content) c ok refl has.0 has.1 has.3 xs attributes k n rest texts texts_given in
      (made.0, fits-found M depth whole t made.0 (sym same) made.1, inside-found M t whole made.0 same ∙ made.2)
