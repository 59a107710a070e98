-- What is made of an element's attributes and content gives its treated items, wherever it stands.
use Rattle.std.proofs.Common.{◌≡◌, ℕ, suc, ◌+◌, ◌≤◌, ◌<◌, Bool, true, false, not, Option, Some, None, List, [], ◌∷◌, length, map, true≢false, refl, sym, ap, subst, ◌∙◌, arith}
use Rattle.std.specs.Prelude.{All, Ok, IsUtf8, slice_get, IsSomeAnd, MatchBool}
use Rattle.std.specs.List.{AllByRecursion}
use Rattle.std.proofs.lemmas.List.Sorted.{length_permutation}
use Rattle.std.proofs.lemmas.List.Elements.{All-nil, All-head, All-tail}
use Rattle.base_texts.specs.declared.texts.Name.{Name}
use Rattle.base_trees.specs.Rose.{Rose, node, Roses, roses_of, length_all}
use Rattle.base_trees.specs.Rose as rose
use Rattle.base_trees.proofs.Roses.{length_all-roses_of}
use Rattle.simple_types.specs.declared.labels.ValueLabel.{ValueLabel}
use Rattle.simple_types.specs.declared.labels.ValueLabel.TheVariants as value
use Rattle.simple_types.specs.Reading.{reads, spelled}
use Rattle.content_models.specs.declared.particles.ParticleLabel.{ParticleLabel}
use Rattle.content_models.specs.Particle.{Particle}
use Rattle.content_models.specs.Clear.{IsNoAll}
use Rattle.content_models.specs.Seen.{seen}
use Rattle.xml_items.specs.declared.label.ItemLabel.{ItemLabel}
use Rattle.xml_read.specs.Sound.{are_sound_attributes, are_sound, levels_all}
use Rattle.xml_items.specs.Plain.{Plain}
use Rattle.xml_items.specs.Mixing.{text_before, texts_between, interleaved, AllElements}
use Rattle.xml_items.proofs.Mixing.{puts_together}
use Rattle.schema_components.specs.declared.components.AttributeUse.{AttributeUse}
use Rattle.schema_components.specs.declared.components.ElementDecl.{ElementDecl}
use Rattle.schema_components.specs.declared.components.ComplexDef.{ComplexDef}
use Rattle.schema_components.specs.declared.components.Content as schema
use Rattle.schema_components.specs.declared.components.Content.TheVariants as content_
use Rattle.schema_components.specs.declared.components.TypeOf.{TypeOf}
use Rattle.schema_components.specs.declared.components.TypeOf.TheVariants as kind
use Rattle.schema_components.specs.Components.{Set}
use Rattle.schema_components.specs.Linked.{leaves, IsNamed, HasStandard, IsContent, IsComplexType, IsLinked}
use Rattle.schema_components.specs.SetParts.{parts_of}
use Rattle.asn_types.specs.declared.modules.Assignment.{Assignment}
use Rattle.asn_types.specs.declared.types.TypeLabel.{TypeLabel}
use Rattle.asn_types.specs.Refs.{resolve}
use Rattle.asn_values.specs.Values.{text_count, AreJustSet, FitsAt}
use Rattle.asn_values.specs.Ordering.{slots, taken, in_order}
use Rattle.asn_values.proofs.JustSet.{just_set}
use Rattle.asn_values.proofs.Slots.{in_order-permutes, in_order-whole}
use Rattle.map_subjects.specs.Subjects.{place_in}
use Rattle.map_subjects.proofs.Finding.{all-at}
use Rattle.map_assignments.specs.Mapped.{IsMapOf}
use Rattle.map_assignments.specs.Planning.{is_mixed, is_all, is_ordered}
use Rattle.map_laws.specs.Standing.{count_elements, order_count, IsSimpleOf, HasNillable, HasComplex, HasContent}
use Rattle.map_laws.specs.Statements.{IsTypeAt}
use Rattle.map_laws.proofs.Leading.{types-lead}
use Rattle.xer_items.specs.Items as items
use Rattle.xer_items.specs.Items.{given, with_order, with_texts, element_of, inside}
use Rattle.validity_rules.specs.Asked.{Asked, Attribute, Inside, asked, space_at, attribute_in, inside_of, asked_by, asked_by_type, asked_by_complex, asked_at}
use Rattle.validity_rules.specs.Asked as ask
use Rattle.validity_rules.specs.Attributes.{Nil, not_nil, is_nil, bad_nil, nil_by, nil_of, xsi_nil, text_of, left, Stands, AllStand, put_attribute, treated_attribute, treated_attributes, with_nil}
use Rattle.value_laws.proofs.Texts.{IsEncoded, left-encoded, text-encoded, text-given, never-true}
use Rattle.value_laws.proofs.Kids.{IsXml, only-utf8, between-xml, kids-xml, texts_value, texts-fitting}
use Rattle.value_laws.proofs.Elements.{nil-nillable, kids-text}
use Rattle.value_contents.specs.Made.{Child, TopMade}
use Rattle.xer_read.specs.Private.Held.{Beside, Held, texts_of}
use Rattle.xer_read.specs.Private.Held as held
use Rattle.xer_read.specs.Private.Given.{IsTypeFor, Gives}
use Rattle.xer_read.specs.Private.Keeping.{AllKept}
use Rattle.xer_read.specs.Private.Contents.{AreThose, AreOrdered, IsContentBy, IsContentOf, IsNilContent, AttributesMade, TextsMade, ChildrenMade, OrderedMade, NothingMade, RestMade, ComplexMade, is_plain_by, is_plain_at, IsMadeBy, IsMade}
use Rattle.xer_read.proofs.Attributed.{put-kept}
use Rattle.xer_read.proofs.Making.{named-top, AreGifts}
use Rattle.xer_read.proofs.Sorting.{no-all-plain, all-many, numbers-below, told-elements, in-order, order-made}
use Rattle.xer_read.proofs.Parting.{FlagsIn, IsTold, ContentAs, RestAs, AttributesIn, TextsIn, complex-made}

-- what is read of an element, nil or not
abbrev pub ReadBy : Set → Nil → Inside → Roses ItemLabel → Held → Roses Plain → Type 0
ReadBy s bad_nil inside ts content vs = ⊥
ReadBy s is_nil inside ts content vs = IsNilContent content × (vs ≡ rose.none)
ReadBy s not_nil inside ts content vs = IsContentOf s inside ts content vs

elements-kept : (s : Set) (high : ℕ) (gs : List Child) (bs : List (Rose Plain)) → AllKept s high gs bs → AllElements (roses_of bs)
elements-kept s high [] [] h = tt
elements-kept s high [] (b ∷ bs) h = absurd h
elements-kept s high (g ∷ gs) [] h = absurd h
elements-kept s high (g ∷ gs) (b ∷ bs) h = subst (λ z. AllElements (rose.more z (roses_of bs))) (sym h.0.is) (tt, elements-kept s high gs bs h.1)

made-complex : (r : Beside) (v : Rose ValueLabel) (P : Type 0) → IsMadeBy false r v P → P
made-complex held.nil v P h = h
made-complex held.nothing v P h = h
made-complex (held.text w) v P h = h
made-complex (held.children model gs) v P h = h
made-complex (held.ordered model flags gs) v P h = h

module _ (s : Set) (linked : IsLinked s) (M : List Assignment) (is_map : IsMapOf s M) (depth : ℕ) (small : depth ≤ 64) where
  abbrev asks : ℕ → Asked
  asks = asked_at (parts_of s)

  abbrev E : ℕ → Rose TypeLabel → Type 0
  E = IsTypeAt s (place_in is_map.entries)

  abbrev N : ℕ → Name → Type 0
  N d a = IsNamed s (d, a)

  abbrev own : AttributeUse → Attribute
  own = attribute_in (parts_of s)

  -- ---- attributes

  module _ (ls : List (Name × List ℕ)) (encoded : All IsEncoded ls) where
    attributes-in : (ds : List AttributeUse) → All (HasStandard s) ds → All (Stands ls) (map own ds) → (flags : List Bool) (vs : List (Rose ValueLabel)) → AttributesMade (map own ds) ls flags vs
        → AttributesIn M E N depth small s linked ds (treated_attributes (map own ds) ls) flags vs
    attributes-in [] standards stand flags vs h = (refl, h.0, h.1)
    attributes-in (d ∷ ds) standards stand [] vs h = absurd h
    attributes-in (d ∷ ds) standards stand (false ∷ flags) vs ((none, unless), rest) =
        let ys = treated_attributes (map own ds) ls in
        let here : put_attribute d.name (treated_attribute (own d) ls) ys ≡ ys = ap (λ o. put_attribute d.name o ys) none in (
          never-true s linked M depth small d.required (λ r. All-head (Stands ls) (own d) (map own ds) stand r (unless r)),
          subst (λ zs. AttributesIn M E N depth small s linked ds zs flags vs) (sym here)
              (attributes-in ds (All-tail (HasStandard s) d ds standards) (All-tail (Stands ls) (own d) (map own ds) stand) flags vs rest),
        )
    attributes-in (d ∷ ds) standards stand (true ∷ flags) [] h = absurd h
    attributes-in (d ∷ ds) standards stand (true ∷ flags) (v ∷ vs) ((words, is, accepts, fixed, treated), rest) =
        let ys = treated_attributes (map own ds) ls in
        let space = space_at (parts_of s) d.simple in
        let here : put_attribute d.name (treated_attribute (own d) ls) ys ≡ (d.name, spelled space v) ∷ ys = ap (λ o. put_attribute d.name o ys) treated in (
          spelled space v,
          ys,
          here,
          text-given s linked M depth small d.simple words (text-encoded ls d.name words encoded is) v accepts,
          put-kept s d ls v (All-head (HasStandard s) d ds standards).1 (words, is, accepts, fixed, treated),
          attributes-in ds (All-tail (HasStandard s) d ds standards) (All-tail (Stands ls) (own d) (map own ds) stand) flags vs rest,
        )

  -- ---- child elements

  one-name : (d : ℕ) (a b : Name) → N d a → N d b → a ≡ b
  one-name d a b = by (slice_get s.elements d)
    where
      by : (o : Option ElementDecl) → IsSomeAnd o (λ e. e.name ≡ a) → IsSomeAnd o (λ e. e.name ≡ b) → a ≡ b
      by None h k = absurd h
      by (Some e) h k = sym h ∙ k

  type-for : (d : ℕ) (u : Rose TypeLabel) → E d u → (a : Name) → N d a → IsTypeFor s M is_map d u
  type-for d u h a = by (slice_get s.elements d) refl
    where
      by : (o : Option ElementDecl) → slice_get s.elements d ≡ o → IsSomeAnd o (λ e. e.name ≡ a) → IsSomeAnd o (λ (e : ElementDecl). HasContent E s M e (resolve M u))
      by None g k = absurd k
      by (Some e) g k = types-lead s M linked is_map d e u g h

  gifts : (high : ℕ) → suc depth + high ≤ 65 → (gs : List Child) (bs : List (Rose Plain)) → AllKept s high gs bs → AreGifts M E N depth small gs bs
  gifts high within [] [] h = tt
  gifts high within [] (b ∷ bs) h = absurd h
  gifts high within (g ∷ gs) [] h = absurd h
  gifts high within (g ∷ gs) (b ∷ bs) h = (
    λ u e a n.
        let one = h.0 in
        let gives = one.gives M is_map (suc depth) u within (type-for g.decl u e a n) in
        (gives.0, ap (λ z. element_of a z) gives.1 ∙ ap (λ z. element_of z one.inner) (one-name g.decl a one.name n one.named) ∙ sym one.is),
    gifts high within gs bs h.1,
  )

  -- ---- contents

  -- what is read for a content gives these kids
  record RestRead (nillable : Bool) (n : Nil) (c : schema.Content) (numbers : List ℕ) (vs : Roses Plain) (front rest : List Bool) (first last : List (Rose ValueLabel)) : Type 0 where
    pub nil : Bool
    pub kids : Roses Plain
    pub count : ℕ
    pub texts : List (List ℕ)
    pub flags : List Bool
    pub rest_as : RestAs M E N depth small s linked nillable nil c rest last kids count
    pub texts_in : TextsIn M E N depth small s linked (is_mixed c) (text_count nil count) texts front first
    pub told : is_ordered c ≡ true → IsTold nillable nil (order_count c) numbers flags rest last
    pub whole : (xs : List (Name × List ℕ)) → items.with_nil nil (with_texts (is_mixed c) texts (with_order (is_ordered c) flags numbers (given xs kids))) ≡ given (with_nil n xs) vs

  never : {A : Type 0} → false ≡ true → A
  never e = absurd (true≢false (sym e))

  texts-in : (words : List (List ℕ)) → All IsXml words → (texts : Rose ValueLabel) → texts ≡ texts_value words → (wanted : ℕ) → length words ≡ wanted → (flags : List Bool) (vs : List (Rose ValueLabel))
      → flags ≡ true ∷ [] → vs ≡ texts ∷ [] → TextsIn M E N depth small s linked true wanted words flags vs
  texts-in words xml texts is wanted many flags vs ef ev =
      let fits = texts-fitting M depth small words xml in
      (texts_value words, ef, ev ∙ ap (λ t. t ∷ []) is, fits.0, fits.1, many)

  nothing-put : (mixed : Bool) (xs : List (Name × List ℕ)) → with_texts mixed [] (given xs rose.none) ≡ given xs rose.none
  nothing-put true xs = refl
  nothing-put false xs = refl

  none-ordered : (b : Bool) (xs : List (Name × List ℕ)) → with_order b [] [] (given xs rose.none) ≡ given xs rose.none
  none-ordered true xs = refl
  none-ordered false xs = refl

  nil-texts : (c : schema.Content) (texts : Rose ValueLabel) → texts ≡ node value.SequenceOf rose.none → (flags : List Bool) (vs : List (Rose ValueLabel)) → TextsMade (inside_of (parts_of s) c) texts flags vs
      → TextsIn M E N depth small s linked (is_mixed c) 0 [] flags vs
  nil-texts content_.Empty texts is flags vs h = h
  nil-texts (content_.Simple m) texts is flags vs h = h
  nil-texts (content_.ElementOnly p) texts is flags vs h = h
  nil-texts (content_.Mixed p) texts is flags vs h = texts-in [] (All-nil IsXml) texts is 0 refl flags vs h.0 h.1

  nil-read : (nillable : Bool) → nillable ≡ true → (c : schema.Content) (content : Held) (vs : Roses Plain) → IsNilContent content → vs ≡ rose.none
      → (front rest : List Bool) (first last : List (Rose ValueLabel)) → TextsMade (inside_of (parts_of s) c) (texts_of content) front first → RestMade nillable content.rest rest last
      → RestRead nillable is_nil c content.order vs front rest first last
  nil-read nillable may c content vs nil e front rest first last texts others =
      let made : RestMade nillable held.nil rest last = subst (λ r. RestMade nillable r rest last) nil.0 others in
      record {
        nil = true;
        kids = rose.none;
        count = 0;
        texts = [];
        flags = [];
        rest_as = subst (λ b. RestAs M E N depth small s linked b true c rest last rose.none 0) (sym may) (made.0, made.1, refl, refl);
        texts_in = nil-texts c (texts_of content) nil.1 front first texts;
        told = λ is. subst (λ b. IsTold b true (order_count c) content.order [] rest last) (sym may)
            (subst (λ ns. IsTold true true (order_count c) ns [] rest last) (sym nil.2) (record { just = (just_set [] []).0 refl; below = tt; flags_are = refl }));
        whole = λ xs. ap (λ z. items.with_nil true (with_texts (is_mixed c) [] z)) (ap (λ ns. with_order (is_ordered c) [] ns (given xs rose.none)) nil.2 ∙ none-ordered (is_ordered c) xs)
            ∙ ap (items.with_nil true) (nothing-put (is_mixed c) xs) ∙ ap (λ z. given (with_nil is_nil xs) z) (sym e);
      }

  nothing-rest : (nillable : Bool) (flags : List Bool) (vs : List (Rose ValueLabel)) → NothingMade nillable flags vs → RestAs M E N depth small s linked nillable false content_.Empty flags vs rose.none 0
  nothing-rest false flags vs h = (h.0, h.1, refl)
  nothing-rest true flags vs h = (node (value.Sequence []) rose.none, h.0, h.1, ([], [], refl, (refl, refl, refl)))

  children-rest : (nillable : Bool) (p : Rose ParticleLabel) (gs : List Child) (bs : List (Rose Plain)) (flags : List Bool) (vs : List (Rose ValueLabel)) → All (IsNamed s) (leaves (seen p)) → AreGifts M E N depth small gs bs
      → ChildrenMade nillable (seen p) gs flags vs
      → RestAs M E N depth small s linked nillable false (content_.ElementOnly p) flags vs (roses_of bs) (length bs) × RestAs M E N depth small s linked nillable false (content_.Mixed p) flags vs (roses_of bs) (length bs)
  children-rest false p gs bs flags vs named given_all h =
      let all : ContentAs M E N depth small s linked (content_.ElementOnly p) flags vs (roses_of bs) (length bs) = (gs, bs, named-top N (seen p) named, h, given_all, refl, refl) in
      (all, all)
  children-rest true p gs bs flags vs named given_all (fs, ws, ef, ev, h) =
      let all : RestAs M E N depth small s linked true false (content_.ElementOnly p) flags vs (roses_of bs) (length bs) =
      (node (value.Sequence fs) (roses_of ws), ef, ev, (fs, ws, refl, (gs, bs, named-top N (seen p) named, h, given_all, refl, refl))) in
      (all, all)

  -- those of an all, in the order of its particles
  ordered-rest : (nillable : Bool) (p : Rose ParticleLabel) (fs : List Bool) (gs : List Child) (bs : List (Rose Plain)) (flags : List Bool) (vs : List (Rose ValueLabel)) → All (IsNamed s) (leaves (seen p))
      → AreGifts M E N depth small gs bs → OrderedMade nillable (seen p) fs gs flags vs
      → RestAs M E N depth small s linked nillable false (content_.ElementOnly p) flags vs (roses_of bs) (length bs) × RestAs M E N depth small s linked nillable false (content_.Mixed p) flags vs (roses_of bs) (length bs)
      × FlagsIn nillable false fs flags vs
  ordered-rest false p fs gs bs flags vs named given_all (ef, h) =
      let all : ContentAs M E N depth small s linked (content_.ElementOnly p) flags vs (roses_of bs) (length bs) =
      (gs, bs, named-top N (seen p) named, subst (λ z. TopMade (seen p) z vs gs) (sym ef) h, given_all, refl, refl) in
      (all, all, ef)
  ordered-rest true p fs gs bs flags vs named given_all (ws, ef, ev, h) =
      let all : RestAs M E N depth small s linked true false (content_.ElementOnly p) flags vs (roses_of bs) (length bs) =
      (node (value.Sequence fs) (roses_of ws), ef, ev, (fs, ws, refl, (gs, bs, named-top N (seen p) named, h, given_all, refl, refl))) in
      (all, all, (ws, ev))

  -- an all has as many particles as there are flags
  ordered-many : (nillable : Bool) (p : Particle) (fs : List Bool) (gs : List Child) (flags : List Bool) (vs : List (Rose ValueLabel)) → is_all p ≡ true → OrderedMade nillable p fs gs flags vs → length fs ≡ count_elements p
  ordered-many nillable p fs gs flags vs all h = all-many p fs (made nillable h).0 gs all (made nillable h).1
    where
      made : (b : Bool) → OrderedMade b p fs gs flags vs → (ws : List (Rose ValueLabel)) × TopMade p fs ws gs
      made false k = (vs, k.1)
      made true (ws, ef, ev, k) = (ws, k)

  module _ (nillable : Bool) (ts : Roses ItemLabel) (sound : are_sound ts ≡ true) (within : suc depth + levels_all ts ≤ 65) (front rest : List Bool) (first last : List (Rose ValueLabel)) where
    children-made : (q : Particle) (model : Rose ParticleLabel) (gs : List Child) → q ≡ seen model → ChildrenMade nillable (seen model) gs rest last → ChildrenMade nillable q gs rest last
    children-made q model gs e h = subst (λ z. ChildrenMade nillable z gs rest last) (sym e) h

    text-rest : (m : ℕ) (v : Rose ValueLabel) (vs : Roses Plain) (words : List ℕ) → IsUtf8 words → reads (space_at (parts_of s) m) words ≡ Ok v → vs ≡ text_before (spelled (space_at (parts_of s) m) v) rose.none
        → rest ≡ true ∷ [] → last ≡ v ∷ [] → RestAs M E N depth small s linked nillable false (content_.Simple m) rest last vs 0
    text-rest m v vs words encoded accepts is ef ev = by nillable
      where
        by : (b : Bool) → RestAs M E N depth small s linked b false (content_.Simple m) rest last vs 0
        by false = (spelled (space_at (parts_of s) m) v, v, ef, ev, text-given s linked M depth small m words encoded v accepts, is)
        by true = (v, ef, ev, (spelled (space_at (parts_of s) m) v, text-given s linked M depth small m words encoded v accepts, is))

    mixed-read : (p : Rose ParticleLabel) (texts : Rose ValueLabel) (numbers : List ℕ) (gs : List Child) (vs : Roses Plain) → IsNoAll (seen p) → AreThose s true (seen p) ts texts gs vs → front ≡ true ∷ [] → first ≡ texts ∷ []
        → ChildrenMade nillable (seen p) gs rest last → RestRead nillable not_nil (content_.Mixed p) numbers vs front rest first last
    mixed-read p texts numbers gs vs no_all those ef ev made =
        let plain = no-all-plain (seen p) no_all in
        let around = those.mixed_is refl in
        let bs = those.items in
        let long = length_all-roses_of bs in
        let many = around.many in
        let enough : length around.words ≡ suc (length_all (roses_of bs)) = omega (arith, long, many) in
        let together = puts_together around.words (roses_of bs) (elements-kept s (levels_all ts) gs bs those.kept) enough in
        let between : texts_between vs ≡ around.words = ap texts_between around.is ∙ together.1 in
        let xml : All IsXml around.words = subst (λ w. All IsXml w) between (between-xml vs (kids-xml asks M E depth small ts sound those.leaves_are vs those.valid)) in
        record {
          nil = false;
          kids = roses_of bs;
          count = length bs;
          texts = around.words;
          flags = [];
          rest_as = (children-rest nillable p gs bs rest last those.named (gifts (levels_all ts) within gs bs those.kept) made).1;
          texts_in = texts-in around.words xml texts around.texts_are (length bs + 1) (omega (arith, many)) front first ef ev;
          told = λ is. never (sym plain ∙ is);
          whole = λ xs. ap (λ b. with_texts true around.words (with_order b [] numbers (given xs (roses_of bs)))) plain ∙ ap (λ z. given xs z) (sym around.is);
        }

    plain-read : (p : Rose ParticleLabel) (texts : Rose ValueLabel) (numbers : List ℕ) (gs : List Child) (vs : Roses Plain) → IsNoAll (seen p) → AreThose s false (seen p) ts texts gs vs → front ≡ [] → first ≡ []
        → ChildrenMade nillable (seen p) gs rest last → RestRead nillable not_nil (content_.ElementOnly p) numbers vs front rest first last
    plain-read p texts numbers gs vs no_all those ef ev made =
        let plain = no-all-plain (seen p) no_all in
        let bs = those.items in
        record {
          nil = false;
          kids = roses_of bs;
          count = length bs;
          texts = [];
          flags = [];
          rest_as = (children-rest nillable p gs bs rest last those.named (gifts (levels_all ts) within gs bs those.kept) made).0;
          texts_in = (ef, ev);
          told = λ is. never (sym plain ∙ is);
          whole = λ xs. ap (λ b. with_order b [] numbers (given xs (roses_of bs))) plain ∙ ap (λ z. given xs z) (sym (those.plain_is refl));
        }

    -- what is told of an all
    ordered-told : (p : Rose ParticleLabel) (numbers : List ℕ) (fs : List Bool) (gs : List Child) → is_all (seen p) ≡ true → AreJustSet numbers fs → FlagsIn nillable false fs rest last
        → OrderedMade nillable (seen p) fs gs rest last → IsTold nillable false (count_elements (seen p)) numbers fs rest last
    ordered-told p numbers fs gs all just flags made = record {
      just = just;
      below = subst (λ n. AllByRecursion (λ i. i < n) numbers) (ordered-many nillable (seen p) fs gs rest last all made) (numbers-below fs numbers just);
      flags_are = flags;
    }

    mixed-ordered : (p : Rose ParticleLabel) (texts : Rose ValueLabel) (numbers : List ℕ) (fs : List Bool) (gs : List Child) (vs : Roses Plain) → is_all (seen p) ≡ true
        → AreOrdered s true (seen p) ts texts numbers fs gs vs → front ≡ true ∷ [] → first ≡ texts ∷ []
        → OrderedMade nillable (seen p) fs gs rest last → RestRead nillable not_nil (content_.Mixed p) numbers vs front rest first last
    mixed-ordered p texts numbers fs gs vs all those ef ev made =
        let around = those.mixed_is refl in
        let bs = those.items in
        let told = taken (slots fs bs) numbers in
        let same : in_order fs numbers bs ≡ told = in_order-whole fs numbers bs (sym those.many) in
        let as_many : length told ≡ length bs = ap length (sym same) ∙ length_permutation bs (in_order fs numbers bs) (in_order-permutes fs numbers bs those.just) in
        let long = length_all-roses_of told in
        let many = around.many in
        let enough : length around.words ≡ suc (length_all (roses_of told)) = omega (arith, long, many) in
        let elements = elements-kept s (levels_all ts) gs bs those.kept in
        let together = puts_together around.words (roses_of told) (subst (λ z. AllElements (roses_of z)) same (told-elements fs numbers bs elements)) enough in
        let between : texts_between vs ≡ around.words = ap texts_between around.is ∙ together.1 in
        let xml : All IsXml around.words = subst (λ w. All IsXml w) between (between-xml vs (kids-xml asks M E depth small ts sound those.leaves_are vs those.valid)) in
        let rests = ordered-rest nillable p fs gs bs rest last those.named (gifts (levels_all ts) within gs bs those.kept) made in
        record {
          nil = false;
          kids = roses_of bs;
          count = length bs;
          texts = around.words;
          flags = fs;
          rest_as = rests.1;
          texts_in = texts-in around.words xml texts around.texts_are (length bs + 1) (omega (arith, many, as_many)) front first ef ev;
          told = λ is. ordered-told p numbers fs gs all those.just rests.2 made;
          whole = λ xs. ap (λ b. with_texts true around.words (with_order b fs numbers (given xs (roses_of bs)))) all
              ∙ ap (λ z. given xs (interleaved around.words z)) (in-order fs numbers bs elements ∙ ap roses_of same) ∙ ap (λ z. given xs z) (sym around.is);
        }

    plain-ordered : (p : Rose ParticleLabel) (texts : Rose ValueLabel) (numbers : List ℕ) (fs : List Bool) (gs : List Child) (vs : Roses Plain) → is_all (seen p) ≡ true
        → AreOrdered s false (seen p) ts texts numbers fs gs vs → front ≡ [] → first ≡ []
        → OrderedMade nillable (seen p) fs gs rest last → RestRead nillable not_nil (content_.ElementOnly p) numbers vs front rest first last
    plain-ordered p texts numbers fs gs vs all those ef ev made =
        let bs = those.items in
        let same : in_order fs numbers bs ≡ taken (slots fs bs) numbers = in_order-whole fs numbers bs (sym those.many) in
        let elements = elements-kept s (levels_all ts) gs bs those.kept in
        let rests = ordered-rest nillable p fs gs bs rest last those.named (gifts (levels_all ts) within gs bs those.kept) made in
        record {
          nil = false;
          kids = roses_of bs;
          count = length bs;
          texts = [];
          flags = fs;
          rest_as = rests.0;
          texts_in = (ef, ev);
          told = λ is. ordered-told p numbers fs gs all those.just rests.2 made;
          whole = λ xs. ap (λ b. with_order b fs numbers (given xs (roses_of bs))) all
              ∙ ap (λ z. given xs z) (in-order fs numbers bs elements ∙ ap roses_of same ∙ sym (those.plain_is refl));
        }

    ordered-moved : (q : Particle) (model : Rose ParticleLabel) (fs : List Bool) (gs : List Child) → q ≡ seen model → OrderedMade nillable (seen model) fs gs rest last → OrderedMade nillable q fs gs rest last
    ordered-moved q model fs gs e h = subst (λ z. OrderedMade nillable z fs gs rest last) (sym e) h

    content-read : (c : schema.Content) (texts : Rose ValueLabel) (numbers : List ℕ) (r : Beside) (vs : Roses Plain) → IsContentBy s (inside_of (parts_of s) c) ts texts numbers r vs
        → TextsMade (inside_of (parts_of s) c) texts front first → RestMade nillable r rest last → RestRead nillable not_nil c numbers vs front rest first last
    content-read content_.Empty texts numbers held.nil vs h t o = absurd h
    content-read content_.Empty texts numbers (held.text v) vs h t o = absurd h
    content-read content_.Empty texts numbers (held.children model gs) vs h t o = absurd h
    content-read content_.Empty texts numbers (held.ordered model fs gs) vs h t o = absurd h
    content-read content_.Empty texts numbers held.nothing vs h t o = record {
      nil = false;
      kids = rose.none;
      count = 0;
      texts = [];
      flags = [];
      rest_as = nothing-rest nillable rest last o;
      texts_in = t;
      told = λ is. never is;
      whole = λ xs. ap (λ z. given xs z) (sym h.1);
    }
    content-read (content_.Simple m) texts numbers held.nil vs h t o = absurd h
    content-read (content_.Simple m) texts numbers held.nothing vs h t o = absurd h
    content-read (content_.Simple m) texts numbers (held.children model gs) vs h t o = absurd h
    content-read (content_.Simple m) texts numbers (held.ordered model fs gs) vs h t o = absurd h
    content-read (content_.Simple m) texts numbers (held.text v) vs (words, only, accepts, is) t o = record {
      nil = false;
      kids = vs;
      count = 0;
      texts = [];
      flags = [];
      rest_as = text-rest m v vs words (only-utf8 ts sound words only) accepts (is ∙ kids-text (spelled (space_at (parts_of s) m) v)) o.0 o.1;
      texts_in = t;
      told = λ is. never is;
      whole = λ xs. refl;
    }
    content-read (content_.ElementOnly p) texts numbers held.nil vs h t o = absurd h
    content-read (content_.ElementOnly p) texts numbers held.nothing vs h t o = absurd h
    content-read (content_.ElementOnly p) texts numbers (held.text v) vs h t o = absurd h
    content-read (content_.ElementOnly p) texts numbers (held.children model gs) vs h t o =
        plain-read p texts numbers gs vs h.1 h.2 t.0 t.1 (children-made (seen p) model gs h.0 o)
    content-read (content_.ElementOnly p) texts numbers (held.ordered model fs gs) vs h t o =
        plain-ordered p texts numbers fs gs vs h.1 h.2 t.0 t.1 (ordered-moved (seen p) model fs gs h.0 o)
    content-read (content_.Mixed p) texts numbers held.nil vs h t o = absurd h
    content-read (content_.Mixed p) texts numbers held.nothing vs h t o = absurd h
    content-read (content_.Mixed p) texts numbers (held.text v) vs h t o = absurd h
    content-read (content_.Mixed p) texts numbers (held.children model gs) vs h t o =
        mixed-read p texts numbers gs vs h.1 h.2 t.0 t.1 (children-made (seen p) model gs h.0 o)
    content-read (content_.Mixed p) texts numbers (held.ordered model fs gs) vs h t o =
        mixed-ordered p texts numbers fs gs vs h.1 h.2 t.0 t.1 (ordered-moved (seen p) model fs gs h.0 o)

    rest-read : (c : schema.Content) (n : Nil) (o : Option (List ℕ)) → nil_by nillable o ≡ n → (content : Held) (vs : Roses Plain) → ReadBy s n (inside_of (parts_of s) c) ts content vs
        → TextsMade (inside_of (parts_of s) c) (texts_of content) front first → RestMade nillable content.rest rest last → RestRead nillable n c content.order vs front rest first last
    rest-read c bad_nil o e content vs h t m = absurd h
    rest-read c is_nil o e content vs h t m = nil-read nillable (nil-nillable nillable o e) c content vs h.0 h.1 front rest first last t m
    rest-read c not_nil o e content vs h t m = content-read c (texts_of content) content.order content.rest vs h t m

  -- ---- elements

  module _ (xs : List (Name × List ℕ)) (sound_attributes : are_sound_attributes xs ≡ true) (ts : Roses ItemLabel) (sound : are_sound ts ≡ true) (within : suc depth + levels_all ts ≤ 65)
      (n : Nil) (content : Held) (vs : Roses Plain) (v : Rose ValueLabel) (u : Rose TypeLabel)
    where
      -- the value fits, and gives the treated attributes and these kids
      abbrev IsRight : Asked → Type 0
      IsRight a = FitsAt M depth u v × (inside M u v ≡ given (with_nil n (treated_attributes a.attributes (left xs))) vs)

      complex-right : (nillable : Bool) (c : ComplexDef) → (is_ordered c.content ≡ true → IsContent s c.content) → All (HasStandard s) c.uses → (a : Asked) → a ≡ asked nillable (map own c.uses) (inside_of (parts_of s) c.content) → HasComplex E s M nillable c (resolve M u) → AllStand a.attributes (left xs)
          → nil_of a.nillable xs ≡ n → ReadBy s n a.inside ts content vs → ComplexMade a xs content v → IsRight a
      complex-right nillable c ok standards a e has stand nil h made = subst IsRight (sym e) (go (subst (λ b. AllStand b.attributes (left xs)) e stand) (subst (λ b. nil_of b.nillable xs ≡ n) e nil) (subst (λ b. ReadBy s n b.inside ts content vs) e h) (subst (λ b. ComplexMade b xs content v) e made))
        where
          go : AllStand (map own c.uses) (left xs) → nil_of nillable xs ≡ n → ReadBy s n (inside_of (parts_of s) c.content) ts content vs
              → ComplexMade (asked nillable (map own c.uses) (inside_of (parts_of s) c.content)) xs content v → IsRight (asked nillable (map own c.uses) (inside_of (parts_of s) c.content))
          go stand nil h made =
              let ys = treated_attributes (map own c.uses) (left xs) in
              let attributes = attributes-in (left xs) (left-encoded xs sound_attributes) c.uses standards stand made.flags made.values made.attributes in
              let r = rest-read nillable ts sound within made.text_flags made.rest_flags made.text_values made.rest_values c.content n (text_of xs xsi_nil) nil content vs h made.texts made.others in
              let all = complex-made M E N depth small s linked nillable c ok u has r.nil r.kids r.count ys r.texts content.order r.flags made.text_flags made.order_flags made.flags made.rest_flags
              made.text_values made.order_values made.values made.rest_values r.texts_in (order-made (parts_of s) c.content content.order made.order_flags made.order_values made.order) attributes r.rest_as r.told in
              subst (λ w. FitsAt M depth u w × (inside M u w ≡ given (with_nil n ys) vs)) (sym made.is) (all.0, all.1 ∙ r.whole ys)

      -- an element of a simple type that can't be nil
      plain-right : (m : ℕ) (a : Asked) → a ≡ asked false [] (ask.simple (space_at (parts_of s) m)) → IsSimpleOf s m (resolve M u) → nil_of a.nillable xs ≡ n → ReadBy s n a.inside ts content vs
          → IsMadeBy true content.rest v (ComplexMade a xs content v) → IsRight a
      plain-right m a e has nil h made = subst IsRight (sym e) (by n refl (subst (λ b. nil_of b.nillable xs ≡ n) e nil) (subst (λ b. ReadBy s n b.inside ts content vs) e h))
        where
          text-right : (k : Nil) (r : Beside) → k ≡ not_nil → IsContentBy s (ask.simple (space_at (parts_of s) m)) ts (texts_of content) content.order r vs → IsMadeBy true r v (ComplexMade a xs content v)
              → FitsAt M depth u v × (inside M u v ≡ given (with_nil k []) vs)
          text-right k held.nil q h made = absurd h
          text-right k held.nothing q h made = absurd h
          text-right k (held.children model gs) q h made = absurd h
          text-right k (held.ordered model fs gs) q h made = absurd h
          text-right k (held.text w) q (words, only, accepts, is) made =
              let space = space_at (parts_of s) m in
              let one = text-given s linked M depth small m words (only-utf8 ts sound words only) w accepts u has in
              subst (λ z. FitsAt M depth u z × (inside M u z ≡ given (with_nil k []) vs)) (sym made)
              (one.0, one.1 ∙ ap (λ z. given [] z) (sym (is ∙ kids-text (spelled space w))) ∙ ap (λ z. given (with_nil z []) vs) (sym q))

          by : (k : Nil) → k ≡ n → nil_of false xs ≡ n → ReadBy s n (ask.simple (space_at (parts_of s) m)) ts content vs → FitsAt M depth u v × (inside M u v ≡ given (with_nil n []) vs)
          by bad_nil q nil h = absurd (subst (λ z. ReadBy s z (ask.simple (space_at (parts_of s) m)) ts content vs) (sym q) h)
          by is_nil q nil h = absurd (true≢false (sym (nil-nillable false (text_of xs xsi_nil) (nil ∙ sym q))))
          by not_nil q nil h = text-right n content.rest (sym q) (subst (λ z. ReadBy s z (ask.simple (space_at (parts_of s) m)) ts content vs) (sym q) h) made

      kind-right : (d : ℕ) (k : TypeOf) (nillable : Bool) (a : Asked) → a ≡ asked_by_type (parts_of s) nillable k → (plain : Bool) → plain ≡ elim k [ kind.Simple m ↦ not nillable | kind.Complex m ↦ false ]
          → elim k as (λ _. Type 0) [
            | kind.Simple m ↦ MatchBool nillable (HasNillable s M m (resolve M u)) (IsSimpleOf s m (resolve M u))
            | kind.Complex m ↦ IsSomeAnd (slice_get s.complexes m) (λ (c : ComplexDef). HasComplex E s M nillable c (resolve M u))
          ]
          → AllStand a.attributes (left xs) → nil_of a.nillable xs ≡ n → ReadBy s n a.inside ts content vs → IsMadeBy plain content.rest v (ComplexMade a xs content v) → IsRight a
      kind-right d (kind.Simple m) true a e plain p has stand nil h made =
          complex-right true (record { name = None; uses = []; content = content_.Simple m }) (λ e. never e) (All-nil (HasStandard s)) a e has stand nil h
          (made-complex content.rest v (ComplexMade a xs content v) (subst (λ b. IsMadeBy b content.rest v (ComplexMade a xs content v)) p made))
      kind-right d (kind.Simple m) false a e plain p has stand nil h made =
          plain-right m a e has nil h (subst (λ b. IsMadeBy b content.rest v (ComplexMade a xs content v)) p made)
      kind-right d (kind.Complex m) nillable a e plain p has stand nil h made = by (slice_get s.complexes m) refl e has
        where
          by : (o : Option ComplexDef) → slice_get s.complexes m ≡ o → a ≡ asked_by_complex (parts_of s) nillable o → IsSomeAnd o (λ (c : ComplexDef). HasComplex E s M nillable c (resolve M u)) → IsRight a
          by None g e has = absurd has
          by (Some c) g e has =
              complex-right nillable c (λ e. (all-at (IsComplexType s) s.complexes m c g linked.complexes).content) (all-at (IsComplexType s) s.complexes m c g linked.complexes).standards a e has stand nil h
              (made-complex content.rest v (ComplexMade a xs content v) (subst (λ b. IsMadeBy b content.rest v (ComplexMade a xs content v)) p made))

-- what is made of an element that was read
pub made-gives : (s : Set) → IsLinked s → (d : ℕ) (a : Asked) → a ≡ asked_at (parts_of s) d → (xs : List (Name × List ℕ)) → are_sound_attributes xs ≡ true → AllStand a.attributes (left xs)
    → (ts : Roses ItemLabel) → are_sound ts ≡ true → (n : Nil) → nil_of a.nillable xs ≡ n → (content : Held) (vs : Roses Plain) → ReadBy s n a.inside ts content vs
    → (v : Rose ValueLabel) → IsMade (is_plain_at s d) a xs content v → Gives s d (suc (levels_all ts)) v (given (with_nil n (treated_attributes a.attributes (left xs))) vs)
made-gives s linked d a asked_is xs sound_attributes stand ts sound n nil content vs h v made = λ M is_map depth u within type. by M is_map depth u within (slice_get s.elements d) refl type
  where
    by : (M : List Assignment) (is_map : IsMapOf s M) (depth : ℕ) (u : Rose TypeLabel) → depth + suc (levels_all ts) ≤ 65 → (o : Option ElementDecl) → slice_get s.elements d ≡ o
        → IsSomeAnd o (λ (e : ElementDecl). HasContent (IsTypeAt s (place_in is_map.entries)) s M e (resolve M u))
        → FitsAt M depth u v × (inside M u v ≡ given (with_nil n (treated_attributes a.attributes (left xs))) vs)
    by M is_map depth u within None g has = absurd has
    by M is_map depth u within (Some e) g has =
        kind-right s linked M is_map depth (omega (arith, within)) xs sound_attributes ts sound (omega (arith, within)) n content vs v u d e.kind e.nillable a (asked_is ∙ ap (asked_by (parts_of s)) g)
        (is_plain_at s d) (ap is_plain_by g) has stand nil h made
