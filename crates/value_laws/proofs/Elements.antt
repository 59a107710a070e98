-- A valid element of a type has a value of it that gives the element's treated attributes and kids.
use Rattle.std.proofs.Common.{◌≡◌, ℕ, ◌+◌, ◌≤◌, ◌&&◌, Bool, true, false, Option, Some, None, List, [], ◌∷◌, length, map, refl, sym, ap, subst, ◌∙◌, arith}
use Rattle.std.specs.Prelude.{All, Ok, Err, IsUtf8}
use Rattle.std.specs.List.{list_all}
use Rattle.std.proofs.lemmas.List.{length-map}
use Rattle.std.proofs.lemmas.List.Elements.{All-nil}
use Rattle.base_texts.specs.declared.texts.Name.{Name}
use Rattle.base_trees.specs.Rose.{Rose, node, Roses, length_all}
use Rattle.base_trees.specs.Rose as rose
use Rattle.base_trees.proofs.Roses.{length_all-roses_of}
use Rattle.simple_types.specs.Space.{Space}
use Rattle.simple_types.specs.declared.labels.ValueLabel.{ValueLabel}
use Rattle.simple_types.specs.Reading.{Reading, reads, spelled}
use Rattle.content_models.specs.Language.{Lang}
use Rattle.content_models.specs.Seen.{seen}
use Rattle.xml_items.specs.declared.label.ItemLabel.{ItemLabel}
use Rattle.xml_items.specs.declared.label.ItemLabel.TheVariants.{Element}
use Rattle.xml_read.specs.Sound.{is_sound_name, are_sound_attributes, is_sound_binding, is_sound, are_sound, levels_all}
use Rattle.xml_items.specs.Plain.{Plain, element}
use Rattle.xml_items.specs.Mixing.{text_before, child_elements, texts_between}
use Rattle.xml_items.proofs.Mixing.{takes_apart}
use Rattle.asn_types.specs.declared.modules.Assignment.{Assignment}
use Rattle.asn_types.specs.declared.types.TypeLabel.{TypeLabel}
use Rattle.asn_types.specs.Refs.{resolve}
use Rattle.asn_values.specs.Values.{text_count, FitsAt}
use Rattle.schema_components.specs.declared.components.ComplexDef.{ComplexDef}
use Rattle.schema_components.specs.declared.components.Content.{Content}
use Rattle.schema_components.specs.declared.components.Content.TheVariants as content_
use Rattle.schema_components.specs.Components.{Set}
use Rattle.schema_components.specs.Linked.{HasStandard, IsContent, IsLinked}
use Rattle.schema_components.specs.SetParts.{parts_of}
use Rattle.schema_components.proofs.Truths.{both}
use Rattle.map_assignments.specs.Planning.{is_mixed}
use Rattle.map_laws.specs.Standing.{HasComplex}
use Rattle.xer_items.specs.Items as items
use Rattle.xer_items.specs.Items.{given, with_texts, element_of, inside}
use Rattle.validity_rules.specs.Asked.{Asked, asked, space_at, attribute_in, inside_of}
use Rattle.validity_rules.specs.Asked as ask
use Rattle.validity_rules.specs.Attributes.{Nil, not_nil, is_nil, bad_nil, nil_by, nil_of, xsi_type, xsi_nil, text_of, left, AllRight, AllStand, treated_attributes, with_nil}
use Rattle.validity_rules.specs.Valid.{only_text, text_kids, Spells, treated_element, ValidBy}
use Rattle.validity_rules.proofs.Again.{IsFair}
use Rattle.validity_rules.proofs.Mixed.{treated_kids}
use Rattle.validity_rules.proofs.Treated.{declared_each}
use Rattle.validity_rules.proofs.Unique.{ContentValid, NilValid}
use Rattle.value_laws.proofs.Texts.{left-encoded, text-given, attributes-given}
use Rattle.value_laws.proofs.Filling.{item_of, RestGiven, TextsGiven, complex-fills}
use Rattle.value_laws.proofs.Kids.{IsXml, only-utf8, between-xml, elements-alone, texts-given, AllExist, kids-given, kids-xml}

pub nil-nillable : (nillable : Bool) (o : Option (List ℕ)) → nil_by nillable o ≡ is_nil → nillable ≡ true
nil-nillable true o e = refl
nil-nillable false None e = absurd (cc)
nil-nillable false (Some x) e = absurd (cc)

pub kids-text : (words : List ℕ) → text_kids words ≡ text_before words rose.none
kids-text [] = refl
kids-text (b ∷ bs) = refl

-- the text of simple content, read
record IsRead (space : Space) (ks : Roses ItemLabel) (vs : Roses Plain) : Type 0 where
  pub text : List ℕ
  pub encoded : IsUtf8 text
  pub value : Rose ValueLabel
  pub read : reads space text ≡ Ok value
  pub kids : vs ≡ text_before (spelled space value) rose.none

read-text : (space : Space) (ks : Roses ItemLabel) (vs : Roses Plain) → are_sound ks ≡ true → (words : List ℕ) → only_text ks ≡ Some words → Spells space (reads space words) vs → IsRead space ks vs
read-text space ks vs sound words only h = by (reads space words) refl h
  where
    by : (r : Reading) → reads space words ≡ r → Spells space r vs → IsRead space ks vs
    by (Err why) e k = absurd k
    by (Ok v) e k = record { text = words; encoded = only-utf8 ks sound words only; value = v; read = e; kids = k ∙ kids-text (spelled space v) }

-- what is sound of an element
pub attributes-sound : (name : Name) (xs : List (Name × List ℕ)) (declares : List (List ℕ × List ℕ)) (at : ℕ) (ks : Roses ItemLabel) → is_sound (node (Element name xs declares at) ks) ≡ true
    → (are_sound_attributes xs ≡ true) × (are_sound ks ≡ true)
attributes-sound name xs declares at ks e =
    let parts = both (is_sound_name name && are_sound_attributes xs && list_all is_sound_binding declares) (are_sound ks) e in
    let front = both (is_sound_name name && are_sound_attributes xs) (list_all is_sound_binding declares) parts.0 in
    ((both (is_sound_name name) (are_sound_attributes xs) front.0).1, parts.1)

module _ (s : Set) (linked : IsLinked s) (M : List Assignment) (E : ℕ → Rose TypeLabel → Type 0) (depth : ℕ) (small : depth ≤ 64) (asks : ℕ → Asked) where
  -- a value of the type that gives the element
  abbrev pub Found : Rose TypeLabel → Name → Rose Plain → Type 0
  Found u name b = (v : Rose ValueLabel) × FitsAt M depth u v × (element_of name (inside M u v) ≡ b)

  -- what the element is, by what is asked of it
  abbrev ValidAs : Asked → Name → List (Name × List ℕ) → Roses ItemLabel → Rose Plain → Type 0
  ValidAs a name xs ks b =
      (vs : Roses Plain) × (b ≡ treated_element a name xs vs) × (text_of xs xsi_type ≡ None)
      × AllRight a.attributes (left xs) × AllStand a.attributes (left xs) × NilValid asks (nil_of a.nillable xs) a.inside ks vs

  valid-as : (d : ℕ) (a : Asked) → asks d ≡ a → (name : Name) (xs : List (Name × List ℕ)) (declares : List (List ℕ × List ℕ)) (at : ℕ) (ks : Roses ItemLabel) (b : Rose Plain)
      → ValidBy asks d (node (Element name xs declares at) ks) b → ValidAs a name xs ks b
  valid-as d a e name xs declares at ks b h = subst (λ z. ValidAs z name xs ks b) e h

  -- ---- simple types

  pub simple-found : (d : ℕ) (space : Space) → asks d ≡ asked false [] (ask.simple space) → (u : Rose TypeLabel)
      → ((text : List ℕ) → IsUtf8 text → (v : Rose ValueLabel) → reads space text ≡ Ok v → FitsAt M depth u v × (inside M u v ≡ given [] (text_before (spelled space v) rose.none)))
      → (name : Name) (xs : List (Name × List ℕ)) (declares : List (List ℕ × List ℕ)) (at : ℕ) (ks : Roses ItemLabel) → is_sound (node (Element name xs declares at) ks) ≡ true
      → (b : Rose Plain) → ValidBy asks d (node (Element name xs declares at) ks) b → Found u name b
  simple-found d space asks_is u f name xs declares at ks sound b h =
      let (vs, eb, plain, right, stand, inner) = valid-as d (asked false [] (ask.simple space)) asks_is name xs declares at ks b h in
      by (nil_of false xs) refl vs eb inner
    where
      by : (n : Nil) → nil_of false xs ≡ n → (vs : Roses Plain) → b ≡ treated_element (asked false [] (ask.simple space)) name xs vs → NilValid asks n (ask.simple space) ks vs → Found u name b
      by bad_nil e vs eb k = absurd k
      by is_nil e vs eb k = absurd (let never = nil-nillable false (text_of xs xsi_nil) e in cc)
      by not_nil e vs eb k =
          let one = read-text space ks vs (attributes-sound name xs declares at ks sound).1 k.0 k.1 k.2 in
          let t = f one.text one.encoded one.value one.read in
          (one.value, t.0, ap (element_of name) (t.1 ∙ ap (λ z. given [] z) (sym one.kids)) ∙ sym (eb ∙ ap (λ n. node (element name (with_nil n [])) vs) e))

  -- ---- complex types

  module _ (nillable : Bool) where
    -- what is given for the content, and that it gives these kids
    record RestFound (n : Nil) (c : Content) (vs : Roses Plain) : Type 0 where
      pub nil : Bool
      pub kids : Roses Plain
      pub count : ℕ
      pub texts : List (List ℕ)
      pub rest : RestGiven M E depth small s linked nillable nil c kids count
      pub texts_given : TextsGiven M E depth small s linked (is_mixed c) (text_count nil count) texts
      pub whole : (xs : List (Name × List ℕ)) → items.with_nil nil (with_texts (is_mixed c) texts (given xs kids)) ≡ given (with_nil n xs) vs

    no-texts : (mixed : Bool) → TextsGiven M E depth small s linked mixed 0 []
    no-texts false = tt
    no-texts true = let t = texts-given M depth small [] (All-nil IsXml) in (t.0, t.1, t.2, refl)

    nothing-put : (mixed : Bool) (xs : List (Name × List ℕ)) → with_texts mixed [] (given xs rose.none) ≡ given xs rose.none
    nothing-put true xs = refl
    nothing-put false xs = refl

    nil-found : (c : Content) (vs : Roses Plain) → nillable ≡ true → vs ≡ rose.none → RestFound is_nil c vs
    nil-found c vs may e = record {
      nil = true;
      kids = rose.none;
      count = 0;
      texts = [];
      rest = (may, refl, refl);
      texts_given = no-texts (is_mixed c);
      whole = λ xs. ap (items.with_nil true) (nothing-put (is_mixed c) xs) ∙ ap (λ z. given (with_nil is_nil xs) z) (sym e);
    }

    module _ (high : ℕ) (exists : AllExist asks M E depth small high) (ks : Roses ItemLabel) (sound : are_sound ks ≡ true) (within : levels_all ks ≤ high) where
      content-found : (c : Content) (vs : Roses Plain) → ContentValid asks (inside_of (parts_of s) c) ks vs → RestFound not_nil c vs
      content-found content_.Empty vs h = record {
        nil = false;
        kids = rose.none;
        count = 0;
        texts = [];
        rest = refl;
        texts_given = tt;
        whole = λ xs. ap (λ z. given xs z) (sym h.1);
      }
      content-found (content_.Simple n) vs h =
          let space = space_at (parts_of s) n in
          let one = read-text space ks vs sound h.0 h.1 h.2 in
          record {
            nil = false;
            kids = vs;
            count = 0;
            texts = [];
            rest = (spelled space one.value, one.value, text-given s linked M depth small n one.text one.encoded one.value one.read, one.kids);
            texts_given = tt;
            whole = λ xs. refl;
          }
      content-found (content_.ElementOnly p) vs h =
          let all = kids-given asks M E depth small high exists ks sound within false h.0 vs h.2 in
          record {
            nil = false;
            kids = vs;
            count = length all.gifts;
            texts = [];
            rest = record {
              gifts = all.gifts;
              fit = all.fit;
              leaves = subst (Lang (seen p) 0 []) (sym all.leaves) h.1;
              kids = sym (elements-alone vs ((treated_kids asks ks h.0 vs sound).1 h.2)) ∙ all.items;
              count = refl;
            };
            texts_given = tt;
            whole = λ xs. refl;
          }
      content-found (content_.Mixed p) vs h =
          let all = kids-given asks M E depth small high exists ks sound within true h.0 vs h.2 in
          let apart = takes_apart vs ((treated_kids asks ks h.0 vs sound).0 h.2) in
          let texts = texts_between vs in
          let given_texts = texts-given M depth small texts (between-xml vs (kids-xml asks M E depth small ks sound h.0 vs h.2)) in
          let many : length_all (child_elements vs) ≡ length all.gifts = ap length_all all.items ∙ length_all-roses_of (map item_of all.gifts) ∙ length-map all.gifts item_of in
          let counted : length texts ≡ length all.gifts + 1 = let e = apart.2 in omega (arith, e, many) in
          record {
            nil = false;
            kids = child_elements vs;
            count = length all.gifts;
            texts = texts;
            rest = record {
              gifts = all.gifts;
              fit = all.fit;
              leaves = subst (Lang (seen p) 0 []) (sym all.leaves) h.1;
              kids = all.items;
              count = refl;
            };
            texts_given = (given_texts.0, given_texts.1, given_texts.2, counted);
            whole = λ xs. ap (λ z. given xs z) apart.0;
          }

      rest-found : (c : Content) (vs : Roses Plain) (n : Nil) (o : Option (List ℕ)) → nil_by nillable o ≡ n → NilValid asks n (inside_of (parts_of s) c) ks vs → RestFound n c vs
      rest-found c vs bad_nil o e h = absurd h
      rest-found c vs is_nil o e h = nil-found c vs (nil-nillable nillable o e) h.1
      rest-found c vs not_nil o e h = content-found c vs h

    pub complex-found : (d : ℕ) (c : ComplexDef) → IsContent s c.content → All (HasStandard s) c.uses → asks d ≡ asked nillable (map (attribute_in (parts_of s)) c.uses) (inside_of (parts_of s) c.content) → IsFair (asks d)
        → (high : ℕ) → AllExist asks M E depth small high → (u : Rose TypeLabel) → HasComplex E s M nillable c (resolve M u)
        → (name : Name) (xs : List (Name × List ℕ)) (declares : List (List ℕ × List ℕ)) (at : ℕ) (ks : Roses ItemLabel) → is_sound (node (Element name xs declares at) ks) ≡ true → levels_all ks ≤ high
        → (b : Rose Plain) → ValidBy asks d (node (Element name xs declares at) ks) b → Found u name b
    complex-found d c ok standards asks_is fair high exists u has name xs declares at ks sound within b h =
        let wanted = map (attribute_in (parts_of s)) c.uses in
        let a = asked nillable wanted (inside_of (parts_of s) c.content) in
        let fair_as : IsFair a = subst IsFair asks_is fair in
        let (vs, eb, plain, right, stand, inner) = valid-as d a asks_is name xs declares at ks b h in
        let soundness = attributes-sound name xs declares at ks sound in
        let ys = treated_attributes wanted (left xs) in
        let attributes = attributes-given s linked M depth small (left xs) wanted right (left-encoded xs soundness.0) c.uses standards (declared_each wanted fair_as.apart) stand in
        let r = rest-found high exists ks soundness.1 within c.content vs (nil_of nillable xs) (text_of xs xsi_nil) refl inner in
        let made = complex-fills M E depth small s linked nillable c ok u has ys attributes r.nil r.kids r.count r.rest r.texts r.texts_given in
        (made.0, made.1, ap (element_of name) (made.2 ∙ r.whole ys) ∙ sym eb)
