-- The treated kids of a valid element: texts in UTF-8, and child elements at the leaves of a list of the content model.
use Rattle.std.proofs.Common.{◌≡◌, ℕ, suc, ◌≤◌, ◌&&◌, Bool, true, false, not, Option, Some, None, List, [], ◌∷◌, ◌++◌, length, map, inl, inr, refl, sym, ap, subst, ◌∙◌, arith}
use Rattle.std.specs.Prelude.{All, Ok, Err, IsUtf8, nat_le, if◌then◌else◌}
use Rattle.std.specs.List.{list_all}
use Rattle.std.specs.Str.{chars, is_utf8}
use Rattle.std.proofs.lemmas.Bool.Decides.{leb_tells}
use Rattle.std.proofs.lemmas.List.Elements.{All-nil, All-cons, All-head, All-tail}
use Rattle.std.proofs.lemmas.Str.{IsUtf8-nil, IsUtf8-append, IsUtf8-from_is_utf8, is_utf8-from_IsUtf8, chars-nil}
use Rattle.base_texts.specs.declared.texts.Name.{Name}
use Rattle.base_texts.specs.declared.white_space.WhiteSpace.TheVariants.{Preserve}
use Rattle.base_texts.specs.Characters.{is_xml_char}
use Rattle.base_texts.specs.Limits.{is_empty, has_xml_chars}
use Rattle.base_texts.specs.WhiteSpace.{treated, is_blank}
use Rattle.base_trees.specs.Rose.{Rose, node, Roses, list_of, roses_of, label_of, kids_of, length_all}
use Rattle.base_trees.specs.Rose as rose
use Rattle.simple_types.specs.declared.simples.Class.TheVariants.{Any}
use Rattle.simple_types.specs.declared.labels.ValueLabel.{ValueLabel}
use Rattle.simple_types.specs.declared.labels.ValueLabel.TheVariants as value
use Rattle.simple_types.specs.Space.{Characters}
use Rattle.simple_types.specs.Lexical.{in_class}
use Rattle.simple_types.specs.Reading.{Bad, Reading, has_characters, reads}
use Rattle.content_models.specs.Language.{Leaf}
use Rattle.xml_items.specs.declared.label.ItemLabel.{ItemLabel}
use Rattle.xml_items.specs.declared.label.ItemLabel.TheVariants.{Element, Text}
use Rattle.xml_read.specs.Sound.{is_text, begins_with_text, is_sound_label, is_sound, are_sound, levels, levels_all}
use Rattle.xml_items.specs.Plain.{Plain, element, text}
use Rattle.xml_items.specs.Mixing.{child_elements, behind_first, texts_between, AllElements}
use Rattle.asn_types.specs.declared.modules.Assignment.{Assignment}
use Rattle.asn_types.specs.declared.types.Form.TheVariants as form
use Rattle.asn_types.specs.declared.types.TypeLabel.{TypeLabel}
use Rattle.asn_values.specs.Values.{below, FitsAt}
use Rattle.schema_components.proofs.Truths.{both}
use Rattle.map_assignments.specs.Naming.{type_label}
use Rattle.map_laws.specs.Standing.{AreTexts}
use Rattle.map_laws.proofs.Values.{ItemsFit}
use Rattle.map_laws.proofs.Giving.{list-fits}
use Rattle.xer_items.specs.Items.{element_of, inside}
use Rattle.validity_rules.specs.Asked.{Asked}
use Rattle.validity_rules.specs.Valid.{put_before, only_text, Between, ValidBy, KidsValid}
use Rattle.value_laws.proofs.Mixed.{text_in}
use Rattle.value_laws.proofs.Accepted.{accepted-fits}
use Rattle.value_laws.proofs.Filling.{Gift, leaf_of, items_of, IsMade, AreMade}

-- ---- what is sound of the first of some items

record FirstSound (label : ItemLabel) (kids items : Roses ItemLabel) : Type 0 where
  pub own : is_sound (node label kids) ≡ true
  pub label_is : is_sound_label label ≡ true
  pub kids_are : are_sound kids ≡ true
  pub others : are_sound items ≡ true

first-sound : (label : ItemLabel) (kids items : Roses ItemLabel) → are_sound (rose.more (node label kids) items) ≡ true → FirstSound label kids items
first-sound label kids items e =
    let parts = both (is_sound (node label kids) && not (is_text label && begins_with_text items)) (are_sound items) e in
    let own = (both (is_sound (node label kids)) (not (is_text label && begins_with_text items)) parts.0).0 in
    let here = both (is_sound_label label) (are_sound kids) own in
    record { own = own; label_is = here.0; kids_are = here.1; others = parts.1 }

text-xml : (words : List ℕ) (at : ℕ) → is_sound_label (Text words at) ≡ true → has_xml_chars words ≡ true
text-xml words at e = (both (not (is_empty words)) (has_xml_chars words) e).1

xml-utf8 : (words : List ℕ) → has_xml_chars words ≡ true → IsUtf8 words
xml-utf8 words e = IsUtf8-from_is_utf8 words (both (is_utf8 words) (list_all is_xml_char (chars words)) e).0

-- ---- the text of simple content

put-utf8 : (words : List ℕ) (o : Option (List ℕ)) (all : List ℕ) → IsUtf8 words → ((others : List ℕ) → o ≡ Some others → IsUtf8 others) → put_before words o ≡ Some all → IsUtf8 all
put-utf8 words None all u f e = absurd (cc)
put-utf8 words (Some others) all u f e = let same : words ++ others ≡ all = cc in subst IsUtf8 same (IsUtf8-append words others u (f others refl))

pub only-utf8 : (ts : Roses ItemLabel) → are_sound ts ≡ true → (words : List ℕ) → only_text ts ≡ Some words → IsUtf8 words
only-utf8 rose.none sound words e = let same : [] ≡ words = cc in subst IsUtf8 same IsUtf8-nil
only-utf8 (rose.more (node (Element name xs declares at) ks) ts) sound words e = absurd (cc)
only-utf8 (rose.more (node (Text one at) ks) ts) sound words e =
    let parts = first-sound (Text one at) ks ts sound in
    put-utf8 one (only_text ts) words (xml-utf8 one (text-xml one at parts.label_is)) (λ others q. only-utf8 ts parts.others others q) e

-- ---- texts between child elements are of XML characters

abbrev pub IsXml : List ℕ → Type 0
IsXml words = has_xml_chars words ≡ true

nothing-xml : IsXml []
nothing-xml =
    let bytes : is_utf8 [] ≡ true = is_utf8-from_IsUtf8 [] IsUtf8-nil in
    let chars_are : list_all is_xml_char (chars []) ≡ true = ap (list_all is_xml_char) chars-nil in
    ap (λ b. b && list_all is_xml_char (chars [])) bytes ∙ chars_are

abbrev TextsXml : Roses Plain → Type 0
TextsXml rose.none = Unit {0}
TextsXml (rose.more item items) = elim (label_of item) as (λ _. Type 0) [ element name attributes ↦ Unit {0} | text words ↦ IsXml words ] × TextsXml items

behind-xml : (texts : List (List ℕ)) → All IsXml texts → All IsXml (behind_first texts)
behind-xml [] h = All-nil IsXml
behind-xml (words ∷ texts) h = All-tail IsXml words texts h

pub between-xml : (us : Roses Plain) → TextsXml us → All IsXml (texts_between us)
between-xml rose.none h = All-cons IsXml [] [] nothing-xml (All-nil IsXml)
between-xml (rose.more (node (element name attributes) ks) us) h = All-cons IsXml [] (texts_between us) nothing-xml (between-xml us h.1)
between-xml (rose.more (node (text words) ks) us) h = All-cons IsXml words (behind_first (texts_between us)) h.0 (behind-xml (texts_between us) (between-xml us h.1))

pub elements-alone : (us : Roses Plain) → AllElements us → child_elements us ≡ us
elements-alone rose.none h = refl
elements-alone (rose.more (node (element name attributes) ks) us) h = ap (λ z. rose.more (node (element name attributes) ks) z) (elements-alone us h.1)
elements-alone (rose.more (node (text words) ks) us) h = absurd h.0

-- ---- a value for texts

zero-below : (n : ℕ) → nat_le 0 n ≡ true
zero-below n = elim (leb_tells 0 n) [ inl x ↦ x.0 | inr x ↦ absurd (omega (arith, x.1)) ]

abbrev pub text_value : List ℕ → Rose ValueLabel
text_value words = node (value.Utf8 words) rose.none

abbrev pub texts_value : List (List ℕ) → Rose ValueLabel
texts_value texts = node value.SequenceOf (roses_of (map text_value texts))

module _ (M : List Assignment) (depth : ℕ) (small : depth ≤ 64) where
  abbrev text_type : Rose TypeLabel
  text_type = node (type_label (form.Utf8 0 None Any) []) rose.none

  abbrev answer : List ℕ → Bool → Reading
  answer words b = if b then Ok (text_value words) else Err Bad

  within-all : (a b : Bool) → a ≡ true → b ≡ true → (a && b && true && true) ≡ true
  within-all true true e f = refl
  within-all true false e f = absurd (cc)
  within-all false b e f = absurd (cc)

  text-read : (words : List ℕ) → IsXml words → reads (Characters Preserve 0 None Any) words ≡ Ok (text_value words)
  unfolding reads treated in_class
  text-read words e =
      let xml : list_all is_xml_char (chars words) ≡ true = (both (is_utf8 words) (list_all is_xml_char (chars words)) e).1 in
      let has : has_characters 0 None Any words ≡ true = within-all (list_all is_xml_char (chars words)) (nat_le 0 (length (chars words))) xml (zero-below (length (chars words))) in
      ap (answer words) has

  text-fits : (words : List ℕ) → IsXml words → FitsAt M depth text_type (text_value words)
  text-fits words e = accepted-fits M depth small (Characters Preserve 0 None Any) tt words (text_value words) (xml-utf8 words e) (text-read words e) text_type refl

  texts-fit : (u : Rose TypeLabel) (are : AreTexts u) (texts : List (List ℕ)) → All IsXml texts
      → ItemsFit M depth (type_label (form.SequenceOf are.item 0 None) []) are.item text_type (roses_of (map text_value texts))
  texts-fit u are [] h = tt
  texts-fit u are (words ∷ texts) h =
      (subst (λ r. FitsAt M (below r depth) text_type (text_value words)) (sym are.is.role) (text-fits words (All-head IsXml words texts h)), texts-fit u are texts (All-tail IsXml words texts h))

  texts-in : (texts : List (List ℕ)) → map text_in (list_of (roses_of (map text_value texts))) ≡ texts
  texts-in [] = refl
  texts-in (words ∷ texts) = ap (λ z. words ∷ z) (texts-in texts)

  pub texts-fitting : (texts : List (List ℕ)) → All IsXml texts → ((u : Rose TypeLabel) → AreTexts u → FitsAt M depth u (texts_value texts)) × (map text_in (kids_of (texts_value texts)) ≡ texts)
  texts-fitting texts h = (
    λ u are. subst (λ x. FitsAt M depth x (texts_value texts)) (sym are.type)
        (list-fits M depth small are.item text_type 0 None (roses_of (map text_value texts)) (zero-below (length_all (roses_of (map text_value texts)))) refl (are.is.free refl) (texts-fit u are texts h)),
    texts-in texts,
  )

  -- so many texts have a value of each type of texts
  pub texts-given : (texts : List (List ℕ)) → All IsXml texts → (v : Rose ValueLabel) × ((u : Rose TypeLabel) → AreTexts u → FitsAt M depth u v) × (map text_in (kids_of v) ≡ texts)
  texts-given texts h = let fits = texts-fitting texts h in (texts_value texts, fits.0, fits.1)

-- ---- kids

module _ (asks : ℕ → Asked) (M : List Assignment) (E : ℕ → Rose TypeLabel → Type 0) (depth : ℕ) (small : depth ≤ 64) where
  -- an element that is valid for the declaration has values of each type there, one level deeper
  abbrev pub Exists : ℕ → Name → Rose Plain → Type 0
  Exists d name b = (u : Rose TypeLabel) → E d u → (v : Rose ValueLabel) × FitsAt M (suc depth) u v × (element_of name (inside M u v) ≡ b)

  abbrev pub AllExist : ℕ → Type 0
  AllExist high =
      (name : Name) (xs : List (Name × List ℕ)) (declares : List (List ℕ × List ℕ)) (at : ℕ) (ks : Roses ItemLabel)
      → is_sound (node (Element name xs declares at) ks) ≡ true → levels (node (Element name xs declares at) ks) ≤ high
      → (d : ℕ) (b : Rose Plain) → ValidBy asks d (node (Element name xs declares at) ks) b → Exists d name b

  -- the child elements stand at these leaves
  pub record KidsGiven (w : List Leaf) (us : Roses Plain) : Type 0 where
    pub gifts : List Gift
    pub fit : AreMade M E depth small gifts
    pub leaves : map leaf_of gifts ≡ w
    pub items : child_elements us ≡ items_of gifts

  no-gifts : (w : List Leaf) (us : Roses Plain) → w ≡ [] → us ≡ rose.none → KidsGiven w us
  no-gifts w us e f = record { gifts = []; fit = All-nil (IsMade M E depth small); leaves = sym e; items = ap child_elements f }

  behind-text : (mixed blank : Bool) (words : List ℕ) (w : List Leaf) (vs us : Roses Plain) → Between mixed blank words vs us → KidsGiven w vs → KidsGiven w us
  behind-text true blank words w vs us h rest = record { gifts = rest.gifts; fit = rest.fit; leaves = rest.leaves; items = ap child_elements h ∙ rest.items }
  behind-text false blank words w vs us h rest = record { gifts = rest.gifts; fit = rest.fit; leaves = rest.leaves; items = ap child_elements h.1 ∙ rest.items }

  element-kept : (d : ℕ) (name : Name) (xs : List (Name × List ℕ)) (declares : List (List ℕ × List ℕ)) (at : ℕ) (ks : Roses ItemLabel) (b : Rose Plain) (vs : Roses Plain)
      → ValidBy asks d (node (Element name xs declares at) ks) b → child_elements (rose.more b vs) ≡ rose.more b (child_elements vs)
  element-kept d name xs declares at ks b vs h = subst (λ c. child_elements (rose.more c vs) ≡ rose.more c (child_elements vs)) (sym h.1) refl

  pub kids-given : (high : ℕ) → AllExist high → (ts : Roses ItemLabel) → are_sound ts ≡ true → levels_all ts ≤ high → (mixed : Bool) (w : List Leaf) (us : Roses Plain) → KidsValid asks mixed ts w us → KidsGiven w us
  kids-given high f rose.none sound within mixed w us h = no-gifts w us h.0 h.1
  kids-given high f (rose.more (node (Text words at) ks) ts) sound within mixed w us (vs, h, b) =
      let parts = first-sound (Text words at) ks ts sound in
      behind-text mixed (is_blank words) words w vs us b (kids-given high f ts parts.others (omega (arith, within)) mixed w vs h)
  kids-given high f (rose.more (node (Element name xs declares at) ks) ts) sound within mixed w us (l, v, b, vs, ew, eu, nm, val, h) =
      let parts = first-sound (Element name xs declares at) ks ts sound in
      let rest = kids-given high f ts parts.others (omega (arith, within)) mixed v vs h in
      let one = f name xs declares at ks parts.own (omega (arith, within)) l.decl b val in
      let here : Gift = record { leaf = l; item = b } in
      record {
        gifts = here ∷ rest.gifts;
        fit = All-cons (IsMade M E depth small) here rest.gifts (λ u e. subst (λ n. (x : Rose ValueLabel) × FitsAt M (suc depth) u x × (element_of n (inside M u x) ≡ b)) (sym nm) (one u e)) rest.fit;
        leaves = ap (λ z. l ∷ z) rest.leaves ∙ sym ew;
        items = ap child_elements eu ∙ element-kept l.decl name xs declares at ks b vs val ∙ ap (λ z. rose.more b z) rest.items;
      }

  texts-xml-at : (mixed blank : Bool) (words : List ℕ) (vs us : Roses Plain) → mixed ≡ true → IsXml words → Between mixed blank words vs us → TextsXml vs → TextsXml us
  texts-xml-at true blank words vs us m x h rest = subst TextsXml (sym h) (x, rest)
  texts-xml-at false blank words vs us m x h rest = absurd (cc)

  element-xml : (d : ℕ) (name : Name) (xs : List (Name × List ℕ)) (declares : List (List ℕ × List ℕ)) (at : ℕ) (ks : Roses ItemLabel) (b : Rose Plain) (vs : Roses Plain)
      → ValidBy asks d (node (Element name xs declares at) ks) b → TextsXml vs → TextsXml (rose.more b vs)
  element-xml d name xs declares at ks b vs h rest = subst (λ c. TextsXml (rose.more c vs)) (sym h.1) (tt, rest)

  pub kids-xml : (ts : Roses ItemLabel) → are_sound ts ≡ true → (w : List Leaf) (us : Roses Plain) → KidsValid asks true ts w us → TextsXml us
  kids-xml rose.none sound w us h = subst TextsXml (sym h.1) tt
  kids-xml (rose.more (node (Text words at) ks) ts) sound w us (vs, h, b) =
      let parts = first-sound (Text words at) ks ts sound in
      texts-xml-at true (is_blank words) words vs us refl (text-xml words at parts.label_is) b (kids-xml ts parts.others w vs h)
  kids-xml (rose.more (node (Element name xs declares at) ks) ts) sound w us (l, v, b, vs, ew, eu, nm, val, h) =
      let parts = first-sound (Element name xs declares at) ks ts sound in
      subst TextsXml (sym eu) (element-xml l.decl name xs declares at ks b vs val (kids-xml ts parts.others v vs h))
