-- The strings of mixed content are the texts among its treated kids.
use Rattle.std.proofs.Common.{◌≡◌, ℕ, suc, Bool, true, false, not, ◌&&◌, List, [], ◌∷◌, ◌++◌, length, map, refl, sym, ◌∙◌, ap, subst, arith, append_assoc}
use Rattle.std.proofs.lemmas.List.{map-append}
use Rattle.base_texts.specs.declared.texts.Name.{Name}
use Rattle.base_texts.specs.Limits.{is_empty, has_xml_chars}
use Rattle.base_trees.specs.Rose.{Rose, node, Roses, roses_of, label_of, length_all}
use Rattle.base_trees.specs.Rose as rose
use Rattle.simple_types.specs.declared.labels.ValueLabel.{ValueLabel}
use Rattle.content_models.specs.Language.{Leaf}
use Rattle.xml_items.specs.declared.label.ItemLabel.{ItemLabel}
use Rattle.xml_items.specs.declared.label.ItemLabel.TheVariants.{Element, Text}
use Rattle.xml_read.specs.Sound.{is_text, begins_with_text, is_sound, are_sound}
use Rattle.xml_items.specs.Plain.{Plain, text}
use Rattle.xml_items.specs.Mixing.{text_before, interleaved, child_elements}
use Rattle.schema_components.proofs.Truths.{both}
use Rattle.validity_rules.specs.Asked.{Asked}
use Rattle.validity_rules.specs.Valid.{ValidBy, KidsValid}
use Rattle.base_flat_trees.specs.Zips.{added, added_all}
use Rattle.value_builder.specs.Built.{Built, Puts}
use Rattle.xer_read.specs.Private.Keeping.{text_value, missing, strings_from}
use Rattle.xer_read.proofs.Putting.{all-none, all-more, all-both}

-- ---- string by string

abbrev values_of : List (List ℕ) → List (Rose ValueLabel)
values_of texts = map text_value texts

-- some strings more were put down, of those that are due
put-more : (vs : List (Rose ValueLabel)) (here later left : List (List ℕ)) (all : List (Rose ValueLabel)) → left ≡ here ++ later → vs ++ values_of left ≡ all → (vs ++ values_of here) ++ values_of later ≡ all
put-more vs here later left all e h =
    append_assoc vs (values_of here) (values_of later) ∙ ap (λ ts. vs ++ ts) (sym (map-append text_value here later)) ∙ ap (λ ts. vs ++ values_of ts) (sym e) ∙ h

-- so many were put down, where these are left
pub record StringsPut (all : Roses ItemLabel) (has_text : Bool) (left : Roses ItemLabel) (old now : Built) : Type 0 where
  pub done : List (Rose ValueLabel)
  pub due : done ++ values_of (strings_from has_text left) ≡ values_of (strings_from false all)
  pub puts : Puts (added_all done) old now

pub none-put : (all : Roses ItemLabel) (b : Built) → StringsPut all false all b b
none-put all b = record { done = []; due = refl; puts = all-none b }

string-here : (has_text : Bool) (t : Rose ItemLabel) (ts : Roses ItemLabel) (n : Name) (xs : List (Name × List ℕ)) (declares : List (List ℕ × List ℕ)) (at : ℕ) → label_of t ≡ Element n xs declares at
    → strings_from has_text (rose.more t ts) ≡ missing has_text ++ strings_from false ts
string-here b (node (Element m ys ds c) ks) ts n xs declares at e = refl
string-here b (node (Text others c) ks) ts n xs declares at e = absurd (cc)

text-here : (has_text : Bool) (t : Rose ItemLabel) (ts : Roses ItemLabel) (words : List ℕ) (at : ℕ) → label_of t ≡ Text words at → strings_from has_text (rose.more t ts) ≡ (words ∷ []) ++ strings_from true ts
text-here b (node (Element m ys ds c) ks) ts words at e = absurd (cc)
text-here b (node (Text own c) ks) ts words at e = let same : own ≡ words = cc in ap (λ w. w ∷ strings_from true ts) same

pub text-put : (all : Roses ItemLabel) (has_text : Bool) (left : List (Rose ItemLabel)) (t : Rose ItemLabel) (later : List (Rose ItemLabel)) (words : List ℕ) (at : ℕ) (old now new : Built) → left ≡ t ∷ later → label_of t ≡ Text words at
    → StringsPut all has_text (roses_of left) old now → Puts (added (text_value words)) now new → StringsPut all true (roses_of later) old new
text-put all b left t later words at old now new e l h puts = record {
  done = h.done ++ text_value words ∷ [];
  due = put-more h.done (words ∷ []) (strings_from true (roses_of later)) (strings_from b (roses_of left)) (values_of (strings_from false all)) (ap (λ ts. strings_from b (roses_of ts)) e ∙ text-here b t (roses_of later) words at l) h.due;
  puts = all-more h.done (text_value words) old now new h.puts puts;
}

pub missing-put : (all : Roses ItemLabel) (has_text : Bool) (left : List (Rose ItemLabel)) (t : Rose ItemLabel) (later : List (Rose ItemLabel)) (n : Name) (xs : List (Name × List ℕ)) (declares : List (List ℕ × List ℕ)) (at : ℕ)
    (old now new : Built) → left ≡ t ∷ later → label_of t ≡ Element n xs declares at → StringsPut all has_text (roses_of left) old now → Puts (added_all (values_of (missing has_text))) now new
    → StringsPut all false (roses_of later) old new
missing-put all b left t later n xs declares at old now new e l h puts = record {
  done = h.done ++ values_of (missing b);
  due = put-more h.done (missing b) (strings_from false (roses_of later)) (strings_from b (roses_of left)) (values_of (strings_from false all)) (ap (λ ts. strings_from b (roses_of ts)) e ∙ string-here b t (roses_of later) n xs declares at l) h.due;
  puts = all-both h.done (values_of (missing b)) old now new h.puts puts;
}

pub all-put : (all : Roses ItemLabel) (has_text : Bool) (left : List (Rose ItemLabel)) (old now new : Built) → left ≡ [] → StringsPut all has_text (roses_of left) old now → Puts (added_all (values_of (missing has_text))) now new
    → Puts (added_all (values_of (strings_from false all))) old new
all-put all b left old now new e h puts =
    let last : h.done ++ values_of (missing b) ≡ values_of (strings_from false all) = ap (λ ts. h.done ++ values_of (strings_from b (roses_of ts))) (sym e) ∙ h.due in
    subst (λ vs. Puts (added_all vs) old new) last (all-both h.done (values_of (missing b)) old now new h.puts puts)

-- ---- among treated kids

not_true : (b : Bool) → not b ≡ true → b ≡ false
not_true true e = absurd (cc)
not_true false e = refl

some-before : (words : List ℕ) (us : Roses Plain) → is_empty words ≡ false → rose.more (node (text words) rose.none) us ≡ text_before words us
some-before [] us e = absurd (cc)
some-before (b ∷ bs) us e = refl

record Kid (t : Rose ItemLabel) (ts : Roses ItemLabel) : Type 0 where
  pub own : is_sound t ≡ true
  pub apart : (is_text (label_of t) && begins_with_text ts) ≡ false
  pub rest : are_sound ts ≡ true

kid-sound : (l : ItemLabel) (ks ts : Roses ItemLabel) → are_sound (rose.more (node l ks) ts) ≡ true → Kid (node l ks) ts
kid-sound l ks ts h =
    let front = both (is_sound (node l ks) && not (is_text l && begins_with_text ts)) (are_sound ts) h in
    let own = both (is_sound (node l ks)) (not (is_text l && begins_with_text ts)) front.0 in
    record { own = own.0; apart = not_true (is_text l && begins_with_text ts) own.1; rest = front.1 }

text-some : (words : List ℕ) (c : ℕ) (ks : Roses ItemLabel) → is_sound (node (Text words c) ks) ≡ true → is_empty words ≡ false
text-some words c ks h = not_true (is_empty words) (both (not (is_empty words)) (has_xml_chars words) (both (not (is_empty words) && has_xml_chars words) (are_sound ks) h).0).0

text-alone : (own : List ℕ) (c : ℕ) (ks ts : Roses ItemLabel) → (is_text (label_of (node (Text own c) ks)) && begins_with_text ts) ≡ false → begins_with_text ts ≡ false
text-alone own c ks ts e = e

module _ (asks : ℕ → Asked) where
  pub valid-element : (d : ℕ) (t : Rose ItemLabel) (b : Rose Plain) → ValidBy asks d t b → (us : Roses Plain) → child_elements (rose.more b us) ≡ rose.more b (child_elements us)
  valid-element d (node (Element n xs declares c) ks) b h us = subst (λ z. child_elements (rose.more z us) ≡ rose.more z (child_elements us)) (sym h.1) refl
  valid-element d (node (Text words c) ks) b h us = absurd h

  -- with these strings between the child elements they are these items
  record Mixed (texts : List (List ℕ)) (all us : Roses Plain) : Type 0 where
    pub is : all ≡ interleaved texts (child_elements us)
    pub many : length texts ≡ suc (length_all (child_elements us))

  first-element : (words : List ℕ) (t : Rose ItemLabel) (d : ℕ) (b : Rose Plain) (vs us : Roses Plain) (texts : List (List ℕ)) → us ≡ rose.more b vs → ValidBy asks d t b → Mixed texts vs vs
      → Mixed (words ∷ texts) (text_before words us) us
  first-element words t d b vs us texts e val rest =
      let elements = valid-element d t b val vs in
      subst (λ z. Mixed (words ∷ texts) (text_before words z) z) (sym e)
      (record {
        is = ap (λ z. text_before words (rose.more b z)) rest.is ∙ ap (λ z. interleaved (words ∷ texts) z) (sym elements);
        many = let m = rest.many in let e = ap length_all elements in omega (arith, m, e);
      })

  mutual
    mixed-strings : (ts : Roses ItemLabel) (w : List Leaf) (us : Roses Plain) → are_sound ts ≡ true → KidsValid asks true ts w us → Mixed (strings_from false ts) us us
    mixed-strings rose.none w us sound h = subst (λ z. Mixed (strings_from false rose.none) z z) (sym h.1) (record { is = refl; many = refl })
    mixed-strings (rose.more (node (Element n xs declares c) ks) ts) w us sound (l, v, b, vs, ew, eu, nm, val, h) =
        let rest = mixed-strings ts v vs (kid-sound (Element n xs declares c) ks ts sound).rest h in
        first-element [] (node (Element n xs declares c) ks) l.decl b vs us (strings_from false ts) eu val rest
    mixed-strings (rose.more (node (Text own c) ks) ts) w us sound (vs, h, is) =
        let kid = kid-sound (Text own c) ks ts sound in
        let rest = behind-text ts own w vs kid.rest (text-alone own c ks ts kid.apart) h in
        subst (λ z. Mixed (own ∷ strings_from true ts) z z) (sym is) (record { is = some-before own vs (text-some own c ks kid.own) ∙ rest.is; many = rest.many })

    behind-text : (ts : Roses ItemLabel) (words : List ℕ) (w : List Leaf) (us : Roses Plain) → are_sound ts ≡ true → begins_with_text ts ≡ false → KidsValid asks true ts w us
        → Mixed (words ∷ strings_from true ts) (text_before words us) us
    behind-text rose.none words w us sound alone h = subst (λ z. Mixed (words ∷ strings_from true rose.none) (text_before words z) z) (sym h.1) (record { is = refl; many = refl })
    behind-text (rose.more (node (Text own c) ks) ts) words w us sound alone h = absurd (cc)
    behind-text (rose.more (node (Element n xs declares c) ks) ts) words w us sound alone (l, v, b, vs, ew, eu, nm, val, h) =
        let rest = mixed-strings ts v vs (kid-sound (Element n xs declares c) ks ts sound).rest h in
        first-element words (node (Element n xs declares c) ks) l.decl b vs us (strings_from false ts) eu val rest

  pub strings-between : (ts : Roses ItemLabel) (w : List Leaf) (us : Roses Plain) → are_sound ts ≡ true → KidsValid asks true ts w us
      → (us ≡ interleaved (strings_from false ts) (child_elements us)) × (length (strings_from false ts) ≡ suc (length_all (child_elements us)))
  strings-between ts w us sound h = let m = mixed-strings ts w us sound h in (m.is, m.many)

  -- elsewhere there are child elements alone
  pub elements-alone : (ts : Roses ItemLabel) (w : List Leaf) (us : Roses Plain) → KidsValid asks false ts w us → child_elements us ≡ us
  elements-alone rose.none w us h = subst (λ z. child_elements z ≡ z) (sym h.1) refl
  elements-alone (rose.more (node (Element n xs declares c) ks) ts) w us (l, v, b, vs, ew, eu, nm, val, h) =
      subst (λ z. child_elements z ≡ z) (sym eu) (valid-element l.decl (node (Element n xs declares c) ks) b val vs ∙ ap (λ z. rose.more b z) (elements-alone ts v vs h))
  elements-alone (rose.more (node (Text own c) ks) ts) w us (vs, h, is) = subst (λ z. child_elements z ≡ z) (sym is.1) (elements-alone ts w vs h)
