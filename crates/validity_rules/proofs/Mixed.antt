-- Texts and child elements among treated kids.
use Rattle.std.proofs.Common.{◌≡◌, ℕ, List, [], ◌∷◌, Bool, true, false, refl, sym, ap, subst}
use Rattle.std.specs.Prelude.{not, ◌&&◌}
use Rattle.base_texts.specs.Limits.{is_empty, has_xml_chars}
use Rattle.base_trees.specs.Rose.{Rose, node, Roses, none, more, label_of}
use Rattle.content_models.specs.Language.{Leaf}
use Rattle.xml_items.specs.declared.label.ItemLabel.{ItemLabel}
use Rattle.xml_items.specs.declared.label.ItemLabel.TheVariants.{Element, Text}
use Rattle.xml_read.specs.Sound.{begins_with_text, is_sound, are_sound}
use Rattle.xml_items.specs.Plain.{Plain, element, text, plain_all}
use Rattle.xml_items.specs.Mixing.{text_before, interleaved, AllElements, NoTextFirst, AreTidy}
use Rattle.schema_components.proofs.Truths.{both}
use Rattle.validity_rules.specs.Asked.{Asked}
use Rattle.validity_rules.specs.Valid.{ValidBy, KidsValid}
use Rattle.validity_rules.specs.OwnForms.{IsNamed, IsOwnForm, AreOwnForms}
use Rattle.validity_rules.specs.Laws.{TreatedKids, OwnKids}
use Rattle.validity_rules.proofs.Again.{no_kids, element_kept}

not_true : (b : Bool) → not b ≡ true → b ≡ false
not_true true e = absurd (cc)
not_true false e = refl

some_bytes : (words : List ℕ) → is_empty words ≡ false → words ≡ [] → ⊥
some_bytes [] e q = cc
some_bytes (b ∷ bs) e q = cc

module _ (asks : ℕ → Asked) where
  -- a valid element has an element as its treated form
  kept_tidy : (d : ℕ) (t : Rose ItemLabel) (b : Rose Plain) (vs : Roses Plain) → ValidBy asks d t b → AreTidy vs → AreTidy (more b vs)
  kept_tidy d (node (Text words at) ts) b vs h k = absurd h
  kept_tidy d (node (Element name xs declares at) ts) b vs h k = subst (λ c. AreTidy (more c vs)) (sym h.1) k

  kept_element : (d : ℕ) (t : Rose ItemLabel) (b : Rose Plain) (vs : Roses Plain) → ValidBy asks d t b → AllElements vs → AllElements (more b vs)
  kept_element d (node (Text words at) ts) b vs h k = absurd h
  kept_element d (node (Element name xs declares at) ts) b vs h k = subst (λ c. AllElements (more c vs)) (sym h.1) (tt, k)

  kept_first : (d : ℕ) (t : Rose ItemLabel) (b : Rose Plain) (vs : Roses Plain) → ValidBy asks d t b → NoTextFirst (more b vs)
  kept_first d (node (Text words at) ts) b vs h = absurd h
  kept_first d (node (Element name xs declares at) ts) b vs h = subst (λ c. NoTextFirst (more c vs)) (sym h.1) tt

  no_text_first : (ts : Roses ItemLabel) (w : List Leaf) (vs : Roses Plain) → begins_with_text ts ≡ false → KidsValid asks true ts w vs → NoTextFirst vs
  no_text_first none w vs e h = subst NoTextFirst (sym h.1) tt
  no_text_first (more (node (Text words at) ks) ts) w vs e h = absurd (cc)
  no_text_first (more (node (Element name xs declares at) ks) ts) w vs e (l, v, b, ws, ew, eu, nm, val, h) =
      subst NoTextFirst (sym eu) (kept_first l.decl (node (Element name xs declares at) ks) b ws val)

  tidy : (ts : Roses ItemLabel) (w : List Leaf) (vs : Roses Plain) → are_sound ts ≡ true → KidsValid asks true ts w vs → AreTidy vs
  tidy none w vs sound h = subst AreTidy (sym h.1) tt
  tidy (more (node (Text words at) ks) ts) w vs sound (ws, h, b) =
      let parts = both (is_sound (node (Text words at) ks) && not (begins_with_text ts)) (are_sound ts) sound in
      let here = both (is_sound (node (Text words at) ks)) (not (begins_with_text ts)) parts.0 in
      let label = both (not (is_empty words) && has_xml_chars words) (are_sound ks) here.0 in
      let some = both (not (is_empty words)) (has_xml_chars words) label.0 in
      subst AreTidy (sym b) (some_bytes words (not_true (is_empty words) some.0), refl, no_text_first ts w ws (not_true (begins_with_text ts) here.1) h, tidy ts w ws parts.1 h)
  tidy (more (node (Element name xs declares at) ks) ts) w vs sound (l, v, b, ws, ew, eu, nm, val, h) =
      let parts = both (is_sound (node (Element name xs declares at) ks) && true) (are_sound ts) sound in
      subst AreTidy (sym eu) (kept_tidy l.decl (node (Element name xs declares at) ks) b ws val (tidy ts v ws parts.1 h))

  elements : (ts : Roses ItemLabel) (w : List Leaf) (vs : Roses Plain) → KidsValid asks false ts w vs → AllElements vs
  elements none w vs h = subst AllElements (sym h.1) tt
  elements (more (node (Text words at) ks) ts) w vs (ws, h, b) = subst AllElements (sym b.1) (elements ts w ws h)
  elements (more (node (Element name xs declares at) ks) ts) w vs (l, v, b, ws, ew, eu, nm, val, h) =
      subst AllElements (sym eu) (kept_element l.decl (node (Element name xs declares at) ks) b ws val (elements ts v ws h))

  -- ---- elements that are valid with themselves

  abbrev AreKids : Bool → List Leaf → Roses Plain → Type 0
  AreKids m w vs = (us : Roses ItemLabel) → plain_all us ≡ vs → KidsValid asks m us w vs

  no_kids_valid : (m : Bool) → AreKids m [] none
  no_kids_valid m us q = subst (λ ks. KidsValid asks m ks [] none) (sym (no_kids us q)) (refl, refl)

  one_more : (m : Bool) (l : Leaf) (ls : List Leaf) (b : Rose Plain) (vs : Roses Plain) → IsNamed l.name (label_of b) → IsOwnForm asks l.decl b → AreKids m ls vs → AreKids m (l ∷ ls) (more b vs)
  one_more m l ls (node (text words) ks) vs n own kids us q = absurd n
  one_more m l ls (node (element name xs) ks) vs n own kids us q =
      element_kept asks m name l ls (l ∷ ls) (node (element name xs) ks) (more (node (element name xs) ks) vs) vs xs ks refl refl (sym n) refl own kids us q

  text_more : (words : List ℕ) (w : List Leaf) (vs : Roses Plain) → AreKids true w vs → AreKids true w (text_before words vs)
  text_more [] w vs kids us q = kids us q
  text_more (b ∷ bs) w vs kids none q = absurd (cc)
  text_more (b ∷ bs) w vs kids (more (node (Element name xs declares at) ks) us) q = absurd (cc)
  text_more (b ∷ bs) w vs kids (more (node (Text words at) ks) us) q =
      let same : words ≡ b ∷ bs = cc in
      let rest : plain_all us ≡ vs = cc in
      (vs, kids us rest, ap (λ z. more (node (text z) none) vs) (sym same))

  own_elements : (w : List Leaf) (bs : Roses Plain) → AreOwnForms asks w bs → AreKids false w bs
  own_elements [] none h = no_kids_valid false
  own_elements [] (more b bs) h = absurd h
  own_elements (l ∷ ls) none h = absurd h
  own_elements (l ∷ ls) (more b bs) (n, own, h) = one_more false l ls b bs n own (own_elements ls bs h)

  own_mixed : (texts : List (List ℕ)) (w : List Leaf) (bs : Roses Plain) → AreOwnForms asks w bs → AreKids true w (interleaved texts bs)
  own_mixed [] [] none h = no_kids_valid true
  own_mixed (words ∷ texts) [] none h = text_more words [] none (no_kids_valid true)
  own_mixed texts [] (more b bs) h = absurd h
  own_mixed texts (l ∷ ls) none h = absurd h
  own_mixed [] (l ∷ ls) (more b bs) (n, own, h) = one_more true l ls b bs n own (own_mixed [] ls bs h)
  own_mixed (words ∷ texts) (l ∷ ls) (more b bs) (n, own, h) =
      text_more words (l ∷ ls) (more b (interleaved texts bs)) (one_more true l ls b (interleaved texts bs) n own (own_mixed texts ls bs h))

pub treated_kids : TreatedKids
treated_kids asks ts w vs sound = (λ h. tidy asks ts w vs sound h, λ h. elements asks ts w vs h)

pub own_kids : OwnKids
own_kids asks w bs h = (λ us q. own_elements asks w bs h us q, λ texts us q. own_mixed asks texts w bs h us q)
