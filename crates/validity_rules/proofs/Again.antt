-- Treated items are valid, and are their own treated items.
use Rattle.std.proofs.Common.{◌≡◌, ℕ, List, [], ◌∷◌, Some, Bool, true, false, refl, sym, ◌∙◌, ap, subst, append-nil}
use Rattle.std.specs.Prelude.{Ok, Err}
use Rattle.base_texts.specs.declared.texts.Name.{Name}
use Rattle.base_texts.specs.WhiteSpace.{is_blank}
use Rattle.base_trees.specs.Rose.{Rose, node, Roses, none, more}
use Rattle.simple_types.specs.Space.{Space}
use Rattle.simple_types.specs.Sound.{Sound}
use Rattle.simple_types.specs.Reading.{Reading, reads, spelled}
use Rattle.simple_types.proofs.OwnSpellings.{holds_again}
use Rattle.std.specs.Prelude.{All}
use Rattle.content_models.specs.Language.{Leaf}
use Rattle.xml_items.specs.declared.label.ItemLabel.{ItemLabel}
use Rattle.xml_items.specs.declared.label.ItemLabel.TheVariants.{Element, Text}
use Rattle.xml_items.specs.Plain.{Plain, element, text, plain_of, plain_all}
use Rattle.validity_rules.specs.Asked.{Asked, Attribute, Inside, nothing, simple, children}
use Rattle.validity_rules.specs.Attributes.{Nil, not_nil, is_nil, bad_nil, nil_of, xsi_nil, text_of, left, AllRight, AllStand, treated_attributes, with_nil}
use Rattle.validity_rules.specs.Valid.{only_text, text_kids, Spells, Between, treated_element, ValidBy, KidsValid}
use Rattle.validity_rules.proofs.Treated.{AllSound, IsPlain, AllApart, treated_same, treated_right, treated_stand, no_type, no_nil, left_treated, nil_again, type_again, left_again}
use Rattle.validity_rules.proofs.Unique.{ContentValid, NilValid}

abbrev pub IsTextSound : Inside → Type 0
IsTextSound nothing = Unit {0}
IsTextSound (simple space) = Sound space
IsTextSound (children mixed p) = Unit {0}

-- what a linked set keeps of each declaration
pub record IsFair (a : Asked) : Type 0 where
  pub sound : AllSound a.attributes
  pub plain : All IsPlain a.attributes
  pub apart : AllApart a.attributes
  pub inside : IsTextSound a.inside

-- ---- kids

pub no_kids : (us : Roses ItemLabel) → plain_all us ≡ none → us ≡ none
no_kids none e = refl
no_kids (more u us) e = absurd (cc)

-- a text of its own
pub text_alone : (us : Roses ItemLabel) (y : List ℕ) → plain_all us ≡ text_kids y → only_text us ≡ Some y
text_alone none [] e = refl
text_alone none (b ∷ bs) e = absurd (cc)
text_alone (more u us) [] e = absurd (cc)
text_alone (more (node (Element name xs declares at) ks) us) (b ∷ bs) e = absurd (cc)
text_alone (more (node (Text words at) ks) none) (b ∷ bs) e = let same : words ≡ b ∷ bs = cc in ap (λ z. Some z) (append-nil words ∙ same)
text_alone (more (node (Text words at) ks) (more v vs)) (b ∷ bs) e = absurd (cc)

spells_again : (s : Space) → Sound s → (words : List ℕ) (r : Reading) → reads s words ≡ r → (vs : Roses Plain) → Spells s r vs
    → (us : Roses ItemLabel) → plain_all us ≡ vs → (y : List ℕ) × (only_text us ≡ Some y) × Spells s (reads s y) vs
spells_again s sound words (Ok v) e vs h us q =
    (spelled s v, text_alone us (spelled s v) (q ∙ h), subst (λ r. Spells s r vs) (sym (holds_again s sound words v e)) h)
spells_again s sound words (Err why) e vs h us q = absurd h

module _ (asks : ℕ → Asked) where
  pub text_kept : (m blank : Bool) (words : List ℕ) (w : List Leaf) (vs ws : Roses Plain) → Between m blank words ws vs
      → ((us : Roses ItemLabel) → plain_all us ≡ ws → KidsValid asks m us w ws) → (us : Roses ItemLabel) → plain_all us ≡ vs → KidsValid asks m us w vs
  text_kept false blank words w vs ws b again us q = subst (λ z. KidsValid asks false us w z) (sym b.1) (again us (q ∙ b.1))
  text_kept true blank words w vs ws b again none q = absurd (let z = q ∙ b in cc)
  text_kept true blank words w vs ws b again (more (node (Element name xs declares at) ks) us) q = absurd (let z = q ∙ b in cc)
  text_kept true blank words w vs ws b again (more (node (Text other at) ks) us) q =
      let z = q ∙ b in
      let same : other ≡ words = cc in
      let rest : plain_all us ≡ ws = cc in
      (ws, again us rest, b ∙ ap (λ x. more (node (text x) none) ws) (sym same))

  pub element_kept : (m : Bool) (name : Name) (l : Leaf) (v w : List Leaf) (b : Rose Plain) (vs ws : Roses Plain) (xs : List (Name × List ℕ)) (kids : Roses Plain)
      → w ≡ l ∷ v → vs ≡ more b ws → l.name ≡ name → b ≡ node (element name xs) kids
      → ((u : Rose ItemLabel) → plain_of u ≡ b → ValidBy asks l.decl u b) → ((us : Roses ItemLabel) → plain_all us ≡ ws → KidsValid asks m us v ws)
      → (us : Roses ItemLabel) → plain_all us ≡ vs → KidsValid asks m us w vs
  element_kept m name l v w b vs ws xs kids ew eu nm eb one again none q = absurd (let z = q ∙ eu in cc)
  element_kept m name l v w b vs ws xs kids ew eu nm eb one again (more (node (Text words at) ks) us) q = absurd (let z = q ∙ eu in cc)
  element_kept m name l v w b vs ws xs kids ew eu nm eb one again (more (node (Element other ys binds place) ks) us) q =
      let z = q ∙ eu in
      let here : plain_of (node (Element other ys binds place) ks) ≡ b = cc in
      let rest : plain_all us ≡ ws = cc in
      let both = here ∙ eb in
      let named : other ≡ name = cc in
      (l, v, b, ws, ew, eu, nm ∙ sym named, one (node (Element other ys binds place) ks) here, again us rest)

module _ (asks : ℕ → Asked) (fair : (d : ℕ) → IsFair (asks d)) where
  abbrev KidsAgain : Roses ItemLabel → Type 0
  KidsAgain ts = (m : Bool) (w : List Leaf) (vs : Roses Plain) → KidsValid asks m ts w vs → (us : Roses ItemLabel) → plain_all us ≡ vs → KidsValid asks m us w vs

  content_again : (c : Inside) → IsTextSound c → (ts : Roses ItemLabel) (vs : Roses Plain) → KidsAgain ts → ContentValid asks c ts vs → (us : Roses ItemLabel) → plain_all us ≡ vs → ContentValid asks c us vs
  content_again nothing f ts vs again h us q = (no_kids us (q ∙ h.1), h.1)
  content_again (simple s) f ts vs again (words, o, h) us q = spells_again s f words (reads s words) refl vs h us q
  content_again (children m p) f ts vs again (w, l, h) us q = (w, l, again m w vs h us q)

  inside_again : (n : Nil) (c : Inside) → IsTextSound c → (ts : Roses ItemLabel) (vs : Roses Plain) → KidsAgain ts → NilValid asks n c ts vs → (us : Roses ItemLabel) → plain_all us ≡ vs → NilValid asks n c us vs
  inside_again bad_nil c f ts vs again h us q = h
  inside_again is_nil c f ts vs again h us q = (no_kids us (q ∙ h.1), h.1)
  inside_again not_nil c f ts vs again h us q = content_again c f ts vs again h us q

  nil_not_bad : (n : Nil) (c : Inside) (ts : Roses ItemLabel) (vs : Roses Plain) → NilValid asks n c ts vs → n ≡ bad_nil → ⊥
  nil_not_bad bad_nil c ts vs h e = h
  nil_not_bad is_nil c ts vs h e = cc
  nil_not_bad not_nil c ts vs h e = cc

  -- an element with treated attributes
  module _ (d : ℕ) (name : Name) (xs : List (Name × List ℕ)) (declares : List (List ℕ × List ℕ)) (at : ℕ) (vs : Roses Plain) (us : Roses ItemLabel) where
    abbrev wanted : List Attribute
    wanted = (asks d).attributes

    abbrev treated_once : List (Name × List ℕ)
    treated_once = treated_attributes wanted (left xs)

    abbrev nil : Nil
    nil = nil_of (asks d).nillable xs

    left_once : left (with_nil nil treated_once) ≡ treated_once
    left_once = left_again nil treated_once ∙ left_treated (left xs) wanted (fair d).plain

    nil_once : (nil ≡ bad_nil → ⊥) → nil_of (asks d).nillable (with_nil nil treated_once) ≡ nil
    nil_once f = nil_again nil (asks d).nillable (text_of xs xsi_nil) treated_once refl (no_nil (left xs) wanted (fair d).plain) f

    element_once : (nil ≡ bad_nil → ⊥) → treated_element (asks d) name (with_nil nil treated_once) vs ≡ treated_element (asks d) name xs vs
    element_once f =
        let a : treated_attributes wanted (left (with_nil nil treated_once)) ≡ treated_once =
        ap (treated_attributes wanted) left_once ∙ treated_same (left xs) wanted (fair d).sound (fair d).apart
        in
        ap (λ n. node (element name (with_nil n (treated_attributes wanted (left (with_nil nil treated_once))))) vs) (nil_once f)
        ∙ ap (λ ys. node (element name (with_nil nil ys)) vs) a

    valid_once : AllRight wanted (left xs) → AllStand wanted (left xs) → NilValid asks nil (asks d).inside us vs → (nil ≡ bad_nil → ⊥)
        → ValidBy asks d (node (Element name (with_nil nil treated_once) declares at) us) (treated_element (asks d) name xs vs)
    valid_once right stand h f = (
      vs,
      sym (element_once f),
      type_again nil treated_once (no_type (left xs) wanted (fair d).plain),
      subst (λ ys. AllRight wanted ys) (sym left_once) (treated_right (left xs) wanted (fair d).sound (fair d).apart right),
      subst (λ ys. AllStand wanted ys) (sym left_once) (treated_stand (left xs) wanted (fair d).apart right stand),
      subst (λ n. NilValid asks n (asks d).inside us vs) (sym (nil_once f)) h,
    )

  mutual
    pub again : (t : Rose ItemLabel) (d : ℕ) (b : Rose Plain) → ValidBy asks d t b → (u : Rose ItemLabel) → plain_of u ≡ b → ValidBy asks d u b
    again (node (Text words at) ts) d b h u q = absurd h
    again (node (Element name xs declares at) ts) d b (vs, e, plain, right, stand, h) (node (Text words place) us) q = absurd (let z = q ∙ e in cc)
    again (node (Element name xs declares at) ts) d b (vs, e, plain, right, stand, h) (node (Element other ys binds place) us) q =
        let z = q ∙ e in
        let names : other ≡ name = cc in
        let attributes : ys ≡ with_nil (nil_of (asks d).nillable xs) (treated_attributes (asks d).attributes (left xs)) = cc in
        let kids : plain_all us ≡ vs = cc in
        let inner = inside_again (nil_of (asks d).nillable xs) (asks d).inside (fair d).inside ts vs (λ m w vs h us q. kids_again ts m w vs h us q) h us kids in
        let it = valid_once d name xs binds place vs us right stand inner (nil_not_bad (nil_of (asks d).nillable xs) (asks d).inside ts vs h) in
        subst (λ c. ValidBy asks d (node (Element other ys binds place) us) c) (sym e)
        (subst (λ n. ValidBy asks d (node (Element n ys binds place) us) (treated_element (asks d) name xs vs)) (sym names)
        (subst (λ zs. ValidBy asks d (node (Element name zs binds place) us) (treated_element (asks d) name xs vs)) (sym attributes) it))

    kids_again : (ts : Roses ItemLabel) → KidsAgain ts
    kids_again none m w vs h us q = subst (λ ks. KidsValid asks m ks w vs) (sym (no_kids us (q ∙ h.1))) h
    kids_again (more (node (Text words at) ks) ts) m w vs (ws, h, b) us q = text_kept asks m (is_blank words) words w vs ws b (λ us q. kids_again ts m w ws h us q) us q
    kids_again (more (node (Element name xs declares at) ks) ts) m w vs (l, v, b, ws, ew, eu, nm, val, h) us q =
        element_kept asks m name l v w b vs ws (with_nil (nil_of (asks l.decl).nillable xs) (treated_attributes (asks l.decl).attributes (left xs))) val.0 ew eu nm val.1
        (λ u q. again (node (Element name xs declares at) ks) l.decl b val u q) (λ us q. kids_again ts m v ws h us q) us q
