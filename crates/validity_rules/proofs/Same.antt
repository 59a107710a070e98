-- Items that are the same but for places, bindings and the order of attributes are valid alike.
use Rattle.std.proofs.Common.{◌≡◌, ℕ, List, [], ◌∷◌, Some, None, Bool, true, false, refl, sym, ◌∙◌, ap, subst}
use Rattle.std.specs.Prelude.{not, ◌&&◌}
use Rattle.std.specs.List.{list_all}
use Rattle.std.proofs.lemmas.List.Elements.{All-nil, All-cons}
use Rattle.base_texts.specs.declared.texts.Name.{Name}
use Rattle.base_texts.specs.Names.{name_eq}
use Rattle.base_texts.proofs.NameLaws.{name_eq-Decides}
use Rattle.base_texts.specs.WhiteSpace.{is_blank}
use Rattle.base_trees.specs.Rose.{Rose, node, Roses, none, more}
use Rattle.content_models.specs.Language.{Leaf}
use Rattle.xml_items.specs.declared.label.ItemLabel.{ItemLabel}
use Rattle.xml_items.specs.declared.label.ItemLabel.TheVariants.{Element, Text}
use Rattle.xml_items.specs.Plain.{Plain, element}
use Rattle.xml_read.specs.Same.{SameItems, AllSameItems}
use Rattle.xml_read.specs.Sound.{is_sound_name, is_sound_attribute, has_name, are_sound_attributes, is_sound_binding, is_sound_label, is_text, begins_with_text, is_sound, are_sound}
use Rattle.schema_components.proofs.Truths.{both}
use Rattle.validity_rules.specs.Asked.{Asked, Attribute, Inside, nothing, simple, children}
use Rattle.validity_rules.specs.Attributes.{xsi_type, xsi_nil, is_special, text_of, left, Nil, not_nil, is_nil, bad_nil, nil_by, nil_of, IsRight, AllRight, AllStand, treated_text, put_attribute, unless_standard, treated_attribute, treated_attributes, with_nil}
use Rattle.validity_rules.specs.Valid.{put_before, only_text, Between, treated_element, ValidBy, KidsValid}
use Rattle.validity_rules.proofs.Treated.{text_right}
use Rattle.validity_rules.proofs.Unique.{ContentValid, NilValid}

-- ---- attributes by their names

-- no name stands twice
abbrev AllOnce : List (Name × List ℕ) → Type 0
AllOnce [] = Unit {0}
AllOnce (x ∷ xs) = (has_name x.0 xs ≡ false) × AllOnce xs

not_true : (b : Bool) → not b ≡ true → b ≡ false
not_true true e = absurd (cc)
not_true false e = refl

pub once_each : (xs : List (Name × List ℕ)) → are_sound_attributes xs ≡ true → AllOnce xs
once_each [] h = tt
once_each (x ∷ xs) h =
    let parts = both (is_sound_attribute x && not (has_name x.0 xs)) (are_sound_attributes xs) h in
    (not_true (has_name x.0 xs) (both (is_sound_attribute x) (not (has_name x.0 xs)) parts.0).1, once_each xs parts.1)

same_is : (a b : Name) → name_eq a b ≡ true → a ≡ b
same_is a b e = (name_eq-Decides a b).0 e

-- a name that none has has no text
no_text : (n : Name) (xs : List (Name × List ℕ)) → has_name n xs ≡ false → text_of xs n ≡ None
no_text n [] h = refl
no_text n (x ∷ xs) h = go (name_eq x.0 n) refl (λ k. no_text n xs k)
  where
    go : (is : Bool) → name_eq x.0 n ≡ is → (has_name n xs ≡ false → text_of xs n ≡ None) → text_of (x ∷ xs) n ≡ None
    go true e rest = absurd (let q : true ≡ false = sym (rw e refl) ∙ h in cc)
    go false e rest = rw e (rest (sym (rw e refl) ∙ h))

apart_from : (x n : Name) (xs : List (Name × List ℕ)) (words : List ℕ) → has_name x xs ≡ false → text_of xs n ≡ Some words → name_eq x n ≡ false
apart_from x n xs words h e = go (name_eq x n) refl
  where
    go : (is : Bool) → name_eq x n ≡ is → name_eq x n ≡ false
    go false q = q
    go true q = absurd (let none_here = no_text n xs (subst (λ m. has_name m xs ≡ false) (same_is x n q) h) in cc (none_here, e))

later_text : (x : Name × List ℕ) (xs : List (Name × List ℕ)) (n : Name) (words : List ℕ) → has_name x.0 xs ≡ false → text_of xs n ≡ Some words → text_of (x ∷ xs) n ≡ Some words
later_text x xs n words h e = rw (apart_from x.0 n xs words h e) e

first_text : (x : Name × List ℕ) (xs : List (Name × List ℕ)) → text_of (x ∷ xs) x.0 ≡ Some x.1
first_text x xs = rw ((name_eq-Decides x.0 x.0).1 refl) refl

-- ---- those that are left to be declared

left_text : (n : Name) → is_special n ≡ false → (xs : List (Name × List ℕ)) → text_of (left xs) n ≡ text_of xs n
left_text n h [] = refl
left_text n h (x ∷ xs) = go (is_special x.0) refl (name_eq x.0 n) refl (left_text n h xs)
  where
    go : (special : Bool) → is_special x.0 ≡ special → (is : Bool) → name_eq x.0 n ≡ is → text_of (left xs) n ≡ text_of xs n → text_of (left (x ∷ xs)) n ≡ text_of (x ∷ xs) n
    go true e true q rest = absurd (let s : is_special x.0 ≡ is_special n = ap is_special (same_is x.0 n q) in cc (s, e, h))
    go true e false q rest = rw (e, q) rest
    go false e true q rest = rw (e, q) refl
    go false e false q rest = rw (e, q) rest

left_none : (n : Name) → is_special n ≡ true → (xs : List (Name × List ℕ)) → text_of (left xs) n ≡ None
left_none n h [] = refl
left_none n h (x ∷ xs) = go (is_special x.0) refl (name_eq x.0 n) refl (left_none n h xs)
  where
    go : (special : Bool) → is_special x.0 ≡ special → (is : Bool) → name_eq x.0 n ≡ is → text_of (left xs) n ≡ None → text_of (left (x ∷ xs)) n ≡ None
    go true e is q rest = rw e rest
    go false e true q rest = absurd (let s : is_special x.0 ≡ is_special n = ap is_special (same_is x.0 n q) in cc (s, e, h))
    go false e false q rest = rw (e, q) rest

module _ (xs ys : List (Name × List ℕ)) (same : (n : Name) → text_of xs n ≡ text_of ys n) where
  left_same : (n : Name) → text_of (left xs) n ≡ text_of (left ys) n
  left_same n = go (is_special n) refl
    where
      go : (special : Bool) → is_special n ≡ special → text_of (left xs) n ≡ text_of (left ys) n
      go true e = left_none n e xs ∙ sym (left_none n e ys)
      go false e = left_text n e xs ∙ same n ∙ sym (left_text n e ys)

  module _ (wanted : List Attribute) where
    right_here : AllRight wanted (left xs) → (n : Name) → is_special n ≡ false → (words : List ℕ) → text_of ys n ≡ Some words → IsRight wanted (n, words)
    right_here h n e words q = text_right (left xs) wanted n (left xs) words h (left_text n e xs ∙ same n ∙ q)

    right_in : (zs : List (Name × List ℕ)) → AllOnce zs → ((n : Name) → is_special n ≡ false → (words : List ℕ) → text_of zs n ≡ Some words → IsRight wanted (n, words)) → AllRight wanted (left zs)
    right_in [] once h = All-nil (IsRight wanted)
    right_in (z ∷ zs) once h = go (is_special z.0) refl (right_in zs once.1 (λ n e words q. h n e words (later_text z zs n words once.0 q)))
      where
        go : (special : Bool) → is_special z.0 ≡ special → AllRight wanted (left zs) → AllRight wanted (left (z ∷ zs))
        go true e rest = rw e rest
        go false e rest = rw e (All-cons (IsRight wanted) z (left zs) (h z.0 e z.1 (first_text z zs)) rest)

    pub right_same : AllOnce ys → AllRight wanted (left xs) → AllRight wanted (left ys)
    right_same once h = right_in ys once (right_here h)

    pub stand_same : AllStand wanted (left xs) → AllStand wanted (left ys)
    stand_same h = λ i d lt q n. h i d lt q (left_same _ ∙ n)

  pub treated_alike : (wanted : List Attribute) → treated_attributes wanted (left xs) ≡ treated_attributes wanted (left ys)
  treated_alike [] = refl
  treated_alike (a ∷ wanted) =
      ap (λ o. put_attribute a.name (unless_standard a (treated_text a.space o)) (treated_attributes wanted (left xs))) (left_same a.name)
      ∙ ap (put_attribute a.name (treated_attribute a (left ys))) (treated_alike wanted)

-- ---- sound items

sound_kids : (l : ItemLabel) (ts : Roses ItemLabel) → is_sound (node l ts) ≡ true → (is_sound_label l ≡ true) × (are_sound ts ≡ true)
sound_kids l ts h = both (is_sound_label l) (are_sound ts) h

sound_first : (l : ItemLabel) (ks ts : Roses ItemLabel) → are_sound (more (node l ks) ts) ≡ true → (is_sound (node l ks) ≡ true) × (are_sound ts ≡ true)
sound_first l ks ts h =
    let parts = both (is_sound (node l ks) && not (is_text l && begins_with_text ts)) (are_sound ts) h in
    ((both (is_sound (node l ks)) (not (is_text l && begins_with_text ts)) parts.0).0, parts.1)

sound_once : (n : Name) (xs : List (Name × List ℕ)) (declares : List (List ℕ × List ℕ)) (at : ℕ) → is_sound_label (Element n xs declares at) ≡ true → AllOnce xs
sound_once n xs declares at h =
    let parts = both (is_sound_name n && are_sound_attributes xs) (list_all is_sound_binding declares) h in
    once_each xs (both (is_sound_name n) (are_sound_attributes xs) parts.0).1

-- ---- kids

same_empty : (ts us : Roses ItemLabel) → AllSameItems ts us → ts ≡ none → us ≡ none
same_empty none none h e = refl
same_empty none (more u us) h e = absurd h
same_empty (more t ts) us h e = absurd (cc)

same_text : (ts us : Roses ItemLabel) → AllSameItems ts us → only_text ts ≡ only_text us
same_text none none h = refl
same_text none (more u us) h = absurd h
same_text (more t ts) none h = absurd h
same_text (more (node (Element n xs declares at) ks) ts) (more (node (Element m ys binds place) js) us) h = refl
same_text (more (node (Text words at) ks) ts) (more (node (Text others place) js) us) h =
    ap (λ w. put_before w (only_text ts)) h.0.0 ∙ ap (put_before others) (same_text ts us h.1)
same_text (more (node (Element n xs declares at) ks) ts) (more (node (Text others place) js) us) h = absurd h.0
same_text (more (node (Text words at) ks) ts) (more (node (Element m ys binds place) js) us) h = absurd h.0

module _ (asks : ℕ → Asked) where
  abbrev SameKids : Roses ItemLabel → Roses ItemLabel → Type 0
  SameKids ts us = (m : Bool) (w : List Leaf) (vs : Roses Plain) → KidsValid asks m ts w vs → KidsValid asks m us w vs

  content_same : (c : Inside) (ts us : Roses ItemLabel) (vs : Roses Plain) → AllSameItems ts us → SameKids ts us → ContentValid asks c ts vs → ContentValid asks c us vs
  content_same nothing ts us vs h kids k = (same_empty ts us h k.0, k.1)
  content_same (simple s) ts us vs h kids (words, o, k) = (words, sym (same_text ts us h) ∙ o, k)
  content_same (children m p) ts us vs h kids (w, l, k) = (w, l, kids m w vs k)

  inside_same : (n : Nil) (c : Inside) (ts us : Roses ItemLabel) (vs : Roses Plain) → AllSameItems ts us → SameKids ts us → NilValid asks n c ts vs → NilValid asks n c us vs
  inside_same bad_nil c ts us vs h kids k = k
  inside_same is_nil c ts us vs h kids k = (same_empty ts us h k.0, k.1)
  inside_same not_nil c ts us vs h kids k = content_same c ts us vs h kids k

  mutual
    pub same_valid : (t u : Rose ItemLabel) → is_sound u ≡ true → SameItems t u → (d : ℕ) (b : Rose Plain) → ValidBy asks d t b → ValidBy asks d u b
    same_valid (node (Text words at) ts) u sound h d b k = absurd k
    same_valid (node (Element n xs declares at) ts) (node (Text words place) us) sound h d b k = absurd h
    same_valid (node (Element n xs declares at) ts) (node (Element m ys binds place) us) sound (names, texts, kids) d b (vs, e, plain, right, stand, k) =
        let parts = sound_kids (Element m ys binds place) us sound in
        let same : (n : Name) → text_of xs n ≡ text_of ys n = λ n. texts n.space n.local in
        let nil : nil_of (asks d).nillable xs ≡ nil_of (asks d).nillable ys = ap (nil_by (asks d).nillable) (same xsi_nil) in (
          vs,
          e ∙ ap (λ i. treated_element (asks d) i xs vs) names
              ∙ ap (λ i. node (element m (with_nil i (treated_attributes (asks d).attributes (left xs)))) vs) nil
              ∙ ap (λ zs. node (element m (with_nil (nil_of (asks d).nillable ys) zs)) vs) (treated_alike xs ys same (asks d).attributes),
          sym (same xsi_type) ∙ plain,
          right_same xs ys same (asks d).attributes (sound_once m ys binds place parts.0) right,
          stand_same xs ys same (asks d).attributes stand,
          subst (λ i. NilValid asks i (asks d).inside us vs) nil
              (inside_same (nil_of (asks d).nillable xs) (asks d).inside ts us vs kids (λ m w vs k. same_kids ts us parts.1 kids m w vs k) k),
        )

    same_kids : (ts us : Roses ItemLabel) → are_sound us ≡ true → AllSameItems ts us → SameKids ts us
    same_kids none none sound h m w vs k = k
    same_kids none (more u us) sound h m w vs k = absurd h
    same_kids (more t ts) none sound h m w vs k = absurd h
    same_kids (more (node (Text words at) ks) ts) (more (node (Element i ys binds place) js) us) sound h m w vs k = absurd h.0
    same_kids (more (node (Element n xs declares at) ks) ts) (more (node (Text others place) js) us) sound h m w vs k = absurd h.0
    same_kids (more (node (Text words at) ks) ts) (more (node (Text others place) js) us) sound h m w vs (ws, k, b) =
        let parts = sound_first (Text others place) js us sound in
        (ws, same_kids ts us parts.1 h.1 m w ws k, subst (λ z. Between m (is_blank z) z ws vs) h.0.0 b)
    same_kids (more (node (Element n xs declares at) ks) ts) (more (node (Element i ys binds place) js) us) sound h m w vs (l, v, b, ws, ew, eu, nm, val, k) =
        let parts = sound_first (Element i ys binds place) js us sound in (
          l,
          v,
          b,
          ws,
          ew,
          eu,
          nm ∙ h.0.0,
          same_valid (node (Element n xs declares at) ks) (node (Element i ys binds place) js) parts.0 h.0 l.decl b val,
          same_kids ts us parts.1 h.1 m v ws k,
        )
