-- What a reader of an element needs, who takes its kids one by one: what is known behind each kid, and what each answer says.
use Rattle.std.proofs.Common.{◌≡◌, ℕ, zero, suc, ◌+◌, ◌≤◌, ◌<◌, ◌⊎◌, inl, inr, List, [], ◌∷◌, ◌++◌, Option, Some, None, Bool, true, false, length, get_or, refl, sym, ◌∙◌, ap, subst, add-one, arith}
use Rattle.base_texts.specs.declared.texts.Name.{Name}
use Rattle.base_texts.specs.WhiteSpace.{is_blank}
use Rattle.base_trees.specs.Rose.{Rose, Roses, node, roses_of, label_of, kids_of, list_of, node_count, count_all}
use Rattle.base_trees.specs.Rose as rose
use Rattle.content_models.specs.Particle.{Particle}
use Rattle.content_models.specs.Language.{Leaf, names, Lang, Viable}
use Rattle.xml_items.specs.declared.label.ItemLabel.{ItemLabel}
use Rattle.xml_items.specs.declared.label.ItemLabel.TheVariants.{Element, Text}
use Rattle.xml_items.specs.Plain.{Plain, text}
use Rattle.validity_rules.specs.Asked.{Asked, children}
use Rattle.validity_rules.specs.Attributes.{nil_of, xsi_type, text_of, left, FirstWrong, AllRight, AllStand, OneMissing}
use Rattle.validity_rules.specs.Valid.{Between, treated_element, ValidBy, KidsValid}
use Rattle.validity_rules.specs.Faults.{Begins, Unfinished, front, IsBad, FaultBy, KidFault}
use Rattle.validity_rules.specs.declared.why.InvalidWhy.{InvalidWhy}
use Rattle.validity_rules.specs.declared.why.InvalidWhy.TheVariants.{XsiType, BadNil, MissingAttribute, TextNotAllowed, UnexpectedElement, MissingElement}
use Rattle.validity_rules.proofs.Unique.{ContentValid, KidsFault, NilValid, NilFault}

-- ---- kids by their numbers

pub kid_count : {L : Type 0} (ts : List (Rose L)) (i : ℕ) (t : Rose L) → i < length ts → t ≡ get_or ts i t → node_count t ≤ count_all (roses_of ts)
kid_count [] i t h e = absurd (omega (arith, h))
kid_count (u ∷ ts) zero t h e = rw e (omega arith)
kid_count (u ∷ ts) (suc i) t h e = omega (arith, kid_count ts i t (omega (arith, h)) e)

pub roses_of-list_of : {L : Type 0} (ts : Roses L) → roses_of (list_of ts) ≡ ts
roses_of-list_of rose.none = refl
roses_of-list_of (rose.more t ts) = ap (λ s. rose.more t s) (roses_of-list_of ts)

pub count-kids : {L : Type 0} (t : Rose L) → node_count t ≡ suc (count_all (roses_of (kids_of t)))
count-kids (node l ts) = rw (roses_of-list_of ts) refl

abbrev pub kid_at : {L : Type 0} → Roses L → ℕ → Option (Rose L)
kid_at rose.none i = None
kid_at (rose.more t ts) zero = Some t
kid_at (rose.more t ts) (suc i) = kid_at ts i

pub kid_here : {L : Type 0} (ts : List (Rose L)) (i : ℕ) (t : Rose L) → i < length ts → t ≡ get_or ts i t → kid_at (roses_of ts) i ≡ Some t
kid_here [] i t h e = absurd (omega (arith, h))
kid_here (u ∷ ts) zero t h e = ap (λ s. Some s) (sym e)
kid_here (u ∷ ts) (suc i) t h e = kid_here ts i t (omega (arith, h)) e

pub front_long : {L : Type 0} (ts : List (Rose L)) (i : ℕ) → length ts ≤ i → front i (roses_of ts) ≡ roses_of ts
front_long [] zero h = refl
front_long [] (suc i) h = refl
front_long (t ∷ ts) zero h = absurd (omega (arith, h))
front_long (t ∷ ts) (suc i) h = ap (λ s. rose.more t s) (front_long ts i (omega (arith, h)))

between_some : (m blank : Bool) (words : List ℕ) (vs : Roses Plain) → (m ≡ true) ⊎ (blank ≡ true) → (us : Roses Plain) × Between m blank words vs us
between_some true blank words vs h = (rose.more (node (text words) rose.none) vs, refl)
between_some false blank words vs (inl h) = absurd (cc)
between_some false blank words vs (inr h) = (vs, (h, refl))

between_why : (m blank : Bool) (words : List ℕ) (vs us : Roses Plain) → Between m blank words vs us → (m ≡ true) ⊎ (blank ≡ true)
between_why true blank words vs us h = inl refl
between_why false blank words vs us h = inr h.0

abbrev pub IsElementNamed : ItemLabel → Name → Type 0
IsElementNamed (Element name xs declares at) n = name ≡ n
IsElementNamed (Text words at) n = ⊥

pub named : (t : Rose ItemLabel) (n : Name) (xs : List (Name × List ℕ)) (declares : List (List ℕ × List ℕ)) (at : ℕ) → label_of t ≡ Element n xs declares at → IsElementNamed (label_of t) n
named t n xs declares at e = subst (λ s. IsElementNamed s n) (sym e) refl

module _ (asks : ℕ → Asked) (m : Bool) where
  -- the kids are those of these leaves, and are well
  abbrev pub Fine : Roses ItemLabel → List Leaf → Type 0
  Fine ts us = (vs : Roses Plain) × KidsValid asks m ts us vs

  -- a text more
  push_text : (ts : Roses ItemLabel) (i : ℕ) (t : Rose ItemLabel) (us : List Leaf) (words : List ℕ) (at : ℕ) → kid_at ts i ≡ Some t → label_of t ≡ Text words at → (m ≡ true) ⊎ (is_blank words ≡ true)
      → Fine (front i ts) us → Fine (front (suc i) ts) us
  push_text rose.none i t us words at k l b h = absurd (cc)
  push_text (rose.more (node (Element n xs declares c) ks) ts) zero t us words at k l b h =
      absurd (let e : node (Element n xs declares c) ks ≡ t = cc in let f : ◌≡◌ {A = ItemLabel} (Element n xs declares c) (Text words at) = ap label_of e ∙ l in cc)
  push_text (rose.more (node (Text others c) ks) ts) zero t us words at k l b (vs, h) =
      let e : node (Text others c) ks ≡ t = cc in
      let f : ◌≡◌ {A = ItemLabel} (Text others c) (Text words at) = ap label_of e ∙ l in
      let q : others ≡ words = cc in
      let s = between_some m (is_blank others) others rose.none (rw q b) in
      (s.0, (rose.none, (h.0, refl), s.1))
  push_text (rose.more (node (Text others c) ks) ts) (suc i) t us words at k l b (ws, (vs, h, bt)) =
      let g = push_text ts i t us words at k l b (vs, h) in
      let s = between_some m (is_blank others) others g.0 (between_why m (is_blank others) others vs ws bt) in
      (s.0, (g.0, g.1, s.1))
  push_text (rose.more (node (Element n xs declares c) ks) ts) (suc i) t us words at k l b (ws, (y, v, bb, vs, ew, eu, nm, val, h)) =
      let g = push_text ts i t v words at k l b (vs, h) in
      (rose.more bb g.0, (y, v, bb, g.0, ew, refl, nm, val, g.1))

  -- an element more
  push_element : (ts : Roses ItemLabel) (i : ℕ) (t : Rose ItemLabel) (us : List Leaf) (n : Name) (l : Leaf) (b : Rose Plain) → kid_at ts i ≡ Some t → IsElementNamed (label_of t) n → l.name ≡ n
      → ValidBy asks l.decl t b → Fine (front i ts) us → Fine (front (suc i) ts) (us ++ l ∷ [])
  push_element rose.none i t us n l b k e nm val h = absurd (cc)
  push_element (rose.more (node (Text others c) ks) ts) zero t us n l b k e nm val h =
      absurd (let q : t ≡ node (Text others c) ks = cc in let f : IsElementNamed (label_of (node (Text others c) ks)) n = subst (λ s. IsElementNamed (label_of s) n) q e in f)
  push_element (rose.more (node (Element a xs declares c) ks) ts) zero t us n l b k e nm val (vs, h) =
      let q : t ≡ node (Element a xs declares c) ks = cc in
      let f : a ≡ n = subst (λ s. IsElementNamed (label_of s) n) q e in
      (rose.more b rose.none, (l, [], b, rose.none, ap (λ s. s ++ l ∷ []) h.0, refl, nm ∙ sym f, subst (λ s. ValidBy asks l.decl s b) q val, (refl, refl)))
  push_element (rose.more (node (Text others c) ks) ts) (suc i) t us n l b k e nm val (ws, (vs, h, bt)) =
      let g = push_element ts i t us n l b k e nm val (vs, h) in
      let s = between_some m (is_blank others) others g.0 (between_why m (is_blank others) others vs ws bt) in
      (s.0, (g.0, g.1, s.1))
  push_element (rose.more (node (Element a xs declares c) ks) ts) (suc i) t us n l b k e nm val (ws, (y, v, bb, vs, ew, eu, nm1, val1, h)) =
      let g = push_element ts i t v n l b k e nm val (vs, h) in
      (rose.more bb g.0, (y, v ++ l ∷ [], bb, g.0, ap (λ s. s ++ l ∷ []) ew, refl, nm1, val1, g.1))

  -- the kid at fault is here
  fault_here : (p : Particle) (us : List Leaf) (ts : Roses ItemLabel) (i : ℕ) (t : Rose ItemLabel) (b : ℕ) (why : InvalidWhy) → kid_at ts i ≡ Some t
      → KidFault asks m p us (rose.more t rose.none) 0 b why → KidFault asks m p us ts i b why
  fault_here p us rose.none i t b why k h = absurd (cc)
  fault_here p us (rose.more u ts) zero t b why k h = let e : t ≡ u = cc in subst (λ s. KidFault asks m p us (rose.more s rose.none) 0 b why) e h
  fault_here p us (rose.more u ts) (suc i) t b why k h = fault_here p us ts i t b why k h

  -- with these leaves behind, which begin a list of the particle
  module _ (p : Particle) (us : List Leaf) (kids : List (Rose ItemLabel)) (place : ℕ) (begun : Begins p us) where
    pub all_read : (i : ℕ) → Fine (front i (roses_of kids)) us → length kids ≤ i → Lang p 0 [] us → (vs : Roses Plain) × ContentValid asks (children m p) (roses_of kids) vs
    all_read i fine past l = (fine.0, (us, l, subst (λ s. KidsValid asks m s us fine.0) (front_long kids i past) fine.1))

    pub more_wanted : (i : ℕ) → Fine (front i (roses_of kids)) us → length kids ≤ i → Unfinished p (names us) → KidsFault asks m p (roses_of kids) place place MissingElement
    more_wanted i fine past u = (us, begun, inl (fine.0, subst (λ s. KidsValid asks m s us fine.0) (front_long kids i past) fine.1, u, refl, refl))

    module _ (i : ℕ) (t : Rose ItemLabel) (fine : Fine (front i (roses_of kids)) us) (below : i < length kids) (here : t ≡ get_or kids i t) where
      kid_fault : (b : ℕ) (why : InvalidWhy) → KidFault asks m p us (rose.more t rose.none) 0 b why → KidsFault asks m p (roses_of kids) place b why
      kid_fault b why h = (us, begun, inr (i, fine.0, fine.1, fault_here p us (roses_of kids) i t b why (kid_here kids i t below here) h))

      pub text_fault : (words : List ℕ) (b : ℕ) → label_of t ≡ Text words b → m ≡ false → is_blank words ≡ false → KidsFault asks m p (roses_of kids) place b TextNotAllowed
      text_fault words b l e w = kid_fault b TextNotAllowed (go t l)
        where
          go : (t : Rose ItemLabel) → label_of t ≡ Text words b → KidFault asks m p us (rose.more t rose.none) 0 b TextNotAllowed
          go (node s ts) l = subst (λ s. KidFault asks m p us (rose.more (node s ts) rose.none) 0 b TextNotAllowed) (sym l) (e, w, refl, refl)

      pub unexpected : (n : Name) (xs : List (Name × List ℕ)) (declares : List (List ℕ × List ℕ)) (b : ℕ) → label_of t ≡ Element n xs declares b
          → (Viable p (names us ++ n ∷ []) → ⊥) → KidsFault asks m p (roses_of kids) place b UnexpectedElement
      unexpected n xs declares b l v = kid_fault b UnexpectedElement (go t l)
        where
          go : (t : Rose ItemLabel) → label_of t ≡ Element n xs declares b → KidFault asks m p us (rose.more t rose.none) 0 b UnexpectedElement
          go (node s ts) l = subst (λ s. KidFault asks m p us (rose.more (node s ts) rose.none) 0 b UnexpectedElement) (sym l) (inl (v, refl, refl))

      pub own_fault : (n : Name) (xs : List (Name × List ℕ)) (declares : List (List ℕ × List ℕ)) (c : ℕ) → label_of t ≡ Element n xs declares c
          → (b : ℕ) (why : InvalidWhy) (l : Leaf) → l.name ≡ n → Begins p (us ++ l ∷ []) → FaultBy asks l.decl t b why → KidsFault asks m p (roses_of kids) place b why
      own_fault n xs declares c e b why l nm g f = kid_fault b why (go t e f)
        where
          go : (t : Rose ItemLabel) → label_of t ≡ Element n xs declares c → FaultBy asks l.decl t b why → KidFault asks m p us (rose.more t rose.none) 0 b why
          go (node s ts) e f = subst (λ s. FaultBy asks l.decl (node s ts) b why → KidFault asks m p us (rose.more (node s ts) rose.none) 0 b why) (sym e) (λ f. inr (l, nm, g, f)) f

      pub text_read : (words : List ℕ) (b : ℕ) → label_of t ≡ Text words b → (m ≡ true) ⊎ (is_blank words ≡ true) → Fine (front (i + 1) (roses_of kids)) us
      text_read words b l w = rw add-one (push_text (roses_of kids) i t us words b (kid_here kids i t below here) l w fine)

      pub element_read : (n : Name) (xs : List (Name × List ℕ)) (declares : List (List ℕ × List ℕ)) (c : ℕ) → label_of t ≡ Element n xs declares c
          → (l : Leaf) → l.name ≡ n → (v : Rose Plain) → ValidBy asks l.decl t v → Fine (front (i + 1) (roses_of kids)) (us ++ l ∷ [])
      element_read n xs declares c e l nm v val = rw add-one (push_element (roses_of kids) i t us n l v (kid_here kids i t below here) (named t n xs declares c e) nm val fine)

-- ---- the rules of one element, in their order

module _ (asks : ℕ → Asked) (d : ℕ) (n : Name) (xs : List (Name × List ℕ)) (declares : List (List ℕ × List ℕ)) (place : ℕ) (t : Rose ItemLabel) (is : label_of t ≡ Element n xs declares place) where
  type_fault_at : (u : Rose ItemLabel) → label_of u ≡ Element n xs declares place → (text_of xs xsi_type ≡ None → ⊥) → FaultBy asks d u place XsiType
  type_fault_at (node l ts) e h = subst (λ l. FaultBy asks d (node l ts) place XsiType) (sym e) (inl (refl, refl, h))

  pub type_fault : (text_of xs xsi_type ≡ None → ⊥) → FaultBy asks d t place XsiType
  type_fault h = type_fault_at t is h

  module _ (plain : text_of xs xsi_type ≡ None) where
    nil_fault_at : (u : Rose ItemLabel) → label_of u ≡ Element n xs declares place → IsBad (nil_of (asks d).nillable xs) → FaultBy asks d u place BadNil
    nil_fault_at (node l ts) e h = subst (λ l. FaultBy asks d (node l ts) place BadNil) (sym e) (inr (plain, inl (refl, refl, h)))

    pub nil_fault : IsBad (nil_of (asks d).nillable xs) → FaultBy asks d t place BadNil
    nil_fault h = nil_fault_at t is h

    module _ (good : IsBad (nil_of (asks d).nillable xs) → ⊥) where
      wrong_at : (u : Rose ItemLabel) → label_of u ≡ Element n xs declares place → (why : InvalidWhy) → FirstWrong (asks d).attributes why (left xs) → FaultBy asks d u place why
      wrong_at (node l ts) e why h = subst (λ l. FaultBy asks d (node l ts) place why) (sym e) (inr (plain, inr (good, inl (refl, h))))

      pub wrong_fault : (why : InvalidWhy) → FirstWrong (asks d).attributes why (left xs) → FaultBy asks d t place why
      wrong_fault why h = wrong_at t is why h

      module _ (right : AllRight (asks d).attributes (left xs)) where
        missing_at : (u : Rose ItemLabel) → label_of u ≡ Element n xs declares place → OneMissing (asks d).attributes (left xs) → FaultBy asks d u place MissingAttribute
        missing_at (node l ts) e h = subst (λ l. FaultBy asks d (node l ts) place MissingAttribute) (sym e) (inr (plain, inr (good, inr (right, inl (refl, refl, h)))))

        pub missing_fault : OneMissing (asks d).attributes (left xs) → FaultBy asks d t place MissingAttribute
        missing_fault h = missing_at t is h

        module _ (stand : AllStand (asks d).attributes (left xs)) where
          inner_fault_at : (u : Rose ItemLabel) → label_of u ≡ Element n xs declares place → (b : ℕ) (why : InvalidWhy)
              → NilFault asks (nil_of (asks d).nillable xs) (asks d).inside (roses_of (kids_of u)) place b why → FaultBy asks d u b why
          inner_fault_at (node l ts) e b why h =
              subst (λ l. FaultBy asks d (node l ts) b why) (sym e)
              (inr (plain, inr (good, inr (right, inr (stand, subst (λ ks. NilFault asks (nil_of (asks d).nillable xs) (asks d).inside ks place b why) (roses_of-list_of ts) h)))))

          pub inner_fault : (b : ℕ) (why : InvalidWhy) → NilFault asks (nil_of (asks d).nillable xs) (asks d).inside (roses_of (kids_of t)) place b why → FaultBy asks d t b why
          inner_fault b why h = inner_fault_at t is b why h

          all_kept_at : (u : Rose ItemLabel) → label_of u ≡ Element n xs declares place → (vs : Roses Plain)
              → NilValid asks (nil_of (asks d).nillable xs) (asks d).inside (roses_of (kids_of u)) vs → ValidBy asks d u (treated_element (asks d) n xs vs)
          all_kept_at (node l ts) e vs h =
              subst (λ l. ValidBy asks d (node l ts) (treated_element (asks d) n xs vs)) (sym e)
              (vs, refl, plain, right, stand, subst (λ ks. NilValid asks (nil_of (asks d).nillable xs) (asks d).inside ks vs) (roses_of-list_of ts) h)

          pub all_kept : (vs : Roses Plain) → NilValid asks (nil_of (asks d).nillable xs) (asks d).inside (roses_of (kids_of t)) vs → ValidBy asks d t (treated_element (asks d) n xs vs)
          all_kept vs h = all_kept_at t is vs h
