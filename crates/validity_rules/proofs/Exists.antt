-- An element is valid, or it has a first fault.
use Rattle.std.proofs.Common.{◌≡◌, ℕ, suc, ◌⊎◌, inl, inr, List, [], ◌∷◌, ◌++◌, Option, Some, None, Bool, true, false, refl, sym, subst, append_assoc, append-nil}
use Rattle.std.specs.Prelude.{Ok, Err}
use Rattle.base_texts.specs.declared.texts.Name.{Name}
use Rattle.base_texts.specs.WhiteSpace.{is_blank}
use Rattle.base_trees.specs.Rose.{Rose, node, Roses, none, more, label_of}
use Rattle.simple_types.specs.declared.labels.ValueLabel.{ValueLabel}
use Rattle.simple_types.specs.Space.{Space}
use Rattle.simple_types.specs.Reading.{Reading, reads, spelled}
use Rattle.content_models.specs.Particle.{Particle}
use Rattle.content_models.specs.Language.{Leaf, names, Lang, Viable}
use Rattle.xml_items.specs.Labels.{item_place}
use Rattle.xml_items.specs.declared.label.ItemLabel.{ItemLabel}
use Rattle.xml_items.specs.declared.label.ItemLabel.TheVariants.{Element, Text}
use Rattle.xml_items.specs.Plain.{Plain, text}
use Rattle.validity_rules.specs.Asked.{Asked, Inside, nothing, simple, children}
use Rattle.validity_rules.specs.Attributes.{Nil, not_nil, is_nil, bad_nil, nil_of, xsi_type, text_of, left, Refuses, FirstWrong, AllRight, AllStand, OneMissing}
use Rattle.validity_rules.specs.Valid.{only_text, put_before, text_kids, Spells, Between, treated_element, ValidBy, KidsValid}
use Rattle.validity_rules.specs.Faults.{Begins, Unfinished, front, Then, At, IsBad, FirstKid, why_kid, FirstElement, FaultBy, KidFault}
use Rattle.validity_rules.specs.declared.why.InvalidWhy.{InvalidWhy}
use Rattle.validity_rules.specs.declared.why.InvalidWhy.TheVariants.{XsiType, BadNil, MissingAttribute, NilWithContent, TextNotAllowed, ElementNotAllowed, BadText, UnexpectedElement, MissingElement}
use Rattle.validity_rules.proofs.Attributes.{accepted_or, all_right_or, all_stand_or}
use Rattle.validity_rules.proofs.Deciding.{Decides}
use Rattle.validity_rules.proofs.Unique.{ContentValid, ContentFault, NilValid, NilFault}

-- some fault
abbrev pub Some_fault : (ℕ → InvalidWhy → Type 0) → Type 0
Some_fault F = (at : ℕ) × (why : InvalidWhy) × F at why

-- ---- faults in their order

then_or : (F G : ℕ → InvalidWhy → Type 0) (W V : Type 0) → W ⊎ Some_fault F → (W → V ⊎ Some_fault G) → V ⊎ Some_fault (Then F W G)
then_or F G W V (inr (at, why, f)) g = inr (at, why, inl f)
then_or F G W V (inl w) g = go (g w)
  where
    go : V ⊎ Some_fault G → V ⊎ Some_fault (Then F W G)
    go (inl v) = inl v
    go (inr (at, why, k)) = inr (at, why, inr (w, k))

at_or : (place : ℕ) (reason : InvalidWhy) (P W : Type 0) → W ⊎ P → W ⊎ Some_fault (At place reason P)
at_or place reason P W (inl w) = inl w
at_or place reason P W (inr h) = inr (place, reason, (refl, refl, h))

none_or : (o : Option (List ℕ)) → (o ≡ None) ⊎ (o ≡ None → ⊥)
none_or None = inl refl
none_or (Some x) = inr (λ e. cc)

good_or_bad : (n : Nil) → (IsBad n → ⊥) ⊎ IsBad n
good_or_bad bad_nil = inr tt
good_or_bad is_nil = inl (λ b. b)
good_or_bad not_nil = inl (λ b. b)

kids_or : (ts : Roses ItemLabel) (reason : ItemLabel → InvalidWhy) → (ts ≡ none) ⊎ Some_fault (FirstKid ts reason)
kids_or none reason = inl refl
kids_or (more t ts) reason = inr (item_place (label_of t), reason (label_of t), (refl, refl))

-- ---- simple content

text_or_element : (ts : Roses ItemLabel) → ((words : List ℕ) × (only_text ts ≡ Some words)) ⊎ Some_fault (FirstElement ts)
text_or_element none = inl ([], refl)
text_or_element (more (node (Element name xs declares at) ks) ts) = inr (at, ElementNotAllowed, (refl, refl))
text_or_element (more (node (Text words at) ks) ts) = go (text_or_element ts)
  where
    go : ((others : List ℕ) × (only_text ts ≡ Some others)) ⊎ Some_fault (FirstElement ts)
        → ((all : List ℕ) × (put_before words (only_text ts) ≡ Some all)) ⊎ Some_fault (FirstElement ts)
    go (inl (others, e)) = inl (words ++ others, rw e refl)
    go (inr h) = inr h

spelled_or : (s : Space) (r : Reading) → ((vs : Roses Plain) × Spells s r vs) ⊎ ((why : InvalidWhy) × Refuses r BadText why)
spelled_or s r = go r (accepted_or r BadText)
  where
    go : (r : Reading) → ((value : Rose ValueLabel) × (r ≡ Ok value)) ⊎ ((why : InvalidWhy) × Refuses r BadText why) → ((vs : Roses Plain) × Spells s r vs) ⊎ ((why : InvalidWhy) × Refuses r BadText why)
    go (Ok value) h = inl (text_kids (spelled s value), refl)
    go (Err e) (inl h) = let q = h.1 in absurd (cc)
    go (Err e) (inr h) = inr h

-- ---- child elements

abbrev pub CanDecide : Inside → Type 0
CanDecide nothing = Unit {0}
CanDecide (simple space) = Unit {0}
CanDecide (children m p) = Decides p

module _ (asks : ℕ → Asked) where
  -- the kids behind these leaves are all well, or one is the first at fault
  abbrev Walked : Bool → Particle → List Leaf → Roses ItemLabel → Type 0
  Walked m p us ts =
      ((w : List Leaf) × (vs : Roses Plain) × KidsValid asks m ts w vs × Begins p (us ++ w))
      ⊎ ((i : ℕ) × (w : List Leaf) × (vs : Roses Plain) × (at : ℕ) × (why : InvalidWhy)
      × KidsValid asks m (front i ts) w vs × Begins p (us ++ w) × KidFault asks m p (us ++ w) ts i at why)

  abbrev Decided : Rose ItemLabel → Type 0
  Decided t = (d : ℕ) → ((b : Rose Plain) × ValidBy asks d t b) ⊎ Some_fault (FaultBy asks d t)

  between_or : (m : Bool) (blank : Bool) (words : List ℕ) → ((vs : Roses Plain) → (us : Roses Plain) × Between m blank words vs us) ⊎ ((m ≡ false) × (blank ≡ false))
  between_or true blank words = inl (λ vs. (more (node (text words) none) vs, refl))
  between_or false true words = inl (λ vs. (vs, (refl, refl)))
  between_or false false words = inr (refl, refl)

  module _ (m : Bool) (p : Particle) (d : Decides p) where
    walk_text : (us : List Leaf) (ts : Roses ItemLabel) (words : List ℕ) (at : ℕ) (ks : Roses ItemLabel) → Begins p us → Walked m p us ts → Walked m p us (more (node (Text words at) ks) ts)
    walk_text us ts words at ks b rest = go (between_or m (is_blank words) words) rest
      where
        go : ((vs : Roses Plain) → (us : Roses Plain) × Between m (is_blank words) words vs us) ⊎ ((m ≡ false) × (is_blank words ≡ false))
            → Walked m p us ts → Walked m p us (more (node (Text words at) ks) ts)
        go (inr (e, q)) rest = inr (0, [], none, at, TextNotAllowed, (refl, refl), subst (λ s. Begins p s) (sym (append-nil us)) b, (e, q, refl, refl))
        go (inl k) (inl (w, vs, h, g)) = let u = k vs in inl (w, u.0, (vs, h, u.1), g)
        go (inl k) (inr (i, w, vs, c, why, h, g, f)) = let u = k vs in inr (suc i, w, u.0, c, why, (vs, h, u.1), g, f)

    walk_element : (us : List Leaf) (ts ks : Roses ItemLabel) (n : Name) (xs : List (Name × List ℕ)) (declares : List (List ℕ × List ℕ)) (at : ℕ)
        → Begins p us → Decided (node (Element n xs declares at) ks) → ((us : List Leaf) → Begins p us → Walked m p us ts)
        → Walked m p us (more (node (Element n xs declares at) ks) ts)
    walk_element us ts ks n xs declares at b dt rest = go (d.step us b n)
      where
        us0 : us ≡ us ++ []
        us0 = sym (append-nil us)

        behind : (l : Leaf) → l.name ≡ n → (v : Rose Plain) → ValidBy asks l.decl (node (Element n xs declares at) ks) v → Walked m p (us ++ l ∷ []) ts → Walked m p us (more (node (Element n xs declares at) ks) ts)
        behind l nm v val (inl (w, vs, k, g)) =
            inl (l ∷ w, more v vs, (l, w, v, vs, refl, refl, nm, val, k), subst (λ s. Begins p s) (append_assoc us (l ∷ []) w) g)
        behind l nm v val (inr (i, w, vs, c, why, k, g, f)) =
            inr (
              suc i,
              l ∷ w,
              more v vs,
              c,
              why,
              (l, w, v, vs, refl, refl, nm, val, k),
              subst (λ s. Begins p s) (append_assoc us (l ∷ []) w) g,
              subst (λ s. KidFault asks m p s ts i c why) (append_assoc us (l ∷ []) w) f,
            )

        own : (l : Leaf) → l.name ≡ n → Begins p (us ++ l ∷ []) → ((v : Rose Plain) × ValidBy asks l.decl (node (Element n xs declares at) ks) v) ⊎ Some_fault (FaultBy asks l.decl (node (Element n xs declares at) ks)) → Walked m p us (more (node (Element n xs declares at) ks) ts)
        own l nm g (inl v) = behind l nm v.0 v.1 (rest (us ++ l ∷ []) g)
        own l nm g (inr (c, why, f)) =
            inr (0, [], none, c, why, (refl, refl), subst (λ s. Begins p s) us0 b, inr (l, nm, subst (λ s. Begins p (s ++ l ∷ [])) us0 g, f))

        go : ((l : Leaf) × (l.name ≡ n) × Begins p (us ++ l ∷ [])) ⊎ (Viable p (names us ++ n ∷ []) → ⊥) → Walked m p us (more (node (Element n xs declares at) ks) ts)
        go (inl (l, nm, g)) = own l nm g (dt l.decl)
        go (inr f) = inr (
          0,
          [],
          none,
          at,
          UnexpectedElement,
          (refl, refl),
          subst (λ s. Begins p s) us0 b,
          inl (subst (λ s. Viable p (names s ++ n ∷ []) → ⊥) us0 f, refl, refl),
        )

    finish_kids : (ts : Roses ItemLabel) (place : ℕ) → Walked m p [] ts → ((vs : Roses Plain) × ContentValid asks (children m p) ts vs) ⊎ Some_fault (ContentFault asks (children m p) ts place)
    finish_kids ts place (inr (i, w, vs, b, why, k, g, f)) = inr (b, why, (w, g, inr (i, vs, k, f)))
    finish_kids ts place (inl (w, vs, k, g)) = go (d.finish w g)
      where
        go : Lang p 0 [] w ⊎ Unfinished p (names w) → ((vs : Roses Plain) × ContentValid asks (children m p) ts vs) ⊎ Some_fault (ContentFault asks (children m p) ts place)
        go (inl l) = inl (vs, (w, l, k))
        go (inr u) = inr (place, MissingElement, (w, g, inl (vs, k, u, refl, refl)))

  content_or : (c : Inside) (ts : Roses ItemLabel) (place : ℕ) → CanDecide c → ((m : Bool) (p : Particle) → Decides p → Walked m p [] ts)
      → ((vs : Roses Plain) × ContentValid asks c ts vs) ⊎ Some_fault (ContentFault asks c ts place)
  content_or nothing ts place d h = go (kids_or ts why_kid)
    where
      go : (ts ≡ none) ⊎ Some_fault (FirstKid ts why_kid) → ((vs : Roses Plain) × ContentValid asks nothing ts vs) ⊎ Some_fault (ContentFault asks nothing ts place)
      go (inl e) = inl (none, (e, refl))
      go (inr f) = inr f
  content_or (simple s) ts place d h = go (text_or_element ts)
    where
      go : ((words : List ℕ) × (only_text ts ≡ Some words)) ⊎ Some_fault (FirstElement ts) → ((vs : Roses Plain) × ContentValid asks (simple s) ts vs) ⊎ Some_fault (ContentFault asks (simple s) ts place)
      go (inr (at, why, f)) = inr (at, why, inl f)
      go (inl (words, e)) = say (spelled_or s (reads s words))
        where
          say : ((vs : Roses Plain) × Spells s (reads s words) vs) ⊎ ((why : InvalidWhy) × Refuses (reads s words) BadText why)
              → ((vs : Roses Plain) × ContentValid asks (simple s) ts vs) ⊎ Some_fault (ContentFault asks (simple s) ts place)
          say (inl (vs, k)) = inl (vs, (words, e, k))
          say (inr (why, k)) = inr (place, why, inr (words, e, refl, k))
  content_or (children m p) ts place d h = finish_kids m p d ts place (h m p d)

  nil_or : (n : Nil) (c : Inside) (ts : Roses ItemLabel) (place : ℕ) → (IsBad n → ⊥) → CanDecide c → ((m : Bool) (p : Particle) → Decides p → Walked m p [] ts)
      → ((vs : Roses Plain) × NilValid asks n c ts vs) ⊎ Some_fault (NilFault asks n c ts place)
  nil_or bad_nil c ts place good d h = absurd (good tt)
  nil_or is_nil c ts place good d h = go (kids_or ts (λ _. NilWithContent))
    where
      go : (ts ≡ none) ⊎ Some_fault (FirstKid ts (λ _. NilWithContent)) → ((vs : Roses Plain) × NilValid asks is_nil c ts vs) ⊎ Some_fault (NilFault asks is_nil c ts place)
      go (inl e) = inl (none, (e, refl))
      go (inr f) = inr f
  nil_or not_nil c ts place good d h = content_or c ts place d h

  module _ (can : (d : ℕ) → CanDecide (asks d).inside) where
    -- the rules before the content are kept, with what they keep
    record Kept (d : ℕ) (xs : List (Name × List ℕ)) (ts : Roses ItemLabel) : Type 0 where
      plain : text_of xs xsi_type ≡ None
      right : AllRight (asks d).attributes (left xs)
      stand : AllStand (asks d).attributes (left xs)
      kids : Roses Plain
      content : NilValid asks (nil_of (asks d).nillable xs) (asks d).inside ts kids

    abbrev AllFaults : ℕ → ℕ → List (Name × List ℕ) → Roses ItemLabel → ℕ → InvalidWhy → Type 0
    AllFaults d place xs ts =
        Then (At place XsiType (text_of xs xsi_type ≡ None → ⊥)) (text_of xs xsi_type ≡ None)
        (Then (At place BadNil (IsBad (nil_of (asks d).nillable xs))) (IsBad (nil_of (asks d).nillable xs) → ⊥)
        (Then (λ at why. (at ≡ place) × FirstWrong (asks d).attributes why (left xs)) (AllRight (asks d).attributes (left xs))
        (Then (At place MissingAttribute (OneMissing (asks d).attributes (left xs))) (AllStand (asks d).attributes (left xs))
        (NilFault asks (nil_of (asks d).nillable xs) (asks d).inside ts place))))

    kept_or : (d place : ℕ) (xs : List (Name × List ℕ)) (ts : Roses ItemLabel) → ((m : Bool) (p : Particle) → Decides p → Walked m p [] ts)
        → Kept d xs ts ⊎ Some_fault (AllFaults d place xs ts)
    kept_or d place xs ts walk =
        then_or (At place XsiType (text_of xs xsi_type ≡ None → ⊥)) _ (text_of xs xsi_type ≡ None) (Kept d xs ts)
        (at_or place XsiType (text_of xs xsi_type ≡ None → ⊥) (text_of xs xsi_type ≡ None) (none_or (text_of xs xsi_type))) (λ plain.
        then_or (At place BadNil (IsBad (nil_of (asks d).nillable xs))) _ (IsBad (nil_of (asks d).nillable xs) → ⊥) (Kept d xs ts)
        (at_or place BadNil (IsBad (nil_of (asks d).nillable xs)) (IsBad (nil_of (asks d).nillable xs) → ⊥) (good_or_bad (nil_of (asks d).nillable xs))) (λ good.
        then_or (λ at why. (at ≡ place) × FirstWrong (asks d).attributes why (left xs)) _ (AllRight (asks d).attributes (left xs)) (Kept d xs ts)
        (right (all_right_or (asks d).attributes (left xs))) (λ right.
        then_or (At place MissingAttribute (OneMissing (asks d).attributes (left xs))) (NilFault asks (nil_of (asks d).nillable xs) (asks d).inside ts place) (AllStand (asks d).attributes (left xs)) (Kept d xs ts)
        (at_or place MissingAttribute (OneMissing (asks d).attributes (left xs)) (AllStand (asks d).attributes (left xs)) (all_stand_or (left xs) (asks d).attributes)) (λ stand.
        content plain right stand (nil_or (nil_of (asks d).nillable xs) (asks d).inside ts place good (can d) walk)))))
      where
        right : AllRight (asks d).attributes (left xs) ⊎ ((why : InvalidWhy) × FirstWrong (asks d).attributes why (left xs))
            → AllRight (asks d).attributes (left xs) ⊎ Some_fault (λ at why. (at ≡ place) × FirstWrong (asks d).attributes why (left xs))
        right (inl h) = inl h
        right (inr (why, f)) = inr (place, why, (refl, f))

        content : text_of xs xsi_type ≡ None → AllRight (asks d).attributes (left xs) → AllStand (asks d).attributes (left xs)
            → ((vs : Roses Plain) × NilValid asks (nil_of (asks d).nillable xs) (asks d).inside ts vs) ⊎ Some_fault (NilFault asks (nil_of (asks d).nillable xs) (asks d).inside ts place)
            → Kept d xs ts ⊎ Some_fault (NilFault asks (nil_of (asks d).nillable xs) (asks d).inside ts place)
        content plain r s (inl (vs, h)) = inl (record { plain = plain; right = r; stand = s; kids = vs; content = h })
        content plain r s (inr f) = inr f

    mutual
      pub decided : (t : Rose ItemLabel) (d : ℕ) → ((at : ℕ) (words : List ℕ) → label_of t ≡ Text words at → ⊥) → ((b : Rose Plain) × ValidBy asks d t b) ⊎ Some_fault (FaultBy asks d t)
      decided (node (Text words at) ts) d h = absurd (h at words refl)
      decided (node (Element name xs declares place) ts) d h = go (kept_or d place xs ts (λ m p k. walked ts m p k [] k.start))
        where
          go : Kept d xs ts ⊎ Some_fault (AllFaults d place xs ts)
              → ((b : Rose Plain) × ValidBy asks d (node (Element name xs declares place) ts) b) ⊎ Some_fault (FaultBy asks d (node (Element name xs declares place) ts))
          go (inl k) = inl (treated_element (asks d) name xs k.kids, (k.kids, refl, k.plain, k.right, k.stand, k.content))
          go (inr f) = inr f

      walked : (ts : Roses ItemLabel) (m : Bool) (p : Particle) → Decides p → (us : List Leaf) → Begins p us → Walked m p us ts
      walked none m p k us b = inl ([], none, (refl, refl), subst (λ s. Begins p s) (sym (append-nil us)) b)
      walked (more (node (Text words at) ks) ts) m p k us b = walk_text m p k us ts words at ks b (walked ts m p k us b)
      walked (more (node (Element n xs declares at) ks) ts) m p k us b =
          walk_element m p k us ts ks n xs declares at b (λ d. decided (node (Element n xs declares at) ks) d (λ at words e. cc)) (λ us b. walked ts m p k us b)
