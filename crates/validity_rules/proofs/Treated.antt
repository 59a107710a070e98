-- Treated attributes are right, stand, and are treated as they are.
use Rattle.std.proofs.Common.{◌≡◌, ℕ, List, [], ◌∷◌, Option, Some, None, Bool, true, false, refl, sym, ◌∙◌, ap, subst}
use Rattle.std.specs.Prelude.{All, slice_index_or, Ok, Err, codes, ◌||◌, ◌&&◌, not}
use Rattle.std.specs.List.{list_any}
use Rattle.std.proofs.lemmas.List.Elements.{All-nil, All-cons, All-head, All-tail}
use Rattle.base_texts.specs.declared.texts.Name.{Name}
use Rattle.base_texts.specs.Names.{name_eq}
use Rattle.base_texts.specs.WhiteSpace.{is_white_space, words_of, treated}
use Rattle.base_texts.proofs.NameLaws.{name_eq-Decides}
use Rattle.base_trees.specs.Rose.{Rose}
use Rattle.simple_types.specs.declared.labels.ValueLabel.{ValueLabel}
use Rattle.simple_types.specs.Space.{Space}
use Rattle.simple_types.specs.Sound.{Sound}
use Rattle.simple_types.specs.Reading.{Reading, reads, spelled}
use Rattle.simple_types.proofs.OwnSpellings.{holds_again}
use Rattle.validity_rules.specs.Asked.{Attribute}
use Rattle.validity_rules.specs.Attributes.{xsi_type, xsi_nil, is_special, location_hints, text_of, left, Nil, not_nil, is_nil, bad_nil, nil_by, nil_of, declared, Takes, IsRight, Stands, AllRight, AllStand, spelled_read, treated_text, put_attribute, has_spelling, unless_standard, treated_attribute, treated_attributes, with_nil}

-- ---- what is asked of attributes

abbrev pub AllSound : List Attribute → Type 0
AllSound wanted = All (λ (a : Attribute). Sound a.space) wanted

abbrev pub IsPlain : Attribute → Type 0
IsPlain a = is_special a.name ≡ false

abbrev pub Differ : Attribute → Attribute → Type 0
Differ a b = (name_eq a.name b.name ≡ false) × (name_eq b.name a.name ≡ false)

-- no two have one name
abbrev pub AllApart : List Attribute → Type 0
AllApart [] = Unit {0}
AllApart (a ∷ wanted) = All (Differ a) wanted × AllApart wanted

itself : (n : Name) → name_eq n n ≡ true
itself n = (name_eq-Decides n n).1 refl

abbrev IsDeclared : List Attribute → Attribute → Type 0
IsDeclared wanted a = declared wanted a.name ≡ Some a

declared_later : (a : Attribute) (wanted bs : List Attribute) → All (Differ a) bs → All (IsDeclared wanted) bs → All (IsDeclared (a ∷ wanted)) bs
declared_later a wanted [] h k = All-nil (IsDeclared (a ∷ wanted))
declared_later a wanted (b ∷ bs) h k =
    All-cons (IsDeclared (a ∷ wanted)) b bs (rw ((All-head (Differ a) b bs h).0) (All-head (IsDeclared wanted) b bs k))
    (declared_later a wanted bs (All-tail (Differ a) b bs h) (All-tail (IsDeclared wanted) b bs k))

pub declared_each : (wanted : List Attribute) → AllApart wanted → All (IsDeclared wanted) wanted
declared_each [] h = All-nil (IsDeclared [])
declared_each (a ∷ wanted) (h, k) =
    All-cons (IsDeclared (a ∷ wanted)) a wanted (rw (itself a.name) refl) (declared_later a wanted wanted h (declared_each wanted k))

-- ---- one text, treated again

again_read : (s : Space) → Sound s → (text : List ℕ) (r : Reading) → reads s text ≡ r → (y : List ℕ) → spelled_read s r ≡ Some y → (v : Rose ValueLabel) × (reads s y ≡ Ok v) × (spelled s v ≡ y)
again_read s sound text (Ok v) e y q = let same : spelled s v ≡ y = cc in (v, subst (λ z. reads s z ≡ Ok v) same (holds_again s sound text v e), same)
again_read s sound text (Err why) e y q = absurd (cc)

again_text : (s : Space) → Sound s → (o : Option (List ℕ)) (y : List ℕ) → treated_text s o ≡ Some y → (v : Rose ValueLabel) × (reads s y ≡ Ok v) × (spelled s v ≡ y)
again_text s sound None y e = absurd (cc)
again_text s sound (Some text) y e = again_read s sound text (reads s text) refl y e

-- ---- a value constraint

-- a text that stays is the one that was there
kept_text : (a : Attribute) (o : Option (List ℕ)) (y : List ℕ) → unless_standard a o ≡ Some y → o ≡ Some y
kept_text a None y e = e
kept_text a (Some x) y e = go (not a.required && has_spelling a.standard x) refl
  where
    go : (is : Bool) → (not a.required && has_spelling a.standard x) ≡ is → Some x ≡ Some y
    go true q = absurd (let n : None ≡ Some y = sym (rw q refl) ∙ e in cc)
    go false q = sym (rw q refl) ∙ e

-- what is required stays
required_stays : (a : Attribute) → a.required ≡ true → (o : Option (List ℕ)) → unless_standard a o ≡ o
required_stays a e None = refl
required_stays a e (Some x) = rw e refl

-- treated again it is the same
constrained_still : (a : Attribute) → Sound a.space → (o k : Option (List ℕ)) → treated_text a.space o ≡ k
    → (n : Option (List ℕ)) → unless_standard a k ≡ n → unless_standard a (treated_text a.space n) ≡ n
constrained_still a sound o k e None q = refl
constrained_still a sound o k e (Some y) q =
    let same : k ≡ Some y = kept_text a k y q in
    let h = again_text a.space sound o y (e ∙ same) in
    let again : treated_text a.space (Some y) ≡ Some y = rw (h.1) (ap (λ z. Some z) h.2) in
    ap (unless_standard a) again ∙ subst (λ z. unless_standard a z ≡ Some y) same q

-- ---- look-ups among treated attributes

-- no attribute of these has the name
abbrev Lack : Name → List Attribute → Type 0
Lack n bs = All (λ (b : Attribute). name_eq b.name n ≡ false) bs

put_lacks : (a n : Name) (k : Option (List ℕ)) (xs : List (Name × List ℕ)) → name_eq a n ≡ false → text_of (put_attribute a k xs) n ≡ text_of xs n
put_lacks a n None xs e = refl
put_lacks a n (Some y) xs e = rw e refl

put_has : (a : Name) (k : Option (List ℕ)) (xs : List (Name × List ℕ)) → text_of xs a ≡ None → text_of (put_attribute a k xs) a ≡ k
put_has a None xs e = e
put_has a (Some y) xs e = rw (itself a) refl

module _ (ls : List (Name × List ℕ)) where
  abbrev text_at : Attribute → Option (List ℕ)
  text_at a = treated_attribute a ls

  lacked : (n : Name) (bs : List Attribute) → Lack n bs → text_of (treated_attributes bs ls) n ≡ None
  lacked n [] h = refl
  lacked n (b ∷ bs) h =
      put_lacks b.name n (text_at b) (treated_attributes bs ls) (All-head (λ (b : Attribute). name_eq b.name n ≡ false) b bs h)
      ∙ lacked n bs (All-tail (λ (b : Attribute). name_eq b.name n ≡ false) b bs h)

  differ_lack : (a : Attribute) (bs : List Attribute) → All (Differ a) bs → Lack a.name bs
  differ_lack a bs h = λ i d lt. (h i d lt).1

  abbrev IsLooked : List (Name × List ℕ) → Attribute → Type 0
  IsLooked T a = text_of T a.name ≡ text_at a

  looked_later : (a : Attribute) (T : List (Name × List ℕ)) (bs : List Attribute) → All (Differ a) bs → All (IsLooked T) bs → All (IsLooked (put_attribute a.name (text_at a) T)) bs
  looked_later a T [] h k = All-nil (IsLooked (put_attribute a.name (text_at a) T))
  looked_later a T (b ∷ bs) h k =
      All-cons (IsLooked (put_attribute a.name (text_at a) T)) b bs (put_lacks a.name b.name (text_at a) T (All-head (Differ a) b bs h).0 ∙ All-head (IsLooked T) b bs k)
      (looked_later a T bs (All-tail (Differ a) b bs h) (All-tail (IsLooked T) b bs k))

  pub looked_each : (wanted : List Attribute) → AllApart wanted → All (IsLooked (treated_attributes wanted ls)) wanted
  looked_each [] h = All-nil (IsLooked [])
  looked_each (a ∷ wanted) (h, k) =
      All-cons (IsLooked (treated_attributes (a ∷ wanted) ls)) a wanted
      (put_has a.name (text_at a) (treated_attributes wanted ls) (lacked a.name wanted (differ_lack a wanted h)))
      (looked_later a (treated_attributes wanted ls) wanted h (looked_each wanted k))

  -- ---- treated again they are the same

  treated_as : (T : List (Name × List ℕ)) (bs : List Attribute) → AllSound bs → All (IsLooked T) bs → treated_attributes bs T ≡ treated_attributes bs ls
  treated_as T [] h k = refl
  treated_as T (b ∷ bs) h k =
      let here : treated_attribute b T ≡ text_at b =
      ap (λ o. unless_standard b (treated_text b.space o)) (All-head (IsLooked T) b bs k)
      ∙ constrained_still b (All-head (λ (a : Attribute). Sound a.space) b bs h) (text_of ls b.name) (treated_text b.space (text_of ls b.name)) refl (text_at b) refl
      in
      ap (λ o. put_attribute b.name o (treated_attributes bs T)) here
      ∙ ap (put_attribute b.name (text_at b)) (treated_as T bs (All-tail (λ (a : Attribute). Sound a.space) b bs h) (All-tail (IsLooked T) b bs k))

  pub treated_same : (wanted : List Attribute) → AllSound wanted → AllApart wanted → treated_attributes wanted (treated_attributes wanted ls) ≡ treated_attributes wanted ls
  treated_same wanted h k = treated_as (treated_attributes wanted ls) wanted h (looked_each wanted k)

  -- ---- they are right

  pub text_right : (wanted : List Attribute) (n : Name) (xs : List (Name × List ℕ)) (text : List ℕ) → AllRight wanted xs → text_of xs n ≡ Some text → IsRight wanted (n, text)
  text_right wanted n [] text h e = absurd (cc)
  text_right wanted n (x ∷ xs) text h e = go (name_eq x.0 n) refl (λ q. text_right wanted n xs text (All-tail (IsRight wanted) x xs h) q)
    where
      go : (is : Bool) → name_eq x.0 n ≡ is → (text_of xs n ≡ Some text → IsRight wanted (n, text)) → IsRight wanted (n, text)
      go true q others =
          let same : x.0 ≡ n = (name_eq-Decides x.0 n).0 q in
          let here : Some x.1 ≡ Some text = sym (rw q refl) ∙ e in
          let words : x.1 ≡ text = cc in
          subst (λ z. IsRight wanted (z, text)) same (subst (λ z. IsRight wanted (x.0, z)) words (All-head (IsRight wanted) x xs h))
      go false q others = others (sym (rw q refl) ∙ e)

  abbrev TakesAt : Option Attribute → List ℕ → Type 0
  TakesAt o text = elim o [ None ↦ ⊥ | Some a ↦ Takes a text ]

  -- the spelling of a text that is taken is taken
  taken_again : (a : Attribute) → Sound a.space → (text : List ℕ) → Takes a text → (y : List ℕ) → treated_text a.space (Some text) ≡ Some y → Takes a y
  taken_again a sound text (v, e, f) y q =
      let here : Some (spelled a.space v) ≡ Some y = ap (spelled_read a.space) (sym e) ∙ q in
      let same : spelled a.space v ≡ y = cc in
      subst (Takes a) same (v, holds_again a.space sound text v e, f)

  module _ (wanted : List Attribute) (right : AllRight wanted ls) where
    found_again : (b : Attribute) → Sound b.space → IsDeclared wanted b → (o : Option (List ℕ)) → text_of ls b.name ≡ o → (y : List ℕ) → treated_text b.space o ≡ Some y → Takes b y
    found_again b sound is None e y q = absurd (cc)
    found_again b sound is (Some text) e y q = taken_again b sound text (subst (λ o. TakesAt o text) is (text_right wanted b.name ls text right e)) y q

    put_right : (b : Attribute) → Sound b.space → IsDeclared wanted b → (k : Option (List ℕ)) → text_at b ≡ k → (xs : List (Name × List ℕ)) → AllRight wanted xs → AllRight wanted (put_attribute b.name k xs)
    put_right b sound is None e xs h = h
    put_right b sound is (Some y) e xs h =
        let r = found_again b sound is (text_of ls b.name) refl y (kept_text b (treated_text b.space (text_of ls b.name)) y e) in
        All-cons (IsRight wanted) (b.name, y) xs (subst (λ o. TakesAt o y) (sym is) r) h

    right_each : (bs : List Attribute) → AllSound bs → All (IsDeclared wanted) bs → AllRight wanted (treated_attributes bs ls)
    right_each [] h k = All-nil (IsRight wanted)
    right_each (b ∷ bs) h k =
        put_right b (All-head (λ (a : Attribute). Sound a.space) b bs h) (All-head (IsDeclared wanted) b bs k) (text_at b) refl (treated_attributes bs ls)
        (right_each bs (All-tail (λ (a : Attribute). Sound a.space) b bs h) (All-tail (IsDeclared wanted) b bs k))

  pub treated_right : (wanted : List Attribute) → AllSound wanted → AllApart wanted → AllRight wanted ls → AllRight wanted (treated_attributes wanted ls)
  treated_right wanted h k right = right_each wanted right wanted h (declared_each wanted k)

  -- ---- those that are required stand

  accepted_stays : (a : Attribute) (text : List ℕ) → Takes a text → treated_text a.space (Some text) ≡ None → ⊥
  accepted_stays a text (v, e, f) n = let here : spelled_read a.space (Ok v) ≡ None = ap (spelled_read a.space) (sym e) ∙ n in cc

  one_stands : (wanted : List Attribute) → AllRight wanted ls → (a : Attribute) → IsDeclared wanted a → (o : Option (List ℕ)) → text_of ls a.name ≡ o → Stands ls a → a.required ≡ true → treated_text a.space o ≡ None → ⊥
  one_stands wanted right a is None e stands q n = stands q e
  one_stands wanted right a is (Some text) e stands q n = accepted_stays a text (subst (λ o. TakesAt o text) is (text_right wanted a.name ls text right e)) n

  pub treated_stand : (wanted : List Attribute) → AllApart wanted → AllRight wanted ls → AllStand wanted ls → AllStand wanted (treated_attributes wanted ls)
  treated_stand wanted k right h = λ i d lt q n.
      let a = slice_index_or wanted i d in
      one_stands wanted right a (declared_each wanted k i d lt) (text_of ls a.name) refl (h i d lt) q
      (sym (required_stays a q (treated_text a.space (text_of ls a.name))) ∙ sym (looked_each wanted k i d lt) ∙ n)

-- ---- they are none of those that any element may have

pub both_false : (a b : Bool) → (a || b) ≡ false → (a ≡ false) × (b ≡ false)
both_false true b e = absurd (cc)
both_false false b e = (refl, e)

plain_not : (a : Attribute) → IsPlain a → (name_eq a.name xsi_type ≡ false) × (name_eq a.name xsi_nil ≡ false)
plain_not a h =
    let first = both_false (name_eq a.name xsi_type) (list_any (name_eq a.name) (xsi_nil ∷ location_hints)) h in
    (first.0, (both_false (name_eq a.name xsi_nil) (list_any (name_eq a.name) location_hints) first.1).0)

module _ (ls : List (Name × List ℕ)) (wanted : List Attribute) (plain : All IsPlain wanted) where
  pub no_type : text_of (treated_attributes wanted ls) xsi_type ≡ None
  no_type = lacked ls xsi_type wanted (λ i d lt. (plain_not (slice_index_or wanted i d) (plain i d lt)).0)

  pub no_nil : text_of (treated_attributes wanted ls) xsi_nil ≡ None
  no_nil = lacked ls xsi_nil wanted (λ i d lt. (plain_not (slice_index_or wanted i d) (plain i d lt)).1)

put_left : (a : Name) (k : Option (List ℕ)) (xs : List (Name × List ℕ)) → is_special a ≡ false → left (put_attribute a k xs) ≡ put_attribute a k (left xs)
put_left a None xs e = refl
put_left a (Some y) xs e = rw e refl

pub left_treated : (ls : List (Name × List ℕ)) (bs : List Attribute) → All IsPlain bs → left (treated_attributes bs ls) ≡ treated_attributes bs ls
left_treated ls [] h = refl
left_treated ls (b ∷ bs) h =
    put_left b.name (treated_attribute b ls) (treated_attributes bs ls) (All-head IsPlain b bs h)
    ∙ ap (put_attribute b.name (treated_attribute b ls)) (left_treated ls bs (All-tail IsPlain b bs h))

-- ---- with `xsi:nil`

nil_nillable : (nillable : Bool) (o : Option (List ℕ)) → nil_by nillable o ≡ is_nil → nillable ≡ true
nil_nillable true o e = refl
nil_nillable false None e = absurd (cc)
nil_nillable false (Some x) e = absurd (cc)

nil_true : (nillable : Bool) → nillable ≡ true → nil_by nillable (Some (codes "true")) ≡ is_nil
unfolding treated words_of is_white_space
nil_true true e = refl
nil_true false e = absurd (cc)

pub nil_again : (n : Nil) (nillable : Bool) (o : Option (List ℕ)) (T : List (Name × List ℕ)) → nil_by nillable o ≡ n → text_of T xsi_nil ≡ None → (n ≡ bad_nil → ⊥) → nil_of nillable (with_nil n T) ≡ n
nil_again bad_nil nillable o T e q f = absurd (f refl)
nil_again is_nil nillable o T e q f = nil_true nillable (nil_nillable nillable o e)
nil_again not_nil nillable o T e q f = ap (nil_by nillable) q

pub type_again : (n : Nil) (T : List (Name × List ℕ)) → text_of T xsi_type ≡ None → text_of (with_nil n T) xsi_type ≡ None
type_again bad_nil T e = e
type_again is_nil T e = e
type_again not_nil T e = e

pub left_again : (n : Nil) (T : List (Name × List ℕ)) → left (with_nil n T) ≡ left T
left_again bad_nil T = refl
left_again is_nil T = refl
left_again not_nil T = refl
