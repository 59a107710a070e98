-- Attributes in canonical spelling, in the order of the uses, that are kept are right, stand, and are their own treated
-- attributes.
use Rattle.std.proofs.Common.{◌≡◌, ℕ, inl, inr, Bool, true, false, not, ◌&&◌, Option, Some, None, List, [], ◌∷◌, map, refl, sym, ap, subst, ◌∙◌}
use Rattle.std.specs.Prelude.{All, bytes_eq, if◌then◌else◌}
use Rattle.std.proofs.lemmas.List.Elements.{All-nil, All-cons, All-head, All-tail}
use Rattle.std.proofs.lemmas.Slice.Eq.{bytes_eq-Decides}
use Rattle.base_texts.specs.declared.texts.Name.{Name}
use Rattle.base_texts.specs.Names.{name_eq}
use Rattle.base_texts.proofs.NameLaws.{name_eq-Decides}
use Rattle.simple_types.specs.declared.standards.Standard.{Standard}
use Rattle.simple_types.specs.declared.standards.Standard.TheVariants.{Free, Default, Fixed}
use Rattle.schema_components.specs.declared.components.AttributeUse.{AttributeUse}
use Rattle.schema_components.specs.SetParts.{SetParts}
use Rattle.validity_rules.specs.Asked.{Attribute, space_at, attribute_in}
use Rattle.validity_rules.specs.Attributes.{text_of, declared, IsFixedTo, Takes, IsRight, Stands, spelled_read, put_attribute, treated_text, has_spelling, unless_standard, treated_attribute, treated_attributes}
use Rattle.value_laws.proofs.Walking.{Outside, Apart, AllApart}
use Rattle.value_laws.proofs.Spelled.{KeptAs, IsKept, AreSpelled}

-- ---- texts of attributes

itself : (n : Name) → name_eq n n ≡ true
itself n = (name_eq-Decides n n).1 refl

differ : (m n : Name) → (m ≡ n → ⊥) → name_eq m n ≡ false
differ m n f = by (name_eq m n) refl
  where
    by : (b : Bool) → name_eq m n ≡ b → name_eq m n ≡ false
    by false e = e
    by true e = absurd (f ((name_eq-Decides m n).0 e))

here : (n : Name) (t : List ℕ) (xs : List (Name × List ℕ)) → text_of ((n, t) ∷ xs) n ≡ Some t
here n t xs = ap (λ b. if b then Some t else text_of xs n) (itself n)

later : (m n : Name) (t : List ℕ) (xs : List (Name × List ℕ)) → (m ≡ n → ⊥) → text_of ((m, t) ∷ xs) n ≡ text_of xs n
later m n t xs f = ap (λ b. if b then Some t else text_of xs n) (differ m n f)

nowhere : (n : Name) (xs : List (Name × List ℕ)) → Outside n xs → text_of xs n ≡ None
nowhere n [] h = refl
nowhere n ((m, t) ∷ xs) h = later m n t xs h.0 ∙ nowhere n xs h.1

-- ---- default and fixed values

other-bytes : (a b : List ℕ) → (a ≡ b → ⊥) → bytes_eq a b ≡ false
other-bytes a b f = by (bytes_eq a b) refl
  where
    by : (r : Bool) → bytes_eq a b ≡ r → bytes_eq a b ≡ false
    by false e = e
    by true e = absurd (f ((bytes_eq-Decides a b).0 e))

-- an attribute that is kept says something
says : (standard : Standard) (required : Bool) (words : List ℕ) → KeptAs standard required words → (not required && has_spelling standard words) ≡ false
says standard true words k = refl
says Free false words k = refl
says (Default text) false words k = other-bytes words text k
says (Fixed text) false words k = absurd (let e = k.0 in cc)

fixed-to : (standard : Standard) (required : Bool) (words : List ℕ) → KeptAs standard required words → IsFixedTo standard words
fixed-to Free required words k = tt
fixed-to (Default text) required words k = tt
fixed-to (Fixed text) required words k = k.1

module _ (s : SetParts) where
  stays : (d : AttributeUse) (words : List ℕ) → IsKept d words → unless_standard (attribute_in s d) (Some words) ≡ Some words
  stays d words k = ap (λ b. if b then None else Some words) (says d.standard d.required words k)

  abbrev Spelled : List AttributeUse → List (Name × List ℕ) → Type 0
  Spelled = AreSpelled (space_at s)

  spelled-outside : (n : Name) (ds : List AttributeUse) (xs : List (Name × List ℕ)) → Apart n ds → Spelled ds xs → Outside n xs
  spelled-outside n [] xs a h = subst (Outside n) (sym h) tt
  spelled-outside n (d ∷ ds) xs a (inl h) = spelled-outside n ds xs a.1 h.1
  spelled-outside n (d ∷ ds) xs a (inr h) = subst (Outside n) (sym h.2) (a.0, spelled-outside n ds h.1 a.1 h.5)

  -- both have the same texts for these uses
  abbrev SameTexts : List (Name × List ℕ) → List (Name × List ℕ) → List AttributeUse → Type 0
  SameTexts xs ys [] = Unit {0}
  SameTexts xs ys (d ∷ ds) = (text_of xs d.name ≡ text_of ys d.name) × SameTexts xs ys ds

  same-itself : (xs : List (Name × List ℕ)) (ds : List AttributeUse) → SameTexts xs xs ds
  same-itself xs [] = tt
  same-itself xs (d ∷ ds) = (refl, same-itself xs ds)

  same-behind : (n : Name) (t : List ℕ) (xs ys zs : List (Name × List ℕ)) (ds : List AttributeUse) → Apart n ds → ys ≡ (n, t) ∷ zs → SameTexts xs ys ds → SameTexts xs zs ds
  same-behind n t xs ys zs [] a e h = tt
  same-behind n t xs ys zs (d ∷ ds) a e h =
      (h.0 ∙ ap (λ k. text_of k d.name) e ∙ later n d.name t zs (λ f. a.0 (sym f)), same-behind n t xs ys zs ds a.1 e h.1)

  treated-own : (ds : List AttributeUse) (xs ys : List (Name × List ℕ)) → Spelled ds ys → AllApart ds → SameTexts xs ys ds → treated_attributes (map (attribute_in s) ds) xs ≡ ys
  treated-own [] xs ys h a same = sym h
  treated-own (d ∷ ds) xs ys (inl h) a same =
      let none : text_of xs d.name ≡ None = same.0 ∙ nowhere d.name ys (spelled-outside d.name ds ys a.0 h.1) in
      ap (λ o. put_attribute d.name (unless_standard (attribute_in s d) (treated_text (space_at s d.simple) o)) (treated_attributes (map (attribute_in s) ds) xs)) none
      ∙ treated-own ds xs ys h.1 a.1 same.1
  treated-own (d ∷ ds) xs ys (inr h) a same =
      let words = h.0 in
      let zs = h.1 in
      let text : text_of xs d.name ≡ Some words = same.0 ∙ ap (λ k. text_of k d.name) h.2 ∙ here d.name words zs in
      let spelled_again : treated_text (space_at s d.simple) (text_of xs d.name) ≡ Some words =
      ap (treated_text (space_at s d.simple)) text ∙ ap (spelled_read (space_at s d.simple)) h.3.1 ∙ ap Some h.3.2 in
      let again : treated_attribute (attribute_in s d) xs ≡ Some words = ap (unless_standard (attribute_in s d)) spelled_again ∙ stays d words h.4 in
      ap (λ o. put_attribute d.name o (treated_attributes (map (attribute_in s) ds) xs)) again
      ∙ ap (λ k. (d.name, words) ∷ k) (treated-own ds xs zs h.5 a.1 (same-behind d.name words xs ys zs ds a.0 h.2 same.1)) ∙ sym h.2

  pub treated-itself : (ds : List AttributeUse) (xs : List (Name × List ℕ)) → Spelled ds xs → AllApart ds → treated_attributes (map (attribute_in s) ds) xs ≡ xs
  treated-itself ds xs h a = treated-own ds xs xs h a (same-itself xs ds)

  stand-own : (ds : List AttributeUse) (xs ys : List (Name × List ℕ)) → Spelled ds ys → AllApart ds → SameTexts xs ys ds → All (Stands xs) (map (attribute_in s) ds)
  stand-own [] xs ys h a same = All-nil (Stands xs)
  stand-own (d ∷ ds) xs ys (inl h) a same =
      All-cons (Stands xs) (attribute_in s d) (map (attribute_in s) ds) (λ r none. absurd (let e = sym r ∙ h.0 in cc)) (stand-own ds xs ys h.1 a.1 same.1)
  stand-own (d ∷ ds) xs ys (inr h) a same =
      let text : text_of xs d.name ≡ Some h.0 = same.0 ∙ ap (λ k. text_of k d.name) h.2 ∙ here d.name h.0 h.1 in
      All-cons (Stands xs) (attribute_in s d) (map (attribute_in s) ds) (λ r none. absurd (let e = sym text ∙ none in cc))
      (stand-own ds xs h.1 h.5 a.1 (same-behind d.name h.0 xs ys h.1 ds a.0 h.2 same.1))

  pub stand-itself : (ds : List AttributeUse) (xs : List (Name × List ℕ)) → Spelled ds xs → AllApart ds → All (Stands xs) (map (attribute_in s) ds)
  stand-itself ds xs h a = stand-own ds xs xs h a (same-itself xs ds)

  abbrev Declared : List Attribute → Attribute → Type 0
  Declared wanted a = declared wanted a.name ≡ Some a

  pub right-own : (wanted : List Attribute) (ds : List AttributeUse) (xs : List (Name × List ℕ)) → All (Declared wanted) (map (attribute_in s) ds) → Spelled ds xs → All (IsRight wanted) xs
  right-own wanted [] xs k h = subst (All (IsRight wanted)) (sym h) (All-nil (IsRight wanted))
  right-own wanted (d ∷ ds) xs k (inl h) = right-own wanted ds xs (All-tail (Declared wanted) (attribute_in s d) (map (attribute_in s) ds) k) h.1
  right-own wanted (d ∷ ds) xs k (inr h) =
      let found = All-head (Declared wanted) (attribute_in s d) (map (attribute_in s) ds) k in
      subst (All (IsRight wanted)) (sym h.2)
      (All-cons (IsRight wanted) (d.name, h.0) h.1 (by (declared wanted d.name) found) (right-own wanted ds h.1 (All-tail (Declared wanted) (attribute_in s d) (map (attribute_in s) ds) k) h.5))
    where
      -- its own text is taken
      taken : Takes (attribute_in s d) h.0
      taken = (h.3.0, h.3.1, subst (IsFixedTo d.standard) (sym h.3.2) (fixed-to d.standard d.required h.0 h.4))

      by : (o : Option Attribute) → o ≡ Some (attribute_in s d) → elim o as (λ _. Type 0) [ None ↦ ⊥ | Some a ↦ Takes a h.0 ]
      by None e = absurd (cc)
      by (Some a) e = let same : attribute_in s d ≡ a = cc in subst (λ z. Takes z h.0) same taken
