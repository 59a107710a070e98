-- What simple types are, by the label and the kids of their elements.
use Rattle.std.proofs.Common.{◌≡◌, ℕ, ◌<◌, ◌+◌, true, false, cond, List, ◌++◌, length, drop, get_or, ap, sym, ◌∙◌, Option, Some, None}
use Rattle.schema_read.proofs.Words.{option_or, is_some, cond-true, cond-false, Name, Rose, node, roses_of, list_of, label_of, kids_of, roses_of-list_of, roses_of-drop, ItemLabel, Element, Text, Bases, How, own_attributes, is_in, Varieties, SimpleTypes, made_by, placed, defined, and_inner, variety_at, variety_among, simple_type, inner_types}

module _ (outer : List (List ℕ × List ℕ)) where
  pub variety_at-text : (t : Rose ItemLabel) (text : List ℕ) (at : ℕ) → label_of t ≡ Text text at → None ≡ variety_at outer t
  variety_at-text (node l ts) text at is = sym (ap (λ k. variety_at outer (node k ts)) is)

  pub simple_type-text : (t : Rose ItemLabel) (text : List ℕ) (at : ℕ) → label_of t ≡ Text text at → None ≡ simple_type outer t
  simple_type-text (node l ts) text at is = sym (ap (λ k. simple_type outer (node k ts)) is)

  module _ (name : Name) (attributes : List (Name × List ℕ)) (declares : List (List ℕ × List ℕ)) (at : ℕ) where
    variety_at-element : (t : Rose ItemLabel) → label_of t ≡ Element name attributes declares at
        → variety_at outer t
        ≡ cond (is_in Varieties (label_of t)) (placed at (made_by name.local (declares ++ outer) (own_attributes attributes) (inner_types (declares ++ outer) (roses_of (kids_of t))) (kids_of t))) None
    variety_at-element (node l ts) is =
        ap (λ k. variety_at outer (node k ts)) is
        ∙ (ap (λ us. cond (is_in Varieties (Element name attributes declares at))
        (placed at (made_by name.local (declares ++ outer) (own_attributes attributes) (inner_types (declares ++ outer) us) (list_of ts))) None) (sym (roses_of-list_of ts))
        ∙ ap (λ k. cond (is_in Varieties k)
        (placed at (made_by name.local (declares ++ outer) (own_attributes attributes) (inner_types (declares ++ outer) (roses_of (list_of ts))) (list_of ts))) None) (sym is))

    simple_type-element : (t : Rose ItemLabel) → label_of t ≡ Element name attributes declares at
        → simple_type outer t ≡ cond (is_in SimpleTypes (label_of t)) (defined at (variety_among (declares ++ outer) (roses_of (kids_of t)))) None
    simple_type-element (node l ts) is =
        ap (λ k. simple_type outer (node k ts)) is
        ∙ (ap (λ us. cond (is_in SimpleTypes (Element name attributes declares at)) (defined at (variety_among (declares ++ outer) us)) None) (sym (roses_of-list_of ts))
        ∙ ap (λ k. cond (is_in SimpleTypes k) (defined at (variety_among (declares ++ outer) (roses_of (list_of ts)))) None) (sym is))

  module _ (t : Rose ItemLabel) (name : Name) (attributes : List (Name × List ℕ)) (declares : List (List ℕ × List ℕ)) (at : ℕ) (label : label_of t ≡ Element name attributes declares at) where
    -- the element is none, or one of these
    pub no_variety : is_in Varieties (label_of t) ≡ false → None ≡ variety_at outer t
    no_variety is = sym (variety_at-element name attributes declares at t label ∙ cond-false (is_in Varieties (label_of t)) (placed at (made_by name.local (declares ++ outer) (own_attributes attributes) (inner_types (declares ++ outer) (roses_of (kids_of t))) (kids_of t))) None is)

    pub its_variety : is_in Varieties (label_of t) ≡ true
        → placed at (made_by name.local (declares ++ outer) (own_attributes attributes) (inner_types (declares ++ outer) (roses_of (kids_of t))) (kids_of t)) ≡ variety_at outer t
    its_variety is =
        sym (variety_at-element name attributes declares at t label
        ∙ cond-true (is_in Varieties (label_of t)) (placed at (made_by name.local (declares ++ outer) (own_attributes attributes) (inner_types (declares ++ outer) (roses_of (kids_of t))) (kids_of t))) None is)

    pub no_simple_type : is_in SimpleTypes (label_of t) ≡ false → None ≡ simple_type outer t
    no_simple_type is = sym (simple_type-element name attributes declares at t label ∙ cond-false (is_in SimpleTypes (label_of t)) (defined at (variety_among (declares ++ outer) (roses_of (kids_of t)))) None is)

    pub its_simple_type : is_in SimpleTypes (label_of t) ≡ true → defined at (variety_among (declares ++ outer) (roses_of (kids_of t))) ≡ simple_type outer t
    its_simple_type is = sym (simple_type-element name attributes declares at t label ∙ cond-true (is_in SimpleTypes (label_of t)) (defined at (variety_among (declares ++ outer) (roses_of (kids_of t)))) None is)

-- the kid with number i of a list, as a loop has it
module _ (scope : List (List ℕ × List ℕ)) (kids : List (Rose ItemLabel)) (i : ℕ) (kid : Rose ItemLabel) (at : i < length kids) (here : kid ≡ get_or kids i kid) where
  first_cut : variety_among scope (roses_of (drop i kids)) ≡ option_or (variety_at scope kid) (variety_among scope (roses_of (drop (i + 1) kids)))
  first_cut = ap (variety_among scope) (roses_of-drop kids i kid at here)

  pub variety_passed : (found : Option (ℕ × How)) → found ≡ variety_at scope kid → is_some found ≡ false
      → variety_among scope (roses_of (drop (i + 1) kids)) ≡ variety_among scope (roses_of (drop i kids))
  variety_passed None is absent = ap (λ f. option_or f (variety_among scope (roses_of (drop (i + 1) kids)))) is ∙ sym first_cut
  variety_passed (Some found) is absent = absurd (cc)

  pub variety_found : (found : Option (ℕ × How)) → found ≡ variety_at scope kid → is_some found ≡ true
      → found ≡ variety_among scope (roses_of (drop i kids))
  variety_found None is some = absurd (cc)
  variety_found (Some found) is some = ap (λ f. option_or f (variety_among scope (roses_of (drop (i + 1) kids)))) is ∙ sym first_cut

  pub inner_cut : inner_types scope (roses_of (drop i kids)) ≡ and_inner (simple_type scope kid) (inner_types scope (roses_of (drop (i + 1) kids)))
  inner_cut = ap (inner_types scope) (roses_of-drop kids i kid at here)

-- the same parts make the same type
pub made_same : (n m : List ℕ) (s r : List (List ℕ × List ℕ)) (o p : List (List ℕ × List ℕ)) (i j : Bases) (k h : List (Rose ItemLabel))
    → n ≡ m → s ≡ r → o ≡ p → i ≡ j → k ≡ h → made_by n s o i k ≡ made_by m r p j h
made_same n m s r o p i j k h names scopes owns inners kids =
    ap (λ x. made_by x s o i k) names
    ∙ (ap (λ x. made_by m x o i k) scopes
    ∙ (ap (λ x. made_by m r x i k) owns
    ∙ (ap (λ x. made_by m r p x k) inners
    ∙ ap (λ x. made_by m r p j x) kids)))
