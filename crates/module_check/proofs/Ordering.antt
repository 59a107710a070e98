-- The parts of a SEQUENCE with a role, one behind another.
use Rattle.std.proofs.Common.{◌≡◌, ℕ, suc, ◌-◌, cond, not, Option, Some, None, slice_get, option_map, ◌+◌, ◌<◌, ◌≤◌, Bool, true, false, ◌&&◌, List, [], ◌∷◌, ◌++◌, length, get_or, drop, map, bytes_eq, refl, sym, ap, ◌∙◌, append_assoc}
use Rattle.std.specs.Prelude.{if◌then◌else◌}
use Rattle.std.proofs.lemmas.List.{drop_more, at_drop_all, append-nil}
use Rattle.std.proofs.lemmas.Option.{none-some}
use Rattle.base_trees.specs.Rose.{Rose, Roses, roses_of, list_of, label_of}
use Rattle.base_trees.proofs.Roses.{list_of-roses_of}
use Rattle.module_text.specs.declared.modules.PlainAssignment.{PlainAssignment}
use Rattle.asn_types.specs.declared.roles.Role.{Role}
use Rattle.asn_types.specs.Refs.{is_element}
use Rattle.module_text.specs.declared.types.PlainName.{PlainName}
use Rattle.module_text.specs.declared.types.PlainPart.{PlainPart}
use Rattle.module_text.specs.declared.types.PlainLabel.{PlainLabel}
use Rattle.module_text.specs.Told.{has_use_nil}
use Rattle.module_text.specs.Texts.{parts_of}
use Rattle.module_text.specs.Resolving.{role_of, order_place, resolve}
use Rattle.std.specs.Borrow.{Bor}
use Rattle.module_check.specs.Elements.{with_element, names_of, texts_in, part_of_order, content_of, content_order}
use Rattle.module_text.specs.Orders.{is_sequence, is_group, is_order, may_be_absent, element_identifiers, is_order_of, parts_from, are_none, has_no_group, are_equal, ordered, is_order_part, stands_alone, is_ordered, has_order_part}

abbrev pub identifiers_from : PlainLabel → ℕ → List PlainPart → List (List ℕ)
identifiers_from l i parts = map (λ (part : PlainPart). part.identifier) (parts_from l is_element i parts)

-- the part with number i, as a loop has it
module _ (l : PlainLabel) (parts : List PlainPart) (i : ℕ) (part : PlainPart) (at : i < length parts) (here : part ≡ get_or parts i part) where
  parts-here : drop i parts ≡ part ∷ drop (i + 1) parts
  parts-here = drop_more parts i part at ∙ ap (λ p. p ∷ drop (i + 1) parts) (sym here)

  module _ (is : Role → Bool) where
    pub with-it : is (role_of l i part) ≡ true → parts_from l is i (drop i parts) ≡ part ∷ parts_from l is (i + 1) (drop (i + 1) parts)
    with-it e = ap (parts_from l is i) parts-here ∙ rw e refl

    pub without-it : is (role_of l i part) ≡ false → parts_from l is i (drop i parts) ≡ parts_from l is (i + 1) (drop (i + 1) parts)
    without-it e = ap (parts_from l is i) parts-here ∙ rw e refl

  pub group-here : (due : Bool) → is_group (role_of l i part) ≡ true → are_none (parts_from l is_group i (drop i parts)) ≡ due → false ≡ due
  group-here due e so = sym (ap are_none (with-it is_group e)) ∙ so

  pub no-group_here : (due : Bool) → is_group (role_of l i part) ≡ false → are_none (parts_from l is_group i (drop i parts)) ≡ due
      → are_none (parts_from l is_group (i + 1) (drop (i + 1) parts)) ≡ due
  no-group_here due e so = sym (ap are_none (without-it is_group e)) ∙ so

  elements-here : identifiers_from l i (drop i parts) ≡ with_element l i part (identifiers_from l (i + 1) (drop (i + 1) parts))
  elements-here = ap (identifiers_from l i) parts-here ∙ by_role (is_element (role_of l i part)) refl
    where
      by_role : (b : Bool) → is_element (role_of l i part) ≡ b
          → identifiers_from l i (part ∷ drop (i + 1) parts) ≡ with_element l i part (identifiers_from l (i + 1) (drop (i + 1) parts))
      by_role true e = rw e refl
      by_role false e = rw e refl

  -- the identifiers noted so far, and those of the parts left
  pub with-element : (now old : List (List ℕ)) (due : List (List ℕ)) → is_element (role_of l i part) ≡ true → now ≡ old ++ part.identifier ∷ []
      → old ++ identifiers_from l i (drop i parts) ≡ due → now ++ identifiers_from l (i + 1) (drop (i + 1) parts) ≡ due
  with-element now old due e noted so =
      let left : identifiers_from l i (drop i parts) ≡ part.identifier ∷ identifiers_from l (i + 1) (drop (i + 1) parts) = elements-here ∙ rw e refl in
      ap (λ xs. xs ++ identifiers_from l (i + 1) (drop (i + 1) parts)) noted
      ∙ append_assoc old (part.identifier ∷ []) (identifiers_from l (i + 1) (drop (i + 1) parts))
      ∙ ap (λ xs. old ++ xs) (sym left) ∙ so

  pub without-element : (now due : List (List ℕ)) → is_element (role_of l i part) ≡ false
      → now ++ identifiers_from l i (drop i parts) ≡ due → now ++ identifiers_from l (i + 1) (drop (i + 1) parts) ≡ due
  without-element now due e so =
      let left : identifiers_from l i (drop i parts) ≡ identifiers_from l (i + 1) (drop (i + 1) parts) = elements-here ∙ rw e refl in
      ap (λ xs. now ++ xs) (sym left) ∙ so

-- behind the last part
module _ (l : PlainLabel) (parts : List PlainPart) (i : ℕ) (past : length parts ≤ i) where
  pub no-more_groups : (due : Bool) → are_none (parts_from l is_group i (drop i parts)) ≡ due → true ≡ due
  no-more_groups due so = sym (at_drop_all (λ ps. are_none (parts_from l is_group i ps)) parts i past) ∙ so

  pub all-elements : (now due : List (List ℕ)) → now ++ identifiers_from l i (drop i parts) ≡ due → now ≡ due
  all-elements now due so =
      sym (append-nil now) ∙ ap (λ xs. now ++ xs) (sym (at_drop_all (λ ps. identifiers_from l i ps) parts i past)) ∙ so

-- ---- names beside identifiers

pub texts-push : (texts : List (Bor (List ℕ))) (t : Bor (List ℕ)) → texts_in (texts ++ t ∷ []) ≡ texts_in texts ++ t.now ∷ []
texts-push [] t = refl
texts-push (u ∷ texts) t = ap (λ xs. u.now ∷ xs) (texts-push texts t)

pub other-count : (texts : List (Bor (List ℕ))) (names : List PlainName) → (length texts ≡ length names → ⊥) → are_equal (texts_in texts) (names_of names) ≡ false
other-count [] [] never = absurd (never refl)
other-count [] (n ∷ names) never = refl
other-count (t ∷ texts) [] never = refl
other-count (t ∷ texts) (n ∷ names) never =
    by_test (bytes_eq t.now n.name) (other-count texts names (λ same. never (ap suc same)))
  where
    by_test : (b : Bool) {c : Bool} → c ≡ false → (b && c) ≡ false
    by_test true e = e
    by_test false e = refl

module _ (texts : List (Bor (List ℕ))) (names : List PlainName) (i : ℕ) (due : Bool)
    (left : are_equal (texts_in (drop i texts)) (names_of (drop i names)) ≡ due) where
  module _ (t : Bor (List ℕ)) (n : PlainName) (at : i < length texts) (here : t ≡ get_or texts i t) (at_name : i < length names) (here_name : n ≡ get_or names i n) where
    both-here : (bytes_eq t.now n.name && are_equal (texts_in (drop (i + 1) texts)) (names_of (drop (i + 1) names))) ≡ due
    both-here =
        sym (ap (λ ts. are_equal (texts_in ts) (names_of (drop i names))) (drop_more texts i t at ∙ ap (λ u. u ∷ drop (i + 1) texts) (sym here))
        ∙ ap (λ ns. are_equal (texts_in (t ∷ drop (i + 1) texts)) (names_of ns)) (drop_more names i n at_name ∙ ap (λ m. m ∷ drop (i + 1) names) (sym here_name)))
        ∙ left

    pub name-differs : bytes_eq t.now n.name ≡ false → false ≡ due
    name-differs e = sym (ap (λ b. b && are_equal (texts_in (drop (i + 1) texts)) (names_of (drop (i + 1) names))) e) ∙ both-here

    pub name-same : bytes_eq t.now n.name ≡ true → are_equal (texts_in (drop (i + 1) texts)) (names_of (drop (i + 1) names)) ≡ due
    name-same e = sym (ap (λ b. b && are_equal (texts_in (drop (i + 1) texts)) (names_of (drop (i + 1) names))) e) ∙ both-here

  pub all-same : length texts ≤ i → length names ≤ i → true ≡ due
  all-same past past_names =
      sym (at_drop_all (λ ts. are_equal (texts_in ts) (names_of (drop i names))) texts i past
      ∙ at_drop_all (λ ns. are_equal [] (names_of ns)) names i past_names)
      ∙ left

-- ---- the whole

module _ (P : List PlainAssignment) (l : PlainLabel) (ts : Roses PlainLabel) (s : is_sequence l.form ≡ true) (g : has_no_group l ≡ true) where
  by-ordered : has_order_part P l ts ≡ is_ordered l (ordered P l ts) ts
  by-ordered = rw (s, g) refl

  pub own-order : has_use_nil l.marks ≡ false → has_order_part P l ts ≡ is_order_part l ts l
  own-order n =
      let meant : ordered P l ts ≡ Some l = rw n refl in
      let own : is_ordered l (Some l) ts ≡ is_order_part l ts l = rw (s, g, n) refl in
      by-ordered ∙ ap (λ o. is_ordered l o ts) meant ∙ own

  module _ (n : has_use_nil l.marks ≡ true) where
    meant-by : ordered P l ts ≡ option_map (λ t. label_of (resolve P t)) (slice_get (list_of ts) (length (list_of ts) - 1))
    meant-by = rw n refl

    pub content-ordered : (t : Rose PlainLabel) → slice_get (list_of ts) (length (list_of ts) - 1) ≡ Some t
        → has_order_part P l ts ≡ content_order l ts (content_of (label_of (resolve P t)))
    content-ordered t got =
        let inner = label_of (resolve P t) in
        let meant : ordered P l ts ≡ Some inner = meant-by ∙ ap (option_map (λ u. label_of (resolve P u))) got in
        let so : is_ordered l (Some inner) ts ≡ (is_sequence inner.form && has_no_group inner && stands_alone inner && is_order_part l ts inner) =
        ap (λ b. is_sequence inner.form && has_no_group inner && cond b (stands_alone inner) true && is_order_part l ts inner) n in
        by-ordered ∙ ap (λ o. is_ordered l o ts) meant ∙ so
        ∙ one_test (is_sequence inner.form) (has_no_group inner) (stands_alone inner) (is_order_part l ts inner)
        ∙ if-content (is_sequence inner.form && has_no_group inner && stands_alone inner) (element_identifiers inner)
      where
        one_test : (a b c d : Bool) → (a && b && c && d) ≡ cond (a && b && c) d false
        one_test true true true d = refl
        one_test true true false d = refl
        one_test true false c d = refl
        one_test false b c d = refl

        if-content : (b : Bool) (identifiers : List (List ℕ))
            → cond b (part_of_order l ts identifiers) false ≡ content_order l ts (if b then Some identifiers else None)
        if-content true identifiers = refl
        if-content false identifiers = refl

    pub no-content : slice_get (list_of ts) (length (list_of ts) - 1) ≡ None → has_order_part P l ts ≡ false
    no-content got =
        let meant : ordered P l ts ≡ None = meant-by ∙ ap (option_map (λ u. label_of (resolve P u))) got in
        by-ordered ∙ ap (λ o. is_ordered l o ts) meant

-- a part without a type has no order
abbrev pub has_order : PlainLabel → List (List ℕ) → PlainPart → Rose PlainLabel → Bool
has_order l identifiers part t =
    is_order (role_of l (order_place l.marks) part) && not (may_be_absent part.absence) && is_order_of identifiers t

kid_by : (l : PlainLabel) (identifiers : List (List ℕ)) (o : Option PlainPart) (k : Option (Rose PlainLabel)) → k ≡ None
    → elim o [ None ↦ false | Some part ↦ elim k [ None ↦ false | Some t ↦ has_order l identifiers part t ] ] ≡ false
kid_by l identifiers None k e = refl
kid_by l identifiers (Some part) None e = refl
kid_by l identifiers (Some part) (Some t) e = absurd (none-some t (sym e))

pub no-order_kid : (l : PlainLabel) (identifiers : List (List ℕ)) (ks : List (Rose PlainLabel)) (place : ℕ) → place ≡ order_place l.marks
    → None ≡ slice_get ks place → false ≡ part_of_order l (roses_of ks) identifiers
no-order_kid l identifiers ks place at none =
    sym (kid_by l identifiers (slice_get (parts_of l.form) (order_place l.marks)) (slice_get (list_of (roses_of ks)) (order_place l.marks))
    (ap (λ us. slice_get us (order_place l.marks)) (list_of-roses_of ks) ∙ ap (slice_get ks) (sym at) ∙ sym none))

-- the last kid of a node
pub last-of : (ks : List (Rose PlainLabel)) (found : Option (Rose PlainLabel)) → found ≡ slice_get ks (length ks - 1)
    → slice_get (list_of (roses_of ks)) (length (list_of (roses_of ks)) - 1) ≡ found
last-of ks found e = ap (λ us. slice_get us (length us - 1)) (list_of-roses_of ks) ∙ sym e
