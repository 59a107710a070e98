-- Places count for nothing in the simple types for which plain types stand, nor in references.
use Rattle.std.proofs.Common.{◌≡◌, ℕ, zero, suc, Bool, true, false, not, ◌&&◌, Option, Some, None, List, [], ◌∷◌, map, refl, sym, ap, ap₂, ◌∙◌, option_map, position}
use Rattle.std.specs.Prelude.{bytes_eq, slice_get, option_and_then, if◌then◌else◌}
use Rattle.std.specs.List.{list_any, filter_map, cons_option}
use Rattle.base_trees.specs.Rose.{Rose, node, Roses, none, more}
use Rattle.simple_types.specs.Space.{Booleans}
use Rattle.module_text.specs.declared.bounds.PlainEnds.{PlainEnds}
use Rattle.module_text.specs.declared.bounds.PlainEnds.TheVariants as ends
use Rattle.module_text.specs.declared.bounds.PlainRange.{PlainRange}
use Rattle.module_text.specs.declared.bounds.PlainRange.TheVariants as range
use Rattle.module_text.specs.declared.marks.PartMark.{PartMark}
use Rattle.module_text.specs.declared.marks.TypeMark.{TypeMark}
use Rattle.module_text.specs.declared.types.NumberedItem.{NumberedItem}
use Rattle.module_text.specs.declared.types.PlainName.{PlainName}
use Rattle.module_text.specs.declared.types.PlainPart.{PlainPart}
use Rattle.module_text.specs.declared.types.PlainForm.{PlainForm}
use Rattle.module_text.specs.declared.types.PlainForm.TheVariants as form
use Rattle.module_text.specs.declared.types.PlainLabel.{PlainLabel}
use Rattle.module_text.specs.declared.modules.PlainAssignment.{PlainAssignment}
use Rattle.module_text.specs.declared.spots.Spot.{Spot}
use Rattle.module_text.specs.declared.spots.Spot.TheVariants.{Elsewhere}
use Rattle.module_text.specs.declared.spots.Alone.{Alone}
use Rattle.module_text.specs.declared.spots.Alone.TheVariants as alone
use Rattle.module_text.specs.Told as told
use Rattle.module_text.specs.Resolving as resolving
use Rattle.module_text.specs.Simple as simple
use Rattle.module_laws.proofs.Firsts.{place-here, place-further, got-mapped}
use Rattle.module_unique.proofs.Clearing.{clear_ends, clear_range, clear_part_marks, clear_type_marks, clear_name, clear_item, clear_part, clear_form, clear_type, clear_types, clear_assignment}

-- ---- bounds and items

pub range_same : (r : Option PlainRange) → told.range_of (option_map clear_range r) ≡ told.range_of r
range_same None = refl
range_same (Some (range.Ends (ends.One number))) = refl
range_same (Some (range.Ends (ends.Both least greatest))) = refl
range_same (Some (range.Ends (ends.From least max_at))) = refl
range_same (Some (range.To greatest)) = refl

pub sizes_same : (size : Option PlainEnds) → told.sizes_of (option_map clear_ends size) ≡ told.sizes_of size
sizes_same None = refl
sizes_same (Some (ends.One number)) = refl
sizes_same (Some (ends.Both least greatest)) = refl
sizes_same (Some (ends.From least max_at)) = refl

pub numbers_same : (items : List NumberedItem) → simple.numbers_of (map clear_item items) ≡ simple.numbers_of items
numbers_same [] = refl
numbers_same (item ∷ items) = ap (simple.with_number (told.whole_of item.number)) (numbers_same items)

-- ---- encoding instructions

pub any_type : (p : TypeMark → Bool) → ((m : TypeMark) → p (record m { at = 0 }) ≡ p m) → (marks : List TypeMark) → list_any p (clear_type_marks marks) ≡ list_any p marks
any_type p same [] = refl
any_type p same (m ∷ ms) = rw (same m, any_type p same ms) refl

pub any_part : (p : PartMark → Bool) → ((m : PartMark) → p (record m { at = 0 }) ≡ p m) → (marks : List PartMark) → list_any p (clear_part_marks marks) ≡ list_any p marks
any_part p same [] = refl
any_part p same (m ∷ ms) = rw (same m, any_part p same ms) refl

pub names_alone : (marks : List PartMark) → told.have_names_alone (clear_part_marks marks) ≡ told.have_names_alone marks
names_alone [] = refl
names_alone (m ∷ ms) = ap (λ b. told.is_name m && b) (names_alone ms)

plain_parts : (parts : List PlainPart) → simple.are_plain (map clear_part parts) ≡ simple.are_plain parts
plain_parts [] = refl
plain_parts (part ∷ parts) = ap₂ (λ a b. a && b) (names_alone part.marks) (plain_parts parts)

pub alone_same : (marks : List TypeMark) (seen : Alone) → told.alone_behind seen (clear_type_marks marks) ≡ told.alone_behind seen marks
alone_same [] seen = refl
alone_same (m ∷ ms) seen = alone_same ms (told.with_mark seen m)

said_same : (marks : List TypeMark) → filter_map told.said (clear_type_marks marks) ≡ filter_map told.said marks
said_same [] = refl
said_same (m ∷ ms) = ap (cons_option (told.said m)) (said_same ms)

words_said_same : (is : List PlainName) (texts : List told.Said) → told.words_said texts (map clear_name is) ≡ told.words_said texts is
words_said_same [] texts = refl
words_said_same (i ∷ is) [] = ap (λ ws. i.name ∷ ws) (words_said_same is [])
words_said_same (i ∷ is) (t ∷ others) =
    ap₂ (λ (us : List (List ℕ)) ws. if bytes_eq t.identifier i.name then told.told_name i.name t.text ∷ us else i.name ∷ ws)
    (words_said_same is others) (words_said_same is (t ∷ others))

pub words_same : (marks : List TypeMark) (is : List PlainName) → told.words_of (clear_type_marks marks) (map clear_name is) ≡ told.words_of marks is
words_same marks is = ap (λ texts. told.words_said texts (map clear_name is)) (said_same marks) ∙ words_said_same is (filter_map told.said marks)

-- ---- simple types

abbrev label_at : ℕ → List TypeMark → PlainForm → PlainLabel
label_at at marks f = record { at = at; marks = marks; form = f }

abbrev FirstsSame : Roses PlainLabel → Type 0
FirstsSame ts = (spot : Spot) → simple.item_told spot (clear_types ts) ≡ simple.item_told spot ts

simple_by : (at : ℕ) (marks : List TypeMark) (f : PlainForm) (ts : Roses PlainLabel) (spot : Spot)
    → simple.members_told (clear_types ts) ≡ simple.members_told ts → FirstsSame ts
    → simple.simple_told spot (node (label_at 0 (clear_type_marks marks) (clear_form f)) (clear_types ts)) ≡ simple.simple_told spot (node (label_at at marks f) ts)
unfolding simple.simple_told
simple_by at marks form.Bool ts spot members first = ap (λ a. simple.if_so (told.is_nothing a) (Some Booleans)) (alone_same marks alone.Nothing)
simple_by at marks (form.Int r) ts spot members first = ap₂ (λ a o. simple.if_so (told.is_nothing a) (simple.whole_space o)) (alone_same marks alone.Nothing) (range_same r)
simple_by at marks (form.Numbers items) ts spot members first = ap₂ (λ a o. simple.if_so (told.is_number_alone a) (simple.number_space o)) (alone_same marks alone.Nothing) (numbers_same items)
simple_by at marks (form.Words identifiers) ts spot members first =
    ap₂ (λ ws a. simple.if_so (not (simple.is_order_item spot)) (simple.word_space ws (told.white_space_alone a))) (words_same marks identifiers) (alone_same marks alone.Nothing)
simple_by at marks (form.Utf8 size class) ts spot members first = ap₂ (λ s a. simple.text_space s class (told.white_space_alone a)) (sizes_same size) (alone_same marks alone.Nothing)
simple_by at marks (form.Sequence components) ts spot members first = refl
simple_by at marks (form.Choice alternatives) ts spot members first =
    ap₂ (λ b m. simple.if_so b (simple.union_space m)) (ap₂ (λ a b. told.is_union_alone a && b) (alone_same marks alone.Nothing) (plain_parts alternatives)) members
simple_by at marks (form.SequenceOf size item) ts spot members first =
    ap₂ simple.if_so (ap₂ (λ a b. told.is_list_alone a && b) (alone_same marks alone.Nothing) (names_alone item.marks)) (ap₂ simple.list_space (sizes_same size) (first (simple.item_spot spot)))
simple_by at marks (form.Ref reference) ts spot members first = refl

more_members : (t : Rose PlainLabel) (ts : Roses PlainLabel) → simple.simple_told Elsewhere (clear_type t) ≡ simple.simple_told Elsewhere t
    → simple.members_told (clear_types ts) ≡ simple.members_told ts → simple.members_told (clear_types (more t ts)) ≡ simple.members_told (more t ts)
unfolding simple.members_told
more_members t ts e f = ap₂ simple.with_member e f

no_members : simple.members_told (clear_types none) ≡ simple.members_told none
no_members = refl

more_first : (t : Rose PlainLabel) (ts : Roses PlainLabel) → ((spot : Spot) → simple.simple_told spot (clear_type t) ≡ simple.simple_told spot t) → FirstsSame (more t ts)
unfolding simple.item_told
more_first t ts e spot = e spot

no_first : FirstsSame none
no_first spot = refl

mutual
  pub simple_same : (t : Rose PlainLabel) (spot : Spot) → simple.simple_told spot (clear_type t) ≡ simple.simple_told spot t
  simple_same (node l ts) spot = simple_by l.at l.marks l.form ts spot (members_same ts) (first_same ts)

  members_same : (ts : Roses PlainLabel) → simple.members_told (clear_types ts) ≡ simple.members_told ts
  members_same none = no_members
  members_same (more t ts) = more_members t ts (simple_same t Elsewhere) (members_same ts)

  first_same : (ts : Roses PlainLabel) → FirstsSame ts
  first_same none = no_first
  first_same (more t ts) = more_first t ts (simple_same t)

-- ---- references

position_by : {A : Type 0} (p : A → Bool) (f : A → A) (x : A) (xs : List A) (b : Bool) → p x ≡ b → p (f x) ≡ b
    → position p (map f xs) ≡ position p xs → position p (map f (x ∷ xs)) ≡ position p (x ∷ xs)
position_by p f x xs true e g rest = place-here p (f x) (map f xs) g ∙ sym (place-here p x xs e)
position_by p f x xs false e g rest = place-further p (f x) (map f xs) g ∙ ap (option_map suc) rest ∙ sym (place-further p x xs e)

pub position_same : {A : Type 0} (p : A → Bool) (f : A → A) → ((x : A) → p (f x) ≡ p x) → (xs : List A) → position p (map f xs) ≡ position p xs
position_same p f same [] = refl
position_same p f same (x ∷ xs) = position_by p f x xs (p x) refl (same x) (position_same p f same xs)

reference_same : (f : PlainForm) → resolving.reference_of (clear_form f) ≡ resolving.reference_of f
reference_same form.Bool = refl
reference_same (form.Int r) = refl
reference_same (form.Numbers items) = refl
reference_same (form.Words identifiers) = refl
reference_same (form.Utf8 size class) = refl
reference_same (form.Sequence parts) = refl
reference_same (form.Choice parts) = refl
reference_same (form.SequenceOf size part) = refl
reference_same (form.Ref reference) = refl

module _ (P : List PlainAssignment) where
  abbrev Q : List PlainAssignment
  Q = map clear_assignment P

  pub number_same : (name : List ℕ) → resolving.number_of Q name ≡ resolving.number_of P name
  number_same name = position_same (λ (a : PlainAssignment). bytes_eq a.reference name) clear_assignment (λ a. refl) P

  body_by : (o : Option PlainAssignment) → option_map (λ (a : PlainAssignment). a.body) (option_map clear_assignment o) ≡ option_map clear_type (option_map (λ (a : PlainAssignment). a.body) o)
  body_by None = refl
  body_by (Some a) = refl

  body_same : (k : ℕ) → resolving.body_at Q k ≡ option_map clear_type (resolving.body_at P k)
  body_same k = ap (option_map (λ (a : PlainAssignment). a.body)) (got-mapped clear_assignment P k) ∙ body_by (slice_get P k)

  found_by : (o : Option ℕ) → option_and_then (resolving.body_at Q) o ≡ option_map clear_type (option_and_then (resolving.body_at P) o)
  found_by None = refl
  found_by (Some k) = body_same k

  pub body_of_same : (name : List ℕ) → resolving.body_of Q name ≡ option_map clear_type (resolving.body_of P name)
  body_of_same name = ap (option_and_then (resolving.body_at Q)) (number_same name) ∙ found_by (resolving.number_of P name)

  leads_by : (o : Option (List ℕ)) → option_and_then (resolving.body_of Q) o ≡ option_map clear_type (option_and_then (resolving.body_of P) o)
  leads_by None = refl
  leads_by (Some name) = body_of_same name

  next_same : (t : Rose PlainLabel) → resolving.next Q (clear_type t) ≡ option_map clear_type (resolving.next P t)
  next_same (node l ts) = ap (option_and_then (resolving.body_of Q)) (reference_same l.form) ∙ leads_by (resolving.reference_of l.form)

  follow_same : (n : ℕ) (t : Rose PlainLabel) → resolving.follow Q n (clear_type t) ≡ clear_type (resolving.follow P n t)
  unfolding resolving.follow
  follow_same zero t = refl
  follow_same (suc n) t =
      ap (λ o. elim o [ None ↦ clear_type t | Some u ↦ resolving.follow Q n u ]) (next_same t) ∙ by (resolving.next P t) (λ u. follow_same n u)
    where
      by : (o : Option (Rose PlainLabel)) → ((u : Rose PlainLabel) → resolving.follow Q n (clear_type u) ≡ clear_type (resolving.follow P n u))
          → (elim (option_map clear_type o) [ None ↦ clear_type t | Some u ↦ resolving.follow Q n u ])
          ≡ clear_type (elim o [ None ↦ t | Some u ↦ resolving.follow P n u ])
      by None rest = refl
      by (Some u) rest = rest u

  pub resolve_same : (t : Rose PlainLabel) → resolving.resolve Q (clear_type t) ≡ clear_type (resolving.resolve P t)
  resolve_same t = follow_same 4 t
