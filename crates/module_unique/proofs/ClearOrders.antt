-- Places count for nothing in what USE-NIL, EMBED-VALUES and USE-ORDER ask.
use Rattle.std.proofs.Common.{◌≡◌, ℕ, suc, ◌+◌, ◌-◌, Bool, true, false, not, ◌&&◌, Option, Some, None, List, [], ◌∷◌, map, length, refl, sym, ap, ap₂, ◌∙◌, option_map}
use Rattle.std.specs.Prelude.{slice_get, if◌then◌else◌}
use Rattle.base_trees.specs.Rose.{Rose, node, Roses, none, more, label_of, list_of}
use Rattle.asn_types.specs.declared.roles.Role.{Role}
use Rattle.asn_types.specs.Refs.{is_element}
use Rattle.module_text.specs.declared.values.Absence.{Absence}
use Rattle.module_text.specs.declared.values.Absence.TheVariants as absence
use Rattle.module_text.specs.declared.types.PlainName.{PlainName}
use Rattle.module_text.specs.declared.types.PlainPart.{PlainPart}
use Rattle.module_text.specs.declared.types.PlainForm.{PlainForm}
use Rattle.module_text.specs.declared.types.PlainForm.TheVariants as form
use Rattle.module_text.specs.declared.types.PlainLabel.{PlainLabel}
use Rattle.module_text.specs.declared.modules.PlainAssignment.{PlainAssignment}
use Rattle.module_text.specs.Texts.{parts_of}
use Rattle.module_text.specs.Told as told
use Rattle.module_text.specs.Resolving as resolving
use Rattle.module_text.specs.Orders as orders
use Rattle.module_laws.proofs.Firsts.{got-mapped}
use Rattle.module_unique.proofs.Clearing.{clear_type_marks, clear_absence, clear_name, clear_part, clear_form, clear_type, clear_types, clear_assignment}
use Rattle.module_unique.proofs.ClearSimple.{any_type, resolve_same}
use Rattle.module_unique.proofs.ClearRoles.{clear_label, parts_same, role_same}

pub absent_same : (a : Absence) → orders.may_be_absent (clear_absence a) ≡ orders.may_be_absent a
absent_same absence.Never = refl
absent_same absence.Optional = refl
absent_same (absence.Default v) = refl

map_long : {A B : Type 0} (f : A → B) (xs : List A) → length (map f xs) ≡ length xs
map_long f [] = refl
map_long f (x ∷ xs) = ap suc (map_long f xs)

abbrev part_absent : Option PlainPart → Bool
part_absent None = false
part_absent (Some part) = orders.may_be_absent part.absence

part_absent_same : (o : Option PlainPart) → part_absent (option_map clear_part o) ≡ part_absent o
part_absent_same None = refl
part_absent_same (Some part) = absent_same part.absence

absent_at : (o : Option PlainPart) → (elim o as (λ _. Bool) [ None ↦ false | Some part ↦ orders.may_be_absent part.absence ]) ≡ part_absent o
absent_at None = refl
absent_at (Some part) = refl

pub content_same : (f : PlainForm) → orders.has_content (clear_form f) ≡ orders.has_content f
content_same (form.Sequence parts) =
    absent_at (slice_get (map clear_part parts) (length (map clear_part parts) - 1))
    ∙ ap (λ n. part_absent (slice_get (map clear_part parts) (n - 1))) (map_long clear_part parts)
    ∙ ap part_absent (got-mapped clear_part parts (length parts - 1))
    ∙ part_absent_same (slice_get parts (length parts - 1))
    ∙ sym (absent_at (slice_get parts (length parts - 1)))
content_same form.Bool = refl
content_same (form.Int r) = refl
content_same (form.Numbers items) = refl
content_same (form.Words identifiers) = refl
content_same (form.Utf8 size class) = refl
content_same (form.Choice parts) = refl
content_same (form.SequenceOf size part) = refl
content_same (form.Ref reference) = refl

pub sequence_same : (f : PlainForm) → orders.is_sequence (clear_form f) ≡ orders.is_sequence f
sequence_same (form.Sequence parts) = refl
sequence_same form.Bool = refl
sequence_same (form.Int r) = refl
sequence_same (form.Numbers items) = refl
sequence_same (form.Words identifiers) = refl
sequence_same (form.Utf8 size class) = refl
sequence_same (form.Choice parts) = refl
sequence_same (form.SequenceOf size part) = refl
sequence_same (form.Ref reference) = refl

pub sequence_of_same : (f : PlainForm) → orders.is_sequence_of (clear_form f) ≡ orders.is_sequence_of f
sequence_of_same (form.SequenceOf size part) = refl
sequence_of_same form.Bool = refl
sequence_of_same (form.Int r) = refl
sequence_of_same (form.Numbers items) = refl
sequence_of_same (form.Words identifiers) = refl
sequence_of_same (form.Utf8 size class) = refl
sequence_of_same (form.Sequence parts) = refl
sequence_of_same (form.Choice parts) = refl
sequence_of_same (form.Ref reference) = refl

pub choice_same : (f : PlainForm) → orders.is_choice (clear_form f) ≡ orders.is_choice f
choice_same (form.Choice parts) = refl
choice_same form.Bool = refl
choice_same (form.Int r) = refl
choice_same (form.Numbers items) = refl
choice_same (form.Words identifiers) = refl
choice_same (form.Utf8 size class) = refl
choice_same (form.Sequence parts) = refl
choice_same (form.SequenceOf size part) = refl
choice_same (form.Ref reference) = refl

any_text_same : (f : PlainForm) → orders.is_any_text (clear_form f) ≡ orders.is_any_text f
any_text_same (form.Utf8 None class) = refl
any_text_same (form.Utf8 (Some e) class) = refl
any_text_same form.Bool = refl
any_text_same (form.Int r) = refl
any_text_same (form.Numbers items) = refl
any_text_same (form.Words identifiers) = refl
any_text_same (form.Sequence parts) = refl
any_text_same (form.Choice parts) = refl
any_text_same (form.SequenceOf size part) = refl
any_text_same (form.Ref reference) = refl

any_list_same : (f : PlainForm) → orders.is_any_list (clear_form f) ≡ orders.is_any_list f
any_list_same (form.SequenceOf None part) = refl
any_list_same (form.SequenceOf (Some e) part) = refl
any_list_same form.Bool = refl
any_list_same (form.Int r) = refl
any_list_same (form.Numbers items) = refl
any_list_same (form.Words identifiers) = refl
any_list_same (form.Utf8 size class) = refl
any_list_same (form.Sequence parts) = refl
any_list_same (form.Choice parts) = refl
any_list_same (form.Ref reference) = refl

text_list_same : (t : Rose PlainLabel) → orders.is_text_list (clear_type t) ≡ orders.is_text_list t
text_list_same (node l none) = refl
text_list_same (node l (more (node k us) ts)) = ap₂ (λ a b. a && b) (any_list_same l.form) (any_text_same k.form)

pub texts_same : (f : PlainForm) (ts : Roses PlainLabel) → orders.has_texts (clear_form f) (clear_types ts) ≡ orders.has_texts f ts
texts_same f none = refl
texts_same f (more t ts) = ap₂ (λ a b. a && b) (sequence_same f) (text_list_same t)

-- ---- orders

from_by : (b c : Bool) (part : PlainPart) (xs : List PlainPart) (ys : List PlainPart) → b ≡ c → xs ≡ map clear_part ys
    → (if b then clear_part part ∷ xs else xs) ≡ map clear_part (if c then part ∷ ys else ys)
from_by b true part xs ys e f = rw e (ap (λ zs. clear_part part ∷ zs) f)
from_by b false part xs ys e f = rw e f

parts_from_same : (ps : List PlainPart) (l : PlainLabel) (is : Role → Bool) (i : ℕ) → orders.parts_from (clear_label l) is i (map clear_part ps) ≡ map clear_part (orders.parts_from l is i ps)
parts_from_same [] l is i = refl
parts_from_same (part ∷ ps) l is i =
    from_by (is (resolving.role_of (clear_label l) i (clear_part part))) (is (resolving.role_of l i part)) part _ _ (ap is (role_same l i part)) (parts_from_same ps l is (i + 1))

none_same : (ps : List PlainPart) → orders.are_none (map clear_part ps) ≡ orders.are_none ps
none_same [] = refl
none_same (part ∷ ps) = refl

pub no_group_same : (l : PlainLabel) → orders.has_no_group (clear_label l) ≡ orders.has_no_group l
no_group_same l =
    ap (λ ps. orders.are_none (orders.parts_from (clear_label l) orders.is_group 0 ps)) (parts_same l.form)
    ∙ ap orders.are_none (parts_from_same (parts_of l.form) l orders.is_group 0)
    ∙ none_same (orders.parts_from l orders.is_group 0 (parts_of l.form))

identifiers_same : (ps : List PlainPart) → map (λ (part : PlainPart). part.identifier) (map clear_part ps) ≡ map (λ (part : PlainPart). part.identifier) ps
identifiers_same [] = refl
identifiers_same (part ∷ ps) = ap (λ ns. part.identifier ∷ ns) (identifiers_same ps)

elements_same : (l : PlainLabel) → orders.element_identifiers (clear_label l) ≡ orders.element_identifiers l
elements_same l =
    ap (λ ps. map (λ (part : PlainPart). part.identifier) (orders.parts_from (clear_label l) is_element 0 ps)) (parts_same l.form)
    ∙ ap (map (λ (part : PlainPart). part.identifier)) (parts_from_same (parts_of l.form) l is_element 0)
    ∙ identifiers_same (orders.parts_from l is_element 0 (parts_of l.form))

names_same : (names : List PlainName) → map (λ (i : PlainName). i.name) (map clear_name names) ≡ map (λ (i : PlainName). i.name) names
names_same [] = refl
names_same (i ∷ is) = ap (λ ns. i.name ∷ ns) (names_same is)

are_same : (identifiers : List (List ℕ)) (f : PlainForm) → orders.are_identifiers identifiers (clear_form f) ≡ orders.are_identifiers identifiers f
are_same identifiers (form.Words names) = ap (orders.are_equal identifiers) (names_same names)
are_same identifiers form.Bool = refl
are_same identifiers (form.Int r) = refl
are_same identifiers (form.Numbers items) = refl
are_same identifiers (form.Utf8 size class) = refl
are_same identifiers (form.Sequence parts) = refl
are_same identifiers (form.Choice parts) = refl
are_same identifiers (form.SequenceOf size part) = refl
are_same identifiers (form.Ref reference) = refl

order_of_same : (identifiers : List (List ℕ)) (t : Rose PlainLabel) → orders.is_order_of identifiers (clear_type t) ≡ orders.is_order_of identifiers t
order_of_same identifiers (node l none) = refl
order_of_same identifiers (node l (more (node k us) ts)) = ap₂ (λ a b. a && b) (any_list_same l.form) (are_same identifiers k.form)

pub kids_same : (ts : Roses PlainLabel) → list_of (clear_types ts) ≡ map clear_type (list_of ts)
kids_same none = refl
kids_same (more t ts) = ap (λ us. clear_type t ∷ us) (kids_same ts)

place_same : (l : PlainLabel) → resolving.order_place (clear_type_marks l.marks) ≡ resolving.order_place l.marks
place_same l = ap (λ b. if b then 1 else 0) (any_type told.is_embed_values (λ m. refl) l.marks)

-- the part with this number and its type
abbrev pub order_at : PlainLabel → PlainLabel → ℕ → Option PlainPart → Option (Rose PlainLabel) → Bool
order_at l inner n None o = false
order_at l inner n (Some part) None = false
order_at l inner n (Some part) (Some t) =
    orders.is_order (resolving.role_of l n part) && not (orders.may_be_absent part.absence) && orders.is_order_of (orders.element_identifiers inner) t

pub order_is : (l : PlainLabel) (ts : Roses PlainLabel) (inner : PlainLabel) (p : Option PlainPart) (o : Option (Rose PlainLabel))
    → slice_get (parts_of l.form) (resolving.order_place l.marks) ≡ p → slice_get (list_of ts) (resolving.order_place l.marks) ≡ o
    → orders.is_order_part l ts inner ≡ order_at l inner (resolving.order_place l.marks) p o
order_is l ts inner None o e f = rw (e, orders.is_order_part) refl
order_is l ts inner (Some part) None e f = rw (e, f, orders.is_order_part) refl
order_is l ts inner (Some part) (Some t) e f = rw (e, f, orders.is_order_part) refl

order_at_same : (l inner : PlainLabel) (n : ℕ) (p : Option PlainPart) (o : Option (Rose PlainLabel))
    → order_at (clear_label l) (clear_label inner) n (option_map clear_part p) (option_map clear_type o) ≡ order_at l inner n p o
order_at_same l inner n None o = refl
order_at_same l inner n (Some part) None = refl
order_at_same l inner n (Some part) (Some t) =
    ap₂ (λ a b. a && b)
    (ap₂ (λ r b. orders.is_order r && not b) (role_same l n part) (absent_same part.absence))
    (ap (λ ids. orders.is_order_of ids (clear_type t)) (elements_same inner) ∙ order_of_same (orders.element_identifiers inner) t)

order_part_same : (l : PlainLabel) (ts : Roses PlainLabel) (inner : PlainLabel) → orders.is_order_part (clear_label l) (clear_types ts) (clear_label inner) ≡ orders.is_order_part l ts inner
order_part_same l ts inner =
    let n = resolving.order_place l.marks in
    let c = resolving.order_place (clear_type_marks l.marks) in
    order_is (clear_label l) (clear_types ts) (clear_label inner) (option_map clear_part (slice_get (parts_of l.form) n)) (option_map clear_type (slice_get (list_of ts) n))
    (ap (λ ps. slice_get ps c) (parts_same l.form) ∙ ap (slice_get (map clear_part (parts_of l.form))) (place_same l) ∙ got-mapped clear_part (parts_of l.form) n)
    (ap (λ us. slice_get us c) (kids_same ts) ∙ ap (slice_get (map clear_type (list_of ts))) (place_same l) ∙ got-mapped clear_type (list_of ts) n)
    ∙ ap (λ k. order_at (clear_label l) (clear_label inner) k (option_map clear_part (slice_get (parts_of l.form) n)) (option_map clear_type (slice_get (list_of ts) n))) (place_same l)
    ∙ order_at_same l inner n (slice_get (parts_of l.form) n) (slice_get (list_of ts) n)
    ∙ sym (order_is l ts inner (slice_get (parts_of l.form) n) (slice_get (list_of ts) n) refl refl)

alone_same : (l : PlainLabel) → orders.stands_alone (clear_label l) ≡ orders.stands_alone l
alone_same l =
    ap₂ (λ a b. a && b)
    (ap₂ (λ a b. not a && not b) (any_type told.is_use_nil (λ m. refl) l.marks) (any_type told.is_embed_values (λ m. refl) l.marks))
    (ap not (any_type told.is_use_order (λ m. refl) l.marks))

module _ (P : List PlainAssignment) where
  abbrev Q : List PlainAssignment
  Q = map clear_assignment P

  label_same : (t : Rose PlainLabel) → label_of (clear_type t) ≡ clear_label (label_of t)
  label_same (node l ts) = refl

  inner_by : (o : Option (Rose PlainLabel)) → option_map (λ t. label_of (resolving.resolve Q t)) (option_map clear_type o) ≡ option_map clear_label (option_map (λ t. label_of (resolving.resolve P t)) o)
  inner_by None = refl
  inner_by (Some t) = ap Some (ap label_of (resolve_same P t) ∙ label_same (resolving.resolve P t))

  if_nil : (b c : Bool) (o p : Option PlainLabel) (l : PlainLabel) → b ≡ c → o ≡ option_map clear_label p → (if b then o else Some (clear_label l)) ≡ option_map clear_label (if c then p else Some l)
  if_nil b true o p l e f = rw e f
  if_nil b false o p l e f = rw e refl

  ordered_same : (l : PlainLabel) (ts : Roses PlainLabel) → orders.ordered Q (clear_label l) (clear_types ts) ≡ option_map clear_label (orders.ordered P l ts)
  ordered_same l ts =
      let last = length (list_of ts) - 1 in
      if_nil (told.has_use_nil (clear_type_marks l.marks)) (told.has_use_nil l.marks) _ (option_map (λ t. label_of (resolving.resolve P t)) (slice_get (list_of ts) last)) l
      (any_type told.is_use_nil (λ m. refl) l.marks)
      (ap (λ us. option_map (λ t. label_of (resolving.resolve Q t)) (slice_get us (length us - 1))) (kids_same ts)
      ∙ ap (λ n. option_map (λ t. label_of (resolving.resolve Q t)) (slice_get (map clear_type (list_of ts)) (n - 1))) (map_long clear_type (list_of ts))
      ∙ ap (option_map (λ t. label_of (resolving.resolve Q t))) (got-mapped clear_type (list_of ts) last)
      ∙ inner_by (slice_get (list_of ts) last))

  is_ordered_same : (l : PlainLabel) (o : Option PlainLabel) (ts : Roses PlainLabel) → orders.is_ordered (clear_label l) (option_map clear_label o) (clear_types ts) ≡ orders.is_ordered l o ts
  is_ordered_same l None ts = refl
  is_ordered_same l (Some inner) ts =
      ap₂ (λ a b. a && b)
      (ap₂ (λ a b. a && b)
      (ap₂ (λ a b. a && b) (sequence_same inner.form) (no_group_same inner))
      (ap₂ (λ a b. if a then b else true) (any_type told.is_use_nil (λ m. refl) l.marks) (alone_same inner)))
      (order_part_same l ts inner)

  pub order_same : (l : PlainLabel) (ts : Roses PlainLabel) → orders.has_order_part Q (clear_label l) (clear_types ts) ≡ orders.has_order_part P l ts
  order_same l ts =
      ap₂ (λ a b. a && b)
      (ap₂ (λ a b. a && b) (sequence_same l.form) (no_group_same l))
      (ap (λ o. orders.is_ordered (clear_label l) o (clear_types ts)) (ordered_same l ts) ∙ is_ordered_same l (orders.ordered P l ts) ts)
