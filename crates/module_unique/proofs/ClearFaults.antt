-- The faults of a tree, but for their places, are those of the tree with each thing at place 0.
use Rattle.std.proofs.Common.{◌≡◌, ℕ, zero, suc, ◌+◌, ◌-◌, Bool, true, false, not, ◌&&◌, ◌||◌, Option, Some, None, List, [], ◌∷◌, ◌++◌, map, refl, sym, ap, ap₂, ◌∙◌, option_map}
use Rattle.std.specs.Prelude.{ℤ, drop, position, bytes_eq, nat_lt, is_some, if◌then◌else◌}
use Rattle.base_trees.specs.Rose.{Rose, node, Roses, none, more, label_of, list_of}
use Rattle.base_texts.specs.Limits.{is_empty}
use Rattle.simple_types.specs.Space.{Space}
use Rattle.asn_names.specs.ReservedWords.{reserved_words}
use Rattle.module_text.specs.declared.bounds.PlainNumber.{PlainNumber}
use Rattle.module_text.specs.declared.bounds.PlainEnds.{PlainEnds}
use Rattle.module_text.specs.declared.bounds.PlainEnds.TheVariants as ends
use Rattle.module_text.specs.declared.bounds.PlainRange.{PlainRange}
use Rattle.module_text.specs.declared.bounds.PlainRange.TheVariants as range
use Rattle.module_text.specs.declared.marks.PartMark.{PartMark}
use Rattle.module_text.specs.declared.marks.TypeMark.{TypeMark}
use Rattle.module_text.specs.declared.marks.TypeMarkKind.{TypeMarkKind}
use Rattle.module_text.specs.declared.marks.TypeMarkKind.TheVariants as type_mark
use Rattle.module_text.specs.declared.values.PlainValueLabel.{PlainValueLabel}
use Rattle.module_text.specs.declared.values.PlainOctets.{PlainOctets}
use Rattle.module_text.specs.declared.values.Absence.{Absence}
use Rattle.module_text.specs.declared.values.Absence.TheVariants as absence
use Rattle.module_text.specs.declared.types.NumberedItem.{NumberedItem}
use Rattle.module_text.specs.declared.types.PlainName.{PlainName}
use Rattle.module_text.specs.declared.types.PlainPart.{PlainPart}
use Rattle.module_text.specs.declared.types.PlainForm.{PlainForm}
use Rattle.module_text.specs.declared.types.PlainForm.TheVariants as form
use Rattle.module_text.specs.declared.types.PlainLabel.{PlainLabel}
use Rattle.module_text.specs.declared.modules.PlainAssignment.{PlainAssignment}
use Rattle.module_text.specs.Texts.{parts_of}
use Rattle.module_text.specs.Ranks.{rank_of_part_mark, rank_of_type_mark}
use Rattle.module_text.specs.declared.spots.Spot.{Spot}
use Rattle.module_text.specs.declared.spots.Spot.TheVariants.{Elsewhere, Order}
use Rattle.module_text.specs.declared.reasons.ModuleWhy.{ModuleWhy}
use Rattle.module_text.specs.declared.reasons.ModuleWhy.TheVariants.{Spelling, Duplicate, Unresolved, LongChain}
use Rattle.module_text.specs.declared.reasons.TextFault.{TextFault}
use Rattle.module_text.specs.Listed.{unless}
use Rattle.module_text.specs.Told as told
use Rattle.module_text.specs.Resolving as resolving
use Rattle.module_text.specs.Simple as simple
use Rattle.module_text.specs.Defaults as defaults
use Rattle.module_text.specs.Orders as orders
use Rattle.module_text.specs.Marks as may
use Rattle.module_text.specs.Faults as rule
use Rattle.module_unique.proofs.Clearing.{clear_number, clear_ends, clear_range, clear_part_marks, clear_type_marks, clear_value, clear_fixed, clear_absence, clear_name, clear_item, clear_part, clear_form, clear_type, clear_types, clear_assignment}
use Rattle.module_unique.proofs.ClearSimple.{any_type, any_part, words_same, simple_same, number_same, resolve_same, position_same}
use Rattle.module_unique.proofs.ClearRoles.{clear_label, parts_same, role_same, ends_same}
use Rattle.module_unique.proofs.ClearOrders.{content_same, sequence_of_same, choice_same, texts_same, order_same, kids_same}
use Rattle.module_unique.proofs.ClearValues.{default_same}

abbrev pub unplaced : List TextFault → List TextFault
unplaced fs = map (λ (f : TextFault). record f { at = 0 }) fs

joined : (xs ys : List TextFault) → unplaced (xs ++ ys) ≡ unplaced xs ++ unplaced ys
joined [] ys = refl
joined (x ∷ xs) ys = ap (λ fs. record x { at = 0 } ∷ fs) (joined xs ys)

both : (xs ys zs ws : List TextFault) → unplaced xs ≡ zs → unplaced ys ≡ ws → unplaced (xs ++ ys) ≡ zs ++ ws
both xs ys zs ws e f = joined xs ys ∙ ap₂ (λ (us : List TextFault) vs. us ++ vs) e f

one : (b c : Bool) (at : ℕ) (why : ModuleWhy) → b ≡ c → unplaced (unless c at why) ≡ unless b 0 why
one b true at why e = rw e refl
one b false at why e = rw e refl

-- ---- numbers and bounds

number_clear : (n : PlainNumber) → unplaced (rule.number_faults n) ≡ rule.number_faults (clear_number n)
number_clear n = one _ _ n.at Spelling refl

ends_clear : (e : PlainEnds) → unplaced (rule.ends_faults e) ≡ rule.ends_faults (clear_ends e)
ends_clear (ends.One number) = number_clear number
ends_clear (ends.Both least greatest) = both (rule.number_faults least) _ _ _ (number_clear least) (one _ _ greatest.at Spelling refl)
ends_clear (ends.From least max_at) = number_clear least

range_clear : (r : Option PlainRange) → unplaced (rule.range_faults r) ≡ rule.range_faults (option_map clear_range r)
range_clear None = refl
range_clear (Some (range.Ends e)) = ends_clear e
range_clear (Some (range.To greatest)) = number_clear greatest

size_clear : (size : Option PlainEnds) → unplaced (rule.size_faults size) ≡ rule.size_faults (option_map clear_ends size)
size_clear None = refl
size_clear (Some (ends.One number)) = one _ _ number.at Spelling refl
size_clear (Some (ends.Both least greatest)) = both (rule.one_size_faults least) _ _ _ (one _ _ least.at Spelling refl) (one _ _ greatest.at Spelling refl)
size_clear (Some (ends.From least max_at)) = both (rule.one_size_faults least) _ _ _ (one _ _ least.at Spelling refl) (one _ _ max_at Spelling refl)

-- ---- items

numbered_clear : (items : List NumberedItem) (before : List (List ℕ)) (last : Option ℤ) → unplaced (rule.numbered_faults before last items) ≡ rule.numbered_faults before last (map clear_item items)
numbered_clear [] before last = refl
numbered_clear (item ∷ items) before last =
    both (unless (not (rule.has_text before item.identifier.name)) item.identifier.at Duplicate ++ rule.item_faults last item) _ _ _
    (both (unless (not (rule.has_text before item.identifier.name)) item.identifier.at Duplicate) _ _ _
    (one _ _ item.identifier.at Duplicate refl)
    (both (unless (rule.is_numbered_so item) item.identifier.at Spelling) _ _ _ (one _ _ item.identifier.at Spelling refl) (one _ _ item.number.at Spelling refl)))
    (numbered_clear items (before ++ item.identifier.name ∷ []) (told.whole_of item.number))

word_clear : (is : List PlainName) (order : Bool) (before : List (List ℕ)) (last : Option (List ℕ)) (words : List (List ℕ))
    → unplaced (rule.word_faults order before last is words) ≡ rule.word_faults order before last (map clear_name is) words
word_clear [] order before last words = refl
word_clear (i ∷ is) order before last [] = refl
word_clear (i ∷ is) order before last (word ∷ words) =
    both (unless (not (rule.has_text before i.name)) i.at Duplicate ++ unless (order || rule.is_word_above last word) i.at Spelling) _ _ _
    (both (unless (not (rule.has_text before i.name)) i.at Duplicate) _ _ _ (one _ _ i.at Duplicate refl) (one _ _ i.at Spelling refl))
    (word_clear is order (before ++ i.name ∷ []) (Some word) words)

-- ---- encoding instructions

part_marks_clear : (ms : List PartMark) (simply : Bool) (generated : List ℕ) (before : Option ℕ)
    → unplaced (rule.part_mark_faults simply generated before ms) ≡ rule.part_mark_faults simply generated before (clear_part_marks ms)
part_marks_clear [] simply generated before = refl
part_marks_clear (m ∷ ms) simply generated before =
    both (unless (may.part_mark_stands simply generated before m) m.at Spelling) _ _ _ (one _ _ m.at Spelling refl) (part_marks_clear ms simply generated (Some (rank_of_part_mark m.kind)))

drop_names : (n : ℕ) (is : List PlainName) → drop n (map clear_name is) ≡ map clear_name (drop n is)
drop_names zero is = refl
drop_names (suc n) [] = refl
drop_names (suc n) (i ∷ is) = drop_names n is

number_of_item : (spot : Spot) (f : PlainForm) (least : ℕ) (identifier : List ℕ) → may.item_number spot (clear_form f) least identifier ≡ may.item_number spot f least identifier
number_of_item spot (form.Words identifiers) least identifier =
    ap (λ o. if simple.is_order_item spot then None else option_map (λ i. least + i) o)
    (ap (position (λ (i : PlainName). bytes_eq i.name identifier)) (drop_names least identifiers)
    ∙ position_same (λ (i : PlainName). bytes_eq i.name identifier) clear_name (λ i. refl) (drop least identifiers))
number_of_item spot form.Bool least identifier = refl
number_of_item spot (form.Int r) least identifier = refl
number_of_item spot (form.Numbers items) least identifier = refl
number_of_item spot (form.Utf8 size class) least identifier = refl
number_of_item spot (form.Sequence parts) least identifier = refl
number_of_item spot (form.Choice parts) least identifier = refl
number_of_item spot (form.SequenceOf size part) least identifier = refl
number_of_item spot (form.Ref reference) least identifier = refl

next_same : (spot : Spot) (f : PlainForm) (least : ℕ) (kind : TypeMarkKind) → may.next_item spot (clear_form f) least kind ≡ may.next_item spot f least kind
next_same spot f least (type_mark.Text identifier text) = ap (λ o. elim o as (λ _. ℕ) [ None ↦ least | Some i ↦ suc i ]) (number_of_item spot f least identifier)
next_same spot f least kind = refl

module _ (P : List PlainAssignment) where
  abbrev Q : List PlainAssignment
  Q = map clear_assignment P

  may_same : (spot : Spot) (l : PlainLabel) (ts : Roses PlainLabel) (least : ℕ) (kind : TypeMarkKind)
      → may.type_mark_may Q spot (clear_label l) (clear_types ts) least kind ≡ may.type_mark_may P spot l ts least kind
  may_same spot l ts least type_mark.UseNil = content_same l.form
  may_same spot l ts least type_mark.EmbedValues = texts_same l.form ts
  may_same spot l ts least type_mark.UseOrder = order_same P l ts
  may_same spot l ts least type_mark.List = ap₂ (λ a o. a && is_some o) (sequence_of_same l.form) (simple_same (node l ts) spot)
  may_same spot l ts least type_mark.UseUnion = ap₂ (λ a o. a && is_some o) (choice_same l.form) (simple_same (node l ts) spot)
  may_same spot l ts least type_mark.UseNumber = refl
  may_same spot l ts least type_mark.Replace = refl
  may_same spot l ts least type_mark.Collapse = refl
  may_same spot l ts least (type_mark.Text identifier text) = ap (λ o. is_some o && told.is_told_so identifier text) (number_of_item spot l.form least identifier)

  type_marks_clear : (ms : List TypeMark) (spot : Spot) (l : PlainLabel) (ts : Roses PlainLabel) (before : Option ℕ) (least : ℕ)
      → unplaced (rule.type_mark_faults P spot l ts before least ms) ≡ rule.type_mark_faults Q spot (clear_label l) (clear_types ts) before least (clear_type_marks ms)
  type_marks_clear [] spot l ts before least = refl
  type_marks_clear (m ∷ ms) spot l ts before least =
      let stands = may.stands_once before (rank_of_type_mark m.kind) in
      both (unless (stands && may.type_mark_may P spot l ts least m.kind) m.at Spelling) _ _ _
      (one _ _ m.at Spelling (ap (λ b. stands && b) (may_same spot l ts least m.kind)))
      (type_marks_clear ms spot l ts (Some (rank_of_type_mark m.kind)) (may.next_item spot l.form least m.kind)
      ∙ ap (λ n. rule.type_mark_faults Q spot (clear_label l) (clear_types ts) (Some (rank_of_type_mark m.kind)) n (clear_type_marks ms)) (sym (next_same spot l.form least m.kind)))

  -- ---- forms

  reference_clear : (f : PlainForm) → unplaced (rule.reference_faults P f) ≡ rule.reference_faults Q (clear_form f)
  reference_clear (form.Ref reference) = one _ _ reference.at Unresolved (ap is_some (number_same P reference.name))
  reference_clear form.Bool = refl
  reference_clear (form.Int r) = refl
  reference_clear (form.Numbers items) = refl
  reference_clear (form.Words identifiers) = refl
  reference_clear (form.Utf8 size class) = refl
  reference_clear (form.Sequence parts) = refl
  reference_clear (form.Choice parts) = refl
  reference_clear (form.SequenceOf size part) = refl

  form_clear : (spot : Spot) (marks : List TypeMark) (f : PlainForm) → unplaced (rule.form_faults P spot marks f) ≡ rule.form_faults Q spot (clear_type_marks marks) (clear_form f)
  form_clear spot marks form.Bool = refl
  form_clear spot marks (form.Int r) = range_clear r
  form_clear spot marks (form.Numbers items) = numbered_clear items [] None
  form_clear spot marks (form.Words identifiers) =
      word_clear identifiers (simple.is_order_item spot) [] None (told.words_of marks identifiers)
      ∙ ap (rule.word_faults (simple.is_order_item spot) [] None (map clear_name identifiers)) (sym (words_same marks identifiers))
  form_clear spot marks (form.Utf8 size class) = size_clear size
  form_clear spot marks (form.Sequence parts) = refl
  form_clear spot marks (form.Choice parts) = refl
  form_clear spot marks (form.SequenceOf size part) = size_clear size
  form_clear spot marks (form.Ref reference) = reference_clear (form.Ref reference)

  -- ---- default and fixed values

  fixed_clear : (space : Option Space) (fixed : Option PlainOctets) → unplaced (rule.fixed_faults space fixed) ≡ rule.fixed_faults space (clear_fixed fixed)
  fixed_clear space None = refl
  fixed_clear space (Some octets) = one _ _ octets.at Spelling refl

  is_fixed_same : (fixed : Option PlainOctets) (text : List ℕ) → rule.is_fixed (clear_fixed fixed) text ≡ rule.is_fixed fixed text
  is_fixed_same None text = refl
  is_fixed_same (Some octets) text = refl

  is_default_same : (space : Option Space) (fixed : Option PlainOctets) (t : Rose PlainLabel) (v : Rose PlainValueLabel)
      → rule.is_default space (clear_fixed fixed) (clear_type t) (clear_value v) ≡ rule.is_default space fixed t v
  is_default_same None fixed (node l ts) v = refl
  is_default_same (Some s) fixed (node l ts) v =
      ap (λ us. elim (defaults.default_told s (clear_label l) us (clear_value v)) as (λ _. Bool) [ None ↦ false | Some text ↦ rule.is_fixed (clear_fixed fixed) text ]) (kids_same ts)
      ∙ ap (λ o. elim o as (λ _. Bool) [ None ↦ false | Some text ↦ rule.is_fixed (clear_fixed fixed) text ]) (default_same s l (list_of ts) v)
      ∙ by (defaults.default_told s l (list_of ts) v)
    where
      by : (o : Option (List ℕ))
          → (elim o as (λ _. Bool) [ None ↦ false | Some text ↦ rule.is_fixed (clear_fixed fixed) text ]) ≡ (elim o as (λ _. Bool) [ None ↦ false | Some text ↦ rule.is_fixed fixed text ])
      by None = refl
      by (Some text) = is_fixed_same fixed text

  place_of : (v : Rose PlainValueLabel) → rule.value_at (clear_value v) ≡ 0
  place_of (node l vs) = refl

  absence_clear : (space : Option Space) (fixed : Option PlainOctets) (t : Rose PlainLabel) (a : Absence)
      → unplaced (rule.absence_faults space fixed t a) ≡ rule.absence_faults space (clear_fixed fixed) (clear_type t) (clear_absence a)
  absence_clear space fixed t absence.Never = refl
  absence_clear space fixed t absence.Optional = refl
  absence_clear space fixed t (absence.Default v) =
      one _ _ (rule.value_at v) Spelling (is_default_same space fixed t v)
      ∙ ap (λ at. unless (rule.is_default space (clear_fixed fixed) (clear_type t) (clear_value v)) at Spelling) (sym (place_of v))

  -- ---- parts and types

  abbrev form_label : ℕ → List TypeMark → PlainForm → PlainLabel
  form_label at marks f = record { at = at; marks = marks; form = f }

  through_by : (spot : Spot) (at : ℕ) (marks : List TypeMark) (f : PlainForm) (ts : Roses PlainLabel)
      → rule.space_through Q spot (clear_type (node (form_label at marks f) ts)) ≡ rule.space_through P spot (node (form_label at marks f) ts)
  through_by spot at marks (form.Ref reference) ts =
      let t = node (form_label at marks (form.Ref reference)) ts in
      ap (simple.simple_told Elsewhere) (resolve_same P t) ∙ simple_same (resolving.resolve P t) Elsewhere
  through_by spot at marks form.Bool ts = simple_same (node (form_label at marks form.Bool) ts) spot
  through_by spot at marks (form.Int r) ts = simple_same (node (form_label at marks (form.Int r)) ts) spot
  through_by spot at marks (form.Numbers items) ts = simple_same (node (form_label at marks (form.Numbers items)) ts) spot
  through_by spot at marks (form.Words identifiers) ts = simple_same (node (form_label at marks (form.Words identifiers)) ts) spot
  through_by spot at marks (form.Utf8 size class) ts = simple_same (node (form_label at marks (form.Utf8 size class)) ts) spot
  through_by spot at marks (form.Sequence parts) ts = simple_same (node (form_label at marks (form.Sequence parts)) ts) spot
  through_by spot at marks (form.Choice parts) ts = simple_same (node (form_label at marks (form.Choice parts)) ts) spot
  through_by spot at marks (form.SequenceOf size part) ts = simple_same (node (form_label at marks (form.SequenceOf size part)) ts) spot

  through_same : (spot : Spot) (t : Rose PlainLabel) → rule.space_through Q spot (clear_type t) ≡ rule.space_through P spot t
  through_same spot (node l ts) = through_by spot l.at l.marks l.form ts

  space_same : (spot : Spot) (marks : List PartMark) (t : Rose PlainLabel) → rule.space_at Q spot (clear_part_marks marks) (clear_type t) ≡ rule.space_at P spot marks t
  space_same spot marks t = ap₂ (λ b o. if b then o else None) (any_part told.is_attribute (λ m. refl) marks) (through_same spot t)

  spot_same : (spot : Spot) (l : PlainLabel) (i : ℕ) (part : PlainPart) → rule.part_spot spot (clear_label l) i (clear_part part) ≡ rule.part_spot spot l i part
  spot_same spot l i part =
      ap₂ (λ b r. if b then simple.item_spot spot else (if orders.is_order r then Order else Elsewhere)) (sequence_of_same l.form) (role_same l i part)

  no_marks : (ms : List PartMark) → rule.has_no (clear_part_marks ms) ≡ rule.has_no ms
  no_marks [] = refl
  no_marks (m ∷ ms) = refl

  no_type_marks : (ms : List TypeMark) → rule.has_no (clear_type_marks ms) ≡ rule.has_no ms
  no_type_marks [] = refl
  no_type_marks (m ∷ ms) = refl

  bare_same : (part : PlainPart) (t : Rose PlainLabel) → rule.is_bare (clear_part part) (label_of (clear_type t)) ≡ rule.is_bare part (label_of t)
  bare_same part (node l ts) = ap₂ (λ a b. is_empty part.identifier && a && b) (no_marks part.marks) (no_type_marks l.marks)

  bare_clear : (part : PlainPart) (t : Rose PlainLabel)
      → unplaced (if rule.is_bare part (label_of t) then rule.reference_faults P (label_of t).form else [])
      ≡ (if rule.is_bare (clear_part part) (label_of (clear_type t)) then rule.reference_faults Q (label_of (clear_type t)).form else [])
  bare_clear part (node l ts) =
      by (rule.is_bare part l) ∙ ap (λ b. if b then rule.reference_faults Q (clear_form l.form) else []) (sym (bare_same part (node l ts)))
    where
      by : (b : Bool) → unplaced (if b then rule.reference_faults P l.form else []) ≡ (if b then rule.reference_faults Q (clear_form l.form) else [])
      by true = reference_clear l.form
      by false = refl

  named_same : (nameless : Bool) (f : PlainForm) (part : PlainPart) → rule.is_named_so nameless (clear_form f) (clear_part part) ≡ rule.is_named_so nameless f part
  named_same nameless (form.SequenceOf size item) part = refl
  named_same nameless form.Bool part = refl
  named_same nameless (form.Int r) part = refl
  named_same nameless (form.Numbers items) part = refl
  named_same nameless (form.Words identifiers) part = refl
  named_same nameless (form.Utf8 size class) part = refl
  named_same nameless (form.Sequence parts) part = refl
  named_same nameless (form.Choice parts) part = refl
  named_same nameless (form.Ref reference) part = refl

  nameless_same : (marks : List TypeMark) → rule.nameless_parts (clear_type_marks marks) ≡ rule.nameless_parts marks
  nameless_same marks = ap₂ (λ a b. rule.one_if a + rule.one_if b) (any_type told.is_embed_values (λ m. refl) marks) (any_type told.is_use_order (λ m. refl) marks)

  abbrev TypeClear : Rose PlainLabel → Type 0
  TypeClear t = (spot : Spot) (nameless : Bool) → unplaced (rule.type_faults P spot nameless t) ≡ rule.type_faults Q spot nameless (clear_type t)

  abbrev PartsClear : Roses PlainLabel → Type 0
  PartsClear ts = (spot : Spot) (nameless : Bool) (l : PlainLabel) (i : ℕ) (before : List (List ℕ)) (front : ℕ) (parts : List PlainPart)
      → unplaced (rule.part_faults P spot nameless l i before front parts ts) ≡ rule.part_faults Q spot nameless (clear_label l) i before front (map clear_part parts) (clear_types ts)

  node_clear : (l : PlainLabel) (ts : Roses PlainLabel) → PartsClear ts → TypeClear (node l ts)
  unfolding rule.type_faults
  node_clear l ts rest spot nameless =
      both (rule.type_mark_faults P spot l ts None 0 l.marks ++ rule.form_faults P spot l.marks l.form) _ _ _
      (both (rule.type_mark_faults P spot l ts None 0 l.marks) _ _ _ (type_marks_clear l.marks spot l ts None 0) (form_clear spot l.marks l.form))
      (rest spot (told.has_list l.marks || nameless) l 0 [] (rule.nameless_parts l.marks) (parts_of l.form)
      ∙ ap (λ b. rule.part_faults Q spot (b || nameless) (clear_label l) 0 [] (rule.nameless_parts l.marks) (map clear_part (parts_of l.form)) (clear_types ts)) (sym (any_type told.is_list (λ m. refl) l.marks))
      ∙ ap (λ n. rule.part_faults Q spot (told.has_list (clear_type_marks l.marks) || nameless) (clear_label l) 0 [] n (map clear_part (parts_of l.form)) (clear_types ts)) (sym (nameless_same l.marks))
      ∙ ap (λ ps. rule.part_faults Q spot (told.has_list (clear_type_marks l.marks) || nameless) (clear_label l) 0 [] (rule.nameless_parts (clear_type_marks l.marks)) ps (clear_types ts)) (sym (parts_same l.form)))

  none_clear : PartsClear none
  unfolding rule.part_faults
  none_clear spot nameless l i before front parts = refl

  more_clear : (t : Rose PlainLabel) (ts : Roses PlainLabel) → TypeClear t → PartsClear ts → PartsClear (more t ts)
  unfolding rule.part_faults
  more_clear t ts first rest spot nameless l i before front [] = refl
  more_clear t ts first rest spot nameless l i before front (part ∷ parts) =
      let inner = rule.part_spot spot l i part in
      let outer = rule.part_spot spot (clear_label l) i (clear_part part) in
      let space = rule.space_at P inner part.marks t in
      let spots = spot_same spot l i part in
      let spaces : rule.space_at Q outer (clear_part_marks part.marks) (clear_type t) ≡ space =
      ap (λ s. rule.space_at Q s (clear_part_marks part.marks) (clear_type t)) spots ∙ space_same inner part.marks t in
      let f1 = unless (not (rule.is_listed before part.identifier)) part.at Duplicate in
      let f2 : List TextFault = if rule.is_bare part (label_of t) then rule.reference_faults P (label_of t).form else [] in
      let f3 = unless (rule.is_named_so nameless l.form part) part.at Spelling in
      let f4 = rule.part_mark_faults (is_some space) part.identifier None part.marks in
      let f5 = rule.type_faults P inner (nat_lt 0 front) t in
      let f6 = rule.fixed_faults space part.fixed in
      let f7 = rule.absence_faults space part.fixed (resolving.resolve P t) part.absence in
      both (f1 ++ f2 ++ f3 ++ f4 ++ f5 ++ f6 ++ f7) _ _ _
      (both (f1 ++ f2 ++ f3 ++ f4 ++ f5 ++ f6) _ _ _
      (both (f1 ++ f2 ++ f3 ++ f4 ++ f5) _ _ _
      (both (f1 ++ f2 ++ f3 ++ f4) _ _ _
      (both (f1 ++ f2 ++ f3) _ _ _
      (both (f1 ++ f2) _ _ _
      (both f1 _ _ _ (one _ _ part.at Duplicate refl) (bare_clear part t))
      (one _ _ part.at Spelling (named_same nameless l.form part)))
      (part_marks_clear part.marks (is_some space) part.identifier None
      ∙ ap (λ o. rule.part_mark_faults (is_some o) part.identifier None (clear_part_marks part.marks)) (sym spaces)))
      (first inner (nat_lt 0 front) ∙ ap (λ s. rule.type_faults Q s (nat_lt 0 front) (clear_type t)) (sym spots)))
      (fixed_clear space part.fixed ∙ ap (λ o. rule.fixed_faults o (clear_fixed part.fixed)) (sym spaces)))
      (absence_clear space part.fixed (resolving.resolve P t) part.absence
      ∙ ap (λ u. rule.absence_faults space (clear_fixed part.fixed) u (clear_absence part.absence)) (sym (resolve_same P t))
      ∙ ap (λ o. rule.absence_faults o (clear_fixed part.fixed) (resolving.resolve Q (clear_type t)) (clear_absence part.absence)) (sym spaces)))
      (rest spot nameless l (i + 1) (before ++ part.identifier ∷ []) (front - 1) parts)

  mutual
    type_clear : (t : Rose PlainLabel) → TypeClear t
    type_clear (node l ts) = node_clear l ts (types_clear ts)

    types_clear : (ts : Roses PlainLabel) → PartsClear ts
    types_clear none = none_clear
    types_clear (more t ts) = more_clear t ts (type_clear t) (types_clear ts)

  -- ---- assignments

  assignment_clear : (before : List (List ℕ)) (a : PlainAssignment) → unplaced (rule.assignment_faults P before a) ≡ rule.assignment_faults Q before (clear_assignment a)
  assignment_clear before a =
      let space = rule.space_at P Elsewhere a.marks a.body in
      let f1 = unless (not (rule.has_text before a.reference) && not (rule.has_text reserved_words a.reference)) a.at Duplicate in
      let f2 = unless (resolving.chains_end P a.body) a.at LongChain in
      let f3 = rule.part_mark_faults (is_some space) a.reference None a.marks in
      both (f1 ++ f2 ++ f3) _ _ _
      (both (f1 ++ f2) _ _ _
      (both f1 _ _ _ (one _ _ a.at Duplicate refl) (one _ _ a.at LongChain (ends_same P a.body)))
      (part_marks_clear a.marks (is_some space) a.reference None
      ∙ ap (λ o. rule.part_mark_faults (is_some o) a.reference None (clear_part_marks a.marks)) (sym (space_same Elsewhere a.marks a.body))))
      (type_clear a.body Elsewhere false)

  from_clear : (others : List PlainAssignment) (before : List (List ℕ)) → unplaced (rule.faults_from P before others) ≡ rule.faults_from Q before (map clear_assignment others)
  from_clear [] before = refl
  from_clear (a ∷ others) before =
      both (rule.assignment_faults P before a) _ _ _ (assignment_clear before a) (from_clear others (before ++ a.reference ∷ []))

nothing_placed : (fs : List TextFault) → unplaced fs ≡ [] → fs ≡ []
nothing_placed [] e = refl
nothing_placed (f ∷ fs) e = absurd (cc)

-- A tree has no fault where the same with each thing at place 0 has none.
pub faultless : (P : List PlainAssignment) → rule.faults (map clear_assignment P) ≡ [] → rule.faults P ≡ []
faultless P e = nothing_placed (rule.faults P) (from_clear P P [] ∙ e)
