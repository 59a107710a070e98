-- What a print tells has each thing at place 0.
use Rattle.std.proofs.Common.{◌≡◌, ℕ, zero, suc, Bool, true, false, Option, Some, None, List, [], ◌∷◌, map, refl, ap, ap₂}
use Rattle.std.specs.Prelude.{ℤ, pos, Ok, Err, if◌then◌else◌}
use Rattle.std.specs.Ordering.{int_eq}
use Rattle.std.specs.Option.{option_map}
use Rattle.base_trees.specs.Rose.{Rose, node, Roses, none, more, label_of, kids_of, roses_of}
use Rattle.simple_types.specs.declared.labels.ValueLabel.{ValueLabel}
use Rattle.simple_types.specs.declared.labels.ValueLabel.TheVariants as label
use Rattle.simple_types.specs.declared.standards.Standard.{Standard}
use Rattle.simple_types.specs.declared.standards.Standard.TheVariants.{Free, Default, Fixed}
use Rattle.simple_types.specs.Reading.{reads, Reading, choice_at}
use Rattle.asn_types.specs.declared.marks.Instruction.{Instruction}
use Rattle.asn_types.specs.declared.types.Component.{Component}
use Rattle.asn_types.specs.declared.types.Form.{Form}
use Rattle.asn_types.specs.declared.types.Form.TheVariants as form
use Rattle.asn_types.specs.declared.types.TypeLabel.{TypeLabel}
use Rattle.asn_types.specs.declared.modules.Assignment.{Assignment}
use Rattle.asn_types.specs.Refs.{resolve}
use Rattle.asn_types.specs.Spaces.{space_at}
use Rattle.module_print.specs.Values.{alternative}
use Rattle.module_text.specs.declared.bounds.PlainEnds.TheVariants as ends
use Rattle.module_text.specs.declared.bounds.PlainRange.TheVariants as range_
use Rattle.module_text.specs.declared.marks.PartMark.{PartMark}
use Rattle.module_text.specs.declared.marks.PartMarkKind.{PartMarkKind}
use Rattle.module_text.specs.declared.marks.TypeMark.{TypeMark}
use Rattle.module_text.specs.declared.marks.TypeMarkKind.{TypeMarkKind}
use Rattle.module_text.specs.declared.values.PlainValue.TheVariants as value
use Rattle.module_text.specs.declared.values.PlainValueLabel.{PlainValueLabel}
use Rattle.module_text.specs.declared.values.Absence.TheVariants as absence
use Rattle.module_text.specs.declared.types.PlainForm.TheVariants as plain
use Rattle.module_unique.proofs.Telling.{value_label, both_told, range_told, size_told, part_kind, part_marks_told, type_kind, type_marks_told, fixed_told, standard_told, reading_told, value_told, part_told, truth_told, whole_told, item_told, text_told, chosen_told, name_at, numbered_told, component_told, components_told, only_told, form_told, form_value, number_told, type_told, types_told, assignment_told, module_told}
use Rattle.module_unique.proofs.Clearing.{clear_ends, clear_range, clear_part_marks, clear_type_marks, clear_value, clear_values, clear_fixed, clear_absence, clear_name, clear_item, clear_part, clear_form, clear_type, clear_types, clear_assignment, part_with, label_with, assignment_with}

-- ---- bounds

both_unplaced : (a b : ℤ) → clear_ends (both_told a b) ≡ both_told a b
both_unplaced a b = at (int_eq a b)
  where
    at : (same : Bool) → clear_ends (if same then ends.One (number_told a) else ends.Both (number_told a) (number_told b))
        ≡ (if same then ends.One (number_told a) else ends.Both (number_told a) (number_told b))
    at true = refl
    at false = refl

range_unplaced : (least greatest : Option ℤ) → option_map clear_range (range_told least greatest) ≡ range_told least greatest
range_unplaced None None = refl
range_unplaced None (Some b) = refl
range_unplaced (Some a) None = refl
range_unplaced (Some a) (Some b) = ap (λ e. Some (range_.Ends e)) (both_unplaced a b)

size_unplaced : (least : ℕ) (most : Option ℕ) → option_map clear_ends (size_told least most) ≡ size_told least most
size_unplaced zero None = refl
size_unplaced (suc n) None = refl
size_unplaced zero (Some m) = ap Some (both_unplaced (pos 0) (pos m))
size_unplaced (suc n) (Some m) = ap Some (both_unplaced (pos (suc n)) (pos m))

-- ---- encoding instructions

abbrev part_mark_of : PartMarkKind → PartMark
part_mark_of kind = record { at = 0; kind = kind }

abbrev type_mark_of : TypeMarkKind → TypeMark
type_mark_of kind = record { at = 0; kind = kind }

part_marks_unplaced : (generated : List ℕ) (marks : List Instruction) → clear_part_marks (part_marks_told generated marks) ≡ part_marks_told generated marks
part_marks_unplaced generated [] = refl
part_marks_unplaced generated (m ∷ ms) = ap (λ xs. part_mark_of (part_kind generated m) ∷ xs) (part_marks_unplaced generated ms)

type_marks_unplaced : (f : Form) (marks : List Instruction) → clear_type_marks (type_marks_told f marks) ≡ type_marks_told f marks
type_marks_unplaced f [] = refl
type_marks_unplaced f (m ∷ ms) = ap (λ xs. type_mark_of (type_kind f m) ∷ xs) (type_marks_unplaced f ms)

-- ---- values

truth_unplaced : (l : ValueLabel) → clear_value (truth_told l) ≡ truth_told l
truth_unplaced (label.Bool true) = refl
truth_unplaced (label.Bool false) = refl
truth_unplaced l = refl

whole_unplaced : (l : ValueLabel) → clear_value (whole_told l) ≡ whole_told l
whole_unplaced (label.Int z) = refl
whole_unplaced l = refl

item_unplaced : (f : Form) (l : ValueLabel) → clear_value (item_told f l) ≡ item_told f l
item_unplaced f (label.Enum i) = refl
item_unplaced f l = refl

text_unplaced : (l : ValueLabel) → clear_value (text_told l) ≡ text_told l
text_unplaced (label.Utf8 text) = refl
text_unplaced l = refl

abbrev Unplaces : (ℕ → Rose ValueLabel → Rose PlainValueLabel) → Type 0
Unplaces told = (i : ℕ) (v : Rose ValueLabel) → clear_value (told i v) ≡ told i v

chosen_unplaced : (parts : List Component) (told : ℕ → Rose ValueLabel → Rose PlainValueLabel) → Unplaces told
    → (choice : Option (ℕ × Rose ValueLabel)) → clear_value (chosen_told parts told choice) ≡ chosen_told parts told choice
chosen_unplaced parts told same None = refl
chosen_unplaced parts told same (Some choice) = ap (λ v. node (value_label (value.Chosen (alternative parts choice.0))) (more v none)) (same choice.0 choice.1)

values_unplaced : (told : ℕ → Rose ValueLabel → Rose PlainValueLabel) → Unplaces told
    → (vs : List (Rose ValueLabel)) → clear_values (roses_of (map (told 0) vs)) ≡ roses_of (map (told 0) vs)
values_unplaced told same [] = refl
values_unplaced told same (v ∷ vs) = ap₂ more (same 0 v) (values_unplaced told same vs)

form_value_unplaced : (f : Form) (told : ℕ → Rose ValueLabel → Rose PlainValueLabel) → Unplaces told
    → (v : Rose ValueLabel) → clear_value (form_value f told v) ≡ form_value f told v
form_value_unplaced form.Bool told same v = truth_unplaced (label_of v)
form_value_unplaced (form.Int least greatest) told same v = whole_unplaced (label_of v)
form_value_unplaced (form.Numbers numbers) told same v = item_unplaced (form.Numbers numbers) (label_of v)
form_value_unplaced (form.Words identifiers words) told same v = item_unplaced (form.Words identifiers words) (label_of v)
form_value_unplaced (form.Order identifiers) told same v = refl
form_value_unplaced (form.Utf8 least most class) told same v = text_unplaced (label_of v)
form_value_unplaced (form.Sequence parts) told same v = refl
form_value_unplaced (form.Choice parts) told same v = chosen_unplaced parts told same (choice_at (label_of v) (kids_of v))
form_value_unplaced (form.SequenceOf part least most) told same v = ap (λ vs. node (value_label value.List) vs) (values_unplaced told same (kids_of v))
form_value_unplaced (form.Ref to) told same v = refl

mutual
  value_unplaced : (t : Rose TypeLabel) (v : Rose ValueLabel) → clear_value (value_told t v) ≡ value_told t v
  value_unplaced (node l ts) v = form_value_unplaced l.form (part_told ts) (part_unplaced ts) v

  part_unplaced : (ts : Roses TypeLabel) (i : ℕ) (v : Rose ValueLabel) → clear_value (part_told ts i v) ≡ part_told ts i v
  part_unplaced none i v = refl
  part_unplaced (more t ts) zero v = value_unplaced t v
  part_unplaced (more t ts) (suc i) v = part_unplaced ts i v

reading_unplaced : (t : Rose TypeLabel) (text : List ℕ) (r : Reading) → clear_value (reading_told t text r) ≡ reading_told t text r
reading_unplaced t text (Ok v) = value_unplaced t v
reading_unplaced t text (Err why) = refl

fixed_unplaced : (s : Standard) → clear_fixed (fixed_told s) ≡ fixed_told s
fixed_unplaced Free = refl
fixed_unplaced (Default text) = refl
fixed_unplaced (Fixed text) = refl

standard_unplaced : (M : List Assignment) (t : Rose TypeLabel) (s : Standard) → clear_absence (standard_told M t s) ≡ standard_told M t s
standard_unplaced M t Free = refl
standard_unplaced M t (Default text) = ap absence.Default (reading_unplaced (resolve M t) text (reads (space_at (resolve M t)) text))
standard_unplaced M t (Fixed text) = ap absence.Default (reading_unplaced (resolve M t) text (reads (space_at (resolve M t)) text))

absence_unplaced : (M : List Assignment) (s : Standard) (t : Rose TypeLabel) (optional : Bool)
    → clear_absence (if optional then standard_told M t s else absence.Never) ≡ (if optional then standard_told M t s else absence.Never)
absence_unplaced M s t true = standard_unplaced M t s
absence_unplaced M s t false = refl

-- ---- types

names_unplaced : (names : List (List ℕ)) → map clear_name (map name_at names) ≡ map name_at names
names_unplaced [] = refl
names_unplaced (name ∷ names) = ap (λ xs. name_at name ∷ xs) (names_unplaced names)

numbers_unplaced : (numbers : List ℤ) → map clear_item (map numbered_told numbers) ≡ map numbered_told numbers
numbers_unplaced [] = refl
numbers_unplaced (z ∷ zs) = ap (λ xs. numbered_told z ∷ xs) (numbers_unplaced zs)

module _ (M : List Assignment) where
  component_unplaced : (part : Component) (t : Rose TypeLabel) → clear_part (component_told M part t) ≡ component_told M part t
  component_unplaced part t =
      part_with part.identifier _ _ _ _ _ _ (part_marks_unplaced part.identifier part.marks) (fixed_unplaced part.standard) (absence_unplaced M part.standard t part.optional)

  components_unplaced : (parts : List Component) (ts : Roses TypeLabel) → map clear_part (components_told M parts ts) ≡ components_told M parts ts
  components_unplaced [] ts = refl
  components_unplaced (part ∷ parts) none = refl
  components_unplaced (part ∷ parts) (more t ts) = ap₂ (λ x xs. x ∷ xs) (component_unplaced part t) (components_unplaced parts ts)

  only_unplaced : (part : Component) (ts : Roses TypeLabel) → clear_part (only_told M part ts) ≡ only_told M part ts
  only_unplaced part none = part_with part.identifier _ _ _ _ _ _ (part_marks_unplaced part.identifier part.marks) refl refl
  only_unplaced part (more t ts) = component_unplaced part t

  form_unplaced : (f : Form) (ts : Roses TypeLabel) → clear_form (form_told M f ts) ≡ form_told M f ts
  form_unplaced form.Bool ts = refl
  form_unplaced (form.Int least greatest) ts = ap plain.Int (range_unplaced least greatest)
  form_unplaced (form.Numbers numbers) ts = ap plain.Numbers (numbers_unplaced numbers)
  form_unplaced (form.Words identifiers words) ts = ap plain.Words (names_unplaced identifiers)
  form_unplaced (form.Order identifiers) ts = ap plain.Words (names_unplaced identifiers)
  form_unplaced (form.Utf8 least most class) ts = ap (λ x. plain.Utf8 x class) (size_unplaced least most)
  form_unplaced (form.Sequence parts) ts = ap plain.Sequence (components_unplaced parts ts)
  form_unplaced (form.Choice parts) ts = ap plain.Choice (components_unplaced parts ts)
  form_unplaced (form.SequenceOf part least most) ts = ap₂ plain.SequenceOf (size_unplaced least most) (only_unplaced part ts)
  form_unplaced (form.Ref to) ts = refl

  mutual
    type_unplaced : (t : Rose TypeLabel) → clear_type (type_told M t) ≡ type_told M t
    type_unplaced (node l ts) = ap₂ node (ap₂ label_with (type_marks_unplaced l.form l.marks) (form_unplaced l.form ts)) (types_unplaced ts)

    types_unplaced : (ts : Roses TypeLabel) → clear_types (types_told M ts) ≡ types_told M ts
    types_unplaced none = refl
    types_unplaced (more t ts) = ap₂ more (type_unplaced t) (types_unplaced ts)

  assignments_unplaced : (entries : List Assignment) → map clear_assignment (map (assignment_told M) entries) ≡ map (assignment_told M) entries
  assignments_unplaced [] = refl
  assignments_unplaced (a ∷ entries) =
      ap₂ (λ x xs. x ∷ xs) (ap₂ (assignment_with a.reference) (part_marks_unplaced a.reference a.marks) (type_unplaced a.body)) (assignments_unplaced entries)

pub told_unplaced : (M : List Assignment) → map clear_assignment (module_told M) ≡ module_told M
told_unplaced M = assignments_unplaced M M
