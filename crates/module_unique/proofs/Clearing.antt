-- Trees with each thing at place 0: places change nothing else.
use Rattle.std.proofs.Common.{◌≡◌, ℕ, Option, Some, None, List, [], ◌∷◌, map, refl, ap, ap₂}
use Rattle.std.specs.Prelude.{suc}
use Rattle.std.specs.Option.{option_map}
use Rattle.base_trees.specs.Rose.{Rose, node, Roses, none, more}
use Rattle.module_text.specs.declared.bounds.PlainNumber.{PlainNumber}
use Rattle.module_text.specs.declared.bounds.PlainEnds.{PlainEnds}
use Rattle.module_text.specs.declared.bounds.PlainEnds.TheVariants as ends
use Rattle.module_text.specs.declared.bounds.PlainRange.{PlainRange}
use Rattle.module_text.specs.declared.bounds.PlainRange.TheVariants as range
use Rattle.module_text.specs.declared.marks.PartMark.{PartMark}
use Rattle.module_text.specs.declared.marks.TypeMark.{TypeMark}
use Rattle.module_text.specs.declared.values.PlainValueLabel.{PlainValueLabel}
use Rattle.module_text.specs.declared.values.PlainOctets.{PlainOctets}
use Rattle.module_text.specs.declared.values.Absence.{Absence}
use Rattle.module_text.specs.declared.values.Absence.TheVariants as absence
use Rattle.module_text.specs.declared.types.NumberedItem.{NumberedItem}
use Rattle.module_text.specs.declared.types.PlainName.{PlainName}
use Rattle.module_text.specs.declared.types.PlainPart.{PlainPart}
use Rattle.module_text.specs.declared.types.PlainForm.{PlainForm}
use Rattle.module_text.specs.declared.types.PlainForm.TheVariants as form
use Rattle.module_text.specs.declared.types.PlainLabel.{PlainLabel}
use Rattle.module_text.specs.declared.modules.PlainAssignment.{PlainAssignment}
use Rattle.module_text.specs.Texts as laid
use Rattle.module_text.specs.Places as places

-- ---- bounds

abbrev pub clear_number : PlainNumber → PlainNumber
clear_number n = record n { at = 0 }

abbrev pub clear_ends : PlainEnds → PlainEnds
clear_ends (ends.One number) = ends.One (clear_number number)
clear_ends (ends.Both least greatest) = ends.Both (clear_number least) (clear_number greatest)
clear_ends (ends.From least max_at) = ends.From (clear_number least) 0

abbrev pub clear_range : PlainRange → PlainRange
clear_range (range.Ends e) = range.Ends (clear_ends e)
clear_range (range.To greatest) = range.To (clear_number greatest)

ends_clear : (at : ℕ) (e : PlainEnds) → clear_ends (places.placed_ends at e) ≡ clear_ends e
ends_clear at (ends.One number) = refl
ends_clear at (ends.Both least greatest) = refl
ends_clear at (ends.From least max_at) = refl

range_clear : (at : ℕ) (r : Option PlainRange) → option_map clear_range (places.placed_number_range at r) ≡ option_map clear_range r
range_clear at None = refl
range_clear at (Some (range.Ends e)) = ap (λ x. Some (range.Ends x)) (ends_clear _ e)
range_clear at (Some (range.To greatest)) = refl

size_clear : (at : ℕ) (size : Option PlainEnds) → option_map clear_ends (places.placed_size at size) ≡ option_map clear_ends size
size_clear at None = refl
size_clear at (Some e) = ap Some (ends_clear _ e)

-- ---- encoding instructions

abbrev pub clear_part_marks : List PartMark → List PartMark
clear_part_marks marks = map (λ (m : PartMark). record m { at = 0 }) marks

abbrev pub clear_type_marks : List TypeMark → List TypeMark
clear_type_marks marks = map (λ (m : TypeMark). record m { at = 0 }) marks

part_marks_clear : (ms : List PartMark) (at : ℕ) → clear_part_marks (places.placed_part_marks at ms) ≡ clear_part_marks ms
part_marks_clear [] at = refl
part_marks_clear (m ∷ ms) at = ap (λ xs. record m { at = 0 } ∷ xs) (part_marks_clear ms _)

type_marks_clear : (ms : List TypeMark) (at : ℕ) → clear_type_marks (places.placed_type_marks at ms) ≡ clear_type_marks ms
type_marks_clear [] at = refl
type_marks_clear (m ∷ ms) at = ap (λ xs. record m { at = 0 } ∷ xs) (type_marks_clear ms _)

-- ---- values

abbrev mutual
  pub clear_value : Rose PlainValueLabel → Rose PlainValueLabel
  clear_value (node l vs) = node (record l { at = 0 }) (clear_values vs)

  pub clear_values : Roses PlainValueLabel → Roses PlainValueLabel
  clear_values none = none
  clear_values (more v vs) = more (clear_value v) (clear_values vs)

mutual
  value_clear : (v : Rose PlainValueLabel) (at : ℕ) → clear_value (places.placed_value at v) ≡ clear_value v
  value_clear (node l vs) at = ap (node (record l { at = 0 })) (values_clear vs _)

  values_clear : (vs : Roses PlainValueLabel) (at : ℕ) → clear_values (places.placed_values at vs) ≡ clear_values vs
  values_clear none at = refl
  values_clear (more v vs) at = ap₂ more (value_clear v at) (values_clear vs _)

abbrev pub clear_fixed : Option PlainOctets → Option PlainOctets
clear_fixed fixed = option_map (λ (octets : PlainOctets). record octets { at = 0 }) fixed

abbrev pub clear_absence : Absence → Absence
clear_absence absence.Never = absence.Never
clear_absence absence.Optional = absence.Optional
clear_absence (absence.Default v) = absence.Default (clear_value v)

fixed_clear : (at : ℕ) (fixed : Option PlainOctets) → clear_fixed (places.placed_fixed at fixed) ≡ clear_fixed fixed
fixed_clear at None = refl
fixed_clear at (Some octets) = refl

absence_clear : (at : ℕ) (a : Absence) → clear_absence (places.placed_absence at a) ≡ clear_absence a
absence_clear at absence.Never = refl
absence_clear at absence.Optional = refl
absence_clear at (absence.Default v) = ap absence.Default (value_clear v _)

-- ---- types

abbrev pub clear_name : PlainName → PlainName
clear_name i = record i { at = 0 }

abbrev pub clear_item : NumberedItem → NumberedItem
clear_item item = record { identifier = clear_name item.identifier; number = clear_number item.number }

names_clear : (is : List PlainName) (at : ℕ) → map clear_name (places.placed_names at is) ≡ map clear_name is
names_clear [] at = refl
names_clear (i ∷ is) at = ap (λ xs. clear_name i ∷ xs) (names_clear is _)

items_clear : (is : List NumberedItem) (at : ℕ) → map clear_item (places.placed_items at is) ≡ map clear_item is
items_clear [] at = refl
items_clear (i ∷ is) at = ap (λ xs. clear_item i ∷ xs) (items_clear is _)

abbrev pub clear_part : PlainPart → PlainPart
clear_part part = record {
  at = 0;
  identifier = part.identifier;
  marks = clear_part_marks part.marks;
  fixed = clear_fixed part.fixed;
  absence = clear_absence part.absence;
}

abbrev pub part_of : List ℕ → List PartMark → Option PlainOctets → Absence → PlainPart
part_of identifier marks fixed a = record { at = 0; identifier = identifier; marks = marks; fixed = fixed; absence = a }

pub part_with : (identifier : List ℕ) (ms ns : List PartMark) (f g : Option PlainOctets) (a b : Absence) → ms ≡ ns → f ≡ g → a ≡ b
    → part_of identifier ms f a ≡ part_of identifier ns g b
part_with identifier ms ns f g a b d e h = rw (d, e, h) refl

part_clear : (at : ℕ) (part : PlainPart) (type : List ℕ) → clear_part (places.placed_part at part type) ≡ clear_part part
part_clear at part type = part_with part.identifier _ _ _ _ _ _ (part_marks_clear part.marks _) (fixed_clear _ part.fixed) (absence_clear _ part.absence)

parts_clear : (parts : List PlainPart) (levels at : ℕ) (types : List (List ℕ)) → map clear_part (places.placed_parts levels at parts types) ≡ map clear_part parts
parts_clear [] levels at types = refl
parts_clear (part ∷ parts) levels at [] = refl
parts_clear (part ∷ parts) levels at (type ∷ types) = ap₂ (λ x xs. x ∷ xs) (part_clear at part type) (parts_clear parts levels _ types)

abbrev pub clear_form : PlainForm → PlainForm
clear_form form.Bool = form.Bool
clear_form (form.Int r) = form.Int (option_map clear_range r)
clear_form (form.Numbers items) = form.Numbers (map clear_item items)
clear_form (form.Words identifiers) = form.Words (map clear_name identifiers)
clear_form (form.Utf8 size class) = form.Utf8 (option_map clear_ends size) class
clear_form (form.Sequence parts) = form.Sequence (map clear_part parts)
clear_form (form.Choice parts) = form.Choice (map clear_part parts)
clear_form (form.SequenceOf size part) = form.SequenceOf (option_map clear_ends size) (clear_part part)
clear_form (form.Ref reference) = form.Ref (clear_name reference)

form_clear : (levels at : ℕ) (f : PlainForm) (types : List (List ℕ)) → clear_form (places.placed_form levels at f types) ≡ clear_form f
form_clear levels at form.Bool types = refl
form_clear levels at (form.Int r) types = ap form.Int (range_clear _ r)
form_clear levels at (form.Numbers items) types = ap form.Numbers (items_clear items _)
form_clear levels at (form.Words identifiers) types = ap form.Words (names_clear identifiers _)
form_clear levels at (form.Utf8 size class) types = ap (λ x. form.Utf8 x class) (size_clear _ size)
form_clear levels at (form.Sequence parts) types = ap form.Sequence (parts_clear parts (suc levels) _ types)
form_clear levels at (form.Choice parts) types = ap form.Choice (parts_clear parts (suc levels) _ types)
form_clear levels at (form.SequenceOf size part) [] = ap (λ x. form.SequenceOf x (clear_part part)) (size_clear _ size)
form_clear levels at (form.SequenceOf size part) (type ∷ types) = ap₂ form.SequenceOf (size_clear _ size) (part_clear _ part type)
form_clear levels at (form.Ref reference) types = refl

abbrev mutual
  pub clear_type : Rose PlainLabel → Rose PlainLabel
  clear_type (node l ts) = node (record { at = 0; marks = clear_type_marks l.marks; form = clear_form l.form }) (clear_types ts)

  pub clear_types : Roses PlainLabel → Roses PlainLabel
  clear_types none = none
  clear_types (more t ts) = more (clear_type t) (clear_types ts)

abbrev pub label_with : List TypeMark → PlainForm → PlainLabel
label_with marks f = record { at = 0; marks = marks; form = f }

mutual
  type_clear : (t : Rose PlainLabel) (levels at : ℕ) → clear_type (places.placed_type levels at t) ≡ clear_type t
  type_clear (node l ts) levels at =
      ap₂ node (ap₂ label_with (type_marks_clear l.marks at) (form_clear levels _ l.form _)) (types_clear ts _ _ (laid.parts_of l.form))

  types_clear : (ts : Roses PlainLabel) (levels at : ℕ) (parts : List PlainPart) → clear_types (places.placed_types levels at parts ts) ≡ clear_types ts
  types_clear none levels at parts = refl
  types_clear (more t ts) levels at [] = refl
  types_clear (more t ts) levels at (part ∷ parts) = ap₂ more (type_clear t levels _) (types_clear ts levels _ parts)

abbrev pub clear_assignment : PlainAssignment → PlainAssignment
clear_assignment a = record { at = 0; reference = a.reference; marks = clear_part_marks a.marks; body = clear_type a.body }

abbrev pub assignment_with : List ℕ → List PartMark → Rose PlainLabel → PlainAssignment
assignment_with reference marks body = record { at = 0; reference = reference; marks = marks; body = body }

from_clear : (ms : List PlainAssignment) (at : ℕ) → map clear_assignment (places.placed_from at ms) ≡ map clear_assignment ms
from_clear [] at = refl
from_clear (a ∷ ms) at =
    ap₂ (λ x xs. x ∷ xs) (ap₂ (assignment_with a.reference) (part_marks_clear a.marks _) (type_clear a.body 0 _)) (from_clear ms _)

pub placed_clear : (ms : List PlainAssignment) → map clear_assignment (places.placed ms) ≡ map clear_assignment ms
placed_clear ms = from_clear ms _
