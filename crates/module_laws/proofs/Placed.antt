-- The faults of things that stand where they are put, thing by thing.
use Rattle.std.proofs.Common.{◌≡◌, ℕ, suc, ◌+◌, ◌*◌, ◌≤◌, Bool, true, false, ◌&&◌, ◌||◌, Option, Some, None, List, [], ◌∷◌, ◌++◌, map, length, codes, refl, sym, ap, subst, arith, length-append}
use Rattle.std.specs.Prelude.{ℤ, if◌then◌else◌}
use Rattle.std.specs.List.{flat_map}
use Rattle.base_trees.specs.Rose.{Rose, node, Roses, none, more, label_of}
use Rattle.simple_types.specs.Space.{Space}
use Rattle.module_print.specs.Notation.{listed, enumerated, block, new_line, class_range}
use Rattle.module_print.specs.Printed.{labelled}
use Rattle.module_text.specs.declared.bounds.PlainNumber.{PlainNumber}
use Rattle.module_text.specs.declared.bounds.PlainEnds.{PlainEnds}
use Rattle.module_text.specs.declared.bounds.PlainEnds.TheVariants as ends
use Rattle.module_text.specs.declared.bounds.PlainRange.{PlainRange}
use Rattle.module_text.specs.declared.bounds.PlainRange.TheVariants as range
use Rattle.module_text.specs.declared.marks.PartMark.{PartMark}
use Rattle.module_text.specs.declared.marks.PartMarkKind.{PartMarkKind}
use Rattle.module_text.specs.declared.marks.PartMarkKind.TheVariants as part_mark
use Rattle.module_text.specs.declared.marks.TypeMark.{TypeMark}
use Rattle.module_text.specs.declared.marks.TypeMarkKind.{TypeMarkKind}
use Rattle.module_text.specs.declared.marks.TypeMarkKind.TheVariants as type_mark
use Rattle.module_text.specs.declared.values.PlainOctets.{PlainOctets}
use Rattle.module_text.specs.declared.values.Absence.{Absence}
use Rattle.module_text.specs.declared.values.Absence.TheVariants as absence
use Rattle.module_text.specs.declared.types.NumberedItem.{NumberedItem}
use Rattle.module_text.specs.declared.types.PlainName.{PlainName}
use Rattle.module_text.specs.declared.types.PlainPart.{PlainPart}
use Rattle.module_text.specs.declared.types.PlainForm.{PlainForm}
use Rattle.module_text.specs.declared.types.PlainForm.TheVariants as form
use Rattle.module_text.specs.declared.types.PlainLabel.{PlainLabel}
use Rattle.module_text.specs.declared.modules.PlainAssignment.{PlainAssignment}
use Rattle.module_text.specs.Texts.{ends_text, range_text, number_range_text, size_text, part_mark_text, type_mark_text, part_marks_text, type_marks_text, fixed_text, absence_text, item_text, parts_of, level_of_parts, form_text, part_text, part_texts, type_text, assignment_text}
use Rattle.module_text.specs.Places.{behind, placed_number, placed_ends, placed_number_range, placed_size, placed_part_marks, placed_type_marks, placed_fixed, placed_absence, placed_items, placed_names, placed_parts, parts_at, next_at, type_at, placed_form, type_texts, placed_type, placed_types, placed_assignment, placed_from}
use Rattle.module_text.specs.declared.reasons.ModuleWhy.TheVariants as why
use Rattle.module_text.specs.declared.reasons.TextFault.{TextFault}
use Rattle.module_text.specs.declared.spots.Spot.{Spot}
use Rattle.module_text.specs.Listed.{fault, unless, order}
use Rattle.module_text.specs.Told.{has_list}
use Rattle.module_text.specs.Faults.{type_faults, part_faults, form_faults}
use Rattle.module_text.specs.Faults as rule
use Rattle.base_texts.specs.Limits.{is_empty}
use Rattle.module_laws.proofs.Headed.{Run, widen, nothing, joined, joined₃, one, Front, usual, unresolved, silent, fronted, tailed}

-- ---- how far lists of texts reach

-- so many bytes behind each
abbrev pub total : ℕ → List (List ℕ) → ℕ
total k [] = 0
total k (t ∷ ts) = (length t + k) + total k ts

length-listed : (b t : List ℕ) (ts : List (List ℕ)) → suc (length (listed b (t ∷ ts))) ≡ total (suc (length b)) (t ∷ ts)
length-listed b t [] = omega (arith, length-append b t)
length-listed b t (u ∷ ts) =
    omega (arith, length-listed b u ts, length-append b t, length-append (b ++ t) (44 ∷ listed b (u ∷ ts)))

-- ---- numbers and bounds

number-run : (at : ℕ) (n : PlainNumber) → Run (7 * at) (7 * suc at) (rule.number_faults (placed_number at n))
number-run at n = one _ at why.Spelling _ _ (omega arith) (omega arith)

ends-run : (at : ℕ) (e : PlainEnds) → Run (7 * at) (7 * suc (at + length (ends_text e))) (rule.ends_faults (placed_ends at e))
ends-run at (ends.One n) = widen _ _ _ _ _ (number-run at n) (omega arith) (omega arith)
ends-run at (ends.Both least greatest) =
    let q = behind (least.written ++ codes "..") at in
    joined (7 * at) (7 * suc at) (7 * q) _ _ _
    (number-run at least)
    (one _ q why.Spelling (7 * q) (7 * suc (at + length (ends_text (ends.Both least greatest)))) (omega arith)
    (omega (arith, length-append least.written (codes ".."), length-append (least.written ++ codes "..") greatest.written)))
    (omega arith)
    (omega (arith, length-append least.written (codes "..")))
    (omega arith)
ends-run at (ends.From least max_at) = widen _ _ _ _ _ (number-run at least) (omega arith) (omega arith)

range-run : (at : ℕ) (r : Option PlainRange)
    → Run (7 * suc at) (7 * suc (at + length (number_range_text r))) (rule.range_faults (placed_number_range at r))
range-run at None = nothing _ _
range-run at (Some (range.Ends e)) =
    let p = behind (codes " (") at in
    widen _ _ _ _ _ (ends-run p e) (omega arith) (omega (arith, length-append (codes " (" ++ ends_text e) (codes ")")))
range-run at (Some (range.To greatest)) =
    let p = behind (codes "MIN..") (behind (codes " (") at) in
    widen _ _ _ _ _ (number-run p greatest) (omega arith)
    (omega (arith, length-append (codes " (" ++ range_text (range.To greatest)) (codes ")")))

size-run : (at : ℕ) (size : Option PlainEnds)
    → Run (7 * suc at) (7 * suc (at + length (size_text size))) (rule.size_faults (placed_size at size))
size-run at None = nothing _ _
size-run at (Some (ends.One n)) =
    let p = behind (codes " (SIZE (") at in
    one _ p why.Spelling _ _ (omega arith) (omega (arith, length-append (codes " (SIZE (" ++ n.written) (codes "))")))
size-run at (Some (ends.Both least greatest)) =
    let p = behind (codes " (SIZE (") at in
    let q = behind (least.written ++ codes "..") p in
    joined (7 * suc at) (7 * suc p) (7 * q) _ _ _
    (one _ p why.Spelling _ _ (omega arith) (omega arith))
    (one _ q why.Spelling (7 * q) (7 * suc (at + length (size_text (Some (ends.Both least greatest))))) (omega arith)
    (omega (arith, length-append least.written (codes ".."), length-append (least.written ++ codes "..") greatest.written, length-append (codes " (SIZE (" ++ (least.written ++ codes ".." ++ greatest.written)) (codes "))"))))
    (omega (arith, length-append least.written (codes "..")))
    (omega (arith, length-append least.written (codes "..")))
    (omega (arith, length-append least.written (codes ".."), length-append (least.written ++ codes "..") greatest.written, length-append (codes " (SIZE (" ++ (least.written ++ codes ".." ++ greatest.written)) (codes "))")))
size-run at (Some (ends.From least max_at)) =
    let p = behind (codes " (SIZE (") at in
    let q = behind (least.written ++ codes "..") p in
    joined (7 * suc at) (7 * suc p) (7 * q) _ _ _
    (one _ p why.Spelling _ _ (omega arith) (omega arith))
    (one _ q why.Spelling (7 * q) (7 * suc (at + length (size_text (Some (ends.From least max_at))))) (omega arith)
    (omega (arith, length-append least.written (codes ".."), length-append (least.written ++ codes "..") (codes "MAX"), length-append (codes " (SIZE (" ++ (least.written ++ codes ".." ++ codes "MAX")) (codes "))"))))
    (omega (arith, length-append least.written (codes "..")))
    (omega (arith, length-append least.written (codes "..")))
    (omega (arith, length-append least.written (codes ".."), length-append (least.written ++ codes "..") (codes "MAX"), length-append (codes " (SIZE (" ++ (least.written ++ codes ".." ++ codes "MAX")) (codes "))")))

-- ---- items of an ENUMERATED

items-run : (at end : ℕ) (before : _) (last : Option ℤ) (items : List NumberedItem) → at + total 2 (map item_text items) ≤ end + 2
    → Run (7 * at) (7 * suc end) (rule.numbered_faults before last (placed_items at items))
items-run at end before last [] le = nothing _ _
items-run at end before last (item ∷ items) le =
    let q = behind (item.identifier.name ++ codes "(") at in
    let next = behind (item_text item ++ codes ", ") at in
    let all = 7 * suc end in
    let long = length-append item.identifier.name (codes "(") in
    let longer = length-append (item.identifier.name ++ codes "(") item.number.written in
    let longest = length-append (item.identifier.name ++ codes "(" ++ item.number.written) (codes ")") in
    let wide = length-append (item_text item) (codes ", ") in
    joined (7 * at) (7 * suc q) (7 * next) all _ _
    (joined (7 * at) (7 * at + 3) (7 * at + 6) (7 * suc q) _ _
    (one _ at why.Duplicate _ _ (omega arith) (omega arith))
    (joined (7 * at + 6) (7 * at + 6) (7 * q) (7 * suc q) _ _
    (one _ at why.Spelling _ _ (omega arith) (omega arith))
    (one _ q why.Spelling _ _ (omega arith) (omega arith))
    (omega (arith, long)) (omega (arith, long)) (omega (arith, long)))
    (omega arith) (omega arith) (omega (arith, long)))
    (items-run next end _ _ items (omega (arith, le, wide)))
    (omega (arith, wide))
    (omega (arith, long, longer, longest, wide))
    (omega (arith, le, long, longer, longest))

words-run : (at end : ℕ) (order : Bool) (before : _) (last : _) (identifiers : List PlainName) (words : _)
    → at + total 2 (map (λ (i : PlainName). i.name) identifiers) ≤ end + 2
    → Run (7 * at) (7 * suc end) (rule.word_faults order before last (placed_names at identifiers) words)
words-run at end order before last [] words le = nothing _ _
words-run at end order before last (i ∷ is) [] le = nothing _ _
words-run at end order before last (i ∷ is) (word ∷ words) le =
    let next = behind (i.name ++ codes ", ") at in
    let wide = length-append i.name (codes ", ") in
    joined (7 * at) (7 * suc at) (7 * next) (7 * suc end) _ _
    (joined (7 * at) (7 * at + 3) (7 * at + 6) (7 * suc at) _ _
    (one _ at why.Duplicate _ _ (omega arith) (omega arith))
    (one _ at why.Spelling _ _ (omega arith) (omega arith))
    (omega arith) (omega arith) (omega arith))
    (words-run next end order _ _ is words (omega (arith, le, wide)))
    (omega (arith, wide))
    (omega (arith, wide))
    (omega (arith, le))

-- ---- encoding instructions

part_mark-long : (k : PartMarkKind) → 1 ≤ length (part_mark_text k)
part_mark-long part_mark.Attribute = omega arith
part_mark-long part_mark.Untagged = omega arith
part_mark-long (part_mark.Name name) = omega arith
part_mark-long (part_mark.Namespace space) = omega arith

part_marks-run : (at : ℕ) (simple : Bool) (generated : _) (before : _) (ms : List PartMark)
    → Run (7 * at + 6) (7 * (at + length (part_marks_text ms))) (rule.part_mark_faults simple generated before (placed_part_marks at ms))
part_marks-run at simple generated before [] = nothing _ _
part_marks-run at simple generated before (m ∷ ms) =
    let next = behind (part_mark_text m.kind) at in
    let long = length-append (part_mark_text m.kind) (part_marks_text ms) in
    joined (7 * at + 6) (7 * at + 6) (7 * next + 6) (7 * (at + length (part_marks_text (m ∷ ms)))) _ _
    (one _ at why.Spelling _ _ (omega arith) (omega arith))
    (widen _ _ _ _ _ (part_marks-run next simple generated _ ms) (omega arith) (omega (arith, long)))
    (omega arith)
    (omega arith)
    (omega (arith, long, part_mark-long m.kind))

type_mark-long : (k : TypeMarkKind) → 1 ≤ length (type_mark_text k)
type_mark-long type_mark.UseNil = omega arith
type_mark-long type_mark.EmbedValues = omega arith
type_mark-long type_mark.UseOrder = omega arith
type_mark-long type_mark.List = omega arith
type_mark-long type_mark.UseUnion = omega arith
type_mark-long type_mark.UseNumber = omega arith
type_mark-long type_mark.Replace = omega arith
type_mark-long type_mark.Collapse = omega arith
type_mark-long (type_mark.Text identifier text) = omega arith

type_marks-run : (at : ℕ) (P : List PlainAssignment) (spot : Spot) (l : PlainLabel) (ts : Roses PlainLabel) (before : _) (least : ℕ) (ms : List TypeMark)
    → Run (7 * at + 6) (7 * (at + length (type_marks_text ms))) (rule.type_mark_faults P spot l ts before least (placed_type_marks at ms))
type_marks-run at P spot l ts before least [] = nothing _ _
type_marks-run at P spot l ts before least (m ∷ ms) =
    let next = behind (type_mark_text m.kind) at in
    let long = length-append (type_mark_text m.kind) (type_marks_text ms) in
    joined (7 * at + 6) (7 * at + 6) (7 * next + 6) (7 * (at + length (type_marks_text (m ∷ ms)))) _ _
    (one _ at why.Spelling _ _ (omega arith) (omega arith))
    (widen _ _ _ _ _ (type_marks-run next P spot l ts _ _ ms) (omega arith) (omega (arith, long)))
    (omega arith)
    (omega arith)
    (omega (arith, long, type_mark-long m.kind))

-- ---- fixed and default values

fixed-run : (at : ℕ) (space : Option Space) (fixed : Option PlainOctets)
    → Run (7 * suc at) (7 * (at + length (fixed_text fixed))) (rule.fixed_faults space (placed_fixed at fixed))
fixed-run at space None = nothing _ _
fixed-run at space (Some octets) =
    one _ (behind (codes " (CONSTRAINED BY {/* fixed ") at) why.Spelling _ _ (omega arith)
    (omega (arith, length-append octets.digits (codes " */})")))

absence-run : (at : ℕ) (space : Option Space) (fixed : Option PlainOctets) (t : Rose PlainLabel) (a : Absence)
    → Run (7 * suc at) (7 * suc (at + length (absence_text a))) (rule.absence_faults space fixed t (placed_absence at a))
absence-run at space fixed t absence.Never = nothing _ _
absence-run at space fixed t absence.Optional = nothing _ _
absence-run at space fixed t (absence.Default (node l vs)) =
    one _ (behind (codes " DEFAULT ") at) why.Spelling _ _ (omega arith) (omega arith)

-- ---- forms

-- where the faults of a form begin that begins here
abbrev pub form_low : ℕ → PlainForm → ℕ
form_low at (form.Ref reference) = 7 * at + 4
form_low at _ = 7 * at + 6

-- and those of a type with these instructions
abbrev pub low_of : ℕ → List TypeMark → PlainForm → ℕ
low_of at [] f = form_low at f
low_of at (m ∷ ms) f = 7 * at + 6

abbrev pub type_low : ℕ → Rose PlainLabel → ℕ
type_low at t = low_of at (label_of t).marks (label_of t).form

form-least : (at : ℕ) (f : PlainForm) → 7 * at + 4 ≤ form_low at f
form-least at form.Bool = omega arith
form-least at (form.Int r) = omega arith
form-least at (form.Numbers numbered) = omega arith
form-least at (form.Words identifiers) = omega arith
form-least at (form.Utf8 size class) = omega arith
form-least at (form.Sequence components) = omega arith
form-least at (form.Choice alternatives) = omega arith
form-least at (form.SequenceOf size item) = omega arith
form-least at (form.Ref reference) = omega arith

form-most : (at : ℕ) (f : PlainForm) → form_low at f ≤ 7 * at + 6
form-most at form.Bool = omega arith
form-most at (form.Int r) = omega arith
form-most at (form.Numbers numbered) = omega arith
form-most at (form.Words identifiers) = omega arith
form-most at (form.Utf8 size class) = omega arith
form-most at (form.Sequence components) = omega arith
form-most at (form.Choice alternatives) = omega arith
form-most at (form.SequenceOf size item) = omega arith
form-most at (form.Ref reference) = omega arith

pub low-least : (at : ℕ) (ms : List TypeMark) (f : PlainForm) → 7 * at + 4 ≤ low_of at ms f
low-least at [] f = form-least at f
low-least at (m ∷ ms) f = omega arith

low-most : (at : ℕ) (ms : List TypeMark) (f : PlainForm) → low_of at ms f ≤ 7 * at + 6
low-most at [] f = form-most at f
low-most at (m ∷ ms) f = omega arith

low-form : (at : ℕ) (ms : List TypeMark) (f : PlainForm) → low_of at ms f ≤ form_low (at + length (type_marks_text ms)) f
low-form at [] f =
    let P : ℕ → Type 0 = λ n. form_low at f ≤ form_low n f in
    let here : at ≡ at + 0 = omega arith in
    subst P here (omega arith)
low-form at (m ∷ ms) f =
    omega (arith, form-least (at + length (type_marks_text (m ∷ ms))) f, type_mark-long m.kind, length-append (type_mark_text m.kind) (type_marks_text ms))

pub enumerated-long : (ts : List (List ℕ)) → 13 + total 2 ts ≤ length (enumerated ts) + 2
enumerated-long [] = omega arith
enumerated-long (t ∷ ts) = omega (arith, length-listed (codes " ") t ts, length-append (listed (codes " ") (t ∷ ts)) (codes " }"))

pub block-long : (levels : ℕ) (ts : List (List ℕ)) → total (suc (length (new_line (suc levels)))) ts ≤ length (block levels ts)
block-long levels [] = omega arith
block-long levels (t ∷ ts) =
    omega (
      arith,
      length-listed (new_line (suc levels)) t ts,
      length-append (listed (new_line (suc levels)) (t ∷ ts)) (new_line levels),
      length-append (listed (new_line (suc levels)) (t ∷ ts) ++ new_line levels) (codes "}"),
    )

-- what is shown of a type, and of the types of parts
module _ (P : List PlainAssignment) where
  abbrev pub TypeRun : Rose PlainLabel → Type 0
  TypeRun t = (levels at : ℕ) (spot : Spot) (nameless : Bool)
      → Run (type_low at t) (7 * suc (at + length (type_text levels t))) (type_faults P spot nameless (placed_type levels at t))

  abbrev pub PartsRun : Roses PlainLabel → Type 0
  PartsRun ts = (levels p end : ℕ) (parts : List PlainPart) (spot : Spot) (nameless : Bool) (l : PlainLabel) (i : ℕ) (before : List (List ℕ)) (front : ℕ)
      → p + total (suc (length (new_line levels))) (part_texts levels parts ts) ≤ end + suc (length (new_line levels))
      → Run (7 * p) (7 * suc end)
      (part_faults P spot nameless l i before front (placed_parts levels p parts (type_texts levels ts)) (placed_types levels p parts ts))

  no_parts : (spot : Spot) (nameless : Bool) (l : PlainLabel) (i : ℕ) (before : List (List ℕ)) (front : ℕ) (ts : Roses PlainLabel)
      → part_faults P spot nameless l i before front [] ts ≡ []
  unfolding type_faults
  no_parts spot nameless l i before front none = refl
  no_parts spot nameless l i before front (more t ts) = refl

  -- a form without parts
  alone : (a d : ℕ) (xs : List TextFault) (spot : Spot) (nameless : Bool) (l : PlainLabel) (i : ℕ) (before : List (List ℕ)) (front : ℕ) (ts : Roses PlainLabel)
      → Run a d xs → a ≤ d → Run a d (xs ++ part_faults P spot nameless l i before front [] ts)
  alone a d xs spot nameless l i before front ts r ad =
      let Q : List TextFault → Type 0 = λ fs. Run a d (xs ++ fs) in
      subst Q (sym (no_parts spot nameless l i before front ts)) (joined a d d d xs [] r (nothing _ _) ad (omega arith) (omega arith))

  abbrev FormRun : PlainForm → Roses PlainLabel → Type 0
  FormRun f ts = (levels q : ℕ) (spot : Spot) (marks : List TypeMark) (nameless : Bool) (l : PlainLabel) (i : ℕ) (before : List (List ℕ)) (front : ℕ)
      → let to = placed_form levels q f (type_texts (level_of_parts levels f) ts) in
      Run (form_low q f) (7 * suc (q + length (form_text levels f (part_texts (level_of_parts levels f) (parts_of f) ts))))
      (form_faults P spot marks to
      ++ part_faults P spot nameless l i before front (parts_of to) (placed_types (level_of_parts levels f) (parts_at levels q f) (parts_of f) ts))

  list-run : (size : _) (item : PlainPart) (ts : Roses PlainLabel) → PartsRun ts → FormRun (form.SequenceOf size item) ts
  unfolding type_faults
  list-run size item none parts levels q spot marks nameless l i before front =
      alone (7 * q + 6) _ _ spot nameless l i before front none
      (widen _ _ _ _ _ (size-run (behind (codes "SEQUENCE") q) size) (omega arith)
      (omega (arith, length-append (codes "SEQUENCE" ++ size_text size) (codes " OF "), length-append (codes "SEQUENCE" ++ size_text size ++ codes " OF ") [])))
      (omega arith)
  list-run size item (more t none) parts levels q spot marks nameless l i before front =
      let p = parts_at levels q (form.SequenceOf size item) in
      let text = part_text item (part_marks_text item.marks ++ type_text levels t) in
      let end = q + length (form_text levels (form.SequenceOf size item) (text ∷ [])) in
      let s = length-append (codes "SEQUENCE" ++ size_text size) (codes " OF ") in
      let o = length-append (codes "SEQUENCE" ++ size_text size ++ codes " OF ") [] in
      let w = length-append (codes "SEQUENCE" ++ size_text size ++ codes " OF ") (text ++ []) in
      let n = length-append text [] in
      joined (7 * q + 6) (7 * suc (behind (codes "SEQUENCE") q + length (size_text size))) (7 * p) (7 * suc end) _ _
      (widen _ _ _ _ _ (size-run (behind (codes "SEQUENCE") q) size) (omega arith) (omega arith))
      (parts levels p end (item ∷ []) spot nameless l i before front (omega (arith, s, o, w, n)))
      (omega (arith, s, o)) (omega (arith, s, o)) (omega (arith, s, w))
  list-run size item (more t (more u us)) parts levels q spot marks nameless l i before front =
      let p = parts_at levels q (form.SequenceOf size item) in
      let text = part_text item (part_marks_text item.marks ++ type_text levels t) in
      let end = q + length (form_text levels (form.SequenceOf size item) (text ∷ [])) in
      let s = length-append (codes "SEQUENCE" ++ size_text size) (codes " OF ") in
      let o = length-append (codes "SEQUENCE" ++ size_text size ++ codes " OF ") [] in
      let w = length-append (codes "SEQUENCE" ++ size_text size ++ codes " OF ") (text ++ []) in
      let n = length-append text [] in
      joined (7 * q + 6) (7 * suc (behind (codes "SEQUENCE") q + length (size_text size))) (7 * p) (7 * suc end) _ _
      (widen _ _ _ _ _ (size-run (behind (codes "SEQUENCE") q) size) (omega arith) (omega arith))
      (parts levels p end (item ∷ []) spot nameless l i before front (omega (arith, s, o, w, n)))
      (omega (arith, s, o)) (omega (arith, s, o)) (omega (arith, s, w))

  formed-run : (f : PlainForm) (ts : Roses PlainLabel) → PartsRun ts → FormRun f ts
  formed-run form.Bool ts parts levels q spot marks nameless l i before front =
      alone (7 * q + 6) _ [] spot nameless l i before front _ (nothing _ _) (omega arith)
  formed-run (form.Int r) ts parts levels q spot marks nameless l i before front =
      alone (7 * q + 6) _ _ spot nameless l i before front _
      (widen _ _ _ _ _ (range-run (behind (codes "INTEGER") q) r) (omega arith) (omega arith)) (omega arith)
  formed-run (form.Numbers numbered) ts parts levels q spot marks nameless l i before front =
      alone (7 * q + 6) _ _ spot nameless l i before front _
      (widen _ _ _ _ _
      (items-run (behind (codes "ENUMERATED { ") q) (q + length (enumerated (map item_text numbered))) [] None numbered (omega (arith, enumerated-long (map item_text numbered))))
      (omega arith) (omega arith))
      (omega arith)
  formed-run (form.Words identifiers) ts parts levels q spot marks nameless l i before front =
      let texts = map (λ (i : PlainName). i.name) identifiers in
      alone (7 * q + 6) _ _ spot nameless l i before front _
      (widen _ _ _ _ _
      (words-run (behind (codes "ENUMERATED { ") q) (q + length (enumerated texts)) _ [] None identifiers _ (omega (arith, enumerated-long texts)))
      (omega arith) (omega arith))
      (omega arith)
  formed-run (form.Utf8 size class) ts parts levels q spot marks nameless l i before front =
      alone (7 * q + 6) _ _ spot nameless l i before front _
      (widen _ _ _ _ _ (size-run (behind (codes "UTF8String") q) size) (omega arith)
      (omega (arith, length-append (codes "UTF8String" ++ size_text size) (class_range class))))
      (omega arith)
  formed-run (form.Sequence components) ts parts levels q spot marks nameless l i before front =
      let texts = part_texts (suc levels) components ts in
      widen _ _ _ _ _
      (parts (suc levels) (parts_at levels q (form.Sequence components)) (q + length (codes "SEQUENCE " ++ block levels texts)) components spot nameless l i before front
      (omega (arith, block-long levels texts)))
      (omega arith) (omega arith)
  formed-run (form.Choice alternatives) ts parts levels q spot marks nameless l i before front =
      let texts = part_texts (suc levels) alternatives ts in
      widen _ _ _ _ _
      (parts (suc levels) (parts_at levels q (form.Choice alternatives)) (q + length (codes "CHOICE " ++ block levels texts)) alternatives spot nameless l i before front
      (omega (arith, block-long levels texts)))
      (omega arith) (omega arith)
  formed-run (form.SequenceOf size item) ts parts levels q spot marks nameless l i before front =
      list-run size item ts parts levels q spot marks nameless l i before front
  formed-run (form.Ref reference) ts parts levels q spot marks nameless l i before front =
      alone (7 * q + 4) _ _ spot nameless l i before front _ (one _ q why.Unresolved _ _ (omega arith) (omega arith)) (omega arith)

  -- ---- parts

  -- a reference that is all of a part
  lone : (p c q : ℕ) (b : Bool) (zs : List TextFault) → zs ≡ [] → q ≡ p → 7 * p + 4 ≤ c
      → Front p c (unless b q why.Unresolved) (([] ++ unless b q why.Unresolved) ++ zs)
  lone p c q true zs e same le = silent refl e
  lone p c q false zs e same le = unresolved (ap (λ n. fault n why.Unresolved ∷ []) same) le

  front-by : (levels p : ℕ) (identifier : List ℕ) (marks : List PartMark) (a : ℕ) (type_marks : List TypeMark) (f : PlainForm) (ts : Roses PlainLabel)
      (spot : Spot) (nameless : Bool)
      → let tp = behind (part_marks_text marks) (behind (labelled identifier) p) in
      Front p (low_of tp type_marks f)
      (if is_empty identifier && rule.has_no (placed_part_marks (behind (labelled identifier) p) marks) && rule.has_no (placed_type_marks tp type_marks)
      then rule.reference_faults P (placed_form levels (behind (type_marks_text type_marks) tp) f (type_texts (level_of_parts levels f) ts))
      else [])
      (type_faults P spot nameless (placed_type levels tp (node (record { at = a; marks = type_marks; form = f }) ts)))
  unfolding type_faults
  front-by levels p (b ∷ bs) marks a type_marks f ts spot nameless =
      let tp = behind (part_marks_text marks) (behind (labelled (b ∷ bs)) p) in
      usual refl (omega (arith, low-least tp type_marks f))
  front-by levels p [] (m ∷ ms) a type_marks f ts spot nameless =
      let tp = behind (part_marks_text (m ∷ ms)) (behind (labelled []) p) in
      usual refl (omega (arith, low-least tp type_marks f, part_mark-long m.kind, length-append (part_mark_text m.kind) (part_marks_text ms)))
  front-by levels p [] [] a (m ∷ ms) f ts spot nameless = usual refl (omega arith)
  front-by levels p [] [] a [] (form.Ref reference) ts spot nameless =
      lone p (low_of (behind [] (behind [] p)) [] (form.Ref reference)) (behind [] (behind [] (behind [] p))) _ _
      (no_parts spot _ _ 0 [] _ _) (omega arith) (omega arith)
  front-by levels p [] [] a [] form.Bool ts spot nameless = usual refl (omega arith)
  front-by levels p [] [] a [] (form.Int r) ts spot nameless = usual refl (omega arith)
  front-by levels p [] [] a [] (form.Numbers numbered) ts spot nameless = usual refl (omega arith)
  front-by levels p [] [] a [] (form.Words identifiers) ts spot nameless = usual refl (omega arith)
  front-by levels p [] [] a [] (form.Utf8 size class) ts spot nameless = usual refl (omega arith)
  front-by levels p [] [] a [] (form.Sequence components) ts spot nameless = usual refl (omega arith)
  front-by levels p [] [] a [] (form.Choice alternatives) ts spot nameless = usual refl (omega arith)
  front-by levels p [] [] a [] (form.SequenceOf size item) ts spot nameless = usual refl (omega arith)

  part-step : (t : Rose PlainLabel) (ts : Roses PlainLabel) → TypeRun t → PartsRun ts → PartsRun (more t ts)
  unfolding type_faults
  part-step (node l us) ts type parts levels p end [] spot nameless above i before front le = nothing _ _
  part-step (node l us) ts type parts levels p end (part ∷ others) spot nameless above i before front le =
      let text = type_text levels (node l us) in
      let mp = behind (labelled part.identifier) p in
      let tp = type_at p part in
      let te = tp + length text in
      let fe = te + length (fixed_text part.fixed) in
      let e = fe + length (absence_text part.absence) in
      let whole = part_text part (part_marks_text part.marks ++ text) in
      let next = next_at levels p whole in
      let a = length-append (part_marks_text part.marks) text in
      let b = length-append (labelled part.identifier) (part_marks_text part.marks ++ text) in
      let c = length-append (labelled part.identifier ++ (part_marks_text part.marks ++ text)) (fixed_text part.fixed) in
      let d = length-append (labelled part.identifier ++ (part_marks_text part.marks ++ text) ++ fixed_text part.fixed) (absence_text part.absence) in
      let g = length-append whole (codes ",") in
      let h = length-append (whole ++ codes ",") (new_line levels) in
      let least = low-least tp l.marks l.form in
      let most = low-most tp l.marks l.form in
      tailed p te fe e next end _ _ _ _
      (fronted p mp tp (low_of tp l.marks l.form) (7 * suc te) _ _ _ _ _
      (front-by levels p part.identifier part.marks l.at l.marks l.form us _ _)
      (omega arith) (omega arith) (omega (arith, least)) (omega arith) (omega (arith, most))
      (part_marks-run mp _ part.identifier None part.marks)
      (type levels tp _ _))
      (fixed-run te _ part.fixed)
      (absence-run fe _ _ _ part.absence)
      (parts levels next end others spot nameless above _ _ _ (omega (arith, le, g, h)))
      (omega arith) (omega arith) (omega arith)
      (omega (arith, a, b, c, d, g, h))
      (omega (arith, le, a, b, c, d))

  type-step : (l : PlainLabel) (ts : Roses PlainLabel) → PartsRun ts → TypeRun (node l ts)
  unfolding type_faults
  type-step l ts parts levels at spot nameless =
      let q = behind (type_marks_text l.marks) at in
      let text = form_text levels l.form (part_texts (level_of_parts levels l.form) (parts_of l.form) ts) in
      let to : PlainLabel = record { at = at; marks = placed_type_marks at l.marks; form = placed_form levels q l.form (type_texts (level_of_parts levels l.form) ts) } in
      let us = placed_types (level_of_parts levels l.form) (parts_at levels q l.form) (parts_of l.form) ts in
      let marks = rule.type_mark_faults P spot to us None 0 to.marks in
      let own = form_faults P spot to.marks to.form in
      let inner = part_faults P spot (has_list to.marks || nameless) to 0 [] (rule.nameless_parts to.marks) (parts_of to.form) us in
      let end = 7 * suc (at + length (type_marks_text l.marks ++ text)) in
      let long = length-append (type_marks_text l.marks) text in
      let most = low-most at l.marks l.form in
      let least = form-least q l.form in
      joined₃ (low_of at l.marks l.form) (7 * q) (form_low q l.form) end marks own inner
      (widen (7 * at + 6) (7 * q) (low_of at l.marks l.form) (7 * q) marks (type_marks-run at P spot to us None 0 l.marks) most (omega arith))
      (widen (form_low q l.form) (7 * suc (q + length text)) (form_low q l.form) end (own ++ inner)
      (formed-run l.form ts parts levels q spot to.marks (has_list to.marks || nameless) to 0 [] (rule.nameless_parts to.marks)) (omega arith) (omega (arith, long)))
      (low-form at l.marks l.form)
      (omega (arith, least))
      (omega (arith, long))

  none-run : PartsRun none
  unfolding type_faults
  none-run levels p end parts spot nameless l i before front le = nothing _ _

  mutual
    pub type-run : (t : Rose PlainLabel) → TypeRun t
    type-run (node l ts) = type-step l ts (parts-run ts)

    pub parts-run : (ts : Roses PlainLabel) → PartsRun ts
    parts-run none = none-run
    parts-run (more t ts) = part-step t ts (type-run t) (parts-run ts)

  -- ---- assignments

  assignment-run : (at : ℕ) (before : List (List ℕ)) (a : PlainAssignment)
      → Run (7 * at) (7 * (at + length (assignment_text a))) (rule.assignment_faults P before (placed_assignment at a))
  assignment-run at before a =
      let s = behind (a.reference ++ codes " ::= ") at in
      let q = behind (part_marks_text a.marks) s in
      let text = type_text 0 a.body in
      let end = 7 * (at + length (assignment_text a)) in
      let g = length-append a.reference (codes " ::= ") in
      let h = length-append (part_marks_text a.marks) text in
      let i = length-append (a.reference ++ codes " ::= ") (part_marks_text a.marks ++ text) in
      let j = length-append (a.reference ++ codes " ::= " ++ (part_marks_text a.marks ++ text)) (codes "\n") in
      let least = low-least q (label_of a.body).marks (label_of a.body).form in
      joined (7 * at) (7 * q) (type_low q a.body) end _ _
      (joined (7 * at) (7 * at + 5) (7 * s + 6) (7 * q) _ _
      (joined (7 * at) (7 * at + 3) (7 * at + 5) (7 * at + 5) _ _
      (one _ at why.Duplicate _ _ (omega arith) (omega arith))
      (one _ at why.LongChain _ _ (omega arith) (omega arith))
      (omega arith) (omega arith) (omega arith))
      (part_marks-run s _ a.reference None a.marks)
      (omega (arith, g)) (omega (arith, g)) (omega (arith, g)))
      (widen _ _ _ _ _ (type-run a.body 0 q _ false) (omega arith) (omega (arith, g, h, i, j)))
      (omega (arith, g, least)) (omega (arith, least)) (omega (arith, g, h, i, j))

  pub from-run : (at : ℕ) (before : List (List ℕ)) (others : List PlainAssignment)
      → Run (7 * at) (7 * (at + length (flat_map assignment_text others))) (rule.faults_from P before (placed_from at others))
  from-run at before [] = nothing _ _
  from-run at before (a ∷ others) =
      let next = behind (assignment_text a) at in
      let long = length-append (assignment_text a) (flat_map assignment_text others) in
      joined (7 * at) (7 * next) (7 * next) (7 * (at + length (flat_map assignment_text (a ∷ others)))) _ _
      (assignment-run at before a)
      (widen _ _ _ _ _ (from-run next _ others) (omega arith) (omega (arith, long)))
      (omega arith) (omega arith) (omega (arith, long))
