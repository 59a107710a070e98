-- A text is as long as the items in it are many, so a short one has few.
use Rattle.std.proofs.Common.{◌≡◌, ℕ, zero, suc, ◌<◌, ◌≤◌, ◌+◌, List, [], ◌∷◌, ◌++◌, length, map, refl, sym, ap, ◌∙◌, arith, length-append}
use Rattle.std.specs.Prelude.{◌^◌, All, codes, slice_index_or}
use Rattle.std.specs.List.{flat_map, join_with_byte}
use Rattle.base_trees.specs.Rose.{Rose, node, Roses, none, more, length_all}
use Rattle.module_print.specs.Notation.{listed, enumerated, block, new_line}
use Rattle.module_print.specs.Printed.{labelled, opening, closing}
use Rattle.module_text.specs.declared.types.PlainName.{PlainName}
use Rattle.module_text.specs.declared.types.PlainPart.{PlainPart}
use Rattle.module_text.specs.declared.types.PlainForm.{PlainForm}
use Rattle.module_text.specs.declared.types.PlainForm.TheVariants as form
use Rattle.module_text.specs.declared.types.PlainLabel.{PlainLabel}
use Rattle.module_text.specs.declared.modules.PlainAssignment.{PlainAssignment}
use Rattle.module_text.specs.Texts.{parts_of, size_text, all_of, level_of_parts, form_text, part_text, part_texts, type_text, type_marks_text, part_marks_text, fixed_text, absence_text, assignment_text, text_of}
use Rattle.module_text.specs.Plain.{IsType, AreTypes}
use Rattle.module_read.specs.Ready.{HasRoom}

-- ---- the parts of a short text are short

front_short : (xs ys : List ℕ) (n : ℕ) → length (xs ++ ys) ≤ n → length xs ≤ n
front_short xs ys n le = let e = length-append xs ys in omega (arith, e, le)

rest_short : (xs ys : List ℕ) (n : ℕ) → length (xs ++ ys) ≤ n → length ys ≤ n
rest_short xs ys n le = let e = length-append xs ys in omega (arith, e, le)

abbrev AreShort : ℕ → List (List ℕ) → Type 0
AreShort n [] = Unit {0}
AreShort n (text ∷ texts) = (length text ≤ n) × AreShort n texts

joined_short : (before : List ℕ) (text : List ℕ) (texts : List (List ℕ)) (n : ℕ) → length (listed before (text ∷ texts)) ≤ n → AreShort n (text ∷ texts)
joined_short before text [] n le = (rest_short before text n le, tt)
joined_short before text (other ∷ texts) n le =
    let rest : length (44 ∷ listed before (other ∷ texts)) ≤ n = rest_short (before ++ text) (44 ∷ listed before (other ∷ texts)) n le in
    (rest_short before text n (front_short (before ++ text) _ n le), joined_short before other texts n (omega (arith, rest)))

all_short : (texts : List (List ℕ)) (n : ℕ) → length (all_of texts) ≤ n → AreShort n texts
all_short [] n le = tt
all_short (text ∷ texts) n le = (front_short text (all_of texts) n le, all_short texts n (rest_short text (all_of texts) n le))

-- ---- and few

few_listed : (text : List ℕ) (texts : List (List ℕ)) → length (text ∷ texts) ≤ length (listed (codes " ") (text ∷ texts))
few_listed text [] = let e = length-append (codes " ") text in omega (arith, e)
few_listed text (other ∷ texts) =
    let e = length-append (codes " " ++ text) (44 ∷ listed (codes " ") (other ∷ texts)) in
    let f = few_listed other texts in
    omega (arith, e, f)

few_items : (texts : List (List ℕ)) → length texts ≤ length (enumerated texts)
few_items [] = omega arith
few_items (text ∷ texts) =
    let line = listed (codes " ") (text ∷ texts) in
    let e = length-append (codes "ENUMERATED {") (line ++ codes " }") in
    let f = length-append line (codes " }") in
    let g = few_listed text texts in
    omega (arith, e, f, g)

-- ---- types

abbrev mutual
  pub Fits : Rose PlainLabel → Type 0
  Fits (node l ts) = HasRoom l.form × AllFit ts

  pub AllFit : Roses PlainLabel → Type 0
  AllFit none = Unit {0}
  AllFit (more t ts) = Fits t × AllFit ts

counted : (is : List PlainName) → length (map (λ (i : PlainName). i.name) is) ≡ length is
counted [] = refl
counted (i ∷ is) = ap suc (counted is)

room : (levels : ℕ) (f : PlainForm) (texts : List (List ℕ)) (n : ℕ) → n < 2 ^ 32 → length (form_text levels f texts) ≤ n → HasRoom f
room levels (form.Words identifiers) texts n lt le =
    let e = counted identifiers in
    let f = few_items (map (λ (i : PlainName). i.name) identifiers) in
    omega (arith, e, f, lt, le)
room levels f texts n lt le = tt

no_parts : (levels : ℕ) (ts : Roses PlainLabel) (n : ℕ) → AreShort n (part_texts levels [] ts)
no_parts levels none n = tt
no_parts levels (more t ts) n = tt

block_short : (levels : ℕ) (texts : List (List ℕ)) (n : ℕ) → length (block levels texts) ≤ n → AreShort n texts
block_short levels [] n le = tt
block_short levels (text ∷ texts) n le =
    let line = listed (new_line (suc levels)) (text ∷ texts) in
    let inner : length ((line ++ new_line levels) ++ codes "}") ≤ n = rest_short (codes "{") ((line ++ new_line levels) ++ codes "}") n le in
    joined_short (new_line (suc levels)) text texts n (front_short line (new_line levels) n (front_short (line ++ new_line levels) (codes "}") n inner))

parts_short : (levels : ℕ) (f : PlainForm) (ts : Roses PlainLabel) (n : ℕ)
    → length (form_text levels f (part_texts (level_of_parts levels f) (parts_of f) ts)) ≤ n
    → AreShort n (part_texts (level_of_parts levels f) (parts_of f) ts)
parts_short levels (form.Sequence parts) ts n le = block_short levels _ n (rest_short (codes "SEQUENCE ") _ n le)
parts_short levels (form.Choice parts) ts n le = block_short levels _ n (rest_short (codes "CHOICE ") _ n le)
parts_short levels (form.SequenceOf size part) ts n le =
    let texts = part_texts levels (part ∷ []) ts in
    all_short texts n (rest_short (codes "SEQUENCE" ++ size_text size ++ codes " OF ") (all_of texts) n le)
parts_short levels f ts n le = no_parts (level_of_parts levels f) ts n

-- a type inside the text of its part
inside : (part : PlainPart) (text : List ℕ) (n : ℕ) → length (part_text part (part_marks_text part.marks ++ text)) ≤ n → length text ≤ n
inside part text n le =
    let typed = part_marks_text part.marks ++ text in
    let fixed = fixed_text part.fixed in
    let front : length ((labelled part.identifier ++ typed) ++ fixed) ≤ n = front_short ((labelled part.identifier ++ typed) ++ fixed) (absence_text part.absence) n le in
    rest_short (part_marks_text part.marks) text n
    (rest_short (labelled part.identifier) typed n (front_short (labelled part.identifier ++ typed) fixed n front))

mutual
  pub fits : (levels : ℕ) (t : Rose PlainLabel) (n : ℕ) → n < 2 ^ 32 → IsType t → length (type_text levels t) ≤ n → Fits t
  fits levels (node l ts) n lt is le =
      let text = form_text levels l.form (part_texts (level_of_parts levels l.form) (parts_of l.form) ts) in
      let short : length text ≤ n = rest_short (type_marks_text l.marks) text n le in (
        room levels l.form _ n lt short,
        all_fit (level_of_parts levels l.form) (parts_of l.form) ts n lt is.3 is.2 (parts_short levels l.form ts n short),
      )

  all_fit : (levels : ℕ) (parts : List PlainPart) (ts : Roses PlainLabel) (n : ℕ) → n < 2 ^ 32
      → AreTypes ts → length_all ts ≡ length parts → AreShort n (part_texts levels parts ts) → AllFit ts
  all_fit levels parts none n lt are same short = tt
  all_fit levels [] (more t ts) n lt are same short = absurd (omega (arith, same))
  all_fit levels (part ∷ parts) (more t ts) n lt are same short =
      let fewer : length_all ts ≡ length parts = omega (arith, same) in
      (fits levels t n lt are.0 (inside part (type_text levels t) n short.0), all_fit levels parts ts n lt are.1 fewer short.1)

-- ---- assignments

all_assignments : (P : List PlainAssignment) (n : ℕ) → length (flat_map assignment_text P) ≤ n → All (λ a. length (type_text 0 a.body) ≤ n) P
all_assignments [] n le k d lt = absurd (omega (arith, lt))
all_assignments (a ∷ P) n le zero d lt =
    let whole : length (assignment_text a) ≤ n = front_short (assignment_text a) (flat_map assignment_text P) n le in
    let prefixed = part_marks_text a.marks ++ type_text 0 a.body in
    let line : length ((a.reference ++ codes " ::= ") ++ prefixed) ≤ n = front_short ((a.reference ++ codes " ::= ") ++ prefixed) (codes "\n") n whole in
    rest_short (part_marks_text a.marks) (type_text 0 a.body) n (rest_short (a.reference ++ codes " ::= ") prefixed n line)
all_assignments (a ∷ P) n le (suc k) d lt =
    all_assignments P n (rest_short (assignment_text a) (flat_map assignment_text P) n le) k d (omega (arith, lt))

few_assignments : (P : List PlainAssignment) → length P ≤ length (flat_map assignment_text P)
few_assignments [] = omega arith
few_assignments (a ∷ P) =
    let line = (a.reference ++ codes " ::= ") ++ (part_marks_text a.marks ++ type_text 0 a.body) in
    let e : length (flat_map assignment_text (a ∷ P)) ≡ length (assignment_text a) + length (flat_map assignment_text P) = length-append (assignment_text a) (flat_map assignment_text P) in
    let f : length (assignment_text a) ≡ length line + 1 = length-append line (codes "\n") in
    let h : length P ≤ length (flat_map assignment_text P) = few_assignments P in
    omega (arith, e, f, h)

body_short : (P : List PlainAssignment) (n : ℕ) → length (text_of P) ≤ n → length (flat_map assignment_text P) ≤ n
body_short P n le = rest_short opening (flat_map assignment_text P) n (front_short (opening ++ flat_map assignment_text P) closing n le)

pub few : (P : List PlainAssignment) → length (text_of P) < 2 ^ 32 → length P < 2 ^ 32
few P lt =
    let e = few_assignments P in
    let f = body_short P (length (text_of P)) (omega arith) in
    omega (arith, e, f, lt)

pub bodies_short : (P : List PlainAssignment) → length (text_of P) < 2 ^ 32 → All (λ a. length (type_text 0 a.body) ≤ length (text_of P)) P
bodies_short P lt = all_assignments P (length (text_of P)) (body_short P (length (text_of P)) (omega arith))
