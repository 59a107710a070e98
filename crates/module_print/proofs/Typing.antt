-- Types, written with their parts.
use Rattle.std.proofs.Common.{◌≡◌, ℕ, zero, suc, ◌+◌, ◌<◌, ◌≤◌, List, [], ◌∷◌, ◌++◌, length, drop, get_or, Result, Ok, Err, OnOk, sym, ◌∙◌, ap, arith, append_assoc, add-one}
use Rattle.std.proofs.lemmas.List.{append-nil, drop_all, length-append}
use Rattle.base_trees.specs.Rose.{Rose, node, more, roses_of, label_of, kids_of}
use Rattle.base_trees.proofs.Roses.{node-parts}
use Rattle.base_trees.proofs.Kids.{roses_of-drop}
use Rattle.asn_types.specs.declared.marks.Instruction.{Instruction}
use Rattle.asn_types.specs.declared.modules.Assignment.{Assignment}
use Rattle.asn_types.specs.declared.types.Component.{Component}
use Rattle.asn_types.specs.declared.types.TypeLabel.{TypeLabel}
use Rattle.asn_types.specs.Parts.{parts_of}
use Rattle.module_print.specs.Notation.{indent, new_line, listed, block}
use Rattle.module_print.specs.Printed.{with_type, prefixes, type_of, level_of_parts, printed_type, printed_parts}
use Rattle.module_print.proofs.Listing.{block-some, listed_from, listed_from-all}
use Rattle.module_print.proofs.Texts.{drop-item}

-- a type by its label and its kids
pub printed_type-parts : (M : List Assignment) (levels : ℕ) (generated : List ℕ) (marks : List Instruction) (t : Rose TypeLabel) (l : TypeLabel) (kids : List (Rose TypeLabel))
    → l ≡ label_of t → kids ≡ kids_of t
    → prefixes generated marks l ++ type_of M levels l.form (printed_parts M (level_of_parts levels l.form) (parts_of l.form) (roses_of kids))
    ≡ printed_type M levels generated marks t
printed_type-parts M levels generated marks t l kids is below =
    ap (λ k. printed_type M levels generated marks (node k (roses_of kids))) is
    ∙ ap (λ ks. printed_type M levels generated marks (node (label_of t) (roses_of ks))) below
    ∙ ap (printed_type M levels generated marks) (node-parts t)

-- the parts from this one on
pub printed_parts-drop : (M : List Assignment) (levels : ℕ) (parts : List Component) (kids : List (Rose TypeLabel)) (i : ℕ) (part : Component) (kid : Rose TypeLabel)
    → i < length parts → part ≡ get_or parts i part → i < length kids → kid ≡ get_or kids i kid
    → printed_parts M levels (drop i parts) (roses_of (drop i kids))
    ≡ with_type M part kid (printed_type M levels part.identifier part.marks kid) ∷ printed_parts M levels (drop (i + 1) parts) (roses_of (drop (i + 1) kids))
printed_parts-drop M levels parts kids i part kid at is below here =
    ap (λ ts. printed_parts M levels (drop i parts) ts) (roses_of-drop kids i kid below here)
    ∙ ap (λ ps. printed_parts M levels ps (more kid (roses_of (drop (i + 1) kids)))) (drop-item parts i part at is)

some_parts : (M : List Assignment) (levels : ℕ) (parts : List Component) (kids : List (Rose TypeLabel)) → 0 < length kids → length kids ≡ length parts
    → 0 < length (printed_parts M levels parts (roses_of kids))
some_parts M levels parts [] some same = absurd (omega arith)
some_parts M levels [] (kid ∷ kids) some same = absurd (omega arith)
some_parts M levels (part ∷ parts) (kid ∷ kids) some same = omega arith

-- the indentation of a line stands before what is written on it
levels-le : (levels : ℕ) → levels ≤ length (indent levels)
levels-le zero = omega arith
levels-le (suc levels) = omega (arith, levels-le levels)

pub indented : (levels : ℕ) (old out : List ℕ) → out ≡ old ++ new_line levels → levels ≤ length out
indented levels old out written = omega (arith, levels-le levels, ap length written, length-append old (new_line levels))

pub still_indented : (levels : ℕ) (old added out : List ℕ) → out ≡ old ++ added → levels ≤ length old → levels ≤ length out
still_indented levels old added out written before = omega (arith, before, ap length written, length-append old added)

-- the parts in braces, one level deeper
pub block-parts : (M : List Assignment) (levels : ℕ) (parts : List Component) (kids : List (Rose TypeLabel)) (old opened out : List ℕ)
    → 0 < length kids → length kids ≡ length parts → opened ≡ old ++ 123 ∷ []
    → out ≡ opened ++ listed (new_line (levels + 1)) (printed_parts M (levels + 1) parts (roses_of kids))
    → out ++ (new_line levels ++ 125 ∷ []) ≡ old ++ block levels (printed_parts M (suc levels) parts (roses_of kids))
block-parts M levels parts kids old opened out some same begun written =
    let all = listed (new_line (suc levels)) (printed_parts M (suc levels) parts (roses_of kids)) in
    ap (λ o. o ++ (new_line levels ++ 125 ∷ []))
    (written ∙ ap (λ n. opened ++ listed (new_line n) (printed_parts M n parts (roses_of kids))) (add-one levels) ∙ ap (λ o. o ++ all) begun)
    ∙ regroup old (123 ∷ []) all (new_line levels) (125 ∷ [])
    ∙ ap (λ b. old ++ b) (block-some levels (printed_parts M (suc levels) parts (roses_of kids)) (some_parts M (suc levels) parts kids some same))
  where
    regroup : (a b c d e : List ℕ) → ((a ++ b) ++ c) ++ (d ++ e) ≡ a ++ (((b ++ c) ++ d) ++ e)
    regroup a b c d e = simp append_assoc

pub on_ok : {X E : Type 0} (r : Result X E) (P Q : Type 0) → (P → Q) → OnOk r P → OnOk r Q
on_ok (Ok x) P Q f h = f h
on_ok (Err e) P Q f h = tt

-- a whole type is written
pub written-type : (M : List Assignment) (levels : ℕ) (generated : List ℕ) (marks : List Instruction) (t : Rose TypeLabel) (l : TypeLabel) (kids : List (Rose TypeLabel)) (old begun out : List ℕ)
    → l ≡ label_of t → kids ≡ kids_of t → begun ≡ old ++ prefixes generated marks l
    → out ≡ begun ++ type_of M levels l.form (printed_parts M (level_of_parts levels l.form) (parts_of l.form) (roses_of kids))
    → out ≡ old ++ printed_type M levels generated marks t
written-type M levels generated marks t l kids old begun out is below prefixed written =
    let type = type_of M levels l.form (printed_parts M (level_of_parts levels l.form) (parts_of l.form) (roses_of kids)) in
    written
    ∙ ap (λ o. o ++ type) prefixed
    ∙ append_assoc old (prefixes generated marks l) type
    ∙ ap (λ s. old ++ s) (printed_type-parts M levels generated marks t l kids is below)

-- all parts are written
pub parts-end : (M : List Assignment) (levels : ℕ) (parts : List Component) (kids : List (Rose TypeLabel)) (old out : List ℕ) (i : ℕ) → length kids ≤ i
    → out ++ listed_from (new_line levels) i (printed_parts M levels (drop i parts) (roses_of (drop i kids)))
    ≡ old ++ listed_from (new_line levels) 0 (printed_parts M levels parts (roses_of kids))
    → out ≡ old ++ listed (new_line levels) (printed_parts M levels parts (roses_of kids))
parts-end M levels parts kids old out i past so_far =
    sym (append-nil out)
    ∙ ap (λ ts. out ++ listed_from (new_line levels) i (printed_parts M levels (drop i parts) (roses_of ts))) (sym (drop_all i kids past))
    ∙ so_far
    ∙ ap (λ t. old ++ t) (listed_from-all (new_line levels) (printed_parts M levels parts (roses_of kids)))
