-- A printed module stripped is its print without marks.
use Rattle.std.proofs.Common.{◌≡◌, ◌==◌, ◌-◌, ℕ, suc, Bool, true, false, length, take, drop, arith, List, [], ◌∷◌, ◌++◌, Option, Some, None, codes, refl, sym, ◌∙◌, ap}
use Rattle.std.proofs.lemmas.List.{append-nil, append_assoc, length-append}
use Rattle.std.proofs.lemmas.List.Elements.{All-head, All-tail}
use Rattle.std.proofs.Math.Seq.{drop-append_seam, take-append_seam}
use Rattle.std.specs.Prelude.{All, map, unwrap_or, if◌then◌else◌}
use Rattle.std.specs.List.{flat_map}
use Rattle.base_texts.specs.declared.white_space.WhiteSpace.TheVariants.{Preserve, Replace, Collapse}
use Rattle.asn_names.specs.declared.restoration.NameForm.{NameForm}
use Rattle.asn_names.specs.declared.restoration.NameForm.TheVariants.{Capitalized, Uncapitalized, Quoted}
use Rattle.asn_names.specs.Restoring.{form_of}
use Rattle.base_trees.specs.Rose.{Rose, node, Roses, none, more}
use Rattle.simple_types.specs.declared.standards.Standard.{Standard}
use Rattle.simple_types.specs.declared.standards.Standard.TheVariants.{Free, Default, Fixed}
use Rattle.asn_types.specs.declared.marks.Instruction.{Instruction}
use Rattle.asn_types.specs.declared.marks.Instruction.TheVariants as mark
use Rattle.asn_types.specs.declared.types.Component.{Component}
use Rattle.asn_types.specs.declared.types.Form.{Form}
use Rattle.asn_types.specs.declared.types.Form.TheVariants as form
use Rattle.asn_types.specs.declared.types.TypeLabel.{TypeLabel}
use Rattle.asn_types.specs.declared.modules.Assignment.{Assignment}
use Rattle.asn_types.specs.Parts.{parts_of}
use Rattle.module_print.specs.Notation.{quoted, fixed_range, listed, enumerated, new_line, block}
use Rattle.module_print.specs.Instructions.{in_form, as_name, as_item, item_identifier, instruction, instructions, if_ranked, ranked, ranks, rank}
use Rattle.module_print.specs.Printed as print
use Rattle.module_print.specs.Printed.{reference_at, numbered_item, integer, text_type, sequence_of, level_of_parts, type_of, labelled, if_absent, ending, with_type, prefixes, printed_type, printed_parts, printed_assignment}
use Rattle.module_print.specs.declared.stripping.Within.TheVariants.{Module}
use Rattle.module_print.specs.Stripped.{stripped}
use Rattle.module_print.specs.Plain.{plain_type, plain_parts, plain_assignment, plain_body}
use Rattle.module_print.specs.Names.{IsFree, IsNamed, identifiers_of, HasNames, HaveNames, IsNamedAssignment, IsNotation}
use Rattle.module_print.proofs.Free.{free_append, free_new_line, free_integer, free_numbers, free_enumerated, free_text_type, free_sequence_of, free_fixed_range, free_labelled, free_item, free_reference}
use Rattle.module_print.proofs.Copied.{Copied, AllCopied, Passed, copied_free, copied_nil, copied_append, passed_free, passed_append, passed_quoted, copied_bracketed, copied_flat_map, copied_listed, copied_concat}
use Rattle.module_print.proofs.Valued.{copied_default}

-- ---- instructions

passed_in_form : (f : Option NameForm) (name : List ℕ) → Passed (in_form f name)
passed_in_form (Some Capitalized) name = passed_free (codes "CAPITALIZED") refl
passed_in_form (Some Uncapitalized) name = passed_free (codes "UNCAPITALIZED") refl
passed_in_form (Some Quoted) name = passed_quoted name
passed_in_form None name = passed_quoted name

passed_as_name : (generated name : List ℕ) → Passed (as_name generated name)
passed_as_name generated name =
    passed_append (codes " AS ") (in_form (form_of generated name) name) (passed_free (codes " AS ") refl) (passed_in_form (form_of generated name) name)

-- the identifiers of the items are free
abbrev FreeItems : Form → Type 0
FreeItems f = All IsFree (identifiers_of f)

copied_instruction : (generated : List ℕ) (f : Form) (m : Instruction) → FreeItems f → Copied (instruction generated f m) []
copied_instruction generated f mark.Attribute free = copied_bracketed (codes "ATTRIBUTE") (passed_free (codes "ATTRIBUTE") refl)
copied_instruction generated f mark.Untagged free = copied_bracketed (codes "UNTAGGED") (passed_free (codes "UNTAGGED") refl)
copied_instruction generated f (mark.Name name) free =
    copied_bracketed (codes "NAME" ++ as_name generated name) (passed_append (codes "NAME") (as_name generated name) (passed_free (codes "NAME") refl) (passed_as_name generated name))
copied_instruction generated f (mark.Namespace space) free =
    copied_bracketed (codes "NAMESPACE AS " ++ quoted space) (passed_append (codes "NAMESPACE AS ") (quoted space) (passed_free (codes "NAMESPACE AS ") refl) (passed_quoted space))
copied_instruction generated f mark.UseNil free = copied_bracketed (codes "USE-NIL") (passed_free (codes "USE-NIL") refl)
copied_instruction generated f mark.EmbedValues free = copied_bracketed (codes "EMBED-VALUES") (passed_free (codes "EMBED-VALUES") refl)
copied_instruction generated f mark.UseOrder free = copied_bracketed (codes "USE-ORDER") (passed_free (codes "USE-ORDER") refl)
copied_instruction generated f mark.List free = copied_bracketed (codes "LIST") (passed_free (codes "LIST") refl)
copied_instruction generated f mark.UseUnion free = copied_bracketed (codes "USE-UNION") (passed_free (codes "USE-UNION") refl)
copied_instruction generated f mark.UseNumber free = copied_bracketed (codes "USE-NUMBER") (passed_free (codes "USE-NUMBER") refl)
copied_instruction generated f (mark.WhiteSpace Preserve) free = copied_nil
copied_instruction generated f (mark.WhiteSpace Replace) free = copied_bracketed (codes "WHITESPACE REPLACE") (passed_free (codes "WHITESPACE REPLACE") refl)
copied_instruction generated f (mark.WhiteSpace Collapse) free = copied_bracketed (codes "WHITESPACE COLLAPSE") (passed_free (codes "WHITESPACE COLLAPSE") refl)
copied_instruction generated f (mark.Text item text) free =
    let identifier = unwrap_or (item_identifier f item) [] in
    copied_bracketed (codes "TEXT:" ++ as_item identifier text)
    (passed_append (codes "TEXT:") (as_item identifier text) (passed_free (codes "TEXT:") refl)
    (passed_append identifier (as_name identifier text) (passed_free identifier (free_item f item free)) (passed_as_name identifier text)))

copied_ranked_go : (generated : List ℕ) (f : Form) (m : Instruction) (v : Bool) → FreeItems f → Copied (if v then instruction generated f m else []) []
copied_ranked_go generated f m true free = copied_instruction generated f m free
copied_ranked_go generated f m false free = copied_nil

copied_ranked : (generated : List ℕ) (f : Form) (marks : List Instruction) → FreeItems f → (place : ℕ) → Copied (ranked generated f marks place) []
copied_ranked generated f marks free place = copied_flat_map (if_ranked generated f place) marks (λ m. copied_ranked_go generated f m (rank m == place) free)

copied_instructions : (generated : List ℕ) (f : Form) (marks : List Instruction) → FreeItems f → Copied (instructions generated f marks) []
copied_instructions generated f marks free = copied_flat_map (ranked generated f marks) ranks (copied_ranked generated f marks free)

copied_prefixes : (generated : List ℕ) (marks : List Instruction) (l : TypeLabel) → FreeItems l.form → Copied (prefixes generated marks l) []
copied_prefixes generated marks l free =
    copied_append (instructions generated l.form l.marks) [] (copied_instructions generated l.form marks free) (copied_instructions generated l.form l.marks free)

-- ---- types

copied_block : (levels : ℕ) (xs ys : List (List ℕ)) → AllCopied xs ys → Copied (block levels xs) (block levels ys)
copied_block levels [] [] all = copied_free (codes "{}") refl
copied_block levels (x ∷ xs) (y ∷ ys) all =
    copied_append (codes "}") (codes "}")
    (copied_append (new_line levels) (new_line levels)
    (copied_append (listed (new_line (suc levels)) (x ∷ xs)) (listed (new_line (suc levels)) (y ∷ ys)) (copied_free (codes "{") refl)
    (copied_listed (new_line (suc levels)) (x ∷ xs) (y ∷ ys) (free_new_line (suc levels)) all))
    (copied_free (new_line levels) (free_new_line levels)))
    (copied_free (codes "}") refl)
copied_block levels [] (y ∷ ys) all = absurd all
copied_block levels (x ∷ xs) [] all = absurd all

copied_type_of : (M : List Assignment) (levels : ℕ) (f : Form) (xs ys : List (List ℕ)) → IsNotation M → FreeItems f → AllCopied xs ys
    → Copied (type_of M levels f xs) (type_of M levels f ys)
copied_type_of M levels form.Bool xs ys names items all = copied_free (codes "BOOLEAN") refl
copied_type_of M levels (form.Int least greatest) xs ys names items all = copied_free (integer least greatest) (free_integer least greatest)
copied_type_of M levels (form.Numbers numbers) xs ys names items all = copied_free (enumerated (map numbered_item numbers)) (free_numbers numbers)
copied_type_of M levels (form.Words identifiers words) xs ys names items all = copied_free (enumerated identifiers) (free_enumerated identifiers items)
copied_type_of M levels (form.Order identifiers) xs ys names items all = copied_free (enumerated identifiers) (free_enumerated identifiers items)
copied_type_of M levels (form.Utf8 least most class) xs ys names items all = copied_free (text_type least most class) (free_text_type least most class)
copied_type_of M levels (form.Sequence components) xs ys names items all =
    copied_append (block levels xs) (block levels ys) (copied_free (codes "SEQUENCE ") refl) (copied_block levels xs ys all)
copied_type_of M levels (form.Choice alternatives) xs ys names items all =
    copied_append (block levels xs) (block levels ys) (copied_free (codes "CHOICE ") refl) (copied_block levels xs ys all)
copied_type_of M levels (form.SequenceOf item least most) xs ys names items all =
    copied_append (flat_map (λ part. part) xs) (flat_map (λ part. part) ys) (copied_free (sequence_of least most) (free_sequence_of least most)) (copied_concat xs ys all)
copied_type_of M levels (form.Ref to) xs ys names items all = copied_free (reference_at M to) (free_reference M to names)

copied_absent : (M : List Assignment) (t : Rose TypeLabel) (standard : Standard) → IsNotation M → HasNames t → Copied (if_absent M t standard) (if_absent M t standard)
copied_absent M t Free names here = copied_free (codes " OPTIONAL") refl
copied_absent M t (Default text) names here = copied_default M t text names here
copied_absent M t (Fixed text) names here = copied_default M t text names here

copied_ending_go : (M : List Assignment) (t : Rose TypeLabel) (standard : Standard) (v : Bool) → IsNotation M → HasNames t
    → let x = if v then if_absent M t standard else [] in Copied x x
copied_ending_go M t standard true names here = copied_absent M t standard names here
copied_ending_go M t standard false names here = copied_nil

copied_with_type : (M : List Assignment) (part : Component) (t : Rose TypeLabel) (x y : List ℕ) → IsNotation M → IsNamed part → HasNames t → Copied x y
    → Copied (with_type M part t x) (with_type M part t y)
copied_with_type M part t x y names named here copied =
    let front : Copied (labelled part.identifier ++ x) (labelled part.identifier ++ y) =
    copied_append x y (copied_free (labelled part.identifier) (free_labelled part.identifier named.0)) copied in
    copied_append (ending M part t) (ending M part t)
    (copied_append (fixed_range part.standard) (fixed_range part.standard) front (copied_free (fixed_range part.standard) (free_fixed_range part.standard named.1)))
    (copied_ending_go M t part.standard part.optional names here)

mutual
  copied_type : (M : List Assignment) (levels : ℕ) (generated : List ℕ) (marks : List Instruction) (t : Rose TypeLabel) → IsNotation M → HasNames t
      → Copied (printed_type M levels generated marks t) (plain_type M levels t)
  copied_type M levels generated marks (node l ts) names here =
      let inner = level_of_parts levels l.form in
      let xs = printed_parts M inner (parts_of l.form) ts in
      let ys = plain_parts M inner (parts_of l.form) ts in
      copied_append (type_of M levels l.form xs) (type_of M levels l.form ys) (copied_prefixes generated marks l here.0)
      (copied_type_of M levels l.form xs ys names here.0 (copied_parts M inner (parts_of l.form) ts names here.1 here.2))

  copied_parts : (M : List Assignment) (levels : ℕ) (parts : List Component) (ts : Roses TypeLabel) → IsNotation M → All IsNamed parts → HaveNames ts
      → AllCopied (printed_parts M levels parts ts) (plain_parts M levels parts ts)
  copied_parts M levels parts none names named here = tt
  copied_parts M levels [] (more t ts) names named here = tt
  copied_parts M levels (part ∷ others) (more t ts) names named here = (
    copied_with_type M part t (printed_type M levels part.identifier part.marks t) (plain_type M levels t) names (All-head IsNamed part others named) here.0
        (copied_type M levels part.identifier part.marks t names here.0),
    copied_parts M levels others ts names (All-tail IsNamed part others named) here.1,
  )

-- ---- the module

copied_assignments : (M list : List Assignment) → IsNotation M → All IsNamedAssignment list → Copied (flat_map (printed_assignment M) list) (flat_map (plain_assignment M) list)
copied_assignments M [] names all = copied_nil
copied_assignments M (a ∷ list) names all =
    let named = All-head IsNamedAssignment a list all in
    let begun = a.reference ++ codes " ::= " in
    let front : Copied begun begun = copied_free begun (free_append a.reference (codes " ::= ") named.0 refl) in
    copied_append (flat_map (printed_assignment M) list) (flat_map (plain_assignment M) list)
    (copied_append (codes "\n") (codes "\n")
    (copied_append (printed_type M 0 a.reference a.marks a.body) (plain_type M 0 a.body) front (copied_type M 0 a.reference a.marks a.body names named.1))
    (copied_free (codes "\n") refl))
    (copied_assignments M list names (All-tail IsNamedAssignment a list all))

-- A PRINTED BODY STRIPPED is the body without marks.
pub stripped_body : (M : List Assignment) → IsNotation M → stripped Module (flat_map (printed_assignment M) M) ≡ plain_body M
stripped_body M names =
    ap (stripped Module) (sym (append-nil (flat_map (printed_assignment M) M))) ∙ (copied_assignments M M names names).is [] ∙ append-nil (plain_body M)

-- ---- what stands between the opening and the closing

pub rest_is : (text rest body : List ℕ) → rest ≡ drop (length print.opening) text → text ≡ print.opening ++ body ++ print.closing → rest ≡ body ++ print.closing
rest_is text rest body r e =
    r ∙ ap (λ l. drop (length print.opening) l) (e ∙ append_assoc print.opening body print.closing) ∙ drop-append_seam print.opening (body ++ print.closing)

pub body_is : (rest x body : List ℕ) → x ≡ take (length rest - length print.closing) rest → rest ≡ body ++ print.closing → x ≡ body
body_is rest x body t e =
    let long : length rest - length print.closing ≡ length body = omega (arith, ap length e, length-append body print.closing) in
    t ∙ ap (λ n. take n rest) long ∙ ap (λ l. take (length body) l) e ∙ take-append_seam body print.closing
