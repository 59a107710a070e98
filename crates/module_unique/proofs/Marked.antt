-- What is told of encoding instructions stands in order, and says the instructions again.
use Rattle.std.proofs.Common.{◌≡◌, ℕ, zero, suc, ◌≤◌, Bool, true, false, not, Some, None, List, [], ◌∷◌, refl, ap, ◌∙◌, arith}
use Rattle.std.specs.Prelude.{All, bytes_eq, nat_le, if◌then◌else◌}
use Rattle.std.specs.List.{list_all}
use Rattle.std.proofs.lemmas.Bool.{le-leb, and_from}
use Rattle.std.proofs.lemmas.Slice.Eq.{bytes_eq-Decides}
use Rattle.base_texts.specs.declared.white_space.WhiteSpace.TheVariants.{Preserve, Replace, Collapse}
use Rattle.asn_names.specs.declared.restoration.NameForm.TheVariants as name_form
use Rattle.asn_names.specs.Restoring.{capitalized, uncapitalized}
use Rattle.asn_types.specs.declared.marks.Instruction.{Instruction}
use Rattle.asn_types.specs.declared.marks.Instruction.TheVariants as mark
use Rattle.asn_types.specs.declared.types.Form.{Form}
use Rattle.module_print.specs.Instructions.{rank}
use Rattle.module_text.specs.Ranks.{rank_of_part_mark, rank_of_type_mark, part_marks_from, type_marks_from}
use Rattle.module_text.specs.Told.{told_name}
use Rattle.module_text.specs.Printable.{comes_before, are_in_order, is_of_part, MayBe}
use Rattle.module_text.specs.Meaning.{part_mark_meant, part_marks_meant}
use Rattle.module_text.proofs.PrintedBounds.{and-first, and-second}
use Rattle.module_unique.proofs.Telling.{as_form, name_told, part_kind, part_marks_told, type_kind, type_marks_told}
use Rattle.module_unique.proofs.Printing.{rank_follows}

-- ---- their order

pub part_rank : (generated : List ℕ) (m : Instruction) → is_of_part m ≡ true → rank_of_part_mark (part_kind generated m) ≡ rank m
part_rank generated mark.Attribute e = refl
part_rank generated mark.Untagged e = refl
part_rank generated (mark.Name name) e = refl
part_rank generated (mark.Namespace space) e = refl
part_rank generated m e = absurd (cc)

pub type_rank : (f : Form) (m : Instruction) → not (is_of_part m) ≡ true → MayBe m → rank_of_type_mark (type_kind f m) ≡ rank m
type_rank f mark.UseNil e may = refl
type_rank f mark.EmbedValues e may = refl
type_rank f mark.UseOrder e may = refl
type_rank f mark.List e may = refl
type_rank f mark.UseUnion e may = refl
type_rank f mark.UseNumber e may = refl
type_rank f (mark.WhiteSpace Preserve) e may = absurd (may refl)
type_rank f (mark.WhiteSpace Replace) e may = refl
type_rank f (mark.WhiteSpace Collapse) e may = refl
type_rank f (mark.Text item text) e may = refl
type_rank f m e may = absurd (cc)

part_from : (generated : List ℕ) (least : ℕ) (m : Instruction) (ms : List Instruction) → least ≤ rank m
    → are_in_order (m ∷ ms) ≡ true → list_all is_of_part (m ∷ ms) ≡ true → part_marks_from least (part_marks_told generated (m ∷ ms)) ≡ true
part_from generated least m [] le e of =
    let same = part_rank generated m (and-first (is_of_part m) true of) in
    and_from (nat_le least (rank_of_part_mark (part_kind generated m))) true (le-leb least (rank_of_part_mark (part_kind generated m)) (omega (arith, le, same))) refl
part_from generated least m (n ∷ ms) le e of =
    let same = part_rank generated m (and-first (is_of_part m) (list_all is_of_part (n ∷ ms)) of) in
    let follows = rank_follows m n (and-first (comes_before m n) (are_in_order (n ∷ ms)) e) in
    let r = rank_of_part_mark (part_kind generated m) in
    and_from (nat_le least r) (part_marks_from r (part_marks_told generated (n ∷ ms)))
    (le-leb least r (omega (arith, le, same)))
    (part_from generated r n ms (omega (arith, follows, same)) (and-second (comes_before m n) (are_in_order (n ∷ ms)) e) (and-second (is_of_part m) (list_all is_of_part (n ∷ ms)) of))

pub part_marks_ordered : (generated : List ℕ) (marks : List Instruction) → are_in_order marks ≡ true → list_all is_of_part marks ≡ true
    → part_marks_from 0 (part_marks_told generated marks) ≡ true
part_marks_ordered generated [] e of = refl
part_marks_ordered generated (m ∷ ms) e of = part_from generated 0 m ms (omega arith) e of

abbrev pub of_types : List Instruction → Bool
of_types marks = list_all (λ m. not (is_of_part m)) marks

type_from : (f : Form) (least : ℕ) (m : Instruction) (ms : List Instruction) → least ≤ rank m
    → are_in_order (m ∷ ms) ≡ true → of_types (m ∷ ms) ≡ true → All MayBe (m ∷ ms) → type_marks_from least (type_marks_told f (m ∷ ms)) ≡ true
type_from f least m [] le e of may =
    let same = type_rank f m (and-first (not (is_of_part m)) true of) (may zero m (omega arith)) in
    and_from (nat_le least (rank_of_type_mark (type_kind f m))) true (le-leb least (rank_of_type_mark (type_kind f m)) (omega (arith, le, same))) refl
type_from f least m (n ∷ ms) le e of may =
    let same = type_rank f m (and-first (not (is_of_part m)) (of_types (n ∷ ms)) of) (may zero m (omega arith)) in
    let follows = rank_follows m n (and-first (comes_before m n) (are_in_order (n ∷ ms)) e) in
    let r = rank_of_type_mark (type_kind f m) in
    and_from (nat_le least r) (type_marks_from r (type_marks_told f (n ∷ ms)))
    (le-leb least r (omega (arith, le, same)))
    (type_from f r n ms (omega (arith, follows, same)) (and-second (comes_before m n) (are_in_order (n ∷ ms)) e) (and-second (not (is_of_part m)) (of_types (n ∷ ms)) of)
    (λ k d lt. may (suc k) d (omega (arith, lt))))

pub type_marks_ordered : (f : Form) (marks : List Instruction) → are_in_order marks ≡ true → of_types marks ≡ true → All MayBe marks
    → type_marks_from 0 (type_marks_told f marks) ≡ true
type_marks_ordered f [] e of may = refl
type_marks_ordered f (m ∷ ms) e of may = type_from f 0 m ms (omega arith) e of may

-- ---- names are told back

name_at : (generated name : List ℕ) (none first second : Bool)
    → bytes_eq (capitalized generated) name ≡ first → bytes_eq (uncapitalized generated) name ≡ second
    → told_name generated (as_form (if none then None else if first then Some name_form.Capitalized else if second then Some name_form.Uncapitalized else Some name_form.Quoted) name) ≡ name
name_at generated name true first second e f = refl
name_at generated name false true second e f = (bytes_eq-Decides (capitalized generated) name).0 e
name_at generated name false false true e f = (bytes_eq-Decides (uncapitalized generated) name).0 f
name_at generated name false false false e f = refl

pub name_back : (generated name : List ℕ) → told_name generated (name_told generated name) ≡ name
name_back generated name = name_at generated name (bytes_eq generated name) (bytes_eq (capitalized generated) name) (bytes_eq (uncapitalized generated) name) refl refl

part_back : (generated : List ℕ) (m : Instruction) → is_of_part m ≡ true → part_mark_meant generated (part_kind generated m) ≡ m
part_back generated mark.Attribute e = refl
part_back generated mark.Untagged e = refl
part_back generated (mark.Name name) e = ap mark.Name (name_back generated name)
part_back generated (mark.Namespace space) e = refl
part_back generated m e = absurd (cc)

pub part_marks_back : (generated : List ℕ) (marks : List Instruction) → list_all is_of_part marks ≡ true
    → part_marks_meant generated (part_marks_told generated marks) ≡ marks
part_marks_back generated [] of = refl
part_marks_back generated (m ∷ ms) of =
    ap (λ n. n ∷ part_marks_meant generated (part_marks_told generated ms)) (part_back generated m (and-first (is_of_part m) (list_all is_of_part ms) of))
    ∙ ap (λ ns. m ∷ ns) (part_marks_back generated ms (and-second (is_of_part m) (list_all is_of_part ms) of))
