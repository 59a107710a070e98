-- Encoding instructions have no fault as they are told.
use Rattle.std.proofs.Common.{◌≡◌, ℕ, zero, suc, ◌<◌, Bool, true, false, ◌&&◌, not, Option, Some, None, List, [], ◌∷◌, refl, ap, ◌∙◌, arith}
use Rattle.std.specs.Prelude.{◌≢◌, ◌==◌, All, IsUtf8, chars}
use Rattle.std.specs.List.{list_all}
use Rattle.std.specs.Str.{is_utf8}
use Rattle.std.proofs.lemmas.Bool.{ltb-true}
use Rattle.std.proofs.lemmas.Bool.Decides.{nat_tests}
use Rattle.std.proofs.lemmas.Str.{is_utf8-from_IsUtf8}
use Rattle.base_texts.specs.Characters.{is_xml_char}
use Rattle.base_texts.specs.WhiteSpace.{has_bytes}
use Rattle.asn_names.specs.declared.restoration.NameForm.{NameForm}
use Rattle.asn_names.specs.declared.restoration.NameForm.TheVariants as name_form
use Rattle.asn_names.specs.Restoring.{form_of}
use Rattle.asn_types.specs.declared.marks.Instruction.{Instruction}
use Rattle.asn_types.specs.declared.marks.Instruction.TheVariants as mark
use Rattle.asn_types.specs.Marks.{is_attribute}
use Rattle.module_print.specs.Instructions.{rank}
use Rattle.module_text.specs.Ranks.{rank_of_part_mark}
use Rattle.module_text.specs.declared.reasons.ModuleWhy.TheVariants as why
use Rattle.module_text.specs.Listed.{unless}
use Rattle.module_text.specs.Told.{is_xml_text, is_form, has_xml_characters, is_told_so, told_name}
use Rattle.module_text.specs.Marks as may
use Rattle.module_text.specs.Faults as rule
use Rattle.module_text.specs.Printable.{comes_before, are_in_order, is_of_part, MayHave, HasPartMarks}
use Rattle.module_text.proofs.PrintedBounds.{and-first, and-second}
use Rattle.module_unique.specs.Utf8Texts.{MarkIsUtf8}
use Rattle.module_unique.proofs.Telling.{as_form, name_told, part_kind, part_marks_told}
use Rattle.module_unique.proofs.Marked.{name_back, part_rank}
use Rattle.module_unique.proofs.CleanForms.{stands-so, no-more, both-so}

-- ---- names beside an identifier

pub xml_text : (text : List ℕ) → IsUtf8 text → list_all is_xml_char (chars text) ≡ true → is_xml_text text ≡ true
xml_text text utf8 e = both-so (is_utf8 text) (list_all is_xml_char (chars text)) (is_utf8-from_IsUtf8 text utf8) e

form_same : (o : Option NameForm) (name : List ℕ) → o ≢ None → is_form (as_form o name) o ≡ true
form_same None name some = absurd (some refl)
form_same (Some name_form.Capitalized) name some = refl
form_same (Some name_form.Uncapitalized) name some = refl
form_same (Some name_form.Quoted) name some = refl

characters_same : (o : Option NameForm) (name : List ℕ) → is_xml_text name ≡ true → has_xml_characters (as_form o name) ≡ true
characters_same None name e = e
characters_same (Some name_form.Capitalized) name e = refl
characters_same (Some name_form.Uncapitalized) name e = refl
characters_same (Some name_form.Quoted) name e = e

pub told_so : (generated name : List ℕ) → form_of generated name ≢ None → is_xml_text name ≡ true → is_told_so generated (name_told generated name) ≡ true
told_so generated name some e =
    both-so (is_form (name_told generated name) (form_of generated (told_name generated (name_told generated name)))) (has_xml_characters (name_told generated name))
    (ap (λ n. is_form (name_told generated name) (form_of generated n)) (name_back generated name) ∙ form_same (form_of generated name) name some)
    (characters_same (form_of generated name) name e)

some_bytes : (generated : List ℕ) → generated ≢ [] → has_bytes generated ≡ true
some_bytes [] some = absurd (some refl)
some_bytes (b ∷ bs) some = refl

-- ---- of a part or an assignment

part_may : (simply : Bool) (generated : List ℕ) (m : Instruction) → is_of_part m ≡ true → MayHave generated m → MarkIsUtf8 m → (is_attribute m ≡ true → simply ≡ true)
    → may.part_mark_may simply generated (part_kind generated m) ≡ true
part_may simply generated mark.Attribute of has utf8 simple = simple refl
part_may simply generated mark.Untagged of has utf8 simple = refl
part_may simply generated (mark.Name name) of has utf8 simple =
    both-so (has_bytes generated) (is_told_so generated (name_told generated name)) (some_bytes generated has.0) (told_so generated name has.1 (xml_text name utf8 has.2))
part_may simply generated (mark.Namespace space) of has utf8 simple = xml_text space utf8 has
part_may simply generated m of has utf8 simple = absurd (cc)

-- no instruction before, or one of another rank
abbrev Behind : Option ℕ → List Instruction → Type 0
Behind before [] = Unit {0}
Behind before (m ∷ ms) = may.is_rank before (rank m) ≡ false

pub apart_ranks : (m n : ℕ) → m < n → (m == n) ≡ false
apart_ranks m n lt = grind (arith, nat_tests)

part_comes : (m n : Instruction) → is_of_part m ≡ true → comes_before m n ≡ true → rank m < rank n
part_comes mark.Attribute n of e = ltb-true 0 (rank n) e
part_comes mark.Untagged n of e = ltb-true 1 (rank n) e
part_comes (mark.Name name) n of e = ltb-true 2 (rank n) e
part_comes (mark.Namespace space) n of e = ltb-true 3 (rank n) e
part_comes m n of e = absurd (cc)

behind_part : (generated : List ℕ) (m : Instruction) (ms : List Instruction) → is_of_part m ≡ true → are_in_order (m ∷ ms) ≡ true
    → Behind (Some (rank_of_part_mark (part_kind generated m))) ms
behind_part generated m [] of e = tt
behind_part generated m (n ∷ ms) of e =
    let lt = part_comes m n of (and-first (comes_before m n) (are_in_order (n ∷ ms)) e) in
    let same = part_rank generated m of in
    apart_ranks (rank_of_part_mark (part_kind generated m)) (rank n) (omega (arith, lt, same))

pub order_rest : (m : Instruction) (ms : List Instruction) → are_in_order (m ∷ ms) ≡ true → are_in_order ms ≡ true
order_rest m [] e = refl
order_rest m (n ∷ ms) e = and-second (comes_before m n) (are_in_order (n ∷ ms)) e

abbrev SimpleWhere : Bool → List Instruction → Type 0
SimpleWhere simply ms = All (λ m. is_attribute m ≡ true → simply ≡ true) ms

part_marks_by : (simply : Bool) (generated : List ℕ) (ms : List Instruction) (before : Option ℕ) → are_in_order ms ≡ true → list_all is_of_part ms ≡ true
    → All (MayHave generated) ms → All MarkIsUtf8 ms → SimpleWhere simply ms → Behind before ms → rule.part_mark_faults simply generated before (part_marks_told generated ms) ≡ []
part_marks_by simply generated [] before order of has utf8 simple behind = refl
part_marks_by simply generated (m ∷ ms) before order of has utf8 simple behind =
    let here = and-first (is_of_part m) (list_all is_of_part ms) of in
    let k = part_kind generated m in
    let once = not (may.is_rank before (rank_of_part_mark k)) in
    let fits = may.part_mark_may simply generated k in
    no-more (unless (once && fits) 0 why.Spelling) (rule.part_mark_faults simply generated (Some (rank_of_part_mark k)) (part_marks_told generated ms))
    (stands-so (once && fits) 0 why.Spelling
    (both-so once fits
    (ap (λ r. not (may.is_rank before r)) (part_rank generated m here) ∙ ap not behind)
    (part_may simply generated m here (has zero m (omega arith)) (utf8 zero m (omega arith)) (simple zero m (omega arith)))))
    (part_marks_by simply generated ms (Some (rank_of_part_mark k)) (order_rest m ms order) (and-second (is_of_part m) (list_all is_of_part ms) of)
    (λ i d lt. has (suc i) d (omega (arith, lt))) (λ i d lt. utf8 (suc i) d (omega (arith, lt))) (λ i d lt. simple (suc i) d (omega (arith, lt)))
    (behind_part generated m ms here order))

behind_none : (ms : List Instruction) → Behind None ms
behind_none [] = tt
behind_none (m ∷ ms) = refl

-- of a part or an assignment whose type stands for a simple type where it has ATTRIBUTE
pub part_marks_clean : (simply : Bool) (generated : List ℕ) (ms : List Instruction) → HasPartMarks generated ms → All MarkIsUtf8 ms → SimpleWhere simply ms
    → rule.part_mark_faults simply generated None (part_marks_told generated ms) ≡ []
part_marks_clean simply generated ms has utf8 simple = part_marks_by simply generated ms None has.order has.part has.names utf8 simple (behind_none ms)
