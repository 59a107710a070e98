-- Texts with their faults: each line says what the first fault of a text is, and all of it computes.
use Rattle.std.proofs.Common.{◌≡◌, ℕ, Bool, Option, Some, None, List, [], ◌∷◌, refl, codes}
use Rattle.std.specs.Fmt.{digits}
use Rattle.std.specs.Str.{chars, is_utf8}
use Rattle.base_trees.specs.Rose.{Rose, node, roses_of}
use Rattle.base_texts.specs.Characters.{is_xml_char}
use Rattle.base_texts.specs.WhiteSpace.{treated, words_of, is_white_space}
use Rattle.simple_types.specs.declared.simples.Class.TheVariants.{Any}
use Rattle.simple_types.specs.Lexical.{whole_number, in_class}
use Rattle.simple_types.specs.Reading.{reads, spelled}
use Rattle.asn_names.specs.ReservedWords.{reserved_words}
use Rattle.module_text.specs.declared.bounds.PlainNumber.{PlainNumber}
use Rattle.module_text.specs.declared.bounds.PlainEnds.TheVariants as ends
use Rattle.module_text.specs.declared.bounds.PlainRange.TheVariants as range
use Rattle.module_text.specs.declared.marks.NameAs.TheVariants as as_
use Rattle.module_text.specs.declared.marks.PartMarkKind.TheVariants as part_mark
use Rattle.module_text.specs.declared.marks.PartMarkKind.{PartMarkKind}
use Rattle.module_text.specs.declared.marks.PartMark.{PartMark}
use Rattle.module_text.specs.declared.marks.TypeMarkKind.TheVariants as type_mark
use Rattle.module_text.specs.declared.marks.TypeMarkKind.{TypeMarkKind}
use Rattle.module_text.specs.declared.marks.TypeMark.{TypeMark}
use Rattle.module_text.specs.declared.values.PlainValue.{PlainValue}
use Rattle.module_text.specs.declared.values.PlainValue.TheVariants as value
use Rattle.module_text.specs.declared.values.PlainValueLabel.{PlainValueLabel}
use Rattle.module_text.specs.declared.values.PlainOctets.{PlainOctets}
use Rattle.module_text.specs.declared.values.Absence.{Absence}
use Rattle.module_text.specs.declared.values.Absence.TheVariants as absence
use Rattle.module_text.specs.declared.types.NumberedItem.{NumberedItem}
use Rattle.module_text.specs.declared.types.PlainName.{PlainName}
use Rattle.module_text.specs.declared.types.PlainPart.{PlainPart}
use Rattle.module_text.specs.declared.types.PlainForm.{PlainForm}
use Rattle.module_text.specs.declared.types.PlainForm.TheVariants as form
use Rattle.module_text.specs.declared.types.PlainLabel.{PlainLabel}
use Rattle.module_text.specs.declared.modules.PlainAssignment.{PlainAssignment}
use Rattle.module_text.specs.declared.reasons.ModuleWhy.TheVariants.{Duplicate, Unresolved, LongChain, Spelling}
use Rattle.module_text.specs.Resolving.{follow, near_references, all_references, chains_within}
use Rattle.module_text.specs.Simple.{simple_told}
use Rattle.module_text.specs.Faults.{type_faults, faults}
use Rattle.module_text.specs.Listed.{fault, first}

abbrev name : ℕ → List ℕ → PlainName
name at text = record { at = at; name = text }

abbrev number : ℕ → List ℕ → PlainNumber
number at text = record { at = at; written = text }

abbrev item : PlainName → PlainNumber → NumberedItem
item identifier n = record { identifier = identifier; number = n }

abbrev octets : ℕ → List ℕ → PlainOctets
octets at text = record { at = at; digits = text }

abbrev mark : ℕ → PartMarkKind → PartMark
mark at kind = record { at = at; kind = kind }

abbrev own : ℕ → TypeMarkKind → TypeMark
own at kind = record { at = at; kind = kind }

abbrev value_at : ℕ → PlainValue → List (Rose PlainValueLabel) → Rose PlainValueLabel
value_at at v vs = node (record { at = at; value = v }) (roses_of vs)

abbrev type_at : ℕ → List TypeMark → PlainForm → List (Rose PlainLabel) → Rose PlainLabel
type_at at marks f ts = node (record { at = at; marks = marks; form = f }) (roses_of ts)

abbrev part : ℕ → List ℕ → List PartMark → Option PlainOctets → Absence → PlainPart
part at identifier marks fixed absence = record { at = at; identifier = identifier; marks = marks; fixed = fixed; absence = absence }

abbrev assignment : ℕ → List ℕ → List PartMark → Rose PlainLabel → PlainAssignment
assignment at reference marks body = record { at = at; reference = reference; marks = marks; body = body }

-- Order ::= [NAME AS UNCAPITALIZED] [NAMESPACE AS "urn:po"] Order-1
-- Line ::= SEQUENCE {
--     sku [NAMESPACE AS "urn:po"] [WHITESPACE COLLAPSE] UTF8String,
--     qty [NAMESPACE AS "urn:po"] Qty
-- }
-- Order-1 ::= [NAME AS "Order"] SEQUENCE {
--     id [ATTRIBUTE] INTEGER (0..65535),
--     line-list [UNTAGGED] SEQUENCE (SIZE (1..MAX)) OF line [NAMESPACE AS "urn:po"] Line,
--     note [NAMESPACE AS "urn:po"] UTF8String OPTIONAL
-- }
-- Qty ::= INTEGER (1..100)
pub order-is : first (faults (
    assignment 65 (codes "Order") (mark 75 (part_mark.Name as_.Uncapitalized) ∷ mark 99 (part_mark.Namespace (codes "urn:po")) ∷ []) (type_at 123 [] (form.Ref (name 123 (codes "Order-1"))) [])
    ∷ assignment 131 (codes "Line") [] (type_at 140 [] (form.Sequence (part 155 (codes "sku") (mark 159 (part_mark.Namespace (codes "urn:po")) ∷ []) None absence.Never ∷ part 221 (codes "qty") (mark 225 (part_mark.Namespace (codes "urn:po")) ∷ []) None absence.Never ∷ [])) ((type_at 183 (own 183 type_mark.Collapse ∷ []) (form.Utf8 None Any) []) ∷ (type_at 249 [] (form.Ref (name 249 (codes "Qty"))) []) ∷ []))
    ∷ assignment 255 (codes "Order-1") (mark 267 (part_mark.Name (as_.Quoted (codes "Order"))) ∷ []) (type_at 285 [] (form.Sequence (part 300 (codes "id") (mark 303 part_mark.Attribute ∷ []) None absence.Never ∷ part 339 (codes "line-list") (mark 349 part_mark.Untagged ∷ []) None absence.Never ∷ part 427 (codes "note") (mark 432 (part_mark.Namespace (codes "urn:po")) ∷ []) None absence.Optional ∷ [])) ((type_at 315 [] (form.Int (Some (range.Ends (ends.Both (number 324 (codes "0")) (number 327 (codes "65535")))))) []) ∷ (type_at 360 [] (form.SequenceOf (Some (ends.From (number 376 (codes "1")) 379)) (part 388 (codes "line") (mark 393 (part_mark.Namespace (codes "urn:po")) ∷ []) None absence.Never)) ((type_at 417 [] (form.Ref (name 417 (codes "Line"))) []) ∷ [])) ∷ (type_at 456 [] (form.Utf8 None Any) []) ∷ []))
    ∷ assignment 478 (codes "Qty") [] (type_at 486 [] (form.Int (Some (range.Ends (ends.Both (number 495 (codes "1")) (number 498 (codes "100")))))) [])
    ∷ []))
    ≡ None
unfolding first type_faults simple_told follow near_references all_references chains_within reads spelled treated words_of is_white_space whole_number digits chars is_utf8 is_xml_char in_class reserved_words lib.Utf8.encode
order-is = refl

-- Line ::= SEQUENCE {
--     qty Qty
-- }
-- Qtx ::= INTEGER (1..100)
unresolved-qty : first (faults (
    assignment 65 (codes "Line") [] (type_at 74 [] (form.Sequence (part 89 (codes "qty") [] None absence.Never ∷ [])) ((type_at 93 [] (form.Ref (name 93 (codes "Qty"))) []) ∷ []))
    ∷ assignment 99 (codes "Qtx") [] (type_at 107 [] (form.Int (Some (range.Ends (ends.Both (number 116 (codes "1")) (number 119 (codes "100")))))) [])
    ∷ []))
    ≡ Some (fault 93 Unresolved)
unfolding first type_faults simple_told follow near_references all_references chains_within reads spelled treated words_of is_white_space whole_number digits chars is_utf8 is_xml_char in_class reserved_words lib.Utf8.encode
unresolved-qty = refl

-- G ::= [NAME AS UNCAPITALIZED] SEQUENCE {
--     v [ATTRIBUTE] INTEGER (0..255) DEFAULT 5,
--     x [ATTRIBUTE] [WHITESPACE COLLAPSE] UTF8String (CONSTRAINED BY {/* fixed 6F6E */}) DEFAULT "on"
-- }
some-standards : first (faults (
    assignment 65 (codes "G") (mark 71 (part_mark.Name as_.Uncapitalized) ∷ []) (type_at 95 [] (form.Sequence (part 110 (codes "v") (mark 112 part_mark.Attribute ∷ []) None (absence.Default (value_at 149 (value.Number (codes "5")) [])) ∷ part 156 (codes "x") (mark 158 part_mark.Attribute ∷ []) (Some (octets 229 (codes "6F6E"))) (absence.Default (value_at 247 (value.Quoted (codes "on")) [])) ∷ [])) ((type_at 124 [] (form.Int (Some (range.Ends (ends.Both (number 133 (codes "0")) (number 136 (codes "255")))))) []) ∷ (type_at 170 (own 170 type_mark.Collapse ∷ []) (form.Utf8 None Any) []) ∷ []))
    ∷ []))
    ≡ None
unfolding first type_faults simple_told follow near_references all_references chains_within reads spelled treated words_of is_white_space whole_number digits chars is_utf8 is_xml_char in_class reserved_words lib.Utf8.encode
some-standards = refl

-- C ::= [WHITESPACE COLLAPSE] [TEXT:green AS CAPITALIZED] ENUMERATED { green, blue, red }
-- M ::= [USE-NUMBER] ENUMERATED { int-5(-5), int5(5) }
-- U ::= [USE-UNION] CHOICE {
--     alt INTEGER (-2147483648..2147483647),
--     alt-1 [WHITESPACE COLLAPSE] UTF8String
-- }
-- P ::= [EMBED-VALUES] SEQUENCE {
--     embed-values SEQUENCE OF UTF8String,
--     choice-list [UNTAGGED] SEQUENCE OF choice [UNTAGGED] CHOICE {
--         b UTF8String,
--         i UTF8String
--     }
-- }
-- Few ::= [LIST] SEQUENCE (SIZE (1..3)) OF INTEGER (0..255)
some-enumerated : first (faults (
    assignment 65 (codes "C") [] (type_at 71 (own 71 type_mark.Collapse ∷ own 93 (type_mark.Text (codes "green") as_.Capitalized) ∷ []) (form.Words (name 134 (codes "green") ∷ name 141 (codes "blue") ∷ name 147 (codes "red") ∷ [])) [])
    ∷ assignment 153 (codes "M") [] (type_at 159 (own 159 type_mark.UseNumber ∷ []) (form.Numbers (item (name 185 (codes "int-5")) (number 191 (codes "-5")) ∷ item (name 196 (codes "int5")) (number 201 (codes "5")) ∷ [])) [])
    ∷ assignment 206 (codes "U") [] (type_at 212 (own 212 type_mark.UseUnion ∷ []) (form.Choice (part 237 (codes "alt") [] None absence.Never ∷ part 280 (codes "alt-1") [] None absence.Never ∷ [])) ((type_at 241 [] (form.Int (Some (range.Ends (ends.Both (number 250 (codes "-2147483648")) (number 263 (codes "2147483647")))))) []) ∷ (type_at 286 (own 286 type_mark.Collapse ∷ []) (form.Utf8 None Any) []) ∷ []))
    ∷ assignment 321 (codes "P") [] (type_at 327 (own 327 type_mark.EmbedValues ∷ []) (form.Sequence (part 357 (codes "embed-values") [] None absence.Never ∷ part 398 (codes "choice-list") (mark 410 part_mark.Untagged ∷ []) None absence.Never ∷ [])) ((type_at 370 [] (form.SequenceOf None (part 382 [] [] None absence.Never)) ((type_at 382 [] (form.Utf8 None Any) []) ∷ [])) ∷ (type_at 421 [] (form.SequenceOf None (part 433 (codes "choice") (mark 440 part_mark.Untagged ∷ []) None absence.Never)) ((type_at 451 [] (form.Choice (part 468 (codes "b") [] None absence.Never ∷ part 490 (codes "i") [] None absence.Never ∷ [])) ((type_at 470 [] (form.Utf8 None Any) []) ∷ (type_at 492 [] (form.Utf8 None Any) []) ∷ [])) ∷ [])) ∷ []))
    ∷ assignment 511 (codes "Few") [] (type_at 519 (own 519 type_mark.List ∷ []) (form.SequenceOf (Some (ends.Both (number 542 (codes "1")) (number 545 (codes "3")))) (part 552 [] [] None absence.Never)) ((type_at 552 [] (form.Int (Some (range.Ends (ends.Both (number 561 (codes "0")) (number 564 (codes "255")))))) []) ∷ []))
    ∷ []))
    ≡ None
unfolding first type_faults simple_told follow near_references all_references chains_within reads spelled treated words_of is_white_space whole_number digits chars is_utf8 is_xml_char in_class reserved_words lib.Utf8.encode
some-enumerated = refl

-- Y ::= [USE-ORDER] SEQUENCE {
--     order SEQUENCE OF ENUMERATED { a, b },
--     a BOOLEAN,
--     b BOOLEAN OPTIONAL
-- }
an-order : first (faults (
    assignment 65 (codes "Y") [] (type_at 71 (own 71 type_mark.UseOrder ∷ []) (form.Sequence (part 98 (codes "order") [] None absence.Never ∷ part 141 (codes "a") [] None absence.Never ∷ part 156 (codes "b") [] None absence.Optional ∷ [])) ((type_at 104 [] (form.SequenceOf None (part 116 [] [] None absence.Never)) ((type_at 116 [] (form.Words (name 129 (codes "a") ∷ name 132 (codes "b") ∷ [])) []) ∷ [])) ∷ (type_at 143 [] form.Bool []) ∷ (type_at 158 [] form.Bool []) ∷ []))
    ∷ []))
    ≡ None
unfolding first type_faults simple_told follow near_references all_references chains_within reads spelled treated words_of is_white_space whole_number digits chars is_utf8 is_xml_char in_class reserved_words lib.Utf8.encode
an-order = refl

-- Y ::= [USE-ORDER] SEQUENCE {
--     order SEQUENCE OF ENUMERATED { b, a },
--     a BOOLEAN,
--     b BOOLEAN OPTIONAL
-- }
order-mixed : first (faults (
    assignment 65 (codes "Y") [] (type_at 71 (own 71 type_mark.UseOrder ∷ []) (form.Sequence (part 98 (codes "order") [] None absence.Never ∷ part 141 (codes "a") [] None absence.Never ∷ part 156 (codes "b") [] None absence.Optional ∷ [])) ((type_at 104 [] (form.SequenceOf None (part 116 [] [] None absence.Never)) ((type_at 116 [] (form.Words (name 129 (codes "b") ∷ name 132 (codes "a") ∷ [])) []) ∷ [])) ∷ (type_at 143 [] form.Bool []) ∷ (type_at 158 [] form.Bool []) ∷ []))
    ∷ []))
    ≡ Some (fault 71 Spelling)
unfolding first type_faults simple_told follow near_references all_references chains_within reads spelled treated words_of is_white_space whole_number digits chars is_utf8 is_xml_char in_class reserved_words lib.Utf8.encode
order-mixed = refl

-- B ::= [USE-NUMBER] [USE-NUMBER] ENUMERATED { int5(5) }
twice : first (faults (
    assignment 65 (codes "B") [] (type_at 71 (own 71 type_mark.UseNumber ∷ own 84 type_mark.UseNumber ∷ []) (form.Numbers (item (name 110 (codes "int5")) (number 115 (codes "5")) ∷ [])) [])
    ∷ []))
    ≡ Some (fault 84 Spelling)
unfolding first type_faults simple_told follow near_references all_references chains_within reads spelled treated words_of is_white_space whole_number digits chars is_utf8 is_xml_char in_class reserved_words lib.Utf8.encode
twice = refl

-- B ::= [LIST] [LIST] SEQUENCE OF BOOLEAN
list-twice : first (faults (
    assignment 65 (codes "B") [] (type_at 71 (own 71 type_mark.List ∷ own 78 type_mark.List ∷ []) (form.SequenceOf None (part 97 [] [] None absence.Never)) ((type_at 97 [] form.Bool []) ∷ []))
    ∷ []))
    ≡ Some (fault 71 Spelling)
unfolding first type_faults simple_told follow near_references all_references chains_within reads spelled treated words_of is_white_space whole_number digits chars is_utf8 is_xml_char in_class reserved_words lib.Utf8.encode
list-twice = refl

-- B ::= [LIST] BOOLEAN
list-of-nothing : first (faults (
    assignment 65 (codes "B") [] (type_at 71 (own 71 type_mark.List ∷ []) form.Bool [])
    ∷ []))
    ≡ Some (fault 71 Spelling)
unfolding first type_faults simple_told follow near_references all_references chains_within reads spelled treated words_of is_white_space whole_number digits chars is_utf8 is_xml_char in_class reserved_words lib.Utf8.encode
list-of-nothing = refl

-- B ::= INTEGER (9..1)
crossed : first (faults (
    assignment 65 (codes "B") [] (type_at 71 [] (form.Int (Some (range.Ends (ends.Both (number 80 (codes "9")) (number 83 (codes "1")))))) [])
    ∷ []))
    ≡ Some (fault 83 Spelling)
unfolding first type_faults simple_told follow near_references all_references chains_within reads spelled treated words_of is_white_space whole_number digits chars is_utf8 is_xml_char in_class reserved_words lib.Utf8.encode
crossed = refl

-- B ::= INTEGER (5..5)
equal : first (faults (
    assignment 65 (codes "B") [] (type_at 71 [] (form.Int (Some (range.Ends (ends.Both (number 80 (codes "5")) (number 83 (codes "5")))))) [])
    ∷ []))
    ≡ Some (fault 83 Spelling)
unfolding first type_faults simple_told follow near_references all_references chains_within reads spelled treated words_of is_white_space whole_number digits chars is_utf8 is_xml_char in_class reserved_words lib.Utf8.encode
equal = refl

-- B ::= INTEGER (05..7)
a-zero : first (faults (
    assignment 65 (codes "B") [] (type_at 71 [] (form.Int (Some (range.Ends (ends.Both (number 80 (codes "05")) (number 84 (codes "7")))))) [])
    ∷ []))
    ≡ Some (fault 80 Spelling)
unfolding first type_faults simple_told follow near_references all_references chains_within reads spelled treated words_of is_white_space whole_number digits chars is_utf8 is_xml_char in_class reserved_words lib.Utf8.encode
a-zero = refl

-- B ::= INTEGER (-0..7)
minus-zero : first (faults (
    assignment 65 (codes "B") [] (type_at 71 [] (form.Int (Some (range.Ends (ends.Both (number 80 (codes "-0")) (number 84 (codes "7")))))) [])
    ∷ []))
    ≡ Some (fault 80 Spelling)
unfolding first type_faults simple_told follow near_references all_references chains_within reads spelled treated words_of is_white_space whole_number digits chars is_utf8 is_xml_char in_class reserved_words lib.Utf8.encode
minus-zero = refl

-- B ::= UTF8String (SIZE (0..MAX))
open-size : first (faults (
    assignment 65 (codes "B") [] (type_at 71 [] (form.Utf8 (Some (ends.From (number 89 (codes "0")) 92)) Any) [])
    ∷ []))
    ≡ Some (fault 92 Spelling)
unfolding first type_faults simple_told follow near_references all_references chains_within reads spelled treated words_of is_white_space whole_number digits chars is_utf8 is_xml_char in_class reserved_words lib.Utf8.encode
open-size = refl

-- B ::= UTF8String (SIZE (-1..5))
negative-size : first (faults (
    assignment 65 (codes "B") [] (type_at 71 [] (form.Utf8 (Some (ends.Both (number 89 (codes "-1")) (number 93 (codes "5")))) Any) [])
    ∷ []))
    ≡ Some (fault 89 Spelling)
unfolding first type_faults simple_told follow near_references all_references chains_within reads spelled treated words_of is_white_space whole_number digits chars is_utf8 is_xml_char in_class reserved_words lib.Utf8.encode
negative-size = refl

-- B ::= ENUMERATED { b, a }
words-ascend : first (faults (
    assignment 65 (codes "B") [] (type_at 71 [] (form.Words (name 84 (codes "b") ∷ name 87 (codes "a") ∷ [])) [])
    ∷ []))
    ≡ Some (fault 87 Spelling)
unfolding first type_faults simple_told follow near_references all_references chains_within reads spelled treated words_of is_white_space whole_number digits chars is_utf8 is_xml_char in_class reserved_words lib.Utf8.encode
words-ascend = refl

-- B ::= ENUMERATED { int5(5), int3(3) }
numbers-ascend : first (faults (
    assignment 65 (codes "B") [] (type_at 71 [] (form.Numbers (item (name 84 (codes "int5")) (number 89 (codes "5")) ∷ item (name 93 (codes "int3")) (number 98 (codes "3")) ∷ [])) [])
    ∷ []))
    ≡ Some (fault 98 Spelling)
unfolding first type_faults simple_told follow near_references all_references chains_within reads spelled treated words_of is_white_space whole_number digits chars is_utf8 is_xml_char in_class reserved_words lib.Utf8.encode
numbers-ascend = refl

-- B ::= ENUMERATED { int5(6) }
number-named : first (faults (
    assignment 65 (codes "B") [] (type_at 71 [] (form.Numbers (item (name 84 (codes "int5")) (number 89 (codes "6")) ∷ [])) [])
    ∷ []))
    ≡ Some (fault 84 Spelling)
unfolding first type_faults simple_told follow near_references all_references chains_within reads spelled treated words_of is_white_space whole_number digits chars is_utf8 is_xml_char in_class reserved_words lib.Utf8.encode
number-named = refl

-- B ::= ENUMERATED { a, a }
item-again : first (faults (
    assignment 65 (codes "B") [] (type_at 71 [] (form.Words (name 84 (codes "a") ∷ name 87 (codes "a") ∷ [])) [])
    ∷ []))
    ≡ Some (fault 87 Duplicate)
unfolding first type_faults simple_told follow near_references all_references chains_within reads spelled treated words_of is_white_space whole_number digits chars is_utf8 is_xml_char in_class reserved_words lib.Utf8.encode
item-again = refl

-- B ::= SEQUENCE {
--     a BOOLEAN,
--     a BOOLEAN
-- }
part-again : first (faults (
    assignment 65 (codes "B") [] (type_at 71 [] (form.Sequence (part 86 (codes "a") [] None absence.Never ∷ part 101 (codes "a") [] None absence.Never ∷ [])) ((type_at 88 [] form.Bool []) ∷ (type_at 103 [] form.Bool []) ∷ []))
    ∷ []))
    ≡ Some (fault 101 Duplicate)
unfolding first type_faults simple_told follow near_references all_references chains_within reads spelled treated words_of is_white_space whole_number digits chars is_utf8 is_xml_char in_class reserved_words lib.Utf8.encode
part-again = refl

-- B ::= BOOLEAN
-- B ::= BOOLEAN
again : first (faults (
    assignment 65 (codes "B") [] (type_at 71 [] form.Bool [])
    ∷ assignment 79 (codes "B") [] (type_at 85 [] form.Bool [])
    ∷ []))
    ≡ Some (fault 79 Duplicate)
unfolding first type_faults simple_told follow near_references all_references chains_within reads spelled treated words_of is_white_space whole_number digits chars is_utf8 is_xml_char in_class reserved_words lib.Utf8.encode
again = refl

-- NULL ::= BOOLEAN
reserved : first (faults (
    assignment 65 (codes "NULL") [] (type_at 74 [] form.Bool [])
    ∷ []))
    ≡ Some (fault 65 Duplicate)
unfolding first type_faults simple_told follow near_references all_references chains_within reads spelled treated words_of is_white_space whole_number digits chars is_utf8 is_xml_char in_class reserved_words lib.Utf8.encode
reserved = refl

-- A ::= B
-- B ::= C
-- C ::= D
-- D ::= E
-- E ::= F
-- F ::= BOOLEAN
five : first (faults (
    assignment 65 (codes "A") [] (type_at 71 [] (form.Ref (name 71 (codes "B"))) [])
    ∷ assignment 73 (codes "B") [] (type_at 79 [] (form.Ref (name 79 (codes "C"))) [])
    ∷ assignment 81 (codes "C") [] (type_at 87 [] (form.Ref (name 87 (codes "D"))) [])
    ∷ assignment 89 (codes "D") [] (type_at 95 [] (form.Ref (name 95 (codes "E"))) [])
    ∷ assignment 97 (codes "E") [] (type_at 103 [] (form.Ref (name 103 (codes "F"))) [])
    ∷ assignment 105 (codes "F") [] (type_at 111 [] form.Bool [])
    ∷ []))
    ≡ Some (fault 65 LongChain)
unfolding first type_faults simple_told follow near_references all_references chains_within reads spelled treated words_of is_white_space whole_number digits chars is_utf8 is_xml_char in_class reserved_words lib.Utf8.encode
five = refl

-- A ::= B
-- B ::= C
-- C ::= D
-- D ::= E
-- E ::= BOOLEAN
four : first (faults (
    assignment 65 (codes "A") [] (type_at 71 [] (form.Ref (name 71 (codes "B"))) [])
    ∷ assignment 73 (codes "B") [] (type_at 79 [] (form.Ref (name 79 (codes "C"))) [])
    ∷ assignment 81 (codes "C") [] (type_at 87 [] (form.Ref (name 87 (codes "D"))) [])
    ∷ assignment 89 (codes "D") [] (type_at 95 [] (form.Ref (name 95 (codes "E"))) [])
    ∷ assignment 97 (codes "E") [] (type_at 103 [] form.Bool [])
    ∷ []))
    ≡ None
unfolding first type_faults simple_told follow near_references all_references chains_within reads spelled treated words_of is_white_space whole_number digits chars is_utf8 is_xml_char in_class reserved_words lib.Utf8.encode
four = refl

-- A ::= A
circle : first (faults (
    assignment 65 (codes "A") [] (type_at 71 [] (form.Ref (name 71 (codes "A"))) [])
    ∷ []))
    ≡ Some (fault 65 LongChain)
unfolding first type_faults simple_told follow near_references all_references chains_within reads spelled treated words_of is_white_space whole_number digits chars is_utf8 is_xml_char in_class reserved_words lib.Utf8.encode
circle = refl

-- Z ::= SEQUENCE {
--     z Z OPTIONAL
-- }
recursive : first (faults (
    assignment 65 (codes "Z") [] (type_at 71 [] (form.Sequence (part 86 (codes "z") [] None absence.Optional ∷ [])) ((type_at 88 [] (form.Ref (name 88 (codes "Z"))) []) ∷ []))
    ∷ []))
    ≡ None
unfolding first type_faults simple_told follow near_references all_references chains_within reads spelled treated words_of is_white_space whole_number digits chars is_utf8 is_xml_char in_class reserved_words lib.Utf8.encode
recursive = refl

-- B ::= [NAME AS "b"] BOOLEAN
name-is : first (faults (
    assignment 65 (codes "B") (mark 71 (part_mark.Name (as_.Quoted (codes "b"))) ∷ []) (type_at 85 [] form.Bool [])
    ∷ []))
    ≡ Some (fault 71 Spelling)
unfolding first type_faults simple_told follow near_references all_references chains_within reads spelled treated words_of is_white_space whole_number digits chars is_utf8 is_xml_char in_class reserved_words lib.Utf8.encode
name-is = refl

-- B ::= [NAME AS CAPITALIZED] BOOLEAN
name-same : first (faults (
    assignment 65 (codes "B") (mark 71 (part_mark.Name as_.Capitalized) ∷ []) (type_at 93 [] form.Bool [])
    ∷ []))
    ≡ Some (fault 71 Spelling)
unfolding first type_faults simple_told follow near_references all_references chains_within reads spelled treated words_of is_white_space whole_number digits chars is_utf8 is_xml_char in_class reserved_words lib.Utf8.encode
name-same = refl

-- B ::= SEQUENCE OF [NAME AS "b"] BOOLEAN
no-name : first (faults (
    assignment 65 (codes "B") [] (type_at 71 [] (form.SequenceOf None (part 83 [] (mark 83 (part_mark.Name (as_.Quoted (codes "b"))) ∷ []) None absence.Never)) ((type_at 97 [] form.Bool []) ∷ []))
    ∷ []))
    ≡ Some (fault 83 Spelling)
unfolding first type_faults simple_told follow near_references all_references chains_within reads spelled treated words_of is_white_space whole_number digits chars is_utf8 is_xml_char in_class reserved_words lib.Utf8.encode
no-name = refl

-- B ::= SEQUENCE OF BOOLEAN
nameless : first (faults (
    assignment 65 (codes "B") [] (type_at 71 [] (form.SequenceOf None (part 83 [] [] None absence.Never)) ((type_at 83 [] form.Bool []) ∷ []))
    ∷ []))
    ≡ Some (fault 83 Spelling)
unfolding first type_faults simple_told follow near_references all_references chains_within reads spelled treated words_of is_white_space whole_number digits chars is_utf8 is_xml_char in_class reserved_words lib.Utf8.encode
nameless = refl

-- B ::= [LIST] SEQUENCE OF a BOOLEAN
named-item : first (faults (
    assignment 65 (codes "B") [] (type_at 71 (own 71 type_mark.List ∷ []) (form.SequenceOf None (part 90 (codes "a") [] None absence.Never)) ((type_at 92 [] form.Bool []) ∷ []))
    ∷ []))
    ≡ Some (fault 90 Spelling)
unfolding first type_faults simple_told follow near_references all_references chains_within reads spelled treated words_of is_white_space whole_number digits chars is_utf8 is_xml_char in_class reserved_words lib.Utf8.encode
named-item = refl

-- B ::= SEQUENCE OF X
nameless-unresolved : first (faults (
    assignment 65 (codes "B") [] (type_at 71 [] (form.SequenceOf None (part 83 [] [] None absence.Never)) ((type_at 83 [] (form.Ref (name 83 (codes "X"))) []) ∷ []))
    ∷ []))
    ≡ Some (fault 83 Unresolved)
unfolding first type_faults simple_told follow near_references all_references chains_within reads spelled treated words_of is_white_space whole_number digits chars is_utf8 is_xml_char in_class reserved_words lib.Utf8.encode
nameless-unresolved = refl

-- B ::= SEQUENCE {
--     a [ATTRIBUTE] SEQUENCE {}
-- }
a-list-of-attribute : first (faults (
    assignment 65 (codes "B") [] (type_at 71 [] (form.Sequence (part 86 (codes "a") (mark 88 part_mark.Attribute ∷ []) None absence.Never ∷ [])) ((type_at 100 [] (form.Sequence []) []) ∷ []))
    ∷ []))
    ≡ Some (fault 88 Spelling)
unfolding first type_faults simple_told follow near_references all_references chains_within reads spelled treated words_of is_white_space whole_number digits chars is_utf8 is_xml_char in_class reserved_words lib.Utf8.encode
a-list-of-attribute = refl

-- B ::= SEQUENCE {
--     a [ATTRIBUTE] C
-- }
-- C ::= BOOLEAN
attribute-through : first (faults (
    assignment 65 (codes "B") [] (type_at 71 [] (form.Sequence (part 86 (codes "a") (mark 88 part_mark.Attribute ∷ []) None absence.Never ∷ [])) ((type_at 100 [] (form.Ref (name 100 (codes "C"))) []) ∷ []))
    ∷ assignment 104 (codes "C") [] (type_at 110 [] form.Bool [])
    ∷ []))
    ≡ None
unfolding first type_faults simple_told follow near_references all_references chains_within reads spelled treated words_of is_white_space whole_number digits chars is_utf8 is_xml_char in_class reserved_words lib.Utf8.encode
attribute-through = refl

-- B ::= SEQUENCE {
--     a [ATTRIBUTE] INTEGER (9..1)
-- }
attribute-crossed : first (faults (
    assignment 65 (codes "B") [] (type_at 71 [] (form.Sequence (part 86 (codes "a") (mark 88 part_mark.Attribute ∷ []) None absence.Never ∷ [])) ((type_at 100 [] (form.Int (Some (range.Ends (ends.Both (number 109 (codes "9")) (number 112 (codes "1")))))) []) ∷ []))
    ∷ []))
    ≡ Some (fault 88 Spelling)
unfolding first type_faults simple_told follow near_references all_references chains_within reads spelled treated words_of is_white_space whole_number digits chars is_utf8 is_xml_char in_class reserved_words lib.Utf8.encode
attribute-crossed = refl

-- B ::= SEQUENCE {
--     a INTEGER DEFAULT 5
-- }
default-alone : first (faults (
    assignment 65 (codes "B") [] (type_at 71 [] (form.Sequence (part 86 (codes "a") [] None (absence.Default (value_at 104 (value.Number (codes "5")) [])) ∷ [])) ((type_at 88 [] (form.Int None) []) ∷ []))
    ∷ []))
    ≡ Some (fault 104 Spelling)
unfolding first type_faults simple_told follow near_references all_references chains_within reads spelled treated words_of is_white_space whole_number digits chars is_utf8 is_xml_char in_class reserved_words lib.Utf8.encode
default-alone = refl

-- B ::= SEQUENCE {
--     a [ATTRIBUTE] INTEGER (0..3) DEFAULT 5
-- }
default-outside : first (faults (
    assignment 65 (codes "B") [] (type_at 71 [] (form.Sequence (part 86 (codes "a") (mark 88 part_mark.Attribute ∷ []) None (absence.Default (value_at 123 (value.Number (codes "5")) [])) ∷ [])) ((type_at 100 [] (form.Int (Some (range.Ends (ends.Both (number 109 (codes "0")) (number 112 (codes "3")))))) []) ∷ []))
    ∷ []))
    ≡ Some (fault 123 Spelling)
unfolding first type_faults simple_told follow near_references all_references chains_within reads spelled treated words_of is_white_space whole_number digits chars is_utf8 is_xml_char in_class reserved_words lib.Utf8.encode
default-outside = refl

-- B ::= SEQUENCE {
--     a [ATTRIBUTE] INTEGER DEFAULT 05
-- }
default-zero : first (faults (
    assignment 65 (codes "B") [] (type_at 71 [] (form.Sequence (part 86 (codes "a") (mark 88 part_mark.Attribute ∷ []) None (absence.Default (value_at 116 (value.Number (codes "05")) [])) ∷ [])) ((type_at 100 [] (form.Int None) []) ∷ []))
    ∷ []))
    ≡ Some (fault 116 Spelling)
unfolding first type_faults simple_told follow near_references all_references chains_within reads spelled treated words_of is_white_space whole_number digits chars is_utf8 is_xml_char in_class reserved_words lib.Utf8.encode
default-zero = refl

-- B ::= SEQUENCE {
--     a [ATTRIBUTE] U DEFAULT alt : 7
-- }
-- U ::= [USE-UNION] CHOICE {
--     alt INTEGER (0..255),
--     alt-1 [WHITESPACE COLLAPSE] UTF8String
-- }
default-union : first (faults (
    assignment 65 (codes "B") [] (type_at 71 [] (form.Sequence (part 86 (codes "a") (mark 88 part_mark.Attribute ∷ []) None (absence.Default (value_at 110 (value.Chosen (codes "alt")) ((value_at 116 (value.Number (codes "7")) []) ∷ []))) ∷ [])) ((type_at 100 [] (form.Ref (name 100 (codes "U"))) []) ∷ []))
    ∷ assignment 120 (codes "U") [] (type_at 126 (own 126 type_mark.UseUnion ∷ []) (form.Choice (part 151 (codes "alt") [] None absence.Never ∷ part 177 (codes "alt-1") [] None absence.Never ∷ [])) ((type_at 155 [] (form.Int (Some (range.Ends (ends.Both (number 164 (codes "0")) (number 167 (codes "255")))))) []) ∷ (type_at 183 (own 183 type_mark.Collapse ∷ []) (form.Utf8 None Any) []) ∷ []))
    ∷ []))
    ≡ None
unfolding first type_faults simple_told follow near_references all_references chains_within reads spelled treated words_of is_white_space whole_number digits chars is_utf8 is_xml_char in_class reserved_words lib.Utf8.encode
default-union = refl

-- B ::= SEQUENCE {
--     a [ATTRIBUTE] U DEFAULT alt-1 : "7"
-- }
-- U ::= [USE-UNION] CHOICE {
--     alt INTEGER (0..255),
--     alt-1 [WHITESPACE COLLAPSE] UTF8String
-- }
default-other : first (faults (
    assignment 65 (codes "B") [] (type_at 71 [] (form.Sequence (part 86 (codes "a") (mark 88 part_mark.Attribute ∷ []) None (absence.Default (value_at 110 (value.Chosen (codes "alt-1")) ((value_at 118 (value.Quoted (codes "7")) []) ∷ []))) ∷ [])) ((type_at 100 [] (form.Ref (name 100 (codes "U"))) []) ∷ []))
    ∷ assignment 124 (codes "U") [] (type_at 130 (own 130 type_mark.UseUnion ∷ []) (form.Choice (part 155 (codes "alt") [] None absence.Never ∷ part 181 (codes "alt-1") [] None absence.Never ∷ [])) ((type_at 159 [] (form.Int (Some (range.Ends (ends.Both (number 168 (codes "0")) (number 171 (codes "255")))))) []) ∷ (type_at 187 (own 187 type_mark.Collapse ∷ []) (form.Utf8 None Any) []) ∷ []))
    ∷ []))
    ≡ Some (fault 110 Spelling)
unfolding first type_faults simple_told follow near_references all_references chains_within reads spelled treated words_of is_white_space whole_number digits chars is_utf8 is_xml_char in_class reserved_words lib.Utf8.encode
default-other = refl

-- B ::= SEQUENCE {
--     a [ATTRIBUTE] INTEGER (CONSTRAINED BY {/* fixed 35 */}) DEFAULT 6
-- }
fixed-other : first (faults (
    assignment 65 (codes "B") [] (type_at 71 [] (form.Sequence (part 86 (codes "a") (mark 88 part_mark.Attribute ∷ []) (Some (octets 134 (codes "35"))) (absence.Default (value_at 150 (value.Number (codes "6")) [])) ∷ [])) ((type_at 100 [] (form.Int None) []) ∷ []))
    ∷ []))
    ≡ Some (fault 150 Spelling)
unfolding first type_faults simple_told follow near_references all_references chains_within reads spelled treated words_of is_white_space whole_number digits chars is_utf8 is_xml_char in_class reserved_words lib.Utf8.encode
fixed-other = refl

-- B ::= SEQUENCE {
--     a [ATTRIBUTE] INTEGER (CONSTRAINED BY {/* fixed 3035 */})
-- }
fixed-not : first (faults (
    assignment 65 (codes "B") [] (type_at 71 [] (form.Sequence (part 86 (codes "a") (mark 88 part_mark.Attribute ∷ []) (Some (octets 134 (codes "3035"))) absence.Never ∷ [])) ((type_at 100 [] (form.Int None) []) ∷ []))
    ∷ []))
    ≡ Some (fault 134 Spelling)
unfolding first type_faults simple_told follow near_references all_references chains_within reads spelled treated words_of is_white_space whole_number digits chars is_utf8 is_xml_char in_class reserved_words lib.Utf8.encode
fixed-not = refl

-- B ::= [TEXT:c AS "x"] ENUMERATED { a, b }
text-of-nothing : first (faults (
    assignment 65 (codes "B") [] (type_at 71 (own 71 (type_mark.Text (codes "c") (as_.Quoted (codes "x"))) ∷ []) (form.Words (name 100 (codes "a") ∷ name 103 (codes "b") ∷ [])) [])
    ∷ []))
    ≡ Some (fault 71 Spelling)
unfolding first type_faults simple_told follow near_references all_references chains_within reads spelled treated words_of is_white_space whole_number digits chars is_utf8 is_xml_char in_class reserved_words lib.Utf8.encode
text-of-nothing = refl

-- B ::= [USE-NIL] SEQUENCE {
--     content BOOLEAN
-- }
no-content : first (faults (
    assignment 65 (codes "B") [] (type_at 71 (own 71 type_mark.UseNil ∷ []) (form.Sequence (part 96 (codes "content") [] None absence.Never ∷ [])) ((type_at 104 [] form.Bool []) ∷ []))
    ∷ []))
    ≡ Some (fault 71 Spelling)
unfolding first type_faults simple_told follow near_references all_references chains_within reads spelled treated words_of is_white_space whole_number digits chars is_utf8 is_xml_char in_class reserved_words lib.Utf8.encode
no-content = refl

-- B ::= [EMBED-VALUES] SEQUENCE {
--     a BOOLEAN
-- }
no-texts : first (faults (
    assignment 65 (codes "B") [] (type_at 71 (own 71 type_mark.EmbedValues ∷ []) (form.Sequence (part 101 (codes "a") [] None absence.Never ∷ [])) ((type_at 103 [] form.Bool []) ∷ []))
    ∷ []))
    ≡ Some (fault 71 Spelling)
unfolding first type_faults simple_told follow near_references all_references chains_within reads spelled treated words_of is_white_space whole_number digits chars is_utf8 is_xml_char in_class reserved_words lib.Utf8.encode
no-texts = refl

-- Y ::= [USE-ORDER] SEQUENCE {
--     order SEQUENCE OF ENUMERATED { a },
--     a BOOLEAN,
--     b [UNTAGGED] SEQUENCE {}
-- }
groups : first (faults (
    assignment 65 (codes "Y") [] (type_at 71 (own 71 type_mark.UseOrder ∷ []) (form.Sequence (part 98 (codes "order") [] None absence.Never ∷ part 138 (codes "a") [] None absence.Never ∷ part 153 (codes "b") (mark 155 part_mark.Untagged ∷ []) None absence.Never ∷ [])) ((type_at 104 [] (form.SequenceOf None (part 116 [] [] None absence.Never)) ((type_at 116 [] (form.Words (name 129 (codes "a") ∷ [])) []) ∷ [])) ∷ (type_at 140 [] form.Bool []) ∷ (type_at 166 [] (form.Sequence []) []) ∷ []))
    ∷ []))
    ≡ Some (fault 71 Spelling)
unfolding first type_faults simple_told follow near_references all_references chains_within reads spelled treated words_of is_white_space whole_number digits chars is_utf8 is_xml_char in_class reserved_words lib.Utf8.encode
groups = refl
