-- Parts and values written out: what the definitions say of each computes.
use Rattle.std.proofs.Common.{◌≡◌, ℕ, Bool, true, false, pos, negsuc, Some, None, List, [], ◌∷◌, refl, codes}
use Rattle.std.specs.Fmt.{digits}
use Rattle.std.specs.Str.{chars}
use Rattle.base_trees.specs.Rose.{Rose, node, roses_of}
use Rattle.base_texts.specs.Characters.{is_xml_char}
use Rattle.base_texts.specs.WhiteSpace.{treated, words_of, is_white_space}
use Rattle.base_texts.specs.declared.white_space.WhiteSpace.TheVariants.{Collapse}
use Rattle.simple_types.specs.declared.simples.Class.TheVariants.{Any}
use Rattle.simple_types.specs.declared.standards.Standard.{Standard}
use Rattle.simple_types.specs.declared.standards.Standard.TheVariants.{Free, Default, Fixed}
use Rattle.simple_types.specs.Lexical.{whole_number, in_class}
use Rattle.simple_types.specs.Reading.{reads, spelled}
use Rattle.asn_types.specs.declared.marks.Instruction.{Instruction}
use Rattle.asn_types.specs.declared.marks.Instruction.TheVariants as mark
use Rattle.asn_types.specs.declared.types.Component.{Component}
use Rattle.asn_types.specs.declared.types.Form.{Form}
use Rattle.asn_types.specs.declared.types.Form.TheVariants as form
use Rattle.asn_types.specs.declared.types.TypeLabel.{TypeLabel}
use Rattle.asn_types.specs.declared.modules.Assignment.{Assignment}
use Rattle.asn_types.specs.Refs.{follow}
use Rattle.module_print.specs.Instructions.{instructions}
use Rattle.module_print.specs.Values.{default}
use Rattle.module_print.specs.Printed.{printed_type, with_type}

abbrev type : Form → List Instruction → List (Rose TypeLabel) → Rose TypeLabel
type f marks ts = node (record { form = f; marks = marks }) (roses_of ts)

abbrev part : List ℕ → Bool → Standard → List Instruction → Component
part identifier optional standard marks = record { identifier = identifier; optional = optional; standard = standard; marks = marks }

abbrev plain : List ℕ → Component
plain identifier = part identifier false Free []

-- ---- values behind DEFAULT

abbrev boolean : Rose TypeLabel
boolean = type form.Bool [] []

true-is : default [] boolean (codes "true") ≡ codes " DEFAULT TRUE"
unfolding reads spelled follow treated words_of is_white_space whole_number digits chars is_xml_char in_class
true-is = refl

false-is : default [] boolean (codes "false") ≡ codes " DEFAULT FALSE"
unfolding reads spelled follow treated words_of is_white_space whole_number digits chars is_xml_char in_class
false-is = refl

abbrev octet : Rose TypeLabel
octet = type (form.Int (Some (pos 0)) (Some (pos 255))) [] []

number-is : default [] octet (codes "5") ≡ codes " DEFAULT 5"
unfolding reads spelled follow treated words_of is_white_space whole_number digits chars is_xml_char in_class
number-is = refl

abbrev whole : Rose TypeLabel
whole = type (form.Int None None) [] []

below-zero : default [] whole (codes "-12") ≡ codes " DEFAULT -12"
unfolding reads spelled follow treated words_of is_white_space whole_number digits chars is_xml_char in_class
below-zero = refl

-- [USE-NUMBER] ENUMERATED { int-5(-5), int5(5) }
abbrev fives : Rose TypeLabel
fives = type (form.Numbers (negsuc 4 ∷ pos 5 ∷ [])) (mark.UseNumber ∷ []) []

numbered-item : default [] fives (codes "-5") ≡ codes " DEFAULT int-5"
unfolding reads spelled follow treated words_of is_white_space whole_number digits chars is_xml_char in_class
numbered-item = refl

-- [WHITESPACE COLLAPSE] [TEXT:x7 AS "7"] ENUMERATED { x7, yes }
abbrev words : Rose TypeLabel
words = type (form.Words (codes "x7" ∷ codes "yes" ∷ []) (codes "7" ∷ codes "yes" ∷ [])) (mark.WhiteSpace Collapse ∷ mark.Text 0 (codes "7") ∷ []) []

named-item : default [] words (codes "7") ≡ codes " DEFAULT x7"
unfolding reads spelled follow treated words_of is_white_space whole_number digits chars is_xml_char in_class
named-item = refl

abbrev token : Rose TypeLabel
token = type (form.Utf8 0 None Any) (mark.WhiteSpace Collapse ∷ []) []

text-is : default [] token (codes "on") ≡ codes " DEFAULT \"on\""
unfolding reads spelled follow treated words_of is_white_space whole_number digits chars is_xml_char in_class
text-is = refl

quoted-text : default [] token (codes "say \"on\"") ≡ codes " DEFAULT \"say \"\"on\"\"\""
unfolding reads spelled follow treated words_of is_white_space whole_number digits chars is_xml_char in_class
quoted-text = refl

-- [LIST] SEQUENCE OF INTEGER (0..255)
abbrev octets : Rose TypeLabel
octets = type (form.SequenceOf (plain []) 0 None) (mark.List ∷ []) (octet ∷ [])

list-is : default [] octets (codes "1 20 3") ≡ codes " DEFAULT { 1, 20, 3 }"
unfolding reads spelled follow treated words_of is_white_space whole_number digits chars is_xml_char in_class
list-is = refl

one-item : default [] octets (codes "1") ≡ codes " DEFAULT { 1 }"
unfolding reads spelled follow treated words_of is_white_space whole_number digits chars is_xml_char in_class
one-item = refl

no-item : default [] octets [] ≡ codes " DEFAULT {}"
unfolding reads spelled follow treated words_of is_white_space whole_number digits chars is_xml_char in_class
no-item = refl

-- [USE-UNION] CHOICE { alt INTEGER (0..255), alt-1 [WHITESPACE COLLAPSE] UTF8String }
abbrev either : Rose TypeLabel
either = type (form.Choice (plain (codes "alt") ∷ plain (codes "alt-1") ∷ [])) (mark.UseUnion ∷ []) (octet ∷ token ∷ [])

first-alternative : default [] either (codes "7") ≡ codes " DEFAULT alt : 7"
unfolding reads spelled follow treated words_of is_white_space whole_number digits chars is_xml_char in_class
first-alternative = refl

second-alternative : default [] either (codes "on") ≡ codes " DEFAULT alt-1 : \"on\""
unfolding reads spelled follow treated words_of is_white_space whole_number digits chars is_xml_char in_class
second-alternative = refl

-- a list of such
list-of-unions : default [] (type (form.SequenceOf (plain []) 0 None) (mark.List ∷ []) (either ∷ [])) (codes "7 on") ≡ codes " DEFAULT { alt : 7, alt-1 : \"on\" }"
unfolding reads spelled follow treated words_of is_white_space whole_number digits chars is_xml_char in_class
list-of-unions = refl

-- through a reference
abbrev assigned : Assignment
assigned = record { reference = codes "Octet"; marks = []; body = octet }

referred : default (assigned ∷ []) (type (form.Ref 0) [] []) (codes "5") ≡ codes " DEFAULT 5"
unfolding reads spelled follow treated words_of is_white_space whole_number digits chars is_xml_char in_class
referred = refl

-- in no module a text is no value
no-value : default [] octet (codes "five") ≡ codes " DEFAULT \"five\""
unfolding reads spelled follow treated words_of is_white_space whole_number digits chars is_xml_char in_class
no-value = refl

-- ---- parts

may-be-absent : with_type [] (part (codes "v") true Free (mark.Attribute ∷ [])) octet (codes "INTEGER (0..255)") ≡ codes "v INTEGER (0..255) OPTIONAL"
may-be-absent = refl

with-default : with_type [] (part (codes "v") true (Default (codes "5")) (mark.Attribute ∷ [])) octet (codes "INTEGER (0..255)") ≡ codes "v INTEGER (0..255) DEFAULT 5"
unfolding reads spelled follow treated words_of is_white_space whole_number digits chars is_xml_char in_class
with-default = refl

fixed-absent : with_type [] (part (codes "x") true (Fixed (codes "on")) (mark.Attribute ∷ [])) token (codes "UTF8String")
    ≡ codes "x UTF8String (CONSTRAINED BY {/* fixed 6F6E */}) DEFAULT \"on\""
unfolding reads spelled follow treated words_of is_white_space whole_number digits chars is_xml_char in_class
fixed-absent = refl

fixed-present : with_type [] (part (codes "x") false (Fixed (codes "on")) (mark.Attribute ∷ [])) token (codes "UTF8String")
    ≡ codes "x UTF8String (CONSTRAINED BY {/* fixed 6F6E */})"
fixed-present = refl

-- a type of both, which has them on lines of their own
both-parts : printed_type [] 0 [] []
    (type (form.Sequence (part (codes "v") true (Default (codes "5")) (mark.Attribute ∷ []) ∷ part (codes "x") true (Fixed (codes "on")) (mark.Attribute ∷ []) ∷ [])) [] (octet ∷ token ∷ []))
    ≡ codes "SEQUENCE {\n    v [ATTRIBUTE] INTEGER (0..255) DEFAULT 5,\n    x [ATTRIBUTE] [WHITESPACE COLLAPSE] UTF8String (CONSTRAINED BY {/* fixed 6F6E */}) DEFAULT \"on\"\n}"
unfolding reads spelled follow treated words_of is_white_space whole_number digits chars is_xml_char in_class
both-parts = refl

-- ---- USE-ORDER

order-is : printed_type [] 0 [] []
    (type (form.Sequence (plain (codes "order") ∷ plain (codes "a") ∷ part (codes "b") true Free [] ∷ [])) (mark.UseOrder ∷ [])
    (type (form.SequenceOf (plain []) 0 None) [] (type (form.Order (codes "a" ∷ codes "b" ∷ [])) [] [] ∷ []) ∷ boolean ∷ boolean ∷ []))
    ≡ codes "[USE-ORDER] SEQUENCE {\n    order SEQUENCE OF ENUMERATED { a, b },\n    a BOOLEAN,\n    b BOOLEAN OPTIONAL\n}"
order-is = refl

-- it stands between EMBED-VALUES and LIST
marks-in-order : instructions [] form.Bool (mark.List ∷ mark.UseOrder ∷ mark.EmbedValues ∷ mark.UseNil ∷ []) ≡ codes "[USE-NIL] [EMBED-VALUES] [USE-ORDER] [LIST] "
marks-in-order = refl
