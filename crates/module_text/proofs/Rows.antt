-- A text with each form, what it tells, and where it stands: all of it computes.
use Rattle.std.proofs.Common.{◌≡◌, ℕ, Some, None, List, [], ◌∷◌, ◌++◌, refl, codes}
use Rattle.base_trees.specs.Rose.{Rose, node, roses_of}
use Rattle.simple_types.specs.declared.simples.Class.TheVariants.{NmToken}
use Rattle.module_print.specs.Printed.{opening, closing}
use Rattle.module_text.specs.declared.bounds.PlainNumber.{PlainNumber}
use Rattle.module_text.specs.declared.bounds.PlainEnds.TheVariants as ends
use Rattle.module_text.specs.declared.bounds.PlainRange.TheVariants as range
use Rattle.module_text.specs.declared.marks.NameAs.TheVariants as as_
use Rattle.module_text.specs.declared.marks.PartMarkKind.TheVariants as part_mark
use Rattle.module_text.specs.declared.marks.PartMarkKind.{PartMarkKind}
use Rattle.module_text.specs.declared.marks.PartMark.{PartMark}
use Rattle.module_text.specs.declared.marks.TypeMarkKind.TheVariants as type_mark
use Rattle.module_text.specs.declared.marks.TypeMarkKind.{TypeMarkKind}
use Rattle.module_text.specs.declared.marks.TypeMark.{TypeMark}
use Rattle.module_text.specs.declared.values.PlainValue.{PlainValue}
use Rattle.module_text.specs.declared.values.PlainValue.TheVariants as value
use Rattle.module_text.specs.declared.values.PlainValueLabel.{PlainValueLabel}
use Rattle.module_text.specs.declared.values.Absence.TheVariants as absence
use Rattle.module_text.specs.declared.types.PlainName.{PlainName}
use Rattle.module_text.specs.declared.types.PlainPart.{PlainPart}
use Rattle.module_text.specs.declared.types.PlainForm.{PlainForm}
use Rattle.module_text.specs.declared.types.PlainForm.TheVariants as form
use Rattle.module_text.specs.declared.types.PlainLabel.{PlainLabel}
use Rattle.module_text.specs.declared.modules.PlainAssignment.{PlainAssignment}
use Rattle.module_text.specs.Texts.{text_of}
use Rattle.module_text.specs.Places.{placed}

abbrev name : ℕ → List ℕ → PlainName
name at text = record { at = at; name = text }

abbrev number : ℕ → List ℕ → PlainNumber
number at text = record { at = at; written = text }

abbrev mark : ℕ → PartMarkKind → PartMark
mark at kind = record { at = at; kind = kind }

abbrev own : ℕ → TypeMarkKind → TypeMark
own at kind = record { at = at; kind = kind }

abbrev value_at : ℕ → PlainValue → List (Rose PlainValueLabel) → Rose PlainValueLabel
value_at at v vs = node (record { at = at; value = v }) (roses_of vs)

abbrev type_at : ℕ → List TypeMark → PlainForm → List (Rose PlainLabel) → Rose PlainLabel
type_at at marks f ts = node (record { at = at; marks = marks; form = f }) (roses_of ts)

abbrev bare : ℕ → List ℕ → List PartMark → PlainPart
bare at identifier marks = record { at = at; identifier = identifier; marks = marks; fixed = None; absence = absence.Never }

-- with these places
abbrev told : List PlainAssignment
told =
    record {
      at = 65;
      reference = codes "A";
      marks = mark 71 (part_mark.Name as_.Uncapitalized) ∷ mark 95 (part_mark.Namespace (codes "urn:\"po")) ∷ [];
      body =
          type_at 121 []
          (form.Sequence (
          record { at = 136; identifier = codes "v"; marks = mark 138 part_mark.Attribute ∷ []; fixed = None; absence = absence.Default (value_at 175 (value.Number (codes "5")) []) }
          ∷ record { at = 182; identifier = codes "x"; marks = mark 184 part_mark.Attribute ∷ []; fixed = Some (record { at = 304; digits = codes "6F6E" }); absence = absence.Default (value_at 322 (value.Quoted (codes "on")) []) }
          ∷ record { at = 332; identifier = codes "w"; marks = []; fixed = None; absence = absence.Optional }
          ∷ bare 386 (codes "n") []
          ∷ bare 440 (codes "l") (mark 442 part_mark.Untagged ∷ [])
          ∷ record { at = 539; identifier = codes "u"; marks = []; fixed = None; absence = absence.Default (value_at 557 value.List (value_at 559 (value.Chosen (codes "alt")) (value_at 565 (value.Number (codes "1")) [] ∷ []) ∷ value_at 568 value.False [] ∷ [])) }
          ∷ []))
          (type_at 150 [] (form.Int (Some (range.Ends (ends.Both (number 159 (codes "0")) (number 162 (codes "255")))))) []
          ∷ type_at 196 (own 196 type_mark.Collapse ∷ []) (form.Utf8 (Some (ends.From (number 236 (codes "1")) 239)) NmToken) []
          ∷ type_at 334 (own 334 (type_mark.Text (codes "x7") (as_.Quoted (codes "7"))) ∷ []) (form.Words (name 364 (codes "a") ∷ name 367 (codes "x7") ∷ [])) []
          ∷ type_at 388 (own 388 type_mark.UseNumber ∷ []) (form.Numbers (
          record { identifier = name 414 (codes "int-5"); number = number 420 (codes "-5") }
          ∷ record { identifier = name 425 (codes "int5"); number = number 430 (codes "5") } ∷ [])) []
          ∷ type_at 453 [] (form.SequenceOf (Some (ends.One (number 469 (codes "2")))) (bare 476 (codes "c") []))
          (type_at 478 [] (form.Choice (bare 495 (codes "b") [] ∷ bare 508 (codes "d") [] ∷ []))
          (type_at 497 [] (form.Ref (name 497 (codes "B"))) []
          ∷ type_at 510 [] (form.Int (Some (range.To (number 524 (codes "-1"))))) [] ∷ []) ∷ [])
          ∷ type_at 541 [] form.Bool []
          ∷ []);
    }
    ∷ record { at = 578; reference = codes "B"; marks = []; body = type_at 584 [] (form.Sequence []) [] }
    ∷ []

-- and without them
abbrev unplaced : List PlainAssignment
unplaced =
    record {
      at = 0;
      reference = codes "A";
      marks = mark 0 (part_mark.Name as_.Uncapitalized) ∷ mark 0 (part_mark.Namespace (codes "urn:\"po")) ∷ [];
      body =
          type_at 0 []
          (form.Sequence (
          record { at = 0; identifier = codes "v"; marks = mark 0 part_mark.Attribute ∷ []; fixed = None; absence = absence.Default (value_at 0 (value.Number (codes "5")) []) }
          ∷ record { at = 0; identifier = codes "x"; marks = mark 0 part_mark.Attribute ∷ []; fixed = Some (record { at = 0; digits = codes "6F6E" }); absence = absence.Default (value_at 0 (value.Quoted (codes "on")) []) }
          ∷ record { at = 0; identifier = codes "w"; marks = []; fixed = None; absence = absence.Optional }
          ∷ bare 0 (codes "n") []
          ∷ bare 0 (codes "l") (mark 0 part_mark.Untagged ∷ [])
          ∷ record { at = 0; identifier = codes "u"; marks = []; fixed = None; absence = absence.Default (value_at 0 value.List (value_at 0 (value.Chosen (codes "alt")) (value_at 0 (value.Number (codes "1")) [] ∷ []) ∷ value_at 0 value.False [] ∷ [])) }
          ∷ []))
          (type_at 0 [] (form.Int (Some (range.Ends (ends.Both (number 0 (codes "0")) (number 0 (codes "255")))))) []
          ∷ type_at 0 (own 0 type_mark.Collapse ∷ []) (form.Utf8 (Some (ends.From (number 0 (codes "1")) 0)) NmToken) []
          ∷ type_at 0 (own 0 (type_mark.Text (codes "x7") (as_.Quoted (codes "7"))) ∷ []) (form.Words (name 0 (codes "a") ∷ name 0 (codes "x7") ∷ [])) []
          ∷ type_at 0 (own 0 type_mark.UseNumber ∷ []) (form.Numbers (
          record { identifier = name 0 (codes "int-5"); number = number 0 (codes "-5") }
          ∷ record { identifier = name 0 (codes "int5"); number = number 0 (codes "5") } ∷ [])) []
          ∷ type_at 0 [] (form.SequenceOf (Some (ends.One (number 0 (codes "2")))) (bare 0 (codes "c") []))
          (type_at 0 [] (form.Choice (bare 0 (codes "b") [] ∷ bare 0 (codes "d") [] ∷ []))
          (type_at 0 [] (form.Ref (name 0 (codes "B"))) []
          ∷ type_at 0 [] (form.Int (Some (range.To (number 0 (codes "-1"))))) [] ∷ []) ∷ [])
          ∷ type_at 0 [] form.Bool []
          ∷ []);
    }
    ∷ record { at = 0; reference = codes "B"; marks = []; body = type_at 0 [] (form.Sequence []) [] }
    ∷ []

text-is : text_of told ≡ opening ++ (
    codes "A ::= [NAME AS UNCAPITALIZED] [NAMESPACE AS \"urn:\"\"po\"] SEQUENCE {\n"
    ++ codes "    v [ATTRIBUTE] INTEGER (0..255) DEFAULT 5,\n"
    ++ codes "    x [ATTRIBUTE] [WHITESPACE COLLAPSE] UTF8String (SIZE (1..MAX)) (CONSTRAINED BY {/* NMTOKEN */}) (CONSTRAINED BY {/* fixed 6F6E */}) DEFAULT \"on\",\n"
    ++ codes "    w [TEXT:x7 AS \"7\"] ENUMERATED { a, x7 } OPTIONAL,\n"
    ++ codes "    n [USE-NUMBER] ENUMERATED { int-5(-5), int5(5) },\n"
    ++ codes "    l [UNTAGGED] SEQUENCE (SIZE (2)) OF c CHOICE {\n"
    ++ codes "        b B,\n"
    ++ codes "        d INTEGER (MIN..-1)\n"
    ++ codes "    },\n"
    ++ codes "    u BOOLEAN DEFAULT { alt : 1, FALSE }\n"
    ++ codes "}\n"
    ++ codes "B ::= SEQUENCE {}\n") ++ closing
text-is = refl

places-are : placed unplaced ≡ told
places-are = refl
