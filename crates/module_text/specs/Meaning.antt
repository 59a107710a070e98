-- The assignments that a plain text states. They are a module if the text has no fault.
use Rattle.std.specs.Prelude.{ℕ, ◌+◌, Bool, true, false, Option, Some, None, List, [], ◌∷◌, map, unwrap_or}
use Rattle.base_trees.specs.Rose.{Rose, node, Roses, none, more, list_of}
use Rattle.base_texts.specs.declared.white_space.WhiteSpace.TheVariants as white
use Rattle.simple_types.specs.declared.simples.Class.{Class}
use Rattle.simple_types.specs.declared.standards.Standard.{Standard}
use Rattle.simple_types.specs.declared.standards.Standard.TheVariants.{Free, Default, Fixed}
use Rattle.simple_types.specs.Space.{Space}
use Rattle.asn_types.specs.declared.marks.Instruction.{Instruction}
use Rattle.asn_types.specs.declared.marks.Instruction.TheVariants as mark
use Rattle.asn_types.specs.declared.types.Component.{Component}
use Rattle.asn_types.specs.declared.types.Form.{Form}
use Rattle.asn_types.specs.declared.types.Form.TheVariants as meant
use Rattle.asn_types.specs.declared.types.TypeLabel.{TypeLabel}
use Rattle.asn_types.specs.declared.modules.Assignment.{Assignment}
use Rattle.module_text.specs.declared.marks.PartMark.{PartMark}
use Rattle.module_text.specs.declared.marks.PartMarkKind.{PartMarkKind}
use Rattle.module_text.specs.declared.marks.PartMarkKind.TheVariants as part_mark
use Rattle.module_text.specs.declared.marks.TypeMark.{TypeMark}
use Rattle.module_text.specs.declared.marks.TypeMarkKind.{TypeMarkKind}
use Rattle.module_text.specs.declared.marks.TypeMarkKind.TheVariants as type_mark
use Rattle.module_text.specs.declared.values.PlainOctets.{PlainOctets}
use Rattle.module_text.specs.declared.values.Absence.{Absence}
use Rattle.module_text.specs.declared.values.Absence.TheVariants as absence
use Rattle.module_text.specs.declared.types.PlainName.{PlainName}
use Rattle.module_text.specs.declared.types.PlainPart.{PlainPart}
use Rattle.module_text.specs.declared.types.PlainForm.{PlainForm}
use Rattle.module_text.specs.declared.types.PlainForm.TheVariants as form
use Rattle.module_text.specs.declared.types.PlainLabel.{PlainLabel}
use Rattle.module_text.specs.declared.modules.PlainAssignment.{PlainAssignment}
use Rattle.module_text.specs.Texts.{parts_of}
use Rattle.module_text.specs.declared.spots.Spot.{Spot}
use Rattle.module_text.specs.declared.spots.Spot.TheVariants.{Elsewhere}
use Rattle.module_text.specs.Told.{Bounds, Sizes, range_of, sizes_of, told_name, words_of}
use Rattle.module_text.specs.Resolving.{number_of, resolve}
use Rattle.module_text.specs.Simple.{numbers_of, is_order_item}
use Rattle.module_text.specs.Defaults.{default_told, octets_of}
use Rattle.module_text.specs.Orders.{may_be_absent}
use Rattle.module_text.specs.Marks.{item_number}
use Rattle.module_text.specs.Faults.{space_at, part_spot}

abbrev pub part_mark_meant : List ℕ → PartMarkKind → Instruction
part_mark_meant generated part_mark.Attribute = mark.Attribute
part_mark_meant generated part_mark.Untagged = mark.Untagged
part_mark_meant generated (part_mark.Name name) = mark.Name (told_name generated name)
part_mark_meant generated (part_mark.Namespace space) = mark.Namespace space

abbrev pub part_marks_meant : List ℕ → List PartMark → List Instruction
part_marks_meant generated marks = map (λ (m : PartMark). part_mark_meant generated m.kind) marks

abbrev pub type_mark_meant : Spot → PlainForm → TypeMarkKind → Instruction
type_mark_meant spot f type_mark.UseNil = mark.UseNil
type_mark_meant spot f type_mark.EmbedValues = mark.EmbedValues
type_mark_meant spot f type_mark.UseOrder = mark.UseOrder
type_mark_meant spot f type_mark.List = mark.List
type_mark_meant spot f type_mark.UseUnion = mark.UseUnion
type_mark_meant spot f type_mark.UseNumber = mark.UseNumber
type_mark_meant spot f type_mark.Replace = mark.WhiteSpace white.Replace
type_mark_meant spot f type_mark.Collapse = mark.WhiteSpace white.Collapse
type_mark_meant spot f (type_mark.Text identifier text) = mark.Text (unwrap_or (item_number spot f 0 identifier) 0) (told_name identifier text)

abbrev pub type_marks_meant : Spot → PlainForm → List TypeMark → List Instruction
type_marks_meant spot f marks = map (λ (m : TypeMark). type_mark_meant spot f m.kind) marks

abbrev pub names_of : List PlainName → List (List ℕ)
names_of identifiers = map (λ (i : PlainName). i.name) identifiers

abbrev pub words_meant : Bool → List TypeMark → List PlainName → Form
words_meant true marks identifiers = meant.Order (names_of identifiers)
words_meant false marks identifiers = meant.Words (names_of identifiers) (words_of marks identifiers)

abbrev pub int_meant : Option Bounds → Form
int_meant None = meant.Int None None
int_meant (Some bounds) = meant.Int bounds.0 bounds.1

abbrev pub utf8_meant : Option Sizes → Class → Form
utf8_meant None class = meant.Utf8 0 None class
utf8_meant (Some sizes) class = meant.Utf8 sizes.0 sizes.1 class

abbrev pub list_meant : Option Sizes → Component → Form
list_meant None part = meant.SequenceOf part 0 None
list_meant (Some sizes) part = meant.SequenceOf part sizes.0 sizes.1

-- ---- default and fixed values

abbrev pub default_meant : Option Space → Rose PlainLabel → Absence → Standard
default_meant space t absence.Never = Free
default_meant space t absence.Optional = Free
default_meant space (node l ts) (absence.Default v) = elim space [
  | None ↦ Free
  | Some s ↦ elim (default_told s l (list_of ts) v) [ None ↦ Free | Some text ↦ Default text ]
]

abbrev pub standard_meant : Option Space → Rose PlainLabel → Option PlainOctets → Absence → Standard
standard_meant space t None absence = default_meant space t absence
standard_meant space t (Some octets) absence = Fixed (unwrap_or (octets_of octets.digits) [])

module _ (P : List PlainAssignment) where
  abbrev pub component_meant : Spot → PlainPart → Rose PlainLabel → Component
  component_meant spot part t = record {
    identifier = part.identifier;
    optional = may_be_absent part.absence;
    standard = standard_meant (space_at P spot part.marks t) (resolve P t) part.fixed part.absence;
    marks = part_marks_meant part.identifier part.marks;
  }

  -- The parts from the one with number i on, with these types.
  abbrev pub components_meant : Spot → PlainLabel → ℕ → List PlainPart → Roses PlainLabel → List Component
  components_meant spot l i [] ts = []
  components_meant spot l i (part ∷ parts) none = []
  components_meant spot l i (part ∷ parts) (more t ts) =
      component_meant (part_spot spot l i part) part t ∷ components_meant spot l (i + 1) parts ts

  abbrev pub item_meant : Spot → PlainPart → Roses PlainLabel → Component
  item_meant spot part none = record { identifier = part.identifier; optional = false; standard = Free; marks = part_marks_meant part.identifier part.marks }
  item_meant spot part (more t ts) = component_meant spot part t

  abbrev pub form_meant : Spot → PlainLabel → Roses PlainLabel → Form
  form_meant spot l ts = elim l.form [
    | form.Bool ↦ meant.Bool
    | form.Int r ↦ int_meant (range_of r)
    | form.Numbers items ↦ meant.Numbers (unwrap_or (numbers_of items) [])
    | form.Words identifiers ↦ words_meant (is_order_item spot) l.marks identifiers
    | form.Utf8 size class ↦ utf8_meant (sizes_of size) class
    | form.Sequence components ↦ meant.Sequence (components_meant spot l 0 components ts)
    | form.Choice alternatives ↦ meant.Choice (components_meant spot l 0 alternatives ts)
    | form.SequenceOf size item ↦
        list_meant (sizes_of size) (item_meant (part_spot spot l 0 item) item ts)
    | form.Ref reference ↦ meant.Ref (unwrap_or (number_of P reference.name) 0)
  ]

  abbrev mutual
    pub type_meant : Spot → Rose PlainLabel → Rose TypeLabel
    type_meant spot (node l ts) =
        node
        (record { form = form_meant spot l ts; marks = type_marks_meant spot l.form l.marks })
        (types_meant spot l 0 (parts_of l.form) ts)

    pub types_meant : Spot → PlainLabel → ℕ → List PlainPart → Roses PlainLabel → Roses TypeLabel
    types_meant spot l i parts none = none
    types_meant spot l i parts (more t ts) =
        elim parts [
          | [] ↦ none
          | part ∷ others ↦ more (type_meant (part_spot spot l i part) t) (types_meant spot l (i + 1) others ts)
        ]

  abbrev pub assignment_meant : PlainAssignment → Assignment
  assignment_meant a = record {
    reference = a.reference;
    marks = part_marks_meant a.reference a.marks;
    body = type_meant Elsewhere a.body;
  }

abbrev pub module_meant : List PlainAssignment → List Assignment
module_meant P = map (assignment_meant P) P
