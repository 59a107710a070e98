-- The meaning of the pieces of a plain text: numbers, names next to an identifier, bounds, words, encoding instructions.
use Rattle.std.specs.Prelude.{ℕ, ◌^◌, Bool, true, false, ◌&&◌, nat_lt, ℤ, pos, Option, Some, None, List, [], ◌∷◌, bytes_eq, chars, if◌then◌else◌}
use Rattle.std.specs.List.{list_all, list_any, filter_map}
use Rattle.std.specs.Str.{is_utf8}
use Rattle.std.specs.Fmt.{signed_decimal}
use Rattle.base_texts.specs.declared.white_space.WhiteSpace.{WhiteSpace}
use Rattle.base_texts.specs.declared.white_space.WhiteSpace.TheVariants.{Preserve, Replace, Collapse}
use Rattle.base_texts.specs.Characters.{is_xml_char}
use Rattle.simple_types.specs.Lexical.{is_128_bits, whole_number}
use Rattle.asn_names.specs.declared.restoration.NameForm.{NameForm}
use Rattle.asn_names.specs.declared.restoration.NameForm.TheVariants as name_form
use Rattle.asn_names.specs.Restoring.{capitalized, uncapitalized, form_of}
use Rattle.module_text.specs.declared.bounds.PlainNumber.{PlainNumber}
use Rattle.module_text.specs.declared.bounds.PlainEnds.{PlainEnds}
use Rattle.module_text.specs.declared.bounds.PlainEnds.TheVariants as ends
use Rattle.module_text.specs.declared.bounds.PlainRange.{PlainRange}
use Rattle.module_text.specs.declared.bounds.PlainRange.TheVariants as range
use Rattle.module_text.specs.declared.marks.NameAs.{NameAs}
use Rattle.module_text.specs.declared.marks.NameAs.TheVariants as as_
use Rattle.module_text.specs.declared.marks.PartMarkKind.TheVariants as part_mark
use Rattle.module_text.specs.declared.marks.PartMark.{PartMark}
use Rattle.module_text.specs.declared.marks.TypeMarkKind.{TypeMarkKind}
use Rattle.module_text.specs.declared.marks.TypeMarkKind.TheVariants as type_mark
use Rattle.module_text.specs.declared.marks.TypeMark.{TypeMark}
use Rattle.module_text.specs.declared.types.PlainName.{PlainName}
use Rattle.module_text.specs.declared.spots.Alone.{Alone}
use Rattle.module_text.specs.declared.spots.Alone.TheVariants as alone

-- ---- numbers

abbrev pub if_128_bits : Option ℤ → Option ℤ
if_128_bits None = None
if_128_bits (Some z) = if is_128_bits z then Some z else None

-- The number, if it has 128 bits.
abbrev pub whole_of : PlainNumber → Option ℤ
whole_of n = if_128_bits (whole_number n.written)

-- The number is written as it is printed: without leading zeros, and zero without a sign.
abbrev pub is_printed : Option ℤ → List ℕ → Bool
is_printed None written = false
is_printed (Some z) written = bytes_eq (signed_decimal z) written

abbrev pub is_printed_number : PlainNumber → Bool
is_printed_number n = is_printed (whole_of n) n.written

-- ---- bounds: a least one, if there is one, and a greatest one; none if a number has more than 128 bits

abbrev pub Bounds : Type 0
Bounds = Option ℤ × Option ℤ

abbrev pub just : Option ℤ → Option Bounds
just None = None
just (Some z) = Some (Some z, Some z)

abbrev pub least_alone : Option ℤ → Option Bounds
least_alone None = None
least_alone (Some z) = Some (Some z, None)

abbrev pub greatest_alone : Option ℤ → Option Bounds
greatest_alone None = None
greatest_alone (Some z) = Some (None, Some z)

abbrev pub from_to : Option ℤ → Option ℤ → Option Bounds
from_to (Some y) (Some z) = Some (Some y, Some z)
from_to _ _ = None

abbrev pub bounds_of : PlainEnds → Option Bounds
bounds_of (ends.One number) = just (whole_of number)
bounds_of (ends.Both least greatest) = from_to (whole_of least) (whole_of greatest)
bounds_of (ends.From least max_at) = least_alone (whole_of least)

-- The bounds of an INTEGER. Without a constraint there are no bounds.
abbrev pub range_of : Option PlainRange → Option Bounds
range_of None = Some (None, None)
range_of (Some (range.Ends e)) = bounds_of e
range_of (Some (range.To greatest)) = greatest_alone (whole_of greatest)

abbrev pub size_of : Option ℤ → Option ℕ
size_of (Some (pos n)) = if nat_lt n (2 ^ 32) then Some n else None
size_of _ = None

abbrev pub Sizes : Type 0
Sizes = ℕ × Option ℕ

abbrev pub sizes_from : Option ℕ → Option Sizes
sizes_from None = None
sizes_from (Some n) = Some (n, None)

abbrev pub sizes_to : Option ℕ → Option ℕ → Option Sizes
sizes_to (Some m) (Some n) = Some (m, Some n)
sizes_to _ _ = None

-- The number of characters or items, in 32 bits. Without a constraint it is any number.
abbrev pub sizes_of : Option PlainEnds → Option Sizes
sizes_of None = Some (0, None)
sizes_of (Some (ends.One number)) = sizes_to (size_of (whole_of number)) (size_of (whole_of number))
sizes_of (Some (ends.Both least greatest)) = sizes_to (size_of (whole_of least)) (size_of (whole_of greatest))
sizes_of (Some (ends.From least max_at)) = sizes_from (size_of (whole_of least))

-- ---- names

-- The bytes are UTF-8 of XML characters only.
abbrev pub is_xml_text : List ℕ → Bool
is_xml_text text = is_utf8 text && list_all is_xml_char (chars text)

-- The name that is given next to an identifier or a reference.
abbrev pub told_name : List ℕ → NameAs → List ℕ
told_name generated as_.Capitalized = capitalized generated
told_name generated as_.Uncapitalized = uncapitalized generated
told_name generated (as_.Quoted name) = name

abbrev pub is_form : NameAs → Option NameForm → Bool
is_form as_.Capitalized (Some name_form.Capitalized) = true
is_form as_.Uncapitalized (Some name_form.Uncapitalized) = true
is_form (as_.Quoted name) (Some name_form.Quoted) = true
is_form _ _ = false

abbrev pub has_xml_characters : NameAs → Bool
has_xml_characters (as_.Quoted name) = is_xml_text name
has_xml_characters _ = true

-- The name is written in the form that restores it, with XML characters only. A name that equals the generated name isn't written.
abbrev pub is_told_so : List ℕ → NameAs → Bool
is_told_so generated name = is_form name (form_of generated (told_name generated name)) && has_xml_characters name

-- ---- encoding instructions

abbrev pub is_attribute : PartMark → Bool
is_attribute m = elim m.kind [ part_mark.Attribute ↦ true | _ ↦ false ]

abbrev pub is_untagged : PartMark → Bool
is_untagged m = elim m.kind [ part_mark.Untagged ↦ true | _ ↦ false ]

abbrev pub is_name : PartMark → Bool
is_name m = elim m.kind [ part_mark.Name name ↦ true | _ ↦ false ]

abbrev pub has_attribute : List PartMark → Bool
has_attribute marks = list_any is_attribute marks

abbrev pub has_untagged : List PartMark → Bool
has_untagged marks = list_any is_untagged marks

-- An item or an alternative of a simple type has only NAME.
abbrev pub have_names_alone : List PartMark → Bool
have_names_alone marks = list_all is_name marks

abbrev pub is_use_nil : TypeMark → Bool
is_use_nil m = elim m.kind [ type_mark.UseNil ↦ true | _ ↦ false ]

abbrev pub is_embed_values : TypeMark → Bool
is_embed_values m = elim m.kind [ type_mark.EmbedValues ↦ true | _ ↦ false ]

abbrev pub is_use_order : TypeMark → Bool
is_use_order m = elim m.kind [ type_mark.UseOrder ↦ true | _ ↦ false ]

abbrev pub is_list : TypeMark → Bool
is_list m = elim m.kind [ type_mark.List ↦ true | _ ↦ false ]

abbrev pub is_use_union : TypeMark → Bool
is_use_union m = elim m.kind [ type_mark.UseUnion ↦ true | _ ↦ false ]

abbrev pub is_no_text : TypeMark → Bool
is_no_text m = elim m.kind [ type_mark.Text identifier text ↦ false | _ ↦ true ]

abbrev pub has_use_nil : List TypeMark → Bool
has_use_nil marks = list_any is_use_nil marks

abbrev pub has_embed_values : List TypeMark → Bool
has_embed_values marks = list_any is_embed_values marks

abbrev pub has_use_order : List TypeMark → Bool
has_use_order marks = list_any is_use_order marks

abbrev pub has_list : List TypeMark → Bool
has_list marks = list_any is_list marks

abbrev pub has_use_union : List TypeMark → Bool
has_use_union marks = list_any is_use_union marks

-- ---- what they state of a simple type

abbrev pub alone_as : TypeMarkKind → Alone
alone_as type_mark.UseNumber = alone.UseNumber
alone_as type_mark.List = alone.List
alone_as type_mark.UseUnion = alone.UseUnion
alone_as type_mark.Replace = alone.WhiteSpace Replace
alone_as type_mark.Collapse = alone.WhiteSpace Collapse
alone_as _ = alone.Other

abbrev pub beside : Alone → TypeMarkKind → Alone
beside alone.Nothing kind = alone_as kind
beside seen kind = alone.Other

abbrev pub with_mark : Alone → TypeMark → Alone
with_mark seen m = if is_no_text m then beside seen m.kind else seen

-- What the instructions state after others that state this.
abbrev pub alone_behind : Alone → List TypeMark → Alone
alone_behind seen [] = seen
alone_behind seen (m ∷ marks) = alone_behind (with_mark seen m) marks

abbrev pub told_alone : List TypeMark → Alone
told_alone marks = alone_behind alone.Nothing marks

abbrev pub is_nothing : Alone → Bool
is_nothing alone.Nothing = true
is_nothing _ = false

abbrev pub is_number_alone : Alone → Bool
is_number_alone alone.UseNumber = true
is_number_alone _ = false

abbrev pub is_list_alone : Alone → Bool
is_list_alone alone.List = true
is_list_alone _ = false

abbrev pub is_union_alone : Alone → Bool
is_union_alone alone.UseUnion = true
is_union_alone _ = false

-- The treatment of white space, if the instructions state nothing else.
abbrev pub white_space_alone : Alone → Option WhiteSpace
white_space_alone alone.Nothing = Some Preserve
white_space_alone (alone.WhiteSpace how) = Some how
white_space_alone _ = None

-- ---- words

-- What TEXT states of the item with an identifier.
pub record Said : Type 0 where
  pub identifier : List ℕ
  pub text : NameAs

abbrev pub said : TypeMark → Option Said
said m = elim m.kind [ type_mark.Text identifier text ↦ Some (record { identifier = identifier; text = text }) | _ ↦ None ]

-- The texts that items with these identifiers represent. For each item it is the text of the next TEXT if that is for this item, or
-- else the identifier.
abbrev pub words_said : List Said → List PlainName → List (List ℕ)
words_said texts [] = []
words_said texts (i ∷ is) = elim texts [
  | [] ↦ i.name ∷ words_said [] is
  | t ∷ others ↦
      if bytes_eq t.identifier i.name then told_name i.name t.text ∷ words_said others is else i.name ∷ words_said (t ∷ others) is
]

abbrev pub words_of : List TypeMark → List PlainName → List (List ℕ)
words_of marks identifiers = words_said (filter_map said marks) identifiers
