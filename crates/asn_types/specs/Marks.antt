-- Encoding instructions.
use Rattle.std.specs.Prelude.{Bool, true, false, List, [], ◌∷◌}
use Rattle.std.specs.List.{list_any}
use Rattle.base_texts.specs.declared.white_space.WhiteSpace.{WhiteSpace}
use Rattle.base_texts.specs.declared.white_space.WhiteSpace.TheVariants.{Preserve}
use Rattle.asn_types.specs.declared.marks.Instruction.{Instruction}
use Rattle.asn_types.specs.declared.marks.Instruction.TheVariants as mark

abbrev pub is_attribute : Instruction → Bool
is_attribute mark.Attribute = true
is_attribute _ = false

abbrev pub is_untagged : Instruction → Bool
is_untagged mark.Untagged = true
is_untagged _ = false

abbrev pub is_use_nil : Instruction → Bool
is_use_nil mark.UseNil = true
is_use_nil _ = false

abbrev pub is_embed_values : Instruction → Bool
is_embed_values mark.EmbedValues = true
is_embed_values _ = false

abbrev pub is_use_order : Instruction → Bool
is_use_order mark.UseOrder = true
is_use_order _ = false

abbrev pub is_list : Instruction → Bool
is_list mark.List = true
is_list _ = false

abbrev pub is_use_union : Instruction → Bool
is_use_union mark.UseUnion = true
is_use_union _ = false

abbrev pub has_attribute : List Instruction → Bool
has_attribute marks = list_any is_attribute marks

abbrev pub has_untagged : List Instruction → Bool
has_untagged marks = list_any is_untagged marks

abbrev pub has_use_nil : List Instruction → Bool
has_use_nil marks = list_any is_use_nil marks

abbrev pub has_embed_values : List Instruction → Bool
has_embed_values marks = list_any is_embed_values marks

abbrev pub has_use_order : List Instruction → Bool
has_use_order marks = list_any is_use_order marks

abbrev pub has_list : List Instruction → Bool
has_list marks = list_any is_list marks

abbrev pub has_use_union : List Instruction → Bool
has_use_union marks = list_any is_use_union marks

-- The treatment of the first WHITESPACE.
abbrev pub white_space_of : List Instruction → WhiteSpace
white_space_of [] = Preserve
white_space_of (mark.WhiteSpace how ∷ marks) = how
white_space_of (_ ∷ marks) = white_space_of marks
