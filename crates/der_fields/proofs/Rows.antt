-- Values written out, and where octets stop: what the definitions say of each computes.
use Rattle.std.proofs.Common.{◌≡◌, true, false, pos, negsuc, Some, [], ◌∷◌, refl, codes, Ok}
use Rattle.std.specs.Str.{is_utf8, chars}
use Rattle.std.specs.Char.{encode_utf8}
use Rattle.std.specs.Fmt.{digits}
use Rattle.base_texts.specs.Characters.{is_xml_char}
use Rattle.base_texts.specs.WhiteSpace.{treated, words_of, is_white_space}
use Rattle.simple_types.specs.declared.labels.ValueLabel.TheVariants as value
use Rattle.simple_types.specs.Reading.{reads, spelled, taken_by, spelled_by}
use Rattle.simple_types.specs.Lexical.{whole_number, in_class}
use Rattle.asn_types.specs.Refs.{follow}
use Rattle.asn_values.specs.Values.{child_count, count_in}
use Rattle.base_codecs.specs.Reading.{window_at, ended_at, left_at, entered_at}
use Rattle.base_codecs.specs.Sequences.{at_most_at, parts_at, alternative_at}
use Rattle.der_fields.specs.declared.stops.Why.TheVariants as why
use Rattle.der_fields.specs.Octets.{octets_from, high_sevens}
use Rattle.der_fields.specs.FieldsReading.{stop_at, raw_at, length_from, length_at, sized_at, tagged_at, expected_at}
use Rattle.per_fields.specs.Levels.{near_levels, near_levels_of, levels_from}
use Rattle.per_fields.specs.Owning.{same_value, same_values, owns}
use Rattle.der_fields.specs.Encoding.{der, each_der, distinguished}
use Rattle.der_fields.specs.Reading.{bool_at, whole_at, int_at, item_at, enum_at, text_at, sequence_at, choice_at, sequence_of_at, contents_at, headed_at, owned_at, kept_at, node_at, root_at}
use Rattle.der_fields.specs.Laws.{reading_of, Stops}
use Rattle.der_fields.proofs.Samples.{leaf, tree, orders, order, others, chosen, standards}

-- WRITTEN
-- the document of an order: a constructed tag takes the place of the SEQUENCE OF, whose items are plain SEQUENCEs
order-written : distinguished orders 0 (order) ≡ 0x30 ∷ 0x0E ∷ 0x80 ∷ 0x01 ∷ 0x07 ∷ 0xA1 ∷ 0x09 ∷ 0x30 ∷ 0x07 ∷ 0x80 ∷ 0x02 ∷ 0x41 ∷ 0x31 ∷ 0x81 ∷ 0x01 ∷ 0x03 ∷ []
unfolding high_sevens octets_from der each_der follow
order-written = refl

-- texts between child elements, and an alternative of a CHOICE that has no octets of its own
mixed : distinguished others 12 (tree (value.Sequence (true ∷ true ∷ [])) (tree value.SequenceOf (leaf (value.Utf8 (codes "Hi ")) ∷ leaf (value.Utf8 (codes "!")) ∷ []) ∷ tree value.SequenceOf (tree (value.Choice 0) (leaf (value.Utf8 (codes "x")) ∷ []) ∷ []) ∷ [])) ≡ 0x30 ∷ 0x0F ∷ 0xA0 ∷ 0x08 ∷ 0x0C ∷ 0x03 ∷ 0x48 ∷ 0x69 ∷ 0x20 ∷ 0x0C ∷ 0x01 ∷ 0x21 ∷ 0xA1 ∷ 0x03 ∷ 0x80 ∷ 0x01 ∷ 0x78 ∷ []
unfolding high_sevens octets_from der each_der follow
mixed = refl

flag : distinguished chosen 0 (leaf (value.Bool true)) ≡ 0x01 ∷ 0x01 ∷ 0xFF ∷ []
unfolding high_sevens octets_from der each_der follow
flag = refl

flag-false : distinguished chosen 0 (leaf (value.Bool false)) ≡ 0x01 ∷ 0x01 ∷ 0x00 ∷ []
unfolding high_sevens octets_from der each_der follow
flag-false = refl

-- a CHOICE at the root has the identifier of its alternative
union-seven : distinguished others 3 (tree (value.Choice 0) (leaf (value.Int (pos 7)) ∷ [])) ≡ 0x80 ∷ 0x01 ∷ 0x07 ∷ []
unfolding high_sevens octets_from der each_der follow
union-seven = refl

-- an item that has a number, and one that has its place
number-minus_five : distinguished others 9 (leaf (value.Enum 0)) ≡ 0x0A ∷ 0x01 ∷ 0xFB ∷ []
unfolding high_sevens octets_from der each_der follow
number-minus_five = refl

enumerated-red : distinguished others 8 (leaf (value.Enum 2)) ≡ 0x0A ∷ 0x01 ∷ 0x02 ∷ []
unfolding high_sevens octets_from der each_der follow
enumerated-red = refl

unbounded-128 : distinguished others 1 (leaf (value.Int (pos 128))) ≡ 0x02 ∷ 0x02 ∷ 0x00 ∷ 0x80 ∷ []
unfolding high_sevens octets_from der each_der follow
unbounded-128 = refl

unbounded-minus : distinguished others 1 (leaf (value.Int (negsuc 128))) ≡ 0x02 ∷ 0x02 ∷ 0xFF ∷ 0x7F ∷ []
unfolding high_sevens octets_from der each_der follow
unbounded-minus = refl

text-empty : distinguished others 2 (leaf (value.Utf8 [])) ≡ 0x0C ∷ 0x00 ∷ []
unfolding high_sevens octets_from der each_der follow
text-empty = refl

empty : distinguished others 5 (leaf (value.Sequence [])) ≡ 0x30 ∷ 0x00 ∷ []
unfolding high_sevens octets_from der each_der follow
empty = refl

nillable-nil : distinguished others 6 (leaf (value.Sequence (false ∷ []))) ≡ 0x30 ∷ 0x00 ∷ []
unfolding high_sevens octets_from der each_der follow
nillable-nil = refl

nillable-five : distinguished others 6 (tree (value.Sequence (true ∷ [])) (leaf (value.Int (pos 5)) ∷ [])) ≡ 0x30 ∷ 0x03 ∷ 0x80 ∷ 0x01 ∷ 0x05 ∷ []
unfolding high_sevens octets_from der each_der follow
nillable-five = refl

list : distinguished others 7 (tree value.SequenceOf (leaf (value.Int (pos 1)) ∷ leaf (value.Int (pos 255)) ∷ [])) ≡ 0x30 ∷ 0x07 ∷ 0x02 ∷ 0x01 ∷ 0x01 ∷ 0x02 ∷ 0x02 ∷ 0x00 ∷ 0xFF ∷ []
unfolding high_sevens octets_from der each_der follow
list = refl

-- the tag of a CHOICE is explicit
explicit-count : distinguished chosen 1 (tree (value.Sequence (true ∷ false ∷ [])) (tree (value.Choice 1) (leaf (value.Int (pos 5)) ∷ []) ∷ [])) ≡ 0x30 ∷ 0x05 ∷ 0xA0 ∷ 0x03 ∷ 0x81 ∷ 0x01 ∷ 0x05 ∷ []
unfolding high_sevens octets_from der each_der follow
explicit-count = refl

standard-none : distinguished standards 0 (leaf (value.Sequence (false ∷ false ∷ []))) ≡ 0x30 ∷ 0x00 ∷ []
unfolding high_sevens octets_from der each_der follow
standard-none = refl

standard-six : distinguished standards 0 (tree (value.Sequence (true ∷ false ∷ [])) (leaf (value.Int (pos 6)) ∷ [])) ≡ 0x30 ∷ 0x03 ∷ 0x80 ∷ 0x01 ∷ 0x06 ∷ []
unfolding high_sevens octets_from der each_der follow
standard-six = refl

standard-required : distinguished standards 1 (tree (value.Sequence (true ∷ [])) (leaf (value.Utf8 (codes "on")) ∷ [])) ≡ 0x30 ∷ 0x04 ∷ 0x80 ∷ 0x02 ∷ 0x6F ∷ 0x6E ∷ []
unfolding high_sevens octets_from der each_der follow
standard-required = refl

ordered-both : distinguished standards 2 (tree (value.Sequence (true ∷ true ∷ true ∷ [])) (tree value.SequenceOf (leaf (value.Enum 1) ∷ leaf (value.Enum 0) ∷ []) ∷ leaf (value.Bool false) ∷ leaf (value.Bool true) ∷ [])) ≡ 0x30 ∷ 0x0E ∷ 0xA0 ∷ 0x06 ∷ 0x0A ∷ 0x01 ∷ 0x01 ∷ 0x0A ∷ 0x01 ∷ 0x00 ∷ 0x81 ∷ 0x01 ∷ 0x00 ∷ 0x82 ∷ 0x01 ∷ 0xFF ∷ []
unfolding high_sevens octets_from der each_der follow
ordered-both = refl

-- READ
order-read : reading_of orders 0 (0x30 ∷ 0x0E ∷ 0x80 ∷ 0x01 ∷ 0x07 ∷ 0xA1 ∷ 0x09 ∷ 0x30 ∷ 0x07 ∷ 0x80 ∷ 0x02 ∷ 0x41 ∷ 0x31 ∷ 0x81 ∷ 0x01 ∷ 0x03 ∷ []) ≡ Some (Ok (order, record { at = 16; nodes = 6 }))
unfolding near_levels near_levels_of levels_from chars encode_utf8 digits is_xml_char same_value same_values owns reads spelled taken_by spelled_by treated words_of is_white_space whole_number in_class is_utf8 child_count count_in follow window_at ended_at left_at entered_at at_most_at parts_at alternative_at raw_at length_from length_at sized_at tagged_at expected_at high_sevens octets_from bool_at whole_at int_at item_at enum_at text_at sequence_at choice_at sequence_of_at contents_at headed_at owned_at kept_at node_at root_at
order-read = refl

mixed-read : reading_of others 12 (0x30 ∷ 0x0F ∷ 0xA0 ∷ 0x08 ∷ 0x0C ∷ 0x03 ∷ 0x48 ∷ 0x69 ∷ 0x20 ∷ 0x0C ∷ 0x01 ∷ 0x21 ∷ 0xA1 ∷ 0x03 ∷ 0x80 ∷ 0x01 ∷ 0x78 ∷ []) ≡ Some (Ok (tree (value.Sequence (true ∷ true ∷ [])) (tree value.SequenceOf (leaf (value.Utf8 (codes "Hi ")) ∷ leaf (value.Utf8 (codes "!")) ∷ []) ∷ tree value.SequenceOf (tree (value.Choice 0) (leaf (value.Utf8 (codes "x")) ∷ []) ∷ []) ∷ []), record { at = 17; nodes = 7 }))
unfolding near_levels near_levels_of levels_from chars encode_utf8 digits is_xml_char same_value same_values owns reads spelled taken_by spelled_by treated words_of is_white_space whole_number in_class is_utf8 child_count count_in follow window_at ended_at left_at entered_at at_most_at parts_at alternative_at raw_at length_from length_at sized_at tagged_at expected_at high_sevens octets_from bool_at whole_at int_at item_at enum_at text_at sequence_at choice_at sequence_of_at contents_at headed_at owned_at kept_at node_at root_at
mixed-read = refl

flag-read : reading_of chosen 0 (0x01 ∷ 0x01 ∷ 0xFF ∷ []) ≡ Some (Ok (leaf (value.Bool true), record { at = 3; nodes = 1 }))
unfolding near_levels near_levels_of levels_from chars encode_utf8 digits is_xml_char same_value same_values owns reads spelled taken_by spelled_by treated words_of is_white_space whole_number in_class is_utf8 child_count count_in follow window_at ended_at left_at entered_at at_most_at parts_at alternative_at raw_at length_from length_at sized_at tagged_at expected_at high_sevens octets_from bool_at whole_at int_at item_at enum_at text_at sequence_at choice_at sequence_of_at contents_at headed_at owned_at kept_at node_at root_at
flag-read = refl

flag-false-read : reading_of chosen 0 (0x01 ∷ 0x01 ∷ 0x00 ∷ []) ≡ Some (Ok (leaf (value.Bool false), record { at = 3; nodes = 1 }))
unfolding near_levels near_levels_of levels_from chars encode_utf8 digits is_xml_char same_value same_values owns reads spelled taken_by spelled_by treated words_of is_white_space whole_number in_class is_utf8 child_count count_in follow window_at ended_at left_at entered_at at_most_at parts_at alternative_at raw_at length_from length_at sized_at tagged_at expected_at high_sevens octets_from bool_at whole_at int_at item_at enum_at text_at sequence_at choice_at sequence_of_at contents_at headed_at owned_at kept_at node_at root_at
flag-false-read = refl

union-seven-read : reading_of others 3 (0x80 ∷ 0x01 ∷ 0x07 ∷ []) ≡ Some (Ok (tree (value.Choice 0) (leaf (value.Int (pos 7)) ∷ []), record { at = 3; nodes = 2 }))
unfolding near_levels near_levels_of levels_from chars encode_utf8 digits is_xml_char same_value same_values owns reads spelled taken_by spelled_by treated words_of is_white_space whole_number in_class is_utf8 child_count count_in follow window_at ended_at left_at entered_at at_most_at parts_at alternative_at raw_at length_from length_at sized_at tagged_at expected_at high_sevens octets_from bool_at whole_at int_at item_at enum_at text_at sequence_at choice_at sequence_of_at contents_at headed_at owned_at kept_at node_at root_at
union-seven-read = refl

number-minus_five-read : reading_of others 9 (0x0A ∷ 0x01 ∷ 0xFB ∷ []) ≡ Some (Ok (leaf (value.Enum 0), record { at = 3; nodes = 1 }))
unfolding near_levels near_levels_of levels_from chars encode_utf8 digits is_xml_char same_value same_values owns reads spelled taken_by spelled_by treated words_of is_white_space whole_number in_class is_utf8 child_count count_in follow window_at ended_at left_at entered_at at_most_at parts_at alternative_at raw_at length_from length_at sized_at tagged_at expected_at high_sevens octets_from bool_at whole_at int_at item_at enum_at text_at sequence_at choice_at sequence_of_at contents_at headed_at owned_at kept_at node_at root_at
number-minus_five-read = refl

enumerated-red-read : reading_of others 8 (0x0A ∷ 0x01 ∷ 0x02 ∷ []) ≡ Some (Ok (leaf (value.Enum 2), record { at = 3; nodes = 1 }))
unfolding near_levels near_levels_of levels_from chars encode_utf8 digits is_xml_char same_value same_values owns reads spelled taken_by spelled_by treated words_of is_white_space whole_number in_class is_utf8 child_count count_in follow window_at ended_at left_at entered_at at_most_at parts_at alternative_at raw_at length_from length_at sized_at tagged_at expected_at high_sevens octets_from bool_at whole_at int_at item_at enum_at text_at sequence_at choice_at sequence_of_at contents_at headed_at owned_at kept_at node_at root_at
enumerated-red-read = refl

unbounded-128-read : reading_of others 1 (0x02 ∷ 0x02 ∷ 0x00 ∷ 0x80 ∷ []) ≡ Some (Ok (leaf (value.Int (pos 128)), record { at = 4; nodes = 1 }))
unfolding near_levels near_levels_of levels_from chars encode_utf8 digits is_xml_char same_value same_values owns reads spelled taken_by spelled_by treated words_of is_white_space whole_number in_class is_utf8 child_count count_in follow window_at ended_at left_at entered_at at_most_at parts_at alternative_at raw_at length_from length_at sized_at tagged_at expected_at high_sevens octets_from bool_at whole_at int_at item_at enum_at text_at sequence_at choice_at sequence_of_at contents_at headed_at owned_at kept_at node_at root_at
unbounded-128-read = refl

unbounded-minus-read : reading_of others 1 (0x02 ∷ 0x02 ∷ 0xFF ∷ 0x7F ∷ []) ≡ Some (Ok (leaf (value.Int (negsuc 128)), record { at = 4; nodes = 1 }))
unfolding near_levels near_levels_of levels_from chars encode_utf8 digits is_xml_char same_value same_values owns reads spelled taken_by spelled_by treated words_of is_white_space whole_number in_class is_utf8 child_count count_in follow window_at ended_at left_at entered_at at_most_at parts_at alternative_at raw_at length_from length_at sized_at tagged_at expected_at high_sevens octets_from bool_at whole_at int_at item_at enum_at text_at sequence_at choice_at sequence_of_at contents_at headed_at owned_at kept_at node_at root_at
unbounded-minus-read = refl

text-empty-read : reading_of others 2 (0x0C ∷ 0x00 ∷ []) ≡ Some (Ok (leaf (value.Utf8 []), record { at = 2; nodes = 1 }))
unfolding near_levels near_levels_of levels_from chars encode_utf8 digits is_xml_char same_value same_values owns reads spelled taken_by spelled_by treated words_of is_white_space whole_number in_class is_utf8 child_count count_in follow window_at ended_at left_at entered_at at_most_at parts_at alternative_at raw_at length_from length_at sized_at tagged_at expected_at high_sevens octets_from bool_at whole_at int_at item_at enum_at text_at sequence_at choice_at sequence_of_at contents_at headed_at owned_at kept_at node_at root_at
text-empty-read = refl

empty-read : reading_of others 5 (0x30 ∷ 0x00 ∷ []) ≡ Some (Ok (leaf (value.Sequence []), record { at = 2; nodes = 1 }))
unfolding near_levels near_levels_of levels_from chars encode_utf8 digits is_xml_char same_value same_values owns reads spelled taken_by spelled_by treated words_of is_white_space whole_number in_class is_utf8 child_count count_in follow window_at ended_at left_at entered_at at_most_at parts_at alternative_at raw_at length_from length_at sized_at tagged_at expected_at high_sevens octets_from bool_at whole_at int_at item_at enum_at text_at sequence_at choice_at sequence_of_at contents_at headed_at owned_at kept_at node_at root_at
empty-read = refl

nillable-nil-read : reading_of others 6 (0x30 ∷ 0x00 ∷ []) ≡ Some (Ok (leaf (value.Sequence (false ∷ [])), record { at = 2; nodes = 1 }))
unfolding near_levels near_levels_of levels_from chars encode_utf8 digits is_xml_char same_value same_values owns reads spelled taken_by spelled_by treated words_of is_white_space whole_number in_class is_utf8 child_count count_in follow window_at ended_at left_at entered_at at_most_at parts_at alternative_at raw_at length_from length_at sized_at tagged_at expected_at high_sevens octets_from bool_at whole_at int_at item_at enum_at text_at sequence_at choice_at sequence_of_at contents_at headed_at owned_at kept_at node_at root_at
nillable-nil-read = refl

nillable-five-read : reading_of others 6 (0x30 ∷ 0x03 ∷ 0x80 ∷ 0x01 ∷ 0x05 ∷ []) ≡ Some (Ok (tree (value.Sequence (true ∷ [])) (leaf (value.Int (pos 5)) ∷ []), record { at = 5; nodes = 2 }))
unfolding near_levels near_levels_of levels_from chars encode_utf8 digits is_xml_char same_value same_values owns reads spelled taken_by spelled_by treated words_of is_white_space whole_number in_class is_utf8 child_count count_in follow window_at ended_at left_at entered_at at_most_at parts_at alternative_at raw_at length_from length_at sized_at tagged_at expected_at high_sevens octets_from bool_at whole_at int_at item_at enum_at text_at sequence_at choice_at sequence_of_at contents_at headed_at owned_at kept_at node_at root_at
nillable-five-read = refl

list-read : reading_of others 7 (0x30 ∷ 0x07 ∷ 0x02 ∷ 0x01 ∷ 0x01 ∷ 0x02 ∷ 0x02 ∷ 0x00 ∷ 0xFF ∷ []) ≡ Some (Ok (tree value.SequenceOf (leaf (value.Int (pos 1)) ∷ leaf (value.Int (pos 255)) ∷ []), record { at = 9; nodes = 3 }))
unfolding near_levels near_levels_of levels_from chars encode_utf8 digits is_xml_char same_value same_values owns reads spelled taken_by spelled_by treated words_of is_white_space whole_number in_class is_utf8 child_count count_in follow window_at ended_at left_at entered_at at_most_at parts_at alternative_at raw_at length_from length_at sized_at tagged_at expected_at high_sevens octets_from bool_at whole_at int_at item_at enum_at text_at sequence_at choice_at sequence_of_at contents_at headed_at owned_at kept_at node_at root_at
list-read = refl

explicit-count-read : reading_of chosen 1 (0x30 ∷ 0x05 ∷ 0xA0 ∷ 0x03 ∷ 0x81 ∷ 0x01 ∷ 0x05 ∷ []) ≡ Some (Ok (tree (value.Sequence (true ∷ false ∷ [])) (tree (value.Choice 1) (leaf (value.Int (pos 5)) ∷ []) ∷ []), record { at = 7; nodes = 3 }))
unfolding near_levels near_levels_of levels_from chars encode_utf8 digits is_xml_char same_value same_values owns reads spelled taken_by spelled_by treated words_of is_white_space whole_number in_class is_utf8 child_count count_in follow window_at ended_at left_at entered_at at_most_at parts_at alternative_at raw_at length_from length_at sized_at tagged_at expected_at high_sevens octets_from bool_at whole_at int_at item_at enum_at text_at sequence_at choice_at sequence_of_at contents_at headed_at owned_at kept_at node_at root_at
explicit-count-read = refl

standard-none-read : reading_of standards 0 (0x30 ∷ 0x00 ∷ []) ≡ Some (Ok (leaf (value.Sequence (false ∷ false ∷ [])), record { at = 2; nodes = 1 }))
unfolding near_levels near_levels_of levels_from chars encode_utf8 digits is_xml_char same_value same_values owns reads spelled taken_by spelled_by treated words_of is_white_space whole_number in_class is_utf8 child_count count_in follow window_at ended_at left_at entered_at at_most_at parts_at alternative_at raw_at length_from length_at sized_at tagged_at expected_at high_sevens octets_from bool_at whole_at int_at item_at enum_at text_at sequence_at choice_at sequence_of_at contents_at headed_at owned_at kept_at node_at root_at
standard-none-read = refl

standard-six-read : reading_of standards 0 (0x30 ∷ 0x03 ∷ 0x80 ∷ 0x01 ∷ 0x06 ∷ []) ≡ Some (Ok (tree (value.Sequence (true ∷ false ∷ [])) (leaf (value.Int (pos 6)) ∷ []), record { at = 5; nodes = 2 }))
unfolding near_levels near_levels_of levels_from chars encode_utf8 digits is_xml_char same_value same_values owns reads spelled taken_by spelled_by treated words_of is_white_space whole_number in_class is_utf8 child_count count_in follow window_at ended_at left_at entered_at at_most_at parts_at alternative_at raw_at length_from length_at sized_at tagged_at expected_at high_sevens octets_from bool_at whole_at int_at item_at enum_at text_at sequence_at choice_at sequence_of_at contents_at headed_at owned_at kept_at node_at root_at
standard-six-read = refl

standard-required-read : reading_of standards 1 (0x30 ∷ 0x04 ∷ 0x80 ∷ 0x02 ∷ 0x6F ∷ 0x6E ∷ []) ≡ Some (Ok (tree (value.Sequence (true ∷ [])) (leaf (value.Utf8 (codes "on")) ∷ []), record { at = 6; nodes = 2 }))
unfolding near_levels near_levels_of levels_from chars encode_utf8 digits is_xml_char same_value same_values owns reads spelled taken_by spelled_by treated words_of is_white_space whole_number in_class is_utf8 child_count count_in follow window_at ended_at left_at entered_at at_most_at parts_at alternative_at raw_at length_from length_at sized_at tagged_at expected_at high_sevens octets_from bool_at whole_at int_at item_at enum_at text_at sequence_at choice_at sequence_of_at contents_at headed_at owned_at kept_at node_at root_at
standard-required-read = refl

ordered-both-read : reading_of standards 2 (0x30 ∷ 0x0E ∷ 0xA0 ∷ 0x06 ∷ 0x0A ∷ 0x01 ∷ 0x01 ∷ 0x0A ∷ 0x01 ∷ 0x00 ∷ 0x81 ∷ 0x01 ∷ 0x00 ∷ 0x82 ∷ 0x01 ∷ 0xFF ∷ []) ≡ Some (Ok (tree (value.Sequence (true ∷ true ∷ true ∷ [])) (tree value.SequenceOf (leaf (value.Enum 1) ∷ leaf (value.Enum 0) ∷ []) ∷ leaf (value.Bool false) ∷ leaf (value.Bool true) ∷ []), record { at = 16; nodes = 6 }))
unfolding near_levels near_levels_of levels_from chars encode_utf8 digits is_xml_char same_value same_values owns reads spelled taken_by spelled_by treated words_of is_white_space whole_number in_class is_utf8 child_count count_in follow window_at ended_at left_at entered_at at_most_at parts_at alternative_at raw_at length_from length_at sized_at tagged_at expected_at high_sevens octets_from bool_at whole_at int_at item_at enum_at text_at sequence_at choice_at sequence_of_at contents_at headed_at owned_at kept_at node_at root_at
ordered-both-read = refl

-- what follows is left
empty-more : reading_of others 5 (0x30 ∷ 0x00 ∷ 0x00 ∷ []) ≡ Some (Ok (leaf (value.Sequence []), record { at = 2; nodes = 1 }))
unfolding near_levels near_levels_of levels_from chars encode_utf8 digits is_xml_char same_value same_values owns reads spelled taken_by spelled_by treated words_of is_white_space whole_number in_class is_utf8 child_count count_in follow window_at ended_at left_at entered_at at_most_at parts_at alternative_at raw_at length_from length_at sized_at tagged_at expected_at high_sevens octets_from bool_at whole_at int_at item_at enum_at text_at sequence_at choice_at sequence_of_at contents_at headed_at owned_at kept_at node_at root_at
empty-more = refl

-- STOPPED
none-stop : Stops chosen 0 ([]) (stop_at 0 why.Short)
unfolding near_levels near_levels_of levels_from chars encode_utf8 digits is_xml_char same_value same_values owns reads spelled taken_by spelled_by treated words_of is_white_space whole_number in_class is_utf8 child_count count_in follow window_at ended_at left_at entered_at at_most_at parts_at alternative_at raw_at length_from length_at sized_at tagged_at expected_at high_sevens octets_from bool_at whole_at int_at item_at enum_at text_at sequence_at choice_at sequence_of_at contents_at headed_at owned_at kept_at node_at root_at
none-stop = refl

flag-one-stop : Stops chosen 0 (0x01 ∷ 0x01 ∷ 0x01 ∷ []) (stop_at 2 why.Content)
unfolding near_levels near_levels_of levels_from chars encode_utf8 digits is_xml_char same_value same_values owns reads spelled taken_by spelled_by treated words_of is_white_space whole_number in_class is_utf8 child_count count_in follow window_at ended_at left_at entered_at at_most_at parts_at alternative_at raw_at length_from length_at sized_at tagged_at expected_at high_sevens octets_from bool_at whole_at int_at item_at enum_at text_at sequence_at choice_at sequence_of_at contents_at headed_at owned_at kept_at node_at root_at
flag-one-stop = refl

flag-two-stop : Stops chosen 0 (0x01 ∷ 0x02 ∷ 0xFF ∷ 0xFF ∷ []) (stop_at 2 why.Content)
unfolding near_levels near_levels_of levels_from chars encode_utf8 digits is_xml_char same_value same_values owns reads spelled taken_by spelled_by treated words_of is_white_space whole_number in_class is_utf8 child_count count_in follow window_at ended_at left_at entered_at at_most_at parts_at alternative_at raw_at length_from length_at sized_at tagged_at expected_at high_sevens octets_from bool_at whole_at int_at item_at enum_at text_at sequence_at choice_at sequence_of_at contents_at headed_at owned_at kept_at node_at root_at
flag-two-stop = refl

flag-zero-stop : Stops chosen 0 (0x01 ∷ 0x00 ∷ []) (stop_at 2 why.Content)
unfolding near_levels near_levels_of levels_from chars encode_utf8 digits is_xml_char same_value same_values owns reads spelled taken_by spelled_by treated words_of is_white_space whole_number in_class is_utf8 child_count count_in follow window_at ended_at left_at entered_at at_most_at parts_at alternative_at raw_at length_from length_at sized_at tagged_at expected_at high_sevens octets_from bool_at whole_at int_at item_at enum_at text_at sequence_at choice_at sequence_of_at contents_at headed_at owned_at kept_at node_at root_at
flag-zero-stop = refl

flag-cut-stop : Stops chosen 0 (0x01 ∷ []) (stop_at 1 why.Short)
unfolding near_levels near_levels_of levels_from chars encode_utf8 digits is_xml_char same_value same_values owns reads spelled taken_by spelled_by treated words_of is_white_space whole_number in_class is_utf8 child_count count_in follow window_at ended_at left_at entered_at at_most_at parts_at alternative_at raw_at length_from length_at sized_at tagged_at expected_at high_sevens octets_from bool_at whole_at int_at item_at enum_at text_at sequence_at choice_at sequence_of_at contents_at headed_at owned_at kept_at node_at root_at
flag-cut-stop = refl

flag-cut_contents-stop : Stops chosen 0 (0x01 ∷ 0x01 ∷ []) (stop_at 1 why.Short)
unfolding near_levels near_levels_of levels_from chars encode_utf8 digits is_xml_char same_value same_values owns reads spelled taken_by spelled_by treated words_of is_white_space whole_number in_class is_utf8 child_count count_in follow window_at ended_at left_at entered_at at_most_at parts_at alternative_at raw_at length_from length_at sized_at tagged_at expected_at high_sevens octets_from bool_at whole_at int_at item_at enum_at text_at sequence_at choice_at sequence_of_at contents_at headed_at owned_at kept_at node_at root_at
flag-cut_contents-stop = refl

flag-tag-stop : Stops chosen 0 (0x02 ∷ 0x01 ∷ 0xFF ∷ []) (stop_at 0 why.Tag)
unfolding near_levels near_levels_of levels_from chars encode_utf8 digits is_xml_char same_value same_values owns reads spelled taken_by spelled_by treated words_of is_white_space whole_number in_class is_utf8 child_count count_in follow window_at ended_at left_at entered_at at_most_at parts_at alternative_at raw_at length_from length_at sized_at tagged_at expected_at high_sevens octets_from bool_at whole_at int_at item_at enum_at text_at sequence_at choice_at sequence_of_at contents_at headed_at owned_at kept_at node_at root_at
flag-tag-stop = refl

flag-long_length-stop : Stops chosen 0 (0x01 ∷ 0x81 ∷ 0x01 ∷ 0xFF ∷ []) (stop_at 1 why.NotShortest)
unfolding near_levels near_levels_of levels_from chars encode_utf8 digits is_xml_char same_value same_values owns reads spelled taken_by spelled_by treated words_of is_white_space whole_number in_class is_utf8 child_count count_in follow window_at ended_at left_at entered_at at_most_at parts_at alternative_at raw_at length_from length_at sized_at tagged_at expected_at high_sevens octets_from bool_at whole_at int_at item_at enum_at text_at sequence_at choice_at sequence_of_at contents_at headed_at owned_at kept_at node_at root_at
flag-long_length-stop = refl

bounded-longer-stop : Stops others 0 (0x02 ∷ 0x02 ∷ 0x00 ∷ 0x05 ∷ []) (stop_at 2 why.NotShortest)
unfolding near_levels near_levels_of levels_from chars encode_utf8 digits is_xml_char same_value same_values owns reads spelled taken_by spelled_by treated words_of is_white_space whole_number in_class is_utf8 child_count count_in follow window_at ended_at left_at entered_at at_most_at parts_at alternative_at raw_at length_from length_at sized_at tagged_at expected_at high_sevens octets_from bool_at whole_at int_at item_at enum_at text_at sequence_at choice_at sequence_of_at contents_at headed_at owned_at kept_at node_at root_at
bounded-longer-stop = refl

bounded-above-stop : Stops others 0 (0x02 ∷ 0x05 ∷ 0x00 ∷ 0x80 ∷ 0x00 ∷ 0x00 ∷ 0x00 ∷ []) (stop_at 2 why.Range)
unfolding near_levels near_levels_of levels_from chars encode_utf8 digits is_xml_char same_value same_values owns reads spelled taken_by spelled_by treated words_of is_white_space whole_number in_class is_utf8 child_count count_in follow window_at ended_at left_at entered_at at_most_at parts_at alternative_at raw_at length_from length_at sized_at tagged_at expected_at high_sevens octets_from bool_at whole_at int_at item_at enum_at text_at sequence_at choice_at sequence_of_at contents_at headed_at owned_at kept_at node_at root_at
bounded-above-stop = refl

bounded-none-stop : Stops others 0 (0x02 ∷ 0x00 ∷ []) (stop_at 2 why.Content)
unfolding near_levels near_levels_of levels_from chars encode_utf8 digits is_xml_char same_value same_values owns reads spelled taken_by spelled_by treated words_of is_white_space whole_number in_class is_utf8 child_count count_in follow window_at ended_at left_at entered_at at_most_at parts_at alternative_at raw_at length_from length_at sized_at tagged_at expected_at high_sevens octets_from bool_at whole_at int_at item_at enum_at text_at sequence_at choice_at sequence_of_at contents_at headed_at owned_at kept_at node_at root_at
bounded-none-stop = refl

unbounded-wide-stop : Stops others 1 (0x02 ∷ 0x11 ∷ 0x00 ∷ 0x80 ∷ 0x00 ∷ 0x00 ∷ 0x00 ∷ 0x00 ∷ 0x00 ∷ 0x00 ∷ 0x00 ∷ 0x00 ∷ 0x00 ∷ 0x00 ∷ 0x00 ∷ 0x00 ∷ 0x00 ∷ 0x00 ∷ 0x00 ∷ []) (stop_at 2 why.TooWide)
unfolding near_levels near_levels_of levels_from chars encode_utf8 digits is_xml_char same_value same_values owns reads spelled taken_by spelled_by treated words_of is_white_space whole_number in_class is_utf8 child_count count_in follow window_at ended_at left_at entered_at at_most_at parts_at alternative_at raw_at length_from length_at sized_at tagged_at expected_at high_sevens octets_from bool_at whole_at int_at item_at enum_at text_at sequence_at choice_at sequence_of_at contents_at headed_at owned_at kept_at node_at root_at
unbounded-wide-stop = refl

empty-indefinite-stop : Stops others 5 (0x30 ∷ 0x80 ∷ []) (stop_at 1 why.NotShortest)
unfolding near_levels near_levels_of levels_from chars encode_utf8 digits is_xml_char same_value same_values owns reads spelled taken_by spelled_by treated words_of is_white_space whole_number in_class is_utf8 child_count count_in follow window_at ended_at left_at entered_at at_most_at parts_at alternative_at raw_at length_from length_at sized_at tagged_at expected_at high_sevens octets_from bool_at whole_at int_at item_at enum_at text_at sequence_at choice_at sequence_of_at contents_at headed_at owned_at kept_at node_at root_at
empty-indefinite-stop = refl

empty-more_inside-stop : Stops others 5 (0x30 ∷ 0x01 ∷ 0x00 ∷ []) (stop_at 2 why.Tag)
unfolding near_levels near_levels_of levels_from chars encode_utf8 digits is_xml_char same_value same_values owns reads spelled taken_by spelled_by treated words_of is_white_space whole_number in_class is_utf8 child_count count_in follow window_at ended_at left_at entered_at at_most_at parts_at alternative_at raw_at length_from length_at sized_at tagged_at expected_at high_sevens octets_from bool_at whole_at int_at item_at enum_at text_at sequence_at choice_at sequence_of_at contents_at headed_at owned_at kept_at node_at root_at
empty-more_inside-stop = refl

enumerated-above-stop : Stops others 8 (0x0A ∷ 0x01 ∷ 0x03 ∷ []) (stop_at 2 why.Range)
unfolding near_levels near_levels_of levels_from chars encode_utf8 digits is_xml_char same_value same_values owns reads spelled taken_by spelled_by treated words_of is_white_space whole_number in_class is_utf8 child_count count_in follow window_at ended_at left_at entered_at at_most_at parts_at alternative_at raw_at length_from length_at sized_at tagged_at expected_at high_sevens octets_from bool_at whole_at int_at item_at enum_at text_at sequence_at choice_at sequence_of_at contents_at headed_at owned_at kept_at node_at root_at
enumerated-above-stop = refl

enumerated-below-stop : Stops others 8 (0x0A ∷ 0x01 ∷ 0xFF ∷ []) (stop_at 2 why.Range)
unfolding near_levels near_levels_of levels_from chars encode_utf8 digits is_xml_char same_value same_values owns reads spelled taken_by spelled_by treated words_of is_white_space whole_number in_class is_utf8 child_count count_in follow window_at ended_at left_at entered_at at_most_at parts_at alternative_at raw_at length_from length_at sized_at tagged_at expected_at high_sevens octets_from bool_at whole_at int_at item_at enum_at text_at sequence_at choice_at sequence_of_at contents_at headed_at owned_at kept_at node_at root_at
enumerated-below-stop = refl

numbers-other-stop : Stops others 9 (0x0A ∷ 0x01 ∷ 0x06 ∷ []) (stop_at 2 why.Range)
unfolding near_levels near_levels_of levels_from chars encode_utf8 digits is_xml_char same_value same_values owns reads spelled taken_by spelled_by treated words_of is_white_space whole_number in_class is_utf8 child_count count_in follow window_at ended_at left_at entered_at at_most_at parts_at alternative_at raw_at length_from length_at sized_at tagged_at expected_at high_sevens octets_from bool_at whole_at int_at item_at enum_at text_at sequence_at choice_at sequence_of_at contents_at headed_at owned_at kept_at node_at root_at
numbers-other-stop = refl

text-no_utf8-stop : Stops others 2 (0x0C ∷ 0x01 ∷ 0xFF ∷ []) (stop_at 0 why.NotUtf8)
unfolding near_levels near_levels_of levels_from chars encode_utf8 digits is_xml_char same_value same_values owns reads spelled taken_by spelled_by treated words_of is_white_space whole_number in_class is_utf8 child_count count_in follow window_at ended_at left_at entered_at at_most_at parts_at alternative_at raw_at length_from length_at sized_at tagged_at expected_at high_sevens octets_from bool_at whole_at int_at item_at enum_at text_at sequence_at choice_at sequence_of_at contents_at headed_at owned_at kept_at node_at root_at
text-no_utf8-stop = refl

text-no_character-stop : Stops others 2 (0x0C ∷ 0x01 ∷ 0x01 ∷ []) (stop_at 0 why.NotAValue)
unfolding near_levels near_levels_of levels_from chars encode_utf8 digits is_xml_char same_value same_values owns reads spelled taken_by spelled_by treated words_of is_white_space whole_number in_class is_utf8 child_count count_in follow window_at ended_at left_at entered_at at_most_at parts_at alternative_at raw_at length_from length_at sized_at tagged_at expected_at high_sevens octets_from bool_at whole_at int_at item_at enum_at text_at sequence_at choice_at sequence_of_at contents_at headed_at owned_at kept_at node_at root_at
text-no_character-stop = refl

union-spelled_elsewhere-stop : Stops others 3 (0x81 ∷ 0x01 ∷ 0x37 ∷ []) (stop_at 0 why.NotAValue)
unfolding near_levels near_levels_of levels_from chars encode_utf8 digits is_xml_char same_value same_values owns reads spelled taken_by spelled_by treated words_of is_white_space whole_number in_class is_utf8 child_count count_in follow window_at ended_at left_at entered_at at_most_at parts_at alternative_at raw_at length_from length_at sized_at tagged_at expected_at high_sevens octets_from bool_at whole_at int_at item_at enum_at text_at sequence_at choice_at sequence_of_at contents_at headed_at owned_at kept_at node_at root_at
union-spelled_elsewhere-stop = refl

union-tag-stop : Stops others 3 (0x82 ∷ 0x01 ∷ 0x37 ∷ []) (stop_at 0 why.Tag)
unfolding near_levels near_levels_of levels_from chars encode_utf8 digits is_xml_char same_value same_values owns reads spelled taken_by spelled_by treated words_of is_white_space whole_number in_class is_utf8 child_count count_in follow window_at ended_at left_at entered_at at_most_at parts_at alternative_at raw_at length_from length_at sized_at tagged_at expected_at high_sevens octets_from bool_at whole_at int_at item_at enum_at text_at sequence_at choice_at sequence_of_at contents_at headed_at owned_at kept_at node_at root_at
union-tag-stop = refl

order-short-stop : Stops orders 0 (0x30 ∷ 0x0E ∷ 0x80 ∷ 0x01 ∷ 0x07 ∷ 0xA1 ∷ 0x09 ∷ 0x30 ∷ 0x07 ∷ 0x80 ∷ 0x02 ∷ 0x41 ∷ 0x31 ∷ 0x81 ∷ 0x01 ∷ []) (stop_at 1 why.Short)
unfolding near_levels near_levels_of levels_from chars encode_utf8 digits is_xml_char same_value same_values owns reads spelled taken_by spelled_by treated words_of is_white_space whole_number in_class is_utf8 child_count count_in follow window_at ended_at left_at entered_at at_most_at parts_at alternative_at raw_at length_from length_at sized_at tagged_at expected_at high_sevens octets_from bool_at whole_at int_at item_at enum_at text_at sequence_at choice_at sequence_of_at contents_at headed_at owned_at kept_at node_at root_at
order-short-stop = refl

order-missing-stop : Stops orders 0 (0x30 ∷ 0x03 ∷ 0x80 ∷ 0x01 ∷ 0x07 ∷ []) (stop_at 5 why.Missing)
unfolding near_levels near_levels_of levels_from chars encode_utf8 digits is_xml_char same_value same_values owns reads spelled taken_by spelled_by treated words_of is_white_space whole_number in_class is_utf8 child_count count_in follow window_at ended_at left_at entered_at at_most_at parts_at alternative_at raw_at length_from length_at sized_at tagged_at expected_at high_sevens octets_from bool_at whole_at int_at item_at enum_at text_at sequence_at choice_at sequence_of_at contents_at headed_at owned_at kept_at node_at root_at
order-missing-stop = refl

order-few-stop : Stops orders 0 (0x30 ∷ 0x05 ∷ 0x80 ∷ 0x01 ∷ 0x07 ∷ 0xA1 ∷ 0x00 ∷ []) (stop_at 5 why.Range)
unfolding near_levels near_levels_of levels_from chars encode_utf8 digits is_xml_char same_value same_values owns reads spelled taken_by spelled_by treated words_of is_white_space whole_number in_class is_utf8 child_count count_in follow window_at ended_at left_at entered_at at_most_at parts_at alternative_at raw_at length_from length_at sized_at tagged_at expected_at high_sevens octets_from bool_at whole_at int_at item_at enum_at text_at sequence_at choice_at sequence_of_at contents_at headed_at owned_at kept_at node_at root_at
order-few-stop = refl

order-item_tag-stop : Stops orders 0 (0x30 ∷ 0x07 ∷ 0x80 ∷ 0x01 ∷ 0x07 ∷ 0xA1 ∷ 0x02 ∷ 0x31 ∷ 0x00 ∷ []) (stop_at 7 why.Tag)
unfolding near_levels near_levels_of levels_from chars encode_utf8 digits is_xml_char same_value same_values owns reads spelled taken_by spelled_by treated words_of is_white_space whole_number in_class is_utf8 child_count count_in follow window_at ended_at left_at entered_at at_most_at parts_at alternative_at raw_at length_from length_at sized_at tagged_at expected_at high_sevens octets_from bool_at whole_at int_at item_at enum_at text_at sequence_at choice_at sequence_of_at contents_at headed_at owned_at kept_at node_at root_at
order-item_tag-stop = refl

order-twice-stop : Stops orders 0 (0x30 ∷ 0x06 ∷ 0x80 ∷ 0x01 ∷ 0x07 ∷ 0x80 ∷ 0x01 ∷ 0x07 ∷ []) (stop_at 5 why.Tag)
unfolding near_levels near_levels_of levels_from chars encode_utf8 digits is_xml_char same_value same_values owns reads spelled taken_by spelled_by treated words_of is_white_space whole_number in_class is_utf8 child_count count_in follow window_at ended_at left_at entered_at at_most_at parts_at alternative_at raw_at length_from length_at sized_at tagged_at expected_at high_sevens octets_from bool_at whole_at int_at item_at enum_at text_at sequence_at choice_at sequence_of_at contents_at headed_at owned_at kept_at node_at root_at
order-twice-stop = refl

explicit-missing-stop : Stops chosen 1 (0x30 ∷ 0x02 ∷ 0xA0 ∷ 0x00 ∷ []) (stop_at 4 why.Missing)
unfolding near_levels near_levels_of levels_from chars encode_utf8 digits is_xml_char same_value same_values owns reads spelled taken_by spelled_by treated words_of is_white_space whole_number in_class is_utf8 child_count count_in follow window_at ended_at left_at entered_at at_most_at parts_at alternative_at raw_at length_from length_at sized_at tagged_at expected_at high_sevens octets_from bool_at whole_at int_at item_at enum_at text_at sequence_at choice_at sequence_of_at contents_at headed_at owned_at kept_at node_at root_at
explicit-missing-stop = refl

explicit-tag-stop : Stops chosen 1 (0x30 ∷ 0x05 ∷ 0xA0 ∷ 0x03 ∷ 0x85 ∷ 0x01 ∷ 0x00 ∷ []) (stop_at 4 why.Tag)
unfolding near_levels near_levels_of levels_from chars encode_utf8 digits is_xml_char same_value same_values owns reads spelled taken_by spelled_by treated words_of is_white_space whole_number in_class is_utf8 child_count count_in follow window_at ended_at left_at entered_at at_most_at parts_at alternative_at raw_at length_from length_at sized_at tagged_at expected_at high_sevens octets_from bool_at whole_at int_at item_at enum_at text_at sequence_at choice_at sequence_of_at contents_at headed_at owned_at kept_at node_at root_at
explicit-tag-stop = refl

explicit-more-stop : Stops chosen 1 (0x30 ∷ 0x06 ∷ 0xA0 ∷ 0x04 ∷ 0x81 ∷ 0x01 ∷ 0x05 ∷ 0x00 ∷ []) (stop_at 7 why.Tag)
unfolding near_levels near_levels_of levels_from chars encode_utf8 digits is_xml_char same_value same_values owns reads spelled taken_by spelled_by treated words_of is_white_space whole_number in_class is_utf8 child_count count_in follow window_at ended_at left_at entered_at at_most_at parts_at alternative_at raw_at length_from length_at sized_at tagged_at expected_at high_sevens octets_from bool_at whole_at int_at item_at enum_at text_at sequence_at choice_at sequence_of_at contents_at headed_at owned_at kept_at node_at root_at
explicit-more-stop = refl

explicit-other-stop : Stops chosen 1 (0x30 ∷ 0x03 ∷ 0x81 ∷ 0x01 ∷ 0xFF ∷ []) (stop_at 2 why.Tag)
unfolding near_levels near_levels_of levels_from chars encode_utf8 digits is_xml_char same_value same_values owns reads spelled taken_by spelled_by treated words_of is_white_space whole_number in_class is_utf8 child_count count_in follow window_at ended_at left_at entered_at at_most_at parts_at alternative_at raw_at length_from length_at sized_at tagged_at expected_at high_sevens octets_from bool_at whole_at int_at item_at enum_at text_at sequence_at choice_at sequence_of_at contents_at headed_at owned_at kept_at node_at root_at
explicit-other-stop = refl

standard-five-stop : Stops standards 0 (0x30 ∷ 0x03 ∷ 0x80 ∷ 0x01 ∷ 0x05 ∷ []) (stop_at 2 why.DefaultWritten)
unfolding near_levels near_levels_of levels_from chars encode_utf8 digits is_xml_char same_value same_values owns reads spelled taken_by spelled_by treated words_of is_white_space whole_number in_class is_utf8 child_count count_in follow window_at ended_at left_at entered_at at_most_at parts_at alternative_at raw_at length_from length_at sized_at tagged_at expected_at high_sevens octets_from bool_at whole_at int_at item_at enum_at text_at sequence_at choice_at sequence_of_at contents_at headed_at owned_at kept_at node_at root_at
standard-five-stop = refl

standard-on-stop : Stops standards 0 (0x30 ∷ 0x04 ∷ 0x81 ∷ 0x02 ∷ 0x6F ∷ 0x6E ∷ []) (stop_at 2 why.DefaultWritten)
unfolding near_levels near_levels_of levels_from chars encode_utf8 digits is_xml_char same_value same_values owns reads spelled taken_by spelled_by treated words_of is_white_space whole_number in_class is_utf8 child_count count_in follow window_at ended_at left_at entered_at at_most_at parts_at alternative_at raw_at length_from length_at sized_at tagged_at expected_at high_sevens octets_from bool_at whole_at int_at item_at enum_at text_at sequence_at choice_at sequence_of_at contents_at headed_at owned_at kept_at node_at root_at
standard-on-stop = refl

standard-off-stop : Stops standards 0 (0x30 ∷ 0x05 ∷ 0x81 ∷ 0x03 ∷ 0x6F ∷ 0x66 ∷ 0x66 ∷ []) (stop_at 2 why.NotAValue)
unfolding near_levels near_levels_of levels_from chars encode_utf8 digits is_xml_char same_value same_values owns reads spelled taken_by spelled_by treated words_of is_white_space whole_number in_class is_utf8 child_count count_in follow window_at ended_at left_at entered_at at_most_at parts_at alternative_at raw_at length_from length_at sized_at tagged_at expected_at high_sevens octets_from bool_at whole_at int_at item_at enum_at text_at sequence_at choice_at sequence_of_at contents_at headed_at owned_at kept_at node_at root_at
standard-off-stop = refl

standard-required-off-stop : Stops standards 1 (0x30 ∷ 0x05 ∷ 0x80 ∷ 0x03 ∷ 0x6F ∷ 0x66 ∷ 0x66 ∷ []) (stop_at 2 why.NotAValue)
unfolding near_levels near_levels_of levels_from chars encode_utf8 digits is_xml_char same_value same_values owns reads spelled taken_by spelled_by treated words_of is_white_space whole_number in_class is_utf8 child_count count_in follow window_at ended_at left_at entered_at at_most_at parts_at alternative_at raw_at length_from length_at sized_at tagged_at expected_at high_sevens octets_from bool_at whole_at int_at item_at enum_at text_at sequence_at choice_at sequence_of_at contents_at headed_at owned_at kept_at node_at root_at
standard-required-off-stop = refl

ordered-twice-stop : Stops standards 2 (0x30 ∷ 0x0E ∷ 0xA0 ∷ 0x06 ∷ 0x0A ∷ 0x01 ∷ 0x00 ∷ 0x0A ∷ 0x01 ∷ 0x00 ∷ 0x81 ∷ 0x01 ∷ 0x00 ∷ 0x82 ∷ 0x01 ∷ 0xFF ∷ []) (stop_at 0 why.NotAValue)
unfolding near_levels near_levels_of levels_from chars encode_utf8 digits is_xml_char same_value same_values owns reads spelled taken_by spelled_by treated words_of is_white_space whole_number in_class is_utf8 child_count count_in follow window_at ended_at left_at entered_at at_most_at parts_at alternative_at raw_at length_from length_at sized_at tagged_at expected_at high_sevens octets_from bool_at whole_at int_at item_at enum_at text_at sequence_at choice_at sequence_of_at contents_at headed_at owned_at kept_at node_at root_at
ordered-twice-stop = refl

nested-deep-stop : Stops others 11 (0x30 ∷ 0x81 ∷ 0x80 ∷ 0xA0 ∷ 0x7E ∷ 0xA0 ∷ 0x7C ∷ 0xA0 ∷ 0x7A ∷ 0xA0 ∷ 0x78 ∷ 0xA0 ∷ 0x76 ∷ 0xA0 ∷ 0x74 ∷ 0xA0 ∷ 0x72 ∷ 0xA0 ∷ 0x70 ∷ 0xA0 ∷ 0x6E ∷ 0xA0 ∷ 0x6C ∷ 0xA0 ∷ 0x6A ∷ 0xA0 ∷ 0x68 ∷ 0xA0 ∷ 0x66 ∷ 0xA0 ∷ 0x64 ∷ 0xA0 ∷ 0x62 ∷ 0xA0 ∷ 0x60 ∷ 0xA0 ∷ 0x5E ∷ 0xA0 ∷ 0x5C ∷ 0xA0 ∷ 0x5A ∷ 0xA0 ∷ 0x58 ∷ 0xA0 ∷ 0x56 ∷ 0xA0 ∷ 0x54 ∷ 0xA0 ∷ 0x52 ∷ 0xA0 ∷ 0x50 ∷ 0xA0 ∷ 0x4E ∷ 0xA0 ∷ 0x4C ∷ 0xA0 ∷ 0x4A ∷ 0xA0 ∷ 0x48 ∷ 0xA0 ∷ 0x46 ∷ 0xA0 ∷ 0x44 ∷ 0xA0 ∷ 0x42 ∷ 0xA0 ∷ 0x40 ∷ 0xA0 ∷ 0x3E ∷ 0xA0 ∷ 0x3C ∷ 0xA0 ∷ 0x3A ∷ 0xA0 ∷ 0x38 ∷ 0xA0 ∷ 0x36 ∷ 0xA0 ∷ 0x34 ∷ 0xA0 ∷ 0x32 ∷ 0xA0 ∷ 0x30 ∷ 0xA0 ∷ 0x2E ∷ 0xA0 ∷ 0x2C ∷ 0xA0 ∷ 0x2A ∷ 0xA0 ∷ 0x28 ∷ 0xA0 ∷ 0x26 ∷ 0xA0 ∷ 0x24 ∷ 0xA0 ∷ 0x22 ∷ 0xA0 ∷ 0x20 ∷ 0xA0 ∷ 0x1E ∷ 0xA0 ∷ 0x1C ∷ 0xA0 ∷ 0x1A ∷ 0xA0 ∷ 0x18 ∷ 0xA0 ∷ 0x16 ∷ 0xA0 ∷ 0x14 ∷ 0xA0 ∷ 0x12 ∷ 0xA0 ∷ 0x10 ∷ 0xA0 ∷ 0x0E ∷ 0xA0 ∷ 0x0C ∷ 0xA0 ∷ 0x0A ∷ 0xA0 ∷ 0x08 ∷ 0xA0 ∷ 0x06 ∷ 0xA0 ∷ 0x04 ∷ 0xA0 ∷ 0x02 ∷ 0xA0 ∷ 0x00 ∷ []) (stop_at 129 why.TooDeep)
unfolding near_levels near_levels_of levels_from chars encode_utf8 digits is_xml_char same_value same_values owns reads spelled taken_by spelled_by treated words_of is_white_space whole_number in_class is_utf8 child_count count_in follow window_at ended_at left_at entered_at at_most_at parts_at alternative_at raw_at length_from length_at sized_at tagged_at expected_at high_sevens octets_from bool_at whole_at int_at item_at enum_at text_at sequence_at choice_at sequence_of_at contents_at headed_at owned_at kept_at node_at root_at
nested-deep-stop = refl
