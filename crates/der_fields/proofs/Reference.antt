-- Octets that were changed at random, and what an independent reader in another language says of them by the same table.
use Rattle.std.proofs.Common.{◌≡◌, true, false, pos, negsuc, Some, [], ◌∷◌, refl, Ok}
use Rattle.std.specs.Str.{is_utf8, chars}
use Rattle.std.specs.Char.{encode_utf8}
use Rattle.std.specs.Fmt.{digits}
use Rattle.base_texts.specs.Characters.{is_xml_char}
use Rattle.base_texts.specs.WhiteSpace.{treated, words_of, is_white_space}
use Rattle.simple_types.specs.declared.labels.ValueLabel.TheVariants as value
use Rattle.simple_types.specs.Reading.{reads, spelled, taken_by, spelled_by}
use Rattle.simple_types.specs.Lexical.{whole_number, in_class}
use Rattle.asn_types.specs.Refs.{follow}
use Rattle.asn_values.specs.Values.{child_count, count_in}
use Rattle.base_codecs.specs.Reading.{window_at, ended_at, left_at, entered_at}
use Rattle.base_codecs.specs.Sequences.{at_most_at, parts_at, alternative_at}
use Rattle.der_fields.specs.declared.stops.Why.TheVariants as why
use Rattle.der_fields.specs.Octets.{octets_from, high_sevens}
use Rattle.der_fields.specs.FieldsReading.{stop_at, raw_at, length_from, length_at, sized_at, tagged_at, expected_at}
use Rattle.per_fields.specs.Levels.{near_levels, near_levels_of, levels_from}
use Rattle.per_fields.specs.Owning.{same_value, same_values, owns}
use Rattle.der_fields.specs.Reading.{bool_at, whole_at, int_at, item_at, enum_at, text_at, sequence_at, choice_at, sequence_of_at, contents_at, headed_at, owned_at, kept_at, node_at, root_at}
use Rattle.der_fields.specs.Laws.{reading_of, Stops}
use Rattle.der_fields.proofs.Samples.{leaf, tree, orders, others, chosen, standards}

changed-1 : Stops others 5 (0x31 ∷ 0xA1 ∷ []) (stop_at 0 why.Tag)
unfolding near_levels near_levels_of levels_from chars encode_utf8 digits is_xml_char same_value same_values owns reads spelled taken_by spelled_by treated words_of is_white_space whole_number in_class is_utf8 child_count count_in follow window_at ended_at left_at entered_at at_most_at parts_at alternative_at raw_at length_from length_at sized_at tagged_at expected_at high_sevens octets_from bool_at whole_at int_at item_at enum_at text_at sequence_at choice_at sequence_of_at contents_at headed_at owned_at kept_at node_at root_at
changed-1 = refl

changed-2 : Stops others 12 (0x30 ∷ 0x0F ∷ 0xA0 ∷ 0x08 ∷ 0x0C ∷ 0x03 ∷ 0xA1 ∷ 0x69 ∷ 0x20 ∷ 0x0C ∷ 0x01 ∷ 0x21 ∷ 0xA1 ∷ 0x03 ∷ 0x80 ∷ []) (stop_at 1 why.Short)
unfolding near_levels near_levels_of levels_from chars encode_utf8 digits is_xml_char same_value same_values owns reads spelled taken_by spelled_by treated words_of is_white_space whole_number in_class is_utf8 child_count count_in follow window_at ended_at left_at entered_at at_most_at parts_at alternative_at raw_at length_from length_at sized_at tagged_at expected_at high_sevens octets_from bool_at whole_at int_at item_at enum_at text_at sequence_at choice_at sequence_of_at contents_at headed_at owned_at kept_at node_at root_at
changed-2 = refl

changed-3 : Stops orders 0 (0x30 ∷ 0x80 ∷ 0x01 ∷ 0x07 ∷ 0xA1 ∷ 0x09 ∷ 0x30 ∷ 0x07 ∷ 0x80 ∷ 0x02 ∷ 0x41 ∷ 0x31 ∷ 0x81 ∷ 0x01 ∷ 0x03 ∷ []) (stop_at 1 why.NotShortest)
unfolding near_levels near_levels_of levels_from chars encode_utf8 digits is_xml_char same_value same_values owns reads spelled taken_by spelled_by treated words_of is_white_space whole_number in_class is_utf8 child_count count_in follow window_at ended_at left_at entered_at at_most_at parts_at alternative_at raw_at length_from length_at sized_at tagged_at expected_at high_sevens octets_from bool_at whole_at int_at item_at enum_at text_at sequence_at choice_at sequence_of_at contents_at headed_at owned_at kept_at node_at root_at
changed-3 = refl

changed-4 : Stops others 5 (0x30 ∷ []) (stop_at 1 why.Short)
unfolding near_levels near_levels_of levels_from chars encode_utf8 digits is_xml_char same_value same_values owns reads spelled taken_by spelled_by treated words_of is_white_space whole_number in_class is_utf8 child_count count_in follow window_at ended_at left_at entered_at at_most_at parts_at alternative_at raw_at length_from length_at sized_at tagged_at expected_at high_sevens octets_from bool_at whole_at int_at item_at enum_at text_at sequence_at choice_at sequence_of_at contents_at headed_at owned_at kept_at node_at root_at
changed-4 = refl

changed-5 : Stops standards 0 (0x30 ∷ 0x03 ∷ 0x80 ∷ 0x80 ∷ 0x01 ∷ 0x06 ∷ []) (stop_at 3 why.NotShortest)
unfolding near_levels near_levels_of levels_from chars encode_utf8 digits is_xml_char same_value same_values owns reads spelled taken_by spelled_by treated words_of is_white_space whole_number in_class is_utf8 child_count count_in follow window_at ended_at left_at entered_at at_most_at parts_at alternative_at raw_at length_from length_at sized_at tagged_at expected_at high_sevens octets_from bool_at whole_at int_at item_at enum_at text_at sequence_at choice_at sequence_of_at contents_at headed_at owned_at kept_at node_at root_at
changed-5 = refl

changed-6 : reading_of chosen 1 (0x30 ∷ 0x05 ∷ 0xA0 ∷ 0x03 ∷ 0x81 ∷ 0x01 ∷ 0x01 ∷ []) ≡ Some (Ok (tree (value.Sequence (true ∷ false ∷ [])) (tree (value.Choice 1) (leaf (value.Int (pos 1)) ∷ []) ∷ []), record { at = 7; nodes = 3 }))
unfolding near_levels near_levels_of levels_from chars encode_utf8 digits is_xml_char same_value same_values owns reads spelled taken_by spelled_by treated words_of is_white_space whole_number in_class is_utf8 child_count count_in follow window_at ended_at left_at entered_at at_most_at parts_at alternative_at raw_at length_from length_at sized_at tagged_at expected_at high_sevens octets_from bool_at whole_at int_at item_at enum_at text_at sequence_at choice_at sequence_of_at contents_at headed_at owned_at kept_at node_at root_at
changed-6 = refl

changed-7 : Stops others 8 (0xAB ∷ 0x80 ∷ 0x01 ∷ 0x02 ∷ []) (stop_at 0 why.Tag)
unfolding near_levels near_levels_of levels_from chars encode_utf8 digits is_xml_char same_value same_values owns reads spelled taken_by spelled_by treated words_of is_white_space whole_number in_class is_utf8 child_count count_in follow window_at ended_at left_at entered_at at_most_at parts_at alternative_at raw_at length_from length_at sized_at tagged_at expected_at high_sevens octets_from bool_at whole_at int_at item_at enum_at text_at sequence_at choice_at sequence_of_at contents_at headed_at owned_at kept_at node_at root_at
changed-7 = refl

changed-8 : Stops chosen 1 (0x30 ∷ []) (stop_at 1 why.Short)
unfolding near_levels near_levels_of levels_from chars encode_utf8 digits is_xml_char same_value same_values owns reads spelled taken_by spelled_by treated words_of is_white_space whole_number in_class is_utf8 child_count count_in follow window_at ended_at left_at entered_at at_most_at parts_at alternative_at raw_at length_from length_at sized_at tagged_at expected_at high_sevens octets_from bool_at whole_at int_at item_at enum_at text_at sequence_at choice_at sequence_of_at contents_at headed_at owned_at kept_at node_at root_at
changed-8 = refl

changed-9 : Stops standards 0 (0x30 ∷ 0x03 ∷ 0x80 ∷ 0x01 ∷ []) (stop_at 1 why.Short)
unfolding near_levels near_levels_of levels_from chars encode_utf8 digits is_xml_char same_value same_values owns reads spelled taken_by spelled_by treated words_of is_white_space whole_number in_class is_utf8 child_count count_in follow window_at ended_at left_at entered_at at_most_at parts_at alternative_at raw_at length_from length_at sized_at tagged_at expected_at high_sevens octets_from bool_at whole_at int_at item_at enum_at text_at sequence_at choice_at sequence_of_at contents_at headed_at owned_at kept_at node_at root_at
changed-9 = refl

changed-10 : Stops orders 0 (0x30 ∷ 0xFF ∷ 0x0E ∷ 0x80 ∷ 0x01 ∷ 0x07 ∷ 0xA1 ∷ 0x09 ∷ 0x30 ∷ 0x07 ∷ 0x80 ∷ 0x02 ∷ 0x41 ∷ []) (stop_at 1 why.Short)
unfolding near_levels near_levels_of levels_from chars encode_utf8 digits is_xml_char same_value same_values owns reads spelled taken_by spelled_by treated words_of is_white_space whole_number in_class is_utf8 child_count count_in follow window_at ended_at left_at entered_at at_most_at parts_at alternative_at raw_at length_from length_at sized_at tagged_at expected_at high_sevens octets_from bool_at whole_at int_at item_at enum_at text_at sequence_at choice_at sequence_of_at contents_at headed_at owned_at kept_at node_at root_at
changed-10 = refl

changed-11 : Stops others 2 (0x0C ∷ 0x80 ∷ []) (stop_at 1 why.NotShortest)
unfolding near_levels near_levels_of levels_from chars encode_utf8 digits is_xml_char same_value same_values owns reads spelled taken_by spelled_by treated words_of is_white_space whole_number in_class is_utf8 child_count count_in follow window_at ended_at left_at entered_at at_most_at parts_at alternative_at raw_at length_from length_at sized_at tagged_at expected_at high_sevens octets_from bool_at whole_at int_at item_at enum_at text_at sequence_at choice_at sequence_of_at contents_at headed_at owned_at kept_at node_at root_at
changed-11 = refl

changed-12 : Stops standards 0 ([]) (stop_at 0 why.Short)
unfolding near_levels near_levels_of levels_from chars encode_utf8 digits is_xml_char same_value same_values owns reads spelled taken_by spelled_by treated words_of is_white_space whole_number in_class is_utf8 child_count count_in follow window_at ended_at left_at entered_at at_most_at parts_at alternative_at raw_at length_from length_at sized_at tagged_at expected_at high_sevens octets_from bool_at whole_at int_at item_at enum_at text_at sequence_at choice_at sequence_of_at contents_at headed_at owned_at kept_at node_at root_at
changed-12 = refl

changed-13 : Stops chosen 0 (0x01 ∷ 0x01 ∷ 0x4B ∷ 0xFF ∷ 0xFF ∷ []) (stop_at 2 why.Content)
unfolding near_levels near_levels_of levels_from chars encode_utf8 digits is_xml_char same_value same_values owns reads spelled taken_by spelled_by treated words_of is_white_space whole_number in_class is_utf8 child_count count_in follow window_at ended_at left_at entered_at at_most_at parts_at alternative_at raw_at length_from length_at sized_at tagged_at expected_at high_sevens octets_from bool_at whole_at int_at item_at enum_at text_at sequence_at choice_at sequence_of_at contents_at headed_at owned_at kept_at node_at root_at
changed-13 = refl

changed-14 : Stops others 5 (0x31 ∷ 0x81 ∷ []) (stop_at 0 why.Tag)
unfolding near_levels near_levels_of levels_from chars encode_utf8 digits is_xml_char same_value same_values owns reads spelled taken_by spelled_by treated words_of is_white_space whole_number in_class is_utf8 child_count count_in follow window_at ended_at left_at entered_at at_most_at parts_at alternative_at raw_at length_from length_at sized_at tagged_at expected_at high_sevens octets_from bool_at whole_at int_at item_at enum_at text_at sequence_at choice_at sequence_of_at contents_at headed_at owned_at kept_at node_at root_at
changed-14 = refl

changed-15 : Stops others 7 (0x30 ∷ 0x07 ∷ 0x02 ∷ 0x01 ∷ 0x01 ∷ 0x02 ∷ 0x01 ∷ 0xFF ∷ []) (stop_at 1 why.Short)
unfolding near_levels near_levels_of levels_from chars encode_utf8 digits is_xml_char same_value same_values owns reads spelled taken_by spelled_by treated words_of is_white_space whole_number in_class is_utf8 child_count count_in follow window_at ended_at left_at entered_at at_most_at parts_at alternative_at raw_at length_from length_at sized_at tagged_at expected_at high_sevens octets_from bool_at whole_at int_at item_at enum_at text_at sequence_at choice_at sequence_of_at contents_at headed_at owned_at kept_at node_at root_at
changed-15 = refl

changed-16 : Stops standards 0 (0x31 ∷ []) (stop_at 0 why.Tag)
unfolding near_levels near_levels_of levels_from chars encode_utf8 digits is_xml_char same_value same_values owns reads spelled taken_by spelled_by treated words_of is_white_space whole_number in_class is_utf8 child_count count_in follow window_at ended_at left_at entered_at at_most_at parts_at alternative_at raw_at length_from length_at sized_at tagged_at expected_at high_sevens octets_from bool_at whole_at int_at item_at enum_at text_at sequence_at choice_at sequence_of_at contents_at headed_at owned_at kept_at node_at root_at
changed-16 = refl

changed-17 : Stops others 8 (0x01 ∷ 0x02 ∷ []) (stop_at 0 why.Tag)
unfolding near_levels near_levels_of levels_from chars encode_utf8 digits is_xml_char same_value same_values owns reads spelled taken_by spelled_by treated words_of is_white_space whole_number in_class is_utf8 child_count count_in follow window_at ended_at left_at entered_at at_most_at parts_at alternative_at raw_at length_from length_at sized_at tagged_at expected_at high_sevens octets_from bool_at whole_at int_at item_at enum_at text_at sequence_at choice_at sequence_of_at contents_at headed_at owned_at kept_at node_at root_at
changed-17 = refl

changed-18 : Stops others 7 (0x07 ∷ 0x02 ∷ 0x01 ∷ 0x01 ∷ 0x02 ∷ 0x02 ∷ 0x00 ∷ 0xFF ∷ []) (stop_at 0 why.Tag)
unfolding near_levels near_levels_of levels_from chars encode_utf8 digits is_xml_char same_value same_values owns reads spelled taken_by spelled_by treated words_of is_white_space whole_number in_class is_utf8 child_count count_in follow window_at ended_at left_at entered_at at_most_at parts_at alternative_at raw_at length_from length_at sized_at tagged_at expected_at high_sevens octets_from bool_at whole_at int_at item_at enum_at text_at sequence_at choice_at sequence_of_at contents_at headed_at owned_at kept_at node_at root_at
changed-18 = refl

changed-19 : Stops standards 0 (0x03 ∷ 0x80 ∷ 0x01 ∷ []) (stop_at 0 why.Tag)
unfolding near_levels near_levels_of levels_from chars encode_utf8 digits is_xml_char same_value same_values owns reads spelled taken_by spelled_by treated words_of is_white_space whole_number in_class is_utf8 child_count count_in follow window_at ended_at left_at entered_at at_most_at parts_at alternative_at raw_at length_from length_at sized_at tagged_at expected_at high_sevens octets_from bool_at whole_at int_at item_at enum_at text_at sequence_at choice_at sequence_of_at contents_at headed_at owned_at kept_at node_at root_at
changed-19 = refl

changed-20 : Stops others 12 (0x30 ∷ 0x0F ∷ 0xA0 ∷ 0x08 ∷ 0x0C ∷ 0x03 ∷ 0xB8 ∷ 0x48 ∷ 0x69 ∷ 0x20 ∷ 0x0C ∷ 0x01 ∷ 0x21 ∷ 0xA1 ∷ 0x03 ∷ 0x80 ∷ 0x01 ∷ 0x78 ∷ []) (stop_at 4 why.NotUtf8)
unfolding near_levels near_levels_of levels_from chars encode_utf8 digits is_xml_char same_value same_values owns reads spelled taken_by spelled_by treated words_of is_white_space whole_number in_class is_utf8 child_count count_in follow window_at ended_at left_at entered_at at_most_at parts_at alternative_at raw_at length_from length_at sized_at tagged_at expected_at high_sevens octets_from bool_at whole_at int_at item_at enum_at text_at sequence_at choice_at sequence_of_at contents_at headed_at owned_at kept_at node_at root_at
changed-20 = refl

changed-21 : Stops standards 2 (0x30 ∷ 0x0E ∷ 0xA0 ∷ 0x06 ∷ 0x0A ∷ 0x01 ∷ 0x01 ∷ 0x0A ∷ 0x00 ∷ 0x81 ∷ 0x01 ∷ 0x00 ∷ 0x82 ∷ 0x01 ∷ 0xFF ∷ []) (stop_at 1 why.Short)
unfolding near_levels near_levels_of levels_from chars encode_utf8 digits is_xml_char same_value same_values owns reads spelled taken_by spelled_by treated words_of is_white_space whole_number in_class is_utf8 child_count count_in follow window_at ended_at left_at entered_at at_most_at parts_at alternative_at raw_at length_from length_at sized_at tagged_at expected_at high_sevens octets_from bool_at whole_at int_at item_at enum_at text_at sequence_at choice_at sequence_of_at contents_at headed_at owned_at kept_at node_at root_at
changed-21 = refl

changed-22 : Stops others 1 (0xA1 ∷ 0x02 ∷ []) (stop_at 0 why.Tag)
unfolding near_levels near_levels_of levels_from chars encode_utf8 digits is_xml_char same_value same_values owns reads spelled taken_by spelled_by treated words_of is_white_space whole_number in_class is_utf8 child_count count_in follow window_at ended_at left_at entered_at at_most_at parts_at alternative_at raw_at length_from length_at sized_at tagged_at expected_at high_sevens octets_from bool_at whole_at int_at item_at enum_at text_at sequence_at choice_at sequence_of_at contents_at headed_at owned_at kept_at node_at root_at
changed-22 = refl

changed-23 : Stops standards 2 (0x30 ∷ 0x0E ∷ 0xA0 ∷ 0x06 ∷ 0x0A ∷ 0x01 ∷ 0x0A ∷ 0x01 ∷ 0x00 ∷ 0x81 ∷ 0x01 ∷ 0x00 ∷ 0x82 ∷ 0x01 ∷ []) (stop_at 1 why.Short)
unfolding near_levels near_levels_of levels_from chars encode_utf8 digits is_xml_char same_value same_values owns reads spelled taken_by spelled_by treated words_of is_white_space whole_number in_class is_utf8 child_count count_in follow window_at ended_at left_at entered_at at_most_at parts_at alternative_at raw_at length_from length_at sized_at tagged_at expected_at high_sevens octets_from bool_at whole_at int_at item_at enum_at text_at sequence_at choice_at sequence_of_at contents_at headed_at owned_at kept_at node_at root_at
changed-23 = refl

changed-24 : Stops orders 0 (0x30 ∷ 0x0E ∷ 0x80 ∷ 0x01 ∷ 0x07 ∷ 0xA1 ∷ 0x09 ∷ 0x30 ∷ 0x07 ∷ 0x80 ∷ 0x02 ∷ 0x41 ∷ 0x31 ∷ 0xBD ∷ 0x81 ∷ 0x01 ∷ 0x03 ∷ []) (stop_at 13 why.Tag)
unfolding near_levels near_levels_of levels_from chars encode_utf8 digits is_xml_char same_value same_values owns reads spelled taken_by spelled_by treated words_of is_white_space whole_number in_class is_utf8 child_count count_in follow window_at ended_at left_at entered_at at_most_at parts_at alternative_at raw_at length_from length_at sized_at tagged_at expected_at high_sevens octets_from bool_at whole_at int_at item_at enum_at text_at sequence_at choice_at sequence_of_at contents_at headed_at owned_at kept_at node_at root_at
changed-24 = refl

changed-25 : Stops chosen 0 (0x01 ∷ 0x01 ∷ 0xEA ∷ 0xFF ∷ []) (stop_at 2 why.Content)
unfolding near_levels near_levels_of levels_from chars encode_utf8 digits is_xml_char same_value same_values owns reads spelled taken_by spelled_by treated words_of is_white_space whole_number in_class is_utf8 child_count count_in follow window_at ended_at left_at entered_at at_most_at parts_at alternative_at raw_at length_from length_at sized_at tagged_at expected_at high_sevens octets_from bool_at whole_at int_at item_at enum_at text_at sequence_at choice_at sequence_of_at contents_at headed_at owned_at kept_at node_at root_at
changed-25 = refl

changed-26 : Stops standards 1 (0x30 ∷ 0x04 ∷ 0x80 ∷ 0x01 ∷ 0x02 ∷ 0x6E ∷ []) (stop_at 2 why.NotAValue)
unfolding near_levels near_levels_of levels_from chars encode_utf8 digits is_xml_char same_value same_values owns reads spelled taken_by spelled_by treated words_of is_white_space whole_number in_class is_utf8 child_count count_in follow window_at ended_at left_at entered_at at_most_at parts_at alternative_at raw_at length_from length_at sized_at tagged_at expected_at high_sevens octets_from bool_at whole_at int_at item_at enum_at text_at sequence_at choice_at sequence_of_at contents_at headed_at owned_at kept_at node_at root_at
changed-26 = refl

changed-27 : Stops chosen 0 (0x01 ∷ 0x00 ∷ 0xFF ∷ []) (stop_at 2 why.Content)
unfolding near_levels near_levels_of levels_from chars encode_utf8 digits is_xml_char same_value same_values owns reads spelled taken_by spelled_by treated words_of is_white_space whole_number in_class is_utf8 child_count count_in follow window_at ended_at left_at entered_at at_most_at parts_at alternative_at raw_at length_from length_at sized_at tagged_at expected_at high_sevens octets_from bool_at whole_at int_at item_at enum_at text_at sequence_at choice_at sequence_of_at contents_at headed_at owned_at kept_at node_at root_at
changed-27 = refl

changed-28 : Stops standards 1 (0x30 ∷ 0x04 ∷ 0x80 ∷ 0x80 ∷ 0x6F ∷ 0x6E ∷ []) (stop_at 3 why.NotShortest)
unfolding near_levels near_levels_of levels_from chars encode_utf8 digits is_xml_char same_value same_values owns reads spelled taken_by spelled_by treated words_of is_white_space whole_number in_class is_utf8 child_count count_in follow window_at ended_at left_at entered_at at_most_at parts_at alternative_at raw_at length_from length_at sized_at tagged_at expected_at high_sevens octets_from bool_at whole_at int_at item_at enum_at text_at sequence_at choice_at sequence_of_at contents_at headed_at owned_at kept_at node_at root_at
changed-28 = refl

changed-29 : Stops others 1 (0x02 ∷ 0x00 ∷ 0x80 ∷ []) (stop_at 2 why.Content)
unfolding near_levels near_levels_of levels_from chars encode_utf8 digits is_xml_char same_value same_values owns reads spelled taken_by spelled_by treated words_of is_white_space whole_number in_class is_utf8 child_count count_in follow window_at ended_at left_at entered_at at_most_at parts_at alternative_at raw_at length_from length_at sized_at tagged_at expected_at high_sevens octets_from bool_at whole_at int_at item_at enum_at text_at sequence_at choice_at sequence_of_at contents_at headed_at owned_at kept_at node_at root_at
changed-29 = refl

changed-30 : reading_of standards 2 (0x30 ∷ 0x0E ∷ 0xA0 ∷ 0x06 ∷ 0x0A ∷ 0x01 ∷ 0x01 ∷ 0x0A ∷ 0x01 ∷ 0x00 ∷ 0x81 ∷ 0x01 ∷ 0x00 ∷ 0x82 ∷ 0x01 ∷ 0xFF ∷ 0x80 ∷ []) ≡ Some (Ok (tree (value.Sequence (true ∷ true ∷ true ∷ [])) (tree value.SequenceOf (leaf (value.Enum 1) ∷ leaf (value.Enum 0) ∷ []) ∷ leaf (value.Bool false) ∷ leaf (value.Bool true) ∷ []), record { at = 16; nodes = 6 }))
unfolding near_levels near_levels_of levels_from chars encode_utf8 digits is_xml_char same_value same_values owns reads spelled taken_by spelled_by treated words_of is_white_space whole_number in_class is_utf8 child_count count_in follow window_at ended_at left_at entered_at at_most_at parts_at alternative_at raw_at length_from length_at sized_at tagged_at expected_at high_sevens octets_from bool_at whole_at int_at item_at enum_at text_at sequence_at choice_at sequence_of_at contents_at headed_at owned_at kept_at node_at root_at
changed-30 = refl

changed-31 : reading_of others 3 (0x80 ∷ 0x01 ∷ 0x01 ∷ 0x07 ∷ []) ≡ Some (Ok (tree (value.Choice 0) (leaf (value.Int (pos 1)) ∷ []), record { at = 3; nodes = 2 }))
unfolding near_levels near_levels_of levels_from chars encode_utf8 digits is_xml_char same_value same_values owns reads spelled taken_by spelled_by treated words_of is_white_space whole_number in_class is_utf8 child_count count_in follow window_at ended_at left_at entered_at at_most_at parts_at alternative_at raw_at length_from length_at sized_at tagged_at expected_at high_sevens octets_from bool_at whole_at int_at item_at enum_at text_at sequence_at choice_at sequence_of_at contents_at headed_at owned_at kept_at node_at root_at
changed-31 = refl

changed-32 : reading_of others 8 (0x0A ∷ 0x01 ∷ 0x01 ∷ 0x02 ∷ []) ≡ Some (Ok (leaf (value.Enum 1), record { at = 3; nodes = 1 }))
unfolding near_levels near_levels_of levels_from chars encode_utf8 digits is_xml_char same_value same_values owns reads spelled taken_by spelled_by treated words_of is_white_space whole_number in_class is_utf8 child_count count_in follow window_at ended_at left_at entered_at at_most_at parts_at alternative_at raw_at length_from length_at sized_at tagged_at expected_at high_sevens octets_from bool_at whole_at int_at item_at enum_at text_at sequence_at choice_at sequence_of_at contents_at headed_at owned_at kept_at node_at root_at
changed-32 = refl

changed-33 : Stops others 8 (0x0A ∷ 0x01 ∷ 0xFF ∷ 0x02 ∷ []) (stop_at 2 why.Range)
unfolding near_levels near_levels_of levels_from chars encode_utf8 digits is_xml_char same_value same_values owns reads spelled taken_by spelled_by treated words_of is_white_space whole_number in_class is_utf8 child_count count_in follow window_at ended_at left_at entered_at at_most_at parts_at alternative_at raw_at length_from length_at sized_at tagged_at expected_at high_sevens octets_from bool_at whole_at int_at item_at enum_at text_at sequence_at choice_at sequence_of_at contents_at headed_at owned_at kept_at node_at root_at
changed-33 = refl

changed-34 : reading_of others 9 (0x0A ∷ 0x01 ∷ 0xFB ∷ 0x00 ∷ []) ≡ Some (Ok (leaf (value.Enum 0), record { at = 3; nodes = 1 }))
unfolding near_levels near_levels_of levels_from chars encode_utf8 digits is_xml_char same_value same_values owns reads spelled taken_by spelled_by treated words_of is_white_space whole_number in_class is_utf8 child_count count_in follow window_at ended_at left_at entered_at at_most_at parts_at alternative_at raw_at length_from length_at sized_at tagged_at expected_at high_sevens octets_from bool_at whole_at int_at item_at enum_at text_at sequence_at choice_at sequence_of_at contents_at headed_at owned_at kept_at node_at root_at
changed-34 = refl

changed-35 : reading_of chosen 0 (0x01 ∷ 0x01 ∷ 0x00 ∷ 0x00 ∷ []) ≡ Some (Ok (leaf (value.Bool false), record { at = 3; nodes = 1 }))
unfolding near_levels near_levels_of levels_from chars encode_utf8 digits is_xml_char same_value same_values owns reads spelled taken_by spelled_by treated words_of is_white_space whole_number in_class is_utf8 child_count count_in follow window_at ended_at left_at entered_at at_most_at parts_at alternative_at raw_at length_from length_at sized_at tagged_at expected_at high_sevens octets_from bool_at whole_at int_at item_at enum_at text_at sequence_at choice_at sequence_of_at contents_at headed_at owned_at kept_at node_at root_at
changed-35 = refl

changed-36 : Stops standards 1 (0x30 ∷ 0x04 ∷ 0x80 ∷ 0x02 ∷ 0x6F ∷ 0x6F ∷ []) (stop_at 2 why.NotAValue)
unfolding near_levels near_levels_of levels_from chars encode_utf8 digits is_xml_char same_value same_values owns reads spelled taken_by spelled_by treated words_of is_white_space whole_number in_class is_utf8 child_count count_in follow window_at ended_at left_at entered_at at_most_at parts_at alternative_at raw_at length_from length_at sized_at tagged_at expected_at high_sevens octets_from bool_at whole_at int_at item_at enum_at text_at sequence_at choice_at sequence_of_at contents_at headed_at owned_at kept_at node_at root_at
changed-36 = refl

changed-37 : Stops standards 1 (0x30 ∷ 0x04 ∷ 0x80 ∷ 0x02 ∷ 0x6E ∷ 0x6E ∷ []) (stop_at 2 why.NotAValue)
unfolding near_levels near_levels_of levels_from chars encode_utf8 digits is_xml_char same_value same_values owns reads spelled taken_by spelled_by treated words_of is_white_space whole_number in_class is_utf8 child_count count_in follow window_at ended_at left_at entered_at at_most_at parts_at alternative_at raw_at length_from length_at sized_at tagged_at expected_at high_sevens octets_from bool_at whole_at int_at item_at enum_at text_at sequence_at choice_at sequence_of_at contents_at headed_at owned_at kept_at node_at root_at
changed-37 = refl

changed-38 : Stops standards 0 (0x30 ∷ 0x03 ∷ 0x80 ∷ 0x01 ∷ 0xA0 ∷ []) (stop_at 4 why.Range)
unfolding near_levels near_levels_of levels_from chars encode_utf8 digits is_xml_char same_value same_values owns reads spelled taken_by spelled_by treated words_of is_white_space whole_number in_class is_utf8 child_count count_in follow window_at ended_at left_at entered_at at_most_at parts_at alternative_at raw_at length_from length_at sized_at tagged_at expected_at high_sevens octets_from bool_at whole_at int_at item_at enum_at text_at sequence_at choice_at sequence_of_at contents_at headed_at owned_at kept_at node_at root_at
changed-38 = refl

changed-39 : reading_of others 1 (0x02 ∷ 0x02 ∷ 0xFF ∷ 0x7E ∷ []) ≡ Some (Ok (leaf (value.Int (negsuc 129)), record { at = 4; nodes = 1 }))
unfolding near_levels near_levels_of levels_from chars encode_utf8 digits is_xml_char same_value same_values owns reads spelled taken_by spelled_by treated words_of is_white_space whole_number in_class is_utf8 child_count count_in follow window_at ended_at left_at entered_at at_most_at parts_at alternative_at raw_at length_from length_at sized_at tagged_at expected_at high_sevens octets_from bool_at whole_at int_at item_at enum_at text_at sequence_at choice_at sequence_of_at contents_at headed_at owned_at kept_at node_at root_at
changed-39 = refl

changed-40 : reading_of chosen 1 (0x30 ∷ 0x05 ∷ 0xA0 ∷ 0x03 ∷ 0x81 ∷ 0x01 ∷ 0x05 ∷ 0xFF ∷ []) ≡ Some (Ok (tree (value.Sequence (true ∷ false ∷ [])) (tree (value.Choice 1) (leaf (value.Int (pos 5)) ∷ []) ∷ []), record { at = 7; nodes = 3 }))
unfolding near_levels near_levels_of levels_from chars encode_utf8 digits is_xml_char same_value same_values owns reads spelled taken_by spelled_by treated words_of is_white_space whole_number in_class is_utf8 child_count count_in follow window_at ended_at left_at entered_at at_most_at parts_at alternative_at raw_at length_from length_at sized_at tagged_at expected_at high_sevens octets_from bool_at whole_at int_at item_at enum_at text_at sequence_at choice_at sequence_of_at contents_at headed_at owned_at kept_at node_at root_at
changed-40 = refl

changed-41 : Stops others 1 (0x02 ∷ 0x02 ∷ 0xFF ∷ 0x80 ∷ []) (stop_at 2 why.NotShortest)
unfolding near_levels near_levels_of levels_from chars encode_utf8 digits is_xml_char same_value same_values owns reads spelled taken_by spelled_by treated words_of is_white_space whole_number in_class is_utf8 child_count count_in follow window_at ended_at left_at entered_at at_most_at parts_at alternative_at raw_at length_from length_at sized_at tagged_at expected_at high_sevens octets_from bool_at whole_at int_at item_at enum_at text_at sequence_at choice_at sequence_of_at contents_at headed_at owned_at kept_at node_at root_at
changed-41 = refl

changed-42 : reading_of others 1 (0x02 ∷ 0x02 ∷ 0x80 ∷ 0x00 ∷ []) ≡ Some (Ok (leaf (value.Int (negsuc 32767)), record { at = 4; nodes = 1 }))
unfolding near_levels near_levels_of levels_from chars encode_utf8 digits is_xml_char same_value same_values owns reads spelled taken_by spelled_by treated words_of is_white_space whole_number in_class is_utf8 child_count count_in follow window_at ended_at left_at entered_at at_most_at parts_at alternative_at raw_at length_from length_at sized_at tagged_at expected_at high_sevens octets_from bool_at whole_at int_at item_at enum_at text_at sequence_at choice_at sequence_of_at contents_at headed_at owned_at kept_at node_at root_at
changed-42 = refl

changed-43 : Stops standards 2 (0x30 ∷ 0x0E ∷ 0xA0 ∷ 0x06 ∷ 0x0A ∷ 0x01 ∷ 0x0A ∷ 0x00 ∷ 0x01 ∷ 0x00 ∷ 0x81 ∷ 0x01 ∷ 0x00 ∷ 0x82 ∷ 0x01 ∷ 0xFF ∷ []) (stop_at 6 why.Range)
unfolding near_levels near_levels_of levels_from chars encode_utf8 digits is_xml_char same_value same_values owns reads spelled taken_by spelled_by treated words_of is_white_space whole_number in_class is_utf8 child_count count_in follow window_at ended_at left_at entered_at at_most_at parts_at alternative_at raw_at length_from length_at sized_at tagged_at expected_at high_sevens octets_from bool_at whole_at int_at item_at enum_at text_at sequence_at choice_at sequence_of_at contents_at headed_at owned_at kept_at node_at root_at
changed-43 = refl

changed-44 : Stops orders 0 (0x30 ∷ 0x0E ∷ 0x80 ∷ 0x01 ∷ 0xA1 ∷ 0x09 ∷ 0x30 ∷ 0x07 ∷ 0x80 ∷ 0x02 ∷ 0x41 ∷ 0x31 ∷ 0x81 ∷ 0x01 ∷ 0x01 ∷ 0x03 ∷ []) (stop_at 4 why.Range)
unfolding near_levels near_levels_of levels_from chars encode_utf8 digits is_xml_char same_value same_values owns reads spelled taken_by spelled_by treated words_of is_white_space whole_number in_class is_utf8 child_count count_in follow window_at ended_at left_at entered_at at_most_at parts_at alternative_at raw_at length_from length_at sized_at tagged_at expected_at high_sevens octets_from bool_at whole_at int_at item_at enum_at text_at sequence_at choice_at sequence_of_at contents_at headed_at owned_at kept_at node_at root_at
changed-44 = refl

changed-45 : Stops chosen 0 (0x01 ∷ 0x00 ∷ 0x01 ∷ 0x00 ∷ []) (stop_at 2 why.Content)
unfolding near_levels near_levels_of levels_from chars encode_utf8 digits is_xml_char same_value same_values owns reads spelled taken_by spelled_by treated words_of is_white_space whole_number in_class is_utf8 child_count count_in follow window_at ended_at left_at entered_at at_most_at parts_at alternative_at raw_at length_from length_at sized_at tagged_at expected_at high_sevens octets_from bool_at whole_at int_at item_at enum_at text_at sequence_at choice_at sequence_of_at contents_at headed_at owned_at kept_at node_at root_at
changed-45 = refl

changed-46 : Stops standards 1 (0x30 ∷ 0x00 ∷ 0x80 ∷ 0x02 ∷ 0x6F ∷ 0x6E ∷ []) (stop_at 2 why.Missing)
unfolding near_levels near_levels_of levels_from chars encode_utf8 digits is_xml_char same_value same_values owns reads spelled taken_by spelled_by treated words_of is_white_space whole_number in_class is_utf8 child_count count_in follow window_at ended_at left_at entered_at at_most_at parts_at alternative_at raw_at length_from length_at sized_at tagged_at expected_at high_sevens octets_from bool_at whole_at int_at item_at enum_at text_at sequence_at choice_at sequence_of_at contents_at headed_at owned_at kept_at node_at root_at
changed-46 = refl

changed-47 : Stops others 6 (0x30 ∷ 0x03 ∷ 0x80 ∷ 0x01 ∷ 0xFF ∷ []) (stop_at 4 why.Range)
unfolding near_levels near_levels_of levels_from chars encode_utf8 digits is_xml_char same_value same_values owns reads spelled taken_by spelled_by treated words_of is_white_space whole_number in_class is_utf8 child_count count_in follow window_at ended_at left_at entered_at at_most_at parts_at alternative_at raw_at length_from length_at sized_at tagged_at expected_at high_sevens octets_from bool_at whole_at int_at item_at enum_at text_at sequence_at choice_at sequence_of_at contents_at headed_at owned_at kept_at node_at root_at
changed-47 = refl

changed-48 : Stops others 6 (0x30 ∷ 0x80 ∷ 0x03 ∷ 0x80 ∷ 0x01 ∷ 0x05 ∷ 0x15 ∷ []) (stop_at 1 why.NotShortest)
unfolding near_levels near_levels_of levels_from chars encode_utf8 digits is_xml_char same_value same_values owns reads spelled taken_by spelled_by treated words_of is_white_space whole_number in_class is_utf8 child_count count_in follow window_at ended_at left_at entered_at at_most_at parts_at alternative_at raw_at length_from length_at sized_at tagged_at expected_at high_sevens octets_from bool_at whole_at int_at item_at enum_at text_at sequence_at choice_at sequence_of_at contents_at headed_at owned_at kept_at node_at root_at
changed-48 = refl

changed-49 : Stops others 12 (0x30 ∷ 0x0F ∷ 0xA0 ∷ 0x08 ∷ 0x0C ∷ 0x80 ∷ 0x03 ∷ 0x48 ∷ 0x69 ∷ 0x20 ∷ 0x0C ∷ 0x01 ∷ 0x21 ∷ 0xA1 ∷ 0x03 ∷ 0x80 ∷ 0x01 ∷ 0x78 ∷ []) (stop_at 5 why.NotShortest)
unfolding near_levels near_levels_of levels_from chars encode_utf8 digits is_xml_char same_value same_values owns reads spelled taken_by spelled_by treated words_of is_white_space whole_number in_class is_utf8 child_count count_in follow window_at ended_at left_at entered_at at_most_at parts_at alternative_at raw_at length_from length_at sized_at tagged_at expected_at high_sevens octets_from bool_at whole_at int_at item_at enum_at text_at sequence_at choice_at sequence_of_at contents_at headed_at owned_at kept_at node_at root_at
changed-49 = refl

changed-50 : Stops others 9 (0x0A ∷ 0x00 ∷ 0x01 ∷ 0xFB ∷ []) (stop_at 2 why.Content)
unfolding near_levels near_levels_of levels_from chars encode_utf8 digits is_xml_char same_value same_values owns reads spelled taken_by spelled_by treated words_of is_white_space whole_number in_class is_utf8 child_count count_in follow window_at ended_at left_at entered_at at_most_at parts_at alternative_at raw_at length_from length_at sized_at tagged_at expected_at high_sevens octets_from bool_at whole_at int_at item_at enum_at text_at sequence_at choice_at sequence_of_at contents_at headed_at owned_at kept_at node_at root_at
changed-50 = refl

changed-51 : Stops others 1 (0x02 ∷ 0x02 ∷ 0x00 ∷ 0x00 ∷ []) (stop_at 2 why.NotShortest)
unfolding near_levels near_levels_of levels_from chars encode_utf8 digits is_xml_char same_value same_values owns reads spelled taken_by spelled_by treated words_of is_white_space whole_number in_class is_utf8 child_count count_in follow window_at ended_at left_at entered_at at_most_at parts_at alternative_at raw_at length_from length_at sized_at tagged_at expected_at high_sevens octets_from bool_at whole_at int_at item_at enum_at text_at sequence_at choice_at sequence_of_at contents_at headed_at owned_at kept_at node_at root_at
changed-51 = refl

changed-52 : Stops orders 0 (0x30 ∷ 0x0E ∷ 0x80 ∷ 0x01 ∷ 0x07 ∷ 0xA1 ∷ 0x09 ∷ 0x30 ∷ 0x80 ∷ 0x07 ∷ 0x80 ∷ 0x02 ∷ 0x41 ∷ 0x31 ∷ 0x81 ∷ 0x01 ∷ 0x03 ∷ []) (stop_at 8 why.NotShortest)
unfolding near_levels near_levels_of levels_from chars encode_utf8 digits is_xml_char same_value same_values owns reads spelled taken_by spelled_by treated words_of is_white_space whole_number in_class is_utf8 child_count count_in follow window_at ended_at left_at entered_at at_most_at parts_at alternative_at raw_at length_from length_at sized_at tagged_at expected_at high_sevens octets_from bool_at whole_at int_at item_at enum_at text_at sequence_at choice_at sequence_of_at contents_at headed_at owned_at kept_at node_at root_at
changed-52 = refl

changed-53 : Stops standards 2 (0x30 ∷ 0x0E ∷ 0xA0 ∷ 0x06 ∷ 0x0A ∷ 0x01 ∷ 0x02 ∷ 0x01 ∷ 0x0A ∷ 0x01 ∷ 0x00 ∷ 0x81 ∷ 0x01 ∷ 0x00 ∷ 0x82 ∷ 0x01 ∷ 0xFF ∷ []) (stop_at 6 why.Range)
unfolding near_levels near_levels_of levels_from chars encode_utf8 digits is_xml_char same_value same_values owns reads spelled taken_by spelled_by treated words_of is_white_space whole_number in_class is_utf8 child_count count_in follow window_at ended_at left_at entered_at at_most_at parts_at alternative_at raw_at length_from length_at sized_at tagged_at expected_at high_sevens octets_from bool_at whole_at int_at item_at enum_at text_at sequence_at choice_at sequence_of_at contents_at headed_at owned_at kept_at node_at root_at
changed-53 = refl

changed-54 : Stops chosen 0 (0x01 ∷ 0x01 ∷ 0x80 ∷ 0x00 ∷ []) (stop_at 2 why.Content)
unfolding near_levels near_levels_of levels_from chars encode_utf8 digits is_xml_char same_value same_values owns reads spelled taken_by spelled_by treated words_of is_white_space whole_number in_class is_utf8 child_count count_in follow window_at ended_at left_at entered_at at_most_at parts_at alternative_at raw_at length_from length_at sized_at tagged_at expected_at high_sevens octets_from bool_at whole_at int_at item_at enum_at text_at sequence_at choice_at sequence_of_at contents_at headed_at owned_at kept_at node_at root_at
changed-54 = refl

changed-55 : Stops chosen 0 (0x01 ∷ 0x01 ∷ 0xFE ∷ []) (stop_at 2 why.Content)
unfolding near_levels near_levels_of levels_from chars encode_utf8 digits is_xml_char same_value same_values owns reads spelled taken_by spelled_by treated words_of is_white_space whole_number in_class is_utf8 child_count count_in follow window_at ended_at left_at entered_at at_most_at parts_at alternative_at raw_at length_from length_at sized_at tagged_at expected_at high_sevens octets_from bool_at whole_at int_at item_at enum_at text_at sequence_at choice_at sequence_of_at contents_at headed_at owned_at kept_at node_at root_at
changed-55 = refl

changed-56 : Stops standards 2 (0x30 ∷ 0x0E ∷ 0xA0 ∷ 0x06 ∷ 0x0A ∷ 0x01 ∷ 0x01 ∷ 0x0A ∷ 0x01 ∷ 0x98 ∷ 0x00 ∷ 0x81 ∷ 0x01 ∷ 0xFF ∷ 0x82 ∷ 0x01 ∷ 0xFF ∷ []) (stop_at 9 why.Range)
unfolding near_levels near_levels_of levels_from chars encode_utf8 digits is_xml_char same_value same_values owns reads spelled taken_by spelled_by treated words_of is_white_space whole_number in_class is_utf8 child_count count_in follow window_at ended_at left_at entered_at at_most_at parts_at alternative_at raw_at length_from length_at sized_at tagged_at expected_at high_sevens octets_from bool_at whole_at int_at item_at enum_at text_at sequence_at choice_at sequence_of_at contents_at headed_at owned_at kept_at node_at root_at
changed-56 = refl

changed-57 : Stops orders 0 (0x30 ∷ 0x0E ∷ 0x80 ∷ 0x01 ∷ 0x07 ∷ 0xA1 ∷ 0x09 ∷ 0x30 ∷ 0x07 ∷ 0x80 ∷ 0x02 ∷ 0x03 ∷ 0x41 ∷ 0x31 ∷ 0x81 ∷ 0x01 ∷ 0x03 ∷ []) (stop_at 9 why.NotAValue)
unfolding near_levels near_levels_of levels_from chars encode_utf8 digits is_xml_char same_value same_values owns reads spelled taken_by spelled_by treated words_of is_white_space whole_number in_class is_utf8 child_count count_in follow window_at ended_at left_at entered_at at_most_at parts_at alternative_at raw_at length_from length_at sized_at tagged_at expected_at high_sevens octets_from bool_at whole_at int_at item_at enum_at text_at sequence_at choice_at sequence_of_at contents_at headed_at owned_at kept_at node_at root_at
changed-57 = refl

changed-58 : Stops others 7 (0x30 ∷ 0x07 ∷ 0x02 ∷ 0x01 ∷ 0x01 ∷ 0x02 ∷ 0x02 ∷ 0x51 ∷ 0x00 ∷ 0xFF ∷ []) (stop_at 7 why.Range)
unfolding near_levels near_levels_of levels_from chars encode_utf8 digits is_xml_char same_value same_values owns reads spelled taken_by spelled_by treated words_of is_white_space whole_number in_class is_utf8 child_count count_in follow window_at ended_at left_at entered_at at_most_at parts_at alternative_at raw_at length_from length_at sized_at tagged_at expected_at high_sevens octets_from bool_at whole_at int_at item_at enum_at text_at sequence_at choice_at sequence_of_at contents_at headed_at owned_at kept_at node_at root_at
changed-58 = refl

changed-59 : Stops others 9 (0x0A ∷ 0x01 ∷ 0xFC ∷ []) (stop_at 2 why.Range)
unfolding near_levels near_levels_of levels_from chars encode_utf8 digits is_xml_char same_value same_values owns reads spelled taken_by spelled_by treated words_of is_white_space whole_number in_class is_utf8 child_count count_in follow window_at ended_at left_at entered_at at_most_at parts_at alternative_at raw_at length_from length_at sized_at tagged_at expected_at high_sevens octets_from bool_at whole_at int_at item_at enum_at text_at sequence_at choice_at sequence_of_at contents_at headed_at owned_at kept_at node_at root_at
changed-59 = refl

changed-60 : Stops standards 1 (0x30 ∷ 0x04 ∷ 0x80 ∷ 0x02 ∷ 0x70 ∷ 0x6E ∷ []) (stop_at 2 why.NotAValue)
unfolding near_levels near_levels_of levels_from chars encode_utf8 digits is_xml_char same_value same_values owns reads spelled taken_by spelled_by treated words_of is_white_space whole_number in_class is_utf8 child_count count_in follow window_at ended_at left_at entered_at at_most_at parts_at alternative_at raw_at length_from length_at sized_at tagged_at expected_at high_sevens octets_from bool_at whole_at int_at item_at enum_at text_at sequence_at choice_at sequence_of_at contents_at headed_at owned_at kept_at node_at root_at
changed-60 = refl
