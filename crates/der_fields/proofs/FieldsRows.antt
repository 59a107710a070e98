-- Identifiers, lengths and whole numbers written out: what the definitions say of each computes.
use Rattle.std.proofs.Common.{◌≡◌, ℕ, true, false, [], ◌∷◌, refl, pos, negsuc}
use Rattle.base_codecs.specs.declared.spots.Spot.{Spot}
use Rattle.base_codecs.specs.Reading.{window_at, left_at}
use Rattle.der_fields.specs.declared.stops.Why.TheVariants.{Short, NotShortest}
use Rattle.der_fields.specs.Octets.{octets_from, length_octets, signed_octets, context_identifier, high_sevens, are_nine_equal}
use Rattle.der_fields.specs.FieldsReading.{stop_at, raw_at, length_from, length_at}
use Rattle.std.specs.Prelude.{Ok, Err}

-- IDENTIFIERS
primitive-0 : context_identifier false 0 ≡ 0x80 ∷ []
unfolding high_sevens
primitive-0 = refl

constructed-0 : context_identifier true 0 ≡ 0xA0 ∷ []
unfolding high_sevens
constructed-0 = refl

primitive-30 : context_identifier false 30 ≡ 0x9E ∷ []
unfolding high_sevens
primitive-30 = refl

constructed-30 : context_identifier true 30 ≡ 0xBE ∷ []
unfolding high_sevens
constructed-30 = refl

primitive-31 : context_identifier false 31 ≡ 0x9F ∷ 0x1F ∷ []
unfolding high_sevens
primitive-31 = refl

constructed-31 : context_identifier true 31 ≡ 0xBF ∷ 0x1F ∷ []
unfolding high_sevens
constructed-31 = refl

primitive-127 : context_identifier false 127 ≡ 0x9F ∷ 0x7F ∷ []
unfolding high_sevens
primitive-127 = refl

primitive-128 : context_identifier false 128 ≡ 0x9F ∷ 0x81 ∷ 0x00 ∷ []
unfolding high_sevens
primitive-128 = refl

constructed-128 : context_identifier true 128 ≡ 0xBF ∷ 0x81 ∷ 0x00 ∷ []
unfolding high_sevens
constructed-128 = refl

primitive-16383 : context_identifier false 16383 ≡ 0x9F ∷ 0xFF ∷ 0x7F ∷ []
unfolding high_sevens
primitive-16383 = refl

primitive-16384 : context_identifier false 16384 ≡ 0x9F ∷ 0x81 ∷ 0x80 ∷ 0x00 ∷ []
unfolding high_sevens
primitive-16384 = refl

constructed-16384 : context_identifier true 16384 ≡ 0xBF ∷ 0x81 ∷ 0x80 ∷ 0x00 ∷ []
unfolding high_sevens
constructed-16384 = refl

primitive-2097152 : context_identifier false 2097152 ≡ 0x9F ∷ 0x81 ∷ 0x80 ∷ 0x80 ∷ 0x00 ∷ []
unfolding high_sevens
primitive-2097152 = refl

-- LENGTHS
length-0 : length_octets 0 ≡ 0x00 ∷ []
unfolding octets_from
length-0 = refl

length-127 : length_octets 127 ≡ 0x7F ∷ []
unfolding octets_from
length-127 = refl

length-128 : length_octets 128 ≡ 0x81 ∷ 0x80 ∷ []
unfolding octets_from
length-128 = refl

length-255 : length_octets 255 ≡ 0x81 ∷ 0xFF ∷ []
unfolding octets_from
length-255 = refl

length-256 : length_octets 256 ≡ 0x82 ∷ 0x01 ∷ 0x00 ∷ []
unfolding octets_from
length-256 = refl

length-65535 : length_octets 65535 ≡ 0x82 ∷ 0xFF ∷ 0xFF ∷ []
unfolding octets_from
length-65535 = refl

length-65536 : length_octets 65536 ≡ 0x83 ∷ 0x01 ∷ 0x00 ∷ 0x00 ∷ []
unfolding octets_from
length-65536 = refl

length-16777216 : length_octets 16777216 ≡ 0x84 ∷ 0x01 ∷ 0x00 ∷ 0x00 ∷ 0x00 ∷ []
unfolding octets_from
length-16777216 = refl

-- WHOLE NUMBERS, at the ends of each count of octets
signed-plus-0 : signed_octets (pos 0) ≡ 0x00 ∷ []
unfolding octets_from
signed-plus-0 = refl

signed-plus-5 : signed_octets (pos 5) ≡ 0x05 ∷ []
unfolding octets_from
signed-plus-5 = refl

signed-plus-200 : signed_octets (pos 200) ≡ 0x00 ∷ 0xC8 ∷ []
unfolding octets_from
signed-plus-200 = refl

signed-minus-1 : signed_octets (negsuc 0) ≡ 0xFF ∷ []
unfolding octets_from
signed-minus-1 = refl

signed-minus-5 : signed_octets (negsuc 4) ≡ 0xFB ∷ []
unfolding octets_from
signed-minus-5 = refl

last-of_1 : signed_octets (pos 127) ≡ 0x7F ∷ []
unfolding octets_from
last-of_1 = refl

next-of_1 : signed_octets (pos 128) ≡ 0x00 ∷ 0x80 ∷ []
unfolding octets_from
next-of_1 = refl

least-of_1 : signed_octets (negsuc 127) ≡ 0x80 ∷ []
unfolding octets_from
least-of_1 = refl

below-of_1 : signed_octets (negsuc 128) ≡ 0xFF ∷ 0x7F ∷ []
unfolding octets_from
below-of_1 = refl

last-of_2 : signed_octets (pos 32767) ≡ 0x7F ∷ 0xFF ∷ []
unfolding octets_from
last-of_2 = refl

next-of_2 : signed_octets (pos 32768) ≡ 0x00 ∷ 0x80 ∷ 0x00 ∷ []
unfolding octets_from
next-of_2 = refl

least-of_2 : signed_octets (negsuc 32767) ≡ 0x80 ∷ 0x00 ∷ []
unfolding octets_from
least-of_2 = refl

below-of_2 : signed_octets (negsuc 32768) ≡ 0xFF ∷ 0x7F ∷ 0xFF ∷ []
unfolding octets_from
below-of_2 = refl

last-of_3 : signed_octets (pos 8388607) ≡ 0x7F ∷ 0xFF ∷ 0xFF ∷ []
unfolding octets_from
last-of_3 = refl

next-of_3 : signed_octets (pos 8388608) ≡ 0x00 ∷ 0x80 ∷ 0x00 ∷ 0x00 ∷ []
unfolding octets_from
next-of_3 = refl

least-of_3 : signed_octets (negsuc 8388607) ≡ 0x80 ∷ 0x00 ∷ 0x00 ∷ []
unfolding octets_from
least-of_3 = refl

below-of_3 : signed_octets (negsuc 8388608) ≡ 0xFF ∷ 0x7F ∷ 0xFF ∷ 0xFF ∷ []
unfolding octets_from
below-of_3 = refl

last-of_4 : signed_octets (pos 2147483647) ≡ 0x7F ∷ 0xFF ∷ 0xFF ∷ 0xFF ∷ []
unfolding octets_from
last-of_4 = refl

next-of_4 : signed_octets (pos 2147483648) ≡ 0x00 ∷ 0x80 ∷ 0x00 ∷ 0x00 ∷ 0x00 ∷ []
unfolding octets_from
next-of_4 = refl

least-of_4 : signed_octets (negsuc 2147483647) ≡ 0x80 ∷ 0x00 ∷ 0x00 ∷ 0x00 ∷ []
unfolding octets_from
least-of_4 = refl

below-of_4 : signed_octets (negsuc 2147483648) ≡ 0xFF ∷ 0x7F ∷ 0xFF ∷ 0xFF ∷ 0xFF ∷ []
unfolding octets_from
below-of_4 = refl

last-of_5 : signed_octets (pos 549755813887) ≡ 0x7F ∷ 0xFF ∷ 0xFF ∷ 0xFF ∷ 0xFF ∷ []
unfolding octets_from
last-of_5 = refl

next-of_5 : signed_octets (pos 549755813888) ≡ 0x00 ∷ 0x80 ∷ 0x00 ∷ 0x00 ∷ 0x00 ∷ 0x00 ∷ []
unfolding octets_from
next-of_5 = refl

least-of_5 : signed_octets (negsuc 549755813887) ≡ 0x80 ∷ 0x00 ∷ 0x00 ∷ 0x00 ∷ 0x00 ∷ []
unfolding octets_from
least-of_5 = refl

below-of_5 : signed_octets (negsuc 549755813888) ≡ 0xFF ∷ 0x7F ∷ 0xFF ∷ 0xFF ∷ 0xFF ∷ 0xFF ∷ []
unfolding octets_from
below-of_5 = refl

last-of_6 : signed_octets (pos 140737488355327) ≡ 0x7F ∷ 0xFF ∷ 0xFF ∷ 0xFF ∷ 0xFF ∷ 0xFF ∷ []
unfolding octets_from
last-of_6 = refl

next-of_6 : signed_octets (pos 140737488355328) ≡ 0x00 ∷ 0x80 ∷ 0x00 ∷ 0x00 ∷ 0x00 ∷ 0x00 ∷ 0x00 ∷ []
unfolding octets_from
next-of_6 = refl

least-of_6 : signed_octets (negsuc 140737488355327) ≡ 0x80 ∷ 0x00 ∷ 0x00 ∷ 0x00 ∷ 0x00 ∷ 0x00 ∷ []
unfolding octets_from
least-of_6 = refl

below-of_6 : signed_octets (negsuc 140737488355328) ≡ 0xFF ∷ 0x7F ∷ 0xFF ∷ 0xFF ∷ 0xFF ∷ 0xFF ∷ 0xFF ∷ []
unfolding octets_from
below-of_6 = refl

last-of_7 : signed_octets (pos 36028797018963967) ≡ 0x7F ∷ 0xFF ∷ 0xFF ∷ 0xFF ∷ 0xFF ∷ 0xFF ∷ 0xFF ∷ []
unfolding octets_from
last-of_7 = refl

next-of_7 : signed_octets (pos 36028797018963968) ≡ 0x00 ∷ 0x80 ∷ 0x00 ∷ 0x00 ∷ 0x00 ∷ 0x00 ∷ 0x00 ∷ 0x00 ∷ []
unfolding octets_from
next-of_7 = refl

least-of_7 : signed_octets (negsuc 36028797018963967) ≡ 0x80 ∷ 0x00 ∷ 0x00 ∷ 0x00 ∷ 0x00 ∷ 0x00 ∷ 0x00 ∷ []
unfolding octets_from
least-of_7 = refl

below-of_7 : signed_octets (negsuc 36028797018963968) ≡ 0xFF ∷ 0x7F ∷ 0xFF ∷ 0xFF ∷ 0xFF ∷ 0xFF ∷ 0xFF ∷ 0xFF ∷ []
unfolding octets_from
below-of_7 = refl

last-of_8 : signed_octets (pos 9223372036854775807) ≡ 0x7F ∷ 0xFF ∷ 0xFF ∷ 0xFF ∷ 0xFF ∷ 0xFF ∷ 0xFF ∷ 0xFF ∷ []
unfolding octets_from
last-of_8 = refl

next-of_8 : signed_octets (pos 9223372036854775808) ≡ 0x00 ∷ 0x80 ∷ 0x00 ∷ 0x00 ∷ 0x00 ∷ 0x00 ∷ 0x00 ∷ 0x00 ∷ 0x00 ∷ []
unfolding octets_from
next-of_8 = refl

least-of_8 : signed_octets (negsuc 9223372036854775807) ≡ 0x80 ∷ 0x00 ∷ 0x00 ∷ 0x00 ∷ 0x00 ∷ 0x00 ∷ 0x00 ∷ 0x00 ∷ []
unfolding octets_from
least-of_8 = refl

below-of_8 : signed_octets (negsuc 9223372036854775808) ≡ 0xFF ∷ 0x7F ∷ 0xFF ∷ 0xFF ∷ 0xFF ∷ 0xFF ∷ 0xFF ∷ 0xFF ∷ 0xFF ∷ []
unfolding octets_from
below-of_8 = refl

last-of_9 : signed_octets (pos 2361183241434822606847) ≡ 0x7F ∷ 0xFF ∷ 0xFF ∷ 0xFF ∷ 0xFF ∷ 0xFF ∷ 0xFF ∷ 0xFF ∷ 0xFF ∷ []
unfolding octets_from
last-of_9 = refl

next-of_9 : signed_octets (pos 2361183241434822606848) ≡ 0x00 ∷ 0x80 ∷ 0x00 ∷ 0x00 ∷ 0x00 ∷ 0x00 ∷ 0x00 ∷ 0x00 ∷ 0x00 ∷ 0x00 ∷ []
unfolding octets_from
next-of_9 = refl

least-of_9 : signed_octets (negsuc 2361183241434822606847) ≡ 0x80 ∷ 0x00 ∷ 0x00 ∷ 0x00 ∷ 0x00 ∷ 0x00 ∷ 0x00 ∷ 0x00 ∷ 0x00 ∷ []
unfolding octets_from
least-of_9 = refl

below-of_9 : signed_octets (negsuc 2361183241434822606848) ≡ 0xFF ∷ 0x7F ∷ 0xFF ∷ 0xFF ∷ 0xFF ∷ 0xFF ∷ 0xFF ∷ 0xFF ∷ 0xFF ∷ 0xFF ∷ []
unfolding octets_from
below-of_9 = refl

last-of_10 : signed_octets (pos 604462909807314587353087) ≡ 0x7F ∷ 0xFF ∷ 0xFF ∷ 0xFF ∷ 0xFF ∷ 0xFF ∷ 0xFF ∷ 0xFF ∷ 0xFF ∷ 0xFF ∷ []
unfolding octets_from
last-of_10 = refl

next-of_10 : signed_octets (pos 604462909807314587353088) ≡ 0x00 ∷ 0x80 ∷ 0x00 ∷ 0x00 ∷ 0x00 ∷ 0x00 ∷ 0x00 ∷ 0x00 ∷ 0x00 ∷ 0x00 ∷ 0x00 ∷ []
unfolding octets_from
next-of_10 = refl

least-of_10 : signed_octets (negsuc 604462909807314587353087) ≡ 0x80 ∷ 0x00 ∷ 0x00 ∷ 0x00 ∷ 0x00 ∷ 0x00 ∷ 0x00 ∷ 0x00 ∷ 0x00 ∷ 0x00 ∷ []
unfolding octets_from
least-of_10 = refl

below-of_10 : signed_octets (negsuc 604462909807314587353088) ≡ 0xFF ∷ 0x7F ∷ 0xFF ∷ 0xFF ∷ 0xFF ∷ 0xFF ∷ 0xFF ∷ 0xFF ∷ 0xFF ∷ 0xFF ∷ 0xFF ∷ []
unfolding octets_from
below-of_10 = refl

last-of_11 : signed_octets (pos 154742504910672534362390527) ≡ 0x7F ∷ 0xFF ∷ 0xFF ∷ 0xFF ∷ 0xFF ∷ 0xFF ∷ 0xFF ∷ 0xFF ∷ 0xFF ∷ 0xFF ∷ 0xFF ∷ []
unfolding octets_from
last-of_11 = refl

next-of_11 : signed_octets (pos 154742504910672534362390528) ≡ 0x00 ∷ 0x80 ∷ 0x00 ∷ 0x00 ∷ 0x00 ∷ 0x00 ∷ 0x00 ∷ 0x00 ∷ 0x00 ∷ 0x00 ∷ 0x00 ∷ 0x00 ∷ []
unfolding octets_from
next-of_11 = refl

least-of_11 : signed_octets (negsuc 154742504910672534362390527) ≡ 0x80 ∷ 0x00 ∷ 0x00 ∷ 0x00 ∷ 0x00 ∷ 0x00 ∷ 0x00 ∷ 0x00 ∷ 0x00 ∷ 0x00 ∷ 0x00 ∷ []
unfolding octets_from
least-of_11 = refl

below-of_11 : signed_octets (negsuc 154742504910672534362390528) ≡ 0xFF ∷ 0x7F ∷ 0xFF ∷ 0xFF ∷ 0xFF ∷ 0xFF ∷ 0xFF ∷ 0xFF ∷ 0xFF ∷ 0xFF ∷ 0xFF ∷ 0xFF ∷ []
unfolding octets_from
below-of_11 = refl

last-of_12 : signed_octets (pos 39614081257132168796771975167) ≡ 0x7F ∷ 0xFF ∷ 0xFF ∷ 0xFF ∷ 0xFF ∷ 0xFF ∷ 0xFF ∷ 0xFF ∷ 0xFF ∷ 0xFF ∷ 0xFF ∷ 0xFF ∷ []
unfolding octets_from
last-of_12 = refl

next-of_12 : signed_octets (pos 39614081257132168796771975168) ≡ 0x00 ∷ 0x80 ∷ 0x00 ∷ 0x00 ∷ 0x00 ∷ 0x00 ∷ 0x00 ∷ 0x00 ∷ 0x00 ∷ 0x00 ∷ 0x00 ∷ 0x00 ∷ 0x00 ∷ []
unfolding octets_from
next-of_12 = refl

least-of_12 : signed_octets (negsuc 39614081257132168796771975167) ≡ 0x80 ∷ 0x00 ∷ 0x00 ∷ 0x00 ∷ 0x00 ∷ 0x00 ∷ 0x00 ∷ 0x00 ∷ 0x00 ∷ 0x00 ∷ 0x00 ∷ 0x00 ∷ []
unfolding octets_from
least-of_12 = refl

below-of_12 : signed_octets (negsuc 39614081257132168796771975168) ≡ 0xFF ∷ 0x7F ∷ 0xFF ∷ 0xFF ∷ 0xFF ∷ 0xFF ∷ 0xFF ∷ 0xFF ∷ 0xFF ∷ 0xFF ∷ 0xFF ∷ 0xFF ∷ 0xFF ∷ []
unfolding octets_from
below-of_12 = refl

last-of_13 : signed_octets (pos 10141204801825835211973625643007) ≡ 0x7F ∷ 0xFF ∷ 0xFF ∷ 0xFF ∷ 0xFF ∷ 0xFF ∷ 0xFF ∷ 0xFF ∷ 0xFF ∷ 0xFF ∷ 0xFF ∷ 0xFF ∷ 0xFF ∷ []
unfolding octets_from
last-of_13 = refl

next-of_13 : signed_octets (pos 10141204801825835211973625643008) ≡ 0x00 ∷ 0x80 ∷ 0x00 ∷ 0x00 ∷ 0x00 ∷ 0x00 ∷ 0x00 ∷ 0x00 ∷ 0x00 ∷ 0x00 ∷ 0x00 ∷ 0x00 ∷ 0x00 ∷ 0x00 ∷ []
unfolding octets_from
next-of_13 = refl

least-of_13 : signed_octets (negsuc 10141204801825835211973625643007) ≡ 0x80 ∷ 0x00 ∷ 0x00 ∷ 0x00 ∷ 0x00 ∷ 0x00 ∷ 0x00 ∷ 0x00 ∷ 0x00 ∷ 0x00 ∷ 0x00 ∷ 0x00 ∷ 0x00 ∷ []
unfolding octets_from
least-of_13 = refl

below-of_13 : signed_octets (negsuc 10141204801825835211973625643008) ≡ 0xFF ∷ 0x7F ∷ 0xFF ∷ 0xFF ∷ 0xFF ∷ 0xFF ∷ 0xFF ∷ 0xFF ∷ 0xFF ∷ 0xFF ∷ 0xFF ∷ 0xFF ∷ 0xFF ∷ 0xFF ∷ []
unfolding octets_from
below-of_13 = refl

last-of_14 : signed_octets (pos 2596148429267413814265248164610047) ≡ 0x7F ∷ 0xFF ∷ 0xFF ∷ 0xFF ∷ 0xFF ∷ 0xFF ∷ 0xFF ∷ 0xFF ∷ 0xFF ∷ 0xFF ∷ 0xFF ∷ 0xFF ∷ 0xFF ∷ 0xFF ∷ []
unfolding octets_from
last-of_14 = refl

next-of_14 : signed_octets (pos 2596148429267413814265248164610048) ≡ 0x00 ∷ 0x80 ∷ 0x00 ∷ 0x00 ∷ 0x00 ∷ 0x00 ∷ 0x00 ∷ 0x00 ∷ 0x00 ∷ 0x00 ∷ 0x00 ∷ 0x00 ∷ 0x00 ∷ 0x00 ∷ 0x00 ∷ []
unfolding octets_from
next-of_14 = refl

least-of_14 : signed_octets (negsuc 2596148429267413814265248164610047) ≡ 0x80 ∷ 0x00 ∷ 0x00 ∷ 0x00 ∷ 0x00 ∷ 0x00 ∷ 0x00 ∷ 0x00 ∷ 0x00 ∷ 0x00 ∷ 0x00 ∷ 0x00 ∷ 0x00 ∷ 0x00 ∷ []
unfolding octets_from
least-of_14 = refl

below-of_14 : signed_octets (negsuc 2596148429267413814265248164610048) ≡ 0xFF ∷ 0x7F ∷ 0xFF ∷ 0xFF ∷ 0xFF ∷ 0xFF ∷ 0xFF ∷ 0xFF ∷ 0xFF ∷ 0xFF ∷ 0xFF ∷ 0xFF ∷ 0xFF ∷ 0xFF ∷ 0xFF ∷ []
unfolding octets_from
below-of_14 = refl

last-of_15 : signed_octets (pos 664613997892457936451903530140172287) ≡ 0x7F ∷ 0xFF ∷ 0xFF ∷ 0xFF ∷ 0xFF ∷ 0xFF ∷ 0xFF ∷ 0xFF ∷ 0xFF ∷ 0xFF ∷ 0xFF ∷ 0xFF ∷ 0xFF ∷ 0xFF ∷ 0xFF ∷ []
unfolding octets_from
last-of_15 = refl

next-of_15 : signed_octets (pos 664613997892457936451903530140172288) ≡ 0x00 ∷ 0x80 ∷ 0x00 ∷ 0x00 ∷ 0x00 ∷ 0x00 ∷ 0x00 ∷ 0x00 ∷ 0x00 ∷ 0x00 ∷ 0x00 ∷ 0x00 ∷ 0x00 ∷ 0x00 ∷ 0x00 ∷ 0x00 ∷ []
unfolding octets_from
next-of_15 = refl

least-of_15 : signed_octets (negsuc 664613997892457936451903530140172287) ≡ 0x80 ∷ 0x00 ∷ 0x00 ∷ 0x00 ∷ 0x00 ∷ 0x00 ∷ 0x00 ∷ 0x00 ∷ 0x00 ∷ 0x00 ∷ 0x00 ∷ 0x00 ∷ 0x00 ∷ 0x00 ∷ 0x00 ∷ []
unfolding octets_from
least-of_15 = refl

below-of_15 : signed_octets (negsuc 664613997892457936451903530140172288) ≡ 0xFF ∷ 0x7F ∷ 0xFF ∷ 0xFF ∷ 0xFF ∷ 0xFF ∷ 0xFF ∷ 0xFF ∷ 0xFF ∷ 0xFF ∷ 0xFF ∷ 0xFF ∷ 0xFF ∷ 0xFF ∷ 0xFF ∷ 0xFF ∷ []
unfolding octets_from
below-of_15 = refl

last-of_16 : signed_octets (pos 170141183460469231731687303715884105727) ≡ 0x7F ∷ 0xFF ∷ 0xFF ∷ 0xFF ∷ 0xFF ∷ 0xFF ∷ 0xFF ∷ 0xFF ∷ 0xFF ∷ 0xFF ∷ 0xFF ∷ 0xFF ∷ 0xFF ∷ 0xFF ∷ 0xFF ∷ 0xFF ∷ []
unfolding octets_from
last-of_16 = refl

next-of_16 : signed_octets (pos 170141183460469231731687303715884105728) ≡ 0x00 ∷ 0x80 ∷ 0x00 ∷ 0x00 ∷ 0x00 ∷ 0x00 ∷ 0x00 ∷ 0x00 ∷ 0x00 ∷ 0x00 ∷ 0x00 ∷ 0x00 ∷ 0x00 ∷ 0x00 ∷ 0x00 ∷ 0x00 ∷ 0x00 ∷ []
unfolding octets_from
next-of_16 = refl

least-of_16 : signed_octets (negsuc 170141183460469231731687303715884105727) ≡ 0x80 ∷ 0x00 ∷ 0x00 ∷ 0x00 ∷ 0x00 ∷ 0x00 ∷ 0x00 ∷ 0x00 ∷ 0x00 ∷ 0x00 ∷ 0x00 ∷ 0x00 ∷ 0x00 ∷ 0x00 ∷ 0x00 ∷ 0x00 ∷ []
unfolding octets_from
least-of_16 = refl

below-of_16 : signed_octets (negsuc 170141183460469231731687303715884105728) ≡ 0xFF ∷ 0x7F ∷ 0xFF ∷ 0xFF ∷ 0xFF ∷ 0xFF ∷ 0xFF ∷ 0xFF ∷ 0xFF ∷ 0xFF ∷ 0xFF ∷ 0xFF ∷ 0xFF ∷ 0xFF ∷ 0xFF ∷ 0xFF ∷ 0xFF ∷ []
unfolding octets_from
below-of_16 = refl

nine-zero : are_nine_equal (0x00 ∷ 0x7F ∷ []) ≡ true
nine-zero = refl

nine-one : are_nine_equal (0xFF ∷ 0x80 ∷ []) ≡ true
nine-one = refl

eight-zero : are_nine_equal (0x00 ∷ 0x80 ∷ []) ≡ false
eight-zero = refl

eight-one : are_nine_equal (0xFF ∷ 0x7F ∷ []) ≡ false
eight-one = refl

-- LENGTHS READ
abbrev start : Spot
start = record { at = 0; nodes = 0 }

abbrev behind : ℕ → Spot
behind n = record { at = n; nodes = 0 }

read-127 : length_at (0x7F ∷ []) start ≡ Ok (127, behind 1)
unfolding length_at length_from raw_at window_at left_at
read-127 = refl

read-128 : length_at (0x81 ∷ 0x80 ∷ []) start ≡ Ok (128, behind 2)
unfolding length_at length_from raw_at window_at left_at
read-128 = refl

read-256 : length_at (0x82 ∷ 0x01 ∷ 0x00 ∷ []) start ≡ Ok (256, behind 3)
unfolding length_at length_from raw_at window_at left_at
read-256 = refl

read-none : length_at ([]) start ≡ Err (stop_at 0 Short)
unfolding length_at length_from raw_at window_at left_at
read-none = refl

read-cut : length_at (0x82 ∷ 0x01 ∷ []) start ≡ Err (stop_at 0 Short)
unfolding length_at length_from raw_at window_at left_at
read-cut = refl

read-indefinite : length_at (0x80 ∷ []) start ≡ Err (stop_at 0 NotShortest)
unfolding length_at length_from raw_at window_at left_at
read-indefinite = refl

read-long_127 : length_at (0x81 ∷ 0x7F ∷ []) start ≡ Err (stop_at 0 NotShortest)
unfolding length_at length_from raw_at window_at left_at
read-long_127 = refl

read-first_zero : length_at (0x82 ∷ 0x00 ∷ 0x80 ∷ []) start ≡ Err (stop_at 0 NotShortest)
unfolding length_at length_from raw_at window_at left_at
read-first_zero = refl
