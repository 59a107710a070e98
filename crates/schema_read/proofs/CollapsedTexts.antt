-- A text of XML characters is one when it is collapsed, too.
use Rattle.std.proofs.Common.{◌≡◌, ℕ, ◌<◌, true, List, [], ◌∷◌, ◌++◌, length, get_or, refl, ap, sym, ◌∙◌, subst, arith, append_assoc, append-nil, ◌&&◌, filter, IsUtf8}
use Rattle.schema_read.proofs.Words.{list_all, slice_split, onto_first, join_with_byte, IsCharBoundary, and_parts, cond_both, take-append_seam, drop-append_seam, get_or-append_seam, has_xml_chars, is_white_space, has_bytes, Collapse}
use Rattle.std.specs.Str.{chars, is_utf8}
use Rattle.std.proofs.Math.Utf8.{encode}
use Rattle.base_texts.specs.Characters.{is_xml_char}
use Rattle.base_texts.specs.WhiteSpace.{words_of, treated}
use Rattle.std.proofs.lemmas.List.Folds.{list_all-append}
use Rattle.std.proofs.lemmas.Str.{chars-append, chars_past_char, encode_ascii, IsUtf8-take, IsUtf8-drop, IsUtf8-from_is_utf8, IsCharBoundary-before_ascii, IsCharBoundary-after_ascii}
use Rattle.base_texts.proofs.FirstWord.{white_space-ascii}
use Rattle.xml_read.proofs.Keeping.{IsFine, fine_chars, nothing_fine, fine-append}
use Rattle.schema_read.proofs.FaultlessRoles.{Each}

-- ---- what stands before an ASCII byte, and behind it

below_end : (x r : List ℕ) (b : ℕ) → length x < length (x ++ b ∷ r)
below_end [] r b = omega arith
below_end (a ∷ x) r b = let h = below_end x r b in omega (arith, h)

both_fine : (x r : List ℕ) (b : ℕ) → b < 128 → IsFine (x ++ b ∷ r) → IsFine x × IsFine r
both_fine x r b below h =
    let whole = x ++ b ∷ r in
    let low : get_or whole (length x) 0 < 128 = rw (get_or-append_seam x b r 0) below in
    let cut : IsCharBoundary whole (length x) = IsCharBoundary-before_ascii whole (length x) (below_end x r b) low in
    let ux : IsUtf8 x = subst IsUtf8 (take-append_seam x (b ∷ r)) (IsUtf8-take whole (length x) h.utf8 cut) in
    let us : IsUtf8 (b ∷ r) = subst IsUtf8 (drop-append_seam x (b ∷ r)) (IsUtf8-drop whole (length x) h.utf8 cut) in
    let ur : IsUtf8 r = IsUtf8-drop (b ∷ r) 1 us (IsCharBoundary-after_ascii (b ∷ r) 0 us (omega arith) below) in
    let one : chars (b ∷ r) ≡ b ∷ chars r = chars_past_char (b ∷ r) r b us (ap (λ e. e ++ r) (sym (encode_ascii b below))) in
    let both : chars whole ≡ chars x ++ b ∷ chars r = chars-append x (b ∷ r) ux ∙ ap (λ cs. chars x ++ cs) one in
    let apart : (list_all is_xml_char (chars x) && list_all is_xml_char (b ∷ chars r)) ≡ true =
    sym (ap (list_all is_xml_char) both ∙ list_all-append is_xml_char (chars x) (b ∷ chars r)) ∙ h.fine in
    let two = and_parts (list_all is_xml_char (chars x)) (list_all is_xml_char (b ∷ chars r)) apart in
    (record { utf8 = ux; fine = two.0 }, record { utf8 = ur; fine = (and_parts (is_xml_char b) (list_all is_xml_char (chars r)) two.1).1 })

-- ---- the parts between white space

-- with more before the first part
abbrev behind : List ℕ → List (List ℕ) → List (List ℕ)
behind front [] = front ∷ []
behind front (part ∷ parts) = (front ++ part) ∷ parts

behind_onto : (front : List ℕ) (b : ℕ) (parts : List (List ℕ)) → behind front (onto_first b parts) ≡ behind (front ++ b ∷ []) parts
behind_onto front b [] = refl
behind_onto front b (part ∷ parts) = ap (λ l. l ∷ parts) (sym (append_assoc front (b ∷ []) part))

nothing_before : (parts : List (List ℕ)) → Each IsFine (behind [] parts) → Each IsFine parts
nothing_before [] h = tt
nothing_before (part ∷ parts) h = h

parts_fine : (front bs : List ℕ) → IsFine (front ++ bs) → Each IsFine (behind front (slice_split is_white_space bs))
parts_fine front [] h = (h, tt)
parts_fine front (b ∷ bs) h =
    let parts = slice_split is_white_space bs in
    cond_both (is_white_space b) ([] ∷ parts) (onto_first b parts) (λ ps. Each IsFine (behind front ps))
    (λ white.
    let two = both_fine front bs b (white_space-ascii b white) h in
    (subst IsFine (sym (append-nil front)) two.0, nothing_before parts (parts_fine [] bs two.1)))
    (λ other. subst (Each IsFine) (sym (behind_onto front b parts)) (parts_fine (front ++ b ∷ []) bs (subst IsFine (sym (append_assoc front (b ∷ []) bs)) h)))

words_fine : (parts : List (List ℕ)) → Each IsFine parts → Each IsFine (filter has_bytes parts)
words_fine [] h = tt
words_fine (part ∷ parts) h =
    cond_both (has_bytes part) (part ∷ filter has_bytes parts) (filter has_bytes parts) (Each IsFine) (λ is. (h.0, words_fine parts h.1)) (λ is. words_fine parts h.1)

-- ---- the words joined by spaces

space_fine : IsFine (0x20 ∷ [])
unfolding is_xml_char is_utf8 chars encode
space_fine = record { utf8 = IsUtf8-from_is_utf8 (0x20 ∷ []) refl; fine = refl }

join_fine : (ws : List (List ℕ)) → Each IsFine ws → IsFine (join_with_byte 0x20 ws)
join_fine [] h = nothing_fine
join_fine (w ∷ []) h = h.0
join_fine (w ∷ v ∷ ws) h =
    fine-append w (0x20 ∷ join_with_byte 0x20 (v ∷ ws)) h.0 (fine-append (0x20 ∷ []) (join_with_byte 0x20 (v ∷ ws)) space_fine (join_fine (v ∷ ws) h.1))

collapsed_fine : (text : List ℕ) → IsFine text → IsFine (treated Collapse text)
unfolding treated words_of
collapsed_fine text h =
    join_fine (words_of text) (words_fine (slice_split is_white_space text) (nothing_before (slice_split is_white_space text) (parts_fine [] text h)))

pub collapsed_xml : (text : List ℕ) → has_xml_chars text ≡ true → has_xml_chars (treated Collapse text) ≡ true
collapsed_xml text h =
    let two = and_parts (is_utf8 text) (list_all is_xml_char (chars text)) h in
    fine_chars (treated Collapse text) (collapsed_fine text (record { utf8 = IsUtf8-from_is_utf8 text two.0; fine = two.1 }))
