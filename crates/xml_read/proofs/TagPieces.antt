-- Tags that are a written name between brackets are pieces.
use Rattle.std.proofs.Common.{◌≡◌, ℕ, suc, ◌+◌, ◌<◌, Bool, true, false, eqb, List, [], ◌∷◌, ◌++◌, length, take, drop, get_or, refl, sym, ap, subst, ◌∙◌, append_assoc, add-one, arith}
use Rattle.std.specs.Prelude.{not, nat_le, codes, IsUtf8}
use Rattle.std.specs.Str.{chars, is_utf8}
use Rattle.std.specs.List.{list_all}
use Rattle.std.proofs.Math.Seq.{drop-cons}
use Rattle.std.proofs.lemmas.Bool.Decides.{nat_tests}
use Rattle.std.proofs.lemmas.List.{append-nil, take-append-drop}
use Rattle.std.proofs.lemmas.List.Sums.{prefix_len_stops}
use Rattle.std.proofs.lemmas.Str.{chars-append, chars_past_char, encode_ascii, IsUtf8-append, IsUtf8-from_is_utf8}
use Rattle.std.proofs.Math.Utf8.{encode}
use Rattle.base_texts.specs.Characters.{is_name_start, is_name_char, is_name, is_ncname}
use Rattle.base_texts.specs.Limits.{spells_ncname}
use Rattle.base_texts.proofs.CharacterLaws.{name_start-name_char}
use Rattle.xml_pieces.specs.Pieces.{Start, End, IsName, Begins}
use Rattle.xml_pieces.specs.QNames.{colon_at, has_colon, prefix_of, local_of, is_qname}
use Rattle.xml_pieces.proofs.Names.{list_all-append}
use Rattle.xml_read.specs.Private.Noting.{bare}
use Rattle.xml_read.proofs.Keeping.{and_parts}

-- ---- a QName is a Name

part_name : (part : List ℕ) → spells_ncname part ≡ true → IsName part
part_name part e =
    let both = and_parts (is_utf8 part) (is_ncname (chars part)) e in
    record { utf8 = IsUtf8-from_is_utf8 part both.0; named = (and_parts (is_name (chars part)) _ both.1).0 }

colon_name : is_name_char 58 ≡ true
unfolding is_name_char
colon_name = refl

name_chars : (cs : List ℕ) → is_name cs ≡ true → list_all is_name_char cs ≡ true
name_chars [] e = absurd cc
name_chars (c ∷ cs) e =
    let both = and_parts (is_name_start c) (list_all is_name_char cs) e in
    rw (name_start-name_char c both.0) both.1

joined_chars : (cs ds : List ℕ) → is_name cs ≡ true → is_name ds ≡ true → is_name (cs ++ 58 ∷ ds) ≡ true
joined_chars [] ds e f = absurd cc
joined_chars (c ∷ cs) ds e f =
    let both = and_parts (is_name_start c) (list_all is_name_char cs) e in
    let rest : list_all is_name_char (58 ∷ ds) ≡ true = rw colon_name (name_chars ds f) in
    rw both.0 (list_all-append is_name_char cs (58 ∷ ds) both.1 rest)

colon_utf8 : (local : List ℕ) → IsUtf8 local → IsUtf8 (58 ∷ local)
unfolding is_utf8 chars encode
colon_utf8 local u = IsUtf8-append (58 ∷ []) local (IsUtf8-from_is_utf8 (58 ∷ []) refl) u

joined_name : (prefix local : List ℕ) → IsName prefix → IsName local → IsName (prefix ++ 58 ∷ local)
joined_name prefix local first second =
    let tail = colon_utf8 local second.utf8 in
    let chars_are : chars (58 ∷ local) ≡ 58 ∷ chars local = chars_past_char (58 ∷ local) local 58 tail (ap (λ (x : List ℕ). x ++ local) (sym (encode_ascii 58 (omega arith)))) in
    record {
      utf8 = IsUtf8-append prefix (58 ∷ local) first.utf8 tail;
      named = ap is_name (chars-append prefix (58 ∷ local) first.utf8 ∙ ap (λ (x : List ℕ). chars prefix ++ x) chars_are) ∙ joined_chars (chars prefix) (chars local) first.named second.named;
    }

is_colon : (b : ℕ) → not (eqb b 58) ≡ false → b ≡ 58
is_colon b e = grind (arith, e)

within_colon : (m n : ℕ) → not (nat_le m n) ≡ true → n < m
within_colon m n e = grind (arith, nat_tests)

at_colon : (w : List ℕ) → has_colon w ≡ true → w ≡ take (colon_at w) w ++ 58 ∷ drop (colon_at w + 1) w
at_colon w e =
    let k = colon_at w in
    let within : k < length w = within_colon (length w) k e in
    let colon : get_or w k 0 ≡ 58 = is_colon (get_or w k 0) (prefix_len_stops (λ b. not (eqb b 58)) w 0 within) in
    let tail : drop k w ≡ 58 ∷ drop (k + 1) w = rw add-one (drop-cons w k 0 within ∙ ap (λ (b : ℕ). b ∷ drop (suc k) w) colon) in
    sym (take-append-drop k w) ∙ ap (λ (x : List ℕ). take k w ++ x) tail

qname_by : (w : List ℕ) (b : Bool) → has_colon w ≡ b → is_qname w ≡ true → IsName w
unfolding is_qname prefix_of local_of
qname_by w false e q = part_name w (rw e at q)
qname_by w true e q =
    let both = and_parts (spells_ncname (take (colon_at w) w)) (spells_ncname (drop (colon_at w + 1) w)) (rw e at q) in
    subst IsName (sym (at_colon w e)) (joined_name (take (colon_at w) w) (drop (colon_at w + 1) w) (part_name (take (colon_at w) w) both.0) (part_name (drop (colon_at w + 1) w) both.1))

pub qname_name : (w : List ℕ) → is_qname w ≡ true → IsName w
qname_name w q = qname_by w (has_colon w) refl q

-- ---- tags

apart : (more : List ℕ) → 0x3C ∷ more ≡ 0xD ∷ [] → ⊥
apart more e = cc

start_text : (name : List ℕ) → name ++ 0x3E ∷ [] ≡ name ++ [] ++ [] ++ codes ">"
start_text name = simp append-nil

end_text : (name : List ℕ) → name ++ 0x3E ∷ [] ≡ name ++ [] ++ codes ">"
end_text name = simp append-nil

tag_parts : (first name rest : List ℕ) → first ++ name ++ 0x3E ∷ rest ≡ (first ++ name ++ 0x3E ∷ []) ++ rest
tag_parts first name rest = simp append_assoc

pub start_begins : (name bytes rest : List ℕ) → is_qname name ≡ true → bytes ≡ 0x3C ∷ name ++ 0x3E ∷ rest → Begins (Start (bare name)) bytes rest
start_begins name bytes rest q is = record {
  front = 0x3C ∷ name ++ 0x3E ∷ [];
  form = (name ++ 0x3E ∷ [], record { listed = []; space = []; named = qname_name name q; are = refl; blank = refl; text_is = start_text name }, refl);
  parts = is ∙ tag_parts (0x3C ∷ []) name rest;
  lone = λ more e r. apart (name ++ 0x3E ∷ []) e;
}

pub end_begins : (name bytes rest : List ℕ) → is_qname name ≡ true → bytes ≡ 0x3C ∷ 0x2F ∷ name ++ 0x3E ∷ rest → Begins (End name) bytes rest
end_begins name bytes rest q is = record {
  front = 0x3C ∷ 0x2F ∷ name ++ 0x3E ∷ [];
  form = (name ++ 0x3E ∷ [], record { space = []; named = qname_name name q; blank = refl; text_is = end_text name }, refl);
  parts = is ∙ tag_parts (0x3C ∷ 0x2F ∷ []) name rest;
  lone = λ more e r. apart (0x2F ∷ name ++ 0x3E ∷ []) e;
}
