-- Names as written: a local name, or a prefix and a local name joined by a colon (Namespaces in XML 1.0, section 4).
use Rattle.std.proofs.Common.{◌≡◌, ℕ, ◌+◌, ◌<◌, Bool, true, false, cond, eqb, List, [], ◌∷◌, ◌++◌, length, take, drop, Some, None, refl, sym, ap, subst, ◌∙◌, append_assoc, inl, inr, arith}
use Rattle.std.specs.Prelude.{◌&&◌, not, IsUtf8, encode_utf8, encode_utf8_all, nat_le, bytes_eq, codes}
use Rattle.std.specs.Str.{chars, is_utf8}
use Rattle.std.specs.List.{list_all}
use Rattle.std.proofs.lemmas.List.{length-append, take_at, drop_at}
use Rattle.std.proofs.lemmas.Str.{chars-nil, chars-append, chars_past_char, encode_ascii, encodes-chars, IsUtf8-append, IsUtf8-from_is_utf8, is_utf8-from_IsUtf8}
use Rattle.std.proofs.Math.Utf8.{encode}
use Rattle.std.proofs.lemmas.Bool.{cases_lt, cases_Bool, le-leb, lt-leb, true≢false, and_parts, and_from, and_right}
use Rattle.std.proofs.lemmas.Slice.Eq.{bytes_eq-Decides}
use Rattle.base_texts.specs.Characters.{is_name_start, is_name_char, is_name, is_ncname}
use Rattle.base_texts.specs.declared.texts.Name.{Name}
use Rattle.base_texts.proofs.CharacterLaws.{name_start-name_char}
use Rattle.base_texts.proofs.NameLaws.{same_names}
use Rattle.base_texts.specs.Limits.{is_empty, spells_ncname, is_name_part, is_xmlns}
use Rattle.base_texts.specs.Namespaces.{xmlns_prefix}
use Rattle.base_texts.specs.Entries.{beside}
use Rattle.xml_pieces.specs.Pieces.{IsName}
use Rattle.xml_pieces.proofs.Names.{list_all-append}
use Rattle.xml_pieces.proofs.Runs.{prefix_again, prefix_whole}
use Rattle.xml_pieces.specs.Namespaces.{is_long, binds, bound_prefix, is_unbound, or_absent, attribute_space, element_name, attribute_name}
use Rattle.xml_pieces.specs.QNames.{colon_at, has_colon, prefix_of, local_of, is_qname}
use Rattle.xml_write.proofs.Texts.{is_high, high_bytes}

-- an NCName of at most 255 bytes
pub record IsPart (part : List ℕ) : Type 0 where
  pub utf8 : IsUtf8 part
  pub named : is_ncname (chars part) ≡ true
  pub short : nat_le (length part) 255 ≡ true

pub part_of : (part : List ℕ) → is_name_part part ≡ true → IsPart part
part_of part sound =
    let one = and_parts (spells_ncname part) (nat_le (length part) 255) sound in
    let two = and_parts (is_utf8 part) (is_ncname (chars part)) one.0 in
    record { utf8 = IsUtf8-from_is_utf8 part two.0; named = two.1; short = one.1 }

part_name : (part : List ℕ) → IsPart part → is_name (chars part) ≡ true
part_name part p = (and_parts (is_name (chars part)) (list_all (λ c. not (eqb c 58)) (chars part)) p.named).0

part_spells : (part : List ℕ) → IsPart part → spells_ncname part ≡ true
part_spells part p = and_from (is_utf8 part) (is_ncname (chars part)) (is_utf8-from_IsUtf8 part p.utf8) p.named

some_part : (part : List ℕ) → is_name (chars part) ≡ true → is_empty part ≡ false
some_part [] e = absurd (true≢false (sym e ∙ ap is_name chars-nil))
some_part (b ∷ bs) e = refl

pub part_some : (part : List ℕ) → IsPart part → is_empty part ≡ false
part_some part p = some_part part (part_name part p)

-- ---- no colon in a part

abbrev not_colon : ℕ → Bool
not_colon b = not (eqb b 58)

high_colon : (b : ℕ) → is_high b ≡ true → not_colon b ≡ true
high_colon b e = grind (arith, e)

all_high : (bs : List ℕ) → list_all is_high bs ≡ true → list_all not_colon bs ≡ true
all_high [] e = refl
all_high (b ∷ bs) e = let both = and_parts (is_high b) (list_all is_high bs) e in rw (high_colon b both.0) (all_high bs both.1)

char_colon : (c : ℕ) → not_colon c ≡ true → list_all not_colon (encode_utf8 c) ≡ true
char_colon c e = elim (cases_lt c 128) [
  | inl low ↦ (
      let one : list_all not_colon (c ∷ []) ≡ true = rw e refl in
      subst (λ (x : List ℕ). list_all not_colon x ≡ true) (sym (encode_ascii c low)) one)
  | inr high ↦ all_high (encode_utf8 c) (high_bytes c high)
]

chars_colon : (cs : List ℕ) → list_all not_colon cs ≡ true → list_all not_colon (encode_utf8_all cs) ≡ true
chars_colon [] e = refl
chars_colon (c ∷ cs) e =
    let both = and_parts (not_colon c) (list_all not_colon cs) e in
    list_all-append not_colon (encode_utf8 c) (encode_utf8_all cs) (char_colon c both.0) (chars_colon cs both.1)

no_colon : (part : List ℕ) → IsPart part → list_all not_colon part ≡ true
no_colon part p =
    let apart = (and_parts (is_name (chars part)) (list_all not_colon (chars part)) p.named).1 in
    subst (λ (x : List ℕ). list_all not_colon x ≡ true) (encodes-chars part p.utf8) (chars_colon (chars part) apart)

-- ---- a local name alone

module _ (local : List ℕ) (part : IsPart local) where
  whole_colon : colon_at local ≡ length local
  whole_colon = prefix_whole not_colon local (no_colon local part)

  pub plain_colon : has_colon local ≡ false
  plain_colon = ap (λ (n : ℕ). not (nat_le (length local) n)) whole_colon ∙ ap not (le-leb (length local) (length local) (omega arith))

  pub plain_prefix : prefix_of local ≡ []
  unfolding prefix_of
  plain_prefix = ap (λ (b : Bool). cond b (take (colon_at local) local) []) plain_colon

  pub plain_local : local_of local ≡ local
  unfolding local_of
  plain_local = ap (λ (b : Bool). cond b (drop (colon_at local + 1) local) local) plain_colon

  pub plain_qname : is_qname local ≡ true
  unfolding is_qname
  plain_qname = rw (plain_colon, plain_local, part_spells local part) refl

  pub plain_short : is_long local ≡ false
  unfolding is_long
  plain_short = rw (plain_prefix, plain_local, part.short) refl

  pub plain_name : IsName local
  plain_name = record { utf8 = part.utf8; named = part_name local part }

-- ---- a prefix and a local name

colon_name : is_name_char 58 ≡ true
unfolding is_name_char
colon_name = refl

name_chars : (cs : List ℕ) → is_name cs ≡ true → list_all is_name_char cs ≡ true
name_chars [] e = absurd (true≢false (sym e))
name_chars (c ∷ cs) e =
    let both = and_parts (is_name_start c) (list_all is_name_char cs) e in
    rw (name_start-name_char c both.0) both.1

joined_chars : (cs ds : List ℕ) → is_name cs ≡ true → is_name ds ≡ true → is_name (cs ++ 58 ∷ ds) ≡ true
joined_chars [] ds e f = absurd (true≢false (sym e))
joined_chars (c ∷ cs) ds e f =
    let both = and_parts (is_name_start c) (list_all is_name_char cs) e in
    let rest : list_all is_name_char (58 ∷ ds) ≡ true = rw colon_name (name_chars ds f) in
    rw both.0 (list_all-append is_name_char cs (58 ∷ ds) both.1 rest)

module _ (prefix local : List ℕ) (first : IsPart prefix) (second : IsPart local) where
  abbrev pub joined : List ℕ
  joined = prefix ++ 58 ∷ local

  front_colon : colon_at joined ≡ length prefix
  front_colon = prefix_again not_colon prefix local 58 (no_colon prefix first) refl

  pub joined_colon : has_colon joined ≡ true
  joined_colon =
      let longer : length prefix < length joined = omega (arith, length-append prefix (58 ∷ local)) in
      ap (λ (n : ℕ). not (nat_le (length joined) n)) front_colon ∙ ap not (lt-leb (length joined) (length prefix) longer)

  pub joined_prefix : prefix_of joined ≡ prefix
  unfolding prefix_of
  joined_prefix = ap (λ (b : Bool). cond b (take (colon_at joined) joined) []) joined_colon ∙ ap (λ (n : ℕ). take n joined) front_colon ∙ take_at prefix (58 ∷ local) (length prefix) refl

  behind_colon : drop (length prefix + 1) joined ≡ local
  behind_colon =
      ap (drop (length prefix + 1)) (sym (append_assoc prefix (58 ∷ []) local)) ∙ drop_at (prefix ++ 58 ∷ []) local (length prefix + 1) (omega (arith, length-append prefix (58 ∷ [])))

  pub joined_local : local_of joined ≡ local
  unfolding local_of
  joined_local = ap (λ (b : Bool). cond b (drop (colon_at joined + 1) joined) joined) joined_colon ∙ ap (λ (n : ℕ). drop (n + 1) joined) front_colon ∙ behind_colon

  pub joined_qname : is_qname joined ≡ true
  unfolding is_qname
  joined_qname = rw (joined_colon, joined_prefix, joined_local, part_spells prefix first, part_spells local second) refl

  pub joined_short : is_long joined ≡ false
  unfolding is_long
  joined_short = rw (joined_prefix, joined_local, first.short, second.short) refl

  tail_utf8 : IsUtf8 (58 ∷ local)
  unfolding is_utf8 chars encode
  tail_utf8 = IsUtf8-append (58 ∷ []) local (IsUtf8-from_is_utf8 (58 ∷ []) refl) second.utf8

  tail_chars : chars (58 ∷ local) ≡ 58 ∷ chars local
  tail_chars = chars_past_char (58 ∷ local) local 58 tail_utf8 (ap (λ (x : List ℕ). x ++ local) (sym (encode_ascii 58 (omega arith))))

  pub joined_name : IsName joined
  joined_name = record {
    utf8 = IsUtf8-append prefix (58 ∷ local) first.utf8 tail_utf8;
    named = ap is_name (chars-append prefix (58 ∷ local) first.utf8 ∙ ap (λ (x : List ℕ). chars prefix ++ x) tail_chars) ∙ joined_chars (chars prefix) (chars local) (part_name prefix first) (part_name local second);
  }

  pub joined_not_xmlns : bytes_eq joined xmlns_prefix ≡ false
  joined_not_xmlns = elim (cases_Bool (bytes_eq joined xmlns_prefix)) [
    | inl e ↦ absurd (
        let same : joined ≡ xmlns_prefix = (bytes_eq-Decides joined xmlns_prefix).0 e in
        let none : has_colon xmlns_prefix ≡ false = refl in
        true≢false (sym joined_colon ∙ ap has_colon same ∙ none))
    | inr e ↦ e
  ]

-- ---- what a written name stands for

-- within this scope the written name stands for the name
pub record IsResolved (scope : List (List ℕ × List ℕ)) (name : Name) (written : List ℕ) : Type 0 where
  pub named : IsName written
  pub qname : is_qname written ≡ true
  pub short : is_long written ≡ false
  pub bound : is_unbound scope (prefix_of written) ≡ false
  pub element : element_name scope written ≡ name
  pub attribute : attribute_name scope written ≡ name
  pub plain : is_xmlns name ≡ false → binds written ≡ false

module _ (scope : List (List ℕ × List ℕ)) (name : Name) (part : IsPart name.local) where
  module _ (space_is : name.space ≡ []) (absent : beside [] scope ≡ None) where
    plain_bound : is_unbound scope (prefix_of name.local) ≡ false
    unfolding is_unbound
    plain_bound = rw (plain_prefix name.local part) refl

    plain_element : element_name scope name.local ≡ name
    unfolding element_name
    plain_element = same_names (element_name scope name.local) name (ap (λ (x : List ℕ). or_absent (beside x scope)) (plain_prefix name.local part) ∙ ap or_absent absent ∙ sym space_is) (plain_local name.local part)

    plain_attribute : attribute_name scope name.local ≡ name
    unfolding attribute_name
    plain_attribute = same_names (attribute_name scope name.local) name (ap (attribute_space scope) (plain_prefix name.local part) ∙ sym space_is) (plain_local name.local part)

    plain_binds : is_xmlns name ≡ false → binds name.local ≡ false
    unfolding binds
    plain_binds e =
        let other : bytes_eq name.local xmlns_prefix ≡ false = ap (λ (x : List ℕ). is_empty x && bytes_eq name.local xmlns_prefix) (sym space_is) ∙ e in
        rw (other, plain_prefix name.local part) refl

    pub plain_resolved : IsResolved scope name name.local
    plain_resolved = record {
      named = plain_name name.local part;
      qname = plain_qname name.local part;
      short = plain_short name.local part;
      bound = plain_bound;
      element = plain_element;
      attribute = plain_attribute;
      plain = plain_binds;
    }

  module _ (prefix : List ℕ) (first : IsPart prefix) (other : bytes_eq prefix xmlns_prefix ≡ false) (found : beside prefix scope ≡ Some name.space) where
    abbrev written : List ℕ
    written = prefix ++ 58 ∷ name.local

    prefix_is : prefix_of written ≡ prefix
    prefix_is = joined_prefix prefix name.local first part

    joined_bound : is_unbound scope (prefix_of written) ≡ false
    unfolding is_unbound
    joined_bound = rw (prefix_is, other, found) (and_right (not (is_empty prefix)) false refl)

    joined_element : element_name scope written ≡ name
    unfolding element_name
    joined_element = same_names (element_name scope written) name (ap (λ (x : List ℕ). or_absent (beside x scope)) prefix_is ∙ ap or_absent found) (joined_local prefix name.local first part)

    joined_attribute : attribute_name scope written ≡ name
    unfolding attribute_name
    joined_attribute =
        same_names (attribute_name scope written) name
        (ap (attribute_space scope) prefix_is ∙ ap (λ (b : Bool). cond b [] (or_absent (beside prefix scope))) (part_some prefix first) ∙ ap or_absent found)
        (joined_local prefix name.local first part)

    joined_binds : binds written ≡ false
    unfolding binds
    joined_binds = rw (joined_not_xmlns prefix name.local first part, prefix_is, other) refl

    pub joined_resolved : IsResolved scope name written
    joined_resolved = record {
      named = joined_name prefix name.local first part;
      qname = joined_qname prefix name.local first part;
      short = joined_short prefix name.local first part;
      bound = joined_bound;
      element = joined_element;
      attribute = joined_attribute;
      plain = λ e. joined_binds;
    }

-- ---- declarations

xmlns_part : IsPart xmlns_prefix
unfolding is_utf8 chars encode is_name_start is_name_char
xmlns_part = record { utf8 = IsUtf8-from_is_utf8 xmlns_prefix refl; named = refl; short = refl }

-- the written name of an attribute that binds this prefix
pub record Binds (prefix written : List ℕ) : Type 0 where
  pub named : IsName written
  pub qname : is_qname written ≡ true
  pub short : is_long written ≡ false
  pub binding : binds written ≡ true
  pub prefix_is : bound_prefix written ≡ prefix

module _ (prefix : List ℕ) (part : IsPart prefix) where
  declares : binds (xmlns_prefix ++ 58 ∷ prefix) ≡ true
  unfolding binds
  declares = rw (joined_prefix xmlns_prefix prefix xmlns_part part) refl

  declares_it : bound_prefix (xmlns_prefix ++ 58 ∷ prefix) ≡ prefix
  unfolding bound_prefix
  declares_it = joined_local xmlns_prefix prefix xmlns_part part

  pub declared_name : Binds prefix (codes "xmlns:" ++ prefix)
  declared_name = record {
    named = joined_name xmlns_prefix prefix xmlns_part part;
    qname = joined_qname xmlns_prefix prefix xmlns_part part;
    short = joined_short xmlns_prefix prefix xmlns_part part;
    binding = declares;
    prefix_is = declares_it;
  }
