-- Reading the piece at the start of the bytes.
use Rattle.std.specs.Prelude.{◌≡◌, ◌==◌, ◌&&◌, ◌||◌, not, ℕ, zero, suc, nat_le, nat_lt, Bool, true, false, List, [], ◌∷◌, ◌++◌, length, take, drop, Option, Some, None, option_and_then, encode_utf8, chars, bytes_eq, codes, if◌then◌else◌}
use Rattle.std.specs.List.{prefix_len, list_all}
use Rattle.std.specs.Str.{str_eq_ignore_ascii_case}
use Rattle.base_texts.specs.Characters.{is_xml_char, is_name, is_ncname}
use Rattle.base_texts.specs.WhiteSpace.{is_white_space}
use Rattle.xml_pieces.specs.Pieces.{Tag, Piece, Declaration, Start, Empty, End, Comment, Instruction, CData, Reference, Character, behind, has_byte, is_quote, line_ends, spaced_ends, Entity, Less, Greater, Ampersand, Apostrophe, Quotation, character_of, rest_of, is_digit, number, Manner, Exact, Loose, is_apart, xml_name, version_name, encoding_name, standalone_name, is_standalone, is_version, is_encoding}

infixl 10 ◌>>=◌
abbrev pub ◌>>=◌ : {A B : Type 0} → Option A → (A → Option B) → Option B
o >>= f = option_and_then f o

-- The result of a function, seen by view, is the result of reading.
abbrev pub Gives : {X Y : Type 0} → (X → Y) → Option X → Option Y → Type 0
Gives view (Some x) read = read ≡ Some (view x)
Gives view None read = read ≡ None

-- `f` of the value, if there is one, and `other` if there is none.
abbrev pub ahead : {A B : Type 0} → Option A → B → (A → B) → B
ahead (Some x) other f = f x
ahead None other f = other

-- The value, if the test holds.
abbrev pub only : {A : Type 0} → Bool → Option A → Option A
only b o = if b then o else None

abbrev pub before : {A : Type 0} → A → List A × List ℕ → List A × List ℕ
before x r = (x ∷ r.0, r.1)

-- Items from the start, up to the first place where none begins; n bounds their number.
abbrev pub many : {A : Type 0} → (List ℕ → Option (A × List ℕ)) → ℕ → List ℕ → List A × List ℕ
many item zero bytes = ([], bytes)
many item (suc n) bytes = ahead (item bytes) ([], bytes) (λ x. before x.0 (many item n x.1))

abbrev pub put : ℕ → Option (List ℕ × List ℕ) → Option (List ℕ × List ℕ)
put b (Some r) = Some (b ∷ r.0, r.1)
put b None = None

-- The part before the first place of the mark, and the rest after the mark.
abbrev pub until : List ℕ → List ℕ → Option (List ℕ × List ℕ)
until mark [] = None
until mark (b ∷ bs) = ahead (behind mark (b ∷ bs)) (put b (until mark bs)) (λ rest. Some ([], rest))

-- Bytes of names: letters, digits, `:`, `-`, `.`, `_`, and the bytes of characters beyond ASCII, which are tested as characters.
unfoldable pub is_name_byte : ℕ → Bool
is_name_byte b =
    (nat_le 0x61 b && nat_le b 0x7A) || (nat_le 0x41 b && nat_le b 0x5A) || (nat_le 0x30 b && nat_le b 0x3A)
    || b == 0x2D || b == 0x2E || b == 0x5F || nat_le 0x80 b

-- The bytes that may begin a Name of ASCII characters, and those that may follow in it (XML 1.0, productions [4] and [4a]).
unfoldable pub is_ascii_start : ℕ → Bool
is_ascii_start b = (nat_le 0x61 b && nat_le b 0x7A) || (nat_le 0x41 b && nat_le b 0x5A) || b == 0x5F || b == 0x3A

unfoldable pub is_ascii_part : ℕ → Bool
is_ascii_part b =
    (nat_le 0x61 b && nat_le b 0x7A) || (nat_le 0x41 b && nat_le b 0x5A) || (nat_le 0x30 b && nat_le b 0x3A)
    || b == 0x2D || b == 0x2E || b == 0x5F

abbrev pub starts_ascii : List ℕ → Bool
starts_ascii [] = false
starts_ascii (b ∷ bs) = is_ascii_start b

-- The first byte is ASCII, or there is none.
abbrev pub starts_low : List ℕ → Bool
starts_low [] = true
starts_low (b ∷ bs) = nat_lt b 128

abbrev pub is_ascii_name : List ℕ → Bool
is_ascii_name [] = false
is_ascii_name (b ∷ bs) = is_ascii_start b && list_all is_ascii_part bs

-- The bytes that may begin an NCName of ASCII characters, which has no colon (Namespaces in XML 1.0, production [4]).
unfoldable pub is_ncname_start : ℕ → Bool
is_ncname_start b = (nat_le 0x61 b && nat_le b 0x7A) || (nat_le 0x41 b && nat_le b 0x5A) || b == 0x5F

unfoldable pub is_ncname_part : ℕ → Bool
is_ncname_part b =
    (nat_le 0x61 b && nat_le b 0x7A) || (nat_le 0x41 b && nat_le b 0x5A) || (nat_le 0x30 b && nat_le b 0x39)
    || b == 0x2D || b == 0x2E || b == 0x5F

abbrev pub is_ascii_ncname : List ℕ → Bool
is_ascii_ncname [] = false
is_ascii_ncname (b ∷ bs) = is_ncname_start b && list_all is_ncname_part bs

abbrev pub is_text : List ℕ → Bool
is_text bytes = list_all is_xml_char (chars bytes)

unfoldable pub name_at : List ℕ → Option (List ℕ × List ℕ)
name_at bytes =
    let n = prefix_len is_name_byte bytes in
    only (is_name (chars (take n bytes))) (Some (take n bytes, drop n bytes))

-- The rest after any white space.
abbrev pub past_blank : List ℕ → List ℕ
past_blank bytes = drop (prefix_len is_white_space bytes) bytes

unfoldable pub space_at : List ℕ → Option (List ℕ)
space_at bytes = if prefix_len is_white_space bytes == 0 then None else Some (past_blank bytes)

-- = with optional white space around it
unfoldable pub equals_at : List ℕ → Option (List ℕ)
equals_at bytes = behind (codes "=") (past_blank bytes) >>= λ rest. Some (past_blank rest)

-- The part before this byte, and the rest after it.
unfoldable pub upto_at : ℕ → List ℕ → Option (List ℕ × List ℕ)
upto_at a bytes =
    let n = prefix_len (λ b. not (b == a)) bytes in
    behind (a ∷ []) (drop n bytes) >>= λ rest. Some (take n bytes, rest)

unfoldable pub quoted_at : List ℕ → Option (List ℕ × List ℕ)
quoted_at [] = None
quoted_at (b ∷ bs) = only (is_quote b) (upto_at b bs)

-- ---- references, after &

abbrev pub entity_or : Entity → List ℕ → Option (ℕ × List ℕ) → Option (ℕ × List ℕ)
entity_or e bytes other = ahead (behind (rest_of e) bytes) other (λ rest. Some (character_of e, rest))

unfoldable pub named_at : List ℕ → Option (ℕ × List ℕ)
named_at bytes = entity_or Less bytes (entity_or Greater bytes (entity_or Ampersand bytes (entity_or Apostrophe bytes (entity_or Quotation bytes None))))

unfoldable pub numbered_at : ℕ → List ℕ → Option (ℕ × List ℕ)
numbered_at base bytes =
    let n = prefix_len (is_digit base) bytes in
    let c = number base 0 (take n bytes) in
    only (not (n == 0) && is_xml_char c) (behind (codes ";") (drop n bytes) >>= λ rest. Some (c, rest))

unfoldable pub reference_at : List ℕ → Option (ℕ × List ℕ)
reference_at bytes =
    ahead (behind (codes "#x") bytes)
    (ahead (behind (codes "#") bytes) (named_at bytes) (numbered_at 10))
    (numbered_at 16)

-- ---- tags, after < or </

-- up to the next & or to the end
abbrev pub run_len : List ℕ → ℕ
run_len bytes = prefix_len (λ b. not (b == 0x26)) bytes

-- The value of a reference with the run after it, and the rest.
unfoldable pub mention_at : List ℕ → Option (List ℕ × List ℕ)
mention_at bytes = do
  inner ← behind (codes "&") bytes
  c ← reference_at inner
  Some (encode_utf8 c.0 ++ spaced_ends (take (run_len c.1) c.1), drop (run_len c.1) c.1)

abbrev pub joined : List (List ℕ) → List ℕ
joined [] = []
joined (x ∷ xs) = x ++ joined xs

abbrev pub all_read : List ℕ → List (List ℕ) × List ℕ → Option (List ℕ)
all_read first r = only (length r.1 == 0) (Some (first ++ joined r.0))

unfoldable pub replaced : List ℕ → Option (List ℕ)
replaced written =
    let n = run_len written in
    let rest = drop n written in
    all_read (spaced_ends (take n written)) (many mention_at (length rest) rest)

abbrev pub value_by : Manner → List ℕ → Option (List ℕ)
value_by Exact written = replaced written
value_by Loose written = Some written

-- The text consists of XML characters, and none is `<`.
abbrev pub is_loose : List ℕ → Bool
is_loose written = is_text written && not (has_byte 0x3C written)

unfoldable pub value_of : Manner → List ℕ → Option (List ℕ)
value_of manner written = only (is_loose written) (value_by manner written)

-- white space, a name, = and a quoted text
unfoldable pub written_at : List ℕ → Option (List ℕ × List ℕ × List ℕ)
written_at bytes = do
  spaced ← space_at bytes
  name ← name_at spaced
  inner ← equals_at name.1
  quoted ← quoted_at inner
  Some (name.0, quoted.0, quoted.1)

unfoldable pub attribute_at : Manner → List ℕ → Option ((List ℕ × List ℕ) × List ℕ)
attribute_at manner bytes = do
  a ← written_at bytes
  value ← value_of manner a.1
  Some ((a.0, value), a.2)

-- > or />
unfoldable pub shut_at : Tag → List ℕ → Option (Piece × List ℕ)
shut_at tag bytes =
    ahead (behind (codes ">") bytes)
    (behind (codes "/>") bytes >>= λ rest. Some (Empty tag, rest))
    (λ rest. Some (Start tag, rest))

abbrev pub tag_of : List ℕ → List (List ℕ × List ℕ) → Tag
tag_of name attributes = record { name = name; attributes = attributes }

unfoldable pub tag_at : Manner → List ℕ → Option (Piece × List ℕ)
tag_at manner bytes =
    name_at bytes >>= λ name.
    let r = many (attribute_at manner) (length name.1) name.1 in
    shut_at (tag_of name.0 r.0) (past_blank r.1)

unfoldable pub end_at : List ℕ → Option (Piece × List ℕ)
end_at bytes = do
  name ← name_at bytes
  rest ← behind (codes ">") (past_blank name.1)
  Some (End name.0, rest)

-- ---- comments, CDATA, instructions

unfoldable pub comment_at : List ℕ → Option (Piece × List ℕ)
comment_at bytes = do
  inner ← until (codes "--") bytes
  rest ← behind (codes ">") inner.1
  only (is_text inner.0) (Some (Comment, rest))

unfoldable pub cdata_at : List ℕ → Option (Piece × List ℕ)
cdata_at bytes = do
  inner ← until (codes "]]>") bytes
  only (is_text inner.0) (Some (CData (line_ends inner.0), inner.1))

abbrev pub is_target : List ℕ → Bool
is_target target = is_ncname (chars target) && not (str_eq_ignore_ascii_case target xml_name)

-- The rest of an instruction, after its target.
unfoldable pub instruction_at : List ℕ → List ℕ → Option (Piece × List ℕ)
instruction_at target bytes = do
  inner ← until (codes "?>") bytes
  only (is_target target && (is_apart inner.0 && is_text inner.0)) (Some (Instruction, inner.1))

-- ---- the declaration, after <?xml

unfoldable pub assigned_at : List ℕ → List ℕ → Option (List ℕ × List ℕ)
assigned_at name bytes = do
  spaced ← space_at bytes
  named ← behind name spaced
  inner ← equals_at named
  quoted_at inner

abbrev pub with_some : List ℕ × List ℕ → Option (List ℕ) × List ℕ
with_some r = (Some r.0, r.1)

unfoldable pub maybe_assigned_at : List ℕ → List ℕ → Option (List ℕ) × List ℕ
maybe_assigned_at name bytes = ahead (assigned_at name bytes) (None, bytes) with_some

-- The version, the encoding, and the rest.
unfoldable pub declared_at : List ℕ → Option (List ℕ × Option (List ℕ) × List ℕ)
declared_at bytes =
    assigned_at version_name bytes >>= λ version.
    let encoding = maybe_assigned_at encoding_name version.1 in
    let standalone = maybe_assigned_at standalone_name encoding.1 in
    only (is_standalone standalone.0) (behind (codes "?>") (past_blank standalone.1) >>= λ rest. Some (version.0, encoding.0, rest))

unfoldable pub declaration_at : List ℕ → Option (Piece × List ℕ)
declaration_at bytes = declared_at bytes >>= λ d. only (is_version d.0 && is_encoding d.1) (Some (Declaration, d.2))

-- An instruction or a declaration, after <?
unfoldable pub question_at : List ℕ → Option (Piece × List ℕ)
question_at bytes = name_at bytes >>= λ name. if bytes_eq name.0 xml_name then declaration_at name.1 else instruction_at name.0 name.1

-- ---- characters

abbrev pub first_at : List ℕ → List ℕ → Option (ℕ × List ℕ)
first_at bytes [] = None
first_at bytes (c ∷ cs) = Some (c, drop (length (encode_utf8 c)) bytes)

-- The first character, and the rest.
unfoldable pub char_at : List ℕ → Option (ℕ × List ℕ)
char_at bytes = first_at bytes (chars bytes)

unfoldable pub line_end_at : List ℕ → Option (Piece × List ℕ)
line_end_at rest = ahead (behind (0xA ∷ []) rest) (Some (Character 0xA, rest)) (λ more. Some (Character 0xA, more))

unfoldable pub character_at : List ℕ → Option (Piece × List ℕ)
character_at bytes = ahead (behind (0xD ∷ []) bytes) (char_at bytes >>= λ c. only (is_xml_char c.0) (Some (Character c.0, c.1))) line_end_at

-- ---- pieces

-- A piece of markup, after <
unfoldable pub markup_at : List ℕ → Option (Piece × List ℕ)
markup_at bytes =
    ahead (behind (codes "!--") bytes)
    (ahead (behind (codes "![CDATA[") bytes)
    (ahead (behind (codes "?") bytes)
    (ahead (behind (codes "/") bytes) (tag_at Exact bytes) end_at)
    question_at)
    cdata_at)
    comment_at

-- The bytes begin a comment, a CDATA section, an instruction or a declaration, after its <
abbrev pub is_marked : List ℕ → Bool
is_marked [] = false
is_marked (b ∷ bs) = b == 0x21 || b == 0x3F

unfoldable pub piece_at : List ℕ → Option (Piece × List ℕ)
piece_at bytes =
    ahead (behind (codes "<") bytes)
    (ahead (behind (codes "&") bytes) (character_at bytes) (λ rest. reference_at rest >>= λ c. Some (Reference c.0, c.1)))
    markup_at
