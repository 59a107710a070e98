-- The pieces of XML text, by XML 1.0 (fifth edition) and, for the target of an instruction, Namespaces in XML 1.0. A text
-- is the list of its bytes, a character its code point.
use Rattle.std.specs.Prelude.{◌≡◌, ◌≢◌, ◌⊎◌, ⊤, ◌==◌, ℕ, ◌<◌, ◌+◌, ◌*◌, nat_lt, Bool, true, false, ◌&&◌, ◌||◌, List, [], ◌∷◌, ◌++◌, length, map, bytes_eq, codes, Option, Some, None, encode_utf8, IsUtf8, chars, if◌then◌else◌}
use Rattle.std.specs.List.{list_all, list_any}
use Rattle.std.specs.Char.{digit_value}
use Rattle.std.specs.Str.{str_eq_ignore_ascii_case}
use Rattle.base_texts.specs.Characters.{is_xml_char, is_name, is_ncname}
use Rattle.base_texts.specs.WhiteSpace.{is_white_space, is_blank, spaced}

-- A tag: its Name as written, and each attribute's Name as written with its value, in which references are replaced and white
-- space is normalised as section 3.3.3 specifies.
pub record Tag : Type 0 where
  pub name : List ℕ
  pub attributes : List (List ℕ × List ℕ)

pub data Piece : Type 0 where
  -- the XML declaration
  Declaration : Piece
  Start : Tag → Piece
  Empty : Tag → Piece
  -- the Name as written
  End : List ℕ → Piece
  Comment : Piece
  Instruction : Piece
  -- the bytes of its text, with line ends normalised as section 2.11 specifies
  CData : List ℕ → Piece
  -- the character that it denotes
  Reference : ℕ → Piece
  -- a literal character; CR LF, and a CR before anything else, is one piece, the character LF
  Character : ℕ → Piece

-- ---- words

-- The rest after this prefix.
abbrev pub behind : List ℕ → List ℕ → Option (List ℕ)
behind [] bytes = Some bytes
behind (a ∷ more) [] = None
behind (a ∷ more) (b ∷ bs) = if b == a then behind more bs else None

abbrev pub starts : List ℕ → List ℕ → Bool
starts [] bytes = true
starts (a ∷ more) [] = false
starts (a ∷ more) (b ∷ bs) = b == a && starts more bs

-- The part occurs somewhere in the text.
abbrev pub has_part : List ℕ → List ℕ → Bool
has_part part [] = starts part []
has_part part (b ∷ bs) = starts part (b ∷ bs) || has_part part bs

abbrev pub has_byte : ℕ → List ℕ → Bool
has_byte a bytes = list_any (λ b. b == a) bytes

-- production [5] Name
pub record IsName (name : List ℕ) : Type 0 where
  pub utf8 : IsUtf8 name
  pub named : is_name (chars name) ≡ true

-- any characters, production [2] Char
pub record IsText (text : List ℕ) : Type 0 where
  pub utf8 : IsUtf8 text
  pub each : list_all is_xml_char (chars text) ≡ true

-- production [3] S
pub record IsSpace (text : List ℕ) : Type 0 where
  pub some : 0 < length text
  pub blank : is_blank text ≡ true

abbrev pub is_quote : ℕ → Bool
is_quote b = b == 0x22 || b == 0x27

-- section 2.11: CR LF, and a CR before anything else, becomes LF
abbrev pub line_ends : List ℕ → List ℕ
line_ends [] = []
line_ends (b ∷ bs) = if b == 0xD then (if starts (0xA ∷ []) bs then line_ends bs else 0xA ∷ line_ends bs) else b ∷ line_ends bs

-- section 3.3.3: characters of a value, with a space for each that is white space
abbrev pub spaced_ends : List ℕ → List ℕ
spaced_ends text = map spaced (line_ends text)

-- ---- references

-- section 4.6
pub data Entity : Type 0 where
  Less : Entity
  Greater : Entity
  Ampersand : Entity
  Apostrophe : Entity
  Quotation : Entity

abbrev pub character_of : Entity → ℕ
character_of Less = 0x3C
character_of Greater = 0x3E
character_of Ampersand = 0x26
character_of Apostrophe = 0x27
character_of Quotation = 0x22

-- lt; gt; amp; apos; quot;
abbrev pub rest_of : Entity → List ℕ
rest_of Less = codes "lt;"
rest_of Greater = codes "gt;"
rest_of Ampersand = codes "amp;"
rest_of Apostrophe = codes "apos;"
rest_of Quotation = codes "quot;"

abbrev pub is_digit : ℕ → ℕ → Bool
is_digit base b = nat_lt (digit_value b) base

-- The number denoted by the digits of `before` followed by these.
abbrev pub number : ℕ → ℕ → List ℕ → ℕ
number base before [] = before
number base before (d ∷ ds) = number base (before * base + digit_value d) ds

-- production [66] CharRef without `&`, whose number is a character: first `#` or `#x`, digits, `;`
pub record IsNumbered (first : List ℕ) (base character : ℕ) (text : List ℕ) : Type 0 where
  pub digits : List ℕ
  pub some : 0 < length digits
  pub each : list_all (is_digit base) digits ≡ true
  pub number_is : character ≡ number base 0 digits
  pub is_char : is_xml_char character ≡ true
  pub text_is : text ≡ first ++ digits ++ codes ";"

-- one of the five entities
pub record IsNamed (character : ℕ) (text : List ℕ) : Type 0 where
  pub entity : Entity
  pub character_is : character ≡ character_of entity
  pub text_is : text ≡ rest_of entity

-- production [67] Reference without `&`; of the entities only the five of section 4.6
abbrev pub IsReference : ℕ → List ℕ → Type 0
IsReference character text = IsNamed character text ⊎ IsNumbered (codes "#") 10 character text ⊎ IsNumbered (codes "#x") 16 character text

-- ---- tags

-- A reference in a value, and the run of other characters after it.
pub record Mention : Type 0 where
  pub character : ℕ
  pub text : List ℕ
  pub run : List ℕ

abbrev pub AreMentions : List Mention → Type 0
AreMentions [] = ⊤
AreMentions (m ∷ ms) = IsReference m.character m.text × (has_byte 0x26 m.run ≡ false) × AreMentions ms

abbrev pub written_mentions : List Mention → List ℕ
written_mentions [] = []
written_mentions (m ∷ ms) = 0x26 ∷ m.text ++ m.run ++ written_mentions ms

-- a reference keeps its character
abbrev pub read_mentions : List Mention → List ℕ
read_mentions [] = []
read_mentions (m ∷ ms) = encode_utf8 m.character ++ spaced_ends m.run ++ read_mentions ms

-- the characters between a value's quotes are characters without `&`, and references; and the value that they give
pub record IsReplaced (written value : List ℕ) : Type 0 where
  pub first : List ℕ
  pub mentions : List Mention
  pub plain : has_byte 0x26 first ≡ false
  pub are : AreMentions mentions
  pub written_is : written ≡ first ++ written_mentions mentions
  pub value_is : value ≡ spaced_ends first ++ read_mentions mentions

-- how a tag is read: as it is, or with each `&` within its values as a plain character (and values as written)
pub data Manner : Type 0 where
  Exact : Manner
  Loose : Manner

abbrev pub IsGiven : Manner → List ℕ → List ℕ → Type 0
IsGiven Exact written value = IsReplaced written value
IsGiven Loose written value = value ≡ written

-- production [10] AttValue between its quotes
pub record IsValue (manner : Manner) (written value : List ℕ) : Type 0 where
  pub text : IsText written
  pub no_tag : has_byte 0x3C written ≡ false
  pub gives : IsGiven manner written value

-- White space, this name, `=` with optional white space around it, and this text in quotes that it doesn't contain.
pub record IsAssigned (name written text : List ℕ) : Type 0 where
  pub space : List ℕ
  pub before : List ℕ
  pub after : List ℕ
  pub quote : ℕ
  pub spaces : IsSpace space
  pub blank_before : is_blank before ≡ true
  pub blank_after : is_blank after ≡ true
  pub quotes : is_quote quote ≡ true
  pub inside : has_byte quote written ≡ false
  pub text_is : text ≡ space ++ name ++ before ++ 61 ∷ after ++ quote ∷ written ++ quote ∷ []

-- production [41] Attribute, with the white space before it
pub record IsAttribute (manner : Manner) (name value text : List ℕ) : Type 0 where
  pub written : List ℕ
  pub assigned : IsAssigned name written text
  pub named : IsName name
  pub valued : IsValue manner written value

-- attributes one after the other
abbrev pub AreAttributes : Manner → List (List ℕ × List ℕ) → List ℕ → Type 0
AreAttributes manner [] text = text ≡ []
AreAttributes manner (a ∷ attributes) text =
    (front : List ℕ) × (more : List ℕ) × IsAttribute manner a.0 a.1 front × AreAttributes manner attributes more × (text ≡ front ++ more)

-- Productions [40] STag and [44] EmptyElemTag without `<`, where `shut` ends the tag.
pub record IsTag (manner : Manner) (shut : List ℕ) (tag : Tag) (text : List ℕ) : Type 0 where
  pub listed : List ℕ
  pub space : List ℕ
  pub named : IsName tag.name
  pub are : AreAttributes manner tag.attributes listed
  pub blank : is_blank space ≡ true
  pub text_is : text ≡ tag.name ++ listed ++ space ++ shut

-- production [42] ETag without `</`
pub record IsEnd (name text : List ℕ) : Type 0 where
  pub space : List ℕ
  pub named : IsName name
  pub blank : is_blank space ≡ true
  pub text_is : text ≡ name ++ space ++ codes ">"

-- ---- comments, instructions, CDATA

-- production [15] Comment without `<!--`: no `--`, and the last character isn't `-`
pub record IsComment (text : List ℕ) : Type 0 where
  pub inner : List ℕ
  pub is_text : IsText inner
  pub apart : has_part (codes "--") (inner ++ codes "-") ≡ false
  pub text_is : text ≡ inner ++ codes "-->"

-- The text is empty or begins with white space.
abbrev pub is_apart : List ℕ → Bool
is_apart [] = true
is_apart (b ∷ bs) = is_white_space b

-- xml
abbrev pub xml_name : List ℕ
xml_name = codes "xml"

-- production [16] PI without `<?`, whose target is an NCName
pub record IsInstruction (text : List ℕ) : Type 0 where
  pub target : List ℕ
  pub inner : List ℕ
  pub utf8 : IsUtf8 target
  pub named : is_ncname (chars target) ≡ true
  pub not_xml : str_eq_ignore_ascii_case target xml_name ≡ false
  pub spaces : is_apart inner ≡ true
  pub is_text : IsText inner
  pub apart : has_part (codes "?>") inner ≡ false
  pub text_is : text ≡ target ++ inner ++ codes "?>"

-- productions [18] CDSect to [21] without `<![CDATA[`
pub record IsCData (value text : List ℕ) : Type 0 where
  pub inner : List ℕ
  pub is_text : IsText inner
  pub apart : has_part (codes "]]>") inner ≡ false
  pub value_is : value ≡ line_ends inner
  pub text_is : text ≡ inner ++ codes "]]>"

-- ---- the declaration

-- An assignment that may be absent.
abbrev pub MaybeAssigned : List ℕ → Option (List ℕ) → List ℕ → Type 0
MaybeAssigned name None text = text ≡ []
MaybeAssigned name (Some written) text = IsAssigned name written text

abbrev pub version_name : List ℕ
version_name = codes "version"

abbrev pub encoding_name : List ℕ
encoding_name = codes "encoding"

abbrev pub standalone_name : List ℕ
standalone_name = codes "standalone"

-- yes or no
abbrev pub is_standalone_word : List ℕ → Bool
is_standalone_word written = bytes_eq written (codes "yes") || bytes_eq written (codes "no")

abbrev pub is_standalone : Option (List ℕ) → Bool
is_standalone None = true
is_standalone (Some written) = is_standalone_word written

-- 1.0
abbrev pub is_version : List ℕ → Bool
is_version written = bytes_eq written (codes "1.0")

-- UTF-8 or US-ASCII in any case
abbrev pub is_encoding_name : List ℕ → Bool
is_encoding_name written = str_eq_ignore_ascii_case written (codes "utf-8") || str_eq_ignore_ascii_case written (codes "us-ascii")

abbrev pub is_encoding : Option (List ℕ) → Bool
is_encoding None = true
is_encoding (Some written) = is_encoding_name written

-- Production [23] XMLDecl without `<?xml`, where any texts may be its version and its encoding.
pub record IsDeclaration (version : List ℕ) (encoding : Option (List ℕ)) (text : List ℕ) : Type 0 where
  pub standalone : Option (List ℕ)
  pub version_text : List ℕ
  pub encoding_text : List ℕ
  pub standalone_text : List ℕ
  pub space : List ℕ
  pub versioned : IsAssigned version_name version version_text
  pub encoded : MaybeAssigned encoding_name encoding encoding_text
  pub alone : MaybeAssigned standalone_name standalone standalone_text
  pub accepted : is_standalone standalone ≡ true
  pub blank : is_blank space ≡ true
  pub text_is : text ≡ version_text ++ encoding_text ++ standalone_text ++ space ++ codes "?>"

-- A declaration with a version and an encoding that are accepted.
pub record IsAccepted (text : List ℕ) : Type 0 where
  pub version : List ℕ
  pub encoding : Option (List ℕ)
  pub declares : IsDeclaration version encoding text
  pub version_ok : is_version version ≡ true
  pub encoding_ok : is_encoding encoding ≡ true

-- ---- characters

-- A character except `<`, `&` and CR; or a line end, as LF.
abbrev pub IsCharacter : ℕ → List ℕ → Type 0
IsCharacter c text =
    (is_xml_char c ≡ true) × (c ≢ 0x3C) × (c ≢ 0x26) × (c ≢ 0xD) × (text ≡ encode_utf8 c)
    ⊎ (c ≡ 0xA) × (text ≡ 0xD ∷ 0xA ∷ [])
    ⊎ (c ≡ 0xA) × (text ≡ 0xD ∷ [])

-- ---- pieces

-- a piece has this text
abbrev pub PieceForm : Piece → List ℕ → Type 0
PieceForm Declaration text = (inner : List ℕ) × IsAccepted inner × (text ≡ codes "<?xml" ++ inner)
PieceForm (Start tag) text = (inner : List ℕ) × IsTag Exact (codes ">") tag inner × (text ≡ codes "<" ++ inner)
PieceForm (Empty tag) text = (inner : List ℕ) × IsTag Exact (codes "/>") tag inner × (text ≡ codes "<" ++ inner)
PieceForm (End name) text = (inner : List ℕ) × IsEnd name inner × (text ≡ codes "</" ++ inner)
PieceForm Comment text = (inner : List ℕ) × IsComment inner × (text ≡ codes "<!--" ++ inner)
PieceForm Instruction text = (inner : List ℕ) × IsInstruction inner × (text ≡ codes "<?" ++ inner)
PieceForm (CData value) text = (inner : List ℕ) × IsCData value inner × (text ≡ codes "<![CDATA[" ++ inner)
PieceForm (Reference c) text = (inner : List ℕ) × IsReference c inner × (text ≡ codes "&" ++ inner)
PieceForm (Character c) text = IsCharacter c text

-- A piece is at the start of the bytes, and `rest` follows it. A lone CR isn't followed by LF.
pub record Begins (p : Piece) (bytes rest : List ℕ) : Type 0 where
  pub front : List ℕ
  pub form : PieceForm p front
  pub parts : bytes ≡ front ++ rest
  pub lone : (more : List ℕ) → front ≡ 0xD ∷ [] → rest ≡ 0xA ∷ more → ⊥

abbrev pub NoPieceAt : List ℕ → Type 0
NoPieceAt bytes = (p : Piece) (rest : List ℕ) → Begins p bytes rest → ⊥

-- ---- where no piece begins

-- `<!DOCTYPE` is at the start.
abbrev pub IsDoctype : List ℕ → Type 0
IsDoctype bytes = (rest : List ℕ) × (bytes ≡ codes "<!DOCTYPE" ++ rest)

-- A declaration begins here, with any texts as its version and its encoding, and these are the two.
abbrev pub WouldBeDeclaration : List ℕ → List ℕ → Option (List ℕ) → Type 0
WouldBeDeclaration bytes version encoding = (inner rest : List ℕ) × IsDeclaration version encoding inner × (bytes ≡ codes "<?xml" ++ inner ++ rest)

-- a start or empty tag, if each `&` within its values were a plain character, begins here
abbrev pub WouldBeTag : List ℕ → Type 0
WouldBeTag bytes = (shut : List ℕ) × (tag : Tag) × (inner rest : List ℕ) × ((shut ≡ codes ">") ⊎ (shut ≡ codes "/>")) × IsTag Loose shut tag inner × (bytes ≡ codes "<" ++ inner ++ rest)
