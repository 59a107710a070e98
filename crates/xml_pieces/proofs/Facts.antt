-- What a piece's text says of the piece: its length, what follows it, and its parts.
use Rattle.std.proofs.Common.{◌≡◌, ℕ, ◌<◌, ◌≤◌, true, List, [], ◌∷◌, ◌++◌, length, Some, refl, sym, ap, subst, ◌∙◌, append_assoc, inl, inr, arith}
use Rattle.std.specs.Prelude.{◌⊎◌, IsUtf8}
use Rattle.std.proofs.lemmas.List.{length-append}
use Rattle.std.proofs.lemmas.Str.{length-encode, len_utf8_bounds, IsUtf8-past_char}
use Rattle.base_texts.specs.Characters.{is_xml_char}
use Rattle.xml_pieces.specs.Pieces.{Tag, Piece, Declaration, Start, Empty, End, Comment, Instruction, CData, Reference, Character, Entity, Less, Greater, Ampersand, Apostrophe, Quotation, character_of, rest_of, IsTag, Exact, IsReference, IsCharacter, PieceForm, Begins}
use Rattle.xml_pieces.specs.Reading.{piece_at}
use Rattle.xml_pieces.proofs.Utf8.{cut_utf8}
use Rattle.xml_pieces.proofs.Names.{name_some}
use Rattle.xml_pieces.proofs.PieceLaws.{piece_takes}

-- a text that ends with a byte of ASCII
record EndsLow (text : List ℕ) : Type 0 where
  init : List ℕ
  last : ℕ
  low : last < 128
  is : text ≡ init ++ last ∷ []

entity_ends : (e : Entity) → (init : List ℕ) × (rest_of e ≡ init ++ 59 ∷ [])
entity_ends Less = (108 ∷ 116 ∷ [], refl)
entity_ends Greater = (103 ∷ 116 ∷ [], refl)
entity_ends Ampersand = (97 ∷ 109 ∷ 112 ∷ [], refl)
entity_ends Apostrophe = (97 ∷ 112 ∷ 111 ∷ 115 ∷ [], refl)
entity_ends Quotation = (113 ∷ 117 ∷ 111 ∷ 116 ∷ [], refl)

pub reference_ends : (c : ℕ) (text : List ℕ) → IsReference c text → (init : List ℕ) × (text ≡ init ++ 59 ∷ [])
reference_ends c text (inl n) = let e = entity_ends n.entity in (e.0, n.text_is ∙ e.1)
reference_ends c text (inr (inl n)) = (35 ∷ n.digits, n.text_is)
reference_ends c text (inr (inr n)) = (35 ∷ 120 ∷ n.digits, n.text_is)

-- each piece but a character ends with a byte of ASCII
ends_low : (p : Piece) (front : List ℕ) → PieceForm p front → EndsLow front ⊎ ((c : ℕ) × (p ≡ Character c))
ends_low Declaration front f = inl (record { init = 60 ∷ 63 ∷ 120 ∷ 109 ∷ 108 ∷ (f.1.declares.version_text ++ f.1.declares.encoding_text ++ f.1.declares.standalone_text ++ f.1.declares.space ++ 63 ∷ []); last = 62; low = omega arith; is = f.2 ∙ ap (λ (x : List ℕ). 60 ∷ 63 ∷ 120 ∷ 109 ∷ 108 ∷ x) (f.1.declares.text_is ∙ sym (append_assoc (f.1.declares.version_text ++ f.1.declares.encoding_text ++ f.1.declares.standalone_text ++ f.1.declares.space) (63 ∷ []) (62 ∷ []))) })
ends_low (Start tag) front f = inl (record { init = 60 ∷ (tag.name ++ f.1.listed ++ f.1.space); last = 62; low = omega arith; is = f.2 ∙ ap (λ (x : List ℕ). 60 ∷ x) f.1.text_is })
ends_low (Empty tag) front f = inl (record { init = 60 ∷ (tag.name ++ f.1.listed ++ f.1.space ++ 47 ∷ []); last = 62; low = omega arith; is = f.2 ∙ ap (λ (x : List ℕ). 60 ∷ x) (f.1.text_is ∙ sym (append_assoc (tag.name ++ f.1.listed ++ f.1.space) (47 ∷ []) (62 ∷ []))) })
ends_low (End name) front f = inl (record { init = 60 ∷ 47 ∷ (name ++ f.1.space); last = 62; low = omega arith; is = f.2 ∙ ap (λ (x : List ℕ). 60 ∷ 47 ∷ x) f.1.text_is })
ends_low Comment front f = inl (record { init = 60 ∷ 33 ∷ 45 ∷ 45 ∷ (f.1.inner ++ 45 ∷ 45 ∷ []); last = 62; low = omega arith; is = f.2 ∙ ap (λ (x : List ℕ). 60 ∷ 33 ∷ 45 ∷ 45 ∷ x) (f.1.text_is ∙ sym (append_assoc f.1.inner (45 ∷ 45 ∷ []) (62 ∷ []))) })
ends_low Instruction front f = inl (record { init = 60 ∷ 63 ∷ (f.1.target ++ f.1.inner ++ 63 ∷ []); last = 62; low = omega arith; is = f.2 ∙ ap (λ (x : List ℕ). 60 ∷ 63 ∷ x) (f.1.text_is ∙ sym (append_assoc (f.1.target ++ f.1.inner) (63 ∷ []) (62 ∷ []))) })
ends_low (CData value) front f = inl (record { init = 60 ∷ 33 ∷ 91 ∷ 67 ∷ 68 ∷ 65 ∷ 84 ∷ 65 ∷ 91 ∷ (f.1.inner ++ 93 ∷ 93 ∷ []); last = 62; low = omega arith; is = f.2 ∙ ap (λ (x : List ℕ). 60 ∷ 33 ∷ 91 ∷ 67 ∷ 68 ∷ 65 ∷ 84 ∷ 65 ∷ 91 ∷ x) (f.1.text_is ∙ sym (append_assoc f.1.inner (93 ∷ 93 ∷ []) (62 ∷ []))) })
ends_low (Reference c) front f = let r = reference_ends c f.0 f.1 in inl (record { init = 38 ∷ r.0; last = 59; low = omega arith; is = f.2 ∙ ap (λ (x : List ℕ). 38 ∷ x) r.1 })
ends_low (Character c) front f = inr (c, refl)

low_rest : (bytes front rest : List ℕ) → IsUtf8 bytes → bytes ≡ front ++ rest → EndsLow front → IsUtf8 rest
low_rest bytes front rest u is e = (cut_utf8 bytes e.init rest e.last u (is ∙ ap (λ (x : List ℕ). x ++ rest) e.is ∙ append_assoc e.init (e.last ∷ []) rest) e.low).2

character_rest : (c : ℕ) (bytes front rest : List ℕ) → IsCharacter c front → IsUtf8 bytes → bytes ≡ front ++ rest → IsUtf8 rest
character_rest c bytes front rest (inl l) u is = IsUtf8-past_char bytes rest c u (is ∙ ap (λ (x : List ℕ). x ++ rest) l.4)
character_rest c bytes front rest (inr (inl l)) u is = low_rest bytes front rest u is (record { init = 0xD ∷ []; last = 0xA; low = omega arith; is = l.1 })
character_rest c bytes front rest (inr (inr l)) u is = low_rest bytes front rest u is (record { init = []; last = 0xD; low = omega arith; is = l.1 })

-- what stands behind a piece is valid UTF-8
pub begins_utf8 : (p : Piece) (bytes rest : List ℕ) → IsUtf8 bytes → Begins p bytes rest → IsUtf8 rest
begins_utf8 p bytes rest u b = elim (ends_low p b.front b.form) [
  | inl e ↦ low_rest bytes b.front rest u b.parts e
  | inr c ↦ character_rest c.0 bytes b.front rest (subst (λ (q : Piece). PieceForm q b.front) c.1 b.form) u b.parts
]

character_some : (c : ℕ) (front : List ℕ) → IsCharacter c front → 1 ≤ length front
character_some c front (inl l) = omega (arith, ap length l.4, length-encode c, len_utf8_bounds c)
character_some c front (inr (inl l)) = omega (arith, ap length l.1)
character_some c front (inr (inr l)) = omega (arith, ap length l.1)

-- each piece has some bytes
pub form_some : (p : Piece) (front : List ℕ) → PieceForm p front → 1 ≤ length front
form_some Declaration front f = omega (arith, ap length f.2)
form_some (Start tag) front f = omega (arith, ap length f.2)
form_some (Empty tag) front f = omega (arith, ap length f.2)
form_some (End name) front f = omega (arith, ap length f.2)
form_some Comment front f = omega (arith, ap length f.2)
form_some Instruction front f = omega (arith, ap length f.2)
form_some (CData value) front f = omega (arith, ap length f.2)
form_some (Reference c) front f = omega (arith, ap length f.2)
form_some (Character c) front f = character_some c front f

tag_some : (shut : List ℕ) (tag : Tag) (text : List ℕ) → 1 ≤ length shut → IsTag Exact shut tag text → 2 ≤ length text
tag_some shut tag text some t = omega (arith, some, ap length t.text_is, name_some tag.name t.named, length-append (tag.name ++ t.listed ++ t.space) shut, length-append (tag.name ++ t.listed) t.space, length-append tag.name t.listed)

-- a tag has three bytes at least
pub start_some : (tag : Tag) (front : List ℕ) → PieceForm (Start tag) front → 3 ≤ length front
start_some tag front f = omega (arith, ap length f.2, tag_some (62 ∷ []) tag f.0 (omega arith) f.1)

pub empty_some : (tag : Tag) (front : List ℕ) → PieceForm (Empty tag) front → 3 ≤ length front
empty_some tag front f = omega (arith, ap length f.2, tag_some (47 ∷ 62 ∷ []) tag f.0 (omega arith) f.1)

-- the rest behind a piece that is read is valid UTF-8 and shorter
pub piece_utf8 : (bytes rest : List ℕ) (p : Piece) → IsUtf8 bytes → piece_at bytes ≡ Some (p, rest) → IsUtf8 rest × (length rest < length bytes)
piece_utf8 bytes rest p u e =
    let b = piece_takes bytes rest p u e in
    (begins_utf8 p bytes rest u b, omega (arith, form_some p b.front b.form, ap length b.parts, length-append b.front rest))

entity_xml : (e : Entity) → is_xml_char (character_of e) ≡ true
unfolding is_xml_char
entity_xml Less = refl
entity_xml Greater = refl
entity_xml Ampersand = refl
entity_xml Apostrophe = refl
entity_xml Quotation = refl

-- a reference stands for an XML character
pub reference_xml : (c : ℕ) (text : List ℕ) → IsReference c text → is_xml_char c ≡ true
reference_xml c text (inl n) = subst (λ (x : ℕ). is_xml_char x ≡ true) (sym n.character_is) (entity_xml n.entity)
reference_xml c text (inr (inl n)) = n.is_char
reference_xml c text (inr (inr n)) = n.is_char

line_xml : is_xml_char 0xA ≡ true
unfolding is_xml_char
line_xml = refl

-- a literal character is an XML character
pub character_xml : (c : ℕ) (text : List ℕ) → IsCharacter c text → is_xml_char c ≡ true
character_xml c text (inl l) = l.0
character_xml c text (inr (inl l)) = subst (λ (x : ℕ). is_xml_char x ≡ true) (sym l.0) line_xml
character_xml c text (inr (inr l)) = subst (λ (x : ℕ). is_xml_char x ≡ true) (sym l.0) line_xml
