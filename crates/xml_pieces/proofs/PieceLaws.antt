-- What is read at the front is a piece there, and a piece there is read.
use Rattle.std.proofs.Common.{◌≡◌, ◌≢◌, ℕ, ◌<◌, true, false, eqb, List, [], ◌∷◌, ◌++◌, length, drop, Option, Some, None, refl, sym, ap, subst, ◌∙◌, append_assoc, inl, inr, arith}
use Rattle.std.specs.Prelude.{IsUtf8, MatchOption, Result, Ok, Err, IfOk, chars, encode_utf8, encode_utf8_all}
use Rattle.std.specs.List.{list_all}
use Rattle.std.proofs.lemmas.List.{drop_at}
use Rattle.std.proofs.lemmas.Bool.{ne_eqb}
use Rattle.std.proofs.lemmas.Str.{chars-nil, encodes-chars, encode_ascii, encode_same, chars_past_char}
use Rattle.base_texts.specs.Characters.{is_xml_char, is_name}
use Rattle.xml_pieces.specs.Pieces.{Tag, Piece, Declaration, Start, Empty, End, Comment, Instruction, CData, Reference, Character, behind, Exact, IsName, IsTag, IsCharacter, PieceForm, Begins, NoPieceAt}
use Rattle.xml_pieces.specs.Reading.{◌>>=◌, Gives, ahead, only, is_name_byte, first_at, char_at, line_end_at, character_at, comment_at, cdata_at, question_at, end_at, tag_at, markup_at, reference_at, piece_at}
use Rattle.xml_pieces.proofs.Strips.{behind_again, behind_takes}
use Rattle.xml_pieces.proofs.Tools.{bind_some, pairs, only_some, and_true, ahead_cases, never}
use Rattle.xml_pieces.proofs.Utf8.{behind_utf8}
use Rattle.xml_pieces.proofs.Names.{name_bytes}
use Rattle.xml_pieces.proofs.References.{reference_takes, reference_again}
use Rattle.xml_pieces.proofs.TagLaws.{tag_takes, start_again, empty_again, end_takes, end_again}
use Rattle.xml_pieces.proofs.MarkupLaws.{comment_takes, comment_again, cdata_takes, cdata_again, instruction_again}
use Rattle.xml_pieces.proofs.DeclarationLaws.{question_takes, declaration_again}

-- ---- characters

first_takes : (bytes cs rest : List ℕ) (c : ℕ) → encode_utf8_all cs ≡ bytes → first_at bytes cs ≡ Some (c, rest) → bytes ≡ encode_utf8 c ++ rest
first_takes bytes [] rest c is e = absurd (never (c, rest) e)
first_takes bytes (d ∷ cs) rest c is e =
    let both = pairs (d, drop (length (encode_utf8 d)) bytes) (c, rest) e in
    let tail : drop (length (encode_utf8 d)) bytes ≡ encode_utf8_all cs = ap (drop (length (encode_utf8 d))) (sym is) ∙ drop_at (encode_utf8 d) (encode_utf8_all cs) (length (encode_utf8 d)) refl in
    sym is ∙ (λ i. encode_utf8 (both.0 i) ++ (sym tail ∙ both.1) i)

char_takes : (bytes rest : List ℕ) (c : ℕ) → IsUtf8 bytes → char_at bytes ≡ Some (c, rest) → bytes ≡ encode_utf8 c ++ rest
unfolding char_at
char_takes bytes rest c u e = first_takes bytes (chars bytes) rest c (encodes-chars bytes u) e

char_again : (bytes rest : List ℕ) (c : ℕ) → IsUtf8 bytes → bytes ≡ encode_utf8 c ++ rest → char_at bytes ≡ Some (c, rest)
unfolding char_at
char_again bytes rest c u is =
    let back : drop (length (encode_utf8 c)) bytes ≡ rest = ap (drop (length (encode_utf8 c))) is ∙ drop_at (encode_utf8 c) rest (length (encode_utf8 c)) refl in
    rw (chars_past_char bytes rest c u is) (ap (λ (x : List ℕ). Some (c, x)) back)

-- a character that a byte of ASCII at the front rules out, and the other way round
not_that : (a c : ℕ) (bytes rest : List ℕ) → a < 128 → behind (a ∷ []) bytes ≡ None → bytes ≡ encode_utf8 c ++ rest → c ≢ a
not_that a c bytes rest low none is e =
    let at : bytes ≡ a ∷ rest = is ∙ ap (λ (x : ℕ). encode_utf8 x ++ rest) e ∙ ap (λ (x : List ℕ). x ++ rest) (encode_ascii a low) in
    let found : behind (a ∷ []) bytes ≡ Some rest = ap (behind (a ∷ [])) at ∙ behind_again (a ∷ []) rest in
    never rest (sym none ∙ found)

none_or : (o : Option (List ℕ)) → ((x : List ℕ) → o ≡ Some x → ⊥) → o ≡ None
none_or None no_value = refl
none_or (Some x) no_value = absurd (no_value x refl)

other_first : (a c : ℕ) (rest : List ℕ) → a < 128 → c ≢ a → behind (a ∷ []) (encode_utf8 c ++ rest) ≡ None
other_first a c rest low apart = none_or (behind (a ∷ []) (encode_utf8 c ++ rest)) (λ x e.
    let at : encode_utf8 c ++ rest ≡ encode_utf8 a ++ x = behind_takes (a ∷ []) (encode_utf8 c ++ rest) x e ∙ ap (λ (y : List ℕ). y ++ x) (sym (encode_ascii a low)) in
    apart (encode_same c a rest x at).0)

abbrev NotLone : List ℕ → List ℕ → Type 0
NotLone front rest = (more : List ℕ) → front ≡ 0xD ∷ [] → rest ≡ 0xA ∷ more → ⊥

abbrev IsRead : List ℕ → Piece → List ℕ → Type 0
IsRead bytes p rest = (c : ℕ) × (front : List ℕ) × (p ≡ Character c) × IsCharacter c front × (bytes ≡ front ++ rest) × NotLone front rest

line_takes : (bytes back rest : List ℕ) (p : Piece) → bytes ≡ 0xD ∷ back → line_end_at back ≡ Some (p, rest) → IsRead bytes p rest
unfolding line_end_at
line_takes bytes back rest p is e = elim (ahead_cases (behind (0xA ∷ []) back) (Some (Character 0xA, back)) (λ more. Some (Character 0xA, more)) (Some (p, rest)) e) [
  | inl f ↦ (
      let both = pairs (Character 0xA, f.0) (p, rest) f.2 in
      let parts : bytes ≡ 0xD ∷ 0xA ∷ rest = is ∙ ap (λ (x : List ℕ). 0xD ∷ x) (behind_takes (0xA ∷ []) back f.0 f.1) ∙ ap (λ (x : List ℕ). 0xD ∷ 0xA ∷ x) both.1 in
      (0xA, 0xD ∷ 0xA ∷ [], sym both.0, inr (inl (refl, refl)), parts, λ more lone next. let long : 2 ≡ 1 = ap length lone in omega (arith, long)))
  | inr f ↦ (
      let both = pairs (Character 0xA, back) (p, rest) f.1 in
      let parts : bytes ≡ 0xD ∷ rest = is ∙ ap (λ (x : List ℕ). 0xD ∷ x) both.1 in
      (0xA, 0xD ∷ [], sym both.0, inr (inr (refl, refl)), parts, λ more lone next. never more (sym f.0 ∙ ap (behind (0xA ∷ [])) (both.1 ∙ next))))
]

character_takes : (bytes rest : List ℕ) (p : Piece) → IsUtf8 bytes → behind (60 ∷ []) bytes ≡ None → behind (38 ∷ []) bytes ≡ None → character_at bytes ≡ Some (p, rest) → IsRead bytes p rest
unfolding character_at
character_takes bytes rest p u less and e = elim (ahead_cases (behind (0xD ∷ []) bytes) (char_at bytes >>= λ c. only (is_xml_char c.0) (Some (Character c.0, c.1))) line_end_at (Some (p, rest)) e) [
  | inl f ↦ line_takes bytes f.0 rest p (behind_takes (0xD ∷ []) bytes f.0 f.1) f.2
  | inr f ↦ (
      let b = bind_some (char_at bytes) (λ c. only (is_xml_char c.0) (Some (Character c.0, c.1))) (p, rest) f.1 in
      let c = b.0.0 in
      let o = only_some (is_xml_char c) (Some (Character c, b.0.1)) (p, rest) b.2 in
      let both = pairs (Character c, b.0.1) (p, rest) o.1 in
      let at = char_takes bytes b.0.1 c u b.1 in
      let no_line = not_that 0xD c bytes b.0.1 (omega arith) f.0 at in (
        c,
        encode_utf8 c,
        sym both.0,
        inl (o.0, not_that 60 c bytes b.0.1 (omega arith) less at, not_that 38 c bytes b.0.1 (omega arith) and at, no_line, refl),
        at ∙ ap (λ (x : List ℕ). encode_utf8 c ++ x) both.1,
        λ more lone next. no_line (encode_same c 0xD [] [] (ap (λ (x : List ℕ). x ++ []) (lone ∙ sym (encode_ascii 0xD (omega arith))))).0,
      ))
]

pub literal_again : (c : ℕ) (rest : List ℕ) → is_xml_char c ≡ true → c ≢ 60 → c ≢ 38 → c ≢ 0xD → IsUtf8 (encode_utf8 c ++ rest) → piece_at (encode_utf8 c ++ rest) ≡ Some (Character c, rest)
unfolding piece_at character_at
literal_again c rest good less and line u =
    rw (other_first 60 c rest (omega arith) less, other_first 38 c rest (omega arith) and, other_first 0xD c rest (omega arith) line, char_again (encode_utf8 c ++ rest) rest c u refl, good) refl

pair_again : (rest : List ℕ) → piece_at (0xD ∷ 0xA ∷ rest) ≡ Some (Character 0xA, rest)
unfolding piece_at character_at line_end_at
pair_again rest = refl

lone_again : (rest : List ℕ) → behind (0xA ∷ []) rest ≡ None → piece_at (0xD ∷ rest) ≡ Some (Character 0xA, rest)
unfolding piece_at character_at line_end_at
lone_again rest none = rw none refl

character_again : (c : ℕ) (front rest : List ℕ) → IsCharacter c front → NotLone front rest → IsUtf8 (front ++ rest) → piece_at (front ++ rest) ≡ Some (Character c, rest)
character_again c front rest (inl l) lone u =
    ap (λ (x : List ℕ). piece_at (x ++ rest)) l.4 ∙ literal_again c rest l.0 l.1 l.2 l.3 (subst (λ (x : List ℕ). IsUtf8 (x ++ rest)) l.4 u)
character_again c front rest (inr (inl l)) lone u = ap (λ (x : List ℕ). piece_at (x ++ rest)) l.1 ∙ pair_again rest ∙ ap (λ (x : ℕ). Some (Character x, rest)) (sym l.0)
character_again c front rest (inr (inr l)) lone u =
    let none : behind (0xA ∷ []) rest ≡ None = none_or (behind (0xA ∷ []) rest) (λ x e. lone x l.1 (behind_takes (0xA ∷ []) rest x e)) in
    ap (λ (x : List ℕ). piece_at (x ++ rest)) l.1 ∙ lone_again rest none ∙ ap (λ (x : ℕ). Some (Character x, rest)) (sym l.0)

-- ---- pieces

-- a piece whose text begins with this byte
abbrev IsMarked : ℕ → List ℕ → Piece → List ℕ → Type 0
IsMarked first bytes p rest = (text : List ℕ) × PieceForm p (first ∷ text) × (bytes ≡ text ++ rest)

abbrev marked : (first : ℕ) (bytes rest : List ℕ) (p q : Piece) (text : List ℕ) → q ≡ p → PieceForm q (first ∷ text) → bytes ≡ text ++ rest → IsMarked first bytes p rest
marked first bytes rest p q text is form parts = (text, subst (λ (x : Piece). PieceForm x (first ∷ text)) is form, parts)

markup_takes : (bytes rest : List ℕ) (p : Piece) → IsUtf8 bytes → markup_at bytes ≡ Some (p, rest) → IsMarked 60 bytes p rest
unfolding markup_at
markup_takes bytes rest p u e =
    let comment = behind (33 ∷ 45 ∷ 45 ∷ []) bytes in
    let cdata = behind (33 ∷ 91 ∷ 67 ∷ 68 ∷ 65 ∷ 84 ∷ 65 ∷ 91 ∷ []) bytes in
    let question = behind (63 ∷ []) bytes in
    let slash = behind (47 ∷ []) bytes in
    elim (ahead_cases comment (ahead cdata (ahead question (ahead slash (tag_at Exact bytes) end_at) question_at) cdata_at) comment_at (Some (p, rest)) e) [
      | inl f ↦ (
          let h = comment_takes f.0 rest p f.2 (behind_utf8 (33 ∷ 45 ∷ 45 ∷ []) bytes f.0 refl f.1 u) in
          marked 60 bytes rest p Comment (33 ∷ 45 ∷ 45 ∷ h.1) (sym h.0) (h.1, h.2, refl) (behind_takes (33 ∷ 45 ∷ 45 ∷ []) bytes f.0 f.1 ∙ ap (λ (x : List ℕ). 33 ∷ 45 ∷ 45 ∷ x) h.3))
      | inr e1 ↦ elim (ahead_cases cdata (ahead question (ahead slash (tag_at Exact bytes) end_at) question_at) cdata_at (Some (p, rest)) e1.1) [
        | inl f ↦ (
            let h = cdata_takes f.0 rest p f.2 (behind_utf8 (33 ∷ 91 ∷ 67 ∷ 68 ∷ 65 ∷ 84 ∷ 65 ∷ 91 ∷ []) bytes f.0 refl f.1 u) in
            marked 60 bytes rest p (CData h.0) (33 ∷ 91 ∷ 67 ∷ 68 ∷ 65 ∷ 84 ∷ 65 ∷ 91 ∷ h.1) (sym h.2) (h.1, h.3, refl) (behind_takes (33 ∷ 91 ∷ 67 ∷ 68 ∷ 65 ∷ 84 ∷ 65 ∷ 91 ∷ []) bytes f.0 f.1 ∙ ap (λ (x : List ℕ). 33 ∷ 91 ∷ 67 ∷ 68 ∷ 65 ∷ 84 ∷ 65 ∷ 91 ∷ x) h.4))
        | inr e2 ↦ elim (ahead_cases question (ahead slash (tag_at Exact bytes) end_at) question_at (Some (p, rest)) e2.1) [
          | inl f ↦ elim (question_takes f.0 rest p f.2 (behind_utf8 (63 ∷ []) bytes f.0 refl f.1 u)) [
            | inl h ↦ marked 60 bytes rest p Declaration (63 ∷ 120 ∷ 109 ∷ 108 ∷ h.1) (sym h.0) (h.1, h.2, refl) (behind_takes (63 ∷ []) bytes f.0 f.1 ∙ ap (λ (x : List ℕ). 63 ∷ x) h.3)
            | inr h ↦ marked 60 bytes rest p Instruction (63 ∷ h.1) (sym h.0) (h.1, h.2, refl) (behind_takes (63 ∷ []) bytes f.0 f.1 ∙ ap (λ (x : List ℕ). 63 ∷ x) h.3)
          ]
          | inr e3 ↦ elim (ahead_cases slash (tag_at Exact bytes) end_at (Some (p, rest)) e3.1) [
            | inl f ↦ (
                let h = end_takes f.0 rest p f.2 (behind_utf8 (47 ∷ []) bytes f.0 refl f.1 u) in
                marked 60 bytes rest p (End h.0) (47 ∷ h.1) (sym h.2) (h.1, h.3, refl) (behind_takes (47 ∷ []) bytes f.0 f.1 ∙ ap (λ (x : List ℕ). 47 ∷ x) h.4))
            | inr e4 ↦ (
                let h = tag_takes Exact bytes rest p e4.1 u in
                elim h.1.1 [
                  | inl k ↦ marked 60 bytes rest p (Start h.1.0) h.0 (sym k.0) (h.0, k.1, refl) h.2
                  | inr k ↦ marked 60 bytes rest p (Empty h.1.0) h.0 (sym k.0) (h.0, k.1, refl) h.2
                ])
          ]
        ]
      ]
    ]

begins_marked : (first : ℕ) (bytes back rest : List ℕ) (p : Piece) → first ≢ 0xD → bytes ≡ first ∷ back → IsMarked first back p rest → Begins p bytes rest
begins_marked first bytes back rest p other is m = record {
  front = first ∷ m.0;
  form = m.1;
  parts = is ∙ ap (λ (x : List ℕ). first ∷ x) m.2;
  lone = λ more e next. other (let same : first ≡ 0xD = cc in same);
}

-- what is read is a piece
pub piece_takes : (bytes rest : List ℕ) (p : Piece) → IsUtf8 bytes → piece_at bytes ≡ Some (p, rest) → Begins p bytes rest
unfolding piece_at
piece_takes bytes rest p u e =
    let refer : List ℕ → Option (Piece × List ℕ) = λ r. reference_at r >>= λ c. Some (Reference c.0, c.1) in
    elim (ahead_cases (behind (60 ∷ []) bytes) (ahead (behind (38 ∷ []) bytes) (character_at bytes) refer) markup_at (Some (p, rest)) e) [
      | inl f ↦ begins_marked 60 bytes f.0 rest p (λ h. omega (arith, h)) (behind_takes (60 ∷ []) bytes f.0 f.1) (markup_takes f.0 rest p (behind_utf8 (60 ∷ []) bytes f.0 refl f.1 u) f.2)
      | inr e1 ↦ elim (ahead_cases (behind (38 ∷ []) bytes) (character_at bytes) refer (Some (p, rest)) e1.1) [
        | inl f ↦ (
            let b = bind_some (reference_at f.0) (λ c. Some (Reference c.0, c.1)) (p, rest) f.2 in
            let both = pairs (Reference b.0.0, b.0.1) (p, rest) b.2 in
            let t = reference_takes f.0 b.0.1 b.0.0 b.1 in
            begins_marked 38 bytes f.0 rest p (λ h. omega (arith, h)) (behind_takes (38 ∷ []) bytes f.0 f.1) (marked 38 f.0 rest p (Reference b.0.0) t.0 both.0 (t.0, t.1, refl) (t.2 ∙ ap (λ (x : List ℕ). t.0 ++ x) both.1)))
        | inr e2 ↦ (
            let h = character_takes bytes rest p u e1.0 e2.0 e2.1 in
            record { front = h.1; form = subst (λ (x : Piece). PieceForm x h.1) (sym h.2) h.3; parts = h.4; lone = h.5 })
      ]
    ]

no_name_byte : (a m : ℕ) → is_name_byte a ≡ false → is_name_byte m ≡ true → eqb m a ≡ false
no_name_byte a m stop is = ne_eqb m a (λ e. let both : is_name_byte a ≡ true = subst (λ (x : ℕ). is_name_byte x ≡ true) e is in let clash : true ≡ false = sym both ∙ stop in absurd cc)

bang_stop : is_name_byte 33 ≡ false
unfolding is_name_byte
bang_stop = refl

question_stop : is_name_byte 63 ≡ false
unfolding is_name_byte
question_stop = refl

slash_stop : is_name_byte 47 ≡ false
unfolding is_name_byte
slash_stop = refl

-- behind `<`, a name begins a tag
named_markup : (name rest : List ℕ) → IsName name → markup_at (name ++ rest) ≡ tag_at Exact (name ++ rest)
unfolding markup_at
named_markup [] rest n = absurd (let e : is_name [] ≡ true = subst (λ (x : List ℕ). is_name x ≡ true) chars-nil n.named in cc)
named_markup (m ∷ more) rest n =
    let first = (and_true (is_name_byte m) (list_all is_name_byte more) (name_bytes (m ∷ more) n)).0 in
    rw (no_name_byte 33 m bang_stop first, no_name_byte 63 m question_stop first, no_name_byte 47 m slash_stop first) refl

tag_first : (shut : List ℕ) (tag : Tag) (text rest : List ℕ) → IsTag Exact shut tag text → markup_at (text ++ rest) ≡ tag_at Exact (text ++ rest)
tag_first shut tag text rest t =
    let whole : text ++ rest ≡ tag.name ++ (t.listed ++ (t.space ++ (shut ++ rest))) = ap (λ (x : List ℕ). x ++ rest) t.text_is ∙ (simp append_assoc) in
    ap markup_at whole ∙ named_markup tag.name (t.listed ++ (t.space ++ (shut ++ rest))) t.named ∙ ap (tag_at Exact) (sym whole)

at_less : (rest : List ℕ) → piece_at (60 ∷ rest) ≡ markup_at rest
unfolding piece_at
at_less rest = refl

at_reference : (rest : List ℕ) → piece_at (38 ∷ rest) ≡ (reference_at rest >>= λ c. Some (Reference c.0, c.1))
unfolding piece_at
at_reference rest = refl

at_comment : (rest : List ℕ) → markup_at (33 ∷ 45 ∷ 45 ∷ rest) ≡ comment_at rest
unfolding markup_at
at_comment rest = refl

at_cdata : (rest : List ℕ) → markup_at (33 ∷ 91 ∷ 67 ∷ 68 ∷ 65 ∷ 84 ∷ 65 ∷ 91 ∷ rest) ≡ cdata_at rest
unfolding markup_at
at_cdata rest = refl

at_question : (rest : List ℕ) → markup_at (63 ∷ rest) ≡ question_at rest
unfolding markup_at
at_question rest = refl

at_slash : (rest : List ℕ) → markup_at (47 ∷ rest) ≡ end_at rest
unfolding markup_at
at_slash rest = refl

form_again : (p : Piece) (front rest : List ℕ) → PieceForm p front → NotLone front rest → IsUtf8 (front ++ rest) → piece_at (front ++ rest) ≡ Some (p, rest)
form_again Declaration front rest f lone u = ap (λ (x : List ℕ). piece_at (x ++ rest)) f.2 ∙ at_less (63 ∷ 120 ∷ 109 ∷ 108 ∷ (f.0 ++ rest)) ∙ at_question (120 ∷ 109 ∷ 108 ∷ (f.0 ++ rest)) ∙ declaration_again f.0 rest f.1
form_again (Start tag) front rest f lone u = ap (λ (x : List ℕ). piece_at (x ++ rest)) f.2 ∙ at_less (f.0 ++ rest) ∙ tag_first (62 ∷ []) tag f.0 rest f.1 ∙ start_again Exact tag f.0 rest f.1
form_again (Empty tag) front rest f lone u = ap (λ (x : List ℕ). piece_at (x ++ rest)) f.2 ∙ at_less (f.0 ++ rest) ∙ tag_first (47 ∷ 62 ∷ []) tag f.0 rest f.1 ∙ empty_again Exact tag f.0 rest f.1
form_again (End name) front rest f lone u = ap (λ (x : List ℕ). piece_at (x ++ rest)) f.2 ∙ at_less (47 ∷ (f.0 ++ rest)) ∙ at_slash (f.0 ++ rest) ∙ end_again name f.0 rest f.1
form_again Comment front rest f lone u = ap (λ (x : List ℕ). piece_at (x ++ rest)) f.2 ∙ at_less (33 ∷ 45 ∷ 45 ∷ (f.0 ++ rest)) ∙ at_comment (f.0 ++ rest) ∙ comment_again f.0 rest f.1
form_again Instruction front rest f lone u = ap (λ (x : List ℕ). piece_at (x ++ rest)) f.2 ∙ at_less (63 ∷ (f.0 ++ rest)) ∙ at_question (f.0 ++ rest) ∙ instruction_again f.0 rest f.1
form_again (CData value) front rest f lone u = ap (λ (x : List ℕ). piece_at (x ++ rest)) f.2 ∙ at_less (33 ∷ 91 ∷ 67 ∷ 68 ∷ 65 ∷ 84 ∷ 65 ∷ 91 ∷ (f.0 ++ rest)) ∙ at_cdata (f.0 ++ rest) ∙ cdata_again value f.0 rest f.1
form_again (Reference c) front rest f lone u = ap (λ (x : List ℕ). piece_at (x ++ rest)) f.2 ∙ at_reference (f.0 ++ rest) ∙ ap (λ (o : Option (ℕ × List ℕ)). o >>= λ x. Some (Reference x.0, x.1)) (reference_again c f.0 rest f.1)
form_again (Character c) front rest f lone u = character_again c front rest f lone u

-- a piece that stands at the front is read, so at most one does
pub piece_again : (bytes rest : List ℕ) (p : Piece) → IsUtf8 bytes → Begins p bytes rest → piece_at bytes ≡ Some (p, rest)
piece_again bytes rest p u b = ap piece_at b.parts ∙ form_again p b.front rest b.form b.lone (subst IsUtf8 b.parts u)

pub no_piece : (bytes : List ℕ) → IsUtf8 bytes → piece_at bytes ≡ None → NoPieceAt bytes
no_piece bytes u e p rest b = never (p, rest) (sym e ∙ piece_again bytes rest p u b)

-- what was read, in the words of the grammar
read_one : {X : Type 0} (bytes : List ℕ) (piece : X → Piece) (rest : X → List ℕ) (o : Option X) → IsUtf8 bytes → Gives (λ x. (piece x, rest x)) o (piece_at bytes) → MatchOption o (NoPieceAt bytes) (λ x. Begins (piece x) bytes (rest x))
read_one bytes piece rest None u e = no_piece bytes u e
read_one bytes piece rest (Some x) u e = piece_takes bytes (rest x) (piece x) u e

pub read_by_grammar : {X E : Type 0} (bytes : List ℕ) (piece : X → Piece) (rest : X → List ℕ) (r : Result (Option X) E) → IsUtf8 bytes → IfOk r (λ o. Gives (λ x. (piece x, rest x)) o (piece_at bytes)) → IfOk r (λ o. MatchOption o (NoPieceAt bytes) (λ x. Begins (piece x) bytes (rest x)))
read_by_grammar bytes piece rest (Ok o) u e = read_one bytes piece rest o u e
read_by_grammar bytes piece rest (Err error) u e = tt
