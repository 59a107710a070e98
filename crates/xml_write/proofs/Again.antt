-- The text that is written of items tells the same items, piece by piece.
use Rattle.std.proofs.Common.{◌≡◌, ℕ, ◌+◌, ◌≤◌, true, false, eqb, List, [], ◌∷◌, ◌++◌, length, get_or, None, refl, sym, ap, subst, ◌∙◌, append_assoc, inl, inr, arith}
use Rattle.std.specs.Prelude.{◌⊎◌, IsUtf8, chars, encode_utf8, encode_utf8_all}
use Rattle.std.specs.List.{list_all, flat_map}
use Rattle.std.proofs.lemmas.List.{append-nil, length-append}
use Rattle.std.proofs.lemmas.List.Concat.{flat_map-append}
use Rattle.std.proofs.lemmas.Bool.{true≢false, and_parts}
use Rattle.std.proofs.lemmas.Str.{IsUtf8-append, encodes-chars, length-encode, len_utf8_bounds}
use Rattle.base_texts.specs.Characters.{is_xml_char}
use Rattle.base_texts.specs.Limits.{is_empty}
use Rattle.xml_pieces.specs.Pieces.{Piece, Reference, Character, IsText, PieceForm}
use Rattle.xml_read.specs.Contexts.{Open, Context, reason, brackets_after, after}
use Rattle.xml_read.specs.Tokens.{Token, Opens, Closes, Words, join}
use Rattle.xml_read.specs.Documents.{told, Whole}
use Rattle.xml_write.specs.Written.{text_escape}
use Rattle.xml_write.proofs.Escapes.{IsMentioned, IsLiteral, char_cases}

-- ---- pieces

-- the bytes are pieces that tell these tokens, from this context and place on
abbrev pub Reads : Context → ℕ → List ℕ → List Token → Type 0
Reads c at bytes ts = IsUtf8 bytes × ((ps : List Piece) × Whole ps c at bytes ts)

-- one piece more at the front
pub one_more : (p : Piece) (c : Context) (at : ℕ) (front rest : List ℕ) (ts : List Token) → PieceForm p front → (front ≡ 0xD ∷ [] → ⊥) → IsUtf8 front → reason p c ≡ None
    → Reads (after p c) (at + length front) rest ts → Reads c at (front ++ rest) (told p c at ts)
one_more p c at front rest ts form lone utf8 free (u, (ps, whole)) =
    (IsUtf8-append front rest utf8 u, (p ∷ ps, (rest, ts, record { front = front; form = form; parts = refl; lone = λ more e r. lone e }, free, refl, whole)))

pub reads_bytes : (c : Context) (at : ℕ) (bytes same : List ℕ) (ts : List Token) → bytes ≡ same → Reads c at bytes ts → Reads c at same ts
reads_bytes c at bytes same ts e r = subst (λ (x : List ℕ). Reads c at x ts) e r

pub reads_at : (c : Context) (at same : ℕ) (bytes : List ℕ) (ts : List Token) → at ≡ same → Reads c at bytes ts → Reads c same bytes ts
reads_at c at same bytes ts e r = subst (λ (n : ℕ). Reads c n bytes ts) e r

-- within these open elements; so many `]` stand before
abbrev pub within : List Open → ℕ → Context
within es n = record { elements = es; ended = false; first = false; brackets = n }

-- behind an element within these
abbrev pub behind : List Open → Context
behind es = record { elements = es; ended = is_empty es; first = false; brackets = 0 }

abbrev pub ReadsWithin : List Open → ℕ → List ℕ → List Token → Type 0
ReadsWithin es at bytes ts = (n : ℕ) → Reads (within es n) at bytes ts

-- ---- texts

abbrev pub NoWords : List Token → Type 0
NoWords [] = Unit {0}
NoWords (Opens name attributes binds at ∷ ts) = Unit {0}
NoWords (Closes ∷ ts) = Unit {0}
NoWords (Words text at ∷ ts) = ⊥

reference_free : (c n : ℕ) (es : List Open) → is_empty es ≡ false → reason (Reference c) (within es n) ≡ None
unfolding reason
reference_free c n es inside = rw inside refl

literal_free : (c n : ℕ) (es : List Open) → is_empty es ≡ false → eqb c 62 ≡ false → reason (Character c) (within es n) ≡ None
unfolding reason
literal_free c n es inside other = rw (other, inside) refl

reference_tells : (c n at : ℕ) (es : List Open) (ts : List Token) → told (Reference c) (within es n) at ts ≡ join (encode_utf8 c) at ts
reference_tells c n at es ts = refl

literal_tells : (c n at : ℕ) (es : List Open) (ts : List Token) → is_empty es ≡ false → told (Character c) (within es n) at ts ≡ join (encode_utf8 c) at ts
literal_tells c n at es ts inside = rw inside refl

pub not_return : (b : ℕ) (bytes : List ℕ) → get_or bytes 0 0 ≡ b → (b ≡ 13 → ⊥) → bytes ≡ 13 ∷ [] → ⊥
not_return b bytes is other e = other (sym is ∙ ap (λ (l : List ℕ). get_or l 0 0) e)

module _ (es : List Open) (inside : is_empty es ≡ false) (c at : ℕ) (front rest : List ℕ) (ts : List Token) (next : ReadsWithin es (at + length front) rest ts) where
  one_char : IsMentioned c front ⊎ IsLiteral c front → ReadsWithin es at (front ++ rest) (join (encode_utf8 c) at ts)
  one_char (inl m) n = one_more (Reference c) (within es n) at front rest ts (m.inner, m.reference, m.written_is) (not_return 38 front (ap (λ (l : List ℕ). get_or l 0 0) m.written_is) (λ e. omega (arith, e))) m.text.utf8 (reference_free c n es inside) (next 0)
  one_char (inr l) n =
      subst (Reads (within es n) at (front ++ rest)) (literal_tells c n at es ts inside)
      (one_more (Character c) (within es n) at front rest ts l.form l.not_return l.text.utf8 (literal_free c n es inside l.not_greater) (next (brackets_after c n)))

-- the characters, each at its place
abbrev joined : List ℕ → ℕ → List Token → List Token
joined [] at ts = ts
joined (c ∷ cs) at ts = join (encode_utf8 c) at (joined cs (at + length (flat_map text_escape (encode_utf8 c))) ts)

letters : (cs : List ℕ) → list_all is_xml_char cs ≡ true → (es : List Open) → is_empty es ≡ false → (at : ℕ) (rest : List ℕ) (ts : List Token)
    → ReadsWithin es (at + length (flat_map text_escape (encode_utf8_all cs))) rest ts → ReadsWithin es at (flat_map text_escape (encode_utf8_all cs) ++ rest) (joined cs at ts)
letters [] e es inside at rest ts next = λ n. reads_at (within es n) (at + 0) at rest ts (omega arith) (next n)
letters (c ∷ cs) e es inside at rest ts next =
    let both = and_parts (is_xml_char c) (list_all is_xml_char cs) e in
    let front = flat_map text_escape (encode_utf8 c) in
    let back = flat_map text_escape (encode_utf8_all cs) in
    let parts : flat_map text_escape (encode_utf8_all (c ∷ cs)) ≡ front ++ back = flat_map-append text_escape (encode_utf8 c) (encode_utf8_all cs) in
    let place : at + length (flat_map text_escape (encode_utf8_all (c ∷ cs))) ≡ (at + length front) + length back = omega (arith, ap length parts, length-append front back) in
    let inner = letters cs both.1 es inside (at + length front) rest ts (λ n. reads_at (within es n) (at + length (flat_map text_escape (encode_utf8_all (c ∷ cs)))) ((at + length front) + length back) rest ts place (next n)) in
    let one = one_char es inside c at front (back ++ rest) (joined cs (at + length front) ts) inner (char_cases c both.0) in
    λ n. reads_bytes (within es n) at (front ++ (back ++ rest)) (flat_map text_escape (encode_utf8_all (c ∷ cs)) ++ rest) (joined (c ∷ cs) at ts) (sym (append_assoc front back rest) ∙ ap (λ (x : List ℕ). x ++ rest) (sym parts)) (one n)

join_words : (bytes : List ℕ) (at : ℕ) (ts : List Token) → 1 ≤ length bytes → NoWords ts → join bytes at ts ≡ Words bytes at ∷ ts
join_words [] at ts some no_words = absurd (omega (arith, some))
join_words (b ∷ bs) at [] some no_words = refl
join_words (b ∷ bs) at (Opens name attributes binds place ∷ ts) some no_words = refl
join_words (b ∷ bs) at (Closes ∷ ts) some no_words = refl
join_words (b ∷ bs) at (Words text place ∷ ts) some no_words = absurd no_words

join_more : (bytes text : List ℕ) (at place : ℕ) (ts : List Token) → 1 ≤ length bytes → join bytes at (Words text place ∷ ts) ≡ Words (bytes ++ text) at ∷ ts
join_more [] text at place ts some = absurd (omega (arith, some))
join_more (b ∷ bs) text at place ts some = refl

encode_some : (c : ℕ) → 1 ≤ length (encode_utf8 c)
encode_some c = let some = (len_utf8_bounds c).0 in omega (arith, length-encode c, some)

joined_words : (c : ℕ) (cs : List ℕ) (at : ℕ) (ts : List Token) → NoWords ts → joined (c ∷ cs) at ts ≡ Words (encode_utf8_all (c ∷ cs)) at ∷ ts
joined_words c [] at ts no_words = join_words (encode_utf8 c) at ts (encode_some c) no_words ∙ ap (λ (x : List ℕ). Words x at ∷ ts) (sym (append-nil (encode_utf8 c)))
joined_words c (d ∷ cs) at ts no_words =
    let place = at + length (flat_map text_escape (encode_utf8 c)) in
    ap (join (encode_utf8 c) at) (joined_words d cs place ts no_words) ∙ join_more (encode_utf8 c) (encode_utf8_all (d ∷ cs)) at place ts (encode_some c)

some_chars : (cs text : List ℕ) → encode_utf8_all cs ≡ text → is_empty text ≡ false → (c : ℕ) × (ds : List ℕ) × (cs ≡ c ∷ ds)
some_chars [] text is some = absurd (true≢false (ap is_empty is ∙ some))
some_chars (c ∷ cs) text is some = (c, cs, refl)

-- a text is read as one
pub text_again : (text : List ℕ) → IsText text → is_empty text ≡ false → (es : List Open) → is_empty es ≡ false → (at : ℕ) (rest : List ℕ) (ts : List Token) → NoWords ts
    → ReadsWithin es (at + length (flat_map text_escape text)) rest ts → ReadsWithin es at (flat_map text_escape text ++ rest) (Words text at ∷ ts)
text_again text fine some es inside at rest ts no_words next =
    let cs = chars text in
    let is : encode_utf8_all cs ≡ text = encodes-chars text fine.utf8 in
    let first = some_chars cs text is some in
    let words : joined cs at ts ≡ Words text at ∷ ts = ap (λ (l : List ℕ). joined l at ts) first.2 ∙ joined_words first.0 first.1 at ts no_words ∙ ap (λ (l : List ℕ). Words (encode_utf8_all l) at ∷ ts) (sym first.2) ∙ ap (λ (l : List ℕ). Words l at ∷ ts) is in
    let read = letters cs fine.each es inside at rest ts (subst (λ (l : List ℕ). ReadsWithin es (at + length (flat_map text_escape l)) rest ts) (sym is) next) in
    λ n. subst (Reads (within es n) at (flat_map text_escape text ++ rest)) words (subst (λ (l : List ℕ). Reads (within es n) at (flat_map text_escape l ++ rest) (joined cs at ts)) is (read n))
