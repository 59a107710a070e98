-- A run of plain characters, taken at once, is what its characters are one by one.
use Rattle.std.proofs.Common.{◌≡◌, ℕ, ◌<◌, ◌≤◌, Bool, true, false, cond, List, [], ◌∷◌, ◌++◌, length, map, take, drop, None, refl, sym, ap, subst, ◌∙◌, arith, append_assoc}
use Rattle.std.specs.Prelude.{chars, encode_utf8, encode_utf8_all, not, ◌==◌, ◌||◌}
use Rattle.std.specs.List.{list_all}
use Rattle.std.proofs.lemmas.List.{append-nil, take-append-drop, length-take-le}
use Rattle.std.proofs.lemmas.Str.{encodes-chars, length-le-encodes}
use Rattle.base_texts.specs.Characters.{is_xml_char}
use Rattle.base_texts.specs.Limits.{is_empty}
use Rattle.xml_pieces.specs.Pieces.{Character, Begins}
use Rattle.xml_pieces.specs.Reasons.{is_plain, IsPlainRun}
use Rattle.xml_pieces.proofs.PlainLaws.{plain_piece}
use Rattle.xml_read.specs.Contexts.{reason, brackets_after}
use Rattle.xml_read.specs.Private.States.{State, context, open_of, added}
use Rattle.xml_read.proofs.Keeping.{and_parts}
use Rattle.xml_read.proofs.Soundness.{or_parts, not_true}
use Rattle.xml_read.proofs.Telling.{is_empty-map}
use Rattle.xml_read.proofs.Known.{laws}
use Rattle.xml_read.proofs.Reaching.{place_of}
use Rattle.xml_read.proofs.Going.{Stands, stands_on}

-- a plain character is neither `>` nor `]`
plain_apart : (c : ℕ) → is_plain c ≡ true → ((c == 0x3E) ≡ false) × ((c == 0x5D) ≡ false)
plain_apart c e =
    let other : (c == 60 || c == 38 || c == 62 || c == 93 || c == 13) ≡ false = not_true _ (and_parts (is_xml_char c) (not (c == 60 || c == 38 || c == 62 || c == 93 || c == 13)) e).1 in
    let four = (or_parts (c == 60 || c == 38 || c == 62 || c == 93) (c == 13) other).0 in
    let three = or_parts (c == 60 || c == 38 || c == 62) (c == 93) four in
    ((or_parts (c == 60 || c == 38) (c == 62) three.0).1, three.1)

no_reason : (c : ℕ) (s : State) → is_plain c ≡ true → is_empty s.above ≡ false → reason (Character c) (context s) ≡ None
unfolding reason
no_reason c s plain inside =
    let shut : (c == 0x3E) ≡ false = (plain_apart c plain).0 in
    let here : is_empty (map open_of s.above) ≡ false = is_empty-map open_of s.above ∙ inside in
    rw (shut, here) refl

no_brackets : (c n : ℕ) → is_plain c ≡ true → brackets_after c n ≡ 0
no_brackets c n plain = rw (plain_apart c plain).1 refl

-- characters behind characters
some_more : (a b : List ℕ) → is_empty b ≡ false → is_empty (a ++ b) ≡ false
some_more [] b e = e
some_more (x ∷ a) b e = refl

abbrev put : State → List ℕ → ℕ → State
put s text text_at = record { above = s.above; kids = s.kids; text = text; text_at = text_at; ended = s.ended; first = false; brackets = 0 }

same_put : (s : State) (a b : List ℕ) (m n : ℕ) → a ≡ b → m ≡ n → put s a m ≡ put s b n
same_put s a b m n e f = rw (e, f) refl

added_inside : (text : List ℕ) (at : ℕ) (s : State) → is_empty s.above ≡ false → added text at 0 s ≡ put s (s.text ++ text) (cond (is_empty s.text) at s.text_at)
added_inside text at s inside = rw inside refl

first_at : (b : Bool) (m n : ℕ) → b ≡ false → cond b m n ≡ n
first_at b m n e = rw e refl

twice : (a b : List ℕ) (at later : ℕ) (s : State) → is_empty a ≡ false → is_empty s.above ≡ false → added b later 0 (added a at 0 s) ≡ added (a ++ b) at 0 s
twice a b at later s some inside =
    let place = cond (is_empty s.text) at s.text_at in
    ap (added b later 0) (added_inside a at s inside)
    ∙ added_inside b later (put s (s.text ++ a) place) inside
    ∙ same_put s ((s.text ++ a) ++ b) (s.text ++ (a ++ b)) (cond (is_empty (s.text ++ a)) later place) place (append_assoc s.text a b) (first_at (is_empty (s.text ++ a)) later place (some_more s.text a some))
    ∙ sym (added_inside (a ++ b) at s inside)

not_empty : (xs : List ℕ) → 0 < length xs → is_empty xs ≡ false
not_empty [] some = absurd (omega (arith, some))
not_empty (x ∷ xs) some = refl

some_bytes : (c : ℕ) → is_empty (encode_utf8 c) ≡ false
some_bytes c = not_empty (encode_utf8 c) (omega (arith, length-le-encodes (c ∷ []), ap length (append-nil (encode_utf8 c))))

-- one character
one_on : (c : ℕ) (bytes rest : List ℕ) (s : State) (at : ℕ) → is_plain c ≡ true → is_empty s.above ≡ false → Stands bytes (encode_utf8 c ++ rest) s → at ≡ place_of bytes (encode_utf8 c ++ rest) → Stands bytes rest (added (encode_utf8 c) at 0 s)
one_on c bytes rest s at plain inside stands at_is =
    let begins : Begins (Character c) (encode_utf8 c ++ rest) rest = laws.takes (encode_utf8 c ++ rest) rest (Character c) stands.rest_utf8 (plain_piece c rest plain stands.rest_utf8) in
    subst (λ (n : ℕ). Stands bytes rest (added (encode_utf8 c) at n s)) (no_brackets c s.brackets plain)
    (stands_on laws bytes (encode_utf8 c ++ rest) rest s (Character c) at stands at_is begins (no_reason c s plain inside))

runs_on : (cs : List ℕ) (c : ℕ) (bytes behind : List ℕ) (s : State) (at : ℕ) → list_all is_plain (c ∷ cs) ≡ true → is_empty s.above ≡ false → Stands bytes (encode_utf8_all (c ∷ cs) ++ behind) s → at ≡ place_of bytes (encode_utf8_all (c ∷ cs) ++ behind)
    → Stands bytes behind (added (encode_utf8_all (c ∷ cs)) at 0 s)
runs_on [] c bytes behind s at plain inside stands at_is =
    let alone : encode_utf8 c ++ [] ≡ encode_utf8 c = append-nil (encode_utf8 c) in
    subst (λ (t : List ℕ). Stands bytes behind (added t at 0 s)) (sym alone)
    (one_on c bytes behind s at (and_parts (is_plain c) true plain).0 inside (subst (λ (t : List ℕ). Stands bytes (t ++ behind) s) alone stands) (at_is ∙ ap (λ (t : List ℕ). place_of bytes (t ++ behind)) alone))
runs_on (d ∷ cs) c bytes behind s at plain inside stands at_is =
    let both = and_parts (is_plain c) (list_all is_plain (d ∷ cs)) plain in
    let rest = encode_utf8_all (d ∷ cs) ++ behind in
    let apart : encode_utf8_all (c ∷ d ∷ cs) ++ behind ≡ encode_utf8 c ++ rest = append_assoc (encode_utf8 c) (encode_utf8_all (d ∷ cs)) behind in
    let next : Stands bytes rest (added (encode_utf8 c) at 0 s) = one_on c bytes rest s at both.0 inside (subst (λ (t : List ℕ). Stands bytes t s) apart stands) (at_is ∙ ap (place_of bytes) apart) in
    let still : is_empty (added (encode_utf8 c) at 0 s).above ≡ false = rw inside inside in
    subst (Stands bytes behind) (twice (encode_utf8 c) (encode_utf8_all (d ∷ cs)) at (place_of bytes rest) s (some_bytes c) inside)
    (runs_on cs d bytes behind (added (encode_utf8 c) at 0 s) (place_of bytes rest) both.1 still next refl)

by_chars : (cs : List ℕ) (bytes run behind : List ℕ) (s : State) (at : ℕ) → encode_utf8_all cs ≡ run → list_all is_plain cs ≡ true → 0 < length run → is_empty s.above ≡ false → Stands bytes (run ++ behind) s → at ≡ place_of bytes (run ++ behind) → Stands bytes behind (added run at 0 s)
by_chars [] bytes run behind s at is plain some inside stands at_is = absurd (omega (arith, some, ap length is))
by_chars (c ∷ cs) bytes run behind s at is plain some inside stands at_is =
    subst (λ (t : List ℕ). Stands bytes behind (added t at 0 s)) is
    (runs_on cs c bytes behind s at plain inside (subst (λ (t : List ℕ). Stands bytes (t ++ behind) s) (sym is) stands) (at_is ∙ ap (λ (t : List ℕ). place_of bytes (t ++ behind)) (sym is)))

pub run_on : (n : ℕ) (bytes rest : List ℕ) (s : State) (at : ℕ) → 0 < n → n ≤ length rest → IsPlainRun (take n rest) → is_empty s.above ≡ false → Stands bytes rest s → at ≡ place_of bytes rest → Stands bytes (drop n rest) (added (take n rest) at 0 s)
run_on n bytes rest s at more within run inside stands at_is =
    let some : 0 < length (take n rest) = omega (arith, more, length-take-le n rest within) in
    let whole : rest ≡ take n rest ++ drop n rest = sym (take-append-drop n rest) in
    by_chars (chars (take n rest)) bytes (take n rest) (drop n rest) s at (encodes-chars (take n rest) run.utf8) run.each some inside
    (subst (λ (r : List ℕ). Stands bytes r s) whole stands) (at_is ∙ ap (place_of bytes) whole)
