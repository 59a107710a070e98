-- Names and octets, whose text is the bytes between.
use Rattle.std.proofs.Common.{◌≡◌, ℕ, suc, ◌+◌, ◌-◌, ◌<◌, ◌≤◌, Bool, true, false, Option, List, [], ◌∷◌, ◌++◌, length, get_or, take, drop, Result, Ok, Err, refl, sym, ap, subst, ◌∙◌, arith, inl, inr, append-nil}
use Rattle.module_grammar.specs.declared.reach.Reach.{Reach}
use Rattle.module_grammar.specs.declared.reach.Stop.{Stop}
use Rattle.module_grammar.specs.declared.reach.Stop.TheVariants as stop
use Rattle.module_grammar.specs.Reading.{Answer, Found, Fails, Deep, Reader, later, word_at, byte_at, then_at, many_at, as_at, behind_at}
use Rattle.module_grammar.specs.Reached.{reach, reached, reading}
use Rattle.module_grammar.specs.Shapes.{Sunk, never, each_written}
use Rattle.module_grammar.specs.Laws.{Told}
use Rattle.module_text.specs.Names.{is_letter_or_digit, is_hexadecimal_digit, is_identifier, is_reference, is_small, is_capital}
use Rattle.module_grammar.specs.NameReading.{piece_at, piece_text, byte_text, name_at, begun, identifier_at, reference_at, octet_at, octet_text, octets_at, octets_of, signed_at}
use Rattle.module_grammar.proofs.NameLaws.{IsIdentifier, IsReference, identifier_law, reference_law}
use Rattle.module_parse.specs.Spans.{between, Spans, GivesSpan}
use Rattle.module_parse.specs.Reads.{IsRead, IsStopped, IsAgain, IsSpan, ReadsByte, ReadsSpan, PassesWord, PassesStaying}
use Rattle.module_parse.proofs.Numerals.{between_first, word_byte}
use Rattle.module_parse.proofs.Chaining.{as_read, as_stops, then_read, then_stops, then_next_stops, or_first, or_second, or_second_stops, behind_read, behind_next_stops, no_memory}
use Rattle.module_parse.proofs.Looping.{between_both}

between_none : (bytes : List ℕ) (start : ℕ) → between bytes start start ≡ []
between_none bytes start = let none : start - start ≡ 0 = omega arith in ap (λ k. take k (drop start bytes)) none

-- one byte
pub between_one : (bytes : List ℕ) (a b : ℕ) → a < length bytes → b ≡ a + 1 → between bytes a b ≡ get_or bytes a 0 ∷ []
between_one bytes a b lt e =
    ap (λ k. between bytes a k) e ∙ between_first bytes a (a + 1) lt (omega arith) ∙ ap (λ l. get_or bytes a 0 ∷ l) (between_none bytes (a + 1))

-- and more behind it
between_on : (bytes : List ℕ) (a b c : ℕ) → a < length bytes → b ≡ a + 1 → b ≤ c → get_or bytes a 0 ∷ between bytes b c ≡ between bytes a c
between_on bytes a b c lt e le = ap (λ k. get_or bytes a 0 ∷ between bytes k c) e ∙ sym (between_first bytes a c lt (omega (arith, e, le)))

-- ---- pieces of names

pub letter_piece : (bytes : List ℕ) (s q : Reach) → IsRead (byte_at is_letter_or_digit) bytes s (get_or bytes s.at 0) q → (q.at ≡ s.at + 1) × (q.at ≤ length bytes) → IsSpan piece_at piece_text bytes s q
letter_piece bytes s q h m = record {
  value = inl (get_or bytes s.at 0);
  read = or_first (behind_at (45 ∷ []) (byte_at is_letter_or_digit)) h;
  text = sym (between_one bytes s.at q.at (omega (arith, m.0, m.1)) m.0);
}

hyphen_is : (bytes : List ℕ) (s q : Reach) → IsRead (word_at (45 ∷ [])) bytes s tt q → (q.at ≡ s.at + 1) × (q.at ≤ length bytes) → get_or bytes s.at 0 ≡ 45
hyphen_is bytes s q h m = (word_byte 45 bytes s q h.is).is

pub hyphen_piece : (bytes : List ℕ) (s p q : Reach) (e : Stop) (r : Result Reach Stop) → IsStopped (byte_at is_letter_or_digit) bytes s e → IsAgain s e p → IsRead (word_at (45 ∷ [])) bytes p tt q → (q.at ≡ p.at + 1) × (q.at ≤ length bytes) → ReadsByte is_letter_or_digit bytes q r → PassesWord 1 (length bytes) q r → ReadsSpan piece_at piece_text bytes s r
hyphen_piece bytes s p q e (Ok t) h a w m g n = record {
  value = inr (get_or bytes q.at 0);
  read = or_second h a (behind_read (45 ∷ []) w g);
  text = ap (λ b. b ∷ get_or bytes q.at 0 ∷ []) (sym (hyphen_is bytes p q w m))
      ∙ ap (λ l. get_or bytes p.at 0 ∷ l) (sym (between_one bytes q.at t.at (omega (arith, n.0, n.1)) n.0))
      ∙ between_on bytes p.at q.at t.at (omega (arith, m.0, m.1)) m.0 (omega (arith, n.0))
      ∙ ap (λ k. between bytes k t.at) a.place;
}
hyphen_piece bytes s p q e (Err d) h a w m g n = or_second_stops h a (behind_next_stops (45 ∷ []) w g)

-- ---- names

pub name_span : (is_first : ℕ → Bool) (bytes : List ℕ) (s q : Reach) (r : Result Reach Stop) → IsRead (byte_at is_first) bytes s (get_or bytes s.at 0) q → (q.at ≡ s.at + 1) × (q.at ≤ length bytes) → ReadsSpan (many_at piece_at) (each_written piece_text) bytes q r → PassesStaying (length bytes) q r → ReadsSpan (name_at is_first) (λ name. name) bytes s r
name_span is_first bytes s q (Ok t) h m g n = record {
  value = get_or bytes s.at 0 ∷ each_written piece_text g.value;
  read = as_read begun (then_read (λ _. many_at piece_at) h g.read);
  text = ap (λ l. get_or bytes s.at 0 ∷ l) g.text ∙ between_on bytes s.at q.at t.at (omega (arith, m.0, m.1)) m.0 n.0;
}
name_span is_first bytes s q (Err e) h m g n = as_stops begun (then_next_stops (λ _. many_at piece_at) h g)

no_find : {A : Type 0} (e : Stop) (x : A × Reach) → Err e ≡ Ok x → ⊥
no_find e x h = cc

abbrev found : {A : Type 0} → A → Reach → Result (A × Reach) Stop
found a q = Ok (a, q)

value_of : {A : Type 0} → A → Result (A × Reach) Stop → A
value_of other (Ok x) = x.0
value_of other (Err e) = other

same_value : {A : Type 0} (a b : A) (p q : Reach) → found a p ≡ found b q → a ≡ b
unfolding value_of
same_value a b p q h = ap (value_of a) h

-- What is read is such a thing as the law of its reader says.
law_fine : {A : Type 0} (Fine : ℕ → A → Type 0) (deep : A → Option Sunk) (write : A → List ℕ) (place : ℕ) (bs : List ℕ) (s q : Reach) (a : A) (r : Answer A) → Told Fine deep write place bs r → reached s r ≡ Ok (a, q) → Fine place a
law_fine Fine deep write place bs s q a (Found b size n) t g = subst (λ k. Fine place k) (same_value b a (reach (s.at + size) (later s.far (s.at + n))) q g) t.0.fine
law_fine Fine deep write place bs s q a (Fails n) t g = absurd (no_find (stop.Fails (later s.far (s.at + n))) (a, q) g)
law_fine Fine deep write place bs s q a (Deep at n) t g = absurd (no_find (stop.Deep (s.at + at) (later s.far (s.at + n))) (a, q) g)

identifier_fine : (bytes : List ℕ) (s q : Reach) (name : List ℕ) → reading identifier_at bytes s ≡ Ok (name, q) → is_identifier name ≡ true
unfolding reading
identifier_fine bytes s q name h = law_fine IsIdentifier never (λ l. l) s.at (drop s.at bytes) s q name (identifier_at s.at (drop s.at bytes)) (identifier_law.told s.at (drop s.at bytes)) h

reference_fine : (bytes : List ℕ) (s q : Reach) (name : List ℕ) → reading reference_at bytes s ≡ Ok (name, q) → is_reference name ≡ true
unfolding reading
reference_fine bytes s q name h = law_fine IsReference never (λ l. l) s.at (drop s.at bytes) s q name (reference_at s.at (drop s.at bytes)) (reference_law.told s.at (drop s.at bytes)) h

pub identifier_is : {bytes : List ℕ} {s q : Reach} → IsSpan identifier_at (λ name. name) bytes s q → is_identifier (between bytes s.at q.at) ≡ true
identifier_is {bytes} {s} {q} h = subst (λ l. is_identifier l ≡ true) h.text (identifier_fine bytes s q h.value h.read.is)

pub reference_is : {bytes : List ℕ} {s q : Reach} → IsSpan reference_at (λ name. name) bytes s q → is_reference (between bytes s.at q.at) ≡ true
reference_is {bytes} {s} {q} h = subst (λ l. is_reference l ≡ true) h.text (reference_fine bytes s q h.value h.read.is)

-- the text as the code keeps it
pub span_read : {read : Reader (List ℕ)} {bytes : List ℕ} {s q : Reach} (name : List ℕ) → IsSpan read (λ l. l) bytes s q → name ≡ between bytes s.at q.at → IsRead read bytes s name q
span_read {read} {bytes} {s} {q} name h e = subst (λ l. IsRead read bytes s l q) (h.text ∙ sym e) h.read

pub octets_read : {bytes : List ℕ} {s q : Reach} (digits : List ℕ) → IsSpan (many_at octet_at) (each_written octet_text) bytes s q → digits ≡ between bytes s.at q.at → IsRead octets_at bytes s digits q
octets_read {bytes} {s} {q} digits h e = subst (λ l. IsRead octets_at bytes s l q) (h.text ∙ sym e) (as_read octets_of h.read)

pub octet_span : (bytes : List ℕ) (s q : Reach) (r : Result Reach Stop) → IsRead (byte_at is_hexadecimal_digit) bytes s (get_or bytes s.at 0) q → (q.at ≡ s.at + 1) × (q.at ≤ length bytes) → ReadsByte is_hexadecimal_digit bytes q r → PassesWord 1 (length bytes) q r → ReadsSpan octet_at octet_text bytes s r
octet_span bytes s q (Ok t) h m g n = record {
  value = (get_or bytes s.at 0, get_or bytes q.at 0);
  read = then_read (λ _. byte_at is_hexadecimal_digit) h g;
  text = ap (λ l. get_or bytes s.at 0 ∷ l) (sym (between_one bytes q.at t.at (omega (arith, n.0, n.1)) n.0))
      ∙ between_on bytes s.at q.at t.at (omega (arith, m.0, m.1)) m.0 (omega (arith, n.0));
}
octet_span bytes s q (Err e) h m g n = then_next_stops (λ _. byte_at is_hexadecimal_digit) h g

-- numbers, whose contracts speak of spans
pub signed_read : (bytes : List ℕ) (s q : Reach) (written : List ℕ) → Spans signed_at bytes s q → written ≡ between bytes s.at q.at → IsRead signed_at bytes s written q
signed_read bytes s q written h e = record { is = h ∙ ap (λ l. found l q) (sym e) }

pub signed_stops : (bytes : List ℕ) (s : Reach) (e : Stop) → GivesSpan signed_at bytes s (Err e) → IsStopped signed_at bytes s e
signed_stops bytes s (stop.Fails far) h = record { is = h }
signed_stops bytes s (stop.Deep at far) h = record { is = h }
signed_stops bytes s stop.Memory h = no_memory
