-- What is read as a reference is one, and a reference is read.
use Rattle.std.proofs.Common.{◌≡◌, ◌≢◌, ℕ, ◌<◌, ◌≤◌, true, false, eqb, List, [], ◌∷◌, ◌++◌, length, take, drop, Option, Some, None, refl, sym, ap, subst, ◌∙◌, append_assoc, inl, inr, arith}
use Rattle.std.specs.Prelude.{◌⊎◌, ◌&&◌, not}
use Rattle.std.specs.List.{prefix_len, list_all}
use Rattle.std.proofs.lemmas.List.{length-take, take_at, drop_at, take-append-drop}
use Rattle.std.proofs.lemmas.List.Sums.{prefix_len-le-length}
use Rattle.std.proofs.lemmas.Bool.{eqb-false, ne_eqb}
use Rattle.base_texts.specs.Characters.{is_xml_char}
use Rattle.xml_pieces.specs.Pieces.{behind, Entity, Less, Greater, Ampersand, Apostrophe, Quotation, character_of, rest_of, is_digit, number, IsNumbered, IsNamed, IsReference}
use Rattle.xml_pieces.specs.Reading.{◌>>=◌, ahead, entity_or, named_at, numbered_at, reference_at}
use Rattle.xml_pieces.proofs.Strips.{behind_takes}
use Rattle.xml_pieces.proofs.Tools.{ahead_cases, bind_some, never, pairs, only_some, and_true, not_true}
use Rattle.xml_pieces.proofs.Runs.{all_front, prefix_again}

abbrev Taken : ℕ → List ℕ → List ℕ → Type 0
Taken c bs rest = (text : List ℕ) × IsNamed c text × (bs ≡ text ++ rest)

entity_cases : (e : Entity) (bs : List ℕ) (other : Option (ℕ × List ℕ)) (c : ℕ) (rest : List ℕ) → entity_or e bs other ≡ Some (c, rest) → Taken c bs rest ⊎ (other ≡ Some (c, rest))
entity_cases e bs other c rest h =
    elim (ahead_cases (behind (rest_of e) bs) other (λ r. Some (character_of e, r)) (Some (c, rest)) h) [
      | inl f ↦ (
          let both = pairs (character_of e, f.0) (c, rest) f.2 in
          inl (rest_of e, record { entity = e; character_is = sym both.0; text_is = refl }, behind_takes (rest_of e) bs f.0 f.1 ∙ ap (λ (x : List ℕ). rest_of e ++ x) both.1))
      | inr f ↦ inr f.1
    ]

named_takes : (bs rest : List ℕ) (c : ℕ) → named_at bs ≡ Some (c, rest) → Taken c bs rest
unfolding named_at
named_takes bs rest c h =
    elim (entity_cases Less bs (entity_or Greater bs (entity_or Ampersand bs (entity_or Apostrophe bs (entity_or Quotation bs None)))) c rest h) [
      | inl f ↦ f
      | inr h1 ↦ elim (entity_cases Greater bs (entity_or Ampersand bs (entity_or Apostrophe bs (entity_or Quotation bs None))) c rest h1) [
        | inl f ↦ f
        | inr h2 ↦ elim (entity_cases Ampersand bs (entity_or Apostrophe bs (entity_or Quotation bs None)) c rest h2) [
          | inl f ↦ f
          | inr h3 ↦ elim (entity_cases Apostrophe bs (entity_or Quotation bs None) c rest h3) [
            | inl f ↦ f
            | inr h4 ↦ elim (entity_cases Quotation bs None c rest h4) [
              | inl f ↦ f
              | inr miss ↦ absurd (never (c, rest) miss)
            ]
          ]
        ]
      ]
    ]

numbered_takes : (first bs rest : List ℕ) (base c : ℕ) → numbered_at base bs ≡ Some (c, rest) → (text : List ℕ) × IsNumbered first base c text × (first ++ bs ≡ text ++ rest)
unfolding numbered_at
numbered_takes first bs rest base c e =
    let n = prefix_len (is_digit base) bs in
    let digits = take n bs in
    let o = only_some (not (eqb n 0) && is_xml_char (number base 0 digits)) (behind (59 ∷ []) (drop n bs) >>= λ r. Some (number base 0 digits, r)) (c, rest) e in
    let tests = and_true (not (eqb n 0)) (is_xml_char (number base 0 digits)) o.0 in
    let b = bind_some (behind (59 ∷ []) (drop n bs)) (λ r. Some (number base 0 digits, r)) (c, rest) o.1 in
    let both = pairs (number base 0 digits, b.0) (c, rest) b.2 in
    let long : n ≢ 0 = eqb-false n 0 (not_true (eqb n 0) tests.0) in
    let some : 0 < length digits = omega (arith, length-take n bs, prefix_len-le-length (is_digit base) bs, long) in
    let back : drop n bs ≡ 59 ∷ rest = behind_takes (59 ∷ []) (drop n bs) b.0 b.1 ∙ ap (λ (x : List ℕ). 59 ∷ x) both.1 in
    let whole : bs ≡ digits ++ 59 ∷ rest = sym (take-append-drop n bs) ∙ ap (λ (x : List ℕ). digits ++ x) back in
    let parts : first ++ bs ≡ (first ++ digits ++ 59 ∷ []) ++ rest = ap (λ (x : List ℕ). first ++ x) whole ∙ sym (simp append_assoc) in (
      first ++ digits ++ 59 ∷ [],
      record { digits = digits; some = some; each = all_front (is_digit base) bs; number_is = sym both.0; is_char = subst (λ (x : ℕ). is_xml_char x ≡ true) both.0 tests.1; text_is = refl },
      parts,
    )

pub reference_takes : (bs rest : List ℕ) (c : ℕ) → reference_at bs ≡ Some (c, rest) → (text : List ℕ) × IsReference c text × (bs ≡ text ++ rest)
unfolding reference_at
reference_takes bs rest c e =
    elim (ahead_cases (behind (35 ∷ 120 ∷ []) bs) (ahead (behind (35 ∷ []) bs) (named_at bs) (numbered_at 10)) (numbered_at 16) (Some (c, rest)) e) [
      | inl f ↦ (
          let t = numbered_takes (35 ∷ 120 ∷ []) f.0 rest 16 c f.2 in
          (t.0, inr (inr t.1), behind_takes (35 ∷ 120 ∷ []) bs f.0 f.1 ∙ t.2))
      | inr e1 ↦ elim (ahead_cases (behind (35 ∷ []) bs) (named_at bs) (numbered_at 10) (Some (c, rest)) e1.1) [
        | inl f ↦ (
            let t = numbered_takes (35 ∷ []) f.0 rest 10 c f.2 in
            (t.0, inr (inl t.1), behind_takes (35 ∷ []) bs f.0 f.1 ∙ t.2))
        | inr e2 ↦ (let t = named_takes bs rest c e2.1 in (t.0, inl t.1, t.2))
      ]
    ]

no_digit : (base : ℕ) → base ≤ 36 → is_digit base 59 ≡ false
no_digit base le = grind (arith, le)

numbered_again : (base : ℕ) (digits rest : List ℕ) → base ≤ 36 → 0 < length digits → list_all (is_digit base) digits ≡ true → is_xml_char (number base 0 digits) ≡ true → numbered_at base (digits ++ 59 ∷ rest) ≡ Some (number base 0 digits, rest)
unfolding numbered_at
numbered_again base digits rest le some each good =
    let n_is = prefix_again (is_digit base) digits rest 59 each (no_digit base le) in
    let long : eqb (length digits) 0 ≡ false = ne_eqb (length digits) 0 (λ e. omega (arith, some, e)) in
    rw (n_is, long, take_at digits (59 ∷ rest) (length digits) refl, drop_at digits (59 ∷ rest) (length digits) refl, good) refl

named_again : (e : Entity) (rest : List ℕ) → reference_at (rest_of e ++ rest) ≡ Some (character_of e, rest)
unfolding reference_at named_at
named_again Less rest = refl
named_again Greater rest = refl
named_again Ampersand rest = refl
named_again Apostrophe rest = refl
named_again Quotation rest = refl

not_hex : (digits rest : List ℕ) → 0 < length digits → list_all (is_digit 10) digits ≡ true → behind (120 ∷ []) (digits ++ rest) ≡ None
not_hex [] rest some each = absurd (omega (arith, some))
not_hex (d ∷ ds) rest some each =
    let first = (and_true (is_digit 10 d) (list_all (is_digit 10) ds) each).0 in
    let apart : eqb d 120 ≡ false = grind (arith, first) in
    rw apart refl

pub reference_again : (c : ℕ) (text rest : List ℕ) → IsReference c text → reference_at (text ++ rest) ≡ Some (c, rest)
unfolding reference_at
reference_again c text rest (inl n) = rw (n.text_is, n.character_is) (named_again n.entity rest)
reference_again c text rest (inr (inl n)) =
    let at : text ++ rest ≡ 35 ∷ (n.digits ++ 59 ∷ rest) = rw n.text_is (simp append_assoc) in
    let good : is_xml_char (number 10 0 n.digits) ≡ true = subst (λ (x : ℕ). is_xml_char x ≡ true) n.number_is n.is_char in
    ap reference_at at ∙ rw (not_hex n.digits (59 ∷ rest) n.some n.each) (numbered_again 10 n.digits rest (omega arith) n.some n.each good ∙ ap (λ (x : ℕ). Some (x, rest)) (sym n.number_is))
reference_again c text rest (inr (inr n)) =
    let at : text ++ rest ≡ 35 ∷ 120 ∷ (n.digits ++ 59 ∷ rest) = rw n.text_is (simp append_assoc) in
    let good : is_xml_char (number 16 0 n.digits) ≡ true = subst (λ (x : ℕ). is_xml_char x ≡ true) n.number_is n.is_char in
    ap reference_at at ∙ numbered_again 16 n.digits rest (omega arith) n.some n.each good ∙ ap (λ (x : ℕ). Some (x, rest)) (sym n.number_is)
