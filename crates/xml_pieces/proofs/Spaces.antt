-- White space, `=` and quotes, read and read again.
use Rattle.std.proofs.Common.{◌≡◌, ◌≢◌, ℕ, true, false, eqb, List, [], ◌∷◌, ◌++◌, length, take, drop, Some, None, refl, sym, ap, subst, ◌∙◌, inl, inr, arith}
use Rattle.std.specs.Prelude.{◌||◌, ◌==◌, not}
use Rattle.std.specs.List.{prefix_len, list_all}
use Rattle.std.proofs.lemmas.List.{length-take, take_at, drop_at, take-append-drop}
use Rattle.std.proofs.lemmas.List.Sums.{prefix_len-le-length}
use Rattle.std.proofs.lemmas.Bool.{eqb-false, eq-eqb, ne_eqb}
use Rattle.base_texts.specs.WhiteSpace.{is_white_space, is_blank}
use Rattle.xml_pieces.specs.Pieces.{behind, has_byte, IsSpace, is_quote}
use Rattle.xml_pieces.specs.Reading.{past_blank, space_at, equals_at, upto_at, quoted_at, is_name_byte}
use Rattle.xml_pieces.proofs.Strips.{behind_takes}
use Rattle.xml_pieces.proofs.Tools.{bind_some, pairs, chosen, and_true, or_false, not_true, some_is, never, below, implied}
use Rattle.xml_pieces.proofs.Runs.{all_front, prefix_again}
use Rattle.xml_pieces.proofs.Utf8.{white_low}

pub blank_takes : (bytes : List ℕ) → (space : List ℕ) × (is_blank space ≡ true) × (bytes ≡ space ++ past_blank bytes)
blank_takes bytes =
    let n = prefix_len is_white_space bytes in
    (take n bytes, all_front is_white_space bytes, sym (take-append-drop n bytes))

pub blank_again : (space rest : List ℕ) (b : ℕ) → is_blank space ≡ true → is_white_space b ≡ false → past_blank (space ++ b ∷ rest) ≡ b ∷ rest
blank_again space rest b blank stop = rw (prefix_again is_white_space space rest b blank stop) (drop_at space (b ∷ rest) (length space) refl)

pub space_takes : (bytes rest : List ℕ) → space_at bytes ≡ Some rest → (space : List ℕ) × IsSpace space × (bytes ≡ space ++ rest)
unfolding space_at
space_takes bytes rest e =
    let n = prefix_len is_white_space bytes in
    elim (chosen (eqb n 0) None (Some (past_blank bytes)) (Some rest) e) [
      | inl h ↦ absurd (never rest h.1)
      | inr h ↦ (
          let long : n ≢ 0 = eqb-false n 0 h.0 in (
            take n bytes,
            record { some = omega (arith, long, length-take n bytes, prefix_len-le-length is_white_space bytes); blank = all_front is_white_space bytes },
            sym (take-append-drop n bytes) ∙ ap (λ (x : List ℕ). take n bytes ++ x) (some_is (past_blank bytes) rest h.1),
          ))
    ]

pub space_again : (space rest : List ℕ) (b : ℕ) → IsSpace space → is_white_space b ≡ false → space_at (space ++ b ∷ rest) ≡ Some (b ∷ rest)
unfolding space_at
space_again space rest b s stop =
    let long : eqb (length space) 0 ≡ false = ne_eqb (length space) 0 (λ e. omega (arith, s.some, e)) in
    rw (prefix_again is_white_space space rest b s.blank stop, long, drop_at space (b ∷ rest) (length space) refl) refl

equals_stop : is_white_space 61 ≡ false
unfolding is_white_space
equals_stop = refl

pub equals_takes : (bytes rest : List ℕ) → equals_at bytes ≡ Some rest → (before : List ℕ) × (after : List ℕ) × (is_blank before ≡ true) × (is_blank after ≡ true) × (bytes ≡ before ++ 61 ∷ (after ++ rest))
unfolding equals_at
equals_takes bytes rest e =
    let a = bind_some (behind (61 ∷ []) (past_blank bytes)) (λ r. Some (past_blank r)) rest e in
    let one = blank_takes bytes in
    let two = blank_takes a.0 in
    let at : past_blank bytes ≡ 61 ∷ a.0 = behind_takes (61 ∷ []) (past_blank bytes) a.0 a.1 in
    let end : a.0 ≡ two.0 ++ rest = two.2 ∙ ap (λ (x : List ℕ). two.0 ++ x) (some_is (past_blank a.0) rest a.2) in
    (one.0, two.0, one.1, two.1, one.2 ∙ ap (λ (x : List ℕ). one.0 ++ x) (at ∙ ap (λ (x : List ℕ). 61 ∷ x) end))

pub equals_again : (before after rest : List ℕ) (b : ℕ) → is_blank before ≡ true → is_blank after ≡ true → is_white_space b ≡ false → equals_at (before ++ 61 ∷ (after ++ b ∷ rest)) ≡ Some (b ∷ rest)
unfolding equals_at
equals_again before after rest b one two stop =
    rw (blank_again before (after ++ b ∷ rest) 61 one equals_stop) (ap (λ (x : List ℕ). Some x) (blank_again after rest b two stop))

pub all_apart : (q : ℕ) (bytes : List ℕ) → list_all (λ b. not (b == q)) bytes ≡ true → has_byte q bytes ≡ false
all_apart q [] e = refl
all_apart q (b ∷ bs) e =
    let both = and_true (not (eqb b q)) (list_all (λ b. not (b == q)) bs) e in
    rw (not_true (eqb b q) both.0) (all_apart q bs both.1)

pub apart_all : (q : ℕ) (bytes : List ℕ) → has_byte q bytes ≡ false → list_all (λ b. not (b == q)) bytes ≡ true
apart_all q [] e = refl
apart_all q (b ∷ bs) e =
    let both = or_false (eqb b q) (has_byte q bs) e in
    rw both.0 (apart_all q bs both.1)

pub upto_apart : (q : ℕ) (bytes inner rest : List ℕ) → upto_at q bytes ≡ Some (inner, rest) → has_byte q inner ≡ false
unfolding upto_at
upto_apart q bytes inner rest e =
    let n = prefix_len (λ b. not (b == q)) bytes in
    let f = bind_some (behind (q ∷ []) (drop n bytes)) (λ r. Some (take n bytes, r)) (inner, rest) e in
    let both = pairs (take n bytes, f.0) (inner, rest) f.2 in
    subst (λ (x : List ℕ). has_byte q x ≡ false) both.0 (all_apart q (take n bytes) (all_front (λ b. not (b == q)) bytes))

upto_again : (q : ℕ) (inner rest : List ℕ) → has_byte q inner ≡ false → upto_at q (inner ++ q ∷ rest) ≡ Some (inner, rest)
unfolding upto_at
upto_again q inner rest apart =
    let same : eqb q q ≡ true = eq-eqb q q refl in
    let stop : not (eqb q q) ≡ false = rw same refl in
    rw (prefix_again (λ b. not (b == q)) inner rest q (apart_all q inner apart) stop, take_at inner (q ∷ rest) (length inner) refl, drop_at inner (q ∷ rest) (length inner) refl, same) refl

pub quoted_again : (q : ℕ) (inner rest : List ℕ) → is_quote q ≡ true → has_byte q inner ≡ false → quoted_at (q ∷ (inner ++ q ∷ rest)) ≡ Some (inner, rest)
unfolding quoted_at
quoted_again q inner rest is apart = rw is (upto_again q inner rest apart)

pub quote_stop : (q : ℕ) → is_quote q ≡ true → is_white_space q ≡ false
unfolding is_white_space
quote_stop q e = grind (arith, e)

pub name_not_white : (b : ℕ) → is_name_byte b ≡ true → is_white_space b ≡ false
unfolding is_white_space is_name_byte
name_not_white b e = grind (arith, e)

white_table : below 128 (λ x. not (is_white_space x) || not (is_name_byte x)) ≡ true
unfolding is_white_space is_name_byte
white_table = refl

pub white_not_name : (b : ℕ) → is_white_space b ≡ true → is_name_byte b ≡ false
white_not_name b e = not_true (is_name_byte b) (implied 128 is_white_space (λ x. not (is_name_byte x)) b (white_low b e) white_table e)

-- the first byte of white space and what follows it, or of what follows
pub record FirstOf (bytes : List ℕ) : Type 0 where
  pub head : ℕ
  pub tail : List ℕ
  pub is : bytes ≡ head ∷ tail
  pub no_name : is_name_byte head ≡ false

pub first_of_blank : (space rest : List ℕ) (b : ℕ) → is_blank space ≡ true → is_name_byte b ≡ false → FirstOf (space ++ b ∷ rest)
first_of_blank [] rest b blank stop = record { head = b; tail = rest; is = refl; no_name = stop }
first_of_blank (s ∷ space) rest b blank stop = record { head = s; tail = space ++ b ∷ rest; is = refl; no_name = white_not_name s (and_true (is_white_space s) (is_blank space) blank).0 }
