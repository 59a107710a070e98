-- Tests of names on bytes.
use Rattle.std.proofs.Common.{◌≡◌, ℕ, ◌≤◌, Bool, true, false, cond, List, [], ◌∷◌, ◌++◌, ◌+◌, length, take, drop, refl, sym, ap, ◌∙◌, arith}
use Rattle.std.specs.Prelude.{◌&&◌, ◌||◌, not, nat_le, ◌==◌, bytes_eq}
use Rattle.std.specs.List.{list_all}
use Rattle.std.proofs.lemmas.Bool.Decides.{nat_tests}
use Rattle.std.proofs.lemmas.List.{length-take, length-drop, append-nil, take-append-drop}
use Rattle.std.proofs.lemmas.Slice.Eq.{bytes_eq-Decides}
use Rattle.base_texts.specs.Limits.{is_short_part}
use Rattle.base_texts.specs.Namespaces.{xmlns_prefix}
use Rattle.xml_pieces.specs.Reading.{is_ascii_ncname}
use Rattle.xml_pieces.proofs.AsciiNames.{ncname_colons}
use Rattle.xml_pieces.proofs.Spelled.{ascii_spelled}
use Rattle.xml_pieces.proofs.Tools.{and_true}
use Rattle.xml_pieces.specs.Namespaces.{is_long, binds}
use Rattle.xml_pieces.specs.QNames.{colon_at, has_colon, prefix_of, local_of, is_qname}
use Rattle.xml_pieces.specs.Plain.{IsPlain}

-- ---- names of ASCII characters without a colon

colons_behind : (bs : List ℕ) → list_all (λ b. not (b == 0x3A)) bs ≡ true → colon_at bs ≡ length bs
colons_behind [] e = refl
colons_behind (b ∷ bs) e = let both = and_true (not (b == 0x3A)) (list_all (λ x. not (x == 0x3A)) bs) e in rw (both.0, colons_behind bs both.1) (omega arith)

no_colon : (bs : List ℕ) → list_all (λ b. not (b == 0x3A)) bs ≡ true → has_colon bs ≡ false
no_colon bs e =
    let at : length bs ≤ colon_at bs = omega (arith, colons_behind bs e) in
    let le : nat_le (length bs) (colon_at bs) ≡ true = grind (arith, nat_tests, at) in
    rw le refl

-- ---- lengths

short_prefix : (b : Bool) (written : List ℕ) (n : ℕ) → length written ≤ 255 → length (cond b (take n written) []) ≤ 255
short_prefix true written n h = omega (arith, length-take n written, h)
short_prefix false written n h = omega arith

short_local : (b : Bool) (written : List ℕ) (n : ℕ) → length written ≤ 255 → length (cond b (drop n written) written) ≤ 255
short_local true written n h = omega (arith, length-drop n written, h)
short_local false written n h = h

both_short : (m n : ℕ) → m ≤ 255 → n ≤ 255 → false ≡ not (nat_le m 255 && nat_le n 255)
both_short m n h i =
    let a : nat_le m 255 ≡ true = grind (arith, nat_tests, h) in
    let b : nat_le n 255 ≡ true = grind (arith, nat_tests, i) in
    rw (a, b) refl

pub short_name : (written : List ℕ) → is_short_part written ≡ true → false ≡ is_long written
unfolding is_long prefix_of local_of
short_name written e =
    let h : length written ≤ 255 = grind (arith, nat_tests, e) in
    both_short _ _ (short_prefix (has_colon written) written (colon_at written) h) (short_local (has_colon written) written (colon_at written + 1) h)

pub plain_name : (written : List ℕ) → is_short_part written ≡ true → is_ascii_ncname written ≡ true → IsPlain written
unfolding is_qname prefix_of local_of
plain_name written h e =
    let none = no_colon written (ncname_colons written e) in
    record {
      qname = rw (none, ← ascii_spelled written e) refl;
      short = sym (short_name written h);
      alone = rw none refl;
      whole = rw none refl;
    }

-- ---- names that bind

from_start : (b : Bool) (written : List ℕ) (n : ℕ) → cond b (take n written) [] ≡ xmlns_prefix → (rest : List ℕ) × (written ≡ xmlns_prefix ++ rest)
from_start true written n e = (drop n written, sym (take-append-drop n written) ∙ ap (λ xs. xs ++ drop n written) e)
from_start false written n e = absurd (omega (arith, ap length e))

-- a name that binds begins as `xmlns`
begins : (written : List ℕ) → binds written ≡ true → (rest : List ℕ) × (written ≡ xmlns_prefix ++ rest)
unfolding binds prefix_of
begins written e = go (bytes_eq written xmlns_prefix) refl (bytes_eq (prefix_of written) xmlns_prefix) refl e
  where
    go : (p : Bool) → bytes_eq written xmlns_prefix ≡ p → (q : Bool) → bytes_eq (prefix_of written) xmlns_prefix ≡ q → (p || q) ≡ true → (rest : List ℕ) × (written ≡ xmlns_prefix ++ rest)
    go true is q other e = ([], (bytes_eq-Decides written xmlns_prefix).0 is ∙ sym (append-nil xmlns_prefix))
    go false is true other e = from_start (has_colon written) written (colon_at written) ((bytes_eq-Decides (prefix_of written) xmlns_prefix).0 other)
    go false is false other e = absurd (cc e)

-- so only of those is more to be asked
pub begins_or_not : (written : List ℕ) (begun : Bool) → ((rest : List ℕ) → written ≡ xmlns_prefix ++ rest → begun ≡ true) → begun ≡ false → false ≡ binds written
begins_or_not written begun starts none = go (binds written) refl
  where
    go : (r : Bool) → binds written ≡ r → false ≡ binds written
    go false e = sym e
    go true e = absurd (let yes : begun ≡ true = starts (begins written e).0 (begins written e).1 in cc (yes, none))
