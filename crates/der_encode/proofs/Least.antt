-- The least octets of a number, from the last to the first.
use Rattle.std.proofs.Common.{◌≡◌, ℕ, zero, suc, ◌+◌, ◌-◌, ◌*◌, ◌/◌, ◌%◌, ◌<◌, ◌≤◌, Bool, true, false, ltb, List, [], ◌∷◌, ◌++◌, length, reverse, refl, sym, ap, ◌∙◌, arith, append_assoc, inl, inr}
use Rattle.std.proofs.lemmas.Bool.{cases_lt, lt-ltb, le-ltb}
use Rattle.std.proofs.lemmas.List.{reverse-append, length-append, length-reverse}
use Rattle.der_fields.specs.Octets.{octets_from, octets_of}
use Rattle.der_fields.proofs.FieldsNumbers.{pick_true, pick_false}
use Rattle.der_encode.specs.Private.Turned.{turned, turned_octet}

module _ (top : ℕ) (some : 0 < top) where
  -- what stands behind comes last
  tail_last : (turns n : ℕ) (tail : List ℕ) → octets_from top turns n tail ≡ octets_from top turns n [] ++ tail
  unfolding octets_from
  tail_last zero n tail = refl
  tail_last (suc turns) n tail = elim (cases_lt n top) [
    | inl lt ↦ pick_true (ltb n top) (n ∷ tail) (octets_from top turns (n / 256) (n % 256 ∷ tail)) (lt-ltb n top lt)
        ∙ sym (ap (λ xs. xs ++ tail) (pick_true (ltb n top) (n ∷ []) (octets_from top turns (n / 256) (n % 256 ∷ [])) (lt-ltb n top lt)))
    | inr ge ↦ pick_false (ltb n top) (n ∷ tail) (octets_from top turns (n / 256) (n % 256 ∷ tail)) (le-ltb n top ge)
        ∙ tail_last turns (n / 256) (n % 256 ∷ tail)
        ∙ sym (append_assoc (octets_from top turns (n / 256) []) (n % 256 ∷ []) tail)
        ∙ sym (ap (λ xs. xs ++ tail) (pick_false (ltb n top) (n ∷ []) (octets_from top turns (n / 256) (n % 256 ∷ [])) (le-ltb n top ge) ∙ tail_last turns (n / 256) (n % 256 ∷ [])))
  ]

  -- so many turns as the number are enough
  enough : (m k n : ℕ) (tail : List ℕ) → n ≤ m → n ≤ k → octets_from top m n tail ≡ octets_from top k n tail
  unfolding octets_from
  enough zero zero n tail le ge = refl
  enough zero (suc k) n tail le ge = sym (pick_true (ltb n top) (n ∷ tail) (octets_from top k (n / 256) (n % 256 ∷ tail)) (lt-ltb n top (omega (arith, le, some))))
  enough (suc m) zero n tail le ge = pick_true (ltb n top) (n ∷ tail) (octets_from top m (n / 256) (n % 256 ∷ tail)) (lt-ltb n top (omega (arith, ge, some)))
  enough (suc m) (suc k) n tail le ge = elim (cases_lt n top) [
    | inl lt ↦ pick_true (ltb n top) (n ∷ tail) (octets_from top m (n / 256) (n % 256 ∷ tail)) (lt-ltb n top lt) ∙ sym (pick_true (ltb n top) (n ∷ tail) (octets_from top k (n / 256) (n % 256 ∷ tail)) (lt-ltb n top lt))
    | inr over ↦ pick_false (ltb n top) (n ∷ tail) (octets_from top m (n / 256) (n % 256 ∷ tail)) (le-ltb n top over)
        ∙ enough m k (n / 256) (n % 256 ∷ tail) (omega (arith, le, some, over)) (omega (arith, ge, some, over))
        ∙ sym (pick_false (ltb n top) (n ∷ tail) (octets_from top k (n / 256) (n % 256 ∷ tail)) (le-ltb n top over))
  ]

  -- a number below the top is its own octet; of each other one the last octet stands behind those of the rest
  pub one_octet : (n : ℕ) → n < top → octets_of top n ≡ n ∷ []
  unfolding octets_from
  one_octet zero lt = refl
  one_octet (suc n) lt = pick_true (ltb (suc n) top) (suc n ∷ []) (octets_from top n (suc n / 256) (suc n % 256 ∷ [])) (lt-ltb (suc n) top lt)

  pub last_octet : (n : ℕ) → top ≤ n → octets_of top n ≡ octets_of top (n / 256) ++ (n % 256 ∷ [])
  unfolding octets_from
  last_octet zero ge = absurd (omega (arith, ge, some))
  last_octet (suc n) ge =
      pick_false (ltb (suc n) top) (suc n ∷ []) (octets_from top n (suc n / 256) (suc n % 256 ∷ [])) (le-ltb (suc n) top ge)
      ∙ tail_last n (suc n / 256) (suc n % 256 ∷ [])
      ∙ ap (λ xs. xs ++ (suc n % 256 ∷ [])) (enough n (suc n / 256) (suc n / 256) [] (omega arith) (omega arith))

-- turned over, and from the last to the first
turned-append : (negative : Bool) (xs ys : List ℕ) → turned negative (xs ++ ys) ≡ turned negative xs ++ turned negative ys
turned-append false xs ys = refl
turned-append true [] ys = refl
turned-append true (x ∷ xs) ys = ap (λ zs. (255 - x) ∷ zs) (turned-append true xs ys)

turned_one : (negative : Bool) (x : ℕ) → turned negative (x ∷ []) ≡ turned_octet negative x ∷ []
turned_one true x = refl
turned_one false x = refl

abbrev pub backwards : ℕ → Bool → ℕ → List ℕ
backwards top negative n = reverse (turned negative (octets_of top n))

pub first_back : (top : ℕ) → 0 < top → (negative : Bool) (n : ℕ) → n < top → backwards top negative n ≡ turned_octet negative n ∷ []
first_back top some negative n lt = ap (λ xs. reverse (turned negative xs)) (one_octet top some n lt) ∙ ap reverse (turned_one negative n)

pub next_back : (top : ℕ) → 0 < top → (negative : Bool) (n : ℕ) → top ≤ n → backwards top negative n ≡ turned_octet negative (n % 256) ∷ backwards top negative (n / 256)
next_back top some negative n ge =
    let xs = octets_of top (n / 256) in
    ap (λ ys. reverse (turned negative ys)) (last_octet top some n ge)
    ∙ ap reverse (turned-append negative xs (n % 256 ∷ []) ∙ ap (λ ys. turned negative xs ++ ys) (turned_one negative (n % 256)))
    ∙ reverse-append (turned negative xs) (turned_octet negative (n % 256) ∷ [])

-- a number of 64 bits has at most eight octets
abbrev bytes_of : ℕ → ℕ
bytes_of zero = 256
bytes_of (suc k) = 256 * bytes_of k

few : (k n : ℕ) → n < bytes_of k → length (octets_of 256 n) ≤ suc k
few zero n lt = let e = ap length (one_octet 256 (omega arith) n lt) in omega (arith, e)
few (suc k) n lt = elim (cases_lt n 256) [
  | inl small ↦ (let e = ap length (one_octet 256 (omega arith) n small) in omega (arith, e))
  | inr large ↦ (
      let e = ap length (last_octet 256 (omega arith) n large) ∙ length-append (octets_of 256 (n / 256)) (n % 256 ∷ []) in
      let b = few k (n / 256) (omega (arith, lt)) in
      omega (arith, e, b))
]

pub at_most_eight : (old new : List ℕ) (n : ℕ) → n < 18446744073709551616 → new ≡ old ++ reverse (turned false (octets_of 256 n)) → (length new ≡ length old + length (octets_of 256 n)) × (length (octets_of 256 n) ≤ 8)
at_most_eight old new n lt is =
    let e = ap length is ∙ length-append old (reverse (octets_of 256 n)) in
    let r = length-reverse (octets_of 256 n) in
    let b : length (octets_of 256 n) ≤ 8 = few 7 n lt in (omega (arith, e, r), b)
