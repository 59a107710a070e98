-- The bits of numbers.
use Rattle.std.proofs.Common.{◌≡◌, ℕ, suc, ◌+◌, ◌-◌, ◌*◌, ◌/◌, ◌%◌, ◌<◌, ◌^◌, Bool, true, false, cond, List, [], ◌∷◌, ◌++◌, length, refl, sym, ap, ◌∙◌, arith, append_assoc, eqb, get_or, drop}
use Rattle.std.specs.Int.{from_bool}
use Rattle.base_codecs.specs.Bits.{bits, bit, padding, octet, octet_bits, gap}
use Rattle.base_codecs.proofs.BitLemmas.{bits-high, length-octet_bits}
use Rattle.std.proofs.lemmas.Bool.{ne_eqb}
use Rattle.std.proofs.lemmas.List.{drop_more, append-nil, length-append, length-replicate}
use Rattle.per_fields.specs.Encoding.{flag_bits, completed}
use Rattle.asn_types.specs.declared.types.Component.{Component}
use Rattle.per_fields.specs.Widths.{width_of}
use Rattle.per_fields.proofs.WidthLaws.{width_fits, pow_le}
use Rattle.per_encode.proofs.Puts.{then_put}

-- a number in two halves
pub wide_put : (old mid new : List Bool) (n x : ℕ) → 64 < n → mid ≡ old ++ bits (n - 64) (x / 2 ^ 64) → new ≡ mid ++ bits 64 (x % 2 ^ 64) → new ≡ old ++ bits n x
wide_put old mid new n x wide high low =
    let e : n - 64 + 64 ≡ n = omega arith in
    then_put old mid new (bits (n - 64) (x / 2 ^ 64)) (bits 64 (x % 2 ^ 64)) high low ∙ ap (λ bs. old ++ bs) (sym (bits-high (n - 64) 64 x) ∙ ap (λ m. bits m x) e)

-- the octets of a number with its sign have a bit more than it
pub signed_fits : (m : ℕ) → m < 2 ^ (8 * (width_of m / 8 + 1) - 1)
signed_fits m = omega (arith, width_fits m, pow_le (width_of m) (8 * (width_of m / 8 + 1) - 1) (omega arith))

-- one bit behind those that are held
pub held-more : (n held : ℕ) (b : Bool) → bits (n + 1) (2 * held + bit b) ≡ bits n held ++ b ∷ []
unfolding bits
held-more n held true =
    let e : n + 1 ≡ suc n = omega arith in
    let half : (2 * held + 1) / 2 ≡ held = omega arith in
    let last : (2 * held + 1) % 2 ≡ 1 = omega arith in
    ap (λ m. bits m (2 * held + 1)) e ∙ ap (λ h. bits n h ++ eqb ((2 * held + 1) % 2) 1 ∷ []) half ∙ ap (λ r. bits n held ++ eqb r 1 ∷ []) last
held-more n held false =
    let e : n + 1 ≡ suc n = omega arith in
    let half : (2 * held + 0) / 2 ≡ held = omega arith in
    let last : (2 * held + 0) % 2 ≡ 0 = omega arith in
    ap (λ m. bits m (2 * held + 0)) e ∙ ap (λ h. bits n h ++ eqb ((2 * held + 0) % 2) 1 ∷ []) half ∙ ap (λ r. bits n held ++ eqb r 1 ∷ []) last

pow_more : (n : ℕ) → 2 ^ (n + 1) ≡ 2 * 2 ^ n
pow_more n = let e : n + 1 ≡ suc n = omega arith in let p : 2 ^ suc n ≡ 2 * 2 ^ n = omega arith in ap (λ k. 2 ^ k) e ∙ p

-- a flag more is held
pub flag_held : (sink old rest : List Bool) (n held : ℕ) (b : Bool) → (sink ++ bits n held) ++ (b ∷ rest) ≡ old → (sink ++ bits (n + 1) (2 * held + bit b)) ++ rest ≡ old
flag_held sink old rest n held b is =
    ap (λ bs. (sink ++ bs) ++ rest) (held-more n held b) ∙ ap (λ bs. bs ++ rest) (sym (append_assoc sink (bits n held) (b ∷ []))) ∙ append_assoc (sink ++ bits n held) (b ∷ []) rest ∙ is

-- the presence bits from a component on
module _ (parts : List Component) (present : List Bool) (i : ℕ) (part : Component) (in_parts : i < length parts) (here : part ≡ get_or parts i part) (in_flags : i < length present) where
  flags_left : flag_bits (drop i parts) (drop i present)
      ≡ cond part.optional (get_or present i false ∷ flag_bits (drop (i + 1) parts) (drop (i + 1) present)) (flag_bits (drop (i + 1) parts) (drop (i + 1) present))
  flags_left =
      ap (λ cs. flag_bits cs (drop i present)) (drop_more parts i part in_parts ∙ ap (λ c. c ∷ drop (i + 1) parts) (sym here))
      ∙ ap (λ fs. flag_bits (part ∷ drop (i + 1) parts) fs) (drop_more present i false in_flags)

  pub flag_there : part.optional ≡ true → flag_bits (drop i parts) (drop i present) ≡ get_or present i false ∷ flag_bits (drop (i + 1) parts) (drop (i + 1) present)
  flag_there is =
      flags_left ∙ ap (λ b. cond b (get_or present i false ∷ flag_bits (drop (i + 1) parts) (drop (i + 1) present)) (flag_bits (drop (i + 1) parts) (drop (i + 1) present))) is

  pub no_flag : part.optional ≡ false → flag_bits (drop i parts) (drop i present) ≡ flag_bits (drop (i + 1) parts) (drop (i + 1) present)
  no_flag is =
      flags_left ∙ ap (λ b. cond b (get_or present i false ∷ flag_bits (drop (i + 1) parts) (drop (i + 1) present)) (flag_bits (drop (i + 1) parts) (drop (i + 1) present))) is

pub byte_bit : (b : Bool) → from_bool b ≡ bit b
byte_bit true = refl
byte_bit false = refl

pub one_bit : (b : Bool) → bits 1 (from_bool b) ≡ b ∷ []
unfolding bits
one_bit true = refl
one_bit false = refl

-- held with one more, whichever were put before
pub fits_more : (held n : ℕ) (b : Bool) → held < 2 ^ n → 2 * held + bit b < 2 ^ (n + 1)
fits_more held n true h = let p : 2 ^ (n + 1) ≡ 2 * 2 ^ n = pow_more n in omega (arith, h, p)
fits_more held n false h = let p : 2 ^ (n + 1) ≡ 2 * 2 ^ n = pow_more n in omega (arith, h, p)

pub none_held : (sink : List Bool) → sink ++ bits 0 0 ≡ sink
unfolding bits
none_held sink = append-nil sink

-- THE END
completed-none : (bs : List Bool) → length bs ≡ 0 → completed bs ≡ bits 8 0
unfolding completed
completed-none [] e = refl
completed-none (b ∷ bs) e = absurd (omega (arith, e))

completed-some : (bs : List Bool) → 0 < length bs → completed bs ≡ bs ++ padding (length bs)
unfolding completed
completed-some bs h = ap (λ (b : Bool). cond b (bits 8 0) (bs ++ padding (length bs))) (ne_eqb (length bs) 0 (omega (arith, h)))

padded : (bs : List Bool) (octets : List ℕ) → octet_bits octets ≡ bs ++ padding (length bs) → 8 * length octets ≡ length bs + gap (length bs)
padded bs octets is = sym (length-octet_bits octets) ∙ ap length is ∙ length-append bs (padding (length bs)) ∙ ap (λ n. length bs + n) (length-replicate (gap (length bs)) false)

pub finished : (bs : List Bool) (octets : List ℕ) → octet_bits octets ≡ bs ++ padding (length bs) → 0 < length octets → octet_bits octets ≡ completed bs
finished bs octets is some = is ∙ sym (completed-some bs (omega (arith, padded bs octets is, some)))

pub finished_empty : (bs : List Bool) (octets : List ℕ) → octet_bits octets ≡ bs ++ padding (length bs) → length octets ≡ 0 → octet_bits (octets ++ 0 ∷ []) ≡ completed bs
unfolding octet
finished_empty bs [] is nothing = append-nil (bits 8 0) ∙ sym (completed-none bs (omega (arith, padded bs [] is)))
finished_empty bs (x ∷ xs) is nothing = absurd (omega (arith, nothing))

pub some_left : (n : ℕ) (octets : List ℕ) → n ≡ length octets → (n ≡ 0 → ⊥) → 0 < length octets
some_left n [] is some = absurd (some is)
some_left n (x ∷ xs) is some = omega arith
