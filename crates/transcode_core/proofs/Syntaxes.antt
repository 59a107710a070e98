-- The law of each transfer syntax.
use Rattle.std.proofs.Common.{◌≡◌, ℕ, zero, suc, ◌*◌, ◌/◌, ◌<◌, ◌≤◌, ◌^◌, Bool, true, false, List, [], ◌∷◌, ◌++◌, length, take, drop, All, refl, sym, ap, ◌∙◌, subst, inl, inr, arith}
use Rattle.std.proofs.lemmas.List.{length-take, length-append, append-nil, take-append-drop}
use Rattle.std.proofs.lemmas.List.Elements.{All-head, All-tail, All-nil, All-cons}
use Rattle.base_trees.specs.Rose.{Rose}
use Rattle.simple_types.specs.declared.labels.ValueLabel.{ValueLabel}
use Rattle.asn_types.specs.declared.modules.Assignment.{Assignment}
use Rattle.asn_types.specs.Modules.{IsModule}
use Rattle.asn_types.specs.Bounds.{IsBounded}
use Rattle.base_codecs.specs.Bits.{number, bits, octet, octet_bits}
use Rattle.base_codecs.proofs.BitLemmas.{bits-number, number-lt, length-bits, number-bits, length-octet_bits}
use Rattle.per_fields.specs.Encoding.{complete_by}
use Rattle.per_fields.specs.Laws as law
use Rattle.per_fields.specs.StopLaws.{OneOfTwoBy}
use Rattle.transcode_words.specs.declared.tasks.Syntax.TheVariants.{Aligned, Unaligned, Der}
use Rattle.der_fields.specs.FieldsReading.{AreOctets}
use Rattle.der_fields.specs.Encoding.{distinguished}
use Rattle.der_fields.specs.StopLaws as der
use Rattle.transcode_core.specs.Syntaxes.{Fault, fault_of, der_fault_of, per_syntax, IsPer, BeginsWithPer, HasPerFault, IsEncoding, BeginsWith, HasFault, HaveEightBits, AreOctetsOf, IsOneOfTwo, SyntaxLaw, AllSyntaxes}
use Rattle.transcode_core.proofs.DerOctets.{distinguished_octets}

-- ---- octets are told by their bits

octet-length : (x : ℕ) → length (octet x) ≡ 8
unfolding octet
octet-length x = length-bits 8 x

octet-same : (x y : ℕ) → x < 256 → y < 256 → octet x ≡ octet y → x ≡ y
unfolding octet
octet-same x y h k e = sym (number-bits 8 x h) ∙ ap number e ∙ number-bits 8 y k

front_of : (a b c d : List Bool) → length a ≡ length c → a ++ b ≡ c ++ d → (a ≡ c) × (b ≡ d)
front_of [] b [] d n e = (refl, e)
front_of [] b (z ∷ c) d n e = absurd (omega (arith, n))
front_of (x ∷ a) b [] d n e = absurd (omega (arith, n))
front_of (x ∷ a) b (z ∷ c) d n e =
    let head : x ≡ z = cc in
    let tail : a ++ b ≡ c ++ d = cc in
    let rest = front_of a b c d (omega (arith, n)) tail in
    (ap (λ w. w ∷ a) head ∙ ap (λ l. z ∷ l) rest.0, rest.1)

same_octets : (xs ys : List ℕ) → All (λ x. x < 256) xs → All (λ x. x < 256) ys → octet_bits xs ≡ octet_bits ys → xs ≡ ys
same_octets [] [] h k e = refl
same_octets [] (y ∷ ys) h k e = absurd (omega (arith, ap length e, length-octet_bits (y ∷ ys)))
same_octets (x ∷ xs) [] h k e = absurd (omega (arith, ap length e, length-octet_bits (x ∷ xs)))
same_octets (x ∷ xs) (y ∷ ys) h k e =
    let parts = front_of (octet x) (octet_bits xs) (octet y) (octet_bits ys) (octet-length x ∙ sym (octet-length y)) e in
    let first = octet-same x y (All-head (λ z. z < 256) x xs h) (All-head (λ z. z < 256) y ys k) parts.0 in
    let rest = same_octets xs ys (All-tail (λ z. z < 256) x xs h) (All-tail (λ z. z < 256) y ys k) parts.1 in
    ap (λ z. z ∷ xs) first ∙ ap (λ l. y ∷ l) rest

-- ---- octets of whole bits

front_bits : (n : ℕ) (bs : List Bool) → n ≤ length bs → length (take n bs) ≡ n
front_bits n bs le = omega (arith, length-take n bs, le)

octets_of : (n : ℕ) (bs : List Bool) → length bs ≡ 8 * n → (octets : List ℕ) × (octet_bits octets ≡ bs) × All (λ x. x < 256) octets
unfolding octet
octets_of zero [] long = ([], refl, All-nil (λ x. x < 256))
octets_of zero (b ∷ bs) long = absurd (omega (arith, long))
octets_of (suc n) bs long =
    let front = take 8 bs in
    let behind = drop 8 bs in
    let eight : length front ≡ 8 = front_bits 8 bs (omega (arith, long)) in
    let cut : front ++ behind ≡ bs = take-append-drop 8 bs in
    let fewer : length behind ≡ 8 * n = omega (arith, eight, ap length cut, length-append front behind, long) in
    let rest = octets_of n behind fewer in
    let same : bits 8 (number front) ≡ front = ap (λ k. bits k (number front)) (sym eight) ∙ bits-number front in
    let small : number front < 256 = let lt = number-lt front in subst (λ k. number front < 2 ^ k) eight lt in
    (number front ∷ rest.0, ap (λ l. l ++ octet_bits rest.0) same ∙ ap (λ l. front ++ l) rest.1 ∙ cut, All-cons (λ x. x < 256) (number front) rest.0 small rest.2)

pub no_rest : {A : Type 0} (a b : List A) → length (a ++ b) ≤ length a → b ≡ []
no_rest a [] e = refl
no_rest a (x ∷ b) e = absurd (omega (arith, e, length-append a (x ∷ b)))

-- ---- canonical PER, in either variant

-- its rows of the table
module _ (M : List Assignment) (t : ℕ) (octets : List ℕ) where
  pub per_encoding : (aligned : Bool) (v : Rose ValueLabel) → IsEncoding (per_syntax aligned) M t v octets → IsPer aligned M t v octets
  per_encoding true v is = is
  per_encoding false v is = is

  pub encoding_per : (aligned : Bool) (v : Rose ValueLabel) → IsPer aligned M t v octets → IsEncoding (per_syntax aligned) M t v octets
  encoding_per true v is = is
  encoding_per false v is = is

  pub per_begins : (aligned : Bool) (v : Rose ValueLabel) (count : ℕ) → BeginsWith (per_syntax aligned) M t octets v count → BeginsWithPer aligned M t octets v count
  per_begins true v count begins = begins
  per_begins false v count begins = begins

  pub begins_per : (aligned : Bool) (v : Rose ValueLabel) (count : ℕ) → BeginsWithPer aligned M t octets v count → BeginsWith (per_syntax aligned) M t octets v count
  begins_per true v count begins = begins
  begins_per false v count begins = begins

  pub per_fault : (aligned : Bool) (fault : Fault) → HasFault (per_syntax aligned) M t octets fault → HasPerFault aligned M t octets fault
  per_fault true fault has = has
  per_fault false fault has = has

  pub fault_per : (aligned : Bool) (fault : Fault) → HasPerFault aligned M t octets fault → HasFault (per_syntax aligned) M t octets fault
  fault_per true fault has = has
  fault_per false fault has = has

pub bits_per : (aligned : Bool) (octets : List ℕ) → All (λ x. x < 256) octets → HaveEightBits (per_syntax aligned) octets
bits_per true octets all = all
bits_per false octets all = all

per_bits : (aligned : Bool) (octets : List ℕ) → HaveEightBits (per_syntax aligned) octets → All (λ x. x < 256) octets
per_bits true octets all = all
per_bits false octets all = all

octets_per : (aligned : Bool) (octets : List ℕ) → AreOctetsOf (per_syntax aligned) octets
octets_per true octets = tt
octets_per false octets = tt

-- the laws of octets from which it follows
pub record PerLaws (aligned : Bool) : Type 0 where
  pub stops : OneOfTwoBy aligned
  pub whole : law.WholeOctetsBy aligned

module _ (aligned : Bool) (laws : PerLaws aligned) where
  per_one : (M : List Assignment) (t : ℕ) (octets : List ℕ) → IsModule M → IsBounded M → t < length M → IsOneOfTwo (per_syntax aligned) M t octets
  per_one M t octets is_module bounded below =
      let h = laws.stops M t octets is_module bounded below in
      let all = length-octet_bits octets in
      record {
        either = elim h.either [
          | inl is ↦ inl (is.0, length (complete_by aligned M t is.0) / 8, begins_per M t octets aligned is.0 (length (complete_by aligned M t is.0) / 8) (is.1, omega (arith, laws.whole M t is.0)))
          | inr stops ↦ inr (fault_of stops.0, fault_per M t octets aligned (fault_of stops.0) (stops.0, stops.1, refl))
        ];
        not_both = λ v count fault begins has. (
            let b = per_begins M t octets aligned v count begins in
            let f = per_fault M t octets aligned fault has in
            h.not_both v f.0 b.0 f.1);
        one_value = λ v w m n p q. (
            let a = per_begins M t octets aligned v m p in
            let b = per_begins M t octets aligned w n q in
            let same : v ≡ w = (h.one_value v w a.0 b.0).0 in
            (same, omega (arith, a.1, b.1, ap (λ (u : Rose ValueLabel). length (complete_by aligned M t u)) same)));
        one_fault = λ f g p q. (
            let a = per_fault M t octets aligned f p in
            let b = per_fault M t octets aligned g q in
            a.2 ∙ ap fault_of (h.one_stop a.0 b.0 a.1 b.1) ∙ sym b.2);
        within = λ v count p. (
            let a = per_begins M t octets aligned v count p in
            omega (arith, a.1, all, ap length a.0.is, length-append (complete_by aligned M t v) a.0.rest));
        begins = λ v value is. (
            let e = per_encoding M t octets aligned v is in
            begins_per M t octets aligned v (length octets) (record { rest = []; is = e ∙ sym (append-nil (complete_by aligned M t v)); value = value }, omega (arith, all, ap length e)));
        ends = λ v count p most. (
            let a = per_begins M t octets aligned v count p in (
              a.0.value,
              encoding_per M t octets aligned v (a.0.is ∙ ap (λ bs. complete_by aligned M t v ++ bs) (no_rest (complete_by aligned M t v) a.0.rest (omega (arith, a.1, all, ap length a.0.is, most))) ∙ append-nil (complete_by aligned M t v)),
            ));
      }

  per_law : SyntaxLaw (per_syntax aligned)
  per_law = record {
    one_of_two = λ M t octets is_module bounded below all. per_one M t octets is_module bounded below;
    encodes = λ M t v. (
        let o = octets_of (length (complete_by aligned M t v) / 8) (complete_by aligned M t v) (omega (arith, laws.whole M t v)) in
        (o.0, encoding_per M t o.0 aligned v o.1, bits_per aligned o.0 o.2));
    one_encoding = λ M t v xs ys h k p q. same_octets xs ys (per_bits aligned xs h) (per_bits aligned ys k) (per_encoding M t xs aligned v p ∙ sym (per_encoding M t ys aligned v q));
    octets = λ M t v octets value is few. octets_per aligned octets;
  }

-- ---- DER

module _ (laws : der.OneOfTwo) where
  der_one : (M : List Assignment) (t : ℕ) (octets : List ℕ) → IsModule M → IsBounded M → t < length M → AreOctets octets → IsOneOfTwo Der M t octets
  der_one M t octets is_module bounded below all =
      let h = laws M t octets is_module bounded below all in
      record {
        either = elim h.either [
          | inl is ↦ inl (is.0, length (distinguished M t is.0), (is.1, refl))
          | inr stops ↦ inr (der_fault_of octets stops.0, (stops.0, stops.1, refl))
        ];
        not_both = λ v count fault begins has. h.not_both v has.0 begins.0 has.1;
        one_value = λ v w m n p q. (
            let same : v ≡ w = (h.one_value v w p.0 q.0).0 in
            (same, p.1 ∙ ap (λ (u : Rose ValueLabel). length (distinguished M t u)) same ∙ sym q.1));
        one_fault = λ f g p q. p.2 ∙ ap (der_fault_of octets) (h.one_stop p.0 q.0 p.1 q.1) ∙ sym q.2;
        within = λ v count p. omega (arith, p.1, ap length p.0.is, length-append (distinguished M t v) p.0.rest);
        begins = λ v value is. (record { rest = []; is = is ∙ sym (append-nil (distinguished M t v)); value = value }, ap length is);
        ends = λ v count p most. (
          p.0.value,
          p.0.is ∙ ap (λ xs. distinguished M t v ++ xs) (no_rest (distinguished M t v) p.0.rest (omega (arith, p.1, ap length p.0.is, most))) ∙ append-nil (distinguished M t v),
        );
      }

  der_law : SyntaxLaw Der
  der_law = record {
    one_of_two = der_one;
    encodes = λ M t v. (distinguished M t v, refl, tt);
    one_encoding = λ M t v xs ys h k p q. p ∙ sym q;
    octets = λ M t v octets value is few. subst AreOctets (sym is) (distinguished_octets M t v value (subst (λ xs. length xs ≤ 16777216) is few));
  }

pub all_syntaxes : ((aligned : Bool) → PerLaws aligned) → der.OneOfTwo → AllSyntaxes
all_syntaxes laws stops Aligned = per_law true (laws true)
all_syntaxes laws stops Unaligned = per_law false (laws false)
all_syntaxes laws stops Der = der_law stops
