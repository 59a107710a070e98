-- A few bits, of the octet that is held and of one more.
use Rattle.std.proofs.Common.{◌≡◌, ℕ, ◌+◌, ◌-◌, ◌*◌, ◌/◌, ◌%◌, ◌<◌, ◌≤◌, ◌^◌, List, [], ◌∷◌, ◌++◌, length, sym, ap, ◌∙◌, subst, arith, append_assoc, take, drop, get_or, Option, Some}
use Rattle.std.proofs.lemmas.Nat.{one_shl}
use Rattle.std.proofs.lemmas.List.{append-nil}
use Rattle.std.specs.Io.KnownBytes.{Consumes}
use Rattle.base_codecs.specs.Bits.{bits, octet_bits, octet}
use Rattle.base_codecs.specs.Cursors.{ahead}
use Rattle.base_codecs.proofs.BitLemmas.{bits-high, bits-split}
use Rattle.base_codecs.proofs.BitSplit.{reads_bits}

-- where the bits that are held do
pub held_bits : (position taken limit held n left : ℕ) (octets : List ℕ) → n + left ≡ 8 * taken - position → left < 8
    → ahead position taken held limit octets
    ≡ bits n (held / 2 ^ left) ++ ahead (position + n) taken (held % (1 * 2 ^ left % 2 ^ 8)) limit (drop (taken - taken) octets)
held_bits position taken limit held n left octets sum small =
    let p : 1 * 2 ^ left % 2 ^ 8 ≡ 2 ^ left = one_shl left 8 small in
    let now : 8 * taken - (position + n) ≡ left = omega arith in
    let none : taken - taken ≡ 0 = omega arith in
    let rest = octet_bits (take (limit - taken) octets) in
    let b : bits (8 * taken - position) held ≡ bits n (held / 2 ^ left) ++ bits left (held % 2 ^ left) = ap (λ w. bits w held) (sym sum) ∙ bits-high n left held in
    rw (p, now, none) (ap (λ m. m ++ rest) b ∙ append_assoc (bits n (held / 2 ^ left)) (bits left (held % 2 ^ left)) rest)

-- an octet behind the bits that are held
pub octet_same : (u held x : ℕ) → x < 256 → bits (u + 8) (held * 256 + x) ≡ bits u held ++ octet_bits (x ∷ [])
unfolding octet
octet_same u held x lt = bits-split u 8 held x lt ∙ ap (λ m. bits u held ++ m) (sym (append-nil (octet x)))

-- where one octet more came
pub octet_more : (position taken limit held all u n left k : ℕ) (buf octets : List ℕ) (old new : Option (List ℕ))
    → u ≡ 8 * taken - position → length buf ≡ 1 → position ≤ 8 * taken → all < 2 ^ (u + 8) → bits (u + 8) all ≡ bits u held ++ octet_bits (get_or buf 0 0 ∷ [])
    → n + left ≡ u + 8 → left < 32 → k ≡ 1 → k ≤ limit - taken → Consumes old new (take k buf) → old ≡ Some octets
    → ahead position taken held limit octets
    ≡ bits n (all / 2 ^ left) ++ ahead (position + n) (taken + k) (all % (1 * 2 ^ left % 2 ^ 32)) limit (drop (taken + k - taken) octets)
octet_more position taken limit held all u n left k [] octets old new unread one behind fits same sum small count most came is = absurd (omega (arith, one))
octet_more position taken limit held all u n left k (x ∷ y ∷ ys) octets old new unread one behind fits same sum small count most came is = absurd (omega (arith, one))
octet_more position taken limit held all u n left k (x ∷ []) octets old new unread one behind fits same sum small count most came is =
    let p : 1 * 2 ^ left % 2 ^ 128 ≡ 1 * 2 ^ left % 2 ^ 32 = one_shl left 128 (omega arith) ∙ sym (one_shl left 32 small) in
    let f : all < 2 ^ (8 * taken - position + 8) = subst (λ w. all < 2 ^ (w + 8)) unread fits in
    let s : bits (8 * taken - position + 8) all ≡ bits (8 * taken - position) held ++ octet_bits (x ∷ []) = subst (λ w. bits (w + 8) all ≡ bits w held ++ octet_bits (x ∷ [])) unread same in
    reads_bits position taken limit held all n left k 1 (x ∷ []) [] octets old new one behind f s (omega arith) (omega arith) count most came is
    ∙ ap (λ m. bits n (all / 2 ^ left) ++ ahead (position + n) (taken + k) (all % m) limit (drop (taken + k - taken) octets)) p
