-- A read behind an octet that was taken ahead, and its count of faults.
use Rattle.std.proofs.Common.{◌≡◌, ℕ, ◌<◌, ◌≤◌, Bool, true, false, cond, leb, List, [], ◌∷◌, length, take, refl, sym, ap, subst, arith, Option, Some, None}
use Rattle.std.specs.Prelude.{slice_set}
use Rattle.std.specs.Io.KnownBytes.{Consumes}
use Rattle.std.proofs.lemmas.Bool.{le-leb, leb-true}
use Rattle.base_texts.specs.Faults.{Counts, HasRisen, one_more}
use Rattle.record_stream.specs.Heads.{left_with, faults_behind}

gives : (octet : ℕ) (left : Option (List ℕ)) → Consumes (left_with (Some octet) left) (left_with None left) (octet ∷ [])
gives octet None = tt
gives octet (Some left) = refl

-- it comes alone
pub octet_read : (was now : Option ℕ) (octet : ℕ) (buf : List ℕ) (left : Option (List ℕ)) → Some octet ≡ was → now ≡ None → 0 < length buf
    → Consumes (left_with was left) (left_with now left) (take 1 (slice_set buf 0 octet))
octet_read was now octet [] left held gone some = absurd (omega (arith, some))
octet_read was now octet (b ∷ bs) left held gone some =
    subst (λ o. Consumes (left_with o left) (left_with now left) (octet ∷ [])) held (subst (λ n. Consumes (left_with (Some octet) left) (left_with n left) (octet ∷ [])) (sym gone) (gives octet left))

-- the faults behind it, once they rose
risen_is : (before now : ℕ) → one_more before ≤ now → faults_behind before None now ≡ now
risen_is before now h = ap (λ c. cond c now 0) (le-leb (one_more before) now h)

few : (before now : ℕ) → faults_behind before None now ≤ now
few before now = by (leb (one_more before) now)
  where
    by : (c : Bool) → cond c now 0 ≤ now
    by true = omega arith
    by false = omega arith

later : (before old new : ℕ) → old ≤ new → faults_behind before None old ≤ faults_behind before None new
later before old new h = by (leb (one_more before) old) refl
  where
    by : (c : Bool) → leb (one_more before) old ≡ c → cond c old 0 ≤ faults_behind before None new
    by true e = let k : one_more before ≤ old = leb-true (one_more before) old e in omega (arith, risen_is before new (omega (arith, k, h)), h)
    by false e = omega arith

pub counts_behind : (before old new : ℕ) (failed : Type 0) → before ≤ old → Counts old new failed → Counts (faults_behind before None old) (faults_behind before None new) failed
counts_behind before old new failed since h = record {
  later = later before old new h.later;
  rose = λ f. let r = h.rose f in omega (arith, r, since, few before old, risen_is before new (omega (arith, r, since)));
}

-- while it is handed on there is no fault
pub counts_handed : (before now new : ℕ) (octet : ℕ) (was after : Option ℕ) (failed : Type 0) → Some octet ≡ was → (failed → ⊥) → Counts (faults_behind before was now) (faults_behind before after new) failed
counts_handed before now new octet was after failed held none =
    subst (λ o. Counts (faults_behind before o now) (faults_behind before after new) failed) held (record { later = omega arith; rose = λ f. absurd (none f) })

-- where they rose since, it was handed on, and those of the source rose
pub risen_behind : (before now new : ℕ) (octet : ℕ) (held : Option ℕ) → HasRisen (faults_behind before (Some octet) now) (faults_behind before held new) → (held ≡ None) × HasRisen before new
risen_behind before now new octet (Some x) h = absurd (omega (arith, h))
risen_behind before now new octet None h = (refl, by (leb (one_more before) new) refl h)
  where
    by : (c : Bool) → leb (one_more before) new ≡ c → one_more 0 ≤ cond c new 0 → HasRisen before new
    by true e k = leb-true (one_more before) new e
    by false e k = absurd (omega (arith, k))
