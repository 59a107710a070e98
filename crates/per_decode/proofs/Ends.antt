-- Reading goes on, and ends in the bits; and what a fault on the way says of the whole.
use Rattle.std.proofs.Common.{◌≡◌, ℕ, zero, suc, ◌+◌, ◌-◌, ◌*◌, ◌≤◌, Bool, true, false, cond, ltb, eqb, List, [], ◌∷◌, ◌++◌, length, ap, arith, rules, Option, Some, None, Result, Ok, Err, inl, inr}
use Rattle.std.specs.Prelude.{ℤ}
use Rattle.std.proofs.lemmas.Bool.{cases_lt, le-ltb, lt-ltb}
use Rattle.base_codecs.specs.declared.spots.Spot.{Spot}
use Rattle.per_fields.specs.declared.stops.Stop.{Stop}
use Rattle.per_fields.specs.declared.stops.Why.TheVariants as why
use Rattle.per_fields.specs.Reading.{◌>>=◌, Reader, stop_at, stop_if, bits_at, align_at, octets_at, each_at}
use Rattle.per_fields.specs.Fields.{skip_at, Piece, Last, Units, unit, within_at, aligned_at, large_octets_at, large_at, number_at, length_from, length_here, count_here, count_at, fragments_at, counted_at, octet_count_here, octet_count_at, from_octets_at, from_at, signed_octets_at, signed_at, ranged_at, whole_at, sized_at, list_at}
use Rattle.per_decode.specs.Private.Giving.{Halt, stopped, short, too_long, failed, memory, end_of, FailsAt}

pub record Sits {B : Type 0} (X : List Bool) (p : ℕ) (r : Result (B × Spot) Stop) : Type 0 where
  pub later : p ≤ end_of r
  pub inside : end_of r ≤ length X

abbrev pub Steady : {A B : Type 0} → List Bool → (A × Spot → Result (B × Spot) Stop) → Type 0
Steady X k = (x : _) → x.1.at ≤ length X → Sits X x.1.at (k x)

-- a reader from any spot
abbrev pub SteadyReader : {B : Type 0} → Reader B → Type 0
SteadyReader read = (X : List Bool) (s : Spot) → s.at ≤ length X → Sits X s.at (read X s)

pub sits_then : {A B : Type 0} (X : List Bool) (p : ℕ) (r : Result (A × Spot) Stop) (k : A × Spot → Result (B × Spot) Stop) → Sits X p r → Steady X k → Sits X p (r >>= k)
sits_then X p (Ok x) k h g = let i = g x h.inside in record { later = omega (arith, h.later, i.later); inside = i.inside }
sits_then X p (Err s) k h g = record { later = h.later; inside = h.inside }

pub sits_if : {B : Type 0} (X : List Bool) (p : ℕ) (b : Bool) (x y : Result (B × Spot) Stop) → Sits X p x → Sits X p y → Sits X p (cond b x y)
sits_if X p true x y h k = h
sits_if X p false x y h k = k

pub fails_first : {A B : Type 0} (limit : ℕ) (whole : List ℕ) (e : Halt) (taken : ℕ) (X : List Bool) (r : Result (A × Spot) Stop) (k : A × Spot → Result (B × Spot) Stop)
    → end_of r ≤ length X → Steady X k → FailsAt limit whole e taken r → FailsAt limit whole e taken (r >>= k)
fails_first limit whole memory taken X (Ok x) k h g f = omega (arith, (g x h).later, f)
fails_first limit whole memory taken X (Err s) k h g f = f
fails_first limit whole failed taken X (Ok x) k h g f = (omega (arith, (g x h).later, f.0), λ r. omega (arith, (g x h).later, f.1 tt))
fails_first limit whole failed taken X (Err s) k h g f = (f.0, λ r. absurd r)
fails_first limit whole (stopped t) taken X (Ok x) k h g f = absurd cc
fails_first limit whole (stopped t) taken X (Err s) k h g f = let e : s ≡ t = cc (f.0) in (ap (λ u. Err u) e, f.1, f.2)
fails_first limit whole (short b) taken X (Ok x) k h g f = absurd cc
fails_first limit whole (short b) taken X (Err s) k h g f = let e : s ≡ stop_at b why.Short (8 * taken) = cc (f.0) in (ap (λ u. Err u) e, f.1)
fails_first limit whole (too_long b) taken X (Ok x) k h g f = absurd cc
fails_first limit whole (too_long b) taken X (Err s) k h g f = let e : s ≡ stop_at b why.Short (8 * taken) = cc (f.0) in (ap (λ u. Err u) e, f.1)

pub sits_ok : {A : Type 0} (X : List Bool) (p : ℕ) (x : A × Spot) → p ≤ x.1.at → x.1.at ≤ length X → Sits X p (Ok x)
sits_ok X p x h k = record { later = h; inside = k }

pub sits_err : {A : Type 0} (X : List Bool) (p : ℕ) (s : Stop) → p ≤ s.end → s.end ≤ length X → Sits {B = A} X p (Err s)
sits_err X p s h k = record { later = h; inside = k }

pub sits-bits : (b n : ℕ) (X : List Bool) (s : Spot) → s.at ≤ length X → Sits X s.at (bits_at b n X s)
unfolding bits_at
sits-bits b n X s h =
    elim (cases_lt (length X) (s.at + n)) [
      | inl lt ↦ rw (lt-ltb (length X) (s.at + n) lt) (record { later = h; inside = omega arith })
      | inr le ↦ rw (le-ltb (length X) (s.at + n) le) (record { later = omega arith; inside = le })
    ]

pub sits-octets : (n : ℕ) (X : List Bool) (s : Spot) → s.at ≤ length X → Sits X s.at (octets_at n X s)
unfolding octets_at
sits-octets n X s h =
    elim (cases_lt (length X) (s.at + 8 * n)) [
      | inl lt ↦ rw (lt-ltb (length X) (s.at + 8 * n) lt) (record { later = h; inside = omega arith })
      | inr le ↦ rw (le-ltb (length X) (s.at + 8 * n) le) (record { later = omega arith; inside = le })
    ]

pub sits-align : (X : List Bool) (s : Spot) → s.at ≤ length X → Sits X s.at (align_at X s)
unfolding align_at
sits-align X s h = search (rules, sits_then, sits_if, sits_ok, sits_err, sits-bits)

pub sits-within : (top n : ℕ) (X : List Bool) (s : Spot) → s.at ≤ length X → Sits X s.at (within_at top n X s)
unfolding within_at
sits-within top n X s h = search (rules, sits_then, sits_if, sits_ok, sits_err, sits-bits)

pub sits-aligned : (top n : ℕ) (X : List Bool) (s : Spot) → s.at ≤ length X → Sits X s.at (aligned_at top n X s)
unfolding aligned_at
sits-aligned top n X s h = search (rules, sits_then, sits-align, sits-within)

pub sits-large_octets : (top more : ℕ) (X : List Bool) (s : Spot) → s.at ≤ length X → Sits X s.at (large_octets_at top more X s)
unfolding large_octets_at
sits-large_octets top more X s h = search (rules, sits_then, sits_if, sits_ok, sits_err, sits-bits)

pub sits-large : (top : ℕ) (X : List Bool) (s : Spot) → s.at ≤ length X → Sits X s.at (large_at top X s)
unfolding large_at
sits-large top X s h = search (rules, sits_then, sits-within, sits-align, sits-large_octets)

pub sits-number : (aligned : Bool) (top : ℕ) (X : List Bool) (s : Spot) → s.at ≤ length X → Sits X s.at (number_at aligned top X s)
unfolding number_at
sits-number aligned top X s h = search (rules, sits_if, sits_ok, sits-within, sits-aligned, sits-large)

-- a field that goes on behind its first bits, from where it begins
pub sits-length_from : (before begin x : ℕ) (X : List Bool) (s : Spot) → s.at ≤ length X → Sits X s.at (length_from before begin x X s)
unfolding length_from bits_at
sits-length_from before begin x X s h = search (rules, sits_then, sits_if, sits_ok, sits_err, sits-bits)

pub sits-length_here : (before : ℕ) (X : List Bool) (s : Spot) → s.at ≤ length X → Sits X s.at (length_here before X s)
unfolding length_here
sits-length_here before X s h = search (rules, sits_then, sits-bits, sits-length_from)

pub sits-count_here : (least : ℕ) (most : Option ℕ) (before total : ℕ) (X : List Bool) (s : Spot) → s.at ≤ length X → Sits X s.at (count_here least most before total X s)
unfolding count_here
sits-count_here least most before total X s h = search (rules, sits_then, sits_if, sits_ok, sits_err, sits-length_here)

-- what is before a field that begins at an octet in the aligned variant
pub sits-skip : (aligned : Bool) (X : List Bool) (s : Spot) → s.at ≤ length X → Sits X s.at (skip_at aligned X s)
sits-skip aligned X s h = by aligned
  where
    by : (b : Bool) → Sits X s.at (skip_at b X s)
    by true = sits-align X s h
    by false = record { later = omega arith; inside = h }

pub sits-count : (aligned : Bool) (least : ℕ) (most : Option ℕ) (before total : ℕ) (X : List Bool) (s : Spot) → s.at ≤ length X → Sits X s.at (count_at aligned least most before total X s)
unfolding count_at
sits-count aligned least most before total X s h = sits_then X s.at (skip_at aligned X s) (λ a. count_here least most before total X a.1) (sits-skip aligned X s h) (λ a i. sits-count_here least most before total X a.1 i)

sits-octet_count_by : (X : List Bool) (p : ℕ) (n : Piece × Spot) → p ≤ n.1.at → n.1.at ≤ length X
    → Sits X n.1.at (elim n.0 as (λ _. Result (ℕ × Spot) Stop) [
      | Last k ↦ stop_if (eqb k 0) (stop_at p why.Range n.1.at) (stop_if (ltb 16 k) (stop_at p why.TooWide n.1.at) (Ok (k - 1, n.1)))
      | Units k ↦ Err (stop_at p why.TooWide n.1.at)
    ])
sits-octet_count_by X p (Last k, r) h i = search (rules, sits_if, sits_ok, sits_err)
sits-octet_count_by X p (Units k, r) h i = record { later = omega arith; inside = i }

pub sits-octet_count_here : (X : List Bool) (s : Spot) → s.at ≤ length X → Sits X s.at (octet_count_here X s)
unfolding octet_count_here
sits-octet_count_here X s h =
    let a = sits-length_here 4 X s h in
    by (length_here 4 X s) a
  where
    by : (r : Result (Piece × Spot) Stop) → Sits X s.at r
        → Sits X s.at (r >>= λ n. elim n.0 as (λ _. Result (ℕ × Spot) Stop) [
          | Last k ↦ stop_if (eqb k 0) (stop_at s.at why.Range n.1.at) (stop_if (ltb 16 k) (stop_at s.at why.TooWide n.1.at) (Ok (k - 1, n.1)))
          | Units k ↦ Err (stop_at s.at why.TooWide n.1.at)
        ])
    by (Ok n) a = let i = sits-octet_count_by X s.at n a.later a.inside in record { later = omega (arith, a.later, i.later); inside = i.inside }
    by (Err e) a = record { later = a.later; inside = a.inside }

pub sits-octet_count : (aligned : Bool) (X : List Bool) (s : Spot) → s.at ≤ length X → Sits X s.at (octet_count_at aligned X s)
unfolding octet_count_at
sits-octet_count aligned X s h = sits_then X s.at (skip_at aligned X s) (λ a. octet_count_here X a.1) (sits-skip aligned X s h) (λ a i. sits-octet_count_here X a.1 i)

pub sits-from_octets : (least : ℤ) (more : ℕ) (X : List Bool) (s : Spot) → s.at ≤ length X → Sits X s.at (from_octets_at least more X s)
unfolding from_octets_at
sits-from_octets least more X s h = search (rules, sits_then, sits_if, sits_ok, sits_err, sits-bits)

pub sits-from : (aligned : Bool) (least : ℤ) (X : List Bool) (s : Spot) → s.at ≤ length X → Sits X s.at (from_at aligned least X s)
unfolding from_at
sits-from aligned least X s h = search (rules, sits_then, sits-octet_count, sits-from_octets)

pub sits-signed_octets : (greatest : Option ℤ) (more : ℕ) (X : List Bool) (s : Spot) → s.at ≤ length X → Sits X s.at (signed_octets_at greatest more X s)
unfolding signed_octets_at
sits-signed_octets greatest more X s h = search (rules, sits_then, sits_if, sits_ok, sits_err, sits-bits)

pub sits-signed : (aligned : Bool) (greatest : Option ℤ) (X : List Bool) (s : Spot) → s.at ≤ length X → Sits X s.at (signed_at aligned greatest X s)
unfolding signed_at
sits-signed aligned greatest X s h = search (rules, sits_then, sits-octet_count, sits-signed_octets)

pub sits-ranged : (aligned : Bool) (least greatest : ℤ) (X : List Bool) (s : Spot) → s.at ≤ length X → Sits X s.at (ranged_at aligned least greatest X s)
unfolding ranged_at
sits-ranged aligned least greatest X s h = search (rules, sits_then, sits_ok, sits-number)

pub sits-whole : (aligned : Bool) (least greatest : Option ℤ) (X : List Bool) (s : Spot) → s.at ≤ length X → Sits X s.at (whole_at aligned least greatest X s)
unfolding whole_at
sits-whole aligned (Some least) (Some greatest) X s h = sits-ranged aligned least greatest X s h
sits-whole aligned (Some least) None X s h = sits-from aligned least X s h
sits-whole aligned None greatest X s h = sits-signed aligned greatest X s h

-- items behind general lengths
module _ (aligned : Bool) {A : Type 0} (least : ℕ) (most : Option ℕ) (items : ℕ → Reader (List A)) (one : (n : ℕ) → SteadyReader (items n)) where
  pub sits-fragments : (turns before total : ℕ) (X : List Bool) (s : Spot) → s.at ≤ length X → Sits X s.at (fragments_at aligned least most items turns before total X s)
  unfolding fragments_at
  sits-fragments zero before total X s h = record { later = omega arith; inside = h }
  sits-fragments (suc turns) before total X s h =
      sits_then X s.at (count_at aligned least most before total X s) _ (sits-count aligned least most before total X s h) (λ n i. by n.0 n.1 i (sits-fragments turns))
    where
      by : (n : Piece) (r : Spot) → r.at ≤ length X
          → ((k total : ℕ) (X : List Bool) (s : Spot) → s.at ≤ length X → Sits X s.at (fragments_at aligned least most items turns k total X s))
          → Sits X r.at (elim n as (λ _. Result (List A × Spot) Stop) [
            | Last k ↦ items k X r
            | Units k ↦ items (k * unit) X r >>= λ a. fragments_at aligned least most items turns k (total + k * unit) X a.1 >>= λ b. Ok (a.0 ++ b.0, b.1)
          ])
      by (Last k) r i further = one k X r i
      by (Units k) r i further =
          sits_then X r.at (items (k * unit) X r) _ (one (k * unit) X r i) (λ a j.
          sits_then X a.1.at (fragments_at aligned least most items turns k (total + k * unit) X a.1) _ (further k (total + k * unit) X a.1 j) (λ b l. record { later = omega arith; inside = l }))

  pub sits-counted : (X : List Bool) (s : Spot) → s.at ≤ length X → Sits X s.at (counted_at aligned least most items X s)
  sits-counted X s h = sits-fragments (suc (length X)) 4 0 X s h

pub sits-sized : (aligned : Bool) {A : Type 0} (least most : ℕ) (items : ℕ → Reader (List A)) → ((n : ℕ) → SteadyReader (items n)) → SteadyReader (sized_at aligned least most items)
unfolding sized_at
sits-sized aligned least most items one X s h = sits_then X s.at (number_at aligned (most - least) X s) _ (sits-number aligned (most - least) X s h) (λ n i. one (least + n.0) X n.1 i)

pub sits-list : (aligned : Bool) {A : Type 0} (least : ℕ) (most : Option ℕ) (items : ℕ → Reader (List A)) → ((n : ℕ) → SteadyReader (items n)) → SteadyReader (list_at aligned least most items)
unfolding list_at
sits-list aligned least None items one X s h = sits-counted aligned least None items one X s h
sits-list aligned {A = A} least (Some most) items one X s h = by (ltb most 65536)
  where
    by : (b : Bool) → Sits X s.at (elim b as (λ _. Result (List A × Spot) Stop) [ true ↦ sized_at aligned least most items X s | false ↦ counted_at aligned least (Some most) items X s ])
    by true = sits-sized aligned least most items one X s h
    by false = sits-counted aligned least (Some most) items one X s h

-- one after the other
pub sits-each : {A B : Type 0} (read : A → Reader B) → ((a : A) → SteadyReader (read a)) → (as' : List A) → SteadyReader (each_at read as')
unfolding each_at
sits-each read one [] X s h = record { later = omega arith; inside = h }
sits-each read one (a ∷ as') X s h =
    sits_then X s.at (read a X s) _ (one a X s h) (λ b i.
    sits_then X b.1.at (each_at read as' X b.1) _ (sits-each read one as' X b.1 i) (λ bs j. record { later = omega arith; inside = j }))
