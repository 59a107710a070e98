-- A text, by its octets.
use Rattle.std.proofs.Common.{◌≡◌, ℕ, suc, ◌*◌, ◌+◌, ◌≤◌, Bool, true, false, not, List, ◌++◌, length, refl, sym, ap, ◌∙◌, subst, arith, None, Result, Ok, Err, ◌⊎◌, inl, inr}
use Rattle.std.specs.Prelude.{IfOk, IfErr}
use Rattle.std.specs.Str.{IsUtf8, is_utf8}
use Rattle.std.proofs.lemmas.Str.{IsUtf8-from_is_utf8, is_utf8-from_IsUtf8}
use Rattle.base_trees.specs.Rose.{Rose, node, none}
use Rattle.simple_types.specs.declared.labels.ValueLabel.{ValueLabel}
use Rattle.simple_types.specs.declared.labels.ValueLabel.TheVariants as value
use Rattle.asn_types.specs.declared.modules.Assignment.{Assignment}
use Rattle.asn_types.specs.declared.types.TypeLabel.{TypeLabel}
use Rattle.asn_types.specs.Refs.{resolve, IsOf}
use Rattle.asn_values.specs.Values.{Own}
use Rattle.base_codecs.specs.declared.spots.Spot.{Spot}
use Rattle.per_fields.specs.declared.stops.Stop.{Stop}
use Rattle.per_fields.specs.declared.stops.Why.TheVariants.{NotUtf8, NotAValue}
use Rattle.per_fields.specs.Reading.{◌>>=◌, Reader, stop_at, stop_if, octets_at}
use Rattle.per_fields.specs.Fields.{Piece, Last, Units, unit, count_at, fragments_at, counted_at}
use Rattle.per_fields.specs.Nodes.{owned_at}
use Rattle.per_fields.specs.Owning.{owns}
use Rattle.per_decode.specs.declared.faults.PerEnd.{PerEnd}
use Rattle.per_decode.specs.declared.faults.PerEnd.TheVariants.{Memory, Stopped}
use Rattle.per_decode.specs.Private.Giving.{Halt, stopped, memory, halt_of, end_of, FailsAt, Shows}
use Rattle.per_decode.specs.Private.Bodies.{IsKnown, text_leaf, octets_kept, kept_by}
use Rattle.per_decode.specs.Private.Kept.{octets_more, octets_behind}
use Rattle.per_decode.proofs.Ends.{SteadyReader, Steady, fails_first, sits_then, sits-octets, sits-count, sits-fragments}
use Rattle.per_decode.proofs.Turns.{bind_same, behind, left_at, left-step}
use Rattle.per_decode.proofs.EndNodes.{sits-owned}
use Rattle.per_decode.proofs.Bodies.{owned-own, owned-not}

steady-more : (aligned : Bool) (front : List ℕ) (before total : ℕ) → SteadyReader (octets_more aligned front before total)
steady-more aligned front before total X s h =
    sits_then X s.at (fragments_at aligned 0 None octets_at (suc (length X)) before total X s) (λ b. Ok (front ++ b.0, b.1)) (sits-fragments aligned 0 None octets_at sits-octets (suc (length X)) before total X s h) (λ b i. record { later = omega arith; inside = i })

pub sits-length : (aligned : Bool) (piece : Piece) → SteadyReader (octets_behind aligned piece)
sits-length aligned (Last n) X s h = sits-octets n X s h
sits-length aligned (Units k) X s h = sits_then X s.at (octets_at (k * unit) X s) (λ a. octets_more aligned a.0 k (k * unit) X a.1) (sits-octets (k * unit) X s h) (λ a i. steady-more aligned a.0 k (k * unit) X a.1 i)

-- octets behind a first length of so many units
module _ (aligned : Bool) (k : ℕ) (X : List Bool) (s : Spot) where
  pub units_fail : (limit : ℕ) (whole : List ℕ) (e : Halt) (taken : ℕ) → s.at ≤ length X → FailsAt limit whole e taken (octets_at (k * unit) X s) → FailsAt limit whole e taken (octets_behind aligned (Units k) X s)
  units_fail limit whole e taken inside h = fails_first limit whole e taken X (octets_at (k * unit) X s) (λ a. octets_more aligned a.0 k (k * unit) X a.1) (sits-octets (k * unit) X s inside).inside (λ a i. steady-more aligned a.0 k (k * unit) X a.1 i) h

  pub units_read : (octets : List ℕ) (r : Spot) → octets_at (k * unit) X s ≡ Ok (octets, r) → length octets ≡ k * unit → octets_behind aligned (Units k) X s ≡ octets_more aligned octets k (length octets) X r
  units_read octets r e long = ap (λ x. x >>= λ a. octets_more aligned a.0 k (k * unit) X a.1) e ∙ ap (λ n. octets_more aligned octets k n X r) (sym long)

same_behind : (aligned : Bool) (piece : Piece) (X : List Bool) (r : Spot) → behind aligned 0 None octets_at sits-octets (left_at aligned 0 None octets_at sits-octets) 0 X (piece, r) ≡ octets_behind aligned piece X r
same_behind aligned (Last n) X r = refl
same_behind aligned (Units k) X r = let e : 0 + k * unit ≡ k * unit = omega arith in ap (λ n. octets_at (k * unit) X r >>= λ a. octets_more aligned a.0 k n X a.1) e

-- a text begins with a length
text-counted : (aligned : Bool) (X : List Bool) (s : Spot) → s.at ≤ length X → counted_at aligned 0 None octets_at X s ≡ (count_at aligned 0 None 4 0 X s >>= λ n. octets_behind aligned n.0 X n.1)
text-counted aligned X s inside =
    left-step aligned 0 None octets_at sits-octets 4 0 X s inside
    ∙ bind_same (count_at aligned 0 None 4 0 X s) (behind aligned 0 None octets_at sits-octets (left_at aligned 0 None octets_at sits-octets) 0 X) (λ n. octets_behind aligned n.0 X n.1) (λ n e. same_behind aligned n.0 X n.1)

module _ (M : List Assignment) (begin : ℕ) (t : Rose TypeLabel) where
  pub steady-kept : (X : List Bool) → Steady X (octets_kept M begin t)
  steady-kept X x h = sits-owned M begin t X (node (value.Utf8 x.0) none, x.1) h

  -- octets that could not be read
  pub kept_fails : (read : Reader (List ℕ)) → SteadyReader read → (X : List Bool) (s : Spot) (limit : ℕ) (whole : List ℕ) (e : Halt) (taken : ℕ) → s.at ≤ length X
      → FailsAt limit whole e taken (read X s) → FailsAt limit whole e taken (kept_by M begin t read X s)
  kept_fails read steady X s limit whole e taken inside h = fails_first limit whole e taken X (read X s) (octets_kept M begin t) (steady X s inside).inside (steady-kept X) h

  module _ (octets : List ℕ) (r : Spot) where
    pub kept_wrong : (IsUtf8 octets → ⊥) → octets_kept M begin t (octets, r) ≡ Err (stop_at begin NotUtf8 r.at)
    unfolding owned_at
    kept_wrong wrong = by (is_utf8 octets) (λ e. wrong (IsUtf8-from_is_utf8 octets e))
      where
        by : (b : Bool) → (b ≡ true → ⊥)
            → stop_if {A = Rose ValueLabel × Spot} (not b) (stop_at begin NotUtf8 r.at) (stop_if {A = Rose ValueLabel × Spot} (not (owns M t (node (value.Utf8 octets) none))) (stop_at begin NotAValue r.at) (Ok (node (value.Utf8 octets) none, r))) ≡ Err (stop_at begin NotUtf8 r.at)
        by true k = absurd (k refl)
        by false k = refl

    kept-end : r.at ≤ end_of (octets_kept M begin t (octets, r))
    unfolding owned_at
    kept-end = by (not (is_utf8 octets)) (not (owns M t (node (value.Utf8 octets) none)))
      where
        by : (a b : Bool) → r.at ≤ end_of (stop_if {A = Rose ValueLabel × Spot} a (stop_at begin NotUtf8 r.at) (stop_if {A = Rose ValueLabel × Spot} b (stop_at begin NotAValue r.at) (Ok (node (value.Utf8 octets) none, r))))
        by true b = omega arith
        by false true = omega arith
        by false false = omega arith

    -- where memory is missing
    pub kept_full : (limit : ℕ) (whole : List ℕ) (taken : ℕ) → 8 * taken ≤ r.at + 7 → FailsAt limit whole memory taken (octets_kept M begin t (octets, r))
    kept_full limit whole taken step = omega (arith, kept-end, step)

  -- the octets that were read decide
  pub kept_read : (read : Reader (List ℕ)) (X : List Bool) (s : Spot) (octets : List ℕ) (r : Spot) → read X s ≡ Ok (octets, r) → kept_by M begin t read X s ≡ octets_kept M begin t (octets, r)
  kept_read read X s octets r e = ap (λ x. x >>= octets_kept M begin t) e

  -- THE FIRST LENGTH
  module _ (aligned : Bool) (X : List Bool) (s : Spot) (inside : s.at ≤ length X) where
    kept-counted : kept_by M begin t (counted_at aligned 0 None octets_at) X s ≡ (count_at aligned 0 None 4 0 X s >>= λ n. kept_by M begin t (octets_behind aligned n.0) X n.1)
    kept-counted = ap (λ r. r >>= octets_kept M begin t) (text-counted aligned X s inside) ∙ by (count_at aligned 0 None 4 0 X s)
      where
        by : (r : Result (Piece × Spot) Stop) → ((r >>= λ n. octets_behind aligned n.0 X n.1) >>= octets_kept M begin t) ≡ (r >>= λ n. kept_by M begin t (octets_behind aligned n.0) X n.1)
        by (Ok n) = refl
        by (Err e) = refl

    pub count_fails : (limit : ℕ) (whole : List ℕ) (e : Halt) (taken : ℕ) → FailsAt limit whole e taken (count_at aligned 0 None 4 0 X s) → FailsAt limit whole e taken (kept_by M begin t (counted_at aligned 0 None octets_at) X s)
    count_fails limit whole e taken h =
        subst (FailsAt limit whole e taken) (sym kept-counted)
        (fails_first limit whole e taken X (count_at aligned 0 None 4 0 X s) (λ n. kept_by M begin t (octets_behind aligned n.0) X n.1) (sits-count aligned 0 None 4 0 X s inside).inside
        (λ n i. sits_then X n.1.at (octets_behind aligned n.0 X n.1) (octets_kept M begin t) (sits-length aligned n.0 X n.1 i) (steady-kept X)) h)

    pub count_reads : (piece : Piece) (r : Spot) → count_at aligned 0 None 4 0 X s ≡ Ok (piece, r) → kept_by M begin t (counted_at aligned 0 None octets_at) X s ≡ kept_by M begin t (octets_behind aligned piece) X r
    count_reads piece r e = kept-counted ∙ ap (λ c. c >>= λ n. kept_by M begin t (octets_behind aligned n.0) X n.1) e

-- WHAT WAS PUT, or a fault
module _ (M : List Assignment) (known : IsKnown M) (begin : ℕ) (t : Rose TypeLabel) (of : IsOf M t) (octets : List ℕ) (r : Spot) where
  is_text : IsUtf8 octets → not (is_utf8 octets) ≡ false
  is_text utf8 = ap not (is_utf8-from_IsUtf8 octets utf8)

  pub text_shows : {A : Type 0} (limit : ℕ) (whole : List ℕ) (stop : Stop) (taken : ℕ) (w : Rose ValueLabel) (answer : Result A PerEnd)
      → 8 * taken ≤ r.at + 7 → IfOk answer (λ _. w ≡ text_leaf octets) → IfOk answer (λ _. IsUtf8 octets × Own M t (text_leaf octets))
      → IfErr answer (λ e. (e ≡ Memory) ⊎ ((e ≡ Stopped) × (stop ≡ stop_at begin NotUtf8 r.at) × (IsUtf8 octets → ⊥)) ⊎ ((e ≡ Stopped) × (stop ≡ stop_at begin NotAValue r.at) × IsUtf8 octets × (Own M t (text_leaf octets) → ⊥)))
      → Shows limit whole (λ _. w) answer r stop taken (octets_kept M begin (resolve M t) (octets, r))
  text_shows limit whole stop taken w (Ok x) step is ok err = owned-own M known t of begin (text_leaf octets) r (is_text ok.0) ok.1 ∙ ap (λ v. Ok (v, r)) (sym is)
  text_shows limit whole stop taken w (Err e) step is ok err = by err
    where
      by : (e ≡ Memory) ⊎ ((e ≡ Stopped) × (stop ≡ stop_at begin NotUtf8 r.at) × (IsUtf8 octets → ⊥)) ⊎ ((e ≡ Stopped) × (stop ≡ stop_at begin NotAValue r.at) × IsUtf8 octets × (Own M t (text_leaf octets) → ⊥)) → FailsAt limit whole (halt_of e stop) taken (octets_kept M begin (resolve M t) (octets, r))
      by (inl m) = subst (λ f. FailsAt limit whole (halt_of f stop) taken (octets_kept M begin (resolve M t) (octets, r))) (sym m) (kept_full M begin (resolve M t) octets r limit whole taken step)
      by (inr (inl n)) =
          subst (λ f. FailsAt limit whole (halt_of f stop) taken (octets_kept M begin (resolve M t) (octets, r))) (sym n.0)
          (subst (λ u. FailsAt limit whole (stopped u) taken (octets_kept M begin (resolve M t) (octets, r))) (sym n.1) (kept_wrong M begin (resolve M t) octets r n.2, step, refl))
      by (inr (inr n)) =
          subst (λ f. FailsAt limit whole (halt_of f stop) taken (octets_kept M begin (resolve M t) (octets, r))) (sym n.0)
          (subst (λ u. FailsAt limit whole (stopped u) taken (octets_kept M begin (resolve M t) (octets, r))) (sym n.1) (owned-not M known t of begin (text_leaf octets) r (is_text n.2) n.3, step, refl))
