-- A part, by its node and its default or fixed value.
use Rattle.std.proofs.Common.{◌≡◌, ℕ, ◌*◌, ◌+◌, ◌≤◌, Bool, true, false, cond, not, ◌&&◌, List, length, refl, sym, ap, ◌∙◌, subst, arith, Result, Ok, Err, inl, inr, ◌⊎◌}
use Rattle.std.specs.Prelude.{IfOk, IfErr}
use Rattle.base_trees.specs.Rose.{Rose}
use Rattle.simple_types.specs.declared.labels.ValueLabel.{ValueLabel}
use Rattle.asn_types.specs.declared.modules.Assignment.{Assignment}
use Rattle.asn_types.specs.declared.types.Component.{Component}
use Rattle.asn_types.specs.declared.types.TypeLabel.{TypeLabel}
use Rattle.asn_values.specs.Values.{Kept}
use Rattle.base_codecs.specs.declared.spots.Spot.{Spot}
use Rattle.per_fields.specs.declared.stops.Stop.{Stop}
use Rattle.per_fields.specs.declared.stops.Why.TheVariants as why
use Rattle.per_fields.specs.Reading.{◌>>=◌, stop_at, stop_if}
use Rattle.per_fields.specs.Nodes.{unkept_why, kept_at, node_read}
use Rattle.per_fields.specs.Owning.{keeps, is_standard}
use Rattle.per_fields.proofs.Owns.{keeps_kept}
use Rattle.per_fields.specs.Stops.{is_short}
use Rattle.per_decode.specs.declared.faults.PerEnd.{PerEnd}
use Rattle.per_decode.specs.declared.faults.PerEnd.TheVariants as fault
use Rattle.per_decode.specs.Private.Giving.{Halt, stopped, halt_of, end_of, FailsAt, Shows, Gives, input}
use Rattle.per_decode.specs.Private.Bodies.{part_read}
use Rattle.per_decode.proofs.EndNodes.{sits-node, sits-kept}
use Rattle.per_decode.proofs.Ends.{fails_first}
use Rattle.per_decode.proofs.Free.{kept-goes}

module _ (M : List Assignment) (part : Component) (t : Rose TypeLabel) (begin : ℕ) (v : Rose ValueLabel) (r : Spot) where
  kept-not : (Kept M part t v → ⊥) → kept_at M part t begin (v, r) ≡ Err (stop_at begin (unkept_why M part t v) r.at)
  unfolding kept_at
  kept-not wrong = by (keeps M part t v) (λ e. wrong (keeps_kept M part t v e))
    where
      by : (b : Bool) → (b ≡ true → ⊥) → stop_if {A = Rose ValueLabel × Spot} (not b) (stop_at begin (unkept_why M part t v) r.at) (Ok (v, r)) ≡ Err (stop_at begin (unkept_why M part t v) r.at)
      by true k = absurd (k refl)
      by false k = refl

  kept-end : r.at ≤ end_of (kept_at M part t begin (v, r))
  unfolding kept_at
  kept-end = by (keeps M part t v)
    where
      by : (b : Bool) → r.at ≤ end_of (stop_if {A = Rose ValueLabel × Spot} (not b) (stop_at begin (unkept_why M part t v) r.at) (Ok (v, r)))
      by true = omega arith
      by false = omega arith

  never_short : is_short (unkept_why M part t v) ≡ false
  never_short = by (part.optional && is_standard M part t v)
    where
      by : (b : Bool) → is_short (cond b why.DefaultWritten why.NotAValue) ≡ false
      by true = refl
      by false = refl

  -- what is said of a value that was read, where octets were taken up to its end
  kept_shows : {A : Type 0} (limit : ℕ) (whole : List ℕ) (stop : Stop) (taken : ℕ) (w : Rose ValueLabel) (answer : Result A PerEnd)
      → 8 * taken ≤ r.at + 7 → IfOk answer (λ _. w ≡ v) → IfOk answer (λ _. Kept M part t v)
      → IfErr answer (λ e. (e ≡ fault.Memory) ⊎ ((e ≡ fault.Stopped) × (stop ≡ stop_at begin (unkept_why M part t v) r.at) × (Kept M part t v → ⊥)))
      → Shows limit whole (λ _. w) answer r stop taken (kept_at M part t begin (v, r))
  kept_shows limit whole stop taken w (Ok x) step is kept err = kept-goes M part t begin v r kept ∙ ap (λ w. Ok (w, r)) (sym is)
  kept_shows limit whole stop taken w (Err e) step is kept err = by err
    where
      by : (e ≡ fault.Memory) ⊎ ((e ≡ fault.Stopped) × (stop ≡ stop_at begin (unkept_why M part t v) r.at) × (Kept M part t v → ⊥)) → FailsAt limit whole (halt_of e stop) taken (kept_at M part t begin (v, r))
      by (inl m) = subst (λ f. FailsAt limit whole (halt_of f stop) taken (kept_at M part t begin (v, r))) (sym m) (omega (arith, kept-end, step))
      by (inr n) =
          subst (λ f. FailsAt limit whole (halt_of f stop) taken (kept_at M part t begin (v, r))) (sym n.0)
          (subst (λ u. FailsAt limit whole (stopped u) taken (kept_at M part t begin (v, r))) (sym n.1) (kept-not n.2, step, never_short))

-- what is put down of a value is what was told of it
pub told_of : {A : Type 0} (P : Rose ValueLabel → Type 0) (v w : Rose ValueLabel) (answer : Result A PerEnd) → P v → IfOk answer (λ _. w ≡ v) → IfOk answer (λ _. P w)
told_of P v w (Ok x) h is = subst P (sym is) h
told_of P v w (Err e) h is = tt

pub kept_of : {A : Type 0} (M : List Assignment) (part : Component) (t : Rose TypeLabel) (v w : Rose ValueLabel) (answer : Result A PerEnd) → IfOk answer (λ _. w ≡ v) → IfOk answer (λ _. Kept M part t v) → IfOk answer (λ _. Kept M part t w)
kept_of M part t v w (Ok x) is kept = subst (Kept M part t) (sym is) kept
kept_of M part t v w (Err e) is kept = tt

module _ (aligned : Bool) (M : List Assignment) (depth : ℕ) (part : Component) (t : Rose TypeLabel) where
  pub part_gives : {A : Type 0} (s : Spot) (v : Rose ValueLabel) (r : Spot) (limit : ℕ) (whole : List ℕ) (stop : Stop) (taken : ℕ) (w : Rose ValueLabel) (answer : Result A PerEnd)
      → node_read aligned M depth t (input limit whole) s ≡ Ok (v, r) → 8 * taken ≤ r.at + 7
      → IfOk answer (λ _. w ≡ v) → IfOk answer (λ _. Kept M part t v)
      → IfErr answer (λ e. (e ≡ fault.Memory) ⊎ ((e ≡ fault.Stopped) × (stop ≡ stop_at s.at (unkept_why M part t v) r.at) × (Kept M part t v → ⊥)))
      → Gives limit whole (λ _. w) answer r stop taken (part_read aligned M depth part t) s
  part_gives s v r limit whole stop taken w answer read step is kept err =
      subst (Shows limit whole (λ _. w) answer r stop taken) (sym (ap (λ x. x >>= kept_at M part t s.at) read)) (kept_shows M part t s.at v r limit whole stop taken w answer step is kept err)

  -- where the node fails
  pub part_fails : (X : List Bool) (s : Spot) (limit : ℕ) (whole : List ℕ) (e : Halt) (taken : ℕ) → s.at ≤ length X → FailsAt limit whole e taken (node_read aligned M depth t X s) → FailsAt limit whole e taken (part_read aligned M depth part t X s)
  part_fails X s limit whole e taken inside h =
      fails_first limit whole e taken X (node_read aligned M depth t X s) (kept_at M part t s.at) (sits-node aligned M depth t X s inside).inside (λ v i. sits-kept M part t s.at X v i) h
