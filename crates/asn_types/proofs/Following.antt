-- Types behind references.
use Rattle.std.proofs.Common.{◌≡◌, ℕ, zero, suc, ◌+◌, ◌-◌, ◌<◌, ◌≤◌, Option, Some, None, List, refl, ◌∙◌, ap, arith}
use Rattle.base_trees.specs.Rose.{Rose}
use Rattle.asn_types.specs.declared.types.TypeLabel.{TypeLabel}
use Rattle.asn_types.specs.declared.modules.Assignment.{Assignment}
use Rattle.asn_types.specs.Refs.{next, follow}

module _ (M : List Assignment) where
  pub follow-stops : (n : ℕ) (t : Rose TypeLabel) → next M t ≡ None → follow M n t ≡ t
  unfolding follow
  follow-stops zero t none = refl
  follow-stops (suc n) t none = ap (λ (o : Option (Rose TypeLabel)). elim o as (λ _. Rose TypeLabel) [ None ↦ t | Some u ↦ follow M n u ]) none

  follow-suc : (n : ℕ) (t u : Rose TypeLabel) → next M t ≡ Some u → follow M (suc n) t ≡ follow M n u
  unfolding follow
  follow-suc n t u some = ap (λ (o : Option (Rose TypeLabel)). elim o as (λ _. Rose TypeLabel) [ None ↦ t | Some u ↦ follow M n u ]) some

  -- where i of n references were followed
  pub follow-goes : (n i : ℕ) (t u : Rose TypeLabel) → i < n → next M t ≡ Some u → follow M (n - i) t ≡ follow M (n - (i + 1)) u
  follow-goes n i t u more some =
      let e : n - i ≡ suc (n - (i + 1)) = omega arith in
      ap (λ k. follow M k t) e ∙ follow-suc (n - (i + 1)) t u some

  pub follow-done : (n i : ℕ) (t : Rose TypeLabel) → n ≤ i → follow M (n - i) t ≡ t
  unfolding follow
  follow-done n i t done = let e : n - i ≡ zero = omega arith in ap (λ k. follow M k t) e
