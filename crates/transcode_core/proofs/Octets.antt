-- Octets are the encoding of one value, or are refused once.
use Rattle.std.proofs.Common.{◌≡◌, ℕ, ◌≤◌, List, length, refl, sym, ap, ◌∙◌, subst, inl, inr, arith, Option, Some, None, Ok}
use Rattle.std.proofs.lemmas.List.{take_all}
use Rattle.base_trees.specs.Rose.{Rose}
use Rattle.simple_types.specs.declared.labels.ValueLabel.{ValueLabel}
use Rattle.asn_values.specs.Values.{In}
use Rattle.transcode_words.specs.declared.outcome.Outcome.{Outcome}
use Rattle.transcode_words.specs.declared.outcome.Outcome.TheVariants.{Trailing}
use Rattle.transcode_words.specs.declared.tasks.Syntax.{Syntax}
use Rattle.transcode_words.specs.declared.tasks.Syntax.TheVariants.{Aligned, Unaligned, Der}
use Rattle.transcode_core.specs.Steps.{RootType, IsTypeOf, IsNoEncoding, readable, fault_in, AreNoEncoding, Decoded}
use Rattle.transcode_core.specs.Syntaxes.{Fault, IsEncoding, BeginsWith, HasFault, AreOctetsOf, IsOneOfTwo, AllSyntaxes}
use Rattle.schema_components.specs.Components.{Set}

abbrev pub Whole : Syntax → RootType → List ℕ → Rose ValueLabel → Type 0
Whole syntax type octets v = (length octets ≤ 16777216) × In type.assignments type.number v × IsEncoding syntax type.assignments type.number v octets

readable-whole : (octets : List ℕ) → length octets ≤ 16777216 → readable octets ≡ octets
readable-whole octets few = take_all 16777216 octets few

-- ---- what is decoded of all octets that are left

module _ (type : RootType) where
  pub value_in : (syntax : Syntax) (left : Option (List ℕ)) (v : Rose ValueLabel) → Decoded syntax type left (Ok v) → In type.assignments type.number v
  value_in Aligned None v is = is
  value_in Aligned (Some octets) v is = is.1
  value_in Unaligned None v is = is
  value_in Unaligned (Some octets) v is = is.1
  value_in Der left v (octets, all, is) = is.0

  pub whole_decoded : (syntax : Syntax) (octets : List ℕ) (v : Rose ValueLabel) → Decoded syntax type (Some octets) (Ok v) → Whole syntax type octets v
  whole_decoded Aligned octets v is = is
  whole_decoded Unaligned octets v is = is
  whole_decoded Der octets v (bytes, (all, few), is) = subst (λ xs. Whole Der type xs v) (sym all) (few, is.0, is.1)

  pub decoded_whole : (syntax : Syntax) (octets : List ℕ) (v : Rose ValueLabel) → Whole syntax type octets v → Decoded syntax type (Some octets) (Ok v)
  decoded_whole Aligned octets v is = is
  decoded_whole Unaligned octets v is = is
  decoded_whole Der octets v is = (octets, (refl, is.0), (is.1, is.2))

module _ (laws : AllSyntaxes) (syntax : Syntax) (type : RootType) {s : Set} {n : ℕ} (h : IsTypeOf s n type) (octets : List ℕ) where
  one_of : (xs : List ℕ) → AreOctetsOf syntax xs → IsOneOfTwo syntax type.assignments type.number xs
  one_of xs fine = (laws syntax).one_of_two type.assignments type.number xs h.is_module h.is_bounded h.within fine

  whole_of : (v : Rose ValueLabel) → Whole syntax type octets v → IsOneOfTwo syntax type.assignments type.number octets
  whole_of v p = one_of octets ((laws syntax).octets type.assignments type.number v octets p.1 p.2 p.0)

  pub one_whole : (v w : Rose ValueLabel) → Whole syntax type octets v → Whole syntax type octets w → v ≡ w
  one_whole v w p q = let all = whole_of v p in (all.one_value v w (length octets) (length octets) (all.begins v p.1 p.2) (all.begins w q.1 q.2)).0

  -- octets that are taken as they are needed, of which any are some of the syntax
  module _ (any : (xs : List ℕ) → AreOctetsOf syntax xs) where
    read : IsOneOfTwo syntax type.assignments type.number (readable octets)
    read = one_of (readable octets) (any (readable octets))

    pub whole_or_none : (v : Rose ValueLabel) (o : Outcome) → Whole syntax type octets v → IsNoEncoding syntax type octets o → ⊥
    whole_or_none v o p (inl (fault, has, is)) =
        let all = whole_of v p in
        all.not_both v (length octets) fault (all.begins v p.1 p.2) (subst (λ xs. HasFault syntax type.assignments type.number xs fault) (readable-whole octets p.0) has)
    whole_or_none v o p (inr (w, at, begun, less, is)) =
        let all = whole_of v p in
        let there = subst (λ xs. BeginsWith syntax type.assignments type.number xs w at) (readable-whole octets p.0) begun in
        let same = (all.one_value v w (length octets) at (all.begins v p.1 p.2) there).1 in
        omega (arith, same, less)

    pub one_refusal : (o m : Outcome) → IsNoEncoding syntax type octets o → IsNoEncoding syntax type octets m → o ≡ m
    one_refusal o m (inl (fault, has, is)) (inl (other, also, was)) = is ∙ ap (fault_in octets) (read.one_fault fault other has also) ∙ sym was
    one_refusal o m (inl (fault, has, is)) (inr (w, at, begun, less, was)) = absurd (read.not_both w at fault begun has)
    one_refusal o m (inr (w, at, begun, less, was)) (inl (fault, has, is)) = absurd (read.not_both w at fault begun has)
    one_refusal o m (inr (v, at, begun, less, is)) (inr (w, place, also, fewer, was)) =
        is ∙ ap (λ k. Trailing k) (read.one_value v w at place begun also).1 ∙ sym was

  -- octets that are all there
  pub value_or_none : (v : Rose ValueLabel) (o : Outcome) → Whole syntax type octets v → AreNoEncoding syntax type octets o → ⊥
  value_or_none v o p (fine, inl (fault, has, is)) = let all = one_of octets fine in all.not_both v (length octets) fault (all.begins v p.1 p.2) has
  value_or_none v o p (fine, inr (w, at, begun, less, is)) =
      let all = one_of octets fine in
      let same = (all.one_value v w (length octets) at (all.begins v p.1 p.2) begun).1 in
      omega (arith, same, less)

  pub one_no_encoding : (o m : Outcome) → AreNoEncoding syntax type octets o → AreNoEncoding syntax type octets m → o ≡ m
  one_no_encoding o m (fine, inl (fault, has, is)) (also_fine, inl (other, also, was)) =
      is ∙ ap (λ (f : Fault). f.refusal) ((one_of octets fine).one_fault fault other has also) ∙ sym was
  one_no_encoding o m (fine, inl (fault, has, is)) (also_fine, inr (w, at, begun, less, was)) = absurd ((one_of octets fine).not_both w at fault begun has)
  one_no_encoding o m (fine, inr (w, at, begun, less, was)) (also_fine, inl (fault, has, is)) = absurd ((one_of octets fine).not_both w at fault begun has)
  one_no_encoding o m (fine, inr (v, at, begun, less, is)) (also_fine, inr (w, place, also, fewer, was)) =
      is ∙ ap (λ k. Trailing k) ((one_of octets fine).one_value v w at place begun also).1 ∙ sym was
