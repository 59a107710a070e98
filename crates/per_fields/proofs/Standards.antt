-- The tests of default and fixed values are what they are tests of.
use Rattle.std.proofs.Common.{◌≡◌, ℕ, Bool, true, not, ◌&&◌, List, sym, ap, Option, Some, None}
use Rattle.std.proofs.lemmas.Bool.{and_parts, and_from}
use Rattle.std.proofs.lemmas.Slice.Eq.{bytes_eq-Decides}
use Rattle.base_trees.specs.Rose.{Rose}
use Rattle.simple_types.specs.declared.labels.ValueLabel.{ValueLabel}
use Rattle.simple_types.specs.declared.standards.Standard.{Standard}
use Rattle.simple_types.specs.declared.standards.Standard.TheVariants.{Free, Default, Fixed}
use Rattle.asn_types.specs.declared.modules.Assignment.{Assignment}
use Rattle.asn_types.specs.Spaces.{spelling}
use Rattle.asn_values.specs.Values.{ComponentPlace, Kept}
use Rattle.base_codecs.proofs.Steps.{Iff, lacking, no_fact}
use Rattle.per_fields.specs.Owning.{is_standard_by, is_standard, keeps}
use Rattle.per_fields.proofs.Owns.{keeps_kept, kept_keeps}

some_is : {A : Type 0} (x y : A) → Some x ≡ Some y → x ≡ y
some_is x y e = cc

-- the spelling that a standard asks for
abbrev pub text_of : Standard → Option (List ℕ)
text_of s = elim s [ Free ↦ None | Default text ↦ Some text | Fixed text ↦ Some text ]

standard_told : (spelled : List ℕ) (s : Standard) → Iff (is_standard_by spelled s ≡ true) (text_of s ≡ Some spelled)
standard_told spelled Free = (λ e. absurd cc, λ e. absurd cc)
standard_told spelled (Default text) = (λ e. ap Some (sym ((bytes_eq-Decides spelled text).0 e)), λ e. (bytes_eq-Decides spelled text).1 (sym (some_is text spelled e)))
standard_told spelled (Fixed text) = (λ e. ap Some (sym ((bytes_eq-Decides spelled text).0 e)), λ e. (bytes_eq-Decides spelled text).1 (sym (some_is text spelled e)))

module _ (M : List Assignment) (p : ComponentPlace) where
  abbrev pub is_default : Rose ValueLabel → Bool
  is_default v = p.part.optional && is_standard M p.part p.type v

  pub default_told : (v : Rose ValueLabel) → Iff (is_default v ≡ true) ((text_of p.part.standard ≡ Some (spelling M p.type v)) × (p.part.optional ≡ true))
  default_told v =
      let s = standard_told (spelling M p.type v) p.part.standard in (
        λ e. let k = and_parts p.part.optional (is_standard M p.part p.type v) e in (s.0 k.1, k.0),
        λ h. and_from p.part.optional (is_standard M p.part p.type v) h.1 (s.1 h.0),
      )

  pub unkept : (v : Rose ValueLabel) → Iff (not (keeps M p.part p.type v) ≡ true) (Kept M p.part p.type v → ⊥)
  unkept v =
      let n = no_fact (keeps M p.part p.type v) in
      let l = lacking (keeps M p.part p.type v) (Kept M p.part p.type v) (λ e. keeps_kept M p.part p.type v e, λ h. kept_keeps M p.part p.type v h) in
      (λ e. l.0 (n.0 e), λ h. n.1 (l.1 h))
