-- Default and fixed values in a module.
use Rattle.std.proofs.Common.{◌≡◌, ℕ, zero, suc, true, Option, Some, List, [], ◌∷◌, All, sym, subst}
use Rattle.std.specs.Prelude.{slice_get}
use Rattle.std.proofs.lemmas.List.Elements.{All-head, All-tail}
use Rattle.base_trees.specs.Rose.{Rose, node, label_of, kids_of, roses_of}
use Rattle.base_trees.proofs.Roses.{roses_of-list_of}
use Rattle.simple_types.specs.declared.labels.ValueLabel.{ValueLabel}
use Rattle.simple_types.specs.declared.standards.Standard.{Standard}
use Rattle.simple_types.specs.declared.standards.Standard.TheVariants.{Free}
use Rattle.asn_types.specs.declared.modules.Assignment.{Assignment}
use Rattle.asn_types.specs.declared.types.Component.{Component}
use Rattle.asn_types.specs.declared.types.Form.TheVariants as form
use Rattle.asn_types.specs.declared.types.TypeLabel.{TypeLabel}
use Rattle.asn_types.specs.Marks.{has_use_order}
use Rattle.asn_types.specs.Modules.{AreWellFormed, HasStandards, HasOrderPart}
use Rattle.asn_values.specs.Values.{Kept}

module _ (M : List Assignment) where
  abbrev KeptBy : Standard → Component → Rose TypeLabel → Rose ValueLabel → Type 0
  KeptBy standard part t v = Kept M (record { identifier = part.identifier; optional = part.optional; standard = standard; marks = part.marks }) t v

  -- each value may stand where there is no default or fixed value
  pub free-kept : (part : Component) (t : Rose TypeLabel) (v : Rose ValueLabel) → part.standard ≡ Free → Kept M part t v
  free-kept part t v free = subst (λ s. KeptBy s part t v) (sym free) tt

  all-free : (parts : List Component) (i : ℕ) (part : Component) → All (λ (p : Component). p.standard ≡ Free) parts → slice_get parts i ≡ Some part → part.standard ≡ Free
  all-free [] i part h got = absurd cc
  all-free (p ∷ ps) zero part h got = let same : p ≡ part = cc in subst (λ (q : Component). q.standard ≡ Free) same (All-head (λ (q : Component). q.standard ≡ Free) p ps h)
  all-free (p ∷ ps) (suc i) part h got = all-free ps i part (All-tail (λ (q : Component). q.standard ≡ Free) p ps h) got

  -- the alternatives of a CHOICE have none,
  pub choice-free : (t : Rose TypeLabel) (parts : List Component) (i : ℕ) (part : Component) → AreWellFormed M t → (label_of t).form ≡ form.Choice parts → slice_get parts i ≡ Some part
      → part.standard ≡ Free
  choice-free (node l ts) parts i part h is got = all-free parts i part (subst (λ f. HasStandards M f ts) is h.0.standards) got

  -- and neither has the item of a SEQUENCE OF
  pub item-free : (t : Rose TypeLabel) (part : Component) (least : ℕ) (most : Option ℕ) → AreWellFormed M t → (label_of t).form ≡ form.SequenceOf part least most → part.standard ≡ Free
  item-free (node l ts) part least most h is = subst (λ f. HasStandards M f ts) is h.0.standards

  -- what a USE-ORDER type has
  pub has-order_part : (t : Rose TypeLabel) → AreWellFormed M t → has_use_order (label_of t).marks ≡ true → HasOrderPart M (label_of t) (roses_of (kids_of t))
  has-order_part (node l ts) h marked = subst (HasOrderPart M l) (sym (roses_of-list_of ts)) (h.0.use_order marked)
