-- What reading a document's value answers is what is due of it.
use Rattle.std.proofs.Common.{◌≡◌, ℕ, ◌≤◌, refl, sym, ap, subst, inl, inr, Some, Ok, Err}
use Rattle.base_trees.specs.Rose.{Rose, node_count}
use Rattle.simple_types.specs.declared.labels.ValueLabel.{ValueLabel}
use Rattle.xml_items.specs.declared.label.ItemLabel.{ItemLabel}
use Rattle.schema_components.specs.Components.{Set}
use Rattle.schema_components.specs.SetParts.{parts_of}
use Rattle.validity_rules.specs.declared.why.InvalidWhy.{InvalidWhy}
use Rattle.validity_rules.specs.Faults.{FirstFault}
use Rattle.asn_values.specs.Values.{Fits, In}
use Rattle.xer_items.specs.Items.{Xer}
use Rattle.map_assignments.specs.Mapped.{root_at}
use Rattle.xer_read.specs.Answers.{IsValueOf, IsTooLarge}
use Rattle.transcode_words.specs.declared.outcome.Outcome.TheVariants.{Invalid, TooManyNodes}
use Rattle.transcode_core.specs.Steps.{RootType, IsTypeOf, AreLinked, ValueIn}

module _ (s : Set) (n : ℕ) (type : RootType) (h : IsTypeOf s n type) where
  linked : AreLinked (parts_of s)
  linked = (s, h.linked, refl)

  -- the type of the root in the map is that of the call
  fits : (v : Rose ValueLabel) → Fits type.assignments (root_at s type.assignments h.is_map n) v → Fits type.assignments type.number v
  fits v = subst (λ t. Fits type.assignments t v) (sym h.number_is)

  pub is_in : (items : Rose ItemLabel) (v : Rose ValueLabel) → IsValueOf s n items type.assignments (root_at s type.assignments h.is_map n) v × (node_count v ≤ 1048576)
      → In type.assignments type.number v
  is_in items v ((b, valid, fit, is), few) = (fits v fit, few)

  pub is_value : (items : Rose ItemLabel) (v : Rose ValueLabel) → IsValueOf s n items type.assignments (root_at s type.assignments h.is_map n) v × (node_count v ≤ 1048576)
      → ValueIn (parts_of s, n) type items (Ok v)
  is_value items v ((b, valid, fit, is), few) =
      (b, (linked, valid), ((fits v fit, few), subst (λ t. Xer type.assignments t v ≡ Some b) (sym h.number_is) is))

  pub is_invalid : (items : Rose ItemLabel) (at : ℕ) (why : InvalidWhy) → FirstFault (parts_of s) n items at why → ValueIn (parts_of s, n) type items (Err (Invalid at why))
  is_invalid items at why fault = inl (linked, (at, why, fault, refl))

  pub is_too_large : (items : Rose ItemLabel) (count : ℕ) → IsTooLarge s n items type.assignments (root_at s type.assignments h.is_map n) count
      → ValueIn (parts_of s, n) type items (Err (TooManyNodes count))
  is_too_large items count (v, (b, valid, fit, is), many, counted) =
      inr (b, (linked, valid), (v, fits v fit, subst (λ t. Xer type.assignments t v ≡ Some b) (sym h.number_is) is, many, ap (λ k. TooManyNodes k) counted))
