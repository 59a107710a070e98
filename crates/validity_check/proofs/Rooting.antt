-- The root of a document.
use Rattle.std.proofs.Common.{◌≡◌, ℕ, inl, inr, Some, refl, sym, subst}
use Rattle.std.specs.Prelude.{Result, Ok, Err, MatchResult, slice_get}
use Rattle.base_trees.specs.Rose.{Rose, label_of}
use Rattle.xml_items.specs.Labels.{item_place}
use Rattle.xml_items.specs.declared.label.ItemLabel.{ItemLabel}
use Rattle.schema_components.specs.declared.components.ElementDecl.{ElementDecl}
use Rattle.schema_components.specs.Components.{Set}
use Rattle.schema_components.specs.SetParts.{parts_of}
use Rattle.validity_rules.specs.Asked.{asked_at, name_at}
use Rattle.validity_rules.specs.Valid.{HasName}
use Rattle.validity_rules.specs.Faults.{At, FaultBy, FirstFault}
use Rattle.validity_rules.specs.declared.why.InvalidWhy.TheVariants.{WrongRoot}
use Rattle.validity_check.specs.declared.error.CheckError.{CheckError}
use Rattle.validity_check.specs.declared.error.CheckError.TheVariants.{Invalid, Memory}
use Rattle.validity_check.specs.Answers.{Tells, IsValidBy, IsValid}

module _ (s : Set) (d : ℕ) (e : ElementDecl) (at : slice_get s.elements d ≡ Some e) (t : Rose ItemLabel) where
  named : name_at (parts_of s) d ≡ Some e.name
  named = rw at refl

  pub root_refused : (x : CheckError) → Tells (At (item_place (label_of t)) WrongRoot (HasName (Some e.name) (label_of t) → ⊥)) x → Tells (FirstFault (parts_of s) d t) x
  root_refused (Invalid b why) h = inl (h.0, h.1, subst (λ o. HasName o (label_of t) → ⊥) (sym named) h.2)
  root_refused Memory h = tt

  pub root_judged : {X : Type 0} → HasName (Some e.name) (label_of t) → (r : Result X CheckError)
      → MatchResult r (λ _. IsValidBy s d t) (Tells (FaultBy (asked_at (parts_of s)) d t)) → MatchResult r (λ _. IsValid s d t) (Tells (FirstFault (parts_of s) d t))
  root_judged name (Ok x) h = (h.0, (subst (λ o. HasName o (label_of t)) (sym named) name, h.1))
  root_judged name (Err (Invalid b why)) h = inr (subst (λ o. HasName o (label_of t)) (sym named) name, h)
  root_judged name (Err Memory) h = tt
