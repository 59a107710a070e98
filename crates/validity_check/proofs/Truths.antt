-- Truth values as the type of truth values reads them.
use Rattle.std.proofs.Common.{◌≡◌, Option, Some, None, Bool, refl, sym, ◌∙◌, ap}
use Rattle.std.specs.Prelude.{Ok, Err}
use Rattle.base_trees.specs.Rose.{Rose, label_of}
use Rattle.simple_types.specs.declared.labels.ValueLabel.{ValueLabel}
use Rattle.simple_types.specs.declared.labels.ValueLabel.TheVariants as label
use Rattle.simple_types.specs.Reading.{Wide, Bad, leaf, boolean_from}

leaf_is : (c : Bool) (v : Rose ValueLabel) → boolean_from (Some c) ≡ Ok v → leaf (label.Bool c) ≡ v
leaf_is c v e = cc

pub is_true_or_false : (o : Option Bool) (value : Rose ValueLabel) (b : Bool) → boolean_from o ≡ Ok value → label_of value ≡ label.Bool b → o ≡ Some b
is_true_or_false None value b e f = absurd (cc)
is_true_or_false (Some c) value b e f = let g : ◌≡◌ {A = ValueLabel} (label.Bool c) (label.Bool b) = ap label_of (leaf_is c value e) ∙ f in cc

pub is_no_other : (o : Option Bool) (value : Rose ValueLabel) → boolean_from o ≡ Ok value → ((b : Bool) → label_of value ≡ label.Bool b → ⊥) → ⊥
is_no_other None value e f = absurd (cc)
is_no_other (Some c) value e f = f c (sym (ap label_of (leaf_is c value e)))

pub is_bad : (o : Option Bool) → boolean_from o ≡ Err Bad → o ≡ None
is_bad None e = refl
is_bad (Some c) e = absurd (cc)

pub is_not_wide : (o : Option Bool) → boolean_from o ≡ Err Wide → ⊥
is_not_wide None e = cc
is_not_wide (Some c) e = cc
