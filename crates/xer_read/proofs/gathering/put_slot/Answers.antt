use Rattle.std.proofs.Common.{[], ◌∷◌, false, List, Option, subst}
use Rattle.base_trees.specs.Rose.{Rose}
use Rattle.base_flat_trees.specs.Zips.{added_all}
use Rattle.simple_types.specs.declared.labels.ValueLabel.{ValueLabel}
use Rattle.value_builder.specs.Built.{nothing_of, Stands, Puts, flagged, with_parts}
use Rattle.value_contents.specs.Made.{Child}
use Rattle.validity_check.proofs.Counting.{on-ok}
use Rattle.xer_read.specs.Private.Slots.{flags_of, values_of, AreSlots}
use Rattle.xer_read.proofs.Slots.{none-put, one-put, one-closed}
use Rattle.xer_read.proofs.gathering.put_slot.Goals as goal

pub append-requires-clause-some : goal.append-requires-clause-some
append-requires-clause-some c = let (child, slots) = c.requires.slot in (one-closed c.in-Some.value child (subst (λ o. AreSlots (o ∷ []) (child ∷ [])) c.in-Some.is slots)).0

pub append-requires-clause-closed : goal.append-requires-clause-closed
append-requires-clause-closed c = let (child, slots) = c.requires.slot in (one-closed c.in-Some.value child (subst (λ o. AreSlots (o ∷ []) (child ∷ [])) c.in-Some.is slots)).1

pub returns-in-None : goal.returns-in-None
returns-in-None c =
    on-ok c.part.result (Puts (flagged false) c.args.values.now c.part.new.self)
    ((child : Option Child) → AreSlots (c.args.slot ∷ []) (child ∷ []) → Puts (with_parts (flags_of (child ∷ [])) (values_of (child ∷ []))) c.args.values.now c.part.new.self)
    (λ put child slots. none-put c.args.values.now c.part.new.self put child (subst (λ o. AreSlots (o ∷ []) (child ∷ [])) c.in-None.is slots)) c.part.ensures

pub returns-in_ok-part-in-Some : goal.returns-in_ok-part-in-Some
returns-in_ok-part-in-Some c =
    on-ok c.append.result ((vs : List (Rose ValueLabel)) → Stands c.in-Some.value (added_all vs (nothing_of 0).kept) → Puts (added_all vs) c.part-in-Some.new.self c.append.new.self)
    ((child : Option Child) → AreSlots (c.args.slot ∷ []) (child ∷ []) → Puts (with_parts (flags_of (child ∷ [])) (values_of (child ∷ []))) c.args.values.now c.append.new.self)
    (λ appends child slots.
    one-put c.in-Some.value c.args.values.now c.part-in-Some.new.self c.append.new.self c.in_ok-part-in-Some.ensures appends child (subst (λ o. AreSlots (o ∷ []) (child ∷ [])) c.in-Some.is slots)) c.append.ensures
