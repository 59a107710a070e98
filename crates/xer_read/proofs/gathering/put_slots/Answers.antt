use Rattle.std.proofs.Common.{◌≡◌, ◌++◌, ◌∷◌, [], refl, sym, ◌∙◌, ap, subst, append_assoc, append-nil}
use Rattle.std.specs.Vec.Iter.{into_iter_items}
use Rattle.xer_read.specs.Private.Slots.{AreSlots, AllFit}
use Rattle.xer_read.proofs.Slots.{all-put, slot-put, slot-next, fit-next, none-long}
use Rattle.xer_read.proofs.gathering.put_slots.Goals as goal

pub slots-init : goal.slots-init
slots-init c = record { all = refl; puts = λ us h. all-put c.args.values.now us h }

pub put_slot-requires-clause-slot : goal.put_slot-requires-clause-slot
put_slot-requires-clause-slot c =
    let (children, slots) = c.requires.slots in
    let steps : into_iter_items c.slots.slot-iterator ≡ c.in-Some.slot ∷ into_iter_items c.next.new.self = c.in-Some.ensures.steps.0 in
    let all = ap (λ z. c.slots.yielded ++ z) (sym steps) ∙ c.slots.invariant.all ∙ c.into_iter-slot-iterator.ensures.into_iter_gives.0 in
    slot-next c.slots.yielded c.in-Some.slot (into_iter_items c.next.new.self) children (subst (λ bs. AreSlots bs children) (sym all) slots)

pub put_slot-requires-clause-fit : goal.put_slot-requires-clause-fit
put_slot-requires-clause-fit c =
    let steps : into_iter_items c.slots.slot-iterator ≡ c.in-Some.slot ∷ into_iter_items c.next.new.self = c.in-Some.ensures.steps.0 in
    let all = ap (λ z. c.slots.yielded ++ z) (sym steps) ∙ c.slots.invariant.all ∙ c.into_iter-slot-iterator.ensures.into_iter_gives.0 in
    fit-next c.slots.yielded c.in-Some.slot (into_iter_items c.next.new.self) (subst AllFit (sym all) c.requires.fit)

pub slots-preserved : goal.slots-preserved
slots-preserved c =
    let slot = c.in-Some.slot in
    let steps : into_iter_items c.slots.slot-iterator ≡ slot ∷ into_iter_items c.next.new.self = c.in-Some.ensures.steps.0 in
    record {
      all = append_assoc c.slots.yielded (slot ∷ []) (into_iter_items c.next.new.self) ∙ ap (λ z. c.slots.yielded ++ z) (sym steps) ∙ c.slots.invariant.all;
      puts = slot-put c.slots.yielded slot c.args.values.now c.slots.values c.put_slot.new.values c.slots.invariant.puts c.in_ok-put_slot.ensures;
    }

pub returns : goal.returns
returns c = λ children slots.
    let empty : into_iter_items c.slots.slot-iterator ≡ [] = none-long (into_iter_items c.slots.slot-iterator) (sym c.slots.slot-iterator.rest.ok.0 ∙ c.in-None.ensures.steps.0) in
    let all = sym (append-nil c.slots.yielded) ∙ ap (λ z. c.slots.yielded ++ z) (sym empty) ∙ c.slots.invariant.all ∙ c.into_iter-slot-iterator.ensures.into_iter_gives.0 in
    c.slots.invariant.puts children (subst (λ bs. AreSlots bs children) (sym all) slots)
