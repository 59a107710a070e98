use Rattle.std.proofs.Common.{rules, refl, Some, sym, ◌∙◌, ◌≡◌, length, reverse, None}
use Rattle.xml_pieces.proofs.InScope.{left, there, place_in}
use Rattle.xml_pieces.proofs.scope.BindingsInScope.pop.Goals as goal

pub invariant_of-self-in-Some-get_mut : goal.invariant_of-self-in-Some-get_mut
invariant_of-self-in-Some-get_mut c =
    left c.pop.new.self.items c.self.inside.bindings.items c.self.inside.innermost (c.get_mut.follows.lender c.in-Some-hidden.place) c.in-Some.field-0 c.in-Some.field-0.prefix (Some c.in-Some-hidden.place)
    c.self.invariant c.in-Some.ensures.items refl (search rules) ((c.get_mut.follows.holds c.in-Some-hidden.place).3 (search rules))

pub invariant_of-self-in_default-get_mut : goal.invariant_of-self-in_default-get_mut
invariant_of-self-in_default-get_mut c =
    let is : place_in c.self.inside.innermost c.in-Some.field-0.prefix.now ≡ Some (length (reverse c.pop.new.self.items)) = there c.pop.new.self.items c.self.inside.bindings.items c.self.inside.innermost c.self.inside.innermost c.in-Some.field-0 c.in-Some.field-0.prefix c.in-Some.hidden c.self.invariant c.in-Some.ensures.items refl in
    let none : place_in c.self.inside.innermost c.in-Some.field-0.prefix.now ≡ None = search rules in
    absurd (let clash : None ≡ Some (length (reverse c.pop.new.self.items)) = sym none ∙ is in cc)

pub invariant_of-self-in-None : goal.invariant_of-self-in-None
invariant_of-self-in-None c =
    left c.pop.new.self.items c.self.inside.bindings.items c.self.inside.innermost c.remove.new.self c.in-Some.field-0 c.in-Some.field-0.prefix None
    c.self.invariant c.in-Some.ensures.items refl (search rules) c.remove.ensures.updates
