use Rattle.std.proofs.Common.{rules, length}
use Rattle.xml_pieces.proofs.InScope.{entered}
use Rattle.xml_pieces.proofs.scope.BindingsInScope.push.Goals as goal

pub invariant_of-self-in-Ok : goal.invariant_of-self-in-Ok
invariant_of-self-in-Ok c = entered c.self.inside.bindings.items c.push.new.self.items c.self.inside.innermost c.insert.new.self _ (length c.as_slice-place.result.now) c.self.invariant c.in_ok-push.ensures.items (search rules) (search rules) c.in-Ok.ensures.updates
