use Rattle.std.proofs.Common.{◌∙◌, sym, ap, bytes_eq}
use Rattle.std.specs.Map.{lookup}
use Rattle.xml_write.proofs.Entries.{indexed-push, no-entry}
use Rattle.xml_write.proofs.prefixes.Prefixes.bind.Goals as goal

pub invariant_of-self-in-Ok : goal.invariant_of-self-in-Ok
invariant_of-self-in-Ok c =
    let absent = ap (lookup (bytes_eq c.args.space.now)) c.self.view_is ∙ no-entry c.args.self.now c.args.space.now (sym c.is_bound.ensures ∙ c.if-is_bound.false) in
    indexed-push c.self.inside.found.items c.push.new.self.items c.self.inside.by_space c.insert.new.self c.self.inside.last (c.args.space, c.next-prefix.result) c.self.invariant absent c.in_ok-push.ensures.items c.in-Ok.ensures.updates
