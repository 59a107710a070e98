use Rattle.std.proofs.Common.{sym}
use Rattle.simple_types.proofs.Spellings.{found_at, missed_at}
use Rattle.asn_values.proofs.Ordering.{set-some, set-none}
use Rattle.asn_values.proofs.orders.is_set.Goals as goal

pub returns-in-Some : goal.returns-in-Some
returns-in-Some c =
    let at = c.in-Some.ensures.lookup in
    sym (set-some c.args.flags.now c.args.i c.in-Some.flag.now (found_at c.args.flags.now c.args.i c.in-Some.flag.now at.0 at.1))

pub returns-in-None : goal.returns-in-None
returns-in-None c = sym (set-none c.args.flags.now c.args.i (missed_at c.args.flags.now c.args.i c.in-None.ensures.lookup.0))
