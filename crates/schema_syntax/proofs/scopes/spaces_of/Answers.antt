use Rattle.std.proofs.Common.{arith}
use Rattle.schema_syntax.proofs.Found.{one_binding}
use Rattle.schema_syntax.proofs.scopes.spaces_of.Goals as goal

pub last_first-preserved : goal.last_first-preserved
last_first-preserved c =
    let within = c.last_first.invariant.0 in
    let above = c.last_first-test.true in (
      omega (arith, within, above),
      one_binding c.args.bindings.now c.last_first.i c.index-bindings-i.result c.last_first.spaces c.insert.new.self c.bytes.result c.as_str.result above within
          c.index-bindings-i.is c.bytes.ensures.bytes c.as_str.ensures c.last_first.invariant.1 c.in_ok-insert.ensures.updates,
    )
