use Rattle.std.proofs.Common.{arith}
use Rattle.module_parse.proofs.Parsing.{is_module, is_front, is_broken, is_sunk}
use Rattle.module_parse.proofs.modules.parse.Goals as goal

pub returns-then-next-bytes : goal.returns-then-next-bytes
returns-then-next-bytes c = is_module c.limit.result c.limit.ensures c.args.bytes.now c.in-Ok.assignments.items c.in-Ok.next c.in-Ok.ensures.value (omega (arith, c.if-next-bytes.true))

pub returns-else-next-bytes : goal.returns-else-next-bytes
returns-else-next-bytes c = is_front c.limit.result c.limit.ensures c.args.bytes.now c.in-Ok.assignments.items c.in-Ok.next c.in-Ok.ensures.value c.if-next-bytes.false

pub returns-in-Err-Fails : goal.returns-in-Err-Fails
returns-in-Err-Fails c = is_broken c.limit.result c.limit.ensures c.args.bytes.now c.in-Err-Fails.far (rw c.in-Err-Fails.field-0-is at c.in-Err-Fails.ensures.value)

pub returns-in-Err-Deep : goal.returns-in-Err-Deep
returns-in-Err-Deep c = is_sunk c.limit.result c.limit.ensures c.args.bytes.now c.in-Err-Deep.at c.in-Err-Deep.field-0-1 (rw c.in-Err-Deep.field-0-is at c.in-Err-Deep.ensures.value)
