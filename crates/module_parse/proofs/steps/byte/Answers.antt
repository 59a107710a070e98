use Rattle.std.proofs.Common.{◌∙◌, sym, refl, ◌+◌}
use Rattle.module_parse.proofs.Wording.{byte_read, byte_stops, byte_ends}
use Rattle.module_parse.proofs.steps.byte.Goals.{else-from-bytes-via-else-from-bytes, else-from-bytes-via-then-from-bytes+else-has}
use Rattle.module_parse.specs.Classes.{class_test}
use Rattle.module_parse.proofs.steps.byte.Goals as goal

pub returns-then-has-clause-value : goal.returns-then-has-clause-value
returns-then-has-clause-value c = byte_read (class_test c.args.class) c.args.bytes.now c.args.from (c.args.from.at + 1) c.later.result c.if-from-bytes.true (sym c.has.ensures ∙ c.if-has.true) refl c.later.ensures

pub returns-clause-value : goal.returns-clause-value
returns-clause-value c = elim c.else-from-bytes.branch [
  | else-from-bytes-via-then-from-bytes+else-has w ↦ byte_stops (class_test c.args.class) c.args.bytes.now c.args.from c.later-2.result w.if-from-bytes.true (sym w.has.ensures ∙ w.if-has.false) c.later-2.ensures
  | else-from-bytes-via-else-from-bytes w ↦ byte_ends (class_test c.args.class) c.args.bytes.now c.args.from c.later-2.result w.if-from-bytes.false c.later-2.ensures
]
