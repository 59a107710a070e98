use Rattle.std.proofs.Common.{◌∙◌, ap, subst}
use Rattle.schema_components.specs.SetParts.{parts_of}
use Rattle.validity_rules.specs.Faults.{FirstFault}
use Rattle.validity_check.specs.Answers.{Tells}
use Rattle.value_builder.specs.Built.{Built, nothing_of}
use Rattle.xer_read.proofs.Finishing.{starts}
use Rattle.xer_read.proofs.Valuing.{value-allowed, of-counted, only-counted}
use Rattle.xer_read.proofs.reading.read_value.Goals as goal

pub walk_root-judged-requires-clause-stands : goal.walk_root-judged-requires-clause-stands
walk_root-judged-requires-clause-stands g c = ((nothing_of 0).kept, starts 1048576 c.room_for-values.result c.room_for-values.ensures)

pub finished-requires-clause-limit : goal.finished-requires-clause-limit
finished-requires-clause-limit g c = c.in-Ok.ensures.limit ∙ ap (λ (b : Built). b.most) c.room_for-values.ensures

pub finished-requires-clause-made : goal.finished-requires-clause-made
finished-requires-clause-made g c =
    let h = c.in-Ok.ensures.judged (nothing_of 0).kept (starts 1048576 c.room_for-values.result c.room_for-values.ensures) in
    (h.value, h.stands, value-allowed c.args.set.now c.in-Ok.ensures.linked c.args.root c.requires.root c.args.items.now h.value h.holds)

pub returns-clause-read : goal.returns-clause-read
returns-clause-read g c = λ M is_map.
    let h = c.in-Ok.ensures.judged (nothing_of 0).kept (starts 1048576 c.room_for-values.result c.room_for-values.ensures) in
    of-counted c.args.set.now c.in-Ok.ensures.linked c.args.root c.requires.root c.args.items.now h.value h.holds M is_map c.finished.result (FirstFault (parts_of c.args.set.now) c.args.root c.args.items.now)
    (c.finished.ensures h.value h.stands)

pub returns-clause-alone : goal.returns-clause-alone
returns-clause-alone g c = λ M is_map.
    let h = c.in-Ok.ensures.judged (nothing_of 0).kept (starts 1048576 c.room_for-values.result c.room_for-values.ensures) in
    only-counted c.args.set.now c.in-Ok.ensures.linked c.args.root c.requires.root c.args.items.now h.value h.holds c.in-Ok.ensures.small M is_map c.finished.result (c.finished.ensures h.value h.stands)

pub returns-in-Err-Invalid-clause-read : goal.returns-in-Err-Invalid-clause-read
returns-in-Err-Invalid-clause-read g c = λ M is_map.
    let refused : Tells (FirstFault (parts_of c.args.set.now) c.args.root c.args.items.now) c.in-Err-Invalid.field-0 =
    rw c.in-Err-Invalid.is at (c.walk_root-judged.ensures.judged (nothing_of 0).kept (starts 1048576 c.room_for-values.result c.room_for-values.ensures)) in
    subst (λ e. Tells (FirstFault (parts_of c.args.set.now) c.args.root c.args.items.now) e) (rw c.in-Err-Invalid.is at c.in-Err-Invalid.field-0-is) refused
