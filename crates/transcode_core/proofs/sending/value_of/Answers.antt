use Rattle.std.proofs.Common.{inl}
use Rattle.transcode_core.proofs.Valuing.{is_in, is_value, is_invalid, is_too_large}
use Rattle.transcode_core.proofs.sending.value_of.Goals as goal

pub returns-in-Ok-clause-due : goal.returns-in-Ok-clause-due
returns-in-Ok-clause-due g c = λ type h.
    is_value c.args.opened.now.set c.args.opened.now.root type h c.args.items.now c.in-Ok.value (c.in-Ok.ensures.read type.assignments h.is_map)

pub returns-in-Ok-clause-kept : goal.returns-in-Ok-clause-kept
returns-in-Ok-clause-kept g c = λ type h.
    is_in c.args.opened.now.set c.args.opened.now.root type h c.args.items.now c.in-Ok.value (c.in-Ok.ensures.read type.assignments h.is_map)

pub returns-in-Err-Invalid-clause-due : goal.returns-in-Err-Invalid-clause-due
returns-in-Err-Invalid-clause-due g c = λ type h.
    let told = rw c.in-Err-Invalid.field-0-is at (c.in-Err-Invalid.ensures.read type.assignments h.is_map) in
    inl (is_invalid c.args.opened.now.set c.args.opened.now.root type h c.args.items.now c.in-Err-Invalid.at c.in-Err-Invalid.why told, tt)

pub returns-in-Err-TooManyNodes-clause-due : goal.returns-in-Err-TooManyNodes-clause-due
returns-in-Err-TooManyNodes-clause-due g c = λ type h.
    let told = rw c.in-Err-TooManyNodes.field-0-is at (c.in-Err-TooManyNodes.ensures.read type.assignments h.is_map) in
    inl (is_too_large c.args.opened.now.set c.args.opened.now.root type h c.args.items.now c.in-Err-TooManyNodes.count told, tt)
