use Rattle.std.proofs.Common.{refl, inl}
use Rattle.schema_faults.specs.Shown.{Shown}
use Rattle.schema_faults.proofs.Found.{found_none, found_one}
use Rattle.transcode_core.proofs.files.read_components.Goals as goal

pub returns-in-Ok : goal.returns-in-Ok
returns-in-Ok c = (tt, found_none c.args.items.now 16777216 c.requires c.in-Ok.ensures.schema, c.in-Ok.ensures.raw)

pub returns-in-Err-Shown : goal.returns-in-Err-Shown
returns-in-Err-Shown c =
    let at = c.in-Err-Shown.at in
    let why = c.in-Err-Shown.why in
    let shown : Shown c.args.items.now at why = rw c.in-Err-Shown.field-0-is at c.in-Err-Shown.ensures.refused in
    inl (inl (record { at = at; why = why }, found_one c.args.items.now 16777216 c.requires at why shown, refl), tt)
