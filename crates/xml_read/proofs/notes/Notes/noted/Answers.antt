use Rattle.std.proofs.Common.{◌≡◌, ◌<◌, ◌∙◌, length, ap, sym, refl, rules}
use Rattle.std.specs.Prelude.{Some, slice_get}
use Rattle.std.proofs.lemmas.Option.{slice_get_read}
use Rattle.xml_read.proofs.Noted.{noted_at}
use Rattle.xml_read.proofs.notes.Notes.noted.Goals as goal

pub returns : goal.returns
returns c = λ inside names h.
    let k = c.args.number in
    let w = c.in_ok-written.field-0.now in
    let n = c.in_ok-name.field-0.now in
    let in_written : k < length c.deref.result.now = search rules in
    let in_names : k < length c.deref-2.result.now = search rules in
    let written_is : slice_get c.deref.result.now k ≡ Some w = slice_get_read c.deref.result.now (length c.deref.result.now) k w refl in_written c.in_ok-written.ensures.lookup.1 in
    let name_is : slice_get c.deref-2.result.now k ≡ Some n = slice_get_read c.deref-2.result.now (length c.deref-2.result.now) k n refl in_names c.in_ok-name.ensures.lookup.1 in
    noted_at inside names c.args.self.now.written.items c.args.self.now.names.items k w n h (ap (λ xs. slice_get xs k) (sym c.deref.ensures.value) ∙ written_is) (ap (λ xs. slice_get xs k) (sym c.deref-2.ensures.value) ∙ name_is)
