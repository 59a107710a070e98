use Rattle.std.proofs.Common.{◌≡◌, ◌<◌, length, ap, sym, ◌∙◌, refl, rules}
use Rattle.std.specs.Prelude.{Some, slice_get}
use Rattle.std.proofs.lemmas.Option.{slice_get_read}
use Rattle.base_texts.proofs.NameLaws.{name_eq-Decides}
use Rattle.xml_items.proofs.store.Store.find_name.Goals as goal

pub returns-then-eq : goal.returns-then-eq
returns-then-eq c =
    let k = c.in_ok-number.field-0.now in
    let x = c.in_ok-known.known.now in
    let within : k < length c.deref.result.now = search rules in
    let same : x ≡ c.args.name.now = (name_eq-Decides x c.args.name.now).0 (sym c.eq.ensures ∙ c.if-eq.true) in
    let got : slice_get c.deref.result.now k ≡ Some x = slice_get_read c.deref.result.now (length c.deref.result.now) k x refl within c.in_ok-known.ensures.lookup.1 in
    ap (λ xs. slice_get xs k) (sym c.deref.ensures.value) ∙ got ∙ ap Some same
