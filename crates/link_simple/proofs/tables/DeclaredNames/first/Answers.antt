use Rattle.std.proofs.Common.{arith, Some, sym, ap, ◌∙◌}
use Rattle.link_simple.specs.Found.{one_at}
use Rattle.link_simple.proofs.Declaring.{read_at, number_listed}
use Rattle.link_simple.proofs.tables.DeclaredNames.first.Goals as goal

pub bounds-declared-n : goal.bounds-declared-n
bounds-declared-n c =
    let names = c.args.self.now in
    number_listed names.declared.items c.as_slice-declared.result.now names.named names.within c.as_slice-declared.ensures.value c.args.name.now c.in-Some.n
    (sym c.number_named.ensures ∙ c.in-Some.is)

pub offset_bounds-declared-n : goal.offset_bounds-declared-n
offset_bounds-declared-n c =
    let names = c.args.self.now in
    let within =
    number_listed names.declared.items c.as_slice-declared.result.now names.named names.within c.as_slice-declared.ensures.value c.args.name.now c.in-Some.n
    (sym c.number_named.ensures ∙ c.in-Some.is) in
    omega (arith, within)

pub returns-in-Some : goal.returns-in-Some
returns-in-Some c =
    let names = c.args.self.now in
    let n = c.in-Some.n in
    let listed = c.as_slice-declared.result.now in
    let same = c.as_slice-declared.ensures.value in
    let known = sym c.number_named.ensures ∙ c.in-Some.is in
    read_at listed n c.index-declared-n.result (number_listed names.declared.items listed names.named names.within same c.args.name.now n known) c.index-declared-n.is
    ∙ ap (λ ds. one_at ds (Some n)) same ∙ sym (ap (one_at names.declared.items) known)
