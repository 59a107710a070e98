use Rattle.std.proofs.Common.{rules, ◌≡◌, true, OnOk, length, refl, sym, ◌∙◌, subst}
use Rattle.schema_read.proofs.Words.{bindings_in, said, Parts, Adds, parts_named}
use Rattle.schema_read.proofs.Bases.{not_false}
use Rattle.schema_read.proofs.Adding.{its_parts}
use Rattle.schema_read.proofs.reader.Reader.add.Goals as goal

pub returns : goal.returns
returns c =
    let outer = bindings_in c.args.self.scope.now in
    let before = c.args.globals.now.locals.items in
    let is : c.is_schema_name.result ≡ true = first_of (assumption c.if-not-is_schema_name.false, search (rules, not_false, c.if-not-is_schema_name.false)) in
    let own = c.deref.ensures.value ∙ (rw c.items.ensures at c.in_ok-own.ensures) in
    subst (λ (p : Parts). OnOk c.add_named.result (Adds c.args.globals.now c.add_named.new.globals p))
    (its_parts (said c.args.self.setting) outer (length before) c.args.tree.now c.in-Element.name c.in-Element.attributes c.in-Element.declares c.in-Element.at
    c.as_str.result.now c.deref.result.now c.in-Element.declares (sym c.label.ensures ∙ c.in-Element.is) (sym c.is_schema_name.ensures ∙ is) c.as_str.ensures own refl)
    (subst (λ inside. OnOk c.add_named.result (Adds c.args.globals.now c.add_named.new.globals
    (parts_named (said c.args.self.setting) outer (length before) c.as_str.result.now c.deref.result.now inside c.in-Element.at c.args.tree.now)))
    c.in_ok-inside.ensures c.add_named.ensures)
