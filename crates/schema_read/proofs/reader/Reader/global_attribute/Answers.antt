use Rattle.std.proofs.Common.{sym, ◌∙◌, ap, ◌++◌, Some}
use Rattle.schema_read.proofs.Words.{kids_of, own_attributes, bindings_in, attribute_by, global_attribute}
use Rattle.schema_read.proofs.reader.Reader.global_attribute.Goals as goal

pub returns : goal.returns
returns c =
    let target = c.args.self.setting.target.now in
    let scope = bindings_in c.args.self.scope.now in
    let at = c.in-Element.at in
    let own = c.deref.ensures.value ∙ (rw c.items.ensures at c.in_ok-own.ensures) in
    let made = c.in_ok-found.ensures
    ∙ (ap (λ inside. attribute_by target at inside c.deref.result.now c.kids.result.now) c.in_ok-inside.ensures
    ∙ (ap (λ o. attribute_by target at (c.in-Element.declares ++ scope) o c.kids.result.now) own
    ∙ ap (λ k. attribute_by target at (c.in-Element.declares ++ scope) (own_attributes c.in-Element.attributes) k) c.kids.ensures)) in
    ap (λ a. Some a) made ∙ sym (ap (λ l. global_attribute target scope l (kids_of c.args.tree.now)) (sym c.label.ensures ∙ c.in-Element.is))
