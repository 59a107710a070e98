use Rattle.std.proofs.Common.{map, subst}
use Rattle.base_trees.specs.Rose.{roses_of}
use Rattle.base_flat_trees.specs.Zips.{opened}
use Rattle.schema_components.specs.SetParts.{parts_of}
use Rattle.validity_rules.specs.Asked.{attribute_in}
use Rattle.validity_rules.specs.Attributes.{left}
use Rattle.validity_check.specs.Told.{told}
use Rattle.validity_check.proofs.Counting.{on-ok}
use Rattle.value_builder.specs.Built.{Puts}
use Rattle.xer_read.specs.Private.Keeping.{strings_put}
use Rattle.xer_read.specs.Private.Contents.{AttributesMade, Begins}
use Rattle.xer_read.specs.Private.Putting.{PartsPut}
use Rattle.xer_read.proofs.Putting.{begins-put}
use Rattle.xer_read.proofs.complex.begin_complex.Goals as goal

pub returns : goal.returns
returns c =
    let a = told (parts_of c.args.element.now.set.now) c.args.element.now.declared in
    let xs = c.args.element.now.attributes.now in
    let texts = strings_put c.args.nil (roses_of c.args.element.now.parent.kids) in
    let numbers = c.args.numbers.now in
    let old = c.args.values.now in
    let new = c.put_attributes.new.values in
    on-ok c.put_attributes.result (PartsPut (AttributesMade (map (attribute_in (parts_of c.args.element.now.set.now)) c.args.element.now.declared.uses.list.now) (left xs)) c.put_order.new.values new) (Begins a xs texts numbers old new)
    (begins-put a xs texts numbers old c.open.new.self c.put_texts.new.values c.put_order.new.values new (subst (λ l. Puts (opened l) old c.open.new.self) c.no_components.ensures c.in_ok-open.ensures) c.in_ok-put_texts.ensures
    c.in_ok-put_order.ensures)
    c.put_attributes.ensures
