use Rattle.schema_components.specs.SetParts.{parts_of}
use Rattle.validity_check.specs.Told.{told}
use Rattle.xer_read.proofs.Whole.{nil-put}
use Rattle.xer_read.proofs.complex.put_nil.Goals as goal

pub returns : goal.returns
returns c =
    nil-put (told (parts_of c.args.element.now.set.now) c.args.element.now.declared) c.args.element.now.attributes.now c.args.values.now c.begin_complex.new.values c.part.new.self c.close.new.self c.in_ok-begin_complex.ensures c.in_ok-part.ensures c.close.ensures
