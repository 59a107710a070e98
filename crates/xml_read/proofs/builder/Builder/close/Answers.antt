use Rattle.std.proofs.Common.{◌≡◌, reverse, subst, sym, rules, refl}
use Rattle.xml_read.specs.Private.Noting.{AllKnown}
use Rattle.xml_read.proofs.Noted.{left_same}
use Rattle.xml_read.proofs.Built.{shuts}
use Rattle.xml_read.proofs.builder.Builder.close.Goals as goal

pub returns : goal.returns
returns c =
    let old = c.args.self.now in
    let count = c.innermost_bindings-count.result in
    let names : c.close.new.self.names ≡ old.items.names = search rules in
    let noted = c.note_left.ensures (reverse old.scope) (reverse c.leave.new.self) c.close.new.self.names (left_same old.scope c.leave.new.self count c.leave.ensures) (subst (λ ns. AllKnown (reverse old.scope) ns old.notes.written.items old.notes.names.items) (sym names) c.requires.scoped.noted) in
    shuts old _ count c.requires.scoped c.requires.text c.requires.inside (search rules) c.leave.ensures c.innermost_bindings-count.ensures c.close.ensures.zip refl refl (search rules) refl refl noted
