use Rattle.std.proofs.Common.{List, ℕ, sym, subst}
use Rattle.xml_read.specs.Private.Noting.{AllKnown}
use Rattle.xml_read.proofs.Noted.{both_ok, note_on, none_noted}
use Rattle.xml_read.proofs.notes.Notes.note_entered.Goals as goal

pub returns-then-binds : goal.returns-then-binds
returns-then-binds c = both_ok c.keep.result c.keep.ensures.written c.keep.ensures.names (λ e f. λ outer inside names same h k. note_on inside names c.clear.new.self.written.items c.keep.new.self.written.items c.clear.new.self.names.items c.keep.new.self.names.items c.args.written c.args.name (none_noted inside names c.clear.new.self.written.items c.clear.new.self.names.items c.clear.ensures.written c.clear.ensures.names) e f k)

pub returns-then-len-ge-LOOKS : goal.returns-then-len-ge-LOOKS
returns-then-len-ge-LOOKS c = both_ok c.keep-then-len-ge-LOOKS.result c.keep-then-len-ge-LOOKS.ensures.written c.keep-then-len-ge-LOOKS.ensures.names (λ e f. λ outer inside names same h k. note_on inside names c.clear-then-len-ge-LOOKS.new.self.written.items c.keep-then-len-ge-LOOKS.new.self.written.items c.clear-then-len-ge-LOOKS.new.self.names.items c.keep-then-len-ge-LOOKS.new.self.names.items c.args.written c.args.name (none_noted inside names c.clear-then-len-ge-LOOKS.new.self.written.items c.clear-then-len-ge-LOOKS.new.self.names.items c.clear-then-len-ge-LOOKS.ensures.written c.clear-then-len-ge-LOOKS.ensures.names) e f k)

pub returns : goal.returns
returns c = both_ok c.keep-2.result c.keep-2.ensures.written c.keep-2.ensures.names (λ e f. λ outer inside names same h k. note_on inside names c.args.self.now.written.items c.keep-2.new.self.written.items c.args.self.now.names.items c.keep-2.new.self.names.items c.args.written c.args.name
    (subst (λ (o : List (List ℕ × List ℕ)). AllKnown o names c.args.self.now.written.items c.args.self.now.names.items) (sym (same c.if-binds.false)) h) e f k)
