use Rattle.std.proofs.Common.{List, ℕ, sym, subst}
use Rattle.xml_read.specs.Private.Noting.{AllKnown}
use Rattle.xml_read.proofs.Noted.{none_noted}
use Rattle.xml_read.proofs.notes.Notes.note_left.Goals as goal

pub returns-then-count-eq0 : goal.returns-then-count-eq0
returns-then-count-eq0 c = λ inside outer names same h. subst (λ (o : List (List ℕ × List ℕ)). AllKnown o names c.args.self.now.written.items c.args.self.now.names.items) (sym (same c.if-count-eq0.true)) h

pub returns : goal.returns
returns c = λ inside outer names same h. none_noted outer names c.clear.new.self.written.items c.clear.new.self.names.items c.clear.ensures.written c.clear.ensures.names
