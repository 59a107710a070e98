use Rattle.xml_read.proofs.notes.Notes.find.Goals as goal

pub returns-then-eq-clause-known : goal.returns-then-eq-clause-known
returns-then-eq-clause-known c = c.in-Some.ensures
