use Rattle.schema_read.proofs.Words.{bindings_in, said, parts_among}
use Rattle.std.proofs.Common.{drop, length}
use Rattle.schema_read.proofs.Adding.{PartsAhead}
use Rattle.schema_read.proofs.reader.Reader.globals_among.Given as goal

-- those so far and those of the rest are all
abbrev pub invariant-loop-kid : goal.invariant-loop-kid
invariant-loop-kid l =
    PartsAhead l.globals (parts_among (said l.self.setting) (bindings_in l.self.scope.now) (length l.globals.locals.items) (drop l.kid-index l.kids))
    (parts_among (said l.self.setting) (bindings_in l.self.scope.now) 0 l.kids)
