use Rattle.std.proofs.Common.{◌≡◌, drop}
use Rattle.schema_read.proofs.Words.{bindings_in, said, extended_among}
use Rattle.schema_read.proofs.reader.Reader.extended_among.Given as goal

-- the first of those that are left
abbrev pub invariant-loop-kid : goal.invariant-loop-kid
invariant-loop-kid l = extended_among (said l.self.setting) (bindings_in l.self.scope.now) (drop l.kid-index l.kids) ≡ extended_among (said l.self.setting) (bindings_in l.self.scope.now) l.kids
