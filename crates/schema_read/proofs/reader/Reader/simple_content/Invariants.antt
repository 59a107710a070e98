use Rattle.std.proofs.Common.{◌≡◌, drop}
use Rattle.schema_read.proofs.Words.{bindings_in, said, simple_content}
use Rattle.schema_read.proofs.reader.Reader.simple_content.Given as goal

-- the first of those that are left
abbrev pub invariant-loop-kid : goal.invariant-loop-kid
invariant-loop-kid l = simple_content (said l.self.setting) (bindings_in l.self.scope.now) (drop l.kid-index l.kids) ≡ simple_content (said l.self.setting) (bindings_in l.self.scope.now) l.kids
