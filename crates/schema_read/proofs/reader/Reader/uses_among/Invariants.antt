use Rattle.std.proofs.Common.{◌≡◌, ◌++◌, drop}
use Rattle.schema_read.proofs.Words.{uses_in, bindings_in, uses_among}
use Rattle.schema_read.proofs.reader.Reader.uses_among.Given as goal

-- those so far and those of the rest are all
abbrev pub invariant-loop-kid : goal.invariant-loop-kid
invariant-loop-kid l =
    uses_in l.uses.items ++ uses_among l.self.setting.target.now l.self.setting.attributes_qualified (bindings_in l.self.scope.now) (drop l.kid-index l.kids)
    ≡ uses_among l.self.setting.target.now l.self.setting.attributes_qualified (bindings_in l.self.scope.now) l.kids
