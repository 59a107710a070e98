-- What the parts of a line spell.
use Rattle.std.specs.Prelude.{ℕ, List, [], ◌++◌, decimal, Option, Some, None}
use Rattle.transcode_words.specs.declared.lines.Parts.{Parts}

-- the digits of a number that is there
abbrev pub digits : Option ℕ → List ℕ
digits None = []
digits (Some n) = decimal n

abbrev pub spelled : Parts → List ℕ
spelled p = p.head.now ++ digits p.file ++ p.middle.now ++ digits p.at ++ p.tail.now ++ p.reason.now ++ p.end.now
