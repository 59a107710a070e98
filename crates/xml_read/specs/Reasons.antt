-- The names of reasons.
use Rattle.std.specs.Prelude.{ℕ, List, codes}
use Rattle.xml_read.specs.declared.error.DocWhy.{DocWhy}
use Rattle.xml_read.specs.declared.error.DocWhy.TheVariants as why

-- the name of a reason against a text
abbrev pub reason_name : DocWhy → List ℕ
reason_name why.NotUtf8 = codes "NotUtf8"
reason_name why.Doctype = codes "Doctype"
reason_name why.Version = codes "Version"
reason_name why.Encoding = codes "Encoding"
reason_name why.BadReference = codes "BadReference"
reason_name why.NoPiece = codes "NoPiece"
reason_name why.BadName = codes "BadName"
reason_name why.LongName = codes "LongName"
reason_name why.ReservedPrefix = codes "ReservedPrefix"
reason_name why.UnboundPrefix = codes "UnboundPrefix"
reason_name why.DuplicateAttribute = codes "DuplicateAttribute"
reason_name why.ExtraRoot = codes "ExtraRoot"
reason_name why.TooDeep = codes "TooDeep"
reason_name why.WrongEnd = codes "WrongEnd"
reason_name why.TextOutside = codes "TextOutside"
reason_name why.Unfinished = codes "Unfinished"
