-- The line that complaints receive.
use Rattle.std.specs.Prelude.{◌≡◌, ◌⊎◌, ℕ, zero, suc, ◌≤◌, List, [], ◌++◌, codes, decimal}
pub use Rattle.xml_read.specs.Reasons.{reason_name}
pub use Rattle.schema_syntax.specs.Reasons.{schema_reason}
pub use Rattle.simple_facets.specs.Reasons.{facet_reason}
pub use Rattle.link_names.specs.Reasons.{link_reason}
pub use Rattle.validity_rules.specs.Reasons.{invalid_reason}
pub use Rattle.per_fields.specs.Reasons.{per_reason}
pub use Rattle.der_fields.specs.Reasons.{der_reason}
pub use Rattle.module_text.specs.Reasons.{module_reason}
use Rattle.transcode_words.specs.declared.outcome.Outcome.{Outcome}
use Rattle.transcode_words.specs.declared.outcome.Outcome.TheVariants.{Done, Usage, SchemaSyntax, SchemaFault, LinkFault, UnknownRoot, Stamp, DocSyntax, Invalid, PerFault, RecordFault, DerFault, ModuleFault, Trailing, TooLong, TooManyNodes, LoadFault, ReadFault, WriteFault, OutOfMemory}

-- the file of that number, or the input
abbrev pub place : ℕ → List ℕ
place zero = codes "input"
place (suc k) = codes "file " ++ decimal (suc k)

abbrev pub line : Outcome → List ℕ
line Done = []
line Usage = codes "usage: show FILE... | check ROOT FILE... | to-per ROOT FILE... | to-xml ROOT FILE... | trial N | to-per-u ROOT FILE... | to-xml-u ROOT FILE... | to-der ROOT FILE... | from-der ROOT FILE... | show-back FILE | each-to-xml ROOT FILE...\n"
line (SchemaSyntax k at reason) = codes "file " ++ decimal k ++ codes ", byte " ++ decimal at ++ codes ": syntax: " ++ reason_name reason ++ codes "\n"
line (SchemaFault k at reason) = codes "file " ++ decimal k ++ codes ", byte " ++ decimal at ++ codes ": schema: " ++ schema_reason reason ++ codes "\n"
line (LinkFault k at reason) = codes "file " ++ decimal k ++ codes ", byte " ++ decimal at ++ codes ": link: " ++ link_reason reason ++ codes "\n"
line UnknownRoot = codes "unknown root\n"
line Stamp = codes "input: another stamp\n"
line (DocSyntax at reason) = codes "input, byte " ++ decimal at ++ codes ": syntax: " ++ reason_name reason ++ codes "\n"
line (Invalid at reason) = codes "input, byte " ++ decimal at ++ codes ": invalid: " ++ invalid_reason reason ++ codes "\n"
line (PerFault bit reason) = codes "input, bit " ++ decimal bit ++ codes ": per: " ++ per_reason reason ++ codes "\n"
line (RecordFault number bit reason) = codes "record " ++ decimal number ++ codes ", bit " ++ decimal bit ++ codes ": per: " ++ per_reason reason ++ codes "\n"
line (DerFault at reason) = codes "input, byte " ++ decimal at ++ codes ": der: " ++ der_reason reason ++ codes "\n"
line (ModuleFault at reason) = codes "file 1, byte " ++ decimal at ++ codes ": module: " ++ module_reason reason ++ codes "\n"
line (Trailing at) = codes "input, byte " ++ decimal at ++ codes ": trailing\n"
line (TooLong k) = place k ++ codes ": too long\n"
line (TooManyNodes count) = codes "value of " ++ decimal count ++ codes " nodes: too many\n"
line (LoadFault k) = codes "file " ++ decimal k ++ codes ": load failed\n"
line ReadFault = codes "input: read failed\n"
line WriteFault = codes "output: write failed\n"
line OutOfMemory = codes "out of memory\n"

-- a line with this number of bytes is short; that of `Usage` needn't be
abbrev pub IsShort : Outcome → ℕ → Type 0
IsShort o n = (o ≡ Usage) ⊎ (n ≤ 128)
