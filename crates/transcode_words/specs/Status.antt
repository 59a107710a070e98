-- The exit status of an outcome, and its name.
use Rattle.std.specs.Prelude.{◌≡◌, ◌⊎◌, ℕ, List, ◌++◌, codes}
use Rattle.transcode_words.specs.declared.outcome.Outcome.{Outcome}
use Rattle.transcode_words.specs.declared.outcome.Outcome.TheVariants.{Done, Usage, SchemaSyntax, SchemaFault, LinkFault, UnknownRoot, Stamp, DocSyntax, Invalid, PerFault, RecordFault, DerFault, ModuleFault, Trailing, TooLong, TooManyNodes, LoadFault, ReadFault, WriteFault, OutOfMemory}
use Rattle.transcode_words.specs.Lines as lines

abbrev pub status : Outcome → ℕ
status Done = 0
status Usage = 2
status (SchemaSyntax _ _ _) = 3
status (SchemaFault _ _ _) = 4
status (LinkFault _ _ _) = 5
status UnknownRoot = 6
status Stamp = 9
status (DocSyntax _ _) = 7
status (Invalid _ _) = 8
status (PerFault _ _) = 9
status (Trailing _) = 10
status (TooLong _) = 11
status (TooManyNodes _) = 12
status (DerFault _ _) = 13
status (ModuleFault _ _) = 14
status (RecordFault _ _ _) = 15
status (LoadFault _) = 20
status ReadFault = 21
status WriteFault = 22
status OutOfMemory = 30

-- The name of a reason is that of the fixed program's line, where a facet's reason has a word before it, or else of the outcome.
abbrev pub IsNamed : Outcome → List ℕ → Type 0
IsNamed (SchemaSyntax k at why) name = name ≡ lines.reason_name why
IsNamed (SchemaFault k at why) name = name ≡ lines.schema_reason why
IsNamed (LinkFault k at why) name = (lines.link_reason why ≡ name) ⊎ (lines.link_reason why ≡ codes "Facet " ++ name)
IsNamed (DocSyntax at why) name = name ≡ lines.reason_name why
IsNamed (Invalid at why) name = name ≡ lines.invalid_reason why
IsNamed (PerFault bit why) name = name ≡ lines.per_reason why
IsNamed (RecordFault number bit why) name = name ≡ lines.per_reason why
IsNamed (DerFault at why) name = name ≡ lines.der_reason why
IsNamed (ModuleFault at why) name = name ≡ lines.module_reason why
IsNamed Done name = name ≡ codes "Done"
IsNamed Usage name = name ≡ codes "Usage"
IsNamed UnknownRoot name = name ≡ codes "UnknownRoot"
IsNamed Stamp name = name ≡ codes "Stamp"
IsNamed (Trailing at) name = name ≡ codes "Trailing"
IsNamed (TooLong k) name = name ≡ codes "TooLong"
IsNamed (TooManyNodes count) name = name ≡ codes "TooManyNodes"
IsNamed (LoadFault k) name = name ≡ codes "LoadFault"
IsNamed ReadFault name = name ≡ codes "ReadFault"
IsNamed WriteFault name = name ≡ codes "WriteFault"
IsNamed OutOfMemory name = name ≡ codes "OutOfMemory"
