use Rattle.std.proofs.Common.{inr, codes, arith, rules}
use Rattle.transcode_words.proofs.Short.{of_syntax, of_schema, of_link, of_document, of_validity, of_bits, of_octets, of_module, of_record, of_number, of_place}
use Rattle.transcode_words.proofs.outcome.Outcome.parts.Goals as goal

pub returns-in-SchemaSyntax-clause-short : goal.returns-in-SchemaSyntax-clause-short
returns-in-SchemaSyntax-clause-short c = rw c.in-SchemaSyntax.is (inr (of_syntax c.in-SchemaSyntax.file c.in-SchemaSyntax.at c.in-SchemaSyntax.why (search rules) (search rules)))

pub returns-in-SchemaFault-clause-short : goal.returns-in-SchemaFault-clause-short
returns-in-SchemaFault-clause-short c = rw c.in-SchemaFault.is (inr (of_schema c.in-SchemaFault.file c.in-SchemaFault.at c.in-SchemaFault.why (search rules) (search rules)))

pub returns-in-LinkFault-clause-short : goal.returns-in-LinkFault-clause-short
returns-in-LinkFault-clause-short c = rw c.in-LinkFault.is (inr (of_link c.in-LinkFault.file c.in-LinkFault.at c.in-LinkFault.why (search rules) (search rules)))

pub returns-in-DocSyntax-clause-short : goal.returns-in-DocSyntax-clause-short
returns-in-DocSyntax-clause-short c = rw c.in-DocSyntax.is (inr (of_document c.in-DocSyntax.at c.in-DocSyntax.why (search rules)))

pub returns-in-Invalid-clause-short : goal.returns-in-Invalid-clause-short
returns-in-Invalid-clause-short c = rw c.in-Invalid.is (inr (of_validity c.in-Invalid.at c.in-Invalid.why (search rules)))

pub returns-in-DerFault-clause-short : goal.returns-in-DerFault-clause-short
returns-in-DerFault-clause-short c = rw c.in-DerFault.is (inr (of_octets c.in-DerFault.at c.in-DerFault.why (search rules)))

pub returns-in-ModuleFault-clause-short : goal.returns-in-ModuleFault-clause-short
returns-in-ModuleFault-clause-short c = rw c.in-ModuleFault.is (inr (of_module c.in-ModuleFault.at c.in-ModuleFault.why (search rules)))

pub returns-in-PerFault-clause-short : goal.returns-in-PerFault-clause-short
returns-in-PerFault-clause-short c = rw c.in-PerFault.is (inr (of_bits c.in-PerFault.bit c.in-PerFault.why (search rules)))

pub returns-in-RecordFault-clause-short : goal.returns-in-RecordFault-clause-short
returns-in-RecordFault-clause-short c = rw c.in-RecordFault.is (inr (of_record c.in-RecordFault.number c.in-RecordFault.bit c.in-RecordFault.why (search rules) (search rules)))

pub returns-in-Trailing-clause-short : goal.returns-in-Trailing-clause-short
returns-in-Trailing-clause-short c = rw c.in-Trailing.is (inr (of_number c.in-Trailing.at (codes "input, byte ") (codes ": trailing\n") (search rules) (omega arith) (omega arith)))

pub returns-in-TooManyNodes-clause-short : goal.returns-in-TooManyNodes-clause-short
returns-in-TooManyNodes-clause-short c = rw c.in-TooManyNodes.is (inr (of_number c.in-TooManyNodes.count (codes "value of ") (codes " nodes: too many\n") (search rules) (omega arith) (omega arith)))

pub returns-in-LoadFault-clause-short : goal.returns-in-LoadFault-clause-short
returns-in-LoadFault-clause-short c = rw c.in-LoadFault.is (inr (of_number c.in-LoadFault.file (codes "file ") (codes ": load failed\n") (search rules) (omega arith) (omega arith)))

pub returns-in-TooLong-clause-short : goal.returns-in-TooLong-clause-short
returns-in-TooLong-clause-short c = rw c.in-TooLong.is (inr (of_place c.in-TooLong.file (search rules)))
