use Rattle.module_grammar.proofs.NameLaws.{identifier_law, reference_law, signed_law, quoted_law, octets_law}
use Rattle.module_grammar.proofs.laws.names_are_read.Goals as goal

pub returns : goal.returns
returns c = record { identifiers = identifier_law; references = reference_law; numbers = signed_law; quoted = quoted_law; octets = octets_law }
