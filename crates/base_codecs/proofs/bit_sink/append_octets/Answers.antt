use Rattle.base_codecs.proofs.Writing.{appended_octets}
use Rattle.base_codecs.proofs.bit_sink.append_octets.Goals as goal

pub returns-clause-ok : goal.returns-clause-ok
returns-clause-ok c = appended_octets c.extend_from_slice.result _ _ c.to_be_bytes.result c.args.count c.args.number c.requires c.to_be_bytes.ensures c.extend_from_slice.ensures.items
