use Rattle.record_stream.proofs.records.Records.take.Given as goal

abbrev pub ghosts-decode_behind : goal.ghosts-decode_behind
ghosts-decode_behind g a = record { name = a.source.ghost_name; left = g.S.Source.left a.source.now; octet = a.octet; faults = g.S.Source.faults a.source.now }
