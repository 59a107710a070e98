use Rattle.per_decode.proofs.Origins.{is_told, contents}
use Rattle.per_decode.proofs.decoding.decode_by.Given as goal

abbrev pub ghosts-decode_from : goal.ghosts-decode_from
ghosts-decode_from g a = record { told = is_told (g.S.Source.left a.source.now); whole = contents (g.S.Source.left a.source.now); limit = a.limit; faults = g.S.Source.faults a.source.now }
