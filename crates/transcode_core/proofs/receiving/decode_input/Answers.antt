use Rattle.transcode_core.proofs.receiving.decode_input.Goals as goal

pub returns-in-Aligned-clause-taken : goal.returns-in-Aligned-clause-taken
returns-in-Aligned-clause-taken g c = rw c.in-Aligned.is c.decode_per.ensures.taken

pub returns-in-Unaligned-clause-taken : goal.returns-in-Unaligned-clause-taken
returns-in-Unaligned-clause-taken g c = rw c.in-Unaligned.is c.decode_per-in-Unaligned.ensures.taken

pub returns-in-Der-clause-taken : goal.returns-in-Der-clause-taken
returns-in-Der-clause-taken g c = rw c.in-Der.is tt
