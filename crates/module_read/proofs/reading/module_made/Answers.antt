use Rattle.module_read.proofs.Answering.{few_bytes, made_module, made_tells}
use Rattle.std.proofs.Common.{◌∙◌}
use Rattle.module_read.proofs.reading.module_made.Goals as goal

pub make-requires-clause-plain : goal.make-requires-clause-plain
make-requires-clause-plain c = c.requires.text.plain

pub make-requires-clause-short : goal.make-requires-clause-short
make-requires-clause-short c = few_bytes c.args.assignments.now c.requires.short

pub of-requires : goal.of-requires
of-requires c =
    made_module c.no_fault_is_printable.ensures c.args.assignments.now c.requires.short c.requires.text c.requires.faultless
    c.in_ok-made.made.items c.in_ok-made.ensures

pub returns : goal.returns
returns c =
    made_tells c.no_fault_is_printable.ensures c.args.assignments.now c.requires.short c.requires.text c.requires.faultless
    c.of.result (c.of.ensures ∙ c.in_ok-made.ensures) c.requires.utf8
