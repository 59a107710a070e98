use Rattle.der_decode.proofs.Contents.{text_tells, text_reads, text_faults}
use Rattle.der_decode.proofs.leaves.leaf.Goals as goal

pub returns-in-Utf8-clause-text : goal.returns-in-Utf8-clause-text
returns-in-Utf8-clause-text c = text_tells c.args.form.now c.args.octets.now c.args.begin c.args.spot c.requires.inside _ _ _ c.in-Utf8.is c.text.result c.text.ensures.ok

pub returns-in-Utf8-clause-ok : goal.returns-in-Utf8-clause-ok
returns-in-Utf8-clause-ok c = text_reads c.args.form.now c.args.octets.now c.args.begin c.args.spot c.requires.inside _ _ _ c.in-Utf8.is c.text.result c.text.ensures.ok

pub returns-in-Utf8-clause-stopped : goal.returns-in-Utf8-clause-stopped
returns-in-Utf8-clause-stopped c = text_faults c.args.form.now c.args.octets.now c.args.begin c.args.spot c.requires.inside _ _ _ c.in-Utf8.is c.text.result c.text.ensures.err
