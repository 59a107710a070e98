use Rattle.std.proofs.Common.{length, ap, sym, subst}
use Rattle.std.proofs.lemmas.Result.{err_from_is_err_and}
use Rattle.base_trees.specs.Rose.{Rose}
use Rattle.xml_items.specs.declared.label.ItemLabel.{ItemLabel}
use Rattle.xml_read.specs.Tokens.{tokens, Ascend}
use Rattle.xml_read.specs.Documents.{DocOf}
use Rattle.xml_read.proofs.Read.{root_read}
use Rattle.xml_read.proofs.Places.{doc_ascends}
use Rattle.xml_read.proofs.reader.read_utf8.Goals as goal

pub finish-requires-clause-closed : goal.finish-requires-clause-closed
finish-requires-clause-closed c = c.in_ok-read_pieces.ensures.ok.closed

pub finish-requires-clause-one : goal.finish-requires-clause-one
finish-requires-clause-one c = ap length c.in_ok-read_pieces.ensures.ok.kids

pub seal-requires : goal.seal-requires
seal-requires c = (root_read c.args.bytes.now c.read_pieces.new.builder c.finish.result c.in_ok-read_pieces.ensures.ok c.finish.ensures).items

pub returns-in_err-read_pieces-clause-err : goal.returns-in_err-read_pieces-clause-err
returns-in_err-read_pieces-clause-err c =
    let p = err_from_is_err_and c.from_residual-in_err-read_pieces.result c.from_residual-in_err-read_pieces.ensures.1 in
    rw (p.1, p.2) c.in_err-read_pieces.ensures.err

pub returns-clause-ok : goal.returns-clause-ok
returns-clause-ok c = subst (DocOf c.args.bytes.now) (sym c.seal.ensures) (root_read c.args.bytes.now c.read_pieces.new.builder c.finish.result c.in_ok-read_pieces.ensures.ok c.finish.ensures).doc

pub returns-clause-places : goal.returns-clause-places
returns-clause-places c = subst (λ (t : Rose ItemLabel). Ascend 0 16777216 (tokens t)) (sym c.seal.ensures) (doc_ascends c.args.bytes.now c.finish.result c.requires.short (root_read c.args.bytes.now c.read_pieces.new.builder c.finish.result c.in_ok-read_pieces.ensures.ok c.finish.ensures).doc)
