use Rattle.std.proofs.Common.{Some, cond, ap, sym, ◌∙◌}
use Rattle.std.specs.Prelude.{bytes_eq}
use Rattle.indexmap.specs.IndexMap.{get}
use Rattle.module_pieces.proofs.Tables.{notes-again, notes-new}
use Rattle.module_pieces.proofs.places.note.Goals as goal

pub returns-then-contains_key : goal.returns-then-contains_key
returns-then-contains_key c =
    notes-again (get bytes_eq c.args.places.now) c.args.identifier.now c.args.i (sym c.contains_key.ensures ∙ c.if-contains_key.true)

pub returns : goal.returns
returns c =
    let old = get bytes_eq c.args.places.now in
    notes-new old c.args.identifier.now c.args.i (get bytes_eq c.insert.new.self) (sym c.contains_key.ensures ∙ c.if-contains_key.false)
    (λ r. c.in_ok-insert.ensures.updates.0 r ∙ ap (λ k. cond (bytes_eq k r) (Some c.args.i) (old r)) c.in_ok-copy.ensures)
