use Rattle.std.proofs.lemmas.Result.{err_from_is_err_and}
use Rattle.std.proofs.Common.{sym, ◌∙◌}
use Rattle.base_trees.specs.Rose.{node, roses_of}
use Rattle.simple_types.specs.declared.labels.ValueLabel.TheVariants as label
use Rattle.simple_types.specs.Space.{ListOf}
use Rattle.simple_types.specs.Seen.{space_of}
use Rattle.base_texts.specs.WhiteSpace.{words_of}
use Rattle.simple_types.specs.Reading.{reads, read_each}
use Rattle.value_builder.proofs.Summing.{refused, list_accepted, list_refused, list_refused_by, list_spelled}
use Rattle.value_builder.proofs.lists.keep_list.Goals as goal

pub returns-in_err-items : goal.returns-in_err-items
returns-in_err-items c =
    let p = err_from_is_err_and c.from_residual.result c.from_residual.ensures.1 in
    let item = space_of c.args.item.now in
    rw (p.1, p.2) (refused c.in_err-items.field-0.0 (read_each (reads item) (words_of c.args.text.now)) (reads (ListOf item c.args.min c.args.max) c.args.text.now)
    (list_refused_by item c.args.min c.args.max c.args.text.now) c.in_err-items.ensures)

pub returns-then-not-are_within : goal.returns-then-not-are_within
returns-then-not-are_within c =
    let known = c.in_ok-items.ensures in
    list_refused (space_of c.args.item.now) c.args.min c.args.max c.args.text.now known.0 known.1 (sym (c.are_within.ensures known.0 known.2) ∙ c.if-not-are_within.true)

pub returns : goal.returns
returns c =
    let known = c.in_ok-items.ensures in
    let within = sym (c.are_within.ensures known.0 known.2) ∙ c.if-not-are_within.false in (
      node label.SequenceOf (roses_of known.0),
      list_accepted (space_of c.args.item.now) c.args.min c.args.max c.args.text.now known.0 known.1 within,
      c.list_nodes.ensures known.0 known.2,
      c.in_ok-spelling.ensures ∙ known.3 ∙ sym (list_spelled (space_of c.args.item.now) c.args.min c.args.max known.0),
    )
