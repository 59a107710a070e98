use Rattle.std.proofs.Common.{◌++◌, sym, ap, ◌∙◌}
use Rattle.std.proofs.lemmas.List.{append-nil}
use Rattle.std.proofs.lemmas.Result.{on_ok_weaker}
use Rattle.map_subjects.proofs.InOrder.{nillable-entry, nillable-none}
use Rattle.map_subjects.proofs.collecting.push_nillable.Goals as goal

pub returns-then-is_marked : goal.returns-then-is_marked
returns-then-is_marked c =
    let s = c.args.set.now in
    let n = c.args.n in
    let made = c.args.made.now.items in
    on_ok_weaker c.push_named.result
    (λ added. added ∙ ap (λ m. made ++ m) (nillable-entry s n c.complex.result.now c.complex.ensures (sym (c.requires.marks n) ∙ sym c.is_marked.ensures ∙ c.if-is_marked.true)))
    c.push_named.ensures

pub returns-else-is_marked : goal.returns-else-is_marked
returns-else-is_marked c =
    let s = c.args.set.now in
    let n = c.args.n in
    let made = c.args.made.now.items in
    sym (append-nil made) ∙ ap (λ m. made ++ m) (nillable-none s n (sym (c.requires.marks n) ∙ sym c.is_marked.ensures ∙ c.if-is_marked.false))
