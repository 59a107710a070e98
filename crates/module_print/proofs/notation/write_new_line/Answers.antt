use Rattle.std.proofs.Common.{◌++◌, codes, ap, ◌∙◌, append_assoc}
use Rattle.module_print.specs.Notation.{indent}
use Rattle.module_print.proofs.Texts.{indent-more}
use Rattle.module_print.proofs.notation.write_new_line.Goals as goal

pub loop-preserved : goal.loop-preserved
loop-preserved c =
    let begun = c.push.new.self.items in
    c.in_ok-extend_from_slice.ensures.items
    ∙ ap (λ o. o ++ codes "    ") c.loop.invariant
    ∙ append_assoc begun (indent c.loop.counter) (codes "    ")
    ∙ ap (λ t. begun ++ t) (indent-more c.loop.counter)
