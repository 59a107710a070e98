use Rattle.std.proofs.Common.{◌≡◌, ◌++◌, ◌∙◌, ap}
use Rattle.std.specs.List.{flat_map}
use Rattle.module_print.specs.Printed.{printed_assignment}
use Rattle.module_print.specs.declared.stripping.Within.TheVariants.{Module}
use Rattle.module_print.specs.Plain as rule
use Rattle.module_print.specs.Stripped.{stripped}
use Rattle.module_print.proofs.Plainly.{stripped_body}
use Rattle.module_print.proofs.stripping.plain_module.Goals as goal

pub returns-in_default : goal.returns-in_default
returns-in_default c = λ M e names. absurd (c.in_default.ensures (flat_map (printed_assignment M) M) e)

pub returns : goal.returns
returns c = λ M e names.
    let body : c.in-Some.body.now ≡ flat_map (printed_assignment M) M = c.in-Some.ensures (flat_map (printed_assignment M) M) e in
    let left : c.in_ok-left.left.items ≡ rule.plain_body M = c.in_ok-left.ensures ∙ ap (stripped Module) body ∙ stripped_body M names in
    c.in_ok-extend_from_slice-2.ensures.items
    ∙ ap (λ l. l ++ rule.closing)
    (c.in_ok-extend_from_slice.ensures.items ∙ ap (λ w. w ++ c.deref.result.now) c.in_ok-whole.ensures.items
    ∙ ap (λ l. rule.opening ++ l) (c.deref.ensures.value ∙ left))
