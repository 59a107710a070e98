use Rattle.std.proofs.Common.{ℕ, List, Option, sym, subst}
use Rattle.std.specs.Prelude.{OnOk}
use Rattle.value_builder.specs.Built.{Puts, with_parts}
use Rattle.value_contents.specs.Made.{Child}
use Rattle.xer_read.specs.Private.Slots.{flags_of, values_of, part_flags, part_values, Keeps}
use Rattle.xer_read.proofs.Ordered.{one-part-put}
use Rattle.xer_read.proofs.complex.put_gathered.Goals as goal

pub returns-then-not-nillable : goal.returns-then-not-nillable
returns-then-not-nillable c =
    subst
    (λ b. OnOk c.put_parts.result
    ((numbers : List ℕ) (children : List (Option Child)) → Keeps c.args.gathered numbers children
    → Puts (with_parts (part_flags b children) (part_values b children)) c.args.values.now c.put_parts.new.values)) (sym c.if-not-nillable.true) c.put_parts.ensures

pub returns : goal.returns
returns c = λ numbers children keeps.
    subst (λ b. Puts (with_parts (part_flags b children) (part_values b children)) c.args.values.now c.close.new.self) (sym c.if-not-nillable.false)
    (one-part-put (flags_of children) (values_of children) c.args.values.now c.begin_part.new.values c.put_parts-2.new.values c.close.new.self c.in_ok-begin_part.ensures
    (c.in_ok-put_parts.ensures numbers children keeps) c.close.ensures)
