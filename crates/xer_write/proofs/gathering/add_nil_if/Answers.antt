use Rattle.std.proofs.Common.{◌≡◌, false, sym, ap, ◌∙◌}
use Rattle.std.specs.Prelude.{◌&&◌}
use Rattle.asn_types.specs.Marks.{has_use_nil}
use Rattle.asn_values.specs.Values.{is_last_absent}
use Rattle.xer_write.proofs.Gaining.{gains-no-nil}
use Rattle.xer_write.proofs.Parts.{too-many}
use Rattle.xer_write.proofs.gathering.add_nil_if.Goals.{else-has_use_nil-via-then-has_use_nil+else-is_last_absent, else-has_use_nil-via-else-has_use_nil}
use Rattle.xer_write.proofs.gathering.add_nil_if.Goals as goal

pub returns-else-has_use_nil : goal.returns-else-has_use_nil
returns-else-has_use_nil c =
    let used = has_use_nil c.args.label.now.marks in
    let absent = is_last_absent c.args.value.now in
    let nil_not : (used && absent) ≡ false =
    elim c.else-has_use_nil.branch [
      | else-has_use_nil-via-then-has_use_nil+else-is_last_absent w ↦ too-many used absent (sym w.is_last_absent.ensures ∙ w.if-is_last_absent.false)
      | else-has_use_nil-via-else-has_use_nil w ↦ ap (λ b. b && absent) (sym c.has_use_nil.ensures ∙ w.if-has_use_nil.false)
    ] in
    gains-no-nil c.args.out.now (used && absent) nil_not
