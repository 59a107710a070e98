use Rattle.std.proofs.Common.{refl}
use Rattle.std.proofs.lemmas.Result.{IfOk-weaker}
use Rattle.transcode_core.specs.Private.Seen.{opened_seen, type_seen}
use Rattle.transcode_core.proofs.Again.{valid_text}
use Rattle.transcode_core.proofs.each.record_text.Goals as goal

pub returns-clause-back : goal.returns-clause-back
returns-clause-back c =
    IfOk-weaker c.write_value.result _ _ (λ text back. record {
      back = back;
      valid = valid_text c.documents_of_values.ensures (opened_seen c.args.opened.now) (type_seen c.args.typed.now) (c.args.opened.now.set, refl, c.requires.typed) c.args.value.now c.requires.value.0 back.items back.of_value text.items back.is_read;
    }) c.write_value.ensures.back

pub write_value-requires : goal.write_value-requires
write_value-requires c = record { typed = (c.args.opened.now.set, c.args.opened.now.root, c.requires.typed); value = c.requires.value }
