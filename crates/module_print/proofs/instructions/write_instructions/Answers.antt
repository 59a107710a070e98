use Rattle.module_print.specs.Instructions.{ranked, ranks}
use Rattle.module_print.proofs.Texts.{write-number}
use Rattle.module_print.proofs.instructions.write_instructions.Goals as goal

pub places-preserved : goal.places-preserved
places-preserved c =
    write-number (ranked c.args.generated.now c.args.form.now c.items-marks.result.now) c.places.out.items c.write_ranked.new.out.items _ ranks c.places.place-index
    c.places-test.true c.in_ok-write_ranked.ensures c.places.invariant
