use Rattle.std.proofs.Common.{◌≡◌}
use Rattle.xml_write.specs.Written.{written}
use Rattle.xml_write.specs.ReadBack.{ReadsAs}
use Rattle.xml_write.proofs.Written.{IfOk-map, vec_short, reads_back}
use Rattle.xml_write.proofs.writing.write_document.Goals as goal

pub returns-clause-read_back : goal.returns-clause-read_back
returns-clause-read_back c =
    IfOk-map (λ text. text.items ≡ written c.root.result) (λ text. ReadsAs text.items c.args.items.now)
    (λ text is. reads_back c.root.result c.args.items.now text.items c.root.ensures.root c.root.ensures.items is (vec_short text)) c.write_root.result c.write_root.ensures
