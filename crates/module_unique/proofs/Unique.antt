-- No two printable modules print alike.
use Rattle.std.proofs.Common.{◌≡◌, List, map, refl, sym, ap, ◌∙◌}
use Rattle.asn_types.specs.declared.modules.Assignment.{Assignment}
use Rattle.module_print.specs.Printed.{printed}
use Rattle.module_grammar.specs.Verdicts.{Read}
use Rattle.module_text.specs.declared.modules.PlainAssignment.{PlainAssignment}
use Rattle.module_text.specs.Depth.{too_deep}
use Rattle.module_text.specs.Grammar.{IsTextOf}
use Rattle.module_text.specs.Places.{placed}
use Rattle.module_text.specs.Plain.{limit}
use Rattle.module_text.proofs.Placing.{text_of-placed}
use Rattle.module_text.specs.Printable.{IsPrintable}
use Rattle.module_grammar.specs.ModulesRead.{module_verdict}
use Rattle.module_grammar.specs.TextsRead.{AllTextsRead}
use Rattle.module_grammar.proofs.PlacedAgain.{placed_here}
use Rattle.module_unique.specs.Alike.{IsOfOctets, PrintsDiffer}
use Rattle.module_unique.proofs.Telling.{module_told}
use Rattle.module_unique.proofs.Back.{module_back, told_back}
use Rattle.module_unique.proofs.Clearing.{clear_assignment, placed_clear}
use Rattle.module_unique.proofs.Goods.{bodies}
use Rattle.module_unique.proofs.Plainness.{module_plain}
use Rattle.module_unique.proofs.Printing.{text_same_module}
use Rattle.module_unique.proofs.Shallow.{clear_shallow, module_shallow}
use Rattle.module_unique.proofs.Unplaced.{told_unplaced}

module _ (M : List Assignment) (is : IsPrintable M) (octets : IsOfOctets M) where
  pub cleared : map clear_assignment (placed (module_told M)) ≡ module_told M
  cleared = placed_clear (module_told M) ∙ told_unplaced M

  pub told_text : IsTextOf (printed M) (placed (module_told M))
  told_text =
      let all = bodies M is octets in
      let here = placed_here (module_told M) (module_plain M all) in
      record {
        plain = here.0;
        text = text_of-placed (module_told M) ∙ text_same_module M is;
        places = here.1;
        shallow = clear_shallow (placed (module_told M)) (ap too_deep cleared ∙ module_shallow M all);
      }

  back : module_back (module_told M) ≡ M
  back = told_back M is.sound.distinct (bodies M is octets)

same_text : (ms ns : List PlainAssignment) → Read ms ≡ Read ns → ms ≡ ns
same_text ms ns e = cc

pub prints_differ : AllTextsRead → PrintsDiffer
prints_differ read M N is are first second e =
    let texts = (read limit refl).texts in
    let P = module_told M in
    let Q = module_told N in
    let same : placed P ≡ placed Q = same_text (placed P) (placed Q)
    (sym ((texts (printed M) (placed P)).1 (told_text M is first)) ∙ ap (module_verdict limit) e ∙ (texts (printed N) (placed Q)).1 (told_text N are second)) in
    let told : P ≡ Q = sym (cleared M is first) ∙ ap (map clear_assignment) same ∙ cleared N are second in
    sym (back M is first) ∙ ap module_back told ∙ back N are second
